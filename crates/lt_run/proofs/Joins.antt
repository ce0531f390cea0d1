-- Files that are joined one after another.
use Rattle.std.proofs.Common.{◌≡◌, inr, ℕ, zero, suc, ◌+◌, ◌-◌, ◌<◌, ◌≤◌, true, false, List, [], ◌∷◌, ◌++◌, length, take, drop, slice_get, get_or, Option, Some, None, refl, sym, ◌∙◌, ap, subst, arith, length-append, append_assoc, if◌then◌else◌, nat_lt}
use Rattle.std.specs.Prelude.{IsSome}
use Rattle.std.proofs.lemmas.List.{map-append}
use Rattle.std.proofs.lemmas.Bool.{lt-ltb, le-ltb}
use Rattle.lt_texts.specs.Files.{File, joined_text, first_past}
use Rattle.lt_io.specs.Files.{Files, HoldsFile, StaysSame, StaysTold}
use Rattle.lt_walks.specs.Calls.{HoldsBytes, AreNamed}
use Rattle.lt_run.specs.declared.files.Joined.{Joined}
use Rattle.lt_run.specs.Joining.{AreIn, KeepsTold, IsJoinedOf, AreJoined, Joins, Passes, IsPassed, FailsToJoin}
use Rattle.lt_io.specs.Causes.{Rose}
use Rattle.lt_io.specs.declared.library.ReadFault.{ReadFault}
use Rattle.lt_io.specs.declared.library.ReadFault.TheVariants as faults
use Rattle.lt_run.specs.declared.files.Unjoined.{Unjoined}
use Rattle.lt_run.specs.declared.files.Unjoined.TheVariants as unjoined
use Rattle.std.proofs.lemmas.Option.{slice_get_within, slice_get_read}
use Rattle.lt_run.specs.Places.{AreNames}

-- ---- texts

pub joined_more : (held : List File) (f : File) → joined_text (held ++ f ∷ []) ≡ joined_text held ++ (f.bytes ++ 10 ∷ [])
joined_more [] f = refl
joined_more (g ∷ held) f = ap (λ (z : List ℕ). g.bytes ++ 10 ∷ z) (joined_more held f) ∙ sym (append_assoc g.bytes (10 ∷ joined_text held) (f.bytes ++ 10 ∷ []))

pub joined_parts : (done rest : List File) → joined_text (done ++ rest) ≡ joined_text done ++ joined_text rest
joined_parts [] rest = refl
joined_parts (g ∷ done) rest = ap (λ (z : List ℕ). g.bytes ++ 10 ∷ z) (joined_parts done rest) ∙ sym (append_assoc g.bytes (10 ∷ joined_text done) (joined_text rest))

lt-true : (a b : ℕ) → a < b → nat_lt a b ≡ true
lt-true a b h = lt-ltb a b h

lt-false : (a b : ℕ) → b ≤ a → nat_lt a b ≡ false
lt-false a b h = le-ltb a b h

past-by : (most : ℕ) (g : File) (rest : List File) → nat_lt most (length g.bytes + 1) ≡ false → first_past (g ∷ rest) most ≡ first_past rest (most - (length g.bytes + 1))
past-by most g rest e = ap (λ b. if b then g.name else first_past rest (most - (length g.bytes + 1))) e

-- the file with which the text becomes too long is the first with which it does
pub past_last : (held : List File) (f : File) (most : ℕ) → length (joined_text held) ≤ most → most < length (joined_text held) + (length f.bytes + 1) → first_past (held ++ f ∷ []) most ≡ f.name
past_last [] f most h k = ap (λ b. if b then f.name else first_past [] (most - (length f.bytes + 1))) (lt-true most (length f.bytes + 1) (omega (arith, k)))
past_last (g ∷ held) f most h k =
    let size : length (joined_text (g ∷ held)) ≡ length g.bytes + (length (joined_text held) + 1) = length-append g.bytes (10 ∷ joined_text held) ∙ omega arith in
    past-by most g (held ++ f ∷ []) (lt-false most (length g.bytes + 1) (omega (arith, h, size)))
    ∙ past_last held f (most - (length g.bytes + 1)) (omega (arith, h, size)) (omega (arith, h, k, size))

-- ---- names

pub named_more : (files : Option Files) (names : List (List ℕ)) (held : List File) (f : File) → AreNamed files names held → HoldsBytes files f → AreNamed files (names ++ f.name ∷ []) (held ++ f ∷ [])
named_more files [] [] f h k = (refl, k, tt)
named_more files [] (g ∷ held) f h k = absurd h
named_more files (name ∷ names) [] f h k = absurd h
named_more files (name ∷ names) (g ∷ held) f (e, b, h) k = (e, b, named_more files names held f h k)

untold : (files : Option Files) (names : List (List ℕ)) (held : List File) → AreNamed files names held → AreNamed None names held
untold files [] [] h = tt
untold files [] (g ∷ held) h = absurd h
untold files (name ∷ names) [] h = absurd h
untold files (name ∷ names) (g ∷ held) (e, b, h) = (e, tt, untold files names held h)

pub named_later : (mid now : Option Files) (names : List (List ℕ)) (held : List File) → StaysSame mid now → AreNamed mid names held → AreNamed now names held
named_later mid None names held same h = untold mid names held h
named_later mid (Some now) names held same h = subst (λ (z : Option Files). AreNamed z names held) same h

pub names_of : (files : Option Files) (names : List (List ℕ)) (held : List File) → AreNamed files names held → AreNames names held
names_of files [] [] h = refl
names_of files [] (g ∷ held) h = absurd h
names_of files (name ∷ names) [] h = absurd h
names_of files (name ∷ names) (g ∷ held) (e, b, h) = λ i. sym e i ∷ names_of files names held h i

pub same_more : (old mid now : Option Files) → StaysSame old mid → StaysSame mid now → StaysSame old now
same_more old mid None h k = tt
same_more old mid (Some now) h k = subst (λ (z : Option Files). StaysSame old z) k h

-- ---- files that stay told

in_front : (held : Files) (names more : List (List ℕ)) → AreIn held (names ++ more) → AreIn held names
in_front held [] more h = tt
in_front held (name ∷ names) more (s, h) = (s, in_front held names more h)

in_last : (held : Files) (names : List (List ℕ)) (name : List ℕ) → AreIn held (names ++ name ∷ []) → IsSome (held name)
in_last held [] name (s, h) = s
in_last held (n ∷ names) name (s, h) = in_last held names name h

pub keeps_none : (files : Option Files) → KeepsTold files files []
keeps_none None = tt
keeps_none (Some held) = λ h. refl

pub keeps_more : (old mid now : Option Files) (names : List (List ℕ)) (name : List ℕ) → KeepsTold old mid names → StaysSame old mid → StaysTold mid now name → KeepsTold old now (names ++ name ∷ [])
keeps_more None mid now names name keeps same told = tt
keeps_more (Some held) None now names name keeps same told = λ h. let lost : IsSome {T = Files} None = keeps (in_front held names (name ∷ []) h) in absurd (cc lost)
keeps_more (Some held) (Some mid) now names name keeps same told = λ h.
    let agree : held ≡ mid = cc same in
    told (subst (λ (z : Files). IsSome (z name)) agree (in_last held names name h))

pub keeps_front : (old now : Option Files) (names more : List (List ℕ)) → KeepsTold old now names → KeepsTold old now (names ++ more)
keeps_front None now names more keeps = tt
keeps_front (Some held) now names more keeps = λ h. keeps (in_front held names more h)

-- ---- the files so far

-- The first so many of the named files are joined.
pub record IsJoining (most : ℕ) (old now : Option Files) (names : List (List ℕ)) (j : Joined) : Type 0 where
  pub held : List File
  pub named : AreNamed now names held
  pub joined : IsJoinedOf held j
  pub short : length j.text.items ≤ most
  pub same : StaysSame old now
  pub told : KeepsTold old now names

same-none : (files : Option Files) → StaysSame files files
same-none None = tt
same-none (Some held) = refl

pub joining_none : (most : ℕ) (files : Option Files) (j : Joined) → j.text.items ≡ [] → j.lengths.items ≡ [] → IsJoining most files files [] j
joining_none most files j e k = record {
  held = [];
  named = tt;
  joined = record { text = e; lengths = k };
  short = omega (arith, ap length e);
  same = same-none files;
  told = keeps_none files;
}

pub joining_more : (most : ℕ) (old mid now : Option Files) (names : List (List ℕ)) (name : List ℕ) (j j' : Joined) → IsJoining most old mid names j → Joins most now name j j' → StaysSame mid now → StaysTold mid now name
    → IsJoining most old now (names ++ name ∷ []) j'
joining_more most old mid now names name j j' h k same told =
    let f : File = record { name = name; bytes = k.bytes } in
    record {
      held = h.held ++ f ∷ [];
      named = named_more now names h.held f (named_later mid now names h.held same h.named) k.holds;
      joined = record {
        text = k.text ∙ ap (λ (z : List ℕ). z ++ (k.bytes ++ 10 ∷ [])) h.joined.text ∙ sym (joined_more h.held f);
        lengths = k.lengths ∙ ap (λ (z : List ℕ). z ++ length k.bytes ∷ []) h.joined.lengths ∙ sym (map-append (λ (g : File). length g.bytes) h.held (f ∷ []));
      };
      short = k.short;
      same = same_more old mid now h.same same;
      told = keeps_more old mid now names name h.told h.same told;
    }

-- where it is too long with one more
pub joining_passes : (most : ℕ) (old mid now : Option Files) (names others : List (List ℕ)) (name : List ℕ) (j : Joined) (n : ℕ) → IsJoining most old mid names j → Passes most now name j → StaysSame mid now
    → slice_get (names ++ name ∷ others) n ≡ Some name → IsPassed most now (names ++ name ∷ others) n
joining_passes most old mid now names others name j n h k same at =
    let f : File = record { name = name; bytes = k.bytes } in
    let before : length (joined_text h.held) ≡ length j.text.items = ap length (sym h.joined.text) in
    let more : length (joined_text (h.held ++ f ∷ [])) ≡ length (joined_text h.held) + (length k.bytes + 1) =
    ap length (joined_more h.held f) ∙ length-append (joined_text h.held) (k.bytes ++ 10 ∷ []) ∙ ap (λ (z : ℕ). length (joined_text h.held) + z) (length-append k.bytes (10 ∷ [])) in
    let short = h.short in
    let long = k.long in
    record {
      held = h.held ++ f ∷ [];
      read = record {
        first = names ++ name ∷ [];
        others = others;
        order = sym (append_assoc names (name ∷ []) others);
        named = named_more now names h.held f (named_later mid now names h.held same h.named) k.holds;
        all = inr (omega (arith, before, more, long));
      };
      long = omega (arith, before, more, long);
      name = at ∙ ap Some (sym (past_last h.held f most (omega (arith, before, short)) (omega (arith, before, long))));
    }

pub joining_all : (most : ℕ) (old now : Option Files) (names : List (List ℕ)) (j : Joined) → IsJoining most old now names j → AreJoined most now names j
joining_all most old now names j h = record { held = h.held; named = h.named; joined = h.joined; short = h.short }

-- ---- one more file

pub bytes_held : (files : Option Files) (name bytes : List ℕ) → HoldsFile files name (λ f. bytes ≡ f) → HoldsBytes files (record { name = name; bytes = bytes })
bytes_held None name bytes h = tt
bytes_held (Some held) name bytes (f, e, k) = e ∙ ap Some (sym k)

-- there are more bytes than so many
long : (n : ℕ) → (text : List ℕ) × (n < length text)
long zero = (0 ∷ [], omega arith)
long (suc n) = let shorter = long n in (0 ∷ shorter.0, omega (arith, shorter.1))

pub passes_by : (most : ℕ) (files : Option Files) (name : List ℕ) (j : Joined) (room : ℕ) → room ≡ most - length j.text.items → length j.text.items ≤ most
    → HoldsFile files name (λ f. room < length f) → Passes most files name j
passes_by most None name j room e short h = let bytes = long most in record { bytes = bytes.0; holds = tt; long = omega (arith, bytes.1) }
passes_by most (Some held) name j room e short (f, is, more) = record { bytes = f; holds = is; long = omega (arith, e, short, more) }

pub passes_at : (most : ℕ) (files : Option Files) (name bytes : List ℕ) (j : Joined) (room : ℕ) → room ≡ most - length j.text.items → length j.text.items ≤ most
    → HoldsFile files name (λ f. bytes ≡ f) → length bytes ≡ room → Passes most files name j
passes_at most files name bytes j room e short h same = record { bytes = bytes; holds = bytes_held files name bytes h; long = omega (arith, e, short, same) }

pub joins_by : (most : ℕ) (files : Option Files) (name bytes : List ℕ) (j j' : Joined) (room : ℕ) → room ≡ most - length j.text.items → length j.text.items ≤ most
    → HoldsFile files name (λ f. bytes ≡ f) → length bytes < room → j'.text.items ≡ j.text.items ++ (bytes ++ 10 ∷ []) → j'.lengths.items ≡ j.lengths.items ++ length bytes ∷ [] → Joins most files name j j'
joins_by most files name bytes j j' room e short h less text lengths =
    let size = ap length text ∙ length-append j.text.items (bytes ++ 10 ∷ []) in
    let inner = length-append bytes (10 ∷ []) in
    record { bytes = bytes; holds = bytes_held files name bytes h; text = text; lengths = lengths; short = omega (arith, size, inner, e, short, less) }

-- ---- the next of the named files

split-at : (names : List (List ℕ)) (i : ℕ) (name : List ℕ) → slice_get names i ≡ Some name → names ≡ take i names ++ name ∷ drop (i + 1) names
split-at [] i name e = absurd (cc e)
split-at (n ∷ names) zero name e = let same : n ≡ name = cc e in ap (λ (z : List ℕ). z ∷ names) same
split-at (n ∷ names) (suc i) name e =
    let next : suc (i + 1) ≡ suc i + 1 = omega arith in
    ap (λ (z : List (List ℕ)). n ∷ z) (split-at names i name e) ∙ ap (λ (k : ℕ). (n ∷ take i names) ++ name ∷ drop k (n ∷ names)) next

at-seam : (names : List (List ℕ)) (i : ℕ) (name : List ℕ) → slice_get names i ≡ Some name → slice_get (take i names ++ name ∷ drop (i + 1) names) i ≡ Some name
at-seam names i name e = ap (λ (z : List (List ℕ)). slice_get z i) (sym (split-at names i name e)) ∙ e

take-next : (names : List (List ℕ)) (i : ℕ) (name : List ℕ) → slice_get names i ≡ Some name → take (i + 1) names ≡ take i names ++ name ∷ []
take-next [] i name e = absurd (cc e)
take-next (n ∷ names) zero name e = let same : n ≡ name = cc e in ap (λ (z : List ℕ). z ∷ []) same
take-next (n ∷ names) (suc i) name e =
    let next : suc i + 1 ≡ suc (i + 1) = omega arith in
    ap (λ (k : ℕ). take k (n ∷ names)) next ∙ ap (λ (z : List (List ℕ)). n ∷ z) (take-next names i name e)

pub next_joined : (most : ℕ) (old mid now : Option Files) (names : List (List ℕ)) (i : ℕ) (name : List ℕ) (j j' : Joined) → slice_get names i ≡ Some name → IsJoining most old mid (take i names) j → Joins most now name j j'
    → StaysSame mid now → StaysTold mid now name → IsJoining most old now (take (i + 1) names) j'
next_joined most old mid now names i name j j' e h k same told =
    subst (λ (z : List (List ℕ)). IsJoining most old now z j') (sym (take-next names i name e)) (joining_more most old mid now (take i names) name j j' h k same told)

pub next_told : (most : ℕ) (old mid now : Option Files) (names : List (List ℕ)) (i : ℕ) (name : List ℕ) (j : Joined) → slice_get names i ≡ Some name → IsJoining most old mid (take i names) j
    → StaysTold mid now name → KeepsTold old now names
next_told most old mid now names i name j e h told =
    let more = keeps_more old mid now (take i names) name h.told h.same told in
    let whole : names ≡ (take i names ++ name ∷ []) ++ drop (i + 1) names = split-at names i name e ∙ sym (append_assoc (take i names) (name ∷ []) (drop (i + 1) names)) in
    subst (λ (z : List (List ℕ)). KeepsTold old now z) (sym whole) (keeps_front old now (take i names ++ name ∷ []) (drop (i + 1) names) more)

next-passes : (most : ℕ) (old mid now : Option Files) (names : List (List ℕ)) (i : ℕ) (name : List ℕ) (j : Joined) → slice_get names i ≡ Some name → IsJoining most old mid (take i names) j → Passes most now name j
    → StaysSame mid now → IsPassed most now names i
next-passes most old mid now names i name j e h k same =
    subst (λ (z : List (List ℕ)). IsPassed most now z i) (sym (split-at names i name e)) (joining_passes most old mid now (take i names) (drop (i + 1) names) name j i h k same (at-seam names i name e))

earlier : (a b c : ℕ) → a ≤ b → Rose b c → Rose a c
earlier a b c h k = omega (arith, h, k)

-- why the files weren't joined
pub next_fails : (most : ℕ) (old mid now : Option Files) (first before behind : ℕ) (names : List (List ℕ)) (i : ℕ) (name : List ℕ) (j : Joined) (f : ReadFault) (u : Unjoined)
    → slice_get names i ≡ Some name → IsJoining most old mid (take i names) j → StaysSame mid now → first ≤ before → (f ≡ faults.Fault → u ≡ unjoined.Fault i) → (f ≡ faults.TooLong → u ≡ unjoined.TooLong i)
    → (f ≡ faults.Memory → u ≡ unjoined.Memory) → (f ≡ faults.Fault → Rose before behind) → (f ≡ faults.TooLong → Passes most now name j) → FailsToJoin most now first behind names u
next_fails most old mid now first before behind names i name j faults.Fault u e h same le a b c rose long =
    subst (FailsToJoin most now first behind names) (sym (a refl)) (slice_get_within names i name e, earlier first before behind le (rose refl))
next_fails most old mid now first before behind names i name j faults.TooLong u e h same le a b c rose long =
    subst (FailsToJoin most now first behind names) (sym (b refl)) (slice_get_within names i name e, next-passes most old mid now names i name j e h (long refl) same)
next_fails most old mid now first before behind names i name j faults.Memory u e h same le a b c rose long = subst (FailsToJoin most now first behind names) (sym (c refl)) tt

-- the name at a place
pub name_at : (names : List (List ℕ)) (i : ℕ) (item name : List ℕ) → i < length names → item ≡ get_or names i item → name ≡ item → slice_get names i ≡ Some name
name_at names i item name h e k = slice_get_read names (length names) i item refl h e ∙ ap Some (sym k)
