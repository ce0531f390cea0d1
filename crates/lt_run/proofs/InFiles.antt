-- The file of a place in a joined text.
use Rattle.std.proofs.Common.{◌≡◌, ◌⊎◌, inl, inr, ℕ, suc, ◌+◌, ◌-◌, ◌<◌, ◌≤◌, Bool, true, false, List, [], ◌∷◌, ◌++◌, length, map, take, drop, slice_get, get_or, Option, Some, refl, sym, ◌∙◌, ap, arith, length-append, append_assoc}
use Rattle.std.specs.Prelude.{if◌then◌else◌, nat_le}
use Rattle.std.proofs.lemmas.List.{map-append, take-append-le, take_all}
use Rattle.std.proofs.lemmas.Bool.{cases_lt}
use Rattle.std.proofs.lemmas.Bool.Decides.{leb_tells}
use Rattle.std.proofs.lemmas.Option.{get_or_from_slice_get}
use Rattle.std.proofs.Math.Seq.{drop-append_seam}
use Rattle.lt_texts.specs.Files.{File, InFile, joined_text, in_file}
use Rattle.lt_run.specs.declared.files.Joined.{Joined}
use Rattle.lt_run.specs.Joining.{IsJoinedOf}
use Rattle.lt_run.specs.Places.{AreNames, IsJoinedOfSome, IsFound}
use Rattle.lt_run.proofs.Joins.{joined_parts}

-- The files before the one with a number, which begins at a place of the text; the place that is looked for is one of it or of a later one.
pub record IsAt (held : List File) (place file from : ℕ) : Type 0 where
  pub done : List File
  pub f : File
  pub rest : List File
  pub are : held ≡ done ++ f ∷ rest
  pub count : length done ≡ file
  pub begins : from ≡ length (joined_text done)
  pub within : from ≤ place
  pub same : in_file held place ≡ in_file (f ∷ rest) (place - from)

pub at_first : (held : List File) (place : ℕ) → 0 < length held → IsAt held place 0 0
at_first [] place h = absurd (omega (arith, h))
at_first (f ∷ held) place h =
    let none : place ≡ place - 0 = omega arith in
    record { done = []; f = f; rest = held; are = refl; count = refl; begins = refl; within = omega arith; same = ap (in_file (f ∷ held)) none }

-- the number of the file is below how many there are
pub at_below : (held : List File) (place file from : ℕ) → IsAt held place file from → file < length held
at_below held place file from h =
    let size : length held ≡ length h.done + length (h.f ∷ h.rest) = ap length h.are ∙ length-append h.done (h.f ∷ h.rest) in
    let count = h.count in
    omega (arith, size, count)

get-seam : {A : Type 0} (xs : List A) (y : A) (ys : List A) → slice_get (xs ++ y ∷ ys) (length xs) ≡ Some y
get-seam [] y ys = refl
get-seam (x ∷ xs) y ys = get-seam xs y ys

get-at : {A : Type 0} (v : File → A) (held : List File) (place file from : ℕ) (h : IsAt held place file from) → slice_get (map v held) file ≡ Some (v h.f)
get-at {A} v held place file from h =
    let parts : map v held ≡ map v h.done ++ v h.f ∷ map v h.rest = ap (map v) h.are ∙ map-append v h.done (h.f ∷ h.rest) in
    let number : length (map v h.done) ≡ file = length-mapped v h.done ∙ h.count in
    ap (λ (z : List A). slice_get z file) parts ∙ ap (slice_get (map v h.done ++ v h.f ∷ map v h.rest)) (sym number) ∙ get-seam (map v h.done) (v h.f) (map v h.rest)
  where
    length-mapped : (w : File → A) (xs : List File) → length (map w xs) ≡ length xs
    length-mapped w [] = refl
    length-mapped w (x ∷ xs) = ap suc (length-mapped w xs)

-- how many bytes that file has
pub at_length : (held : List File) (j : Joined) (place file from n : ℕ) (h : IsAt held place file from) → IsJoinedOf held j → slice_get j.lengths.items file ≡ Some n → n ≡ length h.f.bytes
at_length held j place file from n h k e =
    let one : Some n ≡ Some (length h.f.bytes) = sym e ∙ ap (λ (z : List ℕ). slice_get z file) k.lengths ∙ get-at (λ (g : File). length g.bytes) held place file from h in
    cc one

text-at : (held : List File) (j : Joined) (place file from : ℕ) (h : IsAt held place file from) → IsJoinedOf held j
    → j.text.items ≡ joined_text h.done ++ (h.f.bytes ++ 10 ∷ joined_text h.rest)
text-at held j place file from h k = k.text ∙ ap joined_text h.are ∙ joined_parts h.done (h.f ∷ h.rest)

-- that file ends in the text
pub at_inside : (held : List File) (j : Joined) (place file from : ℕ) (h : IsAt held place file from) → IsJoinedOf held j → from + length h.f.bytes < length j.text.items
at_inside held j place file from h k =
    let whole = ap length (text-at held j place file from h k) in
    let parts = length-append (joined_text h.done) (h.f.bytes ++ 10 ∷ joined_text h.rest) in
    let inner = length-append h.f.bytes (10 ∷ joined_text h.rest) in
    let begins = h.begins in
    omega (arith, whole, parts, inner, begins)

chosen-by : (f : File) (files : List File) (place : ℕ) (y : Bool) → Option InFile
chosen-by f files place y = if y then Some (record { name = f.name; before = take place f.bytes }) else in_file files (place - (length f.bytes + 1))

pub later-file : (f g : File) (files : List File) (place : ℕ) → length f.bytes < place → in_file (f ∷ g ∷ files) place ≡ in_file (g ∷ files) (place - (length f.bytes + 1))
unfolding chosen-by
later-file f g files place h = by (leb_tells place (length f.bytes))
  where
    by : ((nat_le place (length f.bytes) ≡ true) × (place ≤ length f.bytes)) ⊎ ((nat_le place (length f.bytes) ≡ false) × (length f.bytes < place))
        → in_file (f ∷ g ∷ files) place ≡ in_file (g ∷ files) (place - (length f.bytes + 1))
    by (inl (e, k)) = absurd (omega (arith, h, k))
    by (inr (e, k)) = ap (chosen-by f (g ∷ files) place) e

pub this-file : (f : File) (rest : List File) (place : ℕ) → (rest ≡ []) ⊎ (place ≤ length f.bytes) → in_file (f ∷ rest) place ≡ Some (record { name = f.name; before = take place f.bytes })
unfolding chosen-by
this-file f [] place h = refl
this-file f (g ∷ rest) place (inl e) = absurd (cc e)
this-file f (g ∷ rest) place (inr h) = by (leb_tells place (length f.bytes))
  where
    by : ((nat_le place (length f.bytes) ≡ true) × (place ≤ length f.bytes)) ⊎ ((nat_le place (length f.bytes) ≡ false) × (length f.bytes < place))
        → in_file (f ∷ g ∷ rest) place ≡ Some (record { name = f.name; before = take place f.bytes })
    by (inl (e, k)) = ap (chosen-by f (g ∷ rest) place) e
    by (inr (e, k)) = absurd (omega (arith, h, k))

-- the place is in a later file
pub at_next : (held : List File) (place file from n : ℕ) (h : IsAt held place file from) → n ≡ length h.f.bytes → file + 1 < length held → from + n < place → IsAt held place (file + 1) (from + (n + 1))
at_next held place file from n h e more past = by h.rest refl
  where
    by : (rest : List File) → h.rest ≡ rest → IsAt held place (file + 1) (from + (n + 1))
    by [] none =
        let size : length held ≡ length h.done + length (h.f ∷ h.rest) = ap length h.are ∙ length-append h.done (h.f ∷ h.rest) in
        let last = ap length none in
        let count = h.count in
        absurd (omega (arith, size, last, count, more))
    by (g ∷ rest) are =
        let begins = h.begins in
        let size = length-append (joined_text h.done) (joined_text (h.f ∷ [])) in
        let inner = length-append h.f.bytes (10 ∷ []) in
        let number : place - from - (length h.f.bytes + 1) ≡ place - (from + (n + 1)) = omega (arith, e, past) in
        let passed : length h.f.bytes < place - from = omega (arith, e, past) in
        record {
          done = h.done ++ h.f ∷ [];
          f = g;
          rest = rest;
          are = h.are ∙ ap (λ (z : List File). h.done ++ h.f ∷ z) are ∙ sym (append_assoc h.done (h.f ∷ []) (g ∷ rest));
          count = length-append h.done (h.f ∷ []) ∙ ap (λ (z : ℕ). z + 1) h.count;
          begins = sym (ap length (joined_parts h.done (h.f ∷ [])) ∙ size ∙ omega (arith, begins, inner, e));
          within = omega (arith, past);
          same = h.same ∙ ap (λ (z : List File). in_file (h.f ∷ z) (place - from)) are ∙ later-file h.f g rest (place - from) passed ∙ ap (in_file (g ∷ rest)) number;
        }

front-bytes : (held : List File) (j : Joined) (place file from k : ℕ) (h : IsAt held place file from) → IsJoinedOf held j → k ≤ length h.f.bytes → take k (drop from j.text.items) ≡ take k h.f.bytes
front-bytes held j place file from k h joined le =
    ap (λ (z : List ℕ). take k (drop from z)) (text-at held j place file from h joined)
    ∙ ap (λ (z : ℕ). take k (drop z (joined_text h.done ++ (h.f.bytes ++ 10 ∷ joined_text h.rest)))) h.begins
    ∙ ap (take k) (drop-append_seam (joined_text h.done) (h.f.bytes ++ 10 ∷ joined_text h.rest))
    ∙ take-append-le k h.f.bytes (10 ∷ joined_text h.rest) le

-- the place is in this file, or the file is the last: what stands before it is a front of its bytes
pub at_found : (held : List File) (names : List (List ℕ)) (j : Joined) (place file from k : ℕ) (h : IsAt held place file from) → AreNames names held → IsJoinedOf held j
    → (length held ≤ file + 1) ⊎ (place ≤ from + length h.f.bytes) → (k ≤ place - from) × (k ≤ length h.f.bytes) × ((k ≡ place - from) ⊎ (k ≡ length h.f.bytes))
    → (p : InFile) → in_file held place ≡ Some p → (slice_get names file ≡ Some p.name) × (take k (drop from j.text.items) ≡ p.before)
at_found held names j place file from k h are joined here (le, most, one) p is =
    let this : in_file held place ≡ Some (record { name = h.f.name; before = take (place - from) h.f.bytes }) = h.same ∙ this-file h.f h.rest (place - from) (last-or here) in
    let same : p ≡ record { name = h.f.name; before = take (place - from) h.f.bytes } = some-inj (sym is ∙ this) in (
      ap (λ (z : List (List ℕ)). slice_get z file) are ∙ get-at (λ (g : File). g.name) held place file from h ∙ ap (λ (z : InFile). Some z.name) (sym same),
      front-bytes held j place file from k h joined most ∙ fronts one ∙ ap (λ (z : InFile). z.before) (sym same),
    )
  where
    some-inj : {A : Type 0} {x y : A} → Some x ≡ Some y → x ≡ y
    some-inj e = cc e

    last-or : (length held ≤ file + 1) ⊎ (place ≤ from + length h.f.bytes) → (h.rest ≡ []) ⊎ (place - from ≤ length h.f.bytes)
    last-or (inr low) = inr (omega (arith, low))
    last-or (inl few) =
        let size : length held ≡ length h.done + length (h.f ∷ h.rest) = ap length h.are ∙ length-append h.done (h.f ∷ h.rest) in
        let count = h.count in
        inl (none-of h.rest (omega (arith, size, count, few)))
      where
        none-of : (xs : List File) → length xs ≤ 0 → xs ≡ []
        none-of [] z = refl
        none-of (x ∷ xs) z = absurd (omega (arith, z))

    fronts : (k ≡ place - from) ⊎ (k ≡ length h.f.bytes) → take k h.f.bytes ≡ take (place - from) h.f.bytes
    fronts (inl e) = ap (λ (z : ℕ). take z h.f.bytes) e
    fronts (inr e) = take_all k h.f.bytes (omega (arith, e)) ∙ sym (take_all (place - from) h.f.bytes (omega (arith, e, le)))

-- ---- as the walk over the files has it

length-mapped : {A : Type 0} (v : File → A) (xs : List File) → length (map v xs) ≡ length xs
length-mapped v [] = refl
length-mapped v (x ∷ xs) = ap suc (length-mapped v xs)

pub lengths_many : (held : List File) (j : Joined) → IsJoinedOf held j → length j.lengths.items ≡ length held
lengths_many held j k = ap length k.lengths ∙ length-mapped (λ (g : File). length g.bytes) held

pub at_index : (held : List File) (j : Joined) (place file from n : ℕ) (h : IsAt held place file from) → IsJoinedOf held j → n ≡ get_or j.lengths.items file n → n ≡ length h.f.bytes
at_index held j place file from n h k e =
    e ∙ get_or_from_slice_get j.lengths.items file (length h.f.bytes) n (ap (λ (z : List ℕ). slice_get z file) k.lengths ∙ get-at (λ (g : File). length g.bytes) held place file from h)

one-of : (a b k : ℕ) → (b < a → k ≡ b) → (a ≤ b → k ≡ a) → (k ≡ a) ⊎ (k ≡ b)
one-of a b k f g = by (cases_lt b a)
  where
    by : (b < a) ⊎ (a ≤ b) → (k ≡ a) ⊎ (k ≡ b)
    by (inl l) = inr (f l)
    by (inr l) = inl (g l)

-- the last file, or one that the place is in
abbrev pub IsHere : Joined → (place file from : ℕ) → Type 0
IsHere j place file from = (length j.lengths.items ≤ file + 1) ⊎ ((n : ℕ) × (n ≡ get_or j.lengths.items file n) × (place ≤ from + n))

here-by : (held : List File) (j : Joined) (place file from : ℕ) (h : IsAt held place file from) → IsJoinedOf held j → IsHere j place file from
    → (length held ≤ file + 1) ⊎ (place ≤ from + length h.f.bytes)
here-by held j place file from h k (inl few) = let many = lengths_many held j k in inl (omega (arith, few, many))
here-by held j place file from h k (inr (n, e, low)) = let size = at_index held j place file from n h k e in inr (omega (arith, size, low))

pub found_by : (names : List (List ℕ)) (j : Joined) (place file from n k : ℕ) → IsJoinedOfSome names j → ((held : List File) → AreNames names held → IsJoinedOf held j → IsAt held place file from)
    → n ≡ get_or j.lengths.items file n → k ≤ place - from → k ≤ n → (n < place - from → k ≡ n) → (place - from ≤ n → k ≡ place - from) → IsHere j place file from
    → IsFound names j place (record { file = file; from = from; to = from + k })
found_by names j place file from n k some at e le most one other here =
    let h = at some.held some.named some.joined in
    let below = at_below some.held place file from h in
    let many : length names ≡ length some.held = ap length some.named ∙ length-mapped (λ (g : File). g.name) some.held in
    let inside = at_inside some.held j place file from h some.joined in
    let size = at_index some.held j place file from n h some.joined e in
    let taken : from + k - from ≡ k = omega arith in
    record {
      file = omega (arith, below, many);
      from = omega arith;
      to = omega (arith, inside, size, most);
      found = λ held are joined p is.
          let g = at held are joined in
          let bytes = at_index held j place file from n g joined e in
          let f = at_found held names j place file from k g are joined (here-by held j place file from g joined here) (le, omega (arith, most, bytes), whole (one-of (place - from) n k one other) bytes) p is in
          (f.0, ap (λ (z : ℕ). take z (drop from j.text.items)) taken ∙ f.1);
    }
  where
    whole : {a b : ℕ} → (k ≡ a) ⊎ (k ≡ n) → n ≡ b → (k ≡ a) ⊎ (k ≡ b)
    whole (inl x) y = inl x
    whole (inr x) y = inr (x ∙ y)
