-- What comes of the named files' text, by what was told of it.
use Rattle.std.proofs.Common.{◌≡◌, ◌⊎◌, inl, inr, ℕ, ◌<◌, Bool, true, false, List, [], ◌∷◌, ◌++◌, length, Option, Some, refl, sym, ◌∙◌, subst, arith, append-nil, codes}
use Rattle.std.specs.Prelude.{slice_get, encode_utf8_all}
use Rattle.lt_definitions.specs.Items.{Item, Context, empty, with_item}
use Rattle.lt_definitions.specs.Theory.{Refusal, AreValid, IsPlainTheory}
use Rattle.lt_definitions.specs.Printing.{summary_lines}
use Rattle.lt_texts.specs.Files.{File, joined_text, first_past}
use Rattle.lt_texts.specs.Walks.{plain_limit}
use Rattle.lt_io.specs.Causes.{Rose}
use Rattle.lt_io.specs.Files.{Files}
use Rattle.lt_io.specs.Written.{Grew}
use Rattle.lt_walks.specs.Walks.{End, too_long, Walks}
use Rattle.lt_walks.specs.PlainWalks.{Checks}
use Rattle.lt_walks.specs.Outputs.{summary_of, check_line}
use Rattle.lt_walks.specs.Calls.{AreNamed, AreRead, CheckEnds, CheckStops}
use Rattle.lt_walks.proofs.PlainWalkLemmas.{check_within, check_too_long, texts_accept}
use Rattle.lt_transport_definitions.specs.TheoryWalks.{theory_limit}
use Rattle.lt_transport_definitions.specs.Reports.{written_of}
use Rattle.lt_session.specs.Walks.{RunRefusal, built_commands}
use Rattle.lt_session.specs.Running.{IsEnd as IsRunEnd, IsCut as IsRunCut}
use Rattle.lt_session.proofs.Fronts.{Grew-none}
use Rattle.lt_run.specs.declared.files.Joined.{Joined}
use Rattle.lt_run.specs.declared.files.Unjoined.{Unjoined}
use Rattle.lt_run.specs.declared.files.Unjoined.TheVariants as unjoined
use Rattle.lt_run.specs.Joining.{AreReadWithin, AreJoined, IsPassed, FailsToJoin}
use Rattle.lt_run.specs.Places.{IsJoinedOfSome}
use Rattle.lt_run.specs.Walked.{IsCut, IsEnd}
use Rattle.lt_run.specs.Endings.{IsTold, IsAmong}
use Rattle.lt_run.specs.Runs.{IsRunTold, RunEnds, RunStops}
use Rattle.lt_run.proofs.Joins.{names_of}

-- ---- files that were joined

all-read : (files : Option Files) (names : List (List ℕ)) (held : List File) → AreNamed files names held → AreRead files names held
all-read files names held h = record { first = names; others = []; order = sym (append-nil names); named = h; all = inl refl }

within : (most : ℕ) (files : Option Files) (names : List (List ℕ)) (held : List File) → AreNamed files names held → AreReadWithin most files names held
within most files names held h = record { first = names; others = []; order = sym (append-nil names); named = h; all = inl refl }

pub joined_some : (most : ℕ) (files : Option Files) (names : List (List ℕ)) (j : Joined) → AreJoined most files names j → 0 < length names → IsJoinedOfSome names j
joined_some most files names j h some = record { held = h.held; named = names_of files names h.held h.named; joined = h.joined; some = held-some files names h.held h.named some }
  where
    held-some : (files : Option Files) (names : List (List ℕ)) (held : List File) → AreNamed files names held → 0 < length names → 0 < length held
    held-some files [] held h some = absurd (omega (arith, some))
    held-some files (n ∷ names) [] h some = absurd h
    held-some files (n ∷ names) (f ∷ held) h some = omega arith

pub told_ends : (files : Option Files) (names : List (List ℕ)) (j : Joined) (items : List Item) (end : End Refusal) (out out' err err' : Option (List ℕ)) → AreJoined plain_limit files names j
    → IsTold names j items end out out' err err' → CheckEnds files names items end out out' err err'
unfolding CheckEnds IsEnd
told_ends files names j items end out out' err err' h t =
    let walked = t.walked in (
      h.held,
      all-read files names h.held h.named,
      subst (λ (text : List ℕ). Checks text items end) h.joined.text (check_within j.text.items items end h.short walked.0),
      texts_accept j.text.items items end walked.0,
      walked.1,
      t.line h.held (names_of files names h.held h.named) h.joined,
    )

-- the first items of a valid plain theory are one
front-valid : (items more : List Item) → IsPlainTheory (items ++ more) → IsPlainTheory items
front-valid items more h = by empty items h
  where
    by : (ctx : Context) (xs : List Item) → AreValid ctx (xs ++ more) → AreValid ctx xs
    by ctx [] v = tt
    by ctx (x ∷ xs) (e, v) = (e, by (with_item ctx x) xs v)

pub cut_stops : (files : Option Files) (names : List (List ℕ)) (j : Joined) (items : List Item) (out out' : Option (List ℕ)) → AreJoined plain_limit files names j → IsCut j.text.items items out out'
    → CheckStops files names items out out'
unfolding CheckStops IsCut
cut_stops files names j items out out' h (more, end, w, front) = (
  h.held,
  all-read files names h.held h.named,
  more,
  end,
  subst (λ (text : List ℕ). Checks text (items ++ more) end) h.joined.text (check_within j.text.items (items ++ more) end h.short w),
  front-valid items more (texts_accept j.text.items (items ++ more) end w),
  front,
)

-- nothing came of it, or it was cut short
pub front_told : {P : Type 0} (files : Option Files) (names : List (List ℕ)) (j : Joined) (items : List Item) (out out' : Option (List ℕ)) → AreJoined plain_limit files names j → P ⊎ IsCut j.text.items items out out'
    → P ⊎ CheckStops files names items out out'
front_told files names j items out out' h (inl p) = inl p
front_told files names j items out out' h (inr c) = inr (cut_stops files names j items out out' h c)

pub run_ends : (files : Option Files) (names : List (List ℕ)) (limit : ℕ) (summary : Bool) (j : Joined) (items : List Item) (end : End RunRefusal) (out out' err err' : Option (List ℕ))
    → AreJoined theory_limit files names j → IsPlainTheory items → IsRunTold limit summary names j items end out out' err err' → RunEnds files names limit summary items end out out' err err'
unfolding RunEnds IsRunEnd Walks
run_ends files names limit summary j items end out out' err err' h v t =
    let (blocks, walk, is, grew) = t.walked in (
      h.held,
      within theory_limit files names h.held h.named,
      blocks,
      subst (λ (text : List ℕ). Walks (built_commands limit) text blocks end) h.joined.text (inr (h.short, walk)),
      is,
      v,
      grew,
      t.line h.held (names_of files names h.held h.named) h.joined,
    )

run-stops : (files : Option Files) (names : List (List ℕ)) (limit : ℕ) (summary : Bool) (j : Joined) (items : List Item) (out out' : Option (List ℕ)) → AreJoined theory_limit files names j
    → IsPlainTheory items → IsRunCut limit summary j.text.items items out out' → RunStops files names limit summary items out out'
unfolding RunStops IsRunCut Walks
run-stops files names limit summary j items out out' h v (blocks, more, end, walk, is, front, short) = (
  h.held,
  within theory_limit files names h.held h.named,
  blocks,
  more,
  end,
  subst (λ (text : List ℕ). Walks (built_commands limit) text (blocks ++ more) end) h.joined.text (inr (h.short, walk)),
  is,
  v,
  front,
  short,
)

pub run_fronts : {P : Type 0} (files : Option Files) (names : List (List ℕ)) (limit : ℕ) (summary : Bool) (j : Joined) (items : List Item) (out out' : Option (List ℕ)) → AreJoined theory_limit files names j
    → IsPlainTheory items → P ⊎ IsRunCut limit summary j.text.items items out out' → P ⊎ RunStops files names limit summary items out out'
run_fronts files names limit summary j items out out' h v (inl p) = inl p
run_fronts files names limit summary j items out out' h v (inr c) = inr (run-stops files names limit summary j items out out' h v c)

-- ---- files that weren't joined

pub failed_among : (most : ℕ) (files : Option Files) (before now : ℕ) (names : List (List ℕ)) (fault : Unjoined) → FailsToJoin most files before now names fault → IsAmong names fault
failed_among most files before now names (unjoined.Fault n) h = h.0
failed_among most files before now names (unjoined.TooLong n) h = h.0
failed_among most files before now names unjoined.Memory h = tt

pub failed_read : (most : ℕ) (files : Option Files) (before now : ℕ) (names : List (List ℕ)) (fault : Unjoined) (n : ℕ) → FailsToJoin most files before now names fault → fault ≡ unjoined.Fault n → Rose before now
failed_read most files before now names fault n h e = (subst (FailsToJoin most files before now names) e h).1

pub failed_long : (most : ℕ) (files : Option Files) (before now : ℕ) (names : List (List ℕ)) (fault : Unjoined) (n : ℕ) → FailsToJoin most files before now names fault → fault ≡ unjoined.TooLong n → IsPassed most files names n
failed_long most files before now names fault n h e = (subst (FailsToJoin most files before now names) e h).1

-- ---- a text that is too long

pub passed_ends : (files : Option Files) (names : List (List ℕ)) (n : ℕ) (name : List ℕ) (items : List Item) (out err err' : Option (List ℕ)) → IsPassed plain_limit files names n → slice_get names n ≡ Some name
    → items ≡ [] → Grew err err' (name ++ codes ": TooLong\n") → CheckEnds files names items too_long out out err err'
unfolding CheckEnds check_line summary_of
passed_ends files names n name items out err err' h at none line =
    let same : Some name ≡ Some (first_past h.held plain_limit) = sym at ∙ h.name in
    let file : name ≡ first_past h.held plain_limit = cc same in (
      h.held,
      record { first = h.read.first; others = h.read.others; order = h.read.order; named = h.read.named; all = h.read.all },
      subst (λ (xs : List Item). Checks (joined_text h.held) xs too_long) (sym none) (check_too_long (joined_text h.held) h.long),
      subst (λ (xs : List Item). IsPlainTheory xs) (sym none) tt,
      subst (λ (xs : List Item). Grew out out (encode_utf8_all (summary_lines xs))) (sym none) (Grew-none out),
      subst (λ (z : List ℕ). Grew err err' (z ++ codes ": TooLong\n")) file line,
    )

written-none : (b : Bool) (o : Option (List ℕ)) → Grew o o (written_of {R = RunRefusal} b [] too_long)
unfolding summary_of
written-none true o = Grew-none o
written-none false o = Grew-none o

pub run_passed : (files : Option Files) (names : List (List ℕ)) (limit : ℕ) (summary : Bool) (n : ℕ) (name : List ℕ) (items : List Item) (out err err' : Option (List ℕ))
    → IsPassed theory_limit files names n → slice_get names n ≡ Some name → items ≡ [] → Grew err err' (name ++ codes ": TooLong\n")
    → RunEnds files names limit summary items too_long out out err err'
unfolding RunEnds Walks
run_passed files names limit summary n name items out err err' h at none line =
    let same : Some name ≡ Some (first_past h.held theory_limit) = sym at ∙ h.name in
    let file : name ≡ first_past h.held theory_limit = cc same in (
      h.held,
      h.read,
      [],
      inl (h.long, refl, refl),
      none,
      subst (λ (xs : List Item). IsPlainTheory xs) (sym none) tt,
      subst (λ (xs : List Item). Grew out out (written_of {R = RunRefusal} summary xs too_long)) (sym none) (written-none summary out),
      subst (λ (z : List ℕ). Grew err err' (z ++ codes ": TooLong\n")) file line,
    )
