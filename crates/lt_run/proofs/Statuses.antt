-- What a status says of a joined text.
use Rattle.std.proofs.Common.{◌≡◌, ◌≢◌, ◌⊎◌, inl, inr, ℕ, List, [], Bool, Option, Result, Ok, Err, refl, sym, ◌∙◌, ap, subst, arith, append-nil}
use Rattle.std.specs.Prelude.{true, false, codes, encode_utf8_all, IsErrOf}
use Rattle.std.specs.List.{flat_map}
use Rattle.std.proofs.lemmas.Str.{encodes-append}
use Rattle.lt_definitions.specs.Items.{Item}
use Rattle.lt_definitions.specs.Theory.{Refusal}
use Rattle.lt_definitions.specs.Printing.{printed_item, report}
use Rattle.lt_texts.specs.Files.{File}
use Rattle.lt_io.specs.Causes.{Rose}
use Rattle.lt_io.specs.Written.{Grew, GrewByFront}
use Rattle.lt_walks.specs.Walks.{End, accepted, too_long, wrong_header, unread, refused, WalksText}
use Rattle.lt_walks.specs.PlainWalks.{ChecksText}
use Rattle.lt_walks.specs.Outputs.{summary_of, check_line}
use Rattle.lt_transport_definitions.specs.TheoryWalks.{items_of_blocks}
use Rattle.lt_transport_definitions.specs.Reports.{written_of}
use Rattle.lt_commands.specs.declared.refusal.Placed.{Placed}
use Rattle.lt_plain.specs.Telling.{TellsEnd}
use Rattle.lt_session.specs.declared.running.Stop.{Stop}
use Rattle.lt_session.specs.declared.running.Stop.TheVariants as stops
use Rattle.lt_session.specs.Walks.{RunRefusal, built_commands}
use Rattle.lt_session.specs.Stepping.{TellsEnd as TellsRunEnd}
use Rattle.lt_session.specs.Running.{written_so_far, CutByCause, IsRun, IsEnd as IsRunEnd, IsCut as IsRunCut}
use Rattle.lt_session.proofs.Fronts.{front_all, front_none}
use Rattle.lt_run.specs.declared.files.Joined.{Joined}
use Rattle.lt_run.specs.Joining.{IsJoinedOf}
use Rattle.lt_run.specs.Places.{AreNames, placed_line}
use Rattle.lt_run.specs.Walked.{IsCut, IsEnd, IsWalked}
use Rattle.lt_run.specs.Endings.{IsTold, TellsWalk}
use Rattle.lt_run.specs.Runs.{IsRunTold}
use Rattle.lt_run.proofs.Lines.{line_told, run_told}

-- ---- by how a walk went, in any mode

-- how a walk went: it ended so, or it was cut short
abbrev Went : {R : Type 0} → (End R → Type 0) → Type 0 → (End R → Placed → Type 0) → Result (Unit {0}) Stop → Type 0
Went E C Tells (Ok u) = E accepted
Went {R} E C Tells (Err (stops.Refused p)) = (end : End R) × E end × Tells end p
Went E C Tells (Err stops.Fault) = C
Went E C Tells (Err stops.Memory) = C

accepted-by : (R C : Type 0) (E : End R → Type 0) (Tells : End R → Placed → Type 0) (names : List (List ℕ)) (j : Joined) (walked : Result (Unit {0}) Stop) (status : ℕ) (err err' : Option (List ℕ))
    → Went E C Tells walked → TellsWalk names j walked status err err' → status ≡ 0 → E accepted × Grew err err' []
accepted-by R C E Tells names j (Ok u) status err err' w t zero' = (w, t.1)
accepted-by R C E Tells names j (Err (stops.Refused p)) status err err' w t zero' = absurd (apart t.0)
  where
    apart : (status ≡ 1) ⊎ (status ≡ 4) ⊎ (status ≡ 5) → ⊥
    apart (inl one) = omega (arith, one, zero')
    apart (inr (inl four)) = omega (arith, four, zero')
    apart (inr (inr five)) = omega (arith, five, zero')
accepted-by R C E Tells names j (Err stops.Fault) status err err' w t zero' = absurd (omega (arith, t, zero'))
accepted-by R C E Tells names j (Err stops.Memory) status err err' w t zero' = absurd (omega (arith, t, zero'))

refused-by : (R C : Type 0) (E : End R → Type 0) (Tells : End R → Placed → Type 0) (names : List (List ℕ)) (j : Joined) (walked : Result (Unit {0}) Stop) (status : ℕ) (err err' : Option (List ℕ))
    → Went E C Tells walked → TellsWalk names j walked status err err' → status ≡ 1
    → (end : End R) × (p : Placed) × E end × Tells end p × ((held : List File) → AreNames names held → IsJoinedOf held j → Grew err err' (placed_line held p))
refused-by R C E Tells names j (Ok u) status err err' w t one = absurd (omega (arith, t.0, one))
refused-by R C E Tells names j (Err (stops.Refused p)) status err err' w t one = (w.0, p, w.1, w.2, t.1 one)
refused-by R C E Tells names j (Err stops.Fault) status err err' w t one = absurd (omega (arith, t, one))
refused-by R C E Tells names j (Err stops.Memory) status err err' w t one = absurd (omega (arith, t, one))

front-by : (R C : Type 0) (E : End R → Type 0) (Tells : End R → Placed → Type 0) (names : List (List ℕ)) (j : Joined) (walked : Result (Unit {0}) Stop) (status : ℕ) (err err' : Option (List ℕ))
    → ((end : End R) → E end → C) → Went E C Tells walked → TellsWalk names j walked status err err' → (status ≡ 4) ⊎ (status ≡ 5) → C
front-by R C E Tells names j (Ok u) status err err' whole w t stopped = whole accepted w
front-by R C E Tells names j (Err (stops.Refused p)) status err err' whole w t stopped = whole w.0 w.1
front-by R C E Tells names j (Err stops.Fault) status err err' whole w t stopped = w
front-by R C E Tells names j (Err stops.Memory) status err err' whole w t stopped = w

pub status_told : (names : List (List ℕ)) (j : Joined) (walked : Result (Unit {0}) Stop) (status : ℕ) (err err' : Option (List ℕ)) → TellsWalk names j walked status err err'
    → (status ≡ 0) ⊎ (status ≡ 1) ⊎ (status ≡ 4) ⊎ (status ≡ 5)
status_told names j (Ok u) status err err' t = inl t.0
status_told names j (Err (stops.Refused p)) status err err' t = inr t.0
status_told names j (Err stops.Fault) status err err' t = inr (inr (inl t))
status_told names j (Err stops.Memory) status err err' t = inr (inr (inr t))

-- a fault that is told is one of a sink
pub fault_told : (out out' err err' : ℕ) (walked : Result (Unit {0}) Stop) → IsErrOf walked stops.Fault ⊎ Rose err err' → CutByCause out out' walked → Rose out out' ⊎ Rose err err'
fault_told out out' err err' walked (inl f) c = inl (c.fault f)
fault_told out out' err err' walked (inr r) c = inr r

tells-refusal : {R : Type 0} (Tells : End R → Placed → Type 0) (end : End R) (p : Placed) → (Tells accepted p → ⊥) → Tells end p → end ≢ accepted
tells-refusal Tells end p none h = λ same. none (subst (λ e. Tells e p) same h)

-- ---- `check`

walk-went : (text : List ℕ) (items : List Item) (out out' : Option (List ℕ)) (walked : Result (Unit {0}) Stop) → IsWalked text items out out' walked
    → Went (λ end. IsEnd text items end out out') (IsCut text items out out') TellsEnd walked
walk-went text items out out' (Ok u) w = w
walk-went text items out out' (Err (stops.Refused p)) w = w
walk-went text items out out' (Err stops.Fault) w = w
walk-went text items out out' (Err stops.Memory) w = w

pub check_accepted : (names : List (List ℕ)) (j : Joined) (text : List ℕ) (items : List Item) (out out' err err' : Option (List ℕ)) (walked : Result (Unit {0}) Stop) (status : ℕ) → text ≡ j.text.items
    → IsWalked text items out out' walked → TellsWalk names j walked status err err' → status ≡ 0 → IsTold names j items accepted out out' err err'
unfolding check_line
check_accepted names j text items out out' err err' walked status e w t zero' =
    let known = accepted-by Refusal (IsCut text items out out') (λ end. IsEnd text items end out out') TellsEnd names j walked status err err' (walk-went text items out out' walked w) t zero' in
    record { walked = subst (λ (z : List ℕ). IsEnd z items accepted out out') e known.0; line = λ held are joined. known.1 }

pub check_refused : (names : List (List ℕ)) (j : Joined) (text : List ℕ) (items : List Item) (out out' err err' : Option (List ℕ)) (walked : Result (Unit {0}) Stop) (status : ℕ) → text ≡ j.text.items
    → IsWalked text items out out' walked → TellsWalk names j walked status err err' → status ≡ 1 → (end : End Refusal) × (end ≢ accepted) × IsTold names j items end out out' err err'
check_refused names j text items out out' err err' walked status e w t one =
    let (end, p, walk, tells, line) = refused-by Refusal (IsCut text items out out') (λ end. IsEnd text items end out out') TellsEnd names j walked status err err' (walk-went text items out out' walked w) t one in (
      end,
      tells-refusal TellsEnd end p (λ none. none) tells,
      record {
        walked = subst (λ (z : List ℕ). IsEnd z items end out out') e walk;
        line = λ held are joined. subst (λ (z : List ℕ). Grew err err' z) (line_told held end p tells) (line held are joined);
      },
    )

-- all of a summary is a front of it
cut-of-end : (text : List ℕ) (items : List Item) (end : End Refusal) (a b : Option (List ℕ)) → IsEnd text items end a b → IsCut text items a b
unfolding IsCut IsEnd
cut-of-end text items end a b (w, grew) = (
  [],
  end,
  subst (λ (z : List Item). ChecksText text z end) (sym (append-nil items)) w,
  subst (λ (z : List Item). GrewByFront a b (summary_of z end)) (sym (append-nil items)) (front_all a b (summary_of items end) grew),
)

pub check_front : (names : List (List ℕ)) (j : Joined) (text : List ℕ) (items : List Item) (out out' err err' : Option (List ℕ)) (walked : Result (Unit {0}) Stop) (status : ℕ) → text ≡ j.text.items
    → IsWalked text items out out' walked → TellsWalk names j walked status err err' → (status ≡ 4) ⊎ (status ≡ 5) → IsCut j.text.items items out out'
check_front names j text items out out' err err' walked status e w t stopped =
    subst (λ (z : List ℕ). IsCut z items out out') e
    (front-by Refusal (IsCut text items out out') (λ end. IsEnd text items end out out') TellsEnd names j walked status err err' (λ end. cut-of-end text items end out out') (walk-went text items out out' walked w) t stopped)

-- ---- `run`

run-went : (limit : ℕ) (summary : Bool) (text : List ℕ) (items : List Item) (out out' : Option (List ℕ)) (walked : Result (Unit {0}) Stop) → IsRun limit summary text items out out' walked
    → Went (λ end. IsRunEnd limit summary text items end out out') (IsRunCut limit summary text items out out') TellsRunEnd walked
run-went limit summary text items out out' (Ok u) w = w
run-went limit summary text items out out' (Err (stops.Refused p)) w = w
run-went limit summary text items out out' (Err stops.Fault) w = w
run-went limit summary text items out out' (Err stops.Memory) w = w

pub run_accepted : (limit : ℕ) (summary : Bool) (names : List (List ℕ)) (j : Joined) (text : List ℕ) (items : List Item) (out out' err err' : Option (List ℕ)) (walked : Result (Unit {0}) Stop)
    (status : ℕ) → text ≡ j.text.items → IsRun limit summary text items out out' walked → TellsWalk names j walked status err err' → status ≡ 0
    → IsRunTold limit summary names j items accepted out out' err err'
run_accepted limit summary names j text items out out' err err' walked status e w t zero' =
    let known = accepted-by RunRefusal (IsRunCut limit summary text items out out') (λ end. IsRunEnd limit summary text items end out out') TellsRunEnd names j walked status err err' (run-went limit summary text items out out' walked w) t zero' in
    record { walked = subst (λ (z : List ℕ). IsRunEnd limit summary z items accepted out out') e known.0; line = λ held are joined. known.1 }

pub run_refused : (limit : ℕ) (summary : Bool) (names : List (List ℕ)) (j : Joined) (text : List ℕ) (items : List Item) (out out' err err' : Option (List ℕ)) (walked : Result (Unit {0}) Stop)
    (status : ℕ) → text ≡ j.text.items → IsRun limit summary text items out out' walked → TellsWalk names j walked status err err' → status ≡ 1
    → (end : End RunRefusal) × (end ≢ accepted) × IsRunTold limit summary names j items end out out' err err'
run_refused limit summary names j text items out out' err err' walked status e w t one =
    let (end, p, walk, tells, line) = refused-by RunRefusal (IsRunCut limit summary text items out out') (λ end. IsRunEnd limit summary text items end out out') TellsRunEnd names j walked status err err' (run-went limit summary text items out out' walked w) t one in (
      end,
      tells-refusal TellsRunEnd end p (λ none. none) tells,
      record {
        walked = subst (λ (z : List ℕ). IsRunEnd limit summary z items end out out') e walk;
        line = λ held are joined. subst (λ (z : List ℕ). Grew err err' z) (run_told held end p tells) (line held are joined);
      },
    )

-- what is written of a walk that isn't accepted is a front of what is written of its items
reported : (items : List Item) → encode_utf8_all (report items) ≡ written_so_far false items
reported items = encodes-append (codes "plain 1;\n") (flat_map printed_item items)

so-far : (summary : Bool) (items : List Item) (end : End RunRefusal) (a b : Option (List ℕ)) → Grew a b (written_of summary items end) → GrewByFront a b (written_so_far summary items) ⊎ (end ≡ accepted)
unfolding summary_of
so-far summary items accepted a b grew = inr refl
so-far true items too_long a b grew = inl (front_all a b (written_so_far true items) grew)
so-far true items (wrong_header e) a b grew = inl (front_all a b (written_so_far true items) grew)
so-far true items (unread e) a b grew = inl (front_all a b (written_so_far true items) grew)
so-far true items (refused r place) a b grew = inl (front_all a b (written_so_far true items) grew)
so-far false items too_long a b grew = inl (front_none a b (written_so_far false items) grew)
so-far false items (wrong_header e) a b grew = inl (front_none a b (written_so_far false items) grew)
so-far false items (unread e) a b grew = inl (front_all a b (written_so_far false items) (subst (λ (z : List ℕ). Grew a b z) (reported items) grew))
so-far false items (refused r place) a b grew = inl (front_all a b (written_so_far false items) (subst (λ (z : List ℕ). Grew a b z) (reported items) grew))

-- all that is written is a front of it
cut-of-run : (limit : ℕ) (summary : Bool) (text : List ℕ) (items : List Item) (end : End RunRefusal) (a b : Option (List ℕ)) → IsRunEnd limit summary text items end a b → IsRunCut limit summary text items a b
unfolding IsRunCut IsRunEnd
cut-of-run limit summary text items end a b (blocks, walk, is, grew) = (
  blocks,
  [],
  end,
  subst (λ (z : List (List Item)). WalksText (built_commands limit) text z end) (sym (append-nil blocks)) walk,
  is,
  subst (λ (z : List Item). GrewByFront a b (written_of summary z end)) (is ∙ sym (ap items_of_blocks (append-nil blocks))) (front_all a b (written_of summary items end) grew),
  by (so-far summary items end a b grew),
)
  where
    by : GrewByFront a b (written_so_far summary items) ⊎ (end ≡ accepted) → GrewByFront a b (written_so_far summary items) ⊎ ((◌≡◌ {A = List (List Item)} [] []) × (end ≡ accepted))
    by (inl front) = inl front
    by (inr all) = inr (refl, all)

pub run_front : (limit : ℕ) (summary : Bool) (names : List (List ℕ)) (j : Joined) (text : List ℕ) (items : List Item) (out out' err err' : Option (List ℕ)) (walked : Result (Unit {0}) Stop)
    (status : ℕ) → text ≡ j.text.items → IsRun limit summary text items out out' walked → TellsWalk names j walked status err err' → (status ≡ 4) ⊎ (status ≡ 5)
    → IsRunCut limit summary j.text.items items out out'
run_front limit summary names j text items out out' err err' walked status e w t stopped =
    subst (λ (z : List ℕ). IsRunCut limit summary z items out out') e
    (front-by RunRefusal (IsRunCut limit summary text items out out') (λ end. IsRunEnd limit summary text items end out out') TellsRunEnd names j walked status err err' (λ end. cut-of-run limit summary text items end out out') (run-went limit summary text items out out' walked w) t stopped)
