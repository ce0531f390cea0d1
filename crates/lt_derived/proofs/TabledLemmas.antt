-- Lines by the rows of a table.
use Rattle.std.proofs.Common.{◌≡◌, ℕ, zero, suc, ◌+◌, ◌<◌, List, [], ◌∷◌, ◌++◌, length, get_or, drop, drop-cons, add-one, map, slice_get, unwrap_or, ◌≤◌, Option, Some, None, Result, Ok, Err, refl, sym, ◌∙◌, ap, subst, arith}
use Rattle.lt_definitions.specs.Terms.{TermTree, bound_name}
use Rattle.lt_definitions.specs.Types.{Chars}
use Rattle.lt_definitions.specs.Typing.{Signature, with_ok}
use Rattle.lt_definitions.specs.Rules.{Rule, line_at, with_line, with_lines, with_found}
use Rattle.lt_definitions.specs.Derivations.{rule_fault}
use Rattle.lt_definitions.specs.declared.reason.Reason.TheVariants.{MissingLine}
use Rattle.lt_nameless.specs.Nameless.{Nameless, nameless, NamelessSequent, IsWhole}
use Rattle.lt_nameless.specs.NamelessRules.{NamelessOutcome, nameless_step, nameless_fault, turned, linked, applied_both, carried_over, detached, discharged, generalised, at_one}
use Rattle.lt_hol.specs.declared.line.Line.{Line}
use Rattle.lt_kernel.specs.declared.rule_fault.RuleFault.{RuleFault}
use Rattle.lt_kernel.specs.declared.rule_fault.RuleFault.TheVariants.{Bad, Duplicate, Memory}
use Rattle.lt_kernel.specs.Lines.{rule_at}
use Rattle.lt_kernel.specs.State.{State, sequents, statements, step_of, Keeps}
use Rattle.lt_kernel.specs.Growing.{Carries}
use Rattle.lt_kernel.specs.Reaching.{IsGiven, Reaches}
use Rattle.lt_kernel.proofs.GrowingLemmas.{carries-grows, keeps-carries}
use Rattle.lt_programs.specs.Programs.{followed, AreGood}
use Rattle.lt_tables.specs.declared.rows.Row.{Row}
use Rattle.lt_tables.specs.declared.rows.Row.TheVariants.{Assume, Refl, Sym, Trans, Cong, Beta, Eqmp, ImpI, Mp, AllI, AllE, Select}
use Rattle.lt_tables.specs.Letters.{variable_name}
use Rattle.lt_tables.specs.Stacks.{term_with, type_with}
use Rattle.lt_tables.specs.Rules.{form_with, rule_of, rules_of}
use Rattle.lt_derived.specs.Tabled.{number_at, renumbered, AreLines}

-- ---- texts

abbrev unwrapped : Option TermTree → TermTree
unwrapped o = unwrap_or o (bound_name [])

pub form-some : (types text : List ℕ) (t : TermTree) → term_with types text ≡ Some t → nameless [] t ≡ form_with types text
form-some types text t e = sym (ap (λ o. nameless [] (unwrapped o)) e)

pub form-whole : (types text : List ℕ) (t : TermTree) → term_with types text ≡ Some t → IsWhole 0 (form_with types text) → IsWhole 0 (nameless [] t)
form-whole types text t e h = subst (IsWhole 0) (sym (form-some types text t e)) h

pub form-none : (types text : List ℕ) → term_with types text ≡ None → IsWhole 0 (form_with types text) → ⊥
form-none types text e h = subst (λ (o : Option TermTree). IsWhole 0 (nameless [] (unwrap_or o (bound_name [])))) e h

-- ---- places

pub line-there : (done : List NamelessSequent) (ns : List ℕ) (ss : List NamelessSequent) → AreLines done ns ss → (k : ℕ) → line_at done (number_at ns k) ≡ line_at ss k
line-there done ns ss h zero = refl
line-there done ns ss h (suc k) = there done ns ss h k
  where
    there : (done : List NamelessSequent) (ns : List ℕ) (ss : List NamelessSequent) → AreLines done ns ss → (k : ℕ) → line_at done (get_or ns k 0) ≡ slice_get ss k
    there done [] [] h zero = refl
    there done [] [] h (suc k) = refl
    there done [] (s ∷ ss) h k = absurd h
    there done (n ∷ ns) [] h k = absurd h
    there done (n ∷ ns) (s ∷ ss) h zero = h.0
    there done (n ∷ ns) (s ∷ ss) h (suc k) = there done ns ss h.1 k

as-many : (done : List NamelessSequent) (ns : List ℕ) (ss : List NamelessSequent) → AreLines done ns ss → length ns ≡ length ss
as-many done [] [] h = refl
as-many done [] (s ∷ ss) h = absurd h
as-many done (n ∷ ns) [] h = absurd h
as-many done (n ∷ ns) (s ∷ ss) h = ap suc (as-many done ns ss h.1)

lines-kept : (old new : State) (ns : List ℕ) (ss : List NamelessSequent) → Carries old new → AreLines (sequents old) ns ss → AreLines (sequents new) ns ss
lines-kept old new [] [] c h = tt
lines-kept old new [] (s ∷ ss) c h = absurd h
lines-kept old new (n ∷ ns) [] c h = absurd h
lines-kept old new (n ∷ ns) (s ∷ ss) c h = let g = carries-grows old new c in (g.lines n s h.0, lines-kept old new ns ss c h.1)

lines-more : (done : List NamelessSequent) (ns : List ℕ) (ss : List NamelessSequent) (n : ℕ) (s : NamelessSequent) → AreLines done ns ss → line_at done n ≡ Some s
    → AreLines done (ns ++ n ∷ []) (ss ++ s ∷ [])
lines-more done [] [] n s h e = (e, tt)
lines-more done [] (t ∷ ss) n s h e = absurd h
lines-more done (m ∷ ns) [] n s h e = absurd h
lines-more done (m ∷ ns) (t ∷ ss) n s h e = (h.0, lines-more done ns ss n s h.1 e)

-- a row gives over all lines what it gives over those that are numbered
module _ (sig : Signature) (named : List (Chars × Nameless)) (types : List ℕ) (done : List NamelessSequent) (ns : List ℕ) (ss : List NamelessSequent) (h : AreLines done ns ss) where
  one : (i : ℕ) (f : NamelessSequent → NamelessOutcome) → with_line done (number_at ns i) f ≡ with_line ss i f
  one i f = ap (λ o. with_found MissingLine o f) (line-there done ns ss h i)

  two : (i j : ℕ) (f : NamelessSequent → NamelessSequent → NamelessOutcome) → with_lines done (number_at ns i) (number_at ns j) f ≡ with_lines ss i j f
  two i j f = λ x. with_found MissingLine (line-there done ns ss h i x) (λ s. with_found MissingLine (line-there done ns ss h j x) (λ u. f s u))

  pub row-step : (row : Row) → nameless_step sig named done (renumbered (number_at ns) (rule_of types row)) ≡ nameless_step sig [] ss (rule_of types row)
  row-step (Assume p) = refl
  row-step (Refl t) = refl
  row-step (Sym i) = one i turned
  row-step (Trans i j) = two i j linked
  row-step (Cong i j) = two i j applied_both
  row-step (Beta t) = refl
  row-step (Eqmp i j) = two i j carried_over
  row-step (ImpI p i) = one i (discharged sig (form_with types p.now))
  row-step (Mp i j) = two i j detached
  row-step (AllI x i) = one i (generalised (variable_name x) (type_with types x))
  row-step (AllE t i) = one i (at_one sig (form_with types t.now))
  row-step (Select p) = refl

-- ---- one row after another

-- The numbered lines are those from which the rest gives what the whole gives.
pub record IsFollowing (now : State) (sig : Signature) (ns : List ℕ) (rest : List (Rule Nameless)) (whole : NamelessOutcome) : Type 0 where
  pub done : List NamelessSequent
  pub lines : AreLines (sequents now) ns done
  pub goes : whole ≡ followed sig done rest

pub following-first : (s : State) (given : ℕ) (q : NamelessSequent) (rules : List (Rule Nameless)) → line_at (sequents s) given ≡ Some q
    → IsFollowing s s.signature (given ∷ []) rules (with_line (sequents s) given (λ s'. followed s.signature (s' ∷ []) rules))
following-first s given q rules e = record {
  done = q ∷ [];
  lines = (e, tt);
  goes = ap (λ o. with_found MissingLine o (λ s'. followed s.signature (s' ∷ []) rules)) e;
}

module _ (now mid next : State) (sig : Signature) (types ns : List ℕ) (row : Row) (rest : List (Rule Nameless)) (line : Line) (whole : NamelessOutcome)
    (same : mid.signature ≡ sig) (before : Carries now mid) (after : Carries mid next)
    (rule : rule_at mid.nodes line ≡ renumbered (number_at ns) (rule_of types row)) (f : IsFollowing now sig ns (rule_of types row ∷ rest) whole) where
  step-is : step_of mid line ≡ nameless_step sig [] f.done (rule_of types row)
  step-is =
      (λ i. nameless_step (same i) (statements mid) (sequents mid) (rule i))
      ∙ row-step sig (statements mid) types (sequents mid) ns f.done (lines-kept now mid ns f.done before f.lines) row

  pub following-next : (m : ℕ) → IsGiven next m (step_of mid line) → IsFollowing next sig (ns ++ m ∷ []) rest whole
  following-next m a =
      let gives : nameless_step sig [] f.done (rule_of types row) ≡ Ok a.sequent = sym step-is ∙ a.goes in
      record {
        done = f.done ++ a.sequent ∷ [];
        lines = lines-more (sequents next) ns f.done m a.sequent (lines-kept now next ns f.done (λ first h. after first (before first h)) f.lines) a.line;
        goes = f.goes ∙ ap (λ o. with_ok o (λ s. followed sig (f.done ++ s ∷ []) rest)) gives;
      }

  pub following-fails : (e : RuleFault) → Reaches next (Err e) (step_of mid line) → Reaches next (Err e) whole
  following-fails (Bad r) a = f.goes ∙ ap (λ o. with_ok o (λ s. followed sig (f.done ++ s ∷ []) rest)) (sym step-is ∙ a)
  following-fails (Duplicate l) a = absurd a
  following-fails Memory a = tt

last-there : {A : Type 0} (xs : List A) → 0 < length xs → (x : A) × (line_at xs (length xs) ≡ Some x)
last-there [] h = absurd (omega (arith, h))
last-there (x ∷ []) h = (x, refl)
last-there (x ∷ y ∷ ys) h = last-there (y ∷ ys) (omega arith)

pub following-ends : (now : State) (sig : Signature) (ns : List ℕ) (whole : NamelessOutcome) → 0 < length ns → IsFollowing now sig ns [] whole
    → IsGiven now (number_at ns (length ns)) whole
following-ends now sig ns whole l f =
    let many = as-many (sequents now) ns f.done f.lines in
    let last = last-there f.done (omega (arith, l, many)) in
    record {
      sequent = last.0;
      line = line-there (sequents now) ns f.done f.lines (length ns) ∙ ap (line_at f.done) many ∙ last.1;
      goes = f.goes ∙ ap (λ o. with_found MissingLine o (λ s. Ok s)) last.1;
    }

-- the rows from a place on
pub rows-left : (types : List ℕ) (rows : List Row) (k : ℕ) (d : Row) → k < length rows
    → rules_of types (drop k rows) ≡ rule_of types (get_or rows k d) ∷ rules_of types (drop (k + 1) rows)
rows-left types rows k d l = ap (rules_of types) (drop-cons rows k d l ∙ ap (λ n. get_or rows k d ∷ drop n rows) (sym (add-one k)))

pub rows-end : (types : List ℕ) (rows : List Row) (k : ℕ) → length rows ≤ k → rules_of types (drop k rows) ≡ []
rows-end types rows k h = ap (rules_of types) (none rows k h)
  where
    none : (rows : List Row) (k : ℕ) → length rows ≤ k → drop k rows ≡ []
    none [] zero h = refl
    none [] (suc k) h = refl
    none (r ∷ rows) zero h = absurd (omega arith)
    none (r ∷ rows) (suc k) h = none rows k (omega arith)

good-at : (sig : Signature) (types : List ℕ) (rows : List Row) (k : ℕ) (d : Row) → AreGood sig (rules_of types rows) → k < length rows
    → rule_fault sig (nameless_fault sig) (rule_of types (get_or rows k d)) ≡ None
good-at sig types [] k d h l = absurd (omega arith)
good-at sig types (r ∷ rows) zero d h l = h.0
good-at sig types (r ∷ rows) (suc k) d h l = good-at sig types rows k d h.1 (omega arith)

pub good-now : (old now : State) (types : List ℕ) (rows : List Row) (k : ℕ) (d : Row) → Carries old now → AreGood old.signature (rules_of types rows) → k < length rows
    → rule_fault now.signature (nameless_fault now.signature) (rule_of types (get_or rows k d)) ≡ None
good-now old now types rows k d c h l =
    let g = carries-grows old now c in
    ap (λ sig. rule_fault sig (nameless_fault sig) (rule_of types (get_or rows k d))) g.stays.signature ∙ good-at old.signature types rows k d h l

module _ (old now mid next : State) (types : List ℕ) (rows : List Row) (numbers slice : List ℕ) (k : ℕ) (d : Row) (line : Line) (whole : NamelessOutcome)
    (c : Carries old now) (before : Carries now mid) (after : Carries mid next) (e : slice ≡ numbers) (l : k < length rows)
    (rule : rule_at mid.nodes line ≡ renumbered (number_at slice) (rule_of types (get_or rows k d)))
    (f : IsFollowing now old.signature numbers (rules_of types (drop k rows)) whole) where
  same-signature : mid.signature ≡ old.signature
  same-signature = let g = carries-grows old mid (λ first h. before first (c first h)) in g.stays.signature

  rule-here : rule_at mid.nodes line ≡ renumbered (number_at numbers) (rule_of types (get_or rows k d))
  rule-here = rule ∙ ap (λ ns. renumbered (number_at ns) (rule_of types (get_or rows k d))) e

  here : IsFollowing now old.signature numbers (rule_of types (get_or rows k d) ∷ rules_of types (drop (k + 1) rows)) whole
  here = subst (λ (rs : List (Rule Nameless)). IsFollowing now old.signature numbers rs whole) (rows-left types rows k d l) f

  pub row-next : (m : ℕ) → IsGiven next m (step_of mid line) → IsFollowing next old.signature (numbers ++ m ∷ []) (rules_of types (drop (k + 1) rows)) whole
  row-next m a = following-next now mid next old.signature types numbers (get_or rows k d) (rules_of types (drop (k + 1) rows)) line whole same-signature before after rule-here here m a

  pub row-fails : (x : RuleFault) → Reaches next (Err x) (step_of mid line) → Reaches next (Err x) whole
  row-fails x a = following-fails now mid next old.signature types numbers (get_or rows k d) (rules_of types (drop (k + 1) rows)) line whole same-signature before after rule-here here x a

some-more : (ns : List ℕ) (m : ℕ) → 0 < length (ns ++ m ∷ [])
some-more [] m = omega arith
some-more (n ∷ ns) m = omega arith

pub some-now : (ns more : List ℕ) (m : ℕ) → more ≡ ns ++ m ∷ [] → 0 < length more
some-now ns more m e = subst (λ (xs : List ℕ). 0 < length xs) (sym e) (some-more ns m)

pub following-now : (s : State) (sig : Signature) (ns more : List ℕ) (m : ℕ) (rest : List (Rule Nameless)) (whole : NamelessOutcome) → more ≡ ns ++ m ∷ []
    → IsFollowing s sig (ns ++ m ∷ []) rest whole → IsFollowing s sig more rest whole
following-now s sig ns more m rest whole e f = subst (λ (xs : List ℕ). IsFollowing s sig xs rest whole) (sym e) f

-- no row is left
pub rows-finish : (now : State) (sig : Signature) (types : List ℕ) (rows : List Row) (k n many : ℕ) (numbers slice : List ℕ) (whole : NamelessOutcome) → length rows ≤ k → 0 < length numbers
    → slice ≡ numbers → many ≡ length numbers → n ≡ number_at slice many → IsFollowing now sig numbers (rules_of types (drop k rows)) whole → IsGiven now n whole
rows-finish now sig types rows k n many numbers slice whole l some e d q f =
    subst (λ (x : ℕ). IsGiven now x whole) (sym (q ∙ (λ i. number_at (e i) (d i))))
    (following-ends now sig numbers whole some (subst (λ (rs : List (Rule Nameless)). IsFollowing now sig numbers rs whole) (rows-end types rows k l) f))

pub row-sound : (sig : Signature) (types : List ℕ) (row same : Row) → row ≡ same → rule_fault sig (nameless_fault sig) (rule_of types row) ≡ None
    → rule_fault sig (nameless_fault sig) (rule_of types same) ≡ None
row-sound sig types row same e h = ap (λ r. rule_fault sig (nameless_fault sig) (rule_of types r)) (sym e) ∙ h
