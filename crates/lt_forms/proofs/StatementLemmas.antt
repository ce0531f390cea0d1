-- Quantifiers and implications one after another, and terms opened under binders.
use Rattle.std.proofs.Common.{◌≡◌, ℕ, ◌+◌, ◌<◌, ◌≤◌, List, [], ◌∷◌, ◌++◌, length, take, get_or, Bool, true, false, if◌then◌else◌, Option, Some, None, codes, refl, sym, ◌∙◌, ap, arith, append_assoc}
use Rattle.std.proofs.lemmas.Option.{same_Some, none-some}
use Rattle.std.proofs.lemmas.List.{take_more, length-take-le}
use Rattle.std.proofs.Math.Seq.{take-length}
use Rattle.lt_definitions.specs.Types.{Chars, same_name, TypeTree}
use Rattle.lt_definitions.specs.Terms.{TermTree, free_variable, bound_name, constant, application, abstraction}
use Rattle.lt_definitions.specs.Binding.{opened}
use Rattle.lt_terms.specs.Layout.{term_size}
use Rattle.lt_transport_definitions.specs.Answers.{only_where}
use Rattle.lt_transport_definitions.specs.Forms.{implied_by}
use Rattle.lt_transport_definitions.specs.Reading.{quantified, relation_name, opened_from}
use Rattle.lt_forms.specs.Quantifiers.{quantifier, implication}

abbrev Binders : Type 0
Binders = List (Chars × TypeTree)

-- what one more binder makes of what comes behind it, and one more premise
abbrev bound_by : Chars → TypeTree → Binders × TermTree → Binders × TermTree
bound_by x ty q = ((x, ty) ∷ q.0, q.1)

abbrev premised : TermTree → List TermTree × TermTree → List TermTree × TermTree
premised p q = (p ∷ q.0, q.1)

-- a term before which nothing stands
abbrev unbound : TermTree → Binders × TermTree
unbound t = ([], t)

abbrev unimplied : TermTree → List TermTree × TermTree
unimplied t = ([], t)

pub quantified-step : (t b : TermTree) (x : Chars) (ty : TypeTree) → quantifier t ≡ Some (x, (ty, b)) → quantified t ≡ bound_by x ty (quantified b)
quantified-step (application (constant c ts) (abstraction y u d)) b x ty h = by (same_name c (codes "all")) h
  where
    by : (all : Bool) → only_where {A = Chars × (TypeTree × TermTree)} all (y, (u, d)) ≡ Some (x, (ty, b))
        → (if all then ((y, u) ∷ (quantified d).0, (quantified d).1) else ([], application (constant c ts) (abstraction y u d))) ≡ bound_by x ty (quantified b)
    by true e =
        let same : (y, (u, d)) ≡ (x, (ty, b)) = same_Some _ _ e in
        ap (λ (q : Chars × (TypeTree × TermTree)). bound_by q.0 q.1.0 (quantified q.1.1)) same
    by false e = absurd (none-some _ e)
quantified-step t b x ty h = absurd (none-some _ h)

pub quantified-end : (t : TermTree) → quantifier t ≡ None → quantified t ≡ unbound t
quantified-end (application (constant c ts) (abstraction y u d)) h = by (same_name c (codes "all")) h
  where
    by : (all : Bool) → only_where {A = Chars × (TypeTree × TermTree)} all (y, (u, d)) ≡ None
        → (if all then ((y, u) ∷ (quantified d).0, (quantified d).1) else ([], application (constant c ts) (abstraction y u d))) ≡ unbound (application (constant c ts) (abstraction y u d))
    by true e = absurd (none-some _ (sym e))
    by false e = refl
quantified-end t h = refl

pub quantified-smaller : (t b : TermTree) (x : Chars) (ty : TypeTree) → quantifier t ≡ Some (x, (ty, b)) → term_size b < term_size t
quantified-smaller (application (constant c ts) (abstraction y u d)) b x ty h = by (same_name c (codes "all")) h
  where
    by : (all : Bool) → only_where {A = Chars × (TypeTree × TermTree)} all (y, (u, d)) ≡ Some (x, (ty, b)) → term_size b < term_size (application (constant c ts) (abstraction y u d))
    by true e =
        let same : (y, (u, d)) ≡ (x, (ty, b)) = same_Some _ _ e in
        let body : d ≡ b = ap (λ (q : Chars × (TypeTree × TermTree)). q.1.1) same in
        omega (arith, ap term_size body)
    by false e = absurd (none-some _ e)
quantified-smaller t b x ty h = absurd (none-some _ h)

pub implied-step : (t p q : TermTree) → implication t ≡ Some (p, q) → implied_by t ≡ premised p (implied_by q)
implied-step (application (application (constant c ts) r) s) p q h = by (same_name c (codes "imp")) h
  where
    by : (imp : Bool) → only_where {A = TermTree × TermTree} imp (r, s) ≡ Some (p, q)
        → (if imp then (r ∷ (implied_by s).0, (implied_by s).1) else ([], application (application (constant c ts) r) s)) ≡ premised p (implied_by q)
    by true e =
        let same : (r, s) ≡ (p, q) = same_Some _ _ e in
        ap (λ (w : TermTree × TermTree). premised w.0 (implied_by w.1)) same
    by false e = absurd (none-some _ e)
implied-step t p q h = absurd (none-some _ h)

pub implied-end : (t : TermTree) → implication t ≡ None → implied_by t ≡ unimplied t
implied-end (application (application (constant c ts) r) s) h = by (same_name c (codes "imp")) h
  where
    by : (imp : Bool) → only_where {A = TermTree × TermTree} imp (r, s) ≡ None
        → (if imp then (r ∷ (implied_by s).0, (implied_by s).1) else ([], application (application (constant c ts) r) s)) ≡ unimplied (application (application (constant c ts) r) s)
    by true e = absurd (none-some _ (sym e))
    by false e = refl
implied-end t h = refl

pub implied-smaller : (t p q : TermTree) → implication t ≡ Some (p, q) → term_size q < term_size t
implied-smaller (application (application (constant c ts) r) s) p q h = by (same_name c (codes "imp")) h
  where
    by : (imp : Bool) → only_where {A = TermTree × TermTree} imp (r, s) ≡ Some (p, q) → term_size q < term_size (application (application (constant c ts) r) s)
    by true e =
        let same : (r, s) ≡ (p, q) = same_Some _ _ e in
        let right : s ≡ q = ap (λ (w : TermTree × TermTree). w.1) same in
        omega (arith, ap term_size right)
    by false e = absurd (none-some _ e)
implied-smaller t p q h = absurd (none-some _ h)

-- ---- found so far, before what is still to be read

abbrev pub quantified_behind : Binders → TermTree → Binders × TermTree
quantified_behind found t = (found ++ (quantified t).0, (quantified t).1)

pub quantified-next : (found more : Binders) (t b : TermTree) (x : Chars) (ty : TypeTree) → quantifier t ≡ Some (x, (ty, b)) → more ≡ found ++ (x, ty) ∷ []
    → quantified_behind more b ≡ quantified_behind found t
quantified-next found more t b x ty h e =
    ap (λ (bs : Binders). quantified_behind bs b) e
    ∙ (λ i. (append_assoc found ((x, ty) ∷ []) (quantified b).0 i, (quantified b).1))
    ∙ ap (λ (q : Binders × TermTree). (found ++ q.0, q.1)) (sym (quantified-step t b x ty h))

abbrev pub implied_behind : List TermTree → TermTree → List TermTree × TermTree
implied_behind found t = (found ++ (implied_by t).0, (implied_by t).1)

pub implied-next : (found more : List TermTree) (t p q : TermTree) → implication t ≡ Some (p, q) → more ≡ found ++ p ∷ []
    → implied_behind more q ≡ implied_behind found t
implied-next found more t p q h e =
    ap (λ (ps : List TermTree). implied_behind ps q) e
    ∙ (λ i. (append_assoc found (p ∷ []) (implied_by q).0 i, (implied_by q).1))
    ∙ ap (λ (w : List TermTree × TermTree). (found ++ w.0, w.1)) (sym (implied-step t p q h))

-- ---- opened under binders, from the innermost on

pub opened-last : (i : ℕ) (ps : Binders) (p : Chars × TypeTree) (t : TermTree)
    → opened_from i (ps ++ p ∷ []) t ≡ opened_from i ps (opened p.0 (free_variable (relation_name (i + length ps)) p.1) t)
opened-last i [] p t = let z : i ≡ i + 0 = omega arith in ap (λ (k : ℕ). opened p.0 (free_variable (relation_name k) p.1) t) z
opened-last i (q ∷ ps) p t =
    let k : (i + 1) + length ps ≡ i + length (q ∷ ps) = omega arith in
    ap (opened q.0 (free_variable (relation_name i) q.1))
    (opened-last (i + 1) ps p t ∙ ap (λ (n : ℕ). opened_from (i + 1) ps (opened p.0 (free_variable (relation_name n) p.1) t)) k)

pub opened-first : (ps : Binders) (at : ℕ) (t : TermTree) → at ≡ length ps → opened_from 1 (take at ps) t ≡ opened_from 1 ps t
opened-first ps at t h = ap (λ (qs : Binders). opened_from 1 qs t) (ap (λ (k : ℕ). take k ps) h ∙ take-length ps)

pub opened-next : (ps : Binders) (at before : ℕ) (p : Chars × TypeTree) (t u : TermTree) → before + 1 ≡ at → at ≤ length ps → p ≡ get_or ps before p
    → u ≡ opened p.0 (free_variable (relation_name at) p.1) t → opened_from 1 (take before ps) u ≡ opened_from 1 (take at ps) t
opened-next ps at before p t u b le g h =
    let lt : before < length ps = omega (arith, b, le) in
    let count : 1 + length (take before ps) ≡ at = omega (arith, b, length-take-le before ps (omega (arith, lt))) in
    let one : take at ps ≡ take before ps ++ p ∷ [] = ap (λ (k : ℕ). take k ps) (sym b) ∙ take_more ps before p lt ∙ ap (λ (q : Chars × TypeTree). take before ps ++ q ∷ []) (sym g) in
    ap (opened_from 1 (take before ps)) (h ∙ ap (λ (k : ℕ). opened p.0 (free_variable (relation_name k) p.1) t) (sym count))
    ∙ sym (opened-last 1 (take before ps) p t) ∙ ap (λ (qs : Binders). opened_from 1 qs t) (sym one)

pub opened-end : (ps : Binders) (at : ℕ) (t : TermTree) → at ≡ 0 → opened_from 1 (take at ps) t ≡ t
opened-end ps at t h = ap (λ (k : ℕ). opened_from 1 (take k ps) t) h
