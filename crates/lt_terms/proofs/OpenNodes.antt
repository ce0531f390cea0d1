-- Opening over the nodes of a term.
use Rattle.std.proofs.Common.{◌≡◌, inl, inr, ℕ, suc, ◌+◌, ◌-◌, ◌<◌, ◌≤◌, List, [], ◌∷◌, ◌++◌, Bool, true, false, ◌&&◌, ◌||◌, not, if◌then◌else◌, length, drop, get_or, slice_get, nat_eq, Option, Some, None, refl, sym, ◌∙◌, ap, subst, arith, add-one, append_assoc, length-append}
use Rattle.std.proofs.Math.Seq.{drop-cons}
use Rattle.std.proofs.lemmas.Bool.Decides.{nat_tests}
use Rattle.lt_definitions.specs.Types.{Chars, same_name, has_name, TypeTree}
use Rattle.lt_definitions.specs.Terms.{TermTree, free_variable, bound_name, constant, application, abstraction}
use Rattle.lt_definitions.specs.Binding.{opened}
use Rattle.lt_definitions.proofs.SameNames.{true-false, bool_cases, name-true, true-name, name-false, false-name}
use Rattle.lt_nameless.proofs.BindingLemmas.{if-true, if-false}
use Rattle.lt_terms.specs.declared.term.TermNode.{TermNode}
use Rattle.lt_terms.specs.declared.term.TermNode.TheVariants.{Free, Bound, Const, App, Lam}
use Rattle.lt_terms.specs.declared.bound_names.Binder.{Binder}
use Rattle.lt_terms.specs.Layout.{under, term_size, term_nodes, HasRoom}
use Rattle.lt_terms.specs.BoundNames.{Places, further, binder_of, binders_in}
use Rattle.lt_terms.specs.Openings.{opening, is_abstraction, is_lambda, is_at, grow_open}
use Rattle.lt_terms.proofs.LayoutLemmas.{length-term_nodes, regroup}
use Rattle.lt_terms.proofs.Signs.{names, length-binders_in}

-- the nodes that are left, with their binders, make these terms of those that were made
abbrev pub Reaches : ℕ → TermTree → List TermTree → List TermNode → List (Option Binder) → List TermTree → Type 0
Reaches root by built [] [] after = built ≡ after
Reaches root by built (n ∷ ns) (b ∷ bs) after = HasRoom built n × Reaches root by (grow_open root by built n b) ns bs after
Reaches root by built _ _ after = ⊥

-- A part of the body, which an inner binder may hide from the opening.
abbrev part : Bool → Chars → TermTree → TermTree → TermTree
part hidden x by (free_variable y u) = free_variable y u
part hidden x by (bound_name y) = if hidden then bound_name y else (if same_name x y then by else bound_name y)
part hidden x by (constant c ts) = constant c ts
part hidden x by (application f a) = application (part hidden x by f) (part hidden x by a)
part hidden x by (abstraction y u b) = abstraction y u (part (same_name x y || hidden) x by b)

or-true : (a : Bool) → (a || true) ≡ true
or-true true = refl
or-true false = refl

or-false : (a : Bool) → (a || false) ≡ a
or-false true = refl
or-false false = refl

and-false : (a : Bool) → (a && false) ≡ false
and-false true = refl
and-false false = refl

part-hidden : (x : Chars) (by t : TermTree) → part true x by t ≡ t
part-hidden x by (free_variable y u) = refl
part-hidden x by (bound_name y) = refl
part-hidden x by (constant c ts) = refl
part-hidden x by (application f a) = λ i. application (part-hidden x by f i) (part-hidden x by a i)
part-hidden x by (abstraction y u b) = ap (abstraction y u) (ap (λ h. part h x by b) (or-true (same_name x y)) ∙ part-hidden x by b)

part-open : (x : Chars) (by t : TermTree) → part false x by t ≡ opened x by t
part-open x by (free_variable y u) = refl
part-open x by (bound_name y) = refl
part-open x by (constant c ts) = refl
part-open x by (application f a) = λ i. application (part-open x by f i) (part-open x by a i)
part-open x by (abstraction y u b) = ap (abstraction y u) (elim (bool_cases (same_name x y)) [
  | inl h ↦ ap (λ k. part (k || false) x by b) h ∙ part-hidden x by b ∙ sym (if-true (same_name x y) b (opened x by b) h)
  | inr h ↦ ap (λ k. part (k || false) x by b) h ∙ part-open x by b ∙ sym (if-false (same_name x y) b (opened x by b) h)
])

-- Which binder is the one at the root.

abbrev AreBelow : ℕ → Places → Type 0
AreBelow root [] = Unit {0}
AreBelow root (p ∷ ps) = (p.1 < root) × AreBelow root ps

turn : (x y : Chars) → same_name x y ≡ same_name y x
turn x y = elim (bool_cases (same_name x y)) [
  | inl h ↦ h ∙ sym (true-name y x (sym (name-true x y h)))
  | inr h ↦ h ∙ sym (false-name y x (λ q. name-false x y h (sym q)))
]

same_number : (d : ℕ) → nat_eq d d ≡ true
same_number d = grind (arith, nat_tests)

differs : (i d : ℕ) → i < d → nat_eq i d ≡ false
differs i d h = grind (arith, nat_tests)

at-further : (root : ℕ) (b : Option Binder) → is_at root (further b) ≡ is_at root b
at-further root None = refl
at-further root (Some b) = refl

-- the name is the root's, and no binder within has it
abbrev is_root : Chars → Chars → Places → Bool
is_root x y inner = not (has_name x (names inner)) && same_name x y

root-found : (x y : Chars) (root : ℕ) (inner : Places) → AreBelow root inner → is_at root (binder_of y (inner ++ (x, root) ∷ [])) ≡ is_root x y inner
root-found x y root [] below = elim (bool_cases (same_name y x)) [
  | inl h ↦ ap (is_at root) (if-true (same_name y x) (Some (record { place = root; index = 0 })) None h) ∙ same_number root ∙ sym (turn x y ∙ h)
  | inr h ↦ ap (is_at root) (if-false (same_name y x) (Some (record { place = root; index = 0 })) None h) ∙ sym (turn x y ∙ h)
]
root-found x y root (p ∷ ps) below = elim (bool_cases (same_name y p.0)) [
  | inl h ↦ ap (is_at root) (if-true (same_name y p.0) (Some (record { place = p.1; index = 0 })) (further (binder_of y (ps ++ (x, root) ∷ []))) h)
      ∙ differs p.1 root below.0 ∙ sym (other h (same_name x y) refl)
  | inr h ↦ ap (is_at root) (if-false (same_name y p.0) (Some (record { place = p.1; index = 0 })) (further (binder_of y (ps ++ (x, root) ∷ []))) h)
      ∙ at-further root (binder_of y (ps ++ (x, root) ∷ [])) ∙ root-found x y root ps below.1 ∙ sym (later h (same_name x y) refl)
]
  where
    other : same_name y p.0 ≡ true → (s : Bool) → same_name x y ≡ s → is_root x y (p ∷ ps) ≡ false
    other h true e =
        let q : same_name x p.0 ≡ true = true-name x p.0 (name-true x y e ∙ name-true y p.0 h) in
        ap (λ (k : Bool). not (k || has_name x (names ps)) && same_name x y) q
    other h false e = ap (λ (k : Bool). not (has_name x (names (p ∷ ps))) && k) e ∙ and-false (not (has_name x (names (p ∷ ps))))

    later : same_name y p.0 ≡ false → (s : Bool) → same_name x y ≡ s → is_root x y (p ∷ ps) ≡ is_root x y ps
    later h true e =
        let q : same_name x p.0 ≡ false = false-name x p.0 (λ k. name-false y p.0 h (sym (name-true x y e) ∙ k)) in
        ap (λ (k : Bool). not (k || has_name x (names ps)) && same_name x y) q
    later h false e = ap (λ (k : Bool). not (has_name x (names (p ∷ ps))) && k) e ∙ and-false (not (has_name x (names (p ∷ ps)))) ∙ sym (ap (λ (k : Bool). not (has_name x (names ps)) && k) e ∙ and-false (not (has_name x (names ps))))

chosen : (h s : Bool) (by other : TermTree) (built : List TermTree) → (if not h && s then by ∷ built else other ∷ built) ≡ (if h then other else (if s then by else other)) ∷ built
chosen true s by other built = refl
chosen false true by other built = refl
chosen false false by other built = refl

grows-bound : (x y : Chars) (by : TermTree) (root : ℕ) (inner : Places) (built : List TermTree) → AreBelow root inner
    → grow_open root by built (Bound y) (binder_of y (inner ++ (x, root) ∷ [])) ≡ part (has_name x (names inner)) x by (bound_name y) ∷ built
grows-bound x y by root inner built below =
    ap (λ (k : Bool). if k then by ∷ built else bound_name y ∷ built) (root-found x y root inner below) ∙ chosen (has_name x (names inner)) (same_name x y) by (bound_name y) built

-- A part of the body makes its opening.

moved : (root : ℕ) (by : TermTree) (built after : List TermTree) (ns ms : List TermNode) (bs cs : List (Option Binder)) → ns ≡ ms → bs ≡ cs → Reaches root by built ms cs after → Reaches root by built ns bs after
moved root by built after ns ms bs cs n b h = subst (λ (q : List TermNode × List (Option Binder)). Reaches root by built q.0 q.1 after) (λ i. (sym n i, sym b i)) h

opens : (root : ℕ) (x : Chars) (by : TermTree) (from : ℕ) (inner : Places) (t : TermTree) (built after : List TermTree) (ns : List TermNode) (bs : List (Option Binder)) → AreBelow root inner → from + under t < root
    → Reaches root by (part (has_name x (names inner)) x by t ∷ built) ns bs after → Reaches root by built (term_nodes from t ++ ns) (binders_in from (inner ++ (x, root) ∷ []) t ++ bs) after
opens root x by from inner (free_variable y u) built after ns bs below lt h = (tt, h)
opens root x by from inner (bound_name y) built after ns bs below lt h =
    (tt, subst (λ (ts : List TermTree). Reaches root by ts ns bs after) (sym (grows-bound x y by root inner built below)) h)
opens root x by from inner (constant c ts) built after ns bs below lt h = (tt, h)
opens root x by from inner (application f a) built after ns bs below lt h =
    let at : ℕ = from + (under f + 1) in
    let last : TermNode = App (from + under f) (from + (under f + 1) + under a) in
    let env : Places = inner ++ (x, root) ∷ [] in
    let left : TermTree = part (has_name x (names inner)) x by f in
    let right : TermTree = part (has_name x (names inner)) x by a in
    let two : 2 ≤ length (right ∷ left ∷ built) = omega arith in
    moved root by built after _ (term_nodes from f ++ (term_nodes at a ++ (last ∷ ns))) _ (binders_in from env f ++ (binders_in at env a ++ (None ∷ bs)))
    (regroup (term_nodes from f) (term_nodes at a) (last ∷ []) ns) (regroup (binders_in from env f) (binders_in at env a) (None ∷ []) bs)
    (opens root x by from inner f built after (term_nodes at a ++ (last ∷ ns)) (binders_in at env a ++ (None ∷ bs)) below (omega (arith, lt))
    (opens root x by at inner a (left ∷ built) after (last ∷ ns) (None ∷ bs) below (omega (arith, lt)) (two, h)))
opens root x by from inner (abstraction y u b) built after ns bs below lt h =
    let last : TermNode = Lam y u (from + under b) in
    let around : Places = (y, from + (under b + 1)) ∷ inner in
    let one : 1 ≤ length (part (has_name x (names around)) x by b ∷ built) = omega arith in
    moved root by built after _ (term_nodes from b ++ (last ∷ ns)) _ (binders_in from (around ++ (x, root) ∷ []) b ++ (None ∷ bs))
    (append_assoc (term_nodes from b) (last ∷ []) ns) (append_assoc (binders_in from (around ++ (x, root) ∷ []) b) (None ∷ []) bs)
    (opens root x by from around b built after (last ∷ ns) (None ∷ bs) (omega (arith, lt), below) (omega (arith, lt)) (one, h))

-- the abstraction with its body opened
abbrev pub around_opened : TermTree → TermTree → TermTree
around_opened by (abstraction x ty b) = abstraction x ty (opened x by b)
around_opened by t = t

pub opens-whole : (by lam : TermTree) (nodes : List TermNode) (bs : List (Option Binder)) (built : List TermTree) (root : ℕ) → is_abstraction lam ≡ true → nodes ≡ term_nodes 0 lam → bs ≡ binders_in 0 [] lam → built ≡ []
    → root ≡ length nodes - 1 → Reaches root by built (drop 0 nodes) (drop 0 bs) (around_opened by lam ∷ [])
opens-whole by (abstraction x ty b) nodes bs built root is n e empty at =
    let place : root ≡ 0 + (under b + 1) = omega (arith, at, ap length n, length-term_nodes 0 (abstraction x ty b)) in
    let last : TermNode = Lam x ty (0 + under b) in
    let one : 1 ≤ length (opened x by b ∷ []) = omega arith in
    subst (λ (ts : List TermTree). Reaches root by ts nodes bs (abstraction x ty (opened x by b) ∷ [])) (sym empty)
    (moved root by [] (abstraction x ty (opened x by b) ∷ []) nodes (term_nodes 0 b ++ (last ∷ [])) bs (binders_in 0 ((x, root) ∷ []) b ++ (None ∷ []))
    n (e ∙ ap (λ (r : ℕ). binders_in 0 ((x, r) ∷ []) b ++ None ∷ []) (sym place))
    (opens root x by 0 [] b [] (abstraction x ty (opened x by b) ∷ []) (last ∷ []) (None ∷ []) tt (omega (arith, place))
    (subst (λ (t : TermTree). Reaches root by (t ∷ []) (last ∷ []) (None ∷ []) (abstraction x ty (opened x by b) ∷ [])) (sym (part-open x by b)) (one, refl))))
opens-whole by t nodes bs built root is n e empty at = absurd (true-false (sym is))

-- at a place
next : {A : Type 0} (xs : List A) (i : ℕ) (x : A) → i < length xs → x ≡ get_or xs i x → drop i xs ≡ x ∷ drop (i + 1) xs
next xs i x h e = drop-cons xs i x h ∙ ap (λ y. y ∷ drop (suc i) xs) (sym e) ∙ ap (λ k. x ∷ drop k xs) (sym (add-one i))

pub reaches-next : (root : ℕ) (by : TermTree) (built after : List TermTree) (ns : List TermNode) (bs : List (Option Binder)) (i : ℕ) (n : TermNode) (b : Option Binder) → i < length ns → length bs ≡ length ns → n ≡ get_or ns i n → b ≡ get_or bs i b
    → Reaches root by built (drop i ns) (drop i bs) after
    → HasRoom built n × Reaches root by (grow_open root by built n b) (drop (i + 1) ns) (drop (i + 1) bs) after
reaches-next root by built after ns bs i n b h same e at r =
    moved root by built after (n ∷ drop (i + 1) ns) (drop i ns) (b ∷ drop (i + 1) bs) (drop i bs) (sym (next ns i n h e)) (sym (next bs i b (omega (arith, h, same)) at)) r

-- where the root is left, there is the opened body
opened-last : (root : ℕ) (by : TermTree) (built : List TermTree) (x : Chars) (ty : TypeTree) (i : ℕ) (t : TermTree) → Reaches root by built (Lam x ty i ∷ []) (None ∷ []) (abstraction x ty t ∷ []) → built ≡ t ∷ []
opened-last root by [] x ty i t h = absurd (omega (arith, h.0))
opened-last root by (b ∷ built) x ty i t h = let p : b ≡ t = cc in let q : built ≡ [] = cc in λ j. p j ∷ q j

drop-front : {A : Type 0} (xs ys : List A) (i : ℕ) → i ≡ length xs → drop i (xs ++ ys) ≡ ys
drop-front [] ys i e = ap (λ (k : ℕ). drop k ys) e
drop-front (x ∷ xs) ys i e = ap (λ (k : ℕ). drop k (x ∷ (xs ++ ys))) e ∙ drop-front xs ys (length xs) refl

pub opens-end : (by lam : TermTree) (nodes : List TermNode) (bs : List (Option Binder)) (built : List TermTree) (root i : ℕ) → is_abstraction lam ≡ true → nodes ≡ term_nodes 0 lam → bs ≡ binders_in 0 [] lam
    → root ≡ length nodes - 1 → root ≤ i → i ≤ root → Reaches root by built (drop i nodes) (drop i bs) (around_opened by lam ∷ []) → (t : TermTree) × (built ≡ t ∷ []) × (opening lam by ≡ Some t)
opens-end by (abstraction x ty b) nodes bs built root i is n e at down up r =
    let last : TermNode = Lam x ty (0 + under b) in
    let env : Places = (x, 0 + (under b + 1)) ∷ [] in
    let place : i ≡ under b + 1 = omega (arith, at, down, up, ap length n, length-term_nodes 0 (abstraction x ty b)) in
    let left : drop i nodes ≡ last ∷ [] = ap (drop i) n ∙ drop-front (term_nodes 0 b) (last ∷ []) i (omega (arith, place, length-term_nodes 0 b)) in
    let none : drop i bs ≡ None ∷ [] = ap (drop i) e ∙ drop-front (binders_in 0 env b) (None ∷ []) i (omega (arith, place, length-binders_in 0 env b)) in
    (opened x by b, opened-last root by built x ty (0 + under b) (opened x by b) (moved root by built (abstraction x ty (opened x by b) ∷ []) (last ∷ []) (drop i nodes) (None ∷ []) (drop i bs) (sym left) (sym none) r), refl)
opens-end by t nodes bs built root i is n e at down up r = absurd (true-false (sym is))

-- the root's node tells an abstraction

got-last : (xs : List TermNode) (n : TermNode) (i : ℕ) → i ≡ length xs → slice_get (xs ++ n ∷ []) i ≡ Some n
got-last [] n i e = ap (slice_get (n ∷ [])) e
got-last (x ∷ xs) n i e = ap (slice_get (x ∷ (xs ++ n ∷ []))) e ∙ got-last xs n (length xs) refl

kind : (xs : List TermNode) (last n : TermNode) (i : ℕ) → i ≡ length xs → slice_get (xs ++ last ∷ []) i ≡ Some n → is_lambda last ≡ is_lambda n
kind xs last n i e h = let g : Some last ≡ Some n = sym (got-last xs last i e) ∙ h in let q : last ≡ n = cc in ap is_lambda q

pub root-kind : (t : TermTree) (size i : ℕ) (n : TermNode) → size ≡ term_size t → i ≡ size - 1 → slice_get (term_nodes 0 t) i ≡ Some n → is_lambda n ≡ is_abstraction t
root-kind (free_variable x ty) size i n s e h = sym (kind [] (Free x ty) n i (omega (arith, s, e)) h)
root-kind (bound_name x) size i n s e h = sym (kind [] (Bound x) n i (omega (arith, s, e)) h)
root-kind (constant c ts) size i n s e h = sym (kind [] (Const c ts) n i (omega (arith, s, e)) h)
root-kind (application f a) size i n s e h =
    let at : ℕ = 0 + (under f + 1) in
    let last : TermNode = App (0 + under f) (0 + (under f + 1) + under a) in
    sym (kind (term_nodes 0 f ++ term_nodes at a) last n i (omega (arith, s, e, length-append (term_nodes 0 f) (term_nodes at a), length-term_nodes 0 f, length-term_nodes at a))
    (ap (λ ns. slice_get ns i) (append_assoc (term_nodes 0 f) (term_nodes at a) (last ∷ [])) ∙ h))
root-kind (abstraction x ty b) size i n s e h = sym (kind (term_nodes 0 b) (Lam x ty (0 + under b)) n i (omega (arith, s, e, length-term_nodes 0 b)) h)

pub no-opening : (lam by : TermTree) → is_abstraction lam ≡ false → opening lam by ≡ None
no-opening (abstraction x ty b) by e = absurd (true-false e)
no-opening t by e = refl

pub opened-one : (s t : TermTree) → s ∷ [] ≡ t ∷ [] → s ≡ t
opened-one s t e = cc
