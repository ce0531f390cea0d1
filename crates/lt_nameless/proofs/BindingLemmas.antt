-- Opening, closing, replacing, instances and typing of terms, and the same of their nameless forms.
use Rattle.std.proofs.Common.{◌≡◌, inl, inr, ℕ, zero, suc, ◌<◌, List, [], ◌∷◌, ◌++◌, true, false, ◌&&◌, ◌||◌, not, length, replicate, nat_eq, refl, sym, ◌∙◌, ap, subst, arith}
use Rattle.std.proofs.lemmas.Bool.Decides.{nat_tests}
use Rattle.std.proofs.lemmas.Bool.{or_parts, or_from, or_cases, or_left, or_right}
pub use Rattle.std.proofs.lemmas.Bool.{cond-true as if-true, cond-false as if-false}
use Rattle.lt_definitions.specs.Types.{Chars, same_name, has_name, TypeTree, TypeMap, same_type, type_instance}
use Rattle.lt_definitions.specs.Terms.{TermTree, free_variable, bound_name, constant, application, abstraction, has_free, has_loose, term_instance}
use Rattle.lt_definitions.specs.Binding.{opened, replaced, longest, new_binder, closed_over}
use Rattle.lt_nameless.specs.Nameless.{Nameless, nameless_free, nameless_bound, nameless_loose, nameless_application, nameless_abstraction, deeper, nameless_name, nameless}
use Rattle.lt_nameless.specs.NamelessRules.{instance_at, abstracted, nameless_replaced, nameless_instance, nameless_has_free, has_index}
use Rattle.lt_definitions.proofs.SameNames.{true-false, bool_cases, name-true, true-name, name-false, false-name, longer-differs}
use Rattle.lt_nameless.proofs.Alphas.{name-hit, name-miss, IsPlace, place}

name-turn : (x y : Chars) → same_name x y ≡ true → same_name y x ≡ true
name-turn x y e = true-name y x (sym (name-true x y e))

name-turn-false : (x y : Chars) → same_name x y ≡ false → same_name y x ≡ false
name-turn-false x y e = false-name y x (λ q. name-false x y e (sym q))

-- one more binder, outermost

snoc-miss : (bs : List Chars) (x y : Chars) → same_name y x ≡ false → nameless_name (bs ++ x ∷ []) y ≡ nameless_name bs y
snoc-miss [] x y e = name-miss x [] y e
snoc-miss (b ∷ bs) x y e = elim (bool_cases (same_name y b)) [
  | inl h ↦ name-hit b (bs ++ x ∷ []) y h ∙ sym (name-hit b bs y h)
  | inr h ↦ name-miss b (bs ++ x ∷ []) y h ∙ ap deeper (snoc-miss bs x y e) ∙ sym (name-miss b bs y h)
]

snoc-hit : (bs : List Chars) (x : Chars) → has_name x bs ≡ false → nameless_name (bs ++ x ∷ []) x ≡ nameless_bound (length bs)
snoc-hit [] x e = name-hit x [] x (true-name x x refl)
snoc-hit (b ∷ bs) x e =
    let h = or_parts (same_name x b) (has_name x bs) e in
    name-miss b (bs ++ x ∷ []) x h.0 ∙ ap deeper (snoc-hit bs x h.1)

hidden-name : (bs : List Chars) (x y : Chars) → has_name x bs ≡ true → nameless_name (bs ++ x ∷ []) y ≡ nameless_name bs y
hidden-name [] x y e = absurd (true-false (sym e))
hidden-name (b ∷ bs) x y e = elim (bool_cases (same_name y b)) [
  | inl h ↦ name-hit b (bs ++ x ∷ []) y h ∙ sym (name-hit b bs y h)
  | inr h ↦ name-miss b (bs ++ x ∷ []) y h
      ∙ ap deeper (elim (or_cases (same_name x b) (has_name x bs) e) [
        | inl k ↦ snoc-miss bs x y (false-name y x (λ q. name-false y b h (q ∙ name-true x b k)))
        | inr k ↦ hidden-name bs x y k
      ])
      ∙ sym (name-miss b bs y h)
]

pub hidden : (bs : List Chars) (x : Chars) (t : TermTree) → has_name x bs ≡ true → nameless (bs ++ x ∷ []) t ≡ nameless bs t
hidden bs x (free_variable y u) e = refl
hidden bs x (bound_name y) e = hidden-name bs x y e
hidden bs x (constant c ts) e = refl
hidden bs x (application f a) e = λ i. nameless_application (hidden bs x f e i) (hidden bs x a e i)
hidden bs x (abstraction y u b) e = ap (nameless_abstraction u) (hidden (y ∷ bs) x b (or_right (same_name x y) (has_name x bs) e))

-- the indices of a term are below its binders

abbrev IsUnder : ℕ → Nameless → Type 0
IsUnder d (nameless_bound i) = i < d
IsUnder d (nameless_loose x) = Unit {0}
IsUnder d _ = ⊥

deeper-under : (d : ℕ) (n : Nameless) → IsUnder d n → IsUnder (suc d) (deeper n)
deeper-under d (nameless_bound i) h = omega arith
deeper-under d (nameless_loose x) h = tt
deeper-under d n h = absurd h

under-name : (bs : List Chars) (y : Chars) → IsUnder (length bs) (nameless_name bs y)
under-name [] y = tt
under-name (b ∷ bs) y = elim (bool_cases (same_name y b)) [
  | inl h ↦ subst (λ (n : Nameless). IsUnder (length (b ∷ bs)) n) (sym (name-hit b bs y h)) (omega arith)
  | inr h ↦ subst (λ (n : Nameless). IsUnder (length (b ∷ bs)) n) (sym (name-miss b bs y h)) (deeper-under (length bs) (nameless_name bs y) (under-name bs y))
]

differs : (i d : ℕ) → i < d → nat_eq i d ≡ false
differs i d h = grind (arith, nat_tests)

same_number : (d : ℕ) → nat_eq d d ≡ true
same_number d = grind (arith, nat_tests)

under-kept : (d : ℕ) (by n : Nameless) → IsUnder d n → instance_at d by n ≡ n
under-kept d by (nameless_bound i) h = if-false (nat_eq i d) by (nameless_bound i) (differs i d h)
under-kept d by (nameless_loose x) h = refl
under-kept d by n h = absurd h

kept : (bs : List Chars) (by : Nameless) (t : TermTree) → instance_at (length bs) by (nameless bs t) ≡ nameless bs t
kept bs by (free_variable y u) = refl
kept bs by (bound_name y) = under-kept (length bs) by (nameless_name bs y) (under-name bs y)
kept bs by (constant c ts) = refl
kept bs by (application f a) = λ i. nameless_application (kept bs by f i) (kept bs by a i)
kept bs by (abstraction y u b) = ap (nameless_abstraction u) (kept (y ∷ bs) by b)

-- A term without loose bound names is the same under all binders.
abbrev pub IsScoped : TermTree → Type 0
IsScoped t = (cs : List Chars) → nameless cs t ≡ nameless [] t

-- opening

pub opened-nameless : (x : Chars) (by : TermTree) (bs : List Chars) (t : TermTree) → IsScoped by → has_name x bs ≡ false
    → nameless bs (opened x by t) ≡ instance_at (length bs) (nameless [] by) (nameless (bs ++ x ∷ []) t)
opened-nameless x by bs (free_variable y u) s e = refl
opened-nameless x by bs (bound_name y) s e = elim (bool_cases (same_name x y)) [
  | inl h ↦ ap (nameless bs) (if-true (same_name x y) by (bound_name y) h) ∙ s bs
      ∙ sym (if-true (nat_eq (length bs) (length bs)) (nameless [] by) (nameless_bound (length bs)) (same_number (length bs)))
      ∙ ap (instance_at (length bs) (nameless [] by)) (sym (snoc-hit bs x e) ∙ ap (nameless_name (bs ++ x ∷ [])) (name-true x y h))
  | inr h ↦ ap (nameless bs) (if-false (same_name x y) by (bound_name y) h)
      ∙ sym (under-kept (length bs) (nameless [] by) (nameless_name bs y) (under-name bs y))
      ∙ ap (instance_at (length bs) (nameless [] by)) (sym (snoc-miss bs x y (name-turn-false x y h)))
]
opened-nameless x by bs (constant c ts) s e = refl
opened-nameless x by bs (application f a) s e =
    λ i. nameless_application (opened-nameless x by bs f s e i) (opened-nameless x by bs a s e i)
opened-nameless x by bs (abstraction y u b) s e = ap (nameless_abstraction u) (elim (bool_cases (same_name x y)) [
  | inl h ↦ ap (nameless (y ∷ bs)) (if-true (same_name x y) b (opened x by b) h)
      ∙ sym (kept (y ∷ bs) (nameless [] by) b)
      ∙ ap (instance_at (length (y ∷ bs)) (nameless [] by)) (sym (hidden (y ∷ bs) x b (or_left (same_name x y) (has_name x bs) h)))
  | inr h ↦ ap (nameless (y ∷ bs)) (if-false (same_name x y) b (opened x by b) h)
      ∙ opened-nameless x by (y ∷ bs) b s (or_from (same_name x y) (has_name x bs) h e)
])

-- replacing

place-replaced : (x : Chars) (ty : TypeTree) (by n : Nameless) → IsPlace n → nameless_replaced x ty by n ≡ n
place-replaced x ty by (nameless_bound i) h = refl
place-replaced x ty by (nameless_loose y) h = refl
place-replaced x ty by n h = absurd h

pub replaced-nameless : (x : Chars) (ty : TypeTree) (by : TermTree) (bs : List Chars) (t : TermTree) → IsScoped by
    → nameless bs (replaced x ty by t) ≡ nameless_replaced x ty (nameless [] by) (nameless bs t)
replaced-nameless x ty by bs (free_variable y u) s = elim (bool_cases (same_name x y && same_type ty u)) [
  | inl h ↦ ap (nameless bs) (if-true (same_name x y && same_type ty u) by (free_variable y u) h) ∙ s bs
      ∙ sym (if-true (same_name x y && same_type ty u) (nameless [] by) (nameless_free y u) h)
  | inr h ↦ ap (nameless bs) (if-false (same_name x y && same_type ty u) by (free_variable y u) h)
      ∙ sym (if-false (same_name x y && same_type ty u) (nameless [] by) (nameless_free y u) h)
]
replaced-nameless x ty by bs (bound_name y) s = sym (place-replaced x ty (nameless [] by) (nameless_name bs y) (place bs y))
replaced-nameless x ty by bs (constant c ts) s = refl
replaced-nameless x ty by bs (application f a) s =
    λ i. nameless_application (replaced-nameless x ty by bs f s i) (replaced-nameless x ty by bs a s i)
replaced-nameless x ty by bs (abstraction y u b) s = ap (nameless_abstraction u) (replaced-nameless x ty by (y ∷ bs) b s)

-- closing

place-abstracted : (d : ℕ) (x : Chars) (ty : TypeTree) (n : Nameless) → IsPlace n → abstracted d x ty n ≡ n
place-abstracted d x ty (nameless_bound i) h = refl
place-abstracted d x ty (nameless_loose y) h = refl
place-abstracted d x ty n h = absurd h

closed-body : (n x : Chars) (ty : TypeTree) (bs : List Chars) (t : TermTree) → longest t < length n → has_name n bs ≡ false
    → nameless (bs ++ n ∷ []) (replaced x ty (bound_name n) t) ≡ abstracted (length bs) x ty (nameless bs t)
closed-body n x ty bs (free_variable y u) l e = elim (bool_cases (same_name x y && same_type ty u)) [
  | inl h ↦ ap (nameless (bs ++ n ∷ [])) (if-true (same_name x y && same_type ty u) (bound_name n) (free_variable y u) h)
      ∙ snoc-hit bs n e ∙ sym (if-true (same_name x y && same_type ty u) (nameless_bound (length bs)) (nameless_free y u) h)
  | inr h ↦ ap (nameless (bs ++ n ∷ [])) (if-false (same_name x y && same_type ty u) (bound_name n) (free_variable y u) h)
      ∙ sym (if-false (same_name x y && same_type ty u) (nameless_bound (length bs)) (nameless_free y u) h)
]
closed-body n x ty bs (bound_name y) l e =
    snoc-miss bs n y (name-turn-false n y (longer-differs n y l)) ∙ sym (place-abstracted (length bs) x ty (nameless_name bs y) (place bs y))
closed-body n x ty bs (constant c ts) l e = refl
closed-body n x ty bs (application f a) l e = λ i. nameless_application
    (closed-body n x ty bs f (omega arith) e i) (closed-body n x ty bs a (omega arith) e i)
closed-body n x ty bs (abstraction y u b) l e = ap (nameless_abstraction u)
    (closed-body n x ty (y ∷ bs) b (omega arith) (or_from (same_name n y) (has_name n bs) (longer-differs n y (omega arith)) e))

pub length-replicate : (n c : ℕ) → length (replicate n c) ≡ n
length-replicate zero c = refl
length-replicate (suc n) c = ap suc (length-replicate n c)

pub new_is_longer : (t : TermTree) → longest t < length (new_binder t)
new_is_longer t = let l = length-replicate (suc (longest t)) 120 in omega (arith, l)

pub closed-nameless : (x : Chars) (ty : TypeTree) (t : TermTree) → nameless [] (closed_over x ty t) ≡ nameless_abstraction ty (abstracted 0 x ty (nameless [] t))
closed-nameless x ty t = ap (nameless_abstraction ty) (closed-body (new_binder t) x ty [] t (new_is_longer t) refl)

-- instances

place-instance : (m : TypeMap) (n : Nameless) → IsPlace n → nameless_instance m n ≡ n
place-instance m (nameless_bound i) h = refl
place-instance m (nameless_loose y) h = refl
place-instance m n h = absurd h

pub instance-nameless : (m : TypeMap) (bs : List Chars) (t : TermTree) → nameless bs (term_instance m t) ≡ nameless_instance m (nameless bs t)
instance-nameless m bs (free_variable y u) = refl
instance-nameless m bs (bound_name y) = sym (place-instance m (nameless_name bs y) (place bs y))
instance-nameless m bs (constant c ts) = refl
instance-nameless m bs (application f a) = λ i. nameless_application (instance-nameless m bs f i) (instance-nameless m bs a i)
instance-nameless m bs (abstraction y u b) = ap (nameless_abstraction (type_instance m u)) (instance-nameless m (y ∷ bs) b)

-- free variables and loose names

place-free : (x : Chars) (ty : TypeTree) (n : Nameless) → IsPlace n → nameless_has_free x ty n ≡ false
place-free x ty (nameless_bound i) h = refl
place-free x ty (nameless_loose y) h = refl
place-free x ty n h = absurd h

pub free-nameless : (x : Chars) (ty : TypeTree) (bs : List Chars) (t : TermTree) → has_free x ty t ≡ nameless_has_free x ty (nameless bs t)
free-nameless x ty bs (free_variable y u) = refl
free-nameless x ty bs (bound_name y) = sym (place-free x ty (nameless_name bs y) (place bs y))
free-nameless x ty bs (constant c ts) = refl
free-nameless x ty bs (application f a) = λ i. free-nameless x ty bs f i || free-nameless x ty bs a i
free-nameless x ty bs (abstraction y u b) = free-nameless x ty (y ∷ bs) b

under-index : (d : ℕ) (n : Nameless) → IsUnder d n → has_index d n ≡ false
under-index d (nameless_bound i) h = differs i d h
under-index d (nameless_loose x) h = refl
under-index d n h = absurd h

no-index : (bs : List Chars) (t : TermTree) → has_index (length bs) (nameless bs t) ≡ false
no-index bs (free_variable y u) = refl
no-index bs (bound_name y) = under-index (length bs) (nameless_name bs y) (under-name bs y)
no-index bs (constant c ts) = refl
no-index bs (application f a) = or_from (has_index (length bs) (nameless bs f)) (has_index (length bs) (nameless bs a)) (no-index bs f) (no-index bs a)
no-index bs (abstraction y u b) = no-index (y ∷ bs) b

pub loose-nameless : (x : Chars) (bs : List Chars) (t : TermTree) → has_name x bs ≡ false
    → has_loose x t ≡ has_index (length bs) (nameless (bs ++ x ∷ []) t)
loose-nameless x bs (free_variable y u) e = refl
loose-nameless x bs (bound_name y) e = elim (bool_cases (same_name x y)) [
  | inl h ↦ h ∙ sym (same_number (length bs)) ∙ ap (has_index (length bs)) (sym (snoc-hit bs x e) ∙ ap (nameless_name (bs ++ x ∷ [])) (name-true x y h))
  | inr h ↦ h ∙ sym (under-index (length bs) (nameless_name bs y) (under-name bs y))
      ∙ ap (has_index (length bs)) (sym (snoc-miss bs x y (name-turn-false x y h)))
]
loose-nameless x bs (constant c ts) e = refl
loose-nameless x bs (application f a) e = λ i. loose-nameless x bs f e i || loose-nameless x bs a e i
loose-nameless x bs (abstraction y u b) e = elim (bool_cases (same_name x y)) [
  | inl h ↦ ap (λ v. not v && has_loose x b) h ∙ sym (no-index (y ∷ bs) b)
      ∙ ap (has_index (length (y ∷ bs))) (sym (hidden (y ∷ bs) x b (or_left (same_name x y) (has_name x bs) h)))
  | inr h ↦ ap (λ v. not v && has_loose x b) h ∙ loose-nameless x (y ∷ bs) b (or_from (same_name x y) (has_name x bs) h e)
]

pub not-loose : (x : Chars) (bs : List Chars) (t : TermTree) → has_loose x t ≡ false → nameless (bs ++ x ∷ []) t ≡ nameless bs t
not-loose x bs (free_variable y u) e = refl
not-loose x bs (bound_name y) e = snoc-miss bs x y (name-turn-false x y e)
not-loose x bs (constant c ts) e = refl
not-loose x bs (application f a) e =
    let h = or_parts (has_loose x f) (has_loose x a) e in λ i. nameless_application (not-loose x bs f h.0 i) (not-loose x bs a h.1 i)
not-loose x bs (abstraction y u b) e = ap (nameless_abstraction u) (elim (bool_cases (same_name x y)) [
  | inl h ↦ hidden (y ∷ bs) x b (or_left (same_name x y) (has_name x bs) h)
  | inr h ↦ not-loose x (y ∷ bs) b (sym (ap (λ v. not v && has_loose x b) h) ∙ e)
])
