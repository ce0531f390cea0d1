-- Hypotheses that say that the variables of binders are related.
use Rattle.std.proofs.Common.{◌≡◌, ◌⊎◌, inl, inr, ℕ, zero, suc, ◌-◌, ◌<◌, ◌≤◌, List, [], ◌∷◌, ◌++◌, length, slice_get, replicate, Bool, true, false, ◌&&◌, ◌||◌, not, if◌then◌else◌, Some, refl, sym, ◌∙◌, ap, subst, arith}
use Rattle.std.specs.List.{list_any}
use Rattle.std.proofs.lemmas.Bool.{true≢false}
use Rattle.lt_definitions.specs.Types.{Chars, same_name, TypeTree, same_type}
use Rattle.lt_definitions.specs.Typing.{Signature}
use Rattle.lt_nameless.specs.Nameless.{Nameless, nameless_free, nameless_application}
use Rattle.lt_nameless.specs.NamelessRules.{nameless_has_free, nameless_union, nameless_without, same_nameless}
use Rattle.lt_nameless.proofs.SameForms.{same-refl}
use Rattle.lt_relating.specs.TypedRelations.{TypedRelation, IsRelation}
use Rattle.lt_relating.specs.RelatedSteps.{variables_related}
use Rattle.lt_relating.specs.Plans.{image_name, given_name, binding_at}
use Rattle.lt_relating.proofs.RelatedLemmas.{either-false, none-free}
use Rattle.lt_relating.proofs.OpenedLemmas.{other-depth}

-- a term is among others, and terms are
abbrev pub Among : Nameless → List Nameless → Type 0
Among h [] = ⊥
Among h (g ∷ gs) = (h ≡ g) ⊎ Among h gs

abbrev pub AllAmong : List Nameless → List Nameless → Type 0
AllAmong [] gs = Unit {0}
AllAmong (h ∷ hs) gs = Among h gs × AllAmong hs gs

append-among : (hs ks gs : List Nameless) → AllAmong hs gs → AllAmong ks gs → AllAmong (hs ++ ks) gs
append-among [] ks gs a b = b
append-among (h ∷ hs) ks gs a b = (a.0, append-among hs ks gs a.1 b)

either-among : (b : Bool) (hs : List Nameless) (k : Nameless) (gs : List Nameless) → AllAmong hs gs → Among k gs → AllAmong (if b then hs else hs ++ k ∷ []) gs
either-among true hs k gs a c = a
either-among false hs k gs a c = append-among hs (k ∷ []) gs a (c, tt)

pub union-among : (hs ks gs : List Nameless) → AllAmong hs gs → AllAmong ks gs → AllAmong (nameless_union hs ks) gs
union-among hs [] gs a b = a
union-among hs (k ∷ ks) gs a b =
    union-among (if list_any (same_nameless k) hs then hs else hs ++ k ∷ []) ks gs (either-among (list_any (same_nameless k) hs) hs k gs a b.0) b.1

one-without : (p h : Nameless) (hs gs : List Nameless) → AllAmong (nameless_without p hs) gs → Among h (p ∷ gs) → AllAmong (nameless_without p (h ∷ hs)) gs
one-without p h hs gs rest c = by (same_nameless p h) refl c
  where
    by : (b : Bool) → same_nameless p h ≡ b → Among h (p ∷ gs) → AllAmong (nameless_without p (h ∷ hs)) gs
    by true e c = let is : nameless_without p (h ∷ hs) ≡ nameless_without p hs = ap (λ v. if not v then h ∷ nameless_without p hs else nameless_without p hs) e in
        subst (λ (ks : List Nameless). AllAmong ks gs) (sym is) rest
    by false e (inl q) = absurd (true≢false (sym (ap (same_nameless p) q ∙ same-refl p) ∙ e))
    by false e (inr c) = let is : nameless_without p (h ∷ hs) ≡ h ∷ nameless_without p hs = ap (λ v. if not v then h ∷ nameless_without p hs else nameless_without p hs) e in
        subst (λ (ks : List Nameless). AllAmong ks gs) (sym is) (c, rest)

pub without-among : (p : Nameless) (hs gs : List Nameless) → AllAmong hs (p ∷ gs) → AllAmong (nameless_without p hs) gs
without-among p [] gs a = tt
without-among p (h ∷ hs) gs a = one-without p h hs gs (without-among p hs gs a.1) a.0

pub among-none : (hs : List Nameless) → AllAmong hs [] → hs ≡ []
among-none [] a = refl
among-none (h ∷ hs) a = absurd a.0

-- ---- what binders assume

abbrev pub assumptions : List TypedRelation → List Nameless
assumptions [] = []
assumptions (r ∷ env) = variables_related (binding_at (length env) r) ∷ assumptions env

pub assumed-among : (env : List TypedRelation) (i : ℕ) (r : TypedRelation) → slice_get env i ≡ Some r
    → Among (variables_related (binding_at (length env - suc i) r)) (assumptions env)
assumed-among [] i r e = absurd (cc e)
assumed-among (q ∷ env) zero r e =
    let same : q ≡ r = cc e in let n : suc (length env) - 1 ≡ length env = omega arith in inl (λ v. variables_related (binding_at (n v) (sym same v)))
assumed-among (q ∷ env) (suc i) r e =
    let n : length env - suc i ≡ suc (length env) - suc (suc i) = omega arith in
    inr (subst (λ (d : ℕ). Among (variables_related (binding_at d r)) (assumptions env)) n (assumed-among env i r e))

abbrev pub AreRelations : Signature → List TypedRelation → Type 0
AreRelations sig [] = Unit {0}
AreRelations sig (r ∷ env) = IsRelation sig r × AreRelations sig env

pub relation-at : (sig : Signature) (env : List TypedRelation) (i : ℕ) (r : TypedRelation) → AreRelations sig env → slice_get env i ≡ Some r → IsRelation sig r
relation-at sig [] i r h e = absurd (cc e)
relation-at sig (q ∷ env) zero r h e = let same : q ≡ r = cc e in subst (IsRelation sig) same h.0
relation-at sig (q ∷ env) (suc i) r h e = relation-at sig env i r h.1 e

-- the variables of a binder further in are in none of them
module _ (sig : Signature) (n : ℕ) (ty : TypeTree) where
  image-absent : (env : List TypedRelation) (h : Nameless) → AreRelations sig env → length env ≤ n → Among h (assumptions env) → nameless_has_free (image_name n) ty h ≡ false
  image-absent [] h rs l a = absurd a
  image-absent (r ∷ env) h rs l (inl q) = ap (nameless_has_free (image_name n) ty) q
      ∙ either-false (nameless_has_free (image_name n) ty (nameless_application r.term (nameless_free (image_name (length env)) r.left))) false
      (either-false (nameless_has_free (image_name n) ty r.term) (same_name (image_name n) (image_name (length env)) && same_type ty r.left) (none-free (image_name n) ty r.term rs.0.closed)
      (ap (λ b. b && same_type ty r.left) (other-depth 120 n (length env) (omega (arith, l))))) refl
  image-absent (r ∷ env) h rs l (inr a) = image-absent env h rs.1 (omega (arith, l)) a

  given-absent : (env : List TypedRelation) (h : Nameless) → AreRelations sig env → length env ≤ n → Among h (assumptions env) → nameless_has_free (given_name n) ty h ≡ false
  given-absent [] h rs l a = absurd a
  given-absent (r ∷ env) h rs l (inl q) = ap (nameless_has_free (given_name n) ty) q
      ∙ either-false (nameless_has_free (given_name n) ty (nameless_application r.term (nameless_free (image_name (length env)) r.left)))
      (same_name (given_name n) (given_name (length env)) && same_type ty r.right)
      (either-false (nameless_has_free (given_name n) ty r.term) false (none-free (given_name n) ty r.term rs.0.closed) refl)
      (ap (λ b. b && same_type ty r.right) (other-depth 121 n (length env) (omega (arith, l))))
  given-absent (r ∷ env) h rs l (inr a) = given-absent env h rs.1 (omega (arith, l)) a

  module _ (env : List TypedRelation) (rs : AreRelations sig env) (l : length env ≤ n) where
    pub all-image-absent : (hs : List Nameless) → AllAmong hs (assumptions env) → list_any (nameless_has_free (image_name n) ty) hs ≡ false
    all-image-absent [] a = refl
    all-image-absent (h ∷ hs) a =
        either-false (nameless_has_free (image_name n) ty h) (list_any (nameless_has_free (image_name n) ty) hs) (image-absent env h rs l a.0) (all-image-absent hs a.1)

    pub all-given-absent : (hs : List Nameless) → AllAmong hs (assumptions env) → list_any (nameless_has_free (given_name n) ty) hs ≡ false
    all-given-absent [] a = refl
    all-given-absent (h ∷ hs) a =
        either-false (nameless_has_free (given_name n) ty h) (list_any (nameless_has_free (given_name n) ty) hs) (given-absent env h rs l a.0) (all-given-absent hs a.1)
