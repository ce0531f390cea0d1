-- A union of nothing with hypotheses has each once, so a second one changes nothing.
use Rattle.std.proofs.Common.{◌≡◌, inl, inr, List, [], ◌∷◌, ◌++◌, Bool, true, false, ◌||◌, if◌then◌else◌, refl, sym, ◌∙◌, ap, subst}
use Rattle.std.specs.List.{list_any}
use Rattle.std.proofs.Math.Seq.{append_snoc}
use Rattle.std.proofs.lemmas.List.{append-nil}
use Rattle.std.proofs.lemmas.Bool.{cases_Bool, cond-true, cond-false}
use Rattle.lt_nameless.specs.Nameless.{Nameless}
use Rattle.lt_nameless.specs.NamelessRules.{same_nameless, nameless_union}

-- each is another one than those before it
abbrev NewTo : List Nameless → List Nameless → Type 0
NewTo acc [] = Unit {0}
NewTo acc (k ∷ ks) = (list_any (same_nameless k) acc ≡ false) × NewTo (acc ++ k ∷ []) ks

-- then a union only puts them behind
new-behind : (acc ks : List Nameless) → NewTo acc ks → nameless_union acc ks ≡ acc ++ ks
new-behind acc [] h = sym (append-nil acc)
new-behind acc (k ∷ ks) h =
    ap (λ hs. nameless_union hs ks) (cond-false (list_any (same_nameless k) acc) acc (acc ++ k ∷ []) h.0)
    ∙ new-behind (acc ++ k ∷ []) ks h.1
    ∙ append_snoc acc k ks

-- one more behind them
new-more : (acc ks : List Nameless) (k : Nameless) → NewTo acc ks → list_any (same_nameless k) (acc ++ ks) ≡ false → NewTo acc (ks ++ k ∷ [])
new-more acc [] k h e = (ap (list_any (same_nameless k)) (sym (append-nil acc)) ∙ e, tt)
new-more acc (j ∷ ks) k h e = (h.0, new-more (acc ++ j ∷ []) ks k h.1 (ap (list_any (same_nameless k)) (append_snoc acc j ks) ∙ e))

-- what a union makes of such hypotheses is such
new-union : (hs ks : List Nameless) → NewTo [] hs → NewTo [] (nameless_union hs ks)
new-union hs [] h = h
new-union hs (k ∷ ks) h = elim (cases_Bool (list_any (same_nameless k) hs)) [
  | inl e ↦ subst (λ (x : List Nameless). NewTo [] (nameless_union x ks)) (sym (cond-true (list_any (same_nameless k) hs) hs (hs ++ k ∷ []) e)) (new-union hs ks h)
  | inr e ↦ subst (λ (x : List Nameless). NewTo [] (nameless_union x ks)) (sym (cond-false (list_any (same_nameless k) hs) hs (hs ++ k ∷ []) e))
      (new-union (hs ++ k ∷ []) ks (new-more [] hs k h e))
]

pub union-once : (hs : List Nameless) → nameless_union [] (nameless_union [] hs) ≡ nameless_union [] hs
union-once hs = new-behind [] (nameless_union [] hs) (new-union [] hs tt)
