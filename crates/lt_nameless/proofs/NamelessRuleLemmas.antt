-- What the rules give from lines whose sequents have the forms that they ask for.
use Rattle.std.proofs.Common.{◌≡◌, ℕ, List, [], ◌∷◌, true, false, not, map, Some, Ok, ◌∙◌, ap}
use Rattle.std.proofs.lemmas.Bool.{and_from}
use Rattle.std.specs.List.{list_any}
use Rattle.lt_definitions.specs.Types.{Chars, TypeTree, bool, fun}
use Rattle.lt_definitions.specs.Typing.{Signature}
use Rattle.lt_definitions.specs.Rules.{line_at, joined_type}
use Rattle.lt_nameless.specs.Nameless.{Nameless, nameless_application, nameless_abstraction, NamelessSequent}
use Rattle.lt_nameless.specs.NamelessRules.{nameless_gives, nameless_union, nameless_without, same_nameless, nameless_has_free, nameless_has_type, nameless_equation, nameless_implies, nameless_for_all, nameless_as_equation, nameless_as_implication, nameless_as_forall, nameless_at, abstracted, nameless_replaced, nameless_weaken_gives, nameless_sym_gives, nameless_trans_gives, nameless_cong_gives, nameless_abs_gives, nameless_eqmp_gives, nameless_impI_gives, nameless_mp_gives, nameless_allI_gives, nameless_allE_gives, nameless_iff_gives, nameless_inst_gives, nameless_tinst_gives, put_one}
use Rattle.lt_definitions.proofs.RuleLemmas.{found-on, holds-on}

-- from one line
module _ (done : List NamelessSequent) (i : ℕ) (s : NamelessSequent) (at-i : line_at done i ≡ Some s) where
  pub weaken-gives : (sig : Signature) (p : Nameless) → nameless_has_type sig p bool ≡ true
      → nameless_weaken_gives sig done p i ≡ nameless_gives (nameless_union s.hyps (p ∷ [])) s.concl
  weaken-gives sig p h = found-on _ _ s _ at-i ∙ holds-on _ _ _ h

  pub sym-gives : (ty : TypeTree) (l r : Nameless) → nameless_as_equation s.concl ≡ Some (ty, l, r)
      → nameless_sym_gives done i ≡ nameless_gives s.hyps (nameless_equation ty r l)
  sym-gives ty l r e = found-on _ _ s _ at-i ∙ found-on _ _ (ty, l, r) _ e

  pub abs-gives : (x : Chars) (ty at : TypeTree) (l r : Nameless) → nameless_as_equation s.concl ≡ Some (at, l, r)
      → list_any (nameless_has_free x ty) s.hyps ≡ false
      → nameless_abs_gives done x ty i ≡ nameless_gives s.hyps (nameless_equation (fun ty at)
      (nameless_abstraction ty (abstracted 0 x ty l)) (nameless_abstraction ty (abstracted 0 x ty r)))
  abs-gives x ty at l r e absent =
      found-on _ _ s _ at-i ∙ found-on _ _ (at, l, r) _ e ∙ holds-on _ _ _ (ap not absent)

  pub impI-gives : (sig : Signature) (p : Nameless) → nameless_has_type sig p bool ≡ true
      → nameless_impI_gives sig done p i ≡ nameless_gives (nameless_without p s.hyps) (nameless_implies p s.concl)
  impI-gives sig p h = found-on _ _ s _ at-i ∙ holds-on _ _ _ h

  pub allI-gives : (x : Chars) (ty : TypeTree) → list_any (nameless_has_free x ty) s.hyps ≡ false
      → nameless_allI_gives done x ty i
      ≡ nameless_gives s.hyps (nameless_for_all ty (nameless_abstraction ty (abstracted 0 x ty s.concl)))
  allI-gives x ty absent = found-on _ _ s _ at-i ∙ holds-on _ _ _ (ap not absent)

  pub allE-gives : (sig : Signature) (t : Nameless) (ty : TypeTree) (p : Nameless)
      → nameless_as_forall s.concl ≡ Some (ty, p) → nameless_has_type sig t ty ≡ true
      → nameless_allE_gives sig done t i ≡ nameless_gives s.hyps (nameless_at p t)
  allE-gives sig t ty p e typed = found-on _ _ s _ at-i ∙ found-on _ _ (ty, p) _ e ∙ holds-on _ _ _ typed

  pub inst-gives : (sig : Signature) (x : Chars) (ty : TypeTree) (t : Nameless) → nameless_has_type sig t ty ≡ true
      → nameless_inst_gives sig done x ty t i
      ≡ nameless_gives (nameless_union [] (map (nameless_replaced x ty t) s.hyps)) (nameless_replaced x ty t s.concl)
  inst-gives sig x ty t typed = found-on _ _ s _ at-i ∙ holds-on _ _ _ typed

  pub tinst-gives : (a : Chars) (ty : TypeTree) → nameless_tinst_gives done a ty i ≡ Ok (put_one a ty s)
  tinst-gives a ty = found-on _ _ s _ at-i

-- from two lines
module _ (done : List NamelessSequent) (i j : ℕ) (s u : NamelessSequent) (at-i : line_at done i ≡ Some s) (at-j : line_at done j ≡ Some u) where
  pub trans-gives : (ty : TypeTree) (l m : Nameless) (ty' : TypeTree) (m' r : Nameless)
      → nameless_as_equation s.concl ≡ Some (ty, l, m) → nameless_as_equation u.concl ≡ Some (ty', m', r) → same_nameless m m' ≡ true
      → nameless_trans_gives done i j ≡ nameless_gives (nameless_union s.hyps u.hyps) (nameless_equation ty l r)
  trans-gives ty l m ty' m' r e d t = found-on _ _ s _ at-i ∙ found-on _ _ u _ at-j
      ∙ found-on _ _ (ty, l, m) _ e ∙ found-on _ _ (ty', m', r) _ d ∙ holds-on _ _ _ t

  pub cong-gives : (at : TypeTree) (f g : Nameless) (of : TypeTree) (a b : Nameless) (ty : TypeTree)
      → nameless_as_equation s.concl ≡ Some (at, f, g) → nameless_as_equation u.concl ≡ Some (of, a, b) → joined_type at of ≡ Some ty
      → nameless_cong_gives done i j ≡ nameless_gives (nameless_union s.hyps u.hyps)
      (nameless_equation ty (nameless_application f a) (nameless_application g b))
  cong-gives at f g of a b ty e d joined = found-on _ _ s _ at-i ∙ found-on _ _ u _ at-j
      ∙ found-on _ _ (at, f, g) _ e ∙ found-on _ _ (of, a, b) _ d ∙ found-on _ _ ty _ joined

  pub eqmp-gives : (ty : TypeTree) (p q : Nameless) → nameless_as_equation s.concl ≡ Some (ty, p, q) → same_nameless p u.concl ≡ true
      → nameless_eqmp_gives done i j ≡ nameless_gives (nameless_union s.hyps u.hyps) q
  eqmp-gives ty p q e t =
      found-on _ _ s _ at-i ∙ found-on _ _ u _ at-j ∙ found-on _ _ (ty, p, q) _ e ∙ holds-on _ _ _ t

  pub mp-gives : (p q : Nameless) → nameless_as_implication s.concl ≡ Some (p, q) → same_nameless p u.concl ≡ true
      → nameless_mp_gives done i j ≡ nameless_gives (nameless_union s.hyps u.hyps) q
  mp-gives p q e t =
      found-on _ _ s _ at-i ∙ found-on _ _ u _ at-j ∙ found-on _ _ (p, q) _ e ∙ holds-on _ _ _ t

  pub iff-gives : (p q p' q' : Nameless) → nameless_as_implication s.concl ≡ Some (p, q)
      → nameless_as_implication u.concl ≡ Some (p', q') → same_nameless p q' ≡ true → same_nameless q p' ≡ true
      → nameless_iff_gives done i j ≡ nameless_gives (nameless_union s.hyps u.hyps) (nameless_equation bool p q)
  iff-gives p q p' q' e d t v = found-on _ _ s _ at-i ∙ found-on _ _ u _ at-j
      ∙ found-on _ _ (p, q) _ e ∙ found-on _ _ (p', q') _ d ∙ holds-on _ _ _ (and_from _ _ t v)
