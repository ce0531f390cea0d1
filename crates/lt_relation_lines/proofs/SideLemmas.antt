-- Side conditions that hold are derived.
use Rattle.std.proofs.Common.{◌≡◌, ◌⊎◌, inl, inr, ℕ, zero, suc, List, [], ◌∷◌, length, Bool, true, false, if◌then◌else◌, Option, Some, None, Ok, Err, refl, sym, ◌∙◌, ap, subst}
use Rattle.std.proofs.lemmas.Bool.{cases_Bool, cond-true, cond-false, and_parts}
use Rattle.lt_definitions.specs.Types.{Chars, TypeTree, type_constructor, TypeTrees, type_and, listed, bool, fun}
use Rattle.lt_definitions.specs.Typing.{with_ok, type_fault, types_fault, constructor_fault, declared_arity}
use Rattle.lt_definitions.specs.Rules.{with_found}
use Rattle.lt_definitions.specs.declared.reason.Reason.TheVariants.{UnknownLabel, MiddleDiffers}
use Rattle.lt_definitions.proofs.TypingLemmas.{both-none}
use Rattle.lt_definitions.proofs.RuleLemmas.{holds-on}
use Rattle.lt_nameless.specs.Nameless.{Nameless, nameless_constant, nameless_application, NamelessSequent}
use Rattle.lt_nameless.specs.NamelessRules.{NamelessOutcome, nameless_equation, nameless_refl_gives, same_nameless, applied_both, detached}
use Rattle.lt_nameless.proofs.SameForms.{same-refl}
use Rattle.lt_programs.specs.Programs.{theorem, carried_back}
use Rattle.lt_programs.proofs.ConnectiveLemmas.{detached-is}
use Rattle.lt_transport_definitions.specs.Notation.{◌~◌}
use Rattle.lt_transport_definitions.specs.Below.{EachHolds, RuleHolds, Side, SideAt}
use Rattle.lt_transport_definitions.specs.Expressions.{right, rights, right_of, left, lefts, left_of, is_relator, is_equality, are_equalities, IsExpression, AreExpressions, MayHave}
use Rattle.lt_transport_definitions.specs.Relations.{Relation, relation_variable, equality, constructed, Relations, no_relations, relation_and, Property, Sides, PropertyRule, Parametrised, Registry, Kind, no_constructor, a_relator, a_correspondence, a_form, kind_of, form_for, property_rule_for}
use Rattle.lt_relation_lines.specs.Grounds.{Ground, term_of, property_constant, has_property}
use Rattle.lt_relation_lines.specs.Equalities.{equality_gives}
use Rattle.lt_relation_lines.specs.SideLines.{equality_property, equality_side, detached_each, rule_at, rule_side, side_gives, side_at}
use Rattle.lt_relation_lines.specs.Equated.{equal_at, IsGround, argument_property, premised, AreWanted, HasRules}
use Rattle.lt_relation_lines.proofs.EqualityLemmas.{relator-of, applied-equal, refl-equal, equality-is}

-- an expression that is equality throughout has one type on both sides
mutual
  pub left-is : (G : Registry) (r : Relation) → is_equality G r ≡ true → left G r ≡ right G r
  left-is G (relation_variable n t) e = refl
  left-is G (equality t) e = refl
  left-is G (constructed c ts rs) e =
      let both = and_parts (is_relator (kind_of G c)) (are_equalities G rs) e in
      let k = relator-of (kind_of G c) both.0 in
      ap (λ q. left_of q ts (lefts G rs)) k.1 ∙ ap (type_constructor k.0) (lefts-are G rs both.1)
      ∙ sym (ap (λ q. right_of q ts (rights G rs)) k.1)

  pub lefts-are : (G : Registry) (rs : Relations) → are_equalities G rs ≡ true → lefts G rs ≡ rights G rs
  lefts-are G no_relations e = refl
  lefts-are G (relation_and r rs) e =
      let both = and_parts (is_equality G r) (are_equalities G rs) e in
      let one = left-is G r both.0 in
      let more = lefts-are G rs both.1 in
      λ i. type_and (one i) (more i)

carried-equal : (p q : Nameless) → carried_back (theorem (nameless_equation bool p q)) (theorem q) ≡ Ok (theorem p)
carried-equal p q = holds-on (same_nameless q q) MiddleDiffers (Ok (theorem p)) (same-refl q)

module _ (g : Ground) (h : IsGround g) (wanted : Property → Bool) (rules : HasRules g wanted) where
  abbrev G : Registry
  G = g.registry

  -- the types of the arguments have no fault where the whole has none
  rights-sound : (k : Kind) (form : Option Parametrised) (ts : List TypeTree) (rs : Relations) → MayHave k form ts rs
      → type_fault g.signature (right_of k ts (rights G rs)) ≡ None → types_fault g.signature (rights G rs) ≡ None
  rights-sound no_constructor form ts rs m w = absurd m
  rights-sound (a_relator K) form ts rs m w = (both-none (constructor_fault K (length (listed (rights G rs))) (declared_arity g.signature K)) (types_fault g.signature (rights G rs)) w).1
  rights-sound (a_correspondence d) form ts rs m w = ap (λ q. types_fault g.signature (rights G q)) m.1
  rights-sound (a_form d) form ts rs m w = (both-none (constructor_fault d.con (length (listed (rights G rs))) (declared_arity g.signature d.con)) (types_fault g.signature (rights G rs)) w).1

  pub equality-side : (r : Relation) (p : Property) → wanted p ≡ true → is_equality G r ≡ true → IsExpression G r → type_fault g.signature (right G r) ≡ None
      → equality_side g p r ≡ Ok (theorem (has_property G p r))
  equality-side r p a e x w =
      let t = right G r in
      let con = nameless_constant p (t ∷ t ∷ []) in
      let head : property_constant G p r ≡ con = ap (λ u. nameless_constant p (u ∷ t ∷ [])) (left-is G r e) in
      let s = theorem (nameless_application con (equal_at t)) in
      let q = theorem (nameless_equation (t ~ t) (term_of G r) (equal_at t)) in
      ap (λ o. with_ok o (λ s. with_ok (equality_gives g r) (λ v. with_ok (nameless_refl_gives g.signature (property_constant G p r)) (λ c. with_ok (applied_both c v) (λ u. carried_back u s))))) (rules.equal p t a w)
      ∙ ap (λ o. with_ok o (λ v. with_ok (nameless_refl_gives g.signature (property_constant G p r)) (λ c. with_ok (applied_both c v) (λ u. carried_back u s)))) (equality-is g h r e x w)
      ∙ ap (λ k. with_ok (nameless_refl_gives g.signature k) (λ c. with_ok (applied_both c q) (λ u. carried_back u s))) head
      ∙ ap (λ o. with_ok o (λ c. with_ok (applied_both c q) (λ u. carried_back u s))) (refl-equal g.signature con (fun (t ~ t) bool) (rules.typed p t a w))
      ∙ ap (λ o. with_ok o (λ u. carried_back u s)) (applied-equal (t ~ t) bool con con (term_of G r) (equal_at t))
      ∙ carried-equal (nameless_application con (term_of G r)) (nameless_application con (equal_at t))
      ∙ ap (λ k. Ok (theorem (nameless_application k (term_of G r)))) (sym head)

  -- what is given for the arguments of a constructor
  abbrev AreGiven : Relations → Type 0
  AreGiven rs = (i : ℕ) (p : Property) → wanted p ≡ true → SideAt G rs i p → side_at g rs i p ≡ Ok (theorem (argument_property G rs i p))

  each-is : (rs : Relations) (xs : Sides) (q : Nameless) → AreGiven rs → AreWanted wanted xs → EachHolds xs (SideAt G rs)
      → detached_each xs (side_at g rs) (theorem (premised G rs xs q)) ≡ Ok (theorem q)
  each-is rs [] q given a s = refl
  each-is rs (x ∷ xs) q given a s =
      let p = argument_property G rs x.1 x.0 in
      let whole = theorem (premised G rs (x ∷ xs) q) in
      ap (λ o. with_ok o (λ u. with_ok (detached whole u) (detached_each xs (side_at g rs)))) (given x.1 x.0 a.0 s.0)
      ∙ ap (λ o. with_ok o (detached_each xs (side_at g rs))) (detached-is [] p (premised G rs xs q) (theorem p) refl)
      ∙ each-is rs xs q given a.1 s.1

  by-rule : (p : Property) (c : Chars) (ts : List TypeTree) (rs : Relations) → AreGiven rs → IsExpression G (constructed c ts rs)
      → type_fault g.signature (right G (constructed c ts rs)) ≡ None → (o : Option PropertyRule) → property_rule_for G p c ≡ o → RuleHolds o (SideAt G rs)
      → with_found UnknownLabel o (λ rule. rule_side g rule ts rs (side_at g rs)) ≡ Ok (theorem (has_property G p (constructed c ts rs)))
  by-rule p c ts rs given x w None e s = absurd s
  by-rule p c ts rs given x w (Some rule) e s =
      ap (λ o. with_ok o (detached_each rule.premises (side_at g rs))) (rules.rule p c rule ts rs e x w)
      ∙ each-is rs rule.premises (has_property G p (constructed c ts rs)) given (rules.asked p c rule e) s

  from-rule : (p : Property) (c : Chars) (ts : List TypeTree) (rs : Relations) → is_equality G (constructed c ts rs) ≡ false → Side G (constructed c ts rs) p
      → RuleHolds (property_rule_for G p c) (SideAt G rs)
  from-rule p c ts rs e (inl d) = let no : true ≡ false = sym d ∙ e in absurd (cc no)
  from-rule p c ts rs e (inr s) = s

  mutual
    pub side-is : (r : Relation) (p : Property) → wanted p ≡ true → IsExpression G r → type_fault g.signature (right G r) ≡ None → Side G r p
        → side_gives g r p ≡ Ok (theorem (has_property G p r))
    side-is (relation_variable n t) p a x w s = absurd s
    side-is (equality t) p a x w s = rules.equal p t a w
    side-is (constructed c ts rs) p a x w s =
        let given : AreGiven rs = λ i q b d. argument-is rs i q b x.1 (rights-sound (kind_of G c) (form_for G c) ts rs x.0 w) d in
        let other = with_found UnknownLabel (property_rule_for G p c) (λ rule. rule_side g rule ts rs (side_at g rs)) in
        elim (cases_Bool (is_equality G (constructed c ts rs))) [
          | inl e ↦ cond-true (is_equality G (constructed c ts rs)) (equality_side g p (constructed c ts rs)) other e ∙ equality-side (constructed c ts rs) p a e x w
          | inr e ↦ cond-false (is_equality G (constructed c ts rs)) (equality_side g p (constructed c ts rs)) other e
              ∙ by-rule p c ts rs given x w (property_rule_for G p c) refl (from-rule p c ts rs e s)
        ]

    pub argument-is : (rs : Relations) (i : ℕ) (p : Property) → wanted p ≡ true → AreExpressions G rs → types_fault g.signature (rights G rs) ≡ None → SideAt G rs i p
        → side_at g rs i p ≡ Ok (theorem (argument_property G rs i p))
    argument-is no_relations i p a x w s = absurd s
    argument-is (relation_and r rs) zero p a x w s = side-is r p a x.0 (both-none (type_fault g.signature (right G r)) (types_fault g.signature (rights G rs)) w).0 s
    argument-is (relation_and r rs) (suc i) p a x w s = argument-is rs i p a x.1 (both-none (type_fault g.signature (right G r)) (types_fault g.signature (rights G rs)) w).1 s
