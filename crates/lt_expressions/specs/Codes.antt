-- How relation expressions are stored as values that contracts see.
use Rattle.std.specs.Prelude.{◌≡◌, ℕ, refl}
use Rattle.std.proofs.Common.{ap, subst, sym}
use Rattle.std.specs.Coded.{Coded, coded_ℕ}
use base.Stored.{Gv, gnil, gnum, gcons}
use Rattle.lt_types.specs.Codes.{coded_name, coded_type, left, right}
use Rattle.lt_terms.specs.Codes.{coded_types}
use Rattle.lt_transport_definitions.specs.Relations.{Relation, Relations, relation_variable, equality, constructed, no_relations, relation_and}

-- each form has its number
abbrev mutual
  pub relation_code : Relation → Gv
  relation_code (relation_variable n t) =
      gcons (gnum 0) (gcons (coded_ℕ.code n) (coded_type.code t))
  relation_code (equality t) = gcons (gnum 1) (coded_type.code t)
  relation_code (constructed c ts rs) = gcons (gnum 2)
      (gcons (coded_name.code c) (gcons (coded_types.code ts) (relations_code rs)))

  pub relations_code : Relations → Gv
  relations_code no_relations = gnil
  relations_code (relation_and r rs) = gcons (relation_code r) (relations_code rs)

abbrev kind : Gv → ℕ
kind gnil = 9
kind (gcons a b) = 9
kind (gnum n) = n

abbrev IsPair : Gv → Type 0
IsPair gnil = ⊥
IsPair (gnum n) = ⊥
IsPair (gcons a b) = Unit {0}

mutual
  pub relation_code-inj : (r s : Relation) → relation_code r ≡ relation_code s → r ≡ s
  relation_code-inj (relation_variable n t) (relation_variable m u) p =
      λ i. relation_variable (coded_ℕ.inj n m (ap (λ g. left (right g)) p) i) (coded_type.inj t u (ap (λ g. right (right g)) p) i)
  relation_code-inj (equality t) (equality u) p = λ i. equality (coded_type.inj t u (ap right p) i)
  relation_code-inj (constructed c ts rs) (constructed d us ss) p =
      λ i. constructed (coded_name.inj c d (ap (λ g. left (right g)) p) i) (coded_types.inj ts us (ap (λ g. left (right (right g))) p) i)
      (relations_code-inj rs ss (ap (λ g. right (right (right g))) p) i)
  relation_code-inj r s p = let e : kind (left (relation_code r)) ≡ kind (left (relation_code s)) = ap (λ k. kind (left k)) p in absurd (cc)

  pub relations_code-inj : (rs ss : Relations) → relations_code rs ≡ relations_code ss → rs ≡ ss
  relations_code-inj no_relations no_relations p = refl
  relations_code-inj (relation_and r rs) (relation_and s ss) p = λ i. relation_and (relation_code-inj r s (ap left p) i) (relations_code-inj rs ss (ap right p) i)
  relations_code-inj no_relations (relation_and s ss) p = absurd (subst IsPair (sym p) tt)
  relations_code-inj (relation_and r rs) no_relations p = absurd (subst IsPair p tt)

abbrev pub coded_relation : Coded Relation
coded_relation = record { code = relation_code; inj = relation_code-inj }
