-- The registry before the first registration meets what the laws ask of one.
use Rattle.lt_definitions.specs.Types.{Chars, same_name, bool}
use Rattle.lt_definitions.specs.Typing.{earlier}
use Rattle.lt_transport_definitions.specs.Relations.{built_in_registry, function_relator_name, relator_for, Kind, no_constructor, a_relator, a_correspondence, kind_of}
use Rattle.std.proofs.Common.{◌≡◌, [], Bool, true, false, cond, Some, None, refl, subst, sym, ap, ◌∙◌, inl, inr}
use Rattle.std.specs.Prelude.{codes, option_map, unwrap_or}
use Rattle.lt_definitions.proofs.SameNames.{bool_cases, name-true}
use Rattle.lt_transport_laws.specs.Statements.{IsRegistry}

-- what a name is, by whether it is rel_fun and whether it is imp
abbrev kind_by : Bool → Bool → Kind
kind_by b e = unwrap_or (earlier (option_map a_relator (cond b (Some (codes "fun")) None))
    (earlier (option_map a_correspondence (cond e (Some (record { name = codes "imp"; raw = bool; con = codes "bool"; parameters = [] })) None)) None)) no_constructor

kind-is : (c : Chars) → kind_of built_in_registry c ≡ kind_by (same_name c function_relator_name) (same_name c (codes "imp"))
kind-is c = refl

no-relator : (e : Bool) (K : Chars) → kind_by false e ≡ a_relator K → ⊥
no-relator true K h = absurd (cc)
no-relator false K h = absurd (cc)

built-in-names : (K c : Chars) → relator_for built_in_registry K ≡ Some c → kind_of built_in_registry c ≡ a_relator K
built-in-names K c h = elim (bool_cases (same_name K (codes "fun"))) [
  | inl e ↦
      let k : Some function_relator_name ≡ Some c = subst (λ b. cond b (Some function_relator_name) None ≡ Some c) e h in
      let p : function_relator_name ≡ c = cc in
      let q : K ≡ codes "fun" = name-true K (codes "fun") e in
      subst (λ x. kind_of built_in_registry x ≡ a_relator K) p (ap a_relator (sym q))
  | inr e ↦ absurd (let k : None ≡ Some c = subst (λ b. cond b (Some function_relator_name) None ≡ Some c) e h in cc)
]

built-in-relators : (K c : Chars) → kind_of built_in_registry c ≡ a_relator K → relator_for built_in_registry K ≡ Some c
built-in-relators K c h = elim (bool_cases (same_name c function_relator_name)) [
  | inl e ↦
      let p : c ≡ function_relator_name = name-true c function_relator_name e in
      let k : a_relator (codes "fun") ≡ a_relator K = subst (λ x. kind_of built_in_registry x ≡ a_relator K) p h in
      let q : codes "fun" ≡ K = cc in
      subst (λ x. relator_for built_in_registry x ≡ Some c) q (ap Some (sym p))
  | inr e ↦ absurd (no-relator (same_name c (codes "imp")) K (subst (λ b. kind_by b (same_name c (codes "imp")) ≡ a_relator K) e (sym (kind-is c) ∙ h)))
]

pub built-in : IsRegistry built_in_registry
built-in = record { names = built-in-names; relators = built-in-relators; truth = refl }
