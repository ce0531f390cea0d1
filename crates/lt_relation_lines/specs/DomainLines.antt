-- The domain of a relation, as a derivation.
-- Source: Kunčar's thesis, for domains by registered equations.
use Rattle.std.specs.Prelude.{ℕ, zero, suc, ◌+◌, List, [], ◌∷◌, ◌++◌, if◌then◌else◌, map, Option, Some, None, Ok, Err, codes, unwrap_or, option_map, length}
use Rattle.std.specs.List.{zip}
use Rattle.lt_definitions.specs.Types.{Chars, same_name, found, TypeTree, TypeMap, type_instance, bool, fun, row, types_names}
use Rattle.lt_definitions.specs.Typing.{with_ok}
use Rattle.lt_definitions.specs.Rules.{with_found}
use Rattle.lt_definitions.specs.declared.reason.Reason.TheVariants.{UnknownLabel}
use Rattle.lt_nameless.specs.Nameless.{Nameless, nameless, nameless_free, nameless_bound, nameless_loose, nameless_constant, nameless_application, nameless_abstraction, NamelessSequent}
use Rattle.lt_nameless.specs.NamelessRules.{NamelessOutcome, nameless_refl_gives, applied_both, linked, turned}
use Rattle.lt_programs.specs.Programs.{statement_at, at_arguments}
use Rattle.lt_transport_definitions.specs.Expressions.{left, right}
use Rattle.lt_transport_definitions.specs.Relations.{Relation, relation_variable, equality, constructed, Relations, no_relations, relation_and, RelationVariable, DomainRule, Registry, domain_rule_for}
use Rattle.lt_transport_definitions.specs.RelationTerms.{plain_domain, domain_of, argument_map}
use Rattle.lt_relation_lines.specs.Grounds.{Ground, term_of, terms_of, constant_types}
use Rattle.lt_relation_lines.specs.SideLines.{head_types}

-- Domainp of each argument, and the domain of each
abbrev pub plain_domains : Registry → Relations → List Nameless
plain_domains G no_relations = []
plain_domains G (relation_and r rs) = nameless [] (plain_domain G r) ∷ plain_domains G rs

abbrev pub domains_of : Registry → Relations → List Nameless
domains_of G no_relations = []
domains_of G (relation_and r rs) = nameless [] (domain_of G r) ∷ domains_of G rs

-- What stands for a relation variable in a frame: a relation's term, and the index of the bound
-- name for its domain.
abbrev pub Hole : Type 0
Hole = Chars × Nameless × ℕ

-- these names and terms; the last one has the index zero
abbrev pub holes_of : List RelationVariable → List Nameless → List Hole
holes_of (x ∷ xs) (t ∷ ts) = (x.name, t, length xs) ∷ holes_of xs ts
holes_of _ _ = []

abbrev pub hole_for : Chars → List Hole → Option (Nameless × ℕ)
hole_for x [] = None
hole_for x (h ∷ hs) = if same_name x h.0 then Some (h.1, h.2) else hole_for x hs

-- the bound name for Domainp of a relation variable, under so many binders
abbrev pub hole_at : ℕ → List Hole → Nameless → Nameless → Option Nameless
hole_at k hs (nameless_constant c ts) (nameless_free x ty) =
    if same_name c (codes "Domainp")
    then option_map (λ h. nameless_bound (k + h.1)) (hole_for x hs) else None
hole_at k hs f a = None

-- a domain with types put, a bound name for each Domainp of a relation variable, and a term for
-- each other relation variable
abbrev pub framed : ℕ → TypeMap → List Hole → Nameless → Nameless
framed k m hs (nameless_free x ty) =
    unwrap_or (option_map (λ h. h.0) (hole_for x hs)) (nameless_free x (type_instance m ty))
framed k m hs (nameless_bound i) = nameless_bound i
framed k m hs (nameless_loose x) = nameless_loose x
framed k m hs (nameless_constant c ts) = nameless_constant c (map (type_instance m) ts)
framed k m hs (nameless_application f a) =
    unwrap_or (hole_at k hs f a) (nameless_application (framed k m hs f) (framed k m hs a))
framed k m hs (nameless_abstraction ty b) =
    nameless_abstraction (type_instance m ty) (framed (suc k) m hs b)

-- \z1 .. zn. b, where zi is a predicate on the left type of the i-th relation
abbrev pub over_domains : Registry → Relations → Nameless → Nameless
over_domains G no_relations b = b
over_domains G (relation_and r rs) b =
    nameless_abstraction (fun (left G r) bool) (over_domains G rs b)

-- the domain of a rule as a function of the arguments' domains
abbrev pub domain_frame : Registry → DomainRule → List TypeTree → Relations → Nameless
domain_frame G d ts rs =
    over_domains G rs (framed 0 (argument_map G d.variables rs ++ zip d.type_arguments ts)
    (holes_of d.variables (terms_of G rs)) (nameless [] d.domain))

-- the type variables of a statement all A1 .. An. Domainp (H A1 .. An) = d, in the order of the
-- type arguments of H
abbrev pub domain_names : Nameless → List Chars
domain_names (nameless_application (nameless_constant c ts) (nameless_abstraction ty b)) =
    domain_names b
domain_names (nameless_application (nameless_application e (nameless_application p h)) d) =
    types_names (row (head_types h))
domain_names _ = []

-- |- Domainp (H R1 .. Rn) = d, where d has Domainp of the Ri
abbrev pub rule_domain : Ground → DomainRule → List TypeTree → Relations → NamelessOutcome
rule_domain g d ts rs =
    with_found UnknownLabel (found d.label g.named) (λ q.
    statement_at g.signature (zip (domain_names q) (constant_types g.registry ts rs))
    (terms_of g.registry rs) q)

-- from |- p = d, what equates f D1 .. Dn with f E1 .. En, and f = f: |- p = f E1 .. En, opened
abbrev pub reframed : Ground → List Nameless → List Nameless → NamelessSequent → NamelessSequent
    → NamelessSequent → NamelessOutcome
reframed g plain made same law both =
    with_ok (at_arguments g.signature plain same) (λ before.
    with_ok (at_arguments g.signature made same) (λ after.
    with_ok (turned before) (λ back.
    with_ok (linked law back) (λ first.
    with_ok (linked first both) (λ second.
    linked second after)))))

-- the same by a registered equation, or |- Domainp R = Domainp R where there is none
abbrev pub domain_by_rule : Ground → Option DomainRule → Relation → List TypeTree → Relations
    → (NamelessSequent → NamelessOutcome) → NamelessOutcome
domain_by_rule g None r ts rs equal =
    nameless_refl_gives g.signature (nameless [] (plain_domain g.registry r))
domain_by_rule g (Some d) r ts rs equal =
    with_ok (rule_domain g d ts rs) (λ law.
    with_ok (nameless_refl_gives g.signature (domain_frame g.registry d ts rs)) (λ same.
    with_ok (equal same) (λ both.
    reframed g (plain_domains g.registry rs) (domains_of g.registry rs) same law both)))

-- |- Domainp R = d, where d is the domain of R: by the equation that is registered for the
-- constructor of R, in which Domainp of each argument is then equated with the argument's domain.
abbrev mutual
  pub domain_gives : Ground → Relation → NamelessOutcome
  domain_gives g (relation_variable n t) =
      nameless_refl_gives g.signature (nameless [] (plain_domain g.registry (equality t)))
  domain_gives g (equality t) =
      nameless_refl_gives g.signature (nameless [] (plain_domain g.registry (equality t)))
  domain_gives g (constructed c ts rs) =
      domain_by_rule g (domain_rule_for g.registry c) (constructed c ts rs) ts rs
      (equal_domains g rs)

  -- from |- f = g: |- f D1 .. Dn = g E1 .. En
  pub equal_domains : Ground → Relations → NamelessSequent → NamelessOutcome
  equal_domains g no_relations s = Ok s
  equal_domains g (relation_and r rs) s =
      with_ok (domain_gives g r) (λ u. with_ok (applied_both s u) (equal_domains g rs))
