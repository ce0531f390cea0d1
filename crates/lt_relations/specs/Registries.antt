-- The registry that is kept, what a name is in it, and how it is cut.
use Rattle.std.specs.Prelude.{◌≡◌, List, [], Bool, Option, map, codes, take, option_map, unwrap_or}
use Rattle.std.specs.List.{list_any, flat_map}
use Rattle.lt_definitions.specs.Types.{Chars, same_name, bool}
use Rattle.lt_definitions.specs.Typing.{earlier}
use Rattle.lt_transport_definitions.specs.Relations as registry
use Rattle.lt_transport_definitions.specs.Relations.{Registry, no_constructor, a_relator, a_correspondence, a_form, correspondence_of, form_named, function_relator_name}
use Rattle.lt_relations.specs.declared.entries.Relator.{Relator}
use Rattle.lt_relations.specs.declared.entries.Correspondence.{Correspondence}
use Rattle.lt_relations.specs.declared.entries.Param.{Param}
use Rattle.lt_relations.specs.declared.entries.PropertyRule.{PropertyRule}
use Rattle.lt_relations.specs.declared.entries.DomainRule.{DomainRule}
use Rattle.lt_relations.specs.declared.relations.Kind.{Kind}
use Rattle.lt_relations.specs.declared.relations.Kind.TheVariants.{NoConstructor, Relator as ARelator, Correspondence as ACorrespondence, Form}
use Rattle.lt_relations.specs.declared.relations.RelationsMark.{RelationsMark}
use Rattle.lt_relations.specs.Told.{relator_told, correspondence_told, param_told, property_rule_told, domain_rule_told}
use Rattle.lt_relations.specs.Tables.{things_told, AreKeyed}

-- the registry of tables, by the definitions
abbrev pub registry_told : List (Chars × Relator) → List (Chars × Correspondence)
    → List (Chars × Param) → List PropertyRule → List (Chars × DomainRule) → Registry
registry_told relators correspondences forms property_rules domain_rules = record {
  relators = things_told relator_told relators;
  correspondences = things_told correspondence_told correspondences;
  forms = things_told param_told forms;
  property_rules = map property_rule_told property_rules;
  domain_rules = things_told domain_rule_told domain_rules;
}

-- The tables agree with one another: each thing stands under its key, and what has a second name
-- is known by it.
pub record AreKept (fun_name rel_fun_name : Chars) (relators : List (Chars × Relator))
    (relator_types : List (Chars × Chars)) (correspondences : List (Chars × Correspondence))
    (forms : List (Chars × Param)) (form_of : List (Chars × Chars))
    (domain_rules : List (Chars × DomainRule)) : Type 0 where
  pub functions : fun_name ≡ codes "fun"
  pub function_relator : rel_fun_name ≡ function_relator_name
  pub by_type : AreKeyed (λ r. r.con) relators
  pub by_relator : relator_types ≡ map (λ e. (e.1.rel, e.1.con)) relators
  pub by_name : AreKeyed (λ d. d.name) correspondences
  pub by_correspondence : AreKeyed (λ p. p.of) forms
  pub by_form : form_of ≡ map (λ e. (e.1.name, e.1.of)) forms
  pub by_head : AreKeyed (λ r. r.head) domain_rules

-- implication, a correspondence of truth values with themselves
abbrev pub built_in_implication : registry.Correspondence
built_in_implication =
    record { name = codes "imp"; raw = bool; con = codes "bool"; parameters = [] }

-- what a name is
abbrev pub kind_told : Kind → registry.Kind
kind_told NoConstructor = no_constructor
kind_told (ARelator con) = a_relator con.now
kind_told (ACorrespondence d) = a_correspondence (correspondence_told d.now)
kind_told (Form d) = a_form (correspondence_told d.now)

-- what a name is that is no relator
abbrev pub kind_without_relators : Registry → Chars → registry.Kind
kind_without_relators G c = unwrap_or (earlier
    (option_map a_correspondence (correspondence_of G c)) (option_map a_form (form_named G c)))
    no_constructor

-- what a name is as a form
abbrev pub kind_as_form : Option registry.Correspondence → registry.Kind
kind_as_form d = unwrap_or (option_map a_form d) no_constructor

-- whether a premise of a registered rule is of the property
abbrev pub needs : Registry → registry.Property → Bool
needs G p = list_any (λ side. same_name p side.0) (flat_map (λ r. r.premises) G.property_rules)

-- the registrations that there were at a mark
abbrev pub cut : RelationsMark → Registry → Registry
cut mark G = record {
  relators = take mark.relators G.relators;
  correspondences = take mark.correspondences G.correspondences;
  forms = take mark.forms G.forms;
  property_rules = take mark.property_rules G.property_rules;
  domain_rules = take mark.domain_rules G.domain_rules;
}
