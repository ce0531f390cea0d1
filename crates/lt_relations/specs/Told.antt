-- What is registered, as the definitions keep it.
use Rattle.std.specs.Prelude.{ℕ, List, map, codes}
use Rattle.lt_definitions.specs.Types.{Chars}
use Rattle.lt_hol.specs.declared.property.Property.{Property}
use Rattle.lt_hol.specs.declared.property.Property.TheVariants.{LeftTotal, RightTotal, LeftUnique, RightUnique, BiTotal, BiUnique}
use Rattle.lt_transport_definitions.specs.Relations as registry
use Rattle.lt_relations.specs.declared.entries.Relator.{Relator}
use Rattle.lt_relations.specs.declared.entries.Correspondence.{Correspondence}
use Rattle.lt_relations.specs.declared.entries.Param.{Param}
use Rattle.lt_relations.specs.declared.entries.PropertyRule.{PropertyRule}
use Rattle.lt_relations.specs.declared.entries.RelationVariable.{RelationVariable}
use Rattle.lt_relations.specs.declared.entries.DomainRule.{DomainRule}

-- the name of a property's constant
abbrev pub property_name : Property → Chars
property_name LeftTotal = codes "left_total"
property_name RightTotal = codes "right_total"
property_name LeftUnique = codes "left_unique"
property_name RightUnique = codes "right_unique"
property_name BiTotal = codes "bi_total"
property_name BiUnique = codes "bi_unique"

abbrev pub sides_told : List (Property × ℕ) → registry.Sides
sides_told sides = map (λ s. (property_name s.0, s.1)) sides

abbrev pub relator_told : Relator → registry.Relator
relator_told r = record {
  con = r.con;
  rel = r.rel;
  mapping = r.mapping;
  eq = r.eq;
  quot = r.quot;
  comp = r.comp;
}

abbrev pub correspondence_told : Correspondence → registry.Correspondence
correspondence_told d =
    record { name = d.name; raw = d.raw; con = d.con; parameters = d.parameters }

abbrev pub param_told : Param → registry.Parametrised
param_told p = record { name = p.name; of = p.of; eq = p.eq; defined = p.defined }

abbrev pub property_rule_told : PropertyRule → registry.PropertyRule
property_rule_told r = record {
  label = r.label;
  property = property_name r.property;
  head = r.head;
  premises = sides_told r.premises;
}

abbrev pub variable_told : RelationVariable → registry.RelationVariable
variable_told x = record { name = x.name; left_name = x.left_name; right_name = x.right_name }

abbrev pub domain_rule_told : DomainRule → registry.DomainRule
domain_rule_told r = record {
  label = r.label;
  head = r.head;
  variables = map variable_told r.variables;
  type_arguments = r.type_arguments;
  domain = r.domain;
}
