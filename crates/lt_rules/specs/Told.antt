-- Rules as the definitions have them.
use Rattle.std.specs.Prelude.{map}
use Rattle.lt_transport_definitions.specs.RuleForm as forms
use Rattle.lt_relations.specs.Told.{variable_told, sides_told}
use Rattle.lt_rules.specs.declared.rule.TransferRule.{TransferRule}

abbrev pub rule_told : TransferRule → forms.TransferRule
rule_told r = record {
  label = r.label;
  variables = map variable_told r.vars;
  sides = sides_told r.sides;
  relation = r.rel;
  raw = r.raw;
  constant = r.constant;
  pattern = r.pattern;
}
