use Rattle.std.proofs.Common.{◌∙◌, ◌∷◌, ◌++◌, [], ap, map, is_some}
use Rattle.lt_definitions.specs.Types.{found}
use Rattle.lt_relations.specs.Told.{relator_told, correspondence_told, param_told, property_rule_told, domain_rule_told}
use Rattle.lt_relations.specs.Tables.{things_told}
use Rattle.lt_relations.proofs.TableLemmas.{keyed-none, keyed-one, named-none}
use Rattle.lt_relations.proofs.relations.Relations.new.Goals as goal

pub add-requires : goal.add-requires
add-requires c = ap (λ es. is_some (found c.in_ok-copy.field-0 es)) c.new-correspondences.ensures

pub invariant_of-result : goal.invariant_of-result
invariant_of-result c = record {
  functions = c.in_ok-word.ensures;
  function_relator = c.in_ok-word-2.ensures;
  by_type = keyed-none (λ r. r.con) c.new.result c.new.ensures;
  by_relator = named-none (λ e. (e.1.rel, e.1.con)) c.new.result c.new-2.result c.new.ensures c.new-2.ensures;
  by_name = keyed-one (λ d. d.name) c.new-correspondences.result c.add.new.self c.in_ok-copy.field-0 c.in_ok-implication.implication c.new-correspondences.ensures
      c.in_ok-add.ensures.ok c.in_ok-copy.ensures;
  by_correspondence = keyed-none (λ p. p.of) c.new-3.result c.new-3.ensures;
  by_form = named-none (λ e. (e.1.name, e.1.of)) c.new-3.result c.new-4.result c.new-3.ensures c.new-4.ensures;
  by_head = keyed-none (λ r. r.head) c.new-6.result c.new-6.ensures;
}

pub returns : goal.returns
returns c = λ i. record {
  relators = ap (things_told relator_told) c.new.ensures i;
  correspondences = (ap (things_told correspondence_told) (c.in_ok-add.ensures.ok ∙ ap (λ es. es ++ (c.in_ok-copy.field-0, c.in_ok-implication.implication) ∷ []) c.new-correspondences.ensures)
      ∙ ap (λ d. d ∷ []) c.in_ok-implication.ensures) i;
  forms = ap (things_told param_told) c.new-3.ensures i;
  property_rules = ap (map property_rule_told) c.new-5.ensures i;
  domain_rules = ap (things_told domain_rule_told) c.new-6.ensures i;
}
