use Rattle.std.proofs.Common.{◌≡◌, ◌∙◌, ◌&&◌, ◌||◌, Bool, ap}
use Rattle.std.specs.List.{list_all}
use Rattle.std.proofs.Common.{codes}
use Rattle.lt_transport_definitions.specs.Relations.{constructed, relation_row, property_rule_for, kind_of}
use Rattle.lt_transport_definitions.specs.Expressions.{is_equality, is_relator}
use Rattle.lt_relations.specs.Holdings.{rule_test, side_test_at}
use Rattle.lt_relations.proofs.HoldingLemmas.{equalities-told}
use Rattle.lt_relations.proofs.relations.Relations.held_by.Goals as goal

pub returns : goal.returns
returns c ts rs e =
    let G = c.args.self.now in
    let name = c.args.name.now in
    let equal : c.is_equality_over-equality.result ≡ is_equality G (constructed name ts (relation_row rs)) =
    c.is_equality_over-equality.ensures
    ∙ ap (λ args. is_relator (kind_of G name) && list_all (λ h. h.equality) args) e
    ∙ ap (λ b. is_relator (kind_of G name) && b) (equalities-told G rs) in
    λ i. record {
      equality = equal i;
      left_total = (c.has_over.ensures rs e ∙ ap (λ (b : Bool). b || rule_test (property_rule_for G (codes "left_total") name) (side_test_at G (relation_row rs))) equal) i;
      right_total = (c.has_over-2.ensures rs e ∙ ap (λ (b : Bool). b || rule_test (property_rule_for G (codes "right_total") name) (side_test_at G (relation_row rs))) equal) i;
      left_unique = (c.has_over-3.ensures rs e ∙ ap (λ (b : Bool). b || rule_test (property_rule_for G (codes "left_unique") name) (side_test_at G (relation_row rs))) equal) i;
      right_unique = (c.has_over-4.ensures rs e ∙ ap (λ (b : Bool). b || rule_test (property_rule_for G (codes "right_unique") name) (side_test_at G (relation_row rs))) equal) i;
      bi_total = (c.has_over-5.ensures rs e ∙ ap (λ (b : Bool). b || rule_test (property_rule_for G (codes "bi_total") name) (side_test_at G (relation_row rs))) equal) i;
      bi_unique = (c.has_over-6.ensures rs e ∙ ap (λ (b : Bool). b || rule_test (property_rule_for G (codes "bi_unique") name) (side_test_at G (relation_row rs))) equal) i;
    }
