use Rattle.std.proofs.Common.{◌∙◌, ap, sym, map, false, true}
use Rattle.lt_expressions.specs.Layout.{grow}
use Rattle.lt_transport_definitions.specs.Relations.{relation_variable, equality}
use Rattle.lt_relations.specs.Holdings.{holding}
use Rattle.lt_relations.proofs.HoldingLemmas.{all-so, last-told}
use Rattle.lt_relations.proofs.relations.Relations.put_holding.Goals as goal

pub returns-in_ok-with_holding-in-Var : goal.returns-in_ok-with_holding-in-Var
returns-in_ok-with_holding-in-Var c before e =
    c.in_ok-with_holding-in-Var.ensures
    ∙ last-told c.args.self.now before c.args.made.items c.all.result (relation_variable c.in-Var.field-0 c.in-Var.field-1) e (all-so c.all.result false c.all.ensures.equality c.all.ensures.properties)
    ∙ ap (λ n. map (holding c.args.self.now) (grow before n)) (sym c.in-Var.is)

pub returns-in_ok-with_holding-in-Eq : goal.returns-in_ok-with_holding-in-Eq
returns-in_ok-with_holding-in-Eq c before e =
    c.in_ok-with_holding-in-Eq.ensures
    ∙ last-told c.args.self.now before c.args.made.items c.all-in-Eq.result (equality c.in-Eq.field-0) e (all-so c.all-in-Eq.result true c.all-in-Eq.ensures.equality c.all-in-Eq.ensures.properties)
    ∙ ap (λ n. map (holding c.args.self.now) (grow before n)) (sym c.in-Eq.is)
