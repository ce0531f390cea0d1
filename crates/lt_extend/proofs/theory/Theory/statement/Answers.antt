use Rattle.std.proofs.Common.{◌∙◌, ap}
use Rattle.lt_definitions.specs.Types.{found}
use Rattle.lt_types.proofs.MapLemmas.{looked_up}
use Rattle.lt_extend.specs.Theories.{Holding, context_behind}
use Rattle.lt_extend.proofs.theory.Theory.statement.Goals as goal

pub returns : goal.returns
returns g c =
    c.get.ensures.value ∙ looked_up c.args.label.now c.self.inside.statements.entries ∙ ap (found c.args.label.now) c.self.invariant.statements ∙ ap (λ (h : Holding). found c.args.label.now (context_behind h.items).statements) c.self.view_is
