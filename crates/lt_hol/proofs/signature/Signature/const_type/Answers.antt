use Rattle.std.proofs.Common.{◌∙◌, ap}
use Rattle.lt_definitions.specs.Types.{found}
use Rattle.lt_definitions.specs.Typing.{Signature}
use Rattle.lt_types.proofs.MapLemmas.{looked_up}
use Rattle.lt_hol.proofs.signature.Signature.const_type.Goals as goal

pub returns : goal.returns
returns c =
    c.get.ensures.value ∙ looked_up c.args.name.now c.self.inside.consts.entries ∙ ap (λ (s : Signature). found c.args.name.now s.consts) c.self.view_is
