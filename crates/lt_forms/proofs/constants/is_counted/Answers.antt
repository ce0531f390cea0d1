use Rattle.std.proofs.Common.{◌∙◌, sym, ap, Some}
use Rattle.lt_transport_definitions.specs.Constants.{is_declared_as}
use Rattle.lt_forms.proofs.SameTypes.{counted-as}
use Rattle.lt_forms.proofs.constants.is_counted.Goals as goal

pub returns : goal.returns
returns c =
    c.in_ok-is_declared_as.ensures ∙ ap (is_declared_as c.args.sig.now c.args.name.now) c.in_ok-ty.ensures
    ∙ counted-as c.args.sig.now c.args.name.now _ c.requires
