use Rattle.std.proofs.Common.{◌<◌, ◌∙◌, arith, length, ap, sym, slice_get}
use Rattle.std.specs.Option.{option_and_then}
use Rattle.std.proofs.lemmas.Option.{slice_get-get_or}
use Rattle.lt_hol.specs.Instances.{argument_of}
use Rattle.lt_hol.proofs.VariableNames.{found-position}
use Rattle.lt_hol.proofs.instance.argument_of.Goals as goal

pub bounds-args-i : goal.bounds-args-i
bounds-args-i c = let within = c.in-Some.ensures.within in omega (arith, within, c.requires)

pub returns-in-Some : goal.returns-in-Some
returns-in-Some c =
    let within : c.in-Some.i < length c.args.args.now = let known = c.in-Some.ensures.within in omega (arith, known, c.requires) in
    sym (slice_get-get_or c.args.args.now c.in-Some.i 0 within) ∙ ap (option_and_then (slice_get c.args.args.now)) c.in-Some.ensures.index
    ∙ sym (found-position c.in-Var.name c.args.variables.now.keys c.args.args.now c.requires) ∙ ap (argument_of c.args.variables.now.keys c.args.args.now) (sym c.in-Var.is)

pub returns-in-None : goal.returns-in-None
returns-in-None c =
    ap (option_and_then (slice_get c.args.args.now)) c.in-None.ensures.index
    ∙ sym (found-position c.in-Var.name c.args.variables.now.keys c.args.args.now c.requires) ∙ ap (argument_of c.args.variables.now.keys c.args.args.now) (sym c.in-Var.is)
