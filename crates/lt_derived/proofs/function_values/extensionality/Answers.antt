use Rattle.std.proofs.Common.{Ok, Err}
use Rattle.lt_definitions.specs.Rules.{with_line}
use Rattle.lt_kernel.specs.State.{sequents}
use Rattle.lt_programs.specs.Extensionality.{functions_equal}
use Rattle.lt_derived.proofs.Stated.{same-reaches}
use Rattle.lt_derived.proofs.UnfoldingLemmas.{still-sound}
use Rattle.lt_derived.proofs.FunctionSteps.{functions-fail, functions-given, closed-equation}
use Rattle.lt_derived.proofs.function_values.extensionality.Goals as goal

pub returns-in-Err-clause-reaches : goal.returns-in-Err-clause-reaches
returns-in-Err-clause-reaches g c =
    let old = c.args.proof.now in
    same-reaches c.abs.new.self (Err c.in-Err.fault) (with_line (sequents old) c.args.i (functions_equal c.in_ok-x.x c.in_ok-ty.ty))
    (with_line (sequents old) c.args.i (functions_equal c.args.x.now c.args.ty.now))
    (λ k. with_line (sequents old) c.args.i (functions_equal (c.in_ok-x.ensures k) (c.in_ok-ty.ensures k)))
    (functions-fail old c.abs.new.self c.in_ok-x.x c.in_ok-ty.ty c.args.i c.in-Err.fault c.in-Err.ensures.reaches)

pub contract_both-requires-clause-sound : goal.contract_both-requires-clause-sound
contract_both-requires-clause-sound g c = still-sound c.args.proof.now c.abs.new.self c.abs.ensures.carries c.requires.sound

pub contract_both-requires-clause-form : goal.contract_both-requires-clause-form
contract_both-requires-clause-form g c =
    closed-equation c.args.proof.now c.abs.new.self c.in_ok-x.x c.in_ok-ty.ty c.args.i c.in-Ok.number c.in-Ok.ensures.reaches

pub returns-clause-reaches : goal.returns-clause-reaches
returns-clause-reaches g c =
    let old = c.args.proof.now in
    same-reaches c.contract_both.new.proof (Ok c.in_ok-line.line) (with_line (sequents old) c.args.i (functions_equal c.in_ok-x.x c.in_ok-ty.ty))
    (with_line (sequents old) c.args.i (functions_equal c.args.x.now c.args.ty.now))
    (λ k. with_line (sequents old) c.args.i (functions_equal (c.in_ok-x.ensures k) (c.in_ok-ty.ensures k)))
    (functions-given old c.abs.new.self c.in_ok-x.x c.in_ok-ty.ty c.args.i c.in-Ok.number c.in-Ok.ensures.reaches c.contract_both.new.proof c.in_ok-line.line c.in_ok-line.ensures.line)
