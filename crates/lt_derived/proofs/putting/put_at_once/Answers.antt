use Rattle.std.proofs.Common.{◌∙◌, sym}
use Rattle.lt_definitions.specs.Rules.{line_at}
use Rattle.lt_kernel.specs.State.{sequents}
use Rattle.lt_derived.proofs.Replaced.{put-clear}
use Rattle.lt_derived.proofs.putting.put_at_once.Goals as goal

pub returns-then-are_clear-clause-line : goal.returns-then-are_clear-clause-line
returns-then-are_clear-clause-line g c = λ p e.
    put-clear c.args.names.now c.args.types.now p (line_at (sequents c.args.proof.now) c.args.i) (line_at (sequents c.put_each.new.proof) c.in_ok-put_each.field-0)
    (sym c.are_clear.ensures ∙ c.if-are_clear.true) e c.in_ok-put_each.ensures.line
