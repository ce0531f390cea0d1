use Rattle.std.proofs.Common.{rules, ◌≤◌, ◌+◌, ◌++◌, ◌∙◌, ap}
use Rattle.lt_gen.proofs.Pieces.{repeated_more}
use Rattle.lt_gen.proofs.generated.add_repeated.Goals as goal

pub times-preserved : goal.times-preserved
times-preserved c =
    let done : c.times.done + 1 ≤ c.args.times = search rules in
    record {
      text = c.in_ok-signs.ensures ∙ ap (λ z. z ++ c.args.signs.now) c.times.invariant.text ∙ repeated_more c.times.done c.args.signs.now c.args.text.now;
      done = done;
    }
