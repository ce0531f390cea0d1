use Rattle.std.proofs.Common.{rules, ◌≤◌, ◌+◌, ◌++◌, ◌∙◌, ap}
use Rattle.lt_transport_definitions.specs.GeneratedTexts.{generated_transport}
use Rattle.lt_gen.proofs.Pieces.{numbered_more}
use Rattle.lt_gen.proofs.generated.add_transports.Goals as goal

pub transports-preserved : goal.transports-preserved
transports-preserved c =
    let k : c.transports.k + 1 ≤ c.args.n = search rules in
    record {
      text = c.in_ok-add_transport.ensures ∙ ap (λ z. z ++ generated_transport (c.transports.k + 1)) c.transports.invariant.text ∙ numbered_more generated_transport c.transports.k c.args.text.now;
      k = k;
    }
