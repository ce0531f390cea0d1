use Rattle.std.proofs.Common.{◌≡◌}
use Rattle.lt_terms.specs.Layout.{term_size}
use Rattle.lt_transport_definitions.specs.Forms.{implied_by}
use Rattle.lt_forms.proofs.StatementLemmas.{implied_behind}
use Rattle.lt_forms.proofs.statements.implied_by.Given as goal

abbrev pub invariant-loop-premise : goal.invariant-loop-premise
invariant-loop-premise l = implied_behind l.premises.items l.rest ≡ implied_by l.fn.t

abbrev pub decreases-loop-premise : goal.decreases-loop-premise
decreases-loop-premise l = term_size l.rest
