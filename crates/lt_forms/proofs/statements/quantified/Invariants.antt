use Rattle.std.proofs.Common.{◌≡◌}
use Rattle.lt_terms.specs.Layout.{term_size}
use Rattle.lt_transport_definitions.specs.Reading.{quantified}
use Rattle.lt_forms.proofs.StatementLemmas.{quantified_behind}
use Rattle.lt_forms.proofs.statements.quantified.Given as goal

abbrev pub invariant-loop-name : goal.invariant-loop-name
invariant-loop-name l = quantified_behind l.binders.items l.rest ≡ quantified l.fn.t

abbrev pub decreases-loop-name : goal.decreases-loop-name
decreases-loop-name l = term_size l.rest
