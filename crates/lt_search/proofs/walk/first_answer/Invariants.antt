use Rattle.std.proofs.Common.{◌≡◌, ◌+◌, ◌*◌, ◌-◌, ◌≤◌, length}
use Rattle.lt_search.specs.Walks.{StandsAt}
use Rattle.lt_search.proofs.walk.first_answer.Given as goal

abbrev pub invariant-walk : goal.invariant-walk
invariant-walk g l =
    let question = g.P.Prefixes.question in
    let choices = g.P.Prefixes.choices in
    record {
      asked : question l.prefixes ≡ question l.fn.prefixes;
      stands : StandsAt (question l.fn.prefixes) (choices l.prefixes) l.next l.visits;
      within : l.visits ≤ l.fn.limit;
    }

abbrev pub decreases-walk : goal.decreases-walk
decreases-walk g l = 2 * (l.fn.limit - l.visits) + length (g.P.Prefixes.choices l.prefixes)
