-- What is told of a lemma whose lines have sequents.
use Rattle.std.proofs.Common.{◌≡◌, ℕ, List, length, Result, Ok, sym, ◌∙◌, ap}
use Rattle.lt_definitions.specs.Terms.{TermTree}
use Rattle.lt_definitions.specs.Rules.{Sequent, line_at}
use Rattle.lt_definitions.specs.Derivations.{LineFault}
use Rattle.lt_definitions.specs.Theory.{proof_test}
use Rattle.lt_extend.specs.Proving.{unproved}
use Rattle.lt_extend.proofs.Tested.{last-at}

pub proof-tested : (t : TermTree) (d : Result (List Sequent) (ℕ × LineFault)) (done : List Sequent) (n : ℕ) → d ≡ Ok done → n ≡ length done → proof_test t d ≡ unproved t (line_at done n)
proof-tested t d done n e m = ap (proof_test t) e ∙ ap (unproved t) (last-at done ∙ ap (line_at done) (sym m))
