use Rattle.std.proofs.Common.{◌≡◌, length}
use Rattle.lt_definitions.specs.Items.{Context}
use Rattle.lt_hol.specs.Lines.{rules_of}
use Rattle.lt_kernel.specs.State.{Stays}
use Rattle.lt_extend.specs.Standing.{StandsFor}
use Rattle.lt_extend.proofs.LineOutcomes.{IsDerivedTo}
use Rattle.lt_extend.proofs.derivation.add_lines.Given as goal

abbrev pub invariant-loop-i : goal.invariant-loop-i
invariant-loop-i g l = record {
  stays : Stays l.fn.proof l.proof;
  derived : (ctx : Context) → StandsFor ctx l.fn.proof → IsDerivedTo ctx (rules_of l.lines.nodes l.lines.lines) l.i l.proof;
  count : length l.proof.steps ≡ l.i;
}
