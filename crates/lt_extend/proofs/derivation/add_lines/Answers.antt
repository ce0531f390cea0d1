use Rattle.std.proofs.Common.{◌+◌, length, ap, sym}
use Rattle.lt_hol.specs.Lines.{trees, rule_of, is_within}
use Rattle.lt_kernel.proofs.GrowingLemmas.{stays-on}
use Rattle.lt_extend.proofs.Stands.{stands-still}
use Rattle.lt_extend.proofs.LineOutcomes.{line-within, derived-next, derived-wrong}
use Rattle.lt_extend.proofs.derivation.add_lines.Goals as goal

pub add_line-requires-clause-within : goal.add_line-requires-clause-within
add_line-requires-clause-within g c =
    line-within (is_within (length c.args.lines.now.nodes)) c.args.lines.now.lines c.loop-i.i c.at.result.now c.args.lines.now.within c.at.ensures

pub returns-in-Err-clause-derives : goal.returns-in-Err-clause-derives
returns-in-Err-clause-derives g c = λ ctx stands. let now = stands-still ctx c.args.proof.now c.loop-i.proof stands c.loop-i.invariant.stays in
    derived-wrong ctx (rule_of (trees c.args.lines.now.nodes)) c.args.lines.now.lines c.loop-i.i (c.loop-i.i + 1) c.at.result.now c.loop-i.proof c.add_line.new.proof c.in-Err.fault now c.at.ensures
    (ap (λ k. k + 1) (sym c.loop-i.invariant.count)) (c.loop-i.invariant.derived ctx stands) (λ done has. c.in-Err.ensures.derives ctx done now has)

pub loop-i-preserved : goal.loop-i-preserved
loop-i-preserved g c = record {
  stays = stays-on c.args.proof.now c.loop-i.proof c.add_line.new.proof c.loop-i.invariant.stays c.in-Ok.ensures.stays;
  derived = λ ctx stands. let now = stands-still ctx c.args.proof.now c.loop-i.proof stands c.loop-i.invariant.stays in
      derived-next ctx (rule_of (trees c.args.lines.now.nodes)) c.args.lines.now.lines c.loop-i.i (c.loop-i.i + 1) c.at.result.now c.loop-i.proof c.add_line.new.proof now c.at.ensures
      (c.loop-i.invariant.derived ctx stands) (λ done has. c.in-Ok.ensures.derives ctx done now has);
  count = c.in-Ok.ensures.count;
}
