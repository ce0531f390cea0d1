use Rattle.std.proofs.Common.{◌+◌, drop}
use Rattle.lt_relating.specs.Walks.{parts_at}
use Rattle.lt_relating.proofs.WalkLemmas.{whole_of, comes, kept-line}
use Rattle.lt_relating.proofs.relating.relate_statement.Goals as goal

pub relate_next-requires : goal.relate_next-requires
relate_next-requires g c =
    comes c.args.proof.now c.loop-k.proof c.args.labels.now c.args.parts.now c.requires.sound c.requires.parts c.loop-k.invariant.carries c.count_lines-count.result c.loop-k.k
    c.count_lines-count.ensures c.loop-k.lines.items c.loop-k.invariant.along c.part_at-part.result.now c.part_at-part.ensures

pub returns-in-Err-clause-reaches : goal.returns-in-Err-clause-reaches
returns-in-Err-clause-reaches g c =
    c.in-Err.ensures.leads
    (comes c.args.proof.now c.loop-k.proof c.args.labels.now c.args.parts.now c.requires.sound c.requires.parts c.loop-k.invariant.carries c.count_lines-count.result c.loop-k.k
    c.count_lines-count.ensures c.loop-k.lines.items c.loop-k.invariant.along c.part_at-part.result.now c.part_at-part.ensures)

pub loop-k-preserved : goal.loop-k-preserved
loop-k-preserved g c = record {
  carries = λ first h. c.relate_next.ensures.carries first (c.loop-k.invariant.carries first h);
  along = kept-line c.relate_next.new.proof c.args.proof.now c.args.labels.now c.relate_next.new.lines.items c.keep_line.new.lines.items c.in-Ok.number
      (parts_at c.args.proof.now.nodes (drop (c.loop-k.k + 1) c.args.parts.now)) (whole_of c.args.proof.now c.args.labels.now c.args.parts.now) c.in_ok-keep_line.ensures
      (c.in-Ok.ensures.leads
      (comes c.args.proof.now c.loop-k.proof c.args.labels.now c.args.parts.now c.requires.sound c.requires.parts c.loop-k.invariant.carries c.count_lines-count.result c.loop-k.k
      c.count_lines-count.ensures c.loop-k.lines.items c.loop-k.invariant.along c.part_at-part.result.now c.part_at-part.ensures));
}
