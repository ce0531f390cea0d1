use Rattle.std.proofs.Common.{◌+◌, ◌∷◌, [], ◌∙◌, drop}
use Rattle.lt_definitions.specs.Rules.{with_line}
use Rattle.lt_kernel.specs.State.{sequents}
use Rattle.lt_programs.specs.Programs.{followed}
use Rattle.lt_tables.specs.Rules.{rules_of}
use Rattle.lt_derived.proofs.TabledLemmas.{good-now, row-next, row-fails, some-now, following-now, rows-finish}
use Rattle.lt_derived.proofs.tabled.tabled.Goals as goal

pub row_line-requires : goal.row_line-requires
row_line-requires g c = good-now c.args.proof.now c.loop-k.proof c.args.types.now c.args.rows.now c.loop-k.k _ c.loop-k.invariant.carries c.requires c.loop-k-test.true

pub returns-in-Err-clause-reaches : goal.returns-in-Err-clause-reaches
returns-in-Err-clause-reaches g c =
    row-fails c.args.proof.now c.loop-k.proof c.row_line.new.proof c.apply.new.self c.args.types.now c.args.rows.now c.loop-k.numbers.items c.as_slice.result.now c.loop-k.k _
    c.in_ok-line.line _ c.loop-k.invariant.carries c.row_line.ensures.carries c.apply.ensures.carries c.as_slice.ensures.value c.loop-k-test.true c.in_ok-line.ensures.rule
    c.loop-k.invariant.following c.in-Err.fault c.in-Err.ensures.reaches

pub loop-k-preserved : goal.loop-k-preserved
loop-k-preserved g c =
    let old = c.args.proof.now in
    record {
      carries = λ first h. c.apply.ensures.carries first (c.row_line.ensures.carries first (c.loop-k.invariant.carries first h));
      some = some-now c.loop-k.numbers.items c.push-in-loop-k.new.self.items c.in-Ok.number c.in_ok-push-2.ensures.items;
      following = following-now c.apply.new.self old.signature c.loop-k.numbers.items c.push-in-loop-k.new.self.items c.in-Ok.number
          (rules_of c.args.types.now (drop (c.loop-k.k + 1) c.args.rows.now))
          (with_line (sequents old) c.args.given (λ s. followed old.signature (s ∷ []) (rules_of c.args.types.now c.args.rows.now))) c.in_ok-push-2.ensures.items
          (row-next old c.loop-k.proof c.row_line.new.proof c.apply.new.self c.args.types.now c.args.rows.now c.loop-k.numbers.items c.as_slice.result.now c.loop-k.k _
          c.in_ok-line.line (with_line (sequents old) c.args.given (λ s. followed old.signature (s ∷ []) (rules_of c.args.types.now c.args.rows.now)))
          c.loop-k.invariant.carries c.row_line.ensures.carries c.apply.ensures.carries c.as_slice.ensures.value c.loop-k-test.true c.in_ok-line.ensures.rule
          c.loop-k.invariant.following c.in-Ok.number c.in-Ok.ensures.reaches);
    }

pub returns-clause-reaches : goal.returns-clause-reaches
returns-clause-reaches g c =
    rows-finish c.loop-k.proof c.args.proof.now.signature c.args.types.now c.args.rows.now c.loop-k.k c.number_at.result c.len.result c.loop-k.numbers.items c.as_slice-2.result.now _
    c.loop-k-test.false c.loop-k.invariant.some c.as_slice-2.ensures.value (c.len.ensures ∙ c.loop-k.numbers.ok.0) c.number_at.ensures c.loop-k.invariant.following
