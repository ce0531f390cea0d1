use Rattle.std.proofs.Common.{◌∙◌, ◌++◌, ap, arith, take, length}
use Rattle.lt_definitions.specs.Printing.{printed_lines}
use Rattle.lt_hol.specs.Lines.{trees, rule_of, rules_of, is_within}
use Rattle.lt_syntax.proofs.LineTexts.{line_added, line_within, one-more-line, all-lines}
use Rattle.lt_syntax.proofs.lines.write_lines.Goals as goal

pub write_rule-requires : goal.write_rule-requires
write_rule-requires c = line_within (is_within (length c.args.lines.now.nodes)) c.args.lines.now.lines c.loop-i.i c.at.result.now c.args.lines.now.within c.at.ensures

pub loop-i-preserved : goal.loop-i-preserved
loop-i-preserved c =
    line_added c.args.text.now (printed_lines (take c.loop-i.i (rules_of c.args.lines.now.nodes c.args.lines.now.lines))) _ _ _ _ _ _ _ _
    c.loop-i.invariant c.in_ok-signs.ensures c.in_ok-write_rule.ensures c.in_ok-signs-2.ensures
    (one-more-line (rule_of (trees c.args.lines.now.nodes)) c.args.lines.now.lines c.loop-i.i c.at.result.now c.at.ensures)

pub returns : goal.returns
returns c =
    c.loop-i.invariant
    ∙ ap (λ s. c.args.text.now ++ s)
    (all-lines (rule_of (trees c.args.lines.now.nodes)) c.args.lines.now.lines c.loop-i.i (omega (arith, c.loop-i.auto.i-end, c.len-i-end.ensures)) (omega (arith, c.loop-i-test.false, c.len-i-end.ensures)))
