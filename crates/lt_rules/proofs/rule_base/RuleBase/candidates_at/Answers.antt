use Rattle.std.proofs.Common.{◌∙◌, ◌++◌, ◌∷◌, [], if◌then◌else◌, filter, ap, sym, arith}
use Rattle.std.proofs.lemmas.List.{take_all}
use Rattle.lt_transport_definitions.specs.RuleForm.{TransferRule}
use Rattle.lt_transport_definitions.specs.Candidates.{fits}
use Rattle.lt_rules.proofs.BaseLemmas.{fitting-of, fitting-more}
use Rattle.lt_rules.proofs.rule_base.RuleBase.candidates_at.Goals as goal

pub loop-i-init : goal.loop-i-init
loop-i-init c = c.new-fitting.ensures

pub loop-i-preserved : goal.loop-i-preserved
loop-i-preserved c =
    let rule : TransferRule = c.shared.result.now in
    c.in_ok-fitting.ensures ∙ ap (λ rules. rules ++ (if fits rule.constant c.args.types.now rule then rule ∷ [] else [])) c.loop-i.invariant
    ∙ sym (fitting-more c.args.types.now c.candidates-all.result.now c.loop-i.i rule c.shared.ensures)

pub returns : goal.returns
returns c =
    let ts = c.args.types.now in
    c.loop-i.invariant ∙ ap (filter (λ (r : TransferRule). fits r.constant ts r)) (take_all c.loop-i.i c.candidates-all.result.now (omega (arith, c.len-i-end.ensures, c.loop-i-test.false)) ∙ c.candidates-all.ensures)
    ∙ fitting-of c.args.self.now c.args.constant.now ts
