use Rattle.std.proofs.Common.{◌≡◌, filter, take}
use Rattle.lt_transport_definitions.specs.RuleForm.{TransferRule}
use Rattle.lt_transport_definitions.specs.Candidates.{fits}
use Rattle.lt_rules.proofs.rule_base.RuleBase.candidates_at.Given as goal

-- the rules so far that fit
abbrev pub invariant-loop-i : goal.invariant-loop-i
invariant-loop-i l = l.fitting ≡ filter (λ (r : TransferRule). fits r.constant l.types r) (take l.i l.all)
