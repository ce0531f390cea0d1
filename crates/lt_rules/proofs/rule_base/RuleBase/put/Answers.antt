use Rattle.std.proofs.Common.{◌∙◌, ap}
use Rattle.std.specs.Str.{chars}
use Rattle.lt_transport_definitions.specs.RuleForm.{TransferRule}
use Rattle.lt_rules.specs.RuleIndexes.{things}
use Rattle.lt_rules.proofs.BaseLemmas.{put-entries, put-told, put-kept, restored, restored-kept}
use Rattle.lt_rules.proofs.rule_base.RuleBase.put.Goals as goal

pub invariant_of-self-in-Ok : goal.invariant_of-self-in-Ok
invariant_of-self-in-Ok c =
    let es = c.self.inside.rules.entries in
    let more = put-entries es c.insert.new.self.entries (chars c.label.inside.text.value.bytes.items) c.in_ok-copy.field-0 c.args.rule c.args.self.now c.self.invariant.0 c.self.view_is
    (c.label.view_is ∙ c.in_ok-label.ensures ∙ ap (λ (r : TransferRule). r.label) c.rule-2.ensures) c.in_ok-copy.ensures c.requires c.in_ok-insert.ensures.entries in
    put-kept es c.insert.new.self.entries c.self.inside.by_constant c.add.new.self c.in_ok-constant.constant c.args.rule c.self.invariant more
    (c.in_ok-constant.ensures ∙ ap (λ (r : TransferRule). r.constant) c.rule-3.ensures) c.in-Ok.ensures.ok

pub returns-in-Ok-clause-ok : goal.returns-in-Ok-clause-ok
returns-in-Ok-clause-ok c =
    let es = c.self.inside.rules.entries in
    let more = put-entries es c.insert.new.self.entries (chars c.label.inside.text.value.bytes.items) c.in_ok-copy.field-0 c.args.rule c.args.self.now c.self.invariant.0 c.self.view_is
    (c.label.view_is ∙ c.in_ok-label.ensures ∙ ap (λ (r : TransferRule). r.label) c.rule-2.ensures) c.in_ok-copy.ensures c.requires c.in_ok-insert.ensures.entries in
    put-told es c.insert.new.self.entries c.args.rule.label c.args.rule c.args.self.now c.self.view_is more

pub invariant_of-self-in-Err : goal.invariant_of-self-in-Err
invariant_of-self-in-Err c =
    let es = c.self.inside.rules.entries in
    let more = put-entries es c.insert.new.self.entries (chars c.label.inside.text.value.bytes.items) c.in_ok-copy.field-0 c.args.rule c.args.self.now c.self.invariant.0 c.self.view_is
    (c.label.view_is ∙ c.in_ok-label.ensures ∙ ap (λ (r : TransferRule). r.label) c.rule-2.ensures) c.in_ok-copy.ensures c.requires c.in_ok-insert.ensures.entries in
    restored-kept es c.truncate.new.self.entries c.self.inside.by_constant c.add.new.self
    (restored es c.insert.new.self.entries c.truncate.new.self.entries (c.args.rule.label, c.args.rule) c.len-count.result more c.truncate.ensures.entries c.len-count.ensures.len)
    c.self.invariant c.in-Err.ensures.err

pub returns-in-Err-clause-err : goal.returns-in-Err-clause-err
returns-in-Err-clause-err c =
    let es = c.self.inside.rules.entries in
    let more = put-entries es c.insert.new.self.entries (chars c.label.inside.text.value.bytes.items) c.in_ok-copy.field-0 c.args.rule c.args.self.now c.self.invariant.0 c.self.view_is
    (c.label.view_is ∙ c.in_ok-label.ensures ∙ ap (λ (r : TransferRule). r.label) c.rule-2.ensures) c.in_ok-copy.ensures c.requires c.in_ok-insert.ensures.entries in
    ap things (restored es c.insert.new.self.entries c.truncate.new.self.entries (c.args.rule.label, c.args.rule) c.len-count.result more c.truncate.ensures.entries c.len-count.ensures.len)
    ∙ c.self.view_is
