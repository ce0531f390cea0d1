use Rattle.std.proofs.Common.{◌∙◌, ap, string_bytes}
use Rattle.std.specs.Str.{chars}
use Rattle.lt_definitions.specs.Characters.{is_name}
use Rattle.lt_types.proofs.LongNames.{long-first, long-next, long-name, long-whole}
use Rattle.lt_types.proofs.name.Name.repeated.Goals as goal

pub loop-init : goal.loop-init
loop-init c = long-first c.args.letter (string_bytes c.new-text.result) (string_bytes c.push.new.self) c.requires c.new-text.ensures.bytes c.in_ok-push.ensures.bytes

pub loop-preserved : goal.loop-preserved
loop-preserved c = long-next c.args.letter c.loop.counter (string_bytes c.loop.text) (string_bytes c.push-in-loop.new.self) c.requires c.loop.invariant c.in_ok-push-2.ensures.bytes

pub word-requires : goal.word-requires
word-requires c = ap (λ bs. is_name (chars bs)) c.as_str.ensures.value ∙ long-name c.args.letter c.loop.counter (string_bytes c.loop.text) c.requires c.loop.invariant

pub returns : goal.returns
returns c =
    long-whole c.args.letter c.loop.counter c.args.more (string_bytes c.loop.text) c.in_ok-word.field-0 c.requires c.loop.invariant
    (c.in_ok-word.ensures ∙ ap chars c.as_str.ensures.value) c.loop.auto.counter-end c.loop-test.false
