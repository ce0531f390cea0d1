use Rattle.std.proofs.Common.{◌≡◌, ◌∙◌, ◌++◌, ap, sym, subst, chars, true, string_bytes}
use Rattle.std.proofs.lemmas.Str.{chars-append, IsUtf8-string_bytes}
use Rattle.lt_definitions.specs.Characters.{is_name}
use Rattle.lt_conditions.proofs.LabelNames.{name-ending}
use Rattle.lt_conditions.proofs.labels.with_ending.Goals as goal

pub word-requires : goal.word-requires
word-requires c =
    let is : chars c.as_str.result.now ≡ c.args.name.now ++ chars c.args.ending.now =
    ap chars (c.as_str.ensures.value ∙ c.in_ok-push_str.ensures.bytes) ∙ chars-append _ c.args.ending.now (IsUtf8-string_bytes c.in_ok-label.label)
    ∙ (λ i. (ap chars c.in_ok-label.ensures.ok ∙ c.text.ensures.same) i ++ chars c.args.ending.now) in
    ap is_name is ∙ name-ending c.args.name.now (chars c.args.ending.now) c.text.ensures.name c.requires

pub returns : goal.returns
returns c =
    c.in_ok-word.ensures ∙ ap chars (c.as_str.ensures.value ∙ c.in_ok-push_str.ensures.bytes) ∙ chars-append _ c.args.ending.now (IsUtf8-string_bytes c.in_ok-label.label)
    ∙ (λ i. (ap chars c.in_ok-label.ensures.ok ∙ c.text.ensures.same) i ++ chars c.args.ending.now)
