use Rattle.std.proofs.Common.{◌≡◌, ◌∙◌, ap, sym, List, length}
use Rattle.lt_conditions.proofs.Closing.{closed-one, closed-steps}
use Rattle.lt_conditions.proofs.LabelNames.{word-names, word-is}
use Rattle.lt_conditions.proofs.building.close.Goals as goal

pub word-requires : goal.word-requires
word-requires c = word-names c.args.name.now c.requires.word

pub finish-requires : goal.finish-requires
finish-requires c =
    ap length (closed-steps c.args.name.now _ c.args.ty.now _ c.args.builder _ _ c.requires.two (c.in_ok-word.ensures ∙ word-is c.args.name.now c.requires.word) c.in_ok-copied.ensures c.in_ok-lambda.ensures c.in_ok-closed.ensures)
    ∙ closed-one c.args.name.now c.args.ty.now c.args.builder c.requires.two

pub returns : goal.returns
returns c =
    sym (closed-steps c.args.name.now _ c.args.ty.now _ c.args.builder _ _ c.requires.two (c.in_ok-word.ensures ∙ word-is c.args.name.now c.requires.word) c.in_ok-copied.ensures c.in_ok-lambda.ensures c.in_ok-closed.ensures)
    ∙ c.finish.ensures
