use Rattle.std.proofs.Common.{rules, ◌≡◌, true}
use Rattle.std.specs.Str.{all_ascii_digits}
use Rattle.lt_words.proofs.Digits.{unread}
use Rattle.lt_words.proofs.number.number.Goals as goal

pub returns-in_default : goal.returns-in_default
returns-in_default c =
    let digits : all_ascii_digits c.args.word.now ≡ true = search rules in
    unread c.args.digits c.args.most c.args.word.now c.parse.result c.in_default.field-0 c.in_default.is c.ranges.most.fits digits c.parse.ensures.value.0
