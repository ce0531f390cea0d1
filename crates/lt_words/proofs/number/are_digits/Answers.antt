use Rattle.std.proofs.Common.{rules, ◌≡◌, ◌<◌, true, false, length, get_or, sym, ◌∙◌, ap}
use Rattle.std.specs.Char.{is_ascii_digit}
use Rattle.std.specs.Str.{all_ascii_digits}
use Rattle.lt_words.proofs.Digits.{digits_more, no_digit}
use Rattle.lt_words.proofs.number.are_digits.Goals as goal

pub returns-then-not-is_ascii_digit : goal.returns-then-not-is_ascii_digit
returns-then-not-is_ascii_digit c =
    let bytes : c.as_bytes-byte-items.result.now ≡ c.args.word.now = search rules in
    let within : c.loop-byte.byte-index < length c.as_bytes-byte-items.result.now = search rules in
    let none : is_ascii_digit (get_or c.as_bytes-byte-items.result.now c.loop-byte.byte-index 0) ≡ false = search rules in
    sym (ap all_ascii_digits (sym bytes) ∙ no_digit c.as_bytes-byte-items.result.now c.loop-byte.byte-index 0 within none)

pub loop-byte-preserved : goal.loop-byte-preserved
loop-byte-preserved c =
    let within : c.loop-byte.byte-index < length c.as_bytes-byte-items.result.now = search rules in
    let one : is_ascii_digit (get_or c.as_bytes-byte-items.result.now c.loop-byte.byte-index 0) ≡ true = search rules in
    digits_more c.as_bytes-byte-items.result.now c.loop-byte.byte-index 0 within c.loop-byte.invariant one
