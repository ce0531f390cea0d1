use Rattle.std.proofs.Common.{◌≡◌, ◌++◌, drop}
use Rattle.std.specs.Char.{encode_utf8}
use Rattle.lt_lex.proofs.Steps.{ahead_behind, boundary_behind}
use Rattle.lt_lex.proofs.scan.wide_char_at.Goals as goal

spelled : (c : goal.After-as_str) → drop c.args.at c.args.text.now ≡ encode_utf8 c.in_ok-c.c ++ c.as_str.result.now
spelled c = cc (c.range_from.ensures.value, c.chars-left.ensures.rest, c.in_ok-c.ensures.steps.0, c.as_str.ensures)

pub returns-clause-chars : goal.returns-clause-chars
returns-clause-chars c = ahead_behind _ _ _ _ c.utf8.text c.requires (spelled c)

pub returns-clause-boundary : goal.returns-clause-boundary
returns-clause-boundary c = boundary_behind _ _ _ c.in_ok-c.c c.utf8.text c.requires (spelled c)
