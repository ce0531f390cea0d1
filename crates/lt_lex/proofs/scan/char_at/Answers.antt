use Rattle.std.proofs.Common.{◌≡◌, ◌<◌, ◌∙◌, ap, length, sym, arith, get_or, List, ℕ}
use Rattle.std.specs.Prelude.{chars}
use Rattle.std.proofs.lemmas.List.{drop_all}
use Rattle.std.proofs.lemmas.Str.{IsCharBoundary-after_ascii, chars-nil}
use Rattle.lt_lex.proofs.Steps.{ahead_ascii}
use Rattle.lt_lex.proofs.scan.char_at.Goals as goal

pub returns-then-at-bytes-clause-chars : goal.returns-then-at-bytes-clause-chars
returns-then-at-bytes-clause-chars c =
    ap chars (drop_all c.args.at c.args.text.now (omega (arith, c.if-at-bytes.true, c.as_bytes-bytes.ensures.len))) ∙ chars-nil

byte : (c : goal.After-row_known-1) → get_or c.args.text.now c.args.at 0 ≡ get_or c.as_bytes-bytes.result.now c.args.at 0
byte c = ap (λ (bs : List ℕ). get_or bs c.args.at 0) (sym c.as_bytes-bytes.ensures.value)

within : (c : goal.After-row_known-1) → c.args.at < length c.args.text.now
within c = omega (arith, c.requires.0, c.if-at-bytes.false, c.as_bytes-bytes.ensures.len)

pub returns-then-byte-lt128-clause-chars : goal.returns-then-byte-lt128-clause-chars
returns-then-byte-lt128-clause-chars c = ahead_ascii _ _ _ c.utf8.text c.requires (within c) (byte c) c.if-byte-lt128.true

pub returns-then-byte-lt128-clause-boundary : goal.returns-then-byte-lt128-clause-boundary
returns-then-byte-lt128-clause-boundary c =
    IsCharBoundary-after_ascii c.args.text.now c.args.at c.utf8.text (within c) (omega (arith, byte c, c.if-byte-lt128.true))
