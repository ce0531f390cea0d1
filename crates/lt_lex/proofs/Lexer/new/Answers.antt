use Rattle.std.proofs.lemmas.Str.{IsCharBoundary-start, is_utf8-from_IsUtf8}
use Rattle.lt_lex.proofs.Lexer.new.Goals as goal

pub invariant_of-result : goal.invariant_of-result
invariant_of-result c = record { front = c.valid_front-text.ensures; utf8 = is_utf8-from_IsUtf8 _ c.valid_front-text.utf8; place = IsCharBoundary-start _ c.valid_front-text.utf8 }
