use Rattle.std.proofs.Common.{length}
use Rattle.lt_bench.proofs.lex_bench.count_tokens.Given as goal

abbrev pub decreases-tokens : goal.decreases-tokens
decreases-tokens l = length l.lexer.ahead
