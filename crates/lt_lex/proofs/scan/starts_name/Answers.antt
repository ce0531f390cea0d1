use Rattle.lt_lex.proofs.Tables.{starts_told}
use Rattle.lt_lex.proofs.scan.starts_name.Goals as goal

pub returns-then-c-lt128 : goal.returns-then-c-lt128
returns-then-c-lt128 c = starts_told c.args.c c.if-c-lt128.true
