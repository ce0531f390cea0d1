use Rattle.lt_extend.proofs.StoredLines.{whole-term}
use Rattle.lt_extend.proofs.storing.store_term.Goals as goal

pub add_term-requires : goal.add_term-requires
add_term-requires g c = whole-term c.signature.result.now c.in_ok-term.term c.in_ok-check_term.ensures
