use Rattle.lt_texts.proofs.GapLemmas.{gap_exact}
use Rattle.lt_texts.proofs.lexical.gaps_are_longest.Goals as goal

pub returns : goal.returns
returns c = gap_exact
