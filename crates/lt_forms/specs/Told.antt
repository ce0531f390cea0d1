-- What references tell.
use Rattle.std.specs.Borrow.{Bor}
use Rattle.lt_definitions.specs.Types.{Chars, TypeTree}
use Rattle.lt_definitions.specs.Terms.{TermTree}

abbrev pub quantifier_told : Bor Chars × Bor TypeTree × TermTree → Chars × (TypeTree × TermTree)
quantifier_told q = (q.0.now, (q.1.now, q.2))
