-- Nodes that are free variables.
use Rattle.std.specs.Prelude.{Bool, true, false}
use Rattle.lt_terms.specs.declared.term.TermNode.{TermNode}
use Rattle.lt_terms.specs.declared.term.TermNode.TheVariants.{Free}

abbrev pub is_free : TermNode → Bool
is_free (Free x ty) = true
is_free _ = false
