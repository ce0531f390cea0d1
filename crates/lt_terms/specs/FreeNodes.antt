-- Nodes that are a free variable.
use Rattle.std.specs.Prelude.{Bool, false, ◌&&◌}
use Rattle.lt_definitions.specs.Types.{Chars, same_name, TypeTree, same_type}
use Rattle.lt_terms.specs.declared.term.TermNode.{TermNode}
use Rattle.lt_terms.specs.declared.term.TermNode.TheVariants.{Free}

-- whether a node is the free variable of that name and type
abbrev pub is_free : Chars → TypeTree → TermNode → Bool
is_free x ty (Free y u) = same_name x y && same_type ty u
is_free x ty _ = false
