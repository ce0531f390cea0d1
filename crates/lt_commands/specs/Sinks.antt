-- What contracts see of terms that are being made.
use Rattle.std.specs.Prelude.{List, [], ◌∷◌, reverse, Bool, true, false}
use Rattle.lt_definitions.specs.Terms.{TermTree}
use Rattle.lt_definitions.specs.Rules.{Rule}
use Rattle.lt_hol.specs.Lines.{rules_of}
use Rattle.lt_commands.specs.declared.term_sink.TermSink.{TermSink}
use Rattle.lt_commands.specs.Places.{terms_at}

-- The terms that are being made, those of statements that are whole and those of lines, the newest
-- first; the lines, the last one last; and whether lines have begun.
pub record Sunk : Type 0 where
  pub growing : List TermTree
  pub wholes : List TermTree
  pub shared : List TermTree
  pub lines : List (Rule TermTree)
  pub sharing : Bool

abbrev pub nothing_sunk : Sunk
nothing_sunk = record { growing = []; wholes = []; shared = []; lines = []; sharing = false }

-- before the first line terms grow in a builder, then among the nodes of the lines
abbrev pub growing_by : Bool → TermSink → List TermTree
growing_by true s = terms_at s.lines.nodes s.roots.items
growing_by false s = s.builder

abbrev pub sunk_by : Bool → TermSink → Sunk
sunk_by y s = record {
  growing = growing_by y s;
  wholes = reverse s.wholes.items;
  shared = terms_at s.lines.nodes s.places.items;
  lines = rules_of s.lines.nodes s.lines.lines;
  sharing = s.sharing;
}

abbrev pub sunk : TermSink → Sunk
sunk s = sunk_by s.sharing s

-- the newest term is whole
abbrev pub kept_by : Bool → List TermTree → Sunk → Sunk
kept_by true (t ∷ ts) s = record s { growing = ts; shared = t ∷ s.shared }
kept_by false (t ∷ []) s = record s { growing = []; wholes = t ∷ s.wholes }
kept_by y ts s = s
