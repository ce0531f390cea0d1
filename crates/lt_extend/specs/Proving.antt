-- Sequents whose terms can be told, and whether one proves a statement.
use Rattle.std.specs.Prelude.{List, Option, not}
use Rattle.std.specs.List.{All}
use Rattle.lt_definitions.specs.Terms.{TermTree}
use Rattle.lt_definitions.specs.Rules.{Sequent}
use Rattle.lt_definitions.specs.Theory.{Refusal, refused_where, is_proved, not_proved}
use Rattle.lt_nameless.specs.Nameless.{NamelessSequent, IsWhole}

-- Each bound name has its binder.
pub record IsWholeSequent (s : NamelessSequent) : Type 0 where
  pub hyps : All (IsWhole 0) s.hyps
  pub concl : IsWhole 0 s.concl

abbrev pub AreWhole : List NamelessSequent → Type 0
AreWhole ss = All IsWholeSequent ss

-- the sequent is the statement without hypotheses, or else it is told
abbrev pub unproved : TermTree → Option Sequent → Option Refusal
unproved t last = refused_where (not (is_proved t last)) (not_proved last)
