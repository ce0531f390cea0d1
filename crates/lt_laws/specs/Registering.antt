-- The registered laws, and what registering one answers.
-- Source: this project's own.
use Rattle.std.specs.Prelude.{◌≡◌, List, if◌then◌else◌, is_none, find, Option, Some, None, Result, Ok, Err}
use Rattle.lt_definitions.specs.Types.{Chars, same_name, found}
use Rattle.lt_definitions.specs.Terms.{TermTree}
use Rattle.lt_definitions.specs.Alpha.{is_alpha}
use Rattle.lt_transport_definitions.specs.LawTexts.{law_statement}
use Rattle.lt_transport_definitions.specs.Commands.{unless_there}
use Rattle.lt_laws.specs.declared.law_fault.LawFault.{LawFault}
use Rattle.lt_laws.specs.declared.law_fault.LawFault.TheVariants.{UnknownLaw, LawDiffers, MissingLaw, Memory}

-- Laws by their names, each with the label of a statement.
abbrev pub Registered : Type 0
Registered = List (Chars × Chars)

-- a law is registered last, unless it is registered already
abbrev pub with_law : Chars → Chars → Registered → Registered
with_law w l laws = unless_there (λ p. same_name w p.0) (w, l) laws

-- the first of these that isn't registered
abbrev pub first_missing : List Chars → Registered → Option Chars
first_missing wanted laws = find (λ w. is_none (found w laws)) wanted

-- why a statement isn't that of a law
abbrev pub differs_from : Chars → TermTree → Option TermTree → Option LawFault
differs_from w t None = Some (UnknownLaw w)
differs_from w t (Some law) = if is_alpha t law then None else Some (LawDiffers w)

abbrev pub law_fault : Chars → TermTree → Option LawFault
law_fault w t = differs_from w t (law_statement w)

-- The statement is that of the law, or it isn't, for this reason. Want of memory may come in place of
-- either.
abbrev pub Tests : Chars → TermTree → Result (Unit {0}) LawFault → Type 0
Tests w t (Ok _) = law_fault w t ≡ None
Tests w t (Err (UnknownLaw x)) = law_fault w t ≡ Some (UnknownLaw x)
Tests w t (Err (LawDiffers x)) = law_fault w t ≡ Some (LawDiffers x)
Tests w t (Err (MissingLaw x)) = ⊥
Tests w t (Err Memory) = Unit {0}

-- The law is registered, or the statement isn't its own, for this reason, and all is as before.
abbrev pub Registers : Registered → Registered → Chars → Chars → TermTree
    → Result (Unit {0}) LawFault → Type 0
Registers old new w l t (Ok u) = Tests w t (Ok u) × (new ≡ with_law w l old)
Registers old new w l t (Err e) = Tests w t (Err e) × (new ≡ old)
