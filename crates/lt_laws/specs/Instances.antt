-- Laws at types and terms.
-- Source: this project's own.
use Rattle.std.specs.Prelude.{◌≡◌, ℕ, List, [], ◌∷◌, ◌&&◌, if◌then◌else◌, is_some, true, reverse, unwrap_or, Some, None, Result, Ok, Err, codes}
use Rattle.lt_definitions.specs.Types.{Chars, found, same_name, TypeTree, same_type, TypeMap}
use Rattle.lt_definitions.specs.Terms.{bound_name}
use Rattle.lt_definitions.specs.Rules.{line_at}
use Rattle.lt_nameless.specs.Nameless.{Nameless, nameless, nameless_constant, nameless_application, nameless_abstraction, NamelessSequent}
use Rattle.lt_nameless.specs.NamelessRules.{nameless_instance}
use Rattle.lt_programs.specs.Programs.{theorem}
use Rattle.lt_programs.specs.Openings.{filled}
use Rattle.lt_transport_definitions.specs.LawTexts.{law_statement}
use Rattle.lt_laws.specs.declared.law_fault.LawFault.{LawFault}
use Rattle.lt_laws.specs.declared.law_fault.LawFault.TheVariants.{UnknownLaw, LawDiffers, MissingLaw, Memory}
use Rattle.lt_laws.specs.Registering.{Registered}

-- the nameless form of a law's statement
abbrev pub law_form : Chars → Nameless
law_form w = nameless [] (unwrap_or (law_statement w) (bound_name []))

-- the types of the variables over which a statement is closed, and what it says of them
abbrev pub closed_parts : Nameless → List TypeTree × Nameless
closed_parts (nameless_application (nameless_constant c (ty ∷ [])) (nameless_abstraction u b)) =
    if same_name c (codes "all") && same_type ty u
    then (ty ∷ (closed_parts b).0, (closed_parts b).1)
    else ([], nameless_application (nameless_constant c (ty ∷ [])) (nameless_abstraction u b))
closed_parts p = ([], p)

-- the types of a law's variables
abbrev pub law_variables : Chars → List TypeTree
law_variables w = (closed_parts (law_form w)).0

-- a law with types put for its type variables at once, and then terms for its variables
abbrev pub law_at : Chars → TypeMap → List Nameless → NamelessSequent
law_at w m ts =
    theorem (filled (reverse ts) 0 (nameless_instance m (closed_parts (law_form w)).1))

-- The line that is answered has the law at these types and terms, or the law isn't registered.
-- Want of memory may come in place of either.
abbrev pub GivesLaw : List NamelessSequent → Registered → Chars → TypeMap → List Nameless
    → Result ℕ LawFault → Type 0
GivesLaw lines laws w m ts (Ok n) =
    (is_some (found w laws) ≡ true) × (line_at lines n ≡ Some (law_at w m ts))
GivesLaw lines laws w m ts (Err (MissingLaw x)) = (x ≡ w) × (found w laws ≡ None)
GivesLaw lines laws w m ts (Err (UnknownLaw x)) = ⊥
GivesLaw lines laws w m ts (Err (LawDiffers x)) = ⊥
GivesLaw lines laws w m ts (Err Memory) = Unit {0}
