-- One side of a conjunction, by a law of conjunctions; and what is read of terms for it.
-- Source: this project's own.
use Rattle.std.specs.Prelude.{[], ◌∷◌, Bool, false, codes}
use Rattle.lt_definitions.specs.Types.{bool, same_name}
use Rattle.lt_definitions.specs.Rules.{with_found}
use Rattle.lt_definitions.specs.declared.reason.Reason.TheVariants.{MiddleDiffers}
use Rattle.lt_nameless.specs.Nameless.{Nameless, nameless_bound, nameless_constant, NamelessSequent}
use Rattle.lt_nameless.specs.NamelessRules.{NamelessOutcome, nameless_implies, nameless_union, nameless_gives}
use Rattle.lt_programs.specs.Openings.{for_alls, filled}
use Rattle.lt_programs.specs.Connectives.{conjunction, as_conjunction}

-- all p q. and p q --> r, where the indices of r are those of p and q
abbrev pub side_law : Nameless → Nameless
side_law r = for_alls (bool ∷ bool ∷ [])
    (nameless_implies (conjunction (nameless_bound 1) (nameless_bound 0)) r)

-- from H |- and p q, by that law: H |- r
abbrev pub side_by : Nameless → NamelessSequent → NamelessOutcome
side_by r s = with_found MiddleDiffers (as_conjunction s.concl) (λ e.
    nameless_gives (nameless_union [] s.hyps) (filled (e.1 ∷ e.0 ∷ []) 0 r))

-- whether a term is the constant of conjunction
abbrev pub is_and : Nameless → Bool
is_and (nameless_constant c []) = same_name c (codes "and")
is_and _ = false
