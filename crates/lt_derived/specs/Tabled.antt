-- Lines by the rows of a table: rules whose numbers are places among some lines.
-- Source: this project's own.
use Rattle.std.specs.Prelude.{◌≡◌, ℕ, zero, suc, List, [], ◌∷◌, get_or, Some}
use Rattle.lt_definitions.specs.Rules.{Rule, by_assume, by_weaken, by_refl, by_sym, by_trans, by_cong, by_abs, by_beta, by_eta, by_eqmp, by_impI, by_mp, by_allI, by_allE, by_iff, by_inst, by_tinst, by_select, by_ccontr, by_thm, line_at}
use Rattle.lt_nameless.specs.Nameless.{NamelessSequent}

-- the number at a place, from 1; where there is none, 0, which is no line's number
abbrev pub number_at : List ℕ → ℕ → ℕ
number_at ns zero = 0
number_at ns (suc k) = get_or ns k 0

-- a rule with other numbers
abbrev pub renumbered : {T : Type 0} → (ℕ → ℕ) → Rule T → Rule T
renumbered f (by_assume p) = by_assume p
renumbered f (by_weaken p i) = by_weaken p (f i)
renumbered f (by_refl t) = by_refl t
renumbered f (by_sym i) = by_sym (f i)
renumbered f (by_trans i j) = by_trans (f i) (f j)
renumbered f (by_cong i j) = by_cong (f i) (f j)
renumbered f (by_abs x ty i) = by_abs x ty (f i)
renumbered f (by_beta t) = by_beta t
renumbered f (by_eta t) = by_eta t
renumbered f (by_eqmp i j) = by_eqmp (f i) (f j)
renumbered f (by_impI p i) = by_impI p (f i)
renumbered f (by_mp i j) = by_mp (f i) (f j)
renumbered f (by_allI x ty i) = by_allI x ty (f i)
renumbered f (by_allE t i) = by_allE t (f i)
renumbered f (by_iff i j) = by_iff (f i) (f j)
renumbered f (by_inst x ty t i) = by_inst x ty t (f i)
renumbered f (by_tinst a ty i) = by_tinst a ty (f i)
renumbered f (by_select p) = by_select p
renumbered f (by_ccontr p) = by_ccontr p
renumbered f (by_thm l) = by_thm l

-- these numbers are those of lines with these sequents
abbrev pub AreLines : List NamelessSequent → List ℕ → List NamelessSequent → Type 0
AreLines done [] [] = Unit {0}
AreLines done (n ∷ ns) (s ∷ ss) = (line_at done n ≡ Some s) × AreLines done ns ss
AreLines done _ _ = ⊥
