-- The rules of a table's rows.
-- Source: this project's own.
use Rattle.std.specs.Prelude.{ℕ, List, [], map, unwrap_or}
use Rattle.lt_definitions.specs.Terms.{bound_name}
use Rattle.lt_definitions.specs.Rules.{Rule, by_assume, by_refl, by_sym, by_trans, by_cong, by_beta, by_eqmp, by_impI, by_mp, by_allI, by_allE, by_select}
use Rattle.lt_nameless.specs.Nameless.{Nameless, nameless}
use Rattle.lt_tables.specs.declared.rows.Row.{Row}
use Rattle.lt_tables.specs.declared.rows.Row.TheVariants.{Assume, Refl, Sym, Trans, Cong, Beta, Eqmp, ImpI, Mp, AllI, AllE, Select}
use Rattle.lt_tables.specs.Letters.{variable_name}
use Rattle.lt_tables.specs.Stacks.{term_with, type_with}

-- the nameless form of a text's term; of what is no term, that of a loose name
abbrev pub form_with : List ℕ → List ℕ → Nameless
form_with types text = nameless [] (unwrap_or (term_with types text) (bound_name []))

-- the rule of a row
abbrev pub rule_of : List ℕ → Row → Rule Nameless
rule_of types (Assume p) = by_assume (form_with types p.now)
rule_of types (Refl t) = by_refl (form_with types t.now)
rule_of types (Sym i) = by_sym i
rule_of types (Trans i j) = by_trans i j
rule_of types (Cong i j) = by_cong i j
rule_of types (Beta t) = by_beta (form_with types t.now)
rule_of types (Eqmp i j) = by_eqmp i j
rule_of types (ImpI p i) = by_impI (form_with types p.now) i
rule_of types (Mp i j) = by_mp i j
rule_of types (AllI x i) = by_allI (variable_name x) (type_with types x) i
rule_of types (AllE t i) = by_allE (form_with types t.now) i
rule_of types (Select p) = by_select (form_with types p.now)

-- the rules of all rows
abbrev pub rules_of : List ℕ → List Row → List (Rule Nameless)
rules_of types rows = map (rule_of types) rows
