-- How long the type variables of terms are.
-- Source: this project's own.
use Rattle.std.specs.Prelude.{ℕ, max}
use Rattle.lt_definitions.specs.Types.{row}
use Rattle.lt_nameless.specs.Nameless.{Nameless, nameless_free, nameless_bound, nameless_loose, nameless_constant, nameless_application, nameless_abstraction}
use Rattle.lt_types.specs.TypeVariables.{longest_variable, longest_in}

-- the greatest length of a term's type variables; 0 where it has none
abbrev pub longest_type_variable : Nameless → ℕ
longest_type_variable (nameless_free x ty) = longest_variable ty
longest_type_variable (nameless_bound i) = 0
longest_type_variable (nameless_loose x) = 0
longest_type_variable (nameless_constant c ts) = longest_in (row ts)
longest_type_variable (nameless_application f a) =
    max (longest_type_variable f) (longest_type_variable a)
longest_type_variable (nameless_abstraction ty b) =
    max (longest_variable ty) (longest_type_variable b)
