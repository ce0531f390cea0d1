-- Names of binders and bound names.
use Rattle.std.specs.Prelude.{ℕ, Bool, false, ◌||◌, length}
use Rattle.lt_definitions.specs.Types.{Chars, same_name}
use Rattle.lt_definitions.specs.Terms.{TermTree, free_variable, bound_name, constant, application, abstraction}
use Rattle.lt_terms.specs.declared.term.TermNode.{TermNode}
use Rattle.lt_terms.specs.declared.term.TermNode.TheVariants.{Bound, Lam}

-- whether the name is that of a binder or a bound name
abbrev pub has_bound : Chars → TermTree → Bool
has_bound x (free_variable y u) = false
has_bound x (bound_name y) = same_name x y
has_bound x (constant c ts) = false
has_bound x (application f a) = has_bound x f || has_bound x a
has_bound x (abstraction y u b) = same_name x y || has_bound x b

-- whether it is that of a node
abbrev pub is_bound_at : Chars → TermNode → Bool
is_bound_at x (Bound y) = same_name x y
is_bound_at x (Lam y u b) = same_name x y
is_bound_at x _ = false

-- the length of the name of a binder or a bound name at a node
abbrev pub name_length : TermNode → ℕ
name_length (Bound x) = length x
name_length (Lam x u b) = length x
name_length _ = 0
