-- Conversions at every place of a term.
-- Source: this project's own. The numbers of names are written by std's `decimal`, in at most 64 digits.
use Rattle.std.specs.Prelude.{ℕ, zero, suc, List, [], ◌∷◌, ◌++◌, length, codes, if◌then◌else◌, Option, Some, None}
use Rattle.std.specs.Fmt.{decimal}
use Rattle.lt_definitions.specs.Types.{Chars, has_name, TypeTree}
use Rattle.lt_nameless.specs.Nameless.{Nameless, nameless_free, nameless_bound, nameless_loose, nameless_constant, nameless_application, nameless_abstraction}
use Rattle.lt_nameless.specs.NamelessRules.{instance_at, abstracted}
use Rattle.lt_store.specs.Trees.{tree_size}

-- the names of the free variables, each place from the left
abbrev pub free_names : Nameless → List Chars
free_names (nameless_free x ty) = x ∷ []
free_names (nameless_bound i) = []
free_names (nameless_loose x) = []
free_names (nameless_constant c ts) = []
free_names (nameless_application f a) = free_names f ++ free_names a
free_names (nameless_abstraction ty b) = free_names b

-- vN for the number N
abbrev pub v_name : ℕ → Chars
v_name n = codes "v" ++ decimal n

-- The first number from n on whose name isn't among these. So many are tried; the next one isn't.
abbrev pub first_new : ℕ → ℕ → List Chars → ℕ
first_new zero n names = n
first_new (suc left) n names = if has_name (v_name n) names then first_new left (suc n) names else n

-- vN with the least N such that no free variable has that name. Of one number more than there are names, one is new.
unfoldable pub new_name : Nameless → Chars
new_name t = v_name (first_new (length (free_names t)) 0 (free_names t))

-- a term, or what is given for it
abbrev pub or_itself : Nameless → Option Nameless → Nameless
or_itself t None = t
or_itself t (Some u) = u

abbrev pub settled : (Nameless → Option Nameless) → Nameless → Nameless
settled f t = or_itself t (f t)

-- a body opened by the new variable of its binder's type
abbrev pub opened_new : TypeTree → Nameless → Nameless
opened_new ty b = instance_at 0 (nameless_free (new_name b) ty) b

-- the abstraction of what became of such a body
abbrev pub closed_new : TypeTree → Nameless → Nameless → Nameless
closed_new ty b c = nameless_abstraction ty (abstracted 0 (new_name b) ty c)

-- The parts first, through so many levels, then the term that they make.
abbrev pub settled_within : (Nameless → Option Nameless) → ℕ → Nameless → Nameless
settled_within f zero t = settled f t
settled_within f (suc n) (nameless_application g a) =
    settled f (nameless_application (settled_within f n g) (settled_within f n a))
settled_within f (suc n) (nameless_abstraction ty b) =
    settled f (closed_new ty b (settled_within f n (opened_new ty b)))
settled_within f (suc n) t = settled f t

-- The parts of a term first, a body opened by a new variable, then the term that they make: each what is given for it, or
-- itself. A term has no more levels than nodes.
unfoldable pub everywhere : (Nameless → Option Nameless) → Nameless → Nameless
everywhere f t = settled_within f (tree_size t) t
