-- Statements that are closed over variables by `all`, and their instances.
-- Source: this project's own.
use Rattle.std.specs.Prelude.{◌≡◌, ℕ, suc, ◌-◌, List, [], ◌∷◌, if◌then◌else◌, nat_lt, true, slice_index_or}
use Rattle.lt_definitions.specs.Types.{TypeTree}
use Rattle.lt_definitions.specs.Typing.{Signature}
use Rattle.lt_nameless.specs.Nameless.{Nameless, nameless_free, nameless_bound, nameless_loose, nameless_constant, nameless_application, nameless_abstraction}
use Rattle.lt_nameless.specs.NamelessRules.{nameless_for_all, nameless_has_type}

-- all x1 .. xn. b, over these types
abbrev pub for_alls : List TypeTree → Nameless → Nameless
for_alls [] b = b
for_alls (ty ∷ tys) b = nameless_for_all ty (nameless_abstraction ty (for_alls tys b))

-- The body with these terms put at once for the indices that belong to no binder, under d binders.
-- The first term is for the innermost one.
abbrev pub filled : List Nameless → ℕ → Nameless → Nameless
filled ts d (nameless_free x ty) = nameless_free x ty
filled ts d (nameless_bound i) =
    if nat_lt i d then nameless_bound i else slice_index_or ts (i - d) (nameless_bound i)
filled ts d (nameless_loose x) = nameless_loose x
filled ts d (nameless_constant c us) = nameless_constant c us
filled ts d (nameless_application f a) = nameless_application (filled ts d f) (filled ts d a)
filled ts d (nameless_abstraction ty b) = nameless_abstraction ty (filled ts (suc d) b)

-- Each term has the type beside it, and there are as many.
abbrev pub HaveTypes : Signature → List Nameless → List TypeTree → Type 0
HaveTypes sig [] [] = Unit {0}
HaveTypes sig (t ∷ ts) (ty ∷ tys) = (nameless_has_type sig t ty ≡ true) × HaveTypes sig ts tys
HaveTypes sig _ _ = ⊥
