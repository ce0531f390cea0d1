-- A small notation for instances of laws.
-- Source: this project's own.
use Rattle.std.specs.Prelude.{ℕ, List, map, codes}
use Prim.Native.String.{String}
use Rattle.lt_definitions.specs.Types.{TypeTree, TypeMap, type_instance}
use Rattle.lt_nameless.specs.Nameless.{Nameless, nameless_bound, nameless_constant, nameless_application, nameless_abstraction}
use Rattle.lt_nameless.specs.NamelessRules.{nameless_implies, nameless_for_all, nameless_equation}

infixl 70 ◌·◌
infixr 45 ◌⟶◌
-- f applied to a
abbrev pub ◌·◌ : Nameless → Nameless → Nameless
f · a = nameless_application f a

-- p --> q
abbrev pub ◌⟶◌ : Nameless → Nameless → Nameless
p ⟶ q = nameless_implies p q

-- a type with the map's types put
abbrev pub put : TypeMap → TypeTree → TypeTree
put m ty = type_instance m ty

-- a constant at types with the map's types put
abbrev pub con : TypeMap → String → List TypeTree → Nameless
con m x ts = nameless_constant (codes x) (map (type_instance m) ts)

-- the bound name so many binders away
abbrev pub bound : ℕ → Nameless
bound i = nameless_bound i

-- \x. b and all x. b over a type, and s = t at a type
abbrev pub lambda : TypeTree → Nameless → Nameless
lambda ty b = nameless_abstraction ty b

abbrev pub each : TypeTree → Nameless → Nameless
each ty b = nameless_for_all ty (nameless_abstraction ty b)

abbrev pub equal : TypeTree → Nameless → Nameless → Nameless
equal ty s t = nameless_equation ty s t
