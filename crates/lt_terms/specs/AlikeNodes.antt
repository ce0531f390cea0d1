-- Nodes that agree in all but the names of binders and the places of children.
use Rattle.std.specs.Prelude.{List, [], ◌∷◌, Bool, true, false, ◌&&◌, nat_eq, Option, Some, None}
use Rattle.lt_definitions.specs.Types.{Chars, same_name, TypeTree, same_type, same_types, row}
use Rattle.lt_terms.specs.declared.term.TermNode.{TermNode}
use Rattle.lt_terms.specs.declared.term.TermNode.TheVariants.{Free, Bound, Const, App, Lam}
use Rattle.lt_terms.specs.declared.bound_names.Binder.{Binder}
use Rattle.lt_terms.specs.FreeNodes.{is_free}

-- Two bound names have binders with one index, or neither has a binder and they are one name.
abbrev pub is_paired : Chars → Option Binder → Chars → Option Binder → Bool
is_paired x (Some b) y (Some c) = nat_eq b.index c.index
is_paired x None y None = same_name x y
is_paired x _ y _ = false

-- whether a node is such a bound name
abbrev pub is_bound : Chars → Option Binder → TermNode → Option Binder → Bool
is_bound x b (Bound y) c = is_paired x b y c
is_bound x b _ c = false

-- whether a node is that constant
abbrev pub is_constant : Chars → List TypeTree → TermNode → Bool
is_constant c ts (Const d us) = same_name c d && same_types (row ts) (row us)
is_constant c ts _ = false

-- whether a node is an application
abbrev pub is_application : TermNode → Bool
is_application (App f a) = true
is_application _ = false

-- whether a node is an abstraction over that type
abbrev pub is_abstraction : TypeTree → TermNode → Bool
is_abstraction t (Lam y u b) = same_type t u
is_abstraction t _ = false

-- whether two nodes agree, each with the binder of its bound name
abbrev pub agrees : TermNode → Option Binder → TermNode → Option Binder → Bool
agrees (Free x t) b m c = is_free x t m
agrees (Bound x) b m c = is_bound x b m c
agrees (Const k ts) b m c = is_constant k ts m
agrees (App f a) b m c = is_application m
agrees (Lam x t i) b m c = is_abstraction t m

-- whether nodes agree one by one
abbrev pub agree : List TermNode → List (Option Binder) → List TermNode → List (Option Binder) → Bool
agree (n ∷ ns) (b ∷ bs) (m ∷ ms) (c ∷ cs) = agrees n b m c && agree ns bs ms cs
agree [] [] [] [] = true
agree _ _ _ _ = false
