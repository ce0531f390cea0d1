-- The parts of abstractions and redexes.
use Rattle.std.specs.Prelude.{zero, Bool, true, false, Option, Some, None}
use Rattle.lt_nameless.specs.Nameless.{Nameless, nameless_bound, nameless_application, nameless_abstraction}

-- the body of an abstraction
abbrev pub body_of : Nameless → Option Nameless
body_of (nameless_abstraction u b) = Some b
body_of _ = None

-- the body of an abstraction that is applied, and its argument
abbrev pub redex_parts : Nameless → Option (Nameless × Nameless)
redex_parts (nameless_application (nameless_abstraction u b) a) = Some (b, a)
redex_parts _ = None

-- whether a term is the bound name of the innermost binder
abbrev pub is_innermost : Nameless → Bool
is_innermost (nameless_bound zero) = true
is_innermost _ = false

-- the function and the argument of an application under a binder
abbrev pub body_parts : Nameless → Option (Nameless × Nameless)
body_parts (nameless_abstraction u (nameless_application f a)) = Some (f, a)
body_parts _ = None

-- the function of an application, under a binder, to that binder's bound name
abbrev pub expanded : Nameless → Option Nameless
expanded (nameless_abstraction u (nameless_application f (nameless_bound zero))) = Some f
expanded _ = None
