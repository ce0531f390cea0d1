-- Terms that have a type.
-- Source: this project's own.
use Rattle.std.specs.Prelude.{◌≡◌, [], Ok}
use Rattle.lt_definitions.specs.Types.{TypeTree}
use Rattle.lt_definitions.specs.Typing.{Signature}
use Rattle.lt_nameless.specs.Nameless.{Nameless}
use Rattle.lt_nameless.specs.NamelessRules.{nameless_typed}

-- a term under no binder has the type
abbrev pub IsOfType : Signature → Nameless → TypeTree → Type 0
IsOfType sig t ty = nameless_typed sig [] t ≡ Ok ty
