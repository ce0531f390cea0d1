-- What an answered refusal tells of how a walk ends.
use Rattle.std.specs.Prelude.{◌≡◌, ◌⊎◌, List, ◌++◌, Option, option_map, Result, Ok, Err, ℕ}
use Rattle.lt_definitions.specs.Typing.{Fault, unknown_type, arity, unknown_const, type_args, unbound, mismatch}
use Rattle.lt_definitions.specs.Items as theory
use Rattle.lt_definitions.specs.Theory as refusals
use Rattle.lt_definitions.specs.Theory.{at_fault, not_boolean, unknown_statement, duplicate, open_term, loose_type_var, typedef_shape, in_line, bad_line, not_proved, IsPlainTheory}
use Rattle.lt_nameless.specs.Nameless.{NamelessSequent, nameless_sequent}
use Rattle.lt_texts.specs.Forms.{HasPlainItems}
use Rattle.lt_texts.specs.WrongPlaces.{Wrong, bad_header, bad_command, bad_syntax, bad_byte, bad_char}
use Rattle.lt_walks.specs.Walks.{End, accepted, too_long, wrong_header, unread, refused}
use Rattle.lt_walks.specs.PlainWalks.{ChecksText}
use Rattle.lt_commands.specs.declared.refusal.SequentTerms.{SequentTerms}
use Rattle.lt_commands.specs.declared.refusal.Refusal.{Refusal}
use Rattle.lt_commands.specs.declared.refusal.Refusal.TheVariants.{BadByte, BadChar, Syntax, BadHeader, BadCommand, Duplicate, UnknownType, Arity, UnknownConst, TypeArgs, Unbound, Mismatch, NotBool, UnknownLabel, OpenTerm, LooseTypeVar, TypedefShape, BadLine, NotProved, Memory}
use Rattle.lt_commands.specs.declared.refusal.Placed.{Placed}

-- what is wrong in a text, and its place
abbrev pub as_placed : Wrong → Placed
as_placed (bad_header n) = record { refusal = BadHeader; at = n }
as_placed (bad_command n) = record { refusal = BadCommand; at = n }
as_placed (bad_syntax n) = record { refusal = Syntax; at = n }
as_placed (bad_byte n) = record { refusal = BadByte; at = n }
as_placed (bad_char n) = record { refusal = BadChar; at = n }

-- a fault of a type or a term
abbrev pub as_refusal : Fault → Refusal
as_refusal (unknown_type c) = UnknownType c
as_refusal (arity c) = Arity c
as_refusal (unknown_const c) = UnknownConst c
as_refusal (type_args c) = TypeArgs c
as_refusal (unbound x) = Unbound x
as_refusal (mismatch f t) = Mismatch f t

-- a sequent of terms, without binder names
abbrev pub shown : SequentTerms → NamelessSequent
shown s = nameless_sequent (record { hyps = s.hyps; concl = s.concl })

-- The answer is this refusal of an item, with its values; a sequent up to the names of binders.
abbrev pub Tells : refusals.Refusal → Refusal → Type 0
Tells (at_fault f) x = x ≡ as_refusal f
Tells (not_boolean ty) x = x ≡ NotBool ty
Tells (unknown_statement l) x = x ≡ UnknownLabel l
Tells (duplicate n) x = x ≡ Duplicate n
Tells open_term x = x ≡ OpenTerm
Tells (loose_type_var a) x = x ≡ LooseTypeVar a
Tells typedef_shape x = x ≡ TypedefShape
Tells (in_line n f) x = x ≡ as_refusal f
Tells (bad_line n r) x = x ≡ BadLine n r
Tells (not_proved s) x = (last : Option SequentTerms) × (x ≡ NotProved last)
    × (option_map nameless_sequent s ≡ option_map shown last)

-- The answer tells how a walk ends before the text does, and the place.
abbrev pub TellsEnd : End refusals.Refusal → Placed → Type 0
TellsEnd accepted p = ⊥
TellsEnd too_long p = ⊥
TellsEnd (wrong_header e) p = p ≡ as_placed e
TellsEnd (unread e) p = p ≡ as_placed e
TellsEnd (refused r place) p = (p.at ≡ place) × Tells r p.refusal

-- Where all is accepted the text is that of these items, which are a valid plain theory; else they
-- are those that the walk accepts, and its end is told. Where memory ran out they are the first of
-- those that the walk accepts.
unfoldable pub IsChecked : List ℕ → List theory.Item → Result (Unit {0}) Placed → Type 0
IsChecked text items (Ok _) = HasPlainItems text items × IsPlainTheory items
IsChecked text items (Err p) = ((end : End refusals.Refusal) × ChecksText text items end × TellsEnd end p)
    ⊎ ((p.refusal ≡ Memory) × (more : List theory.Item) × (end : End refusals.Refusal)
    × ChecksText text (items ++ more) end)
