-- The refusals of items as they print: the name, then the values, each behind one space.
-- Source: this project's own.
use Rattle.std.specs.Prelude.{ℕ, List, [], ◌∷◌, Option, Some, None, codes}
use Rattle.std.specs.Fmt.{decimal}
use Rattle.lt_definitions.specs.Types.{Chars}
use Rattle.lt_definitions.specs.Typing.{Fault, unknown_type, arity, unknown_const, type_args, unbound, mismatch}
use Rattle.lt_definitions.specs.declared.reason.Reason.{Reason}
use Rattle.lt_definitions.specs.declared.reason.Reason.TheVariants.{MissingLine, NotBool, NotEquation, MiddleDiffers, TypeDiffers, VariableInHypothesis, NotRedex, NotImplication, NotForall, UnknownLabel}
use Rattle.lt_definitions.specs.Rules.{Sequent}
use Rattle.lt_definitions.specs.Theory.{Refusal, at_fault, not_boolean, unknown_statement, duplicate, open_term, loose_type_var, typedef_shape, in_line, bad_line, not_proved}
use Rattle.lt_definitions.specs.Printing.{printed_type, printed_sequent, words, type_variable_name}
use Rattle.lt_texts.specs.WrongPlaces.{Wrong, bad_header, bad_command, bad_syntax, bad_byte, bad_char}

-- a fault of a type or a term
abbrev pub fault_words : Fault → List Chars
fault_words (unknown_type c) = codes "UnknownType" ∷ c ∷ []
fault_words (arity c) = codes "Arity" ∷ c ∷ []
fault_words (unknown_const c) = codes "UnknownConst" ∷ c ∷ []
fault_words (type_args c) = codes "TypeArgs" ∷ c ∷ []
fault_words (unbound x) = codes "Unbound" ∷ x ∷ []
fault_words (mismatch f t) = codes "Mismatch" ∷ printed_type f ∷ printed_type t ∷ []

-- a reason why a rule gives nothing
abbrev pub reason_word : Reason → Chars
reason_word MissingLine = codes "MissingLine"
reason_word NotBool = codes "NotBool"
reason_word NotEquation = codes "NotEquation"
reason_word MiddleDiffers = codes "MiddleDiffers"
reason_word TypeDiffers = codes "TypeDiffers"
reason_word VariableInHypothesis = codes "VariableInHypothesis"
reason_word NotRedex = codes "NotRedex"
reason_word NotImplication = codes "NotImplication"
reason_word NotForall = codes "NotForall"
reason_word UnknownLabel = codes "UnknownLabel"

-- the last sequent of a lemma's lines
abbrev pub last_sequent : Option Sequent → Chars
last_sequent None = codes "none"
last_sequent (Some s) = printed_sequent s

-- the refusal of an item
abbrev pub refusal_words : Refusal → List Chars
refusal_words (at_fault f) = fault_words f
refusal_words (not_boolean ty) = codes "NotBool" ∷ printed_type ty ∷ []
refusal_words (unknown_statement l) = codes "UnknownLabel" ∷ l ∷ []
refusal_words (duplicate n) = codes "Duplicate" ∷ n ∷ []
refusal_words open_term = codes "OpenTerm" ∷ []
refusal_words (loose_type_var a) = codes "LooseTypeVar" ∷ type_variable_name a ∷ []
refusal_words typedef_shape = codes "TypedefShape" ∷ []
refusal_words (in_line n f) = fault_words f
refusal_words (bad_line n r) = codes "BadLine" ∷ decimal n ∷ reason_word r ∷ []
refusal_words (not_proved last) = codes "NotProved" ∷ last_sequent last ∷ []

abbrev pub printed_refusal : Refusal → Chars
printed_refusal r = words (refusal_words r)

-- what is wrong in a text
abbrev pub wrong_word : Wrong → Chars
wrong_word (bad_header n) = codes "BadHeader"
wrong_word (bad_command n) = codes "BadCommand"
wrong_word (bad_syntax n) = codes "Syntax"
wrong_word (bad_byte n) = codes "BadByte"
wrong_word (bad_char n) = codes "BadChar"

-- its place
abbrev pub wrong_place : Wrong → ℕ
wrong_place (bad_header n) = n
wrong_place (bad_command n) = n
wrong_place (bad_syntax n) = n
wrong_place (bad_byte n) = n
wrong_place (bad_char n) = n
