-- What the reader promises, in the words of the definitions of texts.
use Rattle.lt_texts.specs.Texts.{Left}
use Rattle.lt_texts.specs.Forms.{Form}
use Rattle.lt_texts.specs.WrongPlaces.{TypeFailsAt, TermFailsAt, Wrong, bad_header, bad_command, bad_syntax, bad_byte, bad_char, FailsAt, HeaderFailsAt}
use Rattle.lt_script.specs.declared.read_error.ReadError.{ReadError}
use Rattle.lt_script.specs.declared.read_error.ReadError.TheVariants.{BadHeader, BadCommand, Syntax, BadByte, BadChar, Memory}

-- the error as what is wrong at a place; want of memory is none
abbrev pub as_wrong : ReadError → Wrong
as_wrong (BadHeader n) = bad_header n
as_wrong (BadCommand n) = bad_command n
as_wrong (Syntax n) = bad_syntax n
as_wrong (BadByte n) = bad_byte n
as_wrong (BadChar n) = bad_char n
as_wrong Memory = bad_syntax 0

-- What stands from a place on where a command may begin is wrong as the error says; want of memory is free.
abbrev pub Refuses : Form → Left → ReadError → Type 0
Refuses f s Memory = Unit {0}
Refuses f s e = FailsAt f s (as_wrong e)

-- The same of a text's header.
abbrev pub RefusesHeader : Form → Left → ReadError → Type 0
RefusesHeader f s Memory = Unit {0}
RefusesHeader f s e = HeaderFailsAt f s (as_wrong e)

-- What stands there begins no type, or no term, as the error says.
abbrev pub RefusesType : Left → ReadError → Type 0
RefusesType s Memory = Unit {0}
RefusesType s e = TypeFailsAt s (as_wrong e)

abbrev pub RefusesTerm : Left → ReadError → Type 0
RefusesTerm s Memory = Unit {0}
RefusesTerm s e = TermFailsAt s (as_wrong e)
