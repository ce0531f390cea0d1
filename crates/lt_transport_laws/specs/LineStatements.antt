-- What the laws say of the lines of lemmas that a block adds.
-- Source: this project's own.
use Rattle.std.specs.Prelude.{ℕ, ◌<◌, ◌^◌, List, [], ◌∷◌, encode_utf8_all}
use Rattle.std.specs.List.{flat_map}
use Rattle.lt_definitions.specs.Terms.{TermTree, free_variable, bound_name, constant, application, abstraction, HasNoLooseNames}
use Rattle.lt_definitions.specs.Types.{row}
use Rattle.lt_definitions.specs.Rules.{Rule}
use Rattle.lt_definitions.specs.Items.{Item, lemma_item}
use Rattle.lt_definitions.specs.Printing.{report}
use Rattle.lt_texts.specs.Named.{IsName, IsTypeNamed, AreTypesNamed, binder_count, AreReadable, IsReadableItem, AreAlikeItems}
use Rattle.lt_texts.specs.Pieces.{Piece, word_piece, sign_piece, name_piece, number_piece, variable_piece, type_piece, statement_piece, term_piece, rule_text, line_text, head_text}
use Rattle.lt_texts.specs.Forms.{HasPlainItems}
use Rattle.lt_walks.specs.Walks.{End}
use Rattle.lt_transport_definitions.specs.Commands.{CommandRefusal}
use Rattle.lt_transport_definitions.specs.Blocks.{IsOfText, AreOfText}
use Rattle.lt_transport_definitions.specs.TheoryWalks.{RunsText, items_of_blocks}

-- No bound name of a term is loose, and numbers of 64 bits count its binders.
abbrev pub IsCounted : Piece → Type 0
IsCounted (statement_piece t) = HasNoLooseNames t × (binder_count t < 2 ^ 64)
IsCounted (term_piece t) = HasNoLooseNames t × (binder_count t < 2 ^ 64)
IsCounted _ = Unit {0}

abbrev pub AreCounted : List Piece → Type 0
AreCounted [] = Unit {0}
AreCounted (p ∷ ps) = IsCounted p × AreCounted ps

-- A line that some text has is readable: its names are names, and its numbers are below 2^32.
abbrev pub LinesAreReadable : Type 0
LinesAreReadable =
    (r : Rule TermTree) → IsOfText r → AreCounted (line_text r) → AreReadable (line_text r)

-- A term whose names are names, those of its binders too.
abbrev pub IsSpelled : TermTree → Type 0
IsSpelled (free_variable x ty) = IsName x × IsTypeNamed ty
IsSpelled (bound_name x) = IsName x
IsSpelled (constant c ts) = IsName c × AreTypesNamed (row ts)
IsSpelled (application f a) = IsSpelled f × IsSpelled a
IsSpelled (abstraction x ty b) = IsName x × IsTypeNamed ty × IsSpelled b

-- The same of a piece, whose number is one that is read.
abbrev pub IsSpelledPiece : Piece → Type 0
IsSpelledPiece (word_piece w) = Unit {0}
IsSpelledPiece (sign_piece k) = Unit {0}
IsSpelledPiece (name_piece n) = IsName n
IsSpelledPiece (number_piece k) = k < 2 ^ 32
IsSpelledPiece (variable_piece a) = IsName a
IsSpelledPiece (type_piece ty) = IsTypeNamed ty
IsSpelledPiece (statement_piece t) = IsSpelled t
IsSpelledPiece (term_piece t) = IsSpelled t

abbrev pub AreSpelled : List Piece → Type 0
AreSpelled [] = Unit {0}
AreSpelled (p ∷ ps) = IsSpelledPiece p × AreSpelled ps

-- A line whose names are names and whose numbers are below 2^32 is one that some text has.
abbrev pub NamedLinesAreOfText : Type 0
NamedLinesAreOfText = (r : Rule TermTree) → AreSpelled (rule_text r) → IsOfText r

-- Each line of a lemma is one that some text has.
abbrev pub HasLinesOfText : Item → Type 0
HasLinesOfText (lemma_item l t lines) = AreOfText lines
HasLinesOfText _ = Unit {0}

abbrev pub HaveLinesOfText : List Item → Type 0
HaveLinesOfText [] = Unit {0}
HaveLinesOfText (i ∷ items) = HasLinesOfText i × HaveLinesOfText items

-- So it is of each lemma of a run, those of the text and those that blocks add.
abbrev pub RunsHaveLinesOfText : Type 0
RunsHaveLinesOfText =
    (limit : ℕ) (text : List ℕ) (blocks : List (List Item)) (end : End CommandRefusal)
    → RunsText limit text blocks end → HaveLinesOfText (items_of_blocks blocks)

-- Numbers of 64 bits count the binders of a term of a line.
abbrev pub IsSmall : Piece → Type 0
IsSmall (term_piece t) = binder_count t < 2 ^ 64
IsSmall _ = Unit {0}

abbrev pub AreSmall : List Piece → Type 0
AreSmall [] = Unit {0}
AreSmall (p ∷ ps) = IsSmall p × AreSmall ps

-- What an item states and adds is readable, and the terms of its lines have no more binders.
abbrev pub IsReadableHead : Item → Type 0
IsReadableHead (lemma_item l t lines) =
    AreReadable (head_text (lemma_item l t lines)) × AreSmall (flat_map line_text lines)
IsReadableHead item = IsReadableItem item

abbrev pub HaveReadableHeads : List Item → Type 0
HaveReadableHeads [] = Unit {0}
HaveReadableHeads (i ∷ items) = IsReadableHead i × HaveReadableHeads items

-- What is printed of a run is read back as items alike, where what its items state is readable: the
-- lines of their lemmas are.
abbrev pub RunsAreReadBack : Type 0
RunsAreReadBack =
    (limit : ℕ) (text : List ℕ) (blocks : List (List Item)) (end : End CommandRefusal)
    → RunsText limit text blocks end → HaveReadableHeads (items_of_blocks blocks)
    → (others : List Item) × AreAlikeItems others (items_of_blocks blocks)
    × HasPlainItems (encode_utf8_all (report (items_of_blocks blocks))) others
