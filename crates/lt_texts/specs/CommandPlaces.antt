-- Where a command and each of its lines begin in a text.
-- Source: this project's own.
use Rattle.std.specs.Prelude.{◌≡◌, ℕ, List, [], ◌∷◌, ◌++◌}
use Rattle.lt_texts.specs.declared.lexical.TokenKind.TheVariants.{OpenBrace, CloseBrace}
use Rattle.lt_definitions.specs.Types.{Chars}
use Rattle.lt_definitions.specs.Terms.{TermTree}
use Rattle.lt_definitions.specs.Rules.{Rule}
use Rattle.lt_definitions.specs.Items.{lemma_item}
use Rattle.lt_texts.specs.Texts.{Left, here, place_of}
use Rattle.lt_texts.specs.Gaps.{IsPast}
use Rattle.lt_texts.specs.Commands.{Command, item_command}
use Rattle.lt_texts.specs.Pieces.{sign_piece, semicolon, line_text, head_text}
use Rattle.lt_texts.specs.Forms.{Form, Sentence, a_command, sentence_text, sentences_text, IsAllowed}
use Rattle.lt_texts.specs.WrongPlaces.{AreHeaders, Stands}

-- the place of what stands next, behind white space and comments
abbrev pub IsFirstPlace : Left → ℕ → Type 0
IsFirstPlace s at = (cs : List ℕ) × IsPast s.ahead cs × (at ≡ place_of s cs)

-- From one place to another stand these lines, and their first tokens at these places.
abbrev pub LinesAt : Left → List (Rule TermTree) → List ℕ → Left → Type 0
LinesAt s [] [] s' = s' ≡ s
LinesAt s (r ∷ lines) (at ∷ places) s' =
    IsFirstPlace s at × (m : Left) × Stands s (line_text r) m × LinesAt m lines places s'
LinesAt s _ _ s' = ⊥

-- From one place to another stands this lemma, and its lines at these places.
abbrev pub LemmaAt : Left → Chars → TermTree → List (Rule TermTree) → List ℕ → Left → Type 0
LemmaAt s l t lines places s' =
    (a : Left) × Stands s (head_text (lemma_item l t lines) ++ sign_piece OpenBrace ∷ []) a
    × (b : Left) × LinesAt a lines places b × Stands b (sign_piece CloseBrace ∷ semicolon ∷ []) s'

-- From one place to another stands this command, and the lines of a lemma at these places.
abbrev pub CommandAt : Form → Left → Command → List ℕ → Left → Type 0
CommandAt f s (item_command (lemma_item l t lines)) places s' = LemmaAt s l t lines places s'
CommandAt f s c places s' = (places ≡ []) × Stands s (sentence_text f (a_command c)) s'

-- The next command behind headers, with the place of its first token, those of its lines, and the
-- place behind it.
abbrev pub NextPlaced : Form → Left → Command → ℕ → List ℕ → ℕ → Left → Type 0
NextPlaced f s c from places to s' =
    (xs : List Sentence) × AreHeaders xs × IsAllowed f (a_command c) × (m : Left)
    × Stands s (sentences_text f xs) m
    × IsFirstPlace m from × CommandAt f m c places s' × (to ≡ here s')
