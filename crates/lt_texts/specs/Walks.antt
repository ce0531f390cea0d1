-- How the walk through a text ends, and what is reported of it. What is marked `unfoldable` means
-- what it says, as an `abbrev` does; the mark tells the prover not to look into it unasked.
-- Source: this project's own.
use Rattle.std.specs.Prelude.{◌≡◌, ℕ, ◌+◌, ◌<◌, ◌≤◌, List, [], ◌∷◌, ◌++◌, length, IsSome, codes, encode_utf8_all}
use Rattle.std.specs.Fmt.{decimal}
use Rattle.lt_texts.specs.declared.walks.Ending.{Ending}
use Rattle.lt_texts.specs.declared.walks.Ending.TheVariants.{Accepted, TooLong, NotBuilt, AtItem}
use Rattle.lt_definitions.specs.Items.{Item, empty, context_of}
use Rattle.lt_definitions.specs.Theory.{refusal, IsPlainTheory}
use Rattle.lt_definitions.specs.Printing.{summary_lines, count_line}
use Rattle.lt_texts.specs.PlainTexts.{HasItems}

-- the bytes of files, in order, with a line feed (10) behind each
abbrev pub joined : List (List ℕ) → List ℕ
joined [] = []
joined (file ∷ files) = file ++ 10 ∷ joined files

-- how many bytes a plain text may have
abbrev pub plain_limit : ℕ
plain_limit = 268435456

-- The walk through a plain text accepts these items, and ends so: at the text's end, or else at the
-- first thing that is refused, the text as a whole or the item with a number, counted from 1.
unfoldable pub Walk : List ℕ → List Item → Ending → Type 0
Walk text items Accepted = (length text ≤ plain_limit) × HasItems text items × IsPlainTheory items
Walk text items TooLong = (plain_limit < length text) × (items ≡ [])
Walk text items NotBuilt =
    (length text ≤ plain_limit) × (items ≡ []) × ((all : List Item) → HasItems text all → ⊥)
Walk text items (AtItem n) = (length text ≤ plain_limit) × (item : Item) × (later : List Item)
    × HasItems text (items ++ item ∷ later) × IsPlainTheory items
    × IsSome (refusal (context_of empty items) item) × (n ≡ length items + 1)

-- what is reported of a walk: a line for each accepted item, and of an accepted text the line of
-- counts
unfoldable pub reported : List Item → Ending → List ℕ
reported items Accepted = encode_utf8_all (summary_lines items ++ count_line items)
reported items _ = encode_utf8_all (summary_lines items)

-- what is said of a refused text
abbrev pub refusal_words : Ending → List ℕ
refusal_words Accepted = []
refusal_words TooLong = codes "TooLong"
refusal_words NotBuilt = codes "NotBuilt"
refusal_words (AtItem n) = codes "Item " ++ decimal n

-- the line on the second sink about the file with this name
unfoldable pub error_line : List ℕ → Ending → List ℕ
error_line file Accepted = []
error_line file ending = file ++ (codes ": " ++ (refusal_words ending ++ codes "\n"))
