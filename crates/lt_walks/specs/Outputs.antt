-- What is written of a walk: the summary of its items, and the line on the first thing that is
-- refused.
-- Source: this project's own.
use Rattle.std.specs.Prelude.{ℕ, List, [], ◌++◌, Option, Some, None, codes, encode_utf8_all}
use Rattle.lt_definitions.specs.Types.{Chars}
use Rattle.lt_definitions.specs.Items.{Item}
use Rattle.lt_definitions.specs.Theory.{Refusal}
use Rattle.lt_definitions.specs.Printing.{summary_lines, count_line}
use Rattle.lt_texts.specs.Walks.{plain_limit}
use Rattle.lt_texts.specs.Files.{File, InFile, in_file, printed_place, first_past}
use Rattle.lt_walks.specs.Walks.{End, accepted, too_long, wrong_header, unread, refused}
use Rattle.lt_walks.specs.RefusalTexts.{printed_refusal, wrong_word, wrong_place}

-- The summary: a line for each item, and behind a text that was accepted the line of counts.
unfoldable pub summary_of : {R : Type 0} → List Item → End R → List ℕ
summary_of items accepted = encode_utf8_all (summary_lines items ++ count_line items)
summary_of items _ = encode_utf8_all (summary_lines items)

-- a line about a place in the files
abbrev pub line_about : Option InFile → Chars → List ℕ
line_about None what = []
line_about (Some p) what =
    printed_place p ++ (codes ": " ++ (encode_utf8_all what ++ codes "\n"))

-- The line on the second sink, given how a refusal prints and how many bytes a text may have.
abbrev pub end_line : {R : Type 0} → (R → Chars) → (most : ℕ) → List File → End R → List ℕ
end_line prints most files accepted = []
end_line prints most files too_long = first_past files most ++ codes ": TooLong\n"
end_line prints most files (wrong_header e) =
    line_about (in_file files (wrong_place e)) (wrong_word e)
end_line prints most files (unread e) = line_about (in_file files (wrong_place e)) (wrong_word e)
end_line prints most files (refused r place) = line_about (in_file files place) (prints r)

-- that of `check`
unfoldable pub check_line : List File → End Refusal → List ℕ
check_line files end = end_line printed_refusal plain_limit files end
