-- Heads of items and the line of counts, piece by piece.
use Rattle.std.specs.Prelude.{ℕ, List, [], ◌∷◌, ◌++◌, codes}
use Rattle.std.specs.Fmt.{decimal}
use Rattle.std.specs.List.{flat_map}
use Rattle.lt_definitions.specs.Types.{Chars, TypeTree}
use Rattle.lt_definitions.specs.Terms.{TermTree}
use Rattle.lt_definitions.specs.Items.{Item, lemma_item}
use Rattle.lt_definitions.specs.Printing.{printed_type, printed_term, printed_lines, words}

-- type variables, each behind a space and a quote
abbrev pub spaced_params : List Chars → Chars
spaced_params params = flat_map (λ a. codes " '" ++ a) params

abbrev pub definition_head : Chars → TypeTree → TermTree → Chars
definition_head n ty body = codes "def " ++ (n ++ (codes " : " ++ (printed_type ty ++ (codes " := " ++ printed_term [] body))))

abbrev pub typedef_head : Chars → List Chars → TermTree → Chars → Chars → Chars → Chars
typedef_head n params p l a b =
    codes "typedef " ++ (n ++ (spaced_params params ++ (codes " : " ++ (printed_term [] p ++ (codes " by " ++ (l ++ (codes " abs " ++ (a ++ (codes " rep " ++ b)))))))))

-- what stands behind an item's head in its command
abbrev pub printed_end : Item → Chars
printed_end (lemma_item l t lines) = codes " {\n" ++ (printed_lines lines ++ codes "};\n")
printed_end _ = codes ";\n"

-- the line of these counts of items, axioms and lemmas
abbrev pub line_of_counts : ℕ → ℕ → ℕ → Chars
line_of_counts items axioms lemmas =
    words (codes "items" ∷ decimal items ∷ codes "axioms" ∷ decimal axioms ∷ codes "lemmas" ∷ decimal lemmas ∷ []) ++ codes "\n"
