-- What is printed of items are characters that bytes encode.
use Rattle.std.proofs.Common.{◌∙◌, ap, refl, List, [], ◌∷◌, ◌++◌, codes, arith}
use Rattle.std.specs.Prelude.{map}
use Rattle.std.specs.List.{flat_map}
use Rattle.std.specs.Str.{all_scalars}
use Rattle.lt_texts.specs.declared.lexical.TokenKind.{TokenKind}
use Rattle.lt_texts.specs.declared.lexical.TokenKind.TheVariants.{Name, TypeVariable, Number, Open, Close, OpenSquare, CloseSquare, OpenBrace, CloseBrace, Semicolon, Colon, Becomes, Dollar, Percent, Backslash}
use Rattle.lt_definitions.specs.Types.{Chars}
use Rattle.lt_definitions.specs.Terms.{TermTree}
use Rattle.lt_definitions.specs.Rules.{Rule, by_assume, by_weaken, by_refl, by_sym, by_trans, by_cong, by_abs, by_beta, by_eta, by_eqmp, by_impI, by_mp, by_allI, by_allE, by_iff, by_inst, by_tinst, by_select, by_ccontr, by_thm}
use Rattle.lt_definitions.specs.Items.{Item, type_item, const_item, axiom_item, def_item, typedef_item, lemma_item}
use Rattle.lt_definitions.specs.Printing.{words, printed_rule, printed_head, printed_lines, printed_item, report}
use Rattle.lt_texts.specs.Pieces.{Piece, word_piece, sign_piece, name_piece, number_piece, variable_piece, type_piece, statement_piece, term_piece, semicolon, rule_text, line_text, head_text, printed_sign, printed_piece}
use Rattle.lt_texts.specs.Named.{IsReadablePiece, AreReadable, IsReadableItem, AreReadableItems}
use Rattle.lt_grammar.proofs.Scalars.{AreScalars, scalars_append, decimal_scalars, type_scalars, term_scalars}
use Rattle.lt_grammar.proofs.PrintedPieces.{printed_rule_pieces, printed_head_pieces}

pub sign-scalars : (k : TokenKind) → AreScalars (printed_sign k)
sign-scalars Name = refl
sign-scalars TypeVariable = refl
sign-scalars Number = refl
sign-scalars Open = refl
sign-scalars Close = refl
sign-scalars OpenSquare = refl
sign-scalars CloseSquare = refl
sign-scalars OpenBrace = refl
sign-scalars CloseBrace = refl
sign-scalars Semicolon = refl
sign-scalars Colon = refl
sign-scalars Becomes = refl
sign-scalars Dollar = refl
sign-scalars Percent = refl
sign-scalars Backslash = refl

-- the words that stand as they are
abbrev WordScalars : List Piece → Type 0
WordScalars [] = Unit {0}
WordScalars (word_piece w ∷ ps) = AreScalars w × WordScalars ps
WordScalars (p ∷ ps) = WordScalars ps

piece-scalars : (p : Piece) → IsReadablePiece p → WordScalars (p ∷ []) → AreScalars (printed_piece p)
piece-scalars (word_piece w) r h = h.0
piece-scalars (sign_piece k) r h = sign-scalars k
piece-scalars (name_piece n) r h = r.1
piece-scalars (number_piece k) r h = decimal_scalars k (omega (arith, r))
piece-scalars (variable_piece a) r h = r.1
piece-scalars (type_piece ty) r h = type_scalars ty r
piece-scalars (statement_piece t) r h = term_scalars t r
piece-scalars (term_piece t) r h = term_scalars t r

first-scalars : (p : Piece) (ps : List Piece) → WordScalars (p ∷ ps) → WordScalars (p ∷ [])
first-scalars (word_piece w) ps h = (h.0, tt)
first-scalars (sign_piece k) ps h = tt
first-scalars (name_piece n) ps h = tt
first-scalars (number_piece k) ps h = tt
first-scalars (variable_piece a) ps h = tt
first-scalars (type_piece ty) ps h = tt
first-scalars (statement_piece t) ps h = tt
first-scalars (term_piece t) ps h = tt

later-scalars : (p : Piece) (ps : List Piece) → WordScalars (p ∷ ps) → WordScalars ps
later-scalars (word_piece w) ps h = h.1
later-scalars (sign_piece k) ps h = h
later-scalars (name_piece n) ps h = h
later-scalars (number_piece k) ps h = h
later-scalars (variable_piece a) ps h = h
later-scalars (type_piece ty) ps h = h
later-scalars (statement_piece t) ps h = h
later-scalars (term_piece t) ps h = h

words-scalars : (ps : List Piece) → AreReadable ps → WordScalars ps → AreScalars (words (map printed_piece ps))
words-scalars [] r h = refl
words-scalars (p ∷ []) r h = piece-scalars p r.0 (first-scalars p [] h)
words-scalars (p ∷ q ∷ ps) r h =
    scalars_append (printed_piece p) (codes " " ++ words (map printed_piece (q ∷ ps))) (piece-scalars p r.0 (first-scalars p (q ∷ ps) h))
    (words-scalars (q ∷ ps) r.1 (later-scalars p (q ∷ ps) h))

params-words : (params : List Chars) (ps : List Piece) → WordScalars ps → WordScalars (map variable_piece params ++ ps)
params-words [] ps h = h
params-words (a ∷ params) ps h = params-words params ps h

readable-first : (ps qs : List Piece) → AreReadable (ps ++ qs) → AreReadable ps
readable-first [] qs r = tt
readable-first (p ∷ ps) qs r = (r.0, readable-first ps qs r.1)

readable-last : (ps qs : List Piece) → AreReadable (ps ++ qs) → AreReadable qs
readable-last [] qs r = r
readable-last (p ∷ ps) qs r = readable-last ps qs r.1

head-words : (i : Item) → WordScalars (head_text i)
head-words (type_item n k) = (refl, tt)
head-words (const_item n ty) = (refl, tt)
head-words (axiom_item l t) = (refl, tt)
head-words (def_item n ty body) = (refl, tt)
head-words (typedef_item n params p l a b) = (refl, params-words params _ (refl, (refl, (refl, tt))))
head-words (lemma_item l t lines) = (refl, tt)

head-readable : (i : Item) → IsReadableItem i → AreReadable (head_text i)
head-readable (type_item n k) r = r
head-readable (const_item n ty) r = r
head-readable (axiom_item l t) r = r
head-readable (def_item n ty body) r = r
head-readable (typedef_item n params p l a b) r = r
head-readable (lemma_item l t lines) r = let a = r.1 in let b = a.1 in let c = b.1 in (r.0, (a.0, (b.0, (c.0, tt))))

head-scalars : (i : Item) → IsReadableItem i → AreScalars (printed_head i)
head-scalars i r = ap all_scalars (printed_head_pieces i) ∙ words-scalars (head_text i) (head-readable i r) (head-words i)

rule-words : (r : Rule TermTree) → WordScalars (rule_text r)
rule-words (by_assume p) = (refl, tt)
rule-words (by_weaken p i) = (refl, tt)
rule-words (by_refl t) = (refl, tt)
rule-words (by_sym i) = (refl, tt)
rule-words (by_trans i j) = (refl, tt)
rule-words (by_cong i j) = (refl, tt)
rule-words (by_abs x ty i) = (refl, tt)
rule-words (by_beta t) = (refl, tt)
rule-words (by_eta t) = (refl, tt)
rule-words (by_eqmp i j) = (refl, tt)
rule-words (by_impI p i) = (refl, tt)
rule-words (by_mp i j) = (refl, tt)
rule-words (by_allI x ty i) = (refl, tt)
rule-words (by_allE t i) = (refl, tt)
rule-words (by_iff i j) = (refl, tt)
rule-words (by_inst x ty t i) = (refl, tt)
rule-words (by_tinst a ty i) = (refl, tt)
rule-words (by_select p) = (refl, tt)
rule-words (by_ccontr p) = (refl, tt)
rule-words (by_thm l) = (refl, tt)

lines-scalars : (rules : List (Rule TermTree)) → AreReadable (flat_map line_text rules) → AreScalars (printed_lines rules)
lines-scalars [] r = refl
lines-scalars (x ∷ rules) r =
    let line : AreReadable (rule_text x) = readable-first (rule_text x) (semicolon ∷ []) (readable-first (line_text x) (flat_map line_text rules) r) in
    scalars_append (codes "  " ++ (printed_rule x ++ codes ";\n")) (printed_lines rules)
    (scalars_append (printed_rule x) (codes ";\n") (ap all_scalars (printed_rule_pieces x) ∙ words-scalars (rule_text x) line (rule-words x)) refl)
    (lines-scalars rules (readable-last (line_text x) (flat_map line_text rules) r))

item-scalars : (i : Item) → IsReadableItem i → AreScalars (printed_item i)
item-scalars (lemma_item l t lines) r =
    let a = r.1 in let b = a.1 in let c = b.1 in let d = c.1 in
    scalars_append (printed_head (lemma_item l t lines)) (codes " {\n" ++ (printed_lines lines ++ codes "};\n")) (head-scalars (lemma_item l t lines) r)
    (scalars_append (printed_lines lines) (codes "};\n") (lines-scalars lines (readable-first (flat_map line_text lines) (sign_piece CloseBrace ∷ []) d.1)) refl)
item-scalars (type_item n k) r = scalars_append (printed_head (type_item n k)) (codes ";\n") (head-scalars (type_item n k) r) refl
item-scalars (const_item n ty) r = scalars_append (printed_head (const_item n ty)) (codes ";\n") (head-scalars (const_item n ty) r) refl
item-scalars (axiom_item l t) r = scalars_append (printed_head (axiom_item l t)) (codes ";\n") (head-scalars (axiom_item l t) r) refl
item-scalars (def_item n ty body) r = scalars_append (printed_head (def_item n ty body)) (codes ";\n") (head-scalars (def_item n ty body) r) refl
item-scalars (typedef_item n params p l a b) r = scalars_append (printed_head (typedef_item n params p l a b)) (codes ";\n") (head-scalars (typedef_item n params p l a b) r) refl

items-scalars : (items : List Item) → AreReadableItems items → AreScalars (flat_map printed_item items)
items-scalars [] r = refl
items-scalars (i ∷ items) r = scalars_append (printed_item i) (flat_map printed_item items) (item-scalars i r.0) (items-scalars items r.1)

pub report_scalars : (items : List Item) → AreReadableItems items → AreScalars (report items)
report_scalars items r = items-scalars items r
