-- Items whose texts are alike, piece by piece, are alike part by part.
use Rattle.std.proofs.Common.{◌≡◌, ℕ, ◌∙◌, ap, sym, refl, subst, List, [], ◌∷◌, ◌++◌, Some, codes, append_assoc}
use Rattle.std.specs.Prelude.{map, drop}
use Rattle.std.specs.List.{flat_map}
use Rattle.lt_texts.specs.declared.lexical.TokenKind.TheVariants.{CloseBrace}
use Rattle.lt_definitions.specs.Types.{Chars, TypeTree}
use Rattle.lt_definitions.specs.Terms.{TermTree}
use Rattle.lt_definitions.specs.Alpha.{IsAlphaEqual}
use Rattle.lt_definitions.specs.Rules.{Rule, by_weaken, by_sym, by_trans, by_cong, by_abs, by_eqmp, by_impI, by_mp, by_allI, by_allE, by_iff, by_inst, by_tinst, by_thm}
use Rattle.lt_definitions.specs.Items.{Item, type_item, const_item, axiom_item, def_item, typedef_item, lemma_item}
use Rattle.lt_nameless.specs.AlphaEqualLines.{AreAlphaEqualLines}
use Rattle.lt_texts.specs.Pieces.{Piece, word_piece, sign_piece, name_piece, number_piece, variable_piece, type_piece, keyword, colon, semicolon, rule_text, line_text, item_text}
use Rattle.lt_texts.specs.Forms.{plain_text}
use Rattle.lt_texts.specs.Named.{AreAlike}
use Rattle.lt_grammar.specs.declared.words.RuleWord.{RuleWord}
use Rattle.lt_grammar.specs.declared.words.RuleWord.TheVariants.{Assume, Weaken, Refl, Sym, Trans, Cong, Abs, Beta, Eta, Eqmp, ImpI, Mp, AllI, AllE, Iff, Inst, Tinst, Select, Ccontr, Thm}
use Rattle.lt_grammar.specs.declared.words.ItemWord.TheVariants.{TypeItem, Const, Axiom, Def, Typedef}
use Rattle.lt_grammar.specs.declared.words.Head.{Head}
use Rattle.lt_grammar.specs.declared.words.Head.TheVariants as begins
use Rattle.lt_grammar.specs.Table.{rule_row}
use Rattle.lt_grammar.specs.Words.{find_word, rule_of, head_word, heads}
use Rattle.lt_grammar.proofs.Distinct.{rule_found}
use Rattle.lt_grammar.specs.Rows.{Meanings}
use Rattle.lt_grammar.proofs.RowPieces.{row_pieces, made_of, RowOfRule, rule-row, rule-text}

-- lines that differ in binder names alone
abbrev pub AreAlikeLines : List (Rule TermTree) → List (Rule TermTree) → Type 0
AreAlikeLines [] [] = Unit {0}
AreAlikeLines (r ∷ rs) (q ∷ qs) = AreAlphaEqualLines r q × AreAlikeLines rs qs
AreAlikeLines _ _ = ⊥

-- items of one kind with the same names, numbers and types, and alpha-equal terms
abbrev pub IsAlikeItem : Item → Item → Type 0
IsAlikeItem (type_item n k) (type_item m j) = (n ≡ m) × (k ≡ j)
IsAlikeItem (const_item n ty) (const_item m u) = (n ≡ m) × (ty ≡ u)
IsAlikeItem (axiom_item l t) (axiom_item m u) = (l ≡ m) × IsAlphaEqual t u
IsAlikeItem (def_item n ty t) (def_item m u s) = (n ≡ m) × (ty ≡ u) × IsAlphaEqual t s
IsAlikeItem (typedef_item n ps p l a b) (typedef_item m qs q k c d) = (n ≡ m) × (ps ≡ qs) × IsAlphaEqual p q × (l ≡ k) × (a ≡ c) × (b ≡ d)
IsAlikeItem (lemma_item l t lines) (lemma_item m u others) = (l ≡ m) × IsAlphaEqual t u × AreAlikeLines lines others
IsAlikeItem _ _ = ⊥

-- ---- parts of pieces

word-same : (n m : Chars) → word_piece n ≡ word_piece m → n ≡ m
word-same n m e = cc e

name-same : (n m : Chars) → name_piece n ≡ name_piece m → n ≡ m
name-same n m e = cc e

number-same : (i j : ℕ) → number_piece i ≡ number_piece j → i ≡ j
number-same i j e = cc e

variable-same : (n m : Chars) → variable_piece n ≡ variable_piece m → n ≡ m
variable-same n m e = cc e

type-same : (t u : TypeTree) → type_piece t ≡ type_piece u → t ≡ u
type-same t u e = cc e

-- ---- lines

row-alike : (w : RuleWord) (vs us : Meanings (rule_row w).parts) (ps qs : List Piece)
    → AreAlike (row_pieces (rule_row w) vs ++ ps) (row_pieces (rule_row w) us ++ qs)
    → AreAlphaEqualLines (made_of (rule_row w) vs) (made_of (rule_row w) us) × AreAlike ps qs
row-alike Assume vs us ps qs h = ((refl, (h.1.0, tt)), h.1.1)
row-alike Weaken vs us ps qs h = (((λ z. by_weaken tt (number-same vs.1.0 us.1.0 h.1.1.0 z)), (h.1.0, tt)), h.1.1.1)
row-alike Refl vs us ps qs h = ((refl, (h.1.0, tt)), h.1.1)
row-alike Sym vs us ps qs h = (((λ z. by_sym (number-same vs.0 us.0 h.1.0 z)), tt), h.1.1)
row-alike Trans vs us ps qs h = (((λ z. by_trans (number-same vs.0 us.0 h.1.0 z) (number-same vs.1.0 us.1.0 h.1.1.0 z)), tt), h.1.1.1)
row-alike Cong vs us ps qs h = (((λ z. by_cong (number-same vs.0 us.0 h.1.0 z) (number-same vs.1.0 us.1.0 h.1.1.0 z)), tt), h.1.1.1)
row-alike Abs vs us ps qs h =
    (((λ z. by_abs (name-same vs.0 us.0 h.1.0 z) (type-same vs.1.0 us.1.0 h.1.1.0 z) (number-same vs.1.1.0 us.1.1.0 h.1.1.1.0 z)), tt), h.1.1.1.1)
row-alike Beta vs us ps qs h = ((refl, (h.1.0, tt)), h.1.1)
row-alike Eta vs us ps qs h = ((refl, (h.1.0, tt)), h.1.1)
row-alike Eqmp vs us ps qs h = (((λ z. by_eqmp (number-same vs.0 us.0 h.1.0 z) (number-same vs.1.0 us.1.0 h.1.1.0 z)), tt), h.1.1.1)
row-alike ImpI vs us ps qs h = (((λ z. by_impI tt (number-same vs.1.0 us.1.0 h.1.1.0 z)), (h.1.0, tt)), h.1.1.1)
row-alike Mp vs us ps qs h = (((λ z. by_mp (number-same vs.0 us.0 h.1.0 z) (number-same vs.1.0 us.1.0 h.1.1.0 z)), tt), h.1.1.1)
row-alike AllI vs us ps qs h =
    (((λ z. by_allI (name-same vs.0 us.0 h.1.0 z) (type-same vs.1.0 us.1.0 h.1.1.0 z) (number-same vs.1.1.0 us.1.1.0 h.1.1.1.0 z)), tt), h.1.1.1.1)
row-alike AllE vs us ps qs h = (((λ z. by_allE tt (number-same vs.1.0 us.1.0 h.1.1.0 z)), (h.1.0, tt)), h.1.1.1)
row-alike Iff vs us ps qs h = (((λ z. by_iff (number-same vs.0 us.0 h.1.0 z) (number-same vs.1.0 us.1.0 h.1.1.0 z)), tt), h.1.1.1)
row-alike Inst vs us ps qs h =
    (((λ z. by_inst (name-same vs.0 us.0 h.1.0 z) (type-same vs.1.0 us.1.0 h.1.1.0 z) tt (number-same vs.1.1.1.0 us.1.1.1.0 h.1.1.1.1.0 z)), (h.1.1.1.0, tt)), h.1.1.1.1.1)
row-alike Tinst vs us ps qs h =
    (((λ z. by_tinst (variable-same vs.0 us.0 h.1.0 z) (type-same vs.1.0 us.1.0 h.1.1.0 z) (number-same vs.1.1.0 us.1.1.0 h.1.1.1.0 z)), tt), h.1.1.1.1)
row-alike Select vs us ps qs h = ((refl, (h.1.0, tt)), h.1.1)
row-alike Ccontr vs us ps qs h = ((refl, (h.1.0, tt)), h.1.1)
row-alike Thm vs us ps qs h = (((λ z. by_thm (name-same vs.0 us.0 h.1.0 z)), tt), h.1.1)

rows-alike : (w v : RuleWord) (vs : Meanings (rule_row w).parts) (us : Meanings (rule_row v).parts)
    (ps qs : List Piece)
    → AreAlike (row_pieces (rule_row w) vs ++ ps) (row_pieces (rule_row v) us ++ qs)
    → AreAlphaEqualLines (made_of (rule_row w) vs) (made_of (rule_row v) us) × AreAlike ps qs
rows-alike w v vs us ps qs h =
    let word : (rule_row w).word ≡ (rule_row v).word = word-same (rule_row w).word (rule_row v).word h.0 in
    let some : Some w ≡ Some v = sym (rule_found w) ∙ ap rule_of word ∙ rule_found v in
    let same : w ≡ v = cc some in
    subst
    (λ (x : RuleWord). (us : Meanings (rule_row x).parts) → AreAlike (row_pieces (rule_row w) vs ++ ps) (row_pieces (rule_row x) us ++ qs)
    → AreAlphaEqualLines (made_of (rule_row w) vs) (made_of (rule_row x) us) × AreAlike ps qs)
    same (λ us h. row-alike w vs us ps qs h) us h

-- the text of a rule is that of its row
row-text : (r : Rule TermTree) → rule_text r ≡ row_pieces (rule_row (rule-row r).0) (rule-row r).1
row-text r = let row : RowOfRule r = rule-row r in ap rule_text (sym row.2) ∙ rule-text row.0 row.1

line-alike : (r q : Rule TermTree) (ps qs : List Piece)
    → AreAlike (line_text r ++ ps) (line_text q ++ qs) → AreAlphaEqualLines r q × AreAlike ps qs
line-alike r q ps qs h =
    let mine : RowOfRule r = rule-row r in
    let other : RowOfRule q = rule-row q in
    let first : line_text r ++ ps ≡ row_pieces (rule_row mine.0) mine.1 ++ semicolon ∷ ps =
    append_assoc (rule_text r) (semicolon ∷ []) ps ∙ ap (λ (z : List Piece). z ++ semicolon ∷ ps) (row-text r) in
    let second : line_text q ++ qs ≡ row_pieces (rule_row other.0) other.1 ++ semicolon ∷ qs =
    append_assoc (rule_text q) (semicolon ∷ []) qs ∙ ap (λ (z : List Piece). z ++ semicolon ∷ qs) (row-text q) in
    let k = rows-alike mine.0 other.0 mine.1 other.1 (semicolon ∷ ps) (semicolon ∷ qs)
    (subst (λ (z : List Piece). AreAlike z (row_pieces (rule_row other.0) other.1 ++ semicolon ∷ qs)) first (subst (AreAlike (line_text r ++ ps)) second h)) in
    let more : AreAlike (semicolon ∷ ps) (semicolon ∷ qs) = k.1 in
    (subst (λ (x : Rule TermTree). AreAlphaEqualLines x q) mine.2 (subst (AreAlphaEqualLines (made_of (rule_row mine.0) mine.1)) other.2 k.0), more.1)

-- a line's text begins with a word
line-first : (r : Rule TermTree)
    → (w : Chars) × (more : List Piece) × (line_text r ≡ word_piece w ∷ more)
line-first r =
    let row : RowOfRule r = rule-row r in
    ((rule_row row.0).word, drop 1 (row_pieces (rule_row row.0) row.1 ++ semicolon ∷ []), ap (λ (z : List Piece). z ++ semicolon ∷ []) (row-text r))

brace-no : (r : Rule TermTree) (ps qs : List Piece)
    → AreAlike (sign_piece CloseBrace ∷ ps) (line_text r ++ qs) → ⊥
brace-no r ps qs h =
    let f = line-first r in
    let k = subst (λ (z : List Piece). AreAlike (sign_piece CloseBrace ∷ ps) (z ++ qs)) f.2 h in
    let no : sign_piece CloseBrace ≡ word_piece f.0 = k.0 in
    absurd (cc no)

no-brace : (r : Rule TermTree) (ps qs : List Piece)
    → AreAlike (line_text r ++ ps) (sign_piece CloseBrace ∷ qs) → ⊥
no-brace r ps qs h =
    let f = line-first r in
    let k = subst (λ (z : List Piece). AreAlike (z ++ ps) (sign_piece CloseBrace ∷ qs)) f.2 h in
    let no : word_piece f.0 ≡ sign_piece CloseBrace = k.0 in
    absurd (cc no)

lines-alike : (rs qs : List (Rule TermTree)) (ps ms : List Piece)
    → AreAlike (flat_map line_text rs ++ sign_piece CloseBrace ∷ ps) (flat_map line_text qs ++ sign_piece CloseBrace ∷ ms)
    → AreAlikeLines rs qs
lines-alike [] [] ps ms h = tt
lines-alike [] (q ∷ qs) ps ms h =
    absurd (brace-no q ps (flat_map line_text qs ++ sign_piece CloseBrace ∷ ms)
    (subst (AreAlike (sign_piece CloseBrace ∷ ps)) (append_assoc (line_text q) (flat_map line_text qs) (sign_piece CloseBrace ∷ ms)) h))
lines-alike (r ∷ rs) [] ps ms h =
    absurd (no-brace r (flat_map line_text rs ++ sign_piece CloseBrace ∷ ps) ms
    (subst (λ (z : List Piece). AreAlike z (sign_piece CloseBrace ∷ ms)) (append_assoc (line_text r) (flat_map line_text rs) (sign_piece CloseBrace ∷ ps)) h))
lines-alike (r ∷ rs) (q ∷ qs) ps ms h =
    let more : List Piece = flat_map line_text rs ++ sign_piece CloseBrace ∷ ps in
    let others : List Piece = flat_map line_text qs ++ sign_piece CloseBrace ∷ ms in
    let k = line-alike r q more others
    (subst (λ (z : List Piece). AreAlike z (line_text q ++ others)) (append_assoc (line_text r) (flat_map line_text rs) (sign_piece CloseBrace ∷ ps))
    (subst (AreAlike ((line_text r ++ flat_map line_text rs) ++ sign_piece CloseBrace ∷ ps)) (append_assoc (line_text q) (flat_map line_text qs) (sign_piece CloseBrace ∷ ms)) h)) in
    (k.0, lines-alike rs qs ps ms k.1)

-- ---- items

abbrev kind : Item → Head
kind (type_item n k) = begins.Item TypeItem
kind (const_item n ty) = begins.Item Const
kind (axiom_item l t) = begins.Item Axiom
kind (def_item n ty t) = begins.Item Def
kind (typedef_item n ps p l a b) = begins.Item Typedef
kind (lemma_item l t lines) = begins.Lemma

abbrev BeginsBy : Item → Type 0
BeginsBy i = (w : Chars) × (more : List Piece) × (item_text i ≡ word_piece w ∷ more) × (find_word (head_word plain_text) heads w ≡ Some (kind i))

item-first : (i : Item) → BeginsBy i
item-first (type_item n k) = (codes "type", drop 1 (item_text (type_item n k)), refl, refl)
item-first (const_item n ty) = (codes "const", drop 1 (item_text (const_item n ty)), refl, refl)
item-first (axiom_item l t) = (codes "axiom", drop 1 (item_text (axiom_item l t)), refl, refl)
item-first (def_item n ty t) = (codes "def", drop 1 (item_text (def_item n ty t)), refl, refl)
item-first (typedef_item n ps p l a b) = (codes "typedef", drop 1 (item_text (typedef_item n ps p l a b)), refl, refl)
item-first (lemma_item l t lines) = (codes "lemma", drop 1 (item_text (lemma_item l t lines)), refl, refl)

same-kind : (i j : Item) → AreAlike (item_text i) (item_text j) → kind i ≡ kind j
same-kind i j h =
    let f : BeginsBy i = item-first i in
    let g : BeginsBy j = item-first j in
    let k = subst (λ (z : List Piece). AreAlike z (word_piece g.0 ∷ g.1)) f.2 (subst (AreAlike (item_text i)) g.2 h) in
    let word : f.0 ≡ g.0 = word-same f.0 g.0 k.0 in
    let some : Some (kind i) ≡ Some (kind j) = sym f.3 ∙ ap (find_word (head_word plain_text) heads) word ∙ g.3 in
    cc some

parameters-alike : (ns ms : List Chars) (ps qs : List Piece)
    → AreAlike (map variable_piece ns ++ colon ∷ ps) (map variable_piece ms ++ colon ∷ qs)
    → (ns ≡ ms) × AreAlike ps qs
parameters-alike [] [] ps qs h = (refl, h.1)
parameters-alike [] (m ∷ ms) ps qs h = let no : colon ≡ variable_piece m = h.0 in absurd (cc no)
parameters-alike (n ∷ ns) [] ps qs h = let no : variable_piece n ≡ colon = h.0 in absurd (cc no)
parameters-alike (n ∷ ns) (m ∷ ms) ps qs h =
    let k = parameters-alike ns ms ps qs h.1 in
    ((λ z. variable-same n m h.0 z ∷ k.0 z), k.1)

item-alike : (i j : Item) → kind i ≡ kind j → AreAlike (item_text i) (item_text j) → IsAlikeItem i j
item-alike (type_item n k) (type_item m j) e h = (name-same n m h.1.0, number-same k j h.1.1.0)
item-alike (const_item n ty) (const_item m u) e h = (name-same n m h.1.0, type-same ty u h.1.1.1.0)
item-alike (axiom_item l t) (axiom_item m u) e h = (name-same l m h.1.0, h.1.1.1.0)
item-alike (def_item n ty t) (def_item m u s) e h = (name-same n m h.1.0, type-same ty u h.1.1.1.0, h.1.1.1.1.1.0)
item-alike (typedef_item n ns p l a b) (typedef_item m ms q k c d) e h =
    let ps : List Piece = keyword "by" ∷ name_piece l ∷ keyword "abs" ∷ name_piece a ∷ keyword "rep" ∷ name_piece b ∷ [] in
    let y = parameters-alike ns ms _ _ h.1.1 in
    let z = y.1 in
    (name-same n m h.1.0, y.0, z.0, name-same l k z.1.1.0, name-same a c z.1.1.1.1.0, name-same b d z.1.1.1.1.1.1.0)
item-alike (lemma_item l t lines) (lemma_item m u others) e h = (name-same l m h.1.0, h.1.1.1.0, lines-alike lines others [] [] h.1.1.1.1.1)
item-alike (type_item n k) (const_item m u) e h = absurd (cc e)
item-alike (type_item n k) (axiom_item m u) e h = absurd (cc e)
item-alike (type_item n k) (def_item m u s) e h = absurd (cc e)
item-alike (type_item n k) (typedef_item m ms q j c d) e h = absurd (cc e)
item-alike (type_item n k) (lemma_item m u others) e h = absurd (cc e)
item-alike (const_item n ty) (type_item m j) e h = absurd (cc e)
item-alike (const_item n ty) (axiom_item m u) e h = absurd (cc e)
item-alike (const_item n ty) (def_item m u s) e h = absurd (cc e)
item-alike (const_item n ty) (typedef_item m ms q k c d) e h = absurd (cc e)
item-alike (const_item n ty) (lemma_item m u others) e h = absurd (cc e)
item-alike (axiom_item l t) (type_item m j) e h = absurd (cc e)
item-alike (axiom_item l t) (const_item m u) e h = absurd (cc e)
item-alike (axiom_item l t) (def_item m u s) e h = absurd (cc e)
item-alike (axiom_item l t) (typedef_item m ms q k c d) e h = absurd (cc e)
item-alike (axiom_item l t) (lemma_item m u others) e h = absurd (cc e)
item-alike (def_item n ty t) (type_item m j) e h = absurd (cc e)
item-alike (def_item n ty t) (const_item m u) e h = absurd (cc e)
item-alike (def_item n ty t) (axiom_item m u) e h = absurd (cc e)
item-alike (def_item n ty t) (typedef_item m ms q k c d) e h = absurd (cc e)
item-alike (def_item n ty t) (lemma_item m u others) e h = absurd (cc e)
item-alike (typedef_item n ns p l a b) (type_item m j) e h = absurd (cc e)
item-alike (typedef_item n ns p l a b) (const_item m u) e h = absurd (cc e)
item-alike (typedef_item n ns p l a b) (axiom_item m u) e h = absurd (cc e)
item-alike (typedef_item n ns p l a b) (def_item m u s) e h = absurd (cc e)
item-alike (typedef_item n ns p l a b) (lemma_item m u others) e h = absurd (cc e)
item-alike (lemma_item l t lines) (type_item m j) e h = absurd (cc e)
item-alike (lemma_item l t lines) (const_item m u) e h = absurd (cc e)
item-alike (lemma_item l t lines) (axiom_item m u) e h = absurd (cc e)
item-alike (lemma_item l t lines) (def_item m u s) e h = absurd (cc e)
item-alike (lemma_item l t lines) (typedef_item m ms q k c d) e h = absurd (cc e)

pub item_alike : (i j : Item) → AreAlike (item_text i) (item_text j) → IsAlikeItem i j
item_alike i j h = item-alike i j (same-kind i j h) h
