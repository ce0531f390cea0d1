-- No two ways of writing lines or sentences have the same lexemes.
use Rattle.std.proofs.Common.{◌≡◌, List, [], ◌∷◌, refl}
use Rattle.lt_texts.specs.declared.lexical.TokenKind.TheVariants.{OpenBrace, CloseBrace, Semicolon}
use Rattle.lt_texts.specs.Lexemes.{Lexeme, a_sign}
use Rattle.lt_texts.specs.Forms.{Form}
use Rattle.lt_grammar.specs.declared.words.RuleWord.{RuleWord}
use Rattle.lt_grammar.specs.declared.words.ItemWord.{ItemWord}
use Rattle.lt_grammar.specs.declared.words.CommandWord.{CommandWord}
use Rattle.lt_grammar.specs.declared.words.Head.{Head}
use Rattle.lt_grammar.specs.declared.words.Head.TheVariants.{Header, Lemma, Item, Command as Further}
use Rattle.lt_grammar.specs.Rows.{parts_lexemes}
use Rattle.lt_grammar.specs.Table.{rule_row, item_row, lemma_parts, command_row}
use Rattle.lt_grammar.specs.Words.{rule_word, head_word}
use Rattle.lt_grammar.specs.RowTexts.{LineText, line, lines_lexemes, PartText, header, item, lemma, command, text_lexemes, MayStand}
use Rattle.lt_grammar.proofs.Distinct.{IsHead, one_rule, one_head}
use Rattle.lt_grammar.proofs.OneWay.{one_texts, one_row}

pub one_lines : (m k : List LineText) (x y : List Lexeme) → lines_lexemes m (a_sign CloseBrace ∷ x) ≡ lines_lexemes k (a_sign CloseBrace ∷ y) → (m ≡ k) × (x ≡ y)
one_lines [] [] x y e = (refl, cc e)
one_lines [] (line v us ∷ k) x y e = absurd (cc e)
one_lines (line w ts ∷ m) [] x y e = absurd (cc e)
one_lines (line w ts ∷ m) (line v us ∷ k) x y e =
    let words : rule_word w ≡ rule_word v = cc e in
    let tail : parts_lexemes (rule_row w).parts ts (a_sign Semicolon ∷ lines_lexemes m (a_sign CloseBrace ∷ x))
    ≡ parts_lexemes (rule_row v).parts us (a_sign Semicolon ∷ lines_lexemes k (a_sign CloseBrace ∷ y)) = cc e in
    let p = one_row (λ (r : RuleWord). (rule_row r).parts) line w v (one_rule w v words) ts us _ _ tt tt tail in
    let rest : lines_lexemes m (a_sign CloseBrace ∷ x) ≡ lines_lexemes k (a_sign CloseBrace ∷ y) = let h = p.1 in cc h in
    let q = one_lines m k x y rest in
    let first = p.0 in let second = q.0 in
    (cc (first, second), q.1)

-- what a sentence begins with
abbrev pub head_of_part : PartText → Head
head_of_part header = Header
head_of_part (item w ts) = Item w
head_of_part (lemma l p lines) = Lemma
head_of_part (command w ts) = Further w

pub is-head : (h : Form) (p : PartText) → MayStand h p → IsHead h (head_of_part p)
is-head h header m = tt
is-head h (item w ts) m = m
is-head h (lemma l p lines) m = m
is-head h (command w ts) m = m

words-of : (h : Form) (p q : PartText) (x y : List Lexeme) → text_lexemes h p x ≡ text_lexemes h q y → head_word h (head_of_part p) ≡ head_word h (head_of_part q)
words-of h header header x y e = cc e
words-of h header (item v us) x y e = cc e
words-of h header (lemma l p lines) x y e = cc e
words-of h header (command v us) x y e = cc e
words-of h (item w ts) header x y e = cc e
words-of h (item w ts) (item v us) x y e = cc e
words-of h (item w ts) (lemma l p lines) x y e = cc e
words-of h (item w ts) (command v us) x y e = cc e
words-of h (lemma l p lines) header x y e = cc e
words-of h (lemma l p lines) (item v us) x y e = cc e
words-of h (lemma l p lines) (lemma k q others) x y e = cc e
words-of h (lemma l p lines) (command v us) x y e = cc e
words-of h (command w ts) header x y e = cc e
words-of h (command w ts) (item v us) x y e = cc e
words-of h (command w ts) (lemma l p lines) x y e = cc e
words-of h (command w ts) (command v us) x y e = cc e

-- parts of one head
one-of-head : (h : Form) (p q : PartText) (x y : List Lexeme) → head_of_part p ≡ head_of_part q → text_lexemes h p x ≡ text_lexemes h q y → (p ≡ q) × (x ≡ y)
one-of-head h header header x y k e = (refl, cc e)
one-of-head h (item w ts) (item v us) x y k e =
    let same : w ≡ v = cc k in
    let tail : parts_lexemes (item_row w).parts ts (a_sign Semicolon ∷ x) ≡ parts_lexemes (item_row v).parts us (a_sign Semicolon ∷ y) = cc e in
    let r = one_row (λ (w : ItemWord). (item_row w).parts) item w v same ts us _ _ tt tt tail in
    let rest = r.1 in
    (r.0, cc rest)
one-of-head h (lemma l p lines) (lemma m q others) x y k e =
    let tail : parts_lexemes lemma_parts (l, (tt, (p, tt))) (a_sign OpenBrace ∷ lines_lexemes lines (a_sign CloseBrace ∷ a_sign Semicolon ∷ x))
    ≡ parts_lexemes lemma_parts (m, (tt, (q, tt))) (a_sign OpenBrace ∷ lines_lexemes others (a_sign CloseBrace ∷ a_sign Semicolon ∷ y)) = cc e in
    let r = one_texts lemma_parts (l, (tt, (p, tt))) (m, (tt, (q, tt))) _ _ tt tt tail in
    let inner : lines_lexemes lines (a_sign CloseBrace ∷ a_sign Semicolon ∷ x) ≡ lines_lexemes others (a_sign CloseBrace ∷ a_sign Semicolon ∷ y) = let g = r.1 in cc g in
    let i = one_lines lines others _ _ inner in
    let rest = i.1 in
    (λ j. lemma (r.0 j).0 (r.0 j).1.1.0 (i.0 j), cc rest)
one-of-head h (command w ts) (command v us) x y k e =
    let same : w ≡ v = cc k in
    let tail : parts_lexemes (command_row w).parts ts (a_sign Semicolon ∷ x) ≡ parts_lexemes (command_row v).parts us (a_sign Semicolon ∷ y) = cc e in
    let r = one_row (λ (w : CommandWord). (command_row w).parts) command w v same ts us _ _ tt tt tail in
    let rest = r.1 in
    (r.0, cc rest)
one-of-head h _ _ x y k e = absurd (cc k)

pub one_part : (h : Form) (p q : PartText) (x y : List Lexeme) → MayStand h p → MayStand h q → text_lexemes h p x ≡ text_lexemes h q y → (p ≡ q) × (x ≡ y)
one_part h p q x y m n e = one-of-head h p q x y (one_head h (head_of_part p) (head_of_part q) (is-head h p m) (is-head h q n) (words-of h p q x y e)) e

pub part_not_empty : (h : Form) (p : PartText) (y : List Lexeme) → [] ≡ text_lexemes h p y → ⊥
part_not_empty h header y e = absurd (cc e)
part_not_empty h (item w ts) y e = absurd (cc e)
part_not_empty h (lemma l p lines) y e = absurd (cc e)
part_not_empty h (command w ts) y e = absurd (cc e)
