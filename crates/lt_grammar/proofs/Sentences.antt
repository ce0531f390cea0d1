-- No lexemes are written of two sentences, and what is written of sentences in a row ends in one way.
use Rattle.std.proofs.Common.{◌≡◌, ℕ, ◌∙◌, ap, sym, refl, subst, List, [], ◌∷◌, ◌++◌, append-nil}
use Rattle.std.specs.Prelude.{map}
use Rattle.lt_definitions.specs.Items.{Item}
use Rattle.lt_texts.specs.Lexemes.{Lexeme}
use Rattle.lt_texts.specs.Commands.{Command, item_command}
use Rattle.lt_texts.specs.Pieces.{AreWritten}
use Rattle.lt_texts.specs.Forms.{Form, plain_text, Sentence, header_again, sentence_text, sentences_text, IsAllowed, AreAllowed, commands_of, IsText, HasCommands, HasPlainItems}
use Rattle.lt_texts.proofs.Readings.{read_once}
use Rattle.lt_grammar.specs.RowTexts.{text_lexemes, sentence_of}
use Rattle.lt_grammar.proofs.Splits.{text_splits}
use Rattle.lt_grammar.proofs.RowReading.{one_part, part_not_empty}
use Rattle.lt_grammar.proofs.RowPieces.{join_written, split_written, sentence_written, written_sentence, allowed_may}

-- ---- one sentence

pub one_sentence : (f : Form) (x y : Sentence) (ws a b : List Lexeme) → IsAllowed f x → IsAllowed f y → AreWritten (sentence_text f x) ws a → AreWritten (sentence_text f y) ws b
    → (x ≡ y) × (a ≡ b)
one_sentence f x y ws a b m n h k =
    let p = written_sentence f x ws a h in
    let q = written_sentence f y ws b k in
    let r = one_part f p.0 q.0 a b (allowed_may f p.0 (subst (IsAllowed f) (sym p.1) m)) (allowed_may f q.0 (subst (IsAllowed f) (sym q.1) n)) (sym p.2 ∙ q.2) in
    (sym p.1 ∙ ap sentence_of r.0 ∙ q.1, r.1)

pub sentence_not_empty : (f : Form) (x : Sentence) (rest : List Lexeme) → AreWritten (sentence_text f x) [] rest → ⊥
sentence_not_empty f x rest h = let p = written_sentence f x [] rest h in part_not_empty f p.0 rest p.2

-- what is written of a sentence goes on with further lexemes behind the rest
pub sentence_goes_on : (f : Form) (x : Sentence) (ws rest more : List Lexeme) → AreWritten (sentence_text f x) ws rest → AreWritten (sentence_text f x) (ws ++ more) (rest ++ more)
sentence_goes_on f x ws rest more h =
    let p = written_sentence f x ws rest h in
    let same : ws ++ more ≡ text_lexemes f p.0 (rest ++ more) = ap (λ (z : List Lexeme). z ++ more) p.2 ∙ sym (text_splits f p.0 rest more) in
    subst (λ (y : Sentence). AreWritten (sentence_text f y) (ws ++ more) (rest ++ more)) p.1
    (subst (λ (z : List Lexeme). AreWritten (sentence_text f (sentence_of p.0)) z (rest ++ more)) (sym same) (sentence_written f p.0 (rest ++ more)))

-- and its lexemes alone are before the rest
pub sentence_alone : (f : Form) (x : Sentence) (ws rest : List Lexeme) → AreWritten (sentence_text f x) ws rest
    → (own : List Lexeme) × (ws ≡ own ++ rest) × AreWritten (sentence_text f x) own []
sentence_alone f x ws rest h =
    let p = written_sentence f x ws rest h in
    (text_lexemes f p.0 [], p.2 ∙ text_splits f p.0 [] rest, subst (λ (y : Sentence). AreWritten (sentence_text f y) (text_lexemes f p.0 []) []) p.1 (sentence_written f p.0 []))

-- ---- sentences in a row

pub join_sentences : (f : Form) (xs ys : List Sentence) (ws mid rest : List Lexeme) → AreWritten (sentences_text f xs) ws mid → AreWritten (sentences_text f ys) mid rest
    → AreWritten (sentences_text f (xs ++ ys)) ws rest
join_sentences f [] ys ws mid rest h k = subst (λ (z : List Lexeme). AreWritten (sentences_text f ys) z rest) (sym h) k
join_sentences f (x ∷ xs) ys ws mid rest h k =
    let s = split_written (sentence_text f x) (sentences_text f xs) ws mid h in
    join_written (sentence_text f x) (sentences_text f (xs ++ ys)) ws s.0 rest s.1 (join_sentences f xs ys s.0 mid rest s.2 k)

pub allowed_append : (f : Form) (xs ys : List Sentence) → AreAllowed f xs → AreAllowed f ys → AreAllowed f (xs ++ ys)
allowed_append f [] ys a b = b
allowed_append f (x ∷ xs) ys a b = (a.0, allowed_append f xs ys a.1 b)

pub sentences_go_on : (f : Form) (xs : List Sentence) (ws rest more : List Lexeme) → AreWritten (sentences_text f xs) ws rest → AreWritten (sentences_text f xs) (ws ++ more) (rest ++ more)
sentences_go_on f [] ws rest more h = ap (λ (z : List Lexeme). z ++ more) h
sentences_go_on f (x ∷ xs) ws rest more h =
    let s = split_written (sentence_text f x) (sentences_text f xs) ws rest h in
    join_written (sentence_text f x) (sentences_text f xs) (ws ++ more) (s.0 ++ more) (rest ++ more) (sentence_goes_on f x ws s.0 more s.1) (sentences_go_on f xs s.0 rest more s.2)

-- Behind the lexemes of sentences stands what is written of the further ones.
abbrev pub Later : Form → List Sentence → List Sentence → List Lexeme → Type 0
Later f xs ys mid = (zs : List Sentence) × AreAllowed f zs × (ys ≡ xs ++ zs) × AreWritten (sentences_text f zs) mid []

pub later_sentences : (f : Form) (xs ys : List Sentence) (ws mid : List Lexeme) → AreAllowed f xs → AreAllowed f ys
    → AreWritten (sentences_text f xs) ws mid → AreWritten (sentences_text f ys) ws [] → Later f xs ys mid
later_sentences f [] ys ws mid a b h k = (ys, b, refl, subst (λ (z : List Lexeme). AreWritten (sentences_text f ys) z []) h k)
later_sentences f (x ∷ xs) [] ws mid a b h k =
    let s = split_written (sentence_text f x) (sentences_text f xs) ws mid h in
    absurd (sentence_not_empty f x s.0 (subst (λ (z : List Lexeme). AreWritten (sentence_text f x) z s.0) k s.1))
later_sentences f (x ∷ xs) (y ∷ ys) ws mid a b h k =
    let s = split_written (sentence_text f x) (sentences_text f xs) ws mid h in
    let t = split_written (sentence_text f y) (sentences_text f ys) ws [] k in
    let one = one_sentence f x y ws s.0 t.0 a.0 b.0 s.1 t.1 in
    let r = later_sentences f xs ys s.0 mid a.1 b.1 s.2 (subst (λ (z : List Lexeme). AreWritten (sentences_text f ys) z []) (sym one.1) t.2) in
    (r.0, r.1, λ i. sym one.0 i ∷ r.2 i, r.3)

-- nothing is written of no lexemes
none-written : (f : Form) (zs : List Sentence) → AreWritten (sentences_text f zs) [] [] → zs ≡ []
none-written f [] h = refl
none-written f (z ∷ zs) h =
    let s = split_written (sentence_text f z) (sentences_text f zs) [] [] h in
    absurd (sentence_not_empty f z s.0 s.1)

pub one_sentences : (f : Form) (xs ys : List Sentence) (ws : List Lexeme) → AreAllowed f xs → AreAllowed f ys
    → AreWritten (sentences_text f xs) ws [] → AreWritten (sentences_text f ys) ws [] → ys ≡ xs
one_sentences f xs ys ws a b h k =
    let r = later_sentences f xs ys ws [] a b h k in
    r.2 ∙ ap (λ (z : List Sentence). xs ++ z) (none-written f r.0 r.3) ∙ append-nil xs

-- ---- texts

pub one_writing : (f : Form) (ws : List Lexeme) (cs ds : List Command) → IsText f ws cs → IsText f ws ds → cs ≡ ds
one_writing f ws cs ds (xs, a, h, p) (ys, b, k, q) =
    p ∙ ap commands_of (sym (one_sentences f (header_again ∷ xs) (header_again ∷ ys) ws (tt, a) (tt, b) h k)) ∙ sym q

pub one_reading : (f : Form) (text : List ℕ) (cs ds : List Command) → HasCommands f text cs → HasCommands f text ds → cs ≡ ds
one_reading f text cs ds p q = one_writing f q.0 cs ds (subst (λ (ws : List Lexeme). IsText f ws cs) (read_once text p.0 q.0 p.1 q.1) p.2) q.2

same-items : (items others : List Item) → map item_command items ≡ map item_command others → items ≡ others
same-items [] [] e = refl
same-items [] (o ∷ others) e = absurd (cc e)
same-items (i ∷ items) [] e = absurd (cc e)
same-items (i ∷ items) (o ∷ others) e =
    let first : i ≡ o = cc e in
    let tail : map item_command items ≡ map item_command others = cc e in
    let rest = same-items items others tail in
    cc (first, rest)

pub one_plain_reading : (text : List ℕ) (items others : List Item) → HasPlainItems text items → HasPlainItems text others → items ≡ others
one_plain_reading text items others p q = same-items items others (one_reading plain_text text (map item_command items) (map item_command others) p q)
