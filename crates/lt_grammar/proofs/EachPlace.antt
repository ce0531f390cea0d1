-- At each place where a command may begin stands a command, the end or a fault; at a text's begin its header or a fault; and each
-- text has a reading or a first wrong place.
use Rattle.std.proofs.Common.{◌≡◌, ℕ, zero, suc, ◌<◌, ◌≤◌, ◌∙◌, ap, sym, refl, subst, inl, inr, List, [], ◌∷◌, ◌++◌, length, arith, append-nil, Option, Some, None}
use Rattle.std.specs.Prelude.{◌⊎◌}
use Rattle.lt_definitions.specs.Types.{Chars}
use Rattle.lt_texts.specs.declared.lexical.Lexed.{Lexed}
use Rattle.lt_texts.specs.declared.lexical.Lexed.TheVariants.{Token, End, BadByte, BadChar}
use Rattle.lt_texts.specs.declared.lexical.TokenKind.TheVariants.{OpenBrace, CloseBrace, Semicolon}
use Rattle.lt_texts.specs.Tokens.{Scanned}
use Rattle.lt_texts.specs.Texts.{Left, left_of, lexed, after, place_of, IsToken}
use Rattle.lt_texts.specs.Lexemes.{Lexeme, a_name, a_sign, lexeme}
use Rattle.lt_texts.specs.Reading.{IsNextToken, Shows, Reads}
use Rattle.lt_texts.specs.Commands.{Command}
use Rattle.lt_texts.specs.Pieces.{AreWritten}
use Rattle.lt_texts.specs.Forms.{Form, Sentence, header_again, a_command, header_text, sentence_text, sentences_text, IsAllowed, commands_of, HasCommands}
use Rattle.lt_texts.specs.WrongPlaces.{Wrong, bad_header, bad_command, bad_byte, bad_char, IsWhole, IsRest, IsFront, IsWrong, called, AreHeaders, Stands, Begins, NextCommand, AtEnd, FailsAt, HeaderFailsAt, IsFirstWrong}
use Rattle.lt_texts.proofs.ReadingOrder.{reads_append, GoesOn, reads_compare}
use Rattle.lt_texts.proofs.Readings.{next_found, lexed_shown}
use Rattle.lt_texts.proofs.TokenTexts.{token_shortens}
use Rattle.lt_grammar.specs.declared.words.Head.{Head}
use Rattle.lt_grammar.specs.declared.words.Head.TheVariants.{Header, Lemma, Item, Command as Further}
use Rattle.lt_grammar.specs.declared.words.Part.{Part}
use Rattle.lt_grammar.specs.Rows.{Texts, number, parts_lexemes}
use Rattle.lt_grammar.specs.Table.{item_row, lemma_parts, command_row}
use Rattle.lt_grammar.specs.RowTexts.{PartText, header, item, lemma, command, lines_lexemes, text_lexemes, sentence_of, MayStand}
use Rattle.lt_grammar.specs.Words.{head_of, head_word}
use Rattle.lt_grammar.proofs.Distinct.{IsHead, head_found, found_head}
use Rattle.lt_grammar.proofs.RowReading.{head_of_part, is-head}
use Rattle.lt_grammar.proofs.RowPieces.{split_written, sentence_written, written_sentence, may_allowed, allowed_may}
use Rattle.lt_grammar.proofs.Sentences.{join_sentences, sentences_go_on, sentence_not_empty, one_sentences}
use Rattle.lt_grammar.proofs.FirstWrong.{one-row, fault_is_first_wrong, header_is_first_wrong}
use Rattle.lt_grammar.proofs.TextLaws.{header_begins, command_goes_on, end_has_commands}
use Rattle.lt_grammar.proofs.Expected.{Expected, exactly, lines, Spelt, join_spelt, split_spelt}
use Rattle.lt_grammar.proofs.RowsExpected.{expected_parts, parts_spelt, spelt_parts}
use Rattle.lt_grammar.proofs.Standing.{IsBad, Standing, standing, wrong_there}

-- ---- places get nearer to the end

pub next_shorter : (s : Left) (t : Scanned) → IsNextToken s t → length t.rest < length s.ahead
next_shorter s t n =
    let f = next_found s t n in
    let shorter : length (after s).ahead < length s.ahead = token_shortens s (subst IsToken (sym f.token) tt) in
    subst (λ (x : Left). length x.ahead < length s.ahead) f.after shorter

pub no_longer : (s s' : Left) (ws : List Lexeme) → Reads s ws s' → length s'.ahead ≤ length s.ahead
no_longer s s' [] e = subst (λ (x : Left). length x.ahead ≤ length s.ahead) (sym e) (omega arith)
no_longer s s' (w ∷ ws) (t, n, q, r) =
    let rest = no_longer (record s { ahead = t.rest }) s' ws r in
    let first = next_shorter s t n in
    omega (arith, rest, first)

pub shorter : (s s' : Left) (w : Lexeme) (ws : List Lexeme) → Reads s (w ∷ ws) s' → length s'.ahead < length s.ahead
shorter s s' w ws (t, n, q, r) =
    let rest = no_longer (record s { ahead = t.rest }) s' ws r in
    let first = next_shorter s t n in
    omega (arith, rest, first)

-- ---- what is expected behind the word of a sentence

abbrev ends : List Expected
ends = exactly (a_sign Semicolon) ∷ []

abbrev lemma_ends : List Expected
lemma_ends = exactly (a_sign OpenBrace) ∷ lines ∷ exactly (a_sign Semicolon) ∷ []

abbrev pub expected_behind : Form → Head → List Expected
expected_behind f Header = exactly (number f.number) ∷ exactly (a_sign Semicolon) ∷ []
expected_behind f Lemma = expected_parts lemma_parts ++ lemma_ends
expected_behind f (Item w) = expected_parts (item_row w).parts ++ ends
expected_behind f (Further w) = expected_parts (command_row w).parts ++ ends

row-behind : (ps : List Part) (ts : Texts ps) (rest : List Lexeme) → Spelt (expected_parts ps ++ ends) (parts_lexemes ps ts (a_sign Semicolon ∷ rest)) rest
row-behind ps ts rest =
    join_spelt (expected_parts ps) ends (parts_lexemes ps ts (a_sign Semicolon ∷ rest)) (a_sign Semicolon ∷ rest) rest (parts_spelt ps ts (a_sign Semicolon ∷ rest) tt) (rest, refl, refl)

-- what is written of a sentence behind its word is what is expected there
part-behind : (f : Form) (p : PartText) (rest : List Lexeme)
    → (us : List Lexeme) × (text_lexemes f p rest ≡ a_name (head_word f (head_of_part p)) ∷ us) × Spelt (expected_behind f (head_of_part p)) us rest
part-behind f header rest = (number f.number ∷ a_sign Semicolon ∷ rest, refl, (a_sign Semicolon ∷ rest, refl, (rest, refl, refl)))
part-behind f (item w ts) rest = (parts_lexemes (item_row w).parts ts (a_sign Semicolon ∷ rest), refl, row-behind (item_row w).parts ts rest)
part-behind f (lemma l p ls) rest =
    let tail : List Lexeme = a_sign OpenBrace ∷ lines_lexemes ls (a_sign CloseBrace ∷ a_sign Semicolon ∷ rest) in (
      parts_lexemes lemma_parts (l, (tt, (p, tt))) tail,
      refl,
      join_spelt (expected_parts lemma_parts) lemma_ends (parts_lexemes lemma_parts (l, (tt, (p, tt))) tail) tail rest (parts_spelt lemma_parts (l, (tt, (p, tt))) tail tt)
          (lines_lexemes ls (a_sign CloseBrace ∷ a_sign Semicolon ∷ rest), refl, (a_sign Semicolon ∷ rest, (ls, refl), (rest, refl, refl))),
    )
part-behind f (command w ts) rest = (parts_lexemes (command_row w).parts ts (a_sign Semicolon ∷ rest), refl, row-behind (command_row w).parts ts rest)

-- and what is expected there is written of a sentence
abbrev Sentenced : Form → Head → List Lexeme → List Lexeme → Type 0
Sentenced f k us rest = (p : PartText) × (head_of_part p ≡ k) × (a_name (head_word f k) ∷ us ≡ text_lexemes f p rest)

behind-row : (ps : List Part) (us rest : List Lexeme) → Spelt (expected_parts ps ++ ends) us rest → (ts : Texts ps) × (us ≡ parts_lexemes ps ts (a_sign Semicolon ∷ rest))
behind-row ps us rest h =
    let s = split_spelt (expected_parts ps) ends us rest h in
    let t = spelt_parts ps us s.0 s.1 in
    let end = s.2 in
    (t.0, t.1 ∙ ap (parts_lexemes ps t.0) (end.1 ∙ ap (λ (z : List Lexeme). a_sign Semicolon ∷ z) end.2))

behind-part : (f : Form) (k : Head) (us rest : List Lexeme) → Spelt (expected_behind f k) us rest → Sentenced f k us rest
behind-part f Header us rest (x, p, (y, q, e)) =
    (header, refl, ap (λ (z : List Lexeme). a_name f.word ∷ z) (p ∙ ap (λ (z : List Lexeme). number f.number ∷ z) (q ∙ ap (λ (z : List Lexeme). a_sign Semicolon ∷ z) e)))
behind-part f Lemma us rest h =
    let s = split_spelt (expected_parts lemma_parts) lemma_ends us rest h in
    let t = spelt_parts lemma_parts us s.0 s.1 in
    let a = s.2 in let b = a.2 in let ls = b.1 in let c = b.2 in
    let ts = t.0 in (
      lemma ts.0 ts.1.1.0 ls.0,
      refl,
      ap (λ (z : List Lexeme). a_name (head_word f Lemma) ∷ z) (t.1 ∙ ap (parts_lexemes lemma_parts ts) (a.1 ∙ ap (λ (z : List Lexeme). a_sign OpenBrace ∷ z)
          (ls.1 ∙ ap (λ (z : List Lexeme). lines_lexemes ls.0 (a_sign CloseBrace ∷ z)) (c.1 ∙ ap (λ (z : List Lexeme). a_sign Semicolon ∷ z) c.2)))),
    )
behind-part f (Item w) us rest h = let t = behind-row (item_row w).parts us rest h in (item w t.0, refl, ap (λ (z : List Lexeme). a_name (item_row w).word ∷ z) t.1)
behind-part f (Further w) us rest h = let t = behind-row (command_row w).parts us rest h in (command w t.0, refl, ap (λ (z : List Lexeme). a_name (command_row w).word ∷ z) t.1)

head-stands : (f : Form) (p : PartText) → IsHead f (head_of_part p) → MayStand f p
head-stands f header m = tt
head-stands f (item w ts) m = m
head-stands f (lemma l p ls) m = m
head-stands f (command w ts) m = m

-- the rest of a text begins with a sentence's word, behind which stands what is expected
rest-begins : (f : Form) (w : Lexeme) (us : List Lexeme) → IsRest f (w ∷ us)
    → (k : Head) × IsHead f k × (w ≡ a_name (head_word f k)) × (mid : List Lexeme) × Spelt (expected_behind f k) us mid
rest-begins f w us ([], a, h) = absurd (cc h)
rest-begins f w us (x ∷ xs, a, h) =
    let s = split_written (sentence_text f x) (sentences_text f xs) (w ∷ us) [] h in
    let p = written_sentence f x (w ∷ us) s.0 s.1 in
    let q = part-behind f p.0 s.0 in
    let m : MayStand f p.0 = allowed_may f p.0 (subst (IsAllowed f) (sym p.1) a.0) in
    let lists : w ∷ us ≡ a_name (head_word f (head_of_part p.0)) ∷ q.0 = p.2 ∙ q.1 in
    let tail : us ≡ q.0 = cc lists in
    (head_of_part p.0, is-head f p.0 m, cc lists, s.0, subst (λ (z : List Lexeme). Spelt (expected_behind f (head_of_part p.0)) z s.0) (sym tail) q.2)

pub rest-word : (f : Form) (c : Chars) (us : List Lexeme) → IsRest f (a_name c ∷ us) → (k : Head) × (head_of f c ≡ Some k) × (mid : List Lexeme) × Spelt (expected_behind f k) us mid
rest-word f c us h =
    let r = rest-begins f (a_name c) us h in
    let names = r.2 in
    let same : c ≡ head_word f r.0 = cc names in
    (r.0, ap (head_of f) same ∙ head_found f r.0 r.1, r.3, r.4)

pub rest-within : (f : Form) (c : Chars) (k : Head) (us : List Lexeme) → head_of f c ≡ Some k → IsRest f (a_name c ∷ us) → (rest : List Lexeme) × Spelt (expected_behind f k) us rest
rest-within f c k us e h =
    let r = rest-word f c us h in
    let both : Some r.0 ≡ Some k = sym r.1 ∙ e in
    let same : r.0 ≡ k = cc both in
    (r.2, subst (λ (j : Head). Spelt (expected_behind f j) us r.2) same r.3)

-- ---- from one place where a command may begin

-- headers, if there are any
abbrev Past : Form → Left → Left → Type 0
Past f s s' = (xs : List Sentence) × AreHeaders xs × Stands s (sentences_text f xs) s'

headers-snoc : (xs : List Sentence) → AreHeaders xs → AreHeaders (xs ++ header_again ∷ [])
headers-snoc [] a = (refl, tt)
headers-snoc (x ∷ xs) a = (a.0, headers-snoc xs a.1)

past-on : (f : Form) (s m s' : Left) → Past f s m → (ws : List Lexeme) → AreWritten (header_text f) ws [] → Reads m ws s' → Past f s s'
past-on f s m s' (xs, a, (hs, w, r)) ws v q = (
  xs ++ header_again ∷ [],
  headers-snoc xs a,
  (
    hs ++ ws,
    join_sentences f xs (header_again ∷ []) (hs ++ ws) ws [] (sentences_go_on f xs hs [] ws w) (one-row f header_again ws [] v),
    reads_append s m s' hs ws r q,
  ),
)

abbrev pub Each : Form → Left → Type 0
Each f s = ((c : Command) × (s' : Left) × NextCommand f s c s') ⊎ AtEnd f s ⊎ ((e : Wrong) × FailsAt f s e)

-- nothing is begun there, and something is wrong
none-begun : (f : Form) (s m : Left) (e : Wrong) → Past f s m → IsWrong (IsRest f) bad_command [] m e → Each f s
none-begun f s m e (xs, a, h) wrong =
    inr (inr (e, (xs, a, m, h, header_again, tt, [], (a_name f.word, _, (_, refl, (_, refl, (_, refl, refl)))), m, refl, wrong)))

-- what goes on from a header behind headers
abbrev Later : Form → Left → Left → Type 0
Later f s m = (s' : Left) → length s'.ahead < length m.ahead → Past f s s' → Each f s

-- a sentence stands there: a header, or a command
sentence-there : (f : Form) (s m s' : Left) (p : PartText) (w : Lexeme) (ws : List Lexeme) → Past f s m → MayStand f p → w ∷ ws ≡ text_lexemes f p [] → Reads m (w ∷ ws) s'
    → Later f s m → Each f s
sentence-there f s m s' p w ws past may e r later =
    by (sentence_of p) (may_allowed f p may) (subst (λ (z : List Lexeme). AreWritten (sentence_text f (sentence_of p)) z []) (sym e) (sentence_written f p []))
  where
    by : (x : Sentence) → IsAllowed f x → AreWritten (sentence_text f x) (w ∷ ws) [] → Each f s
    by header_again i v = later s' (shorter m s' w ws r) (past-on f s m s' past (w ∷ ws) v r)
    by (a_command c) i v = inl (c, s', (past.0, past.1, i, m, past.2, (w ∷ ws, v, r)))

-- a sentence is begun there, and something is wrong behind its first lexemes
part-there : (f : Form) (s m at : Left) (c : Chars) (k : Head) (ws : List Lexeme) → Past f s m → head_of f c ≡ Some k → Reads m (a_name c ∷ ws) at
    → ((w : Lexeme) × (more : List Lexeme) × Spelt (expected_behind f k) (ws ++ w ∷ more) []) → ((rest : List Lexeme) → Spelt (expected_behind f k) ws rest → ⊥)
    → IsBad (expected_behind f k) ws at → Each f s
part-there f s m at c k ws (xs, a, h) e r (w, more, l) o b =
    let named = found_head f c k e in
    let p = behind-part f k (ws ++ w ∷ more) [] l in
    let may : MayStand f p.0 = head-stands f p.0 (subst (IsHead f) (sym p.1) named.1) in
    let text : a_name c ∷ (ws ++ w ∷ more) ≡ text_lexemes f p.0 [] = ap (λ (z : Chars). a_name z ∷ (ws ++ w ∷ more)) named.0 ∙ p.2 in
    let x : Sentence = sentence_of p.0 in
    let front : IsFront (sentence_text f x) (a_name c ∷ ws) = (w, more, subst (λ (z : List Lexeme). AreWritten (sentence_text f x) z []) (sym text) (sentence_written f p.0 [])) in
    let wrong = wrong_there (IsRest f) (called x (a_name c ∷ ws)) (a_name c ∷ ws) (expected_behind f k) ws at (λ us g. rest-within f c k (ws ++ us) e g) o b in
    inr (inr (wrong.0, (xs, a, m, h, x, may_allowed f p.0 may, a_name c ∷ ws, front, at, r, wrong.1)))

word-there : (f : Form) (s m : Left) (t : Scanned) (c : Chars) (k : Head) → Past f s m → IsNextToken m t → a_name c ≡ lexeme t.kind t.spelling → head_of f c ≡ Some k
    → Standing (expected_behind f k) (record m { ahead = t.rest }) → Later f s m → Each f s
word-there f s m t c k past n q e (inl (ws, s', r, l, _)) later =
    let named = found_head f c k e in
    let p = behind-part f k ws [] l in
    let text : a_name c ∷ ws ≡ text_lexemes f p.0 [] = ap (λ (z : Chars). a_name z ∷ ws) named.0 ∙ p.2 in
    sentence-there f s m s' p.0 (a_name c) ws past (head-stands f p.0 (subst (IsHead f) (sym p.1) named.1)) text (t, n, q, r) later
word-there f s m t c k past n q e (inr (ws, at, r, l, o, b)) later = part-there f s m at c k ws past e (t, n, q, r) l o b

-- no sentence begins with the token
other-there : (f : Form) (s m : Left) (t : Scanned) → Past f s m → IsNextToken m t → ((c : Chars) (k : Head) → lexeme t.kind t.spelling ≡ a_name c → head_of f c ≡ Some k → ⊥) → Each f s
other-there f s m t past n none =
    none-begun f s m (bad_command (place_of m n.found)) past (inr (inr (
      place_of m n.found,
      inl (
        t,
        n,
        refl,
        λ v.
            let r = rest-begins f (lexeme t.kind t.spelling) v.0 v.1 in
            none (head_word f r.0) r.0 r.2 (head_found f r.0 r.1),
      ),
      refl,
    )))

word-by : (f : Form) (s m : Left) (t : Scanned) (c : Chars) (o : Option Head) → Past f s m → IsNextToken m t → lexeme t.kind t.spelling ≡ a_name c → head_of f c ≡ o → Later f s m → Each f s
word-by f s m t c None past n q e later = other-there f s m t past n (λ d k p h.
    let names : a_name c ≡ a_name d = sym q ∙ p in
    let same : c ≡ d = cc names in
    let clash : None ≡ Some k = sym e ∙ ap (head_of f) same ∙ h in
    absurd (cc clash))
word-by f s m t c (Some k) past n q e later = word-there f s m t c k past n (sym q) e (standing (expected_behind f k) (record m { ahead = t.rest })) later

lexeme-by : (f : Form) (s m : Left) (t : Scanned) (w : Lexeme) → Past f s m → IsNextToken m t → lexeme t.kind t.spelling ≡ w → Later f s m → Each f s
lexeme-by f s m t (a_name c) past n q later = word-by f s m t c (head_of f c) past n q refl later
lexeme-by f s m t w past n q later = other-there f s m t past n (λ d k p h. let clash : w ≡ a_name d = sym q ∙ p in absurd (cc clash))

shown-by : (f : Form) (s m : Left) (l : Lexed) → Shows m l → Past f s m → Later f s m → Each f s
shown-by f s m (Token p) (t, n, _) past later = lexeme-by f s m t (lexeme t.kind t.spelling) past n refl later
shown-by f s m End h past later = inr (inl (past.0, past.1, m, past.2, h))
shown-by f s m (BadByte k) h past later = none-begun f s m (bad_byte k) past (inl (k, h, refl))
shown-by f s m (BadChar k) h past later = none-begun f s m (bad_char k) past (inr (inl (k, h, refl)))

each-by : (n : ℕ) (f : Form) (s m : Left) → length m.ahead < n → Past f s m → Each f s
each-by zero f s m h past = absurd (omega (arith, h))
each-by (suc n) f s m h past = shown-by f s m (lexed m) (lexed_shown m) past (λ s' k later. each-by n f s s' (omega (arith, h, k)) later)

pub each_place : (f : Form) (s : Left) → Each f s
each_place f s = each-by (suc (length s.ahead)) f s s (omega arith) ([], tt, ([], refl, refl))

-- ---- a header

abbrev pub HeaderOr : Form → Left → Type 0
HeaderOr f s = ((s' : Left) × Stands s (header_text f) s') ⊎ ((e : Wrong) × HeaderFailsAt f s e)

abbrev whole-header : Form → List Expected
whole-header f = exactly (a_name f.word) ∷ exactly (number f.number) ∷ exactly (a_sign Semicolon) ∷ []

pub whole-within : (f : Form) (us : List Lexeme) → IsWhole f us → (rest : List Lexeme) × Spelt (whole-header f) us rest
whole-within f us (xs, a, h) = let s = split_written (header_text f) (sentences_text f xs) us [] h in (s.0, s.1)

pub header_or_fault : (f : Form) (s : Left) → HeaderOr f s
header_or_fault f s = by (standing (whole-header f) s)
  where
    by : Standing (whole-header f) s → HeaderOr f s
    by (inl (ws, s', r, l, _)) = inl (s', (ws, l, r))
    by (inr (ws, at, r, l, o, b)) =
        let wrong = wrong_there (IsWhole f) bad_header ws (whole-header f) ws at (λ us g. whole-within f (ws ++ us) g) o b in
        inr (wrong.0, (ws, l, at, r, wrong.1))

-- ---- a whole text

abbrev pub EachText : Form → List ℕ → Type 0
EachText f text = ((cs : List Command) × HasCommands f text cs) ⊎ ((e : Wrong) × IsFirstWrong f text e)

command-shorter : (f : Form) (s : Left) (c : Command) (s' : Left) → NextCommand f s c s' → length s'.ahead < length s.ahead
command-shorter f s c s' (xs, a, i, m, (hs, w, r), ([], v, q)) = absurd (sentence_not_empty f (a_command c) [] v)
command-shorter f s c s' (xs, a, i, m, (hs, w, r), (u ∷ us, v, q)) =
    let first = no_longer s m hs r in
    let rest = shorter m s' u us q in
    omega (arith, first, rest)

text-next : (f : Form) (text : List ℕ) (cs : List Command) (s : Left) → Begins f text cs s → Each f s
    → ((ds : List Command) (s' : Left) → length s'.ahead < length s.ahead → Begins f text ds s' → EachText f text) → EachText f text
text-next f text cs s b (inl (c, s', k)) later = later (cs ++ c ∷ []) s' (command-shorter f s c s' k) (command_goes_on f text cs s s' c b k)
text-next f text cs s b (inr (inl k)) later = inl (cs, end_has_commands f text cs s b k)
text-next f text cs s b (inr (inr (e, k))) later = inr (e, fault_is_first_wrong f text cs s e b k)

text-by : (n : ℕ) (f : Form) (text : List ℕ) (cs : List Command) (s : Left) → length s.ahead < n → Begins f text cs s → EachText f text
text-by zero f text cs s h b = absurd (omega (arith, h))
text-by (suc n) f text cs s h b = text-next f text cs s b (each_place f s) (λ ds s' k c. text-by n f text ds s' (omega (arith, h, k)) c)

pub each_text : (f : Form) (text : List ℕ) → EachText f text
each_text f text = by (header_or_fault f (left_of text))
  where
    by : HeaderOr f (left_of text) → EachText f text
    by (inl (s, h)) = text-by (suc (length s.ahead)) f text [] s (omega arith) (header_begins f text s h)
    by (inr (e, h)) = inr (e, header_is_first_wrong f text e h)

-- ---- what a text begins with

-- the lexemes between two places are one row
same-lexemes : (s a : Left) (ws vs : List Lexeme) → Reads s ws a → Reads s vs a → ws ≡ vs
same-lexemes s a ws vs r q = by (reads_compare s a a ws vs r q)
  where
    by : GoesOn a a ws vs → ws ≡ vs
    by (inl ([], e, g)) = sym (e ∙ append-nil ws)
    by (inl (v ∷ more, e, g)) = let less = shorter a a v more g in absurd (omega (arith, less))
    by (inr (v, more, e, g)) = let less = shorter a a v more g in absurd (omega (arith, less))

pub one_beginning : (f : Form) (text : List ℕ) (cs ds : List Command) (s : Left) → Begins f text cs s → Begins f text ds s → cs ≡ ds
one_beginning f text cs ds s (xs, a, (ws, w, r), e) (ys, b, (vs, v, q), d) =
    let same : vs ≡ ws = same-lexemes (left_of text) s vs ws q r in
    let one = one_sentences f (header_again ∷ xs) (header_again ∷ ys) ws (tt, a) (tt, b) w
    (subst (λ (z : List Lexeme). AreWritten (sentences_text f (header_again ∷ ys)) z []) same v) in
    e ∙ ap commands_of (sym one) ∙ sym d
