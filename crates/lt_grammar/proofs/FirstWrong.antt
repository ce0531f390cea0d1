-- At one place stands one of a command, the text's end and a fault, and a text has one first wrong place.
use Rattle.std.proofs.Common.{◌≡◌, ℕ, ◌∙◌, ap, sym, refl, subst, inl, inr, true, false, List, [], ◌∷◌, ◌++◌, append_assoc, append-nil}
use Rattle.std.specs.Prelude.{not}
use Rattle.std.proofs.lemmas.Bool.{and_parts}
use Rattle.lt_texts.specs.declared.lexical.Lexed.TheVariants.{End, BadByte, BadChar}
use Rattle.lt_definitions.specs.Types.{Chars, same_name, has_name}
use Rattle.lt_definitions.proofs.SameNames.{true-name}
use Rattle.lt_texts.specs.Tokens.{Scanned}
use Rattle.lt_texts.specs.Texts.{Left, left_of, place_of}
use Rattle.lt_texts.specs.Lexemes.{Lexeme, a_name, lexeme}
use Rattle.lt_texts.specs.Reading.{Shows, Reads}
use Rattle.lt_texts.specs.Commands.{Command}
use Rattle.lt_texts.specs.Pieces.{AreWritten}
use Rattle.lt_texts.specs.Forms.{Form, may_stand, Sentence, header_again, a_command, header_text, sentence_text, sentences_text, IsAllowed, AreAllowed, HasCommands}
use Rattle.lt_texts.specs.WrongPlaces.{Wrong, bad_header, bad_byte, bad_char, Language, IsWhole, IsRest, IsViable, IsFront, IsStop, IsWrong, called, AreHeaders, Begins, NextCommand, AtEnd, FailsAt, HeaderFailsAt, IsCalled, IsFirstWrong}
use Rattle.lt_texts.proofs.ReadingOrder.{one_found, one_token, one_shown, token_no_end, token_no_byte, token_no_char, reads_append, GoesOn, reads_compare}
use Rattle.lt_grammar.specs.RowTexts.{PartText, header, item, lemma, command, text_lexemes, sentence_of, MayStand}
use Rattle.lt_grammar.specs.Words.{head_word}
use Rattle.lt_grammar.proofs.RowReading.{head_of_part}
use Rattle.lt_grammar.proofs.RowPieces.{join_written, split_written, written_sentence, allowed_may}
use Rattle.lt_grammar.proofs.Sentences.{one_sentence, sentence_goes_on, join_sentences, allowed_append, sentences_go_on, Later, later_sentences}

-- ---- sentences in a row, and the front of one behind them

-- one sentence as a row of them
pub one-row : (f : Form) (x : Sentence) (ws rest : List Lexeme) → AreWritten (sentence_text f x) ws rest → AreWritten (sentences_text f (x ∷ [])) ws rest
one-row f x ws rest h = join_written (sentence_text f x) [] ws rest rest h refl

pub headers-allowed : (f : Form) (xs : List Sentence) → AreHeaders xs → AreAllowed f xs
headers-allowed f [] a = tt
headers-allowed f (header_again ∷ xs) a = (tt, headers-allowed f xs a.1)
headers-allowed f (a_command c ∷ xs) a = let clash = a.0 in absurd (cc clash)

-- Lexemes of a text from some place on: whole sentences, and the front of one more.
pub record Reached (f : Form) (ws : List Lexeme) : Type 0 where
  pub done : List Sentence
  pub allowed : AreAllowed f done
  pub part : List Lexeme
  pub whole : AreWritten (sentences_text f done) ws part
  pub begun : Sentence
  pub may : IsAllowed f begun
  pub front : IsFront (sentence_text f begun) part

-- the sentences with the one that is begun, and the lexemes that are wanting
all-of : (f : Form) (ws : List Lexeme) (r : Reached f ws) → AreWritten (sentences_text f (r.done ++ r.begun ∷ [])) (ws ++ r.front.0 ∷ r.front.1) []
all-of f ws r =
    join_sentences f r.done (r.begun ∷ []) (ws ++ r.front.0 ∷ r.front.1) (r.part ++ r.front.0 ∷ r.front.1) []
    (sentences_go_on f r.done ws r.part (r.front.0 ∷ r.front.1) r.whole) (one-row f r.begun (r.part ++ r.front.0 ∷ r.front.1) [] r.front.2)

all-allowed : (f : Form) (ws : List Lexeme) (r : Reached f ws) → AreAllowed f (r.done ++ r.begun ∷ [])
all-allowed f ws r = allowed_append f r.done (r.begun ∷ []) r.allowed (r.may, tt)

none-longer : (mid : List Lexeme) (w : Lexeme) (more : List Lexeme) → [] ≡ mid ++ w ∷ more → ⊥
none-longer [] w more e = absurd (cc e)
none-longer (m ∷ mid) w more e = absurd (cc e)

-- a proper front of a sentence has no whole sentence at its front
pub no-whole : (f : Form) (x y : Sentence) (part mid : List Lexeme) → IsAllowed f x → IsAllowed f y → IsFront (sentence_text f x) part → AreWritten (sentence_text f y) part mid → ⊥
no-whole f x y part mid m n (w, more, h) k =
    none-longer mid w more (one_sentence f x y (part ++ w ∷ more) [] (mid ++ w ∷ more) m n h (sentence_goes_on f y part mid (w ∷ more) k)).1

same-parts : (f : Form) (xs ys : List Sentence) (ws a b : List Lexeme) → AreAllowed f xs → AreAllowed f ys → AreWritten (sentences_text f xs) ws a → AreWritten (sentences_text f ys) ws b
    → (x y : Sentence) → IsAllowed f x → IsAllowed f y → IsFront (sentence_text f x) a → IsFront (sentence_text f y) b → (xs ≡ ys) × (a ≡ b)
same-parts f [] [] ws a b m n h k x y i j p q = (refl, sym h ∙ k)
same-parts f [] (z ∷ ys) ws a b m n h k x y i j p q =
    let s = split_written (sentence_text f z) (sentences_text f ys) ws b k in
    absurd (no-whole f x z a s.0 i n.0 p (subst (λ (v : List Lexeme). AreWritten (sentence_text f z) v s.0) h s.1))
same-parts f (z ∷ xs) [] ws a b m n h k x y i j p q =
    let s = split_written (sentence_text f z) (sentences_text f xs) ws a h in
    absurd (no-whole f y z b s.0 j m.0 q (subst (λ (v : List Lexeme). AreWritten (sentence_text f z) v s.0) k s.1))
same-parts f (z ∷ xs) (v ∷ ys) ws a b m n h k x y i j p q =
    let s = split_written (sentence_text f z) (sentences_text f xs) ws a h in
    let t = split_written (sentence_text f v) (sentences_text f ys) ws b k in
    let one = one_sentence f z v ws s.0 t.0 m.0 n.0 s.1 t.1 in
    let r = same-parts f xs ys s.0 a b m.1 n.1 s.2 (subst (λ (u : List Lexeme). AreWritten (sentences_text f ys) u b) (sym one.1) t.2) x y i j p q in
    (λ l. one.0 l ∷ r.0 l, r.1)

-- ---- what a wrong place is called

abbrev own-stand : Form → Chars → Type 0
own-stand f w = may_stand f w ≡ true

no-own : (f : Form) → own-stand f f.word → ⊥
no-own f h =
    let both = and_parts (has_name f.word f.commands) (not (same_name f.word f.word)) h in
    let clash : false ≡ true = ap not (sym (true-name f.word f.word refl)) ∙ both.1 in
    absurd (cc clash)

first-of : (f : Form) (p : PartText) (rest : List Lexeme) → (more : List Lexeme) × (text_lexemes f p rest ≡ a_name (head_word f (head_of_part p)) ∷ more)
first-of f header rest = (_, refl)
first-of f (item w ts) rest = (_, refl)
first-of f (lemma l t lines) rest = (_, refl)
first-of f (command w ts) rest = (_, refl)

-- what begins with the header's word is a header
header-by : (f : Form) (p : PartText) → MayStand f p → f.word ≡ head_word f (head_of_part p) → sentence_of p ≡ header_again
header-by f header m e = refl
header-by f (item w ts) m e = absurd (no-own f (ap (may_stand f) e ∙ m))
header-by f (lemma l t lines) m e = absurd (no-own f (ap (may_stand f) e ∙ m))
header-by f (command w ts) m e = absurd (no-own f (ap (may_stand f) e ∙ m))

word-of : (f : Form) (x : Sentence) (u : Lexeme) (ws : List Lexeme) → IsAllowed f x → IsFront (sentence_text f x) (u ∷ ws)
    → (p : PartText) × (sentence_of p ≡ x) × MayStand f p × (u ≡ a_name (head_word f (head_of_part p)))
word-of f x u ws m (w, more, h) =
    let p = written_sentence f x (u ∷ (ws ++ w ∷ more)) [] h in
    let q = first-of f p.0 [] in
    let lists : u ∷ (ws ++ w ∷ more) ≡ a_name (head_word f (head_of_part p.0)) ∷ q.0 = p.2 ∙ q.1 in
    (p.0, p.1, allowed_may f p.0 (subst (IsAllowed f) (sym p.1) m), cc lists)

-- two sentences with one first lexeme are both headers or both commands
both-headers : (f : Form) (x : Sentence) (u : Lexeme) (ws vs : List Lexeme) → IsAllowed f x → IsFront (sentence_text f header_again) (u ∷ vs) → IsFront (sentence_text f x) (u ∷ ws) → x ≡ header_again
both-headers f x u ws vs m (w, more, h) k =
    let r = word-of f x u ws m k in
    let words : a_name f.word ≡ a_name (head_word f (head_of_part r.0)) = let e = h.1 in let first : u ≡ a_name f.word = cc e in sym first ∙ r.3 in
    let same : f.word ≡ head_word f (head_of_part r.0) = cc words in
    sym r.1 ∙ header-by f r.0 r.2 same

same-call : (f : Form) (x y : Sentence) (ws : List Lexeme) → IsAllowed f x → IsAllowed f y → IsFront (sentence_text f x) ws → IsFront (sentence_text f y) ws → called x ws ≡ called y ws
same-call f x y [] m n p q = refl
same-call f header_again header_again (u ∷ ws) m n p q = refl
same-call f (a_command c) (a_command d) (u ∷ ws) m n p q = refl
same-call f header_again (a_command d) (u ∷ ws) m n p q = let clash = both-headers f (a_command d) u ws ws n p q in absurd (cc clash)
same-call f (a_command c) header_again (u ∷ ws) m n p q = let clash = both-headers f (a_command c) u ws ws m q p in absurd (cc clash)

-- ---- a wrong place against lexemes that go on

-- what is wrong there is no token with which something goes on
pub stop-behind : (L : Language) (call : ℕ → Wrong) (ws : List Lexeme) (s b : Left) (e : Wrong) (v : Lexeme) (more : List Lexeme) → IsWrong L call ws s e → Reads s (v ∷ more) b
    → IsViable L (ws ++ v ∷ []) → ⊥
stop-behind L call ws s b e v more (inl (n, h, _)) (t, k, q, r) g = token_no_byte s t n k h
stop-behind L call ws s b e v more (inr (inl (n, h, _))) (t, k, q, r) g = token_no_char s t n k h
stop-behind L call ws s b e v more (inr (inr (n, inl (u, m, _, stops), _))) (t, k, q, r) g =
    let same : v ≡ lexeme u.kind u.spelling = q ∙ ap (λ (z : Scanned). lexeme z.kind z.spelling) (one_token s t u k m) in
    stops (subst (λ (z : Lexeme). IsViable L (ws ++ z ∷ [])) same g)
stop-behind L call ws s b e v more (inr (inr (n, inr (h, _, _), _))) (t, k, q, r) g = token_no_end s t k h

-- and it is not the end of something whole
end-behind : (L : Language) (call : ℕ → Wrong) (ws : List Lexeme) (s : Left) (e : Wrong) → IsWrong L call ws s e → Shows s End → L ws → ⊥
end-behind L call ws s e (inl (n, h, _)) g l = let clash : BadByte n ≡ End = one_shown s (BadByte n) End h g in absurd (cc clash)
end-behind L call ws s e (inr (inl (n, h, _))) g l = let clash : BadChar n ≡ End = one_shown s (BadChar n) End h g in absurd (cc clash)
end-behind L call ws s e (inr (inr (n, inl (u, m, _, _), _))) g l = token_no_end s u m g
end-behind L call ws s e (inr (inr (n, inr (h, _, stops), _))) g l = stops l

-- at one place one thing is wrong
same-byte : (s : Left) (n k : ℕ) → Shows s (BadByte n) → Shows s (BadByte k) → n ≡ k
same-byte s n k h g = let same : BadByte n ≡ BadByte k = one_shown s (BadByte n) (BadByte k) h g in cc same

same-char : (s : Left) (n k : ℕ) → Shows s (BadChar n) → Shows s (BadChar k) → n ≡ k
same-char s n k h g = let same : BadChar n ≡ BadChar k = one_shown s (BadChar n) (BadChar k) h g in cc same

same-stop : (L K : Language) (ws vs : List Lexeme) (s : Left) (n k : ℕ) → IsStop L ws s n → IsStop K vs s k → n ≡ k
same-stop L K ws vs s n k (inl (t, p, e, _)) (inl (u, q, d, _)) = e ∙ ap (place_of s) (one_found s t u p q) ∙ sym d
same-stop L K ws vs s n k (inl (t, p, e, _)) (inr (h, d, _)) = absurd (token_no_end s t p h)
same-stop L K ws vs s n k (inr (h, e, _)) (inl (u, q, d, _)) = absurd (token_no_end s u q h)
same-stop L K ws vs s n k (inr (h, e, _)) (inr (g, d, _)) = e ∙ sym d

stop-no-byte : (L : Language) (ws : List Lexeme) (s : Left) (n k : ℕ) → IsStop L ws s n → Shows s (BadByte k) → ⊥
stop-no-byte L ws s n k (inl (t, p, _, _)) h = token_no_byte s t k p h
stop-no-byte L ws s n k (inr (g, _, _)) h = let clash : BadByte k ≡ End = one_shown s (BadByte k) End h g in absurd (cc clash)

stop-no-char : (L : Language) (ws : List Lexeme) (s : Left) (n k : ℕ) → IsStop L ws s n → Shows s (BadChar k) → ⊥
stop-no-char L ws s n k (inl (t, p, _, _)) h = token_no_char s t k p h
stop-no-char L ws s n k (inr (g, _, _)) h = let clash : BadChar k ≡ End = one_shown s (BadChar k) End h g in absurd (cc clash)

no-byte-char : (s : Left) (n k : ℕ) → Shows s (BadByte n) → Shows s (BadChar k) → ⊥
no-byte-char s n k h g = let clash : BadByte n ≡ BadChar k = one_shown s (BadByte n) (BadChar k) h g in absurd (cc clash)

pub same-wrong : (L K : Language) (call ring : ℕ → Wrong) (ws vs : List Lexeme) (s : Left) (e d : Wrong) → call ≡ ring → IsWrong L call ws s e → IsWrong K ring vs s d → e ≡ d
same-wrong L K call ring ws vs s e d c (inl (n, h, p)) (inl (k, g, q)) = p ∙ ap bad_byte (same-byte s n k h g) ∙ sym q
same-wrong L K call ring ws vs s e d c (inl (n, h, p)) (inr (inl (k, g, q))) = absurd (no-byte-char s n k h g)
same-wrong L K call ring ws vs s e d c (inl (n, h, p)) (inr (inr (k, g, q))) = absurd (stop-no-byte K vs s k n g h)
same-wrong L K call ring ws vs s e d c (inr (inl (n, h, p))) (inl (k, g, q)) = absurd (no-byte-char s k n g h)
same-wrong L K call ring ws vs s e d c (inr (inl (n, h, p))) (inr (inl (k, g, q))) = p ∙ ap bad_char (same-char s n k h g) ∙ sym q
same-wrong L K call ring ws vs s e d c (inr (inl (n, h, p))) (inr (inr (k, g, q))) = absurd (stop-no-char K vs s k n g h)
same-wrong L K call ring ws vs s e d c (inr (inr (n, h, p))) (inl (k, g, q)) = absurd (stop-no-byte L ws s n k h g)
same-wrong L K call ring ws vs s e d c (inr (inr (n, h, p))) (inr (inl (k, g, q))) = absurd (stop-no-char L ws s n k h g)
same-wrong L K call ring ws vs s e d c (inr (inr (n, h, p))) (inr (inr (k, g, q))) = p ∙ (λ i. (c i) (same-stop L K ws vs s n k h g i)) ∙ sym q

-- ---- a fault as lexemes from the place on

-- A fault: what is reached, and what is wrong behind it.
pub record Fault (f : Form) (s : Left) (e : Wrong) : Type 0 where
  pub lexemes : List Lexeme
  pub reached : Reached f lexemes
  pub headers : AreHeaders reached.done
  pub at : Left
  pub reads : Reads s lexemes at
  pub wrong : IsWrong (IsRest f) (called reached.begun reached.part) reached.part at e

pub fault_of : (f : Form) (s : Left) (e : Wrong) → FailsAt f s e → Fault f s e
fault_of f s e (xs, a, m, (hs, w, r), x, i, ws, front, at, k, wrong) = record {
  lexemes = hs ++ ws;
  reached = record { done = xs; allowed = headers-allowed f xs a; part = ws; whole = sentences_go_on f xs hs [] ws w; begun = x; may = i; front = front };
  headers = a;
  at = at;
  reads = reads_append s m at hs ws r k;
  wrong = wrong;
}

-- what is written of whole sentences from the place on goes on behind what is reached
rest-behind : (f : Form) (ws more : List Lexeme) (r : Reached f ws) (ys : List Sentence) → AreAllowed f ys → AreWritten (sentences_text f ys) (ws ++ more) []
    → Later f r.done ys (r.part ++ more)
rest-behind f ws more r ys b k = later_sentences f r.done ys (ws ++ more) (r.part ++ more) r.allowed b (sentences_go_on f r.done ws r.part more r.whole) k

viable-behind : (f : Form) (ws : List Lexeme) (v : Lexeme) (more : List Lexeme) (r : Reached f ws) (ys : List Sentence) → AreAllowed f ys → AreWritten (sentences_text f ys) (ws ++ v ∷ more) []
    → IsViable (IsRest f) (r.part ++ v ∷ [])
viable-behind f ws v more r ys b k =
    let l = rest-behind f ws (v ∷ more) r ys b k in
    (more, (l.0, l.1, subst (λ (z : List Lexeme). AreWritten (sentences_text f l.0) z []) (sym (append_assoc r.part (v ∷ []) more)) l.3))

-- ---- headers, and a command behind them

-- a command is behind the last of some headers
last-command : (xs ys zs : List Sentence) (x : Sentence) (c : Command) → AreHeaders xs → AreHeaders ys → xs ++ x ∷ [] ≡ (ys ++ a_command c ∷ []) ++ zs → zs ≡ []
last-command [] [] zs x c a b e = let tail : [] ≡ zs = cc e in sym tail
last-command [] (y ∷ []) zs x c a b e = absurd (cc e)
last-command [] (y ∷ v ∷ ys) zs x c a b e = absurd (cc e)
last-command (v ∷ xs) [] zs x c a b e =
    let first : v ≡ a_command c = cc e in
    let clash : header_again ≡ a_command c = sym a.0 ∙ first in
    absurd (cc clash)
last-command (v ∷ xs) (y ∷ ys) zs x c a b e = let tail : xs ++ x ∷ [] ≡ (ys ++ a_command c ∷ []) ++ zs = cc e in last-command xs ys zs x c a.1 b.1 tail

-- ---- the answers exclude one another

-- the lexemes of a command behind headers
abbrev Said : Form → Left → Command → Left → Type 0
Said f s c s' = (ys : List Sentence) × AreHeaders ys × AreAllowed f (ys ++ a_command c ∷ []) × (bs : List Lexeme) × AreWritten (sentences_text f (ys ++ a_command c ∷ [])) bs [] × Reads s bs s'

said-of : (f : Form) (s : Left) (c : Command) (s' : Left) → NextCommand f s c s' → Said f s c s'
said-of f s c s' (ys, b, i, m, (hs, w, r), (cs, v, k)) = (
  ys,
  b,
  allowed_append f ys (a_command c ∷ []) (headers-allowed f ys b) (i, tt),
  hs ++ cs,
  join_sentences f ys (a_command c ∷ []) (hs ++ cs) cs [] (sentences_go_on f ys hs [] cs w) (one-row f (a_command c) cs [] v),
  reads_append s m s' hs cs r k,
)

-- whole sentences whose lexemes end within what is reached have nothing behind them
within : (f : Form) (ws bs : List Lexeme) (more : List Lexeme) (r : Reached f ws) (ys : List Sentence) → AreAllowed f ys → AreWritten (sentences_text f ys) bs [] → ws ≡ bs ++ more
    → (zs : List Sentence) × (r.done ++ r.begun ∷ [] ≡ ys ++ zs) × (zs ≡ [] → ⊥)
within f ws bs more r ys b k e =
    let w = r.front.0 in let left = r.front.1 in
    let whole : AreWritten (sentences_text f (r.done ++ r.begun ∷ [])) (bs ++ (more ++ w ∷ left)) [] =
    subst (λ (z : List Lexeme). AreWritten (sentences_text f (r.done ++ r.begun ∷ [])) z []) (ap (λ (z : List Lexeme). z ++ w ∷ left) e ∙ append_assoc bs more (w ∷ left)) (all-of f ws r) in
    let l = later_sentences f ys (r.done ++ r.begun ∷ []) (bs ++ (more ++ w ∷ left)) (more ++ w ∷ left) b (all-allowed f ws r)
    (sentences_go_on f ys bs [] (more ++ w ∷ left) k) whole in
    (l.0, l.2, λ q. none-longer more w left (sym (subst (λ (z : List Sentence). AreWritten (sentences_text f z) (more ++ w ∷ left) []) q l.3)))

pub fault_no_command : (f : Form) (s : Left) (e : Wrong) (c : Command) (s' : Left) → FailsAt f s e → NextCommand f s c s' → ⊥
fault_no_command f s e c s' h k =
    let g = fault_of f s e h in
    let (ys, b, i, bs, w, r) = said-of f s c s' k in
    by g ys b i bs w (reads_compare s g.at s' g.lexemes bs g.reads r)
  where
    by : (g : Fault f s e) (ys : List Sentence) → AreHeaders ys → AreAllowed f (ys ++ a_command c ∷ []) → (bs : List Lexeme) → AreWritten (sentences_text f (ys ++ a_command c ∷ [])) bs []
        → GoesOn g.at s' g.lexemes bs → ⊥
    by g ys b i bs w (inl ([], q, r)) =
        let z = within f g.lexemes bs [] g.reached (ys ++ a_command c ∷ []) i w (sym (append-nil g.lexemes) ∙ sym q ∙ sym (append-nil bs)) in
        z.2 (last-command g.reached.done ys z.0 g.reached.begun c g.headers b z.1)
    by g ys b i bs w (inl (v ∷ more, q, r)) =
        stop-behind (IsRest f) (called g.reached.begun g.reached.part) g.reached.part g.at s' e v more g.wrong r
        (viable-behind f g.lexemes v more g.reached (ys ++ a_command c ∷ []) i (subst (λ (z : List Lexeme). AreWritten (sentences_text f (ys ++ a_command c ∷ [])) z []) q w))
    by g ys b i bs w (inr (v, more, q, r)) =
        let z = within f g.lexemes bs (v ∷ more) g.reached (ys ++ a_command c ∷ []) i w q in
        z.2 (last-command g.reached.done ys z.0 g.reached.begun c g.headers b z.1)

pub fault_no_end : (f : Form) (s : Left) (e : Wrong) → FailsAt f s e → AtEnd f s → ⊥
fault_no_end f s e h (ys, b, s', (bs, w, r), n) =
    let g = fault_of f s e h in
    by g (reads_compare s g.at s' g.lexemes bs g.reads r)
  where
    by : (g : Fault f s e) → GoesOn g.at s' g.lexemes bs → ⊥
    by g (inl ([], q, r)) =
        let whole : AreWritten (sentences_text f ys) (g.lexemes ++ []) [] = subst (λ (z : List Lexeme). AreWritten (sentences_text f ys) z []) q w in
        let l = rest-behind f g.lexemes [] g.reached ys (headers-allowed f ys b) whole in
        end-behind (IsRest f) (called g.reached.begun g.reached.part) g.reached.part g.at e g.wrong (subst (λ (z : Left). Shows z End) r n)
        (l.0, l.1, subst (λ (z : List Lexeme). AreWritten (sentences_text f l.0) z []) (append-nil g.reached.part) l.3)
    by g (inl (v ∷ more, q, r)) =
        stop-behind (IsRest f) (called g.reached.begun g.reached.part) g.reached.part g.at s' e v more g.wrong r
        (viable-behind f g.lexemes v more g.reached ys (headers-allowed f ys b) (subst (λ (z : List Lexeme). AreWritten (sentences_text f ys) z []) q w))
    by g (inr (v, more, q, (t, k, _, _))) = token_no_end s' t k n

-- one row of lexemes goes on the other: the further one is viable
viable-reached : (f : Form) (ws : List Lexeme) (v : Lexeme) (more : List Lexeme) (r : Reached f ws) (vs : List Lexeme) (q : Reached f vs) → vs ≡ ws ++ v ∷ more
    → IsViable (IsRest f) (r.part ++ v ∷ [])
viable-reached f ws v more r vs q e =
    viable-behind f ws v (more ++ q.front.0 ∷ q.front.1) r (q.done ++ q.begun ∷ []) (all-allowed f vs q)
    (subst (λ (z : List Lexeme). AreWritten (sentences_text f (q.done ++ q.begun ∷ [])) z [])
    (ap (λ (z : List Lexeme). z ++ q.front.0 ∷ q.front.1) e ∙ append_assoc ws (v ∷ more) (q.front.0 ∷ q.front.1)) (all-of f vs q))

same-reached : (f : Form) (ws vs : List Lexeme) (r : Reached f ws) (q : Reached f vs) → ws ≡ vs → called r.begun r.part ≡ called q.begun q.part
same-reached f ws vs r q e =
    let parts = same-parts f r.done q.done vs r.part q.part r.allowed q.allowed (subst (λ (z : List Lexeme). AreWritten (sentences_text f r.done) z r.part) e r.whole) q.whole
    r.begun q.begun r.may q.may r.front q.front in
    ap (called r.begun) parts.1
    ∙ same-call f r.begun q.begun q.part r.may q.may (subst (IsFront (sentence_text f r.begun)) parts.1 r.front) q.front

pub one_fault : (f : Form) (s : Left) (e d : Wrong) → FailsAt f s e → FailsAt f s d → e ≡ d
one_fault f s e d h k =
    let g = fault_of f s e h in
    let i = fault_of f s d k in
    by g i (reads_compare s g.at i.at g.lexemes i.lexemes g.reads i.reads)
  where
    by : (g : Fault f s e) (i : Fault f s d) → GoesOn g.at i.at g.lexemes i.lexemes → e ≡ d
    by g i (inl ([], q, r)) =
        same-wrong (IsRest f) (IsRest f) (called g.reached.begun g.reached.part) (called i.reached.begun i.reached.part) g.reached.part i.reached.part g.at e d
        (same-reached f g.lexemes i.lexemes g.reached i.reached (sym (append-nil g.lexemes) ∙ sym q)) g.wrong
        (subst (λ (z : Left). IsWrong (IsRest f) (called i.reached.begun i.reached.part) i.reached.part z d) r i.wrong)
    by g i (inl (v ∷ more, q, r)) =
        absurd (stop-behind (IsRest f) (called g.reached.begun g.reached.part) g.reached.part g.at i.at e v more g.wrong r
        (viable-reached f g.lexemes v more g.reached i.lexemes i.reached q))
    by g i (inr (v, more, q, r)) =
        absurd (stop-behind (IsRest f) (called i.reached.begun i.reached.part) i.reached.part i.at g.at d v more i.wrong r
        (viable-reached f i.lexemes v more i.reached g.lexemes g.reached q))

-- ---- one command, and one end

-- headers and a command in one row are not headers in another
no-headers-there : (ys xs zs : List Sentence) (c : Command) → AreHeaders xs → xs ≡ (ys ++ a_command c ∷ []) ++ zs → ⊥
no-headers-there [] [] zs c a e = absurd (cc e)
no-headers-there [] (x ∷ xs) zs c a e =
    let first : x ≡ a_command c = cc e in
    let clash : header_again ≡ a_command c = sym a.0 ∙ first in
    absurd (cc clash)
no-headers-there (y ∷ ys) [] zs c a e = absurd (cc e)
no-headers-there (y ∷ ys) (x ∷ xs) zs c a e = let tail : xs ≡ (ys ++ a_command c ∷ []) ++ zs = cc e in no-headers-there ys xs zs c a.1 tail

pub command_no_end : (f : Form) (s : Left) (c : Command) (s' : Left) → NextCommand f s c s' → AtEnd f s → ⊥
command_no_end f s c s' k (xs, a, z, (bs, w, r), n) =
    let (ys, b, i, cs, v, q) = said-of f s c s' k in
    by ys b i cs v q (reads_compare s s' z cs bs q r)
  where
    by : (ys : List Sentence) → AreHeaders ys → AreAllowed f (ys ++ a_command c ∷ []) → (cs : List Lexeme) → AreWritten (sentences_text f (ys ++ a_command c ∷ [])) cs [] → Reads s cs s'
        → GoesOn s' z cs bs → ⊥
    by ys b i cs v q (inl (more, e, g)) =
        let l = later_sentences f (ys ++ a_command c ∷ []) xs (cs ++ more) more i (headers-allowed f xs a) (sentences_go_on f (ys ++ a_command c ∷ []) cs [] more v)
        (subst (λ (u : List Lexeme). AreWritten (sentences_text f xs) u []) e w) in
        no-headers-there ys xs l.0 c a l.2
    by ys b i cs v q (inr (u, more, e, (t, p, _, _))) = token_no_end z t p n

-- two rows of headers with a command behind them, of which one begins the other, are one
same-command : (ys xs zs : List Sentence) (c d : Command) → AreHeaders ys → AreHeaders xs → xs ++ a_command d ∷ [] ≡ (ys ++ a_command c ∷ []) ++ zs → c ≡ d
same-command [] [] zs c d a b e = let first : a_command d ≡ a_command c = cc e in let same : d ≡ c = cc first in sym same
same-command [] (x ∷ xs) zs c d a b e =
    let first : x ≡ a_command c = cc e in
    let clash : header_again ≡ a_command c = sym b.0 ∙ first in
    absurd (cc clash)
same-command (y ∷ ys) [] zs c d a b e =
    let first : a_command d ≡ y = cc e in
    let clash : a_command d ≡ header_again = first ∙ a.0 in
    absurd (cc clash)
same-command (y ∷ ys) (x ∷ xs) zs c d a b e = let tail : xs ++ a_command d ∷ [] ≡ (ys ++ a_command c ∷ []) ++ zs = cc e in same-command ys xs zs c d a.1 b.1 tail

-- what one command says and another's lexemes that go on it
abbrev Same : Command → Left → Command → Left → Type 0
Same c s d z = (c ≡ d) × (s ≡ z)

said-longer : (f : Form) (s s' z : Left) (c d : Command) → (p : Said f s c s') → (q : Said f s d z) → (more : List Lexeme) → q.3 ≡ p.3 ++ more → Reads s' more z → Same c s' d z
said-longer f s s' z c d (ys, b, i, bs, w, r) (xs, a, j, vs, v, q) more e g =
    let l = later_sentences f (ys ++ a_command c ∷ []) (xs ++ a_command d ∷ []) (bs ++ more) more i j (sentences_go_on f (ys ++ a_command c ∷ []) bs [] more w)
    (subst (λ (u : List Lexeme). AreWritten (sentences_text f (xs ++ a_command d ∷ [])) u []) e v) in
    let none : l.0 ≡ [] = last-command xs ys l.0 (a_command d) c a b l.2 in
    let empty : more ≡ [] = subst (λ (u : List Sentence). AreWritten (sentences_text f u) more []) none l.3 in
    (same-command ys xs l.0 c d b a l.2, sym (subst (λ (u : List Lexeme). Reads s' u z) empty g))

pub one_command : (f : Form) (s : Left) (c : Command) (s' : Left) (d : Command) (z : Left) → NextCommand f s c s' → NextCommand f s d z → Same c s' d z
one_command f s c s' d z h k =
    let p = said-of f s c s' h in
    let q = said-of f s d z k in
    by p q (reads_compare s s' z p.3 q.3 p.5 q.5)
  where
    by : (p : Said f s c s') (q : Said f s d z) → GoesOn s' z p.3 q.3 → Same c s' d z
    by p q (inl (more, e, g)) = said-longer f s s' z c d p q more e g
    by p q (inr (v, more, e, g)) = let r = said-longer f s z s' d c q p (v ∷ more) e g in (sym r.0, sym r.1)

-- ---- the whole text

-- the sentences of a whole text behind its header's begin
abbrev all-sentences : List Sentence → List Sentence
all-sentences xs = header_again ∷ xs

-- what goes on to a whole text behind whole sentences goes on to the rest of one
rest-of-whole : (f : Form) (xs : List Sentence) (done : List Lexeme) → AreAllowed f xs → AreWritten (sentences_text f (header_again ∷ xs)) done [] → (more : List Lexeme)
    → IsWhole f (done ++ more) → IsRest f more
rest-of-whole f xs done a w more (ys, b, k) =
    let l = later_sentences f (header_again ∷ xs) (header_again ∷ ys) (done ++ more) more (tt, a) (tt, b) (sentences_go_on f (header_again ∷ xs) done [] more w) k in
    (l.0, l.1, l.3)

-- the same of what is wrong
wrong-whole : (f : Form) (xs : List Sentence) (done part : List Lexeme) (call : ℕ → Wrong) (s : Left) (e : Wrong) → AreAllowed f xs
    → AreWritten (sentences_text f (header_again ∷ xs)) done [] → IsWrong (IsRest f) call part s e → IsWrong (IsWhole f) call (done ++ part) s e
wrong-whole f xs done part call s e a w (inl h) = inl h
wrong-whole f xs done part call s e a w (inr (inl h)) = inr (inl h)
wrong-whole f xs done part call s e a w (inr (inr (n, inl (t, m, q, stops), p))) =
    inr (inr (
      n,
      inl (
        t,
        m,
        q,
        λ v. stops (
          v.0,
          rest-of-whole f xs done a w ((part ++ lexeme t.kind t.spelling ∷ []) ++ v.0)
              (subst (IsWhole f) (ap (λ (z : List Lexeme). z ++ v.0) (append_assoc done part (lexeme t.kind t.spelling ∷ []))
              ∙ append_assoc done (part ++ lexeme t.kind t.spelling ∷ []) v.0) v.1),
        ),
      ),
      p,
    ))
wrong-whole f xs done part call s e a w (inr (inr (n, inr (h, q, stops), p))) = inr (inr (n, inr (h, q, λ v. stops (rest-of-whole f xs done a w part v)), p))

pub fault_is_first_wrong : (f : Form) (text : List ℕ) (cs : List Command) (s : Left) (e : Wrong) → Begins f text cs s → FailsAt f s e → IsFirstWrong f text e
fault_is_first_wrong f text cs s e (xs, a, (bs, w, r), _) (ys, b, m, (hs, v, q), x, i, ws, front, at, k, wrong) =
    let both : AreAllowed f (xs ++ ys) = allowed_append f xs ys a (headers-allowed f ys b) in
    let done : AreWritten (sentences_text f (header_again ∷ (xs ++ ys))) (bs ++ hs) [] =
    join_sentences f (header_again ∷ xs) ys (bs ++ hs) hs [] (sentences_go_on f (header_again ∷ xs) bs [] hs w) v in
    let reads : Reads (left_of text) ((bs ++ hs) ++ ws) at = reads_append (left_of text) m at (bs ++ hs) ws (reads_append (left_of text) s m bs hs r q) k in
    let whole : AreWritten (sentences_text f (header_again ∷ ((xs ++ ys) ++ x ∷ []))) (((bs ++ hs) ++ ws) ++ front.0 ∷ front.1) [] =
    subst (λ (z : List Lexeme). AreWritten (sentences_text f (header_again ∷ ((xs ++ ys) ++ x ∷ []))) z []) (sym (append_assoc (bs ++ hs) ws (front.0 ∷ front.1)))
    (join_sentences f (header_again ∷ (xs ++ ys)) (x ∷ []) ((bs ++ hs) ++ (ws ++ front.0 ∷ front.1)) (ws ++ front.0 ∷ front.1) []
    (sentences_go_on f (header_again ∷ (xs ++ ys)) (bs ++ hs) [] (ws ++ front.0 ∷ front.1) done) (one-row f x (ws ++ front.0 ∷ front.1) [] front.2)) in (
      (bs ++ hs) ++ ws,
      at,
      reads,
      (front.0 ∷ front.1, ((xs ++ ys) ++ x ∷ [], allowed_append f (xs ++ ys) (x ∷ []) both (i, tt), whole)),
      called x ws,
      inr (xs ++ ys, both, x, i, bs ++ hs, ws, done, front, refl, refl),
      wrong-whole f (xs ++ ys) (bs ++ hs) ws (called x ws) at e both done wrong,
    )

pub header_is_first_wrong : (f : Form) (text : List ℕ) (e : Wrong) → HeaderFailsAt f (left_of text) e → IsFirstWrong f text e
header_is_first_wrong f text e (ws, front, at, r, wrong) =
    (ws, at, r, (front.0 ∷ front.1, ([], tt, one-row f header_again (ws ++ front.0 ∷ front.1) [] front.2)), bad_header, inl (front, refl), wrong)

-- a text that goes wrong somewhere is no text
pub wrong_no_text : (f : Form) (text : List ℕ) (e : Wrong) (cs : List Command) → IsFirstWrong f text e → HasCommands f text cs → ⊥
wrong_no_text f text e cs (ws, at, r, _, call, _, wrong) (vs, (z, q, n), (xs, a, w, _)) =
    by (reads_compare (left_of text) at z ws vs r q)
  where
    by : GoesOn at z ws vs → ⊥
    by (inl ([], d, g)) =
        end-behind (IsWhole f) call ws at e wrong (subst (λ (u : Left). Shows u End) g n)
        (xs, a, subst (λ (u : List Lexeme). AreWritten (sentences_text f (header_again ∷ xs)) u []) (d ∙ append-nil ws) w)
    by (inl (v ∷ more, d, g)) =
        stop-behind (IsWhole f) call ws at z e v more wrong g
        (more, (xs, a, subst (λ (u : List Lexeme). AreWritten (sentences_text f (header_again ∷ xs)) u []) (d ∙ sym (append_assoc ws (v ∷ []) more)) w))
    by (inr (v, more, d, (t, k, _, _))) = token_no_end z t k n

-- what is begun, as it is reached from the text's begin
call-reached : (f : Form) (ws : List Lexeme) (xs : List Sentence) (x : Sentence) (done part : List Lexeme) → AreAllowed f xs → IsAllowed f x
    → AreWritten (sentences_text f (header_again ∷ xs)) done [] → IsFront (sentence_text f x) part → ws ≡ done ++ part → Reached f ws
call-reached f ws xs x done part a i w p e = record {
  done = header_again ∷ xs;
  allowed = (tt, a);
  part = part;
  whole = subst (λ (z : List Lexeme). AreWritten (sentences_text f (header_again ∷ xs)) z part) (sym e) (sentences_go_on f (header_again ∷ xs) done [] part w);
  begun = x;
  may = i;
  front = p;
}

-- a front of the header has no whole header at its begin
front-no-header : (f : Form) (ws : List Lexeme) (xs : List Sentence) (done part : List Lexeme) → IsFront (header_text f) ws → AreWritten (sentences_text f (header_again ∷ xs)) done []
    → ws ≡ done ++ part → ⊥
front-no-header f ws xs done part p w e =
    let s = split_written (sentence_text f header_again) (sentences_text f xs) done [] w in
    no-whole f header_again header_again ws (s.0 ++ part) tt tt p
    (subst (λ (z : List Lexeme). AreWritten (sentence_text f header_again) z (s.0 ++ part)) (sym e) (sentence_goes_on f header_again done s.0 part s.1))

one-call : (f : Form) (ws : List Lexeme) (call ring : ℕ → Wrong) → IsCalled f ws call → IsCalled f ws ring → call ≡ ring
unfolding call-reached
one-call f ws call ring (inl (p, e)) (inl (q, d)) = e ∙ sym d
one-call f ws call ring (inl (p, e)) (inr (xs, a, x, i, done, part, w, q, d, c)) = absurd (front-no-header f ws xs done part p w d)
one-call f ws call ring (inr (xs, a, x, i, done, part, w, q, d, c)) (inl (p, e)) = absurd (front-no-header f ws xs done part p w d)
one-call f ws call ring (inr (xs, a, x, i, done, part, w, p, d, c)) (inr (ys, b, y, j, gone, side, v, q, e, r)) =
    c ∙ same-reached f ws ws (call-reached f ws xs x done part a i w p d) (call-reached f ws ys y gone side b j v q e) refl ∙ sym r

pub one_first_wrong : (f : Form) (text : List ℕ) (e d : Wrong) → IsFirstWrong f text e → IsFirstWrong f text d → e ≡ d
one_first_wrong f text e d (ws, at, r, viable, call, is, wrong) (vs, to, q, other, ring, so, refused) =
    by (reads_compare (left_of text) at to ws vs r q)
  where
    by : GoesOn at to ws vs → e ≡ d
    by (inl ([], p, g)) =
        let same : ws ≡ vs = sym (p ∙ append-nil ws) in
        same-wrong (IsWhole f) (IsWhole f) call ring ws vs at e d (one-call f vs call ring (subst (λ (z : List Lexeme). IsCalled f z call) same is) so) wrong
        (subst (λ (z : Left). IsWrong (IsWhole f) ring vs z d) g refused)
    by (inl (v ∷ more, p, g)) =
        absurd (stop-behind (IsWhole f) call ws at to e v more wrong g
        (more ++ other.0, subst (IsWhole f) (ap (λ (z : List Lexeme). z ++ other.0) (p ∙ sym (append_assoc ws (v ∷ []) more)) ∙ append_assoc (ws ++ v ∷ []) more other.0) other.1))
    by (inr (v, more, p, g)) =
        absurd (stop-behind (IsWhole f) ring vs to at d v more refused g
        (more ++ viable.0, subst (IsWhole f) (ap (λ (z : List Lexeme). z ++ viable.0) (p ∙ sym (append_assoc vs (v ∷ []) more)) ∙ append_assoc (vs ++ v ∷ []) more viable.0) viable.1))
