-- What the script's calls say, from what stands next and what was read behind it.
use Rattle.std.proofs.Common.{◌≡◌, ℕ, ◌<◌, ◌≤◌, ◌∙◌, ap, sym, refl, subst, Bool, true, false, List, [], ◌∷◌, length, Option, Some, None, Result, Ok, Err, arith}
use Rattle.std.specs.Prelude.{IfOk, IfErr, bytes_eq}
use Rattle.std.proofs.lemmas.Slice.Eq.{bytes_eq-Decides}
use Rattle.lt_texts.specs.declared.lexical.Token.{Token as Placed}
use Rattle.lt_texts.specs.declared.lexical.Lexed.{Lexed}
use Rattle.lt_texts.specs.declared.lexical.Lexed.TheVariants.{Token as One, End, BadByte as NoText, BadChar as NoToken}
use Rattle.lt_texts.specs.Texts.{Left, lexed, after, spelling, IsToken}
use Rattle.lt_definitions.specs.Types.{Chars}
use Rattle.lt_texts.specs.Lexemes.{Lexeme, a_name, lexeme, IsNextLexeme, Spans}
use Rattle.lt_texts.proofs.OneReading.{one_next}
use Rattle.lt_texts.proofs.TokenTexts.{token_shortens}
use Rattle.lt_texts.specs.Forms.{Form}
use Rattle.lt_grammar.specs.declared.words.Head.{Head}
use Rattle.lt_grammar.specs.declared.words.Head.TheVariants.{Header}
use Rattle.lt_grammar.specs.RowTexts.{PartText, header, item, lemma, command, text_lexemes, MayStand}
use Rattle.lt_grammar.specs.Words.{head_of, head_word}
use Rattle.lt_grammar.proofs.Distinct.{IsHead, head_found, found_head}
use Rattle.lt_commands.specs.declared.note.Note.{Note}
use Rattle.lt_script.specs.declared.symbol.Symbol.{Symbol}
use Rattle.lt_script.specs.declared.read_error.ReadError.{ReadError}
use Rattle.lt_script.specs.declared.read_error.ReadError.TheVariants.{BadHeader, BadCommand, Syntax, BadByte, BadChar, Memory}
use Rattle.lt_script.specs.declared.reading.Next.TheVariants.{End as Ends, Begins, Other, BadByte as NoByte, BadChar as NoChar}
use Rattle.lt_script.specs.Machine.{expected, step_header, header_move}
use Rattle.lt_commands.specs.Notes.{head_of_text}
use Rattle.lt_script.specs.Reading.{FailsAt, HeaderFailsAt, Fails, HeaderFails, AtEnd}
use Rattle.lt_script.specs.Openings.{is_opening}
use Rattle.lt_script.specs.Stops.{Reads, StopsAt, IsStopped, SaysNext, call_of, is_header}
use Rattle.lt_script.proofs.Comes.{spans_source, spans_no_longer, after_source}
use Rattle.lt_script.proofs.Parts.{Past, past_on, past_end, none_fails, part_fails, reads_header, header_fails, no_header_fails, BeginsNone, NoHeader}

pub if_ok : {A E : Type 0} (r : Result A E) (P Q : A → Type 0) → ((a : A) → P a → Q a) → IfOk r P → IfOk r Q
if_ok (Ok a) P Q f h = f a h
if_ok (Err e) P Q f h = tt

pub if_err : {A E : Type 0} (r : Result A E) (P Q : E → Type 0) → ((e : E) → P e → Q e) → IfErr r P → IfErr r Q
if_err (Ok a) P Q f h = tt
if_err (Err e) P Q f h = f e h

-- a place that is wrong is no want of memory
pub fails : (h : Form) (s : Left) (e : ReadError) → FailsAt h s e → Fails h s e
fails h s Memory f = tt
fails h s (BadHeader n) f = f
fails h s (BadCommand n) f = f
fails h s (Syntax n) f = f
fails h s (BadByte n) f = f
fails h s (BadChar n) f = f

pub header_wrong : (h : Form) (s : Left) (e : ReadError) → HeaderFailsAt h s e → HeaderFails h s e
header_wrong h s Memory f = tt
header_wrong h s (BadHeader n) f = f
header_wrong h s (BadCommand n) f = f
header_wrong h s (Syntax n) f = f
header_wrong h s (BadByte n) f = f
header_wrong h s (BadChar n) f = f

-- ---- the header

opening-head : (h : Form) (c : Chars) → bytes_eq c h.word ≡ true → head_of h c ≡ Some Header
opening-head h c e = ap (head_of h) ((bytes_eq-Decides c h.word).0 e) ∙ head_found h Header tt

other-opening : (h : Form) (w : Lexeme) → is_opening h.word w ≡ false → step_header h w ≡ None
other-opening h (a_name c) e = by (head_of h c) refl
  where
    by : (o : Option Head) → head_of h c ≡ o → header_move h.number o ≡ None
    by None q = refl
    by (Some Header) q =
        let clash : false ≡ true = sym e ∙ (bytes_eq-Decides c h.word).1 (found_head h c Header q).0 in
        absurd (cc clash)
    by (Some k) q = refl
other-opening h _ e = refl

opening-word : (h : Form) (w : Lexeme) → is_opening h.word w ≡ true → (c : Chars) × (w ≡ a_name c) × (head_of h c ≡ Some Header)
opening-word h (a_name c) e = (c, refl, opening-head h c e)
opening-word h _ e = absurd (cc e)

-- the token that stands next is the header's word
next-opening : (h : Form) (s : Left) (t : Placed) (w : Lexeme) → One t ≡ lexed s → w ≡ lexeme t.kind (spelling s) → is_opening h.word w ≡ true
    → (c : Chars) × IsNextLexeme s (a_name c) × (head_of h c ≡ Some Header)
next-opening h s t w f q e =
    let o = opening-word h w e in
    (o.0, record { placed = t; found = sym f; same = sym o.1 ∙ q }, o.2)

pub header_read : (h : Form) (s s' s'' : Left) (t : Placed) (w : Lexeme) (b : List Note) → One t ≡ lexed s → s' ≡ after s → w ≡ lexeme t.kind (spelling s) → is_opening h.word w ≡ true
    → Reads (expected h.number Header) [] s' b s'' → Spans s (text_lexemes h header []) s''
header_read h s s' s'' t w b f g q e r =
    let o = next-opening h s t w f q e in
    reads_header h s s'' o.0 b o.1 o.2 (subst (λ (x : Left). Reads (expected h.number Header) [] x b s'') g r)

stopped-at : (st : List Symbol) (b : List Note) (call : ℕ → ReadError) (s : Left) (e : ReadError) (P : ReadError → Type 0) → P Memory → (StopsAt st b call s e → P e) → IsStopped st b call s e → P e
stopped-at st b call s Memory P m f h = m
stopped-at st b call s (BadHeader n) P m f h = f h
stopped-at st b call s (BadCommand n) P m f h = f h
stopped-at st b call s (Syntax n) P m f h = f h
stopped-at st b call s (BadByte n) P m f h = f h
stopped-at st b call s (BadChar n) P m f h = f h

pub header_stopped : (h : Form) (s s' : Left) (t : Placed) (w : Lexeme) (e : ReadError) → One t ≡ lexed s → s' ≡ after s → w ≡ lexeme t.kind (spelling s) → is_opening h.word w ≡ true
    → IsStopped (expected h.number Header) [] (call_of Header) s' e → HeaderFails h s e
header_stopped h s s' t w e f g q i st =
    let o = next-opening h s t w f q i in
    stopped-at (expected h.number Header) [] (call_of Header) s' e (λ x. HeaderFails h s x) tt
    (λ r. header_wrong h s e (header_fails h s o.0 e o.1 o.2 (subst (λ (x : Left). StopsAt (expected h.number Header) [] (call_of Header) x e) g r))) st

pub other_header : (h : Form) (s : Left) (t : Placed) (w : Lexeme) → One t ≡ lexed s → w ≡ lexeme t.kind (spelling s) → is_opening h.word w ≡ false → HeaderFails h s (BadHeader t.from)
other_header h s t w f q e =
    no_header_fails h s (BadHeader t.from) (subst (λ (l : Lexed). NoHeader h l s (BadHeader t.from)) f (refl, ap (step_header h) (sym q) ∙ other-opening h w e))

pub end_header : (h : Form) (s : Left) (at : ℕ) → End ≡ lexed s → at ≡ length s.source → HeaderFails h s (BadHeader at)
end_header h s at f e = no_header_fails h s (BadHeader at) (subst (λ (l : Lexed). NoHeader h l s (BadHeader at)) f (ap BadHeader e))

pub byte_header : (h : Form) (s : Left) (at : ℕ) → NoText at ≡ lexed s → HeaderFails h s (BadByte at)
byte_header h s at f = no_header_fails h s (BadByte at) (subst (λ (l : Lexed). NoHeader h l s (BadByte at)) f refl)

pub char_header : (h : Form) (s : Left) (at : ℕ) → NoToken at ≡ lexed s → HeaderFails h s (BadChar at)
char_header h s at f = no_header_fails h s (BadChar at) (subst (λ (l : Lexed). NoHeader h l s (BadChar at)) f refl)

-- ---- parts

pub next_end : (h : Form) (s s' s'' : Left) → Past h s s' → SaysNext h s' s'' Ends → AtEnd h s
next_end h s s' s'' p f = past_end h s s' p f

pub next_other : (h : Form) (s s' s'' : Left) (at : ℕ) → Past h s s' → SaysNext h s' s'' (Other at) → Fails h s (BadCommand at)
next_other h s s' s'' at p (t, f, q, i) = none_fails h s s' (BadCommand at) p (subst (λ (l : Lexed). BeginsNone h l s' (BadCommand at)) (sym f) (ap BadCommand q, i))

pub next_byte : (h : Form) (s s' s'' : Left) (at : ℕ) → Past h s s' → SaysNext h s' s'' (NoByte at) → Fails h s (BadByte at)
next_byte h s s' s'' at p f = none_fails h s s' (BadByte at) p (subst (λ (l : Lexed). BeginsNone h l s' (BadByte at)) (sym f) refl)

pub next_char : (h : Form) (s s' s'' : Left) (at : ℕ) → Past h s s' → SaysNext h s' s'' (NoChar at) → Fails h s (BadChar at)
next_char h s s' s'' at p f = none_fails h s s' (BadChar at) p (subst (λ (l : Lexed). BeginsNone h l s' (BadChar at)) (sym f) refl)

pub next_stopped : (h : Form) (s s' s'' : Left) (k : Head) (at : ℕ) (e : ReadError) → Past h s s' → SaysNext h s' s'' (Begins k at) → IsStopped (expected h.number k) [] (call_of k) s'' e → Fails h s e
next_stopped h s s' s'' k at e p (c, t, f, q, d, i, g) st =
    stopped-at (expected h.number k) [] (call_of k) s'' e (λ x. Fails h s x) tt
    (λ r. fails h s e (part_fails h s s' c k e p (record { placed = t; found = f; same = d }) i (subst (λ (x : Left). StopsAt (expected h.number k) [] (call_of k) x e) g r))) st

-- what begins with another word is no header
pub no_header : (h : Form) (s s' : Left) (c : Chars) (k : Head) (p : PartText) → IsNextLexeme s (a_name c) → head_of h c ≡ Some k → is_header k ≡ false → Spans s (text_lexemes h p []) s' → p ≡ header → ⊥
no_header h s s' c k p n i o f e =
    let spans : Spans s (text_lexemes h header []) s' = subst (λ (q : PartText). Spans s (text_lexemes h q []) s') e f in
    let words : a_name c ≡ a_name h.word = one_next s (a_name c) (a_name h.word) n spans.0 in
    let same : c ≡ h.word = cc words in
    let heads : Some k ≡ Some Header = sym i ∙ ap (head_of h) same ∙ head_found h Header tt in
    let clash : false ≡ true = sym o ∙ ap (λ (x : Option Head). told x) heads in
    absurd (cc clash)
  where
    told : Option Head → Bool
    told None = false
    told (Some k) = is_header k

first-word : (h : Form) (p : PartText) → (rest : List Lexeme) × (text_lexemes h p [] ≡ a_name (head_word h (head_of_text p)) ∷ rest)
first-word h header = (_, refl)
first-word h (item w ts) = (_, refl)
first-word h (lemma l t lines) = (_, refl)
first-word h (command w ts) = (_, refl)

stands-head : (h : Form) (p : PartText) → MayStand h p → IsHead h (head_of_text p)
stands-head h header m = tt
stands-head h (item w ts) m = m
stands-head h (lemma l t lines) m = m
stands-head h (command w ts) m = m

-- the word tells what a part begins with
pub head_is : (h : Form) (s s' : Left) (c : Chars) (k : Head) (p : PartText) → IsNextLexeme s (a_name c) → head_of h c ≡ Some k → MayStand h p → Spans s (text_lexemes h p []) s' → k ≡ head_of_text p
head_is h s s' c k p n i m f =
    let w = first-word h p in
    let spans : Spans s (a_name (head_word h (head_of_text p)) ∷ w.0) s' = subst (λ (z : List Lexeme). Spans s z s') w.1 f in
    let words : a_name c ≡ a_name (head_word h (head_of_text p)) = one_next s (a_name c) (a_name (head_word h (head_of_text p))) n spans.0 in
    let same : c ≡ head_word h (head_of_text p) = cc words in
    let heads : Some k ≡ Some (head_of_text p) = sym i ∙ ap (head_of h) same ∙ head_found h (head_of_text p) (stands-head h p m) in
    cc heads

pub header_only : (k : Head) → is_header k ≡ true → k ≡ Header
header_only Header e = refl
header_only _ e = absurd (cc e)

pub next_header : (h : Form) (s s' s'' s''' : Left) (k : Head) (at : ℕ) (b : List Note) → Past h s s' → SaysNext h s' s'' (Begins k at)
    → Reads (expected h.number k) [] s'' b s''' → is_header k ≡ true → Past h s s'''
next_header h s s' s'' s''' k at b p (c, t, f, q, e, i, g) r o =
    let same : k ≡ Header = header_only k o in
    past_on h s s' s''' p (reads_header h s' s''' c b (record { placed = t; found = f; same = e }) (i ∙ ap Some same)
    (subst (λ (x : Left). Reads (expected h.number Header) [] x b s''') g (subst (λ (x : Head). Reads (expected h.number x) [] s'' b s''') same r)))

-- ---- sources and lengths

pub begun_source : (h : Form) (s s' : Left) (k : Head) (at : ℕ) → SaysNext h s s' (Begins k at) → s'.source ≡ s.source
begun_source h s s' k at (c, t, f, q, d, i, g) = ap (λ (x : Left). x.source) g ∙ after_source s

pub begun_shorter : (h : Form) (s s' : Left) (k : Head) (at : ℕ) → SaysNext h s s' (Begins k at) → length s'.ahead < length s.ahead
begun_shorter h s s' k at (c, t, f, q, d, i, g) =
    let here : length (after s).ahead < length s.ahead = token_shortens s (subst IsToken (sym f) tt) in
    let same : length s'.ahead ≡ length (after s).ahead = ap (λ (x : Left). length x.ahead) g in
    omega (arith, here, same)

pub read_source : (st : List Symbol) (b b' : List Note) (s s' : Left) → Reads st b s b' s' → s'.source ≡ s.source
read_source st b b' s s' (ws, f, e) = spans_source s ws s' f

pub read_no_longer : (st : List Symbol) (b b' : List Note) (s s' : Left) → Reads st b s b' s' → length s'.ahead ≤ length s.ahead
read_no_longer st b b' s s' (ws, f, e) = spans_no_longer s ws s' f
