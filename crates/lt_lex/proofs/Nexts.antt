-- What stands next in a text that is read up to a place.
use Rattle.std.proofs.Common.{◌≡◌, ℕ, ◌-◌, ◌<◌, ◌≤◌, ◌∙◌, ap, sym, subst, refl, Bool, true, false, List, [], ◌∷◌, length, take, drop, Option, Some, None, arith, ◌++◌, length-append, length-take, length-drop}
use Rattle.std.specs.Prelude.{◌==◌, if◌then◌else◌, IsUtf8, IsCharBoundary, encode_utf8_all}
use Rattle.std.specs.Str.Lossy.{utf8_valid_len}
use Rattle.std.proofs.lemmas.List.{take-append-drop, drop-append-le, take-append-le}
use Rattle.std.proofs.Math.Seq.{take-append_seam}
use Rattle.std.proofs.lemmas.Str.{utf8_valid_len_le, encodes-chars, encodes-append, chars_from_encodes, IsUtf8-drop, IsUtf8-between, IsUtf8-from_is_utf8}
use Rattle.lt_texts.specs.declared.lexical.TokenKind.{TokenKind}
use Rattle.lt_texts.specs.declared.lexical.Lexed.TheVariants.{Token, End, BadByte, BadChar}
use Rattle.lt_definitions.specs.Characters.{behind_gap}
use Rattle.lt_texts.specs.Tokens.{Scanned, token_from, token_at}
use Rattle.lt_texts.specs.Texts.{Left, end_of, place_of, past_gap, ending, lexed, lexed_at, lexed_by, after, after_by, IsToken, spelling, spelling_by}
use Rattle.lt_texts.specs.declared.lexical.Lexed.{Lexed}
use Rattle.lt_texts.specs.Slices.{IsRead, OnNone}
use Rattle.lt_texts.specs.Spelling.{is_spelt}
use Rattle.lt_texts.proofs.TokenEnds.{IsSound, token_sound}
use Rattle.lt_texts.proofs.TokenTexts.{token_shortens}
use Rattle.lt_lex.specs.Places.{ahead_at, IsOpened, Ends, IsFound, Begins}

-- what is left of a text from a place on
abbrev pub left_at : List ℕ → List ℕ → ℕ → Left
left_at source text at = record { source = source; ahead = ahead_at text at }

pub front_length : (source text : List ℕ) (at : ℕ) → IsOpened source text at → length text ≡ utf8_valid_len source
front_length source text at o = ap length o.front ∙ omega (arith, length-take (utf8_valid_len source) source, utf8_valid_len_le source)

-- a place is told by the characters from there on
pub place_told : (source text : List ℕ) (at from : ℕ) → IsOpened source text at → IsCharBoundary text from → place_of (left_at source text at) (ahead_at text from) ≡ from
place_told source text at from o b =
    omega (arith, b.0, front_length source text at o, length-drop from text, ap length (encodes-chars (drop from text) (IsUtf8-drop text from (IsUtf8-from_is_utf8 text o.utf8) b)))

-- what stands next, where the characters behind the gap are told
lexed_told : (s : Left) (left : List ℕ) → left ≡ past_gap s → lexed s ≡ lexed_at s left
lexed_told s left e = ap (lexed_at s) (sym e)

pub lexed_end : (source text : List ℕ) (at : ℕ) → behind_gap false (ahead_at text at) ≡ []
    → ending (left_at source text at) ≡ lexed (left_at source text at)
lexed_end source text at g = sym (lexed_told (left_at source text at) [] (sym g))

-- the text's end, and its first byte that is no UTF-8
pub ending_told : (source text : List ℕ) (at : ℕ) → IsOpened source text at → (y : Bool) → (length text == length source) ≡ y → (if y then End else BadByte (length text)) ≡ ending (left_at source text at)
ending_told source text at o y e =
    ap (λ (z : Bool). if z then End else BadByte (length text)) (sym e)
    ∙ ap (λ (n : ℕ). if n == length source then End else BadByte n) (front_length source text at o)

lexed_found : (source text : List ℕ) (at from c behind : ℕ) → IsOpened source text at → Begins text at from c behind → (o : Option Scanned) → token_from c (ahead_at text behind) ≡ o
    → lexed (left_at source text at) ≡ lexed_by (left_at source text at) (ahead_at text from) o
lexed_found source text at from c behind opened h o e =
    let s = left_at source text at in
    lexed_told s (c ∷ ahead_at text behind) (sym h.first ∙ h.gap) ∙ ap (lexed_by s (c ∷ ahead_at text behind)) e ∙ ap (λ (cs : List ℕ). lexed_by s cs o) (sym h.first)

none_from : (text : List ℕ) (at : ℕ) (o : Option Scanned) → IsFound text at o None → o ≡ None
none_from text at None h = refl
none_from text at (Some t) h = absurd h

pub lexed_none : (source text : List ℕ) (at from c behind : ℕ) → IsOpened source text at → Begins text at from c behind → IsFound text behind (token_from c (ahead_at text behind)) None
    → BadChar from ≡ lexed (left_at source text at)
lexed_none source text at from c behind opened h f =
    ap BadChar (sym (place_told source text at from opened h.place))
    ∙ sym (lexed_found source text at from c behind opened h None (none_from text behind _ f))

some_from : (text : List ℕ) (at : ℕ) (o : Option Scanned) (p : TokenKind × ℕ) → IsFound text at o (Some p) → (t : Scanned) × (o ≡ Some t) × Ends text at t p
some_from text at None p h = absurd h
some_from text at (Some t) p h = (t, refl, h)

pub lexed_some : (source text : List ℕ) (at from c behind : ℕ) → IsOpened source text at → Begins text at from c behind → (kind : TokenKind) (to : ℕ) → IsFound text behind (token_from c (ahead_at text behind)) (Some (kind, to))
    → Token (record { kind = kind; from = from; to = to }) ≡ lexed (left_at source text at)
lexed_some source text at from c behind opened h kind to f =
    let found = some_from text behind _ (kind, to) f in
    let e : to ≡ place_of (left_at source text at) (found.0).rest =
    sym (place_told source text at to opened (found.2).place) ∙ ap (place_of (left_at source text at)) (found.2).chars in
    made _ _ _ _ _ _ (found.2).kind (sym (place_told source text at from opened h.place)) e
    ∙ sym (lexed_found source text at from c behind opened h (Some found.0) found.1)
  where
    made : (k k' : TokenKind) (m m' n n' : ℕ) → k ≡ k' → m ≡ m' → n ≡ n' → Token (record { kind = k; from = m; to = n }) ≡ Token (record { kind = k'; from = m'; to = n' })
    made k k' m m' n n' p q r = λ i. Token (record { kind = p i; from = q i; to = r i })

pub after_some : (source text : List ℕ) (at from c behind : ℕ) → IsOpened source text at → Begins text at from c behind → (kind : TokenKind) (to : ℕ) → IsFound text behind (token_from c (ahead_at text behind)) (Some (kind, to))
    → left_at source text to ≡ after (left_at source text at)
after_some source text at from c behind opened h kind to f =
    let found = some_from text behind _ (kind, to) f in
    let s = left_at source text at in
    ap (λ (cs : List ℕ). record s { ahead = cs }) (found.2).chars
    ∙ sym (ap (λ (cs : List ℕ). after_by s (token_at cs)) (sym h.gap ∙ h.first) ∙ ap (after_by s) found.1)

pub place_found : (text : List ℕ) (at : ℕ) (o : Option Scanned) (kind : TokenKind) (to : ℕ) → IsFound text at o (Some (kind, to)) → IsCharBoundary text to
place_found text at o kind to f = ((some_from text at o (kind, to) f).2).place

pub shorter_told : (s s' : Left) (r : Lexed) → r ≡ lexed s → s' ≡ after s → IsToken r → length s'.ahead < length s.ahead
shorter_told s s' r e q t = subst (λ (x : Left). length x.ahead < length s.ahead) (sym q) (token_shortens s (subst IsToken e t))

-- ---- the token as a slice

bytes_told : (source text : List ℕ) (from to : ℕ) → text ≡ take (utf8_valid_len source) source → from ≤ to → to ≤ length text → take (to - from) (drop from source) ≡ take (to - from) (drop from text)
bytes_told source text from to e h w =
    let rest = drop (utf8_valid_len source) source in
    let whole : text ++ rest ≡ source = ap (λ (x : List ℕ). x ++ rest) e ∙ take-append-drop (utf8_valid_len source) source in
    ap (λ (x : List ℕ). take (to - from) (drop from x)) (sym whole)
    ∙ ap (take (to - from)) (drop-append-le from text rest (omega (arith, h, w)))
    ∙ take-append-le (to - from) (drop from text) rest (omega (arith, length-drop from text, h, w))

-- what is left at the earlier place begins with what stands between
between_told : (text : List ℕ) (from to : ℕ) (word : List ℕ) → IsUtf8 text → IsCharBoundary text from → IsCharBoundary text to → from ≤ to → ahead_at text from ≡ word ++ ahead_at text to
    → take (to - from) (drop from text) ≡ encode_utf8_all word
between_told text from to word u b d h e =
    let left : drop from text ≡ encode_utf8_all word ++ drop to text =
    sym (encodes-chars (drop from text) (IsUtf8-drop text from u b)) ∙ ap encode_utf8_all e ∙ encodes-append word (ahead_at text to)
    ∙ ap (λ (x : List ℕ). encode_utf8_all word ++ x) (encodes-chars (drop to text) (IsUtf8-drop text to u d)) in
    let long : length (encode_utf8_all word) ≡ to - from =
    omega (arith, ap length left, length-append (encode_utf8_all word) (drop to text), length-drop from text, length-drop to text, b.0, d.0, h) in
    ap (take (to - from)) left ∙ ap (λ (n : ℕ). take n (encode_utf8_all word ++ drop to text)) (sym long) ∙ take-append_seam (encode_utf8_all word) (drop to text)

pub read_told : (source text : List ℕ) (at from c behind : ℕ) → IsOpened source text at → Begins text at from c behind → (kind : TokenKind) (to : ℕ) → IsFound text behind (token_from c (ahead_at text behind)) (Some (kind, to))
    → (s s' : Left) → left_at source text at ≡ s → left_at source text to ≡ s' → IsRead s s' (record { kind = kind; from = from; to = to })
read_told source text at from c behind opened h kind to f s s' p q =
    subst (λ (x : Left). IsRead x s' (record { kind = kind; from = from; to = to })) p
    (subst (λ (x : Left). IsRead (left_at source text at) x (record { kind = kind; from = from; to = to })) q (by (some_from text behind _ (kind, to) f)))
  where
    by : (t : Scanned) × (token_from c (ahead_at text behind) ≡ Some t) × Ends text behind t (kind, to)
        → IsRead (left_at source text at) (left_at source text to) (record { kind = kind; from = from; to = to })
    by found =
        let utf8 = IsUtf8-from_is_utf8 text opened.utf8 in
        let order : from ≤ to = omega (arith, h.longer, (found.2).later) in
        let sound : IsSound (c ∷ ahead_at text behind) (Some found.0) = subst (IsSound (c ∷ ahead_at text behind)) found.1 (token_sound (c ∷ ahead_at text behind)) in
        let all : ahead_at text from ≡ (found.0).spelling ++ ahead_at text to =
        h.first ∙ sound.0 ∙ ap (λ (x : List ℕ). (found.0).spelling ++ x) (sym (found.2).chars) in
        let bytes = bytes_told source text from to opened.front order ((found.2).place).0 in
        let between = between_told text from to (found.0).spelling utf8 h.place (found.2).place order all in
        let is_utf8 : IsUtf8 (take (to - from) (drop from source)) = subst IsUtf8 (sym bytes) (IsUtf8-between text from to utf8 order h.place (found.2).place) in
        let told : spelling (left_at source text at) ≡ (found.0).spelling =
        ap (λ (cs : List ℕ). spelling_by (token_at cs)) (sym h.gap ∙ h.first) ∙ ap spelling_by found.1 in
        let kinds : is_spelt kind (found.0).spelling ≡ true = ap (λ (k : TokenKind). is_spelt k (found.0).spelling) (found.2).kind ∙ sound.1 in
        let within : length text ≤ length source = omega (arith, front_length source text at opened, utf8_valid_len_le source) in
        record {
          source = refl;
          behind = omega (arith, h.later, place_told source text at at opened opened.place);
          some = omega (arith, h.longer, (found.2).later);
          here = place_told source text at to opened (found.2).place;
          slice = record { order = order; within = omega (arith, within, ((found.2).place).0); utf8 = is_utf8 };
          text = sym (chars_from_encodes (found.0).spelling _ is_utf8 (sym (bytes ∙ between))) ∙ sym told;
          spelt = ap (is_spelt kind) told ∙ kinds;
        }

ended : (s : Left) (y : Bool) (e : ℕ) → OnNone (if y then End else BadByte e) (s ≡ s)
ended s true e = refl
ended s false e = refl

stays_by : (s : Left) (cs : List ℕ) (o : Option Scanned) → OnNone (lexed_by s cs o) (after_by s o ≡ s)
stays_by s cs None = refl
stays_by s cs (Some t) = tt

stays_at : (s : Left) (cs : List ℕ) → OnNone (lexed_at s cs) (after_by s (token_at cs) ≡ s)
stays_at s [] = ended s (end_of s == length s.source) (end_of s)
stays_at s (c ∷ cs) = stays_by s (c ∷ cs) (token_at (c ∷ cs))

pub stays_told : (s s' : Left) (r : Lexed) → r ≡ lexed s → s' ≡ after s → OnNone r (s' ≡ s)
stays_told s s' r e q =
    subst (λ (x : Lexed). OnNone x (s' ≡ s)) (sym e) (subst (λ (x : Left). OnNone (lexed s) (x ≡ s)) (sym q) (stays_at s (past_gap s)))
