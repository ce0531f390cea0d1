-- What is spelt as a token behind a gap is read, and a text of characters is all ahead.
use Rattle.std.proofs.Common.{◌≡◌, ℕ, ◌∙◌, ap, refl, true, List, [], ◌∷◌, ◌++◌, take, Option}
use Rattle.std.proofs.Math.Seq.{take-length}
use Rattle.std.specs.Prelude.{IsUtf8, encode_utf8_all, chars}
use Rattle.std.specs.Str.{all_scalars}
use Rattle.std.proofs.lemmas.Str.{chars-encodes, utf8_valid_len-IsUtf8}
use Rattle.lt_texts.specs.declared.lexical.TokenKind.{TokenKind}
use Rattle.lt_texts.specs.Tokens.{Scanned, token_at}
use Rattle.lt_texts.specs.Spelling.{is_spelt, stops}
use Rattle.lt_texts.specs.Gaps.{IsPast}
use Rattle.lt_texts.specs.Texts.{Left, left_of, past_gap, lexed_at, lexed_by, after_by, spelling_by}
use Rattle.lt_texts.specs.Slices.{IsNext}
use Rattle.lt_texts.proofs.TokenEnds.{spelt_found}
use Rattle.lt_texts.proofs.TokenTexts.{nothing_spelt}
use Rattle.lt_texts.proofs.GapLemmas.{gap_exact}

lexed_word : (s : Left) (kind : TokenKind) (word rest : List ℕ) → is_spelt kind word ≡ true → (o : Option Scanned) → token_at (word ++ rest) ≡ o → lexed_at s (word ++ rest) ≡ lexed_by s (word ++ rest) o
lexed_word s kind [] rest h o e = absurd (cc (nothing_spelt kind, h))
lexed_word s kind (c ∷ cs) rest h o e = ap (lexed_by s (c ∷ (cs ++ rest))) e

pub spelt_read : (s : Left) (kind : TokenKind) (word rest : List ℕ) → IsPast s.ahead (word ++ rest) → is_spelt kind word ≡ true → stops kind rest ≡ true → IsNext s kind word rest
spelt_read s kind word rest p h k =
    let gap : past_gap s ≡ word ++ rest = (gap_exact s.ahead (word ++ rest)).0 p in
    let found = spelt_found kind word rest h k in
    record {
      token = ap (lexed_at s) gap ∙ lexed_word s kind word rest h _ found;
      spelling = ap (λ (cs : List ℕ). spelling_by (token_at cs)) gap ∙ ap spelling_by found;
      after = ap (λ (cs : List ℕ). after_by s (token_at cs)) gap ∙ ap (after_by s) found;
    }

pub all_ahead : (cs : List ℕ) → all_scalars cs ≡ true → left_of (encode_utf8_all cs) ≡ record { source = encode_utf8_all cs; ahead = cs }
all_ahead cs h =
    let text = encode_utf8_all cs in
    let utf8 : IsUtf8 text = (cs, (h, refl)) in
    ap (λ (a : List ℕ). let s : Left = record { source = text; ahead = a } in s)
    (ap chars (ap (λ (n : ℕ). take n text) (utf8_valid_len-IsUtf8 text utf8) ∙ take-length text) ∙ chars-encodes cs h)
