-- Names and words, as characters and as bytes.
use Rattle.std.proofs.Common.{◌≡◌, ◌∙◌, ap, sym, true, List, ℕ, [], ◌∷◌, arith}
use Rattle.std.specs.Prelude.{chars, encode_utf8_all, zero, suc, IsUtf8, bytes_eq, nat_lt}
use Rattle.std.specs.List.{list_all}
use Rattle.std.specs.Str.{IsAscii}
use Rattle.std.proofs.lemmas.Bool.{and_parts}
use Rattle.std.proofs.lemmas.Bool.Decides.{same_from_decides}
use borrow.Author.Tests.{ltb-true}
use Rattle.std.proofs.lemmas.Slice.Eq.{bytes_eq-Decides}
use Rattle.std.proofs.lemmas.Str.{encodes-chars, chars-IsAscii}
use Rattle.lt_texts.specs.declared.lexical.TokenKind.{TokenKind}
use Rattle.lt_texts.specs.declared.lexical.TokenKind.TheVariants as kinds
use Rattle.lt_definitions.specs.Characters.{is_name}
use Rattle.lt_texts.specs.Spelling.{is_spelt, is_type_variable}

-- what is spelt as a name is one
pub spelt_name : (kind : TokenKind) (cs : List ℕ) → kind ≡ kinds.Name → is_spelt kind cs ≡ true → is_name cs ≡ true
spelt_name kind cs e h = ap (λ (k : TokenKind). is_spelt k cs) (sym e) ∙ h

-- two texts with the same characters have the same bytes
pub same_bytes : (xs ys : List ℕ) → IsUtf8 xs → IsUtf8 ys → chars xs ≡ chars ys → xs ≡ ys
same_bytes xs ys u v e = sym (encodes-chars xs u) ∙ ap encode_utf8_all e ∙ encodes-chars ys v

ascii : (w : List ℕ) → list_all (λ c. nat_lt c 128) w ≡ true → IsAscii w
ascii [] h i = omega arith
ascii (c ∷ cs) h zero = ltb-true c 128 (and_parts _ _ h).0
ascii (c ∷ cs) h (suc i) = ascii cs (and_parts _ _ h).1 i

-- a text is an ASCII word where its characters are
pub word_same : (bs w : List ℕ) → IsUtf8 bs → IsUtf8 w → list_all (λ c. nat_lt c 128) w ≡ true → bytes_eq bs w ≡ bytes_eq (chars bs) w
word_same bs w u v a =
    let same : chars w ≡ w = chars-IsAscii w (ascii w a) in
    let d = bytes_eq-Decides (chars bs) w in
    same_from_decides (bytes_eq bs w) (bytes_eq (chars bs) w) (bytes_eq-Decides bs w)
    (λ e. same_bytes bs w u v (d.0 e ∙ sym same), λ e. d.1 (ap chars e ∙ same))

-- two texts are one where their characters are
pub text_same : (bs w : List ℕ) → IsUtf8 bs → IsUtf8 w → bytes_eq bs w ≡ bytes_eq (chars bs) (chars w)
text_same bs w u v =
    let d = bytes_eq-Decides (chars bs) (chars w) in
    same_from_decides (bytes_eq bs w) (bytes_eq (chars bs) (chars w)) (bytes_eq-Decides bs w)
    (λ e. same_bytes bs w u v (d.0 e), λ e. d.1 (ap chars e))

-- behind the quote of a type variable stands a name
pub variable_name : (text rest : List ℕ) (q : ℕ) → text ≡ q ∷ rest → is_type_variable text ≡ true → is_name rest ≡ true
variable_name text rest q e h = (and_parts _ _ (ap is_type_variable (sym e) ∙ h)).1
