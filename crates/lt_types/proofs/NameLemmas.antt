-- Names as texts and as characters.
use Rattle.std.proofs.Common.{◌≡◌, ℕ, ◌++◌, [], ◌∷◌, List, Bool, true, false, ◌&&◌, not, length, refl, arith, sym, ◌∙◌, ap, nat_eq}
use Rattle.std.specs.Prelude.{nat_lt, if◌then◌else◌}
use Rattle.std.specs.List.{list_all}
use Rattle.unicode_ident.specs.Ident.{is_xid_continue}
use Rattle.lt_definitions.specs.Characters.{is_name, starts_name}
use Rattle.lt_definitions.specs.Types.{Chars, same_name}
use Rattle.lt_types.proofs.Ascii.{ascii-chars}
use Rattle.std.specs.Char.{encode_utf8}
use Rattle.std.specs.Cmp.Lexicographic.{pointwise}
use Rattle.std.specs.Str.{chars, encode_utf8_all, IsUtf8}
use Rattle.std.proofs.lemmas.Str.{encodes-chars, chars_past_char, IsUtf8-past_char}
use Rattle.std.proofs.lemmas.Slice.Eq.{bytes_eq-Decides}
use Rattle.std.proofs.lemmas.Bool.Decides.{same_from_decides, Decides-like}

-- texts are compared as their characters are
pub same_by_chars : (a b : List ℕ) → IsUtf8 a → IsUtf8 b → pointwise nat_eq a b ≡ pointwise nat_eq (chars a) (chars b)
same_by_chars a b u v =
    same_from_decides {P = chars a ≡ chars b} _ _ (Decides-like _ (ap chars) (λ e. sym (encodes-chars a u) ∙ ap encode_utf8_all e ∙ encodes-chars b v) (bytes_eq-Decides a b)) (bytes_eq-Decides (chars a) (chars b))

-- a text is an ASCII word where its characters are
pub word-same : (bs w : List ℕ) → IsUtf8 bs → IsUtf8 w → list_all (λ c. nat_lt c 128) w ≡ true → same_name bs w ≡ same_name (chars bs) w
word-same bs w u v a = same_by_chars bs w u v ∙ ap (same_name (chars bs)) (ascii-chars w a)

-- whether a character may stand in a name, first or later
abbrev pub may_stand : (first : Bool) → ℕ → Bool
may_stand first c = if first then starts_name c else is_xid_continue c

-- whether characters are a name, or the rest of one
abbrev pub name_goes_on : (first : Bool) → Chars → Bool
name_goes_on true cs = is_name cs
name_goes_on false cs = list_all is_xid_continue cs

-- what is left of a text whose characters may be a name
pub record IsLeft (text rest : List ℕ) (first : Bool) : Type 0 where
  pub same : is_name (chars text) ≡ name_goes_on first (chars rest)
  pub utf8 : IsUtf8 rest

pub left-first : (text : List ℕ) → IsUtf8 text → IsLeft text text true
left-first text u = record { same = refl; utf8 = u }

pub left-seen : (text rest later : List ℕ) (first : Bool) (c : ℕ) → IsLeft text rest first → rest ≡ encode_utf8 c ++ later → is_name (chars text) ≡ (may_stand first c && name_goes_on false (chars later))
left-seen text rest later true c h e = h.same ∙ ap (name_goes_on true) (chars_past_char rest later c h.utf8 e)
left-seen text rest later false c h e = h.same ∙ ap (name_goes_on false) (chars_past_char rest later c h.utf8 e)

pub left-next : (text rest later : List ℕ) (first : Bool) (c : ℕ) → IsLeft text rest first → rest ≡ encode_utf8 c ++ later → may_stand first c ≡ true → IsLeft text later false
left-next text rest later first c h e s = record {
  same = left-seen text rest later first c h e ∙ ap (λ b. b && name_goes_on false (chars later)) s;
  utf8 = IsUtf8-past_char rest later c h.utf8 e;
}

pub left-never : (text rest later : List ℕ) (first : Bool) (c : ℕ) → IsLeft text rest first → rest ≡ encode_utf8 c ++ later → may_stand first c ≡ false → is_name (chars text) ≡ false
left-never text rest later first c h e s =
    left-seen text rest later first c h e ∙ ap (λ b. b && name_goes_on false (chars later)) s

chars-nil : chars [] ≡ []
unfolding chars
chars-nil = refl

pub left-end : (text rest : List ℕ) (first : Bool) → IsLeft text rest first → length rest ≡ 0 → is_name (chars text) ≡ name_goes_on first []
left-end text [] first h e = h.same ∙ ap (name_goes_on first) chars-nil
left-end text (b ∷ rest) first h e = absurd (omega arith)

-- no more characters end a name, but not its front
pub name_end : (first : Bool) → not first ≡ name_goes_on first []
name_end true = refl
name_end false = refl
