-- Plain texts are names.
use Rattle.std.proofs.Common.{◌≡◌, ◌∙◌, ℕ, ◌<◌, List, [], ◌∷◌, true, false, nat_lt, ◌&&◌, ◌||◌, ◌==◌, refl, sym, ap}
use Rattle.std.specs.Char.{is_ascii_alphabetic, is_ascii_alphanumeric}
use Rattle.std.specs.List.{list_all}
use Rattle.std.specs.Str.{chars}
use Rattle.std.proofs.lemmas.Bool.{true≢false, and_parts, and_from, ltb-true}
use Rattle.unicode_ident.specs.Ident.{is_xid_continue}
use Rattle.lt_definitions.specs.Characters.{is_name, starts_name}
use Rattle.lt_types.proofs.Ascii.{ascii-starts, ascii-continues, ascii-chars}
use Rattle.lt_tables.specs.Letters.{is_plain}

continues : (cs : List ℕ) → list_all (λ d. nat_lt d 128) cs ≡ true → list_all (λ d. is_ascii_alphanumeric d || (d == 95)) cs ≡ true → list_all is_xid_continue cs ≡ true
continues [] h k = refl
continues (c ∷ cs) h k =
    let a = and_parts _ _ h in
    let b = and_parts _ _ k in
    and_from _ _ (ascii-continues c (ltb-true c 128 a.0) ∙ b.0) (continues cs a.1 b.1)

pub plain-chars : (w : List ℕ) → is_plain w ≡ true → chars w ≡ w
plain-chars [] h = absurd (true≢false (sym h))
plain-chars (c ∷ cs) h = ascii-chars (c ∷ cs) (and_parts (list_all (λ d. nat_lt d 128) (c ∷ cs)) _ h).0

pub plain-name : (w : List ℕ) → is_plain w ≡ true → is_name (chars w) ≡ true
plain-name [] h = absurd (true≢false (sym h))
plain-name (c ∷ cs) h =
    let a = and_parts (list_all (λ d. nat_lt d 128) (c ∷ cs)) ((is_ascii_alphabetic c || (c == 95)) && list_all (λ d. is_ascii_alphanumeric d || (d == 95)) cs) h in
    let b = and_parts (nat_lt c 128) (list_all (λ d. nat_lt d 128) cs) a.0 in
    let e = and_parts (is_ascii_alphabetic c || (c == 95)) (list_all (λ d. is_ascii_alphanumeric d || (d == 95)) cs) a.1 in
    ap is_name (plain-chars (c ∷ cs) h)
    ∙ and_from (starts_name c) (list_all is_xid_continue cs) (ascii-starts c (ltb-true c 128 b.0) ∙ e.0) (continues cs b.1 e.1)
