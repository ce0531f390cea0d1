-- Names with endings.
use Rattle.std.proofs.Common.{◌≡◌, ℕ, List, [], ◌∷◌, ◌++◌, Bool, true, ◌&&◌, ◌||◌, ◌==◌, nat_lt, Result, IfOk, chars, refl, sym, ◌∙◌, ap, subst}
use Rattle.std.specs.Char.{is_ascii_alphanumeric}
use Rattle.std.specs.List.{list_all}
use Rattle.std.proofs.lemmas.List.Folds.{list_all-append}
use Rattle.std.proofs.lemmas.Bool.{and_parts, and_from, ltb-true}
use Rattle.lt_types.proofs.Ascii.{ascii-continues, ascii-chars, word-is-name, word-chars}
use Rattle.unicode_ident.specs.Ident.{is_xid_continue}
use Rattle.lt_definitions.specs.Characters.{is_name, starts_name}
use Rattle.lt_conditions.specs.Building.{is_word}

pub name-ending : (n e : List ℕ) → is_name n ≡ true → list_all is_xid_continue e ≡ true → is_name (n ++ e) ≡ true
name-ending [] e h k = absurd (cc h)
name-ending (c ∷ cs) e h k =
    let parts = and_parts (starts_name c) (list_all is_xid_continue cs) h in
    and_from (starts_name c) (list_all is_xid_continue (cs ++ e)) parts.0
    (list_all-append is_xid_continue cs e ∙ and_from (list_all is_xid_continue cs) (list_all is_xid_continue e) parts.1 k)

-- ASCII letters, digits and the low line
abbrev goes_on : ℕ → Bool
goes_on c = nat_lt c 128 && (is_ascii_alphanumeric c || (c == 95))

all-go-on : (w : List ℕ) → list_all goes_on w ≡ true → list_all is_xid_continue w ≡ true
all-go-on [] h = refl
all-go-on (c ∷ w) h =
    let k = and_parts (goes_on c) (list_all goes_on w) h in
    let here = and_parts (nat_lt c 128) (is_ascii_alphanumeric c || (c == 95)) k.0 in
    and_from (is_xid_continue c) (list_all is_xid_continue w) (ascii-continues c (ltb-true c 128 here.0) ∙ here.1) (all-go-on w k.1)

-- endings of ASCII characters
pub ending-continues : (w : List ℕ) → list_all (λ c. nat_lt c 128) w ≡ true → list_all goes_on w ≡ true → list_all is_xid_continue (chars w) ≡ true
ending-continues w h k = ap (list_all is_xid_continue) (ascii-chars w h) ∙ all-go-on w k

pub labelled : {E : Type 0} (r : Result (List ℕ) E) (n w : List ℕ) → list_all (λ c. nat_lt c 128) w ≡ true → IfOk r (λ l. l ≡ n ++ chars w) → IfOk r (λ l. l ≡ n ++ w)
labelled r n w h k = subst (λ (cs : List ℕ). IfOk r (λ l. l ≡ n ++ cs)) (ascii-chars w h) k

-- words of letters
pub word-names : (w : List ℕ) → is_word w ≡ true → is_name (chars w) ≡ true
word-names [] h = absurd (cc h)
word-names (c ∷ w) h = word-is-name c w h

pub word-is : (w : List ℕ) → is_word w ≡ true → chars w ≡ w
word-is [] h = absurd (cc h)
word-is (c ∷ w) h = word-chars (c ∷ w) h
