-- The token that is found is the longest one, and what is spelt as a token is found.
use Rattle.std.proofs.Common.{lit<, ◌≡◌, ℕ, ◌≤◌, ◌∙◌, ap, sym, subst, refl, Bool, true, false, List, [], ◌∷◌, ◌++◌, length, arith, Option, Some, None, MatchOption}
use Rattle.std.specs.Prelude.{if◌then◌else◌, ◌==◌, codes, bytes_eq}
use Rattle.std.proofs.lemmas.Bool.{and_parts, and_from, eqb-true, not-true}
use Rattle.std.specs.Cmp.Lexicographic.{same_text}
use Rattle.std.specs.Char.{is_ascii_digit}
use Rattle.std.specs.List.{list_all}
use Rattle.unicode_ident.specs.Ident.{is_xid_continue}
use Rattle.lt_texts.specs.declared.lexical.TokenKind.{TokenKind}
use Rattle.lt_texts.specs.declared.lexical.TokenKind.TheVariants.{Name, TypeVariable, Number, Open, Close, OpenSquare, CloseSquare, OpenBrace, CloseBrace, Semicolon, Colon, Becomes, Dollar, Percent, Backslash}
use Rattle.lt_definitions.specs.Characters.{starts_name, run_of, behind_run}
use Rattle.lt_texts.specs.Tokens.{Scanned, run_at, variable_at, colon_at, sign_of, sign_at, token_from, token_at}
use Rattle.lt_texts.specs.Spelling.{is_spelt, goes_on, stops, NoToken, IsLongest}
use Rattle.lt_texts.proofs.CharacterRuns.{run_whole, run_passes, run_longest, run_stopped, run_ended, starts_name-ascii, digit_starts_none}

-- ---- the token that begins with a character, where the tests on it are told

abbrev by_tests : Bool → Bool → ℕ → List ℕ → Option Scanned
by_tests n d c cs =
    if n then Some (run_at Name (c ∷ []) is_xid_continue cs)
    else (if d then Some (run_at Number (c ∷ []) is_ascii_digit cs)
    else (if c == 39 then variable_at cs
    else (if c == 58 then Some (colon_at cs)
    else sign_at (sign_of c) c cs)))

tested : (c : ℕ) (cs : List ℕ) (n d : Bool) → starts_name c ≡ n → is_ascii_digit c ≡ d → token_from c cs ≡ by_tests n d c cs
tested c cs n d e f = λ i. by_tests (e i) (f i) c cs

name_found : (c : ℕ) (cs : List ℕ) → starts_name c ≡ true → token_from c cs ≡ Some (run_at Name (c ∷ []) is_xid_continue cs)
name_found c cs h = tested c cs true (is_ascii_digit c) h refl

number_found : (c : ℕ) (cs : List ℕ) → is_ascii_digit c ≡ true → token_from c cs ≡ Some (run_at Number (c ∷ []) is_ascii_digit cs)
number_found c cs h = tested c cs false true (digit_starts_none c h) h

-- an ASCII character that is no letter, no low line and no digit
other_found : (c : ℕ) (cs : List ℕ) → starts_name c ≡ false → is_ascii_digit c ≡ false → token_from c cs ≡ by_tests false false c cs
other_found c cs h d = tested c cs false false h d

variable_found : (c : ℕ) (cs : List ℕ) → starts_name c ≡ true → token_from 39 (c ∷ cs) ≡ Some (run_at TypeVariable (39 ∷ c ∷ []) is_xid_continue cs)
variable_found c cs h =
    other_found 39 (c ∷ cs) (starts_name-ascii 39 (lit< tt)) refl
    ∙ ap (λ (y : Bool). if y then Some (run_at TypeVariable (39 ∷ c ∷ []) is_xid_continue cs) else None) h

-- ---- what is spelt as a token is found

abbrev it : TokenKind → List ℕ → List ℕ → Option Scanned
it kind word rest = Some (record { kind = kind; spelling = word; rest = rest })

-- a run that has begun so, and what doesn't go on it
run_found : (kind : TokenKind) (begun : List ℕ) (p : ℕ → Bool) (cs rest : List ℕ) → list_all p cs ≡ true → (run_of p (cs ++ rest) ≡ cs) × (behind_run p (cs ++ rest) ≡ rest)
    → (let t : Option Scanned = Some (run_at kind begun p (cs ++ rest)) in t) ≡ it kind (begun ++ cs) rest
run_found kind begun p cs rest h k = λ i. Some (record { kind = kind; spelling = begun ++ k.0 i; rest = k.1 i })

abbrev StopsBy : (ℕ → Bool) → List ℕ → Type 0
StopsBy p [] = Unit {0}
StopsBy p (c ∷ cs) = p c ≡ false

run_of_word : (p : ℕ → Bool) (cs rest : List ℕ) → list_all p cs ≡ true → StopsBy p rest → (run_of p (cs ++ rest) ≡ cs) × (behind_run p (cs ++ rest) ≡ rest)
run_of_word p cs [] h s = run_ended p cs h
run_of_word p cs (c ∷ rest) h s = run_stopped p cs c rest h s

-- a sign's text
the_text : (word text : List ℕ) → bytes_eq word text ≡ true → word ≡ text
the_text word text h = same_text word text (sym h)

stops_run : (p : ℕ → Bool) (rest : List ℕ) (kind : TokenKind) → ((c : ℕ) → goes_on kind c ≡ p c) → stops kind rest ≡ true → StopsBy p rest
stops_run p [] kind e s = tt
stops_run p (c ∷ rest) kind e s = sym (e c) ∙ not-true _ s

colon_found : (rest : List ℕ) → stops Colon rest ≡ true → (let t : Option Scanned = Some (colon_at rest) in t) ≡ it Colon (58 ∷ []) rest
colon_found [] s = refl
colon_found (c ∷ rest) s =
    ap (λ (y : Bool). let t : Option Scanned = Some (if y then record { kind = Becomes; spelling = 58 ∷ 61 ∷ []; rest = rest } else record { kind = Colon; spelling = 58 ∷ []; rest = c ∷ rest }) in t) (not-true _ s)

-- a sign that is one character, by its text
abbrev IsFound : TokenKind → List ℕ → List ℕ → Type 0
IsFound kind word rest = token_at (word ++ rest) ≡ it kind word rest

sign_found : (kind : TokenKind) (word text rest : List ℕ) → bytes_eq word text ≡ true → IsFound kind text rest → IsFound kind word rest
sign_found kind word text rest h f = subst (λ (w : List ℕ). IsFound kind w rest) (sym (the_text word text h)) f

pub spelt_found : (kind : TokenKind) (word rest : List ℕ) → is_spelt kind word ≡ true → stops kind rest ≡ true → token_at (word ++ rest) ≡ Some (record { kind = kind; spelling = word; rest = rest })
spelt_found Name [] rest h s = absurd (cc h)
spelt_found Name (c ∷ cs) rest h s =
    let both = and_parts _ _ h in
    name_found c (cs ++ rest) both.0 ∙ run_found Name (c ∷ []) is_xid_continue cs rest both.1 (run_of_word is_xid_continue cs rest both.1 (stops_run is_xid_continue rest Name (λ x. refl) s))
spelt_found TypeVariable [] rest h s = absurd (cc h)
spelt_found TypeVariable (q ∷ []) rest h s = absurd (cc (and_parts (q == 39) false h).1)
spelt_found TypeVariable (q ∷ c ∷ cs) rest h s =
    let quote = eqb-true q 39 (and_parts _ _ h).0 in
    let both = and_parts _ _ (and_parts _ _ h).1 in
    subst (λ (x : ℕ). IsFound TypeVariable (x ∷ c ∷ cs) rest) (sym quote)
    (variable_found c (cs ++ rest) both.0 ∙ run_found TypeVariable (39 ∷ c ∷ []) is_xid_continue cs rest both.1 (run_of_word is_xid_continue cs rest both.1 (stops_run is_xid_continue rest TypeVariable (λ x. refl) s)))
spelt_found Number [] rest h s = absurd (cc h)
spelt_found Number (c ∷ cs) rest h s =
    let both = and_parts _ _ h in
    number_found c (cs ++ rest) both.0 ∙ run_found Number (c ∷ []) is_ascii_digit cs rest both.1 (run_of_word is_ascii_digit cs rest both.1 (stops_run is_ascii_digit rest Number (λ x. refl) s))
spelt_found Open word rest h s = sign_found Open word (codes "(") rest h (other_found 40 rest (starts_name-ascii 40 (lit< tt)) refl)
spelt_found Close word rest h s = sign_found Close word (codes ")") rest h (other_found 41 rest (starts_name-ascii 41 (lit< tt)) refl)
spelt_found OpenSquare word rest h s = sign_found OpenSquare word (codes "[") rest h (other_found 91 rest (starts_name-ascii 91 (lit< tt)) refl)
spelt_found CloseSquare word rest h s = sign_found CloseSquare word (codes "]") rest h (other_found 93 rest (starts_name-ascii 93 (lit< tt)) refl)
spelt_found OpenBrace word rest h s = sign_found OpenBrace word (codes "{") rest h (other_found 123 rest (starts_name-ascii 123 (lit< tt)) refl)
spelt_found CloseBrace word rest h s = sign_found CloseBrace word (codes "}") rest h (other_found 125 rest (starts_name-ascii 125 (lit< tt)) refl)
spelt_found Semicolon word rest h s = sign_found Semicolon word (codes ";") rest h (other_found 59 rest (starts_name-ascii 59 (lit< tt)) refl)
spelt_found Colon word rest h s = sign_found Colon word (codes ":") rest h (other_found 58 rest (starts_name-ascii 58 (lit< tt)) refl ∙ colon_found rest s)
spelt_found Becomes word rest h s = sign_found Becomes word (codes ":=") rest h (other_found 58 (61 ∷ rest) (starts_name-ascii 58 (lit< tt)) refl)
spelt_found Dollar word rest h s = sign_found Dollar word (codes "$") rest h (other_found 36 rest (starts_name-ascii 36 (lit< tt)) refl)
spelt_found Percent word rest h s = sign_found Percent word (codes "%") rest h (other_found 37 rest (starts_name-ascii 37 (lit< tt)) refl)
spelt_found Backslash word rest h s = sign_found Backslash word (codes "\\") rest h (other_found 92 rest (starts_name-ascii 92 (lit< tt)) refl)

-- ---- no longer front is a token

-- a token is found, and it is no shorter
abbrev Reaches : Option Scanned → ℕ → Type 0
Reaches None n = ⊥
Reaches (Some t) n = n ≤ length t.spelling

reaches : (o o' : Option Scanned) (n : ℕ) → o ≡ o' → Reaches o' n → Reaches o n
reaches o o' n e h = subst (λ (x : Option Scanned). Reaches x n) (sym e) h

sign_reaches : (word text rest : List ℕ) → bytes_eq word text ≡ true → Reaches (token_at (text ++ rest)) (length text) → Reaches (token_at (word ++ rest)) (length word)
sign_reaches word text rest h r = subst (λ (w : List ℕ). Reaches (token_at (w ++ rest)) (length w)) (sym (the_text word text h)) r

colon_reaches : (rest : List ℕ) → Reaches (Some (colon_at rest)) 1
colon_reaches [] = omega arith
colon_reaches (c ∷ rest) = by (c == 61)
  where
    by : (y : Bool) → Reaches (Some (if y then record { kind = Becomes; spelling = 58 ∷ 61 ∷ []; rest = rest } else record { kind = Colon; spelling = 58 ∷ []; rest = c ∷ rest })) 1
    by true = omega arith
    by false = omega arith

-- one sign, of one character, is found
one_reaches : (c : ℕ) (rest : List ℕ) → starts_name c ≡ false → is_ascii_digit c ≡ false → Reaches (by_tests false false c rest) 1 → Reaches (token_at (c ∷ rest)) 1
one_reaches c rest h d r = reaches _ _ 1 (other_found c rest h d) r

spelt_reaches : (kind : TokenKind) (word rest : List ℕ) → is_spelt kind word ≡ true → Reaches (token_at (word ++ rest)) (length word)
spelt_reaches Name [] rest h = absurd (cc h)
spelt_reaches Name (c ∷ cs) rest h =
    let both = and_parts _ _ h in
    reaches _ _ _ (name_found c (cs ++ rest) both.0) (omega (arith, run_longest is_xid_continue cs rest both.1))
spelt_reaches TypeVariable [] rest h = absurd (cc h)
spelt_reaches TypeVariable (q ∷ []) rest h = absurd (cc (and_parts (q == 39) false h).1)
spelt_reaches TypeVariable (q ∷ c ∷ cs) rest h =
    let quote = eqb-true q 39 (and_parts _ _ h).0 in
    let both = and_parts _ _ (and_parts _ _ h).1 in
    subst (λ (x : ℕ). Reaches (token_at (x ∷ c ∷ (cs ++ rest))) (length (x ∷ c ∷ cs))) (sym quote)
    (reaches _ _ _ (variable_found c (cs ++ rest) both.0) (omega (arith, run_longest is_xid_continue cs rest both.1)))
spelt_reaches Number [] rest h = absurd (cc h)
spelt_reaches Number (c ∷ cs) rest h =
    let both = and_parts _ _ h in
    reaches _ _ _ (number_found c (cs ++ rest) both.0) (omega (arith, run_longest is_ascii_digit cs rest both.1))
spelt_reaches Open word rest h = sign_reaches word (codes "(") rest h (one_reaches 40 rest (starts_name-ascii 40 (lit< tt)) refl (omega arith))
spelt_reaches Close word rest h = sign_reaches word (codes ")") rest h (one_reaches 41 rest (starts_name-ascii 41 (lit< tt)) refl (omega arith))
spelt_reaches OpenSquare word rest h = sign_reaches word (codes "[") rest h (one_reaches 91 rest (starts_name-ascii 91 (lit< tt)) refl (omega arith))
spelt_reaches CloseSquare word rest h = sign_reaches word (codes "]") rest h (one_reaches 93 rest (starts_name-ascii 93 (lit< tt)) refl (omega arith))
spelt_reaches OpenBrace word rest h = sign_reaches word (codes "{") rest h (one_reaches 123 rest (starts_name-ascii 123 (lit< tt)) refl (omega arith))
spelt_reaches CloseBrace word rest h = sign_reaches word (codes "}") rest h (one_reaches 125 rest (starts_name-ascii 125 (lit< tt)) refl (omega arith))
spelt_reaches Semicolon word rest h = sign_reaches word (codes ";") rest h (one_reaches 59 rest (starts_name-ascii 59 (lit< tt)) refl (omega arith))
spelt_reaches Colon word rest h = sign_reaches word (codes ":") rest h (one_reaches 58 rest (starts_name-ascii 58 (lit< tt)) refl (colon_reaches rest))
spelt_reaches Becomes word rest h = sign_reaches word (codes ":=") rest h (reaches _ _ 2 (other_found 58 (61 ∷ rest) (starts_name-ascii 58 (lit< tt)) refl) (omega arith))
spelt_reaches Dollar word rest h = sign_reaches word (codes "$") rest h (one_reaches 36 rest (starts_name-ascii 36 (lit< tt)) refl (omega arith))
spelt_reaches Percent word rest h = sign_reaches word (codes "%") rest h (one_reaches 37 rest (starts_name-ascii 37 (lit< tt)) refl (omega arith))
spelt_reaches Backslash word rest h = sign_reaches word (codes "\\") rest h (one_reaches 92 rest (starts_name-ascii 92 (lit< tt)) refl (omega arith))

-- ---- what is found is a front of the text, and spelt as a token of its kind

abbrev pub IsSound : List ℕ → Option Scanned → Type 0
IsSound text None = Unit {0}
IsSound text (Some t) = (text ≡ t.spelling ++ t.rest) × (is_spelt t.kind t.spelling ≡ true)

choose : (y : Bool) (text : List ℕ) (a b : Option Scanned) → (y ≡ true → IsSound text a) → (y ≡ false → IsSound text b) → IsSound text (if y then a else b)
choose true text a b h k = h refl
choose false text a b h k = k refl

variable_sound : (c : ℕ) (cs : List ℕ) → c ≡ 39 → IsSound (c ∷ cs) (variable_at cs)
variable_sound c [] e = tt
variable_sound c (d ∷ cs) e =
    choose (starts_name d) (c ∷ d ∷ cs) (Some (run_at TypeVariable (39 ∷ d ∷ []) is_xid_continue cs)) None
    (λ h. (λ i. e i ∷ d ∷ run_whole is_xid_continue cs i, and_from _ _ h (run_passes is_xid_continue cs)))
    (λ h. tt)

colon_sound : (c : ℕ) (cs : List ℕ) → c ≡ 58 → IsSound (c ∷ cs) (Some (colon_at cs))
colon_sound c [] e = (λ i. e i ∷ [], refl)
colon_sound c (d ∷ cs) e = by (d == 61) refl
  where
    by : (y : Bool) → (d == 61) ≡ y
        → IsSound (c ∷ d ∷ cs) (Some (if y then record { kind = Becomes; spelling = 58 ∷ 61 ∷ []; rest = cs } else record { kind = Colon; spelling = 58 ∷ []; rest = d ∷ cs }))
    by true h = let f = eqb-true d 61 h in (λ i. e i ∷ f i ∷ cs, refl)
    by false h = (λ i. e i ∷ d ∷ cs, refl)

-- the kind is spelt by this one character
abbrev SignIs : ℕ → Option TokenKind → Type 0
SignIs c None = Unit {0}
SignIs c (Some kind) = is_spelt kind (c ∷ []) ≡ true

sign_choose : (y : Bool) (c : ℕ) (a b : Option TokenKind) → (y ≡ true → SignIs c a) → SignIs c b → SignIs c (if y then a else b)
sign_choose true c a b h k = h refl
sign_choose false c a b h k = k

sign_is : (c : ℕ) → SignIs c (sign_of c)
sign_is c =
    sign_choose (c == 40) c (Some Open) _ (λ e. and_from _ _ e refl)
    (sign_choose (c == 41) c (Some Close) _ (λ e. and_from _ _ e refl)
    (sign_choose (c == 91) c (Some OpenSquare) _ (λ e. and_from _ _ e refl)
    (sign_choose (c == 93) c (Some CloseSquare) _ (λ e. and_from _ _ e refl)
    (sign_choose (c == 123) c (Some OpenBrace) _ (λ e. and_from _ _ e refl)
    (sign_choose (c == 125) c (Some CloseBrace) _ (λ e. and_from _ _ e refl)
    (sign_choose (c == 59) c (Some Semicolon) _ (λ e. and_from _ _ e refl)
    (sign_choose (c == 36) c (Some Dollar) _ (λ e. and_from _ _ e refl)
    (sign_choose (c == 37) c (Some Percent) _ (λ e. and_from _ _ e refl)
    (sign_choose (c == 92) c (Some Backslash) None (λ e. and_from _ _ e refl) tt)))))))))

sign_sound : (o : Option TokenKind) (c : ℕ) (cs : List ℕ) → SignIs c o → IsSound (c ∷ cs) (sign_at o c cs)
sign_sound None c cs h = tt
sign_sound (Some kind) c cs h = (refl, h)

pub token_sound : (text : List ℕ) → IsSound text (token_at text)
token_sound [] = tt
token_sound (c ∷ cs) =
    choose (starts_name c) (c ∷ cs) (Some (run_at Name (c ∷ []) is_xid_continue cs)) _
    (λ h. (λ i. c ∷ run_whole is_xid_continue cs i, and_from _ _ h (run_passes is_xid_continue cs)))
    (λ _. choose (is_ascii_digit c) (c ∷ cs) (Some (run_at Number (c ∷ []) is_ascii_digit cs)) _
    (λ h. (λ i. c ∷ run_whole is_ascii_digit cs i, and_from _ _ h (run_passes is_ascii_digit cs)))
    (λ _. choose (c == 39) (c ∷ cs) (variable_at cs) _ (λ e. variable_sound c cs (eqb-true c 39 e))
    (λ _. choose (c == 58) (c ∷ cs) (Some (colon_at cs)) _ (λ e. colon_sound c cs (eqb-true c 58 e))
    (λ _. sign_sound (sign_of c) c cs (sign_is c)))))

-- ---- together

abbrev kind_or : TokenKind → Option Scanned → TokenKind
kind_or k None = k
kind_or k (Some t) = t.kind

-- one text is spelt as one kind
one_kind : (k l : TokenKind) (word : List ℕ) → is_spelt k word ≡ true → is_spelt l word ≡ true → k ≡ l
one_kind k l word h g = ap (kind_or k) (sym (spelt_found k word [] h refl) ∙ spelt_found l word [] g refl)

by_answer : (text : List ℕ) (o : Option Scanned) → IsSound text o → ((kind : TokenKind) (word rest : List ℕ) → text ≡ word ++ rest → is_spelt kind word ≡ true → Reaches o (length word))
    → MatchOption o (NoToken text) (λ t. IsLongest text t)
by_answer text None s r = r
by_answer text (Some t) s r = record { front = s.0; spelt = s.1; longest = r; only = λ kind h. one_kind kind t.kind t.spelling h s.1 }

pub longest_found : (text : List ℕ) → MatchOption (token_at text) (NoToken text) (λ t. IsLongest text t)
longest_found text =
    by_answer text (token_at text) (token_sound text)
    (λ kind word rest e h. subst (λ (x : List ℕ). Reaches (token_at x) (length word)) (sym e) (spelt_reaches kind word rest h))
