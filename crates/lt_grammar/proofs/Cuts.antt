-- Printed text is cut into the lexemes of the way of writing that is printed.
use Rattle.std.proofs.Common.{lit<, ◌≡◌, ℕ, ◌+◌, ◌<◌, ◌≤◌, ◌∙◌, ap, sym, refl, subst, Bool, true, false, List, [], ◌∷◌, ◌++◌, length, codes, arith, append_assoc}
use Rattle.std.specs.Prelude.{if◌then◌else◌, ◌&&◌, ◌||◌, ◌==◌, not, ◌^◌}
use Rattle.std.specs.List.{list_all}
use Rattle.std.specs.Fmt.{decimal}
use Rattle.std.specs.Char.{is_ascii_alphanumeric}
use Rattle.std.specs.Int.{is_in_range}
use Rattle.std.specs.Str.Parse.{AllDigits}
use Rattle.std.proofs.lemmas.Fmt.{decimal_is_IsNumeral}
use Rattle.std.proofs.lemmas.Str.Parse.{digit_from_value}
use Rattle.std.proofs.lemmas.Bool.{and_parts, and_from, ne_eqb, le-leb}
use Rattle.unicode_ident.specs.Ident.{is_xid_continue}
use Rattle.unicode_ident.proofs.IdentLemmas.{is_xid_continue-ascii}
use Rattle.lt_texts.specs.declared.lexical.TokenKind.{TokenKind}
use Rattle.lt_texts.specs.declared.lexical.TokenKind.TheVariants.{Name, TypeVariable, Open, Close, OpenSquare, CloseSquare, Dollar, Percent, Backslash}
use Rattle.lt_definitions.specs.Types.{Chars, TypeTree, TypeTrees, type_variable, type_constructor, no_types, type_and, row}
use Rattle.lt_definitions.specs.Terms.{TermTree, free_variable, bound_name, constant, application, abstraction, has_loose}
use Rattle.lt_definitions.specs.Characters.{is_white, starts_name, is_name, behind_gap}
use Rattle.lt_texts.specs.Spelling.{is_spelt, stops}
use Rattle.lt_texts.specs.Gaps.{begins_none}
use Rattle.lt_texts.specs.Texts.{Left}
use Rattle.lt_texts.specs.Lexemes.{Lexeme, a_name, a_variable, a_sign, lexeme, Spans}
use Rattle.lt_definitions.specs.Printing.{printed_type, printed_types, printed_constant, printed_later_arguments, printed_bound, printed_part, printed_term}
use Rattle.lt_texts.proofs.CharacterRuns.{starts_name-ascii}
use Rattle.lt_texts.proofs.GapLemmas.{gap_exact}
use Rattle.lt_texts.proofs.NextTokens.{spelt_read}
use Rattle.lt_texts.specs.Writing.{type_lexemes, types_lexemes, arguments_lexemes, TermText, bound, free, lambda, TermTexts, no_more_terms, more_terms, term_lexemes, terms_lexemes}
use Rattle.lt_texts.specs.Named.{IsTypeNamed, AreTypesNamed, IsNamed, binder_count}
use Rattle.lt_grammar.proofs.OneWay.{IsClear, type_clear, term_clear}
use Rattle.lt_grammar.proofs.Shown.{name_at, shown, IsBoundIn, printed_at, or_left, or_right, own_name, bound_body}

-- the first lexeme of some characters, and those behind it
pub record Cut (cs : List ℕ) (w : Lexeme) (rest : List ℕ) : Type 0 where
  pub kind : TokenKind
  pub word : List ℕ
  pub gap : behind_gap false cs ≡ word ++ rest
  pub spelt : is_spelt kind word ≡ true
  pub stops : stops kind rest ≡ true
  pub same : w ≡ lexeme kind word

-- the characters are cut into these lexemes, and the rest
unfoldable pub Cuts : List ℕ → List Lexeme → List ℕ → Type 0
Cuts cs [] rest = cs ≡ rest
Cuts cs (w ∷ ws) rest = (more : List ℕ) × Cut cs w more × Cuts more ws rest

pub nothing_cut : (rest : List ℕ) → Cuts rest [] rest
unfolding Cuts
nothing_cut rest = refl

-- what is cut so is read so
pub cuts_spans : (s : Left) (ws : List Lexeme) (rest : List ℕ) → Cuts s.ahead ws rest → Spans s ws (record s { ahead = rest })
unfolding Cuts
cuts_spans s [] rest e = λ i. record s { ahead = sym e i }
cuts_spans s (w ∷ ws) rest (more, c, l) =
    let n = spelt_read s c.kind c.word more ((gap_exact s.ahead (c.word ++ more)).1 c.gap) c.spelt c.stops in (
      record { placed = _; found = n.token; same = c.same ∙ ap (lexeme c.kind) (sym n.spelling) },
      subst (λ (x : Left). Spans x ws (record s { ahead = rest })) (sym n.after) (cuts_spans (record s { ahead = more }) ws rest l),
    )

-- ---- single lexemes

other : (d k : ℕ) → starts_name d ≡ true → starts_name k ≡ false → (d == k) ≡ false
other d k h n = ne_eqb d k (λ e. let clash : true ≡ false = sym h ∙ ap starts_name e ∙ n in absurd (cc clash))

name-begins : (d : ℕ) (cs : List ℕ) → starts_name d ≡ true → begins_none (d ∷ cs) ≡ true
name-begins d cs h = λ i. not (other d 35 h (starts_name-ascii 35 (lit< tt)) i || (other d 32 h (starts_name-ascii 32 (lit< tt)) i
    || (other d 9 h (starts_name-ascii 9 (lit< tt)) i || (other d 13 h (starts_name-ascii 13 (lit< tt)) i || other d 10 h (starts_name-ascii 10 (lit< tt)) i))))

pub passed : (rest : List ℕ) → begins_none rest ≡ true → behind_gap false rest ≡ rest
passed [] h = refl
passed (c ∷ cs) h = by (c == 35) (is_white c) h
  where
    by : (y w : Bool) → not (y || w) ≡ true → (if y then behind_gap true cs else (if w then behind_gap false cs else (c ∷ cs))) ≡ c ∷ cs
    by false false h = refl
    by _ _ h = absurd (cc h)

pub name-gap : (c cs : List ℕ) → is_name c ≡ true → behind_gap false (c ++ cs) ≡ c ++ cs
name-gap [] cs h = absurd (cc h)
name-gap (d ∷ ds) cs h = passed (d ∷ (ds ++ cs)) (name-begins d (ds ++ cs) (and_parts _ _ h).0)

pub cut_name : (c cs : List ℕ) (ws : List Lexeme) (rest : List ℕ) → is_name c ≡ true → stops Name cs ≡ true → Cuts cs ws rest → Cuts (c ++ cs) (a_name c ∷ ws) rest
unfolding Cuts
cut_name c cs ws rest h k l = (cs, record { kind = Name; word = c; gap = name-gap c cs h; spelt = h; stops = k; same = refl }, l)

stops-variable : (cs : List ℕ) → stops Name cs ≡ true → stops TypeVariable cs ≡ true
stops-variable [] k = refl
stops-variable (c ∷ cs) k = k

pub cut_variable : (a cs : List ℕ) (ws : List Lexeme) (rest : List ℕ) → is_name a ≡ true → stops Name cs ≡ true → Cuts cs ws rest → Cuts (39 ∷ (a ++ cs)) (a_variable a ∷ ws) rest
unfolding Cuts
cut_variable a cs ws rest h k l = (cs, record { kind = TypeVariable; word = 39 ∷ a; gap = refl; spelt = h; stops = stops-variable cs k; same = refl }, l)

-- a sign of one character
abbrev pub IsSign : TokenKind → ℕ → Type 0
IsSign kind c = ((cs : List ℕ) → behind_gap false (c ∷ cs) ≡ c ∷ cs) × (is_spelt kind (c ∷ []) ≡ true) × ((cs : List ℕ) → stops kind cs ≡ true) × (a_sign kind ≡ lexeme kind (c ∷ []))

pub cut-sign : (kind : TokenKind) (c : ℕ) → IsSign kind c → (cs : List ℕ) (ws : List Lexeme) (rest : List ℕ) → Cuts cs ws rest → Cuts (c ∷ cs) (a_sign kind ∷ ws) rest
unfolding Cuts
cut-sign kind c k cs ws rest l = (cs, record { kind = kind; word = c ∷ []; gap = k.0 cs; spelt = k.1; stops = k.2 cs; same = k.3 }, l)

open-stops : (cs : List ℕ) → stops Open cs ≡ true
open-stops [] = refl
open-stops (c ∷ cs) = refl

close-stops : (cs : List ℕ) → stops Close cs ≡ true
close-stops [] = refl
close-stops (c ∷ cs) = refl

open-square-stops : (cs : List ℕ) → stops OpenSquare cs ≡ true
open-square-stops [] = refl
open-square-stops (c ∷ cs) = refl

close-square-stops : (cs : List ℕ) → stops CloseSquare cs ≡ true
close-square-stops [] = refl
close-square-stops (c ∷ cs) = refl

dollar-stops : (cs : List ℕ) → stops Dollar cs ≡ true
dollar-stops [] = refl
dollar-stops (c ∷ cs) = refl

percent-stops : (cs : List ℕ) → stops Percent cs ≡ true
percent-stops [] = refl
percent-stops (c ∷ cs) = refl

backslash-stops : (cs : List ℕ) → stops Backslash cs ≡ true
backslash-stops [] = refl
backslash-stops (c ∷ cs) = refl

open-sign : IsSign Open 40
open-sign = (λ cs. refl, refl, open-stops, refl)

close-sign : IsSign Close 41
close-sign = (λ cs. refl, refl, close-stops, refl)

open-square : IsSign OpenSquare 91
open-square = (λ cs. refl, refl, open-square-stops, refl)

close-square : IsSign CloseSquare 93
close-square = (λ cs. refl, refl, close-square-stops, refl)

dollar : IsSign Dollar 36
dollar = (λ cs. refl, refl, dollar-stops, refl)

percent : IsSign Percent 37
percent = (λ cs. refl, refl, percent-stops, refl)

backslash : IsSign Backslash 92
backslash = (λ cs. refl, refl, backslash-stops, refl)

-- a space before a lexeme
pub spaced : (cs : List ℕ) (ws : List Lexeme) (rest : List ℕ) → IsClear ws → Cuts cs ws rest → Cuts (32 ∷ cs) ws rest
unfolding Cuts
spaced cs [] rest n l = absurd n
spaced cs (w ∷ ws) rest n (more, c, l) = (more, record { kind = c.kind; word = c.word; gap = c.gap; spelt = c.spelt; stops = c.stops; same = c.same }, l)

-- what doesn't go on a name
pub stops-at : (c : ℕ) (cs : List ℕ) → c < 128 → (is_ascii_alphanumeric c || (c == 95)) ≡ false → stops Name (c ∷ cs) ≡ true
stops-at c cs m h = ap not (is_xid_continue-ascii c m ∙ h)

abbrev pub Stopped : List ℕ → Type 0
Stopped cs = stops Name cs ≡ true

pub space-stops : (cs : List ℕ) → Stopped (32 ∷ cs)
space-stops cs = stops-at 32 cs (lit< tt) refl

close-ends : (cs : List ℕ) → Stopped (41 ∷ cs)
close-ends cs = stops-at 41 cs (lit< tt) refl

open-square-ends : (cs : List ℕ) → Stopped (91 ∷ cs)
open-square-ends cs = stops-at 91 cs (lit< tt) refl

close-square-ends : (cs : List ℕ) → Stopped (93 ∷ cs)
close-square-ends cs = stops-at 93 cs (lit< tt) refl

-- ---- types

-- a written thing is cut into its lexemes, whatever is behind it, where that doesn't go on a name
abbrev pub Cutting : List ℕ → (List Lexeme → List Lexeme) → Type 0
Cutting text f = (cs : List ℕ) (ws : List Lexeme) (rest : List ℕ) → Stopped cs → Cuts cs ws rest → Cuts (text ++ cs) (f ws) rest

types-stop : (ts : TypeTrees) (cs : List ℕ) → Stopped cs → Stopped (printed_types ts ++ cs)
types-stop no_types cs k = k
types-stop (type_and t ts) cs k = space-stops ((printed_type t ++ printed_types ts) ++ cs)

-- types behind spaces, before what is clear
abbrev Spaced : List ℕ → (List Lexeme → List Lexeme) → Type 0
Spaced text f = (cs : List ℕ) (ws : List Lexeme) (rest : List ℕ) → Stopped cs → Cuts cs ws rest → Cuts (text ++ cs) (f ws) rest

mutual
  pub cut_type : (t : TypeTree) → IsTypeNamed t → Cutting (printed_type t) (type_lexemes t)
  cut_type (type_variable a) n cs ws rest k l = cut_variable a cs ws rest n.0 k l
  cut_type (type_constructor c no_types) n cs ws rest k l = cut_name c cs ws rest n.0.0 k l
  cut_type (type_constructor c (type_and t ts)) n cs ws rest k l =
      let tail : List ℕ = 41 ∷ cs in
      let more : Cuts tail (a_sign Close ∷ ws) rest = cut-sign Close 41 close-sign cs ws rest l in
      let args : Cuts (printed_types ts ++ tail) (types_lexemes ts (a_sign Close ∷ ws)) rest = cut_types ts n.1.1 tail (a_sign Close ∷ ws) rest (close-ends cs) more in
      let first : Cuts (printed_type t ++ (printed_types ts ++ tail)) (type_lexemes t (types_lexemes ts (a_sign Close ∷ ws))) rest = cut_type t n.1.0 _ _ rest (types-stop ts tail (close-ends cs)) args in
      let spaced_first : Cuts (32 ∷ (printed_type t ++ (printed_types ts ++ tail))) (type_lexemes t (types_lexemes ts (a_sign Close ∷ ws))) rest = spaced _ _ rest (type_clear t _) first in
      let named : Cuts (c ++ (32 ∷ (printed_type t ++ (printed_types ts ++ tail)))) (a_name c ∷ type_lexemes t (types_lexemes ts (a_sign Close ∷ ws))) rest = cut_name c _ _ rest n.0.0 (space-stops []) spaced_first in
      subst (λ (z : List ℕ). Cuts z (a_sign Open ∷ a_name c ∷ type_lexemes t (types_lexemes ts (a_sign Close ∷ ws))) rest)
      (sym (ap (λ (z : List ℕ). 40 ∷ z) (append_assoc c _ cs
      ∙ ap (λ (z : List ℕ). c ++ (32 ∷ z)) (append_assoc (printed_type t) (printed_types ts ++ codes ")") cs
      ∙ ap (λ (z : List ℕ). printed_type t ++ z) (append_assoc (printed_types ts) (codes ")") cs)))))
      (cut-sign Open 40 open-sign _ _ rest named)

  cut_types : (ts : TypeTrees) → AreTypesNamed ts → Cutting (printed_types ts) (types_lexemes ts)
  cut_types no_types n cs ws rest k l = l
  cut_types (type_and t ts) n cs ws rest k l =
      let later : Cuts (printed_types ts ++ cs) (types_lexemes ts ws) rest = cut_types ts n.1 cs ws rest k l in
      let first : Cuts (printed_type t ++ (printed_types ts ++ cs)) (type_lexemes t (types_lexemes ts ws)) rest = cut_type t n.0 _ _ rest (types-stop ts cs k) later in
      subst (λ (z : List ℕ). Cuts z (type_lexemes t (types_lexemes ts ws)) rest)
      (ap (λ (z : List ℕ). 32 ∷ z) (sym (append_assoc (printed_type t) (printed_types ts) cs)))
      (spaced _ _ rest (type_clear t _) first)

-- ---- terms

later-stop : (ts : List TypeTree) (cs : List ℕ) → Stopped (printed_later_arguments ts ++ cs)
later-stop [] cs = close-square-ends cs
later-stop (t ∷ ts) cs = space-stops ((printed_type t ++ printed_later_arguments ts) ++ cs)

cut-later : (ts : List TypeTree) → AreTypesNamed (row ts) → (cs : List ℕ) (ws : List Lexeme) (rest : List ℕ) → Cuts cs ws rest
    → Cuts (printed_later_arguments ts ++ cs) (types_lexemes (row ts) (a_sign CloseSquare ∷ ws)) rest
cut-later [] n cs ws rest l = cut-sign CloseSquare 93 close-square cs ws rest l
cut-later (t ∷ ts) n cs ws rest l =
    let later : Cuts (printed_later_arguments ts ++ cs) (types_lexemes (row ts) (a_sign CloseSquare ∷ ws)) rest = cut-later ts n.1 cs ws rest l in
    let first : Cuts (printed_type t ++ (printed_later_arguments ts ++ cs)) (type_lexemes t (types_lexemes (row ts) (a_sign CloseSquare ∷ ws))) rest = cut_type t n.0 _ _ rest (later-stop ts cs) later in
    subst (λ (z : List ℕ). Cuts z (type_lexemes t (types_lexemes (row ts) (a_sign CloseSquare ∷ ws))) rest)
    (ap (λ (z : List ℕ). 32 ∷ z) (sym (append_assoc (printed_type t) (printed_later_arguments ts) cs)))
    (spaced _ _ rest (type_clear t _) first)

cut-constant : (c : Chars) (ts : List TypeTree) → is_name c ≡ true → AreTypesNamed (row ts) → Cutting (printed_constant c ts) (λ ws. a_name c ∷ arguments_lexemes ts ws)
cut-constant c [] h n cs ws rest k l = cut_name c cs ws rest h k l
cut-constant c (t ∷ ts) h n cs ws rest k l =
    let later : Cuts (printed_later_arguments ts ++ cs) (types_lexemes (row ts) (a_sign CloseSquare ∷ ws)) rest = cut-later ts n.1 cs ws rest l in
    let first : Cuts (printed_type t ++ (printed_later_arguments ts ++ cs)) (type_lexemes t (types_lexemes (row ts) (a_sign CloseSquare ∷ ws))) rest = cut_type t n.0 _ _ rest (later-stop ts cs) later in
    subst (λ (z : List ℕ). Cuts z (a_name c ∷ a_sign OpenSquare ∷ type_lexemes t (types_lexemes (row ts) (a_sign CloseSquare ∷ ws))) rest)
    (sym (append_assoc c _ cs ∙ ap (λ (z : List ℕ). c ++ (91 ∷ z)) (append_assoc (printed_type t) (printed_later_arguments ts) cs)))
    (cut_name c _ _ rest h (open-square-ends []) (cut-sign OpenSquare 91 open-square _ _ rest first))

-- a binder's name by its depth is a name
digits-go-on : (ds : List ℕ) → AllDigits 10 ds → list_all is_xid_continue ds ≡ true
digits-go-on [] a = refl
digits-go-on (c ∷ cs) a =
    let range = digit_from_value c a.0 in
    and_from _ _ (is_xid_continue-ascii c (omega (arith, range.1)) ∙ digit c range.0 range.1) (digits-go-on cs a.1)
  where
    digit : (c : ℕ) → 48 ≤ c → c ≤ 57 → (is_ascii_alphanumeric c || (c == 95)) ≡ true
    digit c low high = ap (λ (z : Bool). ((z || is_in_range 65 90 c) || is_in_range 97 122 c) || (c == 95)) (λ i. le-leb 48 c low i && le-leb c 57 high i)

pub depth_is_name : (d : ℕ) → d < 2 ^ 64 → is_name (name_at d) ≡ true
depth_is_name d h = and_from _ _ (starts_name-ascii 120 (lit< tt)) (digits-go-on (decimal d) (decimal_is_IsNumeral d h).0.1)

-- what a term under binders meets, so that it is read as it is printed
abbrev pub Fits : TermTree → List Chars → Type 0
Fits t bs = IsNamed t × IsBoundIn t bs × (length bs + binder_count t < 2 ^ 64)

cut-free : (x : Chars) (ty : TypeTree) → is_name x ≡ true → IsTypeNamed ty → Cutting (codes "($" ++ (x ++ (codes " " ++ (printed_type ty ++ codes ")")))) (term_lexemes (free x ty))
cut-free x ty h n cs ws rest k l =
    let closed : Cuts (41 ∷ cs) (a_sign Close ∷ ws) rest = cut-sign Close 41 close-sign cs ws rest l in
    let typed : Cuts (printed_type ty ++ 41 ∷ cs) (type_lexemes ty (a_sign Close ∷ ws)) rest = cut_type ty n (41 ∷ cs) (a_sign Close ∷ ws) rest (close-ends cs) closed in
    let named : Cuts (x ++ 32 ∷ (printed_type ty ++ 41 ∷ cs)) (a_name x ∷ type_lexemes ty (a_sign Close ∷ ws)) rest = cut_name x _ _ rest h (space-stops []) (spaced _ _ rest (type_clear ty _) typed) in
    subst (λ (z : List ℕ). Cuts z (term_lexemes (free x ty) ws) rest)
    (ap (λ (z : List ℕ). 40 ∷ 36 ∷ z) (sym (append_assoc x (32 ∷ (printed_type ty ++ codes ")")) cs ∙ ap (λ (z : List ℕ). x ++ 32 ∷ z) (append_assoc (printed_type ty) (codes ")") cs))))
    (cut-sign Open 40 open-sign _ _ rest (cut-sign Dollar 36 dollar _ _ rest named))

cut-bound : (x : Chars) (bs : List Chars) → length bs < 2 ^ 64 → IsBoundIn (bound_name x) bs → Cutting (codes "%" ++ printed_bound x bs) (term_lexemes (bound (printed_bound x bs)))
cut-bound x bs m i cs ws rest k l =
    let p = printed_at bs x (i x (own_name x)) in
    let name : is_name (printed_bound x bs) ≡ true = ap is_name p.2 ∙ depth_is_name p.0 (omega (arith, m, p.1)) in
    cut-sign Percent 37 percent _ _ rest (cut_name (printed_bound x bs) cs ws rest name k l)

cut-lambda : (d : ℕ) (ty : TypeTree) (text : List ℕ) (t : TermText) → d < 2 ^ 64 → IsTypeNamed ty → Cutting text (term_lexemes t)
    → Cutting (codes "(\\x" ++ (decimal d ++ (codes " " ++ (printed_type ty ++ (codes " " ++ (text ++ codes ")")))))) (term_lexemes (lambda (name_at d) ty t))
cut-lambda d ty text t m n body cs ws rest k l =
    let closed : Cuts (41 ∷ cs) (a_sign Close ∷ ws) rest = cut-sign Close 41 close-sign cs ws rest l in
    let inner : Cuts (text ++ 41 ∷ cs) (term_lexemes t (a_sign Close ∷ ws)) rest = body (41 ∷ cs) (a_sign Close ∷ ws) rest (close-ends cs) closed in
    let typed : Cuts (printed_type ty ++ 32 ∷ (text ++ 41 ∷ cs)) (type_lexemes ty (term_lexemes t (a_sign Close ∷ ws))) rest =
    cut_type ty n _ _ rest (space-stops []) (spaced _ _ rest (term_clear t _) inner) in
    let named : Cuts (name_at d ++ 32 ∷ (printed_type ty ++ 32 ∷ (text ++ 41 ∷ cs))) (a_name (name_at d) ∷ type_lexemes ty (term_lexemes t (a_sign Close ∷ ws))) rest =
    cut_name (name_at d) _ _ rest (depth_is_name d m) (space-stops []) (spaced _ _ rest (type_clear ty _) typed) in
    subst (λ (z : List ℕ). Cuts z (term_lexemes (lambda (name_at d) ty t) ws) rest)
    (ap (λ (z : List ℕ). 40 ∷ 92 ∷ 120 ∷ z) (sym (append_assoc (decimal d) (32 ∷ (printed_type ty ++ 32 ∷ (text ++ codes ")"))) cs
    ∙ ap (λ (z : List ℕ). decimal d ++ 32 ∷ z) (append_assoc (printed_type ty) (32 ∷ (text ++ codes ")")) cs
    ∙ ap (λ (z : List ℕ). printed_type ty ++ 32 ∷ z) (append_assoc text (codes ")") cs)))))
    (cut-sign Open 40 open-sign _ _ rest (cut-sign Backslash 92 backslash _ _ rest named))

-- a term as a head with arguments behind it, without the brackets
abbrev inside : TermTree → List Chars → TermTexts → List Lexeme → List Lexeme
inside (application f a) bs args ws = inside f bs (more_terms (shown a bs no_more_terms) args) ws
inside t bs args ws = term_lexemes (shown t bs no_more_terms) (terms_lexemes args ws)

inside-shown : (t : TermTree) (bs : List Chars) (b : TermText) (more : TermTexts) (ws : List Lexeme)
    → term_lexemes (shown t bs (more_terms b more)) ws ≡ a_sign Open ∷ inside t bs (more_terms b more) (a_sign Close ∷ ws)
inside-shown (application f a) bs b more ws = inside-shown f bs (shown a bs no_more_terms) (more_terms b more) ws
inside-shown (free_variable x ty) bs b more ws = refl
inside-shown (bound_name x) bs b more ws = refl
inside-shown (constant c ts) bs b more ws = refl
inside-shown (abstraction x ty t) bs b more ws = refl

abbrev HeadCut : TermTree → Type 0
HeadCut t = (bs : List Chars) (args : TermTexts) → Fits t bs → (cs : List ℕ) (ws : List Lexeme) (rest : List ℕ) → Stopped cs → Cuts cs (terms_lexemes args ws) rest
    → Cuts (printed_part true bs t ++ cs) (inside t bs args ws) rest

abbrev TermCut : TermTree → Type 0
TermCut t = (bs : List Chars) → Fits t bs → Cutting (printed_part false bs t) (term_lexemes (shown t bs no_more_terms))

term-from : (t : TermTree) → HeadCut t → TermCut t
term-from (application f a) h bs g cs ws rest k l =
    let closed : Cuts (41 ∷ cs) (a_sign Close ∷ ws) rest = cut-sign Close 41 close-sign cs ws rest l in
    let inner : Cuts (printed_part true bs (application f a) ++ 41 ∷ cs) (inside (application f a) bs no_more_terms (a_sign Close ∷ ws)) rest =
    h bs no_more_terms g (41 ∷ cs) (a_sign Close ∷ ws) rest (close-ends cs) closed in
    subst (λ (z : List Lexeme). Cuts (printed_part false bs (application f a) ++ cs) z rest) (sym (inside-shown f bs (shown a bs no_more_terms) no_more_terms ws))
    (subst (λ (z : List ℕ). Cuts z (a_sign Open ∷ inside (application f a) bs no_more_terms (a_sign Close ∷ ws)) rest)
    (ap (λ (z : List ℕ). 40 ∷ z) (sym (append_assoc (printed_part true bs (application f a)) (codes ")") cs)))
    (cut-sign Open 40 open-sign _ _ rest inner))
term-from (free_variable x ty) h bs g cs ws rest k l = h bs no_more_terms g cs ws rest k l
term-from (bound_name x) h bs g cs ws rest k l = h bs no_more_terms g cs ws rest k l
term-from (constant c ts) h bs g cs ws rest k l = h bs no_more_terms g cs ws rest k l
term-from (abstraction x ty t) h bs g cs ws rest k l = h bs no_more_terms g cs ws rest k l

head-cut : (t : TermTree) → HeadCut t
head-cut (free_variable x ty) bs args g cs ws rest k l = cut-free x ty g.0.0.0 g.0.1 cs (terms_lexemes args ws) rest k l
head-cut (bound_name x) bs args g cs ws rest k l = cut-bound x bs (let m = g.2 in omega (arith, m)) g.1 cs (terms_lexemes args ws) rest k l
head-cut (constant c ts) bs args g cs ws rest k l = cut-constant c ts g.0.0.0 g.0.1 cs (terms_lexemes args ws) rest k l
head-cut (application f a) bs args g cs ws rest k l =
    let m = g.2 in
    let second : Cuts (printed_part false bs a ++ cs) (term_lexemes (shown a bs no_more_terms) (terms_lexemes args ws)) rest =
    term-from a (head-cut a) bs (g.0.1, λ x u. g.1 x (or_right (has_loose x f) (has_loose x a) u), omega (arith, m)) cs (terms_lexemes args ws) rest k l in
    subst (λ (z : List ℕ). Cuts z (inside (application f a) bs args ws) rest) (sym (append_assoc (printed_part true bs f) (codes " " ++ printed_part false bs a) cs))
    (head-cut f bs (more_terms (shown a bs no_more_terms) args) (g.0.0, λ x u. g.1 x (or_left (has_loose x f) (has_loose x a) u), omega (arith, m)) _ ws rest (space-stops [])
    (spaced _ _ rest (term_clear (shown a bs no_more_terms) _) second))
head-cut (abstraction x ty t) bs args g cs ws rest k l =
    let m = g.2 in
    cut-lambda (length bs) ty (printed_part false (x ∷ bs) t) (shown t (x ∷ bs) no_more_terms) (omega (arith, m)) g.0.0
    (term-from t (head-cut t) (x ∷ bs) (g.0.1, bound_body x ty t bs g.1, omega (arith, m))) cs (terms_lexemes args ws) rest k l

pub cut_term : (t : TermTree) (bs : List Chars) → Fits t bs → Cutting (printed_term bs t) (term_lexemes (shown t bs no_more_terms))
cut_term t bs g = term-from t (head-cut t) bs g
