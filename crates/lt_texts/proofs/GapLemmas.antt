-- What is behind white space and comments is what they lead to.
use Rattle.std.proofs.Common.{◌≡◌, ◌↔◌, ℕ, ◌∙◌, ap, sym, subst, refl, Bool, true, false, List, [], ◌∷◌, ◌++◌, not}
use Rattle.std.specs.Prelude.{if◌then◌else◌, ◌==◌, ◌||◌}
use Rattle.std.proofs.lemmas.Bool.{and_parts, and_from, or_parts, or_right, eqb-true, not-true}
use Rattle.std.specs.List.{list_all}
use Rattle.lt_definitions.specs.Characters.{is_white, behind_gap}
use Rattle.lt_texts.specs.Gaps.{Blank, white, comment, with_gap, ends_line, IsGap, begins_none, IsPast}

-- ---- a gap is passed

passed_none : (rest : List ℕ) → begins_none rest ≡ true → behind_gap false rest ≡ rest
passed_none [] h = refl
passed_none (c ∷ cs) h =
    let none = or_parts (c == 35) (is_white c) (not-true _ h) in
    (λ i. if none.0 i then behind_gap true cs else (if none.1 i then behind_gap false cs else (c ∷ cs)))

-- a number sign is not white
white_by : (y : Bool) (c : ℕ) (cs : List ℕ) → (c == 35) ≡ y → is_white c ≡ true → (if y then behind_gap true cs else behind_gap false cs) ≡ behind_gap false cs
white_by true c cs e h = absurd (cc (h, ap is_white (eqb-true c 35 e)))
white_by false c cs e h = refl

passed_white : (c : ℕ) (cs : List ℕ) → is_white c ≡ true → behind_gap false (c ∷ cs) ≡ behind_gap false cs
passed_white c cs h =
    ap (λ (w : Bool). if c == 35 then behind_gap true cs else (if w then behind_gap false cs else (c ∷ cs))) h ∙ white_by (c == 35) c cs refl h

passed_words : (words rest : List ℕ) → list_all (λ c. not (c == 10)) words ≡ true → behind_gap true (words ++ rest) ≡ behind_gap true rest
passed_words [] rest h = refl
passed_words (c ∷ words) rest h =
    let both = and_parts (not (c == 10)) (list_all (λ c. not (c == 10)) words) h in
    ap (λ (y : Bool). behind_gap y (words ++ rest)) both.0 ∙ passed_words words rest both.1

passed_line : (rest : List ℕ) → ends_line rest ≡ true → behind_gap true rest ≡ behind_gap false rest
passed_line [] h = refl
passed_line (c ∷ cs) h =
    subst (λ (x : ℕ). behind_gap true (x ∷ cs) ≡ behind_gap false (x ∷ cs)) (sym (eqb-true c 10 h)) refl

pub gap_passed : (gap : List Blank) (rest : List ℕ) → IsGap gap rest → begins_none rest ≡ true → behind_gap false (with_gap gap rest) ≡ rest
gap_passed [] rest g h = passed_none rest h
gap_passed (white c ∷ parts) rest g h = passed_white c (with_gap parts rest) g.0 ∙ gap_passed parts rest g.1 h
gap_passed (comment cs ∷ parts) rest g h =
    passed_words cs (with_gap parts rest) (g.0).0 ∙ passed_line (with_gap parts rest) (g.0).1 ∙ gap_passed parts rest g.1 h

-- ---- a gap is found

-- the parts from outside a comment
abbrev Parts : List ℕ → List ℕ → Type 0
Parts text rest = (gap : List Blank) × (text ≡ with_gap gap rest) × IsGap gap rest

-- the words of a comment from within it, and the parts behind it
pub record Within (text rest : List ℕ) : Type 0 where
  pub words : List ℕ
  pub gap : List Blank
  pub text_is : text ≡ words ++ with_gap gap rest
  pub on_line : list_all (λ c. not (c == 10)) words ≡ true
  pub ends : ends_line (with_gap gap rest) ≡ true
  pub parts : IsGap gap rest

within_by : (y : Bool) (c : ℕ) (cs : List ℕ) → (c == 10) ≡ y → Within cs (behind_gap true cs) → Parts cs (behind_gap false cs) → Within (c ∷ cs) (behind_gap (not y) cs)
within_by true c cs e w p = record {
  words = [];
  gap = white c ∷ p.0;
  text_is = ap (λ (l : List ℕ). c ∷ l) p.1;
  on_line = refl;
  ends = e;
  parts = (or_right (c == 32) _ (or_right (c == 9) _ (or_right (c == 13) _ e)), p.2);
}
within_by false c cs e w p = record {
  words = c ∷ w.words;
  gap = w.gap;
  text_is = ap (λ (l : List ℕ). c ∷ l) w.text_is;
  on_line = and_from _ _ (ap not e) w.on_line;
  ends = w.ends;
  parts = w.parts;
}

outside_by : (y w : Bool) (c : ℕ) (cs : List ℕ) → (c == 35) ≡ y → is_white c ≡ w → Within cs (behind_gap true cs) → Parts cs (behind_gap false cs)
    → Parts (c ∷ cs) (if y then behind_gap true cs else (if w then behind_gap false cs else (c ∷ cs)))
outside_by true w c cs e f v p = (comment v.words ∷ v.gap, (λ i. eqb-true c 35 e i ∷ v.text_is i), ((v.on_line, v.ends), v.parts))
outside_by false true c cs e f v p = (white c ∷ p.0, ap (λ (l : List ℕ). c ∷ l) p.1, (f, p.2))
outside_by false false c cs e f v p = ([], refl, tt)

abbrev Leads : Bool → List ℕ → Type 0
Leads true text = Within text (behind_gap true text)
Leads false text = Parts text (behind_gap false text)

leads : (y : Bool) (text : List ℕ) → Leads y text
leads true [] = record { words = []; gap = []; text_is = refl; on_line = refl; ends = refl; parts = tt }
leads false [] = ([], refl, tt)
leads true (c ∷ cs) = within_by (c == 10) c cs refl (leads true cs) (leads false cs)
leads false (c ∷ cs) = outside_by (c == 35) (is_white c) c cs refl refl (leads true cs) (leads false cs)

ends_by : (y w : Bool) (c : ℕ) (cs : List ℕ) → (c == 35) ≡ y → is_white c ≡ w → begins_none (behind_gap true cs) ≡ true → begins_none (behind_gap false cs) ≡ true
    → begins_none (if y then behind_gap true cs else (if w then behind_gap false cs else (c ∷ cs))) ≡ true
ends_by true w c cs e f h k = h
ends_by false true c cs e f h k = k
ends_by false false c cs e f h k = λ i. not (e i || f i)

gap_ends : (y : Bool) (text : List ℕ) → begins_none (behind_gap y text) ≡ true
gap_ends y [] = refl
gap_ends true (c ∷ cs) = gap_ends (not (c == 10)) cs
gap_ends false (c ∷ cs) = ends_by (c == 35) (is_white c) c cs refl refl (gap_ends true cs) (gap_ends false cs)

pub gap_found : (text : List ℕ) → IsPast text (behind_gap false text)
gap_found text =
    let p = leads false text in
    record { gap = p.0; text_is = p.1; parts = p.2; ends = gap_ends false text }

pub gap_exact : (text rest : List ℕ) → IsPast text rest ↔ (behind_gap false text ≡ rest)
gap_exact text rest =
    ((λ h. ap (behind_gap false) h.text_is ∙ gap_passed h.gap rest h.parts h.ends), (λ e. subst (IsPast text) e (gap_found text)))
