-- One character further in a text.
use Rattle.std.proofs.Common.{◌≡◌, refl, Bool, true, false, [], ℕ, ◌+◌, ◌-◌, ◌<◌, ◌≤◌, ◌∙◌, ap, sym, subst, List, ◌∷◌, ◌++◌, length, drop, get_or, arith, length-append, length-drop}
use Rattle.std.proofs.lemmas.List.{drop_more, drop_all}
use Rattle.std.specs.Prelude.{chars, IsUtf8, IsCharBoundary}
use Rattle.std.specs.Char.{encode_utf8, len_utf8}
use Rattle.std.proofs.lemmas.Str.{chars_past_char, length-encode, drop_past_char, IsUtf8-drop, IsCharBoundary-past_char, IsCharBoundary-after_ascii, encode_ascii, chars-nil}
use Rattle.std.specs.Prelude.{not, ◌==◌, if◌then◌else◌}
use Rattle.std.proofs.lemmas.Bool.{eqb-true}
use Rattle.lt_definitions.specs.Characters.{behind_gap, behind_run}
use Rattle.lt_lex.specs.Places.{ahead_at, Leads, IsBehind}

-- the place behind a character, by what is left there
pub place_behind : (text rest : List ℕ) (at c : ℕ) → at ≤ length text → drop at text ≡ encode_utf8 c ++ rest → length text - length rest ≡ at + len_utf8 c
place_behind text rest at c le e = omega (arith, ap length e, length-drop at text, length-append (encode_utf8 c) rest, length-encode c)

pub ahead_behind : (text rest : List ℕ) (at c : ℕ) → IsUtf8 text → IsCharBoundary text at → drop at text ≡ encode_utf8 c ++ rest
    → ahead_at text at ≡ c ∷ ahead_at text (length text - length rest)
ahead_behind text rest at c u b e =
    chars_past_char (drop at text) rest c (IsUtf8-drop text at u b) e
    ∙ ap (λ (bs : List ℕ). c ∷ chars bs) (sym (drop_past_char text rest at c e) ∙ ap (λ (n : ℕ). drop n text) (sym (place_behind text rest at c b.0 e)))

pub boundary_behind : (text rest : List ℕ) (at c : ℕ) → IsUtf8 text → IsCharBoundary text at → drop at text ≡ encode_utf8 c ++ rest
    → IsCharBoundary text (length text - length rest)
boundary_behind text rest at c u b e =
    subst (IsCharBoundary text) (sym (place_behind text rest at c b.0 e)) (IsCharBoundary-past_char text rest at c b.0 (IsUtf8-drop text at u b) e)

-- the same where the character is one byte
pub ahead_ascii : (text : List ℕ) (at c : ℕ) → IsUtf8 text → IsCharBoundary text at → at < length text → get_or text at 0 ≡ c → c < 128
    → ahead_at text at ≡ c ∷ ahead_at text (at + 1)
ahead_ascii text at c u b lt e h =
    chars_past_char (drop at text) (drop (at + 1) text) c (IsUtf8-drop text at u b)
    (drop_more text at 0 lt ∙ ap (λ (x : ℕ). x ∷ drop (at + 1) text) e ∙ ap (λ (bs : List ℕ). bs ++ drop (at + 1) text) (sym (encode_ascii c h)))

-- a comment ends before the next line feed
line_by : (y : Bool) (c : ℕ) (cs : List ℕ) → (c == 10) ≡ y → behind_gap true cs ≡ behind_gap false (behind_run (λ x. not (x == 10)) cs)
    → behind_gap (not y) cs ≡ behind_gap false (if not y then behind_run (λ x. not (x == 10)) cs else (c ∷ cs))
line_by true c cs e h = subst (λ (x : ℕ). behind_gap false cs ≡ behind_gap false (x ∷ cs)) (sym (eqb-true c 10 e)) refl
line_by false c cs e h = h

pub behind_line : (cs : List ℕ) → behind_gap true cs ≡ behind_gap false (behind_run (λ x. not (x == 10)) cs)
behind_line [] = refl
behind_line (c ∷ cs) = line_by (c == 10) c cs refl (behind_line cs)

pub gap_past_line : (c : ℕ) (left later rest : List ℕ) → left ≡ c ∷ later → c ≡ 35 → rest ≡ behind_run (λ x. not (x == 10)) later → behind_gap false rest ≡ behind_gap false left
gap_past_line c left later rest e h r =
    ap (behind_gap false) r ∙ sym (behind_line later) ∙ sym (ap (λ (x : ℕ). behind_gap false (x ∷ later)) h) ∙ ap (behind_gap false) (sym e)

-- ---- a run of ASCII characters, byte by byte

pub run_on : (p : ℕ → Bool) (text : List ℕ) (from at c : ℕ) → IsUtf8 text → Leads text from (behind_run p) at → at < length text → get_or text at 0 ≡ c → c < 128 → p c ≡ true
    → Leads text from (behind_run p) (at + 1)
run_on p text from at c u l lt e small h = record {
  same =
      ap (λ (y : Bool). if y then behind_run p (ahead_at text (at + 1)) else (c ∷ ahead_at text (at + 1))) (sym h)
      ∙ ap (behind_run p) (sym (ahead_ascii text at c u l.place lt e small)) ∙ l.same;
  place = IsCharBoundary-after_ascii text at u lt (omega (arith, e, small));
  later = omega (arith, l.later);
}

pub run_off : (p : ℕ → Bool) (text : List ℕ) (from at c : ℕ) → IsUtf8 text → Leads text from (behind_run p) at → at < length text → get_or text at 0 ≡ c → c < 128 → p c ≡ false
    → IsBehind text from (behind_run p) at
run_off p text from at c u l lt e small h =
    let first = ahead_ascii text at c u l.place lt e small in
    record {
      chars =
          first ∙ ap (λ (y : Bool). if y then behind_run p (ahead_at text (at + 1)) else (c ∷ ahead_at text (at + 1))) (sym h)
          ∙ ap (behind_run p) (sym first) ∙ l.same;
      place = l.place;
      later = l.later;
    }

pub run_out : (p : ℕ → Bool) (text : List ℕ) (from at : ℕ) → Leads text from (behind_run p) at → length text ≤ at → IsBehind text from (behind_run p) at
run_out p text from at l h =
    let none : ahead_at text at ≡ [] = ap chars (drop_all at text h) ∙ chars-nil in
    record { chars = none ∙ ap (behind_run p) (sym none) ∙ l.same; place = l.place; later = l.later }
