-- Lists of lines and hypotheses as text, one more at a time.
use Rattle.std.proofs.Common.{◌≡◌, ◌∙◌, ◌≤◌, ◌<◌, ℕ, zero, suc, ◌+◌, ◌-◌, Bool, true, List, [], ◌∷◌, ◌++◌, length, map, take, drop, get_or, slice_get, Some, codes, refl, sym, ap, arith, append_assoc, append-nil}
use Rattle.std.specs.List.{flat_map, list_all}
use Rattle.std.proofs.lemmas.Bool.{and_parts}
use Rattle.std.proofs.lemmas.Grind.{flat_map-append}
use Rattle.std.proofs.lemmas.List.{take_more, length-map}
use Rattle.std.proofs.lemmas.Option.{slice_get-map, slice_get_within, get_or_from_slice_get}
use Rattle.std.proofs.Math.Seq.{take-length}
use Rattle.std.specs.Option.{option_map}
use Rattle.lt_definitions.specs.Types.{Chars}
use Rattle.lt_definitions.specs.Terms.{TermTree}
use Rattle.lt_definitions.specs.Rules.{Rule}
use Rattle.lt_definitions.specs.Printing.{printed_term, printed_rule, printed_lines, printed_hyps}
use Rattle.lt_hol.specs.declared.line.Line.{Line}
use Rattle.lt_syntax.specs.SequentText.{later_hyps}

-- a text that goes on by three pieces, which are the next piece of what is written
pub line_added : (before done next text a r z t u v : Chars) → text ≡ before ++ done → t ≡ text ++ a → u ≡ t ++ r → v ≡ u ++ z → next ≡ done ++ (a ++ (r ++ z)) → v ≡ before ++ next
line_added before done next text a r z t u v e f g h k =
    let made : v ≡ (((before ++ done) ++ a) ++ r) ++ z = h ∙ ap (λ s. s ++ z) (g ∙ ap (λ s. s ++ r) (f ∙ ap (λ s. s ++ a) e)) in
    let same : (((before ++ done) ++ a) ++ r) ++ z ≡ before ++ (done ++ (a ++ (r ++ z))) = simp append_assoc in
    made ∙ same ∙ ap (λ s. before ++ s) (sym k)

-- a line's places are within
pub line_within : (p : Line → Bool) (lines : List Line) (i : ℕ) (line : Line) → list_all p lines ≡ true → slice_get lines i ≡ Some line → p line ≡ true
line_within p [] i line h e = absurd (cc e)
line_within p (l ∷ ls) zero line h e = let same : l ≡ line = cc e in ap p (sym same) ∙ (and_parts (p l) (list_all p ls) h).0
line_within p (l ∷ ls) (suc i) line h e = line_within p ls i line (and_parts (p l) (list_all p ls) h).1 e

one-more-of : {A : Type 0} (f : A → Chars) (xs : List A) (i : ℕ) (x : A) → slice_get xs i ≡ Some x → flat_map f (take (i + 1) xs) ≡ flat_map f (take i xs) ++ f x
one-more-of f xs i x e =
    ap (flat_map f) (take_more xs i x (slice_get_within xs i x e) ∙ ap (λ y. take i xs ++ y ∷ []) (get_or_from_slice_get xs i x x e))
    ∙ flat_map-append f (take i xs) (x ∷ []) ∙ ap (λ s. flat_map f (take i xs) ++ s) (append-nil (f x))

pub one-more-line : (f : Line → Rule TermTree) (lines : List Line) (i : ℕ) (line : Line) → slice_get lines i ≡ Some line
    → printed_lines (take (i + 1) (map f lines)) ≡ printed_lines (take i (map f lines)) ++ (codes "  " ++ (printed_rule (f line) ++ codes ";\n"))
one-more-line f lines i line e =
    one-more-of (λ r. codes "  " ++ (printed_rule r ++ codes ";\n")) (map f lines) i (f line) (slice_get-map f lines i ∙ ap (option_map f) e)

pub all-lines : (f : Line → Rule TermTree) (lines : List Line) (i : ℕ) → i ≤ length lines → length lines ≤ i → printed_lines (take i (map f lines)) ≡ printed_lines (map f lines)
all-lines f lines i up down =
    let same : i ≡ length (map f lines) = omega (arith, length-map lines f) in
    ap printed_lines (ap (λ k. take k (map f lines)) same ∙ take-length (map f lines))

pub one-more-hyp : (hyps : List TermTree) (i : ℕ) (h : TermTree) → i < length hyps → h ≡ get_or hyps i h → later_hyps (take (i + 1) hyps) ≡ later_hyps (take i hyps) ++ (codes ", " ++ printed_term [] h)
one-more-hyp hyps i h lt e =
    ap later_hyps (take_more hyps i h lt ∙ ap (λ y. take i hyps ++ y ∷ []) (sym e))
    ∙ flat_map-append (λ k. codes ", " ++ printed_term [] k) (take i hyps) (h ∷ []) ∙ ap (λ s. later_hyps (take i hyps) ++ s) (append-nil (codes ", " ++ printed_term [] h))

pub all-hyps : (hyps : List TermTree) (i : ℕ) → i ≤ length hyps → length hyps ≤ i → later_hyps (take i hyps) ≡ later_hyps hyps
all-hyps hyps i up down = let same : i ≡ length hyps = omega arith in ap later_hyps (ap (λ k. take k hyps) same ∙ take-length hyps)

-- hypotheses, the first one apart
pub hyps_apart : (h : TermTree) (hyps : List TermTree) → printed_hyps (h ∷ hyps) ≡ printed_term [] h ++ (later_hyps hyps ++ codes " ")
hyps_apart h [] = refl
hyps_apart h (k ∷ hyps) =
    ap (λ s. printed_term [] h ++ (codes ", " ++ s)) (hyps_apart k hyps)
    ∙ ap (λ s. printed_term [] h ++ s) (sym (append_assoc (codes ", " ++ printed_term [] k) (later_hyps hyps) (codes " ")))

-- the first of some hypotheses, and those behind it
pub hyps_by : (hyps : List TermTree) (h : TermTree) → 1 ≤ length hyps → h ≡ get_or hyps 0 h
    → printed_hyps hyps ≡ printed_term [] h ++ (later_hyps (take (length hyps - 1) (drop 1 hyps)) ++ codes " ")
hyps_by [] h l e = absurd (omega (arith, l))
hyps_by (x ∷ xs) h l e =
    let count : length (x ∷ xs) - 1 ≡ length xs = omega arith in
    let all : take (length (x ∷ xs) - 1) xs ≡ xs = ap (λ k. take k xs) count ∙ take-length xs in
    hyps_apart x xs ∙ (λ i. printed_term [] (sym e i) ++ (later_hyps (sym all i) ++ codes " "))
