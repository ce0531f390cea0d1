-- Each token takes characters.
use Rattle.std.proofs.Common.{◌≡◌, ℕ, ◌<◌, ◌≤◌, ap, refl, Bool, true, false, List, [], ◌∷◌, length, arith, not, Option, Some, None, length-append}
use Rattle.std.specs.Prelude.{if◌then◌else◌, ◌==◌}
use Rattle.lt_texts.specs.declared.lexical.TokenKind.{TokenKind}
use Rattle.lt_texts.specs.declared.lexical.TokenKind.TheVariants.{Name}
use Rattle.lt_texts.specs.declared.lexical.Lexed.TheVariants.{End, BadByte}
use Rattle.lt_definitions.specs.Characters.{is_white, behind_gap}
use Rattle.lt_texts.specs.Tokens.{Scanned, token_at}
use Rattle.lt_texts.specs.Spelling.{is_spelt}
use Rattle.lt_texts.specs.Texts.{Left, past_gap, end_of, lexed, lexed_at, lexed_by, after, after_by, IsToken}
use Rattle.lt_texts.proofs.TokenEnds.{IsSound, token_sound}

pub nothing_spelt : (kind : TokenKind) → is_spelt kind [] ≡ false
nothing_spelt Name = refl
nothing_spelt _ = refl

pub spelt_some : (kind : TokenKind) (word : List ℕ) → is_spelt kind word ≡ true → 0 < length word
spelt_some kind [] h = absurd (cc (nothing_spelt kind, h))
spelt_some kind (c ∷ cs) h = omega arith

-- the characters behind a token are fewer than these
abbrev IsFewer : Option Scanned → ℕ → Type 0
IsFewer None n = Unit {0}
IsFewer (Some t) n = length t.rest < n

fewer_by : (cs : List ℕ) (o : Option Scanned) → IsSound cs o → IsFewer o (length cs)
fewer_by cs None s = tt
fewer_by cs (Some t) s = omega (arith, ap length s.0, length-append t.spelling t.rest, spelt_some t.kind t.spelling s.1)

gap_by : (y w : Bool) (c : ℕ) (cs : List ℕ) → length (behind_gap true cs) ≤ length cs → length (behind_gap false cs) ≤ length cs
    → length (if y then behind_gap true cs else (if w then behind_gap false cs else (c ∷ cs))) ≤ length (c ∷ cs)
gap_by true w c cs h k = omega arith
gap_by false true c cs h k = omega arith
gap_by false false c cs h k = omega arith

pub gap_le : (y : Bool) (cs : List ℕ) → length (behind_gap y cs) ≤ length cs
gap_le y [] = omega arith
gap_le true (c ∷ cs) = omega (arith, gap_le (not (c == 10)) cs)
gap_le false (c ∷ cs) = gap_by (c == 35) (is_white c) c cs (gap_le true cs) (gap_le false cs)

no_token : (y : Bool) (e : ℕ) → IsToken (if y then End else BadByte e) → ⊥
no_token true e h = h
no_token false e h = h

by_answer : (s : Left) (n : ℕ) (cs : List ℕ) (o : Option Scanned) → IsFewer o n → n ≤ length s.ahead → IsToken (lexed_by s cs o) → length (after_by s o).ahead < length s.ahead
by_answer s n cs None h k t = absurd t
by_answer s n cs (Some p) h k t = omega arith

shorter_at : (s : Left) (cs : List ℕ) → length cs ≤ length s.ahead → IsToken (lexed_at s cs) → length (after_by s (token_at cs)).ahead < length s.ahead
shorter_at s [] h t = absurd (no_token (end_of s == length s.source) (end_of s) t)
shorter_at s (c ∷ cs) h t = by_answer s (length (c ∷ cs)) (c ∷ cs) (token_at (c ∷ cs)) (fewer_by (c ∷ cs) (token_at (c ∷ cs)) (token_sound (c ∷ cs))) h t

pub token_shortens : (s : Left) → IsToken (lexed s) → length (after s).ahead < length s.ahead
token_shortens s t = shorter_at s (past_gap s) (gap_le false s.ahead) t
