-- A stack in a vector, the newest last.
use Rattle.std.proofs.Common.{◌≡◌, ℕ, suc, ◌+◌, ◌-◌, ◌<◌, ◌∙◌, ap, ap₂, sym, refl, subst, Bool, true, false, List, [], ◌∷◌, ◌++◌, length, reverse, get_or, drop, Option, Some, None, append_assoc, append-nil, arith}
use Rattle.std.specs.Prelude.{map}
use Rattle.std.proofs.Math.Seq.{drop-cons}
use Rattle.std.proofs.lemmas.List.{reverse-append}
use Rattle.lt_texts.specs.declared.lexical.TokenKind.TheVariants as kinds
use Rattle.lt_texts.specs.Lexemes.{Lexeme, a_sign}
use Rattle.lt_grammar.specs.declared.words.Part.{Part}
use Rattle.lt_commands.specs.declared.note.Note.{Note}
use Rattle.lt_script.specs.declared.symbol.Symbol.{Symbol}
use Rattle.lt_script.specs.declared.symbol.Symbol.TheVariants.{Brackets, KeepType, KeepTerm, Part as APartOf}
use Rattle.lt_script.specs.Machine.{Move, go, under, step, passed, or_pass, step_on, Takes, Moves, Passed, Settles}

pub reverse_snoc : {A : Type 0} (xs ys : List A) (x : A) → xs ≡ ys ++ x ∷ [] → reverse xs ≡ x ∷ reverse ys
reverse_snoc xs ys x e = ap reverse e ∙ reverse-append ys (x ∷ [])

-- one more part of a row, from its end
pub one_behind : (row : List Part) (st st' old : List Symbol) (behind : ℕ) (d : Part) → behind < length row → reverse st ≡ map APartOf (drop (length row - behind) row) ++ reverse old
    → st' ≡ st ++ APartOf (get_or row (length row - 1 - behind) d) ∷ [] → reverse st' ≡ map APartOf (drop (length row - (behind + 1)) row) ++ reverse old
one_behind row st st' old behind d h e f =
    let at : length row - 1 - behind < length row = omega arith in
    let next : suc (length row - 1 - behind) ≡ length row - behind = omega arith in
    let same : length row - (behind + 1) ≡ length row - 1 - behind = omega arith in
    reverse_snoc st' st (APartOf (get_or row (length row - 1 - behind) d)) f
    ∙ ap (λ (z : List Symbol). APartOf (get_or row (length row - 1 - behind) d) ∷ z) e
    ∙ ap (λ (n : ℕ). APartOf (get_or row (length row - 1 - behind) d) ∷ (map APartOf (drop n row) ++ reverse old)) (sym next)
    ∙ sym (ap (λ (z : List Part). map APartOf z ++ reverse old) (ap (λ (n : ℕ). drop n row) same ∙ drop-cons row (length row - 1 - behind) d at))

pub under_under : (n : Note) (done : List Note) (o : Option Move) → under [] done (under [] (n ∷ []) o) ≡ under [] (n ∷ done) o
under_under n done None = refl
under_under n done (Some m) = ap₂ go (append-nil (m.pushed ++ [])) (append_assoc m.made (n ∷ []) done)

pub passed_none : (w : Lexeme) (s0 : List Symbol) (b0 : List Note) → Passed w s0 b0 s0 b0
passed_none w s0 b0 = ([], sym (none (step_on s0 w)), refl)
  where
    none : (o : Option Move) → under [] [] o ≡ o
    none None = refl
    none (Some m) = ap₂ go (append-nil m.pushed) (append-nil m.made)

-- a symbol that is passed over
pub over : (x : Symbol) (w : Lexeme) (s : List Symbol) (n : Note) → passed x w ≡ Some n → step_on (x ∷ s) w ≡ under [] (n ∷ []) (step_on s w)
over KeepType w s n e = let same : _ ≡ n = cc e in ap (λ (z : Note). under [] (z ∷ []) (step_on s w)) same
over KeepTerm w s n e = let same : _ ≡ n = cc e in ap (λ (z : Note). under [] (z ∷ []) (step_on s w)) same
over Brackets (a_sign kinds.OpenSquare) s n e = absurd (cc e)
over Brackets w s n e = let same : _ ≡ n = cc e in ap (λ (z : Note). under [] (z ∷ []) (step_on s w)) same
over x w s n e = absurd (cc e)

pub passed_on : (w : Lexeme) (s0 : List Symbol) (b0 : List Note) (xs ys : List Symbol) (b b' : List Note) (x : Symbol) (n : Note)
    → Passed w s0 b0 (reverse xs) (reverse b) → xs ≡ ys ++ x ∷ [] → b' ≡ b ++ n ∷ [] → passed x w ≡ Some n → Passed w s0 b0 (reverse ys) (reverse b')
passed_on w s0 b0 xs ys b b' x n q g h k = (
  n ∷ q.0,
  q.1 ∙ ap (λ (s : List Symbol). under [] q.0 (step_on s w)) (reverse_snoc xs ys x g) ∙ ap (under [] q.0) (over x w (reverse ys) n k) ∙ under_under n q.0 (step_on (reverse ys) w),
  reverse_snoc b' b n h ∙ ap (λ (z : List Note). n ∷ z) q.2,
)

-- the newest symbol is taken off
pub settles : (w : Lexeme) (s0 : List Symbol) (b0 : List Note) (xs ys : List Symbol) (b : List Note) (x : Symbol) → Passed w s0 b0 (reverse xs) b → xs ≡ ys ++ x ∷ []
    → passed x w ≡ None → Settles w (Some x) s0 b0 (reverse ys) b
settles w s0 b0 xs ys b x q g d = (d, (q.0, q.1 ∙ ap (λ (s : List Symbol). under [] q.0 (step_on s w)) (reverse_snoc xs ys x g), q.2))

pub none_left : (w : Lexeme) (s0 : List Symbol) (b0 : List Note) (xs : List Symbol) (b : List Note) → Passed w s0 b0 (reverse xs) b → length xs ≡ 0 → step_on s0 w ≡ None
none_left w s0 b0 [] b p h = p.1
none_left w s0 b0 (x ∷ xs) b p h = absurd (omega (arith, h))

pub no_pass : (o q : Option Move) → or_pass o None q ≡ o
no_pass None q = refl
no_pass (Some m) q = refl

pub one_symbol : (x : Symbol) (s : List Symbol) (w : Lexeme) → passed x w ≡ None → step_on (x ∷ s) w ≡ under s [] (step x w)
one_symbol KeepType s w e = absurd (cc e)
one_symbol KeepTerm s w e = absurd (cc e)
one_symbol Brackets s (a_sign kinds.OpenSquare) e = refl
one_symbol Brackets s w e = absurd (cc e)
one_symbol x s w e = no_pass (under s [] (step x w)) (step_on s w)

taken-by : (y : Bool) (o p : Option Move) (s0 : List Symbol) (b0 : List Note) (s s' : List Symbol) (b b' done : List Note)
    → p ≡ under [] done (under s [] o) → b ≡ done ++ b0 → Moves y o s s' b b' → Takes y p s' b0 b'
taken-by true None p s0 b0 s s' b b' done e f m = absurd m
taken-by true (Some m) p s0 b0 s s' b b' done e f (g, h) =
    subst (λ (z : Option Move). Takes true z s' b0 b') (sym e) (
      g ∙ sym (append-nil (m.pushed ++ s)),
      h ∙ ap (λ (z : List Note). m.made ++ z) f ∙ sym (append_assoc m.made done b0) ∙ ap (λ (z : List Note). (z ++ done) ++ b0) (sym (append-nil m.made)),
    )
taken-by false o p s0 b0 s s' b b' done e f m = e ∙ ap (λ (z : Option Move). under [] done (under s [] z)) m

pub taken : (s0 : List Symbol) (b0 : List Note) (s s' : List Symbol) (b b' : List Note) (w : Lexeme) (x : Symbol) (y : Bool)
    → Settles w (Some x) s0 b0 s b → Moves y (step x w) s s' b b' → Takes y (step_on s0 w) s' b0 b'
taken s0 b0 s s' b b' w x y (d, q) m =
    taken-by y (step x w) (step_on s0 w) s0 b0 s s' b b' q.0 (q.1 ∙ ap (under [] q.0) (one_symbol x s w d)) q.2 m
