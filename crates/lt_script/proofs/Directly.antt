-- The reader's steps where notes are put at once.
use Rattle.std.proofs.Common.{◌≡◌, ℕ, ◌∙◌, ap, sym, refl, subst, Bool, true, false, List, [], ◌∷◌, ◌++◌, reverse, Option, Some, None, append-nil}
use Rattle.lt_texts.specs.Lexemes.{Lexeme}
use Rattle.lt_commands.specs.declared.note.Note.{Note}
use Rattle.lt_script.specs.declared.symbol.Symbol.{Symbol}
use Rattle.lt_script.specs.Machine.{Move, under, expected, semicolon, step, step_on, passed, Takes}
use Rattle.lt_commands.specs.Making.{Made, nothing, put, put_all}
use Rattle.lt_texts.specs.declared.lexical.TokenKind.TheVariants as kinds
use Rattle.lt_texts.specs.Lexemes.{a_sign}
use Rattle.lt_commands.specs.declared.note.Note.TheVariants.{KeepType, KeepTerm, NoArguments}
use Rattle.lt_script.specs.declared.symbol.Symbol.TheVariants.{Brackets, KeepType as AKeepType, KeepTerm as AKeepTerm}
use Rattle.lt_script.specs.Marks.{has_begin, begins_by, begins_line, marked, token_place, marks}
use Rattle.lt_script.proofs.Marking.{begin_under, one_begins, marks_snoc}
use Rattle.lt_script.proofs.Stacks.{reverse_snoc, under_under, over, one_symbol}
use Rattle.lt_texts.specs.declared.lexical.Token.{Token as Placed}
use Rattle.lt_texts.specs.declared.lexical.Lexed.TheVariants.{Token as One}
use Rattle.lt_texts.specs.Texts.{Left, lexed}
use Rattle.lt_grammar.specs.declared.words.Head.{Head}
use Rattle.std.specs.Prelude.{map}
use Rattle.lt_grammar.specs.declared.words.Head.TheVariants.{Header, Lemma, Item, Command as Further}
use Rattle.lt_grammar.specs.Table.{item_row, command_row}
use Rattle.lt_script.specs.declared.symbol.Symbol.TheVariants.{Part as APartOf}
use Rattle.lt_script.specs.Stops.{IsWaiting}
use Rattle.lt_script.proofs.Comes.{Came}
use Rattle.lt_script.specs.Moves.{MovesTo, TakesTo, PassedTo, SettlesTo}

pub put_append : (xs ys : List Note) (m : Made) → put_all (xs ++ ys) m ≡ put_all xs (put_all ys m)
put_append [] ys m = refl
put_append (x ∷ xs) ys m = ap (put x) (put_append xs ys m)

pub passed_none : (w : Lexeme) (s0 : List Symbol) (m : Made) → PassedTo w s0 m s0 m
passed_none w s0 m = ([], sym (none (step_on s0 w)), refl, refl)
  where
    none : (o : Option Move) → under [] [] o ≡ o
    none None = refl
    none (Some k) = λ i. Some (record { pushed = append-nil k.pushed i; made = append-nil k.made i })

-- no line begins where something is passed over
passed-begin : (x : Symbol) (w : Lexeme) (n : Note) (b : List Note) → passed x w ≡ Some n → has_begin (n ∷ b) ≡ has_begin b
passed-begin AKeepType w n b e = let same : KeepType ≡ n = cc e in sym (ap (λ (z : Note). has_begin (z ∷ b)) same)
passed-begin AKeepTerm w n b e = let same : KeepTerm ≡ n = cc e in sym (ap (λ (z : Note). has_begin (z ∷ b)) same)
passed-begin Brackets (a_sign kinds.OpenSquare) n b e = absurd (cc e)
passed-begin Brackets w n b e = let same : NoArguments ≡ n = cc e in sym (ap (λ (z : Note). has_begin (z ∷ b)) same)
passed-begin x w n b e = absurd (cc e)

pub passed_on : (w : Lexeme) (s0 : List Symbol) (m0 : Made) (xs ys : List Symbol) (m m' : Made) (x : Symbol) (n : Note)
    → PassedTo w s0 m0 (reverse xs) m → xs ≡ ys ++ x ∷ [] → m' ≡ put n m → passed x w ≡ Some n → PassedTo w s0 m0 (reverse ys) m'
passed_on w s0 m0 xs ys m m' x n q g h k = (
  n ∷ q.0,
  q.1 ∙ ap (λ (s : List Symbol). under [] q.0 (step_on s w)) (reverse_snoc xs ys x g) ∙ ap (under [] q.0) (over x w (reverse ys) n k) ∙ under_under n q.0 (step_on (reverse ys) w),
  h ∙ ap (put n) q.2,
  passed-begin x w n q.0 k ∙ q.3,
)

taken-by : (y : Bool) (o p : Option Move) (m0 : Made) (s s' : List Symbol) (m m' : Made) (done : List Note)
    → p ≡ under [] done (under s [] o) → m ≡ put_all done m0 → MovesTo y o s s' m m' → TakesTo y p s' m0 m'
taken-by true None p m0 s s' m m' done e f g = absurd g
taken-by true (Some k) p m0 s s' m m' done e f (g, h) =
    subst (λ (z : Option Move). TakesTo true z s' m0 m') (sym e) (
      g ∙ sym (append-nil (k.pushed ++ s)),
      h ∙ ap (put_all k.made) f ∙ sym (put_append k.made done m0) ∙ ap (λ (z : List Note). put_all (z ++ done) m0) (sym (append-nil k.made)),
    )
taken-by false o p m0 s s' m m' done e f g = e ∙ ap (λ (z : Option Move). under [] done (under s [] z)) g

pub taken : (s0 : List Symbol) (m0 : Made) (s s' : List Symbol) (m m' : Made) (w : Lexeme) (x : Symbol) (y : Bool)
    → SettlesTo w (Some x) s0 m0 s m → MovesTo y (step x w) s s' m m' → TakesTo y (step_on s0 w) s' m0 m'
taken s0 m0 s s' m m' w x y (d, q) g =
    taken-by y (step x w) (step_on s0 w) m0 s s' m m' q.0 (q.1 ∙ ap (under [] q.0) (one_symbol x s w d)) q.2 g

-- where a line begins with what was taken
pub taken_marks : (s0 : List Symbol) (m0 : Made) (s s' : List Symbol) (m m' : Made) (w : Lexeme) (x : Symbol) (y : Bool)
    → SettlesTo w (Some x) s0 m0 s m → MovesTo y (step x w) s s' m m' → y ≡ true → begins_by (step_on s0 w) ≡ begins_line x w
taken_marks s0 m0 s s' m m' w x y (d, q) g t =
    ap begins_by (q.1 ∙ ap (under [] q.0) (one_symbol x s w d)) ∙ begin_under [] q.0 (under s [] (step x w)) q.3
    ∙ begin_under s [] (step x w) refl ∙ by y (step x w) refl g t
  where
    by : (y : Bool) (o : Option Move) → step x w ≡ o → MovesTo y o s s' m m' → y ≡ true → begins_by (step x w) ≡ begins_line x w
    by true None e g t = absurd g
    by true (Some k) e g t = one_begins x w k e
    by false o e g t = absurd (cc t)

-- The notes that were put, though none was kept, and where lines began on the way.
abbrev pub CameTo : List Symbol → List Note → Left → Left → List Symbol → Made → List ℕ → Type 0
CameTo s0 b0 s s' st m places = (b : List Note) × (c : Came s0 b0 s s' st b) × (m ≡ put_all b nothing) × (places ≡ marks s0 s c.0)

pub noted : (y : Bool) (o : Option Move) (st' : List Symbol) (m m' : Made) (b : List Note) → TakesTo y o st' m m' → m ≡ put_all b nothing
    → (b' : List Note) × Takes y o st' b b' × (y ≡ true → m' ≡ put_all b' nothing)
noted true None st' m m' b t e = absurd t
noted true (Some k) st' m m' b (g, h) e = (k.made ++ b, (g, refl), λ u. h ∙ ap (put_all k.made) e ∙ sym (put_append k.made b nothing))
noted false o st' m m' b t e = (b, t, λ u. absurd (cc u))

some-more : (xs ys : List Symbol) (y : Symbol) → IsWaiting (xs ++ y ∷ ys)
some-more [] ys y = tt
some-more (x ∷ xs) ys y = tt

pub expected_waits : (n : ℕ) (k : Head) → IsWaiting (expected n k)
expected_waits n Header = tt
expected_waits n Lemma = tt
expected_waits n (Item w) = some-more (map APartOf (item_row w).parts) [] semicolon
expected_waits n (Further w) = some-more (map APartOf (command_row w).parts) [] semicolon

-- one token more, and the place of a line that begins with it
pub marked_on : (s0 : List Symbol) (b0 : List Note) (s s' : Left) (st : List Symbol) (b : List Note) (c : Came s0 b0 s s' st b) (t : Placed) (w : Lexeme) (places places' : List ℕ)
    → places ≡ marks s0 s c.0 → One t ≡ lexed s' → places' ≡ places ++ marked (begins_by (step_on st w)) t.from → places' ≡ marks s0 s (c.0 ++ w ∷ [])
marked_on s0 b0 s s' st b c t w places places' e f g =
    g ∙ (λ i. e i ++ marked (begins_by (step_on st w)) (token_place (f i)))
    ∙ sym (marks_snoc c.0 w s0 st b0 b s s' c.1 c.2)

-- the stack of what is expected behind the word of a sentence
pub head_expected : (n : ℕ) (k : Head) (st st0 : List Symbol) → reverse st ≡ expected n k ++ reverse st0 → st0 ≡ [] → reverse st ≡ expected n k
head_expected n k st st0 e f = e ∙ ap (λ (z : List Symbol). expected n k ++ reverse z) f ∙ append-nil (expected n k)
