-- The first place where the machine stops is the first where no text goes on.
use Rattle.std.proofs.Common.{◌≡◌, ℕ, ◌∙◌, ap, ap₂, sym, refl, subst, List, [], ◌∷◌, ◌++◌, Option, Some, None, append_assoc, append-nil, inl, inr, ◌⊎◌, codes}
use Rattle.lt_texts.specs.declared.lexical.TokenKind.TheVariants as kinds
use Rattle.lt_texts.specs.Lexemes.{Lexeme, a_name, a_variable, a_sign}
use Rattle.lt_texts.specs.Forms.{Form}
use Rattle.lt_grammar.specs.declared.words.Part.TheVariants.{Label, Number, Variable, Parameters, AType, AStatement, ATerm, Fixed as Exactly}
use Rattle.lt_grammar.specs.Rows.{fixed, number}
use Rattle.lt_grammar.specs.RowTexts.{PartText, header, text_lexemes, texts_lexemes, MayStand}
use Rattle.lt_script.specs.declared.symbol.Symbol.{Symbol}
use Rattle.lt_script.specs.declared.symbol.Symbol.TheVariants.{«Type», Constructor, MoreTypes, Term, Inside, Brackets, Arguments, MoreTerms, BoundName, FreeName, CloseFree, LambdaName, Body, CloseLambda, KeepType, KeepTerm, Part as APartOf, HeaderNumber, Lines, EndLine}
use Rattle.lt_commands.specs.declared.note.Note.{Note}
use Rattle.lt_commands.specs.declared.note.Note.TheVariants.{TypeAlone as type_alone, TypeOpen as type_open, TypeClose as type_close, KeepType as keep_type, Arguments as arguments, Bound as bound_name, FreeName as free_name, FreeClose as free_close, LambdaName as lambda_name, LambdaClose as lambda_close, Apply as apply, KeepTerm as keep_term, Label as label, Count as count, Variable as variable, KeepParameters as keep_parameters, EndLine as end_line}
use Rattle.lt_commands.specs.Notes.{text_notes}
use Rattle.lt_script.specs.Machine.{Move, step_part, step_header, step_on, State, state, onward, run}
use Rattle.lt_script.specs.Stops.{IsWaiting}
use Rattle.lt_script.specs.Reading.{IsWhole, IsRest, IsViable, IsFront}
use Rattle.lt_script.proofs.Taken.{type_kept, term_kept, takes_fixed, takes_number, first_run, takes_text, takes_header}
use Rattle.lt_script.proofs.Sound.{BeginsSentence, sound_sentence, sound_header, finished, accepts}
use Rattle.lt_grammar.proofs.Splits.{text_splits}

abbrev stack_of : Option State → List Symbol
stack_of None = []
stack_of (Some m) = m.stack

-- ---- the machine over two lists of lexemes

abbrev pub and_then : Option State → (State → Option State) → Option State
and_then None f = None
and_then (Some m) f = f m

append-by : (b : List Note) (xs ys : List Lexeme) (o : Option Move)
    → ((s' : List Symbol) (c : List Note) → run s' c (xs ++ ys) ≡ and_then (run s' c xs) (λ m. run m.stack m.made ys))
    → onward o (λ m. run m.pushed (m.made ++ b) (xs ++ ys)) ≡ and_then (onward o (λ m. run m.pushed (m.made ++ b) xs)) (λ m. run m.stack m.made ys)
append-by b xs ys None ih = refl
append-by b xs ys (Some m) ih = ih m.pushed (m.made ++ b)

pub run_append : (s : List Symbol) (b : List Note) (xs ys : List Lexeme) → run s b (xs ++ ys) ≡ and_then (run s b xs) (λ m. run m.stack m.made ys)
run_append s b [] ys = refl
run_append s b (x ∷ xs) ys = append-by b xs ys (step_on s x) (λ s' c. run_append s' c xs ys)

-- behind lexemes from which the machine came to a state
pub run_behind : (s : List Symbol) (b : List Note) (xs ys : List Lexeme) (m : State) → run s b xs ≡ Some m → run s b (xs ++ ys) ≡ run m.stack m.made ys
run_behind s b xs ys m e = run_append s b xs ys ∙ ap (λ (o : Option State). and_then o (λ n. run n.stack n.made ys)) e

-- ---- the same from a sentence's word on

first-by : (xs ys : List Lexeme) (m : State) (o : Option Move) → onward o (λ k. run k.pushed k.made xs) ≡ Some m
    → onward o (λ k. run k.pushed k.made (xs ++ ys)) ≡ run m.stack m.made ys
first-by xs ys m None e = absurd (cc e)
first-by xs ys m (Some k) e = run_behind k.pushed k.made xs ys m e

-- behind lexemes, of which there is one at least
pub first_behind : (first : Lexeme → Option Move) (w : Lexeme) (ws ys : List Lexeme) (m : State)
    → first_run first (w ∷ ws) ≡ Some m → first_run first ((w ∷ ws) ++ ys) ≡ run m.stack m.made ys
first_behind first w ws ys m e = first-by ws ys m (first w) e

-- behind lexemes with which nothing more is expected
first_whole : (first : Lexeme → Option Move) (xs ys : List Lexeme) (b : List Note)
    → first_run first xs ≡ Some (state [] b) → first_run first (xs ++ ys) ≡ run [] b ys
first_whole first [] ys b e = absurd (subst IsWaiting (ap stack_of e) tt)
first_whole first (x ∷ xs) ys b e = first_behind first x xs ys (state [] b) e

-- behind lexemes that were refused
first_none : (first : Lexeme → Option Move) (xs ys : List Lexeme)
    → first_run first xs ≡ None → first_run first (xs ++ ys) ≡ None
first_none first [] ys e = absurd (cc e)
first_none first (x ∷ xs) ys e = by (first x) e
  where
    by : (o : Option Move) → onward o (λ k. run k.pushed k.made xs) ≡ None → onward o (λ k. run k.pushed k.made (xs ++ ys)) ≡ None
    by None e = refl
    by (Some k) e = run_append k.pushed k.made xs ys ∙ ap (λ (o : Option State). and_then o (λ n. run n.stack n.made ys)) e

-- ---- what is expected can be met

x : List ℕ
x = codes "x"

type-done : (s : List Symbol) (b : List Note) (ws : List Lexeme) → accepts (KeepType ∷ s) b ws ≡ accepts s (keep_type ∷ b) ws
type-done s b [] = refl
type-done s b (w ∷ ws) = ap finished (type_kept s b w ws)

term-done : (s : List Symbol) (b : List Note) (ws : List Lexeme) → accepts (KeepTerm ∷ s) b ws ≡ accepts s (keep_term ∷ b) ws
term-done s b [] = refl
term-done s b (w ∷ ws) = ap finished (term_kept s b w ws)

pub closing : (s : List Symbol) (b : List Note) → (us : List Lexeme) × (b' : List Note) × (accepts s b us ≡ Some b')
closing [] b = ([], b, refl)
closing («Type» ∷ s) b = let r = closing s (type_alone x ∷ b) in (a_name x ∷ r.0, r.1, r.2)
closing (Constructor ∷ s) b = let r = closing s (type_close ∷ type_alone x ∷ type_open x ∷ b) in (a_name x ∷ a_name x ∷ a_sign kinds.Close ∷ r.0, r.1, r.2)
closing (MoreTypes ∷ s) b = let r = closing s (type_close ∷ b) in (a_sign kinds.Close ∷ r.0, r.1, r.2)
closing (Term ∷ s) b = let r = closing s (bound_name x ∷ b) in (a_sign kinds.Percent ∷ a_name x ∷ r.0, r.1, r.2)
closing (Inside ∷ s) b = let r = closing s (free_close ∷ keep_type ∷ type_alone x ∷ free_name x ∷ b) in (a_sign kinds.Dollar ∷ a_name x ∷ a_name x ∷ a_sign kinds.Close ∷ r.0, r.1, r.2)
closing (Brackets ∷ s) b = let r = closing s (arguments ∷ keep_type ∷ type_alone x ∷ b) in (a_sign kinds.OpenSquare ∷ a_name x ∷ a_sign kinds.CloseSquare ∷ r.0, r.1, r.2)
closing (Arguments ∷ s) b = let r = closing s (arguments ∷ keep_type ∷ b) in (a_sign kinds.CloseSquare ∷ r.0, r.1, r.2)
closing (MoreTerms ∷ s) b = let r = closing s (apply ∷ b) in (a_sign kinds.Close ∷ r.0, r.1, r.2)
closing (BoundName ∷ s) b = let r = closing s (bound_name x ∷ b) in (a_name x ∷ r.0, r.1, r.2)
closing (FreeName ∷ s) b = let r = closing s (free_close ∷ keep_type ∷ type_alone x ∷ free_name x ∷ b) in (a_name x ∷ a_name x ∷ a_sign kinds.Close ∷ r.0, r.1, r.2)
closing (CloseFree ∷ s) b = let r = closing s (free_close ∷ keep_type ∷ b) in (a_sign kinds.Close ∷ r.0, r.1, r.2)
closing (LambdaName ∷ s) b =
    let r = closing s (lambda_close ∷ bound_name x ∷ keep_type ∷ type_alone x ∷ lambda_name x ∷ b) in
    (a_name x ∷ a_name x ∷ a_sign kinds.Percent ∷ a_name x ∷ a_sign kinds.Close ∷ r.0, r.1, r.2)
closing (Body ∷ s) b = let r = closing s (bound_name x ∷ keep_type ∷ b) in (a_sign kinds.Percent ∷ a_name x ∷ r.0, r.1, r.2)
closing (CloseLambda ∷ s) b = let r = closing s (lambda_close ∷ b) in (a_sign kinds.Close ∷ r.0, r.1, r.2)
closing (KeepType ∷ s) b = let r = closing s (keep_type ∷ b) in (r.0, r.1, type-done s b r.0 ∙ r.2)
closing (KeepTerm ∷ s) b = let r = closing s (keep_term ∷ b) in (r.0, r.1, term-done s b r.0 ∙ r.2)
closing (APartOf Label ∷ s) b = let r = closing s (label x ∷ b) in (a_name x ∷ r.0, r.1, r.2)
closing (APartOf Number ∷ s) b = let r = closing s (count 1 ∷ b) in (number 1 ∷ r.0, r.1, r.2)
closing (APartOf Variable ∷ s) b = let r = closing s (variable x ∷ b) in (a_variable x ∷ r.0, r.1, r.2)
closing (APartOf Parameters ∷ s) b = let r = closing s (keep_parameters ∷ b) in (a_sign kinds.Colon ∷ r.0, r.1, r.2)
closing (APartOf AType ∷ s) b = let r = closing s (keep_type ∷ type_alone x ∷ b) in (a_name x ∷ r.0, r.1, type-done s (type_alone x ∷ b) r.0 ∙ r.2)
closing (APartOf AStatement ∷ s) b = let r = closing s (keep_term ∷ bound_name x ∷ b) in (a_sign kinds.Percent ∷ a_name x ∷ r.0, r.1, term-done s (bound_name x ∷ b) r.0 ∙ r.2)
closing (APartOf ATerm ∷ s) b = let r = closing s (keep_term ∷ bound_name x ∷ b) in (a_sign kinds.Percent ∷ a_name x ∷ r.0, r.1, term-done s (bound_name x ∷ b) r.0 ∙ r.2)
closing (APartOf (Exactly k) ∷ s) b = let r = closing s b in (fixed k ∷ r.0, r.1, ap finished (takes_fixed k s b r.0) ∙ r.2)
closing (HeaderNumber n ∷ s) b = let r = closing s b in (number n ∷ r.0, r.1, ap finished (takes_number n s b r.0) ∙ r.2)
closing (Lines ∷ s) b = let r = closing s b in (a_sign kinds.CloseBrace ∷ r.0, r.1, r.2)
closing (EndLine w ∷ s) b = let r = closing s (end_line w ∷ b) in (a_sign kinds.Semicolon ∷ r.0, r.1, r.2)

-- ---- fronts

-- one of two fronts of a list is a front of the other
abbrev pub Forks : List Lexeme → List Lexeme → Type 0
Forks xs ys = ((zs : List Lexeme) × (ys ≡ xs ++ zs)) ⊎ ((z : Lexeme) × (zs : List Lexeme) × (xs ≡ ys ++ z ∷ zs))

fork : (xs ys r q : List Lexeme) → xs ++ r ≡ ys ++ q → Forks xs ys
fork [] ys r q e = inl (ys, refl)
fork (x ∷ xs) [] r q e = inr (x, xs, refl)
fork (x ∷ xs) (y ∷ ys) r q e =
    let first : x ≡ y = cc e in
    let rest : xs ++ r ≡ ys ++ q = cc e in
    longer first (fork xs ys r q rest)
  where
    longer : x ≡ y → Forks xs ys → Forks (x ∷ xs) (y ∷ ys)
    longer f (inl (zs, h)) = inl (zs, ap₂ (λ (a : Lexeme) (b : List Lexeme). a ∷ b) (sym f) h)
    longer f (inr (z, zs, h)) = inr (z, zs, ap₂ (λ (a : Lexeme) (b : List Lexeme). a ∷ b) f h)

cancel : (ws xs ys : List Lexeme) → ws ++ xs ≡ ws ++ ys → xs ≡ ys
cancel [] xs ys e = e
cancel (w ∷ ws) xs ys e = cancel ws xs ys (cc e)

not-empty : (ws : List Lexeme) (w : Lexeme) (more : List Lexeme) → ws ++ w ∷ more ≡ [] → ⊥
not-empty [] w more e = absurd (cc e)
not-empty (v ∷ ws) w more e = absurd (cc e)

-- ---- lexemes behind which something is expected

module _ (first : Lexeme → Option Move) (xs : List Lexeme) (b : List Note) (whole : first_run first xs ≡ Some (state [] b)) where
  -- they have no whole thing at their front
  none_whole : (ws zs : List Lexeme) (m : State) → first_run first ws ≡ Some m → IsWaiting m.stack → ws ≡ xs ++ zs → ⊥
  none_whole ws [] m e w h =
      let same : Some m ≡ Some (state [] b) = sym e ∙ ap (first_run first) (h ∙ append-nil xs) ∙ whole in
      subst IsWaiting (ap stack_of same) w
  none_whole ws (z ∷ zs) m e w h =
      let clash : Some m ≡ None = sym e ∙ ap (first_run first) h ∙ first_whole first xs (z ∷ zs) b whole in
      absurd (cc clash)

  -- with a lexeme that is refused behind them they are no front of it
  none_longer : (ws zs : List Lexeme) (w : Lexeme) → first_run first (ws ++ w ∷ []) ≡ None → xs ≡ ws ++ w ∷ zs → ⊥
  none_longer ws zs w e h =
      let same : xs ≡ (ws ++ w ∷ []) ++ zs = h ∙ sym (append_assoc ws (w ∷ []) zs) in
      let clash : Some (state [] b) ≡ None = sym whole ∙ ap (first_run first) same ∙ first_none first (ws ++ w ∷ []) zs e in
      absurd (cc clash)

  -- so nothing that begins with it goes on with that lexeme
  pub refused : (ws rest more : List Lexeme) (w : Lexeme) (m : State) → first_run first ws ≡ Some m → IsWaiting m.stack
      → first_run first (ws ++ w ∷ []) ≡ None → (ws ++ w ∷ []) ++ more ≡ xs ++ rest → ⊥
  refused ws rest more w m e g f h =
      by (fork xs ws rest (w ∷ more) (sym h ∙ append_assoc ws (w ∷ []) more))
    where
      by : Forks xs ws → ⊥
      by (inl (zs, k)) = none_whole ws zs m e g k
      by (inr (z, zs, k)) = none_longer ws zs w f (k ∙ ap (λ (x : Lexeme). ws ++ x ∷ zs) (next z zs k))
        where
          next : (z : Lexeme) (zs : List Lexeme) → xs ≡ ws ++ z ∷ zs → z ≡ w
          next z zs k =
              let same : z ∷ (zs ++ rest) ≡ w ∷ more =
              cancel ws (z ∷ (zs ++ rest)) (w ∷ more) (sym (append_assoc ws (z ∷ zs) rest) ∙ ap (λ (a : List Lexeme). a ++ rest) (sym k) ∙ sym h ∙ append_assoc ws (w ∷ []) more) in
              cc same

  -- and it does not end there
  pub unended : (ws rest : List Lexeme) (m : State) → first_run first ws ≡ Some m → IsWaiting m.stack → ws ≡ xs ++ rest → ⊥
  unended ws rest m e g h = none_whole ws rest m e g h

-- ---- from the machine's stops to a language

-- What is of the language is empty, or begins with a writing that the machine takes.
abbrev pub IsLed : (Lexeme → Option Move) → (List Lexeme → Type 0) → Type 0
IsLed first L = (ws : List Lexeme) → L ws → (ws ≡ []) ⊎ ((xs rest : List Lexeme) × (b : List Note) × (ws ≡ xs ++ rest) × (first_run first xs ≡ Some (state [] b)))

module _ (first : Lexeme → Option Move) (L : List Lexeme → Type 0) (led : IsLed first L) where
  pub wrong : (ws : List Lexeme) (w : Lexeme) (m : State) → first_run first ws ≡ Some m → IsWaiting m.stack → first_run first (ws ++ w ∷ []) ≡ None
      → IsViable L (ws ++ w ∷ []) → ⊥
  wrong ws w m e g f (more, l) = by (led _ l)
    where
      by : (((ws ++ w ∷ []) ++ more) ≡ []) ⊎ ((xs rest : List Lexeme) × (b : List Note) × ((ws ++ w ∷ []) ++ more ≡ xs ++ rest) × (first_run first xs ≡ Some (state [] b))) → ⊥
      by (inl h) = let clash : ws ++ (w ∷ more) ≡ [] = sym (append_assoc ws (w ∷ []) more) ∙ h in not-empty ws w more clash
      by (inr (xs, rest, b, h, k)) = refused first xs b k ws rest more w m e g f h

  pub ending : (w : Lexeme) (ws : List Lexeme) (m : State) → first_run first (w ∷ ws) ≡ Some m → IsWaiting m.stack → L (w ∷ ws) → ⊥
  ending w ws m e g l = by (led (w ∷ ws) l)
    where
      by : (w ∷ ws ≡ []) ⊎ ((xs rest : List Lexeme) × (b : List Note) × (w ∷ ws ≡ xs ++ rest) × (first_run first xs ≡ Some (state [] b))) → ⊥
      by (inl h) = absurd (cc h)
      by (inr (xs, rest, b, h, k)) = unended first xs b k (w ∷ ws) rest m e g h

pub rest_led : (h : Form) → IsLed (step_part h) (IsRest h)
rest_led h ws ([], m, e) = inl e
rest_led h ws (p ∷ ps, m, e) = inr (text_lexemes h p [], texts_lexemes h ps [], text_notes p [], e ∙ text_splits h p [] (texts_lexemes h ps []), takes_text h p [] m.0)

pub whole_led : (h : Form) → IsLed (step_header h) (IsWhole h)
whole_led h ws (ps, m, e) = inr (text_lexemes h header [], texts_lexemes h ps [], [], e ∙ text_splits h header [] (texts_lexemes h ps []), takes_header h [])

-- ---- what the machine came through is a front

wanting : (h : Form) (ws us : List Lexeme) (p : PartText) (m : State) (b : List Note) → first_run (step_part h) ws ≡ Some m → IsWaiting m.stack → MayStand h p → ws ++ us ≡ text_lexemes h p [] → IsFront h ws
wanting h ws [] p m b e g s f =
    let same : Some m ≡ Some (state [] (text_notes p [])) = sym e ∙ ap (first_run (step_part h)) (sym (append-nil ws) ∙ f) ∙ takes_text h p [] s in
    absurd (subst IsWaiting (ap stack_of same) g)
wanting h ws (u ∷ us) p m b e g s f = (p, s, u, us, f)

part-of : (h : Form) (ws : List Lexeme) → BeginsSentence h [] ws → (p : PartText) × MayStand h p × (ws ≡ text_lexemes h p [])
part-of h ws (rest, (p, s, e), f) = (p, s, e ∙ ap (text_lexemes h p) f)

pub front : (h : Form) (ws : List Lexeme) (m : State) → first_run (step_part h) ws ≡ Some m → IsWaiting m.stack → IsFront h ws
front h [] m e g = (header, tt, _, _, refl)
front h (w ∷ ws) m e g =
    let c = closing m.stack m.made in
    let l = part-of h (w ∷ (ws ++ c.0)) (sound_sentence h w (ws ++ c.0) c.1 (ap finished (first_behind (step_part h) w ws c.0 m e) ∙ c.2)) in
    wanting h (w ∷ ws) c.0 l.0 m c.1 e g l.1 l.2

header-wanting : (h : Form) (ws us : List Lexeme) (m : State) → first_run (step_header h) ws ≡ Some m → IsWaiting m.stack → ws ++ us ≡ text_lexemes h header [] → (w : Lexeme) × (more : List Lexeme) × (ws ++ w ∷ more ≡ text_lexemes h header [])
header-wanting h ws [] m e g f =
    let same : Some m ≡ Some (state [] []) = sym e ∙ ap (first_run (step_header h)) (sym (append-nil ws) ∙ f) ∙ takes_header h [] in
    absurd (subst IsWaiting (ap stack_of same) g)
header-wanting h ws (u ∷ us) m e g f = (u, us, f)

pub header_front : (h : Form) (ws : List Lexeme) (m : State) → first_run (step_header h) ws ≡ Some m → IsWaiting m.stack → (w : Lexeme) × (more : List Lexeme) × (ws ++ w ∷ more ≡ text_lexemes h header [])
header_front h [] m e g = (_, _, refl)
header_front h (w ∷ ws) m e g =
    let c = closing m.stack m.made in
    let l = sound_header h w (ws ++ c.0) c.1 (ap finished (first_behind (step_header h) w ws c.0 m e) ∙ c.2) in
    header-wanting h (w ∷ ws) c.0 m e g (l.1 ∙ ap (text_lexemes h header) l.2)
