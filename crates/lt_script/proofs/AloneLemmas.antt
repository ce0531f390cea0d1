-- A type or a term alone: what the machine takes from one symbol on, and where it stops.
use Rattle.std.proofs.Common.{◌≡◌, ℕ, ◌∙◌, ap, ap₂, sym, refl, subst, inl, inr, List, [], ◌∷◌, ◌++◌, length, Option, Some, None, append-nil}
use Rattle.std.specs.Prelude.{◌⊎◌}
use Rattle.lt_texts.specs.declared.lexical.Lexed.{Lexed}
use Rattle.lt_texts.specs.declared.lexical.Lexed.TheVariants.{Token as One, End, BadByte as NoText, BadChar as NoToken}
use Rattle.lt_definitions.specs.Types.{TypeTree, type_variable, type_constructor, no_types, type_and}
use Rattle.lt_texts.specs.Texts.{Left, lexed, spelling}
use Rattle.lt_texts.specs.Lexemes.{Lexeme, lexeme, Spans}
use Rattle.lt_texts.specs.Reading.{Shows}
use Rattle.lt_texts.specs.Tokens.{Scanned}
use Rattle.lt_texts.specs.Reading.{IsNextToken}
use Rattle.lt_texts.specs.declared.lexical.TokenKind.TheVariants as kinds
use Rattle.lt_texts.specs.Lexemes.{a_name, a_sign}
use Rattle.lt_definitions.specs.Types.{Chars}
use Rattle.lt_texts.specs.Writing.{type_lexemes, TermText, word, bound, free, lambda, applied, term_of_text, term_lexemes}
use Rattle.lt_texts.specs.WrongPlaces.{Language, bad_syntax, IsViable, IsWrong, BeginsWithType, IsTypeAt, TypeFailsAt, EndsThere, EndsAt, BeginsWithTerm, IsTermAt, TermFailsAt}
use Rattle.lt_texts.proofs.Readings.{lexed_shown, spans_reads}
use Rattle.lt_grammar.proofs.Splits.{type_splits, term_splits}
use Rattle.lt_commands.specs.declared.note.Note.{Note}
use Rattle.lt_commands.specs.declared.note.Note.TheVariants.{ConstantName, NoArguments}
use Rattle.lt_commands.specs.Notes.{type_notes, term_notes}
use Rattle.lt_script.specs.declared.symbol.Symbol.{Symbol}
use Rattle.lt_script.specs.declared.symbol.Symbol.TheVariants.{«Type», Term, Brackets, Lines}
use Rattle.lt_script.specs.declared.read_error.ReadError.{ReadError}
use Rattle.lt_script.specs.declared.read_error.ReadError.TheVariants.{Syntax}
use Rattle.lt_script.specs.Machine.{Move, under, pass, step, or_pass, State, state, onward, run}
use Rattle.lt_script.specs.Promises.{as_wrong}
use Rattle.lt_script.specs.Stops.{IsWaiting, Reads, Stops, StopsAt}
use Rattle.lt_script.proofs.Taken.{first_run, takes_type, IsClosed, takes_closed}
use Rattle.lt_script.proofs.Sound.{sound, finished}
use Rattle.lt_script.proofs.Places.{IsLed, run_behind, closing, refused, wrong, ending}
use Rattle.lt_script.proofs.ToPieces.{token_there}
use Rattle.std.specs.Prelude.{Bool, true, false, reverse}
use Rattle.std.proofs.lemmas.List.{reverse-reverse}
use Rattle.lt_texts.specs.declared.lexical.Token.{Token as Placed}
use Rattle.lt_texts.proofs.Readings.{next_found}
use Rattle.lt_commands.specs.Making.{Made, nothing, put, put_all}
use Rattle.lt_script.specs.Machine.{step_on, Takes}
use Rattle.lt_script.specs.declared.symbol.Symbol.TheVariants.{Arguments}
use Rattle.lt_definitions.specs.Terms.{TermTree}
use Rattle.lt_grammar.specs.declared.words.Part.TheVariants.{AType, AStatement}
use Rattle.lt_commands.specs.declared.note.Note.TheVariants.{KeepType, KeepTerm}
use Rattle.lt_commands.specs.Making.{pop}
use Rattle.lt_commands.proofs.Makes.{type_alone, term_alone}
use Rattle.lt_script.specs.declared.read_error.ReadError.TheVariants.{BadHeader, BadCommand, BadByte, BadChar, Memory}
use Rattle.lt_script.specs.Marks.{ReadsLines}
use Rattle.lt_script.specs.Promises.{RefusesType}
use Rattle.lt_script.specs.Stops.{IsStopped}
use Rattle.lt_script.proofs.Spanning.{unmarked}
use Rattle.lt_script.specs.TermsAlone.{MakesTerm, is_brackets, IsOpening, IsOver}
use Rattle.lt_script.proofs.Comes.{Came, Comes, run-one, spans_source}

-- the first lexeme is taken by the one symbol
first-step : (x : Symbol) (w : Lexeme) (ws : List Lexeme) → pass x ≡ None → run (x ∷ []) [] (w ∷ ws) ≡ first_run (step x) (w ∷ ws)
first-step x w ws p =
    ap (λ (o : Option Note). onward (or_pass (under [] [] (step x w)) o None) (λ m. run m.pushed (m.made ++ []) ws)) p ∙ by (step x w)
  where
    by : (o : Option Move) → onward (or_pass (under [] [] o) None None) (λ m. run m.pushed (m.made ++ []) ws) ≡ onward o (λ m. run m.pushed m.made ws)
    by None = refl
    by (Some m) = ap₂ (λ (s : List Symbol) (b : List Note). run s b ws) (append-nil m.pushed) (append-nil (m.made ++ []) ∙ append-nil m.made)

-- ---- types

type-first : (ty : TypeTree) (rest : List Lexeme) → (w : Lexeme) × (ws : List Lexeme) × (type_lexemes ty rest ≡ w ∷ ws)
type-first (type_variable a) rest = (_, _, refl)
type-first (type_constructor c no_types) rest = (_, _, refl)
type-first (type_constructor c (type_and t ts)) rest = (_, _, refl)

type-led : IsLed (step «Type») BeginsWithType
type-led ws (ty, rest, e) =
    let f = type-first ty [] in
    inr (
      type_lexemes ty [],
      rest,
      type_notes ty [],
      e ∙ type_splits ty [] rest,
      ap (first_run (step «Type»)) f.2 ∙ sym (first-step «Type» f.0 f.1 refl) ∙ ap (run («Type» ∷ []) []) (sym f.2) ∙ takes_type ty [] [] [],
    )

pub type_reads : (s s' : Left) (b : List Note) → Reads («Type» ∷ []) [] s b s' → (ty : TypeTree) × IsTypeAt s ty s' × (b ≡ type_notes ty [])
type_reads s s' b (ws, spans, e) =
    let l = sound («Type» ∷ []) [] ws b (ap finished e) in
    let ty : TypeTree = l.1.0 in
    let same : ws ≡ type_lexemes ty [] = l.1.1 ∙ ap (type_lexemes ty) l.2 in
    let notes : Some (state [] b) ≡ Some (state [] (type_notes ty [])) = sym e ∙ ap (run («Type» ∷ []) []) same ∙ takes_type ty [] [] [] in
    (ty, spans_reads s (type_lexemes ty []) s' (subst (λ (z : List Lexeme). Spans s z s') same spans), ap made-of notes)
  where
    made-of : Option State → List Note
    made-of None = []
    made-of (Some m) = m.made

type-viable : (ws : List Lexeme) (m : State) → run («Type» ∷ []) [] ws ≡ Some m → IsViable BeginsWithType ws
type-viable ws m e =
    let c = closing m.stack m.made in
    let l = sound («Type» ∷ []) [] (ws ++ c.0) c.1 (ap finished (run_behind («Type» ∷ []) [] ws c.0 m e) ∙ c.2) in
    (c.0, (l.1.0, l.0, l.1.1))

no-type : (ws : List Lexeme) (m : State) → run («Type» ∷ []) [] ws ≡ Some m → IsWaiting m.stack → BeginsWithType ws → ⊥
no-type [] m e g (ty, rest, f) = let p = type-first ty rest in let clash : [] ≡ p.0 ∷ p.1 = f ∙ p.2 in absurd (cc clash)
no-type (w ∷ ws) m e g l = ending (step «Type») BeginsWithType type-led w ws m (sym (first-step «Type» w ws refl) ∙ e) g l

-- behind lexemes with which something is expected no type goes on with a lexeme that is refused
type-wrong : (ws : List Lexeme) (w : Lexeme) (m : State) → run («Type» ∷ []) [] ws ≡ Some m → IsWaiting m.stack → run («Type» ∷ []) [] (ws ++ w ∷ []) ≡ None
    → IsViable BeginsWithType (ws ++ w ∷ []) → ⊥
type-wrong [] w m e g f v = wrong (step «Type») BeginsWithType type-led [] w (state (Lines ∷ []) []) refl tt (sym (first-step «Type» w [] refl) ∙ f) v
type-wrong (x ∷ ws) w m e g f v =
    wrong (step «Type») BeginsWithType type-led (x ∷ ws) w m (sym (first-step «Type» x ws refl) ∙ e) g (sym (first-step «Type» x (ws ++ w ∷ []) refl) ∙ f) v

-- what stops the reading of something alone is wrong there
wrong-alone : (L : Language) (ws : List Lexeme) (at : Left) (l : Lexed) (e : ReadError) (x : Symbol) → lexed at ≡ l → (L ws → ⊥)
    → ((w : Lexeme) → run (x ∷ []) [] (ws ++ w ∷ []) ≡ None → IsViable L (ws ++ w ∷ []) → ⊥) → Stops (x ∷ []) [] Syntax ws at l e → IsWrong L bad_syntax ws at (as_wrong e)
wrong-alone L ws at (One t) e x g none refuses (c, r) =
    let k = token_there at t g in
    inr (inr (t.from, inl (k.0, k.1, k.2, λ v. refuses (lexeme t.kind (spelling at)) r (subst (λ (z : Lexeme). IsViable L (ws ++ z ∷ [])) (sym k.3) v)), ap as_wrong c))
wrong-alone L ws at End e x g none refuses c = inr (inr (length at.source, inr (subst (Shows at) g (lexed_shown at), refl, none), ap as_wrong c))
wrong-alone L ws at (NoText n) e x g none refuses c = inl (n, subst (Shows at) g (lexed_shown at), ap as_wrong c)
wrong-alone L ws at (NoToken n) e x g none refuses c = inr (inl (n, subst (Shows at) g (lexed_shown at), ap as_wrong c))

pub type_stops : (s : Left) (e : ReadError) → StopsAt («Type» ∷ []) [] Syntax s e → TypeFailsAt s (as_wrong e)
type_stops s e (ws, at, m, spans, q, waits, stops) = (
  ws,
  at,
  spans_reads s ws at spans,
  type-viable ws m q,
  no-type ws m q waits,
  wrong-alone BeginsWithType ws at (lexed at) e «Type» refl (no-type ws m q waits) (λ w r v. type-wrong ws w m q waits r v) stops,
)

-- ---- terms

closed-first : (x : TermText) (rest : List Lexeme) → (w : Lexeme) × (ws : List Lexeme) × (term_lexemes x rest ≡ w ∷ ws)
closed-first (word c ts) rest = (_, _, refl)
closed-first (bound x) rest = (_, _, refl)
closed-first (free x ty) rest = (_, _, refl)
closed-first (lambda x ty t) rest = (_, _, refl)
closed-first (applied f a more) rest = (_, _, refl)

-- a term is closed, or a name alone
abbrev Ends : TermText → Type 0
Ends x = IsClosed x ⊎ ((c : Chars) × (x ≡ word c []))

ends : (x : TermText) → Ends x
ends (word c []) = inr (c, refl)
ends (word c (t ∷ ts)) = inl tt
ends (bound x) = inl tt
ends (free x ty) = inl tt
ends (lambda x ty t) = inl tt
ends (applied f a more) = inl tt

closed-ends : (x : TermText) (s : Left) → IsClosed x → EndsAt x s
closed-ends (word c []) s k = absurd k
closed-ends (word c (t ∷ ts)) s k = tt
closed-ends (bound x) s k = tt
closed-ends (free x ty) s k = tt
closed-ends (lambda x ty t) s k = tt
closed-ends (applied f a more) s k = tt

ends-nowhere : (x : TermText) → EndsThere x []
ends-nowhere (word c []) = tt
ends-nowhere (word c (t ∷ ts)) = tt
ends-nowhere (bound x) = tt
ends-nowhere (free x ty) = tt
ends-nowhere (lambda x ty t) = tt
ends-nowhere (applied f a more) = tt

abbrev stack-of : Option State → List Symbol
stack-of None = []
stack-of (Some m) = m.stack

abbrev notes-of : Option State → List Note
notes-of None = []
notes-of (Some m) = m.made

-- where nothing more is expected, the term is closed
pub term_reads : (s s' : Left) (b : List Note) → Reads (Term ∷ []) [] s b s' → (x : TermText) × IsTermAt s (term_of_text x) s' × (b ≡ term_notes x [])
term_reads s s' b (ws, spans, e) =
    let l = sound (Term ∷ []) [] ws b (ap finished e) in
    let x : TermText = l.1.0 in
    let same : ws ≡ term_lexemes x [] = l.1.1 ∙ ap (term_lexemes x) l.2 in
    by x same (ends x)
  where
    by : (x : TermText) → ws ≡ term_lexemes x [] → Ends x → (x : TermText) × IsTermAt s (term_of_text x) s' × (b ≡ term_notes x [])
    by x same (inl k) =
        let notes : Some (state [] b) ≡ Some (state [] (term_notes x [])) = sym e ∙ ap (run (Term ∷ []) []) same ∙ takes_closed x [] [] [] k in
        (x, (x, refl, spans_reads s (term_lexemes x []) s' (subst (λ (z : List Lexeme). Spans s z s') same spans), closed-ends x s' k), ap notes-of notes)
    by x same (inr (c, q)) =
        let clash : [] ≡ Brackets ∷ [] = ap stack-of (sym e ∙ ap (run (Term ∷ []) []) (same ∙ ap (λ (y : TermText). term_lexemes y []) q)) in
        absurd (cc clash)

-- where only type arguments may still come, and none do, it is a name alone
pub name_reads : (s s' : Left) (b : List Note) → ((ws : List Lexeme) × Spans s ws s' × (run (Term ∷ []) [] ws ≡ Some (state (Brackets ∷ []) b)))
    → ((t : Scanned) → IsNextToken s' t → t.kind ≡ kinds.OpenSquare → ⊥) → (x : TermText) × IsTermAt s (term_of_text x) s' × (NoArguments ∷ b ≡ term_notes x [])
name_reads s s' b (ws, spans, e) clear =
    let l = sound (Term ∷ []) [] ws (NoArguments ∷ b) (ap finished e) in
    let x : TermText = l.1.0 in
    let same : ws ≡ term_lexemes x [] = l.1.1 ∙ ap (term_lexemes x) l.2 in
    by x same (ends x)
  where
    by : (x : TermText) → ws ≡ term_lexemes x [] → Ends x → (x : TermText) × IsTermAt s (term_of_text x) s' × (NoArguments ∷ b ≡ term_notes x [])
    by x same (inl k) =
        let clash : Brackets ∷ [] ≡ [] = ap stack-of (sym e ∙ ap (run (Term ∷ []) []) same ∙ takes_closed x [] [] [] k) in
        absurd (cc clash)
    by x same (inr (c, q)) =
        let there : ws ≡ a_name c ∷ [] = same ∙ ap (λ (y : TermText). term_lexemes y []) q in
        let notes : b ≡ ConstantName c ∷ [] = ap notes-of (sym e ∙ ap (run (Term ∷ []) []) there) in
        (word c [], (word c [], refl, spans_reads s (a_name c ∷ []) s' (subst (λ (z : List Lexeme). Spans s z s') there spans), clear), ap (λ (z : List Note). NoArguments ∷ z) notes)

term-viable : (ws : List Lexeme) (m : State) → run (Term ∷ []) [] ws ≡ Some m → IsViable BeginsWithTerm ws
term-viable ws m e =
    let c = closing m.stack m.made in
    let l = sound (Term ∷ []) [] (ws ++ c.0) c.1 (ap finished (run_behind (Term ∷ []) [] ws c.0 m e) ∙ c.2) in
    (c.0, (l.1.0, [], l.1.1 ∙ ap (term_lexemes l.1.0) l.2, ends-nowhere l.1.0))

-- behind a name alone nothing else is taken
name-stops : (c : Chars) (rest : List Lexeme) (m : State) → run (Term ∷ []) [] (a_name c ∷ rest) ≡ Some m → EndsThere (word c []) rest → (rest ≡ []) × (m.stack ≡ Brackets ∷ [])
name-stops c [] m e k = (refl, ap stack-of (sym e))
name-stops c (a_sign kinds.OpenSquare ∷ rest) m e k = absurd k
name-stops c (r ∷ rest) m e k = absurd (cc e)

-- behind a closed term nothing is taken
closed-stops : (x : TermText) (rest : List Lexeme) (m : State) → IsClosed x → run (Term ∷ []) [] (term_lexemes x rest) ≡ Some m → m.stack ≡ []
closed-stops x [] m k e = sym (ap stack-of (sym (takes_closed x [] [] [] k) ∙ e))
closed-stops x (r ∷ rest) m k e = let clash : None ≡ Some m = sym (takes_closed x [] [] (r ∷ rest) k) ∙ e in absurd (cc clash)

no-term : (ws : List Lexeme) (m : State) → run (Term ∷ []) [] ws ≡ Some m → IsWaiting m.stack → (m.stack ≡ Brackets ∷ [] → ⊥) → BeginsWithTerm ws → ⊥
no-term ws m e g n (x, rest, f, k) = by (ends x)
  where
    by : Ends x → ⊥
    by (inl c) = subst IsWaiting (closed-stops x rest m c (sym (ap (run (Term ∷ []) []) f) ∙ e)) g
    by (inr (c, q)) =
        n (name-stops c rest m (sym (ap (run (Term ∷ []) []) (f ∙ ap (λ (y : TermText). term_lexemes y rest) q)) ∙ e) (subst (λ (y : TermText). EndsThere y rest) q k)).1

-- only the first lexeme counts
first-alone : (c : Chars) (r : Lexeme) (us vs : List Lexeme) → EndsThere (word c []) (r ∷ us) → EndsThere (word c []) (r ∷ vs)
first-alone c (a_sign kinds.OpenSquare) us vs k = absurd k
first-alone c r us vs k = tt

term-wrong : (ws : List Lexeme) (w : Lexeme) (m : State) → run (Term ∷ []) [] ws ≡ Some m → IsWaiting m.stack → (m.stack ≡ Brackets ∷ [] → ⊥)
    → run (Term ∷ []) [] (ws ++ w ∷ []) ≡ None → IsViable BeginsWithTerm (ws ++ w ∷ []) → ⊥
term-wrong ws w m e g n f (more, (x, rest, h, k)) = by ws e f h (ends x)
  where
    by : (ws : List Lexeme) → run (Term ∷ []) [] ws ≡ Some m → run (Term ∷ []) [] (ws ++ w ∷ []) ≡ None → (ws ++ w ∷ []) ++ more ≡ term_lexemes x rest → Ends x → ⊥
    by [] e f h (inl c) =
        let p = closed-first x [] in
        let whole : first_run (step Term) (term_lexemes x []) ≡ Some (state [] (term_notes x [])) =
        ap (first_run (step Term)) p.2 ∙ sym (first-step Term p.0 p.1 refl) ∙ ap (run (Term ∷ []) []) (sym p.2) ∙ takes_closed x [] [] [] c in
        refused (step Term) (term_lexemes x []) (term_notes x []) whole [] rest more w (state (Lines ∷ []) []) refl tt (sym (first-step Term w [] refl) ∙ f) (h ∙ term_splits x [] rest)
    by (v ∷ ws) e f h (inl c) =
        let p = closed-first x [] in
        let whole : first_run (step Term) (term_lexemes x []) ≡ Some (state [] (term_notes x [])) =
        ap (first_run (step Term)) p.2 ∙ sym (first-step Term p.0 p.1 refl) ∙ ap (run (Term ∷ []) []) (sym p.2) ∙ takes_closed x [] [] [] c in
        refused (step Term) (term_lexemes x []) (term_notes x []) whole (v ∷ ws) rest more w m (sym (first-step Term v ws refl) ∙ e) g (sym (first-step Term v (ws ++ w ∷ []) refl) ∙ f) (h ∙ term_splits x [] rest)
    by [] e f h (inr (c, q)) =
        let there : w ∷ more ≡ a_name c ∷ rest = h ∙ ap (λ (y : TermText). term_lexemes y rest) q in
        let same : w ≡ a_name c = cc there in
        let clash : None ≡ Some (state (Brackets ∷ []) (ConstantName c ∷ [])) = sym f ∙ ap (λ (z : Lexeme). run (Term ∷ []) [] (z ∷ [])) same in
        absurd (cc clash)
    by (v ∷ []) e f h (inr (c, q)) =
        let there : v ∷ w ∷ more ≡ a_name c ∷ rest = h ∙ ap (λ (y : TermText). term_lexemes y rest) q in
        let same : v ≡ a_name c = cc there in
        n (sym (ap stack-of (sym (ap (λ (z : Lexeme). run (Term ∷ []) [] (z ∷ [])) same) ∙ e)))
    by (v ∷ r ∷ ws) e f h (inr (c, q)) =
        let there : v ∷ ((r ∷ ws) ++ w ∷ []) ++ more ≡ a_name c ∷ rest = h ∙ ap (λ (y : TermText). term_lexemes y rest) q in
        let same : v ≡ a_name c = cc there in
        let behind : r ∷ ((ws ++ w ∷ []) ++ more) ≡ rest = cc there in
        let there_too : EndsThere (word c []) (r ∷ ((ws ++ w ∷ []) ++ more)) = subst (λ (z : List Lexeme). EndsThere (word c []) z) (sym behind) (subst (λ (y : TermText). EndsThere y rest) q k) in
        let stops = name-stops c (r ∷ ws) m (sym (ap (λ (z : Lexeme). run (Term ∷ []) [] (z ∷ r ∷ ws)) same) ∙ e) (first-alone c r ((ws ++ w ∷ []) ++ more) ws there_too) in
        let none = stops.0 in
        absurd (cc none)

pub term_stops : (s : Left) (e : ReadError) → ((ws : List Lexeme) × (at : Left) × (m : State) × Spans s ws at × (run (Term ∷ []) [] ws ≡ Some m) × IsWaiting m.stack × (m.stack ≡ Brackets ∷ [] → ⊥)
    × Stops (Term ∷ []) [] Syntax ws at (lexed at) e) → TermFailsAt s (as_wrong e)
term_stops s e (ws, at, m, spans, q, waits, n, stops) = (
  ws,
  at,
  spans_reads s ws at spans,
  term-viable ws m q,
  no-term ws m q waits n,
  wrong-alone BeginsWithTerm ws at (lexed at) e Term refl (no-term ws m q waits n) (λ w r v. term-wrong ws w m q waits n r v) stops,
)

-- ---- the reader's steps

brackets-alone : (st : List Symbol) → is_brackets st ≡ true → st ≡ Brackets ∷ []
brackets-alone [] e = absurd (cc e)
brackets-alone (Brackets ∷ []) e = refl
brackets-alone (Brackets ∷ y ∷ st) e = absurd (cc e)
brackets-alone (x ∷ st) e = absurd (cc e)

pub over_brackets : (st : List Symbol) → is_brackets st ≡ true → reverse st ≡ Brackets ∷ []
over_brackets st e = ap reverse (brackets-alone st e)

brackets-back : (st : List Symbol) → reverse st ≡ Brackets ∷ [] → is_brackets st ≡ true
brackets-back st e = ap is_brackets (sym (reverse-reverse st) ∙ ap reverse e)

pub goes_on : (y : Bool) (st : List Symbol) (s : Left) → IsOver y st s → y ≡ false → reverse st ≡ Brackets ∷ [] → IsOpening (lexed s)
goes_on true st s o e q = absurd (cc e)
goes_on false st s o e q = o (brackets-back st q)

pub over : (y : Bool) (st : List Symbol) (s : Left) → IsOver y st s → y ≡ true → (reverse st ≡ Brackets ∷ []) × (IsOpening (lexed s) → ⊥)
over true st s o e = (over_brackets st o.0, o.1)
over false st s o e = absurd (cc e)

-- where an opening bracket may stand and does, nothing stops
stops-elsewhere : (s s' : Left) (st : List Symbol) (b : List Note) (l : Lexed) (e : ReadError) (c : Came (Term ∷ []) [] s s' st b) → (st ≡ Brackets ∷ [] → IsOpening l)
    → Stops (Term ∷ []) [] Syntax c.0 s' l e → st ≡ Brackets ∷ [] → ⊥
stops-elsewhere s s' st b (One t) e c g k q =
    let kind : t.kind ≡ kinds.OpenSquare = g q in
    let clash : None ≡ Some (state («Type» ∷ Arguments ∷ []) b) =
    sym k.1 ∙ run-one (Term ∷ []) [] c.0 (lexeme t.kind (spelling s')) st b c.2
    ∙ (λ i. onward (step_on (q i) (lexeme (kind i) (spelling s'))) (λ m. Some (state m.pushed (m.made ++ b)))) in
    absurd (cc clash)
stops-elsewhere s s' st b l e c g k q = absurd (g q)

pub term_stopped : (s s' : Left) (st : List Symbol) (b : List Note) (l : Lexed) (e : ReadError) (c : Came (Term ∷ []) [] s s' st b) → l ≡ lexed s' → (st ≡ Brackets ∷ [] → IsOpening (lexed s'))
    → Stops (Term ∷ []) [] Syntax c.0 s' l e → TermFailsAt s (as_wrong e)
term_stopped s s' st b l e c f g k =
    let there : Stops (Term ∷ []) [] Syntax c.0 s' (lexed s') e = subst (λ (z : Lexed). Stops (Term ∷ []) [] Syntax c.0 s' z e) f k in
    term_stops s e (c.0, s', state st b, c.1, c.2, c.3, stops-elsewhere s s' st b (lexed s') e c g there, there)

pub term_refused : (s s' : Left) (st st' : List Symbol) (b b' : List Note) (t : Placed) (w : Lexeme) (y : Bool) (c : Came (Term ∷ []) [] s s' st b) → One t ≡ lexed s' → (st ≡ Brackets ∷ [] → IsOpening (lexed s'))
    → w ≡ lexeme t.kind (spelling s') → y ≡ false → Takes y (step_on st w) st' b b' → TermFailsAt s (bad_syntax t.from)
term_refused s s' st st' b b' t w true c f g k q m = absurd (cc q)
term_refused s s' st st' b b' t w false c f g k q m =
    term_stopped s s' st b (One t) (Syntax t.from) c f g (
      refl,
      ap (λ (z : Lexeme). run (Term ∷ []) [] (c.0 ++ z ∷ [])) (sym k) ∙ run-one (Term ∷ []) [] c.0 w st b c.2
          ∙ ap (λ (o : Option Move). onward o (λ m. Some (state m.pushed (m.made ++ b)))) m,
    )

pub term_unended : (s s' : Left) (st : List Symbol) (b : List Note) (end : ℕ) (c : Came (Term ∷ []) [] s s' st b) → End ≡ lexed s' → (st ≡ Brackets ∷ [] → IsOpening (lexed s')) → end ≡ length s.source
    → TermFailsAt s (bad_syntax end)
term_unended s s' st b end c f g h =
    term_stopped s s' st b End (Syntax end) c f g (ap Syntax (h ∙ sym (ap length (spans_source s c.0 s' c.1))))

pub term_made : (s s' : Left) (b : List Note) (m : Made) → Reads (Term ∷ []) [] s b s' → m ≡ put_all b nothing → MakesTerm s s' m
term_made s s' b m r e =
    let t = term_reads s s' b r in
    (t.0, t.1, e ∙ ap (λ (z : List Note). put_all z nothing) t.2)

clear-there : (s : Left) → (IsOpening (lexed s) → ⊥) → (t : Scanned) → IsNextToken s t → t.kind ≡ kinds.OpenSquare → ⊥
clear-there s clear t n k = clear (subst IsOpening (sym (next_found s t n).token) k)

pub name_made : (s s' : Left) (st : List Symbol) (b : List Note) (m m' : Made) → Comes (Term ∷ []) [] s s' st b → st ≡ Brackets ∷ [] → (IsOpening (lexed s') → ⊥) → m ≡ put_all b nothing
    → m' ≡ put NoArguments m → MakesTerm s s' m'
name_made s s' st b m m' (ws, spans, e) q clear f g =
    let t = name_reads s s' b (ws, spans, e ∙ ap (λ (z : List Symbol). Some (state z b)) q) (clear-there s' clear) in
    (t.0, t.1, g ∙ ap (put NoArguments) f ∙ ap (λ (z : List Note). put_all z nothing) t.2)

-- ---- what the reader answers

pub one_pushed : (x : Symbol) (st st' : List Symbol) → st ≡ [] → st' ≡ st ++ x ∷ [] → reverse st' ≡ x ∷ []
one_pushed x st st' e f = ap reverse (f ∙ ap (λ (z : List Symbol). z ++ x ∷ []) e)

pub type_read : (st : List Symbol) (s s' : Left) (b : List Note) (places : List ℕ) (m : Made) (o : Option TypeTree) → st ≡ «Type» ∷ [] → ReadsLines st [] s b places s' → m ≡ put_all b nothing
    → o ≡ (pop AType (put KeepType m)).0 → (ty : TypeTree) × IsTypeAt s ty s' × (o ≡ Some ty)
type_read st s s' b places m o e r f g =
    let t = type_reads s s' b (unmarked («Type» ∷ []) [] b s s' places (subst (λ (z : List Symbol). ReadsLines z [] s b places s') e r)) in
    (t.0, t.1, g ∙ ap (λ (z : Made). (pop AType (put KeepType z)).0) (f ∙ ap (λ (z : List Note). put_all z nothing) t.2) ∙ type_alone t.0)

type-error : (s : Left) (e : ReadError) → IsStopped («Type» ∷ []) [] Syntax s e → RefusesType s e
type-error s Memory h = tt
type-error s (BadHeader n) h = type_stops s (BadHeader n) h
type-error s (BadCommand n) h = type_stops s (BadCommand n) h
type-error s (Syntax n) h = type_stops s (Syntax n) h
type-error s (BadByte n) h = type_stops s (BadByte n) h
type-error s (BadChar n) h = type_stops s (BadChar n) h

pub type_refused : (st : List Symbol) (s : Left) (e : ReadError) → st ≡ «Type» ∷ [] → IsStopped st [] Syntax s e → RefusesType s e
type_refused st s e q h = type-error s e (subst (λ (z : List Symbol). IsStopped z [] Syntax s e) q h)

pub term_read : (s s' : Left) (m : Made) (o : Option TermTree) → MakesTerm s s' m → o ≡ (pop AStatement (put KeepTerm m)).0
    → (x : TermText) × IsTermAt s (term_of_text x) s' × (o ≡ Some (term_of_text x))
term_read s s' m o (x, t, e) g = (x, t, g ∙ ap (λ (z : Made). (pop AStatement (put KeepTerm z)).0) e ∙ term_alone x)
