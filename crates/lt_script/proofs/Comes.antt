-- The reader's steps, over plain states.
use Rattle.std.proofs.Common.{◌≡◌, ℕ, ◌<◌, ◌≤◌, ◌∙◌, ap, sym, refl, subst, Bool, true, false, List, [], ◌∷◌, ◌++◌, length, Option, Some, None, arith}
use Rattle.std.specs.Prelude.{zero, suc, ◌==◌}
use Rattle.lt_texts.specs.declared.lexical.Token.{Token}
use Rattle.lt_texts.specs.declared.lexical.Lexed.{Lexed}
use Rattle.lt_texts.specs.declared.lexical.Lexed.TheVariants.{Token as One, End, BadByte as NoText, BadChar as NoToken}
use Rattle.lt_texts.specs.Tokens.{Scanned, token_at}
use Rattle.lt_texts.specs.Texts.{Left, lexed, after, after_by, past_gap, spelling, IsToken}
use Rattle.lt_texts.specs.Lexemes.{Lexeme, lexeme, IsNextLexeme, Spans}
use Rattle.lt_texts.proofs.TokenTexts.{token_shortens}
use Rattle.lt_script.specs.declared.symbol.Symbol.{Symbol}
use Rattle.lt_commands.specs.declared.note.Note.{Note}
use Rattle.lt_script.specs.declared.read_error.ReadError.{ReadError}
use Rattle.lt_script.specs.declared.read_error.ReadError.TheVariants.{BadHeader, BadCommand, Syntax, BadByte, BadChar, Memory}
use Rattle.lt_script.specs.Machine.{Move, step_on, step_part, state, onward, run, Takes}
use Rattle.lt_texts.specs.Forms.{Form}
use Rattle.lt_script.specs.declared.reading.Next.{Next}
use Rattle.lt_script.specs.declared.reading.Next.TheVariants.{Begins, Other}
use Rattle.lt_script.specs.Stops.{IsWaiting, Reads, Stops, StopsAt, IsStopped, SaysNext, Heads}
use Rattle.lt_script.proofs.Places.{run_behind}

-- the reader came from s to s', with this stack and these notes, and something is expected
abbrev pub Came : List Symbol → List Note → Left → Left → List Symbol → List Note → Type 0
Came s0 b0 s s' st b = (ws : List Lexeme) × Spans s ws s' × (run s0 b0 ws ≡ Some (state st b)) × IsWaiting st

-- ---- the places on the way

source-by : (s : Left) (o : Option Scanned) → (after_by s o).source ≡ s.source
source-by s None = refl
source-by s (Some t) = refl

pub after_source : (s : Left) → (after s).source ≡ s.source
after_source s = source-by s (token_at (past_gap s))

pub spans_source : (s : Left) (ws : List Lexeme) (s' : Left) → Spans s ws s' → s'.source ≡ s.source
spans_source s [] s' e = ap (λ (x : Left). x.source) e
spans_source s (w ∷ ws) s' (n, e) = spans_source (after s) ws s' e ∙ after_source s

pub spans_no_longer : (s : Left) (ws : List Lexeme) (s' : Left) → Spans s ws s' → length s'.ahead ≤ length s.ahead
spans_no_longer s [] s' e = let same : length s'.ahead ≡ length s.ahead = ap (λ (x : Left). length x.ahead) e in omega arith
spans_no_longer s (w ∷ ws) s' (n, e) =
    let later : length s'.ahead ≤ length (after s).ahead = spans_no_longer (after s) ws s' e in
    let here : length (after s).ahead < length s.ahead = token_shortens s (subst IsToken (sym n.found) tt) in
    omega arith

pub spans-snoc : (s s' : Left) (ws : List Lexeme) (w : Lexeme) → Spans s ws s' → IsNextLexeme s' w → Spans s (ws ++ w ∷ []) (after s')
spans-snoc s s' [] w e n = (subst (λ (x : Left). IsNextLexeme x w) e n, ap after e)
spans-snoc s s' (v ∷ ws) w (m, e) n = (m, spans-snoc (after s) s' ws w e n)

module _ (s0 : List Symbol) (b0 : List Note) where
  pub run-one : (ws : List Lexeme) (w : Lexeme) (st : List Symbol) (b : List Note) → run s0 b0 ws ≡ Some (state st b)
      → run s0 b0 (ws ++ w ∷ []) ≡ onward (step_on st w) (λ m. Some (state m.pushed (m.made ++ b)))
  run-one ws w st b e = run_behind s0 b0 ws (w ∷ []) (state st b) e

  pub run-by : (o : Option Move) (st : List Symbol) (b b' : List Note) (y : Bool) → y ≡ true → Takes y o st b b'
      → onward o (λ m. Some (state m.pushed (m.made ++ b))) ≡ Some (state st b')
  run-by (Some m) st b b' true q (e, f) = λ i. Some (state (sym e i) (sym f i))
  run-by None st b b' true q h = absurd h
  run-by o st b b' false q h = absurd (cc q)

  -- lexemes that were read
  abbrev pub Comes : Left → Left → List Symbol → List Note → Type 0
  Comes s s' st b = (ws : List Lexeme) × Spans s ws s' × (run s0 b0 ws ≡ Some (state st b))

  abbrev pub comes_on : (s s' s'' : Left) (st st' : List Symbol) (b b' : List Note) (t : Token) (w : Lexeme) (y : Bool)
      → Came s0 b0 s s' st b → One t ≡ lexed s' → s'' ≡ after s' → w ≡ lexeme t.kind (spelling s') → y ≡ true → Takes y (step_on st w) st' b b'
      → Comes s s'' st' b'
  comes_on s s' s'' st st' b b' t w y (ws, spans, e, waits) f g k q m = (
    ws ++ w ∷ [],
    subst (Spans s (ws ++ w ∷ [])) (sym g) (spans-snoc s s' ws w spans (record { placed = t; found = sym f; same = k })),
    run-one ws w st b e ∙ run-by (step_on st w) st' b b' y q m,
  )

  pub waits : (st : List Symbol) (n : ℕ) → length st ≡ n → 0 < n → IsWaiting st
  waits [] n e h = absurd (omega arith)
  waits (x ∷ st) n e h = tt

  abbrev pub came_on : (s s' : Left) (st : List Symbol) (b : List Note) → Comes s s' st b → 0 < length st → Came s0 b0 s s' st b
  came_on s s' st b (ws, spans, e) some = (ws, spans, e, waits st (length st) refl some)

  pub no-symbols : (st : List Symbol) → length st ≡ 0 → st ≡ []
  no-symbols [] e = refl
  no-symbols (x ∷ st) e = absurd (omega (arith, e))

  abbrev pub came_to : (s s' : Left) (st : List Symbol) (b : List Note) → Comes s s' st b → length st ≡ 0 → Reads s0 b0 s b s'
  came_to s s' st b (ws, spans, e) none = (ws, spans, e ∙ ap (λ (z : List Symbol). Some (state z b)) (no-symbols st none))

  abbrev pub came_first : (s : Left) (st : List Symbol) (b : List Note) → st ≡ s0 → b ≡ b0 → IsWaiting s0 → Came s0 b0 s s st b
  came_first s st b e f w = ([], refl, λ i. Some (state (sym e i) (sym f i)), subst IsWaiting (sym e) w)

  -- ---- the ways to stop

  is-stopped : (call : ℕ → ReadError) (s : Left) (e : ReadError) → StopsAt s0 b0 call s e → IsStopped s0 b0 call s e
  is-stopped call s Memory h = tt
  is-stopped call s (BadHeader n) h = h
  is-stopped call s (BadCommand n) h = h
  is-stopped call s (Syntax n) h = h
  is-stopped call s (BadByte n) h = h
  is-stopped call s (BadChar n) h = h

  stopped : (call : ℕ → ReadError) (s s' : Left) (st : List Symbol) (b : List Note) (l : Lexed) (e : ReadError) (c : Came s0 b0 s s' st b) → l ≡ lexed s'
      → Stops s0 b0 call c.0 s' l e → IsStopped s0 b0 call s e
  stopped call s s' st b l e (ws, spans, q, g) f k = is-stopped call s e (ws, s', state st b, spans, q, g, subst (λ (z : Lexed). Stops s0 b0 call ws s' z e) f k)

  pub stops_at_byte : (call : ℕ → ReadError) (s s' : Left) (st : List Symbol) (b : List Note) (n : ℕ) → Came s0 b0 s s' st b → NoText n ≡ lexed s' → IsStopped s0 b0 call s (BadByte n)
  stops_at_byte call s s' st b n c f = stopped call s s' st b (NoText n) (BadByte n) c f refl

  pub stops_at_char : (call : ℕ → ReadError) (s s' : Left) (st : List Symbol) (b : List Note) (n : ℕ) → Came s0 b0 s s' st b → NoToken n ≡ lexed s' → IsStopped s0 b0 call s (BadChar n)
  stops_at_char call s s' st b n c f = stopped call s s' st b (NoToken n) (BadChar n) c f refl

  pub stops_at_end : (call : ℕ → ReadError) (s s' : Left) (st : List Symbol) (b : List Note) (end : ℕ) (e : ReadError) → Came s0 b0 s s' st b → End ≡ lexed s' → end ≡ length s.source → e ≡ call end
      → IsStopped s0 b0 call s e
  stops_at_end call s s' st b end e c f g h = stopped call s s' st b End e c f (h ∙ ap call (g ∙ sym (ap length (spans_source s c.0 s' c.1))))

  refused-by : (o : Option Move) (st : List Symbol) (b b' : List Note) (y : Bool) → y ≡ false → Takes y o st b b' → o ≡ None
  refused-by o st b b' false q h = h
  refused-by o st b b' true q h = absurd (cc q)

  pub stops_at_token : (call : ℕ → ReadError) (s s' : Left) (st st' : List Symbol) (b b' : List Note) (t : Token) (w : Lexeme) (y : Bool) (e : ReadError)
      → Came s0 b0 s s' st b → One t ≡ lexed s' → w ≡ lexeme t.kind (spelling s') → y ≡ false → Takes y (step_on st w) st' b b' → e ≡ call t.from → IsStopped s0 b0 call s e
  stops_at_token call s s' st st' b b' t w y e c f k q m h =
      stopped call s s' st b (One t) e c f (
        h,
        ap (λ (z : Lexeme). run s0 b0 (c.0 ++ z ∷ [])) (sym k) ∙ run-one c.0 w st b c.2
            ∙ ap (λ (o : Option Move). onward o (λ m. Some (state m.pushed (m.made ++ b)))) (refused-by (step_on st w) st' b b' y q m),
      )

pub is_some : (n : ℕ) → false ≡ (n == 0) → 0 < n
is_some zero e = absurd (cc e)
is_some (suc n) e = omega arith

-- what begins where a part may begin
pub says_next : (h : Form) (s s' : Left) (t : Token) (w : Lexeme) (n : Next) → One t ≡ lexed s → s' ≡ after s → w ≡ lexeme t.kind (spelling s) → Heads h w t.from n → SaysNext h s s' n
says_next h s s' t w (Begins k at) f g k' (q, c, e, i) = (c, t, sym f, q, sym e ∙ k', i, g)
says_next h s s' t w (Other at) f g k (q, i) = (t, sym f, q, ap (step_part h) (sym k) ∙ i)
says_next h s s' t w _ f g k i = absurd i
