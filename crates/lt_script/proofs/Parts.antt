-- Parts of a text, one behind another, and what the machine's stops are called.
use Rattle.std.proofs.Common.{◌≡◌, ℕ, ◌∙◌, ap, sym, refl, subst, Bool, true, false, List, [], ◌∷◌, ◌++◌, length, Option, Some, None, append_assoc}
use Rattle.std.specs.Prelude.{if◌then◌else◌, bytes_eq}
use Rattle.std.proofs.lemmas.Slice.Eq.{bytes_eq-Decides}
use Rattle.lt_texts.specs.declared.lexical.Lexed.{Lexed}
use Rattle.lt_texts.specs.declared.lexical.Lexed.TheVariants.{Token as One, End, BadByte as NoText, BadChar as NoToken}
use Rattle.lt_definitions.specs.Types.{Chars}
use Rattle.lt_texts.specs.Texts.{Left, lexed, after, spelling}
use Rattle.lt_texts.specs.Lexemes.{Lexeme, a_name, lexeme, IsNextLexeme, Spans}
use Rattle.lt_texts.specs.Forms.{Form}
use Rattle.lt_grammar.specs.declared.words.Head.{Head}
use Rattle.lt_grammar.specs.declared.words.Head.TheVariants.{Header}
use Rattle.lt_grammar.specs.RowTexts.{PartText, header, text_lexemes, texts_lexemes, MayStand, MayStandAll}
use Rattle.lt_grammar.specs.Words.{head_of}
use Rattle.lt_grammar.proofs.Distinct.{found_head, head_found}
use Rattle.lt_grammar.proofs.RowReading.{one_part, part_not_empty}
use Rattle.lt_script.specs.declared.symbol.Symbol.{Symbol}
use Rattle.lt_script.specs.declared.symbol.Symbol.TheVariants.{Lines}
use Rattle.lt_script.specs.declared.read_error.ReadError.{ReadError}
use Rattle.lt_script.specs.declared.read_error.ReadError.TheVariants.{BadHeader, BadCommand, Syntax, BadByte, BadChar}
use Rattle.lt_commands.specs.declared.note.Note.{Note}
use Rattle.lt_commands.specs.Notes.{text_notes}
use Rattle.lt_script.specs.Machine.{Move, expected, part_move, header_move, step_part, step_header, State, state, onward, run}
use Rattle.lt_script.specs.Stops.{IsWaiting, Reads, StopsBy, Stops, StopsAt, call_of}
use Rattle.lt_script.specs.Reading.{IsWhole, IsRest, IsViable, called, IsWrong, AreHeaders, FailsAt, HeaderFailsAt, NextText, AtEnd}
use Rattle.lt_script.proofs.Taken.{first_run, takes_text}
use Rattle.lt_script.proofs.Sound.{BeginsSentence, sound_sentence, sound_header, finished}
use Rattle.lt_grammar.proofs.Splits.{text_splits}
use Rattle.lt_script.proofs.Places.{wrong, ending, rest_led, whole_led, front, header_front}

-- ---- places, one behind another

pub spans_append : (s t u : Left) (xs ys : List Lexeme) → Spans s xs t → Spans t ys u → Spans s (xs ++ ys) u
spans_append s t u [] ys e f = subst (λ (x : Left). Spans x ys u) e f
spans_append s t u (x ∷ xs) ys (n, e) f = (n, spans_append (after s) t u xs ys e f)

module _ (h : Form) where
  pub texts_split : (ps : List PartText) (x : List Lexeme) → texts_lexemes h ps x ≡ texts_lexemes h ps [] ++ x
  texts_split [] x = refl
  texts_split (p ∷ ps) x =
      ap (text_lexemes h p) (texts_split ps x) ∙ text_splits h p (texts_lexemes h ps []) x

  pub spans_texts : (s t u : Left) (ps : List PartText) (ws : List Lexeme) → Spans s (texts_lexemes h ps []) t → Spans t ws u → Spans s (texts_lexemes h ps ws) u
  spans_texts s t u ps ws e f = subst (λ (z : List Lexeme). Spans s z u) (sym (texts_split ps ws)) (spans_append s t u (texts_lexemes h ps []) ws e f)

  -- ---- headers are passed over

  abbrev pub Past : Left → Left → Type 0
  Past s s' = (ps : List PartText) × AreHeaders ps × Spans s (texts_lexemes h ps []) s'

  pub past_none : (s : Left) → Past s s
  past_none s = ([], tt, refl)

  headers-snoc : (ps : List PartText) → AreHeaders ps → AreHeaders (ps ++ header ∷ [])
  headers-snoc [] a = (refl, tt)
  headers-snoc (p ∷ ps) (e, a) = (e, headers-snoc ps a)

  texts-snoc : (ps : List PartText) (p : PartText) → texts_lexemes h ps (text_lexemes h p []) ≡ texts_lexemes h (ps ++ p ∷ []) []
  texts-snoc [] p = refl
  texts-snoc (q ∷ ps) p = ap (text_lexemes h q) (texts-snoc ps p)

  pub past_on : (s s' s'' : Left) → Past s s' → Spans s' (text_lexemes h header []) s'' → Past s s''
  past_on s s' s'' (ps, a, e) f = (
    ps ++ header ∷ [],
    headers-snoc ps a,
    subst (λ (z : List Lexeme). Spans s z s'') (texts-snoc ps header) (spans_texts s s' s'' ps (text_lexemes h header []) e f),
  )

  pub past_to : (s s' s'' : Left) (p : PartText) → Past s s' → MayStand h p → (p ≡ header → ⊥) → Spans s' (text_lexemes h p []) s'' → NextText h s p s''
  past_to s s' s'' p (ps, a, e) m n f = (ps, a, m, n, spans_texts s s' s'' ps (text_lexemes h p []) e f)

  pub past_end : (s s' : Left) → Past s s' → lexed s' ≡ End → AtEnd h s
  past_end s s' (ps, a, e) f = (ps, s', a, e, f)

  -- ---- what goes on behind headers is what goes on behind their end

  pub stand_all : (ps : List PartText) → AreHeaders ps → MayStandAll h ps
  stand_all [] a = tt
  stand_all (p ∷ ps) (e, a) = (subst (MayStand h) (sym e) tt, stand_all ps a)

  pub strip : (ps : List PartText) (us : List Lexeme) → MayStandAll h ps → IsRest h (texts_lexemes h ps us) → IsRest h us
  strip [] us a r = r
  strip (p ∷ ps) us a ([], m, e) = absurd (part_not_empty h p _ (sym e))
  strip (p ∷ ps) us a (q ∷ qs, m, e) = let one = one_part h p q _ _ a.0 m.0 e in strip ps us a.1 (qs, m.1, one.1)

  onto : (ps : List PartText) (us : List Lexeme) → MayStandAll h ps → IsRest h us → IsRest h (texts_lexemes h ps us)
  onto [] us a r = r
  onto (p ∷ ps) us a r = let g = onto ps us a.1 r in (p ∷ g.0, (a.0, g.1), ap (text_lexemes h p) g.2)

  texts-front : (ps : List PartText) (ws more : List Lexeme) → texts_lexemes h ps ws ++ more ≡ texts_lexemes h ps (ws ++ more)
  texts-front ps ws more =
      ap (λ (z : List Lexeme). z ++ more) (texts_split ps ws) ∙ append_assoc (texts_lexemes h ps []) ws more ∙ sym (texts_split ps (ws ++ more))

  viable-off : (ps : List PartText) (ws : List Lexeme) → MayStandAll h ps → IsViable (IsRest h) (texts_lexemes h ps ws) → IsViable (IsRest h) ws
  viable-off ps ws a (more, r) = (more, strip ps (ws ++ more) a (subst (IsRest h) (texts-front ps ws more) r))

  wrong-on : (ps : List PartText) (call : ℕ → ReadError) (ws : List Lexeme) (s : Left) (l : Lexed) (e : ReadError) → MayStandAll h ps
      → IsWrong (IsRest h) call ws s l e → IsWrong (IsRest h) call (texts_lexemes h ps ws) s l e
  wrong-on ps call ws s (One t) e a (q, k) =
      (q, λ v. k (viable-off ps (ws ++ lexeme t.kind (spelling s) ∷ []) a (subst (IsViable (IsRest h)) (texts-front ps ws (lexeme t.kind (spelling s) ∷ [])) v)))
  wrong-on ps call ws s End e a (q, k) = (q, λ r. k (strip ps ws a r))
  wrong-on ps call ws s (NoText n) e a q = q
  wrong-on ps call ws s (NoToken n) e a q = q

  -- ---- from a stop of the machine to an error

  -- the machine came through ws, something is expected, and what is next stops it
  abbrev pub Stopped : (Lexeme → Option Move) → (ℕ → ReadError) → List Lexeme → Left → Lexed → ReadError → Type 0
  Stopped first call ws s l e = (m : State) × (first_run first ws ≡ Some m) × IsWaiting m.stack × StopsBy (first_run first) call ws s l e

  stop-wrong : (call : ℕ → ReadError) (w : Lexeme) (ws : List Lexeme) (s : Left) (l : Lexed) (e : ReadError) → Stopped (step_part h) call (w ∷ ws) s l e → IsWrong (IsRest h) call (w ∷ ws) s l e
  stop-wrong call w ws s (One t) e (m, g, i, (q, k)) = (q, wrong (step_part h) (IsRest h) (rest_led h) (w ∷ ws) (lexeme t.kind (spelling s)) m g i k)
  stop-wrong call w ws s End e (m, g, i, q) = (q, ending (step_part h) (IsRest h) (rest_led h) w ws m g i)
  stop-wrong call w ws s (NoText n) e (m, g, i, q) = q
  stop-wrong call w ws s (NoToken n) e (m, g, i, q) = q

  pub stop_fails : (s s' at : Left) (w : Lexeme) (ws : List Lexeme) (e : ReadError) → Past s s' → Spans s' (w ∷ ws) at → Stopped (step_part h) (called h (w ∷ ws)) (w ∷ ws) at (lexed at) e → FailsAt h s e
  stop_fails s s' at w ws e (ps, a, f) g (m, i, j, k) = (
    ps,
    a,
    w ∷ ws,
    front h (w ∷ ws) m i j,
    at,
    spans_texts s s' at ps (w ∷ ws) f g,
    wrong-on ps (called h (w ∷ ws)) (w ∷ ws) at (lexed at) e (stand_all ps a) (stop-wrong (called h (w ∷ ws)) w ws at (lexed at) e (m, i, j, k)),
  )

  -- nothing that begins so stands where a command begins
  abbrev pub BeginsNone : Lexed → Left → ReadError → Type 0
  BeginsNone (One t) s e = (e ≡ BadCommand t.from) × (step_part h (lexeme t.kind (spelling s)) ≡ None)
  BeginsNone End s e = ⊥
  BeginsNone (NoText n) s e = e ≡ BadByte n
  BeginsNone (NoToken n) s e = e ≡ BadChar n

  run-none : (w : Lexeme) (o : Option Move) → o ≡ None → onward o (λ m. run m.pushed m.made []) ≡ None
  run-none w o e = ap (λ (z : Option Move). onward z (λ m. run m.pushed m.made [])) e

  none-wrong : (s : Left) (l : Lexed) (e : ReadError) → BeginsNone l s e → IsWrong (IsRest h) (called h []) [] s l e
  none-wrong s (One t) e (q, k) =
      (q, wrong (step_part h) (IsRest h) (rest_led h) [] (lexeme t.kind (spelling s)) (state (Lines ∷ []) []) refl tt (run-none (lexeme t.kind (spelling s)) (step_part h (lexeme t.kind (spelling s))) k))
  none-wrong s End e b = absurd b
  none-wrong s (NoText n) e b = b
  none-wrong s (NoToken n) e b = b

  pub none_fails : (s s' : Left) (e : ReadError) → Past s s' → BeginsNone (lexed s') s' e → FailsAt h s e
  none_fails s s' e (ps, a, f) b = (
    ps,
    a,
    [],
    front h [] (state (Lines ∷ []) []) refl tt,
    s',
    f,
    wrong-on ps (called h []) [] s' (lexed s') e (stand_all ps a) (none-wrong s' (lexed s') e b),
  )

  -- ---- behind the word of a part

  abbrev Begun : (Lexeme → Option Move) → Lexeme → List Symbol → List Note → Type 0
  Begun first w st b = (ws : List Lexeme) → first_run first (w ∷ ws) ≡ run st b ws

  begun-by : (o : Option Head) (k : Head) (ws : List Lexeme) → o ≡ Some k → onward (part_move h.number o) (λ m. run m.pushed m.made ws) ≡ run (expected h.number k) [] ws
  begun-by o k ws e = ap (λ (z : Option Head). onward (part_move h.number z) (λ m. run m.pushed m.made ws)) e

  begun : (c : Chars) (k : Head) → head_of h c ≡ Some k → Begun (step_part h) (a_name c) (expected h.number k) []
  begun c k e ws = begun-by (head_of h c) k ws e

  -- what was read behind the word of a part is that part
  pub reads_part : (s s' : Left) (c : Chars) (k : Head) (b : List Note) → IsNextLexeme s (a_name c) → head_of h c ≡ Some k → (r : Reads (expected h.number k) [] (after s) b s')
      → (p : PartText) × MayStand h p × Spans s (text_lexemes h p []) s' × (b ≡ text_notes p []) × (a_name c ∷ r.0 ≡ text_lexemes h p [])
  reads_part s s' c k b n e (ws, f, g) =
      let came : first_run (step_part h) (a_name c ∷ ws) ≡ Some (state [] b) = begun c k e ws ∙ g in
      let l = part-of (a_name c ∷ ws) (sound_sentence h (a_name c) ws b (ap finished came)) in
      let same : Some (state [] b) ≡ Some (state [] (text_notes l.0 [])) = sym came ∙ ap (first_run (step_part h)) l.2 ∙ takes_text h l.0 [] l.1 in
      (l.0, l.1, subst (λ (z : List Lexeme). Spans s z s') l.2 (n, f), ap made_of same, l.2)
    where
      part-of : (ws : List Lexeme) → BeginsSentence h [] ws → (p : PartText) × MayStand h p × (ws ≡ text_lexemes h p [])
      part-of ws (rest, (p, m, e), f) = (p, m, e ∙ ap (text_lexemes h p) f)

      made_of : Option State → List Note
      made_of None = []
      made_of (Some m) = m.made

  -- what a place in a part is called
  word-is : (c : Chars) → head_of h c ≡ Some Header → bytes_eq c h.word ≡ true
  word-is c e = (bytes_eq-Decides c h.word).1 (found_head h c Header e).0

  other-word : (k : Head) (c : Chars) (n : ℕ) → head_of h c ≡ Some k → bytes_eq c h.word ≡ false → call_of k n ≡ Syntax n
  other-word Header c n e q = let clash : true ≡ false = sym (word-is c e) ∙ q in absurd (cc clash)
  other-word _ c n e q = refl

  called-by : (k : Head) (c : Chars) (n : ℕ) (y : Bool) → head_of h c ≡ Some k → bytes_eq c h.word ≡ y → call_of k n ≡ (if y then BadHeader n else Syntax n)
  called-by k c n true e q =
      let same : Some k ≡ Some Header = sym e ∙ ap (head_of h) ((bytes_eq-Decides c h.word).0 q) ∙ head_found h Header tt in
      ap (λ (o : Option Head). call_by o n) same
    where
      call_by : Option Head → ℕ → ReadError
      call_by None = Syntax
      call_by (Some k) = call_of k
  called-by k c n false e q = other-word k c n e q

  stops-by : (k : Head) (c : Chars) (ws : List Lexeme) (s : Left) (l : Lexed) (e : ReadError) → head_of h c ≡ Some k
      → Stops (expected h.number k) [] (call_of k) ws s l e → StopsBy (first_run (step_part h)) (called h (a_name c ∷ ws)) (a_name c ∷ ws) s l e
  stops-by k c ws s (One t) e g (q, f) = (q ∙ called-by k c t.from (bytes_eq c h.word) g refl, begun c k g (ws ++ lexeme t.kind (spelling s) ∷ []) ∙ f)
  stops-by k c ws s End e g q = q ∙ called-by k c (length s.source) (bytes_eq c h.word) g refl
  stops-by k c ws s (NoText n) e g q = q
  stops-by k c ws s (NoToken n) e g q = q

  -- what stops the reading of a part is wrong in the text
  pub part_fails : (s s' : Left) (c : Chars) (k : Head) (e : ReadError) → Past s s' → IsNextLexeme s' (a_name c) → head_of h c ≡ Some k
      → StopsAt (expected h.number k) [] (call_of k) (after s') e → FailsAt h s e
  part_fails s s' c k e p n g (ws, at, m, f, q, i, st) =
      stop_fails s s' at (a_name c) ws e p (n, f) (m, begun c k g ws ∙ q, i, stops-by k c ws at (lexed at) e g st)

  -- ---- the header

  header-begun-by : (o : Option Head) (ws : List Lexeme) → o ≡ Some Header → onward (header_move h.number o) (λ m. run m.pushed m.made ws) ≡ run (expected h.number Header) [] ws
  header-begun-by o ws e = ap (λ (z : Option Head). onward (header_move h.number z) (λ m. run m.pushed m.made ws)) e

  header-begun : (c : Chars) → head_of h c ≡ Some Header → Begun (step_header h) (a_name c) (expected h.number Header) []
  header-begun c e ws = header-begun-by (head_of h c) ws e

  pub reads_header : (s s' : Left) (c : Chars) (b : List Note) → IsNextLexeme s (a_name c) → head_of h c ≡ Some Header → Reads (expected h.number Header) [] (after s) b s' → Spans s (text_lexemes h header []) s'
  reads_header s s' c b n e (ws, f, g) =
      let l = sound_header h (a_name c) ws b (ap finished (header-begun c e ws ∙ g)) in
      subst (λ (z : List Lexeme). Spans s z s') (l.1 ∙ ap (text_lexemes h header) l.2) (n, f)

  header-wrong : (w : Lexeme) (ws : List Lexeme) (s : Left) (l : Lexed) (e : ReadError) → Stopped (step_header h) BadHeader (w ∷ ws) s l e → IsWrong (IsWhole h) BadHeader (w ∷ ws) s l e
  header-wrong w ws s (One t) e (m, g, i, (q, k)) = (q, wrong (step_header h) (IsWhole h) (whole_led h) (w ∷ ws) (lexeme t.kind (spelling s)) m g i k)
  header-wrong w ws s End e (m, g, i, q) = (q, ending (step_header h) (IsWhole h) (whole_led h) w ws m g i)
  header-wrong w ws s (NoText n) e (m, g, i, q) = q
  header-wrong w ws s (NoToken n) e (m, g, i, q) = q

  header-stops : (c : Chars) (ws : List Lexeme) (s : Left) (l : Lexed) (e : ReadError) → head_of h c ≡ Some Header
      → Stops (expected h.number Header) [] BadHeader ws s l e → StopsBy (first_run (step_header h)) BadHeader (a_name c ∷ ws) s l e
  header-stops c ws s (One t) e g (q, f) = (q, header-begun c g (ws ++ lexeme t.kind (spelling s) ∷ []) ∙ f)
  header-stops c ws s End e g q = q
  header-stops c ws s (NoText n) e g q = q
  header-stops c ws s (NoToken n) e g q = q

  pub header_fails : (s : Left) (c : Chars) (e : ReadError) → IsNextLexeme s (a_name c) → head_of h c ≡ Some Header → StopsAt (expected h.number Header) [] BadHeader (after s) e → HeaderFailsAt h s e
  header_fails s c e n g (ws, at, m, f, q, i, st) =
      let came = header-begun c g ws ∙ q in
      let front = header_front h (a_name c ∷ ws) m came i in
      (a_name c ∷ ws, front.0, front.1, front.2, at, (n, f), header-wrong (a_name c) ws at (lexed at) e (m, came, i, header-stops c ws at (lexed at) e g st))

  -- nothing there is the header's word
  abbrev pub NoHeader : Lexed → Left → ReadError → Type 0
  NoHeader (One t) s e = (e ≡ BadHeader t.from) × (step_header h (lexeme t.kind (spelling s)) ≡ None)
  NoHeader End s e = e ≡ BadHeader (length s.source)
  NoHeader (NoText n) s e = e ≡ BadByte n
  NoHeader (NoToken n) s e = e ≡ BadChar n

  no-header-wrong : (s : Left) (l : Lexed) (e : ReadError) → NoHeader l s e → IsWrong (IsWhole h) BadHeader [] s l e
  no-header-wrong s (One t) e (q, k) =
      (q, wrong (step_header h) (IsWhole h) (whole_led h) [] (lexeme t.kind (spelling s)) (state (Lines ∷ []) []) refl tt (run-none (lexeme t.kind (spelling s)) (step_header h (lexeme t.kind (spelling s))) k))
  no-header-wrong s End e q = (q, λ w. part_not_empty h header _ w.2)
  no-header-wrong s (NoText n) e q = q
  no-header-wrong s (NoToken n) e q = q

  pub no_header_fails : (s : Left) (e : ReadError) → NoHeader (lexed s) s e → HeaderFailsAt h s e
  no_header_fails s e b =
      let front = header_front h [] (state (Lines ∷ []) []) refl tt in
      ([], front.0, front.1, front.2, s, refl, no-header-wrong s (lexed s) e b)
