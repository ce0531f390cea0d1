-- What is said by rows and by what a lexer finds is what the definitions of texts say.
use Rattle.std.proofs.Common.{◌≡◌, ℕ, ◌∙◌, ap, sym, refl, subst, inl, inr, Bool, true, false, List, [], ◌∷◌, ◌++◌, length, append_assoc}
use Rattle.std.specs.Prelude.{codes, map, if◌then◌else◌, bytes_eq, not}
use Rattle.std.proofs.lemmas.Bool.{and_parts}
use Rattle.std.proofs.lemmas.Slice.Eq.{bytes_eq-Decides}
use Rattle.lt_texts.specs.declared.lexical.Token.{Token as Placed}
use Rattle.lt_texts.specs.declared.lexical.Lexed.{Lexed}
use Rattle.lt_texts.specs.declared.lexical.Lexed.TheVariants.{Token as One, End, BadByte as NoText, BadChar as NoToken}
use Rattle.lt_definitions.specs.Types.{Chars, same_name, has_name}
use Rattle.lt_definitions.proofs.SameNames.{true-name}
use Rattle.lt_texts.specs.Tokens.{Scanned}
use Rattle.lt_texts.specs.Texts.{Left, lexed, spelling, place_of}
use Rattle.lt_texts.specs.Lexemes.{Lexeme, a_name, lexeme, Spans}
use Rattle.lt_texts.specs.Reading.{IsNextToken, Shows, Reads}
use Rattle.lt_texts.specs.Commands.{Command, item_command}
use Rattle.lt_texts.specs.Writing.{term_of_text}
use Rattle.lt_definitions.specs.Items.{lemma_item}
use Rattle.lt_grammar.specs.Table.{item_row, command_row}
use Rattle.lt_texts.specs.Pieces.{AreWritten}
use Rattle.lt_texts.specs.Forms.{Form, may_stand, Sentence, header_again, a_command, header_text, sentence_text, sentences_text, IsAllowed, AreAllowed}
use Rattle.lt_texts.specs.WrongPlaces as texts
use Rattle.lt_texts.specs.WrongPlaces.{Wrong, Stands, IsStop}
use Rattle.lt_texts.proofs.Readings.{next_found, lexed_shown, spans_reads}
use Rattle.lt_texts.proofs.ReadingOrder.{reads_split}
use Rattle.lt_grammar.specs.RowTexts.{row_meaning, rule_of_text, PartText, header, item, lemma, command, text_lexemes, texts_lexemes, MayStand, MayStandAll, sentence_of, commands_of}
use Rattle.lt_grammar.proofs.RowPieces.{join_written, split_written, sentence_written, written_sentence, may_allowed, allowed_may}
use Rattle.lt_script.specs.declared.read_error.ReadError.{ReadError}
use Rattle.lt_script.specs.declared.read_error.ReadError.TheVariants.{BadHeader, BadCommand, Syntax, BadByte, BadChar, Memory}
use Rattle.lt_script.specs.Promises.{as_wrong, Refuses, RefusesHeader}
use Rattle.lt_script.specs.Reading as rows
use Rattle.lt_script.proofs.Parts.{texts_split}

-- ---- sentences in a row

pub rows_written : (f : Form) (ps : List PartText) → AreWritten (sentences_text f (map sentence_of ps)) (texts_lexemes f ps []) []
rows_written f [] = refl
rows_written f (p ∷ ps) =
    join_written (sentence_text f (sentence_of p)) (sentences_text f (map sentence_of ps)) (text_lexemes f p (texts_lexemes f ps [])) (texts_lexemes f ps []) []
    (sentence_written f p (texts_lexemes f ps [])) (rows_written f ps)

-- sentences are written by rows
written-rows : (f : Form) (xs : List Sentence) (ws : List Lexeme) → AreAllowed f xs → AreWritten (sentences_text f xs) ws [] → (ps : List PartText) × MayStandAll f ps × (ws ≡ texts_lexemes f ps [])
written-rows f [] ws a h = ([], tt, h)
written-rows f (x ∷ xs) ws a h =
    let s = split_written (sentence_text f x) (sentences_text f xs) ws [] h in
    let p = written_sentence f x ws s.0 s.1 in
    let r = written-rows f xs s.0 a.1 s.2 in
    (p.0 ∷ r.0, (allowed_may f p.0 (subst (IsAllowed f) (sym p.1) a.0), r.1), p.2 ∙ ap (text_lexemes f p.0) r.2)

pub headers_again : (ps : List PartText) → rows.AreHeaders ps → texts.AreHeaders (map sentence_of ps)
headers_again [] a = tt
headers_again (p ∷ ps) (e, a) = (ap sentence_of e, headers_again ps a)

texts-join : (f : Form) (ps qs : List PartText) → texts_lexemes f ps (texts_lexemes f qs []) ≡ texts_lexemes f (ps ++ qs) []
texts-join f [] qs = refl
texts-join f (p ∷ ps) qs = ap (text_lexemes f p) (texts-join f ps qs)

stand-join : (f : Form) (ps qs : List PartText) → MayStandAll f ps → MayStandAll f qs → MayStandAll f (ps ++ qs)
stand-join f [] qs a b = b
stand-join f (p ∷ ps) qs a b = (a.0, stand-join f ps qs a.1 b)

headers-stand : (f : Form) (ps : List PartText) → rows.AreHeaders ps → MayStandAll f ps
headers-stand f [] a = tt
headers-stand f (p ∷ ps) (e, a) = (subst (MayStand f) (sym e) tt, headers-stand f ps a)

-- the token that stands next, by what is found
pub token_there : (s : Left) (p : Placed) → lexed s ≡ One p → (t : Scanned) × (n : IsNextToken s t) × (p.from ≡ place_of s n.found) × (lexeme p.kind (spelling s) ≡ lexeme t.kind t.spelling)
token_there s p e =
    let shown : Shows s (One p) = subst (Shows s) e (lexed_shown s) in
    let t = shown.0 in let n = shown.1 in let is = shown.2 in
    let f = next_found s t n in
    (t, n, ap (λ (z : Placed). z.from) is, (λ i. lexeme ((is i).kind) (f.spelling i)))

module _ (h : Form) where
  abbrev form : Form
  form = h

  -- ---- a command, and the end

  -- from the one place to the other stand headers, and then the further lexemes
  headers-there : (s s' : Left) (ps : List PartText) (ws : List Lexeme) → Spans s (texts_lexemes form ps ws) s' → (m : Left) × Stands s (sentences_text form (map sentence_of ps)) m × Reads m ws s'
  headers-there s s' ps ws e =
      let reads : Reads s (texts_lexemes form ps [] ++ ws) s' = subst (λ (z : List Lexeme). Reads s z s') (texts_split h ps ws) (spans_reads s (texts_lexemes form ps ws) s' e) in
      let r = reads_split s s' (texts_lexemes form ps []) ws reads in
      (r.0, (texts_lexemes form ps [], rows_written form ps, r.1), r.2)

  the-command : (p : PartText) (c : Command) → commands_of (p ∷ []) ≡ c ∷ [] → sentence_of p ≡ a_command c
  the-command header c e = absurd (cc e)
  the-command (item w ts) c e = cc e
  the-command (lemma l t lines) c e = cc e
  the-command (command w ts) c e = cc e

  pub next_command : (s : Left) (c : Command) (s' : Left) → rows.NextCommand h s c s' → texts.NextCommand form s c s'
  next_command s c s' (p, (ps, a, m, n, e), q) =
      let is : sentence_of p ≡ a_command c = the-command p c q in
      let r = headers-there s s' ps (text_lexemes form p []) e in (
        map sentence_of ps,
        headers_again ps a,
        subst (IsAllowed form) is (may_allowed form p m),
        r.0,
        r.1,
        (text_lexemes form p [], subst (λ (x : Sentence). AreWritten (sentence_text form x) (text_lexemes form p []) []) is (sentence_written form p []), r.2),
      )

  pub at_end : (s : Left) → rows.AtEnd h s → texts.AtEnd form s
  at_end s (ps, s', a, e, n) =
      (map sentence_of ps, headers_again ps a, s', (texts_lexemes form ps [], rows_written form ps, spans_reads s (texts_lexemes form ps []) s' e), subst (Shows s') n (lexed_shown s'))

  pub header_stands : (s s' : Left) → Spans s (text_lexemes form header []) s' → Stands s (header_text form) s'
  header_stands s s' e =
      (text_lexemes form header [], sentence_written form header [], spans_reads s (text_lexemes form header []) s' e)

  -- ---- what is wrong

  -- what goes on to the rest of a text behind headers
  rest-rows : (ps : List PartText) (ws : List Lexeme) → rows.AreHeaders ps → texts.IsRest form ws → rows.IsRest h (texts_lexemes form ps ws)
  rest-rows ps ws a (xs, b, w) =
      let r = written-rows form xs ws b w in
      (ps ++ r.0, stand-join form ps r.0 (headers-stand form ps a) r.1, ap (texts_lexemes form ps) r.2 ∙ texts-join form ps r.0)

  behind-texts : (ps : List PartText) (ws more : List Lexeme) → texts_lexemes form ps (ws ++ more) ≡ texts_lexemes form ps ws ++ more
  behind-texts ps ws more =
      texts_split h ps (ws ++ more) ∙ sym (append_assoc (texts_lexemes form ps []) ws more) ∙ ap (λ (z : List Lexeme). z ++ more) (sym (texts_split h ps ws))

  viable-rows : (ps : List PartText) (ws : List Lexeme) (w : Lexeme) → rows.AreHeaders ps → texts.IsViable (texts.IsRest form) (ws ++ w ∷ []) → rows.IsViable (rows.IsRest h) (texts_lexemes form ps ws ++ w ∷ [])
  viable-rows ps ws w a (more, r) =
      (more, subst (rows.IsRest h) (behind-texts ps (ws ++ w ∷ []) more ∙ ap (λ (z : List Lexeme). z ++ more) (behind-texts ps ws (w ∷ []))) (rest-rows ps ((ws ++ w ∷ []) ++ more) a r))

  whole-rows : (ws : List Lexeme) → texts.IsWhole form ws → rows.IsWhole h ws
  whole-rows ws (xs, a, w) =
      let s = split_written (header_text form) (sentences_text form xs) ws [] w in
      let p = written_sentence form header_again ws s.0 s.1 in
      let r = written-rows form xs s.0 a s.2 in
      (r.0, r.1, the-header p.0 p.1 (p.2 ∙ ap (text_lexemes form p.0) r.2))
    where
      the-header : (p : PartText) → sentence_of p ≡ header_again → {rest : List Lexeme} → ws ≡ text_lexemes form p rest → ws ≡ text_lexemes form header rest
      the-header header e q = q
      the-header (item w ts) e q = absurd (cc e)
      the-header (lemma l t lines) e q = absurd (cc e)
      the-header (command w ts) e q = absurd (cc e)

  -- what is wrong by rows and finding is wrong by the definitions
  wrong-by : (L K : List Lexeme → Type 0) (call : ℕ → ReadError) (ring : ℕ → Wrong) (ws vs : List Lexeme) (s : Left) (l : Lexed) (e : ReadError) → lexed s ≡ l
      → ((w : Lexeme) → texts.IsViable K (vs ++ w ∷ []) → rows.IsViable L (ws ++ w ∷ [])) → (K vs → L ws) → ((n : ℕ) → as_wrong (call n) ≡ ring n)
      → rows.IsWrong L call ws s l e → texts.IsWrong K ring vs s (as_wrong e)
  wrong-by L K call ring ws vs s (One p) e q viable whole calls (c, stops) =
      let t = token_there s p q in
      inr (inr (p.from, inl (t.0, t.1, t.2, λ v. stops (viable (lexeme p.kind (spelling s)) (subst (λ (z : Lexeme). texts.IsViable K (vs ++ z ∷ [])) (sym t.3) v))), ap as_wrong c ∙ calls p.from))
  wrong-by L K call ring ws vs s End e q viable whole calls (c, stops) =
      inr (inr (length s.source, inr (subst (Shows s) q (lexed_shown s), refl, λ k. stops (whole k)), ap as_wrong c ∙ calls (length s.source)))
  wrong-by L K call ring ws vs s (NoText n) e q viable whole calls c = inl (n, subst (Shows s) q (lexed_shown s), ap as_wrong c)
  wrong-by L K call ring ws vs s (NoToken n) e q viable whole calls c = inr (inl (n, subst (Shows s) q (lexed_shown s), ap as_wrong c))

  -- ---- what a wrong place is called

  no-own : may_stand form form.word ≡ true → ⊥
  no-own g =
      let both = and_parts (has_name form.word form.commands) (not (same_name form.word form.word)) g in
      let clash : false ≡ true = ap not (sym (true-name form.word form.word refl)) ∙ both.1 in
      absurd (cc clash)

  by-word : (y : Bool) (n : ℕ) → as_wrong (if y then BadHeader n else Syntax n) ≡ (if y then texts.bad_header n else texts.bad_syntax n)
  by-word true n = refl
  by-word false n = refl

  is-own : (w : Chars) → w ≡ form.word → bytes_eq w h.word ≡ true
  is-own w e = (bytes_eq-Decides w h.word).1 e

  no-own-word : (w v : Chars) → may_stand form v ≡ true → w ≡ v → (y : Bool) → bytes_eq w h.word ≡ y → (n : ℕ) → (if y then texts.bad_header n else texts.bad_syntax n) ≡ texts.bad_syntax n
  no-own-word w v m e true q n = absurd (no-own (ap (may_stand form) (sym ((bytes_eq-Decides w h.word).0 q) ∙ e) ∙ m))
  no-own-word w v m e false q n = refl

  by-command : (c : Command) (w v : Chars) (ws : List Lexeme) (n : ℕ) → may_stand form v ≡ true → a_name w ≡ a_name v → as_wrong (rows.called h (a_name w ∷ ws) n) ≡ texts.called (a_command c) (a_name w ∷ ws) n
  by-command c w v ws n m e = let same : w ≡ v = cc e in by-word (bytes_eq w h.word) n ∙ no-own-word w v m same (bytes_eq w h.word) refl n

  -- the first lexeme of a sentence is its word
  calls-by : (p : PartText) (ws : List Lexeme) (w : Lexeme) (more : List Lexeme) → MayStand form p → ws ++ w ∷ more ≡ text_lexemes form p [] → (n : ℕ)
      → as_wrong (rows.called h ws n) ≡ texts.called (sentence_of p) ws n
  calls-by p [] w more m e n = refl
  calls-by header (a_name c ∷ ws) w more m e n =
      let first : a_name c ≡ a_name form.word = cc e in
      let same : c ≡ form.word = cc first in
      by-word (bytes_eq c h.word) n ∙ ap (λ (y : Bool). if y then texts.bad_header n else texts.bad_syntax n) (is-own c same)
  calls-by (item v ts) (a_name c ∷ ws) w more m e n =
      let first : a_name c ≡ a_name (item_row v).word = cc e in
      by-command (item_command (row_meaning (item_row v) ts)) c (item_row v).word ws n m first
  calls-by (lemma l t lines) (a_name c ∷ ws) w more m e n =
      let first : a_name c ≡ a_name (codes "lemma") = cc e in
      by-command (item_command (lemma_item l (term_of_text t) (map rule_of_text lines))) c (codes "lemma") ws n m first
  calls-by (command v ts) (a_name c ∷ ws) w more m e n =
      let first : a_name c ≡ a_name (command_row v).word = cc e in
      by-command (row_meaning (command_row v) ts) c (command_row v).word ws n m first
  calls-by header (_ ∷ ws) w more m e n = absurd (cc e)
  calls-by (item v ts) (_ ∷ ws) w more m e n = absurd (cc e)
  calls-by (lemma l t lines) (_ ∷ ws) w more m e n = absurd (cc e)
  calls-by (command v ts) (_ ∷ ws) w more m e n = absurd (cc e)

  pub fails_at : (s : Left) (e : ReadError) → rows.FailsAt h s e → texts.FailsAt form s (as_wrong e)
  fails_at s e (ps, a, ws, (p, m, w, more, q), at, spans, wrong) =
      let r = headers-there s at ps ws spans in (
        map sentence_of ps,
        headers_again ps a,
        r.0,
        r.1,
        sentence_of p,
        may_allowed form p m,
        ws,
        (w, more, subst (λ (z : List Lexeme). AreWritten (sentence_text form (sentence_of p)) z []) (sym q) (sentence_written form p [])),
        at,
        r.2,
        wrong-by (rows.IsRest h) (texts.IsRest form) (rows.called h ws) (texts.called (sentence_of p) ws) (texts_lexemes form ps ws) ws at (lexed at) e refl
            (λ v k. viable-rows ps ws v a k) (λ k. rest-rows ps ws a k) (calls-by p ws w more m q) wrong,
      )

  pub header_fails_at : (s : Left) (e : ReadError) → rows.HeaderFailsAt h s e → texts.HeaderFailsAt form s (as_wrong e)
  header_fails_at s e (ws, w, more, q, at, spans, wrong) = (
    ws,
    (w, more, subst (λ (z : List Lexeme). AreWritten (header_text form) z []) (sym q) (sentence_written form header [])),
    at,
    spans_reads s ws at spans,
    wrong-by (rows.IsWhole h) (texts.IsWhole form) BadHeader texts.bad_header ws ws at (lexed at) e refl
        (λ v k. (k.0, whole-rows ((ws ++ v ∷ []) ++ k.0) k.1)) (λ k. whole-rows ws k) (λ n. refl) wrong,
  )

  pub refuses : (s : Left) (e : ReadError) → rows.Fails h s e → Refuses form s e
  refuses s Memory f = tt
  refuses s (BadHeader n) f = fails_at s (BadHeader n) f
  refuses s (BadCommand n) f = fails_at s (BadCommand n) f
  refuses s (Syntax n) f = fails_at s (Syntax n) f
  refuses s (BadByte n) f = fails_at s (BadByte n) f
  refuses s (BadChar n) f = fails_at s (BadChar n) f

  pub refuses_header : (s : Left) (e : ReadError) → rows.HeaderFails h s e → RefusesHeader form s e
  refuses_header s Memory f = tt
  refuses_header s (BadHeader n) f = header_fails_at s (BadHeader n) f
  refuses_header s (BadCommand n) f = header_fails_at s (BadCommand n) f
  refuses_header s (Syntax n) f = header_fails_at s (Syntax n) f
  refuses_header s (BadByte n) f = header_fails_at s (BadByte n) f
  refuses_header s (BadChar n) f = header_fails_at s (BadChar n) f
