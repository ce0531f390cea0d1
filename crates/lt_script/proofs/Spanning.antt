-- What was read is the next command, with its places.
use Rattle.std.proofs.Common.{◌≡◌, ℕ, ◌∙◌, ap, sym, refl, subst, false, List, [], ◌∷◌, Option, Some, None}
use Rattle.std.specs.Prelude.{map}
use Rattle.std.specs.Option.{option_map}
use Rattle.lt_texts.specs.declared.lexical.Token.{Token as Placed}
use Rattle.lt_texts.specs.declared.lexical.Lexed.{Lexed}
use Rattle.lt_texts.specs.declared.lexical.Lexed.TheVariants.{Token as One}
use Rattle.lt_definitions.specs.Types.{Chars}
use Rattle.lt_texts.specs.Texts.{Left, lexed, after, here}
use Rattle.lt_texts.specs.Lexemes.{Lexeme, a_name, IsNextLexeme, Spans}
use Rattle.lt_texts.specs.Commands as commands
use Rattle.lt_texts.specs.Writing.{term_of_text}
use Rattle.lt_definitions.specs.Items.{lemma_item}
use Rattle.lt_texts.specs.Forms.{Form, a_command, sentence_text, IsAllowed}
use Rattle.lt_texts.specs.WrongPlaces.{Stands}
use Rattle.lt_texts.specs.CommandPlaces.{CommandAt, NextPlaced}
use Rattle.lt_texts.proofs.Readings.{next_found, spans_reads}
use Rattle.lt_grammar.specs.declared.words.Head.{Head}
use Rattle.lt_grammar.specs.RowTexts.{PartText, header, item, lemma, command, text_lexemes, texts_lexemes, MayStand, sentence_of, row_meaning, rule_of_text}
use Rattle.lt_grammar.specs.Table.{item_row, command_row}
use Rattle.lt_grammar.proofs.RowPieces.{sentence_written, may_allowed}
use Rattle.lt_commands.specs.declared.note.Note.{Note}
use Rattle.lt_commands.specs.declared.command.Command.{Command}
use Rattle.lt_commands.specs.Making.{nothing, put_all, command_made}
use Rattle.lt_commands.specs.Notes.{text_notes, head_of_text, meant_by}
use Rattle.lt_commands.specs.Views.{command_of}
use Rattle.lt_commands.proofs.Makes.{text_makes}
use Rattle.lt_script.specs.declared.reading.Next.TheVariants.{Begins}
use Rattle.lt_script.specs.declared.symbol.Symbol.{Symbol}
use Rattle.lt_script.specs.Machine.{expected, state, run}
use Rattle.lt_script.specs.Marks.{token_place, marks, ReadsLines}
use Rattle.lt_script.specs.Stops.{SaysNext, Reads, is_header}
use Rattle.lt_script.proofs.Parts.{Past, reads_part}
use Rattle.lt_script.proofs.ScriptLemmas.{no_header, head_is}
use Rattle.lt_script.proofs.ToPieces.{rows_written, headers_again, token_there}
use Rattle.lt_script.proofs.Counting.{none_marked, parts_begun, begun}
use Rattle.lt_script.proofs.LemmaPlaces.{first_place, lemma_at, item_at, further_at}

-- behind the token that stands next
pub to_here : (s : Left) (t : Placed) → lexed s ≡ One t → t.to ≡ here (after s)
to_here s t e =
    let k = token_there s t e in
    let f = next_found s k.0 k.1 in
    ap end-of (sym e ∙ f.token) ∙ sym (ap here f.after)
  where
    end-of : Lexed → ℕ
    end-of (One p) = p.to
    end-of l = 0

-- without the places of lines
pub unmarked : (st : List Symbol) (b b' : List Note) (s s' : Left) (places : List ℕ) → ReadsLines st b s b' places s' → Reads st b s b' s'
unmarked st b b' s s' places r = (r.0, r.1, r.2)

module _ (h : Form) where
  -- notes of a sentence that is no lemma begin no line
  no-lines : (p : PartText) (k : Head) (b : List Note) (ws : List Lexeme) (s : Left) (places : List ℕ) → begun (text_notes p []) ≡ 0 → b ≡ text_notes p []
      → run (expected h.number k) [] ws ≡ Some (state [] b) → places ≡ marks (expected h.number k) s ws → places ≡ []
  no-lines p k b ws s places none e r q =
      q ∙ none_marked ws (expected h.number k) [] s (state [] b) r (ap begun e ∙ none)

  -- the command that was made is the one that is written
  the-one : (p : PartText) (k : Head) (b : List Note) (o : Option Command) (c : Command) → b ≡ text_notes p [] → k ≡ head_of_text p
      → option_map command_of o ≡ command_made k (put_all b nothing) → o ≡ Some c → meant_by p ≡ Some (command_of c)
  the-one p k b o c e f g some =
      sym (text_makes p) ∙ (λ i. command_made (sym f i) (put_all (sym e i) nothing)) ∙ sym g ∙ ap (option_map command_of) some

  placed : (p : PartText) (k : Head) (c : Chars) (d : Command) (b : List Note) (ws : List Lexeme) (s s' : Left) (places : List ℕ) → (p ≡ header → ⊥) → k ≡ head_of_text p
      → meant_by p ≡ Some (command_of d) → b ≡ text_notes p [] → Spans s (text_lexemes h p []) s' → a_name c ∷ ws ≡ text_lexemes h p []
      → run (expected h.number k) [] ws ≡ Some (state [] b) → places ≡ marks (expected h.number k) (after s) ws
      → Stands s (sentence_text h (sentence_of p)) s' → MayStand h p
      → IsAllowed h (a_command (command_of d)) × CommandAt h s (command_of d) places s'
  placed header k c d b ws s s' places n kk made e f g r q w m = absurd (n refl)
  placed (item v ts) k c d b ws s s' places n kk made e f g r q w m =
      let same : commands.item_command (row_meaning (item_row v) ts) ≡ command_of d = cc made in
      let none = no-lines (item v ts) k b ws (after s) places (parts_begun (item_row v).parts ts []) e r q in
      subst (λ (z : commands.Command). IsAllowed h (a_command z) × CommandAt h s z places s') same (may_allowed h (item v ts) m, item_at h v ts s s' places none w)
  placed (lemma l t lines) k c d b ws s s' places n kk made e f g r q w m =
      let same : commands.item_command (lemma_item l (term_of_text t) (map rule_of_text lines)) ≡ command_of d = cc made in
      subst (λ (z : commands.Command). IsAllowed h (a_command z) × CommandAt h s z places s') same
      (may_allowed h (lemma l t lines) m, lemma_at h l t lines s s' ws places c f g (q ∙ ap (λ (j : Head). marks (expected h.number j) (after s) ws) kk))
  placed (command v ts) k c d b ws s s' places n kk made e f g r q w m =
      let same : row_meaning (command_row v) ts ≡ command_of d = cc made in
      let none = no-lines (command v ts) k b ws (after s) places (parts_begun (command_row v).parts ts []) e r q in
      subst (λ (z : commands.Command). IsAllowed h (a_command z) × CommandAt h s z places s') same (may_allowed h (command v ts) m, further_at h v ts s s' places none w)

  pub next_placed : (s s' s'' s''' : Left) (k : Head) (from to : ℕ) (b : List Note) (places : List ℕ) (o : Option Command) (d : Command) → Past h s s' → SaysNext h s' s'' (Begins k from)
      → ReadsLines (expected h.number k) [] s'' b places s''' → is_header k ≡ false → option_map command_of o ≡ command_made k (put_all b nothing) → o ≡ Some d → to ≡ here s'''
      → NextPlaced h s (command_of d) from places to s'''
  unfolding unmarked
  next_placed s s' s'' s''' k from to b places o d (ps, a, e) (c, t, f, q, g, i, j) r n made some there =
      let next : IsNextLexeme s' (a_name c) = record { placed = t; found = f; same = g } in
      let reads : ReadsLines (expected h.number k) [] (after s') b places s''' = subst (λ (x : Left). ReadsLines (expected h.number k) [] x b places s''') j r in
      let w = reads_part h s' s''' c k b next i (unmarked (expected h.number k) [] b (after s') s''' places reads) in
      let p = w.0 in
      let kk = head_is h s' s''' c k p next i w.1 w.2 in
      let stands : Stands s' (sentence_text h (sentence_of p)) s''' = (text_lexemes h p [], sentence_written h p [], spans_reads s' (text_lexemes h p []) s''' w.2) in
      let command = placed p k c d b reads.0 s' s''' places (no_header h s' s''' c k p next i n w.2) kk (the-one p k b o d w.3 kk made some) w.3 w.2 w.4 reads.2 reads.3 stands w.1 in
      let first = first_place s' (a_name c) next in (
        map sentence_of ps,
        headers_again ps a,
        command.0,
        s',
        (texts_lexemes h ps [], rows_written h ps, spans_reads s (texts_lexemes h ps []) s' e),
        (first.0, first.1, q ∙ sym (ap token_place f) ∙ first.2),
        command.1,
        there,
      )

  -- a sentence that isn't a header makes a command
  pub never_none : (s s' s'' s''' : Left) (k : Head) (from : ℕ) (b : List Note) (o : Option Command) → SaysNext h s' s'' (Begins k from)
      → Reads (expected h.number k) [] s'' b s''' → is_header k ≡ false → option_map command_of o ≡ command_made k (put_all b nothing) → o ≡ None → ⊥
  never_none s s' s'' s''' k from b o (c, t, f, q, g, i, j) r n made none =
      let next : IsNextLexeme s' (a_name c) = record { placed = t; found = f; same = g } in
      let w = reads_part h s' s''' c k b next i (subst (λ (x : Left). Reads (expected h.number k) [] x b s''') j r) in
      let kk = head_is h s' s''' c k w.0 next i w.1 w.2 in
      nothing-made w.0 (no_header h s' s''' c k w.0 next i n w.2)
      (sym (text_makes w.0) ∙ (λ z. command_made (sym kk z) (put_all (sym w.3 z) nothing)) ∙ sym made ∙ ap (option_map command_of) none)
    where
      nothing-made : (p : PartText) → (p ≡ header → ⊥) → meant_by p ≡ None → ⊥
      nothing-made header m e = m refl
      nothing-made (item v ts) m e = absurd (cc e)
      nothing-made (lemma l t lines) m e = absurd (cc e)
      nothing-made (command v ts) m e = absurd (cc e)
