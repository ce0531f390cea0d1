-- What is printed of an answered refusal is what is printed of what it tells.
use Rattle.std.proofs.Common.{◌≡◌, ◌∷◌, [], List, Option, Some, None, map, refl, sym, ◌∙◌, ap, codes, ◌++◌}
use Rattle.std.specs.Prelude.{option_map}
use Rattle.lt_definitions.specs.Types.{Chars}
use Rattle.lt_definitions.specs.Terms.{TermTree}
use Rattle.lt_definitions.specs.Typing.{Fault, unknown_type, arity, unknown_const, type_args, unbound, mismatch}
use Rattle.lt_definitions.specs.Rules.{Sequent}
use Rattle.lt_definitions.specs.Printing.{printed_term, printed_hyps, printed_sequent, words}
use Rattle.lt_definitions.specs.Theory as refusals
use Rattle.lt_definitions.specs.Theory.{at_fault, not_boolean, unknown_statement, duplicate, open_term, loose_type_var, typedef_shape, in_line, bad_line, not_proved}
use Rattle.lt_nameless.specs.Nameless.{nameless, NamelessSequent, nameless_sequent}
use Rattle.lt_nameless.proofs.Alphas.{alpha_is_nameless}
use Rattle.lt_nameless.proofs.PrintingLemmas.{alpha_prints_alike}
use Rattle.lt_texts.specs.WrongPlaces.{Wrong, bad_header, bad_command, bad_syntax, bad_byte, bad_char}
use Rattle.lt_walks.specs.RefusalTexts.{fault_words, last_sequent, refusal_words, printed_refusal, wrong_word}
use Rattle.lt_commands.specs.declared.refusal.SequentTerms.{SequentTerms}
use Rattle.lt_commands.specs.declared.refusal.Refusal.{Refusal}
use Rattle.lt_plain.specs.Telling.{as_placed, as_refusal, shown, Tells}
use Rattle.lt_plain.specs.Showing.{shown_last, shown_words}

print-term : (s t : TermTree) → nameless [] s ≡ nameless [] t → printed_term [] s ≡ printed_term [] t
print-term s t e = alpha_prints_alike s t ((alpha_is_nameless s t).1 e)

print-hyps : (hs ks : List TermTree) → map (nameless []) hs ≡ map (nameless []) ks → printed_hyps hs ≡ printed_hyps ks
print-hyps [] [] e = refl
print-hyps [] (k ∷ ks) e = absurd (cc e)
print-hyps (h ∷ hs) [] e = absurd (cc e)
print-hyps (h ∷ []) (k ∷ []) e =
    let first : nameless [] h ≡ nameless [] k = cc e in
    ap (λ (z : Chars). z ++ codes " ") (print-term h k first)
print-hyps (h ∷ []) (k ∷ l ∷ ks) e = absurd (cc e)
print-hyps (h ∷ g ∷ hs) (k ∷ []) e = absurd (cc e)
print-hyps (h ∷ g ∷ hs) (k ∷ l ∷ ks) e =
    let first : nameless [] h ≡ nameless [] k = cc e in
    let rest : map (nameless []) (g ∷ hs) ≡ map (nameless []) (l ∷ ks) = cc e in
    λ i. print-term h k first i ++ (codes ", " ++ print-hyps (g ∷ hs) (l ∷ ks) rest i)

print-sequent : (s u : Sequent) → nameless_sequent s ≡ nameless_sequent u → printed_sequent s ≡ printed_sequent u
print-sequent s u e =
    λ i. print-hyps s.hyps u.hyps (ap (λ (n : NamelessSequent). n.hyps) e) i ++ (codes "|- " ++ print-term s.concl u.concl (ap (λ (n : NamelessSequent). n.concl) e) i)

print-last : (s : Option Sequent) (last : Option SequentTerms) → option_map nameless_sequent s ≡ option_map shown last → last_sequent s ≡ shown_last last
print-last None None e = refl
print-last None (Some u) e = absurd (cc e)
print-last (Some s) None e = absurd (cc e)
print-last (Some s) (Some u) e = let same : nameless_sequent s ≡ shown u = cc e in print-sequent s (record { hyps = u.hyps; concl = u.concl }) same

fault_shown : (f : Fault) → fault_words f ≡ shown_words (as_refusal f)
fault_shown (unknown_type c) = refl
fault_shown (arity c) = refl
fault_shown (unknown_const c) = refl
fault_shown (type_args c) = refl
fault_shown (unbound x) = refl
fault_shown (mismatch f t) = refl

refusal_shown : (r : refusals.Refusal) (x : Refusal) → Tells r x → refusal_words r ≡ shown_words x
refusal_shown (at_fault f) x h = fault_shown f ∙ ap shown_words (sym h)
refusal_shown (not_boolean ty) x h = ap shown_words (sym h)
refusal_shown (unknown_statement l) x h = ap shown_words (sym h)
refusal_shown (duplicate n) x h = ap shown_words (sym h)
refusal_shown open_term x h = ap shown_words (sym h)
refusal_shown (loose_type_var a) x h = ap shown_words (sym h)
refusal_shown typedef_shape x h = ap shown_words (sym h)
refusal_shown (in_line n f) x h = fault_shown f ∙ ap shown_words (sym h)
refusal_shown (bad_line n r) x h = ap shown_words (sym h)
refusal_shown (not_proved s) x (last, is, same) = ap (λ (z : Chars). codes "NotProved" ∷ z ∷ []) (print-last s last same) ∙ ap shown_words (sym is)

pub told_prints : (r : refusals.Refusal) (x : Refusal) → Tells r x → words (shown_words x) ≡ printed_refusal r
told_prints r x h = ap words (sym (refusal_shown r x h))

pub wrong_prints : (e : Wrong) → words (shown_words (as_placed e).refusal) ≡ wrong_word e
wrong_prints (bad_header n) = refl
wrong_prints (bad_command n) = refl
wrong_prints (bad_syntax n) = refl
wrong_prints (bad_byte n) = refl
wrong_prints (bad_char n) = refl
