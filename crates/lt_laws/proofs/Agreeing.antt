-- The texts of the table are those of the laws.
use Rattle.std.proofs.Common.{◌≡◌, ℕ, Bor, inl, inr, List, [], ◌∷◌, Option, Some, None, if◌then◌else◌, refl, sym, ◌∙◌, ap}
use Rattle.std.specs.Prelude.{option_map, option_and_then}
use Rattle.std.specs.Option.{option_copied}
use Rattle.std.proofs.lemmas.Bool.{cases_Bool, cond-true, cond-false}
use Rattle.lt_definitions.specs.Types.{Chars, same_name, found}
use Rattle.lt_definitions.specs.Terms.{TermTree}
use Rattle.lt_transport_definitions.specs.Notation.{WithType}
use Rattle.lt_transport_definitions.specs.LawTexts.{law_statement}
use Rattle.lt_transport_definitions.specs.LawTable.{laws}
use Rattle.lt_tables.specs.Stacks.{term_of}
use Rattle.lt_laws.specs.Tables.{law_texts, text_of}

-- each name with the text of its statement
abbrev Agree : List (Chars × List ℕ) → List (Chars × WithType) → Type 0
Agree [] [] = Unit {0}
Agree (t ∷ ts) (l ∷ ls) = (t.0 ≡ l.0) × (term_of t.1 ≡ Some l.1.term) × Agree ts ls
Agree _ _ = ⊥

abbrev read : Option (List ℕ) → Option TermTree
read o = option_and_then term_of o

abbrev stated : Option WithType → Option TermTree
stated o = option_map (λ (s : WithType). s.term) o

found-agrees : (ts : List (Chars × List ℕ)) (ls : List (Chars × WithType)) → Agree ts ls → (w : Chars) → read (found w ts) ≡ stated (found w ls)
found-agrees [] [] h w = refl
found-agrees [] (l ∷ ls) h w = absurd h
found-agrees (t ∷ ts) [] h w = absurd h
found-agrees (t ∷ ts) (l ∷ ls) h w = elim (cases_Bool (same_name w l.0)) [
  | inl e ↦ ap (λ n. read (if same_name w n then Some t.1 else found w ts)) h.0
      ∙ ap read (cond-true (same_name w l.0) (Some t.1) (found w ts) e) ∙ h.1
      ∙ sym (ap stated (cond-true (same_name w l.0) (Some l.1) (found w ls) e))
  | inr e ↦ ap (λ n. read (if same_name w n then Some t.1 else found w ts)) h.0
      ∙ ap read (cond-false (same_name w l.0) (Some t.1) (found w ts) e) ∙ found-agrees ts ls h.2 w
      ∙ sym (ap stated (cond-false (same_name w l.0) (Some l.1) (found w ls) e))
]

all-agree : Agree law_texts laws
all-agree =
    (refl, refl, (refl, refl, (refl, refl, (refl, refl, (refl, refl, (refl, refl, (refl, refl, (refl, refl, (refl, refl, (refl, refl, (refl, refl, (refl, refl, (refl, refl, (refl, refl, (refl, refl, (refl, refl, (refl, refl, (refl, refl, (refl, refl, (refl, refl, (refl, refl, (refl, refl, (refl, refl, (refl, refl, (refl, refl, (refl, refl, (refl, refl, (refl, refl, (refl, refl, (refl, refl, (refl, refl, (refl, refl, tt))))))))))))))))))))))))))))))))

pub laws-agree : (w : Chars) → read (text_of w) ≡ law_statement w
laws-agree w = found-agrees law_texts laws all-agree w

-- a text that was found, and none
pub read-some : (w : Chars) (text : Bor (List ℕ)) (o : Option (Bor (List ℕ))) → o ≡ Some text → option_copied o ≡ text_of w → term_of text.now ≡ law_statement w
read-some w text o e d = sym (ap (λ (p : Option (Bor (List ℕ))). read (option_copied p)) e) ∙ ap read d ∙ laws-agree w

pub read-none : (w : Chars) (o : Option (Bor (List ℕ))) → o ≡ None → option_copied o ≡ text_of w → None ≡ law_statement w
read-none w o e d = sym (ap (λ (p : Option (Bor (List ℕ))). read (option_copied p)) e) ∙ ap read d ∙ laws-agree w
