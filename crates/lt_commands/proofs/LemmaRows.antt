-- A lemma is made of its statement, its label and its lines.
use Rattle.std.proofs.Common.{◌≡◌, ◌∙◌, ap, refl, List, [], ◌∷◌, Option}
use Rattle.lt_definitions.specs.Types.{Chars}
use Rattle.lt_definitions.specs.Terms.{TermTree}
use Rattle.lt_grammar.specs.declared.words.Part.TheVariants.{Label, AStatement}
use Rattle.lt_grammar.specs.declared.words.Head.TheVariants.{Lemma}
use Rattle.lt_commands.specs.Making.{Made, newest_label, newest_whole, pop, lemma_of, command_made}

label-first : (ls : List Chars) (m k : Made) → (newest_label ls m).0 ≡ (newest_label ls k).0
label-first [] m k = refl
label-first (l ∷ ls) m k = refl

label-lines : (ls : List Chars) (m : Made) → (newest_label ls m).1.terms.lines ≡ m.terms.lines
label-lines [] m = refl
label-lines (l ∷ ls) m = refl

whole-labels : (ts : List TermTree) (m : Made) → (newest_whole ts m).1.labels ≡ m.labels
whole-labels [] m = refl
whole-labels (t ∷ ts) m = refl

whole-lines : (ts : List TermTree) (m : Made) → (newest_whole ts m).1.terms.lines ≡ m.terms.lines
whole-lines [] m = refl
whole-lines (t ∷ ts) m = refl

pub lemma_made : (m m' m'' : Made) (o : Option TermTree) (q : Option Chars) → o ≡ (pop AStatement m).0 → m' ≡ (pop AStatement m).1 → q ≡ (pop Label m').0 → m'' ≡ (pop Label m').1
    → lemma_of o q m''.terms.lines ≡ command_made Lemma m
lemma_made m m' m'' o q e f g h =
    let labels : m'.labels ≡ m.labels = ap (λ (z : Made). z.labels) f ∙ whole-labels m.terms.wholes m in
    let label : q ≡ (newest_label m.labels m).0 = g ∙ label-first m'.labels m' m ∙ ap (λ (ls : List Chars). (newest_label ls m).0) labels in
    let lines : m''.terms.lines ≡ m.terms.lines = ap (λ (z : Made). z.terms.lines) h ∙ label-lines m'.labels m' ∙ ap (λ (z : Made). z.terms.lines) f ∙ whole-lines m.terms.wholes m in
    λ i. lemma_of (e i) (label i) (lines i)
