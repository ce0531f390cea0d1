-- The walk through a text has one ending.
use Rattle.std.proofs.Common.{◌≡◌, ℕ, ◌+◌, List, [], ◌∷◌, ◌++◌, length, refl, sym, ap, ◌∙◌, subst, arith, Option, Some, None}
use Rattle.std.specs.Prelude.{IsSome}
use Rattle.lt_definitions.specs.Items.{Item, Context, empty, with_item, context_of}
use Rattle.lt_definitions.specs.Theory.{Refusal, refusal, AreValid, IsPlainTheory}
use Rattle.lt_texts.specs.PlainTexts.{HasItems}
use Rattle.lt_texts.specs.Walks.{Walk}
use Rattle.lt_texts.specs.declared.walks.Ending.{Ending}
use Rattle.lt_texts.specs.declared.walks.Ending.TheVariants.{Accepted, TooLong, NotBuilt, AtItem}
use Rattle.lt_texts.proofs.OneReading.{one_reading}

-- what isn't refused isn't refused for some reason
accepted : (o : Option Refusal) → o ≡ None → IsSome o → ⊥
accepted None e h = absurd (cc h)
accepted (Some r) e h = absurd (cc e)

-- each item of a valid list is valid over those before it
pub valid_at : (ctx : Context) (items : List Item) (i : Item) (later : List Item) → AreValid ctx (items ++ i ∷ later) → refusal (context_of ctx items) i ≡ None
valid_at ctx [] i later v = v.0
valid_at ctx (x ∷ items) i later v = valid_at (with_item ctx x) items i later v.1

-- there is one first item that isn't valid
pub one_first : (ctx : Context) (xs ys : List Item) (i j : Item) (l m : List Item) → xs ++ i ∷ l ≡ ys ++ j ∷ m → AreValid ctx xs → AreValid ctx ys
    → IsSome (refusal (context_of ctx xs) i) → IsSome (refusal (context_of ctx ys) j) → xs ≡ ys
one_first ctx [] [] i j l m e v w wrong nor = refl
one_first ctx [] (y ∷ ys) i j l m e v w wrong nor =
    let same : y ≡ i = cc e in
    absurd (accepted (refusal ctx i) (subst (λ (k : Item). refusal ctx k ≡ None) same w.0) wrong)
one_first ctx (x ∷ xs) [] i j l m e v w wrong nor =
    let same : x ≡ j = cc e in
    absurd (accepted (refusal ctx j) (subst (λ (k : Item). refusal ctx k ≡ None) same v.0) nor)
one_first ctx (x ∷ xs) (y ∷ ys) i j l m e v w wrong nor =
    let same : y ≡ x = cc e in
    let tail : xs ++ i ∷ l ≡ ys ++ j ∷ m = cc e in
    let valid : AreValid (with_item ctx x) ys = subst (λ (k : Item). AreValid (with_item ctx k) ys) same w.1 in
    let bad : IsSome (refusal (context_of (with_item ctx x) ys) j) = subst (λ (k : Item). IsSome (refusal (context_of (with_item ctx k) ys) j)) same nor in
    let rest = one_first (with_item ctx x) xs ys i j l m tail v.1 valid wrong bad in
    cc (same, rest)

-- an accepted text has no item that isn't valid
both : (text : List ℕ) (xs ys : List Item) (i : Item) (later : List Item) → HasItems text xs → IsPlainTheory xs → HasItems text (ys ++ i ∷ later)
    → IsSome (refusal (context_of empty ys) i) → ⊥
both text xs ys i later p v q wrong =
    accepted (refusal (context_of empty ys) i)
    (valid_at empty ys i later (subst (AreValid empty) (one_reading text xs (ys ++ i ∷ later) p q) v)) wrong

pub one_ending : (text : List ℕ) (items others : List Item) (ending other : Ending) → Walk text items ending → Walk text others other → (items ≡ others) × (ending ≡ other)
unfolding Walk
one_ending text xs ys Accepted Accepted p q = (one_reading text xs ys p.1 q.1, refl)
one_ending text xs ys Accepted TooLong p q = absurd (omega arith)
one_ending text xs ys Accepted NotBuilt p q = absurd (q.2 xs p.1)
one_ending text xs ys Accepted (AtItem n) p (short, item, later, reading, valid, wrong, count) = absurd (both text xs ys item later p.1 p.2 reading wrong)
one_ending text xs ys TooLong Accepted p q = absurd (omega arith)
one_ending text xs ys TooLong TooLong p q = (cc (p.1, q.1), refl)
one_ending text xs ys TooLong NotBuilt p q = absurd (omega arith)
one_ending text xs ys TooLong (AtItem n) p q = absurd (omega arith)
one_ending text xs ys NotBuilt Accepted p q = absurd (p.2 ys q.1)
one_ending text xs ys NotBuilt TooLong p q = absurd (omega arith)
one_ending text xs ys NotBuilt NotBuilt p q = (cc (p.1, q.1), refl)
one_ending text xs ys NotBuilt (AtItem n) p (short, item, later, reading, valid, wrong, count) = absurd (p.2 (ys ++ item ∷ later) reading)
one_ending text xs ys (AtItem n) Accepted (short, item, later, reading, valid, wrong, count) q = absurd (both text ys xs item later q.1 q.2 reading wrong)
one_ending text xs ys (AtItem n) TooLong p q = absurd (omega arith)
one_ending text xs ys (AtItem n) NotBuilt (short, item, later, reading, valid, wrong, count) q = absurd (q.2 (xs ++ item ∷ later) reading)
one_ending text xs ys (AtItem n) (AtItem k) (short, item, later, reading, valid, wrong, count) (short', item', later', reading', valid', wrong', count') =
    let same = one_first empty xs ys item item' later later' (one_reading text _ _ reading reading') valid valid' wrong wrong' in
    let numbers : n ≡ k = count ∙ ap (λ (l : List Item). length l + 1) same ∙ sym count' in
    (same, ap AtItem numbers)
