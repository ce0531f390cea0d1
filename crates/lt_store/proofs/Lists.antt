-- Lists of ids and the terms that they stand for.
use Rattle.std.proofs.Common.{◌≡◌, ℕ, suc, ◌+◌, ◌<◌, ◌≤◌, List, [], ◌∷◌, ◌++◌, length, get_or, take, drop, drop-cons, ◌||◌, map, Bool, true, false, refl, ap, sym, ◌∙◌, arith}
use Rattle.std.proofs.lemmas.List.{take_more, map-append}
use Rattle.std.proofs.lemmas.List.Elements.{All-append, All-cons, All-nil}
use Rattle.std.specs.List.{list_any}
use Rattle.lt_nameless.specs.Nameless.{Nameless}
use Rattle.lt_store.specs.declared.node.Node.{Node}
use Rattle.lt_store.specs.declared.change.Change.{Change}
use Rattle.lt_store.specs.declared.change.Sought.{Sought}
use Rattle.lt_store.specs.declared.change.Work.TheVariants.{Make, Find}
use Rattle.lt_store.specs.Trees.{tree_at, trees, AllBelow, Extends}
use Rattle.lt_store.specs.Passes.{image, occurs, ChangeIsIn, IsResult, number}
use Rattle.lt_store.proofs.TreeLemmas.{tree_at-extends, extends_on}
use Rattle.lt_store.proofs.Images.{image-extends, number_true, number_false}

pub trees-extends : (old new : List Node) (ids : List ℕ) → Extends old new → AllBelow (length old) ids → trees new ids ≡ trees old ids
trees-extends old new [] e h = refl
trees-extends old new (i ∷ ids) e h =
    ap (λ t. t ∷ trees new ids) (tree_at-extends old new i e (h 0 0 (omega arith))) ∙ ap (λ ts. tree_at old i ∷ ts) (trees-extends old new ids e (λ k d l. h (suc k) d (omega arith)))

pub AllBelow-wider : (m n : ℕ) (ids : List ℕ) → m ≤ n → AllBelow m ids → AllBelow n ids
AllBelow-wider m n ids w h = λ k d l. omega (arith, h k d l)

pub AllBelow-push : (n : ℕ) (ids : List ℕ) (i : ℕ) → AllBelow n ids → i < n → AllBelow n (ids ++ i ∷ [])
AllBelow-push n ids i h l = All-append (λ k. k < n) ids (i ∷ []) h (All-cons (λ k. k < n) i [] l (All-nil (λ k. k < n)))

pub AllBelow-none : (n : ℕ) → AllBelow n []
AllBelow-none n = All-nil (λ k. k < n)

-- one more of the terms so far
pub trees_more : (ns : List Node) (ids : List ℕ) (i : ℕ) → i < length ids → trees ns (take (i + 1) ids) ≡ trees ns (take i ids) ++ tree_at ns (get_or ids i 0) ∷ []
trees_more ns ids i l = ap (trees ns) (take_more ids i 0 l) ∙ map-append (tree_at ns) (take i ids) (get_or ids i 0 ∷ [])

-- the first of the terms that are left
pub trees_left : (ns : List Node) (ids : List ℕ) (i : ℕ) → i < length ids → trees ns (drop i ids) ≡ tree_at ns (get_or ids i 0) ∷ trees ns (drop (i + 1) ids)
trees_left ns ids i l =
    let e : suc i ≡ i + 1 = omega arith in
    ap (trees ns) (drop-cons ids i 0 l) ∙ ap (λ k. tree_at ns (get_or ids i 0) ∷ trees ns (drop k ids)) e

-- what was found so far, of a test on terms
pub any_more : (ns : List Node) (test : Nameless → Bool) (ids : List ℕ) (i : ℕ) (b : Bool) → i < length ids → test (tree_at ns (get_or ids i 0)) ≡ b
    → list_any test (trees ns (drop i ids)) ≡ (b || list_any test (trees ns (drop (i + 1) ids)))
any_more ns test ids i b l is = ap (list_any test) (trees_left ns ids i l) ∙ ap (λ p. p || list_any test (trees ns (drop (i + 1) ids))) is

-- one more image
pub each_more : (old now new : List Node) (c : Change) (roots made : List ℕ) (i r : ℕ) → Extends old now → Extends now new → ChangeIsIn (length old) c → AllBelow (length old) roots → AllBelow (length now) made
    → i < length roots → trees now made ≡ map (image old c 0) (trees old (take i roots)) → IsResult (Make c) new (get_or roots i 0) 0 r
    → trees new (made ++ r ∷ []) ≡ map (image old c 0) (trees old (take (i + 1) roots))
each_more old now new c roots made i r e f h below made_below l is one =
    map-append (tree_at new) made (r ∷ [])
    ∙ ap (λ ts. ts ++ tree_at new r ∷ []) (trees-extends now new made f made_below ∙ is)
    ∙ ap (λ t. map (image old c 0) (trees old (take i roots)) ++ t ∷ []) last
    ∙ sym (map-append (image old c 0) (trees old (take i roots)) (tree_at old (get_or roots i 0) ∷ []))
    ∙ ap (map (image old c 0)) (sym (trees_more old roots i l))
  where
    whole : Extends old new
    whole = extends_on old now new e f

    last : tree_at new r ≡ image old c 0 (tree_at old (get_or roots i 0))
    last = one.1 ∙ image-extends old new c 0 (tree_at new (get_or roots i 0)) whole h ∙ ap (image old c 0) (tree_at-extends old new (get_or roots i 0) whole (below i 0 l))

-- what one more search says
pub found_more : (old new : List Node) (s : Sought) (roots : List ℕ) (i r : ℕ) → Extends old new → AllBelow (length old) roots → i < length roots → IsResult (Find s) new (get_or roots i 0) 0 r
    → r ≡ number (occurs s 0 (tree_at old (get_or roots i 0)))
found_more old new s roots i r e below l is = is ∙ ap (λ t. number (occurs s 0 t)) (tree_at-extends old new (get_or roots i 0) e (below i 0 l))

pub yes_more : (old new : List Node) (s : Sought) (roots : List ℕ) (i r : ℕ) → Extends old new → AllBelow (length old) roots → i < length roots → IsResult (Find s) new (get_or roots i 0) 0 r → r ≡ 1
    → list_any (occurs s 0) (trees old (drop i roots)) ≡ true
yes_more old new s roots i r e below l is one =
    any_more old (occurs s 0) roots i true l (number_true _ (sym (found_more old new s roots i r e below l is) ∙ one))

pub no_more : (old new : List Node) (s : Sought) (roots : List ℕ) (i r : ℕ) → Extends old new → AllBelow (length old) roots → i < length roots → IsResult (Find s) new (get_or roots i 0) 0 r → (r ≡ 1 → ⊥)
    → list_any (occurs s 0) (trees old (drop i roots)) ≡ list_any (occurs s 0) (trees old (drop (i + 1) roots))
no_more old new s roots i r e below l is none =
    any_more old (occurs s 0) roots i false l (number_false _ (λ h. none (found_more old new s roots i r e below l is ∙ h)))
