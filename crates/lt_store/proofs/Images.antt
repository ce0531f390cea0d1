-- What passes make, node by node, and as a store grows.
use Rattle.std.proofs.Common.{◌≡◌, ℕ, suc, ◌+◌, ◌<◌, ◌≤◌, List, length, Bool, true, false, ◌||◌, refl, ap, sym, ◌∙◌, arith, ◌⊎◌, inl, inr, Some, nat_eq}
use Rattle.lt_definitions.specs.Types.{TypeTree}
use Rattle.lt_nameless.specs.Nameless.{Nameless, nameless_application, nameless_abstraction}
use Rattle.lt_nameless.specs.NamelessRules.{instance_at, abstracted, nameless_replaced, has_index}
use Rattle.lt_store.specs.declared.node.Node.{Node}
use Rattle.lt_store.specs.declared.change.Change.{Change}
use Rattle.lt_store.specs.declared.change.Change.TheVariants.{Open, Close, Replace, Types}
use Rattle.lt_store.specs.declared.change.Sought.{Sought}
use Rattle.lt_store.specs.declared.change.Sought.TheVariants.{Variable, Loose}
use Rattle.lt_store.specs.declared.change.Work.{Work}
use Rattle.lt_store.specs.declared.change.Work.TheVariants.{Make, Find, Measure}
use Rattle.lt_store.specs.Trees.{tree_at, Extends}
use Rattle.lt_store.specs.Memos.{Memo, result_at}
use Rattle.lt_store.specs.Passes.{image, type_image, occurs, longest_free, change_step, sought_step, ChangeIsIn, WorkIsIn, number, IsResult, IsSound}
use Rattle.lt_store.proofs.TreeLemmas.{tree_at-extends}
use Rattle.lt_store.proofs.MemoLemmas.{Keeps, kept_back}

one_more : (d : ℕ) → suc d ≡ d + 1
one_more d = omega arith

pub image-application : (ns : List Node) (c : Change) (d : ℕ) (f a : Nameless) → image ns c d (nameless_application f a) ≡ nameless_application (image ns c d f) (image ns c d a)
image-application ns (Open by) d f a = refl
image-application ns (Close x ty) d f a = refl
image-application ns (Replace x ty by) d f a = refl
image-application ns (Types m) d f a = refl

pub image-abstraction : (ns : List Node) (c : Change) (d : ℕ) (t : TypeTree) (b : Nameless) → image ns c d (nameless_abstraction t b) ≡ nameless_abstraction (type_image c t) (image ns c (d + change_step c) b)
image-abstraction ns (Open by) d t b = ap (λ k. nameless_abstraction t (instance_at k (tree_at ns by) b)) (one_more d)
image-abstraction ns (Close x ty) d t b = ap (λ k. nameless_abstraction t (abstracted k x.now ty.now b)) (one_more d)
image-abstraction ns (Replace x ty by) d t b = refl
image-abstraction ns (Types m) d t b = refl

pub occurs-application : (s : Sought) (d : ℕ) (f a : Nameless) → occurs s d (nameless_application f a) ≡ (occurs s d f || occurs s d a)
occurs-application (Variable x ty) d f a = refl
occurs-application Loose d f a = refl

pub occurs-abstraction : (s : Sought) (d : ℕ) (t : TypeTree) (b : Nameless) → occurs s d (nameless_abstraction t b) ≡ occurs s (d + sought_step s) b
occurs-abstraction (Variable x ty) d t b = refl
occurs-abstraction Loose d t b = ap (λ k. has_index k b) (one_more d)

-- an application and an abstraction of what the parts become
pub made_application : (ns : List Node) (c : Change) (d : ℕ) (made whole kf ka f a : Nameless) → made ≡ nameless_application kf ka → whole ≡ nameless_application f a
    → kf ≡ image ns c d f → ka ≡ image ns c d a → made ≡ image ns c d whole
made_application ns c d made whole kf ka f a is was p q =
    is ∙ ap (λ v. nameless_application v ka) p ∙ ap (nameless_application (image ns c d f)) q ∙ sym (image-application ns c d f a) ∙ ap (image ns c d) (sym was)

pub made_abstraction : (ns : List Node) (c : Change) (d : ℕ) (made whole kb b : Nameless) (u t : TypeTree) → made ≡ nameless_abstraction u kb → whole ≡ nameless_abstraction t b
    → u ≡ type_image c t → kb ≡ image ns c (d + change_step c) b → made ≡ image ns c d whole
made_abstraction ns c d made whole kb b u t is was p q =
    is ∙ ap (λ v. nameless_abstraction v kb) p ∙ ap (nameless_abstraction (type_image c t)) q ∙ sym (image-abstraction ns c d t b) ∙ ap (image ns c d) (sym was)

-- one of two numbers that say whether
pub number_left : (p q : Bool) → number p ≡ 1 → number (p || q) ≡ 1
number_left true q e = refl
number_left false q e = absurd (omega arith)

pub number_right : (p q : Bool) → (number p ≡ 1 → ⊥) → number (p || q) ≡ number q
number_right true q e = absurd (e refl)
number_right false q e = refl

pub number_true : (b : Bool) → number b ≡ 1 → b ≡ true
number_true true e = refl
number_true false e = absurd (omega arith)

pub number_false : (b : Bool) → (number b ≡ 1 → ⊥) → b ≡ false
number_false true e = absurd (e refl)
number_false false e = refl

-- more nodes change no image of what stood
pub image-extends : (old new : List Node) (c : Change) (d : ℕ) (t : Nameless) → Extends old new → ChangeIsIn (length old) c → image new c d t ≡ image old c d t
image-extends old new (Open by) d t e h = ap (λ v. instance_at d v t) (tree_at-extends old new by e h)
image-extends old new (Close x ty) d t e h = refl
image-extends old new (Replace x ty by) d t e h = ap (λ v. nameless_replaced x.now ty.now v t) (tree_at-extends old new by e h)
image-extends old new (Types m) d t e h = refl

pub ChangeIsIn-wider : (m n : ℕ) (c : Change) → m ≤ n → ChangeIsIn m c → ChangeIsIn n c
ChangeIsIn-wider m n (Open by) h i = omega arith
ChangeIsIn-wider m n (Close x ty) h i = tt
ChangeIsIn-wider m n (Replace x ty by) h i = omega arith
ChangeIsIn-wider m n (Types t) h i = tt

pub WorkIsIn-wider : (m n : ℕ) (w : Work) → m ≤ n → WorkIsIn m w → WorkIsIn n w
WorkIsIn-wider m n (Make c) h i = ChangeIsIn-wider m n c h i
WorkIsIn-wider m n (Find s) h i = tt
WorkIsIn-wider m n Measure h i = tt

-- a result that was made
pub made_result : (old new : List Node) (c : Change) (i d r : ℕ) → Extends old new → ChangeIsIn (length old) c → i < length old
    → r < length new → tree_at new r ≡ image old c d (tree_at old i) → IsResult (Make c) new i d r
made_result old new c i d r e h hi hr is =
    (hr, is ∙ sym (image-extends old new c d (tree_at old i) e h) ∙ ap (image new c d) (sym (tree_at-extends old new i e hi)))

result-extends : (old new : List Node) (w : Work) (i d r : ℕ) → Extends old new → WorkIsIn (length old) w → i < length old → IsResult w old i d r → IsResult w new i d r
result-extends old new (Make c) i d r e h hi is =
    made_result old new c i d r e h hi (omega (arith, e.grows, is.0)) (tree_at-extends old new r e is.0 ∙ is.1)
result-extends old new (Find s) i d r e h hi is = is ∙ ap (λ t. number (occurs s d t)) (sym (tree_at-extends old new i e hi))
result-extends old new Measure i d r e h hi is = is ∙ ap longest_free (sym (tree_at-extends old new i e hi))

pub sound-extends : (old new : List Node) (w : Work) (m : Memo) → Extends old new → WorkIsIn (length old) w → IsSound w old m → IsSound w new m
sound-extends old new w m e h sound i d r at =
    let s = sound i d r at in
    (omega (arith, e.grows, s.0), result-extends old new w i d r e h s.0 s.1)

pub sound_keep : (ns : List Node) (w : Work) (m m' : Memo) (i d r : ℕ) → Keeps m m' i d r → i < length ns → IsResult w ns i d r → IsSound w ns m → IsSound w ns m'
sound_keep ns w m m' i d r law hi is sound j f q at = by (kept_back m m' i d r law j f q at)
  where
    by : ((i ≡ j) × (d ≡ f) × (r ≡ q)) ⊎ (result_at m j f ≡ Some q) → (j < length ns) × IsResult w ns j f q
    by (inl e) = (omega (arith, e.0), subst3 e.0 e.1 e.2)
      where
        subst3 : i ≡ j → d ≡ f → r ≡ q → IsResult w ns j f q
        subst3 p s t = rw (sym p, sym s, sym t) is
    by (inr e) = sound j f q e

-- a number that says whether, as a test
pub number_test : (b : Bool) → nat_eq (number b) 1 ≡ b
number_test true = refl
number_test false = refl
