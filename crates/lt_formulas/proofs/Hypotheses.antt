-- Lists of hypotheses and the terms that they stand for.
use Rattle.std.proofs.Common.{◌≡◌, ℕ, ◌+◌, ◌<◌, List, [], ◌∷◌, ◌++◌, length, get_or, take, drop, ◌||◌, ◌↔◌, Bool, true, false, not, refl, ap, sym, ◌∙◌, if◌then◌else◌, cond, append-nil}
use Rattle.std.proofs.lemmas.List.{map-append}
use Rattle.std.proofs.lemmas.List.Elements.{filter-append}
use Rattle.std.specs.List.{list_any}
use Rattle.lt_nameless.specs.Nameless.{Nameless}
use Rattle.lt_nameless.specs.NamelessRules.{same_nameless, nameless_union, nameless_without}
use Rattle.lt_store.specs.declared.node.Node.{Node}
use Rattle.lt_store.specs.Trees.{tree_at, trees}
use Rattle.lt_store.proofs.SameTerms.{one_test, nameless-true, true-nameless}
use Rattle.lt_store.proofs.Lists.{trees_more, trees_left, any_more}

-- what a comparison answers is the test
pub same-test : (test : Bool) (s t : Nameless) → (test ≡ true) ↔ (s ≡ t) → same_nameless s t ≡ test
same-test test s t h = one_test (same_nameless s t) test (λ e. h.1 (nameless-true s t e)) (λ e. true-nameless s t (h.0 e))

-- one more hypothesis was looked at
pub any-more : (ns : List Node) (p : ℕ) (ids : List ℕ) (i : ℕ) (test : Bool) → i < length ids → (test ≡ true) ↔ (tree_at ns p ≡ tree_at ns (get_or ids i 0))
    → list_any (same_nameless (tree_at ns p)) (trees ns (drop i ids)) ≡ (test || list_any (same_nameless (tree_at ns p)) (trees ns (drop (i + 1) ids)))
any-more ns p ids i test l same = any_more ns (same_nameless (tree_at ns p)) ids i test l (same-test test (tree_at ns p) (tree_at ns (get_or ids i 0)) same)

pub without-more : (ns : List Node) (p : ℕ) (ids left : List ℕ) (i : ℕ) (test : Bool) → i < length ids → (test ≡ true) ↔ (tree_at ns p ≡ tree_at ns (get_or ids i 0))
    → trees ns left ≡ nameless_without (tree_at ns p) (trees ns (take i ids))
    → trees ns (if test then left else left ++ get_or ids i 0 ∷ []) ≡ nameless_without (tree_at ns p) (trees ns (take (i + 1) ids))
without-more ns p ids left i test l same so =
    by test (same-test test (tree_at ns p) (tree_at ns (get_or ids i 0)) same) ∙ sym (ap (nameless_without (tree_at ns p)) (trees_more ns ids i l))
  where
    front : List Nameless
    front = trees ns (take i ids)

    next : Nameless
    next = tree_at ns (get_or ids i 0)

    split : nameless_without (tree_at ns p) (trees ns (take i ids) ++ tree_at ns (get_or ids i 0) ∷ []) ≡ nameless_without (tree_at ns p) (trees ns (take i ids)) ++ nameless_without (tree_at ns p) (tree_at ns (get_or ids i 0) ∷ [])
    split = filter-append (λ h. not (same_nameless (tree_at ns p) h)) (trees ns (take i ids)) (tree_at ns (get_or ids i 0) ∷ [])

    by : (b : Bool) → same_nameless (tree_at ns p) (tree_at ns (get_or ids i 0)) ≡ b
        → trees ns (if b then left else left ++ get_or ids i 0 ∷ []) ≡ nameless_without (tree_at ns p) (trees ns (take i ids) ++ tree_at ns (get_or ids i 0) ∷ [])
    by true q =
        so ∙ sym (append-nil (nameless_without (tree_at ns p) (trees ns (take i ids))))
        ∙ ap (λ b. nameless_without (tree_at ns p) (trees ns (take i ids)) ++ cond (not b) (tree_at ns (get_or ids i 0) ∷ []) []) (sym q) ∙ sym split
    by false q =
        map-append (tree_at ns) left (get_or ids i 0 ∷ []) ∙ ap (λ l. l ++ tree_at ns (get_or ids i 0) ∷ []) so
        ∙ ap (λ b. nameless_without (tree_at ns p) (trees ns (take i ids)) ++ cond (not b) (tree_at ns (get_or ids i 0) ∷ []) []) (sym q) ∙ sym split

-- a union goes on
pub union-more : (ns : List Node) (ids all : List ℕ) (i : ℕ) (test : Bool) → i < length ids → test ≡ list_any (same_nameless (tree_at ns (get_or ids i 0))) (trees ns all)
    → nameless_union (trees ns (if test then all else all ++ get_or ids i 0 ∷ [])) (trees ns (drop (i + 1) ids)) ≡ nameless_union (trees ns all) (trees ns (drop i ids))
union-more ns ids all i test l e =
    by test ∙ ap (λ b. nameless_union (if b then trees ns all else trees ns all ++ tree_at ns (get_or ids i 0) ∷ []) (trees ns (drop (i + 1) ids))) e
    ∙ sym (ap (nameless_union (trees ns all)) (trees_left ns ids i l))
  where
    by : (b : Bool) → nameless_union (trees ns (if b then all else all ++ get_or ids i 0 ∷ [])) (trees ns (drop (i + 1) ids))
        ≡ nameless_union (if b then trees ns all else trees ns all ++ tree_at ns (get_or ids i 0) ∷ []) (trees ns (drop (i + 1) ids))
    by true = refl
    by false = ap (λ ts. nameless_union ts (trees ns (drop (i + 1) ids))) (map-append (tree_at ns) all (get_or ids i 0 ∷ []))
