-- Lines whose terms are places among nodes.
use Rattle.std.proofs.Common.{◌≡◌, ℕ, suc, ◌+◌, ◌<◌, List, [], ◌∷◌, ◌++◌, length, map, get_or, Bool, true, nat_lt, refl, sym, ◌∙◌, ap, subst, arith, length-append, Result, Ok, Err, OnOk, OnErr}
use Rattle.std.specs.List.{list_all}
use Rattle.std.proofs.Math.ListN.{get_or-append}
use Rattle.std.proofs.lemmas.Bool.{ltb-true, lt-ltb, and_parts, and_from}
use Rattle.lt_definitions.proofs.SameNames.{both-true, true-both}
use Rattle.lt_definitions.specs.Terms.{TermTree, bound_name}
use Rattle.lt_definitions.specs.Rules as rules
use Rattle.lt_terms.specs.declared.term.TermNode.{TermNode}
use Rattle.lt_hol.specs.declared.line.Line.{Line}
use Rattle.lt_hol.specs.Lines.{has_children_below, are_in_order, tree_of, trees_behind, trees, as_rule, is_within, rule_of, rules_of}

-- one more node
pub order-more : (place : ℕ) (ns : List TermNode) (n : TermNode) → are_in_order place ns ≡ true → has_children_below (place + length ns) n ≡ true → are_in_order place (ns ++ n ∷ []) ≡ true
order-more place [] n h e = let z : place + 0 ≡ place = omega arith in true-both (has_children_below place n) true (ap (λ k. has_children_below k n) (sym z) ∙ e) refl
order-more place (m ∷ ns) n h e =
    let k = both-true (has_children_below place m) (are_in_order (place + 1) ns) h in
    let z : place + suc (length ns) ≡ (place + 1) + length ns = omega arith in
    true-both (has_children_below place m) (are_in_order (place + 1) (ns ++ n ∷ [])) k.0 (order-more (place + 1) ns n k.1 (ap (λ j. has_children_below j n) (sym z) ∙ e))

length-behind : (ts : List TermTree) (ns : List TermNode) → length (trees_behind ts ns) ≡ length ts + length ns
length-behind ts [] = omega arith
length-behind ts (n ∷ ns) = length-behind (ts ++ tree_of ts n ∷ []) ns ∙ omega (arith, length-append ts (tree_of ts n ∷ []))

behind-append : (ts : List TermTree) (xs ys : List TermNode) → trees_behind ts (xs ++ ys) ≡ trees_behind (trees_behind ts xs) ys
behind-append ts [] ys = refl
behind-append ts (n ∷ xs) ys = behind-append (ts ++ tree_of ts n ∷ []) xs ys

-- a place of a list is that of a longer one
at-front : (ts us : List TermTree) (k p : ℕ) → k ≡ length ts → nat_lt p k ≡ true → get_or (ts ++ us) p (bound_name []) ≡ get_or ts p (bound_name [])
at-front ts us k p e h = get_or-append ts us (bound_name []) p (omega (arith, e, ltb-true p k h))

-- a rule whose terms become the same is the same
map-same : {T : Type 0} (f g : ℕ → T) (test : ℕ → Bool) (r : rules.Rule ℕ) → ((p : ℕ) → test p ≡ true → f p ≡ g p) → list_all test (rules.terms_of r) ≡ true → rules.rule_map f r ≡ rules.rule_map g r
map-same f g test (rules.by_assume p) s h = ap rules.by_assume (s p (and_parts _ _ h).0)
map-same f g test (rules.by_weaken p i) s h = ap (λ t. rules.by_weaken t i) (s p (and_parts _ _ h).0)
map-same f g test (rules.by_refl t) s h = ap rules.by_refl (s t (and_parts _ _ h).0)
map-same f g test (rules.by_sym i) s h = refl
map-same f g test (rules.by_trans i j) s h = refl
map-same f g test (rules.by_cong i j) s h = refl
map-same f g test (rules.by_abs x ty i) s h = refl
map-same f g test (rules.by_beta t) s h = ap rules.by_beta (s t (and_parts _ _ h).0)
map-same f g test (rules.by_eta t) s h = ap rules.by_eta (s t (and_parts _ _ h).0)
map-same f g test (rules.by_eqmp i j) s h = refl
map-same f g test (rules.by_impI p i) s h = ap (λ t. rules.by_impI t i) (s p (and_parts _ _ h).0)
map-same f g test (rules.by_mp i j) s h = refl
map-same f g test (rules.by_allI x ty i) s h = refl
map-same f g test (rules.by_allE t i) s h = ap (λ u. rules.by_allE u i) (s t (and_parts _ _ h).0)
map-same f g test (rules.by_iff i j) s h = refl
map-same f g test (rules.by_inst x ty t i) s h = ap (λ u. rules.by_inst x ty u i) (s t (and_parts _ _ h).0)
map-same f g test (rules.by_tinst a ty i) s h = refl
map-same f g test (rules.by_select p) s h = ap rules.by_select (s p (and_parts _ _ h).0)
map-same f g test (rules.by_ccontr p) s h = ap rules.by_ccontr (s p (and_parts _ _ h).0)
map-same f g test (rules.by_thm label) s h = refl

rule-more : (ts us : List TermTree) (k : ℕ) (l : Line) → k ≡ length ts → is_within k l ≡ true → rule_of (ts ++ us) l ≡ rule_of ts l
rule-more ts us k l e h =
    map-same (λ p. get_or (ts ++ us) p (bound_name [])) (λ p. get_or ts p (bound_name [])) (λ p. nat_lt p k) (as_rule l) (λ p b. at-front ts us k p e b) h

rules-more : (ts us : List TermTree) (k : ℕ) (ls : List Line) → k ≡ length ts → list_all (is_within k) ls ≡ true → map (rule_of (ts ++ us)) ls ≡ map (rule_of ts) ls
rules-more ts us k [] e h = refl
rules-more ts us k (l ∷ ls) e h =
    let s = both-true (is_within k l) (list_all (is_within k) ls) h in
    λ i. rule-more ts us k l e s.0 i ∷ rules-more ts us k ls e s.1 i

-- the lines stay what they are with one more node
pub rules-stay : (ns : List TermNode) (n : TermNode) (ls : List Line) → list_all (is_within (length ns)) ls ≡ true → rules_of (ns ++ n ∷ []) ls ≡ rules_of ns ls
rules-stay ns n ls h =
    ap (λ (ts : List TermTree). map (rule_of ts) ls) (behind-append [] ns (n ∷ []))
    ∙ rules-more (trees ns) (tree_of (trees ns) n ∷ []) (length ns) ls (sym (length-behind [] ns ∙ omega arith)) h

later : (k p : ℕ) → nat_lt p k ≡ true → nat_lt p (suc k) ≡ true
later k p h = let below : p < k = ltb-true p k h in lt-ltb p (suc k) (omega (arith, below))

all-later : (k : ℕ) (ps : List ℕ) → list_all (λ p. nat_lt p k) ps ≡ true → list_all (λ p. nat_lt p (suc k)) ps ≡ true
all-later k [] h = refl
all-later k (p ∷ ps) h = let s = and_parts _ _ h in and_from _ _ (later k p s.0) (all-later k ps s.1)

within-more : (k : ℕ) (l : Line) → is_within k l ≡ true → is_within (suc k) l ≡ true
within-more k l h = all-later k (rules.terms_of (as_rule l)) h

all-within : (k : ℕ) (ls : List Line) → list_all (is_within k) ls ≡ true → list_all (is_within (suc k)) ls ≡ true
all-within k [] h = refl
all-within k (l ∷ ls) h =
    let s = both-true (is_within k l) (list_all (is_within k) ls) h in
    true-both (is_within (suc k) l) (list_all (is_within (suc k)) ls) (within-more k l s.0) (all-within k ls s.1)

pub within-node : (ns : List TermNode) (n : TermNode) (ls : List Line) → list_all (is_within (length ns)) ls ≡ true → list_all (is_within (length (ns ++ n ∷ []))) ls ≡ true
within-node ns n ls h = let e : length (ns ++ n ∷ []) ≡ suc (length ns) = length-append ns (n ∷ []) ∙ omega arith in ap (λ k. list_all (is_within k) ls) e ∙ all-within (length ns) ls h

-- one more line
pub within-line : (k : ℕ) (ls : List Line) (l : Line) → list_all (is_within k) ls ≡ true → is_within k l ≡ true → list_all (is_within k) (ls ++ l ∷ []) ≡ true
within-line k [] l h e = true-both (is_within k l) true e refl
within-line k (m ∷ ls) l h e =
    let s = both-true (is_within k m) (list_all (is_within k) ls) h in
    true-both (is_within k m) (list_all (is_within k) (ls ++ l ∷ [])) s.0 (within-line k ls l s.1 e)

pub rules-line : (ts : List TermTree) (ls : List Line) (l : Line) → map (rule_of ts) (ls ++ l ∷ []) ≡ map (rule_of ts) ls ++ rule_of ts l ∷ []
rules-line ts [] l = refl
rules-line ts (m ∷ ls) l = ap (λ rs. rule_of ts m ∷ rs) (rules-line ts ls l)

-- a push that may want memory
pub grown : {E : Type 0} (r : Result (Unit {0}) E) (P : List TermNode → Type 0) (old new : List TermNode) (n : TermNode) → OnOk r (new ≡ old ++ n ∷ []) → OnErr r (new ≡ old) → P old → P (old ++ n ∷ []) → P new
grown (Ok _) P old new n ok err p q = subst P (sym ok) q
grown (Err _) P old new n ok err p q = subst P (sym err) p
