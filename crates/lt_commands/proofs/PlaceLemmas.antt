-- One more node behind the places of terms.
use Rattle.std.proofs.Common.{◌≡◌, ℕ, suc, ◌+◌, ◌<◌, List, [], ◌∷◌, ◌++◌, length, map, reverse, get_or, Bool, true, false, ◌&&◌, nat_lt, refl, sym, ◌∙◌, ap, arith, length-append}
use Rattle.std.specs.Prelude.{if◌then◌else◌}
use Rattle.std.specs.List.{list_all}
use Rattle.std.proofs.Math.ListN.{get_or-append}
use Rattle.std.proofs.Math.Seq.{get_or-append_seam}
use Rattle.std.proofs.lemmas.Bool.{ltb-true, lt-ltb}
use Rattle.std.proofs.lemmas.List.{reverse-append}
use Rattle.std.proofs.lemmas.List.Folds.{list_all-append}
use Rattle.lt_definitions.proofs.SameNames.{both-true, true-both}
use Rattle.lt_definitions.specs.Terms.{TermTree, bound_name}
use Rattle.lt_terms.specs.declared.term.TermNode.{TermNode}
use Rattle.lt_terms.specs.declared.term.TermNode.TheVariants.{App, Lam}
use Rattle.lt_terms.specs.Layout.{applied, abstracted}
use Rattle.lt_definitions.specs.Types.{Chars, TypeTree}
use Rattle.lt_hol.specs.Lines.{tree_of, trees_behind, trees}
use Rattle.lt_commands.specs.Places.{term_at, terms_at, are_places}

length-behind : (ts : List TermTree) (ns : List TermNode) → length (trees_behind ts ns) ≡ length ts + length ns
length-behind ts [] = omega arith
length-behind ts (n ∷ ns) = length-behind (ts ++ tree_of ts n ∷ []) ns ∙ omega (arith, length-append ts (tree_of ts n ∷ []))

length-trees : (ns : List TermNode) → length (trees ns) ≡ length ns
length-trees ns = length-behind [] ns ∙ omega arith

behind-more : (ts : List TermTree) (ns : List TermNode) (n : TermNode) → trees_behind ts (ns ++ n ∷ []) ≡ trees_behind ts ns ++ tree_of (trees_behind ts ns) n ∷ []
behind-more ts [] n = refl
behind-more ts (m ∷ ns) n = behind-more (ts ++ tree_of ts m ∷ []) ns n

-- an earlier place stands for what it stood for
at-earlier : (ns : List TermNode) (n : TermNode) (p : ℕ) → nat_lt p (length ns) ≡ true → term_at (ns ++ n ∷ []) p ≡ term_at ns p
at-earlier ns n p h =
    ap (λ (ts : List TermTree). get_or ts p (bound_name [])) (behind-more [] ns n)
    ∙ get_or-append (trees ns) (tree_of (trees ns) n ∷ []) (bound_name []) p (omega (arith, length-trees ns, ltb-true p (length ns) h))

at-newest : (ns : List TermNode) (n : TermNode) (p : ℕ) → p ≡ length ns → term_at (ns ++ n ∷ []) p ≡ tree_of (trees ns) n
at-newest ns n p e =
    ap (λ (ts : List TermTree). get_or ts p (bound_name [])) (behind-more [] ns n)
    ∙ ap (λ (k : ℕ). get_or (trees ns ++ tree_of (trees ns) n ∷ []) k (bound_name [])) (e ∙ sym (length-trees ns))
    ∙ get_or-append_seam (trees ns) (tree_of (trees ns) n) [] (bound_name [])

map-earlier : (ns : List TermNode) (n : TermNode) (ps : List ℕ) → are_places ns ps ≡ true → map (term_at (ns ++ n ∷ [])) ps ≡ map (term_at ns) ps
map-earlier ns n [] h = refl
map-earlier ns n (p ∷ ps) h =
    let s = both-true (nat_lt p (length ns)) (are_places ns ps) h in
    λ i. at-earlier ns n p s.0 i ∷ map-earlier ns n ps s.1 i

places-append : (ns : List TermNode) (ps qs : List ℕ) → are_places ns (ps ++ qs) ≡ (are_places ns ps && are_places ns qs)
places-append ns ps qs = list_all-append (λ p. nat_lt p (length ns)) ps qs

places-reverse : (ns : List TermNode) (ps : List ℕ) → are_places ns ps ≡ true → are_places ns (reverse ps) ≡ true
places-reverse ns [] h = refl
places-reverse ns (p ∷ ps) h =
    let s = both-true (nat_lt p (length ns)) (are_places ns ps) h in
    ap (are_places ns) (reverse-append (p ∷ []) ps) ∙ places-append ns (reverse ps) (p ∷ [])
    ∙ true-both (are_places ns (reverse ps)) (are_places ns (p ∷ [])) (places-reverse ns ps s.1) (true-both (nat_lt p (length ns)) true s.0 refl)

pub terms-earlier : (ns : List TermNode) (n : TermNode) (ps : List ℕ) → are_places ns ps ≡ true → terms_at (ns ++ n ∷ []) ps ≡ terms_at ns ps
terms-earlier ns n ps h = map-earlier ns n (reverse ps) (places-reverse ns ps h)

later-place : (k p : ℕ) → nat_lt p k ≡ true → nat_lt p (suc k) ≡ true
later-place k p h = let below : p < k = ltb-true p k h in lt-ltb p (suc k) (omega (arith, below))

later-places : (k : ℕ) (ps : List ℕ) → list_all (λ p. nat_lt p k) ps ≡ true → list_all (λ p. nat_lt p (suc k)) ps ≡ true
later-places k [] h = refl
later-places k (p ∷ ps) h =
    let s = both-true (nat_lt p k) (list_all (λ q. nat_lt q k) ps) h in
    true-both (nat_lt p (suc k)) (list_all (λ q. nat_lt q (suc k)) ps) (later-place k p s.0) (later-places k ps s.1)

length-more : (ns : List TermNode) (n : TermNode) → length (ns ++ n ∷ []) ≡ suc (length ns)
length-more ns n = length-append ns (n ∷ []) ∙ omega arith

-- places stay where one more node is added
pub places-later : (ns ns' : List TermNode) (n : TermNode) (ps : List ℕ) → are_places ns ps ≡ true → ns' ≡ ns ++ n ∷ [] → are_places ns' ps ≡ true
places-later ns ns' n ps h e =
    (λ i. list_all (λ p. nat_lt p ((ap length e ∙ length-more ns n) i)) ps) ∙ later-places (length ns) ps h

-- the places with that of one more node
pub places-more : (ns ns' : List TermNode) (n : TermNode) (ps ps' : List ℕ) (place : ℕ) → are_places ns ps ≡ true → ns' ≡ ns ++ n ∷ [] → place ≡ length ns → ps' ≡ ps ++ place ∷ []
    → are_places ns' ps' ≡ true
places-more ns ns' n ps ps' place h e k q =
    let below : place < suc (length ns) = omega (arith, k) in
    (λ i. list_all (λ p. nat_lt p ((ap length e ∙ length-more ns n) i)) (q i))
    ∙ list_all-append (λ p. nat_lt p (suc (length ns))) ps (place ∷ [])
    ∙ true-both (list_all (λ p. nat_lt p (suc (length ns))) ps) (list_all (λ p. nat_lt p (suc (length ns))) (place ∷ []))
    (later-places (length ns) ps h) (true-both (nat_lt place (suc (length ns))) true (lt-ltb place (suc (length ns)) below) refl)

-- and the terms
pub terms-more : (ns ns' : List TermNode) (n : TermNode) (ps ps' : List ℕ) (place : ℕ) → are_places ns ps ≡ true → ns' ≡ ns ++ n ∷ [] → place ≡ length ns → ps' ≡ ps ++ place ∷ []
    → terms_at ns' ps' ≡ tree_of (trees ns) n ∷ terms_at ns ps
terms-more ns ns' n ps ps' place h e k q =
    (λ i. map (term_at (e i)) ((ap reverse q ∙ reverse-append ps (place ∷ [])) i))
    ∙ (λ i. at-newest ns n place k i ∷ terms-earlier ns n ps h i)

-- places without the newest
pub places-fewer : (ns : List TermNode) (ps qs : List ℕ) (p : ℕ) → are_places ns ps ≡ true → ps ≡ qs ++ p ∷ [] → are_places ns qs ≡ true
places-fewer ns ps qs p h e = (both-true (are_places ns qs) (are_places ns (p ∷ [])) (sym (places-append ns qs (p ∷ [])) ∙ ap (are_places ns) (sym e) ∙ h)).0

pub newest-is : (ns : List TermNode) (ps qs : List ℕ) (p : ℕ) → ps ≡ qs ++ p ∷ [] → terms_at ns ps ≡ term_at ns p ∷ terms_at ns qs
newest-is ns ps qs p e = ap (map (term_at ns)) (ap reverse e ∙ reverse-append qs (p ∷ []))

-- the newest two terms as the application of one to the other
pub terms-applied : (ns : List TermNode) (ps qs rs : List ℕ) (a f : ℕ) → ps ≡ qs ++ a ∷ [] → qs ≡ rs ++ f ∷ []
    → applied (terms_at ns ps) ≡ tree_of (trees ns) (App f a) ∷ terms_at ns rs
terms-applied ns ps qs rs a f e g =
    ap applied (newest-is ns ps qs a e ∙ ap (λ (ts : List TermTree). term_at ns a ∷ ts) (newest-is ns qs rs f g))

-- one term alone is applied to none
pub one-applied : (ns : List TermNode) (ps qs : List ℕ) (a : ℕ) → ps ≡ qs ++ a ∷ [] → qs ≡ [] → applied (terms_at ns ps) ≡ terms_at ns qs
one-applied ns ps qs a e g =
    ap applied (newest-is ns ps qs a e) ∙ (λ i. applied (term_at ns a ∷ terms_at ns (g i))) ∙ sym (ap (terms_at ns) g)

-- the newest term as the body of an abstraction
pub terms-abstracted : (ns : List TermNode) (ps qs : List ℕ) (x : Chars) (ty : TypeTree) (b : ℕ) → ps ≡ qs ++ b ∷ []
    → abstracted x ty (terms_at ns ps) ≡ tree_of (trees ns) (Lam x ty b) ∷ terms_at ns qs
terms-abstracted ns ps qs x ty b e = ap (abstracted x ty) (newest-is ns ps qs b e)

-- the newest place is one of a node
pub newest-within : (ns : List TermNode) (ps qs : List ℕ) (p : ℕ) → are_places ns ps ≡ true → ps ≡ qs ++ p ∷ [] → are_places ns (p ∷ []) ≡ true
newest-within ns ps qs p h e = (both-true (are_places ns qs) (are_places ns (p ∷ [])) (sym (places-append ns qs (p ∷ [])) ∙ ap (are_places ns) (sym e) ∙ h)).1

-- the places with that of one more node, if there was room for it
pub places_pushed : (ns ns' : List TermNode) (n : TermNode) (ps ps' : List ℕ) (place : ℕ) (y : Bool) → are_places ns ps ≡ true → ns' ≡ ns ++ n ∷ [] → place ≡ length ns → ps' ≡ (if y then ps ++ place ∷ [] else ps)
    → are_places ns' ps' ≡ true
places_pushed ns ns' n ps ps' place true h e k q = places-more ns ns' n ps ps' place h e k q
places_pushed ns ns' n ps ps' place false h e k q = ap (are_places ns') q ∙ places-later ns ns' n ps h e
