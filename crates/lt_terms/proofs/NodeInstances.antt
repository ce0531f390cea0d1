-- Type instances over the nodes of a term.
use Rattle.std.proofs.Common.{◌≡◌, ℕ, ◌+◌, ◌<◌, ◌≤◌, List, [], ◌∷◌, ◌++◌, length, take, map, get_or, refl, sym, ◌∙◌, ap, arith}
use Rattle.std.proofs.lemmas.List.{length-map, map-append, take_more}
use Rattle.std.proofs.Math.Seq.{take-length}
use Rattle.lt_definitions.specs.Types.{TypeTree, TypeMap, type_instance}
use Rattle.lt_definitions.specs.Terms.{TermTree, term_instance}
use Rattle.lt_terms.specs.declared.term.TermNode.{TermNode}
use Rattle.lt_terms.specs.declared.term.TermNode.TheVariants.{Free, Bound, Const, App, Lam}
use Rattle.lt_terms.specs.Layout.{grow, HasRoom}
use Rattle.lt_terms.specs.TypeInstances.{node_instance}

pub grow-instance : (m : TypeMap) (before : List TermTree) (n : TermNode) → grow (map (term_instance m) before) (node_instance m n) ≡ map (term_instance m) (grow before n)
grow-instance m before (Free x ty) = refl
grow-instance m before (Bound x) = refl
grow-instance m before (Const c ts) = refl
grow-instance m (a ∷ f ∷ before) (App i j) = refl
grow-instance m (a ∷ []) (App i j) = refl
grow-instance m [] (App i j) = refl
grow-instance m (b ∷ before) (Lam x ty i) = refl
grow-instance m [] (Lam x ty i) = refl

pub room-instance : (m : TypeMap) (before : List TermTree) (n : TermNode) → HasRoom before n → HasRoom (map (term_instance m) before) (node_instance m n)
room-instance m before (Free x ty) r = tt
room-instance m before (Bound x) r = tt
room-instance m before (Const c ts) r = tt
room-instance m before (App i j) r = simp length-map r
room-instance m before (Lam x ty i) r = simp length-map r

-- one more type
pub map-next : (m : TypeMap) (ts : List TypeTree) (i : ℕ) (t : TypeTree) → i < length ts → t ≡ get_or ts i t → map (type_instance m) (take i ts) ++ type_instance m t ∷ [] ≡ map (type_instance m) (take (i + 1) ts)
map-next m ts i t h e =
    sym (ap (map (type_instance m)) (take_more ts i t h) ∙ map-append (type_instance m) (take i ts) (get_or ts i t ∷ []) ∙ ap (λ u. map (type_instance m) (take i ts) ++ type_instance m u ∷ []) (sym e))

pub map-whole : (m : TypeMap) (ts us : List TypeTree) (i : ℕ) → ts ≡ us → i ≤ length ts → length ts ≤ i → map (type_instance m) (take i ts) ≡ map (type_instance m) us
map-whole m ts us i e up down =
    let k : i ≡ length ts = omega (arith, up, down) in ap (map (type_instance m)) (ap (λ j. take j ts) k ∙ take-length ts ∙ e)
