-- Each typed statement has types for its numbered variables.
use Rattle.std.specs.Prelude.{unwrap_or}
use Rattle.std.proofs.Common.{◌≡◌, ℕ, zero, suc, ◌+◌, List, [], ◌∷◌, ◌++◌, length, map, refl, subst, ap, ◌∙◌, arith}
use Rattle.std.proofs.lemmas.List.{length-append, length-map}
use Rattle.lt_definitions.specs.Types.{Chars, TypeTree, type_variable, bool, fun, TypeMap, type_instance}
use Rattle.lt_definitions.specs.Terms.{constant}
use Rattle.lt_definitions.specs.Typing.{Signature, at_types, HasType}
use Rattle.lt_transport_definitions.specs.Relations.{RelationVariable}
use Rattle.lt_transport_definitions.specs.Candidates.{type_at, match_of}
use Rattle.lt_transport_definitions.specs.Correspondence.{ChosenStatement, chosen_name, chosen_rule, chosen_equality, not_chosen, chosen_application, chosen_abstraction, statement_of}
use Rattle.lt_search_laws.specs.Equations.{size, rule_slots}
use Rattle.lt_search_laws.specs.Slots.{SlotsOf, HasNodes, HasChoices, SlotsAreThere}

abbrev pub node_types : (sig : Signature) (env : List (Chars × TypeTree)) (K : ChosenStatement) (ty : TypeTree) → HasType sig env (statement_of K) ty → List TypeTree
node_types sig env (chosen_name x) ty h = ty ∷ []
node_types sig env (chosen_rule c ts i rule) ty h = ty ∷ []
node_types sig env (chosen_equality c ts) ty h = ty ∷ []
node_types sig env (not_chosen c ts) ty h = ty ∷ []
node_types sig env (chosen_application f a) ty h = node_types sig env f (fun h.0 ty) h.1 ++ (node_types sig env a h.0 h.2 ++ ty ∷ [])
node_types sig env (chosen_abstraction x u b) ty h = node_types sig ((x, u) ∷ env) b h.0 h.2 ++ u ∷ []

abbrev pub rule_types : ChosenStatement → List TypeTree
rule_types (chosen_name x) = []
rule_types (chosen_rule c ts i rule) = map (λ x. type_instance (match_of rule ts) (type_variable x.right_name)) rule.variables
rule_types (chosen_equality c ts) = []
rule_types (not_chosen c ts) = []
rule_types (chosen_application f a) = rule_types a ++ rule_types f
rule_types (chosen_abstraction x u b) = rule_types b

node_types-length : (sig : Signature) (env : List (Chars × TypeTree)) (K : ChosenStatement) (ty : TypeTree) (h : HasType sig env (statement_of K) ty)
    → length (node_types sig env K ty h) ≡ size (statement_of K)
node_types-length sig env (chosen_name x) ty h = refl
node_types-length sig env (chosen_rule c ts i rule) ty h = refl
node_types-length sig env (chosen_equality c ts) ty h = refl
node_types-length sig env (not_chosen c ts) ty h = refl
node_types-length sig env (chosen_application f a) ty h =
    let us = node_types sig env f (fun h.0 ty) h.1 in
    let vs = node_types sig env a h.0 h.2 in
    let l = length-append us (vs ++ ty ∷ []) in
    let r = length-append vs (ty ∷ []) in
    let p = node_types-length sig env f (fun h.0 ty) h.1 in
    let q = node_types-length sig env a h.0 h.2 in omega arith
node_types-length sig env (chosen_abstraction x u b) ty h =
    let l = length-append (node_types sig ((x, u) ∷ env) b h.0 h.2) (u ∷ []) in
    let p = node_types-length sig ((x, u) ∷ env) b h.0 h.2 in omega arith

rule_types-length : (K : ChosenStatement) → length (rule_types K) ≡ rule_slots K
rule_types-length (chosen_name x) = refl
rule_types-length (chosen_rule c ts i rule) = length-map rule.variables (λ x. type_instance (match_of rule ts) (type_variable x.right_name))
rule_types-length (chosen_equality c ts) = refl
rule_types-length (not_chosen c ts) = refl
rule_types-length (chosen_application f a) =
    let l = length-append (rule_types a) (rule_types f) in
    let p = rule_types-length a in
    let q = rule_types-length f in omega arith
rule_types-length (chosen_abstraction x u b) = rule_types-length b

abbrev TypesAt : (ℕ → TypeTree) → ℕ → List TypeTree → Type 0
TypesAt τ n [] = Unit {0}
TypesAt τ n (t ∷ ts) = (τ n ≡ t) × TypesAt τ (suc n) ts

types-left : (τ : ℕ → TypeTree) (n : ℕ) (us vs : List TypeTree) → TypesAt τ n (us ++ vs) → TypesAt τ n us
types-left τ n [] vs h = tt
types-left τ n (u ∷ us) vs h = (h.0, types-left τ (suc n) us vs h.1)

types-right : (τ : ℕ → TypeTree) (n m : ℕ) (us vs : List TypeTree) → m ≡ n + length us → TypesAt τ n (us ++ vs) → TypesAt τ m vs
types-right τ n m [] vs e h = let p : n ≡ m = omega arith in subst (λ k. TypesAt τ k vs) p h
types-right τ n m (u ∷ us) vs e h = types-right τ (suc n) m us vs (omega arith) h.1

abbrev pub type_given : List TypeTree → ℕ → TypeTree
type_given [] n = bool
type_given (t ∷ ts) zero = t
type_given (t ∷ ts) (suc n) = type_given ts n

types-shift : (τ : ℕ → TypeTree) (n : ℕ) (ts : List TypeTree) → TypesAt (λ k. τ (suc k)) n ts → TypesAt τ (suc n) ts
types-shift τ n [] h = tt
types-shift τ n (t ∷ ts) h = (h.0, types-shift τ (suc n) ts h.1)

types-given : (ts : List TypeTree) → TypesAt (type_given ts) 0 ts
types-given [] = tt
types-given (t ∷ ts) = (refl, types-shift (type_given (t ∷ ts)) 0 ts (types-given ts))

rule-slots : (τ : ℕ → TypeTree) (n : ℕ) (m : TypeMap) (xs : List RelationVariable) → TypesAt τ n (map (λ x. type_instance m (type_variable x.right_name)) xs) → SlotsOf τ n m xs
rule-slots τ n m [] h = tt
rule-slots τ n m (x ∷ xs) h = (h.0, rule-slots τ (suc n) m xs h.1)

constant-is : (sig : Signature) (env : List (Chars × TypeTree)) (c : Chars) (ts : List TypeTree) (ty : TypeTree) → HasType sig env (constant c ts) ty → type_at sig c ts ≡ ty
constant-is sig env c ts ty h = ap (λ o. at_types (unwrap_or o bool) ts) h.1 ∙ h.4

nodes-hold : (sig : Signature) (τ : ℕ → TypeTree) (k : ℕ) (env : List (Chars × TypeTree)) (K : ChosenStatement) (ty : TypeTree) (h : HasType sig env (statement_of K) ty)
    → TypesAt τ k (node_types sig env K ty h) → HasNodes sig τ k env (statement_of K) ty
nodes-hold sig τ k env (chosen_name x) ty h g = (h, g.0)
nodes-hold sig τ k env (chosen_rule c ts i rule) ty h g = (constant-is sig env c ts ty h, g.0)
nodes-hold sig τ k env (chosen_equality c ts) ty h g = (constant-is sig env c ts ty h, g.0)
nodes-hold sig τ k env (not_chosen c ts) ty h g = (constant-is sig env c ts ty h, g.0)
nodes-hold sig τ k env (chosen_application f a) ty h g =
    let us = node_types sig env f (fun h.0 ty) h.1 in
    let vs = node_types sig env a h.0 h.2 in
    let p = node_types-length sig env f (fun h.0 ty) h.1 in
    let q = node_types-length sig env a h.0 h.2 in
    let l = k + size (statement_of f) in
    let n = k + size (statement_of f) + size (statement_of a) in
    let rest : TypesAt τ l (vs ++ ty ∷ []) = types-right τ k l us (vs ++ ty ∷ []) (omega arith) g in
    let last : TypesAt τ n (ty ∷ []) = types-right τ l n vs (ty ∷ []) (omega arith) rest in (
      h.0,
      last.0,
      nodes-hold sig τ k env f (fun h.0 ty) h.1 (types-left τ k us (vs ++ ty ∷ []) g),
      nodes-hold sig τ l env a h.0 h.2 (types-left τ l vs (ty ∷ []) rest),
    )
nodes-hold sig τ k env (chosen_abstraction x u b) ty h g =
    let us = node_types sig ((x, u) ∷ env) b h.0 h.2 in
    let p = node_types-length sig ((x, u) ∷ env) b h.0 h.2 in
    let n = k + size (statement_of b) in
    let last : TypesAt τ n (u ∷ []) = types-right τ k n us (u ∷ []) (omega arith) g in
    (h.0, h.3, last.0, nodes-hold sig τ k ((x, u) ∷ env) b h.0 h.2 (types-left τ k us (u ∷ []) g))

choices-hold : (τ : ℕ → TypeTree) (m : ℕ) (K : ChosenStatement) → TypesAt τ m (rule_types K) → HasChoices τ m K
choices-hold τ m (chosen_name x) g = tt
choices-hold τ m (chosen_rule c ts i rule) g = rule-slots τ m (match_of rule ts) rule.variables g
choices-hold τ m (chosen_equality c ts) g = tt
choices-hold τ m (not_chosen c ts) g = tt
choices-hold τ m (chosen_application f a) g =
    let p = rule_types-length a in (
      choices-hold τ m a (types-left τ m (rule_types a) (rule_types f) g),
      choices-hold τ (m + rule_slots a) f (types-right τ m (m + rule_slots a) (rule_types a) (rule_types f) (omega arith) g),
    )
choices-hold τ m (chosen_abstraction x u b) g = choices-hold τ m b g

-- the types of a typed statement's variables
pub slots-there : SlotsAreThere
slots-there sig K ty h =
    let us = node_types sig [] K ty h in
    let vs = rule_types K in
    let τ = type_given (us ++ vs) in
    let g = types-given (us ++ vs) in
    let p = node_types-length sig [] K ty h in (
      τ,
      nodes-hold sig τ 0 [] K ty h (types-left τ 0 us vs g),
      choices-hold τ (size (statement_of K)) K (types-right τ 0 (size (statement_of K)) us vs (omega arith) g),
    )
