-- A replacement solves the equations of chosen candidates just where the statement corresponds by what it gives.
use Rattle.std.specs.Prelude.{unwrap_or, if◌then◌else◌, option_map}
use Rattle.std.proofs.Common.{◌≡◌, ℕ, zero, suc, ◌+◌, List, [], ◌∷◌, ◌++◌, length, map, Option, Some, None, slice_get, refl, subst, sym, ap, ◌∙◌, inl, inr, arith}
use Rattle.std.proofs.lemmas.Bool.{cases_Bool}
use Rattle.std.proofs.lemmas.List.{length-append}
use Rattle.lt_definitions.specs.Types.{Chars, same_name, found, TypeTree, type_variable, type_constructor, TypeTrees, no_types, type_and, bool, TypeMap, type_instance}
use Rattle.lt_definitions.specs.Typing.{Signature}
use Rattle.lt_transport_definitions.specs.Relations.{Relation, relation_variable, equality, constructed, Relations, no_relations, relation_and, RelationVariable, Registry, relator_for}
use Rattle.lt_transport_definitions.specs.Expressions.{equality_by, normal_equality, normal_equalities, function_relator}
use Rattle.lt_transport_definitions.specs.Candidates.{type_at, match_of}
use Rattle.lt_transport_definitions.specs.Correspondence.{ChosenStatement, chosen_name, chosen_rule, chosen_equality, not_chosen, chosen_application, chosen_abstraction, statement_of, Assignment, relation_instance, relation_instances, IsAssignment, Corresponds}
use Rattle.lt_transport_laws.specs.Statements.{VariableIs, IsOver, AreOver}
use Rattle.lt_transport_laws.proofs.Unique.{values-length}
use Rattle.lt_search_laws.specs.Equations.{under, all_under, size, rule_slots, numbered, reading, bound_in, expression_at, applied_equation, structure_at, choices_at, AllSolved}

-- variables that carry some types
abbrev pub IsNumbered : (ℕ → Relation) → Type 0
IsNumbered var = (s : ℕ → Relation) (n : ℕ) → under s (var n) ≡ s n

under-at : (s : ℕ → Relation) (t : TypeTree) (rs : Relations) → all_under s rs ≡ rs → (o : Option Chars) → under s (equality_by o t rs) ≡ equality_by o t rs
under-at s t rs h None = refl
under-at s t rs h (Some c) = ap (constructed c []) h

mutual
  pub under-equality : (G : Registry) (s : ℕ → Relation) (t : TypeTree) → under s (normal_equality G t) ≡ normal_equality G t
  under-equality G s (type_variable x) = refl
  under-equality G s (type_constructor K ts) = under-at s (type_constructor K ts) (normal_equalities G ts) (under-equalities G s ts) (relator_for G K)

  pub under-equalities : (G : Registry) (s : ℕ → Relation) (ts : TypeTrees) → all_under s (normal_equalities G ts) ≡ normal_equalities G ts
  under-equalities G s no_types = refl
  under-equalities G s (type_and t ts) = let p = under-equality G s t in let q = under-equalities G s ts in (λ i. relation_and (p i) (q i))

under-value : (s var : ℕ → Relation) → IsNumbered var → (n : ℕ) (xs : List RelationVariable) (i : ℕ) (t : TypeTree) (d e : Relation) → VariableIs xs i t
    → under s (unwrap_or (slice_get (numbered var n xs) i) d) ≡ unwrap_or (slice_get (numbered s n xs) i) e
under-value s var ok n [] i t d e h = absurd h
under-value s var ok n (x ∷ xs) zero t d e h = ok s n
under-value s var ok n (x ∷ xs) (suc i) t d e h = under-value s var ok (suc n) xs i t d e h

mutual
  pub under-instance : (G : Registry) (m : TypeMap) (s var : ℕ → Relation) → IsNumbered var → (n : ℕ) (xs : List RelationVariable) (r : Relation) → IsOver G xs r
      → under s (relation_instance G m (numbered var n xs) r) ≡ relation_instance G m (numbered s n xs) r
  under-instance G m s var ok n xs (relation_variable i t) h = under-value s var ok n xs i t (relation_variable i t) (relation_variable i t) h
  under-instance G m s var ok n xs (equality t) h = under-equality G s (type_instance m t)
  under-instance G m s var ok n xs (constructed c ts rs) h = ap (constructed c (map (type_instance m) ts)) (under-instances G m s var ok n xs rs h.1)

  pub under-instances : (G : Registry) (m : TypeMap) (s var : ℕ → Relation) → IsNumbered var → (n : ℕ) (xs : List RelationVariable) (rs : Relations) → AreOver G xs rs
      → all_under s (relation_instances G m (numbered var n xs) rs) ≡ relation_instances G m (numbered s n xs) rs
  under-instances G m s var ok n xs no_relations h = refl
  under-instances G m s var ok n xs (relation_and r rs) h =
      let p = under-instance G m s var ok n xs r h.0 in let q = under-instances G m s var ok n xs rs h.1 in (λ i. relation_and (p i) (q i))

-- the chosen rules' relations are over their variables, and each bound name is under a binder
abbrev pub IsProper : Registry → List (Chars × Relation) → ChosenStatement → Type 0
IsProper G names (chosen_name x) = (e : Relation) × (found x names ≡ Some e)
IsProper G names (chosen_rule c ts i rule) = IsOver G rule.variables rule.relation
IsProper G names (chosen_equality c ts) = Unit {0}
IsProper G names (not_chosen c ts) = Unit {0}
IsProper G names (chosen_application f a) = IsProper G names f × IsProper G names a
IsProper G names (chosen_abstraction x t b) = (r : Relation) → IsProper G ((x, r) ∷ names) b

abbrev pub names_under : (ℕ → Relation) → List (Chars × Relation) → List (Chars × Relation)
names_under s [] = []
names_under s (p ∷ ps) = (p.0, under s p.1) ∷ names_under s ps

bound-under : (s : ℕ → Relation) (names : List (Chars × Relation)) (x : Chars) (o : Option Relation) → found x names ≡ o → found x (names_under s names) ≡ option_map (under s) o
bound-under s [] x o h = ap (option_map (under s)) h
bound-under s (p ∷ ps) x o h = elim (cases_Bool (same_name x p.0)) [
  | inl k ↦ subst (λ b. (if b then Some (under s p.1) else found x (names_under s ps)) ≡ option_map (under s) o) (sym k)
      (ap (option_map (under s)) (subst (λ b. (if b then Some p.1 else found x ps) ≡ o) k h))
  | inr k ↦ subst (λ b. (if b then Some (under s p.1) else found x (names_under s ps)) ≡ option_map (under s) o) (sym k)
      (bound-under s ps x o (subst (λ b. (if b then Some p.1 else found x ps) ≡ o) k h))
]

pub binds-under : (s : ℕ → Relation) (names : List (Chars × Relation)) (x : Chars) (e : Relation) → (found x names ≡ Some e) → found x (names_under s names) ≡ Some (under s (bound_in names x))
binds-under s names x e h = bound-under s names x (Some e) h ∙ ap (λ o. Some (under s (unwrap_or o (equality bool)))) (sym h)

pub solved-left : (s : ℕ → Relation) (es fs : List (Relation × Relation)) → AllSolved s (es ++ fs) → AllSolved s es
solved-left s [] fs h = tt
solved-left s (e ∷ es) fs h = (h.0, solved-left s es fs h.1)

pub solved-right : (s : ℕ → Relation) (es fs : List (Relation × Relation)) → AllSolved s (es ++ fs) → AllSolved s fs
solved-right s [] fs h = h
solved-right s (e ∷ es) fs h = solved-right s es fs h.1

pub solved-both : (s : ℕ → Relation) (es fs : List (Relation × Relation)) → AllSolved s es → AllSolved s fs → AllSolved s (es ++ fs)
solved-both s [] fs h k = k
solved-both s (e ∷ es) fs h k = (h.0, solved-both s es fs h.1 k)

-- what solves the equations gives a correspondence
pub solved-corresponds : (G : Registry) (S : Signature) (s var : ℕ → Relation) → IsNumbered var → (k m : ℕ) (names : List (Chars × Relation)) (K : ChosenStatement) → IsProper G names K
    → AllSolved s (structure_at var k names (statement_of K)) → AllSolved s (choices_at G S var k m K)
    → Corresponds G S (names_under s names) K (reading s k m K) (under s (expression_at var k names (statement_of K)))
solved-corresponds G S s var ok k m names (chosen_name x) w h c = binds-under s names x w.0 w.1
solved-corresponds G S s var ok k m names (chosen_rule d ts i rule) w h c = c.0 ∙ under-instance G (match_of rule ts) s var ok m rule.variables rule.relation w
solved-corresponds G S s var ok k m names (chosen_equality d ts) w h c = c.0 ∙ under-equality G s (type_at S d ts)
solved-corresponds G S s var ok k m names (not_chosen d ts) w h c = ok s k
solved-corresponds G S s var ok k m names (chosen_application f a) w h c =
    let l = k + size (statement_of f) in
    let fs = structure_at var k names (statement_of f) in
    let as' = structure_at var l names (statement_of a) in
    let e = applied_equation var k names (statement_of f) (statement_of a) in
    let cs = choices_at G S var l m a in
    let ds = choices_at G S var k (m + rule_slots a) f in
    let rest = solved-right s fs (as' ++ e ∷ []) h in
    let p = solved-corresponds G S s var ok k (m + rule_slots a) names f w.0 (solved-left s fs (as' ++ e ∷ []) h) (solved-right s cs ds c) in
    let q = solved-corresponds G S s var ok l m names a w.1 (solved-left s as' (e ∷ []) rest) (solved-left s cs ds c) in
    (under s (expression_at var l names (statement_of a)), q, subst (Corresponds G S (names_under s names) f (reading s k (m + rule_slots a) f)) (solved-right s as' (e ∷ []) rest).0 p)
solved-corresponds G S s var ok k m names (chosen_abstraction x t b) w h c =
    let n = k + size (statement_of b) in
    let e = expression_at var k ((x, var n) ∷ names) (statement_of b) in
    let p = solved-corresponds G S s var ok k m ((x, var n) ∷ names) b (w (var n)) h c in (
      under s e,
      (λ i. function_relator (ok s n i) (under s e)),
      subst (λ r. Corresponds G S ((x, r) ∷ names_under s names) b (reading s k m b) (under s e)) (ok s n) p,
    )

-- the replacement gives the listed expressions from a number on
abbrev pub Gives : (ℕ → Relation) → ℕ → List Relation → Type 0
Gives s n [] = Unit {0}
Gives s n (v ∷ vs) = (s n ≡ v) × Gives s (suc n) vs

pub gives-left : (s : ℕ → Relation) (n : ℕ) (us vs : List Relation) → Gives s n (us ++ vs) → Gives s n us
gives-left s n [] vs h = tt
gives-left s n (u ∷ us) vs h = (h.0, gives-left s (suc n) us vs h.1)

pub gives-right : (s : ℕ → Relation) (n m : ℕ) (us vs : List Relation) → m ≡ n + length us → Gives s n (us ++ vs) → Gives s m vs
gives-right s n m [] vs e h = let p : n ≡ m = omega arith in subst (λ k. Gives s k vs) p h
gives-right s n m (u ∷ us) vs e h = gives-right s (suc n) m us vs (omega arith) h.1

abbrev pub given : List Relation → ℕ → Relation
given [] i = equality bool
given (v ∷ vs) zero = v
given (v ∷ vs) (suc i) = given vs i

gives-shift : (s : ℕ → Relation) (n : ℕ) (vs : List Relation) → Gives (λ i. s (suc i)) n vs → Gives s (suc n) vs
gives-shift s n [] h = tt
gives-shift s n (v ∷ vs) h = (h.0, gives-shift s (suc n) vs h.1)

pub given-gives : (vs : List Relation) → Gives (given vs) 0 vs
given-gives [] = tt
given-gives (v ∷ vs) = (refl, gives-shift (given (v ∷ vs)) 0 vs (given-gives vs))

-- the expressions of a correspondence, node by node, and those of the chosen rules
abbrev pub node_values : (G : Registry) (S : Signature) (names : List (Chars × Relation)) (K : ChosenStatement) (v : Assignment K) (e : Relation) → Corresponds G S names K v e → List Relation
node_values G S names (chosen_name x) v e h = e ∷ []
node_values G S names (chosen_rule c ts i rule) v e h = e ∷ []
node_values G S names (chosen_equality c ts) v e h = e ∷ []
node_values G S names (not_chosen c ts) v e h = e ∷ []
node_values G S names (chosen_application f a) v e h =
    node_values G S names f v.0 (function_relator h.0 e) h.2 ++ (node_values G S names a v.1 h.0 h.1 ++ e ∷ [])
node_values G S names (chosen_abstraction x t b) v e h = node_values G S ((x, v.0) ∷ names) b v.1 h.0 h.2 ++ v.0 ∷ []

abbrev pub rule_values : (K : ChosenStatement) → Assignment K → List Relation
rule_values (chosen_name x) v = []
rule_values (chosen_rule c ts i rule) v = v
rule_values (chosen_equality c ts) v = []
rule_values (not_chosen c ts) v = []
rule_values (chosen_application f a) v = rule_values a v.1 ++ rule_values f v.0
rule_values (chosen_abstraction x t b) v = rule_values b v.1

pub node_values-length : (G : Registry) (S : Signature) (names : List (Chars × Relation)) (K : ChosenStatement) (v : Assignment K) (e : Relation) (h : Corresponds G S names K v e)
    → length (node_values G S names K v e h) ≡ size (statement_of K)
node_values-length G S names (chosen_name x) v e h = refl
node_values-length G S names (chosen_rule c ts i rule) v e h = refl
node_values-length G S names (chosen_equality c ts) v e h = refl
node_values-length G S names (not_chosen c ts) v e h = refl
node_values-length G S names (chosen_application f a) v e h =
    let us = node_values G S names f v.0 (function_relator h.0 e) h.2 in
    let vs = node_values G S names a v.1 h.0 h.1 in
    let p = node_values-length G S names f v.0 (function_relator h.0 e) h.2 in
    let q = node_values-length G S names a v.1 h.0 h.1 in
    let l = length-append us (vs ++ e ∷ []) in
    let r = length-append vs (e ∷ []) in omega arith
node_values-length G S names (chosen_abstraction x t b) v e h =
    let us = node_values G S ((x, v.0) ∷ names) b v.1 h.0 h.2 in
    let p = node_values-length G S ((x, v.0) ∷ names) b v.1 h.0 h.2 in
    let l = length-append us (v.0 ∷ []) in omega arith

pub rule_values-length : (G : Registry) (S : Signature) (K : ChosenStatement) (v : Assignment K) → IsAssignment G S K v → length (rule_values K v) ≡ rule_slots K
rule_values-length G S (chosen_name x) v k = refl
rule_values-length G S (chosen_rule c ts i rule) v k = values-length G (match_of rule ts) rule.variables v k.0
rule_values-length G S (chosen_equality c ts) v k = refl
rule_values-length G S (not_chosen c ts) v k = refl
rule_values-length G S (chosen_application f a) v k =
    let p = rule_values-length G S f v.0 k.0 in
    let q = rule_values-length G S a v.1 k.1 in
    let l = length-append (rule_values a v.1) (rule_values f v.0) in omega arith
rule_values-length G S (chosen_abstraction x t b) v k = rule_values-length G S b v.1 k.2

numbered-gives : (s : ℕ → Relation) (n : ℕ) (xs : List RelationVariable) (vs : List Relation) → length vs ≡ length xs → Gives s n vs → numbered s n xs ≡ vs
numbered-gives s n [] [] l h = refl
numbered-gives s n [] (v ∷ vs) l h = absurd (omega arith)
numbered-gives s n (x ∷ xs) [] l h = absurd (omega arith)
numbered-gives s n (x ∷ xs) (v ∷ vs) l h = let p = numbered-gives s (suc n) xs vs (omega arith) h.1 in (λ i. h.0 i ∷ p i)

under-binds : (s : ℕ → Relation) (names : List (Chars × Relation)) (x : Chars) (d e : Relation) → found x names ≡ Some d → found x (names_under s names) ≡ Some e → under s (bound_in names x) ≡ e
under-binds s names x d e w h = let p : Some (under s (bound_in names x)) ≡ Some e = sym (binds-under s names x d w) ∙ h in cc (p)

pub record Read (G : Registry) (S : Signature) (s var : ℕ → Relation) (k m : ℕ) (names : List (Chars × Relation)) (K : ChosenStatement) (v : Assignment K) (e : Relation) : Type 0 where
  pub reads : reading s k m K ≡ v
  pub whole : under s (expression_at var k names (statement_of K)) ≡ e
  pub structured : AllSolved s (structure_at var k names (statement_of K))
  pub solved : AllSolved s (choices_at G S var k m K)

-- what gives the expressions of a correspondence solves the equations
pub corresponds-solved : (G : Registry) (S : Signature) (s var : ℕ → Relation) → IsNumbered var → (k m : ℕ) (names under_names : List (Chars × Relation)) (K : ChosenStatement) (v : Assignment K) (e : Relation)
    → under_names ≡ names_under s names → IsProper G names K → IsAssignment G S K v → (h : Corresponds G S under_names K v e)
    → Gives s k (node_values G S under_names K v e h) → Gives s m (rule_values K v) → Read G S s var k m names K v e
corresponds-solved G S s var ok k m names us (chosen_name x) v e p w z h g o = record {
  reads = refl;
  whole = under-binds s names x w.0 e w.1 (subst (λ y. found x y ≡ Some e) p h);
  structured = tt;
  solved = tt;
}
corresponds-solved G S s var ok k m names us (chosen_rule c ts i rule) v e p w z h g o =
    let q = numbered-gives s m rule.variables v (values-length G (match_of rule ts) rule.variables v z.0) o in
    let t = ok s k ∙ g.0 in
    record {
      reads = q;
      whole = t;
      structured = tt;
      solved = (t ∙ h ∙ sym (under-instance G (match_of rule ts) s var ok m rule.variables rule.relation w ∙ ap (λ y. relation_instance G (match_of rule ts) y rule.relation) q), tt);
    }
corresponds-solved G S s var ok k m names us (chosen_equality c ts) v e p w z h g o =
    let t = ok s k ∙ g.0 in
    record { reads = refl; whole = t; structured = tt; solved = (t ∙ h ∙ sym (under-equality G s (type_at S c ts)), tt) }
corresponds-solved G S s var ok k m names us (not_chosen c ts) v e p w z h g o = record { reads = g.0 ∙ h; whole = ok s k ∙ g.0; structured = tt; solved = tt }
corresponds-solved G S s var ok k m names us (chosen_application f a) v e p w z h g o =
    let fs = node_values G S us f v.0 (function_relator h.0 e) h.2 in
    let as' = node_values G S us a v.1 h.0 h.1 in
    let c = k + size (statement_of f) in
    let n = k + size (statement_of f) + size (statement_of a) in
    let d = node_values-length G S us f v.0 (function_relator h.0 e) h.2 in
    let b = node_values-length G S us a v.1 h.0 h.1 in
    let r = rule_values-length G S a v.1 z.1 in
    let rest : Gives s c (as' ++ e ∷ []) = gives-right s k c fs (as' ++ e ∷ []) (omega arith) g in
    let last : Gives s n (e ∷ []) = gives-right s c n as' (e ∷ []) (omega arith) rest in
    let t = ok s n ∙ last.0 in
    let x = corresponds-solved G S s var ok k (m + rule_slots a) names us f v.0 (function_relator h.0 e) p w.0 z.0 h.2 (gives-left s k fs (as' ++ e ∷ []) g)
    (gives-right s m (m + rule_slots a) (rule_values a v.1) (rule_values f v.0) (omega arith) o) in
    let y = corresponds-solved G S s var ok c m names us a v.1 h.0 p w.1 z.1 h.1 (gives-left s c as' (e ∷ []) rest) (gives-left s m (rule_values a v.1) (rule_values f v.0) o) in
    record {
      reads = (λ i. (x.reads i, y.reads i));
      whole = t;
      structured = solved-both s (structure_at var k names (statement_of f))
          (structure_at var c names (statement_of a) ++ applied_equation var k names (statement_of f) (statement_of a) ∷ []) x.structured
          (solved-both s (structure_at var c names (statement_of a)) (applied_equation var k names (statement_of f) (statement_of a) ∷ []) y.structured
          (x.whole ∙ (λ i. function_relator (sym y.whole i) (sym t i)), tt));
      solved = solved-both s (choices_at G S var c m a) (choices_at G S var k (m + rule_slots a) f) y.solved x.solved;
    }
corresponds-solved G S s var ok k m names us (chosen_abstraction l t b) v e p w z h g o =
    let bs = node_values G S ((l, v.0) ∷ us) b v.1 h.0 h.2 in
    let n = k + size (statement_of b) in
    let d = node_values-length G S ((l, v.0) ∷ us) b v.1 h.0 h.2 in
    let last : Gives s n (v.0 ∷ []) = gives-right s k n bs (v.0 ∷ []) (omega arith) g in
    let q : under s (var n) ≡ v.0 = ok s n ∙ last.0 in
    let x = corresponds-solved G S s var ok k m ((l, var n) ∷ names) ((l, v.0) ∷ us) b v.1 h.0 (λ i. (l, sym q i) ∷ p i) (w (var n)) z.2 h.2 (gives-left s k bs (v.0 ∷ []) g) o in
    record {
      reads = (λ i. (last.0 i, x.reads i));
      whole = (λ i. function_relator (q i) (x.whole i)) ∙ sym h.1;
      structured = x.structured;
      solved = x.solved;
    }
