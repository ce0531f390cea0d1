-- The names of a type in order, and sets that have names.
use Rattle.std.proofs.Common.{◌≡◌, ℕ, suc, ◌+◌, ◌<◌, ◌≤◌, List, [], ◌∷◌, ◌++◌, length, drop, get_or, Bool, true, false, not, ◌&&◌, ◌||◌, if◌then◌else◌, nat_eq, refl, sym, ◌∙◌, ap, arith, append_assoc, append-nil, add-one, drop_of_length-le}
use Rattle.std.specs.List.{list_any, list_all}
use Rattle.std.specs.Cmp.Lexicographic.{pointwise}
use Rattle.std.proofs.Math.Seq.{drop-cons}
use Rattle.std.proofs.lemmas.List.Folds.{list_any-append}
use Rattle.indexmap.specs.IndexSet.{insert_key}
use Rattle.lt_definitions.specs.Types.{Chars, same_name, has_name, are_distinct, TypeTree, type_names}
use Rattle.lt_definitions.proofs.SameNames.{bool_cases, name-true}
use Rattle.lt_types.specs.declared.ty.TyNode.{TyNode}
use Rattle.lt_types.specs.Layout.{type_nodes}
use Rattle.lt_terms.specs.Numberings.{variable_names}
use Rattle.lt_terms.proofs.NumberedNames.{all_names, type-first, type-next, type-last}

pub names-first : (nodes : List TyNode) (t : TypeTree) (names : List Chars) → names ≡ [] → nodes ≡ type_nodes 0 t → names ++ all_names (drop 0 nodes) ≡ type_names t
names-first nodes t names e h =
    ap (λ (ns : List Chars). ns ++ all_names (drop 0 nodes)) e ∙ sym (append-nil (all_names (drop 0 nodes))) ∙ sym (type-first nodes t [] h) ∙ append-nil (type_names t)

pub names-next : (nodes : List TyNode) (i : ℕ) (n : TyNode) (names more all : List Chars) → i < length nodes → n ≡ get_or nodes i n → more ≡ names ++ variable_names n
    → names ++ all_names (drop i nodes) ≡ all → more ++ all_names (drop (i + 1) nodes) ≡ all
names-next nodes i n names more all lt at e h =
    let rest : List Chars = all_names (drop (i + 1) nodes) in
    let parts : all_names (drop i nodes) ≡ variable_names n ++ rest =
    sym (append-nil (all_names (drop i nodes))) ∙ type-next nodes i n [] lt at ∙ ap (λ (ns : List Chars). variable_names n ++ ns) (append-nil rest) in
    ap (λ (ns : List Chars). ns ++ rest) e ∙ append_assoc names (variable_names n) rest ∙ ap (λ (ns : List Chars). names ++ ns) (sym parts) ∙ h

pub names-last : (nodes : List TyNode) (i : ℕ) (names all : List Chars) → length nodes ≤ i → names ++ all_names (drop i nodes) ≡ all → names ≡ all
names-last nodes i names all le h =
    sym (append-nil names) ∙ ap (λ (ns : List Chars). names ++ ns) (sym (type-last nodes i [] le) ∙ append-nil (all_names (drop i nodes))) ∙ h

-- ---- sets

or-turned : (a b : Bool) → (a || (b || false)) ≡ (b || a)
or-turned true true = refl
or-turned true false = refl
or-turned false true = refl
or-turned false false = refl

or-moved : (s k d : Bool) → ((s || k) || d) ≡ (k || (s || d))
or-moved true true d = refl
or-moved true false d = refl
or-moved false k d = refl

or-none : (a : Bool) → (a || false) ≡ a
or-none true = refl
or-none false = refl

-- a set has what is put in
pub has-inserted : (x k : Chars) (ks : List Chars) → has_name x (insert_key (pointwise nat_eq) ks k) ≡ (same_name x k || has_name x ks)
has-inserted x k ks = by (has_name k ks) (same_name x k) refl refl
  where
    by : (there same : Bool) → has_name k ks ≡ there → same_name x k ≡ same
        → has_name x (if there then ks else ks ++ k ∷ []) ≡ (same || has_name x ks)
    by true true h e = ap (λ (y : Chars). has_name y ks) (name-true x k e) ∙ h
    by true false h e = refl
    by false same h e =
        list_any-append (same_name x) ks (k ∷ []) ∙ or-turned (has_name x ks) (same_name x k) ∙ ap (λ (b : Bool). b || has_name x ks) e

pub next : {A : Type 0} (xs : List A) (i : ℕ) (x : A) → i < length xs → x ≡ get_or xs i x → drop i xs ≡ x ∷ drop (i + 1) xs
next xs i x h e = drop-cons xs i x h ∙ ap (λ y. y ∷ drop (suc i) xs) (sym e) ∙ ap (λ k. x ∷ drop k xs) (sym (add-one i))

pub set-next : (ns keys more : List Chars) (i : ℕ) (n copy x : Chars) → i < length ns → n ≡ get_or ns i n → more ≡ insert_key (pointwise nat_eq) keys copy → copy ≡ n
    → (has_name x keys || has_name x (drop i ns)) ≡ has_name x ns → (has_name x more || has_name x (drop (i + 1) ns)) ≡ has_name x ns
set-next ns keys more i n copy x lt at e c h =
    ap (λ (ks : List Chars). has_name x ks || has_name x (drop (i + 1) ns)) (e ∙ ap (insert_key (pointwise nat_eq) keys) c)
    ∙ ap (λ (b : Bool). b || has_name x (drop (i + 1) ns)) (has-inserted x n keys)
    ∙ or-moved (same_name x n) (has_name x keys) (has_name x (drop (i + 1) ns))
    ∙ ap (λ (ms : List Chars). has_name x keys || has_name x ms) (sym (next ns i n lt at)) ∙ h

pub set-last : (ns keys : List Chars) (i : ℕ) (x : Chars) → length ns ≤ i → (has_name x keys || has_name x (drop i ns)) ≡ has_name x ns → has_name x keys ≡ has_name x ns
set-last ns keys i x le h =
    sym (or-none (has_name x keys)) ∙ ap (λ (ms : List Chars). has_name x keys || has_name x ms) (sym (drop_of_length-le ns le)) ∙ h

-- ---- distinct names, from the last one on

pub record IsTold (names keys : List Chars) (at : ℕ) (distinct : Bool) : Type 0 where
  pub within : at ≤ length names
  pub has : (x : Chars) → has_name x keys ≡ has_name x (drop at names)
  pub told : distinct ≡ are_distinct (drop at names)

pub told-last : (names keys : List Chars) (at : ℕ) → keys ≡ [] → at ≡ length names → IsTold names keys at true
told-last names keys at e h =
    let none : drop at names ≡ [] = drop_of_length-le names (omega (arith, h)) in
    record {
      within = omega (arith, h);
      has = λ x. ap (has_name x) (e ∙ sym none);
      told = ap are_distinct (sym none);
    }

pub told-next : (names keys more : List Chars) (at before : ℕ) (n copy : Chars) (new distinct : Bool) → before + 1 ≡ at → n ≡ get_or names before n → copy ≡ n
    → new ≡ not (has_name copy keys) → more ≡ insert_key (pointwise nat_eq) keys copy
    → IsTold names keys at distinct → IsTold names more before (new && distinct)
told-next names keys more at before n copy new distinct b g c f e h =
    let lt : before < length names = omega (arith, b, h.within) in
    let one : drop before names ≡ n ∷ drop at names = next names before n lt g ∙ ap (λ k. n ∷ drop k names) b in
    record {
      within = omega (arith, b, h.within);
      has = λ x. ap (has_name x) (e ∙ ap (insert_key (pointwise nat_eq) keys) c) ∙ has-inserted x n keys ∙ ap (λ (k : Bool). same_name x n || k) (h.has x) ∙ ap (has_name x) (sym one);
      told = (λ i. (f ∙ ap (λ (y : Chars). not (has_name y keys)) c ∙ ap not (h.has n)) i && h.told i) ∙ ap are_distinct (sym one);
    }

pub told-end : (names keys : List Chars) (at : ℕ) (distinct : Bool) → at ≡ 0 → IsTold names keys at distinct → distinct ≡ are_distinct names
told-end names keys at distinct e h = h.told ∙ ap (λ (k : ℕ). are_distinct (drop k names)) e
