-- The first fault of a type, found from its last node to its first.
use Rattle.std.proofs.Common.{◌≡◌, ℕ, zero, suc, ◌+◌, ◌-◌, ◌<◌, ◌≤◌, List, [], ◌∷◌, ◌++◌, length, take, drop, get_or, refl, sym, ◌∙◌, ap, subst, arith, Some, None, Option, true, is_some, length-append}
use Rattle.std.proofs.lemmas.List.{take-append-drop, length-take-le, take-append-le, length-drop}
use Rattle.std.proofs.Math.Seq.{take-length}
use Rattle.lt_types.specs.declared.ty.TyNode.{TyNode}
use Rattle.lt_types.specs.declared.ty.TyNode.TheVariants.{Var, Con}
use Rattle.lt_types.specs.Layout.{grow, HasRoom, forest, type_nodes}
use Rattle.lt_types.proofs.LayoutLemmas.{step}
use Rattle.lt_definitions.specs.Types.{Chars, TypeTree, type_variable, type_constructor, row, listed, found}
use Rattle.lt_definitions.proofs.SameNames.{listed-row}
use Rattle.lt_definitions.specs.Typing.{Signature, Fault, earlier, constructor_fault, type_fault, types_fault}
use Rattle.lt_types.specs.Layout.{arguments}
use Rattle.lt_hol.specs.TypeNodes.{node_fault}

earlier-assoc : (a b c : Option Fault) → earlier (earlier a b) c ≡ earlier a (earlier b c)
earlier-assoc None b c = refl
earlier-assoc (Some f) b c = refl

types-append : (sig : Signature) (xs ys : List TypeTree) → types_fault sig (row (xs ++ ys)) ≡ earlier (types_fault sig (row xs)) (types_fault sig (row ys))
types-append sig [] ys = refl
types-append sig (x ∷ xs) ys = ap (earlier (type_fault sig x)) (types-append sig xs ys) ∙ sym (earlier-assoc (type_fault sig x) (types_fault sig (row xs)) (types_fault sig (row ys)))

-- the fault of the wrong node, if there is one
abbrev pub wrong_fault : {B : Type 0} → Signature → (B → TyNode) → Option B → Option Fault
wrong_fault sig now None = None
wrong_fault sig now (Some b) = node_fault sig (now b)

-- What is known between two nodes: the types before are not tested yet, but for the last ones, which are skipped.
pub record IsFirst (sig : Signature) (ty : TypeTree) (trees : List TypeTree) (skipped : ℕ) (later : Option Fault) : Type 0 where
  pub first : type_fault sig ty ≡ earlier (types_fault sig (row (take (length trees - skipped) trees))) later
  pub fits : skipped ≤ length trees

pub at-end : (sig : Signature) (ty : TypeTree) (trees : List TypeTree) → trees ≡ ty ∷ [] → IsFirst sig ty trees 0 None
at-end sig ty trees e = subst (λ (ts : List TypeTree). IsFirst sig ty ts 0 None) (sym e) (record { first = only (type_fault sig ty); fits = omega arith })
  where
    only : (f : Option Fault) → f ≡ earlier (earlier f None) None
    only None = refl
    only (Some f) = refl

take-none : (n : ℕ) → take {A = TypeTree} n [] ≡ []
take-none zero = refl
take-none (suc n) = refl

pub at-start : (sig : Signature) (ty : TypeTree) (skipped : ℕ) (later : Option Fault) → IsFirst sig ty [] skipped later → type_fault sig ty ≡ later
at-start sig ty skipped later h = h.first ∙ ap (λ (ts : List TypeTree). earlier (types_fault sig (row ts)) later) (take-none (0 - skipped))

-- a node within what is skipped
pub past-skipped : (sig : Signature) (ty : TypeTree) (before : List TypeTree) (n : TyNode) (skipped : ℕ) (later : Option Fault) → HasRoom before n → 0 < skipped
    → IsFirst sig ty (grow before n) skipped later → IsFirst sig ty before ((skipped - 1) + arguments n) later
past-skipped sig ty before (Var x) skipped later r some h = record {
  first = h.first ∙ ap (λ ts. earlier (types_fault sig (row ts)) later) same;
  fits = omega (arith, h.fits, length-append before (type_variable x ∷ []), some);
}
  where
    same : take (length (before ++ type_variable x ∷ []) - skipped) (before ++ type_variable x ∷ []) ≡ take (length before - ((skipped - 1) + 0)) before
    same = let e : length (before ++ type_variable x ∷ []) - skipped ≡ length before - ((skipped - 1) + 0) = omega (arith, length-append before (type_variable x ∷ []), some) in
        ap (λ k. take k (before ++ type_variable x ∷ [])) e ∙ take-append-le (length before - ((skipped - 1) + 0)) before (type_variable x ∷ []) (omega arith)
past-skipped sig ty before (Con c ids) skipped later r some h = record {
  first = h.first ∙ ap (λ ts. earlier (types_fault sig (row ts)) later) same;
  fits = omega (arith, h.fits, count, some, r);
}
  where
    kept : List TypeTree
    kept = take (length before - length ids) before

    made : TypeTree
    made = type_constructor c (row (drop (length before - length ids) before))

    kept_count : length kept ≡ length before - length ids
    kept_count = length-take-le (length before - length ids) before (omega arith)

    count : length (kept ++ made ∷ []) ≡ (length before - length ids) + 1
    count = length-append kept (made ∷ []) ∙ ap (λ k. k + 1) kept_count

    same : take (length (kept ++ made ∷ []) - skipped) (kept ++ made ∷ []) ≡ take (length before - ((skipped - 1) + length ids)) before
    same = let e : length (kept ++ made ∷ []) - skipped ≡ length before - ((skipped - 1) + length ids) = omega (arith, count, some, r) in
        ap (λ k. take k (kept ++ made ∷ [])) e ∙ take-append-le (length before - ((skipped - 1) + length ids)) kept (made ∷ []) (omega (arith, kept_count, some))
        ∙ (let d : List TypeTree = drop (length before - length ids) before in
        sym (take-append-le (length before - ((skipped - 1) + length ids)) kept d (omega (arith, kept_count, some))) ∙ ap (take (length before - ((skipped - 1) + length ids))) (take-append-drop (length before - length ids) before))

all-kept : (trees : List TypeTree) → take (length trees - 0) trees ≡ trees
all-kept trees = let e : length trees - 0 ≡ length trees = omega arith in ap (λ k. take k trees) e ∙ take-length trees

-- the fault of a constructor that a node makes
made-fault : (sig : Signature) (before : List TypeTree) (c : Chars) (ids : List ℕ) → length ids ≤ length before
    → type_fault sig (type_constructor c (row (drop (length before - length ids) before))) ≡ earlier (node_fault sig (Con c ids)) (types_fault sig (row (drop (length before - length ids) before)))
made-fault sig before c ids r =
    let args : List TypeTree = drop (length before - length ids) before in
    let count : length (listed (row args)) ≡ length ids = ap length (listed-row args) ∙ length-drop (length before - length ids) before ∙ omega (arith, r) in
    ap (λ k. earlier (constructor_fault c k (found c sig.types)) (types_fault sig (row args))) count

-- the faults of the types after a node, by those before it
grown-fault : (sig : Signature) (before : List TypeTree) (c : Chars) (ids : List ℕ) → length ids ≤ length before
    → types_fault sig (row (grow before (Con c ids))) ≡ earlier (types_fault sig (row (take (length before - length ids) before))) (earlier (node_fault sig (Con c ids)) (types_fault sig (row (drop (length before - length ids) before))))
grown-fault sig before c ids r =
    types-append sig (take (length before - length ids) before) (type_constructor c (row (drop (length before - length ids) before)) ∷ [])
    ∙ ap (earlier (types_fault sig (row (take (length before - length ids) before)))) (one (type_fault sig (type_constructor c (row (drop (length before - length ids) before)))) ∙ made-fault sig before c ids r)
  where
    one : (f : Option Fault) → earlier f None ≡ f
    one None = refl
    one (Some f) = refl

-- a node that is right
pub past-right : (sig : Signature) (ty : TypeTree) (before : List TypeTree) (n : TyNode) (later : Option Fault) → HasRoom before n → node_fault sig n ≡ None
    → IsFirst sig ty (grow before n) 0 later → IsFirst sig ty before 0 later
past-right sig ty before (Var x) later r ok h = record {
  first = h.first ∙ ap (λ ts. earlier (types_fault sig (row ts)) later) (all-kept (before ++ type_variable x ∷ []))
      ∙ ap (λ f. earlier f later) (types-append sig before (type_variable x ∷ []) ∙ one (types_fault sig (row before)))
      ∙ ap (λ ts. earlier (types_fault sig (row ts)) later) (sym (all-kept before));
  fits = omega arith;
}
  where
    one : (f : Option Fault) → earlier f (earlier None None) ≡ f
    one None = refl
    one (Some f) = refl
past-right sig ty before (Con c ids) later r ok h = record {
  first = h.first ∙ ap (λ ts. earlier (types_fault sig (row ts)) later) (all-kept (grow before (Con c ids)))
      ∙ ap (λ f. earlier f later) (grown-fault sig before c ids r
      ∙ ap (λ f. earlier (types_fault sig (row (take (length before - length ids) before))) (earlier f (types_fault sig (row (drop (length before - length ids) before))))) ok
      ∙ sym (types-append sig (take (length before - length ids) before) (drop (length before - length ids) before))
      ∙ ap (λ ts. types_fault sig (row ts)) (take-append-drop (length before - length ids) before))
      ∙ ap (λ ts. earlier (types_fault sig (row ts)) later) (sym (all-kept before));
  fits = omega arith;
}

-- a node that is wrong
pub past-wrong : (sig : Signature) (ty : TypeTree) (before : List TypeTree) (n : TyNode) (later : Option Fault) → HasRoom before n → is_some (node_fault sig n) ≡ true
    → IsFirst sig ty (grow before n) 0 later → IsFirst sig ty before (arguments n) (node_fault sig n)
past-wrong sig ty before (Var x) later r bad h = absurd (cc)
past-wrong sig ty before (Con c ids) later r bad h = record {
  first = h.first ∙ ap (λ ts. earlier (types_fault sig (row ts)) later) (all-kept (grow before (Con c ids)))
      ∙ ap (λ f. earlier f later) (grown-fault sig before c ids r)
      ∙ kept (types_fault sig (row (take (length before - length ids) before))) (node_fault sig (Con c ids)) (types_fault sig (row (drop (length before - length ids) before))) bad;
  fits = r;
}
  where
    kept : (k n a : Option Fault) → is_some n ≡ true → earlier (earlier k (earlier n a)) later ≡ earlier k n
    kept None None a e = absurd (cc)
    kept None (Some f) a e = refl
    kept (Some f) n a e = refl

-- ---- at a place

pub opened : (sig : Signature) (ty : TypeTree) (nodes : List TyNode) (at j : ℕ) (n : TyNode) (skipped : ℕ) (later : Option Fault) → nodes ≡ type_nodes 0 ty → at ≡ j + 1 → j < length nodes → n ≡ get_or nodes j n
    → IsFirst sig ty (forest [] (take at nodes)) skipped later → IsFirst sig ty (grow (forest [] (take j nodes)) n) skipped later
opened sig ty nodes at j n skipped later h e lt is k =
    subst (λ (ts : List TypeTree). IsFirst sig ty ts skipped later) (ap (λ i. forest [] (take i nodes)) e ∙ (step nodes ty j n h lt is).next) k

pub room : (ty : TypeTree) (nodes : List TyNode) (j : ℕ) (n : TyNode) → nodes ≡ type_nodes 0 ty → j < length nodes → n ≡ get_or nodes j n → HasRoom (forest [] (take j nodes)) n
room ty nodes j n h lt is = (step nodes ty j n h lt is).room

grow-few : (before : List TypeTree) (n : TyNode) → length (grow before n) ≤ length before + 1
grow-few before (Var x) = omega (arith, length-append before (type_variable x ∷ []))
grow-few before (Con c ids) =
    let kept : List TypeTree = take (length before - length ids) before in
    let made : TypeTree = type_constructor c (row (drop (length before - length ids) before)) in
    omega (arith, length-append kept (made ∷ []), length-take-le (length before - length ids) before (omega arith))

forest-few : (before : List TypeTree) (ns : List TyNode) → length (forest before ns) ≤ length before + length ns
forest-few before [] = omega arith
forest-few before (n ∷ ns) = omega (arith, forest-few (grow before n) ns, grow-few before n)

-- no more types than nodes
pub few : (nodes : List TyNode) (j : ℕ) → j ≤ length nodes → length (forest [] (take j nodes)) ≤ j
few nodes j h = omega (arith, forest-few [] (take j nodes), length-take-le j nodes h)

-- the node that is kept is wrong
abbrev pub IsWrong : {B : Type 0} → Signature → (B → TyNode) → Option B → Type 0
IsWrong sig now None = Unit {0}
IsWrong sig now (Some b) = is_some (node_fault sig (now b)) ≡ true

pub at-skipped : (sig : Signature) (ty : TypeTree) (nodes : List TyNode) (at j : ℕ) (n : TyNode) (skipped k : ℕ) (later : Option Fault) → nodes ≡ type_nodes 0 ty → at ≡ j + 1 → j < length nodes → n ≡ get_or nodes j n → 0 < skipped → k ≡ arguments n
    → IsFirst sig ty (forest [] (take at nodes)) skipped later → IsFirst sig ty (forest [] (take j nodes)) ((skipped - 1) + k) later
at-skipped sig ty nodes at j n skipped k later h e lt is some args f =
    subst (λ (m : ℕ). IsFirst sig ty (forest [] (take j nodes)) ((skipped - 1) + m) later) (sym args)
    (past-skipped sig ty (forest [] (take j nodes)) n skipped later (room ty nodes j n h lt is) some (opened sig ty nodes at j n skipped later h e lt is f))

pub at-wrong : (sig : Signature) (ty : TypeTree) (nodes : List TyNode) (at j : ℕ) (n : TyNode) (skipped k : ℕ) (later : Option Fault) → nodes ≡ type_nodes 0 ty → at ≡ j + 1 → j < length nodes → n ≡ get_or nodes j n → skipped ≡ 0 → k ≡ arguments n
    → is_some (node_fault sig n) ≡ true → IsFirst sig ty (forest [] (take at nodes)) skipped later → IsFirst sig ty (forest [] (take j nodes)) k (node_fault sig n)
at-wrong sig ty nodes at j n skipped k later h e lt is none args bad f =
    subst (λ (m : ℕ). IsFirst sig ty (forest [] (take j nodes)) m (node_fault sig n)) (sym args)
    (past-wrong sig ty (forest [] (take j nodes)) n later (room ty nodes j n h lt is) bad
    (subst (λ (m : ℕ). IsFirst sig ty (grow (forest [] (take j nodes)) n) m later) none (opened sig ty nodes at j n skipped later h e lt is f)))

pub at-right : (sig : Signature) (ty : TypeTree) (nodes : List TyNode) (at j : ℕ) (n : TyNode) (skipped : ℕ) (later : Option Fault) → nodes ≡ type_nodes 0 ty → at ≡ j + 1 → j < length nodes → n ≡ get_or nodes j n → skipped ≡ 0
    → node_fault sig n ≡ None → IsFirst sig ty (forest [] (take at nodes)) skipped later → IsFirst sig ty (forest [] (take j nodes)) skipped later
at-right sig ty nodes at j n skipped later h e lt is none right f =
    subst (λ (m : ℕ). IsFirst sig ty (forest [] (take j nodes)) m later) (sym none)
    (past-right sig ty (forest [] (take j nodes)) n later (room ty nodes j n h lt is) right
    (subst (λ (m : ℕ). IsFirst sig ty (grow (forest [] (take j nodes)) n) m later) none (opened sig ty nodes at j n skipped later h e lt is f)))
