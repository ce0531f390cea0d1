-- Tasks of a pass: what each still needs, and that they get fewer.
use Rattle.std.proofs.Common.{◌≡◌, ℕ, ◌+◌, ◌*◌, ◌<◌, ◌≤◌, List, [], ◌∷◌, ◌++◌, length, append_assoc, append-nil, slice_get, Some, refl, ap, sym, ◌∙◌, subst, arith, sum_by, ◌⊎◌, inl, inr}
use Rattle.std.proofs.lemmas.List.Sums.{sum_by-append}
use Rattle.std.proofs.lemmas.Option.{same_Some}
use Rattle.lt_store.specs.declared.node.Node.{Node}
use Rattle.lt_store.specs.declared.node.Node.TheVariants.{Free, Bound, Const, App, Lam}
use Rattle.lt_store.specs.declared.pass.Task.{Task}
use Rattle.lt_store.specs.declared.pass.Task.TheVariants.{Visit, Finish}
use Rattle.lt_store.specs.Trees.{tree_at, node_tree, tree_size, IsBelow, Extends}
use Rattle.lt_store.specs.Memos.{Memo, IsKept, AllKept}
use Rattle.lt_store.specs.Passes.{children}
use Rattle.lt_store.specs.Tasks.{visits}
use Rattle.lt_store.proofs.TreeLemmas.{node_back, stands_back, tree_size-positive}
use Rattle.lt_store.proofs.MemoLemmas.{Keeps, keeps_more, keeps_own}

-- the id and the depth of a task
abbrev pub target : Task → ℕ × ℕ
target (Visit i d) = (i, d)
target (Finish i d) = (i, d)

-- some task is for it
abbrev pub Waits : ℕ × ℕ → List Task → Type 0
Waits p [] = ⊥
Waits p (t ∷ ts) = (target t ≡ p) ⊎ Waits p ts

-- it was kept, or will be
abbrev pub Comes : Memo → List Task → ℕ × ℕ → Type 0
Comes m ts p = IsKept m p ⊎ Waits p ts

abbrev pub AllCome : Memo → List Task → List (ℕ × ℕ) → Type 0
AllCome m ts [] = Unit {0}
AllCome m ts (p ∷ ps) = Comes m ts p × AllCome m ts ps

abbrev pub weight : List Node → Task → ℕ
weight ns (Visit i d) = 2 * tree_size (tree_at ns i)
weight ns (Finish i d) = 1

abbrev pub total_weight : List Node → List Task → ℕ
total_weight ns ts = sum_by (weight ns) ts

-- what was kept stays
abbrev pub KeepsAll : Memo → Memo → Type 0
KeepsAll m m' = (p : ℕ × ℕ) → IsKept m p → IsKept m' p

-- with no task behind it, what comes was kept
kept_from_comes : (m : Memo) (ps : List (ℕ × ℕ)) → AllCome m [] ps → AllKept m ps
kept_from_comes m [] h = tt
kept_from_comes m (p ∷ ps) h = (by h.0, kept_from_comes m ps h.1)
  where
    by : Comes m [] p → IsKept m p
    by (inl k) = k
    by (inr w) = absurd w

weight_positive : (ns : List Node) (t : Task) → 0 < weight ns t
weight_positive ns (Visit i d) = omega (arith, tree_size-positive (tree_at ns i))
weight_positive ns (Finish i d) = omega arith

-- less is left where a task gives way to lighter ones
weight_step : (ns : List Node) (rest new : List Task) (t : Task) → total_weight ns new < weight ns t → total_weight ns (rest ++ new) < total_weight ns (rest ++ t ∷ [])
weight_step ns rest new t h = omega (arith, sum_by-append (weight ns) rest new, sum_by-append (weight ns) rest (t ∷ []))

-- by how much a binder's body is deeper
module _ (s : ℕ) where
  -- what a task needs before it is done
  abbrev pub NeedsCome : List Node → Memo → List Task → Task → Type 0
  NeedsCome ns m ts (Visit i d) = Unit {0}
  NeedsCome ns m ts (Finish i d) = (n : Node) → slice_get ns i ≡ Some n → AllCome m ts (children s n d)

  -- each task is at an id below the root, within its depth; its needs come before it, and they are done from the last
  abbrev pub AreCovered : List Node → ℕ → Memo → List Task → Type 0
  AreCovered ns root m [] = Unit {0}
  AreCovered ns root m (t ∷ ts) = ((target t).0 + (target t).1 ≤ root) × NeedsCome ns m ts t × AreCovered ns root m ts

  -- What the loop keeps of its tasks.
  pub record IsUnderway (ns : List Node) (root : ℕ) (m : Memo) (ts : List Task) : Type 0 where
    pub covered : AreCovered ns root m ts
    pub comes : Comes m ts (root, 0)

  -- What a turn of the loop leaves.
  pub record Turned (ns : List Node) (root : ℕ) (m : Memo) (all after : List Task) : Type 0 where
    pub underway : IsUnderway ns root m after
    pub smaller : total_weight ns after < total_weight ns all

  -- where one task t at the end gives way to the tasks new
  module _ (ns : List Node) (root : ℕ) (m m' : Memo) (t : Task) (new : List Task) (keeps : KeepsAll m m') (own : Comes m' new (target t)) where
    waits_step : (rest : List Task) (p : ℕ × ℕ) → Waits p (rest ++ t ∷ []) → Comes m' (rest ++ new) p
    waits_step [] p (inl e) = subst (Comes m' new) e own
    waits_step [] p (inr w) = absurd w
    waits_step (r ∷ rest) p (inl e) = inr (inl e)
    waits_step (r ∷ rest) p (inr w) = by (waits_step rest p w)
      where
        by : Comes m' (rest ++ new) p → Comes m' (r ∷ (rest ++ new)) p
        by (inl k) = inl k
        by (inr w) = inr (inr w)

    comes_step : (rest : List Task) (p : ℕ × ℕ) → Comes m (rest ++ t ∷ []) p → Comes m' (rest ++ new) p
    comes_step rest p (inl k) = inl (keeps p k)
    comes_step rest p (inr w) = waits_step rest p w

    all_come_step : (rest : List Task) (ps : List (ℕ × ℕ)) → AllCome m (rest ++ t ∷ []) ps → AllCome m' (rest ++ new) ps
    all_come_step rest [] h = tt
    all_come_step rest (p ∷ ps) h = (comes_step rest p h.0, all_come_step rest ps h.1)

    needs_step : (rest : List Task) (r : Task) → NeedsCome ns m (rest ++ t ∷ []) r → NeedsCome ns m' (rest ++ new) r
    needs_step rest (Visit i d) h = tt
    needs_step rest (Finish i d) h = λ n at. all_come_step rest (children s n d) (h n at)

    covered_step : (rest : List Task) → AreCovered ns root m (rest ++ t ∷ []) → AreCovered ns root m' new → AreCovered ns root m' (rest ++ new)
    covered_step [] h k = k
    covered_step (r ∷ rest) h k = (h.0, needs_step rest r h.1, covered_step rest h.2 k)

    turned : (all rest after : List Task) → all ≡ rest ++ t ∷ [] → after ≡ rest ++ new → AreCovered ns root m' new
        → total_weight ns new < weight ns t → IsUnderway ns root m all → Turned ns root m' all after
    turned all rest after was is cov light now = record {
      underway = record {
        covered = subst (AreCovered ns root m') (sym is) (covered_step rest (subst (AreCovered ns root m) was now.covered) cov);
        comes = subst (λ ts. Comes m' ts (root, 0)) (sym is) (comes_step rest (root, 0) (subst (λ ts. Comes m ts (root, 0)) was now.comes));
      };
      smaller = omega (arith, ap (total_weight ns) was, ap (total_weight ns) is, weight_step ns rest new t light);
    }

  -- what is known of the last task
  covered_last : (ns : List Node) (root : ℕ) (m : Memo) (rest : List Task) (t : Task) → AreCovered ns root m (rest ++ t ∷ []) → ((target t).0 + (target t).1 ≤ root) × NeedsCome ns m [] t
  covered_last ns root m [] t h = (h.0, h.1)
  covered_last ns root m (r ∷ rest) t h = covered_last ns root m rest t h.2

  children_come : (m : Memo) (n : Node) (d : ℕ) → AllCome m (visits (children s n d)) (children s n d)
  children_come m (Free n t) d = tt
  children_come m (Bound i) d = tt
  children_come m (Const n t) d = tt
  children_come m (App f a) d = (inr (inl refl), (inr (inr (inl refl)), tt))
  children_come m (Lam t b) d = (inr (inl refl), tt)

  children_inside : s ≤ 1 → (ns : List Node) (root : ℕ) (m : Memo) (i d : ℕ) (n : Node) → i + d ≤ root → IsBelow i n → AreCovered ns root m (visits (children s n d))
  children_inside small ns root m i d (Free n t) h below = tt
  children_inside small ns root m i d (Bound k) h below = tt
  children_inside small ns root m i d (Const n t) h below = tt
  children_inside small ns root m i d (App f a) h below = (omega arith, tt, (omega arith, tt, tt))
  children_inside small ns root m i d (Lam t b) h below = (omega arith, tt, tt)

  children_weight : (ns : List Node) (d : ℕ) (n : Node) → 1 + total_weight ns (visits (children s n d)) < 2 * tree_size (node_tree ns n)
  children_weight ns d (Free n t) = omega arith
  children_weight ns d (Bound i) = omega arith
  children_weight ns d (Const n t) = omega arith
  children_weight ns d (App f a) = omega arith
  children_weight ns d (Lam t b) = omega arith

  visit_lighter : (ns : List Node) (i d : ℕ) (n : Node) → tree_at ns i ≡ node_tree ns n → total_weight ns (Finish i d ∷ visits (children s n d)) < weight ns (Visit i d)
  visit_lighter ns i d n e =
      let w : total_weight ns (Finish i d ∷ visits (children s n d)) ≡ 1 + total_weight ns (visits (children s n d)) = sum_by-append (weight ns) (Finish i d ∷ []) (visits (children s n d)) in
      omega (arith, w, ap tree_size e, children_weight ns d n)

  -- at the start the root is to be visited
  pub underway_first : (ns : List Node) (root : ℕ) (m : Memo) (ts : List Task) → ts ≡ Visit root 0 ∷ [] → IsUnderway ns root m ts
  underway_first ns root m ts is = subst (IsUnderway ns root m) (sym is) (record { covered = (omega arith, tt, tt); comes = inr (inl refl) })

  -- at the end it was kept
  pub underway_last : (ns : List Node) (root : ℕ) (m : Memo) (ts : List Task) → ts ≡ [] → IsUnderway ns root m ts → IsKept m (root, 0)
  underway_last ns root m ts is now = by (subst (λ ts. Comes m ts (root, 0)) is now.comes)
    where
      by : Comes m [] (root, 0) → IsKept m (root, 0)
      by (inl k) = k
      by (inr w) = absurd w

  -- a turn, where rest is left of all tasks but the last; old are the nodes at the start, now those that there are
  module _ (old : List Node) (root : ℕ) (m : Memo) (all rest : List Task) (i d : ℕ) (now : IsUnderway old root m all) where
    pub visit_turn : (m' : Memo) → KeepsAll m m' → s ≤ 1 → (new : List Node) (made after : List Task) (n : Node) → all ≡ rest ++ Visit i d ∷ [] → made ≡ rest ++ Finish i d ∷ [] → after ≡ made ++ visits (children s n d)
        → root < length old → Extends old new → slice_get new i ≡ Some n → IsBelow i n → tree_at new i ≡ node_tree new n → Turned old root m' all after
    visit_turn m' keeps small new made after n was made-is is within e at below stands =
        let inside : i + d ≤ root = (covered_last old root m rest (Visit i d) (subst (AreCovered old root m) was now.covered)).0 in
        let h : i < length old = omega arith in
        let back : slice_get old i ≡ Some n = node_back old new i n e h at in
        turned old root m m' (Visit i d) (Finish i d ∷ visits (children s n d)) keeps (inr (inl refl)) all rest after was
        (is ∙ ap (λ l. l ++ visits (children s n d)) made-is ∙ append_assoc rest (Finish i d ∷ []) (visits (children s n d)))
        (inside, (λ n' at'. subst (λ k. AllCome m' (visits (children s n d)) (children s k d)) (same_Some n n' (sym back ∙ at')) (children_come m' n d)), children_inside small old root m' i d n inside below)
        (visit_lighter old i d n (stands_back old new i n e h below stands)) now

    pub skip_turn : (m' : Memo) → KeepsAll m m' → all ≡ rest ++ Visit i d ∷ [] → IsKept m' (i, d) → Turned old root m' all rest
    skip_turn m' keeps was own = turned old root m m' (Visit i d) [] keeps (inl own) all rest rest was (sym (append-nil rest)) tt (weight_positive old (Visit i d)) now

    pub finish_turn : (m' : Memo) (r : ℕ) → all ≡ rest ++ Finish i d ∷ [] → Keeps m m' i d r → Turned old root m' all rest
    finish_turn m' r was law =
        turned old root m m' (Finish i d) [] (keeps_more m m' i d r law) (inl (keeps_own m m' i d r law)) all rest rest was (sym (append-nil rest)) tt (weight_positive old (Finish i d)) now

    pub finish_ready : (new : List Node) → all ≡ rest ++ Finish i d ∷ [] → root < length old → Extends old new → (n : Node) → slice_get new i ≡ Some n → AllKept m (children s n d)
    finish_ready new was within e n at =
        let last = covered_last old root m rest (Finish i d) (subst (AreCovered old root m) was now.covered) in
        let h : i < length old = omega (arith, last.0) in
        kept_from_comes m (children s n d) (last.1 n (node_back old new i n e h at))

  pub inside : (old : List Node) (root : ℕ) (m : Memo) (all rest : List Task) (t : Task) → all ≡ rest ++ t ∷ [] → IsUnderway old root m all → (target t).0 + (target t).1 ≤ root
  inside old root m all rest t was now = (covered_last old root m rest t (subst (AreCovered old root m) was now.covered)).0
