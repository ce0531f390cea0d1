-- Terms with names for their binders, task by task.
use Rattle.std.proofs.Common.{◌≡◌, ℕ, suc, ◌+◌, ◌-◌, ◌^◌, ◌<◌, ◌≤◌, List, [], ◌∷◌, length, sym, ◌∙◌, ap, subst, arith}
use Rattle.lt_definitions.specs.Types.{Chars, TypeTree}
use Rattle.lt_definitions.specs.Terms.{TermTree, bound_name, abstraction}
use Rattle.lt_nameless.specs.Nameless.{Nameless, nameless_bound, nameless_abstraction, nameless_name, nameless, IsWhole}
use Rattle.lt_terms.specs.Layout.{applied, abstracted}
use Rattle.lt_store.specs.declared.node.Node.{Node}
use Rattle.lt_store.specs.declared.naming.NameTask.{NameTask}
use Rattle.lt_store.specs.declared.naming.NameTask.TheVariants.{Visit, Join, Cover}
use Rattle.lt_store.specs.Trees.{tree_at, tree_size}
use Rattle.lt_store.specs.NameTasks.{binder_name, binder_names, Leaves, Turns, weights}
use Rattle.lt_store.proofs.TreeLemmas.{tree_size-positive}
use Rattle.lt_store.proofs.BinderNames.{binder-found}

-- more names do no harm
leaves-on : (ns : List Node) (k l : ℕ) (goal : Nameless) (before : List TermTree) (ts : List NameTask) → k ≤ l → Leaves ns k goal before ts → Leaves ns l goal before ts
leaves-on ns k l goal before [] w h = h
leaves-on ns k l goal before (Visit i d ∷ ts) w h = (h.0, h.1, omega (arith, w, h.2), λ t e. leaves-on ns k l goal (t ∷ before) ts w (h.3 t e))
leaves-on ns k l goal before (Join ∷ ts) w h = (h.0, leaves-on ns k l goal (applied before) ts w h.1)
leaves-on ns k l goal before (Cover ty d ∷ ts) w h = (h.0, omega (arith, w, h.1), leaves-on ns k l goal (abstracted (binder_name d) ty before) ts w h.2)

-- a bound name is made
pub bound_turn : (ns : List Node) (k i d index : ℕ) (before after : List TermTree) (n : Chars) (rest : List NameTask) → d < 2 ^ 64 → tree_at ns i ≡ nameless_bound index → n ≡ binder_name (d - 1 - index) → after ≡ bound_name n ∷ before
    → Turns ns (Visit i d) k k before after rest rest
bound_turn ns k i d index before after n rest small stands name is = (
  λ goal h. let within : index < d = subst (λ (t : Nameless). IsWhole d t) stands h.1 in
      let back : d - 1 - (d - 1 - index) ≡ index = omega arith in
      subst (λ (l : List TermTree). Leaves ns k goal l rest) (sym is)
      (h.3 (bound_name n) (ap (nameless_name (binder_names d)) name ∙ binder-found d (d - 1 - index) (omega arith) small ∙ ap nameless_bound back ∙ sym stands)),
  omega (arith, tree_size-positive (tree_at ns i)),
)

-- an abstraction is made after its body
pub abstraction_turn : (ns : List Node) (k l i d b : ℕ) (ty made : TypeTree) (before : List TermTree) (rest tasks : List NameTask) → tree_at ns i ≡ nameless_abstraction ty (tree_at ns b) → b < i → made ≡ ty → d < l → k ≤ l
    → tasks ≡ Visit b (d + 1) ∷ Cover made d ∷ rest → Turns ns (Visit i d) k l before before rest tasks
abstraction_turn ns k l i d b ty made before rest tasks stands below same reached grows is = (
  λ goal h. let e : suc d ≡ d + 1 = omega arith in
      let part : IsWhole (suc d) (tree_at ns b) = subst (λ (t : Nameless). IsWhole d t) stands h.1 in
      let within : b < length ns = omega (arith, h.0, below) in
      subst (Leaves ns l goal before) (sym is) (
        within,
        subst (λ (n : ℕ). IsWhole n (tree_at ns b)) e part,
        omega (arith, reached),
        λ t q. (
          omega arith,
          reached,
          leaves-on ns k l goal _ rest grows
              (h.3 (abstraction (binder_name d) made t) ((λ j. nameless_abstraction (same j) ((ap (λ (n : ℕ). nameless (binder_names n) t) e ∙ q) j)) ∙ sym stands)),
        ),
      ),
  omega (arith, ap (weights ns) is, ap tree_size stands),
)
