-- Terms without bound names.
use Rattle.std.proofs.Common.{◌≡◌, ℕ, ◌+◌, List, [], ◌∷◌, ◌++◌, Bool, true, false, ◌||◌, drop, replicate, append_assoc, refl, sym, ◌∙◌, ap, Option, None}
use Rattle.std.specs.List.{list_any}
use Rattle.std.proofs.lemmas.Bool.{or_parts}
use Rattle.std.proofs.lemmas.List.{replicate-append-replicate, replicate_more}
use Rattle.std.proofs.lemmas.List.Folds.{list_any-append}
use Rattle.lt_definitions.specs.Terms.{TermTree, free_variable, bound_name, constant, application, abstraction}
use Rattle.lt_terms.specs.declared.bound_names.Binder.{Binder}
use Rattle.lt_terms.specs.declared.term.TermNode.{TermNode}
use Rattle.lt_terms.specs.declared.term.TermNode.TheVariants.{App, Lam}
use Rattle.lt_terms.specs.Layout.{under, term_size, term_nodes}
use Rattle.lt_terms.specs.BoundNames.{Places, binders_in, has_bound_name, is_bound_name}

abbrev none : ℕ → List (Option Binder)
none n = replicate n None

pub no-binders : (from : ℕ) (around : Places) (t : TermTree) → has_bound_name t ≡ false → none (term_size t) ≡ binders_in from around t
no-binders from around (free_variable x t) h = refl
no-binders from around (bound_name x) h = absurd (cc h)
no-binders from around (constant c ts) h = refl
no-binders from around (application f a) h =
    let parts = or_parts (has_bound_name f) (has_bound_name a) h in
    sym (replicate_more (term_size f + term_size a) None)
    ∙ ap (λ ns. ns ++ None ∷ []) (sym (replicate-append-replicate (term_size f) (term_size a) None))
    ∙ regroup (none (term_size f)) (none (term_size a))
    ∙ (λ i. no-binders from around f parts.0 i ++ (no-binders (from + (under f + 1)) around a parts.1 i ++ None ∷ []))
  where
    regroup : (xs ys : List (Option Binder)) → (xs ++ ys) ++ None ∷ [] ≡ xs ++ (ys ++ None ∷ [])
    regroup xs ys = append_assoc xs ys (None ∷ [])
no-binders from around (abstraction x t b) h =
    sym (replicate_more (term_size b) None) ∙ ap (λ ns. ns ++ None ∷ []) (no-binders from ((x, from + (under b + 1)) ∷ around) b h)

-- over the nodes

or-false : (a : Bool) → (a || false) ≡ a
or-false true = refl
or-false false = refl

any-nodes : (from : ℕ) (t : TermTree) → list_any is_bound_name (term_nodes from t) ≡ has_bound_name t
any-nodes from (free_variable x t) = refl
any-nodes from (bound_name x) = refl
any-nodes from (constant c ts) = refl
any-nodes from (application f a) =
    let last : List TermNode = App (from + under f) (from + (under f + 1) + under a) ∷ [] in
    list_any-append is_bound_name (term_nodes from f) (term_nodes (from + (under f + 1)) a ++ last)
    ∙ (λ i. any-nodes from f i || (list_any-append is_bound_name (term_nodes (from + (under f + 1)) a) last ∙ or-false (list_any is_bound_name (term_nodes (from + (under f + 1)) a)) ∙ any-nodes (from + (under f + 1)) a) i)
any-nodes from (abstraction x t b) =
    list_any-append is_bound_name (term_nodes from b) (Lam x t (from + under b) ∷ []) ∙ or-false (list_any is_bound_name (term_nodes from b)) ∙ any-nodes from b

pub any-bound : (t : TermTree) (nodes : List TermNode) → nodes ≡ term_nodes 0 t → has_bound_name t ≡ list_any is_bound_name (drop 0 nodes)
any-bound t nodes e = sym (ap (list_any is_bound_name) e ∙ any-nodes 0 t)
