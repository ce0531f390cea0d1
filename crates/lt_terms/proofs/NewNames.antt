-- Closing by a name that no binder and no bound name of the term has.
use Rattle.std.proofs.Common.{◌≡◌, inl, inr, ℕ, suc, ◌+◌, ◌<◌, List, [], ◌∷◌, ◌++◌, Bool, true, false, ◌&&◌, ◌||◌, length, drop, get_or, refl, sym, ◌∙◌, ap, arith, add-one}
use Rattle.std.proofs.Math.Seq.{drop-cons}
use Rattle.std.specs.List.{list_any}
use Rattle.std.proofs.lemmas.List.Folds.{list_any-append}
use Rattle.std.proofs.lemmas.Bool.{or_parts, or_from}
use Rattle.lt_definitions.specs.Types.{Chars, same_name, TypeTree, same_type}
use Rattle.lt_definitions.specs.Terms.{TermTree, free_variable, bound_name, constant, application, abstraction, has_free}
use Rattle.lt_definitions.specs.Binding.{opened, replaced, Closes, longest, new_binder, closed_over}
use Rattle.lt_nameless.specs.Nameless.{nameless, nameless_abstraction}
use Rattle.lt_nameless.specs.NamelessRules.{abstracted}
use Rattle.lt_definitions.proofs.SameNames.{bool_cases, both-true, name-true, true-name, false-name, type-true}
use Rattle.lt_nameless.proofs.Alphas.{alpha-nameless, nameless-alpha}
use Rattle.lt_nameless.proofs.BindingLemmas.{if-true, if-false, closed-nameless, new_is_longer}
use Rattle.lt_nameless.proofs.Closings.{closings_are_alpha}
use Rattle.lt_terms.specs.declared.term.TermNode.{TermNode}
use Rattle.lt_terms.specs.declared.term.TermNode.TheVariants.{App, Lam}
use Rattle.lt_terms.specs.Layout.{under, term_nodes}
use Rattle.lt_terms.specs.NodeNames.{has_bound, is_bound_at}

-- the variable is gone where a bound name stands in its places
gone-replaced : (x : Chars) (ty : TypeTree) (n : Chars) (t : TermTree) → has_free x ty (replaced x ty (bound_name n) t) ≡ false
gone-replaced x ty n (free_variable y u) = elim (bool_cases (same_name x y && same_type ty u)) [
  | inl h ↦ ap (has_free x ty) (if-true (same_name x y && same_type ty u) (bound_name n) (free_variable y u) h)
  | inr h ↦ ap (has_free x ty) (if-false (same_name x y && same_type ty u) (bound_name n) (free_variable y u) h) ∙ h
]
gone-replaced x ty n (bound_name y) = refl
gone-replaced x ty n (constant c ts) = refl
gone-replaced x ty n (application f a) = or_from (has_free x ty (replaced x ty (bound_name n) f)) (has_free x ty (replaced x ty (bound_name n) a))
    (gone-replaced x ty n f) (gone-replaced x ty n a)
gone-replaced x ty n (abstraction y u b) = gone-replaced x ty n b

-- opening by the variable puts it back
opened-back : (n x : Chars) (ty : TypeTree) (t : TermTree) → has_bound n t ≡ false → opened n (free_variable x ty) (replaced x ty (bound_name n) t) ≡ t
opened-back n x ty (free_variable y u) e = elim (bool_cases (same_name x y && same_type ty u)) [
  | inl h ↦ ap (opened n (free_variable x ty)) (if-true (same_name x y && same_type ty u) (bound_name n) (free_variable y u) h)
      ∙ if-true (same_name n n) (free_variable x ty) (bound_name n) (true-name n n refl)
      ∙ (let k = both-true (same_name x y) (same_type ty u) h in λ i. free_variable (name-true x y k.0 i) (type-true ty u k.1 i))
  | inr h ↦ ap (opened n (free_variable x ty)) (if-false (same_name x y && same_type ty u) (bound_name n) (free_variable y u) h)
]
opened-back n x ty (bound_name y) e = if-false (same_name n y) (free_variable x ty) (bound_name y) e
opened-back n x ty (constant c ts) e = refl
opened-back n x ty (application f a) e =
    let h = or_parts (has_bound n f) (has_bound n a) e in
    λ i. application (opened-back n x ty f h.0 i) (opened-back n x ty a h.1 i)
opened-back n x ty (abstraction y u b) e =
    let h = or_parts (same_name n y) (has_bound n b) e in
    ap (abstraction y u) (if-false (same_name n y) (replaced x ty (bound_name n) b) (opened n (free_variable x ty) (replaced x ty (bound_name n) b)) h.0 ∙ opened-back n x ty b h.1)

pub closes : (n x : Chars) (ty : TypeTree) (t c : TermTree) → has_bound n t ≡ false → c ≡ abstraction n ty (replaced x ty (bound_name n) t) → Closes x ty t c
closes n x ty t c e is = record {
  binder = n;
  body = replaced x ty (bound_name n) t;
  is = is;
  gone = gone-replaced x ty n t;
  back = nameless-alpha [] (opened n (free_variable x ty) (replaced x ty (bound_name n) t)) t (ap (nameless []) (opened-back n x ty t e));
}

-- the nameless form of each closing
pub closing-nameless : (x : Chars) (ty : TypeTree) (t c : TermTree) → Closes x ty t c → nameless [] c ≡ nameless_abstraction ty (abstracted 0 x ty (nameless [] t))
closing-nameless x ty t c h = alpha-nameless [] c (closed_over x ty t) (closings_are_alpha x ty t c h) ∙ closed-nameless x ty t

-- the longer name is new

longer-differs : (n y : Chars) → length y < length n → same_name n y ≡ false
longer-differs n y h = false-name n y (λ q. let l : length n ≡ length y = ap length q in absurd (omega arith))

longer-is-new : (n : Chars) (t : TermTree) → longest t < length n → has_bound n t ≡ false
longer-is-new n (free_variable y u) l = refl
longer-is-new n (bound_name y) l = longer-differs n y l
longer-is-new n (constant c ts) l = refl
longer-is-new n (application f a) l = or_from (has_bound n f) (has_bound n a) (longer-is-new n f (omega arith)) (longer-is-new n a (omega arith))
longer-is-new n (abstraction y u b) l = or_from (same_name n y) (has_bound n b) (longer-differs n y (omega arith)) (longer-is-new n b (omega arith))

pub new_binder-is-new : (n : Chars) (t : TermTree) → n ≡ new_binder t → has_bound n t ≡ false
new_binder-is-new n t e = ap (λ (m : Chars). has_bound m t) e ∙ longer-is-new (new_binder t) t (new_is_longer t)

-- over the nodes

or-false : (a : Bool) → (a || false) ≡ a
or-false true = refl
or-false false = refl

or-turn : (a b : Bool) → (a || b) ≡ (b || a)
or-turn true true = refl
or-turn true false = refl
or-turn false true = refl
or-turn false false = refl

any-nodes : (n : Chars) (from : ℕ) (t : TermTree) → list_any (is_bound_at n) (term_nodes from t) ≡ has_bound n t
any-nodes n from (free_variable x t) = refl
any-nodes n from (bound_name x) = or-false (same_name n x)
any-nodes n from (constant c ts) = refl
any-nodes n from (application f a) =
    let last : List TermNode = App (from + under f) (from + (under f + 1) + under a) ∷ [] in
    list_any-append (is_bound_at n) (term_nodes from f) (term_nodes (from + (under f + 1)) a ++ last)
    ∙ (λ i. any-nodes n from f i || (list_any-append (is_bound_at n) (term_nodes (from + (under f + 1)) a) last ∙ or-false (list_any (is_bound_at n) (term_nodes (from + (under f + 1)) a)) ∙ any-nodes n (from + (under f + 1)) a) i)
any-nodes n from (abstraction x t b) =
    list_any-append (is_bound_at n) (term_nodes from b) (Lam x t (from + under b) ∷ [])
    ∙ (λ i. any-nodes n from b i || or-false (same_name n x) i) ∙ or-turn (has_bound n b) (same_name n x)

pub first-nodes : (n : Chars) (t : TermTree) (nodes : List TermNode) → nodes ≡ term_nodes 0 t → has_bound n t ≡ list_any (is_bound_at n) (drop 0 nodes)
first-nodes n t nodes e = sym (ap (list_any (is_bound_at n)) e ∙ any-nodes n 0 t)

-- one more node
pub next-node : (n : Chars) (ns : List TermNode) (i : ℕ) (node : TermNode) → i < length ns → node ≡ get_or ns i node → list_any (is_bound_at n) (drop i ns) ≡ (is_bound_at n node || list_any (is_bound_at n) (drop (i + 1) ns))
next-node n ns i node h e =
    ap (list_any (is_bound_at n)) (drop-cons ns i node h ∙ ap (λ q. q ∷ drop (suc i) ns) (sym e) ∙ ap (λ k. node ∷ drop k ns) (sym (add-one i)))

-- the abstraction that is put together
pub closed-by : (n copy x : Chars) (ty also : TypeTree) (t bound body c : TermTree) → has_bound n t ≡ false → copy ≡ n → bound ≡ bound_name copy → body ≡ replaced x ty bound t → also ≡ ty
    → c ≡ abstraction n also body → Closes x ty t c
closed-by n copy x ty also t bound body c e same is made tys closing =
    closes n x ty t c e (closing ∙ (λ i. abstraction n (tys i) ((made ∙ ap (λ (b : TermTree). replaced x ty b t) (is ∙ ap bound_name same)) i)))
