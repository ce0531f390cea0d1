-- Terms that are put into a store, node by node.
use Rattle.std.proofs.Common.{◌≡◌, ℕ, suc, ◌+◌, ◌<◌, ◌≤◌, List, [], ◌∷◌, ◌++◌, length, map, reverse, drop, get_or, Option, Some, None, Bool, if◌then◌else◌, inl, inr, refl, sym, ◌∙◌, ap, subst, arith, append_assoc, append-nil, length-append}
use Rattle.std.proofs.lemmas.List.{reverse-append, map-append, length-drop, length-reverse, length-map, get_or_append_left}
use Rattle.std.proofs.Math.Seq.{drop-cons, get_or-append_seam}
use Rattle.std.proofs.Math.ListN.{drop_of_length-le}
use Rattle.lt_definitions.specs.Types.{Chars, same_name, TypeTree}
use Rattle.lt_definitions.specs.Terms.{TermTree, free_variable, bound_name, constant, application, abstraction}
use Rattle.lt_nameless.specs.Nameless.{Nameless, nameless_bound, nameless_loose, nameless_application, nameless_abstraction, deeper, nameless_name, nameless, IsWhole}
use Rattle.lt_definitions.proofs.SameNames.{bool_cases}
use Rattle.lt_nameless.proofs.Alphas.{name-hit, name-miss}
use Rattle.lt_terms.specs.declared.bound_names.Binder.{Binder}
use Rattle.lt_terms.specs.declared.term.TermNode.{TermNode}
use Rattle.lt_terms.specs.declared.term.TermNode.TheVariants.{Bound, App, Lam}
use Rattle.lt_terms.specs.Layout.{under, term_nodes}
use Rattle.lt_terms.specs.BoundNames.{Places, further, binder_of, binders_in}
use Rattle.lt_store.specs.declared.node.Node.{Node}
use Rattle.lt_store.specs.Trees.{tree_at, trees, AllBelow, Extends}
use Rattle.lt_store.specs.Stacks.{stack, joined, covered, grown, HasParts}
use Rattle.lt_store.proofs.Lists.{trees-extends}

-- a bound name and its binder

abbrev names : Places → List Chars
names around = map (λ b. b.0) around

abbrev by_binder : Option Binder → Chars → Nameless
by_binder None x = nameless_loose x
by_binder (Some b) x = nameless_bound b.index

deeper-by_binder : (o : Option Binder) (x : Chars) → deeper (by_binder o x) ≡ by_binder (further o) x
deeper-by_binder None x = refl
deeper-by_binder (Some b) x = refl

name-by_binder : (around : Places) (x : Chars) → nameless_name (names around) x ≡ by_binder (binder_of x around) x
name-by_binder [] x = refl
name-by_binder (b ∷ around) x = elim (bool_cases (same_name x b.0)) [
  | inl h ↦ name-hit b.0 (names around) x h
      ∙ sym (ap (λ (c : Bool). by_binder (if c then Some (record { place = b.1; index = 0 }) else further (binder_of x around)) x) h)
  | inr h ↦ name-miss b.0 (names around) x h ∙ ap deeper (name-by_binder around x) ∙ deeper-by_binder (binder_of x around) x
      ∙ sym (ap (λ (c : Bool). by_binder (if c then Some (record { place = b.1; index = 0 }) else further (binder_of x around)) x) h)
]

-- the nodes that are left make the goal of the terms that there are
abbrev pub Remains : Nameless → List Nameless → List TermNode → List (Option Binder) → Type 0
Remains goal before [] [] = before ≡ goal ∷ []
Remains goal before [] (b ∷ bs) = ⊥
Remains goal before (n ∷ ns) [] = ⊥
Remains goal before (n ∷ ns) (b ∷ bs) = HasParts before n b × Remains goal (grown before n b) ns bs

regroup : {A : Type 0} (xs ys zs rest : List A) → (xs ++ (ys ++ zs)) ++ rest ≡ xs ++ (ys ++ (zs ++ rest))
regroup xs ys zs rest = simp append_assoc

module _ (goal : Nameless) where
  remains-name : (o : Option Binder) (x : Chars) (n : Nameless) (d : ℕ) (before : List Nameless) (ns : List TermNode) (bs : List (Option Binder)) → n ≡ by_binder o x
      → IsWhole d n → Remains goal (n ∷ before) ns bs → Remains goal before (Bound x ∷ ns) (o ∷ bs)
  remains-name None x n d before ns bs e w h = absurd (subst (λ (k : Nameless). IsWhole d k) e w)
  remains-name (Some b) x n d before ns bs e w h = (refl, subst (λ (k : Nameless). Remains goal (k ∷ before) ns bs) e h)

  remains-both : (before : List Nameless) (ms ns : List TermNode) (cs bs : List (Option Binder)) → ms ≡ ns → cs ≡ bs → Remains goal before ms cs → Remains goal before ns bs
  remains-both before ms ns cs bs p q h = subst (Remains goal before ns) q (subst (λ (l : List TermNode). Remains goal before l cs) p h)

  remains-term : (from : ℕ) (around : Places) (t : TermTree) (d : ℕ) (before : List Nameless) (ns : List TermNode) (bs : List (Option Binder)) → IsWhole d (nameless (names around) t)
      → Remains goal (nameless (names around) t ∷ before) ns bs → Remains goal before (term_nodes from t ++ ns) (binders_in from around t ++ bs)
  remains-term from around (free_variable x u) d before ns bs w h = (tt, h)
  remains-term from around (bound_name x) d before ns bs w h = remains-name (binder_of x around) x (nameless_name (names around) x) d before ns bs (name-by_binder around x) w h
  remains-term from around (constant c ts) d before ns bs w h = (tt, h)
  remains-term from around (application f a) d before ns bs w h =
      let last : List TermNode = App (from + under f) (from + (under f + 1) + under a) ∷ [] in
      let none : List (Option Binder) = None ∷ [] in
      let two : 2 ≤ length (nameless (names around) a ∷ nameless (names around) f ∷ before) = omega arith in
      remains-both before _ _ _ _ (sym (regroup (term_nodes from f) (term_nodes (from + (under f + 1)) a) last ns))
      (sym (regroup (binders_in from around f) (binders_in (from + (under f + 1)) around a) none bs))
      (remains-term from around f d before (term_nodes (from + (under f + 1)) a ++ (last ++ ns)) (binders_in (from + (under f + 1)) around a ++ (none ++ bs)) w.0
      (remains-term (from + (under f + 1)) around a d (nameless (names around) f ∷ before) (last ++ ns) (none ++ bs) w.1 (two, h)))
  remains-term from around (abstraction x u b) d before ns bs w h =
      let one : 1 ≤ length (nameless (x ∷ names around) b ∷ before) = omega arith in
      let none : List (Option Binder) = None ∷ [] in
      remains-both before _ _ _ _ (sym (append_assoc (term_nodes from b) (Lam x u (from + under b) ∷ []) ns))
      (sym (append_assoc (binders_in from ((x, from + (under b + 1)) ∷ around) b) none bs))
      (remains-term from ((x, from + (under b + 1)) ∷ around) b (suc d) before (Lam x u (from + under b) ∷ ns) (none ++ bs) w (one, h))

  same_length : (before : List Nameless) (ns : List TermNode) (bs : List (Option Binder)) → Remains goal before ns bs → length ns ≡ length bs
  same_length before [] [] h = refl
  same_length before [] (b ∷ bs) h = absurd h
  same_length before (n ∷ ns) [] h = absurd h
  same_length before (n ∷ ns) (b ∷ bs) h = ap suc (same_length (grown before n b) ns bs h.1)

  -- at the start all nodes are left
  pub remains_first : (t : TermTree) (ns : List TermNode) (bs : List (Option Binder)) → ns ≡ term_nodes 0 t → bs ≡ binders_in 0 [] t → IsWhole 0 (nameless [] t) → nameless [] t ≡ goal → Remains goal [] ns bs
  remains_first t ns bs p q w e =
      remains-both [] _ _ _ _ (append-nil (term_nodes 0 t) ∙ sym p) (append-nil (binders_in 0 [] t) ∙ sym q) (remains-term 0 [] t 0 [] [] [] w (ap (λ (n : Nameless). n ∷ []) e))

  -- at the end none is
  pub remains_last : (before : List Nameless) (ns : List TermNode) (bs : List (Option Binder)) (i : ℕ) → length ns ≤ i → Remains goal before (drop i ns) (drop i bs) → before ≡ goal ∷ []
  remains_last before ns bs i done h = by (drop i ns) (drop i bs) (drop_of_length-le ns done) h
    where
      by : (ms : List TermNode) (cs : List (Option Binder)) → ms ≡ [] → Remains goal before ms cs → before ≡ goal ∷ []
      by [] [] e h = h
      by [] (c ∷ cs) e h = absurd h
      by (m ∷ ms) cs e h = absurd (cc e)

  module _ (before : List Nameless) (ns : List TermNode) (bs : List (Option Binder)) (i : ℕ) (within : i < length ns) (h : Remains goal before (drop i ns) (drop i bs)) where
    -- there is a binder, or none, for each node
    pub remains_within : i < length bs
    remains_within = let e = same_length before (drop i ns) (drop i bs) h in omega (arith, length-drop i ns, length-drop i bs, e)

    pub record NextNode (n : TermNode) (b : Option Binder) : Type 0 where
      pub parts : HasParts before n b
      pub remains : Remains goal (grown before n b) (drop (i + 1) ns) (drop (i + 1) bs)

    -- the next node
    pub remains_next : (n : TermNode) (b : Option Binder) → n ≡ get_or ns i n → b ≡ get_or bs i b → NextNode n b
    remains_next n b p q =
        let e : suc i ≡ i + 1 = omega arith in
        let here : Remains goal before (n ∷ drop (i + 1) ns) (b ∷ drop (i + 1) bs) =
        remains-both before _ _ _ _ (drop-cons ns i n within ∙ (λ k. sym p k ∷ drop (e k) ns)) (drop-cons bs i b remains_within ∙ (λ k. sym q k ∷ drop (e k) bs)) h in
        record { parts = here.0; remains = here.1 }

-- stacks

stack-push : (ns : List Node) (ids : List ℕ) (i : ℕ) → stack ns (ids ++ i ∷ []) ≡ tree_at ns i ∷ stack ns ids
stack-push ns ids i = ap reverse (map-append (tree_at ns) ids (i ∷ [])) ∙ reverse-append (trees ns ids) (tree_at ns i ∷ [])

stack-extends : (old new : List Node) (ids : List ℕ) → Extends old new → AllBelow (length old) ids → stack new ids ≡ stack old ids
stack-extends old new ids e h = ap reverse (trees-extends old new ids e h)

pub length-stack : (ns : List Node) (ids : List ℕ) → length (stack ns ids) ≡ length ids
length-stack ns ids = length-reverse (trees ns ids) ∙ length-map ids (tree_at ns)

pub AllBelow-front : (n : ℕ) (all rest : List ℕ) (i : ℕ) → all ≡ rest ++ i ∷ [] → AllBelow n all → AllBelow n rest × (i < n)
AllBelow-front n all rest i e h = by (subst (AllBelow n) e h)
  where
    by : AllBelow n (rest ++ i ∷ []) → AllBelow n rest × (i < n)
    by w = (
      λ k d l. let b = w k d (omega (arith, l, length-append rest (i ∷ []))) in subst (λ (x : ℕ). x < n) (get_or_append_left rest (i ∷ []) d k l) b,
      let b = w (length rest) 0 (omega (arith, length-append rest (i ∷ []))) in subst (λ (x : ℕ). x < n) (get_or-append_seam rest i [] 0) b,
    )

-- one more term
module _ (old new : List Node) (e : Extends old new) where
  pub leaf_stands : (ids : List ℕ) (r : ℕ) (t : Nameless) → AllBelow (length old) ids → tree_at new r ≡ t → tree_at new r ∷ stack new ids ≡ t ∷ stack old ids
  leaf_stands ids r t h is = λ k. is k ∷ stack-extends old new ids e h k

  pub covered_stands : (ids rest : List ℕ) (b r : ℕ) (ty : TypeTree) → AllBelow (length old) ids → ids ≡ rest ++ b ∷ [] → tree_at new r ≡ nameless_abstraction ty (tree_at old b)
      → tree_at new r ∷ stack new rest ≡ covered ty (stack old ids)
  covered_stands ids rest b r ty h split is =
      leaf_stands rest r _ (AllBelow-front (length old) ids rest b split h).0 is ∙ sym (ap (λ l. covered ty (stack old l)) split ∙ ap (covered ty) (stack-push old rest b))

  pub joined_stands : (ids front rest : List ℕ) (f a r : ℕ) → AllBelow (length old) ids → ids ≡ front ++ a ∷ [] → front ≡ rest ++ f ∷ []
      → tree_at new r ≡ nameless_application (tree_at old f) (tree_at old a) → tree_at new r ∷ stack new rest ≡ joined (stack old ids)
  joined_stands ids front rest f a r h last first is =
      let in_front = (AllBelow-front (length old) ids front a last h).0 in
      leaf_stands rest r _ (AllBelow-front (length old) front rest f first in_front).0 is
      ∙ sym (ap (λ l. joined (stack old l)) last ∙ ap joined (stack-push old front a) ∙ ap (λ l. joined (tree_at old a ∷ stack old l)) first ∙ ap (λ l. joined (tree_at old a ∷ l)) (stack-push old rest f))

-- the last term, where there is one
pub last_stands : (ns : List Node) (ids rest : List ℕ) (i : ℕ) (goal : Nameless) → ids ≡ rest ++ i ∷ [] → stack ns ids ≡ goal ∷ [] → tree_at ns i ≡ goal
last_stands ns ids rest i goal split is = let e : tree_at ns i ∷ stack ns rest ≡ goal ∷ [] = sym (stack-push ns rest i) ∙ ap (stack ns) (sym split) ∙ is in cc
