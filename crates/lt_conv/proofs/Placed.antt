-- Moves of a conversion from place to place.
use Rattle.std.proofs.Common.{◌≡◌, inl, inr, ℕ, ◌+◌, ◌*◌, ◌<◌, ◌==◌, List, [], ◌∷◌, ◌++◌, length, reverse, if◌then◌else◌, Option, Some, None, IfSome, refl, sym, ◌∙◌, ap, subst, arith, rules}
use Rattle.std.proofs.lemmas.Grind.{common_steps}
use Rattle.std.specs.HashMap.{IsEmpty}
use Rattle.std.proofs.lemmas.List.{reverse-append}
use Rattle.std.proofs.lemmas.Bool.{cases_Bool, cond-true, cond-false, eqb-true}
use Rattle.lt_definitions.specs.Types.{Chars, TypeTree, fun}
use Rattle.lt_definitions.proofs.TypingLemmas.{typed-some}
use Rattle.lt_nameless.specs.Nameless.{Nameless, nameless_application}
use Rattle.lt_nameless.specs.NamelessRules.{nameless_typed, nameless_fault}
use Rattle.lt_store.specs.declared.node.Node.{Node}
use Rattle.lt_store.specs.Trees.{tree_at, tree_size}
use Rattle.lt_store.specs.Typed.{IsTyped}
use Rattle.lt_store.proofs.TreeLemmas.{tree_at-extends}
use Rattle.lt_kernel.specs.State.{State, statements}
use Rattle.lt_kernel.specs.Growing.{Carries, IsSound}
use Rattle.lt_kernel.proofs.GrowingLemmas.{carries-grows}
use Rattle.lt_programs.proofs.TypedTermLemmas.{application-parts, of-sound}
use Rattle.lt_derived.specs.Equations.{Equates}
use Rattle.lt_derived.proofs.EquationLemmas.{equates-kept}
use Rattle.lt_derived.proofs.Repeated.{still-typed}
use Rattle.lt_conv.specs.declared.places.Level.{Level}
use Rattle.lt_conv.specs.declared.places.Level.TheVariants.{Function, Argument, Body}
use Rattle.lt_conv.specs.declared.places.Place.{Place}
use Rattle.lt_conv.specs.declared.places.Place.TheVariants.{Node as AtNode, Line as AtLine}
use Rattle.lt_conv.specs.Everywhere.{everywhere}
use Rattle.lt_conv.specs.Places.{Lines, line_in, IsConverted, AreConverted, IsHeadOf, IsArgumentOf, IsBodyOf, IsInside, IsPlace, IsAtWork, LeadsOn, LeadsOrEnds, argument_size, levels_work, moves_left}
use Rattle.lt_conv.specs.Settling.{HasParts, HasBody}
use Rattle.lt_conv.proofs.EverywhereLemmas.{size-positive, opened-size}
use Rattle.lt_conv.proofs.Converting.{still-sound}
use Rattle.lt_conv.proofs.Settled.{still-named}

-- a level that was pushed, seen from the inside
pub level-pushed : (items new : List Level) (l : Level) → new ≡ items ++ l ∷ [] → reverse new ≡ l ∷ reverse items
level-pushed items new l e = ap reverse e ∙ reverse-append items (l ∷ [])

pub level-taken : (items new : List Level) (l k : Level) → new ≡ items ++ l ∷ [] → l ≡ k → reverse new ≡ k ∷ reverse items
level-taken items new l k e d = level-pushed items new l e ∙ ap (λ j. j ∷ reverse items) d

pub less-of : (ns : List Node) (ls ks : List Level) (p : Place) (m : ℕ) → ls ≡ ks → m < moves_left ns ks p → m < moves_left ns ls p
less-of ns ls ks p m e h = subst (λ (js : List Level). m < moves_left ns js p) (sym e) h

-- ---- what stays

module _ (f : Nameless → Option Nameless) (s now : State) (c : Carries s now) where
  tree-kept : (id : ℕ) → id < length s.nodes → tree_at now.nodes id ≡ tree_at s.nodes id
  tree-kept id h = let g = carries-grows s now c in tree_at-extends s.nodes now.nodes id g.stays.nodes h

  head-kept : (id : ℕ) (t : Nameless) → IsHeadOf s id t → IsHeadOf now id t
  head-kept id t h = record { typed = still-typed s now id c h.typed; a = h.a; is = tree-kept id h.typed.within ∙ h.is }

  argument-kept : (id n : ℕ) (t : Nameless) → IsArgumentOf f s id n t → IsArgumentOf f now id n t
  argument-kept id n t h = record {
    typed = still-typed s now id c h.typed;
    g = h.g;
    is = tree-kept id h.typed.within ∙ h.is;
    head = equates-kept s now n h.g (everywhere f h.g) c h.head;
  }

  body-kept : (id : ℕ) (x : Chars) (ty : TypeTree) (t : Nameless) → IsBodyOf s id x ty t → IsBodyOf now id x ty t
  body-kept id x ty t h = record {
    typed = still-typed s now id c h.typed;
    b = h.b;
    is = tree-kept id h.typed.within ∙ h.is;
    name = h.name;
    new = h.new;
    opened = h.opened;
  }

  inside-at : (ls : List Level) (id : ℕ) (root : Nameless) → id < length s.nodes → IsInside f now ls (tree_at s.nodes id) root → IsInside f now ls (tree_at now.nodes id) root
  inside-at ls id root h k = subst (λ (u : Nameless). IsInside f now ls u root) (sym (tree-kept id h)) k

  pub inside-kept : (ls : List Level) (t root : Nameless) → IsInside f s ls t root → IsInside f now ls t root
  inside-kept [] t root h = h
  inside-kept (Function id ∷ ls) t root h = (head-kept id t h.0, inside-at ls id root (h.0).typed.within (inside-kept ls (tree_at s.nodes id) root h.1))
  inside-kept (Argument id n ∷ ls) t root h = (argument-kept id n t h.0, inside-at ls id root (h.0).typed.within (inside-kept ls (tree_at s.nodes id) root h.1))
  inside-kept (Body id x ty ∷ ls) t root h = (body-kept id x ty t h.0, inside-at ls id root (h.0).typed.within (inside-kept ls (tree_at s.nodes id) root h.1))

  pub work-kept : (ls : List Level) (t root : Nameless) → IsInside f s ls t root → levels_work now.nodes ls ≡ levels_work s.nodes ls
  work-kept [] t root h = refl
  work-kept (Function id ∷ ls) t root h =
      λ i. 2 + 4 * argument_size (tree-kept id (h.0).typed.within i) + work-kept ls (tree_at s.nodes id) root h.1 i
  work-kept (Argument id n ∷ ls) t root h = λ i. 1 + work-kept ls (tree_at s.nodes id) root h.1 i
  work-kept (Body id x ty ∷ ls) t root h = λ i. 1 + work-kept ls (tree_at s.nodes id) root h.1 i

  pub known-kept : (lines : Lines) → AreConverted f s lines → AreConverted f now lines
  known-kept lines h id n e =
      let k = h id n e in
      let g = carries-grows s now c in
      let same = tree-kept id k.within in
      let line = equates-kept s now n (tree_at s.nodes id) (everywhere f (tree_at s.nodes id)) c k.line in record {
        within = (let w = k.within in let l = g.stays.nodes.grows in omega (arith, w, l));
        line = subst (λ (u : Nameless). Equates now n u (everywhere f u)) (sym same) line;
      }

  -- one line more
  pub known-more : (lines more : Lines) (id n : ℕ) → AreConverted f s lines → id < length s.nodes → Equates now n (tree_at s.nodes id) (everywhere f (tree_at s.nodes id))
      → ((i : ℕ) → line_in more i ≡ (if id == i then Some n else line_in lines i)) → AreConverted f now more
  known-more lines more id n h w line is i k e = elim (cases_Bool (id == i)) [
    | inl q ↦
        let same : id ≡ i = eqb-true id i q in
        let number : n ≡ k = same-some n k (sym (cond-true (id == i) (Some n) (line_in lines i) q) ∙ sym (is i) ∙ e) in
        let g = carries-grows s now c in
        let here = tree-kept id w in
        subst (λ (j : ℕ). IsConverted f now j k) same (subst (λ (m : ℕ). IsConverted f now id m) number (record {
          within = (let l = g.stays.nodes.grows in omega (arith, w, l));
          line = subst (λ (u : Nameless). Equates now n u (everywhere f u)) (sym here) line;
        }))
    | inr q ↦ known-kept lines h i k (sym (cond-false (id == i) (Some n) (line_in lines i) q) ∙ sym (is i) ∙ e)
  ]
    where
      same-some : (a b : ℕ) → Some a ≡ Some b → a ≡ b
      same-some a b e = cc e

  -- a node whose line was found
  pub line-found : (ls : List Level) (lines more : Lines) (id n : ℕ) (root : Nameless) → IsInside f s ls (tree_at s.nodes id) root → AreConverted f s lines → id < length s.nodes
      → Equates now n (tree_at s.nodes id) (everywhere f (tree_at s.nodes id)) → ((i : ℕ) → line_in more i ≡ (if id == i then Some n else line_in lines i))
      → LeadsOn f root now ls more (AtLine n)
  line-found ls lines more id n root h k w line is = record {
    place = record { t = tree_at s.nodes id; line = line; inside = inside-kept ls (tree_at s.nodes id) root h };
    known = known-more lines more id n k w line is;
  }

-- ---- from a node

module _ (gives : List (Chars × Nameless) → Nameless → Option Nameless) (s : State) (ls : List Level) (lines : Lines) (id : ℕ) (q : IsAtWork gives s ls lines (AtNode id)) where
  abbrev f : Nameless → Option Nameless
  f = gives q.named

  pub node-typed : IsTyped s.signature s.nodes id
  node-typed = q.place.0

  pub node-inside : IsInside f s ls (tree_at s.nodes id) q.root
  node-inside = q.place.1

  -- its line was kept
  pub line-known : (n : ℕ) → line_in lines id ≡ Some n → LeadsOn f q.root s ls lines (AtLine n)
  line-known n e = record {
    place = record { t = tree_at s.nodes id; line = (q.known id n e).line; inside = node-inside };
    known = q.known;
  }

  pub known-less : (n : ℕ) → moves_left s.nodes ls (AtLine n) < moves_left s.nodes ls (AtNode id)
  known-less n = let p = size-positive (tree_at s.nodes id) in omega (arith, p)

  -- its line was made
  pub made-less : (now : State) (n : ℕ) → Carries s now → moves_left now.nodes ls (AtLine n) < moves_left s.nodes ls (AtNode id)
  made-less now n c = let p = size-positive (tree_at s.nodes id) in let w = work-kept f s now c ls (tree_at s.nodes id) q.root node-inside in omega (arith, p, w)

  -- it is an application
  module _ (h a : ℕ) (within : h < length s.nodes) (is : tree_at s.nodes id ≡ nameless_application (tree_at s.nodes h) (tree_at s.nodes a)) (new : List Level) (pushed : new ≡ Function id ∷ ls) where
    head-typed : IsTyped s.signature s.nodes h
    head-typed =
        let t = typed-some (nameless_typed s.signature [] (nameless_application (tree_at s.nodes h) (tree_at s.nodes a))) (sym (ap (nameless_fault s.signature) is) ∙ node-typed.typed) in
        let p = application-parts s.signature (tree_at s.nodes h) (tree_at s.nodes a) t.0 t.1 in
        record { within = within; typed = of-sound s.signature (tree_at s.nodes h) (fun p.0 t.0) p.1 }

    pub head-leads : LeadsOn f q.root s new lines (AtNode h)
    head-leads = record {
      place = (
        head-typed,
        subst (λ (ks : List Level). IsInside f s ks (tree_at s.nodes h) q.root) (sym pushed)
            (record { typed = node-typed; a = tree_at s.nodes a; is = is }, node-inside),
      );
      known = q.known;
    }

    pub head-less : moves_left s.nodes new (AtNode h) < moves_left s.nodes ls (AtNode id)
    head-less =
        let levels = ap (levels_work s.nodes) pushed in
        let size = ap tree_size is in
        let size-a = ap argument_size is in
        omega (arith, levels, size, size-a)

  -- it is an abstraction, whose body was opened
  module _ (now : State) (c : Carries s now) (r : ℕ) (x : Chars) (ty : TypeTree) (typed : IsTyped now.signature now.nodes r) (body : IsBodyOf now id x ty (tree_at now.nodes r))
      (new : List Level) (pushed : new ≡ Body id x ty ∷ ls) where
    pub body-leads : LeadsOn f q.root now new lines (AtNode r)
    body-leads = record {
      place = (
        typed,
        subst (λ (ks : List Level). IsInside f now ks (tree_at now.nodes r) q.root) (sym pushed)
            (body, inside-at f s now c ls id q.root node-typed.within (inside-kept f s now c ls (tree_at s.nodes id) q.root node-inside)),
      );
      known = known-kept f s now c lines q.known;
    }

    pub body-less : moves_left now.nodes new (AtNode r) < moves_left s.nodes ls (AtNode id)
    body-less =
        let levels = ap (levels_work now.nodes) pushed in
        let w = work-kept f s now c ls (tree_at s.nodes id) q.root node-inside in
        let size = ap tree_size (sym (tree-kept f s now c id node-typed.within) ∙ body.is) in
        let opened = ap tree_size body.opened in
        let same = opened-size 0 x ty body.b in
        omega (arith, levels, w, size, opened, same)

-- ---- from a line

-- behind the head of an application
module _ (gives : List (Chars × Nameless) → Nameless → Option Nameless) (s : State) (ls : List Level) (lines : Lines) (id n : ℕ) (q : IsAtWork gives s (Function id ∷ ls) lines (AtLine n)) where
  pub head-typed-of : IsTyped s.signature s.nodes id
  head-typed-of = (q.place.inside.0).typed

  module _ (h a : ℕ) (within : a < length s.nodes) (is : tree_at s.nodes id ≡ nameless_application (tree_at s.nodes h) (tree_at s.nodes a)) (new : List Level) (pushed : new ≡ Argument id n ∷ ls) where
    same-parts : (g b k c : Nameless) → nameless_application g b ≡ nameless_application k c → (g ≡ k) × (b ≡ c)
    same-parts g b k c e = (cc e, cc e)

    same : (q.place.t ≡ tree_at s.nodes h) × ((q.place.inside.0).a ≡ tree_at s.nodes a)
    same = same-parts q.place.t (q.place.inside.0).a (tree_at s.nodes h) (tree_at s.nodes a) (sym (q.place.inside.0).is ∙ is)

    argument-typed : IsTyped s.signature s.nodes a
    argument-typed =
        let t = typed-some (nameless_typed s.signature [] (nameless_application (tree_at s.nodes h) (tree_at s.nodes a))) (sym (ap (nameless_fault s.signature) is) ∙ head-typed-of.typed) in
        let p = application-parts s.signature (tree_at s.nodes h) (tree_at s.nodes a) t.0 t.1 in
        record { within = within; typed = of-sound s.signature (tree_at s.nodes a) p.0 p.2 }

    pub argument-leads : LeadsOn (gives q.named) q.root s new lines (AtNode a)
    argument-leads = record {
      place = (
        argument-typed,
        subst (λ (ks : List Level). IsInside (gives q.named) s ks (tree_at s.nodes a) q.root) (sym pushed) (
          record {
            typed = head-typed-of;
            g = q.place.t;
            is = is ∙ ap (λ g. nameless_application g (tree_at s.nodes a)) (sym same.0);
            head = q.place.line;
          },
          q.place.inside.1,
        ),
      );
      known = q.known;
    }

    pub argument-less : moves_left s.nodes new (AtNode a) < moves_left s.nodes (Function id ∷ ls) (AtLine n)
    argument-less =
        let levels = ap (levels_work s.nodes) pushed in
        let size = ap argument_size is in
        omega (arith, levels, size)

-- behind its argument
module _ (gives : List (Chars × Nameless) → Nameless → Option Nameless) (s : State) (ls : List Level) (lines : Lines) (id k n : ℕ) (q : IsAtWork gives s (Argument id k ∷ ls) lines (AtLine n)) where
  abbrev pub both-parts : HasParts gives s id k n
  both-parts = record {
    named = q.named;
    same = q.same;
    typed = (q.place.inside.0).typed;
    g = (q.place.inside.0).g;
    a = q.place.t;
    is = (q.place.inside.0).is;
    head = (q.place.inside.0).head;
    argument = q.place.line;
  }

  module _ (now : State) (c : Carries s now) (m : ℕ) where
    pub application-leads : (more : Lines) → Equates now m (tree_at s.nodes id) (everywhere (gives q.named) (tree_at s.nodes id))
        → ((i : ℕ) → line_in more i ≡ (if id == i then Some m else line_in lines i)) → LeadsOn (gives q.named) q.root now ls more (AtLine m)
    application-leads more line is =
        line-found (gives q.named) s now c ls lines more id m q.root q.place.inside.1 q.known (q.place.inside.0).typed.within line is

    pub application-less : moves_left now.nodes ls (AtLine m) < moves_left s.nodes (Argument id k ∷ ls) (AtLine n)
    application-less = let w = work-kept (gives q.named) s now c ls (tree_at s.nodes id) q.root q.place.inside.1 in omega (arith, w)

-- behind the body of an abstraction
module _ (gives : List (Chars × Nameless) → Nameless → Option Nameless) (s : State) (ls : List Level) (lines : Lines) (id : ℕ) (x : Chars) (ty : TypeTree) (n : ℕ) (q : IsAtWork gives s (Body id x ty ∷ ls) lines (AtLine n)) where
  abbrev pub the-body : HasBody gives s id x ty n
  the-body = record { named = q.named; same = q.same; t = q.place.t; body = q.place.inside.0; line = q.place.line }

  module _ (now : State) (c : Carries s now) (m : ℕ) where
    pub abstraction-leads : (more : Lines) → Equates now m (tree_at s.nodes id) (everywhere (gives q.named) (tree_at s.nodes id))
        → ((i : ℕ) → line_in more i ≡ (if id == i then Some m else line_in lines i)) → LeadsOn (gives q.named) q.root now ls more (AtLine m)
    abstraction-leads more line is =
        line-found (gives q.named) s now c ls lines more id m q.root q.place.inside.1 q.known (q.place.inside.0).typed.within line is

    pub abstraction-less : moves_left now.nodes ls (AtLine m) < moves_left s.nodes (Body id x ty ∷ ls) (AtLine n)
    abstraction-less = let w = work-kept (gives q.named) s now c ls (tree_at s.nodes id) q.root q.place.inside.1 in omega (arith, w)

-- the levels are left
pub line-ends : (gives : List (Chars × Nameless) → Nameless → Option Nameless) (s : State) (ls : List Level) (lines : Lines) (n : ℕ) (q : IsAtWork gives s ls lines (AtLine n)) → ls ≡ []
    → Equates s n q.root (everywhere (gives q.named) q.root)
line-ends gives s ls lines n q e =
    let done : q.place.t ≡ q.root = subst (λ (ks : List Level). IsInside (gives q.named) s ks q.place.t q.root) e q.place.inside in
    subst (λ (u : Nameless). Equates s n u (everywhere (gives q.named) u)) done q.place.line

-- one level is taken off
abbrev pub with_levels : {gives : List (Chars × Nameless) → Nameless → Option Nameless} {s : State} {ls : List Level} {lines : Lines} {p : Place} (ks : List Level) → ls ≡ ks → IsAtWork gives s ls lines p
    → IsAtWork gives s ks lines p
with_levels {gives = gives} {s = s} {p = p} ks e q = record {
  named = q.named;
  same = q.same;
  root = q.root;
  place = subst (λ (js : List Level). IsPlace (gives q.named) s js p q.root) e q.place;
  known = q.known;
  sound = q.sound;
}

-- ---- the whole way

-- what a move led to, seen as what the next one starts from
abbrev pub at-work : (gives : List (Chars × Nameless) → Nameless → Option Nameless) (first s : State) (root : Nameless) (ls : List Level) (lines : Lines) (p : Place) → Carries first s → IsSound first
    → LeadsOn (gives (statements first)) root s ls lines p → IsAtWork gives s ls lines p
at-work gives first s root ls lines p c k h = record {
  named = statements first;
  same = still-named first s (statements first) c refl;
  root = root;
  place = h.place;
  known = h.known;
  sound = still-sound first s c k;
}

pub work-begins : (f : Nameless → Option Nameless) (s : State) (ls : List Level) (lines : Lines) (t : ℕ) → IsTyped s.signature s.nodes t → ls ≡ [] → ((id : ℕ) → line_in lines id ≡ None)
    → LeadsOn f (tree_at s.nodes t) s ls lines (AtNode t)
work-begins f s ls lines t h e none = record {
  place = (h, subst (λ (ks : List Level). IsInside f s ks (tree_at s.nodes t) (tree_at s.nodes t)) (sym e) refl);
  known = λ id n d. absurd (none-is n (sym (none id) ∙ d));
}
  where
    none-is : (n : ℕ) → None ≡ Some n → ⊥
    none-is n q = cc q

-- nothing is known at first
pub empty-lines : (lines : Lines) → IsEmpty lines → (id : ℕ) → line_in lines id ≡ None
empty-lines lines e id = search (rules, common_steps)

-- a place that is a node or a line
abbrev pub leads-at : {f : Nameless → Option Nameless} {root : Nameless} {s : State} {ls : List Level} {lines : Lines} {p q : Place} → p ≡ q → LeadsOn f root s ls lines p → LeadsOn f root s ls lines q
leads-at {f = f} {root = root} {s = s} {ls = ls} {lines = lines} e h = subst (LeadsOn f root s ls lines) e h

pub place-less : (ns : List Node) (ls : List Level) (p q : Place) (m : ℕ) → p ≡ q → m < moves_left ns ls q → m < moves_left ns ls p
place-less ns ls p q m e h = subst (λ (r : Place). m < moves_left ns ls r) (sym e) h

-- what is behind a line
pub goes-at : (f : Nameless → Option Nameless) (root : Nameless) (s : State) (ls : List Level) (lines : Lines) (n : ℕ) (o : Option Place) (p : Place) → o ≡ Some p → LeadsOrEnds f root s ls lines n o
    → LeadsOn f root s ls lines p
goes-at f root s ls lines n o p e h = subst (LeadsOrEnds f root s ls lines n) e h

pub ends-at : (f : Nameless → Option Nameless) (root : Nameless) (s : State) (ls : List Level) (lines : Lines) (n : ℕ) (o : Option Place) → o ≡ None → LeadsOrEnds f root s ls lines n o
    → Equates s n root (everywhere f root)
ends-at f root s ls lines n o e h = subst (LeadsOrEnds f root s ls lines n) e h

pub some-less : (ns : List Node) (ls : List Level) (o : Option Place) (p : Place) (m : ℕ) → o ≡ Some p → IfSome o (λ q. moves_left ns ls q < m) → moves_left ns ls p < m
some-less ns ls o p m e h = subst (λ (r : Option Place). IfSome r (λ q. moves_left ns ls q < m)) e h
