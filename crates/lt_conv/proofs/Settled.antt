-- Nodes whose parts were converted.
use Rattle.std.proofs.Common.{◌≡◌, ℕ, ◌<◌, List, [], ◌∷◌, length, false, Ok, Option, Some, None, sym, ◌∙◌, ap, subst}
use Rattle.lt_definitions.specs.Types.{Chars, TypeTree}
use Rattle.lt_definitions.specs.Typing.{type_fault, unless}
use Rattle.lt_definitions.proofs.TypingLemmas.{typed-some}
use Rattle.lt_nameless.specs.Nameless.{Nameless, nameless_free, nameless_application, nameless_abstraction}
use Rattle.lt_nameless.specs.NamelessRules.{nameless_typed, nameless_fault, nameless_has_free, instance_at, abstracted}
use Rattle.lt_nameless.proofs.ClosedSteps.{typed-whole}
use Rattle.lt_store.specs.Trees.{tree_at}
use Rattle.lt_store.specs.Typed.{IsTyped}
use Rattle.lt_store.proofs.TreeLemmas.{tree_at-extends}
use Rattle.lt_kernel.specs.State.{State, statements}
use Rattle.lt_kernel.specs.Growing.{Carries}
use Rattle.lt_kernel.proofs.GrowingLemmas.{carries-grows}
use Rattle.lt_programs.specs.TypedTerms.{IsOfType}
use Rattle.lt_programs.proofs.TypedTermLemmas.{abstraction-of, opened-of}
use Rattle.lt_reductions.proofs.Placing.{opened-closed}
use Rattle.lt_derived.specs.Equations.{Equates, Stands, IsEquation, Meet, Apply}
use Rattle.lt_derived.proofs.EquationLemmas.{equates-kept, of-kept, stands-typed}
use Rattle.lt_derived.proofs.Repeated.{still-typed}
use Rattle.lt_conv.specs.Conversions.{Converts}
use Rattle.lt_conv.specs.Everywhere.{new_name, or_itself, settled, everywhere}
use Rattle.lt_conv.specs.Places.{IsBodyOf}
use Rattle.lt_conv.specs.Settling.{HasParts, HasBody}
use Rattle.lt_conv.proofs.Converting.{converted, not-converted, at-line}
use Rattle.lt_conv.proofs.EverywhereLemmas.{everywhere-application, everywhere-abstraction}

pub still-named : (s0 s1 : State) (named : List (Chars × Nameless)) → Carries s0 s1 → statements s0 ≡ named → statements s1 ≡ named
still-named s0 s1 named c e = let g = carries-grows s0 s1 c in g.stays.statements ∙ e

-- ---- what is given for a right side

module _ (s0 s1 : State) (gives : List (Chars × Nameless) → Nameless → Option Nameless) (i m : ℕ) (named : List (Chars × Nameless)) (same : statements s0 ≡ named)
    (q : IsEquation s0 i) (st : (e : IsEquation s0 i) → Stands s0 m e.to) (c1 : Carries s0 s1) (o : Option ℕ)
    (h : Converts s1 (tree_at s0.nodes m) (gives (statements s0) (tree_at s0.nodes m)) o) where
  given : Converts s1 q.to (gives named q.to) o
  given = subst (λ (n : List (Chars × Nameless)). Converts s1 q.to (gives n q.to) o) same
      (subst (λ (u : Nameless). Converts s1 u (gives (statements s0) u) o) ((st q).is) h)

  pub settled-none : o ≡ None → Equates s1 i q.from (settled (gives named) q.to)
  settled-none e =
      let none = not-converted s1 q.to (gives named q.to) (at-line s1 q.to (gives named q.to) o None given e) in
      subst (λ (r : Nameless). Equates s1 i q.from r) (sym (ap (or_itself q.to) none)) (equates-kept s0 s1 i q.from q.to c1 q.holds)

  module _ (k : ℕ) (e : o ≡ Some k) where
    pub second : (r : Nameless) × (gives named q.to ≡ Some r) × Equates s1 k q.to r
    second = converted s1 q.to (gives named q.to) k (at-line s1 q.to (gives named q.to) o (Some k) given e)

    abbrev pub settled-meets : Meet s1 i k
    settled-meets = record { from = q.from; middle = q.to; to = second.0; first = equates-kept s0 s1 i q.from q.to c1 q.holds; second = second.2 }

    pub settled-some : (s2 : State) (n : ℕ) → ((w : Meet s1 i k) → Equates s2 n w.from w.to) → Equates s2 n q.from (settled (gives named) q.to)
    settled-some s2 n w = subst (λ (r : Nameless). Equates s2 n q.from r) (sym (ap (or_itself q.to) second.1)) (w settled-meets)

-- ---- applications

abbrev pub parts-apply : {gives : List (Chars × Nameless) → Nameless → Option Nameless} {s : State} {id k n : ℕ} → HasParts gives s id k n → Apply s k n
parts-apply {gives = gives} {s = s} q = record {
  f = q.g;
  g = everywhere (gives q.named) q.g;
  a = q.a;
  b = everywhere (gives q.named) q.a;
  functions = q.head;
  arguments = q.argument;
  typed = sym (ap (nameless_fault s.signature) q.is) ∙ q.typed.typed;
}

abbrev pub parts-equation : {gives : List (Chars × Nameless) → Nameless → Option Nameless} {s : State} {id k n : ℕ} (q : HasParts gives s id k n) (s1 : State) (m : ℕ)
    → ((w : Apply s k n) → Equates s1 m (nameless_application w.f w.a) (nameless_application w.g w.b)) → IsEquation s1 m
parts-equation {gives = gives} q s1 m h = record {
  from = nameless_application q.g q.a;
  to = nameless_application (everywhere (gives q.named) q.g) (everywhere (gives q.named) q.a);
  holds = h (parts-apply q);
}

pub parts-settled : (gives : List (Chars × Nameless) → Nameless → Option Nameless) (s : State) (id k n : ℕ) (q : HasParts gives s id k n) (s2 : State) (m : ℕ)
    → Equates s2 m (nameless_application q.g q.a) (settled (gives q.named) (nameless_application (everywhere (gives q.named) q.g) (everywhere (gives q.named) q.a)))
    → Equates s2 m (tree_at s.nodes id) (everywhere (gives q.named) (tree_at s.nodes id))
parts-settled gives s id k n q s2 m h =
    subst (λ (t : Nameless). Equates s2 m t (everywhere (gives q.named) t)) (sym q.is)
    (subst (λ (r : Nameless). Equates s2 m (nameless_application q.g q.a) r) (sym (everywhere-application (gives q.named) q.g q.a)) h)

-- ---- abstractions

module _ (s : State) (id : ℕ) (x : Chars) (ty : TypeTree) (t : Nameless) (q : IsBodyOf s id x ty t) where
  body-typed : (v : TypeTree) × (type_fault s.signature ty ≡ None) × (nameless_typed s.signature (ty ∷ []) q.b ≡ Ok v)
  body-typed =
      let u = typed-some (nameless_typed s.signature [] (nameless_abstraction ty q.b)) (sym (ap (nameless_fault s.signature) q.is) ∙ q.typed.typed) in
      let p = abstraction-of s.signature ty q.b u.0 u.1 in
      (p.0, p.1, p.2)

  pub body-type : type_fault s.signature ty ≡ None
  body-type = body-typed.1

  closed-is : abstracted 0 x ty t ≡ q.b
  closed-is = ap (abstracted 0 x ty) q.opened ∙ opened-closed 0 x ty q.b q.new (typed-whole s.signature (ty ∷ []) q.b body-typed.0 body-typed.2)

  pub abstraction-is : nameless_abstraction ty (abstracted 0 x ty t) ≡ tree_at s.nodes id
  abstraction-is = ap (nameless_abstraction ty) closed-is ∙ sym q.is

  pub closed-everywhere : (f : Nameless → Option Nameless) → settled f (nameless_abstraction ty (abstracted 0 x ty (everywhere f t))) ≡ everywhere f (tree_at s.nodes id)
  closed-everywhere f =
      ap (λ u. settled f (nameless_abstraction ty (abstracted 0 x ty (everywhere f u)))) q.opened
      ∙ ap (λ y. settled f (nameless_abstraction ty (abstracted 0 y ty (everywhere f (instance_at 0 (nameless_free y ty) q.b))))) q.name
      ∙ sym (everywhere-abstraction f ty q.b) ∙ ap (everywhere f) (sym q.is)

abbrev pub body-equation : {gives : List (Chars × Nameless) → Nameless → Option Nameless} {s : State} {id : ℕ} {x : Chars} {ty : TypeTree} {n : ℕ} → HasBody gives s id x ty n → IsEquation s n
body-equation {gives = gives} q = record { from = q.t; to = everywhere (gives q.named) q.t; holds = q.line }

abbrev pub closed-equation : {gives : List (Chars × Nameless) → Nameless → Option Nameless} {s : State} {id : ℕ} {x : Chars} {ty : TypeTree} {n : ℕ} (q : HasBody gives s id x ty n) (s1 : State) (m : ℕ)
    → ((w : IsEquation s n) → Equates s1 m (nameless_abstraction ty (abstracted 0 x ty w.from)) (nameless_abstraction ty (abstracted 0 x ty w.to))) → IsEquation s1 m
closed-equation {gives = gives} {x = x} {ty = ty} q s1 m h = record {
  from = nameless_abstraction ty (abstracted 0 x ty q.t);
  to = nameless_abstraction ty (abstracted 0 x ty (everywhere (gives q.named) q.t));
  holds = h (body-equation q);
}

pub body-settled : (gives : List (Chars × Nameless) → Nameless → Option Nameless) (s : State) (id : ℕ) (x : Chars) (ty : TypeTree) (n : ℕ) (q : HasBody gives s id x ty n) (s2 : State) (m : ℕ)
    → Equates s2 m (nameless_abstraction ty (abstracted 0 x ty q.t)) (settled (gives q.named) (nameless_abstraction ty (abstracted 0 x ty (everywhere (gives q.named) q.t))))
    → Equates s2 m (tree_at s.nodes id) (everywhere (gives q.named) (tree_at s.nodes id))
body-settled gives s id x ty n q s2 m h =
    subst (λ (l : Nameless). Equates s2 m l (everywhere (gives q.named) (tree_at s.nodes id))) (abstraction-is s id x ty q.t q.body)
    (subst (λ (r : Nameless). Equates s2 m (nameless_abstraction ty (abstracted 0 x ty q.t)) r) (closed-everywhere s id x ty q.t q.body (gives q.named)) h)

-- ---- a body that is opened

module _ (s0 s1 s2 : State) (id body variable r : ℕ) (x : Chars) (ty : TypeTree) (typed : IsTyped s0.signature s0.nodes id) (within : body < length s0.nodes)
    (is : tree_at s0.nodes id ≡ nameless_abstraction ty (tree_at s0.nodes body)) (least : x ≡ new_name (tree_at s0.nodes body)) (new : (u : TypeTree) → nameless_has_free x u (tree_at s0.nodes body) ≡ false)
    (c1 : Carries s0 s1) (c2 : Carries s1 s2) (free : tree_at s1.nodes variable ≡ nameless_free x ty)
    (made : r < length s2.nodes) (opened : tree_at s2.nodes r ≡ instance_at 0 (tree_at s1.nodes variable) (tree_at s1.nodes body)) where
  opened-is : tree_at s2.nodes r ≡ instance_at 0 (nameless_free x ty) (tree_at s0.nodes body)
  opened-is = let g = carries-grows s0 s1 c1 in
      opened ∙ (λ i. instance_at 0 (free i) (tree_at-extends s0.nodes s1.nodes body g.stays.nodes within i))

  c : Carries s0 s2
  c first h = c2 first (c1 first h)

  pub opened-body : IsBodyOf s2 id x ty (tree_at s2.nodes r)
  opened-body = let g = carries-grows s0 s2 c in record {
    typed = still-typed s0 s2 id c typed;
    b = tree_at s0.nodes body;
    is = tree_at-extends s0.nodes s2.nodes id g.stays.nodes typed.within ∙ is;
    name = least;
    new = new ty;
    opened = opened-is;
  }

  pub opened-typed : IsTyped s2.signature s2.nodes r
  opened-typed =
      let u = typed-some (nameless_typed s0.signature [] (nameless_abstraction ty (tree_at s0.nodes body))) (sym (ap (nameless_fault s0.signature) is) ∙ typed.typed) in
      let p = abstraction-of s0.signature ty (tree_at s0.nodes body) u.0 u.1 in
      let variable-typed : IsOfType s0.signature (nameless_free x ty) ty = ap (λ o. unless o (Ok ty)) p.1 in
      let k = opened-of s0.signature ty p.0 (tree_at s0.nodes body) (nameless_free x ty) p.2 variable-typed in
      stands-typed s2 r (instance_at 0 (nameless_free x ty) (tree_at s0.nodes body)) p.0 (record { within = made; is = opened-is })
      (of-kept s0 s2 (instance_at 0 (nameless_free x ty) (tree_at s0.nodes body)) p.0 c k)
