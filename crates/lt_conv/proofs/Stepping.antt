-- Equations on the way to a normal form.
use Rattle.std.proofs.Common.{◌≡◌, ℕ, ◌<◌, [], length, is_some, true, Some, None, Ok, false, ◌∷◌, sym, ◌∙◌, ap, subst}
use Rattle.lt_definitions.specs.Types.{Chars, TypeTree, fun}
use Rattle.lt_definitions.specs.Typing.{type_fault, unless}
use Rattle.lt_nameless.specs.Nameless.{Nameless, nameless_free, nameless_application, nameless_abstraction}
use Rattle.lt_nameless.specs.NamelessRules.{nameless_beta, nameless_has_free, instance_at, abstracted}
use Rattle.lt_nameless.proofs.ClosedSteps.{typed-whole}
use Rattle.lt_store.specs.Trees.{tree_at}
use Rattle.lt_store.specs.Typed.{IsTyped}
use Rattle.lt_kernel.specs.State.{State}
use Rattle.lt_programs.specs.TypedTerms.{IsOfType}
use Rattle.lt_programs.proofs.TypedTermLemmas.{application-of, application-parts, abstraction-of, of-sound}
use Rattle.lt_reductions.proofs.Placing.{opened-closed}
use Rattle.lt_kernel.specs.Growing.{Carries}
use Rattle.lt_derived.specs.Equations.{Equates, Stands, IsEquation, Meet, Apply}
use Rattle.lt_conv.specs.Conversions.{IsApplied, IsUnder, IsRedexAt, Joins, Shuts, IsOpened}
use Rattle.lt_derived.proofs.EquationLemmas.{equates-kept, stands-sound, stands-typed, of-kept}

abbrev pub as_equation : {s : State} {n : ℕ} {l r : Nameless} → Equates s n l r → IsEquation s n
as_equation {l = l} {r = r} h = record { from = l; to = r; holds = h }

-- ---- a redex

abbrev redex : {s : State} {i : ℕ} → IsRedexAt s i → Nameless
redex q = nameless_application (nameless_abstraction q.ty q.b) q.a

module _ (s0 : State) (i m : ℕ) (q : IsRedexAt s0 i) (st : (p : IsEquation s0 i) → Stands s0 m p.to) where
  pub redex-stands : Stands s0 m (nameless_application (nameless_abstraction q.ty q.b) q.a)
  redex-stands = st (as_equation q.holds)

  pub redex-sound : IsTyped s0.signature s0.nodes m
  redex-sound = stands-sound s0 i m q.from (redex q) q.holds redex-stands

  pub redex-is : is_some (nameless_beta (tree_at s0.nodes m)) ≡ true
  redex-is = ap (λ t. is_some (nameless_beta t)) redex-stands.is

  abbrev pub reduce-meets : (s1 : State) (n : ℕ) → Carries s0 s1 → ((r : Nameless) → nameless_beta (tree_at s0.nodes m) ≡ Some r → Equates s1 n (tree_at s0.nodes m) r) → Meet s1 i n
  reduce-meets s1 n c k = record {
    from = q.from;
    middle = redex q;
    to = instance_at 0 q.a q.b;
    first = equates-kept s0 s1 i q.from (redex q) c q.holds;
    second = subst (λ (t : Nameless). Equates s1 n t (instance_at 0 q.a q.b)) redex-stands.is (k (instance_at 0 q.a q.b) (ap nameless_beta redex-stands.is));
  }

-- ---- parts

module _ (s : State) (i id : ℕ) (q : IsApplied s i) where
  pub function-sound : Stands s id q.f → IsTyped s.signature s.nodes id
  function-sound h = let p = application-parts s.signature q.f q.a q.holds.ty q.holds.right in
      stands-typed s id q.f (fun p.0 q.holds.ty) h p.1

  pub argument-sound : Stands s id q.a → IsTyped s.signature s.nodes id
  argument-sound h = let p = application-parts s.signature q.f q.a q.holds.ty q.holds.right in
      stands-typed s id q.a p.0 h p.2

pub self-equates : (s now : State) (id n : ℕ) (t : Nameless) → Stands s id t → Equates now n (tree_at s.nodes id) (tree_at s.nodes id) → Equates now n t t
self-equates s now id n t h k = subst (λ (u : Nameless). Equates now n u u) h.is k

-- ---- joined

abbrev pub join-applies : {s : State} {e k n : ℕ} → Joins s e k n → Apply s k n
join-applies {s = s} q = record {
  f = q.f;
  g = q.g;
  a = q.a;
  b = q.c;
  functions = q.function;
  arguments = q.argument;
  typed = of-sound s.signature (nameless_application q.f q.a) q.whole.ty q.whole.right;
}

abbrev pub join-meets : (s0 s1 : State) (e k n m : ℕ) (q : Joins s0 e k n) → Carries s0 s1 → Equates s1 m (nameless_application q.f q.a) (nameless_application q.g q.c) → Meet s1 e m
join-meets s0 s1 e k n m q c h = record {
  from = q.from;
  middle = nameless_application q.f q.a;
  to = nameless_application q.g q.c;
  first = equates-kept s0 s1 e q.from (nameless_application q.f q.a) c q.whole;
  second = h;
}

-- ---- shut

pub shut-type : (s : State) (e : ℕ) (x : Chars) (ty : TypeTree) (n : ℕ) → Shuts s e x ty n → type_fault s.signature ty ≡ None
shut-type s e x ty n q = (abstraction-of s.signature ty q.b q.whole.ty q.whole.right).1

pub shut-same : (s : State) (e : ℕ) (x : Chars) (ty : TypeTree) (n : ℕ) (q : Shuts s e x ty n) → abstracted 0 x ty (instance_at 0 (nameless_free x ty) q.b) ≡ q.b
shut-same s e x ty n q = let h = abstraction-of s.signature ty q.b q.whole.ty q.whole.right in opened-closed 0 x ty q.b q.new (typed-whole s.signature (ty ∷ []) q.b h.0 h.2)

abbrev pub shut-meets : (s0 s1 : State) (e : ℕ) (x : Chars) (ty : TypeTree) (n m : ℕ) (q : Shuts s0 e x ty n) → Carries s0 s1
    → Equates s1 m (nameless_abstraction ty (abstracted 0 x ty (instance_at 0 (nameless_free x ty) q.b))) (nameless_abstraction ty (abstracted 0 x ty q.c)) → Meet s1 e m
shut-meets s0 s1 e x ty n m q c h = record {
  from = q.from;
  middle = nameless_abstraction ty q.b;
  to = nameless_abstraction ty (abstracted 0 x ty q.c);
  first = equates-kept s0 s1 e q.from (nameless_abstraction ty q.b) c q.whole;
  second = subst (λ (b : Nameless). Equates s1 m (nameless_abstraction ty b) (nameless_abstraction ty (abstracted 0 x ty q.c))) (shut-same s0 e x ty n q) h;
}

-- ---- a body opened by a new variable

module _ (s0 s1 : State) (i t r : ℕ) (x : Chars) (ty : TypeTree) (q : IsUnder s0 i) (st : (e : IsEquation s0 i) → Stands s0 t e.to) (same : ty ≡ q.ty) (c1 : Carries s0 s1)
    (made : Stands s1 r (nameless_application (tree_at s0.nodes t) (nameless_free x ty))) where
  abbrev pub variable_redex : Nameless
  variable_redex = nameless_application (nameless_abstraction q.ty q.b) (nameless_free x q.ty)

  abbrev pub variable_body : Nameless
  variable_body = instance_at 0 (nameless_free x q.ty) q.b

  pub redex-made : Stands s1 r variable_redex
  redex-made = record { within = made.within; is = made.is ∙ (λ j. nameless_application ((st (as_equation q.holds)).is j) (nameless_free x (same j))) }

  redex-of : (v : TypeTree) × IsOfType s0.signature variable_redex v
  redex-of =
      let h = abstraction-of s0.signature q.ty q.b q.holds.ty q.holds.right in
      (h.0, application-of s0.signature (nameless_abstraction q.ty q.b) (nameless_free x q.ty) q.ty h.0 (q.holds.right ∙ ap (λ (v : TypeTree). Ok v) (sym h.3)) (ap (λ o. unless o (Ok q.ty)) h.1))

  pub variable-sound : IsTyped s1.signature s1.nodes r
  variable-sound = stands-typed s1 r variable_redex redex-of.0 redex-made (of-kept s0 s1 variable_redex redex-of.0 c1 redex-of.1)

  pub variable-redex : is_some (nameless_beta (tree_at s1.nodes r)) ≡ true
  variable-redex = ap (λ t. is_some (nameless_beta t)) redex-made.is

  module _ (s2 : State) (n : ℕ) (line : (v : Nameless) → nameless_beta (tree_at s1.nodes r) ≡ Some v → Equates s2 n (tree_at s1.nodes r) v) where
    abbrev pub place-equation : IsEquation s2 n
    place-equation = record { from = tree_at s1.nodes r; to = variable_body; holds = line variable_body (ap nameless_beta redex-made.is) }

    module _ (p : ℕ) (there : (e : IsEquation s2 n) → Stands s2 p e.to) where
      pub place-stands : Stands s2 p variable_body
      place-stands = there place-equation

      pub place-sound : IsTyped s2.signature s2.nodes p
      place-sound = stands-sound s2 n p place-equation.from variable_body place-equation.holds place-stands

      pub body-opened : (s3 : State) (m body floor : ℕ) → floor < length x → Equates s3 m (tree_at s2.nodes p) (tree_at s2.nodes p) → Stands s0 body q.b → ((u : TypeTree) → nameless_has_free x u (tree_at s0.nodes body) ≡ false)
          → IsOpened s3 q.ty q.b m floor x ty
      body-opened s3 m body floor long k b fresh = record {
        same = same;
        new = subst (λ (w : Nameless). nameless_has_free x q.ty w ≡ false) b.is (fresh q.ty);
        long = long;
        line = self-equates s2 s3 p m variable_body place-stands k;
      }
