-- Rules over lines that equate terms.
use Rattle.std.proofs.Common.{◌≡◌, ℕ, ◌<◌, [], ◌∷◌, length, codes, is_ok, is_some, true, Option, Ok, Some, None, refl, sym, ◌∙◌, ap, subst, arith}
use Rattle.std.specs.Option.{option_map}
use Rattle.std.specs.Result.{result_unwrap_or}
use Rattle.lt_definitions.specs.Types.{Chars, TypeTree, bool, fun}
use Rattle.lt_definitions.specs.Typing.{Signature, type_fault}
use Rattle.lt_definitions.specs.Rules.{line_at, joined_type}
use Rattle.lt_definitions.proofs.RuleLemmas.{found-on}
use Rattle.lt_definitions.proofs.TypingLemmas.{typed-some, joined-fun}
use Rattle.lt_nameless.specs.Nameless.{Nameless, nameless_constant, nameless_application, nameless_abstraction}
use Rattle.lt_nameless.specs.NamelessRules.{NamelessOutcome, nameless_typed, nameless_fault, nameless_equation, nameless_beta, abstracted, nameless_refl_gives, nameless_beta_gives, nameless_sym_gives, nameless_trans_gives, nameless_cong_gives, nameless_abs_gives}
use Rattle.lt_nameless.proofs.SameForms.{same-refl}
use Rattle.lt_nameless.proofs.NamelessRuleLemmas.{sym-gives, trans-gives, cong-gives, abs-gives}
use Rattle.lt_store.specs.Trees.{tree_at}
use Rattle.lt_store.specs.Typed.{IsTyped}
use Rattle.lt_store.proofs.TreeLemmas.{tree_at-extends}
use Rattle.lt_kernel.specs.State.{State, sequents}
use Rattle.lt_kernel.specs.Growing.{Carries}
use Rattle.lt_kernel.specs.Reaching.{IsGiven}
use Rattle.lt_kernel.proofs.GrowingLemmas.{carries-grows}
use Rattle.lt_kernel.proofs.ReachingLemmas.{reached-line}
use Rattle.lt_programs.specs.Programs.{theorem}
use Rattle.lt_programs.specs.TypedTerms.{IsOfType}
use Rattle.lt_programs.proofs.TypedTermLemmas.{application-parts, application-of, beta-typed, closed-of, of-sound, ok-same}
use Rattle.lt_derived.specs.Equations.{Equates, Stands, IsEquation, Meet, Apply}

-- ---- what stays

pub of-kept : (old new : State) (t : Nameless) (ty : TypeTree) → Carries old new → IsOfType old.signature t ty → IsOfType new.signature t ty
of-kept old new t ty c e = let g = carries-grows old new c in ap (λ sig. nameless_typed sig [] t) g.stays.signature ∙ e

pub equates-kept : (old new : State) (n : ℕ) (l r : Nameless) → Carries old new → Equates old n l r → Equates new n l r
equates-kept old new n l r c h = let g = carries-grows old new c in record {
  ty = h.ty;
  line = g.lines n (theorem (nameless_equation h.ty l r)) h.line;
  left = of-kept old new l h.ty c h.left;
  right = of-kept old new r h.ty c h.right;
}

pub stands-kept : (old new : State) (id : ℕ) (t : Nameless) → Carries old new → Stands old id t → Stands new id t
stands-kept old new id t c h =
    let g = carries-grows old new c in
    let more = g.stays.nodes.grows in
    let w = h.within in
    record { within = omega (arith, more, w); is = tree_at-extends old.nodes new.nodes id g.stays.nodes h.within ∙ h.is }

one-type : (sig : Signature) (t : Nameless) (u v : TypeTree) → IsOfType sig t u → IsOfType sig t v → u ≡ v
one-type sig t u v e d = ok-same u v (nameless_typed sig [] t) e d

-- ---- a line that was added

pub given-equates : (old new : State) (o : NamelessOutcome) (n : ℕ) (ty : TypeTree) (l r : Nameless) → Carries old new → IsGiven new n o
    → o ≡ Ok (theorem (nameless_equation ty l r)) → IsOfType old.signature l ty → IsOfType old.signature r ty → Equates new n l r
given-equates old new o n ty l r c a e p q = record {
  ty = ty;
  line = reached-line new n o (theorem (nameless_equation ty l r)) a e;
  left = of-kept old new l ty c p;
  right = of-kept old new r ty c q;
}

module _ (old : State) where
  pub refl-equates : (new : State) (n : ℕ) (t : Nameless) → Carries old new → nameless_fault old.signature t ≡ None
      → IsGiven new n (nameless_refl_gives old.signature t) → Equates new n t t
  refl-equates new n t c h a =
      let u = typed-some (nameless_typed old.signature [] t) h in
      given-equates old new (nameless_refl_gives old.signature t) n u.0 t t c a
      (ap (λ r. Ok (theorem (nameless_equation (result_unwrap_or r bool) t t))) u.1) u.1 u.1

  beta-is : (t r : Nameless) (u : TypeTree) → IsOfType old.signature t u → nameless_beta t ≡ Some r
      → nameless_beta_gives old.signature t ≡ Ok (theorem (nameless_equation u t r))
  beta-is t r u h e =
      found-on _ (nameless_beta t) r _ e ∙ ap (λ w. Ok (theorem (nameless_equation (result_unwrap_or w bool) t r))) h

  pub beta-equates : (new : State) (n : ℕ) (t r : Nameless) → Carries old new → nameless_fault old.signature t ≡ None → nameless_beta t ≡ Some r
      → IsGiven new n (nameless_beta_gives old.signature t) → Equates new n t r
  beta-equates new n t r c h e a =
      let u = typed-some (nameless_typed old.signature [] t) h in
      given-equates old new (nameless_beta_gives old.signature t) n u.0 t r c a (beta-is t r u.0 u.1 e) u.1 (beta-typed old.signature t r u.0 e u.1)

  pub beta-sure : (t : Nameless) → nameless_fault old.signature t ≡ None → is_some (nameless_beta t) ≡ true → is_ok (nameless_beta_gives old.signature t) ≡ true
  beta-sure t h e =
      let u = typed-some (nameless_typed old.signature [] t) h in
      by (nameless_beta t) refl e
    where
      by : (o : Option Nameless) → nameless_beta t ≡ o → is_some o ≡ true → is_ok (nameless_beta_gives old.signature t) ≡ true
      by (Some r) d q = ap is_ok (found-on _ (nameless_beta t) r _ d)
      by None d q = absurd (cc q)

  sym-is : (i : ℕ) (q : IsEquation old i) → nameless_sym_gives (sequents old) i ≡ Ok (theorem (nameless_equation q.holds.ty q.to q.from))
  sym-is i q = sym-gives (sequents old) i (theorem (nameless_equation q.holds.ty q.from q.to)) q.holds.line q.holds.ty q.from q.to refl

  pub sym-sure : (i : ℕ) → IsEquation old i → is_ok (nameless_sym_gives (sequents old) i) ≡ true
  sym-sure i q = ap is_ok (sym-is i q)

  pub sym-equates : (new : State) (n i : ℕ) → Carries old new → (q : IsEquation old i) → IsGiven new n (nameless_sym_gives (sequents old) i) → Equates new n q.to q.from
  sym-equates new n i c q a = given-equates old new (nameless_sym_gives (sequents old) i) n q.holds.ty q.to q.from c a (sym-is i q) q.holds.right q.holds.left

  trans-is : (i j : ℕ) (q : Meet old i j) → nameless_trans_gives (sequents old) i j ≡ Ok (theorem (nameless_equation q.first.ty q.from q.to))
  trans-is i j q = trans-gives (sequents old) i j (theorem (nameless_equation q.first.ty q.from q.middle)) (theorem (nameless_equation q.second.ty q.middle q.to))
      q.first.line q.second.line q.first.ty q.from q.middle q.second.ty q.middle q.to refl refl (same-refl q.middle)

  pub trans-sure : (i j : ℕ) → Meet old i j → is_ok (nameless_trans_gives (sequents old) i j) ≡ true
  trans-sure i j q = ap is_ok (trans-is i j q)

  pub trans-equates : (new : State) (n i j : ℕ) → Carries old new → (q : Meet old i j) → IsGiven new n (nameless_trans_gives (sequents old) i j) → Equates new n q.from q.to
  trans-equates new n i j c q a =
      let same = one-type old.signature q.middle q.second.ty q.first.ty q.second.left q.first.right in
      given-equates old new (nameless_trans_gives (sequents old) i j) n q.first.ty q.from q.to c a (trans-is i j q) q.first.left
      (subst (IsOfType old.signature q.to) same q.second.right)

  cong-is : (i j : ℕ) (q : Apply old i j) → (v : TypeTree)
      × (nameless_cong_gives (sequents old) i j ≡ Ok (theorem (nameless_equation v (nameless_application q.f q.a) (nameless_application q.g q.b))))
      × IsOfType old.signature (nameless_application q.f q.a) v × IsOfType old.signature (nameless_application q.g q.b) v
  cong-is i j q =
      let sig = old.signature in
      let u = typed-some (nameless_typed sig [] (nameless_application q.f q.a)) q.typed in
      let p = application-parts sig q.f q.a u.0 u.1 in
      let ft : q.functions.ty ≡ fun p.0 u.0 = one-type sig q.f q.functions.ty (fun p.0 u.0) q.functions.left p.1 in
      let at : q.arguments.ty ≡ p.0 = one-type sig q.a q.arguments.ty p.0 q.arguments.left p.2 in
      let joined : joined_type q.functions.ty q.arguments.ty ≡ Some u.0 = (λ k. joined_type (ft k) (at k)) ∙ joined-fun p.0 u.0 in (
        u.0,
        cong-gives (sequents old) i j (theorem (nameless_equation q.functions.ty q.f q.g)) (theorem (nameless_equation q.arguments.ty q.a q.b))
            q.functions.line q.arguments.line q.functions.ty q.f q.g q.arguments.ty q.a q.b u.0 refl refl joined,
        u.1,
        application-of sig q.g q.b p.0 u.0 (subst (IsOfType sig q.g) ft q.functions.right) (subst (IsOfType sig q.b) at q.arguments.right),
      )

  pub cong-sure : (i j : ℕ) → Apply old i j → is_ok (nameless_cong_gives (sequents old) i j) ≡ true
  cong-sure i j q = let v = cong-is i j q in ap is_ok v.1

  pub cong-equates : (new : State) (n i j : ℕ) → Carries old new → (q : Apply old i j) → IsGiven new n (nameless_cong_gives (sequents old) i j)
      → Equates new n (nameless_application q.f q.a) (nameless_application q.g q.b)
  cong-equates new n i j c q a = let v = cong-is i j q in
      given-equates old new (nameless_cong_gives (sequents old) i j) n v.0 (nameless_application q.f q.a) (nameless_application q.g q.b) c a v.1 v.2 v.3

  abs-is : (x : Chars) (ty : TypeTree) (i : ℕ) (q : IsEquation old i)
      → nameless_abs_gives (sequents old) x ty i ≡ Ok (theorem (nameless_equation (fun ty q.holds.ty)
      (nameless_abstraction ty (abstracted 0 x ty q.from)) (nameless_abstraction ty (abstracted 0 x ty q.to))))
  abs-is x ty i q = abs-gives (sequents old) i (theorem (nameless_equation q.holds.ty q.from q.to)) q.holds.line x ty q.holds.ty q.from q.to refl refl

  pub abs-sure : (x : Chars) (ty : TypeTree) (i : ℕ) → IsEquation old i → is_ok (nameless_abs_gives (sequents old) x ty i) ≡ true
  abs-sure x ty i q = ap is_ok (abs-is x ty i q)

  pub abs-equates : (new : State) (n : ℕ) (x : Chars) (ty : TypeTree) (i : ℕ) → Carries old new → type_fault old.signature ty ≡ None → (q : IsEquation old i)
      → IsGiven new n (nameless_abs_gives (sequents old) x ty i)
      → Equates new n (nameless_abstraction ty (abstracted 0 x ty q.from)) (nameless_abstraction ty (abstracted 0 x ty q.to))
  abs-equates new n x ty i c h q a =
      given-equates old new (nameless_abs_gives (sequents old) x ty i) n (fun ty q.holds.ty)
      (nameless_abstraction ty (abstracted 0 x ty q.from)) (nameless_abstraction ty (abstracted 0 x ty q.to)) c a (abs-is x ty i q)
      (closed-of old.signature x ty q.from q.holds.ty h q.holds.left) (closed-of old.signature x ty q.to q.holds.ty h q.holds.right)

-- ---- sides

pub stands-sound : (s : State) (n id : ℕ) (l r : Nameless) → Equates s n l r → Stands s id r → IsTyped s.signature s.nodes id
stands-sound s n id l r h k = record {
  within = k.within;
  typed = ap (nameless_fault s.signature) k.is ∙ of-sound s.signature r h.ty h.right;
}

-- there is a line
pub equation-there : (s : State) (n : ℕ) → IsEquation s n → is_some (line_at (sequents s) n) ≡ true
equation-there s n q = ap is_some q.holds.line

-- its conclusion
pub equation-concl : (s : State) (n : ℕ) (q : IsEquation s n) (t : Nameless) → option_map (λ v. v.concl) (line_at (sequents s) n) ≡ Some t
    → t ≡ nameless_equation q.holds.ty q.from q.to
equation-concl s n q t e = same-concl (sym e ∙ ap (option_map (λ v. v.concl)) q.holds.line)
  where
    same-concl : Some t ≡ Some (nameless_equation q.holds.ty q.from q.to) → t ≡ nameless_equation q.holds.ty q.from q.to
    same-concl d = cc d

-- a term that has a type
pub stands-typed : (s : State) (id : ℕ) (t : Nameless) (ty : TypeTree) → Stands s id t → IsOfType s.signature t ty → IsTyped s.signature s.nodes id
stands-typed s id t ty k e = record { within = k.within; typed = ap (nameless_fault s.signature) k.is ∙ of-sound s.signature t ty e }

-- the right side of a line
pub right-stands : (s : State) (n concl f to : ℕ) (q : IsEquation s n) → option_map (λ v. v.concl) (line_at (sequents s) n) ≡ Some (tree_at s.nodes concl)
    → to < length s.nodes → tree_at s.nodes concl ≡ nameless_application (tree_at s.nodes f) (tree_at s.nodes to) → Stands s to q.to
right-stands s n concl f to q e w d = record {
  within = w;
  is = argument (tree_at s.nodes f) (tree_at s.nodes to) (nameless_application (nameless_constant (codes "eq") (q.holds.ty ∷ [])) q.from) q.to
      (sym d ∙ equation-concl s n q (tree_at s.nodes concl) e);
}
  where
    argument : (f a g b : Nameless) → nameless_application f a ≡ nameless_application g b → a ≡ b
    argument f a g b h = cc h
