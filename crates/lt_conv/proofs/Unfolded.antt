-- Constants unfolded by named equations.
use Rattle.std.proofs.Common.{◌≡◌, ℕ, ◌<◌, List, [], ◌∷◌, length, map, codes, is_some, Bool, true, false, if◌then◌else◌, nat_eq, Ok, Err, Option, Some, None, refl, sym, ◌∙◌, ap, subst}
use Rattle.std.specs.Option.{option_map}
use Rattle.std.proofs.lemmas.Bool.{cond-true, cond-false}
use Rattle.std.proofs.lemmas.Option.{same_Some}
use Rattle.lt_definitions.specs.Types.{Chars, same_name, found, TypeTree, TypeMap, type_variable, type_constructor, bool, fun, row, type_variables, type_instance}
use Rattle.lt_definitions.specs.Typing.{Signature, Fault, type_args, built_in, at_types, constant_type, unless, types_fault}
use Rattle.lt_definitions.specs.declared.reason.Reason.{Reason}
use Rattle.lt_definitions.specs.declared.reason.Reason.TheVariants.{UnknownLabel}
use Rattle.lt_definitions.specs.Rules.{line_at, with_found}
use Rattle.lt_definitions.specs.Derivations.{IsPartOf}
use Rattle.lt_definitions.proofs.RuleLemmas.{some-if}
use Rattle.lt_definitions.proofs.SameNames.{name-true}
use Rattle.lt_definitions.proofs.TypingLemmas.{typed-some}
use Rattle.lt_nameless.specs.Nameless.{Nameless, nameless_constant, nameless_application}
use Rattle.lt_nameless.specs.NamelessRules.{nameless_typed, nameless_fault, nameless_equation, nameless_as_equation, nameless_instance, nameless_thm_gives}
use Rattle.lt_kernel.specs.declared.rule_fault.RuleFault.{RuleFault}
use Rattle.lt_kernel.specs.declared.rule_fault.RuleFault.TheVariants.{Memory}
use Rattle.lt_kernel.specs.State.{State, sequents, statements}
use Rattle.lt_kernel.specs.Growing.{IsSound, Carries}
use Rattle.lt_kernel.proofs.GrowingLemmas.{carries-grows}
use Rattle.lt_store.specs.Trees.{tree_at}
use Rattle.lt_store.proofs.TreeLemmas.{tree_at-extends}
use Rattle.lt_kernel.specs.Reaching.{IsGiven, Reaches}
use Rattle.lt_kernel.proofs.ReachingLemmas.{reached-line, reached-memory}
use Rattle.lt_programs.specs.Programs.{theorem, statement_at, named_at}
use Rattle.lt_programs.specs.TypedTerms.{IsOfType}
use Rattle.lt_programs.proofs.TypedTermLemmas.{application-parts}
use Rattle.lt_derived.specs.Equations.{Equates}
use Rattle.lt_derived.proofs.Stated.{stated}
use Rattle.lt_derived.proofs.UnfoldingLemmas.{line-boolean}
use Rattle.lt_conv.specs.Conversions.{Converts}
use Rattle.lt_conv.specs.Unfolding.{types_for, is_instance, unfolded_by, unfolded, FitsRows, IsFitBy, FitsBy, IsStated, IsUnfoldedBy, AreTypesOf}
use Rattle.lt_conv.proofs.Matched.{matched-instance, matched-types, matched-test, matched-sound, unmatched-test, other-test, none-right}
use Rattle.lt_formulas.specs.Shapes.{is_constant}

-- ---- the types of constants

const-parts : (b : Bool) (f : Option Fault) (v ty : TypeTree) (x : Fault) → (if b then unless f (Ok v) else Err x) ≡ Ok ty → (f ≡ None) × (v ≡ ty)
const-parts true None v ty x e = (refl, cc e)
const-parts true (Some y) v ty x e = absurd (cc e)
const-parts false f v ty x e = absurd (cc e)

types-sound : (sig : Signature) (c : Chars) (ts : List TypeTree) → nameless_fault sig (nameless_constant c ts) ≡ None → types_fault sig (row ts) ≡ None
types-sound sig c ts h =
    let u = typed-some (nameless_typed sig [] (nameless_constant c ts)) h in
    by (found c sig.consts) u.0 u.1
  where
    by : (o : Option TypeTree) (ty : TypeTree) → constant_type sig c ts o ≡ Ok ty → types_fault sig (row ts) ≡ None
    by (Some d) ty q = (const-parts (nat_eq (length ts) (length (type_variables d))) (types_fault sig (row ts)) (at_types d ts) ty (type_args c) q).0
    by None ty q = absurd (cc q)

-- ---- matched constants

pub rows-fit : (c : Chars) (ps ts : List TypeTree) (o : Option TypeMap) → FitsRows (type_constructor c (row ps)) (type_constructor c (row ts)) o → FitsBy (nameless_constant c ps) (nameless_constant c ts) o
rows-fit c ps ts None h = unmatched-test c ps ts h
rows-fit c ps ts (Some m) h = record {
  test = matched-test c ps ts m h.0 h.1;
  left = ap (nameless_constant c) (matched-types c ps ts m h.0 h.1);
  puts = matched-instance c ps ts m h.0 h.1;
  sound = λ sig e. matched-sound c ps ts m h.0 h.1 sig (types-sound sig c ts e);
}

-- two constants of one name
pub constants-fit : (l r : Nameless) (c d : Chars) (ps ts : List TypeTree) (o : Option TypeMap) → l ≡ nameless_constant c ps → r ≡ nameless_constant d ts → d ≡ c
    → FitsRows (type_constructor c (row ps)) (type_constructor c (row ts)) o → FitsBy l r o
constants-fit l r c d ps ts o e k same h =
    subst (λ (u : Nameless). FitsBy u r o) (sym e) (subst (λ (u : Nameless). FitsBy (nameless_constant c ps) u o) (sym (k ∙ ap (λ n. nameless_constant n ts) same)) (rows-fit c ps ts o h))

-- of different names
pub constants-apart : (l r : Nameless) (c d : Chars) (ps ts : List TypeTree) → l ≡ nameless_constant c ps → r ≡ nameless_constant d ts → same_name d c ≡ false → FitsBy l r None
constants-apart l r c d ps ts e k h =
    subst (λ (u : Nameless). is_instance u r ≡ false) (sym e) (subst (λ (u : Nameless). is_instance (nameless_constant c ps) u ≡ false) (sym k) (other-test c d ps ts h))

-- ---- a statement

pub found-stated : (s : State) (named : List (Chars × Nameless)) (label copy : Chars) (n : ℕ) → copy ≡ label → IsGiven s n (nameless_thm_gives named copy) → IsStated s (found label named) (Some n)
found-stated s named label copy n same h = let r = stated s named copy n h in
    subst (λ (c : Chars). IsStated s (found c named) (Some n)) same (subst (λ (o : Option Nameless). IsStated s o (Some n)) (sym r.is) r.line)

pub unfound-stated : (s : State) (named : List (Chars × Nameless)) (label copy : Chars) (r : Reason) → copy ≡ label → nameless_thm_gives named copy ≡ Err r → IsStated s (found label named) None
unfound-stated s named label copy r same h = subst (λ (c : Chars). IsStated s (found c named) None) same (by (found copy named) refl h)
  where
    by : (o : Option Nameless) → found copy named ≡ o → with_found UnknownLabel o (λ p. Ok (theorem p)) ≡ Err r → IsStated s o None
    by None e d = tt
    by (Some p) e d = absurd (cc d)

pub no-statement : (sig : Signature) (s : State) (o : Option Nameless) (t : Nameless) → IsStated s o None → AreTypesOf sig o t None
no-statement sig s None t h = refl
no-statement sig s (Some p) t h = absurd h

pub the-statement : (s : State) (o : Option Nameless) (n : ℕ) → IsStated s o (Some n) → (p : Nameless) × (o ≡ Some p) × (line_at (sequents s) n ≡ Some (theorem p))
the-statement s (Some p) n h = (p, refl, h)
the-statement s None n h = absurd h

-- the statement of a line's conclusion
pub concl-statement : (s : State) (n : ℕ) (p q : Nameless) → line_at (sequents s) n ≡ Some (theorem p) → option_map (λ v. v.concl) (line_at (sequents s) n) ≡ Some q → q ≡ p
concl-statement s n p q e d = same_Some q p (sym d ∙ ap (option_map (λ v. v.concl)) e)

-- ---- the types at which it is unfolded

module _ (sig : Signature) (o : Option Nameless) (t p : Nameless) (is : o ≡ Some p) where
  pub no-equation : nameless_as_equation p ≡ None → AreTypesOf sig o t None
  no-equation e = ap (λ q. unfolded q t) is ∙ ap (λ d. unfolded_by d t) e

  equation-is : (q : Nameless) (e : TypeTree × Nameless × Nameless) → nameless_as_equation q ≡ Some e → q ≡ nameless_equation e.0 e.1 e.2
  equation-is (nameless_application (nameless_application (nameless_constant c (ty ∷ [])) s) t) e d =
      let k = some-if (same_name c (codes "eq")) (ty, s, t) e d in
      let name : c ≡ codes "eq" = name-true c (codes "eq") k.0 in
      λ i. nameless_application (nameless_application (nameless_constant (name i) ((k.1 i).0 ∷ [])) (k.1 i).1) (k.1 i).2
  equation-is q e d = absurd (cc d)

  module _ (e : TypeTree × Nameless × Nameless) (shape : nameless_as_equation p ≡ Some e) where
    gives-by : unfolded o t ≡ unfolded_by (Some e) t
    gives-by = ap (λ q. unfolded q t) is ∙ ap (λ d. unfolded_by d t) shape

    pub no-instance : is_instance e.1 t ≡ false → AreTypesOf sig o t None
    no-instance k = gives-by ∙ cond-false (is_instance e.1 t) (Some (nameless_instance (types_for e.1 t) e.2)) None k

    pub an-instance : (m : TypeMap) → nameless_fault sig t ≡ None → IsFitBy e.1 t m → AreTypesOf sig o t (Some m)
    an-instance m typed k = record {
      statement = p;
      is = is;
      ty = type_instance m e.0;
      to = nameless_instance m e.2;
      instance = ap (nameless_instance m) (equation-is p e shape) ∙ ap (λ l. nameless_equation (type_instance m e.0) l (nameless_instance m e.2)) k.left;
      gives = gives-by ∙ cond-true (is_instance e.1 t) (Some (nameless_instance (types_for e.1 t) e.2)) None k.test ∙ ap (λ r. Some r) (sym (k.puts e.2));
      sound = k.sound sig typed;
    }

    pub instance-types : (m : Option TypeMap) → nameless_fault sig t ≡ None → FitsBy e.1 t m → AreTypesOf sig o t m
    instance-types None typed k = no-instance k
    instance-types (Some m) typed k = an-instance m typed k

-- no constant
pub no-constant : (sig : Signature) (o : Option Nameless) (t : Nameless) → is_constant t ≡ false → AreTypesOf sig o t None
no-constant sig None t h = refl
no-constant sig (Some p) t h = by (nameless_as_equation p)
  where
    by : (d : Option (TypeTree × Nameless × Nameless)) → unfolded_by d t ≡ None
    by None = refl
    by (Some d) = cond-false (is_instance d.1 t) (Some (nameless_instance (types_for d.1 t) d.2)) None (none-right d.1 t h)

-- ---- from the line of the statement

pub mapped-none : {A B : Type 0} (f : A → B) {o : Option A} {p : Option B} → option_map f o ≡ p → o ≡ None → p ≡ None
mapped-none f h e = sym h ∙ ap (option_map f) e

pub mapped-some : {A B : Type 0} (f : A → B) {o : Option A} {p : Option B} (x : A) → option_map f o ≡ p → o ≡ Some x → p ≡ Some (f x)
mapped-some f x h e = sym h ∙ ap (option_map f) e

module _ (s : State) (o : Option Nameless) (l : Option ℕ) (h : IsStated s o l) (sig : Signature) (t : Nameless) where
  pub none-stated : l ≡ None → AreTypesOf sig o t None
  none-stated e = no-statement sig s o t (subst (IsStated s o) e h)

  module _ (n : ℕ) (there : l ≡ Some n) where
    statement : (p : Nameless) × (o ≡ Some p) × (line_at (sequents s) n ≡ Some (theorem p))
    statement = the-statement s o n (subst (IsStated s o) there h)

    pub stated-there : is_some (line_at (sequents s) n) ≡ true
    stated-there = ap is_some statement.2

    module _ (q : Nameless) (concl : option_map (λ v. v.concl) (line_at (sequents s) n) ≡ Some q) where
      form : (e : Option (TypeTree × Nameless × Nameless)) → nameless_as_equation q ≡ e → nameless_as_equation statement.0 ≡ e
      form e k = ap nameless_as_equation (sym (concl-statement s n statement.0 q statement.2 concl)) ∙ k

      pub stated-unequal : nameless_as_equation q ≡ None → AreTypesOf sig o t None
      stated-unequal k = no-equation sig o t statement.0 statement.1 (form None k)

      pub stated-types : (e : TypeTree × Nameless × Nameless) → nameless_as_equation q ≡ Some e → (m : Option TypeMap) → nameless_fault sig t ≡ None → FitsBy e.1 t m → AreTypesOf sig o t m
      stated-types e k m typed f = instance-types sig o t statement.0 statement.1 e (form (Some e) k) m typed f

-- an id that stood for the same before
pub fits-before : (old new : State) (id : ℕ) (l : Nameless) (m : Option TypeMap) → Carries old new → id < length old.nodes → FitsBy l (tree_at new.nodes id) m → FitsBy l (tree_at old.nodes id) m
fits-before old new id l m c w h = let g = carries-grows old new c in subst (λ (u : Nameless). FitsBy l u m) (tree_at-extends old.nodes new.nodes id g.stays.nodes w) h

-- ---- a line that equates the term

built-type : (sig : Signature) → IsPartOf built_in sig → (c : Chars) (d : TypeTree) (ts : List TypeTree) (ty : TypeTree)
    → found c built_in.consts ≡ Some d → IsOfType sig (nameless_constant c ts) ty → at_types d ts ≡ ty
built-type sig b c d ts ty e h =
    (const-parts (nat_eq (length ts) (length (type_variables d))) (types_fault sig (row ts)) (at_types d ts) ty (type_args c)
    (sym (ap (constant_type sig c ts) (b.consts c d e)) ∙ h)).1

equation-sides : (sig : Signature) → IsPartOf built_in sig → (ty : TypeTree) (s t : Nameless) → IsOfType sig (nameless_equation ty s t) bool
    → IsOfType sig s ty × IsOfType sig t ty
equation-sides sig b ty s t h =
    let a : TypeTree = type_variable (codes "a") in
    let eq : Nameless = nameless_constant (codes "eq") (ty ∷ []) in
    let outer = application-parts sig (nameless_application eq s) t bool h in
    let inner = application-parts sig eq s (fun outer.0 bool) outer.1 in
    let same : fun ty (fun ty bool) ≡ fun inner.0 (fun outer.0 bool) =
    built-type sig b (codes "eq") (fun a (fun a bool)) (ty ∷ []) (fun inner.0 (fun outer.0 bool)) refl inner.1 in
    let first : inner.0 ≡ ty = cc same in
    let second : outer.0 ≡ ty = cc same in
    (subst (IsOfType sig s) first inner.2, subst (IsOfType sig t) second outer.2)

line-equates : (s : State) (n : ℕ) (ty : TypeTree) (l r : Nameless) → IsSound s → line_at (sequents s) n ≡ Some (theorem (nameless_equation ty l r)) → Equates s n l r
line-equates s n ty l r sound line =
    let boolean = line-boolean s n (theorem (nameless_equation ty l r)) sound line in
    let typed = equation-sides s.signature sound.signature.built ty l r boolean.concl in
    record { ty = ty; line = line; left = typed.0; right = typed.1 }

module _ (sig : Signature) (named : List (Chars × Nameless)) (label : Chars) (t : Nameless) (m : TypeMap) (q : IsUnfoldedBy sig (found label named) t m) where
  instance-is : named_at sig named label m [] ≡ Ok (theorem (nameless_equation q.ty t q.to))
  instance-is = ap (λ o. with_found UnknownLabel o (statement_at sig m [])) q.is ∙ ap (λ u. Ok (theorem u)) q.instance

  pub instance-memory : (s : State) (e : RuleFault) → Reaches s (Err e) (named_at sig named label m []) → e ≡ Memory
  instance-memory s e h = reached-memory s e (named_at sig named label m []) (theorem (nameless_equation q.ty t q.to)) h instance-is

  pub instance-converts : (s : State) (n : ℕ) → IsSound s → IsGiven s n (named_at sig named label m []) → Converts s t (unfolded (found label named) t) (Some n)
  instance-converts s n sound h =
      subst (λ (o : Option Nameless). Converts s t o (Some n)) (sym q.gives)
      (line-equates s n q.ty t q.to sound (reached-line s n (named_at sig named label m []) (theorem (nameless_equation q.ty t q.to)) h instance-is))

-- ---- the whole conversion

pub not-unfolded : (sig : Signature) (s : State) (o : Option Nameless) (t : Nameless) (l : Option TypeMap) → AreTypesOf sig o t l → l ≡ None → Converts s t (unfolded o t) None
not-unfolded sig s o t l h e =
    let none : unfolded o t ≡ None = subst (AreTypesOf sig o t) e h in
    subst (λ (r : Option Nameless). Converts s t r None) (sym none) tt

module _ (old mid : State) (label : Chars) (t : Nameless) (l : Option TypeMap) (m : TypeMap) (c : Carries old mid) (h : AreTypesOf old.signature (found label (statements old)) t l) (e : l ≡ Some m) where
  types-then : IsUnfoldedBy mid.signature (found label (statements mid)) t m
  types-then = let g = carries-grows old mid c in
      subst (λ (sig : Signature). IsUnfoldedBy sig (found label (statements mid)) t m) (sym g.stays.signature)
      (subst (λ (named : List (Chars × Nameless)). IsUnfoldedBy old.signature (found label named) t m) (sym g.stays.statements)
      (subst (AreTypesOf old.signature (found label (statements old)) t) e h))

  pub types-clear : types_fault mid.signature (row (map (λ p. p.1) m)) ≡ None
  types-clear = types-then.sound

  pub unfold-memory : (s : State) (f : RuleFault) → Reaches s (Err f) (named_at mid.signature (statements mid) label m []) → f ≡ Memory
  unfold-memory s f r = instance-memory mid.signature (statements mid) label t m types-then s f r

  pub unfold-converts : (s : State) (n : ℕ) → IsSound s → IsGiven s n (named_at mid.signature (statements mid) label m []) → Converts s t (unfolded (found label (statements old)) t) (Some n)
  unfold-converts s n sound r = let g = carries-grows old mid c in
      subst (λ (named : List (Chars × Nameless)). Converts s t (unfolded (found label named) t) (Some n)) g.stays.statements
      (instance-converts mid.signature (statements mid) label t m types-then s n sound r)
