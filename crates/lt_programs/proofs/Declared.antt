-- Where the definitions of `and` and `ex` are stated and boolean, few declarations suffice for what is derived from them.
use Rattle.std.proofs.Common.{◌≡◌, ℕ, zero, suc, ◌⊎◌, inl, inr, List, [], ◌∷◌, ◌++◌, length, Bool, true, false, if◌then◌else◌, nat_eq, unwrap_or, Option, Some, None, Result, Ok, Err, codes, refl, sym, ◌∙◌, ap, subst, arith}
use Rattle.std.specs.List.{All, zip}
use Rattle.std.proofs.lemmas.Option.{same_Some, none-some}
use Rattle.std.proofs.lemmas.Bool.{cases_Bool, cond-true, cond-false, true≢false}
use Rattle.lt_definitions.specs.Types.{Chars, same_name, found, TypeTree, TypeTrees, type_variable, type_constructor, no_types, type_and, bool, fun, row, type_instance, type_variables}
use Rattle.lt_definitions.specs.Typing.{Signature, built_in, Fault, earlier, type_args, type_fault, types_fault, unless, at_types, constant_type}
use Rattle.lt_definitions.proofs.SameNames.{name-true, true-name}
use Rattle.lt_nameless.specs.Booleans.{IsSoundSignature}
use Rattle.lt_nameless.specs.Nameless.{Nameless, nameless_constant, nameless_application}
use Rattle.lt_nameless.specs.NamelessRules.{nameless_typed, IsBooleanNameless, nameless_equation}
use Rattle.lt_nameless.proofs.SameForms.{number-true, number-same}
use Rattle.lt_programs.specs.TypedTerms.{IsOfType}
use Rattle.lt_programs.specs.Connectives.{and_constant, and_body, and_definition, conjunction, any_type, ex_constant, ex_body, ex_definition, existence}
use Rattle.lt_programs.proofs.Sequential.{none-type}
use Rattle.lt_programs.proofs.TypedTermLemmas.{application-parts, ok-same}
use Rattle.lt_programs.proofs.Covering.{Covers, type-covers, types-covers}

-- the built-in declarations and one more constant
abbrev pub with_constant : Chars → TypeTree → Signature
with_constant c d = record { types = built_in.types; consts = built_in.consts ++ (c, d) ∷ [] }

-- A declared type that gives what another one gives.
pub record Alike (sig : Signature) (c : Chars) (d : TypeTree) : Type 0 where
  pub declared : TypeTree
  pub is : found c sig.consts ≡ Some declared
  pub count : length (type_variables declared) ≡ length (type_variables d)
  pub gives : (ts : List TypeTree) → length ts ≡ length (type_variables d) → at_types declared ts ≡ at_types d ts

found-either : {A : Type 0} (x : Chars) (ps : List (Chars × A)) (c : Chars) (d v : A) → found x (ps ++ (c, d) ∷ []) ≡ Some v
    → (found x ps ≡ Some v) ⊎ ((x ≡ c) × (v ≡ d))
found-either x [] c d v e = elim (cases_Bool (same_name x c)) [
  | inl h ↦ inr (name-true x c h, sym (same_Some d v (sym (cond-true (same_name x c) (Some d) None h) ∙ e)))
  | inr h ↦ absurd (none-some v (sym (cond-false (same_name x c) (Some d) None h) ∙ e))
]
found-either x (p ∷ ps) c d v e = elim (cases_Bool (same_name x p.0)) [
  | inl h ↦ inl (cond-true (same_name x p.0) (Some p.1) (found x ps) h ∙ sym (cond-true (same_name x p.0) (Some p.1) (found x (ps ++ (c, d) ∷ [])) h) ∙ e)
  | inr h ↦ elim (found-either x ps c d v (sym (cond-false (same_name x p.0) (Some p.1) (found x (ps ++ (c, d) ∷ [])) h) ∙ e)) [
    | inl k ↦ inl (cond-false (same_name x p.0) (Some p.1) (found x ps) h ∙ k)
    | inr k ↦ inr k
  ]
]

unless-of : {A : Type 0} (o : Option Fault) (r : Result A Fault) (x : A) → unless o r ≡ Ok x → (o ≡ None) × (r ≡ Ok x)
unless-of None r x e = (refl, e)
unless-of (Some f) r x e = absurd (cc e)

abbrev err : Fault → Result TypeTree Fault
err f = Err f

not-ok : (f : Fault) (t : TypeTree) → err f ≡ Ok t → ⊥
not-ok f t e = cc e

-- what is known of a constant that has a type
pub record Given (sig : Signature) (c : Chars) (ts : List TypeTree) (ty : TypeTree) : Type 0 where
  pub declared : TypeTree
  pub is : found c sig.consts ≡ Some declared
  pub count : length ts ≡ length (type_variables declared)
  pub sound : types_fault sig (row ts) ≡ None
  pub gives : at_types declared ts ≡ ty

pub given-of : (sig : Signature) (c : Chars) (ts : List TypeTree) (ty : TypeTree) → constant_type sig c ts (found c sig.consts) ≡ Ok ty → Given sig c ts ty
given-of sig c ts ty e = by (found c sig.consts) refl e
  where
    by : (o : Option TypeTree) → found c sig.consts ≡ o → constant_type sig c ts o ≡ Ok ty → Given sig c ts ty
    by None d h = absurd (cc h)
    by (Some d) q h = elim (cases_Bool (nat_eq (length ts) (length (type_variables d)))) [
      | inl b ↦ let k = unless-of (types_fault sig (row ts)) (Ok (at_types d ts)) ty (sym (cond-true (nat_eq (length ts) (length (type_variables d))) _ _ b) ∙ h) in
          record { declared = d; is = q; count = number-true (length ts) (length (type_variables d)) b; sound = k.0; gives = ok-same (at_types d ts) ty (Ok (at_types d ts)) refl k.1 }
      | inr b ↦ absurd (not-ok (type_args c) ty (sym (cond-false (nat_eq (length ts) (length (type_variables d))) _ _ b) ∙ h))
    ]

pub of-given : (sig : Signature) (c : Chars) (ts : List TypeTree) (ty : TypeTree) → Given sig c ts ty → constant_type sig c ts (found c sig.consts) ≡ Ok ty
of-given sig c ts ty g =
    ap (constant_type sig c ts) g.is
    ∙ ap (λ n. if nat_eq n (length (type_variables g.declared)) then unless (types_fault sig (row ts)) (Ok (at_types g.declared ts)) else Err (type_args c)) g.count
    ∙ cond-true (nat_eq (length (type_variables g.declared)) (length (type_variables g.declared))) _ _ (number-same (length (type_variables g.declared)))
    ∙ (λ i. unless (g.sound i) (Ok (g.gives i)))

-- one more constant, of an alike type
pub covers-one : (sig : Signature) (c : Chars) (d : TypeTree) → IsSoundSignature sig → Alike sig c d → Covers (with_constant c d) sig
covers-one sig c d s a = record {
  types = s.built.types;
  consts = λ x ts ty e.
      let g = given-of (with_constant c d) x ts ty e in
      let sound : types_fault sig (row ts) ≡ None = types-covers (with_constant c d) sig s.built.types (row ts) g.sound in
      elim (found-either x built_in.consts c d g.declared g.is) [
        | inl k ↦ of-given sig x ts ty (record { declared = g.declared; is = s.built.consts x g.declared k; count = g.count; sound = sound; gives = g.gives })
        | inr k ↦ of-given sig x ts ty (record {
          declared = a.declared;
          is = ap (λ n. found n sig.consts) k.0 ∙ a.is;
          count = g.count ∙ ap (λ t. length (type_variables t)) k.1 ∙ sym a.count;
          sound = sound;
          gives = a.gives ts (g.count ∙ ap (λ t. length (type_variables t)) k.1) ∙ ap (λ t. at_types t ts) (sym k.1) ∙ g.gives;
        })
      ];
}

-- ---- the constants of the definitions

abbrev none-put : List TypeTree
none-put = []

no-zip : (xs : List Chars) → zip xs none-put ≡ []
no-zip [] = refl
no-zip (x ∷ xs) = refl

-- the left side of a boolean equation has the equation's type
left-typed : (sig : Signature) (ty : TypeTree) (l r : Nameless) → IsSoundSignature sig → IsBooleanNameless sig (nameless_equation ty l r) → IsOfType sig l ty
left-typed sig ty l r s b =
    let outer = application-parts sig (nameless_application (nameless_constant (codes "eq") (ty ∷ [])) l) r bool b in
    let inner = application-parts sig (nameless_constant (codes "eq") (ty ∷ [])) l (fun outer.0 bool) outer.1 in
    let g = given-of sig (codes "eq") (ty ∷ []) (fun inner.0 (fun outer.0 bool)) inner.1 in
    let a = type_variable (codes "a") in
    let declared : g.declared ≡ fun a (fun a bool) = same_Some g.declared (fun a (fun a bool)) (sym g.is ∙ s.built.consts (codes "eq") (fun a (fun a bool)) refl) in
    let same : fun ty (fun ty bool) ≡ fun inner.0 (fun outer.0 bool) = ap (λ d. at_types d (ty ∷ [])) (sym declared) ∙ g.gives in
    inner.2 ∙ ap (λ (t : TypeTree). Ok t) (sym (from-same ty (fun ty bool) inner.0 (fun outer.0 bool) same))
  where
    from-same : (p q u v : TypeTree) → fun p q ≡ fun u v → p ≡ u
    from-same p q u v e = cc e

pub and-alike : (sig : Signature) → IsSoundSignature sig → IsBooleanNameless sig and_definition → Alike sig (codes "and") (fun bool (fun bool bool))
and-alike sig s b =
    let d = fun bool (fun bool bool) in
    let g = given-of sig (codes "and") [] d (left-typed sig d and_constant and_body s b) in
    let same : g.declared ≡ d = sym (none-type g.declared) ∙ ap (λ m. type_instance m g.declared) (sym (no-zip (type_variables g.declared))) ∙ g.gives in
    record { declared = g.declared; is = g.is; count = ap (λ t. length (type_variables t)) same; gives = λ ts h. ap (λ t. at_types t ts) same }

-- types that become one over the variable 'a, where it alone is put
abbrev put_any : List Chars → TypeTree → TypeTree
put_any vs t = type_instance (zip vs (any_type ∷ [])) t

variable-put : (vs : List Chars) (w : Chars) → (u : Chars) × (put_any vs (type_variable w) ≡ type_variable u)
variable-put [] w = (w, refl)
variable-put (v ∷ vs) w = elim (cases_Bool (same_name w v)) [
  | inl h ↦ (codes "a", ap (λ m. unwrap_or (found w ((v, any_type) ∷ m)) (type_variable w)) (no-zip vs) ∙ ap (λ o. unwrap_or o (type_variable w)) (cond-true (same_name w v) (Some any_type) None h))
  | inr h ↦ (w, ap (λ m. unwrap_or (found w ((v, any_type) ∷ m)) (type_variable w)) (no-zip vs) ∙ ap (λ o. unwrap_or o (type_variable w)) (cond-false (same_name w v) (Some any_type) None h))
]

no-variable : (vs : List Chars) (w c : Chars) (ts : TypeTrees) → put_any vs (type_variable w) ≡ type_constructor c ts → ⊥
no-variable vs w c ts e = let k = variable-put vs w in differ k.0 (sym k.1 ∙ e)
  where
    differ : (u : Chars) → type_variable u ≡ type_constructor c ts → ⊥
    differ u h = cc h

-- the parts of one that becomes the type of functions
fun-parts : (vs : List Chars) (t p q : TypeTree) → put_any vs t ≡ fun p q → (x y : TypeTree) × (t ≡ fun x y) × (put_any vs x ≡ p) × (put_any vs y ≡ q)
fun-parts vs (type_variable w) p q e = absurd (no-variable vs w (codes "fun") (type_and p (type_and q no_types)) e)
fun-parts vs (type_constructor c no_types) p q e = absurd (cc e)
fun-parts vs (type_constructor c (type_and x no_types)) p q e = absurd (cc e)
fun-parts vs (type_constructor c (type_and x (type_and y no_types))) p q e =
    let name : c ≡ codes "fun" = constructors e in
    (x, y, ap (λ n. type_constructor n (type_and x (type_and y no_types))) name, first e, second e)
  where
    constructors : type_constructor c (type_and (put_any vs x) (type_and (put_any vs y) no_types)) ≡ fun p q → c ≡ codes "fun"
    constructors h = cc h

    first : type_constructor c (type_and (put_any vs x) (type_and (put_any vs y) no_types)) ≡ fun p q → put_any vs x ≡ p
    first h = cc h

    second : type_constructor c (type_and (put_any vs x) (type_and (put_any vs y) no_types)) ≡ fun p q → put_any vs y ≡ q
    second h = cc h
fun-parts vs (type_constructor c (type_and x (type_and y (type_and z ts)))) p q e = absurd (cc e)

bool-parts : (vs : List Chars) (t : TypeTree) → put_any vs t ≡ bool → t ≡ bool
bool-parts vs (type_variable w) e = absurd (no-variable vs w (codes "bool") no_types e)
bool-parts vs (type_constructor c no_types) e = e
bool-parts vs (type_constructor c (type_and x ts)) e = absurd (cc e)

any-parts : (vs : List Chars) (t : TypeTree) → put_any vs t ≡ any_type → (v : Chars) × (t ≡ type_variable v)
any-parts vs (type_variable w) e = (w, refl)
any-parts vs (type_constructor c ts) e = absurd (cc e)

-- predicates over predicates on a variable
abbrev over_predicates : TypeTree → TypeTree
over_predicates t = fun (fun t bool) bool

pub ex-alike : (sig : Signature) → IsSoundSignature sig → IsBooleanNameless sig ex_definition → Alike sig (codes "ex") (over_predicates any_type)
ex-alike sig s b =
    let d = over_predicates any_type in
    let g = given-of sig (codes "ex") (any_type ∷ []) d (left-typed sig d (ex_constant any_type) ex_body s b) in
    let vs = type_variables g.declared in
    let outer = fun-parts vs g.declared (fun any_type bool) bool g.gives in
    let inner = fun-parts vs outer.0 any_type bool outer.3 in
    let v = any-parts vs inner.0 inner.3 in
    let same : g.declared ≡ over_predicates (type_variable v.0) =
    outer.2 ∙ (λ i. fun ((inner.2 ∙ (λ j. fun (v.1 j) (bool-parts vs inner.1 inner.4 j))) i) (bool-parts vs outer.1 outer.4 i)) in
    record {
      declared = g.declared;
      is = g.is;
      count = ap (λ t. length (type_variables t)) same;
      gives = λ ts h. ap (λ t. at_types t ts) same ∙ one v.0 ts h;
    }
  where
    one : (v : Chars) (ts : List TypeTree) → length ts ≡ 1 → at_types (over_predicates (type_variable v)) ts ≡ at_types (over_predicates any_type) ts
    one v [] h = absurd (omega (arith, h))
    one v (t ∷ []) h = ap (λ o. over_predicates (unwrap_or o (type_variable v))) (cond-true (same_name v v) (Some t) None (true-name v v refl))
    one v (t ∷ u ∷ ts) h = absurd (omega (arith, h))

-- ---- the parts of conjunctions and existences

-- the sides of a boolean conjunction are boolean
pub sides-boolean : (sig : Signature) → IsSoundSignature sig → IsBooleanNameless sig and_definition → (p q : Nameless) → IsBooleanNameless sig (conjunction p q)
    → IsBooleanNameless sig p × IsBooleanNameless sig q
sides-boolean sig s b p q h =
    let outer = application-parts sig (nameless_application and_constant p) q bool h in
    let inner = application-parts sig and_constant p (fun outer.0 bool) outer.1 in
    let same = ok-same (fun inner.0 (fun outer.0 bool)) (fun bool (fun bool bool)) (nameless_typed sig [] and_constant) inner.1
    (left-typed sig (fun bool (fun bool bool)) and_constant and_body s b) in
    (inner.2 ∙ ap (λ (t : TypeTree). Ok t) (first inner.0 outer.0 same), outer.2 ∙ ap (λ (t : TypeTree). Ok t) (second inner.0 outer.0 same))
  where
    first : (u v : TypeTree) → fun u (fun v bool) ≡ fun bool (fun bool bool) → u ≡ bool
    first u v e = cc e

    second : (u v : TypeTree) → fun u (fun v bool) ≡ fun bool (fun bool bool) → v ≡ bool
    second u v e = cc e

-- the predicate of a boolean existence is one over its type, which has no fault
pub predicate-typed : (sig : Signature) → IsSoundSignature sig → IsBooleanNameless sig ex_definition → (ty : TypeTree) (p : Nameless) → IsBooleanNameless sig (existence ty p)
    → (type_fault sig ty ≡ None) × IsOfType sig p (fun ty bool)
predicate-typed sig s b ty p h =
    let parts = application-parts sig (ex_constant ty) p bool h in
    let g = given-of sig (codes "ex") (ty ∷ []) (fun parts.0 bool) parts.1 in
    let a = ex-alike sig s b in
    let declared : g.declared ≡ a.declared = same_Some g.declared a.declared (sym g.is ∙ a.is) in
    let same : over_predicates ty ≡ fun parts.0 bool = sym (a.gives (ty ∷ []) refl) ∙ ap (λ d. at_types d (ty ∷ [])) (sym declared) ∙ g.gives in
    (only (type_fault sig ty) g.sound, parts.2 ∙ ap (λ (t : TypeTree). Ok t) (sym (over ty parts.0 same)))
  where
    only : (o : Option Fault) → earlier o None ≡ None → o ≡ None
    only None e = refl
    only (Some f) e = absurd (none-some f (sym e))

    over : (t u : TypeTree) → over_predicates t ≡ fun u bool → fun t bool ≡ u
    over t u e = cc e
