-- Typing as a function and as a relation.
use Rattle.std.proofs.Common.{◌≡◌, ◌↔◌, ℕ, List, ◌∷◌, Bool, true, false, ◌&&◌, if◌then◌else◌, length, nat_eq, Option, Some, None, Result, Ok, Err, refl, ◌∙◌, ap, codes, arith}
use Rattle.std.proofs.lemmas.Bool.Decides.{nat_tests}
use Rattle.lt_definitions.specs.Types.{Chars, same_name, found, TypeTree, type_constructor, no_types, type_and, fun, same_type, type_variables, row}
use Rattle.lt_definitions.specs.Terms.{TermTree, free_variable, bound_name, constant, application, abstraction}
use Rattle.lt_definitions.specs.Typing.{Signature, Fault, type_args, mismatch, type_fault, types_fault, with_ok, unless, at_types, constant_type, applied_type, bound_type, typed, HasType}
use Rattle.lt_definitions.proofs.SameNames.{both-true, name-true, type-true, type-refl}

abbrev pub ok_type : TypeTree → Result TypeTree Fault
ok_type t = Ok t

pub ok-inj : (x y : TypeTree) → ok_type x ≡ ok_type y → x ≡ y
ok-inj x y e = cc e

unless-ok : {A : Type 0} (o : Option Fault) (r : Result A Fault) (x : A) → unless o r ≡ Ok x → (o ≡ None) × (r ≡ Ok x)
unless-ok None r x e = (refl, e)
unless-ok (Some f) r x e = absurd (cc e)

ok-unless : {A : Type 0} (o : Option Fault) (r : Result A Fault) (x : A) → o ≡ None → r ≡ Ok x → unless o r ≡ Ok x
ok-unless None r x d e = e
ok-unless (Some f) r x d e = absurd (cc d)

with_ok-ok : {A B : Type 0} (r : Result A Fault) (f : A → Result B Fault) (y : B) → with_ok r f ≡ Ok y → (x : A) × (r ≡ Ok x) × (f x ≡ Ok y)
with_ok-ok (Ok x) f y e = (x, refl, e)
with_ok-ok (Err d) f y e = absurd (cc e)

bound-ok : (x : Chars) (o : Option TypeTree) (ty : TypeTree) → bound_type x o ≡ Ok ty → o ≡ Some ty
bound-ok x None ty e = absurd (cc e)
bound-ok x (Some u) ty e = cc e

if-ok : {A : Type 0} (b : Bool) (r : Result A Fault) (f : Fault) (x : A) → (if b then r else Err f) ≡ Ok x → (b ≡ true) × (r ≡ Ok x)
if-ok true r f x e = (refl, e)
if-ok false r f x e = absurd (cc e)

same_length : (m n : ℕ) → nat_eq m n ≡ true → m ≡ n
same_length m n e = grind (arith, nat_tests)

length_same : (m n : ℕ) → m ≡ n → nat_eq m n ≡ true
length_same m n e = grind (arith, nat_tests)

constant-ok : (sig : Signature) (c : Chars) (ts : List TypeTree) (o : Option TypeTree) (ty : TypeTree) → constant_type sig c ts o ≡ Ok ty
    → (d : TypeTree) × (o ≡ Some d) × (length ts ≡ length (type_variables d)) × (types_fault sig (row ts) ≡ None) × (at_types d ts ≡ ty)
constant-ok sig c ts None ty e = absurd (cc e)
constant-ok sig c ts (Some d) ty e =
    let h = if-ok (nat_eq (length ts) (length (type_variables d))) (unless (types_fault sig (row ts)) (Ok (at_types d ts))) (type_args c) ty e in
    let k = unless-ok (types_fault sig (row ts)) (Ok (at_types d ts)) ty h.1 in
    let same : at_types d ts ≡ ty = ok-inj (at_types d ts) ty k.1 in
    (d, refl, same_length (length ts) (length (type_variables d)) h.0, k.0, same)

ok-constant : (sig : Signature) (c : Chars) (ts : List TypeTree) (o : Option TypeTree) (d ty : TypeTree) → o ≡ Some d
    → length ts ≡ length (type_variables d) → types_fault sig (row ts) ≡ None → at_types d ts ≡ ty → constant_type sig c ts o ≡ Ok ty
ok-constant sig c ts o d ty e n f same =
    ap (constant_type sig c ts) e
    ∙ ap (λ (b : Bool). if b then unless (types_fault sig (row ts)) (Ok (at_types d ts)) else Err (type_args c)) (length_same (length ts) (length (type_variables d)) n)
    ∙ ok-unless (types_fault sig (row ts)) (Ok (at_types d ts)) ty f (ap (λ (u : TypeTree). Ok u) same)

pub applied-ok : (t u ty : TypeTree) → applied_type t u ≡ Ok ty → t ≡ fun u ty
applied-ok (type_constructor c (type_and from (type_and to no_types))) u ty e =
    let h = if-ok (same_name c (codes "fun") && same_type from u) (Ok to) (mismatch (type_constructor c (type_and from (type_and to no_types))) u) ty e in
    let k = both-true (same_name c (codes "fun")) (same_type from u) h.0 in
    let name : c ≡ codes "fun" = name-true c (codes "fun") k.0 in
    let arg : from ≡ u = type-true from u k.1 in
    let res : to ≡ ty = ok-inj to ty h.1 in
    λ i. type_constructor (name i) (type_and (arg i) (type_and (res i) no_types))
applied-ok t u ty e = absurd (cc e)

ok-applied : (u ty : TypeTree) → applied_type (fun u ty) u ≡ Ok ty
ok-applied u ty = ap (λ (b : Bool). if b then Ok ty else Err (mismatch (fun u ty) u)) (type-refl u)

pub typed-has : (sig : Signature) (env : List (Chars × TypeTree)) (t : TermTree) (ty : TypeTree) → typed sig env t ≡ Ok ty → HasType sig env t ty
typed-has sig env (free_variable x u) ty e =
    let h = unless-ok (type_fault sig u) (Ok u) ty e in let same : u ≡ ty = ok-inj u ty h.1 in (h.0, same)
typed-has sig env (bound_name x) ty e = bound-ok x (found x env) ty e
typed-has sig env (constant c ts) ty e = constant-ok sig c ts (found c sig.consts) ty e
typed-has sig env (application f a) ty e =
    let h = with_ok-ok (typed sig env f) (λ t. with_ok (typed sig env a) (λ u. applied_type t u)) ty e in
    let k = with_ok-ok (typed sig env a) (λ u. applied_type h.0 u) ty h.2 in
    let is_fun : h.0 ≡ fun k.0 ty = applied-ok h.0 k.0 ty k.2 in
    (k.0, typed-has sig env f (fun k.0 ty) (h.1 ∙ ap (λ (v : TypeTree). Ok v) is_fun), typed-has sig env a k.0 k.1)
typed-has sig env (abstraction x u b) ty e =
    let h = unless-ok (type_fault sig u) (with_ok (typed sig ((x, u) ∷ env) b) (λ v. Ok (fun u v))) ty e in
    let k = with_ok-ok (typed sig ((x, u) ∷ env) b) (λ v. Ok (fun u v)) ty h.1 in
    let same : fun u k.0 ≡ ty = ok-inj (fun u k.0) ty k.2 in
    (k.0, h.0, typed-has sig ((x, u) ∷ env) b k.0 k.1, same)

pub has-typed : (sig : Signature) (env : List (Chars × TypeTree)) (t : TermTree) (ty : TypeTree) → HasType sig env t ty → typed sig env t ≡ Ok ty
has-typed sig env (free_variable x u) ty h = ok-unless (type_fault sig u) (Ok u) ty h.0 (ap (λ (v : TypeTree). Ok v) h.1)
has-typed sig env (bound_name x) ty h = ap (bound_type x) h
has-typed sig env (constant c ts) ty h = ok-constant sig c ts (found c sig.consts) h.0 ty h.1 h.2 h.3 h.4
has-typed sig env (application f a) ty h =
    ap (λ r. with_ok r (λ t. with_ok (typed sig env a) (λ u. applied_type t u))) (has-typed sig env f (fun h.0 ty) h.1)
    ∙ ap (λ r. with_ok r (λ u. applied_type (fun h.0 ty) u)) (has-typed sig env a h.0 h.2)
    ∙ ok-applied h.0 ty
has-typed sig env (abstraction x u b) ty h =
    ok-unless (type_fault sig u) (with_ok (typed sig ((x, u) ∷ env) b) (λ v. Ok (fun u v))) ty h.1
    (ap (λ r. with_ok r (λ v. Ok (fun u v))) (has-typed sig ((x, u) ∷ env) b h.0 h.2) ∙ ap (λ (v : TypeTree). Ok v) h.3)

pub typing_is_a_relation : (sig : Signature) (env : List (Chars × TypeTree)) (t : TermTree) (ty : TypeTree) → (typed sig env t ≡ Ok ty) ↔ HasType sig env t ty
typing_is_a_relation sig env t ty = (typed-has sig env t ty, has-typed sig env t ty)
