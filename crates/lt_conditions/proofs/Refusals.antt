-- The first refusal of tests in their order, and what is answered of it.
use Rattle.std.proofs.Common.{◌≡◌, List, [], ◌∷◌, ◌++◌, Option, Some, None, Result, Ok, Err, refl, sym, ◌∙◌, ap, subst}
use Rattle.std.specs.Result.{result_err}
use Rattle.lt_definitions.specs.Types.{TypeTree}
use Rattle.lt_definitions.specs.Terms.{TermTree}
use Rattle.lt_definitions.specs.Typing.{Signature, Fault, typed, earlier}
use Rattle.lt_definitions.specs.Derivations.{term_fault}
use Rattle.lt_definitions.specs.Theory.{Refusal, first_of, fault_test}
use Rattle.lt_hol.specs.Faults.{Finds, Checks, Gives, fault_of}
use Rattle.lt_hol.specs.declared.type_fault.TypeFault as faults
use Rattle.lt_hol.specs.declared.type_fault.TypeFault.{TypeFault}
use Rattle.lt_conditions.specs.declared.item_fault.ItemFault.{ItemFault}
use Rattle.lt_conditions.specs.declared.item_fault.ItemFault.TheVariants.{Duplicate, UnknownType, Arity, UnknownConst, TypeArgs, Unbound, Mismatch, NotBool, UnknownLabel, OpenTerm, LooseTypeVar, TypedefShape, InLine, BadLine, NotProved, Memory}
use Rattle.lt_conditions.specs.Refusing.{item_fault, Refuses, Tests}

-- what keeps each refusal keeps what is answered of it
pub refuses-at : (f : Option Refusal → Option Refusal) → ((r : Refusal) → f (Some r) ≡ Some r) → (o : Option Refusal) (e : ItemFault) → Refuses o e → Refuses (f o) e
refuses-at f k o (Duplicate n) h = ap f h ∙ k _
refuses-at f k o (UnknownType c) h = ap f h ∙ k _
refuses-at f k o (Arity c) h = ap f h ∙ k _
refuses-at f k o (UnknownConst c) h = ap f h ∙ k _
refuses-at f k o (TypeArgs c) h = ap f h ∙ k _
refuses-at f k o (Unbound x) h = ap f h ∙ k _
refuses-at f k o (Mismatch t u) h = ap f h ∙ k _
refuses-at f k o (NotBool ty) h = ap f h ∙ k _
refuses-at f k o (UnknownLabel l) h = ap f h ∙ k _
refuses-at f k o OpenTerm h = ap f h ∙ k _
refuses-at f k o (LooseTypeVar a) h = ap f h ∙ k _
refuses-at f k o TypedefShape h = ap f h ∙ k _
refuses-at f k o (InLine n e) h = (h.0, ap f h.1 ∙ k _, h.2)
refuses-at f k o (BadLine n r) h = ap f h ∙ k _
refuses-at f k o (NotProved last) h = (h.0, ap f h.1 ∙ k _, h.2)
refuses-at f k o Memory h = tt

pub refuses-same : (o p : Option Refusal) (e : ItemFault) → o ≡ p → Refuses o e → Refuses p e
refuses-same o p e h t = subst (λ (q : Option Refusal). Refuses q e) h t

-- the first of several tests refuses
pub refuses-first : (o : Option Refusal) (later : List (Option Refusal)) (e : ItemFault) → Refuses o e → Refuses (first_of (o ∷ later)) e
refuses-first o later e h = refuses-at (λ (q : Option Refusal). first_of (q ∷ later)) (λ r. refl) o e h

-- the first of several tests doesn't refuse
pub refuses-next : (o : Option Refusal) (later : List (Option Refusal)) (e : ItemFault) → o ≡ None → Refuses (first_of later) e → Refuses (first_of (o ∷ later)) e
refuses-next o later e n h = subst (λ (q : Option Refusal). Refuses (first_of (q ∷ later)) e) (sym n) h

pub none-next : (o : Option Refusal) (later : List (Option Refusal)) → o ≡ None → first_of later ≡ None → first_of (o ∷ later) ≡ None
none-next o later n h = ap (λ (q : Option Refusal). first_of (q ∷ later)) n ∙ h

pub tests-next : (o : Option Refusal) (later : List (Option Refusal)) (r : Result (Unit {0}) ItemFault) → o ≡ None → Tests (first_of later) r → Tests (first_of (o ∷ later)) r
tests-next o later r n h = subst (λ (q : Option Refusal). Tests (first_of (q ∷ later)) r) (sym n) h

pub first-alone : (o : Option Refusal) → first_of (o ∷ []) ≡ o
first-alone None = refl
first-alone (Some r) = refl

pub tests-last : (o : Option Refusal) (r : Result (Unit {0}) ItemFault) → Tests o r → Tests (first_of (o ∷ [])) r
tests-last o r h = subst (λ (q : Option Refusal). Tests q r) (sym (first-alone o)) h

-- two groups of tests
pub first-append : (xs ys : List (Option Refusal)) → first_of (xs ++ ys) ≡ earlier (first_of xs) (first_of ys)
first-append [] ys = refl
first-append (Some r ∷ xs) ys = refl
first-append (None ∷ xs) ys = first-append xs ys

pub refuses-front : (xs ys : List (Option Refusal)) (e : ItemFault) → Refuses (first_of xs) e → Refuses (first_of (xs ++ ys)) e
refuses-front xs ys e h =
    refuses-same (earlier (first_of xs) (first_of ys)) (first_of (xs ++ ys)) e (sym (first-append xs ys))
    (refuses-at (λ (q : Option Refusal). earlier q (first_of ys)) (λ r. refl) (first_of xs) e h)

pub first-behind : (xs ys : List (Option Refusal)) → first_of xs ≡ None → first_of (xs ++ ys) ≡ first_of ys
first-behind xs ys n = first-append xs ys ∙ ap (λ (q : Option Refusal). earlier q (first_of ys)) n

pub refuses-back : (xs ys : List (Option Refusal)) (e : ItemFault) → first_of xs ≡ None → Refuses (first_of ys) e → Refuses (first_of (xs ++ ys)) e
refuses-back xs ys e n h = refuses-same (first_of ys) (first_of (xs ++ ys)) e (sym (first-behind xs ys n)) h

pub tests-back : (xs ys : List (Option Refusal)) (r : Result (Unit {0}) ItemFault) → first_of xs ≡ None → Tests (first_of ys) r → Tests (first_of (xs ++ ys)) r
tests-back xs ys r n h = subst (λ (q : Option Refusal). Tests q r) (sym (first-behind xs ys n)) h

-- faults of types and terms
pub type-refused : (o : Option Fault) (e : TypeFault) → Finds o e → Refuses (fault_test o) (item_fault e)
type-refused o (faults.TheVariants.Duplicate c) h = absurd h
type-refused o (faults.TheVariants.UnknownType c) h = ap fault_test h
type-refused o (faults.TheVariants.Arity c) h = ap fault_test h
type-refused o (faults.TheVariants.UnknownConst c) h = ap fault_test h
type-refused o (faults.TheVariants.TypeArgs c) h = ap fault_test h
type-refused o (faults.TheVariants.Unbound x) h = ap fault_test h
type-refused o (faults.TheVariants.Mismatch t u) h = ap fault_test h
type-refused o faults.TheVariants.Memory h = tt

pub fault-is : {A : Type 0} (r : Result A Fault) → fault_of r ≡ result_err r
fault-is (Ok x) = refl
fault-is (Err f) = refl

pub term-refused : (sig : Signature) (t : TermTree) (e : TypeFault) → Finds (fault_of (typed sig [] t)) e → Refuses (fault_test (term_fault sig t)) (item_fault e)
term-refused sig t e h = type-refused (term_fault sig t) e (subst (λ (o : Option Fault). Finds o e) (fault-is (typed sig [] t)) h)

pub term-fine : (sig : Signature) (t : TermTree) (ty : TypeTree) → typed sig [] t ≡ Ok ty → fault_test (term_fault sig t) ≡ None
term-fine sig t ty h = ap (λ (r : Result TypeTree Fault). fault_test (result_err r)) h
