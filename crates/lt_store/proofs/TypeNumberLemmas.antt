-- Types by their numbers in a table.
use Rattle.std.proofs.Common.{◌≡◌, ℕ, zero, suc, ◌<◌, List, [], ◌∷◌, length, length-append, append-nil, slice_get, Some, None, Option, Result, Ok, refl, sym, ◌∙◌, ap, subst, arith}
use Rattle.std.proofs.lemmas.Option.{same_Some, slice_get-get_or, slice_get_within, get_or_from_slice_get}
use Rattle.std.proofs.lemmas.List.{get_or_append_left}
use Rattle.lt_definitions.specs.Types.{TypeTree, type_variable, fun}
use Rattle.lt_definitions.specs.Typing.{Fault, earlier, unless}
use Rattle.lt_hol.specs.declared.type_fault.TypeFault.{TypeFault}
use Rattle.lt_hol.specs.declared.type_fault.TypeFault.TheVariants.{Duplicate, UnknownType, Arity, UnknownConst, TypeArgs, Unbound, Mismatch, Memory}
use Rattle.lt_hol.specs.Faults.{Finds, fault_of}
use Rattle.lt_hol.specs.TypeTables.{type_at, Extends}
use Rattle.lt_store.specs.TypeNumbers.{Has, AreTypes, context_type}

pub has-one : (ts : List TypeTree) (n : ℕ) (t u : TypeTree) → Has ts n t → Has ts n u → t ≡ u
has-one ts n t u p q = same_Some t u (sym p ∙ q)

pub has-within : (ts : List TypeTree) (n : ℕ) (t : TypeTree) → Has ts n t → n < length ts
has-within ts n t p = slice_get_within ts n t p

pub has-at : (ts : List TypeTree) (n : ℕ) (t : TypeTree) → Has ts n t → type_at ts n ≡ t
has-at ts n t p = get_or_from_slice_get ts n t (type_variable []) p

pub at-has : (ts : List TypeTree) (n : ℕ) → n < length ts → Has ts n (type_at ts n)
at-has ts n h = slice_get-get_or ts n (type_variable []) h

pub extends-within : (old new : List TypeTree) (n : ℕ) → Extends old new → n < length old → n < length new
extends-within old new n k h = omega (arith, h, ap length k.is, length-append old k.more)

pub has-on : (old new : List TypeTree) (n : ℕ) (t : TypeTree) → Extends old new → Has old n t → Has new n t
has-on old new n t k p =
    let h = has-within old n t p in
    at-has new n (extends-within old new n k h) ∙ ap Some (ap (λ ts. type_at ts n) k.is ∙ get_or_append_left old k.more (type_variable []) n h ∙ has-at old n t p)

pub extends_same : (ts : List TypeTree) → Extends ts ts
extends_same ts = record { more = []; is = sym (append-nil ts) }

-- the types of functions between types of these numbers
pub has-fun : (old new : List TypeTree) (f a n : ℕ) (t u : TypeTree) → Has new n (fun (type_at old f) (type_at old a)) → Has old f t → Has old a u → Has new n (fun t u)
has-fun old new f a n t u h p q = h ∙ (λ i. Some (fun (has-at old f t p i) (has-at old a u q i)))

-- types of binders

pub context-inj : (xs ys : List TypeTree) → context_type xs ≡ context_type ys → xs ≡ ys
context-inj [] [] e = refl
context-inj [] (y ∷ ys) e = cc e
context-inj (x ∷ xs) [] e = cc e
context-inj (x ∷ xs) (y ∷ ys) e =
    let first : x ≡ y = cc e in
    let later : context_type xs ≡ context_type ys = cc e in
    let rest = context-inj xs ys later in
    λ i. first i ∷ rest i

pub types-on : (old new : List TypeTree) (ns : List ℕ) (tys : List TypeTree) → Extends old new → AreTypes old ns tys → AreTypes new ns tys
types-on old new [] [] k h = tt
types-on old new [] (ty ∷ tys) k h = h
types-on old new (n ∷ ns) [] k h = h
types-on old new (n ∷ ns) (ty ∷ tys) k h = (has-on old new n ty k h.0, types-on old new ns tys k h.1)

pub types-length : (ts : List TypeTree) (ns : List ℕ) (tys : List TypeTree) → AreTypes ts ns tys → length ns ≡ length tys
types-length ts [] [] h = refl
types-length ts [] (ty ∷ tys) h = absurd h
types-length ts (n ∷ ns) [] h = absurd h
types-length ts (n ∷ ns) (ty ∷ tys) h = ap suc (types-length ts ns tys h.1)

pub types-at : (ts : List TypeTree) (ns : List ℕ) (tys : List TypeTree) (i n : ℕ) → AreTypes ts ns tys → slice_get ns i ≡ Some n → (ty : TypeTree) × (slice_get tys i ≡ Some ty) × Has ts n ty
types-at ts [] [] i n h at = cc at
types-at ts [] (ty ∷ tys) i n h at = absurd h
types-at ts (m ∷ ns) [] i n h at = absurd h
types-at ts (m ∷ ns) (ty ∷ tys) zero n h at = let e : m ≡ n = same_Some m n at in (ty, refl, subst (λ (k : ℕ). Has ts k ty) e h.0)
types-at ts (m ∷ ns) (ty ∷ tys) (suc i) n h at = types-at ts ns tys i n h.1 at

-- faults

-- what is found in the first of two is found first
pub finds-first : (first later : Option Fault) (e : TypeFault) → Finds first e → Finds (earlier first later) e
finds-first (Some f) later e h = h
finds-first None later (UnknownType c) h = cc h
finds-first None later (Arity c) h = cc h
finds-first None later (UnknownConst c) h = cc h
finds-first None later (TypeArgs c) h = cc h
finds-first None later (Unbound x) h = cc h
finds-first None later (Mismatch t u) h = cc h
finds-first None later (Duplicate c) h = absurd h
finds-first None later Memory h = tt

pub finds-unless : {A : Type 0} (fault : Option Fault) (r : Result A Fault) (e : TypeFault) → Finds fault e → Finds (fault_of (unless fault r)) e
finds-unless (Some f) r e h = h
finds-unless None r e h = by r e (finds-first None (fault_of r) e h)
  where
    by : {A : Type 0} (r : Result A Fault) (e : TypeFault) → Finds (fault_of r) e → Finds (fault_of r) e
    by r e h = h

-- a type without fault
pub unless-right : (fault : Option Fault) (t u : TypeTree) → unless fault (Ok t) ≡ Ok u → (fault ≡ None) × (u ≡ t)
unless-right None t u e = (refl, cc e)
unless-right (Some f) t u e = cc e
