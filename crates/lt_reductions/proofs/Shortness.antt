-- Steps bring no new free variables; so a term whose free variables are short has as many nodes over a floor as it has.
use Rattle.std.proofs.Common.{◌≡◌, ℕ, zero, suc, ◌+◌, length, Bool, true, false, if◌then◌else◌, nat_eq, nat_lt, Option, Some, None, Err, refl, ◌∙◌, ap}
use Rattle.std.proofs.lemmas.Bool.{cond-false}
use Rattle.std.specs.Option.{option_map}
use Rattle.lt_definitions.specs.Types.{TypeTree, type_nodes}
use Rattle.lt_nameless.specs.Nameless.{Nameless, nameless_free, nameless_bound, nameless_loose, nameless_constant, nameless_application, nameless_abstraction}
use Rattle.lt_reductions.specs.Reducts.{lifted, before, put, in_parts, reduct, nodes, nodes_over, IsShort, checked, normal_from}
use Rattle.lt_reductions.proofs.Putting.{less-not}

index-short : (n : ℕ) (b : Bool) (i j : ℕ) → IsShort n (if b then nameless_bound i else nameless_bound j)
index-short n true i j = tt
index-short n false i j = tt

pub lifted-short : (n d : ℕ) (t : Nameless) → IsShort n t → IsShort n (lifted d t)
lifted-short n d (nameless_free x ty) h = h
lifted-short n d (nameless_bound i) h = index-short n (nat_lt i d) i (suc i)
lifted-short n d (nameless_loose x) h = tt
lifted-short n d (nameless_constant c ts) h = tt
lifted-short n d (nameless_application f a) h = (lifted-short n d f h.0, lifted-short n d a h.1)
lifted-short n d (nameless_abstraction ty b) h = lifted-short n (suc d) b h

either-short : (n : ℕ) (a b : Bool) (i : ℕ) (by : Nameless) → IsShort n by → IsShort n (if a then nameless_bound i else if b then by else nameless_bound (before i))
either-short n true b i by h = tt
either-short n false true i by h = h
either-short n false false i by h = tt

pub put-short : (n d : ℕ) (by t : Nameless) → IsShort n by → IsShort n t → IsShort n (put d by t)
put-short n d by (nameless_free x ty) k h = h
put-short n d by (nameless_bound i) k h = either-short n (nat_lt i d) (nat_eq i d) i by k
put-short n d by (nameless_loose x) k h = tt
put-short n d by (nameless_constant c ts) k h = tt
put-short n d by (nameless_application f a) k h = (put-short n d by f k h.0, put-short n d by a k h.1)
put-short n d by (nameless_abstraction ty b) k h = put-short n (suc d) (lifted 0 by) b (lifted-short n 0 by k) h

-- the same of a term that may be there
abbrev MayBeShort : ℕ → Option Nameless → Type 0
MayBeShort n None = Unit {0}
MayBeShort n (Some t) = IsShort n t

parts-short : (n : ℕ) (f a : Nameless) (o p : Option Nameless) → IsShort n f → IsShort n a → MayBeShort n o → MayBeShort n p → MayBeShort n (in_parts f a o p)
parts-short n f a (Some g) p h k q r = (q, k)
parts-short n f a None (Some c) h k q r = (h, r)
parts-short n f a None None h k q r = tt

under-short : (n : ℕ) (ty : TypeTree) (o : Option Nameless) → MayBeShort n o → MayBeShort n (option_map (nameless_abstraction ty) o)
under-short n ty (Some b) h = h
under-short n ty None h = tt

step-short : (n : ℕ) (t : Nameless) → IsShort n t → MayBeShort n (reduct t)
step-short n (nameless_free x ty) h = tt
step-short n (nameless_bound i) h = tt
step-short n (nameless_loose x) h = tt
step-short n (nameless_constant c ts) h = tt
step-short n (nameless_abstraction ty b) h = under-short n ty (reduct b) (step-short n b h)
step-short n (nameless_application (nameless_abstraction ty b) a) h = put-short n 0 a b h.1 h.0
step-short n (nameless_application (nameless_free x ty) a) h = parts-short n (nameless_free x ty) a None (reduct a) h.0 h.1 tt (step-short n a h.1)
step-short n (nameless_application (nameless_bound i) a) h = parts-short n (nameless_bound i) a None (reduct a) h.0 h.1 tt (step-short n a h.1)
step-short n (nameless_application (nameless_loose x) a) h = parts-short n (nameless_loose x) a None (reduct a) h.0 h.1 tt (step-short n a h.1)
step-short n (nameless_application (nameless_constant c ts) a) h = parts-short n (nameless_constant c ts) a None (reduct a) h.0 h.1 tt (step-short n a h.1)
step-short n (nameless_application (nameless_application g b) a) h =
    parts-short n (nameless_application g b) a (reduct (nameless_application g b)) (reduct a) h.0 h.1 (step-short n (nameless_application g b) h.0) (step-short n a h.1)

-- the counts agree
pub short-nodes : (floor : ℕ) (t : Nameless) → IsShort floor t → nodes_over floor t ≡ nodes t
short-nodes floor (nameless_free x ty) h = cond-false (nat_lt floor (length x)) 1 (1 + type_nodes ty) (less-not floor (length x) h)
short-nodes floor (nameless_bound i) h = refl
short-nodes floor (nameless_loose x) h = refl
short-nodes floor (nameless_constant c ts) h = refl
short-nodes floor (nameless_application f a) h = λ i. 1 + (short-nodes floor f h.0 i + short-nodes floor a h.1 i)
short-nodes floor (nameless_abstraction ty b) h = ap (λ n. 1 + (type_nodes ty + n)) (short-nodes floor b h)

-- and so do the limits
pub short-limits : (floor left most k : ℕ) (t : Nameless) → IsShort floor t → normal_from (nodes_over floor) left most k t ≡ normal_from nodes left most k t
short-limits floor zero most k t h = ap (λ n. checked (nat_lt most n) k t (reduct t) (λ u. Err k)) (short-nodes floor t h)
short-limits floor (suc left) most k t h =
    ap (λ n. checked (nat_lt most n) k t (reduct t) (λ u. normal_from (nodes_over floor) left most (suc k) u)) (short-nodes floor t h)
    ∙ behind (λ u m. short-limits floor left most (suc k) u m) (nat_lt most (nodes t)) (reduct t) (step-short floor t h)
  where
    behind : ((u : Nameless) → IsShort floor u → normal_from (nodes_over floor) left most (suc k) u ≡ normal_from nodes left most (suc k) u) → (b : Bool) (o : Option Nameless) → MayBeShort floor o
        → checked b k t o (λ u. normal_from (nodes_over floor) left most (suc k) u) ≡ checked b k t o (λ u. normal_from nodes left most (suc k) u)
    behind on true o m = refl
    behind on false None m = refl
    behind on false (Some u) m = on u m
