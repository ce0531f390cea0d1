-- What is known of terms, as a table of types grows.
use Rattle.std.proofs.Common.{◌≡◌, ℕ, zero, suc, ◌+◌, ◌<◌, ◌≤◌, List, [], ◌∷◌, ◌++◌, length, map, take, drop, reverse, get_or, slice_get, Option, Some, None, Result, Ok, Err, Bool, true, false, nat_eq, codes, refl, ap, sym, ◌∙◌, subst, arith, if◌then◌else◌, ◌&&◌, inl, inr, append_assoc, append-nil, length-append}
use Rattle.std.proofs.lemmas.Option.{slice_get_within, get_or_from_slice_get}
use Rattle.std.proofs.lemmas.List.{reverse-append, length-reverse, take_more, map-append, length-map}
use Rattle.std.proofs.lemmas.Bool.{true≢false}
use Rattle.std.proofs.Math.Seq.{drop-cons, take-length, get_or-append_seam}
use Rattle.lt_definitions.specs.Types.{Chars, same_name, TypeTree, type_variable, type_constructor, no_types, type_and, row, same_type, found, type_variables}
use Rattle.lt_definitions.specs.Typing.{Signature, Fault, unknown_type, arity, unknown_const, type_args, unbound, mismatch, with_ok, unless, applied_type, type_fault, types_fault, earlier, at_types, constant_type, typed}
use Rattle.lt_definitions.specs.Terms.{TermTree, free_variable, bound_name, constant, application, abstraction}
use Rattle.lt_definitions.proofs.SameNames.{bool_cases, type-true, true-type}
use Rattle.lt_hol.specs.declared.outcome.Outcome.{Outcome}
use Rattle.lt_hol.specs.declared.outcome.Outcome.TheVariants.{Known, Mismatch, Wrong}
use Rattle.lt_hol.specs.declared.type_fault.TypeFault.{TypeFault}
use Rattle.lt_hol.specs.declared.type_fault.TypeFault.TheVariants.{Duplicate, UnknownType, Arity, UnknownConst, TypeArgs, Unbound, Mismatch as MismatchFault, Memory}
use Rattle.lt_hol.specs.Faults.{Finds, fault_of}
use Rattle.lt_hol.specs.Outcomes.{Typed, IsOutcome, AreOutcomes, IsWithin, AreWithin, IsHint, AreHints, binder_type, at_binder, bound_types, typed_step}
use Rattle.lt_terms.specs.declared.bound_names.Binder.{Binder}
use Rattle.lt_terms.specs.declared.term.TermNode.{TermNode}
use Rattle.lt_terms.specs.declared.term.TermNode.TheVariants.{App, Lam}
use Rattle.lt_terms.specs.Layout.{under, term_nodes}
use Rattle.lt_terms.specs.BoundNames.{Places, binder_of, further, binders_in}
use Rattle.lt_terms.proofs.LayoutLemmas.{length-term_nodes, regroup}
use Rattle.lt_hol.specs.TypeTables.{type_at, Extends, function_parts}
use Rattle.lt_hol.proofs.DistinctTypes.{type_at-more}
use Rattle.lt_hol.proofs.TypeNumbers.{extends-length, AreNumbers, numbers-more}

-- ---- a table that has grown

pub type_at-later : (old new : List TypeTree) (i : ℕ) → Extends old new → i < length old → type_at new i ≡ type_at old i
type_at-later old new i e h = ap (λ ts. type_at ts i) e.is ∙ type_at-more old e.more i h

below-later : (old new : List TypeTree) (i : ℕ) → Extends old new → i < length old → i < length new
below-later old new i e h = omega (arith, h, extends-length old new e)

pub outcome-later : (old new : List TypeTree) (o : Outcome) (r : Typed) → Extends old new → IsOutcome old o r → IsOutcome new o r
outcome-later old new (Known id) r e h = (below-later old new id e h.0, h.1 ∙ ap (λ t. Ok t) (sym (type_at-later old new id e h.0)))
outcome-later old new (Mismatch i j) r e h =
    (below-later old new i e h.0, below-later old new j e h.1, h.2 ∙ (λ k. Err (mismatch (sym (type_at-later old new i e h.0) k) (sym (type_at-later old new j e h.1) k))))
outcome-later old new (Wrong f) r e h = h

pub outcomes-later : (old new : List TypeTree) (os : List Outcome) (rs : List Typed) → Extends old new → AreOutcomes old os rs → AreOutcomes new os rs
outcomes-later old new [] [] e h = tt
outcomes-later old new (o ∷ os) (r ∷ rs) e h = (outcome-later old new o r e h.0, outcomes-later old new os rs e h.1)
outcomes-later old new [] (r ∷ rs) e h = h
outcomes-later old new (o ∷ os) [] e h = h

pub hint-later : (old new : List TypeTree) (h : Option ℕ) (b : Option TypeTree) → Extends old new → IsHint old h b → IsHint new h b
hint-later old new None b e k = k
hint-later old new (Some id) b e k = (below-later old new id e k.0, k.1 ∙ ap (λ t. Some t) (sym (type_at-later old new id e k.0)))

pub hints-later : (old new : List TypeTree) (hs : List (Option ℕ)) (bs : List (Option TypeTree)) → Extends old new → AreHints old hs bs → AreHints new hs bs
hints-later old new [] [] e h = tt
hints-later old new (x ∷ hs) (b ∷ bs) e h = (hint-later old new x b e h.0, hints-later old new hs bs e h.1)
hints-later old new [] (b ∷ bs) e h = h
hints-later old new (x ∷ hs) [] e h = h

outcome-within : (table : List TypeTree) (o : Outcome) (r : Typed) → IsOutcome table o r → IsWithin (length table) o
outcome-within table (Known id) r h = h.0
outcome-within table (Mismatch i j) r h = tt
outcome-within table (Wrong f) r h = tt

pub outcomes-within : (table : List TypeTree) (os : List Outcome) (rs : List Typed) → AreOutcomes table os rs → AreWithin (length table) os
outcomes-within table [] [] h = tt
outcomes-within table (o ∷ os) (r ∷ rs) h = (outcome-within table o r h.0, outcomes-within table os rs h.1)
outcomes-within table [] (r ∷ rs) h = absurd h
outcomes-within table (o ∷ os) [] h = absurd h

-- ---- outcomes of parts and wholes

-- a number that stands for a type
pub known : (table : List TypeTree) (id : ℕ) (t : TypeTree) → slice_get table id ≡ Some t → IsOutcome table (Known id) (Ok t)
known table id t at = (slice_get_within table id t at, ap (λ u. Ok u) (sym (get_or_from_slice_get table id t (type_variable []) at)))

kept : {A : Type 0} (r : Result A Fault) (k : A → Typed) (f : Fault) → fault_of r ≡ Some f → fault_of (with_ok r k) ≡ Some f
kept (Ok x) k f h = absurd (cc (h))
kept (Err e) k f h = h

-- a fault of a part is the fault of the whole
finds-part : {A : Type 0} (r : Result A Fault) (k : A → Typed) (e : TypeFault) → Finds (fault_of r) e → Finds (fault_of (with_ok r k)) e
finds-part r k (Duplicate c) h = h
finds-part r k (UnknownType c) h = kept r k (unknown_type c) h
finds-part r k (Arity c) h = kept r k (arity c) h
finds-part r k (UnknownConst c) h = kept r k (unknown_const c) h
finds-part r k (TypeArgs c) h = kept r k (type_args c) h
finds-part r k (Unbound x) h = kept r k (unbound x) h
finds-part r k (MismatchFault t u) h = kept r k (mismatch t u) h
finds-part r k Memory h = tt

pub mismatch-part : (table : List TypeTree) (i j : ℕ) (r : Typed) (k : TypeTree → Typed) → IsOutcome table (Mismatch i j) r → IsOutcome table (Mismatch i j) (with_ok r k)
mismatch-part table i j r k h = (h.0, h.1, ap (λ s. with_ok s k) h.2)

pub wrong-part : (table : List TypeTree) (e : TypeFault) (r : Typed) (k : TypeTree → Typed) → IsOutcome table (Wrong e) r → IsOutcome table (Wrong e) (with_ok r k)
wrong-part table e r k h = finds-part r k e h

pub known-part : (table : List TypeTree) (id : ℕ) (o : Outcome) (r : Typed) (k : TypeTree → Typed) → IsOutcome table (Known id) r → IsOutcome table o (k (type_at table id)) → IsOutcome table o (with_ok r k)
known-part table id o r k h made = subst (λ s. IsOutcome table o (with_ok s k)) (sym h.1) made

-- ---- faults of types

unless-fault : (f : Option Fault) (r : Typed) (g : Fault) → f ≡ Some g → fault_of (unless f r) ≡ Some g
unless-fault None r g h = absurd (cc (h))
unless-fault (Some f) r g h = h

pub unless-wrong : (f : Option Fault) (r : Typed) (e : TypeFault) → Finds f e → Finds (fault_of (unless f r)) e
unless-wrong f r (Duplicate c) h = h
unless-wrong f r (UnknownType c) h = unless-fault f r (unknown_type c) h
unless-wrong f r (Arity c) h = unless-fault f r (arity c) h
unless-wrong f r (UnknownConst c) h = unless-fault f r (unknown_const c) h
unless-wrong f r (TypeArgs c) h = unless-fault f r (type_args c) h
unless-wrong f r (Unbound x) h = unless-fault f r (unbound x) h
unless-wrong f r (MismatchFault t u) h = unless-fault f r (mismatch t u) h
unless-wrong f r Memory h = tt

pub unless-right : (table : List TypeTree) (o : Outcome) (f : Option Fault) (r : Typed) → f ≡ None → IsOutcome table o r → IsOutcome table o (unless f r)
unless-right table o f r e h = subst (λ g. IsOutcome table o (unless g r)) (sym e) h

-- ---- applications

-- the type of an application, by the parts of the function's type
abbrev by_parts : Option (TypeTree × TypeTree) → TypeTree → TypeTree → Typed
by_parts None t u = Err (mismatch t u)
by_parts (Some p) t u = if same_type p.0 u then Ok p.1 else Err (mismatch t u)

both-tests : (b c : Bool) (from to t u : TypeTree) → c ≡ same_type from u → (if b && c then Ok to else Err (mismatch t u)) ≡ by_parts (if b then Some (from, to) else None) t u
both-tests true c from to t u e = ap (λ (d : Bool). if d then Ok to else Err (mismatch t u)) e
both-tests false c from to t u e = refl

pub applied-parts : (t u : TypeTree) → applied_type t u ≡ by_parts (function_parts t) t u
applied-parts (type_variable x) u = refl
applied-parts (type_constructor c no_types) u = refl
applied-parts (type_constructor c (type_and from no_types)) u = refl
applied-parts (type_constructor c (type_and from (type_and to no_types))) u = both-tests (same_name c (codes "fun")) (same_type from u) from to (type_constructor c (type_and from (type_and to no_types))) u refl
applied-parts (type_constructor c (type_and from (type_and to (type_and more ts)))) u = refl

pub applies : (table : List TypeTree) (t u from to : ℕ) → Some (type_at table from, type_at table to) ≡ function_parts (type_at table t) → type_at table from ≡ type_at table u
    → applied_type (type_at table t) (type_at table u) ≡ Ok (type_at table to)
applies table t u from to parts same =
    applied-parts (type_at table t) (type_at table u) ∙ ap (λ p. by_parts p (type_at table t) (type_at table u)) (sym parts)
    ∙ ap (λ (b : Bool). if b then Ok (type_at table to) else Err (mismatch (type_at table t) (type_at table u))) (true-type (type_at table from) (type_at table u) same)

pub applies-not : (table : List TypeTree) (t u from to : ℕ) (b : Bool) → Some (type_at table from, type_at table to) ≡ function_parts (type_at table t) → (type_at table from ≡ type_at table u → b ≡ true) → b ≡ false
    → applied_type (type_at table t) (type_at table u) ≡ Err (mismatch (type_at table t) (type_at table u))
applies-not table t u from to b parts same differs =
    applied-parts (type_at table t) (type_at table u) ∙ ap (λ p. by_parts p (type_at table t) (type_at table u)) (sym parts)
    ∙ ap (λ (c : Bool). if c then Ok (type_at table to) else Err (mismatch (type_at table t) (type_at table u))) differ
  where
    differ : same_type (type_at table from) (type_at table u) ≡ false
    differ = elim (bool_cases (same_type (type_at table from) (type_at table u))) [
      | inl t ↦ absurd (true≢false (sym (same (type-true (type_at table from) (type_at table u) t)) ∙ differs))
      | inr f ↦ f
    ]

-- ---- the stack of outcomes

-- the last outcome is taken
pub with-last : (G : List Typed → Type 0) (table : List TypeTree) (outs left : List Outcome) (o : Outcome) (rs : List Typed) → outs ≡ left ++ o ∷ [] → AreOutcomes table (reverse outs) rs
    → ((r : Typed) (ss : List Typed) → IsOutcome table o r → AreOutcomes table (reverse left) ss → G (r ∷ ss)) → G rs
with-last G table outs left o rs e h k = by rs (subst (λ os. AreOutcomes table os rs) (ap reverse e ∙ reverse-append left (o ∷ [])) h)
  where
    by : (ss : List Typed) → AreOutcomes table (o ∷ reverse left) ss → G ss
    by [] a = absurd a
    by (r ∷ ss) a = k r ss a.0 a.1

-- one more outcome
pub one-more : (old new : List TypeTree) (outs more : List Outcome) (o : Outcome) (r : Typed) (rs : List Typed) → Extends old new → reverse more ≡ o ∷ reverse outs → IsOutcome new o r → AreOutcomes old (reverse outs) rs
    → AreOutcomes new (reverse more) (r ∷ rs)
one-more old new outs more o r rs e is h k = subst (λ os. AreOutcomes new os (r ∷ rs)) (sym is) (h, outcomes-later old new (reverse outs) rs e k)

-- ---- constants

pub instance-none : (sig : Signature) (c : Chars) (ts us : List TypeTree) (d : TypeTree) → us ≡ ts → nat_eq (length us) (length (type_variables d)) ≡ false → constant_type sig c ts (Some d) ≡ Err (type_args c)
instance-none sig c ts us d e n =
    ap (λ (b : Bool). if b then unless (types_fault sig (row ts)) (Ok (at_types d ts)) else Err (type_args c)) (ap (λ (vs : List TypeTree). nat_eq (length vs) (length (type_variables d))) (sym e) ∙ n)

pub instance-some : (sig : Signature) (c : Chars) (ts us : List TypeTree) (d : TypeTree) → us ≡ ts → nat_eq (length us) (length (type_variables d)) ≡ true
    → constant_type sig c ts (Some d) ≡ unless (types_fault sig (row ts)) (Ok (at_types d ts))
instance-some sig c ts us d e n =
    ap (λ (b : Bool). if b then unless (types_fault sig (row ts)) (Ok (at_types d ts)) else Err (type_args c)) (ap (λ (vs : List TypeTree). nat_eq (length vs) (length (type_variables d))) (sym e) ∙ n)

-- ---- types one after another

earlier-fault : (f g : Option Fault) (x : Fault) → f ≡ Some x → earlier f g ≡ Some x
earlier-fault None g x h = absurd (cc (h))
earlier-fault (Some y) g x h = h

earlier-wrong : (f g : Option Fault) (e : TypeFault) → Finds f e → Finds (earlier f g) e
earlier-wrong f g (Duplicate c) h = h
earlier-wrong f g (UnknownType c) h = earlier-fault f g (unknown_type c) h
earlier-wrong f g (Arity c) h = earlier-fault f g (arity c) h
earlier-wrong f g (UnknownConst c) h = earlier-fault f g (unknown_const c) h
earlier-wrong f g (TypeArgs c) h = earlier-fault f g (type_args c) h
earlier-wrong f g (Unbound x) h = earlier-fault f g (unbound x) h
earlier-wrong f g (MismatchFault t u) h = earlier-fault f g (mismatch t u) h
earlier-wrong f g Memory h = tt

next-types : (types : List TypeTree) (i : ℕ) (t : TypeTree) → i < length types → t ≡ get_or types i t → drop i types ≡ t ∷ drop (i + 1) types
next-types types i t lt is = let e : suc i ≡ i + 1 = omega arith in drop-cons types i t lt ∙ (λ j. sym is j ∷ drop (e j) types)

pub checked-all : (sig : Signature) (types : List TypeTree) (i : ℕ) (t : TypeTree) → i < length types → t ≡ get_or types i t → type_fault sig t ≡ None
    → types_fault sig (row types) ≡ types_fault sig (row (drop i types)) → types_fault sig (row types) ≡ types_fault sig (row (drop (i + 1) types))
checked-all sig types i t lt is right h =
    h ∙ ap (λ ts. types_fault sig (row ts)) (next-types types i t lt is) ∙ ap (λ f. earlier f (types_fault sig (row (drop (i + 1) types)))) right

pub found-wrong : (sig : Signature) (types : List TypeTree) (i : ℕ) (t : TypeTree) (e : TypeFault) → i < length types → t ≡ get_or types i t → Finds (type_fault sig t) e
    → types_fault sig (row types) ≡ types_fault sig (row (drop i types)) → Finds (types_fault sig (row types)) e
found-wrong sig types i t e lt is wrong h =
    subst (λ f. Finds f e) (sym (h ∙ ap (λ ts. types_fault sig (row ts)) (next-types types i t lt is))) (earlier-wrong (type_fault sig t) (types_fault sig (row (drop (i + 1) types))) e wrong)

drop-past : (ts : List TypeTree) (i : ℕ) → length ts ≤ i → drop i ts ≡ []
drop-past [] zero le = refl
drop-past [] (suc i) le = refl
drop-past (t ∷ ts) zero le = absurd (omega arith)
drop-past (t ∷ ts) (suc i) le = drop-past ts i (omega arith)

pub none-wrong : (sig : Signature) (types : List TypeTree) (i : ℕ) → length types ≤ i → types_fault sig (row types) ≡ types_fault sig (row (drop i types)) → types_fault sig (row types) ≡ None
none-wrong sig types i le h = h ∙ ap (λ ts. types_fault sig (row ts)) (drop-past types i le)

pub numbers-next : (old new : List TypeTree) (ids more : List ℕ) (types : List TypeTree) (i id : ℕ) (t : TypeTree) → Extends old new → AreNumbers old ids (take i types) → slice_get new id ≡ Some t → more ≡ ids ++ id ∷ []
    → i < length types → t ≡ get_or types i t → AreNumbers new more (take (i + 1) types)
numbers-next old new ids more types i id t e h at is lt at_i =
    subst (AreNumbers new more) (sym (take_more types i t lt ∙ ap (λ u. take i types ++ u ∷ []) (sym at_i))) (numbers-more old new ids more (take i types) id t e h at is)

-- ---- hints

hints-append : (table : List TypeTree) (hs : List (Option ℕ)) (bs : List (Option TypeTree)) (h : Option ℕ) (b : Option TypeTree) → AreHints table hs bs → IsHint table h b → AreHints table (hs ++ h ∷ []) (bs ++ b ∷ [])
hints-append table [] [] h b a k = (k, tt)
hints-append table (x ∷ hs) (c ∷ bs) h b a k = (a.0, hints-append table hs bs h b a.1 k)
hints-append table [] (c ∷ bs) h b a k = absurd a
hints-append table (x ∷ hs) [] h b a k = absurd a

pub hints-next : (old new : List TypeTree) (hs more : List (Option ℕ)) (nodes : List TermNode) (i : ℕ) (n : TermNode) (h : Option ℕ) → Extends old new → AreHints old hs (map binder_type (take i nodes)) → IsHint new h (binder_type n)
    → more ≡ hs ++ h ∷ [] → i < length nodes → n ≡ get_or nodes i n → AreHints new more (map binder_type (take (i + 1) nodes))
hints-next old new hs more nodes i n h e a k is lt at =
    subst (λ xs. AreHints new xs (map binder_type (take (i + 1) nodes))) (sym is)
    (subst (AreHints new (hs ++ h ∷ [])) (sym (ap (map binder_type) (take_more nodes i n lt ∙ ap (λ m. take i nodes ++ m ∷ []) (sym at)) ∙ map-append binder_type (take i nodes) (n ∷ [])))
    (hints-append new hs (map binder_type (take i nodes)) h (binder_type n) (hints-later old new hs (map binder_type (take i nodes)) e a) k))

pub hint-at-place : (table : List TypeTree) (hs : List (Option ℕ)) (bs : List (Option TypeTree)) (i : ℕ) → AreHints table hs bs → IsHint table (get_or hs i None) (get_or bs i None)
hint-at-place table [] [] zero h = refl
hint-at-place table [] [] (suc i) h = refl
hint-at-place table (x ∷ hs) (b ∷ bs) zero h = h.0
hint-at-place table (x ∷ hs) (b ∷ bs) (suc i) h = hint-at-place table hs bs i h.1
hint-at-place table [] (b ∷ bs) i h = absurd h
hint-at-place table (x ∷ hs) [] i h = absurd h

hint-of : (table : List TypeTree) (hs : List (Option ℕ)) (bs : List (Option TypeTree)) (b : Option Binder) → AreHints table hs bs → IsHint table (at_binder hs b) (at_binder bs b)
hint-of table hs bs None h = refl
hint-of table hs bs (Some b) h = hint-at-place table hs bs b.place h

hints-of : (table : List TypeTree) (hs : List (Option ℕ)) (bs : List (Option TypeTree)) (binders : List (Option Binder)) → AreHints table hs bs → AreHints table (map (at_binder hs) binders) (map (at_binder bs) binders)
hints-of table hs bs [] h = tt
hints-of table hs bs (b ∷ binders) h = (hint-of table hs bs b h, hints-of table hs bs binders h)

-- what stands at the place of each open binder is its type
abbrev Agrees : List TermNode → Places → List (Chars × TypeTree) → Type 0
Agrees nodes around env = (x : Chars) → at_binder (map binder_type nodes) (binder_of x around) ≡ found x env

at-further : (bs : List (Option TypeTree)) (o : Option Binder) → at_binder bs (further o) ≡ at_binder bs o
at-further bs None = refl
at-further bs (Some b) = refl

chosen : (c : Bool) (bs : List (Option TypeTree)) (b : Binder) (o : Option Binder) (t : TypeTree) (f : Option TypeTree) → at_binder bs (Some b) ≡ Some t → at_binder bs o ≡ f → at_binder bs (if c then Some b else further o) ≡ (if c then Some t else f)
chosen true bs b o t f h k = h
chosen false bs b o t f h k = at-further bs o ∙ k

type-there : (nodes front back : List TermNode) (place : ℕ) (x : Chars) (t : TypeTree) (i : ℕ) → nodes ≡ front ++ (Lam x t i ∷ back) → place ≡ length front → get_or (map binder_type nodes) place None ≡ Some t
type-there nodes front back place x t i is e =
    (λ j. get_or (map binder_type (is j)) (e j) None) ∙ ap (λ bs. get_or bs (length front) None) (map-append binder_type front (Lam x t i ∷ back))
    ∙ ap (λ k. get_or (map binder_type front ++ (Some t ∷ map binder_type back)) k None) (sym (length-map front binder_type))
    ∙ get_or-append_seam (map binder_type front) (Some t) (map binder_type back) None

pub bound-types : (nodes front back : List TermNode) (from : ℕ) (around : Places) (env : List (Chars × TypeTree)) (t : TermTree) → nodes ≡ front ++ (term_nodes from t ++ back) → from ≡ length front → Agrees nodes around env
    → map (at_binder (map binder_type nodes)) (binders_in from around t) ≡ bound_types env t
bound-types nodes front back from around env (free_variable x t) is e a = refl
bound-types nodes front back from around env (bound_name x) is e a = ap (λ b. b ∷ []) (a x)
bound-types nodes front back from around env (constant c ts) is e a = refl
bound-types nodes front back from around env (application f u) is e a =
    let at : ℕ = from + (under f + 1) in
    let last : TermNode = App (from + under f) (at + under u) in
    let left : nodes ≡ front ++ (term_nodes from f ++ (term_nodes at u ++ (last ∷ back))) = is ∙ ap (λ ns. front ++ ns) (regroup (term_nodes from f) (term_nodes at u) (last ∷ []) back) in
    let right : nodes ≡ (front ++ term_nodes from f) ++ (term_nodes at u ++ (last ∷ back)) = left ∙ sym (append_assoc front (term_nodes from f) (term_nodes at u ++ (last ∷ back))) in
    let count : at ≡ length (front ++ term_nodes from f) = omega (arith, e, length-append front (term_nodes from f), length-term_nodes from f) in
    map-append (at_binder (map binder_type nodes)) (binders_in from around f) (binders_in at around u ++ None ∷ [])
    ∙ (λ j. bound-types nodes front (term_nodes at u ++ (last ∷ back)) from around env f left e a j
    ++ (map-append (at_binder (map binder_type nodes)) (binders_in at around u) (None ∷ [])
    ∙ ap (λ bs. bs ++ None ∷ []) (bound-types nodes (front ++ term_nodes from f) (last ∷ back) at around env u right count a)) j)
bound-types nodes front back from around env (abstraction x t b) is e a =
    let place : ℕ = from + (under b + 1) in
    let last : TermNode = Lam x t (from + under b) in
    let left : nodes ≡ front ++ (term_nodes from b ++ (last ∷ back)) = is ∙ ap (λ ns. front ++ ns) (append_assoc (term_nodes from b) (last ∷ []) back) in
    let right : nodes ≡ (front ++ term_nodes from b) ++ (last ∷ back) = left ∙ sym (append_assoc front (term_nodes from b) (last ∷ back)) in
    let count : place ≡ length (front ++ term_nodes from b) = omega (arith, e, length-append front (term_nodes from b), length-term_nodes from b) in
    let here : get_or (map binder_type nodes) place None ≡ Some t = type-there nodes (front ++ term_nodes from b) back place x t (from + under b) right count in
    map-append (at_binder (map binder_type nodes)) (binders_in from ((x, place) ∷ around) b) (None ∷ [])
    ∙ ap (λ bs. bs ++ None ∷ [])
    (bound-types nodes front (last ∷ back) from ((x, place) ∷ around) ((x, t) ∷ env) b left e
    (λ y. chosen (same_name y x) (map binder_type nodes) (record { place = place; index = 0 }) (binder_of y around) t (found y env) here (a y)))

pub all-hints : (table : List TypeTree) (t : TermTree) (nodes : List TermNode) (types hints : List (Option ℕ)) (binders : List (Option Binder)) → nodes ≡ term_nodes 0 t → AreHints table types (map binder_type nodes)
    → binders ≡ binders_in 0 [] t → hints ≡ map (at_binder types) binders → AreHints table hints (bound_types [] t)
all-hints table t nodes types hints binders is h found made =
    subst (λ hs. AreHints table hs (bound_types [] t)) (sym made)
    (subst (AreHints table (map (at_binder types) binders))
    (ap (map (at_binder (map binder_type nodes))) found ∙ bound-types nodes [] [] 0 [] [] t (is ∙ sym (append-nil (term_nodes 0 t))) refl (λ x. refl))
    (hints-of table types (map binder_type nodes) binders h))

-- ---- the pass over the nodes

abbrev pub typed_stack : Signature → List Typed → List TermNode → List (Option TypeTree) → List Typed
typed_stack sig rs [] bs = rs
typed_stack sig rs (n ∷ ns) bs = typed_stack sig (typed_step sig rs n (get_or bs 0 None)) ns (drop 1 bs)

place-after : (bs : List (Option TypeTree)) (i : ℕ) → get_or (drop 1 bs) i None ≡ get_or bs (suc i) None
place-after [] zero = refl
place-after [] (suc i) = refl
place-after (b ∷ bs) i = refl

pub stack-next : (sig : Signature) (rs : List Typed) (nodes : List TermNode) (bs : List (Option TypeTree)) (i : ℕ) (n : TermNode) → i < length nodes → n ≡ get_or nodes i n
    → typed_stack sig rs (take (suc i) nodes) bs ≡ typed_step sig (typed_stack sig rs (take i nodes) bs) n (get_or bs i None)
stack-next sig rs [] bs i n lt is = absurd (omega arith)
stack-next sig rs (m ∷ nodes) bs zero n lt is = ap (λ k. typed_step sig rs k (get_or bs 0 None)) (sym is)
stack-next sig rs (m ∷ nodes) bs (suc i) n lt is =
    stack-next sig (typed_step sig rs m (get_or bs 0 None)) nodes (drop 1 bs) i n (omega arith) is
    ∙ ap (typed_step sig (typed_stack sig (typed_step sig rs m (get_or bs 0 None)) (take i nodes) (drop 1 bs)) n) (place-after bs i)

drop-one : (b : Option TypeTree) (bs cs : List (Option TypeTree)) → drop 1 ((b ∷ bs) ++ cs) ≡ bs ++ cs
drop-one b bs cs = refl

-- a term's nodes make its type, or its first fault
pub stack-typed : (sig : Signature) (env : List (Chars × TypeTree)) (from : ℕ) (t : TermTree) (rs : List Typed) (ns : List TermNode) (bs : List (Option TypeTree))
    → typed_stack sig rs (term_nodes from t ++ ns) (bound_types env t ++ bs) ≡ typed_stack sig (typed sig env t ∷ rs) ns bs
stack-typed sig env from (free_variable x t) rs ns bs = refl
stack-typed sig env from (bound_name x) rs ns bs = refl
stack-typed sig env from (constant c ts) rs ns bs = refl
stack-typed sig env from (application f u) rs ns bs =
    let at : ℕ = from + (under f + 1) in
    let last : TermNode = App (from + under f) (at + under u) in
    (λ j. typed_stack sig rs (regroup (term_nodes from f) (term_nodes at u) (last ∷ []) ns j) (regroup (bound_types env f) (bound_types env u) (None ∷ []) bs j))
    ∙ stack-typed sig env from f rs (term_nodes at u ++ (last ∷ ns)) (bound_types env u ++ (None ∷ bs))
    ∙ stack-typed sig env at u (typed sig env f ∷ rs) (last ∷ ns) (None ∷ bs)
stack-typed sig env from (abstraction x t b) rs ns bs =
    (λ j. typed_stack sig rs (append_assoc (term_nodes from b) (Lam x t (from + under b) ∷ []) ns j) (append_assoc (bound_types ((x, t) ∷ env) b) (None ∷ []) bs j))
    ∙ stack-typed sig ((x, t) ∷ env) from b rs (Lam x t (from + under b) ∷ ns) (None ∷ bs)

pub stack-whole : (sig : Signature) (t : TermTree) (nodes : List TermNode) (i : ℕ) → nodes ≡ term_nodes 0 t → i ≤ length nodes → length nodes ≤ i → typed_stack sig [] (take i nodes) (bound_types [] t) ≡ typed sig [] t ∷ []
stack-whole sig t nodes i is up down =
    let e : i ≡ length nodes = omega arith in
    ap (λ ns. typed_stack sig [] ns (bound_types [] t)) (ap (λ k. take k nodes) e ∙ take-length nodes ∙ is ∙ sym (append-nil (term_nodes 0 t)))
    ∙ ap (typed_stack sig [] (term_nodes 0 t ++ [])) (sym (append-nil (bound_types [] t)))
    ∙ stack-typed sig [] 0 t [] [] []

pub some-outcome : (table : List TypeTree) (outs : List Outcome) (r : Typed) → AreOutcomes table (reverse outs) (r ∷ []) → 0 < length outs
some-outcome table outs r h = by (reverse outs) h (length-reverse outs)
  where
    by : (os : List Outcome) → AreOutcomes table os (r ∷ []) → length os ≡ length outs → 0 < length outs
    by [] a e = absurd a
    by (o ∷ os) a e = omega (arith, e)
