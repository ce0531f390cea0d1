-- Typing in one pass over the nodes of a term, from the first to the last.
use Rattle.std.specs.Prelude.{◌≡◌, ℕ, ◌<◌, List, [], ◌∷◌, ◌++◌, length, slice_index_or, Option, Some, None, Result, Ok, Err}
use Rattle.lt_definitions.specs.Types.{Chars, TypeTree, found, fun}
use Rattle.lt_definitions.specs.Terms.{TermTree, free_variable, bound_name, constant, application, abstraction}
use Rattle.lt_definitions.specs.Typing.{Signature, Fault, mismatch, type_fault, unless, with_ok, constant_type, declared_type, applied_type, bound_type}
use Rattle.lt_terms.specs.declared.bound_names.Binder.{Binder}
use Rattle.lt_hol.specs.declared.outcome.Outcome.{Outcome}
use Rattle.lt_hol.specs.declared.outcome.Outcome.TheVariants.{Known, Mismatch, Wrong}
use Rattle.lt_terms.specs.declared.term.TermNode.{TermNode}
use Rattle.lt_terms.specs.declared.term.TermNode.TheVariants.{Free, Bound, Const, App, Lam}
use Rattle.lt_hol.specs.Faults.{Finds, fault_of}
use Rattle.lt_hol.specs.TypeTables.{type_at}

-- a term's type, or its first fault
abbrev pub Typed : Type 0
Typed = Result TypeTree Fault

-- What is known of a term is its type, or its first fault.
abbrev pub IsOutcome : List TypeTree → Outcome → Typed → Type 0
IsOutcome table (Known id) r = (id < length table) × (r ≡ Ok (type_at table id))
IsOutcome table (Mismatch i j) r = (i < length table) × (j < length table) × (r ≡ Err (mismatch (type_at table i) (type_at table j)))
IsOutcome table (Wrong e) r = Finds (fault_of r) e

-- one after another
abbrev pub AreOutcomes : List TypeTree → List Outcome → List Typed → Type 0
AreOutcomes table [] [] = Unit {0}
AreOutcomes table (o ∷ os) (r ∷ rs) = IsOutcome table o r × AreOutcomes table os rs
AreOutcomes table _ _ = ⊥

-- The numbers in what is known are below a bound.
abbrev pub IsWithin : ℕ → Outcome → Type 0
IsWithin n (Known id) = id < n
IsWithin n _ = Unit {0}

abbrev pub AreWithin : ℕ → List Outcome → Type 0
AreWithin n [] = Unit {0}
AreWithin n (o ∷ os) = IsWithin n o × AreWithin n os

-- The last two outcomes, the last one first, become that of an application; the last one becomes that of an abstraction.
abbrev pub applied_outcomes : List Typed → List Typed
applied_outcomes (s ∷ r ∷ rs) = with_ok r (λ t. with_ok s (λ u. applied_type t u)) ∷ rs
applied_outcomes _ = []

abbrev pub abstracted_outcomes : Signature → TypeTree → List Typed → List Typed
abstracted_outcomes sig ty (r ∷ rs) = unless (type_fault sig ty) (with_ok r (λ u. Ok (fun ty u))) ∷ rs
abstracted_outcomes sig ty [] = []

-- what a node makes of the outcomes before it, the last one first, where the type of its binder is given
abbrev pub typed_step : Signature → List Typed → TermNode → Option TypeTree → List Typed
typed_step sig rs (Free x ty) bound = unless (type_fault sig ty) (Ok ty) ∷ rs
typed_step sig rs (Bound x) bound = bound_type x bound ∷ rs
typed_step sig rs (Const c ts) bound = constant_type sig c ts (declared_type sig c) ∷ rs
typed_step sig rs (App f a) bound = applied_outcomes rs
typed_step sig rs (Lam x ty b) bound = abstracted_outcomes sig ty rs

-- for each node of a term, the type of its binder, if it is a bound name that has one
abbrev pub bound_types : List (Chars × TypeTree) → TermTree → List (Option TypeTree)
bound_types env (free_variable x t) = None ∷ []
bound_types env (bound_name x) = found x env ∷ []
bound_types env (constant c ts) = None ∷ []
bound_types env (application f a) = bound_types env f ++ (bound_types env a ++ None ∷ [])
bound_types env (abstraction x t b) = bound_types ((x, t) ∷ env) b ++ None ∷ []

-- The number is that of the type.
abbrev pub IsHint : List TypeTree → Option ℕ → Option TypeTree → Type 0
IsHint table None bound = bound ≡ None
IsHint table (Some id) bound = (id < length table) × (bound ≡ Some (type_at table id))

abbrev pub AreHints : List TypeTree → List (Option ℕ) → List (Option TypeTree) → Type 0
AreHints table [] [] = Unit {0}
AreHints table (h ∷ hs) (b ∷ bs) = IsHint table h b × AreHints table hs bs
AreHints table _ _ = ⊥

-- the type of a binder
abbrev pub binder_type : TermNode → Option TypeTree
binder_type (Lam x ty b) = Some ty
binder_type _ = None

-- what stands at the place of a binder
abbrev pub at_binder : {A : Type 0} → List (Option A) → Option Binder → Option A
at_binder types None = None
at_binder types (Some b) = slice_index_or types b.place None
