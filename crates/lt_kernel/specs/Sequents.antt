-- Sequents and named statements by ids, and what a rule answers over them.
use Rattle.std.specs.Prelude.{◌≡◌, ℕ, ◌<◌, List, length, map, Bool, true, false, Option, Some, None, Result, Ok, Err}
use Rattle.std.specs.List.{All}
use Rattle.lt_definitions.specs.Types.{Chars}
use Rattle.lt_nameless.specs.Nameless.{Nameless, NamelessSequent}
use Rattle.lt_nameless.specs.NamelessRules.{NamelessOutcome}
use Rattle.lt_definitions.specs.declared.reason.Reason.{Reason}
use Rattle.lt_store.specs.declared.node.Node.{Node}
use Rattle.lt_store.specs.Trees.{tree_at, trees, AllBelow}
use Rattle.lt_kernel.specs.declared.sequent.Sequent.{Sequent}
use Rattle.lt_kernel.specs.declared.sequent.Step.{Step}
use Rattle.lt_kernel.specs.declared.rule_fault.RuleFault.{RuleFault}
use Rattle.lt_kernel.specs.declared.rule_fault.RuleFault.TheVariants.{Bad, Duplicate, Memory}

-- the sequent of terms for which a sequent of ids stands
abbrev pub sequent_at : List Node → Sequent → NamelessSequent
sequent_at ns s = record { hyps = trees ns s.hyps; concl = tree_at ns s.concl }

-- the sequents of terms of the lines so far
abbrev pub sequents_at : List Node → List Step → List NamelessSequent
sequents_at ns steps = map (λ s. sequent_at ns s.sequent) steps

-- the named statements as terms
abbrev pub statements_at : List Node → List (Chars × ℕ) → List (Chars × Nameless)
statements_at ns named = map (λ p. (p.0, tree_at ns p.1)) named

-- the ids of a sequent, of sequents and of named statements are below a bound
abbrev pub IsWithin : ℕ → Sequent → Type 0
IsWithin n s = AllBelow n s.hyps × (s.concl < n)

abbrev pub AreWithin : ℕ → List Step → Type 0
AreWithin n steps = All (λ s. IsWithin n s.sequent) steps

abbrev pub NamedWithin : ℕ → List (Chars × ℕ) → Type 0
NamedWithin n named = All (λ p. p.1 < n) named

-- The fault is why the outcome has no sequent, or want of memory, which may come at any growth.
abbrev pub IsFaultOf : RuleFault → NamelessOutcome → Type 0
IsFaultOf (Bad r) outcome = outcome ≡ Err r
IsFaultOf (Duplicate l) outcome = ⊥
IsFaultOf Memory outcome = Unit {0}

-- The answer is what the rule gives: its sequent, by ids of these nodes, or its first reason, or want of memory.
abbrev pub Gives : List Node → Result Sequent RuleFault → NamelessOutcome → Type 0
Gives ns (Ok s) outcome = (outcome ≡ Ok (sequent_at ns s)) × IsWithin (length ns) s
Gives ns (Err e) outcome = IsFaultOf e outcome

-- The answer stands for what is there, or nothing is there, for this reason. Want of memory may come in place of either.
abbrev pub Finds : {A B : Type 0} → (A → B) → Result A RuleFault → Reason → Option B → Type 0
Finds f (Ok x) r o = o ≡ Some (f x)
Finds f (Err (Bad q)) r o = (o ≡ None) × (q ≡ r)
Finds f (Err (Duplicate l)) r o = ⊥
Finds f (Err Memory) r o = Unit {0}

-- The test holds, or fails, for this reason. Want of memory may come in place of either.
abbrev pub Tests : Result (Unit {0}) RuleFault → Reason → Bool → Type 0
Tests (Ok _) r b = b ≡ true
Tests (Err (Bad q)) r b = (b ≡ false) × (q ≡ r)
Tests (Err (Duplicate l)) r b = ⊥
Tests (Err Memory) r b = Unit {0}
