use Rattle.std.proofs.Common.{ℕ, zero, suc, ◌<◌, refl, arith, inl, inr}
use Rattle.lt_definitions.specs.Types.{bool}
use Rattle.lt_definitions.specs.Terms.{TermTree, implies, bound_name}
use Rattle.lt_definitions.specs.Samples.{con}
use Rattle.std.specs.Prelude.{[], codes}
use Rattle.lt_nameless.proofs.AlphaLaws.{alpha_is_reflexive}
use Rattle.lt_transport_laws.proofs.ReductionLemmas.{alpha-nodes}
use Rattle.lt_transport_definitions.specs.Reduction.{Steps, opens, LeadsTo, PassesLimit}
use Rattle.lt_transport_definitions.specs.Samples.{redex_at_p}
use Rattle.lt_transport_laws.proofs.search_examples.steps_and_normal_forms.Goals as goal

one_step : Steps redex_at_p (implies (con "p") (con "p"))
one_step = opens (codes "x") bool (implies (bound_name (codes "x")) (bound_name (codes "x"))) (con "p")

-- The result passes no limit.
result_within : PassesLimit 1 (implies (con "p") (con "p")) → ⊥
result_within h = elim h [
  | inl l ↦ omega arith
  | inr e ↦ let n = e.0 in omega arith
]

-- Nor does the redex, which alone comes before it.
redex_within : (j : ℕ) (u : TermTree) → j < 1 → LeadsTo j redex_at_p u → PassesLimit j u → ⊥
redex_within zero u l w h = elim h [
  | inl m ↦ let n = alpha-nodes [] redex_at_p u w in omega arith
  | inr e ↦ let n = e.0 in omega arith
]
redex_within (suc j) u l w h = omega arith

pub returns-clause-step : goal.returns-clause-step
returns-clause-step c = one_step

pub returns-clause-normal : goal.returns-clause-normal
returns-clause-normal c = (1, (implies (con "p") (con "p"), one_step, alpha_is_reflexive (implies (con "p") (con "p"))), refl, result_within, redex_within)
