use Rattle.std.proofs.Common.{◌∙◌, ap}
use Rattle.lt_definitions.specs.Types.{TypeMap, row}
use Rattle.lt_definitions.specs.Typing.{types_fault}
use Rattle.lt_store.specs.Trees.{trees}
use Rattle.lt_kernel.specs.State.{statements}
use Rattle.lt_kernel.specs.Reaching.{Reaches}
use Rattle.lt_programs.specs.Programs.{named_at}
use Rattle.lt_derived.proofs.Replaced.{of-map, as-many}
use Rattle.lt_derived.proofs.instances.instance.Goals as goal

pub instance_at-requires-clause-count : goal.instance_at-requires-clause-count
instance_at-requires-clause-count g c = as-many c.args.types.now c.as_slice.result.now c.as_slice-2.result.now (c.as_slice.ensures ∙ c.in_ok-names.ensures) (c.as_slice-2.ensures ∙ c.in_ok-types.ensures)

pub instance_at-requires-clause-sound : goal.instance_at-requires-clause-sound
instance_at-requires-clause-sound g c = ap (λ ts. types_fault c.args.proof.now.signature (row ts)) (c.as_slice-2.ensures ∙ c.in_ok-types.ensures) ∙ c.requires.sound

pub returns-clause-reaches : goal.returns-clause-reaches
returns-clause-reaches g c =
    let old = c.args.proof.now in
    of-map (λ (m : TypeMap). Reaches c.instance_at.new.proof c.instance_at.result (named_at old.signature (statements old) c.args.label.now m (trees old.nodes c.args.terms.now)))
    c.args.types.now c.as_slice.result.now c.as_slice-2.result.now (c.as_slice.ensures ∙ c.in_ok-names.ensures) (c.as_slice-2.ensures ∙ c.in_ok-types.ensures) c.instance_at.ensures.reaches
