use Rattle.lt_definitions.specs.Types.{found}
use Rattle.lt_store.specs.Trees.{tree_at}
use Rattle.lt_kernel.specs.State.{statements}
use Rattle.lt_conv.proofs.Converting.{still-sound}
use Rattle.lt_conv.proofs.Unfolded.{not-unfolded, types-clear, unfold-memory, unfold-converts}
use Rattle.lt_conv.proofs.unfolding.UnfoldConversion.convert.Goals as goal

pub returns-in_default-clause-converts : goal.returns-in_default-clause-converts
returns-in_default-clause-converts g c =
    not-unfolded c.args.proof.now.signature c.types_of.new.proof (found c.args.self.now.label (statements c.args.proof.now)) (tree_at c.args.proof.now.nodes c.args.t) c.in_ok-types.field-0 c.in_ok-types.ensures.types c.in_default.is

pub instance-requires-clause-sound : goal.instance-requires-clause-sound
instance-requires-clause-sound g c = types-clear c.args.proof.now c.types_of.new.proof c.args.self.now.label (tree_at c.args.proof.now.nodes c.args.t) c.in_ok-types.field-0 c.in-Some.types c.types_of.ensures.carries c.in_ok-types.ensures.types c.in-Some.is

pub into_memory-requires : goal.into_memory-requires
into_memory-requires g c = unfold-memory c.args.proof.now c.types_of.new.proof c.args.self.now.label (tree_at c.args.proof.now.nodes c.args.t) c.in_ok-types.field-0 c.in-Some.types c.types_of.ensures.carries c.in_ok-types.ensures.types c.in-Some.is c.instance.new.proof c.in-Err.fault c.in-Err.ensures.reaches

pub returns-in-Ok-clause-converts : goal.returns-in-Ok-clause-converts
returns-in-Ok-clause-converts g c =
    unfold-converts c.args.proof.now c.types_of.new.proof c.args.self.now.label (tree_at c.args.proof.now.nodes c.args.t) c.in_ok-types.field-0 c.in-Some.types c.types_of.ensures.carries c.in_ok-types.ensures.types c.in-Some.is c.instance.new.proof c.in-Ok.line
    (still-sound c.args.proof.now c.instance.new.proof (λ first h. c.instance.ensures.carries first (c.types_of.ensures.carries first h)) c.requires.sound) c.in-Ok.ensures.reaches
