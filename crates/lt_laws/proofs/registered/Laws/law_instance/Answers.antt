use Rattle.std.proofs.Common.{ap, is_some}
use Rattle.lt_store.specs.Trees.{trees}
use Rattle.lt_kernel.specs.State.{statements}
use Rattle.lt_kernel.proofs.ReachingLemmas.{reached-line, reached-memory}
use Rattle.lt_programs.specs.Programs.{named_at}
use Rattle.lt_laws.specs.Instances.{law_at}
use Rattle.lt_laws.proofs.InstanceLemmas.{law-gives, label-found}
use Rattle.lt_laws.proofs.registered.Laws.law_instance.Goals as goal

pub into_memory-requires : goal.into_memory-requires
into_memory-requires g c =
    let old = c.args.proof.now in
    let w = c.args.name.now in
    let m = c.args.types.now in
    let ts = trees old.nodes c.args.terms.now in
    let found-so = label-found w c.args.self.now c.label.result c.in-Some.label c.in-Some.is c.label.ensures in
    reached-memory c.instance.new.proof c.in-Err.fault (named_at old.signature (statements old) c.in-Some.label.now m ts) (law_at w m ts) c.in-Err.ensures.reaches
    (law-gives old.signature (statements old) c.in-Some.label.now w m ts (c.requires.stated c.in-Some.label.now found-so) c.requires.variables)

pub returns-in-Ok-clause-gives : goal.returns-in-Ok-clause-gives
returns-in-Ok-clause-gives g c =
    let old = c.args.proof.now in
    let w = c.args.name.now in
    let m = c.args.types.now in
    let ts = trees old.nodes c.args.terms.now in
    let found-so = label-found w c.args.self.now c.label.result c.in-Some.label c.in-Some.is c.label.ensures in (
      ap is_some found-so,
      reached-line c.instance.new.proof c.in-Ok.line (named_at old.signature (statements old) c.in-Some.label.now m ts) (law_at w m ts) c.in-Ok.ensures.reaches
          (law-gives old.signature (statements old) c.in-Some.label.now w m ts (c.requires.stated c.in-Some.label.now found-so) c.requires.variables),
    )
