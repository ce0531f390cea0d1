use Rattle.std.proofs.Common.{ap, ◌∙◌}
use Rattle.lt_definitions.specs.Types.{found}
use Rattle.lt_extend.proofs.Unreached.{type-memory}
use Rattle.lt_extend.proofs.entering.enter_type.Goals as goal

pub want_of_memory-requires : goal.want_of_memory-requires
want_of_memory-requires g c =
    type-memory c.args.proof.now.signature c.add_type.new.self.signature c.in_ok-name.name c.args.arity c.in-Err.fault
    (ap (λ n. found n c.args.proof.now.signature.types) c.in_ok-name.ensures ∙ c.requires) c.in-Err.ensures.declares
