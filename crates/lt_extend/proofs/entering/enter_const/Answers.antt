use Rattle.std.proofs.Common.{ap, ◌∙◌}
use Rattle.lt_definitions.specs.Types.{found}
use Rattle.lt_definitions.specs.Typing.{type_fault}
use Rattle.lt_extend.proofs.Unreached.{const-memory}
use Rattle.lt_extend.proofs.entering.enter_const.Goals as goal

pub want_of_memory-requires : goal.want_of_memory-requires
want_of_memory-requires g c =
    const-memory c.args.proof.now.signature c.add_const.new.self.signature c.in_ok-name.name c.in_ok-ty.ty c.in-Err.fault
    (ap (λ n. found n c.args.proof.now.signature.consts) c.in_ok-name.ensures ∙ c.requires.new)
    (ap (type_fault c.args.proof.now.signature) c.in_ok-ty.ensures ∙ c.requires.sound) c.in-Err.ensures.declares
