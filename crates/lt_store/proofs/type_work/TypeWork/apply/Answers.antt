use Rattle.std.proofs.Common.{arith}
use Rattle.lt_store.proofs.TypeNumberLemmas.{has-within}
use Rattle.lt_store.proofs.TypeTaskLemmas.{function_type, argument_type, apply_wrong, apply_found}
use Rattle.lt_store.proofs.type_work.TypeWork.apply.Goals as goal

pub applied-requires-clause-f : goal.applied-requires-clause-f
applied-requires-clause-f g c =
    has-within _ _ _ (function_type _ _ _ _ _ c.args.self.now.found _ _ _ _ _ _ c.requires.2 _ _ c.kept-function.ensures c.kept-argument.ensures).has

pub applied-requires-clause-a : goal.applied-requires-clause-a
applied-requires-clause-a g c =
    has-within _ _ _ (argument_type _ _ _ _ _ c.args.self.now.found _ _ _ _ _ _ c.requires.2 _ _ c.kept-function.ensures c.kept-argument.ensures).has

pub returns-in_ok-keep-in-Ok : goal.returns-in_ok-keep-in-Ok
returns-in_ok-keep-in-Ok g c root base now = (
  apply_found _ _ _ _ _ c.args.self.now.found _ _ _ _ _ _ now _ _ c.kept-function.ensures c.kept-argument.ensures c.keep.new.memo _ c.in-Ok.ensures c.in_ok-keep-in-Ok.ensures,
  omega arith,
)

pub returns-in-Err : goal.returns-in-Err
returns-in-Err g c root base now =
    apply_wrong _ _ _ _ _ c.args.self.now.found _ _ _ _ _ _ now _ _ c.kept-function.ensures c.kept-argument.ensures _ c.in-Err.ensures
