use Rattle.lt_store.specs.Trees.{tree_at}
use Rattle.lt_relating.specs.Pairs.{binding_of}
use Rattle.lt_relating.proofs.ClosingLemmas.{type-kept, implied-fails, inner-fails, closed-reaches}
use Rattle.lt_relating.proofs.abstracting.close_over_both.Goals as goal

pub returns-in-Err-clause-reaches : goal.returns-in-Err-clause-reaches
returns-in-Err-clause-reaches g c = implied-fails c.args.proof.now (binding_of c.args.proof.now.nodes c.args.pair.now) (tree_at c.args.proof.now.nodes c.args.p) c.args.i c.requires.there c.impI.new.self c.in-Err.fault c.in-Err.ensures.reaches

pub allI-requires : goal.allI-requires
allI-requires g c = type-kept c.args.proof.now c.impI.new.self c.args.pair.now.right c.in_ok-right.right c.impI.ensures.carries c.in_ok-right.ensures c.requires.right

pub returns-in-Err-allI-clause-reaches : goal.returns-in-Err-allI-clause-reaches
returns-in-Err-allI-clause-reaches g c =
    inner-fails c.args.proof.now (binding_of c.args.proof.now.nodes c.args.pair.now) (tree_at c.args.proof.now.nodes c.args.p) c.args.i c.requires.there c.impI.new.self c.in-Ok.number c.in-Ok.ensures.reaches c.in_ok-given.given c.in_ok-right.right c.in_ok-given.ensures c.in_ok-right.ensures c.allI.new.self c.in-Err-allI.fault c.in-Err-allI.ensures.reaches

pub allI-requires-2 : goal.allI-requires-2
allI-requires-2 g c = type-kept c.args.proof.now c.allI.new.self c.args.pair.now.left c.in_ok-left.left (λ first k. c.allI.ensures.carries first (c.impI.ensures.carries first k)) c.in_ok-left.ensures c.requires.left

pub returns-clause-reaches : goal.returns-clause-reaches
returns-clause-reaches g c =
    closed-reaches c.args.proof.now (binding_of c.args.proof.now.nodes c.args.pair.now) (tree_at c.args.proof.now.nodes c.args.p) c.args.i c.requires.there c.impI.new.self c.in-Ok.number c.in-Ok.ensures.reaches c.in_ok-given.given c.in_ok-right.right c.in_ok-given.ensures c.in_ok-right.ensures
    c.allI.new.self c.in-Ok-allI.number c.in-Ok-allI.ensures.reaches c.in_ok-image.image c.in_ok-left.left c.in_ok-image.ensures c.in_ok-left.ensures c.allI-2.new.self c.allI-2.result c.allI-2.ensures.reaches
