use Rattle.std.proofs.Common.{◌∙◌}
use Rattle.lt_relating.proofs.ExpandingLemmas.{f-typed, g-typed, fault-kept, id-kept, replaces, sides-made}
use Rattle.lt_relating.proofs.abstracting.expand_both.Goals as goal

pub expand-requires-clause-ty : goal.expand-requires-clause-ty
expand-requires-clause-ty g c = c.requires.pair.left

pub expand-requires-clause-t : goal.expand-requires-clause-t
expand-requires-clause-t g c = f-typed c.args.proof.now c.args.s c.args.f c.args.g c.args.i c.requires.line

pub expand-requires-2-clause-ty : goal.expand-requires-2-clause-ty
expand-requires-2-clause-ty g c = fault-kept c.args.proof.now c.expand.new.proof c.args.pair.now.right c.expand.ensures.carries c.requires.pair.right

pub expand-requires-2-clause-t : goal.expand-requires-2-clause-t
expand-requires-2-clause-t g c = g-typed c.args.proof.now c.expand.new.proof c.args.s c.args.f c.args.g c.args.i c.expand.ensures.carries c.requires.line

pub replaced-requires : goal.replaced-requires
replaced-requires g c =
    replaces c.args.proof.now c.expand.new.proof c.expand-2.new.proof c.args.pair.now c.args.s c.args.f c.args.g c.args.i c.requires.pair c.requires.line
    c.in_ok-image.image c.in_ok-given.given c.expand.ensures.carries c.expand-2.ensures.carries c.in_ok-image.ensures.expands c.in_ok-given.ensures.expands

pub relate_variables-requires-clause-relation : goal.relate_variables-requires-clause-relation
relate_variables-requires-clause-relation g c = id-kept c.args.proof.now c.replaced.new.proof c.args.pair.now.relation (λ first k. c.replaced.ensures.carries first (c.expand-2.ensures.carries first (c.expand.ensures.carries first k))) c.requires.pair.within

pub relate_variables-requires-clause-x : goal.relate_variables-requires-clause-x
relate_variables-requires-clause-x g c = id-kept c.expand.new.proof c.replaced.new.proof c.in_ok-image.image.variable (λ first k. c.replaced.ensures.carries first (c.expand-2.ensures.carries first k)) c.in_ok-image.ensures.expands.variable.within

pub relate_variables-requires-clause-y : goal.relate_variables-requires-clause-y
relate_variables-requires-clause-y g c = id-kept c.expand-2.new.proof c.replaced.new.proof c.in_ok-given.given.variable c.replaced.ensures.carries c.in_ok-given.ensures.expands.variable.within

pub returns-clause-sides : goal.returns-clause-sides
returns-clause-sides g c = λ q. sides-made c.args.proof.now c.expand.new.proof c.expand-2.new.proof c.args.pair.now c.args.s c.args.f c.args.g c.args.i c.requires.pair q
    c.in_ok-image.image c.in_ok-given.given c.expand.ensures.carries c.expand-2.ensures.carries c.in_ok-image.ensures.expands c.in_ok-given.ensures.expands
    c.replaced.new.proof c.relate_variables.new.proof c.in_ok-line.line c.in_ok-related.related c.replaced.ensures.carries c.relate_variables.ensures.carries
    (c.in_ok-line.ensures.line (replaces c.args.proof.now c.expand.new.proof c.expand-2.new.proof c.args.pair.now c.args.s c.args.f c.args.g c.args.i c.requires.pair q
    c.in_ok-image.image c.in_ok-given.given c.expand.ensures.carries c.expand-2.ensures.carries c.in_ok-image.ensures.expands c.in_ok-given.ensures.expands)) c.in_ok-related.ensures.stands
