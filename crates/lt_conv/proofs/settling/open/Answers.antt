use Rattle.std.proofs.Common.{◌∙◌, arith}
use Rattle.lt_nameless.specs.Nameless.{nameless_free}
use Rattle.lt_conv.proofs.Settled.{opened-body, opened-typed}
use Rattle.lt_conv.proofs.settling.open.Goals as goal

pub instantiate-requires-clause-body : goal.instantiate-requires-clause-body
instantiate-requires-clause-body g c = let w = c.in_ok-ty.ensures.within in let l = c.mk_free.ensures.kept.grows in omega (arith, w, l)

pub returns-in_err-opened-clause-carries : goal.returns-in_err-opened-clause-carries
returns-in_err-opened-clause-carries g c = λ first h. c.instantiate.ensures.carries first (c.mk_free.ensures.carries first h)

pub returns-clause-carries : goal.returns-clause-carries
returns-clause-carries g c = λ first h. c.instantiate.ensures.carries first (c.mk_free.ensures.carries first h)

pub returns-clause-typed : goal.returns-clause-typed
returns-clause-typed g c =
    opened-typed c.args.proof.now c.mk_free.new.self c.instantiate.new.self c.args.id c.in_ok-ty.body c.in_ok-variable.variable c.in_ok-opened.opened c.in_ok-x.x c.in_ok-ty.ty c.requires.typed
    c.in_ok-ty.ensures.within c.in_ok-ty.ensures.is c.in_ok-x.ensures.least c.in_ok-x.ensures.new c.mk_free.ensures.carries c.instantiate.ensures.carries
    (c.in_ok-variable.ensures.ok.stands ∙ (λ i. nameless_free (c.in_ok-name.ensures i) (c.in_ok-of.ensures i))) c.in_ok-opened.ensures.builds.made c.in_ok-opened.ensures.builds.is

pub returns-clause-opened : goal.returns-clause-opened
returns-clause-opened g c =
    opened-body c.args.proof.now c.mk_free.new.self c.instantiate.new.self c.args.id c.in_ok-ty.body c.in_ok-variable.variable c.in_ok-opened.opened c.in_ok-x.x c.in_ok-ty.ty c.requires.typed
    c.in_ok-ty.ensures.within c.in_ok-ty.ensures.is c.in_ok-x.ensures.least c.in_ok-x.ensures.new c.mk_free.ensures.carries c.instantiate.ensures.carries
    (c.in_ok-variable.ensures.ok.stands ∙ (λ i. nameless_free (c.in_ok-name.ensures i) (c.in_ok-of.ensures i))) c.in_ok-opened.ensures.builds.made c.in_ok-opened.ensures.builds.is
