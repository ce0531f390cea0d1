use Rattle.std.proofs.Common.{◌∙◌, ap, is_some}
use Rattle.lt_nameless.specs.Nameless.{nameless_free}
use Rattle.lt_store.specs.Trees.{tree_at}
use Rattle.lt_relating.proofs.ExpandingLemmas.{applied-typed, applied-opens, expansion-made}
use Rattle.lt_relating.proofs.abstracting.expand.Goals as goal

pub beta-requires-clause-t : goal.beta-requires-clause-t
beta-requires-clause-t g c =
    applied-typed c.args.proof.now c.close.new.self c.mk_free.new.self c.mk_app.new.self c.in_ok-function.function c.in_ok-variable.variable c.in_ok-applied.applied c.args.x.now c.args.ty.now (tree_at c.args.proof.now.nodes c.args.t)
    c.requires.ty c.requires.t.typed c.close.ensures.carries c.mk_free.ensures.carries c.mk_app.ensures.carries
    (record { within = c.in_ok-function.ensures.builds.made; is = c.in_ok-function.ensures.builds.is })
    (record { within = c.in_ok-variable.ensures.ok.within; is = c.in_ok-variable.ensures.ok.stands ∙ (λ i. nameless_free (c.in_ok-name.ensures i) (c.in_ok-of.ensures i)) })
    c.in_ok-applied.ensures.ok.within c.in_ok-applied.ensures.ok.stands

pub beta-requires-clause-redex : goal.beta-requires-clause-redex
beta-requires-clause-redex g c =
    ap is_some (applied-opens c.args.proof.now c.close.new.self c.mk_free.new.self c.mk_app.new.self c.in_ok-function.function c.in_ok-variable.variable c.in_ok-applied.applied c.args.x.now c.args.ty.now (tree_at c.args.proof.now.nodes c.args.t)
    c.requires.ty c.requires.t.typed c.close.ensures.carries c.mk_free.ensures.carries c.mk_app.ensures.carries
    (record { within = c.in_ok-function.ensures.builds.made; is = c.in_ok-function.ensures.builds.is })
    (record { within = c.in_ok-variable.ensures.ok.within; is = c.in_ok-variable.ensures.ok.stands ∙ (λ i. nameless_free (c.in_ok-name.ensures i) (c.in_ok-of.ensures i)) })
    c.in_ok-applied.ensures.ok.within c.in_ok-applied.ensures.ok.stands)

pub returns-clause-expands : goal.returns-clause-expands
returns-clause-expands g c =
    expansion-made c.args.proof.now c.close.new.self c.mk_free.new.self c.mk_app.new.self c.in_ok-function.function c.in_ok-variable.variable c.in_ok-applied.applied c.args.x.now c.args.ty.now (tree_at c.args.proof.now.nodes c.args.t)
    c.requires.ty c.requires.t.typed c.close.ensures.carries c.mk_free.ensures.carries c.mk_app.ensures.carries
    (record { within = c.in_ok-function.ensures.builds.made; is = c.in_ok-function.ensures.builds.is })
    (record { within = c.in_ok-variable.ensures.ok.within; is = c.in_ok-variable.ensures.ok.stands ∙ (λ i. nameless_free (c.in_ok-name.ensures i) (c.in_ok-of.ensures i)) })
    c.in_ok-applied.ensures.ok.within c.in_ok-applied.ensures.ok.stands
    c.beta.new.proof c.in_ok-line.line c.beta.ensures.carries (c.in_ok-line.ensures.line (tree_at c.args.proof.now.nodes c.args.t) (applied-opens c.args.proof.now c.close.new.self c.mk_free.new.self c.mk_app.new.self c.in_ok-function.function c.in_ok-variable.variable c.in_ok-applied.applied c.args.x.now c.args.ty.now (tree_at c.args.proof.now.nodes c.args.t)
    c.requires.ty c.requires.t.typed c.close.ensures.carries c.mk_free.ensures.carries c.mk_app.ensures.carries
    (record { within = c.in_ok-function.ensures.builds.made; is = c.in_ok-function.ensures.builds.is })
    (record { within = c.in_ok-variable.ensures.ok.within; is = c.in_ok-variable.ensures.ok.stands ∙ (λ i. nameless_free (c.in_ok-name.ensures i) (c.in_ok-of.ensures i)) })
    c.in_ok-applied.ensures.ok.within c.in_ok-applied.ensures.ok.stands))
