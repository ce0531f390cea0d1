use Rattle.std.proofs.Common.{◌∙◌, sym}
use Rattle.lt_definitions.specs.Typing.{with_ok}
use Rattle.lt_definitions.specs.Rules.{with_line}
use Rattle.lt_nameless.specs.NamelessRules.{nameless_eqmp_gives, turned, carried_over}
use Rattle.lt_kernel.specs.State.{sequents}
use Rattle.lt_derived.proofs.Stated.{same-reaches}
use Rattle.lt_derived.proofs.UnfoldingLemmas.{back-goes}
use Rattle.lt_derived.proofs.unfolding.eqmp_back.Goals as goal

pub returns-clause-reaches : goal.returns-clause-reaches
returns-clause-reaches g c =
    let old = c.args.proof.now in
    let mid = c.sym.new.self in
    same-reaches c.eqmp.new.self c.eqmp.result (nameless_eqmp_gives (sequents mid) c.in-Ok.number c.args.j)
    (with_line (sequents old) c.args.i (λ s. with_ok (turned s) (λ v. with_line (sequents old) c.args.j (carried_over v))))
    (back-goes old mid c.args.i c.args.j c.in-Ok.number c.sym.ensures.carries c.in-Ok.ensures.reaches (sym c.is_line-known.ensures ∙ c.if-not-known.false))
    c.eqmp.ensures.reaches
