use Rattle.std.proofs.Common.{◌∙◌, sym, ap}
use Rattle.lt_nameless.specs.NamelessRules.{same_nameless}
use Rattle.lt_store.specs.Trees.{tree_at}
use Rattle.lt_kernel.specs.State.{statements}
use Rattle.lt_tables.specs.Rules.{form_with}
use Rattle.lt_derived.proofs.ConnectiveSteps.{unstated-fails, stated-line, stated-differs, given-there}
use Rattle.lt_derived.proofs.connectives.stated.Goals as goal

pub returns-in-Err-clause-reaches : goal.returns-in-Err-clause-reaches
returns-in-Err-clause-reaches g c =
    unstated-fails (statements c.args.proof.now) c.in_ok-label.label c.args.label.now (form_with c.args.types.now c.args.text.now) c.in_ok-label.ensures
    c.thm.new.self c.in-Err.fault c.in-Err.ensures.reaches

pub conclusion-concl-requires : goal.conclusion-concl-requires
conclusion-concl-requires g c = given-there c.thm.new.self c.put_text.new.proof c.in-Ok.number _ c.put_text.ensures.carries c.in-Ok.ensures.reaches

pub returns-then-not-is_same-clause-reaches : goal.returns-then-not-is_same-clause-reaches
returns-then-not-is_same-clause-reaches g c =
    let nodes = c.put_text.new.proof.nodes in
    stated-differs (statements c.args.proof.now) c.in_ok-label.label c.args.label.now (form_with c.args.types.now c.args.text.now) c.in_ok-label.ensures
    c.thm.new.self c.put_text.new.proof c.in-Ok.number c.in-Ok.ensures.reaches c.put_text.ensures.carries (tree_at nodes c.conclusion-concl.result) c.conclusion-concl.ensures.is
    (ap (λ t. same_nameless t (tree_at nodes c.conclusion-concl.result)) (sym c.in_ok-statement.ensures.stands.is) ∙ sym c.in_ok-is_same.ensures ∙ c.if-not-is_same.true)

pub returns-clause-reaches : goal.returns-clause-reaches
returns-clause-reaches g c =
    let nodes = c.put_text.new.proof.nodes in
    stated-line (statements c.args.proof.now) c.in_ok-label.label c.args.label.now (form_with c.args.types.now c.args.text.now) c.in_ok-label.ensures
    c.thm.new.self c.put_text.new.proof c.in-Ok.number c.in-Ok.ensures.reaches c.put_text.ensures.carries (tree_at nodes c.conclusion-concl.result) c.conclusion-concl.ensures.is
    (ap (λ t. same_nameless t (tree_at nodes c.conclusion-concl.result)) (sym c.in_ok-statement.ensures.stands.is) ∙ sym c.in_ok-is_same.ensures ∙ c.if-not-is_same.false)
