use Rattle.std.proofs.Common.{subst}
use Rattle.lt_store.specs.Trees.{tree_at}
use Rattle.lt_derived.specs.Equations.{Contracts}
use Rattle.lt_programs.specs.Extensionality.{contracted}
use Rattle.lt_derived.proofs.UnfoldingLemmas.{line-still}
use Rattle.lt_derived.proofs.FunctionSteps.{equating, under-right, under-sound, kept-under, under-sure, under-line}
use Rattle.lt_derived.proofs.function_values.contract_right.Goals as goal

pub contraction-requires : goal.contraction-requires
contraction-requires g c =
    let s = c.args.proof.now in
    let q = c.requires.form in
    let right = tree_at s.nodes c.application-right.result.1 in
    record {
      within = c.application-right.ensures.argument;
      typed = under-sound s c.args.i q c.requires.sound right (under-right s c.args.i q (tree_at s.nodes c.conclusion-concl.result) (tree_at s.nodes c.application-right.result.0) right
          c.conclusion-concl.ensures.is c.application-right.ensures.is);
    }

pub trans-requires : goal.trans-requires
trans-requires g c =
    let s = c.args.proof.now in
    let q = c.requires.form in
    let right = tree_at s.nodes c.application-right.result.1 in
    under-sure s c.args.i q c.contraction.new.proof c.in-Some.number right c.contraction.ensures.carries
    (under-right s c.args.i q (tree_at s.nodes c.conclusion-concl.result) (tree_at s.nodes c.application-right.result.0) right c.conclusion-concl.ensures.is c.application-right.ensures.is)
    (subst (Contracts c.contraction.new.proof s.signature right) c.in-Some.is c.in_ok-contracts.ensures.contracts)

pub returns-in_ok-line-in-Some-clause-line : goal.returns-in_ok-line-in-Some-clause-line
returns-in_ok-line-in-Some-clause-line g c = λ q.
    let s = c.args.proof.now in
    let right = tree_at s.nodes c.application-right.result.1 in
    under-line s c.args.i q c.contraction.new.proof c.in-Some.number right c.contraction.ensures.carries
    (under-right s c.args.i q (tree_at s.nodes c.conclusion-concl.result) (tree_at s.nodes c.application-right.result.0) right c.conclusion-concl.ensures.is c.application-right.ensures.is)
    (subst (Contracts c.contraction.new.proof s.signature right) c.in-Some.is c.in_ok-contracts.ensures.contracts)
    c.trans.new.proof c.in_ok-line-in-Some.line c.in_ok-line-in-Some.ensures.line

pub returns-in-None-clause-line : goal.returns-in-None-clause-line
returns-in-None-clause-line g c = λ q.
    let s = c.args.proof.now in
    let right = tree_at s.nodes c.application-right.result.1 in
    line-still s c.contraction.new.proof c.args.i (equating q.hyps q.ty q.left (contracted q.right)) c.contraction.ensures.carries
    (kept-under s c.args.i q right
    (under-right s c.args.i q (tree_at s.nodes c.conclusion-concl.result) (tree_at s.nodes c.application-right.result.0) right c.conclusion-concl.ensures.is c.application-right.ensures.is)
    (subst (Contracts c.contraction.new.proof s.signature right) c.in-None.is c.in_ok-contracts.ensures.contracts))
