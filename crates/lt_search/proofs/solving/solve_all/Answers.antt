use Rattle.std.proofs.Common.{◌≡◌, ◌++◌, sym, ap, ◌∙◌, append_assoc}
use Rattle.lt_search.proofs.Runs.{item-below, goes-more, cannot-more}
use Rattle.lt_search.proofs.solving.solve_all.Goals as goal

pub unify-requires-clause-s_below : goal.unify-requires-clause-s_below
unify-requires-clause-s_below c =
    (item-below c.args.equations.now c.loop-equation.equation-index c.equation-item.result c.loop-equation-test.true c.equation-item.is c.args.bindings.now.variables c.loop-equation.bindings.variables c.loop-equation.invariant.kept.0 c.requires.below).0

pub unify-requires-clause-t_below : goal.unify-requires-clause-t_below
unify-requires-clause-t_below c =
    (item-below c.args.equations.now c.loop-equation.equation-index c.equation-item.result c.loop-equation-test.true c.equation-item.is c.args.bindings.now.variables c.loop-equation.bindings.variables c.loop-equation.invariant.kept.0 c.requires.below).1

pub returns-in-Err-clause-none : goal.returns-in-Err-clause-none
returns-in-Err-clause-none c = λ h. cannot-more c.args.equations.now c.loop-equation.equation-index c.equation-item.result c.loop-equation-test.true c.equation-item.is c.args.bindings.now.pairs c.loop-equation.bindings.pairs
    c.loop-equation.invariant.goes (c.in-Err.ensures.none h)

pub loop-equation-preserved : goal.loop-equation-preserved
loop-equation-preserved c =
    let old = c.loop-equation.invariant.kept in
    let new = c.in-Ok.ensures.kept in
    record {
      kept = (new.0 ∙ old.0, (new.1.0 ++ old.1.0, new.1.1 ∙ ap (λ z. new.1.0 ++ z) old.1.1 ∙ sym (append_assoc new.1.0 old.1.0 c.args.bindings.now.pairs)));
      mark_is = c.loop-equation.invariant.mark_is;
      goes = goes-more c.args.equations.now c.loop-equation.equation-index c.equation-item.result c.loop-equation-test.true c.equation-item.is c.args.bindings.now.pairs c.loop-equation.bindings.pairs c.unify.new.b.pairs
          c.loop-equation.invariant.goes c.in-Ok.ensures.general c.in-Ok.ensures.related;
    }
