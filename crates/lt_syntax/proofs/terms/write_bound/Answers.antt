use Rattle.lt_syntax.proofs.OpenBinders.{bound-found, bound-loose}
use Rattle.lt_syntax.proofs.terms.write_bound.Goals as goal

pub returns-in_ok-number-in-Some : goal.returns-in_ok-number-in-Some
returns-in_ok-number-in-Some c =
    bound-found c.args.name.now c.args.binders.now c.in-Some.depth _ _ _ _ c.in-Some.ensures c.in_ok-signs.ensures c.in_ok-signs-in-Some.ensures c.in_ok-number-in-Some.ensures

pub returns-in_ok-name-in-None : goal.returns-in_ok-name-in-None
returns-in_ok-name-in-None c =
    bound-loose c.args.name.now c.args.binders.now _ _ _ c.in-None.ensures c.in_ok-signs.ensures c.in_ok-name-in-None.ensures
