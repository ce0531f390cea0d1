use Rattle.lt_terms.proofs.Signs.{constant-found}
use Rattle.lt_terms.proofs.alpha.is_constant.Goals as goal

pub returns-then-eq : goal.returns-then-eq
returns-then-eq c =
    constant-found c.eq-then-eq.result c.eq.result c.args.name.now c.in-Const.other c.args.types.now c.in-Const.others _ _ c.args.node.now
    c.in-Const.is c.eq.ensures c.if-eq.true c.as_slice.ensures c.as_slice-then-eq.ensures c.eq-then-eq.ensures
