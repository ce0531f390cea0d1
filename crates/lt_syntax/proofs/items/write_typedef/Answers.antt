use Rattle.std.proofs.Common.{◌∙◌, ◌++◌, codes, ap}
use Rattle.lt_syntax.specs.ItemText.{spaced_params}
use Rattle.lt_syntax.proofs.ItemHeads.{eleven, all-params}
use Rattle.lt_syntax.proofs.items.write_typedef.Goals as goal

pub returns : goal.returns
returns c =
    eleven c.args.text.now (codes "typedef ") c.args.name.now (spaced_params c.args.params.now) (codes " : ") _ (codes " by ") c.args.label.now (codes " abs ") c.args.abs.now (codes " rep ") c.args.rep.now
    _ _ _ _ _ _ _ _ _ _ _ c.in_ok-signs.ensures c.in_ok-name.ensures
    (c.loop-param.invariant ∙ ap (λ ps. c.name.new.self ++ spaced_params ps) (all-params c.args.params.now _ _ c.loop-param.auto.param-index-end c.loop-param-test.false c.as_slice-param-items.ensures))
    c.in_ok-signs-3.ensures c.in_ok-write_term.ensures c.in_ok-signs-4.ensures c.in_ok-name-3.ensures c.in_ok-signs-5.ensures c.in_ok-name-4.ensures c.in_ok-signs-6.ensures c.in_ok-name-5.ensures
