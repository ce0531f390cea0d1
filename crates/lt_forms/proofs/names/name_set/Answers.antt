use Rattle.lt_forms.proofs.NameLists.{set-next}
use Rattle.lt_forms.proofs.names.name_set.Goals as goal

pub loop-name-preserved : goal.loop-name-preserved
loop-name-preserved c x =
    set-next c.args.names.now c.loop-name.set.keys c.insert.new.self.keys c.loop-name.name-index c.name-item.result c.in_ok-copy.field-0 x c.loop-name-test.true c.name-item.is
    c.in_ok-insert.ensures.keys c.in_ok-copy.ensures (c.loop-name.invariant x)
