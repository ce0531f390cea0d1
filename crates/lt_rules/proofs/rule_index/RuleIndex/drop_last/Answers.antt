use Rattle.std.proofs.Common.{◌∙◌, sym, refl}
use Rattle.lt_types.proofs.MapLemmas.{looked_up}
use Rattle.lt_rules.specs.RuleIndexes.{without_last}
use Rattle.lt_rules.proofs.IndexLemmas.{written, none-written, same-entries}
use Rattle.lt_rules.proofs.rule_index.RuleIndex.drop_last.Goals as goal
use Rattle.lt_rules.proofs.rule_index.RuleIndex.drop_last.Goals.{in-Some, in-None}

pub returns : goal.returns
returns c =
    let x = c.args.constant.now in
    let es = c.self.inside.lists.entries in
    elim c.match-get_mut.branch [
      | in-Some w ↦ rw w.self-inside-is (written x without_last es c.args.self.now _ w.in-Some.list.now w.drop_last.new.self c.self.view_is
          (sym (looked_up x es) ∙ sym w.in-Some.ensures.value) (c.get_mut.follows.holds w.drop_last.new.self).0 w.drop_last.ensures)
      | in-None w ↦ rw w.self-inside-is (none-written x without_last es c.args.self.now _ c.self.view_is
          (sym (looked_up x es) ∙ sym w.in-None.ensures.value) (same-entries _ _ c.get_mut.follows.holds-at-none) refl)
    ]
