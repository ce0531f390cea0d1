use Rattle.std.proofs.Common.{◌∙◌, ◌∷◌, ◌++◌, [], ap, sym}
use Rattle.lt_definitions.specs.Types.{found}
use Rattle.lt_types.proofs.MapLemmas.{looked_up}
use Rattle.lt_rules.proofs.IndexLemmas.{written, unwritten, same-entries, on_error}
use Rattle.lt_rules.proofs.rule_index.RuleIndex.add.Goals as goal

pub returns-in_err-push-in-Some-clause-err : goal.returns-in_err-push-in-Some-clause-err
returns-in_err-push-in-Some-clause-err c =
    let x = c.args.constant in
    let es = c.self.inside.lists.entries in
    on_error c.from_residual.result (unwritten x es c.args.self.now _ c.in-Some.list.now c.push.new.self c.self.view_is
    (sym (looked_up x es) ∙ sym c.in-Some.ensures.value) (c.get_mut.follows.holds c.push.new.self).0 c.in_err-push-in-Some.ensures.err)

pub add_first-requires : goal.add_first-requires
add_first-requires c =
    let x = c.args.constant in
    ap (found x) (same-entries _ _ c.get_mut.follows.holds-at-none) ∙ sym (looked_up x c.self.inside.lists.entries) ∙ sym c.in-None.ensures.value

pub returns-in_ok-push-in-Some-clause-ok : goal.returns-in_ok-push-in-Some-clause-ok
returns-in_ok-push-in-Some-clause-ok c =
    let x = c.args.constant in
    let es = c.self.inside.lists.entries in
    written x (λ rules. rules ++ c.args.rule ∷ []) es c.args.self.now _ c.in-Some.list.now c.push.new.self c.self.view_is
    (sym (looked_up x es) ∙ sym c.in-Some.ensures.value) (c.get_mut.follows.holds c.push.new.self).0 c.in_ok-push-in-Some.ensures.ok
