use Rattle.std.proofs.Common.{◌∷◌, [], ◌∙◌, ap, arith, reverse}
use Rattle.std.proofs.lemmas.List.{reverse-append}
use Rattle.lt_store.proofs.TypeNumberLemmas.{has-within}
use Rattle.lt_store.proofs.TypeTaskLemmas.{leave_some, body_type, leave_found}
use Rattle.lt_store.proofs.type_work.TypeWork.leave.Goals as goal

pub fun-requires-clause-from : goal.fun-requires-clause-from
fun-requires-clause-from g c =
    let split = ap reverse c.take_last-of_binder.ensures ∙ reverse-append c.take_last-of_binder.new.stack.items (c.take_last-of_binder.result ∷ []) in
    has-within _ _ _ (leave_some _ _ _ _ _ c.args.self.now.found _ _ _ _ _ _ c.requires.2 _ _ split).0

pub fun-requires-clause-to : goal.fun-requires-clause-to
fun-requires-clause-to g c =
    has-within _ _ _ (body_type _ _ _ _ _ c.args.self.now.found _ _ _ _ _ _ c.requires.2 _ c.kept-of_body.ensures).has

pub returns : goal.returns
returns g c root base now =
    let split = ap reverse c.take_last-of_binder.ensures ∙ reverse-append c.take_last-of_binder.new.stack.items (c.take_last-of_binder.result ∷ []) in (
      leave_found _ _ _ _ _ c.args.self.now.found _ _ _ _ _ _ now _ c.kept-of_body.ensures _ c.keep.new.memo _ _ _ split c.fun.ensures.grows c.in_ok-number.ensures.ok c.in_ok-keep.ensures,
      omega arith,
    )
