use Rattle.std.proofs.Common.{refl}
use Rattle.lt_extend.specs.Theories.{context_behind}
use Rattle.lt_plain.proofs.Steppings.{refuses_plain, next_plain, stops_unread, steps_on, steps_end}
use Rattle.lt_plain.proofs.checking.next_item.Goals as goal

pub returns-in-Err-clause-steps : goal.returns-in-Err-clause-steps
returns-in-Err-clause-steps g c =
    (stops_unread (context_behind c.args.th.now.items) c.args.script.now.left c.in-Err.error _ c.of_read_error.ensures (refuses_plain c.args.script.now c.in-Err.error c.requires.plain c.in-Err.ensures.wrong), refl)

pub returns-in-Ok-add_spanned-clause-steps : goal.returns-in-Ok-add_spanned-clause-steps
returns-in-Ok-add_spanned-clause-steps g c =
    steps_on c.args.script.now.left c.in-Some.spanned c.args.th.now.items c.parse_item.new.self.left c.add_spanned.new.th.items
    (next_plain c.args.script.now _ _ _ _ _ c.requires.plain (rw c.in-Some.is at c.in-Ok.ensures.command)) c.in-Ok-add_spanned.ensures.adds

pub returns-in-Err-add_spanned-clause-steps : goal.returns-in-Err-add_spanned-clause-steps
returns-in-Err-add_spanned-clause-steps g c =
    steps_end c.args.script.now.left c.in-Some.spanned c.args.th.now.items c.parse_item.new.self.left c.add_spanned.new.th.items c.in-Err-add_spanned.placed
    (next_plain c.args.script.now _ _ _ _ _ c.requires.plain (rw c.in-Some.is at c.in-Ok.ensures.command)) c.in-Err-add_spanned.ensures.adds
