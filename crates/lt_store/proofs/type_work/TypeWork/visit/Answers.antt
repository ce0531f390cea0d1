use Rattle.std.proofs.Common.{ap, arith, IsSome, refl}
use Rattle.std.proofs.lemmas.List.{length-reverse}
use Rattle.std.proofs.lemmas.Grind.{common_steps}
use Rattle.lt_nameless.specs.NamelessRules.{nameless_typed}
use Rattle.lt_store.specs.Memos.{result_at}
use Rattle.lt_store.proofs.TypeTaskLemmas.{skipped, typing-as, visit_found, visit_wide, visit_index, visit_bound, visit_application, visit_abstraction, lighter_visit, lighter_application, lighter_abstraction}
use Rattle.lt_store.proofs.type_work.TypeWork.visit.Goals as goal

pub returns-then-is_some : goal.returns-then-is_some
returns-then-is_some g c root base now =
    let own : IsSome (result_at c.args.self.now.found c.args.id c.args.context) = grind (arith, common_steps) in (
      skipped _ _ _ _ _ c.args.self.now.found _ _ _ _ own now,
      lighter_visit _ c.args.id _,
    )

pub enter-requires : goal.enter-requires
enter-requires g c = visit_wide _ _ _ _ _ c.args.self.now.found _ _ _ _ c.requires.2

pub binder_number-number-requires : goal.binder_number-number-requires
binder_number-number-requires g c =
    let h = visit_index _ _ _ _ _ c.args.self.now.found _ _ _ _ c.requires.2 _ c.in-Bound.ensures.stands in
    omega (arith, h, length-reverse c.args.self.now.binders.items)

pub returns-in_ok-push_application-in-App : goal.returns-in_ok-push_application-in-App
returns-in_ok-push_application-in-App g c root base now = (
  typing-as _ _ _ _ _ c.args.self.now.found _ _ _ _ refl c.in_ok-push_application-in-App.ensures
      (visit_application _ _ _ _ _ c.args.self.now.found _ _ _ _ now _ _ c.in-App.ensures.stands c.in-App.ensures.below.0 c.in-App.ensures.below.1),
  lighter_application _ c.args.id c.args.context _ _ _ _ c.in-App.ensures.stands c.in_ok-push_application-in-App.ensures,
)

pub returns-in_ok-push_abstraction-in-Ok : goal.returns-in_ok-push_abstraction-in-Ok
returns-in_ok-push_abstraction-in-Ok g c root base now =
    let ok = c.in-Ok.ensures.ok in (
      typing-as _ _ _ _ _ c.args.self.now.found _ _ _ _ ok.pushed c.in_ok-push_abstraction-in-Ok.ensures
          (visit_abstraction _ _ _ _ _ c.args.self.now.found _ _ _ _ now _ _ _ ok.number _ c.in-Lam.ensures.stands c.in-Lam.ensures.below c.enter.ensures.kept c.in-Ok.ensures.right ok.is ok.inside),
      lighter_abstraction _ c.args.id c.args.context _ _ _ _ _ c.in-Lam.ensures.stands c.in_ok-push_abstraction-in-Ok.ensures,
    )

pub returns-in_ok-keep-in-Ok-checked : goal.returns-in_ok-keep-in-Ok-checked
returns-in_ok-keep-in-Ok-checked g c root base now =
    let sig = c.args.sig.now in (
      visit_found _ _ _ _ _ c.args.self.now.found _ _ _ _ now _ c.keep.new.memo _ _ c.checked.ensures.kept (ap (nameless_typed sig now.tys) c.in-Free.ensures.stands) c.in-Ok-checked.ensures.is c.in_ok-keep-in-Ok-checked.ensures,
      lighter_visit _ c.args.id _,
    )

pub returns-in_ok-keep-in-Ok-constant_number : goal.returns-in_ok-keep-in-Ok-constant_number
returns-in_ok-keep-in-Ok-constant_number g c root base now =
    let sig = c.args.sig.now in (
      visit_found _ _ _ _ _ c.args.self.now.found _ _ _ _ now _ c.keep-in-Ok-constant_number.new.memo _ _ c.constant_number.ensures.kept (ap (nameless_typed sig now.tys) c.in-Const.ensures.stands) c.in-Ok-constant_number.ensures.is
          c.in_ok-keep-in-Ok-constant_number.ensures,
      lighter_visit _ c.args.id _,
    )

pub returns-in_ok-keep-in-Bound : goal.returns-in_ok-keep-in-Bound
returns-in_ok-keep-in-Bound g c root base now = (
  visit_bound _ _ _ _ _ c.args.self.now.found _ _ _ _ now c.keep-in-Bound.new.memo _ _ c.in-Bound.ensures.stands c.binder_number-number.ensures c.in_ok-keep-in-Bound.ensures,
  lighter_visit _ c.args.id _,
)
