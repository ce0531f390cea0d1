use Rattle.std.proofs.Common.{◌≡◌, length, sym, subst, arith}
use Rattle.std.proofs.lemmas.Grind.{common_steps}
use Rattle.lt_nameless.specs.Nameless.{Nameless}
use Rattle.lt_store.specs.Bounds.{IsBounded, AreBounded}
use Rattle.lt_store.proofs.BoundLemmas.{bounded-push}
use Rattle.lt_shared.proofs.shared_store.note.Goals as goal

pub returns-in_err-push : goal.returns-in_err-push
returns-in_err-push c = subst (AreBounded c.args.nodes.now) (sym c.in_err-push.ensures.items) c.requires.bounded

pub returns : goal.returns
returns c =
    let ns = c.args.nodes.now in
    let place : c.args.id ≡ length c.args.bounds.now.items = grind (arith, common_steps) in
    let known = c.in-Some.ensures ns (subst (AreBounded ns) (sym c.as_slice.ensures.value) c.requires.bounded) in
    bounded-push ns c.args.bounds.now.items c.push.new.self.items c.in-Some.known c.args.id c.in_ok-push.ensures.items place c.requires.id
    (subst (λ (t : Nameless). IsBounded t c.in-Some.known) (sym c.view.ensures.stands) known) c.requires.bounded
