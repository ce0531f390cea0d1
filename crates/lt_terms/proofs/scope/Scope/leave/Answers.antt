use Rattle.std.proofs.Common.{◌∙◌, [], List, drop, ap, sym, subst, append-nil}
use Rattle.lt_terms.specs.declared.scope.Entered.{Entered}
use Rattle.lt_terms.specs.Scopes.{places_of, IsKept}
use Rattle.lt_terms.proofs.OpenBinders.{kept-leave, places_of-append, none-entered}
use Rattle.lt_terms.proofs.scope.Scope.leave.Goals as goal

pub invariant_of-result : goal.invariant_of-result
invariant_of-result c =
    kept-leave c.self.inside.entered.items c.pop.new.self.items c.self.inside.innermost.entries c.insert.new.self.entries c.in-Some.last
    c.self.invariant c.in-Some.ensures.items c.in_ok-insert-in-Some.ensures.updates.0

pub returns-in_ok-insert-in-Some : goal.returns-in_ok-insert-in-Some
returns-in_ok-insert-in-Some c =
    ap (drop 1) (sym (places_of-append c.pop.new.self.items c.in-Some.last []) ∙ sym (ap (λ (entered : List Entered). places_of entered []) c.in-Some.ensures.items) ∙ c.self.view_is)

pub invariant_of-result-in-None : goal.invariant_of-result-in-None
invariant_of-result-in-None c =
    subst (λ (entered : List Entered). IsKept entered c.self.inside.innermost.entries) (c.in-None.ensures.items ∙ append-nil c.pop.new.self.items) c.self.invariant

pub returns-in-None : goal.returns-in-None
returns-in-None c =
    none-entered c.self.inside.entered.items c.pop.new.self.items c.in-None.ensures.items (sym c.self.inside.entered.ok.0 ∙ c.in-None.ensures.cases.0) ∙ ap (drop 1) c.self.view_is
