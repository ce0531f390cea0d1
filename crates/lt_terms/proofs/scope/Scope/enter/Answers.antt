use Rattle.std.proofs.Common.{◌∙◌, ◌∷◌, [], List, ap, sym}
use Rattle.lt_terms.specs.declared.scope.Entered.{Entered}
use Rattle.lt_terms.specs.Scopes.{opening_of, places_of}
use Rattle.lt_terms.proofs.OpenBinders.{kept-enter, places_of-append}
use Rattle.lt_terms.proofs.scope.Scope.enter.Goals as goal

pub invariant_of-result : goal.invariant_of-result
invariant_of-result c =
    kept-enter c.self.inside.entered.items c.push.new.self.items c.self.inside.innermost.entries c.insert.new.self.entries _ _ c.len.result
    c.self.invariant c.in_ok-insert.ensures.updates.0 (c.len.ensures ∙ c.self.inside.entered.ok.0)
    (c.opening_of-outside.ensures ∙ (λ i. opening_of (sym c.in_ok-copy-2.ensures i) (sym c.self.view_is i)))
    (c.in_ok-copy.ensures ∙ sym c.in_ok-copy-2.ensures) c.in_ok-push.ensures.items

pub returns : goal.returns
returns c =
    ap (λ (entered : List Entered). places_of entered []) c.in_ok-push.ensures.items ∙ places_of-append c.self.inside.entered.items _ []
    ∙ (λ i. (c.in_ok-copy-2.ensures i, c.args.place) ∷ c.self.view_is i)
