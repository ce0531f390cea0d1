use Rattle.std.proofs.Common.{◌∙◌, ◌∷◌, [], List, ap, sym}
use Rattle.lt_syntax.specs.Depths.{depth_of, Opened, names_of}
use Rattle.lt_syntax.proofs.OpenBinders.{kept-enter, names_of-append}
use Rattle.lt_syntax.proofs.binders.Binders.enter.Goals as goal

pub invariant_of-result : goal.invariant_of-result
invariant_of-result c =
    kept-enter c.self.inside.entered.items c.push.new.self.items c.self.inside.depths.entries c.insert.new.self.entries _ _ c.len.result c.depth_of-outer.result
    c.self.invariant c.in_ok-insert.ensures.updates.0 (c.len.ensures ∙ c.self.inside.entered.ok.0)
    (c.depth_of-outer.ensures ∙ (λ i. depth_of (sym c.in_ok-copy-2.ensures i) (sym c.self.view_is i)))
    (c.in_ok-copy.ensures ∙ sym c.in_ok-copy-2.ensures) c.in_ok-push.ensures.items

pub returns : goal.returns
returns c =
    ap (λ (entered : List Opened). names_of entered []) c.in_ok-push.ensures.items ∙ names_of-append c.self.inside.entered.items _ []
    ∙ (λ i. c.in_ok-copy-2.ensures i ∷ c.self.view_is i)
