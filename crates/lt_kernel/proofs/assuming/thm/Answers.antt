use Rattle.std.proofs.Common.{◌≡◌, ◌∙◌, refl, sym, ap, Some, None}
use Rattle.std.specs.Option.{option_map}
use Rattle.lt_definitions.specs.Types.{found}
use Rattle.lt_store.specs.Trees.{tree_at}
use Rattle.lt_types.proofs.MapLemmas.{looked_up}
use Rattle.lt_definitions.proofs.RuleLemmas.{missing-on, found-on}
use Rattle.lt_kernel.proofs.Outcomes.{gives-alone}
use Rattle.lt_kernel.proofs.NamedIds.{found-statement, found-within}
use Rattle.lt_kernel.proofs.assuming.thm.Goals as goal

pub returns-in_default : goal.returns-in_default
returns-in_default g c =
    let ns = g.S.TermStore.nodes c.args._store.now in
    let at : found c.args.label.now c.args.named.now.entries ≡ None = sym (looked_up c.args.label.now c.args.named.now.entries) ∙ sym c.get.ensures.value ∙ sym c.copied.ensures ∙ c.in_default.is in
    record { step = missing-on _ _ _ (found-statement ns c.args.label.now c.args.named.now.entries ∙ ap (option_map (tree_at ns)) at) }

pub returns : goal.returns
returns g c =
    let ns = g.S.TermStore.nodes c.args._store.now in
    let at : found c.args.label.now c.args.named.now.entries ≡ Some c.in-Some.concl = sym (looked_up c.args.label.now c.args.named.now.entries) ∙ sym c.get.ensures.value ∙ sym c.copied.ensures ∙ c.in-Some.is in
    record {
      step = gives-alone ns _ c.in-Some.concl _ _ c.without_hyps.ensures
          (found-on _ _ _ _ (found-statement ns c.args.label.now c.args.named.now.entries ∙ ap (option_map (tree_at ns)) at))
          (found-within _ c.args.label.now c.args.named.now.entries _ c.requires at) refl;
    }
