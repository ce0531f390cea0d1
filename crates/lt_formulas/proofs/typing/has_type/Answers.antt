use Rattle.std.proofs.Common.{◌∙◌, ap}
use Rattle.lt_definitions.specs.Types.{same_type}
use Rattle.lt_store.specs.Trees.{tree_at}
use Rattle.lt_formulas.proofs.TypedTerms.{typed-has}
use Rattle.lt_formulas.proofs.typing.has_type.Goals as goal

pub returns : goal.returns
returns g c = c.eq.ensures ∙ ap (same_type c.args.ty.now) c.in_ok-found.ensures ∙ typed-has c.args.sig.now (tree_at (g.S.TermStore.nodes c.args.store.now) c.args.t) c.args.ty.now c.requires.typed
