use Rattle.std.proofs.Common.{sym, ◌∙◌}
use Rattle.lt_definitions.specs.Types.{same_name, same_type}
use Rattle.lt_definitions.proofs.SameNames.{both-true, name-true, type-true}
use Rattle.lt_store.proofs.replacing.Replacing.is_of.Goals as goal

pub returns-then-self-by : goal.returns-then-self-by
returns-then-self-by c e =
    let both = both-true (same_name c.args.name.now c.args.self.now.name) (same_type c.args.ty.now c.args.self.now.ty) (sym c.is_variable.ensures ∙ e) in
    (sym (name-true c.args.name.now c.args.self.now.name both.0), sym (type-true c.args.ty.now c.args.self.now.ty both.1), c.if-self-by.true)
