-- Tasks by which a term is made of shared nodes.
use Rattle.std.specs.Prelude.{List, [], ◌∷◌}
use Rattle.lt_terms.specs.declared.term.TermNode.{TermNode}
use Rattle.lt_terms.specs.declared.term.TermNode.TheVariants.{App, Lam}
use Rattle.lt_hol.specs.declared.shared_nodes.Task.{Task}
use Rattle.lt_hol.specs.declared.shared_nodes.Task.TheVariants.{Visit}

-- visits to a node's children, the first child last
abbrev pub visits : TermNode → List Task
visits (App f a) = Visit a ∷ Visit f ∷ []
visits (Lam x ty b) = Visit b ∷ []
visits _ = []
