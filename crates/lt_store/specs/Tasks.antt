-- Tasks of a pass.
use Rattle.std.specs.Prelude.{ℕ, List, map}
use Rattle.lt_store.specs.declared.pass.Task.{Task}
use Rattle.lt_store.specs.declared.pass.Task.TheVariants.{Visit}

-- a visit to each
abbrev pub visits : List (ℕ × ℕ) → List Task
visits ps = map (λ p. Visit p.0 p.1) ps
