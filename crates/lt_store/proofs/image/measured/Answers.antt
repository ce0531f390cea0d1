use Rattle.std.proofs.Common.{◌≡◌, ◌+◌, ℕ, subst, arith}
use Rattle.lt_store.specs.Memos.{IsKept}
use Rattle.lt_store.proofs.image.measured.Goals as goal

pub kept-function-requires : goal.kept-function-requires
kept-function-requires g c = (c.requires.ready _ c.in-App.ensures.node).0

pub kept-argument-requires : goal.kept-argument-requires
kept-argument-requires g c = (c.requires.ready _ c.in-App.ensures.node).1.0

pub kept-requires : goal.kept-requires
kept-requires g c =
    let same : c.args.depth + 0 ≡ c.args.depth = omega arith in
    subst (λ (d : ℕ). IsKept c.args.memo.now (c.in-Lam.body, d)) same (c.requires.ready _ c.in-Lam.ensures.node).0
