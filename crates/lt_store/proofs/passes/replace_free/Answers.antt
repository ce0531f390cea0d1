use Rattle.std.proofs.Common.{◌≡◌, length, ap, arith}
use Rattle.lt_store.proofs.passes.replace_free.Goals as goal

pub make_each-requires-clause-sound : goal.make_each-requires-clause-sound
make_each-requires-clause-sound g c = c.made_before-memo.ensures.is

pub keep_replaced-requires : goal.keep_replaced-requires
keep_replaced-requires g c =
    let same : length (g.S.TermStore.nodes c.made_before-memo.new.store) ≡ length (g.S.TermStore.nodes c.args.store.now) = ap length c.made_before-memo.ensures.kept in
    (omega (arith, c.requires.by, same, c.in_ok-made.ensures.builds.kept.grows), λ i d r at. rw (c.in_ok-name.ensures, c.in_ok-ty.ensures) (c.in_ok-made.ensures.sound i d r at))
