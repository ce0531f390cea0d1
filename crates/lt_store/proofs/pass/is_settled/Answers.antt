use Rattle.lt_store.proofs.Images.{sound_keep}
use Rattle.lt_store.proofs.pass.is_settled.Goals as goal

pub returns-in_ok-keep-in-Some-clause-sound : goal.returns-in_ok-keep-in-Some-clause-sound
returns-in_ok-keep-in-Some-clause-sound g c =
    sound_keep (g.S.TermStore.nodes c.args.store.now) c.args.work c.args.memo.now c.keep.new.memo c.args.id c.args.depth c.in-Some.made c.in_ok-keep-in-Some.ensures c.requires.id c.in-Some.ensures c.requires.sound
