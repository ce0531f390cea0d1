use Rattle.std.proofs.Common.{arith, length, ◌<◌}
use Rattle.lt_extend.proofs.ToldSequents.{all-at, whole-at, told-next, told-all}
use Rattle.lt_extend.proofs.proving.terms_of.Goals as goal

pub from_store-requires : goal.from_store-requires
from_store-requires g c = record {
  t = all-at (λ i. i < length (g.S.TermStore.nodes c.args.store.now)) c.args.ids.now c.loop-at.at c.at.result.now c.requires.within c.at.ensures;
  whole = whole-at (g.S.TermStore.nodes c.args.store.now) c.args.ids.now c.loop-at.at c.at.result.now c.requires.whole c.at.ensures;
}

pub loop-at-preserved : goal.loop-at-preserved
loop-at-preserved g c =
    told-next (g.S.TermStore.nodes c.args.store.now) c.args.ids.now c.loop-at.at c.at.result.now c.loop-at.terms c.push.new.self c.in_ok-term.term c.loop-at.invariant c.at.ensures c.in_ok-term.ensures c.in_ok-push.ensures.ok

pub returns : goal.returns
returns g c = told-all (g.S.TermStore.nodes c.args.store.now) c.args.ids.now c.loop-at.at c.loop-at.terms c.loop-at.invariant (omega (arith, c.loop-at-test.false, c.len-at-end.ensures))
