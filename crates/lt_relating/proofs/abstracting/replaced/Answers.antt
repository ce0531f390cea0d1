use Rattle.lt_relating.proofs.ExpandingLemmas.{relation-sound, first-step, second-step, both-equation, replaced-sure, replaced-line}
use Rattle.lt_relating.proofs.abstracting.replaced.Goals as goal

pub refl-requires : goal.refl-requires
refl-requires g c = relation-sound c.args.proof.now c.args.relation c.args.image c.args.given c.args.i c.requires

pub cong-requires : goal.cong-requires
cong-requires g c = first-step c.args.proof.now c.args.relation c.args.image c.args.given c.args.i c.requires c.refl.new.proof c.refl.ensures.carries c.in_ok-same.same c.in_ok-same.ensures.line

pub cong-requires-2 : goal.cong-requires-2
cong-requires-2 g c = second-step c.args.proof.now c.args.relation c.args.image c.args.given c.args.i c.requires c.refl.new.proof c.refl.ensures.carries c.in_ok-same.same c.in_ok-same.ensures.line c.cong.new.proof c.cong.ensures.carries c.in_ok-first.first (c.in_ok-first.ensures.line (first-step c.args.proof.now c.args.relation c.args.image c.args.given c.args.i c.requires c.refl.new.proof c.refl.ensures.carries c.in_ok-same.same c.in_ok-same.ensures.line))

pub sym-requires : goal.sym-requires
sym-requires g c = both-equation c.args.proof.now c.args.relation c.args.image c.args.given c.args.i c.requires c.cong-2.new.proof c.in_ok-both.both (c.in_ok-both.ensures.line (second-step c.args.proof.now c.args.relation c.args.image c.args.given c.args.i c.requires c.refl.new.proof c.refl.ensures.carries c.in_ok-same.same c.in_ok-same.ensures.line c.cong.new.proof c.cong.ensures.carries c.in_ok-first.first (c.in_ok-first.ensures.line (first-step c.args.proof.now c.args.relation c.args.image c.args.given c.args.i c.requires c.refl.new.proof c.refl.ensures.carries c.in_ok-same.same c.in_ok-same.ensures.line))))

pub eqmp-requires : goal.eqmp-requires
eqmp-requires g c =
    replaced-sure c.args.proof.now c.args.relation c.args.image c.args.given c.args.i c.requires c.sym.new.proof (λ first k. c.sym.ensures.carries first (c.cong-2.ensures.carries first (c.cong.ensures.carries first (c.refl.ensures.carries first k)))) c.in_ok-back.back
    (c.in_ok-back.ensures.line (both-equation c.args.proof.now c.args.relation c.args.image c.args.given c.args.i c.requires c.cong-2.new.proof c.in_ok-both.both (c.in_ok-both.ensures.line (second-step c.args.proof.now c.args.relation c.args.image c.args.given c.args.i c.requires c.refl.new.proof c.refl.ensures.carries c.in_ok-same.same c.in_ok-same.ensures.line c.cong.new.proof c.cong.ensures.carries c.in_ok-first.first (c.in_ok-first.ensures.line (first-step c.args.proof.now c.args.relation c.args.image c.args.given c.args.i c.requires c.refl.new.proof c.refl.ensures.carries c.in_ok-same.same c.in_ok-same.ensures.line))))))

pub returns-clause-line : goal.returns-clause-line
returns-clause-line g c = λ q. replaced-line c.args.proof.now c.args.relation c.args.image c.args.given c.args.i q c.sym.new.proof (λ first k. c.sym.ensures.carries first (c.cong-2.ensures.carries first (c.cong.ensures.carries first (c.refl.ensures.carries first k)))) c.in_ok-back.back
    (c.in_ok-back.ensures.line (both-equation c.args.proof.now c.args.relation c.args.image c.args.given c.args.i q c.cong-2.new.proof c.in_ok-both.both (c.in_ok-both.ensures.line (second-step c.args.proof.now c.args.relation c.args.image c.args.given c.args.i q c.refl.new.proof c.refl.ensures.carries c.in_ok-same.same c.in_ok-same.ensures.line c.cong.new.proof c.cong.ensures.carries c.in_ok-first.first (c.in_ok-first.ensures.line (first-step c.args.proof.now c.args.relation c.args.image c.args.given c.args.i q c.refl.new.proof c.refl.ensures.carries c.in_ok-same.same c.in_ok-same.ensures.line)))))) c.eqmp.new.proof c.in_ok-line.line c.in_ok-line.ensures.line
