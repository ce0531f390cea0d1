use Rattle.lt_relating.proofs.WalkLemmas.{any-ok, others-held}
use Rattle.lt_relating.proofs.relating.apply_last.Goals as goal

pub returns-clause-held : goal.returns-clause-held
returns-clause-held g c = λ qs h.
    any-ok c.apply_related.result _
    (others-held c.args.proof.now c.args.law.now c.args.lines.now.items c.pop.new.self.items c.pop-2.new.self.items c.in-Some.arguments c.in-Some-pop.functions qs c.in-Some.ensures.items h
    c.in-Some-pop.ensures.items c.apply_related.new.proof c.apply_related.ensures.carries)
