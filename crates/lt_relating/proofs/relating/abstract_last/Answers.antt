use Rattle.lt_relating.proofs.WalkLemmas.{any-ok, rest-held}
use Rattle.lt_relating.proofs.relating.abstract_last.Goals as goal

pub returns-clause-held : goal.returns-clause-held
returns-clause-held g c = λ qs h.
    any-ok c.abstract_related.result _
    (rest-held c.args.proof.now c.args.law.now c.args.pair.now c.args.lines.now.items c.pop.new.self.items c.in-Some.values qs c.in-Some.ensures.items h
    c.abstract_related.new.proof c.abstract_related.ensures.carries)
