use Rattle.lt_extend.specs.Theories.{items_of}
use Rattle.lt_run.proofs.Statuses.{status_told, fault_told, check_accepted, check_refused, check_front}
use Rattle.lt_run.proofs.check.check_into.Goals as goal

pub returns-clause-status : goal.returns-clause-status
returns-clause-status g c = status_told c.args.names.now c.args.joined.now c.walk_text-walked.result c.tell_walk.result _ _ c.tell_walk.ensures.told

pub returns-clause-accepted : goal.returns-clause-accepted
returns-clause-accepted g c = λ zero.
    check_accepted c.args.names.now c.args.joined.now c.deref.result.now (items_of c.walk_text-walked.new.th.items) _ _ _ _ c.walk_text-walked.result c.tell_walk.result c.deref.ensures.value c.walk_text-walked.ensures.walked
    c.tell_walk.ensures.told zero

pub returns-clause-refused : goal.returns-clause-refused
returns-clause-refused g c = λ one.
    check_refused c.args.names.now c.args.joined.now c.deref.result.now (items_of c.walk_text-walked.new.th.items) _ _ _ _ c.walk_text-walked.result c.tell_walk.result c.deref.ensures.value c.walk_text-walked.ensures.walked
    c.tell_walk.ensures.told one

pub returns-clause-write : goal.returns-clause-write
returns-clause-write g c = λ four. fault_told _ _ _ _ c.walk_text-walked.result (c.tell_walk.ensures.write four) c.walk_text-walked.ensures.cause

pub returns-clause-front : goal.returns-clause-front
returns-clause-front g c = λ stopped.
    check_front c.args.names.now c.args.joined.now c.deref.result.now (items_of c.walk_text-walked.new.th.items) _ _ _ _ c.walk_text-walked.result c.tell_walk.result c.deref.ensures.value c.walk_text-walked.ensures.walked
    c.tell_walk.ensures.told stopped
