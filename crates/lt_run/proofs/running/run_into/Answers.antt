use Rattle.lt_extend.specs.Theories.{items_of}
use Rattle.lt_run.proofs.Statuses.{status_told, fault_told, run_accepted, run_refused, run_front}
use Rattle.lt_run.proofs.running.run_into.Goals as goal

pub returns-clause-status : goal.returns-clause-status
returns-clause-status g c = status_told c.args.names.now c.args.joined.now c.run_text-walked.result c.tell_walk.result _ _ c.tell_walk.ensures.told

pub returns-clause-accepted : goal.returns-clause-accepted
returns-clause-accepted g c = λ zero.
    run_accepted c.args.session.now.limit c.args.summary c.args.names.now c.args.joined.now c.deref.result.now (items_of c.run_text-walked.new.session.items) _ _ _ _ c.run_text-walked.result c.tell_walk.result
    c.deref.ensures.value c.run_text-walked.ensures.run c.tell_walk.ensures.told zero

pub returns-clause-refused : goal.returns-clause-refused
returns-clause-refused g c = λ one.
    run_refused c.args.session.now.limit c.args.summary c.args.names.now c.args.joined.now c.deref.result.now (items_of c.run_text-walked.new.session.items) _ _ _ _ c.run_text-walked.result c.tell_walk.result
    c.deref.ensures.value c.run_text-walked.ensures.run c.tell_walk.ensures.told one

pub returns-clause-write : goal.returns-clause-write
returns-clause-write g c = λ four. fault_told _ _ _ _ c.run_text-walked.result (c.tell_walk.ensures.write four) c.run_text-walked.ensures.cause

pub returns-clause-front : goal.returns-clause-front
returns-clause-front g c = λ stopped.
    run_front c.args.session.now.limit c.args.summary c.args.names.now c.args.joined.now c.deref.result.now (items_of c.run_text-walked.new.session.items) _ _ _ _ c.run_text-walked.result c.tell_walk.result
    c.deref.ensures.value c.run_text-walked.ensures.run c.tell_walk.ensures.told stopped
