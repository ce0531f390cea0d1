use Rattle.std.proofs.Common.{◌∙◌, sym, ap}
use Rattle.lt_extend.specs.Theories.{items_of}
use Rattle.lt_texts.specs.Walks.{plain_limit}
use Rattle.lt_walks.specs.Walks.{too_long}
use Rattle.lt_session.proofs.Fronts.{Grew-none}
use Rattle.lt_run.proofs.Told.{joined_some, told_ends, front_told, failed_among, failed_read, failed_long, passed_ends}
use Rattle.lt_run.proofs.check.check_files.Goals as goal

pub check_joined-requires : goal.check_joined-requires
check_joined-requires g c = joined_some plain_limit _ c.args.names.now c.in-Ok.joined c.in-Ok.ensures.joined c.requires

pub returns-in-Ok-clause-accepted : goal.returns-in-Ok-clause-accepted
returns-in-Ok-clause-accepted g c = λ zero. told_ends _ c.args.names.now c.in-Ok.joined _ _ _ _ _ _ c.in-Ok.ensures.joined (c.check_joined.ensures.accepted zero)

pub returns-in-Ok-clause-refused : goal.returns-in-Ok-clause-refused
returns-in-Ok-clause-refused g c = λ one.
    let said = c.check_joined.ensures.refused one in
    (said.0, said.1, told_ends _ c.args.names.now c.in-Ok.joined _ said.0 _ _ _ _ c.in-Ok.ensures.joined said.2)

pub returns-in-Ok-clause-front : goal.returns-in-Ok-clause-front
returns-in-Ok-clause-front g c = λ stopped. front_told _ c.args.names.now c.in-Ok.joined _ _ _ c.in-Ok.ensures.joined (c.check_joined.ensures.front stopped)

pub tell_unjoined-requires : goal.tell_unjoined-requires
tell_unjoined-requires g c = failed_among plain_limit _ _ _ c.args.names.now c.in-Err.fault c.in-Err.ensures.failed

pub returns-in-Err-clause-read : goal.returns-in-Err-clause-read
returns-in-Err-clause-read g c = λ three.
    let (name, n, fault, at, line) = c.tell_unjoined.ensures.read (sym c.without_items.ensures.status ∙ three) in
    (name, n, at, c.without_items.ensures.items, failed_read plain_limit _ _ _ c.args.names.now c.in-Err.fault n c.in-Err.ensures.failed fault, Grew-none (g.O.Sink.written c.args.out.now), line)

pub returns-in-Err-clause-refused : goal.returns-in-Err-clause-refused
returns-in-Err-clause-refused g c = λ one.
    let (name, n, fault, at, line) = c.tell_unjoined.ensures.line (sym c.without_items.ensures.status ∙ one) in (
      too_long,
      λ same. cc same,
      passed_ends _ c.args.names.now n name (items_of c.without_items.result.items) (g.O.Sink.written c.args.out.now) _ _
          (failed_long plain_limit _ _ _ c.args.names.now c.in-Err.fault n c.in-Err.ensures.failed fault) at (ap items_of c.without_items.ensures.items) line,
    )
