use Rattle.std.proofs.Common.{◌∙◌}
use Rattle.lt_definitions.specs.Items.{empty, context_of}
use Rattle.lt_definitions.specs.Rules.{line_at}
use Rattle.lt_extend.proofs.KeptLines.{read-all, line-read, proves-memory}
use Rattle.lt_extend.proofs.WholeLines.{whole-lines}
use Rattle.lt_extend.proofs.lemmas.check_kept.Goals as goal

pub check_proved-requires : goal.check_proved-requires
check_proved-requires g c =
    let valid = c.requires.valid in
    let read = read-all (context_of empty valid.0) c.args.proof.now valid.2 c.steps-lines.ensures.derived in
    record {
      statement = c.in_ok-id.ensures.builds.made;
      whole = whole-lines valid.0 read.rules c.add_term.new.self read.done valid.1 read.gives (c.add_term.ensures.keeps.sequents ∙ read.has);
    }

pub returns-in_err-id-clause-proves : goal.returns-in_err-id-clause-proves
returns-in_err-id-clause-proves g c =
    let valid = c.requires.valid in
    let read = read-all (context_of empty valid.0) c.args.proof.now valid.2 c.steps-lines.ensures.derived in
    (line_at read.done c.args.line, line-read (context_of empty valid.0) c.args.proof.now read c.args.line, proves-memory _ c.from_residual.result c.from_residual.ensures.1)

pub returns-in-Err-clause-proves : goal.returns-in-Err-clause-proves
returns-in-Err-clause-proves g c =
    let valid = c.requires.valid in
    let read = read-all (context_of empty valid.0) c.args.proof.now valid.2 c.steps-lines.ensures.derived in (
      line_at read.done c.args.line,
      line-read (context_of empty valid.0) c.args.proof.now read c.args.line,
      c.in-Err.ensures read.done c.args.statement.now (c.add_term.ensures.keeps.sequents ∙ read.has) c.in_ok-id.ensures.builds.is,
    )

pub returns-clause-proves : goal.returns-clause-proves
returns-clause-proves g c =
    let valid = c.requires.valid in
    let read = read-all (context_of empty valid.0) c.args.proof.now valid.2 c.steps-lines.ensures.derived in (
      line_at read.done c.args.line,
      line-read (context_of empty valid.0) c.args.proof.now read c.args.line,
      c.in-Ok.ensures read.done c.args.statement.now (c.add_term.ensures.keeps.sequents ∙ read.has) c.in_ok-id.ensures.builds.is,
    )
