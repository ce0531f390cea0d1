-- What is said by rows is what the definitions say.
use Rattle.lt_script.specs.Openings.{opened}
use Rattle.lt_script.proofs.ScriptLemmas.{if_ok, if_err}
use Rattle.lt_script.proofs.ToPieces.{header_stands, refuses_header}
use Rattle.lt_script.proofs.sentences.open_header.Goals as goal

pub returns-clause-header : goal.returns-clause-header
returns-clause-header c =
    if_ok c.read_header.result _ _ (λ u m. λ commands. header_stands (opened c.args.opening.now commands) c.args.lexer.now c.read_header.new.lexer (m commands)) c.read_header.ensures.header

pub returns-clause-wrong : goal.returns-clause-wrong
returns-clause-wrong c =
    if_err c.read_header.result _ _ (λ e f. λ commands. refuses_header (opened c.args.opening.now commands) c.args.lexer.now e (f commands)) c.read_header.ensures.wrong
