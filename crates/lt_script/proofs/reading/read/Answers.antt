-- The stack that is expected behind the word of a sentence.
use Rattle.std.proofs.Common.{◌≡◌, sym, subst, [], List}
use Rattle.std.specs.Prelude.{IfOk, IfErr}
use Rattle.lt_texts.specs.Texts.{here}
use Rattle.lt_commands.specs.declared.note.Note.{Note}
use Rattle.lt_commands.specs.Making.{nothing, put_all}
use Rattle.lt_commands.specs.Views.{made_of}
use Rattle.lt_script.specs.declared.symbol.Symbol.{Symbol}
use Rattle.lt_script.specs.Marks.{ReadsLines}
use Rattle.lt_script.specs.Stops.{IsWaiting, IsStopped, call_of}
use Rattle.lt_script.proofs.Directly.{expected_waits, head_expected}
use Rattle.lt_script.proofs.reading.read.Goals as goal

pub read_from-requires-clause-waits : goal.read_from-requires-clause-waits
read_from-requires-clause-waits c =
    subst IsWaiting (sym (head_expected c.args.number c.args.head c.expect_head.new.stack.items c.new-stack.result.items c.in_ok-expect_head.ensures c.new-stack.ensures.items))
    (expected_waits c.args.number c.args.head)

pub returns-clause-read : goal.returns-clause-read
returns-clause-read c =
    subst (λ (st : List Symbol). IfOk c.read_from.result (λ r. (b : List Note) × ReadsLines st [] c.args.lexer.now b r.places.items c.read_from.new.lexer
    × (made_of r.maker ≡ put_all b nothing) × (r.to ≡ here c.read_from.new.lexer)))
    (head_expected c.args.number c.args.head c.expect_head.new.stack.items c.new-stack.result.items c.in_ok-expect_head.ensures c.new-stack.ensures.items) c.read_from.ensures.read

pub returns-clause-wrong : goal.returns-clause-wrong
returns-clause-wrong c =
    subst (λ (st : List Symbol). IfErr c.read_from.result (λ e. IsStopped st [] (call_of c.args.head) c.args.lexer.now e))
    (head_expected c.args.number c.args.head c.expect_head.new.stack.items c.new-stack.result.items c.in_ok-expect_head.ensures c.new-stack.ensures.items) c.read_from.ensures.wrong
