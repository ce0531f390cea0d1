-- What is said by rows is what the definitions say.
use Rattle.std.specs.Prelude.{MatchOption}
use Rattle.std.proofs.Common.{Option, Some, None}
use Rattle.lt_script.specs.Openings.{form_of}
use Rattle.lt_script.proofs.ScriptLemmas.{if_ok, if_err}
use Rattle.lt_script.proofs.ToPieces.{at_end, refuses}
use Rattle.lt_script.proofs.sentences.next_command.Goals as goal

matched : {X : Type 0} (o : Option X) (A B : Type 0) (P : X → Type 0) → (A → B) → MatchOption o A P → MatchOption o B P
matched None A B P f m = f m
matched (Some x) A B P f m = m

pub returns-clause-command : goal.returns-clause-command
returns-clause-command c =
    if_ok c.next_spanned.result _ _ (λ o m. matched o _ _ _ (at_end (form_of c.args.opening.now c.args.allowed) c.args.lexer.now) m) c.next_spanned.ensures.command

pub returns-clause-wrong : goal.returns-clause-wrong
returns-clause-wrong c =
    if_err c.next_spanned.result _ _ (λ e f. refuses (form_of c.args.opening.now c.args.allowed) c.args.lexer.now e f) c.next_spanned.ensures.wrong
