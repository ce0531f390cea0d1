-- The reader goes on in a copy of what is left.
use Rattle.std.proofs.Common.{◌∙◌, ap, subst, chars}
use Rattle.lt_definitions.specs.Types.{Chars}
use Rattle.lt_texts.specs.Forms.{header_text}
use Rattle.lt_texts.specs.Texts.{Left}
use Rattle.lt_texts.specs.WrongPlaces.{Stands}
use Rattle.lt_script.specs.Promises.{RefusesHeader}
use Rattle.lt_script.specs.Scripts.{Begun, headed}
use Rattle.lt_script.proofs.script.Script.header.Goals as goal

pub invariant_of-self : goal.invariant_of-self
invariant_of-self c = c.in-Ok.ensures.source

pub returns-in-Ok-clause-header : goal.returns-in-Ok-clause-header
returns-in-Ok-clause-header c = λ commands.
    subst (λ (x : Left). Stands x (header_text (headed (chars c.args.word.now) c.args.number commands)) c.open_header.new.lexer) (c.copy-lexer.ensures ∙ ap (λ (x : Begun). x.left) c.self.view_is)
    (subst (λ (w : Chars). Stands c.copy-lexer.result (header_text (headed w c.args.number commands)) c.open_header.new.lexer) (ap chars c.in_ok-from_str.ensures.ok) (c.in-Ok.ensures.header commands))

pub returns-in-Err-clause-wrong : goal.returns-in-Err-clause-wrong
returns-in-Err-clause-wrong c = λ commands.
    subst (λ (x : Left). RefusesHeader (headed (chars c.args.word.now) c.args.number commands) x c.in-Err.error) (c.copy-lexer.ensures ∙ ap (λ (x : Begun). x.left) c.self.view_is)
    (subst (λ (w : Chars). RefusesHeader (headed w c.args.number commands) c.copy-lexer.result c.in-Err.error) (ap chars c.in_ok-from_str.ensures.ok) (c.in-Err.ensures.wrong commands))
