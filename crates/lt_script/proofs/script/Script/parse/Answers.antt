-- The reader goes on in a copy of what is left.
use Rattle.std.proofs.Common.{subst}
use Rattle.lt_texts.specs.Texts.{Left}
use Rattle.lt_script.specs.Openings.{allowed_words, form_of}
use Rattle.lt_script.specs.Promises.{Refuses}
use Rattle.lt_script.specs.Scripts.{Begun, form_in}
use Rattle.lt_script.proofs.script.Script.parse.Goals as goal

pub invariant_of-self : goal.invariant_of-self
invariant_of-self c = rw c.in-Ok-Some.field-0-is at c.in-Ok-Some.ensures.source

pub returns-in-Err-clause-wrong : goal.returns-in-Err-clause-wrong
returns-in-Err-clause-wrong c =
    subst (λ (x : Begun). Refuses (form_in x (allowed_words c.args.allowed)) x.left c.in-Err.error) c.self.view_is
    (subst (λ (x : Left). Refuses (form_of c.self.inside.opening c.args.allowed) x c.in-Err.error) c.copy-lexer.ensures c.in-Err.ensures.wrong)
