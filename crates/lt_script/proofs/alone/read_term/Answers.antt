-- What was read is a term.
use Rattle.std.proofs.Common.{◌≡◌, ◌∙◌, sym, subst, Some, None}
use Rattle.lt_definitions.specs.Terms.{TermTree}
use Rattle.lt_texts.specs.Writing.{term_of_text}
use Rattle.lt_texts.specs.WrongPlaces.{IsTermAt}
use Rattle.lt_commands.specs.Views.{made_of}
use Rattle.lt_script.proofs.AloneLemmas.{term_read}
use Rattle.lt_script.proofs.alone.read_term.Goals as goal

pub unreachable-requires : goal.unreachable-requires
unreachable-requires c =
    let t = term_read c.args.lexer.now c.make_term.new.lexer (made_of c.in-Ok.maker) c.in_ok-made-in-Ok.made c.in-Ok.ensures.term c.in_ok-made-in-Ok.ensures in
    let clash : Some (term_of_text t.0) ≡ None = sym t.2 ∙ c.in_default.is in
    absurd (cc clash)

pub returns-in-Some-clause-term : goal.returns-in-Some-clause-term
returns-in-Some-clause-term c =
    let t = term_read c.args.lexer.now c.make_term.new.lexer (made_of c.in-Ok.maker) c.in_ok-made-in-Ok.made c.in-Ok.ensures.term c.in_ok-made-in-Ok.ensures in
    let both : Some (term_of_text t.0) ≡ Some c.in-Some.term = sym t.2 ∙ c.in-Some.is in
    let same : term_of_text t.0 ≡ c.in-Some.term = cc both in
    subst (λ (z : TermTree). IsTermAt c.args.lexer.now z c.make_term.new.lexer) same t.1
