-- What was read is a type.
use Rattle.std.proofs.Common.{◌≡◌, ◌∙◌, sym, subst, reverse, Some, None}
use Rattle.lt_definitions.specs.Types.{TypeTree}
use Rattle.lt_texts.specs.WrongPlaces.{IsTypeAt}
use Rattle.lt_commands.specs.Views.{made_of}
use Rattle.lt_script.specs.declared.symbol.Symbol.TheVariants.{«Type»}
use Rattle.lt_script.proofs.AloneLemmas.{one_pushed, type_read, type_refused}
use Rattle.lt_script.proofs.alone.read_type.Goals as goal

pub unreachable-requires : goal.unreachable-requires
unreachable-requires c =
    let t = type_read (reverse c.push.new.self.items) c.args.lexer.now c.read_from.new.lexer c.in-Ok.ensures.read.0 c.in-Ok.behind.places.items (made_of c.in-Ok.behind.maker) c.in_ok-made-in-Ok.made
    (one_pushed «Type» c.new-stack.result.items c.push.new.self.items c.new-stack.ensures.items c.in_ok-push.ensures.items)
    c.in-Ok.ensures.read.1 c.in-Ok.ensures.read.2 c.in_ok-made-in-Ok.ensures in
    let clash : Some t.0 ≡ None = sym t.2 ∙ c.in_default.is in
    absurd (cc clash)

pub returns-in-Some-clause-ty : goal.returns-in-Some-clause-ty
returns-in-Some-clause-ty c =
    let t = type_read (reverse c.push.new.self.items) c.args.lexer.now c.read_from.new.lexer c.in-Ok.ensures.read.0 c.in-Ok.behind.places.items (made_of c.in-Ok.behind.maker) c.in_ok-made-in-Ok.made
    (one_pushed «Type» c.new-stack.result.items c.push.new.self.items c.new-stack.ensures.items c.in_ok-push.ensures.items)
    c.in-Ok.ensures.read.1 c.in-Ok.ensures.read.2 c.in_ok-made-in-Ok.ensures in
    let both : Some t.0 ≡ Some c.in-Some.ty = sym t.2 ∙ c.in-Some.is in
    let same : t.0 ≡ c.in-Some.ty = cc both in
    subst (λ (z : TypeTree). IsTypeAt c.args.lexer.now z c.read_from.new.lexer) same t.1

pub returns-in-Err-clause-wrong : goal.returns-in-Err-clause-wrong
returns-in-Err-clause-wrong c =
    type_refused (reverse c.push.new.self.items) c.args.lexer.now c.in-Err.error
    (one_pushed «Type» c.new-stack.result.items c.push.new.self.items c.new-stack.ensures.items c.in_ok-push.ensures.items) c.in-Err.ensures.wrong
