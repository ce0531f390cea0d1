use Rattle.std.proofs.Common.{◌∙◌, ap, sym, refl}
use Rattle.lt_texts.specs.Texts.{lexed, after, ending}
use Rattle.lt_lex.proofs.Nexts.{lexed_end, lexed_none, lexed_some, after_some, place_found, read_told, shorter_told}
use Rattle.lt_lex.proofs.Lexer.next_token.Goals as goal

pub returns-in_default-clause-token : goal.returns-in_default-clause-token
returns-in_default-clause-token c =
    c.ending.ensures ∙ ap ending (sym c.self.view_is)
    ∙ lexed_end c.self.inside.source.now c.self.inside.text.now c.self.inside.at c.in_default.ensures ∙ ap lexed c.self.view_is

pub returns-in_default-token_from-clause-token : goal.returns-in_default-token_from-clause-token
returns-in_default-token_from-clause-token c =
    lexed_none _ _ _ _ _ _ c.self.invariant c.in-Some.ensures c.in_default-token_from.ensures ∙ ap lexed c.self.view_is

pub invariant_of-self : goal.invariant_of-self
invariant_of-self c =
    record { front = c.self.invariant.front; utf8 = c.self.invariant.utf8; place = place_found _ _ _ _ _ c.in-Some-token_from.ensures }

pub returns-clause-token : goal.returns-clause-token
returns-clause-token c =
    lexed_some _ _ _ _ _ _ c.self.invariant c.in-Some.ensures _ _ c.in-Some-token_from.ensures ∙ ap lexed c.self.view_is

pub returns-clause-left : goal.returns-clause-left
returns-clause-left c =
    after_some _ _ _ _ _ _ c.self.invariant c.in-Some.ensures _ _ c.in-Some-token_from.ensures ∙ ap after c.self.view_is

pub returns-clause-shorter : goal.returns-clause-shorter
returns-clause-shorter c t = shorter_told _ _ _ (returns-clause-token c) (returns-clause-left c) t

pub returns-clause-read : goal.returns-clause-read
returns-clause-read c = read_told _ _ _ _ _ _ c.self.invariant c.in-Some.ensures _ _ c.in-Some-token_from.ensures _ _ c.self.view_is refl
