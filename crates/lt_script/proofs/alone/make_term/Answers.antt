-- The words of a term, up to its end or the first that is wrong.
use Rattle.std.proofs.Common.{◌≡◌, ◌<◌, ◌∙◌, ap, sym, refl, reverse, [], ◌∷◌, ◌++◌, List, arith}
use Rattle.std.specs.Prelude.{vec_len}
use Rattle.std.proofs.lemmas.Bool.{eqb-true}
use Rattle.std.proofs.lemmas.List.{length-reverse}
use Rattle.lt_texts.specs.declared.lexical.Lexed.TheVariants.{BadByte as NoText, BadChar as NoToken}
use Rattle.lt_texts.specs.Lexemes.{lexeme}
use Rattle.lt_script.specs.declared.symbol.Symbol.{Symbol}
use Rattle.lt_script.specs.declared.symbol.Symbol.TheVariants.{Term, Brackets}
use Rattle.lt_script.specs.declared.read_error.ReadError.TheVariants.{BadByte, BadChar}
use Rattle.lt_script.specs.Machine.{meant, step_on}
use Rattle.lt_commands.specs.Views.{made_of}
use Rattle.lt_script.proofs.Comes.{Comes, came_first, comes_on, came_on, came_to, is_some}
use Rattle.lt_script.proofs.Directly.{noted, marked_on}
use Rattle.lt_script.proofs.AloneLemmas.{goes_on, over, term_stopped, term_refused, term_unended, term_made, name_made}
use Rattle.lt_script.proofs.alone.make_term.Goals as goal

pub returns-in-End-clause-wrong : goal.returns-in-End-clause-wrong
returns-in-End-clause-wrong c =
    term_unended c.args.lexer.now c.words.lexer (reverse c.words.stack.items) c.words.invariant.0.0 c.args.end
    c.words.invariant.0.1 c.in-End.ensures.token c.words.invariant.1 c.requires

pub returns-in-BadByte-clause-wrong : goal.returns-in-BadByte-clause-wrong
returns-in-BadByte-clause-wrong c =
    term_stopped c.args.lexer.now c.words.lexer (reverse c.words.stack.items) c.words.invariant.0.0
    (NoText c.in-BadByte.at) (BadByte c.in-BadByte.at) c.words.invariant.0.1 c.in-BadByte.ensures.token c.words.invariant.1 refl

pub returns-in-BadChar-clause-wrong : goal.returns-in-BadChar-clause-wrong
returns-in-BadChar-clause-wrong c =
    term_stopped c.args.lexer.now c.words.lexer (reverse c.words.stack.items) c.words.invariant.0.0
    (NoToken c.in-BadChar.at) (BadChar c.in-BadChar.at) c.words.invariant.0.1 c.in-BadChar.ensures.token c.words.invariant.1 refl

pub returns-then-not-branch-clause-wrong : goal.returns-then-not-branch-clause-wrong
returns-then-not-branch-clause-wrong c =
    let g = noted c.in_ok-take.field-0 (step_on (reverse c.words.stack.items) (meant c.in_ok-word.word)) (reverse c.take.new.stack.items) (made_of c.words.maker) (made_of c.take.new.made) c.words.invariant.0.0
    c.in_ok-take.ensures.takes c.words.invariant.0.2 in
    term_refused c.args.lexer.now c.words.lexer (reverse c.words.stack.items) (reverse c.take.new.stack.items)
    c.words.invariant.0.0 g.0 c.in-Token.token (meant c.in_ok-word.word) c.in_ok-take.field-0
    c.words.invariant.0.1 c.in-Token.ensures.token c.words.invariant.1
    (c.in_ok-word.ensures ∙ ap (lexeme c.in-Token.token.kind) c.in-Token.ensures.read.text)
    c.if-not-branch.true g.1

pub returns-then-is_empty-clause-term : goal.returns-then-is_empty-clause-term
returns-then-is_empty-clause-term c =
    let g = noted c.in_ok-take.field-0 (step_on (reverse c.words.stack.items) (meant c.in_ok-word.word)) (reverse c.take.new.stack.items) (made_of c.words.maker) (made_of c.take.new.made) c.words.invariant.0.0
    c.in_ok-take.ensures.takes c.words.invariant.0.2 in
    let comes : Comes (Term ∷ []) [] c.args.lexer.now c.next_token.new.self (reverse c.take.new.stack.items) g.0 =
    comes_on (Term ∷ []) [] c.args.lexer.now c.words.lexer c.next_token.new.self (reverse c.words.stack.items) (reverse c.take.new.stack.items)
    c.words.invariant.0.0 g.0 c.in-Token.token (meant c.in_ok-word.word) c.in_ok-take.field-0
    c.words.invariant.0.1 c.in-Token.ensures.token c.in-Token.ensures.left (c.in_ok-word.ensures ∙ ap (lexeme c.in-Token.token.kind) c.in-Token.ensures.read.text)
    c.if-not-branch.false g.1 in
    let none : vec_len c.take.new.stack ≡ 0 = eqb-true (vec_len c.take.new.stack) 0 (sym c.if-is_empty.ensures) in
    term_made c.args.lexer.now c.next_token.new.self g.0 (made_of c.take.new.made)
    (came_to (Term ∷ []) [] c.args.lexer.now c.next_token.new.self (reverse c.take.new.stack.items) g.0 comes
    (omega (arith, c.take.new.stack.ok, length-reverse c.take.new.stack.items)))
    (g.2 c.if-not-branch.false)

pub returns-then-is_over-clause-term : goal.returns-then-is_over-clause-term
returns-then-is_over-clause-term c =
    let g = noted c.in_ok-take.field-0 (step_on (reverse c.words.stack.items) (meant c.in_ok-word.word)) (reverse c.take.new.stack.items) (made_of c.words.maker) (made_of c.take.new.made) c.words.invariant.0.0
    c.in_ok-take.ensures.takes c.words.invariant.0.2 in
    let comes : Comes (Term ∷ []) [] c.args.lexer.now c.next_token.new.self (reverse c.take.new.stack.items) g.0 =
    comes_on (Term ∷ []) [] c.args.lexer.now c.words.lexer c.next_token.new.self (reverse c.words.stack.items) (reverse c.take.new.stack.items)
    c.words.invariant.0.0 g.0 c.in-Token.token (meant c.in_ok-word.word) c.in_ok-take.field-0
    c.words.invariant.0.1 c.in-Token.ensures.token c.in-Token.ensures.left (c.in_ok-word.ensures ∙ ap (lexeme c.in-Token.token.kind) c.in-Token.ensures.read.text)
    c.if-not-branch.false g.1 in
    let ends = over c.is_over.result c.take.new.stack.items c.next_token.new.self c.is_over.ensures c.if-is_over.true in
    name_made c.args.lexer.now c.next_token.new.self (reverse c.take.new.stack.items) g.0 (made_of c.take.new.made) (made_of c.put.new.self)
    comes ends.0 ends.1 (g.2 c.if-not-branch.false) c.in_ok-put.ensures

pub words-preserved : goal.words-preserved
words-preserved c =
    let g = noted c.in_ok-take.field-0 (step_on (reverse c.words.stack.items) (meant c.in_ok-word.word)) (reverse c.take.new.stack.items) (made_of c.words.maker) (made_of c.take.new.made) c.words.invariant.0.0
    c.in_ok-take.ensures.takes c.words.invariant.0.2 in
    let comes : Comes (Term ∷ []) [] c.args.lexer.now c.next_token.new.self (reverse c.take.new.stack.items) g.0 =
    comes_on (Term ∷ []) [] c.args.lexer.now c.words.lexer c.next_token.new.self (reverse c.words.stack.items) (reverse c.take.new.stack.items)
    c.words.invariant.0.0 g.0 c.in-Token.token (meant c.in_ok-word.word) c.in_ok-take.field-0
    c.words.invariant.0.1 c.in-Token.ensures.token c.in-Token.ensures.left (c.in_ok-word.ensures ∙ ap (lexeme c.in-Token.token.kind) c.in-Token.ensures.read.text)
    c.if-not-branch.false g.1 in
    let some : 0 < vec_len c.take.new.stack = is_some (vec_len c.take.new.stack) c.if-is_empty.ensures in (
      (
        g.0,
        came_on (Term ∷ []) [] c.args.lexer.now c.next_token.new.self (reverse c.take.new.stack.items) g.0 comes
            (omega (arith, c.take.new.stack.ok, length-reverse c.take.new.stack.items)),
        g.2 c.if-not-branch.false,
        marked_on (Term ∷ []) [] c.args.lexer.now c.words.lexer (reverse c.words.stack.items) c.words.invariant.0.0 c.words.invariant.0.1
            c.in-Token.token (meant c.in_ok-word.word) c.words.places.items c.take.new.places.items c.words.invariant.0.3 c.in-Token.ensures.token
            (c.in_ok-take.ensures.marks c.if-not-branch.false),
      ),
      goes_on c.is_over.result c.take.new.stack.items c.next_token.new.self c.is_over.ensures c.if-is_over.false,
    )

first : (st : List Symbol) → reverse st ≡ Term ∷ [] → (reverse st ≡ Brackets ∷ [] → ⊥)
first st e f = let clash : Term ∷ [] ≡ Brackets ∷ [] = sym e ∙ f in absurd (cc clash)

pub words-init : goal.words-init
words-init c =
    let one : reverse c.push.new.self.items ≡ Term ∷ [] = ap reverse (c.in_ok-push.ensures.items ∙ ap (λ (z : List Symbol). z ++ Term ∷ []) c.new-stack.ensures.items) in (
      (
        [],
        came_first (Term ∷ []) [] c.args.lexer.now (reverse c.push.new.self.items) [] one refl tt,
        c.new-maker.ensures,
        c.new-places.ensures.items,
      ),
      λ f. absurd (first c.push.new.self.items one f),
    )
