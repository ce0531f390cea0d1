-- The place is one in the text's front, or that front's end.
use Rattle.std.proofs.Common.{◌≡◌, ◌∙◌, ap, subst, List, ℕ, length, arith}
use Rattle.std.specs.Prelude.{chars, IsCharBoundary}
use Rattle.std.proofs.lemmas.List.{drop_all}
use Rattle.std.proofs.lemmas.Str.{is_utf8-from_IsUtf8, chars-nil}
use Rattle.lt_lex.proofs.Lexer.at.Goals as goal

pub invariant_of-result : goal.invariant_of-result
invariant_of-result c = record {
  front = c.valid_front-text.ensures;
  utf8 = is_utf8-from_IsUtf8 _ c.valid_front-text.utf8;
  place = c.boundary_at-at.ensures.place;
}

pub returns-clause-outside : goal.returns-clause-outside
returns-clause-outside c = λ no.
    let at_end : c.boundary_at-at.result ≡ length c.valid_front-text.result.now =
    c.boundary_at-at.ensures.outside (λ b. no
    (subst (λ (t : List ℕ). IsCharBoundary t c.args.from) c.valid_front-text.ensures b)) in
    ap chars (drop_all c.boundary_at-at.result c.valid_front-text.result.now (omega (arith, at_end)))
    ∙ chars-nil
