use Rattle.std.proofs.Common.{◌∙◌, ap, sym, lit<}
use Rattle.std.proofs.lemmas.Bool.{eqb-true, eqb-false}
use Rattle.std.proofs.lemmas.Str.{IsCharBoundary-start}
use Rattle.lt_lex.specs.Places.{ahead_at}
use Rattle.lt_lex.specs.Numbers.{with_digits}
use Rattle.lt_lex.proofs.Digits.{empty_told, start_told, none_told, some_told, small_told, end_told}
use Rattle.lt_lex.proofs.number.parse_number.Goals as goal

pub returns-then-is_empty : goal.returns-then-is_empty
returns-then-is_empty c = empty_told _ (eqb-true _ 0 (sym c.if-is_empty.ensures))

pub digits-init : goal.digits-init
digits-init c = record {
  same = start_told _ c.utf8.text (eqb-false _ 0 (sym c.if-is_empty.ensures));
  place = IsCharBoundary-start _ c.utf8.text;
  small = lit< tt;
}

pub digits-preserved : goal.digits-preserved
digits-preserved c = record {
  same =
      sym (some_told c.digits.value c.in-Some.c c.in-Some-with_digit.more (ahead_at c.args.text.now c.in-Some.behind) (sym c.in-Some-with_digit.ensures)) ∙ ap (with_digits c.digits.value) (sym c.in-Some.ensures.chars) ∙ c.digits.invariant.same;
  place = c.in-Some.ensures.boundary;
  small = small_told c.digits.value c.in-Some.c _ (sym c.in-Some-with_digit.ensures);
}

pub returns-in_default-with_digit : goal.returns-in_default-with_digit
returns-in_default-with_digit c =
    sym (none_told c.digits.value c.in-Some.c (ahead_at c.args.text.now c.in-Some.behind) (sym c.in_default-with_digit.ensures)) ∙ ap (with_digits c.digits.value) (sym c.in-Some.ensures.chars) ∙ c.digits.invariant.same

pub returns : goal.returns
returns c =
    sym (end_told _ c.digits.invariant.small) ∙ ap (with_digits c.digits.value) (sym c.in_default.ensures.chars) ∙ c.digits.invariant.same
