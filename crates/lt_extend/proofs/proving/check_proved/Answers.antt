use Rattle.std.proofs.Common.{sym, ap, ◌∙◌}
use Rattle.lt_definitions.specs.Rules.{line_at}
use Rattle.lt_nameless.specs.Nameless.{nameless_sequent}
use Rattle.lt_extend.proofs.Tested.{line-map, proved-none, proved-some}
use Rattle.lt_extend.proofs.proving.check_proved.Goals as goal

pub returns-then-branch : goal.returns-then-branch
returns-then-branch g c = λ done t has is. proved-none t (line_at done c.args.number) _ (c.in_ok-is_proved.ensures done t has is) c.if-branch.true

pub returns : goal.returns
returns g c = λ done t has is. (
  line_at done c.args.number,
  proved-some t (line_at done c.args.number) _ (c.in_ok-is_proved.ensures done t has is) c.if-branch.false,
  sym (line-map nameless_sequent done c.args.number) ∙ ap (λ ss. line_at ss c.args.number) (sym has) ∙ sym c.in_ok-last_sequent.ensures,
)
