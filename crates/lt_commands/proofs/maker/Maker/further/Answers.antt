use Rattle.std.proofs.Common.{◌∙◌, ap, sym}
use Rattle.lt_grammar.specs.declared.words.CommandWord.{CommandWord}
use Rattle.lt_grammar.specs.Table.{command_row}
use Rattle.lt_commands.specs.Making.{make_row}
use Rattle.lt_commands.specs.Views.{made_of}
use Rattle.lt_commands.proofs.maker.Maker.further.Goals as goal

pub returns-in-Law : goal.returns-in-Law
returns-in-Law c = c.law.ensures ∙ ap (λ (w : CommandWord). (make_row (command_row w) (made_of c.args.self.now)).0) (sym c.in-Law.is)

pub returns-in-Corr : goal.returns-in-Corr
returns-in-Corr c = c.corr.ensures ∙ ap (λ (w : CommandWord). (make_row (command_row w) (made_of c.args.self.now)).0) (sym c.in-Corr.is)

pub returns-in-Relator : goal.returns-in-Relator
returns-in-Relator c = c.relator.ensures ∙ ap (λ (w : CommandWord). (make_row (command_row w) (made_of c.args.self.now)).0) (sym c.in-Relator.is)

pub returns-in-Property : goal.returns-in-Property
returns-in-Property c = c.property.ensures ∙ ap (λ (w : CommandWord). (make_row (command_row w) (made_of c.args.self.now)).0) (sym c.in-Property.is)

pub returns-in-Domain : goal.returns-in-Domain
returns-in-Domain c = c.domain.ensures ∙ ap (λ (w : CommandWord). (make_row (command_row w) (made_of c.args.self.now)).0) (sym c.in-Domain.is)

pub returns-in-Rule : goal.returns-in-Rule
returns-in-Rule c = c.rule.ensures ∙ ap (λ (w : CommandWord). (make_row (command_row w) (made_of c.args.self.now)).0) (sym c.in-Rule.is)

pub returns-in-Lifting : goal.returns-in-Lifting
returns-in-Lifting c = c.lifting.ensures ∙ ap (λ (w : CommandWord). (make_row (command_row w) (made_of c.args.self.now)).0) (sym c.in-Lifting.is)

pub returns-in-LiftingTypedef : goal.returns-in-LiftingTypedef
returns-in-LiftingTypedef c = c.lifting_typedef.ensures ∙ ap (λ (w : CommandWord). (make_row (command_row w) (made_of c.args.self.now)).0) (sym c.in-LiftingTypedef.is)

pub returns-in-QuotientType : goal.returns-in-QuotientType
returns-in-QuotientType c = c.quotient_type.ensures ∙ ap (λ (w : CommandWord). (make_row (command_row w) (made_of c.args.self.now)).0) (sym c.in-QuotientType.is)

pub returns-in-Lift : goal.returns-in-Lift
returns-in-Lift c = c.lift.ensures ∙ ap (λ (w : CommandWord). (make_row (command_row w) (made_of c.args.self.now)).0) (sym c.in-Lift.is)

pub returns-in-Parametric : goal.returns-in-Parametric
returns-in-Parametric c = c.parametric.ensures ∙ ap (λ (w : CommandWord). (make_row (command_row w) (made_of c.args.self.now)).0) (sym c.in-Parametric.is)

pub returns-in-ParamRule : goal.returns-in-ParamRule
returns-in-ParamRule c = c.param_rule.ensures ∙ ap (λ (w : CommandWord). (make_row (command_row w) (made_of c.args.self.now)).0) (sym c.in-ParamRule.is)

pub returns-in-Equiv : goal.returns-in-Equiv
returns-in-Equiv c = c.equiv.ensures ∙ ap (λ (w : CommandWord). (make_row (command_row w) (made_of c.args.self.now)).0) (sym c.in-Equiv.is)

pub returns-in-Implies : goal.returns-in-Implies
returns-in-Implies c = c.implies.ensures ∙ ap (λ (w : CommandWord). (make_row (command_row w) (made_of c.args.self.now)).0) (sym c.in-Implies.is)

pub returns-in-Carry : goal.returns-in-Carry
returns-in-Carry c = c.carry.ensures ∙ ap (λ (w : CommandWord). (make_row (command_row w) (made_of c.args.self.now)).0) (sym c.in-Carry.is)

pub returns-in-AbsEq : goal.returns-in-AbsEq
returns-in-AbsEq c = c.abs_eq.ensures ∙ ap (λ (w : CommandWord). (make_row (command_row w) (made_of c.args.self.now)).0) (sym c.in-AbsEq.is)

pub returns-in-RepEq : goal.returns-in-RepEq
returns-in-RepEq c = c.rep_eq.ensures ∙ ap (λ (w : CommandWord). (make_row (command_row w) (made_of c.args.self.now)).0) (sym c.in-RepEq.is)
