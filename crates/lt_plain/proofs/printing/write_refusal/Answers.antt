use Rattle.std.proofs.Common.{◌≡◌, ◌++◌, ◌∙◌, List, ℕ, sym, ap}
use Rattle.lt_definitions.specs.Printing.{words}
use Rattle.lt_commands.specs.declared.refusal.Refusal.{Refusal}
use Rattle.lt_plain.specs.Showing.{shown_words}
use Rattle.lt_plain.proofs.printing.write_refusal.Goals as goal

printed : (text : List ℕ) (x y : Refusal) → x ≡ y → text ++ words (shown_words y) ≡ text ++ words (shown_words x)
printed text x y e = ap (λ (z : Refusal). text ++ words (shown_words z)) (sym e)

pub returns-in_ok-signs-in-TooLong : goal.returns-in_ok-signs-in-TooLong
returns-in_ok-signs-in-TooLong c = c.in_ok-signs-in-TooLong.ensures ∙ printed c.args.text.now c.args.refusal.now _ c.in-TooLong.is

pub returns-in_ok-signs-in-BadByte : goal.returns-in_ok-signs-in-BadByte
returns-in_ok-signs-in-BadByte c = c.in_ok-signs-in-BadByte.ensures ∙ printed c.args.text.now c.args.refusal.now _ c.in-BadByte.is

pub returns-in_ok-signs-in-BadChar : goal.returns-in_ok-signs-in-BadChar
returns-in_ok-signs-in-BadChar c = c.in_ok-signs-in-BadChar.ensures ∙ printed c.args.text.now c.args.refusal.now _ c.in-BadChar.is

pub returns-in_ok-signs-in-Syntax : goal.returns-in_ok-signs-in-Syntax
returns-in_ok-signs-in-Syntax c = c.in_ok-signs-in-Syntax.ensures ∙ printed c.args.text.now c.args.refusal.now _ c.in-Syntax.is

pub returns-in_ok-signs-in-BadHeader : goal.returns-in_ok-signs-in-BadHeader
returns-in_ok-signs-in-BadHeader c = c.in_ok-signs-in-BadHeader.ensures ∙ printed c.args.text.now c.args.refusal.now _ c.in-BadHeader.is

pub returns-in_ok-signs-in-BadCommand : goal.returns-in_ok-signs-in-BadCommand
returns-in_ok-signs-in-BadCommand c = c.in_ok-signs-in-BadCommand.ensures ∙ printed c.args.text.now c.args.refusal.now _ c.in-BadCommand.is

pub returns-in_ok-write_named-in-Duplicate : goal.returns-in_ok-write_named-in-Duplicate
returns-in_ok-write_named-in-Duplicate c = c.in_ok-write_named-in-Duplicate.ensures ∙ printed c.args.text.now c.args.refusal.now _ c.in-Duplicate.is

pub returns-in_ok-write_named-in-UnknownType : goal.returns-in_ok-write_named-in-UnknownType
returns-in_ok-write_named-in-UnknownType c = c.in_ok-write_named-in-UnknownType.ensures ∙ printed c.args.text.now c.args.refusal.now _ c.in-UnknownType.is

pub returns-in_ok-write_named-in-Arity : goal.returns-in_ok-write_named-in-Arity
returns-in_ok-write_named-in-Arity c = c.in_ok-write_named-in-Arity.ensures ∙ printed c.args.text.now c.args.refusal.now _ c.in-Arity.is

pub returns-in_ok-write_named-in-UnknownConst : goal.returns-in_ok-write_named-in-UnknownConst
returns-in_ok-write_named-in-UnknownConst c = c.in_ok-write_named-in-UnknownConst.ensures ∙ printed c.args.text.now c.args.refusal.now _ c.in-UnknownConst.is

pub returns-in_ok-write_named-in-TypeArgs : goal.returns-in_ok-write_named-in-TypeArgs
returns-in_ok-write_named-in-TypeArgs c = c.in_ok-write_named-in-TypeArgs.ensures ∙ printed c.args.text.now c.args.refusal.now _ c.in-TypeArgs.is

pub returns-in_ok-write_named-in-Unbound : goal.returns-in_ok-write_named-in-Unbound
returns-in_ok-write_named-in-Unbound c = c.in_ok-write_named-in-Unbound.ensures ∙ printed c.args.text.now c.args.refusal.now _ c.in-Unbound.is

pub returns-in_ok-write_named-in-UnknownLabel : goal.returns-in_ok-write_named-in-UnknownLabel
returns-in_ok-write_named-in-UnknownLabel c = c.in_ok-write_named-in-UnknownLabel.ensures ∙ printed c.args.text.now c.args.refusal.now _ c.in-UnknownLabel.is

pub returns-in_ok-write_named-in-UnknownLaw : goal.returns-in_ok-write_named-in-UnknownLaw
returns-in_ok-write_named-in-UnknownLaw c = c.in_ok-write_named-in-UnknownLaw.ensures ∙ printed c.args.text.now c.args.refusal.now _ c.in-UnknownLaw.is

pub returns-in_ok-write_named-in-LawDiffers : goal.returns-in_ok-write_named-in-LawDiffers
returns-in_ok-write_named-in-LawDiffers c = c.in_ok-write_named-in-LawDiffers.ensures ∙ printed c.args.text.now c.args.refusal.now _ c.in-LawDiffers.is

pub returns-in_ok-write_named-in-MissingLaw : goal.returns-in_ok-write_named-in-MissingLaw
returns-in_ok-write_named-in-MissingLaw c = c.in_ok-write_named-in-MissingLaw.ensures ∙ printed c.args.text.now c.args.refusal.now _ c.in-MissingLaw.is

pub returns-in_ok-write_named-in-DuplicateDomain : goal.returns-in_ok-write_named-in-DuplicateDomain
returns-in_ok-write_named-in-DuplicateDomain c = c.in_ok-write_named-in-DuplicateDomain.ensures ∙ printed c.args.text.now c.args.refusal.now _ c.in-DuplicateDomain.is

pub returns-in_ok-write_variable-in-LooseTypeVar : goal.returns-in_ok-write_variable-in-LooseTypeVar
returns-in_ok-write_variable-in-LooseTypeVar c = c.in_ok-write_variable-in-LooseTypeVar.ensures ∙ printed c.args.text.now c.args.refusal.now _ c.in-LooseTypeVar.is

pub returns-in_ok-write_typed-in-NotBool : goal.returns-in_ok-write_typed-in-NotBool
returns-in_ok-write_typed-in-NotBool c = c.in_ok-write_typed-in-NotBool.ensures ∙ printed c.args.text.now c.args.refusal.now _ c.in-NotBool.is

pub returns-in_ok-write_pair-in-Mismatch : goal.returns-in_ok-write_pair-in-Mismatch
returns-in_ok-write_pair-in-Mismatch c = c.in_ok-write_pair-in-Mismatch.ensures ∙ printed c.args.text.now c.args.refusal.now _ c.in-Mismatch.is

pub returns-in_ok-write_bad_line-in-BadLine : goal.returns-in_ok-write_bad_line-in-BadLine
returns-in_ok-write_bad_line-in-BadLine c = c.in_ok-write_bad_line-in-BadLine.ensures ∙ printed c.args.text.now c.args.refusal.now _ c.in-BadLine.is

pub returns-in_ok-write_not_proved-in-NotProved : goal.returns-in_ok-write_not_proved-in-NotProved
returns-in_ok-write_not_proved-in-NotProved c = c.in_ok-write_not_proved-in-NotProved.ensures ∙ printed c.args.text.now c.args.refusal.now _ c.in-NotProved.is

pub returns-in_ok-signs-in-TypedefShape : goal.returns-in_ok-signs-in-TypedefShape
returns-in_ok-signs-in-TypedefShape c = c.in_ok-signs-in-TypedefShape.ensures ∙ printed c.args.text.now c.args.refusal.now _ c.in-TypedefShape.is

pub returns-in_ok-write_relator_shape-in-RelatorShape : goal.returns-in_ok-write_relator_shape-in-RelatorShape
returns-in_ok-write_relator_shape-in-RelatorShape c = c.in_ok-write_relator_shape-in-RelatorShape.ensures ∙ printed c.args.text.now c.args.refusal.now _ c.in-RelatorShape.is

pub returns-in_ok-write_property_shape-in-PropertyShape : goal.returns-in_ok-write_property_shape-in-PropertyShape
returns-in_ok-write_property_shape-in-PropertyShape c = c.in_ok-write_property_shape-in-PropertyShape.ensures ∙ printed c.args.text.now c.args.refusal.now _ c.in-PropertyShape.is

pub returns-in_ok-write_property_of-in-DuplicateProperty : goal.returns-in_ok-write_property_of-in-DuplicateProperty
returns-in_ok-write_property_of-in-DuplicateProperty c = c.in_ok-write_property_of-in-DuplicateProperty.ensures ∙ printed c.args.text.now c.args.refusal.now _ c.in-DuplicateProperty.is

pub returns-in_ok-signs-in-DomainShape : goal.returns-in_ok-signs-in-DomainShape
returns-in_ok-signs-in-DomainShape c = c.in_ok-signs-in-DomainShape.ensures ∙ printed c.args.text.now c.args.refusal.now _ c.in-DomainShape.is

pub returns-in_ok-write_rule_shape-in-RuleShape : goal.returns-in_ok-write_rule_shape-in-RuleShape
returns-in_ok-write_rule_shape-in-RuleShape c = c.in_ok-write_rule_shape-in-RuleShape.ensures ∙ printed c.args.text.now c.args.refusal.now _ c.in-RuleShape.is

pub returns-in_ok-write_not_quotient-in-NotQuotient : goal.returns-in_ok-write_not_quotient-in-NotQuotient
returns-in_ok-write_not_quotient-in-NotQuotient c = c.in_ok-write_not_quotient-in-NotQuotient.ensures ∙ printed c.args.text.now c.args.refusal.now _ c.in-NotQuotient.is

pub returns-in_ok-write_typed-in-BareParameter : goal.returns-in_ok-write_typed-in-BareParameter
returns-in_ok-write_typed-in-BareParameter c = c.in_ok-write_typed-in-BareParameter.ensures ∙ printed c.args.text.now c.args.refusal.now _ c.in-BareParameter.is

pub returns-in_ok-write_pair-in-NoQuotient : goal.returns-in_ok-write_pair-in-NoQuotient
returns-in_ok-write_pair-in-NoQuotient c = c.in_ok-write_pair-in-NoQuotient.ensures ∙ printed c.args.text.now c.args.refusal.now _ c.in-NoQuotient.is

pub returns-in_ok-write_term_of-in-RespectDiffers : goal.returns-in_ok-write_term_of-in-RespectDiffers
returns-in_ok-write_term_of-in-RespectDiffers c = c.in_ok-write_term_of-in-RespectDiffers.ensures ∙ printed c.args.text.now c.args.refusal.now _ c.in-RespectDiffers.is

pub returns-in_ok-write_numbered-in-HigherOrderArgument : goal.returns-in_ok-write_numbered-in-HigherOrderArgument
returns-in_ok-write_numbered-in-HigherOrderArgument c = c.in_ok-write_numbered-in-HigherOrderArgument.ensures ∙ printed c.args.text.now c.args.refusal.now _ c.in-HigherOrderArgument.is

pub returns-in_ok-write_typed-in-NoRepEquation : goal.returns-in_ok-write_typed-in-NoRepEquation
returns-in_ok-write_typed-in-NoRepEquation c = c.in_ok-write_typed-in-NoRepEquation.ensures ∙ printed c.args.text.now c.args.refusal.now _ c.in-NoRepEquation.is

pub returns-in_ok-signs-in-NoTransport : goal.returns-in_ok-signs-in-NoTransport
returns-in_ok-signs-in-NoTransport c = c.in_ok-signs-in-NoTransport.ensures ∙ printed c.args.text.now c.args.refusal.now _ c.in-NoTransport.is

pub returns-in_ok-write_term_of-in-ImageDiffers : goal.returns-in_ok-write_term_of-in-ImageDiffers
returns-in_ok-write_term_of-in-ImageDiffers c = c.in_ok-write_term_of-in-ImageDiffers.ensures ∙ printed c.args.text.now c.args.refusal.now _ c.in-ImageDiffers.is

pub returns-in_ok-signs-in-OpenTerm : goal.returns-in_ok-signs-in-OpenTerm
returns-in_ok-signs-in-OpenTerm c = c.in_ok-signs-in-OpenTerm.ensures ∙ printed c.args.text.now c.args.refusal.now _ c.in-OpenTerm.is

pub returns-in_ok-write_numbered-in-TooLarge : goal.returns-in_ok-write_numbered-in-TooLarge
returns-in_ok-write_numbered-in-TooLarge c = c.in_ok-write_numbered-in-TooLarge.ensures ∙ printed c.args.text.now c.args.refusal.now _ c.in-TooLarge.is

pub returns-in_ok-write_numbered-in-SearchLimit : goal.returns-in_ok-write_numbered-in-SearchLimit
returns-in_ok-write_numbered-in-SearchLimit c = c.in_ok-write_numbered-in-SearchLimit.ensures ∙ printed c.args.text.now c.args.refusal.now _ c.in-SearchLimit.is

pub returns-in_ok-write_numbered-in-NormLimit : goal.returns-in_ok-write_numbered-in-NormLimit
returns-in_ok-write_numbered-in-NormLimit c = c.in_ok-write_numbered-in-NormLimit.ensures ∙ printed c.args.text.now c.args.refusal.now _ c.in-NormLimit.is

pub returns-in_ok-signs-in-NotBuilt : goal.returns-in_ok-signs-in-NotBuilt
returns-in_ok-signs-in-NotBuilt c = c.in_ok-signs-in-NotBuilt.ensures ∙ printed c.args.text.now c.args.refusal.now _ c.in-NotBuilt.is

pub returns-in_ok-signs-in-Memory : goal.returns-in_ok-signs-in-Memory
returns-in_ok-signs-in-Memory c = c.in_ok-signs-in-Memory.ensures ∙ printed c.args.text.now c.args.refusal.now _ c.in-Memory.is
