-- What a maker has made, as trees.
use Rattle.std.specs.Prelude.{reverse}
use Rattle.lt_commands.specs.declared.maker.Maker.{Maker}
use Rattle.lt_hol.specs.Lines.{rules_of}
use Rattle.lt_commands.specs.Making.{Made}
use Rattle.lt_commands.specs.Sinks.{sunk}
use Rattle.lt_definitions.specs.Items as items
use Rattle.lt_texts.specs.Commands as commands
use Rattle.lt_commands.specs.declared.command.Command.{Command}
use Rattle.lt_commands.specs.declared.command.Command.TheVariants.{TypeDecl, ConstDecl, Axiom, Def, Typedef, Lemma, Law, Corr, Relator, Property, Domain, Rule as RuleCommand, Lifting, LiftingTypedef, QuotientType, Lift, Parametric, ParamRule, Equiv, Implies, Carry, AbsEq, RepEq}

-- a command as a tree
abbrev pub command_of : Command → commands.Command
command_of (TypeDecl a b) = commands.item_command (items.type_item a b)
command_of (ConstDecl a b) = commands.item_command (items.const_item a b)
command_of (Axiom a b) = commands.item_command (items.axiom_item a b)
command_of (Def a b c) = commands.item_command (items.def_item a b c)
command_of (Typedef a b c d e f) = commands.item_command (items.typedef_item a b c d e f)
command_of (Lemma a b c) = commands.item_command (items.lemma_item a b (rules_of c.nodes c.lines))
command_of (Law a b) = commands.law_command a b
command_of (Corr a) = commands.corr_command a
command_of (Relator a b c d e f) = commands.relator_command a b c d e f
command_of (Property a) = commands.property_command a
command_of (Domain a) = commands.domain_command a
command_of (RuleCommand a) = commands.rule_command a
command_of (Lifting a) = commands.lifting_command a
command_of (LiftingTypedef a) = commands.lifting_typedef_command a
command_of (QuotientType a b c d) = commands.quotient_type_command a b c d
command_of (Lift a b c d) = commands.lift_command a b c d
command_of (Parametric a) = commands.parametric_command a
command_of (ParamRule a b c) = commands.param_rule_command a b c
command_of (Equiv a b) = commands.equiv_command a b
command_of (Implies a b) = commands.implies_command a b
command_of (Carry a b c) = commands.carry_command a b c
command_of (AbsEq a) = commands.abs_eq_command a
command_of (RepEq a) = commands.rep_eq_command a

abbrev pub made_of : Maker → Made
made_of m = record {
  forming = m.forming;
  pending = reverse m.pending.items;
  types = reverse m.types.items;
  heads = reverse m.heads.items;
  binders = reverse m.binders.items;
  terms = sunk m.terms;
  labels = reverse m.labels.items;
  numbers = reverse m.numbers.items;
  params = reverse m.params.items;
  names = reverse m.names.items;
}
