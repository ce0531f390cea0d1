-- The commands of a theory text, as data.
-- Source: after the commands of Isabelle's Lifting and Transfer packages; their words and the order
-- of their parts are this project's own.
use Rattle.std.specs.Prelude.{List}
use Rattle.lt_definitions.specs.Types.{Chars, TypeTree}
use Rattle.lt_definitions.specs.Terms.{TermTree}
use Rattle.lt_definitions.specs.Items.{Item}

-- A command: one that adds an item, or one that registers or adds something by what is registered.
-- The parts stand in the order of its text.
pub data Command : Type 0 where
  item_command : Item → Command
  law_command : (law label : Chars) → Command
  corr_command : (constant : Chars) → Command
  relator_command : (con relation map eq_label quotient_label comp_label : Chars) → Command
  property_command : (label : Chars) → Command
  domain_command : (label : Chars) → Command
  rule_command : (label : Chars) → Command
  lifting_command : (label : Chars) → Command
  lifting_typedef_command : (ty : Chars) → Command
  quotient_type_command : (name : Chars) (params : List Chars) (relation : TermTree)
      (by_label : Chars) → Command
  lift_command : (name : Chars) (ty : TypeTree) (raw : TermTree) (by_label : Chars) → Command
  parametric_command : (ty : Chars) → Command
  param_rule_command : (label rule by_label : Chars) → Command
  equiv_command : (label : Chars) (statement : TermTree) → Command
  implies_command : (label : Chars) (statement : TermTree) → Command
  carry_command : (label transport by_label : Chars) → Command
  abs_eq_command : (constant : Chars) → Command
  rep_eq_command : (constant : Chars) → Command
