-- Items with their types and terms as trees.
use Rattle.lt_definitions.specs.Items as theory
use Rattle.lt_hol.specs.Lines.{rules_of}
use Rattle.lt_hol.specs.declared.item.Item.{Item}
use Rattle.lt_hol.specs.declared.item.Item.TheVariants.{TypeDecl, ConstDecl, Axiom, Def, Typedef, Lemma}

abbrev pub item_of : Item → theory.Item
item_of (TypeDecl name count) = theory.type_item name count
item_of (ConstDecl name ty) = theory.const_item name ty
item_of (Axiom label statement) = theory.axiom_item label statement
item_of (Def name ty body) = theory.def_item name ty body
item_of (Typedef name params predicate by_label abs rep) = theory.typedef_item name params predicate by_label abs rep
item_of (Lemma label statement lines) = theory.lemma_item label statement (rules_of lines.nodes lines.lines)
