use Rattle.std.proofs.Common.{◌∙◌, ap, sym}
use Rattle.lt_grammar.specs.declared.words.ItemWord.{ItemWord}
use Rattle.lt_grammar.specs.Table.{item_row}
use Rattle.lt_commands.specs.Making.{make_row, as_item}
use Rattle.lt_commands.specs.Views.{made_of}
use Rattle.lt_commands.proofs.maker.Maker.item.Goals as goal

pub returns-in-TypeItem : goal.returns-in-TypeItem
returns-in-TypeItem c = c.type_decl.ensures ∙ ap (λ (w : ItemWord). as_item (make_row (item_row w) (made_of c.args.self.now)).0) (sym c.in-TypeItem.is)

pub returns-in-Const : goal.returns-in-Const
returns-in-Const c = c.const_decl.ensures ∙ ap (λ (w : ItemWord). as_item (make_row (item_row w) (made_of c.args.self.now)).0) (sym c.in-Const.is)

pub returns-in-Axiom : goal.returns-in-Axiom
returns-in-Axiom c = c.axiom.ensures ∙ ap (λ (w : ItemWord). as_item (make_row (item_row w) (made_of c.args.self.now)).0) (sym c.in-Axiom.is)

pub returns-in-Def : goal.returns-in-Def
returns-in-Def c = c.def.ensures ∙ ap (λ (w : ItemWord). as_item (make_row (item_row w) (made_of c.args.self.now)).0) (sym c.in-Def.is)

pub returns-in-Typedef : goal.returns-in-Typedef
returns-in-Typedef c = c.typedef.ensures ∙ ap (λ (w : ItemWord). as_item (make_row (item_row w) (made_of c.args.self.now)).0) (sym c.in-Typedef.is)
