use Rattle.std.proofs.Common.{◌∙◌, ap, sym}
use Rattle.lt_grammar.specs.declared.words.RuleWord.{RuleWord}
use Rattle.lt_grammar.specs.Table.{rule_row}
use Rattle.lt_commands.specs.Making.{make_row}
use Rattle.lt_commands.specs.Views.{made_of}
use Rattle.lt_commands.proofs.maker.Maker.line.Goals as goal

pub returns-in-Assume-clause-line : goal.returns-in-Assume-clause-line
returns-in-Assume-clause-line c = c.assume_line.ensures.line ∙ ap (λ (w : RuleWord). (make_row (rule_row w) (made_of c.args.self.now)).0) (sym c.in-Assume.is)

pub returns-in-Assume-clause-left : goal.returns-in-Assume-clause-left
returns-in-Assume-clause-left c = c.assume_line.ensures.left ∙ ap (λ (w : RuleWord). (make_row (rule_row w) (made_of c.args.self.now)).1) (sym c.in-Assume.is)

pub returns-in-Weaken-clause-line : goal.returns-in-Weaken-clause-line
returns-in-Weaken-clause-line c = c.weaken_line.ensures.line ∙ ap (λ (w : RuleWord). (make_row (rule_row w) (made_of c.args.self.now)).0) (sym c.in-Weaken.is)

pub returns-in-Weaken-clause-left : goal.returns-in-Weaken-clause-left
returns-in-Weaken-clause-left c = c.weaken_line.ensures.left ∙ ap (λ (w : RuleWord). (make_row (rule_row w) (made_of c.args.self.now)).1) (sym c.in-Weaken.is)

pub returns-in-Refl-clause-line : goal.returns-in-Refl-clause-line
returns-in-Refl-clause-line c = c.refl_line.ensures.line ∙ ap (λ (w : RuleWord). (make_row (rule_row w) (made_of c.args.self.now)).0) (sym c.in-Refl.is)

pub returns-in-Refl-clause-left : goal.returns-in-Refl-clause-left
returns-in-Refl-clause-left c = c.refl_line.ensures.left ∙ ap (λ (w : RuleWord). (make_row (rule_row w) (made_of c.args.self.now)).1) (sym c.in-Refl.is)

pub returns-in-Sym-clause-line : goal.returns-in-Sym-clause-line
returns-in-Sym-clause-line c = c.sym_line.ensures.line ∙ ap (λ (w : RuleWord). (make_row (rule_row w) (made_of c.args.self.now)).0) (sym c.in-Sym.is)

pub returns-in-Sym-clause-left : goal.returns-in-Sym-clause-left
returns-in-Sym-clause-left c = c.sym_line.ensures.left ∙ ap (λ (w : RuleWord). (make_row (rule_row w) (made_of c.args.self.now)).1) (sym c.in-Sym.is)

pub returns-in-Trans-clause-line : goal.returns-in-Trans-clause-line
returns-in-Trans-clause-line c = c.trans_line.ensures.line ∙ ap (λ (w : RuleWord). (make_row (rule_row w) (made_of c.args.self.now)).0) (sym c.in-Trans.is)

pub returns-in-Trans-clause-left : goal.returns-in-Trans-clause-left
returns-in-Trans-clause-left c = c.trans_line.ensures.left ∙ ap (λ (w : RuleWord). (make_row (rule_row w) (made_of c.args.self.now)).1) (sym c.in-Trans.is)

pub returns-in-Cong-clause-line : goal.returns-in-Cong-clause-line
returns-in-Cong-clause-line c = c.cong_line.ensures.line ∙ ap (λ (w : RuleWord). (make_row (rule_row w) (made_of c.args.self.now)).0) (sym c.in-Cong.is)

pub returns-in-Cong-clause-left : goal.returns-in-Cong-clause-left
returns-in-Cong-clause-left c = c.cong_line.ensures.left ∙ ap (λ (w : RuleWord). (make_row (rule_row w) (made_of c.args.self.now)).1) (sym c.in-Cong.is)

pub returns-in-Abs-clause-line : goal.returns-in-Abs-clause-line
returns-in-Abs-clause-line c = c.abs_line.ensures.line ∙ ap (λ (w : RuleWord). (make_row (rule_row w) (made_of c.args.self.now)).0) (sym c.in-Abs.is)

pub returns-in-Abs-clause-left : goal.returns-in-Abs-clause-left
returns-in-Abs-clause-left c = c.abs_line.ensures.left ∙ ap (λ (w : RuleWord). (make_row (rule_row w) (made_of c.args.self.now)).1) (sym c.in-Abs.is)

pub returns-in-Beta-clause-line : goal.returns-in-Beta-clause-line
returns-in-Beta-clause-line c = c.beta_line.ensures.line ∙ ap (λ (w : RuleWord). (make_row (rule_row w) (made_of c.args.self.now)).0) (sym c.in-Beta.is)

pub returns-in-Beta-clause-left : goal.returns-in-Beta-clause-left
returns-in-Beta-clause-left c = c.beta_line.ensures.left ∙ ap (λ (w : RuleWord). (make_row (rule_row w) (made_of c.args.self.now)).1) (sym c.in-Beta.is)

pub returns-in-Eta-clause-line : goal.returns-in-Eta-clause-line
returns-in-Eta-clause-line c = c.eta_line.ensures.line ∙ ap (λ (w : RuleWord). (make_row (rule_row w) (made_of c.args.self.now)).0) (sym c.in-Eta.is)

pub returns-in-Eta-clause-left : goal.returns-in-Eta-clause-left
returns-in-Eta-clause-left c = c.eta_line.ensures.left ∙ ap (λ (w : RuleWord). (make_row (rule_row w) (made_of c.args.self.now)).1) (sym c.in-Eta.is)

pub returns-in-Eqmp-clause-line : goal.returns-in-Eqmp-clause-line
returns-in-Eqmp-clause-line c = c.eqmp_line.ensures.line ∙ ap (λ (w : RuleWord). (make_row (rule_row w) (made_of c.args.self.now)).0) (sym c.in-Eqmp.is)

pub returns-in-Eqmp-clause-left : goal.returns-in-Eqmp-clause-left
returns-in-Eqmp-clause-left c = c.eqmp_line.ensures.left ∙ ap (λ (w : RuleWord). (make_row (rule_row w) (made_of c.args.self.now)).1) (sym c.in-Eqmp.is)

pub returns-in-ImpI-clause-line : goal.returns-in-ImpI-clause-line
returns-in-ImpI-clause-line c = c.imp_i_line.ensures.line ∙ ap (λ (w : RuleWord). (make_row (rule_row w) (made_of c.args.self.now)).0) (sym c.in-ImpI.is)

pub returns-in-ImpI-clause-left : goal.returns-in-ImpI-clause-left
returns-in-ImpI-clause-left c = c.imp_i_line.ensures.left ∙ ap (λ (w : RuleWord). (make_row (rule_row w) (made_of c.args.self.now)).1) (sym c.in-ImpI.is)

pub returns-in-Mp-clause-line : goal.returns-in-Mp-clause-line
returns-in-Mp-clause-line c = c.mp_line.ensures.line ∙ ap (λ (w : RuleWord). (make_row (rule_row w) (made_of c.args.self.now)).0) (sym c.in-Mp.is)

pub returns-in-Mp-clause-left : goal.returns-in-Mp-clause-left
returns-in-Mp-clause-left c = c.mp_line.ensures.left ∙ ap (λ (w : RuleWord). (make_row (rule_row w) (made_of c.args.self.now)).1) (sym c.in-Mp.is)

pub returns-in-AllI-clause-line : goal.returns-in-AllI-clause-line
returns-in-AllI-clause-line c = c.all_i_line.ensures.line ∙ ap (λ (w : RuleWord). (make_row (rule_row w) (made_of c.args.self.now)).0) (sym c.in-AllI.is)

pub returns-in-AllI-clause-left : goal.returns-in-AllI-clause-left
returns-in-AllI-clause-left c = c.all_i_line.ensures.left ∙ ap (λ (w : RuleWord). (make_row (rule_row w) (made_of c.args.self.now)).1) (sym c.in-AllI.is)

pub returns-in-AllE-clause-line : goal.returns-in-AllE-clause-line
returns-in-AllE-clause-line c = c.all_e_line.ensures.line ∙ ap (λ (w : RuleWord). (make_row (rule_row w) (made_of c.args.self.now)).0) (sym c.in-AllE.is)

pub returns-in-AllE-clause-left : goal.returns-in-AllE-clause-left
returns-in-AllE-clause-left c = c.all_e_line.ensures.left ∙ ap (λ (w : RuleWord). (make_row (rule_row w) (made_of c.args.self.now)).1) (sym c.in-AllE.is)

pub returns-in-Iff-clause-line : goal.returns-in-Iff-clause-line
returns-in-Iff-clause-line c = c.iff_line.ensures.line ∙ ap (λ (w : RuleWord). (make_row (rule_row w) (made_of c.args.self.now)).0) (sym c.in-Iff.is)

pub returns-in-Iff-clause-left : goal.returns-in-Iff-clause-left
returns-in-Iff-clause-left c = c.iff_line.ensures.left ∙ ap (λ (w : RuleWord). (make_row (rule_row w) (made_of c.args.self.now)).1) (sym c.in-Iff.is)

pub returns-in-Inst-clause-line : goal.returns-in-Inst-clause-line
returns-in-Inst-clause-line c = c.inst_line.ensures.line ∙ ap (λ (w : RuleWord). (make_row (rule_row w) (made_of c.args.self.now)).0) (sym c.in-Inst.is)

pub returns-in-Inst-clause-left : goal.returns-in-Inst-clause-left
returns-in-Inst-clause-left c = c.inst_line.ensures.left ∙ ap (λ (w : RuleWord). (make_row (rule_row w) (made_of c.args.self.now)).1) (sym c.in-Inst.is)

pub returns-in-Tinst-clause-line : goal.returns-in-Tinst-clause-line
returns-in-Tinst-clause-line c = c.tinst_line.ensures.line ∙ ap (λ (w : RuleWord). (make_row (rule_row w) (made_of c.args.self.now)).0) (sym c.in-Tinst.is)

pub returns-in-Tinst-clause-left : goal.returns-in-Tinst-clause-left
returns-in-Tinst-clause-left c = c.tinst_line.ensures.left ∙ ap (λ (w : RuleWord). (make_row (rule_row w) (made_of c.args.self.now)).1) (sym c.in-Tinst.is)

pub returns-in-Select-clause-line : goal.returns-in-Select-clause-line
returns-in-Select-clause-line c = c.select_line.ensures.line ∙ ap (λ (w : RuleWord). (make_row (rule_row w) (made_of c.args.self.now)).0) (sym c.in-Select.is)

pub returns-in-Select-clause-left : goal.returns-in-Select-clause-left
returns-in-Select-clause-left c = c.select_line.ensures.left ∙ ap (λ (w : RuleWord). (make_row (rule_row w) (made_of c.args.self.now)).1) (sym c.in-Select.is)

pub returns-in-Ccontr-clause-line : goal.returns-in-Ccontr-clause-line
returns-in-Ccontr-clause-line c = c.ccontr_line.ensures.line ∙ ap (λ (w : RuleWord). (make_row (rule_row w) (made_of c.args.self.now)).0) (sym c.in-Ccontr.is)

pub returns-in-Ccontr-clause-left : goal.returns-in-Ccontr-clause-left
returns-in-Ccontr-clause-left c = c.ccontr_line.ensures.left ∙ ap (λ (w : RuleWord). (make_row (rule_row w) (made_of c.args.self.now)).1) (sym c.in-Ccontr.is)

pub returns-in-Thm-clause-line : goal.returns-in-Thm-clause-line
returns-in-Thm-clause-line c = c.thm_line.ensures.line ∙ ap (λ (w : RuleWord). (make_row (rule_row w) (made_of c.args.self.now)).0) (sym c.in-Thm.is)

pub returns-in-Thm-clause-left : goal.returns-in-Thm-clause-left
returns-in-Thm-clause-left c = c.thm_line.ensures.left ∙ ap (λ (w : RuleWord). (make_row (rule_row w) (made_of c.args.self.now)).1) (sym c.in-Thm.is)
