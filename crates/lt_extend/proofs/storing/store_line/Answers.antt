use Rattle.std.proofs.Common.{◌∙◌, sym, ap}
use Rattle.lt_definitions.specs.Typing.{Signature, type_fault}
use Rattle.lt_extend.proofs.StoredLines.{stored-assume, stored-weaken, stored-refl, stored-beta, stored-eta, stored-imp, stored-all, stored-inst, stored-select, stored-ccontr}
use Rattle.lt_hol.specs.Lines.{trees}
use Rattle.lt_extend.proofs.storing.store_line.Goals as goal

pub returns-in_ok-store_term-in-Assume-clause-stores : goal.returns-in_ok-store_term-in-Assume-clause-stores
returns-in_ok-store_term-in-Assume-clause-stores g c = stored-assume _ _ (trees c.args.lines.now.nodes) _ _ _ c.in-Assume.is c.in_ok-store_term-in-Assume.ensures.stores

pub returns-in_ok-store_term-in-Weaken-clause-stores : goal.returns-in_ok-store_term-in-Weaken-clause-stores
returns-in_ok-store_term-in-Weaken-clause-stores g c = stored-weaken _ _ (trees c.args.lines.now.nodes) _ _ _ _ c.in-Weaken.is c.in_ok-store_term-in-Weaken.ensures.stores

pub returns-in_ok-store_term-in-Refl-clause-stores : goal.returns-in_ok-store_term-in-Refl-clause-stores
returns-in_ok-store_term-in-Refl-clause-stores g c = stored-refl _ _ (trees c.args.lines.now.nodes) _ _ _ c.in-Refl.is c.in_ok-store_term-in-Refl.ensures.stores

pub returns-in_ok-store_term-in-Beta-clause-stores : goal.returns-in_ok-store_term-in-Beta-clause-stores
returns-in_ok-store_term-in-Beta-clause-stores g c = stored-beta _ _ (trees c.args.lines.now.nodes) _ _ _ c.in-Beta.is c.in_ok-store_term-in-Beta.ensures.stores

pub returns-in_ok-store_term-in-Eta-clause-stores : goal.returns-in_ok-store_term-in-Eta-clause-stores
returns-in_ok-store_term-in-Eta-clause-stores g c = stored-eta _ _ (trees c.args.lines.now.nodes) _ _ _ c.in-Eta.is c.in_ok-store_term-in-Eta.ensures.stores

pub returns-in_ok-store_term-in-ImpI-clause-stores : goal.returns-in_ok-store_term-in-ImpI-clause-stores
returns-in_ok-store_term-in-ImpI-clause-stores g c = stored-imp _ _ (trees c.args.lines.now.nodes) _ _ _ _ c.in-ImpI.is c.in_ok-store_term-in-ImpI.ensures.stores

pub returns-in_ok-store_term-in-AllE-clause-stores : goal.returns-in_ok-store_term-in-AllE-clause-stores
returns-in_ok-store_term-in-AllE-clause-stores g c = stored-all _ _ (trees c.args.lines.now.nodes) _ _ _ _ c.in-AllE.is c.in_ok-store_term-in-AllE.ensures.stores

pub returns-in_ok-copy-in-Inst-2-clause-stores : goal.returns-in_ok-copy-in-Inst-2-clause-stores
returns-in_ok-copy-in-Inst-2-clause-stores g c =
    stored-inst _ _ (trees c.args.lines.now.nodes) _ c.in-Inst.x c.in_ok-copy-in-Inst.field-0 c.in-Inst.ty c.in_ok-copy-in-Inst-2.field-0 c.in-Inst.t c.in-Inst.i c.in_ok-t-in-Inst.t
    c.in-Inst.is c.in_ok-copy-in-Inst.ensures c.in_ok-copy-in-Inst-2.ensures
    (ap (λ (sig : Signature). type_fault sig c.in-Inst.ty) (sym c.signature-in-Inst.ensures) ∙ c.in_ok-check_type-in-Inst.ensures) c.in_ok-t-in-Inst.ensures.stores

pub returns-in_ok-store_term-in-Select-clause-stores : goal.returns-in_ok-store_term-in-Select-clause-stores
returns-in_ok-store_term-in-Select-clause-stores g c = stored-select _ _ (trees c.args.lines.now.nodes) _ _ _ c.in-Select.is c.in_ok-store_term-in-Select.ensures.stores

pub returns-in_ok-store_term-in-Ccontr-clause-stores : goal.returns-in_ok-store_term-in-Ccontr-clause-stores
returns-in_ok-store_term-in-Ccontr-clause-stores g c = stored-ccontr _ _ (trees c.args.lines.now.nodes) _ _ _ c.in-Ccontr.is c.in_ok-store_term-in-Ccontr.ensures.stores
