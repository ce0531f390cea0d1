-- Lines whose types and terms are in the store.
use Rattle.std.proofs.Common.{◌≡◌, ℕ, List, [], length, get_or, None, sym, ◌∙◌, ap, subst}
use Rattle.lt_definitions.specs.Types.{Chars, TypeTree}
use Rattle.lt_definitions.specs.Terms.{TermTree, bound_name}
use Rattle.lt_definitions.specs.Typing.{Signature, type_fault, earlier}
use Rattle.lt_definitions.specs.Rules.{Rule, by_assume, by_weaken, by_refl, by_beta, by_eta, by_impI, by_allE, by_inst, by_select, by_ccontr}
use Rattle.lt_definitions.specs.Derivations.{term_fault, rule_fault}
use Rattle.lt_nameless.specs.Nameless.{Nameless, nameless, IsWhole}
use Rattle.lt_nameless.specs.NamelessRules.{nameless_rule, nameless_fault}
use Rattle.lt_nameless.proofs.NamelessSteps.{faults_are_nameless}
use Rattle.lt_nameless.proofs.NamelessTyping.{typed-of}
use Rattle.lt_nameless.proofs.ClosedForms.{typed_is_whole}
use Rattle.lt_hol.specs.declared.line.Line.{Line}
use Rattle.lt_hol.specs.declared.line.Line.TheVariants.{Assume, Weaken, Refl, Beta, Eta, ImpI, AllE, Inst, Select, Ccontr}
use Rattle.lt_hol.specs.Lines.{rule_of}
use Rattle.lt_store.specs.declared.node.Node.{Node}
use Rattle.lt_kernel.specs.Lines.{rule_at, LineIsIn}
use Rattle.lt_extend.specs.Storing.{IsStored, IsStoredLine}

-- a term without a fault has its binders
pub whole-term : (sig : Signature) (t : TermTree) → term_fault sig t ≡ None → IsWhole 0 (nameless [] t)
whole-term sig t h = let typed = typed-of sig t h in typed_is_whole sig t typed.0 typed.1

stored-line : (sig : Signature) (nodes : List Node) (rule : Rule TermTree) (line : Line) → LineIsIn (length nodes) line → rule_at nodes line ≡ nameless_rule rule → rule_fault sig (term_fault sig) rule ≡ None
    → IsStoredLine sig nodes rule line
stored-line sig nodes rule line within same typed = record {
  good = record { within = within; typed = ap (rule_fault sig (nameless_fault sig)) same ∙ sym (faults_are_nameless sig rule) ∙ typed };
  is = same;
  typed = typed;
}

-- the term at a place of a line's
abbrev term : List TermTree → ℕ → TermTree
term ts p = get_or ts p (bound_name [])

-- what a line is
abbrev Stands : Signature → List Node → List TermTree → Line → Line → Type 0
Stands sig nodes ts from line = IsStoredLine sig nodes (rule_of ts from) line

pub stored-assume : (sig : Signature) (nodes : List Node) (ts : List TermTree) (from : Line) (p id : ℕ) → from ≡ Assume p → IsStored sig nodes (term ts p) id → Stands sig nodes ts from (Assume id)
stored-assume sig nodes ts from p id e s = subst (λ (l : Line). Stands sig nodes ts l (Assume id)) (sym e) (stored-line sig nodes (rule_of ts (Assume p)) (Assume id) (s.within, tt) (ap by_assume s.is) s.typed)

pub stored-weaken : (sig : Signature) (nodes : List Node) (ts : List TermTree) (from : Line) (p i id : ℕ) → from ≡ Weaken p i → IsStored sig nodes (term ts p) id → Stands sig nodes ts from (Weaken id i)
stored-weaken sig nodes ts from p i id e s = subst (λ (l : Line). Stands sig nodes ts l (Weaken id i)) (sym e) (stored-line sig nodes (rule_of ts (Weaken p i)) (Weaken id i) (s.within, tt) (ap (λ (t : Nameless). by_weaken t i) s.is) s.typed)

pub stored-refl : (sig : Signature) (nodes : List Node) (ts : List TermTree) (from : Line) (p id : ℕ) → from ≡ Refl p → IsStored sig nodes (term ts p) id → Stands sig nodes ts from (Refl id)
stored-refl sig nodes ts from p id e s = subst (λ (l : Line). Stands sig nodes ts l (Refl id)) (sym e) (stored-line sig nodes (rule_of ts (Refl p)) (Refl id) (s.within, tt) (ap by_refl s.is) s.typed)

pub stored-beta : (sig : Signature) (nodes : List Node) (ts : List TermTree) (from : Line) (p id : ℕ) → from ≡ Beta p → IsStored sig nodes (term ts p) id → Stands sig nodes ts from (Beta id)
stored-beta sig nodes ts from p id e s = subst (λ (l : Line). Stands sig nodes ts l (Beta id)) (sym e) (stored-line sig nodes (rule_of ts (Beta p)) (Beta id) (s.within, tt) (ap by_beta s.is) s.typed)

pub stored-eta : (sig : Signature) (nodes : List Node) (ts : List TermTree) (from : Line) (p id : ℕ) → from ≡ Eta p → IsStored sig nodes (term ts p) id → Stands sig nodes ts from (Eta id)
stored-eta sig nodes ts from p id e s = subst (λ (l : Line). Stands sig nodes ts l (Eta id)) (sym e) (stored-line sig nodes (rule_of ts (Eta p)) (Eta id) (s.within, tt) (ap by_eta s.is) s.typed)

pub stored-imp : (sig : Signature) (nodes : List Node) (ts : List TermTree) (from : Line) (p i id : ℕ) → from ≡ ImpI p i → IsStored sig nodes (term ts p) id → Stands sig nodes ts from (ImpI id i)
stored-imp sig nodes ts from p i id e s = subst (λ (l : Line). Stands sig nodes ts l (ImpI id i)) (sym e) (stored-line sig nodes (rule_of ts (ImpI p i)) (ImpI id i) (s.within, tt) (ap (λ (t : Nameless). by_impI t i) s.is) s.typed)

pub stored-all : (sig : Signature) (nodes : List Node) (ts : List TermTree) (from : Line) (p i id : ℕ) → from ≡ AllE p i → IsStored sig nodes (term ts p) id → Stands sig nodes ts from (AllE id i)
stored-all sig nodes ts from p i id e s = subst (λ (l : Line). Stands sig nodes ts l (AllE id i)) (sym e) (stored-line sig nodes (rule_of ts (AllE p i)) (AllE id i) (s.within, tt) (ap (λ (t : Nameless). by_allE t i) s.is) s.typed)

pub stored-inst : (sig : Signature) (nodes : List Node) (ts : List TermTree) (from : Line) (x y : Chars) (ty u : TypeTree) (p i id : ℕ) → from ≡ Inst x ty p i → y ≡ x → u ≡ ty
    → type_fault sig ty ≡ None → IsStored sig nodes (term ts p) id → Stands sig nodes ts from (Inst y u id i)
stored-inst sig nodes ts from x y ty u p i id e f g h s =
    subst (λ (l : Line). Stands sig nodes ts l (Inst y u id i)) (sym e)
    (subst (λ (y : Chars). Stands sig nodes ts (Inst x ty p i) (Inst y u id i)) (sym f)
    (subst (λ (u : TypeTree). Stands sig nodes ts (Inst x ty p i) (Inst x u id i)) (sym g)
    (stored-line sig nodes (rule_of ts (Inst x ty p i)) (Inst x ty id i) (s.within, tt) (ap (λ (t : Nameless). by_inst x ty t i) s.is) (ap (λ o. earlier o (term_fault sig (term ts p))) h ∙ s.typed))))

pub stored-select : (sig : Signature) (nodes : List Node) (ts : List TermTree) (from : Line) (p id : ℕ) → from ≡ Select p → IsStored sig nodes (term ts p) id → Stands sig nodes ts from (Select id)
stored-select sig nodes ts from p id e s = subst (λ (l : Line). Stands sig nodes ts l (Select id)) (sym e) (stored-line sig nodes (rule_of ts (Select p)) (Select id) (s.within, tt) (ap by_select s.is) s.typed)

pub stored-ccontr : (sig : Signature) (nodes : List Node) (ts : List TermTree) (from : Line) (p id : ℕ) → from ≡ Ccontr p → IsStored sig nodes (term ts p) id → Stands sig nodes ts from (Ccontr id)
stored-ccontr sig nodes ts from p id e s = subst (λ (l : Line). Stands sig nodes ts l (Ccontr id)) (sym e) (stored-line sig nodes (rule_of ts (Ccontr p)) (Ccontr id) (s.within, tt) (ap by_ccontr s.is) s.typed)
