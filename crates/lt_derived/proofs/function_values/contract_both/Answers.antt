use Rattle.lt_programs.specs.Extensionality.{contracted}
use Rattle.lt_derived.proofs.UnfoldingLemmas.{still-sound}
use Rattle.lt_derived.proofs.FunctionSteps.{turned-sure, turned-line, as-under}
use Rattle.lt_derived.proofs.function_values.contract_both.Goals as goal

pub sym-requires : goal.sym-requires
sym-requires g c =
    let q = c.requires.form in
    turned-sure c.contract_right.new.proof c.in_ok-right.right q.hyps q.ty q.left (contracted q.right) (c.in_ok-right.ensures.line q)

pub contract_right-requires-2-clause-sound : goal.contract_right-requires-2-clause-sound
contract_right-requires-2-clause-sound g c =
    still-sound c.args.proof.now c.sym.new.proof (λ first h. c.sym.ensures.carries first (c.contract_right.ensures.carries first h)) c.requires.sound

pub sym-requires-2 : goal.sym-requires-2
sym-requires-2 g c =
    let q = c.requires.form in
    turned-sure c.contract_right-2.new.proof c.in_ok-left.left q.hyps q.ty (contracted q.right) (contracted q.left)
    (c.in_ok-left.ensures.line (as-under c.sym.new.proof c.in_ok-turned.turned q.hyps q.ty (contracted q.right) q.left
    (turned-line c.contract_right.new.proof c.in_ok-right.right q.hyps q.ty q.left (contracted q.right) (c.in_ok-right.ensures.line q) c.sym.new.proof c.in_ok-turned.turned c.in_ok-turned.ensures.line)))

pub returns-clause-line : goal.returns-clause-line
returns-clause-line g c = λ q.
    turned-line c.contract_right-2.new.proof c.in_ok-left.left q.hyps q.ty (contracted q.right) (contracted q.left)
    (c.in_ok-left.ensures.line (as-under c.sym.new.proof c.in_ok-turned.turned q.hyps q.ty (contracted q.right) q.left
    (turned-line c.contract_right.new.proof c.in_ok-right.right q.hyps q.ty q.left (contracted q.right) (c.in_ok-right.ensures.line q) c.sym.new.proof c.in_ok-turned.turned c.in_ok-turned.ensures.line)))
    c.sym-2.new.proof c.in_ok-line.line c.in_ok-line.ensures.line
