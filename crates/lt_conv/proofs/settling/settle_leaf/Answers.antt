use Rattle.std.proofs.Common.{sym, subst}
use Rattle.lt_nameless.specs.Nameless.{Nameless}
use Rattle.lt_store.specs.Trees.{tree_at}
use Rattle.lt_derived.specs.Equations.{Equates}
use Rattle.lt_conv.proofs.Converting.{still-sound}
use Rattle.lt_conv.proofs.Settled.{still-named}
use Rattle.lt_conv.proofs.EverywhereLemmas.{everywhere-leaf}
use Rattle.lt_conv.proofs.settling.settle_leaf.Goals as goal

pub settle-requires-clause-line : goal.settle-requires-clause-line
settle-requires-clause-line g c = let t = tree_at c.args.proof.now.nodes c.args.id in record { from = t; to = t; holds = c.in_ok-line.ensures.line }

pub settle-requires-clause-sound : goal.settle-requires-clause-sound
settle-requires-clause-sound g c = still-sound c.args.proof.now c.refl.new.proof c.refl.ensures.carries c.requires.sound

pub returns-clause-line : goal.returns-clause-line
returns-clause-line g c = λ named same.
    let t = tree_at c.args.proof.now.nodes c.args.id in
    let settled = c.in_ok-settled.ensures.line named (still-named c.args.proof.now c.refl.new.proof named c.refl.ensures.carries same) (record { from = t; to = t; holds = c.in_ok-line.ensures.line }) in
    subst (λ (r : Nameless). Equates c.settle.new.proof c.in_ok-settled.settled t r) (sym (everywhere-leaf (g.A.Conversion.gives c.args.inner.now named) t c.requires.application c.requires.abstraction)) settled
