use Rattle.std.proofs.Common.{◌∙◌, List, Some, option_map, ap, sym, subst, length}
use Rattle.std.specs.Option.{option_copied}
use Rattle.lt_store.specs.declared.node.Node.{Node}
use Rattle.lt_kernel.specs.Sequents.{sequent_at, IsWithin}
use Rattle.lt_kernel.specs.State.{sequents}
use Rattle.lt_extend.specs.Proving.{IsWholeSequent}
use Rattle.lt_extend.proofs.Tested.{line-stored}
use Rattle.lt_extend.proofs.ToldSequents.{whole-line}
use Rattle.lt_extend.proofs.proving.last_sequent.Goals as goal

pub sequent_of-requires : goal.sequent_of-requires
sequent_of-requires g c =
    let s = c.in-Some.sequent.now in
    let at = line-stored c.args.proof.now.nodes c.args.proof.now.steps c.args.number ∙ ap (option_map (sequent_at c.args.proof.now.nodes)) (sym c.sequent.ensures.is ∙ ap option_copied c.in-Some.is) in
    record {
      within = subst (λ (ns : List Node). IsWithin (length ns) s) (sym c.store.ensures) c.in-Some.ensures.within;
      whole = subst (λ (ns : List Node). IsWholeSequent (sequent_at ns s)) (sym c.store.ensures) (whole-line (sequents c.args.proof.now) c.args.number (sequent_at c.args.proof.now.nodes s) c.requires at);
    }

pub returns-in_ok-sequent_of-in-Some : goal.returns-in_ok-sequent_of-in-Some
returns-in_ok-sequent_of-in-Some g c =
    ap Some (c.in_ok-sequent_of-in-Some.ensures ∙ ap (λ (ns : List Node). sequent_at ns c.in-Some.sequent.now) c.store.ensures)
    ∙ sym (line-stored c.args.proof.now.nodes c.args.proof.now.steps c.args.number ∙ ap (option_map (sequent_at c.args.proof.now.nodes)) (sym c.sequent.ensures.is ∙ ap option_copied c.in-Some.is))

pub returns-in-None : goal.returns-in-None
returns-in-None g c =
    sym (line-stored c.args.proof.now.nodes c.args.proof.now.steps c.args.number ∙ ap (option_map (sequent_at c.args.proof.now.nodes)) (sym c.sequent.ensures.is ∙ ap option_copied c.in-None.is))
