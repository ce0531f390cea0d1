use Rattle.std.proofs.Common.{ℕ, ◌∙◌, [], ap, sym, subst, List}
use Rattle.lt_definitions.specs.Types.{Chars}
use Rattle.lt_definitions.specs.Typing.{Signature, typed}
use Rattle.lt_definitions.specs.Items.{new_type}
use Rattle.lt_kernel.specs.State.{State}
use Rattle.lt_extend.specs.Entering.{IsNewType, AreNewStatements}
use Rattle.lt_extend.proofs.Accepted.{new-type as new-type-there, new-statements}
use Rattle.lt_extend.proofs.Behind.{behind-on}
use Rattle.lt_extend.proofs.Entered.{typedef-stands}
use Rattle.lt_extend.proofs.entering.enter_typedef.Goals as goal

pub enter_typed-requires : goal.enter_typed-requires
enter_typed-requires g c =
    let r = c.requires.ready.2 in
    let sig = r.stands.stands.signature in
    let is = ap (λ (s : Signature). typed s [] c.args.predicate.now) (sym sig) ∙ c.requires.over in
    subst (λ (s : Signature). IsNewType s c.args.name.now c.args.params.now c.args.raw.now c.args.abs.now c.args.rep.now) (sym sig)
    (new-type-there c.requires.ready.0 c.args.name.now c.args.params.now c.args.predicate.now c.requires.ready.1 c.args.abs.now c.args.rep.now c.args.raw.now r.valid r.accepted is)

pub enter_stated-requires : goal.enter_stated-requires
enter_stated-requires g c =
    let r = c.requires.ready.2 in
    let sig = r.stands.stands.signature in
    let is = ap (λ (s : Signature). typed s [] c.args.predicate.now) (sym sig) ∙ c.requires.over in
    subst (λ (ns : List (Chars × ℕ)). AreNewStatements ns c.args.statements.now.entries c.args.name.now (new_type c.args.name.now c.args.params.now) c.args.raw.now c.args.predicate.now c.args.abs.now c.args.rep.now)
    (sym (ap (λ (s : State). s.named) c.in_ok-enter_typed.ensures.ok))
    (new-statements c.requires.ready.0 c.args.proof.now c.args.statements.now.entries c.args.name.now c.args.params.now c.args.predicate.now c.requires.ready.1 c.args.abs.now c.args.rep.now c.args.raw.now r.valid r.stands r.accepted is)

pub returns-clause-behind : goal.returns-clause-behind
returns-clause-behind g c = behind-on c.args.proof.now c.enter_typed.new.proof c.enter_stated.new.proof c.enter_typed.ensures.behind c.enter_stated.ensures.behind

pub returns-clause-stands : goal.returns-clause-stands
returns-clause-stands g c =
    typedef-stands c.args.proof.now c.enter_typed.new.proof c.enter_stated.new.proof c.args.statements.now.entries c.enter_stated.new.statements.entries c.args.name.now c.args.abs.now c.args.rep.now c.args.params.now
    c.args.predicate.now c.args.raw.now c.enter_stated.result c.requires.over c.in_ok-enter_typed.ensures.ok c.enter_stated.ensures.stands
