use Rattle.std.proofs.Common.{◌≡◌, ◌↔◌, ◌∙◌, sym, ap, Bool, IsTrue, List, [], Result, Ok, Err, IfOk}
use Rattle.std.specs.Option.{option_copied}
use Rattle.lt_definitions.specs.Terms.{TermTree}
use Rattle.lt_definitions.specs.Rules.{Sequent, line_at}
use Rattle.lt_definitions.specs.Theory.{is_proved}
use Rattle.lt_nameless.specs.Nameless.{nameless}
use Rattle.lt_store.specs.Trees.{tree_at}
use Rattle.lt_extend.specs.Deriving.{HasSequents}
use Rattle.lt_extend.proofs.Tested.{line-sequent, none-proved, with-hypotheses, by-conclusion}
use Rattle.lt_extend.proofs.proving.is_proved.Goals as goal

pub returns-in_default : goal.returns-in_default
returns-in_default g c = λ done t has is.
    none-proved t (line_at done c.args.number) _ c.args.proof.now.nodes (line-sequent c.args.proof.now.nodes c.args.proof.now.steps done c.args.number has)
    (sym c.sequent.ensures.is ∙ ap option_copied c.in_default.is)

pub returns-then-len-ne0 : goal.returns-then-len-ne0
returns-then-len-ne0 g c = λ done t has is.
    with-hypotheses t (line_at done c.args.number) _ c.in-Some.sequent.now c.args.proof.now.nodes (line-sequent c.args.proof.now.nodes c.args.proof.now.steps done c.args.number has)
    (sym c.sequent.ensures.is ∙ ap option_copied c.in-Some.is) (λ z. c.if-len-ne0.true (c.len.ensures ∙ z))

pub same-requires-clause-a : goal.same-requires-clause-a
same-requires-clause-a g c = rw c.store.ensures c.in-Some.ensures.within.1

where-ok : {E : Type 0} (r : Result Bool E) (P Q : Bool → Type 0) → IfOk r P → ((b : Bool) → P b → Q b) → IfOk r Q
where-ok (Ok b) P Q h f = f b h
where-ok (Err e) P Q h f = tt

pub returns : goal.returns
returns g c =
    where-ok c.same.result
    (λ yes. IsTrue yes ↔ (tree_at c.args.proof.now.nodes c.in-Some.sequent.now.concl ≡ tree_at c.args.proof.now.nodes c.args.statement))
    (λ yes. (done : List Sequent) (t : TermTree) → HasSequents c.args.proof.now done → tree_at c.args.proof.now.nodes c.args.statement ≡ nameless [] t → yes ≡ is_proved t (line_at done c.args.number))
    (rw c.store.ensures at c.same.ensures)
    (λ yes told done t has is. by-conclusion t (line_at done c.args.number) _ c.in-Some.sequent.now c.args.proof.now.nodes c.args.statement yes
    (line-sequent c.args.proof.now.nodes c.args.proof.now.steps done c.args.number has) (sym c.sequent.ensures.is ∙ ap option_copied c.in-Some.is)
    (sym c.len.ensures ∙ c.if-len-ne0.false) is told)
