use Rattle.std.proofs.Common.{◌∙◌, sym, subst, Option}
use Rattle.lt_definitions.specs.Items.{empty, context_of}
use Rattle.lt_definitions.specs.Theory.{Refusal}
use Rattle.lt_hol.specs.Lines.{rules_of}
use Rattle.lt_kernel.proofs.GrowingLemmas.{stays-on}
use Rattle.lt_conditions.specs.Refusing.{Refuses}
use Rattle.lt_extend.proofs.Committed.{cleared-stays, stays-same, stays-cleared}
use Rattle.lt_extend.proofs.LineOutcomes.{lines-refused, done-length}
use Rattle.lt_extend.proofs.ProvedLemmas.{proof-tested}
use Rattle.lt_extend.proofs.Stands.{stands-still}
use Rattle.lt_extend.proofs.WholeLines.{whole-lines}
use Rattle.lt_extend.proofs.lemmas.derive_lemma.Goals as goal

pub check_proved-requires : goal.check_proved-requires
check_proved-requires g c =
    let valid = c.requires.valid in
    let ctx = context_of empty valid.0 in
    let cleared = stands-still ctx c.args.proof.now c.clear.new.self valid.2 (stays-cleared c.args.proof.now c.args.proof.now c.clear.new.self (stays-same c.args.proof.now) c.clear.ensures) in
    let got = c.in-Ok.ensures.derives ctx cleared in
    record {
      statement = c.in_ok-id.ensures.builds.made;
      whole = whole-lines valid.0 (rules_of c.args.lines.now.nodes c.args.lines.now.lines) c.add_term.new.self got.0 valid.1 got.1 (c.add_term.ensures.keeps.sequents ∙ got.2);
    }

pub returns-in-Err-clause-stays : goal.returns-in-Err-clause-stays
returns-in-Err-clause-stays g c = cleared-stays c.args.proof.now c.clear.new.self c.add_lines.new.proof c.clear.ensures c.add_lines.ensures.stays

pub returns-in-Err-clause-proves : goal.returns-in-Err-clause-proves
returns-in-Err-clause-proves g c = λ ctx st.
    let cleared = stands-still ctx c.args.proof.now c.clear.new.self st (stays-cleared c.args.proof.now c.args.proof.now c.clear.new.self (stays-same c.args.proof.now) c.clear.ensures) in
    lines-refused c.args.statement.now _ c.in-Err.fault (c.in-Err.ensures.derives ctx cleared)

pub returns-in_err-id-clause-stays : goal.returns-in_err-id-clause-stays
returns-in_err-id-clause-stays g c =
    stays-on c.args.proof.now c.add_lines.new.proof c.add_term.new.self (cleared-stays c.args.proof.now c.clear.new.self c.add_lines.new.proof c.clear.ensures c.add_lines.ensures.stays) c.add_term.ensures.keeps.stays

pub returns-in-Err-check_proved-clause-stays : goal.returns-in-Err-check_proved-clause-stays
returns-in-Err-check_proved-clause-stays g c =
    stays-on c.args.proof.now c.add_lines.new.proof c.add_term.new.self (cleared-stays c.args.proof.now c.clear.new.self c.add_lines.new.proof c.clear.ensures c.add_lines.ensures.stays) c.add_term.ensures.keeps.stays

pub returns-in-Err-check_proved-clause-proves : goal.returns-in-Err-check_proved-clause-proves
returns-in-Err-check_proved-clause-proves g c = λ ctx st.
    let cleared = stands-still ctx c.args.proof.now c.clear.new.self st (stays-cleared c.args.proof.now c.args.proof.now c.clear.new.self (stays-same c.args.proof.now) c.clear.ensures) in
    let got = c.in-Ok.ensures.derives ctx cleared in
    let count = c.len.ensures ∙ sym c.in-Ok.ensures.count ∙ sym (done-length c.add_lines.new.proof got.0 got.2) in
    subst (λ (o : Option Refusal). Refuses o c.in-Err-check_proved.fault) (sym (proof-tested c.args.statement.now _ got.0 c.len.result got.1 count))
    (c.in-Err-check_proved.ensures got.0 c.args.statement.now (c.add_term.ensures.keeps.sequents ∙ got.2) c.in_ok-id.ensures.builds.is)

pub returns-clause-stays : goal.returns-clause-stays
returns-clause-stays g c =
    stays-on c.args.proof.now c.add_lines.new.proof c.add_term.new.self (cleared-stays c.args.proof.now c.clear.new.self c.add_lines.new.proof c.clear.ensures c.add_lines.ensures.stays) c.add_term.ensures.keeps.stays

pub returns-clause-proves : goal.returns-clause-proves
returns-clause-proves g c = λ ctx st.
    let cleared = stands-still ctx c.args.proof.now c.clear.new.self st (stays-cleared c.args.proof.now c.args.proof.now c.clear.new.self (stays-same c.args.proof.now) c.clear.ensures) in
    let got = c.in-Ok.ensures.derives ctx cleared in
    let count = c.len.ensures ∙ sym c.in-Ok.ensures.count ∙ sym (done-length c.add_lines.new.proof got.0 got.2) in
    proof-tested c.args.statement.now _ got.0 c.len.result got.1 count
    ∙ c.in-Ok-check_proved.ensures got.0 c.args.statement.now (c.add_term.ensures.keeps.sequents ∙ got.2) c.in_ok-id.ensures.builds.is
