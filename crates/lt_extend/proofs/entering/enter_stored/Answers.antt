use Rattle.std.proofs.Common.{◌≡◌, ◌∙◌, ◌∷◌, [], ◌++◌, ap, is_some, false}
use Rattle.lt_definitions.specs.Types.{Chars, found}
use Rattle.lt_types.proofs.NameTables.{inserted-new}
use Rattle.lt_extend.proofs.Unreached.{label-memory}
use Rattle.lt_extend.proofs.entering.enter_stored.Goals as goal

pub into_memory-requires : goal.into_memory-requires
into_memory-requires g c =
    label-memory c.args.proof.now c.add_statement.new.self c.in_ok-copy-2.copy c.args.id c.in-Err.fault
    (ap (λ n. found n c.args.proof.now.named) c.in_ok-copy-2.ensures ∙ c.requires.new) c.in-Err.ensures

pub returns-in_err-copy-2-clause-front : goal.returns-in_err-copy-2-clause-front
returns-in_err-copy-2-clause-front g c =
    let es = c.args.statements.now.entries in
    let absent : is_some (found c.in_ok-copy.copy es) ≡ false = ap (λ (n : Chars). is_some (found n es)) c.in_ok-copy.ensures ∙ ap is_some c.requires.fresh in
    let is : c.insert.new.self.entries ≡ es ++ (c.args.label.now, c.args.t.now) ∷ [] =
    c.in_ok-insert.ensures.entries ∙ inserted-new c.in_ok-copy.copy c.in_ok-t.t es absent ∙ (λ i. es ++ (c.in_ok-copy.ensures i, c.in_ok-t.ensures i) ∷ []) in
    ((c.args.label.now, c.args.t.now) ∷ [], is)

pub returns-in-Ok-clause-kept : goal.returns-in-Ok-clause-kept
returns-in-Ok-clause-kept g c =
    let es = c.args.statements.now.entries in
    let absent : is_some (found c.in_ok-copy.copy es) ≡ false = ap (λ (n : Chars). is_some (found n es)) c.in_ok-copy.ensures ∙ ap is_some c.requires.fresh in
    let is : c.insert.new.self.entries ≡ es ++ (c.args.label.now, c.args.t.now) ∷ [] =
    c.in_ok-insert.ensures.entries ∙ inserted-new c.in_ok-copy.copy c.in_ok-t.t es absent ∙ (λ i. es ++ (c.in_ok-copy.ensures i, c.in_ok-t.ensures i) ∷ []) in
    is

pub returns-in-Ok-clause-front : goal.returns-in-Ok-clause-front
returns-in-Ok-clause-front g c =
    let es = c.args.statements.now.entries in
    let absent : is_some (found c.in_ok-copy.copy es) ≡ false = ap (λ (n : Chars). is_some (found n es)) c.in_ok-copy.ensures ∙ ap is_some c.requires.fresh in
    let is : c.insert.new.self.entries ≡ es ++ (c.args.label.now, c.args.t.now) ∷ [] =
    c.in_ok-insert.ensures.entries ∙ inserted-new c.in_ok-copy.copy c.in_ok-t.t es absent ∙ (λ i. es ++ (c.in_ok-copy.ensures i, c.in_ok-t.ensures i) ∷ []) in
    ((c.args.label.now, c.args.t.now) ∷ [], is)

pub returns-in-Err-clause-front : goal.returns-in-Err-clause-front
returns-in-Err-clause-front g c =
    let es = c.args.statements.now.entries in
    let absent : is_some (found c.in_ok-copy.copy es) ≡ false = ap (λ (n : Chars). is_some (found n es)) c.in_ok-copy.ensures ∙ ap is_some c.requires.fresh in
    let is : c.insert.new.self.entries ≡ es ++ (c.args.label.now, c.args.t.now) ∷ [] =
    c.in_ok-insert.ensures.entries ∙ inserted-new c.in_ok-copy.copy c.in_ok-t.t es absent ∙ (λ i. es ++ (c.in_ok-copy.ensures i, c.in_ok-t.ensures i) ∷ []) in
    ((c.args.label.now, c.args.t.now) ∷ [], is)
