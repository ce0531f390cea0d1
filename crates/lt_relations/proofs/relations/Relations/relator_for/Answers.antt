use Rattle.std.proofs.Common.{◌≡◌, ◌∙◌, ap, sym, true, false, Some, option_map, codes}
use Rattle.std.proofs.lemmas.Bool.{cond-true, cond-false}
use Rattle.lt_definitions.specs.Types.{same_name}
use Rattle.lt_transport_definitions.specs.Relations.{function_relator_name, relator_of}
use Rattle.lt_relations.proofs.relations.Relations.relator_for.Goals as goal

pub returns-then-eq : goal.returns-then-eq
returns-then-eq c =
    let x = c.args.con.now in
    let same : same_name x (codes "fun") ≡ true = ap (same_name x) (sym c.self.invariant.functions) ∙ sym c.eq.ensures ∙ c.if-eq.true in
    ap Some c.self.invariant.function_relator
    ∙ sym (cond-true (same_name x (codes "fun")) (Some function_relator_name) (option_map (λ r. r.rel) (relator_of c.args.self.now x)) same)

pub returns-else-eq : goal.returns-else-eq
returns-else-eq c =
    let x = c.args.con.now in
    let other : same_name x (codes "fun") ≡ false = ap (same_name x) (sym c.self.invariant.functions) ∙ sym c.eq.ensures ∙ c.if-eq.false in
    c.constant_of.ensures
    ∙ sym (cond-false (same_name x (codes "fun")) (Some function_relator_name) (option_map (λ r. r.rel) (relator_of c.args.self.now x)) other)
