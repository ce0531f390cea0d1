use Rattle.std.proofs.Common.{◌≡◌, ◌∙◌, ap, sym, refl, true, false, find, Some, option_map, codes}
use Rattle.std.proofs.lemmas.Bool.{cond-true, cond-false}
use Rattle.lt_definitions.specs.Types.{same_name, found}
use Rattle.lt_transport_definitions.specs.Relations.{Registry, function_relator_name}
use Rattle.lt_relations.specs.Told.{relator_told}
use Rattle.lt_relations.proofs.TableLemmas.{found-second}
use Rattle.lt_relations.proofs.relations.Relations.relator_named.Goals as goal

pub returns-then-eq : goal.returns-then-eq
returns-then-eq c =
    let x = c.args.name.now in
    let kept = c.self.invariant in
    let same : same_name x function_relator_name ≡ true = ap (same_name x) (sym kept.function_relator) ∙ sym c.eq.ensures ∙ c.if-eq.true in
    ap Some kept.functions
    ∙ sym (cond-true (same_name x function_relator_name) (Some (codes "fun")) (option_map (λ r. r.con) (find (λ r. same_name x r.rel) c.args.self.now.relators)) same)

pub returns-else-eq : goal.returns-else-eq
returns-else-eq c =
    let x = c.args.name.now in
    let kept = c.self.invariant in
    let other : same_name x function_relator_name ≡ false = ap (same_name x) (sym kept.function_relator) ∙ sym c.eq.ensures ∙ c.if-eq.false in
    c.get.ensures
    ∙ ap (found x) kept.by_relator
    ∙ sym (found-second (λ r. r.rel) (λ r. r.con) relator_told (λ r. same_name x r.rel) (λ r. r.con) x c.self.inside.relators (λ r. refl) (λ r. refl))
    ∙ ap (λ (G : Registry). option_map (λ r. r.con) (find (λ r. same_name x r.rel) G.relators)) c.self.view_is
    ∙ sym (cond-false (same_name x function_relator_name) (Some (codes "fun")) (option_map (λ r. r.con) (find (λ r. same_name x r.rel) c.args.self.now.relators)) other)
