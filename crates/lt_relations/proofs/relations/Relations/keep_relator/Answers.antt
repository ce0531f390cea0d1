use Rattle.std.proofs.Common.{◌∙◌, ap, refl, is_some}
use Rattle.lt_definitions.specs.Types.{same_name, found}
use Rattle.lt_transport_definitions.specs.Relations.{Registry}
use Rattle.lt_relations.specs.Told.{relator_told}
use Rattle.lt_relations.proofs.RegisteringLemmas.{none-keyed, second-there, keyed-grown, named-grown}
use Rattle.lt_relations.proofs.relations.Relations.keep_relator.Goals as goal

pub add-requires : goal.add-requires
add-requires c =
    let x = c.args.relator.rel in
    ap (λ y. is_some (found y c.self.inside.relator_types)) c.in_ok-rel.ensures
    ∙ second-there (λ r. r.rel) (λ r. r.con) relator_told (λ r. same_name x r.rel) (λ r. r.con) x c.self.inside.relators c.self.inside.relator_types c.args.self.now.relators (λ r. refl) (λ r. refl)
    c.self.invariant.by_relator (ap (λ (G : Registry). G.relators) c.self.view_is)
    ∙ ap is_some c.requires.rel

pub add-requires-2 : goal.add-requires-2
add-requires-2 c =
    let x = c.args.relator.con in
    ap (λ y. is_some (found y c.self.inside.relators)) c.in_ok-con.ensures
    ∙ none-keyed (λ r. r.con) relator_told (λ r. same_name x r.con) x c.self.inside.relators c.args.self.now.relators (λ r. refl) c.self.invariant.by_type (ap (λ (G : Registry). G.relators) c.self.view_is)
    c.requires.con

pub invariant_of-self-in-Ok : goal.invariant_of-self-in-Ok
invariant_of-self-in-Ok c = record {
  functions = c.self.invariant.functions;
  function_relator = c.self.invariant.function_relator;
  by_type = keyed-grown (λ d. d.con) c.self.inside.relators c.add-2.new.self c.in_ok-con.con c.args.relator c.self.invariant.by_type c.in-Ok.ensures.ok c.in_ok-con.ensures;
  by_relator = named-grown (λ e. (e.1.rel, e.1.con)) c.self.inside.relators c.add-2.new.self c.self.inside.relator_types c.add.new.self (c.in_ok-con.con, c.args.relator) (c.in_ok-rel.rel, c.in_ok-copy.field-0)
      c.in-Ok.ensures.ok c.in_ok-add.ensures.ok c.self.invariant.by_relator (λ i. (c.in_ok-rel.ensures i, c.in_ok-copy.ensures i));
  by_name = c.self.invariant.by_name;
  by_correspondence = c.self.invariant.by_correspondence;
  by_form = c.self.invariant.by_form;
  by_head = c.self.invariant.by_head;
}
