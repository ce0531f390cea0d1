use Rattle.std.proofs.Common.{◌≡◌, ◌∙◌, sym, ap, is_some, false, List, ℕ, ◌<◌, ◌++◌, ◌∷◌, [], length, subst}
use Rattle.lt_definitions.specs.Types.{Chars, found}
use Rattle.lt_types.proofs.NameTables.{inserted-new, none-found}
use Rattle.lt_kernel.specs.State.{State}
use Rattle.lt_kernel.specs.Sequents.{NamedWithin}
use Rattle.lt_kernel.proofs.DerivedLines.{derived-named}
use Rattle.lt_kernel.proofs.StateLemmas.{named-push}
use Rattle.lt_kernel.proofs.proof.Proof.add_statement.Goals as goal

pub invariant_of-self-2 : goal.invariant_of-self-2
invariant_of-self-2 g c =
    let inside = c.self.inside in
    let ns = g.S.TermStore.nodes inside.store in
    let absent : is_some (found c.args.label inside.named.entries) ≡ false = sym c.is_named.ensures ∙ c.if-is_named.false in
    let is : c.insert.new.self.entries ≡ inside.named.entries ++ (c.args.label, c.args.statement) ∷ [] = c.in_ok-insert.ensures.entries ∙ inserted-new c.args.label c.args.statement inside.named.entries absent in
    record {
      steps = c.self.invariant.steps;
      named = subst (λ (es : List (Chars × ℕ)). NamedWithin (length ns) es) (sym is)
          (named-push (length ns) inside.named.entries (c.args.label, c.args.statement) c.self.invariant.named (subst (λ (s : State). c.args.statement < length s.nodes) (sym c.self.view_is) c.requires));
      derived = derived-named ns inside.signature inside.named.entries c.insert.new.self.entries inside.steps.items (c.args.label, c.args.statement) is c.self.invariant.derived;
    }

pub returns : goal.returns
returns g c =
    let inside = c.self.inside in
    let absent : is_some (found c.args.label inside.named.entries) ≡ false = sym c.is_named.ensures ∙ c.if-is_named.false in
    let is : c.insert.new.self.entries ≡ inside.named.entries ++ (c.args.label, c.args.statement) ∷ [] = c.in_ok-insert.ensures.entries ∙ inserted-new c.args.label c.args.statement inside.named.entries absent in (
      none-found (found c.args.label c.args.self.now.named) (ap (λ (s : State). is_some (found c.args.label s.named)) (sym c.self.view_is) ∙ absent),
      λ i. record {
        nodes = ap (λ (s : State). s.nodes) c.self.view_is i;
        signature = ap (λ (s : State). s.signature) c.self.view_is i;
        named = (is ∙ ap (λ (s : State). s.named ++ (c.args.label, c.args.statement) ∷ []) c.self.view_is) i;
        steps = ap (λ (s : State). s.steps) c.self.view_is i;
      },
    )
