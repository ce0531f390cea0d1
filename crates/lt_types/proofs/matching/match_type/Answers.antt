use Rattle.std.proofs.Common.{◌≡◌, ◌∙◌, [], map, ap, sym, subst, MatchOption}
use Rattle.lt_definitions.specs.Types.{TypeMap, type_instance}
use Rattle.lt_definitions.proofs.SameNames.{type-true, true-type, true-false}
use Rattle.lt_types.specs.Matching.{firsts_behind, AreOccurrences}
use Rattle.lt_types.proofs.MatchingLemmas.{firsts-domain, firsts-match}
use Rattle.lt_types.proofs.matching.match_type.Goals as goal

pub returns-then-eq : goal.returns-then-eq
returns-then-eq c =
    let read : c.in_ok-map.map ≡ firsts_behind [] c.in-Some.pairs.items = c.in_ok-map.ensures ∙ ap (firsts_behind []) c.as_slice.ensures.value in
    let known : AreOccurrences c.args.pattern.now c.args.ty.now c.in-Some.pairs.items =
    subst (λ o. MatchOption o ((n : TypeMap) → type_instance n c.args.pattern.now ≡ c.args.ty.now → ⊥) (λ v. AreOccurrences c.args.pattern.now c.args.ty.now v.items)) c.in-Some.is c.in_ok-pairs.ensures in
    record {
      instance = sym c.in_ok-instance.ensures ∙ type-true _ _ (sym c.eq.ensures ∙ c.if-eq.true);
      domain = ap (map (λ p. p.0)) read ∙ firsts-domain c.args.pattern.now c.args.ty.now c.in-Some.pairs.items known;
    }

pub returns : goal.returns
returns c m h =
    let read : c.in_ok-map.map ≡ firsts_behind [] c.in-Some.pairs.items = c.in_ok-map.ensures ∙ ap (firsts_behind []) c.as_slice.ensures.value in
    let known : AreOccurrences c.args.pattern.now c.args.ty.now c.in-Some.pairs.items =
    subst (λ o. MatchOption o ((n : TypeMap) → type_instance n c.args.pattern.now ≡ c.args.ty.now → ⊥) (λ v. AreOccurrences c.args.pattern.now c.args.ty.now v.items)) c.in-Some.is c.in_ok-pairs.ensures in
    let one : c.in_ok-instance.instance ≡ c.args.ty.now =
    c.in_ok-instance.ensures ∙ ap (λ (n : TypeMap). type_instance n c.args.pattern.now) read ∙ firsts-match c.args.pattern.now c.args.ty.now c.in-Some.pairs.items m known h.instance in
    absurd (true-false (sym (true-type _ _ one) ∙ sym c.eq.ensures ∙ c.if-eq.false))
