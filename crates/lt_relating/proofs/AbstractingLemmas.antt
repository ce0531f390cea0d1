-- Lines of functions that are related, from values that are.
use Rattle.std.proofs.Common.{◌≡◌, ℕ, zero, suc, ◌<◌, List, [], ◌∷◌, length, is_some, true, IfSome, Option, Some, None, Ok, Err, refl, sym, ◌∙◌, ap, subst, arith}
use Rattle.std.specs.Option.{option_map}
use Rattle.std.specs.Result.{result_unwrap_or}
use Rattle.std.specs.List.{All}
use Rattle.lt_definitions.specs.Types.{Chars, TypeTree, bool, fun, row}
use Rattle.lt_definitions.specs.Typing.{Signature, with_ok, type_fault, types_fault}
use Rattle.lt_definitions.specs.Rules.{line_at, with_line, with_lines}
use Rattle.lt_definitions.specs.declared.reason.Reason.TheVariants.{MissingLine, MiddleDiffers}
use Rattle.lt_definitions.proofs.RuleLemmas.{found-on, missing-on, line-on, lines-on}
use Rattle.lt_definitions.proofs.TypingLemmas.{none-both}
use Rattle.lt_nameless.specs.Nameless.{Nameless, nameless_free, nameless_application, NamelessSequent}
use Rattle.lt_nameless.specs.NamelessRules.{NamelessOutcome, nameless_type_of, nameless_mp_gives, detached, IsBooleanNamelessSequent}
use Rattle.lt_store.specs.declared.node.Node.{Node}
use Rattle.lt_store.specs.Trees.{tree_at, trees, AllBelow}
use Rattle.lt_store.specs.Typed.{IsTyped}
use Rattle.lt_store.proofs.TreeLemmas.{tree_at-extends}
use Rattle.lt_kernel.specs.declared.rule_fault.RuleFault.{RuleFault}
use Rattle.lt_kernel.specs.State.{State, sequents, statements}
use Rattle.lt_kernel.specs.Growing.{Carries, IsSound}
use Rattle.lt_kernel.specs.Reaching.{IsGiven, Reaches}
use Rattle.lt_kernel.proofs.GrowingLemmas.{carries-grows}
use Rattle.lt_programs.specs.Programs.{named_at, paired}
use Rattle.lt_programs.specs.TypedTerms.{IsOfType}
use Rattle.lt_programs.proofs.TypedTermLemmas.{of-sound, closed-of}
use Rattle.lt_programs.proofs.ConnectiveLemmas.{type-sound}
use Rattle.lt_derived.specs.Equations.{Equates, Stands}
use Rattle.lt_derived.proofs.EquationLemmas.{stands-kept, of-kept}
use Rattle.lt_derived.proofs.ConnectiveSteps.{concl-here}
use Rattle.lt_derived.proofs.UnfoldingLemmas.{line-boolean, line-still}
use Rattle.lt_relating.specs.declared.expansion.Sides.{Sides}
use Rattle.lt_relating.specs.declared.variable_pair.VariablePair.{VariablePair}
use Rattle.lt_relating.specs.TypedRelations.{TypedRelation, relation_type, related, IsRelation}
use Rattle.lt_relating.specs.RelatorLaws.{relator_names}
use Rattle.lt_relating.specs.RelatedSteps.{Binding, as_related, variables_related, closed, expanded, closed_over_both, abstraction_types, abstraction_terms, abstracted_by}
use Rattle.lt_relating.specs.Triples.{three_trees}
use Rattle.lt_relating.specs.Pairs.{binding_of, IsPair}
use Rattle.lt_relating.specs.Expansions.{IsRelatedLine, AreSides}
use Rattle.lt_relating.proofs.RelatedLemmas.{variable-of}
use Rattle.lt_relating.proofs.OutcomeSteps.{fails-first, same-fails}
use Rattle.lt_relating.proofs.RelatedForms.{related-is, RelatedTypes, related-types}
use Rattle.lt_programs.proofs.TypedTermLemmas.{application-of}

-- a pair stays one
pub binding-kept : (old new : State) (pair : VariablePair) → Carries old new → pair.relation < length old.nodes → binding_of new.nodes pair ≡ binding_of old.nodes pair
binding-kept old new pair c w = let g = carries-grows old new c in
    ap (λ (r : Nameless). record { image = pair.image; left = pair.left; given = pair.given; right = pair.right; relation = r }) (tree_at-extends old.nodes new.nodes pair.relation g.stays.nodes w)

pub pair-kept : (old new : State) (pair : VariablePair) → Carries old new → IsPair old pair → IsPair new pair
pair-kept old new pair c p =
    let g = carries-grows old new c in
    let more = g.stays.nodes.grows in
    let w = p.within in
    record {
      within = omega (arith, more, w);
      typed = of-kept old new (tree_at new.nodes pair.relation) (relation_type pair.left pair.right) c
          (subst (λ t. IsOfType old.signature t (relation_type pair.left pair.right)) (sym (tree_at-extends old.nodes new.nodes pair.relation g.stays.nodes p.within)) p.typed);
      left = ap (λ sig. type_fault sig pair.left) g.stays.signature ∙ p.left;
      right = ap (λ sig. type_fault sig pair.right) g.stays.signature ∙ p.right;
    }

abbrev pub outcome_whole : State → Chars → VariablePair → ℕ → NamelessOutcome
outcome_whole old law pair i = with_line (sequents old) i (abstracted_by old.signature (statements old) law (binding_of old.nodes pair))

module _ (old : State) (h : IsSound old) (law : Chars) (pair : VariablePair) (hp : IsPair old pair) (i : ℕ) (s : NamelessSequent)
    (ei : line_at (sequents old) i ≡ Some s) (concl : ℕ) (cw : concl < length old.nodes)
    (cs : option_map (λ q. q.concl) (line_at (sequents old) i) ≡ Some (tree_at old.nodes concl)) where
  abbrev here : Binding
  here = binding_of old.nodes pair

  begins-so : outcome_whole old law pair i ≡ abstracted_by old.signature (statements old) law here s
  begins-so = line-on (sequents old) i s (abstracted_by old.signature (statements old) law here) ei

  same-concl : tree_at old.nodes concl ≡ s.concl
  same-concl = concl-here old old h (λ a b. b) i s ei concl cw cs

  pub not-related : as_related (tree_at old.nodes concl) ≡ None → outcome_whole old law pair i ≡ Err MiddleDiffers
  not-related e = begins-so ∙ missing-on MiddleDiffers (as_related s.concl) _ (ap as_related (sym same-concl) ∙ e)

  module _ (r f g : ℕ) (rw' : r < length old.nodes) (fw : f < length old.nodes) (gw : g < length old.nodes)
      (e : as_related (tree_at old.nodes concl) ≡ Some (three_trees old.nodes (r, f, g))) where
    abbrev R : Nameless
    R = tree_at old.nodes r

    abbrev F : Nameless
    F = tree_at old.nodes f

    abbrev G : Nameless
    G = tree_at old.nodes g

    pub concl-is : s.concl ≡ related R F G
    concl-is = sym same-concl ∙ related-is (tree_at old.nodes concl) (R, F, G) e

    pub types : RelatedTypes old.signature R F G
    types = let b = line-boolean old i s h ei in related-types old.signature R F G (subst (λ t. IsOfType old.signature t bool) concl-is b.concl)

    abbrev pub relates-here : IsRelatedLine old r f g i
    relates-here = record {
      from = types.from;
      to = types.to;
      hyps = s.hyps;
      relation_within = rw';
      f_within = fw;
      g_within = gw;
      relation_typed = types.relation;
      f_typed = types.left;
      g_typed = types.right;
      holds = ei ∙ (λ k. Some (record { hyps = s.hyps; concl = concl-is k }));
    }

    pub image-typed : IsTyped old.signature old.nodes f
    image-typed = record { within = fw; typed = of-sound old.signature F types.from types.left }

    pub given-typed : IsTyped old.signature old.nodes g
    given-typed = record { within = gw; typed = of-sound old.signature G types.to types.right }

    abbrev premise-here : NamelessOutcome
    premise-here = closed_over_both old.signature here (variables_related here) (expanded here R F G s.hyps)

    abbrev law-here : NamelessOutcome
    law-here = named_at old.signature (statements old) law (paired relator_names (abstraction_types old.signature here F G)) (abstraction_terms here R F G)

    goes-on : outcome_whole old law pair i ≡ with_ok premise-here (λ p. with_ok law-here (λ q. detached q p))
    goes-on = begins-so ∙ found-on MiddleDiffers (as_related s.concl) (R, F, G) _ (ap as_related (sym same-concl) ∙ e)

    variables-typed : IsOfType old.signature (variables_related here) bool
    variables-typed =
        application-of old.signature (nameless_application (tree_at old.nodes pair.relation) (nameless_free pair.image pair.left)) (nameless_free pair.given pair.right) pair.right bool
        (application-of old.signature (tree_at old.nodes pair.relation) (nameless_free pair.image pair.left) pair.left (fun pair.right bool) hp.typed (variable-of old.signature pair.image pair.left hp.left))
        (variable-of old.signature pair.given pair.right hp.right)

    module _ (one : State) (c : Carries old one) (made : Sides) (sides : AreSides one made here R F G s.hyps) where
      pub premise-there : is_some (line_at (sequents one) made.line) ≡ true
      premise-there = ap is_some sides.line

      pub left-sound : type_fault one.signature pair.left ≡ None
      left-sound = let p = pair-kept old one pair c hp in p.left

      pub right-sound : type_fault one.signature pair.right ≡ None
      right-sound = let p = pair-kept old one pair c hp in p.right

      pub related-typed : IsTyped one.signature one.nodes made.related
      related-typed = record {
        within = sides.related.within;
        typed = of-sound one.signature (tree_at one.nodes made.related) bool
            (subst (λ t. IsOfType one.signature t bool) (sym sides.related.is) (of-kept old one (variables_related here) bool c variables-typed));
      }

      abbrev pub premise-now : NamelessOutcome
      premise-now = with_line (sequents one) made.line (closed_over_both one.signature (binding_of one.nodes pair) (tree_at one.nodes made.related))

      premise-same : premise-now ≡ premise-here
      premise-same =
          let k = carries-grows old one c in
          line-on (sequents one) made.line (expanded here R F G s.hyps) (closed_over_both one.signature (binding_of one.nodes pair) (tree_at one.nodes made.related)) sides.line
          ∙ (λ v. closed_over_both (k.stays.signature v) (binding-kept old one pair c hp.within v) (sides.related.is v) (expanded here R F G s.hyps))

      pub premise-fails : (next : State) (d : RuleFault) → Reaches next (Err d) premise-now → Reaches next (Err d) (outcome_whole old law pair i)
      premise-fails next d a = same-fails next d (with_ok premise-now (λ p. with_ok law-here (λ q. detached q p))) (outcome_whole old law pair i)
          (goes-on ∙ ap (λ o. with_ok o (λ p. with_ok law-here (λ q. detached q p))) (sym premise-same))
          (fails-first next d premise-now (λ p. with_ok law-here (λ q. detached q p)) a)

      module _ (two : State) (d : Carries one two) (names : List Chars) (types' : List TypeTree)
          (hn : names ≡ relator_names) (ht : types' ≡ abstraction_types old.signature here F G) where
        far : Carries old two
        far = λ first x. d first (c first x)

        pub count : length names ≡ length types'
        count = ap length hn ∙ sym (ap length ht)

        pub all-sound : types_fault two.signature (row types') ≡ None
        all-sound =
            let k = carries-grows old two far in
            let a = type-sound old.signature h.signature F types.from types.left in
            let b = type-sound old.signature h.signature G types.to types.right in
            let left : type_fault old.signature (nameless_type_of old.signature F) ≡ None = ap (λ o. type_fault old.signature (result_unwrap_or o bool)) types.left ∙ a in
            let right : type_fault old.signature (nameless_type_of old.signature G) ≡ None = ap (λ o. type_fault old.signature (result_unwrap_or o bool)) types.right ∙ b in
            (λ v. types_fault (k.stays.signature v) (row (ht v)))
            ∙ none-both (type_fault old.signature pair.left) _ hp.left (none-both (type_fault old.signature pair.right) _ hp.right
            (none-both (type_fault old.signature (nameless_type_of old.signature F)) _ left (none-both (type_fault old.signature (nameless_type_of old.signature G)) None right refl)))

        abbrev pub four-ids : List ℕ
        four-ids = pair.relation ∷ r ∷ made.image ∷ made.given ∷ []

        relation-stands : Stands two pair.relation (tree_at old.nodes pair.relation)
        relation-stands = stands-kept old two pair.relation (tree_at old.nodes pair.relation) far (record { within = hp.within; is = refl })

        R-stands : Stands two r R
        R-stands = stands-kept old two r R far (record { within = rw'; is = refl })

        image-stands : Stands two made.image (closed pair.image pair.left F)
        image-stands = stands-kept one two made.image (closed pair.image pair.left F) d sides.image

        given-stands : Stands two made.given (closed pair.given pair.right G)
        given-stands = stands-kept one two made.given (closed pair.given pair.right G) d sides.given

        stands-typed : (id : ℕ) (t : Nameless) (ty : TypeTree) → Stands two id t → IsOfType old.signature t ty → IsTyped two.signature two.nodes id
        stands-typed id t ty st e' = record {
          within = st.within;
          typed = of-sound two.signature (tree_at two.nodes id) ty
              (subst (λ (q : Nameless). IsOfType two.signature q ty) (sym st.is) (of-kept old two t ty far e'));
        }

        pub four-typed : All (IsTyped two.signature two.nodes) four-ids
        four-typed zero v l = stands-typed pair.relation (tree_at old.nodes pair.relation) (relation_type pair.left pair.right) relation-stands hp.typed
        four-typed (suc zero) v l = stands-typed r R (relation_type types.from types.to) R-stands types.relation
        four-typed (suc (suc zero)) v l = stands-typed made.image (closed pair.image pair.left F) (fun pair.left types.from) image-stands
            (closed-of old.signature pair.image pair.left F types.from hp.left types.left)
        four-typed (suc (suc (suc zero))) v l = stands-typed made.given (closed pair.given pair.right G) (fun pair.right types.to) given-stands
            (closed-of old.signature pair.given pair.right G types.to hp.right types.right)
        four-typed (suc (suc (suc (suc k)))) v l = absurd (omega (arith, l))

        abbrev pub law-now : NamelessOutcome
        law-now = named_at two.signature (statements two) law (paired names types') (trees two.nodes four-ids)

        law-same : law-now ≡ law-here
        law-same = let k = carries-grows old two far in λ v. named_at (k.stays.signature v) (k.stays.statements v) law (paired (hn v) (ht v))
            (relation-stands.is v ∷ R-stands.is v ∷ image-stands.is v ∷ given-stands.is v ∷ [])

        module _ (p : ℕ) (gp : IsGiven two p premise-now) where
          premise-then : outcome_whole old law pair i ≡ with_ok law-now (λ q. detached q gp.sequent)
          premise-then = goes-on ∙ ap (λ o. with_ok o (λ x. with_ok law-here (λ q. detached q x))) (sym premise-same ∙ gp.goes)
              ∙ ap (λ o. with_ok o (λ q. detached q gp.sequent)) (sym law-same)

          pub law-fails : (next : State) (b : RuleFault) → Reaches next (Err b) law-now → Reaches next (Err b) (outcome_whole old law pair i)
          law-fails next b a = same-fails next b (with_ok law-now (λ q. detached q gp.sequent)) (outcome_whole old law pair i) premise-then
              (fails-first next b law-now (λ q. detached q gp.sequent) a)

          pub law-detached : (three : State) (n : ℕ) → Carries two three → IsGiven three n law-now
              → nameless_mp_gives (sequents three) n p ≡ outcome_whole old law pair i
          law-detached three n b gl =
              lines-on (sequents three) n p gl.sequent gp.sequent detached gl.line (line-still two three p gp.sequent b gp.line)
              ∙ sym (premise-then ∙ ap (λ o. with_ok o (λ q. detached q gp.sequent)) gl.goes)

-- what was read
pub triple-read : (ns : List Node) (o : Option (ℕ × ℕ × ℕ)) (p : ℕ × ℕ × ℕ) (w : Option (Nameless × Nameless × Nameless)) → option_map (three_trees ns) o ≡ w → o ≡ Some p → w ≡ Some (three_trees ns (p.0, p.1, p.2))
triple-read ns o p w e d = sym e ∙ ap (option_map (three_trees ns)) d

pub triple-none : (ns : List Node) (o : Option (ℕ × ℕ × ℕ)) (w : Option (Nameless × Nameless × Nameless)) → option_map (three_trees ns) o ≡ w → o ≡ None → w ≡ None
triple-none ns o w e d = sym e ∙ ap (option_map (three_trees ns)) d

pub triple-within : (ns : List Node) (o : Option (ℕ × ℕ × ℕ)) (p : ℕ × ℕ × ℕ) → IfSome o (λ q. (q.0 < length ns) × (q.1 < length ns) × (q.2 < length ns)) → o ≡ Some p
    → (p.0 < length ns) × (p.1 < length ns) × (p.2 < length ns)
triple-within ns o p h e = subst (λ (r : Option (ℕ × ℕ × ℕ)). IfSome r (λ q. (q.0 < length ns) × (q.1 < length ns) × (q.2 < length ns))) e h
