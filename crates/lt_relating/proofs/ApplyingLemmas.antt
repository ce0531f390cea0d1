-- Lines of functions that are related, at arguments that are.
use Rattle.std.proofs.Common.{◌≡◌, ℕ, ◌<◌, List, [], ◌∷◌, length, is_some, true, IfSome, Option, Some, None, Ok, Err, refl, sym, ◌∙◌, ap, subst}
use Rattle.std.specs.Option.{option_map}
use Rattle.std.specs.List.{All}
use Rattle.lt_definitions.specs.Types.{Chars, TypeTree, bool, row}
use Rattle.lt_definitions.specs.Typing.{with_ok, types_fault}
use Rattle.lt_definitions.specs.Rules.{line_at, with_line, with_lines, with_found}
use Rattle.lt_definitions.specs.declared.reason.Reason.TheVariants.{MissingLine, MiddleDiffers}
use Rattle.lt_definitions.proofs.RuleLemmas.{found-on, missing-on, line-on, lines-on}
use Rattle.lt_nameless.specs.Nameless.{Nameless, NamelessSequent}
use Rattle.lt_nameless.specs.NamelessRules.{NamelessOutcome, detached, IsBooleanNamelessSequent}
use Rattle.lt_store.specs.declared.node.Node.{Node}
use Rattle.lt_store.specs.Trees.{tree_at, trees, AllBelow}
use Rattle.lt_store.specs.Typed.{IsTyped}
use Rattle.lt_kernel.specs.declared.rule_fault.RuleFault.{RuleFault}
use Rattle.lt_kernel.specs.State.{State, sequents, statements}
use Rattle.lt_kernel.specs.Growing.{Carries, IsSound}
use Rattle.lt_kernel.specs.Reaching.{IsGiven, Reaches}
use Rattle.lt_programs.specs.Programs.{named_at, paired, detached_by}
use Rattle.lt_derived.proofs.ConnectiveSteps.{concl-here}
use Rattle.lt_derived.proofs.UnfoldingLemmas.{line-boolean, line-still}
use Rattle.lt_relating.specs.RelatorLaws.{relator_names}
use Rattle.lt_relating.specs.RelatedSteps.{as_applied, applied_by}
use Rattle.lt_relating.proofs.OutcomeSteps.{fails-first, same-fails}
use Rattle.lt_relating.proofs.RelatedForms.{Applied, applied-are, all-typed, applied-fine, applied-types}

module _ (old : State) (h : IsSound old) (law : Chars) (i j : ℕ) (s u : NamelessSequent)
    (ei : line_at (sequents old) i ≡ Some s) (ej : line_at (sequents old) j ≡ Some u) (first second : ℕ)
    (fw : first < length old.nodes) (sw : second < length old.nodes)
    (fs : option_map (λ q. q.concl) (line_at (sequents old) i) ≡ Some (tree_at old.nodes first))
    (ss : option_map (λ q. q.concl) (line_at (sequents old) j) ≡ Some (tree_at old.nodes second)) where
  abbrev pub whole : NamelessOutcome
  whole = with_lines (sequents old) i j (applied_by old.signature (statements old) law)

  begins-so : whole ≡ applied_by old.signature (statements old) law s u
  begins-so = lines-on (sequents old) i j s u (applied_by old.signature (statements old) law) ei ej

  same-parts : as_applied (tree_at old.nodes first) (tree_at old.nodes second) ≡ as_applied s.concl u.concl
  same-parts = λ k. as_applied (concl-here old old h (λ a b. b) i s ei first fw fs k) (concl-here old old h (λ a b. b) j u ej second sw ss k)

  pub not-applied : as_applied (tree_at old.nodes first) (tree_at old.nodes second) ≡ None → whole ≡ Err MiddleDiffers
  not-applied e = begins-so ∙ missing-on MiddleDiffers (as_applied s.concl u.concl) _ (sym same-parts ∙ e)

  module _ (ts : List TypeTree) (ids : List ℕ) (below : AllBelow (length old.nodes) ids)
      (e : as_applied (tree_at old.nodes first) (tree_at old.nodes second) ≡ Some (ts, trees old.nodes ids)) (names : List Chars) (hn : names ≡ relator_names) where
    abbrev here : Applied s.concl u.concl ts (trees old.nodes ids)
    here = applied-are s.concl u.concl ts (trees old.nodes ids) (sym same-parts ∙ e)

    pub as-many-names : length names ≡ length ts
    as-many-names = ap length hn ∙ sym here.four

    pub types-sound : types_fault old.signature (row ts) ≡ None
    types-sound =
        let p = line-boolean old i s h ei in let q = line-boolean old j u h ej in
        applied-types old.signature s.concl u.concl ts (trees old.nodes ids) here p.concl q.concl

    pub terms-typed : All (IsTyped old.signature old.nodes) ids
    terms-typed =
        let p = line-boolean old i s h ei in let q = line-boolean old j u h ej in
        all-typed old.signature old.nodes ids below (applied-fine old.signature s.concl u.concl ts (trees old.nodes ids) here p.concl q.concl)

    abbrev pub instance-here : NamelessOutcome
    instance-here = named_at old.signature (statements old) law (paired names ts) (trees old.nodes ids)

    goes-on : whole ≡ with_ok instance-here (λ q. with_ok (detached q s) (λ v. detached v u))
    goes-on = begins-so ∙ found-on MiddleDiffers (as_applied s.concl u.concl) (ts, trees old.nodes ids) _ (sym same-parts ∙ e)
        ∙ ap (λ ns. with_ok (named_at old.signature (statements old) law (paired ns ts) (trees old.nodes ids)) (λ q. with_ok (detached q s) (λ v. detached v u))) (sym hn)

    pub instance-fails : (next : State) (f : RuleFault) → Reaches next (Err f) instance-here → Reaches next (Err f) whole
    instance-fails next f a = same-fails next f (with_ok instance-here (λ q. with_ok (detached q s) (λ v. detached v u))) whole goes-on
        (fails-first next f instance-here (λ q. with_ok (detached q s) (λ v. detached v u)) a)

    module _ (mid : State) (c : Carries old mid) where
      none-behind : (o : NamelessOutcome) → with_ok o (detached_by (sequents mid) []) ≡ o
      none-behind (Ok q) = refl
      none-behind (Err r) = refl

      second-behind : (o : NamelessOutcome) → with_ok o (detached_by (sequents mid) (j ∷ [])) ≡ with_ok o (λ v. detached v u)
      second-behind (Ok v) =
          ap (λ p. with_ok p (detached_by (sequents mid) [])) (line-on (sequents mid) j u (λ w. detached v w) (line-still old mid j u c ej))
          ∙ none-behind (detached v u)
      second-behind (Err r) = refl

      pub applied-goes : (n : ℕ) → IsGiven mid n instance-here → with_line (sequents mid) n (detached_by (sequents mid) (i ∷ j ∷ [])) ≡ whole
      applied-goes n g =
          let q = g.sequent in
          line-on (sequents mid) n q (detached_by (sequents mid) (i ∷ j ∷ [])) g.line
          ∙ ap (λ o. with_ok o (detached_by (sequents mid) (j ∷ []))) (line-on (sequents mid) i s (λ v. detached q v) (line-still old mid i s c ei))
          ∙ second-behind (detached q s)
          ∙ sym (goes-on ∙ ap (λ o. with_ok o (λ p. with_ok (detached p s) (λ v. detached v u))) g.goes)

-- what was read, as slices
pub parts-as-slices : (ns : List Node) (o : Option (List TypeTree × List ℕ)) (p : List TypeTree × List ℕ) (read : Option (List TypeTree × List Nameless)) (ts : List TypeTree) (ids : List ℕ)
    → option_map (λ (q : List TypeTree × List ℕ). (q.0, trees ns q.1)) o ≡ read → o ≡ Some p → ts ≡ p.0 → ids ≡ p.1 → read ≡ Some (ts, trees ns ids)
parts-as-slices ns o p read ts ids e d a b =
    sym e ∙ ap (option_map (λ (q : List TypeTree × List ℕ). (q.0, trees ns q.1))) d ∙ (λ i. Some (sym a i, trees ns (sym b i)))

pub no-parts : (ns : List Node) (o : Option (List TypeTree × List ℕ)) (read : Option (List TypeTree × List Nameless))
    → option_map (λ (q : List TypeTree × List ℕ). (q.0, trees ns q.1)) o ≡ read → o ≡ None → read ≡ None
no-parts ns o read e d = sym e ∙ ap (option_map (λ (q : List TypeTree × List ℕ). (q.0, trees ns q.1))) d

pub within-some : (ns : List Node) (o : Option (List TypeTree × List ℕ)) (p : List TypeTree × List ℕ) → IfSome o (λ q. AllBelow (length ns) q.1) → o ≡ Some p → AllBelow (length ns) p.1
within-some ns o p h e = subst (λ (r : Option (List TypeTree × List ℕ)). IfSome r (λ q. AllBelow (length ns) q.1)) e h
