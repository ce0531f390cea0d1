-- Lines of terms as functions applied to variables.
use Rattle.std.proofs.Common.{◌≡◌, ℕ, ◌<◌, ◌≤◌, List, [], ◌∷◌, length, is_ok, is_some, true, Option, Some, None, Ok, refl, sym, ◌∙◌, ap, subst, arith}
use Rattle.lt_definitions.specs.Types.{Chars, TypeTree, bool, fun}
use Rattle.lt_definitions.specs.Typing.{Signature, type_fault}
use Rattle.lt_definitions.specs.Rules.{line_at}
use Rattle.lt_definitions.proofs.TypingLemmas.{typed-some}
use Rattle.lt_nameless.specs.Nameless.{Nameless, nameless_free, nameless_application, nameless_abstraction, NamelessSequent}
use Rattle.lt_nameless.specs.NamelessRules.{nameless_typed, nameless_fault, nameless_beta, nameless_union, nameless_equation, nameless_eqmp_gives, abstracted, instance_at}
use Rattle.lt_nameless.proofs.NamelessClosings.{closed-opened}
use Rattle.lt_nameless.proofs.NamelessRuleLemmas.{eqmp-gives}
use Rattle.lt_nameless.proofs.SameForms.{same-refl}
use Rattle.lt_nameless.proofs.ClosedSteps.{typed-whole}
use Rattle.lt_store.specs.Trees.{tree_at}
use Rattle.lt_store.specs.Typed.{IsTyped}
use Rattle.lt_store.proofs.TreeLemmas.{tree_at-extends}
use Rattle.lt_kernel.specs.State.{State, sequents}
use Rattle.lt_kernel.specs.Growing.{Carries}
use Rattle.lt_kernel.specs.Reaching.{IsGiven}
use Rattle.lt_kernel.proofs.GrowingLemmas.{carries-grows}
use Rattle.lt_kernel.proofs.ReachingLemmas.{reached-line}
use Rattle.lt_programs.specs.Programs.{theorem}
use Rattle.lt_programs.specs.TypedTerms.{IsOfType}
use Rattle.lt_programs.proofs.TypedTermLemmas.{application-of, closed-of, of-sound, ok-same}
use Rattle.lt_derived.specs.Equations.{Equates, Stands, IsEquation, Meet, Apply}
use Rattle.lt_derived.proofs.EquationLemmas.{of-kept, equates-kept, stands-kept}
use Rattle.lt_derived.proofs.Repeated.{still-typed}
use Rattle.lt_derived.proofs.UnfoldingLemmas.{line-still}
use Rattle.lt_relating.specs.TypedRelations.{relation_type, related}
use Rattle.lt_relating.specs.RelatedSteps.{closed, at_variable}
use Rattle.lt_relating.specs.declared.expansion.Expansion.{Expansion}
use Rattle.lt_relating.specs.declared.variable_pair.VariablePair.{VariablePair}
use Rattle.lt_relating.specs.Pairs.{binding_of, IsPair}
use Rattle.lt_relating.specs.Expansions.{IsExpansion, IsRelatedLine, AreSides, Replaces}
use Rattle.lt_relating.proofs.RelatedLemmas.{variable-of}

-- ---- a function applied to a variable

module _ (sig : Signature) (x : Chars) (ty : TypeTree) (t : Nameless) (hty : type_fault sig ty ≡ None) (ht : nameless_fault sig t ≡ None) where
  at-variable-fine : nameless_fault sig (at_variable x ty t) ≡ None
  at-variable-fine =
      let u = typed-some (nameless_typed sig [] t) ht in
      of-sound sig (at_variable x ty t) u.0
      (application-of sig (closed x ty t) (nameless_free x ty) ty u.0 (closed-of sig x ty t u.0 hty u.1) (variable-of sig x ty hty))

  at-variable-opens : nameless_beta (at_variable x ty t) ≡ Some t
  at-variable-opens =
      let u = typed-some (nameless_typed sig [] t) ht in
      ap (λ (q : Nameless). Some q) (closed-opened 0 x ty t (typed-whole sig [] t u.0 u.1))

  pub expansion-fine : (at : Nameless) → at ≡ at_variable x ty t → nameless_fault sig at ≡ None
  expansion-fine at e = ap (nameless_fault sig) e ∙ at-variable-fine

  pub expansion-opens : (at : Nameless) → at ≡ at_variable x ty t → nameless_beta at ≡ Some t
  expansion-opens at e = ap nameless_beta e ∙ at-variable-opens

-- the terms that are made on the way
module _ (old one two three : State) (function variable applied : ℕ) (x : Chars) (ty : TypeTree) (t : Nameless)
    (hty : type_fault old.signature ty ≡ None) (ht : nameless_fault old.signature t ≡ None) (a : Carries old one) (b : Carries one two) (c : Carries two three)
    (hf : Stands one function (closed x ty t)) (hv : Stands two variable (nameless_free x ty))
    (aw : applied < length three.nodes) (ha : tree_at three.nodes applied ≡ nameless_application (tree_at two.nodes function) (tree_at two.nodes variable)) where
  far : Carries old three
  far = λ first k. c first (b first (a first k))

  function-there : Stands two function (closed x ty t)
  function-there = stands-kept one two function (closed x ty t) b hf

  applied-is : tree_at three.nodes applied ≡ at_variable x ty t
  applied-is = ha ∙ (λ i. nameless_application (function-there.is i) (hv.is i))

  pub applied-typed : IsTyped three.signature three.nodes applied
  applied-typed = let g = carries-grows old three far in record {
    within = aw;
    typed = ap (λ sig. nameless_fault sig (tree_at three.nodes applied)) g.stays.signature ∙ expansion-fine old.signature x ty t hty ht (tree_at three.nodes applied) applied-is;
  }

  pub applied-opens : nameless_beta (tree_at three.nodes applied) ≡ Some t
  applied-opens = expansion-opens old.signature x ty t hty ht (tree_at three.nodes applied) applied-is

  pub expansion-made : (new : State) (line : ℕ) → Carries three new → Equates new line (tree_at three.nodes applied) t
      → IsExpansion new (record { function = function; variable = variable; line = line }) x ty t
  expansion-made new line d h = record {
    function = stands-kept two new function (closed x ty t) (λ first k. d first (c first k)) function-there;
    variable = stands-kept two new variable (nameless_free x ty) (λ first k. d first (c first k)) hv;
    line = subst (λ (q : Nameless). Equates new line q t) applied-is h;
  }

-- ---- an equation of sides, from the right

pub relation-sound : (s : State) (r i j l : ℕ) → Replaces s r i j l → IsTyped s.signature s.nodes r
relation-sound s r i j l q = record { within = q.within; typed = of-sound s.signature (tree_at s.nodes r) (relation_type q.from q.to) q.typed }

module _ (s : State) (r i j l : ℕ) (q : Replaces s r i j l) where
  abbrev rel : Nameless
  rel = tree_at s.nodes r

  pub first-typed : IsOfType s.signature q.k q.from
  first-typed = q.first.left ∙ ap (λ (t : TypeTree). Ok t) (ok-same q.first.ty q.from (nameless_typed s.signature [] q.f) q.first.right q.f_typed)

  pub second-typed : IsOfType s.signature q.m q.to
  second-typed = q.second.left ∙ ap (λ (t : TypeTree). Ok t) (ok-same q.second.ty q.to (nameless_typed s.signature [] q.g) q.second.right q.g_typed)

  abbrev half : Nameless → Nameless
  half = nameless_application rel

  pub half-typed : IsOfType s.signature (half q.k) (fun q.to bool)
  half-typed = application-of s.signature rel q.k q.from (fun q.to bool) q.typed first-typed

  module _ (one : State) (c : Carries s one) (same : ℕ) (hs : Equates one same rel rel) where
    abbrev pub first-step : Apply one same i
    first-step = record {
      f = rel;
      g = rel;
      a = q.k;
      b = q.f;
      functions = hs;
      arguments = equates-kept s one i q.k q.f c q.first;
      typed = of-sound one.signature (half q.k) (fun q.to bool) (of-kept s one (half q.k) (fun q.to bool) c half-typed);
    }

    module _ (two : State) (d : Carries one two) (a : ℕ) (ha : Equates two a (half q.k) (half q.f)) where
      abbrev pub second-step : Apply two a j
      second-step =
          let far : Carries s two = λ first x. d first (c first x) in
          record {
            f = half q.k;
            g = half q.f;
            a = q.m;
            b = q.g;
            functions = ha;
            arguments = equates-kept s two j q.m q.g far q.second;
            typed = of-sound two.signature (related rel q.k q.m) bool (of-kept s two (related rel q.k q.m) bool far
                (application-of s.signature (half q.k) q.m q.to bool half-typed second-typed));
          }

  abbrev pub both-equation : (three : State) (b : ℕ) → Equates three b (related rel q.k q.m) (related rel q.f q.g) → IsEquation three b
  both-equation three b h = record { from = related rel q.k q.m; to = related rel q.f q.g; holds = h }

  module _ (four : State) (c : Carries s four) (back : ℕ) (hb : Equates four back (related rel q.f q.g) (related rel q.k q.m)) where
    replaced-is : nameless_eqmp_gives (sequents four) back l ≡ Ok (record { hyps = nameless_union [] q.hyps; concl = related rel q.k q.m })
    replaced-is = eqmp-gives (sequents four) back l (theorem (nameless_equation hb.ty (related rel q.f q.g) (related rel q.k q.m))) (record { hyps = q.hyps; concl = related rel q.f q.g })
        hb.line (line-still s four l (record { hyps = q.hyps; concl = related rel q.f q.g }) c q.holds)
        hb.ty (related rel q.f q.g) (related rel q.k q.m) refl (same-refl (related rel q.f q.g))

    pub replaced-sure : is_ok (nameless_eqmp_gives (sequents four) back l) ≡ true
    replaced-sure = ap is_ok replaced-is

    pub replaced-line : (new : State) (n : ℕ) → IsGiven new n (nameless_eqmp_gives (sequents four) back l)
        → line_at (sequents new) n ≡ Some (record { hyps = nameless_union [] q.hyps; concl = related rel q.k q.m })
    replaced-line new n a = reached-line new n (nameless_eqmp_gives (sequents four) back l) _ a replaced-is

-- ---- both sides

pub f-typed : (old : State) (s f g i : ℕ) → IsRelatedLine old s f g i → IsTyped old.signature old.nodes f
f-typed old s f g i q = record { within = q.f_within; typed = of-sound old.signature (tree_at old.nodes f) q.from q.f_typed }

pub g-typed : (old one : State) (s f g i : ℕ) → Carries old one → IsRelatedLine old s f g i → IsTyped one.signature one.nodes g
g-typed old one s f g i c q = still-typed old one g c (record { within = q.g_within; typed = of-sound old.signature (tree_at old.nodes g) q.to q.g_typed })

pub fault-kept : (old one : State) (ty : TypeTree) → Carries old one → type_fault old.signature ty ≡ None → type_fault one.signature ty ≡ None
fault-kept old one ty c h = let g = carries-grows old one c in ap (λ sig. type_fault sig ty) g.stays.signature ∙ h

pub id-kept : (old now : State) (id : ℕ) → Carries old now → id < length old.nodes → id < length now.nodes
id-kept old now id c h = let g = carries-grows old now c in let more = g.stays.nodes.grows in omega (arith, more, h)

module _ (old one two : State) (pair : VariablePair) (s f g i : ℕ) (hp : IsPair old pair) (q : IsRelatedLine old s f g i)
    (image given : Expansion) (a : Carries old one) (b : Carries one two)
    (hi : IsExpansion one image pair.image pair.left (tree_at old.nodes f)) (hg : IsExpansion two given pair.given pair.right (tree_at one.nodes g)) where
  abbrev R : Nameless
  R = tree_at old.nodes s

  abbrev F : Nameless
  F = tree_at old.nodes f

  abbrev G : Nameless
  G = tree_at old.nodes g

  pub to-two : Carries old two
  to-two = λ first k. b first (a first k)

  given-there : tree_at one.nodes g ≡ G
  given-there = let k = carries-grows old one a in tree_at-extends old.nodes one.nodes g k.stays.nodes q.g_within

  pub given-here : IsExpansion two given pair.given pair.right G
  given-here = subst (λ (t : Nameless). IsExpansion two given pair.given pair.right t) given-there hg

  pub relation-there : Stands two s R
  relation-there = stands-kept old two s R to-two (record { within = q.relation_within; is = refl })

  abbrev pub replaces : Replaces two s image.line given.line i
  replaces = record {
    from = q.from;
    to = q.to;
    f = F;
    g = G;
    k = at_variable pair.image pair.left F;
    m = at_variable pair.given pair.right G;
    hyps = q.hyps;
    within = relation-there.within;
    typed = of-kept old two (tree_at two.nodes s) (relation_type q.from q.to) to-two (subst (λ (t : Nameless). IsOfType old.signature t (relation_type q.from q.to)) (sym relation-there.is) q.relation_typed);
    first = equates-kept one two image.line (at_variable pair.image pair.left F) F b hi.line;
    second = given-here.line;
    f_typed = of-kept old two F q.from to-two q.f_typed;
    g_typed = of-kept old two G q.to to-two q.g_typed;
    holds = line-still old two i (record { hyps = q.hyps; concl = related R F G }) to-two q.holds
        ∙ ap (λ (t : Nameless). Some (record { hyps = q.hyps; concl = related t F G })) (sym relation-there.is);
  }

  image-variable : Stands two image.variable (nameless_free pair.image pair.left)
  image-variable = stands-kept one two image.variable (nameless_free pair.image pair.left) b hi.variable

  pub sides-made : (three new : State) (n p : ℕ) → Carries two three → Carries three new
      → line_at (sequents three) n ≡ Some (record { hyps = nameless_union [] q.hyps; concl = related (tree_at two.nodes s) (at_variable pair.image pair.left F) (at_variable pair.given pair.right G) })
      → Stands new p (related (tree_at three.nodes pair.relation) (tree_at three.nodes image.variable) (tree_at three.nodes given.variable))
      → AreSides new (record { related = p; image = image.function; given = given.function; line = n }) (binding_of old.nodes pair) R F G q.hyps
  sides-made three new n p c d hl st =
      let far : Carries two new = λ first k. d first (c first k) in
      let to-three : Carries old three = λ first k. c first (to-two first k) in
      let r = stands-kept old three pair.relation (tree_at old.nodes pair.relation) to-three (record { within = hp.within; is = refl }) in
      let x = stands-kept two three image.variable (nameless_free pair.image pair.left) c image-variable in
      let y = stands-kept two three given.variable (nameless_free pair.given pair.right) c given-here.variable in
      record {
        related = record { within = st.within; is = st.is ∙ (λ v. related (r.is v) (x.is v) (y.is v)) };
        image = stands-kept one new image.function (closed pair.image pair.left F) (λ first k. far first (b first k)) hi.function;
        given = stands-kept two new given.function (closed pair.given pair.right G) far given-here.function;
        line = line-still three new n _ d hl
            ∙ ap (λ (t : Nameless). Some (record { hyps = nameless_union [] q.hyps; concl = related t (at_variable pair.image pair.left F) (at_variable pair.given pair.right G) })) relation-there.is;
      }
