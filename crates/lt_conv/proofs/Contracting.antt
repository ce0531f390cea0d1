-- One step of a machine.
use Rattle.std.proofs.Common.{◌≡◌, ℕ, zero, suc, ◌+◌, ◌-◌, ◌*◌, ◌<◌, ◌≤◌, List, [], ◌∷◌, true, nat_lt, Ok, Err, Option, Some, None, refl, sym, ◌∙◌, ap, subst, arith}
use Rattle.std.proofs.lemmas.Option.{none-some}
use Rattle.std.proofs.lemmas.Bool.Decides.{nat_tests}
use Rattle.lt_nameless.specs.Nameless.{Nameless, nameless_application, nameless_abstraction}
use Rattle.lt_nameless.specs.NamelessRules.{instance_at}
use Rattle.lt_nameless.proofs.ClosedSteps.{typed-whole}
use Rattle.lt_kernel.specs.State.{State}
use Rattle.lt_kernel.specs.Growing.{Carries}
use Rattle.lt_reductions.specs.Reducts.{nodes_over, reduct, normal_from, Around, at_function, at_argument, at_body, plug, weight}
use Rattle.lt_reductions.proofs.Putting.{put-instance}
use Rattle.lt_reductions.proofs.Placing.{plug-step, plug-nodes, plug-weight, plug-least, stands-false, goes-on, is-last, is-large}
use Rattle.lt_programs.proofs.TypedTermLemmas.{application-parts, body-of}
use Rattle.lt_conv.specs.declared.machine.Frame.{Frame}
use Rattle.lt_conv.specs.declared.machine.Frame.TheVariants.{Function, Argument, Body}
use Rattle.lt_derived.specs.Equations.{Equates, IsEquation}
use Rattle.lt_conv.specs.Conversions.{IsRedexAt, Counts}
use Rattle.lt_conv.specs.Machines.{Spot, Levels, visit, IsDone, IsAtRedex, Leads}
use Rattle.lt_derived.proofs.EquationLemmas.{equates-kept}

pub levels-kept : (s now : State) (fs : List Frame) (ps : List Around) (start t : Nameless) → Carries s now → Levels s fs ps start t → Levels now fs ps start t
levels-kept s now [] [] start t g h = h
levels-kept s now (Function e ∷ fs) (at_function a ∷ ps) start t g h = (h.0, equates-kept s now e h.0 (nameless_application start a) g h.1, levels-kept s now fs ps h.0 t g h.2)
levels-kept s now (Argument e k ∷ fs) (at_argument f ∷ ps) start t g h =
    (h.0, h.1, equates-kept s now e h.0 (nameless_application h.1 start) g h.2, equates-kept s now k h.1 f g h.3, levels-kept s now fs ps h.0 t g h.4)
levels-kept s now (Body e x ty ∷ fs) (at_body y u ∷ ps) start t g h =
    (h.0, h.1, h.2, h.3, equates-kept s now e h.0 (nameless_abstraction ty h.1) g h.4, h.5, h.6, levels-kept s now fs ps h.0 t g h.7)
levels-kept s now [] (p ∷ ps) start t g h = absurd h
levels-kept s now (Function e ∷ fs) [] start t g h = absurd h
levels-kept s now (Function e ∷ fs) (at_argument f ∷ ps) start t g h = absurd h
levels-kept s now (Function e ∷ fs) (at_body y u ∷ ps) start t g h = absurd h
levels-kept s now (Argument e k ∷ fs) [] start t g h = absurd h
levels-kept s now (Argument e k ∷ fs) (at_function a ∷ ps) start t g h = absurd h
levels-kept s now (Argument e k ∷ fs) (at_body y u ∷ ps) start t g h = absurd h
levels-kept s now (Body e x ty ∷ fs) [] start t g h = absurd h
levels-kept s now (Body e x ty ∷ fs) (at_function a ∷ ps) start t g h = absurd h
levels-kept s now (Body e x ty ∷ fs) (at_argument f ∷ ps) start t g h = absurd h

one-more : (left k : ℕ) → left + k ≡ 10000 → (k ≡ 10000 → ⊥) → (l : ℕ) × (left ≡ suc l)
one-more zero k e n = absurd (n (omega (arith, e)))
one-more (suc l) k e n = (l, refl)

none-left : (left k : ℕ) → left + k ≡ 10000 → k ≡ 10000 → left ≡ 0
none-left left k e h = omega (arith, e, h)

pub counts-not : (most n : ℕ) (o : Option ℕ) → o ≡ None → Counts most n o → n ≤ most → ⊥
counts-not most n None e h k = omega (arith, h, k)
counts-not most n (Some i) e h k = none-some i (sym e)

pub counts-is : (most n k : ℕ) (o : Option ℕ) → o ≡ Some k → Counts most n o → (k ≡ n) × (k ≤ most)
counts-is most n k o e h = subst (Counts most n) e h

pub counts-more : (most n : ℕ) (o : Option ℕ) → o ≡ None → Counts most n o → most < n
counts-more most n o e h = subst (Counts most n) e h

module _ (s : State) (m : Spot) (q : IsAtRedex s m) where
  abbrev pub redex : Nameless
  redex = nameless_application (nameless_abstraction q.ty q.b) q.a

  abbrev pub opened : Nameless
  opened = instance_at 0 q.a q.b

  pub here : Equates s m.line q.runs.start redex
  here = subst (Equates s m.line q.runs.start) q.redex q.runs.here

  abbrev pub redex-at : IsRedexAt s m.line
  redex-at = record { from = q.runs.start; ty = q.ty; b = q.b; a = q.a; holds = here }

  abbrev pub as-equation : IsEquation s m.line
  as-equation = record { from = q.runs.start; to = redex; holds = here }

  abbrev pub opened-equation : (now : State) (n : ℕ) → Equates now n q.runs.start opened → IsEquation now n
  opened-equation now n h = record { from = q.runs.start; to = opened; holds = h }

  step-is : reduct redex ≡ Some opened
  step-is =
      let p = application-parts s.signature (nameless_abstraction q.ty q.b) q.a here.ty here.right in
      let k = body-of s.signature q.ty q.b p.0 here.ty p.1 in
      ap (λ (u : Nameless). Some u) (put-instance 0 q.a q.b (typed-whole s.signature [] q.a p.0 p.2) (typed-whole s.signature (q.ty ∷ []) q.b here.ty k.2))

  stepped : reduct (plug q.runs.around redex) ≡ Some (plug q.runs.around opened)
  stepped = plug-step m.floor q.runs.around redex opened q.runs.way (stands-false q.runs.around) step-is

  rest : normal_from (nodes_over m.floor) q.runs.left 65536 m.steps (plug q.runs.around redex) ≡ q.whole
  rest = ap (λ u. normal_from (nodes_over m.floor) q.runs.left 65536 m.steps (plug q.runs.around u)) (sym q.redex) ∙ q.runs.rest

  size-is : m.size ≡ nodes_over m.floor (plug q.runs.around redex)
  size-is = q.runs.counted ∙ ap (λ u. nodes_over m.floor (plug q.runs.around u)) q.redex

  small : nodes_over m.floor (plug q.runs.around redex) ≤ 65536
  small = let h = q.runs.small in let k = size-is in omega (arith, h, k)

  pub at-limit : m.steps ≡ 10000 → q.whole ≡ Err 10000
  at-limit e =
      sym rest ∙ ap (λ l. normal_from (nodes_over m.floor) l 65536 m.steps (plug q.runs.around redex)) (none-left q.runs.left m.steps q.runs.few e)
      ∙ is-last (nodes_over m.floor) 65536 m.steps (plug q.runs.around redex) (plug q.runs.around opened) stepped ∙ ap (λ (k : ℕ). Err k) e

  pub within : nodes_over m.floor redex ≤ m.size
  within = let h = plug-least m.floor q.runs.around redex q.runs.way in let k = size-is in omega (arith, h, k)

  -- the number of nodes_over m.floor behind the step
  pub grown : (before behind : ℕ) → before ≡ nodes_over m.floor redex → behind ≡ nodes_over m.floor opened → (m.size - before) + behind ≡ nodes_over m.floor (plug q.runs.around opened)
  grown before behind e d = let h = plug-nodes m.floor q.runs.around redex opened q.runs.way in let k = size-is in let w = within in omega (arith, h, k, w, e, d)

  module _ (n : m.steps ≡ 10000 → ⊥) where
    more : (l : ℕ) × (q.runs.left ≡ suc l)
    more = one-more q.runs.left m.steps q.runs.few n

    on : normal_from (nodes_over m.floor) more.0 65536 (suc m.steps) (plug q.runs.around opened) ≡ q.whole
    on = sym (goes-on (nodes_over m.floor) more.0 65536 m.steps (plug q.runs.around redex) (plug q.runs.around opened) small stepped)
        ∙ ap (λ l. normal_from (nodes_over m.floor) l 65536 m.steps (plug q.runs.around redex)) (sym more.1) ∙ rest

    pub too-large : (before : ℕ) → before ≡ nodes_over m.floor redex → 65536 - (m.size - before) < nodes_over m.floor opened → q.whole ≡ Err (m.steps + 1)
    too-large before e h =
        let k = grown before (nodes_over m.floor opened) e refl in
        let r = q.runs.small in
        let large : nat_lt 65536 (nodes_over m.floor (plug q.runs.around opened)) ≡ true = less 65536 (nodes_over m.floor (plug q.runs.around opened)) (omega (arith, k, h, r)) in
        sym on ∙ is-large (nodes_over m.floor) more.0 65536 (suc m.steps) (plug q.runs.around opened) large ∙ ap (λ (i : ℕ). Err i) (next m.steps)
      where
        less : (a b : ℕ) → a < b → nat_lt a b ≡ true
        less a b h = grind (arith, nat_tests)

        next : (k : ℕ) → suc k ≡ k + 1
        next k = omega arith

    pub contracted : (now : State) (line before behind : ℕ) → Carries s now → before ≡ nodes_over m.floor redex → behind ≡ nodes_over m.floor opened → behind ≤ 65536 - (m.size - before) → Equates now line q.runs.start opened
        → Leads q.whole q.t now (record { frames = m.frames; line = line; down = m.down; floor = m.floor; steps = m.steps + 1; size = (m.size - before) + behind; room = 3 * ((m.size - before) + behind) }) (Ok tt)
    contracted now line before behind c e d h k =
        let g = grown before behind e d in
        let r = q.runs.small in
        let w = plug-weight m.floor q.runs.around opened q.runs.way in
        let sum : more.0 + (m.steps + 1) ≡ 10000 = (let a = q.runs.few in let b = more.1 in omega (arith, a, b)) in (
          record {
            start = q.runs.start;
            focus = opened;
            around = q.runs.around;
            left = more.0;
            here = k;
            levels = levels-kept s now (m.frames) q.runs.around q.runs.start q.t c q.runs.levels;
            way = q.runs.way;
            done = subst (λ b. IsDone b q.runs.around opened) (sym q.down) tt;
            counted = g;
            small = omega (arith, h, r);
            few = sum;
            rest = ap (λ i. normal_from (nodes_over m.floor) more.0 65536 i (plug q.runs.around opened)) (next m.steps) ∙ on;
          },
          (subst (λ b. weight m.floor q.runs.around + visit m.floor b opened ≤ 3 * ((m.size - before) + behind)) (sym q.down) (omega (arith, g, w)), omega (arith, h, r)),
        )
      where
        next : (k : ℕ) → k + 1 ≡ suc k
        next k = omega arith
