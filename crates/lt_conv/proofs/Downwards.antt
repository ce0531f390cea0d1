-- What a place is that is to be visited.
use Rattle.std.proofs.Common.{◌≡◌, ℕ, ◌≤◌, ◌*◌, ◌+◌, ◌-◌, List, [], ◌∷◌, true, false, is_some, Result, Ok, None, refl, sym, ◌∙◌, ap, subst, arith}
use Rattle.lt_definitions.specs.Types.{TypeTree}
use Rattle.lt_nameless.specs.Nameless.{Nameless, nameless_free, nameless_bound, nameless_loose, nameless_constant, nameless_application, nameless_abstraction}
use Rattle.lt_nameless.specs.NamelessRules.{nameless_beta}
use Rattle.lt_store.specs.Trees.{tree_at}
use Rattle.lt_kernel.specs.State.{State}
use Rattle.lt_formulas.specs.Shapes.{is_application}
use Rattle.lt_reductions.specs.Reducts.{nodes_over, reduct, is_abstraction, Around, at_function, at_argument, at_body, MayStand, weight}
use Rattle.lt_reductions.proofs.Placing.{stands-false, nodes-positive}
use Rattle.lt_conv.specs.declared.machine.Frame.{Frame}
use Rattle.lt_conv.specs.declared.machine.Frame.TheVariants.{Function, Argument, Body}
use Rattle.lt_conv.specs.declared.machine.ConvFault.{ConvFault}
use Rattle.lt_derived.specs.Equations.{IsEquation, Stands}
use Rattle.lt_conv.specs.Machines.{Spot, Levels, visit, Runs, IsRunning, IsAtRedex, IsAtApplication, IsAtAbstraction, IsHeadAbstraction, IsNoHead, Leads}

pub redex-form : (u : Nameless) → is_some (nameless_beta u) ≡ true → (ty : TypeTree) × (b : Nameless) × (a : Nameless) × (u ≡ nameless_application (nameless_abstraction ty b) a)
redex-form (nameless_application (nameless_abstraction ty b) a) e = (ty, b, a, refl)
redex-form (nameless_application (nameless_free x v) a) e = absurd (cc e)
redex-form (nameless_application (nameless_bound i) a) e = absurd (cc e)
redex-form (nameless_application (nameless_loose x) a) e = absurd (cc e)
redex-form (nameless_application (nameless_constant c ts) a) e = absurd (cc e)
redex-form (nameless_application (nameless_application f c) a) e = absurd (cc e)
redex-form (nameless_free x v) e = absurd (cc e)
redex-form (nameless_bound i) e = absurd (cc e)
redex-form (nameless_loose x) e = absurd (cc e)
redex-form (nameless_constant c ts) e = absurd (cc e)
redex-form (nameless_abstraction v b) e = absurd (cc e)

pub application-form : (u : Nameless) → is_some (nameless_beta u) ≡ false → is_application u ≡ true → (f : Nameless) × (a : Nameless) × (u ≡ nameless_application f a) × (is_abstraction f ≡ false)
application-form (nameless_application (nameless_abstraction ty b) a) e d = absurd (cc e)
application-form (nameless_application (nameless_free x v) a) e d = (nameless_free x v, a, refl, refl)
application-form (nameless_application (nameless_bound i) a) e d = (nameless_bound i, a, refl, refl)
application-form (nameless_application (nameless_loose x) a) e d = (nameless_loose x, a, refl, refl)
application-form (nameless_application (nameless_constant c ts) a) e d = (nameless_constant c ts, a, refl, refl)
application-form (nameless_application (nameless_application f c) a) e d = (nameless_application f c, a, refl, refl)
application-form (nameless_free x v) e d = absurd (cc d)
application-form (nameless_bound i) e d = absurd (cc d)
application-form (nameless_loose x) e d = absurd (cc d)
application-form (nameless_constant c ts) e d = absurd (cc d)
application-form (nameless_abstraction v b) e d = absurd (cc d)

pub abstraction-form : (u : Nameless) → is_abstraction u ≡ true → (ty : TypeTree) × (b : Nameless) × (u ≡ nameless_abstraction ty b)
abstraction-form (nameless_abstraction ty b) e = (ty, b, refl)
abstraction-form (nameless_free x v) e = absurd (cc e)
abstraction-form (nameless_bound i) e = absurd (cc e)
abstraction-form (nameless_loose x) e = absurd (cc e)
abstraction-form (nameless_constant c ts) e = absurd (cc e)
abstraction-form (nameless_application f c) e = absurd (cc e)

pub leaf-form : (u : Nameless) → is_application u ≡ false → is_abstraction u ≡ false → reduct u ≡ None
leaf-form (nameless_free x v) e d = refl
leaf-form (nameless_bound i) e d = refl
leaf-form (nameless_loose x) e d = refl
leaf-form (nameless_constant c ts) e d = refl
leaf-form (nameless_application f c) e d = absurd (cc e)
leaf-form (nameless_abstraction v b) e d = absurd (cc d)

-- what stands around, where no head is asked for
pub no-head : (s : State) (fs : List Frame) (around : List Around) (start t : Nameless) → IsNoHead fs → Levels s fs around start t → MayStand around true
no-head s [] [] start t n h = tt
no-head s [] (p ∷ ps) start t n h = absurd h
no-head s (Function e ∷ fs) ps start t n h = absurd n
no-head s (Argument e k ∷ fs) (at_argument g ∷ ps) start t n h = tt
no-head s (Argument e k ∷ fs) [] start t n h = absurd h
no-head s (Argument e k ∷ fs) (at_function a ∷ ps) start t n h = absurd h
no-head s (Argument e k ∷ fs) (at_body y u ∷ ps) start t n h = absurd h
no-head s (Body e x ty ∷ fs) (at_body y u ∷ ps) start t n h = tt
no-head s (Body e x ty ∷ fs) [] start t n h = absurd h
no-head s (Body e x ty ∷ fs) (at_function a ∷ ps) start t n h = absurd h
no-head s (Body e x ty ∷ fs) (at_argument f ∷ ps) start t n h = absurd h

module _ (s : State) (m : Spot) (q : IsRunning s m) where
  abbrev pub running-equation : IsEquation s m.line
  running-equation = record { from = q.runs.start; to = q.runs.focus; holds = q.runs.here }

  room-is : m.down ≡ true → weight m.floor q.runs.around + 3 * nodes_over m.floor q.runs.focus ≤ m.room
  room-is down = subst (λ b. weight m.floor q.runs.around + visit m.floor b q.runs.focus ≤ m.room) down q.room.0

  module _ (id : ℕ) (st : Stands s id q.runs.focus) (down : m.down ≡ true) where
    abbrev pub at-redex : is_some (nameless_beta (tree_at s.nodes id)) ≡ true → IsAtRedex s m
    at-redex e = let f = redex-form q.runs.focus (ap (λ u. is_some (nameless_beta u)) (sym st.is) ∙ e) in
        record { whole = q.whole; t = q.t; runs = q.runs; down = down; ty = f.0; b = f.1; a = f.2; redex = f.3 }

    abbrev pub at-application : is_some (nameless_beta (tree_at s.nodes id)) ≡ false → is_application (tree_at s.nodes id) ≡ true → IsAtApplication s m
    at-application e d = let f = application-form q.runs.focus (ap (λ u. is_some (nameless_beta u)) (sym st.is) ∙ e) (ap is_application (sym st.is) ∙ d) in
        record { whole = q.whole; t = q.t; runs = q.runs; room = q.room; down = down; f = f.0; a = f.1; is = f.2; apart = f.3 }

    -- the frames as they are read again
    abbrev pub again : (fs : List Frame) → m.frames ≡ fs → Runs q.whole q.t s (record m { frames = fs })
    again fs e = record {
      start = q.runs.start;
      focus = q.runs.focus;
      around = q.runs.around;
      left = q.runs.left;
      here = q.runs.here;
      levels = subst (λ (gs : List Frame). Levels s gs q.runs.around q.runs.start q.t) e q.runs.levels;
      way = q.runs.way;
      done = q.runs.done;
      counted = q.runs.counted;
      small = q.runs.small;
      few = q.runs.few;
      rest = q.runs.rest;
    }

    abbrev pub at-head : is_abstraction (tree_at s.nodes id) ≡ true → (e : ℕ) (fs : List Frame) → m.frames ≡ Function e ∷ fs → IsHeadAbstraction s (record m { frames = fs }) e
    at-head d e fs is = let f = abstraction-form q.runs.focus (ap is_abstraction (sym st.is) ∙ d) in
        record { whole = q.whole; t = q.t; runs = again (Function e ∷ fs) is; down = down; ty = f.0; b = f.1; is = f.2 }

    abbrev pub at-abstraction : is_abstraction (tree_at s.nodes id) ≡ true → (fs : List Frame) → fs ≡ m.frames → IsNoHead m.frames → IsAtAbstraction s (record m { frames = fs })
    at-abstraction d fs is n = let f = abstraction-form q.runs.focus (ap is_abstraction (sym st.is) ∙ d) in
        record { whole = q.whole; t = q.t; runs = again fs (sym is); room = q.room; down = down; ty = f.0; b = f.1; is = f.2; stands = no-head s m.frames q.runs.around q.runs.start q.t n q.runs.levels }

    pub at-leaf : is_application (tree_at s.nodes id) ≡ false → is_abstraction (tree_at s.nodes id) ≡ false → Leads q.whole q.t s (record m { down = false; room = m.room - 1 }) (Ok tt)
    at-leaf e d =
        let apart : is_abstraction q.runs.focus ≡ false = ap is_abstraction (sym st.is) ∙ d in
        let r = room-is down in
        let p = nodes-positive m.floor q.runs.focus in
        let most = q.room.1 in (
          record {
            start = q.runs.start;
            focus = q.runs.focus;
            around = q.runs.around;
            left = q.runs.left;
            here = q.runs.here;
            levels = q.runs.levels;
            way = q.runs.way;
            done = (leaf-form q.runs.focus (ap is_application (sym st.is) ∙ e) apart, subst (MayStand q.runs.around) (sym apart) (stands-false q.runs.around));
            counted = q.runs.counted;
            small = q.runs.small;
            few = q.runs.few;
            rest = q.runs.rest;
          },
          (omega (arith, r, p), omega (arith, most)),
        )

  pub leaf-room : m.down ≡ true → 1 ≤ m.room
  leaf-room down = let r = room-is down in let p = nodes-positive m.floor q.runs.focus in omega (arith, r, p)

pub same-leads : (whole other : Result Nameless ℕ) (t u : Nameless) (s : State) (m : Spot) (r : Result (Unit {0}) ConvFault) → whole ≡ other → t ≡ u → Leads whole t s m r → Leads other u s m r
same-leads whole other t u s m r e d h = subst (λ (w : Result Nameless ℕ). Leads w u s m r) e (subst (λ (v : Nameless). Leads whole v s m r) d h)
