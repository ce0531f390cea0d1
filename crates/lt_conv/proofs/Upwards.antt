-- From a place that is normal to what is around it.
use Rattle.std.proofs.Common.{◌≡◌, ℕ, ◌+◌, ◌≤◌, List, [], ◌∷◌, Bool, true, false, Result, Ok, Err, OnOk, refl, sym, ◌∙◌, ap, subst, arith}
use Rattle.lt_definitions.specs.Types.{Chars, TypeTree}
use Rattle.lt_nameless.specs.Nameless.{Nameless, nameless_application, nameless_abstraction}
use Rattle.lt_kernel.specs.State.{State}
use Rattle.lt_reductions.specs.Reducts.{nodes_over, normal_from, Around, at_function, at_argument, at_body, plug, IsWay}
use Rattle.lt_reductions.proofs.Placing.{is-normal}
use Rattle.lt_conv.specs.declared.machine.Frame.{Frame}
use Rattle.lt_conv.specs.declared.machine.Frame.TheVariants.{Function, Argument, Body}
use Rattle.lt_conv.specs.declared.machine.ConvFault.{ConvFault}
use Rattle.lt_conv.specs.declared.machine.ConvFault.TheVariants.{NormLimit, Memory}
use Rattle.lt_kernel.specs.Growing.{Carries}
use Rattle.lt_derived.specs.Equations.{Equates}
use Rattle.lt_conv.specs.Conversions.{IsApplied, Joins}
use Rattle.lt_conv.specs.Machines.{Spot, Levels, IsDone, Runs, HasRoom, IsRunning, IsBehindHead, IsBehindArgument, IsBehindBody, IsHeadAbstraction, IsRedexOf, IsEnded, IsNearer, IsNearerOrEnded, gone, Goes, Leads, with_frame}
use Rattle.lt_derived.proofs.EquationLemmas.{equates-kept}
use Rattle.lt_conv.proofs.Contracting.{levels-kept}

-- a frame that was taken off, seen from the inside
module _ (s : State) (m : Spot) (q : IsRunning s m) (fs : List Frame) where
  pub taken-off : (f : Frame) → m.frames ≡ f ∷ fs → (r : Runs q.whole q.t s (with_frame (record m { frames = fs }) f)) × HasRoom r
  taken-off f e = subst (λ (gs : List Frame). (r : Runs q.whole q.t s (record m { frames = gs })) × HasRoom r) e (q.runs, q.room)

  abbrev pub off-head : (e : ℕ) → m.down ≡ false → m.frames ≡ Function e ∷ fs → IsBehindHead s (record m { frames = fs }) e
  off-head e up is = record { whole = q.whole; t = q.t; runs = (taken-off (Function e) is).0; room = (taken-off (Function e) is).1; up = up }

  abbrev pub off-argument : (e k : ℕ) → m.down ≡ false → m.frames ≡ Argument e k ∷ fs → IsBehindArgument s (record m { frames = fs }) e k
  off-argument e k up is = record { whole = q.whole; t = q.t; runs = (taken-off (Argument e k) is).0; room = (taken-off (Argument e k) is).1; up = up }

  abbrev pub off-body : (e : ℕ) (x : Chars) (ty : TypeTree) → m.down ≡ false → m.frames ≡ Body e x ty ∷ fs → IsBehindBody s (record m { frames = fs }) e x ty
  off-body e x ty up is = record { whole = q.whole; t = q.t; runs = (taken-off (Body e x ty) is).0; room = (taken-off (Body e x ty) is).1; up = up }

-- no frame is left: the normal form
module _ (s : State) (m : Spot) (whole : Result Nameless ℕ) (t : Nameless) where
  ended-at : (around : List Around) (start focus : Nameless) (left : ℕ) → Levels s [] around start t → Equates s m.line start focus → IsDone false around focus → m.size ≡ nodes_over m.floor (plug around focus)
      → m.size ≤ 65536 → normal_from (nodes_over m.floor) left 65536 m.steps (plug around focus) ≡ whole → IsEnded whole t s m
  ended-at [] start focus left h here done counted small rest = record {
    normal = focus;
    gives = sym rest ∙ is-normal (nodes_over m.floor) left 65536 m.steps focus (omega (arith, counted, small)) done.0;
    line = subst (λ (l : Nameless). Equates s m.line l focus) h here;
  }
  ended-at (at_function a ∷ ps) start focus left h here done counted small rest = absurd h
  ended-at (at_argument f ∷ ps) start focus left h here done counted small rest = absurd h
  ended-at (at_body x ty ∷ ps) start focus left h here done counted small rest = absurd h

pub ended : (s : State) (m : Spot) (q : IsRunning s m) → m.down ≡ false → m.frames ≡ [] → IsEnded q.whole q.t s (record m { frames = [] })
ended s m q up e =
    let r = q.runs in
    ended-at s (record m { frames = [] }) q.whole q.t r.around r.start r.focus r.left (subst (λ (fs : List Frame). Levels s fs r.around r.start q.t) e r.levels) r.here
    (subst (λ b. IsDone b r.around r.focus) up r.done) r.counted r.small r.rest

-- what a move leads to is what the whole goes on to
pub leads-goes : (whole : Result Nameless ℕ) (t : Nameless) (s : State) (m : Spot) (r : Result (Unit {0}) ConvFault) (o : Result Bool ConvFault) → o ≡ gone r → Leads whole t s m r → Goes whole t s m o
leads-goes whole t s m r o e h = subst (Goes whole t s m) (sym e) (same r h)
  where
    same : (r : Result (Unit {0}) ConvFault) → Leads whole t s m r → Goes whole t s m (gone r)
    same (Ok u) h = h
    same (Err (NormLimit k)) h = h
    same (Err Memory) h = h

-- .. and nearer
pub nearer : (old mid new : Spot) (r : Result (Unit {0}) ConvFault) (o : Result Bool ConvFault) → o ≡ gone r → mid.steps ≡ old.steps → mid.room ≡ old.room → OnOk r (IsNearer mid new) → IsNearerOrEnded old new o
nearer old mid new r o e p q h = subst (IsNearerOrEnded old new) (sym e) (same r h)
  where
    same : (r : Result (Unit {0}) ConvFault) → OnOk r (IsNearer mid new) → IsNearerOrEnded old new (gone r)
    same (Ok u) h = (let k = h.room in record { steps = h.steps ∙ p; room = omega (arith, k, q) })
    same (Err f) h = tt

-- ---- a head that became an abstraction

module _ (s : State) (m : Spot) (e : ℕ) where
  applied-at : (around : List Around) (start t : Nameless) → Levels s (Function e ∷ m.frames) around start t → IsApplied s e
  applied-at (at_function a ∷ ps) start t h = record { from = h.0; f = start; a = a; holds = h.1 }
  applied-at [] start t h = absurd h
  applied-at (at_argument f ∷ ps) start t h = absurd h
  applied-at (at_body x ty ∷ ps) start t h = absurd h

  pub head-applied : IsHeadAbstraction s m e → IsApplied s e
  head-applied q = applied-at q.runs.around q.runs.start q.t q.runs.levels

  -- the argument's line is on what stands there
  abbrev pub joins-at : (now : State) (n : ℕ) (c : Carries s now) (made : (j : IsApplied s e) → Equates now n j.a j.a) (around : List Around) (start focus t : Nameless)
      → Levels s (Function e ∷ m.frames) around start t → Equates s m.line start focus → Joins now e m.line n
  joins-at now n c made (at_function a ∷ ps) start focus t h here = record {
    from = h.0;
    f = start;
    a = a;
    g = focus;
    c = a;
    whole = equates-kept s now e h.0 (nameless_application start a) c h.1;
    function = equates-kept s now m.line start focus c here;
    argument = made (record { from = h.0; f = start; a = a; holds = h.1 });
  }
  joins-at now n c made [] start focus t h here = absurd h
  joins-at now n c made (at_argument f ∷ ps) start focus t h here = absurd h
  joins-at now n c made (at_body x ty ∷ ps) start focus t h here = absurd h

  pub head-joins : (now : State) (n : ℕ) → Carries s now → ((j : IsApplied s e) → Equates now n j.a j.a) → IsHeadAbstraction s m e → Joins now e m.line n
  head-joins now n c made q = joins-at now n c made q.runs.around q.runs.start q.runs.focus q.t q.runs.levels q.runs.here

  module _ (mid now : State) (n line : ℕ) (c1 : Carries s mid) (c2 : Carries mid now) (made : (j : IsApplied s e) → Equates mid n j.a j.a) (joined : (j : Joins mid e m.line n) → Equates now line j.from (nameless_application j.g j.c))
      (ty : TypeTree) (b : Nameless) (down : m.down ≡ true) where
    redex-at : (whole : Result Nameless ℕ) (t : Nameless) (around : List Around) (start focus : Nameless) (left : ℕ) → Levels s (Function e ∷ m.frames) around start t → Equates s m.line start focus
        → focus ≡ nameless_abstraction ty b → IsWay m.floor around → m.size ≡ nodes_over m.floor (plug around focus) → m.size ≤ 65536 → left + m.steps ≡ 10000 → normal_from (nodes_over m.floor) left 65536 m.steps (plug around focus) ≡ whole
        → IsRedexOf whole t now (record m { line = line })
    redex-at whole t (at_function a ∷ ps) start focus left h here is way counted small few rest = record {
      at = record {
        whole = whole;
        t = t;
        runs = record {
          start = h.0;
          focus = nameless_application focus a;
          around = ps;
          left = left;
          here = joined (joins-at mid n c1 made (at_function a ∷ ps) start focus t h here);
          levels = levels-kept s now m.frames ps h.0 t (λ first g. c2 first (c1 first g)) h.2;
          way = way.1;
          done = subst (λ d. IsDone d ps (nameless_application focus a)) (sym down) tt;
          counted = counted;
          small = small;
          few = few;
          rest = rest;
        };
        down = down;
        ty = ty;
        b = b;
        a = a;
        redex = ap (λ f. nameless_application f a) is;
      };
      whole_is = refl;
      t_is = refl;
    }
    redex-at whole t [] start focus left h here is way counted small few rest = absurd h
    redex-at whole t (at_argument f ∷ ps) start focus left h here is way counted small few rest = absurd h
    redex-at whole t (at_body x u ∷ ps) start focus left h here is way counted small few rest = absurd h

  pub head-redex : (mid now : State) (n line : ℕ) → Carries s mid → Carries mid now → ((j : IsApplied s e) → Equates mid n j.a j.a) → ((j : Joins mid e m.line n) → Equates now line j.from (nameless_application j.g j.c))
      → (q : IsHeadAbstraction s m e) → IsRedexOf q.whole q.t now (record m { line = line })
  head-redex mid now n line c1 c2 made joined q =
      redex-at mid now n line c1 c2 made joined q.ty q.b q.down q.whole q.t q.runs.around q.runs.start q.runs.focus q.runs.left q.runs.levels q.runs.here q.is q.runs.way q.runs.counted q.runs.small q.runs.few q.runs.rest
