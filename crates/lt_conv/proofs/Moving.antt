-- Moves of a machine that are no steps.
use Rattle.std.proofs.Common.{◌≡◌, ℕ, ◌+◌, ◌-◌, ◌*◌, ◌<◌, ◌≤◌, List, [], ◌∷◌, ◌++◌, reverse, true, false, Result, Ok, refl, sym, ◌∙◌, ap, subst, arith}
use Rattle.std.proofs.lemmas.List.{reverse-append}
use Rattle.lt_definitions.specs.Types.{Chars, TypeTree}
use Rattle.lt_nameless.specs.Nameless.{Nameless, nameless_free, nameless_application, nameless_abstraction}
use Rattle.lt_nameless.specs.NamelessRules.{instance_at, abstracted}
use Rattle.lt_nameless.proofs.ClosedSteps.{typed-whole}
use Rattle.lt_kernel.specs.State.{State}
use Rattle.lt_reductions.specs.Reducts.{nodes_over, normal_from, Around, at_function, at_argument, at_body, plug, IsWay, weight}
use Rattle.lt_reductions.proofs.Placing.{stands-false, normal-application, normal-closed, opened-closed, opened-nodes}
use Rattle.lt_programs.proofs.TypedTermLemmas.{application-parts, abstraction-of}
use Rattle.lt_conv.specs.declared.machine.Frame.{Frame}
use Rattle.lt_conv.specs.declared.machine.Frame.TheVariants.{Function, Argument, Body}
use Rattle.lt_kernel.specs.Growing.{Carries}
use Rattle.lt_derived.specs.Equations.{Equates}
use Rattle.lt_conv.specs.Conversions.{IsApplied, IsUnder, Joins, Shuts, IsOpened}
use Rattle.lt_conv.specs.Machines.{Spot, Levels, visit, IsDone, IsAtApplication, IsBehindHead, IsBehindArgument, IsBehindBody, IsAtAbstraction, Leads}
use Rattle.lt_derived.proofs.EquationLemmas.{equates-kept}
use Rattle.lt_conv.proofs.Contracting.{levels-kept}

-- a frame that was pushed, seen from the inside
pub pushed : (items new : List Frame) (f : Frame) → new ≡ items ++ f ∷ [] → reverse new ≡ f ∷ reverse items
pushed items new f e = ap reverse e ∙ reverse-append items (f ∷ [])

pub pushed-is : (items new : List Frame) (f h : Frame) → new ≡ items ++ f ∷ [] → f ≡ h → reverse new ≡ h ∷ reverse items
pushed-is items new f h e d = pushed items new f e ∙ ap (λ k. k ∷ reverse items) d

-- ---- into the head

module _ (s : State) (m : Spot) (q : IsAtApplication s m) where
  abbrev pub applied : IsApplied s m.line
  applied = record { from = q.runs.start; f = q.f; a = q.a; holds = subst (Equates s m.line q.runs.start) q.is q.runs.here }

  pub head-leads : (now : State) (line : ℕ) (frames : List Frame) → Carries s now → Equates now line q.f q.f → frames ≡ Function m.line ∷ m.frames
      → Leads q.whole q.t now (record { frames = frames; line = line; down = m.down; floor = m.floor; steps = m.steps; size = m.size; room = m.room - 1 }) (Ok tt)
  head-leads now line frames c k e =
      let g = c in
      let parts = application-parts s.signature q.f q.a applied.holds.ty applied.holds.right in
      let room : weight m.floor q.runs.around + 3 * nodes_over m.floor (nameless_application q.f q.a) ≤ m.room = (
      subst (λ u. weight m.floor q.runs.around + 3 * nodes_over m.floor u ≤ m.room) q.is (subst (λ b. weight m.floor q.runs.around + visit m.floor b q.runs.focus ≤ m.room) q.down q.room.0)) in
      let most = q.room.1 in (
        record {
          start = q.f;
          focus = q.f;
          around = at_function q.a ∷ q.runs.around;
          left = q.runs.left;
          here = k;
          levels = subst (λ (fs : List Frame). Levels now fs (at_function q.a ∷ q.runs.around) q.f q.t) (sym e)
              (q.runs.start, equates-kept s now m.line q.runs.start (nameless_application q.f q.a) g applied.holds, levels-kept s now m.frames q.runs.around q.runs.start q.t g q.runs.levels);
          way = (typed-whole s.signature [] q.a parts.0 parts.2, q.runs.way);
          done = subst (λ b. IsDone b (at_function q.a ∷ q.runs.around) q.f) (sym q.down) tt;
          counted = q.runs.counted ∙ ap (λ u. nodes_over m.floor (plug q.runs.around u)) q.is;
          small = q.runs.small;
          few = q.runs.few;
          rest = ap (λ u. normal_from (nodes_over m.floor) q.runs.left 65536 m.steps (plug q.runs.around u)) (sym q.is) ∙ q.runs.rest;
        },
        (subst (λ b. weight m.floor (at_function q.a ∷ q.runs.around) + visit m.floor b q.f ≤ m.room - 1) (sym q.down) (omega (arith, room)), omega (arith, most)),
      )

-- ---- from the argument to the application

module _ (s : State) (m : Spot) (e k : ℕ) where
  argument-joins : (around : List Around) (start focus t : Nameless) → Levels s (Argument e k ∷ m.frames) around start t → Equates s m.line start focus → Joins s e k m.line
  argument-joins (at_argument g ∷ ps) start focus t h here = record { from = h.0; f = h.1; a = start; g = g; c = focus; whole = h.2; function = h.3; argument = here }
  argument-joins [] start focus t h here = absurd h
  argument-joins (at_function a ∷ ps) start focus t h here = absurd h
  argument-joins (at_body x ty ∷ ps) start focus t h here = absurd h

  pub joins : IsBehindArgument s m e k → Joins s e k m.line
  joins q = argument-joins q.runs.around q.runs.start q.runs.focus q.t q.runs.levels q.runs.here

  module _ (now : State) (line : ℕ) (c : Carries s now) (made : (j : Joins s e k m.line) → Equates now line j.from (nameless_application j.g j.c)) (up : m.down ≡ false) where
    argument-leads : (whole : Result Nameless ℕ) (t : Nameless) (around : List Around) (start focus : Nameless) (left : ℕ) → Levels s (Argument e k ∷ m.frames) around start t → Equates s m.line start focus
        → IsWay m.floor around → IsDone false around focus → m.size ≡ nodes_over m.floor (plug around focus) → m.size ≤ 65536 → left + m.steps ≡ 10000 → normal_from (nodes_over m.floor) left 65536 m.steps (plug around focus) ≡ whole
        → weight m.floor around ≤ m.room → m.room ≤ 196608
        → Leads whole t now (record { frames = m.frames; line = line; down = m.down; floor = m.floor; steps = m.steps; size = m.size; room = m.room - 1 }) (Ok tt)
    argument-leads whole t (at_argument g ∷ ps) start focus left h here way done counted small few rest room most =
        let j : Joins s e k m.line = record { from = h.0; f = h.1; a = start; g = g; c = focus; whole = h.2; function = h.3; argument = here } in (
          record {
            start = h.0;
            focus = nameless_application g focus;
            around = ps;
            left = left;
            here = made j;
            levels = levels-kept s now m.frames ps h.0 t c h.4;
            way = way.3;
            done = subst (λ b. IsDone b ps (nameless_application g focus)) (sym up) (normal-application g focus way.1 way.2 done.0, stands-false ps);
            counted = counted;
            small = small;
            few = few;
            rest = rest;
          },
          (subst (λ b. weight m.floor ps + visit m.floor b (nameless_application g focus) ≤ m.room - 1) (sym up) (omega (arith, room)), omega (arith, most)),
        )
    argument-leads whole t [] start focus left h here way done counted small few rest room most = absurd h
    argument-leads whole t (at_function a ∷ ps) start focus left h here way done counted small few rest room most = absurd h
    argument-leads whole t (at_body x ty ∷ ps) start focus left h here way done counted small few rest room most = absurd h

    pub left-argument : (q : IsBehindArgument s m e k) → Leads q.whole q.t now (record { frames = m.frames; line = line; down = m.down; floor = m.floor; steps = m.steps; size = m.size; room = m.room - 1 }) (Ok tt)
    left-argument q =
        let room = subst (λ b. weight m.floor q.runs.around + visit m.floor b q.runs.focus ≤ m.room) q.up q.room.0 in
        argument-leads q.whole q.t q.runs.around q.runs.start q.runs.focus q.runs.left q.runs.levels q.runs.here q.runs.way (subst (λ b. IsDone b q.runs.around q.runs.focus) q.up q.runs.done)
        q.runs.counted q.runs.small q.runs.few q.runs.rest (omega (arith, room)) q.room.1

-- ---- from the head into the argument

module _ (s : State) (m : Spot) (e : ℕ) where
  head-applied : (around : List Around) (start t : Nameless) → Levels s (Function e ∷ m.frames) around start t → IsApplied s e
  head-applied (at_function a ∷ ps) start t h = record { from = h.0; f = start; a = a; holds = h.1 }
  head-applied [] start t h = absurd h
  head-applied (at_argument f ∷ ps) start t h = absurd h
  head-applied (at_body x ty ∷ ps) start t h = absurd h

  pub behind-head : IsBehindHead s m e → IsApplied s e
  behind-head q = head-applied q.runs.around q.runs.start q.t q.runs.levels

  module _ (now : State) (line : ℕ) (c : Carries s now) (made : (j : IsApplied s e) → Equates now line j.a j.a) (frames : List Frame) (is : frames ≡ Argument e m.line ∷ m.frames) where
    into-leads : (whole : Result Nameless ℕ) (t : Nameless) (around : List Around) (start focus : Nameless) (left : ℕ) → Levels s (Function e ∷ m.frames) around start t → Equates s m.line start focus
        → IsWay m.floor around → IsDone false around focus → m.size ≡ nodes_over m.floor (plug around focus) → m.size ≤ 65536 → left + m.steps ≡ 10000 → normal_from (nodes_over m.floor) left 65536 m.steps (plug around focus) ≡ whole
        → weight m.floor around ≤ m.room → m.room ≤ 196608
        → Leads whole t now (record { frames = frames; line = line; down = true; floor = m.floor; steps = m.steps; size = m.size; room = m.room - 1 }) (Ok tt)
    into-leads whole t (at_function a ∷ ps) start focus left h here way done counted small few rest room most =
        let g = c in (
          record {
            start = a;
            focus = a;
            around = at_argument focus ∷ ps;
            left = left;
            here = made (record { from = h.0; f = start; a = a; holds = h.1 });
            levels = subst (λ (fs : List Frame). Levels now fs (at_argument focus ∷ ps) a t) (sym is)
                (h.0, start, equates-kept s now e h.0 (nameless_application start a) g h.1, equates-kept s now m.line start focus g here, levels-kept s now m.frames ps h.0 t g h.2);
            way = (typed-whole s.signature [] focus here.ty here.right, done.1, done.0, way.1);
            done = tt;
            counted = counted;
            small = small;
            few = few;
            rest = rest;
          },
          (omega (arith, room), omega (arith, most)),
        )
    into-leads whole t [] start focus left h here way done counted small few rest room most = absurd h
    into-leads whole t (at_argument f ∷ ps) start focus left h here way done counted small few rest room most = absurd h
    into-leads whole t (at_body x ty ∷ ps) start focus left h here way done counted small few rest room most = absurd h

    pub into-argument : (q : IsBehindHead s m e) → Leads q.whole q.t now (record { frames = frames; line = line; down = true; floor = m.floor; steps = m.steps; size = m.size; room = m.room - 1 }) (Ok tt)
    into-argument q =
        let room = subst (λ b. weight m.floor q.runs.around + visit m.floor b q.runs.focus ≤ m.room) q.up q.room.0 in
        into-leads q.whole q.t q.runs.around q.runs.start q.runs.focus q.runs.left q.runs.levels q.runs.here q.runs.way (subst (λ b. IsDone b q.runs.around q.runs.focus) q.up q.runs.done)
        q.runs.counted q.runs.small q.runs.few q.runs.rest (omega (arith, room)) q.room.1

-- ---- from the body to the abstraction

module _ (s : State) (m : Spot) (e : ℕ) (x : Chars) (ty : TypeTree) where
  body-shuts : (around : List Around) (start focus t : Nameless) → Levels s (Body e x ty ∷ m.frames) around start t → Equates s m.line start focus → Shuts s e x ty m.line
  body-shuts (at_body y u ∷ ps) start focus t h here = record { from = h.0; b = h.1; c = focus; whole = h.4; new = h.5; body = subst (λ (l : Nameless). Equates s m.line l focus) h.6 here }
  body-shuts [] start focus t h here = absurd h
  body-shuts (at_function a ∷ ps) start focus t h here = absurd h
  body-shuts (at_argument f ∷ ps) start focus t h here = absurd h

  pub shuts : IsBehindBody s m e x ty → Shuts s e x ty m.line
  shuts q = body-shuts q.runs.around q.runs.start q.runs.focus q.t q.runs.levels q.runs.here

  module _ (now : State) (line : ℕ) (c : Carries s now) (made : (j : Shuts s e x ty m.line) → Equates now line j.from (nameless_abstraction ty (abstracted 0 x ty j.c))) (up : m.down ≡ false) where
    body-leads : (whole : Result Nameless ℕ) (t : Nameless) (around : List Around) (start focus : Nameless) (left : ℕ) → Levels s (Body e x ty ∷ m.frames) around start t → Equates s m.line start focus
        → IsWay m.floor around → IsDone false around focus → m.size ≡ nodes_over m.floor (plug around focus) → m.size ≤ 65536 → left + m.steps ≡ 10000 → normal_from (nodes_over m.floor) left 65536 m.steps (plug around focus) ≡ whole
        → weight m.floor around ≤ m.room → m.room ≤ 196608
        → Leads whole t now (record { frames = m.frames; line = line; down = m.down; floor = m.floor; steps = m.steps; size = m.size; room = m.room - 1 }) (Ok tt)
    body-leads whole t (at_body y u ∷ ps) start focus left h here way done counted small few rest room most =
        let j : Shuts s e x ty m.line = record { from = h.0; b = h.1; c = focus; whole = h.4; new = h.5; body = subst (λ (l : Nameless). Equates s m.line l focus) h.6 here } in
        let same : nameless_abstraction u (abstracted 0 y u focus) ≡ nameless_abstraction ty (abstracted 0 x ty focus) = (λ i. nameless_abstraction (h.3 i) (abstracted 0 (h.2 i) (h.3 i) focus)) in (
          record {
            start = h.0;
            focus = nameless_abstraction ty (abstracted 0 x ty focus);
            around = ps;
            left = left;
            here = made j;
            levels = levels-kept s now m.frames ps h.0 t c h.7;
            way = way.2;
            done = subst (λ b. IsDone b ps (nameless_abstraction ty (abstracted 0 x ty focus))) (sym up) (normal-closed x ty focus done.0, way.0);
            counted = counted ∙ ap (λ v. nodes_over m.floor (plug ps v)) same;
            small = small;
            few = few;
            rest = ap (λ v. normal_from (nodes_over m.floor) left 65536 m.steps (plug ps v)) (sym same) ∙ rest;
          },
          (subst (λ b. weight m.floor ps + visit m.floor b (nameless_abstraction ty (abstracted 0 x ty focus)) ≤ m.room - 1) (sym up) (omega (arith, room)), omega (arith, most)),
        )
    body-leads whole t [] start focus left h here way done counted small few rest room most = absurd h
    body-leads whole t (at_function a ∷ ps) start focus left h here way done counted small few rest room most = absurd h
    body-leads whole t (at_argument f ∷ ps) start focus left h here way done counted small few rest room most = absurd h

    pub left-body : (q : IsBehindBody s m e x ty) → Leads q.whole q.t now (record { frames = m.frames; line = line; down = m.down; floor = m.floor; steps = m.steps; size = m.size; room = m.room - 1 }) (Ok tt)
    left-body q =
        let room = subst (λ b. weight m.floor q.runs.around + visit m.floor b q.runs.focus ≤ m.room) q.up q.room.0 in
        body-leads q.whole q.t q.runs.around q.runs.start q.runs.focus q.runs.left q.runs.levels q.runs.here q.runs.way (subst (λ b. IsDone b q.runs.around q.runs.focus) q.up q.runs.done)
        q.runs.counted q.runs.small q.runs.few q.runs.rest (omega (arith, room)) q.room.1

-- ---- there is room for a move

-- what is around a place that was left has a weight
pub function-room : (floor : ℕ) (s : State) (e : ℕ) (fs : List Frame) (around : List Around) (start t : Nameless) → Levels s (Function e ∷ fs) around start t → 0 < weight floor around
function-room floor s e fs (at_function a ∷ ps) start t h = omega arith
function-room floor s e fs [] start t h = absurd h
function-room floor s e fs (at_argument f ∷ ps) start t h = absurd h
function-room floor s e fs (at_body x ty ∷ ps) start t h = absurd h

pub argument-room : (floor : ℕ) (s : State) (e k : ℕ) (fs : List Frame) (around : List Around) (start t : Nameless) → Levels s (Argument e k ∷ fs) around start t → 0 < weight floor around
argument-room floor s e k fs (at_argument f ∷ ps) start t h = omega arith
argument-room floor s e k fs [] start t h = absurd h
argument-room floor s e k fs (at_function a ∷ ps) start t h = absurd h
argument-room floor s e k fs (at_body x ty ∷ ps) start t h = absurd h

pub body-room : (floor : ℕ) (s : State) (e : ℕ) (x : Chars) (ty : TypeTree) (fs : List Frame) (around : List Around) (start t : Nameless) → Levels s (Body e x ty ∷ fs) around start t → 0 < weight floor around
body-room floor s e x ty fs (at_body y u ∷ ps) start t h = omega arith
body-room floor s e x ty fs [] start t h = absurd h
body-room floor s e x ty fs (at_function a ∷ ps) start t h = absurd h
body-room floor s e x ty fs (at_argument f ∷ ps) start t h = absurd h

pub head-room : (s : State) (m : Spot) (e : ℕ) → IsBehindHead s m e → 1 ≤ m.room
head-room s m e q = let h = function-room m.floor s e m.frames q.runs.around q.runs.start q.t q.runs.levels in let r = q.room.0 in omega (arith, h, r)

pub argument-left-room : (s : State) (m : Spot) (e k : ℕ) → IsBehindArgument s m e k → 1 ≤ m.room
argument-left-room s m e k q = let h = argument-room m.floor s e k m.frames q.runs.around q.runs.start q.t q.runs.levels in let r = q.room.0 in omega (arith, h, r)

pub body-left-room : (s : State) (m : Spot) (e : ℕ) (x : Chars) (ty : TypeTree) → IsBehindBody s m e x ty → 1 ≤ m.room
body-left-room s m e x ty q = let h = body-room m.floor s e x ty m.frames q.runs.around q.runs.start q.t q.runs.levels in let r = q.room.0 in omega (arith, h, r)

-- ---- into the body

module _ (s : State) (m : Spot) (q : IsAtAbstraction s m) where
  abbrev pub under : IsUnder s m.line
  under = record { from = q.runs.start; ty = q.ty; b = q.b; holds = subst (Equates s m.line q.runs.start) q.is q.runs.here }

  pub body-into : (now : State) (line : ℕ) (frames : List Frame) (x : Chars) (ty : TypeTree) → Carries s now → IsOpened now q.ty q.b line m.floor x ty → frames ≡ Body m.line x ty ∷ m.frames
      → Leads q.whole q.t now (record { frames = frames; line = line; down = m.down; floor = m.floor; steps = m.steps; size = m.size; room = m.room - 1 }) (Ok tt)
  body-into now line frames x ty c o e =
      let g = c in
      let opened : Nameless = instance_at 0 (nameless_free x q.ty) q.b in
      let h = abstraction-of s.signature q.ty q.b under.holds.ty under.holds.right in
      let back : abstracted 0 x q.ty opened ≡ q.b = opened-closed 0 x q.ty q.b o.new (typed-whole s.signature (q.ty ∷ []) q.b h.0 h.2) in
      let whole : nameless_abstraction q.ty (abstracted 0 x q.ty opened) ≡ q.runs.focus = ap (nameless_abstraction q.ty) back ∙ sym q.is in
      let many = opened-nodes m.floor 0 x q.ty q.b o.long in
      let room : weight m.floor q.runs.around + 3 * nodes_over m.floor (nameless_abstraction q.ty q.b) ≤ m.room = (
      subst (λ u. weight m.floor q.runs.around + 3 * nodes_over m.floor u ≤ m.room) q.is (subst (λ b. weight m.floor q.runs.around + visit m.floor b q.runs.focus ≤ m.room) q.down q.room.0)) in
      let most = q.room.1 in
      let levels : Levels now (Body m.line x q.ty ∷ m.frames) (at_body x q.ty ∷ q.runs.around) opened q.t =
      (q.runs.start, q.b, refl, refl, equates-kept s now m.line q.runs.start (nameless_abstraction q.ty q.b) g under.holds, o.new, refl, levels-kept s now m.frames q.runs.around q.runs.start q.t g q.runs.levels) in (
        record {
          start = opened;
          focus = opened;
          around = at_body x q.ty ∷ q.runs.around;
          left = q.runs.left;
          here = o.line;
          levels = subst (λ (fs : List Frame). Levels now fs (at_body x q.ty ∷ q.runs.around) opened q.t) (sym e)
              (subst (λ (u : TypeTree). Levels now (Body m.line x u ∷ m.frames) (at_body x q.ty ∷ q.runs.around) opened q.t) (sym o.same) levels);
          way = (q.stands, o.long, q.runs.way);
          done = subst (λ b. IsDone b (at_body x q.ty ∷ q.runs.around) opened) (sym q.down) tt;
          counted = q.runs.counted ∙ ap (λ u. nodes_over m.floor (plug q.runs.around u)) (sym whole);
          small = q.runs.small;
          few = q.runs.few;
          rest = ap (λ u. normal_from (nodes_over m.floor) q.runs.left 65536 m.steps (plug q.runs.around u)) whole ∙ q.runs.rest;
        },
        (subst (λ b. weight m.floor (at_body x q.ty ∷ q.runs.around) + visit m.floor b opened ≤ m.room - 1) (sym q.down) (omega (arith, room, many)), omega (arith, most)),
      )

  pub abstraction-room : 1 ≤ m.room
  abstraction-room =
      let room : weight m.floor q.runs.around + 3 * nodes_over m.floor (nameless_abstraction q.ty q.b) ≤ m.room = (
      subst (λ u. weight m.floor q.runs.around + 3 * nodes_over m.floor u ≤ m.room) q.is (subst (λ b. weight m.floor q.runs.around + visit m.floor b q.runs.focus ≤ m.room) q.down q.room.0)) in omega (arith, room)
