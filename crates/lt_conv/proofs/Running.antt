-- The machine from its start to its end.
use Rattle.std.proofs.Common.{◌≡◌, inl, inr, ℕ, ◌<◌, ◌≤◌, ◌*◌, ◌+◌, ◌-◌, List, [], Bool, true, false, nat_lt, Result, Ok, Err, refl, sym, subst, arith}
use Rattle.std.proofs.lemmas.Bool.Decides.{nat_tests}
use Rattle.lt_nameless.specs.Nameless.{Nameless}
use Rattle.lt_kernel.specs.State.{State}
use Rattle.lt_reductions.specs.Reducts.{nodes, nodes_over, IsShort, normal_form_of}
use Rattle.lt_reductions.proofs.Shortness.{short-nodes, short-limits}
use Rattle.lt_reductions.proofs.Placing.{is-large}
use Rattle.lt_conv.specs.declared.machine.Frame.{Frame}
use Rattle.lt_conv.specs.declared.machine.ConvFault.{ConvFault}
use Rattle.lt_conv.specs.declared.machine.ConvFault.TheVariants.{NormLimit, Memory}
use Rattle.lt_derived.specs.Equations.{Equates}
use Rattle.lt_conv.specs.Machines.{Spot, Levels, Runs, HasRoom, IsRunning, IsLess, Goes, Leads, Ends}

abbrev pub running : (whole : Result Nameless ℕ) (t : Nameless) (s : State) (m : Spot) → (r : Runs whole t s m) × HasRoom r → IsRunning s m
running whole t s m h = record { whole = whole; t = t; runs = h.0; room = h.1 }

pub leads-ends : (whole : Result Nameless ℕ) (t : Nameless) (s : State) (m : Spot) (f : ConvFault) → Leads whole t s m (Err f) → Ends s t whole (Err f)
leads-ends whole t s m (NormLimit k) h = h
leads-ends whole t s m Memory h = tt

pub goes-ends : (whole : Result Nameless ℕ) (t : Nameless) (s : State) (m : Spot) (f : ConvFault) → Goes whole t s m (Err f) → Ends s t whole (Err f)
goes-ends whole t s m (NormLimit k) h = h
goes-ends whole t s m Memory h = tt

pub ended-ends : (whole : Result Nameless ℕ) (t : Nameless) (s : State) (m : Spot) (b : Bool) → b ≡ true → Goes whole t s m (Ok b) → Ends s t whole (Ok m.line)
ended-ends whole t s m true e h = (h.normal, h.gives, h.line)
ended-ends whole t s m false e h = absurd (cc e)

pub goes-on-runs : (whole : Result Nameless ℕ) (t : Nameless) (s : State) (m : Spot) (b : Bool) → b ≡ false → Goes whole t s m (Ok b) → (r : Runs whole t s m) × HasRoom r
goes-on-runs whole t s m false e h = h
goes-on-runs whole t s m true e h = absurd (cc e)

less : (a b : ℕ) → a < b → nat_lt a b ≡ true
less a b h = grind (arith, nat_tests)

pub is-large-at-once : (t : Nameless) → 65536 < nodes t → normal_form_of t ≡ Err 0
unfolding normal_form_of
is-large-at-once t l = is-large nodes 10000 65536 0 t (less 65536 (nodes t) l)

pub starts-large : (floor : ℕ) (t : Nameless) → IsShort floor t → 65536 < nodes_over floor t → normal_form_of t ≡ Err 0
starts-large floor t h l = is-large-at-once t (let e = short-nodes floor t h in omega (arith, e, l))

pub starts : (s : State) (t : Nameless) (floor line size : ℕ) (frames : List Frame) → IsShort floor t → Equates s line t t → size ≡ nodes_over floor t → size ≤ 65536 → frames ≡ []
    → (r : Runs (normal_form_of t) t s (record { frames = frames; line = line; down = true; floor = floor; steps = 0; size = size; room = 3 * size })) × HasRoom r
unfolding normal_form_of
starts s t floor line size frames short k e h is = (
  record {
    start = t;
    focus = t;
    around = [];
    left = 10000;
    here = k;
    levels = subst (λ fs. Levels s fs [] t t) (sym is) refl;
    way = tt;
    done = tt;
    counted = e;
    small = h;
    few = refl;
    rest = short-limits floor 10000 65536 0 t short;
  },
  (omega (arith, e), omega (arith, h)),
)

pub down-smaller : (old new : Spot) (s : State) (whole : Result Nameless ℕ) (t : Nameless) → IsLess old new → (r : Runs whole t s new) × HasRoom r → (10000 - new.steps) * 196609 + new.room < (10000 - old.steps) * 196609 + old.room
down-smaller old new s whole t (inl e) h = let f = h.0.few in let r = h.1.1 in omega (arith, e, f, r)
down-smaller old new s whole t (inr n) h = let e = n.steps in let r = n.room in ap-less old new e r
  where
    ap-less : (old new : Spot) → new.steps ≡ old.steps → new.room < old.room → (10000 - new.steps) * 196609 + new.room < (10000 - old.steps) * 196609 + old.room
    ap-less old new e r = omega (arith, e, r)
