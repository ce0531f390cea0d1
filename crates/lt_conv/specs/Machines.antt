-- The way to a normal form: the place that is worked on, what is around it, and what the limits make of it.
use Rattle.std.specs.Prelude.{◌≡◌, ◌⊎◌, ℕ, ◌+◌, ◌*◌, ◌<◌, ◌≤◌, List, [], ◌∷◌, reverse, Bool, true, false, Result, Ok, Err, None}
use Rattle.lt_definitions.specs.Types.{Chars, TypeTree}
use Rattle.lt_nameless.specs.Nameless.{Nameless, nameless_free, nameless_application, nameless_abstraction}
use Rattle.lt_nameless.specs.NamelessRules.{nameless_has_free, instance_at}
use Rattle.lt_kernel.specs.State.{State}
use Rattle.lt_reductions.specs.Reducts.{nodes_over, reduct, is_abstraction, normal_from, Around, at_function, at_argument, at_body, plug, MayStand, IsWay, weight}
use Rattle.lt_conv.specs.declared.machine.Frame.{Frame}
use Rattle.lt_conv.specs.declared.machine.Frame.TheVariants.{Function, Argument, Body}
use Rattle.lt_conv.specs.declared.machine.Machine.{Machine}
use Rattle.lt_conv.specs.declared.machine.ConvFault.{ConvFault}
use Rattle.lt_conv.specs.declared.machine.ConvFault.TheVariants.{NormLimit, Memory}
use Rattle.lt_derived.specs.Equations.{Equates}

-- A machine, with its frames from the inside.
pub record Spot : Type 0 where
  pub frames : List Frame
  pub line : ℕ
  pub down : Bool
  pub floor : ℕ
  pub steps : ℕ
  pub size : ℕ
  pub room : ℕ

abbrev pub spot : Machine → Spot
spot m = record { frames = reverse m.frames.items; line = m.line; down = m.down; floor = m.floor; steps = m.steps; size = m.size; room = m.room }

-- The frames' lines say what is around the place, from the inside, and lead from the term at which the place began to the whole one.
abbrev pub Levels : State → List Frame → List Around → Nameless → Nameless → Type 0
Levels s [] [] start t = start ≡ t
Levels s (Function e ∷ fs) (at_function a ∷ ps) start t = (from : Nameless) × Equates s e from (nameless_application start a) × Levels s fs ps from t
Levels s (Argument e k ∷ fs) (at_argument g ∷ ps) start t = (from : Nameless) × (f : Nameless) × Equates s e from (nameless_application f start) × Equates s k f g × Levels s fs ps from t
Levels s (Body e x ty ∷ fs) (at_body y u ∷ ps) start t = (from : Nameless) × (b : Nameless) × (y ≡ x) × (u ≡ ty) × Equates s e from (nameless_abstraction ty b)
    × (nameless_has_free x ty b ≡ false) × (start ≡ instance_at 0 (nameless_free x ty) b) × Levels s fs ps from t
Levels s _ _ start t = ⊥

-- what is to be visited at the place itself
abbrev pub visit : ℕ → Bool → Nameless → ℕ
visit floor true t = 3 * nodes_over floor t
visit floor false t = 0

-- where the place was visited, its term is normal
abbrev pub IsDone : Bool → List Around → Nameless → Type 0
IsDone true ps t = Unit {0}
IsDone false ps t = (reduct t ≡ None) × MayStand ps (is_abstraction t)

-- What the machine keeps: `whole` is what the limits make of the term t.
pub record Runs (whole : Result Nameless ℕ) (t : Nameless) (s : State) (m : Spot) : Type 0 where
  pub start : Nameless
  pub focus : Nameless
  pub around : List Around
  pub left : ℕ
  pub here : Equates s m.line start focus
  pub levels : Levels s (m.frames) around start t
  pub way : IsWay m.floor around
  pub done : IsDone m.down around focus
  pub counted : m.size ≡ nodes_over m.floor (plug around focus)
  pub small : m.size ≤ 65536
  pub few : left + m.steps ≡ 10000
  pub rest : normal_from (nodes_over m.floor) left 65536 m.steps (plug around focus) ≡ whole

-- there is room for all that is to be visited
abbrev pub HasRoom : {whole : Result Nameless ℕ} {t : Nameless} {s : State} {m : Spot} → Runs whole t s m → Type 0
HasRoom {m = m} r = (weight m.floor r.around + visit m.floor m.down r.focus ≤ m.room) × (m.room ≤ 196608)

pub record IsRunning (s : State) (m : Spot) : Type 0 where
  pub whole : Result Nameless ℕ
  pub t : Nameless
  pub runs : Runs whole t s m
  pub room : HasRoom runs

-- the same where a redex is worked on
pub record IsAtRedex (s : State) (m : Spot) : Type 0 where
  pub whole : Result Nameless ℕ
  pub t : Nameless
  pub runs : Runs whole t s m
  pub down : m.down ≡ true
  pub ty : TypeTree
  pub b : Nameless
  pub a : Nameless
  pub redex : runs.focus ≡ nameless_application (nameless_abstraction ty b) a

-- What a move leads to.
abbrev pub Leads : Result Nameless ℕ → Nameless → State → Spot → Result (Unit {0}) ConvFault → Type 0
Leads whole t s m (Ok _) = (r : Runs whole t s m) × HasRoom r
Leads whole t s m (Err (NormLimit k)) = whole ≡ Err k
Leads whole t s m (Err Memory) = Unit {0}

-- A move that is no step.
pub record IsNearer (old new : Spot) : Type 0 where
  pub steps : new.steps ≡ old.steps
  pub room : new.room < old.room

-- The place is an application that is no redex.
pub record IsAtApplication (s : State) (m : Spot) : Type 0 where
  pub whole : Result Nameless ℕ
  pub t : Nameless
  pub runs : Runs whole t s m
  pub room : HasRoom runs
  pub down : m.down ≡ true
  pub f : Nameless
  pub a : Nameless
  pub is : runs.focus ≡ nameless_application f a
  pub apart : is_abstraction f ≡ false

-- A frame was taken off a machine whose place is normal: with it, the machine runs.
abbrev pub with_frame : Spot → Frame → Spot
with_frame m f = record m { frames = f ∷ m.frames }

-- That frame is an application's, whose head was the place.
pub record IsBehindHead (s : State) (m : Spot) (e : ℕ) : Type 0 where
  pub whole : Result Nameless ℕ
  pub t : Nameless
  pub runs : Runs whole t s (with_frame m (Function e))
  pub room : HasRoom runs
  pub up : m.down ≡ false

-- .. whose argument was the place
pub record IsBehindArgument (s : State) (m : Spot) (e k : ℕ) : Type 0 where
  pub whole : Result Nameless ℕ
  pub t : Nameless
  pub runs : Runs whole t s (with_frame m (Argument e k))
  pub room : HasRoom runs
  pub up : m.down ≡ false

-- .. or an abstraction's.
pub record IsBehindBody (s : State) (m : Spot) (e : ℕ) (x : Chars) (ty : TypeTree) : Type 0 where
  pub whole : Result Nameless ℕ
  pub t : Nameless
  pub runs : Runs whole t s (with_frame m (Body e x ty))
  pub room : HasRoom runs
  pub up : m.down ≡ false

-- The place is an abstraction that is the head of an application, whose frame was taken off.
pub record IsHeadAbstraction (s : State) (m : Spot) (e : ℕ) : Type 0 where
  pub whole : Result Nameless ℕ
  pub t : Nameless
  pub runs : Runs whole t s (with_frame m (Function e))
  pub down : m.down ≡ true
  pub ty : TypeTree
  pub b : Nameless
  pub is : runs.focus ≡ nameless_abstraction ty b

-- The place is a redex, on the way to the same.
pub record IsRedexOf (whole : Result Nameless ℕ) (t : Nameless) (s : State) (m : Spot) : Type 0 where
  pub at : IsAtRedex s m
  pub whole_is : at.whole ≡ whole
  pub t_is : at.t ≡ t

-- The machine ended: its line equates the term with the normal form, which the limits give.
pub record IsEnded (whole : Result Nameless ℕ) (t : Nameless) (s : State) (m : Spot) : Type 0 where
  pub normal : Nameless
  pub gives : whole ≡ Ok normal
  pub line : Equates s m.line t normal

-- What a move leads to that may end.
abbrev pub Goes : Result Nameless ℕ → Nameless → State → Spot → Result Bool ConvFault → Type 0
Goes whole t s m (Ok true) = IsEnded whole t s m
Goes whole t s m (Ok false) = (r : Runs whole t s m) × HasRoom r
Goes whole t s m (Err (NormLimit k)) = whole ≡ Err k
Goes whole t s m (Err Memory) = Unit {0}

abbrev pub IsNearerOrEnded : Spot → Spot → Result Bool ConvFault → Type 0
IsNearerOrEnded old new (Ok false) = IsNearer old new
IsNearerOrEnded old new _ = Unit {0}

-- that it goes on, where a move was made
abbrev pub gone : Result (Unit {0}) ConvFault → Result Bool ConvFault
gone (Ok _) = Ok false
gone (Err e) = Err e

-- The place is an abstraction, and no head.
pub record IsAtAbstraction (s : State) (m : Spot) : Type 0 where
  pub whole : Result Nameless ℕ
  pub t : Nameless
  pub runs : Runs whole t s m
  pub room : HasRoom runs
  pub down : m.down ≡ true
  pub ty : TypeTree
  pub b : Nameless
  pub is : runs.focus ≡ nameless_abstraction ty b
  pub stands : MayStand runs.around true

-- The place is no head.
abbrev pub IsNoHead : List Frame → Type 0
IsNoHead (Function e ∷ fs) = ⊥
IsNoHead _ = Unit {0}

-- A step, or a move that is none.
abbrev pub IsLess : Spot → Spot → Type 0
IsLess old new = (new.steps ≡ old.steps + 1) ⊎ IsNearer old new

-- What `normal_form` answers.
abbrev pub Ends : State → Nameless → Result Nameless ℕ → Result ℕ ConvFault → Type 0
Ends s t whole (Ok n) = (u : Nameless) × (whole ≡ Ok u) × Equates s n t u
Ends s t whole (Err (NormLimit k)) = whole ≡ Err k
Ends s t whole (Err Memory) = Unit {0}
