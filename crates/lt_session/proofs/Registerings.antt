-- Commands that register something of relations: they are taken where there is no fault, and else refused for it.
use Rattle.std.proofs.Common.{◌≡◌, ◌⊎◌, inl, inr, List, [], ◌∷◌, length, Bool, true, false, Option, Some, None, Err, Ok, refl, sym, ◌∙◌, ap, subst, append-nil, codes}
use Rattle.lt_definitions.specs.Types.{Chars}
use Rattle.lt_definitions.specs.Theory.{duplicate}
use Rattle.lt_texts.specs.Commands.{Command}
use Rattle.lt_commands.specs.declared.refusal.Refused.{Refused}
use Rattle.lt_commands.specs.declared.refusal.Refusal.{Refusal}
use Rattle.lt_plain.specs.Showing.{relator_part, property_part, property_word}
use Rattle.lt_relations.specs.declared.rel_fault.RelFault.{RelFault}
use Rattle.lt_relations.specs.declared.rel_fault.RelFault.TheVariants as faults
use Rattle.lt_relations.specs.Registering.{IsFault}
use Rattle.lt_transport_definitions.specs.Relations.{Registry}
use Rattle.lt_transport_definitions.specs.Sessions.{Session}
use Rattle.lt_transport_definitions.specs.Commands.{CommandRefusal, as_item, because, Registration, Block, with_registry, with_registration}
use Rattle.lt_transport_definitions.specs.Answers.{wrong_where}
use Rattle.lt_transport_definitions.specs.Rows.{BlockOutcome}
use Rattle.lt_transport_definitions.specs.Blocks.{Unless, ComesOf}
use Rattle.lt_transport_definitions.specs.TheoryWalks.{line_of}
use Rattle.lt_session.specs.declared.session.Block.{Block as Answered}
use Rattle.lt_session.specs.Sessions.{Holding, session_of}
use Rattle.lt_session.specs.Taking.{is_built, of_relation, TellsRefusal, Refuses, IsTaken}

-- a block that registers one thing
abbrev pub one-registration : Registration → Block
one-registration r = record { additions = []; registrations = r ∷ [] }

-- a fault, as the table refuses it
abbrev pub fault-refusal : RelFault → CommandRefusal
fault-refusal (faults.RelatorShape part) = because "RelatorShape" (relator_part part ∷ [])
fault-refusal (faults.Duplicate c) = as_item (duplicate c)
fault-refusal (faults.PropertyShape part) = because "PropertyShape" (property_part part ∷ [])
fault-refusal (faults.DuplicateProperty p c) = because "DuplicateProperty" (property_word p ∷ c ∷ [])
fault-refusal faults.DomainShape = because "DomainShape" []
fault-refusal (faults.DuplicateDomain c) = because "DuplicateDomain" (c ∷ [])
fault-refusal faults.Memory = because "Memory" []

tells-fault : (f : RelFault) → TellsRefusal (fault-refusal f) (of_relation f)
tells-fault (faults.RelatorShape part) = refl
tells-fault (faults.Duplicate c) = refl
tells-fault (faults.PropertyShape part) = refl
tells-fault (faults.DuplicateProperty p c) = refl
tells-fault faults.DomainShape = refl
tells-fault (faults.DuplicateDomain c) = refl
tells-fault faults.Memory = refl

fault-line : (f : RelFault) → None ≡ line_of (fault-refusal f)
fault-line (faults.RelatorShape part) = refl
fault-line (faults.Duplicate c) = refl
fault-line (faults.PropertyShape part) = refl
fault-line (faults.DuplicateProperty p c) = refl
fault-line faults.DomainShape = refl
fault-line (faults.DuplicateDomain c) = refl
fault-line faults.Memory = refl

is-that : (fault : Option RelFault) (f : RelFault) → IsFault fault f → (f ≡ faults.Memory) ⊎ (fault ≡ Some f)
is-that fault (faults.RelatorShape part) h = inr h
is-that fault (faults.Duplicate c) h = inr h
is-that fault (faults.PropertyShape part) h = inr h
is-that fault (faults.DuplicateProperty p c) h = inr h
is-that fault faults.DomainShape h = inr h
is-that fault (faults.DuplicateDomain c) h = inr h
is-that fault faults.Memory h = inl refl

-- a registration that is there already, or isn't
pub unless-free : (b : Bool) (f : RelFault) (r : CommandRefusal) (P : BlockOutcome → Type 0) (o : BlockOutcome) → wrong_where b f ≡ None → P o → Unless (wrong_where b r) P o
unless-free true f r P o e h = absurd (cc e)
unless-free false f r P o e h = h

pub unless-there : (b : Bool) (f g : RelFault) (P : BlockOutcome → Type 0) → wrong_where b f ≡ Some g → Unless (wrong_where b (fault-refusal f)) P (Err (fault-refusal g))
unless-there true f g P e = let same : f ≡ g = cc e in ap (λ (x : RelFault). Err (fault-refusal x)) (sym same)
unless-there false f g P e = absurd (cc e)

-- What comes of the command: where there is no fault one thing is registered, behind which the registry is this one; else it is refused.
pub record ComesOfFault (s : Session) (c : Command) (fault : Option RelFault) (registered : Registry) : Type 0 where
  pub taken : fault ≡ None → (r : Registration) × ComesOf s c (Ok (one-registration r)) × (with_registration s r ≡ with_registry s registered)
  pub refused : (f : RelFault) → fault ≡ Some f → ComesOf s c (Err (fault-refusal f))

takes-registration : (old new : Holding) (c : Command) (fault : Option RelFault) (registered : Registry) (block : Answered) → is_built c ≡ true → block.from ≡ length old.items
    → ComesOfFault (session_of old) c fault registered → fault ≡ None → new.registry ≡ registered → new ≡ record old { registry = new.registry } → IsTaken old c new block
takes-registration old new c fault registered block built from comes none is same =
    let taken = comes.taken none in
    let behind : session_of (record old { registry = new.registry }) ≡ with_registration (session_of old) taken.0 = ap (λ (G : Registry). with_registry (session_of old) G) is ∙ sym taken.2 in
    record {
      command = built;
      from = from;
      added = [];
      items = ap (λ (z : Holding). z.items) same ∙ sym (append-nil old.items);
      gives = (one-registration taken.0, taken.1, tt, tt, ap session_of same ∙ behind);
      limit = ap (λ (z : Holding). z.limit) same;
    }

refuses-registration : (s : Session) (c : Command) (fault : Option RelFault) (registered : Registry) (f : RelFault) → is_built c ≡ true → ComesOfFault s c fault registered → IsFault fault f
    → Refuses s c (record { refusal = of_relation f; line = None })
refuses-registration s c fault registered f built comes h = by (is-that fault f h)
  where
    by : (f ≡ faults.Memory) ⊎ (fault ≡ Some f) → Refuses s c (record { refusal = of_relation f; line = None })
    by (inl m) = inl (ap of_relation m)
    by (inr is) = inr (inr (record { command = built; first = fault-refusal f; comes = comes.refused f is; tells = tells-fault f; line = fault-line f }))

-- ---- what a step answers, by the session before it is opened

pub registration_taken : (old here new : Holding) (c : Command) (fault : Option RelFault) (registered : Registry) (block : Answered) → here ≡ old → is_built c ≡ true → block.from ≡ length old.items
    → ComesOfFault (session_of here) c fault registered → fault ≡ None → new.registry ≡ registered → new ≡ record here { registry = new.registry } → IsTaken old c new block
registration_taken old here new c fault registered block is built from comes none e same =
    subst (λ (s : Holding). block.from ≡ length s.items → IsTaken s c new block) is (λ b. takes-registration here new c fault registered block built b comes none e same) from

pub registration_refused : (old here new : Holding) (c : Command) (fault : Option RelFault) (registered : Registry) (f : RelFault) (x : Refused) → here ≡ old → is_built c ≡ true
    → ComesOfFault (session_of here) c fault registered → IsFault fault f → new.registry ≡ here.registry → new ≡ record here { registry = new.registry } → x ≡ record { refusal = of_relation f; line = None }
    → Refuses (session_of old) c x × (new ≡ old)
registration_refused old here new c fault registered f x is built comes h e same told = (
  subst (λ (s : Holding). Refuses (session_of s) c x) is
      (subst (λ (y : Refused). Refuses (session_of here) c y) (sym told) (refuses-registration (session_of here) c fault registered f built comes h)),
  same ∙ ap (λ (G : Registry). record here { registry = G }) e ∙ is,
)

-- refused before anything is registered
pub step_refused : (old here : Holding) (c : Command) (first : CommandRefusal) (x : Refused) (told : Refusal) → here ≡ old → is_built c ≡ true → ComesOf (session_of here) c (Err first)
    → TellsRefusal first told → None ≡ line_of first → x ≡ record { refusal = told; line = None } → Refuses (session_of old) c x × (old ≡ old)
step_refused old here c first x told is built comes tells line same = (
  subst (λ (s : Holding). Refuses (session_of s) c x) is (subst (λ (y : Refused). Refuses (session_of here) c y) (sym same)
      (inr (inr (record { command = built; first = first; comes = comes; tells = tells; line = line })))),
  refl,
)
