-- What comes of `corr`.
use Rattle.std.proofs.Common.{◌≡◌, List, [], ◌∷◌, length, Bool, true, false, Option, Some, None, Err, Ok, refl, sym, ap, subst, codes}
use Rattle.std.specs.Prelude.{is_none}
use Rattle.lt_definitions.specs.Types.{Chars, TypeTree}
use Rattle.lt_definitions.specs.Typing.{Signature, declared_type, unknown_const}
use Rattle.lt_definitions.specs.Theory.{at_fault}
use Rattle.lt_texts.specs.Commands.{corr_command}
use Rattle.lt_hol.specs.declared.form_part.RelatorPart.TheVariants.{Corr}
use Rattle.lt_extend.specs.Theories.{context_behind}
use Rattle.lt_commands.specs.declared.refusal.Refused.{Refused}
use Rattle.lt_commands.specs.declared.refusal.Refusal.TheVariants.{UnknownConst}
use Rattle.lt_relations.specs.declared.rel_fault.RelFault.{RelFault}
use Rattle.lt_relations.specs.declared.rel_fault.RelFault.TheVariants as faults
use Rattle.lt_relations.specs.Registering.{IsFault}
use Rattle.lt_relations.specs.Reading.{corr_fault, with_declared, correspondence_over}
use Rattle.lt_transport_definitions.specs.Answers.{given, only_where, first_wrong, wrong_where}
use Rattle.lt_transport_definitions.specs.Relations.{Correspondence, kind_of, is_constructor}
use Rattle.lt_transport_definitions.specs.Patterns.{relation_sides}
use Rattle.lt_transport_definitions.specs.Forms.{correspondence_form, declared_correspondence}
use Rattle.lt_transport_definitions.specs.Sessions.{Session, signature_of}
use Rattle.lt_transport_definitions.specs.Commands.{CommandRefusal, as_item, corr_registered, with_registry, with_registration, Registration}
use Rattle.lt_transport_definitions.specs.Rows.{BlockOutcome, item_test}
use Rattle.lt_transport_definitions.specs.Table.{registers, relator_shape, constructor_test}
use Rattle.lt_transport_definitions.specs.Blocks.{Unless, OfValue, ComesOfRow, ComesOf}
use Rattle.lt_session.specs.declared.session.Block.{Block as Answered}
use Rattle.lt_session.specs.Sessions.{Holding, session_of}
use Rattle.lt_session.specs.Taking.{of_relation, Refuses, IsTaken}
use Rattle.lt_session.proofs.Registerings.{one-registration, fault-refusal, unless-free, unless-there, ComesOfFault, registration_taken, registration_refused, step_refused}

-- ---- a correspondence has the constant's name

only-value : {A : Type 0} (b : Bool) (x y : A) → only_where b x ≡ Some y → x ≡ y
only-value true x y e = cc e
only-value false x y e = absurd (cc e)

sides-name : (c : Chars) (s : Option (TypeTree × TypeTree)) (make : TypeTree × TypeTree → Option Correspondence) → ((p : TypeTree × TypeTree) (d : Correspondence) → make p ≡ Some d → d.name ≡ c)
    → (d : Correspondence) → given s make ≡ Some d → d.name ≡ c
sides-name c None make h d e = absurd (cc e)
sides-name c (Some p) make h d e = h p d e

over-name : (c : Chars) (p : TypeTree × TypeTree) (d : Correspondence) → correspondence_over c p ≡ Some d → d.name ≡ c
over-name c p d e = sym (ap (λ (y : Correspondence). y.name) (only-value _ _ d e))

form-name : (c : Chars) (ty : TypeTree) (d : Correspondence) → correspondence_form c ty ≡ Some d → d.name ≡ c
form-name c ty d e = sides-name c (relation_sides ty) (correspondence_over c) (over-name c) d e

declared-name : (c : Chars) (t : Option TypeTree) (d : Correspondence) → given t (correspondence_form c) ≡ Some d → d.name ≡ c
declared-name c None d e = absurd (cc e)
declared-name c (Some ty) d e = form-name c ty d e

-- ---- what comes of the command, by the constant's type and the correspondence that it is

abbrev pub OfCorr : Session → Chars → Option Correspondence → BlockOutcome → Type 0
OfCorr s c d o =
    OfValue d (relator_shape (codes "Corr")) (λ e p. Unless (constructor_test s.registry c) (ComesOfRow s (registers (corr_registered e))) p) o

abbrev pub const-wrong : Chars → Option TypeTree → Option CommandRefusal
const-wrong c t = item_test (wrong_where (is_none t) (at_fault (unknown_const c)))

comes-corr : (s : Session) (c : Chars) (t : Option TypeTree) (d : Option Correspondence) (o : BlockOutcome) → declared_type (signature_of s) c ≡ t → declared_correspondence (signature_of s) c ≡ d
    → Unless (first_wrong (const-wrong c t ∷ None ∷ None ∷ [])) (OfCorr s c d) o → ComesOf s (corr_command c) o
comes-corr s c t d o e f h =
    subst (λ (z : Option TypeTree). Unless (first_wrong (const-wrong c z ∷ None ∷ None ∷ [])) (OfCorr s c (declared_correspondence (signature_of s) c)) o) (sym e)
    (subst (λ (z : Option Correspondence). Unless (first_wrong (const-wrong c t ∷ None ∷ None ∷ [])) (OfCorr s c z) o) (sym f) h)

pub refused-const : (s : Session) (c : Chars) → declared_type (signature_of s) c ≡ None → ComesOf s (corr_command c) (Err (as_item (at_fault (unknown_const c))))
refused-const s c e = comes-corr s c None _ _ e refl refl

-- the test of the constant's name, by that of the correspondence
by-name : (s : Session) (c : Chars) (d : Correspondence) (o : BlockOutcome) → d.name ≡ c → Unless (constructor_test s.registry d.name) (ComesOfRow s (registers (corr_registered d))) o
    → OfCorr s c (Some d) o
by-name s c d o is h = subst (λ (x : Chars). Unless (constructor_test s.registry x) (ComesOfRow s (registers (corr_registered d))) o) is h

of-taken : (s : Session) (c : Chars) (d : Option Correspondence) → ((z : Correspondence) → d ≡ Some z → z.name ≡ c) → corr_fault d s.registry ≡ None
    → (r : Registration) × OfCorr s c d (Ok (one-registration r)) × (with_registration s r ≡ with_registry s (with_declared d s.registry))
of-taken s c None named h = absurd (cc h)
of-taken s c (Some d) named h =
    (corr_registered d, by-name s c d _ (named d refl) (unless-free (is_constructor (kind_of s.registry d.name)) (faults.Duplicate d.name) _ _ _ h refl), refl)

of-refused : (s : Session) (c : Chars) (d : Option Correspondence) (f : RelFault) → ((z : Correspondence) → d ≡ Some z → z.name ≡ c) → corr_fault d s.registry ≡ Some f → OfCorr s c d (Err (fault-refusal f))
of-refused s c None f named h = let same : faults.RelatorShape Corr ≡ f = cc h in ap (λ (g : RelFault). Err (fault-refusal g)) (sym same)
of-refused s c (Some d) f named h = by-name s c d _ (named d refl) (unless-there (is_constructor (kind_of s.registry d.name)) (faults.Duplicate d.name) f _ h)

pub corr-comes : (s : Session) (c : Chars) (ty : TypeTree) → declared_type (signature_of s) c ≡ Some ty
    → ComesOfFault s (corr_command c) (corr_fault (declared_correspondence (signature_of s) c) s.registry) (with_declared (declared_correspondence (signature_of s) c) s.registry)
corr-comes s c ty e =
    let d : Option Correspondence = declared_correspondence (signature_of s) c in
    let named : (z : Correspondence) → d ≡ Some z → z.name ≡ c = declared-name c (declared_type (signature_of s) c) in
    record {
      taken = λ none. let t = of-taken s c d named none in (t.0, comes-corr s c (Some ty) d _ e refl t.1, t.2);
      refused = λ f h. comes-corr s c (Some ty) d _ e refl (of-refused s c d f named h);
    }

corr-at : (here : Holding) (sig : Signature) (c : Chars) (ty : TypeTree) → sig ≡ (context_behind here.items).signature → declared_type sig c ≡ Some ty
    → ComesOfFault (session_of here) (corr_command c) (corr_fault (declared_correspondence sig c) here.registry) (with_declared (declared_correspondence sig c) here.registry)
corr-at here sig c ty in-step e =
    subst (λ (s : Signature). declared_type s c ≡ Some ty → ComesOfFault (session_of here) (corr_command c) (corr_fault (declared_correspondence s c) here.registry) (with_declared (declared_correspondence s c) here.registry))
    (sym in-step) (corr-comes (session_of here) c ty) e

-- ---- what the step answers, where the signature is that of the session

pub corr_taken : (old here new : Holding) (sig : Signature) (c : Chars) (ty : TypeTree) (block : Answered) → here ≡ old → block.from ≡ length old.items → sig ≡ (context_behind here.items).signature
    → declared_type sig c ≡ Some ty → corr_fault (declared_correspondence sig c) here.registry ≡ None → new.registry ≡ with_declared (declared_correspondence sig c) here.registry
    → new ≡ record here { registry = new.registry } → IsTaken old (corr_command c) new block
corr_taken old here new sig c ty block is from in-step e none G same =
    registration_taken old here new (corr_command c) (corr_fault (declared_correspondence sig c) here.registry) (with_declared (declared_correspondence sig c) here.registry) block is refl from
    (corr-at here sig c ty in-step e) none G same

pub corr_refused : (old here new : Holding) (sig : Signature) (c : Chars) (ty : TypeTree) (f : RelFault) (x : Refused) → here ≡ old → sig ≡ (context_behind here.items).signature → declared_type sig c ≡ Some ty
    → IsFault (corr_fault (declared_correspondence sig c) here.registry) f → new.registry ≡ here.registry → new ≡ record here { registry = new.registry }
    → x ≡ record { refusal = of_relation f; line = None } → Refuses (session_of old) (corr_command c) x × (new ≡ old)
corr_refused old here new sig c ty f x is in-step e h G same told =
    registration_refused old here new (corr_command c) (corr_fault (declared_correspondence sig c) here.registry) (with_declared (declared_correspondence sig c) here.registry) f x is refl
    (corr-at here sig c ty in-step e) h G same told

pub const_refused : (old here : Holding) (sig : Signature) (c : Chars) (x : Refused) → here ≡ old → sig ≡ (context_behind here.items).signature → declared_type sig c ≡ None
    → x ≡ record { refusal = UnknownConst c; line = None } → Refuses (session_of old) (corr_command c) x × (old ≡ old)
const_refused old here sig c x is in-step e told =
    step_refused old here (corr_command c) (as_item (at_fault (unknown_const c))) x (UnknownConst c) is refl
    (refused-const (session_of here) c (subst (λ (s : Signature). declared_type s c ≡ None) in-step e)) refl refl told
