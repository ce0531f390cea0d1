-- Commands that are taken, and those that are refused.
use Rattle.std.specs.Prelude.{if◌then◌else◌, is_none, option_map, not}
use Rattle.std.proofs.Common.{◌≡◌, ◌≢◌, ◌⊎◌, inl, inr, List, [], ◌∷◌, ◌++◌, length, Bool, true, false, Option, Some, None, Result, Ok, Err, refl, sym, ◌∙◌, ap, subst, append-nil}
use Rattle.std.proofs.lemmas.List.{map-append}
use Rattle.std.proofs.lemmas.List.Sums.{fold-append}
use Rattle.lt_definitions.specs.Types.{Chars, found}
use Rattle.lt_definitions.specs.Terms.{TermTree}
use Rattle.lt_definitions.specs.Alpha.{is_alpha}
use Rattle.lt_definitions.specs.Items as theory
use Rattle.lt_definitions.specs.Items.{Context, with_item}
use Rattle.lt_definitions.specs.Theory as refusals
use Rattle.lt_definitions.specs.Theory.{refusal, unknown_statement, at_fault, not_boolean, duplicate, open_term, loose_type_var, typedef_shape, in_line, bad_line, not_proved}
use Rattle.lt_hol.specs.declared.item.Item.{Item}
use Rattle.lt_hol.specs.Items.{item_of}
use Rattle.lt_texts.specs.Commands.{Command, item_command, law_command}
use Rattle.lt_commands.specs.Views.{command_of}
use Rattle.lt_commands.specs.declared.command.Command.{Command as Data}
use Rattle.lt_commands.specs.declared.command.Command.TheVariants.{TypeDecl, ConstDecl, Axiom, Def, Typedef, Lemma, Law, Corr, Relator, Property, Domain, Rule as RuleCommand, Lifting, LiftingTypedef, QuotientType, Lift, Parametric, ParamRule, Equiv, Implies, Carry, AbsEq, RepEq}
use Rattle.lt_commands.specs.declared.refusal.Refused.{Refused}
use Rattle.lt_commands.specs.declared.refusal.Refusal.{Refusal}
use Rattle.lt_commands.specs.declared.refusal.Refusal.TheVariants.{UnknownLabel, Memory}
use Rattle.lt_conditions.specs.declared.item_fault.ItemFault.{ItemFault}
use Rattle.lt_conditions.specs.Refusing as conditions
use Rattle.lt_extend.specs.Theories.{items_of, context_behind}
use Rattle.lt_extend.proofs.Committed.{behind-item}
use Rattle.lt_walks.specs.PlainWalks as plain
use Rattle.lt_plain.specs.Flattening.{flat, line_in}
use Rattle.lt_plain.specs.Telling.{Tells}
use Rattle.lt_plain.specs.Stepping.{is_item}
use Rattle.lt_plain.proofs.Tellings.{IsTold, told}
use Rattle.lt_laws.specs.declared.law_fault.LawFault.{LawFault}
use Rattle.lt_laws.specs.declared.law_fault.LawFault.TheVariants as faults
use Rattle.lt_laws.specs.declared.law_fault.LawFault.TheVariants.{UnknownLaw, LawDiffers}
use Rattle.lt_laws.specs.Registering.{with_law, differs_from, law_fault, Tests}
use Rattle.lt_transport_definitions.specs.Sessions.{Session, Typedef as TypedefEntry}
use Rattle.lt_transport_definitions.specs.Commands.{CommandRefusal, as_item, because, this_item, Block, law_registered, session_behind, with_typedef_of}
use Rattle.lt_transport_definitions.specs.LawTexts.{law_statement}
use Rattle.lt_transport_definitions.specs.Blocks.{Unless, OfValue, ComesOfRow, ComesOf, Gives}
use Rattle.lt_transport_definitions.specs.Answers.{first_wrong, wrong_where}
use Rattle.lt_transport_definitions.specs.Rows.{Row, BlockOutcome, ◌⊳◌, with_value, adds, item_test}
use Rattle.lt_transport_definitions.specs.Table.{registers}
use Rattle.lt_transport_definitions.specs.TheoryWalks.{line_of}
use Rattle.lt_session.specs.declared.session.Block.{Block as Answered}
use Rattle.lt_session.specs.Sessions.{Holding, session_of, typedefs_of}
use Rattle.lt_session.specs.Taking.{is_built, of_law, TellsRefusal, Refuses, IsTaken, Takes}

-- ---- items

abbrev pub item-block : theory.Item → Block
item-block i = record { additions = this_item i ∷ []; registrations = [] }

comes-item : (s : Session) (i : theory.Item) (o : BlockOutcome) (r : Option refusals.Refusal) → refusal s.context i ≡ r
    → Unless (option_map as_item r) (ComesOfRow s (adds (this_item i ∷ []) [])) o → ComesOf s (item_command i) o
comes-item s i o r e h = subst (λ (z : Option refusals.Refusal). Unless (option_map as_item z) (ComesOfRow s (adds (this_item i ∷ []) [])) o) (sym e) h

pub gives-item : (s : Session) (i : theory.Item) → refusal s.context i ≡ None → Gives s (item_command i) (i ∷ []) (session_behind s (item-block i))
gives-item s i e = (item-block i, comes-item s i _ None e refl, (refl, tt), (e, tt), refl)

typedefs-more : (items : List Item) (item : Item) → typedefs_of (items_of (items ++ item ∷ [])) ≡ with_typedef_of (item_of item) (typedefs_of (items_of items))
typedefs-more items item =
    ap typedefs_of (map-append item_of items (item ∷ [])) ∙ fold-append (λ (ts : List TypedefEntry) (i : theory.Item). with_typedef_of i ts) [] (items_of items) (item_of item ∷ [])

behind-block : (old new : Holding) (item : Item) → new.items ≡ old.items ++ item ∷ [] → new ≡ record old { items = new.items }
    → session_behind (session_of old) (item-block (item_of item)) ≡ session_of new
behind-block old new item h same =
    let e1 : context_behind new.items ≡ with_item (context_behind old.items) (item_of item) = ap context_behind h ∙ behind-item old.items item in
    let e2 : typedefs_of (items_of new.items) ≡ with_typedef_of (item_of item) (typedefs_of (items_of old.items)) = ap (λ (xs : List Item). typedefs_of (items_of xs)) h ∙ typedefs-more old.items item in
    let e3 : session_of (record old { items = new.items }) ≡ session_behind (session_of old) (item-block (item_of item)) =
    λ i. record (session_of old) { context = e1 i; typedefs = e2 i } in
    sym (ap session_of same ∙ e3)

-- An item that is valid over those before it was added.
pub takes-item : (old new : Holding) (item : Item) (block : Answered) → block.from ≡ length old.items → refusal (context_behind old.items) (item_of item) ≡ None → new.items ≡ old.items ++ item ∷ []
    → new ≡ record old { items = new.items } → IsTaken old (item_command (item_of item)) new block
takes-item old new item block from e h same = record {
  command = refl;
  from = from;
  added = item ∷ [];
  items = h;
  gives = subst (λ (s : Session). Gives (session_of old) (item_command (item_of item)) (item_of item ∷ []) s) (behind-block old new item h same) (gives-item (session_of old) (item_of item) e);
  limit = ap (λ (z : Holding). z.limit) same;
}

pub refused-item : (s : Session) (i : theory.Item) (r : refusals.Refusal) → refusal s.context i ≡ Some r → ComesOf s (item_command i) (Err (as_item r))
refused-item s i r e = comes-item s i _ (Some r) e refl

line-same : (r : refusals.Refusal) → plain.line_of r ≡ line_of (as_item r)
line-same (at_fault f) = refl
line-same (not_boolean ty) = refl
line-same (unknown_statement l) = refl
line-same (duplicate n) = refl
line-same open_term = refl
line-same (loose_type_var a) = refl
line-same typedef_shape = refl
line-same (in_line n f) = refl
line-same (bad_line n r) = refl
line-same (not_proved s) = refl

-- An item that isn't valid is refused, for the fault's reason.
pub refuses-item : (s : Holding) (item : Item) (fault : ItemFault) (x : Refused) → conditions.Refuses (refusal (context_behind s.items) (item_of item)) fault → x.refusal ≡ flat fault
    → x.line ≡ line_in fault → Refuses (session_of s) (item_command (item_of item)) x
refuses-item s item fault x h same line = by (told (refusal (context_behind s.items) (item_of item)) fault h)
  where
    by : (flat fault ≡ Memory) ⊎ IsTold (refusal (context_behind s.items) (item_of item)) fault → Refuses (session_of s) (item_command (item_of item)) x
    by (inl m) = inl (same ∙ m)
    by (inr t) = inr (inr (record {
      command = refl;
      first = as_item t.r;
      comes = refused-item (session_of s) (item_of item) t.r t.is;
      tells = subst (λ (y : Refusal). Tells t.r y) (sym same) t.tells;
      line = line ∙ t.line ∙ line-same t.r;
    }))

-- ---- laws

abbrev pub law-row : Session → Chars → Chars → Option TermTree → Row
law-row s w l t = with_value t (as_item (unknown_statement l)) λ u.
    with_value (law_statement w) (because "UnknownLaw" (w ∷ [])) λ law.
    wrong_where (not (is_alpha u law)) (because "LawDiffers" (w ∷ [])) ⊳
    registers (law_registered w l)

abbrev pub label-wrong : Chars → Option TermTree → Option CommandRefusal
label-wrong l t = item_test (wrong_where (is_none t) (unknown_statement l))

-- what comes of `law`, by the statement of its label
comes-law : (s : Session) (w l : Chars) (t : Option TermTree) (o : BlockOutcome) → found l s.context.statements ≡ t
    → Unless (first_wrong (label-wrong l t ∷ None ∷ None ∷ [])) (ComesOfRow s (law-row s w l t)) o → ComesOf s (law_command w l) o
comes-law s w l t o e h = subst (λ (z : Option TermTree). Unless (first_wrong (label-wrong l z ∷ None ∷ None ∷ [])) (ComesOfRow s (law-row s w l z)) o) (sym e) h

abbrev pub law-block : Chars → Chars → Block
law-block w l = record { additions = []; registrations = law_registered w l ∷ [] }

-- what comes of the statement, by that of the law
abbrev pub OfLaw : Session → Chars → Chars → TermTree → Option TermTree → BlockOutcome → Type 0
OfLaw s w l t law o = OfValue law (because "UnknownLaw" (w ∷ [])) (λ u p. Unless (wrong_where (not (is_alpha t u)) (because "LawDiffers" (w ∷ []))) (ComesOfRow s (registers (law_registered w l))) p) o

accepts-by : (s : Session) (w l : Chars) (b : Bool) → (if b then None else Some (LawDiffers w)) ≡ None
    → Unless (wrong_where (not b) (because "LawDiffers" (w ∷ []))) (ComesOfRow s (registers (law_registered w l))) (Ok (law-block w l))
accepts-by s w l true e = refl
accepts-by s w l false e = absurd (cc e)

accepts : (s : Session) (w l : Chars) (t : TermTree) (law : Option TermTree) → differs_from w t law ≡ None → OfLaw s w l t law (Ok (law-block w l))
accepts s w l t None e = absurd (cc e)
accepts s w l t (Some u) e = accepts-by s w l (is_alpha t u) e

unless-law : (s : Session) (w l : Chars) (t : TermTree) (o : BlockOutcome) → OfLaw s w l t (law_statement w) o → ComesOfRow s (law-row s w l (Some t)) o
unless-law s w l t o h = h

pub gives-law : (s : Session) (w l : Chars) (t : TermTree) → found l s.context.statements ≡ Some t → law_fault w t ≡ None → Gives s (law_command w l) [] (session_behind s (law-block w l))
gives-law s w l t e f = (law-block w l, comes-law s w l (Some t) _ e (unless-law s w l t _ (accepts s w l t (law_statement w) f)), tt, tt, refl)

behind-law : (old new : Holding) (w l : Chars) → new.laws ≡ with_law w l old.laws → new ≡ record old { laws = new.laws }
    → session_behind (session_of old) (law-block w l) ≡ session_of new
behind-law old new w l k same =
    let e : session_of (record old { laws = new.laws }) ≡ session_behind (session_of old) (law-block w l) = λ i. record (session_of old) { laws = k i } in
    sym (ap session_of same ∙ e)

-- A law was registered.
pub takes-law : (old new : Holding) (w l : Chars) (t : TermTree) (block : Answered) → block.from ≡ length old.items → found l (context_behind old.items).statements ≡ Some t → law_fault w t ≡ None
    → new.laws ≡ with_law w l old.laws → new ≡ record old { laws = new.laws } → IsTaken old (law_command w l) new block
takes-law old new w l t block from e f k same = record {
  command = refl;
  from = from;
  added = [];
  items = ap (λ (z : Holding). z.items) same ∙ sym (append-nil old.items);
  gives = subst (λ (s : Session). Gives (session_of old) (law_command w l) [] s) (behind-law old new w l k same) (gives-law (session_of old) w l t e f);
  limit = ap (λ (z : Holding). z.limit) same;
}

-- the refusal of a law, as one of the table
abbrev pub law-refusal : LawFault → CommandRefusal
law-refusal (faults.UnknownLaw x) = because "UnknownLaw" (x ∷ [])
law-refusal (faults.LawDiffers x) = because "LawDiffers" (x ∷ [])
law-refusal (faults.MissingLaw x) = because "MissingLaw" (x ∷ [])
law-refusal faults.Memory = because "Memory" []

differs-by : (s : Session) (w l : Chars) (b : Bool) (f : LawFault) → (if b then None else Some (LawDiffers w)) ≡ Some f
    → Unless (wrong_where (not b) (because "LawDiffers" (w ∷ []))) (ComesOfRow s (registers (law_registered w l))) (Err (law-refusal f))
differs-by s w l true f e = absurd (cc e)
differs-by s w l false f e = let z : LawDiffers w ≡ f = cc e in ap (λ (y : LawFault). Err (law-refusal y)) (sym z)

differs : (s : Session) (w l : Chars) (t : TermTree) (law : Option TermTree) (f : LawFault) → differs_from w t law ≡ Some f → OfLaw s w l t law (Err (law-refusal f))
differs s w l t None f e = let z : UnknownLaw w ≡ f = cc e in ap (λ (y : LawFault). Err (law-refusal y)) (sym z)
differs s w l t (Some u) f e = differs-by s w l (is_alpha t u) f e

tells-law : (f : LawFault) → TellsRefusal (law-refusal f) (of_law f)
tells-law (faults.UnknownLaw x) = refl
tells-law (faults.LawDiffers x) = refl
tells-law (faults.MissingLaw x) = refl
tells-law faults.Memory = refl

no-line : (f : LawFault) → None ≡ line_of (law-refusal f)
no-line (faults.UnknownLaw x) = refl
no-line (faults.LawDiffers x) = refl
no-line (faults.MissingLaw x) = refl
no-line faults.Memory = refl

pub refused-law : (s : Session) (w l : Chars) (t : TermTree) (f : LawFault) → found l s.context.statements ≡ Some t → law_fault w t ≡ Some f → ComesOf s (law_command w l) (Err (law-refusal f))
refused-law s w l t f e h = comes-law s w l (Some t) _ e (unless-law s w l t _ (differs s w l t (law_statement w) f h))

pub refused-label : (s : Session) (w l : Chars) → found l s.context.statements ≡ None → ComesOf s (law_command w l) (Err (as_item (unknown_statement l)))
refused-label s w l e = comes-law s w l None _ e refl

told-law : (s : Holding) (w l : Chars) (t : TermTree) (f : LawFault) → found l (context_behind s.items).statements ≡ Some t → law_fault w t ≡ Some f
    → Refuses (session_of s) (law_command w l) (record { refusal = of_law f; line = None })
told-law s w l t f e h =
    inr (inr (record { command = refl; first = law-refusal f; comes = refused-law (session_of s) w l t f e h; tells = tells-law f; line = no-line f }))

-- The statement isn't that of the law.
pub refuses-law : (s : Holding) (w l : Chars) (t : TermTree) (f : LawFault) → found l (context_behind s.items).statements ≡ Some t → Tests w t (Err f)
    → Refuses (session_of s) (law_command w l) (record { refusal = of_law f; line = None })
refuses-law s w l t (faults.UnknownLaw x) e h = told-law s w l t (faults.UnknownLaw x) e h
refuses-law s w l t (faults.LawDiffers x) e h = told-law s w l t (faults.LawDiffers x) e h
refuses-law s w l t (faults.MissingLaw x) e h = absurd h
refuses-law s w l t faults.Memory e h = inl refl

-- No statement has the label.
pub refuses-label : (s : Holding) (w l : Chars) → found l (context_behind s.items).statements ≡ None
    → Refuses (session_of s) (law_command w l) (record { refusal = UnknownLabel l; line = None })
refuses-label s w l e =
    inr (inr (record { command = refl; first = as_item (unknown_statement l); comes = refused-label (session_of s) w l e; tells = refl; line = refl }))

-- ---- what a step answers, by the session before it is opened

pub item_taken : (old here new : Holding) (item : Item) (block : Answered) → here ≡ old → block.from ≡ length old.items → refusal (context_behind here.items) (item_of item) ≡ None
    → new.items ≡ here.items ++ item ∷ [] → new ≡ record here { items = new.items } → IsTaken old (item_command (item_of item)) new block
item_taken old here new item block is from e h same =
    subst (λ (s : Holding). block.from ≡ length s.items → IsTaken s (item_command (item_of item)) new block) is (λ f. takes-item here new item block f e h same) from

pub item_refused : (old here new : Holding) (item : Item) (fault : ItemFault) (x : Refused) → here ≡ old → conditions.Refuses (refusal (context_behind here.items) (item_of item)) fault
    → new.items ≡ here.items → new ≡ record here { items = new.items } → x.refusal ≡ flat fault → x.line ≡ line_in fault
    → Refuses (session_of old) (item_command (item_of item)) x × (new ≡ old)
item_refused old here new item fault x is h e same flattened line = (
  subst (λ (s : Holding). Refuses (session_of s) (item_command (item_of item)) x) is (refuses-item here item fault x h flattened line),
  same ∙ ap (λ (xs : List Item). record here { items = xs }) e ∙ is,
)

pub law_taken : (old here new : Holding) (w l : Chars) (t : TermTree) (block : Answered) → here ≡ old → block.from ≡ length old.items → found l (context_behind here.items).statements ≡ Some t
    → law_fault w t ≡ None → new.laws ≡ with_law w l here.laws → new ≡ record here { laws = new.laws } → IsTaken old (law_command w l) new block
law_taken old here new w l t block is from e f k same =
    subst (λ (s : Holding). block.from ≡ length s.items → IsTaken s (law_command w l) new block) is (λ b. takes-law here new w l t block b e f k same) from

pub law_refused : (old here new : Holding) (w l : Chars) (t : TermTree) (f : LawFault) (x : Refused) → here ≡ old → found l (context_behind here.items).statements ≡ Some t → Tests w t (Err f)
    → new.laws ≡ here.laws → new ≡ record here { laws = new.laws } → x ≡ record { refusal = of_law f; line = None }
    → Refuses (session_of old) (law_command w l) x × (new ≡ old)
law_refused old here new w l t f x is e h k same told = (
  subst (λ (s : Holding). Refuses (session_of s) (law_command w l) x) is
      (subst (λ (y : Refused). Refuses (session_of here) (law_command w l) y) (sym told) (refuses-law here w l t f e h)),
  same ∙ ap (λ (laws : List (Chars × Chars)). record here { laws = laws }) k ∙ is,
)

pub label_refused : (old here : Holding) (w l : Chars) (x : Refused) → here ≡ old → found l (context_behind here.items).statements ≡ None → x ≡ record { refusal = UnknownLabel l; line = None }
    → Refuses (session_of old) (law_command w l) x × (old ≡ old)
label_refused old here w l x is e same = (
  subst (λ (s : Holding). Refuses (session_of s) (law_command w l) x) is
      (subst (λ (y : Refused). Refuses (session_of here) (law_command w l) y) (sym same) (refuses-label here w l e)),
  refl,
)

pub takes_ok : (old new : Holding) (c : Command) (block : Answered) (r : Result Answered Refused) → r ≡ Ok block → IsTaken old c new block → Takes old c new r
takes_ok old new c block r is h = subst (λ (z : Result Answered Refused). Takes old c new z) (sym is) h

pub takes_err : (old new : Holding) (c : Command) (x : Refused) (r : Result Answered Refused) → r ≡ Err x → Refuses (session_of old) c x × (new ≡ old) → Takes old c new r
takes_err old new c x r is h = subst (λ (z : Result Answered Refused). Takes old c new z) (sym is) h

-- ---- other commands

-- A command that adds no item, and is neither `law` nor `corr`, isn't built.
pub other-unbuilt : (c : Data) → is_item (command_of c) ≡ false → ((w l : Chars) → c ≢ Law w l) → ((a : Chars) → c ≢ Corr a) → is_built (command_of c) ≡ false
other-unbuilt (TypeDecl a b) h k m = absurd (cc h)
other-unbuilt (ConstDecl a b) h k m = absurd (cc h)
other-unbuilt (Axiom a b) h k m = absurd (cc h)
other-unbuilt (Def a b d) h k m = absurd (cc h)
other-unbuilt (Typedef a b d e f g) h k m = absurd (cc h)
other-unbuilt (Lemma a b d) h k m = absurd (cc h)
other-unbuilt (Law a b) h k m = absurd (k a b refl)
other-unbuilt (Corr a) h k m = absurd (m a refl)
other-unbuilt (Relator a b d e f g) h k m = refl
other-unbuilt (Property a) h k m = refl
other-unbuilt (Domain a) h k m = refl
other-unbuilt (RuleCommand a) h k m = refl
other-unbuilt (Lifting a) h k m = refl
other-unbuilt (LiftingTypedef a) h k m = refl
other-unbuilt (QuotientType a b d e) h k m = refl
other-unbuilt (Lift a b d e) h k m = refl
other-unbuilt (Parametric a) h k m = refl
other-unbuilt (ParamRule a b d) h k m = refl
other-unbuilt (Equiv a b) h k m = refl
other-unbuilt (Implies a b) h k m = refl
other-unbuilt (Carry a b d) h k m = refl
other-unbuilt (AbsEq a) h k m = refl
other-unbuilt (RepEq a) h k m = refl
