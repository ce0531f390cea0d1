-- What a kernel answers for a line, and what the line derives.
use Rattle.std.proofs.Common.{◌≡◌, ℕ, zero, suc, ◌+◌, ◌≤◌, List, [], ◌∷◌, ◌++◌, length, map, drop, slice_get, Bool, true, Option, Some, None, option_map, Result, Ok, Err, refl, sym, ◌∙◌, ap, subst, arith}
use Rattle.std.specs.List.{list_all}
use Rattle.std.proofs.lemmas.List.{map-append, drop_all, length-map}
use Rattle.std.proofs.lemmas.Option.{slice_get-map}
use Rattle.lt_definitions.proofs.SameNames.{both-true}
use Rattle.lt_definitions.specs.declared.reason.Reason.{Reason}
use Rattle.lt_definitions.specs.Terms.{TermTree}
use Rattle.lt_definitions.specs.Typing.{Signature, Fault, unknown_type, arity, unknown_const, type_args, unbound, mismatch}
use Rattle.lt_definitions.specs.Items.{Context}
use Rattle.lt_definitions.specs.Rules.{Sequent, Rule, Outcome, step}
use Rattle.lt_definitions.specs.Derivations.{LineFault, ill_typed, no_step, line_outcome, term_fault, rule_fault, derived, derived_after}
use Rattle.lt_definitions.specs.Theory.{in_line, bad_line, proof_test}
use Rattle.lt_nameless.specs.Nameless.{NamelessSequent, nameless_sequent}
use Rattle.lt_nameless.specs.NamelessRules.{nameless_outcome, nameless_step}
use Rattle.lt_nameless.proofs.NamelessSteps.{step_is_nameless}
use Rattle.lt_hol.specs.Faults.{Finds}
use Rattle.lt_hol.specs.declared.type_fault.TypeFault as faults
use Rattle.lt_hol.specs.declared.type_fault.TypeFault.{TypeFault}
use Rattle.lt_hol.specs.declared.line.Line.{Line}
use Rattle.lt_store.specs.declared.node.Node.{Node}
use Rattle.lt_kernel.specs.Sequents.{sequent_at, sequents_at}
use Rattle.lt_kernel.specs.State.{State, step_of, Keeps, AddsLine}
use Rattle.lt_conditions.specs.declared.item_fault.ItemFault.{ItemFault}
use Rattle.lt_conditions.specs.declared.item_fault.ItemFault.TheVariants.{Duplicate, UnknownType, Arity, UnknownConst, TypeArgs, Unbound, Mismatch, NotBool, UnknownLabel, OpenTerm, LooseTypeVar, TypedefShape, InLine, BadLine, NotProved, Memory}
use Rattle.lt_conditions.specs.Refusing.{Refuses}
use Rattle.lt_extend.specs.Standing.{StandsFor}
use Rattle.lt_extend.specs.Storing.{IsStoredLine, StoresLine}
use Rattle.lt_extend.specs.Deriving.{HasSequents, outcome_of, RefusesLine, line_fault, at_number, wrong_line, DerivesLine, DerivesLines}

pub ok-outcome : (o : Outcome) (q : NamelessSequent) → nameless_outcome o ≡ Ok q → (s : Sequent) × (o ≡ Ok s) × (nameless_sequent s ≡ q)
ok-outcome (Ok s) q e = (s, refl, cc e)
ok-outcome (Err r) q e = absurd (cc e)

err-outcome : (o : Outcome) (r : Reason) → nameless_outcome o ≡ Err r → o ≡ Err r
err-outcome (Ok s) r e = absurd (cc e)
err-outcome (Err k) r e = let same : k ≡ r = cc e in ap Err same

-- what the kernel's rule gives is what the rule gives, without binder names
step-of : (ctx : Context) (done : List Sequent) (rule : Rule TermTree) (old mid : State) (line : Line) → StandsFor ctx old → HasSequents old done → Keeps old mid
    → IsStoredLine old.signature mid.nodes rule line → nameless_outcome (step ctx.signature ctx.statements done rule) ≡ step_of mid line
step-of ctx done rule old mid line h d k s =
    step_is_nameless ctx.signature ctx.statements done rule (ap (λ (sig : Signature). rule_fault sig (term_fault sig) rule) (sym h.signature) ∙ s.typed)
    ∙ sym (λ i. nameless_step ((k.stays.signature ∙ h.signature) i) ((k.stays.statements ∙ h.statements) i) ((k.sequents ∙ d) i) (s.is i))

typed-outcome : (ctx : Context) (done : List Sequent) (rule : Rule TermTree) (old : State) (o : Outcome) → StandsFor ctx old → rule_fault old.signature (term_fault old.signature) rule ≡ None
    → step ctx.signature ctx.statements done rule ≡ o → outcome_of ctx done rule ≡ line_outcome None o
typed-outcome ctx done rule old o h t e = λ i. line_outcome ((ap (λ (sig : Signature). rule_fault sig (term_fault sig) rule) (sym h.signature) ∙ t) i) (e i)

-- one more line
pub line-added : (ctx : Context) (done : List Sequent) (rule : Rule TermTree) (old mid new : State) (line : Line) (n number : ℕ) → StandsFor ctx old → HasSequents old done → Keeps old mid
    → IsStoredLine old.signature mid.nodes rule line → AddsLine mid new line (step_of mid line) n → DerivesLine ctx done rule number new (Ok tt)
line-added ctx done rule old mid new line n number h d k s a =
    let got = ok-outcome (step ctx.signature ctx.statements done rule) (sequent_at new.nodes a.step.sequent) (step-of ctx done rule old mid line h d k s ∙ a.gives) in (
      got.0,
      typed-outcome ctx done rule old (Ok got.0) h s.typed got.1,
      a.sequents ∙ (λ i. (k.sequents ∙ d) i ++ sym got.2 i ∷ []) ∙ sym (map-append nameless_sequent done (got.0 ∷ [])),
    )

-- a line whose rule gives nothing
pub line-bad : (ctx : Context) (done : List Sequent) (rule : Rule TermTree) (old mid new : State) (line : Line) (r : Reason) (number : ℕ) → StandsFor ctx old → HasSequents old done → Keeps old mid
    → IsStoredLine old.signature mid.nodes rule line → step_of mid line ≡ Err r → DerivesLine ctx done rule number new (Err (BadLine number r))
line-bad ctx done rule old mid new line r number h d k s e =
    ap (at_number number) (typed-outcome ctx done rule old (Err r) h s.typed (err-outcome (step ctx.signature ctx.statements done rule) r (step-of ctx done rule old mid line h d k s ∙ e)))

ill-typed : (o : Option Fault) (outcome : Outcome) (n : ℕ) (f : Fault) → o ≡ Some f → at_number n (line_outcome o outcome) ≡ Some (n, ill_typed f)
ill-typed o outcome n f h = ap (λ (p : Option Fault). at_number n (line_outcome p outcome)) h

fault-told : (o : Option Fault) (outcome : Outcome) (n : ℕ) (e : TypeFault) → Finds o e → RefusesLine (at_number n (line_outcome o outcome)) (line_fault n e)
fault-told o outcome n (faults.TheVariants.Duplicate c) h = absurd h
fault-told o outcome n (faults.TheVariants.UnknownType c) h = (unknown_type c, ill-typed o outcome n (unknown_type c) h, refl)
fault-told o outcome n (faults.TheVariants.Arity c) h = (arity c, ill-typed o outcome n (arity c) h, refl)
fault-told o outcome n (faults.TheVariants.UnknownConst c) h = (unknown_const c, ill-typed o outcome n (unknown_const c) h, refl)
fault-told o outcome n (faults.TheVariants.TypeArgs c) h = (type_args c, ill-typed o outcome n (type_args c) h, refl)
fault-told o outcome n (faults.TheVariants.Unbound x) h = (unbound x, ill-typed o outcome n (unbound x) h, refl)
fault-told o outcome n (faults.TheVariants.Mismatch t u) h = (mismatch t u, ill-typed o outcome n (mismatch t u) h, refl)
fault-told o outcome n faults.TheVariants.Memory h = tt

-- a line whose types or terms have a fault
pub line-refused : (ctx : Context) (done : List Sequent) (rule : Rule TermTree) (old new : State) (nodes : List Node) (e : TypeFault) (number : ℕ) → StandsFor ctx old
    → StoresLine old.signature nodes rule (Err e) → DerivesLine ctx done rule number new (Err (line_fault number e))
line-refused ctx done rule old new nodes e number h s =
    fault-told (rule_fault ctx.signature (term_fault ctx.signature) rule) (step ctx.signature ctx.statements done rule) number e
    (subst (λ (sig : Signature). Finds (rule_fault sig (term_fault sig) rule) e) h.signature s)

-- ---- all lines

at-place : {A : Type 0} (xs : List A) (i : ℕ) (x : A) → slice_get xs i ≡ Some x → drop i xs ≡ x ∷ drop (suc i) xs
at-place [] i x e = absurd (cc e)
at-place (y ∷ ys) zero x e = let same : y ≡ x = cc e in ap (λ z. z ∷ ys) same
at-place (y ∷ ys) (suc i) x e = at-place ys i x e

rest-is : {A B : Type 0} (f : A → B) (xs : List A) (i : ℕ) (x : A) → slice_get xs i ≡ Some x → drop i (map f xs) ≡ f x ∷ drop (i + 1) (map f xs)
rest-is f xs i x e =
    let next : suc i ≡ i + 1 = omega arith in
    at-place (map f xs) i (f x) (slice_get-map f xs i ∙ ap (option_map f) e) ∙ ap (λ (k : ℕ). f x ∷ drop k (map f xs)) next

-- the lines before a place have sequents, and what the lines derive hangs on the others
pub record IsDerivedTo (ctx : Context) (rules : List (Rule TermTree)) (i : ℕ) (now : State) : Type 0 where
  pub done : List Sequent
  pub sequents : HasSequents now done
  pub rest : derived ctx.signature ctx.statements [] rules ≡ derived ctx.signature ctx.statements done (drop i rules)

pub derived-first : (ctx : Context) (rules : List (Rule TermTree)) (now : State) → now.steps ≡ [] → IsDerivedTo ctx rules 0 now
derived-first ctx rules now e = record { done = []; sequents = ap (λ steps. sequents_at now.nodes steps) e; rest = refl }

pub derived-next : (ctx : Context) (f : Line → Rule TermTree) (lines : List Line) (i n : ℕ) (line : Line) (old new : State) → StandsFor ctx old → slice_get lines i ≡ Some line
    → IsDerivedTo ctx (map f lines) i old → ((done : List Sequent) → HasSequents old done → DerivesLine ctx done (f line) n new (Ok tt)) → IsDerivedTo ctx (map f lines) (i + 1) new
derived-next ctx f lines i n line old new h e d g = let got = g d.done d.sequents in record {
  done = d.done ++ got.0 ∷ [];
  sequents = got.2;
  rest = d.rest ∙ ap (derived ctx.signature ctx.statements d.done) (rest-is f lines i line e)
      ∙ ap (λ o. derived_after o (length d.done + 1) (λ s. derived ctx.signature ctx.statements (d.done ++ s ∷ []) (drop (i + 1) (map f lines)))) got.1;
}

-- what is told where no line is wrong is want of memory
pub only-memory : (e : ItemFault) → RefusesLine None e → e ≡ Memory
only-memory (InLine n f) h = absurd (cc h.1)
only-memory (BadLine n r) h = absurd (cc h)
only-memory Memory h = refl
only-memory (Duplicate n) h = absurd h
only-memory (UnknownType n) h = absurd h
only-memory (Arity n) h = absurd h
only-memory (UnknownConst n) h = absurd h
only-memory (TypeArgs n) h = absurd h
only-memory (Unbound n) h = absurd h
only-memory (Mismatch t u) h = absurd h
only-memory (NotBool ty) h = absurd h
only-memory (UnknownLabel l) h = absurd h
only-memory OpenTerm h = absurd h
only-memory (LooseTypeVar a) h = absurd h
only-memory TypedefShape h = absurd h
only-memory (NotProved s) h = absurd h

refused-after : (o : Result Sequent LineFault) (n : ℕ) (k : Sequent → Result (List Sequent) (ℕ × LineFault)) (e : ItemFault) → RefusesLine (at_number n o) e
    → RefusesLine (wrong_line (derived_after o n k)) e
refused-after (Err f) n k e h = h
refused-after (Ok s) n k e h = subst (λ (q : ItemFault). RefusesLine (wrong_line (k s)) q) (sym (only-memory e h)) tt

-- so many lines have so many sequents
pub done-length : (s : State) (done : List Sequent) → HasSequents s done → length done ≡ length s.steps
done-length s done h = sym (length-map done nameless_sequent) ∙ ap length (sym h) ∙ length-map s.steps (λ q. sequent_at s.nodes q.sequent)

-- a line that derives nothing
pub derived-wrong : (ctx : Context) (f : Line → Rule TermTree) (lines : List Line) (i n : ℕ) (line : Line) (old new : State) (e : ItemFault) → StandsFor ctx old → slice_get lines i ≡ Some line
    → n ≡ length old.steps + 1 → IsDerivedTo ctx (map f lines) i old → ((done : List Sequent) → HasSequents old done → DerivesLine ctx done (f line) n new (Err e))
    → DerivesLines ctx (map f lines) new (Err e)
derived-wrong ctx f lines i n line old new e h at m d g =
    let number : n ≡ length d.done + 1 = m ∙ ap (λ (k : ℕ). k + 1) (sym (done-length old d.done d.sequents)) in
    let later : Sequent → Result (List Sequent) (ℕ × LineFault) = λ s. derived ctx.signature ctx.statements (d.done ++ s ∷ []) (drop (i + 1) (map f lines)) in
    subst (λ (o : Result (List Sequent) (ℕ × LineFault)). RefusesLine (wrong_line o) e)
    (sym (d.rest ∙ ap (derived ctx.signature ctx.statements d.done) (rest-is f lines i line at)))
    (refused-after (outcome_of ctx d.done (f line)) (length d.done + 1) later e
    (subst (λ (k : ℕ). RefusesLine (at_number k (outcome_of ctx d.done (f line))) e) number (g d.done d.sequents)))

-- behind the last line
pub derived-last : (ctx : Context) (rules : List (Rule TermTree)) (i : ℕ) (now : State) → length rules ≤ i → IsDerivedTo ctx rules i now → DerivesLines ctx rules now (Ok tt)
derived-last ctx rules i now h d = (d.done, d.rest ∙ ap (derived ctx.signature ctx.statements d.done) (drop_all i rules h), d.sequents)

-- a line's places are within
pub line-within : (p : Line → Bool) (lines : List Line) (i : ℕ) (line : Line) → list_all p lines ≡ true → slice_get lines i ≡ Some line → p line ≡ true
line-within p [] i line h e = absurd (cc e)
line-within p (l ∷ ls) zero line h e = let same : l ≡ line = cc e in ap p (sym same) ∙ (both-true (p l) (list_all p ls) h).0
line-within p (l ∷ ls) (suc i) line h e = line-within p ls i line (both-true (p l) (list_all p ls) h).1 e

-- ---- what is told of a lemma

lines-refused-typed : (n : ℕ) (f : Fault) (e : ItemFault) → RefusesLine (Some (n, ill_typed f)) e → Refuses (Some (in_line n f)) e
lines-refused-typed n f (InLine m g) h =
    let pair : (n, ill_typed f) ≡ (m, ill_typed h.0) = cc h.1 in
    let number : n ≡ m = ap (λ (q : ℕ × LineFault). q.0) pair in
    let typed : ill_typed f ≡ ill_typed h.0 = ap (λ (q : ℕ × LineFault). q.1) pair in
    let fault : f ≡ h.0 = cc typed in
    (h.0, λ i. Some (in_line (number i) (fault i)), h.2)
lines-refused-typed n f (BadLine m r) h =
    let pair : (n, ill_typed f) ≡ (m, no_step r) = cc h in
    let no : ill_typed f ≡ no_step r = ap (λ (q : ℕ × LineFault). q.1) pair in
    absurd (cc no)
lines-refused-typed n f Memory h = tt
lines-refused-typed n f (Duplicate c) h = absurd h
lines-refused-typed n f (UnknownType c) h = absurd h
lines-refused-typed n f (Arity c) h = absurd h
lines-refused-typed n f (UnknownConst c) h = absurd h
lines-refused-typed n f (TypeArgs c) h = absurd h
lines-refused-typed n f (Unbound c) h = absurd h
lines-refused-typed n f (Mismatch t u) h = absurd h
lines-refused-typed n f (NotBool ty) h = absurd h
lines-refused-typed n f (UnknownLabel l) h = absurd h
lines-refused-typed n f OpenTerm h = absurd h
lines-refused-typed n f (LooseTypeVar a) h = absurd h
lines-refused-typed n f TypedefShape h = absurd h
lines-refused-typed n f (NotProved s) h = absurd h

lines-refused-bad : (n : ℕ) (r : Reason) (e : ItemFault) → RefusesLine (Some (n, no_step r)) e → Refuses (Some (bad_line n r)) e
lines-refused-bad n r (InLine m g) h =
    let pair : (n, no_step r) ≡ (m, ill_typed h.0) = cc h.1 in
    let no : no_step r ≡ ill_typed h.0 = ap (λ (q : ℕ × LineFault). q.1) pair in
    absurd (cc no)
lines-refused-bad n r (BadLine m k) h =
    let pair : (n, no_step r) ≡ (m, no_step k) = cc h in
    let number : n ≡ m = ap (λ (q : ℕ × LineFault). q.0) pair in
    let step : no_step r ≡ no_step k = ap (λ (q : ℕ × LineFault). q.1) pair in
    let reason : r ≡ k = cc step in
    λ i. Some (bad_line (number i) (reason i))
lines-refused-bad n r Memory h = tt
lines-refused-bad n r (Duplicate c) h = absurd h
lines-refused-bad n r (UnknownType c) h = absurd h
lines-refused-bad n r (Arity c) h = absurd h
lines-refused-bad n r (UnknownConst c) h = absurd h
lines-refused-bad n r (TypeArgs c) h = absurd h
lines-refused-bad n r (Unbound c) h = absurd h
lines-refused-bad n r (Mismatch t u) h = absurd h
lines-refused-bad n r (NotBool ty) h = absurd h
lines-refused-bad n r (UnknownLabel l) h = absurd h
lines-refused-bad n r OpenTerm h = absurd h
lines-refused-bad n r (LooseTypeVar a) h = absurd h
lines-refused-bad n r TypedefShape h = absurd h
lines-refused-bad n r (NotProved s) h = absurd h

pub lines-refused : (t : TermTree) (d : Result (List Sequent) (ℕ × LineFault)) (e : ItemFault) → RefusesLine (wrong_line d) e → Refuses (proof_test t d) e
lines-refused t (Ok done) e h = subst (λ (q : ItemFault). Refuses (proof_test t (Ok done)) q) (sym (only-memory e h)) tt
lines-refused t (Err (n, ill_typed f)) e h = lines-refused-typed n f e h
lines-refused t (Err (n, no_step r)) e h = lines-refused-bad n r e h
