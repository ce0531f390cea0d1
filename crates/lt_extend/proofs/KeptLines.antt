-- Lines that a kernel has derived, read with names of binders, are a derivation over the items.
use Rattle.std.proofs.Common.{◌≡◌, ℕ, zero, suc, ◌≤◌, ◌<◌, List, [], ◌∷◌, ◌++◌, length, map, take, drop, slice_get, Bool, true, false, not, ◌&&◌, Option, Some, None, option_map, Result, Ok, Err, refl, sym, ◌∙◌, ap, subst, arith, append_assoc, append-nil}
use Rattle.std.specs.Result.{IsErrAnd}
use Rattle.std.proofs.Math.Seq.{take-append_seam}
use Rattle.std.proofs.lemmas.List.{map-append, length-map, take-map, take-append-drop, length-take-le}
use Rattle.std.proofs.lemmas.Option.{slice_get_within}
use Rattle.lt_definitions.specs.Types.{Chars, found, TypeTree}
use Rattle.lt_definitions.specs.Terms.{TermTree}
use Rattle.lt_definitions.specs.Typing.{Signature, type_fault}
use Rattle.lt_definitions.specs.Rules.{Sequent, Rule, rule_map, by_assume, by_weaken, by_refl, by_sym, by_trans, by_cong, by_abs, by_beta, by_eta, by_eqmp, by_impI, by_mp, by_allI, by_allE, by_iff, by_inst, by_tinst, by_select, by_ccontr, by_thm, line_at, step}
use Rattle.lt_definitions.specs.Derivations.{term_fault, rule_fault, derived, Derives, IsPartOf}
use Rattle.lt_definitions.specs.Alpha.{is_alpha}
use Rattle.lt_definitions.specs.Items.{Context}
use Rattle.lt_definitions.specs.Theory.{Refusal, has_none, is_proved, last_of, not_proved, refused_where, proof_test}
use Rattle.lt_definitions.proofs.TypingLemmas.{both-none}
use Rattle.lt_nameless.specs.Nameless.{Nameless, NamelessSequent, nameless, nameless_sequent, named}
use Rattle.lt_nameless.specs.NamelessRules.{nameless_rule, nameless_statements, nameless_step, nameless_fault, same_nameless}
use Rattle.lt_nameless.proofs.ClosedForms.{nameless_of_named}
use Rattle.lt_nameless.proofs.ClosedSteps.{term-whole}
use Rattle.lt_nameless.proofs.Derived.{derivation_is_computed}
use Rattle.lt_nameless.proofs.LaterItems.{found-append}
use Rattle.lt_nameless.proofs.MoreDeclarations.{derivation_over_more_declarations}
use Rattle.lt_nameless.proofs.MoreStatements.{derives-more}
use Rattle.lt_nameless.proofs.NamelessSteps.{step_is_nameless, faults_are_nameless}
use Rattle.lt_nameless.proofs.NamelessTyping.{alpha-same}
use Rattle.lt_store.specs.Trees.{tree_at}
use Rattle.lt_kernel.specs.declared.sequent.Step.{Step}
use Rattle.lt_kernel.specs.Derived.{IsDerived, AreDerived}
use Rattle.lt_kernel.specs.Lines.{rule_at}
use Rattle.lt_kernel.specs.Sequents.{sequent_at, sequents_at, statements_at}
use Rattle.lt_kernel.specs.State.{State, sequents, Keeps}
use Rattle.lt_kernel.proofs.DerivedLines.{rule-extends}
use Rattle.lt_conditions.specs.declared.item_fault.ItemFault.{ItemFault}
use Rattle.lt_conditions.specs.declared.item_fault.ItemFault.TheVariants.{Memory}
use Rattle.lt_conditions.specs.Refusing.{Refuses}
use Rattle.lt_extend.specs.Deriving.{HasSequents}
use Rattle.lt_extend.specs.Lemmas.{Proves}
use Rattle.lt_extend.specs.Proving.{unproved}
use Rattle.lt_extend.specs.Standing.{StandsFor}
use Rattle.lt_extend.specs.Telling.{rules_at}
use Rattle.lt_extend.proofs.LineOutcomes.{ok-outcome}
use Rattle.lt_extend.proofs.Tested.{last-at, line-map}

-- ---- one line

-- the first statements of a context, without binder names
front-statements : (ctx : Context) (s : State) (named : List (Chars × ℕ)) (more : List (Chars × ℕ)) → StandsFor ctx s → s.named ≡ named ++ more
    → statements_at s.nodes named ≡ nameless_statements (take (length named) ctx.statements)
front-statements ctx s named more h e =
    let f : Chars × ℕ → Chars × Nameless = λ p. (p.0, tree_at s.nodes p.1) in
    let g : Chars × TermTree → Chars × Nameless = λ p. (p.0, nameless [] p.1) in
    let whole : map g ctx.statements ≡ map f named ++ map f more = sym h.statements ∙ ap (map f) e ∙ map-append f named more in
    let count : length named ≡ length (map f named) = sym (length-map named f) in
    sym (sym (take-map g (length named) ctx.statements) ∙ (λ i. take (count i) (whole i)) ∙ take-append_seam (map f named) (map f more))

found-in-front : (n : ℕ) (ps : List (Chars × TermTree)) (l : Chars) (p : TermTree) → found l (take n ps) ≡ Some p → found l ps ≡ Some p
found-in-front n ps l p e = ap (found l) (sym (take-append-drop n ps)) ∙ found-append l (take n ps) (drop n ps) p e

front-declared : (sig all : Signature) (ts : List (Chars × ℕ)) → (more : List (Chars × TypeTree)) × (all.consts ≡ sig.consts ++ more) → all.types ≡ sig.types ++ ts → IsPartOf sig all
front-declared sig all ts c t = record {
  types = λ x k e. ap (found x) t ∙ found-append x sig.types ts k e;
  consts = λ x ty e. ap (found x) c.1 ∙ found-append x sig.consts c.0 ty e;
}

-- A line of these terms has a sequent over the context, which is the kernel's without binder names.
record IsStep (ctx : Context) (s : State) (done : List Sequent) (rule : Rule TermTree) (st : Step) : Type 0 where
  pub sequent : Sequent
  pub derives : Derives ctx.signature ctx.statements done (rule ∷ []) (sequent ∷ [])
  pub is : nameless_sequent sequent ≡ sequent_at s.nodes st.sequent

step-named : (ctx : Context) (s : State) (k : ℕ) (st : Step) (done : List Sequent) (rule : Rule TermTree) → StandsFor ctx s → IsDerived s k st → map nameless_sequent done ≡ take k (sequents s)
    → nameless_rule rule ≡ rule_at s.nodes st.line → IsStep ctx s done rule st
step-named ctx s k st done rule h d has is =
    let front : List (Chars × TermTree) = take (length d.named) ctx.statements in
    let fine : rule_fault d.signature (term_fault d.signature) rule ≡ None =
    faults_are_nameless d.signature rule ∙ ap (rule_fault d.signature (nameless_fault d.signature)) is ∙ d.good.typed in
    let got = ok-outcome (step d.signature front done rule) (sequent_at s.nodes st.sequent)
    (step_is_nameless d.signature front done rule fine
    ∙ (λ i. nameless_step d.signature (sym (front-statements ctx s d.named d.statements.0 h d.statements.1) i) (has i) (is i)) ∙ d.gives) in
    let here : Derives d.signature front done (rule ∷ []) (got.0 ∷ []) = (fine, got.1, tt) in
    let part : IsPartOf d.signature ctx.signature =
    front-declared d.signature ctx.signature d.types.0 (d.consts.0, ap (λ (g : Signature). g.consts) (sym h.signature) ∙ d.consts.1) (ap (λ (g : Signature). g.types) (sym h.signature) ∙ d.types.1) in
    record {
      sequent = got.0;
      derives = derivation_over_more_declarations d.signature ctx.signature ctx.statements done (rule ∷ []) (got.0 ∷ []) part
          (derives-more d.signature front ctx.statements done (rule ∷ []) (got.0 ∷ []) (λ l p e. found-in-front (length d.named) ctx.statements l p e) here);
      is = got.2;
    }

-- ---- all lines

at-seam : {A : Type 0} (xs : List A) (y : A) (ys : List A) → slice_get (xs ++ y ∷ ys) (length xs) ≡ Some y
at-seam [] y ys = refl
at-seam (x ∷ xs) y ys = at-seam xs y ys

-- The lines have these sequents.
pub record IsReading (ctx : Context) (s : State) (steps : List Step) (done : List Sequent) (rules : List (Rule TermTree)) : Type 0 where
  pub sequents : List Sequent
  pub derives : Derives ctx.signature ctx.statements done rules sequents
  pub are : map nameless_sequent sequents ≡ sequents_at s.nodes steps

read-from : (ctx : Context) (s : State) → StandsFor ctx s → AreDerived s → (before rest after : List Step) → s.steps ≡ before ++ (rest ++ after)
    → (done : List Sequent) → map nameless_sequent done ≡ sequents_at s.nodes before → (rules : List (Rule TermTree)) → map nameless_rule rules ≡ map (λ st. rule_at s.nodes st.line) rest
    → IsReading ctx s rest done rules
read-from ctx s h d before [] after e done has [] is = record { sequents = []; derives = tt; are = refl }
read-from ctx s h d before [] after e done has (r ∷ rules) is = absurd (cc is)
read-from ctx s h d before (st ∷ rest) after e done has [] is = absurd (cc is)
read-from ctx s h d before (st ∷ rest) after e done has (r ∷ rules) is =
    let head : nameless_rule r ≡ rule_at s.nodes st.line = cc is in
    let tail : map nameless_rule rules ≡ map (λ st. rule_at s.nodes st.line) rest = cc is in
    let f : Step → NamelessSequent = λ st. sequent_at s.nodes st.sequent in
    let at : slice_get s.steps (length before) ≡ Some st = ap (λ steps. slice_get steps (length before)) e ∙ at-seam before st (rest ++ after) in
    let count : length before ≡ length (map f before) = sym (length-map before f) in
    let earlier : take (length before) (sequents s) ≡ map f before =
    (λ i. take (count i) ((ap (map f) e ∙ map-append f before (st ∷ (rest ++ after))) i)) ∙ take-append_seam (map f before) (map f (st ∷ (rest ++ after))) in
    let one : IsStep ctx s done r st = step-named ctx s (length before) st done r h (d (length before) st at) (has ∙ sym earlier) head in
    let more : map nameless_sequent (done ++ one.sequent ∷ []) ≡ map f (before ++ st ∷ []) =
    map-append nameless_sequent done (one.sequent ∷ []) ∙ (λ i. has i ++ one.is i ∷ []) ∙ sym (map-append f before (st ∷ [])) in
    let later : IsReading ctx s rest (done ++ one.sequent ∷ []) rules =
    read-from ctx s h d (before ++ st ∷ []) rest after (e ∙ sym (append_assoc before (st ∷ []) (rest ++ after))) (done ++ one.sequent ∷ []) more rules tail in
    record {
      sequents = one.sequent ∷ later.sequents;
      derives = (one.derives.0, one.derives.1, later.derives);
      are = λ i. one.is i ∷ later.are i;
    }

-- the first so many lines, by rules that are told of them
pub read-lines : (ctx : Context) (s : State) (count : ℕ) (rules : List (Rule TermTree)) → StandsFor ctx s → AreDerived s → map nameless_rule rules ≡ rules_at s count
    → IsReading ctx s (take count s.steps) [] rules
read-lines ctx s count rules h d is = read-from ctx s h d [] (take count s.steps) (drop count s.steps) (sym (take-append-drop count s.steps)) [] refl rules is

-- a line with names of binders
named-rule : (sig : Signature) (r : Rule Nameless) → rule_fault sig (nameless_fault sig) r ≡ None → nameless_rule (rule_map (named 0) r) ≡ r
named-rule sig (by_assume p) h = ap by_assume (nameless_of_named p (term-whole sig p h))
named-rule sig (by_weaken p i) h = ap (λ t. by_weaken t i) (nameless_of_named p (term-whole sig p h))
named-rule sig (by_refl t) h = ap by_refl (nameless_of_named t (term-whole sig t h))
named-rule sig (by_sym i) h = refl
named-rule sig (by_trans i j) h = refl
named-rule sig (by_cong i j) h = refl
named-rule sig (by_abs x ty i) h = refl
named-rule sig (by_beta t) h = ap by_beta (nameless_of_named t (term-whole sig t h))
named-rule sig (by_eta t) h = ap by_eta (nameless_of_named t (term-whole sig t h))
named-rule sig (by_eqmp i j) h = refl
named-rule sig (by_impI p i) h = ap (λ t. by_impI t i) (nameless_of_named p (term-whole sig p h))
named-rule sig (by_mp i j) h = refl
named-rule sig (by_allI x ty i) h = refl
named-rule sig (by_allE t i) h = ap (λ u. by_allE u i) (nameless_of_named t (term-whole sig t h))
named-rule sig (by_iff i j) h = refl
named-rule sig (by_inst x ty t i) h = ap (λ u. by_inst x ty u i) (nameless_of_named t (term-whole sig t (both-none (type_fault sig ty) (nameless_fault sig t) h).1))
named-rule sig (by_tinst a ty i) h = refl
named-rule sig (by_select p) h = ap by_select (nameless_of_named p (term-whole sig p h))
named-rule sig (by_ccontr p) h = ap by_ccontr (nameless_of_named p (term-whole sig p h))
named-rule sig (by_thm l) h = refl

abbrev named-lines : State → List Step → List (Rule TermTree)
named-lines s steps = map (λ st. rule_map (named 0) (rule_at s.nodes st.line)) steps

named-all : (s : State) → AreDerived s → (before rest : List Step) → s.steps ≡ before ++ rest → map nameless_rule (named-lines s rest) ≡ map (λ st. rule_at s.nodes st.line) rest
named-all s d before [] e = refl
named-all s d before (st ∷ rest) e =
    let at : slice_get s.steps (length before) ≡ Some st = ap (λ steps. slice_get steps (length before)) e ∙ at-seam before st rest in
    let one = d (length before) st at in
    let later = named-all s d (before ++ st ∷ []) rest (e ∙ sym (append_assoc before (st ∷ []) rest)) in
    λ i. named-rule one.signature (rule_at s.nodes st.line) one.good.typed i ∷ later i

-- All lines, with names of binders.
pub record AreRead (ctx : Context) (s : State) : Type 0 where
  pub rules : List (Rule TermTree)
  pub done : List Sequent
  pub gives : derived ctx.signature ctx.statements [] rules ≡ Ok done
  pub has : HasSequents s done

pub read-all : (ctx : Context) (s : State) → StandsFor ctx s → AreDerived s → AreRead ctx s
read-all ctx s h d =
    let rules : List (Rule TermTree) = named-lines s s.steps in
    let reading : IsReading ctx s s.steps [] rules = read-from ctx s h d [] s.steps [] (sym (append-nil s.steps)) [] refl rules (named-all s d [] s.steps refl) in
    record {
      rules = rules;
      done = reading.sequents;
      gives = (derivation_is_computed ctx.signature ctx.statements rules reading.sequents).1 reading.derives;
      has = sym reading.are;
    }

-- the sequent of a line, with names of binders
pub line-read : (ctx : Context) (s : State) (read : AreRead ctx s) (n : ℕ) → option_map nameless_sequent (line_at read.done n) ≡ line_at (sequents s) n
line-read ctx s read n = sym (line-map nameless_sequent read.done n) ∙ ap (λ qs. line_at qs n) (sym read.has)

-- ---- the last line

none-alike : (hs ks : List TermTree) → map (nameless []) hs ≡ map (nameless []) ks → has_none hs ≡ has_none ks
none-alike [] [] e = refl
none-alike [] (k ∷ ks) e = absurd (cc e)
none-alike (h ∷ hs) [] e = absurd (cc e)
none-alike (h ∷ hs) (k ∷ ks) e = refl

pub proved-alike : (t : TermTree) (o p : Option Sequent) → option_map nameless_sequent o ≡ option_map nameless_sequent p → is_proved t o ≡ is_proved t p
proved-alike t None None e = refl
proved-alike t None (Some p) e = absurd (cc e)
proved-alike t (Some o) None e = absurd (cc e)
proved-alike t (Some o) (Some p) e =
    let same : nameless_sequent o ≡ nameless_sequent p = cc e in
    let hyps : map (nameless []) o.hyps ≡ map (nameless []) p.hyps = ap (λ (q : NamelessSequent). q.hyps) same in
    let concl : nameless [] o.concl ≡ nameless [] p.concl = ap (λ (q : NamelessSequent). q.concl) same in
    let alpha : is_alpha o.concl t ≡ is_alpha p.concl t = alpha-same o.concl t ∙ ap (λ (n : Nameless). same_nameless n (nameless [] t)) concl ∙ sym (alpha-same p.concl t) in
    λ i. none-alike o.hyps p.hyps hyps i && alpha i

slice-front : {A : Type 0} (xs : List A) (n : ℕ) → slice_get (take (suc n) xs) n ≡ slice_get xs n
slice-front [] zero = refl
slice-front [] (suc n) = refl
slice-front (x ∷ xs) zero = refl
slice-front (x ∷ xs) (suc n) = slice-front xs n

line-front : {A : Type 0} (xs : List A) (n : ℕ) → line_at (take n xs) n ≡ line_at xs n
line-front xs zero = refl
line-front xs (suc n) = slice-front xs n

-- where a line proves the statement, there is one of that number
proved-some : (t : TermTree) (last : Option Sequent) → unproved t last ≡ None → (is_proved t last ≡ true) × ((s : Sequent) × (last ≡ Some s))
proved-some t None h = absurd (cc h)
proved-some t (Some s) h = by (is_proved t (Some s)) refl h
  where
    by : (b : Bool) → is_proved t (Some s) ≡ b → refused_where (not b) (not_proved (Some s)) ≡ None → (is_proved t (Some s) ≡ true) × ((q : Sequent) × (Some s ≡ Some q))
    by true e h = (e, (s, refl))
    by false e h = absurd (cc h)

pub line-within : (s : State) (n : ℕ) (t : TermTree) (last : Option Sequent) → option_map nameless_sequent last ≡ line_at (sequents s) n → unproved t last ≡ None → n ≤ length s.steps
line-within s zero t last e h = omega arith
line-within s (suc n) t last e h =
    let some = (proved-some t last h).1 in
    let there : slice_get (sequents s) n ≡ Some (nameless_sequent some.0) = sym e ∙ ap (option_map nameless_sequent) some.1 in
    let within : n < length (sequents s) = slice_get_within (sequents s) n (nameless_sequent some.0) there in
    omega (arith, within, length-map s.steps (λ (st : Step). sequent_at s.nodes st.sequent))

-- the lines up to one that proves the statement are a proof of it
pub kept-proof : (ctx : Context) (s : State) (n : ℕ) (t : TermTree) (last : Option Sequent) (rules : List (Rule TermTree)) → StandsFor ctx s → AreDerived s → map nameless_rule rules ≡ rules_at s n
    → option_map nameless_sequent last ≡ line_at (sequents s) n → unproved t last ≡ None → proof_test t (derived ctx.signature ctx.statements [] rules) ≡ None
kept-proof ctx s n t last rules h d is e u =
    let f : Step → NamelessSequent = λ st. sequent_at s.nodes st.sequent in
    let reading = read-lines ctx s n rules h d is in
    let ss : List Sequent = reading.sequents in
    let done : derived ctx.signature ctx.statements [] rules ≡ Ok ss = (derivation_is_computed ctx.signature ctx.statements rules ss).1 reading.derives in
    let count : length ss ≡ n =
    sym (length-map ss nameless_sequent) ∙ ap length reading.are ∙ length-map (take n s.steps) f ∙ length-take-le n s.steps (line-within s n t last e u) in
    let line : option_map nameless_sequent (last_of ss) ≡ option_map nameless_sequent last =
    ap (option_map nameless_sequent) (last-at ss ∙ ap (line_at ss) count) ∙ sym (line-map nameless_sequent ss n) ∙ ap (λ qs. line_at qs n) (reading.are ∙ sym (take-map f n s.steps))
    ∙ line-front (sequents s) n ∙ sym e in
    let yes : is_proved t (last_of ss) ≡ true = proved-alike t (last_of ss) last line ∙ (proved-some t last u).0 in
    ap (proof_test t) done ∙ ap (λ (b : Bool). refused_where (not b) (not_proved (last_of ss))) yes

-- want of memory, whatever is refused
pub proves-memory : (o : Option Refusal) (r : Result ℕ ItemFault) → IsErrAnd r (λ e. e ≡ Memory) → Proves o r
proves-memory o (Ok id) h = absurd h
proves-memory o (Err e) h = subst (λ (q : ItemFault). Refuses o q) (sym h) tt

-- ---- lines that stay

rules-from : (old new : State) → AreDerived old → Keeps old new → (before rest after : List Step) → old.steps ≡ before ++ (rest ++ after)
    → map (λ st. rule_at new.nodes st.line) rest ≡ map (λ st. rule_at old.nodes st.line) rest
rules-from old new d k before [] after e = refl
rules-from old new d k before (st ∷ rest) after e =
    let at : slice_get old.steps (length before) ≡ Some st = ap (λ steps. slice_get steps (length before)) e ∙ at-seam before st (rest ++ after) in
    let one : rule_at new.nodes st.line ≡ rule_at old.nodes st.line = rule-extends old.nodes new.nodes st.line k.stays.nodes (d (length before) st at).good.within in
    let later = rules-from old new d k (before ++ st ∷ []) rest after (e ∙ sym (append_assoc before (st ∷ []) (rest ++ after))) in
    λ i. one i ∷ later i

pub rules-kept : (old new : State) (n : ℕ) → AreDerived old → Keeps old new → rules_at new n ≡ rules_at old n
rules-kept old new n d k =
    ap (λ (steps : List Step). map (λ st. rule_at new.nodes st.line) (take n steps)) k.steps
    ∙ rules-from old new d k [] (take n old.steps) (drop n old.steps) (sym (take-append-drop n old.steps))
