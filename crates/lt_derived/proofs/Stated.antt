-- Instances of named statements.
use Rattle.std.proofs.Common.{◌≡◌, ℕ, List, length, Result, Ok, Err, Option, Some, None, refl, sym, ◌∙◌, ap, subst}
use Rattle.std.specs.List.{All}
use Rattle.lt_definitions.specs.Types.{Chars, found, TypeMap}
use Rattle.lt_definitions.specs.Typing.{Signature}
use Rattle.lt_definitions.specs.declared.reason.Reason.{Reason}
use Rattle.lt_definitions.specs.Rules.{line_at, with_line, with_found}
use Rattle.lt_definitions.specs.declared.reason.Reason.TheVariants.{UnknownLabel, MissingLine}
use Rattle.lt_nameless.specs.Nameless.{Nameless, NamelessSequent}
use Rattle.lt_nameless.specs.NamelessRules.{NamelessOutcome, nameless_instance, nameless_thm_gives}
use Rattle.lt_store.specs.Trees.{trees, AllBelow}
use Rattle.lt_store.specs.Typed.{IsTyped}
use Rattle.lt_store.proofs.Lists.{trees-extends}
use Rattle.lt_kernel.specs.declared.rule_fault.RuleFault.{RuleFault}
use Rattle.lt_kernel.specs.declared.rule_fault.RuleFault.TheVariants.{Bad, Duplicate, Memory}
use Rattle.lt_kernel.specs.State.{State, sequents, statements}
use Rattle.lt_kernel.specs.Growing.{Carries}
use Rattle.lt_kernel.specs.Reaching.{IsGiven, Reaches}
use Rattle.lt_kernel.proofs.GrowingLemmas.{carries-grows}
use Rattle.lt_programs.specs.Programs.{theorem, at_each, statement_at, named_at}

-- A line has a named statement.
pub record HasStatement (s : State) (named : List (Chars × Nameless)) (label : Chars) (n : ℕ) : Type 0 where
  pub statement : Nameless
  pub is : found label named ≡ Some statement
  pub line : line_at (sequents s) n ≡ Some (theorem statement)

pub stated : (s : State) (named : List (Chars × Nameless)) (l : Chars) (n : ℕ) → IsGiven s n (nameless_thm_gives named l) → HasStatement s named l n
stated s named l n h = by (found l named) refl h.goes
  where
    by : (o : Option Nameless) → found l named ≡ o → with_found UnknownLabel o (λ p. Ok (theorem p)) ≡ Ok h.sequent → HasStatement s named l n
    by None e d = absurd (cc d)
    by (Some p) e d = let same : h.sequent ≡ theorem p = sym (cc d) in
        record { statement = p; is = e; line = h.line ∙ ap (λ (q : NamelessSequent). Some q) same }

pub same-reaches : (s : State) (r : Result ℕ RuleFault) (o p : NamelessOutcome) → o ≡ p → Reaches s r o → Reaches s r p
same-reaches s r o p e h = subst (λ (q : NamelessOutcome). Reaches s r q) e h

-- no statement has the label
pub unstated : (sig : Signature) (named : List (Chars × Nameless)) (l copy : Chars) (m : TypeMap) (ts : List Nameless) (r : Reason) → copy ≡ l
    → nameless_thm_gives named copy ≡ Err r → named_at sig named l m ts ≡ Err r
unstated sig named l copy m ts r same e = subst (λ (c : Chars). named_at sig named c m ts ≡ Err r) same (by (found copy named) refl e)
  where
    by : (o : Option Nameless) → found copy named ≡ o → with_found UnknownLabel o (λ p. Ok (theorem p)) ≡ Err r → with_found UnknownLabel (found copy named) (statement_at sig m ts) ≡ Err r
    by None d q = ap (λ o. with_found UnknownLabel o (statement_at sig m ts)) d ∙ missing q
      where
        missing : with_found UnknownLabel None (λ (p : Nameless). Ok (theorem p)) ≡ Err r → with_found UnknownLabel None (statement_at sig m ts) ≡ Err r
        missing w = let same : UnknownLabel ≡ r = cc w in ap (λ (v : Reason). Err v) same
    by (Some p) d q = absurd (cc q)

pub first-fails : (now next : State) (sig : Signature) (named : List (Chars × Nameless)) (l copy : Chars) (m : TypeMap) (ts : List Nameless) (e : RuleFault) → copy ≡ l
    → Reaches now (Err e) (nameless_thm_gives named copy) → Reaches next (Err e) (named_at sig named l m ts)
first-fails now next sig named l copy m ts (Bad r) same h = unstated sig named l copy m ts r same h
first-fails now next sig named l copy m ts (Duplicate k) same h = absurd h
first-fails now next sig named l copy m ts Memory same h = tt

-- the whole, from what is known of each line
pub instance-line : (old first mid : State) (l copy : Chars) (m : TypeMap) (ids : List ℕ) (n r : ℕ) → copy ≡ l → Carries old first → Carries first mid
    → All (IsTyped old.signature old.nodes) ids → IsGiven first n (nameless_thm_gives (statements old) copy)
    → ((p : Nameless) → line_at (sequents first) n ≡ Some (theorem p) → line_at (sequents mid) r ≡ Some (theorem (nameless_instance m p)))
    → with_line (sequents mid) r (at_each mid.signature (trees mid.nodes ids)) ≡ named_at old.signature (statements old) l m (trees old.nodes ids)
instance-line old first mid l copy m ids n r same a b typed given then =
    let s = stated first (statements old) copy n given in
    let named : found l (statements old) ≡ Some s.statement = sym (ap (λ c. found c (statements old)) same) ∙ s.is in
    let g = carries-grows old mid (λ f h. b f (a f h)) in
    let below : AllBelow (length old.nodes) ids = λ j d w. (typed j d w).within in
    ap (λ o. with_found MissingLine o (at_each mid.signature (trees mid.nodes ids))) (then s.statement s.line)
    ∙ (λ i. at_each (g.stays.signature i) (trees-extends old.nodes mid.nodes ids g.stays.nodes below i) (theorem (nameless_instance m s.statement)))
    ∙ sym (ap (λ o. with_found UnknownLabel o (statement_at old.signature m (trees old.nodes ids))) named)
