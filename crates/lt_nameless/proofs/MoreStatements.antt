-- A derivation stands over more named statements.
use Rattle.std.proofs.Common.{◌≡◌, inl, inr, zero, suc, List, [], ◌∷◌, ◌++◌, Bool, true, false, if◌then◌else◌, Option, Some, None, Ok, refl, sym, ◌∙◌, ap, arith}
use Rattle.std.specs.Prelude.{Contains}
use Rattle.lt_definitions.specs.Types.{Chars, same_name, found}
use Rattle.lt_definitions.specs.Terms.{TermTree}
use Rattle.lt_definitions.specs.Typing.{Signature}
use Rattle.lt_definitions.specs.Rules.{Sequent, Rule, by_thm, Outcome, with_found, step}
use Rattle.lt_definitions.specs.declared.reason.Reason.{Reason}
use Rattle.lt_definitions.specs.Derivations.{Derives, AreOnce, AreAmong}
use Rattle.lt_definitions.proofs.SameNames.{bool_cases, name-true, true-name}

abbrev Named : Type 0
Named = List (Chars × TermTree)

found-hit : (l : Chars) (q : Chars × TermTree) (qs : Named) → same_name l q.0 ≡ true → found l (q ∷ qs) ≡ Some q.1
found-hit l q qs e = ap (λ (b : Bool). if b then Some q.1 else found l qs) e

found-miss : (l : Chars) (q : Chars × TermTree) (qs : Named) → same_name l q.0 ≡ false → found l (q ∷ qs) ≡ found l qs
found-miss l q qs e = ap (λ (b : Bool). if b then Some q.1 else found l qs) e

found-Contains : (l : Chars) (named : Named) (p : TermTree) → found l named ≡ Some p → Contains named (l, p)
found-Contains l [] p e = absurd (cc e)
found-Contains l (q ∷ qs) p e = elim (bool_cases (same_name l q.0)) [
  | inl t ↦ let same : l ≡ q.0 = name-true l q.0 t in
      let some : Some q.1 ≡ Some p = sym (found-hit l q qs t) ∙ e in
      let value : q.1 ≡ p = cc some in
      (0, omega arith, λ i. (sym same i, value i))
  | inr f ↦ let rest = found-Contains l qs p (sym (found-miss l q qs f) ∙ e) in (suc rest.0, omega (arith, rest.1), rest.2)
]

-- a label that is given is found
Contains-found : (l : Chars) (named : Named) (p : TermTree) → Contains named (l, p) → (q : TermTree) × (found l named ≡ Some q)
Contains-found l [] p (k, lt, e) = absurd (omega arith)
Contains-found l (q ∷ qs) p (zero, lt, e) = (q.1, found-hit l q qs (true-name l q.0 (sym (ap (λ r. r.0) e))))
Contains-found l (q ∷ qs) p (suc k, lt, e) = elim (bool_cases (same_name l q.0)) [
  | inl t ↦ (q.1, found-hit l q qs t)
  | inr f ↦ let rest = Contains-found l qs p (k, omega arith, e) in (rest.0, found-miss l q qs f ∙ rest.1)
]

found-more : (named more : Named) → AreOnce more → AreAmong named more → (l : Chars) (p : TermTree) → found l named ≡ Some p → found l more ≡ Some p
found-more named more once among l p e =
    let in_more : Contains more (l, p) = among l p (found-Contains l named p e) in
    let there = Contains-found l more p in_more in
    there.1 ∙ ap Some (once l there.0 p (found-Contains l more there.0 there.1) in_more)

with_found-more : (r : Reason) (o u : Option TermTree) (f : TermTree → Outcome) (s : Sequent) → ((p : TermTree) → o ≡ Some p → u ≡ Some p)
    → with_found r o f ≡ Ok s → with_found r u f ≡ Ok s
with_found-more r None u f s k e = absurd (cc e)
with_found-more r (Some p) u f s k e = ap (λ v. with_found r v f) (k p refl) ∙ e

step-more : (sig : Signature) (named more : Named) (done : List Sequent) (line : Rule TermTree) (s : Sequent)
    → ((l : Chars) (p : TermTree) → found l named ≡ Some p → found l more ≡ Some p) → step sig named done line ≡ Ok s → step sig more done line ≡ Ok s
step-more sig named more done (by_thm l) s k e = with_found-more _ (found l named) (found l more) _ s (k l) e
step-more sig named more done line s k e = e

pub derives-more : (sig : Signature) (named more : Named) (done : List Sequent) (lines : List (Rule TermTree)) (ss : List Sequent)
    → ((l : Chars) (p : TermTree) → found l named ≡ Some p → found l more ≡ Some p) → Derives sig named done lines ss → Derives sig more done lines ss
derives-more sig named more done [] [] k d = tt
derives-more sig named more done (line ∷ lines) (s ∷ ss) k d =
    (d.0, step-more sig named more done line s k d.1, derives-more sig named more (done ++ s ∷ []) lines ss k d.2)
derives-more sig named more done lines ss k d = absurd d

pub derivation_over_more : (sig : Signature) (named more : Named) (done : List Sequent) (lines : List (Rule TermTree)) (ss : List Sequent)
    → AreOnce more → AreAmong named more → Derives sig named done lines ss → Derives sig more done lines ss
derivation_over_more sig named more done lines ss once among d = derives-more sig named more done lines ss (found-more named more once among) d
