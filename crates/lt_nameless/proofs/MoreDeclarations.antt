-- What is typed and derived stays so over more declarations.
use Rattle.std.proofs.Common.{◌≡◌, ℕ, List, [], ◌∷◌, ◌++◌, Option, Some, None, Result, Ok, Err, length, refl, sym, ◌∙◌, ap}
use Rattle.std.specs.Result.{result_unwrap_or}
use Rattle.lt_definitions.specs.Types.{Chars, found, TypeTree, TypeTrees, type_variable, type_constructor, no_types, type_and, bool, fun, listed, row}
use Rattle.lt_definitions.specs.Terms.{TermTree, free_variable, bound_name, constant, application, abstraction, equation, implies, falsity}
use Rattle.lt_definitions.specs.Typing.{Signature, Fault, constructor_fault, type_fault, types_fault, typed, HasType, is_of_type}
use Rattle.lt_definitions.specs.Rules.{Sequent, Rule, by_assume, by_weaken, by_refl, by_abs, by_allI, by_tinst, by_beta, by_eta, by_impI, by_allE, by_inst, by_select, by_ccontr, gives, where_holds, with_found, with_line, union, without, distinct, as_forall, at_argument, beta_of, eta_of, predicate_over, selection, step}
use Rattle.lt_definitions.specs.declared.reason.Reason.TheVariants.{NotBool, NotRedex, NotForall, TypeDiffers}
use Rattle.lt_definitions.specs.Binding.{replaced}
use Rattle.lt_definitions.specs.Derivations.{rule_fault, term_fault, Derives, IsPartOf}
use Rattle.lt_nameless.proofs.Typings.{has-typed}
use Rattle.lt_nameless.proofs.NamelessTyping.{typed-of}
use Rattle.std.proofs.Common.{map}
use Rattle.lt_definitions.proofs.TypingLemmas.{both-none, none-both}

constructor-more : (c : Chars) (n : ℕ) (o p : Option ℕ) → ((k : ℕ) → o ≡ Some k → p ≡ Some k) → constructor_fault c n o ≡ None → constructor_fault c n p ≡ None
constructor-more c n None p h e = absurd (cc e)
constructor-more c n (Some k) p h e = ap (constructor_fault c n) (h k refl) ∙ e

mutual
  pub type-more : (sig more : Signature) → IsPartOf sig more → (t : TypeTree) → type_fault sig t ≡ None → type_fault more t ≡ None
  type-more sig more h (type_variable a) e = refl
  type-more sig more h (type_constructor c ts) e =
      let k = both-none (constructor_fault c (length (listed ts)) (found c sig.types)) (types_fault sig ts) e in
      none-both (constructor_fault c (length (listed ts)) (found c more.types)) (types_fault more ts)
      (constructor-more c (length (listed ts)) (found c sig.types) (found c more.types) (h.types c) k.0) (types-more sig more h ts k.1)

  pub types-more : (sig more : Signature) → IsPartOf sig more → (ts : TypeTrees) → types_fault sig ts ≡ None → types_fault more ts ≡ None
  types-more sig more h no_types e = refl
  types-more sig more h (type_and t ts) e =
      let k = both-none (type_fault sig t) (types_fault sig ts) e in
      none-both (type_fault more t) (types_fault more ts) (type-more sig more h t k.0) (types-more sig more h ts k.1)

pub has-more : (sig more : Signature) → IsPartOf sig more → (env : List (Chars × TypeTree)) (t : TermTree) (ty : TypeTree) → HasType sig env t ty → HasType more env t ty
has-more sig more h env (free_variable x u) ty k = (type-more sig more h u k.0, k.1)
has-more sig more h env (bound_name x) ty k = k
has-more sig more h env (constant c ts) ty k = (k.0, h.consts c k.0 k.1, k.2, types-more sig more h (row ts) k.3, k.4)
has-more sig more h env (application f a) ty k = (k.0, has-more sig more h env f (fun k.0 ty) k.1, has-more sig more h env a k.0 k.2)
has-more sig more h env (abstraction x u b) ty k = (k.0, type-more sig more h u k.1, has-more sig more h ((x, u) ∷ env) b k.0 k.2, k.3)

-- a typed term has one type over both
typed-more : (sig more : Signature) → IsPartOf sig more → (t : TermTree) → term_fault sig t ≡ None → typed sig [] t ≡ typed more [] t
typed-more sig more h t e =
    let k = typed-of sig t e in
    has-typed sig [] t k.0 k.1 ∙ sym (has-typed more [] t k.0 (has-more sig more h [] t k.0 k.1))

abbrev fault_in : Result TypeTree Fault → Option Fault
fault_in (Ok x) = None
fault_in (Err f) = Some f

term-more : (sig more : Signature) → IsPartOf sig more → (t : TermTree) → term_fault sig t ≡ None → term_fault more t ≡ None
term-more sig more h t e = ap fault_in (sym (typed-more sig more h t e)) ∙ e

pub rule-more : (sig more : Signature) → IsPartOf sig more → (line : Rule TermTree) → rule_fault sig (term_fault sig) line ≡ None → rule_fault more (term_fault more) line ≡ None
rule-more sig more h (by_assume p) e = term-more sig more h p e
rule-more sig more h (by_weaken p i) e = term-more sig more h p e
rule-more sig more h (by_refl p) e = term-more sig more h p e
rule-more sig more h (by_abs x ty i) e = type-more sig more h ty e
rule-more sig more h (by_beta p) e = term-more sig more h p e
rule-more sig more h (by_eta p) e = term-more sig more h p e
rule-more sig more h (by_impI p i) e = term-more sig more h p e
rule-more sig more h (by_allI x ty i) e = type-more sig more h ty e
rule-more sig more h (by_allE p i) e = term-more sig more h p e
rule-more sig more h (by_inst x ty p i) e =
    let k = both-none (type_fault sig ty) (term_fault sig p) e in
    none-both (type_fault more ty) (term_fault more p) (type-more sig more h ty k.0) (term-more sig more h p k.1)
rule-more sig more h (by_tinst a ty i) e = type-more sig more h ty e
rule-more sig more h (by_select p) e = term-more sig more h p e
rule-more sig more h (by_ccontr p) e = term-more sig more h p e
rule-more sig more h line e = refl

step-more : (sig more : Signature) → IsPartOf sig more → (named : List (Chars × TermTree)) (done : List Sequent) (line : Rule TermTree) → rule_fault sig (term_fault sig) line ≡ None
    → step sig named done line ≡ step more named done line
step-more sig more h named done (by_assume p) e = λ j. where_holds (is_of_type bool (typed-more sig more h p e j)) NotBool (gives (p ∷ []) p)
step-more sig more h named done (by_weaken p i) e = λ j. with_line done i (λ s.
    where_holds (is_of_type bool (typed-more sig more h p e j)) NotBool (gives (union s.hyps (p ∷ [])) s.concl))
step-more sig more h named done (by_refl t) e = λ j. gives [] (equation (result_unwrap_or (typed-more sig more h t e j) bool) t t)
step-more sig more h named done (by_beta t) e = λ j.
    with_found NotRedex (beta_of t) (λ b. gives [] (equation (result_unwrap_or (typed-more sig more h t e j) bool) t b))
step-more sig more h named done (by_eta t) e = λ j.
    with_found NotRedex (eta_of t) (λ f. gives [] (equation (result_unwrap_or (typed-more sig more h t e j) bool) t f))
step-more sig more h named done (by_impI p i) e = λ j. with_line done i (λ s.
    where_holds (is_of_type bool (typed-more sig more h p e j)) NotBool (gives (without p s.hyps) (implies p s.concl)))
step-more sig more h named done (by_allE t i) e = λ j. with_line done i (λ s.
    with_found NotForall (as_forall s.concl) (λ a.
    where_holds (is_of_type a.0 (typed-more sig more h t e j)) TypeDiffers (gives s.hyps (at_argument a.1 t))))
step-more sig more h named done (by_inst x ty t i) e =
    let k = both-none (type_fault sig ty) (term_fault sig t) e in λ j. with_line done i (λ s.
    where_holds (is_of_type ty (typed-more sig more h t k.1 j)) TypeDiffers
    (gives (distinct (map (replaced x ty t) s.hyps)) (replaced x ty t s.concl)))
step-more sig more h named done (by_select p) e = λ j.
    with_found TypeDiffers (predicate_over (result_unwrap_or (typed-more sig more h p e j) bool)) (λ ty. gives [] (selection ty p))
step-more sig more h named done (by_ccontr p) e = λ j.
    where_holds (is_of_type bool (typed-more sig more h p e j)) NotBool (gives [] (implies (implies (implies p falsity) falsity) p))
step-more sig more h named done line e = refl

pub derivation_over_more_declarations : (sig more : Signature) (named : List (Chars × TermTree)) (done : List Sequent) (lines : List (Rule TermTree)) (ss : List Sequent)
    → IsPartOf sig more → Derives sig named done lines ss → Derives more named done lines ss
derivation_over_more_declarations sig more named done [] [] h d = tt
derivation_over_more_declarations sig more named done (line ∷ lines) (s ∷ ss) h d = (
  rule-more sig more h line d.0,
  sym (step-more sig more h named done line d.0) ∙ d.1,
  derivation_over_more_declarations sig more named (done ++ s ∷ []) lines ss h d.2,
)
derivation_over_more_declarations sig more named done lines ss h d = absurd d
