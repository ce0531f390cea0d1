-- One block or one refusal comes of each built command.
use Rattle.std.proofs.Common.{◌≡◌, List, [], ◌∷◌, true, Option, Some, None, Ok, Err, refl, sym, ◌∙◌, ap, subst, ℕ, codes}
use Rattle.std.specs.Prelude.{not}
use Rattle.lt_definitions.specs.Types.{Chars, found, TypeTree}
use Rattle.lt_definitions.specs.Typing.{declared_type}
use Rattle.lt_definitions.specs.Terms.{TermTree}
use Rattle.lt_definitions.specs.Alpha.{is_alpha}
use Rattle.lt_definitions.specs.Items as theory
use Rattle.lt_definitions.specs.Theory.{unknown_statement}
use Rattle.lt_texts.specs.Commands.{Command, item_command, law_command, corr_command, relator_command, property_command, domain_command, rule_command, lifting_command, lifting_typedef_command, quotient_type_command, lift_command, parametric_command, param_rule_command, equiv_command, implies_command, carry_command, abs_eq_command, rep_eq_command}
use Rattle.lt_walks.specs.Walks.{AreOne}
use Rattle.lt_transport_definitions.specs.Sessions.{Session, signature_of}
use Rattle.lt_transport_definitions.specs.Relations.{Correspondence}
use Rattle.lt_transport_definitions.specs.Forms.{declared_correspondence}
use Rattle.lt_transport_definitions.specs.Commands.{CommandRefusal, as_item, because, law_registered, corr_registered, Addition, this_item, a_lemma, Block, session_behind}
use Rattle.lt_transport_definitions.specs.Rows.{BlockOutcome}
use Rattle.lt_transport_definitions.specs.Blocks.{Unless, OfValue, ComesOfRow, ComesOf, AreItemsOf}
use Rattle.lt_transport_definitions.specs.Answers.{first_wrong, wrong_where}
use Rattle.lt_transport_definitions.specs.LawTexts.{law_statement}
use Rattle.lt_transport_definitions.specs.Table.{registers, relator_shape, constructor_test}
use Rattle.lt_session.specs.Taking.{is_built}
use Rattle.lt_session.specs.Walks.{RunRefusal, by_table, not_built, GivesBuilt, RefusesBuilt, built_commands}
use Rattle.lt_session.proofs.Takings.{law-row, label-wrong, law-block, OfLaw}
use Rattle.lt_session.proofs.Registerings.{one-registration}
use Rattle.lt_session.proofs.Correspondences.{OfCorr, const-wrong}

-- items as they stand, and no lemma with free lines
abbrev AreThese : List Addition → Type 0
AreThese [] = Unit {0}
AreThese (this_item i ∷ additions) = AreThese additions
AreThese (a_lemma l t ∷ additions) = ⊥

-- One outcome is said, and a block has items as they stand.
record IsOne (P : BlockOutcome → Type 0) : Type 0 where
  one : (o p : BlockOutcome) → P o → P p → o ≡ p
  these : (b : Block) → P (Ok b) → AreThese b.additions

one-block : (b : Block) → AreThese b.additions → IsOne (λ o. o ≡ Ok b)
one-block b h = record {
  one = λ o p a c. a ∙ sym c;
  these = λ d e. let same : d ≡ b = cc e in subst (λ (z : Block). AreThese z.additions) (sym same) h;
}

one-refusal : (r : CommandRefusal) → IsOne (λ o. o ≡ Err r)
one-refusal r = record { one = λ o p a c. a ∙ sym c; these = λ d e. absurd (cc e) }

one-unless : (r : Option CommandRefusal) (P : BlockOutcome → Type 0) → IsOne P → IsOne (Unless r P)
one-unless None P h = h
one-unless (Some r) P h = one-refusal r

one-value : {A : Type 0} (x : Option A) (r : CommandRefusal) (P : A → BlockOutcome → Type 0) → ((y : A) → IsOne (P y)) → IsOne (OfValue x r P)
one-value None r P h = one-refusal r
one-value (Some y) r P h = h y

one-law : (s : Session) (w l : Chars) → IsOne (ComesOf s (law_command w l))
one-law s w l =
    one-unless (first_wrong (label-wrong l (found l s.context.statements) ∷ None ∷ None ∷ [])) (ComesOfRow s (law-row s w l (found l s.context.statements)))
    (one-value (found l s.context.statements) (as_item (unknown_statement l)) (λ t o. OfLaw s w l t (law_statement w) o)
    (λ t. one-value (law_statement w) (because "UnknownLaw" (w ∷ [])) (OfSame t)
    (λ u. one-unless (wrong_where (not (is_alpha t u)) (because "LawDiffers" (w ∷ []))) (ComesOfRow s (registers (law_registered w l))) (one-block (law-block w l) tt))))
  where
    OfSame : TermTree → TermTree → BlockOutcome → Type 0
    OfSame t u p = Unless (wrong_where (not (is_alpha t u)) (because "LawDiffers" (w ∷ []))) (ComesOfRow s (registers (law_registered w l))) p

-- `corr`, by the constant's type and the correspondence that it is
one-corr : (s : Session) (c : Chars) (t : Option TypeTree) (d : Option Correspondence) → IsOne (λ o. Unless (first_wrong (const-wrong c t ∷ None ∷ None ∷ [])) (OfCorr s c d) o)
one-corr s c t d =
    one-unless (first_wrong (const-wrong c t ∷ None ∷ None ∷ [])) (OfCorr s c d)
    (one-value d (relator_shape (codes "Corr")) (λ e p. Unless (constructor_test s.registry c) (ComesOfRow s (registers (corr_registered e))) p)
    (λ e. one-unless (constructor_test s.registry c) (ComesOfRow s (registers (corr_registered e))) (one-block (one-registration (corr_registered e)) tt)))

one-comes : (s : Session) (c : Command) → is_built c ≡ true → IsOne (ComesOf s c)
one-comes s (item_command i) b = one-unless _ _ (one-block _ tt)
one-comes s (law_command w l) b = one-law s w l
one-comes s (corr_command a) b = one-corr s a (declared_type (signature_of s) a) (declared_correspondence (signature_of s) a)
one-comes s (relator_command x y z u v w) b = absurd (cc b)
one-comes s (property_command l) b = absurd (cc b)
one-comes s (domain_command l) b = absurd (cc b)
one-comes s (rule_command l) b = absurd (cc b)
one-comes s (lifting_command l) b = absurd (cc b)
one-comes s (lifting_typedef_command q) b = absurd (cc b)
one-comes s (quotient_type_command q params r l) b = absurd (cc b)
one-comes s (lift_command n ty t l) b = absurd (cc b)
one-comes s (parametric_command q) b = absurd (cc b)
one-comes s (param_rule_command n l m) b = absurd (cc b)
one-comes s (equiv_command n t) b = absurd (cc b)
one-comes s (implies_command n t) b = absurd (cc b)
one-comes s (carry_command n e l) b = absurd (cc b)
one-comes s (abs_eq_command a) b = absurd (cc b)
one-comes s (rep_eq_command a) b = absurd (cc b)

one-items : (additions : List Addition) (xs ys : List theory.Item) → AreThese additions → AreItemsOf additions xs → AreItemsOf additions ys → xs ≡ ys
one-items [] [] [] t h k = refl
one-items [] [] (y ∷ ys) t h k = absurd k
one-items [] (x ∷ xs) ys t h k = absurd h
one-items (a_lemma l s ∷ additions) xs ys t h k = absurd t
one-items (this_item i ∷ additions) [] ys t h k = absurd h
one-items (this_item i ∷ additions) (x ∷ xs) [] t h k = absurd k
one-items (this_item i ∷ additions) (x ∷ xs) (y ∷ ys) t (h, hs) (k, ks) = λ n. (h ∙ sym k) n ∷ one-items additions xs ys t hs ks n

one-adds : (s : Session) (c : Command) (xs ys : List theory.Item) (a b : Session) → GivesBuilt s c xs a → GivesBuilt s c ys b → (xs ≡ ys) × (a ≡ b)
one-adds s c xs ys a b (built, (d, comes, items, valid, is)) (_, (e, comes', items', valid', is')) =
    let one = one-comes s c built in
    let both : Ok d ≡ Ok e = one.one (Ok d) (Ok e) comes comes' in
    let same : d ≡ e = cc both in (
      one-items d.additions xs ys (one.these d comes) items (subst (λ (z : Block). AreItemsOf z.additions ys) (sym same) items'),
      is ∙ ap (session_behind s) same ∙ sym is',
    )

one-refuses : (s : Session) (c : Command) (r q : RunRefusal) → RefusesBuilt s c r → RefusesBuilt s c q → r ≡ q
one-refuses s c (by_table r) (by_table q) (built, comes) (_, comes') =
    let both : Err r ≡ Err q = (one-comes s c built).one (Err r) (Err q) comes comes' in
    let same : r ≡ q = cc both in ap by_table same
one-refuses s c (by_table r) not_built (built, comes) unbuilt = absurd (cc (sym built ∙ unbuilt))
one-refuses s c not_built (by_table q) unbuilt (built, comes) = absurd (cc (sym built ∙ unbuilt))
one-refuses s c not_built not_built h k = refl

one-apart : (s : Session) (c : Command) (xs : List theory.Item) (a : Session) (r : RunRefusal) → GivesBuilt s c xs a → RefusesBuilt s c r → ⊥
one-apart s c xs a (by_table r) (built, (d, comes, items, valid, is)) (_, comes') = cc ((one-comes s c built).one (Ok d) (Err r) comes comes')
one-apart s c xs a not_built (built, gives) unbuilt = cc (sym built ∙ unbuilt)

pub built_one : (limit : ℕ) → AreOne (built_commands limit)
built_one limit = record { adds = one-adds; refuses = one-refuses; apart = one-apart }
