-- Each command is taken or refused.
use Rattle.std.proofs.Common.{◌≡◌, ◌⊎◌, inl, inr, ℕ, List, [], ◌∷◌, true, Option, Some, None, refl}
use Rattle.lt_definitions.specs.Types.{Chars, found, TypeTree}
use Rattle.lt_definitions.specs.Typing.{declared_type, unknown_const}
use Rattle.lt_definitions.specs.Terms.{TermTree}
use Rattle.lt_definitions.specs.Items as theory
use Rattle.lt_definitions.specs.Theory as refusals
use Rattle.lt_definitions.specs.Theory.{refusal, unknown_statement, at_fault}
use Rattle.lt_texts.specs.Commands.{Command, item_command, law_command, corr_command, relator_command, property_command, domain_command, rule_command, lifting_command, lifting_typedef_command, quotient_type_command, lift_command, parametric_command, param_rule_command, equiv_command, implies_command, carry_command, abs_eq_command, rep_eq_command}
use Rattle.lt_walks.specs.Walks.{AreTotal}
use Rattle.lt_laws.specs.declared.law_fault.LawFault.{LawFault}
use Rattle.lt_laws.specs.Registering.{law_fault}
use Rattle.lt_relations.specs.declared.rel_fault.RelFault.{RelFault}
use Rattle.lt_transport_definitions.specs.Relations.{Registry}
use Rattle.lt_transport_definitions.specs.Sessions.{Session, signature_of}
use Rattle.lt_transport_definitions.specs.Commands.{as_item, session_behind}
use Rattle.lt_session.specs.Taking.{is_built}
use Rattle.lt_session.specs.Walks.{RunRefusal, by_table, not_built, GivesBuilt, RefusesBuilt, built_commands}
use Rattle.lt_session.proofs.Takings.{item-block, gives-item, refused-item, law-block, gives-law, law-refusal, refused-law, refused-label}
use Rattle.lt_session.proofs.Registerings.{one-registration, fault-refusal, ComesOfFault}
use Rattle.lt_session.proofs.Correspondences.{refused-const, corr-comes}

abbrev Outcome : Session → Command → Type 0
Outcome s c = ((items : List theory.Item) × (later : Session) × GivesBuilt s c items later) ⊎ ((r : RunRefusal) × RefusesBuilt s c r)

of-item : (s : Session) (i : theory.Item) (o : Option refusals.Refusal) → refusal s.context i ≡ o → Outcome s (item_command i)
of-item s i None e = inl (i ∷ [], session_behind s (item-block i), (refl, gives-item s i e))
of-item s i (Some r) e = inr (by_table (as_item r), (refl, refused-item s i r e))

by-law : (s : Session) (w l : Chars) (t : TermTree) (f : Option LawFault) → found l s.context.statements ≡ Some t → law_fault w t ≡ f → Outcome s (law_command w l)
by-law s w l t None e h = inl ([], session_behind s (law-block w l), (refl, gives-law s w l t e h))
by-law s w l t (Some f) e h = inr (by_table (law-refusal f), (refl, refused-law s w l t f e h))

of-law : (s : Session) (w l : Chars) (t : Option TermTree) → found l s.context.statements ≡ t → Outcome s (law_command w l)
of-law s w l None e = inr (by_table (as_item (unknown_statement l)), (refl, refused-label s w l e))
of-law s w l (Some t) e = by-law s w l t (law_fault w t) e refl

-- a command that registers something, by what is wrong
by-fault : (s : Session) (c : Command) (fault : Option RelFault) (registered : Registry) → is_built c ≡ true → ComesOfFault s c fault registered → (f : Option RelFault) → fault ≡ f → Outcome s c
by-fault s c fault registered built comes None e = let t = comes.taken e in inl ([], session_behind s (one-registration t.0), (built, (one-registration t.0, t.1, tt, tt, refl)))
by-fault s c fault registered built comes (Some f) e = inr (by_table (fault-refusal f), (built, comes.refused f e))

of-corr : (s : Session) (c : Chars) (t : Option TypeTree) → declared_type (signature_of s) c ≡ t → Outcome s (corr_command c)
of-corr s c None e = inr (by_table (as_item (at_fault (unknown_const c))), (refl, refused-const s c e))
of-corr s c (Some ty) e = by-fault s (corr_command c) _ _ refl (corr-comes s c ty e) _ refl

outcome : (s : Session) (c : Command) → Outcome s c
outcome s (item_command i) = of-item s i (refusal s.context i) refl
outcome s (law_command w l) = of-law s w l (found l s.context.statements) refl
outcome s (corr_command c) = of-corr s c (declared_type (signature_of s) c) refl
outcome s (relator_command a b c d e f) = inr (not_built, refl)
outcome s (property_command l) = inr (not_built, refl)
outcome s (domain_command l) = inr (not_built, refl)
outcome s (rule_command l) = inr (not_built, refl)
outcome s (lifting_command l) = inr (not_built, refl)
outcome s (lifting_typedef_command q) = inr (not_built, refl)
outcome s (quotient_type_command q params r l) = inr (not_built, refl)
outcome s (lift_command n ty t l) = inr (not_built, refl)
outcome s (parametric_command q) = inr (not_built, refl)
outcome s (param_rule_command n l m) = inr (not_built, refl)
outcome s (equiv_command n t) = inr (not_built, refl)
outcome s (implies_command n t) = inr (not_built, refl)
outcome s (carry_command n e l) = inr (not_built, refl)
outcome s (abs_eq_command c) = inr (not_built, refl)
outcome s (rep_eq_command c) = inr (not_built, refl)

pub built_total : (limit : ℕ) → AreTotal (built_commands limit)
built_total limit = λ s c allowed. outcome s c
