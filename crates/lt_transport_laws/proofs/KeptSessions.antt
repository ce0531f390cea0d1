-- The sessions to which commands lead.
use Rattle.std.specs.Prelude.{◌≡◌, List, [], ◌∷◌, fold, codes}
use Rattle.std.proofs.Common.{refl, sym, subst}
use Rattle.lt_transport_definitions.specs.Answers.{first_wrong}
use Rattle.lt_transport_definitions.specs.Sessions.{Session}
use Rattle.lt_transport_definitions.specs.Commands.{Addition, with_addition}
use Rattle.lt_transport_definitions.specs.Parts.{tests_before}
use Rattle.lt_transport_definitions.specs.Table.{row_of}
use Rattle.lt_transport_definitions.specs.Blocks.{ComesOfRow}
use Rattle.lt_transport_laws.specs.Statements.{IsRegistry}
use Rattle.lt_transport_laws.specs.SessionStatements.{AreScopedDomains, IsInStep}
use Rattle.lt_transport_laws.specs.KeptStatements.{NewSessionsAreKept, SessionsAreKept, KeptSessionsAreScoped, KeptStatementsAreBoolean}
use Rattle.lt_transport_laws.proofs.BuiltIn.{built-in}
use Rattle.lt_transport_laws.proofs.InStep.{stay-in-step}
use Rattle.lt_transport_laws.proofs.OrderedSessions.{new-ordered, stay-ordered}
use Rattle.lt_transport_laws.proofs.RegistriesStay.{stay-sound}
use Rattle.lt_transport_laws.proofs.RowFacts.{comes-block}
use Rattle.lt_transport_laws.proofs.RowLemmas.{comes-unless}
use Rattle.lt_transport_laws.proofs.ScopedDomains.{RegistersScoped, registrations-scoped, scoped-rows}
use Rattle.lt_transport_laws.proofs.ScopedTheories.{theory-scoped}
use Rattle.lt_transport_laws.proofs.TheorySessions.{theory-sound, theory-stated}

registry-kept : (s : Session) (additions : List Addition) → (fold with_addition s additions).registry ≡ s.registry
registry-kept s [] = refl
registry-kept s (a ∷ additions) = registry-kept (with_addition s a) additions

pub new-kept : NewSessionsAreKept
new-kept limit = record {
  ordered = new-ordered limit;
  registry = built-in;
  domains = tt;
  step = record {
    laws = tt;
    relators = tt;
    forms = tt;
    properties = tt;
    domains = tt;
    rules = tt;
    quotients = tt;
    lifted = tt;
    transports = tt;
  };
}

pub stay-kept : SessionsAreKept
stay-kept s c items later h g =
    let row = comes-unless (first_wrong (tests_before s c)) (ComesOfRow s (row_of s c)) g.0 g.1 in
    let registered : RegistersScoped g.0 = comes-block RegistersScoped s (row_of s c) g.0 (scoped-rows s h.ordered c) row in
    let before : AreScopedDomains (fold with_addition s g.0.additions).registry.domain_rules =
    ap-domains s g.0.additions h.domains in
    let bool_is = (theory-sound s h.ordered.theory).built.types (codes "bool") 0 refl in
    record {
      ordered = stay-ordered s c items later h.ordered g;
      registry = subst (λ (t : Session). IsRegistry t.registry) (sym g.4) (stay-sound s c g.0 bool_is h.registry g.1);
      domains = subst (λ (t : Session). AreScopedDomains t.registry.domain_rules) (sym g.4)
          (registrations-scoped (fold with_addition s g.0.additions) g.0.registrations before registered);
      step = subst IsInStep (sym g.4) (stay-in-step s c g.0 h.step g.1);
    }
  where
    ap-domains : (s : Session) (additions : List Addition) → AreScopedDomains s.registry.domain_rules
        → AreScopedDomains (fold with_addition s additions).registry.domain_rules
    ap-domains s additions h = subst (λ G. AreScopedDomains G.domain_rules) (sym (registry-kept s additions)) h

pub kept-scoped : KeptSessionsAreScoped
kept-scoped s h = record { registry = h.registry; statements = theory-scoped s h.ordered.theory; domains = h.domains }

pub kept-boolean : KeptStatementsAreBoolean
kept-boolean s l p h e = theory-stated s h.ordered.theory l p e
