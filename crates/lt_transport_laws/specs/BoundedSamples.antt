-- A session over a typedef with a predicate that is lifted and three rules of the quantifier, and
-- what is asked of a quantified statement in it.
-- Source: this project's own.
use Rattle.std.specs.Prelude.{ℕ, List, [], ◌∷◌, ◌++◌, map, codes, fold}
use Rattle.lt_definitions.specs.Samples.{tyvar, type_of_args, nat, bound, free, con, con_at, app, lambda}
use Rattle.lt_definitions.specs.Types.{TypeTree, bool}
use Rattle.lt_definitions.specs.Terms.{TermTree, implies, for_all}
use Rattle.lt_definitions.specs.Items.{Item, const_item, axiom_item}
use Rattle.lt_transport_definitions.specs.Notation.{WithType, ◌⇒◌, ◌~◌, ◌·◌, equality_at}
use Rattle.lt_transport_definitions.specs.Constants.{eq_onp, rel_fun}
use Rattle.lt_transport_definitions.specs.Relations.{Relation, relation_variable, equality, constructed, no_relations, Property, RelationVariable, PropertyRule, Registry, built_in_registry}
use Rattle.lt_transport_definitions.specs.Expressions.{function_relator, implication}
use Rattle.lt_transport_definitions.specs.RuleForm.{TransferRule}
use Rattle.lt_transport_definitions.specs.Search.{equal, Question}
use Rattle.lt_transport_definitions.specs.LawTable.{further_statements}
use Rattle.lt_transport_definitions.specs.Sessions.{QuotientEntry, Session, signature_of}
use Rattle.lt_transport_definitions.specs.Quotients.{Quot, identity_quotient, relator_quotient, registered_quotient, no_quots, quot_and}
use Rattle.lt_transport_definitions.specs.QuotientTerms.{four_of}
use Rattle.lt_transport_definitions.specs.Commands.{rule_registered, with_registration, session_behind}
use Rattle.lt_transport_definitions.specs.QuotientRows.{typedef_entry, adds_typedef_quotient}
use Rattle.lt_transport_definitions.specs.LiftRows.{adds_lifted}
use Rattle.lt_transport_definitions.specs.Samples.{session_over, typedef_items}
use Rattle.lt_transport_definitions.specs.RefusalSamples.{block_in}
use Rattle.lt_transport_laws.specs.SearchSamples.{rule_all}

-- the abstract type
abbrev pub t : TypeTree
t = type_of_args "t" []

-- the predicate that gives it, and the one that is lifted
abbrev pub P : WithType
P = record { term = con "P"; ty = nat ⇒ bool }

abbrev pub h : WithType
h = record { term = con "h"; ty = nat ⇒ bool }

-- the typedef, the further statements, and that h respects the typedef's quotient
abbrev pub bounded_items : List Item
bounded_items = typedef_items ++ (map (λ p. axiom_item p.0 p.1.term) further_statements
    ++ const_item (codes "h") (nat ⇒ bool)
    ∷ axiom_item (codes "k_resp") (rel_fun (eq_onp P) (equality_at bool) · h · h).term ∷ [])

-- the quotient of t
abbrev pub t_entry : QuotientEntry
t_entry = typedef_entry (codes "t")
    (record {
      name = codes "t";
      params = [];
      predicate = con "P";
      abs = codes "abs_t";
      rep = codes "rep_t";
    }) P

-- the session with it
abbrev pub over_t : Session
over_t = session_behind (session_over bounded_items) (block_in (adds_typedef_quotient t_entry P))

-- that of predicates over t
abbrev pub predicate_quotient : Quot
predicate_quotient = relator_quotient (codes "fun")
    (quot_and (registered_quotient t_entry []) (quot_and (identity_quotient bool) no_quots))

-- with k, which lifts h
abbrev pub over_k : Session
over_k = session_behind over_t
    (block_in (adds_lifted over_t (codes "k") (t ⇒ bool) h (codes "k_resp")
    (four_of over_t.registry predicate_quotient)))

-- with three rules of the quantifier
abbrev pub over_bounded : Session
over_bounded = fold with_registration over_k (rule_registered (codes "all_transfer")
    ∷ rule_registered (codes "all_implies") ∷ rule_registered (codes "all_bounded") ∷ [])

-- all x. k x
abbrev pub all_k : TermTree
all_k = for_all t (lambda "x" t (app (con "k") (bound "x")))

-- cr_t
abbrev pub relation_t : Relation
relation_t = constructed (codes "cr_t") [] no_relations

-- a property of cr_t
abbrev pub property_of_t : List ℕ → Property → PropertyRule
property_of_t l p = record { label = l; property = p; head = codes "cr_t"; premises = [] }

-- what is registered in that session
abbrev pub registry_t : Registry
registry_t = record built_in_registry {
  correspondences = built_in_registry.correspondences
      ++ record { name = codes "cr_t"; raw = nat; con = codes "t"; parameters = [] } ∷ [];
  property_rules = property_of_t (codes "t_bi_unique") (codes "bi_unique")
      ∷ property_of_t (codes "t_right_total") (codes "right_total")
      ∷ property_of_t (codes "t_right_unique") (codes "right_unique") ∷ [];
  domain_rules = record {
    label = codes "t_domain";
    head = codes "cr_t";
    variables = [];
    type_arguments = [];
    domain = con "P";
  } ∷ [];
}

-- the variable of the quantifier's rules
abbrev pub variable_A : RelationVariable
variable_A = record { name = codes "A1"; left_name = codes "a"; right_name = codes "b" }

-- A ===> eq
abbrev pub predicates_over_A : Relation
predicates_over_A = function_relator (relation_variable 0 (tyvar "b")) (equality bool)

-- right_total A --> ((A ===> eq) ===> imp) all all
abbrev pub rule_implies : TransferRule
rule_implies = record {
  label = codes "all_implies";
  variables = variable_A ∷ [];
  sides = (codes "right_total", 0) ∷ [];
  relation = function_relator predicates_over_A implication;
  raw = con_at "all" (tyvar "a" ∷ []);
  constant = codes "all";
  pattern = tyvar "b" ∷ [];
}

-- right_total A --> ((A ===> eq) ===> eq) (\P. all x. Domainp A x --> P x) all
abbrev pub rule_bounded : TransferRule
rule_bounded = record {
  label = codes "all_bounded";
  variables = variable_A ∷ [];
  sides = (codes "right_total", 0) ∷ [];
  relation = function_relator predicates_over_A (equality bool);
  raw = lambda "P" (tyvar "a" ⇒ bool) (for_all (tyvar "a") (lambda "x" (tyvar "a")
      (implies (app
      (app (con_at "Domainp" (tyvar "a" ∷ tyvar "b" ∷ [])) (free "A1" (tyvar "a" ~ tyvar "b")))
      (bound "x"))
      (app (bound "P") (bound "x")))));
  constant = codes "all";
  pattern = tyvar "b" ∷ [];
}

-- (cr_t ===> eq) h k
abbrev pub rule_k : TransferRule
rule_k = record {
  label = codes "k_transfer";
  variables = [];
  sides = [];
  relation = function_relator relation_t (equality bool);
  raw = con "h";
  constant = codes "k";
  pattern = [];
}

-- (cr_t ===> cr_t ===> eq) (eq_onp P) eq
abbrev pub rule_rel : TransferRule
rule_rel = record {
  label = codes "t_rel";
  variables = [];
  sides = [];
  relation = function_relator relation_t (function_relator relation_t (equality bool));
  raw = (eq_onp P).term;
  constant = codes "eq";
  pattern = t ∷ [];
}

-- what is asked: what all x. k x is equal to
abbrev pub question_bounded : Question
question_bounded = record {
  signature = signature_of over_bounded;
  registry = registry_t;
  rules = rule_rel ∷ rule_k ∷ rule_all ∷ rule_implies ∷ rule_bounded ∷ [];
  statement = all_k;
  top = equal;
}
