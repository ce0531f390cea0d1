-- A question of which the examples of searches speak.
-- Source: this project's own.
use Rattle.std.specs.Prelude.{ℕ, zero, suc, List, [], ◌∷◌, codes}
use Rattle.lt_definitions.specs.Types.{TypeTree, bool}
use Rattle.lt_definitions.specs.Terms.{TermTree, bound_name, abstraction, equation, for_all}
use Rattle.lt_definitions.specs.Typing.{Signature}
use Rattle.lt_definitions.specs.Items.{Item, const_item, axiom_item}
use Rattle.lt_definitions.specs.Samples.{tyvar, type_of_args, con, con_at, app, implication}
use Rattle.lt_transport_definitions.specs.Relations.{relation_variable, equality, built_in_registry}
use Rattle.lt_transport_definitions.specs.Expressions.{function_relator, implication as implied_by}
use Rattle.lt_transport_definitions.specs.RuleForm.{TransferRule}
use Rattle.lt_transport_definitions.specs.Search.{equal, Question}
use Rattle.lt_transport_definitions.specs.Sessions.{Session, signature_of}
use Rattle.lt_transport_definitions.specs.Commands.{rule_registered, with_registration}
use Rattle.lt_transport_definitions.specs.Samples.{law_signature, session_over}

-- a type of which nothing is registered
abbrev pub int : TypeTree
int = type_of_args "int" []

-- bi_total A --> ((A ===> eq) ===> eq) all all
abbrev pub rule_all : TransferRule
rule_all = record {
  label = codes "all_transfer";
  variables = record { name = codes "A1"; left_name = codes "a"; right_name = codes "b" } ∷ [];
  sides = (codes "bi_total", 0) ∷ [];
  relation = function_relator (function_relator (relation_variable 0 (tyvar "b")) (equality bool))
      (equality bool);
  raw = con_at "all" (tyvar "a" ∷ []);
  constant = codes "all";
  pattern = tyvar "b" ∷ [];
}

-- all x. true, over int
abbrev pub always_true : TermTree
always_true = for_all int (abstraction (codes "x") int (con "true"))

-- which image it is equal to by that rule
abbrev pub question_true : Question
question_true = record {
  signature = law_signature;
  registry = built_in_registry;
  rules = rule_all ∷ [];
  statement = always_true;
  top = equal;
}

-- the first choice list
abbrev pub first_choices : List ℕ
first_choices = 0 ∷ 0 ∷ 0 ∷ []

-- p --> q as a rule: imp between p and q
abbrev pub rule_pq : TransferRule
rule_pq = record {
  label = codes "pq";
  variables = [];
  sides = [];
  relation = implied_by;
  raw = con "p";
  constant = codes "q";
  pattern = [];
}

-- a session with that rule
abbrev pub over_implied : Session
over_implied = with_registration (session_over implication) (rule_registered (codes "pq"))

-- whether q is equal to an image
abbrev pub question_q : Question
question_q = record {
  signature = signature_of over_implied;
  registry = built_in_registry;
  rules = rule_pq ∷ [];
  statement = con "q";
  top = equal;
}

-- not inside so many others, around false
abbrev pub nots : ℕ → TermTree
nots zero = con "false"
nots (suc k) = app (con "not") (nots k)

-- equality between a term and q, as a rule
abbrev pub rule_by : TermTree → TransferRule
rule_by raw = record {
  label = codes "bq";
  variables = [];
  sides = [];
  relation = equality bool;
  raw = raw;
  constant = codes "q";
  pattern = [];
}

-- which image q is equal to by that rule
abbrev pub question_by : Signature → TermTree → Question
question_by sig raw = record {
  signature = sig;
  registry = built_in_registry;
  rules = rule_by raw ∷ [];
  statement = con "q";
  top = equal;
}

-- a session with that rule
abbrev pub given_items : TermTree → List Item
given_items raw =
    const_item (codes "q") bool ∷ axiom_item (codes "bq") (equation bool raw (con "q")) ∷ []

abbrev pub over_given : TermTree → Session
over_given raw = with_registration (session_over (given_items raw)) (rule_registered (codes "bq"))

-- and x (and x .. x), where x is bound
abbrev pub ands : ℕ → TermTree
ands zero = bound_name (codes "x")
ands (suc k) = app (app (con "and") (bound_name (codes "x"))) (ands k)

-- a redex that puts a large term for each of these
abbrev pub redex : TermTree
redex = app (abstraction (codes "x") bool (ands 25)) (nots 1900)
