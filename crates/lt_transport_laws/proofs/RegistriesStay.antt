-- Each command leaves the registry one that meets what the laws ask.
use Rattle.std.specs.Prelude.{◌≡◌, ℕ, List, [], ◌∷◌, ◌++◌, Bool, true, false, ◌&&◌, not, Option, Some, None, Result, Ok, codes, fold, map, option_map, option_to_list, unwrap_or, is_some, nat_lt}
use Rattle.std.proofs.Common.{refl, subst, sym, ap, ◌∙◌, inl, inr}
use Rattle.std.specs.List.{range_with_len}
use Rattle.lt_definitions.specs.Types.{Chars, same_name, TypeTree}
use Rattle.lt_transport_definitions.specs.Constants.{is_declared_as, is_counted}
use Rattle.lt_definitions.specs.Terms.{TermTree}
use Rattle.lt_definitions.specs.Typing.{Signature, declared_arity}
use Rattle.lt_definitions.specs.Theory.{duplicate}
use Rattle.lt_definitions.proofs.SameNames.{bool_cases, name-true}
use Rattle.lt_transport_definitions.specs.Relations.{Relator, Registry, relator_for, a_relator, relator_named, kind_of, is_constructor}
use Rattle.lt_transport_definitions.specs.Answers.{needs_test, wrong_where, first_wrong}
use Rattle.lt_transport_definitions.specs.Reading.{arity_of}
use Rattle.lt_transport_definitions.specs.RuleForm.{TransferRule}
use Rattle.lt_transport_definitions.specs.Notation.{◌⇒◌, ◌~◌}
use Rattle.lt_transport_definitions.specs.RelatorForm.{type_number, lifted_type, equality_statement, quotient_statement, composition_statement, states, relator_form}
use Rattle.lt_transport_definitions.specs.Sessions.{Session, signature_of}
use Rattle.lt_texts.specs.Commands.{Command, item_command, law_command, corr_command, relator_command, property_command, domain_command, rule_command, lifting_command, lifting_typedef_command, quotient_type_command, lift_command, parametric_command, param_rule_command, equiv_command, implies_command, carry_command, abs_eq_command, rep_eq_command}
use Rattle.lt_transport_definitions.specs.Commands.{CommandRefusal, as_item, rule_registered, Block, with_registration, session_behind}
use Rattle.lt_transport_definitions.specs.Parts.{tests_before}
use Rattle.lt_transport_definitions.specs.Table.{row_of}
use Rattle.lt_transport_definitions.specs.Blocks.{ComesOfRow}
use Rattle.lt_transport_laws.specs.SessionStatements.{RegistriesStaySound}
use Rattle.lt_transport_laws.proofs.RowLemmas.{comes-unless}
use Rattle.lt_transport_laws.proofs.RowFacts.{EachBlock, comes-block}
use Rattle.lt_transport_laws.proofs.RegistryLemmas.{is-kind, AreSound, sound-registry, registry-sound, sound-more}

-- the relators behind a block
abbrev Behind : Session → Block → List Relator
Behind s b = (session_behind s b).registry.relators

-- and a rule that may be registered the relators
optional-rules : (s : Session) (l : Chars) (o : Option TransferRule) → AreSound s.registry.relators
    → AreSound (fold with_registration s (option_to_list (option_map (λ rule. rule_registered l) o))).registry.relators
optional-rules s l None k = k
optional-rules s l (Some rule) k = k

-- the relators are sound behind a block, if they were before
abbrev Sound : Session → Block → Type 0
Sound s b = AreSound s.registry.relators → AreSound (Behind s b)

-- a test that finds nothing wrong
holds-not : (t : Bool) (e : CommandRefusal) → wrong_where t e ≡ None → t ≡ false
holds-not true e h = absurd (cc)
holds-not false e h = refl

not-some : (o : Option Chars) → is_some o ≡ false → o ≡ None
not-some None h = refl
not-some (Some x) h = absurd (cc)

-- what is no relation constructor is no relator's name
no-name : (G : Registry) (c : Chars) (o : Option Chars) → relator_named G c ≡ o → is_constructor (kind_of G c) ≡ false → o ≡ None
no-name G c None e h = refl
no-name G c (Some K) e h = let k : kind_of G c ≡ a_relator K = is-kind G c K e in
    let p : is_constructor (kind_of G c) ≡ true = ap is_constructor k in absurd (cc)

-- a relator's type constructor has arguments
no-bool : (t u : Bool) (rest : Result Relator Chars) (r : Relator) → needs_test (t && u) (codes "K") rest ≡ Ok r → u ≡ true
no-bool true true rest r h = refl
no-bool true false rest r h = absurd (cc)
no-bool false u rest r h = absurd (cc)

not-bool : (sig : Signature) (K : Chars) → declared_arity sig (codes "bool") ≡ Some 0 → nat_lt 0 (arity_of sig K) ≡ true → same_name (codes "bool") K ≡ false
not-bool sig K h e = elim (bool_cases (same_name (codes "bool") K)) [
  | inr n ↦ n
  | inl s ↦
      let zero_arity : arity_of sig K ≡ 0 = ap (arity_of sig) (sym (name-true (codes "bool") K s)) ∙ ap (λ o. unwrap_or o 0) h in
      let p : nat_lt 0 (arity_of sig K) ≡ false = ap (nat_lt 0) zero_arity in absurd (cc)
]

test-ok : (t : Bool) (e : Chars) (r : Result Relator Chars) (x : Relator) → needs_test t e r ≡ Ok x → r ≡ Ok x
test-ok true e r x h = h
test-ok false e r x h = absurd (cc)

same-relator : (r x : Relator) → ◌≡◌ {A = Result Relator Chars} (Ok r) (Ok x) → x ≡ r
same-relator r x h = cc

-- the form of a relator gives the relator itself
pub form-same : (sig : Signature) (r : Relator) (eq quot comp : TermTree) (x : Relator) → relator_form sig r eq quot comp ≡ Ok x → x ≡ r
form-same sig r eq quot comp x h =
    let n : ℕ = arity_of sig r.con in
    let ns : List ℕ = range_with_len 1 n in
    let ss : List TypeTree = map (type_number "a") ns in
    let ts : List TypeTree = map (type_number "b") ns in
    let r6 : Result Relator Chars = needs_test (is_counted sig (codes "relcompp") && states comp (composition_statement r.con r.rel ns)) (codes "O") (Ok r) in
    let r5 : Result Relator Chars = needs_test (is_counted sig (codes "Quotient") && states quot (quotient_statement r.con r.rel r.mapping ns)) (codes "Q") r6 in
    let r4 : Result Relator Chars = needs_test (states eq (equality_statement r.con r.rel ss)) (codes "E") r5 in
    let r3 : Result Relator Chars = needs_test (is_declared_as sig r.mapping (lifted_type ◌⇒◌ r.con ss ts)) (codes "M") r4 in
    let r2 : Result Relator Chars = needs_test (is_declared_as sig r.rel (lifted_type ◌~◌ r.con ss ts)) (codes "R") r3 in
    let h2 = test-ok (not (same_name r.con (codes "fun")) && nat_lt 0 n) (codes "K") r2 x h in
    let h3 = test-ok (is_declared_as sig r.rel (lifted_type ◌~◌ r.con ss ts)) (codes "R") r3 x h2 in
    let h4 = test-ok (is_declared_as sig r.mapping (lifted_type ◌⇒◌ r.con ss ts)) (codes "M") r4 x h3 in
    let h5 = test-ok (states eq (equality_statement r.con r.rel ss)) (codes "E") r5 x h4 in
    let h6 = test-ok (is_counted sig (codes "Quotient") && states quot (quotient_statement r.con r.rel r.mapping ns)) (codes "Q") r6 x h5 in
    let h7 = test-ok (is_counted sig (codes "relcompp") && states comp (composition_statement r.con r.rel ns)) (codes "O") (Ok r) x h6 in
    same-relator r x h7

sound-rows : (s : Session) (c : Command) → declared_arity (signature_of s) (codes "bool") ≡ Some 0 → EachBlock (Sound s) (row_of s c)
sound-rows s (item_command i) d = λ e k. k
sound-rows s (law_command w l) d = λ t e law f n k. k
sound-rows s (corr_command c) d = λ x e n k. k
sound-rows s (property_command l) d = λ t e rule f n k. k
sound-rows s (domain_command l) d = λ t e rule f n k. k
sound-rows s (rule_command l) d = λ t e rule f n k. k
sound-rows s (lifting_command l) d = λ t e n quot f m x g o p q u v k. k
sound-rows s (lifting_typedef_command q) d = λ n t e m k. k
sound-rows s (quotient_type_command q params r l) d = λ t e n m o p u v w k. k
sound-rows s (lift_command n ty t l) d = λ respects e m o q p u k. optional-rules _ _ _ k
sound-rows s (parametric_command q) d = λ n e f m o k. k
sound-rows s (param_rule_command n l m) d = λ t e u f o rule g p q v w k. k
sound-rows s (equiv_command n t) d = λ e f g image h normal k. k
sound-rows s (implies_command n t) d = λ e f g image h normal k. k
sound-rows s (carry_command n e l) d = λ transport f t g m k. k
sound-rows s (abs_eq_command c) d = λ e f n q k. k
sound-rows s (rep_eq_command c) d = λ e f n q m k. k
sound-rows s (relator_command K R M E Q O) d = λ eq e quot f comp g x h n m k.
    let r : Relator = record { con = K; rel = R; mapping = M; eq = E; quot = Q; comp = O } in
    let same_relator : x ≡ r = form-same (signature_of s) r eq quot comp x h in
    let has_arguments : nat_lt 0 (arity_of (signature_of s) r.con) ≡ true = no-bool (not (same_name r.con (codes "fun"))) (nat_lt 0 (arity_of (signature_of s) r.con)) _ x h in
    subst (λ (y : Relator). AreSound (s.registry.relators ++ y ∷ [])) (sym same_relator)
    (sound-more s.registry.relators r k (not-some (relator_for s.registry r.con) (holds-not (is_some (relator_for s.registry r.con)) (as_item (duplicate r.con)) n))
    (no-name s.registry r.rel (relator_named s.registry r.rel) refl (holds-not (is_constructor (kind_of s.registry r.rel)) (as_item (duplicate r.rel)) m))
    (not-bool (signature_of s) r.con d has_arguments))

pub stay-sound : RegistriesStaySound
stay-sound s c b d h k = sound-registry (session_behind s b).registry
    (comes-block (Sound s) s (row_of s c) b (sound-rows s c d) (comes-unless (first_wrong (tests_before s c)) (ComesOfRow s (row_of s c)) b k)
    (registry-sound s.registry h))
