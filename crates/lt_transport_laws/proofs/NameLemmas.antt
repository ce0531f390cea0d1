-- The names that are tested before a row are those that its block adds.
use Rattle.lt_transport_definitions.specs.Answers.{first_wrong}
use Rattle.lt_transport_definitions.specs.Sessions.{Session}
use Rattle.lt_texts.specs.Commands.{Command, item_command, law_command, corr_command, relator_command, property_command, domain_command, rule_command, lifting_command, lifting_typedef_command, quotient_type_command, lift_command, parametric_command, param_rule_command, equiv_command, implies_command, carry_command, abs_eq_command, rep_eq_command}
use Rattle.lt_transport_definitions.specs.Commands.{Addition, item_of}
use Rattle.lt_transport_definitions.specs.Parts.{tests_before, names_added}
use Rattle.lt_transport_definitions.specs.Table.{row_of}
use Rattle.lt_transport_definitions.specs.Blocks.{ComesOfRow}
use Rattle.std.proofs.Common.{◌≡◌, false, List, refl}
use Rattle.std.specs.List.{flat_map}
use Rattle.lt_transport_laws.specs.Statements.{names_of_item, tests_own_names, NamesAreAdded}
use Rattle.lt_transport_laws.proofs.RowLemmas.{Each, comes-unless, comes-each}

abbrev Added : Command → List Addition → Type 0
Added c items = tests_own_names c ≡ false → flat_map (λ a. names_of_item (item_of a)) items ≡ names_added c

names-rows : (s : Session) (c : Command) → Each (Added c) (row_of s c)
names-rows s (item_command i) = λ h. absurd (cc)
names-rows s (law_command w l) = λ t law h. refl
names-rows s (corr_command c) = λ d h. refl
names-rows s (relator_command K R M E Q O) = λ eq quot comp x h. refl
names-rows s (property_command l) = λ t rule h. refl
names-rows s (domain_command l) = λ t rule h. refl
names-rows s (rule_command l) = λ t rule h. refl
names-rows s (lifting_command l) = λ t quot d h. absurd (cc)
names-rows s (lifting_typedef_command q) = λ t h. refl
names-rows s (quotient_type_command q params r l) = λ t h. refl
names-rows s (lift_command n ty t l) = λ respects q h. refl
names-rows s (parametric_command q) = λ e h. refl
names-rows s (param_rule_command n l m) = λ t u rule h. refl
names-rows s (equiv_command n t) = λ image normal h. refl
names-rows s (implies_command n t) = λ image normal h. refl
names-rows s (carry_command n e l) = λ transport t h. refl
names-rows s (abs_eq_command c) = λ e q h. refl
names-rows s (rep_eq_command c) = λ e q h. refl

pub names-added : NamesAreAdded
names-added s c b h k = comes-each (Added c) s (row_of s c) b (names-rows s c) (comes-unless (first_wrong (tests_before s c)) (ComesOfRow s (row_of s c)) b k) h
