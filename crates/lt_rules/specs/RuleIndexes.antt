-- The rules of each constant, beside the list of all.
use Rattle.std.specs.Prelude.{◌≡◌, ◌-◌, List, [], map, filter, length, take, unwrap_or, if◌then◌else◌}
use Rattle.lt_definitions.specs.Types.{Chars, same_name, found}
use Rattle.lt_transport_definitions.specs.RuleForm.{TransferRule}

-- the rules of a constant, in their order
abbrev pub rules_of : List TransferRule → Chars → List TransferRule
rules_of rules c = filter (λ r. same_name r.constant c) rules

-- the things that stand under names, without these
abbrev pub things : {A : Type 0} → List (Chars × A) → List A
things entries = map (λ e. e.1) entries

-- the list under a name, which is empty where there is none
abbrev pub listed_under : {A : Type 0} → Chars → List (Chars × List A) → List A
listed_under x lists = unwrap_or (found x lists) []

abbrev pub without_last : {A : Type 0} → List A → List A
without_last xs = take (length xs - 1) xs

-- The list under one name is changed, and each other one stays.
abbrev pub Changes : {A : Type 0} → Chars → (List A → List A) → (old new : List (Chars × List A))
    → Type 0
Changes x change old new = (y : Chars) → listed_under y new
    ≡ (if same_name x y then change (listed_under y old) else listed_under y old)

-- The lists under each name are the same.
abbrev pub Agree : {A : Type 0} → List (Chars × List A) → List (Chars × List A) → Type 0
Agree old new = (y : Chars) → listed_under y new ≡ listed_under y old

-- Under each constant stand its rules.
abbrev pub IsIndex : List (Chars × List TransferRule) → List TransferRule → Type 0
IsIndex lists rules = (c : Chars) → listed_under c lists ≡ rules_of rules c
