-- The list of all rules: one more, fewer, and those that fit.
use Rattle.std.proofs.Common.{◌≡◌, ◌∙◌, inl, inr, ℕ, zero, suc, ◌+◌, ◌-◌, ◌<◌, ◌≤◌, List, [], ◌∷◌, ◌++◌, map, length, take, filter, slice_get, true, false, ◌&&◌, Some, is_some, if◌then◌else◌, refl, sym, ap, subst, arith, add-one, nat_eq}
use Rattle.std.specs.Cmp.Lexicographic.{pointwise}
use Rattle.std.proofs.lemmas.Bool.{cond-true, cond-false}
use Rattle.std.proofs.lemmas.List.{map-append, take-take, take_all, length-take-le}
use Rattle.std.proofs.lemmas.List.Elements.{filter-append}
use Rattle.std.proofs.lemmas.Option.{same_Some, none-some}
use Rattle.std.proofs.Math.Seq.{take-append_seam}
use Rattle.indexmap.specs.IndexMap.{insert_entry}
use Rattle.lt_definitions.specs.Types.{Chars, same_name, found, TypeTree, row, same_types, type_instance}
use Rattle.lt_definitions.proofs.SameNames.{name-true, bool_cases}
use Rattle.lt_transport_definitions.specs.RuleForm.{TransferRule}
use Rattle.lt_transport_definitions.specs.Candidates.{match_of, fits, candidates}
use Rattle.lt_relations.specs.Tables.{AreKeyed}
use Rattle.lt_types.proofs.NameTables.{inserted-new}
use Rattle.lt_relations.proofs.RegisteringLemmas.{any-keyed, keyed-grown}
use Rattle.lt_rules.specs.RuleIndexes.{rules_of, things, without_last, Changes, Agree, IsIndex}
use Rattle.lt_rules.specs.Registering.{has_label}
use Rattle.lt_rules.proofs.IndexLemmas.{index-more, index-fewer, index-same}

-- ---- the rules by their labels

-- a label has a rule where one is found
pub label-found : (es : List (Chars × TransferRule)) (l : Chars) → AreKeyed (λ r. r.label) es → is_some (found l es) ≡ has_label (things es) l
label-found es l k = sym (any-keyed (λ r. r.label) (λ (r : TransferRule). r) (λ r. same_name l r.label) l es (λ r. refl) k)

-- the last entry is taken away
keyed-front : (es : List (Chars × TransferRule)) (later : List (Chars × TransferRule)) → AreKeyed (λ r. r.label) (es ++ later) → AreKeyed (λ r. r.label) es
keyed-front [] later k = tt
keyed-front (e ∷ es) later k = (k.0, keyed-front es later k.1)

pub keyed-fewer : (es old later : List (Chars × TransferRule)) → old ≡ es ++ later → AreKeyed (λ r. r.label) old → AreKeyed (λ r. r.label) es
keyed-fewer es old later e k = keyed-front es later (subst (λ (xs : List (Chars × TransferRule)). AreKeyed (λ r. r.label) xs) e k)

-- ---- one rule more

pub put-entries : (es new : List (Chars × TransferRule)) (label : Chars) (copy rule : TransferRule) (now : List TransferRule)
    → AreKeyed (λ r. r.label) es → things es ≡ now → label ≡ rule.label → copy ≡ rule → has_label now rule.label ≡ false
    → new ≡ insert_entry (pointwise nat_eq) es label copy → new ≡ es ++ (rule.label, rule) ∷ []
put-entries es new label copy rule now k v l c n e =
    e ∙ inserted-new label copy es (label-found es label k ∙ ap (λ (rs : List TransferRule). has_label rs label) v ∙ ap (has_label now) l ∙ n) ∙ (λ i. es ++ (l i, c i) ∷ [])

things-more : (es new : List (Chars × TransferRule)) (x : Chars) (rule : TransferRule) → new ≡ es ++ (x, rule) ∷ [] → things new ≡ things es ++ rule ∷ []
things-more es new x rule e = ap things e ∙ map-append (λ e. e.1) es ((x, rule) ∷ [])

pub put-told : (es new : List (Chars × TransferRule)) (x : Chars) (rule : TransferRule) (now : List TransferRule) → things es ≡ now → new ≡ es ++ (x, rule) ∷ [] → things new ≡ now ++ rule ∷ []
put-told es new x rule now v e = things-more es new x rule e ∙ ap (λ rs. rs ++ rule ∷ []) v

pub put-kept : (es new : List (Chars × TransferRule)) (lists later : List (Chars × List TransferRule)) (constant : Chars) (rule : TransferRule)
    → AreKeyed (λ r. r.label) es × IsIndex lists (things es) → new ≡ es ++ (rule.label, rule) ∷ [] → constant ≡ rule.constant
    → Changes constant (λ rs. rs ++ rule ∷ []) lists later → AreKeyed (λ r. r.label) new × IsIndex later (things new)
put-kept es new lists later constant rule h e c change = (
  keyed-grown (λ r. r.label) es new rule.label rule h.0 e refl,
  subst (λ (rs : List TransferRule). IsIndex later rs) (sym (things-more es new rule.label rule e))
      (index-more lists later (things es) rule h.1 (subst (λ (x : Chars). Changes x (λ rs. rs ++ rule ∷ []) lists later) c change)),
)

-- and it is taken back
pub restored : {A : Type 0} (es new back : List A) (x : A) (count : ℕ) → new ≡ es ++ x ∷ [] → back ≡ take count new → count ≡ length es → back ≡ es
restored es new back x count n b c = b ∙ ap (take count) n ∙ ap (λ k. take k (es ++ x ∷ [])) c ∙ take-append_seam es (x ∷ [])

pub restored-kept : (es back : List (Chars × TransferRule)) (lists later : List (Chars × List TransferRule)) → back ≡ es
    → AreKeyed (λ r. r.label) es × IsIndex lists (things es) → Agree lists later → AreKeyed (λ r. r.label) back × IsIndex later (things back)
restored-kept es back lists later e h a =
    subst (λ (bs : List (Chars × TransferRule)). AreKeyed (λ r. r.label) bs × IsIndex later (things bs)) (sym e) (h.0, index-same lists later (things es) h.1 a)

-- ---- one rule fewer

pub last-kept : (es later : List (Chars × TransferRule)) (lists fewer : List (Chars × List TransferRule)) (x constant : Chars) (rule : TransferRule)
    → AreKeyed (λ r. r.label) es × IsIndex lists (things es) → es ≡ later ++ (x, rule) ∷ [] → constant ≡ rule.constant → Changes constant without_last lists fewer
    → AreKeyed (λ r. r.label) later × IsIndex fewer (things later)
last-kept es later lists fewer x constant rule h e c change = (
  keyed-fewer later es ((x, rule) ∷ []) e h.0,
  index-fewer lists fewer (things later) rule (subst (λ (rs : List TransferRule). IsIndex lists rs) (things-more later es x rule e) h.1)
      (subst (λ (y : Chars). Changes y without_last lists fewer) c change),
)

-- ---- back to a mark

-- Of some things those behind a mark are dropped, so far as the counter tells.
abbrev pub IsGoingBack : {A : Type 0} → ℕ → List A → List A → ℕ → Type 0
IsGoingBack mark old now counter = (take mark now ≡ take mark old) × (length now ≡ length old - (counter - mark)) × (mark ≤ counter)

pub back-init : {A : Type 0} (mark : ℕ) (old : List A) → IsGoingBack mark old old mark
back-init mark old = (refl, omega arith, omega arith)

pub back-next : {A : Type 0} (mark : ℕ) (old now later : List A) (counter next : ℕ) → IsGoingBack mark old now counter → counter < length old → next ≡ counter + 1 → later ≡ without_last now
    → IsGoingBack mark old later next
back-next mark old now later counter next h below n e =
    let fewer : length later ≡ length now - 1 = ap length e ∙ length-take-le (length now - 1) now (omega arith) in
    (ap (take mark) e ∙ take-take mark (length now - 1) now (omega (arith, h.1, h.2, below)) ∙ h.0, omega (arith, fewer, h.1, h.2, n, below), omega (arith, h.2, n))

pub back-done : {A : Type 0} (mark : ℕ) (old now : List A) (counter : ℕ) → IsGoingBack mark old now counter → length old ≤ counter → now ≡ take mark old
back-done mark old now counter h done = sym (take_all mark now (omega (arith, h.1, h.2, done))) ∙ h.0

-- ---- the rules that fit

-- whether a rule of a constant fits is whether it fits
fits-own : (c : Chars) (ts : List TypeTree) (r : TransferRule) → same_name r.constant c ≡ true → fits r.constant ts r ≡ fits c ts r
fits-own c ts r h = ap (λ x. fits x ts r) (name-true r.constant c h)

fits-other : (c : Chars) (ts : List TypeTree) (r : TransferRule) → same_name r.constant c ≡ false → fits c ts r ≡ false
fits-other c ts r h = ap (λ b. b && same_types (row (map (type_instance (match_of r ts)) r.pattern)) (row ts)) h

-- the rules of a constant that fit are its candidates
pub fitting-of : (rules : List TransferRule) (c : Chars) (ts : List TypeTree) → filter (λ r. fits r.constant ts r) (rules_of rules c) ≡ candidates rules c ts
fitting-of [] c ts = refl
fitting-of (r ∷ rules) c ts = elim (bool_cases (same_name r.constant c)) [
  | inl t ↦ ap (filter (λ (r : TransferRule). fits r.constant ts r)) (cond-true (same_name r.constant c) (r ∷ rules_of rules c) (rules_of rules c) t)
      ∙ (λ i. if fits-own c ts r t i then r ∷ fitting-of rules c ts i else fitting-of rules c ts i)
  | inr f ↦ ap (filter (λ (r : TransferRule). fits r.constant ts r)) (cond-false (same_name r.constant c) (r ∷ rules_of rules c) (rules_of rules c) f)
      ∙ fitting-of rules c ts ∙ sym (cond-false (fits c ts r) (r ∷ candidates rules c ts) (candidates rules c ts) (fits-other c ts r f))
]

-- one rule more is tried
pub fitting-more : (ts : List TypeTree) (all : List TransferRule) (i : ℕ) (rule : TransferRule) → slice_get all i ≡ Some rule
    → filter (λ r. fits r.constant ts r) (take (i + 1) all) ≡ filter (λ r. fits r.constant ts r) (take i all) ++ (if fits rule.constant ts rule then rule ∷ [] else [])
fitting-more ts all i rule h =
    ap (λ n. filter (λ r. fits r.constant ts r) (take n all)) (add-one i) ∙ ap (filter (λ (r : TransferRule). fits r.constant ts r)) (more all i h)
    ∙ filter-append (λ (r : TransferRule). fits r.constant ts r) (take i all) (rule ∷ [])
  where
    more : (rules : List TransferRule) (n : ℕ) → slice_get rules n ≡ Some rule → take (suc n) rules ≡ take n rules ++ rule ∷ []
    more [] n e = absurd (none-some rule e)
    more (r ∷ rules) zero e = ap (λ (x : TransferRule). x ∷ []) (same_Some r rule e)
    more (r ∷ rules) (suc n) e = ap (λ rs. r ∷ rs) (more rules n e)
