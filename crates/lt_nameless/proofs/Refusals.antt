-- No refusal means a valid extension.
use Rattle.std.proofs.Common.{◌≡◌, ◌↔◌, inl, inr, ℕ, List, [], ◌∷◌, ◌++◌, Bool, true, false, ◌&&◌, not, if◌then◌else◌, Option, Some, None, is_some, is_none, Result, Ok, Err, codes, refl, sym, ◌∙◌, ap, subst}
use Rattle.std.specs.List.{find}
use Rattle.std.specs.Result.{result_err}
use Rattle.std.proofs.lemmas.Bool.{not-false, or_cases, or_left, or_right}
use Rattle.lt_definitions.specs.Items.{Item, type_item, const_item, axiom_item, def_item, typedef_item, lemma_item, Context, definition_label, rep_label, rep_inverse_label, abs_inverse_label, raw_type}
use Rattle.lt_definitions.specs.Types.{Chars, same_name, has_name, found, TypeTree, type_constructor, no_types, type_and, bool, fun, same_type, type_variables, are_distinct}
use Rattle.lt_definitions.specs.Terms.{TermTree, application, is_closed, term_variables}
use Rattle.lt_definitions.specs.Typing.{Fault, mismatch, type_fault, typed}
use Rattle.lt_definitions.specs.Alpha.{AreAlpha, is_alpha}
use Rattle.lt_definitions.specs.Rules.{Sequent, Rule}
use Rattle.lt_definitions.specs.Derivations.{Derives, LineFault, ill_typed, no_step, term_fault, derived}
use Rattle.lt_definitions.specs.Theory.{Refusal, at_fault, not_boolean, unknown_statement, duplicate, open_term, typedef_shape, not_proved, first_of, refused_where, fault_test, boolean_test, new_name, label_test, closed_test, loose_in, variables_test, stated_type_test, is_applied, shape_test, last_of, has_none, is_proved, proof_test, refusal}
use Rattle.lt_definitions.specs.Extensions.{IsNew, AreNamesAmong, IsStatement, Proves, IsInhabited, IsTypedef, IsDefinition, IsExtension}
use Rattle.lt_definitions.proofs.SameNames.{true-false, bool_cases, both-true, true-both, name-true, true-name, name-false, false-name, type-true, type-refl}
use Rattle.lt_nameless.proofs.Alphas.{alpha-is, is-alpha as alpha-tested}
use Rattle.lt_nameless.proofs.Typings.{typed-has, has-typed}
use Rattle.lt_nameless.proofs.Derived.{derived-derives, derives-derived}
use Rattle.lt_nameless.proofs.BindingLemmas.{if-true, if-false}

head-none : (r : Option Refusal) (rs : List (Option Refusal)) → first_of (r ∷ rs) ≡ None → (r ≡ None) × (first_of rs ≡ None)
head-none None rs e = (refl, e)
head-none (Some r) rs e = absurd (cc e)

none-head : (r : Option Refusal) (rs : List (Option Refusal)) → r ≡ None → first_of rs ≡ None → first_of (r ∷ rs) ≡ None
none-head None rs d e = e
none-head (Some r) rs d e = absurd (cc d)

where-none : (b : Bool) (r : Refusal) → refused_where b r ≡ None → b ≡ false
where-none false r e = refl
where-none true r e = absurd (cc e)

none-where : (b : Bool) (r : Refusal) → b ≡ false → refused_where b r ≡ None
none-where false r e = refl
none-where true r e = absurd (true-false e)

false-not : (b : Bool) → b ≡ true → not b ≡ false
false-not true e = refl
false-not false e = absurd (true-false (sym e))

some-false : {A : Type 0} (o : Option A) → is_some o ≡ false → o ≡ None
some-false None e = refl
some-false (Some x) e = absurd (true-false e)

false-some : {A : Type 0} (o : Option A) → o ≡ None → is_some o ≡ false
false-some None e = refl
false-some (Some x) e = absurd (cc e)

new-is : {A : Type 0} (pairs : List (Chars × A)) (n : Chars) → new_name pairs n ≡ None → IsNew n pairs
new-is pairs n e = some-false (found n pairs) (where-none (is_some (found n pairs)) (duplicate n) e)

is-new : {A : Type 0} (pairs : List (Chars × A)) (n : Chars) → IsNew n pairs → new_name pairs n ≡ None
is-new pairs n e = none-where (is_some (found n pairs)) (duplicate n) (false-some (found n pairs) e)

fault-none : (o : Option Fault) → fault_test o ≡ None → o ≡ None
fault-none None e = refl
fault-none (Some f) e = absurd (cc e)

none-fault : (o : Option Fault) → o ≡ None → fault_test o ≡ None
none-fault None e = refl
none-fault (Some f) e = absurd (cc e)

typed-none : (r : Result TypeTree Fault) → fault_test (result_err r) ≡ None → (ty : TypeTree) × (r ≡ Ok ty)
typed-none (Ok ty) e = (ty, refl)
typed-none (Err f) e = absurd (cc e)

none-typed : (r : Result TypeTree Fault) (ty : TypeTree) → r ≡ Ok ty → fault_test (result_err r) ≡ None
none-typed r ty e = ap (λ v. fault_test (result_err v)) e

boolean-none : (r : Result TypeTree Fault) → boolean_test r ≡ None → r ≡ Ok bool
boolean-none (Ok ty) e = elim (bool_cases (same_type ty bool)) [
  | inl t ↦ ap Ok (type-true ty bool t)
  | inr f ↦ let some : Some (not_boolean ty) ≡ None = sym (if-false (same_type ty bool) None (Some (not_boolean ty)) f) ∙ e in absurd (cc some)
]
boolean-none (Err f) e = absurd (cc e)

none-boolean : (r : Result TypeTree Fault) → r ≡ Ok bool → boolean_test r ≡ None
none-boolean r e = ap boolean_test e

closed-none : (t : TermTree) → closed_test t ≡ None → is_closed t ≡ true
closed-none t e = not-false (is_closed t) (where-none (not (is_closed t)) open_term e)

none-closed : (t : TermTree) → is_closed t ≡ true → closed_test t ≡ None
none-closed t e = none-where (not (is_closed t)) open_term (false-not (is_closed t) e)

statement-is : (ctx : Context) (t : TermTree) → boolean_test (typed ctx.signature [] t) ≡ None → closed_test t ≡ None → IsStatement ctx t
statement-is ctx t e f = (typed-has ctx.signature [] t bool (boolean-none (typed ctx.signature [] t) e), closed-none t f)

is-typed : (ctx : Context) (t : TermTree) → IsStatement ctx t → boolean_test (typed ctx.signature [] t) ≡ None
is-typed ctx t h = none-boolean (typed ctx.signature [] t) (has-typed ctx.signature [] t bool h.0)

-- type variables

loose-none : (o : Option Chars) → loose_in o ≡ None → o ≡ None
loose-none None e = refl
loose-none (Some a) e = absurd (cc e)

find-none : (xs ys : List Chars) → find (λ a. not (has_name a ys)) xs ≡ None → AreNamesAmong xs ys
find-none [] ys e a h = absurd (true-false (sym h))
find-none (x ∷ xs) ys e a h = elim (bool_cases (has_name x ys)) [
  | inl t ↦ elim (or_cases (same_name a x) (has_name a xs) h) [
    | inl k ↦ subst (λ (b : Chars). has_name b ys ≡ true) (sym (name-true a x k)) t
    | inr k ↦ find-none xs ys (sym (ap (λ v. if not v then Some x else find (λ a. not (has_name a ys)) xs) t) ∙ e) a k
  ]
  | inr f ↦ let some : Some x ≡ None = sym (ap (λ v. if not v then Some x else find (λ a. not (has_name a ys)) xs) f) ∙ e in absurd (cc some)
]

none-find : (xs ys : List Chars) → AreNamesAmong xs ys → find (λ a. not (has_name a ys)) xs ≡ None
none-find [] ys h = refl
none-find (x ∷ xs) ys h =
    ap (λ v. if not v then Some x else find (λ a. not (has_name a ys)) xs) (h x (or_left (same_name x x) (has_name x xs) (true-name x x refl)))
    ∙ none-find xs ys (λ a k. h a (or_right (same_name a x) (has_name a xs) k))

variables-is : (allowed : List Chars) (t : TermTree) → variables_test allowed t ≡ None → AreNamesAmong (term_variables t) allowed
variables-is allowed t e = find-none (term_variables t) allowed (loose-none (find (λ a. not (has_name a allowed)) (term_variables t)) e)

is-variables : (allowed : List Chars) (t : TermTree) → AreNamesAmong (term_variables t) allowed → variables_test allowed t ≡ None
is-variables allowed t h = ap loose_in (none-find (term_variables t) allowed h)

-- definitions

stated-is : (ty u : TypeTree) (r : Result TypeTree Fault) → r ≡ Ok u → stated_type_test ty r ≡ None → r ≡ Ok ty
stated-is ty u r e f =
    let g : refused_where (not (same_type ty u)) (at_fault (mismatch ty u)) ≡ None = sym (ap (stated_type_test ty) e) ∙ f in
    e ∙ ap Ok (sym (type-true ty u (not-false (same_type ty u) (where-none (not (same_type ty u)) (at_fault (mismatch ty u)) g))))

is-stated : (ty : TypeTree) (r : Result TypeTree Fault) → r ≡ Ok ty → stated_type_test ty r ≡ None
is-stated ty r e = ap (stated_type_test ty) e ∙ none-where (not (same_type ty ty)) (at_fault (mismatch ty ty)) (false-not (same_type ty ty) (type-refl ty))

definition-is : (ctx : Context) (n : Chars) (ty : TypeTree) (body : TermTree) → refusal ctx (def_item n ty body) ≡ None → IsDefinition ctx n ty body
definition-is ctx n ty body e =
    let r : Result TypeTree Fault = typed ctx.signature [] body in
    let h1 = head-none (fault_test (type_fault ctx.signature ty)) _ e in
    let h2 = head-none (fault_test (term_fault ctx.signature body)) _ h1.1 in
    let h3 = head-none (new_name ctx.signature.consts n) _ h2.1 in
    let h4 = head-none (new_name ctx.statements (definition_label n)) _ h3.1 in
    let h5 = head-none (stated_type_test ty (typed ctx.signature [] body)) _ h4.1 in
    let h6 = head-none (closed_test body) _ h5.1 in
    let h7 = head-none (variables_test (type_variables ty) body) _ h6.1 in
    let t = typed-none (typed ctx.signature [] body) h2.0 in
    record {
      new_const = new-is ctx.signature.consts n h3.0;
      new_label = new-is ctx.statements (definition_label n) h4.0;
      sound = fault-none (type_fault ctx.signature ty) h1.0;
      typed = typed-has ctx.signature [] body ty (stated-is ty t.0 (typed ctx.signature [] body) t.1 h5.0);
      closed = closed-none body h6.0;
      variables = variables-is (type_variables ty) body h7.0;
    }

is-definition : (ctx : Context) (n : Chars) (ty : TypeTree) (body : TermTree) → IsDefinition ctx n ty body → refusal ctx (def_item n ty body) ≡ None
is-definition ctx n ty body d =
    let t : typed ctx.signature [] body ≡ Ok ty = has-typed ctx.signature [] body ty d.typed in
    none-head (fault_test (type_fault ctx.signature ty)) _ (none-fault (type_fault ctx.signature ty) d.sound)
    (none-head (fault_test (term_fault ctx.signature body)) _ (none-typed (typed ctx.signature [] body) ty t)
    (none-head (new_name ctx.signature.consts n) _ (is-new ctx.signature.consts n d.new_const)
    (none-head (new_name ctx.statements (definition_label n)) _ (is-new ctx.statements (definition_label n) d.new_label)
    (none-head (stated_type_test ty (typed ctx.signature [] body)) _ (is-stated ty (typed ctx.signature [] body) t)
    (none-head (closed_test body) _ (none-closed body d.closed)
    (none-head (variables_test (type_variables ty) body) _ (is-variables (type_variables ty) body d.variables) refl))))))

-- typedefs

raw-is : (r : Result TypeTree Fault) → is_some (raw_type r) ≡ true → (raw : TypeTree) × (r ≡ Ok (fun raw bool))
raw-is (Ok (type_constructor c (type_and raw (type_and to no_types)))) e = elim (bool_cases (same_name c (codes "fun") && same_type to bool)) [
  | inl h ↦ let k = both-true (same_name c (codes "fun")) (same_type to bool) h in
      let name : c ≡ codes "fun" = name-true c (codes "fun") k.0 in
      let res : to ≡ bool = type-true to bool k.1 in
      (raw, λ i. Ok (type_constructor (name i) (type_and raw (type_and (res i) no_types))))
  | inr h ↦ absurd (true-false (sym e ∙ ap is_some (if-false (same_name c (codes "fun") && same_type to bool) (Some raw) None h)))
]
raw-is r e = absurd (true-false (sym e))

applied-is : (ctx : Context) (p : TermTree) (l : Chars) (o : Option TermTree) → found l ctx.statements ≡ o → is_applied p o ≡ true → IsInhabited ctx p l
applied-is ctx p l (Some (application q t)) e h = record { head = q; witness = t; named = e; same = alpha-is [] p q h }
applied-is ctx p l o e h = absurd (true-false (sym h))

typedef-is : (ctx : Context) (n : Chars) (params : List Chars) (p : TermTree) (l a b : Chars)
    → refusal ctx (typedef_item n params p l a b) ≡ None → IsTypedef ctx n params p l a b
typedef-is ctx n params p l a b e =
    let h1 = head-none (fault_test (term_fault ctx.signature p)) _ e in
    let h2 = head-none (label_test ctx l) _ h1.1 in
    let h3 = head-none (new_name ctx.signature.types n) _ h2.1 in
    let h4 = head-none (new_name ctx.signature.consts b) _ h3.1 in
    let h5 = head-none (new_name ctx.signature.consts a) _ h4.1 in
    let apart = head-none (refused_where (same_name a b) (duplicate a)) _ h5.1 in
    let h6 = head-none (new_name ctx.statements (rep_label n)) _ apart.1 in
    let h7 = head-none (new_name ctx.statements (rep_inverse_label n)) _ h6.1 in
    let h8 = head-none (new_name ctx.statements (abs_inverse_label n)) _ h7.1 in
    let h9 = head-none (closed_test p) _ h8.1 in
    let h10 = head-none (variables_test params p) _ h9.1 in
    let h11 = head-none (shape_test ctx params p l) _ h10.1 in
    let shape = not-false (are_distinct params && is_some (raw_type (typed ctx.signature [] p)) && is_applied p (found l ctx.statements))
    (where-none (not (are_distinct params && is_some (raw_type (typed ctx.signature [] p)) && is_applied p (found l ctx.statements))) typedef_shape h11.0) in
    let s1 = both-true (are_distinct params && is_some (raw_type (typed ctx.signature [] p))) (is_applied p (found l ctx.statements)) shape in
    let s2 = both-true (are_distinct params) (is_some (raw_type (typed ctx.signature [] p))) s1.0 in
    let raw = raw-is (typed ctx.signature [] p) s2.1 in
    record {
      raw = raw.0;
      predicate = typed-has ctx.signature [] p (fun raw.0 bool) raw.1;
      closed = closed-none p h9.0;
      variables = variables-is params p h10.0;
      distinct = s2.0;
      inhabited = applied-is ctx p l (found l ctx.statements) refl s1.1;
      new_type = new-is ctx.signature.types n h3.0;
      new_rep = new-is ctx.signature.consts b h4.0;
      new_abs = new-is ctx.signature.consts a h5.0;
      two = name-false a b (where-none (same_name a b) (duplicate a) apart.0);
      rep = new-is ctx.statements (rep_label n) h6.0;
      rep_inverse = new-is ctx.statements (rep_inverse_label n) h7.0;
      abs_inverse = new-is ctx.statements (abs_inverse_label n) h8.0;
    }

is-typedef : (ctx : Context) (n : Chars) (params : List Chars) (p : TermTree) (l a b : Chars)
    → IsTypedef ctx n params p l a b → refusal ctx (typedef_item n params p l a b) ≡ None
is-typedef ctx n params p l a b d =
    let t : typed ctx.signature [] p ≡ Ok (fun d.raw bool) = has-typed ctx.signature [] p (fun d.raw bool) d.predicate in
    let some : is_some (raw_type (typed ctx.signature [] p)) ≡ true = ap (λ r. is_some (raw_type r)) t ∙ ap is_some (if-true (same_type bool bool) (Some d.raw) None (type-refl bool)) in
    let there : is_applied p (found l ctx.statements) ≡ true = ap (is_applied p) d.inhabited.named ∙ alpha-tested [] p d.inhabited.head d.inhabited.same in
    let shape = true-both (are_distinct params && is_some (raw_type (typed ctx.signature [] p))) (is_applied p (found l ctx.statements))
    (true-both (are_distinct params) (is_some (raw_type (typed ctx.signature [] p))) d.distinct some) there in
    none-head (fault_test (term_fault ctx.signature p)) _ (none-typed (typed ctx.signature [] p) (fun d.raw bool) t)
    (none-head (label_test ctx l) _ (none-where (is_none (found l ctx.statements)) (unknown_statement l) (ap is_none d.inhabited.named))
    (none-head (new_name ctx.signature.types n) _ (is-new ctx.signature.types n d.new_type)
    (none-head (new_name ctx.signature.consts b) _ (is-new ctx.signature.consts b d.new_rep)
    (none-head (new_name ctx.signature.consts a) _ (is-new ctx.signature.consts a d.new_abs)
    (none-head (refused_where (same_name a b) (duplicate a)) _ (none-where (same_name a b) (duplicate a) (false-name a b d.two))
    (none-head (new_name ctx.statements (rep_label n)) _ (is-new ctx.statements (rep_label n) d.rep)
    (none-head (new_name ctx.statements (rep_inverse_label n)) _ (is-new ctx.statements (rep_inverse_label n) d.rep_inverse)
    (none-head (new_name ctx.statements (abs_inverse_label n)) _ (is-new ctx.statements (abs_inverse_label n) d.abs_inverse)
    (none-head (closed_test p) _ (none-closed p d.closed)
    (none-head (variables_test params p) _ (is-variables params p d.variables)
    (none-head (shape_test ctx params p l) _ (none-where (not (are_distinct params && is_some (raw_type (typed ctx.signature [] p)) && is_applied p (found l ctx.statements))) typedef_shape
    (false-not (are_distinct params && is_some (raw_type (typed ctx.signature [] p)) && is_applied p (found l ctx.statements)) shape)) refl)))))))))))

-- lemmas

last-is : (ss : List Sequent) (s : Sequent) → last_of ss ≡ Some s → (before : List Sequent) × (ss ≡ before ++ s ∷ [])
last-is [] s e = absurd (cc e)
last-is (u ∷ []) s e = ([], let same : u ≡ s = cc e in ap (λ (v : Sequent). v ∷ []) same)
last-is (u ∷ v ∷ ss) s e = let rest = last-is (v ∷ ss) s e in (u ∷ rest.0, ap (λ vs. u ∷ vs) rest.1)

is-last : (before : List Sequent) (s : Sequent) → last_of (before ++ s ∷ []) ≡ Some s
is-last [] s = refl
is-last (u ∷ []) s = refl
is-last (u ∷ v ∷ before) s = is-last (v ∷ before) s

none-hyps : (hs : List TermTree) → has_none hs ≡ true → hs ≡ []
none-hyps [] e = refl
none-hyps (h ∷ hs) e = absurd (true-false (sym e))

proved-is : (t : TermTree) (o : Option Sequent) → is_proved t o ≡ true → (s : Sequent) × (o ≡ Some s) × (s.hyps ≡ []) × AreAlpha [] s.concl t
proved-is t None e = absurd (true-false (sym e))
proved-is t (Some s) e = let h = both-true (has_none s.hyps) (is_alpha s.concl t) e in (s, refl, none-hyps s.hyps h.0, alpha-is [] s.concl t h.1)

proof-ok : (t : TermTree) (r : Result (List Sequent) (ℕ × LineFault)) → proof_test t r ≡ None → (all : List Sequent) × (r ≡ Ok all) × (is_proved t (last_of all) ≡ true)
proof-ok t (Ok all) e = (all, refl, not-false (is_proved t (last_of all)) (where-none (not (is_proved t (last_of all))) (not_proved (last_of all)) e))
proof-ok t (Err (n, ill_typed f)) e = absurd (cc e)
proof-ok t (Err (n, no_step r)) e = absurd (cc e)

proves-is : (ctx : Context) (t : TermTree) (lines : List (Rule TermTree)) → proof_test t (derived ctx.signature ctx.statements [] lines) ≡ None → Proves ctx lines t
proves-is ctx t lines e =
    let h = proof-ok t (derived ctx.signature ctx.statements [] lines) e in
    let d = derived-derives ctx.signature ctx.statements [] lines h.0 h.1 in
    let p = proved-is t (last_of h.0) h.2 in
    let l = last-is h.0 p.0 p.1 in
    (l.0, p.0, subst (λ (ss : List Sequent). Derives ctx.signature ctx.statements [] lines ss) (sym d.1 ∙ l.1) d.2, p.2, p.3)

is-proves : (ctx : Context) (t : TermTree) (lines : List (Rule TermTree)) → Proves ctx lines t → proof_test t (derived ctx.signature ctx.statements [] lines) ≡ None
is-proves ctx t lines h =
    ap (proof_test t) (derives-derived ctx.signature ctx.statements [] lines (h.0 ++ h.1 ∷ []) h.2)
    ∙ ap (λ o. refused_where (not (is_proved t o)) (not_proved o)) (is-last h.0 h.1)
    ∙ none-where (not (is_proved t (Some h.1))) (not_proved (Some h.1)) (false-not (is_proved t (Some h.1))
    (true-both (has_none h.1.hyps) (is_alpha h.1.concl t) (ap has_none h.3) (alpha-tested [] h.1.concl t h.4)))

pub refusal-extension : (ctx : Context) (item : Item) → refusal ctx item ≡ None → IsExtension ctx item
refusal-extension ctx (type_item n k) e = new-is ctx.signature.types n (head-none (new_name ctx.signature.types n) [] e).0
refusal-extension ctx (const_item n ty) e =
    let h = head-none (fault_test (type_fault ctx.signature ty)) _ e in
    let k = head-none (new_name ctx.signature.consts n) _ h.1 in
    (fault-none (type_fault ctx.signature ty) h.0, new-is ctx.signature.consts n k.0)
refusal-extension ctx (axiom_item l t) e =
    let h1 = head-none (boolean_test (typed ctx.signature [] t)) _ e in
    let h2 = head-none (new_name ctx.statements l) _ h1.1 in
    let h3 = head-none (closed_test t) _ h2.1 in
    (statement-is ctx t h1.0 h3.0, new-is ctx.statements l h2.0)
refusal-extension ctx (def_item n ty body) e = definition-is ctx n ty body e
refusal-extension ctx (typedef_item n params p l a b) e = typedef-is ctx n params p l a b e
refusal-extension ctx (lemma_item l t lines) e =
    let h1 = head-none (boolean_test (typed ctx.signature [] t)) _ e in
    let h2 = head-none (new_name ctx.statements l) _ h1.1 in
    let h3 = head-none (closed_test t) _ h2.1 in
    let h4 = head-none (proof_test t (derived ctx.signature ctx.statements [] lines)) _ h3.1 in
    (statement-is ctx t h1.0 h3.0, new-is ctx.statements l h2.0, proves-is ctx t lines h4.0)

pub extension-refusal : (ctx : Context) (item : Item) → IsExtension ctx item → refusal ctx item ≡ None
extension-refusal ctx (type_item n k) h = none-head (new_name ctx.signature.types n) [] (is-new ctx.signature.types n h) refl
extension-refusal ctx (const_item n ty) h =
    none-head (fault_test (type_fault ctx.signature ty)) _ (none-fault (type_fault ctx.signature ty) h.0)
    (none-head (new_name ctx.signature.consts n) [] (is-new ctx.signature.consts n h.1) refl)
extension-refusal ctx (axiom_item l t) h =
    none-head (boolean_test (typed ctx.signature [] t)) _ (is-typed ctx t h.0)
    (none-head (new_name ctx.statements l) _ (is-new ctx.statements l h.1) (none-head (closed_test t) [] (none-closed t h.0.1) refl))
extension-refusal ctx (def_item n ty body) h = is-definition ctx n ty body h
extension-refusal ctx (typedef_item n params p l a b) h = is-typedef ctx n params p l a b h
extension-refusal ctx (lemma_item l t lines) h =
    none-head (boolean_test (typed ctx.signature [] t)) _ (is-typed ctx t h.0)
    (none-head (new_name ctx.statements l) _ (is-new ctx.statements l h.1) (none-head (closed_test t) _ (none-closed t h.0.1)
    (none-head (proof_test t (derived ctx.signature ctx.statements [] lines)) [] (is-proves ctx t lines h.2) refl)))

pub accepted_is_valid : (ctx : Context) (item : Item) → (refusal ctx item ≡ None) ↔ IsExtension ctx item
accepted_is_valid ctx item = (refusal-extension ctx item, extension-refusal ctx item)
