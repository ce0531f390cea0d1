-- A session whose quotients are in order gives one whose quotients are.
use Prim.Native.String.{String}
use Rattle.std.specs.Prelude.{◌≡◌, ℕ, List, [], ◌∷◌, ◌++◌, Bool, true, false, ◌&&◌, if◌then◌else◌, Option, Some, None, Result, Ok, Err, fold, length, codes, unwrap_or, option_map, option_to_list}
use Rattle.std.specs.Result.{result_unwrap_or}
use Rattle.std.proofs.Common.{refl, sym, ap, ◌∙◌, subst, inl, inr}
use Rattle.std.proofs.lemmas.Bool.{and_parts}
use Rattle.lt_definitions.specs.Types.{Chars, same_name, found, TypeTree, type_variable, type_constructor, no_types, type_and, row, bool, fun, same_type}
use Rattle.lt_definitions.specs.Terms.{TermTree, constant, application}
use Rattle.lt_definitions.specs.Typing.{Signature, Fault, type_fault, types_fault, typed, HasType}
use Rattle.lt_definitions.specs.Rules.{type_of}
use Rattle.lt_definitions.specs.Items.{Item, type_item, const_item, axiom_item, def_item, typedef_item, lemma_item, Context, new_type, raw_type, with_typedef, with_item}
use Rattle.lt_definitions.specs.Theory.{refusal, AreValid}
use Rattle.lt_definitions.specs.Extensions.{IsTypedef}
use Rattle.lt_definitions.proofs.SameNames.{true-false, bool_cases, name-true, type-true}
use Rattle.lt_definitions.proofs.TypingLemmas.{both-none}
use Rattle.lt_nameless.proofs.BindingLemmas.{if-true, if-false}
use Rattle.lt_nameless.proofs.LaterItems.{keeps-items}
use Rattle.lt_nameless.proofs.MoreDeclarations.{type-more}
use Rattle.lt_nameless.proofs.Refusals.{accepted_is_valid}
use Rattle.lt_nameless.proofs.StatementTypes.{IsSound, sound-items, sound-fun, typed-sound}
use Rattle.lt_nameless.proofs.Typings.{typed-has, has-typed}
use Rattle.lt_transport_definitions.specs.Notation.{WithType, domain_type}
use Rattle.lt_transport_definitions.specs.Patterns.{relation_sides}
use Rattle.lt_transport_definitions.specs.Answers.{first_wrong}
use Rattle.lt_transport_definitions.specs.RuleForm.{TransferRule}
use Rattle.lt_transport_definitions.specs.Sessions.{Typedef, QuotientEntry, Session, typedef_of}
use Rattle.lt_texts.specs.Commands.{Command, item_command, law_command, corr_command, relator_command, property_command, domain_command, rule_command, lifting_command, lifting_typedef_command, quotient_type_command, lift_command, parametric_command, param_rule_command, equiv_command, implies_command, carry_command, abs_eq_command, rep_eq_command}
use Rattle.lt_transport_definitions.specs.Commands.{Addition, this_item, a_lemma, Registration, law_registered, corr_registered, relator_registered, form_registered, property_registered, domain_registered, rule_registered, quotient_registered, lifted_registered, transport_registered, Block, item_of, with_typedef_of, with_addition, with_registration, session_behind}
use Rattle.lt_transport_definitions.specs.Parts.{tests_before}
use Rattle.lt_transport_definitions.specs.QuotientBlocks.{as_quotient, is_in_order, quotient_test}
use Rattle.lt_transport_definitions.specs.QuotientRows.{raw_of, typedef_entry, adds_typedef_quotient, is_relation_on_one, class_entry, adds_class_quotient}
use Rattle.lt_transport_definitions.specs.Rows.{Row, adds, with_its_type}
use Rattle.lt_transport_definitions.specs.Table.{row_of}
use Rattle.lt_transport_definitions.specs.Blocks.{IsItemOf, AreItemsOf, ComesOfRow}
use Rattle.lt_transport_laws.specs.QuotientStatements.{IsInOrder, AreInOrder}
use Rattle.lt_transport_laws.specs.OrderStatements.{IsTypedefInOrder, AreTypedefsInOrder, IsOrderedSession, NewSessionsAreOrdered, SessionsStayOrdered, SessionsHaveQuotients}
use Rattle.lt_transport_laws.proofs.InStep.{context-kept}
use Rattle.lt_transport_laws.proofs.OrderLemmas.{Grows, grows-same, grows-refl, grows-trans, nil-behind, order-more, entries-more, typed-kept, typedefs-more, new-in-order}
use Rattle.lt_transport_laws.proofs.PlainWalks.{adds-same}
use Rattle.lt_transport_laws.proofs.QuotientsExist.{quotients-exist}
use Rattle.lt_transport_laws.proofs.RowFacts.{EachBlock, comes-block}
use Rattle.lt_transport_laws.proofs.RowLemmas.{comes-unless}
use Rattle.lt_transport_laws.proofs.TheoremForms.{quotient-is}
use Rattle.lt_transport_laws.proofs.TheorySessions.{theory-kept, theory-stated, theory-context}

-- what additions declare

types-typedef : (n : Chars) (params : List Chars) (p : TermTree) (a b : Chars) (raw : Option TypeTree) (ctx : Context)
    → (ts : List (Chars × ℕ)) × ((with_typedef n params p a b raw ctx).signature.types ≡ ctx.signature.types ++ ts)
types-typedef n params p a b None ctx = ([], nil-behind ctx.signature.types)
types-typedef n params p a b (Some raw) ctx = ((n, length params) ∷ [], refl)

grows-item : (ctx : Context) (i : Item) → Grows ctx.signature (with_item ctx i).signature
grows-item ctx (type_item n k) =
    record { behind = (n, k) ∷ []; types = refl; part = (keeps-items ctx (type_item n k ∷ [])).declared }
grows-item ctx (const_item n ty) = grows-same _ _ refl (keeps-items ctx (const_item n ty ∷ [])).declared
grows-item ctx (axiom_item l t) = grows-same _ _ refl (keeps-items ctx (axiom_item l t ∷ [])).declared
grows-item ctx (def_item n ty t) = grows-same _ _ refl (keeps-items ctx (def_item n ty t ∷ [])).declared
grows-item ctx (lemma_item l t lines) = grows-same _ _ refl (keeps-items ctx (lemma_item l t lines ∷ [])).declared
grows-item ctx (typedef_item n xs p l a r) =
    let t = types-typedef n xs p a r (raw_type (typed ctx.signature [] p)) ctx in
    record { behind = t.0; types = t.1; part = (keeps-items ctx (typedef_item n xs p l a r ∷ [])).declared }

grows-additions : (s : Session) (additions : List Addition) → Grows s.context.signature (fold with_addition s additions).context.signature
grows-additions s [] = grows-refl s.context.signature
grows-additions s (a ∷ additions) = grows-trans s.context.signature (with_addition s a).context.signature
    (fold with_addition (with_addition s a) additions).context.signature (grows-item s.context (item_of a)) (grows-additions (with_addition s a) additions)

-- what a valid typedef is over
typedef-facts : (c : Context) (n : Chars) (xs : List Chars) (p : TermTree) (l a r : Chars) → refusal c (typedef_item n xs p l a r) ≡ None
    → (raw : TypeTree) × (typed c.signature [] p ≡ Ok (fun raw bool)) × (found n c.signature.types ≡ None)
    × ((with_item c (typedef_item n xs p l a r)).signature.types ≡ c.signature.types ++ (n, length xs) ∷ [])
typedef-facts c n xs p l a r v =
    let x : IsTypedef c n xs p l a r = (accepted_is_valid c (typedef_item n xs p l a r)).0 v in
    let pred : typed c.signature [] p ≡ Ok (fun x.raw bool) = has-typed c.signature [] p (fun x.raw bool) x.predicate in
    let some : raw_type (typed c.signature [] p) ≡ Some x.raw = ap raw_type pred in
    (x.raw, pred, x.new_type, ap (λ o. (with_typedef n xs p a r o c).signature.types) some)

-- a term's type has no fault
pub type-sound : (d : Context) → IsSound d → (t : TermTree) (ty : TypeTree) → typed d.signature [] t ≡ Ok ty → type_fault d.signature ty ≡ None
type-sound d s t ty e = typed-sound d.signature s.built s.consts [] (λ c u f. no-pair c u f) t ty (typed-has d.signature [] t ty e)
  where
    no-pair : (c : Chars) (u : TypeTree) → found {A = TypeTree} c [] ≡ Some u → type_fault d.signature u ≡ None
    no-pair c u f = absurd (cc)

typedefs-one : (sig : Signature) (ts : List Typedef) (t : Typedef) → AreTypedefsInOrder sig ts → IsTypedefInOrder sig t → AreTypedefsInOrder sig (ts ++ t ∷ [])
typedefs-one sig [] t h k = (k, tt)
typedefs-one sig (u ∷ ts) t h k = (h.0, typedefs-one sig ts t h.1 k)

item-ordered : (s : Session) (i : Item) → refusal s.context i ≡ None → IsSound s.context
    → AreTypedefsInOrder s.context.signature s.typedefs → AreTypedefsInOrder (with_item s.context i).signature (with_typedef_of i s.typedefs)
item-ordered s (type_item n k) v w o = typedefs-more s.context.signature _ s.typedefs (grows-item s.context (type_item n k)) o
item-ordered s (const_item n ty) v w o = typedefs-more s.context.signature _ s.typedefs (grows-item s.context (const_item n ty)) o
item-ordered s (axiom_item l t) v w o = typedefs-more s.context.signature _ s.typedefs (grows-item s.context (axiom_item l t)) o
item-ordered s (def_item n ty t) v w o = typedefs-more s.context.signature _ s.typedefs (grows-item s.context (def_item n ty t)) o
item-ordered s (lemma_item l t lines) v w o = typedefs-more s.context.signature _ s.typedefs (grows-item s.context (lemma_item l t lines)) o
item-ordered s (typedef_item n xs p l a r) v w o =
    let g = grows-item s.context (typedef_item n xs p l a r) in
    let f = typedef-facts s.context n xs p l a r v in
    let more : Signature = (with_item s.context (typedef_item n xs p l a r)).signature in
    let sound : type_fault s.context.signature f.0 ≡ None = (sound-fun s.context.signature f.0 bool (type-sound s.context w p (fun f.0 bool) f.1)).0 in
    typedefs-one more s.typedefs (record { name = n; params = xs; predicate = p; abs = a; rep = r })
    (typedefs-more s.context.signature more s.typedefs g o)
    (record {
      raw = f.0;
      predicate = typed-kept s.context.signature more p (fun f.0 bool) g.part f.1;
      sound = type-more s.context.signature more g.part f.0 sound;
      order = new-in-order s.context.signature more n xs (length xs) f.2 f.0 sound f.3;
    })

addition-ordered : (s : Session) (a : Addition) (item : Item) → IsItemOf a item → refusal s.context item ≡ None → IsSound s.context
    → AreTypedefsInOrder s.context.signature s.typedefs → AreTypedefsInOrder (with_addition s a).context.signature (with_addition s a).typedefs
addition-ordered s (this_item i) item h v w o = item-ordered s i (subst (λ (j : Item). refusal s.context j ≡ None) h v) w o
addition-ordered s (a_lemma l t) item h v w o = typedefs-more s.context.signature _ s.typedefs (grows-item s.context (lemma_item l t [])) o

additions-ordered : (s : Session) (additions : List Addition) (items : List Item) → AreItemsOf additions items
    → AreValid s.context items → IsSound s.context → AreTypedefsInOrder s.context.signature s.typedefs
    → AreTypedefsInOrder (fold with_addition s additions).context.signature (fold with_addition s additions).typedefs
additions-ordered s [] [] h v w o = o
additions-ordered s [] (item ∷ items) h v w o = absurd h
additions-ordered s (a ∷ additions) [] h v w o = absurd h
additions-ordered s (a ∷ additions) (item ∷ items) h v w o =
    let e : with_item s.context item ≡ with_item s.context (item_of a) = sym (adds-same s.context a item h.0) in
    additions-ordered (with_addition s a) additions items h.1 (subst (λ (c : Context). AreValid c items) e v.1)
    (subst IsSound e (sound-items s.context (item ∷ []) w (v.0, tt))) (addition-ordered s a item h.0 v.0 w o)

-- what registrations leave

abbrev IsOrderedRegistration : Signature → Registration → Type 0
IsOrderedRegistration sig (quotient_registered e) = IsInOrder sig e
IsOrderedRegistration sig _ = Unit {0}

abbrev AreOrderedRegistrations : Signature → List Registration → Type 0
AreOrderedRegistrations sig [] = Unit {0}
AreOrderedRegistrations sig (r ∷ rs) = IsOrderedRegistration sig r × AreOrderedRegistrations sig rs

entries-one : (sig : Signature) (es : List QuotientEntry) (e : QuotientEntry) → AreInOrder sig es → IsInOrder sig e → AreInOrder sig (es ++ e ∷ [])
entries-one sig [] e h k = (k, tt)
entries-one sig (d ∷ es) e h k = (h.0, entries-one sig es e h.1 k)

registration-ordered : (sig : Signature) (s : Session) (r : Registration) → AreInOrder sig s.quotients → IsOrderedRegistration sig r
    → AreInOrder sig (with_registration s r).quotients
registration-ordered sig s (law_registered w l) h k = h
registration-ordered sig s (corr_registered d) h k = h
registration-ordered sig s (relator_registered r) h k = h
registration-ordered sig s (form_registered p) h k = h
registration-ordered sig s (property_registered r) h k = h
registration-ordered sig s (domain_registered r) h k = h
registration-ordered sig s (rule_registered l) h k = h
registration-ordered sig s (quotient_registered e) h k = entries-one sig s.quotients e h k
registration-ordered sig s (lifted_registered e) h k = h
registration-ordered sig s (transport_registered e) h k = h

registrations-ordered : (sig : Signature) (s : Session) (rs : List Registration) → AreInOrder sig s.quotients → AreOrderedRegistrations sig rs
    → AreInOrder sig (fold with_registration s rs).quotients
registrations-ordered sig s [] h k = h
registrations-ordered sig s (r ∷ rs) h k = registrations-ordered sig (with_registration s r) rs (registration-ordered sig s r h k.0) k.1

typedefs-one-kept : (s : Session) (r : Registration) → (with_registration s r).typedefs ≡ s.typedefs
typedefs-one-kept s (law_registered w l) = refl
typedefs-one-kept s (corr_registered d) = refl
typedefs-one-kept s (relator_registered r) = refl
typedefs-one-kept s (form_registered p) = refl
typedefs-one-kept s (property_registered r) = refl
typedefs-one-kept s (domain_registered r) = refl
typedefs-one-kept s (rule_registered l) = refl
typedefs-one-kept s (quotient_registered e) = refl
typedefs-one-kept s (lifted_registered e) = refl
typedefs-one-kept s (transport_registered e) = refl

typedefs-kept : (s : Session) (rs : List Registration) → (fold with_registration s rs).typedefs ≡ s.typedefs
typedefs-kept s [] = refl
typedefs-kept s (r ∷ rs) = typedefs-kept (with_registration s r) rs ∙ typedefs-one-kept s r

quotients-kept : (s : Session) (additions : List Addition) → (fold with_addition s additions).quotients ≡ s.quotients
quotients-kept s [] = refl
quotients-kept s (a ∷ additions) = quotients-kept (with_addition s a) additions

-- what the tests of a quotient's theorem tell

pub test-holds : (b : Bool) (part : String) → quotient_test b part ≡ None → b ≡ true
test-holds true part e = refl
test-holds false part e = absurd (cc)

theorem-sound : (sig : Signature) (l : Chars) (t : TermTree) (q : QuotientEntry) → HasType sig [] t bool → as_quotient sig l t ≡ Some q
    → type_fault sig q.raw_type ≡ None
theorem-sound sig l t q h e =
    let k = quotient-is sig l t q e in
    let w : HasType sig [] (application (application (application (application (constant k.0 (q.raw_type ∷ q.abs_type ∷ [])) q.four.rel.term) k.1) k.2) k.3) bool =
    subst (λ (u : TermTree). HasType sig [] u bool) k.4 h in
    (both-none (type_fault sig q.raw_type) (types_fault sig (row (q.abs_type ∷ []))) w.1.1.1.1.3).0

-- a relation on one type
sides-named : (c d : Chars) (from to truth : TypeTree) (p : TypeTree × TypeTree)
    → (if same_name c (codes "fun") && same_name d (codes "fun") && same_type truth bool then Some (from, to) else None) ≡ Some p
    → type_constructor c (type_and from (type_and (type_constructor d (type_and to (type_and truth no_types))) no_types)) ≡ fun p.0 (fun p.1 bool)
sides-named c d from to truth p e = elim (bool_cases (same_name c (codes "fun") && same_name d (codes "fun") && same_type truth bool)) [
  | inl t ↦
      let h = and_parts (same_name c (codes "fun") && same_name d (codes "fun")) (same_type truth bool) t in
      let k = and_parts (same_name c (codes "fun")) (same_name d (codes "fun")) h.0 in
      let x : c ≡ codes "fun" = name-true c (codes "fun") k.0 in
      let y : d ≡ codes "fun" = name-true d (codes "fun") k.1 in
      let z : truth ≡ bool = type-true truth bool h.1 in
      let w : Some (from, to) ≡ Some p =
      sym (if-true (same_name c (codes "fun") && same_name d (codes "fun") && same_type truth bool) (Some (from, to)) None t) ∙ e in
      let q : (from, to) ≡ p = cc in
      (λ i. type_constructor (x i) (type_and (q i).0 (type_and (type_constructor (y i) (type_and (q i).1 (type_and (z i) no_types))) no_types)))
  | inr t ↦ absurd (none-some p (sym (if-false (same_name c (codes "fun") && same_name d (codes "fun") && same_type truth bool) (Some (from, to)) None t) ∙ e))
]
  where
    none-some : (p : TypeTree × TypeTree) → ◌≡◌ {A = Option (TypeTree × TypeTree)} None (Some p) → ⊥
    none-some p e = cc

sides-are : (ty : TypeTree) (p : TypeTree × TypeTree) → relation_sides ty ≡ Some p → ty ≡ fun p.0 (fun p.1 bool)
sides-are (type_variable a) p e = absurd (cc)
sides-are (type_constructor c no_types) p e = absurd (cc)
sides-are (type_constructor c (type_and from no_types)) p e = absurd (cc)
sides-are (type_constructor c (type_and from (type_and (type_variable a) ts))) p e = absurd (cc)
sides-are (type_constructor c (type_and from (type_and (type_constructor d no_types) (type_and t ts)))) p e = absurd (cc)
sides-are (type_constructor c (type_and from (type_and (type_constructor d (type_and to no_types)) (type_and t ts)))) p e = absurd (cc)
sides-are (type_constructor c (type_and from (type_and (type_constructor d (type_and to (type_and truth no_types))) (type_and t ts)))) p e = absurd (cc)
sides-are (type_constructor c (type_and from (type_and (type_constructor d (type_and to (type_and truth (type_and w ws)))) (type_and t ts)))) p e = absurd (cc)
sides-are (type_constructor c (type_and from (type_and (type_constructor d no_types) no_types))) p e = absurd (cc)
sides-are (type_constructor c (type_and from (type_and (type_constructor d (type_and to no_types)) no_types))) p e = absurd (cc)
sides-are (type_constructor c (type_and from (type_and (type_constructor d (type_and to (type_and truth (type_and t ts)))) no_types))) p e = absurd (cc)
sides-are (type_constructor c (type_and from (type_and (type_constructor d (type_and to (type_and truth no_types))) no_types))) p e =
    sides-named c d from to truth p e

pub relation-is : (ty : TypeTree) (o : Option (TypeTree × TypeTree)) → relation_sides ty ≡ o
    → unwrap_or (option_map (λ sides. same_type sides.0 sides.1) o) false ≡ true → (s : TypeTree) × (ty ≡ fun s (fun s bool))
relation-is ty None x h = absurd (true-false (sym h))
relation-is ty (Some p) x h =
    let e : p.0 ≡ p.1 = type-true p.0 p.1 h in
    (p.0, sides-are ty p x ∙ (λ i. fun p.0 (fun (sym e i) bool)))

-- a term whose type is such a relation is typed
pub related-typed : (ty : Result TypeTree Fault) (s : TypeTree) → result_unwrap_or ty bool ≡ fun s (fun s bool) → ty ≡ Ok (fun s (fun s bool))
related-typed (Ok ty) s h = let k : ty ≡ fun s (fun s bool) = h in ap Ok k
related-typed (Err f) s h = absurd (bool-not s h)
  where
    bool-not : (s : TypeTree) → bool ≡ fun s (fun s bool) → ⊥
    bool-not s e = cc

raw-sound : (s : Session) → IsSound s.context → (r : TermTree) → is_relation_on_one (type_of s.context.signature r) ≡ true
    → type_fault s.context.signature (raw_of (with_its_type s.context.signature r)) ≡ None
raw-sound s w r h =
    let k = relation-is (type_of s.context.signature r) (relation_sides (type_of s.context.signature r)) refl h in
    let ok = related-typed (typed s.context.signature [] r) k.0 k.1 in
    let raw : raw_of (with_its_type s.context.signature r) ≡ k.0 = ap domain_type k.1 in
    ap (type_fault s.context.signature) raw
    ∙ (sound-fun s.context.signature k.0 (fun k.0 bool) (type-sound s.context w r (fun k.0 (fun k.0 bool)) ok)).0

-- the new type of a quotient type comes behind its raw type
class-order-at : (s : Session) (n : Chars) (p : TermTree) (q : Chars) (params : List Chars) (CP : TermTree) (l a r : Chars) (rest : List Addition) (items : List Item)
    → AreItemsOf (a_lemma n p ∷ this_item (typedef_item q params CP l a r) ∷ rest) items → AreValid s.context items
    → (raw : TypeTree) → type_fault s.context.signature raw ≡ None
    → is_in_order (fold with_addition s (a_lemma n p ∷ this_item (typedef_item q params CP l a r) ∷ rest)).context.signature raw (new_type q params) ≡ true
class-order-at s n p q params CP l a r rest [] h v raw f = absurd h
class-order-at s n p q params CP l a r rest (i ∷ []) h v raw f = absurd h.1
class-order-at s n p q params CP l a r rest (i ∷ j ∷ items) h v raw f =
    let one : Session = with_addition s (a_lemma n p) in
    let two : Session = with_addition one (this_item (typedef_item q params CP l a r)) in
    let e : with_item s.context i ≡ one.context = sym (adds-same s.context (a_lemma n p) i h.0) in
    let k : refusal one.context j ≡ None = subst (λ (c : Context). refusal c j ≡ None) e v.1.0 in
    let t = typedef-facts one.context q params CP l a r (subst (λ (m : Item). refusal one.context m ≡ None) h.1.0 k) in
    order-more two.context.signature (fold with_addition two rest).context.signature raw (new_type q params) (grows-additions two rest)
    (new-in-order s.context.signature two.context.signature q params (length params) t.2 raw f t.3)

class-order : (s : Session) (additions : List Addition) (n : Chars) (p : TermTree) (q : Chars) (params : List Chars) (CP : TermTree) (l a r : Chars) (rest : List Addition)
    → additions ≡ a_lemma n p ∷ this_item (typedef_item q params CP l a r) ∷ rest → (items : List Item) → AreItemsOf additions items → AreValid s.context items
    → (raw : TypeTree) → type_fault s.context.signature raw ≡ None
    → is_in_order (fold with_addition s additions).context.signature raw (new_type q params) ≡ true
class-order s additions n p q params CP l a r rest e items h v raw f =
    subst (λ (xs : List Addition). is_in_order (fold with_addition s xs).context.signature raw (new_type q params) ≡ true) (sym e)
    (class-order-at s n p q params CP l a r rest items (subst (λ (xs : List Addition). AreItemsOf xs items) e h) v raw f)

-- the additions with which a row ends
abbrev additions_of : Row → List Addition
additions_of (adds items registered) = items
additions_of _ = []

pub found-typedef : (sig : Signature) (ts : List Typedef) (q : Chars) (t : Typedef) → AreTypedefsInOrder sig ts → typedef_of ts q ≡ Some t
    → IsTypedefInOrder sig t × (q ≡ t.name)
found-typedef sig [] q t h e = absurd (cc)
found-typedef sig (u ∷ ts) q t h e = elim (bool_cases (same_name q u.name)) [
  | inl s ↦
      let x : ◌≡◌ {A = Option Typedef} (Some u) (Some t) = sym (if-true (same_name q u.name) (Some u) (typedef_of ts q) s) ∙ e in
      let y : u ≡ t = cc in
      (subst (IsTypedefInOrder sig) y h.0, name-true q u.name s ∙ ap (λ (z : Typedef). z.name) y)
  | inr s ↦ found-typedef sig ts q t h.1 (sym (if-false (same_name q u.name) (Some u) (typedef_of ts q) s) ∙ e)
]

typedef-entry-ordered : (sig : Signature) (q : Chars) (t : Typedef) → IsTypedefInOrder sig t → q ≡ t.name
    → IsInOrder sig (typedef_entry q t (with_its_type sig t.predicate))
typedef-entry-ordered sig q t o e =
    let ty : type_of sig t.predicate ≡ fun o.raw bool = ap (λ r. result_unwrap_or r bool) o.predicate in
    let raw : raw_of (with_its_type sig t.predicate) ≡ o.raw = ap domain_type ty in
    record {
      named = refl;
      sound = ap (type_fault sig) raw ∙ o.sound;
      order = subst (λ (z : TypeTree). is_in_order sig z (new_type q t.params) ≡ true) (sym raw)
          (subst (λ (z : Chars). is_in_order sig o.raw (new_type z t.params) ≡ true) (sym e) o.order);
    }

entry-more : (sig more : Signature) (e : QuotientEntry) → Grows sig more → IsInOrder sig e → IsInOrder more e
entry-more sig more e g h = (entries-more sig more (e ∷ []) g (h, tt)).0

-- what is registered of a block whose items are valid
abbrev RegistersInOrder : Session → Block → Type 0
RegistersInOrder s b = (items : List Item) → AreItemsOf b.additions items → AreValid s.context items
    → AreOrderedRegistrations (fold with_addition s b.additions).context.signature b.registrations

optional-rule : (sig : Signature) (l : Chars) (o : Option TransferRule) → AreOrderedRegistrations sig (option_to_list (option_map (λ rule. rule_registered l) o))
optional-rule sig l None = tt
optional-rule sig l (Some rule) = (tt, tt)

in-rows : (s : Session) → IsOrderedSession s → (c : Command) → EachBlock (RegistersInOrder s) (row_of s c)
in-rows s h (item_command i) = λ e items a v. tt
in-rows s h (law_command w l) = λ t e law f g items a v. (tt, tt)
in-rows s h (corr_command c) = λ d e f items a v. (tt, tt)
in-rows s h (relator_command K R M E Q O) = λ eq e quot f comp g x y n m items a v. (tt, tt)
in-rows s h (property_command l) = λ t e rule f n items a v. (tt, tt)
in-rows s h (domain_command l) = λ t e rule f n items a v. (tt, tt)
in-rows s h (rule_command l) = λ t e rule f n items a v. (tt, tt)
in-rows s h (lifting_command l) = λ t e n quot f m x g o p q u v items a w. (
  tt,
  (
    record {
      named = (quotient-is s.context.signature l t quot f).5;
      sound = theorem-sound s.context.signature l t quot (theory-stated s h.theory l t e) f;
      order = test-holds (is_in_order s.context.signature quot.raw_type quot.abs_type) "order" p;
    },
    (tt, (tt, (tt, (tt, tt)))),
  ),
)
in-rows s h (lifting_typedef_command q) = λ n t e m items a w.
    let o = found-typedef s.context.signature s.typedefs q t h.typedefs e in
    let P : WithType = with_its_type s.context.signature t.predicate in
    let entry : QuotientEntry = typedef_entry q t P in
    let additions : List Addition = additions_of (adds_typedef_quotient entry P) in (
      tt,
      (
        tt,
        (
          entry-more s.context.signature (fold with_addition s additions).context.signature entry (grows-additions s additions)
              (typedef-entry-ordered s.context.signature q t o.0 o.1),
          (tt, (tt, (tt, (tt, tt)))),
        ),
      ),
    )
in-rows s h (quotient_type_command q params r l) = λ t e n m o p u v w items a x.
    let R : WithType = with_its_type s.context.signature r in
    let additions : List Addition = additions_of (adds_class_quotient params (class_entry q params R)) in
    let sound = raw-sound s (theory-context s h.theory) r
    (test-holds (is_relation_on_one (type_of s.context.signature r)) "relation" o) in (
      tt,
      (
        record {
          named = refl;
          sound = type-more s.context.signature (fold with_addition s additions).context.signature (grows-additions s additions).part (raw_of R) sound;
          order = class-order s additions _ _ q params _ _ _ _ _ refl items a x (raw_of R) sound;
        },
        (tt, (tt, (tt, (tt, tt)))),
      ),
    )
in-rows s h (lift_command n ty t l) = λ respects e m o q p u items a v. (tt, optional-rule _ _ _)
in-rows s h (parametric_command q) = λ n e f m o items a v. (tt, tt)
in-rows s h (param_rule_command n l m) = λ t e u f o rule g p q v w items a x. (tt, tt)
in-rows s h (equiv_command n t) = λ e f g image y normal items a v. (tt, tt)
in-rows s h (implies_command n t) = λ e f g image y normal items a v. (tt, tt)
in-rows s h (carry_command n e l) = λ transport f t g m items a v. tt
in-rows s h (abs_eq_command c) = λ e f n q items a v. tt
in-rows s h (rep_eq_command c) = λ e f n q m items a v. tt

behind-ordered : (s : Session) (b : Block) (items : List Item) → IsOrderedSession s → RegistersInOrder s b → AreItemsOf b.additions items → AreValid s.context items
    → AreTypedefsInOrder (session_behind s b).context.signature (session_behind s b).typedefs
    × AreInOrder (session_behind s b).context.signature (session_behind s b).quotients
behind-ordered s b items h k a v =
    let t : Session = fold with_addition s b.additions in
    let typedefs = additions-ordered s b.additions items a v (theory-context s h.theory) h.typedefs in
    let old = subst (AreInOrder t.context.signature) (sym (quotients-kept s b.additions))
    (entries-more s.context.signature t.context.signature s.quotients (grows-additions s b.additions) h.quotients) in
    let quotients = registrations-ordered t.context.signature t b.registrations old (k items a v) in
    let same : t.context.signature ≡ (session_behind s b).context.signature = ap (λ (c : Context). c.signature) (sym (context-kept t b.registrations)) in (
      subst (λ (sig : Signature). AreTypedefsInOrder sig (session_behind s b).typedefs) same
          (subst (AreTypedefsInOrder t.context.signature) (sym (typedefs-kept t b.registrations)) typedefs),
      subst (λ (sig : Signature). AreInOrder sig (session_behind s b).quotients) same quotients,
    )

pub stay-ordered : SessionsStayOrdered
stay-ordered s c items later h g =
    let k : RegistersInOrder s g.0 = comes-block (RegistersInOrder s) s (row_of s c) g.0 (in-rows s h c)
    (comes-unless (first_wrong (tests_before s c)) (ComesOfRow s (row_of s c)) g.0 g.1) in
    let o = behind-ordered s g.0 items h k g.2 g.3 in
    record {
      theory = theory-kept s c items later h.theory g;
      typedefs = subst (λ (t : Session). AreTypedefsInOrder t.context.signature t.typedefs) (sym g.4) o.0;
      quotients = subst (λ (t : Session). AreInOrder t.context.signature t.quotients) (sym g.4) o.1;
    }

pub new-ordered : NewSessionsAreOrdered
new-ordered limit = record { theory = ([], tt, refl); typedefs = tt; quotients = tt }

pub have-quotients : SessionsHaveQuotients
have-quotients s abs raw h e f = quotients-exist s.registry s.quotients s.context.signature abs raw h.quotients e f
