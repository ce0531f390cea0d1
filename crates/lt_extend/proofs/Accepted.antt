-- What is known of an item that no test refuses.
use Rattle.std.proofs.Common.{◌≡◌, List, [], ◌∷◌, ◌++◌, length, get_or, true, false, ◌&&◌, Some, None, Ok, Option, refl, sym, ◌∙◌, ap, subst, codes, arith, length-append}
use Rattle.std.proofs.lemmas.List.{append_cancel_left}
use Rattle.lt_definitions.specs.Types.{Chars, same_name, same_type, found, TypeTree, TypeTrees, type_variable, type_constructor, no_types, type_and, bool, fun, listed}
use Rattle.lt_definitions.specs.Terms.{TermTree}
use Rattle.lt_definitions.specs.Typing.{Signature, constructor_fault, type_fault, types_fault, typed, earlier}
use Rattle.lt_definitions.specs.Items.{Item, def_item, typedef_item, Context, empty, with_item, with_typedef, context_of, definition_label, definition_statement, new_type, rep_label, rep_inverse_label, abs_inverse_label, rep_statement, rep_inverse_statement, abs_inverse_statement, raw_type}
use Rattle.lt_definitions.specs.Theory.{refusal, AreValid, IsPlainTheory}
use Rattle.lt_definitions.proofs.SameNames.{false-name, longer-differs}
use Rattle.lt_nameless.specs.Nameless.{nameless, IsWhole}
use Rattle.lt_nameless.proofs.BindingLemmas.{if-true, if-false}
use Rattle.lt_nameless.proofs.ClosedForms.{typed_is_whole}
use Rattle.lt_nameless.proofs.Refusals.{refusal-extension}
use Rattle.lt_nameless.proofs.StatementTypes.{IsSound, sound-empty, sound-items, found-new, found-first}
use Rattle.lt_hol.specs.Faults.{with_type}
use Rattle.lt_kernel.specs.State.{State}
use Rattle.lt_extend.specs.Standing.{StandsAs}
use Rattle.lt_extend.specs.Entering.{with_rep, IsNewType, IsNewStatement, AreNewStatements}
use Rattle.lt_extend.proofs.Stands.{unknown-label}

-- the items so far and one more

pub context-more : (ctx : Context) (items : List Item) (i : Item) → context_of ctx (items ++ i ∷ []) ≡ with_item (context_of ctx items) i
context-more ctx [] i = refl
context-more ctx (x ∷ items) i = context-more (with_item ctx x) items i

pub valid-more : (ctx : Context) (items : List Item) (i : Item) → AreValid ctx items → refusal (context_of ctx items) i ≡ None → AreValid ctx (items ++ i ∷ [])
valid-more ctx [] i v e = (e, tt)
valid-more ctx (x ∷ items) i v e = (v.0, valid-more (with_item ctx x) items i v.1 e)

pub sound-behind : (items : List Item) (i : Item) → IsPlainTheory items → refusal (context_of empty items) i ≡ None → IsSound (with_item (context_of empty items) i)
sound-behind items i v e = subst IsSound (context-more empty items i) (sound-items empty (items ++ i ∷ []) sound-empty (valid-more empty items i v e))

pub whole-named : (ctx : Context) (l : Chars) (t : TermTree) → IsSound ctx → found l ctx.statements ≡ Some t → IsWhole 0 (nameless [] t)
whole-named ctx l t s e = typed_is_whole ctx.signature t bool (s.stated l t e).0

-- faults of types hang on the types that are declared

mutual
  pub type-same : (sig more : Signature) (t : TypeTree) → sig.types ≡ more.types → type_fault more t ≡ type_fault sig t
  type-same sig more (type_variable a) e = refl
  type-same sig more (type_constructor c ts) e =
      λ i. earlier (constructor_fault c (length (listed ts)) (found c (sym e i))) (types-same sig more ts e i)

  pub types-same : (sig more : Signature) (ts : TypeTrees) → sig.types ≡ more.types → types_fault more ts ≡ types_fault sig ts
  types-same sig more no_types e = refl
  types-same sig more (type_and t ts) e = λ i. earlier (type-same sig more t e i) (types-same sig more ts e i)

-- ---- definitions

pub record IsNewDefinition (ctx : Context) (n : Chars) (ty : TypeTree) (body : TermTree) : Type 0 where
  pub new : found n ctx.signature.consts ≡ None
  pub sound : type_fault ctx.signature ty ≡ None
  pub label : found (definition_label n) ctx.statements ≡ None
  pub whole : IsWhole 0 (nameless [] (definition_statement n ty body))

pub new-definition : (items : List Item) (n : Chars) (ty : TypeTree) (body : TermTree) → IsPlainTheory items → refusal (context_of empty items) (def_item n ty body) ≡ None
    → IsNewDefinition (context_of empty items) n ty body
new-definition items n ty body v e =
    let ctx : Context = context_of empty items in
    let d = refusal-extension ctx (def_item n ty body) e in
    let l : Chars = definition_label n in
    let t : TermTree = definition_statement n ty body in
    record {
      new = d.new_const;
      sound = d.sound;
      label = d.new_label;
      whole = whole-named (with_item ctx (def_item n ty body)) l t (sound-behind items (def_item n ty body) v e)
          (found-new l ctx.statements ((l, t) ∷ []) d.new_label ∙ found-first l t []);
    }

-- ---- typedefs

-- a label with a suffix of its own

pub inverse-other : (n : Chars) → same_name (rep_inverse_label n) (rep_label n) ≡ false
inverse-other n = longer-differs (rep_inverse_label n) (rep_label n) (simp length-append (omega arith))

pub abs-other : (n : Chars) → same_name (abs_inverse_label n) (rep_label n) ≡ false
abs-other n = longer-differs (abs_inverse_label n) (rep_label n) (simp length-append (omega arith))

pub inverses-differ : (n : Chars) → same_name (abs_inverse_label n) (rep_inverse_label n) ≡ false
inverses-differ n = false-name (abs_inverse_label n) (rep_inverse_label n)
    (λ e. let same : codes "_abs_inverse" ≡ codes "_rep_inverse" = append_cancel_left n (codes "_abs_inverse") (codes "_rep_inverse") e in
    let second : 97 ≡ 114 = ap (λ (xs : Chars). get_or xs 1 0) same in absurd (omega (arith, second)))

pub found-more : {A : Type 0} (x y : Chars) (v : A) (ps : List (Chars × A)) → found x ps ≡ None → same_name x y ≡ false → found x (ps ++ (y, v) ∷ []) ≡ None
found-more x y v ps e d = found-new x ps ((y, v) ∷ []) e ∙ if-false (same_name x y) (Some v) (found x []) d

-- the type that a predicate of this type is over
raw-is : (ctx : Context) (p : TermTree) (raw : TypeTree) → typed ctx.signature [] p ≡ Ok (fun raw bool) → raw_type (typed ctx.signature [] p) ≡ Some raw
raw-is ctx p raw h = ap raw_type h ∙ if-true (true && same_type bool bool) (Some raw) None refl

-- what a typedef adds, where its predicate is over this type
pub typedef-adds : (ctx : Context) (n : Chars) (params : List Chars) (p : TermTree) (l a b : Chars) (raw : TypeTree) → typed ctx.signature [] p ≡ Ok (fun raw bool)
    → with_item ctx (typedef_item n params p l a b) ≡ with_typedef n params p a b (Some raw) ctx
typedef-adds ctx n params p l a b raw h = ap (λ (o : Option TypeTree). with_typedef n params p a b o ctx) (raw-is ctx p raw h)

typedef-sound : (items : List Item) (n : Chars) (params : List Chars) (p : TermTree) (l a b : Chars) (raw : TypeTree) → IsPlainTheory items
    → refusal (context_of empty items) (typedef_item n params p l a b) ≡ None → typed (context_of empty items).signature [] p ≡ Ok (fun raw bool)
    → IsSound (with_typedef n params p a b (Some raw) (context_of empty items))
typedef-sound items n params p l a b raw v e h =
    subst IsSound (typedef-adds (context_of empty items) n params p l a b raw h) (sound-behind items (typedef_item n params p l a b) v e)

pub new-type : (items : List Item) (n : Chars) (params : List Chars) (p : TermTree) (l a b : Chars) (raw : TypeTree) → IsPlainTheory items
    → refusal (context_of empty items) (typedef_item n params p l a b) ≡ None → typed (context_of empty items).signature [] p ≡ Ok (fun raw bool)
    → IsNewType (context_of empty items).signature n params raw a b
new-type items n params p l a b raw v e h =
    let ctx : Context = context_of empty items in
    let s = typedef-sound items n params p l a b raw v e h in
    let d = refusal-extension ctx (typedef_item n params p l a b) e in
    let sig : Signature = (with_typedef n params p a b (Some raw) ctx).signature in
    let one : Signature = with_type n (length params) ctx.signature in
    let two : Signature = with_rep n params raw b ctx.signature in
    let reps : TypeTree = fun (new_type n params) raw in
    let abss : TypeTree = fun raw (new_type n params) in
    let other : same_name a b ≡ false = false-name a b d.two in
    record {
      type = d.new_type;
      rep = d.new_rep;
      abs = found-more a b reps ctx.signature.consts d.new_abs other;
      rep_sound = type-same sig one reps refl ∙ s.consts b reps (found-new b ctx.signature.consts ((b, reps) ∷ (a, abss) ∷ []) d.new_rep ∙ found-first b reps ((a, abss) ∷ []));
      abs_sound = type-same sig two abss refl
          ∙ s.consts a abss (found-new a ctx.signature.consts ((b, reps) ∷ (a, abss) ∷ []) d.new_abs ∙ if-false (same_name a b) (Some reps) (found a ((a, abss) ∷ [])) other ∙ found-first a abss []);
    }

new-statement : (ctx : Context) (s : State) (kept : List (Chars × TermTree)) (l : Chars) (t : TermTree) → StandsAs ctx s kept → found l ctx.statements ≡ None → IsWhole 0 (nameless [] t)
    → IsNewStatement s.named kept l t
new-statement ctx s kept l t h e w = record {
  whole = w;
  new = unknown-label ctx s l h.stands e;
  fresh = ap (λ (ps : List (Chars × TermTree)). found l ps) h.statements ∙ e;
}

pub new-statements : (items : List Item) (s : State) (kept : List (Chars × TermTree)) (n : Chars) (params : List Chars) (p : TermTree) (l a b : Chars) (raw : TypeTree)
    → IsPlainTheory items → StandsAs (context_of empty items) s kept
    → refusal (context_of empty items) (typedef_item n params p l a b) ≡ None → typed (context_of empty items).signature [] p ≡ Ok (fun raw bool)
    → AreNewStatements s.named kept n (new_type n params) raw p a b
new-statements items s kept n params p l a b raw v st e h =
    let ctx : Context = context_of empty items in
    let more : Context = with_typedef n params p a b (Some raw) ctx in
    let sound = typedef-sound items n params p l a b raw v e h in
    let d = refusal-extension ctx (typedef_item n params p l a b) e in
    let new : TypeTree = new_type n params in
    let t1 : TermTree = rep_statement new raw p b in
    let t2 : TermTree = rep_inverse_statement new raw a b in
    let t3 : TermTree = abs_inverse_statement new raw p a b in
    let l1 : Chars = rep_label n in
    let l2 : Chars = rep_inverse_label n in
    let l3 : Chars = abs_inverse_label n in
    let all : List (Chars × TermTree) = (l1, t1) ∷ (l2, t2) ∷ (l3, t3) ∷ [] in
    let at1 : found l1 more.statements ≡ Some t1 = found-new l1 ctx.statements all d.rep ∙ found-first l1 t1 ((l2, t2) ∷ (l3, t3) ∷ []) in
    let at2 : found l2 more.statements ≡ Some t2 = found-new l2 ctx.statements all d.rep_inverse
    ∙ if-false (same_name l2 l1) (Some t1) (found l2 ((l2, t2) ∷ (l3, t3) ∷ [])) (inverse-other n) ∙ found-first l2 t2 ((l3, t3) ∷ []) in
    let at3 : found l3 more.statements ≡ Some t3 = found-new l3 ctx.statements all d.abs_inverse
    ∙ if-false (same_name l3 l1) (Some t1) (found l3 ((l2, t2) ∷ (l3, t3) ∷ [])) (abs-other n)
    ∙ if-false (same_name l3 l2) (Some t2) (found l3 ((l3, t3) ∷ [])) (inverses-differ n) ∙ found-first l3 t3 [] in
    record {
      first = new-statement ctx s kept l1 t1 st d.rep (whole-named more l1 t1 sound at1);
      second = new-statement ctx s kept l2 t2 st d.rep_inverse (whole-named more l2 t2 sound at2);
      third = new-statement ctx s kept l3 t3 st d.abs_inverse (whole-named more l3 t3 sound at3);
    }
