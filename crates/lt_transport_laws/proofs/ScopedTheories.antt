-- The statements of a valid theory have their binders.
use Rattle.std.specs.Prelude.{◌≡◌, List, [], ◌∷◌, ◌++◌, Bool, true, false, ◌||◌, ◌&&◌, not, Option, Some, None, codes}
use Rattle.std.proofs.Common.{refl, sym, subst}
use Rattle.lt_definitions.specs.Types.{Chars, same_name, TypeTree, bool, fun}
use Rattle.lt_definitions.specs.Terms.{TermTree, has_loose, HasNoLooseNames}
use Rattle.lt_definitions.specs.Typing.{typed}
use Rattle.lt_definitions.specs.Items.{Item, type_item, const_item, axiom_item, def_item, typedef_item, lemma_item, Context, empty, definition_label, definition_statement, new_type, raw_type, with_typedef, rep_statement, rep_inverse_statement, abs_inverse_statement, typedef_statements, with_item, context_of}
use Rattle.lt_definitions.specs.Theory.{refusal, AreValid}
use Rattle.lt_definitions.specs.Extensions.{IsDefinition, IsTypedef}
use Rattle.lt_nameless.proofs.Refusals.{accepted_is_valid}
use Rattle.lt_nameless.proofs.TypeLaws.{typed_terms_have_no_loose_names}
use Rattle.lt_transport_definitions.specs.Sessions.{Session}
use Rattle.lt_transport_laws.specs.SessionStatements.{AreScopedStatements}
use Rattle.lt_transport_laws.specs.OrderStatements.{IsOfTheory}

scoped-on : (ps qs : List (Chars × TermTree)) → AreScopedStatements ps → AreScopedStatements qs → AreScopedStatements (ps ++ qs)
scoped-on [] qs h k = k
scoped-on (p ∷ ps) qs h k = (h.0, scoped-on ps qs h.1 k)

-- under a binder of the name
one-binder : (a l : Bool) → l ≡ false → (not a && (l || a)) ≡ false
one-binder true l e = refl
one-binder false true e = absurd (cc)
one-binder false false e = refl

two-binder : (a : Bool) → (not a && (a || a)) ≡ false
two-binder true = refl
two-binder false = refl

three-binder : (a l : Bool) → l ≡ false → (not a && ((l || a) || (a || a))) ≡ false
three-binder true l e = refl
three-binder false true e = absurd (cc)
three-binder false false e = refl

rep-none : (new raw : TypeTree) (p : TermTree) (b : Chars) → HasNoLooseNames p → HasNoLooseNames (rep_statement new raw p b)
rep-none new raw p b h z = one-binder (same_name z (codes "a")) (has_loose z p) (h z)

rep-inverse-none : (new raw : TypeTree) (a b : Chars) → HasNoLooseNames (rep_inverse_statement new raw a b)
rep-inverse-none new raw a b z = two-binder (same_name z (codes "a"))

abs-inverse-none : (new raw : TypeTree) (p : TermTree) (a b : Chars) → HasNoLooseNames p → HasNoLooseNames (abs_inverse_statement new raw p a b)
abs-inverse-none new raw p a b h z = three-binder (same_name z (codes "r")) (has_loose z p) (h z)

typedef-scoped : (ctx : Context) (n : Chars) (params : List Chars) (p : TermTree) (a b : Chars) (o : Option TypeTree) → HasNoLooseNames p
    → AreScopedStatements ctx.statements → AreScopedStatements (with_typedef n params p a b o ctx).statements
typedef-scoped ctx n params p a b None h k = k
typedef-scoped ctx n params p a b (Some raw) h k = scoped-on ctx.statements (typedef_statements n (new_type n params) raw p a b) k
    (rep-none (new_type n params) raw p b h, (rep-inverse-none (new_type n params) raw a b, (abs-inverse-none (new_type n params) raw p a b h, tt)))

item-scoped : (ctx : Context) (item : Item) → refusal ctx item ≡ None → AreScopedStatements ctx.statements → AreScopedStatements (with_item ctx item).statements
item-scoped ctx (type_item n k) v h = h
item-scoped ctx (const_item n ty) v h = h
item-scoped ctx (axiom_item l t) v h =
    let x = (accepted_is_valid ctx (axiom_item l t)).0 v in
    scoped-on ctx.statements ((l, t) ∷ []) h (typed_terms_have_no_loose_names ctx.signature t bool x.0.0, tt)
item-scoped ctx (lemma_item l t lines) v h =
    let x = (accepted_is_valid ctx (lemma_item l t lines)).0 v in
    scoped-on ctx.statements ((l, t) ∷ []) h (typed_terms_have_no_loose_names ctx.signature t bool x.0.0, tt)
item-scoped ctx (def_item n ty body) v h =
    let x : IsDefinition ctx n ty body = (accepted_is_valid ctx (def_item n ty body)).0 v in
    scoped-on ctx.statements ((definition_label n, definition_statement n ty body) ∷ []) h ((λ z. typed_terms_have_no_loose_names ctx.signature body ty x.typed z), tt)
item-scoped ctx (typedef_item n params p l a b) v h =
    let x : IsTypedef ctx n params p l a b = (accepted_is_valid ctx (typedef_item n params p l a b)).0 v in
    typedef-scoped ctx n params p a b (raw_type (typed ctx.signature [] p))
    (typed_terms_have_no_loose_names ctx.signature p (fun x.raw bool) x.predicate) h

items-scoped : (ctx : Context) (items : List Item) → AreValid ctx items → AreScopedStatements ctx.statements → AreScopedStatements (context_of ctx items).statements
items-scoped ctx [] v h = h
items-scoped ctx (item ∷ items) v h = items-scoped (with_item ctx item) items v.1 (item-scoped ctx item v.0 h)

-- so do those of a session of one
pub theory-scoped : (s : Session) → IsOfTheory s → AreScopedStatements s.context.statements
theory-scoped s t = subst (λ (c : Context). AreScopedStatements c.statements) (sym t.2) (items-scoped empty t.0 t.1 tt)
