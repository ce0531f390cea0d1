-- Items keep what was declared and stated before them.
use Rattle.std.proofs.Common.{◌≡◌, ◌↔◌, inl, inr, ℕ, List, [], ◌∷◌, ◌++◌, Option, Some, None, refl, sym, ◌∙◌, ap}
use Rattle.lt_definitions.specs.Items.{Item, type_item, const_item, axiom_item, def_item, typedef_item, lemma_item, Context, with_types, with_consts, with_statements, definition_label, definition_statement, new_type, typedef_statements, raw_type, with_typedef, with_item, context_of}
use Rattle.lt_definitions.specs.Types.{Chars, same_name, found, TypeTree, fun}
use Rattle.lt_definitions.specs.Terms.{TermTree}
use Rattle.lt_definitions.specs.Typing.{typed}
use Rattle.lt_definitions.specs.Rules.{Sequent, Rule}
use Rattle.lt_definitions.specs.Derivations.{Derives, IsPartOf}
use Rattle.lt_definitions.specs.Theory.{Refusal, refusal, AreValid, checked_after, checked}
use Rattle.lt_definitions.specs.Extensions.{AreExtensions}
use Rattle.lt_definitions.proofs.SameNames.{bool_cases}
use Rattle.lt_nameless.proofs.BindingLemmas.{if-true, if-false}
use Rattle.lt_nameless.proofs.Refusals.{accepted_is_valid}
use Rattle.lt_nameless.proofs.MoreStatements.{derives-more}
use Rattle.lt_nameless.proofs.MoreDeclarations.{derivation_over_more_declarations}
use Rattle.std.proofs.Common.{length}

pub found-append : {A : Type 0} (x : Chars) (ps qs : List (Chars × A)) (v : A) → found x ps ≡ Some v → found x (ps ++ qs) ≡ Some v
found-append x [] qs v e = absurd (cc e)
found-append x (p ∷ ps) qs v e = elim (bool_cases (same_name x p.0)) [
  | inl h ↦ if-true (same_name x p.0) (Some p.1) (found x (ps ++ qs)) h ∙ sym (if-true (same_name x p.0) (Some p.1) (found x ps) h) ∙ e
  | inr h ↦ if-false (same_name x p.0) (Some p.1) (found x (ps ++ qs)) h
      ∙ found-append x ps qs v (sym (if-false (same_name x p.0) (Some p.1) (found x ps) h) ∙ e)
]

pub record Keeps (ctx later : Context) : Type 0 where
  pub declared : IsPartOf ctx.signature later.signature
  pub stated : (l : Chars) (p : TermTree) → found l ctx.statements ≡ Some p → found l later.statements ≡ Some p

pub keeps-same : (ctx : Context) → Keeps ctx ctx
keeps-same ctx = record { declared = record { types = λ c k e. e; consts = λ c ty e. e }; stated = λ l p e. e }

keeps-trans : (a b c : Context) → Keeps a b → Keeps b c → Keeps a c
keeps-trans a b c h k = record {
  declared = record {
    types = λ x n e. k.declared.types x n (h.declared.types x n e);
    consts = λ x ty e. k.declared.consts x ty (h.declared.consts x ty e);
  };
  stated = λ l p e. k.stated l p (h.stated l p e);
}

pub keeps-types : (ts : List (Chars × ℕ)) (ctx : Context) → Keeps ctx (with_types ts ctx)
keeps-types ts ctx = record {
  declared = record { types = λ c k e. found-append c ctx.signature.types ts k e; consts = λ c ty e. e };
  stated = λ l p e. e;
}

pub keeps-consts : (cs : List (Chars × TypeTree)) (ctx : Context) → Keeps ctx (with_consts cs ctx)
keeps-consts cs ctx = record {
  declared = record { types = λ c k e. e; consts = λ c ty e. found-append c ctx.signature.consts cs ty e };
  stated = λ l p e. e;
}

pub keeps-statements : (ps : List (Chars × TermTree)) (ctx : Context) → Keeps ctx (with_statements ps ctx)
keeps-statements ps ctx = record {
  declared = record { types = λ c k e. e; consts = λ c ty e. e };
  stated = λ l p e. found-append l ctx.statements ps p e;
}

keeps-typedef : (n : Chars) (params : List Chars) (p : TermTree) (a b : Chars) (raw : Option TypeTree) (ctx : Context) → Keeps ctx (with_typedef n params p a b raw ctx)
keeps-typedef n params p a b None ctx = keeps-same ctx
keeps-typedef n params p a b (Some raw) ctx =
    let new : TypeTree = new_type n params in
    let cs : List (Chars × TypeTree) = (b, fun new raw) ∷ (a, fun raw new) ∷ [] in
    let one : Context = with_types ((n, length params) ∷ []) ctx in
    let two : Context = with_consts cs one in
    keeps-trans ctx one (with_statements (typedef_statements n new raw p a b) two) (keeps-types ((n, length params) ∷ []) ctx)
    (keeps-trans one two (with_statements (typedef_statements n new raw p a b) two) (keeps-consts cs one) (keeps-statements (typedef_statements n new raw p a b) two))

keeps-item : (ctx : Context) (item : Item) → Keeps ctx (with_item ctx item)
keeps-item ctx (type_item n k) = keeps-types ((n, k) ∷ []) ctx
keeps-item ctx (const_item n ty) = keeps-consts ((n, ty) ∷ []) ctx
keeps-item ctx (axiom_item l t) = keeps-statements ((l, t) ∷ []) ctx
keeps-item ctx (def_item n ty body) =
    keeps-trans ctx (with_consts ((n, ty) ∷ []) ctx) (with_statements ((definition_label n, definition_statement n ty body) ∷ []) (with_consts ((n, ty) ∷ []) ctx))
    (keeps-consts ((n, ty) ∷ []) ctx) (keeps-statements ((definition_label n, definition_statement n ty body) ∷ []) (with_consts ((n, ty) ∷ []) ctx))
keeps-item ctx (typedef_item n params p l a b) = keeps-typedef n params p a b (raw_type (typed ctx.signature [] p)) ctx
keeps-item ctx (lemma_item l t lines) = keeps-statements ((l, t) ∷ []) ctx

pub keeps-items : (ctx : Context) (items : List Item) → Keeps ctx (context_of ctx items)
keeps-items ctx [] = keeps-same ctx
keeps-items ctx (item ∷ items) = keeps-trans ctx (with_item ctx item) (context_of (with_item ctx item) items) (keeps-item ctx item) (keeps-items (with_item ctx item) items)

pub derivation_over_later_items : (ctx : Context) (items : List Item) (done : List Sequent) (lines : List (Rule TermTree)) (ss : List Sequent)
    → Derives ctx.signature ctx.statements done lines ss → Derives (context_of ctx items).signature (context_of ctx items).statements done lines ss
derivation_over_later_items ctx items done lines ss d =
    let k = keeps-items ctx items in
    derivation_over_more_declarations ctx.signature (context_of ctx items).signature (context_of ctx items).statements done lines ss k.declared
    (derives-more ctx.signature ctx.statements (context_of ctx items).statements done lines ss k.stated d)

-- checking a list

checked-none : (r : Option Refusal) (item : Item) (later : List Item × Option Refusal) → (checked_after r item later).1 ≡ None → (r ≡ None) × (later.1 ≡ None)
checked-none None item later e = (refl, e)
checked-none (Some r) item later e = absurd (cc e)

checked-valid : (ctx : Context) (items : List Item) → (checked ctx items).1 ≡ None → AreValid ctx items
checked-valid ctx [] e = tt
checked-valid ctx (item ∷ items) e =
    let h = checked-none (refusal ctx item) item (checked (with_item ctx item) items) e in (h.0, checked-valid (with_item ctx item) items h.1)

valid-checked : (ctx : Context) (items : List Item) → AreValid ctx items → checked ctx items ≡ (items, None)
valid-checked ctx [] v = refl
valid-checked ctx (item ∷ items) v =
    ap (λ r. checked_after r item (checked (with_item ctx item) items)) v.0 ∙ ap (checked_after None item) (valid-checked (with_item ctx item) items v.1)

pub validity_is_computed : (ctx : Context) (items : List Item) → AreValid ctx items ↔ (checked ctx items ≡ (items, None))
validity_is_computed ctx items = (valid-checked ctx items, λ e. checked-valid ctx items (ap (λ p. p.1) e))

-- extensions

valid-extensions : (ctx : Context) (items : List Item) → AreValid ctx items → AreExtensions ctx items
valid-extensions ctx [] v = tt
valid-extensions ctx (item ∷ items) v = ((accepted_is_valid ctx item).0 v.0, valid-extensions (with_item ctx item) items v.1)

extensions-valid : (ctx : Context) (items : List Item) → AreExtensions ctx items → AreValid ctx items
extensions-valid ctx [] v = tt
extensions-valid ctx (item ∷ items) v = ((accepted_is_valid ctx item).1 v.0, extensions-valid (with_item ctx item) items v.1)

pub valid_is_extending : (ctx : Context) (items : List Item) → AreValid ctx items ↔ AreExtensions ctx items
valid_is_extending ctx items = (valid-extensions ctx items, extensions-valid ctx items)
