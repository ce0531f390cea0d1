-- How many types, constants and statements items add.
use Rattle.std.proofs.Common.{◌≡◌, ℕ, zero, suc, slice_get, Some, ◌+◌, ◌≤◌, List, [], ◌∷◌, ◌++◌, length, take, drop, None, refl, sym, ◌∙◌, ap, subst, arith, length-append}
use Rattle.std.proofs.lemmas.List.{map-append, take-append-drop, drop_all}
use Rattle.lt_definitions.specs.Types.{bool, fun}
use Rattle.lt_definitions.specs.Items.{Item, type_item, const_item, axiom_item, def_item, typedef_item, lemma_item, Context, empty, with_item, context_of}
use Rattle.lt_definitions.specs.Theory.{refusal, AreValid, IsPlainTheory}
use Rattle.lt_nameless.proofs.Typings.{has-typed}
use Rattle.lt_nameless.proofs.Refusals.{refusal-extension}
use Rattle.lt_hol.specs.declared.item.Item.{Item as Entry}
use Rattle.lt_hol.specs.Items.{item_of}
use Rattle.lt_extend.specs.Theories.{items_of}
use Rattle.lt_extend.specs.declared.drafts.Mark.{Mark}
use Rattle.lt_extend.specs.Drafts.{IsMarkOf, Additions, additions, IsAtLeast, IsWithout}
use Rattle.lt_extend.proofs.Accepted.{typedef-adds}

-- The second context has so many more.
pub record HasMore (ctx more : Context) (a : Additions) : Type 0 where
  pub types : length more.signature.types ≡ length ctx.signature.types + a.types
  pub constants : length more.signature.consts ≡ length ctx.signature.consts + a.constants
  pub statements : length more.statements ≡ length ctx.statements + a.statements

-- what items add together
abbrev pub total : List Item → Additions
total [] = record { types = 0; constants = 0; statements = 0 }
total (i ∷ items) = record {
  types = (additions i).types + (total items).types;
  constants = (additions i).constants + (total items).constants;
  statements = (additions i).statements + (total items).statements;
}

item-more : (ctx : Context) (i : Item) → refusal ctx i ≡ None → HasMore ctx (with_item ctx i) (additions i)
item-more ctx (type_item n k) e = record { types = length-append ctx.signature.types ((n, k) ∷ []); constants = omega arith; statements = omega arith }
item-more ctx (const_item n ty) e = record { types = omega arith; constants = length-append ctx.signature.consts ((n, ty) ∷ []); statements = omega arith }
item-more ctx (axiom_item l t) e = record { types = omega arith; constants = omega arith; statements = simp length-append }
item-more ctx (def_item n ty body) e = record { types = omega arith; constants = simp length-append; statements = simp length-append }
item-more ctx (lemma_item l t lines) e = record { types = omega arith; constants = omega arith; statements = simp length-append }
item-more ctx (typedef_item n params p l a b) e =
    let d = refusal-extension ctx (typedef_item n params p l a b) e in
    subst (λ (more : Context). HasMore ctx more (additions (typedef_item n params p l a b)))
    (sym (typedef-adds ctx n params p l a b d.raw (has-typed ctx.signature [] p (fun d.raw bool) d.predicate)))
    (record { types = simp length-append; constants = simp length-append; statements = simp length-append })

pub items-more : (ctx : Context) (items : List Item) → AreValid ctx items → HasMore ctx (context_of ctx items) (total items)
items-more ctx [] v = record { types = omega arith; constants = omega arith; statements = omega arith }
items-more ctx (i ∷ items) v =
    let first = item-more ctx i v.0 in
    let rest = items-more (with_item ctx i) items v.1 in
    record {
      types = omega (arith, first.types, rest.types);
      constants = omega (arith, first.constants, rest.constants);
      statements = omega (arith, first.statements, rest.statements);
    }

pub context-append : (ctx : Context) (xs ys : List Item) → context_of ctx (xs ++ ys) ≡ context_of (context_of ctx xs) ys
context-append ctx [] ys = refl
context-append ctx (x ∷ xs) ys = context-append (with_item ctx x) xs ys

pub valid-front : (ctx : Context) (xs ys : List Item) → AreValid ctx (xs ++ ys) → AreValid ctx xs
valid-front ctx [] ys v = tt
valid-front ctx (x ∷ xs) ys v = (v.0, valid-front (with_item ctx x) xs ys v.1)

pub valid-back : (ctx : Context) (xs ys : List Item) → AreValid ctx (xs ++ ys) → AreValid (context_of ctx xs) ys
valid-back ctx [] ys v = v
valid-back ctx (x ∷ xs) ys v = valid-back (with_item ctx x) xs ys v.1

-- The numbers are those of a context, and so many more.
pub record IsMarkWith (ctx : Context) (a : Additions) (mark : Mark) : Type 0 where
  pub types : mark.proof.sig.types ≡ length ctx.signature.types + a.types
  pub constants : mark.proof.sig.constants ≡ length ctx.signature.consts + a.constants
  pub named : mark.proof.statements ≡ length ctx.statements + a.statements
  pub kept : mark.statements ≡ length ctx.statements + a.statements

pub mark-first : (xs ys : List Item) (mark : Mark) → IsPlainTheory (xs ++ ys) → IsMarkOf (context_of empty (xs ++ ys)) mark → IsMarkWith (context_of empty xs) (total ys) mark
mark-first xs ys mark v m =
    let more = items-more (context_of empty xs) ys (valid-back empty xs ys v) in
    let k = subst (λ (ctx : Context). IsMarkOf ctx mark) (context-append empty xs ys) m in
    record {
      types = k.types ∙ more.types;
      constants = k.constants ∙ more.constants;
      named = k.named ∙ more.statements;
      kept = k.kept ∙ more.statements;
    }

pub mark-enough : (ctx : Context) (i : Item) (later : List Item) (mark : Mark) → IsMarkWith ctx (total (i ∷ later)) mark → IsAtLeast (additions i) mark
mark-enough ctx i later mark m = record {
  types = omega (arith, m.types);
  constants = omega (arith, m.constants);
  named = omega (arith, m.named);
  kept = omega (arith, m.kept);
}

pub mark-next : (ctx : Context) (i : Item) (later : List Item) (mark less : Mark) → IsMarkWith ctx (total (i ∷ later)) mark → IsWithout (additions i) mark less → IsMarkWith ctx (total later) less
mark-next ctx i later mark less m w = record {
  types = omega (arith, m.types, w.types);
  constants = omega (arith, m.constants, w.constants);
  named = omega (arith, m.named, w.named);
  kept = omega (arith, m.kept, w.kept);
}

pub mark-last : (ctx : Context) (mark : Mark) → IsMarkWith ctx (total []) mark → IsMarkOf ctx mark
mark-last ctx mark m = record {
  types = omega (arith, m.types);
  constants = omega (arith, m.constants);
  named = omega (arith, m.named);
  kept = omega (arith, m.kept);
}

-- ---- the items in two parts

pub parted-at : (items : List Entry) (n : ℕ) → items_of items ≡ items_of (take n items) ++ items_of (drop n items)
parted-at items n = ap items_of (sym (take-append-drop n items)) ∙ map-append item_of (take n items) (drop n items)

pub rest-at : (items : List Entry) (i : ℕ) (x : Entry) → slice_get items i ≡ Some x → items_of (drop i items) ≡ item_of x ∷ items_of (drop (i + 1) items)
rest-at [] i x e = absurd (cc e)
rest-at (y ∷ ys) zero x e = let same : y ≡ x = cc e in ap (λ z. item_of z ∷ items_of ys) same
rest-at (y ∷ ys) (suc i) x e = let next : suc (i + 1) ≡ suc i + 1 = omega arith in rest-at ys i x e ∙ ap (λ (k : ℕ). item_of x ∷ items_of (drop k (y ∷ ys))) next

pub none-left : (items : List Entry) (i : ℕ) → length items ≤ i → items_of (drop i items) ≡ []
none-left items i h = ap items_of (drop_all i items h)
