-- A theory that goes back to its first items.
use Rattle.std.proofs.Common.{◌≡◌, ℕ, zero, suc, List, [], ◌∷◌, length, map, take, drop, Option, None, Some, refl, sym, ◌∙◌, ap, subst}
use Rattle.std.proofs.lemmas.List.{length-map}
use Rattle.lt_definitions.specs.Types.{Chars, TypeTree}
use Rattle.lt_definitions.specs.Terms.{TermTree}
use Rattle.lt_definitions.specs.Typing.{Signature, typed}
use Rattle.lt_definitions.specs.Items as theory
use Rattle.lt_definitions.specs.Items.{Context, empty, with_item, with_typedef, raw_type, context_of, type_item, const_item, axiom_item, def_item, typedef_item, lemma_item}
use Rattle.lt_definitions.specs.Theory.{IsPlainTheory}
use Rattle.lt_nameless.specs.Nameless.{Nameless, nameless}
use Rattle.lt_nameless.specs.NamelessRules.{nameless_statements}
use Rattle.lt_hol.specs.declared.item.Item.{Item}
use Rattle.lt_store.specs.Trees.{tree_at}
use Rattle.lt_kernel.specs.State.{State}
use Rattle.lt_extend.specs.declared.drafts.Mark.{Mark}
use Rattle.lt_extend.specs.Standing.{StandsFor, GoesOn}
use Rattle.lt_extend.specs.Drafts.{IsMark, IsMarkOf, before}
use Rattle.lt_extend.specs.Theories.{items_of, context_behind, IsHeld}
use Rattle.lt_extend.proofs.Behind.{goes-none, goes-on, goes-back}
use Rattle.lt_extend.proofs.Counts.{context-append, valid-front, parted-at}

-- The second context goes on where the first ends.
pub record IsFront (ctx more : Context) : Type 0 where
  pub types : GoesOn ctx.signature.types more.signature.types
  pub consts : GoesOn ctx.signature.consts more.signature.consts
  pub statements : GoesOn ctx.statements more.statements

front-same : (ctx : Context) → IsFront ctx ctx
front-same ctx = record { types = goes-none ctx.signature.types; consts = goes-none ctx.signature.consts; statements = goes-none ctx.statements }

front-typedef : (ctx : Context) (n a b : Chars) (params : List Chars) (p : TermTree) (o : Option TypeTree) → IsFront ctx (with_typedef n params p a b o ctx)
front-typedef ctx n a b params p None = front-same ctx
front-typedef ctx n a b params p (Some raw) = record { types = (_, refl); consts = (_, refl); statements = (_, refl) }

front-item : (ctx : Context) (i : theory.Item) → IsFront ctx (with_item ctx i)
front-item ctx (type_item n k) = record { types = (_, refl); consts = goes-none ctx.signature.consts; statements = goes-none ctx.statements }
front-item ctx (const_item n ty) = record { types = goes-none ctx.signature.types; consts = (_, refl); statements = goes-none ctx.statements }
front-item ctx (axiom_item l t) = record { types = goes-none ctx.signature.types; consts = goes-none ctx.signature.consts; statements = (_, refl) }
front-item ctx (def_item n ty body) = record { types = goes-none ctx.signature.types; consts = (_, refl); statements = (_, refl) }
front-item ctx (typedef_item n params p l a b) = front-typedef ctx n a b params p (raw_type (typed ctx.signature [] p))
front-item ctx (lemma_item l t lines) = record { types = goes-none ctx.signature.types; consts = goes-none ctx.signature.consts; statements = (_, refl) }

pub front-items : (ctx : Context) (items : List theory.Item) → IsFront ctx (context_of ctx items)
front-items ctx [] = front-same ctx
front-items ctx (i ∷ items) =
    let mid : Context = with_item ctx i in
    let new : Context = context_of mid items in
    let one = front-item ctx i in
    let two = front-items mid items in
    record {
      types = goes-on ctx.signature.types mid.signature.types new.signature.types one.types two.types;
      consts = goes-on ctx.signature.consts mid.signature.consts new.signature.consts one.consts two.consts;
      statements = goes-on ctx.statements mid.statements new.statements one.statements two.statements;
    }

-- what the first items declare and state comes first
front-behind : (items : List Item) (n : ℕ) → IsFront (context_behind (take n items)) (context_behind items)
front-behind items n =
    let ctx : Context = context_behind (take n items) in
    let e : context_behind items ≡ context_of ctx (items_of (drop n items)) =
    ap (context_of empty) (parted-at items n) ∙ context-append empty (items_of (take n items)) (items_of (drop n items)) in
    subst (IsFront ctx) (sym e) (front-items ctx (items_of (drop n items)))

take-mapped : {A B : Type 0} (f : A → B) (n : ℕ) (xs : List A) → map f (take n xs) ≡ take n (map f xs)
take-mapped f zero [] = refl
take-mapped f zero (x ∷ xs) = refl
take-mapped f (suc n) [] = refl
take-mapped f (suc n) (x ∷ xs) = ap (λ ys. f x ∷ ys) (take-mapped f n xs)

-- the numbers of all that is declared and stated
pub mark-now : (items : List Item) (s : State) (kept : List (Chars × TermTree)) (mark : Mark) → IsHeld items kept → StandsFor (context_behind items) s → IsMark s kept mark
    → IsMarkOf (context_behind items) mark
mark-now items s kept mark h st m =
    let at : (Chars × ℕ) → (Chars × Nameless) = λ p. (p.0, tree_at s.nodes p.1) in
    let tree : (Chars × TermTree) → (Chars × Nameless) = λ p. (p.0, nameless [] p.1) in
    record {
      types = m.types ∙ ap (λ (g : Signature). length g.types) st.signature;
      constants = m.constants ∙ ap (λ (g : Signature). length g.consts) st.signature;
      named = m.named ∙ sym (length-map s.named at) ∙ ap length st.statements ∙ length-map (context_behind items).statements tree;
      kept = m.kept ∙ ap length h.statements;
    }

-- what the kernel then stands for
pub stands-back : (items : List Item) (n : ℕ) (s new : State) (mark : Mark) → StandsFor (context_behind items) s → IsMarkOf (context_behind (take n items)) mark → new ≡ before mark s
    → StandsFor (context_behind (take n items)) new
stands-back items n s new mark st m e =
    let ctx : Context = context_behind (take n items) in
    let more : Context = context_behind items in
    let f = front-behind items n in
    let at : (Chars × ℕ) → (Chars × Nameless) = λ p. (p.0, tree_at s.nodes p.1) in
    let tree : (Chars × TermTree) → (Chars × Nameless) = λ p. (p.0, nameless [] p.1) in
    let types : take mark.proof.sig.types s.signature.types ≡ ctx.signature.types =
    ap (λ (g : Signature). take mark.proof.sig.types g.types) st.signature ∙ goes-back ctx.signature.types more.signature.types mark.proof.sig.types f.types m.types in
    let consts : take mark.proof.sig.constants s.signature.consts ≡ ctx.signature.consts =
    ap (λ (g : Signature). take mark.proof.sig.constants g.consts) st.signature ∙ goes-back ctx.signature.consts more.signature.consts mark.proof.sig.constants f.consts m.constants in
    subst (StandsFor ctx) (sym e) (record {
      signature = λ i. record { types = types i; consts = consts i };
      statements = take-mapped at mark.proof.statements s.named ∙ ap (take mark.proof.statements) st.statements ∙ sym (take-mapped tree mark.proof.statements more.statements)
          ∙ ap nameless_statements (goes-back ctx.statements more.statements mark.proof.statements f.statements m.named);
    })

-- the first items are a valid plain theory, with its statements
pub held-back : (items items1 : List Item) (n : ℕ) (kept kept1 : List (Chars × TermTree)) (mark : Mark) → IsHeld items kept → IsMarkOf (context_behind (take n items)) mark
    → items1 ≡ take n items → kept1 ≡ take mark.statements kept → IsHeld items1 kept1
held-back items items1 n kept kept1 mark h m e k =
    let ctx : Context = context_behind (take n items) in
    let f = front-behind items n in
    let here : IsHeld (take n items) (take mark.statements kept) = record {
      valid = valid-front empty (items_of (take n items)) (items_of (drop n items)) (subst IsPlainTheory (parted-at items n) h.valid);
      statements = ap (take mark.statements) h.statements ∙ goes-back ctx.statements (context_behind items).statements mark.statements f.statements m.kept;
    } in
    subst (λ (q : List Item × List (Chars × TermTree)). IsHeld q.0 q.1) (λ i. (sym e i, sym k i)) here
