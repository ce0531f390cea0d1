-- The items that a walk gives are a valid plain theory.
use Rattle.std.specs.Prelude.{◌≡◌, List, [], ◌∷◌, ◌++◌, fold}
use Rattle.std.proofs.Common.{refl, sym, ap, ◌∙◌, subst, inl, inr}
use Rattle.lt_definitions.specs.Items.{Item, Context, empty, with_item, context_of}
use Rattle.lt_definitions.specs.Theory.{AreValid}
use Rattle.lt_transport_definitions.specs.Sessions.{Session, new_session}
use Rattle.lt_texts.specs.Commands.{Command}
use Rattle.lt_walks.specs.Walks.{WalksText, Walks}
use Rattle.lt_transport_definitions.specs.Commands.{Addition, this_item, a_lemma, Block, item_of, with_addition, session_behind}
use Rattle.lt_transport_definitions.specs.Blocks.{IsItemOf, AreItemsOf, Gives}
use Rattle.lt_transport_definitions.specs.TheoryWalks.{items_of_blocks}
use Rattle.lt_transport_laws.specs.SessionStatements.{WalksArePlain, RunsArePlain}
use Rattle.lt_transport_laws.proofs.InStep.{context-kept}

-- an addition and its item add the same
pub adds-same : (c : Context) (a : Addition) (item : Item) → IsItemOf a item → with_item c (item_of a) ≡ with_item c item
adds-same c (this_item i) item h = ap (with_item c) (sym h)
adds-same c (a_lemma l t) item h = ap (with_item c) (sym h.1)

-- so do additions and their items
all-add : (s : Session) (additions : List Addition) (items : List Item) → AreItemsOf additions items → (fold with_addition s additions).context ≡ context_of s.context items
all-add s [] [] h = refl
all-add s [] (item ∷ items) h = absurd h
all-add s (a ∷ additions) [] h = absurd h
all-add s (a ∷ additions) (item ∷ items) h =
    all-add (with_addition s a) additions items h.1 ∙ ap (λ (c : Context). context_of c items) (adds-same s.context a item h.0)

-- the items of a block leave what the block leaves
pub behind-same : (s : Session) (b : Block) (items : List Item) → AreItemsOf b.additions items → (session_behind s b).context ≡ context_of s.context items
behind-same s b items h = context-kept (fold with_addition s b.additions) b.registrations ∙ all-add s b.additions items h

pub valid-on : (ctx : Context) (xs ys : List Item) → AreValid ctx xs → AreValid (context_of ctx xs) ys → AreValid ctx (xs ++ ys)
valid-on ctx [] ys h k = k
valid-on ctx (x ∷ xs) ys h k = (h.0, valid-on (with_item ctx x) xs ys h.1 k)

one-block : (s later : Session) (c : Command) (items : List Item) (more : List (List Item)) → Gives s c items later
    → AreValid later.context (items_of_blocks more) → AreValid s.context (items_of_blocks (items ∷ more))
one-block s later c items more g h =
    let k : AreValid (session_behind s g.0).context (items_of_blocks more) =
    subst (λ (t : Session). AreValid t.context (items_of_blocks more)) g.4 h in
    let v = subst (λ (d : Context). AreValid d (items_of_blocks more)) (behind-same s g.0 items g.2) k in
    valid-on s.context items (items_of_blocks more) g.3 v

pub walks-plain : WalksArePlain
walks-plain limit s at [] end h = tt
walks-plain limit s at (items ∷ blocks) end (c, from, lines, to, behind, p, later, g, w) =
    one-block s later c items blocks g (walks-plain limit later behind blocks end w)

no-blocks : (ctx : Context) (blocks : List (List Item)) → blocks ≡ [] → AreValid ctx (items_of_blocks blocks)
no-blocks ctx blocks e = subst (λ (bs : List (List Item)). AreValid ctx (items_of_blocks bs)) (sym e) tt

pub runs-plain : RunsArePlain
unfolding Walks WalksText
runs-plain limit text blocks end (inl h) = no-blocks empty blocks h.1
runs-plain limit text blocks end (inr (h, inl k)) = no-blocks empty blocks k.2
runs-plain limit text blocks end (inr (h, inr k)) = walks-plain limit (new_session limit) k.0 blocks end k.2
