-- The axioms of a walk are those of its commands.
use Rattle.std.proofs.Common.{◌≡◌, inl, inr, ℕ, suc, ◌∙◌, ap, sym, refl, subst, Bool, true, false, List, [], ◌∷◌, ◌++◌, length, map, filter, if◌then◌else◌}
use Rattle.std.specs.List.{flat_map}
use Rattle.lt_definitions.specs.Items.{Item, lemma_item}
use Rattle.lt_definitions.specs.Printing.{is_axiom}
use Rattle.lt_texts.specs.Texts.{Left, left_of}
use Rattle.lt_texts.specs.Forms.{theory_text, header_text}
use Rattle.lt_texts.specs.WrongPlaces.{Stands}
use Rattle.lt_texts.specs.Commands.{Command}
use Rattle.lt_walks.specs.Walks.{End, WalksOn, WalksText, Walks}
use Rattle.lt_transport_definitions.specs.Sessions.{Session, new_session}
use Rattle.lt_transport_definitions.specs.Commands.{Addition, this_item, a_lemma, item_of}
use Rattle.lt_transport_definitions.specs.Blocks.{AreItemsOf, IsItemOf, Gives}
use Rattle.lt_transport_definitions.specs.TheoryWalks.{items_of_blocks}
use Rattle.lt_transport_laws.specs.Statements.{axioms_added, axioms_given}
use Rattle.lt_transport_laws.proofs.AxiomLemmas.{axioms-given}
use Rattle.lt_session.specs.Walks.{RunRefusal, built_commands}
use Rattle.lt_run_laws.specs.Axioms.{AreNext, AreFirst, HasAxiomsOfCommands}

-- an item and its addition are both axioms, or neither
same-test : (a : Addition) (item : Item) → IsItemOf a item → is_axiom item ≡ is_axiom (item_of a)
same-test (this_item i) item h = ap is_axiom h
same-test (a_lemma l t) item (lines, e, read) = ap is_axiom e

-- .. and where they are, they are one
same-item : (a : Addition) (item : Item) → IsItemOf a item → is_axiom item ≡ true → item ≡ item_of a
same-item (this_item i) item h k = h
same-item (a_lemma l t) item (lines, e, read) k = let wrong : false ≡ true = sym (ap is_axiom e) ∙ k in absurd (cc wrong)

filter-step : (a : Addition) (item : Item) (xs ys : List Item) → IsItemOf a item → xs ≡ ys
    → (b : Bool) → is_axiom item ≡ b → filter is_axiom (item ∷ []) ++ xs ≡ filter is_axiom (item_of a ∷ []) ++ ys
filter-step a item xs ys h e true k = (λ i. filter is_axiom (same-item a item h k i ∷ []) ++ e i)
filter-step a item xs ys h e false k =
    none item k xs ∙ e ∙ sym (none (item_of a) (sym (same-test a item h) ∙ k) ys)
  where
    none : (i : Item) → is_axiom i ≡ false → (zs : List Item) → filter is_axiom (i ∷ []) ++ zs ≡ zs
    none i k zs = ap (λ (b : Bool). (if b then i ∷ [] else []) ++ zs) k

filter-one : (item : Item) (items : List Item) → filter is_axiom (item ∷ items) ≡ filter is_axiom (item ∷ []) ++ filter is_axiom items
filter-one item items = by (is_axiom item)
  where
    by : (b : Bool) → (if b then item ∷ filter is_axiom items else filter is_axiom items) ≡ (if b then item ∷ [] else []) ++ filter is_axiom items
    by true = refl
    by false = refl

-- the axioms of a block's items are those that are added
added-axioms : (additions : List Addition) (items : List Item) → AreItemsOf additions items → filter is_axiom items ≡ axioms_added additions
added-axioms [] [] h = refl
added-axioms (a ∷ additions) (item ∷ items) (one, more) =
    filter-one item items ∙ filter-step a item (filter is_axiom items) (axioms_added additions) one (added-axioms additions items more) (is_axiom item) refl
    ∙ sym (filter-one (item_of a) (map item_of additions))
added-axioms [] (item ∷ items) h = absurd h
added-axioms (a ∷ additions) [] h = absurd h

block-axioms : (s : Session) (c : Command) (items : List Item) (later : Session) → Gives s c items later → filter is_axiom items ≡ axioms_given c
block-axioms s c items later (b, comes, are, valid, behind) = added-axioms b.additions items are ∙ axioms-given s c b comes

filter-append : (xs ys : List Item) → filter is_axiom (xs ++ ys) ≡ filter is_axiom xs ++ filter is_axiom ys
filter-append [] ys = refl
filter-append (x ∷ xs) ys = by (is_axiom x) (filter-append xs ys)
  where
    by : (b : Bool) → filter is_axiom (xs ++ ys) ≡ filter is_axiom xs ++ filter is_axiom ys
        → (if b then x ∷ filter is_axiom (xs ++ ys) else filter is_axiom (xs ++ ys)) ≡ (if b then x ∷ filter is_axiom xs else filter is_axiom xs) ++ filter is_axiom ys
    by true e = ap (λ zs. x ∷ zs) e
    by false e = e

-- What is known of the walk from a place on.
record Walked (at : Left) (blocks : List (List Item)) : Type 0 where
  pub commands : List Command
  pub next : AreNext at commands
  pub one_each : length commands ≡ length blocks
  pub axioms : filter is_axiom (items_of_blocks blocks) ≡ flat_map axioms_given commands

walked : (limit : ℕ) (s : Session) (at : Left) (blocks : List (List Item)) (end : End RunRefusal) → WalksOn (built_commands limit) s at blocks end → Walked at blocks
walked limit s at [] end w = record { commands = []; next = tt; one_each = refl; axioms = refl }
walked limit s at (items ∷ blocks) end (c, from, lines, to, behind, next, later, adds, on) =
    let rest = walked limit later behind blocks end on in
    record {
      commands = c ∷ rest.commands;
      next = (from, lines, to, behind, next, rest.next);
      one_each = ap suc rest.one_each;
      axioms = filter-append items (items_of_blocks blocks) ∙ (λ i. block-axioms s c items later adds.1 i ++ rest.axioms i);
    }

behind-header : (text : List ℕ) (at : Left) (blocks : List (List Item)) → Stands (left_of text) (header_text theory_text) at → Walked at blocks → HasAxiomsOfCommands text blocks
behind-header text at blocks st w = record { commands = w.commands; first = by w.commands w.next; one_each = w.one_each; axioms = w.axioms }
  where
    by : (commands : List Command) → AreNext at commands → AreFirst text commands
    by [] n = tt
    by (c ∷ commands) n = (at, st, n)

none : (text : List ℕ) (blocks : List (List Item)) → blocks ≡ [] → HasAxiomsOfCommands text blocks
none text blocks e = subst (HasAxiomsOfCommands text) (sym e) (record { commands = []; first = tt; one_each = refl; axioms = refl })

in-text : (limit : ℕ) (text : List ℕ) (blocks : List (List Item)) (end : End RunRefusal) → WalksText (built_commands limit) text blocks end → HasAxiomsOfCommands text blocks
unfolding WalksText
in-text limit text blocks end (inl (e, fails, empty, ends)) = none text blocks empty
in-text limit text blocks end (inr (at, st, on)) = behind-header text at blocks st (walked limit (new_session limit) at blocks end on)

pub axioms-of-walk : (limit : ℕ) (text : List ℕ) (blocks : List (List Item)) (end : End RunRefusal) → Walks (built_commands limit) text blocks end → HasAxiomsOfCommands text blocks
unfolding Walks
axioms-of-walk limit text blocks end (inl (long, empty, ends)) = none text blocks empty
axioms-of-walk limit text blocks end (inr (short, w)) = in-text limit text blocks end w
