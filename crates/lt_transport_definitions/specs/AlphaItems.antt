-- What a single call answers where the code keeps no binder names: the items of a command up to
-- alpha equality, and a refusal up to how it prints. What is written of a walk shows neither.
-- Source: this project's own.
use Rattle.std.specs.Prelude.{◌≡◌, List, [], ◌∷◌, Err}
use Rattle.lt_definitions.specs.Terms.{TermTree}
use Rattle.lt_definitions.specs.Alpha.{IsAlphaEqual}
use Rattle.lt_definitions.specs.Rules.{Rule, rule_map, terms_of, AreAlphaEqual}
use Rattle.lt_definitions.specs.Items.{Item, axiom_item, def_item, typedef_item, lemma_item}
use Rattle.lt_definitions.specs.Theory.{AreValid}
use Rattle.lt_texts.specs.Commands.{Command}
use Rattle.lt_transport_definitions.specs.Sessions.{Session}
use Rattle.lt_transport_definitions.specs.Commands.{CommandRefusal}
use Rattle.lt_transport_definitions.specs.Reports.{printed_refusal}
use Rattle.lt_transport_definitions.specs.TheoryWalks.{line_of}
use Rattle.lt_transport_definitions.specs.Blocks.{ComesOf, Gives}

-- The rules of two lines are one, with alpha-equal terms.
abbrev pub IsAlphaEqualRule : Rule TermTree → Rule TermTree → Type 0
IsAlphaEqualRule r q =
    (rule_map {U = Unit {0}} (λ t. tt) r ≡ rule_map (λ t. tt) q)
    × AreAlphaEqual (terms_of r) (terms_of q)

-- Each rule is the one at its place, with alpha-equal terms.
abbrev pub AreAlphaEqualRules : List (Rule TermTree) → List (Rule TermTree) → Type 0
AreAlphaEqualRules [] [] = Unit {0}
AreAlphaEqualRules (r ∷ rs) (q ∷ qs) = IsAlphaEqualRule r q × AreAlphaEqualRules rs qs
AreAlphaEqualRules _ _ = ⊥

-- Two items are one, up to alpha equality of their terms.
abbrev pub IsAlphaEqualItem : Item → Item → Type 0
IsAlphaEqualItem (axiom_item l t) (axiom_item m u) = (l ≡ m) × IsAlphaEqual t u
IsAlphaEqualItem (def_item n ty b) (def_item m uy c) = (n ≡ m) × (ty ≡ uy) × IsAlphaEqual b c
IsAlphaEqualItem (typedef_item n xs p l a r) (typedef_item m ys q k b s) =
    (n ≡ m) × (xs ≡ ys) × IsAlphaEqual p q × (l ≡ k) × (a ≡ b) × (r ≡ s)
IsAlphaEqualItem (lemma_item l t lines) (lemma_item m u others) =
    (l ≡ m) × IsAlphaEqual t u × AreAlphaEqualRules lines others
IsAlphaEqualItem i j = i ≡ j

-- Each item is the one at its place.
abbrev pub AreAlphaEqualItems : List Item → List Item → Type 0
AreAlphaEqualItems [] [] = Unit {0}
AreAlphaEqualItems (i ∷ items) (j ∷ others) = IsAlphaEqualItem i j × AreAlphaEqualItems items others
AreAlphaEqualItems _ _ = ⊥

-- A call gives items and a session: those that the command gives, the items up to alpha equality,
-- and valid themselves.
abbrev pub GivesAlike : Session → Command → List Item → Session → Type 0
GivesAlike s c items later =
    (given : List Item) × Gives s c given later × AreAlphaEqualItems given items
    × AreValid s.context items

-- A call refuses a command: its refusal prints as the first one that applies, and stands in the
-- same line of a lemma.
abbrev pub RefusesAlike : Session → Command → CommandRefusal → Type 0
RefusesAlike s c r = (first : CommandRefusal) × ComesOf s c (Err first)
    × (printed_refusal first ≡ printed_refusal r) × (line_of first ≡ line_of r)
