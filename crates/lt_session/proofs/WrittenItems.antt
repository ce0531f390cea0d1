-- The items of a block, written one after another.
use Rattle.std.proofs.Common.{◌≡◌, ℕ, suc, ◌+◌, ◌<◌, List, [], ◌∷◌, ◌++◌, length, take, drop, get_or, Option, Bool, sym, ◌∙◌, ap, subst, arith, append-nil}
use Rattle.std.specs.Prelude.{encode_utf8_all}
use Rattle.std.specs.List.{flat_map}
use Rattle.std.proofs.lemmas.Str.{encodes-append}
use Rattle.std.proofs.lemmas.Grind.{flat_map-append}
use Rattle.std.proofs.lemmas.List.{map-append, take-append-drop}
use Rattle.std.proofs.Math.Seq.{take-suc}
use Rattle.lt_definitions.specs.Items.{Item}
use Rattle.lt_hol.specs.declared.item.Item.{Item as ItemData}
use Rattle.lt_hol.specs.Items.{item_of}
use Rattle.lt_io.specs.Written.{Grew, GrewByFront}
use Rattle.lt_io.proofs.WriteLemmas.{Grew-append}
use Rattle.lt_extend.specs.Theories.{items_of}
use Rattle.lt_session.specs.Running.{written_item, written_items}
use Rattle.lt_session.proofs.Fronts.{front_behind, front_longer}

pub items-both : (summary : Bool) (items more : List Item) → written_items summary (items ++ more) ≡ written_items summary items ++ written_items summary more
items-both summary items more =
    ap encode_utf8_all (flat_map-append (written_item summary) items more) ∙ encodes-append (flat_map (written_item summary) items) (flat_map (written_item summary) more)

one-item : (summary : Bool) (item : Item) → written_items summary (item ∷ []) ≡ encode_utf8_all (written_item summary item)
one-item summary item = ap encode_utf8_all (append-nil (written_item summary item))

-- one more item of a block
item-next : (summary : Bool) (block : List ItemData) (i : ℕ) (item : ItemData) → i < length block → item ≡ get_or block i item
    → written_items summary (items_of (take (i + 1) block)) ≡ written_items summary (items_of (take i block)) ++ encode_utf8_all (written_item summary (item_of item))
item-next summary block i item within is =
    let next : i + 1 ≡ suc i = omega arith in
    let taken : take (i + 1) block ≡ take i block ++ item ∷ [] =
    ap (λ (k : ℕ). take k block) next ∙ take-suc block i item within ∙ ap (λ (x : ItemData). take i block ++ x ∷ []) (sym is) in
    ap (λ (xs : List ItemData). written_items summary (items_of xs)) taken
    ∙ ap (written_items summary) (map-append item_of (take i block) (item ∷ []))
    ∙ items-both summary (items_of (take i block)) (item_of item ∷ [])
    ∙ ap (λ (z : List ℕ). written_items summary (items_of (take i block)) ++ z) (one-item summary (item_of item))

pub item_written : (summary : Bool) (block : List ItemData) (i : ℕ) (item : ItemData) (a b c : Option (List ℕ)) → i < length block → item ≡ get_or block i item
    → Grew a b (written_items summary (items_of (take i block))) → Grew b c (encode_utf8_all (written_item summary (item_of item)))
    → Grew a c (written_items summary (items_of (take (i + 1) block)))
item_written summary block i item a b c within is before grew =
    subst (λ (z : List ℕ). Grew a c z) (sym (item-next summary block i item within is))
    (Grew-append a b c (written_items summary (items_of (take i block))) (encode_utf8_all (written_item summary (item_of item))) before grew)

-- cut in an item
pub item_cut : (summary : Bool) (block : List ItemData) (i : ℕ) (item : ItemData) (a b c : Option (List ℕ)) → i < length block → item ≡ get_or block i item
    → Grew a b (written_items summary (items_of (take i block))) → GrewByFront b c (encode_utf8_all (written_item summary (item_of item)))
    → GrewByFront a c (written_items summary (items_of block))
item_cut summary block i item a b c within is before front =
    let first = take (i + 1) block in
    let rest = drop (i + 1) block in
    let whole : written_items summary (items_of block) ≡ written_items summary (items_of first) ++ written_items summary (items_of rest) =
    ap (λ (xs : List ItemData). written_items summary (items_of xs)) (sym (take-append-drop (i + 1) block))
    ∙ ap (written_items summary) (map-append item_of first rest)
    ∙ items-both summary (items_of first) (items_of rest) in
    let here : GrewByFront a c (written_items summary (items_of first)) =
    subst (λ (z : List ℕ). GrewByFront a c z) (sym (item-next summary block i item within is))
    (front_behind a b c (written_items summary (items_of (take i block))) (encode_utf8_all (written_item summary (item_of item))) before front) in
    subst (λ (z : List ℕ). GrewByFront a c z) (sym whole) (front_longer a c (written_items summary (items_of first)) (written_items summary (items_of rest)) here)
