use Rattle.std.proofs.Common.{◌≡◌, ◌∙◌, ◌-◌, ◌<◌, ◌≤◌, ℕ, List, [], ◌∷◌, ◌++◌, length, take, drop, get_or, refl, ap, subst, arith}
use Rattle.std.proofs.Math.Seq.{take-length}
use Rattle.std.specs.Borrow.{Bor}
use Rattle.lt_definitions.specs.Printing.{printed_type}
use Rattle.lt_types.specs.Layout.{below, type_nodes}
use Rattle.lt_types.proofs.LayoutLemmas.{length-type_nodes}
use Rattle.lt_syntax.specs.TypeText.{argument_rows, targets}
use Rattle.lt_types.proofs.TypePlaces.{type_at, type_at-last, place}
use Rattle.lt_syntax.proofs.TypePieces.{IsWriting, starts, closes, closes-less, first-below, goes, goes-less}
use Rattle.lt_syntax.proofs.types.write_type.Goals as goal

empty : (row : List ℕ) → length row < 1 → row ≡ []
empty [] h = refl
empty (i ∷ places) h = absurd (omega arith)

parted : (row : List ℕ) → 1 ≤ length row → row ≡ get_or row 0 0 ∷ drop 1 row
parted [] h = absurd (omega arith)
parted (i ∷ places) h = refl

tail : (row : List ℕ) → take (length row - 1) (drop 1 row) ≡ drop 1 row
tail [] = refl
tail (i ∷ places) = let e : length (i ∷ places) - 1 ≡ length places = omega arith in ap (λ k. take k places) e ∙ take-length places

targets-append : (rows more : List (Bor (List ℕ))) → targets (rows ++ more) ≡ targets rows ++ targets more
targets-append [] more = refl
targets-append (r ∷ rows) more = ap (λ (rs : List (List ℕ)). r.now ∷ rs) (targets-append rows more)

-- the last row, as a list
last : (rows left : List (Bor (List ℕ))) (row : Bor (List ℕ)) (places : List ℕ) → rows ≡ left ++ row ∷ [] → row.now ≡ places → targets rows ≡ targets left ++ places ∷ []
last rows left row places e p = ap targets e ∙ targets-append left (row ∷ []) ∙ ap (λ (r : List ℕ). targets left ++ r ∷ []) p

pub loop-row-init : goal.loop-row-init
loop-row-init c =
    let at : c.len.result - 1 ≡ below c.args.ty.now = omega (arith, c.len.ensures) in
    subst (λ t. IsWriting (type_nodes 0 c.args.ty.now) (c.args.text.now ++ printed_type t) c.begin_type.new.text (targets c.begin_type.new.rows.items))
    (ap (type_at (type_nodes 0 c.args.ty.now)) at ∙ type_at-last c.args.ty.now)
    (starts (type_nodes 0 c.args.ty.now) (c.len.result - 1) c.node.result.now c.args.text.now c.begin_type.new.text (targets c.begin_type.new.rows.items)
    (place c.args.ty.now (c.len.result - 1) c.node.result.now c.node.ensures) c.in_ok-begin_type.ensures.text
    (c.in_ok-begin_type.ensures.rows ∙ ap (λ (rows : List (Bor (List ℕ))). targets rows ++ argument_rows c.node.result.now) c.new-rows.ensures.items))

pub loop-row-smaller-then-row-lt1 : goal.loop-row-smaller-then-row-lt1
loop-row-smaller-then-row-lt1 c =
    closes-less (type_nodes 0 c.args.ty.now) (targets c.loop-row.rows.items) (targets c.pop.new.self.items)
    (last c.loop-row.rows.items c.pop.new.self.items c.in-Some.row [] c.in-Some.ensures.items (empty c.in-Some.row.now c.in-empty.len_below))

pub loop-row-preserved-then-row-lt1 : goal.loop-row-preserved-then-row-lt1
loop-row-preserved-then-row-lt1 c =
    closes _ _ _ _ _ _ c.loop-row.invariant
    (last c.loop-row.rows.items c.pop.new.self.items c.in-Some.row [] c.in-Some.ensures.items (empty c.in-Some.row.now c.in-empty.len_below))
    c.in_ok-signs-in-empty.ensures

pub node-requires-in-len1-up : goal.node-requires-in-len1-up
node-requires-in-len1-up c =
    omega (
      arith,
      length-type_nodes 0 c.args.ty.now,
      first-below _ _ _ _ _ (get_or c.in-Some.row.now 0 0) (drop 1 c.in-Some.row.now) c.loop-row.invariant
          (last c.loop-row.rows.items c.pop.new.self.items c.in-Some.row (get_or c.in-Some.row.now 0 0 ∷ drop 1 c.in-Some.row.now) c.in-Some.ensures.items (parted c.in-Some.row.now c.in-len1-up.len_at_least)),
    )

pub loop-row-smaller : goal.loop-row-smaller
loop-row-smaller c =
    goes-less (type_nodes 0 c.args.ty.now) (targets c.loop-row.rows.items) (targets c.pop.new.self.items) (targets c.begin_type-in-len1-up.new.rows.items)
    (get_or c.in-Some.row.now 0 0) (drop 1 c.in-Some.row.now) c.node-in-len1-up.result.now
    (last c.loop-row.rows.items c.pop.new.self.items c.in-Some.row (get_or c.in-Some.row.now 0 0 ∷ drop 1 c.in-Some.row.now) c.in-Some.ensures.items (parted c.in-Some.row.now c.in-len1-up.len_at_least))
    (place c.args.ty.now (get_or c.in-Some.row.now 0 0) c.node-in-len1-up.result.now c.node-in-len1-up.ensures)
    (c.in_ok-begin_type-in-len1-up.ensures.rows
    ∙ ap (λ (rows : List (List ℕ)). rows ++ argument_rows c.node-in-len1-up.result.now)
    (last c.push.new.self.items c.pop.new.self.items _ (drop 1 c.in-Some.row.now) c.in_ok-push-in-len1-up.ensures.items (tail c.in-Some.row.now)))

pub loop-row-preserved : goal.loop-row-preserved
loop-row-preserved c =
    goes _ _ _ _ _ _ (targets c.pop.new.self.items) _ (get_or c.in-Some.row.now 0 0) (drop 1 c.in-Some.row.now) c.node-in-len1-up.result.now c.loop-row.invariant
    (last c.loop-row.rows.items c.pop.new.self.items c.in-Some.row (get_or c.in-Some.row.now 0 0 ∷ drop 1 c.in-Some.row.now) c.in-Some.ensures.items (parted c.in-Some.row.now c.in-len1-up.len_at_least))
    (place c.args.ty.now (get_or c.in-Some.row.now 0 0) c.node-in-len1-up.result.now c.node-in-len1-up.ensures)
    c.in_ok-signs-in-len1-up.ensures c.in_ok-begin_type-in-len1-up.ensures.text
    (c.in_ok-begin_type-in-len1-up.ensures.rows
    ∙ ap (λ (rows : List (List ℕ)). rows ++ argument_rows c.node-in-len1-up.result.now)
    (last c.push.new.self.items c.pop.new.self.items _ (drop 1 c.in-Some.row.now) c.in_ok-push-in-len1-up.ensures.items (tail c.in-Some.row.now)))
