-- What the first sink gets, item by item.
use Rattle.std.proofs.Common.{◌≡◌, ℕ, List, [], ◌∷◌, ◌++◌, Option, refl, sym, ◌∙◌, ap, subst, append_assoc, append-nil}
use Rattle.std.specs.Prelude.{encode_utf8_all}
use Rattle.std.proofs.lemmas.Str.{encodes-append}
use Rattle.std.proofs.lemmas.Grind.{flat_map-append}
use Rattle.lt_definitions.specs.Items.{Item}
use Rattle.lt_definitions.specs.Theory.{Refusal}
use Rattle.lt_definitions.specs.Printing.{summary_line, summary_lines, count_line}
use Rattle.lt_io.specs.Written.{GrewByFront}
use Rattle.lt_walks.specs.Walks.{End, accepted, too_long, wrong_header, unread, refused}
use Rattle.lt_walks.specs.Outputs.{summary_of}
use Rattle.lt_session.proofs.Fronts.{front_longer}

-- the bytes of summary lines
abbrev pub lines_of : List Item → List ℕ
lines_of items = encode_utf8_all (summary_lines items)

pub lines_more : (items : List Item) (i : Item) → lines_of (items ++ i ∷ []) ≡ lines_of items ++ encode_utf8_all (summary_line i)
lines_more items i =
    ap encode_utf8_all (flat_map-append summary_line items (i ∷ []))
    ∙ encodes-append (summary_lines items) (summary_lines (i ∷ []))
    ∙ ap (λ (z : List ℕ). lines_of items ++ encode_utf8_all z) (append-nil (summary_line i))

lines_both : (items more : List Item) → lines_of (items ++ more) ≡ lines_of items ++ lines_of more
lines_both items more = ap encode_utf8_all (flat_map-append summary_line items more) ∙ encodes-append (summary_lines items) (summary_lines more)

pub summary_accepted : (items : List Item) → summary_of {R = Refusal} items accepted ≡ lines_of items ++ encode_utf8_all (count_line items)
unfolding summary_of
summary_accepted items = encodes-append (summary_lines items) (count_line items)

-- what a summary has behind the lines of the first items
pub summary_front : (items more : List Item) (end : End Refusal) → (rest : List ℕ) × (summary_of (items ++ more) end ≡ lines_of items ++ rest)
unfolding summary_of
summary_front items more accepted = (
  lines_of more ++ encode_utf8_all (count_line (items ++ more)),
  encodes-append (summary_lines (items ++ more)) (count_line (items ++ more)) ∙ ap (λ (z : List ℕ). z ++ encode_utf8_all (count_line (items ++ more))) (lines_both items more)
      ∙ append_assoc (lines_of items) (lines_of more) (encode_utf8_all (count_line (items ++ more))),
)
summary_front items more too_long = (lines_of more, lines_both items more)
summary_front items more (wrong_header e) = (lines_of more, lines_both items more)
summary_front items more (unread e) = (lines_of more, lines_both items more)
summary_front items more (refused r place) = (lines_of more, lines_both items more)

-- where all isn't accepted, a summary is the lines of the items
abbrev pub IsNotAccepted : End Refusal → Type 0
IsNotAccepted accepted = ⊥
IsNotAccepted end = Unit {0}

pub summary_refused : (items : List Item) (end : End Refusal) → IsNotAccepted end → summary_of items end ≡ lines_of items
unfolding summary_of
summary_refused items accepted h = absurd h
summary_refused items too_long h = refl
summary_refused items (wrong_header e) h = refl
summary_refused items (unread e) h = refl
summary_refused items (refused r place) h = refl

-- the lines of the first items are a front of the summary
pub front_of_lines : (items more : List Item) (end : End Refusal) (a b : Option (List ℕ)) → GrewByFront a b (lines_of items) → GrewByFront a b (summary_of (items ++ more) end)
front_of_lines items more end a b h =
    let s = summary_front items more end in
    subst (λ (z : List ℕ). GrewByFront a b z) (sym s.1) (front_longer a b (lines_of items) s.0 h)
