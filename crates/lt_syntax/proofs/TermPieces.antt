-- What is left to write of a term: pieces, the next one last.
use Rattle.std.proofs.Common.{◌≡◌, ℕ, ◌+◌, ◌*◌, ◌<◌, List, [], ◌∷◌, ◌++◌, Bool, true, false, length, drop, codes, decimal, refl, sym, ◌∙◌, ap, subst, arith, append_assoc, append-nil}
use Rattle.lt_terms.specs.declared.term.TermNode.{TermNode}
use Rattle.lt_terms.specs.declared.term.TermNode.TheVariants.{Free, Bound, Const, App, Lam}
use Rattle.lt_definitions.specs.Types.{Chars}
use Rattle.lt_definitions.specs.Printing.{printed_type, printed_bound, printed_constant, printed_part}
use Rattle.lt_terms.specs.Layout.{term_size}
use Rattle.lt_syntax.specs.declared.pieces.Piece.{Piece}
use Rattle.lt_syntax.specs.declared.pieces.Piece.TheVariants.{Head, Argument, Bracket, End}
use Rattle.lt_syntax.specs.TermText.{term_front, later_pieces, binders_within}
use Rattle.lt_terms.proofs.TermPlaces.{term_at, tree_of, IsWithin, IsPlace}

-- what a piece shows under binders, and the binders behind it
abbrev pub piece_text : List TermNode → List Chars → Piece → Chars
piece_text nodes bs (Head at) = printed_part true bs (term_at nodes at)
piece_text nodes bs (Argument at) = codes " " ++ printed_part false bs (term_at nodes at)
piece_text nodes bs Bracket = codes ")"
piece_text nodes bs End = codes ")"

abbrev pub behind : Piece → List Chars → List Chars
behind End bs = drop 1 bs
behind piece bs = bs

-- the binders behind pieces, and what pieces show
abbrev pub outer : List Chars → List Piece → List Chars
outer bs [] = bs
outer bs (p ∷ pieces) = behind p (outer bs pieces)

abbrev pub shown : List TermNode → List Chars → List Piece → Chars
shown nodes bs [] = []
shown nodes bs (p ∷ pieces) = shown nodes bs pieces ++ piece_text nodes (outer bs pieces) p

outer-append : (bs : List Chars) (pieces more : List Piece) → outer bs (pieces ++ more) ≡ outer (outer bs more) pieces
outer-append bs [] more = refl
outer-append bs (p ∷ pieces) more = ap (behind p) (outer-append bs pieces more)

shown-append : (nodes : List TermNode) (bs : List Chars) (pieces more : List Piece) → shown nodes bs (pieces ++ more) ≡ shown nodes bs more ++ shown nodes (outer bs more) pieces
shown-append nodes bs [] more = sym (append-nil (shown nodes bs more))
shown-append nodes bs (p ∷ pieces) more =
    (λ i. shown-append nodes bs pieces more i ++ piece_text nodes (outer-append bs pieces more i) p)
    ∙ append_assoc (shown nodes bs more) (shown nodes (outer bs more) pieces) (piece_text nodes (outer (outer bs more) pieces) p)

-- a term is what its root shows, and then its pieces, behind which the binders are as before
begun : (nodes : List TermNode) (is_head : Bool) (bs : List Chars) (n : TermNode)
    → printed_part is_head bs (tree_of nodes n) ≡ term_front is_head bs n ++ shown nodes (binders_within bs n) (later_pieces is_head n)
begun nodes true bs (Free x ty) = sym (append-nil (printed_part true bs (tree_of nodes (Free x ty))))
begun nodes false bs (Free x ty) = sym (append-nil (printed_part false bs (tree_of nodes (Free x ty))))
begun nodes true bs (Bound x) = sym (append-nil (codes "%" ++ printed_bound x bs))
begun nodes false bs (Bound x) = sym (append-nil (codes "%" ++ printed_bound x bs))
begun nodes true bs (Const c ts) = sym (append-nil (printed_constant c ts))
begun nodes false bs (Const c ts) = sym (append-nil (printed_constant c ts))
begun nodes true bs (App f a) = refl
begun nodes false bs (App f a) = refl
begun nodes true bs (Lam x ty b) = binder (decimal (length bs)) (printed_type ty) (printed_part false (x ∷ bs) (term_at nodes b))
  where
    binder : (d t s : Chars) → codes "(\\x" ++ (d ++ (codes " " ++ (t ++ (codes " " ++ (s ++ codes ")"))))) ≡ (codes "(\\x" ++ (d ++ (codes " " ++ t))) ++ ((codes " " ++ s) ++ codes ")")
    binder d t s = simp append_assoc
begun nodes false bs (Lam x ty b) = binder (decimal (length bs)) (printed_type ty) (printed_part false (x ∷ bs) (term_at nodes b))
  where
    binder : (d t s : Chars) → codes "(\\x" ++ (d ++ (codes " " ++ (t ++ (codes " " ++ (s ++ codes ")"))))) ≡ (codes "(\\x" ++ (d ++ (codes " " ++ t))) ++ ((codes " " ++ s) ++ codes ")")
    binder d t s = simp append_assoc

begun-outer : (is_head : Bool) (bs : List Chars) (n : TermNode) → outer (binders_within bs n) (later_pieces is_head n) ≡ bs
begun-outer true bs (Free x ty) = refl
begun-outer false bs (Free x ty) = refl
begun-outer true bs (Bound x) = refl
begun-outer false bs (Bound x) = refl
begun-outer true bs (Const c ts) = refl
begun-outer false bs (Const c ts) = refl
begun-outer true bs (App f a) = refl
begun-outer false bs (App f a) = refl
begun-outer true bs (Lam x ty b) = refl
begun-outer false bs (Lam x ty b) = refl

-- how much work pieces are
abbrev pub weight : List TermNode → Piece → ℕ
weight nodes (Head at) = 2 * term_size (term_at nodes at)
weight nodes (Argument at) = 2 * term_size (term_at nodes at)
weight nodes Bracket = 1
weight nodes End = 1

abbrev pub weights : List TermNode → List Piece → ℕ
weights nodes [] = 0
weights nodes (p ∷ pieces) = weights nodes pieces + weight nodes p

weights-append : (nodes : List TermNode) (pieces more : List Piece) → weights nodes (pieces ++ more) ≡ weights nodes pieces + weights nodes more
weights-append nodes [] more = omega arith
weights-append nodes (p ∷ pieces) more = omega (arith, weights-append nodes pieces more)

begun-less : (nodes : List TermNode) (is_head : Bool) (n : TermNode) → weights nodes (later_pieces is_head n) < 2 * term_size (tree_of nodes n)
begun-less nodes true (Free x ty) = omega arith
begun-less nodes false (Free x ty) = omega arith
begun-less nodes true (Bound x) = omega arith
begun-less nodes false (Bound x) = omega arith
begun-less nodes true (Const c ts) = omega arith
begun-less nodes false (Const c ts) = omega arith
begun-less nodes true (App f a) = omega arith
begun-less nodes false (App f a) = omega arith
begun-less nodes true (Lam x ty b) = omega arith
begun-less nodes false (Lam x ty b) = omega arith

-- the places of pieces are places of the term
abbrev pub IsBelow : ℕ → Piece → Type 0
IsBelow n (Head at) = at < n
IsBelow n (Argument at) = at < n
IsBelow n Bracket = Unit {0}
IsBelow n End = Unit {0}

abbrev pub AreBelow : ℕ → List Piece → Type 0
AreBelow n [] = Unit {0}
AreBelow n (p ∷ pieces) = IsBelow n p × AreBelow n pieces

below-append : (n : ℕ) (pieces more : List Piece) → AreBelow n pieces → AreBelow n more → AreBelow n (pieces ++ more)
below-append n [] more h k = k
below-append n (p ∷ pieces) more h k = (h.0, below-append n pieces more h.1 k)

below-front : (n : ℕ) (pieces more : List Piece) → AreBelow n (pieces ++ more) → AreBelow n pieces
below-front n [] more h = tt
below-front n (p ∷ pieces) more h = (h.0, below-front n pieces more h.1)

below-back : (n : ℕ) (pieces more : List Piece) → AreBelow n (pieces ++ more) → AreBelow n more
below-back n [] more h = h
below-back n (p ∷ pieces) more h = below-back n pieces more h.1

begun-below : (n : ℕ) (is_head : Bool) (node : TermNode) → IsWithin n node → AreBelow n (later_pieces is_head node)
begun-below n true (Free x ty) h = tt
begun-below n false (Free x ty) h = tt
begun-below n true (Bound x) h = tt
begun-below n false (Bound x) h = tt
begun-below n true (Const c ts) h = tt
begun-below n false (Const c ts) h = tt
begun-below n true (App f a) h = (h.1, (h.0, tt))
begun-below n false (App f a) h = (tt, (h.1, (h.0, tt)))
begun-below n true (Lam x ty b) h = (tt, (h, tt))
begun-below n false (Lam x ty b) h = (tt, (h, tt))

-- What was written, and what the pieces show under the binders, is the whole text.
pub record IsWriting (nodes : List TermNode) (whole written : Chars) (bs : List Chars) (pieces : List Piece) : Type 0 where
  pub text : written ++ shown nodes bs pieces ≡ whole
  pub within : AreBelow (length nodes) pieces

pub starts : (nodes : List TermNode) (at : ℕ) (n : TermNode) (before written : Chars) (bs inner : List Chars) (pieces : List Piece) → IsPlace nodes at n
    → written ≡ before ++ term_front false bs n → inner ≡ binders_within bs n → pieces ≡ later_pieces false n
    → IsWriting nodes (before ++ printed_part false bs (term_at nodes at)) written inner pieces
starts nodes at n before written bs inner pieces p w b r = record {
  text = (λ i. w i ++ shown nodes (b i) (r i)) ∙ append_assoc before (term_front false bs n) (shown nodes (binders_within bs n) (later_pieces false n))
      ∙ ap (λ s. before ++ s) (sym (ap (printed_part false bs) p.tree ∙ begun nodes false bs n));
  within = subst (AreBelow (length nodes)) (sym r) (begun-below (length nodes) false n p.within);
}

-- a piece that is a place is begun
goes : (nodes : List TermNode) (whole written spaced more space : Chars) (bs inner : List Chars) (pieces left later : List Piece) (piece : Piece) (is_head : Bool) (at : ℕ) (n : TermNode)
    → IsWriting nodes whole written bs pieces → pieces ≡ left ++ piece ∷ [] → piece_text nodes bs piece ≡ space ++ printed_part is_head bs (term_at nodes at) → behind piece bs ≡ bs
    → IsPlace nodes at n → spaced ≡ written ++ space → more ≡ spaced ++ term_front is_head bs n → inner ≡ binders_within bs n → later ≡ left ++ later_pieces is_head n
    → IsWriting nodes whole more inner later
goes nodes whole written spaced more space bs inner pieces left later piece is_head at n h e shows stays p s w b r = record {
  text = (λ i. (w ∙ ap (λ x. x ++ term_front is_head bs n) s) i ++ (spread i))
      ∙ regroup written space (term_front is_head bs n) (shown nodes (binders_within bs n) (later_pieces is_head n)) (shown nodes bs left)
      ∙ ap (λ x. written ++ (x ++ shown nodes bs left)) (ap (λ x. space ++ x) (sym (ap (printed_part is_head bs) p.tree ∙ begun nodes is_head bs n)) ∙ sym shows)
      ∙ ap (λ x. written ++ x) (sym before)
      ∙ h.text;
  within = subst (AreBelow (length nodes)) (sym r)
      (below-append (length nodes) left (later_pieces is_head n) (below-front (length nodes) left (piece ∷ []) (subst (AreBelow (length nodes)) e h.within)) (begun-below (length nodes) is_head n p.within));
}
  where
    spread : shown nodes inner later ≡ shown nodes (binders_within bs n) (later_pieces is_head n) ++ shown nodes bs left
    spread = (λ i. shown nodes (b i) (r i)) ∙ shown-append nodes (binders_within bs n) left (later_pieces is_head n)
        ∙ ap (λ (o : List Chars). shown nodes (binders_within bs n) (later_pieces is_head n) ++ shown nodes o left) (begun-outer is_head bs n)

    before : shown nodes bs pieces ≡ piece_text nodes bs piece ++ shown nodes bs left
    before = ap (shown nodes bs) e ∙ shown-append nodes bs left (piece ∷ []) ∙ ap (λ (o : List Chars). piece_text nodes bs piece ++ shown nodes o left) stays

    regroup : (a b c d f : Chars) → ((a ++ b) ++ c) ++ (d ++ f) ≡ a ++ ((b ++ (c ++ d)) ++ f)
    regroup a b c d f = simp append_assoc

-- a piece that is a bracket is written
pub closes : (nodes : List TermNode) (whole written more : Chars) (bs inner : List Chars) (pieces left : List Piece) (piece : Piece) → IsWriting nodes whole written bs pieces
    → pieces ≡ left ++ piece ∷ [] → more ≡ written ++ piece_text nodes bs piece → inner ≡ behind piece bs → IsWriting nodes whole more inner left
closes nodes whole written more bs inner pieces left piece h e w b = record {
  text = (λ i. w i ++ shown nodes (b i) left) ∙ append_assoc written (piece_text nodes bs piece) (shown nodes (behind piece bs) left)
      ∙ ap (λ x. written ++ x) (sym (ap (shown nodes bs) e ∙ shown-append nodes bs left (piece ∷ [])))
      ∙ h.text;
  within = below-front (length nodes) left (piece ∷ []) (subst (AreBelow (length nodes)) e h.within);
}

pub closes-less : (nodes : List TermNode) (pieces left : List Piece) (piece : Piece) → pieces ≡ left ++ piece ∷ [] → 0 < weight nodes piece → weights nodes left < weights nodes pieces
closes-less nodes pieces left piece e some = omega (arith, ap (weights nodes) e, weights-append nodes left (piece ∷ []))

pub goes-less : (nodes : List TermNode) (pieces left later : List Piece) (piece : Piece) (is_head : Bool) (at : ℕ) (n : TermNode) → pieces ≡ left ++ piece ∷ []
    → weight nodes piece ≡ 2 * term_size (term_at nodes at) → IsPlace nodes at n → later ≡ left ++ later_pieces is_head n → weights nodes later < weights nodes pieces
goes-less nodes pieces left later piece is_head at n e same p r =
    omega (arith, ap (weights nodes) e, weights-append nodes left (piece ∷ []), ap (weights nodes) r, weights-append nodes left (later_pieces is_head n), begun-less nodes is_head n, ap term_size p.tree)

-- the place of a piece is below the term's length
pub last-below : (nodes : List TermNode) (whole written : Chars) (bs : List Chars) (pieces left : List Piece) (piece : Piece) → IsWriting nodes whole written bs pieces
    → pieces ≡ left ++ piece ∷ [] → IsBelow (length nodes) piece
last-below nodes whole written bs pieces left piece h e =
    (below-back (length nodes) left (piece ∷ []) (subst (AreBelow (length nodes)) e h.within)).0

pub goes-head : (nodes : List TermNode) (whole written more : Chars) (bs inner : List Chars) (pieces left later : List Piece) (at : ℕ) (n : TermNode) → IsWriting nodes whole written bs pieces
    → pieces ≡ left ++ Head at ∷ [] → IsPlace nodes at n → more ≡ written ++ term_front true bs n → inner ≡ binders_within bs n → later ≡ left ++ later_pieces true n
    → IsWriting nodes whole more inner later
goes-head nodes whole written more bs inner pieces left later at n h e p w b r =
    goes nodes whole written written more [] bs inner pieces left later (Head at) true at n h e refl refl p (sym (append-nil written)) w b r

pub goes-argument : (nodes : List TermNode) (whole written spaced more : Chars) (bs inner : List Chars) (pieces left later : List Piece) (at : ℕ) (n : TermNode) → IsWriting nodes whole written bs pieces
    → pieces ≡ left ++ Argument at ∷ [] → IsPlace nodes at n → spaced ≡ written ++ codes " " → more ≡ spaced ++ term_front false bs n → inner ≡ binders_within bs n → later ≡ left ++ later_pieces false n
    → IsWriting nodes whole more inner later
goes-argument nodes whole written spaced more bs inner pieces left later at n h e p s w b r =
    goes nodes whole written spaced more (codes " ") bs inner pieces left later (Argument at) false at n h e refl refl p s w b r
