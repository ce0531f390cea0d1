use Rattle.std.proofs.Common.{◌≡◌, ◌∙◌, ◌-◌, ◌++◌, ◌∷◌, [], true, false, List, ◌<◌, length, ap, subst, refl, arith}
use Rattle.lt_definitions.specs.Types.{Chars}
use Rattle.lt_definitions.specs.Printing.{printed_term}
use Rattle.lt_terms.specs.Layout.{under, term_nodes}
use Rattle.lt_terms.proofs.LayoutLemmas.{length-term_nodes}
use Rattle.lt_syntax.specs.declared.pieces.Piece.{Piece}
use Rattle.lt_syntax.specs.declared.pieces.Piece.TheVariants.{Head, Argument, Bracket, End}
use Rattle.lt_syntax.specs.TermText.{term_front, later_pieces, binders_within}
use Rattle.lt_terms.proofs.TermPlaces.{term_at, term_at-last, place}
use Rattle.lt_syntax.proofs.TermPieces.{IsWriting, starts, closes, closes-less, goes-less, goes-head, goes-argument, last-below}
use Rattle.lt_syntax.proofs.terms.write_term.Goals as goal

pub loop-piece-init : goal.loop-piece-init
loop-piece-init c =
    let at : c.len.result - 1 ≡ under c.args.term.now = omega (arith, c.len.ensures) in
    subst (λ t. IsWriting (term_nodes 0 c.args.term.now) (c.args.text.now ++ printed_term [] t) c.begin_term.new.text c.in_ok-binders.binders c.begin_term.new.pieces.items)
    (ap (term_at (term_nodes 0 c.args.term.now)) at ∙ term_at-last c.args.term.now)
    (starts (term_nodes 0 c.args.term.now) (c.len.result - 1) c.node-root.result.now c.args.text.now c.begin_term.new.text [] c.in_ok-binders.binders c.begin_term.new.pieces.items
    (place c.args.term.now (c.len.result - 1) c.node-root.result.now c.node-root.ensures)
    (c.in_ok-binders.ensures.text ∙ ap (λ (bs : List Chars). c.args.text.now ++ term_front false bs c.node-root.result.now) c.new.ensures)
    (c.in_ok-binders.ensures.binders ∙ ap (λ (bs : List Chars). binders_within bs c.node-root.result.now) c.new.ensures)
    (c.in_ok-binders.ensures.pieces ∙ ap (λ (ps : List Piece). ps ++ later_pieces false c.node-root.result.now) c.new-pieces.ensures.items))

last : (pieces left : List Piece) (piece same : Piece) → pieces ≡ left ++ piece ∷ [] → piece ≡ same → pieces ≡ left ++ same ∷ []
last pieces left piece same e p = e ∙ ap (λ (q : Piece). left ++ q ∷ []) p

pub node-requires : goal.node-requires
node-requires c =
    let below : c.in-Head.at < length (term_nodes 0 c.args.term.now) =
    last-below _ _ _ _ _ _ (Head c.in-Head.at) c.loop-piece.invariant (last _ _ _ _ c.in-Some.ensures.items c.in-Head.is)
    in omega (arith, length-term_nodes 0 c.args.term.now)

pub loop-piece-smaller-in-Head : goal.loop-piece-smaller-in-Head
loop-piece-smaller-in-Head c =
    goes-less (term_nodes 0 c.args.term.now) c.loop-piece.pieces.items c.pop.new.self.items c.begin_term-in-Head.new.pieces.items (Head c.in-Head.at) true c.in-Head.at c.node.result.now
    (last _ _ _ _ c.in-Some.ensures.items c.in-Head.is) refl (place c.args.term.now c.in-Head.at c.node.result.now c.node.ensures) c.in_ok-binders-in-Head.ensures.pieces

pub loop-piece-preserved-in-Head : goal.loop-piece-preserved-in-Head
loop-piece-preserved-in-Head c =
    goes-head _ _ _ _ _ _ _ c.pop.new.self.items _ c.in-Head.at c.node.result.now c.loop-piece.invariant
    (last _ _ _ _ c.in-Some.ensures.items c.in-Head.is) (place c.args.term.now c.in-Head.at c.node.result.now c.node.ensures)
    c.in_ok-binders-in-Head.ensures.text c.in_ok-binders-in-Head.ensures.binders c.in_ok-binders-in-Head.ensures.pieces

pub node-requires-in-Argument : goal.node-requires-in-Argument
node-requires-in-Argument c =
    let below : c.in-Argument.at < length (term_nodes 0 c.args.term.now) =
    last-below _ _ _ _ _ _ (Argument c.in-Argument.at) c.loop-piece.invariant (last _ _ _ _ c.in-Some.ensures.items c.in-Argument.is)
    in omega (arith, length-term_nodes 0 c.args.term.now)

pub loop-piece-smaller-in-Argument : goal.loop-piece-smaller-in-Argument
loop-piece-smaller-in-Argument c =
    goes-less (term_nodes 0 c.args.term.now) c.loop-piece.pieces.items c.pop.new.self.items c.begin_term-in-Argument.new.pieces.items (Argument c.in-Argument.at) false c.in-Argument.at c.node-in-Argument.result.now
    (last _ _ _ _ c.in-Some.ensures.items c.in-Argument.is) refl (place c.args.term.now c.in-Argument.at c.node-in-Argument.result.now c.node-in-Argument.ensures) c.in_ok-binders-in-Argument.ensures.pieces

pub loop-piece-preserved-in-Argument : goal.loop-piece-preserved-in-Argument
loop-piece-preserved-in-Argument c =
    goes-argument _ _ _ _ _ _ _ _ c.pop.new.self.items _ c.in-Argument.at c.node-in-Argument.result.now c.loop-piece.invariant
    (last _ _ _ _ c.in-Some.ensures.items c.in-Argument.is) (place c.args.term.now c.in-Argument.at c.node-in-Argument.result.now c.node-in-Argument.ensures)
    c.in_ok-signs-in-Argument.ensures c.in_ok-binders-in-Argument.ensures.text c.in_ok-binders-in-Argument.ensures.binders c.in_ok-binders-in-Argument.ensures.pieces

pub loop-piece-smaller-in-Continue-branch-5 : goal.loop-piece-smaller-in-Continue-branch-5
loop-piece-smaller-in-Continue-branch-5 c =
    closes-less (term_nodes 0 c.args.term.now) c.loop-piece.pieces.items c.pop.new.self.items Bracket (last _ _ _ _ c.in-Some.ensures.items c.in-Bracket.is) (omega arith)

pub loop-piece-preserved-in-Continue-branch-5 : goal.loop-piece-preserved-in-Continue-branch-5
loop-piece-preserved-in-Continue-branch-5 c =
    closes _ _ _ _ _ _ _ c.pop.new.self.items Bracket c.loop-piece.invariant (last _ _ _ _ c.in-Some.ensures.items c.in-Bracket.is) c.in_ok-signs-in-Bracket.ensures refl

pub loop-piece-smaller : goal.loop-piece-smaller
loop-piece-smaller c =
    closes-less (term_nodes 0 c.args.term.now) c.loop-piece.pieces.items c.pop.new.self.items End (last _ _ _ _ c.in-Some.ensures.items c.in-End.is) (omega arith)

pub loop-piece-preserved : goal.loop-piece-preserved
loop-piece-preserved c =
    closes _ _ _ _ _ _ _ c.pop.new.self.items End c.loop-piece.invariant (last _ _ _ _ c.in-Some.ensures.items c.in-End.is) c.in_ok-signs-in-End.ensures c.in_ok-binders-in-End.ensures
