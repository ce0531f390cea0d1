-- A text has one walk.
use Rattle.std.proofs.Common.{◌≡◌, inl, inr, ℕ, List, [], ◌∷◌, refl, sym, ◌∙◌, ap, subst, arith}
use Rattle.lt_definitions.specs.Items.{Item}
use Rattle.lt_texts.specs.Texts.{Left, left_of}
use Rattle.lt_texts.specs.Commands.{Command}
use Rattle.lt_grammar.proofs.FirstWrong.{fault_no_command, fault_no_end, one_fault, command_no_end}
use Rattle.lt_grammar.proofs.Alone.{one_header, header_no_fault, one_header_fault}
use Rattle.lt_grammar.proofs.Placed.{placed_is_next, one_placed}
use Rattle.lt_walks.specs.Walks.{Meanings, End, wrong_header, unread, refused, place_of, EndsThere, WalksOn, WalksText, Walks, AreOne}

no_more : {S R : Type 0} (M : Meanings S R) → AreOne M → (s : S) (at : Left) (items : List Item) (blocks : List (List Item)) (e d : End R) → EndsThere M s at e → WalksOn M s at (items ∷ blocks) d → ⊥
no_more M o s at items blocks e d (inl (k, p)) (c, from, lines, to, b, n, later, a, w) = command_no_end M.form at c b (placed_is_next M.form at c from lines to b n) k
no_more M o s at items blocks e d (inr (inl (f, k, p))) (c, from, lines, to, b, n, later, a, w) = fault_no_command M.form at f c b k (placed_is_next M.form at c from lines to b n)
no_more M o s at items blocks e d (inr (inr (g, begin, marks, end, z, m, r, k, p))) (c, from, lines, to, b, n, later, a, w) =
    let same = one_placed M.form at c from lines to b g begin marks end z n m in
    o.apart s g items later r (subst (λ (q : Command). M.Adds s q items later) same.0 a) k

one_end : {S R : Type 0} (M : Meanings S R) → AreOne M → (s : S) (at : Left) (e d : End R) → EndsThere M s at e → EndsThere M s at d → e ≡ d
one_end M o s at e d (inl (k, p)) (inl (m, q)) = p ∙ sym q
one_end M o s at e d (inl (k, p)) (inr (inl (f, m, q))) = absurd (fault_no_end M.form at f m k)
one_end M o s at e d (inl (k, p)) (inr (inr (c, from, lines, to, b, n, r, m, q))) = absurd (command_no_end M.form at c b (placed_is_next M.form at c from lines to b n) k)
one_end M o s at e d (inr (inl (f, k, p))) (inl (m, q)) = absurd (fault_no_end M.form at f k m)
one_end M o s at e d (inr (inl (f, k, p))) (inr (inl (g, m, q))) = p ∙ ap unread (one_fault M.form at f g k m) ∙ sym q
one_end M o s at e d (inr (inl (f, k, p))) (inr (inr (c, from, lines, to, b, n, r, m, q))) = absurd (fault_no_command M.form at f c b k (placed_is_next M.form at c from lines to b n))
one_end M o s at e d (inr (inr (c, from, lines, to, b, n, r, k, p))) (inl (m, q)) = absurd (command_no_end M.form at c b (placed_is_next M.form at c from lines to b n) m)
one_end M o s at e d (inr (inr (c, from, lines, to, b, n, r, k, p))) (inr (inl (f, m, q))) = absurd (fault_no_command M.form at f c b m (placed_is_next M.form at c from lines to b n))
one_end M o s at e d (inr (inr (c, from, lines, to, b, n, r, k, p))) (inr (inr (g, begin, marks, end, z, m, t, l, q))) =
    let same = one_placed M.form at c from lines to b g begin marks end z n m in
    let reason : r ≡ t = o.refuses s g r t (subst (λ (x : Command). M.Refuses s x r) same.0 k) l in
    p ∙ (λ i. refused (reason i) (place_of (same.1 i) (same.2 i) (M.line (reason i)))) ∙ sym q

pub one_on : {S R : Type 0} (M : Meanings S R) → AreOne M → (s : S) (at : Left) (xs ys : List (List Item)) (e d : End R) → WalksOn M s at xs e → WalksOn M s at ys d → (xs ≡ ys) × (e ≡ d)
one_on M o s at [] [] e d h k = (refl, one_end M o s at e d h k)
one_on M o s at [] (y ∷ ys) e d h k = absurd (no_more M o s at y ys e d h k)
one_on M o s at (x ∷ xs) [] e d h k = absurd (no_more M o s at x xs d e k h)
one_on {S} M o s at (x ∷ xs) (y ∷ ys) e d (c, from, lines, to, b, n, later, a, w) (g, begin, marks, end, z, m, last, l, v) =
    let same = one_placed M.form at c from lines to b g begin marks end z n m in
    let adds = o.adds s g x y later last (subst (λ (q : Command). M.Adds s q x later) same.0 a) l in
    let rest = one_on M o later b xs ys e d w (subst (λ (q : S × Left). WalksOn M q.0 q.1 ys d) (λ i. (sym adds.1 i, sym same.4 i)) v) in
    (λ i. adds.0 i ∷ rest.0 i, rest.1)

pub one_text : {S R : Type 0} (M : Meanings S R) → AreOne M → (text : List ℕ) (xs ys : List (List Item)) (e d : End R) → WalksText M text xs e → WalksText M text ys d → (xs ≡ ys) × (e ≡ d)
unfolding WalksText
one_text M o text xs ys e d (inl (f, h, p, q)) (inl (g, m, r, t)) = (p ∙ sym r, q ∙ ap wrong_header (one_header_fault M.form (left_of text) f g h m) ∙ sym t)
one_text M o text xs ys e d (inl (f, h, p, q)) (inr (at, m, w)) = absurd (header_no_fault M.form (left_of text) at f m h)
one_text M o text xs ys e d (inr (at, m, w)) (inl (f, h, r, t)) = absurd (header_no_fault M.form (left_of text) at f m h)
one_text M o text xs ys e d (inr (at, m, w)) (inr (z, n, v)) =
    one_on M o M.start at xs ys e d w (subst (λ (q : Left). WalksOn M M.start q ys d) (sym (one_header M.form (left_of text) at z m n)) v)

pub one_walk : {S R : Type 0} (M : Meanings S R) → AreOne M → (text : List ℕ) (xs ys : List (List Item)) (e d : End R) → Walks M text xs e → Walks M text ys d → (xs ≡ ys) × (e ≡ d)
unfolding Walks
one_walk M o text xs ys e d (inl (l, p, q)) (inl (k, r, t)) = (p ∙ sym r, q ∙ sym t)
one_walk M o text xs ys e d (inl (l, p, q)) (inr (k, w)) = absurd (omega (arith, l, k))
one_walk M o text xs ys e d (inr (l, w)) (inl (k, r, t)) = absurd (omega (arith, l, k))
one_walk M o text xs ys e d (inr (l, w)) (inr (k, v)) = one_text M o text xs ys e d w v
