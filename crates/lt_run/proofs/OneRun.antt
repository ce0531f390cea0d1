-- A walk through a text has one end, that of `run` too.
use Rattle.std.proofs.Common.{◌≡◌, inl, inr, ℕ, ◌<◌, ◌≤◌, true, false, List, [], ◌∷◌, length, Ok, Err, sym, ◌∙◌, ap, subst, arith, refl}
use Rattle.lt_definitions.specs.Items.{Item}
use Rattle.lt_texts.specs.Texts.{Left, left_of}
use Rattle.lt_texts.specs.Commands.{Command}
use Rattle.lt_walks.specs.Walks.{Meanings, End, wrong_header, unread, refused, place_of, EndsThere, WalksOn, WalksText, Walks}
use Rattle.lt_grammar.proofs.Alone.{header_no_fault, one_header, one_header_fault}
use Rattle.lt_grammar.proofs.FirstWrong.{one_fault, fault_no_command, fault_no_end, command_no_end}
use Rattle.lt_grammar.proofs.Placed.{placed_is_next, one_placed}
use Rattle.lt_texts.specs.CommandPlaces.{NextPlaced}
use Rattle.lt_transport_definitions.specs.Sessions.{Session}
use Rattle.lt_transport_laws.specs.KeptStatements.{IsKeptSession}
use Rattle.lt_transport_laws.proofs.KeptSessions.{new-kept, stay-kept, kept-scoped}
use Rattle.lt_transport_laws.proofs.OneTransport.{each-one}
use Rattle.lt_transport_laws.proofs.OneWalk.{session-one, same-refusal, not-both}
use Rattle.lt_session.specs.Walks.{RunRefusal, by_table, not_built, built_commands}

-- From a state of this kind a command leads to one state, which is of this kind, or it is refused for one reason.
pub record IsFixed {S R : Type 0} (M : Meanings S R) (K : S → Type 0) : Type 0 where
  pub start : K M.start
  pub stays : (s : S) (c : Command) (xs : List Item) (a : S) → K s → M.Adds s c xs a → K a
  pub adds : (s : S) (c : Command) (xs ys : List Item) (a b : S) → K s → M.Adds s c xs a → M.Adds s c ys b → a ≡ b
  pub refuses : (s : S) (c : Command) (r q : R) → K s → M.Refuses s c r → M.Refuses s c q → r ≡ q
  pub apart : (s : S) (c : Command) (xs : List Item) (a : S) (r : R) → K s → M.Adds s c xs a → M.Refuses s c r → ⊥

module _ {S R : Type 0} (M : Meanings S R) (K : S → Type 0) (fixed : IsFixed M K) where
  no-end : (at : Left) (c : Command) (from : ℕ) (lines : List ℕ) (to : ℕ) (behind : Left) (end : End R) (s : S) → K s → NextPlaced M.form at c from lines to behind → EndsThere M s at end
      → (items : List Item) (later : S) → M.Adds s c items later → ⊥
  no-end at c from lines to behind end s k p (inl a) items later g = command_no_end M.form at c behind (placed_is_next M.form at c from lines to behind p) a.0
  no-end at c from lines to behind end s k p (inr (inl a)) items later g = fault_no_command M.form at a.0 c behind a.1 (placed_is_next M.form at c from lines to behind p)
  no-end at c from lines to behind end s k p (inr (inr (d, begin, marks, last, rest, q, r, f, e))) items later g =
      fixed.apart s c items later r k g (subst (λ (x : Command). M.Refuses s x r) (one_placed M.form at d begin marks last rest c from lines to behind q p).0 f)

  ends-one : (s : S) (at : Left) (end other : End R) → K s → EndsThere M s at end → EndsThere M s at other → end ≡ other
  ends-one s at end other k (inl a) (inl b) = a.1 ∙ sym b.1
  ends-one s at end other k (inl a) (inr (inl b)) = absurd (fault_no_end M.form at b.0 b.1 a.0)
  ends-one s at end other k (inl a) (inr (inr (c, from, lines, to, behind, p, r, f, e))) = absurd (command_no_end M.form at c behind (placed_is_next M.form at c from lines to behind p) a.0)
  ends-one s at end other k (inr (inl a)) (inl b) = absurd (fault_no_end M.form at a.0 a.1 b.0)
  ends-one s at end other k (inr (inl a)) (inr (inl b)) = a.2 ∙ (ap unread (one_fault M.form at a.0 b.0 a.1 b.1) ∙ sym b.2)
  ends-one s at end other k (inr (inl a)) (inr (inr (c, from, lines, to, behind, p, r, f, e))) =
      absurd (fault_no_command M.form at a.0 c behind a.1 (placed_is_next M.form at c from lines to behind p))
  ends-one s at end other k (inr (inr (c, from, lines, to, behind, p, r, f, e))) (inl b) = absurd (command_no_end M.form at c behind (placed_is_next M.form at c from lines to behind p) b.0)
  ends-one s at end other k (inr (inr (c, from, lines, to, behind, p, r, f, e))) (inr (inl b)) =
      absurd (fault_no_command M.form at b.0 c behind b.1 (placed_is_next M.form at c from lines to behind p))
  ends-one s at end other k (inr (inr (c, from, lines, to, behind, p, r, f, e))) (inr (inr (d, begin, marks, last, rest, q, u, g, h))) =
      let n = one_placed M.form at c from lines to behind d begin marks last rest p q in
      let same : r ≡ u = fixed.refuses s d r u k (subst (λ (x : Command). M.Refuses s x r) n.0 f) g in
      e ∙ ((λ i. refused (same i) (place_of (n.1 i) (n.2 i) (M.line (same i)))) ∙ sym h)

  walk-one : (s : S) (at : Left) (xs ys : List (List Item)) (end other : End R) → K s → WalksOn M s at xs end → WalksOn M s at ys other → end ≡ other
  walk-one s at [] [] end other k a b = ends-one s at end other k a b
  walk-one s at [] (y ∷ ys) end other k a (d, begin, marks, last, rest, q, after, h, v) = absurd (no-end at d begin marks last rest end s k q a y after h)
  walk-one s at (x ∷ xs) [] end other k (c, from, lines, to, behind, p, later, g, w) b = absurd (no-end at c from lines to behind other s k p b x later g)
  walk-one s at (x ∷ xs) (y ∷ ys) end other k (c, from, lines, to, behind, p, later, g, w) (d, begin, marks, last, rest, q, after, h, v) =
      let n = one_placed M.form at c from lines to behind d begin marks last rest p q in
      let e : later ≡ after = fixed.adds s d x y later after k (subst (λ (z : Command). M.Adds s z x later) n.0 g) h in
      let w' : WalksOn M after rest xs end = subst (λ (z : Left). WalksOn M after z xs end) n.4 (subst (λ (t : S). WalksOn M t behind xs end) e w) in
      walk-one after rest xs ys end other (fixed.stays s d y after k h) w' v

  pub one_end : (text : List ℕ) (xs ys : List (List Item)) (end other : End R) → Walks M text xs end → Walks M text ys other → end ≡ other
  unfolding Walks WalksText
  one_end text xs ys end other (inl a) (inl b) = a.2 ∙ sym b.2
  one_end text xs ys end other (inl a) (inr b) = absurd (not-longer M.most (length text) a.0 b.0)
    where
      not-longer : (n m : ℕ) → n < m → m ≤ n → ⊥
      not-longer n m h k = omega (arith, h, k)
  one_end text xs ys end other (inr a) (inl b) = absurd (not-longer M.most (length text) b.0 a.0)
    where
      not-longer : (n m : ℕ) → n < m → m ≤ n → ⊥
      not-longer n m h k = omega (arith, h, k)
  one_end text xs ys end other (inr (h, inl a)) (inr (k, inl b)) = a.3 ∙ (ap wrong_header (one_header_fault M.form (left_of text) a.0 b.0 a.1 b.1) ∙ sym b.3)
  one_end text xs ys end other (inr (h, inl a)) (inr (k, inr b)) = absurd (header_no_fault M.form (left_of text) b.0 a.0 b.1 a.1)
  one_end text xs ys end other (inr (h, inr a)) (inr (k, inl b)) = absurd (header_no_fault M.form (left_of text) a.0 b.0 a.1 b.1)
  one_end text xs ys end other (inr (h, inr a)) (inr (k, inr b)) =
      walk-one M.start b.0 xs ys end other fixed.start (subst (λ (z : Left). WalksOn M M.start z xs end) (one_header M.form (left_of text) a.0 b.0 a.1 b.1) a.2) b.2

-- ---- `run`

refuses-one : (s : Session) (c : Command) (r q : RunRefusal) (limit : ℕ) → IsKeptSession s → (built_commands limit).Refuses s c r → (built_commands limit).Refuses s c q → r ≡ q
refuses-one s c (by_table r) (by_table q) limit k f g = ap by_table (same-refusal r q (each-one s c (Err r) (Err q) (kept-scoped s k) f.1 g.1))
refuses-one s c (by_table r) not_built limit k f g = let apart : true ≡ false = sym f.0 ∙ g in absurd (cc apart)
refuses-one s c not_built (by_table q) limit k f g = let apart : true ≡ false = sym g.0 ∙ f in absurd (cc apart)
refuses-one s c not_built not_built limit k f g = refl

given-refused : (s : Session) (c : Command) (xs : List Item) (a : Session) (r : RunRefusal) (limit : ℕ) → IsKeptSession s → (built_commands limit).Adds s c xs a → (built_commands limit).Refuses s c r → ⊥
given-refused s c xs a (by_table r) limit k g f = not-both r g.1.0 (each-one s c (Err r) (Ok g.1.0) (kept-scoped s k) f.1 g.1.1)
given-refused s c xs a not_built limit k g f = let apart : true ≡ false = sym g.0 ∙ f in cc apart

run-fixed : (limit : ℕ) → IsFixed (built_commands limit) IsKeptSession
run-fixed limit = record {
  start = new-kept limit;
  stays = λ s c xs a k g. stay-kept s c xs a k g.1;
  adds = λ s c xs ys a b k g h. session-one s c xs ys a b (kept-scoped s k) g.1 h.1;
  refuses = λ s c r q. refuses-one s c r q limit;
  apart = λ s c xs a r. given-refused s c xs a r limit;
}

pub one_run : (limit : ℕ) (text : List ℕ) (xs ys : List (List Item)) (end other : End RunRefusal) → Walks (built_commands limit) text xs end → Walks (built_commands limit) text ys other → end ≡ other
one_run limit = one_end (built_commands limit) IsKeptSession (run-fixed limit)
