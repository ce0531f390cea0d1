-- Each text has a walk.
use Rattle.std.proofs.Common.{◌⊎◌, inl, inr, ℕ, zero, suc, ◌<◌, ◌≤◌, List, [], ◌∷◌, ◌++◌, length, refl, arith, append_assoc, append-nil, subst, sym}
use Rattle.std.proofs.lemmas.Bool.{cases_lt}
use Rattle.lt_definitions.specs.Items.{Item}
use Rattle.lt_texts.specs.Texts.{Left, left_of}
use Rattle.lt_texts.specs.Commands.{Command}
use Rattle.lt_texts.specs.Forms.{Form, a_command, IsAllowed, HasCommands}
use Rattle.lt_texts.specs.WrongPlaces.{Wrong, Begins, NextCommand, IsFirstWrong}
use Rattle.lt_grammar.proofs.FirstWrong.{fault_is_first_wrong}
use Rattle.lt_grammar.proofs.Sentences.{sentence_not_empty}
use Rattle.lt_grammar.proofs.TextLaws.{command_goes_on, end_has_commands}
use Rattle.lt_grammar.proofs.EachPlace.{no_longer, shorter, Each, each_place, HeaderOr, header_or_fault}
use Rattle.lt_grammar.proofs.Placed.{next_is_placed}
use Rattle.lt_walks.specs.Walks.{Meanings, End, accepted, too_long, wrong_header, unread, refused, place_of, WalksOn, WalksText, Walks, AreTotal}

pub command_shorter : (f : Form) (s : Left) (c : Command) (s' : Left) → NextCommand f s c s' → length s'.ahead < length s.ahead
command_shorter f s c s' (xs, a, i, m, (hs, w, r), ([], v, q)) = absurd (sentence_not_empty f (a_command c) [] v)
command_shorter f s c s' (xs, a, i, m, (hs, w, r), (u ∷ us, v, q)) =
    let first = no_longer s m hs r in
    let rest = shorter m s' u us q in
    omega (arith, first, rest)

abbrev HasWalk : {S R : Type 0} → Meanings S R → S → Left → Type 0
HasWalk {S} {R} M s at = (blocks : List (List Item)) × (end : End R) × WalksOn M s at blocks end

allowed_next : (f : Form) (s : Left) (c : Command) (s' : Left) → NextCommand f s c s' → IsAllowed f (a_command c)
allowed_next f s c s' (xs, a, i, m, r, q) = i

runs : {S R : Type 0} (M : Meanings S R) (s : S) (at : Left) (c : Command) (b : Left) → NextCommand M.form at c b
    → ((items : List Item) × (later : S) × M.Adds s c items later) ⊎ ((r : R) × M.Refuses s c r) → ((later : S) → HasWalk M later b) → HasWalk M s at
runs M s at c b k (inl (items, later, a)) go =
    let p = next_is_placed M.form at c b k in
    let rest = go later in
    (items ∷ rest.0, rest.1, (c, p.0, p.1, p.2, b, p.3, later, a, rest.2))
runs M s at c b k (inr (r, m)) go =
    let p = next_is_placed M.form at c b k in
    ([], refused r (place_of p.0 p.1 (M.line r)), inr (inr (c, p.0, p.1, p.2, b, p.3, r, m, refl)))

goes : {S R : Type 0} (M : Meanings S R) → AreTotal M → (s : S) (at : Left) → Each M.form at → ((later : S) (b : Left) → length b.ahead < length at.ahead → HasWalk M later b) → HasWalk M s at
goes M t s at (inl (c, b, k)) go = runs M s at c b k (t s c (allowed_next M.form at c b k)) (λ later. go later b (command_shorter M.form at c b k))
goes M t s at (inr (inl k)) go = ([], accepted, inl (k, refl))
goes M t s at (inr (inr (e, k))) go = ([], unread e, inr (inl (e, k, refl)))

each_by : {S R : Type 0} (n : ℕ) (M : Meanings S R) → AreTotal M → (s : S) (at : Left) → length at.ahead < n → HasWalk M s at
each_by zero M t s at h = absurd (omega (arith, h))
each_by (suc n) M t s at h = goes M t s at (each_place M.form at) (λ later b k. each_by n M t later b (omega (arith, h, k)))

pub each_on : {S R : Type 0} (M : Meanings S R) → AreTotal M → (s : S) (at : Left) → HasWalk M s at
each_on M t s at = each_by (suc (length at.ahead)) M t s at (omega arith)

behind_header : {S R : Type 0} (M : Meanings S R) → AreTotal M → (text : List ℕ) → HeaderOr M.form (left_of text)
    → (blocks : List (List Item)) × (end : End R) × WalksText M text blocks end
unfolding WalksText
behind_header M t text (inl (at, k)) = let w = each_on M t M.start at in (w.0, w.1, inr (at, k, w.2))
behind_header M t text (inr (e, k)) = ([], wrong_header e, inl (e, k, refl, refl))

-- each text has a walk, however long it is
pub each_text : {S R : Type 0} (M : Meanings S R) → AreTotal M → (text : List ℕ) → (blocks : List (List Item)) × (end : End R) × WalksText M text blocks end
each_text M t text = behind_header M t text (header_or_fault M.form (left_of text))

by_length : {S R : Type 0} (M : Meanings S R) → AreTotal M → (text : List ℕ) → (M.most < length text) ⊎ (length text ≤ M.most) → (blocks : List (List Item)) × (end : End R) × Walks M text blocks end
unfolding Walks
by_length M t text (inl h) = ([], too_long, inl (h, refl, refl))
by_length M t text (inr h) = let w = each_text M t text in (w.0, w.1, inr (h, w.2))

pub each_walk : {S R : Type 0} (M : Meanings S R) → AreTotal M → (text : List ℕ) → (blocks : List (List Item)) × (end : End R) × Walks M text blocks end
each_walk M t text = by_length M t text (cases_lt M.most (length text))

-- what was read of a text is the front of its reading, or the text is wrong further on

abbrev pub ReadsOn : Form → List ℕ → List Command → Type 0
ReadsOn f text cs = ((more : List Command) × HasCommands f text (cs ++ more)) ⊎ ((e : Wrong) × IsFirstWrong f text e)

on_from : (f : Form) (text : List ℕ) (cs : List Command) (c : Command) → ReadsOn f text (cs ++ c ∷ []) → ReadsOn f text cs
on_from f text cs c (inl (more, h)) = inl (c ∷ more, subst (HasCommands f text) (append_assoc cs (c ∷ []) more) h)
on_from f text cs c (inr w) = inr w

reads_next : (f : Form) (text : List ℕ) (cs : List Command) (s : Left) → Begins f text cs s → Each f s
    → ((ds : List Command) (s' : Left) → length s'.ahead < length s.ahead → Begins f text ds s' → ReadsOn f text ds) → ReadsOn f text cs
reads_next f text cs s b (inl (c, s', k)) go = on_from f text cs c (go (cs ++ c ∷ []) s' (command_shorter f s c s' k) (command_goes_on f text cs s s' c b k))
reads_next f text cs s b (inr (inl k)) go = inl ([], subst (HasCommands f text) (sym (append-nil cs)) (end_has_commands f text cs s b k))
reads_next f text cs s b (inr (inr (e, k))) go = inr (e, fault_is_first_wrong f text cs s e b k)

reads_by : (n : ℕ) (f : Form) (text : List ℕ) (cs : List Command) (s : Left) → length s.ahead < n → Begins f text cs s → ReadsOn f text cs
reads_by zero f text cs s h b = absurd (omega (arith, h))
reads_by (suc n) f text cs s h b = reads_next f text cs s b (each_place f s) (λ ds s' k c. reads_by n f text ds s' (omega (arith, h, k)) c)

pub reads_on : (f : Form) (text : List ℕ) (cs : List Command) (s : Left) → Begins f text cs s → ReadsOn f text cs
reads_on f text cs s b = reads_by (suc (length s.ahead)) f text cs s (omega arith) b
