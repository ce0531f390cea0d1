-- The walk over the prefixes of choice lists: where it stands, and what it has visited.
use Rattle.std.specs.Prelude.{◌≡◌, ℕ, ◌+◌, ◌-◌, ◌<◌, ◌≤◌, List, [], ◌∷◌, ◌++◌, length, Contains, ◌⊎◌, ◌↔◌, drop}
use Rattle.lt_transport_definitions.specs.Candidates.{occurrences}
use Rattle.lt_transport_definitions.specs.Search.{Question, Solution, IsWhole, IsLeast, IsAnswer, HasNoAnswer, IsLive, AreChoices, AreDifferent, HasVisits, HasMoreVisits}
use Rattle.lt_unify.specs.Tree.{Tree}
use Rattle.lt_unify.specs.Solutions.{IsExtension}
use Rattle.lt_transport_laws.specs.Statements.{IsRegistry, AreTyped}
use Rattle.lt_search_laws.specs.Slots.{IsSolvedBy}

-- The one comes before the other in the walk: it begins it and is shorter, or has the earlier candidate at the first place where
-- they differ.
abbrev pub Precedes : List ℕ → List ℕ → Type 0
Precedes [] [] = ⊥
Precedes [] (j ∷ p) = Unit {0}
Precedes (i ∷ x) [] = ⊥
Precedes (i ∷ x) (j ∷ p) = (i < j) ⊎ ((i ≡ j) × Precedes x p)

-- what the search's laws ask of a question
pub record IsSound (q : Question) : Type 0 where
  pub is_registry : IsRegistry q.registry
  pub are_typed : AreTyped q.registry q.signature q.rules

-- A prefix with a live parent: a visit, if it comes no later than the answer.
pub record IsStep (q : Question) (prefix : List ℕ) : Type 0 where
  pub parent : List ℕ
  pub last : ℕ
  pub longer : prefix ≡ parent ++ last ∷ []
  pub choices : AreChoices q (occurrences q.statement) prefix
  pub live : IsLive q parent

-- The walk stands before the prefix that follows a live parent by a number: it has visited just the prefixes with live parents that
-- come before it, and no whole choice list that comes before it has a solution.
pub record IsAt (q : Question) (parent : List ℕ) (next : ℕ) (visits : List (List ℕ)) : Type 0 where
  pub live : IsLive q parent
  pub choices : AreChoices q (occurrences q.statement) parent
  pub different : AreDifferent visits
  pub visited : (x : List ℕ) → Contains visits x ↔ (IsStep q x × Precedes x (parent ++ next ∷ []))
  pub none : (others : List ℕ) → IsWhole q others → Solution q others → Precedes others (parent ++ next ∷ []) → ⊥

-- What a step of the walk does, given what is next: no candidate, a prefix that isn't live, a live one, or an answer.
pub record WalkGoes (q : Question) : Type 0 where
  pub starts : IsAt q [] 0 []
  pub dead : (p : List ℕ) (i : ℕ) (visits : List (List ℕ)) → IsAt q p i visits → AreChoices q (occurrences q.statement) (p ++ i ∷ []) → (Solution q (p ++ i ∷ []) → ⊥)
      → IsAt q p (i + 1) (visits ++ (p ++ i ∷ []) ∷ [])
  pub down : (p : List ℕ) (i : ℕ) (visits : List (List ℕ)) → IsAt q p i visits → AreChoices q (occurrences q.statement) (p ++ i ∷ []) → Solution q (p ++ i ∷ [])
      → (IsWhole q (p ++ i ∷ []) → ⊥) → IsAt q (p ++ i ∷ []) 0 (visits ++ (p ++ i ∷ []) ∷ [])
  pub up : (p : List ℕ) (k i : ℕ) (visits : List (List ℕ)) → IsLive q p → IsAt q (p ++ k ∷ []) i visits
      → (AreChoices q (occurrences q.statement) ((p ++ k ∷ []) ++ i ∷ []) → ⊥) → IsAt q p (k + 1) visits
  pub found : (p : List ℕ) (i : ℕ) (visits : List (List ℕ)) → IsAt q p i visits → AreChoices q (occurrences q.statement) (p ++ i ∷ []) → IsWhole q (p ++ i ∷ [])
      → (s : Solution q (p ++ i ∷ [])) → IsLeast s → IsAnswer q (p ++ i ∷ []) s × HasVisits q (length visits + 1)
  pub ended : (i : ℕ) (visits : List (List ℕ)) → IsAt q [] i visits → (AreChoices q (occurrences q.statement) (i ∷ []) → ⊥) → HasVisits q (length visits) × HasNoAnswer q
  pub limited : (p : List ℕ) (i : ℕ) (visits : List (List ℕ)) (limit : ℕ) → IsAt q p i visits → AreChoices q (occurrences q.statement) (p ++ i ∷ [])
      → limit ≤ length visits → HasMoreVisits q limit

-- The walk's steps and its ends.
abbrev pub TheWalkGoes : Type 0
TheWalkGoes = (q : Question) → IsSound q → WalkGoes q

-- At each mark, the bindings that there were then are those found for the equations that there were then.
abbrev pub AreLevels : List (ℕ × List (Tree × Tree)) → List (ℕ × Tree) → Type 0
AreLevels [] bs = Unit {0}
AreLevels (level ∷ levels) bs = (level.0 ≤ length bs) × IsSolvedBy level.1 (drop (length bs - level.0) bs) × AreLevels levels bs

-- Further bindings keep the levels; a mark that is set now is one more; going back to the newest mark leaves the others.
pub record LevelsStand : Type 0 where
  pub kept : (levels : List (ℕ × List (Tree × Tree))) (old new : List (ℕ × Tree)) → AreLevels levels old → IsExtension old new → AreLevels levels new
  pub marked : (levels : List (ℕ × List (Tree × Tree))) (es : List (Tree × Tree)) (bs : List (ℕ × Tree)) → IsSolvedBy es bs → AreLevels levels bs → AreLevels ((length bs, es) ∷ levels) bs
  pub undone : (old new : List (ℕ × Tree)) → IsExtension old new → drop (length new - length old) new ≡ old
