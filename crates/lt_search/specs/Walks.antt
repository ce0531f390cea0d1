-- What a walk over the prefixes of choice lists goes by, and what it finds.
use Rattle.std.specs.Prelude.{◌≡◌, ℕ, ◌+◌, ◌≤◌, List, [], ◌∷◌, ◌++◌, length}
use Rattle.lt_transport_definitions.specs.Candidates.{occurrences}
use Rattle.lt_transport_definitions.specs.Search.{Question, Solution, IsWhole, IsLeast, IsAnswer, IsLive, AreChoices, HasVisits}
use Rattle.lt_search_laws.specs.Walk.{IsAt}

-- The number is that of a candidate of the place behind a prefix.
abbrev pub IsNext : Question → List ℕ → ℕ → Type 0
IsNext q choices i = AreChoices q (occurrences q.statement) (choices ++ i ∷ [])

-- A prefix and one number more is what there was.
pub record IsBack (q : Question) (old new : List ℕ) (next : ℕ) : Type 0 where
  pub last : ℕ
  pub behind : next ≡ last + 1
  pub parted : old ≡ new ++ last ∷ []
  pub live : IsLive q new

-- With so many visits the walk stands before the prefix that follows a live one by a number.
pub record StandsAt (q : Question) (choices : List ℕ) (next count : ℕ) : Type 0 where
  pub visits : List (List ℕ)
  pub counted : length visits ≡ count
  pub stands : IsAt q choices next visits

-- The choice list is the first one with a solution, with so many visits and no more than the limit.
pub record IsFirst (q : Question) (choices : List ℕ) (limit count : ℕ) : Type 0 where
  pub whole : IsWhole q choices
  pub solved : Solution q choices
  pub visits : HasVisits q count
  pub within : count ≤ limit
  pub answer : (s : Solution q choices) → IsLeast s → IsAnswer q choices s
