-- Walks that look at each node of a term once, and what they find.
-- Source: this project's own.
use Rattle.std.specs.Prelude.{◌≡◌, ℕ, ◌<◌, ◌^◌, ◌==◌, List, [], ◌∷◌, ◌++◌, Bool, true, false, if◌then◌else◌}
use Rattle.std.specs.List.{list_any}
use Rattle.lt_definitions.specs.Types.{Chars, has_name}
use Rattle.lt_nameless.specs.Nameless.{Nameless}
use Rattle.lt_store.specs.declared.node.Node.{Node}
use Rattle.lt_store.specs.declared.node.Node.TheVariants.{Free, Bound, Const, App, Lam}
use Rattle.lt_conv.specs.Everywhere.{free_names, v_name}

-- whether an id is among these
abbrev pub has_id : ℕ → List ℕ → Bool
has_id id ids = list_any (◌==◌ id) ids

-- ids with one more, and with several, each where it isn't there yet
abbrev pub with_id : List ℕ → ℕ → List ℕ
with_id ids id = if has_id id ids then ids else ids ++ id ∷ []

abbrev pub with_ids : List ℕ → List ℕ → List ℕ
with_ids ids [] = ids
with_ids ids (c ∷ cs) = with_ids (with_id ids c) cs

-- the name of a node that is a free variable
abbrev pub own_names : Node → List Chars
own_names (Free x ty) = x ∷ []
own_names (Bound i) = []
own_names (Const c ts) = []
own_names (App f a) = []
own_names (Lam ty b) = []

-- These are the names of the term's free variables, in any order.
abbrev pub AreNamesOf : Nameless → List Chars → Type 0
AreNamesOf t names = (x : Chars) → has_name x names ≡ has_name x (free_names t)

-- The names of the numbers below n are among these.
abbrev pub AreTaken : ℕ → List Chars → Type 0
AreTaken n names = (j : ℕ) → j < n → has_name (v_name j) names ≡ true

-- The name is vN with the least N such that it is none of these.
pub record IsFirstNew (names : List Chars) (x : Chars) : Type 0 where
  pub number : ℕ
  pub is : x ≡ v_name number
  pub fits : number < 2 ^ 64
  pub before : AreTaken number names
  pub new : has_name (v_name number) names ≡ false
