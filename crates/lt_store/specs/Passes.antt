-- What a pass over a term makes, or tells.
use Rattle.std.specs.Prelude.{◌≡◌, ℕ, ◌+◌, ◌<◌, List, [], ◌∷◌, Bool, length, max, if◌then◌else◌, Some}
use Rattle.lt_definitions.specs.Types.{TypeTree, type_instance}
use Rattle.lt_nameless.specs.Nameless.{Nameless, nameless_free, nameless_bound, nameless_loose, nameless_constant, nameless_application, nameless_abstraction}
use Rattle.lt_nameless.specs.NamelessRules.{instance_at, abstracted, nameless_replaced, nameless_instance, nameless_has_free, has_index}
use Rattle.lt_store.specs.declared.node.Node.{Node}
use Rattle.lt_store.specs.declared.node.Node.TheVariants as node
use Rattle.lt_store.specs.declared.change.Change.{Change}
use Rattle.lt_store.specs.declared.change.Change.TheVariants.{Open, Close, Replace, Types}
use Rattle.lt_store.specs.declared.change.Sought.{Sought}
use Rattle.lt_store.specs.declared.change.Sought.TheVariants.{Variable, Loose}
use Rattle.lt_store.specs.declared.change.Work.{Work}
use Rattle.lt_store.specs.declared.change.Work.TheVariants.{Make, Find, Measure}
use Rattle.lt_store.specs.Trees.{tree_at}
use Rattle.lt_store.specs.Memos.{Memo, result_at}

-- what a change makes of a term under d binders
abbrev pub image : List Node → Change → ℕ → Nameless → Nameless
image ns (Open by) d t = instance_at d (tree_at ns by) t
image ns (Close x ty) d t = abstracted d x.now ty.now t
image ns (Replace x ty by) d t = nameless_replaced x.now ty.now (tree_at ns by) t
image ns (Types m) d t = nameless_instance m.now t

-- what it makes of a type
abbrev pub type_image : Change → TypeTree → TypeTree
type_image (Open by) t = t
type_image (Close x ty) t = t
type_image (Replace x ty by) t = t
type_image (Types m) t = type_instance m.now t

-- whether what is looked for occurs in a term under d binders
abbrev pub occurs : Sought → ℕ → Nameless → Bool
occurs (Variable x ty) d t = nameless_has_free x.now ty.now t
occurs Loose d t = has_index d t

-- by how much the depth of a binder's body is greater
abbrev pub change_step : Change → ℕ
change_step (Open by) = 1
change_step (Close x ty) = 1
change_step (Replace x ty by) = 0
change_step (Types m) = 0

abbrev pub sought_step : Sought → ℕ
sought_step (Variable x ty) = 0
sought_step Loose = 1

abbrev pub step_of : Work → ℕ
step_of (Make c) = change_step c
step_of (Find f) = sought_step f
step_of Measure = 0

-- the term that is put is in the store
abbrev pub ChangeIsIn : ℕ → Change → Type 0
ChangeIsIn n (Open by) = by < n
ChangeIsIn n (Close x ty) = Unit {0}
ChangeIsIn n (Replace x ty by) = by < n
ChangeIsIn n (Types m) = Unit {0}

abbrev pub WorkIsIn : ℕ → Work → Type 0
WorkIsIn n (Make c) = ChangeIsIn n c
WorkIsIn n (Find f) = Unit {0}
WorkIsIn n Measure = Unit {0}

-- the length of the longest name of a free variable of a term, and of terms
abbrev pub longest_free : Nameless → ℕ
longest_free (nameless_free x ty) = length x
longest_free (nameless_bound i) = 0
longest_free (nameless_loose x) = 0
longest_free (nameless_constant c ts) = 0
longest_free (nameless_application f a) = max (longest_free f) (longest_free a)
longest_free (nameless_abstraction ty b) = longest_free b

abbrev pub longest_free_of : List Nameless → ℕ
longest_free_of [] = 0
longest_free_of (t ∷ ts) = max (longest_free t) (longest_free_of ts)

-- a test as a number
abbrev pub number : Bool → ℕ
number b = if b then 1 else 0

-- the result for an id under d binders: an id of its image, the answer as a number, or the length
abbrev pub IsResult : Work → List Node → ℕ → ℕ → ℕ → Type 0
IsResult (Make c) ns i d r = (r < length ns) × (tree_at ns r ≡ image ns c d (tree_at ns i))
IsResult (Find f) ns i d r = r ≡ number (occurs f d (tree_at ns i))
IsResult Measure ns i d r = r ≡ longest_free (tree_at ns i)

-- each result that was kept is right
abbrev pub IsSound : Work → List Node → Memo → Type 0
IsSound w ns m = (i d r : ℕ) → result_at m i d ≡ Some r → (i < length ns) × IsResult w ns i d r

-- the children of a node, with their depths
abbrev pub children : ℕ → Node → ℕ → List (ℕ × ℕ)
children s (node.Free n t) d = []
children s (node.Bound i) d = []
children s (node.Const n ts) d = []
children s (node.App f a) d = (f, d) ∷ (a, d) ∷ []
children s (node.Lam t b) d = (b, d + s) ∷ []
