-- The lines of a derivation, whose terms are places among shared nodes.
use Rattle.std.specs.Prelude.{ℕ, ◌+◌, List, [], ◌∷◌, ◌++◌, map, Bool, true, ◌&&◌, nat_lt, get_or}
use Rattle.std.specs.List.{list_all}
use Rattle.lt_definitions.specs.Terms.{TermTree, free_variable, bound_name, constant, application, abstraction}
use Rattle.lt_definitions.specs.Rules as rules
use Rattle.lt_terms.specs.declared.term.TermNode.{TermNode}
use Rattle.lt_terms.specs.declared.term.TermNode.TheVariants.{Free, Bound, Const, App, Lam}
use Rattle.lt_hol.specs.declared.line.Line.{Line}
use Rattle.lt_hol.specs.declared.line.Line.TheVariants.{Assume, Weaken, Refl, Sym, Trans, Cong, Abs, Beta, Eta, Eqmp, ImpI, Mp, AllI, AllE, Iff, Inst, Tinst, Select, Ccontr, Thm}

-- whether a node's children stand below a place
abbrev pub has_children_below : ℕ → TermNode → Bool
has_children_below place (Free x t) = true
has_children_below place (Bound x) = true
has_children_below place (Const c ts) = true
has_children_below place (App f a) = nat_lt f place && nat_lt a place
has_children_below place (Lam x t b) = nat_lt b place

-- whether each node's children stand below it, the first node standing at a place
abbrev pub are_in_order : ℕ → List TermNode → Bool
are_in_order place [] = true
are_in_order place (n ∷ ns) = has_children_below place n && are_in_order (place + 1) ns

-- the term that a node makes of the terms at the places below it
abbrev pub tree_of : List TermTree → TermNode → TermTree
tree_of below (Free x t) = free_variable x t
tree_of below (Bound x) = bound_name x
tree_of below (Const c ts) = constant c ts
tree_of below (App f a) = application (get_or below f (bound_name [])) (get_or below a (bound_name []))
tree_of below (Lam x t b) = abstraction x t (get_or below b (bound_name []))

-- the terms at the places of nodes, behind those that are there already
abbrev pub trees_behind : List TermTree → List TermNode → List TermTree
trees_behind below [] = below
trees_behind below (n ∷ ns) = trees_behind (below ++ tree_of below n ∷ []) ns

-- the terms at the places of nodes
abbrev pub trees : List TermNode → List TermTree
trees nodes = trees_behind [] nodes

-- a line as a rule over places
abbrev pub as_rule : Line → rules.Rule ℕ
as_rule (Assume p) = rules.by_assume p
as_rule (Weaken p i) = rules.by_weaken p i
as_rule (Refl t) = rules.by_refl t
as_rule (Sym i) = rules.by_sym i
as_rule (Trans i j) = rules.by_trans i j
as_rule (Cong i j) = rules.by_cong i j
as_rule (Abs x ty i) = rules.by_abs x ty i
as_rule (Beta t) = rules.by_beta t
as_rule (Eta t) = rules.by_eta t
as_rule (Eqmp i j) = rules.by_eqmp i j
as_rule (ImpI p i) = rules.by_impI p i
as_rule (Mp i j) = rules.by_mp i j
as_rule (AllI x ty i) = rules.by_allI x ty i
as_rule (AllE t i) = rules.by_allE t i
as_rule (Iff i j) = rules.by_iff i j
as_rule (Inst x ty t i) = rules.by_inst x ty t i
as_rule (Tinst a ty i) = rules.by_tinst a ty i
as_rule (Select p) = rules.by_select p
as_rule (Ccontr p) = rules.by_ccontr p
as_rule (Thm label) = rules.by_thm label

-- whether the places in a line are below a number
abbrev pub is_within : ℕ → Line → Bool
is_within count line = list_all (λ p. nat_lt p count) (rules.terms_of (as_rule line))

-- a line with its terms as trees, by the terms at their places
abbrev pub rule_of : List TermTree → Line → rules.Rule TermTree
rule_of ts line = rules.rule_map (λ p. get_or ts p (bound_name [])) (as_rule line)

-- the lines with their terms as trees
abbrev pub rules_of : List TermNode → List Line → List (rules.Rule TermTree)
rules_of nodes lines = map (rule_of (trees nodes)) lines
