-- How trees of terms are stored as values that contracts see.
use Rattle.std.specs.Prelude.{◌≡◌, ℕ, List}
use Rattle.std.proofs.Common.{ap}
use Rattle.std.specs.Coded.{Coded, coded_list}
use base.Stored.{Gv, gnil, gnum, gcons}
use Rattle.lt_definitions.specs.Types.{TypeTree}
use Rattle.lt_definitions.specs.Terms.{TermTree, free_variable, bound_name, constant, application, abstraction}
use Rattle.lt_types.specs.Codes.{coded_name, coded_type, left, right}

abbrev pub coded_types : Coded (List TypeTree)
coded_types = coded_list coded_type

-- each form has its number
abbrev pub term_code : TermTree → Gv
term_code (free_variable x t) = gcons (gnum 0) (gcons (coded_name.code x) (coded_type.code t))
term_code (bound_name x) = gcons (gnum 1) (coded_name.code x)
term_code (constant c ts) = gcons (gnum 2) (gcons (coded_name.code c) (coded_types.code ts))
term_code (application f a) = gcons (gnum 3) (gcons (term_code f) (term_code a))
term_code (abstraction x t b) = gcons (gnum 4) (gcons (coded_name.code x) (gcons (coded_type.code t) (term_code b)))

abbrev kind : Gv → ℕ
kind gnil = 9
kind (gcons a b) = 9
kind (gnum n) = n

pub term_code-inj : (s t : TermTree) → term_code s ≡ term_code t → s ≡ t
term_code-inj (free_variable x t) (free_variable y u) p =
    λ i. free_variable (coded_name.inj x y (ap (λ g. left (right g)) p) i) (coded_type.inj t u (ap (λ g. right (right g)) p) i)
term_code-inj (bound_name x) (bound_name y) p = ap bound_name (coded_name.inj x y (ap right p))
term_code-inj (constant c ts) (constant d us) p =
    λ i. constant (coded_name.inj c d (ap (λ g. left (right g)) p) i) (coded_types.inj ts us (ap (λ g. right (right g)) p) i)
term_code-inj (application f a) (application g b) p =
    λ i. application (term_code-inj f g (ap (λ g. left (right g)) p) i) (term_code-inj a b (ap (λ g. right (right g)) p) i)
term_code-inj (abstraction x t b) (abstraction y u c) p =
    λ i. abstraction (coded_name.inj x y (ap (λ g. left (right g)) p) i) (coded_type.inj t u (ap (λ g. left (right (right g))) p) i) (term_code-inj b c (ap (λ g. right (right (right g))) p) i)
term_code-inj s t p = let e : kind (left (term_code s)) ≡ kind (left (term_code t)) = ap (λ k. kind (left k)) p in absurd (cc)

abbrev pub coded_term : Coded TermTree
coded_term = record { code = term_code; inj = term_code-inj }
