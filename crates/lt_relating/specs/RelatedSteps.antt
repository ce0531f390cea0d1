-- What a derivation gives along an application and along an abstraction, as functions of sequents.
-- Source: Huffman and Kunčar, for the rules.
use Rattle.std.specs.Prelude.{◌≡◌, List, [], ◌∷◌, nat_eq, length, if◌then◌else◌, Option, Some, None, option_map, option_and_then}
use Rattle.lt_definitions.specs.Types.{Chars, TypeTree}
use Rattle.lt_definitions.specs.Typing.{Signature, with_ok}
use Rattle.lt_definitions.specs.Rules.{with_found}
use Rattle.lt_definitions.specs.declared.reason.Reason.TheVariants.{MiddleDiffers}
use Rattle.lt_nameless.specs.Nameless.{Nameless, nameless_free, nameless_constant, nameless_application, nameless_abstraction, NamelessSequent}
use Rattle.lt_nameless.specs.NamelessRules.{NamelessOutcome, nameless_type_of, nameless_union, abstracted, discharged, generalised, detached}
use Rattle.lt_programs.specs.Programs.{named_at, paired}
use Rattle.lt_relating.specs.TypedRelations.{related}
use Rattle.lt_relating.specs.RelatorLaws.{relator_names}

-- the relation and the two terms of R x y
abbrev pub as_related : Nameless → Option (Nameless × Nameless × Nameless)
as_related (nameless_application (nameless_application r x) y) = Some (r, x, y)
as_related _ = None

-- the type arguments of a constant that has four
abbrev pub four_types : Nameless → Option (List TypeTree)
four_types (nameless_constant k ts) = if nat_eq (length ts) 4 then Some ts else None
four_types _ = None

-- of K R S f g and Q x y: the type arguments of K, where it has four, and R, S, f, g, x, y
abbrev pub as_applied : Nameless → Nameless → Option (List TypeTree × List Nameless)
as_applied p q =
    option_and_then (λ v.
    option_and_then (λ w.
    option_and_then (λ u.
    option_map (λ ts. (ts, w.1 ∷ w.2 ∷ v.1 ∷ v.2 ∷ u.1 ∷ u.2 ∷ [])) (four_types w.0))
    (as_related q)) (as_related v.0)) (as_related p)

-- From H |- rel_fun R S f g and K |- R x y: H and K |- S (f x) (g y), by the law of that label.
abbrev pub applied_by : Signature → List (Chars × Nameless) → Chars → NamelessSequent
    → NamelessSequent → NamelessOutcome
applied_by sig named label s u =
    with_found MiddleDiffers (as_applied s.concl u.concl) (λ p.
    with_ok (named_at sig named label (paired relator_names p.0) p.1) (λ law.
    with_ok (detached law s) (λ v. detached v u)))

-- What an abstraction is related by: its two variables, each with its type, and the relation.
pub record Binding : Type 0 where
  pub image : Chars
  pub left : TypeTree
  pub given : Chars
  pub right : TypeTree
  pub relation : Nameless

-- R x y, of the variables
abbrev pub variables_related : Binding → Nameless
variables_related b =
    related b.relation (nameless_free b.image b.left) (nameless_free b.given b.right)

-- \x. t, over a free variable
abbrev pub closed : Chars → TypeTree → Nameless → Nameless
closed x ty t = nameless_abstraction ty (abstracted 0 x ty t)

-- (\x. t) x
abbrev pub at_variable : Chars → TypeTree → Nameless → Nameless
at_variable x ty t = nameless_application (closed x ty t) (nameless_free x ty)

-- H |- S ((\x. f) x) ((\y. g) y), of H |- S f g
abbrev pub expanded : Binding → Nameless → Nameless → Nameless → List Nameless → NamelessSequent
expanded b s f g hs = record {
  hyps = nameless_union [] hs;
  concl = related s (at_variable b.image b.left f) (at_variable b.given b.right g);
}

-- from H |- q: H without p |- all x y. p --> q
abbrev pub closed_over_both : Signature → Binding → Nameless → NamelessSequent → NamelessOutcome
closed_over_both sig b p s =
    with_ok (discharged sig p s) (λ u.
    with_ok (generalised b.given b.right u) (generalised b.image b.left))

-- the type arguments of rel_fun R S, where S f g
abbrev pub abstraction_types : Signature → Binding → Nameless → Nameless → List TypeTree
abstraction_types sig b f g =
    b.left ∷ b.right ∷ nameless_type_of sig f ∷ nameless_type_of sig g ∷ []

-- R, S, \x. f and \y. g
abbrev pub abstraction_terms : Binding → Nameless → Nameless → Nameless → List Nameless
abstraction_terms b s f g =
    b.relation ∷ s ∷ closed b.image b.left f ∷ closed b.given b.right g ∷ []

-- From H |- S f g: H without R x y |- rel_fun R S (\x. f) (\y. g), by the law of that label.
abbrev pub abstracted_by : Signature → List (Chars × Nameless) → Chars → Binding → NamelessSequent
    → NamelessOutcome
abstracted_by sig named label b s =
    with_found MiddleDiffers (as_related s.concl) (λ p.
    with_ok (closed_over_both sig b (variables_related b)
    (expanded b p.0 p.1 p.2 s.hyps)) (λ premise.
    with_ok (named_at sig named label (paired relator_names (abstraction_types sig b p.1 p.2))
    (abstraction_terms b p.0 p.1 p.2)) (λ law.
    detached law premise)))
