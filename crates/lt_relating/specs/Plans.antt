-- Statements with a line for each constant and a relation for each binder, over indices, and the
-- parts that stand for them.
-- Source: the transfer judgement of Huffman and Kunčar.
use Rattle.std.specs.Prelude.{◌≡◌, ℕ, suc, ◌-◌, List, [], ◌∷◌, ◌++◌, true, length, replicate, slice_get, Some}
use Rattle.lt_definitions.specs.Types.{Chars}
use Rattle.lt_definitions.specs.Typing.{Signature}
use Rattle.lt_definitions.specs.Rules.{line_at}
use Rattle.lt_nameless.specs.Nameless.{Nameless, nameless_bound, nameless_application, nameless_abstraction, NamelessSequent}
use Rattle.lt_programs.specs.Programs.{theorem}
use Rattle.lt_programs.specs.TypedTerms.{IsOfType}
use Rattle.lt_relating.specs.TypedRelations.{TypedRelation, related, relating, has_no_free, IsRelation}
use Rattle.lt_relating.specs.RelatedSteps.{Binding, variables_related}
use Rattle.lt_relating.specs.Parts.{Part, by_line, by_name, by_application, by_abstraction}

-- A constant with its line, its image and itself; a bound name with the relation of its binder; an
-- application; an abstraction with its binder's relation.
pub data Plan : Type 0 where
  planned_line : ℕ → (image given : Nameless) → Plan
  planned_name : ℕ → TypedRelation → Plan
  planned_application : Plan → Plan → Plan
  planned_abstraction : TypedRelation → Plan → Plan

-- the image
abbrev pub image_of : Plan → Nameless
image_of (planned_line n s t) = s
image_of (planned_name i r) = nameless_bound i
image_of (planned_application f a) = nameless_application (image_of f) (image_of a)
image_of (planned_abstraction r b) = nameless_abstraction r.left (image_of b)

-- the statement itself
abbrev pub given_of : Plan → Nameless
given_of (planned_line n s t) = t
given_of (planned_name i r) = nameless_bound i
given_of (planned_application f a) = nameless_application (given_of f) (given_of a)
given_of (planned_abstraction r b) = nameless_abstraction r.right (given_of b)

-- The line relates the two closed terms.
pub record IsRelatedBy (sig : Signature) (done : List NamelessSequent) (n : ℕ) (r : TypedRelation)
    (s t : Nameless) : Type 0 where
  pub relation : IsRelation sig r
  pub line : line_at done n ≡ Some (theorem (related r.term s t))
  pub image : IsOfType sig s r.left
  pub given : IsOfType sig t r.right
  pub image_closed : has_no_free s ≡ true
  pub given_closed : has_no_free t ≡ true

-- Correspondence under binders with their relations, the innermost first: a constant has the
-- relation of its line, a bound name that of its binder; an application needs R ===> S and R, and
-- has S; an abstraction has R ===> S.
abbrev pub Relates : Signature → List NamelessSequent → List TypedRelation → Plan → TypedRelation
    → Type 0
Relates sig done env (planned_line n s t) e = IsRelatedBy sig done n e s t
Relates sig done env (planned_name i r) e = (slice_get env i ≡ Some r) × (e ≡ r)
Relates sig done env (planned_application f a) e =
    (r : TypedRelation) × Relates sig done env a r × Relates sig done env f (relating r e)
Relates sig done env (planned_abstraction r b) e =
    (s : TypedRelation) × IsRelation sig r × (e ≡ relating r s) × Relates sig done (r ∷ env) b s

-- the names x, xx, xxx, .. and y, yy, yyy, .. of a binder's variables by its depth
abbrev pub image_name : ℕ → Chars
image_name d = replicate (suc d) 120

abbrev pub given_name : ℕ → Chars
given_name d = replicate (suc d) 121

-- what the abstraction under so many binders is related by
abbrev pub binding_at : ℕ → TypedRelation → Binding
binding_at d r = record {
  image = image_name d;
  left = r.left;
  given = given_name d;
  right = r.right;
  relation = r.term;
}

-- the parts in post-order, under so many binders
abbrev pub parts_of : ℕ → Plan → List Part
parts_of d (planned_line n s t) = by_line n ∷ []
parts_of d (planned_name i r) = by_name (variables_related (binding_at (d - suc i) r)) ∷ []
parts_of d (planned_application f a) = parts_of d f ++ (parts_of d a ++ by_application ∷ [])
parts_of d (planned_abstraction r b) =
    parts_of (suc d) b ++ by_abstraction (binding_at d r) ∷ []
