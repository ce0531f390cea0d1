-- Relations with their types, and terms that are related.
-- Source: Huffman and Kunčar.
use Rattle.std.specs.Prelude.{◌≡◌, List, [], ◌∷◌, Bool, true, false, ◌&&◌, codes, None}
use Rattle.lt_definitions.specs.Types.{TypeTree, bool, fun}
use Rattle.lt_definitions.specs.Typing.{Signature, type_fault}
use Rattle.lt_nameless.specs.Nameless.{Nameless, nameless_free, nameless_bound, nameless_loose, nameless_constant, nameless_application, nameless_abstraction}
use Rattle.lt_programs.specs.TypedTerms.{IsOfType}

-- A relation as a term, with the types on its left and on its right.
pub record TypedRelation : Type 0 where
  pub term : Nameless
  pub left : TypeTree
  pub right : TypeTree

-- the type of relations between two types
abbrev pub relation_type : TypeTree → TypeTree → TypeTree
relation_type a b = fun a (fun b bool)

-- R x y
abbrev pub related : Nameless → Nameless → Nameless → Nameless
related r x y = nameless_application (nameless_application r x) y

-- rel_fun R S, at these type arguments
abbrev pub rel_fun : List TypeTree → Nameless → Nameless → Nameless
rel_fun ts r s = related (nameless_constant (codes "rel_fun") ts) r s

-- the type arguments of R ===> S
abbrev pub relator_types : TypedRelation → TypedRelation → List TypeTree
relator_types r s = r.left ∷ r.right ∷ s.left ∷ s.right ∷ []

-- R ===> S
abbrev pub relating : TypedRelation → TypedRelation → TypedRelation
relating r s = record {
  term = rel_fun (relator_types r s) r.term s.term;
  left = fun r.left s.left;
  right = fun r.right s.right;
}

-- The relator of functions takes two relations to a relation, at any types without a fault.
abbrev pub HasRelator : Signature → Type 0
HasRelator sig =
    (a c b d : TypeTree) → type_fault sig a ≡ None → type_fault sig c ≡ None
    → type_fault sig b ≡ None → type_fault sig d ≡ None
    → IsOfType sig (nameless_constant (codes "rel_fun") (a ∷ c ∷ b ∷ d ∷ []))
    (fun (relation_type a c) (fun (relation_type b d) (relation_type (fun a b) (fun c d))))

-- whether a term has no free variable
abbrev pub has_no_free : Nameless → Bool
has_no_free (nameless_free x ty) = false
has_no_free (nameless_application f a) = has_no_free f && has_no_free a
has_no_free (nameless_abstraction ty b) = has_no_free b
has_no_free _ = true

-- A closed term that is a relation between its types.
pub record IsRelation (sig : Signature) (r : TypedRelation) : Type 0 where
  pub typed : IsOfType sig r.term (relation_type r.left r.right)
  pub closed : has_no_free r.term ≡ true
  pub left : type_fault sig r.left ≡ None
  pub right : type_fault sig r.right ≡ None
