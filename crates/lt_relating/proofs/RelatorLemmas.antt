-- The relator of functions makes a relation of two relations, and of nothing else.
use Rattle.std.proofs.Common.{◌≡◌, ℕ, List, [], ◌∷◌, true, codes, None, Ok, refl, sym, ◌∙◌, ap, subst}
use Rattle.std.proofs.lemmas.Bool.{and_parts, and_from}
use Rattle.lt_definitions.specs.Types.{TypeTree, bool, fun, row}
use Rattle.lt_definitions.specs.Terms.{constant}
use Rattle.lt_definitions.specs.Typing.{Signature, type_fault, types_fault}
use Rattle.lt_definitions.proofs.TypingLemmas.{both-none}
use Rattle.lt_nameless.specs.Booleans.{IsSoundSignature}
use Rattle.lt_nameless.specs.Nameless.{Nameless, nameless_constant, nameless_application}
use Rattle.lt_nameless.specs.NamelessRules.{nameless_typed}
use Rattle.lt_nameless.proofs.StatementTypes.{fun-sound, sound-fun}
use Rattle.lt_nameless.proofs.Typings.{typed-has}
use Rattle.lt_programs.specs.TypedTerms.{IsOfType}
use Rattle.lt_programs.proofs.TypedTermLemmas.{application-parts, application-of, ok-same}
use Rattle.lt_relating.specs.TypedRelations.{TypedRelation, relation_type, related, relator_types, relating, has_no_free, HasRelator, IsRelation}

pub constant-types : (sig : Signature) (k : List ℕ) (ts : List TypeTree) (ty : TypeTree) → IsOfType sig (nameless_constant k ts) ty → types_fault sig (row ts) ≡ None
constant-types sig k ts ty e = let h = typed-has sig [] (constant k ts) ty e in h.3

module _ (sig : Signature) (h : HasRelator sig) (r s : TypedRelation) where
  abbrev head : Nameless
  head = nameless_constant (codes "rel_fun") (relator_types r s)

  abbrev whole : TypeTree
  whole = relation_type (fun r.left s.left) (fun r.right s.right)

  -- a relator's type
  abbrev full : TypeTree
  full = fun (relation_type r.left r.right) (fun (relation_type s.left s.right) whole)

  pub relating-is : IsSoundSignature sig → IsRelation sig r → IsRelation sig s → IsRelation sig (relating r s)
  relating-is sound hr hs = record {
    typed = application-of sig (nameless_application head r.term) s.term (relation_type s.left s.right) whole
        (application-of sig head r.term (relation_type r.left r.right) (fun (relation_type s.left s.right) whole)
        (h r.left r.right s.left s.right hr.left hr.right hs.left hs.right) hr.typed) hs.typed;
    closed = and_from (has_no_free r.term) (has_no_free s.term) hr.closed hs.closed;
    left = fun-sound sig sound.built r.left s.left hr.left hs.left;
    right = fun-sound sig sound.built r.right s.right hr.right hs.right;
  }

  pub relating-parts : IsRelation sig (relating r s) → IsRelation sig r × IsRelation sig s
  relating-parts k =
      let outer = application-parts sig (nameless_application head r.term) s.term whole k.typed in
      let inner = application-parts sig head r.term (fun outer.0 whole) outer.1 in
      let fault = constant-types sig (codes "rel_fun") (relator_types r s) (fun inner.0 (fun outer.0 whole)) inner.1 in
      let a = both-none (type_fault sig r.left) (types_fault sig (row (r.right ∷ s.left ∷ s.right ∷ []))) fault in
      let c = both-none (type_fault sig r.right) (types_fault sig (row (s.left ∷ s.right ∷ []))) a.1 in
      let b = both-none (type_fault sig s.left) (types_fault sig (row (s.right ∷ []))) c.1 in
      let d = both-none (type_fault sig s.right) None b.1 in
      let same : fun inner.0 (fun outer.0 whole) ≡ full =
      ok-same (fun inner.0 (fun outer.0 whole)) full (nameless_typed sig [] head) inner.1 (h r.left r.right s.left s.right a.0 c.0 b.0 d.0) in
      let first : inner.0 ≡ relation_type r.left r.right = cc same in
      let second : outer.0 ≡ relation_type s.left s.right = cc same in
      let closed = and_parts (has_no_free r.term) (has_no_free s.term) k.closed in (
        record { typed = subst (IsOfType sig r.term) first inner.2; closed = closed.0; left = a.0; right = c.0 },
        record { typed = subst (IsOfType sig s.term) second outer.2; closed = closed.1; left = b.0; right = d.0 },
      )
