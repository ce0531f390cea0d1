-- Types whose numbers are kept.
use Rattle.std.proofs.Common.{◌≡◌, ℕ, zero, suc, ◌<◌, ◌∙◌, ap, sym, refl, subst, arith, List, [], ◌∷◌, ◌++◌, length, get_or, slice_get, Some, None}
use Rattle.lt_definitions.specs.Types.{Chars, TypeTree, TypeTrees, type_variable, type_constructor, no_types, type_and, type_instance, types_instance, type_variables}
use Rattle.lt_definitions.specs.Typing.{at_types}
use Rattle.std.specs.List.{zip}
use Rattle.lt_hol.specs.declared.recent_types.RecentType.{RecentType}
use Rattle.lt_types.specs.declared.ty.TyNode.{TyNode}
use Rattle.lt_hol.specs.TypeTables.{AreRecent, Extends, IsTable, types_after}

got-later : (ts us : List TypeTree) (i : ℕ) (t : TypeTree) → slice_get ts i ≡ Some t → slice_get (ts ++ us) i ≡ Some t
got-later [] us i t e = absurd (cc e)
got-later (u ∷ ts) us zero t e = e
got-later (u ∷ ts) us (suc i) t e = got-later ts us i t e

pub recent-later : (old new : List TypeTree) (ks : List RecentType) → Extends old new → AreRecent old ks → AreRecent new ks
recent-later old new [] h k = tt
recent-later old new (r ∷ ks) h k =
    (subst (λ (ts : List TypeTree). slice_get ts r.id ≡ Some r.ty) (sym h.is) (got-later old h.more r.id r.ty k.0), recent-later old new ks h k.1)

pub recent-one : (ts : List TypeTree) (ks : List RecentType) (r : RecentType) → AreRecent ts ks → slice_get ts r.id ≡ Some r.ty → AreRecent ts (ks ++ r ∷ [])
recent-one ts [] r k h = (h, tt)
recent-one ts (q ∷ ks) r k h = (k.0, recent-one ts ks r k.1 h)

-- what is found by going through the list
pub recent-found : (ts : List TypeTree) (ks : List RecentType) (i : ℕ) (r : RecentType) (t : TypeTree) → AreRecent ts ks → i < length ks → r ≡ get_or ks i r → r.ty ≡ t → slice_get ts r.id ≡ Some t
recent-found ts [] i r t k h e same = absurd (omega (arith, h))
recent-found ts (q ∷ ks) zero r t k h e same = subst (λ (x : RecentType). slice_get ts x.id ≡ Some x.ty) (sym e) k.0 ∙ ap Some same
recent-found ts (q ∷ ks) (suc i) r t k h e same = recent-found ts ks i r t k.1 (omega (arith, h)) e same

-- a table that keeps one more
pub kept-one : (ns : List TyNode) (name : Chars) (ks more : List RecentType) (r : RecentType) → IsTable ns name ks → slice_get (types_after [] ns) r.id ≡ Some r.ty → more ≡ ks ++ r ∷ [] → IsTable ns name more
kept-one ns name ks more r h at e = record {
  grounded = h.grounded;
  apart = h.apart;
  named = h.named;
  recent = subst (AreRecent (types_after [] ns)) (sym e) (recent-one (types_after [] ns) ks r h.recent at);
}

-- a type with nothing put for its variables

mutual
  pub instance-none : (t : TypeTree) → type_instance [] t ≡ t
  instance-none (type_variable a) = refl
  instance-none (type_constructor c ts) = ap (type_constructor c) (instances-none ts)

  instances-none : (ts : TypeTrees) → types_instance [] ts ≡ ts
  instances-none no_types = refl
  instances-none (type_and t ts) = λ i. type_and (instance-none t i) (instances-none ts i)

no-names : (vs : List Chars) → length vs ≡ 0 → vs ≡ []
no-names [] h = refl
no-names (v ∷ vs) h = absurd (omega (arith, h))

-- a declared type without variables
pub at-none : (d : TypeTree) (ts : List TypeTree) → length (type_variables d) ≡ 0 → at_types d ts ≡ d
at-none d ts h = ap (λ (vs : List Chars). type_instance (zip vs ts) d) (no-names (type_variables d) h) ∙ instance-none d
