-- What the bounds of a term tell of it.
use Rattle.std.proofs.Common.{◌≡◌, ℕ, zero, suc, ◌+◌, ◌<◌, ◌≤◌, List, [], ◌∷◌, ◌++◌, length, length-append, slice_get, Option, Some, None, get_or, subst, Bool, true, false, ◌||◌, ◌&&◌, if◌then◌else◌, refl, ap, sym, ◌∙◌, arith, nat_eq, ◌⊎◌, inl, inr}
use Rattle.std.specs.Prelude.{max, IfSome}
use Rattle.std.proofs.lemmas.Grind.{common_steps}
use Rattle.std.proofs.lemmas.Bool.Decides.{nat_tests}
use Rattle.std.proofs.lemmas.Bool.{cases_lt}
use Rattle.std.proofs.lemmas.List.{get_or_append_left}
use Rattle.std.proofs.lemmas.Option.{same_Some, slice_get-get_or, slice_get_within, get_or_from_slice_get}
use Rattle.std.proofs.Math.Seq.{get_or-append_seam}
use Rattle.lt_definitions.specs.Types.{Chars, same_name, TypeTree, same_type}
use Rattle.lt_nameless.specs.Nameless.{Nameless, nameless_free, nameless_bound, nameless_loose, nameless_constant, nameless_application, nameless_abstraction, IsWhole}
use Rattle.lt_nameless.specs.NamelessRules.{instance_at, abstracted, nameless_replaced, nameless_has_free, has_index}
use Rattle.lt_nameless.proofs.ClosedSteps.{further}
use Rattle.lt_store.specs.declared.node.Node.{Node}
use Rattle.lt_store.specs.declared.bounds.Bounds.{Bounds}
use Rattle.lt_store.specs.declared.change.Change.{Change}
use Rattle.lt_store.specs.declared.change.Change.TheVariants.{Open, Close, Replace, Types}
use Rattle.lt_store.specs.declared.change.Sought.{Sought}
use Rattle.lt_store.specs.declared.change.Sought.TheVariants.{Variable, Loose}
use Rattle.lt_store.specs.declared.change.Work.TheVariants.{Make, Find}
use Rattle.lt_store.specs.Trees.{tree_at, Extends}
use Rattle.lt_store.specs.Bounds.{IsBounded, AreBounded, IsUnchanged, IsAbsent}
use Rattle.lt_store.specs.Passes.{image, occurs, IsResult, number}
use Rattle.lt_store.proofs.TreeLemmas.{tree_at-extends}
use Rattle.lt_store.proofs.LongestNames.{longer-not-free}

inner-differs : (i d : ℕ) → i < d → nat_eq i d ≡ false
inner-differs i d h = grind (arith, common_steps, nat_tests)

or-false : (p q : Bool) → (p || q) ≡ false → (p ≡ false) × (q ≡ false)
or-false true q e = cc e
or-false false q e = (refl, e)

-- what a term with all its binders has no loose name for stays
instance-none : (d : ℕ) (by t : Nameless) → IsWhole d t → instance_at d by t ≡ t
instance-none d by (nameless_free x ty) w = refl
instance-none d by (nameless_bound i) w = ap (λ b. if b then by else nameless_bound i) (inner-differs i d w)
instance-none d by (nameless_loose x) w = refl
instance-none d by (nameless_constant c ts) w = refl
instance-none d by (nameless_application f a) w = λ i. nameless_application (instance-none d by f w.0 i) (instance-none d by a w.1 i)
instance-none d by (nameless_abstraction ty b) w = ap (nameless_abstraction ty) (instance-none (suc d) by b w)

index-none : (d : ℕ) (t : Nameless) → IsWhole d t → has_index d t ≡ false
index-none d (nameless_free x ty) w = refl
index-none d (nameless_bound i) w = inner-differs i d w
index-none d (nameless_loose x) w = refl
index-none d (nameless_constant c ts) w = refl
index-none d (nameless_application f a) w = ap (λ b. b || has_index d a) (index-none d f w.0) ∙ index-none d a w.1
index-none d (nameless_abstraction ty b) w = index-none (suc d) b w

-- a term without the variable stays
abstracted-none : (d : ℕ) (x : Chars) (ty : TypeTree) (t : Nameless) → nameless_has_free x ty t ≡ false → abstracted d x ty t ≡ t
abstracted-none d x ty (nameless_free y u) e = ap (λ b. if b then nameless_bound d else nameless_free y u) e
abstracted-none d x ty (nameless_bound i) e = refl
abstracted-none d x ty (nameless_loose y) e = refl
abstracted-none d x ty (nameless_constant c ts) e = refl
abstracted-none d x ty (nameless_application f a) e =
    let both = or-false (nameless_has_free x ty f) (nameless_has_free x ty a) e in
    λ i. nameless_application (abstracted-none d x ty f both.0 i) (abstracted-none d x ty a both.1 i)
abstracted-none d x ty (nameless_abstraction u b) e = ap (nameless_abstraction u) (abstracted-none (suc d) x ty b e)

replaced-none : (x : Chars) (ty : TypeTree) (by t : Nameless) → nameless_has_free x ty t ≡ false → nameless_replaced x ty by t ≡ t
replaced-none x ty by (nameless_free y u) e = ap (λ b. if b then by else nameless_free y u) e
replaced-none x ty by (nameless_bound i) e = refl
replaced-none x ty by (nameless_loose y) e = refl
replaced-none x ty by (nameless_constant c ts) e = refl
replaced-none x ty by (nameless_application f a) e =
    let both = or-false (nameless_has_free x ty f) (nameless_has_free x ty a) e in
    λ i. nameless_application (replaced-none x ty by f both.0 i) (replaced-none x ty by a both.1 i)
replaced-none x ty by (nameless_abstraction u b) e = ap (nameless_abstraction u) (replaced-none x ty by b e)

variable-none : (x : Chars) (ty : TypeTree) (t : Nameless) (b : Bounds) → IsBounded t b → b.names < length x → nameless_has_free x ty t ≡ false
variable-none x ty t b known h = longer-not-free x ty t (omega (arith, known.names, h))

-- no change of a term that its bounds tell to stay
image-none : (ns : List Node) (c : Change) (b : Bounds) (d : ℕ) (t : Nameless) → IsBounded t b → IsUnchanged c b d → image ns c d t ≡ t
image-none ns (Open by) b d t known h = instance-none d (tree_at ns by) t (further b.binders d t h known.binders)
image-none ns (Close x ty) b d t known h = abstracted-none d x.now ty.now t (variable-none x.now ty.now t b known h)
image-none ns (Replace x ty by) b d t known h = replaced-none x.now ty.now (tree_at ns by) t (variable-none x.now ty.now t b known h)
image-none ns (Types m) b d t known h = absurd h

occurs-none : (s : Sought) (b : Bounds) (d : ℕ) (t : Nameless) → IsBounded t b → IsAbsent s b d → occurs s d t ≡ false
occurs-none (Variable x ty) b d t known h = variable-none x.now ty.now t b known h
occurs-none Loose b d t known h = index-none d t (further b.binders d t h known.binders)

-- so the results are told
pub unchanged_result : (ns : List Node) (c : Change) (b : Bounds) (i d : ℕ) → i < length ns → IsBounded (tree_at ns i) b → IsUnchanged c b d → IsResult (Make c) ns i d i
unchanged_result ns c b i d within known h = (within, sym (image-none ns c b d (tree_at ns i) known h))

pub absent_result : (ns : List Node) (s : Sought) (b : Bounds) (i d : ℕ) → IsBounded (tree_at ns i) b → IsAbsent s b d → IsResult (Find s) ns i d 0
absent_result ns s b i d known h = sym (ap number (occurs-none s b d (tree_at ns i) known h))

-- bounds of the terms of a store as it grows
pub bounded-extends : (old new : List Node) (bs : List Bounds) → Extends old new → AreBounded old bs → AreBounded new bs
bounded-extends old new bs e known i b at =
    let here = known i b at in
    (omega (arith, e.grows, here.0), subst (λ t. IsBounded t b) (sym (tree_at-extends old new i e here.0)) here.1)

pub bounded-push : (ns : List Node) (before after : List Bounds) (b : Bounds) (id : ℕ) → after ≡ before ++ b ∷ [] → id ≡ length before → id < length ns → IsBounded (tree_at ns id) b
    → AreBounded ns before → AreBounded ns after
bounded-push ns before after b id e place within here known i c at = by (cases_lt i (length before))
  where
    there : slice_get (before ++ b ∷ []) i ≡ Some c
    there = subst (λ (bs : List Bounds). slice_get bs i ≡ Some c) e at

    by : (i < length before) ⊎ (length before ≤ i) → (i < length ns) × IsBounded (tree_at ns i) c
    by (inl l) = known i c (slice_get-get_or before i b l ∙ ap Some (sym (get_or_append_left before (b ∷ []) b i l)) ∙ sym (slice_get-get_or (before ++ b ∷ []) i b (slice_get_within (before ++ b ∷ []) i c there)) ∙ there)
    by (inr l) =
        let last : i ≡ length before = omega (arith, l, slice_get_within (before ++ b ∷ []) i c there, length-append before (b ∷ [])) in
        let same : b ≡ c = sym (get_or-append_seam before b [] b) ∙ ap (λ k. get_or (before ++ b ∷ []) k b) (sym last) ∙ get_or_from_slice_get (before ++ b ∷ []) i c b there in
        let at_id : i ≡ id = last ∙ sym place in
        (omega (arith, within, at_id), subst (λ k. IsBounded (tree_at ns k) c) (sym at_id) (subst (λ (k : Bounds). IsBounded (tree_at ns id) k) same here))

-- bounds of a node's term from those of its children
pub bounded-application : (f a : Nameless) (b c r : Bounds) → b.binders ≤ r.binders → c.binders ≤ r.binders → max b.names c.names ≡ r.names → IsBounded f b → IsBounded a c → IsBounded (nameless_application f a) r
bounded-application f a b c r hb hc names kf ka = record {
  binders = (further b.binders r.binders f hb kf.binders, further c.binders r.binders a hc ka.binders);
  names = (λ i. max (kf.names i) (ka.names i)) ∙ names;
}

pub bounded-abstraction : (t : Nameless) (ty : TypeTree) (b r : Bounds) → b.binders ≤ suc r.binders → b.names ≡ r.names → IsBounded t b → IsBounded (nameless_abstraction ty t) r
bounded-abstraction t ty b r h names known = record { binders = further b.binders (suc r.binders) t h known.binders; names = known.names ∙ names }

-- what is looked up
pub bounded-look : (ns : List Node) (bs : List Bounds) (id : ℕ) (o : Option Bounds) → slice_get bs id ≡ o → AreBounded ns bs → IfSome o (IsBounded (tree_at ns id))
bounded-look ns bs id None e known = tt
bounded-look ns bs id (Some b) e known = (known id b e).1
