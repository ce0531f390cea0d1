-- Open binders and the innermost binder of each name.
use Rattle.std.proofs.Common.{◌≡◌, ◌∙◌, inl, inr, ℕ, suc, ◌+◌, ◌-◌, ◌<◌, List, [], ◌∷◌, ◌++◌, Bool, true, false, cond, if◌then◌else◌, Option, Some, None, length, refl, sym, ap, subst, arith, drop, append-nil}
use Rattle.std.specs.Option.{unwrap_or}
use Rattle.std.specs.Map.{lookup}
use Rattle.lt_definitions.specs.Types.{Chars, same_name}
use Rattle.lt_definitions.proofs.SameNames.{bool_cases, name-true, true-name, name-false, false-name}
use Rattle.lt_terms.specs.declared.bound_names.Binder.{Binder}
use Rattle.lt_terms.specs.declared.scope.Opening.{Opening}
use Rattle.lt_terms.specs.declared.scope.Entered.{Entered}
use Rattle.lt_terms.specs.BoundNames.{Places, binder_of, further}
use Rattle.lt_terms.specs.Scopes.{opening_of, places_of, AreSaved, opening_in, IsKept}

same-swap : (x y : Chars) → same_name x y ≡ same_name y x
same-swap x y =
    elim (bool_cases (same_name x y)) [ inl t ↦ t ∙ sym (true-name y x (sym (name-true x y t))) | inr f ↦ f ∙ sym (false-name y x (λ e. name-false x y f (sym e))) ]

pub length-places_of : (entered : List Entered) (bs : Places) → length (places_of entered bs) ≡ length entered + length bs
length-places_of [] bs = omega arith
length-places_of (e ∷ entered) bs = omega (arith, length-places_of entered ((e.name, e.place) ∷ bs))

pub places_of-append : (entered : List Entered) (e : Entered) (bs : Places) → places_of (entered ++ e ∷ []) bs ≡ (e.name, e.place) ∷ places_of entered bs
places_of-append [] e bs = refl
places_of-append (p ∷ entered) e bs = places_of-append entered e ((p.name, p.place) ∷ bs)

saved-append : (entered : List Entered) (e : Entered) (bs : Places) → AreSaved entered bs → e.outside ≡ opening_of e.name (places_of entered bs) → AreSaved (entered ++ e ∷ []) bs
saved-append [] e bs h o = (o, tt)
saved-append (p ∷ entered) e bs h o = (h.0, saved-append entered e ((p.name, p.place) ∷ bs) h.1 o)

saved-front : (entered : List Entered) (e : Entered) (bs : Places) → AreSaved (entered ++ e ∷ []) bs → AreSaved entered bs
saved-front [] e bs h = tt
saved-front (p ∷ entered) e bs h = (h.0, saved-front entered e ((p.name, p.place) ∷ bs) h.1)

saved-last : (entered : List Entered) (e : Entered) (bs : Places) → AreSaved (entered ++ e ∷ []) bs → e.outside ≡ opening_of e.name (places_of entered bs)
saved-last [] e bs h = h.0
saved-last (p ∷ entered) e bs h = saved-last entered e ((p.name, p.place) ∷ bs) h.1

-- what a map holds after a name was set
abbrev pub IsSet : List (Chars × Option Opening) → List (Chars × Option Opening) → Chars → Option Opening → Type 0
IsSet entries later x o = (q : Chars) → lookup (same_name q) later ≡ cond (same_name x q) (Some o) (lookup (same_name q) entries)

set-opening : (b : Bool) (d : Option Opening) (o : Option (Option Opening)) → unwrap_or (cond b (Some d) o) None ≡ cond b d (unwrap_or o None)
set-opening true d o = refl
set-opening false d o = refl

opening_in-set : (entries later : List (Chars × Option Opening)) (x : Chars) (d : Option Opening) → IsSet entries later x d → (q : Chars) → opening_in later q ≡ cond (same_name x q) d (opening_in entries q)
opening_in-set entries later x d h q = ap (λ (o : Option (Option Opening)). unwrap_or o None) (h q) ∙ set-opening (same_name x q) d (lookup (same_name q) entries)

pub kept-new : IsKept [] []
kept-new = record { saved = tt; kept = λ x. refl }

-- a binder is opened
pub kept-enter : (entered more : List Entered) (entries later : List (Chars × Option Opening)) (x : Chars) (e : Entered) (d : ℕ) → IsKept entered entries
    → IsSet entries later x (Some (record { place = e.place; depth = d })) → d ≡ length entered → e.outside ≡ opening_of e.name (places_of entered []) → x ≡ e.name → more ≡ entered ++ e ∷ [] → IsKept more later
kept-enter entered more entries later x e d h s n o same m = record {
  saved = subst (λ (es : List Entered). AreSaved es []) (sym m) (saved-append entered e [] h.saved o);
  kept = λ q. opening_in-set entries later x (Some (record { place = e.place; depth = d })) s q
      ∙ (λ i. cond (names q i) (Some (record { place = e.place; depth = count i })) (h.kept q i))
      ∙ sym (ap (opening_of q) (ap (λ (es : List Entered). places_of es []) m ∙ places_of-append entered e []));
}
  where
    names : (q : Chars) → same_name x q ≡ same_name q e.name
    names q = same-swap x q ∙ ap (same_name q) same

    count : d ≡ length (places_of entered [])
    count = omega (arith, n, length-places_of entered [])

-- the innermost binder is closed
pub kept-leave : (entered left : List Entered) (entries later : List (Chars × Option Opening)) (e : Entered) → IsKept entered entries → entered ≡ left ++ e ∷ [] → IsSet entries later e.name e.outside → IsKept left later
kept-leave entered left entries later e h is s = record {
  saved = saved-front left e [] saved;
  kept = λ q. opening_in-set entries later e.name e.outside s q ∙ elim (bool_cases (same_name e.name q)) [ inl t ↦ own q t | inr f ↦ other q f ];
}
  where
    saved : AreSaved (left ++ e ∷ []) []
    saved = subst (λ (es : List Entered). AreSaved es []) is h.saved

    own : (q : Chars) → same_name e.name q ≡ true → cond (same_name e.name q) e.outside (opening_in entries q) ≡ opening_of q (places_of left [])
    own q t = ap (λ b. cond b e.outside (opening_in entries q)) t ∙ saved-last left e [] saved ∙ ap (λ (x : Chars). opening_of x (places_of left [])) (name-true e.name q t)

    other : (q : Chars) → same_name e.name q ≡ false → cond (same_name e.name q) e.outside (opening_in entries q) ≡ opening_of q (places_of left [])
    other q f =
        ap (λ b. cond b e.outside (opening_in entries q)) f ∙ h.kept q
        ∙ ap (λ (es : List Entered). opening_of q (places_of es [])) is ∙ ap (opening_of q) (places_of-append left e [])
        ∙ ap (λ b. cond b (Some (record { place = e.place; depth = length (places_of left []) })) (opening_of q (places_of left []))) (same-swap q e.name ∙ f)

-- without open binders none is closed
pub none-entered : (entered left : List Entered) → entered ≡ left ++ [] → length entered ≡ 0 → places_of left [] ≡ drop 1 (places_of entered [])
none-entered [] left e h = ap (λ (es : List Entered). places_of es []) (sym (append-nil left) ∙ sym e)
none-entered (o ∷ entered) left e h = absurd (omega arith)

-- fewer binders are around a binder than around its names
abbrev IsBelow : ℕ → Option Opening → Type 0
IsBelow n None = Unit {0}
IsBelow n (Some o) = o.depth < n

below-more : (n : ℕ) (o : Option Opening) → IsBelow n o → IsBelow (suc n) o
below-more n None h = tt
below-more n (Some o) h = omega (arith, h)

below-picked : (c : Bool) (b : Chars × ℕ) (bs : Places) (o : Option Opening) → IsBelow (length bs) o → IsBelow (suc (length bs)) (if c then Some (record { place = b.1; depth = length bs }) else o)
below-picked true b bs o h = omega arith
below-picked false b bs o h = below-more (length bs) o h

is-below : (x : Chars) (bs : Places) → IsBelow (length bs) (opening_of x bs)
is-below x [] = tt
is-below x (b ∷ bs) = below-picked (same_name x b.0) b bs (opening_of x bs) (is-below x bs)

pub found-below : (x : Chars) (bs : Places) (o : Opening) → Some o ≡ opening_of x bs → o.depth < length bs
found-below x bs o e = subst (IsBelow (length bs)) (sym e) (is-below x bs)

abbrev binder : ℕ → ℕ → Option Binder
binder place index = Some (record { place = place; index = index })

-- a binder by the number of binders around the name
abbrev pub from_outside : ℕ → Option Opening → Option Binder
from_outside n None = None
from_outside n (Some o) = Some (record { place = o.place; index = (n - 1) - o.depth })

further-outside : (n : ℕ) (o : Option Opening) → IsBelow n o → further (from_outside n o) ≡ from_outside (suc n) o
further-outside n None h = refl
further-outside n (Some o) h =
    let e : suc ((n - 1) - o.depth) ≡ (suc n - 1) - o.depth = omega (arith, h) in ap (binder o.place) e

picked : (c : Bool) (b : Chars × ℕ) (bs : Places) (o : Option Opening) (found : Option Binder) → IsBelow (length bs) o → found ≡ from_outside (length bs) o
    → (if c then Some (record { place = b.1; index = 0 }) else further found) ≡ from_outside (suc (length bs)) (if c then Some (record { place = b.1; depth = length bs }) else o)
picked true b bs o found h e = let none : 0 ≡ (suc (length bs) - 1) - length bs = omega arith in ap (binder b.1) none
picked false b bs o found h e = ap further e ∙ further-outside (length bs) o h

pub binder-outside : (x : Chars) (bs : Places) → binder_of x bs ≡ from_outside (length bs) (opening_of x bs)
binder-outside x [] = refl
binder-outside x (b ∷ bs) = picked (same_name x b.0) b bs (opening_of x bs) (binder_of x bs) (is-below x bs) (binder-outside x bs)
