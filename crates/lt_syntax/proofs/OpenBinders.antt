-- Open binders and the depths of their names.
use Rattle.std.proofs.Common.{◌≡◌, ◌∙◌, inl, inr, ℕ, ◌+◌, List, [], ◌∷◌, ◌++◌, Bool, true, false, cond, if◌then◌else◌, Option, Some, None, length, refl, sym, ap, subst, arith, codes, decimal, drop, append-nil, append_assoc}
use Rattle.std.specs.Option.{unwrap_or}
use Rattle.std.specs.Map.{lookup}
use Rattle.lt_definitions.specs.Types.{Chars, same_name}
use Rattle.lt_definitions.specs.Printing.{printed_bound}
use Rattle.lt_definitions.proofs.SameNames.{bool_cases, name-true, true-name, name-false, false-name}
use Rattle.lt_syntax.specs.Depths.{depth_of, Opened, names_of, AreSaved, depth_in, IsKept}

same-swap : (x y : Chars) → same_name x y ≡ same_name y x
same-swap x y =
    elim (bool_cases (same_name x y)) [ inl t ↦ t ∙ sym (true-name y x (sym (name-true x y t))) | inr f ↦ f ∙ sym (false-name y x (λ e. name-false x y f (sym e))) ]

pub length-names_of : (entered : List Opened) (bs : List Chars) → length (names_of entered bs) ≡ length entered + length bs
length-names_of [] bs = omega arith
length-names_of (o ∷ entered) bs = omega (arith, length-names_of entered (o.0 ∷ bs))

pub names_of-append : (entered : List Opened) (o : Opened) (bs : List Chars) → names_of (entered ++ o ∷ []) bs ≡ o.0 ∷ names_of entered bs
names_of-append [] o bs = refl
names_of-append (p ∷ entered) o bs = names_of-append entered o (p.0 ∷ bs)

saved-append : (entered : List Opened) (o : Opened) (bs : List Chars) → AreSaved entered bs → o.1 ≡ depth_of o.0 (names_of entered bs) → AreSaved (entered ++ o ∷ []) bs
saved-append [] o bs h e = (e, tt)
saved-append (p ∷ entered) o bs h e = (h.0, saved-append entered o (p.0 ∷ bs) h.1 e)

saved-front : (entered : List Opened) (o : Opened) (bs : List Chars) → AreSaved (entered ++ o ∷ []) bs → AreSaved entered bs
saved-front [] o bs h = tt
saved-front (p ∷ entered) o bs h = (h.0, saved-front entered o (p.0 ∷ bs) h.1)

saved-last : (entered : List Opened) (o : Opened) (bs : List Chars) → AreSaved (entered ++ o ∷ []) bs → o.1 ≡ depth_of o.0 (names_of entered bs)
saved-last [] o bs h = h.0
saved-last (p ∷ entered) o bs h = saved-last entered o (p.0 ∷ bs) h.1

-- what a map holds after a name was set
abbrev pub IsSet : List Opened → List (Chars × Option ℕ) → Chars → Option ℕ → Type 0
IsSet entries later x d = (q : Chars) → lookup (same_name q) later ≡ cond (same_name x q) (Some d) (lookup (same_name q) entries)

set-depth : (b : Bool) (d : Option ℕ) (o : Option (Option ℕ)) → unwrap_or (cond b (Some d) o) None ≡ cond b d (unwrap_or o None)
set-depth true d o = refl
set-depth false d o = refl

depth_in-set : (entries later : List Opened) (x : Chars) (d : Option ℕ) → IsSet entries later x d → (q : Chars) → depth_in later q ≡ cond (same_name x q) d (depth_in entries q)
depth_in-set entries later x d h q = ap (λ (o : Option (Option ℕ)). unwrap_or o None) (h q) ∙ set-depth (same_name x q) d (lookup (same_name q) entries)

pub kept-new : IsKept [] []
kept-new = record { saved = tt; kept = λ x. refl }

-- a binder is opened
pub kept-enter : (entered more entries later : List Opened) (x y : Chars) (d : ℕ) (outer : Option ℕ) → IsKept entered entries → IsSet entries later x (Some d)
    → d ≡ length entered → outer ≡ depth_of y (names_of entered []) → x ≡ y → more ≡ entered ++ (y, outer) ∷ [] → IsKept more later
kept-enter entered more entries later x y d outer h s e o same m = record {
  saved = subst-saved (saved-append entered (y, outer) [] h.saved o);
  kept = λ q. depth_in-set entries later x (Some d) s q
      ∙ (λ i. cond (names q i) (Some (count i)) (h.kept q i))
      ∙ sym (ap (depth_of q) (ap (λ (es : List Opened). names_of es []) m ∙ names_of-append entered (y, outer) []));
}
  where
    subst-saved : AreSaved (entered ++ (y, outer) ∷ []) [] → AreSaved more []
    subst-saved k = subst (λ (es : List Opened). AreSaved es []) (sym m) k

    names : (q : Chars) → same_name x q ≡ same_name q y
    names q = same-swap x q ∙ ap (same_name q) same

    count : d ≡ length (names_of entered [])
    count = omega (arith, e, length-names_of entered [])

-- the innermost binder is closed
pub kept-leave : (entered left entries later : List Opened) (o : Opened) → IsKept entered entries → entered ≡ left ++ o ∷ [] → IsSet entries later o.0 o.1 → IsKept left later
kept-leave entered left entries later o h e s = record {
  saved = saved-front left o [] saved;
  kept = λ q. depth_in-set entries later o.0 o.1 s q ∙ elim (bool_cases (same_name o.0 q)) [ inl t ↦ own q t | inr f ↦ other q f ];
}
  where
    saved : AreSaved (left ++ o ∷ []) []
    saved = subst (λ (es : List Opened). AreSaved es []) e h.saved

    own : (q : Chars) → same_name o.0 q ≡ true → cond (same_name o.0 q) o.1 (depth_in entries q) ≡ depth_of q (names_of left [])
    own q t = ap (λ b. cond b o.1 (depth_in entries q)) t ∙ saved-last left o [] saved ∙ ap (λ (x : Chars). depth_of x (names_of left [])) (name-true o.0 q t)

    other : (q : Chars) → same_name o.0 q ≡ false → cond (same_name o.0 q) o.1 (depth_in entries q) ≡ depth_of q (names_of left [])
    other q f =
        ap (λ b. cond b o.1 (depth_in entries q)) f ∙ h.kept q
        ∙ ap (λ (es : List Opened). depth_of q (names_of es [])) e ∙ ap (depth_of q) (names_of-append left o [])
        ∙ ap (λ b. cond b (Some (length (names_of left []))) (depth_of q (names_of left []))) (same-swap q o.0 ∙ f)

-- a bound name's text by its depth
abbrev pub bound_text : Chars → Option ℕ → Chars
bound_text x None = x
bound_text x (Some d) = codes "x" ++ decimal d

picked : (c : Bool) (x : Chars) (bs : List Chars) → printed_bound x bs ≡ bound_text x (depth_of x bs)
    → (if c then codes "x" ++ decimal (length bs) else printed_bound x bs) ≡ bound_text x (if c then Some (length bs) else depth_of x bs)
picked true x bs h = refl
picked false x bs h = h

pub bound-depth : (x : Chars) (bs : List Chars) → printed_bound x bs ≡ bound_text x (depth_of x bs)
bound-depth x [] = refl
bound-depth x (b ∷ bs) = picked (same_name x b) x bs (bound-depth x bs)

-- without open binders none is closed
pub none-entered : (entered left : List Opened) → entered ≡ left ++ [] → length entered ≡ 0 → names_of left [] ≡ drop 1 (names_of entered [])
none-entered [] left e h = ap (λ (es : List Opened). names_of es []) (sym (append-nil left) ∙ sym e)
none-entered (o ∷ entered) left e h = absurd (omega arith)

-- a bound name with its binder, and without one
pub bound-found : (x : Chars) (bs : List Chars) (d : ℕ) (text signed named more : Chars) → Some d ≡ depth_of x bs → signed ≡ text ++ codes "%" → named ≡ signed ++ codes "x" → more ≡ named ++ decimal d
    → more ≡ text ++ (codes "%" ++ printed_bound x bs)
bound-found x bs d text signed named more e s n m =
    m ∙ ap (λ t. t ++ decimal d) (n ∙ ap (λ t. t ++ codes "x") s) ∙ regroup text (codes "%") (codes "x") (decimal d)
    ∙ ap (λ t. text ++ (codes "%" ++ t)) (sym (bound-depth x bs ∙ ap (bound_text x) (sym e)))
  where
    regroup : (a b c d : Chars) → ((a ++ b) ++ c) ++ d ≡ a ++ (b ++ (c ++ d))
    regroup a b c d = simp append_assoc

pub bound-loose : (x : Chars) (bs : List Chars) (text signed more : Chars) → None ≡ depth_of x bs → signed ≡ text ++ codes "%" → more ≡ signed ++ x → more ≡ text ++ (codes "%" ++ printed_bound x bs)
bound-loose x bs text signed more e s m =
    m ∙ ap (λ t. t ++ x) s ∙ append_assoc text (codes "%") x ∙ ap (λ t. text ++ (codes "%" ++ t)) (sym (bound-depth x bs ∙ ap (bound_text x) (sym e)))
