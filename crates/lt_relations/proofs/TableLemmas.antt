-- Tables under keys, and the lists that they are told as.
use Rattle.std.proofs.Common.{◌≡◌, ◌∙◌, ℕ, zero, suc, List, [], ◌∷◌, ◌++◌, map, take, find, Bool, true, false, ◌||◌, Option, Some, None, option_map, if◌then◌else◌, refl, sym, ap, subst}
use Rattle.std.proofs.lemmas.Bool.{cond-true, cond-false}
use Rattle.std.specs.List.{list_any, flat_map}
use Rattle.std.proofs.lemmas.List.{take-map}
use Rattle.std.proofs.lemmas.List.Folds.{list_any-append}
use Rattle.lt_definitions.specs.Types.{Chars, same_name, found}
use Rattle.lt_hol.specs.declared.property.Property.{Property}
use Rattle.lt_transport_definitions.specs.Relations.{Registry, Parametrised, correspondence_of, form_named}
use Rattle.lt_transport_definitions.specs.Answers.{given}
use Rattle.lt_relations.specs.declared.entries.Param.{Param}
use Rattle.lt_relations.specs.declared.entries.PropertyRule.{PropertyRule}
use Rattle.lt_relations.specs.Told.{param_told, property_name, sides_told, property_rule_told}
use Rattle.lt_relations.specs.Places.{has_premise}
use Rattle.lt_relations.specs.Tables.{things_told, AreKeyed}

-- an optional value by one test or another that is the same
same-choice : {A B : Type 0} (f : A → B) (b c : Bool) (x rest : Option A) (y later : Option B) → b ≡ c → option_map f x ≡ y → option_map f rest ≡ later
    → option_map f (if b then x else rest) ≡ (if c then y else later)
same-choice f b c x rest y later s e k = by b s
  where
    by : (b : Bool) → b ≡ c → option_map f (if b then x else rest) ≡ (if c then y else later)
    by true s = e ∙ sym (cond-true c y later (sym s))
    by false s = k ∙ sym (cond-false c y later (sym s))

-- what is found under a name is the first thing with that key
pub found-thing : {A B : Type 0} (key : A → Chars) (told : A → B) (test : B → Bool) (x : Chars) (es : List (Chars × A))
    → ((a : A) → same_name x (key a) ≡ test (told a)) → AreKeyed key es
    → option_map told (found x es) ≡ find test (things_told told es)
found-thing key told test x [] s k = refl
found-thing key told test x (e ∷ es) s k =
    same-choice told (same_name x e.0) (test (told e.1)) (Some e.1) (found x es) (Some (told e.1)) (find test (things_told told es))
    (ap (same_name x) k.0 ∙ s e.1) refl (found-thing key told test x es s k.1)

-- what is found by a second name
pub found-second : {A B V : Type 0} (name : A → Chars) (value : A → V) (told : A → B) (test : B → Bool) (f : B → V) (x : Chars) (es : List (Chars × A))
    → ((a : A) → test (told a) ≡ same_name x (name a)) → ((a : A) → f (told a) ≡ value a)
    → option_map f (find test (things_told told es)) ≡ found x (map (λ e. (name e.1, value e.1)) es)
found-second name value told test f x [] s v = refl
found-second name value told test f x (e ∷ es) s v =
    same-choice f (test (told e.1)) (same_name x (name e.1)) (Some (told e.1)) (find test (things_told told es)) (Some (value e.1)) (found x (map (λ d. (name d.1, value d.1)) es))
    (s e.1) (ap Some (v e.1)) (found-second name value told test f x es s v)

-- what is found in a list as it is told
pub found-told : {A B : Type 0} (told : A → B) (here : A → Bool) (test : B → Bool) (xs : List A) → ((a : A) → here a ≡ test (told a))
    → option_map told (find here xs) ≡ find test (map told xs)
found-told told here test [] s = refl
found-told told here test (x ∷ xs) s =
    same-choice told (here x) (test (told x)) (Some x) (find here xs) (Some (told x)) (find test (map told xs)) (s x) refl (found-told told here test xs s)

pub keyed-cut : {A : Type 0} (key : A → Chars) (n : ℕ) (es : List (Chars × A)) → AreKeyed key es → AreKeyed key (take n es)
keyed-cut key zero es k = tt
keyed-cut key (suc n) [] k = tt
keyed-cut key (suc n) (e ∷ es) k = (k.0, keyed-cut key n es k.1)

pub keyed-more : {A : Type 0} (key : A → Chars) (es : List (Chars × A)) (x : Chars) (a : A) → AreKeyed key es → x ≡ key a → AreKeyed key (es ++ (x, a) ∷ [])
keyed-more key [] x a k h = (h, tt)
keyed-more key (e ∷ es) x a k h = (k.0, keyed-more key es x a k.1 h)

-- premises of rules as they are told
pub premises-told : (p : Property) (rules : List PropertyRule)
    → list_any (λ r. has_premise p r.premises) rules
    ≡ list_any (λ side. same_name (property_name p) side.0) (flat_map (λ r. r.premises) (map property_rule_told rules))
premises-told p [] = refl
premises-told p (r ∷ rules) = (λ i. first r.premises i || premises-told p rules i) ∙ sym (list_any-append (λ side. same_name (property_name p) side.0) (sides_told r.premises) (flat_map (λ r. r.premises) (map property_rule_told rules)))
  where
    first : (sides : List (Property × ℕ)) → has_premise p sides ≡ list_any (λ side. same_name (property_name p) side.0) (sides_told sides)
    first [] = refl
    first (s ∷ sides) = ap (λ b. same_name (property_name p) (property_name s.0) || b) (first sides)

-- ---- what is left of the tables at a mark

pub keyed-same : {A : Type 0} (key : A → Chars) (n : ℕ) (es later : List (Chars × A)) → later ≡ take n es → AreKeyed key es → AreKeyed key later
keyed-same {A} key n es later e k = subst (λ (ls : List (Chars × A)). AreKeyed key ls) (sym e) (keyed-cut key n es k)

pub named-same : {A B : Type 0} (f : A → B) (n : ℕ) (xs later : List A) (ys names : List B) → later ≡ take n xs → names ≡ take n ys → ys ≡ map f xs → names ≡ map f later
named-same f n xs later ys names e d h = d ∙ ap (take n) h ∙ take-map f n xs ∙ ap (map f) (sym e)

pub told-same : {A B : Type 0} (f : A → B) (n : ℕ) (xs later : List A) (ys : List B) → later ≡ take n xs → map f xs ≡ ys → map f later ≡ take n ys
told-same f n xs later ys e h = ap (map f) e ∙ sym (take-map f n xs) ∙ ap (take n) h

-- the correspondence whose form has a name
pub form-found : (x : Chars) (forms : List (Chars × Param)) (G : Registry) → things_told param_told forms ≡ G.forms
    → (given (found x (map (λ e. (e.1.name, e.1.of)) forms)) λ of. correspondence_of G of) ≡ form_named G x
form-found x forms G h =
    ap (λ o. given o λ of. correspondence_of G of)
    (sym (found-second (λ p. p.name) (λ p. p.of) param_told (λ p. same_name x p.name) (λ p. p.of) x forms (λ p. refl) (λ p. refl)))
    ∙ by (find (λ p. same_name x p.name) (things_told param_told forms))
    ∙ ap (λ fs. given (find (λ p. same_name x p.name) fs) λ p. correspondence_of G p.of) h
  where
    by : (o : Option Parametrised) → (given (option_map (λ p. p.of) o) λ of. correspondence_of G of) ≡ (given o λ p. correspondence_of G p.of)
    by None = refl
    by (Some p) = refl

-- ---- the tables before the first registration

pub keyed-none : {A : Type 0} (key : A → Chars) (es : List (Chars × A)) → es ≡ [] → AreKeyed key es
keyed-none {A} key es e = subst (λ (ls : List (Chars × A)). AreKeyed key ls) (sym e) tt

pub keyed-one : {A : Type 0} (key : A → Chars) (es later : List (Chars × A)) (x : Chars) (a : A) → es ≡ [] → later ≡ es ++ (x, a) ∷ [] → x ≡ key a → AreKeyed key later
keyed-one {A} key es later x a e h k = subst (λ (ls : List (Chars × A)). AreKeyed key ls) (sym h) (keyed-more key es x a (keyed-none key es e) k)

pub named-none : {A B : Type 0} (f : A → B) (xs : List A) (ys : List B) → xs ≡ [] → ys ≡ [] → ys ≡ map f xs
named-none f xs ys e h = h ∙ sym (ap (map f) e)
