-- What commands register leaves a registry one that meets what the laws ask.
use Rattle.std.specs.Prelude.{◌≡◌, ◌⊎◌, List, [], ◌∷◌, ◌++◌, Bool, true, false, if◌then◌else◌, Option, Some, None, codes, find, option_map, unwrap_or}
use Rattle.std.proofs.Common.{refl, subst, sym, ap, ◌∙◌, inl, inr}
use Rattle.lt_definitions.specs.Types.{Chars, same_name}
use Rattle.lt_definitions.specs.Typing.{earlier}
use Rattle.lt_definitions.proofs.SameNames.{bool_cases, name-true, true-name}
use Rattle.lt_nameless.proofs.BindingLemmas.{if-true, if-false}
use Rattle.lt_transport_definitions.specs.Relations.{Relator, Correspondence, Registry, function_relator_name, correspondence_of, no_constructor, a_relator, a_correspondence, a_form, form_named, relator_named, kind_of}
use Rattle.lt_transport_laws.specs.Statements.{IsRegistry}

-- what a kind is told by
kind-named : (o : Option Chars) (d e : Option Correspondence) (K : Chars)
    → unwrap_or (earlier (option_map a_relator o) (earlier (option_map a_correspondence d) (option_map a_form e))) no_constructor ≡ a_relator K → o ≡ Some K
kind-named (Some L) d e K h = let p : L ≡ K = cc in ap Some p
kind-named None (Some d) e K h = absurd (cc)
kind-named None None (Some e) K h = absurd (cc)
kind-named None None None K h = absurd (cc)

named-kind : (o : Option Chars) (d e : Option Correspondence) (K : Chars) → o ≡ Some K
    → unwrap_or (earlier (option_map a_relator o) (earlier (option_map a_correspondence d) (option_map a_form e))) no_constructor ≡ a_relator K
named-kind (Some L) d e K h = let p : L ≡ K = cc in ap a_relator p
named-kind None d e K h = absurd (cc)

pub kind-is : (G : Registry) (c K : Chars) → kind_of G c ≡ a_relator K → relator_named G c ≡ Some K
kind-is G c K h = kind-named (relator_named G c) (correspondence_of G c) (form_named G c) K h

pub is-kind : (G : Registry) (c K : Chars) → relator_named G c ≡ Some K → kind_of G c ≡ a_relator K
is-kind G c K h = named-kind (relator_named G c) (correspondence_of G c) (form_named G c) K h

-- what stands beside a key among relators, with what is built in
abbrev among : (f g : Relator → Chars) → (kf kg : Chars) → List Relator → Chars → Option Chars
among f g kf kg rs x = if same_name x kf then Some kg else option_map g (find (λ r. same_name x (f r)) rs)

-- the relator of a type constructor
abbrev pub for_among : List Relator → Chars → Option Chars
for_among rs K = among (λ r. r.con) (λ r. r.rel) (codes "fun") function_relator_name rs K

-- the type constructor of a relator
abbrev pub named_among : List Relator → Chars → Option Chars
named_among rs c = among (λ r. r.rel) (λ r. r.con) function_relator_name (codes "fun") rs c

-- what a registry that meets the laws says of its relators
abbrev pub AreSound : List Relator → Type 0
AreSound rs = ((K c : Chars) → for_among rs K ≡ Some c → named_among rs c ≡ Some K)
    × ((K c : Chars) → named_among rs c ≡ Some K → for_among rs K ≡ Some c) × (for_among rs (codes "bool") ≡ None)

pub sound-registry : (G : Registry) → AreSound G.relators → IsRegistry G
sound-registry G h = record {
  names = λ K c e. is-kind G c K (h.0 K c e);
  relators = λ K c e. h.1 K c (kind-is G c K e);
  truth = h.2;
}

pub registry-sound : (G : Registry) → IsRegistry G → AreSound G.relators
registry-sound G h = (λ K c e. kind-is G c K (h.names K c e), λ K c e. h.relators K c (is-kind G c K e), h.truth)

-- what is found in a list with one more at its end
find-found : {A : Type 0} (test : A → Bool) (xs : List A) (x y : A) → find test xs ≡ Some y → find test (xs ++ x ∷ []) ≡ Some y
find-found test [] x y h = absurd (cc)
find-found test (z ∷ xs) x y h = elim (bool_cases (test z)) [
  | inl s ↦ if-true (test z) (Some z) (find test (xs ++ x ∷ [])) s ∙ sym (if-true (test z) (Some z) (find test xs) s) ∙ h
  | inr s ↦ if-false (test z) (Some z) (find test (xs ++ x ∷ [])) s
      ∙ find-found test xs x y (sym (if-false (test z) (Some z) (find test xs) s) ∙ h)
]

find-last : {A : Type 0} (test : A → Bool) (xs : List A) (x : A) → find test xs ≡ None → find test (xs ++ x ∷ []) ≡ (if test x then Some x else None)
find-last test [] x h = refl
find-last test (z ∷ xs) x h = elim (bool_cases (test z)) [
  | inl s ↦ absurd (some-none z (sym (if-true (test z) (Some z) (find test xs) s) ∙ h))
  | inr s ↦ if-false (test z) (Some z) (find test (xs ++ x ∷ [])) s ∙ find-last test xs x (sym (if-false (test z) (Some z) (find test xs) s) ∙ h)
]
  where
    some-none : {A : Type 0} (y : A) → ◌≡◌ {A = Option A} (Some y) None → ⊥
    some-none y e = cc

-- an optional value is none or some
optional : {A : Type 0} (o : Option A) → ((y : A) × (o ≡ Some y)) ⊎ (o ≡ None)
optional (Some y) = inl (y, refl)
optional None = inr refl

map-some : {A B : Type 0} (f : A → B) (o : Option A) (z : B) → option_map f o ≡ Some z → (y : A) × (o ≡ Some y) × (f y ≡ z)
map-some f (Some y) z h = (y, refl, (let p : f y ≡ z = cc in p))
map-some f None z h = absurd (cc)

map-none : {A B : Type 0} (f : A → B) (o : Option A) → option_map f o ≡ None → o ≡ None
map-none f None h = refl
map-none f (Some x) h = absurd (cc)

not-some : (t : Bool) (x : Chars) (o : Option Chars) → (if t then Some x else o) ≡ None → (t ≡ false) × (o ≡ None)
not-some true x o h = absurd (cc)
not-some false x o h = (refl, h)

-- what is found stays found
kept : (f g : Relator → Chars) (kf kg : Chars) (rs : List Relator) (r : Relator) (x y : Chars) → among f g kf kg rs x ≡ Some y → among f g kf kg (rs ++ r ∷ []) x ≡ Some y
kept f g kf kg rs r x y h = elim (bool_cases (same_name x kf)) [
  | inl s ↦ if-true (same_name x kf) (Some kg) (option_map g (find (λ q. same_name x (f q)) (rs ++ r ∷ []))) s
      ∙ sym (if-true (same_name x kf) (Some kg) (option_map g (find (λ q. same_name x (f q)) rs)) s) ∙ h
  | inr s ↦
      let p = map-some g (find (λ q. same_name x (f q)) rs) y (sym (if-false (same_name x kf) (Some kg) (option_map g (find (λ q. same_name x (f q)) rs)) s) ∙ h) in
      if-false (same_name x kf) (Some kg) (option_map g (find (λ q. same_name x (f q)) (rs ++ r ∷ []))) s
      ∙ ap (option_map g) (find-found (λ q. same_name x (f q)) rs r p.0 p.1) ∙ ap Some p.2
]

-- what is new is found at the end
fresh : (f g : Relator → Chars) (kf kg : Chars) (rs : List Relator) (r : Relator) → among f g kf kg rs (f r) ≡ None → among f g kf kg (rs ++ r ∷ []) (f r) ≡ Some (g r)
fresh f g kf kg rs r h =
    let p = not-some (same_name (f r) kf) kg (option_map g (find (λ q. same_name (f r) (f q)) rs)) h in
    if-false (same_name (f r) kf) (Some kg) (option_map g (find (λ q. same_name (f r) (f q)) (rs ++ r ∷ []))) p.0
    ∙ ap (option_map g) (find-last (λ q. same_name (f r) (f q)) rs r (map-none g (find (λ q. same_name (f r) (f q)) rs) p.1)
    ∙ if-true (same_name (f r) (f r)) (Some r) None (true-name (f r) (f r) refl))

-- a value through a choice and a map
through : {A B : Type 0} (f : A → B) (test : Bool) (x : A) (z : B) → option_map f (if test then Some x else None) ≡ Some z → (test ≡ true) × (f x ≡ z)
through f true x z h = (refl, (let p : f x ≡ z = cc in p))
through f false x z h = absurd (cc)

-- one direction with one more
more : (f g : Relator → Chars) (kf kg : Chars) (rs : List Relator) (r : Relator)
    → ((x y : Chars) → among f g kf kg rs x ≡ Some y → among g f kg kf rs y ≡ Some x) → among g f kg kf rs (g r) ≡ None
    → (x y : Chars) → among f g kf kg (rs ++ r ∷ []) x ≡ Some y → among g f kg kf (rs ++ r ∷ []) y ≡ Some x
more f g kf kg rs r h n x y e = elim (bool_cases (same_name x kf)) [
  | inl s ↦ kept g f kg kf rs r y x (h x y (if-true (same_name x kf) (Some kg) (option_map g (find (λ q. same_name x (f q)) rs)) s
      ∙ sym (if-true (same_name x kf) (Some kg) (option_map g (find (λ q. same_name x (f q)) (rs ++ r ∷ []))) s) ∙ e))
  | inr s ↦
      let d : option_map g (find (λ q. same_name x (f q)) (rs ++ r ∷ [])) ≡ Some y =
      sym (if-false (same_name x kf) (Some kg) (option_map g (find (λ q. same_name x (f q)) (rs ++ r ∷ []))) s) ∙ e in
      elim (optional (find (λ q. same_name x (f q)) rs)) [
        | inl p ↦ kept g f kg kf rs r y x (h x y (if-false (same_name x kf) (Some kg) (option_map g (find (λ q. same_name x (f q)) rs)) s
            ∙ ap (option_map g) (p.1 ∙ sym (find-found (λ q. same_name x (f q)) rs r p.0 p.1)) ∙ d))
        | inr p ↦
            let w = through g (same_name x (f r)) r y (sym (ap (option_map g) (find-last (λ q. same_name x (f q)) rs r p)) ∙ d) in
            subst (λ (z : Chars). among g f kg kf (rs ++ r ∷ []) z ≡ Some x) w.1 (fresh g f kg kf rs r n ∙ ap Some (sym (name-true x (f r) w.0)))
      ]
]

-- A new relator, of a constructor that has none and isn't bool, and of a name that is none.
pub sound-more : (rs : List Relator) (r : Relator) → AreSound rs → for_among rs r.con ≡ None → named_among rs r.rel ≡ None
    → same_name (codes "bool") r.con ≡ false → AreSound (rs ++ r ∷ [])
sound-more rs r h a b m = (
  more (λ q. q.con) (λ q. q.rel) (codes "fun") function_relator_name rs r h.0 b,
  (λ K c e. more (λ q. q.rel) (λ q. q.con) function_relator_name (codes "fun") rs r (λ x y d. h.1 y x d) a c K e),
  ap (option_map (λ q. q.rel)) (find-last (λ q. same_name (codes "bool") q.con) rs r (map-none (λ q. q.rel) (find (λ q. same_name (codes "bool") q.con) rs) h.2)
      ∙ if-false (same_name (codes "bool") r.con) (Some r) None m),
)
