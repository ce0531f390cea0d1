-- Tables and lists with one thing more.
use Rattle.std.proofs.Common.{◌≡◌, ◌∙◌, List, [], ◌∷◌, ◌++◌, map, find, Bool, true, false, ◌||◌, Option, Some, None, option_map, is_some, if◌then◌else◌, refl, sym, ap, subst}
use Rattle.std.specs.List.{list_any}
use Rattle.std.proofs.lemmas.Bool.{cond-true, cond-false}
use Rattle.std.proofs.lemmas.List.{map-append}
use Rattle.lt_definitions.specs.Types.{Chars, same_name, found}
use Rattle.lt_transport_definitions.specs.Commands.{unless_there}
use Rattle.lt_relations.specs.Tables.{things_told, AreKeyed}
use Rattle.lt_relations.proofs.TableLemmas.{found-thing, found-second, found-told, keyed-more}

-- whether a thing passes a test is whether one is found
pub any-found : {A : Type 0} (test : A → Bool) (xs : List A) → list_any test xs ≡ is_some (find test xs)
any-found test [] = refl
any-found {A} test (x ∷ xs) = by (test x) (any-found test xs)
  where
    by : (b : Bool) → list_any test xs ≡ is_some (find test xs) → (b || list_any test xs) ≡ is_some (if b then Some x else find test xs)
    by true h = refl
    by false h = h

pub some-map : {A B : Type 0} (f : A → B) (o : Option A) → is_some (option_map f o) ≡ is_some o
some-map f None = refl
some-map f (Some x) = refl

pub any-keyed : {A B : Type 0} (key : A → Chars) (told : A → B) (test : B → Bool) (x : Chars) (es : List (Chars × A))
    → ((a : A) → same_name x (key a) ≡ test (told a)) → AreKeyed key es
    → list_any test (things_told told es) ≡ is_some (found x es)
any-keyed key told test x es s k = any-found test (things_told told es) ∙ ap is_some (sym (found-thing key told test x es s k)) ∙ some-map told (found x es)

pub any-told : {A B : Type 0} (told : A → B) (here : A → Bool) (test : B → Bool) (xs : List A) → ((a : A) → here a ≡ test (told a))
    → list_any test (map told xs) ≡ is_some (find here xs)
any-told told here test xs s = any-found test (map told xs) ∙ ap is_some (sym (found-told told here test xs s)) ∙ some-map told (find here xs)

-- what is wanted of a name that nothing stands under
pub none-keyed : {A B : Type 0} (key : A → Chars) (told : A → B) (test : B → Bool) (x : Chars) (es : List (Chars × A)) (xs : List B)
    → ((a : A) → same_name x (key a) ≡ test (told a)) → AreKeyed key es → things_told told es ≡ xs → find test xs ≡ None
    → is_some (found x es) ≡ false
none-keyed key told test x es xs s k e n =
    sym (some-map told (found x es)) ∙ ap is_some (found-thing key told test x es s k ∙ ap (find test) e ∙ n)

pub second-there : {A B V : Type 0} (name : A → Chars) (value : A → V) (told : A → B) (test : B → Bool) (f : B → V) (x : Chars) (es : List (Chars × A)) (names : List (Chars × V)) (xs : List B)
    → ((a : A) → test (told a) ≡ same_name x (name a)) → ((a : A) → f (told a) ≡ value a)
    → names ≡ map (λ e. (name e.1, value e.1)) es → things_told told es ≡ xs
    → is_some (found x names) ≡ is_some (find test xs)
second-there name value told test f x es names xs s v n e =
    ap (λ ns. is_some (found x ns)) n ∙ ap is_some (sym (found-second name value told test f x es s v)) ∙ some-map f (find test (things_told told es))
    ∙ ap (λ bs. is_some (find test bs)) e

-- ---- one thing more

pub keyed-grown : {A : Type 0} (key : A → Chars) (es later : List (Chars × A)) (x : Chars) (a : A) → AreKeyed key es → later ≡ es ++ (x, a) ∷ [] → x ≡ key a → AreKeyed key later
keyed-grown {A} key es later x a k e h = subst (λ (ls : List (Chars × A)). AreKeyed key ls) (sym e) (keyed-more key es x a k h)

pub named-grown : {A B : Type 0} (f : A → B) (xs later : List A) (ys names : List B) (a : A) (b : B) → later ≡ xs ++ a ∷ [] → names ≡ ys ++ b ∷ [] → ys ≡ map f xs → b ≡ f a → names ≡ map f later
named-grown f xs later ys names a b e d h s = d ∙ (λ i. h i ++ s i ∷ []) ∙ sym (map-append f xs (a ∷ [])) ∙ ap (map f) (sym e)

pub told-grown : {A B : Type 0} (f : A → B) (xs later : List A) (ys : List B) (a : A) → later ≡ xs ++ a ∷ [] → map f xs ≡ ys → map f later ≡ ys ++ f a ∷ []
told-grown f xs later ys a e h = ap (map f) e ∙ map-append f xs (a ∷ []) ∙ ap (λ zs. zs ++ f a ∷ []) h

pub stays : {A : Type 0} (test : A → Bool) (x : A) (xs : List A) → list_any test xs ≡ true → xs ≡ unless_there test x xs
stays test x xs h = sym (cond-true (list_any test xs) xs (xs ++ x ∷ []) h)

pub grows : {A : Type 0} (test : A → Bool) (x : A) (xs : List A) → list_any test xs ≡ false → xs ++ x ∷ [] ≡ unless_there test x xs
grows test x xs h = sym (cond-false (list_any test xs) xs (xs ++ x ∷ []) h)
