-- Labels that have statements keep them, and those of what is added get them.
use Rattle.std.specs.Prelude.{◌≡◌, ◌⊎◌, List, [], ◌∷◌, ◌++◌, Bool, true, Option, Some, None, map, fold, is_some}
use Rattle.std.specs.List.{flat_map, list_any}
use Rattle.std.proofs.Common.{refl, subst, sym, ap, ◌∙◌, inl, inr}
use Rattle.lt_definitions.specs.Types.{Chars, same_name, found, TypeTree}
use Rattle.lt_definitions.specs.Terms.{TermTree}
use Rattle.lt_definitions.specs.Typing.{typed}
use Rattle.lt_definitions.specs.Items.{Item, type_item, const_item, axiom_item, def_item, typedef_item, lemma_item, Context, definition_label, with_typedef, with_item, raw_type}
use Rattle.lt_definitions.proofs.SameNames.{bool_cases, true-name}
use Rattle.lt_nameless.proofs.BindingLemmas.{if-true, if-false}
use Rattle.lt_transport_definitions.specs.Sessions.{Session}
use Rattle.lt_transport_definitions.specs.Commands.{Addition, this_item, a_lemma, item_of, with_addition, unless_there}
use Rattle.lt_transport_laws.specs.SessionStatements.{IsStated, AreStated}

-- what is found in a list is found in a longer one
found-append : {A : Type 0} (l : Chars) (xs ys : List (Chars × A)) → is_some (found l xs) ≡ true → is_some (found l (xs ++ ys)) ≡ true
found-append l [] ys h = absurd (cc)
found-append l (x ∷ xs) ys h = elim (bool_cases (same_name l x.0)) [
  | inl s ↦ ap is_some (if-true (same_name l x.0) (Some x.1) (found l (xs ++ ys)) s)
  | inr s ↦ ap is_some (if-false (same_name l x.0) (Some x.1) (found l (xs ++ ys)) s)
      ∙ found-append l xs ys (sym (ap is_some (if-false (same_name l x.0) (Some x.1) (found l xs) s)) ∙ h)
]

-- and what stands at its end
found-last : {A : Type 0} (l : Chars) (x : A) (xs : List (Chars × A)) → is_some (found l (xs ++ (l, x) ∷ [])) ≡ true
found-last l x [] = ap is_some (if-true (same_name l l) (Some x) None (true-name l l refl))
found-last l x (y ∷ xs) = elim (bool_cases (same_name l y.0)) [
  | inl s ↦ ap is_some (if-true (same_name l y.0) (Some y.1) (found l (xs ++ (l, x) ∷ [])) s)
  | inr s ↦ ap is_some (if-false (same_name l y.0) (Some y.1) (found l (xs ++ (l, x) ∷ [])) s) ∙ found-last l x xs
]

typedef-keeps : (l n : Chars) (params : List Chars) (p : TermTree) (a b : Chars) (o : Option TypeTree) (ctx : Context) → IsStated ctx l
    → IsStated (with_typedef n params p a b o ctx) l
typedef-keeps l n params p a b None ctx h = h
typedef-keeps l n params p a b (Some raw) ctx h = found-append l ctx.statements _ h

-- an item keeps what is stated
item-keeps : (l : Chars) (ctx : Context) (item : Item) → IsStated ctx l → IsStated (with_item ctx item) l
item-keeps l ctx (type_item n k) h = h
item-keeps l ctx (const_item n ty) h = h
item-keeps l ctx (axiom_item m t) h = found-append l ctx.statements _ h
item-keeps l ctx (def_item n ty b) h = found-append l ctx.statements _ h
item-keeps l ctx (typedef_item n params p m a b) h = typedef-keeps l n params p a b (raw_type (typed ctx.signature [] p)) ctx h
item-keeps l ctx (lemma_item m t lines) h = found-append l ctx.statements _ h

-- and so do additions
pub additions-keep : (l : Chars) (s : Session) (items : List Addition) → IsStated s.context l → IsStated (fold with_addition s items).context l
additions-keep l s [] h = h
additions-keep l s (a ∷ items) h = additions-keep l (with_addition s a) items (item-keeps l s.context (item_of a) h)

-- an addition states a label
abbrev pub StatesOne : Chars → Addition → Type 0
StatesOne l (a_lemma m t) = l ≡ m
StatesOne l (this_item (def_item n ty b)) = l ≡ definition_label n
StatesOne l _ = ⊥

-- one of them does
abbrev pub States : Chars → List Addition → Type 0
States l [] = ⊥
States l (a ∷ items) = StatesOne l a ⊎ States l items

one-stated : (l : Chars) (s : Session) (a : Addition) → StatesOne l a → IsStated (with_addition s a).context l
one-stated l s (a_lemma m t) h = subst (λ (k : Chars). is_some (found k (s.context.statements ++ (m, t) ∷ [])) ≡ true) (sym h) (found-last m t s.context.statements)
one-stated l s (this_item (def_item n ty b)) h =
    subst (λ (k : Chars). is_some (found k (with_item s.context (def_item n ty b)).statements) ≡ true) (sym h) (found-last (definition_label n) _ s.context.statements)
one-stated l s (this_item (type_item n k)) h = absurd h
one-stated l s (this_item (const_item n ty)) h = absurd h
one-stated l s (this_item (axiom_item m t)) h = absurd h
one-stated l s (this_item (typedef_item n params p m a b)) h = absurd h
one-stated l s (this_item (lemma_item m t lines)) h = absurd h

-- what additions state is stated behind them
pub additions-state : (l : Chars) (s : Session) (items : List Addition) → States l items → IsStated (fold with_addition s items).context l
additions-state l s [] h = absurd h
additions-state l s (a ∷ items) (inl h) = additions-keep l (with_addition s a) items (one-stated l s a h)
additions-state l s (a ∷ items) (inr h) = additions-state l (with_addition s a) items h

-- lists of labels that are stated
pub all-keep : (s : Session) (items : List Addition) (ls : List Chars) → AreStated s.context ls → AreStated (fold with_addition s items).context ls
all-keep s items [] h = tt
all-keep s items (l ∷ ls) h = (additions-keep l s items h.0, all-keep s items ls h.1)

stated-append : (ctx : Context) (ks ls : List Chars) → AreStated ctx ks → AreStated ctx ls → AreStated ctx (ks ++ ls)
stated-append ctx [] ls h k = k
stated-append ctx (l ∷ ks) ls h k = (h.0, stated-append ctx ks ls h.1 k)

stated-front : (ctx : Context) (ks ls : List Chars) → AreStated ctx (ks ++ ls) → AreStated ctx ks
stated-front ctx [] ls h = tt
stated-front ctx (l ∷ ks) ls h = (h.0, stated-front ctx ks ls h.1)

stated-back : (ctx : Context) (ks ls : List Chars) → AreStated ctx (ks ++ ls) → AreStated ctx ls
stated-back ctx [] ls h = h
stated-back ctx (l ∷ ks) ls h = stated-back ctx ks ls h.1

pub map-one : {A : Type 0} (ctx : Context) (f : A → Chars) (xs : List A) (x : A) → AreStated ctx (map f xs) → IsStated ctx (f x) → AreStated ctx (map f (xs ++ x ∷ []))
map-one ctx f [] x h k = (k, tt)
map-one ctx f (y ∷ xs) x h k = (h.0, map-one ctx f xs x h.1 k)

pub flat-one : {A : Type 0} (ctx : Context) (f : A → List Chars) (xs : List A) (x : A) → AreStated ctx (flat_map f xs) → AreStated ctx (f x)
    → AreStated ctx (flat_map f (xs ++ x ∷ []))
flat-one ctx f [] x h k = stated-append ctx (f x) [] k tt
flat-one ctx f (y ∷ xs) x h k = stated-append ctx (f y) (flat_map f (xs ++ x ∷ [])) (stated-front ctx (f y) (flat_map f xs) h)
    (flat-one ctx f xs x (stated-back ctx (f y) (flat_map f xs) h) k)

pub unless-one : {A : Type 0} (ctx : Context) (f : A → Chars) (test : A → Bool) (xs : List A) (x : A) → AreStated ctx (map f xs) → IsStated ctx (f x)
    → AreStated ctx (map f (unless_there test x xs))
unless-one ctx f test xs x h k = elim (bool_cases (list_any test xs)) [
  | inl s ↦ subst (λ ys. AreStated ctx (map f ys)) (sym (if-true (list_any test xs) xs (xs ++ x ∷ []) s)) h
  | inr s ↦ subst (λ ys. AreStated ctx (map f ys)) (sym (if-false (list_any test xs) xs (xs ++ x ∷ []) s)) (map-one ctx f xs x h k)
]
