-- The order of declarations: what was declared before stays so, and what is declared comes before a new name.
use Rattle.std.specs.Prelude.{◌≡◌, ℕ, List, [], ◌∷◌, ◌++◌, Bool, true, false, ◌||◌, not, Option, Some, None, Ok, map, length}
use Rattle.std.specs.List.{list_all}
use Rattle.std.proofs.Common.{refl, sym, ap, ◌∙◌, subst, inl, inr}
use Rattle.std.proofs.lemmas.Bool.{and_parts, and_from, or_cases}
use Rattle.lt_definitions.specs.Types.{Chars, same_name, found, TypeTree, type_variable, type_constructor, TypeTrees, no_types, type_and, listed, bool, fun}
use Rattle.lt_definitions.specs.Terms.{TermTree}
use Rattle.lt_definitions.specs.Typing.{Signature, constructor_fault, type_fault, types_fault, typed}
use Rattle.lt_definitions.specs.Derivations.{IsPartOf}
use Rattle.lt_definitions.specs.Items.{new_type}
use Rattle.lt_definitions.proofs.SameNames.{true-false, bool_cases, name-true, true-name, name-false}
use Rattle.lt_definitions.proofs.TypingLemmas.{both-none}
use Rattle.lt_nameless.proofs.BindingLemmas.{if-true, if-false}
use Rattle.lt_nameless.proofs.MoreDeclarations.{type-more, has-more}
use Rattle.lt_nameless.proofs.Typings.{typed-has, has-typed}
use Rattle.lt_transport_definitions.specs.Forms.{constructor_name}
use Rattle.lt_transport_definitions.specs.Sessions.{Typedef, QuotientEntry}
use Rattle.lt_transport_definitions.specs.QuotientBlocks.{constructors_in, constructors_in_all, comes_before, is_in_order}
use Rattle.lt_transport_laws.specs.QuotientStatements.{AreInOrder}
use Rattle.lt_transport_laws.specs.OrderStatements.{AreTypedefsInOrder}

-- the names of the declared types
abbrev pub names_of : Signature → List Chars
names_of sig = map (λ p. p.0) sig.types

-- More is declared, further types behind the earlier ones.
pub record Grows (sig more : Signature) : Type 0 where
  pub behind : List (Chars × ℕ)
  pub types : more.types ≡ sig.types ++ behind
  pub part : IsPartOf sig more

pub nil-behind : {A : Type 0} (xs : List A) → xs ≡ xs ++ []
nil-behind [] = refl
nil-behind (x ∷ xs) = ap (λ ys. x ∷ ys) (nil-behind xs)

on-behind : {A : Type 0} (xs ys zs : List A) → (xs ++ ys) ++ zs ≡ xs ++ (ys ++ zs)
on-behind [] ys zs = refl
on-behind (x ∷ xs) ys zs = ap (λ ws. x ∷ ws) (on-behind xs ys zs)

pub grows-same : (sig more : Signature) → more.types ≡ sig.types → IsPartOf sig more → Grows sig more
grows-same sig more e p = record { behind = []; types = e ∙ nil-behind sig.types; part = p }

pub grows-refl : (sig : Signature) → Grows sig sig
grows-refl sig = grows-same sig sig refl (record { types = λ c k e. e; consts = λ c ty e. e })

pub grows-trans : (a b c : Signature) → Grows a b → Grows b c → Grows a c
grows-trans a b c h k = record {
  behind = h.behind ++ k.behind;
  types = k.types ∙ ap (λ ts. ts ++ k.behind) h.types ∙ on-behind a.types h.behind k.behind;
  part = record {
    types = λ x n e. k.part.types x n (h.part.types x n e);
    consts = λ x ty e. k.part.consts x ty (h.part.consts x ty e);
  };
}

map-on : {A B : Type 0} (f : A → B) (xs ys : List A) → map f (xs ++ ys) ≡ map f xs ++ map f ys
map-on f [] ys = refl
map-on f (x ∷ xs) ys = ap (λ zs. f x ∷ zs) (map-on f xs ys)

-- before a name in a list is before it in a longer one
before-more : (c q : Chars) (xs ys : List Chars) → comes_before c q xs ≡ true → comes_before c q (xs ++ ys) ≡ true
before-more c q [] ys e = absurd (true-false (sym e))
before-more c q (x ∷ xs) ys e =
    let h = and_parts (not (same_name x q)) (same_name x c || comes_before c q xs) e in
    and_from (not (same_name x q)) (same_name x c || comes_before c q (xs ++ ys)) h.0
    (elim (or_cases (same_name x c) (comes_before c q xs) h.1) [
      | inl s ↦ or-first (same_name x c) (comes_before c q (xs ++ ys)) s
      | inr s ↦ or-second (same_name x c) (comes_before c q (xs ++ ys)) (before-more c q xs ys s)
    ])
  where
    or-first : (a b : Bool) → a ≡ true → (a || b) ≡ true
    or-first true b e = refl
    or-first false b e = absurd (true-false (sym e))

    or-second : (a b : Bool) → b ≡ true → (a || b) ≡ true
    or-second true b e = refl
    or-second false b e = e

all-more : (f g : Chars → Bool) → ((c : Chars) → f c ≡ true → g c ≡ true) → (cs : List Chars) → list_all f cs ≡ true → list_all g cs ≡ true
all-more f g h [] e = refl
all-more f g h (c ∷ cs) e =
    let k = and_parts (f c) (list_all f cs) e in and_from (g c) (list_all g cs) (h c k.0) (all-more f g h cs k.1)

pub order-more : (sig more : Signature) (raw abs : TypeTree) → Grows sig more → is_in_order sig raw abs ≡ true → is_in_order more raw abs ≡ true
order-more sig more raw abs g e =
    let names : names_of more ≡ names_of sig ++ map (λ p. p.0) g.behind = ap (map (λ p. p.0)) g.types ∙ map-on (λ p. p.0) sig.types g.behind in
    subst (λ (xs : List Chars). list_all (λ c. comes_before c (constructor_name abs) xs) (constructors_in raw) ≡ true) (sym names)
    (all-more (λ c. comes_before c (constructor_name abs) (names_of sig))
    (λ c. comes_before c (constructor_name abs) (names_of sig ++ map (λ p. p.0) g.behind))
    (λ c h. before-more c (constructor_name abs) (names_of sig) (map (λ p. p.0) g.behind) h) (constructors_in raw) e)

pub entries-more : (sig more : Signature) (es : List QuotientEntry) → Grows sig more → AreInOrder sig es → AreInOrder more es
entries-more sig more [] g h = tt
entries-more sig more (e ∷ es) g h = (
  record {
    named = h.0.named;
    sound = type-more sig more g.part e.raw_type h.0.sound;
    order = order-more sig more e.raw_type e.abs_type g h.0.order;
  },
  entries-more sig more es g h.1,
)

-- a term with a type keeps it
pub typed-kept : (sig more : Signature) (t : TermTree) (ty : TypeTree) → IsPartOf sig more → typed sig [] t ≡ Ok ty → typed more [] t ≡ Ok ty
typed-kept sig more t ty p e = has-typed more [] t ty (has-more sig more p [] t ty (typed-has sig [] t ty e))

pub typedefs-more : (sig more : Signature) (ts : List Typedef) → Grows sig more → AreTypedefsInOrder sig ts → AreTypedefsInOrder more ts
typedefs-more sig more [] g h = tt
typedefs-more sig more (t ∷ ts) g h = (
  record {
    raw = h.0.raw;
    predicate = typed-kept sig more t.predicate (fun h.0.raw bool) g.part h.0.predicate;
    sound = type-more sig more g.part h.0.raw h.0.sound;
    order = order-more sig more h.0.raw (new_type t.name t.params) g h.0.order;
  },
  typedefs-more sig more ts g h.1,
)

-- what is declared comes before a new name
found-before : (c q : Chars) (n k : ℕ) (ts : List (Chars × ℕ)) → found c ts ≡ Some k → found q ts ≡ None
    → comes_before c q (map (λ p. p.0) ts ++ q ∷ []) ≡ true
found-before c q n k [] e f = absurd (cc)
found-before c q n k (p ∷ ts) e f = elim (bool_cases (same_name q p.0)) [
  | inl s ↦ absurd (some-none p.1 (sym (if-true (same_name q p.0) (Some p.1) (found q ts) s) ∙ f))
  | inr s ↦
      let other : not (same_name p.0 q) ≡ true = ap not (not-same p.0 q s) in
      elim (bool_cases (same_name c p.0)) [
        | inl r ↦ and_from (not (same_name p.0 q)) (same_name p.0 c || comes_before c q (map (λ x. x.0) ts ++ q ∷ [])) other
            (or-first (same_name p.0 c) (comes_before c q (map (λ x. x.0) ts ++ q ∷ [])) (true-name p.0 c (sym (name-true c p.0 r))))
        | inr r ↦ and_from (not (same_name p.0 q)) (same_name p.0 c || comes_before c q (map (λ x. x.0) ts ++ q ∷ [])) other
            (or-second (same_name p.0 c) (comes_before c q (map (λ x. x.0) ts ++ q ∷ []))
            (found-before c q n k ts (sym (if-false (same_name c p.0) (Some p.1) (found c ts) r) ∙ e)
            (sym (if-false (same_name q p.0) (Some p.1) (found q ts) s) ∙ f)))
      ]
]
  where
    some-none : (k : ℕ) → ◌≡◌ {A = Option ℕ} (Some k) None → ⊥
    some-none k e = cc

    not-same : (x q : Chars) → same_name q x ≡ false → same_name x q ≡ false
    not-same x q s = elim (bool_cases (same_name x q)) [
      | inl t ↦ absurd (name-false q x s (sym (name-true x q t)))
      | inr t ↦ t
    ]

    or-first : (a b : Bool) → a ≡ true → (a || b) ≡ true
    or-first true b e = refl
    or-first false b e = absurd (true-false (sym e))

    or-second : (a b : Bool) → b ≡ true → (a || b) ≡ true
    or-second true b e = refl
    or-second false b e = e

declared-is : (c : Chars) (n : ℕ) (o : Option ℕ) → constructor_fault c n o ≡ None → (k : ℕ) × (o ≡ Some k)
declared-is c n None e = absurd (cc)
declared-is c n (Some k) e = (k, refl)

all-on : (f : Chars → Bool) (xs ys : List Chars) → list_all f xs ≡ true → list_all f ys ≡ true → list_all f (xs ++ ys) ≡ true
all-on f [] ys h k = k
all-on f (x ∷ xs) ys h k =
    let p = and_parts (f x) (list_all f xs) h in and_from (f x) (list_all f (xs ++ ys)) p.0 (all-on f xs ys p.1 k)

mutual
  declared-before : (sig : Signature) (q : Chars) → found q sig.types ≡ None → (t : TypeTree) → type_fault sig t ≡ None
      → list_all (λ c. comes_before c q (names_of sig ++ q ∷ [])) (constructors_in t) ≡ true
  declared-before sig q n (type_variable a) e = refl
  declared-before sig q n (type_constructor c ts) e =
      let h = both-none (constructor_fault c (length (listed ts)) (found c sig.types)) (types_fault sig ts) e in
      let d = declared-is c (length (listed ts)) (found c sig.types) h.0 in
      and_from (comes_before c q (names_of sig ++ q ∷ [])) (list_all (λ b. comes_before b q (names_of sig ++ q ∷ [])) (constructors_in_all ts))
      (found-before c q 0 d.0 sig.types d.1 n) (all-declared-before sig q n ts h.1)

  all-declared-before : (sig : Signature) (q : Chars) → found q sig.types ≡ None → (ts : TypeTrees) → types_fault sig ts ≡ None
      → list_all (λ c. comes_before c q (names_of sig ++ q ∷ [])) (constructors_in_all ts) ≡ true
  all-declared-before sig q n no_types e = refl
  all-declared-before sig q n (type_and t ts) e =
      let h = both-none (type_fault sig t) (types_fault sig ts) e in
      all-on (λ c. comes_before c q (names_of sig ++ q ∷ [])) (constructors_in t) (constructors_in_all ts)
      (declared-before sig q n t h.0) (all-declared-before sig q n ts h.1)

-- a type without a fault is in order before a new constructor
pub new-in-order : (sig more : Signature) (q : Chars) (params : List Chars) (k : ℕ) → found q sig.types ≡ None → (raw : TypeTree) → type_fault sig raw ≡ None
    → more.types ≡ sig.types ++ (q, k) ∷ [] → is_in_order more raw (new_type q params) ≡ true
new-in-order sig more q params k n raw e t =
    let names : names_of more ≡ names_of sig ++ q ∷ [] = ap (map (λ p. p.0)) t ∙ map-on (λ p. p.0) sig.types ((q, k) ∷ []) in
    subst (λ (xs : List Chars). list_all (λ c. comes_before c q xs) (constructors_in raw) ≡ true) (sym names) (declared-before sig q n raw e)
