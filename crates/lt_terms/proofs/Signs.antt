-- Alpha equality over the nodes of terms: the nodes without what alpha equality passes over are those of the nameless form.
use Rattle.std.proofs.Common.{◌≡◌, inl, inr, ℕ, suc, ◌+◌, ◌<◌, ◌≤◌, List, [], ◌∷◌, ◌++◌, Bool, true, false, ◌&&◌, length, map, drop, get_or, nat_eq, Option, Some, None, refl, sym, ◌∙◌, ap, arith, add-one, append_assoc, append-nil, length-append}
use Rattle.std.proofs.Math.Seq.{drop-cons}
use Rattle.std.proofs.Math.ListN.{drop_of_length-le}
use Rattle.std.proofs.lemmas.List.{get_or_default}
use Rattle.std.specs.Cmp.Lexicographic.{pointwise}
use Rattle.std.proofs.lemmas.Bool.Decides.{nat_tests}
use Rattle.lt_definitions.specs.Types.{Chars, same_name, TypeTree, same_type, same_types, row}
use Rattle.lt_definitions.specs.Terms.{TermTree, free_variable, bound_name, constant, application, abstraction}
use Rattle.lt_definitions.specs.Alpha.{is_alpha}
use Rattle.lt_nameless.specs.Nameless.{Nameless, nameless_free, nameless_bound, nameless_loose, nameless_constant, nameless_application, nameless_abstraction, deeper, nameless_name, nameless}
use Rattle.lt_definitions.proofs.SameNames.{true-false, bool_cases, both-true, true-both, name-true, true-name, type-true, true-type, row-true, true-row}
use Rattle.lt_nameless.proofs.Alphas.{alpha-is, is-alpha, alpha-nameless, nameless-alpha, name-hit, name-miss}
use Rattle.lt_nameless.proofs.BindingLemmas.{if-true, if-false}
use Rattle.lt_terms.specs.declared.term.TermNode.{TermNode}
use Rattle.lt_terms.specs.declared.term.TermNode.TheVariants.{Free, Bound, Const, App, Lam}
use Rattle.lt_terms.specs.declared.bound_names.Binder.{Binder}
use Rattle.lt_terms.specs.Layout.{under, term_size, term_nodes}
use Rattle.lt_terms.specs.BoundNames.{Places, further, binder_of, binders_in}
use Rattle.lt_terms.specs.AlikeNodes.{is_constant, agrees, agree}
use Rattle.lt_terms.proofs.LayoutLemmas.{length-term_nodes, regroup}

-- a node without what alpha equality passes over
data Sign : Type 0 where
  free_sign : Chars → TypeTree → Sign
  name_sign : Nameless → Sign
  constant_sign : Chars → List TypeTree → Sign
  application_sign : Sign
  abstraction_sign : TypeTree → Sign

-- a bound name by its binder
abbrev named : Chars → Option Binder → Nameless
named x None = nameless_loose x
named x (Some b) = nameless_bound b.index

abbrev sign : TermNode → Option Binder → Sign
sign (Free x t) b = free_sign x t
sign (Bound x) b = name_sign (named x b)
sign (Const c ts) b = constant_sign c ts
sign (App f a) b = application_sign
sign (Lam x t i) b = abstraction_sign t

abbrev signs : List TermNode → List (Option Binder) → List Sign
signs (n ∷ ns) (b ∷ bs) = sign n b ∷ signs ns bs
signs _ _ = []

-- the same of a nameless term
abbrev signs_of : Nameless → List Sign
signs_of (nameless_free x t) = free_sign x t ∷ []
signs_of (nameless_bound i) = name_sign (nameless_bound i) ∷ []
signs_of (nameless_loose x) = name_sign (nameless_loose x) ∷ []
signs_of (nameless_constant c ts) = constant_sign c ts ∷ []
signs_of (nameless_application f a) = signs_of f ++ (signs_of a ++ application_sign ∷ [])
signs_of (nameless_abstraction t b) = signs_of b ++ abstraction_sign t ∷ []

-- A nameless term is read from its signs.

abbrev joined : List Nameless → List Nameless
joined (a ∷ f ∷ before) = nameless_application f a ∷ before
joined _ = []

abbrev bound_over : TypeTree → List Nameless → List Nameless
bound_over t (b ∷ before) = nameless_abstraction t b ∷ before
bound_over t [] = []

abbrev read : List Nameless → Sign → List Nameless
read before (free_sign x t) = nameless_free x t ∷ before
read before (name_sign n) = n ∷ before
read before (constant_sign c ts) = nameless_constant c ts ∷ before
read before application_sign = joined before
read before (abstraction_sign t) = bound_over t before

abbrev read_all : List Nameless → List Sign → List Nameless
read_all before [] = before
read_all before (s ∷ ss) = read_all (read before s) ss

read-signs : (t : Nameless) (before : List Nameless) (rest : List Sign) → read_all before (signs_of t ++ rest) ≡ read_all (t ∷ before) rest
read-signs (nameless_free x t) before rest = refl
read-signs (nameless_bound i) before rest = refl
read-signs (nameless_loose x) before rest = refl
read-signs (nameless_constant c ts) before rest = refl
read-signs (nameless_application f a) before rest =
    ap (read_all before) (regroup (signs_of f) (signs_of a) (application_sign ∷ []) rest)
    ∙ read-signs f before (signs_of a ++ (application_sign ∷ rest)) ∙ read-signs a (f ∷ before) (application_sign ∷ rest)
read-signs (nameless_abstraction t b) before rest =
    ap (read_all before) (append_assoc (signs_of b) (abstraction_sign t ∷ []) rest) ∙ read-signs b before (abstraction_sign t ∷ rest)

abbrev head : List Nameless → Nameless
head [] = nameless_bound 0
head (t ∷ ts) = t

read-whole : (t : Nameless) → head (read_all [] (signs_of t)) ≡ t
read-whole t = ap (λ ss. head (read_all [] ss)) (sym (append-nil (signs_of t))) ∙ ap head (read-signs t [] [])

one-reading : (s t : Nameless) → signs_of s ≡ signs_of t → s ≡ t
one-reading s t e = sym (read-whole s) ∙ ap (λ ss. head (read_all [] ss)) e ∙ read-whole t

-- The signs of a term's nodes are those of its nameless form.

abbrev pub names : Places → List Chars
names ps = map (λ p. p.0) ps

deeper-named : (x : Chars) (b : Option Binder) → deeper (named x b) ≡ named x (further b)
deeper-named x None = refl
deeper-named x (Some b) = refl

name-binder : (env : Places) (x : Chars) → nameless_name (names env) x ≡ named x (binder_of x env)
name-binder [] x = refl
name-binder (p ∷ ps) x = elim (bool_cases (same_name x p.0)) [
  | inl h ↦ name-hit p.0 (names ps) x h ∙ ap (named x) (sym (if-true (same_name x p.0) (Some (record { place = p.1; index = 0 })) (further (binder_of x ps)) h))
  | inr h ↦ name-miss p.0 (names ps) x h ∙ ap deeper (name-binder ps x) ∙ deeper-named x (binder_of x ps)
      ∙ ap (named x) (sym (if-false (same_name x p.0) (Some (record { place = p.1; index = 0 })) (further (binder_of x ps)) h))
]

named-sign : (x : Chars) (b : Option Binder) → signs_of (named x b) ≡ sign (Bound x) b ∷ []
named-sign x None = refl
named-sign x (Some b) = refl

signs-term : (from : ℕ) (env : Places) (t : TermTree) (ns : List TermNode) (bs : List (Option Binder))
    → signs (term_nodes from t ++ ns) (binders_in from env t ++ bs) ≡ signs_of (nameless (names env) t) ++ signs ns bs
signs-term from env (free_variable x t) ns bs = refl
signs-term from env (bound_name x) ns bs =
    ap (λ (ss : List Sign). ss ++ signs ns bs) (sym (named-sign x (binder_of x env)) ∙ ap signs_of (sym (name-binder env x)))
signs-term from env (constant c ts) ns bs = refl
signs-term from env (application f a) ns bs =
    let at : ℕ = from + (under f + 1) in
    let last : TermNode = App (from + under f) (from + (under f + 1) + under a) in
    (λ i. signs (regroup (term_nodes from f) (term_nodes at a) (last ∷ []) ns i) (regroup (binders_in from env f) (binders_in at env a) (None ∷ []) bs i))
    ∙ signs-term from env f (term_nodes at a ++ (last ∷ ns)) (binders_in at env a ++ (None ∷ bs))
    ∙ ap (λ (ss : List Sign). signs_of (nameless (names env) f) ++ ss) (signs-term at env a (last ∷ ns) (None ∷ bs))
    ∙ sym (regroup (signs_of (nameless (names env) f)) (signs_of (nameless (names env) a)) (application_sign ∷ []) (signs ns bs))
signs-term from env (abstraction x t b) ns bs =
    let around : Places = (x, from + (under b + 1)) ∷ env in
    let last : TermNode = Lam x t (from + under b) in
    (λ i. signs (append_assoc (term_nodes from b) (last ∷ []) ns i) (append_assoc (binders_in from around b) (None ∷ []) bs i))
    ∙ signs-term from around b (last ∷ ns) (None ∷ bs)
    ∙ sym (append_assoc (signs_of (nameless (names around) b)) (abstraction_sign t ∷ []) (signs ns bs))

signs-whole : (t : TermTree) → signs (term_nodes 0 t) (binders_in 0 [] t) ≡ signs_of (nameless [] t)
signs-whole t =
    (λ i. signs (sym (append-nil (term_nodes 0 t)) i) (sym (append-nil (binders_in 0 [] t)) i)) ∙ signs-term 0 [] t [] [] ∙ append-nil (signs_of (nameless [] t))

-- one binder for each node
pub length-binders_in : (from : ℕ) (env : Places) (t : TermTree) → length (binders_in from env t) ≡ term_size t
length-binders_in from env (free_variable x t) = omega arith
length-binders_in from env (bound_name x) = omega arith
length-binders_in from env (constant c ts) = omega arith
length-binders_in from env (application f a) = simp length-append (omega (arith, length-binders_in from env f, length-binders_in (from + (under f + 1)) env a))
length-binders_in from env (abstraction x t b) = simp length-append (omega (arith, length-binders_in from ((x, from + (under b + 1)) ∷ env) b))

-- Nodes agree exactly where they have one sign.

number-true : (i j : ℕ) → nat_eq i j ≡ true → i ≡ j
number-true i j e = grind (arith, nat_tests)

true-number : (i j : ℕ) → i ≡ j → nat_eq i j ≡ true
true-number i j e = grind (arith, nat_tests)

agrees-is : (n : TermNode) (b : Option Binder) (m : TermNode) (c : Option Binder) → agrees n b m c ≡ true → sign n b ≡ sign m c
agrees-is (Free x t) b (Free y u) c e =
    let h = both-true (same_name x y) (same_type t u) e in λ i. free_sign (name-true x y h.0 i) (type-true t u h.1 i)
agrees-is (Bound x) (Some b) (Bound y) (Some c) e = ap (λ i. name_sign (nameless_bound i)) (number-true b.index c.index e)
agrees-is (Bound x) None (Bound y) None e = ap (λ z. name_sign (nameless_loose z)) (name-true x y e)
agrees-is (Const k ts) b (Const d us) c e =
    let h = both-true (same_name k d) (same_types (row ts) (row us)) e in λ i. constant_sign (name-true k d h.0 i) (row-true ts us h.1 i)
agrees-is (App f a) b (App g j) c e = refl
agrees-is (Lam x t i) b (Lam y u j) c e = ap abstraction_sign (type-true t u e)
agrees-is n b m c e = absurd (true-false (sym e))

is-agrees : (n : TermNode) (b : Option Binder) (m : TermNode) (c : Option Binder) → sign n b ≡ sign m c → agrees n b m c ≡ true
is-agrees (Free x t) b (Free y u) c e =
    let p : x ≡ y = cc in let q : t ≡ u = cc in true-both (same_name x y) (same_type t u) (true-name x y p) (true-type t u q)
is-agrees (Bound x) (Some b) (Bound y) (Some c) e = let p : b.index ≡ c.index = cc in true-number b.index c.index p
is-agrees (Bound x) None (Bound y) None e = let p : x ≡ y = cc in true-name x y p
is-agrees (Const k ts) b (Const d us) c e =
    let p : k ≡ d = cc in let q : ts ≡ us = cc in true-both (same_name k d) (same_types (row ts) (row us)) (true-name k d p) (true-row ts us q)
is-agrees (App f a) b (App g j) c e = refl
is-agrees (Lam x t i) b (Lam y u j) c e = let p : t ≡ u = cc in true-type t u p
is-agrees n b m c e = absurd (cc)

agree-is : (ns : List TermNode) (bs : List (Option Binder)) (ms : List TermNode) (cs : List (Option Binder)) → agree ns bs ms cs ≡ true → signs ns bs ≡ signs ms cs
agree-is (n ∷ ns) (b ∷ bs) (m ∷ ms) (c ∷ cs) e =
    let h = both-true (agrees n b m c) (agree ns bs ms cs) e in λ i. agrees-is n b m c h.0 i ∷ agree-is ns bs ms cs h.1 i
agree-is [] [] [] [] e = refl
agree-is ns bs ms cs e = absurd (true-false (sym e))

is-agree : (ns : List TermNode) (bs : List (Option Binder)) (ms : List TermNode) (cs : List (Option Binder)) → length bs ≡ length ns → length cs ≡ length ms → signs ns bs ≡ signs ms cs → agree ns bs ms cs ≡ true
is-agree (n ∷ ns) (b ∷ bs) (m ∷ ms) (c ∷ cs) p q e =
    let h : sign n b ≡ sign m c = cc in let k : signs ns bs ≡ signs ms cs = cc in
    true-both (agrees n b m c) (agree ns bs ms cs) (is-agrees n b m c h) (is-agree ns bs ms cs (omega (arith, p)) (omega (arith, q)) k)
is-agree [] [] [] [] p q e = refl
is-agree [] [] (m ∷ ms) (c ∷ cs) p q e = absurd (cc)
is-agree (n ∷ ns) (b ∷ bs) [] [] p q e = absurd (cc)
is-agree ns bs ms cs p q e = absurd (omega (arith, p, q))

length-signs : (ns : List TermNode) (bs : List (Option Binder)) → length bs ≡ length ns → length (signs ns bs) ≡ length ns
length-signs [] bs h = refl
length-signs (n ∷ ns) [] h = absurd (omega arith)
length-signs (n ∷ ns) (b ∷ bs) h = ap suc (length-signs ns bs (omega arith))

-- Alpha equality.

alpha-signs : (s t : TermTree) → is_alpha s t ≡ true → signs (term_nodes 0 s) (binders_in 0 [] s) ≡ signs (term_nodes 0 t) (binders_in 0 [] t)
alpha-signs s t e = signs-whole s ∙ ap signs_of (alpha-nameless [] s t (alpha-is [] s t e)) ∙ sym (signs-whole t)

signs-alpha : (s t : TermTree) → signs (term_nodes 0 s) (binders_in 0 [] s) ≡ signs (term_nodes 0 t) (binders_in 0 [] t) → is_alpha s t ≡ true
signs-alpha s t e =
    is-alpha [] s t (nameless-alpha [] s t (one-reading (nameless [] s) (nameless [] t) (sym (signs-whole s) ∙ e ∙ signs-whole t)))

-- one binder for each node of a whole term
binder-each : (t : TermTree) → length (binders_in 0 [] t) ≡ length (term_nodes 0 t)
binder-each t = length-binders_in 0 [] t ∙ sym (length-term_nodes 0 t)

pub as-many : (t : TermTree) (nodes : List TermNode) (bs : List (Option Binder)) → nodes ≡ term_nodes 0 t → bs ≡ binders_in 0 [] t → length bs ≡ length nodes
as-many t nodes bs n b = ap length b ∙ binder-each t ∙ ap length (sym n)

pub alpha-differs : (s t : TermTree) → (term_size s ≡ term_size t → ⊥) → is_alpha s t ≡ false
alpha-differs s t differ = elim (bool_cases (is_alpha s t)) [
  | inl h ↦ absurd (differ (sym (length-term_nodes 0 s) ∙ sym (length-signs (term_nodes 0 s) (binders_in 0 [] s) (binder-each s))
      ∙ ap length (alpha-signs s t h) ∙ length-signs (term_nodes 0 t) (binders_in 0 [] t) (binder-each t) ∙ length-term_nodes 0 t))
  | inr h ↦ h
]

pub alpha-agree : (s t : TermTree) → agree (term_nodes 0 s) (binders_in 0 [] s) (term_nodes 0 t) (binders_in 0 [] t) ≡ is_alpha s t
alpha-agree s t = elim (bool_cases (is_alpha s t)) [
  | inl h ↦ is-agree (term_nodes 0 s) (binders_in 0 [] s) (term_nodes 0 t) (binders_in 0 [] t) (binder-each s) (binder-each t) (alpha-signs s t h) ∙ sym h
  | inr h ↦ elim (bool_cases (agree (term_nodes 0 s) (binders_in 0 [] s) (term_nodes 0 t) (binders_in 0 [] t))) [
    | inl k ↦ absurd (true-false (sym (signs-alpha s t (agree-is (term_nodes 0 s) (binders_in 0 [] s) (term_nodes 0 t) (binders_in 0 [] t) k)) ∙ h))
    | inr k ↦ k ∙ sym h
  ]
]

-- over the vectors
pub alpha-vectors : (s t : TermTree) (ns : List TermNode) (bs : List (Option Binder)) (ms : List TermNode) (cs : List (Option Binder)) → ns ≡ term_nodes 0 s → bs ≡ binders_in 0 [] s → ms ≡ term_nodes 0 t → cs ≡ binders_in 0 [] t
    → agree ns bs ms cs ≡ is_alpha s t
alpha-vectors s t ns bs ms cs n b m c = (λ i. agree (n i) (b i) (m i) (c i)) ∙ alpha-agree s t

-- at a place
next : {A : Type 0} (xs : List A) (i : ℕ) (x : A) → i < length xs → x ≡ get_or xs i x → drop i xs ≡ x ∷ drop (i + 1) xs
next xs i x h e = drop-cons xs i x h ∙ ap (λ y. y ∷ drop (suc i) xs) (sym e) ∙ ap (λ k. x ∷ drop k xs) (sym (add-one i))

pub agree-next : (ns : List TermNode) (bs : List (Option Binder)) (ms : List TermNode) (cs : List (Option Binder)) (i : ℕ) (n m : TermNode)
    → i < length ns → length ns ≡ length ms → length bs ≡ length ns → length cs ≡ length ms → n ≡ get_or ns i n → m ≡ get_or ms i m
    → agree (drop i ns) (drop i bs) (drop i ms) (drop i cs) ≡ (agrees n (get_or bs i None) m (get_or cs i None) && agree (drop (i + 1) ns) (drop (i + 1) bs) (drop (i + 1) ms) (drop (i + 1) cs))
agree-next ns bs ms cs i n m h same left right en em =
    let hb : i < length bs = omega (arith, h, left) in let hm : i < length ms = omega (arith, h, same) in let hc : i < length cs = omega (arith, h, same, right) in
    λ j. agree (next ns i n h en j) (next bs i (get_or bs i None) hb (get_or_default bs i None (get_or bs i None) hb) j)
    (next ms i m hm em j) (next cs i (get_or cs i None) hc (get_or_default cs i None (get_or cs i None) hc) j)

-- a node that agrees, and one that doesn't
pub agree-more : (whole : Bool) (ns : List TermNode) (bs : List (Option Binder)) (ms : List TermNode) (cs : List (Option Binder)) (i : ℕ) (n m : TermNode) (r : Bool)
    → i < length ns → length ns ≡ length ms → length bs ≡ length ns → length cs ≡ length ms → n ≡ get_or ns i n → m ≡ get_or ms i m
    → r ≡ agrees n (get_or bs i None) m (get_or cs i None) → whole ≡ agree (drop i ns) (drop i bs) (drop i ms) (drop i cs)
    → whole ≡ (r && agree (drop (i + 1) ns) (drop (i + 1) bs) (drop (i + 1) ms) (drop (i + 1) cs))
agree-more whole ns bs ms cs i n m r h same left right en em e w =
    w ∙ agree-next ns bs ms cs i n m h same left right en em
    ∙ ap (λ (b : Bool). b && agree (drop (i + 1) ns) (drop (i + 1) bs) (drop (i + 1) ms) (drop (i + 1) cs)) (sym e)

pub agree-end : (ns : List TermNode) (bs : List (Option Binder)) (ms : List TermNode) (cs : List (Option Binder)) (i : ℕ)
    → length ns ≤ i → length ns ≡ length ms → length bs ≡ length ns → length cs ≡ length ms → agree (drop i ns) (drop i bs) (drop i ms) (drop i cs) ≡ true
agree-end ns bs ms cs i h same left right =
    let hb : length bs ≤ i = omega (arith, h, left) in let hm : length ms ≤ i = omega (arith, h, same) in let hc : length cs ≤ i = omega (arith, h, same, right) in
    λ j. agree (drop_of_length-le ns h j) (drop_of_length-le bs hb j) (drop_of_length-le ms hm j) (drop_of_length-le cs hc j)

-- a constant with its type arguments

same-rows : (ts us : List TypeTree) → pointwise same_type ts us ≡ same_types (row ts) (row us)
same-rows [] [] = refl
same-rows [] (u ∷ us) = refl
same-rows (t ∷ ts) [] = refl
same-rows (t ∷ ts) (u ∷ us) = ap (λ (b : Bool). same_type t u && b) (same-rows ts us)

pub constant-found : (r e : Bool) (c d : Chars) (ts us xs ys : List TypeTree) (node : TermNode) → node ≡ Const d us → e ≡ same_name c d → e ≡ true → xs ≡ ts → ys ≡ us → r ≡ pointwise same_type xs ys
    → r ≡ is_constant c ts node
constant-found r e c d ts us xs ys node is same h x y found =
    found ∙ (λ i. pointwise same_type (x i) (y i)) ∙ same-rows ts us
    ∙ ap (λ (b : Bool). b && same_types (row ts) (row us)) (sym h ∙ same) ∙ ap (is_constant c ts) (sym is)
