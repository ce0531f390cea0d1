-- The types that make a constant's type arguments others, as they are read off and as they are looked for.
use Rattle.std.proofs.Common.{◌≡◌, inl, inr, ℕ, zero, suc, List, [], ◌∷◌, ◌++◌, map, slice_get, Bool, true, false, if◌then◌else◌, ◌&&◌, unwrap_or, is_some, Option, Some, None, refl, sym, ◌∙◌, ap, subst}
use Rattle.std.proofs.lemmas.Bool.{cases_Bool, cond-true, cond-false}
use Rattle.std.proofs.lemmas.List.{map-append}
use Rattle.lt_definitions.specs.Types.{Chars, same_name, are_distinct, found, TypeTree, TypeTrees, TypeMap, type_variable, type_constructor, no_types, type_and, row, same_types, type_instance, types_instance, type_names, types_names, Matches}
use Rattle.lt_definitions.specs.Typing.{Signature, type_fault, types_fault}
use Rattle.lt_definitions.proofs.SameNames.{true-false, name-true}
use Rattle.lt_definitions.proofs.TypingLemmas.{both-none, none-both}
use Rattle.lt_nameless.specs.Nameless.{Nameless, nameless_free, nameless_bound, nameless_loose, nameless_constant, nameless_application, nameless_abstraction}
use Rattle.lt_nameless.specs.NamelessRules.{nameless_instance, same_nameless}
use Rattle.lt_types.specs.Matching.{firsts_behind, AreOccurrences}
use Rattle.lt_types.proofs.MapLemmas.{found-at, row-map}
use Rattle.lt_types.proofs.MatchingLemmas.{firsts-domain, firsts-match}
use Rattle.lt_transport_definitions.specs.Patterns.{type_match, types_match}
use Rattle.lt_nameless.proofs.SameForms.{same-is, same-refl}
use Rattle.lt_formulas.specs.Shapes.{is_constant}
use Rattle.lt_conv.specs.Unfolding.{types_for, is_instance}

-- ---- what stands at the places of a pattern's variables

abbrev put_by : TypeMap → Chars → TypeTree
put_by m x = type_instance m (type_variable x)

-- each pair has the type that the map puts
abbrev Agree : TypeMap → TypeMap → Type 0
Agree m es = map (λ p. p.1) es ≡ map (λ p. put_by m p.0) es

agree-append : (m xs ys : TypeMap) → Agree m xs → Agree m ys → Agree m (xs ++ ys)
agree-append m xs ys h k = map-append (λ p. p.1) xs ys ∙ (λ i. h i ++ k i) ∙ sym (map-append (λ p. put_by m p.0) xs ys)

parts : (t u : TypeTree) (ts us : TypeTrees) → type_and t ts ≡ type_and u us → (t ≡ u) × (ts ≡ us)
parts t u ts us e = (cc e, cc e)

abbrev Places : TypeMap → List Chars → TypeMap → Type 0
Places m names es = (map (λ p. p.0) es ≡ names) × Agree m es

mutual
  places : (m : TypeMap) (p t : TypeTree) → type_instance m p ≡ t → Places m (type_names p) (type_match p t)
  places m (type_variable a) t e = (refl, ap (λ u. u ∷ []) (sym e))
  places m (type_constructor c ps) (type_constructor d ts) e = places-row m ps ts (arguments e)
    where
      arguments : type_constructor c (types_instance m ps) ≡ type_constructor d ts → types_instance m ps ≡ ts
      arguments q = cc q
  places m (type_constructor c ps) (type_variable a) e = absurd (cc e)

  places-row : (m : TypeMap) (ps ts : TypeTrees) → types_instance m ps ≡ ts → Places m (types_names ps) (types_match ps ts)
  places-row m no_types ts e = (refl, refl)
  places-row m (type_and p ps) no_types e = absurd (cc e)
  places-row m (type_and p ps) (type_and t ts) e =
      let same = parts (type_instance m p) t (types_instance m ps) ts e in
      let one = places m p t same.0 in
      let others = places-row m ps ts same.1 in (
        map-append (λ q. q.0) (type_match p t) (types_match ps ts) ∙ (λ i. one.0 i ++ others.0 i),
        agree-append m (type_match p t) (types_match ps ts) one.1 others.1,
      )

occurrences : (m : TypeMap) (p t : TypeTree) → type_instance m p ≡ t → AreOccurrences p t (type_match p t)
occurrences m p t e = record { names = (places m p t e).0; types = λ n d. (places n p t d).1 }

-- ---- the first pair of each name

abbrev or_found : Option TypeTree → Option TypeTree → Option TypeTree
or_found None o = o
or_found (Some t) o = Some t

or-none : (o : Option TypeTree) → or_found o None ≡ o
or-none None = refl
or-none (Some t) = refl

found-appended : (a : Chars) (es fs : TypeMap) → found a (es ++ fs) ≡ or_found (found a es) (found a fs)
found-appended a [] fs = refl
found-appended a (e ∷ es) fs = elim (cases_Bool (same_name a e.0)) [
  | inl h ↦ cond-true (same_name a e.0) (Some e.1) (found a (es ++ fs)) h ∙ sym (ap (λ o. or_found o (found a fs)) (cond-true (same_name a e.0) (Some e.1) (found a es) h))
  | inr h ↦ cond-false (same_name a e.0) (Some e.1) (found a (es ++ fs)) h ∙ found-appended a es fs
      ∙ sym (ap (λ o. or_found o (found a fs)) (cond-false (same_name a e.0) (Some e.1) (found a es) h))
]

or-assoc : (a b c : Option TypeTree) → or_found (or_found a b) c ≡ or_found a (or_found b c)
or-assoc None b c = refl
or-assoc (Some t) b c = refl

-- one more pair, where its name has a pair already
found-again : (a : Chars) (done : TypeMap) (p : Chars × TypeTree) (ps : TypeMap) → is_some (found p.0 done) ≡ true → or_found (found a done) (found a ps) ≡ or_found (found a done) (found a (p ∷ ps))
found-again a done p ps h = elim (cases_Bool (same_name a p.0)) [
  | inl k ↦ there (found a done) (found a ps) (found a (p ∷ ps)) (ap (λ x. is_some (found x done)) (name-true a p.0 k) ∙ h)
  | inr k ↦ ap (or_found (found a done)) (sym (cond-false (same_name a p.0) (Some p.1) (found a ps) k))
]
  where
    there : (o q r : Option TypeTree) → is_some o ≡ true → or_found o q ≡ or_found o r
    there (Some t) q r e = refl
    there None q r e = absurd (true-false (sym e))

firsts-found : (a : Chars) (done ps : TypeMap) → found a (firsts_behind done ps) ≡ or_found (found a done) (found a ps)
firsts-found a done [] = sym (or-none (found a done))
firsts-found a done (p ∷ ps) = elim (cases_Bool (is_some (found p.0 done))) [
  | inl h ↦ ap (λ (d : TypeMap). found a (firsts_behind d ps)) (cond-true (is_some (found p.0 done)) done (done ++ p ∷ []) h) ∙ firsts-found a done ps ∙ found-again a done p ps h
  | inr h ↦ ap (λ (d : TypeMap). found a (firsts_behind d ps)) (cond-false (is_some (found p.0 done)) done (done ++ p ∷ []) h) ∙ firsts-found a (done ++ p ∷ []) ps
      ∙ ap (λ o. or_found o (found a ps)) (found-appended a done (p ∷ []))
      ∙ or-assoc (found a done) (found a (p ∷ [])) (found a ps) ∙ ap (or_found (found a done)) (one (same_name a p.0) refl)
]
  where
    one : (b : Bool) → same_name a p.0 ≡ b → or_found (found a (p ∷ [])) (found a ps) ≡ found a (p ∷ ps)
    one true h = ap (λ o. or_found o (found a ps)) (cond-true (same_name a p.0) (Some p.1) None h) ∙ sym (cond-true (same_name a p.0) (Some p.1) (found a ps) h)
    one false h = ap (λ o. or_found o (found a ps)) (cond-false (same_name a p.0) (Some p.1) None h) ∙ sym (cond-false (same_name a p.0) (Some p.1) (found a ps) h)

agree-head : (m : TypeMap) (p : Chars × TypeTree) (ps : TypeMap) → Agree m (p ∷ ps) → p.1 ≡ put_by m p.0
agree-head m p ps h = cc h

agree-tail : (m : TypeMap) (p : Chars × TypeTree) (ps : TypeMap) → Agree m (p ∷ ps) → Agree m ps
agree-tail m p ps h = cc h

agree-firsts : (m done ps : TypeMap) → Agree m done → Agree m ps → Agree m (firsts_behind done ps)
agree-firsts m done [] h k = h
agree-firsts m done (p ∷ ps) h k = agree-firsts m (if is_some (found p.0 done) then done else done ++ p ∷ []) ps (elim (cases_Bool (is_some (found p.0 done))) [
  | inl e ↦ subst (Agree m) (sym (cond-true (is_some (found p.0 done)) done (done ++ p ∷ []) e)) h
  | inr e ↦ subst (Agree m) (sym (cond-false (is_some (found p.0 done)) done (done ++ p ∷ []) e)) (agree-append m done (p ∷ []) h (ap (λ t. t ∷ []) (agree-head m p ps k)))
]) (agree-tail m p ps k)

-- ---- a map with one pair for a name

map-same : {A B : Type 0} (g h : A → B) (xs : List A) → ((i : ℕ) (x : A) → slice_get xs i ≡ Some x → g x ≡ h x) → map g xs ≡ map h xs
map-same g h [] e = refl
map-same g h (x ∷ xs) e = let one = e zero x refl in let others = map-same g h xs (λ i y k. e (suc i) y k) in λ i. one i ∷ others i

agree-self : (m : TypeMap) → are_distinct (map (λ p. p.0) m) ≡ true → Agree m m
agree-self m h = map-same (λ p. p.1) (λ p. put_by m p.0) m (λ i p e. sym (ap (λ o. unwrap_or o (type_variable p.0)) (found-at m i p.0 p.1 h e)))

same-pairs : (xs ys : TypeMap) → map (λ p. p.0) xs ≡ map (λ p. p.0) ys → map (λ p. p.1) xs ≡ map (λ p. p.1) ys → xs ≡ ys
same-pairs [] [] h k = refl
same-pairs [] (y ∷ ys) h k = absurd (cc h)
same-pairs (x ∷ xs) [] h k = absurd (cc h)
same-pairs (x ∷ xs) (y ∷ ys) h k =
    let name : x.0 ≡ y.0 = cc h in
    let ty : x.1 ≡ y.1 = cc k in
    let names : map (λ p. p.0) xs ≡ map (λ p. p.0) ys = cc h in
    let tys : map (λ p. p.1) xs ≡ map (λ p. p.1) ys = cc k in
    let others = same-pairs xs ys names tys in
    λ i. (name i, ty i) ∷ others i

through-names : (f : Chars → TypeTree) (xs : TypeMap) → map (λ p. f p.0) xs ≡ map f (map (λ p. p.0) xs)
through-names f [] = refl
through-names f (x ∷ xs) = ap (λ ts. f x.0 ∷ ts) (through-names f xs)

-- a map that matches, with one pair for a name, is the one that is read off
pub matched-is : (p t : TypeTree) (m : TypeMap) → are_distinct (map (λ q. q.0) m) ≡ true → Matches p m t → m ≡ firsts_behind [] (type_match p t)
matched-is p t m d h =
    let o = occurrences m p t h.instance in
    let names : map (λ q. q.0) m ≡ map (λ q. q.0) (firsts_behind [] (type_match p t)) = h.domain ∙ sym (firsts-domain p t (type_match p t) o) in
    let mine = agree-self m d ∙ through-names (put_by m) m in
    let others = agree-firsts m [] (type_match p t) refl (o.types m h.instance) ∙ through-names (put_by m) (firsts_behind [] (type_match p t)) in
    same-pairs m (firsts_behind [] (type_match p t)) names (mine ∙ ap (map (put_by m)) names ∙ sym others)

-- what is read off matches where some map does
pub read-matches : (p t : TypeTree) (m : TypeMap) → type_instance m p ≡ t → Matches p (firsts_behind [] (type_match p t)) t
read-matches p t m e =
    let o = occurrences m p t e in
    record { instance = firsts-match p t (type_match p t) m o e; domain = firsts-domain p t (type_match p t) o }

-- ---- maps that put the same

mutual
  same-put : (m n : TypeMap) → ((a : Chars) → found a m ≡ found a n) → (t : TypeTree) → type_instance m t ≡ type_instance n t
  same-put m n h (type_variable a) = ap (λ o. unwrap_or o (type_variable a)) (h a)
  same-put m n h (type_constructor c ts) = ap (type_constructor c) (same-puts m n h ts)

  same-puts : (m n : TypeMap) → ((a : Chars) → found a m ≡ found a n) → (ts : TypeTrees) → types_instance m ts ≡ types_instance n ts
  same-puts m n h no_types = refl
  same-puts m n h (type_and t ts) = λ i. type_and (same-put m n h t i) (same-puts m n h ts i)

same-put-list : (m n : TypeMap) → ((a : Chars) → found a m ≡ found a n) → (ts : List TypeTree) → map (type_instance m) ts ≡ map (type_instance n) ts
same-put-list m n h [] = refl
same-put-list m n h (t ∷ ts) = λ i. same-put m n h t i ∷ same-put-list m n h ts i

pub same-instance : (m n : TypeMap) → ((a : Chars) → found a m ≡ found a n) → (t : Nameless) → nameless_instance m t ≡ nameless_instance n t
same-instance m n h (nameless_free x ty) = ap (nameless_free x) (same-put m n h ty)
same-instance m n h (nameless_bound i) = refl
same-instance m n h (nameless_loose x) = refl
same-instance m n h (nameless_constant c ts) = ap (nameless_constant c) (same-put-list m n h ts)
same-instance m n h (nameless_application f a) = λ i. nameless_application (same-instance m n h f i) (same-instance m n h a i)
same-instance m n h (nameless_abstraction ty b) = λ i. nameless_abstraction (same-put m n h ty i) (same-instance m n h b i)

-- the first pairs put the same as all
pub firsts-same : (ps : TypeMap) (a : Chars) → found a (firsts_behind [] ps) ≡ found a ps
firsts-same ps a = firsts-found a [] ps

-- ---- what stands in a sound type is sound

sound-append : (sig : Signature) (xs ys : TypeMap) → types_fault sig (row (map (λ p. p.1) xs)) ≡ None → types_fault sig (row (map (λ p. p.1) ys)) ≡ None → types_fault sig (row (map (λ p. p.1) (xs ++ ys))) ≡ None
sound-append sig [] ys h k = k
sound-append sig (x ∷ xs) ys h k =
    let p = both-none (type_fault sig x.1) (types_fault sig (row (map (λ q. q.1) xs))) h in
    none-both (type_fault sig x.1) (types_fault sig (row (map (λ q. q.1) (xs ++ ys)))) p.0 (sound-append sig xs ys p.1 k)

mutual
  match-sound : (sig : Signature) (p t : TypeTree) → type_fault sig t ≡ None → types_fault sig (row (map (λ q. q.1) (type_match p t))) ≡ None
  match-sound sig (type_variable a) t e = none-both (type_fault sig t) None e refl
  match-sound sig (type_constructor c ps) (type_variable a) e = refl
  match-sound sig (type_constructor c ps) (type_constructor d ts) e = matches-sound sig ps ts (both-none _ (types_fault sig ts) e).1

  matches-sound : (sig : Signature) (ps ts : TypeTrees) → types_fault sig ts ≡ None → types_fault sig (row (map (λ q. q.1) (types_match ps ts))) ≡ None
  matches-sound sig no_types ts e = refl
  matches-sound sig (type_and p ps) no_types e = refl
  matches-sound sig (type_and p ps) (type_and t ts) e =
      let h = both-none (type_fault sig t) (types_fault sig ts) e in
      sound-append sig (type_match p t) (types_match ps ts) (match-sound sig p t h.0) (matches-sound sig ps ts h.1)

pub firsts-sound : (sig : Signature) (done ps : TypeMap) → types_fault sig (row (map (λ p. p.1) done)) ≡ None → types_fault sig (row (map (λ p. p.1) ps)) ≡ None
    → types_fault sig (row (map (λ p. p.1) (firsts_behind done ps))) ≡ None
firsts-sound sig done [] h k = h
firsts-sound sig done (p ∷ ps) h k =
    let q = both-none (type_fault sig p.1) (types_fault sig (row (map (λ r. r.1) ps))) k in
    firsts-sound sig (if is_some (found p.0 done) then done else done ++ p ∷ []) ps (elim (cases_Bool (is_some (found p.0 done))) [
      | inl e ↦ subst (λ (d : TypeMap). types_fault sig (row (map (λ r. r.1) d)) ≡ None) (sym (cond-true (is_some (found p.0 done)) done (done ++ p ∷ []) e)) h
      | inr e ↦ subst (λ (d : TypeMap). types_fault sig (row (map (λ r. r.1) d)) ≡ None) (sym (cond-false (is_some (found p.0 done)) done (done ++ p ∷ []) e))
          (sound-append sig done (p ∷ []) h (none-both (type_fault sig p.1) None q.0 refl))
    ]) q.1

-- ---- the test

row-parts : (m : TypeMap) (ps ts : List TypeTree) → types_instance m (row ps) ≡ row ts → map (type_instance m) ps ≡ ts
row-parts m [] [] e = refl
row-parts m [] (t ∷ ts) e = absurd (cc e)
row-parts m (p ∷ ps) [] e = absurd (cc e)
row-parts m (p ∷ ps) (t ∷ ts) e =
    let h = parts (type_instance m p) t (types_instance m (row ps)) (row ts) e in
    let others = row-parts m ps ts h.1 in
    λ i. h.0 i ∷ others i

same-arguments : (c d : Chars) (ps ts : List TypeTree) → nameless_constant c ps ≡ nameless_constant d ts → ps ≡ ts
same-arguments c d ps ts e = cc e

module _ (c : Chars) (ps ts : List TypeTree) where
  abbrev read : TypeMap
  read = types_match (row ps) (row ts)

  abbrev pattern : TypeTree
  pattern = type_constructor c (row ps)

  abbrev whole : TypeTree
  whole = type_constructor c (row ts)

  same-rows : type_instance read pattern ≡ whole → map (type_instance read) ps ≡ ts
  same-rows e = row-parts read ps ts (rows e)
    where
      rows : type_constructor c (types_instance read (row ps)) ≡ type_constructor c (row ts) → types_instance read (row ps) ≡ row ts
      rows q = cc q

  -- a map that was found
  module _ (m : TypeMap) (d : are_distinct (map (λ q. q.0) m) ≡ true) (h : Matches pattern m whole) where
    found-same : (a : Chars) → found a m ≡ found a read
    found-same a = ap (found a) (matched-is pattern whole m d h) ∙ firsts-same read a

    pub matched-instance : (t : Nameless) → nameless_instance m t ≡ nameless_instance (types_for (nameless_constant c ps) (nameless_constant c ts)) t
    matched-instance t = same-instance m read found-same t

    pub matched-types : map (type_instance m) ps ≡ ts
    matched-types = same-put-list m read found-same ps ∙ same-rows (sym (same-put m read found-same pattern) ∙ h.instance)

    pub matched-test : is_instance (nameless_constant c ps) (nameless_constant c ts) ≡ true
    matched-test =
        ap (λ us. same_nameless (nameless_constant c ts) (nameless_constant c us)) (same-rows (sym (same-put m read found-same pattern) ∙ h.instance))
        ∙ same-refl (nameless_constant c ts)

    pub matched-sound : (sig : Signature) → types_fault sig (row ts) ≡ None → types_fault sig (row (map (λ q. q.1) m)) ≡ None
    matched-sound sig e =
        ap (λ es. types_fault sig (row (map (λ q. q.1) es))) (matched-is pattern whole m d h) ∙ firsts-sound sig [] read refl (matches-sound sig (row ps) (row ts) e)

  -- no map was found
  pub unmatched-test : ((m : TypeMap) → Matches pattern m whole → ⊥) → is_instance (nameless_constant c ps) (nameless_constant c ts) ≡ false
  unmatched-test h = elim (cases_Bool (is_instance (nameless_constant c ps) (nameless_constant c ts))) [
    | inr e ↦ e
    | inl e ↦
        let same : ts ≡ map (type_instance read) ps = same-arguments c c ts (map (type_instance read) ps)
        (same-is (nameless_constant c ts) (nameless_instance read (nameless_constant c ps)) e) in
        absurd (h (firsts_behind [] read) (read-matches pattern whole read (ap (type_constructor c) (sym (row-map read ps) ∙ ap row (sym same)))))
  ]

-- an instance is what some types make of the constant
pub instance-test : (c : Chars) (ps : List TypeTree) (t : Nameless) (m : TypeMap) → nameless_instance m (nameless_constant c ps) ≡ t → is_instance (nameless_constant c ps) t ≡ true
instance-test c ps t m e = subst (λ (u : Nameless). is_instance (nameless_constant c ps) u ≡ true) e (
    let ts = map (type_instance m) ps in
    let read = types_match (row ps) (row ts) in
    let whole : type_instance m (type_constructor c (row ps)) ≡ type_constructor c (row ts) = ap (type_constructor c) (sym (row-map m ps)) in
    let matches = read-matches (type_constructor c (row ps)) (type_constructor c (row ts)) m whole in
    let same = sym (same-put (firsts_behind [] read) read (firsts-same read) (type_constructor c (row ps))) ∙ matches.instance in
    ap (λ us. same_nameless (nameless_constant c ts) (nameless_constant c us)) (same-rows c ps ts same) ∙ same-refl (nameless_constant c ts))

pub test-instance : (c : Chars) (ps : List TypeTree) (t : Nameless) → is_instance (nameless_constant c ps) t ≡ true → (m : TypeMap) × (nameless_instance m (nameless_constant c ps) ≡ t)
test-instance c ps t e =
    let m = types_for (nameless_constant c ps) t in
    (m, sym (same-is t (nameless_instance m (nameless_constant c ps)) e))

-- another constant
pub other-test : (c d : Chars) (ps ts : List TypeTree) → same_name d c ≡ false → is_instance (nameless_constant c ps) (nameless_constant d ts) ≡ false
other-test c d ps ts e = ap (λ (b : Bool). b && same_types (row ts) (row (map (type_instance (types_match (row ps) (row ts))) ps))) e

-- no constants
pub none-left : (c t : Nameless) → is_constant c ≡ false → is_instance c t ≡ false
none-left (nameless_constant c ps) t e = absurd (true-false e)
none-left (nameless_free x ty) t e = refl
none-left (nameless_bound i) t e = refl
none-left (nameless_loose x) t e = refl
none-left (nameless_application f a) t e = refl
none-left (nameless_abstraction ty b) t e = refl

pub none-right : (c t : Nameless) → is_constant t ≡ false → is_instance c t ≡ false
none-right (nameless_constant c ps) (nameless_constant d ts) e = absurd (true-false e)
none-right (nameless_constant c ps) (nameless_free x ty) e = refl
none-right (nameless_constant c ps) (nameless_bound i) e = refl
none-right (nameless_constant c ps) (nameless_loose x) e = refl
none-right (nameless_constant c ps) (nameless_application f a) e = refl
none-right (nameless_constant c ps) (nameless_abstraction ty b) e = refl
none-right (nameless_free x ty) t e = refl
none-right (nameless_bound i) t e = refl
none-right (nameless_loose x) t e = refl
none-right (nameless_application f a) t e = refl
none-right (nameless_abstraction ty b) t e = refl
