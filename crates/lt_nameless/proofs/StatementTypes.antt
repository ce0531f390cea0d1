-- Each named statement of a valid theory is closed and boolean.
use Rattle.std.proofs.Common.{◌≡◌, ◌⊎◌, inl, inr, ℕ, suc, List, [], ◌∷◌, ◌++◌, true, ◌&&◌, Option, Some, None, unwrap_or, length, map, nat_eq, codes, refl, sym, ◌∙◌, ap, subst, arith}
use Rattle.std.specs.List.{zip}
use Rattle.std.proofs.lemmas.List.{length-map}
use Rattle.std.proofs.lemmas.Bool.Decides.{nat_tests}
use Rattle.lt_definitions.specs.Items.{Item, type_item, const_item, axiom_item, def_item, typedef_item, lemma_item, Context, empty, with_types, with_consts, with_statements, declared, definition_label, definition_statement, new_type, rep_label, rep_inverse_label, abs_inverse_label, rep_statement, rep_inverse_statement, abs_inverse_statement, typedef_statements, raw_type, with_typedef, with_item, context_of}
use Rattle.lt_definitions.specs.Types.{Chars, same_name, found, TypeTree, TypeTrees, TypeMap, type_variable, type_constructor, no_types, type_and, bool, fun, listed, row, same_type, type_variables, type_instance, types_instance}
use Rattle.lt_definitions.specs.Terms.{TermTree, free_variable, bound_name, constant, application, abstraction, equation, implies, for_all}
use Rattle.lt_definitions.specs.Typing.{Signature, built_in, constructor_fault, type_fault, types_fault, typed, HasType}
use Rattle.lt_definitions.specs.Derivations.{IsPartOf}
use Rattle.lt_definitions.specs.Theory.{refusal, AreValid, IsPlainTheory}
use Rattle.lt_definitions.specs.Extensions.{IsStatement, IsTypedef, IsDefinition}
use Rattle.lt_definitions.proofs.SameNames.{bool_cases, name-true, true-name, false-name, listed-row}
use Rattle.lt_nameless.proofs.Typings.{has-typed}
use Rattle.lt_nameless.proofs.BindingLemmas.{if-true, if-false}
use Rattle.lt_nameless.proofs.MoreDeclarations.{type-more, has-more}
use Rattle.lt_nameless.proofs.Refusals.{refusal-extension}
use Rattle.lt_nameless.proofs.LaterItems.{found-append, keeps-types, keeps-consts}
use Rattle.lt_definitions.proofs.TypingLemmas.{both-none, none-both}

found-split : {A : Type 0} (x : Chars) (ps qs : List (Chars × A)) (v : A) → found x (ps ++ qs) ≡ Some v → (found x ps ≡ Some v) ⊎ (found x qs ≡ Some v)
found-split x [] qs v e = inr e
found-split x (p ∷ ps) qs v e = elim (bool_cases (same_name x p.0)) [
  | inl h ↦ inl (if-true (same_name x p.0) (Some p.1) (found x ps) h ∙ sym (if-true (same_name x p.0) (Some p.1) (found x (ps ++ qs)) h) ∙ e)
  | inr h ↦ elim (found-split x ps qs v (sym (if-false (same_name x p.0) (Some p.1) (found x (ps ++ qs)) h) ∙ e)) [
    | inl k ↦ inl (if-false (same_name x p.0) (Some p.1) (found x ps) h ∙ k)
    | inr k ↦ inr k
  ]
]

pub found-new : {A : Type 0} (x : Chars) (ps qs : List (Chars × A)) → found x ps ≡ None → found x (ps ++ qs) ≡ found x qs
found-new x [] qs e = refl
found-new x (p ∷ ps) qs e = elim (bool_cases (same_name x p.0)) [
  | inl h ↦ let some : Some p.1 ≡ None = sym (if-true (same_name x p.0) (Some p.1) (found x ps) h) ∙ e in absurd (cc some)
  | inr h ↦ if-false (same_name x p.0) (Some p.1) (found x (ps ++ qs)) h
      ∙ found-new x ps qs (sym (if-false (same_name x p.0) (Some p.1) (found x ps) h) ∙ e)
]

pub found-first : {A : Type 0} (x : Chars) (v : A) (ps : List (Chars × A)) → found x ((x, v) ∷ ps) ≡ Some v
found-first x v ps = if-true (same_name x x) (Some v) (found x ps) (true-name x x refl)

-- a constant at the variables of its own type

variable-itself : (vs : List Chars) (a : Chars) → unwrap_or (found a (zip vs (map type_variable vs))) (type_variable a) ≡ type_variable a
variable-itself [] a = refl
variable-itself (v ∷ vs) a = elim (bool_cases (same_name a v)) [
  | inl h ↦ ap (λ o. unwrap_or o (type_variable a)) (if-true (same_name a v) (Some (type_variable v)) (found a (zip vs (map type_variable vs))) h)
      ∙ ap type_variable (sym (name-true a v h))
  | inr h ↦ ap (λ o. unwrap_or o (type_variable a)) (if-false (same_name a v) (Some (type_variable v)) (found a (zip vs (map type_variable vs))) h)
      ∙ variable-itself vs a
]

mutual
  type-itself : (vs : List Chars) (t : TypeTree) → type_instance (zip vs (map type_variable vs)) t ≡ t
  type-itself vs (type_variable a) = variable-itself vs a
  type-itself vs (type_constructor c ts) = ap (type_constructor c) (types-itself vs ts)

  types-itself : (vs : List Chars) (ts : TypeTrees) → types_instance (zip vs (map type_variable vs)) ts ≡ ts
  types-itself vs no_types = refl
  types-itself vs (type_and t ts) = λ i. type_and (type-itself vs t i) (types-itself vs ts i)

variables-fault : (sig : Signature) (vs : List Chars) → types_fault sig (row (map type_variable vs)) ≡ None
variables-fault sig [] = refl
variables-fault sig (v ∷ vs) = variables-fault sig vs

declared-typed : (sig : Signature) (env : List (Chars × TypeTree)) (c : Chars) (ty : TypeTree) → found c sig.consts ≡ Some ty → HasType sig env (declared c ty) ty
declared-typed sig env c ty e = (ty, e, length-map (type_variables ty) type_variable, variables-fault sig (type_variables ty), type-itself (type_variables ty) ty)

-- the types of terms have no fault

abbrev pub AreSound : Signature → List (Chars × TypeTree) → Type 0
AreSound sig pairs = (c : Chars) (ty : TypeTree) → found c pairs ≡ Some ty → type_fault sig ty ≡ None

value-sound : (sig : Signature) (vs : List Chars) (ts : List TypeTree) (a : Chars) → types_fault sig (row ts) ≡ None
    → type_fault sig (unwrap_or (found a (zip vs ts)) (type_variable a)) ≡ None
value-sound sig [] ts a e = refl
value-sound sig (v ∷ vs) [] a e = refl
value-sound sig (v ∷ vs) (t ∷ ts) a e =
    let h = both-none (type_fault sig t) (types_fault sig (row ts)) e in
    elim (bool_cases (same_name a v)) [
      | inl k ↦ ap (λ o. type_fault sig (unwrap_or o (type_variable a))) (if-true (same_name a v) (Some t) (found a (zip vs ts)) k) ∙ h.0
      | inr k ↦ ap (λ o. type_fault sig (unwrap_or o (type_variable a))) (if-false (same_name a v) (Some t) (found a (zip vs ts)) k) ∙ value-sound sig vs ts a h.1
    ]

same_count : (m : TypeMap) (ts : TypeTrees) → length (listed (types_instance m ts)) ≡ length (listed ts)
same_count m no_types = refl
same_count m (type_and t ts) = ap suc (same_count m ts)

mutual
  pub instance-sound : (sig : Signature) (vs : List Chars) (us : List TypeTree) (t : TypeTree) → types_fault sig (row us) ≡ None → type_fault sig t ≡ None
      → type_fault sig (type_instance (zip vs us) t) ≡ None
  instance-sound sig vs us (type_variable a) e h = value-sound sig vs us a e
  instance-sound sig vs us (type_constructor c ts) e h =
      let k = both-none (constructor_fault c (length (listed ts)) (found c sig.types)) (types_fault sig ts) h in
      none-both (constructor_fault c (length (listed (types_instance (zip vs us) ts))) (found c sig.types)) (types_fault sig (types_instance (zip vs us) ts))
      (ap (λ n. constructor_fault c n (found c sig.types)) (same_count (zip vs us) ts) ∙ k.0) (instances-sound sig vs us ts e k.1)

  pub instances-sound : (sig : Signature) (vs : List Chars) (us : List TypeTree) (ts : TypeTrees) → types_fault sig (row us) ≡ None → types_fault sig ts ≡ None
      → types_fault sig (types_instance (zip vs us) ts) ≡ None
  instances-sound sig vs us no_types e h = refl
  instances-sound sig vs us (type_and t ts) e h =
      let k = both-none (type_fault sig t) (types_fault sig ts) h in
      none-both (type_fault sig (type_instance (zip vs us) t)) (types_fault sig (types_instance (zip vs us) ts))
      (instance-sound sig vs us t e k.0) (instances-sound sig vs us ts e k.1)

pub fun-sound : (sig : Signature) → IsPartOf built_in sig → (t u : TypeTree) → type_fault sig t ≡ None → type_fault sig u ≡ None → type_fault sig (fun t u) ≡ None
fun-sound sig b t u d e =
    none-both (constructor_fault (codes "fun") 2 (found (codes "fun") sig.types)) (types_fault sig (type_and t (type_and u no_types)))
    (ap (constructor_fault (codes "fun") 2) (b.types (codes "fun") 2 refl))
    (none-both (type_fault sig t) (types_fault sig (type_and u no_types)) d (none-both (type_fault sig u) None e refl))

pub sound-fun : (sig : Signature) (t u : TypeTree) → type_fault sig (fun t u) ≡ None → (type_fault sig t ≡ None) × (type_fault sig u ≡ None)
sound-fun sig t u e =
    let h = both-none (constructor_fault (codes "fun") 2 (found (codes "fun") sig.types)) (types_fault sig (type_and t (type_and u no_types))) e in
    let k = both-none (type_fault sig t) (types_fault sig (type_and u no_types)) h.1 in
    (k.0, (both-none (type_fault sig u) None k.1).0)

pub bool-sound : (sig : Signature) → IsPartOf built_in sig → type_fault sig bool ≡ None
bool-sound sig b = none-both (constructor_fault (codes "bool") 0 (found (codes "bool") sig.types)) None
    (ap (constructor_fault (codes "bool") 0) (b.types (codes "bool") 0 refl)) refl

pub typed-sound : (sig : Signature) → IsPartOf built_in sig → AreSound sig sig.consts → (env : List (Chars × TypeTree)) → AreSound sig env
    → (t : TermTree) (ty : TypeTree) → HasType sig env t ty → type_fault sig ty ≡ None
typed-sound sig b c env s (free_variable x u) ty h = ap (type_fault sig) (sym h.1) ∙ h.0
typed-sound sig b c env s (bound_name x) ty h = s x ty h
typed-sound sig b c env s (constant d ts) ty h =
    ap (type_fault sig) (sym h.4) ∙ instance-sound sig (type_variables h.0) ts h.0 h.3 (c d h.0 h.1)
typed-sound sig b c env s (application f a) ty h = (sound-fun sig h.0 ty (typed-sound sig b c env s f (fun h.0 ty) h.1)).1
typed-sound sig b c env s (abstraction x u t) ty h =
    ap (type_fault sig) (sym h.3) ∙ fun-sound sig b u h.0 h.1 (typed-sound sig b c ((x, u) ∷ env) inner t h.0 h.2) where
      inner : AreSound sig ((x, u) ∷ env)
      inner y v e = elim (bool_cases (same_name y x)) [
        | inl k ↦ let some : Some u ≡ Some v = sym (if-true (same_name y x) (Some u) (found y env) k) ∙ e in
            let same : u ≡ v = cc some in ap (type_fault sig) (sym same) ∙ h.1
        | inr k ↦ s y v (sym (if-false (same_name y x) (Some u) (found y env) k) ∙ e)
      ]

pub more-binders : (sig : Signature) (env more : List (Chars × TypeTree)) (t : TermTree) (ty : TypeTree) → HasType sig env t ty → HasType sig (env ++ more) t ty
more-binders sig env more (free_variable x u) ty h = h
more-binders sig env more (bound_name x) ty h = found-append x env more ty h
more-binders sig env more (constant c ts) ty h = h
more-binders sig env more (application f a) ty h = (h.0, more-binders sig env more f (fun h.0 ty) h.1, more-binders sig env more a h.0 h.2)
more-binders sig env more (abstraction x u b) ty h = (h.0, h.1, more-binders sig ((x, u) ∷ env) more b h.0 h.2, h.3)

-- the built-in constants

pub equation-typed : (sig : Signature) → IsPartOf built_in sig → (env : List (Chars × TypeTree)) (ty : TypeTree) (s t : TermTree) → type_fault sig ty ≡ None
    → HasType sig env s ty → HasType sig env t ty → HasType sig env (equation ty s t) bool
equation-typed sig b env ty s t e h k =
    let a : TypeTree = type_variable (codes "a") in
    (ty, (ty, (fun a (fun a bool), b.consts (codes "eq") (fun a (fun a bool)) refl, refl, none-both (type_fault sig ty) None e refl, refl), h), k)

pub implies-typed : (sig : Signature) → IsPartOf built_in sig → (env : List (Chars × TypeTree)) (p q : TermTree)
    → HasType sig env p bool → HasType sig env q bool → HasType sig env (implies p q) bool
implies-typed sig b env p q h k =
    (bool, (bool, (fun bool (fun bool bool), b.consts (codes "imp") (fun bool (fun bool bool)) refl, refl, refl, refl), h), k)

pub for_all-typed : (sig : Signature) → IsPartOf built_in sig → (env : List (Chars × TypeTree)) (x : Chars) (ty : TypeTree) (p : TermTree) → type_fault sig ty ≡ None
    → HasType sig ((x, ty) ∷ env) p bool → HasType sig env (for_all ty (abstraction x ty p)) bool
for_all-typed sig b env x ty p e h =
    let a : TypeTree = type_variable (codes "a") in (
      fun ty bool,
      (fun (fun a bool) bool, b.consts (codes "all") (fun (fun a bool) bool) refl, refl, none-both (type_fault sig ty) None e refl, refl),
      (bool, e, h, refl),
    )

-- contexts

pub record IsSound (ctx : Context) : Type 0 where
  pub built : IsPartOf built_in ctx.signature
  pub consts : AreSound ctx.signature ctx.signature.consts
  pub stated : (l : Chars) (p : TermTree) → found l ctx.statements ≡ Some p → IsStatement ctx p

pub sound-empty : IsSound empty
sound-empty = record {
  built = record { types = λ c k e. e; consts = λ c ty e. e };
  consts = λ c ty e. built-sound c ty e;
  stated = λ l p e. absurd (cc e);
} where
  of_some : (u v : TypeTree) → type_fault built_in u ≡ None → Some u ≡ Some v → type_fault built_in v ≡ None
  of_some u v f e = let same : u ≡ v = cc e in ap (type_fault built_in) (sym same) ∙ f

  built-sound : AreSound built_in built_in.consts
  built-sound c ty e = let a : TypeTree = type_variable (codes "a") in
      elim (bool_cases (same_name c (codes "eq"))) [
        | inl h ↦ of_some (fun a (fun a bool)) ty refl (sym (if-true (same_name c (codes "eq")) _ _ h) ∙ e)
        | inr h ↦ elim (bool_cases (same_name c (codes "imp"))) [
          | inl k ↦ of_some (fun bool (fun bool bool)) ty refl (sym (if-true (same_name c (codes "imp")) _ _ k) ∙ sym (if-false (same_name c (codes "eq")) _ _ h) ∙ e)
          | inr k ↦ elim (bool_cases (same_name c (codes "all"))) [
            | inl m ↦ of_some (fun (fun a bool) bool) ty refl
                (sym (if-true (same_name c (codes "all")) _ _ m) ∙ sym (if-false (same_name c (codes "imp")) _ _ k) ∙ sym (if-false (same_name c (codes "eq")) _ _ h) ∙ e)
            | inr m ↦ elim (bool_cases (same_name c (codes "eps"))) [
              | inl n ↦ of_some (fun (fun a bool) a) ty refl
                  (sym (if-true (same_name c (codes "eps")) _ _ n) ∙ sym (if-false (same_name c (codes "all")) _ _ m)
                  ∙ sym (if-false (same_name c (codes "imp")) _ _ k) ∙ sym (if-false (same_name c (codes "eq")) _ _ h) ∙ e)
              | inr n ↦ let no : None ≡ Some ty = sym (if-false (same_name c (codes "eps")) _ _ n) ∙ sym (if-false (same_name c (codes "all")) _ _ m)
                  ∙ sym (if-false (same_name c (codes "imp")) _ _ k) ∙ sym (if-false (same_name c (codes "eq")) _ _ h) ∙ e in absurd (cc no)
            ]
          ]
        ]
      ]

statement-later : (ctx later : Context) → IsPartOf ctx.signature later.signature → (p : TermTree) → IsStatement ctx p → IsStatement later p
statement-later ctx later h p s = (has-more ctx.signature later.signature h [] p bool s.0, s.1)

built-later : (sig more : Signature) → IsPartOf built_in sig → IsPartOf sig more → IsPartOf built_in more
built-later sig more b h = record {
  types = λ c k e. h.types c k (b.types c k e);
  consts = λ c ty e. h.consts c ty (b.consts c ty e);
}

sound-types : (ts : List (Chars × ℕ)) (ctx : Context) → IsSound ctx → IsSound (with_types ts ctx)
sound-types ts ctx s =
    let h = (keeps-types ts ctx).declared in
    record {
      built = built-later ctx.signature (with_types ts ctx).signature s.built h;
      consts = λ c ty e. type-more ctx.signature (with_types ts ctx).signature h ty (s.consts c ty e);
      stated = λ l p e. statement-later ctx (with_types ts ctx) h p (s.stated l p e);
    }

sound-consts : (cs : List (Chars × TypeTree)) (ctx : Context) → AreSound ctx.signature cs → IsSound ctx → IsSound (with_consts cs ctx)
sound-consts cs ctx k s =
    let h = (keeps-consts cs ctx).declared in
    record {
      built = built-later ctx.signature (with_consts cs ctx).signature s.built h;
      consts = λ c ty e. type-more ctx.signature (with_consts cs ctx).signature h ty (elim (found-split c ctx.signature.consts cs ty e) [
        | inl a ↦ s.consts c ty a
        | inr a ↦ k c ty a
      ]);
      stated = λ l p e. statement-later ctx (with_consts cs ctx) h p (s.stated l p e);
    }

sound-statements : (ps : List (Chars × TermTree)) (ctx : Context) → ((l : Chars) (p : TermTree) → found l ps ≡ Some p → IsStatement ctx p)
    → IsSound ctx → IsSound (with_statements ps ctx)
sound-statements ps ctx k s = record {
  built = s.built;
  consts = s.consts;
  stated = λ l p e. elim (found-split l ctx.statements ps p e) [
    | inl a ↦ s.stated l p a
    | inr a ↦ k l p a
  ];
}

one-found : {A : Type 0} (P : A → Type 0) (x y : Chars) (v w : A) (later : List (Chars × A)) → P v → (found x later ≡ Some w → P w) → found x ((y, v) ∷ later) ≡ Some w → P w
one-found P x y v w later h k e = elim (bool_cases (same_name x y)) [
  | inl a ↦ let some : Some v ≡ Some w = sym (if-true (same_name x y) (Some v) (found x later) a) ∙ e in
      let same : v ≡ w = cc some in subst P same h
  | inr a ↦ k (sym (if-false (same_name x y) (Some v) (found x later) a) ∙ e)
]

none-found : {A : Type 0} (P : A → Type 0) (x : Chars) (w : A) → found x [] ≡ Some w → P w
none-found P x w e = absurd (cc e)

sound-definition : (ctx : Context) (n : Chars) (ty : TypeTree) (body : TermTree) → IsSound ctx → IsDefinition ctx n ty body → IsSound (with_item ctx (def_item n ty body))
sound-definition ctx n ty body s d =
    let mid : Context = with_consts ((n, ty) ∷ []) ctx in
    let mid_sound : IsSound mid = sound-consts ((n, ty) ∷ []) ctx
    (λ c u e. one-found (λ v. type_fault ctx.signature v ≡ None) c n ty u [] d.sound (none-found (λ v. type_fault ctx.signature v ≡ None) c u) e) s in
    let h = (keeps-consts ((n, ty) ∷ []) ctx).declared in
    let there : found n mid.signature.consts ≡ Some ty = found-new n ctx.signature.consts ((n, ty) ∷ []) d.new_const ∙ found-first n ty [] in
    let stated : IsStatement mid (definition_statement n ty body) = (
      equation-typed mid.signature mid_sound.built [] ty (declared n ty) body (type-more ctx.signature mid.signature h ty d.sound)
          (declared-typed mid.signature [] n ty there) (has-more ctx.signature mid.signature h [] body ty d.typed),
      d.closed,
    ) in
    sound-statements ((definition_label n, definition_statement n ty body) ∷ []) mid
    (λ l p e. one-found (IsStatement mid) l (definition_label n) (definition_statement n ty body) p [] stated (none-found (IsStatement mid) l p) e) mid_sound

count-same : (n : ℕ) → nat_eq n n ≡ true
count-same n = grind (arith, nat_tests)

raw-some : (ctx : Context) (p : TermTree) (raw : TypeTree) → HasType ctx.signature [] p (fun raw bool) → raw_type (typed ctx.signature [] p) ≡ Some raw
raw-some ctx p raw h = ap raw_type (has-typed ctx.signature [] p (fun raw bool) h) ∙ if-true (true && same_type bool bool) (Some raw) None refl

sound-typedef : (ctx : Context) (n : Chars) (params : List Chars) (p : TermTree) (l a b : Chars) → IsSound ctx → IsTypedef ctx n params p l a b
    → IsSound (with_item ctx (typedef_item n params p l a b))
sound-typedef ctx n params p l a b s d =
    let raw : TypeTree = d.raw in
    let new : TypeTree = new_type n params in
    let one : Context = with_types ((n, length params) ∷ []) ctx in
    let one_sound : IsSound one = sound-types ((n, length params) ∷ []) ctx s in
    let h1 = (keeps-types ((n, length params) ∷ []) ctx).declared in
    let count : length (listed (row (map type_variable params))) ≡ length params =
    ap length (listed-row (map type_variable params)) ∙ length-map params type_variable in
    let new_sound : type_fault one.signature new ≡ None =
    none-both (constructor_fault n (length (listed (row (map type_variable params)))) (found n one.signature.types)) (types_fault one.signature (row (map type_variable params)))
    ((λ i. constructor_fault n (count i) ((found-new n ctx.signature.types ((n, length params) ∷ []) d.new_type ∙ found-first n (length params) []) i))
    ∙ if-true (nat_eq (length params) (length params)) None _ (count-same (length params)))
    (variables-fault one.signature params) in
    let raw_sound : type_fault one.signature raw ≡ None =
    type-more ctx.signature one.signature h1 raw
    (sound-fun ctx.signature raw bool (typed-sound ctx.signature s.built s.consts [] (λ c u e. absurd (cc e)) p (fun raw bool) d.predicate)).0 in
    let reps : TypeTree = fun new raw in
    let abss : TypeTree = fun raw new in
    let cs : List (Chars × TypeTree) = (b, reps) ∷ (a, abss) ∷ [] in
    let two : Context = with_consts cs one in
    let sound_in : TypeTree → Type 0 = λ v. type_fault one.signature v ≡ None in
    let two_sound : IsSound two = sound-consts cs one
    (λ c u e. one-found sound_in c b reps u ((a, abss) ∷ []) (fun-sound one.signature one_sound.built new raw new_sound raw_sound)
    (λ f. one-found sound_in c a abss u [] (fun-sound one.signature one_sound.built raw new raw_sound new_sound) (none-found sound_in c u) f) e) one_sound in
    let h2 = (keeps-consts cs one).declared in
    let new_two : type_fault two.signature new ≡ None = type-more one.signature two.signature h2 new new_sound in
    let raw_two : type_fault two.signature raw ≡ None = type-more one.signature two.signature h2 raw raw_sound in
    let found_b : found b two.signature.consts ≡ Some reps = found-new b ctx.signature.consts cs d.new_rep ∙ found-first b reps ((a, abss) ∷ []) in
    let found_a : found a two.signature.consts ≡ Some abss =
    found-new a ctx.signature.consts cs d.new_abs ∙ if-false (same_name a b) (Some reps) (found a ((a, abss) ∷ [])) (false-name a b d.two) ∙ found-first a abss [] in
    let typed_p : (env : List (Chars × TypeTree)) → HasType two.signature env p (fun raw bool) =
    λ env. more-binders two.signature [] env p (fun raw bool) (has-more one.signature two.signature h2 [] p (fun raw bool) (has-more ctx.signature one.signature h1 [] p (fun raw bool) d.predicate)) in
    let env_a : List (Chars × TypeTree) = (codes "a", new) ∷ [] in
    let env_r : List (Chars × TypeTree) = (codes "r", raw) ∷ [] in
    let built : IsPartOf built_in two.signature = two_sound.built in
    let at_a : TermTree = bound_name (codes "a") in
    let at_r : TermTree = bound_name (codes "r") in
    let rep_a : TermTree = application (declared b reps) at_a in
    let abs_a : TermTree = application (declared a abss) rep_a in
    let abs_r : TermTree = application (declared a abss) at_r in
    let rep_r : TermTree = application (declared b reps) abs_r in
    let first : IsStatement two (rep_statement new raw p b) = (
      for_all-typed two.signature built [] (codes "a") new (application p rep_a) new_two
          (raw, typed_p env_a, (new, declared-typed two.signature env_a b reps found_b, refl)),
      ap (λ v. v && true) d.closed,
    ) in
    let second : IsStatement two (rep_inverse_statement new raw a b) = (
      for_all-typed two.signature built [] (codes "a") new (equation new abs_a at_a) new_two
          (equation-typed two.signature built env_a new abs_a at_a new_two
          (raw, declared-typed two.signature env_a a abss found_a, (new, declared-typed two.signature env_a b reps found_b, refl)) refl),
      refl,
    ) in
    let third : IsStatement two (abs_inverse_statement new raw p a b) = (
      for_all-typed two.signature built [] (codes "r") raw (implies (application p at_r) (equation raw rep_r at_r)) raw_two
          (implies-typed two.signature built env_r (application p at_r) (equation raw rep_r at_r) (raw, typed_p env_r, refl)
          (equation-typed two.signature built env_r raw rep_r at_r raw_two
          (new, declared-typed two.signature env_r b reps found_b, (raw, declared-typed two.signature env_r a abss found_a, refl)) refl)),
      ap (λ v. (v && true) && true) d.closed,
    ) in
    let statement : TermTree → Type 0 = IsStatement two in
    let whole : IsSound (with_statements (typedef_statements n new raw p a b) two) = sound-statements (typedef_statements n new raw p a b) two
    (λ k q e. one-found statement k (rep_label n) (rep_statement new raw p b) q ((rep_inverse_label n, rep_inverse_statement new raw a b) ∷ (abs_inverse_label n, abs_inverse_statement new raw p a b) ∷ []) first
    (λ f. one-found statement k (rep_inverse_label n) (rep_inverse_statement new raw a b) q ((abs_inverse_label n, abs_inverse_statement new raw p a b) ∷ []) second
    (λ g. one-found statement k (abs_inverse_label n) (abs_inverse_statement new raw p a b) q [] third (none-found statement k q) g) f) e) two_sound in
    subst (λ (o : Option TypeTree). IsSound (with_typedef n params p a b o ctx)) (sym (raw-some ctx p raw d.predicate)) whole

sound-item : (ctx : Context) (item : Item) → IsSound ctx → refusal ctx item ≡ None → IsSound (with_item ctx item)
sound-item ctx (type_item n k) s e = sound-types ((n, k) ∷ []) ctx s
sound-item ctx (const_item n ty) s e =
    let h = refusal-extension ctx (const_item n ty) e in
    sound-consts ((n, ty) ∷ []) ctx
    (λ c u f. one-found (λ v. type_fault ctx.signature v ≡ None) c n ty u [] h.0 (none-found (λ v. type_fault ctx.signature v ≡ None) c u) f) s
sound-item ctx (axiom_item l t) s e =
    let h = refusal-extension ctx (axiom_item l t) e in
    sound-statements ((l, t) ∷ []) ctx (λ k p f. one-found (IsStatement ctx) k l t p [] h.0 (none-found (IsStatement ctx) k p) f) s
sound-item ctx (def_item n ty body) s e = sound-definition ctx n ty body s (refusal-extension ctx (def_item n ty body) e)
sound-item ctx (typedef_item n params p l a b) s e = sound-typedef ctx n params p l a b s (refusal-extension ctx (typedef_item n params p l a b) e)
sound-item ctx (lemma_item l t lines) s e =
    let h = refusal-extension ctx (lemma_item l t lines) e in
    sound-statements ((l, t) ∷ []) ctx (λ k p f. one-found (IsStatement ctx) k l t p [] h.0 (none-found (IsStatement ctx) k p) f) s

pub sound-items : (ctx : Context) (items : List Item) → IsSound ctx → AreValid ctx items → IsSound (context_of ctx items)
sound-items ctx [] s v = s
sound-items ctx (item ∷ items) s v = sound-items (with_item ctx item) items (sound-item ctx item s v.0) v.1

pub statements_are_boolean : (items : List Item) → IsPlainTheory items → (l : Chars) (p : TermTree)
    → found l (context_of empty items).statements ≡ Some p → IsStatement (context_of empty items) p
statements_are_boolean items v = (sound-items empty items sound-empty v).stated
