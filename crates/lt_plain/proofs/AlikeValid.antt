-- Items that differ in binder names alone are valid where the others are.
use Rattle.std.proofs.Common.{◌≡◌, inl, ◌∙◌, ap, sym, refl, subst, List, [], ◌∷◌, ◌++◌, Option, Some, None, Result, Ok, Err, codes}
use Rattle.std.specs.Prelude.{◌&&◌}
use Rattle.lt_definitions.specs.Types.{Chars, found, TypeTree, bool, fun, row, type_names, types_names, names_joined, type_variables}
use Rattle.lt_definitions.specs.Terms.{TermTree, free_variable, bound_name, constant, application, abstraction, is_closed, term_names, term_variables}
use Rattle.lt_definitions.specs.Typing.{Signature, Fault, typed, HasType}
use Rattle.lt_definitions.specs.Alpha.{AreAlpha, IsAlphaEqual}
use Rattle.lt_definitions.specs.Rules.{Sequent, AreAlphaEqual, Rule, Outcome, IsAlphaEqualOutcome, step, terms_of}
use Rattle.lt_definitions.specs.Derivations.{term_fault, rule_fault, Derives}
use Rattle.lt_definitions.specs.Items.{Item, type_item, const_item, axiom_item, def_item, typedef_item, lemma_item, Context, empty, with_item, with_typedef, new_type, raw_type, definition_label, definition_statement, rep_label, rep_inverse_label, abs_inverse_label, rep_statement, rep_inverse_statement, abs_inverse_statement, typedef_statements}
use Rattle.lt_definitions.specs.Extensions.{AreNamesAmong, IsExtension, IsStatement, Proves, IsInhabited, AreExtensions}
use Rattle.lt_definitions.specs.Theory.{IsPlainTheory}
use Rattle.lt_nameless.specs.Nameless.{Nameless, nameless}
use Rattle.lt_nameless.specs.NamelessRules.{nameless_fault, nameless_typed}
use Rattle.lt_nameless.specs.AlphaEqualLines.{AreAlphaEqualSequents, AreAlphaEqualStatements, AreAlphaEqualLines}
use Rattle.lt_nameless.proofs.Alphas.{alpha-nameless, nameless-alpha}
use Rattle.lt_nameless.proofs.AlphaLaws.{alpha_is_reflexive, alpha_is_symmetric, alpha_is_transitive}
use Rattle.lt_nameless.proofs.AlphaSteps.{step_respects_alpha}
use Rattle.lt_nameless.proofs.AlphaEqualLineLemmas.{equal-lines, equal-statements}
use Rattle.lt_nameless.proofs.BindingLemmas.{IsScoped}
use Rattle.lt_nameless.proofs.LaterItems.{valid_is_extending}
use Rattle.lt_nameless.proofs.NamelessSteps.{faults_are_nameless}
use Rattle.lt_nameless.proofs.NamelessTyping.{typed-nameless, typed-scoped, found-nameless, in_option}
use Rattle.lt_nameless.proofs.Typings.{typed-has, has-typed}
use Rattle.lt_texts.specs.Named.{AreAlikeItems}
use Rattle.lt_plain.proofs.AlikeTexts.{AreAlikeLines, IsAlikeItem, item_alike}

-- ---- terms

type-alike : (sig : Signature) (t u : TermTree) → IsAlphaEqual t u → typed sig [] t ≡ typed sig [] u
type-alike sig t u a = typed-nameless sig [] t ∙ ap (nameless_typed sig []) (alpha-nameless [] t u a) ∙ sym (typed-nameless sig [] u)

has-alike : (sig : Signature) (t u : TermTree) (ty : TypeTree) → IsAlphaEqual t u
    → HasType sig [] u ty → HasType sig [] t ty
has-alike sig t u ty a h = typed-has sig [] t ty (type-alike sig t u a ∙ has-typed sig [] u ty h)

closed-alike : (ps : List (Chars × Chars)) (s t : TermTree) → AreAlpha ps s t
    → is_closed s ≡ is_closed t
closed-alike ps (free_variable x u) (free_variable y v) h = refl
closed-alike ps (bound_name x) (bound_name y) h = refl
closed-alike ps (constant c ts) (constant d us) h = refl
closed-alike ps (application f a) (application g b) h = λ z. closed-alike ps f g h.0 z && closed-alike ps a b h.1 z
closed-alike ps (abstraction x u b) (abstraction y v c) h = closed-alike ((x, y) ∷ ps) b c h.1
closed-alike ps s t h = absurd h

names-alike : (ps : List (Chars × Chars)) (s t : TermTree) → AreAlpha ps s t
    → term_names s ≡ term_names t
names-alike ps (free_variable x u) (free_variable y v) h = ap type_names h.1
names-alike ps (bound_name x) (bound_name y) h = refl
names-alike ps (constant c ts) (constant d us) h = ap (λ (z : List TypeTree). types_names (row z)) h.1
names-alike ps (application f a) (application g b) h = λ z. names-alike ps f g h.0 z ++ names-alike ps a b h.1 z
names-alike ps (abstraction x u b) (abstraction y v c) h = λ z. type_names (h.0 z) ++ names-alike ((x, y) ∷ ps) b c h.1 z
names-alike ps s t h = absurd h

variables-alike : (s t : TermTree) → IsAlphaEqual s t → term_variables s ≡ term_variables t
variables-alike s t h = ap (names_joined []) (names-alike [] s t h)

-- terms without loose bound names are alpha-equal under a binder too
under-binder : (x : Chars) (s t : TermTree) → IsScoped s → IsScoped t → IsAlphaEqual s t
    → AreAlpha ((x, x) ∷ []) s t
under-binder x s t m n a = nameless-alpha ((x, x) ∷ []) s t (m (x ∷ []) ∙ alpha-nameless [] s t a ∙ sym (n (x ∷ [])))

-- ---- lists that are alpha-equal one by one

equal-sym : (ss ts : List TermTree) → AreAlphaEqual ss ts → AreAlphaEqual ts ss
equal-sym [] [] h = tt
equal-sym (s ∷ ss) (t ∷ ts) h = (alpha_is_symmetric s t h.0, equal-sym ss ts h.1)
equal-sym ss ts h = absurd h

line-sym : (r q : Rule TermTree) → AreAlphaEqualLines r q → AreAlphaEqualLines q r
line-sym r q h = (sym h.0, equal-sym (terms_of r) (terms_of q) h.1)

statements-append : (ps qs ms ns : List (Chars × TermTree)) → AreAlphaEqualStatements ps qs
    → AreAlphaEqualStatements ms ns → AreAlphaEqualStatements (ps ++ ms) (qs ++ ns)
statements-append [] [] ms ns h k = k
statements-append (p ∷ ps) (q ∷ qs) ms ns h k = (h.0, h.1, statements-append ps qs ms ns h.2 k)
statements-append ps qs ms ns h k = absurd h

sequents-append : (ss us xs ys : List Sequent) → AreAlphaEqualSequents ss us
    → AreAlphaEqualSequents xs ys → AreAlphaEqualSequents (ss ++ xs) (us ++ ys)
sequents-append [] [] xs ys h k = k
sequents-append (s ∷ ss) (u ∷ us) xs ys h k = (h.0, h.1, sequents-append ss us xs ys h.2 k)
sequents-append ss us xs ys h k = absurd h

-- ---- statements that are found

none-found : (o : Option TermTree) → in_option (nameless []) o ≡ None → o ≡ None
none-found None e = refl
none-found (Some t) e = absurd (cc e)

some-found : (o : Option TermTree) (n : Nameless) → in_option (nameless []) o ≡ Some n
    → (t : TermTree) × (o ≡ Some t) × (nameless [] t ≡ n)
some-found None n e = absurd (cc e)
some-found (Some t) n e = (t, refl, cc e)

found-alike : (l : Chars) (ps qs : List (Chars × TermTree)) → AreAlphaEqualStatements ps qs
    → in_option (nameless []) (found l qs) ≡ in_option (nameless []) (found l ps)
found-alike l ps qs h = found-nameless l qs ∙ ap (found l) (sym (equal-statements ps qs h)) ∙ sym (found-nameless l ps)

new-alike : (l : Chars) (ps qs : List (Chars × TermTree)) → AreAlphaEqualStatements ps qs
    → found l ps ≡ None → found l qs ≡ None
new-alike l ps qs h e = none-found (found l qs) (found-alike l ps qs h ∙ ap (in_option (nameless [])) e)

-- what is alpha-equal to an application is one
application-alike : (s f a : TermTree) → IsAlphaEqual s (application f a)
    → (g : TermTree) × (b : TermTree) × (s ≡ application g b) × IsAlphaEqual g f
application-alike (free_variable x u) f a h = absurd h
application-alike (bound_name x) f a h = absurd h
application-alike (constant c ts) f a h = absurd h
application-alike (application g b) f a h = (g, b, refl, h.0)
application-alike (abstraction x u b) f a h = absurd h

inhabited-alike : (ctx : Context) (qs : List (Chars × TermTree)) (t u : TermTree) (l : Chars)
    → IsAlphaEqual t u → AreAlphaEqualStatements ctx.statements qs → IsInhabited ctx u l
    → IsInhabited (record ctx { statements = qs }) t l
inhabited-alike ctx qs t u l a s h =
    let k = some-found (found l qs) (nameless [] (application h.head h.witness)) (found-alike l ctx.statements qs s ∙ ap (in_option (nameless [])) h.named) in
    let one = application-alike k.0 h.head h.witness (nameless-alpha [] k.0 (application h.head h.witness) k.2) in
    record {
      head = one.0;
      witness = one.1;
      named = k.1 ∙ ap Some one.2;
      same = alpha_is_transitive t u one.0 a (alpha_is_transitive u h.head one.0 h.same (alpha_is_symmetric one.0 h.head one.3));
    }

-- ---- derivations

outcome-ok : (s : Sequent) (o : Outcome) → IsAlphaEqualOutcome (Ok s) o
    → (u : Sequent) × (o ≡ Ok u) × AreAlphaEqual s.hyps u.hyps × IsAlphaEqual s.concl u.concl
outcome-ok s (Ok u) h = (u, refl, h.0, h.1)
outcome-ok s (Err r) h = absurd h

derives-alike : (sig : Signature) (named others : List (Chars × TermTree))
    (done also : List Sequent) (rules lines : List (Rule TermTree)) (ss : List Sequent)
    → AreAlphaEqualStatements named others → AreAlphaEqualSequents done also
    → AreAlikeLines lines rules → Derives sig named done rules ss
    → (us : List Sequent) × Derives sig others also lines us × AreAlphaEqualSequents ss us
derives-alike sig named others done also [] [] [] n d l h = ([], tt, tt)
derives-alike sig named others done also (r ∷ rules) (q ∷ lines) (s ∷ ss) n d l h =
    let same : AreAlphaEqualLines r q = line-sym q r l.0 in
    let sound : rule_fault sig (term_fault sig) q ≡ None = faults_are_nameless sig q ∙ ap (rule_fault sig (nameless_fault sig)) (sym (equal-lines r q same)) ∙ sym (faults_are_nameless sig r) ∙ h.0 in
    let goes : IsAlphaEqualOutcome (step sig named done r) (step sig others also q) = step_respects_alpha sig named others done also r q n d same h.0 in
    let k = outcome-ok s (step sig others also q) (subst (λ (o : Outcome). IsAlphaEqualOutcome o (step sig others also q)) h.1 goes) in
    let later = derives-alike sig named others (done ++ s ∷ []) (also ++ k.0 ∷ []) rules lines ss n (sequents-append done also (s ∷ []) (k.0 ∷ []) d (k.2, k.3, tt)) l.1 h.2 in
    (k.0 ∷ later.0, (sound, k.1, later.1), (k.2, k.3, later.2))
derives-alike sig named others done also [] (q ∷ lines) ss n d l h = absurd l
derives-alike sig named others done also (r ∷ rules) [] ss n d l h = absurd l
derives-alike sig named others done also [] [] (s ∷ ss) n d l h = absurd h
derives-alike sig named others done also (r ∷ rules) (q ∷ lines) [] n d l h = absurd h

last-alike : (before : List Sequent) (s : Sequent) (us : List Sequent)
    → AreAlphaEqualSequents (before ++ s ∷ []) us
    → (first : List Sequent) × (u : Sequent) × (us ≡ first ++ u ∷ []) × AreAlphaEqual s.hyps u.hyps × IsAlphaEqual s.concl u.concl
last-alike [] s [] h = absurd h
last-alike [] s (u ∷ []) h = ([], u, refl, h.0, h.1)
last-alike [] s (u ∷ v ∷ us) h = absurd h.2
last-alike (b ∷ before) s [] h = absurd h
last-alike (b ∷ before) s (u ∷ us) h = let k = last-alike before s us h.2 in (u ∷ k.0, k.1, ap (λ (z : List Sequent). u ∷ z) k.2, k.3, k.4)

none-hyps : (hs ks : List TermTree) → AreAlphaEqual hs ks → hs ≡ [] → ks ≡ []
none-hyps [] [] h e = refl
none-hyps [] (k ∷ ks) h e = absurd h
none-hyps (x ∷ hs) ks h e = absurd (cc e)

proves-alike : (ctx : Context) (qs : List (Chars × TermTree)) (t u : TermTree)
    (lines rules : List (Rule TermTree)) → IsAlphaEqual t u → AreAlikeLines lines rules
    → AreAlphaEqualStatements ctx.statements qs → Proves ctx rules u
    → Proves (record ctx { statements = qs }) lines t
proves-alike ctx qs t u lines rules a l s h =
    let k = derives-alike ctx.signature ctx.statements qs [] [] rules lines (h.0 ++ h.1 ∷ []) s tt l h.2 in
    let last = last-alike h.0 h.1 k.0 k.2 in
    let stated : IsAlphaEqual last.1.concl t =
    alpha_is_transitive last.1.concl (h.1).concl t (alpha_is_symmetric (h.1).concl last.1.concl last.4) (alpha_is_transitive (h.1).concl u t h.4 (alpha_is_symmetric t u a)) in
    (last.0, last.1, subst (Derives ctx.signature qs [] lines) last.2 k.1, none-hyps (h.1).hyps last.1.hyps last.3 h.3, stated)

-- ---- items

abbrev over : Context → List (Chars × TermTree) → Context
over ctx qs = record ctx { statements = qs }

-- the other item is valid too, and what it adds differs in binder names alone
abbrev Follows : Context → List (Chars × TermTree) → Item → Item → Type 0
Follows ctx qs j i = IsExtension (over ctx qs) i × ((later : List (Chars × TermTree)) × (with_item (over ctx qs) i ≡ over (with_item ctx j) later)
    × AreAlphaEqualStatements (with_item ctx j).statements later)

stated-alike : (ctx : Context) (qs : List (Chars × TermTree)) (t u : TermTree) → IsAlphaEqual t u
    → IsStatement ctx u → IsStatement (over ctx qs) t
stated-alike ctx qs t u a h = (has-alike ctx.signature t u bool a h.0, closed-alike [] t u a ∙ h.1)

one-more : (ps qs : List (Chars × TermTree)) (l : Chars) (t u : TermTree) → IsAlphaEqual t u
    → AreAlphaEqualStatements ps qs
    → AreAlphaEqualStatements (ps ++ (l, u) ∷ []) (qs ++ (l, t) ∷ [])
one-more ps qs l t u a s = statements-append ps qs ((l, u) ∷ []) ((l, t) ∷ []) s (refl, alpha_is_symmetric t u a, tt)

axiom-follows : (ctx : Context) (qs : List (Chars × TermTree)) (l : Chars) (t u : TermTree)
    → IsAlphaEqual t u → AreAlphaEqualStatements ctx.statements qs
    → IsExtension ctx (axiom_item l u)
    → Follows ctx qs (axiom_item l u) (axiom_item l t)
axiom-follows ctx qs l t u a s e =
    ((stated-alike ctx qs t u a e.0, new-alike l ctx.statements qs s e.1), (qs ++ (l, t) ∷ [], refl, one-more ctx.statements qs l t u a s))

definition-alike : (n : Chars) (ty : TypeTree) (t u : TermTree) → IsAlphaEqual t u
    → IsAlphaEqual (definition_statement n ty t) (definition_statement n ty u)
definition-alike n ty t u a = (((refl, refl), (refl, refl)), a)

def-follows : (ctx : Context) (qs : List (Chars × TermTree)) (n : Chars) (ty : TypeTree)
    (t u : TermTree) → IsAlphaEqual t u → AreAlphaEqualStatements ctx.statements qs
    → IsExtension ctx (def_item n ty u) → Follows ctx qs (def_item n ty u) (def_item n ty t)
def-follows ctx qs n ty t u a s e = (
  record {
    new_const = e.new_const;
    new_label = new-alike (definition_label n) ctx.statements qs s e.new_label;
    sound = e.sound;
    typed = has-alike ctx.signature t u ty a e.typed;
    closed = closed-alike [] t u a ∙ e.closed;
    variables = subst (λ (z : List Chars). AreNamesAmong z (type_variables ty)) (sym (variables-alike t u a)) e.variables;
  },
  (
    qs ++ (definition_label n, definition_statement n ty t) ∷ [],
    refl,
    one-more ctx.statements qs (definition_label n) (definition_statement n ty t) (definition_statement n ty u) (definition-alike n ty t u a) s,
  ),
)

rep-alike : (new raw : TypeTree) (t u : TermTree) (b : Chars)
    → AreAlpha ((codes "a", codes "a") ∷ []) t u
    → IsAlphaEqual (rep_statement new raw t b) (rep_statement new raw u b)
rep-alike new raw t u b a = ((refl, refl), (refl, (a, ((refl, refl), inl (refl, refl)))))

abs-alike : (new raw : TypeTree) (t u : TermTree) (c b : Chars)
    → AreAlpha ((codes "r", codes "r") ∷ []) t u
    → IsAlphaEqual (abs_inverse_statement new raw t c b) (abs_inverse_statement new raw u c b)
abs-alike new raw t u c b a =
    ((refl, refl), (refl, (((refl, refl), (a, inl (refl, refl))), (((refl, refl), ((refl, refl), ((refl, refl), inl (refl, refl)))), inl (refl, refl)))))

typedef-later : (ctx : Context) (qs : List (Chars × TermTree)) (n : Chars) (params : List Chars)
    (t u : TermTree) (a b : Chars) (o : Option TypeTree) → IsScoped t → IsScoped u
    → IsAlphaEqual t u
    → AreAlphaEqualStatements ctx.statements qs
    → (later : List (Chars × TermTree)) × (with_typedef n params t a b o (over ctx qs) ≡ over (with_typedef n params u a b o ctx) later)
    × AreAlphaEqualStatements (with_typedef n params u a b o ctx).statements later
typedef-later ctx qs n params t u a b None st su e s = (qs, refl, s)
typedef-later ctx qs n params t u a b (Some raw) st su e s =
    let new : TypeTree = new_type n params in
    let back : IsAlphaEqual u t = alpha_is_symmetric t u e in (
      qs ++ typedef_statements n new raw t a b,
      refl,
      statements-append ctx.statements qs (typedef_statements n new raw u a b) (typedef_statements n new raw t a b) s (
        refl,
        rep-alike new raw u t b (under-binder (codes "a") u t su st back),
        (
          refl,
          alpha_is_reflexive (rep_inverse_statement new raw a b),
          (refl, abs-alike new raw u t a b (under-binder (codes "r") u t su st back), tt),
        ),
      ),
    )

typedef-follows : (ctx : Context) (qs : List (Chars × TermTree)) (n : Chars)
    (params : List Chars) (t u : TermTree) (l a b : Chars) → IsAlphaEqual t u
    → AreAlphaEqualStatements ctx.statements qs → IsExtension ctx (typedef_item n params u l a b)
    → Follows ctx qs (typedef_item n params u l a b) (typedef_item n params t l a b)
typedef-follows ctx qs n params t u l a b e s h =
    let mine : HasType ctx.signature [] t (fun h.raw bool) = has-alike ctx.signature t u (fun h.raw bool) e h.predicate in (
      record {
        raw = h.raw;
        predicate = mine;
        closed = closed-alike [] t u e ∙ h.closed;
        variables = subst (λ (z : List Chars). AreNamesAmong z params) (sym (variables-alike t u e)) h.variables;
        distinct = h.distinct;
        inhabited = inhabited-alike ctx qs t u l e s h.inhabited;
        new_type = h.new_type;
        new_rep = h.new_rep;
        new_abs = h.new_abs;
        two = h.two;
        rep = new-alike (rep_label n) ctx.statements qs s h.rep;
        rep_inverse = new-alike (rep_inverse_label n) ctx.statements qs s h.rep_inverse;
        abs_inverse = new-alike (abs_inverse_label n) ctx.statements qs s h.abs_inverse;
      },
      subst
          (λ (r : Result TypeTree Fault). (later : List (Chars × TermTree)) × (with_typedef n params t a b (raw_type r) (over ctx qs) ≡ over (with_item ctx (typedef_item n params u l a b)) later)
          × AreAlphaEqualStatements (with_item ctx (typedef_item n params u l a b)).statements later)
          (sym (type-alike ctx.signature t u e))
          (typedef-later ctx qs n params t u a b (raw_type (typed ctx.signature [] u)) (typed-scoped ctx.signature t (fun h.raw bool) mine) (typed-scoped ctx.signature u (fun h.raw bool) h.predicate) e s),
    )

lemma-follows : (ctx : Context) (qs : List (Chars × TermTree)) (l : Chars) (t u : TermTree)
    (lines rules : List (Rule TermTree)) → IsAlphaEqual t u → AreAlikeLines lines rules
    → AreAlphaEqualStatements ctx.statements qs → IsExtension ctx (lemma_item l u rules)
    → Follows ctx qs (lemma_item l u rules) (lemma_item l t lines)
lemma-follows ctx qs l t u lines rules a k s e =
    ((stated-alike ctx qs t u a e.0, new-alike l ctx.statements qs s e.1, proves-alike ctx qs t u lines rules a k s e.2), (qs ++ (l, t) ∷ [], refl, one-more ctx.statements qs l t u a s))

follows : (ctx : Context) (qs : List (Chars × TermTree)) (i j : Item) → IsAlikeItem i j
    → AreAlphaEqualStatements ctx.statements qs → IsExtension ctx j → Follows ctx qs j i
follows ctx qs (type_item n k) (type_item m j) h s e =
    subst (Follows ctx qs (type_item m j)) (λ z. type_item (sym h.0 z) (sym h.1 z)) (e, (qs, refl, s))
follows ctx qs (const_item n ty) (const_item m u) h s e =
    subst (Follows ctx qs (const_item m u)) (λ z. const_item (sym h.0 z) (sym h.1 z)) (e, (qs, refl, s))
follows ctx qs (axiom_item l t) (axiom_item m u) h s e =
    subst (Follows ctx qs (axiom_item m u)) (λ z. axiom_item (sym h.0 z) t) (axiom-follows ctx qs m t u h.1 s e)
follows ctx qs (def_item n ty t) (def_item m u v) h s e =
    subst (Follows ctx qs (def_item m u v)) (λ z. def_item (sym h.0 z) (sym h.1 z) t) (def-follows ctx qs m u t v h.2 s e)
follows ctx qs (typedef_item n ns p l a b) (typedef_item m ms q k c d) h s e =
    subst (Follows ctx qs (typedef_item m ms q k c d)) (λ z. typedef_item (sym h.0 z) (sym h.1 z) p (sym h.3 z) (sym h.4 z) (sym h.5 z)) (typedef-follows ctx qs m ms p q k c d h.2 s e)
follows ctx qs (lemma_item l t lines) (lemma_item m u rules) h s e =
    subst (Follows ctx qs (lemma_item m u rules)) (λ z. lemma_item (sym h.0 z) t lines) (lemma-follows ctx qs m t u lines rules h.1 h.2 s e)
follows ctx qs i j h s e = absurd h

extensions-alike : (ctx : Context) (qs : List (Chars × TermTree)) (others items : List Item)
    → AreAlikeItems others items → AreAlphaEqualStatements ctx.statements qs
    → AreExtensions ctx items
    → AreExtensions (over ctx qs) others
extensions-alike ctx qs [] [] h s e = tt
extensions-alike ctx qs (i ∷ others) (j ∷ items) h s e =
    let k = follows ctx qs i j (item_alike i j h.0) s e.0 in
    let more = k.1 in
    (k.0, subst (λ (c : Context). AreExtensions c others) (sym more.1) (extensions-alike (with_item ctx j) more.0 others items h.1 more.2 e.1))
extensions-alike ctx qs others items h s e = absurd h

pub alike_valid : (others items : List Item) → AreAlikeItems others items → IsPlainTheory items
    → IsPlainTheory others
alike_valid others items h v = (valid_is_extending empty others).1 (extensions-alike empty [] others items h tt ((valid_is_extending empty items).0 v))
