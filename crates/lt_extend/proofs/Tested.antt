-- Tests of items, and whether a last line proves a statement.
use Rattle.std.proofs.Common.{◌≡◌, ◌↔◌, ℕ, zero, suc, List, [], ◌∷◌, length, map, Bool, true, false, ◌&&◌, IsTrue, not, Option, Some, None, option_map, Result, Ok, Err, refl, sym, ◌∙◌, ap, arith}
use Rattle.std.proofs.lemmas.List.{length-map}
use Rattle.std.proofs.lemmas.Option.{slice_get-map}
use Rattle.lt_definitions.specs.Types.{TypeTree}
use Rattle.lt_definitions.specs.Terms.{TermTree}
use Rattle.lt_definitions.specs.Typing.{Signature, Fault, typed}
use Rattle.lt_definitions.specs.Alpha.{is_alpha}
use Rattle.lt_definitions.specs.Rules.{Sequent, line_at}
use Rattle.std.specs.Result.{result_err}
use Rattle.lt_definitions.specs.Theory.{boolean_test, refused_where, not_proved, last_of, has_none, is_proved}
use Rattle.lt_nameless.specs.Nameless.{nameless, NamelessSequent, nameless_sequent, IsWhole}
use Rattle.lt_nameless.proofs.Alphas.{alpha_is_nameless, alpha_is_tested}
use Rattle.lt_store.specs.declared.node.Node.{Node}
use Rattle.lt_store.specs.Trees.{tree_at}
use Rattle.lt_kernel.specs.declared.sequent.Sequent.{Sequent as Stored}
use Rattle.lt_kernel.specs.declared.sequent.Step.{Step}
use Rattle.lt_kernel.specs.Sequents.{sequent_at, sequents_at}
use Rattle.lt_extend.specs.Proving.{unproved}
use Rattle.lt_extend.proofs.StoredLines.{whole-term}

-- ---- the last line

pub last-at : {A : Type 0} (xs : List A) → last_of xs ≡ line_at xs (length xs)
last-at [] = refl
last-at (x ∷ []) = refl
last-at (x ∷ y ∷ ys) = last-at (y ∷ ys)

pub line-map : {A B : Type 0} (f : A → B) (xs : List A) (n : ℕ) → line_at (map f xs) n ≡ option_map f (line_at xs n)
line-map f xs zero = refl
line-map f xs (suc k) = slice_get-map f xs k

twice : {A B C : Type 0} (f : A → B) (g : B → C) (o : Option A) → option_map (λ x. g (f x)) o ≡ option_map g (option_map f o)
twice f g None = refl
twice f g (Some x) = refl

-- the sequent of a line, by ids
pub line-sequent : (nodes : List Node) (steps : List Step) (done : List Sequent) (n : ℕ) → sequents_at nodes steps ≡ map nameless_sequent done
    → option_map nameless_sequent (line_at done n) ≡ option_map (sequent_at nodes) (option_map (λ s. s.sequent) (line_at steps n))
line-sequent nodes steps done n h =
    sym (line-map nameless_sequent done n) ∙ ap (λ ss. line_at ss n) (sym h)
    ∙ line-map (λ s. sequent_at nodes s.sequent) steps n ∙ twice (λ s. s.sequent) (sequent_at nodes) (line_at steps n)

pub line-stored : (nodes : List Node) (steps : List Step) (n : ℕ) → line_at (sequents_at nodes steps) n ≡ option_map (sequent_at nodes) (option_map (λ s. s.sequent) (line_at steps n))
line-stored nodes steps n = line-map (λ s. sequent_at nodes s.sequent) steps n ∙ twice (λ s. s.sequent) (sequent_at nodes) (line_at steps n)

-- a sequent and one of ids are one
same-sequent : (s : Sequent) (q : Option Stored) (r : Stored) (nodes : List Node) → Some (nameless_sequent s) ≡ option_map (sequent_at nodes) q → q ≡ Some r → nameless_sequent s ≡ sequent_at nodes r
same-sequent s q r nodes h e = let both : Some (nameless_sequent s) ≡ Some (sequent_at nodes r) = h ∙ ap (option_map (sequent_at nodes)) e in cc both

pub none-proved : (t : TermTree) (o : Option Sequent) (q : Option Stored) (nodes : List Node) → option_map nameless_sequent o ≡ option_map (sequent_at nodes) q → q ≡ None → false ≡ is_proved t o
none-proved t None q nodes h e = refl
none-proved t (Some s) q nodes h e = let both : Some (nameless_sequent s) ≡ None = h ∙ ap (option_map (sequent_at nodes)) e in absurd (cc both)

hyps-count : (s : Sequent) (r : Stored) (nodes : List Node) → nameless_sequent s ≡ sequent_at nodes r → length s.hyps ≡ length r.hyps
hyps-count s r nodes e = sym (length-map s.hyps (nameless [])) ∙ ap (λ (q : NamelessSequent). length q.hyps) e ∙ length-map r.hyps (tree_at nodes)

some-hyps : (hs : List TermTree) (b : Bool) → (length hs ≡ 0 → ⊥) → false ≡ (has_none hs && b)
some-hyps [] b n = absurd (n refl)
some-hyps (k ∷ ks) b n = refl

no-hyps : (hs : List TermTree) (b : Bool) → length hs ≡ 0 → (has_none hs && b) ≡ b
no-hyps [] b n = refl
no-hyps (k ∷ ks) b n = absurd (omega (arith, n))

pub with-hypotheses : (t : TermTree) (o : Option Sequent) (q : Option Stored) (r : Stored) (nodes : List Node) → option_map nameless_sequent o ≡ option_map (sequent_at nodes) q → q ≡ Some r
    → (length r.hyps ≡ 0 → ⊥) → false ≡ is_proved t o
with-hypotheses t None q r nodes h e n = let both : None ≡ Some (sequent_at nodes r) = h ∙ ap (option_map (sequent_at nodes)) e in absurd (cc both)
with-hypotheses t (Some s) q r nodes h e n =
    some-hyps s.hyps (is_alpha s.concl t) (λ z. n (sym (hyps-count s r nodes (same-sequent s q r nodes h e)) ∙ z))

one-truth : (a b : Bool) → (a ≡ true → b ≡ true) → (b ≡ true → a ≡ true) → a ≡ b
one-truth true b f g = sym (f refl)
one-truth false true f g = g refl
one-truth false false f g = refl

pub by-conclusion : (t : TermTree) (o : Option Sequent) (q : Option Stored) (r : Stored) (nodes : List Node) (id : ℕ) (same : Bool)
    → option_map nameless_sequent o ≡ option_map (sequent_at nodes) q → q ≡ Some r → length r.hyps ≡ 0 → tree_at nodes id ≡ nameless [] t
    → IsTrue same ↔ (tree_at nodes r.concl ≡ tree_at nodes id) → same ≡ is_proved t o
by-conclusion t None q r nodes id same h e n i k = let both : None ≡ Some (sequent_at nodes r) = h ∙ ap (option_map (sequent_at nodes)) e in absurd (cc both)
by-conclusion t (Some s) q r nodes id same h e n i k =
    let one = same-sequent s q r nodes h e in
    let concl : nameless [] s.concl ≡ tree_at nodes r.concl = ap (λ (q : NamelessSequent). q.concl) one in
    one-truth same (is_alpha s.concl t)
    (λ yes. (alpha_is_tested s.concl t).1 ((alpha_is_nameless s.concl t).1 (concl ∙ k.0 yes ∙ i)))
    (λ yes. k.1 (sym concl ∙ (alpha_is_nameless s.concl t).0 ((alpha_is_tested s.concl t).0 yes) ∙ sym i))
    ∙ sym (no-hyps s.hyps (is_alpha s.concl t) (hyps-count s r nodes one ∙ n))

-- ---- statements

boolean-typed : (r : Result TypeTree Fault) → boolean_test r ≡ None → result_err r ≡ None
boolean-typed (Ok ty) h = refl
boolean-typed (Err f) h = absurd (cc h)

-- a tested statement has its binders
pub whole-statement : (sig : Signature) (t : TermTree) → boolean_test (typed sig [] t) ≡ None → IsWhole 0 (nameless [] t)
whole-statement sig t h = whole-term sig t (boolean-typed (typed sig [] t) h)

-- what is told of a line
pub proved-none : (t : TermTree) (o : Option Sequent) (found : Bool) → found ≡ is_proved t o → found ≡ true → unproved t o ≡ None
proved-none t o found h e = ap (λ (b : Bool). refused_where (not b) (not_proved o)) (sym h ∙ e)

pub proved-some : (t : TermTree) (o : Option Sequent) (found : Bool) → found ≡ is_proved t o → found ≡ false → unproved t o ≡ Some (not_proved o)
proved-some t o found h e = ap (λ (b : Bool). refused_where (not b) (not_proved o)) (sym h ∙ e)
