-- The tests of a typedef, group by group.
use Rattle.std.proofs.Common.{◌≡◌, ℕ, nat_eq, length, List, [], ◌∷◌, ◌++◌, Bool, true, false, ◌&&◌, not, is_some, is_none, Option, Some, None, Result, Ok, Err, refl, sym, ◌∙◌, ap, subst}
use Rattle.lt_definitions.specs.Types.{Chars, same_name, are_distinct, names_joined, found, TypeTree, bool, fun}
use Rattle.lt_definitions.specs.Terms.{TermTree}
use Rattle.lt_definitions.specs.Typing.{Fault, typed}
use Rattle.lt_definitions.specs.Rules.{predicate_over}
use Rattle.lt_definitions.specs.Items.{Context, typedef_item, raw_type, rep_label, rep_inverse_label, abs_inverse_label}
use Rattle.lt_definitions.specs.Theory.{Refusal, refusal, first_of, refused_where, unknown_statement, duplicate, typedef_shape, term_test, label_test, new_name, closed_test, variables_test, shape_test, is_applied}
use Rattle.lt_conditions.specs.declared.item_fault.ItemFault.{ItemFault}
use Rattle.lt_conditions.specs.Refusing.{Refuses}
use Rattle.lt_conditions.specs.ItemTests.{is_shape, predicate_tests, HasShape, IsPredicate, IsRawType}
use Rattle.lt_conditions.proofs.NameSets.{allowed-set, distinct-set}
use Rattle.lt_conditions.proofs.Refusals.{refuses-next, refuses-first, refuses-front, refuses-back, refuses-same, none-next, first-behind, term-fine}

-- the names, the labels, and the tests of the predicate
abbrev pub name_tests : Context → Chars → Chars → Chars → List (Option Refusal)
name_tests ctx n a b = new_name ctx.signature.types n ∷ new_name ctx.signature.consts b ∷ new_name ctx.signature.consts a ∷ refused_where (same_name a b) (duplicate a) ∷ []

abbrev pub label_tests : Context → Chars → List (Option Refusal)
label_tests ctx n = new_name ctx.statements (rep_label n) ∷ new_name ctx.statements (rep_inverse_label n) ∷ new_name ctx.statements (abs_inverse_label n) ∷ []

abbrev own_tests : Context → List Chars → TermTree → Chars → List (Option Refusal)
own_tests ctx params p l = closed_test p ∷ variables_test params p ∷ shape_test ctx params p l ∷ []

shape-is : (ctx : Context) (params : List Chars) (p : TermTree) (l : Chars) (ty : TypeTree) (t : TermTree) → typed ctx.signature [] p ≡ Ok ty → found l ctx.statements ≡ Some t
    → refused_where (not (is_shape (are_distinct params) p ty t)) typedef_shape ≡ shape_test ctx params p l
shape-is ctx params p l ty t h k =
    sym (λ i. refused_where (not (are_distinct params && is_some (raw_type (h i)) && is_applied p (k i))) typedef_shape)

own-is : (ctx : Context) (params : List Chars) (p : TermTree) (l : Chars) (ty : TypeTree) (t : TermTree) → typed ctx.signature [] p ≡ Ok ty → found l ctx.statements ≡ Some t
    → predicate_tests params p ty t ≡ first_of (own_tests ctx params p l)
own-is ctx params p l ty t h k = ap (λ (o : Option Refusal). first_of (closed_test p ∷ variables_test params p ∷ o ∷ [])) (shape-is ctx params p l ty t h k)

named-fine : (ctx : Context) (l : Chars) (t : TermTree) → found l ctx.statements ≡ Some t → label_test ctx l ≡ None
named-fine ctx l t k = ap (λ (o : Option TermTree). refused_where (is_none o) (unknown_statement l)) k

pub typedef-untyped : (ctx : Context) (n : Chars) (params : List Chars) (p : TermTree) (l a b : Chars) (e : ItemFault) → Refuses (term_test ctx p) e → Refuses (refusal ctx (typedef_item n params p l a b)) e
typedef-untyped ctx n params p l a b e r = refuses-first (term_test ctx p) (label_test ctx l ∷ (name_tests ctx n a b ++ (label_tests ctx n ++ own_tests ctx params p l))) e r

pub typedef-unnamed : (ctx : Context) (n : Chars) (params : List Chars) (p : TermTree) (l a b : Chars) (ty : TypeTree) (e : ItemFault) → typed ctx.signature [] p ≡ Ok ty
    → Refuses (label_test ctx l) e → Refuses (refusal ctx (typedef_item n params p l a b)) e
typedef-unnamed ctx n params p l a b ty e h r =
    refuses-next (term_test ctx p) (label_test ctx l ∷ (name_tests ctx n a b ++ (label_tests ctx n ++ own_tests ctx params p l))) e (term-fine ctx.signature p ty h)
    (refuses-first (label_test ctx l) (name_tests ctx n a b ++ (label_tests ctx n ++ own_tests ctx params p l)) e r)

behind : (ctx : Context) (n : Chars) (params : List Chars) (p : TermTree) (l a b : Chars) (ty : TypeTree) (t : TermTree) (e : ItemFault) → typed ctx.signature [] p ≡ Ok ty → found l ctx.statements ≡ Some t
    → Refuses (first_of (name_tests ctx n a b ++ (label_tests ctx n ++ own_tests ctx params p l))) e → Refuses (refusal ctx (typedef_item n params p l a b)) e
behind ctx n params p l a b ty t e h k r =
    refuses-next (term_test ctx p) (label_test ctx l ∷ (name_tests ctx n a b ++ (label_tests ctx n ++ own_tests ctx params p l))) e (term-fine ctx.signature p ty h)
    (refuses-next (label_test ctx l) (name_tests ctx n a b ++ (label_tests ctx n ++ own_tests ctx params p l)) e (named-fine ctx l t k) r)

pub typedef-names : (ctx : Context) (n : Chars) (params : List Chars) (p : TermTree) (l a b : Chars) (ty : TypeTree) (t : TermTree) (e : ItemFault) → typed ctx.signature [] p ≡ Ok ty → found l ctx.statements ≡ Some t
    → Refuses (first_of (name_tests ctx n a b)) e → Refuses (refusal ctx (typedef_item n params p l a b)) e
typedef-names ctx n params p l a b ty t e h k r = behind ctx n params p l a b ty t e h k (refuses-front (name_tests ctx n a b) (label_tests ctx n ++ own_tests ctx params p l) e r)

pub typedef-labels : (ctx : Context) (n : Chars) (params : List Chars) (p : TermTree) (l a b : Chars) (ty : TypeTree) (t : TermTree) (e : ItemFault) → typed ctx.signature [] p ≡ Ok ty → found l ctx.statements ≡ Some t
    → first_of (name_tests ctx n a b) ≡ None → Refuses (first_of (label_tests ctx n)) e → Refuses (refusal ctx (typedef_item n params p l a b)) e
typedef-labels ctx n params p l a b ty t e h k m r =
    behind ctx n params p l a b ty t e h k
    (refuses-back (name_tests ctx n a b) (label_tests ctx n ++ own_tests ctx params p l) e m (refuses-front (label_tests ctx n) (own_tests ctx params p l) e r))

-- the tests that are left are those of the predicate
typedef-left : (ctx : Context) (n : Chars) (params : List Chars) (p : TermTree) (l a b : Chars) (ty : TypeTree) (t : TermTree) → typed ctx.signature [] p ≡ Ok ty → found l ctx.statements ≡ Some t
    → first_of (name_tests ctx n a b) ≡ None → first_of (label_tests ctx n) ≡ None → refusal ctx (typedef_item n params p l a b) ≡ predicate_tests params p ty t
typedef-left ctx n params p l a b ty t h k m o =
    ap (λ (q : Option Refusal). first_of (q ∷ label_test ctx l ∷ (name_tests ctx n a b ++ (label_tests ctx n ++ own_tests ctx params p l)))) (term-fine ctx.signature p ty h)
    ∙ ap (λ (q : Option Refusal). first_of (q ∷ (name_tests ctx n a b ++ (label_tests ctx n ++ own_tests ctx params p l)))) (named-fine ctx l t k)
    ∙ first-behind (name_tests ctx n a b) (label_tests ctx n ++ own_tests ctx params p l) m
    ∙ first-behind (label_tests ctx n) (own_tests ctx params p l) o
    ∙ sym (own-is ctx params p l ty t h k)

pub typedef-tested : (ctx : Context) (n : Chars) (params : List Chars) (p : TermTree) (l a b : Chars) (ty : TypeTree) (t : TermTree) (r : Result TypeTree ItemFault) → typed ctx.signature [] p ≡ Ok ty
    → found l ctx.statements ≡ Some t → first_of (name_tests ctx n a b) ≡ None → first_of (label_tests ctx n) ≡ None → IsPredicate params p ty t r → IsRawType ctx n params p l a b r
typedef-tested ctx n params p l a b ty t (Ok raw) h k m o (q, is) = (typedef-left ctx n params p l a b ty t h k m o ∙ q, h ∙ ap Ok is)
typedef-tested ctx n params p l a b ty t (Err e) h k m o q = refuses-same (predicate_tests params p ty t) (refusal ctx (typedef_item n params p l a b)) e (sym (typedef-left ctx n params p l a b ty t h k m o)) q

-- ---- the tests of the predicate

pub predicate-open : (params : List Chars) (p : TermTree) (ty : TypeTree) (t : TermTree) (e : ItemFault) → Refuses (closed_test p) e → Refuses (predicate_tests params p ty t) e
predicate-open params p ty t e r =
    refuses-first (closed_test p) (variables_test params p ∷ refused_where (not (is_shape (are_distinct params) p ty t)) typedef_shape ∷ []) e r

pub predicate-loose : (params keys : List Chars) (p : TermTree) (ty : TypeTree) (t : TermTree) (e : ItemFault) → keys ≡ names_joined [] params → closed_test p ≡ None
    → Refuses (variables_test keys p) e → Refuses (predicate_tests params p ty t) e
predicate-loose params keys p ty t e k c r =
    refuses-next (closed_test p) (variables_test params p ∷ refused_where (not (is_shape (are_distinct params) p ty t)) typedef_shape ∷ []) e c
    (refuses-first (variables_test params p) (refused_where (not (is_shape (are_distinct params) p ty t)) typedef_shape ∷ []) e
    (refuses-same (variables_test keys p) (variables_test params p) e (ap (λ (ns : List Chars). variables_test ns p) k ∙ allowed-set params p) r))

distinct-is : (params keys : List Chars) (m n : ℕ) (b : Bool) → keys ≡ names_joined [] params → m ≡ length keys → n ≡ length params → b ≡ nat_eq m n → b ≡ are_distinct params
distinct-is params keys m n b k e f h = h ∙ (λ i. nat_eq ((e ∙ ap length k) i) (f i)) ∙ distinct-set params

pub predicate-shaped : (params keys : List Chars) (p : TermTree) (ty : TypeTree) (t : TermTree) (b : Bool) (m n : ℕ) (r : Result TypeTree ItemFault) → keys ≡ names_joined [] params → m ≡ length keys
    → n ≡ length params → b ≡ nat_eq m n → closed_test p ≡ None → variables_test keys p ≡ None → HasShape b p ty t r → IsPredicate params p ty t r
predicate-shaped params keys p ty t b m n (Ok raw) k e f h c v s =
    let d : b ≡ are_distinct params = distinct-is params keys m n b k e f h in
    let vars : variables_test params p ≡ None = sym (ap (λ (ns : List Chars). variables_test ns p) k ∙ allowed-set params p) ∙ v in (
      none-next (closed_test p) (variables_test params p ∷ refused_where (not (is_shape (are_distinct params) p ty t)) typedef_shape ∷ []) c
          (none-next (variables_test params p) (refused_where (not (is_shape (are_distinct params) p ty t)) typedef_shape ∷ []) vars
          (none-next (refused_where (not (is_shape (are_distinct params) p ty t)) typedef_shape) []
          (ap (λ (x : Bool). refused_where (not x) typedef_shape) (ap (λ (x : Bool). is_shape x p ty t) (sym d) ∙ s.0)) refl)),
      s.1,
    )
predicate-shaped params keys p ty t b m n (Err x) k e f h c v s =
    let d : b ≡ are_distinct params = distinct-is params keys m n b k e f h in
    let vars : variables_test params p ≡ None = sym (ap (λ (ns : List Chars). variables_test ns p) k ∙ allowed-set params p) ∙ v in
    refuses-next (closed_test p) (variables_test params p ∷ refused_where (not (is_shape (are_distinct params) p ty t)) typedef_shape ∷ []) x c
    (refuses-next (variables_test params p) (refused_where (not (is_shape (are_distinct params) p ty t)) typedef_shape ∷ []) x vars
    (refuses-first (refused_where (not (is_shape (are_distinct params) p ty t)) typedef_shape) [] x
    (refuses-same (refused_where (not (is_shape b p ty t)) typedef_shape) (refused_where (not (is_shape (are_distinct params) p ty t)) typedef_shape) x
    (ap (λ (y : Bool). refused_where (not (is_shape y p ty t)) typedef_shape) d) s)))
