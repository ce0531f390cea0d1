-- What is known behind what was declared and stated of an item.
use Rattle.std.proofs.Common.{◌≡◌, ℕ, List, [], ◌∷◌, ◌++◌, length, false, None, Result, Ok, Err, OnOk, OnErr, sym, ◌∙◌, ap, subst, append_assoc}
use Rattle.lt_definitions.specs.Types.{Chars, same_name, TypeTree, found, bool, fun}
use Rattle.lt_definitions.specs.Terms.{TermTree}
use Rattle.lt_definitions.specs.Typing.{Signature, type_fault, typed}
use Rattle.lt_definitions.specs.Items.{Context, with_types, with_consts, with_statements, with_item, def_item, typedef_item, definition_label, definition_statement, new_type, typedef_statements}
use Rattle.lt_nameless.specs.Nameless.{nameless}
use Rattle.lt_types.specs.declared.memory.Memory.{Memory}
use Rattle.lt_hol.specs.Faults.{with_type, with_const}
use Rattle.lt_store.specs.Trees.{tree_at}
use Rattle.lt_kernel.specs.State.{State, statements, Keeps}
use Rattle.lt_extend.specs.Standing.{StandsAs, GoesOn, IsBehind}
use Rattle.lt_extend.specs.Entering.{with_rep, with_new_type, IsNewType, IsNewStatement}
use Rattle.lt_extend.proofs.Accepted.{found-more, typedef-adds}
use Rattle.lt_extend.proofs.Behind.{behind-same, behind-on, behind-named, behind-type, behind-const, goes-on}
use Rattle.lt_extend.proofs.Stands.{stands-still, stands-more, stands-const, statements-on}

-- What it is to name a term that is in the store.
pub record IsStoredUnder (mid new : State) (entries later : List (Chars × TermTree)) (l : Chars) (t : TermTree) (id : ℕ) (r : Result (Unit {0}) Memory) : Type 0 where
  pub ok : OnOk r (new ≡ record mid { named = mid.named ++ (l, id) ∷ [] })
  pub kept : OnOk r (later ≡ entries ++ (l, t) ∷ [])
  pub err : OnErr r (new ≡ mid)
  pub front : GoesOn entries later

pub stored-behind : (old mid new : State) (kept kept1 : List (Chars × TermTree)) (l : Chars) (t : TermTree) (id : ℕ) (r : Result (Unit {0}) Memory) → IsBehind old mid
    → IsStoredUnder mid new kept kept1 l t id r → IsBehind old new
stored-behind old mid new kept kept1 l t id (Ok _) b s = behind-on old mid new b (behind-named mid new l id s.ok)
stored-behind old mid new kept kept1 l t id (Err e) b s = behind-on old mid new b (behind-same mid new s.err)

pub stored-signature : (old mid new : State) (kept kept1 : List (Chars × TermTree)) (l : Chars) (t : TermTree) (id : ℕ) (r : Result (Unit {0}) Memory) → mid.signature ≡ old.signature
    → IsStoredUnder mid new kept kept1 l t id r → new.signature ≡ old.signature
stored-signature old mid new kept kept1 l t id (Ok _) e s = ap (λ (q : State). q.signature) s.ok ∙ e
stored-signature old mid new kept kept1 l t id (Err x) e s = ap (λ (q : State). q.signature) s.err ∙ e

pub stored-named : (old mid new : State) (kept kept1 : List (Chars × TermTree)) (l : Chars) (t : TermTree) (id : ℕ) (r : Result (Unit {0}) Memory) → mid.named ≡ old.named
    → IsStoredUnder mid new kept kept1 l t id r → OnOk r ((n : ℕ) × (new.named ≡ old.named ++ (l, n) ∷ []))
stored-named old mid new kept kept1 l t id (Ok _) e s = (id, ap (λ (q : State). q.named) s.ok ∙ ap (λ (ns : List (Chars × ℕ)). ns ++ (l, id) ∷ []) e)
stored-named old mid new kept kept1 l t id (Err x) e s = tt

pub stored-stands : (old mid new : State) (kept kept1 : List (Chars × TermTree)) (l : Chars) (t : TermTree) (id : ℕ) (r : Result (Unit {0}) Memory) → Keeps old mid → tree_at mid.nodes id ≡ nameless [] t
    → IsStoredUnder mid new kept kept1 l t id r → OnOk r ((ctx : Context) → StandsAs ctx old kept → StandsAs (with_statements ((l, t) ∷ []) ctx) new kept1)
stored-stands old mid new kept kept1 l t id (Ok _) k is s = λ ctx h. record {
  stands = stands-more ctx mid new l id t (stands-still ctx old mid h.stands k.stays) is s.ok;
  statements = s.kept ∙ ap (λ (ps : List (Chars × TermTree)). ps ++ (l, t) ∷ []) h.statements;
}
stored-stands old mid new kept kept1 l t id (Err x) k is s = tt

-- two steps, of which the second may fail
pub then-ok : (r : Result (Unit {0}) Memory) (P Q : Type 0) → (P → Q) → OnOk r P → OnOk r Q
then-ok (Ok _) P Q f h = f h
then-ok (Err e) P Q f h = tt

-- ---- definitions

pub definition-stands : (old mid new : State) (kept kept1 : List (Chars × TermTree)) (n l : Chars) (ty : TypeTree) (body t : TermTree) (r : Result (Unit {0}) Memory)
    → mid ≡ record old { signature = with_const n ty old.signature } → l ≡ definition_label n → t ≡ definition_statement n ty body
    → OnOk r ((ctx : Context) → StandsAs ctx mid kept → StandsAs (with_statements ((l, t) ∷ []) ctx) new kept1)
    → OnOk r ((ctx : Context) → StandsAs ctx old kept → StandsAs (with_item ctx (def_item n ty body)) new kept1)
definition-stands old mid new kept kept1 n l ty body t (Err x) m e f h = tt
definition-stands old mid new kept kept1 n l ty body t (Ok _) m e f h = λ ctx st.
    subst (λ (p : Chars × TermTree). StandsAs (with_statements (p ∷ []) (with_consts ((n, ty) ∷ []) ctx)) new kept1) (λ i. (e i, f i))
    (h (with_consts ((n, ty) ∷ []) ctx) (record { stands = stands-const ctx old mid n ty st.stands m; statements = st.statements }))

-- ---- typedefs: what is declared

pub signature-one : (s0 s1 : State) (n : Chars) (k : ℕ) (params : List Chars) → s1 ≡ record s0 { signature = with_type n k s0.signature } → k ≡ length params
    → s1.signature ≡ with_type n (length params) s0.signature
signature-one s0 s1 n k params e m = ap (λ (s : State). s.signature) e ∙ ap (λ (j : ℕ). with_type n j s0.signature) m

pub signature-two : (s0 s1 s2 : State) (n b : Chars) (params : List Chars) (raw ty : TypeTree) → s1.signature ≡ with_type n (length params) s0.signature
    → s2 ≡ record s1 { signature = with_const b ty s1.signature } → ty ≡ fun (new_type n params) raw → s2.signature ≡ with_rep n params raw b s0.signature
signature-two s0 s1 s2 n b params raw ty e f m = ap (λ (s : State). s.signature) f ∙ (λ i. with_const b (m i) (e i))

pub rep-new : (s0 s1 : State) (n a b : Chars) (params : List Chars) (raw : TypeTree) → s1.signature ≡ with_type n (length params) s0.signature → IsNewType s0.signature n params raw a b
    → found b s1.signature.consts ≡ None
rep-new s0 s1 n a b params raw e d = ap (λ (sig : Signature). found b sig.consts) e ∙ d.rep

pub rep-sound : (s0 s1 : State) (n a b : Chars) (params : List Chars) (raw ty : TypeTree) → s1.signature ≡ with_type n (length params) s0.signature → ty ≡ fun (new_type n params) raw
    → IsNewType s0.signature n params raw a b → type_fault s1.signature ty ≡ None
rep-sound s0 s1 n a b params raw ty e m d = (λ i. type_fault (e i) (m i)) ∙ d.rep_sound

pub abs-new : (s0 s2 : State) (n a b : Chars) (params : List Chars) (raw : TypeTree) → s2.signature ≡ with_rep n params raw b s0.signature → IsNewType s0.signature n params raw a b
    → found a s2.signature.consts ≡ None
abs-new s0 s2 n a b params raw e d = ap (λ (sig : Signature). found a sig.consts) e ∙ d.abs

pub abs-sound : (s0 s2 : State) (n a b : Chars) (params : List Chars) (raw ty : TypeTree) → s2.signature ≡ with_rep n params raw b s0.signature → ty ≡ fun raw (new_type n params)
    → IsNewType s0.signature n params raw a b → type_fault s2.signature ty ≡ None
abs-sound s0 s2 n a b params raw ty e m d = (λ i. type_fault (e i) (m i)) ∙ d.abs_sound

pub typed-all : (s0 s1 s2 s3 : State) (n a b : Chars) (k : ℕ) (params : List Chars) (raw new reps abss : TypeTree) (r : Result (Unit {0}) Memory)
    → k ≡ length params → new ≡ new_type n params → reps ≡ fun new raw → abss ≡ fun raw new
    → s1 ≡ record s0 { signature = with_type n k s0.signature } → s2 ≡ record s1 { signature = with_const b reps s1.signature }
    → OnOk r (s3 ≡ record s2 { signature = with_const a abss s2.signature }) → OnOk r (s3 ≡ record s0 { signature = with_new_type n params raw a b s0.signature })
typed-all s0 s1 s2 s3 n a b k params raw new reps abss (Err x) ek en er ea e1 e2 e3 = tt
typed-all s0 s1 s2 s3 n a b k params raw new reps abss (Ok _) ek en er ea e1 e2 e3 =
    e3 ∙ ap (λ (s : State). record s { signature = with_const a abss s.signature }) e2
    ∙ ap (λ (s : State). record s { signature = with_const a abss (with_const b reps s.signature) }) e1
    ∙ (λ i. record s0 { signature = with_const a (ea i) (with_const b (er i) (with_type n (ek i) s0.signature)) })
    ∙ ap (λ (t : TypeTree). record s0 { signature = with_const a (fun raw t) (with_const b (fun t raw) (with_type n (length params) s0.signature)) }) en

pub typed-behind : (s0 s1 s2 s3 : State) (n a b : Chars) (k : ℕ) (reps abss : TypeTree) (r : Result (Unit {0}) Memory)
    → s1 ≡ record s0 { signature = with_type n k s0.signature } → s2 ≡ record s1 { signature = with_const b reps s1.signature }
    → OnOk r (s3 ≡ record s2 { signature = with_const a abss s2.signature }) → OnErr r (s3 ≡ s2) → IsBehind s0 s3
typed-behind s0 s1 s2 s3 n a b k reps abss (Ok _) e1 e2 e3 f =
    behind-on s0 s2 s3 (behind-on s0 s1 s2 (behind-type s0 s1 n k e1) (behind-const s1 s2 b reps e2)) (behind-const s2 s3 a abss e3)
typed-behind s0 s1 s2 s3 n a b k reps abss (Err x) e1 e2 e3 f =
    behind-on s0 s2 s3 (behind-on s0 s1 s2 (behind-type s0 s1 n k e1) (behind-const s1 s2 b reps e2)) (behind-same s2 s3 f)

-- ---- typedefs: what is stated

-- a label that is new stays new behind another one
pub new-behind : {A : Type 0} (ps qs : List (Chars × A)) (x y : Chars) (v : A) → qs ≡ ps ++ (y, v) ∷ [] → found x ps ≡ None → same_name x y ≡ false → found x qs ≡ None
new-behind ps qs x y v e h d = ap (found x) e ∙ found-more x y v ps h d

pub stated-as : (named : List (Chars × ℕ)) (kept : List (Chars × TermTree)) (l m : Chars) (t u : TermTree) → l ≡ m → t ≡ u → IsNewStatement named kept m u → IsNewStatement named kept l t
stated-as named kept l m t u e f h = subst (λ (q : Chars × TermTree). IsNewStatement named kept q.0 q.1) (λ i. (sym e i, sym f i)) h

pub stated-later : (named more : List (Chars × ℕ)) (kept kept1 : List (Chars × TermTree)) (l m : Chars) (t u : TermTree) → IsNewStatement named kept l t
    → ((id : ℕ) × (more ≡ named ++ (m, id) ∷ [])) → kept1 ≡ kept ++ (m, u) ∷ [] → same_name l m ≡ false → IsNewStatement more kept1 l t
stated-later named more kept kept1 l m t u h e f d = record {
  whole = h.whole;
  new = new-behind named more l m e.0 e.1 h.new d;
  fresh = new-behind kept kept1 l m u f h.fresh d;
}

pub stated-all : (s0 s1 s2 s3 : State) (k0 k1 k2 k3 : List (Chars × TermTree)) (l1 l2 l3 : Chars) (t1 t2 t3 : TermTree) (p1 p2 p3 : Chars × TermTree) (r : Result (Unit {0}) Memory)
    → (l1, t1) ≡ p1 → (l2, t2) ≡ p2 → (l3, t3) ≡ p3
    → ((ctx : Context) → StandsAs ctx s0 k0 → StandsAs (with_statements ((l1, t1) ∷ []) ctx) s1 k1)
    → ((ctx : Context) → StandsAs ctx s1 k1 → StandsAs (with_statements ((l2, t2) ∷ []) ctx) s2 k2)
    → OnOk r ((ctx : Context) → StandsAs ctx s2 k2 → StandsAs (with_statements ((l3, t3) ∷ []) ctx) s3 k3)
    → OnOk r ((ctx : Context) → StandsAs ctx s0 k0 → StandsAs (with_statements (p1 ∷ p2 ∷ p3 ∷ []) ctx) s3 k3)
stated-all s0 s1 s2 s3 k0 k1 k2 k3 l1 l2 l3 t1 t2 t3 p1 p2 p3 (Err x) e1 e2 e3 f1 f2 f3 = tt
stated-all s0 s1 s2 s3 k0 k1 k2 k3 l1 l2 l3 t1 t2 t3 p1 p2 p3 (Ok _) e1 e2 e3 f1 f2 f3 = λ ctx h.
    let a : Context = with_statements ((l1, t1) ∷ []) ctx in
    let b : Context = with_statements ((l2, t2) ∷ []) a in
    let same : with_statements ((l3, t3) ∷ []) b ≡ with_statements ((l1, t1) ∷ (l2, t2) ∷ (l3, t3) ∷ []) ctx =
    ap (with_statements ((l3, t3) ∷ [])) (statements-on ((l1, t1) ∷ []) ((l2, t2) ∷ []) ctx) ∙ statements-on ((l1, t1) ∷ (l2, t2) ∷ []) ((l3, t3) ∷ []) ctx in
    subst (λ (c : Context). StandsAs c s3 k3) (same ∙ (λ i. with_statements (e1 i ∷ e2 i ∷ e3 i ∷ []) ctx)) (f3 b (f2 a (f1 ctx h)))

pub front-three : (k0 k1 k2 k3 : List (Chars × TermTree)) → GoesOn k0 k1 → GoesOn k1 k2 → GoesOn k2 k3 → GoesOn k0 k3
front-three k0 k1 k2 k3 a b c = goes-on k0 k2 k3 (goes-on k0 k1 k2 a b) c

pub behind-three : (s0 s1 s2 s3 : State) → IsBehind s0 s1 → IsBehind s1 s2 → IsBehind s2 s3 → IsBehind s0 s3
behind-three s0 s1 s2 s3 a b c = behind-on s0 s2 s3 (behind-on s0 s1 s2 a b) c

-- what a typedef adds, in one
pub typedef-stands : (s0 s1 s2 : State) (k0 k2 : List (Chars × TermTree)) (n a b : Chars) (params : List Chars) (p : TermTree) (raw : TypeTree) (r : Result (Unit {0}) Memory)
    → typed s0.signature [] p ≡ Ok (fun raw bool) → s1 ≡ record s0 { signature = with_new_type n params raw a b s0.signature }
    → OnOk r ((ctx : Context) → StandsAs ctx s1 k0 → StandsAs (with_statements (typedef_statements n (new_type n params) raw p a b) ctx) s2 k2)
    → OnOk r ((l : Chars) (ctx : Context) → StandsAs ctx s0 k0 → StandsAs (with_item ctx (typedef_item n params p l a b)) s2 k2)
typedef-stands s0 s1 s2 k0 k2 n a b params p raw (Err x) t e f = tt
typedef-stands s0 s1 s2 k0 k2 n a b params p raw (Ok _) t e f = λ l ctx h.
    let cs : List (Chars × TypeTree) = (b, fun (new_type n params) raw) ∷ (a, fun raw (new_type n params)) ∷ [] in
    let mid : Context = with_consts cs (with_types ((n, length params) ∷ []) ctx) in
    let sig : s1.signature ≡ mid.signature = ap (λ (s : State). s.signature) e ∙ ap (with_new_type n params raw a b) h.stands.signature
    ∙ (λ i. record {
      types = ctx.signature.types ++ (n, length params) ∷ [];
      consts = append_assoc ctx.signature.consts ((b, fun (new_type n params) raw) ∷ []) ((a, fun raw (new_type n params)) ∷ []) i;
    }) in
    let here : StandsAs mid s1 k0 = record {
      stands = record { signature = sig; statements = ap (λ (s : State). statements s) e ∙ h.stands.statements };
      statements = h.statements;
    } in
    let is : typed ctx.signature [] p ≡ Ok (fun raw bool) = ap (λ (g : Signature). typed g [] p) (sym h.stands.signature) ∙ t in
    subst (λ (c : Context). StandsAs c s2 k2) (sym (typedef-adds ctx n params p l a b raw is)) (f mid here)

-- and for one label
pub typedef-labelled : (s0 s2 : State) (k0 k2 : List (Chars × TermTree)) (n l a b : Chars) (params : List Chars) (p : TermTree) (r : Result (Unit {0}) Memory)
    → OnOk r ((by : Chars) (ctx : Context) → StandsAs ctx s0 k0 → StandsAs (with_item ctx (typedef_item n params p by a b)) s2 k2)
    → OnOk r ((ctx : Context) → StandsAs ctx s0 k0 → StandsAs (with_item ctx (typedef_item n params p l a b)) s2 k2)
typedef-labelled s0 s2 k0 k2 n l a b params p (Err x) f = tt
typedef-labelled s0 s2 k0 k2 n l a b params p (Ok _) f = f l
