-- An item that is added behind what it declares and states, or dropped again.
use Rattle.std.proofs.Common.{◌≡◌, ℕ, List, [], ◌∷◌, ◌++◌, take, Option, None, Result, Ok, Err, OnOk, OnErr, IfErr, IsOk, refl, sym, ◌∙◌, ap, subst}
use Rattle.std.specs.Result.{IsErrAnd}
use Rattle.std.proofs.lemmas.List.{map-append}
use Rattle.lt_definitions.specs.Types.{Chars, TypeTree, bool, found}
use Rattle.lt_definitions.specs.Terms.{TermTree}
use Rattle.lt_definitions.specs.Typing.{type_fault}
use Rattle.lt_definitions.specs.Rules.{Rule, Sequent}
use Rattle.lt_definitions.specs.Derivations.{derived}
use Rattle.lt_definitions.specs.Items as theory
use Rattle.lt_definitions.specs.Items.{Context, empty, context_of, with_item}
use Rattle.lt_definitions.specs.Theory.{Refusal, refusal, IsPlainTheory, statement_test, new_name, closed_test, proof_test}
use Rattle.lt_nameless.specs.Nameless.{nameless, IsWhole}
use Rattle.lt_nameless.proofs.ClosedForms.{typed_is_whole}
use Rattle.lt_nameless.proofs.Refusals.{refusal-extension}
use Rattle.lt_types.specs.declared.memory.Memory.{Memory as OutOfMemory}
use Rattle.lt_hol.specs.declared.item.Item.{Item}
use Rattle.lt_hol.specs.declared.item.Item.TheVariants.{Lemma}
use Rattle.lt_hol.specs.declared.lines.Lines.{Lines}
use Rattle.lt_hol.specs.Lines.{rules_of}
use Rattle.lt_hol.specs.Items.{item_of}
use Rattle.lt_hol.specs.Faults.{with_type, with_const}
use Rattle.lt_store.specs.Trees.{tree_at, Extends}
use Rattle.lt_store.proofs.TreeLemmas.{extends_same, extends_on}
use Rattle.lt_kernel.specs.State.{State, sequents, Stays, Keeps}
use Rattle.lt_kernel.proofs.GrowingLemmas.{stays-on}
use Rattle.lt_conditions.specs.declared.item_fault.ItemFault.{ItemFault}
use Rattle.lt_conditions.specs.declared.item_fault.ItemFault.TheVariants.{Duplicate, UnknownType, Arity, UnknownConst, TypeArgs, Unbound, Mismatch, NotBool, UnknownLabel, OpenTerm, LooseTypeVar, TypedefShape, InLine, BadLine, NotProved, Memory}
use Rattle.lt_conditions.specs.Refusing.{Refuses, context_at}
use Rattle.lt_conditions.proofs.Refusals.{refuses-same, refuses-front, first-behind, first-alone}
use Rattle.lt_extend.specs.declared.drafts.Mark.{Mark}
use Rattle.lt_extend.specs.Standing.{StandsFor, StandsAs, IsReady, GoesOn, IsBehind}
use Rattle.lt_extend.specs.Drafts.{IsMark, before}
use Rattle.lt_extend.specs.Theories.{Holding, items_of, context_behind, IsInStep, IsHeld, IsAdded, KeepsLines, IsUnchanged, Adds, AddsLemma, kept_refusal, IsLine, KeepsLemma}
use Rattle.lt_extend.specs.Proving.{unproved}
use Rattle.lt_extend.specs.Telling.{rules_at, rules_in}
use Rattle.lt_extend.proofs.Accepted.{context-more, valid-more}
use Rattle.lt_extend.proofs.Behind.{behind-none, behind-same, behind-type, behind-const, goes-none, back-stays, kept-back}
use Rattle.lt_extend.proofs.Entered.{IsStoredUnder, stored-behind, stored-stands, then-ok}
use Rattle.lt_extend.proofs.Stands.{context-is, stands-still, stands-type, stands-const}

pub stays-same : (s : State) → Stays s s
stays-same s = record { nodes = extends_same s.nodes; signature = refl; named = refl; statements = refl }

pub held-stands : (items : List Item) (s : State) (kept : List (Chars × TermTree)) → IsHeld items kept → StandsFor (context_behind items) s → StandsAs (context_behind items) s kept
held-stands items s kept h st = record { stands = st; statements = h.statements }

pub same-context : (items : List Item) (s : State) (kept : List (Chars × TermTree)) → IsHeld items kept → StandsFor (context_behind items) s → context_at s.signature kept ≡ context_behind items
same-context items s kept h st = context-is (context_behind items) s kept (held-stands items s kept h st)

-- the tests are those over the items
pub accepted-here : (items : List Item) (s : State) (kept : List (Chars × TermTree)) (item : theory.Item) → IsHeld items kept → StandsFor (context_behind items) s
    → refusal (context_at s.signature kept) item ≡ None → refusal (context_behind items) item ≡ None
accepted-here items s kept item h st e = subst (λ (ctx : Context). refusal ctx item ≡ None) (same-context items s kept h st) e

pub ready : (items : List Item) (s : State) (kept : List (Chars × TermTree)) (item : theory.Item) → IsHeld items kept → StandsFor (context_behind items) s
    → refusal (context_at s.signature kept) item ≡ None → IsReady (items_of items) s kept item
ready items s kept item h st e = record {
  valid = h.valid;
  stands = held-stands items s kept h st;
  accepted = accepted-here items s kept item h st e;
}

-- a test refuses before anything is added
pub refused-here : (items : List Item) (s : State) (kept : List (Chars × TermTree)) (item : theory.Item) (e : ItemFault) → IsHeld items kept → StandsFor (context_behind items) s
    → Refuses (refusal (context_at s.signature kept) item) e → Refuses (refusal (context_behind items) item) e
refused-here items s kept item e h st r = subst (λ (ctx : Context). Refuses (refusal ctx item) e) (same-context items s kept h st) r

pub unchanged : (items : List Item) (old new : State) → Stays old new → IsUnchanged (record { items = items; proof = old }) (record { items = items; proof = new })
unchanged items old new s = record { items = refl; proof = s }

-- one item more

pub behind-item : (items : List Item) (item : Item) → context_behind (items ++ item ∷ []) ≡ with_item (context_behind items) (item_of item)
behind-item items item = ap (context_of empty) (map-append item_of items (item ∷ [])) ∙ context-more empty (items_of items) (item_of item)

pub held-more : (items : List Item) (item : Item) (s : State) (kept kept1 : List (Chars × TermTree)) → IsHeld items kept → refusal (context_behind items) (item_of item) ≡ None
    → StandsAs (with_item (context_behind items) (item_of item)) s kept1 → IsHeld (items ++ item ∷ []) kept1
held-more items item s kept kept1 h e st = record {
  valid = subst IsPlainTheory (sym (map-append item_of items (item ∷ []))) (valid-more empty (items_of items) (item_of item) h.valid e);
  statements = st.statements ∙ ap (λ (ctx : Context). ctx.statements) (sym (behind-item items item));
}

pub in-step-more : (items : List Item) (item : Item) (s : State) (kept : List (Chars × TermTree)) → StandsAs (with_item (context_behind items) (item_of item)) s kept
    → StandsFor (context_behind (items ++ item ∷ [])) s
in-step-more items item s kept st = subst (λ (ctx : Context). StandsFor ctx s) (sym (behind-item items item)) st.stands

-- What was added before the item itself, behind the mark.
pub record IsEntered (ctx : Context) (item : theory.Item) (s s1 : State) (kept kept1 : List (Chars × TermTree)) (entered : Result (Unit {0}) OutOfMemory) : Type 0 where
  pub behind : IsBehind s s1
  pub front : GoesOn kept kept1
  pub stands : OnOk entered (StandsAs (with_item ctx item) s1 kept1)

-- What it is to commit.
pub record IsCommitted (s1 s2 : State) (kept1 kept2 : List (Chars × TermTree)) (before_it behind_it : List Item) (mark : Mark) (done_so_far : Result (Unit {0}) OutOfMemory) (item : Item)
    (result : Result (Unit {0}) ItemFault) : Type 0 where
  pub entered : OnOk result (IsOk done_so_far)
  pub proof : OnOk result (s2 ≡ s1)
  pub statements : OnOk result (kept2 ≡ kept1)
  pub items : OnOk result (behind_it ≡ before_it ++ item ∷ [])
  pub memory : IfErr result (λ e. e ≡ Memory)
  pub proof_back : OnErr result (s2 ≡ before mark s1)
  pub statements_back : OnErr result (kept2 ≡ take mark.statements kept1)
  pub items_back : OnErr result (behind_it ≡ before_it)

on-ok : (entered : Result (Unit {0}) OutOfMemory) (P : Type 0) → IsOk entered → OnOk entered P → P
on-ok (Ok x) P k h = h
on-ok (Err e) P k h = absurd (cc k)

-- What is known behind an item that was to be added.
pub record IsDone (items : List Item) (item : Item) (s0 s s2 : State) (items2 : List Item) (kept2 : List (Chars × TermTree)) (result : Result (Unit {0}) ItemFault) : Type 0 where
  pub held : IsHeld items2 kept2
  pub in_step : IsInStep (record { items = items2; proof = s2 })
  pub added : OnOk result (IsAdded (record { items = items; proof = s0 }) item (record { items = items2; proof = s2 }))
  pub lines : OnOk result (KeepsLines s s2)
  pub refused : IfErr result (λ e. Refuses (refusal (context_behind items) (item_of item)) e)
  pub unchanged : OnErr result (IsUnchanged (record { items = items; proof = s0 }) (record { items = items2; proof = s2 }))

pub done : (items items2 : List Item) (item : Item) (s0 s s1 s2 : State) (kept kept1 kept2 : List (Chars × TermTree)) (mark : Mark) (entered : Result (Unit {0}) OutOfMemory)
    (result : Result (Unit {0}) ItemFault) → IsHeld items kept → StandsFor (context_behind items) s0 → Stays s0 s → refusal (context_behind items) (item_of item) ≡ None → IsMark s kept mark
    → IsEntered (context_behind items) (item_of item) s s1 kept kept1 entered → IsCommitted s1 s2 kept1 kept2 items items2 mark entered item result
    → IsDone items item s0 s s2 items2 kept2 result
done items items2 item s0 s s1 s2 kept kept1 kept2 mark entered (Ok _) h st stays e m n c =
    let ctx : Context = with_item (context_behind items) (item_of item) in
    let stands1 : StandsAs ctx s1 kept1 = on-ok entered (StandsAs ctx s1 kept1) c.entered n.stands in
    let stands : StandsAs ctx s2 kept2 = subst (λ (q : State × List (Chars × TermTree)). StandsAs ctx q.0 q.1) (λ i. (sym c.proof i, sym c.statements i)) stands1 in
    record {
      held = subst (λ (is : List Item). IsHeld is kept2) (sym c.items) (held-more items item s2 kept kept2 h e stands);
      in_step = subst (λ (is : List Item). StandsFor (context_behind is) s2) (sym c.items) (in-step-more items item s2 kept2 stands);
      added = record {
        accepted = e;
        items = c.items;
        in_step = subst (λ (is : List Item). StandsFor (context_behind is) s2) (sym c.items) (in-step-more items item s2 kept2 stands);
        nodes = extends_on s0.nodes s.nodes s2.nodes stays.nodes (subst (λ (q : State). Extends s.nodes q.nodes) (sym c.proof) n.behind.nodes);
      };
      lines = record {
        steps = ap (λ (q : State). q.steps) c.proof ∙ n.behind.steps;
        sequents = ap (λ (q : State). sequents q) c.proof ∙ n.behind.sequents;
      };
      refused = tt;
      unchanged = tt;
    }
done items items2 item s0 s s1 s2 kept kept1 kept2 mark entered (Err f) h st stays e m n c =
    let all : Stays s0 s2 = stays-on s0 s s2 stays (back-stays s s1 s2 kept mark m n.behind c.proof_back) in
    let same : kept2 ≡ kept = kept-back kept kept1 kept2 s mark m n.front c.statements_back in
    record {
      held = subst (λ (q : List Item × List (Chars × TermTree)). IsHeld q.0 q.1) (λ i. (sym c.items_back i, sym same i)) h;
      in_step = subst (λ (is : List Item). StandsFor (context_behind is) s2) (sym c.items_back) (stands-still (context_behind items) s0 s2 st all);
      added = tt;
      lines = tt;
      refused = subst (λ (q : ItemFault). Refuses (refusal (context_behind items) (item_of item)) q) (sym c.memory) tt;
      unchanged = record { items = c.items_back; proof = all };
    }

-- the same in the words of the contracts

pub done-adds : (items items2 : List Item) (item : Item) (s0 s2 : State) (kept2 : List (Chars × TermTree)) (result : Result (Unit {0}) ItemFault) → IsDone items item s0 s0 s2 items2 kept2 result
    → Adds (record { items = items; proof = s0 }) item (record { items = items2; proof = s2 }) result
done-adds items items2 item s0 s2 kept2 (Ok _) d = (d.added, d.lines)
done-adds items items2 item s0 s2 kept2 (Err e) d = (d.refused, d.unchanged)

pub done-lemma : (items items2 : List Item) (item : Item) (s0 s s2 : State) (kept2 : List (Chars × TermTree)) (result : Result (Unit {0}) ItemFault) → s.steps ≡ []
    → IsDone items item s0 s s2 items2 kept2 result → AddsLemma (record { items = items; proof = s0 }) item (record { items = items2; proof = s2 }) result
done-lemma items items2 item s0 s s2 kept2 (Ok _) n d = (d.added, d.lines.steps ∙ n)
done-lemma items items2 item s0 s s2 kept2 (Err e) n d = (d.refused, d.unchanged)

-- ---- what each item enters

pub entered-by : (ctx : Context) (item : theory.Item) (s s1 : State) (kept kept1 : List (Chars × TermTree)) (entered : Result (Unit {0}) OutOfMemory) → StandsAs ctx s kept → IsBehind s s1 → GoesOn kept kept1
    → OnOk entered ((c : Context) → StandsAs c s kept → StandsAs (with_item c item) s1 kept1) → IsEntered ctx item s s1 kept kept1 entered
entered-by ctx item s s1 kept kept1 entered st b f h = record {
  behind = b;
  front = f;
  stands = then-ok entered ((c : Context) → StandsAs c s kept → StandsAs (with_item c item) s1 kept1) (StandsAs (with_item ctx item) s1 kept1) (λ g. g ctx st) h;
}

pub entered-type : (ctx : Context) (s s1 : State) (kept : List (Chars × TermTree)) (n : Chars) (k : ℕ) (entered : Result (Unit {0}) OutOfMemory) → StandsAs ctx s kept
    → OnOk entered (s1 ≡ record s { signature = with_type n k s.signature }) → OnErr entered (s1 ≡ s) → IsEntered ctx (theory.type_item n k) s s1 kept kept entered
entered-type ctx s s1 kept n k (Ok _) st e f = record {
  behind = behind-type s s1 n k e;
  front = goes-none kept;
  stands = record { stands = stands-type ctx s s1 n k st.stands e; statements = st.statements };
}
entered-type ctx s s1 kept n k (Err x) st e f = record { behind = behind-same s s1 f; front = goes-none kept; stands = tt }

pub entered-const : (ctx : Context) (s s1 : State) (kept : List (Chars × TermTree)) (n : Chars) (ty : TypeTree) (entered : Result (Unit {0}) OutOfMemory) → StandsAs ctx s kept
    → OnOk entered (s1 ≡ record s { signature = with_const n ty s.signature }) → OnErr entered (s1 ≡ s) → IsEntered ctx (theory.const_item n ty) s s1 kept kept entered
entered-const ctx s s1 kept n ty (Ok _) st e f = record {
  behind = behind-const s s1 n ty e;
  front = goes-none kept;
  stands = record { stands = stands-const ctx s s1 n ty st.stands e; statements = st.statements };
}
entered-const ctx s s1 kept n ty (Err x) st e f = record { behind = behind-same s s1 f; front = goes-none kept; stands = tt }

keeps-same : (s : State) → Keeps s s
keeps-same s = record { stays = stays-same s; steps = refl; sequents = refl }

pub entered-lemma : (ctx : Context) (s s1 : State) (kept kept1 : List (Chars × TermTree)) (l : Chars) (t : TermTree) (lines : List (Rule TermTree)) (id : ℕ) (entered : Result (Unit {0}) OutOfMemory)
    → StandsAs ctx s kept → tree_at s.nodes id ≡ nameless [] t → IsStoredUnder s s1 kept kept1 l t id entered → IsEntered ctx (theory.lemma_item l t lines) s s1 kept kept1 entered
entered-lemma ctx s s1 kept kept1 l t lines id entered st is h =
    entered-by ctx (theory.lemma_item l t lines) s s1 kept kept1 entered st (stored-behind s s s1 kept kept1 l t id entered (behind-none s) h) h.front
    (stored-stands s s s1 kept kept1 l t id entered (keeps-same s) is h)

-- ---- what the tests leave

pub new-type-name : (ctx : Context) (n : Chars) (k : ℕ) → refusal ctx (theory.type_item n k) ≡ None → found n ctx.signature.types ≡ None
new-type-name ctx n k e = refusal-extension ctx (theory.type_item n k) e

pub new-const-name : (ctx : Context) (n : Chars) (ty : TypeTree) → refusal ctx (theory.const_item n ty) ≡ None → (type_fault ctx.signature ty ≡ None) × (found n ctx.signature.consts ≡ None)
new-const-name ctx n ty e = refusal-extension ctx (theory.const_item n ty) e

pub new-statement-label : (ctx : Context) (l : Chars) (t : TermTree) → refusal ctx (theory.axiom_item l t) ≡ None → (IsWhole 0 (nameless [] t)) × (found l ctx.statements ≡ None)
new-statement-label ctx l t e =
    let h = refusal-extension ctx (theory.axiom_item l t) e in
    (typed_is_whole ctx.signature t bool h.0.0, h.1)

-- a lemma is refused as an axiom is, or else by its lines
pub lemma-first : (ctx : Context) (l : Chars) (t : TermTree) (lines : List (Rule TermTree)) (e : ItemFault) → Refuses (refusal ctx (theory.axiom_item l t)) e → Refuses (refusal ctx (theory.lemma_item l t lines)) e
lemma-first ctx l t lines e h =
    refuses-front (statement_test ctx t ∷ new_name ctx.statements l ∷ closed_test t ∷ []) (proof_test t (derived ctx.signature ctx.statements [] lines) ∷ []) e h

lemma-rest : (ctx : Context) (l : Chars) (t : TermTree) (lines : List (Rule TermTree)) → refusal ctx (theory.axiom_item l t) ≡ None
    → refusal ctx (theory.lemma_item l t lines) ≡ proof_test t (derived ctx.signature ctx.statements [] lines)
lemma-rest ctx l t lines e =
    first-behind (statement_test ctx t ∷ new_name ctx.statements l ∷ closed_test t ∷ []) (proof_test t (derived ctx.signature ctx.statements [] lines) ∷ []) e
    ∙ first-alone (proof_test t (derived ctx.signature ctx.statements [] lines))

pub lemma-later : (ctx : Context) (l : Chars) (t : TermTree) (lines : List (Rule TermTree)) (e : ItemFault) → refusal ctx (theory.axiom_item l t) ≡ None
    → Refuses (proof_test t (derived ctx.signature ctx.statements [] lines)) e → Refuses (refusal ctx (theory.lemma_item l t lines)) e
lemma-later ctx l t lines e n h = refuses-same (proof_test t (derived ctx.signature ctx.statements [] lines)) (refusal ctx (theory.lemma_item l t lines)) e (sym (lemma-rest ctx l t lines n)) h

pub lemma-accepted : (ctx : Context) (l : Chars) (t : TermTree) (lines : List (Rule TermTree)) → refusal ctx (theory.axiom_item l t) ≡ None
    → proof_test t (derived ctx.signature ctx.statements [] lines) ≡ None → refusal ctx (theory.lemma_item l t lines) ≡ None
lemma-accepted ctx l t lines n h = lemma-rest ctx l t lines n ∙ h

-- where there is no refusal, only memory can be wanting
only-memory : (o : Option Refusal) (e : ItemFault) → o ≡ None → Refuses o e → e ≡ Memory
only-memory o (Duplicate n) a h = absurd (cc (sym a ∙ h))
only-memory o (UnknownType c) a h = absurd (cc (sym a ∙ h))
only-memory o (Arity c) a h = absurd (cc (sym a ∙ h))
only-memory o (UnknownConst c) a h = absurd (cc (sym a ∙ h))
only-memory o (TypeArgs c) a h = absurd (cc (sym a ∙ h))
only-memory o (Unbound x) a h = absurd (cc (sym a ∙ h))
only-memory o (Mismatch t u) a h = absurd (cc (sym a ∙ h))
only-memory o (NotBool ty) a h = absurd (cc (sym a ∙ h))
only-memory o (UnknownLabel l) a h = absurd (cc (sym a ∙ h))
only-memory o OpenTerm a h = absurd (cc (sym a ∙ h))
only-memory o (LooseTypeVar x) a h = absurd (cc (sym a ∙ h))
only-memory o TypedefShape a h = absurd (cc (sym a ∙ h))
only-memory o (InLine n e) a h = absurd (cc (sym a ∙ h.1))
only-memory o (BadLine n r) a h = absurd (cc (sym a ∙ h))
only-memory o (NotProved last) a h = absurd (cc (sym a ∙ h.1))
only-memory o Memory a h = refl

-- ---- a theory from within and from without

pub in-step-inside : (items : List Item) (s : State) (h : Holding) → record { items = items; proof = s } ≡ h → IsInStep h → StandsFor (context_behind items) s
in-step-inside items s h e st = subst IsInStep (sym e) st

pub adds-outside : (items : List Item) (s : State) (h new : Holding) (item : Item) (r : Result (Unit {0}) ItemFault) → record { items = items; proof = s } ≡ h → Adds (record { items = items; proof = s }) item new r
    → Adds h item new r
adds-outside items s h new item r e a = subst (λ (k : Holding). Adds k item new r) e a

pub lemma-outside : (items : List Item) (s : State) (h new : Holding) (item : Item) (r : Result (Unit {0}) ItemFault) → record { items = items; proof = s } ≡ h → AddsLemma (record { items = items; proof = s }) item new r
    → AddsLemma h item new r
lemma-outside items s h new item r e a = subst (λ (k : Holding). AddsLemma k item new r) e a

-- refused by a test
pub adds-refused : (items : List Item) (s : State) (kept : List (Chars × TermTree)) (h : Holding) (item : Item) (e : ItemFault) → record { items = items; proof = s } ≡ h → IsHeld items kept → IsInStep h
    → Refuses (refusal (context_at s.signature kept) (item_of item)) e → Adds h item h (Err e)
adds-refused items s kept h item e v held st r =
    let here : Refuses (refusal (context_behind items) (item_of item)) e = refused-here items s kept (item_of item) e held (in-step-inside items s h v st) r in
    subst (λ (k : Holding). Adds k item k (Err e)) v (here, unchanged items s s (stays-same s))

-- refused for want of memory, before anything is added
pub adds-memory : (h : Holding) (item : Item) (e : ItemFault) → e ≡ Memory → Adds h item h (Err e)
adds-memory h item e is = subst (λ (q : ItemFault). Adds h item h (Err q)) (sym is) (tt, record { items = refl; proof = stays-same h.proof })

-- ---- lemmas that are refused

pub lemma-refused : (items : List Item) (s : State) (kept : List (Chars × TermTree)) (h : Holding) (l : Chars) (t : TermTree) (item : Item) (lines : List (Rule TermTree)) (e : ItemFault)
    → record { items = items; proof = s } ≡ h → IsHeld items kept → IsInStep h → item_of item ≡ theory.lemma_item l t lines
    → Refuses (refusal (context_at s.signature kept) (theory.axiom_item l t)) e → AddsLemma h item h (Err e)
lemma-refused items s kept h l t item lines e v held st is r =
    let here : Refuses (refusal (context_behind items) (item_of item)) e =
    subst (λ (i : theory.Item). Refuses (refusal (context_behind items) i) e) (sym is)
    (lemma-first (context_behind items) l t lines e (refused-here items s kept (theory.axiom_item l t) e held (in-step-inside items s h v st) r)) in
    subst (λ (k : Holding). AddsLemma k item k (Err e)) v (here, unchanged items s s (stays-same s))

pub lemma-failed : (items : List Item) (s s1 : State) (kept : List (Chars × TermTree)) (h : Holding) (l : Chars) (t : TermTree) (item : Item) (lines : List (Rule TermTree)) (e : ItemFault)
    → record { items = items; proof = s } ≡ h → IsHeld items kept → IsInStep h → item_of item ≡ theory.lemma_item l t lines
    → refusal (context_at s.signature kept) (theory.axiom_item l t) ≡ None → Stays s s1
    → ((ctx : Context) → StandsFor ctx s → Refuses (proof_test t (derived ctx.signature ctx.statements [] lines)) e)
    → AddsLemma h item (record { items = items; proof = s1 }) (Err e)
lemma-failed items s s1 kept h l t item lines e v held st is n stays r =
    let inside = in-step-inside items s h v st in
    let here : Refuses (refusal (context_behind items) (item_of item)) e =
    subst (λ (i : theory.Item). Refuses (refusal (context_behind items) i) e) (sym is)
    (lemma-later (context_behind items) l t lines e (accepted-here items s kept (theory.axiom_item l t) held inside n) (r (context_behind items) inside)) in
    subst (λ (k : Holding). AddsLemma k item (record { items = items; proof = s1 }) (Err e)) v (here, unchanged items s s1 stays)

pub stays-cleared : (old mid new : State) → Stays old mid → new ≡ record mid { steps = [] } → Stays old new
stays-cleared old mid new s e = subst (Stays old) (sym e) (record { nodes = s.nodes; signature = s.signature; named = s.named; statements = s.statements })

pub cleared-stays : (old mid new : State) → mid ≡ record old { steps = [] } → Stays mid new → Stays old new
cleared-stays old mid new e s = stays-on old mid new (stays-cleared old old mid (stays-same old) e) s

-- an item by an equal one
pub same-item : (r : Result (Unit {0}) ItemFault) (items items2 : List Item) (a b : Item) → a ≡ b → OnOk r (items2 ≡ items ++ a ∷ []) → OnOk r (items2 ≡ items ++ b ∷ [])
same-item (Ok _) items items2 a b e h = h ∙ ap (λ (i : Item). items ++ i ∷ []) e
same-item (Err x) items items2 a b e h = tt

-- What is known of a theory behind an item that was to be added.
pub record IsGrown (h : Holding) (item : Item) (items2 : List Item) (s2 : State) (kept2 : List (Chars × TermTree)) (result : Result (Unit {0}) ItemFault) : Type 0 where
  pub held : IsHeld items2 kept2
  pub in_step : IsInStep (record { items = items2; proof = s2 })
  pub adds : Adds h item (record { items = items2; proof = s2 }) result

pub grown : (items items2 : List Item) (item : Item) (s s1 s2 : State) (kept kept1 kept2 : List (Chars × TermTree)) (mark : Mark) (entered : Result (Unit {0}) OutOfMemory) (result : Result (Unit {0}) ItemFault)
    (h : Holding) → record { items = items; proof = s } ≡ h → IsHeld items kept → IsInStep h → refusal (context_at s.signature kept) (item_of item) ≡ None → IsMark s kept mark
    → IsEntered (context_behind items) (item_of item) s s1 kept kept1 entered → IsCommitted s1 s2 kept1 kept2 items items2 mark entered item result → IsGrown h item items2 s2 kept2 result
grown items items2 item s s1 s2 kept kept1 kept2 mark entered result h v held st a m n c =
    let inside : StandsFor (context_behind items) s = in-step-inside items s h v st in
    let d : IsDone items item s s s2 items2 kept2 result =
    done items items2 item s s s1 s2 kept kept1 kept2 mark entered result held inside (stays-same s) (accepted-here items s kept (item_of item) held inside a) m n c in
    record {
      held = d.held;
      in_step = d.in_step;
      adds = adds-outside items s h (record { items = items2; proof = s2 }) item result v (done-adds items items2 item s s2 kept2 result d);
    }

-- ---- lemmas whose statement is in the store

pub lemma-done : (items items2 : List Item) (l : Chars) (t : TermTree) (lines : Lines) (s0 s s1 s2 : State) (kept kept1 kept2 : List (Chars × TermTree)) (mark : Mark) (id : ℕ) (entered : Result (Unit {0}) OutOfMemory)
    (result : Result (Unit {0}) ItemFault) → IsHeld items kept → StandsFor (context_behind items) s0 → s ≡ record s0 { steps = [] } → refusal (context_behind items) (item_of (Lemma l t lines)) ≡ None
    → tree_at s0.nodes id ≡ nameless [] t → IsMark s kept mark → IsStoredUnder s s1 kept kept1 l t id entered → IsCommitted s1 s2 kept1 kept2 items items2 mark entered (Lemma l t lines) result
    → IsDone items (Lemma l t lines) s0 s s2 items2 kept2 result
lemma-done items items2 l t lines s0 s s1 s2 kept kept1 kept2 mark id entered result held st e a is m u c =
    let stays : Stays s0 s = stays-cleared s0 s0 s (stays-same s0) e in
    done items items2 (Lemma l t lines) s0 s s1 s2 kept kept1 kept2 mark entered result held st stays a m
    (entered-lemma (context_behind items) s s1 kept kept1 l t (rules_of lines.nodes lines.lines) id entered
    (record { stands = stands-still (context_behind items) s0 s st stays; statements = held.statements }) (ap (λ (q : State). tree_at q.nodes id) e ∙ is) u) c

-- what stays before a lemma is added
pub lemma-behind : (items : List Item) (s0 s : State) (new : Holding) (item : Item) (r : Result (Unit {0}) ItemFault) → Stays s0 s → AddsLemma (record { items = items; proof = s }) item new r
    → AddsLemma (record { items = items; proof = s0 }) item new r
lemma-behind items s0 s new item (Ok _) k a = (
  record { accepted = a.0.accepted; items = a.0.items; in_step = a.0.in_step; nodes = extends_on s0.nodes s.nodes new.proof.nodes k.nodes a.0.nodes },
  a.1,
)
lemma-behind items s0 s new item (Err e) k a = (a.0, record { items = a.1.items; proof = stays-on s0 s new.proof k a.1.proof })

-- ---- lemmas whose lines are there already

kept-first : (ctx : Context) (l : Chars) (t : TermTree) (last : Option Sequent) (e : ItemFault) → Refuses (refusal ctx (theory.axiom_item l t)) e → Refuses (kept_refusal ctx l t last) e
kept-first ctx l t last e h = refuses-front (statement_test ctx t ∷ new_name ctx.statements l ∷ closed_test t ∷ []) (unproved t last ∷ []) e h

kept-later : (ctx : Context) (l : Chars) (t : TermTree) (last : Option Sequent) (e : ItemFault) → refusal ctx (theory.axiom_item l t) ≡ None → Refuses (unproved t last) e → Refuses (kept_refusal ctx l t last) e
kept-later ctx l t last e n h =
    refuses-same (unproved t last) (kept_refusal ctx l t last) e
    (sym (first-behind (statement_test ctx t ∷ new_name ctx.statements l ∷ closed_test t ∷ []) (unproved t last ∷ []) n ∙ first-alone (unproved t last))) h

-- refused by a test
pub kept-refused : (items : List Item) (s : State) (kept : List (Chars × TermTree)) (h : Holding) (l : Chars) (t : TermTree) (n : ℕ) (last : Option Sequent) (e : ItemFault)
    → record { items = items; proof = s } ≡ h → IsHeld items kept → IsInStep h → IsLine s n last → Refuses (refusal (context_at s.signature kept) (theory.axiom_item l t)) e → KeepsLemma h l t n h (Err e)
kept-refused items s kept h l t n last e v held st line r =
    subst (λ (k : Holding). KeepsLemma k l t n k (Err e)) v
    (last, line, kept-first (context_behind items) l t last e (refused-here items s kept (theory.axiom_item l t) e held (in-step-inside items s h v st) r), unchanged items s s (stays-same s))

-- refused by the line
pub kept-unproved : (items : List Item) (s s1 : State) (kept : List (Chars × TermTree)) (h : Holding) (l : Chars) (t : TermTree) (n : ℕ) (last : Option Sequent) (e : ItemFault)
    → record { items = items; proof = s } ≡ h → IsHeld items kept → IsInStep h → refusal (context_at s.signature kept) (theory.axiom_item l t) ≡ None → Stays s s1 → IsLine s n last → Refuses (unproved t last) e
    → KeepsLemma h l t n (record { items = items; proof = s1 }) (Err e)
kept-unproved items s s1 kept h l t n last e v held st a stays line r =
    subst (λ (k : Holding). KeepsLemma k l t n (record { items = items; proof = s1 }) (Err e)) v
    (last, line, kept-later (context_behind items) l t last e (accepted-here items s kept (theory.axiom_item l t) held (in-step-inside items s h v st) a) r, unchanged items s s1 stays)

-- want of memory
pub kept-memory : (items : List Item) (s s1 : State) (h : Holding) (l : Chars) (t : TermTree) (n : ℕ) (last : Option Sequent) (r : Result (Unit {0}) ItemFault) → record { items = items; proof = s } ≡ h
    → IsErrAnd r (λ e. e ≡ Memory) → Stays s s1 → IsLine s n last → KeepsLemma h l t n (record { items = items; proof = s1 }) r
kept-memory items s s1 h l t n last (Ok _) v is stays line = absurd is
kept-memory items s s1 h l t n last (Err e) v is stays line =
    subst (λ (k : Holding). KeepsLemma k l t n (record { items = items; proof = s1 }) (Err e)) v
    (last, line, subst (λ (q : ItemFault). Refuses (kept_refusal (context_behind items) l t last) q) (sym is) tt, unchanged items s s1 stays)

-- what an answer tells of a lemma that was found valid
added-memory : (items : List Item) (s : State) (item : Item) (new : Holding) (e : ItemFault) → refusal (context_behind items) (item_of item) ≡ None → AddsLemma (record { items = items; proof = s }) item new (Err e) → e ≡ Memory
added-memory items s item new e a h = only-memory (refusal (context_behind items) (item_of item)) e a h.0

pub kept-added : (items : List Item) (s s1 : State) (h new : Holding) (l : Chars) (t : TermTree) (n : ℕ) (last : Option Sequent) (lines : Lines) (r : Result (Unit {0}) ItemFault)
    → record { items = items; proof = s } ≡ h → Stays s s1 → IsLine s n last → rules_in lines ≡ rules_at s n → refusal (context_behind items) (item_of (Lemma l t lines)) ≡ None
    → AddsLemma (record { items = items; proof = s1 }) (Lemma l t lines) new r → KeepsLemma h l t n new r
kept-added items s s1 h new l t n last lines (Ok _) v stays line is a d =
    let behind = lemma-behind items s s1 new (Lemma l t lines) (Ok tt) stays d in
    subst (λ (k : Holding). KeepsLemma k l t n new (Ok tt)) v (lines, is, behind.0, behind.1)
kept-added items s s1 h new l t n last lines (Err e) v stays line is a d =
    let behind = lemma-behind items s s1 new (Lemma l t lines) (Err e) stays d in
    subst (λ (k : Holding). KeepsLemma k l t n new (Err e)) v
    (last, line, subst (λ (q : ItemFault). Refuses (kept_refusal (context_behind items) l t last) q) (sym (added-memory items s1 (Lemma l t lines) new e a d)) tt, behind.1)
