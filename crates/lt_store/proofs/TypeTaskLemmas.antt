-- What a typing keeps, task by task.
use Rattle.std.proofs.Common.{◌≡◌, ℕ, ◌+◌, ◌*◌, ◌<◌, List, [], ◌∷◌, length, slice_get, Option, Some, None, Result, Ok, Err, ◌⊎◌, inl, inr, refl, sym, ◌∙◌, ap, subst, arith}
use Rattle.lt_definitions.specs.Types.{TypeTree, fun}
use Rattle.lt_definitions.specs.Typing.{Signature, Fault, earlier, type_fault, unless, with_ok, bound_type, applied_type}
use Rattle.lt_nameless.specs.Nameless.{Nameless, nameless_bound, nameless_application, nameless_abstraction, IsWhole}
use Rattle.lt_nameless.specs.NamelessRules.{nameless_typed}
use Rattle.lt_hol.specs.declared.type_fault.TypeFault.{TypeFault}
use Rattle.lt_hol.specs.Faults.{Finds, fault_of}
use Rattle.lt_store.specs.declared.node.Node.{Node}
use Rattle.lt_store.specs.declared.type_work.TypeTask.{TypeTask}
use Rattle.lt_store.specs.declared.type_work.TypeTask.TheVariants.{Visit, Apply, Leave}
use Rattle.lt_store.specs.Trees.{tree_at, tree_size}
use Rattle.lt_store.specs.Memos.{Memo, result_at, IsKept}
use Rattle.lt_store.specs.TypeNumbers.{Has, GivesType, AreTypes, context_type}
use Rattle.lt_hol.specs.TypeTables.{type_at, Extends}
use Rattle.lt_store.specs.TypeTasks.{IsPlace, IsFound, AllFound, IsDue, IsEntered, outer, AreDue, fault_at, faults, IsTyping, weights}
use Rattle.lt_store.proofs.TreeLemmas.{tree_size-positive}
use Rattle.lt_store.proofs.MemoLemmas.{Keeps, keeps_more, keeps_own, kept_back, result_of}
use Rattle.lt_store.proofs.TypeNumberLemmas.{has-one, has-at, has-fun, has-on, has-within, extends_same, context-inj, types-on, types-length, types-at, finds-first, finds-unless}

-- faults of a whole and of its parts

application-faults : (f a : Result TypeTree Fault) (rest : Option Fault) → earlier (fault_of (with_ok f (λ t. with_ok a (λ u. applied_type t u)))) rest
    ≡ earlier (fault_of f) (earlier (fault_of a) (earlier (fault_of (with_ok f (λ t. with_ok a (λ u. applied_type t u)))) rest))
application-faults (Ok t) (Ok u) rest = refl
application-faults (Ok t) (Err e) rest = refl
application-faults (Err e) a rest = refl

abstraction-faults : (fault : Option Fault) (ty : TypeTree) (b : Result TypeTree Fault) (rest : Option Fault) → fault ≡ None
    → earlier (fault_of (unless fault (with_ok b (λ u. Ok (fun ty u))))) rest ≡ earlier (fault_of b) (earlier (fault_of (unless fault (with_ok b (λ u. Ok (fun ty u))))) rest)
abstraction-faults None ty (Ok u) rest none = refl
abstraction-faults None ty (Err e) rest none = refl
abstraction-faults (Some f) ty b rest none = cc none

unless-none : {A : Type 0} (fault : Option Fault) (r : Result A Fault) → fault ≡ None → unless fault r ≡ r
unless-none fault r e = ap (λ f. unless f r) e

module _ (sig : Signature) (ns : List Node) where
  place-on : (old new tys : List TypeTree) (i c : ℕ) → Extends old new → IsPlace ns old tys i c → IsPlace ns new tys i c
  place-on old new tys i c k h = record { within = h.within; tells = has-on _ _ c _ k h.tells; whole = h.whole }

  found-on : (old new : List TypeTree) (i c r : ℕ) → Extends old new → IsFound sig ns old i c r → IsFound sig ns new i c r
  found-on old new i c r k h = record { tys = h.tys; ty = h.ty; tells = has-on _ _ c _ k h.tells; has = has-on _ _ r _ k h.has; is = h.is }

  entered-on : (old new tys : List TypeTree) (i b d : ℕ) → Extends old new → IsEntered sig ns old tys i b d → IsEntered sig ns new tys i b d
  entered-on old new tys i b d k h = record { ty = h.ty; binders = h.binders; right = h.right; stands = h.stands; tells = has-on _ _ d _ k h.tells }

  -- what is due stays so
  due-wider : (m m' : Memo) (ps qs : List (ℕ × ℕ)) (q : ℕ × ℕ) → ((p : ℕ × ℕ) → IsDue m ps p → IsDue m' qs p) → (p : ℕ × ℕ) → IsDue m (q ∷ ps) p → IsDue m' (q ∷ qs) p
  due-wider m m' ps qs q on p h = by h
    where
      wide : IsDue m' qs p → IsDue m' (q ∷ qs) p
      wide (inl k) = inl k
      wide (inr w) = inr (inr w)

      by : IsDue m (q ∷ ps) p → IsDue m' (q ∷ qs) p
      by (inl k) = wide (on p (inl k))
      by (inr (inl e)) = inr (inl e)
      by (inr (inr w)) = wide (on p (inr w))

  due-on : (old new : List TypeTree) (m m' : Memo) (goal : ℕ × ℕ) (ps qs : List (ℕ × ℕ)) (tys : List TypeTree) (ts : List TypeTask) → Extends old new
      → ((p : ℕ × ℕ) → IsDue m ps p → IsDue m' qs p) → AreDue sig ns old m goal ps tys ts → AreDue sig ns new m' goal qs tys ts
  due-on old new m m' goal ps qs tys [] k on h = on goal h
  due-on old new m m' goal ps qs tys (Visit i c ∷ ts) k on h =
      (place-on old new tys i c k h.0, due-on old new m m' goal ((i, c) ∷ ps) ((i, c) ∷ qs) tys ts k (due-wider m m' ps qs (i, c) on) h.1)
  due-on old new m m' goal ps qs tys (Apply i c f a ∷ ts) k on h =
      (place-on old new tys i c k h.0, h.1, on (f, c) h.2, on (a, c) h.3, due-on old new m m' goal ((i, c) ∷ ps) ((i, c) ∷ qs) tys ts k (due-wider m m' ps qs (i, c) on) h.4)
  due-on old new m m' goal ps qs tys (Leave i c b d ∷ ts) k on h = (
    place-on old new (outer tys) i c k h.0,
    entered-on old new tys i b d k h.1,
    on (b, d) h.2,
    due-on old new m m' goal ((i, c) ∷ ps) ((i, c) ∷ qs) (outer tys) ts k (due-wider m m' ps qs (i, c) on) h.3,
  )

  -- where nothing comes before, what is due was found
  pub due-kept : (m : Memo) (p : ℕ × ℕ) → IsDue m [] p → IsKept m p
  due-kept m p (inl k) = k
  due-kept m p (inr w) = absurd w

  -- what was found for a place
  pub record FoundAt (ts : List TypeTree) (tys : List TypeTree) (i r : ℕ) : Type 0 where
    pub ty : TypeTree
    pub has : Has ts r ty
    pub is : nameless_typed sig tys (tree_at ns i) ≡ Ok ty

  pub found-at : (ts : List TypeTree) (m : Memo) (tys : List TypeTree) (i c r : ℕ) → AllFound sig ns ts m → Has ts c (context_type tys) → result_at m i c ≡ Some r → FoundAt ts tys i r
  found-at ts m tys i c r all tells at =
      let f : IsFound sig ns ts i c r = all i c r at in
      let same : f.tys ≡ tys = context-inj f.tys tys (has-one ts c _ _ f.tells tells) in
      record { ty = f.ty; has = f.has; is = ap (λ bs. nameless_typed sig bs (tree_at ns i)) (sym same) ∙ f.is }

  module _ (root base : ℕ) (ts : List TypeTree) (m : Memo) where
    -- the place of the first task was found before
    pub skipped : (binders : List ℕ) (rest : List TypeTask) (i c : ℕ) → IsKept m (i, c) → IsTyping sig ns root base ts m binders (Visit i c ∷ rest) → IsTyping sig ns root base ts m binders rest
    skipped binders rest i c own now = by (result_of m i c own)
      where
        on : (p : ℕ × ℕ) → IsDue m ((i, c) ∷ []) p → IsDue m [] p
        on p (inl k) = inl k
        on p (inr (inl e)) = inl (subst (IsKept m) e own)
        on p (inr (inr w)) = absurd w

        by : ((r : ℕ) × (result_at m i c ≡ Some r)) → IsTyping sig ns root base ts m binders rest
        by r = record {
          tys = now.tys;
          numbers = now.numbers;
          bottom = now.bottom;
          found = now.found;
          due = due-on ts ts m m (root, base) ((i, c) ∷ []) [] now.tys rest (extends_same ts) on now.due.1;
          first = now.first ∙ ap (λ o. earlier (fault_of o) (faults sig ns now.tys rest)) (found-at ts m now.tys i c r.0 now.found now.due.0.tells r.1).is;
        }

    -- the place of the first task is found now
    settled : (new : List TypeTree) (m' : Memo) (binders : List ℕ) (tys : List TypeTree) (rest : List TypeTask) (i c r : ℕ) (ty : TypeTree) → Extends ts new → AreTypes ts binders tys → Has ts base (context_type [])
        → AllFound sig ns ts m → IsPlace ns ts tys i c → AreDue sig ns ts m (root, base) ((i, c) ∷ []) tys rest → fault_at sig ns [] root ≡ earlier (fault_at sig ns tys i) (faults sig ns tys rest)
        → Has new r ty → nameless_typed sig tys (tree_at ns i) ≡ Ok ty → Keeps m m' i c r → IsTyping sig ns root base new m' binders rest
    settled new m' binders tys rest i c r ty k numbers bottom all place due first has is law = record {
      tys = tys;
      numbers = types-on ts new binders tys k numbers;
      bottom = has-on _ _ base _ k bottom;
      found = λ j d q at. by j d q (kept_back m m' i c r law j d q at);
      due = due-on ts new m m' (root, base) ((i, c) ∷ []) [] tys rest k on due;
      first = first ∙ ap (λ o. earlier (fault_of o) (faults sig ns tys rest)) is;
    }
      where
        on : (p : ℕ × ℕ) → IsDue m ((i, c) ∷ []) p → IsDue m' [] p
        on p (inl o) = inl (keeps_more m m' i c r law p o)
        on p (inr (inl e)) = inl (subst (IsKept m') e (keeps_own m m' i c r law))
        on p (inr (inr w)) = absurd w

        own : IsFound sig ns new i c r
        own = record { tys = tys; ty = ty; tells = has-on _ _ c _ k place.tells; has = has; is = is }

        by : (j d q : ℕ) → ((i ≡ j) × (c ≡ d) × (r ≡ q)) ⊎ (result_at m j d ≡ Some q) → IsFound sig ns new j d q
        by j d q (inl e) = rw (sym e.0, sym e.1, sym e.2) own
        by j d q (inr at) = found-on ts new j d q k (all j d q at)

    module _ (binders : List ℕ) (rest : List TypeTask) (i c : ℕ) (now : IsTyping sig ns root base ts m binders (Visit i c ∷ rest)) where
      abbrev here : Result TypeTree Fault
      here = nameless_typed sig now.tys (tree_at ns i)

      -- what was found to be wrong is wrong with the root
      pub visit_wrong : (o : Result TypeTree Fault) (e : TypeFault) → here ≡ o → Finds (fault_of o) e → Finds (fault_at sig ns [] root) e
      visit_wrong o e is h =
          subst (λ (f : Option Fault). Finds f e) (sym now.first) (finds-first (fault_of here) (faults sig ns now.tys rest) e (subst (λ (r : Result TypeTree Fault). Finds (fault_of r) e) (sym is) h))

      pub visit_found : (new : List TypeTree) (m' : Memo) (r : ℕ) (o : Result TypeTree Fault) → Extends ts new → here ≡ o → GivesType new o (Ok r) → Keeps m m' i c r → IsTyping sig ns root base new m' binders rest
      visit_found new m' r o k is h law =
          settled new m' binders now.tys rest i c r h.0 k now.numbers now.bottom now.found now.due.0 now.due.1 now.first h.1 (is ∙ h.2) law

      pub visit_wide : c < length ts
      visit_wide = has-within ts c _ now.due.0.tells

      -- a bound name has its binder
      pub visit_index : (k : ℕ) → tree_at ns i ≡ nameless_bound k → k < length binders
      visit_index k stands =
          let h : k < length now.tys = subst (λ (t : Nameless). IsWhole (length now.tys) t) stands now.due.0.whole in
          omega (arith, h, types-length ts binders now.tys now.numbers)

      pub visit_bound : (m' : Memo) (k r : ℕ) → tree_at ns i ≡ nameless_bound k → slice_get binders k ≡ Some r → Keeps m m' i c r → IsTyping sig ns root base ts m' binders rest
      visit_bound m' k r stands at law =
          let one = types-at ts binders now.tys k r now.numbers at in
          settled ts m' binders now.tys rest i c r one.0 (extends_same ts) now.numbers now.bottom now.found now.due.0 now.due.1 now.first one.2
          (ap (nameless_typed sig now.tys) stands ∙ ap (bound_type []) one.1) law

      pub visit_application : (f a : ℕ) → tree_at ns i ≡ nameless_application (tree_at ns f) (tree_at ns a) → f < i → a < i
          → IsTyping sig ns root base ts m binders (Visit f c ∷ Visit a c ∷ Apply i c f a ∷ rest)
      visit_application f a stands hf ha =
          let place = now.due.0 in
          let parts : IsWhole (length now.tys) (tree_at ns f) × IsWhole (length now.tys) (tree_at ns a) = subst (λ (t : Nameless). IsWhole (length now.tys) t) stands place.whole in
          record {
            tys = now.tys;
            numbers = now.numbers;
            bottom = now.bottom;
            found = now.found;
            due = (
              record { within = omega (arith, place.within); tells = place.tells; whole = parts.0 },
              (
                record { within = omega (arith, place.within); tells = place.tells; whole = parts.1 },
                (place, stands, inr (inr (inl refl)), inr (inl refl), due-on ts ts m m (root, base) ((i, c) ∷ []) ((i, c) ∷ (a, c) ∷ (f, c) ∷ []) now.tys rest (extends_same ts) on now.due.1),
              ),
            );
            first = now.first ∙ ap (λ (t : Nameless). earlier (fault_of (nameless_typed sig now.tys t)) (faults sig ns now.tys rest)) stands
                ∙ application-faults (nameless_typed sig now.tys (tree_at ns f)) (nameless_typed sig now.tys (tree_at ns a)) (faults sig ns now.tys rest)
                ∙ ap (λ (t : Nameless). earlier (fault_at sig ns now.tys f) (earlier (fault_at sig ns now.tys a) (earlier (fault_of (nameless_typed sig now.tys t)) (faults sig ns now.tys rest)))) (sym stands);
          }
        where
          on : (p : ℕ × ℕ) → IsDue m ((i, c) ∷ []) p → IsDue m ((i, c) ∷ (a, c) ∷ (f, c) ∷ []) p
          on p (inl k) = inl k
          on p (inr (inl e)) = inr (inl e)
          on p (inr (inr w)) = absurd w

      pub visit_abstraction : (new : List TypeTree) (b d n : ℕ) (ty : TypeTree) → tree_at ns i ≡ nameless_abstraction ty (tree_at ns b) → b < i → Extends ts new → type_fault sig ty ≡ None → Has new n ty
          → ((t : TypeTree) → Has ts c t → Has new d (fun ty t)) → IsTyping sig ns root base new m (n ∷ binders) (Visit b d ∷ Leave i c b d ∷ rest)
      visit_abstraction new b d n ty stands hb k right has inside =
          let place = now.due.0 in
          let part : IsWhole (length (ty ∷ now.tys)) (tree_at ns b) = subst (λ (t : Nameless). IsWhole (length now.tys) t) stands place.whole in
          let tells : Has new d (context_type (ty ∷ now.tys)) = inside _ place.tells in
          record {
            tys = ty ∷ now.tys;
            numbers = (has, types-on ts new binders now.tys k now.numbers);
            bottom = has-on _ _ base _ k now.bottom;
            found = λ j e q at. found-on ts new j e q k (now.found j e q at);
            due = (
              record { within = omega (arith, place.within); tells = tells; whole = part },
              (
                place-on ts new now.tys i c k place,
                record { ty = ty; binders = refl; right = right; stands = stands; tells = tells },
                inr (inl refl),
                due-on ts new m m (root, base) ((i, c) ∷ []) ((i, c) ∷ (b, d) ∷ []) now.tys rest k on now.due.1,
              ),
            );
            first = now.first ∙ ap (λ (t : Nameless). earlier (fault_of (nameless_typed sig now.tys t)) (faults sig ns now.tys rest)) stands
                ∙ abstraction-faults (type_fault sig ty) ty (nameless_typed sig (ty ∷ now.tys) (tree_at ns b)) (faults sig ns now.tys rest) right
                ∙ ap (λ (t : Nameless). earlier (fault_at sig ns (ty ∷ now.tys) b) (earlier (fault_of (nameless_typed sig now.tys t)) (faults sig ns now.tys rest))) (sym stands);
          }
        where
          on : (p : ℕ × ℕ) → IsDue m ((i, c) ∷ []) p → IsDue m ((i, c) ∷ (b, d) ∷ []) p
          on p (inl k) = inl k
          on p (inr (inl e)) = inr (inl e)
          on p (inr (inr w)) = absurd w

      pub visit_abstraction_wrong : (b : ℕ) (ty : TypeTree) (e : TypeFault) → tree_at ns i ≡ nameless_abstraction ty (tree_at ns b) → Finds (type_fault sig ty) e → Finds (fault_at sig ns [] root) e
      visit_abstraction_wrong b ty e stands h =
          visit_wrong (nameless_typed sig now.tys (nameless_abstraction ty (tree_at ns b))) e (ap (nameless_typed sig now.tys) stands) (finds-unless (type_fault sig ty) _ e h)

    module _ (binders : List ℕ) (rest : List TypeTask) (i c f a : ℕ) (now : IsTyping sig ns root base ts m binders (Apply i c f a ∷ rest)) where
      pub apply_ready : IsKept m (f, c) × IsKept m (a, c)
      apply_ready = (due-kept m (f, c) now.due.2, due-kept m (a, c) now.due.3)

      module _ (rf ra : ℕ) (at_f : result_at m f c ≡ Some rf) (at_a : result_at m a c ≡ Some ra) where
        pub function_type : FoundAt ts now.tys f rf
        function_type = found-at ts m now.tys f c rf now.found now.due.0.tells at_f

        pub argument_type : FoundAt ts now.tys a ra
        argument_type = found-at ts m now.tys a c ra now.found now.due.0.tells at_a

        whole_type : nameless_typed sig now.tys (tree_at ns i) ≡ applied_type (type_at ts rf) (type_at ts ra)
        whole_type =
            ap (nameless_typed sig now.tys) now.due.1
            ∙ (λ k. with_ok (function_type.is k) (λ t. with_ok (argument_type.is k) (λ u. applied_type t u)))
            ∙ (λ k. applied_type (sym (has-at ts rf function_type.ty function_type.has) k) (sym (has-at ts ra argument_type.ty argument_type.has) k))

        pub apply_wrong : (e : TypeFault) → GivesType ts (applied_type (type_at ts rf) (type_at ts ra)) (Err e) → Finds (fault_at sig ns [] root) e
        apply_wrong e h =
            subst (λ (o : Option Fault). Finds o e) (sym now.first)
            (finds-first (fault_at sig ns now.tys i) (faults sig ns now.tys rest) e
            (subst (λ (r : Result TypeTree Fault). Finds (fault_of r) e) (sym whole_type) h))

        pub apply_found : (m' : Memo) (r : ℕ) → GivesType ts (applied_type (type_at ts rf) (type_at ts ra)) (Ok r) → Keeps m m' i c r → IsTyping sig ns root base ts m' binders rest
        apply_found m' r h law =
            settled ts m' binders now.tys rest i c r h.0 (extends_same ts) now.numbers now.bottom now.found now.due.0 now.due.4 now.first h.1 (whole_type ∙ h.2) law

    module _ (binders : List ℕ) (rest : List TypeTask) (i c b d : ℕ) (now : IsTyping sig ns root base ts m binders (Leave i c b d ∷ rest)) where
      pub leave_ready : IsKept m (b, d)
      leave_ready = due-kept m (b, d) now.due.2

      pub entered : IsEntered sig ns ts now.tys i b d
      entered = now.due.1

      -- some binder is there
      pub leave_some : (n : ℕ) (left : List ℕ) → binders ≡ n ∷ left → Has ts n entered.ty × AreTypes ts left (outer now.tys)
      leave_some n left e = subst (λ (bs : List ℕ). AreTypes ts bs (entered.ty ∷ outer now.tys)) e (subst (AreTypes ts binders) entered.binders now.numbers)

      pub leave_deep : 0 < length binders
      leave_deep = omega (arith, types-length ts binders now.tys now.numbers, ap length entered.binders)

      module _ (rb : ℕ) (at_b : result_at m b d ≡ Some rb) where
        pub body_type : FoundAt ts now.tys b rb
        body_type = found-at ts m now.tys b d rb now.found entered.tells at_b

        pub leave_found : (new : List TypeTree) (m' : Memo) (n : ℕ) (left : List ℕ) (r : ℕ) → binders ≡ n ∷ left → Extends ts new → Has new r (fun (type_at ts n) (type_at ts rb)) → Keeps m m' i c r
            → IsTyping sig ns root base new m' left rest
        leave_found new m' n left r e k made law =
            let binder = leave_some n left e in
            let inside : nameless_typed sig (entered.ty ∷ outer now.tys) (tree_at ns b) ≡ Ok body_type.ty = ap (λ (bs : List TypeTree). nameless_typed sig bs (tree_at ns b)) (sym entered.binders) ∙ body_type.is in
            settled new m' left (outer now.tys) rest i c r (fun entered.ty body_type.ty) k binder.1 now.bottom now.found now.due.0 now.due.3 now.first
            (has-fun ts new n rb r entered.ty body_type.ty made binder.0 body_type.has)
            (ap (nameless_typed sig (outer now.tys)) entered.stands
            ∙ unless-none (type_fault sig entered.ty) (with_ok (nameless_typed sig (entered.ty ∷ outer now.tys) (tree_at ns b)) (λ u. Ok (fun entered.ty u))) entered.right
            ∙ ap (λ (o : Result TypeTree Fault). with_ok o (λ u. Ok (fun entered.ty u))) inside) law

  pub typing-as : (root base : ℕ) (ts : List TypeTree) (m : Memo) (bs binders : List ℕ) (now tasks : List TypeTask) → binders ≡ bs → tasks ≡ now → IsTyping sig ns root base ts m bs now → IsTyping sig ns root base ts m binders tasks
  typing-as root base ts m bs binders now tasks p q h = subst (IsTyping sig ns root base ts m binders) (sym q) (subst (λ (l : List ℕ). IsTyping sig ns root base ts m l now) (sym p) h)

  -- at the start the root is to be visited
  pub typing_first : (root base : ℕ) (ts : List TypeTree) (m : Memo) (binders : List ℕ) (tasks : List TypeTask) → binders ≡ [] → tasks ≡ Visit root base ∷ [] → ((i c : ℕ) → result_at m i c ≡ None) → root < length ns
      → Has ts base (context_type []) → IsWhole 0 (tree_at ns root) → IsTyping sig ns root base ts m binders tasks
  typing_first root base ts m binders tasks no_binders is none within bottom whole = record {
    tys = [];
    numbers = subst (λ (bs : List ℕ). AreTypes ts bs []) (sym no_binders) tt;
    bottom = bottom;
    found = λ i c r at. let e = none i c in cc;
    due = subst (AreDue sig ns ts m (root, base) [] []) (sym is) (record { within = within; tells = bottom; whole = whole }, inr (inl refl));
    first = by (fault_at sig ns [] root) ∙ sym (ap (faults sig ns []) is);
  }
    where
      by : (f : Option Fault) → f ≡ earlier f None
      by None = refl
      by (Some f) = refl

  -- at the end it was found
  module _ (root base : ℕ) (ts : List TypeTree) (m : Memo) (binders : List ℕ) (tasks : List TypeTask) (is : tasks ≡ []) (now : IsTyping sig ns root base ts m binders tasks) where
    pub typing_last : IsKept m (root, base)
    typing_last = due-kept m (root, base) (subst (AreDue sig ns ts m (root, base) [] now.tys) is now.due)

    pub typing_found : (r : ℕ) → result_at m root base ≡ Some r → FoundAt ts [] root r
    typing_found r at = found-at ts m [] root base r now.found now.bottom at

-- less is left

pub lighter_visit : (ns : List Node) (i : ℕ) (rest : List TypeTask) → weights ns rest < 2 * tree_size (tree_at ns i) + weights ns rest
lighter_visit ns i rest = omega (arith, tree_size-positive (tree_at ns i))

pub lighter_application : (ns : List Node) (i c f a : ℕ) (rest tasks : List TypeTask) → tree_at ns i ≡ nameless_application (tree_at ns f) (tree_at ns a) → tasks ≡ Visit f c ∷ Visit a c ∷ Apply i c f a ∷ rest
    → weights ns tasks < 2 * tree_size (tree_at ns i) + weights ns rest
lighter_application ns i c f a rest tasks stands is = omega (arith, ap (weights ns) is, ap tree_size stands)

pub lighter_abstraction : (ns : List Node) (i c b d : ℕ) (ty : TypeTree) (rest tasks : List TypeTask) → tree_at ns i ≡ nameless_abstraction ty (tree_at ns b) → tasks ≡ Visit b d ∷ Leave i c b d ∷ rest
    → weights ns tasks < 2 * tree_size (tree_at ns i) + weights ns rest
lighter_abstraction ns i c b d ty rest tasks stands is = omega (arith, ap (weights ns) is, ap tree_size stands)
