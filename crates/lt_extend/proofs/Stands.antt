-- What a state stands for, as more is declared and stated.
use Rattle.std.proofs.Common.{◌≡◌, ℕ, List, [], ◌∷◌, ◌++◌, map, Bool, true, false, if◌then◌else◌, is_some, Some, None, refl, sym, ◌∙◌, ap, subst, append_assoc}
use Rattle.std.proofs.lemmas.List.{map-append}
use Rattle.lt_definitions.specs.Types.{Chars, TypeTree, same_name, found}
use Rattle.lt_definitions.specs.Terms.{TermTree}
use Rattle.lt_definitions.specs.Items.{Context, with_types, with_consts, with_statements}
use Rattle.lt_nameless.specs.Nameless.{Nameless, nameless}
use Rattle.lt_types.proofs.NameTables.{none-found}
use Rattle.lt_hol.specs.Faults.{with_type, with_const}
use Rattle.lt_store.specs.Trees.{tree_at}
use Rattle.lt_kernel.specs.State.{State, Stays}
use Rattle.lt_extend.specs.Standing.{StandsFor, StandsAs}
use Rattle.lt_conditions.specs.Refusing.{context_at}

-- one context, told by the signature and the statements that are kept
pub context-is : (ctx : Context) (s : State) (kept : List (Chars × TermTree)) → StandsAs ctx s kept → context_at s.signature kept ≡ ctx
context-is ctx s kept h = λ i. record { signature = h.stands.signature i; statements = h.statements i }

pub stands-type : (ctx : Context) (old new : State) (n : Chars) (k : ℕ) → StandsFor ctx old → new ≡ record old { signature = with_type n k old.signature }
    → StandsFor (with_types ((n, k) ∷ []) ctx) new
stands-type ctx old new n k h e = subst (StandsFor (with_types ((n, k) ∷ []) ctx)) (sym e) (record {
  signature = ap (with_type n k) h.signature;
  statements = h.statements;
})

pub stands-const : (ctx : Context) (old new : State) (n : Chars) (ty : TypeTree) → StandsFor ctx old → new ≡ record old { signature = with_const n ty old.signature }
    → StandsFor (with_consts ((n, ty) ∷ []) ctx) new
stands-const ctx old new n ty h e = subst (StandsFor (with_consts ((n, ty) ∷ []) ctx)) (sym e) (record {
  signature = ap (with_const n ty) h.signature;
  statements = h.statements;
})

pub stands-more : (ctx : Context) (old new : State) (l : Chars) (id : ℕ) (t : TermTree) → StandsFor ctx old → tree_at old.nodes id ≡ nameless [] t
    → new ≡ record old { named = old.named ++ (l, id) ∷ [] } → StandsFor (with_statements ((l, t) ∷ []) ctx) new
stands-more ctx old new l id t h e q = subst (StandsFor (with_statements ((l, t) ∷ []) ctx)) (sym q) (record {
  signature = h.signature;
  statements = map-append (λ p. (p.0, tree_at old.nodes p.1)) old.named ((l, id) ∷ [])
      ∙ (λ i. h.statements i ++ (l, e i) ∷ []) ∙ sym (map-append (λ p. (p.0, nameless [] p.1)) ctx.statements ((l, t) ∷ []));
})

-- a state that stays stands for the same
pub stands-still : (ctx : Context) (old new : State) → StandsFor ctx old → Stays old new → StandsFor ctx new
stands-still ctx old new h s = record { signature = s.signature ∙ h.signature; statements = s.statements ∙ h.statements }

-- statements that are added one after another
pub statements-on : (ps qs : List (Chars × TermTree)) (ctx : Context) → with_statements qs (with_statements ps ctx) ≡ with_statements (ps ++ qs) ctx
statements-on ps qs ctx = ap (λ (ss : List (Chars × TermTree)). record ctx { statements = ss }) (append_assoc ctx.statements ps qs)

pub consts-on : (cs ds : List (Chars × TypeTree)) (ctx : Context) → with_consts ds (with_consts cs ctx) ≡ with_consts (cs ++ ds) ctx
consts-on cs ds ctx = ap (λ (xs : List (Chars × TypeTree)). record ctx { signature = record ctx.signature { consts = xs } }) (append_assoc ctx.signature.consts cs ds)

-- a label that no statement of the context has, none of the kernel's has
found-mapped : {A B : Type 0} (f : A → B) (l : Chars) (ps : List (Chars × A)) → is_some (found l (map (λ p. (p.0, f p.1)) ps)) ≡ is_some (found l ps)
found-mapped f l [] = refl
found-mapped f l (p ∷ ps) = by_test f l p ps (same_name l p.0) (found-mapped f l ps)
  where
    by_test : {A B : Type 0} (f : A → B) (l : Chars) (p : Chars × A) (ps : List (Chars × A)) (b : Bool) → is_some (found l (map (λ p. (p.0, f p.1)) ps)) ≡ is_some (found l ps)
        → is_some (if b then Some (f p.1) else found l (map (λ p. (p.0, f p.1)) ps)) ≡ is_some (if b then Some p.1 else found l ps)
    by_test f l p ps true h = refl
    by_test f l p ps false h = h

pub unknown-label : (ctx : Context) (s : State) (l : Chars) → StandsFor ctx s → found l ctx.statements ≡ None → found l s.named ≡ None
unknown-label ctx s l h e =
    none-found (found l s.named)
    (sym (found-mapped (tree_at s.nodes) l s.named) ∙ ap (λ (ps : List (Chars × Nameless)). is_some (found l ps)) h.statements ∙ found-mapped (nameless []) l ctx.statements ∙ ap is_some e)
