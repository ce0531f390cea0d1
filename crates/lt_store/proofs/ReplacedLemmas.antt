-- What a replacement made, as a store grows.
use Rattle.std.proofs.Common.{◌≡◌, ℕ, ◌<◌, List, length, Option, Some, None, ap, sym, ◌∙◌, subst, arith}
use Rattle.std.specs.Prelude.{IfSome}
use Rattle.lt_definitions.specs.Types.{Chars, TypeTree}
use Rattle.lt_nameless.specs.NamelessRules.{nameless_replaced}
use Rattle.lt_store.specs.declared.node.Node.{Node}
use Rattle.lt_store.specs.declared.replacing.Replacing.{Replacing}
use Rattle.lt_store.specs.Memos.{Memo}
use Rattle.lt_store.specs.Replaced.{AreReplaced, IsReplacing}
use Rattle.lt_store.specs.Trees.{tree_at, Extends}
use Rattle.lt_store.proofs.TreeLemmas.{tree_at-extends}

replaced-extends : (old new : List Node) (x : Chars) (ty : TypeTree) (by : ℕ) (m : Memo) → Extends old new → by < length old → AreReplaced old x ty by m → AreReplaced new x ty by m
replaced-extends old new x ty by m e h kept i d r at =
    let here = kept i d r at in
    let from : i < length old = here.0 in
    let to : r < length old = here.1.0 in (
      omega (arith, e.grows, from),
      (
        omega (arith, e.grows, to),
        tree_at-extends old new r e to ∙ here.1.1 ∙ ap (λ v. nameless_replaced x ty v (tree_at old i)) (sym (tree_at-extends old new by e h))
            ∙ ap (nameless_replaced x ty (tree_at new by)) (sym (tree_at-extends old new i e from)),
      ),
    )

pub replacing-extends : (old new : List Node) (o : Option Replacing) → Extends old new → IfSome o (IsReplacing old) → IfSome o (IsReplacing new)
replacing-extends old new None e h = h
replacing-extends old new (Some k) e h = (omega (arith, e.grows, h.0), replaced-extends old new k.name k.ty k.by k.made e h.0 h.1)

-- what was kept of a replacement that is this one
pub replaced-of : (ns : List Node) (k : Replacing) (x : Chars) (ty : TypeTree) (by : ℕ) → k.name ≡ x → k.ty ≡ ty → k.by ≡ by → IsReplacing ns k → AreReplaced ns x ty by k.made
replaced-of ns k x ty by p q r h = rw (sym p, sym q, sym r) h.1
