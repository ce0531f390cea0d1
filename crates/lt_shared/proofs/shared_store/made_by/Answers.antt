use Rattle.std.proofs.Common.{Option, subst}
use Rattle.std.specs.Prelude.{IfSome}
use Rattle.lt_store.specs.declared.replacing.Replacing.{Replacing}
use Rattle.lt_store.specs.Replaced.{IsReplacing}
use Rattle.lt_store.proofs.ReplacedLemmas.{replaced-of}
use Rattle.lt_shared.proofs.shared_store.made_by.Goals as goal

pub returns-then-is_of : goal.returns-then-is_of
returns-then-is_of c ns known =
    let same = c.is_of.ensures c.if-is_of.true in
    let last = subst (λ (o : Option Replacing). IfSome o (IsReplacing ns)) c.in-Some.is known in
    replaced-of ns c.in-Some.last c.args.name.now c.args.ty.now c.args.by same.0 same.1 same.2 last
