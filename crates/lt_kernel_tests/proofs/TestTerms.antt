-- Terms of the tests that have a type.
use Rattle.std.proofs.Common.{◌≡◌, [], None, Ok, sym, ◌∙◌, ap}
use Rattle.lt_definitions.specs.Types.{TypeTree}
use Rattle.lt_definitions.specs.Terms.{TermTree}
use Rattle.lt_definitions.specs.Typing.{Signature, typed}
use Rattle.std.specs.Result.{result_err}
use Rattle.lt_nameless.specs.Nameless.{Nameless, nameless, IsWhole}
use Rattle.lt_nameless.specs.NamelessRules.{nameless_fault}
use Rattle.lt_nameless.proofs.ClosedSteps.{typed-whole}
use Rattle.lt_nameless.proofs.NamelessTyping.{typed-nameless}

-- a typed term has its binders
pub term-whole : (sig : Signature) (t : TermTree) (ty : TypeTree) → typed sig [] t ≡ Ok ty → IsWhole 0 (nameless [] t)
term-whole sig t ty h = typed-whole sig [] (nameless [] t) ty (sym (typed-nameless sig [] t) ∙ h)

-- and no fault where it is put
pub put-typed : (sig old new : Signature) (t : TermTree) (n : Nameless) (ty : TypeTree) → sig ≡ old → new ≡ old → n ≡ nameless [] t → typed sig [] t ≡ Ok ty → nameless_fault new n ≡ None
put-typed sig old new t n ty s k e h =
    ap (λ (g : Signature). nameless_fault g n) (k ∙ sym s) ∙ ap (nameless_fault sig) e ∙ ap result_err (sym (typed-nameless sig [] t) ∙ h)
