-- Functions that have one value at a new variable are equal: what abstraction and eta give.
-- Source: this project's own; eta is Church's.
use Rattle.std.specs.Prelude.{not, unwrap_or}
use Rattle.std.specs.List.{list_any}
use Rattle.lt_definitions.specs.Types.{Chars, TypeTree, fun}
use Rattle.lt_definitions.specs.Rules.{where_holds, with_found}
use Rattle.lt_definitions.specs.declared.reason.Reason.TheVariants.{NotEquation, VariableInHypothesis}
use Rattle.lt_nameless.specs.Nameless.{Nameless, nameless_abstraction, NamelessSequent}
use Rattle.lt_nameless.specs.NamelessRules.{NamelessOutcome, nameless_as_equation, nameless_equation, nameless_eta, nameless_has_free, nameless_gives, abstracted}

-- f for \x. f x, where f doesn't have x; any other term stays
abbrev pub contracted : Nameless → Nameless
contracted t = unwrap_or (nameless_eta t) t

-- from H |- s = t: H |- s = t with t contracted
abbrev pub right_contracted : NamelessSequent → NamelessOutcome
right_contracted s = with_found NotEquation (nameless_as_equation s.concl) (λ e.
    nameless_gives s.hyps (nameless_equation e.0 e.1 (contracted e.2)))

-- a term as a function of a variable: f of f x, where f doesn't have x, else \x. t
abbrev pub function_of : Chars → TypeTree → Nameless → Nameless
function_of x ty t = contracted (nameless_abstraction ty (abstracted 0 x ty t))

-- from H |- s = t, where x is in none of H: H |- both sides as functions of x are equal
abbrev pub functions_equal : Chars → TypeTree → NamelessSequent → NamelessOutcome
functions_equal x ty s = with_found NotEquation (nameless_as_equation s.concl) (λ e.
    where_holds (not (list_any (nameless_has_free x ty) s.hyps)) VariableInHypothesis
    (nameless_gives s.hyps
    (nameless_equation (fun ty e.0) (function_of x ty e.1) (function_of x ty e.2))))
