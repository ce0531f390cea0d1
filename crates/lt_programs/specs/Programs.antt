-- What derivations of several lines give, as functions of sequents.
-- Source: this project's own.
use Rattle.std.specs.Prelude.{◌≡◌, ℕ, List, [], ◌∷◌, ◌++◌, length, None, Ok}
use Rattle.lt_definitions.specs.Types.{Chars, found, TypeTree, TypeMap}
use Rattle.lt_definitions.specs.Typing.{Signature, with_ok}
use Rattle.lt_definitions.specs.Rules.{Rule, with_found, with_line, joined_type}
use Rattle.lt_definitions.specs.Derivations.{rule_fault}
use Rattle.lt_definitions.specs.declared.reason.Reason.TheVariants.{UnknownLabel, NotEquation, TypeDiffers}
use Rattle.lt_nameless.specs.Nameless.{Nameless, nameless_application, NamelessSequent}
use Rattle.lt_nameless.specs.NamelessRules.{NamelessOutcome, nameless_instance, nameless_type_of, nameless_as_equation, nameless_equation, nameless_at, nameless_gives, nameless_fault, nameless_step, at_one, detached, turned, carried_over, put_one}

-- |- p
abbrev pub theorem : Nameless → NamelessSequent
theorem p = record { hyps = []; concl = p }

-- from H |- all x y .. p: H |- p at these terms, by allE for each, from the left
abbrev pub at_each : Signature → List Nameless → NamelessSequent → NamelessOutcome
at_each sig [] s = Ok s
at_each sig (t ∷ ts) s = with_ok (at_one sig t s) (at_each sig ts)

-- from H |- p --> q --> .. r and a line for each premise: r, by mp for each, from the left
abbrev pub detached_by : List NamelessSequent → List ℕ → NamelessSequent → NamelessOutcome
detached_by done [] s = Ok s
detached_by done (j ∷ js) s = with_ok (with_line done j (λ u. detached s u)) (detached_by done js)

-- types put for type variables, one pair after another
abbrev pub put_each : TypeMap → NamelessSequent → NamelessSequent
put_each [] s = s
put_each (p ∷ m) s = put_each m (put_one p.0 p.1 s)

-- these types beside these names
abbrev pub paired : List Chars → List TypeTree → TypeMap
paired [] tys = []
paired (a ∷ names) [] = []
paired (a ∷ names) (ty ∷ tys) = (a, ty) ∷ paired names tys

-- a statement with types put at once, then at terms
abbrev pub statement_at : Signature → TypeMap → List Nameless → Nameless → NamelessOutcome
statement_at sig m ts p = at_each sig ts (theorem (nameless_instance m p))

-- the same of a named statement
abbrev pub named_at : Signature → List (Chars × Nameless) → Chars → TypeMap → List Nameless
    → NamelessOutcome
named_at sig named label m ts = with_found UnknownLabel (found label named) (statement_at sig m ts)

-- from H |- f = g: H |- f t = g opened by t, or g t
abbrev pub at_argument : Signature → Nameless → NamelessSequent → NamelessOutcome
at_argument sig t s =
    with_found NotEquation (nameless_as_equation s.concl) (λ e.
    with_found TypeDiffers (joined_type e.0 (nameless_type_of sig t)) (λ ty.
    nameless_gives s.hyps
    (nameless_equation ty (nameless_application e.1 t) (nameless_at e.2 t))))

-- the same for each term, from the left
abbrev pub at_arguments : Signature → List Nameless → NamelessSequent → NamelessOutcome
at_arguments sig [] s = Ok s
at_arguments sig (t ∷ ts) s = with_ok (at_argument sig t s) (at_arguments sig ts)

-- a named equation with types put at once, then both sides at arguments
abbrev pub unfolded_at : Signature → List (Chars × Nameless) → Chars → TypeMap → List Nameless
    → NamelessOutcome
unfolded_at sig named label m ts =
    with_found UnknownLabel (found label named)
    (λ p. at_arguments sig ts (theorem (nameless_instance m p)))

-- from H |- p = q and K |- q: H and K |- p
abbrev pub carried_back : NamelessSequent → NamelessSequent → NamelessOutcome
carried_back s u = with_ok (turned s) (λ v. carried_over v u)

-- What rules give one after another, each from the lines that are given and those of the rules
-- before it: what the last one gives, or the reason of the first that gives nothing.
abbrev pub followed : Signature → List NamelessSequent → List (Rule Nameless) → NamelessOutcome
followed sig done [] = with_line done (length done) (λ s. Ok s)
followed sig done (r ∷ rs) =
    with_ok (nameless_step sig [] done r) (λ s. followed sig (done ++ s ∷ []) rs)

-- No rule's types and terms have a fault.
abbrev pub AreGood : Signature → List (Rule Nameless) → Type 0
AreGood sig [] = Unit {0}
AreGood sig (r ∷ rs) = (rule_fault sig (nameless_fault sig) r ≡ None) × AreGood sig rs
