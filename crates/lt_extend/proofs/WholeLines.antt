-- The bound names of lines have their binders, where the lines are a derivation over a valid theory.
use Rattle.std.proofs.Common.{◌≡◌, List, [], map, Ok}
use Rattle.std.proofs.lemmas.List.Elements.{All-nil, All-weaker, All-map, All-same}
use Rattle.lt_definitions.specs.Types.{bool}
use Rattle.lt_definitions.specs.Terms.{TermTree}
use Rattle.lt_definitions.specs.Typing.{Signature}
use Rattle.lt_definitions.specs.Rules.{Sequent, Rule}
use Rattle.lt_definitions.specs.Derivations.{derived}
use Rattle.lt_definitions.specs.Items.{Item, Context, empty, context_of}
use Rattle.lt_definitions.specs.Theory.{IsPlainTheory}
use Rattle.lt_nameless.specs.Booleans.{IsBoolean, IsBooleanSequent}
use Rattle.lt_nameless.specs.Nameless.{nameless, nameless_sequent, IsWhole}
use Rattle.lt_nameless.proofs.ClosedForms.{typed_is_whole}
use Rattle.lt_nameless.proofs.Derived.{derivation_is_computed}
use Rattle.lt_nameless.proofs.BooleanSteps.{derivations_keep_booleans, signatures_are_sound}
use Rattle.lt_nameless.proofs.StatementTypes.{statements_are_boolean}
use Rattle.lt_kernel.specs.State.{State, sequents}
use Rattle.lt_extend.specs.Deriving.{HasSequents}
use Rattle.lt_extend.specs.Proving.{IsWholeSequent, AreWhole}

whole-sequent : (sig : Signature) (s : Sequent) → IsBooleanSequent sig s → IsWholeSequent (nameless_sequent s)
whole-sequent sig s b = record {
  hyps = All-map (IsWhole 0) (nameless []) s.hyps (All-weaker (IsBoolean sig) (λ t. IsWhole 0 (nameless [] t)) (λ t h. typed_is_whole sig t bool h) s.hyps b.hyps);
  concl = typed_is_whole sig s.concl bool b.concl;
}

pub whole-lines : (items : List Item) (rules : List (Rule TermTree)) (s : State) (done : List Sequent) → IsPlainTheory items
    → derived (context_of empty items).signature (context_of empty items).statements [] rules ≡ Ok done → HasSequents s done → AreWhole (sequents s)
whole-lines items rules s done v d h =
    let ctx : Context = context_of empty items in
    let booleans = derivations_keep_booleans ctx.signature ctx.statements [] rules done (signatures_are_sound items v) (λ l p e. (statements_are_boolean items v l p e).0) (All-nil (IsBooleanSequent ctx.signature))
    ((derivation_is_computed ctx.signature ctx.statements rules done).0 d) in
    All-same IsWholeSequent (sequents s) (map nameless_sequent done) h
    (All-map IsWholeSequent nameless_sequent done (All-weaker (IsBooleanSequent ctx.signature) (λ q. IsWholeSequent (nameless_sequent q)) (whole-sequent ctx.signature) done booleans))
