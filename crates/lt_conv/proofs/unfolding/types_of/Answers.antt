use Rattle.std.proofs.Common.{◌∙◌, sym}
use Rattle.lt_nameless.specs.Nameless.{Nameless}
use Rattle.lt_formulas.specs.declared.shapes.Equation.{Equation}
use Rattle.lt_definitions.specs.Types.{found, TypeTree}
use Rattle.lt_store.specs.Trees.{tree_at}
use Rattle.lt_kernel.specs.State.{statements}
use Rattle.lt_derived.proofs.Repeated.{still-typed}
use Rattle.lt_conv.proofs.Unfolded.{no-constant, mapped-none, mapped-some, none-stated, stated-there, stated-unequal, stated-types, fits-before}
use Rattle.lt_conv.proofs.unfolding.types_of.Goals as goal

pub returns-then-not-is_constant-clause-types : goal.returns-then-not-is_constant-clause-types
returns-then-not-is_constant-clause-types g c =
    no-constant c.args.proof.now.signature (found c.args.label.now (statements c.args.proof.now)) (tree_at c.args.proof.now.nodes c.args.t) (sym c.is_constant.ensures ∙ c.if-not-is_constant.true)

pub returns-in_default-clause-types : goal.returns-in_default-clause-types
returns-in_default-clause-types g c = none-stated c.stated.new.proof (found c.args.label.now (statements c.args.proof.now)) c.in_ok-line.field-0 c.in_ok-line.ensures.stated c.args.proof.now.signature (tree_at c.args.proof.now.nodes c.args.t) c.in_default.is

pub conclusion-concl-requires : goal.conclusion-concl-requires
conclusion-concl-requires g c = stated-there c.stated.new.proof (found c.args.label.now (statements c.args.proof.now)) c.in_ok-line.field-0 c.in_ok-line.ensures.stated c.args.proof.now.signature (tree_at c.args.proof.now.nodes c.args.t) c.in-Some.line c.in-Some.is

pub returns-in_default-2-clause-types : goal.returns-in_default-2-clause-types
returns-in_default-2-clause-types g c =
    let f : Equation → TypeTree × Nameless × Nameless = λ e. (e.ty, tree_at c.stated.new.proof.nodes e.left, tree_at c.stated.new.proof.nodes e.right) in
    stated-unequal c.stated.new.proof (found c.args.label.now (statements c.args.proof.now)) c.in_ok-line.field-0 c.in_ok-line.ensures.stated c.args.proof.now.signature (tree_at c.args.proof.now.nodes c.args.t) c.in-Some.line c.in-Some.is
    (tree_at c.stated.new.proof.nodes c.conclusion-concl.result) c.conclusion-concl.ensures.is (mapped-none f c.in_ok-equation.ensures.parts c.in_default-2.is)

pub match_constants-requires-clause-t : goal.match_constants-requires-clause-t
match_constants-requires-clause-t g c = (still-typed c.args.proof.now c.stated.new.proof c.args.t c.stated.ensures.carries c.requires).within

pub returns-clause-types : goal.returns-clause-types
returns-clause-types g c =
    let new = c.stated.new.proof in
    let f : Equation → TypeTree × Nameless × Nameless = λ e. (e.ty, tree_at c.stated.new.proof.nodes e.left, tree_at c.stated.new.proof.nodes e.right) in
    stated-types c.stated.new.proof (found c.args.label.now (statements c.args.proof.now)) c.in_ok-line.field-0 c.in_ok-line.ensures.stated c.args.proof.now.signature (tree_at c.args.proof.now.nodes c.args.t) c.in-Some.line c.in-Some.is
    (tree_at new.nodes c.conclusion-concl.result) c.conclusion-concl.ensures.is (f c.in-Some-2.equation)
    (mapped-some f c.in-Some-2.equation c.in_ok-equation.ensures.parts c.in-Some-2.is) c.in_ok-types.types c.requires.typed
    (fits-before c.args.proof.now new c.args.t (tree_at new.nodes c.in-Some-2.equation.left) c.in_ok-types.types c.stated.ensures.carries c.requires.within c.in_ok-types.ensures)
