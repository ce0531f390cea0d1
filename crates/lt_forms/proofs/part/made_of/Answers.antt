use Rattle.std.proofs.Common.{◌≡◌, ◌∙◌, ◌+◌, ◌∷◌, ◌++◌, [], ap, sym, arith, length, length-append}
use Rattle.lt_definitions.specs.Terms.{application, abstraction}
use Rattle.lt_terms.specs.declared.term.TermNode.TheVariants.{Free, Bound, Const, App, Lam}
use Rattle.lt_terms.specs.Layout.{under, term_size, term_nodes, term_of_nodes}
use Rattle.lt_terms.proofs.LayoutLemmas.{length-term_nodes}
use Rattle.lt_forms.proofs.PartLemmas.{IsApplied, IsAbstracted, applied-root, abstracted-root, free-root, bound-root, constant-root, applied-size, as-part, part-is, function-nodes, argument-nodes}
use Rattle.lt_forms.proofs.part.made_of.Goals as goal

pub overflow_sub-function : goal.overflow_sub-function
overflow_sub-function c = omega (arith, (applied-root _ _ _ _ _ c.in-App.is c.requires).at)

pub overflow_add-function : goal.overflow_add-function
overflow_add-function c =
    let p = applied-root _ _ _ _ _ c.in-App.is c.requires in
    omega (arith, p.at, applied-size _ _ _ _ p, c.requires.bounded, length-append c.args.below.now (c.args.root.now ∷ []))

pub split_at-requires : goal.split_at-requires
split_at-requires c =
    let p = applied-root _ _ _ _ _ c.in-App.is c.requires in
    omega (arith, p.at, applied-size _ _ _ _ p)

pub part_from-requires : goal.part_from-requires
part_from-requires c =
    let p = applied-root _ _ _ _ _ c.in-App.is c.requires in
    as-part _ _ p.function (function-nodes _ _ _ _ p.function p.argument p.laid (omega (arith, p.at)) c.split_at.ensures.front)
    (omega (arith, c.split_at.ensures.front_len, c.split_at.ensures.back_len, c.requires.bounded, length-append c.args.below.now (c.args.root.now ∷ [])))

pub part_from-requires-in-App : goal.part_from-requires-in-App
part_from-requires-in-App c =
    let p = applied-root _ _ _ _ _ c.in-App.is c.requires in
    as-part _ _ p.argument (argument-nodes c.args.from _ _ _ _ p.function p.argument p.laid (omega (arith, p.at)) (omega (arith, p.at, c.split_at.ensures.front_len)) c.split_at.ensures.back)
    (omega (arith, c.split_at.ensures.front_len, c.split_at.ensures.back_len, c.requires.bounded, length-append c.args.below.now (c.args.root.now ∷ [])))

pub part_from-requires-in-Lam : goal.part_from-requires-in-Lam
part_from-requires-in-Lam c =
    let p = abstracted-root _ _ _ _ _ _ c.in-Lam.is c.requires in
    as-part _ _ p.body p.laid (omega (arith, c.requires.bounded, length-append c.args.below.now (c.args.root.now ∷ [])))

pub returns-in-Free-clause-made : goal.returns-in-Free-clause-made
returns-in-Free-clause-made c = free-root _ _ _ _ _ c.in-Free.is c.requires

pub returns-in-Bound-clause-made : goal.returns-in-Bound-clause-made
returns-in-Bound-clause-made c = bound-root _ _ _ _ c.in-Bound.is c.requires

pub returns-in-Const-clause-made : goal.returns-in-Const-clause-made
returns-in-Const-clause-made c = constant-root _ _ _ _ _ c.in-Const.is c.requires

pub returns-in-App-clause-made : goal.returns-in-App-clause-made
returns-in-App-clause-made c =
    let p = applied-root _ _ _ _ _ c.in-App.is c.requires in
    let f = c.part_from.ensures ∙ part-is c.args.from _ p.function (function-nodes c.args.from _ _ _ p.function p.argument p.laid (omega (arith, p.at)) c.split_at.ensures.front) in
    let a = c.part_from-in-App.ensures ∙ part-is (c.args.from + length c.split_at.result.0.now) _ p.argument (argument-nodes c.args.from _ _ _ _ p.function p.argument p.laid (omega (arith, p.at)) (omega (arith, p.at, c.split_at.ensures.front_len)) c.split_at.ensures.back) in
    (λ i. application (f i) (a i)) ∙ sym p.is

pub returns-in-App-clause-smaller : goal.returns-in-App-clause-smaller
returns-in-App-clause-smaller c =
    let p = applied-root _ _ _ _ _ c.in-App.is c.requires in
    let f = c.part_from.ensures ∙ part-is c.args.from _ p.function (function-nodes c.args.from _ _ _ p.function p.argument p.laid (omega (arith, p.at)) c.split_at.ensures.front) in
    let a = c.part_from-in-App.ensures ∙ part-is (c.args.from + length c.split_at.result.0.now) _ p.argument (argument-nodes c.args.from _ _ _ _ p.function p.argument p.laid (omega (arith, p.at)) (omega (arith, p.at, c.split_at.ensures.front_len)) c.split_at.ensures.back) in
    (omega (arith, ap term_size f, applied-size _ _ _ _ p), omega (arith, ap term_size a, applied-size _ _ _ _ p))

pub returns-in-Lam-clause-made : goal.returns-in-Lam-clause-made
returns-in-Lam-clause-made c =
    let p = abstracted-root _ _ _ _ _ _ c.in-Lam.is c.requires in
    ap (abstraction c.in-Lam.name c.in-Lam.ty) (c.part_from-in-Lam.ensures ∙ part-is c.args.from _ p.body p.laid) ∙ sym p.is

pub returns-in-Lam-clause-smaller : goal.returns-in-Lam-clause-smaller
returns-in-Lam-clause-smaller c =
    let p = abstracted-root _ _ _ _ _ _ c.in-Lam.is c.requires in
    omega (arith, ap term_size (c.part_from-in-Lam.ensures ∙ part-is c.args.from _ p.body p.laid), ap length p.laid, length-term_nodes c.args.from p.body)
