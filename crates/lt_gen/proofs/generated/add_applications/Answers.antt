use Rattle.std.proofs.Common.{◌++◌, ◌∙◌, ap, codes}
use Rattle.std.proofs.lemmas.Result.{on_ok_weaker}
use Rattle.lt_gen.specs.Repeats.{repeated}
use Rattle.lt_gen.proofs.Pieces.{applications_are}
use Rattle.lt_gen.proofs.generated.add_applications.Goals as goal

pub returns : goal.returns
returns c =
    on_ok_weaker c.add_repeated-2.result
    (λ last. last
    ∙ ap (λ z. z ++ repeated c.args.k (codes ")")) (c.in_ok-signs.ensures ∙ ap (λ z. z ++ codes "z") c.in_ok-add_repeated.ensures)
    ∙ applications_are c.args.k c.args.text.now) c.add_repeated-2.ensures
