use Rattle.std.proofs.Common.{◌≡◌, ◌∙◌, refl}
use Rattle.std.specs.Cmp.Lexicographic.{slice_cmp}
use Rattle.std.specs.Ordering.{nat_cmp}
use Rattle.std.proofs.lemmas.Iterator.{YieldsList-from_chars}
use Rattle.std.proofs.lemmas.Iterator.Search.{cmp_from_yields_List}
use Rattle.lt_types.proofs.name.NameOrd.cmp.Goals as goal

pub returns : goal.returns
returns c =
    cmp_from_yields_List (λ x y. y ≡ x) _ nat_cmp _ c.cmp.ensures.ran (YieldsList-from_chars c.text.result.now c.text.utf8 cc) (λ it e. YieldsList-from_chars c.text-2.result.now c.text-2.utf8 cc) (λ x y. refl)
    ∙ (λ i. slice_cmp nat_cmp (c.text.ensures.same i) (c.text-2.ensures.same i))
