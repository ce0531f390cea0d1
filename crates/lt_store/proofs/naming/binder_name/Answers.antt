use Rattle.std.proofs.Common.{◌≡◌, ◌∙◌, ap, subst, List, ℕ, IfOk}
use Rattle.std.specs.Str.{chars}
use Rattle.lt_definitions.specs.Characters.{is_name}
use Rattle.lt_store.proofs.BinderNames.{binder-word, binder-chars}
use Rattle.lt_store.proofs.naming.binder_name.Goals as goal

pub word-requires : goal.word-requires
word-requires c = ap (λ (bs : List ℕ). is_name (chars bs)) (c.as_str.ensures.value ∙ c.in_ok-text.ensures.ok) ∙ binder-word c.args.depth c.ranges.depth.fits

pub returns : goal.returns
returns c =
    subst (λ (name : List ℕ). IfOk c.word.result (λ n. n ≡ name)) (ap chars (c.as_str.ensures.value ∙ c.in_ok-text.ensures.ok) ∙ binder-chars c.args.depth c.ranges.depth.fits) c.word.ensures
