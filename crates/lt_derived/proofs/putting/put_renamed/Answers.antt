use Rattle.std.proofs.Common.{map, max, ◌∙◌, sym, ap}
use Rattle.lt_definitions.specs.Types.{type_variable, row}
use Rattle.lt_definitions.specs.Typing.{types_fault}
use Rattle.lt_definitions.specs.Rules.{line_at}
use Rattle.lt_kernel.specs.State.{sequents}
use Rattle.lt_kernel.proofs.GrowingLemmas.{carries-grows}
use Rattle.lt_derived.proofs.Replaced.{variables-sound, as-many-variables, as-many-new, put-renamed}
use Rattle.lt_derived.proofs.putting.put_renamed.Goals as goal

pub put_each-requires-clause-count : goal.put_each-requires-clause-count
put_each-requires-clause-count g c =
    as-many-variables c.max-longest.result c.args.names.now c.as_slice.result.now c.as_slice-2.result.now (c.as_slice.ensures ∙ c.in_ok-new.ensures) (c.as_slice-2.ensures ∙ c.in_ok-vars.ensures)

pub put_each-requires-clause-sound : goal.put_each-requires-clause-sound
put_each-requires-clause-sound g c =
    ap (λ ts. types_fault c.args.proof.now.signature (row ts)) (c.as_slice-2.ensures ∙ c.in_ok-vars.ensures) ∙ variables-sound c.args.proof.now.signature c.as_slice.result.now

pub put_each-requires-2-clause-count : goal.put_each-requires-2-clause-count
put_each-requires-2-clause-count g c = as-many-new c.max-longest.result c.args.names.now c.as_slice-3.result.now c.args.types.now (c.as_slice-3.ensures ∙ c.in_ok-new.ensures) c.requires.count

pub put_each-requires-2-clause-sound : goal.put_each-requires-2-clause-sound
put_each-requires-2-clause-sound g c =
    let grows = carries-grows c.args.proof.now c.put_each.new.proof c.put_each.ensures.carries in
    ap (λ sig. types_fault sig (row c.args.types.now)) grows.stays.signature ∙ c.requires.sound

pub returns-clause-line : goal.returns-clause-line
returns-clause-line g c = λ p e short.
    put-renamed c.max-longest.result c.args.least c.args.names.now c.as_slice-3.result.now c.args.types.now c.as_slice-2.result.now p
    (line_at (sequents c.args.proof.now) c.args.i) (line_at (sequents c.put_each.new.proof) c.in_ok-renamed.renamed) (line_at (sequents c.put_each-2.new.proof) c.in_ok-line.line)
    c.requires.count (c.max-longest.ensures ∙ ap (λ k. max k c.args.least) c.longest.ensures) (c.as_slice-3.ensures ∙ c.in_ok-new.ensures)
    (c.as_slice-2.ensures ∙ c.in_ok-vars.ensures ∙ ap (map type_variable) (c.as_slice.ensures ∙ sym c.as_slice-3.ensures)) short e c.in_ok-renamed.ensures.line c.in_ok-line.ensures.line
