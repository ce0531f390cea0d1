use Rattle.std.proofs.Common.{◌≡◌, ◌+◌, true, sym, ◌∙◌, ap, arith}
use Rattle.lt_definitions.specs.Types.{has_name}
use Rattle.lt_conv.specs.Everywhere.{v_name}
use Rattle.lt_conv.proofs.NewNames.{taken-more, taken-few}
use Rattle.lt_conv.proofs.new_names.first_new.Goals as goal

pub overflow_add-number : goal.overflow_add-number
overflow_add-number c =
    let keys = c.args.names.now.keys in
    let has : has_name (v_name c.loop-name.number) keys ≡ true = ap (λ x. has_name x keys) (sym c.in_ok-name.ensures) ∙ sym c.contains.ensures ∙ c.if-not-contains.false in
    let few = taken-few (c.loop-name.number + 1) keys (omega (arith, c.loop-name.auto.number-fits)) (taken-more c.loop-name.number keys c.loop-name.invariant has) in
    omega (arith, few, c.len-end.ensures.len, c.len-end.ensures.small)

pub loop-name-smaller : goal.loop-name-smaller
loop-name-smaller c =
    let keys = c.args.names.now.keys in
    let has : has_name (v_name c.loop-name.number) keys ≡ true = ap (λ x. has_name x keys) (sym c.in_ok-name.ensures) ∙ sym c.contains.ensures ∙ c.if-not-contains.false in
    let few = taken-few (c.loop-name.number + 1) keys (omega (arith, c.loop-name.auto.number-fits)) (taken-more c.loop-name.number keys c.loop-name.invariant has) in
    omega (arith, few)

pub loop-name-preserved : goal.loop-name-preserved
loop-name-preserved c =
    let keys = c.args.names.now.keys in
    taken-more c.loop-name.number keys c.loop-name.invariant (ap (λ x. has_name x keys) (sym c.in_ok-name.ensures) ∙ sym c.contains.ensures ∙ c.if-not-contains.false)
