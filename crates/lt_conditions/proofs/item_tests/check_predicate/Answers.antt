use Rattle.std.proofs.Common.{◌∙◌, [], ap, refl}
use Rattle.lt_definitions.specs.Types.{names_joined}
use Rattle.lt_conditions.proofs.TypedefTests.{predicate-open, predicate-loose, predicate-shaped}
use Rattle.lt_conditions.proofs.item_tests.check_predicate.Goals as goal

pub returns-in-Err : goal.returns-in-Err
returns-in-Err c = predicate-open c.args.params.now c.args.predicate.now c.args.found c.args.inhabited.now c.in-Err.fault c.in-Err.ensures

pub returns-in-Err-check_variables : goal.returns-in-Err-check_variables
returns-in-Err-check_variables c =
    predicate-loose c.args.params.now c.in_ok-allowed.allowed.keys c.args.predicate.now c.args.found c.args.inhabited.now c.in-Err-check_variables.fault
    (c.in_ok-allowed.ensures ∙ ap (names_joined []) c.as_slice.ensures) c.in-Ok.ensures c.in-Err-check_variables.ensures

pub returns : goal.returns
returns c =
    predicate-shaped c.args.params.now c.in_ok-allowed.allowed.keys c.args.predicate.now c.args.found c.args.inhabited.now _ c.len.result c.len-2.result c.check_shape.result
    (c.in_ok-allowed.ensures ∙ ap (names_joined []) c.as_slice.ensures) c.len.ensures.len c.len-2.ensures refl c.in-Ok.ensures c.in-Ok-check_variables.ensures c.check_shape.ensures
