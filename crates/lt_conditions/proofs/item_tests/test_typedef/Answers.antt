use Rattle.lt_conditions.specs.Refusing.{context_at}
use Rattle.lt_conditions.proofs.TypedefTests.{typedef-untyped, typedef-unnamed, typedef-names, typedef-labels, typedef-tested}
use Rattle.lt_conditions.proofs.item_tests.test_typedef.Goals as goal

pub returns-in-Err : goal.returns-in-Err
returns-in-Err c =
    typedef-untyped (context_at c.args.sig.now c.args.statements.now.entries) c.args.name.now c.args.params.now c.args.predicate.now c.args.by.now c.args.abs.now c.args.rep.now c.in-Err.fault c.in-Err.ensures

pub returns-in-Err-named : goal.returns-in-Err-named
returns-in-Err-named c =
    typedef-unnamed (context_at c.args.sig.now c.args.statements.now.entries) c.args.name.now c.args.params.now c.args.predicate.now c.args.by.now c.args.abs.now c.args.rep.now c.in-Ok.found
    c.in-Err-named.fault c.in-Ok.ensures c.in-Err-named.ensures

pub returns-in-Err-check_typedef_names : goal.returns-in-Err-check_typedef_names
returns-in-Err-check_typedef_names c =
    typedef-names (context_at c.args.sig.now c.args.statements.now.entries) c.args.name.now c.args.params.now c.args.predicate.now c.args.by.now c.args.abs.now c.args.rep.now c.in-Ok.found
    c.in-Ok-named.inhabited.now c.in-Err-check_typedef_names.fault c.in-Ok.ensures c.in-Ok-named.ensures c.in-Err-check_typedef_names.ensures

pub returns-in-Err-check_typedef_labels : goal.returns-in-Err-check_typedef_labels
returns-in-Err-check_typedef_labels c =
    typedef-labels (context_at c.args.sig.now c.args.statements.now.entries) c.args.name.now c.args.params.now c.args.predicate.now c.args.by.now c.args.abs.now c.args.rep.now c.in-Ok.found
    c.in-Ok-named.inhabited.now c.in-Err-check_typedef_labels.fault c.in-Ok.ensures c.in-Ok-named.ensures c.in-Ok-check_typedef_names.ensures c.in-Err-check_typedef_labels.ensures

pub returns : goal.returns
returns c =
    typedef-tested (context_at c.args.sig.now c.args.statements.now.entries) c.args.name.now c.args.params.now c.args.predicate.now c.args.by.now c.args.abs.now c.args.rep.now c.in-Ok.found
    c.in-Ok-named.inhabited.now c.check_predicate.result c.in-Ok.ensures c.in-Ok-named.ensures c.in-Ok-check_typedef_names.ensures c.in-Ok-check_typedef_labels.ensures c.check_predicate.ensures
