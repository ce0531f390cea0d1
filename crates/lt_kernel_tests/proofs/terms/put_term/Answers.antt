use Rattle.std.proofs.Common.{subst, sym}
use Rattle.lt_nameless.specs.Nameless.{IsWhole}
use Rattle.lt_kernel_tests.proofs.TestTerms.{term-whole, put-typed}
use Rattle.lt_kernel_tests.proofs.terms.put_term.Goals as goal

pub add_term-requires : goal.add_term-requires
add_term-requires g c = term-whole _ c.args.term.now _ c.in_ok-_ty.ensures

pub returns-clause-typed : goal.returns-clause-typed
returns-clause-typed g c =
    put-typed _ _ _ c.args.term.now _ _ c.signature.ensures c.in_ok-made.ensures.keeps.stays.signature c.in_ok-made.ensures.builds.is c.in_ok-_ty.ensures

pub returns-clause-whole : goal.returns-clause-whole
returns-clause-whole g c =
    subst (IsWhole 0) (sym c.in_ok-made.ensures.builds.is) (term-whole _ c.args.term.now _ c.in_ok-_ty.ensures)
