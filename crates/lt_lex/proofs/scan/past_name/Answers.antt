use Rattle.std.proofs.Common.{ℕ, List, ap, sym, ◌∙◌, get_or, arith}
use Rattle.unicode_ident.specs.Ident.{is_xid_continue}
use Rattle.lt_lex.proofs.Steps.{run_on, run_off, run_out}
use Rattle.lt_lex.proofs.Tables.{goes_on_told}
use Rattle.lt_lex.proofs.scan.past_name.Goals as goal

pub name-preserved : goal.name-preserved
name-preserved c =
    run_on is_xid_continue _ _ _ _ c.utf8.text c.name.invariant (omega (arith, c.name-test.true, c.as_bytes-bytes.ensures.len)) (ap (λ (bs : List ℕ). get_or bs c.name.at 0) (sym c.as_bytes-bytes.ensures.value)) c.if-byte-ge128.false (sym (goes_on_told _ c.if-byte-ge128.false) ∙ c.if-not-byte.false)

pub returns-then-not-byte : goal.returns-then-not-byte
returns-then-not-byte c =
    run_off is_xid_continue _ _ _ _ c.utf8.text c.name.invariant (omega (arith, c.name-test.true, c.as_bytes-bytes.ensures.len)) (ap (λ (bs : List ℕ). get_or bs c.name.at 0) (sym c.as_bytes-bytes.ensures.value)) c.if-byte-ge128.false (sym (goes_on_told _ c.if-byte-ge128.false) ∙ c.if-not-byte.true)

pub returns : goal.returns
returns c = run_out is_xid_continue _ _ _ c.name.invariant (omega (arith, c.name-test.false, c.as_bytes-bytes.ensures.len))
