use Rattle.std.proofs.Common.{◌∙◌, ap, sym, take, ℕ}
use Rattle.std.proofs.Math.Seq.{take-length}
use Rattle.std.proofs.lemmas.Str.{utf8_valid_len-IsUtf8}
use Rattle.lt_lex.proofs.scan.valid_front.Goals as goal

pub returns-in-Ok : goal.returns-in-Ok
returns-in-Ok c =
    let told = c.in-Ok.ensures.cases in
    told.0 ∙ sym (take-length c.args.source.now) ∙ ap (λ (n : ℕ). take n c.args.source.now) (sym (utf8_valid_len-IsUtf8 c.args.source.now told.1))
