use Rattle.std.proofs.Common.{◌≡◌, ◌-◌, length, arith, ap, Err}
use Rattle.std.proofs.lemmas.Grind.{common_steps}
use Rattle.lt_io.specs.declared.library.ReadFault.TheVariants.{TooLong}
use Rattle.lt_run.proofs.Joins.{passes_by}
use Rattle.lt_run.proofs.files.join_file.Goals as goal

pub returns-in-Err-clause-too_long : goal.returns-in-Err-clause-too_long
returns-in-Err-clause-too_long g c = λ long.
    let room : c.args.most - c.len.result ≡ c.args.most - length c.args.joined.text.items = grind (arith, common_steps) in
    let same : c.in-Err.fault ≡ TooLong = cc long in
    passes_by c.args.most _ c.args.name.now c.args.joined _ room c.requires (c.in-Err.ensures.too_long (ap Err same))
