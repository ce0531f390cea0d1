use Rattle.lt_nameless.proofs.ClosedSteps.{term-whole}
use Rattle.lt_tables.specs.declared.rows.Row.TheVariants.{Assume, Refl, Beta, Select, ImpI, AllE}
use Rattle.lt_tables.specs.Rules.{form_with}
use Rattle.lt_derived.proofs.TabledLemmas.{row-sound}
use Rattle.lt_derived.proofs.tabled.row_line.Goals as goal

pub put_text-requires : goal.put_text-requires
put_text-requires g c =
    let sig = c.args.proof.now.signature in
    term-whole sig (form_with c.args.types.now c.in-Assume.p.now) (row-sound sig c.args.types.now c.args.row (Assume c.in-Assume.p) c.in-Assume.is c.requires)

pub put_text-requires-in-Refl : goal.put_text-requires-in-Refl
put_text-requires-in-Refl g c =
    let sig = c.args.proof.now.signature in
    term-whole sig (form_with c.args.types.now c.in-Refl.t.now) (row-sound sig c.args.types.now c.args.row (Refl c.in-Refl.t) c.in-Refl.is c.requires)

pub put_text-requires-in-Beta : goal.put_text-requires-in-Beta
put_text-requires-in-Beta g c =
    let sig = c.args.proof.now.signature in
    term-whole sig (form_with c.args.types.now c.in-Beta.t.now) (row-sound sig c.args.types.now c.args.row (Beta c.in-Beta.t) c.in-Beta.is c.requires)

pub put_text-requires-in-Select : goal.put_text-requires-in-Select
put_text-requires-in-Select g c =
    let sig = c.args.proof.now.signature in
    term-whole sig (form_with c.args.types.now c.in-Select.p.now) (row-sound sig c.args.types.now c.args.row (Select c.in-Select.p) c.in-Select.is c.requires)

pub put_text-requires-in-ImpI : goal.put_text-requires-in-ImpI
put_text-requires-in-ImpI g c =
    let sig = c.args.proof.now.signature in
    term-whole sig (form_with c.args.types.now c.in-ImpI.p.now) (row-sound sig c.args.types.now c.args.row (ImpI c.in-ImpI.p c.in-ImpI.i) c.in-ImpI.is c.requires)

pub put_text-requires-in-AllE : goal.put_text-requires-in-AllE
put_text-requires-in-AllE g c =
    let sig = c.args.proof.now.signature in
    term-whole sig (form_with c.args.types.now c.in-AllE.t.now) (row-sound sig c.args.types.now c.args.row (AllE c.in-AllE.t c.in-AllE.i) c.in-AllE.is c.requires)
