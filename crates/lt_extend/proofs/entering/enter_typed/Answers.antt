use Rattle.std.proofs.Common.{◌∙◌, ap}
use Rattle.lt_definitions.specs.Types.{TypeTree, fun}
use Rattle.lt_extend.proofs.Entered.{signature-one, signature-two, rep-new, rep-sound, abs-new, abs-sound, typed-all, typed-behind}
use Rattle.lt_extend.proofs.entering.enter_typed.Goals as goal

pub enter_const-requires : goal.enter_const-requires
enter_const-requires g c =
    let s0 = c.args.proof.now in
    let s1 = c.enter_type.new.proof in
    let e1 = signature-one s0 s1 c.args.name.now c.len.result c.args.params.now c.in_ok-enter_type.ensures.ok c.len.ensures in
    let m = c.in_ok-rep_type.ensures ∙ ap (λ (t : TypeTree). fun t c.args.raw.now) c.in_ok-new.ensures in
    record {
      new = rep-new s0 s1 c.args.name.now c.args.abs.now c.args.rep.now c.args.params.now c.args.raw.now e1 c.requires;
      sound = rep-sound s0 s1 c.args.name.now c.args.abs.now c.args.rep.now c.args.params.now c.args.raw.now c.in_ok-rep_type.rep_type e1 m c.requires;
    }

pub enter_const-requires-2 : goal.enter_const-requires-2
enter_const-requires-2 g c =
    let s0 = c.args.proof.now in
    let s1 = c.enter_type.new.proof in
    let s2 = c.enter_const.new.proof in
    let e1 = signature-one s0 s1 c.args.name.now c.len.result c.args.params.now c.in_ok-enter_type.ensures.ok c.len.ensures in
    let m = c.in_ok-rep_type.ensures ∙ ap (λ (t : TypeTree). fun t c.args.raw.now) c.in_ok-new.ensures in
    let e2 = signature-two s0 s1 s2 c.args.name.now c.args.rep.now c.args.params.now c.args.raw.now c.in_ok-rep_type.rep_type e1 c.in_ok-enter_const.ensures.ok m in
    let k = c.in_ok-abs_type.ensures ∙ ap (λ (t : TypeTree). fun c.args.raw.now t) c.in_ok-new.ensures in
    record {
      new = abs-new s0 s2 c.args.name.now c.args.abs.now c.args.rep.now c.args.params.now c.args.raw.now e2 c.requires;
      sound = abs-sound s0 s2 c.args.name.now c.args.abs.now c.args.rep.now c.args.params.now c.args.raw.now c.in_ok-abs_type.abs_type e2 k c.requires;
    }

pub returns-clause-behind : goal.returns-clause-behind
returns-clause-behind g c =
    typed-behind c.args.proof.now c.enter_type.new.proof c.enter_const.new.proof c.enter_const-2.new.proof c.args.name.now c.args.abs.now c.args.rep.now c.len.result c.in_ok-rep_type.rep_type c.in_ok-abs_type.abs_type
    c.enter_const-2.result c.in_ok-enter_type.ensures.ok c.in_ok-enter_const.ensures.ok c.enter_const-2.ensures.ok c.enter_const-2.ensures.err

pub returns-clause-ok : goal.returns-clause-ok
returns-clause-ok g c =
    typed-all c.args.proof.now c.enter_type.new.proof c.enter_const.new.proof c.enter_const-2.new.proof c.args.name.now c.args.abs.now c.args.rep.now c.len.result c.args.params.now c.args.raw.now c.in_ok-new.new
    c.in_ok-rep_type.rep_type c.in_ok-abs_type.abs_type c.enter_const-2.result c.len.ensures c.in_ok-new.ensures c.in_ok-rep_type.ensures c.in_ok-abs_type.ensures c.in_ok-enter_type.ensures.ok
    c.in_ok-enter_const.ensures.ok c.enter_const-2.ensures.ok
