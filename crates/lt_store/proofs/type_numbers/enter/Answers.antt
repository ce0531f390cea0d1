use Rattle.std.proofs.Common.{◌∙◌, ap, subst, reverse, ◌∷◌, []}
use Rattle.std.proofs.lemmas.List.{reverse-append}
use Rattle.lt_store.specs.TypeNumbers.{Has}
use Rattle.lt_store.proofs.TypeNumberLemmas.{extends-within, has-on, has-fun, unless-right}
use Rattle.lt_store.proofs.type_numbers.enter.Goals as goal

pub fun-requires-clause-to : goal.fun-requires-clause-to
fun-requires-clause-to c = extends-within _ _ _ c.checked.ensures.kept c.requires

pub returns-in_ok-push-in-Ok-clause-ok : goal.returns-in_ok-push-in-Ok-clause-ok
returns-in_ok-push-in-Ok-clause-ok c =
    let ok = c.in-Ok.ensures.is in
    let has : Has c.checked.new.types c.in-Ok.number c.args.ty.now = subst (Has c.checked.new.types c.in-Ok.number) (unless-right _ _ _ ok.2).1 ok.1 in
    record {
      number = c.in-Ok.number;
      pushed = ap reverse c.in_ok-push-in-Ok.ensures.items ∙ reverse-append c.args.binders.now.items (c.in-Ok.number ∷ []);
      is = has-on _ _ _ _ c.fun.ensures.grows has;
      inside = λ t h. has-fun c.checked.new.types c.fun.new.self c.in-Ok.number c.args.context c.in_ok-inner-in-Ok.inner c.args.ty.now t c.in_ok-inner-in-Ok.ensures.ok has (has-on _ _ _ _ c.checked.ensures.kept h);
    }
