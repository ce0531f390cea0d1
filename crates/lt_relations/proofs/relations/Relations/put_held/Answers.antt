use Rattle.std.proofs.Common.{◌≡◌, ◌∙◌, ◌-◌, ◌++◌, ◌∷◌, [], ap, take, drop, length}
use Rattle.lt_relations.proofs.HoldingLemmas.{joined-told, dropped-told}
use Rattle.lt_relations.proofs.relations.Relations.put_held.Goals as goal

pub returns : goal.returns
returns c before ts e =
    let G = c.args.self.now in
    let made = c.args.made.items in
    let at : c.len.result - c.args.count ≡ length made - c.args.count = ap (λ n. n - c.args.count) (c.len.ensures ∙ c.args.made.ok.0) in
    let args : c.as_slice.result.now ≡ drop (length made - c.args.count) made = c.as_slice.ensures.value ∙ c.in_ok-args.ensures.tail ∙ ap (λ n. drop n made) at in
    let held = c.held_by-held.ensures ts (drop (length before - c.args.count) before) (args ∙ dropped-told G before c.args.count made e) in
    c.in_ok-with_holding.ensures
    ∙ ap (λ front. front ++ c.held_by-held.result ∷ []) (c.in_ok-args.ensures.items ∙ ap (λ n. take n made) at)
    ∙ joined-told G before c.args.name.now ts c.args.count made c.held_by-held.result e held
