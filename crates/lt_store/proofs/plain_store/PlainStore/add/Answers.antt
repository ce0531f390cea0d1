use Rattle.std.proofs.Common.{◌≡◌, ◌++◌, ◌∷◌, [], length, rules}
use Rattle.lt_store.proofs.TreeLemmas.{makes_push}
use Rattle.lt_store.proofs.plain_store.PlainStore.add.Goals as goal

pub returns-clause-ok : goal.returns-clause-ok
returns-clause-ok c =
    let items : c.push.new.self.items ≡ c.args.self.now ++ c.args.node ∷ [] = search rules in
    let id : c.len-id.result ≡ length c.args.self.now = search rules in
    makes_push _ _ _ _ items id c.requires

pub returns-clause-anew : goal.returns-clause-anew
returns-clause-anew c =
    let items : c.push.new.self.items ≡ c.args.self.now ++ c.args.node ∷ [] = search rules in
    let id : c.len-id.result ≡ length c.args.self.now = search rules in
    record { nodes = items; place = id }
