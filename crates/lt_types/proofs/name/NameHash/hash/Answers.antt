use Rattle.std.proofs.Common.{◌≡◌, ◌∙◌, [], ◌∷◌, ap, sym}
use Rattle.std.specs.Str.{encode_utf8_all}
use Rattle.std.proofs.lemmas.Str.{encodes-chars}
use Rattle.lt_types.proofs.name.NameHash.hash.Goals as goal

pub returns : goal.returns
returns g c =
    let same : c.text.result.now ≡ encode_utf8_all c.args.self.now = sym (encodes-chars _ c.text.utf8) ∙ ap encode_utf8_all c.text.ensures.same
    in c.hash.ensures ∙ ap (λ bs. g.H.Hasher.write (g.H.Hasher.write c.args.state.now bs) (255 ∷ [])) same
