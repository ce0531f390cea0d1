use Rattle.std.proofs.Common.{◌≡◌, ◌∷◌, ◌++◌, [], ◌∙◌, ap, sym, is_some, false}
use Rattle.lt_definitions.specs.Types.{found}
use Rattle.lt_definitions.specs.Typing.{Signature}
use Rattle.lt_types.proofs.NameTables.{inserted-new, none-found}
use Rattle.lt_hol.proofs.signature.Signature.add_type.Goals as goal

pub returns : goal.returns
returns c =
    let absent : is_some (found c.args.name c.args.self.now.types) ≡ false = ap is_some (sym c.arity.ensures) ∙ sym c.is_some.ensures ∙ c.if-is_some.false in
    let within : is_some (found c.args.name c.self.inside.types.entries) ≡ false = ap (λ (s : Signature). is_some (found c.args.name s.types)) c.self.view_is ∙ absent in (
      none-found (found c.args.name c.args.self.now.types) absent,
      λ i. record {
        types = (c.in_ok-insert.ensures.entries ∙ inserted-new c.args.name c.args.arity c.self.inside.types.entries within ∙ ap (λ (s : Signature). s.types ++ (c.args.name, c.args.arity) ∷ []) c.self.view_is) i;
        consts = ap (λ (s : Signature). s.consts) c.self.view_is i;
      },
    )
