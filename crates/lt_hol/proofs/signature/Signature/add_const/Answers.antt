use Rattle.std.proofs.Common.{◌≡◌, ◌∷◌, ◌++◌, [], ◌∙◌, ap, sym, subst, is_some, false, Result}
use Rattle.lt_definitions.specs.Types.{found}
use Rattle.lt_definitions.specs.Typing.{Signature, type_fault}
use Rattle.lt_hol.specs.Faults.{Checks}
use Rattle.lt_hol.specs.declared.type_fault.TypeFault.{TypeFault}
use Rattle.lt_types.proofs.NameTables.{inserted-new, none-found, copied-some}
use Rattle.lt_hol.proofs.signature.Signature.add_const.Goals as goal

pub returns : goal.returns
returns c =
    let absent : is_some (found c.args.name c.args.self.now.consts) ≡ false = ap is_some (sym c.const_type.ensures) ∙ copied-some c.const_type.result ∙ sym c.is_some.ensures ∙ c.if-is_some.false in
    let within : is_some (found c.args.name c.self.inside.consts.entries) ≡ false = ap (λ (s : Signature). is_some (found c.args.name s.consts)) c.self.view_is ∙ absent in (
      none-found (found c.args.name c.args.self.now.consts) absent,
      subst (λ (r : Result (Unit {0}) TypeFault). Checks (type_fault c.args.self.now c.args.ty) r) c.in_default.is c.check_type.ensures,
      λ i. record {
        types = ap (λ (s : Signature). s.types) c.self.view_is i;
        consts = (c.in_ok-insert.ensures.entries ∙ inserted-new c.args.name c.args.ty c.self.inside.consts.entries within ∙ ap (λ (s : Signature). s.consts ++ (c.args.name, c.args.ty) ∷ []) c.self.view_is) i;
      },
    )
