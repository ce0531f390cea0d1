use Rattle.std.proofs.Common.{◌≡◌, ◌∙◌, [], ◌∷◌, Some, length, arith, sym, ap, subst, eq-eqb}
use Rattle.std.proofs.lemmas.List.{length-map}
use Rattle.lt_definitions.specs.Types.{TypeTree, type_variables}
use Rattle.lt_hol.specs.TypeTables.{type_at, types_at, ExtendsBy}
use Rattle.lt_hol.proofs.RecentTypes.{at-none}
use Rattle.lt_hol.proofs.type_table.TypeTable.instance.Goals as goal

pub returns-then-is_empty-clause-ok : goal.returns-then-is_empty-clause-ok
returns-then-is_empty-clause-ok c =
    let empty : length c.in_ok-variables.variables.keys ≡ 0 = c.is_empty.ensures.0 c.if-is_empty.true in
    let none : length (type_variables c.args.declared.now) ≡ 0 = ap length (sym c.in_ok-variables.ensures) ∙ empty in (
      eq-eqb (length (types_at c.args.self.now c.args.args.now)) (length (type_variables c.args.declared.now))
          (omega (arith, none, empty, c.if-len-args.false, c.len.ensures.len, length-map c.args.args.now (type_at c.args.self.now))),
      c.in_ok-intern.ensures.ok ∙ ap Some (sym (at-none c.args.declared.now (types_at c.args.self.now c.args.args.now) none)),
    )

pub returns-then-is_empty-clause-added : goal.returns-then-is_empty-clause-added
returns-then-is_empty-clause-added c =
    let none : length (type_variables c.args.declared.now) ≡ 0 = ap length (sym c.in_ok-variables.ensures) ∙ c.is_empty.ensures.0 c.if-is_empty.true in
    subst (λ (t : TypeTree). ExtendsBy (t ∷ []) c.args.self.now c.intern.new.self) (sym (at-none c.args.declared.now (types_at c.args.self.now c.args.args.now) none)) c.in_ok-intern.ensures.added
