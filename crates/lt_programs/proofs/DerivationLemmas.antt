-- What the derivations give is computed over few declarations.
use Rattle.std.proofs.Common.{◌≡◌, List, [], ◌∷◌, Ok, codes, refl, ◌∙◌}
use Rattle.lt_definitions.specs.Types.{bool, fun}
use Rattle.lt_definitions.specs.Typing.{Signature}
use Rattle.lt_definitions.specs.Rules.{Rule}
use Rattle.lt_nameless.specs.Booleans.{IsSoundSignature}
use Rattle.lt_nameless.specs.Nameless.{Nameless}
use Rattle.lt_nameless.specs.NamelessRules.{IsBooleanNameless}
use Rattle.lt_programs.specs.Programs.{theorem, followed, AreGood}
use Rattle.lt_programs.specs.Connectives.{and_definition, ex_definition, any_type, conjunction_law, left_law, right_law, existence_law, choice_law}
use Rattle.lt_programs.specs.Derivations.{Derives, p_variable, q_variable, and_meaning, and_unfolded, and_introduced, and_projected, ex_meaning, ex_unfolded, ex_introduced, ex_chosen}
use Rattle.lt_programs.proofs.Covering.{Covers, good-covers, followed-covers}
use Rattle.lt_programs.proofs.Declared.{with_constant, covers-one, and-alike, ex-alike}

abbrev pub with-and : Signature
with-and = with_constant (codes "and") (fun bool (fun bool bool))

abbrev pub with-ex : Signature
with-ex = with_constant (codes "ex") (fun (fun any_type bool) bool)

over : (small sig : Signature) → Covers small sig → (p : Nameless) (rules : List (Rule Nameless)) (q : Nameless)
    → AreGood small rules → followed small (theorem p ∷ []) rules ≡ Ok (theorem q) → Derives sig p rules q
over small sig c p rules q g e = record {
  good = good-covers small sig c rules g;
  gives = followed-covers small sig c (theorem p ∷ []) rules g ∙ e;
}

module _ (sig : Signature) (s : IsSoundSignature sig) where
  module _ (b : IsBooleanNameless sig and_definition) where
    covers-and : Covers with-and sig
    covers-and = covers-one sig (codes "and") (fun bool (fun bool bool)) s (and-alike sig s b)

    pub unfolded-and : Derives sig and_definition and_unfolded and_meaning
    unfolded-and = over with-and sig covers-and and_definition and_unfolded and_meaning
        (refl, (refl, (refl, (refl, (refl, (refl, (refl, (refl, tt)))))))) refl

    pub introduced-and : Derives sig and_meaning and_introduced conjunction_law
    introduced-and = over with-and sig covers-and and_meaning and_introduced conjunction_law
        (refl, (refl, (refl, (refl, (refl, (refl, (refl, (refl, (refl, (refl, (refl, (refl, (refl, tt))))))))))))) refl

    pub left-and : Derives sig and_meaning (and_projected p_variable) left_law
    left-and = over with-and sig covers-and and_meaning (and_projected p_variable) left_law
        (refl, (refl, (refl, (refl, (refl, (refl, (refl, (refl, (refl, (refl, tt)))))))))) refl

    pub right-and : Derives sig and_meaning (and_projected q_variable) right_law
    right-and = over with-and sig covers-and and_meaning (and_projected q_variable) right_law
        (refl, (refl, (refl, (refl, (refl, (refl, (refl, (refl, (refl, (refl, tt)))))))))) refl

  module _ (b : IsBooleanNameless sig ex_definition) where
    covers-ex : Covers with-ex sig
    covers-ex = covers-one sig (codes "ex") (fun (fun any_type bool) bool) s (ex-alike sig s b)

    pub unfolded-ex : Derives sig ex_definition ex_unfolded ex_meaning
    unfolded-ex = over with-ex sig covers-ex ex_definition ex_unfolded ex_meaning (refl, (refl, (refl, (refl, tt)))) refl

    pub introduced-ex : Derives sig ex_meaning ex_introduced (existence_law any_type)
    introduced-ex = over with-ex sig covers-ex ex_meaning ex_introduced (existence_law any_type)
        (refl, (refl, (refl, (refl, (refl, (refl, (refl, (refl, (refl, (refl, (refl, tt))))))))))) refl

    pub chosen-ex : Derives sig ex_meaning ex_chosen (choice_law any_type)
    chosen-ex = over with-ex sig covers-ex ex_meaning ex_chosen (choice_law any_type)
        (refl, (refl, (refl, (refl, (refl, (refl, (refl, tt))))))) refl
