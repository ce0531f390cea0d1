use Rattle.std.proofs.Common.{refl}
use Rattle.std.specs.Prelude.{List, [], ◌∷◌, ◌++◌, map, codes}
use Rattle.std.specs.Fmt.{digits}
use Rattle.lt_definitions.specs.Samples.{tyvar}
use Rattle.lt_definitions.specs.Types.{TypeTree}
use Rattle.lt_definitions.specs.Terms.{constant}
use Rattle.lt_transport_definitions.specs.Sessions.{new_session}
use Rattle.lt_transport_definitions.specs.Quotients.{registered_quotient}
use Rattle.lt_texts.specs.Commands.{Command, lifting_command, lifting_typedef_command, lift_command, corr_command, property_command, domain_command, parametric_command, law_command}
use Rattle.lt_transport_definitions.specs.Samples.{LeadTo, IsReached, behind_items, behind_laws, over_typedef_t, typedef_items}
use Rattle.lt_transport_definitions.specs.RefusalSamples.{box, box_theory, box_entry, over_boxes, lawless_boxes, over_correspondence, over_few_laws, over_quotient_of_box, over_quotient_of_arr, over_form, over_quotient_of_t}
use Rattle.lt_transport_definitions.specs.OtherSamples.{relcompp_type, other_relcompp_type, form_laws, relcompp_items, over_relcompp}
use Rattle.lt_transport_definitions.proofs.Reached.{new-reached, behind-reached, on, on-items, over-reached}
use Rattle.lt_transport_definitions.proofs.sample_examples.quotient_sessions_are_reached.Goals as goal

pub returns-clause-boxes : goal.returns-clause-boxes
unfolding digits
returns-clause-boxes c = over-reached box_theory refl

pub returns-clause-lawless : goal.returns-clause-lawless
unfolding digits
returns-clause-lawless c = on-items behind_laws box_theory behind-reached refl

pub returns-clause-correspondence : goal.returns-clause-correspondence
unfolding digits
returns-clause-correspondence c = on over_boxes over_correspondence
    (corr_command (codes "T") ∷ property_command (codes "T_right") ∷ domain_command (codes "T_domain") ∷ [])
    (returns-clause-boxes c) (_, refl, (_, refl, (_, refl, refl)))

pub returns-clause-few_laws : goal.returns-clause-few_laws
unfolding digits
returns-clause-few_laws c = on lawless_boxes over_few_laws
    (law_command (codes "quotient_right_total") (codes "quotient_right_total")
    ∷ law_command (codes "quotient_right_unique") (codes "quotient_right_unique")
    ∷ law_command (codes "quotient_rel") (codes "quotient_rel") ∷ law_command (codes "quotient_domain") (codes "quotient_domain")
    ∷ law_command (codes "id_quotient") (codes "id_quotient") ∷ law_command (codes "fun_quotient") (codes "fun_quotient")
    ∷ law_command (codes "quotient_compose") (codes "quotient_compose") ∷ law_command (codes "quotient_lift") (codes "quotient_lift")
    ∷ lifting_command (codes "Q_box")
    ∷ lift_command (codes "lifted") (box (tyvar "a")) (constant (codes "none") (tyvar "a" ∷ [])) (codes "none_resp") ∷ [])
    (returns-clause-lawless c) (
      _,
      refl,
      (
        _,
        refl,
        (
          _,
          refl,
          (
            _,
            refl,
            (
              _,
              refl,
              (
                _,
                refl,
                (
                  _,
                  refl,
                  (
                    _,
                    refl,
                    (
                      _,
                      refl,
                      (_, (registered_quotient box_entry (tyvar "a" ∷ []), refl, refl), refl),
                    ),
                  ),
                ),
              ),
            ),
          ),
        ),
      ),
    )

pub returns-clause-lifted : goal.returns-clause-lifted
unfolding digits
returns-clause-lifted c = on over_correspondence over_quotient_of_box
    (lifting_command (codes "Q_box")
    ∷ lift_command (codes "lifted") (box (tyvar "a")) (constant (codes "none") (tyvar "a" ∷ [])) (codes "none_resp") ∷ [])
    (returns-clause-correspondence c)
    (_, refl, (_, (registered_quotient box_entry (tyvar "a" ∷ []), refl, refl), refl))

pub returns-clause-arrays : goal.returns-clause-arrays
unfolding digits
returns-clause-arrays c = on over_boxes over_quotient_of_arr (lifting_command (codes "Q_arr") ∷ []) (returns-clause-boxes c) (_, refl, refl)

pub returns-clause-form : goal.returns-clause-form
unfolding digits
returns-clause-form c = on over_quotient_of_arr over_form (parametric_command (codes "arr") ∷ []) (returns-clause-arrays c) (_, refl, refl)

pub returns-clause-typedef : goal.returns-clause-typedef
unfolding digits
returns-clause-typedef c = on over_typedef_t over_quotient_of_t (lifting_typedef_command (codes "t") ∷ [])
    (over-reached typedef_items refl) (_, refl, refl)

-- the laws of lifting and of parametric, and lifting
commands : List Command
commands = map (λ w. law_command w w) form_laws ++ lifting_command (codes "Q_arr") ∷ []

reached : (ty : TypeTree) → IsReached (behind_items (new_session 100) (relcompp_items ty))
    → LeadTo (behind_items (new_session 100) (relcompp_items ty)) commands (over_relcompp ty) → IsReached (over_relcompp ty)
reached ty h k = on (behind_items (new_session 100) (relcompp_items ty)) (over_relcompp ty) commands h k

pub returns-clause-relcompp : goal.returns-clause-relcompp
unfolding digits commands
returns-clause-relcompp c = reached relcompp_type (on-items (new_session 100) (relcompp_items relcompp_type) new-reached refl)
    (_, refl, (_, refl, (_, refl, (_, refl, (_, refl, (_, refl, (_, refl, refl)))))))

pub returns-clause-other_relcompp : goal.returns-clause-other_relcompp
unfolding digits commands
returns-clause-other_relcompp c = reached other_relcompp_type (on-items (new_session 100) (relcompp_items other_relcompp_type) new-reached refl)
    (_, refl, (_, refl, (_, refl, (_, refl, (_, refl, (_, refl, (_, refl, refl)))))))
