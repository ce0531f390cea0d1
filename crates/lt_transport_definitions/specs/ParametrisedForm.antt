-- The form of parametrised correspondences: what a call that registers one asks. The command makes
-- a constant that has the form.
-- Source: parametrised correspondences as in Kunčar's thesis; the form is this project's own.
use Rattle.std.specs.Prelude.{ℕ, List, Bool, ◌||◌, map, Result, Ok, codes, length, is_some}
use Rattle.std.specs.List.{zip, range_with_len}
use Rattle.lt_definitions.specs.Types.{Chars, TypeTree, type_instance}
use Rattle.lt_definitions.specs.Typing.{Signature}
use Rattle.lt_transport_definitions.specs.Notation.{◌~◌}
use Rattle.lt_transport_definitions.specs.Constants.{is_declared_as}
use Rattle.lt_transport_definitions.specs.Relations.{Correspondence, Parametrised, Registry, correspondence_of, form_for, kind_of, is_constructor}
use Rattle.lt_transport_definitions.specs.Answers.{needs_test, needs}
use Rattle.lt_transport_definitions.specs.RelatorForm.{type_number, functions_from, over_types}

-- l1~r1 -> .. -> ln~rn -> s -> q r1 .. rn -> bool, where s is the correspondence's raw type at l1
-- .. ln
abbrev pub parametrised_type : Correspondence → TypeTree
parametrised_type d =
    let ns : List ℕ = range_with_len 1 (length d.parameters) in
    let ls : List TypeTree = map (type_number "l") ns in
    let rs : List TypeTree = map (type_number "r") ns in
    functions_from (map (λ p. p.0 ~ p.1) (zip ls rs))
    (type_instance (zip d.parameters ls) d.raw ~ over_types d.con rs)

-- The form of a parametrised correspondence: it is of one that is registered, and its constant has
-- that type, up to type names.
abbrev pub parametrised_form : Signature → Registry → Parametrised → Result Parametrised Chars
parametrised_form sig G p =
    needs (correspondence_of G p.of) (codes "Corr") λ d.
    needs_test (is_declared_as sig p.name (parametrised_type d)) (codes "Corr") (Ok p)

-- whether the correspondence has a parametrised form, or the name is a relation constructor's
abbrev pub is_form_there : Registry → Parametrised → Bool
is_form_there G p = is_some (form_for G p.of) || is_constructor (kind_of G p.name)
