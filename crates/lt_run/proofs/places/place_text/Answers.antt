use Rattle.std.specs.Prelude.{string_bytes}
use Rattle.lt_run.proofs.Lines.{place_printed}
use Rattle.lt_run.proofs.places.place_text.Goals as goal

pub returns : goal.returns
returns c = λ held are joined p is.
    let f = c.find_place-front.ensures.found held are joined p is in
    place_printed string_bytes c.position_text.result c.args.names.now c.find_place-front.result.file c.name_of.result.now c.bytes_of.result.now _ c.position_behind-position.result p c.position_text.ensures
    c.name_of.ensures f.0 c.bytes_of.ensures f.1 c.position_behind-position.ensures.line c.position_behind-position.ensures.column
