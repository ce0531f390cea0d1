-- What comes of a call, by the mode that its words ask for.
use Rattle.std.specs.Prelude.{◌≡◌, ◌≢◌, ℕ, List, [], Option, encode_utf8_all}
use Rattle.lt_definitions.specs.Items.{Item}
use Rattle.lt_definitions.specs.Theory.{Refusal}
use Rattle.lt_io.specs.Files.{Files}
use Rattle.lt_io.specs.Written.{Grew, GrewByFront}
use Rattle.lt_walks.specs.Walks.{End, accepted}
use Rattle.lt_walks.specs.Calls.{CheckEnds, CheckStops}
use Rattle.lt_words.specs.declared.mode.Mode.{Mode}
use Rattle.lt_words.specs.declared.mode.Mode.TheVariants.{Run, Check, Laws, Gen}
use Rattle.lt_words.specs.Calls.{Call}
use Rattle.lt_transport_definitions.specs.LawTexts.{laws_text}
use Rattle.lt_transport_definitions.specs.GeneratedTexts.{generated_text}
use Rattle.lt_session.specs.Walks.{RunRefusal}
use Rattle.lt_run.specs.Runs.{RunEnds, RunStops}

-- One of these, by what a mode does: it runs files, it checks them, or it writes a text.
abbrev pub OfMode : Mode → (run check : Type 0) → (text : List ℕ → Type 0) → Type 0
OfMode Run run check text = run
OfMode Check run check text = check
OfMode Laws run check text = text (encode_utf8_all laws_text)
OfMode (Gen n) run check text = text (encode_utf8_all (generated_text n))

-- A text is written whole, without items, and nothing on the second sink.
abbrev pub IsWritten : List ℕ → List Item → (out out' err err' : Option (List ℕ)) → Type 0
IsWritten text items out out' err err' = (items ≡ []) × Grew out out' text × Grew err err' []

-- A front of a text is written, without items.
abbrev pub IsBegun : List ℕ → List Item → (out out' : Option (List ℕ)) → Type 0
IsBegun text items out out' = (items ≡ []) × GrewByFront out out' text

-- All that the files have is accepted, with these items, and all is written; or the text that is
-- asked for is.
abbrev pub IsDone : Call → Option Files → List Item → (out out' err err' : Option (List ℕ)) → Type 0
IsDone c files items out out' err err' = OfMode c.mode
    (RunEnds files c.files c.limit c.summary items accepted out out' err err')
    (CheckEnds files c.files items accepted out out' err err')
    (λ text. IsWritten text items out out' err err')

-- The walk through the files accepts these items and ends at a refusal, which is told.
abbrev pub IsRefused : Call → Option Files → List Item → (out out' err err' : Option (List ℕ)) → Type 0
IsRefused c files items out out' err err' = OfMode c.mode
    ((end : End RunRefusal) × (end ≢ accepted)
    × RunEnds files c.files c.limit c.summary items end out out' err err')
    ((end : End Refusal) × (end ≢ accepted) × CheckEnds files c.files items end out out' err err')
    (λ text. ⊥)

-- What was accepted and written stands as far as it came.
abbrev pub IsBroken : Call → Option Files → List Item → (out out' : Option (List ℕ)) → Type 0
IsBroken c files items out out' = OfMode c.mode
    (RunStops files c.files c.limit c.summary items out out')
    (CheckStops files c.files items out out')
    (λ text. IsBegun text items out out')
