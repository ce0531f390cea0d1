-- Where the search for a word among those that were met ends.
use Rattle.std.specs.Prelude.{◌≡◌, ℕ, List, chars}
use Rattle.lt_script.specs.declared.known_words.Found.{Found}
use Rattle.lt_script.specs.declared.known_words.Found.TheVariants.{Known, Free}

-- The name has the text's characters; or there is none.
abbrev pub IsFound : List ℕ → Found → Type 0
IsFound text (Known n) = n.now ≡ chars text
IsFound text (Free slot) = Unit {0}
