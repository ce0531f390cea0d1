-- What the law on reports says.
use Rattle.std.specs.Prelude.{List, encode_utf8_all}
use Rattle.lt_definitions.specs.Items.{Item}
use Rattle.lt_definitions.specs.Printing.{report}
use Rattle.lt_texts.specs.Named.{AreAlikeItems}
use Rattle.lt_walks.specs.Walks.{accepted}
use Rattle.lt_walks.specs.PlainWalks.{ChecksText}

-- The walk of `check` through what is printed of the items accepts all of it, however long it is, as
-- items that differ in binder names alone.
abbrev pub IsReadBack : List Item → Type 0
IsReadBack items = (others : List Item) × AreAlikeItems others items
    × ChecksText (encode_utf8_all (report items)) others accepted
