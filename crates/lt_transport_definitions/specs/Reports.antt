-- What is written of a run: a report of its items, or their summary, and the line on the first
-- thing that is refused.
-- Source: this project's own.
use Rattle.std.specs.Prelude.{ℕ, List, [], Bool, true, false, encode_utf8_all}
use Rattle.lt_definitions.specs.Types.{Chars}
use Rattle.lt_definitions.specs.Items.{Item}
use Rattle.lt_definitions.specs.Printing.{words, report}
use Rattle.lt_texts.specs.Files.{File}
use Rattle.lt_walks.specs.Walks.{End, too_long, wrong_header}
use Rattle.lt_walks.specs.RefusalTexts.{printed_refusal as printed_item_refusal}
use Rattle.lt_walks.specs.Outputs.{summary_of, end_line}
use Rattle.lt_transport_definitions.specs.Commands.{CommandRefusal, as_item, in_words}
use Rattle.lt_transport_definitions.specs.TheoryWalks.{theory_limit}

abbrev pub printed_refusal : CommandRefusal → Chars
printed_refusal (as_item r) = printed_item_refusal r
printed_refusal (in_words ws) = words ws

-- The report: the header and the items as commands. Where the header is wrong, or the text too
-- long, it is empty.
abbrev pub report_of : {R : Type 0} → List Item → End R → Chars
report_of items too_long = []
report_of items (wrong_header e) = []
report_of items _ = report items

-- The bytes that are written of a walk, with or without --summary.
abbrev pub written_of : {R : Type 0} → (summary : Bool) → List Item → End R → List ℕ
written_of true items end = summary_of items end
written_of false items end = encode_utf8_all (report_of items end)

-- The line on the second sink.
abbrev pub run_line : List File → End CommandRefusal → List ℕ
run_line files end = end_line printed_refusal theory_limit files end
