use Rattle.lt_transport_laws.proofs.TextLines.{runs-lines, lines-readable, named-lines}
use Rattle.lt_transport_laws.proofs.session_laws.lines_are_of_text.Goals as goal

pub returns : goal.returns
returns c = record { run = runs-lines; readable = lines-readable; named = named-lines }
