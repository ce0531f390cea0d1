use Rattle.lt_transport_laws.proofs.AlikePrinting.{print-alike, refusals-alike}
use Rattle.lt_transport_laws.proofs.session_laws.alike_items_print_alike.Goals as goal

pub returns : goal.returns
returns c = record { items = print-alike; refusals = refusals-alike }
