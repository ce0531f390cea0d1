use Rattle.lt_plain.proofs.ReadableItems.{accepted_are_readable, accepted_are_read}
use Rattle.lt_plain.proofs.laws.accepted_items_are_readable.Goals as goal

pub returns-clause-readable : goal.returns-clause-readable
returns-clause-readable c = accepted_are_readable

pub returns-clause-read : goal.returns-clause-read
returns-clause-read c = accepted_are_read
