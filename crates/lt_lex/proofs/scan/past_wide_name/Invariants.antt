use Rattle.std.proofs.Common.{◌-◌, length}
use Rattle.unicode_ident.specs.Ident.{is_xid_continue}
use Rattle.lt_definitions.specs.Characters.{behind_run}
use Rattle.lt_lex.specs.Places.{Leads}
use Rattle.lt_lex.proofs.scan.past_wide_name.Given as goal

abbrev pub invariant-name : goal.invariant-name
invariant-name l = Leads l.text l.fn.at (behind_run is_xid_continue) l.at

abbrev pub decreases-name : goal.decreases-name
decreases-name l = length l.text - l.at
