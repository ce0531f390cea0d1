use Rattle.std.proofs.Common.{◌≡◌, ◌≤◌, length}
use Rattle.lt_script.specs.Openings.{form_of}
use Rattle.lt_script.proofs.Parts.{Past}
use Rattle.lt_script.proofs.sentences.next_spanned.Given as goal

abbrev pub invariant-parts : goal.invariant-parts
invariant-parts l = record { past : Past (form_of l.fn.opening l.fn.allowed) l.fn.lexer l.lexer; end : l.end ≡ length l.lexer.source; later : length l.lexer.ahead ≤ length l.fn.lexer.ahead }

abbrev pub decreases-parts : goal.decreases-parts
decreases-parts l = length l.lexer.ahead
