-- Headers are passed over; then a command, the end or a wrong place.
use Rattle.std.proofs.Common.{ℕ, ◌∙◌, ap, sym, subst, List, [], length, arith}
use Rattle.lt_texts.specs.CommandPlaces.{NextPlaced}
use Rattle.lt_commands.specs.Views.{command_of}
use Rattle.lt_commands.specs.Making.{command_made}
use Rattle.lt_script.specs.declared.reading.Next.TheVariants.{Begins, Other, BadByte as NoByte, BadChar as NoChar}
use Rattle.lt_script.specs.Machine.{expected}
use Rattle.lt_script.specs.Openings.{form_of}
use Rattle.lt_script.specs.Stops.{SaysNext}
use Rattle.lt_script.proofs.ScriptLemmas.{next_other, next_byte, next_char, next_stopped, next_header, begun_source, begun_shorter, read_source, read_no_longer}
use Rattle.lt_script.proofs.Spanning.{unmarked, next_placed, never_none}
use Rattle.lt_script.proofs.sentences.next_spanned.Goals as goal

pub read-requires : goal.read-requires
read-requires c =
    let n : SaysNext (form_of c.args.opening.now c.args.allowed) c.parts.lexer c.next_head.new.lexer (Begins c.in-Begins.head c.in-Begins.from) = rw c.in-Begins.is at c.in_ok-next_head.ensures.next in
    c.parts.invariant.end ∙ sym (ap length (begun_source (form_of c.args.opening.now c.args.allowed) c.parts.lexer c.next_head.new.lexer c.in-Begins.head c.in-Begins.from n))

pub unreachable-requires : goal.unreachable-requires
unreachable-requires c =
    let n : SaysNext (form_of c.args.opening.now c.args.allowed) c.parts.lexer c.next_head.new.lexer (Begins c.in-Begins.head c.in-Begins.from) = rw c.in-Begins.is at c.in_ok-next_head.ensures.next in
    never_none (form_of c.args.opening.now c.args.allowed) c.args.lexer.now c.parts.lexer c.next_head.new.lexer c.read.new.lexer c.in-Begins.head c.in-Begins.from c.in-Ok.ensures.read.0 c.command.result n
    (unmarked (expected c.args.opening.now.number c.in-Begins.head) [] c.in-Ok.ensures.read.0 c.next_head.new.lexer c.read.new.lexer c.in-Ok.behind.places.items c.in-Ok.ensures.read.1) (sym c.is_header.ensures ∙ c.if-not-is_header.true) (c.command.ensures ∙ ap (command_made c.in-Begins.head) c.in-Ok.ensures.read.2) c.in_default.is

pub returns-then-not-is_header-clause-command : goal.returns-then-not-is_header-clause-command
returns-then-not-is_header-clause-command c =
    let n : SaysNext (form_of c.args.opening.now c.args.allowed) c.parts.lexer c.next_head.new.lexer (Begins c.in-Begins.head c.in-Begins.from) = rw c.in-Begins.is at c.in_ok-next_head.ensures.next in
    subst (λ (z : List ℕ). NextPlaced (form_of c.args.opening.now c.args.allowed) c.args.lexer.now (command_of c.in-Some.command) c.in-Begins.from z c.in-Ok.behind.to c.read.new.lexer) (sym c.from_vec-lines.ensures)
    (next_placed (form_of c.args.opening.now c.args.allowed) c.args.lexer.now c.parts.lexer c.next_head.new.lexer c.read.new.lexer c.in-Begins.head c.in-Begins.from c.in-Ok.behind.to c.in-Ok.ensures.read.0 c.in-Ok.behind.places.items c.command.result c.in-Some.command
    c.parts.invariant.past n c.in-Ok.ensures.read.1 (sym c.is_header.ensures ∙ c.if-not-is_header.true) (c.command.ensures ∙ ap (command_made c.in-Begins.head) c.in-Ok.ensures.read.2) c.in-Some.is c.in-Ok.ensures.read.3)

pub returns-then-not-is_header-clause-shorter : goal.returns-then-not-is_header-clause-shorter
returns-then-not-is_header-clause-shorter c =
    let n : SaysNext (form_of c.args.opening.now c.args.allowed) c.parts.lexer c.next_head.new.lexer (Begins c.in-Begins.head c.in-Begins.from) = rw c.in-Begins.is at c.in_ok-next_head.ensures.next in
    omega (
      arith,
      c.parts.invariant.later,
      begun_shorter (form_of c.args.opening.now c.args.allowed) c.parts.lexer c.next_head.new.lexer c.in-Begins.head c.in-Begins.from n,
      read_no_longer (expected c.args.opening.now.number c.in-Begins.head) [] c.in-Ok.ensures.read.0 c.next_head.new.lexer c.read.new.lexer (unmarked (expected c.args.opening.now.number c.in-Begins.head) [] c.in-Ok.ensures.read.0 c.next_head.new.lexer c.read.new.lexer c.in-Ok.behind.places.items c.in-Ok.ensures.read.1),
    )

pub returns-then-not-is_header-clause-source : goal.returns-then-not-is_header-clause-source
returns-then-not-is_header-clause-source c =
    let n : SaysNext (form_of c.args.opening.now c.args.allowed) c.parts.lexer c.next_head.new.lexer (Begins c.in-Begins.head c.in-Begins.from) = rw c.in-Begins.is at c.in_ok-next_head.ensures.next in
    c.parts.invariant.end ∙ sym (ap length (read_source (expected c.args.opening.now.number c.in-Begins.head) [] c.in-Ok.ensures.read.0 c.next_head.new.lexer c.read.new.lexer (unmarked (expected c.args.opening.now.number c.in-Begins.head) [] c.in-Ok.ensures.read.0 c.next_head.new.lexer c.read.new.lexer c.in-Ok.behind.places.items c.in-Ok.ensures.read.1)
    ∙ begun_source (form_of c.args.opening.now c.args.allowed) c.parts.lexer c.next_head.new.lexer c.in-Begins.head c.in-Begins.from n))

pub parts-smaller : goal.parts-smaller
parts-smaller c =
    let n : SaysNext (form_of c.args.opening.now c.args.allowed) c.parts.lexer c.next_head.new.lexer (Begins c.in-Begins.head c.in-Begins.from) = rw c.in-Begins.is at c.in_ok-next_head.ensures.next in
    omega (
      arith,
      begun_shorter (form_of c.args.opening.now c.args.allowed) c.parts.lexer c.next_head.new.lexer c.in-Begins.head c.in-Begins.from n,
      read_no_longer (expected c.args.opening.now.number c.in-Begins.head) [] c.in-Ok.ensures.read.0 c.next_head.new.lexer c.read.new.lexer (unmarked (expected c.args.opening.now.number c.in-Begins.head) [] c.in-Ok.ensures.read.0 c.next_head.new.lexer c.read.new.lexer c.in-Ok.behind.places.items c.in-Ok.ensures.read.1),
    )

pub parts-preserved : goal.parts-preserved
parts-preserved c =
    let n : SaysNext (form_of c.args.opening.now c.args.allowed) c.parts.lexer c.next_head.new.lexer (Begins c.in-Begins.head c.in-Begins.from) = rw c.in-Begins.is at c.in_ok-next_head.ensures.next in
    record {
      past = next_header (form_of c.args.opening.now c.args.allowed) c.args.lexer.now c.parts.lexer c.next_head.new.lexer c.read.new.lexer c.in-Begins.head c.in-Begins.from c.in-Ok.ensures.read.0 c.parts.invariant.past n
          (unmarked (expected c.args.opening.now.number c.in-Begins.head) [] c.in-Ok.ensures.read.0 c.next_head.new.lexer c.read.new.lexer c.in-Ok.behind.places.items c.in-Ok.ensures.read.1) (sym c.is_header.ensures ∙ c.if-not-is_header.false);
      end = c.parts.invariant.end ∙ sym (ap length (read_source (expected c.args.opening.now.number c.in-Begins.head) [] c.in-Ok.ensures.read.0 c.next_head.new.lexer c.read.new.lexer (unmarked (expected c.args.opening.now.number c.in-Begins.head) [] c.in-Ok.ensures.read.0 c.next_head.new.lexer c.read.new.lexer c.in-Ok.behind.places.items c.in-Ok.ensures.read.1)
          ∙ begun_source (form_of c.args.opening.now c.args.allowed) c.parts.lexer c.next_head.new.lexer c.in-Begins.head c.in-Begins.from n));
      later = omega (
        arith,
        c.parts.invariant.later,
        begun_shorter (form_of c.args.opening.now c.args.allowed) c.parts.lexer c.next_head.new.lexer c.in-Begins.head c.in-Begins.from n,
        read_no_longer (expected c.args.opening.now.number c.in-Begins.head) [] c.in-Ok.ensures.read.0 c.next_head.new.lexer c.read.new.lexer (unmarked (expected c.args.opening.now.number c.in-Begins.head) [] c.in-Ok.ensures.read.0 c.next_head.new.lexer c.read.new.lexer c.in-Ok.behind.places.items c.in-Ok.ensures.read.1),
      );
    }

pub returns-in-Err-clause-wrong : goal.returns-in-Err-clause-wrong
returns-in-Err-clause-wrong c =
    let n : SaysNext (form_of c.args.opening.now c.args.allowed) c.parts.lexer c.next_head.new.lexer (Begins c.in-Begins.head c.in-Begins.from) = rw c.in-Begins.is at c.in_ok-next_head.ensures.next in
    next_stopped (form_of c.args.opening.now c.args.allowed) c.args.lexer.now c.parts.lexer c.next_head.new.lexer c.in-Begins.head c.in-Begins.from c.in-Err.error c.parts.invariant.past n c.in-Err.ensures.wrong

pub returns-in-Other-clause-wrong : goal.returns-in-Other-clause-wrong
returns-in-Other-clause-wrong c =
    let n : SaysNext (form_of c.args.opening.now c.args.allowed) c.parts.lexer c.next_head.new.lexer (Other c.in-Other.at) = rw c.in-Other.is at c.in_ok-next_head.ensures.next in
    next_other (form_of c.args.opening.now c.args.allowed) c.args.lexer.now c.parts.lexer c.next_head.new.lexer c.in-Other.at c.parts.invariant.past n

pub returns-in-BadByte-clause-wrong : goal.returns-in-BadByte-clause-wrong
returns-in-BadByte-clause-wrong c =
    let n : SaysNext (form_of c.args.opening.now c.args.allowed) c.parts.lexer c.next_head.new.lexer (NoByte c.in-BadByte.at) = rw c.in-BadByte.is at c.in_ok-next_head.ensures.next in
    next_byte (form_of c.args.opening.now c.args.allowed) c.args.lexer.now c.parts.lexer c.next_head.new.lexer c.in-BadByte.at c.parts.invariant.past n

pub returns-in-BadChar-clause-wrong : goal.returns-in-BadChar-clause-wrong
returns-in-BadChar-clause-wrong c =
    let n : SaysNext (form_of c.args.opening.now c.args.allowed) c.parts.lexer c.next_head.new.lexer (NoChar c.in-BadChar.at) = rw c.in-BadChar.is at c.in_ok-next_head.ensures.next in
    next_char (form_of c.args.opening.now c.args.allowed) c.args.lexer.now c.parts.lexer c.next_head.new.lexer c.in-BadChar.at c.parts.invariant.past n
