-- A command leads to one session.
use Rattle.std.specs.Prelude.{◌≡◌, Ok, Err}
use Rattle.std.proofs.Common.{sym, ap, ◌∙◌}
use Rattle.lt_transport_definitions.specs.Commands.{CommandRefusal, Block, session_behind}
use Rattle.lt_transport_definitions.specs.Rows.{BlockOutcome}
use Rattle.lt_transport_laws.specs.SessionStatements.{SessionsAreOne}
use Rattle.lt_transport_laws.proofs.OneTransport.{each-one}

pub same-block : (x y : Block) → ◌≡◌ {A = BlockOutcome} (Ok x) (Ok y) → x ≡ y
same-block x y e = cc

pub same-refusal : (x y : CommandRefusal) → ◌≡◌ {A = BlockOutcome} (Err x) (Err y) → x ≡ y
same-refusal x y e = cc

pub not-both : (x : CommandRefusal) (y : Block) → ◌≡◌ {A = BlockOutcome} (Err x) (Ok y) → ⊥
not-both x y e = cc

pub session-one : SessionsAreOne
session-one s c xs ys later other h x y =
    let e : x.0 ≡ y.0 = same-block x.0 y.0 (each-one s c (Ok x.0) (Ok y.0) h x.1 y.1) in
    x.4 ∙ ap (session_behind s) e ∙ sym y.4
