use Rattle.std.proofs.Common.{reverse}
use Rattle.lt_relating.specs.declared.part.StatementPart.TheVariants.{Name, Application, Abstraction}
use Rattle.lt_relating.proofs.WalkLemmas.{here-at, at-part, name-typed, name-leads, sound-here, application-leads, pair-here, abstraction-leads}
use Rattle.lt_relating.proofs.relating.relate_next.Goals as goal

pub assume-requires : goal.assume-requires
assume-requires g c =
    let lines = reverse c.args.lines.now.items in
    name-typed c.args.proof.now c.args.labels.now c.args.count lines c.in-Name.p
    (here-at c.args.proof.now c.args.labels.now c.args.count lines (Name c.in-Name.p) c.args.part.now c.in-Name.is c.requires)

pub apply_last-requires-clause-sound : goal.apply_last-requires-clause-sound
apply_last-requires-clause-sound g c =
    sound-here c.args.proof.now c.args.labels.now c.args.count (reverse c.args.lines.now.items) c.args.part.now c.requires

pub abstract_last-requires-clause-sound : goal.abstract_last-requires-clause-sound
abstract_last-requires-clause-sound g c =
    sound-here c.args.proof.now c.args.labels.now c.args.count (reverse c.args.lines.now.items) c.args.part.now c.requires

pub abstract_last-requires-clause-pair : goal.abstract_last-requires-clause-pair
abstract_last-requires-clause-pair g c =
    let lines = reverse c.args.lines.now.items in
    pair-here c.args.proof.now c.args.labels.now c.args.count lines c.in-Abstraction.pair
    (here-at c.args.proof.now c.args.labels.now c.args.count lines (Abstraction c.in-Abstraction.pair) c.args.part.now c.in-Abstraction.is c.requires)

pub returns-in-Name-clause-leads : goal.returns-in-Name-clause-leads
returns-in-Name-clause-leads g c =
    let lines = reverse c.args.lines.now.items in
    at-part c.args.proof.now c.assume.new.self c.args.labels.now c.args.count lines lines (Name c.in-Name.p) c.args.part.now c.assume.result c.in-Name.is
    (λ q. name-leads c.args.proof.now c.args.labels.now c.args.count lines c.in-Name.p q c.assume.new.self c.assume.result c.assume.ensures.carries c.assume.ensures.reaches)

pub returns-in-Application-clause-leads : goal.returns-in-Application-clause-leads
returns-in-Application-clause-leads g c =
    let lines = reverse c.args.lines.now.items in
    let left = reverse c.apply_last.new.lines.items in
    at-part c.args.proof.now c.apply_last.new.proof c.args.labels.now c.args.count lines left Application c.args.part.now c.apply_last.result c.in-Application.is
    (λ q. application-leads c.args.proof.now c.args.labels.now c.args.count lines q c.apply_last.new.proof left c.apply_last.result
    (c.apply_last.ensures.reaches q.along.qs q.along.held) (c.apply_last.ensures.held q.along.qs q.along.held))

pub returns-in-Abstraction-clause-leads : goal.returns-in-Abstraction-clause-leads
returns-in-Abstraction-clause-leads g c =
    let lines = reverse c.args.lines.now.items in
    let left = reverse c.abstract_last.new.lines.items in
    let pair = c.in-Abstraction.pair in
    at-part c.args.proof.now c.abstract_last.new.proof c.args.labels.now c.args.count lines left (Abstraction pair) c.args.part.now c.abstract_last.result c.in-Abstraction.is
    (λ q. abstraction-leads c.args.proof.now c.args.labels.now c.args.count lines pair q c.abstract_last.new.proof left c.abstract_last.result
    (c.abstract_last.ensures.reaches q.along.qs q.along.held) (c.abstract_last.ensures.held q.along.qs q.along.held))
