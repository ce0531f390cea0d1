use Rattle.std.proofs.Common.{Some}
use Rattle.lt_store.specs.Trees.{tree_at}
use Rattle.lt_kernel.specs.State.{statements}
use Rattle.lt_conv.proofs.Converting.{at-line, still-sound, middle-sound, then-none, then-meets, then-converts}
use Rattle.lt_conv.proofs.conversion.ThenConversion.convert.Goals as goal

pub convert-requires-2-clause-t : goal.convert-requires-2-clause-t
convert-requires-2-clause-t g c =
    let old = c.args.proof.now in
    let s1 = c.convert.new.proof in
    let t = tree_at old.nodes c.args.t in
    let a = g.A.Conversion.gives c.args.self.now.first (statements old) t in
    let b = g.B.Conversion.gives c.args.self.now.second in
    let h = at-line s1 t a c.in_ok-first.field-0 (Some c.in-Some.first) c.in_ok-first.ensures.converts c.in-Some.is in
    middle-sound old s1 a b t c.in-Some.first c.right-middle.result c.convert.ensures.carries h c.right-middle.ensures

pub convert-requires-2-clause-sound : goal.convert-requires-2-clause-sound
convert-requires-2-clause-sound g c = still-sound c.args.proof.now c.convert.new.proof c.convert.ensures.carries c.requires.sound

pub returns-in_default-2-clause-converts : goal.returns-in_default-2-clause-converts
returns-in_default-2-clause-converts g c =
    let old = c.args.proof.now in
    let s1 = c.convert.new.proof in
    let t = tree_at old.nodes c.args.t in
    let a = g.A.Conversion.gives c.args.self.now.first (statements old) t in
    let b = g.B.Conversion.gives c.args.self.now.second in
    let h = at-line s1 t a c.in_ok-first.field-0 (Some c.in-Some.first) c.in_ok-first.ensures.converts c.in-Some.is in
    then-none old s1 a b t c.in-Some.first c.right-middle.result c.convert.ensures.carries h c.right-middle.ensures c.convert-2.new.proof c.in_ok-second.field-0 c.in_ok-second.ensures.converts c.in_default-2.is

pub trans-requires : goal.trans-requires
trans-requires g c =
    let old = c.args.proof.now in
    let s1 = c.convert.new.proof in
    let t = tree_at old.nodes c.args.t in
    let a = g.A.Conversion.gives c.args.self.now.first (statements old) t in
    let b = g.B.Conversion.gives c.args.self.now.second in
    let h = at-line s1 t a c.in_ok-first.field-0 (Some c.in-Some.first) c.in_ok-first.ensures.converts c.in-Some.is in
    then-meets old s1 a b t c.in-Some.first c.right-middle.result c.convert.ensures.carries h c.right-middle.ensures c.convert-2.new.proof c.in_ok-second.field-0 c.in_ok-second.ensures.converts c.in-Some-2.second c.in-Some-2.is c.convert-2.ensures.carries

pub returns-clause-converts : goal.returns-clause-converts
returns-clause-converts g c =
    let old = c.args.proof.now in
    let s1 = c.convert.new.proof in
    let t = tree_at old.nodes c.args.t in
    let a = g.A.Conversion.gives c.args.self.now.first (statements old) t in
    let b = g.B.Conversion.gives c.args.self.now.second in
    let h = at-line s1 t a c.in_ok-first.field-0 (Some c.in-Some.first) c.in_ok-first.ensures.converts c.in-Some.is in
    then-converts old s1 a b t c.in-Some.first c.right-middle.result c.convert.ensures.carries h c.right-middle.ensures c.convert-2.new.proof c.in_ok-second.field-0 c.in_ok-second.ensures.converts c.in-Some-2.second c.in-Some-2.is c.convert-2.ensures.carries c.trans.new.proof c.in_ok-line.line c.in_ok-line.ensures.line
