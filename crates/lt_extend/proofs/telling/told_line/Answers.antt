use Rattle.lt_definitions.specs.Typing.{type_fault}
use Rattle.lt_definitions.proofs.TypingLemmas.{both-none}
use Rattle.lt_nameless.specs.NamelessRules.{nameless_fault}
use Rattle.lt_nameless.proofs.ClosedSteps.{term-whole}
use Rattle.lt_hol.specs.declared.line.Line.TheVariants.{Assume, Weaken, Refl, Beta, Eta, ImpI, AllE, Inst, Select, Ccontr}
use Rattle.lt_store.specs.Trees.{tree_at}
use Rattle.lt_extend.proofs.ToldLines.{good-at}
use Rattle.lt_extend.proofs.telling.told_line.Goals as goal

pub told_term-requires-clause-whole : goal.told_term-requires-clause-whole
told_term-requires-clause-whole g c =
    let k = good-at c.requires.0 (g.S.TermStore.nodes c.args.store.now) c.args.line.now (Assume c.in-Assume.p) c.in-Assume.is c.requires.1 in
    term-whole c.requires.0 (tree_at (g.S.TermStore.nodes c.args.store.now) c.in-Assume.p) k.typed

pub told_term-requires-in-Weaken-clause-whole : goal.told_term-requires-in-Weaken-clause-whole
told_term-requires-in-Weaken-clause-whole g c =
    let k = good-at c.requires.0 (g.S.TermStore.nodes c.args.store.now) c.args.line.now (Weaken c.in-Weaken.p c.in-Weaken.i) c.in-Weaken.is c.requires.1 in
    term-whole c.requires.0 (tree_at (g.S.TermStore.nodes c.args.store.now) c.in-Weaken.p) k.typed

pub told_term-requires-in-Refl-clause-whole : goal.told_term-requires-in-Refl-clause-whole
told_term-requires-in-Refl-clause-whole g c =
    let k = good-at c.requires.0 (g.S.TermStore.nodes c.args.store.now) c.args.line.now (Refl c.in-Refl.t) c.in-Refl.is c.requires.1 in
    term-whole c.requires.0 (tree_at (g.S.TermStore.nodes c.args.store.now) c.in-Refl.t) k.typed

pub told_term-requires-in-Beta-clause-whole : goal.told_term-requires-in-Beta-clause-whole
told_term-requires-in-Beta-clause-whole g c =
    let k = good-at c.requires.0 (g.S.TermStore.nodes c.args.store.now) c.args.line.now (Beta c.in-Beta.t) c.in-Beta.is c.requires.1 in
    term-whole c.requires.0 (tree_at (g.S.TermStore.nodes c.args.store.now) c.in-Beta.t) k.typed

pub told_term-requires-in-Eta-clause-whole : goal.told_term-requires-in-Eta-clause-whole
told_term-requires-in-Eta-clause-whole g c =
    let k = good-at c.requires.0 (g.S.TermStore.nodes c.args.store.now) c.args.line.now (Eta c.in-Eta.t) c.in-Eta.is c.requires.1 in
    term-whole c.requires.0 (tree_at (g.S.TermStore.nodes c.args.store.now) c.in-Eta.t) k.typed

pub told_term-requires-in-ImpI-clause-whole : goal.told_term-requires-in-ImpI-clause-whole
told_term-requires-in-ImpI-clause-whole g c =
    let k = good-at c.requires.0 (g.S.TermStore.nodes c.args.store.now) c.args.line.now (ImpI c.in-ImpI.p c.in-ImpI.i) c.in-ImpI.is c.requires.1 in
    term-whole c.requires.0 (tree_at (g.S.TermStore.nodes c.args.store.now) c.in-ImpI.p) k.typed

pub told_term-requires-in-AllE-clause-whole : goal.told_term-requires-in-AllE-clause-whole
told_term-requires-in-AllE-clause-whole g c =
    let k = good-at c.requires.0 (g.S.TermStore.nodes c.args.store.now) c.args.line.now (AllE c.in-AllE.t c.in-AllE.i) c.in-AllE.is c.requires.1 in
    term-whole c.requires.0 (tree_at (g.S.TermStore.nodes c.args.store.now) c.in-AllE.t) k.typed

pub told_term-requires-in-Select-clause-whole : goal.told_term-requires-in-Select-clause-whole
told_term-requires-in-Select-clause-whole g c =
    let k = good-at c.requires.0 (g.S.TermStore.nodes c.args.store.now) c.args.line.now (Select c.in-Select.p) c.in-Select.is c.requires.1 in
    term-whole c.requires.0 (tree_at (g.S.TermStore.nodes c.args.store.now) c.in-Select.p) k.typed

pub told_term-requires-in-Ccontr-clause-whole : goal.told_term-requires-in-Ccontr-clause-whole
told_term-requires-in-Ccontr-clause-whole g c =
    let k = good-at c.requires.0 (g.S.TermStore.nodes c.args.store.now) c.args.line.now (Ccontr c.in-Ccontr.p) c.in-Ccontr.is c.requires.1 in
    term-whole c.requires.0 (tree_at (g.S.TermStore.nodes c.args.store.now) c.in-Ccontr.p) k.typed

pub told_term-requires-in-Inst-clause-whole : goal.told_term-requires-in-Inst-clause-whole
told_term-requires-in-Inst-clause-whole g c =
    let nodes = g.S.TermStore.nodes c.args.store.now in
    let k = good-at c.requires.0 nodes c.args.line.now (Inst c.in-Inst.x c.in-Inst.ty c.in-Inst.t c.in-Inst.i) c.in-Inst.is c.requires.1 in
    term-whole c.requires.0 (tree_at nodes c.in-Inst.t) (both-none (type_fault c.requires.0 c.in-Inst.ty) (nameless_fault c.requires.0 (tree_at nodes c.in-Inst.t)) k.typed).1
