use Rattle.std.proofs.Common.{◌∙◌, ◌∷◌, []}
use Rattle.lt_definitions.specs.Rules.{line_at}
use Rattle.lt_nameless.specs.NamelessRules.{nameless_mp_gives}
use Rattle.lt_store.specs.Trees.{tree_at}
use Rattle.lt_kernel.specs.State.{sequents}
use Rattle.lt_derived.proofs.Repeated.{some-of}
use Rattle.lt_derived.proofs.Stated.{same-reaches}
use Rattle.lt_relating.specs.RelatedSteps.{as_related}
use Rattle.lt_relating.proofs.AbstractingLemmas.{outcome_whole, triple-read, triple-none, triple-within, not-related, relates-here, image-typed, given-typed, premise-there, left-sound, right-sound, related-typed, premise-fails, count, all-sound, four-typed, law-fails, law-detached}
use Rattle.lt_relating.proofs.abstracting.abstract_related.Goals as goal

pub returns-in-None-clause-reaches : goal.returns-in-None-clause-reaches
returns-in-None-clause-reaches g c =
    let old = c.args.proof.now in
    let s = some-of (line_at (sequents old) c.args.i) c.requires.there in
    not-related old c.requires.sound c.args.law.now c.args.pair.now c.requires.pair c.args.i s.0 s.1 c.conclusion-concl.result c.conclusion-concl.ensures.within c.conclusion-concl.ensures.is
    (triple-none old.nodes c.related_parts.result (as_related (tree_at old.nodes c.conclusion-concl.result)) c.related_parts.ensures.parts c.in-None.is)

pub abstraction_types-requires-clause-f : goal.abstraction_types-requires-clause-f
abstraction_types-requires-clause-f g c =
    let old = c.args.proof.now in
    let s = some-of (line_at (sequents old) c.args.i) c.requires.there in
    let t = c.in-Some.parts in
    let w = triple-within old.nodes c.related_parts.result t c.related_parts.ensures.within c.in-Some.is in
    let e = triple-read old.nodes c.related_parts.result t (as_related (tree_at old.nodes c.conclusion-concl.result)) c.related_parts.ensures.parts c.in-Some.is in
    image-typed old c.requires.sound c.args.law.now c.args.pair.now c.requires.pair c.args.i s.0 s.1 c.conclusion-concl.result c.conclusion-concl.ensures.within c.conclusion-concl.ensures.is
    t.0 t.1 t.2 w.0 w.1 w.2 e

pub abstraction_types-requires-clause-g : goal.abstraction_types-requires-clause-g
abstraction_types-requires-clause-g g c =
    let old = c.args.proof.now in
    let s = some-of (line_at (sequents old) c.args.i) c.requires.there in
    let t = c.in-Some.parts in
    let w = triple-within old.nodes c.related_parts.result t c.related_parts.ensures.within c.in-Some.is in
    let e = triple-read old.nodes c.related_parts.result t (as_related (tree_at old.nodes c.conclusion-concl.result)) c.related_parts.ensures.parts c.in-Some.is in
    given-typed old c.requires.sound c.args.law.now c.args.pair.now c.requires.pair c.args.i s.0 s.1 c.conclusion-concl.result c.conclusion-concl.ensures.within c.conclusion-concl.ensures.is
    t.0 t.1 t.2 w.0 w.1 w.2 e

pub expand_both-requires-clause-line : goal.expand_both-requires-clause-line
expand_both-requires-clause-line g c =
    let old = c.args.proof.now in
    let s = some-of (line_at (sequents old) c.args.i) c.requires.there in
    let t = c.in-Some.parts in
    let w = triple-within old.nodes c.related_parts.result t c.related_parts.ensures.within c.in-Some.is in
    let e = triple-read old.nodes c.related_parts.result t (as_related (tree_at old.nodes c.conclusion-concl.result)) c.related_parts.ensures.parts c.in-Some.is in
    relates-here old c.requires.sound c.args.law.now c.args.pair.now c.requires.pair c.args.i s.0 s.1 c.conclusion-concl.result c.conclusion-concl.ensures.within c.conclusion-concl.ensures.is
    t.0 t.1 t.2 w.0 w.1 w.2 e

pub close_over_both-requires-clause-there : goal.close_over_both-requires-clause-there
close_over_both-requires-clause-there g c =
    let old = c.args.proof.now in
    let s = some-of (line_at (sequents old) c.args.i) c.requires.there in
    let t = c.in-Some.parts in
    let w = triple-within old.nodes c.related_parts.result t c.related_parts.ensures.within c.in-Some.is in
    let e = triple-read old.nodes c.related_parts.result t (as_related (tree_at old.nodes c.conclusion-concl.result)) c.related_parts.ensures.parts c.in-Some.is in
    let sides = c.in_ok-made.ensures.sides (relates-here old c.requires.sound c.args.law.now c.args.pair.now c.requires.pair c.args.i s.0 s.1 c.conclusion-concl.result c.conclusion-concl.ensures.within c.conclusion-concl.ensures.is
    t.0 t.1 t.2 w.0 w.1 w.2 e) in
    premise-there old c.requires.sound c.args.law.now c.args.pair.now c.requires.pair c.args.i s.0 s.1 c.conclusion-concl.result c.conclusion-concl.ensures.within c.conclusion-concl.ensures.is
    t.0 t.1 t.2 w.0 w.1 w.2 e c.expand_both.new.proof c.expand_both.ensures.carries c.in_ok-made.made sides

pub close_over_both-requires-clause-left : goal.close_over_both-requires-clause-left
close_over_both-requires-clause-left g c =
    let old = c.args.proof.now in
    let s = some-of (line_at (sequents old) c.args.i) c.requires.there in
    let t = c.in-Some.parts in
    let w = triple-within old.nodes c.related_parts.result t c.related_parts.ensures.within c.in-Some.is in
    let e = triple-read old.nodes c.related_parts.result t (as_related (tree_at old.nodes c.conclusion-concl.result)) c.related_parts.ensures.parts c.in-Some.is in
    let sides = c.in_ok-made.ensures.sides (relates-here old c.requires.sound c.args.law.now c.args.pair.now c.requires.pair c.args.i s.0 s.1 c.conclusion-concl.result c.conclusion-concl.ensures.within c.conclusion-concl.ensures.is
    t.0 t.1 t.2 w.0 w.1 w.2 e) in
    left-sound old c.requires.sound c.args.law.now c.args.pair.now c.requires.pair c.args.i s.0 s.1 c.conclusion-concl.result c.conclusion-concl.ensures.within c.conclusion-concl.ensures.is
    t.0 t.1 t.2 w.0 w.1 w.2 e c.expand_both.new.proof c.expand_both.ensures.carries c.in_ok-made.made sides

pub close_over_both-requires-clause-right : goal.close_over_both-requires-clause-right
close_over_both-requires-clause-right g c =
    let old = c.args.proof.now in
    let s = some-of (line_at (sequents old) c.args.i) c.requires.there in
    let t = c.in-Some.parts in
    let w = triple-within old.nodes c.related_parts.result t c.related_parts.ensures.within c.in-Some.is in
    let e = triple-read old.nodes c.related_parts.result t (as_related (tree_at old.nodes c.conclusion-concl.result)) c.related_parts.ensures.parts c.in-Some.is in
    let sides = c.in_ok-made.ensures.sides (relates-here old c.requires.sound c.args.law.now c.args.pair.now c.requires.pair c.args.i s.0 s.1 c.conclusion-concl.result c.conclusion-concl.ensures.within c.conclusion-concl.ensures.is
    t.0 t.1 t.2 w.0 w.1 w.2 e) in
    right-sound old c.requires.sound c.args.law.now c.args.pair.now c.requires.pair c.args.i s.0 s.1 c.conclusion-concl.result c.conclusion-concl.ensures.within c.conclusion-concl.ensures.is
    t.0 t.1 t.2 w.0 w.1 w.2 e c.expand_both.new.proof c.expand_both.ensures.carries c.in_ok-made.made sides

pub close_over_both-requires-clause-p : goal.close_over_both-requires-clause-p
close_over_both-requires-clause-p g c =
    let old = c.args.proof.now in
    let s = some-of (line_at (sequents old) c.args.i) c.requires.there in
    let t = c.in-Some.parts in
    let w = triple-within old.nodes c.related_parts.result t c.related_parts.ensures.within c.in-Some.is in
    let e = triple-read old.nodes c.related_parts.result t (as_related (tree_at old.nodes c.conclusion-concl.result)) c.related_parts.ensures.parts c.in-Some.is in
    let sides = c.in_ok-made.ensures.sides (relates-here old c.requires.sound c.args.law.now c.args.pair.now c.requires.pair c.args.i s.0 s.1 c.conclusion-concl.result c.conclusion-concl.ensures.within c.conclusion-concl.ensures.is
    t.0 t.1 t.2 w.0 w.1 w.2 e) in
    related-typed old c.requires.sound c.args.law.now c.args.pair.now c.requires.pair c.args.i s.0 s.1 c.conclusion-concl.result c.conclusion-concl.ensures.within c.conclusion-concl.ensures.is
    t.0 t.1 t.2 w.0 w.1 w.2 e c.expand_both.new.proof c.expand_both.ensures.carries c.in_ok-made.made sides

pub returns-in-Err-clause-reaches : goal.returns-in-Err-clause-reaches
returns-in-Err-clause-reaches g c =
    let old = c.args.proof.now in
    let s = some-of (line_at (sequents old) c.args.i) c.requires.there in
    let t = c.in-Some.parts in
    let w = triple-within old.nodes c.related_parts.result t c.related_parts.ensures.within c.in-Some.is in
    let e = triple-read old.nodes c.related_parts.result t (as_related (tree_at old.nodes c.conclusion-concl.result)) c.related_parts.ensures.parts c.in-Some.is in
    let sides = c.in_ok-made.ensures.sides (relates-here old c.requires.sound c.args.law.now c.args.pair.now c.requires.pair c.args.i s.0 s.1 c.conclusion-concl.result c.conclusion-concl.ensures.within c.conclusion-concl.ensures.is
    t.0 t.1 t.2 w.0 w.1 w.2 e) in
    premise-fails old c.requires.sound c.args.law.now c.args.pair.now c.requires.pair c.args.i s.0 s.1 c.conclusion-concl.result c.conclusion-concl.ensures.within c.conclusion-concl.ensures.is
    t.0 t.1 t.2 w.0 w.1 w.2 e c.expand_both.new.proof c.expand_both.ensures.carries c.in_ok-made.made sides c.close_over_both.new.proof c.in-Err.fault c.in-Err.ensures.reaches

pub instance_at-requires-clause-count : goal.instance_at-requires-clause-count
instance_at-requires-clause-count g c =
    let old = c.args.proof.now in
    let s = some-of (line_at (sequents old) c.args.i) c.requires.there in
    let t = c.in-Some.parts in
    let w = triple-within old.nodes c.related_parts.result t c.related_parts.ensures.within c.in-Some.is in
    let e = triple-read old.nodes c.related_parts.result t (as_related (tree_at old.nodes c.conclusion-concl.result)) c.related_parts.ensures.parts c.in-Some.is in
    let sides = c.in_ok-made.ensures.sides (relates-here old c.requires.sound c.args.law.now c.args.pair.now c.requires.pair c.args.i s.0 s.1 c.conclusion-concl.result c.conclusion-concl.ensures.within c.conclusion-concl.ensures.is
    t.0 t.1 t.2 w.0 w.1 w.2 e) in
    count old c.requires.sound c.args.law.now c.args.pair.now c.requires.pair c.args.i s.0 s.1 c.conclusion-concl.result c.conclusion-concl.ensures.within c.conclusion-concl.ensures.is
    t.0 t.1 t.2 w.0 w.1 w.2 e c.expand_both.new.proof c.expand_both.ensures.carries c.in_ok-made.made sides
    c.close_over_both.new.proof c.close_over_both.ensures.carries c.as_slice.result.now c.as_slice-2.result.now (c.as_slice.ensures ∙ c.in_ok-names.ensures) (c.as_slice-2.ensures ∙ c.in_ok-types.ensures)

pub instance_at-requires-clause-sound : goal.instance_at-requires-clause-sound
instance_at-requires-clause-sound g c =
    let old = c.args.proof.now in
    let s = some-of (line_at (sequents old) c.args.i) c.requires.there in
    let t = c.in-Some.parts in
    let w = triple-within old.nodes c.related_parts.result t c.related_parts.ensures.within c.in-Some.is in
    let e = triple-read old.nodes c.related_parts.result t (as_related (tree_at old.nodes c.conclusion-concl.result)) c.related_parts.ensures.parts c.in-Some.is in
    let sides = c.in_ok-made.ensures.sides (relates-here old c.requires.sound c.args.law.now c.args.pair.now c.requires.pair c.args.i s.0 s.1 c.conclusion-concl.result c.conclusion-concl.ensures.within c.conclusion-concl.ensures.is
    t.0 t.1 t.2 w.0 w.1 w.2 e) in
    all-sound old c.requires.sound c.args.law.now c.args.pair.now c.requires.pair c.args.i s.0 s.1 c.conclusion-concl.result c.conclusion-concl.ensures.within c.conclusion-concl.ensures.is
    t.0 t.1 t.2 w.0 w.1 w.2 e c.expand_both.new.proof c.expand_both.ensures.carries c.in_ok-made.made sides
    c.close_over_both.new.proof c.close_over_both.ensures.carries c.as_slice.result.now c.as_slice-2.result.now (c.as_slice.ensures ∙ c.in_ok-names.ensures) (c.as_slice-2.ensures ∙ c.in_ok-types.ensures)

pub instance_at-requires-clause-terms : goal.instance_at-requires-clause-terms
instance_at-requires-clause-terms g c =
    let old = c.args.proof.now in
    let s = some-of (line_at (sequents old) c.args.i) c.requires.there in
    let t = c.in-Some.parts in
    let w = triple-within old.nodes c.related_parts.result t c.related_parts.ensures.within c.in-Some.is in
    let e = triple-read old.nodes c.related_parts.result t (as_related (tree_at old.nodes c.conclusion-concl.result)) c.related_parts.ensures.parts c.in-Some.is in
    let sides = c.in_ok-made.ensures.sides (relates-here old c.requires.sound c.args.law.now c.args.pair.now c.requires.pair c.args.i s.0 s.1 c.conclusion-concl.result c.conclusion-concl.ensures.within c.conclusion-concl.ensures.is
    t.0 t.1 t.2 w.0 w.1 w.2 e) in
    four-typed old c.requires.sound c.args.law.now c.args.pair.now c.requires.pair c.args.i s.0 s.1 c.conclusion-concl.result c.conclusion-concl.ensures.within c.conclusion-concl.ensures.is
    t.0 t.1 t.2 w.0 w.1 w.2 e c.expand_both.new.proof c.expand_both.ensures.carries c.in_ok-made.made sides
    c.close_over_both.new.proof c.close_over_both.ensures.carries c.as_slice.result.now c.as_slice-2.result.now (c.as_slice.ensures ∙ c.in_ok-names.ensures) (c.as_slice-2.ensures ∙ c.in_ok-types.ensures)

pub returns-in-Err-instance_at-clause-reaches : goal.returns-in-Err-instance_at-clause-reaches
returns-in-Err-instance_at-clause-reaches g c =
    let old = c.args.proof.now in
    let s = some-of (line_at (sequents old) c.args.i) c.requires.there in
    let t = c.in-Some.parts in
    let w = triple-within old.nodes c.related_parts.result t c.related_parts.ensures.within c.in-Some.is in
    let e = triple-read old.nodes c.related_parts.result t (as_related (tree_at old.nodes c.conclusion-concl.result)) c.related_parts.ensures.parts c.in-Some.is in
    let sides = c.in_ok-made.ensures.sides (relates-here old c.requires.sound c.args.law.now c.args.pair.now c.requires.pair c.args.i s.0 s.1 c.conclusion-concl.result c.conclusion-concl.ensures.within c.conclusion-concl.ensures.is
    t.0 t.1 t.2 w.0 w.1 w.2 e) in
    law-fails old c.requires.sound c.args.law.now c.args.pair.now c.requires.pair c.args.i s.0 s.1 c.conclusion-concl.result c.conclusion-concl.ensures.within c.conclusion-concl.ensures.is
    t.0 t.1 t.2 w.0 w.1 w.2 e c.expand_both.new.proof c.expand_both.ensures.carries c.in_ok-made.made sides
    c.close_over_both.new.proof c.close_over_both.ensures.carries c.as_slice.result.now c.as_slice-2.result.now (c.as_slice.ensures ∙ c.in_ok-names.ensures) (c.as_slice-2.ensures ∙ c.in_ok-types.ensures) c.in-Ok.number c.in-Ok.ensures.reaches c.instance_at.new.proof c.in-Err-instance_at.fault c.in-Err-instance_at.ensures.reaches

pub returns-clause-reaches : goal.returns-clause-reaches
returns-clause-reaches g c =
    let old = c.args.proof.now in
    let s = some-of (line_at (sequents old) c.args.i) c.requires.there in
    let t = c.in-Some.parts in
    let w = triple-within old.nodes c.related_parts.result t c.related_parts.ensures.within c.in-Some.is in
    let e = triple-read old.nodes c.related_parts.result t (as_related (tree_at old.nodes c.conclusion-concl.result)) c.related_parts.ensures.parts c.in-Some.is in
    let sides = c.in_ok-made.ensures.sides (relates-here old c.requires.sound c.args.law.now c.args.pair.now c.requires.pair c.args.i s.0 s.1 c.conclusion-concl.result c.conclusion-concl.ensures.within c.conclusion-concl.ensures.is
    t.0 t.1 t.2 w.0 w.1 w.2 e) in
    let three = c.instance_at.new.proof in
    same-reaches c.mp.new.self c.mp.result (nameless_mp_gives (sequents three) c.in-Ok-instance_at.number c.in-Ok.number) (outcome_whole old c.args.law.now c.args.pair.now c.args.i)
    (law-detached old c.requires.sound c.args.law.now c.args.pair.now c.requires.pair c.args.i s.0 s.1 c.conclusion-concl.result c.conclusion-concl.ensures.within c.conclusion-concl.ensures.is
    t.0 t.1 t.2 w.0 w.1 w.2 e c.expand_both.new.proof c.expand_both.ensures.carries c.in_ok-made.made sides
    c.close_over_both.new.proof c.close_over_both.ensures.carries c.as_slice.result.now c.as_slice-2.result.now (c.as_slice.ensures ∙ c.in_ok-names.ensures) (c.as_slice-2.ensures ∙ c.in_ok-types.ensures) c.in-Ok.number c.in-Ok.ensures.reaches three c.in-Ok-instance_at.number c.instance_at.ensures.carries c.in-Ok-instance_at.ensures.reaches)
    c.mp.ensures.reaches
