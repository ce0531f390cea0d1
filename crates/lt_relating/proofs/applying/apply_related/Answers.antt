use Rattle.std.proofs.Common.{ℕ, List, length, sym, ◌∙◌, subst, ◌∷◌, []}
use Rattle.lt_definitions.specs.Rules.{line_at, with_line}
use Rattle.lt_store.specs.Trees.{tree_at, AllBelow}
use Rattle.lt_kernel.specs.State.{sequents}
use Rattle.lt_programs.specs.Programs.{detached_by}
use Rattle.lt_derived.proofs.Repeated.{some-of}
use Rattle.lt_derived.proofs.Stated.{same-reaches}
use Rattle.lt_relating.specs.RelatedSteps.{as_applied}
use Rattle.lt_relating.proofs.ApplyingLemmas.{whole, not-applied, as-many-names, types-sound, terms-typed, instance-fails, applied-goes, parts-as-slices, no-parts, within-some}
use Rattle.lt_relating.proofs.applying.apply_related.Goals as goal

pub returns-in-None-clause-reaches : goal.returns-in-None-clause-reaches
returns-in-None-clause-reaches g c =
    let old = c.args.proof.now in
    let s = some-of (line_at (sequents old) c.args.i) c.requires.first in
    let u = some-of (line_at (sequents old) c.args.j) c.requires.second in
    let parts = as_applied (tree_at old.nodes c.conclusion-first.result) (tree_at old.nodes c.conclusion-second.result) in
    not-applied old c.requires.sound c.args.law.now c.args.i c.args.j s.0 u.0 s.1 u.1 c.conclusion-first.result c.conclusion-second.result c.conclusion-first.ensures.within c.conclusion-second.ensures.within
    c.conclusion-first.ensures.is c.conclusion-second.ensures.is
    (no-parts old.nodes c.in_ok-parts.parts parts c.in_ok-parts.ensures.parts c.in-None.is)

pub instance_at-requires-clause-count : goal.instance_at-requires-clause-count
instance_at-requires-clause-count g c =
    let old = c.args.proof.now in
    let s = some-of (line_at (sequents old) c.args.i) c.requires.first in
    let u = some-of (line_at (sequents old) c.args.j) c.requires.second in
    let parts = as_applied (tree_at old.nodes c.conclusion-first.result) (tree_at old.nodes c.conclusion-second.result) in
    let e = parts-as-slices old.nodes c.in_ok-parts.parts c.in-Some.parts parts c.as_slice-2.result.now c.as_slice-3.result.now c.in_ok-parts.ensures.parts c.in-Some.is c.as_slice-2.ensures c.as_slice-3.ensures in
    let below = subst (λ (ids : List ℕ). AllBelow (length old.nodes) ids) (sym c.as_slice-3.ensures) (within-some old.nodes c.in_ok-parts.parts c.in-Some.parts c.in_ok-parts.ensures.within c.in-Some.is) in
    as-many-names old c.requires.sound c.args.law.now c.args.i c.args.j s.0 u.0 s.1 u.1 c.conclusion-first.result c.conclusion-second.result c.conclusion-first.ensures.within c.conclusion-second.ensures.within
    c.conclusion-first.ensures.is c.conclusion-second.ensures.is c.as_slice-2.result.now c.as_slice-3.result.now below e c.as_slice.result.now (c.as_slice.ensures ∙ c.in_ok-names.ensures)

pub instance_at-requires-clause-sound : goal.instance_at-requires-clause-sound
instance_at-requires-clause-sound g c =
    let old = c.args.proof.now in
    let s = some-of (line_at (sequents old) c.args.i) c.requires.first in
    let u = some-of (line_at (sequents old) c.args.j) c.requires.second in
    let parts = as_applied (tree_at old.nodes c.conclusion-first.result) (tree_at old.nodes c.conclusion-second.result) in
    let e = parts-as-slices old.nodes c.in_ok-parts.parts c.in-Some.parts parts c.as_slice-2.result.now c.as_slice-3.result.now c.in_ok-parts.ensures.parts c.in-Some.is c.as_slice-2.ensures c.as_slice-3.ensures in
    let below = subst (λ (ids : List ℕ). AllBelow (length old.nodes) ids) (sym c.as_slice-3.ensures) (within-some old.nodes c.in_ok-parts.parts c.in-Some.parts c.in_ok-parts.ensures.within c.in-Some.is) in
    types-sound old c.requires.sound c.args.law.now c.args.i c.args.j s.0 u.0 s.1 u.1 c.conclusion-first.result c.conclusion-second.result c.conclusion-first.ensures.within c.conclusion-second.ensures.within
    c.conclusion-first.ensures.is c.conclusion-second.ensures.is c.as_slice-2.result.now c.as_slice-3.result.now below e c.as_slice.result.now (c.as_slice.ensures ∙ c.in_ok-names.ensures)

pub instance_at-requires-clause-terms : goal.instance_at-requires-clause-terms
instance_at-requires-clause-terms g c =
    let old = c.args.proof.now in
    let s = some-of (line_at (sequents old) c.args.i) c.requires.first in
    let u = some-of (line_at (sequents old) c.args.j) c.requires.second in
    let parts = as_applied (tree_at old.nodes c.conclusion-first.result) (tree_at old.nodes c.conclusion-second.result) in
    let e = parts-as-slices old.nodes c.in_ok-parts.parts c.in-Some.parts parts c.as_slice-2.result.now c.as_slice-3.result.now c.in_ok-parts.ensures.parts c.in-Some.is c.as_slice-2.ensures c.as_slice-3.ensures in
    let below = subst (λ (ids : List ℕ). AllBelow (length old.nodes) ids) (sym c.as_slice-3.ensures) (within-some old.nodes c.in_ok-parts.parts c.in-Some.parts c.in_ok-parts.ensures.within c.in-Some.is) in
    terms-typed old c.requires.sound c.args.law.now c.args.i c.args.j s.0 u.0 s.1 u.1 c.conclusion-first.result c.conclusion-second.result c.conclusion-first.ensures.within c.conclusion-second.ensures.within
    c.conclusion-first.ensures.is c.conclusion-second.ensures.is c.as_slice-2.result.now c.as_slice-3.result.now below e c.as_slice.result.now (c.as_slice.ensures ∙ c.in_ok-names.ensures)

pub returns-in-Err-clause-reaches : goal.returns-in-Err-clause-reaches
returns-in-Err-clause-reaches g c =
    let old = c.args.proof.now in
    let s = some-of (line_at (sequents old) c.args.i) c.requires.first in
    let u = some-of (line_at (sequents old) c.args.j) c.requires.second in
    let parts = as_applied (tree_at old.nodes c.conclusion-first.result) (tree_at old.nodes c.conclusion-second.result) in
    let e = parts-as-slices old.nodes c.in_ok-parts.parts c.in-Some.parts parts c.as_slice-2.result.now c.as_slice-3.result.now c.in_ok-parts.ensures.parts c.in-Some.is c.as_slice-2.ensures c.as_slice-3.ensures in
    let below = subst (λ (ids : List ℕ). AllBelow (length old.nodes) ids) (sym c.as_slice-3.ensures) (within-some old.nodes c.in_ok-parts.parts c.in-Some.parts c.in_ok-parts.ensures.within c.in-Some.is) in
    instance-fails old c.requires.sound c.args.law.now c.args.i c.args.j s.0 u.0 s.1 u.1 c.conclusion-first.result c.conclusion-second.result c.conclusion-first.ensures.within c.conclusion-second.ensures.within
    c.conclusion-first.ensures.is c.conclusion-second.ensures.is c.as_slice-2.result.now c.as_slice-3.result.now below e c.as_slice.result.now (c.as_slice.ensures ∙ c.in_ok-names.ensures)
    c.instance_at.new.proof c.in-Err.fault c.in-Err.ensures.reaches

pub returns-clause-reaches : goal.returns-clause-reaches
returns-clause-reaches g c =
    let old = c.args.proof.now in
    let s = some-of (line_at (sequents old) c.args.i) c.requires.first in
    let u = some-of (line_at (sequents old) c.args.j) c.requires.second in
    let parts = as_applied (tree_at old.nodes c.conclusion-first.result) (tree_at old.nodes c.conclusion-second.result) in
    let e = parts-as-slices old.nodes c.in_ok-parts.parts c.in-Some.parts parts c.as_slice-2.result.now c.as_slice-3.result.now c.in_ok-parts.ensures.parts c.in-Some.is c.as_slice-2.ensures c.as_slice-3.ensures in
    let below = subst (λ (ids : List ℕ). AllBelow (length old.nodes) ids) (sym c.as_slice-3.ensures) (within-some old.nodes c.in_ok-parts.parts c.in-Some.parts c.in_ok-parts.ensures.within c.in-Some.is) in
    let mid = c.instance_at.new.proof in
    same-reaches c.chain.new.proof c.chain.result (with_line (sequents mid) c.in-Ok.number (detached_by (sequents mid) (c.args.i ∷ c.args.j ∷ [])))
    (whole old c.requires.sound c.args.law.now c.args.i c.args.j s.0 u.0 s.1 u.1 c.conclusion-first.result c.conclusion-second.result c.conclusion-first.ensures.within c.conclusion-second.ensures.within
    c.conclusion-first.ensures.is c.conclusion-second.ensures.is)
    (applied-goes old c.requires.sound c.args.law.now c.args.i c.args.j s.0 u.0 s.1 u.1 c.conclusion-first.result c.conclusion-second.result c.conclusion-first.ensures.within c.conclusion-second.ensures.within
    c.conclusion-first.ensures.is c.conclusion-second.ensures.is c.as_slice-2.result.now c.as_slice-3.result.now below e c.as_slice.result.now (c.as_slice.ensures ∙ c.in_ok-names.ensures)
    mid c.instance_at.ensures.carries c.in-Ok.number c.in-Ok.ensures.reaches)
    c.chain.ensures.reaches
