use Rattle.std.proofs.Common.{arith, inl, inr}
use Rattle.lt_run.proofs.InFiles.{at_first, at_next, at_index, at_inside, lengths_many, found_by}
use Rattle.lt_run.proofs.Lines.{names-some}
use Rattle.lt_run.proofs.places.find_place.Goals as goal
use Rattle.lt_run.proofs.places.find_place.Goals.{then-files-test+else-place-from, else-files-test}

pub files-init : goal.files-init
files-init c = λ held are joined. at_first held c.args.place (names-some c.args.names.now c.args.joined.now held c.requires are)

pub overflow_add-from : goal.overflow_add-from
overflow_add-from c =
    let h = c.files.invariant c.requires.held c.requires.named c.requires.joined in
    let size = at_index c.requires.held c.args.joined.now c.args.place c.files.file c.files.from c.index.result.now h c.requires.joined c.index.ensures in
    let inside = at_inside c.requires.held c.args.joined.now c.args.place c.files.file c.files.from h c.requires.joined in
    omega (arith, size, inside, c.args.joined.now.text.ok.0, c.args.joined.now.text.ok.1, c.args.joined.now.text.small)

pub files-preserved : goal.files-preserved
files-preserved c = λ held are joined.
    let h = c.files.invariant held are joined in
    let size = at_index held c.args.joined.now c.args.place c.files.file c.files.from c.index-in-files.result.now h joined c.index-in-files.ensures in
    let seen = at_index held c.args.joined.now c.args.place c.files.file c.files.from c.index.result.now h joined c.index.ensures in
    let many = lengths_many held c.args.joined.now joined in
    at_next held c.args.place c.files.file c.files.from c.index-in-files.result.now h size
    (omega (arith, c.files-test.true, c.len.ensures, c.args.joined.now.lengths.ok.0, many)) (omega (arith, size, seen, c.if-place-from.true))

pub returns : goal.returns
returns c = elim c.files-test.branch [
  | then-files-test+else-place-from w ↦ found_by c.args.names.now c.args.joined.now c.args.place c.files.file c.files.from c.index-2.result.now c.least-within.result c.requires c.files.invariant c.index-2.ensures
      c.least-within.ensures.first c.least-within.ensures.second c.least-within.ensures.one c.least-within.ensures.other (inr (w.index.result.now, w.index.ensures, w.if-place-from.false))
  | else-files-test w ↦ found_by c.args.names.now c.args.joined.now c.args.place c.files.file c.files.from c.index-2.result.now c.least-within.result c.requires c.files.invariant c.index-2.ensures
      c.least-within.ensures.first c.least-within.ensures.second c.least-within.ensures.one c.least-within.ensures.other
      (inl (omega (arith, w.files-test.false, c.len.ensures, c.args.joined.now.lengths.ok.0)))
]
