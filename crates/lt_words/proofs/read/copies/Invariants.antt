use Rattle.std.proofs.Common.{◌≡◌, map, take}
use Rattle.lt_words.proofs.read.copies.Given as goal

abbrev pub invariant-loop-word : goal.invariant-loop-word
invariant-loop-word l = l.texts.items ≡ map (λ v. v.now) (take l.word-index l.words)
