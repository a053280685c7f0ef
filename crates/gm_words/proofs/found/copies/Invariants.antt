use Rattle.std.proofs.Common.{◌≡◌, map, take}
use Rattle.gm_words.proofs.found.copies.Given as goal

abbrev pub invariant-loop-word : goal.invariant-loop-word
invariant-loop-word l = l.copies.items ≡ map (λ w. w.now) (take l.word-index l.words)
