use Rattle.std.proofs.Common.{◌≡◌, map, drop}
use Rattle.gm_token.specs.Words.{word_in}
use Rattle.gm_token.proofs.lookups.word_in.Given as goal

abbrev pub invariant-loop-known : goal.invariant-loop-known
invariant-loop-known l = word_in (map (λ row. (row.0.now, row.1)) (drop l.known-index l.table)) l.spelling ≡ word_in (map (λ row. (row.0.now, row.1)) l.table) l.spelling
