use Rattle.std.proofs.Common.{◌≡◌, map, drop}
use Rattle.gm_image_text.specs.Tables.{row_in}
use Rattle.gm_image_text.proofs.tables.word_in.Given as goal

abbrev pub invariant-loop-known : goal.invariant-loop-known
invariant-loop-known g l = row_in (map (λ row. (row.0.now, row.1)) (drop l.known-index l.table)) l.word ≡ row_in (map (λ row. (row.0.now, row.1)) l.table) l.word
