use Rattle.std.proofs.Common.{◌≡◌, map, drop}
use Rattle.gm_token.specs.Fronts.{first_symbol}
use Rattle.gm_token.proofs.lookups.symbol_in.Given as goal

abbrev pub invariant-loop-spelling : goal.invariant-loop-spelling
invariant-loop-spelling l = first_symbol (map (λ row. (row.0.now, row.1)) (drop l.spelling-index l.table)) l.text ≡ first_symbol (map (λ row. (row.0.now, row.1)) l.table) l.text
