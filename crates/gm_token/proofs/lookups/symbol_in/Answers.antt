use Rattle.std.proofs.Common.{sym, ◌∙◌, map, length, refl}
use Rattle.std.specs.Prelude.{Some}
use Rattle.gm_token.specs.Fronts.{first_symbol, fits_front}
use Rattle.gm_token.proofs.Tables.{found_at, passed_at}
use Rattle.gm_token.proofs.lookups.symbol_in.Goals as goal

pub returns-then-begins_symbol : goal.returns-then-begins_symbol
returns-then-begins_symbol c = found_at (λ rows. first_symbol (map (λ row. (row.0.now, row.1)) rows) c.args.text.now) (λ row. fits_front c.args.text.now (row.0.now, row.1)) (λ row. Some (row.1, length row.0.now)) (λ r rs. refl) c.args.table.now c.loop-spelling.spelling-index _ c.loop-spelling.invariant c.loop-spelling-test.true (sym c.begins_symbol.ensures ∙ c.if-begins_symbol.true)

pub loop-spelling-preserved : goal.loop-spelling-preserved
loop-spelling-preserved c = passed_at (λ rows. first_symbol (map (λ row. (row.0.now, row.1)) rows) c.args.text.now) (λ row. fits_front c.args.text.now (row.0.now, row.1)) (λ row. Some (row.1, length row.0.now)) (λ r rs. refl) c.args.table.now c.loop-spelling.spelling-index _ c.loop-spelling.invariant c.loop-spelling-test.true (sym c.begins_symbol.ensures ∙ c.if-begins_symbol.false)
