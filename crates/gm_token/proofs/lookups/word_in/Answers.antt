use Rattle.std.proofs.Common.{sym, ◌∙◌, map, refl}
use Rattle.std.specs.Prelude.{Some, bytes_eq}
use Rattle.gm_token.specs.Words.{word_in}
use Rattle.gm_token.proofs.Tables.{found_at, passed_at}
use Rattle.gm_token.proofs.lookups.word_in.Goals as goal

pub returns-then-same : goal.returns-then-same
returns-then-same c = found_at (λ rows. word_in (map (λ row. (row.0.now, row.1)) rows) c.args.spelling.now) (λ row. bytes_eq row.0.now c.args.spelling.now) (λ row. Some row.1) (λ r rs. refl) c.args.table.now c.loop-known.known-index _ c.loop-known.invariant c.loop-known-test.true (sym c.same.ensures ∙ c.if-same.true)

pub loop-known-preserved : goal.loop-known-preserved
loop-known-preserved c = passed_at (λ rows. word_in (map (λ row. (row.0.now, row.1)) rows) c.args.spelling.now) (λ row. bytes_eq row.0.now c.args.spelling.now) (λ row. Some row.1) (λ r rs. refl) c.args.table.now c.loop-known.known-index _ c.loop-known.invariant c.loop-known-test.true (sym c.same.ensures ∙ c.if-same.false)
