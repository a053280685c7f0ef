use Rattle.std.proofs.Common.{sym, ap, ◌∙◌, map, refl}
use Rattle.std.specs.Prelude.{Some, bytes_eq}
use Rattle.gm_image_text.specs.Tables.{row_in}
use Rattle.gm_image_text.proofs.LookUps.{found_at, passed_at}
use Rattle.gm_image_text.proofs.tables.word_in.Goals as goal

pub returns-then-same : goal.returns-then-same
returns-then-same g c =
    let item = c.loop-known-item.result in
    ap (λ row. Some row.1) c.loop-known-item.is
    ∙ found_at (λ rows. row_in (map (λ row. (row.0.now, row.1)) rows) c.args.word.now) (λ row. bytes_eq row.0.now c.args.word.now) (λ row. Some row.1) (λ r rs. refl) c.args.table.now c.loop-known.known-index item c.loop-known.invariant c.loop-known-test.true
    (ap (λ row. bytes_eq row.0.now c.args.word.now) (sym c.loop-known-item.is) ∙ sym c.same.ensures ∙ c.if-same.true)

pub loop-known-preserved : goal.loop-known-preserved
loop-known-preserved g c =
    let item = c.loop-known-item.result in
    passed_at (λ rows. row_in (map (λ row. (row.0.now, row.1)) rows) c.args.word.now) (λ row. bytes_eq row.0.now c.args.word.now) (λ row. Some row.1) (λ r rs. refl) c.args.table.now c.loop-known.known-index item c.loop-known.invariant c.loop-known-test.true
    (ap (λ row. bytes_eq row.0.now c.args.word.now) (sym c.loop-known-item.is) ∙ sym c.same.ensures ∙ c.if-same.false)
