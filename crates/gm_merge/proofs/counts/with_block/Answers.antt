use Rattle.std.proofs.Common.{◌≡◌, ◌+◌, ℕ, min, List, length, map, sym, ap, ◌∙◌, arith}
use Rattle.std.proofs.lemmas.List.{length-map}
use Rattle.gm_image.specs.declared.images.Handler as H
use Rattle.gm_image.specs.Views.{line, handler, block}
use Rattle.gm_image.specs.Rows.{block_rows}
use Rattle.gm_verify.specs.Checks.{all_handlers_rows}
use Rattle.gm_verify.proofs.Counting.{counts, length-block}
use Rattle.gm_merge.proofs.counts.with_block.Goals as goal

pub returns : goal.returns
returns c =
    let start = c.args.start in
    let one = c.args.one.now in
    let own = length (all_handlers_rows (map handler c.as_slice.result.now)) in
    let b = counts (start + 1) c.with_lines-header.result own c.with_handlers-handlers.result c.with_lines-header.ensures c.with_handlers-handlers.ensures in
    let d = counts (start + 1 + own) c.with_handlers-handlers.result 1 c.with_lines-body.result b c.with_lines-body.ensures in
    let e = counts (start + 1 + own + 1) c.with_lines-body.result c.len.result c.with_lines.result d c.with_lines.ensures in
    let same : own ≡ length (all_handlers_rows (map handler one.handlers)) = ap (λ (hs : List H.Handler). length (all_handlers_rows (map handler hs))) c.as_slice.ensures in
    let body : length (block one).body ≡ length one.body = length-map one.body line in
    let total : start + 1 + own + 1 + c.len.result ≡ start + length (block_rows (block one)) = omega (arith, length-block (block one), same, body, c.len.ensures) in
    e ∙ ap (λ (k : ℕ). min k 4294967296) total
