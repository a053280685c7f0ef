use Rattle.std.proofs.Common.{◌≡◌, ◌+◌, ◌∙◌, ℕ, min, List, length, map, sym, ap, arith}
use Rattle.std.specs.List.{flat_map}
use Rattle.std.proofs.lemmas.List.{length-map}
use Rattle.gm_image.specs.declared.images.Block as B
use Rattle.gm_image.specs.Views.{program, input, output, block, command}
use Rattle.gm_image.specs.Rows.{block_rows, line_count}
use Rattle.gm_verify.proofs.Counting.{counts, length-text}
use Rattle.gm_merge.proofs.counts.count_lines.Goals as goal

pub returns : goal.returns
returns c =
    let image = c.args.image.now in
    let p = program image in
    let own = length (flat_map block_rows (map block c.as_slice.result.now)) in
    let all-1 = 13 + c.len.result in
    let sum-2 = counts all-1 c.with_lines-inputs.result c.len-2.result c.with_lines-outputs.result c.with_lines-inputs.ensures c.with_lines-outputs.ensures in
    let all-2 = all-1 + c.len-2.result in
    let sum-3 = counts all-2 c.with_lines-outputs.result c.len-3.result c.with_lines-globals.result sum-2 c.with_lines-globals.ensures in
    let all-3 = all-2 + c.len-3.result in
    let sum-4 = counts all-3 c.with_lines-globals.result c.len-4.result c.with_lines-fields.result sum-3 c.with_lines-fields.ensures in
    let all-4 = all-3 + c.len-4.result in
    let sum-5 = counts all-4 c.with_lines-fields.result c.len-5.result c.with_lines-registers.result sum-4 c.with_lines-registers.ensures in
    let all-5 = all-4 + c.len-5.result in
    let sum-6 = counts all-5 c.with_lines-registers.result c.len-6.result c.with_lines-columns.result sum-5 c.with_lines-columns.ensures in
    let all-6 = all-5 + c.len-6.result in
    let sum-7 = counts all-6 c.with_lines-columns.result c.len-7.result c.with_lines-kinds.result sum-6 c.with_lines-kinds.ensures in
    let all-7 = all-6 + c.len-7.result in
    let sum-8 = counts all-7 c.with_lines-kinds.result c.len-8.result c.with_lines-places.result sum-7 c.with_lines-places.ensures in
    let all-8 = all-7 + c.len-8.result in
    let sum-9 = counts all-8 c.with_lines-places.result own c.with_blocks-blocks.result sum-8 c.with_blocks-blocks.ensures in
    let sum-10 = counts (all-8 + own) c.with_blocks-blocks.result c.len-9.result c.with_lines.result sum-9 c.with_lines.ensures in
    let same : own ≡ length (flat_map block_rows p.blocks) = ap (λ (bs : List B.Block). length (flat_map block_rows (map block bs))) c.as_slice.ensures in
    let inputs : length p.inputs ≡ length image.inputs = length-map image.inputs input in
    let outputs : length p.outputs ≡ length image.outputs = length-map image.outputs output in
    let master : length p.master ≡ length image.master = length-map image.master command in
    let total : all-8 + own + c.len-9.result ≡ line_count p =
    omega (arith, length-text p, same, inputs, outputs, master, c.len.ensures, c.len-2.ensures, c.len-3.ensures, c.len-4.ensures, c.len-5.ensures, c.len-6.ensures, c.len-7.ensures, c.len-8.ensures, c.len-9.ensures) in
    sum-10 ∙ ap (λ (k : ℕ). min k 4294967296) total
