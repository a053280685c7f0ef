-- How many lines a text has, at most the limit.
use Rattle.std.proofs.Common.{◌≡◌, ◌+◌, ◌<◌, ◌≤◌, ℕ, min, List, [], ◌∷◌, ◌++◌, length, map, drop, get_or, refl, sym, ap, ◌∙◌, arith, length-append}
use Rattle.std.specs.Prelude.{nat_lt, true, IsTrue, ◌↔◌}
use Rattle.std.proofs.lemmas.Bool.Decides.{nat_tests}
use Rattle.std.specs.List.{flat_map}
use Rattle.std.proofs.lemmas.List.{length-map}
use Rattle.gm_image.specs.declared.images.Handler as H
use Rattle.gm_image.specs.declared.images.Block as B
use Rattle.gm_image.specs.Program.{Program, Block}
use Rattle.gm_image.specs.Views.{handler, block}
use Rattle.gm_image.specs.Rows.{Row, Plain, InputRow, OutputRow, KindRow, rows_after, plain_rows, block_rows, command_rows, handled_lines, outside, rows, line_count}
use Rattle.gm_verify.specs.Checks.{all_handlers_rows}
use Rattle.gm_verify.specs.Tails.{from_inputs, from_outputs, from_result, from_globals, from_columns, from_kinds, from_blocks, from_master}
use Rattle.gm_verify.proofs.Commands.{length-command_rows}
use Rattle.gm_verify.proofs.Declared.{rest-at, length-rows_after}
use Rattle.gm_verify.proofs.Lists.{nothing-left}
use Rattle.gm_verify.proofs.Parts.{body_of, length-body_rows}
use Rattle.gm_verify.proofs.Wholes.{length-plains, long-globals, long-columns}

-- some more lines, where those so far are counted up to the limit
pub counts : (n c k d : ℕ) → c ≡ min n 4294967296 → d ≡ min (c + k) 4294967296 → d ≡ min (n + k) 4294967296
counts n c k d a b = omega (arith, a, b)

-- how many lines a block has
pub length-block : (b : Block) → length (block_rows b) ≡ 1 + length (all_handlers_rows b.handlers) + 1 + length b.body
length-block b =
    let body : length (body_of b) ≡ length b.body = length-body_rows b.body (handled_lines b) outside in
    omega (arith, body, length-append (all_handlers_rows b.handlers) (Plain ∷ body_of b))

-- how many lines the blocks that are left have
pub length-blocks-at : (bs : List B.Block) (i : ℕ) (x : B.Block) → i < length bs → x ≡ get_or bs i x
    → length (flat_map block_rows (map block (drop i bs))) ≡ length (block_rows (block x)) + length (flat_map block_rows (map block (drop (i + 1) bs)))
length-blocks-at bs i x lt is =
    ap (λ (ys : List Block). length (flat_map block_rows ys)) (rest-at block bs i x lt is)
    ∙ length-append (block_rows (block x)) (flat_map block_rows (map block (drop (i + 1) bs)))

pub length-blocks-end : (bs : List B.Block) (i : ℕ) → length bs ≤ i → length (flat_map block_rows (map block (drop i bs))) ≡ 0
length-blocks-end bs i end = ap (λ (ys : List B.Block). length (flat_map block_rows (map block ys))) (nothing-left bs i end)

-- how many lines a text has, part by part
pub length-text : (p : Program) → line_count p ≡ 13 + length p.inputs + length p.outputs + length p.globals + length p.fields + length p.registers + length p.columns + length p.kinds + length p.places
    + length (flat_map block_rows p.blocks) + length p.master
length-text p =
    let master : length (command_rows 0 p.master) ≡ length p.master = length-command_rows p.master 0 in
    let blocks : length (from_blocks p) ≡ length (flat_map block_rows p.blocks) + length (from_master p) = length-append (flat_map block_rows p.blocks) (from_master p) in
    let places : length (plain_rows p.places ++ Plain ∷ from_blocks p) ≡ length p.places + length (Plain ∷ from_blocks p) = length-plains p.places (Plain ∷ from_blocks p) in
    let kinds : length (from_kinds p) ≡ length (map KindRow p.kinds) + length (Plain ∷ (plain_rows p.places ++ Plain ∷ from_blocks p)) =
    length-append (map KindRow p.kinds) (Plain ∷ (plain_rows p.places ++ Plain ∷ from_blocks p)) in
    let kinds_long : length (map KindRow p.kinds) ≡ length p.kinds = length-map p.kinds KindRow in
    let outputs : length (from_outputs p) ≡ length (rows_after OutputRow [] p.outputs) + length (from_result p) = length-append (rows_after OutputRow [] p.outputs) (from_result p) in
    let outputs_long : length (rows_after OutputRow [] p.outputs) ≡ length p.outputs = length-rows_after OutputRow p.outputs [] in
    let inputs : length (from_inputs p) ≡ length (rows_after InputRow [] p.inputs) + length (Plain ∷ from_outputs p) = length-append (rows_after InputRow [] p.inputs) (Plain ∷ from_outputs p) in
    let inputs_long : length (rows_after InputRow [] p.inputs) ≡ length p.inputs = length-rows_after InputRow p.inputs [] in
    omega (arith, master, blocks, places, kinds, kinds_long, outputs, outputs_long, inputs, inputs_long, long-globals p, long-columns p)

below : (n : ℕ) → n < 4294967296 → nat_lt n 4294967296 ≡ true
below n h = grind (arith, nat_tests, h)

under : (n : ℕ) → nat_lt n 4294967296 ≡ true → n < 4294967296
under n h = grind (arith, nat_tests, h)

-- whether lines that are counted up to the limit are fewer
pub counted : (r n : ℕ) → r ≡ min n 4294967296 → IsTrue (nat_lt r 4294967296) ↔ n < 4294967296
counted r n is = (
  λ t.
      let lt : r < 4294967296 = under r t in
      omega (arith, lt, is),
  λ lt.
      let low : r < 4294967296 = omega (arith, lt, is) in
      below r low,
)
