-- One more row has the values of the column beside it.
use Rattle.std.proofs.Common.{◌<◌, ◌∙◌, length, map, refl, sym, arith}
use Rattle.std.proofs.lemmas.List.{length-map, map-set}
use Rattle.gm_columns.specs.TypedRows.{typed_row}
use Rattle.gm_message_columns.specs.MessageTables.{all_values}
use Rattle.gm_message_columns.proofs.TableLemmas.{joined-none, next-column, next-type}
use Rattle.gm_message_columns.proofs.JoiningLemmas.{now-long, rows-read}
use Rattle.gm_message_columns.proofs.joining.append_all.Goals as goal

pub loop-k-init : goal.loop-k-init
loop-k-init c = sym (joined-none (map typed_row c.args.rows.now.items))

pub append-requires : goal.append-requires
append-requires c =
    let first = c.args.rows.now.items in
    let rows = c.loop-k.rows.items in
    let k = c.loop-k.k in
    let cells = c.index_mut.result.now in
    let few : k < length first = omega (arith, c.loop-k-test.true, c.len-count.ensures, c.args.rows.now.ok) in
    let low : k < length (map typed_row first) = omega (arith, few, length-map first typed_row) in
    let long = now-long first rows _ c.loop-k.invariant in
    let read = rows-read rows k cells (omega (arith, few, long)) c.index_mut.ensures.value in
    sym (next-type (map typed_row first) c.args.columns.now (map typed_row rows) (all_values c.args.columns.now) k (typed_row cells) c.index-columns-k.result c.loop-k.invariant c.requires low read c.index-columns-k.is)

pub loop-k-preserved : goal.loop-k-preserved
loop-k-preserved c =
    let first = c.args.rows.now.items in
    let rows = c.loop-k.rows.items in
    let k = c.loop-k.k in
    let cells = c.index_mut.result.now in
    let few : k < length first = omega (arith, c.loop-k-test.true, c.len-count.ensures, c.args.rows.now.ok) in
    let low : k < length (map typed_row first) = omega (arith, few, length-map first typed_row) in
    let long = now-long first rows _ c.loop-k.invariant in
    let read = rows-read rows k cells (omega (arith, few, long)) c.index_mut.ensures.value in
    map-set typed_row rows k c.append.new.rows
    ∙ next-column (λ column. column.values) (map typed_row first) c.args.columns.now (map typed_row rows) k (typed_row cells) c.index-columns-k.result (typed_row c.append.new.rows) c.index-columns-k.result.values
    c.loop-k.invariant c.requires low read c.index-columns-k.is c.append.ensures.vtype c.in_ok-append.ensures.values refl
