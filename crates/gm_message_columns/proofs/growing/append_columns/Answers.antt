-- One more column has the rows of the one beside it.
use Rattle.std.proofs.Common.{◌<◌, ap, length, refl, sym, arith}
use Rattle.gm_message_columns.specs.MessageTables.{all_values, joined}
use Rattle.gm_message_columns.proofs.TableLemmas.{joined-none, next-column, next-type}
use Rattle.gm_message_columns.proofs.growing.append_columns.Goals as goal

pub loop-k-init : goal.loop-k-init
loop-k-init c = sym (joined-none c.args.columns.now.items)

pub append_column-requires : goal.append_column-requires
append_column-requires c =
    let low : c.loop-k.k < length c.args.columns.now.items = omega (arith, c.loop-k-test.true, c.len-count.ensures, c.args.columns.now.ok) in
    next-type c.args.columns.now.items c.args.others.now c.loop-k.columns.items (all_values c.args.others.now) c.loop-k.k c.index_mut.result.now c.index-others-k.result
    c.loop-k.invariant c.requires low c.index_mut.ensures.value c.index-others-k.is

pub loop-k-preserved : goal.loop-k-preserved
loop-k-preserved c =
    let low : c.loop-k.k < length c.args.columns.now.items = omega (arith, c.loop-k-test.true, c.len-count.ensures, c.args.columns.now.ok) in
    next-column (λ column. column.values) c.args.columns.now.items c.args.others.now c.loop-k.columns.items c.loop-k.k c.index_mut.result.now c.index-others-k.result c.append_column.new.column c.index-others-k.result.values
    c.loop-k.invariant c.requires low c.index_mut.ensures.value c.index-others-k.is c.append_column.ensures.vtype c.in_ok-append_column.ensures.added refl
