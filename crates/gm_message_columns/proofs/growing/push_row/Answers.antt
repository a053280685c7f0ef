-- One more column has a row more.
use Rattle.std.proofs.Common.{◌≡◌, ◌<◌, ◌∷◌, [], None, List, ap, get_or, length, subst, sym, take, arith}
use Rattle.std.proofs.lemmas.Option.{get_or_from_slice_get}
use Rattle.gm_value.specs.declared.values.VType.{VType}
use Rattle.gm_value.specs.declared.values.Value.TheVariants.{At}
use Rattle.gm_columns.specs.Columns.{CanHold, TypedRow}
use Rattle.gm_message_columns.specs.MessageTables.{joined, values_in_row}
use Rattle.gm_message_columns.proofs.TableLemmas.{joined-long, joined-none, next-column, next-type}
use Rattle.gm_message_columns.proofs.growing.push_row.Goals as goal

pub loop-k-init : goal.loop-k-init
loop-k-init c = sym (joined-none c.args.columns.now.items)

pub index_mut-requires : goal.index_mut-requires
index_mut-requires c =
    let old : List TypedRow = c.args.columns.now.items in
    omega (arith, c.loop-k-test.true, c.len-count.ensures, c.args.columns.now.ok, c.loop-k.columns.ok, ap length c.loop-k.invariant, joined-long old (take c.loop-k.k (values_in_row c.args.others.now c.args.row)))

pub push-requires : goal.push-requires
push-requires c =
    let low : c.loop-k.k < length c.args.columns.now.items = omega (arith, c.loop-k-test.true, c.len-count.ensures, c.args.columns.now.ok) in
    let held : c.index_mut.result.now.vtype ≡ c.index-others-k.result.vtype =
    next-type c.args.columns.now.items c.args.others.now c.loop-k.columns.items (values_in_row c.args.others.now c.args.row) c.loop-k.k c.index_mut.result.now c.index-others-k.result
    c.loop-k.invariant c.requires.types low c.index_mut.ensures.value c.index-others-k.is in
    subst (λ (t : VType). CanHold t c.get.result) (sym held) c.get.ensures.held

pub loop-k-preserved : goal.loop-k-preserved
loop-k-preserved c =
    let low : c.loop-k.k < length c.args.columns.now.items = omega (arith, c.loop-k-test.true, c.len-count.ensures, c.args.columns.now.ok) in
    next-column (λ column. get_or column.values c.args.row (At None) ∷ []) c.args.columns.now.items c.args.others.now c.loop-k.columns.items c.loop-k.k c.index_mut.result.now c.index-others-k.result c.push.new.self (c.get.result ∷ [])
    c.loop-k.invariant c.requires.types low c.index_mut.ensures.value c.index-others-k.is c.in_ok-push.ensures.vtype c.in_ok-push.ensures.added
    (ap (λ v. v ∷ []) (sym (get_or_from_slice_get c.index-others-k.result.values c.args.row c.get.result (At None) c.get.ensures.value)))
