-- One more row stands behind the column.
use Rattle.std.proofs.Common.{◌∙◌, ◌++◌, ◌∷◌, [], ap, append_assoc, sym, take}
use Rattle.std.proofs.lemmas.List.{take_more}
use Rattle.std.proofs.lemmas.Option.{get_or_from_slice_get, slice_get_within}
use Rattle.gm_message_columns.proofs.growing.append_column.Goals as goal

pub loop-row-preserved : goal.loop-row-preserved
loop-row-preserved c =
    let row = c.loop-row.row in
    let all = c.args.other.now.values in
    let old = c.args.column.now.values in
    let v = c.get.result in
    let more = take_more all row v (slice_get_within all row v c.get.ensures.value) ∙ ap (λ w. take row all ++ w ∷ []) (get_or_from_slice_get all row v v c.get.ensures.value) in
    record {
      vtype = c.in_ok-push.ensures.vtype ∙ c.loop-row.invariant.vtype;
      values = c.in_ok-push.ensures.added ∙ ap (λ l. l ++ v ∷ []) c.loop-row.invariant.values ∙ append_assoc old (take row all) (v ∷ []) ∙ ap (λ l. old ++ l) (sym more);
    }
