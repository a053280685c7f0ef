-- The next types are the same.
use Rattle.std.proofs.Common.{◌≡◌, ◌<◌, ◌∙◌, ap, get_or, length, sym, rules}
use Rattle.std.proofs.lemmas.List.{get_or_read}
use Rattle.gm_columns.specs.Columns.{TypedRow}
use Rattle.gm_message_columns.proofs.TableLemmas.{types-more}
use Rattle.gm_message_columns.proofs.growing.same_types.Goals as goal

pub loop-k-preserved : goal.loop-k-preserved
loop-k-preserved c =
    let k = c.loop-k.k in
    let d : TypedRow = c.index-columns-k.result in
    let one : k < length c.args.columns.now = search rules in
    let two : k < length c.args.others.now = search rules in
    let left : c.index-columns-k.result ≡ get_or c.args.columns.now k d = get_or_read c.args.columns.now k c.index-columns-k.result one c.index-columns-k.is d in
    let right : c.index-others-k.result ≡ get_or c.args.others.now k d = get_or_read c.args.others.now k c.index-others-k.result two c.index-others-k.is d in
    let equal : c.vtype.result ≡ c.vtype-in-loop-k.result = search (rules, c.if-ne.ensures) in
    let next : (get_or c.args.columns.now k d).vtype ≡ (get_or c.args.others.now k d).vtype =
    ap (λ (x : TypedRow). x.vtype) (sym left) ∙ sym c.vtype.ensures.vtype ∙ equal ∙ c.vtype-in-loop-k.ensures.vtype ∙ ap (λ (x : TypedRow). x.vtype) right in
    types-more c.args.columns.now c.args.others.now k d one two c.loop-k.invariant next
