-- The values of the tuple that is kept.
use Rattle.std.proofs.Common.{◌∙◌, ap, sym, map}
use Rattle.gm_value.specs.Numbers.{number_of}
use Rattle.gm_value.specs.Tuples.{values_at}
use Rattle.gm_totals.proofs.Joining.{kept-new, kept-held}
use Rattle.gm_totals.proofs.entries.kept_at.Goals as goal

pub returns-then-fold_tuple : goal.returns-then-fold_tuple
returns-then-fold_tuple c =
    let held = map number_of c.args.held.now in
    let new = map number_of c.args.new.now in
    c.in_ok-values.ensures ∙ ap (values_at c.args.held.now) (sym (kept-new c.args.reduce held new (sym c.fold_tuple.ensures ∙ c.if-fold_tuple.true)))

pub returns : goal.returns
returns c =
    let held = map number_of c.args.held.now in
    let new = map number_of c.args.new.now in
    c.in_ok-values-2.ensures ∙ ap (values_at c.args.held.now) (sym (kept-held c.args.reduce held new (sym c.fold_tuple.ensures ∙ c.if-fold_tuple.false)))
