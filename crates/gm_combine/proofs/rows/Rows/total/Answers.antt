-- The row of the kind is in order.
use Rattle.std.proofs.Common.{◌≡◌, ◌<◌, None, length, sym, subst, ap, ◌∙◌, get_or}
use Rattle.gm_combine.specs.Held.{IsRow, row_at, HasPlace}
use Rattle.gm_combine.proofs.Picking.{any-default}
use Rattle.gm_combine.proofs.rows.Rows.total.Goals as goal

pub total_at-requires : goal.total_at-requires
total_at-requires c =
    let kinds = c.self.inside.kinds.items in
    let k = c.args.kind in
    let held = c.index-kinds-kind.result in
    let here : k < length kinds = subst (λ xs. k < length xs) c.as_slice-kinds.ensures.value c.if-kind-kinds.true in
    let row : held ≡ row_at kinds k = c.index-kinds-kind.is ∙ ap (λ xs. get_or xs k held) c.as_slice-kinds.ensures.value ∙ any-default kinds k held None here in
    let within = rw (← c.self.view_is) at c.requires in
    record {
      width = c.self.inside.width;
      messages = c.self.inside.messages;
      is = subst (IsRow c.self.inside.width c.self.inside.messages) (sym row) (c.self.invariant.1 k);
      few = c.self.invariant.0;
      within = within;
    }
