use Rattle.std.proofs.Common.{◌+◌, ◌-◌, length, take, drop, get_or, refl, sym, ◌∙◌}
use Rattle.gm_fields.proofs.Parting.{behind}
use Rattle.gm_loader.proofs.QuickLemmas.{begins_edge}
use Rattle.gm_loader.proofs.quick.ends_of.Goals as goal

pub returns : goal.returns
returns c =
    let text = c.args.text.now in
    let end = c.in_ok-from.from.end in
    begins_edge c.args.text.now (take (length text - (end + 1)) (drop (end + 1) text)) _ (get_or text end 0) c.in_ok-from.from.number c.in_ok-to.to.number end c.in_ok-to.to.end
    c.in_ok-from.ensures refl (sym c.is_blank.ensures ∙ c.if-not-is_blank.false) (behind (end + 1) text) c.in_ok-to.ensures (behind c.in_ok-to.to.end _)
    (sym c.ends_field.ensures ∙ c.if-not-ends_field.false)
