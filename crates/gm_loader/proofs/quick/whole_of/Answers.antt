use Rattle.std.proofs.Common.{◌-◌, length, take, drop, sym, ap, ◌∙◌, arith}
use Rattle.gm_fields.specs.Fields.{is_blank}
use Rattle.gm_fields.proofs.Parting.{behind}
use Rattle.gm_loader.proofs.QuickLemmas.{begins_whole}
use Rattle.gm_loader.proofs.quick.whole_of.Goals as goal

pub returns : goal.returns
returns c =
    let line = c.args.line.now in
    let end = c.in_ok-digits.digits.end in
    begins_whole line (take (length line - 1) (drop 1 line)) _ c.in_ok-digits.digits.number end (ap is_blank (sym c.first_byte.ensures) ∙ (sym c.is_blank.ensures ∙ c.if-not-is_blank.false)) (behind 1 line)
    c.in_ok-digits.ensures (omega (arith, c.if-digits-eq0.false)) (behind end _) (sym c.ends_part.ensures ∙ c.if-not-ends_part.false)
