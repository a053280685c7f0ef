use Rattle.std.proofs.Common.{◌≡◌, ◌<◌, ◌∙◌, length, sym, refl, arith, rules}
use Rattle.std.specs.Prelude.{Some}
use Rattle.gm_fields.proofs.Digits.{go, number_go}
use Rattle.gm_fields.proofs.Parting.{drop_all}
use Rattle.gm_fields.proofs.number_in.Goals as goal

pub returns : goal.returns
returns c =
    let field = c.args.field.now in
    let end : c.loop-b.b-index ≡ length field = omega arith in
    let read : go 0 field ≡ Some c.loop-b.number = c.loop-b.invariant ∙ rw (end, drop_all field) refl in
    let some : 0 < length field = search rules in
    sym read ∙ number_go field some
