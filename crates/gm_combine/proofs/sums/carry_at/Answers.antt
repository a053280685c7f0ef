-- A carry of 0 changes nothing.
use Rattle.std.proofs.Common.{◌≡◌, ℤ, pos, ◌+ℤ◌, get_or, set, sym, ap, ◌∙◌, arith}
use Rattle.std.proofs.lemmas.Int.{ints}
use Rattle.std.proofs.lemmas.List.{set-get_or}
use Rattle.gm_combine.proofs.sums.carry_at.Goals as goal

pub returns-else-carry-ne0 : goal.returns-else-carry-ne0
returns-else-carry-ne0 c =
    let held = get_or c.args.carried.now.items c.args.place (pos 0) in
    let same : c.args.carry +ℤ held ≡ held = omega (arith, ints, c.if-carry-ne0.false) in
    sym (ap (set c.args.carried.now.items c.args.place) same ∙ set-get_or c.args.carried.now.items c.args.place (pos 0))
