use Rattle.std.proofs.Common.{◌<◌, ◌≤◌, ◌∙◌, true, ap, length, arith}
use Rattle.gm_prepare.specs.Placing.{placed}
use Rattle.gm_prepare.proofs.Placing.{set-placed, beyond}
use Rattle.gm_prepare.proofs.iterators.place_inner.Goals as goal

pub returns-then-i-len : goal.returns-then-i-len
returns-then-i-len c =
    let ds = c.args.declarations.now.items in
    let here : c.args.variable < length ds = omega (arith, c.if-i-len.true, c.len.ensures) in
    set-placed ds c.args.variable c.index_mut.result.now c.place.new.declaration here (c.place.ensures ∙ ap (placed true) c.index_mut.ensures.value)

pub returns-else-i-len : goal.returns-else-i-len
returns-else-i-len c =
    let ds = c.args.declarations.now.items in
    let there : length ds ≤ c.args.variable = omega (arith, c.if-i-len.false, c.len.ensures) in
    beyond ds c.args.variable there
