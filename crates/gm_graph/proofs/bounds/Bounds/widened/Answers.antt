use Rattle.std.proofs.Common.{List, ℕ, arith, subst}
use Rattle.std.proofs.lemmas.List.{take_all}
use Rattle.gm_graph.specs.Numberings.{IsWidened}
use Rattle.gm_graph.proofs.Numbering.{widened-start, widened-more}
use Rattle.gm_graph.proofs.bounds.Bounds.widened.Goals as goal

pub loop-place-init : goal.loop-place-init
loop-place-init c = widened-start c.args.self

pub loop-place-preserved : goal.loop-place-preserved
loop-place-preserved c = rw (c.min.ensures, c.max.ensures, c.get-number.ensures) (widened-more c.args.self c.loop-place.bounds c.args.numbers.now c.loop-place.place (omega (arith, c.loop-place-test.true, c.len-place-end.ensures.len)) c.loop-place.invariant)

pub returns : goal.returns
returns c =
    let P : List ℕ → Type 0 = λ l. IsWidened c.args.self l c.loop-place.bounds in
    subst P (take_all c.loop-place.place c.args.numbers.now (omega (arith, c.loop-place-test.false, c.len-place-end.ensures.len))) c.loop-place.invariant
