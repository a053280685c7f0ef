use Rattle.std.proofs.Common.{◌+◌, ◌*◌, refl, sym, ap, ◌∙◌, arith}
use Rattle.gm_loader.proofs.QuickLemmas.{digits_more, spelled_more}
use Rattle.gm_loader.proofs.quick.leading_digits.Goals as goal

pub loop-end-preserved : goal.loop-end-preserved
loop-end-preserved c = record {
  digits = digits_more c.args.text.now c.loop-end.end _ c.loop-end-test.true refl (omega arith) (omega arith) c.loop-end.invariant.digits;
  spelled =
      spelled_more c.args.text.now c.loop-end.end _ c.loop-end.number c.loop-end-test.true refl c.loop-end.invariant.spelled
      ∙ ap (λ k. 10 * c.loop-end.number + k) (sym c.from.ensures);
  small = omega arith;
}
