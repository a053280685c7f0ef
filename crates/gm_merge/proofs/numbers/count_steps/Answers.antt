use Rattle.std.proofs.Common.{◌≡◌, ◌∙◌, ◌<◌, ℕ, Option, min, length, sym, ap, take, map, arith}
use Rattle.gm_image.specs.Views.{command}
use Rattle.gm_merge.specs.Trimmed.{counted_before}
use Rattle.gm_merge.specs.Numbers.{step_block, is_named, step_count, count_at}
use Rattle.gm_merge.proofs.Numbering.{count-more, capped}
use Rattle.gm_merge.proofs.numbers.count_steps.Goals as goal

pub loop-line-preserved : goal.loop-line-preserved
loop-line-preserved c =
    let ms = c.args.master.now in
    let i = c.loop-line.line-index in
    let x = c.line-item.result in
    let inv = c.loop-line.invariant in
    record {
      long = c.add_one.ensures.long ∙ inv.long;
      counts = λ q l.
          let l' : q < length c.loop-line.counts.items = omega (arith, l, c.add_one.ensures.long) in
          capped (is_named (step_block (command x)) q) (count_at c.loop-line.counts.items q) (step_count q (map command (take i ms))) (count_at c.add_one.new.counts.items q)
          (c.add_one.ensures.counts q l' ∙ ap (λ (m : Option ℕ). min (counted_before (is_named m q) (count_at c.loop-line.counts.items q)) 255) c.step_block.ensures) (inv.counts q l')
          ∙ ap (λ (n : ℕ). min n 255) (sym (count-more q ms i x c.loop-line-test.true c.line-item.is));
    }
