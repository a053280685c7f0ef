use Rattle.std.proofs.Common.{◌≡◌, ◌∙◌, ◌+◌, ◌++◌, ◌∷◌, [], ℕ, List, sym, ap, map, length, arith, length-append}
use Rattle.std.proofs.lemmas.Grind.{common_steps}
use Rattle.std.proofs.lemmas.List.{map-append, length-map}
use Rattle.gm_image.specs.declared.images.Block as B
use Rattle.gm_image.specs.Program.{Block}
use Rattle.gm_image.specs.Views.{block}
use Rattle.gm_merge.specs.Trimmed.{kept_before, kept_blocks}
use Rattle.gm_merge.specs.Numbers.{flag_at}
use Rattle.gm_merge.proofs.Numbering.{kept-next}
use Rattle.gm_merge.proofs.trimming.keep_blocks.Goals as goal

pub loop-one-preserved : goal.loop-one-preserved
loop-one-preserved c =
    let fs = c.args.flags.now in
    let done = c.loop-one.yielded in
    let x = c.in-Some.one in
    let inv = c.loop-one.invariant in
    let number : 0 + length (map block done) ≡ c.loop-one.number = omega (arith, length-map done block, inv.number) in
    record {
      rest = grind (arith, common_steps);
      kept =
          c.in_ok-keep_block.ensures
          ∙ ap (λ (bs : List Block). bs ++ kept_before (flag_at fs c.loop-one.number) (block x) []) inv.kept
          ∙ ap (λ (n : ℕ). kept_blocks (flag_at fs) 0 (map block done) ++ kept_before (flag_at fs n) (block x) []) (sym number)
          ∙ sym (kept-next (flag_at fs) 0 (map block done) (block x))
          ∙ ap (kept_blocks (flag_at fs) 0) (sym (map-append block done (x ∷ [])));
      number = let long = length-append done (x ∷ []) in omega (arith, long, inv.number);
      long = grind (arith, common_steps);
    }
