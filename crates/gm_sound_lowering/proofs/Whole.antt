-- The image of a program of which all is asked is sound.
use Rattle.std.proofs.Common.{◌≡◌, true, false, arith}
use Rattle.std.specs.Prelude.{◌&&◌, ◌||◌}
use Rattle.gm_ast.specs.Program.{Program}
use Rattle.gm_forms.proofs.Named.{both-true}
use Rattle.gm_forms.proofs.Weaker.{weaker}
use Rattle.gm_forms.specs.Cut.{is_own_loop, is_mask, is_along_edges, is_cut, is_flipped}
use Rattle.gm_forms.specs.Forms.{is_flat_loop, no_loop, goes_out, is_levelled}
use Rattle.gm_image.specs.declared.rules.ImageRule.{ImageRule}
use Rattle.gm_image.specs.declared.rules.ImageRule.TheVariants.{I1, I2, I3, I4, I5, I6, I7, I8, I9, I10}
use Rattle.gm_sound_lowering.specs.Laws.{KeepsRule, ImagesAreSound}
use Rattle.gm_sound_lowering.proofs.DepthBlocks.{images-are-shallow}
use Rattle.gm_sound_lowering.proofs.FoldBlocks.{folds-go-one-way}
use Rattle.gm_sound_lowering.proofs.Jumps.{master-lists-lead}
use Rattle.gm_sound_lowering.proofs.Names.{names-keep}
use Rattle.gm_sound_lowering.proofs.PutBlocks.{puts-go-one-way}
use Rattle.gm_sound_lowering.proofs.Sound.{rules-make-sound}
use Rattle.gm_sound_lowering.proofs.Spans.{spans-stay}
use Rattle.gm_sound_lowering.proofs.Typed.{lines-have-types}

-- the last form has no reductions in expressions and no searches
pub levelled-flipped : (p : Program) → is_flipped p ≡ true → is_levelled p ≡ true
levelled-flipped p h =
    weaker (is_cut goes_out p.declarations) (is_flat_loop p.declarations false) no_loop no_loop
    (λ n e s k. (both-true (is_flat_loop p.declarations false n e s) (is_own_loop n s || (is_mask n e && is_along_edges (goes_out p.declarations) p.declarations n e s)) k).0) (λ n e s k. k) p.declarations p.body h

pub images-are-sound : ImagesAreSound
images-are-sound p asked names free shallow few lines = rules-make-sound p by lines where
  by : (rule : ImageRule) → KeepsRule rule p
  by I1 = (lines-have-types p asked).0
  by I2 = (lines-have-types p asked).2 (images-are-shallow 512 p (omega arith) shallow few)
  by I3 = (master-lists-lead p).0
  by I4 = (master-lists-lead p).1
  by I5 = (master-lists-lead p).2
  by I6 = spans-stay p
  by I7 = (lines-have-types p asked).1
  by I8 = folds-go-one-way p (levelled-flipped p asked.form) asked.typed asked.named free
  by I9 = puts-go-one-way p asked.typed asked.named free
  by I10 = names-keep p asked.interface names
