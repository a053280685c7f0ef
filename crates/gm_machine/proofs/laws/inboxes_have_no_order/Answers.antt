-- The step of a vertex takes its inbox as a bag.
use Rattle.gm_image.specs.Rows.{handled_lines}
use Rattle.gm_machine.specs.Machine.{block_at}
use Rattle.gm_machine.proofs.OrderLaws.{vertex-permuted}
use Rattle.gm_machine.proofs.SoundFolds.{reduction_in, sound-folds}
use Rattle.gm_machine.proofs.laws.inboxes_have_no_order.Goals as goal

pub returns-clause-folded : goal.returns-clause-folded
returns-clause-folded c = vertex-permuted

pub returns-clause-sound : goal.returns-clause-sound
returns-clause-sound c = λ p q s inbox other fields sound same.
    vertex-permuted p (block_at p q) s inbox other fields (reduction_in (handled_lines (block_at p q))) (sound-folds p sound q) same
