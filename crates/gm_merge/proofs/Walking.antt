-- What the code's walk begins with, and what it leaves.
use Rattle.std.proofs.Common.{◌≡◌, ◌<◌, ◌∙◌, ℕ, Option, None, List, length, map, sym, ap, subst, arith}
use Rattle.std.specs.Prelude.{IsTrue, min}
use Rattle.std.proofs.lemmas.List.{length-map}
use Rattle.gm_image.specs.declared.images.Block as B
use Rattle.gm_image.specs.declared.images.Image.{Image}
use Rattle.gm_image.specs.declared.lines.MasterLine.{MasterLine}
use Rattle.gm_image.specs.Program.{Program}
use Rattle.gm_image.specs.Rows.{line_count}
use Rattle.gm_image.specs.Soundness.{is_sound}
use Rattle.gm_image.specs.Views.{block, command, program}
use Rattle.gm_machine.specs.Machine.{block_at}
use Rattle.gm_merge.specs.declared.joining.Kept.{Kept}
use Rattle.gm_merge.specs.declared.joining.Plan.{Plan}
use Rattle.gm_merge.specs.declared.joining.Walk.{Walk}
use Rattle.gm_merge.specs.Joining.{all_joined}
use Rattle.gm_merge.specs.Numbers.{is_target, step_count, flag_at, count_at}
use Rattle.gm_merge.specs.Walk.{IfKept, WalkStands, StandsFor}
use Rattle.gm_merge.proofs.Beginning.{start-stands, end-stands}

-- before the first line the walk stands for the image
pub walk-starts : (image : Image) (w : Walk) (plan : Plan) (seen : List MasterLine) (n : ℕ) (p : Program) → program image ≡ p → IsTrue (is_sound p)
    → w.blocks.items ≡ image.blocks → w.master.items ≡ image.master → w.lines ≡ min (line_count (program image)) 4294967296 → w.kept ≡ None
    → seen ≡ image.master → n ≡ length image.blocks → plan.registers ≡ image.registers → length plan.targets.items ≡ length seen
    → ((j : ℕ) → j < length seen → flag_at plan.targets.items j ≡ is_target (map command seen) j)
    → ((q : ℕ) → q < n → count_at plan.steps.items q ≡ min (step_count q (map command seen)) 255) → WalkStands w plan 0 p
walk-starts image w plan seen n p same sound bs ms count none all many rs marks targets steps =
    let seen-is : seen ≡ w.master.items = all ∙ sym ms in
    let seen-long : length seen ≡ length w.master.items = ap (λ (xs : List MasterLine). length xs) seen-is in
    let blocks-long : length w.blocks.items ≡ length image.blocks = ap (λ (xs : List B.Block). length xs) bs in
    record {
      walk = start-stands (map block w.blocks.items) (map command w.master.items) w.lines plan.targets.items plan.steps.items plan.registers p sound
          (rs ∙ ap (λ (q : Program). q.registers) same)
          (ap (map command) ms ∙ ap (λ (q : Program). q.master) same)
          (ap (map block) bs ∙ ap (λ (q : Program). q.blocks) same)
          (count ∙ ap (λ (q : Program). min (line_count q) 4294967296) same)
          (marks ∙ seen-long ∙ sym (length-map w.master.items command))
          (λ j l. subst (λ (xs : List MasterLine). flag_at plan.targets.items j ≡ is_target (map command xs) j) seen-is (targets j (omega (arith, l, length-map w.master.items command, seen-long))))
          (λ q l. subst (λ (xs : List MasterLine). count_at plan.steps.items q ≡ min (step_count q (map command xs)) 255) seen-is (steps q (omega (arith, l, length-map w.blocks.items block, many, blocks-long))));
      kept = λ a e. subst (λ (k : Option Kept). IfKept k (block_at p a)) (sym none) tt;
    }

-- behind the last one what it leaves, with the rest of the image, stands for the joined image
pub walk-ends : (image : Image) (w : Walk) (plan : Plan) (blocks : List B.Block) (master : List MasterLine) (i : ℕ) (p : Program) → program image ≡ p → WalkStands w plan i (all_joined p)
    → blocks ≡ w.blocks.items → master ≡ w.master.items → StandsFor (program (record image { registers = plan.registers; blocks = blocks; master = master })) (all_joined p)
walk-ends image w plan blocks master i p same s bs ms =
    end-stands (map block w.blocks.items) (map command w.master.items) w.lines plan.targets.items plan.steps.items plan.registers i p
    (program (record image { registers = plan.registers; blocks = blocks; master = master })) s.walk
    (ap (λ (xs : List B.Block). program (record image { registers = plan.registers; blocks = xs; master = master })) bs
    ∙ ap (λ (xs : List MasterLine). program (record image { registers = plan.registers; blocks = w.blocks.items; master = xs })) ms
    ∙ ap (λ (q : Program). record q { registers = plan.registers; blocks = map block w.blocks.items; master = map command w.master.items }) same)
