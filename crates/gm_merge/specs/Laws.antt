-- What holds of the merged image.
use Rattle.std.specs.Prelude.{ℕ, ◌+◌, ◌≡◌, ◌≤◌, IsTrue, List, length}
use Rattle.gm_value.specs.declared.values.Value.{Value}
use Rattle.gm_model.specs.Graphs.{NumberedGraph}
use Rattle.gm_image.specs.Program.{Program, Block}
use Rattle.gm_image.specs.Ranges.{Ranged}
use Rattle.gm_image.specs.Rows.{block_rows, line_count}
use Rattle.gm_image.specs.Soundness.{is_sound, line_limit}
use Rattle.gm_machine.specs.Machine.{block_at, machine}
use Rattle.gm_merge_laws.specs.Joins.{Joinable, joined_block}
use Rattle.gm_merge_laws.specs.Outcomes.{Joins, KeepsAll}
use Rattle.gm_merge.specs.Joining.{all_joined}
use Rattle.gm_merge.specs.Merged.{merged}
use Rattle.gm_merge.specs.Trimmed.{trimmed}

-- the image with its steps joined line by line comes by joins
abbrev pub ComesByJoins : Type 0
ComesByJoins = (p : Program) → Joins p (all_joined p)

-- a sound image runs the same without the blocks that no step runs
abbrev pub TrimsKeepRuns : Type 0
TrimsKeepRuns = (p : Program) (g : NumberedGraph) (args : List Value) (turns : ℕ) → IsTrue (is_sound p) → machine (trimmed p) g args turns ≡ machine p g args turns

-- and it is sound
abbrev pub TrimsKeepSoundness : Type 0
TrimsKeepSoundness = (p : Program) → IsTrue (is_sound p) → IsTrue (is_sound (trimmed p))

abbrev pub TrimsKeepRanges : Type 0
TrimsKeepRanges = (p : Program) → Ranged p → Ranged (trimmed p)

-- the merged image of a sound image is sound, and no run of it is worse
abbrev pub MergesKeep : Type 0
MergesKeep = (p : Program) → IsTrue (is_sound p) → Ranged p → KeepsAll p (merged p)

-- how many lines the text has with all blocks of the image and all that were joined, and one more for two blocks
abbrev pub lines_with_both : Program → Block → Block → ℕ
lines_with_both p a b = line_count (all_joined p) + length (block_rows (joined_block p.registers a b))

-- no two steps of the merged image are joinable, but where that text is too long
abbrev pub NoneLeft : Type 0
NoneLeft = (p : Program) (i a b : ℕ) → IsTrue (is_sound p) → Joinable (merged p) i a b → line_limit ≤ lines_with_both p (block_at (merged p) a) (block_at (merged p) b)
