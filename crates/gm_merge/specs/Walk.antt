-- What holds of the code's walk between two lines.
use Rattle.std.specs.Prelude.{ℕ, ◌+◌, ◌≡◌, ◌<◌, ◌≤◌, nat_eq, not, min, Bool, Option, Some, None, IsTrue, List, [], ◌∷◌, ◌++◌, length, map, slice_get, slice_index_or}
use Rattle.std.specs.List.{list_all}
use Rattle.std.specs.HashSet.{contains}
use Rattle.gm_value.specs.declared.values.VType.{VType}
use Rattle.gm_image.specs.Program.{Program, Block, Line, Command, Step}
use Rattle.gm_image.specs.Rows.{block_rows, line_count}
use Rattle.gm_image.specs.Soundness.{is_sound}
use Rattle.gm_image.specs.Views.{block, command}
use Rattle.gm_machine.specs.Machine.{block_at}
use Rattle.gm_merge_laws.specs.Joins.{block_lines, leads_elsewhere}
use Rattle.gm_merge.specs.Earlier.{Shows}
use Rattle.gm_merge.specs.Numbers.{flag_at, count_at}
use Rattle.gm_merge.specs.Registers.{sets_some}
use Rattle.gm_merge.specs.declared.joining.Kept.{Kept}
use Rattle.gm_merge.specs.declared.joining.Plan.{Plan}
use Rattle.gm_merge.specs.declared.joining.Walk.{Walk}

-- what is kept of a block shows it
pub record Keeps (k : Kept) (b : Block) : Type 0 where
  pub earlier : Shows k.earlier (block_lines b)
  pub set : (r : ℕ) → contains nat_eq k.set r ≡ sets_some b.body r
  pub rows : k.rows ≡ min (length (block_rows b)) 4294967296

-- what is kept of a block, if something is
abbrev pub IfKept : Option Kept → Block → Type 0
IfKept None b = Unit {0}
IfKept (Some k) b = Keeps k b

-- the block of a step
abbrev pub step_of : Option Command → Option ℕ
step_of (Some (Step q)) = Some q
step_of m = None

-- two blocks as one, with some lines between their bodies
abbrev pub with_bodies : Block → List Line → Block → Block
with_bodies a between b = record { handlers = a.handlers; body = a.body ++ (between ++ b.body) }

-- whether a block stays where it is when it is taken: it is another one, or more than one step runs it
abbrev pub Stays : List ℕ → ℕ → ℕ → Type 0
Stays counts taken q = taken ≡ q → 1 < count_at counts taken

-- the blocks, after one or two of them were taken
pub record TakenOne (counts : List ℕ) (a : ℕ) (old new : List Block) : Type 0 where
  pub long : length new ≡ length old
  pub others : (q : ℕ) → Stays counts a q → slice_get new q ≡ slice_get old q

pub record Taken (counts : List ℕ) (a b : ℕ) (old new : List Block) : Type 0 where
  pub long : length new ≡ length old
  pub others : (q : ℕ) → Stays counts a q → Stays counts b q → slice_get new q ≡ slice_get old q

-- the blocks, after two were taken and joined to one at the end
pub record Joined (counts : List ℕ) (a b : ℕ) (joined : Block) (old new : List Block) : Type 0 where
  pub left : List Block
  pub taken : Taken counts a b old left
  pub end : new ≡ left ++ joined ∷ []

-- blocks and lines stand for an image, where a line is next. The blocks that some step runs are those of the image. The lines below the next one that others jump to are marked, and a block that two steps run is counted so
pub record Stands (bs : List Block) (ms : List Command) (count : ℕ) (flags : List Bool) (steps : List ℕ) (types : List VType) (i : ℕ) (p : Program) : Type 0 where
  pub sound : IsTrue (is_sound p)
  pub registers : types ≡ p.registers
  pub master : ms ≡ p.master
  pub long : length bs ≡ length p.blocks
  pub blocks : (k q : ℕ) → slice_get p.master k ≡ Some (Step q) → slice_get bs q ≡ slice_get p.blocks q
  pub lines : count ≡ line_count p
  pub marks : length flags ≡ length p.master
  pub targets : (j : ℕ) → i < j → j < length p.master → flag_at flags j ≡ not (list_all (leads_elsewhere j) p.master)
  pub counts : (k l q : ℕ) → k < l → slice_get p.master k ≡ Some (Step q) → slice_get p.master l ≡ Some (Step q) → 1 < count_at steps q

-- the walk stands for an image, where a line is next; what is kept shows the block of that line, if it is a step
pub record WalkStands (w : Walk) (plan : Plan) (i : ℕ) (p : Program) : Type 0 where
  pub walk : Stands (map block w.blocks.items) (map command w.master.items) w.lines plan.targets.items plan.steps.items plan.registers i p
  pub kept : (a : ℕ) → slice_get p.master i ≡ Some (Step a) → IfKept w.kept (block_at p a)

-- an image has the blocks that some step of another one runs, and else what that has
pub record StandsFor (q p : Program) : Type 0 where
  pub rest : q ≡ record p { blocks = q.blocks }
  pub long : length q.blocks ≡ length p.blocks
  pub blocks : (k b : ℕ) → slice_get p.master k ≡ Some (Step b) → slice_get q.blocks b ≡ slice_get p.blocks b
