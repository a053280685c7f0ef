-- What the passes over images promise of their results.
use Rattle.std.specs.Prelude.{ℕ, ◌≡◌, ◌≤◌, List}
use Rattle.gm_value.specs.declared.values.Value.{Value}
use Rattle.gm_model.specs.Graphs.{NumberedGraph}
use Rattle.gm_image.specs.Program.{Program}
use Rattle.gm_image.specs.Soundness.{line_limit}
use Rattle.gm_machine.specs.Machine.{machine, block_at}
use Rattle.gm_merge_laws.specs.Joins.{Joinable}
use Rattle.gm_merge_laws.specs.Outcomes.{HasNoFault}
use Rattle.gm_merge.specs.Laws.{lines_with_both}

-- every run of a second image is that of the first: outcome, supersteps and messages
abbrev pub RunsAs : Program → Program → Type 0
RunsAs p q = (g : NumberedGraph) (args : List Value) (turns : ℕ) → machine q g args turns ≡ machine p g args turns

-- every run of a second image ends as that of the first
abbrev pub SameOutcomes : Program → Program → Type 0
SameOutcomes p q = (g : NumberedGraph) (args : List Value) (turns : ℕ) → (machine q g args turns).outcome ≡ (machine p g args turns).outcome

-- in no more supersteps
abbrev pub FewerSupersteps : Program → Program → Type 0
FewerSupersteps p q = (g : NumberedGraph) (args : List Value) (turns : ℕ) → (machine q g args turns).supersteps ≤ (machine p g args turns).supersteps

-- and with no more messages, where it ends without a fault
abbrev pub FewerMessages : Program → Program → Type 0
FewerMessages p q = (g : NumberedGraph) (args : List Value) (turns : ℕ) → HasNoFault (machine p g args turns).outcome → (machine q g args turns).messages ≤ (machine p g args turns).messages

-- only the blocks and the master list of a second image are others
abbrev pub HasSameRest : Program → Program → Type 0
HasSameRest p q = q ≡ record p { blocks = q.blocks; master = q.master }

-- no two consecutive steps of a second image, merged from the first, are joinable, but where the text would be too long
abbrev pub HasNoneLeft : Program → Program → Type 0
HasNoneLeft p q = (i a b : ℕ) → Joinable q i a b → line_limit ≤ lines_with_both p (block_at q a) (block_at q b)
