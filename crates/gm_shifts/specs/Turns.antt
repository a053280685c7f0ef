-- What a shift leaves of its tasks.
use Rattle.std.specs.Prelude.{◌≡◌, ◌<◌, ℕ, Ok, IsErr, List, length, slice_index_or}
use Rattle.gm_shifts.specs.declared.Turn.{Turn}

module _ {T : Type 0} where
  -- a task was run once, and where it did not give up it did its work
  abbrev pub Ran : (T → T → Type 0) → Turn T → Turn T → Type 0
  Ran does old new = new.outcome ≡ Ok tt → does old.task new.task

  -- a task gave up
  pub record SomeGaveUp (turns : List (Turn T)) : Type 0 where
    pub place : ℕ
    pub within : place < length turns
    pub gave_up : (d : Turn T) → IsErr (slice_index_or turns place d).outcome
