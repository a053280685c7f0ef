-- The law of joined steps.
use Rattle.std.specs.Prelude.{ℕ, suc, ◌≡◌, ◌≤◌, ◌⊎◌, nat_lt, Bool, true, false, IsTrue, List}
use Rattle.std.specs.List.{list_all}
use Rattle.gm_value.specs.declared.values.Value.{Value}
use Rattle.gm_model.specs.declared.outcomes.Outcome.{Outcome}
use Rattle.gm_model.specs.declared.outcomes.Outcome.TheVariants as outcomes
use Rattle.gm_model.specs.declared.outcomes.RunEnd.{RunEnd}
use Rattle.gm_model.specs.Graphs.{NumberedGraph}
use Rattle.gm_image.specs.Program.{Program}
use Rattle.gm_image.specs.Rows.{line_count}
use Rattle.gm_image.specs.Ranges.{Ranged}
use Rattle.gm_image.specs.Soundness.{is_sound, line_limit}
use Rattle.gm_machine.specs.Machine.{machine, block_at}
use Rattle.gm_machine.specs.States.{step_lines}
use Rattle.gm_merge_laws.specs.Joins.{block_lines, sends_nothing, Joinable, joined_image}

-- an outcome that is no fault
abbrev pub HasNoFault : Outcome → Type 0
HasNoFault (outcomes.Done scalars result properties turns) = Unit {0}
HasNoFault (outcomes.Fault kind place) = ⊥
HasNoFault (outcomes.Cut turns) = Unit {0}

-- a run that ends as another one, in no more supersteps, and where that one has no fault or some messages are quiet with no more messages
pub record NoWorse (quiet : Bool) (old new : RunEnd) : Type 0 where
  pub outcome : old.outcome ≡ new.outcome
  pub supersteps : new.supersteps ≤ old.supersteps
  pub messages : (HasNoFault old.outcome ⊎ (quiet ≡ true)) → new.messages ≤ old.messages

-- the run of an image in which two steps are joined is no worse than that of the image
abbrev pub JoinsKeepRuns : Type 0
JoinsKeepRuns = (p : Program) (i a b : ℕ) (g : NumberedGraph) (args : List Value) (turns : ℕ) → IsTrue (is_sound p) → Ranged p → Joinable p i a b →
    NoWorse (list_all sends_nothing (block_lines (block_at p b))) (machine p g args turns) (machine (joined_image p i a b) g args turns)

-- an image in which two steps are joined is sound, where its text has not too many lines
abbrev pub JoinsKeepSoundness : Type 0
JoinsKeepSoundness = (p : Program) (i a b : ℕ) → IsTrue (is_sound p) → Joinable p i a b → IsTrue (nat_lt (line_count (joined_image p i a b)) line_limit) → IsTrue (is_sound (joined_image p i a b))

-- each join leaves one step line fewer, so there are no more joins one after another than step lines
abbrev pub JoinsEnd : Type 0
JoinsEnd = (p : Program) (i a b : ℕ) → Joinable p i a b → suc (step_lines (joined_image p i a b).master) ≡ step_lines p.master

-- the numbers of an image in which two steps are joined are in their ranges
abbrev pub JoinsKeepRanges : Type 0
JoinsKeepRanges = (p : Program) (i a b : ℕ) → IsTrue (is_sound p) → Ranged p → Joinable p i a b → Ranged (joined_image p i a b)

-- an image comes from another by joins, one after another, none of which makes its text too long
pub data Joins : Program → Program → Type 0 where
  joins_none : (p : Program) → Joins p p
  joins_more : {p r : Program} (i a b : ℕ) → Joinable p i a b → IsTrue (nat_lt (line_count (joined_image p i a b)) line_limit) → Joins (joined_image p i a b) r → Joins p r

-- what comes from a sound image by joins is sound, and no run of it is worse: where a run has no fault it sends no more messages
pub record KeepsAll (p r : Program) : Type 0 where
  pub sound : IsTrue (is_sound r)
  pub ranged : Ranged r
  pub runs : (g : NumberedGraph) (args : List Value) (turns : ℕ) → NoWorse false (machine p g args turns) (machine r g args turns)

abbrev pub AllJoinsKeep : Type 0
AllJoinsKeep = (p r : Program) → Joins p r → IsTrue (is_sound p) → Ranged p → KeepsAll p r
