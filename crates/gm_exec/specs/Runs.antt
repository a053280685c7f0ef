-- What the run of an image says, and what those who observe it are told.
use Rattle.std.specs.Prelude.{◌≡◌, ◌⊎◌, ℕ, Bool, true, false, List, [], ◌++◌, Ok}
use Rattle.gm_base.specs.declared.statuses.Status.{Status}
use Rattle.gm_base.specs.declared.statuses.Status.TheVariants.{BadInput, ReadFault}
use Rattle.gm_value.specs.declared.values.Value.{Value}
use Rattle.gm_model.specs.declared.outcomes.RunEnd.{RunEnd}
use Rattle.gm_model.specs.Graphs.{IsGraph, NumberedGraph}
use Rattle.gm_image.specs.Program.{Program}
use Rattle.gm_machine.specs.Machine.{machine}
use Rattle.gm_machine.specs.Notes.{noted}
use Rattle.gm_observe.specs.declared.notes.Note.{Note}
use Rattle.gm_observe.specs.Audience.{IsToldInPart, told_to_all, reports}
use Rattle.gm_listing.specs.declared.outputs.Ending.TheVariants.{Counts}
use Rattle.gm_listing.specs.Listing.{listing, status_of}
use Rattle.gm_words.specs.declared.jobs.Options.{Options}
use Rattle.gm_words.specs.Arguments.{values_bound}
use Rattle.gm_input.specs.Answers.{IsGraphOf, format_of}
use Rattle.gm_input.specs.Texts.{Says}
use Rattle.gm_exec.specs.Programs.{inputs_of, shape_of, scalar_outputs, property_outputs}

-- those who may observe a run, in their order: what each reports of any notes, and the notes that each holds before and
-- afterwards
pub record Audience : Type 0 where
  pub ways : List (List Note → List ℕ)
  pub before : List (List Note)
  pub after : List (List Note)

abbrev pub audience : List (List Note → List ℕ) → List (List Note) → List (List Note) → Audience
audience ways before after = record { ways = ways; before = before; after = after }

-- what observers hold after a run: behind what they held all that is told of it, where it is watched
abbrev pub held_after : Bool → List Note → List (List Note) → List (List Note)
held_after true notes held = told_to_all notes held
held_after false notes held = held

-- what they report where the run is watched: all that they hold, each in its way
abbrev pub reports_after : Bool → List (List Note → List ℕ) → List (List Note) → List ℕ
reports_after true ways held = reports ways held
reports_after false ways held = []

-- the listing of how a run of an image over a graph ended
abbrev pub end_text : Program → NumberedGraph → RunEnd → List ℕ
end_text p g end = listing (scalar_outputs p) (property_outputs p) g.numbers (Counts end.supersteps end.messages) end.outcome

-- the run of an image with a bound on turns over a graph, with these arguments: it says the listing of what the machine
-- does, with its status; where it is watched, the observers are told of each superstep, and their reports follow
pub record Ran (p : Program) (turns : ℕ) (watched : Bool) (a : Audience) (g : NumberedGraph) (args : List Value) (text : List ℕ) (status : Status) : Type 0 where
  pub known : IsGraph g
  pub told : a.after ≡ held_after watched (noted p g args turns) a.before
  pub says : Says text status (end_text p g (machine p g args turns) ++ reports_after watched a.ways a.after) (status_of (machine p g args turns).outcome)

-- where nothing ran, since an input was bad or could not be read, observers hold what they held
abbrev pub IsUntold : Status → List (List Note) → List (List Note) → Type 0
IsUntold status before after = (status ≡ BadInput) ⊎ (status ≡ ReadFault) → after ≡ before

-- what observers hold, whatever came of the run of an image over a graph text, also where memory ran out: what they held,
-- or behind it a part of the notes of the run over the graph that the text stands for, from their front
pub data AreToldOver (p : Program) (words : List (List ℕ)) (options : Options) (text : List ℕ) (before after : List (List Note)) : Type 0 where
  untold : after ≡ before → AreToldOver p words options text before after
  in_part : (g : NumberedGraph) → IsGraphOf (format_of options.format) (shape_of p) text g → (args : List Value) → values_bound (inputs_of p) words g.numbers ≡ Ok args
      → IsToldInPart (noted p g args options.turns) before after → AreToldOver p words options text before after
