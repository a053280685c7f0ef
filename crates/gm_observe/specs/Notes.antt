-- What is reported of the notes of a run.
use Rattle.std.specs.Prelude.{ℕ, List, ◌++◌, length, sum_by, min, codes, decimal}
use Rattle.std.specs.List.{flat_map}
use Rattle.gm_observe.specs.declared.notes.Note.{Note}

-- the greatest sum of messages that is reported: greater sums are reported as this one
abbrev pub top_sum : ℕ
top_sum = 18446744073709551615

-- how many messages were sent in all supersteps, up to the greatest sum
abbrev pub messages_sent : List Note → ℕ
messages_sent notes = min (sum_by (λ note. note.messages) notes) top_sum

-- what is said of so many supersteps and so many messages
abbrev pub tally_text : ℕ → ℕ → List ℕ
tally_text steps messages =
    codes "observed " ++ decimal steps ++ codes " supersteps " ++ decimal messages ++ codes " messages"

-- the one line of a counter: how many supersteps there were, and how many messages were sent in all of them
abbrev pub counter_text : List Note → List ℕ
counter_text notes = tally_text (length notes) (messages_sent notes) ++ codes "\n"

-- what is said of one superstep
abbrev pub note_text : Note → List ℕ
note_text note =
    codes "step " ++ decimal note.step ++ codes " block " ++ decimal note.block
    ++ codes " vertices " ++ decimal note.vertices ++ codes " messages " ++ decimal note.messages

-- the lines of a table: one for each superstep, in their order
abbrev pub table_text : List Note → List ℕ
table_text notes = flat_map (λ note. note_text note ++ codes "\n") notes
