-- Worked rows: reports that the definitions compute.
use Rattle.std.proofs.Common.{◌≡◌, ℕ, [], ◌∷◌, refl}
use Rattle.std.specs.Prelude.{codes}
use Rattle.std.specs.Fmt.{digits}
use Rattle.gm_observe.specs.Notes.{messages_sent, counter_text, table_text}
use Rattle.gm_observe.specs.declared.notes.Note.{Note}

-- a note of a superstep in a graph of two nodes
abbrev note_of : ℕ → ℕ → ℕ → Note
note_of step block messages = record { step = step; block = block; vertices = 2; messages = messages }

-- nothing was told: a counter has its line, a table has none
counter_of_none : counter_text [] ≡ codes "observed 0 supersteps 0 messages\n"
unfolding digits
counter_of_none = refl

table_of_none : table_text [] ≡ []
table_of_none = refl

-- two supersteps, the second with no message
counter_of_two : counter_text (note_of 1 0 3 ∷ note_of 2 1 0 ∷ []) ≡ codes "observed 2 supersteps 3 messages\n"
unfolding digits
counter_of_two = refl

table_of_two : table_text (note_of 1 0 3 ∷ note_of 2 1 0 ∷ [])
    ≡ codes "step 1 block 0 vertices 2 messages 3\nstep 2 block 1 vertices 2 messages 0\n"
unfolding digits
table_of_two = refl

-- a sum stays at the greatest number
sum_at_the_top : messages_sent (note_of 1 0 18446744073709551614 ∷ note_of 2 0 1 ∷ []) ≡ 18446744073709551615
sum_at_the_top = refl

sum_past_the_top : messages_sent (note_of 1 0 18446744073709551615 ∷ note_of 2 0 18446744073709551615 ∷ []) ≡ 18446744073709551615
sum_past_the_top = refl
