use Rattle.std.proofs.Common.{◌≡◌, take}
use Rattle.gm_observe.specs.Notes.{messages_sent}
use Rattle.gm_observe.proofs.counter.messages_in.Given as goal

abbrev pub invariant-loop-note : goal.invariant-loop-note
invariant-loop-note l = l.sum ≡ messages_sent (take l.note-index l.notes)
