use Rattle.std.proofs.Common.{◌≡◌, ◌++◌, take}
use Rattle.gm_observe.specs.Notes.{table_text}
use Rattle.gm_observe.proofs.table.put_lines.Given as goal

abbrev pub invariant-loop-note : goal.invariant-loop-note
invariant-loop-note l = l.text.items ≡ l.initial.text.items ++ table_text (take l.note-index l.notes)
