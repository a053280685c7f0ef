use Rattle.std.proofs.Common.{◌≡◌, map, drop}
use Rattle.gm_base.specs.Rules.{least_from, broken_at}
use Rattle.gm_types.proofs.notes.note_all.Given as goal

-- what is left to note leads from the least so far to the answer
abbrev pub invariant-loop-place : goal.invariant-loop-place
invariant-loop-place l =
    least_from l.least (map (broken_at l.rule) (drop l.place-index l.places)) ≡ least_from l.initial.least (map (broken_at l.rule) l.places)
