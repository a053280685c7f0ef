use Rattle.std.proofs.Common.{◌≡◌, Ok, All, take}
use Rattle.gm_shifts.proofs.have_done.Given as goal

abbrev pub invariant-loop-turn : goal.invariant-loop-turn
invariant-loop-turn g l = All (λ t. t.outcome ≡ Ok tt) (take l.turn-index l.turns)
