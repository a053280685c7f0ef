use Rattle.std.proofs.Common.{◌≡◌, take}
use Rattle.gm_run.proofs.interfaces.copies.Given as goal

abbrev pub invariant-loop-declaration : goal.invariant-loop-declaration
invariant-loop-declaration l = l.all.items ≡ take l.declaration-index l.declarations
