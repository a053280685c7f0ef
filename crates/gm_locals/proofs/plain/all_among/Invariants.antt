use Rattle.std.proofs.Common.{◌≡◌, drop}
use Rattle.std.specs.List.{list_all}
use Rattle.gm_locals.specs.Groups.{is_among}
use Rattle.gm_locals.proofs.plain.all_among.Given as goal

-- the targets that are left give the answer
abbrev pub invariant-loop-target : goal.invariant-loop-target
invariant-loop-target l = list_all (is_among l.locals) (drop l.target-index l.targets) ≡ list_all (is_among l.locals) l.targets
