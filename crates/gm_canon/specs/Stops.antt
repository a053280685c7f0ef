-- Why a program is not canonical.
use Rattle.std.specs.Prelude.{◌≡◌, Some}
use Rattle.gm_base.specs.declared.rules.Stop.{Stop}
use Rattle.gm_base.specs.declared.rules.Stop.TheVariants.{Refused, NoMemory}
use Rattle.gm_base.specs.Rules.{least}
use Rattle.gm_ast.specs.Program.{Program}
use Rattle.gm_ast.specs.Canonical.{uncanonical}

-- a refusal is the least of all that is not canonical; want of memory may come of any program
abbrev pub IsStopOf : Program → Stop → Type 0
IsStopOf p (Refused r) = least (uncanonical p) ≡ Some r
IsStopOf p NoMemory = Unit {0}
