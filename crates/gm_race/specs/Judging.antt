-- What an access breaks, by what the accesses that meet it do.
use Rattle.std.specs.Prelude.{◌≡◌, Bool, false, ◌&&◌, ◌||◌, not, List, ◌++◌, Some}
use Rattle.gm_base.specs.declared.rules.Refusal.{Refusal}
use Rattle.gm_base.specs.declared.rules.Rule.TheVariants.{R1, R2, R3, R4, R5, R6}
use Rattle.gm_base.specs.declared.rules.Stop.{Stop}
use Rattle.gm_base.specs.declared.rules.Stop.TheVariants.{Refused, NoMemory}
use Rattle.gm_base.specs.Rules.{least}
use Rattle.gm_ast.specs.Loops.{broken_if}
use Rattle.gm_ast.specs.Program.{Program}
use Rattle.gm_ast.specs.Races.{is_own_read, is_other_read, is_read, is_own_write, is_stray, is_change, is_deferred, races}
use Rattle.gm_race.specs.declared.found.Kind.TheVariants.{OwnReduce, PushReduce}
use Rattle.gm_race.specs.declared.found.Found.{Found}
use Rattle.gm_race.specs.declared.found.Kind.{Kind}
use Rattle.gm_race.specs.declared.uses.Uses.{Uses}
use Rattle.gm_race.specs.declared.uses.InnerUses.{InnerUses}
use Rattle.gm_base.specs.declared.places.Place.{Place}
use Rattle.gm_race.specs.Views.{kind_of, operation_of}
use Rattle.gm_race.specs.Uses.{reaches, mixes_with}

-- R2: whether an access reads or writes what is reduced to
abbrev pub touches_reduced : Uses → InnerUses → Kind → Bool
touches_reduced u v k = ((is_read (kind_of k) || is_own_write (kind_of k)) && u.pushed) || (is_own_read (kind_of k) && v.reduced)

-- R3: whether a reduction stands behind one that does something else
abbrev pub mixes_reductions : Uses → InnerUses → Kind → Place → Bool
mixes_reductions u v (OwnReduce r) at = mixes_with u.pushes (operation_of r) at || mixes_with v.reductions (operation_of r) at
mixes_reductions u v (PushReduce r) at = mixes_with u.reductions (operation_of r) at
mixes_reductions u v _ at = false

-- R6: whether a deferred write stands behind another change, or the other way round
abbrev pub mixes_deferred : Uses → Kind → Place → Bool
mixes_deferred u k at = (is_change (kind_of k) && reaches u.deferred at) || (is_deferred (kind_of k) && reaches u.change at)

-- what an access breaks
abbrev pub judged : Bool → Uses → InnerUses → Found → List Refusal
judged property u v f =
    broken_if (is_other_read (kind_of f.kind) && u.changed) R1 f.place
    ++ (broken_if (touches_reduced u v f.kind) R2 f.place
    ++ (broken_if (mixes_reductions u v f.kind f.place) R3 f.place
    ++ (broken_if (is_stray (kind_of f.kind) && property) R4 f.place
    ++ (broken_if (is_stray (kind_of f.kind) && not property) R5 f.place
    ++ broken_if (mixes_deferred u f.kind f.place) R6 f.place))))

-- a refusal is the least race; want of memory may come of any program
abbrev pub IsStopOf : Program → Stop → Type 0
IsStopOf p (Refused r) = least (races p) ≡ Some r
IsStopOf p NoMemory = Unit {0}
