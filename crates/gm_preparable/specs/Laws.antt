-- What the program of a text has for its loops to be prepared, once it is written with plain loops and its searches as loops over levels.
use Rattle.std.specs.Prelude.{◌≡◌, true}
use Rattle.gm_ast.specs.Program.{Program}
use Rattle.gm_ast.specs.Procedures.{IsTyped}
use Rattle.gm_desugaring.specs.Desugaring.{with_plain_loops}
use Rattle.gm_bfs.specs.Levelled.{levelled}
use Rattle.gm_parting.specs.Iterators.{has_iterators_apart}
use Rattle.gm_parting.specs.Locals.{has_no_checks}
use Rattle.gm_parting.specs.Passes.{MayBePrepared}
use Rattle.gm_parting.specs.Tuples.{has_even_tuples}
use Rattle.gm_preparable.specs.Even.{has_even_reductions}

-- no variable of a program that breaks no rule of types iterates a loop over nodes and an inner loop then
abbrev pub TypedKeepIteratorsApart : Type 0
TypedKeepIteratorsApart = (p : Program) → IsTyped p → has_iterators_apart (levelled (with_plain_loops p)) ≡ true

-- and no node variable is checked in its loops that are cut
abbrev pub TypedCheckNothing : Type 0
TypedCheckNothing = (p : Program) → IsTyped p → has_no_checks (levelled (with_plain_loops p)) ≡ true

-- where the targets of each reduction in its loops and searches are declared inside as many loops, they are then
abbrev pub TypedKeepTuplesEven : Type 0
TypedKeepTuplesEven = (p : Program) → IsTyped p → has_even_reductions p ≡ true → has_even_tuples (levelled (with_plain_loops p)) ≡ true

-- so its loops may be prepared, where the targets of its reductions are declared inside as many loops
abbrev pub TypedMayBePrepared : Type 0
TypedMayBePrepared = (p : Program) → IsTyped p → has_even_tuples (levelled (with_plain_loops p)) ≡ true → MayBePrepared (levelled (with_plain_loops p))
