-- Where a fault stands in the order of faults.
use Rattle.std.specs.Prelude.{ℕ, nat_lt, nat_eq, Bool, true, ◌&&◌, ◌||◌, List, [], ◌∷◌}
use Rattle.gm_base.specs.declared.places.Place.{Place}
use Rattle.gm_base.specs.Places.{place_lt}
use Rattle.gm_ast.specs.declared.tree.Key.{Key}
use Rattle.gm_ast.specs.declared.tree.Stage.{Stage}
use Rattle.gm_ast.specs.declared.tree.Stage.TheVariants.{Inner, Operator, Total}
use Rattle.gm_ast.specs.declared.tree.TotalKey.{TotalKey}

-- a stage's number in the order of faults of one statement
abbrev pub stage_rank : Stage → ℕ
stage_rank Inner = 0
stage_rank Operator = 1
stage_rank Total = 2

-- where a fault stands in the order of faults: its statement's number and stage, and its place
pub record Fault : Type 0 where
  pub key : Key
  pub place : Place

-- the fault of a total
abbrev pub total_fault : TotalKey → Fault
total_fault t = record { key = t.key; place = t.place }

-- whether a fault comes before another: by statement, then by stage, then by place
abbrev pub fault_lt : Fault → Fault → Bool
fault_lt a b =
    nat_lt a.key.statement b.key.statement
    || (nat_eq a.key.statement b.key.statement
    && (nat_lt (stage_rank a.key.stage) (stage_rank b.key.stage)
    || (nat_eq (stage_rank a.key.stage) (stage_rank b.key.stage) && place_lt a.place b.place)))

-- whether all of some faults come before one
abbrev pub all_before : List Fault → Fault → Bool
all_before [] b = true
all_before (a ∷ rest) b = fault_lt a b && all_before rest b
