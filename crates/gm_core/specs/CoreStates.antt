-- What callers see of a run by workers.
use Rattle.std.specs.Prelude.{ℕ, Option, List}
use Rattle.gm_value.specs.declared.values.Value.{Value}
use Rattle.gm_model.specs.declared.outcomes.RunEnd.{RunEnd}

-- what callers see of a core: how the run ended, if it did, how many supersteps were released, and the fields of each node
pub record CoreView : Type 0 where
  pub ended : Option RunEnd
  pub step : ℕ
  pub fields : List (List Value)
