-- Contributions that can be exchanged for others.
use Rattle.std.specs.Prelude.{◌≡◌, ℕ, List, [], ◌∷◌, ◌++◌}
use Rattle.gm_value.specs.declared.values.Value.{Value}
use Rattle.gm_image.specs.Folds.{Reduction}
use Rattle.gm_machine.specs.Laws.{AreReducedBy}
use Rattle.gm_machine.specs.Taking.{Contribution, reduction_of, settled}

-- contributions each of which reduces each of its slots by the slot's own reduction, as those of a superstep of a sound image do
abbrev pub ReduceBy : (ℕ → Reduction) → List Contribution → Type 0
ReduceBy reduction [] = Unit {0}
ReduceBy reduction (c ∷ cs) = AreReducedBy reduction (reduction_of c) c.slots × ReduceBy reduction cs

-- some contributions settle as others: the others reduce no slot in another way, and whatever stands before and behind them and whatever the slots hold, where each slot has one reduction, the slots hold the same after both, and the least fault is the same
pub record SettleAs (some other : List Contribution) : Type 0 where
  pub reduce : (reduction : ℕ → Reduction) → ReduceBy reduction some → ReduceBy reduction other
  pub settle : (reduction : ℕ → Reduction) (places : ℕ) (before behind : List Contribution) (held : List Value) → ReduceBy reduction (before ++ (some ++ behind)) →
      settled places (before ++ (some ++ behind)) held ≡ settled places (before ++ (other ++ behind)) held
