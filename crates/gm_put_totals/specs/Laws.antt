-- The laws of contributions that can be exchanged.
use Rattle.std.specs.Prelude.{◌≡◌, ℕ, IsTrue, List, ◌++◌, All, length}
use Rattle.std.specs.List.{flat_map}
use Rattle.gm_value.specs.declared.values.VType.{VType}
use Rattle.gm_value.specs.declared.values.Value.{Value}
use Rattle.gm_value.specs.declared.reductions.Reduce.{Reduce}
use Rattle.gm_value.specs.Bag.{SameBag}
use Rattle.gm_value.specs.Numbers.{IsOf}
use Rattle.gm_image.specs.Folds.{Reduction}
use Rattle.gm_image.specs.Program.{Program}
use Rattle.gm_image.specs.Soundness.{is_sound}
use Rattle.gm_machine.specs.Laws.{Visit, visits_put}
use Rattle.gm_machine.specs.Taking.{Contribution, settled}
use Rattle.gm_put_totals.specs.PutTotals.{single_puts, reduced_puts}
use Rattle.gm_put_totals.specs.Settling.{ReduceBy, SettleAs}

-- contributions settle as they are
abbrev pub SettlesAsItself : Type 0
SettlesAsItself = (cs : List Contribution) → SettleAs cs cs

-- and in any order
abbrev pub SettlesInAnyOrder : Type 0
SettlesInAnyOrder = (some other : List Contribution) → SameBag some other → SettleAs some other

-- what settles as others settles as what these settle as
abbrev pub SettlesThrough : Type 0
SettlesThrough = (some other more : List Contribution) → SettleAs some other → SettleAs other more → SettleAs some more

-- contributions that settle as others may stand side by side
abbrev pub SettlesTogether : Type 0
SettlesTogether = (some other more also : List Contribution) → SettleAs some other → SettleAs more also → SettleAs (some ++ more) (other ++ also)

-- so may those of each member of a list
abbrev pub SettlesEach : Type 0 → Type 0
SettlesEach A = (some other : A → List Contribution) (members : List A) → ((a : A) → SettleAs (some a) (other a)) → SettleAs (flat_map some members) (flat_map other members)

-- where each slot has one reduction, contributions that settle as others settle as they do also alone
abbrev pub SettlesAlone : Type 0
SettlesAlone = (reduction : ℕ → Reduction) (places : ℕ) (some other : List Contribution) (held : List Value) → SettleAs some other → ReduceBy reduction some →
    settled places some held ≡ settled places other held

-- what the vertices put in a step with a block of a sound image may be exchanged for what settles as it
abbrev pub SoundPutsSettle : Type 0
SoundPutsSettle = (p : Program) (q : ℕ) (visits : List Visit) (puts : List Contribution) (held : List Value) → IsTrue (is_sound p) → SettleAs (visits_put p q visits) puts →
    settled (length p.places) puts held ≡ settled (length p.places) (visits_put p q visits) held

-- what a line gives with each of some values of a type settles as the contribution of the reduced value
abbrev pub ReducedPutsSettle : Type 0
ReducedPutsSettle = (place : ℕ) (r : Reduce) (slot : ℕ) (t : VType) (values : List Value) → All (IsOf t) values →
    SettleAs (single_puts place r slot values) (reduced_puts place r slot t values)
