-- What the tests say of workers that send letters.
use Rattle.std.specs.Prelude.{◌≡◌, ℕ, List}
use Rattle.gm_posting.specs.Traffic.{Traffic}
use Rattle.gm_posting_tests.specs.declared.letters.Letters.{Letters}

abbrev pub numbers_of : Letters → List ℕ
numbers_of l = l.numbers.items

-- a worker has its mailboxes and its number still
pub record IsSame (old new : Traffic Letters) : Type 0 where
  pub mailboxes : new.mailboxes ≡ old.mailboxes
  pub worker : new.worker ≡ old.worker
