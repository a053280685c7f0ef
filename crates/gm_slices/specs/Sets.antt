-- A set of variables, as the code keeps it.
use Rattle.std.specs.Prelude.{ℕ, Bool}
use Rattle.std.specs.BTreeSet.{contains}
use Rattle.std.specs.Ordering.{nat_cmp}
use Rattle.gm_slices.specs.declared.members.Members.{Members}

-- the test whether a variable is in it
abbrev pub set_of : Members → (ℕ → Bool)
set_of m = contains nat_cmp m.variables
