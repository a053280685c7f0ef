-- The numbers of the passes of a mailbox, and the workers whose passes they are.
use Rattle.std.specs.Prelude.{ℕ, ◌+◌, ◌-◌, nat_eq, nat_lt, nat_le, if◌then◌else◌}

-- The worker whose pass of an owner's mailbox has a number. Pass 0 is the owner's own, and the others go by the other workers in ascending order
abbrev pub pass_worker : ℕ → ℕ → ℕ
pass_worker owner number = if nat_eq number 0 then owner else if nat_le number owner then number - 1 else number

-- the number of a worker's pass of an owner's mailbox
abbrev pub worker_pass : ℕ → ℕ → ℕ
worker_pass owner worker = if nat_eq worker owner then 0 else if nat_lt worker owner then worker + 1 else worker
