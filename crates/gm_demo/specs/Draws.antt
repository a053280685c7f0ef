-- The numbers from which the graph of `demo n` is made: a linear congruential generator of 64 bits.
use Rattle.std.specs.Prelude.{ℕ, zero, suc, ◌+◌, ◌*◌, ◌/◌, ◌%◌, ◌^◌}

-- the number that is held after another
abbrev pub next_held : ℕ → ℕ
next_held x = (x * 6364136223846793005 + 1442695040888963407) % 2 ^ 64

-- the number that is held after some draws for `demo n`; before the first it is n
abbrev pub held_after : ℕ → ℕ → ℕ
held_after n zero = n
held_after n (suc k) = next_held (held_after n k)

-- the draw of an index, from 0, for `demo n`: the number that is held after it, divided by 2 ^ 33
abbrev pub draw : ℕ → ℕ → ℕ
draw n k = held_after n (k + 1) / 2 ^ 33
