-- I3, I4 and I5: where the lines of the master list go, and how the list ends.
use Rattle.std.specs.Prelude.{ℕ, ◌+◌, nat_lt, nat_eq, Bool, true, false, not, ◌&&◌, Option, Some, length, slice_get, if◌then◌else◌}
use Rattle.gm_image.specs.Program.{Program, Command, Jump, Test, Turn, Back, Finish}
use Rattle.gm_image.specs.Rows.{Row, MasterRow, CommandRow}

-- whether a line of the list goes forward to a line of it
abbrev pub goes_forward : Program → ℕ → ℕ → Bool
goes_forward p j to = nat_lt j to && nat_lt to (length p.master)

-- whether a line of the list goes forward, if it may jump
abbrev pub jumps_forward : Program → ℕ → Command → Bool
jumps_forward p j (Jump to) = goes_forward p j to
jumps_forward p j (Test to a) = goes_forward p j to
jumps_forward p j (Turn exit a) = goes_forward p j exit
jumps_forward p j c = true

-- I3: `jump`, `test` and `loop` go forward to a line of the list
abbrev pub all_jump_forward : Program → Row → Bool
all_jump_forward p (CommandRow j c) = jumps_forward p j c
all_jump_forward p row = true

-- whether a line is a loop whose exit is greater than a line's index
abbrev pub exits_behind : ℕ → Option Command → Bool
exits_behind j (Some (Turn exit a)) = nat_lt j exit
exits_behind j c = false

-- whether a line goes back to a loop that has it inside, if it goes back
abbrev pub goes_back : Program → ℕ → Command → Bool
goes_back p j (Back head) = nat_lt head j && exits_behind j (slice_get p.master head)
goes_back p j c = true

-- I4: `back h` at line j has h < j, line h is a `loop`, and its exit is greater than j
abbrev pub all_go_back : Program → Row → Bool
all_go_back p (CommandRow j c) = goes_back p j c
all_go_back p row = true

-- whether a line is `end`
abbrev pub is_end : Command → Bool
is_end Finish = true
is_end c = false

-- I5: the last master line is `end` and no other is; a list of no lines breaks it at its header
abbrev pub ends_last : Program → Row → Bool
ends_last p MasterRow = nat_lt 0 (length p.master)
ends_last p (CommandRow j c) = if nat_eq (j + 1) (length p.master) then is_end c else not (is_end c)
ends_last p row = true
