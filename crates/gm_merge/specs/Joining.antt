-- Steps are joined line by line, from the first line of the master list to the last.
use Rattle.std.specs.Prelude.{ℕ, zero, suc, ◌+◌, nat_lt, Bool, cond, ◌&&◌, Option, Some, length, slice_get}
use Rattle.std.specs.List.{list_all}
use Rattle.gm_image.specs.Program.{Program, Command, Step}
use Rattle.gm_image.specs.Rows.{line_count}
use Rattle.gm_image.specs.Soundness.{line_limit}
use Rattle.gm_machine.specs.Machine.{block_at}
use Rattle.gm_merge_laws.specs.Joins.{leads_elsewhere, are_joinable, joined_image}

-- whether an image's text is not too long
abbrev pub is_short : Program → Bool
is_short p = nat_lt (line_count p) line_limit

-- whether line i and the one below it, steps of two blocks, are joined: no line jumps between them, the blocks may be one, and the text does not become too long
abbrev pub are_joined : Program → ℕ → ℕ → ℕ → Bool
are_joined p i a b =
    list_all (leads_elsewhere (i + 1)) p.master
    && are_joinable (block_at p a) (block_at p b)
    && is_short (joined_image p i a b)

-- the image in which line i, a command, and the one below it are joined, if they are steps that may be
abbrev pub with_pair_joined : Program → ℕ → Option Command → Option Command → Program
with_pair_joined p i (Some (Step a)) (Some (Step b)) = cond (are_joined p i a b) (joined_image p i a b) p
with_pair_joined p i first second = p

abbrev pub with_line_joined : Program → ℕ → Program
with_line_joined p i = with_pair_joined p i (slice_get p.master i) (slice_get p.master (i + 1))

-- the image after some lines from line i on, each of which is joined with the one below it if it may be
abbrev pub with_lines_joined : ℕ → ℕ → Program → Program
with_lines_joined zero i p = p
with_lines_joined (suc n) i p = with_lines_joined n (suc i) (with_line_joined p i)

-- the image after all lines. A step that two lines were joined to is joined with the next line in its turn
abbrev pub all_joined : Program → Program
all_joined p = with_lines_joined (length p.master) 0 p
