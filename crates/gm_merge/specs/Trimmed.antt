-- An image without the blocks that none of its steps runs.
use Rattle.std.specs.Prelude.{ℕ, zero, suc, nat_eq, Bool, true, false, List, [], ◌∷◌, map}
use Rattle.std.specs.List.{list_any}
use Rattle.gm_image.specs.Program.{Program, Block, Command, Step}

-- whether a line of the master list is a step of a block
abbrev pub steps_to : ℕ → Command → Bool
steps_to q (Step r) = nat_eq r q
steps_to q m = false

-- whether a block is run by some lines of the master list
abbrev pub is_run : List Command → ℕ → Bool
is_run ms q = list_any (steps_to q) ms

-- a block before others, if it is kept
abbrev pub kept_before : Bool → Block → List Block → List Block
kept_before true b bs = b ∷ bs
kept_before false b bs = bs

-- those of some blocks, numbered from one number on, that are kept
abbrev pub kept_blocks : (ℕ → Bool) → ℕ → List Block → List Block
kept_blocks keep q [] = []
kept_blocks keep q (b ∷ bs) = kept_before (keep q) b (kept_blocks keep (suc q) bs)

-- one more, if a number is kept
abbrev pub counted_before : Bool → ℕ → ℕ
counted_before true n = suc n
counted_before false n = n

-- how many of some numbers from one on are kept
abbrev pub kept_count : (ℕ → Bool) → ℕ → ℕ → ℕ
kept_count keep q zero = 0
kept_count keep q (suc n) = counted_before (keep q) (kept_count keep (suc q) n)

-- a line of the master list after blocks were dropped: a step's block has as many blocks before it as are kept
abbrev pub renumbered : (ℕ → Bool) → Command → Command
renumbered keep (Step q) = Step (kept_count keep 0 q)
renumbered keep m = m

-- the image without the blocks that no step runs. The others stay in their order
abbrev pub trimmed : Program → Program
trimmed p = record p {
  blocks = kept_blocks (is_run p.master) 0 p.blocks;
  master = map (renumbered (is_run p.master)) p.master;
}
