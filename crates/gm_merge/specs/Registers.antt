-- The registers that lines set and read.
use Rattle.std.specs.Prelude.{ℕ, Bool, true, not, Option, Some, None, List, [], ◌∷◌, slice_get}
use Rattle.std.specs.List.{list_all, flat_map}
use Rattle.gm_value.specs.declared.values.VType.{VType}
use Rattle.gm_image.specs.Term.{Term, Register}
use Rattle.gm_image.specs.Parts.{all_leaves}
use Rattle.gm_image.specs.Program.{Line}
use Rattle.gm_merge_laws.specs.Joins.{is_not_register, sets_register, reads_not, restart}

-- whether some line sets a register
abbrev pub sets_some : List Line → ℕ → Bool
sets_some ls r = not (list_all (λ l. not (sets_register r l)) ls)

-- whether some line reads a register
abbrev pub reads_some : List Line → ℕ → Bool
reads_some ls r = not (list_all (reads_not r) ls)

-- whether a line reads a register
abbrev pub line_reads : Line → ℕ → Bool
line_reads l r = not (reads_not r l)

-- whether an expression does, and some of a list
abbrev pub term_reads : Term → ℕ → Bool
term_reads a r = not (all_leaves (is_not_register r) a)

abbrev pub terms_read : List Term → ℕ → Bool
terms_read ts r = not (list_all (all_leaves (is_not_register r)) ts)

-- the register that a leaf reads, if it reads one
abbrev pub leaf_register : Term → Option ℕ
leaf_register (Register r) = Some r
leaf_register a = None

-- the line by which a register of a type starts again, if it was set and there is one
abbrev pub restart_if : Bool → ℕ → Option VType → List Line
restart_if true r (Some t) = restart (r, t) ∷ []
restart_if set r t = []

-- those of some registers
abbrev pub restarts_among : (ℕ → Bool) → List VType → List ℕ → List Line
restarts_among set registers rs = flat_map (λ r. restart_if (set r) r (slice_get registers r)) rs
