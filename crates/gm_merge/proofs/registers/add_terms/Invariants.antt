use Rattle.std.proofs.Common.{◌≡◌, ◌||◌, ℕ, take, map}
use Rattle.gm_image.specs.Parts.{is_among}
use Rattle.gm_image.specs.Views.{term}
use Rattle.gm_merge.specs.Registers.{terms_read}
use Rattle.gm_merge.proofs.registers.add_terms.Given as goal

-- the registers that were there, and those so far
abbrev pub invariant-loop-expr : goal.invariant-loop-expr
invariant-loop-expr l = (r : ℕ) → is_among r l.reads.items ≡ (is_among r l.initial.reads.items || terms_read (map term (take l.expr-index l.exprs)) r)
