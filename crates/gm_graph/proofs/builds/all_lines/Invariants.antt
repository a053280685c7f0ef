use Rattle.std.proofs.Common.{◌≡◌, ◌<◌, ℕ, slice_index, vec_len}
use Rattle.gm_graph.proofs.builds.all_lines.Given as goal

-- the first lines
abbrev pub invariant-loop-line : goal.invariant-loop-line
invariant-loop-line l = (vec_len l.lines ≡ l.line) × ((k : ℕ) → k < l.line → slice_index l.lines.items k ≡ k)
