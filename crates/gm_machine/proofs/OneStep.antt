-- The block of a step is one of the image.
use Rattle.std.proofs.Common.{◌≡◌, ℕ, true, ap, ◌∙◌}
use Rattle.gm_image.specs.Program.{Program, Block}
use Rattle.gm_machine.specs.Vertex.{never_sets, handler_lines}
use Rattle.gm_machine.specs.Machine.{block_at}
use Rattle.gm_machine.specs.Steps.{KeepsFields}

-- what is known of an image's block is known of one that is the same
pub block-keeps : (p : Program) (q : ℕ) (b : Block) → b ≡ block_at p q → KeepsFields p q → (kind : ℕ) → never_sets (handler_lines b.handlers kind) ≡ true
block-keeps p q b is keeps kind = ap (λ c. never_sets (handler_lines c.handlers kind)) is ∙ keeps kind
