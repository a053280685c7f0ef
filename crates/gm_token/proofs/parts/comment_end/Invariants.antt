use Rattle.std.proofs.Common.{◌≡◌, ℕ, ◌<◌, false, drop, nat_eq}
use Rattle.std.specs.Prelude.{codes}
use Rattle.std.specs.List.{starts_with}
use Rattle.gm_token.proofs.parts.comment_end.Given as goal

abbrev pub invariant-loop-at : goal.invariant-loop-at
invariant-loop-at l = (k : ℕ) → k < l.at → starts_with nat_eq (drop k l.text) (codes "*/") ≡ false
