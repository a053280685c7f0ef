-- Each join leaves one step line fewer.
use Rattle.std.proofs.Common.{◌≡◌, ℕ, zero, suc, ◌+◌, Some, List, [], ◌∷◌, ap, ◌∙◌, arith}
use Rattle.std.specs.Prelude.{slice_get}
use Rattle.gm_image.specs.Program.{Program, Command, Step, Jump}
use Rattle.gm_machine.specs.States.{steps_in, step_lines}
use Rattle.gm_merge_laws.specs.Joins.{Joinable, replaced, joined_image}

replaced-steps : (a b to q k : ℕ) (ms : List Command) → slice_get ms k ≡ Some (Step a) → slice_get ms (k + 1) ≡ Some (Step b) → suc (step_lines (replaced k (Jump to) (Step q) ms)) ≡ step_lines ms
replaced-steps a b to q k [] e f = cc
replaced-steps a b to q zero (m ∷ []) e f = cc
replaced-steps a b to q zero (m ∷ (n ∷ ms)) e f =
    let first : m ≡ Step a = cc in
    let second : n ≡ Step b = cc in
    let one = ap steps_in first in
    let two = ap steps_in second in
    omega arith
replaced-steps a b to q (suc k) (m ∷ ms) e f =
    let s : suc (k + 1) ≡ suc k + 1 = omega arith in
    let rest = replaced-steps a b to q k ms e (ap (slice_get (m ∷ ms)) s ∙ f) in
    omega arith

pub join-ends : (p : Program) (i a b : ℕ) → Joinable p i a b → suc (step_lines (joined_image p i a b).master) ≡ step_lines p.master
join-ends p i a b joinable = replaced-steps a b (i + 1) _ i p.master joinable.first joinable.second
