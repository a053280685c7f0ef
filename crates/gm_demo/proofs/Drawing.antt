-- What is held after the draws of one edge.
use Rattle.std.proofs.Common.{◌≡◌, ◌+◌, ◌*◌, ℕ, suc, ap, arith}
use Rattle.gm_demo.specs.Draws.{next_held, held_after}

-- three draws are made between an edge and the next
pub held_after-three : (n k : ℕ) → held_after n (3 * (k + 1)) ≡ next_held (next_held (next_held (held_after n (3 * k))))
held_after-three n k =
    let three : 3 * (k + 1) ≡ suc (suc (suc (3 * k))) = omega arith in
    ap (λ draws. held_after n draws) three
