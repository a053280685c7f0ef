-- Rows that were worked out by hand.
use Rattle.std.specs.Prelude.{◌≡◌, ℕ, [], ◌∷◌, ◌++◌, refl}
use Rattle.gm_base.specs.Merge.{of}
use Rattle.gm_posting.specs.Numbers.{pass_worker, worker_pass}
use Rattle.gm_posting.specs.Traffic.{Traffic, sends, sent_to, taken_by}
use Rattle.gm_posting.specs.Gathering.{only_for, at_places}

-- the passes of worker 2's mailbox
pass-rows : (pass_worker 2 0 ≡ 2) × (pass_worker 2 1 ≡ 0) × (pass_worker 2 2 ≡ 1) × (pass_worker 2 3 ≡ 3)
pass-rows = (refl, refl, refl, refl)

worker-rows : (worker_pass 2 0 ≡ 1) × (worker_pass 2 1 ≡ 2) × (worker_pass 2 2 ≡ 0) × (worker_pass 2 3 ≡ 3)
worker-rows = (refl, refl, refl, refl)

-- two workers: worker 0 has sent 5 and 6 to worker 1, and worker 1 has sent 7 to itself and taken it and 5
abbrev first : Traffic ℕ
first = record { mailboxes = []; worker = 0; sent = [] ∷ (5 ∷ 6 ∷ []) ∷ []; taken = [] }

abbrev second : Traffic ℕ
second = record { mailboxes = []; worker = 1; sent = [] ∷ (7 ∷ []) ∷ []; taken = (1, 7) ∷ (0, 5) ∷ [] }

sends-row : sends 1 6 (record first { sent = [] ∷ (5 ∷ []) ∷ [] }) ≡ first
sends-row = refl

sent-rows : (sent_to (first ∷ second ∷ []) 1 0 ≡ 5 ∷ 6 ∷ []) × (sent_to (first ∷ second ∷ []) 1 1 ≡ 7 ∷ []) × (sent_to (first ∷ second ∷ []) 1 2 ≡ []) × (sent_to (first ∷ second ∷ []) 0 1 ≡ [])
sent-rows = (refl, refl, refl, refl)

-- with 6 collected late, what came to worker 1 is, of each, what it sent
arrives-rows : (of (taken_by (first ∷ second ∷ []) 1 ++ (0, 6) ∷ []) 0 ≡ 5 ∷ 6 ∷ []) × (of (taken_by (first ∷ second ∷ []) 1 ++ (0, 6) ∷ []) 1 ≡ 7 ∷ [])
arrives-rows = (refl, refl)

only-rows : (only_for {M = ℕ} 1 (9 ∷ 8 ∷ []) 0 ≡ []) × (only_for {M = ℕ} 1 (9 ∷ 8 ∷ []) 1 ≡ 9 ∷ 8 ∷ [])
only-rows = (refl, refl)

-- items may be taken in any order, and one of them again
places-rows : (at_places {M = ℕ} (5 ∷ 6 ∷ 7 ∷ []) (2 ∷ 0 ∷ 2 ∷ []) 0 ≡ 7 ∷ 5 ∷ 7 ∷ []) × (at_places {M = ℕ} (5 ∷ []) [] 0 ≡ [])
places-rows = (refl, refl)
