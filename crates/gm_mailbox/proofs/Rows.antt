-- A worked row: pass 0 sends 10 and 11, and pass 1, which is then joined back, sends 12.
use Rattle.std.proofs.Common.{◌≡◌, ℕ, zero, suc, List, [], ◌∷◌, ne_eqb, refl, arith}
use Rattle.gm_base.specs.Merge.{of, IsMerge}
use Rattle.gm_mailbox.specs.Sender.{MailboxId, Sender, fresh, sent_by, IsAlone}

abbrev batches : List (ℕ × ℕ)
batches = (0, 10) ∷ (1, 12) ∷ (0, 11) ∷ []

abbrev owner : MailboxId → Sender ℕ
owner m = record (fresh m 0) { sent = 10 ∷ 11 ∷ []; splits = 1; ended = (1, 12 ∷ []) ∷ [] }

pub alone : (m : MailboxId) → IsAlone (owner m)
alone m = (refl, refl)

pub of_first : of batches 0 ≡ 10 ∷ 11 ∷ []
of_first = refl

pub of_second : of batches 1 ≡ 12 ∷ []
of_second = refl

pub merged : (m : MailboxId) → IsMerge batches (sent_by (owner m))
merged m zero = refl
merged m (suc zero) = refl
merged m (suc (suc p)) =
    let no_first = ne_eqb 0 (suc (suc p)) (λ e. omega arith) in
    let no_second = ne_eqb 1 (suc (suc p)) (λ e. omega arith) in
    simp (no_first, no_second)
