-- What clauses see of a mailbox and of a pass.
use Rattle.std.specs.Prelude.{◌≡◌, ℕ, List, [], length, ◌==◌, if◌then◌else◌}
use Rattle.std.specs.declared.alloc.Global.{Global}
use Rattle.crossbeam_queue.specs.SegTies.{SegId}
use Rattle.gm_base.specs.Merge.{listed}

-- which mailbox it is: two values are equal where they stand for one mailbox
abbrev pub MailboxId : Type 0
MailboxId = SegId Global

-- A pass: its mailbox, its number and what it has sent.
-- Pass 0 knows besides how many passes were split off, the number and the list of each that was joined back, and what was taken.
pub record Sender (T : Type 0) : Type 0 where
  pub mailbox : MailboxId
  pub number : ℕ
  pub sent : List T
  pub splits : ℕ
  pub ended : List (ℕ × List T)
  pub taken : List (ℕ × T)

module _ {T : Type 0} where
  -- a pass that has done nothing yet
  abbrev pub fresh : MailboxId → ℕ → Sender T
  fresh m n = record { mailbox = m; number = n; sent = []; splits = 0; ended = []; taken = [] }

  -- what each number has sent, as far as this pass knows: its own list, and those that were joined back
  abbrev pub sent_by : Sender T → ℕ → List T
  sent_by s p = (if s.number == p then s.sent else listed s.ended p)

  -- pass 0, where each pass that was split off was joined back
  abbrev pub IsAlone : Sender T → Type 0
  IsAlone s = (s.number ≡ 0) × (length s.ended ≡ s.splits)
