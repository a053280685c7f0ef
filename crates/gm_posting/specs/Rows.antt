-- The passes of all mailboxes in rows, one row a worker: how they are split off for the workers, and how they are joined back.
use Rattle.std.specs.Prelude.{◌≡◌, ◌+◌, ◌-◌, ◌<◌, ◌≤◌, ℕ, zero, suc, nat_lt, if◌then◌else◌, List, [], ◌∷◌, ◌++◌, length, map, slice_index_or, Vec}
use Rattle.std.specs.declared.alloc.Global.{Global}
use Rattle.gm_base.specs.Merge.{IsMerge}
use Rattle.gm_mailbox.specs.Sender.{MailboxId, Sender, fresh, sent_by}
use Rattle.gm_posting.specs.Numbers.{pass_worker, worker_pass}
use Rattle.gm_posting.specs.Traffic.{Traffic, by_workers, IsPassOf, AreInPlace, traffic_by}

-- a worker's passes, one of each mailbox
abbrev pub Row : Type 0 → Type 0
Row T = Vec (Sender T) Global

module _ {X : Type 0} where
  -- so many empty lists
  pub record AreEmpty (count : ℕ) (lists : List (Vec X Global)) : Type 0 where
    pub long : length lists ≡ count
    pub each : (k : ℕ) (d : Vec X Global) → k < count → (slice_index_or lists k d).items ≡ []

module _ {T : Type 0} where
  -- the workers by their rows, counted from one on
  abbrev pub traffics : ℕ → List (Row T) → List (Traffic T)
  traffics w [] = []
  traffics w (row ∷ rows) = traffic_by w row.items ∷ traffics (suc w) rows

  -- each row has the passes of the worker at its place, one of each mailbox
  abbrev pub ArePlaced : List (Row T) → Type 0
  ArePlaced rows = (w : ℕ) (d : Row T) → w < length rows → AreInPlace w (slice_index_or rows w d).items

  -- each row has a pass of each of these mailboxes
  abbrev pub AreFull : List MailboxId → List (Row T) → Type 0
  AreFull ids rows = (w : ℕ) (d : Row T) → w < length rows → map (λ (q : Sender T). q.mailbox) (slice_index_or rows w d).items ≡ ids

  -- one more pass stands in a row
  pub record SplitsOne (id : MailboxId) (old new : Sender T) (row row' : List (Sender T)) : Type 0 where
    pub zero : new ≡ record old { splits = old.splits + 1 }
    pub one : row' ≡ row ++ fresh id (old.splits + 1) ∷ []

  -- workers from one up to another have a pass more, with the next numbers in their order
  pub record Splits (id : MailboxId) (from to : ℕ) (old new : Sender T) (rows rows' : List (Row T)) : Type 0 where
    pub zero : new ≡ record old { splits = old.splits + (to - from) }
    pub long : length rows' ≡ length rows
    pub got : (w : ℕ) (d : Row T) → from ≤ w → w < to → (slice_index_or rows' w d).items ≡ (slice_index_or rows w d).items ++ fresh id (old.splits + 1 + (w - from)) ∷ []
    pub before : (w : ℕ) (d : Row T) → w < from → slice_index_or rows' w d ≡ slice_index_or rows w d
    pub behind : (w : ℕ) (d : Row T) → to ≤ w → slice_index_or rows' w d ≡ slice_index_or rows w d

  -- a new pass of worker `own`'s mailbox, as worker `w` of so many gets it: the owner keeps pass 0, from which the others were split off
  abbrev pub first_pass : ℕ → ℕ → ℕ → MailboxId → Sender T
  first_pass workers own w id = if nat_lt w own then fresh id (worker_pass own w) else if nat_lt own w then fresh id (worker_pass own w) else record (fresh id 0) { splits = workers - 1 }

  -- each worker has one pass more, of one new mailbox
  pub record Opens (own : ℕ) (id : MailboxId) (rows rows' : List (Row T)) : Type 0 where
    pub long : length rows' ≡ length rows
    pub each : (w : ℕ) (d : Row T) → w < length rows → (slice_index_or rows' w d).items ≡ (slice_index_or rows w d).items ++ first_pass (length rows) own w id ∷ []

  -- new passes of mailboxes, those of the workers from one on, as worker `w` of so many gets them
  abbrev pub first_passes : ℕ → ℕ → ℕ → List MailboxId → List (Sender T)
  first_passes workers w own [] = []
  first_passes workers w own (id ∷ ids) = first_pass workers own w id ∷ first_passes workers w (suc own) ids

  -- each worker has a new pass of each of these mailboxes, and no other
  pub record OpensAll (workers : ℕ) (ids : List MailboxId) (rows : List (Row T)) : Type 0 where
    pub long : length rows ≡ workers
    pub each : (w : ℕ) (d : Row T) → w < workers → (slice_index_or rows w d).items ≡ first_passes workers w 0 ids

  -- the last pass of a row is one of a mailbox, and not pass 0
  pub record IsOthers (id : MailboxId) (row : List (Sender T)) : Type 0 where
    pub front : List (Sender T)
    pub last : Sender T
    pub is : row ≡ front ++ last ∷ []
    pub mailbox : last.mailbox ≡ id
    pub other : 0 < last.number

  -- the last pass of a row is worker `w`'s pass of worker `own`'s mailbox, among so many workers
  pub record HasLast (workers own w : ℕ) (id : MailboxId) (row : List (Sender T)) : Type 0 where
    pub front : List (Sender T)
    pub last : Sender T
    pub is : row ≡ front ++ last ∷ []
    pub mailbox : last.mailbox ≡ id
    pub of_worker : IsPassOf workers own w last

  -- the last pass of a row was joined back
  pub record JoinsOne (old new : Sender T) (row row' : List (Sender T)) : Type 0 where
    pub last : Sender T
    pub is : row ≡ row' ++ last ∷ []
    pub zero : new ≡ record old { ended = (last.number, last.sent) ∷ old.ended }

  -- what is kept of passes that were joined back, of so many workers from one on, the latest first
  abbrev pub kept : (ℕ → Sender T) → ℕ → ℕ → List (ℕ × List T)
  kept last from zero = []
  kept last from (suc k) = ((last (from + k)).number, (last (from + k)).sent) ∷ kept last from k

  -- the last passes of the rows of workers from one up to another, `last w` that of worker w, were joined back, in ascending order
  pub record Joins (from to : ℕ) (old new : Sender T) (rows rows' : List (Row T)) : Type 0 where
    pub last : ℕ → Sender T
    pub zero : new ≡ record old { ended = kept last from (to - from) ++ old.ended }
    pub long : length rows' ≡ length rows
    pub lasts : (w : ℕ) (d : Row T) → from ≤ w → w < to → (slice_index_or rows w d).items ≡ (slice_index_or rows' w d).items ++ last w ∷ []
    pub before : (w : ℕ) (d : Row T) → w < from → slice_index_or rows' w d ≡ slice_index_or rows w d
    pub behind : (w : ℕ) (d : Row T) → to ≤ w → slice_index_or rows' w d ≡ slice_index_or rows w d

  -- a batch was taken by pass 0 of worker `own`'s mailbox, and is answered with the worker that sent it
  pub record TakesOne (own : ℕ) (old new : Sender T) (x : ℕ × T) : Type 0 where
    pub number : ℕ
    pub known : number ≤ old.splits
    pub sender : x.0 ≡ pass_worker own number
    pub taken : new ≡ record old { taken = old.taken ++ (number, x.1) ∷ [] }

  -- batches were taken by pass 0 of worker `own`'s mailbox, and stand in a list with the workers that sent them
  pub record Drains (own : ℕ) (old new : Sender T) (late late' : List (ℕ × T)) : Type 0 where
    pub batches : List (ℕ × T)
    pub taken : new ≡ record old { taken = old.taken ++ batches }
    pub kept : late' ≡ late ++ by_workers own batches

  -- so all was taken: what pass 0 has taken is a merge of what each pass has sent
  pub record Empties (own : ℕ) (old new : Sender T) (late late' : List (ℕ × T)) : Type 0 where
    pub drained : Drains own old new late late'
    pub merged : IsMerge new.taken (sent_by new)

  -- The last pass of each row, `last w` that of worker w, was taken away. What the owner's had taken, and then the batches that came
  -- behind the late ones, is a merge of what the passes of all workers have sent
  pub record Closes (own : ℕ) (rows rows' : List (Row T)) (late late' : List (ℕ × T)) : Type 0 where
    pub last : ℕ → Sender T
    pub more : List (ℕ × T)
    pub long : length rows' ≡ length rows
    pub lasts : (w : ℕ) (d : Row T) → w < length rows → (slice_index_or rows w d).items ≡ (slice_index_or rows' w d).items ++ last w ∷ []
    pub kept : late' ≡ late ++ more
    pub merged : IsMerge (by_workers own (last own).taken ++ more) (λ w. if nat_lt w (length rows) then (last w).sent else [])
