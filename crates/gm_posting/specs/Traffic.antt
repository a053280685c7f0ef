-- What each worker has sent to each other and taken, as clauses see it.
use Rattle.std.specs.Prelude.{◌≡◌, ◌-◌, ◌<◌, ◌≤◌, ℕ, List, [], ◌∷◌, ◌++◌, length, map, slice_set, slice_index_or, Vec}
use Rattle.std.specs.declared.alloc.Global.{Global}
use Rattle.gm_base.specs.Merge.{IsMerge}
use Rattle.gm_mailbox.specs.Sender.{MailboxId, Sender}
use Rattle.gm_posting.specs.Numbers.{pass_worker, worker_pass}

-- A worker: the mailboxes of all, by the worker that owns each; its own number; what it has sent to each worker, in its order; and the
-- batches that it has taken from its own mailbox, each with the worker that sent it, in the order in which they came
pub record Traffic (T : Type 0) : Type 0 where
  pub mailboxes : List MailboxId
  pub worker : ℕ
  pub sent : List (List T)
  pub taken : List (ℕ × T)

module _ {T : Type 0} where
  -- batches with the numbers of passes of an owner's mailbox, with the workers instead
  abbrev pub by_workers : ℕ → List (ℕ × T) → List (ℕ × T)
  by_workers owner batches = map (λ x. (pass_worker owner x.0, x.1)) batches

  -- Worker `w`'s pass of worker `own`'s mailbox, among so many workers. The owner's is pass 0: a pass was split off for each other worker,
  -- and none is joined back yet
  pub record IsPassOf (workers own w : ℕ) (p : Sender T) : Type 0 where
    pub number : p.number ≡ worker_pass own w
    pub splits : w ≡ own → p.splits ≡ workers - 1
    pub ended : w ≡ own → p.ended ≡ []

  -- each of a worker's passes is its pass of the mailbox at its place
  pub record AreInPlace (w : ℕ) (posts : List (Sender T)) : Type 0 where
    pub some : w < length posts
    pub few : length posts ≤ 64
    pub each : (own : ℕ) (d : Sender T) → own < length posts → IsPassOf (length posts) own w (slice_index_or posts own d)

  -- a worker by its passes
  abbrev pub traffic_by : ℕ → List (Sender T) → Traffic T
  traffic_by w posts = record {
    mailboxes = map (λ (q : Sender T). q.mailbox) posts;
    worker = w;
    sent = map (λ (q : Sender T). q.sent) posts;
    taken = by_workers w (slice_index_or (map (λ (q : Sender T). q.taken) posts) w []);
  }

  -- a worker that has done nothing yet
  abbrev pub unused : List MailboxId → ℕ → Traffic T
  unused ids w = record { mailboxes = ids; worker = w; sent = map (λ id. []) ids; taken = [] }

  -- one more batch was sent to a worker, and nothing to another
  abbrev pub sends : ℕ → T → Traffic T → Traffic T
  sends to batch t = record t { sent = slice_set t.sent to (slice_index_or t.sent to [] ++ batch ∷ []) }

  -- the workers, each at the place of its number, share these mailboxes, one for each of them
  pub record AreWorkers (ids : List MailboxId) (workers : List (Traffic T)) : Type 0 where
    pub count : length workers ≡ length ids
    pub places : (w : ℕ) (d : Traffic T) → w < length workers → (slice_index_or workers w d).worker ≡ w
    pub mailboxes : (w : ℕ) (d : Traffic T) → w < length workers → (slice_index_or workers w d).mailboxes ≡ ids

  -- so many workers that have done nothing yet
  pub record AreOpen (count : ℕ) (ids : List MailboxId) (workers : List (Traffic T)) : Type 0 where
    pub count_is : length ids ≡ count
    pub workers_are : AreWorkers ids workers
    pub none_used : (w : ℕ) (d : Traffic T) → w < count → slice_index_or workers w d ≡ unused ids w

  -- what a worker has sent to another; nothing where there is no such worker
  abbrev pub sent_to : List (Traffic T) → ℕ → ℕ → List T
  sent_to workers to from = slice_index_or (map (λ t. slice_index_or t.sent to []) workers) from []

  -- what a worker has taken from its mailbox
  abbrev pub taken_by : List (Traffic T) → ℕ → List (ℕ × T)
  taken_by workers to = slice_index_or (map (λ t. t.taken) workers) to []

  -- What each worker had taken early, and then its late batches, is a merge of what all workers have sent to it, each in its order: nothing is
  -- lost, nothing comes twice, and nothing was sent to another
  pub record ArriveAll (workers : List (Traffic T)) (late : List (Vec (ℕ × T) Global)) : Type 0 where
    pub long : length late ≡ length workers
    pub merged : (to : ℕ) (d : Vec (ℕ × T) Global) → to < length workers → IsMerge (taken_by workers to ++ (slice_index_or late to d).items) (sent_to workers to)
