-- What a step of one pass changes in what clauses see of its worker.
use Rattle.std.proofs.Common.{◌≡◌, ◌<◌, ◌-◌, ℕ, List, [], ◌∷◌, ◌++◌, length, map, set, refl, sym, ap, ◌∙◌, arith}
use Rattle.std.specs.Prelude.{slice_index_or}
use Rattle.std.proofs.lemmas.List.{length-set, length-map, map-set, set-get_or, get_or-map, get_or-set_same}
use lib.Seq.{map-set_same}
use Rattle.gm_base.specs.Merge.{of}
use Rattle.gm_mailbox.specs.Sender.{MailboxId, Sender}
use Rattle.gm_posting.specs.Numbers.{pass_worker}
use Rattle.gm_posting.specs.Rows.{TakesOne}
use Rattle.gm_posting.specs.Traffic.{Traffic, by_workers, AreInPlace, traffic_by, sends}
use Rattle.gm_posting.proofs.NumberLemmas.{worker-own, pass-within, of-workers, workers-append}

module _ {T : Type 0} where
  -- the mailboxes are as many as the passes
  pub count-is : (w : ℕ) (posts : List (Sender T)) (ids : List MailboxId) → (traffic_by w posts).mailboxes ≡ ids → length posts ≡ length ids
  count-is w posts ids e = sym (length-map posts (λ (q : Sender T). q.mailbox)) ∙ ap length e

  -- a pass is one of the mailbox at its place
  pub mailbox-at : (w : ℕ) (posts : List (Sender T)) (ids : List MailboxId) (k : ℕ) (p : Sender T) (id : MailboxId) → (traffic_by w posts).mailboxes ≡ ids → k < length posts → p ≡ slice_index_or posts k p → id ≡ slice_index_or ids k id → p.mailbox ≡ id
  mailbox-at w posts ids k p id e low is at =
      ap (λ (q : Sender T). q.mailbox) is ∙ sym (get_or-map (λ (q : Sender T). q.mailbox) posts k p id low) ∙ ap (λ l. slice_index_or l k id) e ∙ sym at

  -- one pass was changed in nothing that the others would see
  pub kept-shows : (w : ℕ) (posts : List (Sender T)) (k : ℕ) (p q : Sender T) → q ≡ slice_index_or posts k q → p ≡ q → traffic_by w (set posts k p) ≡ traffic_by w posts
  kept-shows w posts k p q is e = ap (traffic_by w) (ap (set posts k) (e ∙ is) ∙ set-get_or posts k q)

  -- a pass has sent one more batch
  pub sends-shows : (w : ℕ) (posts : List (Sender T)) (k : ℕ) (p q : Sender T) (batch : T) → k < length posts → q ≡ slice_index_or posts k q → p ≡ record q { sent = q.sent ++ batch ∷ [] } →
      traffic_by w (set posts k p) ≡ sends k batch (traffic_by w posts)
  sends-shows w posts k p q batch low is e =
      let made : List MailboxId → List (List T) → List (ℕ × T) → Traffic T = λ ids sent taken. record { mailboxes = ids; worker = w; sent = sent; taken = taken } in
      let boxes : map (λ (s : Sender T). s.mailbox) (set posts k p) ≡ map (λ (s : Sender T). s.mailbox) posts =
      map-set_same (λ (s : Sender T). s.mailbox) posts k p q (ap (λ (s : Sender T). s.mailbox) e ∙ ap (λ (s : Sender T). s.mailbox) is) in
      let takes : map (λ (s : Sender T). s.taken) (set posts k p) ≡ map (λ (s : Sender T). s.taken) posts =
      map-set_same (λ (s : Sender T). s.taken) posts k p q (ap (λ (s : Sender T). s.taken) e ∙ ap (λ (s : Sender T). s.taken) is) in
      let sent_k : slice_index_or (map (λ (s : Sender T). s.sent) posts) k [] ≡ q.sent =
      get_or-map (λ (s : Sender T). s.sent) posts k q [] low ∙ ap (λ (s : Sender T). s.sent) (sym is) in
      let sents : map (λ (s : Sender T). s.sent) (set posts k p) ≡ set (map (λ (s : Sender T). s.sent) posts) k (slice_index_or (map (λ (s : Sender T). s.sent) posts) k [] ++ batch ∷ []) =
      map-set (λ (s : Sender T). s.sent) posts k p
      ∙ ap (set (map (λ (s : Sender T). s.sent) posts) k) (ap (λ (s : Sender T). s.sent) e ∙ ap (λ l. l ++ batch ∷ []) (sym sent_k)) in
      λ i. made (boxes i) (sents i) (by_workers w (slice_index_or (takes i) w []))

  -- a worker has taken one more batch from its own mailbox
  pub takes-shows : (w : ℕ) (posts : List (Sender T)) (p q : Sender T) (x : ℕ × T) → w < length posts → q ≡ slice_index_or posts w q → TakesOne w q p x →
      traffic_by w (set posts w p) ≡ record (traffic_by w posts) { taken = (traffic_by w posts).taken ++ x ∷ [] }
  takes-shows w posts p q x low is t =
      let made : List MailboxId → List (List T) → List (ℕ × T) → Traffic T = λ ids sent taken. record { mailboxes = ids; worker = w; sent = sent; taken = taken } in
      let boxes : map (λ (s : Sender T). s.mailbox) (set posts w p) ≡ map (λ (s : Sender T). s.mailbox) posts =
      map-set_same (λ (s : Sender T). s.mailbox) posts w p q (ap (λ (s : Sender T). s.mailbox) t.taken ∙ ap (λ (s : Sender T). s.mailbox) is) in
      let sents : map (λ (s : Sender T). s.sent) (set posts w p) ≡ map (λ (s : Sender T). s.sent) posts =
      map-set_same (λ (s : Sender T). s.sent) posts w p q (ap (λ (s : Sender T). s.sent) t.taken ∙ ap (λ (s : Sender T). s.sent) is) in
      let before : slice_index_or (map (λ (s : Sender T). s.taken) posts) w [] ≡ q.taken =
      get_or-map (λ (s : Sender T). s.taken) posts w q [] low ∙ ap (λ (s : Sender T). s.taken) (sym is) in
      let now : slice_index_or (map (λ (s : Sender T). s.taken) (set posts w p)) w [] ≡ q.taken ++ (t.number, x.1) ∷ [] =
      get_or-map (λ (s : Sender T). s.taken) (set posts w p) w q [] (omega (arith, low, length-set posts w p))
      ∙ ap (λ (s : Sender T). s.taken) (get_or-set_same posts w p q low ∙ t.taken) in
      let pair : ℕ → ℕ × T = λ n. (n, x.1) in
      let takes : by_workers w (slice_index_or (map (λ (s : Sender T). s.taken) (set posts w p)) w []) ≡ by_workers w (slice_index_or (map (λ (s : Sender T). s.taken) posts) w []) ++ x ∷ [] =
      ap (by_workers w) now
      ∙ workers-append w q.taken ((t.number, x.1) ∷ [])
      ∙ ap (λ l. by_workers w l ++ pair (pass_worker w t.number) ∷ []) (sym before)
      ∙ ap (λ n. by_workers w (slice_index_or (map (λ (s : Sender T). s.taken) posts) w []) ++ pair n ∷ []) (sym t.sender) in
      λ i. made (boxes i) (sents i) (takes i)

  -- the sender of a batch that was taken is a worker
  pub takes-sender : (w : ℕ) (posts : List (Sender T)) (p q : Sender T) (x : ℕ × T) → AreInPlace w posts → q ≡ slice_index_or posts w q → TakesOne w q p x → x.0 < length posts
  takes-sender w posts p q x place is t =
      let splits : q.splits ≡ length posts - 1 = ap (λ (s : Sender T). s.splits) is ∙ (place.each w q place.some).splits refl in
      let known = t.known in
      let within : pass_worker w t.number < length posts = pass-within w (length posts) t.number place.some (omega arith) in
      let sender = t.sender in
      omega arith

  -- what a worker has taken of its own batches
  pub takes-own : (w : ℕ) (posts : List (Sender T)) (q : Sender T) → w < length posts → q ≡ slice_index_or posts w q → of q.taken 0 ≡ q.sent →
      of (traffic_by w posts).taken w ≡ slice_index_or (traffic_by w posts).sent w []
  takes-own w posts q low is own =
      of-workers w (slice_index_or (map (λ (s : Sender T). s.taken) posts) w []) w
      ∙ ap (of (slice_index_or (map (λ (s : Sender T). s.taken) posts) w [])) (worker-own w w refl)
      ∙ ap (λ l. of l 0) (get_or-map (λ (s : Sender T). s.taken) posts w q [] low ∙ ap (λ (s : Sender T). s.taken) (sym is))
      ∙ own
      ∙ sym (get_or-map (λ (s : Sender T). s.sent) posts w q [] low ∙ ap (λ (s : Sender T). s.sent) (sym is))
