-- Passes that are joined back, and what their mailbox gave.
use Rattle.std.proofs.Common.{◌≡◌, ◌≢◌, ◌<◌, ◌≤◌, ◌+◌, ◌-◌, ℕ, zero, suc, cond, nat_eq, nat_lt, List, [], ◌∷◌, ◌++◌, length, map, take, set, refl, sym, ap, ◌∙◌, subst, arith, ⊎_elim}
use Rattle.std.specs.Prelude.{slice_index_or, Vec}
use Rattle.std.specs.declared.alloc.Global.{Global}
use Rattle.std.proofs.lemmas.Bool.{cases_eq, cases_lt, eq-eqb, ne_eqb, lt-ltb, le-ltb}
use Rattle.std.proofs.lemmas.List.{length-append, length-set, length-map, same_from_push, get_or-set_same, get_or-set_other, get_or_default, get_or-map, get_or_past, take_more, take_all}
use Rattle.gm_base.specs.Merge.{of, listed, IsMerge}
use Rattle.gm_mailbox.specs.Sender.{MailboxId, Sender, sent_by, IsAlone}
use Rattle.gm_posting.specs.Numbers.{pass_worker, worker_pass}
use Rattle.gm_posting.specs.Traffic.{Traffic, by_workers, IsPassOf, traffic_by, AreWorkers, sent_to, taken_by, ArriveAll}
use Rattle.gm_posting.specs.Rows.{Row, AreEmpty, ArePlaced, AreFull, traffics, IsOthers, HasLast, kept, Joins, Empties, Closes}
use Rattle.gm_posting.proofs.NumberLemmas.{worker-own, worker-low, worker-high, pass-of_worker, of-workers, workers-append}
use Rattle.gm_posting.proofs.RowLemmas.{kept-length}
use Rattle.gm_posting.proofs.WorkerLemmas.{some-of, traffics-at, traffics-length}

module _ {T : Type 0} where
  -- a worker's list is found among those that were kept
  found : (own : ℕ) (f : ℕ → Sender T) (from k : ℕ) (e : List (ℕ × List T)) (v : ℕ) → ((w : ℕ) → from ≤ w → w < from + k → (f w).number ≡ worker_pass own w) →
      from ≤ v → v < from + k → listed (kept f from k ++ e) (worker_pass own v) ≡ (f v).sent
  found own f from zero e v numbers low high = absurd (omega arith)
  found own f from (suc k) e v numbers low high =
      ⊎_elim
      (λ (here : v ≡ from + k).
      let same : (f (from + k)).number ≡ worker_pass own v = numbers (from + k) (omega arith) (omega arith) ∙ ap (worker_pass own) (sym here) in
      ap (λ b. cond b (f (from + k)).sent (listed (kept f from k ++ e) (worker_pass own v))) (eq-eqb (f (from + k)).number (worker_pass own v) same) ∙ ap (λ n. (f n).sent) (sym here))
      (λ (other : v ≡ from + k → ⊥).
      let apart : (f (from + k)).number ≢ worker_pass own v =
      λ is. other (sym (pass-of_worker own v) ∙ ap (pass_worker own) (sym is ∙ numbers (from + k) (omega arith) (omega arith)) ∙ pass-of_worker own (from + k)) in
      ap (λ b. cond b (f (from + k)).sent (listed (kept f from k ++ e) (worker_pass own v))) (ne_eqb (f (from + k)).number (worker_pass own v) apart)
      ∙ found own f from k e v (λ w least most. numbers w least (omega arith)) low (omega arith))
      (cases_eq v (from + k))

  -- a worker whose pass is not among them is looked up behind them
  not-found : (own : ℕ) (f : ℕ → Sender T) (from k : ℕ) (e : List (ℕ × List T)) (v : ℕ) → ((w : ℕ) → from ≤ w → w < from + k → (f w).number ≡ worker_pass own w) →
      ((w : ℕ) → from ≤ w → w < from + k → w ≢ v) → listed (kept f from k ++ e) (worker_pass own v) ≡ listed e (worker_pass own v)
  not-found own f from zero e v numbers away = refl
  not-found own f from (suc k) e v numbers away =
      let apart : (f (from + k)).number ≢ worker_pass own v =
      λ is. away (from + k) (omega arith) (omega arith) (sym (pass-of_worker own (from + k)) ∙ ap (pass_worker own) (sym (numbers (from + k) (omega arith) (omega arith)) ∙ is) ∙ pass-of_worker own v) in
      ap (λ b. cond b (f (from + k)).sent (listed (kept f from k ++ e) (worker_pass own v))) (ne_eqb (f (from + k)).number (worker_pass own v) apart)
      ∙ not-found own f from k e v (λ w least most. numbers w least (omega arith)) (λ w least most. away w least (omega arith))

  -- the last pass of each row: the owner's own, which was taken out first, and those of the workers before and behind it
  abbrev lasts-of : ℕ → Sender T → (ℕ → Sender T) → (ℕ → Sender T) → ℕ → Sender T
  lasts-of own z f s w = cond (nat_lt w own) (f w) (cond (nat_lt own w) (s w) z)

  low-last : (own : ℕ) (z : Sender T) (f s : ℕ → Sender T) (w : ℕ) → w < own → lasts-of own z f s w ≡ f w
  low-last own z f s w low = ap (λ b. cond b (f w) (cond (nat_lt own w) (s w) z)) (lt-ltb w own low)

  high-last : (own : ℕ) (z : Sender T) (f s : ℕ → Sender T) (w : ℕ) → own < w → lasts-of own z f s w ≡ s w
  high-last own z f s w high = ap (λ b. cond b (f w) (cond (nat_lt own w) (s w) z)) (le-ltb w own (omega arith)) ∙ ap (λ b. cond b (s w) z) (lt-ltb own w high)

  own-last : (own : ℕ) (z : Sender T) (f s : ℕ → Sender T) (w : ℕ) → w ≡ own → lasts-of own z f s w ≡ z
  own-last own z f s w is = ap (λ b. cond b (f w) (cond (nat_lt own w) (s w) z)) (le-ltb w own (omega arith)) ∙ ap (λ b. cond b (s w) z) (le-ltb own w (omega arith))

  -- so pass 0 knows what each worker has sent to its owner
  knows : (own workers : ℕ) (z z0 : Sender T) (f s : ℕ → Sender T) → own < workers → z.number ≡ 0 → z.sent ≡ z0.sent → z.ended ≡ kept s (own + 1) (workers - (own + 1)) ++ (kept f 0 (own - 0) ++ []) →
      ((w : ℕ) → w < own → (f w).number ≡ worker_pass own w) → ((w : ℕ) → own < w → w < workers → (s w).number ≡ worker_pass own w) →
      (v : ℕ) → sent_by z (worker_pass own v) ≡ cond (nat_lt v workers) (lasts-of own z0 f s v).sent []
  knows own workers z z0 f s some number sent ended firsts seconds v =
      let before : (w : ℕ) → 0 ≤ w → w < 0 + (own - 0) → (f w).number ≡ worker_pass own w = λ w least most. firsts w (omega arith) in
      let behind : (w : ℕ) → own + 1 ≤ w → w < own + 1 + (workers - (own + 1)) → (s w).number ≡ worker_pass own w = λ w least most. seconds w (omega arith) (omega arith) in
      ap (λ k. cond (nat_eq k (worker_pass own v)) z.sent (listed z.ended (worker_pass own v))) number
      ∙ ⊎_elim
      (λ (is : v ≡ own).
      ap (λ b. cond b z.sent (listed z.ended (worker_pass own v))) (eq-eqb 0 (worker_pass own v) (sym (worker-own own v is)))
      ∙ sent
      ∙ sym (ap (λ b. cond b (lasts-of own z0 f s v).sent []) (lt-ltb v workers (omega (arith, is, some))) ∙ ap (λ (p : Sender T). p.sent) (own-last own z0 f s v is)))
      (λ (other : v ≡ own → ⊥).
      let not_zero : 0 ≢ worker_pass own v = λ e. other (sym (pass-of_worker own v) ∙ ap (pass_worker own) (sym e ∙ sym (worker-own own own refl)) ∙ pass-of_worker own own) in
      ap (λ b. cond b z.sent (listed z.ended (worker_pass own v))) (ne_eqb 0 (worker_pass own v) not_zero)
      ∙ ap (λ l. listed l (worker_pass own v)) ended
      ∙ ⊎_elim
      (λ (low : v < own).
      not-found own s (own + 1) (workers - (own + 1)) (kept f 0 (own - 0) ++ []) v behind (λ w least most e. absurd (omega (arith, e, least, low)))
      ∙ found own f 0 (own - 0) [] v before (omega arith) (omega arith)
      ∙ sym (ap (λ b. cond b (lasts-of own z0 f s v).sent []) (lt-ltb v workers (omega (arith, low, some))) ∙ ap (λ (p : Sender T). p.sent) (low-last own z0 f s v low)))
      (λ (most : own ≤ v).
      ⊎_elim
      (λ (high : v < workers).
      found own s (own + 1) (workers - (own + 1)) (kept f 0 (own - 0) ++ []) v behind (omega arith) (omega arith)
      ∙ sym (ap (λ b. cond b (lasts-of own z0 f s v).sent []) (lt-ltb v workers high) ∙ ap (λ (p : Sender T). p.sent) (high-last own z0 f s v (omega arith))))
      (λ (past : workers ≤ v).
      not-found own s (own + 1) (workers - (own + 1)) (kept f 0 (own - 0) ++ []) v behind (λ w least most e. absurd (omega (arith, e, past, most, some)))
      ∙ not-found own f 0 (own - 0) [] v before (λ w least most e. absurd (omega (arith, e, past, most, some)))
      ∙ sym (ap (λ b. cond b (lasts-of own z0 f s v).sent []) (le-ltb v workers past)))
      (cases_lt v workers))
      (cases_lt v own))
      (cases_eq v own)

  -- the last pass of a row, and what is known of it
  pub last-of : (workers own w : ℕ) (id : MailboxId) (row front : List (Sender T)) (p : Sender T) → HasLast workers own w id row → row ≡ front ++ p ∷ [] → (p.mailbox ≡ id) × IsPassOf workers own w p
  last-of workers own w id row front p has e =
      let same : has.last ≡ p = (same_from_push has.front front has.last p (sym has.is ∙ e)).1 in
      (ap (λ (q : Sender T). q.mailbox) (sym same) ∙ has.mailbox, subst (λ (q : Sender T). IsPassOf workers own w q) same has.of_worker)

  -- where it is no owner's, it is not pass 0
  pub is-others : (workers own w : ℕ) (id : MailboxId) (row : List (Sender T)) → w ≢ own → HasLast workers own w id row → IsOthers id row
  is-others workers own w id row apart has =
      let number : has.last.number ≡ worker_pass own w = has.of_worker.number in
      record {
        front = has.front;
        last = has.last;
        is = has.is;
        mailbox = has.mailbox;
        other =
            ⊎_elim
            (λ (low : w < own). let e = number ∙ worker-low own w low in (let l : 0 < has.last.number = omega arith in l))
            (λ (most : own ≤ w). let e = number ∙ worker-high own w (omega arith) in (let l : 0 < has.last.number = omega arith in l))
            (cases_lt w own);
      }

  -- pass 0, with all others back
  pub is-alone : (workers own : ℕ) (z0 z1 z2 : Sender T) (rows1 rows2 rows3 : List (Row T)) → own < workers → z0.number ≡ 0 → z0.splits ≡ workers - 1 → z0.ended ≡ [] →
      Joins 0 own z0 z1 rows1 rows2 → Joins (own + 1) workers z1 z2 rows2 rows3 → IsAlone z2
  is-alone workers own z0 z1 z2 rows1 rows2 rows3 some number splits ended a b =
      let back : z2.ended ≡ kept b.last (own + 1) (workers - (own + 1)) ++ (kept a.last 0 (own - 0) ++ []) =
      ap (λ (s : Sender T). s.ended) b.zero ∙ ap (λ l. kept b.last (own + 1) (workers - (own + 1)) ++ l) (ap (λ (s : Sender T). s.ended) a.zero ∙ ap (λ l. kept a.last 0 (own - 0) ++ l) ended) in
      let long = ap length back ∙ length-append (kept b.last (own + 1) (workers - (own + 1))) (kept a.last 0 (own - 0) ++ []) in
      let long' = length-append (kept a.last 0 (own - 0)) [] in
      let first = kept-length a.last 0 (own - 0) in
      let second = kept-length b.last (own + 1) (workers - (own + 1)) in
      let made = ap (λ (s : Sender T). s.splits) b.zero ∙ ap (λ (s : Sender T). s.splits) a.zero ∙ splits in
      (ap (λ (s : Sender T). s.number) b.zero ∙ ap (λ (s : Sender T). s.number) a.zero ∙ number, omega arith)

  -- a mailbox is closed
  pub closes : (own workers : ℕ) (id : MailboxId) (rows0 rows2 rows3 : List (Row T)) (r r' : Row T) (z0 z1 z2 z3 : Sender T) (late late' : List (ℕ × T)) → own < length rows0 → workers ≡ length rows0 →
      ((w : ℕ) (d : Row T) → w < length rows0 → HasLast (length rows0) own w id (slice_index_or rows0 w d).items) → (slice_index_or rows0 own r).items ≡ r'.items ++ z0 ∷ [] →
      Joins 0 own z0 z1 (set rows0 own r') rows2 → Joins (own + 1) workers z1 z2 rows2 rows3 → Empties own z2 z3 late late' → Closes own rows0 rows3 late late'
  closes own workers id rows0 rows2 rows3 r r' z0 z1 z2 z3 late late' some all has popped a b empties =
      let drained = empties.drained in
      let rows1 : List (Row T) = set rows0 own r' in
      let long1 : length rows1 ≡ length rows0 = length-set rows0 own r' in
      let long2 = a.long in
      let long3 = b.long in
      let mine = last-of (length rows0) own own id (slice_index_or rows0 own r).items r'.items z0 (has own r some) popped in
      let number : z0.number ≡ 0 = mine.1.number ∙ worker-own own own refl in
      let ended : z0.ended ≡ [] = mine.1.ended refl in
      let at1 : (w : ℕ) (d : Row T) → w ≢ own → slice_index_or rows1 w d ≡ slice_index_or rows0 w d = λ w d apart. get_or-set_other rows0 own w r' d apart in
      let low : (w : ℕ) (d : Row T) → w < own → (slice_index_or rows0 w d).items ≡ (slice_index_or rows2 w d).items ++ a.last w ∷ [] =
      λ w d l. ap (λ (x : Row T). x.items) (sym (at1 w d (λ e. absurd (omega arith)))) ∙ a.lasts w d (omega arith) l in
      let high : (w : ℕ) (d : Row T) → own < w → w < workers → (slice_index_or rows0 w d).items ≡ (slice_index_or rows3 w d).items ++ b.last w ∷ [] =
      λ w d h l. ap (λ (x : Row T). x.items) (sym (at1 w d (λ e. absurd (omega arith))) ∙ sym (a.behind w d (omega arith))) ∙ b.lasts w d (omega arith) l in
      let sent : z3.sent ≡ z0.sent = ap (λ (s : Sender T). s.sent) drained.taken ∙ ap (λ (s : Sender T). s.sent) b.zero ∙ ap (λ (s : Sender T). s.sent) a.zero in
      let zero : z3.number ≡ 0 = ap (λ (s : Sender T). s.number) drained.taken ∙ ap (λ (s : Sender T). s.number) b.zero ∙ ap (λ (s : Sender T). s.number) a.zero ∙ number in
      let back : z3.ended ≡ kept b.last (own + 1) (workers - (own + 1)) ++ (kept a.last 0 (own - 0) ++ []) =
      ap (λ (s : Sender T). s.ended) drained.taken
      ∙ ap (λ (s : Sender T). s.ended) b.zero
      ∙ ap (λ l. kept b.last (own + 1) (workers - (own + 1)) ++ l) (ap (λ (s : Sender T). s.ended) a.zero ∙ ap (λ l. kept a.last 0 (own - 0) ++ l) ended) in
      let taken : z3.taken ≡ z0.taken ++ drained.batches =
      ap (λ (s : Sender T). s.taken) drained.taken ∙ ap (λ l. l ++ drained.batches) (ap (λ (s : Sender T). s.taken) b.zero ∙ ap (λ (s : Sender T). s.taken) a.zero) in
      let f : ℕ → Sender T = lasts-of own z0 a.last b.last in
      record {
        last = f;
        more = by_workers own drained.batches;
        long = long3 ∙ long2 ∙ long1;
        lasts = λ w d l.
            ⊎_elim
            (λ (under : w < own).
            low w d under ∙ ap (λ (x : Row T). x.items ++ a.last w ∷ []) (sym (b.before w d (omega arith))) ∙ ap (λ p. (slice_index_or rows3 w d).items ++ p ∷ []) (sym (low-last own z0 a.last b.last w under)))
            (λ (most : own ≤ w).
            ⊎_elim
            (λ (is : w ≡ own).
            ap (λ n. (slice_index_or rows0 n d).items) is
            ∙ ap (λ (x : Row T). x.items) (get_or_default rows0 own d r some)
            ∙ popped
            ∙ ap (λ (x : Row T). x.items ++ z0 ∷ []) (sym (get_or-set_same rows0 own r' d some) ∙ sym (a.behind own d (omega arith)) ∙ sym (b.before own d (omega arith)))
            ∙ ap (λ n. (slice_index_or rows3 n d).items ++ z0 ∷ []) (sym is)
            ∙ ap (λ p. (slice_index_or rows3 w d).items ++ p ∷ []) (sym (own-last own z0 a.last b.last w is)))
            (λ (other : w ≡ own → ⊥). high w d (omega arith) (omega arith) ∙ ap (λ p. (slice_index_or rows3 w d).items ++ p ∷ []) (sym (high-last own z0 a.last b.last w (omega arith))))
            (cases_eq w own))
            (cases_lt w own);
        kept = drained.kept;
        merged = λ v.
            ap (λ (p : Sender T). of (by_workers own p.taken ++ by_workers own drained.batches) v) (own-last own z0 a.last b.last own refl)
            ∙ ap (λ l. of l v) (sym (workers-append own z0.taken drained.batches))
            ∙ of-workers own (z0.taken ++ drained.batches) v
            ∙ ap (λ l. of l (worker_pass own v)) (sym taken)
            ∙ empties.merged (worker_pass own v)
            ∙ knows own workers z3 z0 a.last b.last (omega arith) zero sent back
            (λ w l. (last-of (length rows0) own w id (slice_index_or rows0 w r).items (slice_index_or rows2 w r).items (a.last w) (has w r (omega arith)) (low w r l)).1.number)
            (λ w h l. (last-of (length rows0) own w id (slice_index_or rows0 w r).items (slice_index_or rows3 w r).items (b.last w) (has w r (omega arith)) (high w r h l)).1.number) v
            ∙ ap (λ n. cond (nat_lt v n) (f v).sent []) all;
      }

  -- how far closing has come, the last mailbox first: the passes of the mailboxes before are left, and what was taken of the others is a merge
  pub record ClosedTo (done : ℕ) (rows0 rows : List (Row T)) (late : List (Vec (ℕ × T) Global)) : Type 0 where
    pub long : length rows ≡ length rows0
    pub late_long : length late ≡ length rows0
    pub left : (w : ℕ) (d : Row T) → w < length rows0 → (slice_index_or rows w d).items ≡ take (length rows0 - done) (slice_index_or rows0 w d).items
    pub none : (to : ℕ) (d : Vec (ℕ × T) Global) → to < length rows0 - done → (slice_index_or late to d).items ≡ []
    pub merged : (to : ℕ) (d : Vec (ℕ × T) Global) → length rows0 - done ≤ to → to < length rows0 → IsMerge (taken_by (traffics 0 rows0) to ++ (slice_index_or late to d).items) (sent_to (traffics 0 rows0) to)

  row-long : (ids : List MailboxId) (rows : List (Row T)) → length ids ≡ length rows → AreFull ids rows → (w : ℕ) (d : Row T) → w < length rows → length (slice_index_or rows w d).items ≡ length rows
  row-long ids rows count full w d low = sym (length-map (slice_index_or rows w d).items (λ (q : Sender T). q.mailbox)) ∙ ap length (full w d low) ∙ count

  pub closed-none : (ids : List MailboxId) (rows : List (Row T)) (late : List (Vec (ℕ × T) Global)) → length ids ≡ length rows → AreFull ids rows → AreEmpty (length rows) late → ClosedTo 0 rows rows late
  closed-none ids rows late count full empty = record {
    long = refl;
    late_long = empty.long;
    left = λ w d low. let l = row-long ids rows count full w d low in sym (take_all (length rows - 0) (slice_index_or rows w d).items (omega arith));
    none = λ to d low. empty.each to d (omega arith);
    merged = λ to d least low. absurd (omega arith);
  }

  -- what is left of a row ends in the pass of the mailbox that comes next
  left-ends : (done own : ℕ) (rows0 rows : List (Row T)) (late : List (Vec (ℕ × T) Global)) (w : ℕ) (d : Row T) (e : Sender T) → done < length rows0 → own ≡ (length rows0 - 1) - done → w < length rows0 →
      length (slice_index_or rows0 w d).items ≡ length rows0 → ClosedTo done rows0 rows late →
      (slice_index_or rows w d).items ≡ take own (slice_index_or rows0 w d).items ++ slice_index_or (slice_index_or rows0 w d).items own e ∷ []
  left-ends done own rows0 rows late w d e some is low long closed =
      closed.left w d low
      ∙ ap (λ n. take n (slice_index_or rows0 w d).items) (let s : length rows0 - done ≡ own + 1 = omega arith in s)
      ∙ take_more (slice_index_or rows0 w d).items own e (omega arith)

  pub left-has : (done own : ℕ) (ids : List MailboxId) (id : MailboxId) (rows0 rows : List (Row T)) (late : List (Vec (ℕ × T) Global)) → done < length rows0 → own ≡ (length rows0 - 1) - done → length ids ≡ length rows0 →
      id ≡ slice_index_or ids own id → ArePlaced rows0 → AreFull ids rows0 → ClosedTo done rows0 rows late → (w : ℕ) (d : Row T) → w < length rows → HasLast (length rows) own w id (slice_index_or rows w d).items
  left-has done own ids id rows0 rows late some is count at placed full closed w d low =
      let within : w < length rows0 = omega (arith, low, closed.long) in
      let row : List (Sender T) = (slice_index_or rows0 w d).items in
      let long : length row ≡ length rows0 = row-long ids rows0 count full w d within in
      let e : Sender T = some-of row (omega arith) in
      record {
        front = take own row;
        last = slice_index_or row own e;
        is = left-ends done own rows0 rows late w d e some is within long closed;
        mailbox =
            sym (get_or-map (λ (q : Sender T). q.mailbox) row own e id (omega arith)) ∙ ap (λ l. slice_index_or l own id) (full w d within) ∙ sym at;
        of_worker = subst (λ n. IsPassOf n own w (slice_index_or row own e)) (long ∙ sym closed.long) ((placed w d within).each own e (omega arith));
      }

  pub closed-more : (done own : ℕ) (ids : List MailboxId) (rows0 rows rows' : List (Row T)) (late : List (Vec (ℕ × T) Global)) (l l' : Vec (ℕ × T) Global) → done < length rows0 → own ≡ (length rows0 - 1) - done →
      length ids ≡ length rows0 → AreFull ids rows0 → ClosedTo done rows0 rows late → Closes own rows rows' (slice_index_or late own l).items l'.items → ClosedTo (done + 1) rows0 rows' (set late own l')
  closed-more done own ids rows0 rows rows' late l l' some is count full closed closes =
      let none : Traffic T = record { mailboxes = []; worker = 0; sent = []; taken = [] } in
      let ends : (w : ℕ) (d : Row T) (e : Sender T) → w < length rows0 →
      ((slice_index_or rows' w d).items ≡ take own (slice_index_or rows0 w d).items) × (closes.last w ≡ slice_index_or (slice_index_or rows0 w d).items own e) =
      λ w d e low.
      same_from_push (slice_index_or rows' w d).items (take own (slice_index_or rows0 w d).items) (closes.last w) (slice_index_or (slice_index_or rows0 w d).items own e)
      (sym (closes.lasts w d (omega (arith, low, closed.long))) ∙ left-ends done own rows0 rows late w d e some is low (row-long ids rows0 count full w d low) closed) in
      let r : Row T = some-of rows0 (omega arith) in
      let at : (w : ℕ) → w < length rows0 → slice_index_or (traffics 0 rows0) w none ≡ traffic_by w (slice_index_or rows0 w r).items =
      λ w low. traffics-at 0 rows0 w none r low ∙ ap (λ n. traffic_by n (slice_index_or rows0 w r).items) (let s : 0 + w ≡ w = omega arith in s) in
      let many = traffics-length 0 rows0 in
      let took : taken_by (traffics 0 rows0) own ≡ by_workers own (closes.last own).taken =
      get_or-map (λ (t : Traffic T). t.taken) (traffics 0 rows0) own none [] (omega arith)
      ∙ ap (λ (t : Traffic T). t.taken) (at own (omega arith))
      ∙ ap (by_workers own) (
      get_or-map (λ (q : Sender T). q.taken) (slice_index_or rows0 own r).items own (closes.last own) [] (omega (arith, row-long ids rows0 count full own r (omega arith), some, is))
      ∙ ap (λ (q : Sender T). q.taken) (sym (ends own r (closes.last own) (omega arith)).1)) in
      let sent : (v : ℕ) → cond (nat_lt v (length rows)) (closes.last v).sent [] ≡ sent_to (traffics 0 rows0) own v =
      λ v.
      ⊎_elim
      (λ (low : v < length rows0).
      ap (λ b. cond b (closes.last v).sent []) (lt-ltb v (length rows) (omega (arith, low, closed.long)))
      ∙ ap (λ (q : Sender T). q.sent) (ends v r (closes.last v) low).1
      ∙ sym (
      get_or-map (λ (t : Traffic T). slice_index_or t.sent own []) (traffics 0 rows0) v none [] (omega arith)
      ∙ ap (λ (t : Traffic T). slice_index_or t.sent own []) (at v low)
      ∙ get_or-map (λ (q : Sender T). q.sent) (slice_index_or rows0 v r).items own (closes.last v) [] (omega (arith, row-long ids rows0 count full v r low, some, is))))
      (λ (past : length rows0 ≤ v).
      ap (λ b. cond b (closes.last v).sent []) (le-ltb v (length rows) (omega (arith, past, closed.long)))
      ∙ sym (get_or_past (map (λ (t : Traffic T). slice_index_or t.sent own []) (traffics 0 rows0)) v [] (omega (arith, length-map (traffics 0 rows0) (λ (t : Traffic T). slice_index_or t.sent own []), many, past))))
      (cases_lt v (length rows0)) in
      let long' = closed.late_long in
      record {
        long = closes.long ∙ closed.long;
        late_long = length-set late own l' ∙ closed.late_long;
        left = λ w d low. (ends w d (closes.last w) low).0 ∙ ap (λ n. take n (slice_index_or rows0 w d).items) (let s : own ≡ length rows0 - (done + 1) = omega arith in s);
        none = λ to d low. ap (λ (x : Vec (ℕ × T) Global). x.items) (get_or-set_other late own to l' d (λ e. absurd (omega arith))) ∙ closed.none to d (omega arith);
        merged = λ to d least low.
            ⊎_elim
            (λ (here : to ≡ own).
            let items : (slice_index_or (set late own l') to d).items ≡ closes.more =
            ap (λ n. (slice_index_or (set late own l') n d).items) here
            ∙ ap (λ (x : Vec (ℕ × T) Global). x.items) (get_or-set_same late own l' d (omega arith))
            ∙ closes.kept
            ∙ ap (λ m. m ++ closes.more) (closed.none own l (omega arith)) in
            λ v.
            ap (λ m. of (taken_by (traffics 0 rows0) to ++ m) v) items
            ∙ ap (λ n. of (taken_by (traffics 0 rows0) n ++ closes.more) v) here
            ∙ ap (λ m. of (m ++ closes.more) v) took
            ∙ closes.merged v
            ∙ sent v
            ∙ ap (λ n. sent_to (traffics 0 rows0) n v) (sym here))
            (λ (other : to ≡ own → ⊥).
            subst (λ (x : Vec (ℕ × T) Global). IsMerge (taken_by (traffics 0 rows0) to ++ x.items) (sent_to (traffics 0 rows0) to)) (sym (get_or-set_other late own to l' d other)) (closed.merged to d (omega arith) low))
            (cases_eq to own);
      }

  -- all are closed
  pub closed-all : (rows0 rows : List (Row T)) (late : List (Vec (ℕ × T) Global)) (done : ℕ) → length rows0 ≤ done → ClosedTo done rows0 rows late → ArriveAll (traffics 0 rows0) late
  closed-all rows0 rows late done all closed = record {
    long = closed.late_long ∙ sym (traffics-length 0 rows0);
    merged = λ to d low. let many = traffics-length 0 rows0 in closed.merged to d (omega arith) (omega arith);
  }

  -- the rows of workers that share their mailboxes
  pub workers-count : (ids : List MailboxId) (rows : List (Row T)) (workers : List (Traffic T)) → traffics 0 rows ≡ workers → AreWorkers ids workers → length ids ≡ length rows
  workers-count ids rows workers shown are = sym are.count ∙ sym (ap length shown) ∙ traffics-length 0 rows

  pub workers-full : (ids : List MailboxId) (rows : List (Row T)) (workers : List (Traffic T)) → traffics 0 rows ≡ workers → AreWorkers ids workers → AreFull ids rows
  workers-full ids rows workers shown are = λ w d low.
      let e : Traffic T = record { mailboxes = []; worker = 0; sent = []; taken = [] } in
      let many = traffics-length 0 rows in
      ap (λ (t : Traffic T). t.mailboxes) (sym (traffics-at 0 rows w e d low) ∙ ap (λ l. slice_index_or l w e) shown) ∙ are.mailboxes w e (omega (arith, low, many, ap length shown))

  pub workers-few : (ids : List MailboxId) (rows : List (Row T)) (workers : List (Traffic T)) → traffics 0 rows ≡ workers → AreWorkers ids workers → ArePlaced rows → length rows ≤ 64
  workers-few ids rows workers shown are placed =
      ⊎_elim
      (λ (some : 0 < length rows).
      let r : Row T = some-of rows some in
      let long = row-long ids rows (workers-count ids rows workers shown are) (workers-full ids rows workers shown are) 0 r some in
      let few = (placed 0 r some).few in
      omega arith)
      (λ (none : length rows ≤ 0). omega arith)
      (cases_lt 0 (length rows))
