-- Workers by their rows of passes.
use Rattle.std.proofs.Common.{◌≡◌, ◌<◌, ◌≤◌, ◌+◌, ◌-◌, ℕ, zero, suc, Bool, true, false, cond, nat_lt, List, [], ◌∷◌, ◌++◌, length, map, take, drop, refl, sym, ap, ◌∙◌, subst, arith, ⊎_elim}
use Rattle.std.specs.Prelude.{slice_index_or}
use Rattle.std.proofs.lemmas.Bool.{cases_eq, cases_lt, lt-ltb, le-ltb}
use Rattle.std.proofs.lemmas.List.{take_at, length-drop, length_push, drop_more, take_more, take_all, get_or_append_left, get_or_push}
use Rattle.gm_mailbox.specs.Sender.{MailboxId, Sender, fresh}
use Rattle.gm_posting.specs.Numbers.{worker_pass}
use Rattle.gm_posting.specs.Traffic.{Traffic, by_workers, IsPassOf, AreInPlace, traffic_by, unused, AreOpen}
use Rattle.gm_posting.specs.Rows.{Row, first_pass, first_passes, OpensAll, ArePlaced, traffics}
use Rattle.gm_posting.proofs.NumberLemmas.{worker-own}

-- an element of a list that has one
pub some-of : {A : Type 0} (xs : List A) → 0 < length xs → A
some-of [] low = absurd (omega arith)
some-of (x ∷ xs) low = x

-- a list that is walked: what comes next is the element at its place
module _ {A : Type 0} where
  pub next-within : (k : ℕ) (xs : List A) (x : A) (rest : List A) → drop k xs ≡ x ∷ rest → k < length xs
  next-within k xs x rest e = let l = sym (length-drop k xs) ∙ ap length e in omega arith

  pub next-is : (k : ℕ) (xs : List A) (x : A) (rest : List A) → drop k xs ≡ x ∷ rest → slice_index_or xs k x ≡ x
  next-is k xs x rest e = ap (λ l. slice_index_or l 0 x) (sym (drop_more xs k x (next-within k xs x rest e)) ∙ e)

  pub next-rest : (k : ℕ) (xs : List A) (x : A) (rest : List A) → drop k xs ≡ x ∷ rest → rest ≡ drop (k + 1) xs
  next-rest k xs x rest e = sym (ap (drop 1) (sym (drop_more xs k x (next-within k xs x rest e)) ∙ e))

  pub next-taken : (k : ℕ) (xs : List A) (x : A) (rest : List A) → drop k xs ≡ x ∷ rest → take (k + 1) xs ≡ take k xs ++ x ∷ []
  next-taken k xs x rest e = take_more xs k x (next-within k xs x rest e) ∙ ap (λ y. take k xs ++ y ∷ []) (next-is k xs x rest e)

  -- a list that was written back whole
  pub written-back : (n : ℕ) (xs ys : List A) → length xs ≡ n → take n (xs ++ ys) ≡ xs
  written-back n xs ys e = take_at xs ys n e

  -- all of it was walked
  pub walked : (k : ℕ) (xs : List A) → drop k xs ≡ [] → take k xs ≡ xs
  walked k xs e = let l = sym (length-drop k xs) ∙ ap length e in take_all k xs (omega arith)

  -- nothing stands at any place of a list of empty lists
  pub index-none : (ids : List MailboxId) (w : ℕ) → slice_index_or (map (λ id. let none : List A = [] in none) ids) w [] ≡ []
  index-none [] w = refl
  index-none (id ∷ ids) zero = refl
  index-none (id ∷ ids) (suc w) = index-none ids w

module _ {T : Type 0} where
  pub traffics-more : (k : ℕ) (rows : List (Row T)) (r : Row T) → traffics k (rows ++ r ∷ []) ≡ traffics k rows ++ traffic_by (k + length rows) r.items ∷ []
  traffics-more k [] r = ap (λ n. traffic_by n r.items ∷ []) (let e : k ≡ k + 0 = omega arith in e)
  traffics-more k (x ∷ rows) r =
      ap (λ l. traffic_by k x.items ∷ l) (traffics-more (suc k) rows r ∙ ap (λ n. traffics (suc k) rows ++ traffic_by n r.items ∷ []) (let e : suc k + length rows ≡ k + suc (length rows) = omega arith in e))

  pub traffics-length : (k : ℕ) (rows : List (Row T)) → length (traffics k rows) ≡ length rows
  traffics-length k [] = refl
  traffics-length k (x ∷ rows) = ap suc (traffics-length (suc k) rows)

  pub traffics-at : (k : ℕ) (rows : List (Row T)) (w : ℕ) (e : Traffic T) (d : Row T) → w < length rows → slice_index_or (traffics k rows) w e ≡ traffic_by (k + w) (slice_index_or rows w d).items
  traffics-at k [] w e d low = absurd (omega arith)
  traffics-at k (x ∷ rows) zero e d low = ap (λ n. traffic_by n x.items) (let e : k ≡ k + 0 = omega arith in e)
  traffics-at k (x ∷ rows) (suc w) e d low =
      traffics-at (suc k) rows w e d (omega arith) ∙ ap (λ n. traffic_by n (slice_index_or rows w d).items) (let e : suc k + w ≡ k + suc w = omega arith in e)

  pub placed-more : (rows : List (Row T)) (r : Row T) → ArePlaced rows → AreInPlace (length rows) r.items → ArePlaced (rows ++ r ∷ [])
  placed-more rows r placed more = λ w d low.
      ⊎_elim
      (λ (before : w < length rows). subst (λ (x : Row T). AreInPlace w x.items) (sym (get_or_append_left rows (r ∷ []) d w before)) (placed w d before))
      (λ (last : length rows ≤ w).
      let long = length_push rows r in
      let is : length rows ≡ w = omega arith in
      subst (λ (x : Row T). AreInPlace w x.items) (sym (get_or_push rows r d w is)) (subst (λ n. AreInPlace n r.items) is more))
      (cases_lt w (length rows))

  -- what is true of a new pass, whoever gets it
  either : (b c : Bool) (P : Sender T → Type 0) (x y : Sender T) → P x → P y → P (cond b x (cond c x y))
  either true c P x y px py = px
  either false true P x y px py = px
  either false false P x y px py = py

  first-has : (P : Sender T → Type 0) (workers own w : ℕ) (id : MailboxId) → P (fresh id (worker_pass own w)) → P (record (fresh id 0) { splits = workers - 1 }) → P (first_pass workers own w id)
  first-has P workers own w id px py = either (nat_lt w own) (nat_lt own w) P (fresh id (worker_pass own w)) (record (fresh id 0) { splits = workers - 1 }) px py

  first-of : (workers own w : ℕ) (id : MailboxId) → IsPassOf workers own w (first_pass {T = T} workers own w id)
  first-of workers own w id =
      let made : Sender T = record (fresh id 0) { splits = workers - 1 } in
      let other : Sender T = fresh id (worker_pass own w) in
      ⊎_elim
      (λ (is : w ≡ own).
      let e : first_pass {T = T} workers own w id ≡ made = ap (λ b. cond b other (cond (nat_lt own w) other made)) (le-ltb w own (omega arith)) ∙ ap (λ b. cond b other made) (le-ltb own w (omega arith)) in
      subst (λ (p : Sender T). IsPassOf workers own w p) (sym e)
      (let r : IsPassOf workers own w made = record { number = sym (worker-own own w is); splits = λ same. refl; ended = λ same. refl } in r))
      (λ (apart : w ≡ own → ⊥).
      let r : IsPassOf workers own w other = record { number = refl; splits = λ same. absurd (apart same); ended = λ same. absurd (apart same) } in
      let e : first_pass {T = T} workers own w id ≡ other =
      ⊎_elim
      (λ (low : w < own). ap (λ b. cond b other (cond (nat_lt own w) other made)) (lt-ltb w own low))
      (λ (most : own ≤ w). ap (λ b. cond b other (cond (nat_lt own w) other made)) (le-ltb w own most) ∙ ap (λ b. cond b other made) (lt-ltb own w (omega arith)))
      (cases_lt w own) in
      subst (λ (p : Sender T). IsPassOf workers own w p) (sym e) r)
      (cases_eq w own)

firsts-length : (T : Type 0) (workers w own : ℕ) (ids : List MailboxId) → length (first_passes {T = T} workers w own ids) ≡ length ids
firsts-length T workers w own [] = refl
firsts-length T workers w own (id ∷ ids) = ap suc (firsts-length T workers w (suc own) ids)

firsts-boxes : (T : Type 0) (workers w own : ℕ) (ids : List MailboxId) → map (λ (q : Sender T). q.mailbox) (first_passes workers w own ids) ≡ ids
firsts-boxes T workers w own [] = refl
firsts-boxes T workers w own (id ∷ ids) =
    ap (λ m. m ∷ map (λ (q : Sender T). q.mailbox) (first_passes workers w (suc own) ids)) (first-has (λ (q : Sender T). q.mailbox ≡ id) workers own w id refl refl)
    ∙ ap (λ l. id ∷ l) (firsts-boxes T workers w (suc own) ids)

module _ {T : Type 0} where
  firsts-of : (workers w own : ℕ) (ids : List MailboxId) (k : ℕ) (d : Sender T) → k < length ids → IsPassOf workers (own + k) w (slice_index_or (first_passes workers w own ids) k d)
  firsts-of workers w own [] k d low = absurd (omega arith)
  firsts-of workers w own (id ∷ ids) zero d low =
      subst (λ n. IsPassOf workers n w (first_pass {T = T} workers own w id)) (let e : own ≡ own + 0 = omega arith in e) (first-of workers own w id)
  firsts-of workers w own (id ∷ ids) (suc k) d low =
      subst (λ n. IsPassOf workers n w (slice_index_or (first_passes workers w (suc own) ids) k d)) (let e : suc own + k ≡ own + suc k = omega arith in e) (firsts-of workers w (suc own) ids k d (omega arith))

  firsts-sent : (workers w own : ℕ) (ids : List MailboxId) → map (λ (q : Sender T). q.sent) (first_passes workers w own ids) ≡ map (λ id. []) ids
  firsts-sent workers w own [] = refl
  firsts-sent workers w own (id ∷ ids) =
      ap (λ m. m ∷ map (λ (q : Sender T). q.sent) (first_passes workers w (suc own) ids)) (first-has (λ (q : Sender T). q.sent ≡ []) workers own w id refl refl)
      ∙ ap (λ l. [] ∷ l) (firsts-sent workers w (suc own) ids)

  firsts-taken : (workers w own : ℕ) (ids : List MailboxId) → map (λ (q : Sender T). q.taken) (first_passes workers w own ids) ≡ map (λ id. []) ids
  firsts-taken workers w own [] = refl
  firsts-taken workers w own (id ∷ ids) =
      ap (λ m. m ∷ map (λ (q : Sender T). q.taken) (first_passes workers w (suc own) ids)) (first-has (λ (q : Sender T). q.taken ≡ []) workers own w id refl refl)
      ∙ ap (λ l. [] ∷ l) (firsts-taken workers w (suc own) ids)

  firsts-unused : (workers w : ℕ) (ids : List MailboxId) → traffic_by w (first_passes {T = T} workers w 0 ids) ≡ unused ids w
  firsts-unused workers w ids =
      let made : List MailboxId → List (List T) → List (ℕ × T) → Traffic T = λ ids sent taken. record { mailboxes = ids; worker = w; sent = sent; taken = taken } in
      let taken : by_workers w (slice_index_or (map (λ (q : Sender T). q.taken) (first_passes workers w 0 ids)) w []) ≡ [] =
      ap (by_workers w) (ap (λ l. slice_index_or l w []) (firsts-taken workers w 0 ids) ∙ index-none ids w) in
      λ i. made (firsts-boxes T workers w 0 ids i) (firsts-sent workers w 0 ids i) (taken i)

  -- rows of new passes are those of the workers at their places
  pub opened-placed : (workers : ℕ) (ids : List MailboxId) (rows : List (Row T)) → workers ≤ 64 → length ids ≡ workers → OpensAll workers ids rows → ArePlaced rows
  opened-placed workers ids rows few count all = λ w d low.
      let within : w < workers = omega (arith, low, all.long) in
      let firsts : List (Sender T) = first_passes workers w 0 ids in
      let long : length firsts ≡ workers = firsts-length T workers w 0 ids ∙ count in
      let placed : AreInPlace w firsts = record {
        some = omega arith;
        few = omega arith;
        each = λ own d' low'.
            subst (λ n. IsPassOf n own w (slice_index_or firsts own d')) (sym long)
            (subst (λ n. IsPassOf workers n w (slice_index_or firsts own d')) (let e : 0 + own ≡ own = omega arith in e) (firsts-of workers w 0 ids own d' (omega (arith, low', long, count))));
      } in
      subst (λ l. AreInPlace w l) (sym (all.each w d within)) placed

  pub opened : (workers : ℕ) (ids : List MailboxId) (rows : List (Row T)) → length ids ≡ workers → OpensAll workers ids rows → AreOpen workers ids (traffics 0 rows)
  opened workers ids rows count all =
      let long = traffics-length 0 rows in
      let at : (w : ℕ) (d : Traffic T) → w < workers → slice_index_or (traffics 0 rows) w d ≡ unused ids w =
      λ w d low.
      let r : Row T = some-of rows (omega (arith, low, all.long)) in
      traffics-at 0 rows w d r (omega (arith, low, all.long))
      ∙ ap (λ n. traffic_by n (slice_index_or rows w r).items) (let e : 0 + w ≡ w = omega arith in e)
      ∙ ap (traffic_by w) (all.each w r low)
      ∙ firsts-unused workers w ids in
      record {
        count_is = count;
        workers_are = record {
          count = long ∙ all.long ∙ sym count;
          places = λ w d low. ap (λ (t : Traffic T). t.worker) (at w d (omega (arith, low, long, all.long)));
          mailboxes = λ w d low. ap (λ (t : Traffic T). t.mailboxes) (at w d (omega (arith, low, long, all.long)));
        };
        none_used = at;
      }
