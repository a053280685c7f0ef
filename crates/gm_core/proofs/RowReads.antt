-- Rows that are written and read by index, as functions.
use Rattle.std.proofs.Common.{◌≡◌, ◌≢◌, ◌<◌, ◌≤◌, ◌+◌, ◌-◌, ℕ, Bool, true, false, cond, nat_eq, List, [], ◌∷◌, ◌++◌, length, take, drop, replicate, refl, sym, ap, ◌∙◌, arith, append_assoc, ⊎_elim}
use Rattle.std.specs.Prelude.{slice_set, slice_index_or}
use Rattle.std.proofs.lemmas.Bool.{cases_eq, cases_lt, eq-eqb, ne_eqb}
use Rattle.std.proofs.lemmas.List.{get_or-set_same, get_or-set_other, get_or-replicate, length-set, length-replicate, length-drop, get_or-drop, take_more, append-nil, replicate-append-replicate}
use Rattle.std.proofs.lemmas.List.Elements.{filter-append}
use Rattle.std.proofs.Math.ListN.{get_or-eq_default}
use Rattle.gm_machine.specs.Vertex.{Message}
use Rattle.gm_machine.specs.Machine.{inbox}
use Rattle.gm_core.specs.Mails.{no_mail, with_at, delivered}
use Rattle.gm_core.specs.Cores.{owner, for_worker, sends}
use Rattle.gm_core.specs.CoreViews.{row_at, mail_in, IsSquare}
use Rattle.gm_core.proofs.MailLemmas.{with-same, with-other}

-- a row is written
pub set-with : {A : Type 0} (xs : List A) (k : ℕ) (x d : A) → k < length xs → (n : ℕ) → slice_index_or (slice_set xs k x) n d ≡ with_at (λ m. slice_index_or xs m d) k x n
set-with xs k x d within n =
    ⊎_elim
    (λ (at : n ≡ k).
    ap (λ m. slice_index_or (slice_set xs k x) m d) at
    ∙ get_or-set_same xs k x d within
    ∙ sym (ap (λ m. with_at (λ j. slice_index_or xs j d) k x m) at ∙ with-same (λ j. slice_index_or xs j d) k x))
    (λ (other : n ≡ k → ⊥).
    get_or-set_other xs k n x d other
    ∙ sym (with-other (λ j. slice_index_or xs j d) k x n other))
    (cases_eq n k)

cond-map : {A B : Type 0} (F : A → B) (b : Bool) (x y : A) → F (cond b x y) ≡ cond b (F x) (F y)
cond-map F true x y = refl
cond-map F false x y = refl

pub rows-set : {A : Type 0} (rows : List (List A)) (k : ℕ) (row : List A) → k < length rows → row_at (slice_set rows k row) ≡ with_at (row_at rows) k row
rows-set rows k row within = λ i n. set-with rows k row [] within n i

pub unsent-set : (rows : List (List (List Message))) (k : ℕ) (row : List (List Message)) → k < length rows →
    ◌≡◌ {A = ℕ → ℕ → List Message} (λ f. row_at (row_at (slice_set rows k row) f)) (with_at (λ f. row_at (row_at rows f)) k (row_at row))
unsent-set rows k row within = λ i n. (ap row_at (set-with rows k row [] within n) ∙ cond-map row_at (nat_eq n k) row (row_at rows n)) i

pub square-set : (workers : ℕ) (rows : List (List (List Message))) (k : ℕ) (row : List (List Message)) → k < length rows → IsSquare workers rows → length row ≡ length (row_at rows k) → IsSquare workers (slice_set rows k row)
square-set workers rows k row within square same = record {
  long = length-set rows k row ∙ square.long;
  each = λ w some.
      ⊎_elim
      (λ (at : w ≡ k).
      ap (λ m. length (row_at (slice_set rows k row) m)) at
      ∙ ap length (get_or-set_same rows k row [] within)
      ∙ same
      ∙ ap (λ m. length (row_at rows m)) (sym at)
      ∙ square.each w some)
      (λ (other : w ≡ k → ⊥). ap length (get_or-set_other rows k w row [] other) ∙ square.each w some)
      (cases_eq w k);
}

-- one more message is dealt
pub dealt-more : (owners : List ℕ) (ms : List Message) (i w : ℕ) (d : Message) (old now new : List (List Message)) → i < length ms →
    w ≡ owner owners (slice_index_or ms i d).to → w < length now →
    new ≡ slice_set now w (row_at now w ++ slice_index_or ms i d ∷ []) →
    ((to : ℕ) → row_at now to ≡ row_at old to ++ for_worker owners to (take i ms)) →
    (to : ℕ) → row_at new to ≡ row_at old to ++ for_worker owners to (take (i + 1) ms)
dealt-more owners ms i w d old now new within is some set rows to =
    let m : Message = slice_index_or ms i d in
    let more : for_worker owners to (take (i + 1) ms) ≡ for_worker owners to (take i ms) ++ for_worker owners to (m ∷ []) =
    ap (for_worker owners to) (take_more ms i d within) ∙ filter-append (λ k. nat_eq (owner owners k.to) to) (take i ms) (m ∷ []) in
    let read : row_at new to ≡ row_at now to ++ for_worker owners to (m ∷ []) =
    ap (λ rows. row_at rows to) set
    ∙ ⊎_elim
    (λ (at : to ≡ w).
    let goes : nat_eq (owner owners m.to) to ≡ true = eq-eqb (owner owners m.to) to (sym is ∙ sym at) in
    ap (row_at (slice_set now w (row_at now w ++ m ∷ []))) at
    ∙ get_or-set_same now w (row_at now w ++ m ∷ []) [] some
    ∙ ap (λ k. row_at now k ++ m ∷ []) (sym at)
    ∙ ap (λ b. row_at now to ++ cond b (m ∷ []) []) (sym goes))
    (λ (other : to ≡ w → ⊥).
    let goes : nat_eq (owner owners m.to) to ≡ false = ne_eqb (owner owners m.to) to (λ e. other (sym e ∙ sym is)) in
    get_or-set_other now w to (row_at now w ++ m ∷ []) [] other
    ∙ sym (append-nil (row_at now to))
    ∙ ap (λ b. row_at now to ++ cond b (m ∷ []) []) (sym goes))
    (cases_eq to w) in
    read
    ∙ ap (λ l. l ++ for_worker owners to (m ∷ [])) (rows to)
    ∙ append_assoc (row_at old to) (for_worker owners to (take i ms)) (for_worker owners to (m ∷ []))
    ∙ ap (λ l. row_at old to ++ l) (sym more)

-- a message is for a node, or is not
pub own-one : (m : Message) (n : ℕ) (own new : List Message) → m.to ≡ n → new ≡ own ++ m ∷ [] → new ≡ own ++ inbox (m ∷ []) n
own-one m n own new is added = added ∙ ap (λ b. own ++ cond b (m ∷ []) []) (sym (eq-eqb m.to n is))

pub own-none : (m : Message) (n : ℕ) (own : List Message) → m.to ≢ n → own ≡ own ++ inbox (m ∷ []) n
own-none m n own other = sym (append-nil own) ∙ ap (λ b. own ++ cond b (m ∷ []) []) (sym (ne_eqb m.to n other))

-- one more message was looked at
pub inbox-more : (ms : List Message) (i n : ℕ) (d : Message) (own new : List Message) → i < length ms → own ≡ inbox (take i ms) n →
    new ≡ own ++ inbox (slice_index_or ms i d ∷ []) n → new ≡ inbox (take (i + 1) ms) n
inbox-more ms i n d own new within before added =
    added
    ∙ ap (λ l. l ++ inbox (slice_index_or ms i d ∷ []) n) before
    ∙ sym (ap (λ l. inbox l n) (take_more ms i d within) ∙ filter-append (λ k. nat_eq k.to n) (take i ms) (slice_index_or ms i d ∷ []))

-- one more of the same
pub replicate-more : {A : Type 0} (n : ℕ) (x : A) (xs new : List A) → xs ≡ replicate n x → new ≡ xs ++ x ∷ [] → new ≡ replicate (n + 1) x
replicate-more n x xs new before added = added ∙ ap (λ l. l ++ x ∷ []) before ∙ replicate-append-replicate n 1 x

-- rows of one value
pub row-of_replicate : {A : Type 0} (n k : ℕ) → row_at {A = A} (replicate n []) k ≡ []
row-of_replicate {A} n k =
    ⊎_elim
    (λ (in_range : k < n). get_or-replicate n k [] [] in_range)
    (λ (past : n ≤ k). get_or-eq_default (replicate n []) [] (omega (arith, length-replicate {A = List A} n [])))
    (cases_lt k n)

-- messages are sent
pub sent-is : (owners : List ℕ) (w : ℕ) (ms : List Message) (unsent : List (List (List Message))) (incoming : List (List Message)) (row : List (List Message)) → w < length unsent →
    ((to : ℕ) → row_at row to ≡ row_at (row_at unsent w) to ++ for_worker owners to ms) →
    mail_in (slice_set unsent w row) incoming ≡ sends owners w ms (mail_in unsent incoming)
sent-is owners w ms unsent incoming row within rows =
    let is : ◌≡◌ {A = ℕ → ℕ → List Message} (λ f. row_at (row_at (slice_set unsent w row) f)) (with_at (λ f. row_at (row_at unsent f)) w (λ to. row_at (row_at unsent w) to ++ for_worker owners to ms)) =
    unsent-set unsent w row within ∙ ap (with_at (λ f. row_at (row_at unsent f)) w) (λ j to. rows to j) in
    λ j. record { unsent = is j; incoming = row_at incoming }

-- messages are delivered
pub delivered-is : (unsent : List (List (List Message))) (incoming : List (List Message)) (from to count : ℕ) (row : List (List Message)) (came : List Message) →
    from < length unsent → to < length (row_at unsent from) → to < length incoming →
    row ≡ slice_set (row_at unsent from) to (drop count (row_at (row_at unsent from) to)) →
    came ≡ row_at incoming to ++ take count (row_at (row_at unsent from) to) →
    mail_in (slice_set unsent from row) (slice_set incoming to came) ≡ delivered from to count (mail_in unsent incoming)
delivered-is unsent incoming from to count row came some has gets left taken =
    let rows : row_at row ≡ with_at (row_at (row_at unsent from)) to (drop count (row_at (row_at unsent from) to)) =
    ap row_at left ∙ rows-set (row_at unsent from) to (drop count (row_at (row_at unsent from) to)) has in
    let sender : ◌≡◌ {A = ℕ → ℕ → List Message} (λ f. row_at (row_at (slice_set unsent from row) f)) (with_at (λ f. row_at (row_at unsent f)) from (with_at (row_at (row_at unsent from)) to (drop count (row_at (row_at unsent from) to)))) =
    unsent-set unsent from row some ∙ ap (with_at (λ f. row_at (row_at unsent f)) from) rows in
    let receiver : row_at (slice_set incoming to came) ≡ with_at (row_at incoming) to (row_at incoming to ++ take count (row_at (row_at unsent from) to)) =
    rows-set incoming to came gets ∙ ap (with_at (row_at incoming) to) taken in
    λ j. record { unsent = sender j; incoming = receiver j }

-- nothing was sent
pub nothing-is : (workers : ℕ) (unsent : List (List (List Message))) (incoming : List (List Message)) → unsent ≡ replicate workers (replicate workers []) → incoming ≡ replicate workers [] →
    mail_in unsent incoming ≡ no_mail
nothing-is workers unsent incoming none nothing =
    let rows : (f t : ℕ) → row_at (row_at (replicate workers (replicate workers [])) f) t ≡ [] = λ f t.
    ⊎_elim
    (λ (in_range : f < workers). ap (λ row. row_at row t) (get_or-replicate workers f (replicate workers []) [] in_range) ∙ row-of_replicate {A = Message} workers t)
    (λ (past : workers ≤ f). ap (λ row. row_at row t) (get_or-eq_default (replicate workers (replicate workers [])) [] (omega (arith, length-replicate {A = List (List Message)} workers (replicate workers [])))))
    (cases_lt f workers) in
    ap (λ u. mail_in u incoming) none
    ∙ ap (mail_in (replicate workers (replicate workers []))) nothing
    ∙ (λ j. record { unsent = λ f t. rows f t j; incoming = λ t. row-of_replicate {A = Message} workers t j })

pub square-replicate : (workers : ℕ) (unsent : List (List (List Message))) → unsent ≡ replicate workers (replicate workers []) → IsSquare workers unsent
square-replicate workers unsent is = record {
  long = ap length is ∙ length-replicate workers (replicate workers []);
  each = λ w some. ap (λ u. length (row_at u w)) is ∙ ap length (get_or-replicate workers w (replicate workers []) [] some) ∙ length-replicate workers [];
}

-- some messages behind others, one more
pub range-more : (ms : List Message) (start i : ℕ) (d : Message) (old now new : List Message) → start ≤ i → i < length ms → now ≡ old ++ take (i - start) (drop start ms) →
    new ≡ now ++ slice_index_or ms i d ∷ [] → new ≡ old ++ take ((i + 1) - start) (drop start ms)
range-more ms start i d old now new ordered within before added =
    let reads : slice_index_or (drop start ms) (i - start) d ≡ slice_index_or ms i d = get_or-drop start ms (i - start) d ∙ ap (λ k. slice_index_or ms k d) (let e : start + (i - start) ≡ i = omega arith in e) in
    added
    ∙ ap (λ l. l ++ slice_index_or ms i d ∷ []) before
    ∙ append_assoc old (take (i - start) (drop start ms)) (slice_index_or ms i d ∷ [])
    ∙ ap (λ m. old ++ (take (i - start) (drop start ms) ++ m ∷ [])) (sym reads)
    ∙ ap (λ l. old ++ l) (sym (ap (λ k. take k (drop start ms)) (let e : (i + 1) - start ≡ (i - start) + 1 = omega arith in e) ∙ take_more (drop start ms) (i - start) d (omega (arith, length-drop start ms))))

-- a list of one value, also past its end
pub replicate-default : {A : Type 0} (n k : ℕ) (x : A) → slice_index_or (replicate n x) k x ≡ x
replicate-default {A} n k x =
    ⊎_elim
    (λ (in_range : k < n). get_or-replicate n k x x in_range)
    (λ (past : n ≤ k). get_or-eq_default (replicate n x) x (omega (arith, length-replicate {A = A} n x)))
    (cases_lt k n)
