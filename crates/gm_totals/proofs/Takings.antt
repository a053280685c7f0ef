-- Taking over ranks with gaps is closing the entries one after another.
use Rattle.std.proofs.Common.{◌≡◌, ℕ, zero, suc, ◌+◌, ◌<◌, ◌≤◌, Bool, false, cond, List, [], ◌∷◌, ◌++◌, length, take, drop, get_or, map, refl, sym, ap, subst, ◌∙◌, arith, Option, Some, None, Ok, Err, ⊎_elim}
use Rattle.std.specs.Prelude.{nat_eq, if◌then◌else◌}
use Rattle.std.proofs.lemmas.Bool.{cases_lt, ne_eqb, eq-eqb}
use Rattle.std.proofs.lemmas.List.{take_more}
use Rattle.gm_value.specs.declared.values.Value.{Value}
use Rattle.gm_value.specs.declared.reductions.Reduce.{Reduce}
use Rattle.gm_value.specs.Taking.{of_rank, then_take, at_rank, taken_bag, taken}
use Rattle.gm_value.proofs.TakingLaws.{then_take-ok}
use Rattle.gm_semantics.specs.declared.faults.Fault.{Fault}
use Rattle.gm_semantics.specs.Contributions.{Contribution, statement_of, close_by, statement_bound, taken_onto, values_or, fault_in}
use Rattle.gm_semantics.specs.Faults.{least, total_fault}
use Rattle.gm_totals.specs.declared.entries.Entry.{Entry}
use Rattle.gm_totals.specs.declared.pots.Pot.{Pot}
use Rattle.gm_totals.specs.Pots.{TotalStands, RankStands, AreFrom, entry_at, entries_of, BeginBy, PotStands, IsTaking}
use Rattle.gm_totals.proofs.Gaining.{entry_at-below}

module _ {C V : Type 0} (rank : C → ℕ) (close : V → List C → Option V) (held : V) (cs : List C) where
  skip : (n : ℕ) → of_rank rank n cs ≡ [] → taken rank close (suc n) held cs ≡ taken rank close n held cs
  skip n none = ap (λ b. then_take (taken rank close n held cs) (λ v. taken_bag close n v b)) none ∙ then_take-ok (taken rank close n held cs)

  -- ranks without contributions change nothing
  gap : (m n : ℕ) → m ≤ n → ((s : ℕ) → m ≤ s → s < n → of_rank rank s cs ≡ []) → taken rank close n held cs ≡ taken rank close m held cs
  gap m zero h none = let e : 0 ≡ m = omega arith in ap (λ k. taken rank close k held cs) e
  gap m (suc n) h none =
      ⊎_elim
      (λ (less : n < m). let e : suc n ≡ m = omega arith in ap (λ k. taken rank close k held cs) e)
      (λ (above : m ≤ n). let last : n < suc n = omega arith in
      skip n (none n above last) ∙ gap m n above (λ s a b. let under : s < suc n = omega arith in none s a under))
      (cases_lt n m)

  -- two bounds above all ranks serve alike
  bounds : (m n : ℕ) → ((s : ℕ) → m ≤ s → of_rank rank s cs ≡ []) → ((s : ℕ) → n ≤ s → of_rank rank s cs ≡ []) → taken rank close m held cs ≡ taken rank close n held cs
  bounds m n above_m above_n =
      ⊎_elim
      (λ (less : m < n). let le : m ≤ n = omega arith in sym (gap m n le (λ s a b. above_m s a)))
      (λ (le : n ≤ m). gap n m le (λ s a b. above_n s a))
      (cases_lt m n)

  -- a fault stays
  stays : (m n s : ℕ) → m ≤ n → taken rank close m held cs ≡ Err s → taken rank close n held cs ≡ Err s
  stays m zero s h e = let is : 0 ≡ m = omega arith in ap (λ k. taken rank close k held cs) is ∙ e
  stays m (suc n) s h e =
      ⊎_elim
      (λ (less : n < m). let is : suc n ≡ m = omega arith in ap (λ k. taken rank close k held cs) is ∙ e)
      (λ (above : m ≤ n). ap (λ r. then_take r (λ v. taken_bag close n v (of_rank rank n cs))) (stays m n s above e))
      (cases_lt n m)

  bag_taken : (n : ℕ) (v : V) (bag : List C) → (bag ≡ [] → ⊥) → taken_bag close n v bag ≡ at_rank n (close v bag)
  bag_taken n v [] some = absurd (some refl)
  bag_taken n v (c ∷ bag) some = refl

  -- a rank with contributions is closed
  next : (n : ℕ) (v : V) → taken rank close n held cs ≡ Ok v → (of_rank rank n cs ≡ [] → ⊥) → taken rank close (suc n) held cs ≡ at_rank n (close v (of_rank rank n cs))
  next n v is some =
      ap (λ r. then_take r (λ u. taken_bag close n u (of_rank rank n cs))) is ∙ bag_taken n v (of_rank rank n cs) some

-- the first number above the statements of entries
abbrev pub after : ℕ → List Entry → ℕ
after low [] = low
after low (e ∷ es) = after (suc e.statement) es

after-last : (low : ℕ) (xs : List Entry) (e : Entry) → after low (xs ++ e ∷ []) ≡ suc e.statement
after-last low [] e = refl
after-last low (x ∷ xs) e = after-last (suc x.statement) xs e

-- the number after some entries is at most the next statement
after-next : (low : ℕ) (xs : List Entry) (e : Entry) (ys : List Entry) → AreFrom low (xs ++ e ∷ ys) → after low xs ≤ e.statement
after-next low [] e ys from = from.0
after-next low (x ∷ xs) e ys from = after-next (suc x.statement) xs e ys from.1

after-above : (low : ℕ) (xs ys : List Entry) → AreFrom low (xs ++ ys) → low ≤ after low xs
after-above low [] ys from = omega arith
after-above low (x ∷ xs) ys from =
    let above = from.0 in
    let rest = after-above (suc x.statement) xs ys from.1 in
    omega arith

entry_at-here : (low : ℕ) (xs : List Entry) (e : Entry) (ys : List Entry) → AreFrom low (xs ++ e ∷ ys) → entry_at e.statement (xs ++ e ∷ ys) ≡ Some e
entry_at-here low [] e ys from = ap (λ b. if b then Some e else entry_at e.statement ys) (eq-eqb e.statement e.statement refl)
entry_at-here low (x ∷ xs) e ys from =
    let up = after-above (suc x.statement) xs (e ∷ ys) from.1 in
    let to = after-next (suc x.statement) xs e ys from.1 in
    let other : nat_eq x.statement e.statement ≡ false = ne_eqb x.statement e.statement (λ is. omega arith) in
    ap (λ b. if b then Some x else entry_at e.statement (xs ++ e ∷ ys)) other ∙ entry_at-here (suc x.statement) xs e ys from.1

entry_at-gap : (s low : ℕ) (xs : List Entry) (e : Entry) (ys : List Entry) → AreFrom low (xs ++ e ∷ ys) → after low xs ≤ s → s < e.statement → entry_at s (xs ++ e ∷ ys) ≡ None
entry_at-gap s low [] e ys from above below =
    let from_e : AreFrom e.statement (e ∷ ys) = (omega arith, from.1) in
    entry_at-below s e.statement (e ∷ ys) from_e below
entry_at-gap s low (x ∷ xs) e ys from above below =
    let up = after-above (suc x.statement) xs (e ∷ ys) from.1 in
    let other : nat_eq x.statement s ≡ false = ne_eqb x.statement s (λ is. omega arith) in
    ap (λ b. if b then Some x else entry_at s (xs ++ e ∷ ys)) other ∙ entry_at-gap s (suc x.statement) xs e ys from.1 above below

entry_at-end : (s low : ℕ) (es : List Entry) → AreFrom low es → after low es ≤ s → entry_at s es ≡ None
entry_at-end s low [] from above = refl
entry_at-end s low (x ∷ xs) from above =
    let from_nil : AreFrom (suc x.statement) (xs ++ []) = subst (AreFrom (suc x.statement)) (sym (append_nil xs)) from.1 in
    let up = after-above (suc x.statement) xs [] from_nil in
    let other : nat_eq x.statement s ≡ false = ne_eqb x.statement s (λ is. omega arith) in
    ap (λ b. if b then Some x else entry_at s xs) other ∙ entry_at-end s (suc x.statement) xs from.1 above
  where
    append_nil : (es : List Entry) → es ++ [] ≡ es
    append_nil [] = refl
    append_nil (e ∷ es) = ap (λ l. e ∷ l) (append_nil es)

-- no contribution is of a statement at or above the bound
bound-none : (s : ℕ) (cs : List Contribution) → statement_bound cs ≤ s → of_rank statement_of s cs ≡ []
bound-none s [] h = refl
bound-none s (c ∷ cs) h =
    let rest : statement_bound cs ≤ s = omega arith in
    let other : nat_eq (statement_of c) s ≡ false = ne_eqb (statement_of c) s (λ is. omega arith) in
    ap (λ b. cond b (c ∷ of_rank statement_of s cs) (of_rank statement_of s cs)) other ∙ bound-none s cs rest

taken_onto-by : (r : Reduce) (held : List Value) (cs : List Contribution) → BeginBy r cs → taken_onto held cs ≡ taken statement_of (close_by r) (statement_bound cs) held cs
taken_onto-by r held [] begin = absurd begin
taken_onto-by r held (c ∷ cs) begin = ap (λ x. taken statement_of (close_by x) (statement_bound (c ∷ cs)) held (c ∷ cs)) begin

-- an entry stands for some contributions
stands-some : (several : Bool) (r : Reduce) (e : Entry) (bag : List Contribution) → TotalStands several r e bag → bag ≡ [] → ⊥
stands-some several r e bag is none = apart (sym (ap (λ b. least (map (λ (c : Contribution). total_fault c.total) b)) none) ∙ is.fault)
  where
    apart : {f : Fault} → None ≡ Some f → ⊥
    apart h = cc

module _ (several : Bool) (pot : Pot) (held : List Value) (cs : List Contribution) (stands : PotStands several pot cs) where
  -- what is held after some entries were closed
  abbrev pub Upto : List Entry → List Value → Type 0
  Upto xs v = taken statement_of (close_by pot.reduce) (after 0 xs) held cs ≡ Ok v

  -- the next entry is closed
  pub upto-next : (xs : List Entry) (e : Entry) (ys : List Entry) (v : List Value) (o : Option (List Value)) → entries_of pot ≡ xs ++ e ∷ ys → Upto xs v
      → ((bag : List Contribution) → TotalStands several pot.reduce e bag → o ≡ close_by pot.reduce v bag)
      → taken statement_of (close_by pot.reduce) (suc e.statement) held cs ≡ at_rank e.statement o
  upto-next xs e ys v o split upto closes =
      let r = pot.reduce in
      let from : AreFrom 0 (xs ++ e ∷ ys) = subst (AreFrom 0) split stands.ascending in
      let here : TotalStands several r e (of_rank statement_of e.statement cs) =
      subst (λ q. RankStands several r q (of_rank statement_of e.statement cs)) (ap (entry_at e.statement) split ∙ entry_at-here 0 xs e ys from) (stands.ranks e.statement) in
      let to = gap statement_of (close_by r) held cs (after 0 xs) e.statement (after-next 0 xs e ys from)
      (λ s above below. subst (λ q. RankStands several r q (of_rank statement_of s cs)) (ap (entry_at s) split ∙ entry_at-gap s 0 xs e ys from above below) (stands.ranks s)) in
      next statement_of (close_by r) held cs e.statement v (to ∙ upto) (stands-some several r e (of_rank statement_of e.statement cs) here)
      ∙ ap (at_rank e.statement) (sym (closes (of_rank statement_of e.statement cs) here))

  pub upto-more : (xs : List Entry) (e : Entry) (ys : List Entry) (v w : List Value) → entries_of pot ≡ xs ++ e ∷ ys → Upto xs v
      → ((bag : List Contribution) → TotalStands several pot.reduce e bag → Some w ≡ close_by pot.reduce v bag) → Upto (xs ++ e ∷ []) w
  upto-more xs e ys v w split upto closes =
      ap (λ n. taken statement_of (close_by pot.reduce) n held cs) (after-last 0 xs e) ∙ upto-next xs e ys v (Some w) split upto closes

  -- all entries were closed
  pub taking-ok : (v : List Value) → Upto (entries_of pot) v → IsTaking held cs (Ok v)
  taking-ok v upto =
      let r = pot.reduce in
      let all : taken_onto held cs ≡ Ok v = taken_onto-by r held cs stands.reduce
      ∙ bounds statement_of (close_by r) held cs (statement_bound cs) (after 0 (entries_of pot)) (λ s above. bound-none s cs above)
      (λ s above. subst (λ q. RankStands several r q (of_rank statement_of s cs)) (entry_at-end s 0 (entries_of pot) stands.ascending above) (stands.ranks s))
      ∙ upto in
      record { values = ap (values_or held) all; fault = ap (fault_in cs) all }

  -- an entry does not fit
  pub taking-err : (xs : List Entry) (e : Entry) (ys : List Entry) (v : List Value) (f : Fault) → entries_of pot ≡ xs ++ e ∷ ys → Upto xs v
      → ((bag : List Contribution) → TotalStands several pot.reduce e bag → None ≡ close_by pot.reduce v bag) → f ≡ total_fault e.key → IsTaking held cs (Err f)
  taking-err xs e ys v f split upto closes is =
      let r = pot.reduce in
      let from : AreFrom 0 (xs ++ e ∷ ys) = subst (AreFrom 0) split stands.ascending in
      let here : TotalStands several r e (of_rank statement_of e.statement cs) =
      subst (λ q. RankStands several r q (of_rank statement_of e.statement cs)) (ap (entry_at e.statement) split ∙ entry_at-here 0 xs e ys from) (stands.ranks e.statement) in
      let within : suc e.statement ≤ statement_bound cs =
      ⊎_elim
      (λ (less : e.statement < statement_bound cs). omega arith)
      (λ (above : statement_bound cs ≤ e.statement). absurd (stands-some several r e (of_rank statement_of e.statement cs) here (bound-none e.statement cs above)))
      (cases_lt e.statement (statement_bound cs)) in
      let all : taken_onto held cs ≡ Err e.statement = taken_onto-by r held cs stands.reduce
      ∙ stays statement_of (close_by r) held cs (suc e.statement) (statement_bound cs) e.statement within (upto-next xs e ys v None split upto closes) in
      record { values = ap (values_or held) all; fault = ap (fault_in cs) all ∙ here.fault ∙ ap Some (sym is) }

-- a list parted at one of its elements
split_at : {A : Type 0} (xs : List A) (i : ℕ) (d : A) → i < length xs → xs ≡ take i xs ++ get_or xs i d ∷ drop (suc i) xs
split_at [] i d h = absurd (omega arith)
split_at (x ∷ xs) zero d h = refl
split_at (x ∷ xs) (suc i) d h = ap (λ l. x ∷ l) (split_at xs i d (omega arith))

take_all : {A : Type 0} (xs : List A) (i : ℕ) → length xs ≤ i → take i xs ≡ xs
take_all [] zero h = refl
take_all [] (suc i) h = refl
take_all (x ∷ xs) zero h = absurd (omega arith)
take_all (x ∷ xs) (suc i) h = ap (λ l. x ∷ l) (take_all xs i (omega arith))

-- a pot's entries closed one after another, as a loop does
module _ (several : Bool) (pot : Pot) (held : List Value) (cs : List Contribution) (stands : PotStands several pot cs) where
  pub first-more : (o : Option (List Value)) (w : List Value) → ((bag : List Contribution) → TotalStands several pot.reduce pot.first bag → o ≡ close_by pot.reduce held bag) → o ≡ Some w
      → Upto several pot held cs stands (pot.first ∷ []) w
  first-more o w closes is = upto-more several pot held cs stands [] pot.first pot.more.items held w refl refl (λ bag h. sym is ∙ closes bag h)

  pub first-err : (o : Option (List Value)) (f : Fault) → ((bag : List Contribution) → TotalStands several pot.reduce pot.first bag → o ≡ close_by pot.reduce held bag) → o ≡ None
      → f ≡ total_fault pot.first.key → IsTaking held cs (Err f)
  first-err o f closes is fault = taking-err several pot held cs stands [] pot.first pot.more.items held f refl refl (λ bag h. sym is ∙ closes bag h) fault

  parted : (items : List Entry) (i : ℕ) (d : Entry) → items ≡ pot.more.items → i < length items
      → entries_of pot ≡ (pot.first ∷ take i pot.more.items) ++ get_or items i d ∷ drop (suc i) pot.more.items
  parted items i d same within =
      ap (λ l. pot.first ∷ l) (subst (λ l. l ≡ take i l ++ get_or items i d ∷ drop (suc i) l) same (split_at items i d within))

  pub loop-more : (items : List Entry) (i : ℕ) (d : Entry) (v w : List Value) (o : Option (List Value)) → items ≡ pot.more.items → i < length items
      → Upto several pot held cs stands (pot.first ∷ take i pot.more.items) v
      → ((bag : List Contribution) → TotalStands several pot.reduce (get_or items i d) bag → o ≡ close_by pot.reduce v bag) → o ≡ Some w
      → Upto several pot held cs stands (pot.first ∷ take (i + 1) pot.more.items) w
  loop-more items i d v w o same within upto closes is =
      let e = get_or items i d in
      let longer : take (i + 1) pot.more.items ≡ take i pot.more.items ++ e ∷ [] = subst (λ l. take (i + 1) l ≡ take i l ++ e ∷ []) same (take_more items i d within) in
      ap (λ l. taken statement_of (close_by pot.reduce) (after 0 (pot.first ∷ l)) held cs) longer
      ∙ upto-more several pot held cs stands (pot.first ∷ take i pot.more.items) e (drop (suc i) pot.more.items) v w (parted items i d same within) upto (λ bag h. sym is ∙ closes bag h)

  pub loop-err : (items : List Entry) (i : ℕ) (d : Entry) (v : List Value) (o : Option (List Value)) (f : Fault) → items ≡ pot.more.items → i < length items
      → Upto several pot held cs stands (pot.first ∷ take i pot.more.items) v
      → ((bag : List Contribution) → TotalStands several pot.reduce (get_or items i d) bag → o ≡ close_by pot.reduce v bag) → o ≡ None
      → f ≡ total_fault (get_or items i d).key → IsTaking held cs (Err f)
  loop-err items i d v o f same within upto closes is fault =
      taking-err several pot held cs stands (pot.first ∷ take i pot.more.items) (get_or items i d) (drop (suc i) pot.more.items) v f (parted items i d same within) upto
      (λ bag h. sym is ∙ closes bag h) fault

  pub loop-ok : (items : List Entry) (i : ℕ) (v : List Value) → items ≡ pot.more.items → length items ≤ i
      → Upto several pot held cs stands (pot.first ∷ take i pot.more.items) v → IsTaking held cs (Ok v)
  loop-ok items i v same past upto =
      let all : take i pot.more.items ≡ pot.more.items = take_all pot.more.items i (subst (λ l. length l ≤ i) same past) in
      taking-ok several pot held cs stands v (subst (λ l. Upto several pot held cs stands (pot.first ∷ l) v) all upto)
