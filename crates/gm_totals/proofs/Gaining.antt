-- Entries with one more contribution.
use Rattle.std.proofs.Common.{◌≡◌, ℕ, zero, suc, ◌<◌, ◌≤◌, Bool, true, false, List, [], ◌∷◌, ◌++◌, length, set, get_or, refl, sym, ap, subst, ◌∙◌, arith, Some, None}
use Rattle.std.specs.Prelude.{nat_eq, nat_lt, if◌then◌else◌, insert}
use Rattle.std.specs.List.Sorted.{IsPartitionedBy}
use Rattle.std.proofs.lemmas.Bool.{eqb-true, ne_eqb, ltb-true, lt-ltb}
use Rattle.gm_value.specs.declared.reductions.Reduce.{Reduce}
use Rattle.gm_semantics.specs.Contributions.{Contribution, statement_of}
use Rattle.gm_totals.specs.declared.entries.Entry.{Entry}
use Rattle.gm_totals.specs.Pots.{TotalStands, RankStands, Joins, AreFrom, entry_at, with_own, Gains}

-- entries from a number on have none of an earlier statement
pub entry_at-below : (s low : ℕ) (es : List Entry) → AreFrom low es → s < low → entry_at s es ≡ None
entry_at-below s low [] from h = refl
entry_at-below s low (e ∷ es) from h =
    let above = from.0 in
    let other : nat_eq e.statement s ≡ false = ne_eqb e.statement s (λ is. omega arith) in
    ap (λ b. if b then Some e else entry_at s es) other ∙ entry_at-below s (suc e.statement) es from.1 (omega arith)

module _ (several : Bool) (r : Reduce) (c : Contribution) where
  -- an entry of the contribution's statement before others
  head : (s : ℕ) (e : Entry) (es : List Entry) (bag : List Contribution) → e.statement ≡ statement_of c
      → (nat_eq (statement_of c) s ≡ true → TotalStands several r e (bag ++ c ∷ [])) → (nat_eq (statement_of c) s ≡ false → RankStands several r (entry_at s es) bag)
      → RankStands several r (entry_at s (e ∷ es)) (with_own s bag c)
  head s e es bag same own other =
      subst (λ n. RankStands several r (if nat_eq n s then Some e else entry_at s es) (with_own s bag c)) (sym same) (by (nat_eq (statement_of c) s) refl)
    where
      by : (b : Bool) → nat_eq (statement_of c) s ≡ b → RankStands several r (if b then Some e else entry_at s es) (if b then bag ++ c ∷ [] else bag)
      by true p = own p
      by false p = other p

  pub gains-end : (e : Entry) → Joins several r None c e → Gains several r [] (e ∷ []) c
  gains-end e joins low from =
      let same = joins.0 in
      (λ le. (subst (λ n. low ≤ n) (sym same) le, tt), λ s bag is. head s e [] bag same (λ p. joins.1 bag is) (λ p. is))

  pub gains-same : (x e : Entry) (es : List Entry) → x.statement ≡ statement_of c → Joins several r (Some x) c e → Gains several r (x ∷ es) (e ∷ es) c
  gains-same x e es x_same joins low from =
      let same = joins.0 in
      let to : x.statement ≡ e.statement = x_same ∙ sym same in (
        λ le. (subst (λ n. low ≤ n) to from.0, subst (λ n. AreFrom (suc n) es) to from.1),
        λ s bag is. head s e es bag same
            (λ p. joins.1 bag (subst (λ b. RankStands several r (if b then Some x else entry_at s es) bag) (ap (λ n. nat_eq n s) x_same ∙ p) is))
            (λ p. subst (λ b. RankStands several r (if b then Some x else entry_at s es) bag) (ap (λ n. nat_eq n s) x_same ∙ p) is),
      )

  pub gains-before : (x e : Entry) (es : List Entry) → statement_of c < x.statement → Joins several r None c e → Gains several r (x ∷ es) (e ∷ (x ∷ es)) c
  gains-before x e es earlier joins low from =
      let same = joins.0 in
      let above : suc e.statement ≤ x.statement = omega arith in
      let from_x : AreFrom x.statement (x ∷ es) = (omega arith, from.1) in (
        λ le. (subst (λ n. low ≤ n) (sym same) le, (above, from.1)),
        λ s bag is. head s e (x ∷ es) bag same
            (λ p.
            let own : statement_of c ≡ s = eqb-true (statement_of c) s p in
            let less : s < x.statement = omega arith in
            joins.1 bag (subst (λ o. RankStands several r o bag) (entry_at-below s x.statement (x ∷ es) from_x less) is))
            (λ p. is),
      )

  pub gains-later : (x : Entry) (es new : List Entry) → x.statement < statement_of c → Gains several r es new c → Gains several r (x ∷ es) (x ∷ new) c
  gains-later x es new later gains low from =
      let inner = gains (suc x.statement) from.1 in
      (λ le. (from.0, inner.0 (omega arith)), λ s bag is. by s bag (nat_eq x.statement s) refl inner.1 is)
    where
      by : (s : ℕ) (bag : List Contribution) (b : Bool) → nat_eq x.statement s ≡ b
          → ((s : ℕ) (bag : List Contribution) → RankStands several r (entry_at s es) bag → RankStands several r (entry_at s new) (with_own s bag c))
          → RankStands several r (if nat_eq x.statement s then Some x else entry_at s es) bag
          → RankStands several r (if nat_eq x.statement s then Some x else entry_at s new) (with_own s bag c)
      by s bag true p rest is =
          let at_x : x.statement ≡ s = eqb-true x.statement s p in
          let other : nat_eq (statement_of c) s ≡ false = ne_eqb (statement_of c) s (λ e. omega arith) in
          let held : RankStands several r (Some x) bag = subst (λ b. RankStands several r (if b then Some x else entry_at s es) bag) p is in
          let here : RankStands several r (Some x) (with_own s bag c) = subst (λ b. RankStands several r (Some x) (if b then bag ++ c ∷ [] else bag)) (sym other) held in
          subst (λ b. RankStands several r (if b then Some x else entry_at s new) (with_own s bag c)) (sym p) here
      by s bag false p rest is =
          let held : RankStands several r (entry_at s es) bag = subst (λ b. RankStands several r (if b then Some x else entry_at s es) bag) p is in
          subst (λ b. RankStands several r (if b then Some x else entry_at s new) (with_own s bag c)) (sym p) (rest s bag held)

  -- a new entry at its place
  pub gains-insert : (es : List Entry) (i : ℕ) (e : Entry) → i ≤ length es → ((k : ℕ) → k < i → (get_or es k e).statement < statement_of c)
      → (i < length es → statement_of c < (get_or es i e).statement) → Joins several r None c e → Gains several r es (insert es i e) c
  gains-insert [] zero e within below above joins = gains-end e joins
  gains-insert [] (suc i) e within below above joins = absurd (omega arith)
  gains-insert (x ∷ es) zero e within below above joins = gains-before x e es (above (omega arith)) joins
  gains-insert (x ∷ es) (suc i) e within below above joins =
      gains-later x es (insert es i e) (below 0 (omega arith)) (gains-insert es i e (omega arith) (λ k h. below (suc k) (omega arith)) (λ h. above (omega arith)) joins)

  -- an entry with one more at its place
  pub gains-set : (es : List Entry) (i : ℕ) (x e : Entry) → i < length es → ((k : ℕ) → k < i → (get_or es k e).statement < statement_of c)
      → x ≡ get_or es i e → x.statement ≡ statement_of c → Joins several r (Some x) c e → Gains several r es (set es i e) c
  gains-set [] i x e within below is same joins = absurd (omega arith)
  gains-set (y ∷ es) zero x e within below is same joins =
      gains-same y e es (subst (λ z. z.statement ≡ statement_of c) is same) (subst (λ z. Joins several r (Some z) c e) is joins)
  gains-set (y ∷ es) (suc i) x e within below is same joins =
      gains-later y es (set es i e) (below 0 (omega arith)) (gains-set es i x e (omega arith) (λ k h. below (suc k) (omega arith)) is same joins)

-- entries from a number on are all of that statement or a later one
statements-from : (low : ℕ) (es : List Entry) (j : ℕ) (d : Entry) → AreFrom low es → j < length es → low ≤ (get_or es j d).statement
statements-from low [] j d from h = absurd (omega arith)
statements-from low (e ∷ es) zero d from h = from.0
statements-from low (e ∷ es) (suc j) d from h =
    let above = from.0 in
    let rest = statements-from (suc e.statement) es j d from.1 (omega arith) in
    omega arith

statements-ascend : (low : ℕ) (es : List Entry) (i j : ℕ) (d : Entry) → AreFrom low es → i ≤ j → j < length es → (get_or es i d).statement ≤ (get_or es j d).statement
statements-ascend low [] i j d from le h = absurd (omega arith)
statements-ascend low (e ∷ es) zero zero d from le h = omega arith
statements-ascend low (e ∷ es) zero (suc j) d from le h = let rest = statements-from (suc e.statement) es j d from.1 (omega arith) in omega arith
statements-ascend low (e ∷ es) (suc i) zero d from le h = absurd (omega arith)
statements-ascend low (e ∷ es) (suc i) (suc j) d from le h = statements-ascend (suc e.statement) es i j d from.1 (omega arith) (omega arith)

-- the earlier statements stand first
pub earlier-first : (low s : ℕ) (es : List Entry) → AreFrom low es → IsPartitionedBy (λ (e : Entry). nat_lt e.statement s) es
earlier-first low s es from i j d le h less =
    let up = statements-ascend low es i j d from le h in
    let last : (get_or es j d).statement < s = ltb-true (get_or es j d).statement s less in
    lt-ltb (get_or es i d).statement s (omega arith)
