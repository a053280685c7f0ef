-- A least walk passes no node twice, so it is shorter than the number of nodes.
use Rattle.std.proofs.Common.{◌≡◌, ℕ, zero, suc, ◌<◌, ◌≤◌, Bool, true, false, eqb, List, [], ◌∷◌, refl, sym, ap, subst, ◌∙◌, arith, ⊎_elim, inl, inr, length}
use Rattle.std.specs.Prelude.{◌⊎◌, ◌||◌}
use Rattle.std.specs.List.{IsDistinct, AllByRecursion}
use Rattle.std.proofs.lemmas.Bool.{cases_Bool, both_ways, cases_lt}
use Rattle.std.proofs.lemmas.Map.Keys.{IsDistinct-cons}
use Rattle.std.proofs.lemmas.Map.Steps.{length-le_from_distinct_below}
use Rattle.gm_value.specs.Bag.{IsIn}
use Rattle.gm_model.specs.Graphs.{NumberedGraph, IsGraph, HasNode, node_count}
use Rattle.gm_semantics.specs.Levels.{is_among, walk_ends}
use Rattle.gm_levels.specs.Walks.{Walk, onward, NoLevelNoWalk}
use Rattle.gm_levels.proofs.Walking.{among_in, walk_from_test, test_from_walk, walk_within, last_step, find_none}

-- a number that is not among some is none of them
apart : (n : ℕ) (ns : List ℕ) → is_among ns n ≡ false → AllByRecursion (λ y. eqb n y ≡ false) ns
apart n [] h = tt
apart n (m ∷ ns) h =
    ⊎_elim
    (λ (e : eqb n m ≡ true). absurd (both_ways (is_among (m ∷ ns) n) h (ap (λ b. b || is_among ns n) e)))
    (λ (e : eqb n m ≡ false). (e, apart n ns (sym (ap (λ b. b || is_among ns n) e) ∙ h)))
    (cases_Bool (eqb n m))

-- a list that has no number twice
distinct-nil : IsDistinct eqb []
unfolding IsDistinct
distinct-nil = tt

-- nodes that first walks of up to k edges end at, all different, one for each length
record Trail (g : NumberedGraph) (root k : ℕ) : Type 0 where
  passed : List ℕ
  long : length passed ≡ suc k
  distinct : IsDistinct eqb passed
  reached : (n : ℕ) → IsIn n passed → (i : ℕ) × (i ≤ k) × Walk g root i n

module _ (g : NumberedGraph) (root : ℕ) (ok : IsGraph g) (has : HasNode g root) where
  trail : (k n : ℕ) → Walk g root k n → ((i : ℕ) → i < k → Walk g root i n → ⊥) → Trail g root k
  trail zero n w first = record {
    passed = n ∷ [];
    long = refl;
    distinct = IsDistinct-cons eqb n [] tt distinct-nil;
    reached = λ m h. ⊎_elim (λ (e : m ≡ n). (0, omega arith, subst (Walk g root 0) (sym e) w)) (λ none. absurd none) h;
  }
  trail (suc k) n w first =
      let last = last_step g root (suc k) n k w refl in
      let before = trail k last.0 last.1 (λ i less v. let less' : suc i < suc k = omega arith in first (suc i) less' (onward n v last.2)) in
      let new : is_among before.passed n ≡ false = ⊎_elim
      (λ (e : is_among before.passed n ≡ true).
      let again = before.reached n (among_in before.passed n e) in
      absurd (first again.0 (omega (arith, again.1)) again.2))
      (λ (e : is_among before.passed n ≡ false). e)
      (cases_Bool (is_among before.passed n)) in
      record {
        passed = n ∷ before.passed;
        long = ap suc before.long;
        distinct = IsDistinct-cons eqb n before.passed (apart n before.passed new) before.distinct;
        reached = λ m h. ⊎_elim
            (λ (e : m ≡ n). (suc k, omega arith, subst (Walk g root (suc k)) (sym e) w))
            (λ (rest : IsIn m before.passed). let r = before.reached m rest in (r.0, omega (arith, r.1), r.2))
            h;
      }

  -- a walk that no shorter one replaces is shorter than the number of nodes
  first_is_short : (k n : ℕ) → Walk g root k n → ((i : ℕ) → i < k → Walk g root i n → ⊥) → k < node_count g
  first_is_short k n w first =
      let t = trail k n w first in
      let most = length-le_from_distinct_below t.passed (node_count g) t.distinct (λ m among. let r = t.reached m (among_in t.passed m among) in walk_within g root ok has r.0 m r.2) in
      omega (arith, t.long)

-- the least number below a bound that passes, or none
least_below : (p : ℕ → Bool) (b : ℕ) → ((i : ℕ) → i < b → p i ≡ false) ⊎ ((k : ℕ) × (p k ≡ true) × ((i : ℕ) → i < k → p i ≡ false))
least_below p zero = inl (λ i h. absurd (omega arith))
least_below p (suc b) =
    ⊎_elim
    (λ (none : (i : ℕ) → i < b → p i ≡ false).
    ⊎_elim
    (λ (e : p b ≡ true). inr (b, e, none))
    (λ (e : p b ≡ false). inl (λ i h. ⊎_elim (λ (less : i < b). none i less) (λ (last : b ≤ i). let is : b ≡ i = omega arith in subst (λ x. p x ≡ false) is e) (cases_lt i b)))
    (cases_Bool (p b)))
    (λ (found : (k : ℕ) × (p k ≡ true) × ((i : ℕ) → i < k → p i ≡ false)). inr found)
    (least_below p b)

pub no_level_no_walk : NoLevelNoWalk
no_level_no_walk g root n j ok has none w =
    let p : ℕ → Bool = λ k. is_among (walk_ends g root k) n in
    let test = test_from_walk g root ok j n w in
    ⊎_elim
    (λ (never : (i : ℕ) → i < suc j → p i ≡ false). both_ways (p j) (never j (omega arith)) test)
    (λ (least : (k : ℕ) × (p k ≡ true) × ((i : ℕ) → i < k → p i ≡ false)).
    let short = first_is_short g root ok has least.0 n (walk_from_test g root least.0 n least.1) (λ i less v. both_ways (p i) (least.2 i less) (test_from_walk g root ok i n v)) in
    both_ways (p least.0) (find_none p (node_count g) 0 none least.0 (omega arith) (omega (arith, short))) least.1)
    (least_below p (suc j))
