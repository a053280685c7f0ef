-- Contributions that are ranked anew in the same order are taken alike.
use Rattle.std.proofs.Common.{◌≡◌, ◌≢◌, ◌<◌, ◌≤◌, ℕ, zero, suc, Bool, true, false, cond, Option, Some, None, Result, Ok, Err, List, [], ◌∷◌, refl, ap, ◌∙◌, sym, subst, arith, ⊎_elim, inl, inr}
use Rattle.std.specs.Prelude.{nat_eq, nat_le, filter}
use Rattle.std.proofs.lemmas.Bool.{eqb-true, eqb-false, ne_eqb, eq-eqb, cases_Bool, leb-true, leb-false}
use Rattle.gm_value.specs.Bag.{IsIn}
use Rattle.gm_value.specs.Taking.{then_take, at_rank, taken_bag, taken, rank_by}
use Rattle.gm_value.proofs.TakingLaws.{then_take-ok}

filter-none : {C : Type 0} (rank : C → ℕ) (x : ℕ) (cs : List C) → ((c : C) → IsIn c cs → rank c ≢ x) → filter (λ c. nat_eq (rank c) x) cs ≡ []
filter-none rank x [] h = refl
filter-none rank x (c ∷ cs) h = ap (λ b. cond b (c ∷ filter (λ c. nat_eq (rank c) x) cs) (filter (λ c. nat_eq (rank c) x) cs)) (ne_eqb (rank c) x (h c (inl refl))) ∙ filter-none rank x cs (λ d i. h d (inr i))

pub filter-each : {C : Type 0} (p q : C → Bool) (cs : List C) → ((c : C) → IsIn c cs → p c ≡ q c) → filter p cs ≡ filter q cs
filter-each p q [] h = refl
filter-each p q (c ∷ cs) h = ap (λ b. cond b (c ∷ filter p cs) (filter p cs)) (h c (inl refl)) ∙ ap (λ ds. cond (q c) (c ∷ ds) ds) (filter-each p q cs (λ d i. h d (inr i)))

-- a member that passes stands in what is filtered
filter-in : {C : Type 0} (p : C → Bool) (cs : List C) (c : C) → IsIn c cs → p c ≡ true → IsIn c (filter p cs)
filter-in p [] c i e = i
filter-in p (d ∷ cs) c (inl i) e = subst (λ b. IsIn c (cond b (d ∷ filter p cs) (filter p cs))) (sym (ap p (sym i) ∙ e)) (inl i)
filter-in p (d ∷ cs) c (inr i) e = by_test (p d) (filter-in p cs c i e) where
  by_test : (b : Bool) → IsIn c (filter p cs) → IsIn c (cond b (d ∷ filter p cs) (filter p cs))
  by_test true h = inr h
  by_test false h = h

in-filter : {C : Type 0} (p : C → Bool) (cs : List C) (c : C) → IsIn c (filter p cs) → IsIn c cs × (p c ≡ true)
in-filter p [] c i = absurd i
in-filter {C} p (d ∷ cs) c i = by_test (p d) refl i (λ h. in-filter p cs c h) where
  by_test : (b : Bool) → p d ≡ b → IsIn c (cond b (d ∷ filter p cs) (filter p cs)) → (IsIn c (filter p cs) → IsIn c cs × (p c ≡ true)) → IsIn c (d ∷ cs) × (p c ≡ true)
  by_test true e (inl h) go = (inl h, ap p h ∙ e)
  by_test true e (inr h) go = (inr (go h).0, (go h).1)
  by_test false e h go = (inr (go h).0, (go h).1)

-- p is the new rank of an old one, and f cuts the new ranks where a bound cuts the old ones
module _ {C V : Type 0} (rank new : C → ℕ) (close : V → List C → Option V) (p f : ℕ → ℕ) (cs : List C)
    (is : (c : C) → IsIn c cs → new c ≡ p (rank c))
    (below : (c : C) → IsIn c cs → (b : ℕ) → rank c < b → new c < f b)
    (above : (c : C) → IsIn c cs → (b : ℕ) → b ≤ rank c → f b ≤ new c)
    (up : (b : ℕ) → f b ≤ f (suc b)) where
  -- ranks that no contribution has change nothing
  gap : (v : V) (lo hi : ℕ) → lo ≤ hi → ((x : ℕ) → lo ≤ x → x < hi → (c : C) → IsIn c cs → new c ≢ x) → taken new close hi v cs ≡ taken new close lo v cs
  gap v zero zero le h = refl
  gap v (suc lo) zero le h = absurd (omega arith)
  gap v lo (suc hi) le h =
      ⊎_elim
      (λ (e : nat_eq lo (suc hi) ≡ true). ap (λ k. taken new close k v cs) (sym (eqb-true lo (suc hi) e)))
      (λ (e : nat_eq lo (suc hi) ≡ false).
      let apart : lo ≢ suc hi = eqb-false lo (suc hi) e in
      let under : lo ≤ hi = omega arith in
      let last : hi < suc hi = omega arith in
      ap (λ ds. then_take (taken new close hi v cs) (λ u. taken_bag close hi u ds)) (filter-none new hi cs (h hi under last))
      ∙ then_take-ok (taken new close hi v cs)
      ∙ gap v lo hi under (λ x l m. let less : x < suc hi = omega arith in h x l less))
      (cases_Bool (nat_eq lo (suc hi)))

  rank-then : (r : Result V ℕ) (s : ℕ) (ds : List C) → then_take (rank_by p r) (λ u. taken_bag close (p s) u ds) ≡ rank_by p (then_take r (λ u. taken_bag close s u ds))
  rank-then (Err k) s ds = refl
  rank-then (Ok v) s [] = refl
  rank-then (Ok v) s (c ∷ ds) = at_end (close v (c ∷ ds)) where
    at_end : (o : Option V) → at_rank (p s) o ≡ rank_by p (at_rank s o)
    at_end (Some u) = refl
    at_end None = refl

  -- a contribution whose new rank lies between the cuts of s has the rank s
  rank-between : (c : C) → IsIn c cs → (s : ℕ) → f s ≤ new c → new c < f (suc s) → rank c ≡ s
  rank-between c i s l m =
      ⊎_elim
      (λ (t : nat_le s (rank c) ≡ true).
      let low = leb-true s (rank c) t in
      ⊎_elim
      (λ (u : nat_le (suc s) (rank c) ≡ true). let high = above c i (suc s) (leb-true (suc s) (rank c) u) in absurd (omega arith))
      (λ (u : nat_le (suc s) (rank c) ≡ false). let less = leb-false (suc s) (rank c) u in omega arith)
      (cases_Bool (nat_le (suc s) (rank c))))
      (λ (t : nat_le s (rank c) ≡ false). let under = below c i s (leb-false s (rank c) t) in absurd (omega arith))
      (cases_Bool (nat_le s (rank c)))

  one_step : (v : V) (s : ℕ) (ds : List C) → filter (λ c. nat_eq (rank c) s) cs ≡ ds → taken new close (f s) v cs ≡ rank_by p (taken rank close s v cs) →
      taken new close (f (suc s)) v cs ≡ rank_by p (then_take (taken rank close s v cs) (λ u. taken_bag close s u ds))
  one_step v s [] e h =
      gap v (f s) (f (suc s)) (up s) (λ x l m c i k. let lo : f s ≤ new c = omega arith in let hi : new c < f (suc s) = omega arith in subst (IsIn c) e (filter-in (λ c. nat_eq (rank c) s) cs c i (eq-eqb (rank c) s (rank-between c i s lo hi))))
      ∙ h ∙ ap (rank_by p) (sym (then_take-ok (taken rank close s v cs)))
  one_step v s (c ∷ ds) e h =
      let here = in-filter (λ c. nat_eq (rank c) s) cs c (subst (IsIn c) (sym e) (inl refl)) in
      let same : rank c ≡ s = eqb-true (rank c) s here.1 in
      let q : new c ≡ p s = is c here.0 ∙ ap p same in
      let next : rank c < suc s = omega arith in
      let low : s ≤ rank c = omega arith in
      let under = below c here.0 (suc s) next in
      let over = above c here.0 s low in
      let lo : f s ≤ p s = omega arith in
      let hi : suc (p s) ≤ f (suc s) = omega arith in
      gap v (suc (p s)) (f (suc s)) hi (λ x l m d i k. let lod : f s ≤ new d = omega arith in let hid : new d < f (suc s) = omega arith in let eqd : new d ≡ p s = is d i ∙ ap p (rank-between d i s lod hid) in omega arith)
      ∙ ap (λ r. then_take r (λ u. taken_bag close (p s) u (filter (λ c. nat_eq (new c) (p s)) cs)))
      (gap v (f s) (p s) lo (λ x l m d i k. let lod : f s ≤ new d = omega arith in let hid : new d < f (suc s) = omega arith in let eqd : new d ≡ p s = is d i ∙ ap p (rank-between d i s lod hid) in omega arith) ∙ h)
      ∙ ap (λ es. then_take (rank_by p (taken rank close s v cs)) (λ u. taken_bag close (p s) u es))
      (filter-each (λ c. nat_eq (new c) (p s)) (λ c. nat_eq (rank c) s) cs (λ d i. test d i lo hi) ∙ e)
      ∙ rank-then (taken rank close s v cs) s (c ∷ ds)
    where
      test : (d : C) → IsIn d cs → f s ≤ p s → suc (p s) ≤ f (suc s) → nat_eq (new d) (p s) ≡ nat_eq (rank d) s
      test d i lo hi =
          ⊎_elim
          (λ (t : nat_eq (rank d) s ≡ true). eq-eqb (new d) (p s) (is d i ∙ ap p (eqb-true (rank d) s t)) ∙ sym t)
          (λ (t : nat_eq (rank d) s ≡ false). ne_eqb (new d) (p s) (λ k. let lod : f s ≤ new d = omega arith in let hid : new d < f (suc s) = omega arith in eqb-false (rank d) s t (rank-between d i s lod hid)) ∙ sym t)
          (cases_Bool (nat_eq (rank d) s))

  -- taking by the new ranks below a cut is taking by the old ones below its bound
  pub rekeyed : (v : V) (b : ℕ) → taken new close (f b) v cs ≡ rank_by p (taken rank close b v cs)
  rekeyed v zero = gap v 0 (f 0) (omega arith) (λ x l m c i k. let low = above c i 0 (omega arith) in omega arith)
  rekeyed v (suc s) = one_step v s (filter (λ c. nat_eq (rank c) s) cs) refl (rekeyed v s)
