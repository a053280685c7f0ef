-- The laws of taking.
use Rattle.std.proofs.Common.{◌≡◌, ℕ, zero, suc, ◌<◌, ◌≤◌, Bool, true, false, cond, Option, List, [], ◌∷◌, refl, sym, ap, ◌∙◌, arith, Result, Ok, Err, ⊎_elim}
use Rattle.std.specs.Prelude.{filter, nat_eq, nat_lt, nat_le}
use Rattle.std.proofs.lemmas.Bool.{cases_Bool, cases_lt, ne_eqb, lt-ltb, le-leb, eqb-true, ltb-true, leb-true, both_ways}
use Rattle.gm_value.specs.Bag.{SameBag, same_nil, same_cons, same_swap, same_trans}
use Rattle.gm_value.specs.Taking.{of_rank, then_take, at_rank, taken_bag, taken, before, from_on, TakesBags, AreBelow}
use Rattle.gm_value.proofs.BagLaws.{SameBag-filter}

-- a second test that each passes who passes the first changes nothing
filter-filter : {A : Type 0} (p q : A → Bool) → ((x : A) → p x ≡ true → q x ≡ true) → (xs : List A) → filter p (filter q xs) ≡ filter p xs
filter-filter p q also [] = refl
filter-filter p q also (x ∷ xs) =
    let rest = filter-filter p q also xs in
    ⊎_elim
    (λ (passes : q x ≡ true). ap (λ b. filter p (cond b (x ∷ filter q xs) (filter q xs))) passes ∙ ap (λ l. cond (p x) (x ∷ l) l) rest)
    (λ (fails : q x ≡ false).
    let p_fails : p x ≡ false = ⊎_elim (λ (h : p x ≡ true). absurd (both_ways (q x) fails (also x h))) (λ (h : p x ≡ false). h) (cases_Bool (p x)) in
    ap (λ b. filter p (cond b (x ∷ filter q xs) (filter q xs))) fails ∙ rest ∙ sym (ap (λ b. cond b (x ∷ filter p xs) (filter p xs)) p_fails))
    (cases_Bool (q x))

-- a second test that each fails who passes the first leaves nothing
filter-filter_none : {A : Type 0} (p q : A → Bool) → ((x : A) → q x ≡ true → p x ≡ false) → (xs : List A) → filter p (filter q xs) ≡ []
filter-filter_none p q never [] = refl
filter-filter_none p q never (x ∷ xs) =
    let rest = filter-filter_none p q never xs in
    ⊎_elim
    (λ (passes : q x ≡ true).
    ap (λ b. filter p (cond b (x ∷ filter q xs) (filter q xs))) passes
    ∙ ap (λ b. cond b (x ∷ filter p (filter q xs)) (filter p (filter q xs))) (never x passes) ∙ rest)
    (λ (fails : q x ≡ false). ap (λ b. filter p (cond b (x ∷ filter q xs) (filter q xs))) fails ∙ rest)
    (cases_Bool (q x))

pub then_take-each : {V : Type 0} (e : Result V ℕ) (f g : V → Result V ℕ) → ((v : V) → f v ≡ g v) → then_take e f ≡ then_take e g
then_take-each (Ok v) f g same = same v
then_take-each (Err s) f g same = refl

pub then_take-ok : {V : Type 0} (e : Result V ℕ) → then_take e Ok ≡ e
then_take-ok (Ok v) = refl
then_take-ok (Err s) = refl

pub then_take-then : {V : Type 0} (e : Result V ℕ) (f g : V → Result V ℕ) → then_take (then_take e f) g ≡ then_take e (λ v. then_take (f v) g)
then_take-then (Ok v) f g = refl
then_take-then (Err s) f g = refl

module _ {C V : Type 0} (rank : C → ℕ) (close : V → List C → Option V) where
  of_rank-before : (n s : ℕ) (cs : List C) → n < s → of_rank rank n (before rank s cs) ≡ of_rank rank n cs
  of_rank-before n s cs h = filter-filter (λ c. nat_eq (rank c) n) (λ c. nat_lt (rank c) s) (λ c e. let is = eqb-true (rank c) n e in lt-ltb (rank c) s (omega arith)) cs

  of_rank-before_none : (n s : ℕ) (cs : List C) → s ≤ n → of_rank rank n (before rank s cs) ≡ []
  of_rank-before_none n s cs h = filter-filter_none (λ c. nat_eq (rank c) n) (λ c. nat_lt (rank c) s) (λ c e. let less = ltb-true (rank c) s e in ne_eqb (rank c) n (λ is. omega arith)) cs

  of_rank-from_on : (n s : ℕ) (cs : List C) → s ≤ n → of_rank rank n (from_on rank s cs) ≡ of_rank rank n cs
  of_rank-from_on n s cs h = filter-filter (λ c. nat_eq (rank c) n) (λ c. nat_le s (rank c)) (λ c e. let is = eqb-true (rank c) n e in le-leb s (rank c) (omega arith)) cs

  of_rank-from_on_none : (n s : ℕ) (cs : List C) → n < s → of_rank rank n (from_on rank s cs) ≡ []
  of_rank-from_on_none n s cs h = filter-filter_none (λ c. nat_eq (rank c) n) (λ c. nat_le s (rank c)) (λ c e. let above = leb-true s (rank c) e in ne_eqb (rank c) n (λ is. omega arith)) cs

  -- no contribution is of a rank at or above the bound
  of_rank-above : (cs : List C) (bound n : ℕ) → AreBelow rank bound cs → bound ≤ n → of_rank rank n cs ≡ []
  of_rank-above [] bound n below h = refl
  of_rank-above (c ∷ cs) bound n below h =
      let less = below.0 in
      let other : nat_eq (rank c) n ≡ false = ne_eqb (rank c) n (λ e. omega arith) in
      ap (λ b. cond b (c ∷ of_rank rank n cs) (of_rank rank n cs)) other ∙ of_rank-above cs bound n below.1 h

  taken_bag-same : TakesBags close → (n : ℕ) (held : V) {some other : List C} → SameBag some other → taken_bag close n held some ≡ taken_bag close n held other
  taken_bag-same bags n held same_nil = refl
  taken_bag-same bags n held (same_cons c s) = ap (at_rank n) (bags held _ _ (same_cons c s))
  taken_bag-same bags n held (same_swap c d cs) = ap (at_rank n) (bags held _ _ (same_swap c d cs))
  taken_bag-same bags n held (same_trans s t) = taken_bag-same bags n held s ∙ taken_bag-same bags n held t

  pub taken-same : TakesBags close → (n : ℕ) (held : V) (some other : List C) → ((s : ℕ) → SameBag (of_rank rank s some) (of_rank rank s other)) → taken rank close n held some ≡ taken rank close n held other
  taken-same bags zero held some other same = refl
  taken-same bags (suc n) held some other same =
      ap (λ e. then_take e (λ v. taken_bag close n v (of_rank rank n some))) (taken-same bags n held some other same)
      ∙ then_take-each (taken rank close n held other) _ _ (λ v. taken_bag-same bags n v (same n))

  pub taken-bags : TakesBags close → (n : ℕ) (held : V) (some other : List C) → SameBag some other → taken rank close n held some ≡ taken rank close n held other
  taken-bags bags n held some other same = taken-same bags n held some other (λ s. SameBag-filter (λ c. nat_eq (rank c) s) same)

  -- a rank without contributions changes nothing
  taken-skip : (n : ℕ) (held : V) (cs : List C) → of_rank rank n cs ≡ [] → taken rank close (suc n) held cs ≡ taken rank close n held cs
  taken-skip n held cs none = ap (λ b. then_take (taken rank close n held cs) (λ v. taken_bag close n v b)) none ∙ then_take-ok (taken rank close n held cs)

  pub taken-nothing : (n : ℕ) (held : V) → taken rank close n held [] ≡ Ok held
  taken-nothing zero held = refl
  taken-nothing (suc n) held = taken-skip n held [] refl ∙ taken-nothing n held

  -- any number above all ranks serves as the bound
  pub taken-bound : (low high : ℕ) (held : V) (cs : List C) → low ≤ high → AreBelow rank low cs → taken rank close high held cs ≡ taken rank close low held cs
  taken-bound low zero held cs h below = let e : 0 ≡ low = omega arith in ap (λ k. taken rank close k held cs) e
  taken-bound low (suc n) held cs h below =
      ⊎_elim
      (λ (less : n < low). let e : suc n ≡ low = omega arith in ap (λ k. taken rank close k held cs) e)
      (λ (above : low ≤ n). taken-skip n held cs (of_rank-above cs low n below above) ∙ taken-bound low n held cs above below)
      (cases_lt n low)

  -- below the rank where they part, the first part is the whole
  taken-before : (n s : ℕ) (held : V) (cs : List C) → n ≤ s → taken rank close n held (before rank s cs) ≡ taken rank close n held cs
  taken-before zero s held cs h = refl
  taken-before (suc n) s held cs h =
      let less : n < s = omega arith in
      let rest : n ≤ s = omega arith in
      ap (λ b. then_take (taken rank close n held (before rank s cs)) (λ v. taken_bag close n v b)) (of_rank-before n s cs less)
      ∙ ap (λ e. then_take e (λ v. taken_bag close n v (of_rank rank n cs))) (taken-before n s held cs rest)

  -- above it, the first part changes no more
  taken-before_all : (n s : ℕ) (held : V) (cs : List C) → s ≤ n → taken rank close n held (before rank s cs) ≡ taken rank close s held cs
  taken-before_all n zero held cs h = before_none n h where
    before_none : (n : ℕ) → 0 ≤ n → taken rank close n held (before rank 0 cs) ≡ Ok held
    before_none zero k = refl
    before_none (suc n) k = let l : 0 ≤ n = omega arith in taken-skip n held (before rank 0 cs) (of_rank-before_none n 0 cs l) ∙ before_none n l
  taken-before_all zero (suc s) held cs h = absurd (omega arith)
  taken-before_all (suc n) (suc s) held cs h =
      ⊎_elim
      (λ (less : n < suc s). let e : n ≡ s = omega arith in let last : suc n ≤ suc s = omega arith in taken-before (suc n) (suc s) held cs last ∙ ap (λ k. taken rank close (suc k) held cs) e)
      (λ (above : suc s ≤ n). taken-skip n held (before rank (suc s) cs) (of_rank-before_none n (suc s) cs above) ∙ taken-before_all n (suc s) held cs above)
      (cases_lt n (suc s))

  -- and the second part is nothing below it
  taken-from_on : (n s : ℕ) (held : V) (cs : List C) → n ≤ s → taken rank close n held (from_on rank s cs) ≡ Ok held
  taken-from_on zero s held cs h = refl
  taken-from_on (suc n) s held cs h =
      let less : n < s = omega arith in
      let rest : n ≤ s = omega arith in
      taken-skip n held (from_on rank s cs) (of_rank-from_on_none n s cs less) ∙ taken-from_on n s held cs rest

  pub taken-parts : (n s : ℕ) (held : V) (cs : List C) → taken rank close n held cs ≡ then_take (taken rank close n held (before rank s cs)) (λ v. taken rank close n v (from_on rank s cs))
  taken-parts zero s held cs = refl
  taken-parts (suc n) s held cs =
      ⊎_elim
      (λ (less : n < s).
      let within : suc n ≤ s = omega arith in
      sym (then_take-each (taken rank close (suc n) held (before rank s cs)) _ Ok (λ v. taken-from_on (suc n) s v cs within)
      ∙ then_take-ok (taken rank close (suc n) held (before rank s cs)) ∙ taken-before (suc n) s held cs within))
      (λ (above : s ≤ n).
      ap (λ e. then_take e (λ v. taken_bag close n v (of_rank rank n cs))) (taken-parts n s held cs)
      ∙ then_take-then (taken rank close n held (before rank s cs)) (λ v. taken rank close n v (from_on rank s cs)) (λ v. taken_bag close n v (of_rank rank n cs))
      ∙ ap (λ b. then_take (taken rank close n held (before rank s cs)) (λ v. then_take (taken rank close n v (from_on rank s cs)) (λ u. taken_bag close n u b))) (sym (of_rank-from_on n s cs above))
      ∙ ap (λ e. then_take e (λ v. taken rank close (suc n) v (from_on rank s cs))) (sym (taken-skip n held (before rank s cs) (of_rank-before_none n s cs above))))
      (cases_lt n s)

  pub taken-cut : (n s : ℕ) (held : V) (cs : List C) → s ≤ n → taken rank close n held cs ≡ then_take (taken rank close s held cs) (λ v. taken rank close n v (from_on rank s cs))
  taken-cut n s held cs h = taken-parts n s held cs ∙ ap (λ e. then_take e (λ v. taken rank close n v (from_on rank s cs))) (taken-before_all n s held cs h)
