-- Nodes that are dealt out among workers.
use Rattle.std.proofs.Common.{◌≡◌, ◌≢◌, ◌<◌, ◌≤◌, ◌+◌, ℕ, zero, suc, cond, nat_eq, List, [], ◌∷◌, ◌++◌, length, map, replicate, refl, sym, ap, ◌∙◌, subst, arith, ⊎_elim}
use Rattle.std.specs.Prelude.{filter, slice_index, slice_index_or, slice_set}
use Rattle.std.specs.List.{range_with_len}
use Rattle.std.proofs.lemmas.Bool.{cases_eq, cases_lt, eq-eqb, ne_eqb}
use Rattle.std.proofs.lemmas.List.{append-nil, map-append, get_or-set_same, get_or-set_other, length-set, length_push, get_or_append_left, get_or_push, get_or-map, get_or_past, length-map, get_or-replicate, length-replicate}
use Rattle.std.proofs.lemmas.List.Elements.{filter-append}
use Rattle.gm_machine.specs.Vertex.{Message}
use Rattle.gm_core.specs.Cores.{owner, below}
use Rattle.gm_core.specs.Supersteps.{own}
use Rattle.gm_message_columns.specs.MessageTables.{directed}
use Rattle.gm_workers.specs.declared.dealing.Dealing.{Dealing}
use Rattle.gm_workers.specs.Dealings.{place_in, place_for, placed}

-- one more number
range-more : (a n : ℕ) → range_with_len a (suc n) ≡ range_with_len a n ++ (a + n) ∷ []
range-more a zero = ap (λ k. k ∷ []) (let e : a ≡ a + 0 = omega arith in e)
range-more a (suc n) =
    ap (λ l. a ∷ l) (range-more (a + 1) n)
    ∙ ap (λ k. a ∷ (range_with_len (a + 1) n ++ k ∷ [])) (let e : (a + 1) + n ≡ a + suc n = omega arith in e)

pub below-more : (n : ℕ) → below (n + 1) ≡ below n ++ n ∷ []
below-more n =
    ap (range_with_len 0) (let e : n + 1 ≡ suc n = omega arith in e)
    ∙ range-more 0 n
    ∙ ap (λ k. range_with_len 0 n ++ k ∷ []) (let e : 0 + n ≡ n = omega arith in e)

pub length-below : (n : ℕ) → length (below n) ≡ n
length-below n = length-range 0 n where
  length-range : (a n : ℕ) → length (range_with_len a n) ≡ n
  length-range a zero = refl
  length-range a (suc n) = ap suc (length-range (a + 1) n)

-- the number at a place below a bound
pub below-at : (n k d : ℕ) → k < n → slice_index_or (below n) k d ≡ k
below-at n k d low = at 0 n k low ∙ (let e : 0 + k ≡ k = omega arith in e) where
  at : (a m j : ℕ) → j < m → slice_index_or (range_with_len a m) j d ≡ a + j
  at a zero j low = absurd (omega arith)
  at a (suc m) zero low = let e : a ≡ a + 0 = omega arith in e
  at a (suc m) (suc j) low = at (a + 1) m j (omega arith) ∙ (let e : (a + 1) + j ≡ a + suc j = omega arith in e)

module _ (owners : List ℕ) where
  -- one more node of a worker
  pub own-same : (w a : ℕ) → owner owners a ≡ w → own owners w (a + 1) ≡ own owners w a ++ a ∷ []
  own-same w a is =
      ap (filter (λ n. nat_eq (owner owners n) w)) (below-more a)
      ∙ filter-append (λ n. nat_eq (owner owners n) w) (below a) (a ∷ [])
      ∙ ap (λ b. own owners w a ++ cond b (a ∷ []) []) (eq-eqb (owner owners a) w is)

  -- a node of another worker
  pub own-other : (w a : ℕ) → owner owners a ≢ w → own owners w (a + 1) ≡ own owners w a
  own-other w a other =
      ap (filter (λ n. nat_eq (owner owners n) w)) (below-more a)
      ∙ filter-append (λ n. nat_eq (owner owners n) w) (below a) (a ∷ [])
      ∙ ap (λ b. own owners w a ++ cond b (a ∷ []) []) (ne_eqb (owner owners a) w other)
      ∙ append-nil (own owners w a)

  -- the nodes below a number have their places, and each worker has so many of them
  pub record PlacedTo (workers k : ℕ) (places counts : List ℕ) : Type 0 where
    pub places_are : places ≡ map (place_in owners) (below k)
    pub long : length counts ≡ workers
    pub counts_are : (w : ℕ) → w < workers → slice_index counts w ≡ length (own owners w k)

  pub placed-none : (workers : ℕ) → PlacedTo workers 0 [] (replicate workers 0)
  placed-none workers = record { places_are = refl; long = length-replicate workers 0; counts_are = λ w low. get_or-replicate workers w 0 0 low }

  pub placed-more : (workers k : ℕ) (places counts places' : List ℕ) (o x : ℕ) → o ≡ owner owners k → o < workers → x ≡ slice_index counts o → places' ≡ places ++ x ∷ [] →
      PlacedTo workers k places counts → PlacedTo workers (k + 1) places' (slice_set counts o (slice_index counts o + 1))
  placed-more workers k places counts places' o x is few x_is grown so_far = record {
    places_are =
        grown
        ∙ ap (λ l. l ++ x ∷ []) so_far.places_are
        ∙ ap (λ v. map (place_in owners) (below k) ++ v ∷ []) (x_is ∙ so_far.counts_are o few ∙ ap (λ w. length (own owners w k)) is)
        ∙ sym (ap (map (place_in owners)) (below-more k) ∙ map-append (place_in owners) (below k) (k ∷ []));
    long = length-set counts o (slice_index counts o + 1) ∙ so_far.long;
    counts_are = λ w low.
        ⊎_elim
        (λ (here : w ≡ o).
        ap (λ v. slice_index (slice_set counts o (slice_index counts o + 1)) v) here
        ∙ get_or-set_same counts o (slice_index counts o + 1) 0 (omega (arith, few, so_far.long))
        ∙ ap (λ n. n + 1) (so_far.counts_are o few)
        ∙ sym (ap (λ v. length (own owners v (k + 1))) here ∙ ap length (own-same o k (sym is)) ∙ length_push (own owners o k) k))
        (λ (other : w ≡ o → ⊥).
        get_or-set_other counts o w (slice_index counts o + 1) 0 other
        ∙ so_far.counts_are w low
        ∙ ap length (sym (own-other w k (λ e. other (sym (is ∙ e))))))
        (cases_eq w o);
  }

  -- the node at a place among a worker's nodes
  pub record IsAt (w a k n : ℕ) : Type 0 where
    pub low : n < a
    pub owned : owner owners n ≡ w
    pub place : length (own owners w n) ≡ k

  pub own-at : (w a k : ℕ) → k < length (own owners w a) → IsAt w a k (slice_index (own owners w a) k)
  own-at w zero k low = absurd (omega arith)
  own-at w (suc a) k low =
      let e : suc a ≡ a + 1 = omega arith in
      subst (λ m. IsAt w m k (slice_index (own owners w m) k)) (sym e)
      (⊎_elim
      (λ (is : owner owners a ≡ w).
      let l : own owners w (a + 1) ≡ own owners w a ++ a ∷ [] = own-same w a is in
      let long : length (own owners w (suc a)) ≡ length (own owners w a) + 1 = ap (λ m. length (own owners w m)) e ∙ ap length l ∙ length_push (own owners w a) a in
      subst (λ xs. IsAt w (a + 1) k (slice_index xs k)) (sym l)
      (⊎_elim
      (λ (before : k < length (own owners w a)).
      let at = own-at w a k before in
      subst (IsAt w (a + 1) k) (sym (get_or_append_left (own owners w a) (a ∷ []) 0 k before))
      (let r : IsAt w (a + 1) k (slice_index (own owners w a) k) = record { low = omega (arith, at.low); owned = at.owned; place = at.place } in r))
      (λ (last : length (own owners w a) ≤ k).
      let here : length (own owners w a) ≡ k = omega (arith, low, long) in
      subst (IsAt w (a + 1) k) (sym (get_or_push (own owners w a) a 0 k here))
      (let r : IsAt w (a + 1) k a = record { low = omega arith; owned = is; place = here } in r))
      (cases_lt k (length (own owners w a)))))
      (λ (other : owner owners a ≡ w → ⊥).
      let l : own owners w (a + 1) ≡ own owners w a = own-other w a other in
      let at = own-at w a k (subst (λ xs. k < length xs) (ap (own owners w) e ∙ l) low) in
      subst (λ xs. IsAt w (a + 1) k (slice_index xs k)) (sym l)
      (let r : IsAt w (a + 1) k (slice_index (own owners w a) k) = record { low = omega (arith, at.low); owned = at.owned; place = at.place } in r))
      (cases_eq (owner owners a) w))

  -- the place of a worker's node
  pub record HasPlace (w a n : ℕ) : Type 0 where
    pub within : length (own owners w n) < length (own owners w a)
    pub there : slice_index (own owners w a) (length (own owners w n)) ≡ n

  pub own-place : (w a n : ℕ) → n < a → owner owners n ≡ w → HasPlace w a n
  own-place w zero n low is = absurd (omega arith)
  own-place w (suc a) n low is =
      let e : suc a ≡ a + 1 = omega arith in
      subst (λ m. HasPlace w m n) (sym e)
      (⊎_elim
      (λ (here : n ≡ a).
      let l : own owners w (a + 1) ≡ own owners w a ++ a ∷ [] = own-same w a (ap (owner owners) (sym here) ∙ is) in
      let long : length (own owners w (a + 1)) ≡ length (own owners w a) + 1 = ap length l ∙ length_push (own owners w a) a in
      let same : length (own owners w n) ≡ length (own owners w a) = ap (λ m. length (own owners w m)) here in
      record {
        within = omega arith;
        there = ap (λ xs. slice_index xs (length (own owners w n))) l ∙ get_or_push (own owners w a) a 0 (length (own owners w n)) (sym same) ∙ sym here;
      })
      (λ (before : n ≡ a → ⊥).
      let rest = own-place w a n (omega arith) is in
      let within = rest.within in
      ⊎_elim
      (λ (mine : owner owners a ≡ w).
      let l : own owners w (a + 1) ≡ own owners w a ++ a ∷ [] = own-same w a mine in
      let long : length (own owners w (a + 1)) ≡ length (own owners w a) + 1 = ap length l ∙ length_push (own owners w a) a in
      let r : HasPlace w (a + 1) n = record {
        within = omega arith;
        there = ap (λ xs. slice_index xs (length (own owners w n))) l ∙ get_or_append_left (own owners w a) (a ∷ []) 0 (length (own owners w n)) within ∙ rest.there;
      } in r)
      (λ (other : owner owners a ≡ w → ⊥).
      let l : own owners w (a + 1) ≡ own owners w a = own-other w a other in
      let r : HasPlace w (a + 1) n = record {
        within = subst (λ xs. length (own owners w n) < length xs) (sym l) within;
        there = ap (λ xs. slice_index xs (length (own owners w n))) l ∙ rest.there;
      } in r)
      (cases_eq (owner owners a) w))
      (cases_eq n a))

  -- a worker has no more nodes than there are
  pub own-few : (w a : ℕ) → length (own owners w a) ≤ a
  own-few w zero = omega arith
  own-few w (suc a) =
      let e : suc a ≡ a + 1 = omega arith in
      let rest = own-few w a in
      subst (λ m. length (own owners w m) ≤ m) (sym e)
      (⊎_elim
      (λ (mine : owner owners a ≡ w). let l = ap length (own-same w a mine) ∙ length_push (own owners w a) a in omega arith)
      (λ (other : owner owners a ≡ w → ⊥). let l = ap length (own-other w a other) in omega arith)
      (cases_eq (owner owners a) w))

  -- a node stands at a place among a worker's nodes just where its number is that of the node there
  pub place-test : (places : List ℕ) (nodes none w k t : ℕ) → places ≡ map (place_in owners) (below nodes) → nodes ≤ none → k < length (own owners w nodes) →
      nat_eq (cond (nat_eq (owner owners t) w) (slice_index_or places t none) none) k ≡ nat_eq t (slice_index (own owners w nodes) k)
  place-test places nodes none w k t are fits low =
      let n : ℕ = slice_index (own owners w nodes) k in
      let at = own-at w nodes k low in
      let few = own-few w nodes in
      let never : t ≢ n → none ≢ k → nat_eq none k ≡ nat_eq t n = λ apart differs. ne_eqb none k differs ∙ sym (ne_eqb t n apart) in
      ⊎_elim
      (λ (mine : owner owners t ≡ w).
      ap (λ b. nat_eq (cond b (slice_index_or places t none) none) k) (eq-eqb (owner owners t) w mine)
      ∙ ⊎_elim
      (λ (within : t < nodes).
      let place : slice_index_or places t none ≡ length (own owners w t) =
      ap (λ l. slice_index_or l t none) are
      ∙ get_or-map (place_in owners) (below nodes) t 0 none (omega (arith, length-below nodes, within))
      ∙ ap (place_in owners) (below-at nodes t 0 within)
      ∙ ap (λ v. length (own owners v t)) mine in
      let has = own-place w nodes t within mine in
      ap (λ v. nat_eq v k) place
      ∙ ⊎_elim
      (λ (same : t ≡ n).
      eq-eqb (length (own owners w t)) k (ap (λ v. length (own owners w v)) same ∙ at.place) ∙ sym (eq-eqb t n same))
      (λ (apart : t ≡ n → ⊥).
      ne_eqb (length (own owners w t)) k (λ e. apart (sym has.there ∙ ap (slice_index (own owners w nodes)) e)) ∙ sym (ne_eqb t n apart))
      (cases_eq t n))
      (λ (past : nodes ≤ t).
      let long : length places ≡ nodes = ap length are ∙ length-map (below nodes) (place_in owners) ∙ length-below nodes in
      ap (λ v. nat_eq v k) (get_or_past places t none (omega (arith, long, past)))
      ∙ never (λ e. let l = at.low in omega arith) (λ e. omega arith))
      (cases_lt t nodes))
      (λ (other : owner owners t ≡ w → ⊥).
      ap (λ b. nat_eq (cond b (slice_index_or places t none) none) k) (ne_eqb (owner owners t) w other)
      ∙ never (λ e. other (ap (owner owners) e ∙ at.owned)) (λ e. omega arith))
      (cases_eq (owner owners t) w)

-- messages to the places of their nodes
pub directed-placed : (d : Dealing) (w : ℕ) (ms : List Message) → directed (map (λ m. place_for d w m.to) ms) ms ≡ map (placed d w) ms
directed-placed d w [] = refl
directed-placed d w (m ∷ ms) = ap (λ l. placed d w m ∷ l) (directed-placed d w ms)
