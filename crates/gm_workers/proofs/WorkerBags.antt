-- What workers have, taken together.
use Rattle.std.proofs.Common.{◌≡◌, ◌<◌, ◌≤◌, ◌+◌, ℕ, zero, suc, Bool, true, false, cond, nat_eq, List, [], ◌∷◌, ◌++◌, length, map, refl, sym, ap, ◌∙◌, subst, arith}
use Rattle.std.specs.Prelude.{filter, slice_index_or}
use Rattle.std.specs.List.{flat_map, range_with_len}
use Rattle.std.proofs.lemmas.Bool.{eq-eqb, ne_eqb}
use Rattle.gm_value.specs.Bag.{SameBag, same_nil, same_cons, same_trans}
use Rattle.gm_value.proofs.BagLaws.{SameBag-append_right}
use Rattle.gm_machine.proofs.BagLemmas.{same_as, SameBag-both, flat_map-push, flat-gains, flat-loses, flat-none}
use Rattle.gm_core.specs.Cores.{owner, below}
use Rattle.gm_core.specs.Supersteps.{own}
use Rattle.gm_workers.proofs.DealingLemmas.{below-more, own-same, own-other}

-- lists that are equal, or equal as bags, number by number
pub flat-equal : {A : Type 0} (f g : ℕ → List A) (a k : ℕ) → ((n : ℕ) → a ≤ n → n < a + k → f n ≡ g n) → flat_map f (range_with_len a k) ≡ flat_map g (range_with_len a k)
flat-equal f g a zero each = refl
flat-equal f g a (suc k) each =
    ap (λ l. l ++ flat_map f (range_with_len (a + 1) k)) (each a (omega arith) (omega arith))
    ∙ ap (λ l. g a ++ l) (flat-equal f g (a + 1) k (λ n low high. each n (omega arith) (omega arith)))

pub flat-bags : {A : Type 0} (f g : ℕ → List A) (a k : ℕ) → ((n : ℕ) → a ≤ n → n < a + k → SameBag (f n) (g n)) → SameBag (flat_map f (range_with_len a k)) (flat_map g (range_with_len a k))
flat-bags f g a zero each = same_nil
flat-bags f g a (suc k) each = SameBag-both (each a (omega arith) (omega arith)) (flat-bags f g (a + 1) k (λ n low high. each n (omega arith) (omega arith)))

-- a list of lists by its places
pub flat-places : {A B : Type 0} (g : A → List B) (xs : List A) (f : ℕ → List B) → ((k : ℕ) (d : A) → k < length xs → g (slice_index_or xs k d) ≡ f k) → flat_map g xs ≡ flat_map f (below (length xs))
flat-places {A} {B} g xs f each = at xs 0 (λ k d low. each k d low ∙ ap f (let e : k ≡ 0 + k = omega arith in e)) where
  at : (ys : List A) (a : ℕ) → ((k : ℕ) (d : A) → k < length ys → g (slice_index_or ys k d) ≡ f (a + k)) → flat_map g ys ≡ flat_map f (range_with_len a (length ys))
  at [] a each' = refl
  at (y ∷ ys) a each' =
      ap (λ l. l ++ flat_map g ys) (each' 0 y (omega arith) ∙ ap f (let e : a + 0 ≡ a = omega arith in e))
      ∙ ap (λ l. f a ++ l) (at ys (a + 1) (λ k d low. each' (suc k) d (omega arith) ∙ ap f (let e : a + suc k ≡ (a + 1) + k = omega arith in e)))

module _ (owners : List ℕ) (workers : ℕ) (few : (n : ℕ) → owner owners n < workers) where
  -- what all nodes have is what the nodes of all workers have
  pub dealt-bag : {A : Type 0} (f : ℕ → List A) (a : ℕ) → SameBag (flat_map f (below a)) (flat_map (λ w. flat_map f (own owners w a)) (below workers))
  dealt-bag f zero = same_as (sym (flat-none (λ w. flat_map f (own owners w 0)) 0 workers (λ w low high. refl)))
  dealt-bag {A} f (suc m) =
      let e : suc m ≡ m + 1 = omega arith in
      let u : ℕ → List A = λ w. flat_map f (own owners w m) in
      let u' : ℕ → List A = λ w. flat_map f (own owners w (m + 1)) in
      let w : ℕ = owner owners m in
      subst (λ n. SameBag (flat_map f (below n)) (flat_map (λ w. flat_map f (own owners w n)) (below workers))) (sym e)
      (same_trans
      (same_as (ap (flat_map f) (below-more m) ∙ flat_map-push f (below m) m))
      (same_trans
      (SameBag-append_right (f m) (dealt-bag f m))
      (flat-gains u u' w (λ v other. ap (flat_map f) (own-other owners v m (λ same. other (sym same)))) (f m) 0 workers
      (ap (flat_map f) (own-same owners w m refl) ∙ flat_map-push f (own owners w m) m) (omega arith) (omega (arith, few m)))))

  -- messages are those to the nodes of all workers
  pub dealt-messages : {A : Type 0} (to : A → ℕ) (ms : List A) → SameBag ms (flat_map (λ w. filter (λ m. nat_eq (owner owners (to m)) w) ms) (below workers))
  dealt-messages to [] = same_as (sym (flat-none (λ w. []) 0 workers (λ w low high. refl)))
  dealt-messages {A} to (m ∷ ms) =
      let u : ℕ → List A = λ w. filter (λ x. nat_eq (owner owners (to x)) w) (m ∷ ms) in
      let u' : ℕ → List A = λ w. filter (λ x. nat_eq (owner owners (to x)) w) ms in
      let w : ℕ = owner owners (to m) in
      same_trans
      (same_cons m (dealt-messages to ms))
      (flat-loses u u' w
      (λ v other. sym (ap (λ b. cond b (m ∷ u' v) (u' v)) (ne_eqb w v (λ same. other (sym same)))))
      (m ∷ []) 0 workers
      (sym (ap (λ b. cond b (m ∷ u' w) (u' w)) (eq-eqb w w refl)))
      (omega arith) (omega (arith, few (to m))))

-- messages by other numbers
pub box-moved : {A : Type 0} (to : A → ℕ) (move : A → A) (k n : ℕ) → ((m : A) → nat_eq (to (move m)) k ≡ nat_eq (to m) n) → (ms : List A) →
    filter (λ m. nat_eq (to m) k) (map move ms) ≡ map move (filter (λ m. nat_eq (to m) n) ms)
box-moved to move k n each [] = refl
box-moved {A} to move k n each (m ∷ ms) =
    ap (λ b. cond b (move m ∷ filter (λ x. nat_eq (to x) k) (map move ms)) (filter (λ x. nat_eq (to x) k) (map move ms))) (each m)
    ∙ one (nat_eq (to m) n) (filter (λ x. nat_eq (to x) k) (map move ms)) (filter (λ x. nat_eq (to x) n) ms) (box-moved to move k n each ms)
  where
    one : (b : Bool) (xs ys : List A) → xs ≡ map move ys → cond b (move m ∷ xs) xs ≡ map move (cond b (m ∷ ys) ys)
    one true xs ys e = ap (λ l. move m ∷ l) e
    one false xs ys e = e
