-- What all edges give, gathered from their starts or from their ends, is one bag.
use Rattle.std.proofs.Common.{◌≡◌, ◌≢◌, ◌<◌, ◌≤◌, ◌+◌, arith, ℕ, zero, suc, Bool, true, false, cond, List, [], ◌∷◌, ◌++◌, map, filter, length, refl, sym, ap, subst, ◌∙◌, ⊎_elim, inl, inr}
use Rattle.std.specs.Prelude.{nat_eq, All}
use Rattle.std.specs.List.{enumerate_from}
use Rattle.std.proofs.lemmas.Bool.{eqb-true, eqb-false, ne_eqb}
use Rattle.gm_value.specs.Bag.{IsIn, SameBag, same_nil, same_cons, same_trans}
use Rattle.gm_value.proofs.BagLaws.{SameBag-refl, SameBag-sym, SameBag-append_left, SameBag-middle}
use Rattle.gm_model.specs.Graphs.{NumberedGraph, Edge, Step, IsWithin, IsGraph, node_count, out_steps, in_steps}
use Rattle.gm_semantics.specs.Faults.{joined}
use Rattle.gm_semantics.specs.Levels.{numbers_from, nodes}
use Rattle.gm_forms.proofs.Steps.{all-within}
use Rattle.gm_loop_laws.proofs.Joins.{map-compose, map-each}

each-all : {A B : Type 0} (F G : A → B) (xs : List A) → ((x : A) → F x ≡ G x) → map F xs ≡ map G xs
each-all F G xs h = map-each F G xs (λ x i. h x)

-- one more member in the group of a number
untouched : {B : Type 0} (x : B) (F : ℕ → List B) (i j m : ℕ) → i < j → joined (map (λ k. cond (nat_eq i k) (x ∷ F k) (F k)) (numbers_from j m)) ≡ joined (map F (numbers_from j m))
untouched x F i j zero h = refl
untouched x F i j (suc m) h =
    let less : i < suc j = omega arith in
    ap (λ b. cond b (x ∷ F j) (F j) ++ joined (map (λ k. cond (nat_eq i k) (x ∷ F k) (F k)) (numbers_from (suc j) m))) (ne_eqb i j (λ e. omega arith))
    ∙ ap (λ ys. F j ++ ys) (untouched x F i (suc j) m less)

one_more : {B : Type 0} (x : B) (F : ℕ → List B) (i j m : ℕ) → j ≤ i → i < j + m →
    SameBag (joined (map (λ k. cond (nat_eq i k) (x ∷ F k) (F k)) (numbers_from j m))) (x ∷ joined (map F (numbers_from j m)))
one_more x F i j zero h k = absurd (omega arith)
one_more x F i j (suc m) h k =
    by_test (nat_eq i j) refl (λ off. let below : suc j ≤ i = omega arith in let within : i < suc j + m = omega arith in one_more x F i (suc j) m below within) where
      by_test : (b : Bool) → nat_eq i j ≡ b →
          ((i ≢ j) → SameBag (joined (map (λ k. cond (nat_eq i k) (x ∷ F k) (F k)) (numbers_from (suc j) m))) (x ∷ joined (map F (numbers_from (suc j) m)))) →
          SameBag (cond (nat_eq i j) (x ∷ F j) (F j) ++ joined (map (λ k. cond (nat_eq i k) (x ∷ F k) (F k)) (numbers_from (suc j) m))) (x ∷ (F j ++ joined (map F (numbers_from (suc j) m))))
      by_test true e go =
          let is = eqb-true i j e in
          let less : i < suc j = omega arith in
          subst (λ ys. SameBag ys (x ∷ (F j ++ joined (map F (numbers_from (suc j) m)))))
          (sym (ap (λ b. cond b (x ∷ F j) (F j) ++ joined (map (λ k. cond (nat_eq i k) (x ∷ F k) (F k)) (numbers_from (suc j) m))) e ∙ ap (λ ys. x ∷ (F j ++ ys)) (untouched x F i (suc j) m less)))
          (SameBag-refl _)
      by_test false e go =
          subst (λ ys. SameBag ys (x ∷ (F j ++ joined (map F (numbers_from (suc j) m)))))
          (sym (ap (λ b. cond b (x ∷ F j) (F j) ++ joined (map (λ k. cond (nat_eq i k) (x ∷ F k) (F k)) (numbers_from (suc j) m))) e))
          (same_trans (SameBag-append_left (F j) (go (eqb-false i j e))) (SameBag-middle (F j) x (joined (map F (numbers_from (suc j) m)))))

abbrev group : {A B : Type 0} → (A → ℕ) → (A → B) → List A → ℕ → List B
group key h es k = map h (filter (λ e. nat_eq (key e) k) es)

group-cons : {A B : Type 0} (key : A → ℕ) (h : A → B) (e : A) (es : List A) (k : ℕ) → group key h (e ∷ es) k ≡ cond (nat_eq (key e) k) (h e ∷ group key h es k) (group key h es k)
group-cons key h e es k = by_test (nat_eq (key e) k) where
  by_test : (b : Bool) → map h (cond b (e ∷ filter (λ e. nat_eq (key e) k) es) (filter (λ e. nat_eq (key e) k) es)) ≡ cond b (h e ∷ group key h es k) (group key h es k)
  by_test true = refl
  by_test false = refl

nothing-joined : {B : Type 0} (ks : List ℕ) → joined (map (λ (k : ℕ). let l : List B = [] in l) ks) ≡ []
nothing-joined [] = refl
nothing-joined (k ∷ ks) = nothing-joined ks

-- all groups of a list together are the list
grouped : {A B : Type 0} (key : A → ℕ) (h : A → B) (m : ℕ) (es : List A) → ((e : A) → IsIn e es → key e < m) →
    SameBag (joined (map (group key h es) (numbers_from 0 m))) (map h es)
grouped {A} {B} key h m [] le = subst (λ (ys : List B). SameBag ys []) (sym (nothing-joined {B = B} (numbers_from 0 m))) same_nil
grouped key h m (e ∷ es) le =
    let first = le e (inl refl) in
    subst (λ ys. SameBag ys (h e ∷ map h es)) (sym (ap joined (each-all (group key h (e ∷ es)) _ (numbers_from 0 m) (group-cons key h e es))))
    (same_trans (one_more (h e) (group key h es) (key e) 0 m (omega arith) (omega arith)) (same_cons (h e) (grouped key h m es (λ x i. le x (inr i)))))

-- what is mapped knows that its group's number is its own
group-known : {A B : Type 0} (key : A → ℕ) (f : ℕ → A → B) (es : List A) (k : ℕ) → map (f k) (filter (λ e. nat_eq (key e) k) es) ≡ group key (λ e. f (key e) e) es k
group-known key f [] k = refl
group-known {A} {B} key f (e ∷ es) k = by_test (nat_eq (key e) k) refl (group-known key f es k) where
  by_test : (b : Bool) → nat_eq (key e) k ≡ b → map (f k) (filter (λ e. nat_eq (key e) k) es) ≡ group key (λ e. f (key e) e) es k →
      map (f k) (cond b (e ∷ filter (λ e. nat_eq (key e) k) es) (filter (λ e. nat_eq (key e) k) es)) ≡ map (λ e. f (key e) e) (cond b (e ∷ filter (λ e. nat_eq (key e) k) es) (filter (λ e. nat_eq (key e) k) es))
  by_test true i h = ap (λ n. f n e ∷ map (f k) (filter (λ e. nat_eq (key e) k) es)) (sym (eqb-true (key e) k i)) ∙ ap (λ ys. f (key e) e ∷ ys) h
  by_test false i h = h

-- what each edge gives, gathered node by node along out-edges, is what it gives gathered along in-edges
pub flipped-bag : {B : Type 0} (g : NumberedGraph) (f : ℕ → ℕ → ℕ → B) → IsGraph g →
    SameBag (joined (map (λ n. map (λ s. f n s.node s.edge) (out_steps g n)) (nodes g))) (joined (map (λ t. map (λ s. f s.node t s.edge) (in_steps g t)) (nodes g)))
flipped-bag {B} g f is =
    let es = enumerate_from 0 g.edges in
    let h = λ (e : ℕ × Edge). f e.1.from e.1.to e.0 in
    let within = λ (e : ℕ × Edge) (i : IsIn e es). all-within (node_count g) 0 g.edges is.within e i in
    let out = ap joined (each-all (λ n. map (λ (s : Step). f n s.node s.edge) (out_steps g n)) (group (λ (e : ℕ × Edge). e.1.from) h es) (nodes g)
    (λ n. map-compose (λ (s : Step). f n s.node s.edge) (λ (e : ℕ × Edge). record { node = e.1.to; edge = e.0 }) (filter (λ e. nat_eq e.1.from n) es) ∙ group-known (λ (e : ℕ × Edge). e.1.from) (λ n e. f n e.1.to e.0) es n)) in
    let into = ap joined (each-all (λ t. map (λ (s : Step). f s.node t s.edge) (in_steps g t)) (group (λ (e : ℕ × Edge). e.1.to) h es) (nodes g)
    (λ t. map-compose (λ (s : Step). f s.node t s.edge) (λ (e : ℕ × Edge). record { node = e.1.from; edge = e.0 }) (filter (λ e. nat_eq e.1.to t) es) ∙ group-known (λ (e : ℕ × Edge). e.1.to) (λ t e. f e.1.from t e.0) es t)) in
    subst (λ xs. SameBag xs (joined (map (λ t. map (λ s. f s.node t s.edge) (in_steps g t)) (nodes g)))) (sym out)
    (subst (λ ys. SameBag (joined (map (group (λ (e : ℕ × Edge). e.1.from) h es) (nodes g))) ys) (sym into)
    (same_trans (grouped (λ (e : ℕ × Edge). e.1.from) h (node_count g) es (λ e i. (within e i).from_node)) (SameBag-sym (grouped (λ (e : ℕ × Edge). e.1.to) h (node_count g) es (λ e i. (within e i).to_node)))))
