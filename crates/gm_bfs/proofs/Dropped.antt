-- Iterations that do nothing may be left out.
use Rattle.std.proofs.Common.{◌≡◌, ℕ, Bool, true, false, cond, List, [], ◌∷◌, ◌++◌, map, refl, sym, ap, ◌∙◌, Option, Some, None, Result, Ok, inl, inr}
use Rattle.std.proofs.Math.Path.{fun_ext}
use Rattle.std.specs.Prelude.{filter, nat_eq}
use Rattle.std.proofs.lemmas.Bool.{eqb-true}
use Rattle.gm_value.specs.declared.values.Value.{Value}
use Rattle.gm_value.specs.Bag.{IsIn}
use Rattle.gm_semantics.specs.declared.faults.Fault.{Fault}
use Rattle.gm_semantics.specs.declared.slots.Write.{Write}
use Rattle.gm_semantics.specs.Stores.{Store, overlaid}
use Rattle.gm_semantics.specs.Faults.{least, unless_fault, somes, joined}
use Rattle.gm_semantics.specs.Contributions.{Contribution, settled_store, total_faults}
use Rattle.gm_semantics.specs.Iterations.{Iteration, inner_done}
use Rattle.gm_semantics.proofs.ContributionLaws.{IsIn-filter}
use Rattle.gm_semantics.specs.Loops.{left_at, own_left, loop_done}

-- an iteration that gives nothing and does not fault
pub record Quiet (it : Iteration) : Type 0 where
  pub inner : it.with_inner ≡ []
  pub outermost : it.with_outermost ≡ []
  pub deferred : it.deferred ≡ []
  pub fault : it.fault ≡ None

-- iterations are others' where they pass a test, and else do nothing
module _ {A : Type 0} (p : A → Bool) (f g : A → Iteration) where
  abbrev pub Same : List A → Type 0
  Same xs = (x : A) → IsIn x xs → p x ≡ true → f x ≡ g x

  abbrev pub Idle : List A → Type 0
  Idle xs = (x : A) → IsIn x xs → p x ≡ false → Quiet (f x)

  drop-joined : {C : Type 0} (part : Iteration → List C) → ((it : Iteration) → Quiet it → part it ≡ []) → (xs : List A) → Same xs → Idle xs → joined (map part (map f xs)) ≡ joined (map part (map g (filter p xs)))
  drop-joined part none [] same idle = refl
  drop-joined part none (x ∷ xs) same idle = by (p x) refl (drop-joined part none xs (λ y i. same y (inr i)) (λ y i. idle y (inr i)))
    where
      by : (b : Bool) → p x ≡ b → joined (map part (map f xs)) ≡ joined (map part (map g (filter p xs))) → part (f x) ++ joined (map part (map f xs)) ≡ joined (map part (map g (cond b (x ∷ filter p xs) (filter p xs))))
      by true e rest = ap (λ it. part it ++ joined (map part (map f xs))) (same x (inl refl) e) ∙ ap (λ cs. part (g x) ++ cs) rest
      by false e rest = ap (λ cs. cs ++ joined (map part (map f xs))) (none (f x) (idle x (inl refl) e)) ∙ rest

  more-somes : (a b : Option Fault) (os us : List (Option Fault)) → a ≡ b → somes os ≡ somes us → somes (a ∷ os) ≡ somes (b ∷ us)
  more-somes a b os us e rest = ap (λ o. somes (o ∷ os)) e ∙ by b
    where
      by : (o : Option Fault) → somes (o ∷ os) ≡ somes (o ∷ us)
      by None = rest
      by (Some h) = ap (λ fs. h ∷ fs) rest

  drop-faults : (xs : List A) → Same xs → Idle xs → somes (map (λ it. it.fault) (map f xs)) ≡ somes (map (λ it. it.fault) (map g (filter p xs)))
  drop-faults [] same idle = refl
  drop-faults (x ∷ xs) same idle = by (p x) refl (drop-faults xs (λ y i. same y (inr i)) (λ y i. idle y (inr i)))
    where
      by : (b : Bool) → p x ≡ b → somes (map (λ it. it.fault) (map f xs)) ≡ somes (map (λ it. it.fault) (map g (filter p xs))) →
          somes ((f x).fault ∷ map (λ it. it.fault) (map f xs)) ≡ somes (map (λ it. it.fault) (map g (cond b (x ∷ filter p xs) (filter p xs))))
      by true e rest = more-somes (f x).fault (g x).fault (map (λ it. it.fault) (map f xs)) (map (λ it. it.fault) (map g (filter p xs))) (ap (λ (it : Iteration). it.fault) (same x (inl refl) e)) rest
      by false e rest = ap (λ o. somes (o ∷ map (λ it. it.fault) (map f xs))) (idle x (inl refl) e).fault ∙ rest

  -- an inner loop over those that pass the test is one over all
  pub drop-inner : (it : Iteration) (xs : List A) → Same xs → Idle xs → inner_done it (map f xs) ≡ inner_done it (map g (filter p xs))
  drop-inner it xs same idle =
      ap (λ ended. record it { store = settled_store it.store ended; with_outermost = it.with_outermost ++ joined (map (λ t. t.with_outermost) (map f xs)); fault = least (somes (map (λ t. t.fault) (map f xs)) ++ total_faults it.store ended) }) (drop-joined (λ t. t.with_inner) (λ t q. q.inner) xs same idle)
      ∙ ap (λ given. record it { store = settled_store it.store (joined (map (λ t. t.with_inner) (map g (filter p xs)))); with_outermost = it.with_outermost ++ given; fault = least (somes (map (λ t. t.fault) (map f xs)) ++ total_faults it.store (joined (map (λ t. t.with_inner) (map g (filter p xs))))) }) (drop-joined (λ t. t.with_outermost) (λ t q. q.outermost) xs same idle)
      ∙ ap (λ fs. record it { store = settled_store it.store (joined (map (λ t. t.with_inner) (map g (filter p xs)))); with_outermost = it.with_outermost ++ joined (map (λ t. t.with_outermost) (map g (filter p xs))); fault = least (fs ++ total_faults it.store (joined (map (λ t. t.with_inner) (map g (filter p xs))))) }) (drop-faults xs same idle)

-- so is an outermost loop
module _ (p : ℕ → Bool) (f g : ℕ → Iteration) (s : Store) where
  abbrev pub Stays : List ℕ → Type 0
  Stays xs = (x : ℕ) → IsIn x xs → p x ≡ false → (q n : ℕ) → nat_eq x n ≡ true → (f x).store.node q n ≡ s.node q n

  drop-left : (xs ys : List ℕ) → ((x : ℕ) → IsIn x xs → IsIn x ys) → Same p f g ys → Stays ys → (q n : ℕ) → left_at xs (map f xs) s q n ≡ left_at (filter p xs) (map g (filter p xs)) s q n
  drop-left [] ys sub same stays q n = refl
  drop-left (x ∷ xs) ys sub same stays q n = by (p x) refl (nat_eq x n) refl (drop-left xs ys (λ y i. sub y (inr i)) same stays q n)
    where
      -- an idle node's value is found nowhere else but as it was
      past : (zs : List ℕ) → ((z : ℕ) → IsIn z zs → p z ≡ true) → p x ≡ false → nat_eq x n ≡ true → left_at zs (map g zs) s q n ≡ s.node q n
      past [] all e k = refl
      past (z ∷ zs) all e k = here (nat_eq z n) refl (past zs (λ y i. all y (inr i)) e k)
        where
          here : (b : Bool) → nat_eq z n ≡ b → left_at zs (map g zs) s q n ≡ s.node q n → cond b ((g z).store.node q n) (left_at zs (map g zs) s q n) ≡ s.node q n
          here true h rest =
              let one : z ≡ x = eqb-true z n h ∙ sym (eqb-true x n k) in
              let pass : p x ≡ true = sym (ap p one) ∙ all z (inl refl) in
              let no-way : true ≡ false = sym pass ∙ e in
              absurd (cc)
          here false h rest = rest

      passing : (zs : List ℕ) (z : ℕ) → IsIn z (filter p zs) → p z ≡ true
      passing zs z i = (IsIn-filter p z zs i).1

      by : (b : Bool) → p x ≡ b → (c : Bool) → nat_eq x n ≡ c → left_at xs (map f xs) s q n ≡ left_at (filter p xs) (map g (filter p xs)) s q n →
          cond c ((f x).store.node q n) (left_at xs (map f xs) s q n) ≡ left_at (cond b (x ∷ filter p xs) (filter p xs)) (map g (cond b (x ∷ filter p xs) (filter p xs))) s q n
      by true e true k rest = ap (λ (it : Iteration). it.store.node q n) (same x (sub x (inl refl)) e) ∙ sym (ap (λ c. cond c ((g x).store.node q n) (left_at (filter p xs) (map g (filter p xs)) s q n)) k)
      by true e false k rest = rest ∙ sym (ap (λ c. cond c ((g x).store.node q n) (left_at (filter p xs) (map g (filter p xs)) s q n)) k)
      by false e true k rest = stays x (sub x (inl refl)) e q n k ∙ sym (past (filter p xs) (passing xs) e k)
      by false e false k rest = rest

  abbrev done : Store → List Contribution → List Write → List Fault → Result Store Fault
  done own cs ws fs = unless_fault (least (fs ++ total_faults own cs)) (Ok (overlaid (settled_store own cs) ws))

  pub drop-loop : (xs : List ℕ) → Same p f g xs → Idle p f g xs → Stays xs → loop_done s xs (map f xs) ≡ loop_done s (filter p xs) (map g (filter p xs))
  drop-loop xs same idle stays =
      let ys = filter p xs in
      let own : own_left s xs (map f xs) ≡ own_left s ys (map g ys) = ap (λ (l : ℕ → ℕ → Value). record s { node = l }) (fun_ext (λ q. fun_ext (λ n. drop-left xs xs (λ x i. i) same stays q n))) in
      let given = drop-joined p f g (λ (it : Iteration). it.with_outermost) (λ it k. k.outermost) xs same idle in
      let late = drop-joined p f g (λ (it : Iteration). it.deferred) (λ it k. k.deferred) xs same idle in
      ap (λ (o : Store). done o (joined (map (λ it. it.with_outermost) (map f xs))) (joined (map (λ it. it.deferred) (map f xs))) (somes (map (λ it. it.fault) (map f xs)))) own
      ∙ ap (λ cs. done (own_left s ys (map g ys)) cs (joined (map (λ it. it.deferred) (map f xs))) (somes (map (λ it. it.fault) (map f xs)))) given
      ∙ ap (λ ws. done (own_left s ys (map g ys)) (joined (map (λ it. it.with_outermost) (map g ys))) ws (somes (map (λ it. it.fault) (map f xs)))) late
      ∙ ap (λ fs. done (own_left s ys (map g ys)) (joined (map (λ it. it.with_outermost) (map g ys))) (joined (map (λ it. it.deferred) (map g ys))) fs) (drop-faults p f g xs same idle)
