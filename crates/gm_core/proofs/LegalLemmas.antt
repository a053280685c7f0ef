-- What legal events have, and tests of all numbers below one.
use Rattle.std.proofs.Common.{◌≡◌, ◌<◌, ◌≤◌, ◌+◌, ℕ, zero, suc, Bool, true, false, cond, not, ◌&&◌, nat_eq, nat_lt, Some, None, List, [], ◌∷◌, ◌++◌, length, refl, sym, ap, ◌∙◌, arith, zero-add}
use Rattle.std.specs.Prelude.{nat_le, if◌then◌else◌}
use Rattle.std.specs.List.{list_all, range_with_len}
use Rattle.std.proofs.lemmas.Bool.{ltb-true, leb-true, lt-ltb, true≢false, and_parts}
use Rattle.std.proofs.lemmas.List.Folds.{list_all-append}
use Rattle.gm_model.specs.Graphs.{NumberedGraph, node_count}
use Rattle.gm_image.specs.Program.{Program}
use Rattle.gm_machine.specs.Machine.{Pause, Stops, Steps}
use Rattle.gm_core.specs.declared.events.Event.{Event}
use Rattle.gm_core.specs.declared.events.Event.TheVariants.{Compute, Deliver, Arrive}
use Rattle.gm_core.specs.Cores.{Core, owner, below, is_in, is_legal_by, is_legal, effect, effects, AllLegal, first_illegal}
use Rattle.gm_core.proofs.NodeLists.{all-below, range-push}

-- one more number passes
pub all-more : (test : ℕ → Bool) (i : ℕ) → list_all test (below i) ≡ true → test i ≡ true → list_all test (below (i + 1)) ≡ true
all-more test i before here =
    ap (list_all test) (ap (range_with_len 0) (let e : i + 1 ≡ suc i = omega arith in e) ∙ range-push 0 i ∙ ap (λ k. range_with_len 0 i ++ k ∷ []) (zero-add i))
    ∙ list_all-append test (range_with_len 0 i) (i ∷ [])
    ∙ ap (λ b. b && (test i && true)) before
    ∙ ap (λ b. b && true) here

-- a number does not pass
pub all-fails : (test : ℕ → Bool) (k n : ℕ) → n < k → test n ≡ false → list_all test (below k) ≡ false
all-fails test k n within fails = by (list_all test (below k)) refl where
  by : (b : Bool) → list_all test (below k) ≡ b → list_all test (below k) ≡ false
  by true is = absurd (true≢false (sym (all-below test 0 k is n (omega arith) (omega arith)) ∙ fails))
  by false is = is

-- tests that are the same at each number
pub all-same : (f f' : ℕ → Bool) (a k : ℕ) → ((m : ℕ) → a ≤ m → m < a + k → f m ≡ f' m) → list_all f (range_with_len a k) ≡ list_all f' (range_with_len a k)
all-same f f' a zero same = refl
all-same f f' a (suc k) same =
    ap (λ b. b && list_all f (range_with_len (a + 1) k)) (same a (omega arith) (omega arith))
    ∙ ap (λ b. f' a && b) (all-same f f' (a + 1) k (λ m low high. same m (omega arith) (omega arith)))

-- a worker of so many has all that an arrival asks for
pub arrives-is : (w workers : ℕ) (arrived computed computed' delivered delivered' r : Bool) → w < workers → computed ≡ computed' → delivered ≡ delivered' →
    r ≡ (not arrived && computed) && delivered → r ≡ nat_lt w workers && not arrived && computed' && delivered'
arrives-is w workers arrived computed computed' delivered delivered' r some same_computed same_delivered is =
    is
    ∙ ap (λ b. (not arrived && b) && delivered) same_computed
    ∙ ap (λ b. (not arrived && computed') && b) same_delivered
    ∙ sym (ap (λ b. b && not arrived && computed' && delivered') (lt-ltb w workers some))

module _ (p : Program) (g : NumberedGraph) (owners : List ℕ) (workers : ℕ) (s : Core) where
  pub computes-in : (next : Pause) (w n : ℕ) → is_legal_by p g owners workers next s (Compute w n) ≡ true → (w < workers) × (n < node_count g)
  computes-in (Stops how) w n legal = absurd (true≢false (sym legal))
  computes-in (Steps left q line c) w n legal =
      let three = and_parts (nat_lt w workers && nat_lt n (node_count g) && nat_eq (owner owners n) w) (not (is_in n s.computed)) legal in
      let two = and_parts (nat_lt w workers && nat_lt n (node_count g)) (nat_eq (owner owners n) w) three.0 in
      let one = and_parts (nat_lt w workers) (nat_lt n (node_count g)) two.0 in
      (ltb-true w workers one.0, ltb-true n (node_count g) one.1)

  pub delivers-in : (next : Pause) (from to count : ℕ) → is_legal_by p g owners workers next s (Deliver from to count) ≡ true →
      (from < workers) × (to < workers) × (count ≤ length (s.mail.unsent from to))
  delivers-in (Stops how) from to count legal = absurd (true≢false (sym legal))
  delivers-in (Steps left q line c) from to count legal =
      let three = and_parts (nat_lt from workers && nat_lt to workers && nat_le 1 count) (nat_le count (length (s.mail.unsent from to))) legal in
      let two = and_parts (nat_lt from workers && nat_lt to workers) (nat_le 1 count) three.0 in
      let one = and_parts (nat_lt from workers) (nat_lt to workers) two.0 in
      (ltb-true from workers one.0, ltb-true to workers one.1, leb-true count (length (s.mail.unsent from to)) three.1)

  pub arrives-in : (next : Pause) (w : ℕ) → is_legal_by p g owners workers next s (Arrive w) ≡ true → w < workers
  arrives-in (Stops how) w legal = absurd (true≢false (sym legal))
  arrives-in (Steps left q line c) w legal =
      let three = and_parts (nat_lt w workers && not (s.arrived w) && list_all (λ n. if nat_eq (owner owners n) w then is_in n s.computed else true) (below (node_count g))) (list_all (λ to. nat_eq (length (s.mail.unsent w to)) 0) (below workers)) legal in
      let two = and_parts (nat_lt w workers && not (s.arrived w)) (list_all (λ n. if nat_eq (owner owners n) w then is_in n s.computed else true) (below (node_count g))) three.0 in
      let one = and_parts (nat_lt w workers) (not (s.arrived w)) two.0 in
      ltb-true w workers one.0

module _ (p : Program) (g : NumberedGraph) (owners : List ℕ) (workers : ℕ) where
  -- where no event is the first that is not legal, all are
  pub legal-all : (es : List Event) (i : ℕ) (s : Core) → first_illegal p g owners workers i s es ≡ None → AllLegal p g owners workers s es
  legal-all [] i s none = tt
  legal-all (e ∷ es) i s none = by (is_legal p g owners workers s e) refl none (legal-all es (i + 1) (effect p g owners workers s e)) where
    by : (b : Bool) → is_legal p g owners workers s e ≡ b → cond b (first_illegal p g owners workers (i + 1) (effect p g owners workers s e) es) (Some i) ≡ None →
        (first_illegal p g owners workers (i + 1) (effect p g owners workers s e) es ≡ None → AllLegal p g owners workers (effect p g owners workers s e) es) →
        AllLegal p g owners workers s (e ∷ es)
    by true is at rest = (is, rest at)
    by false is at rest = absurd (cc)

  -- a legal event is the next one
  pub effects-go : (es rest : List Event) (e : Event) (s t : Core) → es ≡ e ∷ rest → t ≡ effect p g owners workers s e →
      effects p g owners workers t rest ≡ effects p g owners workers s es
  effects-go es rest e s t is next = ap (λ (u : Core). effects p g owners workers u rest) next ∙ sym (ap (effects p g owners workers s) is)

  pub legal-goes : (es rest : List Event) (e : Event) (i : ℕ) (s t : Core) → es ≡ e ∷ rest → t ≡ effect p g owners workers s e → is_legal p g owners workers s e ≡ true →
      first_illegal p g owners workers (i + 1) t rest ≡ first_illegal p g owners workers i s es
  legal-goes es rest e i s t is next legal =
      ap (λ (u : Core). first_illegal p g owners workers (i + 1) u rest) next
      ∙ sym (ap (λ b. cond b (first_illegal p g owners workers (i + 1) (effect p g owners workers s e) rest) (Some i)) legal)
      ∙ sym (ap (first_illegal p g owners workers i s) is)

  -- an event that is not legal is the first
  pub illegal-stops : (es rest : List Event) (e : Event) (i : ℕ) (s : Core) → es ≡ e ∷ rest → is_legal p g owners workers s e ≡ false →
      first_illegal p g owners workers i s es ≡ Some i
  illegal-stops es rest e i s is illegal =
      ap (first_illegal p g owners workers i s) is
      ∙ ap (λ b. cond b (first_illegal p g owners workers (i + 1) (effect p g owners workers s e) rest) (Some i)) illegal
