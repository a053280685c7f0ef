-- The master lists of an image and of the one in which two steps are joined go side by side.
use Rattle.std.proofs.Common.{◌≡◌, ◌<◌, ◌≤◌, ℕ, zero, suc, ◌+◌, ◌-◌, Bool, true, false, cond, not, nat_eq, nat_lt, Option, Some, None, Result, Ok, Err, List, [], ◌∷◌, length, refl, sym, ap, subst, ◌∙◌, arith, ⊎_elim}
use Rattle.std.specs.Prelude.{slice_get}
use Rattle.std.specs.List.{list_all}
use Rattle.std.proofs.lemmas.Bool.{and_parts, eq-eqb, cases_lt}
use Rattle.gm_value.specs.declared.values.Value.{Value}
use Rattle.gm_value.specs.Operations.{is_true}
use Rattle.gm_model.specs.declared.outcomes.RunEnd.{RunEnd}
use Rattle.gm_model.specs.Graphs.{NumberedGraph}
use Rattle.gm_image.specs.Term.{Term}
use Rattle.gm_image.specs.Program.{Program, Command, SetGlobal, Step, Jump, Test, Turn, Back, Finish}
use Rattle.gm_image.specs.Indices.{command_in_range}
use Rattle.gm_machine.specs.declared.faults.Fault.{Fault}
use Rattle.gm_machine.specs.Expressions.{value}
use Rattle.gm_machine.specs.Machine.{Control, Nodes, Ended, Cut, block_at, master_view, Lead, On, ToStep, ToTurn, ToStop, lead_by, at_head, back_to, command_after, lead_answer, forward, from_line, turn_at, run_from, ends, run_step}
use Rattle.gm_merge_laws.specs.Joins.{leads_elsewhere, replaced, joined_image}
use Rattle.gm_merge_laws.proofs.Supersteps.{Fit}
use Rattle.gm_merge_laws.proofs.Runs.{Below, quiet, ends-close, same-run, two-run}

apart : (x j : ℕ) → not (nat_eq x j) ≡ true → x ≡ j → ⊥
apart x j h e = let same = eq-eqb x j e in cc

-- a line that passes with all others
get-passes : (t : Command → Bool) (ms : List Command) (h : ℕ) (m : Command) → list_all t ms ≡ true → slice_get ms h ≡ Some m → t m ≡ true
get-passes t [] h m all e = cc
get-passes t (n ∷ ms) zero m all e = let same : n ≡ m = cc in ap t (sym same) ∙ (and_parts (t n) (list_all t ms) all).0
get-passes t (n ∷ ms) (suc h) m all e = get-passes t ms h m (and_parts (t n) (list_all t ms) all).1 e

module _ (p : Program) (i a b : ℕ) (g : NumberedGraph) (gs : List ℕ) (fit : Fit (block_at p a) (block_at p b) gs)
    (first : slice_get p.master i ≡ Some (Step a)) (second : slice_get p.master (i + 1) ≡ Some (Step b))
    (alone : list_all (leads_elsewhere (i + 1)) p.master ≡ true) (range : list_all (command_in_range p) p.master ≡ true) where
  abbrev joined : Program
  joined = joined_image p i a b

  abbrev calm : Bool
  calm = quiet p i a b g

  -- a line leads past the second step, or not to it
  abbrev Safe : ℕ → Lead → Type 0
  Safe next (On k c) = next + k ≡ i + 1 → ⊥
  Safe next (ToStep q c) = (nat_lt q (length p.blocks) ≡ true) × (next ≡ i + 1 → ⊥)
  Safe next (ToTurn j c) = j ≡ i + 1 → ⊥
  Safe next (ToStop s) = Unit {0}

  jump-safe : (next j : ℕ) → (next ≡ i + 1 → ⊥) → (j ≡ i + 1 → ⊥) → next + (j - next) ≡ i + 1 → ⊥
  jump-safe next j h k e = ⊎_elim (λ (l : next < j). k (omega arith)) (λ (l : j ≤ next). h (omega arith)) (cases_lt next j)

  stay-safe : (next : ℕ) → (next ≡ i + 1 → ⊥) → next + 0 ≡ i + 1 → ⊥
  stay-safe next h e = h (omega arith)

  lead-safe : (next : ℕ) (r : Result Value Fault) (c : Control) (go : Value → Lead) → ((v : Value) → Safe next (go v)) → Safe next (lead_by r c go)
  lead-safe next (Ok v) c go on = on v
  lead-safe next (Err f) c go on = tt

  cond-safe : (next : ℕ) (x : Bool) (l m : Lead) → Safe next l → Safe next m → Safe next (cond x l m)
  cond-safe next true l m h k = h
  cond-safe next false l m h k = k

  head-safe : (next below exit : ℕ) (t : Term) (c : Control) → (next ≡ i + 1 → ⊥) → (below ≡ i + 1 → ⊥) → (exit ≡ i + 1 → ⊥) → Safe next (at_head g next below exit t c)
  head-safe next below exit t c h k e =
      lead-safe next (value (master_view g c.globals) t) c (λ v. cond (is_true v) (ToTurn below c) (On (exit - next) c))
      (λ v. cond-safe next (is_true v) (ToTurn below c) (On (exit - next) c) k (jump-safe next exit h e))

  back-safe : (next h : ℕ) (c : Control) → (next ≡ i + 1 → ⊥) → (o : Option Command) → slice_get p.master h ≡ o → Safe next (back_to g next h o c)
  back-safe next h c n None e = tt
  back-safe next h c n (Some (Turn x t)) e =
      let exit : x ≡ i + 1 → ⊥ = apart x (i + 1) (get-passes (leads_elsewhere (i + 1)) p.master h (Turn x t) alone e) in
      let below : h + 1 ≡ i + 1 → ⊥ = λ k. (let same : h ≡ i = omega arith in let other = ap (slice_get p.master) same in let f = first in absurd (cc)) in
      head-safe next (h + 1) x t c n below exit
  back-safe next h c n (Some (SetGlobal t x)) e = tt
  back-safe next h c n (Some (Step q)) e = tt
  back-safe next h c n (Some (Jump j)) e = tt
  back-safe next h c n (Some (Test j x)) e = tt
  back-safe next h c n (Some (Back j)) e = tt
  back-safe next h c n (Some Finish) e = tt

  command-safe : (next : ℕ) (m : Command) (c : Control) → (next ≡ i + 1 → ⊥) → leads_elsewhere (i + 1) m ≡ true → command_in_range p m ≡ true → Safe next (command_after p.master g next m c)
  command-safe next (SetGlobal t x) c n h k = lead-safe next (value (master_view g c.globals) x) c _ (λ v. stay-safe next n)
  command-safe next (Step q) c n h k = (k, n)
  command-safe next (Jump j) c n h k = jump-safe next j n (apart j (i + 1) h)
  command-safe next (Test j x) c n h k =
      lead-safe next (value (master_view g c.globals) x) c (λ v. cond (is_true v) (On 0 c) (On (j - next) c))
      (λ v. cond-safe next (is_true v) (On 0 c) (On (j - next) c) (stay-safe next n) (jump-safe next j n (apart j (i + 1) h)))
  command-safe next (Turn x t) c n h k = head-safe next next x t c n n (apart x (i + 1) h)
  command-safe next (Back j) c n h k = back-safe next j c n (slice_get p.master j) refl
  command-safe next Finish c n h k = tt

  -- a line does the same in both lists
  back-same : (next head to q : ℕ) (c : Control) (ms : List Command) (k h : ℕ) → slice_get ms k ≡ Some (Step a) → slice_get ms (k + 1) ≡ Some (Step b) →
      back_to g next head (slice_get ms h) c ≡ back_to g next head (slice_get (replaced k (Jump to) (Step q) ms) h) c
  back-same next head to q c [] k h e f = refl
  back-same next head to q c (m ∷ []) zero h e f = refl
  back-same next head to q c (m ∷ (n ∷ ms)) zero zero e f = ap (λ o. back_to g next head o c) e
  back-same next head to q c (m ∷ (n ∷ ms)) zero (suc zero) e f = ap (λ o. back_to g next head o c) f
  back-same next head to q c (m ∷ (n ∷ ms)) zero (suc (suc h)) e f = refl
  back-same next head to q c (m ∷ ms) (suc k) zero e f = refl
  back-same next head to q c (m ∷ ms) (suc k) (suc h) e f =
      let s : suc (k + 1) ≡ suc k + 1 = omega arith in
      back-same next head to q c ms k h e (ap (slice_get (m ∷ ms)) s ∙ f)

  command-same : (next : ℕ) (m : Command) (c : Control) → command_after p.master g next m c ≡ command_after joined.master g next m c
  command-same next (SetGlobal t x) c = refl
  command-same next (Step q) c = refl
  command-same next (Jump j) c = refl
  command-same next (Test j x) c = refl
  command-same next (Turn x t) c = refl
  command-same next (Back j) c = back-same next j (i + 1) (length p.blocks) c p.master i j first second
  command-same next Finish c = refl

  module _ (left : ℕ) (turn turn' : ℕ → Control → Nodes → RunEnd) (turns : (j : ℕ) (c : Control) → (j ≡ i + 1 → ⊥) → Below calm (turn j c) (turn' j c)) where
    abbrev old : ℕ → List Command → ℕ → Control → Nodes → RunEnd
    old at ms k c = forward p g (ends p) (run_step p g left) turn at ms k c

    abbrev new : ℕ → List Command → ℕ → Control → Nodes → RunEnd
    new at ms k c = forward joined g (ends joined) (run_step joined g left) turn' at ms k c

    lead-close : (next : ℕ) (rest rest' : ℕ → Control → Nodes → RunEnd) → ((k : ℕ) (c : Control) → (next + k ≡ i + 1 → ⊥) → Below calm (rest k c) (rest' k c)) → (l : Lead) → Safe next l →
        Below calm (lead_answer p g (ends p) (run_step p g left) turn next rest l) (lead_answer joined g (ends joined) (run_step joined g left) turn' next rest' l)
    lead-close next rest rest' on (On k c) h = on k c h
    lead-close next rest rest' on (ToStep q c) h = same-run p i a b g left q next c h.0 (λ d. rest 0 d) (λ d. rest' 0 d) (λ d. on 0 d (stay-safe next h.1))
    lead-close next rest rest' on (ToTurn j c) h = turns j c h
    lead-close next rest rest' on (ToStop s) h = ends-close p i a b g s

    line-close : (next : ℕ) (m : Command) (c : Control) (rest rest' : ℕ → Control → Nodes → RunEnd) → (next ≡ i + 1 → ⊥) → leads_elsewhere (i + 1) m ≡ true → command_in_range p m ≡ true →
        ((k : ℕ) (c : Control) → (next + k ≡ i + 1 → ⊥) → Below calm (rest k c) (rest' k c)) →
        Below calm (lead_answer p g (ends p) (run_step p g left) turn next rest (command_after p.master g next m c)) (lead_answer joined g (ends joined) (run_step joined g left) turn' next rest' (command_after joined.master g next m c))
    line-close next m c rest rest' n h k on =
        subst (λ l. Below calm (lead_answer p g (ends p) (run_step p g left) turn next rest (command_after p.master g next m c)) (lead_answer joined g (ends joined) (run_step joined g left) turn' next rest' l))
        (command-same next m c)
        (lead-close next rest rest' on (command_after p.master g next m c) (command-safe next m c n h k))

    -- behind the two steps
    behind : (ms : List Command) (at : ℕ) → i + 1 < at → list_all (leads_elsewhere (i + 1)) ms ≡ true → list_all (command_in_range p) ms ≡ true → (k : ℕ) (c : Control) → Below calm (old at ms k c) (new at ms k c)
    behind [] at l h r k c = ends-close p i a b g (Ended c)
    behind (m ∷ ms) at l h r (suc k) c =
        behind ms (at + 1) (let l' : i + 1 < at + 1 = omega arith in l') (and_parts (leads_elsewhere (i + 1) m) (list_all (leads_elsewhere (i + 1)) ms) h).1 (and_parts (command_in_range p m) (list_all (command_in_range p) ms) r).1 k c
    behind (m ∷ ms) at l h r zero c =
        line-close (at + 1) m c (λ k c. old (at + 1) ms k c) (λ k c. new (at + 1) ms k c) (λ e. omega arith)
        (and_parts (leads_elsewhere (i + 1) m) (list_all (leads_elsewhere (i + 1)) ms) h).0 (and_parts (command_in_range p m) (list_all (command_in_range p) ms) r).0
        (λ k c n. behind ms (at + 1) (let l' : i + 1 < at + 1 = omega arith in l') (and_parts (leads_elsewhere (i + 1) m) (list_all (leads_elsewhere (i + 1)) ms) h).1 (and_parts (command_in_range p m) (list_all (command_in_range p) ms) r).1 k c)

    -- at the two steps
    at-pair : (ms : List Command) (at : ℕ) → at ≡ i → list_all (leads_elsewhere (i + 1)) ms ≡ true → list_all (command_in_range p) ms ≡ true → (k : ℕ) (c : Control) → (at + k ≡ i + 1 → ⊥) →
        Below calm (old at (Step a ∷ Step b ∷ ms) k c) (new at (Jump (i + 1) ∷ Step (length p.blocks) ∷ ms) k c)
    at-pair ms at e h r zero c n =
        let none : 0 ≡ (i + 1) - (at + 1) = omega arith in
        subst (λ k. Below calm (old at (Step a ∷ Step b ∷ ms) 0 c) (new (at + 1) (Step (length p.blocks) ∷ ms) k c)) none
        (two-run p i a b g gs fit left (at + 1) (at + 1 + 1) (at + 1 + 1) c (λ d. old (at + 1 + 1) ms 0 d) (λ d. new (at + 1 + 1) ms 0 d)
        (λ d. behind ms (at + 1 + 1) (let l : i + 1 < at + 1 + 1 = omega arith in l) h r 0 d))
    at-pair ms at e h r (suc zero) c n = absurd (n (omega arith))
    at-pair ms at e h r (suc (suc k)) c n = behind ms (at + 1 + 1) (let l : i + 1 < at + 1 + 1 = omega arith in l) h r k c

    -- before them
    ahead : (ms : List Command) (d at : ℕ) → at + d ≡ i → slice_get ms d ≡ Some (Step a) → slice_get ms (d + 1) ≡ Some (Step b) →
        list_all (leads_elsewhere (i + 1)) ms ≡ true → list_all (command_in_range p) ms ≡ true → (k : ℕ) (c : Control) → (at + k ≡ i + 1 → ⊥) →
        Below calm (old at ms k c) (new at (replaced d (Jump (i + 1)) (Step (length p.blocks)) ms) k c)
    ahead [] d at e f s h r k c n = cc
    ahead (m ∷ []) zero at e f s h r k c n = cc
    ahead (m ∷ (x ∷ ms)) zero at e f s h r k c n =
        let one : m ≡ Step a = cc in
        let two : x ≡ Step b = cc in
        subst (λ y. Below calm (old at (y ∷ (x ∷ ms)) k c) (new at (Jump (i + 1) ∷ (Step (length p.blocks) ∷ ms)) k c)) (sym one)
        (subst (λ y. Below calm (old at (Step a ∷ (y ∷ ms)) k c) (new at (Jump (i + 1) ∷ (Step (length p.blocks) ∷ ms)) k c)) (sym two)
        (at-pair ms at (let l : at ≡ i = omega arith in l)
        (and_parts (leads_elsewhere (i + 1) x) (list_all (leads_elsewhere (i + 1)) ms) (and_parts (leads_elsewhere (i + 1) m) (list_all (leads_elsewhere (i + 1)) (x ∷ ms)) h).1).1
        (and_parts (command_in_range p x) (list_all (command_in_range p) ms) (and_parts (command_in_range p m) (list_all (command_in_range p) (x ∷ ms)) r).1).1 k c n))
    ahead (m ∷ ms) (suc d) at e f s h r (suc k) c n =
        let next : suc (d + 1) ≡ suc d + 1 = omega arith in
        ahead ms d (at + 1) (let l : (at + 1) + d ≡ i = omega arith in l) f (ap (slice_get (m ∷ ms)) next ∙ s)
        (and_parts (leads_elsewhere (i + 1) m) (list_all (leads_elsewhere (i + 1)) ms) h).1 (and_parts (command_in_range p m) (list_all (command_in_range p) ms) r).1 k c (λ z. n (omega arith))
    ahead (m ∷ ms) (suc d) at e f s h r zero c n =
        let next : suc (d + 1) ≡ suc d + 1 = omega arith in
        line-close (at + 1) m c (λ k c. old (at + 1) ms k c) (λ k c. new (at + 1) (replaced d (Jump (i + 1)) (Step (length p.blocks)) ms) k c) (λ z. omega arith)
        (and_parts (leads_elsewhere (i + 1) m) (list_all (leads_elsewhere (i + 1)) ms) h).0 (and_parts (command_in_range p m) (list_all (command_in_range p) ms) r).0
        (λ k c z. ahead ms d (at + 1) (let l : (at + 1) + d ≡ i = omega arith in l) f (ap (slice_get (m ∷ ms)) next ∙ s)
        (and_parts (leads_elsewhere (i + 1) m) (list_all (leads_elsewhere (i + 1)) ms) h).1 (and_parts (command_in_range p m) (list_all (command_in_range p) ms) r).1 k c z)

    pub from-close : (j : ℕ) (c : Control) → (j ≡ i + 1 → ⊥) → Below calm (from_line p g (ends p) (run_step p g left) turn j c) (from_line joined g (ends joined) (run_step joined g left) turn' j c)
    from-close j c n = ahead p.master i 0 (let l : 0 + i ≡ i = omega arith in l) first second alone range j c (λ z. n (omega arith))

  turns-close : (n j : ℕ) (c : Control) → (j ≡ i + 1 → ⊥) → Below calm (turn_at p g (ends p) (run_step p g) n j c) (turn_at joined g (ends joined) (run_step joined g) n j c)
  turns-close zero j c away = ends-close p i a b g (Cut c)
  turns-close (suc n) j c away =
      from-close n (λ j' c'. turn_at p g (ends p) (run_step p g) n j' c') (λ j' c'. turn_at joined g (ends joined) (run_step joined g) n j' c') (λ j' c' h. turns-close n j' c' h) j (record c { turns = c.turns + 1 }) away

  -- the run from a line on
  pub runs-close : (n j : ℕ) (c : Control) → (j ≡ i + 1 → ⊥) → Below calm (run_from p g (ends p) (run_step p g) n j c) (run_from joined g (ends joined) (run_step joined g) n j c)
  runs-close n j c away =
      from-close n (λ j' c'. turn_at p g (ends p) (run_step p g) n j' c') (λ j' c'. turn_at joined g (ends joined) (run_step joined g) n j' c') (λ j' c' h. turns-close n j' c' h) j c away
