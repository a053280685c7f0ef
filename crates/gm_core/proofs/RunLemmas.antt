-- Events from the start on.
use Rattle.std.proofs.Common.{◌≡◌, ◌<◌, ◌+◌, ℕ, zero, suc, Bool, true, false, cond, not, ◌&&◌, nat_eq, nat_lt, Option, Some, None, List, [], ◌∷◌, ◌++◌, length, map, refl, sym, ap, ◌∙◌, subst, arith}
use Rattle.std.specs.Prelude.{nat_le, slice_index_or, IsTrue, IsSome, if◌then◌else◌}
use Rattle.std.specs.List.{range_with_len, enumerate_from}
use Rattle.std.proofs.lemmas.Bool.{eq-eqb, eqb-true, ltb-true, leb-true, true≢false, not-true, and_parts}
use Rattle.std.proofs.lemmas.List.{nil_from_length, length-map}
use Rattle.std.proofs.lemmas.List.FromFn.{length-enumerate_from, get_or-map-range_with_len}
use Rattle.gm_value.specs.declared.values.Value.{Value}
use Rattle.gm_value.specs.Bag.{same_nil}
use Rattle.gm_model.specs.declared.outcomes.RunEnd.{RunEnd}
use Rattle.gm_model.specs.Graphs.{NumberedGraph, node_count}
use Rattle.gm_image.specs.Program.{Program}
use Rattle.gm_image.specs.Soundness.{is_sound}
use Rattle.gm_machine.specs.Machine.{Control, Nodes, Pause, Stops, Steps, outcome, block_at, step_of, all_steps, superstep, start_fields, machine}
use Rattle.gm_core.specs.declared.events.Event.{Event}
use Rattle.gm_core.specs.declared.events.Event.TheVariants.{Compute, Deliver, Arrive, Release}
use Rattle.gm_machine.specs.States.{State, next_by, after, end_by}
use Rattle.gm_core.specs.Cores.{Core, owner, is_in, has_computed, has_delivered, is_legal_by, is_legal, effect_by, effect, effects, AllLegal, start, end_of}
use Rattle.gm_core.specs.Laws.{AreOwners, StandsFor, released, Reached, EndsInTime}
use Rattle.gm_machine.proofs.StateLemmas.{ends-as}
use Rattle.gm_machine.proofs.StateBounds.{ends-in-time as in-time}
use Rattle.gm_machine.proofs.BagLemmas.{map-map, enumerated}
use Rattle.gm_core.proofs.NodeLists.{all-below}
use Rattle.gm_core.proofs.CoreLemmas.{Within, own_step, begins, compute-kept, deliver-kept, arrive-kept, release-stands}

fields-next : (p : Program) (g : NumberedGraph) (next : Pause) (s : Nodes) → length (next_by p g next s).nodes.fields ≡ length s.fields
fields-next p g (Stops how) s = refl
fields-next p g (Steps left q line c) s =
    length-map (all_steps p g (block_at p q) c.globals s.sent s.fields) (λ a. a.state.fields)
    ∙ length-map (enumerate_from 0 s.fields) (step_of p g (block_at p q) c.globals s.sent)
    ∙ length-enumerate_from 0 s.fields

module _ (p : Program) (g : NumberedGraph) (owners : List ℕ) (workers : ℕ) (sound : IsTrue (is_sound p)) (dealt : AreOwners owners (node_count g) workers) where
  -- a core that has come to a state of the machine, and maybe farther
  abbrev Holds : Pause → Nodes → Core → Type 0
  Holds (Stops how) d s = StandsFor p g owners workers s (record { next = Stops how; nodes = d })
  Holds (Steps left q line c) d s = Within p g owners workers left q line c d s

  stands-hold : (next : Pause) (d : Nodes) (s : Core) → StandsFor p g owners workers s (record { next = next; nodes = d }) → Holds next d s
  stands-hold (Stops how) d s stands = stands
  stands-hold (Steps left q line c) d s stands = begins p g owners workers left q line c d s stands

  holds-next : (next : Pause) (d : Nodes) (s : Core) → Holds next d s → s.next ≡ next
  holds-next (Stops how) d s h = h.next
  holds-next (Steps left q line c) d s h = h.next

  -- what follows a legal event
  abbrev Follows : Event → Pause → Nodes → Core → Type 0
  Follows (Compute w n) next d s = Holds next d s
  Follows (Deliver from to count) next d s = Holds next d s
  Follows (Arrive w) next d s = Holds next d s
  Follows Release next d s = StandsFor p g owners workers s (next_by p g next d)

  module _ (left q line : ℕ) (c : Control) (d : Nodes) (full : length d.fields ≡ node_count g) (s : Core) (now : Within p g owners workers left q line c d s) where
    step-follows : (e : Event) → is_legal_by p g owners workers (Steps left q line c) s e ≡ true → Follows e (Steps left q line c) d (effect_by p g owners workers (Steps left q line c) s e)
    step-follows (Compute w n) legal =
        let three = and_parts (nat_lt w workers && nat_lt n (node_count g) && nat_eq (owner owners n) w) (not (is_in n s.computed)) legal in
        let two = and_parts (nat_lt w workers && nat_lt n (node_count g)) (nat_eq (owner owners n) w) three.0 in
        let one = and_parts (nat_lt w workers) (nat_lt n (node_count g)) two.0 in
        compute-kept p g owners workers left q line c d sound s now w n (ltb-true w workers one.0) (ltb-true n (node_count g) one.1) (eqb-true (owner owners n) w two.1) (not-true (is_in n s.computed) three.1) full
    step-follows (Deliver from to count) legal =
        let three = and_parts (nat_lt from workers && nat_lt to workers && nat_le 1 count) (nat_le count (length (s.mail.unsent from to))) legal in
        let two = and_parts (nat_lt from workers && nat_lt to workers) (nat_le 1 count) three.0 in
        let one = and_parts (nat_lt from workers) (nat_lt to workers) two.0 in
        deliver-kept p g owners workers left q line c d sound s now from to count (ltb-true from workers one.0) (ltb-true to workers one.1) (leb-true 1 count two.1) (leb-true count (length (s.mail.unsent from to)) three.1)
    step-follows (Arrive w) legal =
        let three = and_parts (nat_lt w workers && not (s.arrived w) && has_computed p g owners workers s w) (has_delivered p g owners workers s w) legal in
        let two = and_parts (nat_lt w workers && not (s.arrived w)) (has_computed p g owners workers s w) three.0 in
        arrive-kept p g owners workers left q line c d sound s now w
        (λ n in_range own.
        sym (ap (λ b. cond b (is_in n s.computed) true) (eq-eqb (owner owners n) w own))
        ∙ all-below (λ m. if nat_eq (owner owners m) w then is_in m s.computed else true) 0 (node_count g) two.1 n (omega arith) (omega (arith, in_range)))
        (λ to in_range. nil_from_length (s.mail.unsent w to) (eqb-true (length (s.mail.unsent w to)) 0 (all-below (λ t. nat_eq (length (s.mail.unsent w t)) 0) 0 workers three.1 to (omega arith) (omega (arith, in_range)))))
    step-follows Release legal =
        release-stands p g owners workers left q line c d sound s now dealt (λ w in_range. all-below s.arrived 0 workers legal w (omega arith) (omega (arith, in_range))) full

  event-follows : (next : Pause) (d : Nodes) → length d.fields ≡ node_count g → (s : Core) → Holds next d s → (e : Event) → is_legal p g owners workers s e ≡ true →
      Follows e next d (effect p g owners workers s e)
  event-follows (Stops how) d full s h e legal = absurd (true≢false (sym legal ∙ ap (λ n. is_legal_by p g owners workers n s e) h.next))
  event-follows (Steps left q line c) d full s h e legal =
      subst (λ n. Follows e (Steps left q line c) d (effect_by p g owners workers n s e)) (sym h.next)
      (step-follows left q line c d full s h e (sym (ap (λ n. is_legal_by p g owners workers n s e) h.next) ∙ legal))

  -- a release counts a superstep
  release-counts : (next : Pause) (d : Nodes) (s : Core) → Holds next d s → is_legal p g owners workers s Release ≡ true → (next_by p g next d).nodes.supersteps ≡ suc d.supersteps
  release-counts (Stops how) d s h legal = absurd (true≢false (sym legal ∙ ap (λ n. is_legal_by p g owners workers n s Release) h.next))
  release-counts (Steps left q line c) d s h legal = omega arith

  -- events without a release
  pub quiet : (es : List Event) (next : Pause) (d : Nodes) → length d.fields ≡ node_count g → (s : Core) → Holds next d s → AllLegal p g owners workers s es → released es ≡ 0 → Holds next d (effects p g owners workers s es)
  quiet [] next d full s h legal none = h
  quiet (Compute w n ∷ es) next d full s h legal none = quiet es next d full (effect p g owners workers s (Compute w n)) (event-follows next d full s h (Compute w n) legal.0) legal.1 none
  quiet (Deliver from to count ∷ es) next d full s h legal none = quiet es next d full (effect p g owners workers s (Deliver from to count)) (event-follows next d full s h (Deliver from to count) legal.0) legal.1 none
  quiet (Arrive w ∷ es) next d full s h legal none = quiet es next d full (effect p g owners workers s (Arrive w)) (event-follows next d full s h (Arrive w) legal.0) legal.1 none
  quiet (Release ∷ es) next d full s h legal none = absurd (omega arith)

  -- events with one release at their end
  pub one-release : (es : List Event) (next : Pause) (d : Nodes) → length d.fields ≡ node_count g → (s : Core) → StandsFor p g owners workers s (record { next = next; nodes = d }) → released es ≡ 0 →
      AllLegal p g owners workers s es → is_legal p g owners workers (effects p g owners workers s es) Release ≡ true →
      StandsFor p g owners workers (effect p g owners workers (effects p g owners workers s es) Release) (next_by p g next d)
  one-release es next d full s stands none legal last =
      event-follows next d full (effects p g owners workers s es) (quiet es next d full s (stands-hold next d s stands) legal none) Release last

  module _ (args : List Value) (turns : ℕ) where
    abbrev At : ℕ → State
    At k = after p g args turns k

    full-at : (k : ℕ) → length (At k).nodes.fields ≡ node_count g
    full-at zero = length-map (enumerate_from 0 g.numbers) (start_fields p g) ∙ length-enumerate_from 0 g.numbers
    full-at (suc k) = fields-next p g (At k).next (At k).nodes ∙ full-at k

    pub record HoldsAt (k : ℕ) (s : Core) : Type 0 where
      pub holds : Holds (At k).next (At k).nodes s
      pub counted : (At k).nodes.supersteps ≡ k

    one-more : (e : Event) (es : List Event) (k : ℕ) (s : Core) → HoldsAt k s → is_legal p g owners workers s e ≡ true →
        HoldsAt (released (e ∷ []) + k) (effect p g owners workers s e)
    one-more (Compute w n) es k s at legal =
        let same : HoldsAt k (effect p g owners workers s (Compute w n)) = record { holds = event-follows (At k).next (At k).nodes (full-at k) s at.holds (Compute w n) legal; counted = at.counted } in
        subst (λ j. HoldsAt j (effect p g owners workers s (Compute w n))) (let e : k ≡ 0 + k = omega arith in e) same
    one-more (Deliver from to count) es k s at legal =
        let same : HoldsAt k (effect p g owners workers s (Deliver from to count)) = record { holds = event-follows (At k).next (At k).nodes (full-at k) s at.holds (Deliver from to count) legal; counted = at.counted } in
        subst (λ j. HoldsAt j (effect p g owners workers s (Deliver from to count))) (let e : k ≡ 0 + k = omega arith in e) same
    one-more (Arrive w) es k s at legal =
        let same : HoldsAt k (effect p g owners workers s (Arrive w)) = record { holds = event-follows (At k).next (At k).nodes (full-at k) s at.holds (Arrive w) legal; counted = at.counted } in
        subst (λ j. HoldsAt j (effect p g owners workers s (Arrive w))) (let e : k ≡ 0 + k = omega arith in e) same
    one-more Release es k s at legal =
        let next : HoldsAt (suc k) (effect p g owners workers s Release) = record {
          holds = stands-hold (At (suc k)).next (At (suc k)).nodes (effect p g owners workers s Release) (event-follows (At k).next (At k).nodes (full-at k) s at.holds Release legal);
          counted = release-counts (At k).next (At k).nodes s at.holds legal ∙ ap suc at.counted;
        } in
        subst (λ j. HoldsAt j (effect p g owners workers s Release)) (let e : suc k ≡ 1 + k = omega arith in e) next

    released-more : (e : Event) (es : List Event) (k : ℕ) → released es + (released (e ∷ []) + k) ≡ released (e ∷ es) + k
    released-more (Compute w n) es k = omega arith
    released-more (Deliver from to count) es k = omega arith
    released-more (Arrive w) es k = omega arith
    released-more Release es k = omega arith

    pub reach : (es : List Event) (k : ℕ) (s : Core) → HoldsAt k s → AllLegal p g owners workers s es → HoldsAt (released es + k) (effects p g owners workers s es)
    reach [] k s at legal = subst (λ j. HoldsAt j s) (let e : k ≡ 0 + k = omega arith in e) at
    reach (e ∷ es) k s at legal =
        subst (λ j. HoldsAt j (effects p g owners workers (effect p g owners workers s e) es)) (released-more e es k)
        (reach es (released (e ∷ []) + k) (effect p g owners workers s e) (one-more e es k s at legal.0) legal.1)

    begun : HoldsAt 0 (start p g owners workers args turns)
    begun = record {
      holds = stands-hold (At 0).next (At 0).nodes (start p g owners workers args turns) (record {
        next = refl;
        fields = refl;
        supersteps = refl;
        messages = refl;
        waiting = λ w some. same_nil;
        rests = refl;
      });
      counted = refl;
    }

    reached-at : (k : ℕ) (next : Pause) (d : Nodes) (s : Core) → next ≡ (At k).next → d ≡ (At k).nodes → Holds next d s → d.supersteps ≡ k → length d.fields ≡ node_count g →
        (n : ℕ) → n < node_count g → slice_index_or s.fields n [] ≡ slice_index_or (if is_in n s.computed then (next_by p g next d).nodes.fields else d.fields) n []
    reached-at k (Stops how) d s next_is d_is h counted full n in_range =
        ap (λ l. slice_index_or l n []) h.fields ∙ same (is_in n s.computed)
      where
        same : (b : Bool) → slice_index_or d.fields n [] ≡ slice_index_or (cond b d.fields d.fields) n []
        same true = refl
        same false = refl
    reached-at k (Steps left q line c) d s next_is d_is h counted full n in_range = by (is_in n s.computed) refl where
      steps : slice_index_or (superstep p g q c.globals d).nodes.fields n [] ≡ (own_step p g owners workers left q line c d n).state.fields
      steps =
          ap (λ l. slice_index_or (map (λ a. a.state.fields) l) n []) (
          ap (map (step_of p g (block_at p q) c.globals d.sent)) (enumerated [] d.fields 0 d.fields (λ k. ap (λ n. slice_index_or d.fields n []) (let e : 0 + k ≡ k = omega arith in e)))
          ∙ map-map (λ n. (n, slice_index_or d.fields n [])) (step_of p g (block_at p q) c.globals d.sent) (range_with_len 0 (length d.fields)))
          ∙ ap (λ l. slice_index_or l n []) (map-map (own_step p g owners workers left q line c d) (λ a. a.state.fields) (range_with_len 0 (length d.fields)))
          ∙ get_or-map-range_with_len (λ m. (own_step p g owners workers left q line c d m).state.fields) 0 (length d.fields) n n [] (omega (arith, full, in_range)) (omega arith)

      by : (b : Bool) → is_in n s.computed ≡ b → slice_index_or s.fields n [] ≡ slice_index_or (cond (is_in n s.computed) (superstep p g q c.globals d).nodes.fields d.fields) n []
      by true is = h.new n is ∙ sym steps ∙ ap (λ b. slice_index_or (cond b (superstep p g q c.globals d).nodes.fields d.fields) n []) (sym is)
      by false is = h.old n is ∙ ap (λ b. slice_index_or (cond b (superstep p g q c.globals d).nodes.fields d.fields) n []) (sym is)

    ends-same : (next : Pause) (d : Nodes) (s : Core) → Holds next d s →
        end_by p s.next (record { fields = s.fields; sent = []; supersteps = s.supersteps; messages = s.messages }) ≡ end_by p next d
    ends-same (Stops how) d s h =
        let made : List (List Value) → ℕ → ℕ → Option RunEnd = λ fs k m. Some (record { outcome = outcome p how fs; supersteps = k; messages = m }) in
        ap (λ n. end_by p n (record { fields = s.fields; sent = []; supersteps = s.supersteps; messages = s.messages })) h.next
        ∙ ap (λ fs. made fs s.supersteps s.messages) h.fields
        ∙ ap (λ k. made d.fields k s.messages) h.supersteps
        ∙ ap (made d.fields d.supersteps) h.messages
    ends-same (Steps left q line c) d s h = ap (λ n. end_by p n (record { fields = s.fields; sent = []; supersteps = s.supersteps; messages = s.messages })) h.next

    steps-same : (next : Pause) (d : Nodes) (s : Core) → Holds next d s → s.supersteps ≡ d.supersteps
    steps-same (Stops how) d s h = h.supersteps
    steps-same (Steps left q line c) d s h = h.supersteps

    -- what legal events come to
    pub reached : (es : List Event) → AllLegal p g owners workers (start p g owners workers args turns) es →
        Reached p g args turns owners (effects p g owners workers (start p g owners workers args turns) es) (released es)
    reached es legal =
        let s : Core = effects p g owners workers (start p g owners workers args turns) es in
        let k : ℕ = released es in
        let at : HoldsAt k s = subst (λ j. HoldsAt j s) (let e : released es + 0 ≡ released es = omega arith in e) (reach es 0 (start p g owners workers args turns) begun legal) in
        record {
          next = holds-next (At k).next (At k).nodes s at.holds;
          step = steps-same (At k).next (At k).nodes s at.holds ∙ at.counted;
          ended = ends-same (At k).next (At k).nodes s at.holds;
          fields = reached-at k (At k).next (At k).nodes s refl refl at.holds at.counted (full-at k);
        }

    parts : (es : List Event) (s : Core) → AllLegal p g owners workers s (es ++ Release ∷ []) → AllLegal p g owners workers s es × (is_legal p g owners workers (effects p g owners workers s es) Release ≡ true)
    parts [] s legal = (tt, legal.0)
    parts (e ∷ es) s legal = let rest = parts es (effect p g owners workers s e) legal.1 in ((legal.0, rest.0), rest.1)

    last : (es : List Event) (s : Core) → effects p g owners workers s (es ++ Release ∷ []) ≡ effect p g owners workers (effects p g owners workers s es) Release
    last [] s = refl
    last (e ∷ es) s = last es (effect p g owners workers s e)

    -- just after a release
    pub release-reached : (es : List Event) → AllLegal p g owners workers (start p g owners workers args turns) (es ++ Release ∷ []) →
        StandsFor p g owners workers (effects p g owners workers (start p g owners workers args turns) (es ++ Release ∷ [])) (after p g args turns (suc (released es)))
    release-reached es legal =
        let two = parts es (start p g owners workers args turns) legal in
        let s : Core = effects p g owners workers (start p g owners workers args turns) es in
        let k : ℕ = released es in
        let at : HoldsAt k s = subst (λ j. HoldsAt j s) (let e : released es + 0 ≡ released es = omega arith in e) (reach es 0 (start p g owners workers args turns) begun two.0) in
        subst (λ t. StandsFor p g owners workers t (after p g args turns (suc k))) (sym (last es (start p g owners workers args turns)))
        (event-follows (At k).next (At k).nodes (full-at k) s at.holds Release two.1)

    -- the end comes in time
    pub ends-in-time : (es : List Event) → AllLegal p g owners workers (start p g owners workers args turns) es →
        EndsInTime (end_of p g owners workers (effects p g owners workers (start p g owners workers args turns) es)) (machine p g args turns) (released es)
    ends-in-time es legal =
        let same = (reached es legal).ended in
        let k : ℕ = released es in
        let both = in-time p g args turns k in
        record {
          over = λ few. same ∙ some-end (end_by p (At k).next (At k).nodes) (both.1 few) (λ end is. ends-as p g args turns k end is);
          under_way = λ more. same ∙ no-end (end_by p (At k).next (At k).nodes) (λ some. let few = both.0 some in omega (arith, more, few));
        }
      where
        some-end : (o : Option RunEnd) → IsSome o → ((end : RunEnd) → o ≡ Some end → machine p g args turns ≡ end) → o ≡ Some (machine p g args turns)
        some-end (Some end) some each = ap Some (sym (each end refl))
        some-end None some each = absurd (true≢false (sym some))

        no-end : (o : Option RunEnd) → (IsSome o → ⊥) → o ≡ None
        no-end (Some end) none = absurd (none refl)
        no-end None none = refl
