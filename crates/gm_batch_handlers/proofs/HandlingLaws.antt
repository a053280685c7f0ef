-- Handlers of a node, from what its messages give.
use Rattle.std.proofs.Common.{◌≡◌, ◌≢◌, ◌∙◌, ◌<◌, ◌+◌, ℕ, zero, suc, nat_eq, Bool, true, false, cond, List, [], ◌∷◌, ◌++◌, Option, Some, None, refl, ap, sym, subst, map, length, get_or, arith, ⊎_elim}
use Rattle.std.specs.Prelude.{Ok, filter}
use Rattle.std.specs.List.{AllByRecursion, AllZip, flat_map}
use Rattle.std.proofs.lemmas.Bool.{cases_eq, eq-eqb, ne_eqb}
use Rattle.std.proofs.lemmas.List.{length-map, map-append}
use Rattle.std.proofs.lemmas.List.Elements.{filter-append}
use Rattle.gm_value.specs.declared.values.Value.{Value}
use Rattle.gm_value.specs.declared.values.Value.TheVariants.{At}
use Rattle.gm_columns.specs.TypedRows.{typed_row}
use Rattle.gm_value.specs.declared.values.VType.{VType}
use Rattle.gm_value.specs.declared.reductions.Reduce.{Reduce}
use Rattle.gm_value.specs.Numbers.{zero_of}
use Rattle.gm_image.specs.Views.{program}
use Rattle.gm_machine.specs.declared.faults.Fault.{Fault}
use Rattle.gm_machine.specs.declared.node_steps.Duty.{Duty}
use Rattle.gm_machine.specs.Expressions.{value_at}
use Rattle.gm_machine.specs.Faults.{lesser, least_from}
use Rattle.gm_machine.specs.Machine.{block_at, context_at, inbox, row_at}
use Rattle.gm_machine.specs.Taking.{Contribution, Settled, slot_after}
use Rattle.gm_machine.specs.Vertex.{Message, After, begun, ended, folded, handler_run}
use Rattle.gm_batch_steps.proofs.LineLaws.{get-map}
use Rattle.gm_batch_handlers.specs.declared.row_states.SlotTotal.{SlotTotal}
use Rattle.gm_batch_handlers.specs.Gifts.{Gift, contribution, to_slot, of_node, values_given, held_in, with_totals, AreBy, IsTotal, Closes}
use Rattle.gm_batch_handlers.specs.Gathering.{run_of, Gives, Gathers}
use Rattle.gm_batch_handlers.specs.Handling.{Handles}
use Rattle.gm_batch_handlers.proofs.SlotLaws.{settled-is, slot-closes, slot-kept}
use Rattle.gm_batch_handlers.proofs.TotalLaws.{held-long}

-- gifts of one node, and of others
mine : (at : ℕ) (gs : List Gift) → AllByRecursion (λ g. g.at ≡ at) gs → of_node at gs ≡ gs
mine at [] h = refl
mine at (g ∷ gs) h = ap (λ b. cond b (g ∷ of_node at gs) (of_node at gs)) (eq-eqb g.at at h.0) ∙ ap (λ l. g ∷ l) (mine at gs h.1)

not-mine : (at to : ℕ) (gs : List Gift) → to ≢ at → AllByRecursion (λ g. g.at ≡ to) gs → of_node at gs ≡ []
not-mine at to [] other h = refl
not-mine at to (g ∷ gs) other h = ap (λ b. cond b (g ∷ of_node at gs) (of_node at gs)) (ne_eqb g.at at (λ e. other (sym h.0 ∙ e))) ∙ not-mine at to gs other h.1

-- of two tests either may come first
filters-past : {A : Type 0} (p q : A → Bool) (xs : List A) → filter p (filter q xs) ≡ filter q (filter p xs)
filters-past p q [] = refl
filters-past p q (x ∷ xs) = by (filters-past p q xs) (p x) (q x) refl refl where
  by : filter p (filter q xs) ≡ filter q (filter p xs) → (b c : Bool) → p x ≡ b → q x ≡ c → filter p (cond (q x) (x ∷ filter q xs) (filter q xs)) ≡ filter q (cond (p x) (x ∷ filter p xs) (filter p xs))
  by rest true true e f =
      ap (λ c. filter p (cond c (x ∷ filter q xs) (filter q xs))) f ∙ ap (λ b. cond b (x ∷ filter p (filter q xs)) (filter p (filter q xs))) e
      ∙ ap (λ l. x ∷ l) (rest)
      ∙ sym (ap (λ b. filter q (cond b (x ∷ filter p xs) (filter p xs))) e ∙ ap (λ c. cond c (x ∷ filter q (filter p xs)) (filter q (filter p xs))) f)
  by rest true false e f =
      ap (λ c. filter p (cond c (x ∷ filter q xs) (filter q xs))) f
      ∙ rest
      ∙ sym (ap (λ b. filter q (cond b (x ∷ filter p xs) (filter p xs))) e ∙ ap (λ c. cond c (x ∷ filter q (filter p xs)) (filter q (filter p xs))) f)
  by rest false true e f =
      ap (λ c. filter p (cond c (x ∷ filter q xs) (filter q xs))) f ∙ ap (λ b. cond b (x ∷ filter p (filter q xs)) (filter p (filter q xs))) e
      ∙ rest
      ∙ sym (ap (λ b. filter q (cond b (x ∷ filter p xs) (filter p xs))) e)
  by rest false false e f =
      ap (λ c. filter p (cond c (x ∷ filter q xs) (filter q xs))) f
      ∙ rest
      ∙ sym (ap (λ b. filter q (cond b (x ∷ filter p xs) (filter p xs))) e)

-- the run of the handler of a message to a node
abbrev run-at : Duty → List ℕ → List (List Value) → ℕ → Message → After
run-at d nodes columns at m =
    handler_run (context_at d.graph.now d.globals.now (get_or nodes at 0)) (block_at (program d.image.now) d.block).handlers
    (begun (program d.image.now).registers (row_at columns at)) m

-- what the runs of a node's messages leave together
record RunsAt (d : Duty) (nodes : List ℕ) (columns : List (List Value)) (at : ℕ) (messages : List Message) (gifts : List (List Gift)) : Type 0 where
  sent : flat_map (λ a. a.state.messages) (map (run-at d nodes columns at) (inbox messages at)) ≡ []
  put : flat_map (λ a. a.state.puts) (map (run-at d nodes columns at) (inbox messages at)) ≡ []
  folds : flat_map (λ a. a.state.folds) (map (run-at d nodes columns at) (inbox messages at)) ≡ map contribution (of_node at (flat_map (λ gs. gs) gifts))
  fault : least_from None (map (λ a. a.fault) (map (run-at d nodes columns at) (inbox messages at))) ≡ None

runs-at : (d : Duty) (nodes : List ℕ) (columns : List (List Value)) (at : ℕ) (messages : List Message) (gifts : List (List Gift)) → AllZip (Gives d nodes columns) messages gifts
    → RunsAt d nodes columns at messages gifts
runs-at d nodes columns at [] [] h = record { sent = refl; put = refl; folds = refl; fault = refl }
runs-at d nodes columns at [] (gs ∷ gifts) h = absurd h
runs-at d nodes columns at (m ∷ messages) [] h = absurd h
runs-at d nodes columns at (m ∷ messages) (gs ∷ gifts) h =
    let more : RunsAt d nodes columns at messages gifts = runs-at d nodes columns at messages gifts h.1 in
    let all : List Gift = flat_map (λ gs. gs) gifts in
    let runs : List Message → List After = λ ms. map (run-at d nodes columns at) ms in
    ⊎_elim
    (λ (here : m.to ≡ at).
    let in-front : inbox (m ∷ messages) at ≡ m ∷ inbox messages at = ap (λ b. cond b (m ∷ inbox messages at) (inbox messages at)) (eq-eqb m.to at here) in
    let same : run-at d nodes columns at m ≡ run_of d nodes columns m = ap (λ k. run-at d nodes columns k m) (sym here) in
    let one : Gives d nodes columns m gs = h.0 in
    let theirs : AllByRecursion (λ g. g.at ≡ at) gs = subst (λ k. AllByRecursion (λ g. g.at ≡ k) gs) here one.theirs in
    record {
      sent = ap (λ ms. flat_map (λ a. a.state.messages) (runs ms)) in-front
          ∙ (λ i. (same i).state.messages ++ flat_map (λ a. a.state.messages) (runs (inbox messages at)))
          ∙ (λ i. one.messages i ++ more.sent i);
      put = ap (λ ms. flat_map (λ a. a.state.puts) (runs ms)) in-front
          ∙ (λ i. (same i).state.puts ++ flat_map (λ a. a.state.puts) (runs (inbox messages at)))
          ∙ (λ i. one.puts i ++ more.put i);
      folds = ap (λ ms. flat_map (λ a. a.state.folds) (runs ms)) in-front
          ∙ (λ i. (same i).state.folds ++ flat_map (λ a. a.state.folds) (runs (inbox messages at)))
          ∙ (λ i. one.folds i ++ more.folds i)
          ∙ sym (map-append contribution gs (of_node at all))
          ∙ ap (map contribution) (ap (λ l. l ++ of_node at all) (sym (mine at gs theirs)) ∙ sym (filter-append (λ g. nat_eq g.at at) gs all));
      fault = ap (λ ms. least_from None (map (λ a. a.fault) (runs ms))) in-front
          ∙ (λ i. least_from (lesser None (same i).fault) (map (λ a. a.fault) (runs (inbox messages at))))
          ∙ (λ i. least_from (lesser None (one.fault i)) (map (λ a. a.fault) (runs (inbox messages at))))
          ∙ more.fault;
    })
    (λ (other : m.to ≢ at).
    let passed : inbox (m ∷ messages) at ≡ inbox messages at = ap (λ b. cond b (m ∷ inbox messages at) (inbox messages at)) (ne_eqb m.to at other) in
    let one : Gives d nodes columns m gs = h.0 in
    record {
      sent = ap (λ ms. flat_map (λ a. a.state.messages) (runs ms)) passed ∙ more.sent;
      put = ap (λ ms. flat_map (λ a. a.state.puts) (runs ms)) passed ∙ more.put;
      folds = ap (λ ms. flat_map (λ a. a.state.folds) (runs ms)) passed ∙ more.folds
          ∙ ap (map contribution) (ap (λ l. l ++ of_node at all) (sym (not-mine at m.to gs other one.theirs)) ∙ sym (filter-append (λ g. nat_eq g.at at) gs all));
      fault = ap (λ ms. least_from None (map (λ a. a.fault) (runs ms))) passed ∙ more.fault;
    })
    (cases_eq m.to at)

-- columns with totals
pub totals-at : (columns : List (List Value)) (totals : List (Option SlotTotal)) (slot : ℕ) → length totals ≡ length columns → slot < length columns
    → get_or (with_totals columns totals) slot [] ≡ held_in (get_or columns slot []) (get_or totals slot None)
totals-at [] totals slot long lt = absurd (omega (arith, lt))
totals-at (xs ∷ columns) [] slot long lt = absurd (omega (arith, long))
totals-at (xs ∷ columns) (t ∷ totals) zero long lt = refl
totals-at (xs ∷ columns) (t ∷ totals) (suc slot) long lt = totals-at columns totals slot (omega (arith, long)) (omega (arith, lt))

pub totals-wide : (columns : List (List Value)) (totals : List (Option SlotTotal)) → length (with_totals columns totals) ≡ length columns
totals-wide [] totals = refl
totals-wide (xs ∷ columns) [] = refl
totals-wide (xs ∷ columns) (t ∷ totals) = ap suc (totals-wide columns totals)

totals-long : (columns : List (List Value)) (totals : List (Option SlotTotal)) → length totals ≡ length columns
    → ((slot : ℕ) → slot < length columns → length (held_in (get_or columns slot []) (get_or totals slot None)) ≡ length (get_or columns slot []))
    → map length (with_totals columns totals) ≡ map length columns
totals-long [] totals long h = refl
totals-long (xs ∷ columns) [] long h = absurd (omega (arith, long))
totals-long (xs ∷ columns) (t ∷ totals) long h =
    λ i. h 0 (omega arith) i ∷ totals-long columns totals (omega (arith, long)) (λ slot lt. h (suc slot) (omega (arith, lt))) i

-- a slot of a node
slot-is : (places at slot : ℕ) (held row : List Value) (gifts : List Gift) (t : Option SlotTotal) → at < length held → value_at row slot ≡ value_at held at → IsTotal places held (to_slot slot gifts) t
    → slot_after places (map contribution (of_node at gifts)) row slot ≡ Ok (value_at (held_in held t) at)
slot-is places at slot held row gifts None lt e h =
    slot-kept places slot row (of_node at gifts) (filters-past (λ g. nat_eq g.slot slot) (λ g. nat_eq g.at at) gifts ∙ ap (of_node at) h) ∙ ap Ok e
slot-is places at slot held row gifts (Some t) lt e h =
    let past : to_slot slot (of_node at gifts) ≡ of_node at (to_slot slot gifts) = filters-past (λ g. nat_eq g.slot slot) (λ g. nat_eq g.at at) gifts in
    slot-closes places t.place slot t.reduce row (of_node at gifts) (value_at (typed_row t.cells).values at) h.within
    (subst (λ l. AreBy t.reduce t.place l) (sym past) (by-of-node at t.reduce t.place (to_slot slot gifts) h.way))
    (subst (λ l. Closes t.reduce (value_at row slot) (values_given l) (value_at (typed_row t.cells).values at)) (sym past)
    (subst (λ v. Closes t.reduce v (values_given (of_node at (to_slot slot gifts))) (value_at (typed_row t.cells).values at)) (sym e) (h.closed.each at lt)))
  where
    by-if : (b : Bool) (r : Reduce) (place : ℕ) (g : Gift) (gs : List Gift) → (g.reduce ≡ r) × (g.place ≡ place) → AreBy r place gs → AreBy r place (cond b (g ∷ gs) gs)
    by-if true r place g gs one more = (one, more)
    by-if false r place g gs one more = more

    by-of-node : (at : ℕ) (r : Reduce) (place : ℕ) (gs : List Gift) → AreBy r place gs → AreBy r place (of_node at gs)
    by-of-node at r place [] h = tt
    by-of-node at r place (g ∷ gs) h = by-if (nat_eq g.at at) r place g (of_node at gs) h.0 (by-of-node at r place gs h.1)

-- the handlers of all nodes
pub all-handled : (d : Duty) (nodes : List ℕ) (messages : List Message) (columns : List (List Value)) (totals : List (Option SlotTotal))
    → ((slot : ℕ) → slot < length columns → length (get_or columns slot []) ≡ length nodes)
    → Gathers d nodes columns messages totals → Handles d nodes messages columns (with_totals columns totals)
all-handled d nodes messages columns totals full g = record {
  long = totals-long columns totals g.total.wide
      (λ slot lt. held-long places (get_or columns slot []) (to_slot slot gifts) (get_or totals slot None) (g.total.each slot lt));
  each = λ at lt.
      let row = row_at columns at in
      let new = row_at (with_totals columns totals) at in
      let runs : RunsAt d nodes columns at messages g.gifts = runs-at d nodes columns at messages g.gifts g.given in
      let to : List Message → List Contribution → List Contribution → Option Fault → After = λ ms ps fs f. folded places (record {
        state = record { fields = row; registers = map zero_of registers; messages = ms; puts = ps; folds = fs };
        fault = f;
        skip = 0;
      }) in
      let taken : Settled → After = λ s. ended (record { fields = s.values; registers = map zero_of registers; messages = []; puts = []; folds = [] }) (lesser None s.fault) 0 in
      (λ i. to (runs.sent i) (runs.put i) (runs.folds i) (runs.fault i))
      ∙ ap taken (settled-is places (map contribution (of_node at gifts)) row new
      (length-map (with_totals columns totals) (λ values. value_at values at) ∙ totals-wide columns totals ∙ sym (length-map columns (λ values. value_at values at)))
      (λ slot below.
      let there : slot < length columns = omega (arith, below, length-map columns (λ values. value_at values at)) in
      slot-is places at slot (get_or columns slot []) row gifts (get_or totals slot None)
      (omega (arith, lt, full slot there)) (get-map (λ values. value_at values at) columns slot [] (At None) there) (g.total.each slot there)
      ∙ ap Ok (sym (get-map (λ values. value_at values at) (with_totals columns totals) slot [] (At None) (omega (arith, there, totals-wide columns totals))
      ∙ ap (λ values. value_at values at) (totals-at columns totals slot g.total.wide there)))));
} where
  places : ℕ
  places = length (program d.image.now).places

  registers : List VType
  registers = (program d.image.now).registers

  gifts : List Gift
  gifts = flat_map (λ gs. gs) g.gifts
