-- A value that a row folds onto one of its fields.
use Rattle.std.proofs.Common.{◌≡◌, ◌≢◌, ◌∙◌, ◌<◌, ◌+◌, inr, ℕ, suc, Bool, true, false, cond, ◌&&◌, ◌||◌, Option, Some, None, List, [], ◌∷◌, ◌++◌, refl, ap, sym, subst, map, length, get_or, set, arith, add-one, length-set, ⊎_elim, if◌then◌else◌}
use Rattle.std.specs.Prelude.{Result, Ok, Err, All}
use Rattle.std.specs.List.{AllByRecursion, AllZip, enumerate_from}
use Rattle.std.specs.Option.{option_map, option_and_then}
use Rattle.std.proofs.lemmas.Bool.{cases_eq, eq-eqb, ne_eqb, true≢false}
use Rattle.std.proofs.lemmas.List.{append-nil, get_or-set_same, get_or-set_other, get_or_default, length-map}
use Rattle.std.proofs.lemmas.List.Elements.{All-from_recursion, All-get_or, recursion_from_All}
use Rattle.std.proofs.lemmas.Option.{none-some, same_Some}
use Rattle.gm_value.specs.declared.values.Value.{Value}
use Rattle.gm_value.specs.declared.values.Value.TheVariants.{At}
use Rattle.gm_value.specs.declared.faults.FaultKind.{FaultKind}
use Rattle.gm_value.specs.declared.faults.FaultKind.TheVariants.{Overflow}
use Rattle.gm_value.specs.declared.reductions.Reduce.{Reduce}
use Rattle.gm_value.specs.Laws.{HasUnit}
use Rattle.gm_value.specs.Numbers.{type_of, number_of, fits, value_at as typed_value, checked}
use Rattle.gm_value.specs.Reductions.{combined, unit_of, close}
use Rattle.gm_value.specs.Taking.{of_rank, then_take, at_rank, taken_bag, taken}
use Rattle.gm_value.proofs.MonoidLaws.{combined_assoc, combined_comm}
use Rattle.gm_columns.specs.Cells.{values_of}
use Rattle.gm_image.specs.Program.{Fold}
use Rattle.gm_image.specs.Term.{Term}
use Rattle.gm_kernels.specs.Folding.{folded, fold_in, folded_at}
use Rattle.gm_kernels.specs.Pointwise.{given}
use Rattle.gm_machine.specs.declared.faults.Fault.{Fault}
use Rattle.gm_machine.specs.Expressions.{value, value_at}
use Rattle.gm_machine.specs.Faults.{then_go, lesser, least_from}
use Rattle.gm_machine.specs.Machine.{row_at}
use Rattle.gm_machine.specs.Settling.{answer_of}
use Rattle.gm_machine.specs.Taking.{Contribution, closed, contributed, entry_of, fault_after, fault_of, overflow_at, reduction_of, settled, Settled, slot_after, slot_by, value_after, value_or}
use Rattle.gm_machine.specs.Vertex.{VertexContext, VertexState, After, body_after, ended, folded as taken_folds, goes_on, leaves, line_ends}
use Rattle.gm_machine.proofs.SingleSteps.{closed_first, in_list, taken-single}
use Rattle.gm_machine.proofs.TakingSteps.{taken-gap}
use Rattle.gm_message_columns.specs.MessageTables.{rows_if_any}
use Rattle.gm_batches.specs.ValuesIn.{values_in}
use Rattle.gm_batch_steps.specs.declared.batch_states.BatchContext.{BatchContext}
use Rattle.gm_batch_steps.specs.declared.batch_states.BatchState.{BatchState}
use Rattle.gm_batch_steps.specs.BatchStates.{AreDistinct, IsFull, context_in, field_columns, register_columns, row_state, sent_in, view_in}
use Rattle.gm_batch_steps.specs.LineRuns.{LinesRun, RowRuns}
use Rattle.gm_batch_steps.proofs.BatchLaws.{set-each}
use Rattle.gm_batch_steps.proofs.LineLaws.{flat-nothing, get-map, nothing-more, nothing-settles, row-after, set-same, state-with, zip-each, zip-if}
use Rattle.gm_batch_steps.proofs.RowLemmas.{each-both, row-values, zip-length}

-- one contribution to one slot
abbrev gift : ℕ → Reduce → ℕ → Value → Contribution
gift place reduce slot v = record { place = place; reduce = reduce; slots = slot ∷ []; values = v ∷ [] }

abbrev rank : Contribution → ℕ
rank c = c.place

rank-none : (place s slot : ℕ) (r : Reduce) (v : Value) → place ≢ s → of_rank rank s (gift place r slot v ∷ []) ≡ []
rank-none place s slot r v other = ap (λ b. cond b (gift place r slot v ∷ []) []) (ne_eqb place s other)

taken-once : (places place slot : ℕ) (r : Reduce) (h v new : Value) → place < places → close r h (v ∷ []) ≡ Ok new
    → taken rank (closed_first r) places h (gift place r slot v ∷ []) ≡ Ok new
taken-once places place slot r h v new lt closes =
    let cs : List Contribution = gift place r slot v ∷ [] in
    taken-gap rank (closed_first r) (place + 1) places h cs (omega (arith, lt)) (λ s low high. rank-none place s slot r v (λ e. absurd (omega (arith, e, low))))
    ∙ ap (λ k. taken rank (closed_first r) k h cs) (add-one place)
    ∙ ap (λ e. then_take e (λ x. taken_bag (closed_first r) place x (of_rank rank place cs)))
    (taken-gap rank (closed_first r) 0 place h cs (omega arith) (λ s low high. rank-none place s slot r v (λ e. absurd (omega (arith, e, high)))))
    ∙ ap (λ b. taken_bag (closed_first r) place h (cond b cs [])) (eq-eqb place place refl)
    ∙ ap (λ a. at_rank place (answer_of a)) closes

-- its slot, and another
slot-closes : (places place slot : ℕ) (r : Reduce) (held : List Value) (v new : Value) → place < places → close r (value_at held slot) (v ∷ []) ≡ Ok new
    → slot_after places (gift place r slot v ∷ []) held slot ≡ Ok new
slot-closes places place slot r held v new lt closes =
    let h = value_at held slot in
    let cs : List Contribution = gift place r slot v ∷ [] in
    let entry : Result (List Value) ℕ → Result Value Fault = λ e. then_go (overflow_at e) (λ vs. Ok (entry_of slot (slot ∷ []) vs h)) in
    ap (λ b. slot_by places cs held slot (option_map reduction_of (cond (b || false) (Some (gift place r slot v)) None))) (eq-eqb slot slot refl)
    ∙ ap (λ b. entry (taken rank (closed r) places (h ∷ []) (cond (b && true) cs []))) (eq-eqb slot slot refl)
    ∙ ap entry (taken-single r places h cs ∙ ap in_list (taken-once places place slot r h v new lt closes))
    ∙ ap (λ b. Ok (cond b new h)) (eq-eqb slot slot refl)

slot-kept : (places place slot other : ℕ) (r : Reduce) (held : List Value) (v : Value) → slot ≢ other → slot_after places (gift place r slot v ∷ []) held other ≡ Ok (value_at held other)
slot-kept places place slot other r held v apart =
    ap (λ b. slot_by places (gift place r slot v ∷ []) held other (option_map reduction_of (cond (b || false) (Some (gift place r slot v)) None))) (ne_eqb slot other apart)

-- all slots
module _ (places : ℕ) (cs : List Contribution) (held : List Value) where
  here : (i : ℕ) (ys : List Value) (n : ℕ) → ((k : ℕ) → k < suc n → slot_after places cs held (i + k) ≡ Ok (value_at ys k)) → slot_after places cs held i ≡ Ok (value_at ys 0)
  here i ys n h = ap (slot_after places cs held) (let e : i ≡ i + 0 = omega arith in e) ∙ h 0 (omega arith)

  rest : (i : ℕ) (y : Value) (ys : List Value) (n : ℕ) → ((k : ℕ) → k < suc n → slot_after places cs held (i + k) ≡ Ok (value_at (y ∷ ys) k))
      → (k : ℕ) → k < n → slot_after places cs held ((i + 1) + k) ≡ Ok (value_at ys k)
  rest i y ys n h k lt = ap (slot_after places cs held) (let e : (i + 1) + k ≡ i + suc k = omega arith in e) ∙ h (suc k) (omega (arith, lt))

  all-values-after : (i : ℕ) (xs ys : List Value) → length ys ≡ length xs → ((k : ℕ) → k < length xs → slot_after places cs held (i + k) ≡ Ok (value_at ys k))
      → map (value_after places cs held) (enumerate_from i xs) ≡ ys
  all-values-after i [] [] long h = refl
  all-values-after i [] (y ∷ ys) long h = absurd (omega (arith, long))
  all-values-after i (x ∷ xs) [] long h = absurd (omega (arith, long))
  all-values-after i (x ∷ xs) (y ∷ ys) long h =
      λ j. value_or x (here i (y ∷ ys) (length xs) h j) ∷ all-values-after (i + 1) xs ys (omega (arith, long)) (rest i y ys (length xs) h) j

  no-faults-after : (i : ℕ) (xs ys : List Value) → length ys ≡ length xs → ((k : ℕ) → k < length xs → slot_after places cs held (i + k) ≡ Ok (value_at ys k))
      → least_from None (map (fault_after places cs held) (enumerate_from i xs)) ≡ None
  no-faults-after i [] ys long h = refl
  no-faults-after i (x ∷ xs) [] long h = absurd (omega (arith, long))
  no-faults-after i (x ∷ xs) (y ∷ ys) long h =
      ap (λ r. least_from (lesser None (fault_of r)) (map (fault_after places cs held) (enumerate_from (i + 1) xs))) (here i (y ∷ ys) (length xs) h)
      ∙ no-faults-after (i + 1) xs ys (omega (arith, long)) (rest i y ys (length xs) h)

  settled-is : (new : List Value) → length new ≡ length held → ((slot : ℕ) → slot < length held → slot_after places cs held slot ≡ Ok (value_at new slot))
      → settled places cs held ≡ record { values = new; fault = None }
  settled-is new long h =
      let to : List Value → Option Fault → Settled = λ vs f. record { values = vs; fault = f } in
      let from-start : (k : ℕ) → k < length held → slot_after places cs held (0 + k) ≡ Ok (value_at new k) =
      λ k lt. ap (slot_after places cs held) (let e : 0 + k ≡ k = omega arith in e) ∙ h k lt in
      λ j. to (all-values-after 0 held new long from-start j) (no-faults-after 0 held new long from-start j)

settled-one : (places place slot : ℕ) (r : Reduce) (held : List Value) (v new : Value) → place < places → slot < length held → close r (value_at held slot) (v ∷ []) ≡ Ok new
    → settled places (gift place r slot v ∷ []) held ≡ record { values = set held slot new; fault = None }
settled-one places place slot r held v new lt inside closes =
    settled-is places (gift place r slot v ∷ []) held (set held slot new) (length-set held slot new)
    (λ k below. ⊎_elim
    (λ (same : slot ≡ k).
    ap (slot_after places (gift place r slot v ∷ []) held) (sym same) ∙ slot-closes places place slot r held v new lt closes
    ∙ ap Ok (sym (ap (value_at (set held slot new)) (sym same) ∙ get_or-set_same held slot new (At None) inside)))
    (λ (apart : slot ≢ k).
    slot-kept places place slot k r held v apart ∙ ap Ok (sym (get_or-set_other held slot k new (At None) (λ e. apart (sym e)))))
    (cases_eq slot k))

-- a value that is folded closes
abbrev is_fine : {A B : Type 0} → Result A B → Bool
is_fine (Ok a) = true
is_fine (Err b) = false

inside : (b : Bool) (v w : Value) → (if b then Ok v else Err Overflow) ≡ Ok w → b ≡ true
inside true v w e = refl
inside false v w e = absurd (true≢false (sym (ap is_fine e)))

given-ok : (r : Result Value FaultKind) (v : Value) → given r ≡ Some v → r ≡ Ok v
given-ok (Ok w) v e = ap Ok (same_Some w v e)
given-ok (Err f) v e = absurd (none-some v e)

closes-first : ((r : Reduce) → HasUnit r) → (r : Reduce) (h v new : Value) → folded r h v ≡ Some new → close r h (v ∷ []) ≡ Ok new
closes-first units r h v new e =
    let t = type_of h in
    let z = combined r (number_of h) (number_of v) in
    let fine : checked t z ≡ Ok new = given-ok (checked t z) new e in
    ap (checked t) (
    sym (combined_assoc r (number_of h) (number_of v) (unit_of r t))
    ∙ combined_comm r z (unit_of r t)
    ∙ (units r t).1 z (inside (fits t z) (typed_value t z) new fine))
    ∙ fine

-- values folded at rows: these have them, and the others what they had
folded-there : (o : Option (List Value)) (go : List Value → Option (List Value)) (ys : List Value) → option_and_then go o ≡ Some ys → (xs : List Value) × ((o ≡ Some xs) × (go xs ≡ Some ys))
folded-there None go ys e = absurd (none-some ys e)
folded-there (Some xs) go ys e = (xs, (refl, e))

set-there : (o : Option Value) (xs ys : List Value) (k : ℕ) → option_map (λ new. set xs k new) o ≡ Some ys → (new : Value) × ((o ≡ Some new) × (ys ≡ set xs k new))
set-there None xs ys k e = absurd (none-some ys e)
set-there (Some new) xs ys k e = (new, (refl, sym (same_Some (set xs k new) ys e)))

pub folded-long : (r : Reduce) (xs : List Value) (rows : List ℕ) (vs ys : List Value) → folded_at r xs rows vs ≡ Some ys → length ys ≡ length xs
folded-long r xs [] vs ys e = ap length (sym (same_Some xs ys e))
folded-long r xs (k ∷ rows) [] ys e = ap length (sym (same_Some xs ys e))
folded-long r xs (k ∷ rows) (v ∷ vs) ys e =
    let there = folded-there (fold_in r xs k v) (λ next. folded_at r next rows vs) ys e in
    let one = set-there (folded r (get_or xs k v) v) xs there.0 k there.1.0 in
    folded-long r there.0 rows vs ys there.1.1 ∙ ap length one.1.1 ∙ length-set xs k one.0

folded-other : (r : Reduce) (xs : List Value) (rows : List ℕ) (vs ys : List Value) (row : ℕ) → folded_at r xs rows vs ≡ Some ys → AllByRecursion (λ k. k ≢ row) rows → value_at ys row ≡ value_at xs row
folded-other r xs [] vs ys row e other = ap (λ l. value_at l row) (sym (same_Some xs ys e))
folded-other r xs (k ∷ rows) [] ys row e other = ap (λ l. value_at l row) (sym (same_Some xs ys e))
folded-other r xs (k ∷ rows) (v ∷ vs) ys row e other =
    let there = folded-there (fold_in r xs k v) (λ next. folded_at r next rows vs) ys e in
    let one = set-there (folded r (get_or xs k v) v) xs there.0 k there.1.0 in
    folded-other r there.0 rows vs ys row there.1.1 other.1
    ∙ ap (λ l. value_at l row) one.1.1
    ∙ get_or-set_other xs k row one.0 (At None) (λ s. other.0 (sym s))

folded-here : (r : Reduce) (held xs : List Value) (rows : List ℕ) (vs ys : List Value) → length xs ≡ length held → length vs ≡ length rows → AllByRecursion (λ k. k < length held) rows → AreDistinct rows
    → AllByRecursion (λ k. value_at xs k ≡ value_at held k) rows → folded_at r xs rows vs ≡ Some ys
    → AllZip (λ row v. folded r (value_at held row) v ≡ Some (value_at ys row)) rows vs
folded-here r held xs [] [] ys long count within distinct same e = tt
folded-here r held xs [] (v ∷ vs) ys long count within distinct same e = absurd (omega (arith, count))
folded-here r held xs (k ∷ rows) [] ys long count within distinct same e = absurd (omega (arith, count))
folded-here r held xs (k ∷ rows) (v ∷ vs) ys long count within distinct same e =
    let there = folded-there (fold_in r xs k v) (λ next. folded_at r next rows vs) ys e in
    let one = set-there (folded r (get_or xs k v) v) xs there.0 k there.1.0 in
    let lt : k < length xs = omega (arith, within.0, long) in (
      ap (λ h. folded r h v) (sym (get_or_default xs k v (At None) lt ∙ same.0))
          ∙ one.1.0
          ∙ ap (λ x. Some x) (sym (folded-other r there.0 rows vs ys k there.1.1 distinct.0 ∙ ap (λ l. value_at l k) one.1.1 ∙ get_or-set_same xs k one.0 (At None) lt)),
      folded-here r held there.0 rows vs ys (ap length one.1.1 ∙ length-set xs k one.0 ∙ long) (omega (arith, count)) within.1 distinct.1
          (each-both (λ row apart is. ap (λ l. value_at l row) one.1.1 ∙ get_or-set_other xs k row one.0 (At None) apart ∙ is) rows distinct.0 same.1)
          there.1.1,
    )

each-same : (xs : List Value) (rows : List ℕ) → AllByRecursion (λ k. value_at xs k ≡ value_at xs k) rows
each-same xs [] = tt
each-same xs (k ∷ rows) = (refl, each-same xs rows)

-- a value for each row, where a column is folded into
pub fold-full : (n f : ℕ) (columns new : List (List Value)) (rows : List ℕ) (r : Reduce) (vs ys : List Value) → All (λ values. length values ≡ n) columns
    → folded_at r (get_or columns f []) rows vs ≡ Some ys → new ≡ set columns f ys → All (λ values. length values ≡ n) new
fold-full n f columns new rows r vs ys full done is =
    let P : List Value → Type 0 = λ values. length values ≡ n in
    subst (λ l. All P l) (sym is) (All-from_recursion P (set columns f ys)
    (set-each P columns f ys (λ lt. folded-long r (get_or columns f []) rows vs ys done ∙ All-get_or P columns f [] lt full) (recursion_from_All P columns full)))

-- a value is folded
abbrev fold-with : ℕ → ℕ → ℕ → Reduce → VertexContext → VertexState → Result Value Fault → After
fold-with places place slot reduce s w r =
    goes_on (taken_folds places (line_ends w (then_go (then_go r (λ x. then_go (Ok []) (λ xs. Ok (x ∷ xs)))) (λ vs. Ok (contributed place reduce (slot ∷ []) vs)))
    (λ given. leaves (record w { folds = w.folds ++ given })))) (λ k w'. body_after places s [] k w')

pub fold-runs : ((r : Reduce) → HasUnit r) → (places place n f : ℕ) (reduce : Reduce) (a : Term) (c : BatchContext) (rows : List ℕ) (ys xs : List Value) (old new : BatchState)
    → place < places → f < length (field_columns old)
    → values_in (map (view_in c old) rows) a ≡ Some ys → IsFull n old → AllByRecursion (λ r. r < n) rows → AreDistinct rows
    → folded_at reduce (get_or (field_columns old) f []) rows ys ≡ Some xs
    → field_columns new ≡ set (field_columns old) f xs
    → register_columns new ≡ register_columns old → new.sent ≡ old.sent → new.puts ≡ old.puts
    → LinesRun places (Fold reduce place (record { slot = f; term = a } ∷ []) ∷ []) c rows old new
fold-runs units places place n f reduce a c rows ys xs old new below inside_f is full within distinct done fields registers sent puts =
    let column : List Value = get_or (field_columns old) f [] in
    let values = row-values (view_in c old) a rows ys is in
    let long : length column ≡ n = All-get_or (λ values. length values ≡ n) (field_columns old) f [] inside_f full.fields in
    record {
      sent = λ row. [];
      given = λ row. [];
      more = [];
      runs = zip-each runs-here rows ys (zip-if _ _ (length (field_columns old)) rows ys f
          (λ lt. folded-here reduce column column rows ys xs refl (zip-length _ rows ys values) (subst (λ k. AllByRecursion (λ r. r < k) rows) (sym long) within) distinct (each-same column rows) done) values);
      others = λ row other ms ps. λ i. state-with (kept row other i) (row_at (registers i) row) ms ps;
      width = sym (length-map new.fields.items values_of) ∙ ap length fields ∙ length-set (field_columns old) f _ ∙ length-map old.fields.items values_of;
      messages = ap rows_if_any sent ∙ nothing-more (sent_in old) rows;
      puts = puts ∙ sym (append-nil old.puts);
      settle = nothing-settles rows;
      sends_once = inr (flat-nothing rows);
    } where
      at-field : (row : ℕ) → value_at (row_at (field_columns old) row) f ≡ value_at (get_or (field_columns old) f []) row
      at-field row = get-map (λ values. value_at values row) (field_columns old) f [] (At None) inside_f

      kept : (row : ℕ) → AllByRecursion (λ r. r ≢ row) rows → row_at (field_columns new) row ≡ row_at (field_columns old) row
      kept row other =
          row-after (field_columns old) (field_columns new) f xs row fields
          ∙ set-same (row_at (field_columns old) row) f (value_at xs row)
          (λ lt. folded-other reduce (get_or (field_columns old) f []) rows ys xs row done other
          ∙ sym (get-map (λ values. value_at values row) (field_columns old) f [] _ inside_f))

      runs-here : (row : ℕ) (y : Value)
          → ((f < length (field_columns old) → folded reduce (value_at (get_or (field_columns old) f []) row) y ≡ Some (value_at xs row)) × (value (view_in c old row) a ≡ Ok y))
          → RowRuns places (Fold reduce place (record { slot = f; term = a } ∷ []) ∷ []) c old new (λ row. []) (λ row. []) row
      runs-here row y h ms ps =
          let w : VertexState = row_state old ms ps row in
          let fields-then : List Value = row_at (field_columns old) row in
          ap (fold-with places place f reduce (context_in c row) w) h.1
          ∙ ap (λ (t : Settled). goes_on (ended (record w { folds = []; fields = t.values }) (lesser None t.fault) 0) (λ k w'. body_after places (context_in c row) [] k w'))
          (settled-one places place f reduce fields-then y (value_at xs row) below (omega (arith, inside_f, length-map (field_columns old) (λ values. value_at values row)))
          (closes-first units reduce (value_at fields-then f) y (value_at xs row) (ap (λ h. folded reduce h y) (at-field row) ∙ h.0 inside_f)))
          ∙ (λ i. leaves (state-with (sym (row-after (field_columns old) (field_columns new) f xs row fields) i) (row_at (sym registers i) row) (sym (append-nil ms) i) (sym (append-nil ps) i)))
