-- The steps of a batch are those of the nodes at its places.
use Rattle.std.proofs.Common.{◌≡◌, ◌∙◌, ◌<◌, ◌≤◌, ◌+◌, ◌-◌, ◌⊎◌, inl, inr, ℕ, zero, suc, Option, None, List, [], ◌∷◌, ◌++◌, length, map, take, drop, get_or, refl, sym, ap, subst, arith, ⊎_elim}
use Rattle.std.specs.List.{flat_map, range_with_len}
use Rattle.std.proofs.lemmas.Bool.{cases_lt}
use Rattle.std.proofs.lemmas.List.{get_or_default, same_lists}
use Rattle.std.proofs.lemmas.List.FromFn.{get_or-map-range_with_len, length-map-range_with_len}
use Rattle.gm_value.specs.declared.values.Value.{Value}
use Rattle.gm_image.specs.Views.{program}
use Rattle.gm_machine.specs.declared.faults.Fault.{Fault}
use Rattle.gm_machine.specs.declared.node_steps.Duty.{Duty}
use Rattle.gm_machine.specs.declared.node_steps.Nodes.{Nodes}
use Rattle.gm_machine.specs.Duties.{between, node_of, place_after}
use Rattle.gm_machine.specs.Faults.{least_fault, lesser}
use Rattle.gm_machine.specs.Fields.{HeldFields, by_node}
use Rattle.gm_machine.specs.Machine.{row_at}
use Rattle.gm_machine.specs.Steps.{step_after}
use Rattle.gm_machine.specs.Taking.{Contribution}
use Rattle.gm_machine.specs.Vertex.{After, Message}
use Rattle.gm_machine.proofs.FieldRows.{get_or-by_node, length-by_node}
use Rattle.gm_machine.proofs.LeastLaws.{lesser-none}
use Rattle.gm_batch_steps.specs.BatchSteps.{BatchSteps, row_after}
use Rattle.gm_batch_steps.specs.Parts.{with_part}
use Rattle.gm_batch_steps.proofs.PartLaws.{length-part, part-before, part-behind, part-inside}
use Rattle.gm_put_totals.specs.Settling.{SettleAs}
use Rattle.gm_put_totals.proofs.SettlingLemmas.{settles-itself, settles-together}
use Rattle.gm_node_batches.specs.declared.steps.Sent.{Sent}
use Rattle.gm_node_batches.specs.Inboxes.{AllEmpty}
use Rattle.gm_node_batches.specs.Taken.{StepsTaken}

flat-shift : {A : Type 0} (f g : ℕ → List A) (a b n : ℕ) → ((i : ℕ) → i < n → f (a + i) ≡ g (b + i)) → flat_map f (range_with_len a n) ≡ flat_map g (range_with_len b n)
flat-shift f g a b zero same = refl
flat-shift f g a b (suc n) same =
    let x : a ≡ a + 0 = omega arith in
    let y : b + 0 ≡ b = omega arith in
    ap (λ l. l ++ flat_map f (range_with_len (a + 1) n)) (ap f x ∙ same 0 (omega arith) ∙ ap g y)
    ∙ ap (λ l. g b ++ l)
    (flat-shift f g (a + 1) (b + 1) n (λ i lt.
    let u : (a + 1) + i ≡ a + suc i = omega arith in
    let v : b + suc i ≡ (b + 1) + i = omega arith in
    ap f u ∙ same (suc i) (omega arith) ∙ ap g v))

least-none : (f : ℕ → Option Fault) (a n : ℕ) → ((i : ℕ) → a ≤ i → i < a + n → f i ≡ None) → least_fault (map f (range_with_len a n)) ≡ None
least-none f a zero none = refl
least-none f a (suc n) none =
    ap (λ x. least_fault (x ∷ map f (range_with_len (a + 1) n))) (none a (omega arith) (omega arith))
    ∙ least-none f (a + 1) n (λ i low high. none i (omega arith) (omega arith))

-- fields in columns, those of a batch in the columns that its steps leave
pub batch-steps : (d : Duty) (ns : Nodes) (boxes : List (List Message)) (slice : List ℕ) (from to : ℕ) (columns columns' : List (List Value)) (old new : HeldFields) (made : List Message) (sent sent' : Sent)
    → from < to → to ≤ length old.rows
    → ((row : ℕ) → row < to - from → get_or slice row 0 ≡ node_of ns (from + row))
    → AllEmpty boxes
    → old.rows ≡ by_node (length old.rows) columns → new.rows ≡ by_node (length old.rows) columns' → new.width ≡ old.width
    → sent'.messages ≡ sent.messages ++ made → sent'.fault ≡ sent.fault
    → BatchSteps (row_after d slice from columns) from (to - from) columns columns' [] made sent.puts sent'.puts
    → StepsTaken (place_after d ns boxes old.rows) from to old new sent sent'
batch-steps d ns boxes slice from to columns columns' old new made sent sent' ahead within nodes none old_is new_is width messages fault steps = record {
  puts = sent.puts ++ put;
  steps = record {
    ahead = ahead;
    within = within;
    taken = record {
      width = width;
      fields = new_is ∙ rows ∙ ap (λ k. take from old.rows ++ (made_rows ++ drop k old.rows)) ends;
      messages =
          messages
          ∙ ap (λ l. sent.messages ++ l)
          (steps.sent ∙ flat-shift (λ row. (row_after d slice from columns row).state.messages) (λ place. (after place).state.messages) 0 from count (λ row lt. row-is (λ a. a.state.messages) row lt));
      puts = refl;
      fault =
          fault
          ∙ sym (ap (lesser sent.fault) (least-none (λ place. (after place).fault) from count
          (λ place low high. ap (λ (a : After). a.fault) (at place low (omega (arith, high, ahead))) ∙ steps.faultless (place - from) (omega (arith, low, high))))
          ∙ lesser-none sent.fault);
    };
  };
  settle =
      subst (SettleAs (sent.puts ++ put)) (sym steps.put)
      (settles-together sent.puts sent.puts put steps.more (settles-itself sent.puts)
      (subst (λ l. SettleAs l steps.more) (flat-shift (λ row. (row_after d slice from columns row).state.puts) (λ place. (after place).state.puts) 0 from count (λ row lt. row-is (λ a. a.state.puts) row lt)) steps.settle));
} where
  count : ℕ
  count = to - from

  n : ℕ
  n = length old.rows

  after : ℕ → After
  after place = place_after d ns boxes old.rows place

  at : (place : ℕ) → from ≤ place → place < to → place_after d ns boxes old.rows place ≡ row_after d slice from columns (place - from)
  at place low high =
      let e : from + (place - from) ≡ place = omega (arith, low) in
      ap (λ node. step_after (program d.image.now) d.block d.globals.now d.graph.now node (get_or boxes place []) (get_or old.rows place []))
      (ap (node_of ns) (sym e) ∙ sym (nodes (place - from) (omega (arith, low, high))))
      ∙ ap (λ ms. step_after (program d.image.now) d.block d.globals.now d.graph.now (get_or slice (place - from) 0) ms (get_or old.rows place [])) (none place)
      ∙ ap (step_after (program d.image.now) d.block d.globals.now d.graph.now (get_or slice (place - from) 0) [])
      (ap (λ rows. get_or rows place []) old_is ∙ get_or-by_node (length old.rows) columns place [] (omega (arith, high, within)) ∙ ap (row_at columns) (sym e))

  put : List Contribution
  put = flat_map (λ place. (after place).state.puts) (between from to)

  -- what a row leaves is what its node leaves
  row-is : {A : Type 0} (f : After → A) (row : ℕ) → row < count → f (row_after d slice from columns (0 + row)) ≡ f (after (from + row))
  row-is f row lt =
      let e : (from + row) - from ≡ 0 + row = omega arith in
      ap (λ r. f (row_after d slice from columns r)) (sym e) ∙ sym (ap f (at (from + row) (omega arith) (omega (arith, lt, ahead))))

  made_rows : List (List Value)
  made_rows = map (λ place. (place_after d ns boxes old.rows place).state.fields) (between from to)

  long : length made_rows ≡ to - from
  long = length-map-range_with_len (λ place. (place_after d ns boxes old.rows place).state.fields) from (to - from)

  ends : from + length made_rows ≡ to
  ends = omega (arith, long, ahead)

  fits : from + length made_rows ≤ length old.rows
  fits = omega (arith, ends, within)

  there : (k : ℕ) → k < n → get_or (by_node n columns') k [] ≡ get_or (with_part from old.rows made_rows) k []
  there k below =
      get_or-by_node n columns' k [] below
      ∙ ⊎_elim
      (λ (lt : k < from).
      steps.outside k (inl lt) ∙ sym (get_or-by_node n columns k [] below) ∙ ap (λ rows. get_or rows k []) (sym old_is) ∙ sym (part-before old.rows made_rows from k [] fits lt))
      (λ (low : from ≤ k).
      ⊎_elim
      (λ (lt : k < to).
      let e : from + (k - from) ≡ k = omega (arith, low) in
      let small : k - from < to - from = omega (arith, low, lt) in
      ap (row_at columns') (sym e)
      ∙ steps.inside (k - from) small
      ∙ ap (λ (a : After). a.state.fields) (sym (at k low lt))
      ∙ sym (
      ap (λ i. get_or (with_part from old.rows made_rows) i []) (sym e)
      ∙ part-inside old.rows made_rows from (k - from) [] fits (omega (arith, small, long))
      ∙ get_or-map-range_with_len (λ place. (place_after d ns boxes old.rows place).state.fields) from (to - from) (k - from) k [] small e))
      (λ (ge : to ≤ k).
      steps.outside k (inr (omega (arith, ge, ahead))) ∙ sym (get_or-by_node n columns k [] below) ∙ ap (λ rows. get_or rows k []) (sym old_is)
      ∙ sym (part-behind old.rows made_rows from k [] fits (omega (arith, ge, ends))))
      (cases_lt k to))
      (cases_lt k from)

  rows : by_node n columns' ≡ with_part from old.rows made_rows
  rows =
      same_lists (by_node n columns') (with_part from old.rows made_rows)
      (length-by_node n columns' ∙ sym (length-part old.rows made_rows from fits))
      (λ k d h.
      let below : k < n = omega (arith, h, length-by_node n columns') in
      get_or_default (by_node n columns') k d [] h ∙ there k below ∙ get_or_default (with_part from old.rows made_rows) k [] d (omega (arith, below, length-part old.rows made_rows from fits)))
