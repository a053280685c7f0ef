-- Lines that rows of messages run.
use Rattle.std.proofs.Common.{◌≡◌, ◌≢◌, ◌∙◌, ◌<◌, ◌≤◌, ◌+◌, ℕ, Bool, true, false, List, [], ◌∷◌, ◌++◌, Option, Some, None, refl, ap, sym, subst, map, length, get_or, set, arith, append_assoc, if◌then◌else◌}
use Rattle.std.specs.Prelude.{Result, Ok, Err, All, nat_le}
use Rattle.std.proofs.lemmas.Bool.{and_from, le-leb}
use Rattle.std.specs.List.{AllByRecursion, AllZip, flat_map}
use Rattle.std.proofs.lemmas.List.{append-nil, map-append}
use Rattle.std.proofs.lemmas.List.Elements.{All-get_or}
use Rattle.gm_value.specs.declared.values.Value.{Value}
use Rattle.gm_value.specs.declared.values.Value.TheVariants.{Flag}
use Rattle.gm_value.specs.declared.reductions.Reduce.{Reduce}
use Rattle.gm_value.specs.Bag.{SameBag, same_trans}
use Rattle.gm_value.specs.Laws.{HasUnit}
use Rattle.gm_value.specs.Operations.{is_true}
use Rattle.gm_value.proofs.BagLaws.{SameBag-refl, SameBag-append_left, SameBag-sym}
use Rattle.gm_columns.specs.Columns.{TypedRow}
use Rattle.gm_image.specs.Program.{Line, Fold, SetRegister, Skip}
use Rattle.gm_image.specs.Term.{Term}
use Rattle.gm_kernels.specs.Pointwise.{held, left_out, written_at}
use Rattle.gm_machine.specs.declared.faults.Fault.{Fault}
use Rattle.gm_machine.specs.Expressions.{value, value_at}
use Rattle.gm_machine.specs.Faults.{then_go}
use Rattle.gm_machine.specs.Machine.{row_at}
use Rattle.gm_machine.specs.Taking.{Contribution, contributed}
use Rattle.gm_machine.specs.Vertex.{VertexContext, VertexState, After, line_ends, leaves, goes_on, lines_after}
use Rattle.gm_machine.proofs.BagLemmas.{same_as}
use Rattle.gm_batches.specs.ValuesIn.{values_in}
use Rattle.gm_batch_steps.specs.BatchStates.{AreDistinct}
use Rattle.gm_batch_steps.specs.LineRuns.{reach, stays}
use Rattle.gm_batch_steps.proofs.LineLaws.{row-kept, row-written}
use Rattle.gm_batch_steps.proofs.RowLemmas.{apart, each-both, each-held, each-weaker, row-values, written-here, zip-length}
use Rattle.gm_batch_handlers.specs.declared.row_states.RowContext.{RowContext}
use Rattle.gm_batch_handlers.specs.declared.row_states.RowState.{RowState}
use Rattle.gm_batch_handlers.specs.declared.row_states.SlotTotal.{SlotTotal}
use Rattle.gm_batch_handlers.specs.Gifts.{Gift, contribution, gifts_of, AreTotals, Adds}
use Rattle.gm_batch_handlers.specs.Handling.{all_values}
use Rattle.gm_batch_handlers.specs.RowStates.{context_in, field_columns, place_of, row_state, view_in}
use Rattle.gm_batch_handlers.specs.RowRuns.{ArePartedBy, LinesRun, RowRuns}
use Rattle.gm_batch_handlers.proofs.Splits.{past, split}
use Rattle.gm_batch_handlers.proofs.TotalLaws.{flat-both, totals-more, totals-same}

abbrev pub state-with : List Value → List Value → List Contribution → VertexState
state-with fields registers folds = record { fields = fields; registers = registers; messages = []; puts = []; folds = folds }

flat-nothing : {A B : Type 0} (xs : List A) → flat_map {A = B} (λ x. []) xs ≡ []
flat-nothing [] = refl
flat-nothing (x ∷ xs) = flat-nothing xs

zip-each : {A B : Type 0} {P : A → B → Type 0} {R : A → Type 0} → ((a : A) (b : B) → P a b → R a) → (xs : List A) (ys : List B) → AllZip P xs ys → AllByRecursion R xs
zip-each f [] [] h = tt
zip-each f [] (y ∷ ys) h = absurd h
zip-each f (x ∷ xs) [] h = absurd h
zip-each f (x ∷ xs) (y ∷ ys) h = (f x y h.0, zip-each f xs ys h.1)

-- nothing is given
kept-totals : (places : ℕ) (c : RowContext) (rows : List ℕ) (totals : List (Option SlotTotal)) (gs more : List Gift) → AreTotals places (field_columns c) gs totals
    → SameBag more (gs ++ flat_map {A = Gift} (λ (row : ℕ). []) rows) → AreTotals places (field_columns c) more totals
kept-totals places c rows totals gs more h same =
    totals-same places (field_columns c) gs more totals
    (SameBag-sym (same_trans same (same_as (ap (λ l. gs ++ l) (flat-nothing rows) ∙ append-nil gs)))) h

-- no lines
pub nothing-runs : (places : ℕ) (c : RowContext) (rows : List ℕ) (s : RowState) → LinesRun places [] c rows s s
nothing-runs places c rows s = record {
  given = λ row. [];
  runs = always rows;
  theirs = λ row. tt;
  others = λ row other. refl;
  totals = λ gs more. kept-totals places c rows s.totals.items gs more;
} where
  always : (rows : List ℕ) → AllByRecursion (RowRuns [] c s.registers.items s.registers.items (λ row. [])) rows
  always [] = tt
  always (r ∷ rows) = ((λ gs. ap (λ l. leaves (row_state c s.registers.items l r)) (sym (append-nil gs))), always rows)

-- no rows
pub none-run : (places : ℕ) (ls : List Line) (c : RowContext) (s : RowState) → LinesRun places ls c [] s s
none-run places ls c s = record {
  given = λ row. [];
  runs = tt;
  theirs = λ row. tt;
  others = λ row other. refl;
  totals = λ gs more. kept-totals places c [] s.totals.items gs more;
}

-- a value is folded
abbrev gift-by : Reduce → ℕ → ℕ → ℕ → Result Value Fault → List Gift
gift-by reduce place slot at (Ok v) = record { at = at; slot = slot; reduce = reduce; place = place; value = v } ∷ []
gift-by reduce place slot at (Err f) = []

gift-theirs : (reduce : Reduce) (place slot at : ℕ) (r : Result Value Fault) → AllByRecursion (λ g. g.at ≡ at) (gift-by reduce place slot at r)
gift-theirs reduce place slot at (Ok v) = (refl, tt)
gift-theirs reduce place slot at (Err f) = tt

abbrev fold-with : ℕ → ℕ → Reduce → VertexContext → VertexState → Result Value Fault → After
fold-with place slot reduce s w r =
    goes_on (line_ends w (then_go (then_go r (λ x. then_go (Ok []) (λ xs. Ok (x ∷ xs)))) (λ vs. Ok (contributed place reduce (slot ∷ []) vs)))
    (λ given. leaves (record w { folds = w.folds ++ given }))) (λ k w'. lines_after s [] k w')

pub fold-runs : ((r : Reduce) → HasUnit r) → (places place slot : ℕ) (reduce : Reduce) (a : Term) (c : RowContext) (rows : List ℕ) (ys : List Value) (old new : RowState) (t : Option SlotTotal)
    → values_in (map (view_in c old.registers.items) rows) a ≡ Some ys
    → place < places → slot < length (field_columns c)
    → AllByRecursion (λ k. k < length (get_or (field_columns c) slot [])) (map (place_of c) rows)
    → Adds reduce place (get_or (field_columns c) slot []) (get_or old.totals.items slot None) (map (place_of c) rows) ys t
    → new.totals.items ≡ set old.totals.items slot t → new.registers ≡ old.registers
    → LinesRun places (Fold reduce place (record { slot = slot; term = a } ∷ []) ∷ []) c rows old new
fold-runs units places place slot reduce a c rows ys old new t is lt there within adds totals registers =
    let values = row-values (view_in c old.registers.items) a rows ys is in
    record {
      given = λ row. gift-by reduce place slot (place_of c row) (value (view_in c old.registers.items row) a);
      runs = zip-each runs-here rows ys values;
      theirs = λ row. gift-theirs reduce place slot (place_of c row) (value (view_in c old.registers.items row) a);
      others = λ row other. ap (λ (l : List TypedRow). row_at (all_values l) row) (ap (λ r. r.items) registers);
      totals = λ gs more h same. totals-more units places place slot reduce (field_columns c) gs more old.totals.items new.totals.items t (map (place_of c) rows) ys lt there within adds totals h
          (same_trans same (same_as (ap (λ l. gs ++ l) (sym (all-given rows ys values)))));
    } where
      all-given : (rows : List ℕ) (ys : List Value) → AllZip (λ row y. value (view_in c old.registers.items row) a ≡ Ok y) rows ys
          → gifts_of reduce place slot (map (place_of c) rows) ys ≡ flat_map (λ row. gift-by reduce place slot (place_of c row) (value (view_in c old.registers.items row) a)) rows
      all-given [] [] h = refl
      all-given [] (y ∷ ys) h = absurd h
      all-given (r ∷ rows) [] h = absurd h
      all-given (r ∷ rows) (y ∷ ys) h = λ i. gift-by reduce place slot (place_of c r) (sym h.0 i) ++ all-given rows ys h.1 i

      runs-here : (row : ℕ) (y : Value) → value (view_in c old.registers.items row) a ≡ Ok y
          → RowRuns (Fold reduce place (record { slot = slot; term = a } ∷ []) ∷ []) c old.registers.items new.registers.items
          (λ row. gift-by reduce place slot (place_of c row) (value (view_in c old.registers.items row) a)) row
      runs-here row y h gs =
          let w : VertexState = row_state c old.registers.items gs row in
          let g : Gift = record { at = place_of c row; slot = slot; reduce = reduce; place = place; value = y } in
          ap (fold-with place slot reduce (context_in c row) w) h
          ∙ ap (λ l. leaves (state-with (row_at (field_columns c) (place_of c row)) (row_at (all_values old.registers.items) row) l)) (sym (map-append contribution gs (g ∷ [])))
          ∙ (λ i. leaves (row_state c (ap (λ r. r.items) (sym registers) i) (gs ++ gift-by reduce place slot (place_of c row) (sym h i)) row))

-- a register is set
zip-if : {A B : Type 0} (P Q : A → B → Type 0) (n : ℕ) (xs : List A) (ys : List B) (k : ℕ) → (k < n → AllZip P xs ys) → AllZip Q xs ys → AllZip (λ x y. (k < n → P x y) × Q x y) xs ys
zip-if P Q n [] [] k h q = tt
zip-if P Q n [] (y ∷ ys) k h q = absurd q
zip-if P Q n (x ∷ xs) [] k h q = absurd q
zip-if P Q n (x ∷ xs) (y ∷ ys) k h q = (((λ lt. (h lt).0), q.0), zip-if P Q n xs ys k (λ lt. (h lt).1) q.1)

rows-written : (columns : List (List Value)) (n f : ℕ) (rows : List ℕ) (ys : List Value) → All (λ values. length values ≡ n) columns → f < length columns
    → AllByRecursion (λ r. r < n) rows → AreDistinct rows → length ys ≡ length rows
    → AllZip (λ row y. value_at (written_at (get_or columns f []) rows ys) row ≡ y) rows ys
rows-written columns n f rows ys full lt within distinct long =
    written-here (get_or columns f []) rows ys _ long
    (subst (λ k. AllByRecursion (λ r. r < k) rows) (sym (All-get_or (λ values. length values ≡ n) columns f [] lt full)) within) distinct

pub register-runs : (places n f : ℕ) (a : Term) (c : RowContext) (rows : List ℕ) (ys : List Value) (old new : RowState)
    → values_in (map (view_in c old.registers.items) rows) a ≡ Some ys → All (λ values. length values ≡ n) (all_values old.registers.items) → AllByRecursion (λ r. r < n) rows → AreDistinct rows
    → all_values new.registers.items ≡ set (all_values old.registers.items) f (written_at (get_or (all_values old.registers.items) f []) rows ys)
    → new.totals ≡ old.totals
    → LinesRun places (SetRegister f a ∷ []) c rows old new
register-runs places n f a c rows ys old new is full within distinct registers totals =
    let columns = all_values old.registers.items in
    let values = row-values (view_in c old.registers.items) a rows ys is in
    record {
      given = λ row. [];
      runs = zip-each runs-here rows ys (zip-if _ _ (length columns) rows ys f (λ lt. rows-written columns n f rows ys full lt within distinct (zip-length _ rows ys values)) values);
      theirs = λ row. tt;
      others = λ row other. row-kept columns (all_values new.registers.items) f rows ys row registers other;
      totals = λ gs more h same. subst (λ ts. AreTotals places (field_columns c) more ts.items) (sym totals) (kept-totals places c rows old.totals.items gs more h same);
    } where
      runs-here : (row : ℕ) (y : Value)
          → ((f < length (all_values old.registers.items) → value_at (written_at (get_or (all_values old.registers.items) f []) rows ys) row ≡ y) × (value (view_in c old.registers.items row) a ≡ Ok y))
          → RowRuns (SetRegister f a ∷ []) c old.registers.items new.registers.items (λ row. []) row
      runs-here row y h gs =
          let w : VertexState = row_state c old.registers.items gs row in
          ap (λ r. goes_on (line_ends w r (λ v. leaves (record w { registers = set (row_at (all_values old.registers.items) row) f v })))
          (λ k w. lines_after (context_in c row) [] k w)) h.1
          ∙ (λ i. leaves (state-with (row_at (field_columns c) (place_of c row))
          (sym (row-written (all_values old.registers.items) (all_values new.registers.items) f rows ys row y registers h.0) i) (map contribution (sym (append-nil gs) i))))

-- some lines, and then others
theirs-both : (at : ℕ) (xs ys : List Gift) → AllByRecursion (λ g. g.at ≡ at) xs → AllByRecursion (λ g. g.at ≡ at) ys → AllByRecursion (λ g. g.at ≡ at) (xs ++ ys)
theirs-both at [] ys h k = k
theirs-both at (x ∷ xs) ys h k = (h.0, theirs-both at xs ys h.1 k)

pub both-run : (places : ℕ) (ls more : List Line) (c : RowContext) (rows : List ℕ) (old mid new : RowState) → stays ls ≡ true
    → LinesRun places ls c rows old mid → LinesRun places more c rows mid new → LinesRun places (ls ++ more) c rows old new
both-run places ls more c rows old mid new st first then' = record {
  given = λ row. first.given row ++ then'.given row;
  runs = each-both go rows first.runs then'.runs;
  theirs = λ row. theirs-both (place_of c row) (first.given row) (then'.given row) (first.theirs row) (then'.theirs row);
  others = λ row other. then'.others row other ∙ first.others row other;
  totals = λ gs all h same. then'.totals (gs ++ flat_map first.given rows) all (first.totals gs (gs ++ flat_map first.given rows) h (SameBag-refl (gs ++ flat_map first.given rows)))
      (same_trans same (same_trans (SameBag-append_left gs (flat-both first.given then'.given rows))
      (same_as (sym (append_assoc gs (flat_map first.given rows) (flat_map then'.given rows))))));
} where
  go : (row : ℕ) → RowRuns ls c old.registers.items mid.registers.items first.given row → RowRuns more c mid.registers.items new.registers.items then'.given row
      → RowRuns (ls ++ more) c old.registers.items new.registers.items (λ row. first.given row ++ then'.given row) row
  go row one two gs =
      split (context_in c row) ls more 0 (row_state c old.registers.items gs row) (omega arith) st
      ∙ ap (λ a. goes_on a (λ j w. lines_after (context_in c row) more 0 w)) (one gs)
      ∙ two (gs ++ first.given row)
      ∙ ap (λ l. leaves (row_state c new.registers.items l row)) (append_assoc gs (first.given row) (then'.given row))

-- lines that some rows leave out
abbrev flag-of : Result Value Fault → Bool
flag-of (Ok v) = is_true v
flag-of (Err f) = false

abbrev skip-by : ℕ → List Line → VertexContext → VertexState → Result Value Fault → After
skip-by n ls s w r = goes_on (line_ends w r (λ v. record { state = w; fault = None; skip = if is_true v then 0 else n })) (λ k w'. lines_after s ls k w')

abbrev given-by : Term → RowContext → RowState → (ℕ → List Gift) → ℕ → List Gift
given-by a c s given row = if flag-of (value (view_in c s.registers.items row) a) then given row else []

theirs-if : (at : ℕ) (b : Bool) (xs : List Gift) → AllByRecursion (λ g. g.at ≡ at) xs → AllByRecursion (λ g. g.at ≡ at) (if b then xs else [])
theirs-if at true xs h = h
theirs-if at false xs h = tt

pub skip-runs : (places n : ℕ) (a : Term) (ls : List Line) (c : RowContext) (rows inside : List ℕ) (old new : RowState) → length ls ≤ n → AreDistinct rows
    → ArePartedBy a c old.registers.items rows inside → LinesRun places ls c inside old new → LinesRun places (Skip n a ∷ ls) c rows old new
skip-runs places n a ls c rows inside old new le distinct parted run = record {
  given = given-by a c old run.given;
  runs = go rows parted.flags parted.truths (subst (λ l. AllByRecursion (RowRuns ls c old.registers.items new.registers.items run.given) l) parted.are run.runs)
      (each-weaker (λ row other. run.others row (subst (λ l. AllByRecursion (λ r. r ≢ row) l) (sym parted.are) other)) _ (apart parted.flags rows distinct));
  theirs = λ row. theirs-if (place_of c row) (flag-of (value (view_in c old.registers.items row) a)) (run.given row) (run.theirs row);
  others = λ row other. run.others row (subst (λ l. AllByRecursion (λ r. r ≢ row) l) (sym parted.are) (each-held _ parted.flags rows other));
  totals = λ gs more h same. run.totals gs more h (same_trans same (same_as (ap (λ l. gs ++ l) (sym (ap (flat_map run.given) parted.are ∙ all-given rows parted.flags parted.truths)))));
} where
  all-given : (rows : List ℕ) (flags : List Bool) → AllZip (λ row flag. value (view_in c old.registers.items row) a ≡ Ok (Flag flag)) rows flags
      → flat_map run.given (held flags rows) ≡ flat_map (given-by a c old run.given) rows
  all-given [] [] h = refl
  all-given [] (b ∷ flags) h = absurd h
  all-given (r ∷ rows) [] h = absurd h
  all-given (r ∷ rows) (true ∷ flags) h = λ i. (if flag-of (sym h.0 i) then run.given r else []) ++ all-given rows flags h.1 i
  all-given (r ∷ rows) (false ∷ flags) h = λ i. (if flag-of (sym h.0 i) then run.given r else []) ++ all-given rows flags h.1 i

  go : (rows : List ℕ) (flags : List Bool) → AllZip (λ row flag. value (view_in c old.registers.items row) a ≡ Ok (Flag flag)) rows flags
      → AllByRecursion (RowRuns ls c old.registers.items new.registers.items run.given) (held flags rows)
      → AllByRecursion (λ row. row_at (all_values new.registers.items) row ≡ row_at (all_values old.registers.items) row) (left_out flags rows)
      → AllByRecursion (RowRuns (Skip n a ∷ ls) c old.registers.items new.registers.items (given-by a c old run.given)) rows
  go [] [] h runs same = tt
  go [] (b ∷ flags) h runs same = absurd h
  go (r ∷ rows) [] h runs same = absurd h
  go (r ∷ rows) (true ∷ flags) h runs same = (
    (λ gs. ap (skip-by n ls (context_in c r) (row_state c old.registers.items gs r)) h.0 ∙ runs.0 gs
        ∙ (λ i. leaves (row_state c new.registers.items (gs ++ (if flag-of (sym h.0 i) then run.given r else [])) r))),
    go rows flags h.1 runs.1 same,
  )
  go (r ∷ rows) (false ∷ flags) h runs same = (
    (λ gs. ap (skip-by n ls (context_in c r) (row_state c old.registers.items gs r)) h.0 ∙ past (context_in c r) ls n (row_state c old.registers.items gs r) le
        ∙ (λ i. leaves (state-with (row_at (field_columns c) (place_of c r)) (sym same.0 i) (map contribution (sym (append-nil gs) i))))
        ∙ (λ i. leaves (row_state c new.registers.items (gs ++ (if flag-of (sym h.0 i) then run.given r else [])) r))),
    go rows flags h.1 runs same.1,
  )

-- lines that rows leave out, and those behind them
pub skip-then : (places n : ℕ) (a : Term) (ls inner more : List Line) (c : RowContext) (rows : List ℕ) (old mid new : RowState)
    → ls ≡ inner ++ more → length inner ≡ n → stays inner ≡ true
    → LinesRun places (Skip n a ∷ inner) c rows old mid → LinesRun places more c rows mid new → LinesRun places (Skip n a ∷ ls) c rows old new
skip-then places n a ls inner more c rows old mid new is long st run rest =
    subst (λ l. LinesRun places (Skip n a ∷ l) c rows old new) (sym is)
    (both-run places (Skip n a ∷ inner) more c rows old mid new (and_from (nat_le n (length inner)) (stays inner) (le-leb n (length inner) (omega (arith, long))) st) run rest)

-- a line, and those behind it
pub line-then : (places : ℕ) (l : Line) (ls : List Line) (c : RowContext) (rows : List ℕ) (old mid new : RowState) → reach l ≡ 0
    → LinesRun places (l ∷ []) c rows old mid → LinesRun places ls c rows mid new → LinesRun places (l ∷ ls) c rows old new
line-then places l ls c rows old mid new none run rest =
    both-run places (l ∷ []) ls c rows old mid new (and_from (nat_le (reach l) 0) true (le-leb (reach l) 0 (omega (arith, none))) refl) run rest
