-- A batch as expressions see it.
use Rattle.std.proofs.Common.{◌≡◌, ◌∙◌, ◌<◌, ◌+◌, ℕ, zero, suc, Bool, List, [], ◌∷◌, Option, Some, None, refl, ap, sym, subst, map, length, get_or, set, arith}
use Rattle.std.specs.Prelude.{Result, Ok, Err, All, IfOk, IfSome}
use Rattle.std.specs.List.{AllByRecursion, AllZip}
use Rattle.std.proofs.lemmas.List.{length-map}
use Rattle.gm_value.specs.declared.values.Value.{Value}
use Rattle.gm_value.specs.declared.values.Value.TheVariants.{At, Flag}
use Rattle.gm_columns.specs.Cells.{values_of}
use Rattle.gm_columns.specs.Columns.{TypedRow, IsStorable}
use Rattle.gm_image.specs.Term.{Term}
use Rattle.gm_machine.specs.Expressions.{View, value_at}
use Rattle.gm_machine.specs.Machine.{nowhere, row_at}
use Rattle.gm_batches.specs.declared.node_batches.NodeBatch.{NodeBatch}
use Rattle.gm_batches.specs.declared.node_batches.Places.TheVariants.{Between}
use Rattle.gm_batches.specs.NodeBatches.{AreWithin, HasPlaces, HasRows, IsBatch, place_at, row_count, row_view}
use Rattle.gm_batches.specs.ValuesIn.{values_in, IsColumnAt}
use Rattle.gm_batch_steps.specs.declared.batch_states.BatchContext.{BatchContext}
use Rattle.gm_batch_steps.specs.declared.batch_states.BatchState.{BatchState}
use Rattle.gm_batch_steps.specs.BatchStates.{IsBatchOf, IsContext, IsFull, field_columns, register_columns, view_in}
use Rattle.gm_batch_steps.proofs.LineLaws.{get-map}
use Rattle.gm_batch_steps.proofs.RowLemmas.{row-values, zip-length}
use Rattle.gm_kernels.specs.Pointwise.{written_at}
use Rattle.gm_kernels.proofs.Writing.{written_long}
use Rattle.std.proofs.lemmas.List.Elements.{All-from_recursion, All-get_or, recursion_from_All}

pub map-map : {A B C : Type 0} (g : B → C) (f : A → B) (xs : List A) → map g (map f xs) ≡ map (λ x. g (f x)) xs
map-map g f [] = refl
map-map g f (x ∷ xs) = ap (λ l. g (f x) ∷ l) (map-map g f xs)

pub map-same : {A B : Type 0} (f g : A → B) → ((a : A) → f a ≡ g a) → (xs : List A) → map f xs ≡ map g xs
map-same f g same [] = refl
map-same f g same (x ∷ xs) = λ i. same x i ∷ map-same f g same xs i

pub all-of-map : {A B : Type 0} (P : B → Type 0) (f : A → B) (xs : List A) → All P (map f xs) → All (λ x. P (f x)) xs
all-of-map P f xs all k d lt =
    subst P (get-map f xs k d (f d) lt) (all k (f d) (omega (arith, lt, length-map xs f)))

pub all-to-map : {A B : Type 0} (P : B → Type 0) (f : A → B) (xs : List A) → ((x : A) → P (f x)) → All P (map f xs)
all-to-map P f [] h k d lt = absurd (omega (arith, lt))
all-to-map P f (x ∷ xs) h zero d lt = h x
all-to-map P f (x ∷ xs) h (suc k) d lt = all-to-map P f xs h k d (omega (arith, lt))

-- what a row sees
row-same : (b : NodeBatch) (c : BatchContext) (s : BatchState) (row : ℕ) → IsBatchOf b c s → row_view b row ≡ view_in c s row
row-same b c s row is = λ i. record {
  graph = is.graph i;
  globals = is.globals i;
  node = get_or (is.nodes i) row 0;
  fields = fields i;
  registers = registers i;
  message = map (λ (column : TypedRow). value_at column.values row) (is.message i);
  near = nowhere;
} where
  start : 0 + row ≡ row
  start = omega arith

  fields : map (λ cells. value_at (values_of cells) (place_at b.places row)) b.fields.now ≡ row_at (field_columns s) row
  fields =
      (λ i. map (λ cells. value_at (values_of cells) (place_at (is.places i) row)) (is.fields i))
      ∙ ap (λ k. map (λ cells. value_at (values_of cells) k) s.fields.items) start
      ∙ sym (map-map (λ values. value_at values row) values_of s.fields.items)

  registers : map (λ (column : TypedRow). value_at column.values row) b.registers.now ≡ row_at (register_columns s) row
  registers =
      ap (map (λ (column : TypedRow). value_at column.values row)) is.registers
      ∙ sym (map-map (λ values. value_at values row) (λ (column : TypedRow). column.values) s.registers.items)

-- the batch is one
pub batch-is : (b : NodeBatch) (c : BatchContext) (s : BatchState) → IsBatchOf b c s → IsContext c → IsFull (length c.nodes.now) s → IsBatch b
batch-is b c s is context full = record {
  count = omega (arith, context.count, rows);
  nodes = subst (λ ns. All (λ node. IsStorable (At (Some node))) ns) (sym is.nodes) context.nodes;
  places = subst (λ p. HasPlaces (row_count b) p) (sym is.places) (omega (arith, rows), context.count);
  fields = subst (λ p. All (AreWithin p) b.fields.now) (sym is.places) (subst (λ fs. All (AreWithin (Between 0 (length c.nodes.now))) fs) (sym is.fields)
      (λ k d lt. omega (arith, all-of-map (λ values. length values ≡ length c.nodes.now) values_of s.fields.items full.fields k d lt)));
  registers = subst (λ n. All (HasRows n) b.registers.now) (sym rows) (subst (λ rs. All (HasRows (length c.nodes.now)) rs) (sym is.registers)
      (all-of-map (λ values. length values ≡ length c.nodes.now) (λ (column : TypedRow). column.values) s.registers.items full.registers));
  message = subst (λ ms. All (HasRows (row_count b)) ms) (sym is.message) (λ k d lt. absurd (omega (arith, lt)));
} where
  rows : row_count b ≡ length c.nodes.now
  rows = ap length is.nodes

-- the values of a column that is found
pub column-values : {E : Type 0} (found : Result (Option TypedRow) E) (b : NodeBatch) (c : BatchContext) (s : BatchState) (rs rows : List ℕ) (e : Term)
    → IsBatchOf b c s → rs ≡ rows → IfOk found (IsColumnAt b rs e)
    → IfOk found (λ got. IfSome got (λ column. values_in (map (view_in c s) rows) e ≡ Some column.values))
column-values (Ok (Some column)) b c s rs rows e is same h =
    ap (λ views. values_in views e) (ap (map (view_in c s)) (sym same) ∙ sym (map-same (row_view b) (view_in c s) (λ row. row-same b c s row is) rs)) ∙ h.1
column-values (Ok None) b c s rs rows e is same h = tt
column-values (Err x) b c s rs rows e is same h = tt

-- truth values beside rows
pub zip-flags : {A : Type 0} (P : A → Value → Type 0) (xs : List A) (flags : List Bool) → AllZip P xs (map (λ b. Flag b) flags) → AllZip (λ x flag. P x (Flag flag)) xs flags
zip-flags P [] [] h = tt
zip-flags P [] (b ∷ flags) h = absurd h
zip-flags P (x ∷ xs) [] h = absurd h
zip-flags P (x ∷ xs) (b ∷ flags) h = (h.0, zip-flags P xs flags h.1)

-- a value for each row, where one column is written
pub set-each : {A : Type 0} (P : A → Type 0) (xs : List A) (k : ℕ) (a : A) → (k < length xs → P a) → AllByRecursion P xs → AllByRecursion P (set xs k a)
set-each P [] k a h all = tt
set-each P (x ∷ xs) zero a h all = (h (omega arith), all.1)
set-each P (x ∷ xs) (suc k) a h all = (all.0, set-each P xs k a (λ lt. h (omega (arith, lt))) all.1)

pub still-full : (n f : ℕ) (columns new : List (List Value)) (rows : List ℕ) (ys : List Value) → All (λ values. length values ≡ n) columns
    → new ≡ set columns f (written_at (get_or columns f []) rows ys) → All (λ values. length values ≡ n) new
still-full n f columns new rows ys full is =
    let P : List Value → Type 0 = λ values. length values ≡ n in
    subst (λ l. All P l) (sym is) (All-from_recursion P (set columns f (written_at (get_or columns f []) rows ys))
    (set-each P columns f (written_at (get_or columns f []) rows ys) (λ lt. written_long (get_or columns f []) rows ys ∙ All-get_or P columns f [] lt full) (recursion_from_All P columns full)))

-- the values of an expression in a column that was found
pub values-found : (views : List View) (e : Term) (o : Option TypedRow) (column : TypedRow) → o ≡ Some column
    → IfSome o (λ column. values_in views e ≡ Some column.values) → values_in views e ≡ Some column.values
values-found views e o column is h = subst (λ (o : Option TypedRow). IfSome o (λ column. values_in views e ≡ Some column.values)) is h

pub values-long : (view : ℕ → View) (e : Term) (rows : List ℕ) (ys : List Value) → values_in (map view rows) e ≡ Some ys → length ys ≡ length rows
values-long view e rows ys is = zip-length _ rows ys (row-values view e rows ys is)
