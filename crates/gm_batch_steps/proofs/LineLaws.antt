-- Lines that rows run.
use Rattle.std.proofs.Common.{◌≡◌, ◌≢◌, ◌∙◌, ◌<◌, ◌≤◌, ◌⊎◌, inl, inr, ℕ, zero, suc, Bool, true, false, List, [], ◌∷◌, ◌++◌, Some, None, refl, ap, sym, subst, map, length, get_or, set, arith, length-set, append_assoc, if◌then◌else◌}
use Rattle.std.specs.Prelude.{Result, Ok, Err, All, nat_le}
use Rattle.std.proofs.lemmas.Bool.{and_from, le-leb}
use Rattle.std.specs.List.{AllByRecursion, AllZip, flat_map}
use Rattle.std.proofs.lemmas.List.{append-nil, map-set, length-map}
use Rattle.std.proofs.lemmas.List.Elements.{All-get_or}
use Rattle.gm_value.specs.declared.values.Value.{Value}
use Rattle.gm_value.specs.declared.values.Value.TheVariants.{At, Flag}
use Rattle.gm_value.specs.declared.reductions.Reduce.{Reduce}
use Rattle.gm_value.specs.Bag.{SameBag, same_nil, same_trans}
use Rattle.gm_value.specs.Operations.{is_true}
use Rattle.gm_value.proofs.BagLaws.{SameBag-append_left}
use Rattle.gm_columns.specs.Cells.{values_of}
use Rattle.gm_image.specs.Program.{Line, SetField, SetRegister, Put, Skip}
use Rattle.gm_image.specs.Term.{Term}
use Rattle.gm_kernels.specs.Pointwise.{held, left_out, written_at}
use Rattle.gm_machine.specs.declared.faults.Fault.{Fault}
use Rattle.gm_machine.specs.Expressions.{value, value_at}
use Rattle.gm_machine.specs.Machine.{row_at}
use Rattle.gm_machine.specs.Faults.{then_go}
use Rattle.gm_machine.specs.Taking.{Contribution, contributed}
use Rattle.gm_machine.specs.Vertex.{Message, VertexContext, VertexState, After, line_ends, leaves, goes_on, body_after}
use Rattle.gm_message_columns.specs.MessageTables.{rows_if_any}
use Rattle.gm_machine.proofs.BagLemmas.{lists_past}
use Rattle.gm_put_totals.specs.PutTotals.{single_put, single_puts}
use Rattle.gm_put_totals.specs.Settling.{SettleAs}
use Rattle.gm_put_totals.proofs.SettlingLemmas.{settles-itself, settles-permuted, settles-through, settles-together}
use Rattle.gm_batches.specs.ValuesIn.{values_in}
use Rattle.gm_batch_steps.specs.declared.batch_states.BatchContext.{BatchContext}
use Rattle.gm_batch_steps.specs.declared.batch_states.BatchState.{BatchState}
use Rattle.gm_batch_steps.specs.BatchStates.{AreDistinct, IsFull, context_in, field_columns, register_columns, row_state, sent_in, view_in}
use Rattle.gm_batch_steps.specs.LineRuns.{ArePartedBy, LinesRun, RowRuns, reach, stays}
use Rattle.gm_batch_steps.proofs.RowLemmas.{apart, each-both, each-held, each-weaker, row-values, written-here, written-other, zip-length}
use Rattle.gm_batch_steps.proofs.Splits.{past, split}

-- values written into a column, as a row sees them
pub get-map : {A B : Type 0} (f : A → B) (xs : List A) (k : ℕ) (a : A) (b : B) → k < length xs → get_or (map f xs) k b ≡ f (get_or xs k a)
get-map f [] k a b h = absurd (omega (arith, h))
get-map f (x ∷ xs) zero a b h = refl
get-map f (x ∷ xs) (suc k) a b h = get-map f xs k a b (omega (arith, h))

pub set-same : {A : Type 0} (xs : List A) (k : ℕ) (a : A) → (k < length xs → a ≡ get_or xs k a) → set xs k a ≡ xs
set-same [] k a h = refl
set-same (x ∷ xs) zero a h = ap (λ y. y ∷ xs) (h (omega arith))
set-same (x ∷ xs) (suc k) a h = ap (λ l. x ∷ l) (set-same xs k a (λ lt. h (omega (arith, lt))))

set-other : {A : Type 0} (xs : List A) (k : ℕ) (a b : A) → (k < length xs → a ≡ b) → set xs k a ≡ set xs k b
set-other [] k a b h = refl
set-other (x ∷ xs) zero a b h = ap (λ y. y ∷ xs) (h (omega arith))
set-other (x ∷ xs) (suc k) a b h = ap (λ l. x ∷ l) (set-other xs k a b (λ lt. h (omega (arith, lt))))

pub row-after : (columns new : List (List Value)) (f : ℕ) (ys : List Value) (row : ℕ) → new ≡ set columns f ys → row_at new row ≡ set (row_at columns row) f (value_at ys row)
row-after columns new f ys row e = ap (λ l. row_at l row) e ∙ map-set (λ values. value_at values row) columns f ys

-- a row that is written
pub row-written : (columns new : List (List Value)) (f : ℕ) (rows : List ℕ) (ys : List Value) (row : ℕ) (y : Value)
    → new ≡ set columns f (written_at (get_or columns f []) rows ys)
    → (f < length columns → value_at (written_at (get_or columns f []) rows ys) row ≡ y) → row_at new row ≡ set (row_at columns row) f y
row-written columns new f rows ys row y e here =
    row-after columns new f (written_at (get_or columns f []) rows ys) row e
    ∙ set-other (row_at columns row) f (value_at (written_at (get_or columns f []) rows ys) row) y
    (λ lt. here (omega (arith, lt, length-map columns (λ values. value_at values row))))

-- one that is not
pub row-kept : (columns new : List (List Value)) (f : ℕ) (rows : List ℕ) (ys : List Value) (row : ℕ)
    → new ≡ set columns f (written_at (get_or columns f []) rows ys) → AllByRecursion (λ r. r ≢ row) rows → row_at new row ≡ row_at columns row
row-kept columns new f rows ys row e other =
    row-after columns new f (written_at (get_or columns f []) rows ys) row e
    ∙ set-same (row_at columns row) f (value_at (written_at (get_or columns f []) rows ys) row)
    (λ lt. written-other (get_or columns f []) rows ys row (At None) other
    ∙ sym (get-map (λ values. value_at values row) columns f [] _ (omega (arith, lt, length-map columns (λ values. value_at values row)))))

-- each row, with the value that is written there
rows-written : (columns : List (List Value)) (n f : ℕ) (rows : List ℕ) (ys : List Value) → All (λ values. length values ≡ n) columns → f < length columns
    → AllByRecursion (λ r. r < n) rows → AreDistinct rows → length ys ≡ length rows
    → AllZip (λ row y. value_at (written_at (get_or columns f []) rows ys) row ≡ y) rows ys
rows-written columns n f rows ys full lt within distinct long =
    written-here (get_or columns f []) rows ys (At None) long
    (subst (λ k. AllByRecursion (λ r. r < k) rows) (sym (All-get_or (λ values. length values ≡ n) columns f [] lt full)) within) distinct

-- the rows have their values where there is such a column
pub zip-if : {A B : Type 0} (P Q : A → B → Type 0) (n : ℕ) (xs : List A) (ys : List B) (k : ℕ) → (k < n → AllZip P xs ys) → AllZip Q xs ys → AllZip (λ x y. (k < n → P x y) × Q x y) xs ys
zip-if P Q n [] [] k h q = tt
zip-if P Q n [] (y ∷ ys) k h q = absurd q
zip-if P Q n (x ∷ xs) [] k h q = absurd q
zip-if P Q n (x ∷ xs) (y ∷ ys) k h q = (((λ lt. (h lt).0), q.0), zip-if P Q n xs ys k (λ lt. (h lt).1) q.1)

pub zip-each : {A B : Type 0} {P : A → B → Type 0} {R : A → Type 0} → ((a : A) (b : B) → P a b → R a) → (xs : List A) (ys : List B) → AllZip P xs ys → AllByRecursion R xs
zip-each f [] [] h = tt
zip-each f [] (y ∷ ys) h = absurd h
zip-each f (x ∷ xs) [] h = absurd h
zip-each f (x ∷ xs) (y ∷ ys) h = (f x y h.0, zip-each f xs ys h.1)

abbrev pub state-with : List Value → List Value → List Message → List Contribution → VertexState
state-with fields registers messages puts = record { fields = fields; registers = registers; messages = messages; puts = puts; folds = [] }

pub flat-nothing : {A B : Type 0} (xs : List A) → flat_map {A = B} (λ x. []) xs ≡ []
flat-nothing [] = refl
flat-nothing (x ∷ xs) = flat-nothing xs

pub nothing-more : {A B : Type 0} (old : List B) (xs : List A) → old ≡ old ++ flat_map (λ x. []) xs
nothing-more old xs = sym (ap (λ l. old ++ l) (flat-nothing xs) ∙ append-nil old)

pub nothing-settles : {A : Type 0} (xs : List A) → SettleAs (flat_map (λ x. []) xs) []
nothing-settles xs = subst (λ l. SettleAs l []) (sym (flat-nothing xs)) (settles-itself [])

-- no lines
pub nothing-runs : (places : ℕ) (c : BatchContext) (rows : List ℕ) (s : BatchState) → LinesRun places [] c rows s s
nothing-runs places c rows s = record {
  sent = λ row. [];
  given = λ row. [];
  more = [];
  runs = always rows;
  others = λ row other messages puts. refl;
  width = refl;
  messages = nothing-more (sent_in s) rows;
  puts = sym (append-nil s.puts);
  settle = nothing-settles rows;
  sends_once = inr (flat-nothing rows);
} where
  always : (rows : List ℕ) → AllByRecursion (RowRuns places [] c s s (λ row. []) (λ row. [])) rows
  always [] = tt
  always (r ∷ rows) = ((λ messages puts i. leaves (row_state s (sym (append-nil messages) i) (sym (append-nil puts) i) r)), always rows)

-- no rows
pub none-run : (places : ℕ) (ls : List Line) (c : BatchContext) (s : BatchState) → LinesRun places ls c [] s s
none-run places ls c s = record {
  sent = λ row. [];
  given = λ row. [];
  more = [];
  runs = tt;
  others = λ row other messages puts. refl;
  width = refl;
  messages = sym (append-nil (sent_in s));
  puts = sym (append-nil s.puts);
  sends_once = inr refl;
  settle = settles-itself [];
}

-- a field is set
pub field-runs : (places n f : ℕ) (a : Term) (c : BatchContext) (rows : List ℕ) (ys : List Value) (old new : BatchState)
    → values_in (map (view_in c old) rows) a ≡ Some ys → IsFull n old → AllByRecursion (λ r. r < n) rows → AreDistinct rows
    → field_columns new ≡ set (field_columns old) f (written_at (get_or (field_columns old) f []) rows ys)
    → register_columns new ≡ register_columns old → new.sent ≡ old.sent → new.puts ≡ old.puts
    → LinesRun places (SetField f a ∷ []) c rows old new
field-runs places n f a c rows ys old new is full within distinct fields registers sent puts =
    let values = row-values (view_in c old) a rows ys is in
    record {
      sent = λ row. [];
      given = λ row. [];
      more = [];
      runs = zip-each runs-here rows ys (zip-if _ _ (length (field_columns old)) rows ys f
          (λ lt. rows-written (field_columns old) n f rows ys full.fields lt within distinct (zip-length _ rows ys values)) values);
      others = λ row other ms ps. λ i. state-with (row-kept (field_columns old) (field_columns new) f rows ys row fields other i) (row_at (registers i) row) ms ps;
      width = sym (length-map new.fields.items values_of) ∙ ap length fields ∙ length-set (field_columns old) f _ ∙ length-map old.fields.items values_of;
      messages = ap rows_if_any sent ∙ nothing-more (sent_in old) rows;
      puts = puts ∙ sym (append-nil old.puts);
      settle = nothing-settles rows;
      sends_once = inr (flat-nothing rows);
    } where
      runs-here : (row : ℕ) (y : Value)
          → ((f < length (field_columns old) → value_at (written_at (get_or (field_columns old) f []) rows ys) row ≡ y) × (value (view_in c old row) a ≡ Ok y))
          → RowRuns places (SetField f a ∷ []) c old new (λ row. []) (λ row. []) row
      runs-here row y h ms ps =
          ap (λ r. goes_on (line_ends (row_state old ms ps row) r (λ v. leaves (record (row_state old ms ps row) { fields = set (row_at (field_columns old) row) f v })))
          (λ k w. body_after places (context_in c row) [] k w)) h.1
          ∙ (λ i. leaves (state-with (sym (row-written (field_columns old) (field_columns new) f rows ys row y fields h.0) i) (row_at (sym registers i) row) (sym (append-nil ms) i) (sym (append-nil ps) i)))

-- a register is set
pub register-runs : (places n f : ℕ) (a : Term) (c : BatchContext) (rows : List ℕ) (ys : List Value) (old new : BatchState)
    → values_in (map (view_in c old) rows) a ≡ Some ys → IsFull n old → AllByRecursion (λ r. r < n) rows → AreDistinct rows
    → register_columns new ≡ set (register_columns old) f (written_at (get_or (register_columns old) f []) rows ys)
    → new.fields ≡ old.fields → new.sent ≡ old.sent → new.puts ≡ old.puts
    → LinesRun places (SetRegister f a ∷ []) c rows old new
register-runs places n f a c rows ys old new is full within distinct registers fields sent puts =
    let values = row-values (view_in c old) a rows ys is in
    record {
      sent = λ row. [];
      given = λ row. [];
      more = [];
      runs = zip-each runs-here rows ys (zip-if _ _ (length (register_columns old)) rows ys f
          (λ lt. rows-written (register_columns old) n f rows ys full.registers lt within distinct (zip-length _ rows ys values)) values);
      others = λ row other ms ps. λ i. state-with (row_at (map values_of (fields i).items) row) (row-kept (register_columns old) (register_columns new) f rows ys row registers other i) ms ps;
      width = ap (λ fs. length fs.items) fields;
      messages = ap rows_if_any sent ∙ nothing-more (sent_in old) rows;
      puts = puts ∙ sym (append-nil old.puts);
      settle = nothing-settles rows;
      sends_once = inr (flat-nothing rows);
    } where
      runs-here : (row : ℕ) (y : Value)
          → ((f < length (register_columns old) → value_at (written_at (get_or (register_columns old) f []) rows ys) row ≡ y) × (value (view_in c old row) a ≡ Ok y))
          → RowRuns places (SetRegister f a ∷ []) c old new (λ row. []) (λ row. []) row
      runs-here row y h ms ps =
          ap (λ r. goes_on (line_ends (row_state old ms ps row) r (λ v. leaves (record (row_state old ms ps row) { registers = set (row_at (register_columns old) row) f v })))
          (λ k w. body_after places (context_in c row) [] k w)) h.1
          ∙ (λ i. leaves (state-with (row_at (map values_of (sym fields i).items) row)
          (sym (row-written (register_columns old) (register_columns new) f rows ys row y registers h.0) i) (sym (append-nil ms) i) (sym (append-nil ps) i)))

-- a value is put
abbrev put-by : ℕ → Reduce → ℕ → Result Value Fault → List Contribution
put-by place reduce slot (Ok v) = single_put place reduce slot v ∷ []
put-by place reduce slot (Err f) = []

abbrev put-with : ℕ → ℕ → ℕ → Reduce → VertexContext → VertexState → Result Value Fault → After
put-with places place slot reduce s w r =
    goes_on (line_ends w (then_go (then_go r (λ x. then_go (Ok []) (λ xs. Ok (x ∷ xs)))) (λ vs. Ok (contributed place reduce (slot ∷ []) vs)))
    (λ given. leaves (record w { puts = w.puts ++ given }))) (λ k w'. body_after places s [] k w')

pub put-runs : (places place slot : ℕ) (reduce : Reduce) (a : Term) (c : BatchContext) (rows : List ℕ) (ys : List Value) (old new : BatchState) (more : List Contribution)
    → values_in (map (view_in c old) rows) a ≡ Some ys
    → new.puts ≡ old.puts ++ more → SettleAs (single_puts place reduce slot ys) more → new.fields ≡ old.fields → new.registers ≡ old.registers → new.sent ≡ old.sent
    → LinesRun places (Put reduce place (record { slot = slot; term = a } ∷ []) ∷ []) c rows old new
put-runs places place slot reduce a c rows ys old new more is puts settle fields registers sent =
    let values = row-values (view_in c old) a rows ys is in
    record {
      sent = λ row. [];
      given = λ row. put-by place reduce slot (value (view_in c old row) a);
      more = more;
      runs = zip-each runs-here rows ys values;
      others = λ row other ms ps. λ i. state-with (row_at (map values_of (fields i).items) row) (row_at (map (λ column. column.values) (registers i).items) row) ms ps;
      width = ap (λ fs. length fs.items) fields;
      messages = ap rows_if_any sent ∙ nothing-more (sent_in old) rows;
      puts = puts;
      settle = subst (λ l. SettleAs l more) (all-put rows ys values) settle;
      sends_once = inr (flat-nothing rows);
    } where
      all-put : (rows : List ℕ) (ys : List Value) → AllZip (λ row y. value (view_in c old row) a ≡ Ok y) rows ys
          → single_puts place reduce slot ys ≡ flat_map (λ row. put-by place reduce slot (value (view_in c old row) a)) rows
      all-put [] [] h = refl
      all-put [] (y ∷ ys) h = absurd h
      all-put (r ∷ rows) [] h = absurd h
      all-put (r ∷ rows) (y ∷ ys) h = λ i. put-by place reduce slot (sym h.0 i) ++ all-put rows ys h.1 i

      runs-here : (row : ℕ) (y : Value) → value (view_in c old row) a ≡ Ok y
          → RowRuns places (Put reduce place (record { slot = slot; term = a } ∷ []) ∷ []) c old new (λ row. []) (λ row. put-by place reduce slot (value (view_in c old row) a)) row
      runs-here row y h ms ps =
          let w : VertexState = row_state old ms ps row in
          ap (put-with places place slot reduce (context_in c row) w) h
          ∙ (λ i. leaves (state-with (row_at (map values_of (sym fields i).items) row) (row_at (map (λ column. column.values) (sym registers i).items) row)
          (sym (append-nil ms) i) (ps ++ put-by place reduce slot (sym h i))))

-- some lines, and then others
no-tail : {A : Type 0} (xs ys : List A) → xs ++ ys ≡ [] → (xs ≡ []) × (ys ≡ [])
no-tail [] ys e = (refl, e)
no-tail (x ∷ xs) ys e = absurd (omega (arith, ap length e))

flat-left : {A B : Type 0} (f g : A → List B) (xs : List A) → flat_map g xs ≡ [] → flat_map (λ x. f x ++ g x) xs ≡ flat_map f xs
flat-left f g [] e = refl
flat-left f g (x ∷ xs) e =
    let parts = no-tail (g x) (flat_map g xs) e in
    (λ i. (f x ++ parts.0 i) ++ flat-left f g xs parts.1 i) ∙ ap (λ l. l ++ flat_map f xs) (append-nil (f x))

flat-right : {A B : Type 0} (f g : A → List B) (xs : List A) → flat_map f xs ≡ [] → flat_map (λ x. f x ++ g x) xs ≡ flat_map g xs
flat-right f g [] e = refl
flat-right f g (x ∷ xs) e =
    let parts = no-tail (f x) (flat_map f xs) e in
    λ i. (parts.0 i ++ g x) ++ flat-right f g xs parts.1 i

once-both : {A B : Type 0} (f g : A → List B) (xs : List A) (old mid : List B) → mid ≡ old ++ flat_map f xs
    → (old ≡ []) ⊎ (flat_map f xs ≡ []) → (mid ≡ []) ⊎ (flat_map g xs ≡ []) → (old ≡ []) ⊎ (flat_map (λ x. f x ++ g x) xs ≡ [])
once-both f g xs old mid is first (inl e) = inl (no-tail old (flat_map f xs) (sym is ∙ e)).0
once-both f g xs old mid is (inl o) (inr e) = inl o
once-both f g xs old mid is (inr o) (inr e) = inr (flat-left f g xs e ∙ o)

puts-both : {A B : Type 0} (f g : A → List B) (xs : List A) (old mid : List B) → mid ≡ old ++ flat_map f xs
    → (mid ≡ []) ⊎ (flat_map g xs ≡ []) → mid ++ flat_map g xs ≡ old ++ flat_map (λ x. f x ++ g x) xs
puts-both f g xs old mid is (inl e) =
    let parts = no-tail old (flat_map f xs) (sym is ∙ e) in
    (λ i. e i ++ flat_map g xs) ∙ (λ i. sym parts.0 i ++ sym (flat-right f g xs parts.1) i)
puts-both f g xs old mid is (inr e) =
    (λ i. mid ++ e i) ∙ append-nil mid ∙ is ∙ ap (λ l. old ++ l) (sym (flat-left f g xs e))

flat-both : {A : Type 0} (f g : A → List Contribution) (xs : List A) → SameBag (flat_map (λ x. f x ++ g x) xs) (flat_map f xs ++ flat_map g xs)
flat-both f g [] = same_nil
flat-both f g (x ∷ xs) =
    subst (λ l. SameBag l (flat_map f (x ∷ xs) ++ flat_map g (x ∷ xs))) (sym (append_assoc (f x) (g x) (flat_map (λ y. f y ++ g y) xs)))
    (subst (λ l. SameBag (f x ++ (g x ++ flat_map (λ y. f y ++ g y) xs)) l) (sym (append_assoc (f x) (flat_map f xs) (g x ++ flat_map g xs)))
    (SameBag-append_left (f x) (same_trans (SameBag-append_left (g x) (flat-both f g xs)) (lists_past (g x) (flat_map f xs) (flat_map g xs)))))

pub both-run : (places : ℕ) (ls more : List Line) (c : BatchContext) (rows : List ℕ) (old mid new : BatchState) → stays ls ≡ true
    → LinesRun places ls c rows old mid → LinesRun places more c rows mid new → LinesRun places (ls ++ more) c rows old new
both-run places ls more c rows old mid new st first then' = record {
  sent = λ row. first.sent row ++ then'.sent row;
  given = λ row. first.given row ++ then'.given row;
  more = first.more ++ then'.more;
  runs = each-both go rows first.runs then'.runs;
  others = λ row other ms ps. then'.others row other ms ps ∙ first.others row other ms ps;
  width = then'.width ∙ first.width;
  messages = then'.messages ∙ puts-both first.sent then'.sent rows (sent_in old) (sent_in mid) first.messages then'.sends_once;
  sends_once = once-both first.sent then'.sent rows (sent_in old) (sent_in mid) first.messages first.sends_once then'.sends_once;
  puts = then'.puts ∙ ap (λ l. l ++ then'.more) first.puts ∙ append_assoc old.puts first.more then'.more;
  settle =
      settles-through _ _ _ (settles-permuted (flat-both first.given then'.given rows))
      (settles-together (flat_map first.given rows) first.more (flat_map then'.given rows) then'.more first.settle then'.settle);
} where
  go : (row : ℕ) → RowRuns places ls c old mid first.sent first.given row → RowRuns places more c mid new then'.sent then'.given row
      → RowRuns places (ls ++ more) c old new (λ row. first.sent row ++ then'.sent row) (λ row. first.given row ++ then'.given row) row
  go row one two ms ps =
      split places (context_in c row) ls more 0 (row_state old ms ps row) (omega arith) st
      ∙ ap (λ a. goes_on a (λ j w. body_after places (context_in c row) more 0 w)) (one ms ps)
      ∙ two (ms ++ first.sent row) (ps ++ first.given row)
      ∙ (λ i. leaves (row_state new (append_assoc ms (first.sent row) (then'.sent row) i) (append_assoc ps (first.given row) (then'.given row) i) row))

-- lines that some rows leave out
abbrev flag-of : Result Value Fault → Bool
flag-of (Ok v) = is_true v
flag-of (Err f) = false

abbrev skip-by : ℕ → ℕ → List Line → VertexContext → VertexState → Result Value Fault → After
skip-by places n ls s w r = goes_on (line_ends w r (λ v. record { state = w; fault = None; skip = if is_true v then 0 else n })) (λ k w'. body_after places s ls k w')

abbrev given-by : {A : Type 0} → Term → BatchContext → BatchState → (ℕ → List A) → ℕ → List A
given-by a c s given row = if flag-of (value (view_in c s row) a) then given row else []

all-given : {A : Type 0} (a : Term) (c : BatchContext) (s : BatchState) (given : ℕ → List A) (rows : List ℕ) (flags : List Bool)
    → AllZip (λ row flag. value (view_in c s row) a ≡ Ok (Flag flag)) rows flags → flat_map given (held flags rows) ≡ flat_map (given-by a c s given) rows
all-given a c s given [] [] h = refl
all-given a c s given [] (b ∷ flags) h = absurd h
all-given a c s given (r ∷ rows) [] h = absurd h
all-given a c s given (r ∷ rows) (true ∷ flags) h = λ i. (if flag-of (sym h.0 i) then given r else []) ++ all-given a c s given rows flags h.1 i
all-given a c s given (r ∷ rows) (false ∷ flags) h = λ i. (if flag-of (sym h.0 i) then given r else []) ++ all-given a c s given rows flags h.1 i

once-given : {A B : Type 0} (old : List B) (xs ys : List A) → xs ≡ ys → (old ≡ []) ⊎ (xs ≡ []) → (old ≡ []) ⊎ (ys ≡ [])
once-given old xs ys same (inl e) = inl e
once-given old xs ys same (inr e) = inr (sym same ∙ e)

pub skip-runs : (places n : ℕ) (a : Term) (ls : List Line) (c : BatchContext) (rows inside : List ℕ) (old new : BatchState) → length ls ≤ n → AreDistinct rows
    → ArePartedBy a c old rows inside → LinesRun places ls c inside old new → LinesRun places (Skip n a ∷ ls) c rows old new
skip-runs places n a ls c rows inside old new le distinct parted run = record {
  sent = given-by a c old run.sent;
  given = given-by a c old run.given;
  more = run.more;
  runs = go rows parted.flags parted.truths (subst (λ l. AllByRecursion (RowRuns places ls c old new run.sent run.given) l) parted.are run.runs)
      (each-weaker (λ row other. kept row (subst (λ l. AllByRecursion (λ r. r ≢ row) l) (sym parted.are) other)) _ (apart parted.flags rows distinct));
  others = λ row other. kept row (subst (λ l. AllByRecursion (λ r. r ≢ row) l) (sym parted.are) (each-held _ parted.flags rows other));
  width = run.width;
  messages = run.messages ∙ ap (λ l. sent_in old ++ l) sent-is;
  puts = run.puts;
  settle = subst (λ l. SettleAs l run.more) given-is run.settle;
  sends_once = once-given (sent_in old) _ _ sent-is run.sends_once;
} where
  kept : (row : ℕ) → AllByRecursion (λ r. r ≢ row) inside → (ms : List Message) (ps : List Contribution) → row_state new ms ps row ≡ row_state old ms ps row
  kept row other ms ps = run.others row other ms ps

  sent-is : flat_map run.sent inside ≡ flat_map (given-by a c old run.sent) rows
  sent-is = ap (flat_map run.sent) parted.are ∙ all-given a c old run.sent rows parted.flags parted.truths

  given-is : flat_map run.given inside ≡ flat_map (given-by a c old run.given) rows
  given-is = ap (flat_map run.given) parted.are ∙ all-given a c old run.given rows parted.flags parted.truths

  go : (rows : List ℕ) (flags : List Bool) → AllZip (λ row flag. value (view_in c old row) a ≡ Ok (Flag flag)) rows flags
      → AllByRecursion (RowRuns places ls c old new run.sent run.given) (held flags rows)
      → AllByRecursion (λ row. (ms : List Message) (ps : List Contribution) → row_state new ms ps row ≡ row_state old ms ps row) (left_out flags rows)
      → AllByRecursion (RowRuns places (Skip n a ∷ ls) c old new (given-by a c old run.sent) (given-by a c old run.given)) rows
  go [] [] h runs same = tt
  go [] (b ∷ flags) h runs same = absurd h
  go (r ∷ rows) [] h runs same = absurd h
  go (r ∷ rows) (true ∷ flags) h runs same = (
    (λ ms ps. ap (skip-by places n ls (context_in c r) (row_state old ms ps r)) h.0 ∙ runs.0 ms ps
        ∙ (λ i. leaves (row_state new (ms ++ (if flag-of (sym h.0 i) then run.sent r else [])) (ps ++ (if flag-of (sym h.0 i) then run.given r else [])) r))),
    go rows flags h.1 runs.1 same,
  )
  go (r ∷ rows) (false ∷ flags) h runs same = (
    (λ ms ps. ap (skip-by places n ls (context_in c r) (row_state old ms ps r)) h.0 ∙ past places (context_in c r) ls n (row_state old ms ps r) le
        ∙ ap leaves (sym (same.0 ms ps)) ∙ (λ i. leaves (row_state new (sym (append-nil ms) i) (sym (append-nil ps) i) r))
        ∙ (λ i. leaves (row_state new (ms ++ (if flag-of (sym h.0 i) then run.sent r else [])) (ps ++ (if flag-of (sym h.0 i) then run.given r else [])) r))),
    go rows flags h.1 runs same.1,
  )

-- lines that rows leave out, and those behind them
pub skip-then : (places n : ℕ) (a : Term) (ls inner more : List Line) (c : BatchContext) (rows : List ℕ) (old mid new : BatchState)
    → ls ≡ inner ++ more → length inner ≡ n → stays inner ≡ true
    → LinesRun places (Skip n a ∷ inner) c rows old mid → LinesRun places more c rows mid new → LinesRun places (Skip n a ∷ ls) c rows old new
skip-then places n a ls inner more c rows old mid new is long st run rest =
    subst (λ l. LinesRun places (Skip n a ∷ l) c rows old new) (sym is)
    (both-run places (Skip n a ∷ inner) more c rows old mid new (and_from (nat_le n (length inner)) (stays inner) (le-leb n (length inner) (omega (arith, long))) st) run rest)

-- a line, and those behind it
pub line-then : (places : ℕ) (l : Line) (ls : List Line) (c : BatchContext) (rows : List ℕ) (old mid new : BatchState) → reach l ≡ 0
    → LinesRun places (l ∷ []) c rows old mid → LinesRun places ls c rows mid new → LinesRun places (l ∷ ls) c rows old new
line-then places l ls c rows old mid new none run rest =
    both-run places (l ∷ []) ls c rows old mid new (and_from (nat_le (reach l) 0) true (le-leb (reach l) 0 (omega (arith, none))) refl) run rest
