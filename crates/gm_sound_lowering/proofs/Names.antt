-- The names, slots and columns of inputs and outputs keep their rule.
use Rattle.std.proofs.Common.{◌≡◌, ◌<◌, ◌≤◌, ℕ, zero, suc, Bool, true, false, cond, List, [], ◌∷◌, ◌++◌, length, refl, ap, ◌∙◌, sym, subst, arith, length-append}
use Rattle.std.specs.Prelude.{◌+◌, ◌-◌, ◌&&◌, ◌||◌, not, nat_lt, nat_eq, filter}
use Rattle.std.specs.List.{list_all, list_any}
use Rattle.std.specs.Str.{bytes_eq}
use Rattle.std.proofs.lemmas.Bool.{and_from, eq-eqb, ne_eqb, or_from, or_left, or_right, lt-ltb}
use Rattle.std.proofs.lemmas.List.{length-map}
use Rattle.gm_ast.specs.declared.tree.Declaration.{Declaration}
use Rattle.gm_ast.specs.declared.tree.Sort.{Sort}
use Rattle.gm_ast.specs.declared.tree.Sort.TheVariants as Sorts
use Rattle.gm_ast.specs.Names.{is, sort_eq}
use Rattle.gm_ast.specs.Program.{Program}
use Rattle.gm_forms.specs.Typing.{type_at}
use Rattle.gm_semantics.specs.Levels.{numbers_from}
use Rattle.gm_semantics.specs.Statements.{variable_at}
use Rattle.gm_typed_stores.specs.Values.{Each}
use Rattle.gm_image.specs.declared.rules.ImageRule.TheVariants.{I10}
use Rattle.gm_image.specs.Names.{is_name, is_of_edges, has_new_name, is_at, has_new_slot, may_hold, follows_edges, input_keeps, output_keeps}
use Rattle.gm_image.specs.Program as image
use Rattle.gm_image.specs.Program.{Item, Holder}
use Rattle.gm_image.specs.Rows.{Row, InputRow, OutputRow, KindRow, rows_after, block_rows}
use Rattle.gm_image.specs.Soundness.{keeps}
use Rattle.gm_lowering.specs.Layouts.{layout, those, rank, tested, is_global, has_field}
use Rattle.gm_lowering.specs.Lowered.{lowered, items, items_by}
use Rattle.gm_lowering.proofs.Ranks.{rank-up}
use Rattle.gm_lowering_master.specs.Whole.{HasInterface}
use Rattle.gm_sound_lowering.specs.Asked.{name_at, HasNames}
use Rattle.gm_sound_lowering.specs.Laws.{KeepsRule, NamesKeep}
use Rattle.gm_sound_lowering.proofs.Rowwise.{rows-pass, all-always, block-always, no-commands}

-- numbers from 0 on, and one more
numbers-more : (a m : ℕ) → numbers_from a (suc m) ≡ numbers_from a m ++ (a + m) ∷ []
numbers-more a zero = let z : a ≡ a + 0 = omega arith in ap (λ n. n ∷ []) z
numbers-more a (suc m) = let z : suc a + m ≡ a + suc m = omega arith in ap (λ xs. a ∷ xs) (numbers-more (suc a) m ∙ ap (λ n. numbers_from (suc a) m ++ n ∷ []) z)

module _ (p : Program) where
  abbrev ds : List Declaration
  ds = p.declarations

  items-append : (xs ys : List ℕ) → items p (xs ++ ys) ≡ items p xs ++ items p ys
  items-append [] ys = refl
  items-append (x ∷ xs) ys = ap (λ zs. items_by p (variable_at ds x).sort x ++ zs) (items-append xs ys) ∙ joined (items_by p (variable_at ds x).sort x) (items p xs) (items p ys) where
    joined : (us vs ws : List Item) → us ++ (vs ++ ws) ≡ (us ++ vs) ++ ws
    joined [] vs ws = refl
    joined (u ∷ us) vs ws = ap (λ zs. u ∷ zs) (joined us vs ws)

  append-nothing : (xs : List Item) → xs ++ [] ≡ xs
  append-nothing [] = refl
  append-nothing (x ∷ xs) = ap (λ zs. x ∷ zs) (append-nothing xs)

  -- a test that no item of some variables passes
  none-of : (test : Item → Bool) (a m : ℕ) → ((x : ℕ) → a ≤ x → x < a + m → Each (λ i. test i ≡ false) (items_by p (variable_at ds x).sort x)) → list_any test (items p (numbers_from a m)) ≡ false
  none-of test a zero h = refl
  none-of test a (suc m) h = joined (items_by p (variable_at ds a).sort a) (h a (omega arith) (omega arith)) (none-of test (suc a) m (λ x le lt. h x (omega (arith, le)) (omega (arith, lt)))) where
    joined : (xs : List Item) → Each (λ i. test i ≡ false) xs → list_any test (items p (numbers_from (suc a) m)) ≡ false → list_any test (xs ++ items p (numbers_from (suc a) m)) ≡ false
    joined [] h r = r
    joined (x ∷ xs) h r = or_from (test x) (list_any test (xs ++ items p (numbers_from (suc a) m))) h.0 (joined xs h.1 r)

  -- the item of a variable has its name
  named-so : (x : ℕ) (s : Sort) (text : List ℕ) → bytes_eq (name_at ds x) text ≡ false → Each (λ i. bytes_eq i.name text ≡ false) (items_by p s x)
  named-so x Sorts.Scalar text e = (e, tt)
  named-so x Sorts.NodeProperty text e = (e, tt)
  named-so x Sorts.EdgeProperty text e = (e, tt)
  named-so x Sorts.Graph text e = tt
  named-so x Sorts.Iterator text e = tt
  named-so x Sorts.Edge text e = tt

  -- ---- slots

  -- an item of another variable is not at a slot
  other-slot : (h : Holder) (slot y : ℕ) (s : Sort) → (s ≡ Sorts.Scalar → h ≡ image.Scalar → slot ≡ (layout p).global y → ⊥) → (s ≡ Sorts.NodeProperty → h ≡ image.Node → slot ≡ (layout p).field y → ⊥)
      → (s ≡ Sorts.EdgeProperty → h ≡ image.Edge → slot ≡ (layout p).column y → ⊥) → Each (λ i. is_at h slot i ≡ false) (items_by p s y)
  other-slot image.Scalar slot y Sorts.Scalar a b c = (ne_eqb slot ((layout p).global y) (λ e. a refl refl e), tt)
  other-slot image.Node slot y Sorts.Scalar a b c = (refl, tt)
  other-slot image.Edge slot y Sorts.Scalar a b c = (refl, tt)
  other-slot image.Scalar slot y Sorts.NodeProperty a b c = (refl, tt)
  other-slot image.Node slot y Sorts.NodeProperty a b c = (ne_eqb slot ((layout p).field y) (λ e. b refl refl e), tt)
  other-slot image.Edge slot y Sorts.NodeProperty a b c = (refl, tt)
  other-slot image.Scalar slot y Sorts.EdgeProperty a b c = (refl, tt)
  other-slot image.Node slot y Sorts.EdgeProperty a b c = (refl, tt)
  other-slot image.Edge slot y Sorts.EdgeProperty a b c = (ne_eqb slot ((layout p).column y) (λ e. c refl refl e), tt)
  other-slot h slot y Sorts.Graph a b c = tt
  other-slot h slot y Sorts.Iterator a b c = tt
  other-slot h slot y Sorts.Edge a b c = tt

  edges-counted : (xs : List ℕ) → length (filter is_of_edges (items p xs)) ≡ length (filter (tested p (is Sorts.EdgeProperty)) xs)
  edges-counted [] = refl
  edges-counted (x ∷ xs) = by (variable_at ds x).sort refl (edges-counted xs) where
    by : (s : Sort) → (variable_at ds x).sort ≡ s → length (filter is_of_edges (items p xs)) ≡ length (filter (tested p (is Sorts.EdgeProperty)) xs)
        → length (filter is_of_edges (items_by p s x ++ items p xs)) ≡ length (cond (is Sorts.EdgeProperty (variable_at ds x)) (x ∷ filter (tested p (is Sorts.EdgeProperty)) xs) (filter (tested p (is Sorts.EdgeProperty)) xs))
    by Sorts.EdgeProperty e r = ap suc r ∙ sym (ap (λ s. length (cond (sort_eq Sorts.EdgeProperty s) (x ∷ filter (tested p (is Sorts.EdgeProperty)) xs) (filter (tested p (is Sorts.EdgeProperty)) xs))) e)
    by Sorts.Scalar e r = r ∙ sym (ap (λ s. length (cond (sort_eq Sorts.EdgeProperty s) (x ∷ filter (tested p (is Sorts.EdgeProperty)) xs) (filter (tested p (is Sorts.EdgeProperty)) xs))) e)
    by Sorts.NodeProperty e r = r ∙ sym (ap (λ s. length (cond (sort_eq Sorts.EdgeProperty s) (x ∷ filter (tested p (is Sorts.EdgeProperty)) xs) (filter (tested p (is Sorts.EdgeProperty)) xs))) e)
    by Sorts.Graph e r = r ∙ sym (ap (λ s. length (cond (sort_eq Sorts.EdgeProperty s) (x ∷ filter (tested p (is Sorts.EdgeProperty)) xs) (filter (tested p (is Sorts.EdgeProperty)) xs))) e)
    by Sorts.Iterator e r = r ∙ sym (ap (λ s. length (cond (sort_eq Sorts.EdgeProperty s) (x ∷ filter (tested p (is Sorts.EdgeProperty)) xs) (filter (tested p (is Sorts.EdgeProperty)) xs))) e)
    by Sorts.Edge e r = r ∙ sym (ap (λ s. length (cond (sort_eq Sorts.EdgeProperty s) (x ∷ filter (tested p (is Sorts.EdgeProperty)) xs) (filter (tested p (is Sorts.EdgeProperty)) xs))) e)

  none-behind : HasInterface p → (a m : ℕ) → p.inputs ≤ a → filter (tested p (is Sorts.EdgeProperty)) (numbers_from a m) ≡ []
  none-behind h a zero le = refl
  none-behind h a (suc m) le = by (is Sorts.EdgeProperty (variable_at ds a)) refl (none-behind h (suc a) m (omega (arith, le))) where
    by : (b : Bool) → is Sorts.EdgeProperty (variable_at ds a) ≡ b → filter (tested p (is Sorts.EdgeProperty)) (numbers_from (suc a) m) ≡ []
        → cond b (a ∷ filter (tested p (is Sorts.EdgeProperty)) (numbers_from (suc a) m)) (filter (tested p (is Sorts.EdgeProperty)) (numbers_from (suc a) m)) ≡ []
    by true e r = let lt = h.edges a e in absurd (omega (arith, lt, le))
    by false e r = r

  filter-parts : (test : ℕ → Bool) (a m k : ℕ) → filter test (numbers_from a (m + k)) ≡ filter test (numbers_from a m) ++ filter test (numbers_from (a + m) k)
  filter-parts test a zero k = ap (λ n. filter test (numbers_from a n)) (let z : 0 + k ≡ k = omega arith in z) ∙ ap (λ n. filter test (numbers_from n k)) (let z : a ≡ a + 0 = omega arith in z)
  filter-parts test a (suc m) k =
      ap (λ n. filter test (numbers_from a n)) (let z : suc m + k ≡ suc (m + k) = omega arith in z)
      ∙ by (test a) (filter-parts test (suc a) m k ∙ ap (λ n. filter test (numbers_from (suc a) m) ++ filter test (numbers_from n k)) (let z : suc a + m ≡ a + suc m = omega arith in z)) where
        by : (b : Bool) → filter test (numbers_from (suc a) (m + k)) ≡ filter test (numbers_from (suc a) m) ++ filter test (numbers_from (a + suc m) k)
            → cond b (a ∷ filter test (numbers_from (suc a) (m + k))) (filter test (numbers_from (suc a) (m + k))) ≡ cond b (a ∷ filter test (numbers_from (suc a) m)) (filter test (numbers_from (suc a) m)) ++ filter test (numbers_from (a + suc m) k)
        by true e = ap (λ xs. a ∷ xs) e
        by false e = e

  -- the columns are as many as the inputs of edges
  columns-counted : HasInterface p → length (lowered p).columns ≡ length (filter is_of_edges (lowered p).inputs)
  columns-counted h =
      let test = tested p (is Sorts.EdgeProperty) in
      let d = h.declared in
      let z : length ds ≡ p.inputs + (length ds - p.inputs) = omega (arith, d) in
      length-map (those test (length ds)) (λ x. (variable_at ds x).vtype)
      ∙ ap (λ n. length (filter test (numbers_from 0 n))) z
      ∙ ap length (filter-parts test 0 p.inputs (length ds - p.inputs))
      ∙ length-append (filter test (numbers_from 0 p.inputs)) (filter test (numbers_from (0 + p.inputs) (length ds - p.inputs)))
      ∙ ap (λ xs. length (filter test (numbers_from 0 p.inputs)) + length xs) (none-behind h (0 + p.inputs) (length ds - p.inputs) (omega arith))
      ∙ (let y : length (filter test (numbers_from 0 p.inputs)) + 0 ≡ length (filter test (numbers_from 0 p.inputs)) = omega arith in y)
      ∙ sym (edges-counted (numbers_from 0 p.inputs))

  -- ---- one item after another

  -- the items of some variables and of one more
  items-more : (b k : ℕ) → items p (numbers_from b (suc k)) ≡ items p (numbers_from b k) ++ items_by p (variable_at ds (b + k)).sort (b + k)
  items-more b k =
      ap (items p) (numbers-more b k) ∙ items-append (numbers_from b k) ((b + k) ∷ [])
      ∙ ap (λ zs. items p (numbers_from b k) ++ zs) (append-nothing (items_by p (variable_at ds (b + k)).sort (b + k)))

  module _ (f : Row → Bool) (row : List Item → Item → Row) (b limit : ℕ)
      (keep : (k : ℕ) → b + k < limit → Each (λ i. f (row (items p (numbers_from b k)) i) ≡ true) (items_by p (variable_at ds (b + k)).sort (b + k))) where
    step : (s : Sort) (x : ℕ) (before rest : List Item) → Each (λ i. f (row before i) ≡ true) (items_by p s x) → list_all f (rows_after row (before ++ items_by p s x) rest) ≡ true → list_all f (rows_after row before (items_by p s x ++ rest)) ≡ true
    step Sorts.Scalar x before rest h r = and_from (f (row before (record { holder = image.Scalar; vtype = type_at ds x; name = name_at ds x; slot = (layout p).global x }))) _ h.0 r
    step Sorts.NodeProperty x before rest h r = and_from (f (row before (record { holder = image.Node; vtype = type_at ds x; name = name_at ds x; slot = (layout p).field x }))) _ h.0 r
    step Sorts.EdgeProperty x before rest h r = and_from (f (row before (record { holder = image.Edge; vtype = type_at ds x; name = name_at ds x; slot = (layout p).column x }))) _ h.0 r
    step Sorts.Graph x before rest h r = subst (λ zs. list_all f (rows_after row zs rest) ≡ true) (append-nothing before) r
    step Sorts.Iterator x before rest h r = subst (λ zs. list_all f (rows_after row zs rest) ≡ true) (append-nothing before) r
    step Sorts.Edge x before rest h r = subst (λ zs. list_all f (rows_after row zs rest) ≡ true) (append-nothing before) r

    walk : (k m : ℕ) → b + (k + m) ≤ limit → list_all f (rows_after row (items p (numbers_from b k)) (items p (numbers_from (b + k) m))) ≡ true
    walk k zero le = refl
    walk k (suc m) le =
        let next = walk (suc k) m (omega (arith, le)) in
        let same : list_all f (rows_after row (items p (numbers_from b k) ++ items_by p (variable_at ds (b + k)).sort (b + k)) (items p (numbers_from (suc (b + k)) m))) ≡ true =
        subst (λ zs. list_all f (rows_after row zs (items p (numbers_from (suc (b + k)) m))) ≡ true) (items-more b k)
        (subst (λ n. list_all f (rows_after row (items p (numbers_from b (suc k))) (items p (numbers_from n m))) ≡ true) (let z : b + suc k ≡ suc (b + k) = omega arith in z) next) in
        step (variable_at ds (b + k)).sort (b + k) (items p (numbers_from b k)) (items p (numbers_from (suc (b + k)) m)) (keep k (omega (arith, le))) same

  -- ---- the rule

  module _ (h : HasInterface p) (names : HasNames p) where
    abbrev f : Row → Bool
    f row = keeps (lowered p) row I10

    global-there : (x : ℕ) → x < p.inputs + p.outputs → (variable_at ds x).sort ≡ Sorts.Scalar → tested p is_global x ≡ true
    global-there x lt e =
        and_from (nat_eq (variable_at ds x).depth 0) (is Sorts.Scalar (variable_at ds x) || is Sorts.Iterator (variable_at ds x)) (eq-eqb (variable_at ds x).depth 0 (h.outside x lt))
        (or_left (is Sorts.Scalar (variable_at ds x)) (is Sorts.Iterator (variable_at ds x)) (ap (sort_eq Sorts.Scalar) e))

    field-there : (x : ℕ) → x < p.inputs + p.outputs → (variable_at ds x).sort ≡ Sorts.NodeProperty → has_field p x ≡ true
    field-there x lt e = and_from (is Sorts.NodeProperty (variable_at ds x)) _ (ap (sort_eq Sorts.NodeProperty) e) (or_left (nat_lt x (p.inputs + p.outputs)) _ (lt-ltb x (p.inputs + p.outputs) lt))

    -- the slot of an input is none of those before
    slot-apart : (test : ℕ → Bool) (x y : ℕ) → y < x → test y ≡ true → rank test x ≡ rank test y → ⊥
    slot-apart test x y lt e same = let r = rank-up test y x e lt in omega (arith, r, same)

    before-names : (b k : ℕ) → b + k < p.inputs + p.outputs → ((y : ℕ) → b ≤ y → y < b + k → bytes_eq (name_at ds y) (name_at ds (b + k)) ≡ false) → (i : Item) → i.name ≡ name_at ds (b + k) → has_new_name (items p (numbers_from b k)) i ≡ true
    before-names b k lt d i e = ap not (none-of (λ j. bytes_eq j.name i.name) b k (λ y l m. named-so y (variable_at ds y).sort i.name (ap (bytes_eq (name_at ds y)) e ∙ d y l m)))

    new-slot : (k : ℕ) (i : Item)
        → ((y : ℕ) → y < k → (variable_at ds y).sort ≡ Sorts.Scalar → i.holder ≡ image.Scalar → i.slot ≡ (layout p).global y → ⊥)
        → ((y : ℕ) → y < k → (variable_at ds y).sort ≡ Sorts.NodeProperty → i.holder ≡ image.Node → i.slot ≡ (layout p).field y → ⊥)
        → ((y : ℕ) → y < k → (variable_at ds y).sort ≡ Sorts.EdgeProperty → i.holder ≡ image.Edge → i.slot ≡ (layout p).column y → ⊥)
        → has_new_slot (items p (numbers_from 0 k)) i ≡ true
    new-slot k i a b c =
        ap not (none-of (is_at i.holder i.slot) 0 k (λ y l m. let lt : y < k = omega (arith, m) in other-slot i.holder i.slot y (variable_at ds y).sort (a y lt) (b y lt) (c y lt)))

    -- the five parts of the rule of an input, and the two of an output
    all-five : (i : Item) (k : ℕ) → k < p.inputs → i.name ≡ name_at ds k → has_new_slot (items p (numbers_from 0 k)) i ≡ true → may_hold i.holder i.vtype ≡ true → follows_edges i.holder i.slot (items p (numbers_from 0 k)) ≡ true
        → input_keeps (items p (numbers_from 0 k)) i ≡ true
    all-five i k lt e slot holds follows =
        let before = items p (numbers_from 0 k) in
        let z : 0 + k ≡ k = omega arith in
        let new : has_new_name before i ≡ true = before-names 0 k (omega (arith, lt)) (λ y l m. names.inputs_differ y (0 + k) m (omega (arith, lt))) i (e ∙ ap (name_at ds) (sym z)) in
        and_from (((is_name i.name && has_new_name before i) && has_new_slot before i) && may_hold i.holder i.vtype) (follows_edges i.holder i.slot before)
        (and_from ((is_name i.name && has_new_name before i) && has_new_slot before i) (may_hold i.holder i.vtype)
        (and_from (is_name i.name && has_new_name before i) (has_new_slot before i) (and_from (is_name i.name) (has_new_name before i) (ap is_name e ∙ names.names k (omega (arith, lt))) new) slot) holds) follows

    both-two : (i : Item) (k : ℕ) → p.inputs + k < p.inputs + p.outputs → i.name ≡ name_at ds (p.inputs + k) → output_keeps (items p (numbers_from p.inputs k)) i ≡ true
    both-two i k lt e =
        and_from (is_name i.name) (has_new_name (items p (numbers_from p.inputs k)) i) (ap is_name e ∙ names.names (p.inputs + k) lt)
        (before-names p.inputs k lt (λ y l m. names.outputs_differ y (p.inputs + k) l m lt) i e)

    input-keeps : (k : ℕ) → k < p.inputs → (s : Sort) → (variable_at ds k).sort ≡ s → Each (λ i. input_keeps (items p (numbers_from 0 k)) i ≡ true) (items_by p s k)
    input-keeps k lt Sorts.Scalar e =
        let i : Item = record { holder = image.Scalar; vtype = type_at ds k; name = name_at ds k; slot = (layout p).global k } in
        (all-five i k lt refl (new-slot k i (λ y l s hh same. slot-apart (tested p is_global) k y l (global-there y (omega (arith, l, lt)) s) same) (λ y l s hh same. cc) (λ y l s hh same. cc)) refl refl, tt)
    input-keeps k lt Sorts.NodeProperty e =
        let i : Item = record { holder = image.Node; vtype = type_at ds k; name = name_at ds k; slot = (layout p).field k } in
        (all-five i k lt refl (new-slot k i (λ y l s hh same. cc) (λ y l s hh same. slot-apart (has_field p) k y l (field-there y (omega (arith, l, lt)) s) same) (λ y l s hh same. cc)) (ap not (names.no_nodes k lt (or_left (is Sorts.NodeProperty (variable_at ds k)) (is Sorts.EdgeProperty (variable_at ds k)) (ap (sort_eq Sorts.NodeProperty) e)))) refl, tt)
    input-keeps k lt Sorts.EdgeProperty e =
        let i : Item = record { holder = image.Edge; vtype = type_at ds k; name = name_at ds k; slot = (layout p).column k } in (
          all-five i k lt refl (new-slot k i (λ y l s hh same. cc) (λ y l s hh same. cc) (λ y l s hh same. slot-apart (tested p (is Sorts.EdgeProperty)) k y l (ap (sort_eq Sorts.EdgeProperty) s) same))
              (ap not (names.no_nodes k lt (or_right (is Sorts.NodeProperty (variable_at ds k)) (is Sorts.EdgeProperty (variable_at ds k)) (ap (sort_eq Sorts.EdgeProperty) e))))
              (eq-eqb ((layout p).column k) (length (filter is_of_edges (items p (numbers_from 0 k)))) (sym (edges-counted (numbers_from 0 k)))),
          tt,
        )
    input-keeps k lt Sorts.Graph e = tt
    input-keeps k lt Sorts.Iterator e = tt
    input-keeps k lt Sorts.Edge e = tt

    output-keeps : (k : ℕ) → p.inputs + k < p.inputs + p.outputs → (s : Sort) → Each (λ i. output_keeps (items p (numbers_from p.inputs k)) i ≡ true) (items_by p s (p.inputs + k))
    output-keeps k lt Sorts.Scalar =
        let i : Item = record { holder = image.Scalar; vtype = type_at ds (p.inputs + k); name = name_at ds (p.inputs + k); slot = (layout p).global (p.inputs + k) } in (both-two i k lt refl, tt)
    output-keeps k lt Sorts.NodeProperty =
        let i : Item = record { holder = image.Node; vtype = type_at ds (p.inputs + k); name = name_at ds (p.inputs + k); slot = (layout p).field (p.inputs + k) } in (both-two i k lt refl, tt)
    output-keeps k lt Sorts.EdgeProperty =
        let i : Item = record { holder = image.Edge; vtype = type_at ds (p.inputs + k); name = name_at ds (p.inputs + k); slot = (layout p).column (p.inputs + k) } in (both-two i k lt refl, tt)
    output-keeps k lt Sorts.Graph = tt
    output-keeps k lt Sorts.Iterator = tt
    output-keeps k lt Sorts.Edge = tt

    all-names : KeepsRule I10 p
    all-names =
        let i = lowered p in
        rows-pass f i (record {
          plain = refl;
          name = names.name;
          inputs = walk f InputRow 0 p.inputs (λ k lt. let z : 0 + k ≡ k = omega arith in subst (λ x. Each (λ i. f (InputRow (items p (numbers_from 0 k)) i) ≡ true) (items_by p (variable_at ds x).sort x)) (sym z) (input-keeps k (omega (arith, lt)) (variable_at ds k).sort refl)) 0 p.inputs (omega arith);
          outputs = at-inputs (walk f OutputRow p.inputs (p.inputs + p.outputs) (λ k lt. output-keeps k lt (variable_at ds (p.inputs + k)).sort) 0 p.outputs (omega arith));
          result = refl;
          columns = eq-eqb (length i.columns) (length (filter is_of_edges i.inputs)) (columns-counted h);
          kinds = all-always (λ k. f (KindRow k)) (λ k. refl) i.kinds;
          blocks = all-always (λ b. list_all f (block_rows b)) (block-always f refl (λ before x. refl) (λ s l. refl)) i.blocks;
          list = refl;
          commands = no-commands f (λ j c. refl) 0 i.master;
        }) where
          at-inputs : list_all f (rows_after OutputRow [] (items p (numbers_from (p.inputs + 0) p.outputs))) ≡ true → list_all f (rows_after OutputRow [] (items p (numbers_from p.inputs p.outputs))) ≡ true
          at-inputs e = subst (λ n. list_all f (rows_after OutputRow [] (items p (numbers_from n p.outputs))) ≡ true) (let z : p.inputs + 0 ≡ p.inputs = omega arith in z) e

pub names-keep : NamesKeep
names-keep p h names = all-names p h names
