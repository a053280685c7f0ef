-- A reduction over all nodes, of which one passes, gives what stands at that node.
use Rattle.std.proofs.Common.{◌≡◌, ◌≤◌, ◌<◌, ◌+◌, ℕ, ℤ, pos, zero, suc, Bool, true, false, cond, List, [], ◌∷◌, ◌++◌, map, refl, sym, ap, subst, ◌∙◌, arith, Some, Result, Ok, Err}
use Rattle.std.specs.Prelude.{◌≢◌, ◌&&◌, IsTrue, nat_eq, int_le, if◌then◌else◌}
use Rattle.std.specs.Int.{int_max}
use Rattle.std.specs.Ordering.{int_eq}
use Rattle.std.proofs.lemmas.Bool.{both_ways, eq-eqb, eqb-true}
use Rattle.std.proofs.lemmas.Bool.Decides.{Decides-int_eq}
use Rattle.std.proofs.lemmas.Int.{ints, clamps}
use Rattle.gm_value.specs.declared.values.VType.{VType}
use Rattle.gm_value.specs.declared.values.VType.TheVariants as V
use Rattle.gm_value.specs.declared.values.Value.{Value}
use Rattle.gm_value.specs.declared.values.Value.TheVariants.{Flag, At}
use Rattle.gm_value.specs.Numbers.{number_of, value_at, least_of, fits, checked, IsOf}
use Rattle.gm_value.specs.Reductions.{unit_of, close}
use Rattle.gm_value.proofs.NumberLaws.{checked-number_of}
use Rattle.gm_model.specs.Graphs.{Step, node_count}
use Rattle.gm_ast.specs.declared.tree.Fold.{Fold}
use Rattle.gm_ast.specs.declared.tree.Key.{Key}
use Rattle.gm_ast.specs.Program.{Expr}
use Rattle.gm_semantics.specs.declared.faults.Fault.{Fault}
use Rattle.gm_semantics.specs.Levels.{numbers_from, nodes}
use Rattle.gm_semantics.specs.Faults.{least, unless_fault, oks, errs, joined, of_total}
use Rattle.gm_semantics.specs.Expressions.{Answer, View, entered, element, members_of, reduce_of, closed, reduction, settled, early, value, steps_in}
use Rattle.gm_desugar.specs.Conditions.{nowhere}
use Rattle.gm_reductions.specs.declared.accesses.Fresh.{Fresh}
use Rattle.gm_reductions.specs.Accesses.{filter_key, element_key, total_key, total_place, all_nodes, is_there, word_for, one_node}

-- ---- the greatest of one value and of the least of its type

max-left : (a b : ℤ) → int_le a b ≡ true → int_max a b ≡ b
max-left a b h = omega (arith, ints, clamps)

max-right : (a b : ℤ) → int_le b a ≡ true → int_max a b ≡ a
max-right a b h = omega (arith, ints, clamps)

left-true : (a b : Bool) → a && b ≡ true → a ≡ true
left-true true b h = refl
left-true false b h = absurd (both_ways false refl h)

max-checked : (t : VType) (v : Value) → IsOf t v → checked t (int_max (least_of t) (int_max (number_of v) (least_of t))) ≡ Ok v
max-checked t v h =
    let low : int_le (least_of t) (number_of v) ≡ true = left-true (int_le (least_of t) (number_of v)) _ h.1 in
    ap (λ z. checked t (int_max (least_of t) z)) (max-right (number_of v) (least_of t) low)
    ∙ ap (checked t) (max-left (least_of t) (number_of v) low)
    ∙ ap (λ u. checked u (number_of v)) (sym h.0)
    ∙ checked-number_of v (subst (λ u. IsTrue (fits u (number_of v))) (sym h.0) h.1)

close-one : (t : VType) (v : Value) → IsOf t v → close (reduce_of (word_for t)) (value_at t (unit_of (reduce_of (word_for t)) t)) (v ∷ []) ≡ Ok v
close-one V.I32 v h = max-checked V.I32 v h
close-one V.I64 v h = max-checked V.I64 v h
close-one V.Flag v h = max-checked V.Flag v h
close-one V.Node v h = max-checked V.Node v h

one-member : (t : VType) (v : Value) → members_of (word_for t) v ≡ v ∷ []
one-member V.I32 v = refl
one-member V.I64 v = refl
one-member V.Flag v = refl
one-member V.Node v = refl

pub same-number : (j : ℕ) → int_eq (pos j) (pos j) ≡ true
same-number j = (Decides-int_eq (pos j) (pos j)).1 refl

pub other-number : (j m : ℕ) → j ≢ m → int_eq (pos j) (pos m) ≡ false
other-number j m apart = by (int_eq (pos j) (pos m)) refl
  where
    by : (b : Bool) → int_eq (pos j) (pos m) ≡ b → b ≡ false
    by true e = absurd (apart (let same : pos j ≡ pos m = (Decides-int_eq (pos j) (pos m)).0 e in cc))
    by false e = refl

early-settled : (a : Answer) → settled (early a) ≡ a
early-settled (Ok v) = refl
early-settled (Err f) = refl

-- ---- the node passes alone

module _ (f : Fresh) (c : ℕ) (apart : nat_eq f.iterator c ≡ false) (w : View) (m : ℕ) (holds : w.store.scalar c ≡ At (Some m)) where
  abbrev step : ℕ → Step
  step j = record { node = j; edge = 0 }

  -- the filter at a node
  pub filter-is : (j : ℕ) (key : Key) → value (is_there f c) (entered w (all_nodes f) (step j) key) ≡ Ok (Flag (int_eq (pos j) (pos m)))
  filter-is j key =
      ap (λ (b : Bool). let r : Answer = Ok (Flag (int_eq (number_of (cond b (At (Some j)) (w.store.scalar f.iterator))) (number_of (cond (nat_eq f.iterator c) (At (Some j)) (w.store.scalar c))))) in r) (eq-eqb f.iterator f.iterator refl)
      ∙ ap (λ (b : Bool). let r : Answer = Ok (Flag (int_eq (pos j) (number_of (cond b (At (Some j)) (w.store.scalar c))))) in r) apart
      ∙ ap (λ v. let r : Answer = Ok (Flag (int_eq (pos j) (number_of v))) in r) holds

  module _ (t : VType) (e : Expr) (there : ℕ → Value) (told : (j : ℕ) → j < node_count w.graph → value e (entered w (all_nodes f) (step j) element_key) ≡ Ok (there j)) where
    abbrev fold_of : Fold
    fold_of = record { word = word_for t; vtype = t; filter = filter_key; body = element_key; total = record { key = total_key; place = total_place; shown = nowhere } }

    abbrev el : ℕ → Result (List Value) Fault
    el j = element (word_for t) (value (is_there f c) (entered w (all_nodes f) (step j) filter_key)) (value e (entered w (all_nodes f) (step j) element_key))

    abbrev gives : ℕ → List Value
    gives j = if int_eq (pos j) (pos m) then there j ∷ [] else []

    el-is : (j : ℕ) → j < node_count w.graph → el j ≡ Ok (gives j)
    el-is j low =
        ap (λ p. element (word_for t) p (value e (entered w (all_nodes f) (step j) element_key))) (filter-is j filter_key)
        ∙ ap (element (word_for t) (Ok (Flag (int_eq (pos j) (pos m))))) (told j low)
        ∙ by (int_eq (pos j) (pos m))
      where
        by : (b : Bool) → element (word_for t) (Ok (Flag b)) (Ok (there j)) ≡ Ok (if b then there j ∷ [] else [])
        by true = ap Ok (one-member t (there j))
        by false = refl

    no-errs : (n i : ℕ) → i + n ≤ node_count w.graph → errs (map el (numbers_from i n)) ≡ []
    no-errs zero i l = refl
    no-errs (suc n) i l =
        let here : i < node_count w.graph = omega arith in
        let rest : suc i + n ≤ node_count w.graph = omega arith in
        ap (λ r. errs (r ∷ map el (numbers_from (suc i) n))) (el-is i here) ∙ no-errs n (suc i) rest

    all-oks : (n i : ℕ) → i + n ≤ node_count w.graph → oks (map el (numbers_from i n)) ≡ map gives (numbers_from i n)
    all-oks zero i l = refl
    all-oks (suc n) i l =
        let here : i < node_count w.graph = omega arith in
        let rest : suc i + n ≤ node_count w.graph = omega arith in
        ap (λ r. oks (r ∷ map el (numbers_from (suc i) n))) (el-is i here) ∙ ap (λ l. gives i ∷ l) (all-oks n (suc i) rest)

    bag-behind : (n i : ℕ) → m < i → joined (map gives (numbers_from i n)) ≡ []
    bag-behind zero i l = refl
    bag-behind (suc n) i l =
        ap (λ b. cond b (there i ∷ []) [] ++ joined (map gives (numbers_from (suc i) n))) (other-number i m (λ e. omega arith))
        ∙ bag-behind n (suc i) (omega arith)

    bag-at : (n i : ℕ) → i ≤ m → m < i + n → joined (map gives (numbers_from i n)) ≡ there m ∷ []
    bag-at zero i l h = absurd (omega arith)
    bag-at (suc n) i l h = by (nat_eq i m) refl (λ low. bag-at n (suc i) low (omega arith))
      where
        by : (b : Bool) → nat_eq i m ≡ b → (suc i ≤ m → joined (map gives (numbers_from (suc i) n)) ≡ there m ∷ []) → joined (map gives (numbers_from i (suc n))) ≡ there m ∷ []
        by true e next =
            let here : i ≡ m = eqb-true i m e in
            let rest : joined (map gives (numbers_from (suc i) n)) ≡ [] = bag-behind n (suc i) (omega arith) in
            ap (λ l. gives i ++ l) rest
            ∙ ap (λ (k : ℕ). cond (int_eq (pos k) (pos m)) (there k ∷ []) [] ++ []) here
            ∙ ap (λ b. cond b (there m ∷ []) [] ++ []) (same-number m)
        by false e next =
            let other : i ≢ m = (λ s. both_ways (nat_eq i m) e (eq-eqb i m s)) in
            ap (λ b. cond b (there i ∷ []) [] ++ joined (map gives (numbers_from (suc i) n))) (other-number i m other)
            ∙ next (omega arith)

    by-nodes : (js : List ℕ) → map (λ s. element (word_for t) (value (is_there f c) (entered w (all_nodes f) s filter_key)) (value e (entered w (all_nodes f) s element_key))) (map step js) ≡ map el js
    by-nodes [] = refl
    by-nodes (j ∷ js) = ap (λ l. el j ∷ l) (by-nodes js)

    pub one-node : m < node_count w.graph → IsOf t (there m) → value (one_node f c t e) w ≡ Ok (there m)
    one-node low typed =
        let js = nodes w.graph in
        let within : m < 0 + node_count w.graph = omega arith in
        let all : 0 + node_count w.graph ≤ node_count w.graph = omega arith in
        early-settled (reduction fold_of (map (λ s. element (word_for t) (value (is_there f c) (entered w (all_nodes f) s filter_key)) (value e (entered w (all_nodes f) s element_key))) (steps_in w (all_nodes f))))
        ∙ ap (reduction fold_of) (by-nodes js)
        ∙ ap (λ fs. unless_fault (least fs) (closed fold_of (joined (oks (map el js))))) (no-errs (node_count w.graph) 0 all)
        ∙ ap (λ l. closed fold_of (joined l)) (all-oks (node_count w.graph) 0 all)
        ∙ ap (closed fold_of) (bag-at (node_count w.graph) 0 (omega arith) within)
        ∙ ap (of_total fold_of.total) (close-one t (there m) typed)
