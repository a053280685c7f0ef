-- What a body does depends on the globals and registers that it reads alone.
use Rattle.std.proofs.Common.{◌≡◌, ℕ, Bool, true, false, cond, ◌&&◌, not, Ok, List, [], ◌∷◌, refl, ap, ◌∙◌}
use Rattle.std.specs.List.{list_all}
use Rattle.std.proofs.lemmas.Bool.{and_parts, eq-eqb}
use Rattle.gm_value.specs.declared.values.Value.{Value}
use Rattle.gm_value.specs.Operations.{is_true}
use Rattle.gm_image.specs.Term.{Term, Const, Global, NodeCount, EdgeCount, Field, Self, OutDegree, InDegree, Register, Message, Neighbour, Column, NodeAt, Live, Unary, Binary, And, Or, Choose}
use Rattle.gm_image.specs.Parts.{all_leaves, is_among}
use Rattle.gm_machine.specs.Faults.{then_go}
use Rattle.gm_machine.specs.Expressions.{View, value, values, value_at, node_with, live, place_of, unary_value, binary_value}
use Rattle.gm_value.specs.Numbers.{number_of}
use Rattle.gm_merge_laws.specs.Joins.{is_no_global, is_not_register}
use Rattle.gm_merge_laws.proofs.Values.{and-left, and-right}

not-true : (b : Bool) → not b ≡ true → b ≡ false
not-true true e = cc
not-true false e = refl

module _ (gs : List ℕ) (old new : List Value) (same : (x : ℕ) → is_among x gs ≡ false → value_at old x ≡ value_at new x) where
  -- two lists of registers agree on those that an expression reads
  abbrev pub Agree : (List Value) → (List Value) → Term → Type 0
  Agree some other t = (r : ℕ) → all_leaves (is_not_register r) t ≡ false → value_at some r ≡ value_at other r

  pub value-same : (v : View) (some other : List Value) (t : Term) → all_leaves (is_no_global gs) t ≡ true → Agree some other t →
      value (record v { globals = old; registers = some }) t ≡ value (record v { globals = new; registers = other }) t
  value-same v some other (Const x) h agree = refl
  value-same v some other (Global g) h agree = ap Ok (same g (not-true (is_among g gs) h))
  value-same v some other NodeCount h agree = refl
  value-same v some other EdgeCount h agree = refl
  value-same v some other (Field f) h agree = refl
  value-same v some other Self h agree = refl
  value-same v some other OutDegree h agree = refl
  value-same v some other InDegree h agree = refl
  value-same v some other (Register r) h agree = ap Ok (agree r (ap not (eq-eqb r r refl)))
  value-same v some other (Message i) h agree = refl
  value-same v some other Neighbour h agree = refl
  value-same v some other (Column c) h agree = refl
  value-same v some other (NodeAt a) h agree = ap (λ r. then_go r (λ x. Ok (node_with v.graph (number_of x)))) (value-same v some other a h agree)
  value-same v some other (Live place a) h agree = ap (λ r. then_go r (live place)) (value-same v some other a h agree)
  value-same v some other (Unary op place a) h agree = ap (unary_value op (place_of place)) (value-same v some other a h agree)
  value-same v some other (Binary op place a b) h agree =
      let parts = and_parts (all_leaves (is_no_global gs) a) (all_leaves (is_no_global gs) b) h in
      let first = value-same v some other a parts.0 (λ r e. agree r (and-left (all_leaves (is_not_register r) a) (all_leaves (is_not_register r) b) e)) in
      let second = value-same v some other b parts.1 (λ r e. agree r (and-right (all_leaves (is_not_register r) a) (all_leaves (is_not_register r) b) e)) in
      ap (λ r. binary_value op (place_of place) r (value (record v { globals = old; registers = some }) b)) first
      ∙ ap (λ r. binary_value op (place_of place) (value (record v { globals = new; registers = other }) a) r) second
  value-same v some other (And a b) h agree =
      let parts = and_parts (all_leaves (is_no_global gs) a) (all_leaves (is_no_global gs) b) h in
      let first = value-same v some other a parts.0 (λ r e. agree r (and-left (all_leaves (is_not_register r) a) (all_leaves (is_not_register r) b) e)) in
      let second = value-same v some other b parts.1 (λ r e. agree r (and-right (all_leaves (is_not_register r) a) (all_leaves (is_not_register r) b) e)) in
      ap (λ r. then_go r (λ x. cond (is_true x) (value (record v { globals = old; registers = some }) b) (Ok x))) first
      ∙ ap (λ r. then_go (value (record v { globals = new; registers = other }) a) (λ x. cond (is_true x) r (Ok x))) second
  value-same v some other (Or a b) h agree =
      let parts = and_parts (all_leaves (is_no_global gs) a) (all_leaves (is_no_global gs) b) h in
      let first = value-same v some other a parts.0 (λ r e. agree r (and-left (all_leaves (is_not_register r) a) (all_leaves (is_not_register r) b) e)) in
      let second = value-same v some other b parts.1 (λ r e. agree r (and-right (all_leaves (is_not_register r) a) (all_leaves (is_not_register r) b) e)) in
      ap (λ r. then_go r (λ x. cond (is_true x) (Ok x) (value (record v { globals = old; registers = some }) b))) first
      ∙ ap (λ r. then_go (value (record v { globals = new; registers = other }) a) (λ x. cond (is_true x) (Ok x) r)) second
  value-same v some other (Choose c a b) h agree =
      let parts = and_parts (all_leaves (is_no_global gs) c && all_leaves (is_no_global gs) a) (all_leaves (is_no_global gs) b) h in
      let more = and_parts (all_leaves (is_no_global gs) c) (all_leaves (is_no_global gs) a) parts.0 in
      let zeroth = value-same v some other c more.0 (λ r e. agree r (and-left (all_leaves (is_not_register r) c && all_leaves (is_not_register r) a) (all_leaves (is_not_register r) b) (and-left (all_leaves (is_not_register r) c) (all_leaves (is_not_register r) a) e))) in
      let first = value-same v some other a more.1 (λ r e. agree r (and-left (all_leaves (is_not_register r) c && all_leaves (is_not_register r) a) (all_leaves (is_not_register r) b) (and-right (all_leaves (is_not_register r) c) (all_leaves (is_not_register r) a) e))) in
      let second = value-same v some other b parts.1 (λ r e. agree r (and-right (all_leaves (is_not_register r) c && all_leaves (is_not_register r) a) (all_leaves (is_not_register r) b) e)) in
      ap (λ r. then_go r (λ x. cond (is_true x) (value (record v { globals = old; registers = some }) a) (value (record v { globals = old; registers = some }) b))) zeroth
      ∙ ap (λ r. then_go (value (record v { globals = new; registers = other }) c) (λ x. cond (is_true x) r (value (record v { globals = old; registers = some }) b))) first
      ∙ ap (λ r. then_go (value (record v { globals = new; registers = other }) c) (λ x. cond (is_true x) (value (record v { globals = new; registers = other }) a) r)) second

  -- the same of expressions
  pub values-same : (v : View) (some other : List Value) (ts : List Term) → list_all (all_leaves (is_no_global gs)) ts ≡ true →
      ((r : ℕ) → list_all (all_leaves (is_not_register r)) ts ≡ false → value_at some r ≡ value_at other r) →
      values (record v { globals = old; registers = some }) ts ≡ values (record v { globals = new; registers = other }) ts
  values-same v some other [] h agree = refl
  values-same v some other (a ∷ ts) h agree =
      let parts = and_parts (all_leaves (is_no_global gs) a) (list_all (all_leaves (is_no_global gs)) ts) h in
      let first = value-same v some other a parts.0 (λ r e. agree r (and-left (all_leaves (is_not_register r) a) (list_all (all_leaves (is_not_register r)) ts) e)) in
      let second = values-same v some other ts parts.1 (λ r e. agree r (and-right (all_leaves (is_not_register r) a) (list_all (all_leaves (is_not_register r)) ts) e)) in
      ap (λ r. then_go r (λ x. then_go (values (record v { globals = old; registers = some }) ts) (λ xs. Ok (x ∷ xs)))) first
      ∙ ap (λ r. then_go (value (record v { globals = new; registers = other }) a) (λ x. then_go r (λ xs. Ok (x ∷ xs)))) second
