-- What is shown after a global was set.
use Rattle.std.proofs.Common.{◌≡◌, ◌<◌, ◌≤◌, ℕ, Bool, true, false, None, List, length, refl, ap, ◌∙◌, sym, subst, arith}
use Rattle.std.specs.Prelude.{◌&&◌, nat_lt, nat_eq, if◌then◌else◌, slice_set}
use Rattle.std.proofs.lemmas.Bool.{both_ways, ne_eqb, eqb-true, eqb-false, ltb-true, lt-ltb}
use Rattle.std.proofs.lemmas.List.{get_or-set_same, get_or-set_other, length-set}
use Rattle.gm_value.specs.declared.values.Value.{Value}
use Rattle.gm_value.specs.declared.values.Value.TheVariants.{At}
use Rattle.gm_value.specs.Numbers.{zero_of}
use Rattle.gm_forms.proofs.Named.{both-true}
use Rattle.gm_semantics.specs.declared.slots.Slot.TheVariants.{Scalar}
use Rattle.gm_semantics.specs.Statements.{variable_at}
use Rattle.gm_semantics.specs.Stores.{Store, write}
use Rattle.gm_machine.specs.Expressions.{value_at}
use Rattle.gm_machine.specs.Machine.{Nodes}
use Rattle.gm_lowering.specs.Layouts.{Layout, is_global, is_register, has_value}
use Rattle.gm_lowering.specs.Phases.{OthersKept}
use Rattle.gm_lowering.specs.Sites.{phase_value}
use Rattle.gm_lowering.proofs.Own.{global-no_register}
use Rattle.gm_lowering_master.specs.Cells.{Cell, OfScalar, OfResult, CounterOf, FlagOf, cell_number, is_cell, is_scalar, is_hidden, Setting, IsSetting, Between, Kept}

lt-more : (d e n : ℕ) → d ≤ e → nat_lt n d ≡ true → nat_lt n e ≡ true
lt-more d e n h k = let lt : n < d = ltb-true n d k in lt-ltb n e (omega arith)

-- a cell in use in few loops is in use in more
pub cell-more : (c : Layout) (returns : Bool) (d e : ℕ) (a : Cell) → d ≤ e → is_cell c returns d a ≡ true → is_cell c returns e a ≡ true
cell-more c returns d e (OfScalar x) h k = k
cell-more c returns d e OfResult h k = k
cell-more c returns d e (CounterOf n) h k = lt-more d e n h k
cell-more c returns d e (FlagOf n) h k = lt-more d e n h k

scalar-of : Cell → ℕ
scalar-of (OfScalar x) = x
scalar-of _ = 0

same-scalar : (x y : ℕ) → OfScalar x ≡ OfScalar y → x ≡ y
unfolding scalar-of
same-scalar x y e = ap scalar-of e

register-no_global : (c : Layout) (x : ℕ) → is_register (variable_at c.declarations x) ≡ true → is_global (variable_at c.declarations x) ≡ false
register-no_global c x e = by (is_global (variable_at c.declarations x)) refl where
  by : (b : Bool) → is_global (variable_at c.declarations x) ≡ b → b ≡ false
  by true f = absurd (both_ways (is_register (variable_at c.declarations x)) (global-no_register (variable_at c.declarations x) f) e)
  by false f = refl

hidden-no_scalar : (a : Cell) (x : ℕ) → is_hidden a ≡ true → a ≡ OfScalar x → ⊥
hidden-no_scalar a x h e = both_ways (is_hidden a) (ap is_hidden e) h

module _ (s : Setting) (is' : IsSetting s) where
  abbrev c : Layout
  c = s.frame.layout

  abbrev number : Cell → ℕ
  number = cell_number c

  abbrev pub used : Cell → Bool
  used = is_cell c s.returns s.depth

  -- a cell that is set, and others
  pub set-same : (globals : List Value) (a : Cell) (v : Value) → length globals ≡ length s.image.globals → used a ≡ true → value_at (slice_set globals (number a) v) (number a) ≡ v
  set-same globals a v n h = get_or-set_same globals (number a) v (At None) (subst (λ m. number a < m) (sym n) (is'.cells.within a h))

  pub set-other : (globals : List Value) (a b : Cell) (v : Value) → used a ≡ true → used b ≡ true → (a ≡ b → ⊥) → value_at (slice_set globals (number a) v) (number b) ≡ value_at globals (number b)
  set-other globals a b v h k unlike = get_or-set_other globals (number a) (number b) v (At None) (λ e. unlike (is'.cells.apart a b h k (sym e)))

  pub scalar-used : (x : ℕ) → x < length c.declarations → is_global (variable_at c.declarations x) ≡ true → is_scalar c x ≡ true
  scalar-used x lt g = ap (λ b. b && is_global (variable_at c.declarations x)) (lt-ltb x (length c.declarations) lt) ∙ g

  -- what is shown after a global of none of the program's variables was set
  pub after-hidden : (globals : List Value) (held : Nodes) (r : Store) (a : Cell) (v : Value) → is_hidden a ≡ true → used a ≡ true → Between s globals held r → Between s (slice_set globals (number a) v) held r
  after-hidden globals held r a v hide h b = record {
    shown = record {
      scalars = scalars;
      locals = b.shown.locals;
      properties = b.shown.properties;
      widths = b.shown.widths;
      all_nodes = b.shown.all_nodes;
      idle = b.shown.idle;
    };
    edges = b.edges;
    count = length-set globals (number a) v ∙ b.count;
  } where
    scalars : (x : ℕ) → x < length c.declarations → is_register (variable_at c.declarations x) ≡ false → has_value (variable_at c.declarations x) ≡ true → phase_value c (slice_set globals (number a) v) x ≡ r.scalar x
    scalars x lt e f = by (is_global (variable_at c.declarations x)) refl where
      by : (o : Bool) → is_global (variable_at c.declarations x) ≡ o → (if o then value_at (slice_set globals (number a) v) (c.global x) else zero_of (variable_at c.declarations x).vtype) ≡ r.scalar x
      by true o =
          set-other globals a (OfScalar x) v h (scalar-used x lt o) (hidden-no_scalar a x hide)
          ∙ sym (ap (λ z. if z then value_at globals (c.global x) else zero_of (variable_at c.declarations x).vtype) o) ∙ b.shown.scalars x lt e f
      by false o =
          sym (ap (λ z. if z then value_at globals (c.global x) else zero_of (variable_at c.declarations x).vtype) o) ∙ b.shown.scalars x lt e f

  -- and after the global of a scalar was
  pub after-scalar : (globals : List Value) (held : Nodes) (r : Store) (x : ℕ) (v : Value) → is_scalar c x ≡ true → Between s globals held r → Between s (slice_set globals (c.global x) v) held (write r (Scalar x) v)
  after-scalar globals held r x v h b = record {
    shown = record {
      scalars = scalars;
      locals = λ y lt e.
          b.shown.locals y lt e ∙ sym (ap (λ o. if o then v else r.scalar y) (ne_eqb x y (λ i. both_ways (is_global (variable_at c.declarations y)) (register-no_global c y e) (ap (λ z. is_global (variable_at c.declarations z)) (sym i) ∙ global.1))));
      properties = b.shown.properties;
      widths = b.shown.widths;
      all_nodes = b.shown.all_nodes;
      idle = b.shown.idle;
    };
    edges = b.edges;
    count = length-set globals (c.global x) v ∙ b.count;
  } where
    global : (nat_lt x (length c.declarations) ≡ true) × (is_global (variable_at c.declarations x) ≡ true)
    global = both-true (nat_lt x (length c.declarations)) (is_global (variable_at c.declarations x)) h

    scalars : (y : ℕ) → y < length c.declarations → is_register (variable_at c.declarations y) ≡ false → has_value (variable_at c.declarations y) ≡ true
        → phase_value c (slice_set globals (c.global x) v) y ≡ (if nat_eq x y then v else r.scalar y)
    scalars y lt e f = by (is_global (variable_at c.declarations y)) (nat_eq x y) refl refl where
      by : (o d : Bool) → is_global (variable_at c.declarations y) ≡ o → nat_eq x y ≡ d
          → (if o then value_at (slice_set globals (c.global x) v) (c.global y) else zero_of (variable_at c.declarations y).vtype) ≡ (if d then v else r.scalar y)
      by true true o i = ap (λ z. value_at (slice_set globals (c.global x) v) (c.global z)) (sym (eqb-true x y i)) ∙ set-same globals (OfScalar x) v b.count h
      by true false o i =
          set-other globals (OfScalar x) (OfScalar y) v h (scalar-used y lt o) (λ z. eqb-false x y i (same-scalar x y z))
          ∙ sym (ap (λ z. if z then value_at globals (c.global y) else zero_of (variable_at c.declarations y).vtype) o) ∙ b.shown.scalars y lt e f
      by false true o i = absurd (both_ways (is_global (variable_at c.declarations y)) o (ap (λ z. is_global (variable_at c.declarations z)) (sym (eqb-true x y i)) ∙ global.1))
      by false false o i =
          sym (ap (λ z. if z then value_at globals (c.global y) else zero_of (variable_at c.declarations y).vtype) o) ∙ b.shown.scalars y lt e f

  -- what is kept
  pub kept-same : (d : ℕ) (globals : List Value) → Kept s d globals globals
  kept-same d globals a hide h = refl

  pub kept-then : (d : ℕ) (x y z : List Value) → Kept s d x y → Kept s d y z → Kept s d x z
  kept-then d x y z h k a hide u = k a hide u ∙ h a hide u

  pub kept-fewer : (d e : ℕ) (x y : List Value) → d ≤ e → Kept s e x y → Kept s d x y
  kept-fewer d e x y le h a hide u = h a hide (cell-more c s.returns d e a le u)

  pub kept-scalar : (d : ℕ) (globals : List Value) (x : ℕ) (v : Value) → d ≤ s.depth → is_scalar c x ≡ true → Kept s d globals (slice_set globals (c.global x) v)
  kept-scalar d globals x v le h a hide u = set-other globals (OfScalar x) a v h (cell-more c s.returns d s.depth a le u) (λ e. hidden-no_scalar a x hide (sym e))

  -- a loop's own counter and flag are none of the loops around

  pub kept-counter : (d : ℕ) (globals : List Value) (v : Value) → d < s.depth → Kept s d globals (slice_set globals (c.counter d) v)
  kept-counter d globals v lt a hide u =
      set-other globals (CounterOf d) a v (lt-ltb d s.depth lt) (cell-more c s.returns d s.depth a (omega arith) u)
      (λ e. let h : nat_lt d d ≡ true = subst (λ z. is_cell c s.returns d z ≡ true) (sym e) u in let less : d < d = ltb-true d d h in omega arith)

  pub kept-flag : (d : ℕ) (globals : List Value) (v : Value) → d < s.depth → Kept s d globals (slice_set globals (c.flag d) v)
  kept-flag d globals v lt a hide u =
      set-other globals (FlagOf d) a v (lt-ltb d s.depth lt) (cell-more c s.returns d s.depth a (omega arith) u)
      (λ e. let h : nat_lt d d ≡ true = subst (λ z. is_cell c s.returns d z ≡ true) (sym e) u in let less : d < d = ltb-true d d h in omega arith)

  -- globals that no scalar of the procedure has are kept by loops
  pub kept-others : (d : ℕ) (globals new : List Value) → d ≤ s.depth → OthersKept c globals new → Kept s d globals new
  kept-others d globals new le h a hide u =
      h (number a) (λ x lt g e. hidden-no_scalar a x hide (is'.cells.apart a (OfScalar x) (cell-more c s.returns d s.depth a le u) (scalar-used x lt g) (sym e)))
