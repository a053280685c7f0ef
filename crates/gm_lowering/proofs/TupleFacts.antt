-- A tuple that an own body keeps at once: what its test tells, its spare registers, the types of its values, and what it leaves.
use Rattle.std.proofs.Common.{◌≡◌, ◌≤◌, ℕ, suc, Bool, true, false, Option, Result, Ok, Err, List, [], ◌∷◌, ◌++◌, length, map, refl, ap, ◌∙◌, sym, subst, arith, IfOk}
use Rattle.std.specs.Prelude.{◌&&◌, ◌||◌, if◌then◌else◌, not, nat_eq, nat_lt, max}
use Rattle.std.specs.List.{list_all, list_any}
use Rattle.std.proofs.lemmas.Bool.{both_ways, ne_eqb}
use Rattle.gm_value.specs.declared.values.VType.{VType}
use Rattle.gm_value.specs.declared.values.Value.{Value}
use Rattle.gm_value.specs.declared.reductions.Reduce.{Reduce}
use Rattle.gm_value.specs.Numbers.{number_of}
use Rattle.gm_value.specs.Laws.{AreOf}
use Rattle.gm_value.specs.Tuples.{replaces, close_slots}
use Rattle.gm_ast.specs.declared.tree.Declaration.{Declaration}
use Rattle.gm_ast.specs.declared.tree.Key.{Key}
use Rattle.gm_ast.specs.declared.tree.Sort.TheVariants as Sorts
use Rattle.gm_ast.specs.declared.tree.Target.{Target}
use Rattle.gm_ast.specs.declared.tree.Target.TheVariants as T
use Rattle.gm_ast.specs.declared.tree.TotalKey.{TotalKey}
use Rattle.gm_ast.specs.declared.tree.Variable.{Variable}
use Rattle.gm_ast.specs.Names.{is}
use Rattle.gm_ast.specs.Program as S
use Rattle.gm_ast.specs.Program.{Expr}
use Rattle.gm_ast.specs.Ways.{is_in}
use Rattle.gm_forms.specs.Sharing.{are_distinct, variables_of}
use Rattle.gm_forms.specs.Typing.{keeps_tuples, target_type, all_have_types, fits_targets}
use Rattle.gm_forms.specs.Uses.{Written, Owner, NodeValue, use_as, uses_in_all, uses_of_targets}
use Rattle.gm_forms.proofs.Named.{both-true}
use Rattle.gm_semantics.specs.declared.faults.Fault.{Fault}
use Rattle.gm_semantics.specs.declared.slots.Slot.TheVariants.{Scalar, Node}
use Rattle.gm_semantics.specs.Expressions.{View, evaluated_all}
use Rattle.gm_semantics.specs.Faults.{then_with}
use Rattle.gm_semantics.specs.Iterations.{Loop, Iteration, view_in, with_ok, wrote_all, tuple_held, does, Mode}
use Rattle.gm_semantics.specs.Laws.{Distinct}
use Rattle.gm_semantics.specs.Statements.{variable_at}
use Rattle.gm_semantics.specs.Stores.{Store, reads, write, write_all, has_slot}
use Rattle.gm_typed_stores.specs.Stores.{IsTypedStore}
use Rattle.gm_typed_stores.specs.Tells.{TypeTable}
use Rattle.gm_typed_stores.specs.Values.{AreValues}
use Rattle.gm_typed_stores.proofs.Expressions.{Suit, split, suit-role, all-give}
use Rattle.gm_typed_stores.proofs.Kept.{holds-scalar}
use Rattle.gm_lowering.specs.Layouts.{Layout, is_register, is_global, is_scalar_of, body_positions}
use Rattle.gm_lowering.specs.OwnLoops.{own_finds, tuples_at_once, HasSpares, AreTyped}
use Rattle.gm_lowering.specs.Plans.{Puts, Folds, Sends, Picks, way_of, is_property_of, is_property_off}
use Rattle.gm_lowering.specs.Sites.{same_length, is_local}
use Rattle.gm_lowering.specs.TupleLines.{own_slots}
use Rattle.gm_lowering.proofs.OwnTuples.{are_own, two-held}
use Rattle.gm_lowering.proofs.Picks.{Typed}
use Rattle.gm_lowering.proofs.Tuples.{tuples-kept}

-- what the test of a tuple tells
pub record IsKept (c : Layout) (n : ℕ) (r : Reduce) (ts : List Target) (es : List Expr) : Type 0 where
  pub keeps : keeps_tuples r ≡ true
  pub local : list_any (is_scalar_of is_register c.declarations) ts ≡ true
  pub own : are_own c n ts ≡ true
  pub distinct : are_distinct (variables_of ts) ≡ true
  pub long : same_length ts es ≡ true
  pub found : list_all (own_finds c n) es ≡ true

pub is-kept : (c : Layout) (n : ℕ) (r : Reduce) (t u : Target) (ts : List Target) (es : List Expr) → tuples_at_once c n (own_finds c n) r (t ∷ (u ∷ ts)) es ≡ true → IsKept c n r (t ∷ (u ∷ ts)) es
is-kept c n r t u ts es o =
    let all = t ∷ (u ∷ ts) in
    let values = same_length all es && list_all (own_finds c n) es in
    let a = both-true (keeps_tuples r) (list_any (is_scalar_of is_register c.declarations) all && (are_own c n all && (are_distinct (variables_of all) && values))) o in
    let b = both-true (list_any (is_scalar_of is_register c.declarations) all) (are_own c n all && (are_distinct (variables_of all) && values)) a.1 in
    let d = both-true (are_own c n all) (are_distinct (variables_of all) && values) b.1 in
    let e = both-true (are_distinct (variables_of all)) values d.1 in
    let f = both-true (same_length all es) (list_all (own_finds c n) es) e.1 in
    record { keeps = a.0; local = b.0; own = d.0; distinct = e.0; long = f.0; found = f.1 }

-- no spare registers, and fewer of them
pub no-spares : (c : Layout) (registers : ℕ) → HasSpares c registers 0
no-spares c registers = record {
  within = λ i t lt. absurd (omega (arith, lt));
  apart = λ i j t u lt less e. absurd (omega (arith, lt));
  others = λ i x t lt l e same. absurd (omega (arith, lt));
}

pub fewer-spares : (c : Layout) (registers many few : ℕ) → few ≤ many → HasSpares c registers many → HasSpares c registers few
fewer-spares c registers many few le h = record {
  within = λ i t lt. h.within i t (omega (arith, lt, le));
  apart = λ i j t u lt less e. h.apart i j t u (omega (arith, lt, le)) (omega (arith, less, le)) e;
  others = λ i x t lt l e. h.others i x t (omega (arith, lt, le)) l e;
}

-- those of two statements are there for each
pub spares-first : (c : Layout) (registers a b : ℕ) → HasSpares c registers (max a b) → HasSpares c registers a
spares-first c registers a b h = fewer-spares c registers (max a b) a (omega arith) h

pub spares-second : (c : Layout) (registers a b : ℕ) → HasSpares c registers (max a b) → HasSpares c registers b
spares-second c registers a b h = fewer-spares c registers (max a b) b (omega arith) h

-- those of a tuple
pub tuple-spares : (c : Layout) (registers : ℕ) (key : Key) (total : TotalKey) (r : Reduce) (t u : Target) (ts : List Target) (es : List Expr) → list_any (is_scalar_of is_register c.declarations) (t ∷ (u ∷ ts)) ≡ true
    → HasSpares c registers (body_positions c.declarations (S.Combine key total r (t ∷ (u ∷ ts)) es)) → HasSpares c registers (suc (suc (suc (length ts))))
tuple-spares c registers key total r t u ts es o h = subst (λ b. HasSpares c registers (if b then suc (suc (suc (length ts))) else 0)) o h

-- what keeps a tuple of which one target is a local picks
module _ (ds : List Declaration) where
  no-global : (v : Variable) → is_register v ≡ true → is_global v ≡ false
  no-global v e = by (is_global v) refl where
    and-not : (b : Bool) → b && false ≡ false
    and-not true = refl
    and-not false = refl

    by : (b : Bool) → is_global v ≡ b → b ≡ false
    by false h = refl
    by true h = sym e ∙ (ap (λ b. is Sorts.Scalar v && not b) (both-true (nat_eq v.depth 0) (is Sorts.Scalar v || is Sorts.Iterator v) h).0 ∙ and-not (is Sorts.Scalar v))

  and-false : (b : Bool) → b && false ≡ false
  and-false true = refl
  and-false false = refl

  not-puts : (ts : List Target) → list_any (is_scalar_of is_register ds) ts ≡ true → list_all (is_scalar_of is_global ds) ts ≡ false
  not-puts [] h = absurd (both_ways false refl h)
  not-puts (T.Property x p at ∷ ts) h = refl
  not-puts (T.Scalar x at ∷ ts) h = by (is_register (variable_at ds x)) refl h (λ i. not-puts ts i) where
    by : (b : Bool) → is_register (variable_at ds x) ≡ b → b || list_any (is_scalar_of is_register ds) ts ≡ true
        → (list_any (is_scalar_of is_register ds) ts ≡ true → list_all (is_scalar_of is_global ds) ts ≡ false)
        → is_global (variable_at ds x) && list_all (is_scalar_of is_global ds) ts ≡ false
    by true e h more = ap (λ b. b && list_all (is_scalar_of is_global ds) ts) (no-global (variable_at ds x) e)
    by false e h more = ap (λ b. is_global (variable_at ds x) && b) (more h) ∙ and-false (is_global (variable_at ds x))

  pub not-folds : (n : ℕ) (ts : List Target) → list_any (is_scalar_of is_register ds) ts ≡ true → list_all (is_property_of n) ts ≡ false
  not-folds n [] h = absurd (both_ways false refl h)
  not-folds n (T.Scalar x at ∷ ts) h = refl
  not-folds n (T.Property x p at ∷ ts) h = ap (λ b. nat_eq x n && b) (not-folds n ts h) ∙ and-false (nat_eq x n)

not-sends : (c : Layout) (n : ℕ) (ts : List Target) → are_own c n ts ≡ true → list_any (is_property_off n) ts ≡ false
not-sends c n [] h = refl
not-sends c n (T.Scalar x at ∷ ts) h = not-sends c n ts (both-true (is_local c x) (are_own c n ts) h).1
not-sends c n (T.Property x p at ∷ ts) h =
    let q = both-true (nat_eq x n && c.is_kept p) (are_own c n ts) h in
    ap (λ b. not b || list_any (is_property_off n) ts) (both-true (nat_eq x n) (c.is_kept p) q.0).0 ∙ not-sends c n ts q.1

pub tuple-way : (c : Layout) (n : ℕ) (ts : List Target) → list_any (is_scalar_of is_register c.declarations) ts ≡ true → are_own c n ts ≡ true → way_of c.declarations n ts ≡ Picks
tuple-way c n ts h o =
    ap (λ b. if b then Puts else (if list_all (is_property_of n) ts then Folds else (if list_any (is_property_off n) ts then Sends else Picks))) (not-puts c.declarations ts h)
    ∙ ap (λ b. if b then Folds else (if list_any (is_property_off n) ts then Sends else Picks)) (not-folds c.declarations n ts h)
    ∙ ap (λ b. if b then Sends else Picks) (not-sends c n ts o)

-- targets of variables that are apart are slots apart
pub own-distinct : (k : ℕ) (ts : List Target) → are_distinct (variables_of ts) ≡ true → Distinct (own_slots k ts)
own-distinct k [] d = tt
own-distinct k (t ∷ ts) d = by t d (λ e. own-distinct k ts e) where
  neither : (a b : Bool) → a || b ≡ false → (a ≡ false) × (b ≡ false)
  neither true b h = absurd (both_ways true h refl)
  neither false b h = (refl, h)

  not-true : (b : Bool) → not b ≡ true → b ≡ false
  not-true true e = sym e
  not-true false e = refl

  no-scalar : (x : ℕ) (us : List Target) → is_in (variables_of us) x ≡ false → has_slot (Scalar x) (own_slots k us) ≡ false
  no-scalar x [] e = refl
  no-scalar x (T.Scalar y at ∷ us) e =
      let q = neither (nat_eq x y) (is_in (variables_of us) x) e in ap (λ b. b || has_slot (Scalar x) (own_slots k us)) q.0 ∙ no-scalar x us q.1
  no-scalar x (T.Property y p at ∷ us) e = no-scalar x us (neither (nat_eq x p) (is_in (variables_of us) x) e).1

  no-node : (p : ℕ) (us : List Target) → is_in (variables_of us) p ≡ false → has_slot (Node p k) (own_slots k us) ≡ false
  no-node p [] e = refl
  no-node p (T.Scalar y at ∷ us) e = no-node p us (neither (nat_eq p y) (is_in (variables_of us) p) e).1
  no-node p (T.Property y z at ∷ us) e =
      let q = neither (nat_eq p z) (is_in (variables_of us) p) e in ap (λ b. (b && nat_eq k k) || has_slot (Node p k) (own_slots k us)) q.0 ∙ no-node p us q.1

  by : (t : Target) → are_distinct (variables_of (t ∷ ts)) ≡ true → (are_distinct (variables_of ts) ≡ true → Distinct (own_slots k ts)) → Distinct (own_slots k (t ∷ ts))
  by (T.Scalar x at) d more =
      let q = both-true (not (is_in (variables_of ts) x)) (are_distinct (variables_of ts)) d in (no-scalar x ts (not-true (is_in (variables_of ts) x) q.0), more q.1)
  by (T.Property x p at) d more =
      let q = both-true (not (is_in (variables_of ts) p)) (are_distinct (variables_of ts)) d in (no-node p ts (not-true (is_in (variables_of ts) p) q.0), more q.1)

-- what is no local stays
pub own-stay : (c : Layout) (n k : ℕ) (ts : List Target) (s : Store) (vs : List Value) (x : ℕ) → are_own c n ts ≡ true → is_register (variable_at c.declarations x) ≡ false → (write_all s (own_slots k ts) vs).scalar x ≡ s.scalar x
own-stay c n k [] s vs x o h = refl
own-stay c n k (T.Scalar y at ∷ ts) s [] x o h = refl
own-stay c n k (T.Scalar y at ∷ ts) s (v ∷ vs) x o h =
    let q = both-true (is_local c y) (are_own c n ts) o in
    let local = (both-true (nat_lt y (length c.declarations)) (is_register (variable_at c.declarations y)) q.0).1 in
    own-stay c n k ts (write s (Scalar y) v) vs x q.1 h
    ∙ ap (λ b. if b then v else s.scalar x) (ne_eqb y x (λ j. both_ways (is_register (variable_at c.declarations y)) (ap (λ m. is_register (variable_at c.declarations m)) j ∙ h) local))
own-stay c n k (T.Property y p at ∷ ts) s [] x o h = refl
own-stay c n k (T.Property y p at ∷ ts) s (v ∷ vs) x o h = own-stay c n k ts (write s (Node p k) v) vs x (both-true (nat_eq y n && c.is_kept p) (are_own c n ts) o).1 h

-- what targets hold has their types
held-types : (table : TypeTable) (its : List ℕ) (s : Store) (k : ℕ) (ts : List Target) → Suit table.declarations (uses_of_targets ts) → IsTypedStore table its s
    → AreOf (map (target_type table.declarations) ts) (reads s (own_slots k ts))
held-types table its s k [] u h = tt
held-types table its s k (T.Scalar x at ∷ ts) u h =
    let q = split table.declarations (use_as Written x) (uses_of_targets ts) u in
    ((h.scalar x (holds-scalar table its x (suit-role table (record { variable = x; role = Written }) q.0))).of_type, held-types table its s k ts q.1 h)
held-types table its s k (T.Property x p at ∷ ts) u h =
    let q = split table.declarations (use_as Owner x ++ use_as NodeValue p) (uses_of_targets ts) u in
    let r = split table.declarations (use_as Owner x) (use_as NodeValue p) q.0 in
    ((h.node p k (suit-role table (record { variable = p; role = NodeValue }) r.1)).of_type, held-types table its s k ts q.1 h)

values-of : (limit : ℕ) (types : List VType) (vs : List Value) → AreValues limit types vs → AreOf types vs
values-of limit [] [] h = tt
values-of limit [] (v ∷ vs) h = absurd h
values-of limit (t ∷ types) [] h = absurd h
values-of limit (t ∷ types) (v ∷ vs) h = (h.0.of_type, values-of limit types vs h.1)

module _ (c : Layout) (table : TypeTable) (its : List ℕ) (result : Option VType) (loop : Loop) (m : Mode)
    (key : Key) (total : TotalKey) (r : Reduce) (t u : Target) (ts : List Target) (es : List Expr) (it : Iteration) (k : ℕ)
    (some : list_any (is_scalar_of is_register c.declarations) (t ∷ (u ∷ ts)) ≡ true) (typed : Typed c table its result loop (S.Combine key total r (t ∷ (u ∷ ts)) es) it) where
  abbrev all : List Target
  all = t ∷ (u ∷ ts)

  abbrev w : View
  w = view_in loop m it key

  -- the types of its values
  abbrev pub types_of_all : List VType
  types_of_all = map (target_type table.declarations) all

  abbrev held : List Value
  held = reads it.store (own_slots k all)

  are : AreTyped c table its result loop (S.Combine key total r all es) it
  are = typed some

  named : Suit table.declarations (uses_of_targets all) × Suit table.declarations (uses_in_all es)
  named = split table.declarations (uses_of_targets all) (uses_in_all es) are.statement.named

  pub held-typed : AreOf types_of_all held
  held-typed = held-types table its it.store k all named.0 are.iteration.store

  pub new-typed : (ys : List Value) → (evaluated_all es w).rest ≡ Ok ys → AreOf types_of_all ys
  new-typed ys e =
      values-of table.limit types_of_all ys
      (subst (λ (a : Result (List Value) Fault). IfOk a (AreValues table.limit types_of_all)) e
      (all-give table all es its w (record { graph = are.around.graph; store = are.iteration.store }) (both-true (all_have_types table.declarations all es) (fits_targets table.declarations r all) are.statement.typed).0 named.1 are.statement.tells))

  -- the tuple that is held behind it
  abbrev pub better_of : List Value → List Value
  better_of ys = if replaces r (map number_of held) (map number_of ys) then ys else held

  -- it writes the better one
  pub does-tuple : does (S.Combine key total r all es) m loop it ≡ with_ok it (then_with (evaluated_all es w).rest (λ ys. then_with (tuple_held w total.place (close_slots r held (ys ∷ []))) (λ vs. Ok (own_slots k all, vs)))) (wrote_all it)
      → does (S.Combine key total r all es) m loop it ≡ with_ok it (then_with (evaluated_all es w).rest (λ ys. Ok (own_slots k all, better_of ys))) (wrote_all it)
  does-tuple now = now ∙ by (evaluated_all es w).rest refl where
    by : (a : Result (List Value) Fault) → (evaluated_all es w).rest ≡ a
        → with_ok it (then_with a (λ ys. then_with (tuple_held w total.place (close_slots r held (ys ∷ []))) (λ vs. Ok (own_slots k all, vs)))) (wrote_all it)
        ≡ with_ok it (then_with a (λ ys. Ok (own_slots k all, better_of ys))) (wrote_all it)
    by (Err f) e = refl
    by (Ok ys) e =
        ap (λ o. with_ok it (then_with (tuple_held w total.place o) (λ vs. Ok (own_slots k all, vs))) (wrote_all it)) (tuples-kept r types_of_all held ys (two-held k it.store t u ts) held-typed (new-typed ys e))
