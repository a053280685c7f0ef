-- The lines that keep the better of two tuples of numbers have the types that they ask for.
use Rattle.std.proofs.Common.{◌≡◌, ◌<◌, ◌≤◌, ℕ, suc, Bool, true, false, Option, None, List, [], ◌∷◌, ◌++◌, map, length, refl, ap, ◌∙◌, subst, arith}
use Rattle.std.specs.Prelude.{◌+◌, if◌then◌else◌}
use Rattle.gm_value.specs.declared.values.VType.{VType}
use Rattle.gm_value.specs.declared.values.VType.TheVariants as V
use Rattle.gm_value.specs.declared.values.Value.{Value}
use Rattle.gm_value.specs.declared.values.Value.TheVariants.{Flag}
use Rattle.gm_value.specs.declared.operations.Op1.TheVariants as one
use Rattle.gm_value.specs.declared.operations.Op2.{Op2}
use Rattle.gm_value.specs.declared.operations.Op2.TheVariants as two
use Rattle.gm_value.specs.declared.reductions.Reduce.{Reduce}
use Rattle.gm_value.specs.declared.reductions.Reduce.TheVariants as reduce
use Rattle.gm_value.specs.Operations.{is_numeric, fits2, type2}
use Rattle.gm_ast.specs.declared.tree.Target.{Target}
use Rattle.gm_forms.specs.Typing.{target_type}
use Rattle.gm_typed_stores.specs.Values.{Each}
use Rattle.gm_image.specs.Program as image
use Rattle.gm_image.specs.Term as M
use Rattle.gm_image.specs.Term.{Term}
use Rattle.gm_lowering.specs.Bodies.{Keeping, better, compared, replacing, save_lines, take_lines, saved_pairs, paired, kept_lines, with_types}
use Rattle.gm_lowering.specs.Layouts.{Layout}
use Rattle.gm_sound_lowering.specs.Types.{IsTerm}
use Rattle.gm_sound_lowering.proofs.Leaves.{each-join}
use Rattle.gm_sound_lowering.proofs.Terms.{const-is, unary-is, binary-is, both-is, either-is, choice-is, same-itself}

-- an operation that orders two numbers of a type
pub record IsOrder (op : Op2) : Type 0 where
  pub fits : (t : VType) → is_numeric t ≡ true → fits2 op t t ≡ true
  pub flag : (t : VType) → type2 op t ≡ V.Flag

less-orders : IsOrder two.Lt
less-orders = record { fits = λ t h. ap (λ b. if b then is_numeric t else false) (same-itself t) ∙ h; flag = λ t. refl }

more-orders : IsOrder two.Gt
more-orders = record { fits = λ t h. ap (λ b. if b then is_numeric t else false) (same-itself t) ∙ h; flag = λ t. refl }

better-orders : (r : Reduce) → IsOrder (better r)
better-orders reduce.Max = more-orders
better-orders reduce.Min = less-orders
better-orders reduce.Sum = less-orders
better-orders reduce.Product = less-orders
better-orders reduce.And = less-orders
better-orders reduce.Or = less-orders

module _ (i : image.Program) (kind : Option ℕ) (stands : Term → Bool) (consts : (v : Value) → stands (M.Const v) ≡ true) (nodes : stands M.NodeCount ≡ true) (edges : stands M.EdgeCount ≡ true)
    (c : Layout) {L : Type 0} (k : Keeping L) (Good : L → Type 0) (IsKept : Target → Type 0) (m : ℕ) where
  abbrev Is : VType → Term → Type 0
  Is = IsTerm i kind stands

  abbrev type_of : Target → VType
  type_of = target_type c.declarations

  -- what tuples are kept by: targets that are kept, and spare slots at so many positions
  pub record Keeps : Type 0 where
    pub set : (t : Target) (a : Term) → IsKept t → Is (type_of t) a → Good (k.set t a)
    pub held : (t : Target) → IsKept t → Is (type_of t) (k.held t)
    pub save : (j : ℕ) (t : VType) (a : Term) → j < m → Is t a → Good (k.save j t a)
    pub saved : (j : ℕ) (t : VType) → j < m → Is t (k.saved j t)

  -- a target that is kept, and takes numbers
  pub record IsNumber (t : Target) : Type 0 where
    pub kept : IsKept t
    pub numeric : is_numeric (type_of t) ≡ true

  -- one value of its type for each target
  abbrev pub AreValues : List Target → List Term → Type 0
  AreValues [] [] = Unit {0}
  AreValues (t ∷ ts) (a ∷ more) = Is (type_of t) a × AreValues ts more
  AreValues [] (a ∷ more) = ⊥
  AreValues (t ∷ ts) [] = ⊥

  compared-is : (op : Op2) (t : VType) (a b : Term) → IsOrder op → is_numeric t ≡ true → Is t a → Is t b → Is V.Flag (compared op a b)
  compared-is op t a b o h x y = subst (λ u. Is u (compared op a b)) (o.flag t) (binary-is i kind stands consts nodes edges op None t t a b (o.fits t h) refl x y)

  module _ (keeps : Keeps) where
    replacing-is : (op : Op2) (j : ℕ) (ts : List Target) → IsOrder op → j + length ts ≤ m → Each IsNumber ts → Is V.Flag (replacing op (saved_pairs k j (with_types c ts)))
    replacing-is op j [] o le h = const-is i kind stands consts nodes edges (Flag false) refl
    replacing-is op j (t ∷ []) o le h = compared-is op (type_of t) (k.saved j (type_of t)) (k.held t) o h.0.numeric (keeps.saved j (type_of t) (omega (arith, le))) (keeps.held t h.0.kept)
    replacing-is op j (t ∷ (u ∷ ts)) o le h =
        let x = keeps.saved j (type_of t) (omega (arith, le)) in
        let y = keeps.held t h.0.kept in
        let a = k.saved j (type_of t) in
        let b = k.held t in
        let rest = replacing two.Lt (saved_pairs k (suc j) (with_types c (u ∷ ts))) in
        let other = M.Unary one.Not None (compared op b a) in
        either-is i kind stands consts nodes edges (compared op a b) (M.And other rest) (compared-is op (type_of t) a b o h.0.numeric x y)
        (both-is i kind stands consts nodes edges other rest
        (unary-is i kind stands consts nodes edges one.Not None V.Flag (compared op b a) refl refl (compared-is op (type_of t) b a o h.0.numeric y x))
        (replacing-is two.Lt (suc j) (u ∷ ts) less-orders (omega (arith, le)) h.1))

    saves-good : (j : ℕ) (ts : List Target) (values : List Term) → j + length ts ≤ m → AreValues ts values → Each Good (save_lines k j (paired (map (λ t. t.0) (with_types c ts)) values))
    saves-good j [] values le h = tt
    saves-good j (t ∷ ts) [] le h = tt
    saves-good j (t ∷ ts) (a ∷ more) le h = (keeps.save j (type_of t) a (omega (arith, le)) h.0, saves-good (suc j) ts more (omega (arith, le)) h.1)

    takes-good : (better : Term) (j : ℕ) (ts : List Target) → j + length ts ≤ m → Is V.Flag better → Each IsNumber ts → Each Good (take_lines k better j (with_types c ts))
    takes-good better j [] le b h = tt
    takes-good better j (t ∷ ts) le b h = (
      keeps.set t (M.Choose better (k.saved j (type_of t)) (k.held t)) h.0.kept
          (choice-is i kind stands consts nodes edges (type_of t) better (k.saved j (type_of t)) (k.held t) b (keeps.saved j (type_of t) (omega (arith, le))) (keeps.held t h.0.kept)),
      takes-good better (suc j) ts (omega (arith, le)) b h.1,
    )

    types-long : (ts : List Target) → length (with_types c ts) ≡ length ts
    types-long [] = refl
    types-long (t ∷ ts) = ap suc (types-long ts)

    tuples-good : (r : Reduce) (ts : List Target) (values : List Term) → length ts < m → Each IsNumber ts → AreValues ts values →
        Each Good (save_lines k 0 (paired (map (λ t. t.0) (with_types c ts)) values)
        ++ (k.save (length (with_types c ts)) V.Flag (replacing (better r) (saved_pairs k 0 (with_types c ts))) ∷ take_lines k (k.saved (length (with_types c ts)) V.Flag) 0 (with_types c ts)))
    tuples-good r ts values lt h v =
        let n = types-long ts in
        each-join Good (save_lines k 0 (paired (map (λ t. t.0) (with_types c ts)) values))
        (k.save (length (with_types c ts)) V.Flag (replacing (better r) (saved_pairs k 0 (with_types c ts))) ∷ take_lines k (k.saved (length (with_types c ts)) V.Flag) 0 (with_types c ts))
        (saves-good 0 ts values (omega (arith, lt)) v) (
          keeps.save (length (with_types c ts)) V.Flag (replacing (better r) (saved_pairs k 0 (with_types c ts))) (omega (arith, lt, n)) (replacing-is (better r) 0 ts (better-orders r) (omega (arith, lt)) h),
          takes-good (k.saved (length (with_types c ts)) V.Flag) 0 ts (omega (arith, lt)) (keeps.saved (length (with_types c ts)) V.Flag (omega (arith, lt, n))) h,
        )

    -- the lines that keep a value or a tuple at once: for a tuple there is one more position than it has values
    pub kept-good : (r : Reduce) (t : Target) (ts : List Target) (values : List Term) → ((u : Target) (us : List Target) → ts ≡ u ∷ us → suc (length ts) < m) → Each IsNumber (t ∷ ts) → AreValues (t ∷ ts) values
        → Each Good (kept_lines k r (with_types c (t ∷ ts)) values)
    kept-good r t ts [] room h v = absurd v
    kept-good r t [] (a ∷ []) room h v = (
      keeps.set t (M.Choose (compared (better r) a (k.held t)) a (k.held t)) h.0.kept
          (choice-is i kind stands consts nodes edges (type_of t) (compared (better r) a (k.held t)) a (k.held t)
          (compared-is (better r) (type_of t) a (k.held t) (better-orders r) h.0.numeric v.0 (keeps.held t h.0.kept)) v.0 (keeps.held t h.0.kept)),
      tt,
    )
    kept-good r t [] (a ∷ (b ∷ more)) room h v = absurd v.1
    kept-good r t (u ∷ us) (a ∷ more) room h v = tuples-good r (t ∷ (u ∷ us)) (a ∷ more) (room u us refl) h v
