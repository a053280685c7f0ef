-- A program with its reductions as loops means the same, and keeps what every pass keeps.
use Rattle.std.proofs.Common.{◌≡◌, ◌≤◌, ℕ, Bool, true, false, List, [], ◌∷◌, ◌++◌, map, refl, sym, ap, subst, ◌∙◌, arith, ⊎_elim, inl, inr, Option, Some, None}
use Rattle.std.specs.Prelude.{◌⊎◌, not, ◌&&◌, ◌||◌, pos, nat_eq, nat_le, nat_lt}
use Rattle.std.specs.List.{list_all}
use Rattle.std.proofs.lemmas.Bool.{both_ways, eq-eqb, eqb-true, leb-true}
use Rattle.gm_base.specs.declared.places.Place.{Place}
use Rattle.gm_value.specs.declared.values.VType.{VType}
use Rattle.gm_value.specs.declared.values.VType.TheVariants as V
use Rattle.gm_value.specs.declared.values.Value.{Value}
use Rattle.gm_value.specs.declared.reductions.Reduce.{Reduce}
use Rattle.gm_value.specs.declared.reductions.Reduce.TheVariants as R
use Rattle.gm_value.specs.Bag.{IsIn}
use Rattle.gm_value.specs.Numbers.{value_at}
use Rattle.gm_value.specs.Operations.{is_flag}
use Rattle.gm_value.specs.Reductions.{unit_of, reduces}
use Rattle.gm_ast.specs.declared.surface.ReductionWord.{ReductionWord}
use Rattle.gm_ast.specs.declared.surface.ReductionWord.TheVariants as W
use Rattle.gm_ast.specs.declared.tree.Declaration.{Declaration}
use Rattle.gm_ast.specs.declared.tree.Domain.{Domain}
use Rattle.gm_ast.specs.declared.tree.Domain.TheVariants as D
use Rattle.gm_ast.specs.declared.tree.Fold.{Fold}
use Rattle.gm_ast.specs.declared.tree.Head.{Head}
use Rattle.gm_ast.specs.declared.tree.Key.{Key}
use Rattle.gm_ast.specs.declared.tree.Target.TheVariants as T
use Rattle.gm_ast.specs.declared.tree.TotalKey.{TotalKey}
use Rattle.gm_ast.specs.Keys as K
use Rattle.gm_ast.specs.Keys.{fault_lt}
use Rattle.gm_ast.specs.Loops.{is_nodes}
use Rattle.gm_ast.specs.Ways.{is_in}
use Rattle.gm_ast.specs.Program.{Expr, Const, Var, Property, EdgeProperty, Degree, NodeCount, EdgeCount, Live, Unary, Binary, Both, Either, Choose, Folded, Stmt, Skip, Combine, Foreach, If}
use Rattle.gm_semantics.specs.Expressions.{reduce_of}
use Rattle.gm_forms.specs.Forms.{depth_at}
use Rattle.gm_forms.specs.Order.{takes_conditions, own_faults, fault_of, rest_in, hoisted_in, hoists_in_order, faults_in, fold_fault, in_order, lie_before, fault_if, can_fail1, can_fail2, body_in_order, faults_of, loop_in_order}
use Rattle.gm_forms.specs.Ready.{is_outer_expr, is_outer_code}
use Rattle.gm_forms.specs.Sharing.{Read, reads_in, told_in, read_anywhere, shares}
use Rattle.gm_forms.specs.Typing.{type_at, type_if, is_type, takes, type_in, has_type, is_typed_in}
use Rattle.gm_forms.specs.Uses.{Written, suits, use_as, uses_in, uses_of_head, uses_of}
use Rattle.gm_forms.proofs.CutLaws.{lies-in}
use Rattle.gm_forms.proofs.CutTests.{found, not-true}
use Rattle.gm_forms.proofs.Doings.{in-left, in-right, in-either}
use Rattle.gm_forms.proofs.Named.{both-true, all-append}
use Rattle.gm_forms.proofs.Weaker.{and-true}
use Rattle.gm_desugar.specs.Compounds.{has_no_compounds_in}
use Rattle.gm_desugar.specs.Conditions.{nowhere}
use Rattle.gm_desugar.specs.Literals.{has_literals, all_exprs_in}
use Rattle.gm_desugar.specs.Reads.{names}
use Rattle.gm_desugar.proofs.Fewer.{lie-from}
use Rattle.gm_desugar.proofs.Replacing.{append-true, is-type, type-itself}
use Rattle.gm_reductions.specs.Folds.{unit_for, given}
use Rattle.gm_reductions.specs.Keys.{key_lt, keys_in, all_under, all_over, rises}
use Rattle.gm_reductions.proofs.FaultKeys.{under-key, keys-rise, all-under}
use Rattle.gm_reductions.proofs.Unnamed.{neither-named}

-- ---- what an expression does not name it does not read

either-left : (a b : Bool) → a ≡ true → a || b ≡ true
either-left true b h = refl
either-left false b h = absurd (both_ways false refl h)

either-right : (a b : Bool) → b ≡ true → a || b ≡ true
either-right true b h = refl
either-right false b h = h

anywhere-append : (rs qs : List Read) → read_anywhere (rs ++ qs) ≡ read_anywhere rs ++ read_anywhere qs
anywhere-append [] qs = refl
anywhere-append (r ∷ rs) qs = ap (λ l. r.property ∷ l) (anywhere-append rs qs)

module _ (x : ℕ) where
  one-of : (y : ℕ) → IsIn x (y ∷ []) → nat_eq y x ≡ true
  one-of y i = ⊎_elim (λ (e : x ≡ y). eq-eqb y x (sym e)) (λ j. absurd j) i

  anywhere-either : (rs qs : List Read) → IsIn x (read_anywhere (rs ++ qs)) → IsIn x (read_anywhere rs ++ read_anywhere qs)
  anywhere-either rs qs i = subst (IsIn x) (anywhere-append rs qs) i

  named-left : (a b : List ℕ) (p q : Bool) → (IsIn x a → p ≡ true) → (IsIn x b → q ≡ true) → IsIn x (a ++ b) → p || q ≡ true
  named-left a b p q f g i = ⊎_elim (λ l. either-left p q (f l)) (λ r. either-right p q (g r)) (in-either x a b i)

  reads-named : (e : Expr) → IsIn x (read_anywhere (reads_in e)) → names x e ≡ true
  reads-named (Const v) i = absurd i
  reads-named (Var y at) i = absurd i
  reads-named (Property y p at) i = either-right (nat_eq y x) (nat_eq p x) (one-of p i)
  reads-named (EdgeProperty y p at) i = absurd i
  reads-named (Degree d y at) i = absurd i
  reads-named NodeCount i = absurd i
  reads-named EdgeCount i = absurd i
  reads-named (Live y at) i = absurd i
  reads-named (Unary op at e) i = reads-named e i
  reads-named (Binary op at a b) i = named-left (read_anywhere (reads_in a)) (read_anywhere (reads_in b)) (names x a) (names x b) (reads-named a) (reads-named b) (anywhere-either (reads_in a) (reads_in b) i)
  reads-named (Both a b) i = named-left (read_anywhere (reads_in a)) (read_anywhere (reads_in b)) (names x a) (names x b) (reads-named a) (reads-named b) (anywhere-either (reads_in a) (reads_in b) i)
  reads-named (Either a b) i = named-left (read_anywhere (reads_in a)) (read_anywhere (reads_in b)) (names x a) (names x b) (reads-named a) (reads-named b) (anywhere-either (reads_in a) (reads_in b) i)
  reads-named (Choose c a b) i =
      named-left (read_anywhere (reads_in c)) (read_anywhere (reads_in a ++ reads_in b)) (names x c) (names x a || names x b) (reads-named c)
      (λ j. named-left (read_anywhere (reads_in a)) (read_anywhere (reads_in b)) (names x a) (names x b) (reads-named a) (reads-named b) (anywhere-either (reads_in a) (reads_in b) j)) (anywhere-either (reads_in c) (reads_in a ++ reads_in b) i)
  reads-named (Folded f h test e) i =
      either-right (nat_eq h.owner x) (names x test || names x e)
      (named-left (read_anywhere (reads_in test)) (read_anywhere (reads_in e)) (names x test) (names x e) (reads-named test) (reads-named e) (anywhere-either (reads_in test) (reads_in e) i))

  told-named : (e : Expr) → IsIn x (told_in e) → names x e ≡ true
  told-named (Const v) i = absurd i
  told-named (Var y at) i = one-of y i
  told-named (Property y p at) i = either-left (nat_eq y x) (nat_eq p x) (one-of y i)
  told-named (EdgeProperty y p at) i = absurd i
  told-named (Degree d y at) i = one-of y i
  told-named NodeCount i = absurd i
  told-named EdgeCount i = absurd i
  told-named (Live y at) i = one-of y i
  told-named (Unary op at e) i = told-named e i
  told-named (Binary op at a b) i = named-left (told_in a) (told_in b) (names x a) (names x b) (told-named a) (told-named b) i
  told-named (Both a b) i = named-left (told_in a) (told_in b) (names x a) (names x b) (told-named a) (told-named b) i
  told-named (Either a b) i = named-left (told_in a) (told_in b) (names x a) (names x b) (told-named a) (told-named b) i
  told-named (Choose c a b) i =
      named-left (told_in c) (told_in a ++ told_in b) (names x c) (names x a || names x b) (told-named c) (λ j. named-left (told_in a) (told_in b) (names x a) (names x b) (told-named a) (told-named b) j) i
  told-named (Folded f h test e) i =
      ⊎_elim (λ (s : x ≡ h.owner). either-left (nat_eq h.owner x) (names x test || names x e) (eq-eqb h.owner x (sym s)))
      (λ j. either-right (nat_eq h.owner x) (names x test || names x e) (named-left (told_in test) (told_in e) (names x test) (names x e) (told-named test) (told-named e) j)) i

-- ---- keys of faults

module _ where
  -- the rest of an expression stands under the view's key
  rest-key : (e : Expr) (k : Key) (g : K.Fault) → IsIn g (rest_in e k) → g.key ≡ k
  rest-key (Const v) k g i = absurd i
  rest-key (Var x at) k g i = absurd i
  rest-key (Property x p at) k g i = absurd i
  rest-key (EdgeProperty x p at) k g i = absurd i
  rest-key (Degree d x at) k g i = absurd i
  rest-key NodeCount k g i = absurd i
  rest-key EdgeCount k g i = absurd i
  rest-key (Live x at) k g i = ⊎_elim (λ (e : g ≡ record { key = k; place = at }). ap (λ (f : K.Fault). f.key) e) (λ j. absurd j) i
  rest-key (Unary op at e) k g i = ⊎_elim (λ l. one-key (can_fail1 op) k at g l) (λ r. rest-key e k g r) (in-either g (fault_if (can_fail1 op) k at) (rest_in e k) i)
    where
      one-key : (b : Bool) (k : Key) (at : Place) (g : K.Fault) → IsIn g (fault_if b k at) → g.key ≡ k
      one-key true k at g i = ⊎_elim (λ (e : g ≡ record { key = k; place = at }). ap (λ (f : K.Fault). f.key) e) (λ j. absurd j) i
      one-key false k at g i = absurd i
  rest-key (Binary op at a b) k g i =
      ⊎_elim (λ l. one-key (can_fail2 op) k at g l) (λ r. ⊎_elim (λ l. rest-key a k g l) (λ s. rest-key b k g s) (in-either g (rest_in a k) (rest_in b k) r)) (in-either g (fault_if (can_fail2 op) k at) (rest_in a k ++ rest_in b k) i)
    where
      one-key : (b : Bool) (k : Key) (at : Place) (g : K.Fault) → IsIn g (fault_if b k at) → g.key ≡ k
      one-key true k at g i = ⊎_elim (λ (e : g ≡ record { key = k; place = at }). ap (λ (f : K.Fault). f.key) e) (λ j. absurd j) i
      one-key false k at g i = absurd i
  rest-key (Both a b) k g i = ⊎_elim (λ l. rest-key a k g l) (λ s. rest-key b k g s) (in-either g (rest_in a k) (rest_in b k) i)
  rest-key (Either a b) k g i = ⊎_elim (λ l. rest-key a k g l) (λ s. rest-key b k g s) (in-either g (rest_in a k) (rest_in b k) i)
  rest-key (Choose c a b) k g i =
      ⊎_elim (λ l. rest-key c k g l) (λ r. ⊎_elim (λ l. rest-key a k g l) (λ s. rest-key b k g s) (in-either g (rest_in a k) (rest_in b k) r)) (in-either g (rest_in c k) (rest_in a k ++ rest_in b k) i)
  rest-key (Folded f h test e) k g i = absurd i

  -- what is hoisted stands under the keys of reductions
  two-keys : (xs ys : List K.Fault) (ks js : List Key) (g : K.Fault) → (IsIn g xs → IsIn g.key ks) → (IsIn g ys → IsIn g.key js) → IsIn g (xs ++ ys) → IsIn g.key (ks ++ js)
  two-keys xs ys ks js g p q i = ⊎_elim (λ l. in-left g.key ks js (p l)) (λ r. in-right g.key ks js (q r)) (in-either g xs ys i)

  pub hoisted-key : (e : Expr) (g : K.Fault) → IsIn g (hoisted_in e) → IsIn g.key (keys_in e)
  hoisted-key (Const v) g i = absurd i
  hoisted-key (Var x at) g i = absurd i
  hoisted-key (Property x p at) g i = absurd i
  hoisted-key (EdgeProperty x p at) g i = absurd i
  hoisted-key (Degree d x at) g i = absurd i
  hoisted-key NodeCount g i = absurd i
  hoisted-key EdgeCount g i = absurd i
  hoisted-key (Live x at) g i = absurd i
  hoisted-key (Unary op at e) g i = hoisted-key e g i
  hoisted-key (Binary op at a b) g i = two-keys (hoisted_in a) (hoisted_in b) (keys_in a) (keys_in b) g (hoisted-key a g) (hoisted-key b g) i
  hoisted-key (Both a b) g i = two-keys (hoisted_in a) (hoisted_in b) (keys_in a) (keys_in b) g (hoisted-key a g) (hoisted-key b g) i
  hoisted-key (Either a b) g i = two-keys (hoisted_in a) (hoisted_in b) (keys_in a) (keys_in b) g (hoisted-key a g) (hoisted-key b g) i
  hoisted-key (Choose c a b) g i =
      two-keys (hoisted_in c) (hoisted_in a ++ hoisted_in b) (keys_in c) (keys_in a ++ keys_in b) g (hoisted-key c g)
      (λ j. two-keys (hoisted_in a) (hoisted_in b) (keys_in a) (keys_in b) g (hoisted-key a g) (hoisted-key b g) j) i
  hoisted-key (Folded f h test e) g i =
      ⊎_elim (λ (s : g ≡ fault_of f.filter h.place). inl (ap (λ (z : K.Fault). z.key) s))
      (λ m. two-keys (hoisted_in test ++ rest_in test f.filter) ((hoisted_in e ++ rest_in e f.body) ++ fold_fault f) (f.filter ∷ keys_in test) ((f.body ∷ keys_in e) ++ (f.total.key ∷ [])) g
      (λ j. part f.filter test (hoisted-key test g) j)
      (λ j. ⊎_elim (λ l. in-left g.key (f.body ∷ keys_in e) (f.total.key ∷ []) (part f.body e (hoisted-key e g) l)) (λ r. own f e r) (in-either g (hoisted_in e ++ rest_in e f.body) (fold_fault f) j)) m) i
    where
      part : (k : Key) (e : Expr) → (IsIn g (hoisted_in e) → IsIn g.key (keys_in e)) → IsIn g (hoisted_in e ++ rest_in e k) → IsIn g.key (k ∷ keys_in e)
      part k e p j = ⊎_elim (λ l. inr (p l)) (λ r. inl (rest-key e k g r)) (in-either g (hoisted_in e) (rest_in e k) j)

      -- the operator's fault stands under the key of the braces
      own : (f : Fold) (e : Expr) → IsIn g (fold_fault f) → IsIn g.key ((f.body ∷ keys_in e) ++ (f.total.key ∷ []))
      own f e j = by (not (takes_conditions f.word)) j
        where
          by : (b : Bool) → IsIn g (own_faults b f) → IsIn g.key ((f.body ∷ keys_in e) ++ (f.total.key ∷ []))
          by true j =
              ⊎_elim (λ (s : g ≡ fault_of f.body f.total.place). inl (ap (λ (z : K.Fault). z.key) s))
              (λ m. ⊎_elim (λ (s : g ≡ fault_of f.total.key f.total.place). in-right g.key (f.body ∷ keys_in e) (f.total.key ∷ []) (inl (ap (λ (z : K.Fault). z.key) s))) (λ n. absurd n) m) j
          by false j = absurd j

  pub faults-key : (e : Expr) (k : Key) (g : K.Fault) → IsIn g (faults_in e k) → IsIn g.key (k ∷ keys_in e)
  faults-key e k g i = ⊎_elim (λ l. inr (hoisted-key e g l)) (λ r. inl (rest-key e k g r)) (in-either g (hoisted_in e) (rest_in e k) i)

-- ---- types of units

pub unit-typed : (ds : List Declaration) (r : Reduce) (t : VType) → type_in ds (Const (value_at t (unit_of r t))) ≡ Some t
unit-typed ds R.Sum V.I32 = refl
unit-typed ds R.Sum V.I64 = refl
unit-typed ds R.Sum V.Flag = refl
unit-typed ds R.Sum V.Node = refl
unit-typed ds R.Product V.I32 = refl
unit-typed ds R.Product V.I64 = refl
unit-typed ds R.Product V.Flag = refl
unit-typed ds R.Product V.Node = refl
unit-typed ds R.Min V.I32 = refl
unit-typed ds R.Min V.I64 = refl
unit-typed ds R.Min V.Flag = refl
unit-typed ds R.Min V.Node = refl
unit-typed ds R.Max V.I32 = refl
unit-typed ds R.Max V.I64 = refl
unit-typed ds R.Max V.Flag = refl
unit-typed ds R.Max V.Node = refl
unit-typed ds R.And V.I32 = refl
unit-typed ds R.And V.I64 = refl
unit-typed ds R.And V.Flag = refl
unit-typed ds R.And V.Node = refl
unit-typed ds R.Or V.I32 = refl
unit-typed ds R.Or V.I64 = refl
unit-typed ds R.Or V.Flag = refl
unit-typed ds R.Or V.Node = refl

one-typed : (ds : List Declaration) (t : VType) → type_in ds (Const (value_at t (pos 1))) ≡ Some t
one-typed ds V.I32 = refl
one-typed ds V.I64 = refl
one-typed ds V.Flag = refl
one-typed ds V.Node = refl

pub all-nodes : (d : Domain) → is_nodes d ≡ true → d ≡ D.Nodes
all-nodes D.Nodes h = refl
all-nodes D.OutNbrs h = absurd (both_ways false refl h)
all-nodes D.InNbrs h = absurd (both_ways false refl h)
all-nodes D.UpNbrs h = absurd (both_ways false refl h)
all-nodes D.DownNbrs h = absurd (both_ways false refl h)

-- minuses before literals
pub given-literals : (x : ℕ) (f : Fold) (e : Expr) (word : ReductionWord) → has_literals e ≡ true → all_exprs_in has_literals (given word f x e) ≡ true
given-literals x f e W.Count h = and-true (has_literals e) true h refl
given-literals x f e W.Sum h = and-true (has_literals e) true h refl
given-literals x f e W.Product h = and-true (has_literals e) true h refl
given-literals x f e W.Min h = and-true (has_literals e) true h refl
given-literals x f e W.Max h = and-true (has_literals e) true h refl
given-literals x f e W.Exist h = and-true (has_literals e) true h refl
given-literals x f e W.All h = and-true (has_literals e) true h refl

-- ---- the loop of a reduction

module _ (ds : List Declaration) (res : Option VType) (x : ℕ) (outside : depth_at ds x ≡ 0) where
  -- a reduction to the scalar ends with the outermost loop
  module _ (f : Fold) (e : Expr) where
    pub given-named : (word : ReductionWord) → list_all (suits ds) (use_as Written x) ≡ true → list_all (suits ds) (uses_in e) ≡ true → list_all (suits ds) (uses_of (given word f x e)) ≡ true
    given-named W.Count s h = append-true (suits ds) (uses_in e) _ h s
    given-named W.Sum s h = append-true (suits ds) (use_as Written x) _ s (append-true (suits ds) (uses_in e) [] h refl)
    given-named W.Product s h = append-true (suits ds) (use_as Written x) _ s (append-true (suits ds) (uses_in e) [] h refl)
    given-named W.Min s h = append-true (suits ds) (use_as Written x) _ s (append-true (suits ds) (uses_in e) [] h refl)
    given-named W.Max s h = append-true (suits ds) (use_as Written x) _ s (append-true (suits ds) (uses_in e) [] h refl)
    given-named W.Exist s h = append-true (suits ds) (use_as Written x) _ s (append-true (suits ds) (uses_in e) [] h refl)
    given-named W.All s h = append-true (suits ds) (use_as Written x) _ s (append-true (suits ds) (uses_in e) [] h refl)

    value-typed : (r : Reduce) → has_type ds (type_at ds x) e ≡ true → reduces r (type_at ds x) ≡ true → is_typed_in ds res (Combine f.body f.total r (T.Scalar x nowhere ∷ []) (e ∷ [])) ≡ true
    value-typed r h k = and-true (has_type ds (type_at ds x) e && true) (reduces r (type_at ds x)) (and-true (has_type ds (type_at ds x) e) true h refl) k

    flag-typed : (r : Reduce) (t : VType) → is_flag t ≡ true → type_at ds x ≡ t → is_type V.Flag (type_in ds e) ≡ true → has_type ds (type_at ds x) e ≡ true
    flag-typed r V.Flag k s h = ap (λ u. is_type u (type_in ds e)) s ∙ h
    flag-typed r V.I32 k s h = absurd (both_ways false refl k)
    flag-typed r V.I64 k s h = absurd (both_ways false refl k)
    flag-typed r V.Node k s h = absurd (both_ways false refl k)

    pub given-typed : (word : ReductionWord) → type_at ds x ≡ f.vtype → is_type (takes word f.vtype) (type_in ds e) ≡ true → reduces (reduce_of word) f.vtype ≡ true → is_typed_in ds res (given word f x e) ≡ true
    given-typed W.Count s h k =
        let one : has_type ds (type_at ds x) (Const (value_at f.vtype (pos 1))) ≡ true = ap (is_type (type_at ds x)) (one-typed ds f.vtype ∙ ap Some (sym s)) ∙ type-itself (type_at ds x) in
        and-true (has_type ds V.Flag e) _ h
        (and-true ((has_type ds (type_at ds x) (Const (value_at f.vtype (pos 1))) && true) && reduces R.Sum (type_at ds x)) true
        (and-true (has_type ds (type_at ds x) (Const (value_at f.vtype (pos 1))) && true) (reduces R.Sum (type_at ds x)) (and-true (has_type ds (type_at ds x) (Const (value_at f.vtype (pos 1)))) true one refl) (ap (reduces R.Sum) s ∙ k)) refl)
    given-typed W.Sum s h k = value-typed R.Sum (ap (λ t. is_type t (type_in ds e)) s ∙ h) (ap (reduces R.Sum) s ∙ k)
    given-typed W.Product s h k = value-typed R.Product (ap (λ t. is_type t (type_in ds e)) s ∙ h) (ap (reduces R.Product) s ∙ k)
    given-typed W.Min s h k = value-typed R.Min (ap (λ t. is_type t (type_in ds e)) s ∙ h) (ap (reduces R.Min) s ∙ k)
    given-typed W.Max s h k = value-typed R.Max (ap (λ t. is_type t (type_in ds e)) s ∙ h) (ap (reduces R.Max) s ∙ k)
    given-typed W.Exist s h k = value-typed R.Or (flag-typed R.Or f.vtype k s h) (ap (reduces R.Or) s ∙ k)
    given-typed W.All s h k = value-typed R.And (flag-typed R.And f.vtype k s h) (ap (reduces R.And) s ∙ k)

    within-one : nat_le (depth_at ds x) 1 ≡ true
    within-one = ap (λ d. nat_le d 1) outside

    value-form : (n : ℕ) (r : Reduce) → is_outer_expr false n e ≡ true → is_outer_code ds false n (Combine f.body f.total r (T.Scalar x nowhere ∷ []) (e ∷ [])) ≡ true
    value-form n r h = and-true (nat_le (depth_at ds x) 1 && true) (is_outer_expr false n e && true) (and-true (nat_le (depth_at ds x) 1) true within-one refl) (and-true (is_outer_expr false n e) true h refl)

    pub given-form : (n : ℕ) (word : ReductionWord) → is_outer_expr false n e ≡ true → is_outer_code ds false n (given word f x e) ≡ true
    given-form n W.Count h =
        and-true (is_outer_expr false n e) _ h (and-true ((nat_le (depth_at ds x) 1 && true) && true) true (and-true (nat_le (depth_at ds x) 1 && true) true (and-true (nat_le (depth_at ds x) 1) true within-one refl) refl) refl)
    given-form n W.Sum h = value-form n R.Sum h
    given-form n W.Product h = value-form n R.Product h
    given-form n W.Min h = value-form n R.Min h
    given-form n W.Max h = value-form n R.Max h
    given-form n W.Exist h = value-form n R.Or h
    given-form n W.All h = value-form n R.And h

    not-at-once : not (nat_eq (depth_at ds x) 0) ≡ false
    not-at-once = ap (λ d. not (nat_eq d 0)) outside

    pub given-compounds : (n : ℕ) (word : ReductionWord) → has_no_compounds_in ds n false (given word f x e) ≡ true
    given-compounds n W.Count = rw not-at-once refl
    given-compounds n W.Sum = rw not-at-once refl
    given-compounds n W.Product = rw not-at-once refl
    given-compounds n W.Min = rw not-at-once refl
    given-compounds n W.Max = rw not-at-once refl
    given-compounds n W.Exist = rw not-at-once refl
    given-compounds n W.All = rw not-at-once refl

    -- faults stand in order
    module _ (under : all_under f.body (keys_in e) ≡ true) (last : key_lt f.body f.total.key ≡ true) (ordered : in_order e f.body ≡ true) where
      hoisted-before : (g : K.Fault) → IsIn g (hoisted_in e) → key_lt g.key f.body ≡ true
      hoisted-before g i = all-under f.body (keys_in e) g.key under (hoisted-key e g i)

      faults-before : (g : K.Fault) → IsIn g (faults_in e f.body) → key_lt g.key f.total.key ≡ true
      faults-before g i =
          ⊎_elim (λ (s : g.key ≡ f.body). ap (λ k. key_lt k f.total.key) s ∙ last) (λ m. keys-rise g.key f.body f.total.key (all-under f.body (keys_in e) g.key under m) last) (faults-key e f.body g i)

      value-order : (its : List ℕ) (r : Reduce) → body_in_order its (Combine f.body f.total r (T.Scalar x nowhere ∷ []) (e ∷ [])) ≡ true
      value-order its r =
          and-true (in_order e f.body && true) _ (and-true (in_order e f.body) true ordered refl)
          (lie-from (hoisted_in e ++ []) (record { key = f.body; place = f.total.place } ∷ record { key = f.total.key; place = f.total.place } ∷ [])
          (λ g k i j.
          let h = hoisted-before g (⊎_elim (λ l. l) (λ r. absurd r) (in-either g (hoisted_in e) [] i)) in
          ⊎_elim (λ (s : k ≡ record { key = f.body; place = f.total.place }). under-key g k (ap (key_lt g.key) (ap (λ (z : K.Fault). z.key) s) ∙ h))
          (λ m. ⊎_elim (λ (s : k ≡ record { key = f.total.key; place = f.total.place }). under-key g k (ap (key_lt g.key) (ap (λ (z : K.Fault). z.key) s) ∙ keys-rise g.key f.body f.total.key h last)) (λ n. absurd n) m) j))

      pub given-order : (its : List ℕ) (word : ReductionWord) → body_in_order its (given word f x e) ≡ true
      given-order its W.Count =
          and-true (in_order e f.body) _ ordered
          (and-true (lie_before (faults_in e f.body) (record { key = f.total.key; place = f.total.place } ∷ record { key = f.total.key; place = f.total.place } ∷ [])) true
          (lie-from (faults_in e f.body) (record { key = f.total.key; place = f.total.place } ∷ record { key = f.total.key; place = f.total.place } ∷ [])
          (λ g k i j. under-key g k (ap (key_lt g.key) (⊎_elim (λ (s : k ≡ record { key = f.total.key; place = f.total.place }). ap (λ (z : K.Fault). z.key) s) (λ m. ⊎_elim (λ (s : k ≡ record { key = f.total.key; place = f.total.place }). ap (λ (z : K.Fault). z.key) s) (λ n. absurd n) m) j) ∙ faults-before g i))) refl)
      given-order its W.Sum = value-order its R.Sum
      given-order its W.Product = value-order its R.Product
      given-order its W.Min = value-order its R.Min
      given-order its W.Max = value-order its R.Max
      given-order its W.Exist = value-order its R.Or
      given-order its W.All = value-order its R.And

      -- each fault of the body is one of the braces, or stands under their key or the total's
      abbrev OfBody : K.Fault → Type 0
      OfBody g = IsIn g (faults_in e f.body) ⊎ ((g.key ≡ f.body) ⊎ (g.key ≡ f.total.key))

      value-faults : (its : List ℕ) (r : Reduce) (g : K.Fault) → IsIn g (faults_of its (Combine f.body f.total r (T.Scalar x nowhere ∷ []) (e ∷ []))) → OfBody g
      value-faults its r g i =
          ⊎_elim (λ l. inl (⊎_elim (λ m. m) (λ n. absurd n) (in-either g (faults_in e f.body) [] l)))
          (λ m. ⊎_elim (λ (s : g ≡ record { key = f.body; place = f.total.place }). inr (inl (ap (λ (z : K.Fault). z.key) s)))
          (λ n. ⊎_elim (λ (s : g ≡ record { key = f.total.key; place = f.total.place }). inr (inr (ap (λ (z : K.Fault). z.key) s))) (λ o. absurd o) n) m)
          (in-either g (faults_in e f.body ++ []) (record { key = f.body; place = f.total.place } ∷ record { key = f.total.key; place = f.total.place } ∷ []) i)

      pub given-faults : (its : List ℕ) (word : ReductionWord) (g : K.Fault) → IsIn g (faults_of its (given word f x e)) → OfBody g
      given-faults its W.Count g i =
          ⊎_elim (λ l. inl l)
          (λ m. ⊎_elim (λ (s : g ≡ record { key = f.total.key; place = f.total.place }). inr (inr (ap (λ (z : K.Fault). z.key) s)))
          (λ n. ⊎_elim (λ (s : g ≡ record { key = f.total.key; place = f.total.place }). inr (inr (ap (λ (z : K.Fault). z.key) s))) (λ o. absurd o) n) m)
          (in-either g (faults_in e f.body) (record { key = f.total.key; place = f.total.place } ∷ record { key = f.total.key; place = f.total.place } ∷ []) i)
      given-faults its W.Sum g i = value-faults its R.Sum g i
      given-faults its W.Product g i = value-faults its R.Product g i
      given-faults its W.Min g i = value-faults its R.Min g i
      given-faults its W.Max g i = value-faults its R.Max g i
      given-faults its W.Exist g i = value-faults its R.Or g i
      given-faults its W.All g i = value-faults its R.And g i

    -- what the loop shares between its iterations
    module _ (n : ℕ) (test : Expr) (test-unnamed : names x test ≡ false) (unnamed : names x e ≡ false) where
      nothing-read : is_in (read_anywhere (reads_in test ++ (reads_in e ++ [])) ++ ((told_in test ++ (told_in e ++ [])) ++ [])) x ≡ false
      nothing-read = by (is_in (read_anywhere (reads_in test ++ (reads_in e ++ [])) ++ ((told_in test ++ (told_in e ++ [])) ++ [])) x) refl
        where
          in-test : names x test ≡ true → ⊥
          in-test h = both_ways (names x test) test-unnamed h

          in-braces : names x e ≡ true → ⊥
          in-braces h = both_ways (names x e) unnamed h

          in-reads : IsIn x (read_anywhere (reads_in test ++ (reads_in e ++ []))) → ⊥
          in-reads i =
              ⊎_elim (λ l. in-test (reads-named x test l))
              (λ r. ⊎_elim (λ l. in-braces (reads-named x e l)) (λ m. m) (in-either x (read_anywhere (reads_in e)) [] (anywhere-either x (reads_in e) [] r)))
              (in-either x (read_anywhere (reads_in test)) (read_anywhere (reads_in e ++ [])) (anywhere-either x (reads_in test) (reads_in e ++ []) i))

          in-told : IsIn x ((told_in test ++ (told_in e ++ [])) ++ []) → ⊥
          in-told i =
              ⊎_elim
              (λ l. ⊎_elim (λ t. in-test (told-named x test t)) (λ r. ⊎_elim (λ t. in-braces (told-named x e t)) (λ m. m) (in-either x (told_in e) [] r)) (in-either x (told_in test) (told_in e ++ []) l))
              (λ m. m) (in-either x (told_in test ++ (told_in e ++ [])) [] i)

          by : (b : Bool) → is_in (read_anywhere (reads_in test ++ (reads_in e ++ [])) ++ ((told_in test ++ (told_in e ++ [])) ++ [])) x ≡ b → b ≡ false
          by false h = refl
          by true h =
              absurd (⊎_elim in-reads in-told (in-either x (read_anywhere (reads_in test ++ (reads_in e ++ []))) ((told_in test ++ (told_in e ++ [])) ++ [])
              (found (read_anywhere (reads_in test ++ (reads_in e ++ [])) ++ ((told_in test ++ (told_in e ++ [])) ++ [])) x h)))

      pub given-shares : (word : ReductionWord) → shares ds n test (given word f x e) ≡ true
      given-shares W.Count = rw (outside, nothing-read) refl
      given-shares W.Sum = rw (outside, nothing-read) refl
      given-shares W.Product = rw (outside, nothing-read) refl
      given-shares W.Min = rw (outside, nothing-read) refl
      given-shares W.Max = rw (outside, nothing-read) refl
      given-shares W.Exist = rw (outside, nothing-read) refl
      given-shares W.All = rw (outside, nothing-read) refl
