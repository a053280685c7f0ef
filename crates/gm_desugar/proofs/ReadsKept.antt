-- A program with its reads apart keeps what every pass keeps.
use Rattle.std.proofs.Common.{◌≡◌, ◌<◌, ◌≤◌, ◌+◌, ◌++◌, ℕ, suc, Bool, true, false, List, [], ◌∷◌, length, refl, sym, ap, subst, ◌∙◌, arith, Option, Some, None}
use Rattle.std.specs.Prelude.{not, ◌&&◌, ◌||◌, nat_eq, nat_le, nat_lt}
use Rattle.std.specs.List.{list_all}
use Rattle.std.proofs.lemmas.Bool.{both_ways, lt-ltb, ne_eqb}
use Rattle.std.proofs.lemmas.List.{length-append}
use Rattle.std.proofs.lemmas.Option.{none-some}
use Rattle.gm_base.specs.declared.places.Place.{Place}
use Rattle.gm_value.specs.declared.operations.Op1.{Op1}
use Rattle.gm_value.specs.declared.operations.Op1.TheVariants.{Neg, Not, ToI32, ToI64}
use Rattle.gm_value.specs.declared.operations.Op2.{Op2}
use Rattle.gm_value.specs.declared.values.VType.{VType}
use Rattle.gm_value.specs.declared.values.VType.TheVariants as V
use Rattle.gm_value.specs.Operations.{fits2, type1, type2}
use Rattle.gm_ast.specs.declared.tree.Declaration.{Declaration}
use Rattle.gm_ast.specs.declared.tree.Fold.{Fold}
use Rattle.gm_ast.specs.declared.tree.Head.{Head}
use Rattle.gm_ast.specs.declared.tree.Key.{Key}
use Rattle.gm_ast.specs.declared.tree.Target.{Target}
use Rattle.gm_ast.specs.declared.tree.Target.TheVariants as T
use Rattle.gm_ast.specs.declared.tree.Variable.{Variable}
use Rattle.gm_ast.specs.Loops.{is_nodes}
use Rattle.gm_ast.specs.Program.{Expr, Const, Var, Property, EdgeProperty, Degree, NodeCount, EdgeCount, Live, Unary, Binary, Both, Either, Choose, Folded, Stmt, Then, Declare, Assign, For, If, While, Do, Return, sequence}
use Rattle.gm_semantics.specs.Frames.{ReadsBelow, NamesBelow}
use Rattle.gm_semantics.specs.Statements.{variable_at}
use Rattle.gm_forms.specs.Forms.{depth_at, is_within, is_told}
use Rattle.gm_forms.specs.Order.{folds_in_order, loops_in_order}
use Rattle.gm_forms.specs.Ready.{is_phase_expr, is_phase_code}
use Rattle.gm_forms.specs.Sharing.{loops_share}
use Rattle.gm_forms.specs.Typing.{type_at, type_if, by_one, is_type, type_in, has_type, target_type, returns_type, is_typed_in, takes1}
use Rattle.gm_forms.specs.Uses as Uses
use Rattle.gm_forms.specs.Uses.{Role, Written, suits, use_as, has_role, uses_in, uses_of_head, uses_of_target, uses_of}
use Rattle.gm_forms.proofs.Named.{both-true, all-append}
use Rattle.gm_forms.proofs.Weaker.{and-true}
use Rattle.gm_desugar.specs.Compounds.{has_no_compounds}
use Rattle.gm_desugar.specs.Conditions.{fresh, set_to, asked, has_told_conditions}
use Rattle.gm_desugar.specs.Groups.{has_no_groups}
use Rattle.gm_desugar.specs.Literals.{has_literals, all_exprs, stays}
use Rattle.gm_desugar.specs.Reads.{types_read, count_read, reads_set, told_from, names, is_read, is_single, stays_alone, after_reads, types_unless, types_apart, count_unless, count_reads, apart, has_reads_apart}
use Rattle.gm_desugar.proofs.Longer.{two}
use Rattle.gm_desugar.proofs.Replacing.{append-true, is-type, type-itself}

-- as many types as reads
pub length-read : (ds : List Declaration) (e : Expr) → length (types_read ds e) ≡ count_read e
length-read ds (Const v) = refl
length-read ds (Var x at) = refl
length-read ds (Property x p at) = refl
length-read ds (EdgeProperty x p at) = refl
length-read ds (Degree d x at) = refl
length-read ds NodeCount = refl
length-read ds EdgeCount = refl
length-read ds (Live x at) = refl
length-read ds (Unary op at e) = length-read ds e
length-read ds (Binary op at a b) = length-append (types_read ds a) (types_read ds b) ∙ ap (λ n. n + length (types_read ds b)) (length-read ds a) ∙ ap (λ n. count_read a + n) (length-read ds b)
length-read ds (Both a b) = length-append (types_read ds a) (types_read ds b) ∙ ap (λ n. n + length (types_read ds b)) (length-read ds a) ∙ ap (λ n. count_read a + n) (length-read ds b)
length-read ds (Either a b) = length-append (types_read ds a) (types_read ds b) ∙ ap (λ n. n + length (types_read ds b)) (length-read ds a) ∙ ap (λ n. count_read a + n) (length-read ds b)
length-read ds (Choose c a b) =
    length-append (types_read ds c) (types_read ds a ++ types_read ds b) ∙ ap (λ n. n + length (types_read ds a ++ types_read ds b)) (length-read ds c)
    ∙ ap (λ n. count_read c + n) (length-append (types_read ds a) (types_read ds b) ∙ ap (λ n. n + length (types_read ds b)) (length-read ds a) ∙ ap (λ n. count_read a + n) (length-read ds b))
length-read ds (Folded f h test e) = refl

-- an expression names no variable from the next one on
apart-from : (x n k : ℕ) → x < k → k ≤ n → nat_eq x n ≡ false
apart-from x n k b l = ne_eqb x n (λ e. omega arith)

neither : (a b : Bool) → a ≡ false → b ≡ false → a || b ≡ false
neither false b h k = k
neither true b h k = h

pub names-nothing : (k n : ℕ) (e : Expr) → k ≤ n → ReadsBelow k e → names n e ≡ false
names-nothing k n (Const v) l b = refl
names-nothing k n (Var x at) l b = apart-from x n k b l
names-nothing k n (Property x p at) l b = neither (nat_eq x n) (nat_eq p n) (apart-from x n k b.0 l) (apart-from p n k b.1 l)
names-nothing k n (EdgeProperty x p at) l b = apart-from p n k b l
names-nothing k n (Degree d x at) l b = apart-from x n k b l
names-nothing k n NodeCount l b = refl
names-nothing k n EdgeCount l b = refl
names-nothing k n (Live x at) l b = apart-from x n k b l
names-nothing k n (Unary op at e) l b = names-nothing k n e l b
names-nothing k n (Binary op at a c) l b = neither (names n a) (names n c) (names-nothing k n a l b.0) (names-nothing k n c l b.1)
names-nothing k n (Both a c) l b = neither (names n a) (names n c) (names-nothing k n a l b.0) (names-nothing k n c l b.1)
names-nothing k n (Either a c) l b = neither (names n a) (names n c) (names-nothing k n a l b.0) (names-nothing k n c l b.1)
names-nothing k n (Choose d a c) l b = neither (names n d) (names n a || names n c) (names-nothing k n d l b.0) (neither (names n a) (names n c) (names-nothing k n a l b.1) (names-nothing k n c l b.2))
names-nothing k n (Folded f h test e) l b = neither (nat_eq h.owner n) (names n test || names n e) (apart-from h.owner n k b.0 l) (neither (names n test) (names n e) (names-nothing k n test l b.1) (names-nothing k n e l b.2))

-- the variables of some types from a number on stand in the table
module _ (ds es : List Declaration) where
  abbrev pub Placed : ℕ → List VType → Type 0
  Placed n [] = Unit {0}
  Placed n (t ∷ ts) = ((n < length es) × (variable_at es n ≡ (fresh t).variable)) × Placed (n + 1) ts

  pub placed-both : (n : ℕ) (ts us : List VType) → Placed n (ts ++ us) → Placed n ts × Placed (n + length ts) us
  placed-both n [] us h = (tt, subst (λ m. Placed m us) (let e : n ≡ n + 0 = omega arith in e) h)
  placed-both n (t ∷ ts) us h =
      let q = placed-both (n + 1) ts us h.1 in
      ((h.0, q.0), subst (λ m. Placed m us) (let e : n + 1 + length ts ≡ n + suc (length ts) = omega arith in e) q.1)

  -- of two expressions' reads
  pub placed-two : (n : ℕ) (a b : Expr) → Placed n (types_read ds a ++ types_read ds b) → Placed n (types_read ds a) × Placed (n + count_read a) (types_read ds b)
  placed-two n a b h = let q = placed-both n (types_read ds a) (types_read ds b) h in (q.0, subst (λ m. Placed (n + m) (types_read ds b)) (length-read ds a) q.1)

  pub placed-three : (n : ℕ) (c a b : Expr) → Placed n (types_read ds c ++ (types_read ds a ++ types_read ds b)) → Placed n (types_read ds c) × Placed (n + count_read c) (types_read ds a) × Placed ((n + count_read c) + count_read a) (types_read ds b)
  placed-three n c a b h =
      let q = placed-both n (types_read ds c) (types_read ds a ++ types_read ds b) h in
      let r = placed-two (n + count_read c) a b (subst (λ m. Placed (n + m) (types_read ds a ++ types_read ds b)) (length-read ds c) q.1) in
      (q.0, r.0, r.1)

  suited : (n : ℕ) (t : VType) (role : Role) → n < length es → variable_at es n ≡ (fresh t).variable → has_role (fresh t).variable role ≡ true → list_all (suits es) (use_as role n) ≡ true
  suited n t role below e h = and-true (suits es (record { variable = n; role = role })) true (and-true (nat_lt n (length es)) (has_role (variable_at es n) role) (lt-ltb n (length es) below) (ap (λ v. has_role v role) e ∙ h)) refl

  -- what is known of an expression of a sequential phase of the program, in the longer table
  pub record Sound (e : Expr) : Type 0 where
    pub named : list_all (suits es) (uses_in e) ≡ true
    pub typed : (t : VType) × (type_in es e ≡ Some t)
    pub folds : folds_in_order e ≡ true
    pub phase : is_phase_expr e ≡ true
    pub literals : has_literals e ≡ true

  -- what is known of the same with its reads as variables
  pub record Told (e d : Expr) : Type 0 where
    pub named : list_all (suits es) (uses_in d) ≡ true
    pub typed : type_in es d ≡ type_in es e
    pub folds : folds_in_order d ≡ true
    pub phase : is_phase_expr d ≡ true
    pub literals : has_literals d ≡ true
    pub told : is_told d ≡ true

  -- what is known of a read that is set to a variable
  pub record Set (res : Option VType) (s : Stmt) : Type 0 where
    pub named : list_all (suits es) (uses_of s) ≡ true
    pub typed : is_typed_in es res s ≡ true
    pub ordered : loops_in_order s ≡ true
    pub share : loops_share es s ≡ true
    pub form : is_phase_code es s ≡ true
    pub groups : has_no_groups s ≡ true
    pub compounds : has_no_compounds es s ≡ true
    pub literals : all_exprs has_literals s ≡ true
    pub conditions : has_told_conditions s ≡ true
    pub apart : has_reads_apart s ≡ true

  abbrev pub AllSet : Option VType → List Stmt → Type 0
  AllSet res [] = Unit {0}
  AllSet res (s ∷ ss) = Set res s × AllSet res ss

  pub set-both : (res : Option VType) (xs ys : List Stmt) → AllSet res xs → AllSet res ys → AllSet res (xs ++ ys)
  set-both res [] ys h k = k
  set-both res (x ∷ xs) ys h k = (h.0, set-both res xs ys h.1 k)

  pub set-then : (res : Option VType) (s t : Stmt) → Set res s → Set res t → Set res (Then s t)
  set-then res s t p q = record {
    named = append-true (suits es) (uses_of s) (uses_of t) p.named q.named;
    typed = and-true (is_typed_in es res s) (is_typed_in es res t) p.typed q.typed;
    ordered = and-true (loops_in_order s) (loops_in_order t) p.ordered q.ordered;
    share = and-true (loops_share es s) (loops_share es t) p.share q.share;
    form = and-true (is_phase_code es s) (is_phase_code es t) p.form q.form;
    groups = and-true (has_no_groups s) (has_no_groups t) p.groups q.groups;
    compounds = and-true (has_no_compounds es s) (has_no_compounds es t) p.compounds q.compounds;
    literals = and-true (all_exprs has_literals s) (all_exprs has_literals t) p.literals q.literals;
    conditions = and-true (has_told_conditions s) (has_told_conditions t) p.conditions q.conditions;
    apart = and-true (has_reads_apart s) (has_reads_apart t) p.apart q.apart;
  }

  pub set-sequence : (res : Option VType) (xs : List Stmt) → AllSet res xs → Set res (sequence xs)
  set-sequence res [] h = record { named = refl; typed = refl; ordered = refl; share = refl; form = refl; groups = refl; compounds = refl; literals = refl; conditions = refl; apart = refl }
  set-sequence res (x ∷ xs) h = set-then res x (sequence xs) h.0 (set-sequence res xs h.1)

  -- one read
  one-set : (res : Option VType) (n : ℕ) (t : VType) (k : Key) (e : Expr) → Placed n (t ∷ []) → Sound e → type_in es e ≡ Some t → is_read n e ≡ true → AllSet res (set_to n k e ∷ [])
  one-set res n t k e h s typed read = (
    record {
      named = append-true (suits es) (use_as Written n) (uses_in e) (suited n t Written h.0.0 h.0.1 refl) s.named;
      typed = ap (λ (v : Variable). has_type es v.vtype e) h.0.1 ∙ ap (is_type t) typed ∙ type-itself t;
      ordered = s.folds;
      share = refl;
      form = and-true (nat_le (depth_at es n) 0) (is_phase_expr e) (ap (λ (v : Variable). nat_le v.depth 0) h.0.1) s.phase;
      groups = refl;
      compounds = refl;
      literals = s.literals;
      conditions = refl;
      apart = either-right (is_told e) (is_read n e) read;
    },
    tt,
  )
    where
      either-right : (a b : Bool) → b ≡ true → a || b ≡ true
      either-right true b h = refl
      either-right false b h = h

  -- the variable in its place
  one-told : (n : ℕ) (t : VType) (e : Expr) → Placed n (t ∷ []) → type_in es e ≡ Some t → Told e (asked n)
  one-told n t e h typed = record {
    named = suited n t Uses.Told h.0.0 h.0.1 refl;
    typed = ap (λ (v : Variable). Some v.vtype) h.0.1 ∙ sym typed;
    folds = refl;
    phase = refl;
    literals = refl;
    told = refl;
  }

  -- parts of what has a type
  one-typed : (o : Option VType) (f : VType → Option VType) (t : VType) → by_one o f ≡ Some t → (u : VType) × (o ≡ Some u) × (f u ≡ Some t)
  one-typed None f t h = absurd (none-some t h)
  one-typed (Some u) f t h = (u, refl, h)

  if-typed : (b : Bool) (u t : VType) → type_if b u ≡ Some t → b ≡ true
  if-typed true u t h = refl
  if-typed false u t h = absurd (none-some t h)

  flags-typed : (a b : Expr) (t : VType) → type_if (is_type V.Flag (type_in es a) && is_type V.Flag (type_in es b)) V.Flag ≡ Some t → (type_in es a ≡ Some V.Flag) × (type_in es b ≡ Some V.Flag)
  flags-typed a b t h =
      let q = both-true (is_type V.Flag (type_in es a)) (is_type V.Flag (type_in es b)) (if-typed _ V.Flag t h) in
      (is-type V.Flag (type_in es a) q.0, is-type V.Flag (type_in es b) q.1)

  abbrev Typed : Expr → Type 0
  Typed e = (t : VType) × (type_in es e ≡ Some t)

  two-sound : (a b : Expr) → list_all (suits es) (uses_in a ++ uses_in b) ≡ true → Typed a → Typed b → folds_in_order a && folds_in_order b ≡ true → is_phase_expr a && is_phase_expr b ≡ true → has_literals a && has_literals b ≡ true → Sound a × Sound b
  two-sound a b named s t folds phase literals =
      let n = all-append (suits es) (uses_in a) (uses_in b) named in
      let f = both-true (folds_in_order a) (folds_in_order b) folds in
      let p = both-true (is_phase_expr a) (is_phase_expr b) phase in
      let l = both-true (has_literals a) (has_literals b) literals in
      (record { named = n.0; typed = s; folds = f.0; phase = p.0; literals = l.0 }, record { named = n.1; typed = t; folds = f.1; phase = p.1; literals = l.1 })

  unary-sound : (op : Op1) (at : Place) (e : Expr) → Sound (Unary op at e) → Sound e
  unary-sound op at e s =
      let t = one-typed (type_in es e) (λ t. type_if (takes1 op t) (type1 op t)) (s.typed.0) s.typed.1 in
      record { named = s.named; typed = (t.0, t.1); folds = s.folds; phase = s.phase; literals = (both-true (stays op e) (has_literals e) s.literals).1 }

  binary-sound : (op : Op2) (at : Place) (a b : Expr) → Sound (Binary op at a b) → Sound a × Sound b
  binary-sound op at a b s =
      let t = one-typed (type_in es a) (λ t. by_one (type_in es b) (λ u. type_if (fits2 op t u) (type2 op t))) s.typed.0 s.typed.1 in
      let u = one-typed (type_in es b) (λ u. type_if (fits2 op t.0 u) (type2 op t.0)) s.typed.0 t.2 in
      two-sound a b s.named (t.0, t.1) (u.0, u.1) s.folds s.phase s.literals

  both-sound : (a b : Expr) → Sound (Both a b) → Sound a × Sound b
  both-sound a b s = let t = flags-typed a b s.typed.0 s.typed.1 in two-sound a b s.named (V.Flag, t.0) (V.Flag, t.1) s.folds s.phase s.literals

  either-sound : (a b : Expr) → Sound (Either a b) → Sound a × Sound b
  either-sound a b s = let t = flags-typed a b s.typed.0 s.typed.1 in two-sound a b s.named (V.Flag, t.0) (V.Flag, t.1) s.folds s.phase s.literals

  choose-sound : (c a b : Expr) → Sound (Choose c a b) → Sound c × Sound a × Sound b
  choose-sound c a b s =
      let t = one-typed (type_in es a) (λ t. type_if (is_type V.Flag (type_in es c) && is_type t (type_in es b)) t) s.typed.0 s.typed.1 in
      let q = both-true (is_type V.Flag (type_in es c)) (is_type t.0 (type_in es b)) (if-typed _ t.0 s.typed.0 t.2) in
      let n = all-append (suits es) (uses_in c) (uses_in a ++ uses_in b) s.named in
      let f = both-true (folds_in_order c) (folds_in_order a && folds_in_order b) s.folds in
      let p = both-true (is_phase_expr c) (is_phase_expr a && is_phase_expr b) s.phase in
      let l = both-true (has_literals c) (has_literals a && has_literals b) s.literals in
      let r = two-sound a b n.1 (t.0, t.1) (t.0, is-type t.0 (type_in es b) q.1) f.1 p.1 l.1 in
      (record { named = n.0; typed = (V.Flag, is-type V.Flag (type_in es c) q.0); folds = f.0; phase = p.0; literals = l.0 }, r.0, r.1)

  fold-typed : (f : Fold) (h : Head) (test e : Expr) (t : VType) → type_in es (Folded f h test e) ≡ Some t → type_in es (Folded f h test e) ≡ Some f.vtype
  fold-typed f h test e t p = ap (λ b. type_if b f.vtype) (if-typed _ f.vtype t p)

  -- each read that is set
  module _ (same : (x : ℕ) → x < length ds → variable_at es x ≡ variable_at ds x) where
    property-typed : (x p : ℕ) (at : Place) → p < length ds → type_in es (Property x p at) ≡ Some (type_at ds p)
    property-typed x p at below = ap (λ (v : Variable). Some v.vtype) (same p below)

    pub reads-kept : (res : Option VType) (e : Expr) (n : ℕ) (k : Key) → length ds ≤ n → ReadsBelow (length ds) e → Placed n (types_read ds e) → Sound e → AllSet res (reads_set n k e)
    reads-kept res (Const v) n k l b h s = tt
    reads-kept res (Var x at) n k l b h s = tt
    reads-kept res (Property x p at) n k l b h s = one-set res n (type_at ds p) k (Property x p at) h s (property-typed x p at b.1) refl
    reads-kept res (EdgeProperty x p at) n k l b h s = tt
    reads-kept res (Degree d x at) n k l b h s = one-set res n V.I32 k (Degree d x at) h s refl refl
    reads-kept res NodeCount n k l b h s = tt
    reads-kept res EdgeCount n k l b h s = tt
    reads-kept res (Live x at) n k l b h s = one-set res n V.Node k (Live x at) h s refl refl
    reads-kept res (Unary op at e) n k l b h s = reads-kept res e n k l b h (unary-sound op at e s)
    reads-kept res (Binary op at a c) n k l b h s =
        let p = placed-two n a c h in
        let q = binary-sound op at a c s in
        set-both res (reads_set n k a) (reads_set (n + count_read a) k c) (reads-kept res a n k l b.0 p.0 q.0) (reads-kept res c (n + count_read a) k (omega arith) b.1 p.1 q.1)
    reads-kept res (Both a c) n k l b h s =
        let p = placed-two n a c h in
        let q = both-sound a c s in
        set-both res (reads_set n k a) (reads_set (n + count_read a) k c) (reads-kept res a n k l b.0 p.0 q.0) (reads-kept res c (n + count_read a) k (omega arith) b.1 p.1 q.1)
    reads-kept res (Either a c) n k l b h s =
        let p = placed-two n a c h in
        let q = either-sound a c s in
        set-both res (reads_set n k a) (reads_set (n + count_read a) k c) (reads-kept res a n k l b.0 p.0 q.0) (reads-kept res c (n + count_read a) k (omega arith) b.1 p.1 q.1)
    reads-kept res (Choose d a c) n k l b h s =
        let p = placed-three n d a c h in
        let q = choose-sound d a c s in
        let m = n + count_read d in
        set-both res (reads_set n k d) (reads_set m k a ++ reads_set (m + count_read a) k c) (reads-kept res d n k l b.0 p.0 q.0)
        (set-both res (reads_set m k a) (reads_set (m + count_read a) k c) (reads-kept res a m k (omega arith) b.1 p.1 q.1) (reads-kept res c (m + count_read a) k (omega arith) b.2 p.2 q.2))
    reads-kept res (Folded f hd test e) n k l b h s = one-set res n f.vtype k (Folded f hd test e) h s (fold-typed f hd test e s.typed.0 s.typed.1) (ap not (names-nothing (length ds) n (Folded f hd test e) l b))

    stays-told : (op : Op1) (e : Expr) (n : ℕ) → stays op e ≡ true → stays op (told_from n e) ≡ true
    stays-told Neg (Const v) n h = h
    stays-told Neg (Var x at) n h = refl
    stays-told Neg (Property x p at) n h = refl
    stays-told Neg (EdgeProperty x p at) n h = refl
    stays-told Neg (Degree d x at) n h = refl
    stays-told Neg NodeCount n h = refl
    stays-told Neg EdgeCount n h = refl
    stays-told Neg (Live x at) n h = refl
    stays-told Neg (Unary op at e) n h = refl
    stays-told Neg (Binary op at a b) n h = refl
    stays-told Neg (Both a b) n h = refl
    stays-told Neg (Either a b) n h = refl
    stays-told Neg (Choose c a b) n h = refl
    stays-told Neg (Folded f hd test e) n h = refl
    stays-told Not e n h = refl
    stays-told ToI32 e n h = refl
    stays-told ToI64 e n h = refl

    two-told : (a a' b b' : Expr) → Told a a' → Told b b' → (list_all (suits es) (uses_in a' ++ uses_in b') ≡ true) × (folds_in_order a' && folds_in_order b' ≡ true) × (is_phase_expr a' && is_phase_expr b' ≡ true) × (has_literals a' && has_literals b' ≡ true) × (is_told a' && is_told b' ≡ true)
    two-told a a' b b' p q = (
      append-true (suits es) (uses_in a') (uses_in b') p.named q.named,
      and-true (folds_in_order a') (folds_in_order b') p.folds q.folds,
      and-true (is_phase_expr a') (is_phase_expr b') p.phase q.phase,
      and-true (has_literals a') (has_literals b') p.literals q.literals,
      and-true (is_told a') (is_told b') p.told q.told,
    )

    pub told-kept : (e : Expr) (n : ℕ) → ReadsBelow (length ds) e → Placed n (types_read ds e) → Sound e → Told e (told_from n e)
    told-kept (Const v) n b h s = record { named = refl; typed = refl; folds = refl; phase = refl; literals = refl; told = refl }
    told-kept (Var x at) n b h s = record { named = s.named; typed = refl; folds = refl; phase = refl; literals = refl; told = refl }
    told-kept (Property x p at) n b h s = one-told n (type_at ds p) (Property x p at) h (property-typed x p at b.1)
    told-kept (EdgeProperty x p at) n b h s = absurd (both_ways false refl s.phase)
    told-kept (Degree d x at) n b h s = one-told n V.I32 (Degree d x at) h refl
    told-kept NodeCount n b h s = record { named = refl; typed = refl; folds = refl; phase = refl; literals = refl; told = refl }
    told-kept EdgeCount n b h s = record { named = refl; typed = refl; folds = refl; phase = refl; literals = refl; told = refl }
    told-kept (Live x at) n b h s = one-told n V.Node (Live x at) h refl
    told-kept (Unary op at e) n b h s =
        let d = told_from n e in
        let t = told-kept e n b h (unary-sound op at e s) in
        record {
          named = t.named;
          typed = ap (λ o. by_one o (λ t. type_if (takes1 op t) (type1 op t))) t.typed;
          folds = t.folds;
          phase = t.phase;
          literals = and-true (stays op d) (has_literals d) (stays-told op e n (both-true (stays op e) (has_literals e) s.literals).0) t.literals;
          told = t.told;
        }
    told-kept (Binary op at a c) n b h s =
        let m = n + count_read a in
        let p = placed-two n a c h in
        let q = binary-sound op at a c s in
        let t = told-kept a n b.0 p.0 q.0 in
        let u = told-kept c m b.1 p.1 q.1 in
        let r = two-told a (told_from n a) c (told_from m c) t u in
        record {
          named = r.0;
          typed = two (λ o u. by_one o (λ t. by_one u (λ v. type_if (fits2 op t v) (type2 op t)))) (type_in es (told_from n a)) (type_in es a) (type_in es (told_from m c)) (type_in es c) t.typed u.typed;
          folds = r.1;
          phase = r.2;
          literals = r.3;
          told = r.4;
        }
    told-kept (Both a c) n b h s =
        let m = n + count_read a in
        let p = placed-two n a c h in
        let q = both-sound a c s in
        let t = told-kept a n b.0 p.0 q.0 in
        let u = told-kept c m b.1 p.1 q.1 in
        let r = two-told a (told_from n a) c (told_from m c) t u in
        record {
          named = r.0;
          typed = two (λ o u. type_if (is_type V.Flag o && is_type V.Flag u) V.Flag) (type_in es (told_from n a)) (type_in es a) (type_in es (told_from m c)) (type_in es c) t.typed u.typed;
          folds = r.1;
          phase = r.2;
          literals = r.3;
          told = r.4;
        }
    told-kept (Either a c) n b h s =
        let m = n + count_read a in
        let p = placed-two n a c h in
        let q = either-sound a c s in
        let t = told-kept a n b.0 p.0 q.0 in
        let u = told-kept c m b.1 p.1 q.1 in
        let r = two-told a (told_from n a) c (told_from m c) t u in
        record {
          named = r.0;
          typed = two (λ o u. type_if (is_type V.Flag o && is_type V.Flag u) V.Flag) (type_in es (told_from n a)) (type_in es a) (type_in es (told_from m c)) (type_in es c) t.typed u.typed;
          folds = r.1;
          phase = r.2;
          literals = r.3;
          told = r.4;
        }
    told-kept (Choose d a c) n b h s =
        let m = n + count_read d in
        let m2 = m + count_read a in
        let p = placed-three n d a c h in
        let q = choose-sound d a c s in
        let o = told-kept d n b.0 p.0 q.0 in
        let t = told-kept a m b.1 p.1 q.1 in
        let u = told-kept c m2 b.2 p.2 q.2 in
        let r = two-told a (told_from m a) c (told_from m2 c) t u in
        let d' = told_from n d in
        let a' = told_from m a in
        let c' = told_from m2 c in
        record {
          named = append-true (suits es) (uses_in d') (uses_in a' ++ uses_in c') o.named r.0;
          typed =
              ap (λ o. by_one (type_in es a') (λ t. type_if (is_type V.Flag o && is_type t (type_in es c')) t)) o.typed
              ∙ two (λ o u. by_one o (λ t. type_if (is_type V.Flag (type_in es d) && is_type t u) t)) (type_in es a') (type_in es a) (type_in es c') (type_in es c) t.typed u.typed;
          folds = and-true (folds_in_order d') (folds_in_order a' && folds_in_order c') o.folds r.1;
          phase = and-true (is_phase_expr d') (is_phase_expr a' && is_phase_expr c') o.phase r.2;
          literals = and-true (has_literals d') (has_literals a' && has_literals c') o.literals r.3;
          told = and-true (is_told d') (is_told a' && is_told c') o.told r.4;
        }
    told-kept (Folded f hd test e) n b h s = one-told n f.vtype (Folded f hd test e) h (fold-typed f hd test e s.typed.0 s.typed.1)

  -- what is known of a statement of the program
  pub record Known (res : Option VType) (s : Stmt) : Type 0 where
    pub named : list_all (suits es) (uses_of s) ≡ true
    pub typed : is_typed_in es res s ≡ true
    pub ordered : loops_in_order s ≡ true
    pub share : loops_share es s ≡ true
    pub form : is_phase_code es s ≡ true
    pub groups : has_no_groups s ≡ true
    pub compounds : has_no_compounds es s ≡ true
    pub literals : all_exprs has_literals s ≡ true
    pub conditions : has_told_conditions s ≡ true

  -- what is known of a condition
  record Asked (e : Expr) : Type 0 where
    named : list_all (suits es) (uses_in e) ≡ true
    typed : has_type es V.Flag e ≡ true
    ordered : folds_in_order e ≡ true
    form : is_phase_expr e ≡ true
    literals : has_literals e ≡ true
    conditions : is_told e ≡ true

  then-known : (res : Option VType) (s t : Stmt) → Known res (Then s t) → Known res s × Known res t
  then-known res s t h =
      let named = all-append (suits es) (uses_of s) (uses_of t) h.named in
      let typed = both-true (is_typed_in es res s) (is_typed_in es res t) h.typed in
      let ordered = both-true (loops_in_order s) (loops_in_order t) h.ordered in
      let share = both-true (loops_share es s) (loops_share es t) h.share in
      let form = both-true (is_phase_code es s) (is_phase_code es t) h.form in
      let groups = both-true (has_no_groups s) (has_no_groups t) h.groups in
      let compounds = both-true (has_no_compounds es s) (has_no_compounds es t) h.compounds in
      let literals = both-true (all_exprs has_literals s) (all_exprs has_literals t) h.literals in
      let conditions = both-true (has_told_conditions s) (has_told_conditions t) h.conditions in
      (record { named = named.0; typed = typed.0; ordered = ordered.0; share = share.0; form = form.0; groups = groups.0; compounds = compounds.0; literals = literals.0; conditions = conditions.0 }, record { named = named.1; typed = typed.1; ordered = ordered.1; share = share.1; form = form.1; groups = groups.1; compounds = compounds.1; literals = literals.1; conditions = conditions.1 })

  if-known : (res : Option VType) (k : Key) (e : Expr) (s t : Stmt) → Known res (If k e s t) → Asked e × Known res s × Known res t
  if-known res k e s t h =
      let c_named = all-append (suits es) (uses_in e) (uses_of s ++ uses_of t) h.named in
      let named = all-append (suits es) (uses_of s) (uses_of t) c_named.1 in
      let c_typed = both-true (has_type es V.Flag e) (is_typed_in es res s && is_typed_in es res t) h.typed in
      let typed = both-true (is_typed_in es res s) (is_typed_in es res t) c_typed.1 in
      let c_ordered = both-true (folds_in_order e) (loops_in_order s && loops_in_order t) h.ordered in
      let ordered = both-true (loops_in_order s) (loops_in_order t) c_ordered.1 in
      let share = both-true (loops_share es s) (loops_share es t) h.share in
      let c_form = both-true (is_phase_expr e) (is_phase_code es s && is_phase_code es t) h.form in
      let form = both-true (is_phase_code es s) (is_phase_code es t) c_form.1 in
      let groups = both-true (has_no_groups s) (has_no_groups t) h.groups in
      let compounds = both-true (has_no_compounds es s) (has_no_compounds es t) h.compounds in
      let c_literals = both-true (has_literals e) (all_exprs has_literals s && all_exprs has_literals t) h.literals in
      let literals = both-true (all_exprs has_literals s) (all_exprs has_literals t) c_literals.1 in
      let c_conditions = both-true (is_told e) (has_told_conditions s && has_told_conditions t) h.conditions in
      let conditions = both-true (has_told_conditions s) (has_told_conditions t) c_conditions.1 in
      (record { named = c_named.0; typed = c_typed.0; ordered = c_ordered.0; form = c_form.0; literals = c_literals.0; conditions = c_conditions.0 }, record { named = named.0; typed = typed.0; ordered = ordered.0; share = share.0; form = form.0; groups = groups.0; compounds = compounds.0; literals = literals.0; conditions = conditions.0 }, record { named = named.1; typed = typed.1; ordered = ordered.1; share = share.1; form = form.1; groups = groups.1; compounds = compounds.1; literals = literals.1; conditions = conditions.1 })

  if-set : (res : Option VType) (k : Key) (e : Expr) (s t : Stmt) → Asked e → Set res s → Set res t → Set res (If k e s t)
  if-set res k e s t c p q = record {
    named = append-true (suits es) (uses_in e) (uses_of s ++ uses_of t) c.named (append-true (suits es) (uses_of s) (uses_of t) p.named q.named);
    typed = and-true (has_type es V.Flag e) (is_typed_in es res s && is_typed_in es res t) c.typed (and-true (is_typed_in es res s) (is_typed_in es res t) p.typed q.typed);
    ordered = and-true (folds_in_order e) (loops_in_order s && loops_in_order t) c.ordered (and-true (loops_in_order s) (loops_in_order t) p.ordered q.ordered);
    share = and-true (loops_share es s) (loops_share es t) p.share q.share;
    form = and-true (is_phase_expr e) (is_phase_code es s && is_phase_code es t) c.form (and-true (is_phase_code es s) (is_phase_code es t) p.form q.form);
    groups = and-true (has_no_groups s) (has_no_groups t) p.groups q.groups;
    compounds = and-true (has_no_compounds es s) (has_no_compounds es t) p.compounds q.compounds;
    literals = and-true (has_literals e) (all_exprs has_literals s && all_exprs has_literals t) c.literals (and-true (all_exprs has_literals s) (all_exprs has_literals t) p.literals q.literals);
    conditions = and-true (is_told e) (has_told_conditions s && has_told_conditions t) c.conditions (and-true (has_told_conditions s) (has_told_conditions t) p.conditions q.conditions);
    apart = and-true (has_reads_apart s) (has_reads_apart t) p.apart q.apart;
  }

  while-known : (res : Option VType) (k : Key) (at : Place) (e : Expr) (s : Stmt) → Known res (While k at e s) → Asked e × Known res s
  while-known res k at e s h =
      let c_named = all-append (suits es) (uses_in e) (uses_of s) h.named in
      let c_typed = both-true (has_type es V.Flag e) (is_typed_in es res s) h.typed in
      let c_ordered = both-true (folds_in_order e) (loops_in_order s) h.ordered in
      let c_form = both-true (is_phase_expr e) (is_phase_code es s) h.form in
      let c_literals = both-true (has_literals e) (all_exprs has_literals s) h.literals in
      let c_conditions = both-true (is_told e) (has_told_conditions s) h.conditions in
      (record { named = c_named.0; typed = c_typed.0; ordered = c_ordered.0; form = c_form.0; literals = c_literals.0; conditions = c_conditions.0 }, record { named = c_named.1; typed = c_typed.1; ordered = c_ordered.1; share = h.share; form = c_form.1; groups = h.groups; compounds = h.compounds; literals = c_literals.1; conditions = c_conditions.1 })

  while-set : (res : Option VType) (k : Key) (at : Place) (e : Expr) (s : Stmt) → Asked e → Set res s → Set res (While k at e s)
  while-set res k at e s c p = record {
    named = append-true (suits es) (uses_in e) (uses_of s) c.named p.named;
    typed = and-true (has_type es V.Flag e) (is_typed_in es res s) c.typed p.typed;
    ordered = and-true (folds_in_order e) (loops_in_order s) c.ordered p.ordered;
    share = p.share;
    form = and-true (is_phase_expr e) (is_phase_code es s) c.form p.form;
    groups = p.groups;
    compounds = p.compounds;
    literals = and-true (has_literals e) (all_exprs has_literals s) c.literals p.literals;
    conditions = and-true (is_told e) (has_told_conditions s) c.conditions p.conditions;
    apart = p.apart;
  }

  do-known : (res : Option VType) (k : Key) (at : Place) (e : Expr) (s : Stmt) → Known res (Do k at s e) → Asked e × Known res s
  do-known res k at e s h =
      let c_named = all-append (suits es) (uses_of s) (uses_in e) h.named in
      let c_typed = both-true (is_typed_in es res s) (has_type es V.Flag e) h.typed in
      let c_ordered = both-true (loops_in_order s) (folds_in_order e) h.ordered in
      let c_form = both-true (is_phase_code es s) (is_phase_expr e) h.form in
      let c_literals = both-true (all_exprs has_literals s) (has_literals e) h.literals in
      let c_conditions = both-true (has_told_conditions s) (is_told e) h.conditions in
      (record { named = c_named.1; typed = c_typed.1; ordered = c_ordered.1; form = c_form.1; literals = c_literals.1; conditions = c_conditions.1 }, record { named = c_named.0; typed = c_typed.0; ordered = c_ordered.0; share = h.share; form = c_form.0; groups = h.groups; compounds = h.compounds; literals = c_literals.0; conditions = c_conditions.0 })

  do-set : (res : Option VType) (k : Key) (at : Place) (e : Expr) (s : Stmt) → Asked e → Set res s → Set res (Do k at s e)
  do-set res k at e s c p = record {
    named = append-true (suits es) (uses_of s) (uses_in e) p.named c.named;
    typed = and-true (is_typed_in es res s) (has_type es V.Flag e) p.typed c.typed;
    ordered = and-true (loops_in_order s) (folds_in_order e) p.ordered c.ordered;
    share = p.share;
    form = and-true (is_phase_code es s) (is_phase_expr e) p.form c.form;
    groups = p.groups;
    compounds = p.compounds;
    literals = and-true (all_exprs has_literals s) (has_literals e) p.literals c.literals;
    conditions = and-true (has_told_conditions s) (is_told e) p.conditions c.conditions;
    apart = p.apart;
  }

  for-known : (res : Option VType) (k : Key) (at : Place) (hd : Head) (e : Expr) (s : Stmt) → Known res (For k at hd e s) → (list_all (suits es) (uses_of_head hd) ≡ true) × (is_nodes hd.domain ≡ true) × Asked e × Known res s
  for-known res k at hd e s h =
      let head = all-append (suits es) (uses_of_head hd) (uses_in e ++ uses_of s) h.named in
      let range = both-true (is_nodes hd.domain) (is_phase_expr e && is_phase_code es s) h.form in
      let c_named = all-append (suits es) (uses_in e) (uses_of s) head.1 in
      let c_typed = both-true (has_type es V.Flag e) (is_typed_in es res s) h.typed in
      let c_ordered = both-true (folds_in_order e) (loops_in_order s) h.ordered in
      let c_form = both-true (is_phase_expr e) (is_phase_code es s) range.1 in
      let c_literals = both-true (has_literals e) (all_exprs has_literals s) h.literals in
      let c_conditions = both-true (is_told e) (has_told_conditions s) h.conditions in
      (head.0, range.0, record { named = c_named.0; typed = c_typed.0; ordered = c_ordered.0; form = c_form.0; literals = c_literals.0; conditions = c_conditions.0 }, record { named = c_named.1; typed = c_typed.1; ordered = c_ordered.1; share = h.share; form = c_form.1; groups = h.groups; compounds = h.compounds; literals = c_literals.1; conditions = c_conditions.1 })

  for-set : (res : Option VType) (k : Key) (at : Place) (hd : Head) (e : Expr) (s : Stmt) → list_all (suits es) (uses_of_head hd) ≡ true → is_nodes hd.domain ≡ true → Asked e → Set res s → Set res (For k at hd e s)
  for-set res k at hd e s head range c p = record {
    named = append-true (suits es) (uses_of_head hd) (uses_in e ++ uses_of s) head (append-true (suits es) (uses_in e) (uses_of s) c.named p.named);
    typed = and-true (has_type es V.Flag e) (is_typed_in es res s) c.typed p.typed;
    ordered = and-true (folds_in_order e) (loops_in_order s) c.ordered p.ordered;
    share = p.share;
    form = and-true (is_nodes hd.domain) (is_phase_expr e && is_phase_code es s) range (and-true (is_phase_expr e) (is_phase_code es s) c.form p.form);
    groups = p.groups;
    compounds = p.compounds;
    literals = and-true (has_literals e) (all_exprs has_literals s) c.literals p.literals;
    conditions = and-true (is_told e) (has_told_conditions s) c.conditions p.conditions;
    apart = p.apart;
  }

  -- what stands as it is
  as-it-is : (res : Option VType) (s : Stmt) → Known res s → has_reads_apart s ≡ true → Set res s
  as-it-is res s h a = record { named = h.named; typed = h.typed; ordered = h.ordered; share = h.share; form = h.form; groups = h.groups; compounds = h.compounds; literals = h.literals; conditions = h.conditions; apart = a }

  single-told : (x : ℕ) (e : Expr) → is_told e ≡ true → is_single x e ≡ true
  single-told x e h = ap (λ b. b || is_read x e) h

  alone-told : (t : Target) (e : Expr) → is_told e ≡ true → stays_alone t e ≡ true
  alone-told (T.Scalar x at) e h = single-told x e h
  alone-told (T.Property x p at) e h = h

  told-typed : (t : VType) (e d : Expr) → Told e d → has_type es t e ≡ true → has_type es t d ≡ true
  told-typed t e d p h = ap (is_type t) p.typed ∙ h

  declare-sound : (res : Option VType) (k : Key) (x : ℕ) (e : Expr) → Known res (Declare k x (Some e)) → Sound e
  declare-sound res k x e h = record {
    named = (all-append (suits es) (use_as Written x) (uses_in e) h.named).1;
    typed = (type_at es x, is-type (type_at es x) (type_in es e) h.typed);
    folds = h.ordered;
    phase = (both-true (nat_eq (depth_at es x) 0) (is_phase_expr e) h.form).1;
    literals = h.literals;
  }

  declare-set : (res : Option VType) (k : Key) (x : ℕ) (e d : Expr) → Known res (Declare k x (Some e)) → Told e d → Set res (Declare k x (Some d))
  declare-set res k x e d h t = record {
    named = append-true (suits es) (use_as Written x) (uses_in d) (all-append (suits es) (use_as Written x) (uses_in e) h.named).0 t.named;
    typed = told-typed (type_at es x) e d t h.typed;
    ordered = t.folds;
    share = refl;
    form = and-true (nat_eq (depth_at es x) 0) (is_phase_expr d) (both-true (nat_eq (depth_at es x) 0) (is_phase_expr e) h.form).0 t.phase;
    groups = refl;
    compounds = refl;
    literals = t.literals;
    conditions = refl;
    apart = single-told x d t.told;
  }

  assign-sound : (res : Option VType) (k : Key) (g : Target) (e : Expr) → Known res (Assign k g e) → Sound e
  assign-sound res k g e h = record {
    named = (all-append (suits es) (uses_of_target g) (uses_in e) h.named).1;
    typed = (target_type es g, is-type (target_type es g) (type_in es e) h.typed);
    folds = h.ordered;
    phase = (both-true (is_within es 0 g) (is_phase_expr e) h.form).1;
    literals = h.literals;
  }

  assign-set : (res : Option VType) (k : Key) (g : Target) (e d : Expr) → Known res (Assign k g e) → Told e d → Set res (Assign k g d)
  assign-set res k g e d h t = record {
    named = append-true (suits es) (uses_of_target g) (uses_in d) (all-append (suits es) (uses_of_target g) (uses_in e) h.named).0 t.named;
    typed = told-typed (target_type es g) e d t h.typed;
    ordered = t.folds;
    share = refl;
    form = and-true (is_within es 0 g) (is_phase_expr d) (both-true (is_within es 0 g) (is_phase_expr e) h.form).0 t.phase;
    groups = refl;
    compounds = refl;
    literals = t.literals;
    conditions = refl;
    apart = alone-told g d t.told;
  }

  return-typed : (res : Option VType) (e : Expr) → returns_type es res (Some e) ≡ true → Typed e
  return-typed None e h = absurd (both_ways false refl h)
  return-typed (Some t) e h = (t, is-type t (type_in es e) h)

  return-told : (res : Option VType) (e d : Expr) → Told e d → returns_type es res (Some e) ≡ true → returns_type es res (Some d) ≡ true
  return-told None e d p h = h
  return-told (Some t) e d p h = told-typed t e d p h

  return-sound : (res : Option VType) (k : Key) (at : Place) (e : Expr) → Known res (Return k at (Some e)) → Sound e
  return-sound res k at e h = record { named = h.named; typed = return-typed res e h.typed; folds = h.ordered; phase = h.form; literals = h.literals }

  return-set : (res : Option VType) (k : Key) (at : Place) (e d : Expr) → Known res (Return k at (Some e)) → Told e d → Set res (Return k at (Some d))
  return-set res k at e d h t = record { named = t.named; typed = return-told res e d t h.typed; ordered = t.folds; share = refl; form = t.phase; groups = refl; compounds = refl; literals = t.literals; conditions = refl; apart = t.told }

  module _ (same : (x : ℕ) → x < length ds → variable_at es x ≡ variable_at ds x) (res : Option VType) where
    -- a statement after the reads of its expression, or as it is
    leaf-kept : (alone : Bool) (n : ℕ) (k : Key) (e : Expr) (s : Expr → Stmt) → length ds ≤ n → ReadsBelow (length ds) e → Placed n (types_unless alone ds e) → Sound e → ((d : Expr) → Told e d → Set res (s d)) → (alone ≡ true → Set res (s e)) → Set res (after_reads alone n k e s)
    leaf-kept true n k e s l b h sound change stay = stay refl
    leaf-kept false n k e s l b h sound change stay =
        let d = told_from n e in
        set-sequence res (reads_set n k e ++ (s d ∷ [])) (set-both res (reads_set n k e) (s d ∷ []) (reads-kept same res e n k l b h sound) (change d (told-kept same e n b h sound), tt))

    count-apart : (alone : Bool) (e : Expr) → length (types_unless alone ds e) ≡ count_unless alone e
    count-apart true e = refl
    count-apart false e = length-read ds e

    pub length-apart : (s : Stmt) → length (types_apart ds s) ≡ count_reads s
    length-apart (Then a b) = length-append (types_apart ds a) (types_apart ds b) ∙ ap (λ n. n + length (types_apart ds b)) (length-apart a) ∙ ap (λ n. count_reads a + n) (length-apart b)
    length-apart (Declare k x (Some e)) = count-apart (is_single x e) e
    length-apart (Assign k t e) = count-apart (stays_alone t e) e
    length-apart (For k at h e s) = length-apart s
    length-apart (If k e a b) = length-append (types_apart ds a) (types_apart ds b) ∙ ap (λ n. n + length (types_apart ds b)) (length-apart a) ∙ ap (λ n. count_reads a + n) (length-apart b)
    length-apart (While k at e s) = length-apart s
    length-apart (Do k at s e) = length-apart s
    length-apart (Return k at (Some e)) = count-apart (is_told e) e
    length-apart s = refl

    placed-parts : (n : ℕ) (a b : Stmt) → Placed n (types_apart ds a ++ types_apart ds b) → Placed n (types_apart ds a) × Placed (n + count_reads a) (types_apart ds b)
    placed-parts n a b h = let q = placed-both n (types_apart ds a) (types_apart ds b) h in (q.0, subst (λ m. Placed (n + m) (types_apart ds b)) (length-apart a) q.1)

    pub apart-kept : (s : Stmt) (n : ℕ) → length ds ≤ n → NamesBelow (length ds) s → Placed n (types_apart ds s) → Known res s → Set res (apart n s)
    apart-kept (Then a b) n l w h k =
        let p = placed-parts n a b h in
        let q = then-known res a b k in
        set-then res (apart n a) (apart (n + count_reads a) b) (apart-kept a n l w.0 p.0 q.0) (apart-kept b (n + count_reads a) (omega arith) w.1 p.1 q.1)
    apart-kept (Declare key x (Some e)) n l w h k = leaf-kept (is_single x e) n key e (λ d. Declare key x (Some d)) l w.1 h (declare-sound res key x e k) (λ d t. declare-set res key x e d k t) (λ a. as-it-is res (Declare key x (Some e)) k a)
    apart-kept (Assign key g e) n l w h k = leaf-kept (stays_alone g e) n key e (Assign key g) l w.1 h (assign-sound res key g e k) (λ d t. assign-set res key g e d k t) (λ a. as-it-is res (Assign key g e) k a)
    apart-kept (For key at hd e s) n l w h k = let q = for-known res key at hd e s k in for-set res key at hd e (apart n s) q.0 q.1 q.2 (apart-kept s n l w.3 h q.3)
    apart-kept (If key e a b) n l w h k =
        let p = placed-parts n a b h in
        let q = if-known res key e a b k in
        if-set res key e (apart n a) (apart (n + count_reads a) b) q.0 (apart-kept a n l w.1 p.0 q.1) (apart-kept b (n + count_reads a) (omega arith) w.2 p.1 q.2)
    apart-kept (While key at e s) n l w h k = let q = while-known res key at e s k in while-set res key at e (apart n s) q.0 (apart-kept s n l w.1 h q.1)
    apart-kept (Do key at s e) n l w h k = let q = do-known res key at e s k in do-set res key at e (apart n s) q.0 (apart-kept s n l w.0 h q.1)
    apart-kept (Return key at (Some e)) n l w h k = leaf-kept (is_told e) n key e (λ d. Return key at (Some d)) l w h (return-sound res key at e k) (λ d t. return-set res key at e d k t) (λ a. as-it-is res (Return key at (Some e)) k a)
    apart-kept s n l w h k = as-it-is res s k refl
