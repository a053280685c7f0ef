-- The term of an expression of a type has the type, where its leaves have the types of their variables.
use Rattle.std.proofs.Common.{◌≡◌, ℕ, Bool, true, false, Option, Some, None, List, refl, ap, ◌∙◌, sym, subst}
use Rattle.std.specs.Prelude.{◌&&◌}
use Rattle.std.proofs.lemmas.Bool.{both_ways, and_from}
use Rattle.gm_base.specs.declared.places.Place.{Place}
use Rattle.gm_value.specs.declared.values.VType.{VType}
use Rattle.gm_value.specs.declared.values.VType.TheVariants as V
use Rattle.gm_value.specs.declared.values.Value.{Value}
use Rattle.gm_value.specs.declared.values.Value.TheVariants.{I32, I64, Flag, At}
use Rattle.gm_value.specs.declared.operations.Op1.{Op1}
use Rattle.gm_value.specs.declared.operations.Op2.{Op2}
use Rattle.gm_value.specs.Numbers.{type_of, number_of, fits, zero_of}
use Rattle.gm_value.specs.declared.operations.Op1.TheVariants as one
use Rattle.gm_value.specs.Operations.{same_type, fits2, type1, type2}
use Rattle.gm_ast.specs.declared.tree.Declaration.{Declaration}
use Rattle.gm_ast.specs.declared.tree.Key.{Key}
use Rattle.gm_ast.specs.Program as S
use Rattle.gm_ast.specs.Program.{Expr}
use Rattle.gm_forms.proofs.Named.{both-true}
use Rattle.gm_forms.specs.Order.{can_fail1, can_fail2}
use Rattle.gm_forms.specs.Typing.{type_at, type_if, by_one, is_type, takes1, type_in, has_type}
use Rattle.gm_image.specs.Indices.{in_range, leaf_in_range}
use Rattle.gm_image.specs.Parts.{all_leaves, place_holds, all_places}
use Rattle.gm_image.specs.Program as image
use Rattle.gm_image.specs.Sorts.{takes, sort_of, sort_if, one_sort, two_sort, three_sort, unary_sort, binary_sort, logic_sort, choice_sort, live_sort}
use Rattle.gm_image.specs.Term as M
use Rattle.gm_image.specs.Term.{Term}
use Rattle.gm_lowering.specs.Terms.{Env, term, place_if}
use Rattle.gm_sound_lowering.specs.Asked.{is_plain_constant, is_plain}
use Rattle.gm_sound_lowering.specs.Types.{IsTerm as IsTermIn}

-- ---- types

pub same-itself : (t : VType) → same_type t t ≡ true
same-itself V.I32 = refl
same-itself V.I64 = refl
same-itself V.Flag = refl
same-itself V.Node = refl

pub same-is : (t u : VType) → same_type t u ≡ true → t ≡ u
same-is V.I32 V.I32 h = refl
same-is V.I64 V.I64 h = refl
same-is V.Flag V.Flag h = refl
same-is V.Node V.Node h = refl
same-is V.I32 V.I64 h = absurd (both_ways false refl h)
same-is V.I32 V.Flag h = absurd (both_ways false refl h)
same-is V.I32 V.Node h = absurd (both_ways false refl h)
same-is V.I64 V.I32 h = absurd (both_ways false refl h)
same-is V.I64 V.Flag h = absurd (both_ways false refl h)
same-is V.I64 V.Node h = absurd (both_ways false refl h)
same-is V.Flag V.I32 h = absurd (both_ways false refl h)
same-is V.Flag V.I64 h = absurd (both_ways false refl h)
same-is V.Flag V.Node h = absurd (both_ways false refl h)
same-is V.Node V.I32 h = absurd (both_ways false refl h)
same-is V.Node V.I64 h = absurd (both_ways false refl h)
same-is V.Node V.Flag h = absurd (both_ways false refl h)

pub type-is : (t : VType) (o : Option VType) → is_type t o ≡ true → o ≡ Some t
type-is t None h = absurd (both_ways false refl h)
type-is t (Some u) h = ap Some (sym (same-is t u h))

if-some : (b : Bool) (u t : VType) → type_if b u ≡ Some t → (b ≡ true) × (u ≡ t)
if-some true u t h = (refl, cc)
if-some false u t h = cc

-- an operation takes the same types in a tree and in an image
takes-alike : (op : Op1) (t : VType) → takes op t ≡ takes1 op t
takes-alike one.Neg t = refl
takes-alike one.Not t = refl
takes-alike one.ToI32 t = refl
takes-alike one.ToI64 t = refl

-- ---- terms

module _ (p : image.Program) (kind : Option ℕ) (stands : Term → Bool) where
  abbrev IsTerm : VType → Term → Type 0
  IsTerm = IsTermIn p kind stands

  -- a place is in range, where there is one
  abbrev pub HasPlace : Bool → ℕ → Type 0
  HasPlace true n = in_range p.places n ≡ true
  HasPlace false n = Unit {0}

  has-place : (b : Bool) (n : ℕ) → HasPlace b n → place_holds (in_range p.places) (place_if b n) ≡ true
  has-place true n h = h
  has-place false n h = refl

  -- an environment tells the leaves of an expression, whose operators have a key
  module _ (ds : List Declaration) (v : Env) (k : Key) where
    abbrev pub Tells : Expr → Type 0
    Tells (S.Const c) = Unit {0}
    Tells (S.Var x at) = IsTerm (type_at ds x) (v.scalar x)
    Tells (S.Property x q at) = IsTerm (type_at ds q) (v.property x q)
    Tells (S.EdgeProperty x q at) = IsTerm (type_at ds q) (v.edge q)
    Tells (S.Degree d x at) = IsTerm V.I32 (v.degree d x)
    Tells S.NodeCount = Unit {0}
    Tells S.EdgeCount = Unit {0}
    Tells (S.Live x at) = IsTerm V.Node (v.scalar x) × (in_range p.places (v.place k at) ≡ true)
    Tells (S.Unary op at a) = HasPlace (can_fail1 op) (v.place k at) × Tells a
    Tells (S.Binary op at a b) = HasPlace (can_fail2 op) (v.place k at) × Tells a × Tells b
    Tells (S.Both a b) = Tells a × Tells b
    Tells (S.Either a b) = Tells a × Tells b
    Tells (S.Choose c a b) = Tells c × Tells a × Tells b
    Tells (S.Folded f h c a) = ⊥

  module _ (consts : (v : Value) → stands (M.Const v) ≡ true) (nodes : stands M.NodeCount ≡ true) (edges : stands M.EdgeCount ≡ true) where
    pub const-is : (c : Value) → is_plain_constant c ≡ true → IsTerm (type_of c) (M.Const c)
    const-is (I32 z) h = record { sort = refl; leaves = refl; places = refl; leaf = consts (I32 z) }
    const-is (I64 z) h = record { sort = refl; leaves = refl; places = refl; leaf = consts (I64 z) }
    const-is (Flag b) h = record { sort = refl; leaves = refl; places = refl; leaf = consts (Flag b) }
    const-is (At None) h = record { sort = refl; leaves = refl; places = refl; leaf = consts (At None) }
    const-is (At (Some n)) h = absurd (both_ways false refl h)

    pub zero-is : (t : VType) → IsTerm t (M.Const (zero_of t))
    zero-is V.I32 = const-is (zero_of V.I32) refl
    zero-is V.I64 = const-is (zero_of V.I64) refl
    zero-is V.Flag = const-is (zero_of V.Flag) refl
    zero-is V.Node = const-is (zero_of V.Node) refl

    pub unary-is : (op : Op1) (place : Option ℕ) (t : VType) (a : Term) → takes op t ≡ true → place_holds (in_range p.places) place ≡ true → IsTerm t a → IsTerm (type1 op t) (M.Unary op place a)
    unary-is op place t a h q x = record {
      sort = ap (one_sort (unary_sort op)) x.sort ∙ ap (λ b. sort_if b (type1 op t)) h;
      leaves = x.leaves;
      places = and_from (place_holds (in_range p.places) place) (all_places (in_range p.places) a) q x.places;
      leaf = x.leaf;
    }

    pub binary-is : (op : Op2) (place : Option ℕ) (t u : VType) (a b : Term) → fits2 op t u ≡ true → place_holds (in_range p.places) place ≡ true → IsTerm t a → IsTerm u b → IsTerm (type2 op t) (M.Binary op place a b)
    binary-is op place t u a b h q x y = record {
      sort = ap (λ s. two_sort (binary_sort op) s (sort_of p kind b)) x.sort ∙ ap (one_sort (binary_sort op t)) y.sort ∙ ap (λ b. sort_if b (type2 op t)) h;
      leaves = and_from (all_leaves (leaf_in_range p kind) a) (all_leaves (leaf_in_range p kind) b) x.leaves y.leaves;
      places = and_from (place_holds (in_range p.places) place && all_places (in_range p.places) a) (all_places (in_range p.places) b) (and_from (place_holds (in_range p.places) place) (all_places (in_range p.places) a) q x.places) y.places;
      leaf = and_from (all_leaves stands a) (all_leaves stands b) x.leaf y.leaf;
    }

    pub both-is : (a b : Term) → IsTerm V.Flag a → IsTerm V.Flag b → IsTerm V.Flag (M.And a b)
    both-is a b x y = record {
      sort = ap (λ s. two_sort logic_sort s (sort_of p kind b)) x.sort ∙ ap (one_sort (logic_sort V.Flag)) y.sort;
      leaves = and_from (all_leaves (leaf_in_range p kind) a) (all_leaves (leaf_in_range p kind) b) x.leaves y.leaves;
      places = and_from (all_places (in_range p.places) a) (all_places (in_range p.places) b) x.places y.places;
      leaf = and_from (all_leaves stands a) (all_leaves stands b) x.leaf y.leaf;
    }

    pub either-is : (a b : Term) → IsTerm V.Flag a → IsTerm V.Flag b → IsTerm V.Flag (M.Or a b)
    either-is a b x y = record {
      sort = ap (λ s. two_sort logic_sort s (sort_of p kind b)) x.sort ∙ ap (one_sort (logic_sort V.Flag)) y.sort;
      leaves = and_from (all_leaves (leaf_in_range p kind) a) (all_leaves (leaf_in_range p kind) b) x.leaves y.leaves;
      places = and_from (all_places (in_range p.places) a) (all_places (in_range p.places) b) x.places y.places;
      leaf = and_from (all_leaves stands a) (all_leaves stands b) x.leaf y.leaf;
    }

    pub choice-is : (t : VType) (c a b : Term) → IsTerm V.Flag c → IsTerm t a → IsTerm t b → IsTerm t (M.Choose c a b)
    choice-is t c a b z x y = record {
      sort = ap (λ s. three_sort choice_sort s (sort_of p kind a) (sort_of p kind b)) z.sort ∙ ap (λ s. two_sort (choice_sort V.Flag) s (sort_of p kind b)) x.sort
          ∙ ap (one_sort (choice_sort V.Flag t)) y.sort ∙ ap (λ b. sort_if b t) (same-itself t);
      leaves = and_from (all_leaves (leaf_in_range p kind) c && all_leaves (leaf_in_range p kind) a) (all_leaves (leaf_in_range p kind) b) (and_from (all_leaves (leaf_in_range p kind) c) (all_leaves (leaf_in_range p kind) a) z.leaves x.leaves) y.leaves;
      places = and_from (all_places (in_range p.places) c && all_places (in_range p.places) a) (all_places (in_range p.places) b) (and_from (all_places (in_range p.places) c) (all_places (in_range p.places) a) z.places x.places) y.places;
      leaf = and_from (all_leaves stands c && all_leaves stands a) (all_leaves stands b) (and_from (all_leaves stands c) (all_leaves stands a) z.leaf x.leaf) y.leaf;
    }

    pub live-is : (place : ℕ) (a : Term) → in_range p.places place ≡ true → IsTerm V.Node a → IsTerm V.Node (M.Live place a)
    live-is place a h x = record {
      sort = ap (one_sort live_sort) x.sort;
      leaves = x.leaves;
      places = and_from (in_range p.places place) (all_places (in_range p.places) a) h x.places;
      leaf = x.leaf;
    }

    pub count-is : IsTerm V.I32 M.NodeCount
    count-is = record { sort = refl; leaves = refl; places = refl; leaf = nodes }

    pub edge-count-is : IsTerm V.I32 M.EdgeCount
    edge-count-is = record { sort = refl; leaves = refl; places = refl; leaf = edges }

    module _ (ds : List Declaration) (v : Env) (k : Key) where
      pub term-is : (e : Expr) (t : VType) → type_in ds e ≡ Some t → is_plain ds e ≡ true → Tells ds v k e → IsTerm t (term v k e)
      term-is (S.Const c) t h q o = let i = if-some (fits (type_of c) (number_of c)) (type_of c) t h in subst (λ u. IsTerm u (M.Const c)) i.1 (const-is c q)
      term-is (S.Var x at) t h q o = subst (λ u. IsTerm u (v.scalar x)) (let e : type_at ds x ≡ t = cc in e) o
      term-is (S.Property x y at) t h q o = subst (λ u. IsTerm u (v.property x y)) (let e : type_at ds y ≡ t = cc in e) o
      term-is (S.EdgeProperty x y at) t h q o = subst (λ u. IsTerm u (v.edge y)) (let e : type_at ds y ≡ t = cc in e) o
      term-is (S.Degree d x at) t h q o = subst (λ u. IsTerm u (v.degree d x)) (let e : V.I32 ≡ t = cc in e) o
      term-is S.NodeCount t h q o = subst (λ u. IsTerm u M.NodeCount) (let e : V.I32 ≡ t = cc in e) count-is
      term-is S.EdgeCount t h q o = subst (λ u. IsTerm u M.EdgeCount) (let e : V.I32 ≡ t = cc in e) edge-count-is
      term-is (S.Live x at) t h q o = subst (λ u. IsTerm u (M.Live (v.place k at) (v.scalar x))) (let e : V.Node ≡ t = cc in e) (live-is (v.place k at) (v.scalar x) o.1 o.0)
      term-is (S.Unary op at a) t h q o =
          by op at a t o.0 (λ u e. term-is a u e q o.1) (type_in ds a) refl h where
            by : (op : Op1) (at : Place) (a : Expr) (t : VType) → HasPlace (can_fail1 op) (v.place k at) → ((u : VType) → type_in ds a ≡ Some u → IsTerm u (term v k a))
                → (u : Option VType) → type_in ds a ≡ u → by_one u (λ t. type_if (takes1 op t) (type1 op t)) ≡ Some t → IsTerm t (M.Unary op (place_if (can_fail1 op) (v.place k at)) (term v k a))
            by op at a t place ih None e i = cc
            by op at a t place ih (Some u) e i =
                let j = if-some (takes1 op u) (type1 op u) t i in
                subst (λ s. IsTerm s (M.Unary op (place_if (can_fail1 op) (v.place k at)) (term v k a))) j.1
                (unary-is op (place_if (can_fail1 op) (v.place k at)) u (term v k a) (takes-alike op u ∙ j.0) (has-place (can_fail1 op) (v.place k at) place) (ih u e))
      term-is (S.Binary op at a b) t h q o =
          let r = both-true (is_plain ds a) (is_plain ds b) q in by op at a b t o.0 (λ u e. term-is a u e r.0 o.1) (λ u e. term-is b u e r.1 o.2) (type_in ds a) (type_in ds b) refl refl h where
            by : (op : Op2) (at : Place) (a b : Expr) (t : VType) → HasPlace (can_fail2 op) (v.place k at) → ((u : VType) → type_in ds a ≡ Some u → IsTerm u (term v k a)) → ((u : VType) → type_in ds b ≡ Some u → IsTerm u (term v k b))
                → (u w : Option VType) → type_in ds a ≡ u → type_in ds b ≡ w → by_one u (λ t. by_one w (λ u. type_if (fits2 op t u) (type2 op t))) ≡ Some t
                → IsTerm t (M.Binary op (place_if (can_fail2 op) (v.place k at)) (term v k a) (term v k b))
            by op at a b t place ih jh None w e f i = cc
            by op at a b t place ih jh (Some u) None e f i = cc
            by op at a b t place ih jh (Some u) (Some w) e f i =
                let j = if-some (fits2 op u w) (type2 op u) t i in
                subst (λ s. IsTerm s (M.Binary op (place_if (can_fail2 op) (v.place k at)) (term v k a) (term v k b))) j.1
                (binary-is op (place_if (can_fail2 op) (v.place k at)) u w (term v k a) (term v k b) j.0 (has-place (can_fail2 op) (v.place k at) place) (ih u e) (jh w f))
      term-is (S.Both a b) t h q o =
          let i = if-some (is_type V.Flag (type_in ds a) && is_type V.Flag (type_in ds b)) V.Flag t h in
          let f = both-true (is_type V.Flag (type_in ds a)) (is_type V.Flag (type_in ds b)) i.0 in
          let r = both-true (is_plain ds a) (is_plain ds b) q in
          subst (λ s. IsTerm s (M.And (term v k a) (term v k b))) i.1
          (both-is (term v k a) (term v k b) (term-is a V.Flag (type-is V.Flag (type_in ds a) f.0) r.0 o.0) (term-is b V.Flag (type-is V.Flag (type_in ds b) f.1) r.1 o.1))
      term-is (S.Either a b) t h q o =
          let i = if-some (is_type V.Flag (type_in ds a) && is_type V.Flag (type_in ds b)) V.Flag t h in
          let f = both-true (is_type V.Flag (type_in ds a)) (is_type V.Flag (type_in ds b)) i.0 in
          let r = both-true (is_plain ds a) (is_plain ds b) q in
          subst (λ s. IsTerm s (M.Or (term v k a) (term v k b))) i.1
          (either-is (term v k a) (term v k b) (term-is a V.Flag (type-is V.Flag (type_in ds a) f.0) r.0 o.0) (term-is b V.Flag (type-is V.Flag (type_in ds b) f.1) r.1 o.1))
      term-is (S.Choose c a b) t h q o =
          let r = both-true (is_plain ds c) (is_plain ds a && is_plain ds b) q in
          let z = both-true (is_plain ds a) (is_plain ds b) r.1 in
          by c a b t (λ e. term-is c V.Flag e r.0 o.0) (λ u e. term-is a u e z.0 o.1) (λ u e. term-is b u e z.1 o.2) (type_in ds a) refl h where
            by : (c a b : Expr) (t : VType) → (type_in ds c ≡ Some V.Flag → IsTerm V.Flag (term v k c)) → ((u : VType) → type_in ds a ≡ Some u → IsTerm u (term v k a)) → ((u : VType) → type_in ds b ≡ Some u → IsTerm u (term v k b))
                → (u : Option VType) → type_in ds a ≡ u → by_one u (λ t. type_if (is_type V.Flag (type_in ds c) && is_type t (type_in ds b)) t) ≡ Some t → IsTerm t (M.Choose (term v k c) (term v k a) (term v k b))
            by c a b t ch ih jh None e i = cc
            by c a b t ch ih jh (Some u) e i =
                let j = if-some (is_type V.Flag (type_in ds c) && is_type u (type_in ds b)) u t i in
                let f = both-true (is_type V.Flag (type_in ds c)) (is_type u (type_in ds b)) j.0 in
                subst (λ s. IsTerm s (M.Choose (term v k c) (term v k a) (term v k b))) j.1
                (choice-is u (term v k c) (term v k a) (term v k b) (ch (type-is V.Flag (type_in ds c) f.0)) (ih u e) (jh u (type-is u (type_in ds b) f.1)))
      term-is (S.Folded f head c a) t h q o = absurd o

      -- an expression that must have a type
      pub typed-is : (e : Expr) (t : VType) → has_type ds t e ≡ true → is_plain ds e ≡ true → Tells ds v k e → IsTerm t (term v k e)
      typed-is e t h q o = term-is e t (type-is t (type_in ds e) h) q o
