-- What the rule of folds asks of lines: outside of eaches and handlers nothing, and of terms that they read no field of some.
use Rattle.std.proofs.Common.{◌≡◌, ◌<◌, ℕ, zero, suc, map, arith, false, Bool, true, None, List, [], ◌∷◌, ◌++◌, refl, ap}
use Rattle.std.specs.Prelude.{◌&&◌, ◌==◌, not, nat_eq, slice_get}
use Rattle.std.specs.List.{list_any}
use Rattle.std.proofs.lemmas.Bool.{and_from, or_from, ne_eqb}
use Rattle.gm_value.specs.declared.values.Value.{Value}
use Rattle.gm_value.specs.declared.values.Value.TheVariants.{At}
use Rattle.gm_ast.specs.declared.tree.Direction.{Direction}
use Rattle.gm_ast.specs.declared.tree.Key.{Key}
use Rattle.gm_ast.specs.Program as S
use Rattle.gm_ast.specs.Program.{Expr}
use Rattle.gm_forms.specs.Sharing.{Read, reads_in}
use Rattle.gm_typed_stores.specs.Values.{Each}
use Rattle.gm_image.specs.Folds.{handles, of_other_kinds, Reduction, same_as_first, is_the_one, folds_one_way, is_none_of, reads_none, sets_none, line_folds}
use Rattle.gm_image.specs.Parts.{all_leaves, line_terms, slots_of}
use Rattle.gm_image.specs.Program.{Handler, Line, SetField, Fold, SetRegister, Put, Send, Skip, Each as EachLine}
use Rattle.gm_image.specs.Term as M
use Rattle.gm_image.specs.Term.{Term}
use Rattle.gm_lowering.specs.Lowered.{kind_of}
use Rattle.gm_lowering.specs.Plans.{KindPlan}
use Rattle.gm_lowering.specs.Terms.{Env, term}
use Rattle.gm_sound_lowering.proofs.BlockRows.{flat_at}
use Rattle.gm_sound_lowering.proofs.Leaves.{each-both}
use Rattle.gm_sound_lowering.proofs.Rowwise.{all-always}

-- ---- outside of eaches and handlers

pub no-leaf : (a : Term) → all_leaves (is_none_of []) a ≡ true
no-leaf (M.Const v) = refl
no-leaf (M.Global g) = refl
no-leaf M.NodeCount = refl
no-leaf M.EdgeCount = refl
no-leaf (M.Field f) = refl
no-leaf M.Self = refl
no-leaf M.OutDegree = refl
no-leaf M.InDegree = refl
no-leaf (M.Register r) = refl
no-leaf (M.Message i) = refl
no-leaf M.Neighbour = refl
no-leaf (M.Column w) = refl
no-leaf (M.NodeAt a) = no-leaf a
no-leaf (M.Live p a) = no-leaf a
no-leaf (M.Unary op p a) = no-leaf a
no-leaf (M.Binary op p a b) = and_from (all_leaves (is_none_of []) a) (all_leaves (is_none_of []) b) (no-leaf a) (no-leaf b)
no-leaf (M.And a b) = and_from (all_leaves (is_none_of []) a) (all_leaves (is_none_of []) b) (no-leaf a) (no-leaf b)
no-leaf (M.Or a b) = and_from (all_leaves (is_none_of []) a) (all_leaves (is_none_of []) b) (no-leaf a) (no-leaf b)
no-leaf (M.Choose c a b) =
    and_from (all_leaves (is_none_of []) c && all_leaves (is_none_of []) a) (all_leaves (is_none_of []) b) (and_from (all_leaves (is_none_of []) c) (all_leaves (is_none_of []) a) (no-leaf c) (no-leaf a)) (no-leaf b)

-- the first reduction of all is the one of its slots
is-first : (r : Reduction) → is_the_one [] r ≡ true
is-first r = all-always (λ i. same_as_first r None) (λ i. refl) r.slots

folds-first : (l : Line) → folds_one_way [] l ≡ true
folds-first (Fold r q ts) =
    let x : Reduction = record { reduce = r; slots = slots_of ts } in and_from (is_the_one [] x) true (is-first x) refl
folds-first (SetField g a) = refl
folds-first (SetRegister r a) = refl
folds-first (Put r q ts) = refl
folds-first (Send k to vs) = refl
folds-first (Skip n a) = refl
folds-first (EachLine d n) = refl

sets-nothing : (l : Line) → sets_none [] l ≡ true
sets-nothing (SetField g a) = refl
sets-nothing (Fold r q ts) = refl
sets-nothing (SetRegister r a) = refl
sets-nothing (Put r q ts) = refl
sets-nothing (Send k to vs) = refl
sets-nothing (Skip n a) = refl
sets-nothing (EachLine d n) = refl

pub flat-folds : (before earlier later : List Line) (l : Line) → line_folds (flat_at before earlier later) l ≡ true
flat-folds before earlier later l =
    and_from ((true && folds_one_way [] l) && reads_none [] l) (sets_none [] l)
    (and_from (true && folds_one_way [] l) (reads_none [] l) (folds-first l) (all-always (all_leaves (is_none_of [])) no-leaf (line_terms l))) (sets-nothing l)

-- ---- handlers

-- no kind of a plan has a combiner, so its handlers are free
pub plans-handle : (ks : List KindPlan) (k : ℕ) (ls : List Line) → handles (slice_get (map kind_of ks) k) ls ≡ true
plans-handle [] k ls = refl
plans-handle (x ∷ ks) zero ls = refl
plans-handle (x ∷ ks) (suc k) ls = plans-handle ks k ls

-- handlers of lesser kinds are of other kinds
pub lesser-kinds : (k : ℕ) (hs : List Handler) → Each (λ h. h.kind < k) hs → of_other_kinds k hs ≡ true
lesser-kinds k hs h = ap not (none hs h) where
  none : (hs : List Handler) → Each (λ h. h.kind < k) hs → list_any (λ h. h.kind == k) hs ≡ false
  none [] h = refl
  none (x ∷ hs) h = let lt = h.0 in or_from (nat_eq x.kind k) (list_any (λ h. h.kind == k) hs) (ne_eqb x.kind k (λ e. absurd (omega (arith, e, lt)))) (none hs h.1)

-- ---- terms that read no field of some

module _ (g : Term → Bool) (consts : (v : Value) → g (M.Const v) ≡ true) (nodes : g M.NodeCount ≡ true) (edges : g M.EdgeCount ≡ true) (v : Env)
    (scalar : (x : ℕ) → all_leaves g (v.scalar x) ≡ true) (edge : (q : ℕ) → all_leaves g (v.edge q) ≡ true) (degree : (d : Direction) (x : ℕ) → all_leaves g (v.degree d x) ≡ true) where
  -- a test of leaves holds of what is read of a property
  abbrev pub IsClean : Read → Type 0
  IsClean r = all_leaves g (v.property r.owner r.property) ≡ true

  -- so it holds of the leaves of an expression's term
  pub term-clean : (k : Key) (e : Expr) → Each IsClean (reads_in e) → all_leaves g (term v k e) ≡ true
  term-clean k (S.Const c) h = consts c
  term-clean k (S.Var x at) h = scalar x
  term-clean k (S.Property x q at) h = h.0
  term-clean k (S.EdgeProperty x q at) h = edge q
  term-clean k (S.Degree d x at) h = degree d x
  term-clean k S.NodeCount h = nodes
  term-clean k S.EdgeCount h = edges
  term-clean k (S.Live x at) h = scalar x
  term-clean k (S.Unary op at a) h = term-clean k a h
  term-clean k (S.Binary op at a b) h = let r = each-both IsClean (reads_in a) (reads_in b) h in and_from (all_leaves g (term v k a)) (all_leaves g (term v k b)) (term-clean k a r.0) (term-clean k b r.1)
  term-clean k (S.Both a b) h = let r = each-both IsClean (reads_in a) (reads_in b) h in and_from (all_leaves g (term v k a)) (all_leaves g (term v k b)) (term-clean k a r.0) (term-clean k b r.1)
  term-clean k (S.Either a b) h = let r = each-both IsClean (reads_in a) (reads_in b) h in and_from (all_leaves g (term v k a)) (all_leaves g (term v k b)) (term-clean k a r.0) (term-clean k b r.1)
  term-clean k (S.Choose c a b) h =
      let r = each-both IsClean (reads_in c) (reads_in a ++ reads_in b) h in
      let s = each-both IsClean (reads_in a) (reads_in b) r.1 in
      and_from (all_leaves g (term v k c) && all_leaves g (term v k a)) (all_leaves g (term v k b)) (and_from (all_leaves g (term v k c)) (all_leaves g (term v k a)) (term-clean k c r.0) (term-clean k a s.0)) (term-clean k b s.1)
  term-clean k (S.Folded fold h c a) r = consts (At None)
