-- Reductions over all nodes, by the column of their elements.
use Rattle.std.proofs.Common.{◌≡◌, ◌∙◌, ◌<◌, ◌≤◌, ◌+◌, ℕ, suc, Bool, true, false, not, pos, List, [], ◌∷◌, length, map, drop, get_or, Result, Ok, refl, ap, sym, subst, arith}
use Rattle.std.proofs.lemmas.List.{drop_all}
use Rattle.std.specs.Int.{int_max, int_min}
use Rattle.std.specs.List.{list_any}
use Rattle.gm_value.specs.declared.reductions.Reduce.TheVariants.{And, Or}
use Rattle.gm_value.specs.declared.values.VType.TheVariants as types
use Rattle.gm_value.specs.declared.values.Value.{Value}
use Rattle.gm_value.specs.declared.values.Value.TheVariants.{Flag}
use Rattle.gm_value.specs.Numbers.{number_of}
use Rattle.gm_value.specs.Reductions.{total}
use Rattle.gm_value.specs.declared.totals.Total.TheVariants.{Small}
use Rattle.gm_value.specs.Totals.{AreNear, IsTotal}
use Rattle.gm_model.specs.Graphs.{Step}
use Rattle.gm_ast.specs.declared.surface.ReductionWord.{ReductionWord}
use Rattle.gm_ast.specs.declared.surface.ReductionWord.TheVariants.{All, Exist}
use Rattle.gm_ast.specs.declared.tree.Domain.TheVariants.{Nodes}
use Rattle.gm_ast.specs.declared.tree.Domain.{Domain}
use Rattle.gm_ast.specs.declared.tree.Fold.{Fold}
use Rattle.gm_ast.specs.declared.tree.Head.{Head}
use Rattle.gm_ast.specs.Program.{Expr, Folded}
use Rattle.gm_semantics.specs.declared.faults.Fault.{Fault}
use Rattle.gm_semantics.specs.Expressions.{Evaluated, View, closed, early, element, entered, evaluated, members_of, plain, reduction, settled, steps_of}
use Rattle.gm_semantics.specs.Faults.{errs, joined, least, oks, unless_fault}
use Rattle.gm_semantics.specs.Levels.{node_in, nodes, numbers_from}
use Rattle.gm_columns.specs.declared.cells.Cells.{Cells}
use Rattle.gm_columns.specs.Cells.{values_of}
use Rattle.gm_loops.specs.Columns.{IsColumn}
use Rattle.gm_loops.specs.Renewals.{PassesAll}
use Rattle.gm_loops.proofs.Elements.{passed-element}

-- behind the last value there is no member
pub no-members : (word : ReductionWord) (vs : List Value) (k : ℕ) → length vs ≤ k → joined (map (members_of word) (drop k vs)) ≡ []
no-members word vs k le = ap (λ (us : List Value). joined (map (members_of word) us)) (drop_all k vs le)

-- what is made of numbers is what is made of values, one by one
map-numbers : {B : Type 0} (g : ℕ → B) (h : Value → B) (a : ℕ) (vs : List Value) → ((k : ℕ) (d : Value) → k < length vs → g (a + k) ≡ h (get_or vs k d)) → map g (numbers_from a (length vs)) ≡ map h vs
map-numbers g h a [] same = refl
map-numbers g h a (v ∷ vs) same =
    let first : a + 0 ≡ a = omega arith in
    ap (λ b. b ∷ map g (numbers_from (suc a) (length vs))) (ap g (sym first) ∙ same 0 v (omega arith))
    ∙ ap (λ bs. h v ∷ bs) (map-numbers g h (suc a) vs (λ k d lt. let next : suc a + k ≡ a + suc k = omega arith in ap g next ∙ same (suc k) d (omega arith)))

map-map : {A B C : Type 0} (f : B → C) (g : A → B) (xs : List A) → map f (map g xs) ≡ map (λ x. f (g x)) xs
map-map f g [] = refl
map-map f g (x ∷ xs) = ap (λ ys. f (g x) ∷ ys) (map-map f g xs)

-- a reduction of which each element is a value
all-oks : (word : ReductionWord) (vs : List Value) → oks (map (λ (v : Value). let r : Result (List Value) Fault = Ok (members_of word v) in r) vs) ≡ map (members_of word) vs
all-oks word [] = refl
all-oks word (v ∷ vs) = ap (λ (l : List (List Value)). members_of word v ∷ l) (all-oks word vs)

no-errs : (word : ReductionWord) (vs : List Value) → errs (map (λ (v : Value). let r : Result (List Value) Fault = Ok (members_of word v) in r) vs) ≡ []
no-errs word [] = refl
no-errs word (v ∷ vs) = no-errs word vs

-- a reduction over all nodes that passes each is that of the column's values
pub column-folded : (f : Fold) (head : Head) (test e : Expr) (w : View) (cells : Cells) (v : Value) → head.domain ≡ Nodes → PassesAll test
    → IsColumn e (record w { parallel = true; key = f.body }) head.iterator cells → closed f (joined (map (members_of f.word) (values_of cells))) ≡ Ok v
    → evaluated (Folded f head test e) w ≡ plain (Ok v)
column-folded f head test e w cells v all passes column sum =
    ap early (ap (reduction f) same ∙ whole ∙ sum)
  where
    elem : Step → Result (List Value) Fault
    elem s = element f.word (settled (evaluated test (entered w head s f.filter))) (settled (evaluated e (entered w head s f.body)))

    given : Value → Result (List Value) Fault
    given u = Ok (members_of f.word u)

    at : ℕ → Step
    at n = record { node = n; edge = 0 }

    one : (k : ℕ) (d : Value) → k < length (values_of cells) → elem (at (0 + k)) ≡ given (get_or (values_of cells) k d)
    one k d lt =
        let start : 0 + k ≡ k = omega arith in
        ap (λ (m : ℕ). elem (at m)) start
        ∙ ap (λ (x : Evaluated). element f.word (settled x) (settled (evaluated e (entered w head (at k) f.body)))) (passes.found (entered w head (at k) f.filter))
        ∙ ap (λ (x : Evaluated). element f.word (Ok passes.value) (settled x)) (column.values k d (omega (arith, lt, column.full)))
        ∙ passed-element f.word passes.value (get_or (values_of cells) k d) passes.holds

    same : map elem (steps_of w head.domain (node_in w.graph (w.store.scalar head.owner))) ≡ map given (values_of cells)
    same =
        ap (λ (d : Domain). map elem (steps_of w d (node_in w.graph (w.store.scalar head.owner)))) all
        ∙ map-map elem at (nodes w.graph)
        ∙ ap (λ (n : ℕ). map (λ (k : ℕ). elem (at k)) (numbers_from 0 n)) (sym column.full)
        ∙ map-numbers (λ (k : ℕ). elem (at k)) given 0 (values_of cells) one

    whole : reduction f (map given (values_of cells)) ≡ closed f (joined (map (members_of f.word) (values_of cells)))
    whole =
        ap (λ (fs : List Fault). unless_fault (least fs) (closed f (joined (oks (map given (values_of cells)))))) (no-errs f.word (values_of cells))
        ∙ ap (λ (l : List (List Value)). closed f (joined l)) (all-oks f.word (values_of cells))

-- the total of an Exist, and that of an All, of truth values
pub near-flags : (bs : List Bool) → AreNear (map (λ b. Flag b) bs)
near-flags [] = tt
near-flags (true ∷ bs) = (omega arith, near-flags bs)
near-flags (false ∷ bs) = (omega arith, near-flags bs)

pub exist-total : (bs : List Bool) → number_of (Flag (list_any (λ b. b) bs)) ≡ total Or types.Flag (map (λ b. Flag b) bs)
exist-total [] = refl
exist-total (true ∷ bs) = by (list_any (λ b. b) bs) ∙ ap (int_max (pos 1)) (exist-total bs) where
  by : (a : Bool) → pos 1 ≡ int_max (pos 1) (number_of (Flag a))
  by true = refl
  by false = refl
exist-total (false ∷ bs) = by (list_any (λ b. b) bs) ∙ ap (int_max (pos 0)) (exist-total bs) where
  by : (a : Bool) → number_of (Flag a) ≡ int_max (pos 0) (number_of (Flag a))
  by true = refl
  by false = refl

pub all-total : (bs : List Bool) → number_of (Flag (not (list_any not bs))) ≡ total And types.Flag (map (λ b. Flag b) bs)
all-total [] = refl
all-total (true ∷ bs) = by (list_any not bs) ∙ ap (int_min (pos 1)) (all-total bs) where
  by : (a : Bool) → number_of (Flag (not a)) ≡ int_min (pos 1) (number_of (Flag (not a)))
  by true = refl
  by false = refl
all-total (false ∷ bs) = by (list_any not bs) ∙ ap (int_min (pos 0)) (all-total bs) where
  by : (a : Bool) → pos 0 ≡ int_min (pos 0) (number_of (Flag (not a)))
  by true = refl
  by false = refl

-- each value is a member
pub ones-joined : (vs : List Value) → joined (map (λ (v : Value). v ∷ []) vs) ≡ vs
ones-joined [] = refl
ones-joined (v ∷ vs) = ap (λ (l : List Value). v ∷ l) (ones-joined vs)

pub exist-is : (bs : List Bool) (b : Bool) → b ≡ list_any (λ b. b) bs → IsTotal Or types.Flag (Small (Flag b)) (joined (map (members_of Exist) (map (λ b. Flag b) bs)))
exist-is bs b e =
    subst (λ (bag : List Value). IsTotal Or types.Flag (Small (Flag b)) bag) (sym (ones-joined (map (λ b. Flag b) bs)))
    (near-flags bs, ap (λ (c : Bool). number_of (Flag c)) e ∙ exist-total bs)

pub all-is : (bs : List Bool) (b : Bool) → b ≡ list_any not bs → IsTotal And types.Flag (Small (Flag (not b))) (joined (map (members_of All) (map (λ b. Flag b) bs)))
all-is bs b e =
    subst (λ (bag : List Value). IsTotal And types.Flag (Small (Flag (not b))) bag) (sym (ones-joined (map (λ b. Flag b) bs)))
    (near-flags bs, ap (λ (c : Bool). number_of (Flag (not c))) e ∙ all-total bs)
