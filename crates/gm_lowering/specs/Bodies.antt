-- Bodies of loops as lines of a vertex.
use Rattle.std.specs.Prelude.{ℕ, suc, ◌+◌, Bool, true, false, if◌then◌else◌, None, List, [], ◌∷◌, ◌++◌, length, map}
use Rattle.gm_value.specs.declared.values.VType.{VType}
use Rattle.gm_value.specs.declared.values.VType.TheVariants as V
use Rattle.gm_value.specs.declared.values.Value.TheVariants.{Flag}
use Rattle.gm_value.specs.declared.operations.Op1.TheVariants as one
use Rattle.gm_value.specs.declared.operations.Op2.{Op2}
use Rattle.gm_value.specs.declared.operations.Op2.TheVariants as two
use Rattle.gm_value.specs.declared.reductions.Reduce.{Reduce}
use Rattle.gm_value.specs.declared.reductions.Reduce.TheVariants as reduce
use Rattle.gm_value.specs.Numbers.{zero_of}
use Rattle.gm_ast.specs.declared.tree.Key.{Key}
use Rattle.gm_ast.specs.declared.tree.Target.{Target}
use Rattle.gm_ast.specs.declared.tree.Target.TheVariants as T
use Rattle.gm_ast.specs.declared.tree.TotalKey.{TotalKey}
use Rattle.gm_ast.specs.Program.{Stmt, Then, Declare, Assign, Combine, If}
use Rattle.gm_ast.specs.Ways.{is_in}
use Rattle.gm_forms.specs.Typing.{type_at, target_type}
use Rattle.gm_image.specs.Term as M
use Rattle.gm_image.specs.Term.{Term}
use Rattle.gm_image.specs.Program.{Line, SetField, Fold, SetRegister, Put, Send}
use Rattle.gm_image.specs.Program as image
use Rattle.gm_lowering.specs.Layouts.{Layout}
use Rattle.gm_lowering.specs.Places.{Spot, spot_at, spot_of_total, spots_in, spots_in_all, spots_in_option}
use Rattle.gm_lowering.specs.Terms.{Env, term, term_or_zero}
use Rattle.gm_lowering.specs.Plans.{Way, Puts, Folds, Sends, Picks, way_of, aways}

-- where a body is evaluated: how its expressions are found, the node's iterator, the iterators around, whose nodes are never NIL, and whether it stands in no inner loop, so that what it reduces to its node's properties is taken at once
pub record Site : Type 0 where
  pub layout : Layout
  pub env : Env
  pub node : ℕ
  pub iterators : List ℕ
  pub at_once : Bool

-- lines under a condition, which is left out where it always holds
abbrev pub under : Term → List Line → List Line
under (M.Const (Flag true)) ls = ls
under t ls = image.Skip (length ls) t ∷ ls

-- lines behind those of the first way, which are skipped after it
abbrev pub else_lines : List Line → List Line
else_lines [] = []
else_lines (l ∷ ls) = image.Skip (length (l ∷ ls)) (M.Const (Flag false)) ∷ (l ∷ ls)

-- the lines of a choice
abbrev pub choice_by : Term → List Line → List Line → List Line
choice_by t a [] = image.Skip (length a) t ∷ a
choice_by t a (l ∷ ls) = image.Skip (suc (length a)) t ∷ (a ++ else_lines (l ∷ ls))

-- a line that sets a target
abbrev pub set_line : Layout → Target → Term → Line
set_line c (T.Scalar x at) t = SetRegister (c.register x) t
set_line c (T.Property x p at) t = SetField (c.field p) t

-- what a target holds
abbrev pub held_term : Env → Target → Term
held_term v (T.Scalar x at) = v.scalar x
held_term v (T.Property x p at) = v.property x p

-- the operator by which a value is better than the held one
abbrev pub better : Reduce → Op2
better reduce.Max = two.Gt
better _ = two.Lt

abbrev pub compared : Op2 → Term → Term → Term
compared op a b = M.Binary op None a b

-- whether a tuple of values takes the place of held ones: the first comparison is the reduction's, and the others are by the least
abbrev pub replacing : Op2 → List (Term × Term) → Term
replacing op [] = M.Const (Flag false)
replacing op (p ∷ []) = compared op p.0 p.1
replacing op (p ∷ (q ∷ ps)) =
    M.Or (compared op p.0 p.1) (M.And (M.Unary one.Not None (compared op p.1 p.0)) (replacing two.Lt (q ∷ ps)))

-- how tuples are kept by lines of a sort: how a target is set and what it holds, and how a spare slot is set and read
pub record Keeping (L : Type 0) : Type 0 where
  pub set : Target → Term → L
  pub held : Target → Term
  pub save : ℕ → VType → Term → L
  pub saved : ℕ → VType → Term

-- a value's line into its spare slot, and a target's line that takes it where the tuple is better
abbrev pub save_lines : {L : Type 0} → Keeping L → ℕ → List (VType × Term) → List L
save_lines s i [] = []
save_lines s i (v ∷ vs) = s.save i v.0 v.1 ∷ save_lines s (suc i) vs

abbrev pub take_lines : {L : Type 0} → Keeping L → Term → ℕ → List (VType × Target) → List L
take_lines s better i [] = []
take_lines s better i (t ∷ ts) = s.set t.1 (M.Choose better (s.saved i t.0) (s.held t.1)) ∷ take_lines s better (suc i) ts

-- what is held and what was saved, target by target
abbrev pub saved_pairs : {L : Type 0} → Keeping L → ℕ → List (VType × Target) → List (Term × Term)
saved_pairs s i [] = []
saved_pairs s i (t ∷ ts) = (s.saved i t.0, s.held t.1) ∷ saved_pairs s (suc i) ts

-- two lists side by side
abbrev pub paired : {A B : Type 0} → List A → List B → List (A × B)
paired (x ∷ xs) (y ∷ ys) = (x, y) ∷ paired xs ys
paired _ _ = []

-- the lines that keep the better tuple at once: of one value by a choice; of several by their spare slots, and by one more for whether they are better
abbrev pub kept_lines : {L : Type 0} → Keeping L → Reduce → List (VType × Target) → List Term → List L
kept_lines s r (t ∷ []) (a ∷ []) = s.set t.1 (M.Choose (compared (better r) a (s.held t.1)) a (s.held t.1)) ∷ []
kept_lines s r ts values =
    let types = map (λ t. t.0) ts in
    let n = length ts in
    save_lines s 0 (paired types values)
    ++ (s.save n V.Flag (replacing (better r) (saved_pairs s 0 ts)) ∷ take_lines s (s.saved n V.Flag) 0 ts)

-- targets with their types
abbrev pub with_types : Layout → List Target → List (VType × Target)
with_types c ts = map (λ t. (target_type c.declarations t, t)) ts

-- at a vertex, tuples are kept by registers
abbrev pub keeping : Site → Keeping Line
keeping s = record {
  set = set_line s.layout;
  held = held_term s.env;
  save = λ i t a. SetRegister (s.layout.spare_register i t) a;
  saved = λ i t. M.Register (s.layout.spare_register i t);
}

-- the number of a target's slot
abbrev pub slot_number : Layout → Target → ℕ
slot_number c (T.Scalar x at) = c.global x
slot_number c (T.Property x p at) = c.field p

-- slots with their values
abbrev pub image_targets : Layout → List Target → List Term → List image.Target
image_targets c (t ∷ ts) (a ∷ values) = record { slot = slot_number c t; term = a } ∷ image_targets c ts values
image_targets c _ _ = []

-- the node of a target's property: one of an iterator is none that is NIL
abbrev pub target_node : Site → Key → List Target → Term
target_node s k [] = M.Const (zero_of V.Node)
target_node s k (T.Scalar x at ∷ ts) = target_node s k ts
target_node s k (T.Property x p at ∷ ts) =
    if is_in s.iterators x then s.env.scalar x else M.Live (s.env.place k at) (s.env.scalar x)

-- the key and place at which a taking onto the node's own properties fails: the operator's, where it is done at once, and else the total's
abbrev pub fold_place : Site → Key → TotalKey → ℕ
fold_place s k total = if s.at_once then s.env.place k total.place else s.env.place total.key total.place

-- the lines of a reduction
abbrev pub reduce_lines : Site → ℕ → Way → Key → TotalKey → Reduce → List Target → List Term → List Line
reduce_lines s kind Puts k total r ts values = Put r (s.env.place total.key total.place) (image_targets s.layout ts values) ∷ []
reduce_lines s kind Folds k total r ts values = Fold r (fold_place s k total) (image_targets s.layout ts values) ∷ []
reduce_lines s kind Sends k total r ts values = Send kind (target_node s k ts) values ∷ []
reduce_lines s kind Picks k total r ts values = kept_lines (keeping s) r (with_types s.layout ts) values

-- the lines of a body, whose first message is of a kind
abbrev pub lines_of : Site → ℕ → Stmt → List Line
lines_of s kind (Then a b) = lines_of s kind a ++ lines_of s (kind + length (aways s.layout.declarations s.node a)) b
lines_of s kind (Declare k x e) = SetRegister (s.layout.register x) (term_or_zero s.env k (type_at s.layout.declarations x) e) ∷ []
lines_of s kind (Assign k t e) = set_line s.layout t (term s.env k e) ∷ []
lines_of s kind (Combine k total r ts es) =
    reduce_lines s kind (way_of s.layout.declarations s.node ts) k total r ts (map (term s.env k) es)
lines_of s kind (If k c a b) =
    choice_by (term s.env k c) (lines_of s kind a) (lines_of s (kind + length (aways s.layout.declarations s.node a)) b)
lines_of s kind _ = []

-- the spots of a reduction's targets
abbrev pub target_spots : List ℕ → Key → List Target → List Spot
target_spots its k [] = []
target_spots its k (T.Scalar x at ∷ ts) = target_spots its k ts
target_spots its k (T.Property x p at ∷ ts) = if is_in its x then [] else spot_at k at ∷ []

-- the spots of a reduction beside its values'
abbrev pub reduce_spots : Bool → List ℕ → Way → Key → TotalKey → List Target → List Spot
reduce_spots at_once its Puts k total ts = spot_of_total total ∷ []
reduce_spots true its Folds k total ts = spot_at k total.place ∷ []
reduce_spots false its Folds k total ts = spot_of_total total ∷ []
reduce_spots at_once its Sends k total ts = spot_of_total total ∷ target_spots its k ts
reduce_spots at_once its Picks k total ts = []

-- the spots of a body at a node, among some iterators
abbrev pub spots_of : Layout → ℕ → List ℕ → Bool → Stmt → List Spot
spots_of c n its at_once (Then a b) = spots_of c n its at_once a ++ spots_of c n its at_once b
spots_of c n its at_once (Declare k x e) = spots_in_option e k
spots_of c n its at_once (Assign k t e) = spots_in e k
spots_of c n its at_once (Combine k total r ts es) =
    spots_in_all es k ++ reduce_spots at_once its (way_of c.declarations n ts) k total ts
spots_of c n its at_once (If k e a b) = spots_in e k ++ (spots_of c n its at_once a ++ spots_of c n its at_once b)
spots_of c n its at_once _ = []
