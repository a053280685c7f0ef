-- Reductions that are done at once, as settings of slots.
use Rattle.std.specs.Prelude.{ℕ, suc, Bool, if◌then◌else◌, List, [], ◌∷◌, ◌++◌, length, map}
use Rattle.gm_value.specs.declared.values.VType.{VType}
use Rattle.gm_value.specs.declared.values.VType.TheVariants as V
use Rattle.gm_value.specs.declared.operations.Op2.{Op2}
use Rattle.gm_value.specs.declared.operations.Op2.TheVariants as two
use Rattle.gm_value.specs.declared.reductions.Reduce.{Reduce}
use Rattle.gm_ast.specs.declared.tree.Key.{Key}
use Rattle.gm_ast.specs.declared.tree.Target.{Target}
use Rattle.gm_ast.specs.Program.{Expr}
use Rattle.gm_forms.specs.Typing.{target_type}
use Rattle.gm_image.specs.Term as M
use Rattle.gm_image.specs.Term.{Term}
use Rattle.gm_image.specs.Views.{term}
use Rattle.gm_lowering.specs.Layouts.{Layout}
use Rattle.gm_lowering.specs.Terms as Terms
use Rattle.gm_lowering.specs.Bodies.{better, compared, held_term, replacing}
use Rattle.gm_bodies.specs.declared.keeps.Keeper.{Keeper}
use Rattle.gm_bodies.specs.declared.keeps.Setting.{Setting}
use Rattle.gm_bodies.specs.declared.keeps.Slot.{Slot}
use Rattle.gm_bodies.specs.declared.keeps.Slot.TheVariants as slots
use Rattle.gm_terms.specs.Environments.{env_of}
use Rattle.gm_layouts.specs.Where.{where_of}

-- the operator by which values are compared
abbrev pub operator : Bool → Op2
operator greatest = if greatest then two.Gt else two.Lt

-- a slot and what it is set to
abbrev pub setting : Setting → Slot × Term
setting s = (s.slot, term s.value)

abbrev pub settings : List Setting → List (Slot × Term)
settings ss = map setting ss

-- the layout of a keeper
abbrev pub kept_by : Keeper → Layout
kept_by k = where_of k.env.now.layout.now

-- what a spare slot holds
abbrev pub saved : Keeper → ℕ → VType → Term
saved k i t = if k.by_registers then M.Register ((kept_by k).spare_register i t) else M.Global ((kept_by k).spare_global i t)

abbrev pub type_of_target : Keeper → Target → VType
type_of_target k t = target_type (kept_by k).declarations t

-- the value that was saved for a target, and the one that it holds
abbrev pub saved_of : Keeper → ℕ → Target → Term
saved_of k i t = saved k i (type_of_target k t)

abbrev pub held_of : Keeper → Target → Term
held_of k t = held_term (env_of k.env.now) t

abbrev pub pairs_from : Keeper → ℕ → List Target → List (Term × Term)
pairs_from k i [] = []
pairs_from k i (t ∷ ts) = (saved_of k i t, held_of k t) ∷ pairs_from k (suc i) ts

-- a value's term
abbrev pub told_by : Keeper → Key → Expr → Term
told_by k key e = Terms.term (env_of k.env.now) key e

-- the setting that saves a value, and those that save several
abbrev pub saving : Keeper → Key → ℕ → Target → Expr → Slot × Term
saving k key i t e = (slots.Spare i (type_of_target k t), told_by k key e)

abbrev pub saves : Keeper → Key → ℕ → List Target → List Expr → List (Slot × Term)
saves k key i ts [] = []
saves k key i [] (e ∷ es) = []
saves k key i (t ∷ ts) (e ∷ es) = saving k key i t e ∷ saves k key (suc i) ts es

-- the setting by which a target takes the saved value, and those by which several do
abbrev pub taking : Keeper → ℕ → ℕ → Target → Slot × Term
taking k flag i t = (slots.Target t, M.Choose (saved k flag V.Flag) (saved_of k i t) (held_of k t))

abbrev pub takes : Keeper → ℕ → ℕ → List Target → List (Slot × Term)
takes k flag i [] = []
takes k flag i (t ∷ ts) = taking k flag i t ∷ takes k flag (suc i) ts

-- the setting of whether a tuple is better
abbrev pub judging : Keeper → Reduce → ℕ → List Target → Slot × Term
judging k r flag ts = (slots.Spare flag V.Flag, replacing (better r) (pairs_from k 0 ts))

-- the settings that keep a tuple, and the one that keeps a value
abbrev pub keeps_tuple : Keeper → Reduce → Key → List Target → List Expr → List (Slot × Term)
keeps_tuple k r key ts es = saves k key 0 ts es ++ (judging k r (length ts) ts ∷ takes k (length ts) 0 ts)

abbrev pub keeping_one : Keeper → Reduce → Key → Target → Expr → Slot × Term
keeping_one k r key t e = (slots.Target t, M.Choose (compared (better r) (told_by k key e) (held_of k t)) (told_by k key e) (held_of k t))

-- the settings of a reduction
abbrev pub kept : Keeper → Reduce → Key → List Target → List Expr → List (Slot × Term)
kept k r key (t ∷ []) (e ∷ []) = keeping_one k r key t e ∷ []
kept k r key ts es = keeps_tuple k r key ts es
