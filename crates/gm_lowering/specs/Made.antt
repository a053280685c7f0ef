-- What a loop gives is made by the reductions of its body; so a test of these tells when it gives apart.
use Rattle.std.specs.Prelude.{◌≡◌, ◌<◌, ℕ, nat_lt, Bool, true, false, ◌&&◌, ◌||◌, if◌then◌else◌, List, [], ◌∷◌, ◌++◌}
use Rattle.std.specs.List.{list_all}
use Rattle.gm_base.specs.declared.places.Place.{Place}
use Rattle.gm_value.specs.declared.reductions.Reduce.{Reduce}
use Rattle.gm_ast.specs.declared.tree.Declaration.{Declaration}
use Rattle.gm_ast.specs.declared.tree.Head.{Head}
use Rattle.gm_ast.specs.declared.tree.Key.{Key}
use Rattle.gm_ast.specs.declared.tree.TotalKey.{TotalKey}
use Rattle.gm_ast.specs.Program.{Expr, Stmt, Then, Combine, Foreach, If}
use Rattle.gm_ast.specs.Races.{reduce_eq, variables_eq}
use Rattle.gm_forms.specs.Forms.{depth_at}
use Rattle.gm_forms.specs.Sharing.{are_at_once, variables_of, disjoint, targets_alike}
use Rattle.gm_semantics.specs.Iterations.{Loop}
use Rattle.gm_semantics.specs.Stores.{Store}
use Rattle.gm_lowering.specs.OwnLoops.{are_any}
use Rattle.gm_lowering.specs.Phases.{GivesApart, given_in}
use Rattle.gm_lowering.specs.HomeSteps.{home_turns, given_inside}

-- a reduction that ends with a loop: its total, its word, and the variables of its targets
pub record Made : Type 0 where
  pub total : TotalKey
  pub reduce : Reduce
  pub variables : List ℕ

-- those of a body of an iterator, or of an inner body
abbrev pub made : List Declaration → ℕ → Bool → Stmt → List Made
made ds n inner (Then a b) = made ds n inner a ++ made ds n inner b
made ds n inner (Combine k total r ts es) = if are_at_once ds n inner ts then [] else record { total = total; reduce = r; variables = variables_of ts } ∷ []
made ds n inner (If k c a b) = made ds n inner a ++ made ds n inner b
made ds n inner (Foreach k at h test body) = made ds n true body
made ds n inner _ = []

-- whether two have no variable in common, or do the same under ascending numbers
abbrev pub goes_with : Made → Made → Bool
goes_with a b =
    disjoint a.variables b.variables
    || (nat_lt a.total.key.statement b.total.key.statement && (reduce_eq a.reduce b.reduce && variables_eq a.variables b.variables))

abbrev pub all_go : List Made → Bool
all_go [] = true
all_go (a ∷ rest) = list_all (goes_with a) rest && all_go rest

-- whether a body gives apart: the targets of each reduction are alike, and there are some; and all reductions go together
abbrev pub gives_apart : List Declaration → ℕ → Stmt → Bool
gives_apart ds n body = targets_alike body && (list_all (λ m. are_any m.variables) (made ds n false body) && all_go (made ds n false body))

-- then what its loop gives is apart, and so is what the turns of an inner loop give at each node
abbrev pub LoopsGiveApart : Type 0
LoopsGiveApart =
    (ds : List Declaration) (loop : Loop) (key : Key) (test : Expr) (body : Stmt) (r : Store)
    → ((x : ℕ) → loop.depth x ≡ depth_at ds x) → gives_apart ds loop.outer body ≡ true → GivesApart (given_in loop key test body r)

abbrev pub TurnsGiveApart : Type 0
TurnsGiveApart =
    (ds : List Declaration) (loop : Loop) (key : Key) (place : Place) (h : Head) (test : Expr) (body : Stmt) (r : Store) (k : ℕ)
    → ((x : ℕ) → loop.depth x ≡ depth_at ds x) → gives_apart ds loop.outer (Foreach key place h test body) ≡ true
    → GivesApart (given_inside (home_turns loop h key test body r k))
