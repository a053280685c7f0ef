-- What receivers send to properties comes behind what they reduce to the same ones, as a test of the body tells.
use Rattle.std.specs.Prelude.{◌≡◌, ◌<◌, ℕ, nat_eq, nat_lt, Bool, true, false, not, ◌&&◌, ◌||◌, List}
use Rattle.std.specs.List.{list_all}
use Rattle.gm_value.specs.Bag.{IsIn}
use Rattle.gm_ast.specs.declared.tree.Declaration.{Declaration}
use Rattle.gm_ast.specs.declared.tree.Key.{Key}
use Rattle.gm_ast.specs.Program.{Expr, Stmt}
use Rattle.gm_forms.specs.Forms.{depth_at}
use Rattle.gm_forms.specs.Sharing.{are_distinct}
use Rattle.gm_semantics.specs.Contributions.{Contribution, statement_of}
use Rattle.gm_semantics.specs.Iterations.{Loop}
use Rattle.gm_semantics.specs.Laws.{Distinct}
use Rattle.gm_semantics.specs.Stores.{Store}
use Rattle.gm_lowering.specs.Phases.{given_in}
use Rattle.gm_lowering.specs.Made.{Made, made, gives_apart}
use Rattle.gm_lowering.specs.ReceiverSends.{is_part, is_sent}

-- what is sent to a target is by later statements than what is taken where it is received, and by the same reduction; and slots of a contribution are distinct
pub record SentBehind (out : List (ℕ × ℕ)) (given : List Contribution) : Type 0 where
  pub later : (x y : Contribution) → IsIn x given → IsIn y given → is_sent out x ≡ false → is_sent out y ≡ true → x.slots ≡ y.slots → (statement_of x < statement_of y) × (x.reduce ≡ y.reduce)
  pub distinct : (x : Contribution) → IsIn x given → Distinct x.slots

-- whether a variable to which a statement reduces is one of those to which receivers send by it, or these send to it by later statements alone
abbrev pub stands : List (ℕ × ℕ) → ℕ → ℕ → Bool
stands out k p = is_part out k p || list_all (λ e. not (nat_eq e.0 p) || nat_lt k e.1) out

-- whether the variables of a reduction do, each of which it names once
abbrev pub made_stands : List (ℕ × ℕ) → Made → Bool
made_stands out m = are_distinct m.variables && list_all (stands out m.total.key.statement) m.variables

abbrev pub sends_behind : List Declaration → ℕ → List (ℕ × ℕ) → Stmt → Bool
sends_behind ds n out body = list_all (made_stands out) (made ds n false body)

-- then what is sent comes behind the rest
abbrev pub LoopsSendBehind : Type 0
LoopsSendBehind =
    (ds : List Declaration) (loop : Loop) (key : Key) (test : Expr) (body : Stmt) (r : Store) (out : List (ℕ × ℕ))
    → ((x : ℕ) → loop.depth x ≡ depth_at ds x) → gives_apart ds loop.outer body ≡ true → sends_behind ds loop.outer out body ≡ true → SentBehind out (given_in loop key test body r)
