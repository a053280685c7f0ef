-- The kinds of messages, and what each carries.
use Rattle.std.specs.Prelude.{ℕ, nat_eq, Bool, true, false, not, ◌&&◌, ◌||◌, if◌then◌else◌, Option, Some, None, List, [], ◌∷◌, ◌++◌, map}
use Rattle.std.specs.List.{list_all, list_any}
use Rattle.gm_value.specs.declared.values.VType.{VType}
use Rattle.gm_value.specs.declared.values.VType.TheVariants as V
use Rattle.gm_value.specs.declared.reductions.Reduce.{Reduce}
use Rattle.gm_ast.specs.declared.tree.Declaration.{Declaration}
use Rattle.gm_ast.specs.declared.tree.Direction.{Direction}
use Rattle.gm_ast.specs.declared.tree.Direction.TheVariants as D
use Rattle.gm_ast.specs.declared.tree.Head.{Head}
use Rattle.gm_ast.specs.declared.tree.Target.{Target}
use Rattle.gm_ast.specs.declared.tree.Target.TheVariants as T
use Rattle.gm_ast.specs.declared.tree.TotalKey.{TotalKey}
use Rattle.gm_ast.specs.Program.{Expr, Var, Property, EdgeProperty, Degree, Live, Unary, Binary, Both, Either, Choose, Stmt, Skip, Then, Declare, DeclareEdge, Assign, Combine, Foreach, For, If, While, Do, Program}
use Rattle.gm_forms.specs.Forms.{is_flat, is_along, is_inner_body, is_home}
use Rattle.gm_forms.specs.Typing.{type_at, target_type}
use Rattle.gm_lowering.specs.Layouts.{is_global, is_register, is_scalar_of}

-- what the receiver of a message reads of the sender: the sender itself, a property or a degree of it, or a property of the edge
pub data Load : Type 0 where
  SenderItself : Load
  SenderProperty : (property : ℕ) → Load
  SenderDegree : (direction : Direction) → Load
  EdgeValue : (property : ℕ) → Load

-- a kind of messages: what the receiver reads of the sender, in order of first reading, where it evaluates; and the types of the values that a message carries
pub record KindPlan : Type 0 where
  pub carried : List Load
  pub values : List VType

-- the kinds of a program: one for each message loop and one for each reduction through a node that the sender evaluates, in the order of the tree
pub record Plan : Type 0 where
  pub kinds : List KindPlan

-- whether two loads are one
abbrev pub same_direction : Direction → Direction → Bool
same_direction D.Out D.Out = true
same_direction D.In D.In = true
same_direction _ _ = false

abbrev pub same_load : Load → Load → Bool
same_load SenderItself SenderItself = true
same_load (SenderProperty p) (SenderProperty q) = nat_eq p q
same_load (SenderDegree d) (SenderDegree e) = same_direction d e
same_load (EdgeValue p) (EdgeValue q) = nat_eq p q
same_load _ _ = false

-- a load of an owner, where the owner is the sender
abbrev pub load_if : ℕ → ℕ → Load → List Load
load_if n x load = if nat_eq x n then load ∷ [] else []

-- what an expression reads of the sender n and of the edge, in order
abbrev pub loads_in : ℕ → Expr → List Load
loads_in n (Var x at) = load_if n x SenderItself
loads_in n (Property x p at) = load_if n x (SenderProperty p)
loads_in n (EdgeProperty x p at) = EdgeValue p ∷ []
loads_in n (Degree d x at) = load_if n x (SenderDegree d)
loads_in n (Live x at) = load_if n x SenderItself
loads_in n (Unary op at e) = loads_in n e
loads_in n (Binary op at a b) = loads_in n a ++ loads_in n b
loads_in n (Both a b) = loads_in n a ++ loads_in n b
loads_in n (Either a b) = loads_in n a ++ loads_in n b
loads_in n (Choose c a b) = loads_in n c ++ (loads_in n a ++ loads_in n b)
loads_in n _ = []

abbrev pub loads_in_option : ℕ → Option Expr → List Load
loads_in_option n None = []
loads_in_option n (Some e) = loads_in n e

abbrev pub loads_in_all : ℕ → List Expr → List Load
loads_in_all n [] = []
loads_in_all n (e ∷ es) = loads_in n e ++ loads_in_all n es

-- the same of a body
abbrev pub loads_of : ℕ → Stmt → List Load
loads_of n (Then a b) = loads_of n a ++ loads_of n b
loads_of n (Declare k x e) = loads_in_option n e
loads_of n (Assign k t e) = loads_in n e
loads_of n (Combine k total r ts es) = loads_in_all n es
loads_of n (If k c a b) = loads_in n c ++ (loads_of n a ++ loads_of n b)
loads_of n _ = []

-- loads without those that are among some before them, each once
abbrev pub first_loads : List Load → List Load → List Load
first_loads before [] = []
first_loads before (x ∷ xs) = if list_any (same_load x) before then first_loads before xs else x ∷ first_loads (x ∷ before) xs

-- what a message loop's messages carry: what the filter and the body read of the sender
abbrev pub carried : ℕ → Expr → Stmt → List Load
carried n test body = first_loads [] (loads_in n test ++ loads_of n body)

-- the type of a load
abbrev pub load_type : List Declaration → Load → VType
load_type ds SenderItself = V.Node
load_type ds (SenderProperty p) = type_at ds p
load_type ds (SenderDegree d) = V.I32
load_type ds (EdgeValue p) = type_at ds p

-- whether a target is a property of a node
abbrev pub is_property_of : ℕ → Target → Bool
is_property_of n (T.Scalar x at) = false
is_property_of n (T.Property x p at) = nat_eq x n

-- whether a target is a property of another node
abbrev pub is_property_off : ℕ → Target → Bool
is_property_off n (T.Scalar x at) = false
is_property_off n (T.Property x p at) = not (nat_eq x n)

-- how a body that is evaluated at a node reduces to targets: it puts to scalars of the procedure, folds to properties of the node, sends to properties of other nodes, and picks by itself what its locals hold
pub data Way : Type 0 where
  Puts Folds Sends Picks : Way

abbrev pub way_of : List Declaration → ℕ → List Target → Way
way_of ds n ts =
    if list_all (is_scalar_of is_global ds) ts then Puts
    else (if list_all (is_property_of n) ts then Folds
    else (if list_any (is_property_off n) ts then Sends
    else Picks))

-- a reduction whose values are sent
pub record Away : Type 0 where
  pub total : TotalKey
  pub reduce : Reduce
  pub targets : List Target

abbrev pub away_by : Way → TotalKey → Reduce → List Target → List Away
away_by Sends total r ts = record { total = total; reduce = r; targets = ts } ∷ []
away_by _ total r ts = []

-- the reductions of a body at a node whose values are sent, in the order of the text
abbrev pub aways : List Declaration → ℕ → Stmt → List Away
aways ds n (Then a b) = aways ds n a ++ aways ds n b
aways ds n (Combine k total r ts es) = away_by (way_of ds n ts) total r ts
aways ds n (If k c a b) = aways ds n a ++ aways ds n b
aways ds n _ = []

-- statements that do nothing
abbrev pub is_nothing : Stmt → Bool
is_nothing Skip = true
is_nothing (Then a b) = is_nothing a && is_nothing b
is_nothing (DeclareEdge x y at) = true
is_nothing _ = false

-- whether a body reduces to its locals alone
abbrev pub gives_nothing : List Declaration → Stmt → Bool
gives_nothing ds (Then a b) = gives_nothing ds a && gives_nothing ds b
gives_nothing ds (Combine k total r ts es) = list_all (is_scalar_of is_register ds) ts
gives_nothing ds (If k c a b) = gives_nothing ds a && gives_nothing ds b
gives_nothing ds _ = true

-- whether a body has one reduction to others, to properties of an iterator, and does nothing behind it
abbrev pub gives_last : List Declaration → ℕ → Stmt → Bool
gives_last ds i (Then a b) = if is_nothing b then gives_last ds i a else gives_nothing ds a && gives_last ds i b
gives_last ds i (Combine k total r ts es) = list_all (is_property_of i) ts
gives_last ds i (If k c a b) = (gives_last ds i a && is_nothing b) || (is_nothing a && gives_last ds i b)
gives_last ds i _ = false

-- whether the sender evaluates an inner loop for the other end of each edge: filter and value are its alone
abbrev pub is_senders : List Declaration → ℕ → Head → Expr → Stmt → Bool
is_senders ds n h test body =
    is_flat (n ∷ []) (is_along h.domain) test
    && (is_inner_body ds (n ∷ []) (is_along h.domain) body && gives_last ds h.iterator body)

-- whether an inner loop is evaluated at the outer node, for each of its edges
abbrev pub is_here : List Declaration → ℕ → Head → Expr → Stmt → Bool
is_here ds n h test body = is_home ds n h test body || is_senders ds n h test body

-- the kind of a reduction whose values are sent: the receiver reads nothing of the sender
abbrev pub kind_of_away : List Declaration → Away → KindPlan
kind_of_away ds a = record { carried = []; values = map (target_type ds) a.targets }

-- the kind of what is read of a sender
abbrev pub kind_of_loads : List Declaration → List Load → KindPlan
kind_of_loads ds loads = record { carried = loads; values = map (load_type ds) loads }

-- the kinds of a loop over nodes, by its iterator and its body
abbrev pub kinds_of_loop : List Declaration → ℕ → Stmt → List KindPlan
kinds_of_loop ds n (Foreach k at h test body) =
    if is_here ds n h test body then map (kind_of_away ds) (aways ds n body)
    else kind_of_loads ds (carried n test body) ∷ map (kind_of_away ds) (aways ds h.iterator body)
kinds_of_loop ds n body = map (kind_of_away ds) (aways ds n body)

-- the kinds of a statement of a sequential phase
abbrev pub kinds_in : List Declaration → Stmt → List KindPlan
kinds_in ds (Then a b) = kinds_in ds a ++ kinds_in ds b
kinds_in ds (Foreach k at h test body) = kinds_of_loop ds h.iterator body
kinds_in ds (For k at h test body) = kinds_in ds body
kinds_in ds (If k c a b) = kinds_in ds a ++ kinds_in ds b
kinds_in ds (While k at c body) = kinds_in ds body
kinds_in ds (Do k at body c) = kinds_in ds body
kinds_in ds _ = []

-- the plan of a program
abbrev pub planned : Program → Plan
planned p = record { kinds = kinds_in p.declarations p.body }
