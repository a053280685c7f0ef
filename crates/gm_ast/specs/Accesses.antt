-- The accesses of a program: how each parallel loop uses each variable.
use Rattle.std.specs.Prelude.{ℕ, ◌+◌, nat_eq, nat_lt, Bool, false, if◌then◌else◌, List, [], ◌∷◌, ◌++◌, map, flat_map, length, Option, Some, None, slice_get}
use Rattle.gm_base.specs.declared.places.Place.{Place}
use Rattle.gm_value.specs.declared.reductions.Reduce.{Reduce}
use Rattle.gm_ast.specs.declared.accesses.Operation.{Operation}
use Rattle.gm_ast.specs.declared.accesses.AccessKind.{AccessKind}
use Rattle.gm_ast.specs.declared.accesses.AccessKind.TheVariants.{OwnRead, OtherRead, LevelRead, OwnWrite, StrayWrite, OwnReduce, PushReduce, Deferred}
use Rattle.gm_ast.specs.declared.accesses.Access.{Access}
use Rattle.gm_ast.specs.declared.tree.Declaration.{Declaration}
use Rattle.gm_ast.specs.declared.tree.Variable.{Variable}
use Rattle.gm_ast.specs.declared.tree.Domain.{Domain}
use Rattle.gm_ast.specs.declared.tree.Domain.TheVariants.{Nodes, OutNbrs, InNbrs, UpNbrs, DownNbrs}
use Rattle.gm_ast.specs.declared.tree.Target.{Target}
use Rattle.gm_ast.specs.Program.{Expr, Const, Var, Property, EdgeProperty, Degree, NodeCount, EdgeCount, Live, Unary, Binary, Both, Either, Choose, Folded, Stmt, Skip, Then, Declare, DeclareEdge, Assign, Defer, Combine, Group, Foreach, For, If, While, Do, InBfs, InBfsBoth, Return, Program}
use Rattle.gm_ast.specs.Loops.{declared_at, is_scalar, is_property, depth_of, target_variable}

-- a parallel loop: its number, its iterator (the graph for a group assignment), and its range
pub record Loop : Type 0 where
  pub number : ℕ
  pub iterator : ℕ
  pub domain : Domain

-- what stands around a part: the declarations, and the parallel loops from the outermost inwards
pub record Around : Type 0 where
  pub declarations : List Declaration
  pub loops : List Loop

-- a sequential phase
abbrev pub sequential : List Declaration → Around
sequential ds = record { declarations = ds; loops = [] }

-- the same, with one more loop
abbrev pub within : Around → ℕ → ℕ → Domain → Around
within w n x d = record w { loops = w.loops ++ (record { number = n; iterator = x; domain = d } ∷ []) }

-- the number of a loop, 0 where there is none
abbrev pub number_of : Option Loop → ℕ
number_of None = 0
number_of (Some l) = l.number

-- the number of the loop that has so many loops around it, 0 where there is none
abbrev pub number_at : List Loop → ℕ → ℕ
number_at loops k = number_of (slice_get loops k)

-- how many loops are around the one in which a variable's accesses count: none for a property, and for a scalar those around its declaration
abbrev pub loops_outside : Option Variable → ℕ
loops_outside v = if is_property v then 0 else depth_of v

-- an access, if there is a loop in which it counts
abbrev pub access : Around → ℕ → Place → AccessKind → List Access
access w x at kind =
    let k = loops_outside (declared_at w.declarations x) in
    if nat_lt k (length w.loops)
    then record { place = at; loop_id = number_at w.loops k; inner_id = number_at w.loops 1; variable = x; kind = kind } ∷ []
    else []

-- a read of a variable by its name, which is an access where that is a scalar
abbrev pub scalar_read : Around → ℕ → Place → List Access
scalar_read w x at = if is_scalar (declared_at w.declarations x) then access w x at OwnRead else []

-- whether a variable is the iterator of the outermost of some loops
abbrev pub is_outer : List Loop → ℕ → Bool
is_outer [] x = false
is_outer (l ∷ ls) x = nat_eq l.iterator x

-- what a read through the iterator of an inner loop is, by its range
abbrev pub read_over : Domain → Option AccessKind
read_over Nodes = None
read_over OutNbrs = Some OtherRead
read_over InNbrs = Some OtherRead
read_over UpNbrs = Some LevelRead
read_over DownNbrs = Some LevelRead

-- what a read of a property through a variable is, if that is the iterator of one of some inner loops
abbrev pub inner_read : List Loop → ℕ → Option AccessKind
inner_read [] x = None
inner_read (l ∷ ls) x = if nat_eq l.iterator x then read_over l.domain else inner_read ls x

-- what a read of a property through a variable is, if that is the iterator of one of some loops
abbrev pub read_kind : List Loop → ℕ → Option AccessKind
read_kind [] x = None
read_kind (l ∷ ls) x = if nat_eq l.iterator x then Some OwnRead else inner_read ls x

-- an access of a kind, if there is one
abbrev pub access_if : Around → ℕ → Place → Option AccessKind → List Access
access_if w x at None = []
access_if w x at (Some kind) = access w x at kind

-- a read of a property through a variable
abbrev pub property_read : Around → ℕ → ℕ → Place → List Access
property_read w x p at = scalar_read w x at ++ access_if w p at (read_kind w.loops x)

-- how many parallel loops an expression has
abbrev pub loops_in : Expr → ℕ
loops_in (Const v) = 0
loops_in (Var x at) = 0
loops_in (Property x p at) = 0
loops_in (EdgeProperty x p at) = 0
loops_in (Degree d x at) = 0
loops_in NodeCount = 0
loops_in EdgeCount = 0
loops_in (Live x at) = 0
loops_in (Unary op at e) = loops_in e
loops_in (Binary op at a b) = loops_in a + loops_in b
loops_in (Both a b) = loops_in a + loops_in b
loops_in (Either a b) = loops_in a + loops_in b
loops_in (Choose c a b) = loops_in c + (loops_in a + loops_in b)
loops_in (Folded f h test body) = 1 + (loops_in test + loops_in body)

-- the accesses of an expression whose first loop has the number n
abbrev pub reads : Expr → Around → ℕ → List Access
reads (Const v) w n = []
reads (Var x at) w n = scalar_read w x at
reads (Property x p at) w n = property_read w x p at
reads (EdgeProperty x p at) w n = []
reads (Degree d x at) w n = scalar_read w x at
reads NodeCount w n = []
reads EdgeCount w n = []
reads (Live x at) w n = scalar_read w x at
reads (Unary op at e) w n = reads e w n
reads (Binary op at a b) w n = reads a w n ++ reads b w (n + loops_in a)
reads (Both a b) w n = reads a w n ++ reads b w (n + loops_in a)
reads (Either a b) w n = reads a w n ++ reads b w (n + loops_in a)
reads (Choose c a b) w n = reads c w n ++ (reads a w (n + loops_in c) ++ reads b w (n + loops_in c + loops_in a))
reads (Folded f h test body) w n =
    let v = within w n h.iterator h.domain in
    scalar_read w h.owner h.place ++ (reads test v (n + 1) ++ reads body v (n + 1 + loops_in test))

-- how many parallel loops some expressions have
abbrev pub loops_in_all : List Expr → ℕ
loops_in_all [] = 0
loops_in_all (e ∷ es) = loops_in e + loops_in_all es

-- the accesses of expressions one after another
abbrev pub reads_of_all : List Expr → Around → ℕ → List Access
reads_of_all [] w n = []
reads_of_all (e ∷ es) w n = reads e w n ++ reads_of_all es w (n + loops_in e)

-- how many parallel loops a value that may be absent has
abbrev pub loops_in_option : Option Expr → ℕ
loops_in_option None = 0
loops_in_option (Some e) = loops_in e

-- the accesses of a value that may be absent
abbrev pub option_reads : Option Expr → Around → ℕ → List Access
option_reads None w n = []
option_reads (Some e) w n = reads e w n

-- how a property is written through a variable
abbrev pub write_kind : List Loop → ℕ → AccessKind
write_kind loops x = if is_outer loops x then OwnWrite else StrayWrite

-- a plain write
abbrev pub plain_write : Around → Target → List Access
plain_write w (Target.Scalar x at) = access w x at StrayWrite
plain_write w (Target.Property x p at) = scalar_read w x at ++ access w p at (write_kind w.loops x)

-- a write that ends with the loop; through anything but the outer iterator it is a stray one besides
abbrev pub deferred_write : Around → Target → List Access
deferred_write w (Target.Scalar x at) = access w x at StrayWrite
deferred_write w (Target.Property x p at) =
    scalar_read w x at ++ ((if is_outer w.loops x then [] else access w p at StrayWrite) ++ access w p at Deferred)

-- a reduction to the outer iterator's property: done at once directly in its loop, and else when the inner loop ends
abbrev pub own_reduction : Around → Operation → ℕ → Place → List Access
own_reduction w op p at = if nat_eq (length w.loops) 1 then access w p at OwnRead ++ access w p at OwnWrite else access w p at (OwnReduce op)

-- a reduction to a target
abbrev pub reduced : Around → Operation → Target → List Access
reduced w op (Target.Scalar x at) = access w x at (PushReduce op)
reduced w op (Target.Property x p at) =
    scalar_read w x at ++ (if is_outer w.loops x then own_reduction w op p at else access w p at (PushReduce op))

-- what a reduction assignment does
abbrev pub operation : Reduce → List Target → Operation
operation r ts = record { reduce = r; targets = map target_variable ts }

-- a reduction assignment to all its targets
abbrev pub reductions : Around → Reduce → List Target → List Access
reductions w r ts = flat_map (reduced w (operation r ts)) ts

-- how many parallel loops a statement has
abbrev pub loops_of : Stmt → ℕ
loops_of Skip = 0
loops_of (Then a b) = loops_of a + loops_of b
loops_of (Declare k x e) = loops_in_option e
loops_of (DeclareEdge x y at) = 0
loops_of (Assign k t e) = loops_in e
loops_of (Defer k t e) = loops_in e
loops_of (Combine k total r ts es) = loops_in_all es
loops_of (Group k at g p e) = 1 + loops_in e
loops_of (Foreach k at h test body) = 1 + (loops_in test + loops_of body)
loops_of (For k at h test body) = loops_in test + loops_of body
loops_of (If k c a b) = loops_in c + (loops_of a + loops_of b)
loops_of (While k at c body) = loops_in c + loops_of body
loops_of (Do k at body c) = loops_of body + loops_in c
loops_of (InBfs k at search test body) = 1 + (loops_in test + loops_of body)
loops_of (InBfsBoth k at search test body back_key back_test back) = 1 + (loops_in test + loops_of body) + (1 + (loops_in back_test + loops_of back))
loops_of (Return k at e) = loops_in_option e

-- the accesses of a statement whose first loop has the number n
abbrev pub accesses_of : Stmt → Around → ℕ → List Access
accesses_of Skip w n = []
accesses_of (Then a b) w n = accesses_of a w n ++ accesses_of b w (n + loops_of a)
accesses_of (Declare k x e) w n = option_reads e w n
accesses_of (DeclareEdge x y at) w n = []
accesses_of (Assign k t e) w n = plain_write w t ++ reads e w n
accesses_of (Defer k t e) w n = deferred_write w t ++ reads e w n
accesses_of (Combine k total r ts es) w n = reductions w r ts ++ reads_of_all es w n
accesses_of (Group k at g p e) w n =
    let v = within w n g Nodes in
    access v p at (write_kind v.loops g) ++ reads e v (n + 1)
accesses_of (Foreach k at h test body) w n =
    let v = within w n h.iterator h.domain in
    scalar_read w h.owner h.place ++ (reads test v (n + 1) ++ accesses_of body v (n + 1 + loops_in test))
accesses_of (For k at h test body) w n = scalar_read w h.owner h.place ++ (reads test w n ++ accesses_of body w (n + loops_in test))
accesses_of (If k c a b) w n = reads c w n ++ (accesses_of a w (n + loops_in c) ++ accesses_of b w (n + loops_in c + loops_of a))
accesses_of (While k at c body) w n = reads c w n ++ accesses_of body w (n + loops_in c)
accesses_of (Do k at body c) w n = accesses_of body w n ++ reads c w (n + loops_of body)
accesses_of (InBfs k at search test body) w n =
    let v = within w n search.iterator Nodes in
    scalar_read w search.root search.place ++ (reads test v (n + 1) ++ accesses_of body v (n + 1 + loops_in test))
accesses_of (InBfsBoth k at search test body back_key back_test back) w n =
    let v = within w n search.iterator Nodes in
    let m = n + 1 + loops_in test + loops_of body in
    let u = within w m search.iterator Nodes in
    scalar_read w search.root search.place
    ++ (reads test v (n + 1) ++ (accesses_of body v (n + 1 + loops_in test)
    ++ (reads back_test u (m + 1) ++ accesses_of back u (m + 1 + loops_in back_test))))
accesses_of (Return k at e) w n = option_reads e w n

-- the accesses of a program
abbrev pub accesses : Program → List Access
accesses p = accesses_of p.body (sequential p.declarations) 1
