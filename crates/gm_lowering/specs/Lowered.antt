-- Programs as images: the master list follows the statements of the sequential phase, and each parallel loop is a few steps of it.
use Rattle.std.specs.Prelude.{ℕ, suc, ◌+◌, pos, true, false, if◌then◌else◌, Option, Some, None, List, [], ◌∷◌, ◌++◌, length, map, slice_get}
use Rattle.std.specs.List.{flat_map}
use Rattle.gm_base.specs.declared.places.Place.{Place}
use Rattle.gm_value.specs.declared.values.VType.{VType}
use Rattle.gm_value.specs.declared.values.Value.TheVariants.{I64, Flag}
use Rattle.gm_value.specs.declared.operations.Op1.TheVariants as one
use Rattle.gm_value.specs.declared.operations.Op2.TheVariants as two
use Rattle.gm_value.specs.Numbers.{zero_of}
use Rattle.gm_ast.specs.declared.tree.Declaration.{Declaration}
use Rattle.gm_ast.specs.declared.tree.Key.{Key}
use Rattle.gm_ast.specs.declared.tree.Sort.{Sort}
use Rattle.gm_ast.specs.declared.tree.Sort.TheVariants as Sorts
use Rattle.gm_ast.specs.declared.tree.Target.{Target}
use Rattle.gm_ast.specs.declared.tree.Target.TheVariants as T
use Rattle.gm_ast.specs.Program.{Expr, Stmt, Skip, Then, Declare, Assign, Combine, Foreach, For, If, While, Do, Return}
use Rattle.gm_ast.specs.Program as S
use Rattle.gm_semantics.specs.Levels.{numbers_from}
use Rattle.gm_semantics.specs.Statements.{variable_at}
use Rattle.gm_forms.specs.Typing.{type_at}
use Rattle.gm_image.specs.declared.images.Kind.{Kind}
use Rattle.gm_image.specs.Term as M
use Rattle.gm_image.specs.Term.{Term}
use Rattle.gm_image.specs.Program as image
use Rattle.gm_image.specs.Program.{Program, Item, Holder, Block, Command, SetGlobal, Step, Jump, Test, Turn, Back, Finish, SetField}
use Rattle.gm_lowering.specs.Layouts.{Layout, layout, global_types, register_types, field_types, column_types}
use Rattle.gm_lowering.specs.Places.{segment, spot_at, spots_in, spots_in_all, place_index, shown_places}
use Rattle.gm_lowering.specs.Terms.{Env, master_env, term}
use Rattle.gm_lowering.specs.Plans.{KindPlan, kinds_in, planned}
use Rattle.gm_lowering.specs.Bodies.{Keeping, held_term, kept_lines, with_types}
use Rattle.gm_lowering.specs.Blocks.{Lowered, body_block, loop}

-- what stays the same over a tree: the layout, and the last line of the master list
pub record Frame : Type 0 where
  pub layout : Layout
  pub finish : ℕ

-- where a statement's part of the image begins: the line of the master list, the block, the kind and the place that come next, and how many loops with a counter or a flag are around
pub record At : Type 0 where
  pub line : ℕ
  pub block : ℕ
  pub kind : ℕ
  pub place : ℕ
  pub depth : ℕ

-- a statement's part of the image
pub record Part : Type 0 where
  pub commands : List Command
  pub blocks : List Block
  pub places : List Place

abbrev pub no_part : Part
no_part = record { commands = []; blocks = []; places = [] }

-- two parts one after another
abbrev pub both : Part → Part → Part
both a b = record { commands = a.commands ++ b.commands; blocks = a.blocks ++ b.blocks; places = a.places ++ b.places }

-- commands with the places of what may fault in them
abbrev pub commands_with : List Command → List Place → Part
commands_with commands places = record { commands = commands; blocks = []; places = places }

abbrev pub plain : List Command → Part
plain commands = commands_with commands []

-- behind some lines of the master list
abbrev pub lines_on : ℕ → At → At
lines_on n at = record at { line = at.line + n }

-- behind places
abbrev pub places_on : List Place → At → At
places_on places at = record at { place = at.place + length places }

-- behind a statement with this part
abbrev pub past : Frame → At → Stmt → Part → At
past w at s x = record at {
  line = at.line + length x.commands;
  block = at.block + length x.blocks;
  kind = at.kind + length (kinds_in w.layout.declarations s);
  place = at.place + length x.places;
}

-- in a loop with a counter or a flag
abbrev pub deeper : At → At
deeper at = record at { depth = suc at.depth }

-- steps of consecutive blocks
abbrev pub steps_from : ℕ → ℕ → List Command
steps_from block n = map Step (numbers_from block n)

-- a loop's part: a step for each of its blocks
abbrev pub loop_part : At → Lowered → Part
loop_part at l = record { commands = steps_from at.block (length l.blocks); blocks = l.blocks; places = shown_places l.segment }

-- a command on an expression's term
abbrev pub told : Frame → At → Key → Expr → (Term → List Command) → Part
told w at k e commands =
    let g = segment at.place (spots_in e k) in commands_with (commands (term (master_env w.layout g) k e)) (shown_places g)

-- a declaration: a scalar's value, or a property's first value at all nodes, where it has a field
abbrev pub declared_part : Frame → At → Sort → VType → ℕ → Part
declared_part w at Sorts.NodeProperty t x =
    if w.layout.is_kept x then record {
      commands = Step at.block ∷ [];
      blocks = body_block (SetField (w.layout.field x) (M.Const (zero_of t)) ∷ []) ∷ [];
      places = [];
    } else no_part
declared_part w at Sorts.Scalar t x = plain (SetGlobal (w.layout.global x) (M.Const (zero_of t)) ∷ [])
declared_part w at _ t x = no_part

-- an assignment to a scalar
abbrev pub assigned_part : Frame → At → Key → Target → Expr → Part
assigned_part w at k (T.Scalar x place) e = told w at k e (λ t. SetGlobal (w.layout.global x) t ∷ [])
assigned_part w at k (T.Property x p place) e = no_part

-- in the master list tuples are kept by globals
abbrev pub set_global : Layout → Target → Term → Command
set_global c (T.Scalar x at) t = SetGlobal (c.global x) t
set_global c (T.Property x p at) t = SetGlobal (c.global p) t

abbrev pub keeping : Layout → Env → Keeping Command
keeping c v = record {
  set = set_global c;
  held = held_term v;
  save = λ i t a. SetGlobal (c.spare_global i t) a;
  saved = λ i t. M.Global (c.spare_global i t);
}

-- a return: its value, and to the end
abbrev pub return_part : Frame → At → Key → Option Expr → Part
return_part w at k None = plain (Jump w.finish ∷ [])
return_part w at k (Some e) = told w at k e (λ t. SetGlobal w.layout.result t ∷ Jump w.finish ∷ [])

-- a condition's lines, by its term: one way, and the other one, where it has lines behind a jump over them. The line behind the first way is known
abbrev pub choice : Term → ℕ → List Command → List Command → List Command
choice t behind a [] = Test behind t ∷ a
choice t behind a (m ∷ ms) = Test (suc behind) t ∷ (a ++ Jump (suc behind + length (m ∷ ms)) ∷ (m ∷ ms))

-- a condition before the lines of a turn, which is left out where it always holds
abbrev pub test_lines : ℕ → Term → List Command
test_lines to (M.Const (Flag true)) = []
test_lines to t = Test to t ∷ []

-- the counter of a For is below the number of nodes
abbrev pub counts : Layout → ℕ → Term
counts c depth = M.Binary two.Lt None (M.Global (c.counter depth)) (M.Unary one.ToI64 None M.NodeCount)

-- the counter's next value. It cannot fault, but an addition has a place
abbrev pub next_count : Layout → ℕ → ℕ → Term
next_count c depth place = M.Binary two.Add (Some place) (M.Global (c.counter depth)) (M.Const (I64 (pos 1)))

-- the part of a statement of a sequential phase
abbrev pub part : Frame → Stmt → At → Part
part w (Then a b) at = let x = part w a at in both x (part w b (past w at a x))
part w (Declare k x None) at = let v = variable_at w.layout.declarations x in declared_part w at v.sort v.vtype x
part w (Declare k x (Some e)) at = told w at k e (λ t. SetGlobal (w.layout.global x) t ∷ [])
part w (Assign k t e) at = assigned_part w at k t e
part w (Combine k total r ts es) at =
    let g = segment at.place (spots_in_all es k) in
    let v = master_env w.layout g in
    commands_with (kept_lines (keeping w.layout v) r (with_types w.layout ts) (map (term v k) es)) (shown_places g)
part w (Foreach k place h test body) at = loop_part at (loop w.layout at.place at.kind h.iterator k test body)
part w (If k c a b) at =
    let g = segment at.place (spots_in c k) in
    let start = lines_on 1 (places_on (shown_places g) at) in
    let x = part w a start in
    let behind = past w start a x in
    let y = part w b (lines_on 1 behind) in
    record {
      commands = choice (term (master_env w.layout g) k c) behind.line x.commands y.commands;
      blocks = x.blocks ++ y.blocks;
      places = shown_places g ++ (x.places ++ y.places);
    }
part w (While k place c body) at =
    let g = segment at.place (spots_in c k) in
    let start = lines_on 1 (places_on (shown_places g) at) in
    let x = part w body start in
    record {
      commands = Turn (start.line + length x.commands + 1) (term (master_env w.layout g) k c) ∷ (x.commands ++ Back at.line ∷ []);
      blocks = x.blocks;
      places = shown_places g ++ x.places;
    }
part w (Do k place body c) at =
    let g = segment at.place (spots_in c k) in
    let start = lines_on 3 (deeper (places_on (shown_places g) at)) in
    let x = part w body start in
    let flag = w.layout.flag at.depth in
    record {
      commands =
          SetGlobal flag (M.Const (Flag true))
          ∷ Turn (start.line + length x.commands + 1) (M.Or (M.Global flag) (term (master_env w.layout g) k c))
          ∷ SetGlobal flag (M.Const (Flag false))
          ∷ (x.commands ++ Back (suc at.line) ∷ []);
      blocks = x.blocks;
      places = shown_places g ++ x.places;
    }
part w (For k place h c body) at =
    let g = segment at.place (spot_at k place ∷ spots_in c k) in
    let test = term (master_env w.layout g) k c in
    let tests = length (test_lines 0 test) in
    let start = lines_on (4 + tests) (deeper (places_on (shown_places g) at)) in
    let x = part w body start in
    let end = start.line + length x.commands in
    let counter = w.layout.counter at.depth in
    record {
      commands =
          SetGlobal counter (M.Const (I64 (pos 0)))
          ∷ Turn (end + 1) (counts w.layout at.depth)
          ∷ SetGlobal (w.layout.global h.iterator) (M.NodeAt (M.Global counter))
          ∷ SetGlobal counter (next_count w.layout at.depth (place_index g k place))
          ∷ (test_lines end test ++ (x.commands ++ Back (suc at.line) ∷ []));
      blocks = x.blocks;
      places = shown_places g ++ x.places;
    }
part w (Return k place e) at = return_part w at k e
part w _ at = no_part

-- where an image begins
abbrev pub start : At
start = record { line = 0; block = 0; kind = 0; place = 0; depth = 0 }

-- the body's part, where the last line of the master list is known
abbrev pub body_part : S.Program → ℕ → Part
body_part p finish = part (record { layout = layout p; finish = finish }) p.body start

-- the body's part. How many lines it has does not depend on where they lead
abbrev pub whole : S.Program → Part
whole p = body_part p (length (body_part p 0).commands)

-- the kind of a plan, with no combiner
abbrev pub kind_of : KindPlan → Kind
kind_of k = record { combiner = None; values = k.values }

-- the name of a variable
abbrev pub name_or : Option Declaration → List ℕ
name_or None = []
name_or (Some d) = d.name

-- an input or an output, which the graph is not
abbrev pub item : S.Program → Holder → (ℕ → ℕ) → ℕ → List Item
item p holder slot x =
    record { holder = holder; vtype = type_at p.declarations x; name = name_or (slice_get p.declarations x); slot = slot x } ∷ []

abbrev pub items_by : S.Program → Sort → ℕ → List Item
items_by p Sorts.Scalar x = item p image.Scalar (layout p).global x
items_by p Sorts.NodeProperty x = item p image.Node (layout p).field x
items_by p Sorts.EdgeProperty x = item p image.Edge (layout p).column x
items_by p _ x = []

abbrev pub items : S.Program → List ℕ → List Item
items p xs = flat_map (λ x. items_by p (variable_at p.declarations x).sort x) xs

-- the result, with its global
abbrev pub result_at : ℕ → Option VType → Option (VType × ℕ)
result_at slot None = None
result_at slot (Some t) = Some (t, slot)

-- the image of a program
abbrev pub lowered : S.Program → Program
lowered p = record {
  name = p.name;
  inputs = items p (numbers_from 0 p.inputs);
  outputs = items p (numbers_from p.inputs p.outputs);
  result = result_at (layout p).result p.result;
  globals = global_types p;
  fields = field_types p;
  registers = register_types p;
  columns = column_types p;
  kinds = map kind_of (planned p).kinds;
  places = (whole p).places;
  blocks = (whole p).blocks;
  master = (whole p).commands ++ Finish ∷ [];
}
