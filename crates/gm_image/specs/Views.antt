-- An image of the code, seen without where it lies in memory.
use Rattle.std.specs.Prelude.{ℕ, Some, None, map, box_value}
use Rattle.gm_value.specs.declared.operations.Op1.TheVariants as one
use Rattle.gm_value.specs.declared.operations.Op2.TheVariants as two
use Rattle.gm_image.specs.declared.lines.Expr as E
use Rattle.gm_image.specs.declared.lines.Expr.{fold-Expr}
use Rattle.gm_image.specs.declared.lines.Expr.TheOpen.{Expr-F}
use Rattle.gm_image.specs.declared.lines.VertexLine.{VertexLine}
use Rattle.gm_image.specs.declared.lines.VertexLine.TheVariants as lines
use Rattle.gm_image.specs.declared.lines.MasterLine.{MasterLine}
use Rattle.gm_image.specs.declared.lines.MasterLine.TheVariants as commands
use Rattle.gm_image.specs.declared.images.InputItem.{InputItem}
use Rattle.gm_image.specs.declared.images.InputItem.TheVariants as inputs
use Rattle.gm_image.specs.declared.images.OutputItem.{OutputItem}
use Rattle.gm_image.specs.declared.images.OutputItem.TheVariants as outputs
use Rattle.gm_image.specs.declared.images.Image.{Image}
use Rattle.gm_image.specs.declared.images.Block as B
use Rattle.gm_image.specs.declared.images.Handler as H
use Rattle.gm_image.specs.Program as P
use Rattle.gm_image.specs.Program.{Program, Line, Command, Target, Item, Block, Handler}
use Rattle.gm_image.specs.Term as T
use Rattle.gm_image.specs.Term.{Term}

-- one level of an expression, with the terms of its parts in their place
abbrev pub term_step : Expr-F Term → Term
term_step (Expr-F.Const v) = T.Const v
term_step (Expr-F.Global g) = T.Global g
term_step Expr-F.NodeCount = T.NodeCount
term_step Expr-F.EdgeCount = T.EdgeCount
term_step (Expr-F.Field f) = T.Field f
term_step Expr-F.Id = T.Self
term_step Expr-F.OutDegree = T.OutDegree
term_step Expr-F.InDegree = T.InDegree
term_step (Expr-F.Register r) = T.Register r
term_step (Expr-F.Message i) = T.Message i
term_step Expr-F.Neighbour = T.Neighbour
term_step (Expr-F.Column w) = T.Column w
term_step (Expr-F.NodeAt a) = T.NodeAt (box_value a)
term_step (Expr-F.Live place a) = T.Live place (box_value a)
term_step (Expr-F.Add place a b) = T.Binary two.Add (Some place) (box_value a) (box_value b)
term_step (Expr-F.Sub place a b) = T.Binary two.Sub (Some place) (box_value a) (box_value b)
term_step (Expr-F.Mul place a b) = T.Binary two.Mul (Some place) (box_value a) (box_value b)
term_step (Expr-F.Div place a b) = T.Binary two.Div (Some place) (box_value a) (box_value b)
term_step (Expr-F.Rem place a b) = T.Binary two.Rem (Some place) (box_value a) (box_value b)
term_step (Expr-F.Neg place a) = T.Unary one.Neg (Some place) (box_value a)
term_step (Expr-F.ToInt place a) = T.Unary one.ToI32 (Some place) (box_value a)
term_step (Expr-F.ToLong a) = T.Unary one.ToI64 None (box_value a)
term_step (Expr-F.Eq a b) = T.Binary two.Eq None (box_value a) (box_value b)
term_step (Expr-F.Ne a b) = T.Binary two.Ne None (box_value a) (box_value b)
term_step (Expr-F.Lt a b) = T.Binary two.Lt None (box_value a) (box_value b)
term_step (Expr-F.Gt a b) = T.Binary two.Gt None (box_value a) (box_value b)
term_step (Expr-F.Le a b) = T.Binary two.Le None (box_value a) (box_value b)
term_step (Expr-F.Ge a b) = T.Binary two.Ge None (box_value a) (box_value b)
term_step (Expr-F.Not a) = T.Unary one.Not None (box_value a)
term_step (Expr-F.And a b) = T.And (box_value a) (box_value b)
term_step (Expr-F.Or a b) = T.Or (box_value a) (box_value b)
term_step (Expr-F.Choose c a b) = T.Choose (box_value c) (box_value a) (box_value b)

-- the term of an expression
abbrev pub term : E.Expr → Term
term = fold-Expr Term term_step

-- a slot and what goes into it
abbrev pub target : ℕ × E.Expr → Target
target t = record { slot = t.0; term = term t.1 }

-- a line of a vertex program
abbrev pub line : VertexLine → Line
line (lines.SetField f a) = P.SetField f (term a)
line (lines.Fold r place ts) = P.Fold r place (map target ts)
line (lines.SetRegister r a) = P.SetRegister r (term a)
line (lines.Put r place ts) = P.Put r place (map target ts)
line (lines.Send k to vs) = P.Send k (term to) (map term vs)
line (lines.Skip n a) = P.Skip n (term a)
line (lines.EachOut n) = P.Each P.Out n
line (lines.EachIn n) = P.Each P.In n

-- a line of the master list
abbrev pub command : MasterLine → Command
command (commands.SetGlobal g a) = P.SetGlobal g (term a)
command (commands.Step q) = P.Step q
command (commands.Jump j) = P.Jump j
command (commands.Test j a) = P.Test j (term a)
command (commands.Turn x a) = P.Turn x (term a)
command (commands.Back h) = P.Back h
command commands.Finish = P.Finish

-- an input
abbrev pub input : InputItem → Item
input (inputs.Scalar t n i) = record { holder = P.Scalar; vtype = t; name = n; slot = i }
input (inputs.Node t n i) = record { holder = P.Node; vtype = t; name = n; slot = i }
input (inputs.Edge t n i) = record { holder = P.Edge; vtype = t; name = n; slot = i }

-- an output
abbrev pub output : OutputItem → Item
output (outputs.Scalar t n i) = record { holder = P.Scalar; vtype = t; name = n; slot = i }
output (outputs.Node t n i) = record { holder = P.Node; vtype = t; name = n; slot = i }

-- a handler
abbrev pub handler : H.Handler → Handler
handler h = record { kind = h.kind; lines = map line h.lines }

-- a block
abbrev pub block : B.Block → Block
block b = record { handlers = map handler b.handlers; body = map line b.body }

-- an image
abbrev pub program : Image → Program
program i = record {
  name = i.name;
  inputs = map input i.inputs;
  outputs = map output i.outputs;
  result = i.result;
  globals = i.globals;
  fields = i.fields;
  registers = i.registers;
  columns = i.columns;
  kinds = i.kinds;
  places = i.places;
  blocks = map block i.blocks;
  master = map command i.master;
}
