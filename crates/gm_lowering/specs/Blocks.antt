-- Parallel loops as blocks of an image.
use Rattle.std.specs.Prelude.{ℕ, suc, nat_eq, Bool, true, false, ◌&&◌, ◌||◌, if◌then◌else◌, Option, Some, None, List, [], ◌∷◌, ◌++◌, length, map}
use Rattle.std.specs.List.{list_any}
use Rattle.gm_value.specs.Numbers.{zero_of}
use Rattle.gm_ast.specs.declared.tree.Domain.{Domain}
use Rattle.gm_ast.specs.declared.tree.Domain.TheVariants.{InNbrs}
use Rattle.gm_ast.specs.declared.tree.Head.{Head}
use Rattle.gm_ast.specs.declared.tree.Key.{Key}
use Rattle.gm_ast.specs.declared.tree.Target.{Target}
use Rattle.gm_ast.specs.declared.tree.Target.TheVariants as T
use Rattle.gm_ast.specs.Program.{Expr, Var, Live, Unary, Binary, Both, Either, Choose, Stmt, Then, Declare, Assign, Combine, Foreach, If}
use Rattle.gm_semantics.specs.Statements.{variable_at}
use Rattle.gm_forms.specs.Typing.{type_at}
use Rattle.gm_image.specs.Term.{Term, Global, Field, Self, Register, Message, Neighbour, Column}
use Rattle.gm_image.specs.Term as M
use Rattle.gm_image.specs.Program as image
use Rattle.gm_image.specs.Program.{Line, Block, Handler, Fold, SetRegister, Send, Each}
use Rattle.gm_lowering.specs.Layouts.{Layout, is_register, those}
use Rattle.gm_lowering.specs.Places.{Segment, segment, spots_in, total_index}
use Rattle.gm_lowering.specs.Terms.{Env, term, own_degree, own_env, each_env}
use Rattle.gm_lowering.specs.Plans.{Load, SenderItself, SenderProperty, SenderDegree, EdgeValue, same_load, carried, Away, aways, is_here}
use Rattle.gm_lowering.specs.Bodies.{Site, under, image_targets, lines_of, spots_of}

-- the blocks of a loop, one for each superstep, and the places of what may fault in them
pub record Lowered : Type 0 where
  pub blocks : List Block
  pub segment : Segment

-- what a sender reads of itself or of the edge
abbrev pub load_term : Layout → Load → Term
load_term c SenderItself = Self
load_term c (SenderProperty p) = Field (c.field p)
load_term c (SenderDegree d) = own_degree d
load_term c (EdgeValue p) = Column (c.column p)

-- the index of a load among some
abbrev pub load_index : Load → List Load → ℕ
load_index x [] = 0
load_index x (y ∷ ys) = if same_load x y then 0 else suc (load_index x ys)

-- a load of a message
abbrev pub message_value : List Load → Load → Term
message_value loads x = Message (load_index x loads)

-- at the receiver of a message, which stands for the inner iterator
abbrev pub receiver_env : Layout → Segment → ℕ → ℕ → List Load → Env
receiver_env c g n i loads = record (own_env c g i) {
  scalar = λ x. if nat_eq x n then message_value loads SenderItself else (own_env c g i).scalar x;
  property = λ x p. if nat_eq x n then message_value loads (SenderProperty p) else Field (c.field p);
  degree = λ d x. if nat_eq x n then message_value loads (SenderDegree d) else own_degree d;
  edge = λ p. message_value loads (EdgeValue p);
}

-- the sites of an own body, of an inner body at the outer node, and of one at the receiver
abbrev pub own_site : Layout → Segment → ℕ → Site
own_site c g n = record { layout = c; env = own_env c g n; node = n; iterators = n ∷ []; at_once = true }

abbrev pub each_site : Layout → Segment → ℕ → ℕ → Site
each_site c g n i = record { layout = c; env = each_env c g n i; node = n; iterators = n ∷ i ∷ []; at_once = false }

abbrev pub receiver_site : Layout → Segment → ℕ → ℕ → List Load → Site
receiver_site c g n i loads = record { layout = c; env = receiver_env c g n i loads; node = i; iterators = n ∷ i ∷ []; at_once = false }

-- the values of a message, from an index on, one for each target
abbrev pub message_values : ℕ → List Target → List Term
message_values i [] = []
message_values i (t ∷ ts) = Message i ∷ message_values (suc i) ts

-- what the receiver does with the values of a reduction
abbrev pub taking_handler : Layout → Segment → ℕ → Away → Handler
taking_handler c g kind a = record {
  kind = kind;
  lines = Fold a.reduce (total_index g a.total) (image_targets c a.targets (message_values 0 a.targets)) ∷ [];
}

abbrev pub taking_handlers : Layout → Segment → ℕ → List Away → List Handler
taking_handlers c g kind [] = []
taking_handlers c g kind (a ∷ more) = taking_handler c g kind a ∷ taking_handlers c g (suc kind) more

-- the block that takes what is sent for reductions, if there are any
abbrev pub taking_blocks : Layout → Segment → ℕ → List Away → List Block
taking_blocks c g kind [] = []
taking_blocks c g kind (a ∷ more) = record { handlers = taking_handlers c g kind (a ∷ more); body = [] } ∷ []

-- a block with no handlers
abbrev pub body_block : List Line → Block
body_block ls = record { handlers = []; body = ls }

-- the edges that an inner loop goes over
abbrev pub direction_of : Domain → image.Direction
direction_of InNbrs = image.In
direction_of _ = image.Out

-- lines for each edge
abbrev pub each_lines : Domain → List Line → List Line
each_lines d ls = Each (direction_of d) (length ls) ∷ ls

-- what a body does first with a local: it sets it, reads it, or neither
pub data FirstUse : Type 0 where
  Unused Set Read : FirstUse

abbrev pub next_use : FirstUse → FirstUse → FirstUse
next_use Unused u = u
next_use u v = u

-- of two ways one is taken
abbrev pub either_use : FirstUse → FirstUse → FirstUse
either_use Read v = Read
either_use u Read = Read
either_use Set Set = Set
either_use u v = Unused

abbrev pub use_if : Bool → FirstUse → FirstUse
use_if b u = if b then u else Unused

-- whether an expression reads a scalar
abbrev pub reads_scalar : ℕ → Expr → Bool
reads_scalar x (Var y at) = nat_eq x y
reads_scalar x (Live y at) = nat_eq x y
reads_scalar x (Unary op at e) = reads_scalar x e
reads_scalar x (Binary op at a b) = reads_scalar x a || reads_scalar x b
reads_scalar x (Both a b) = reads_scalar x a || reads_scalar x b
reads_scalar x (Either a b) = reads_scalar x a || reads_scalar x b
reads_scalar x (Choose c a b) = reads_scalar x c || (reads_scalar x a || reads_scalar x b)
reads_scalar x _ = false

abbrev pub reads_in_option : ℕ → Option Expr → Bool
reads_in_option x None = false
reads_in_option x (Some e) = reads_scalar x e

-- whether a target is a scalar, and whether it names it
abbrev pub is_scalar_target : ℕ → Target → Bool
is_scalar_target x (T.Scalar y at) = nat_eq x y
is_scalar_target x (T.Property y p at) = false

abbrev pub names_scalar : ℕ → Target → Bool
names_scalar x (T.Scalar y at) = nat_eq x y
names_scalar x (T.Property y p at) = nat_eq x y

-- what a body does first with a local
abbrev pub first_use : ℕ → Stmt → FirstUse
first_use x (Then a b) = next_use (first_use x a) (first_use x b)
first_use x (Declare k y e) = next_use (use_if (reads_in_option x e) Read) (use_if (nat_eq x y) Set)
first_use x (Assign k t e) = next_use (use_if (reads_scalar x e) Read) (use_if (is_scalar_target x t) Set)
first_use x (Combine k total r ts es) = use_if (list_any (reads_scalar x) es || list_any (names_scalar x) ts) Read
first_use x (If k c a b) = next_use (use_if (reads_scalar x c) Read) (either_use (first_use x a) (first_use x b))
first_use x _ = Unused

abbrev pub is_read : FirstUse → Bool
is_read Read = true
is_read _ = false

-- whether a local is read before it is set
abbrev pub is_read_first : Layout → Stmt → ℕ → Bool
is_read_first c body x = is_register (variable_at c.declarations x) && is_read (first_use x body)

-- a local at its first value
abbrev pub zero_line : Layout → ℕ → Line
zero_line c x = SetRegister (c.register x) (M.Const (zero_of (type_at c.declarations x)))

-- registers outlive an edge in an each: the locals that a body reads before it sets them begin anew
abbrev pub zero_lines : Layout → Stmt → List Line
zero_lines c body = map (zero_line c) (those (is_read_first c body) (length c.declarations))

-- a loop of own statements: the body under the filter, and what its messages do
abbrev pub own_loop : Layout → ℕ → ℕ → ℕ → Key → Expr → Stmt → Lowered
own_loop c base kind n k test body =
    let g = segment base (spots_in test k ++ spots_of c n (n ∷ []) true body) in
    record {
      blocks =
          body_block (under (term (own_env c g n) k test) (lines_of (own_site c g n) kind body))
          ∷ taking_blocks c g kind (aways c.declarations n body);
      segment = g;
    }

-- a loop whose inner one is evaluated at the outer node, for each of its edges
abbrev pub each_loop : Layout → ℕ → ℕ → ℕ → Key → Expr → Key → Head → Expr → Stmt → Lowered
each_loop c base kind n k mask j h test body =
    let i = h.iterator in
    let g = segment base (spots_in mask k ++ (spots_in test j ++ spots_of c n (n ∷ i ∷ []) false body)) in
    let lines = under (term (each_env c g n i) j test) (zero_lines c body ++ lines_of (each_site c g n i) kind body) in
    record {
      blocks =
          body_block (under (term (own_env c g n) k mask) (each_lines h.domain lines))
          ∷ taking_blocks c g kind (aways c.declarations n body);
      segment = g;
    }

-- a loop whose inner one is evaluated at the inner node, for each message with what it reads of the outer one
abbrev pub message_loop : Layout → ℕ → ℕ → ℕ → Key → Expr → Key → Head → Expr → Stmt → Lowered
message_loop c base kind n k mask j h test body =
    let i = h.iterator in
    let loads = carried n test body in
    let g = segment base (spots_in mask k ++ (spots_in test j ++ spots_of c i (n ∷ i ∷ []) false body)) in
    let send = Send kind Neighbour (map (load_term c) loads) ∷ [] in
    let handler : Handler = record {
      kind = kind;
      lines = under (term (receiver_env c g n i loads) j test) (lines_of (receiver_site c g n i loads) (suc kind) body);
    } in
    record {
      blocks =
          body_block (under (term (own_env c g n) k mask) (each_lines h.domain send))
          ∷ (record { handlers = handler ∷ []; body = [] }
          ∷ taking_blocks c g (suc kind) (aways c.declarations i body));
      segment = g;
    }

-- a loop over all nodes, whose places begin at an index and whose messages at a kind
abbrev pub loop : Layout → ℕ → ℕ → ℕ → Key → Expr → Stmt → Lowered
loop c base kind n k mask (Foreach j at h test body) =
    if is_here c.declarations n h test body then each_loop c base kind n k mask j h test body
    else message_loop c base kind n k mask j h test body
loop c base kind n k test body = own_loop c base kind n k test body
