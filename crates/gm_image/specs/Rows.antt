-- The lines of an image's text, each with what its rules have to know.
use Rattle.std.specs.Prelude.{ℕ, zero, suc, Option, Some, None, List, [], ◌∷◌, ◌++◌, length, map, take}
use Rattle.std.specs.List.{flat_map}
use Rattle.gm_image.specs.declared.images.Kind.{Kind}
use Rattle.gm_image.specs.Program.{Program, Direction, Line, Each, Command, Item, Handler, Block}

-- how many lines of an each follow a line, where so many of one are left at it; outside an each none are left
abbrev pub left_after : ℕ → Line → ℕ
left_after zero (Each d n) = n
left_after zero l = 0
left_after (suc left) l = left

-- the lines around a line in which each field is folded by one reduction: those of an each, or those of a block's handlers
pub record Around : Type 0 where
  -- the edges of the each, none where the line stands in no each
  pub each : Option Direction
  -- how many lines of the each are left at the line, itself counted
  pub left : ℕ
  -- all lines of it, and those before the line
  pub lines : List Line
  pub before : List Line

-- around a line of a body that stands in no each
abbrev pub outside : Around
outside = record { each = None; left = 0; lines = []; before = [] }

-- around the first line of an each with some lines, the first ones of a list
abbrev pub each_around : Line → ℕ → List Line → Around
each_around (Each d n) left ls = record { each = Some d; left = left; lines = take left ls; before = [] }
each_around l left ls = outside

-- around the next line of the same each
abbrev pub further : Around → Line → ℕ → Around
further a l left = record a { left = left; before = a.before ++ l ∷ [] }

-- around the line after one, by how many lines of an each are left at it and before, and by what follows
abbrev pub around_by : ℕ → ℕ → Around → Line → List Line → Around
around_by zero old a l ls = outside
around_by (suc left) zero a l ls = each_around l (suc left) ls
around_by (suc left) (suc old) a l ls = further a l (suc left)

-- around the line after one
abbrev pub around_next : Around → Line → List Line → Around
around_next a l ls = around_by (left_after a.left l) a.left a l ls

-- around a line of a block's handlers, of which these are all lines and those before it
abbrev pub in_handlers : List Line → List Line → Around
in_handlers lines before = record { each = None; left = 0; lines = lines; before = before }

-- where a line of a vertex program stands
pub record Site : Type 0 where
  -- the kind of its handler, none in a body
  pub kind : Option ℕ
  pub around : Around
  -- the lines of its block before it, and of its own list after it
  pub earlier : List Line
  pub later : List Line

-- a line of an image's text, by what the rules have to know of it
pub data Row : Type 0 where
  Plain : Row
  NameRow : Row
  InputRow : (before : List Item) (i : Item) → Row
  OutputRow : (before : List Item) (i : Item) → Row
  ResultRow : Row
  ColumnsRow : Row
  KindRow : (k : Kind) → Row
  HandlerRow : (before : List Handler) (h : Handler) → Row
  LineRow : (site : Site) (l : Line) → Row
  MasterRow : Row
  CommandRow : (index : ℕ) (c : Command) → Row

-- the lines of some items, each of which knows the items before it
abbrev pub rows_after : {A : Type 0} → (List A → A → Row) → List A → List A → List Row
rows_after row before [] = []
rows_after row before (x ∷ xs) = row before x ∷ rows_after row (before ++ x ∷ []) xs

-- a line for each item that no rule looks at
abbrev pub plain_rows : {A : Type 0} → List A → List Row
plain_rows xs = map (λ _. Plain) xs

-- the lines of a body: the lines of the block before them, and what is around the first
abbrev pub body_rows : List Line → Around → List Line → List Row
body_rows earlier a [] = []
body_rows earlier a (l ∷ ls) =
    LineRow (record { kind = None; around = a; earlier = earlier; later = ls }) l
    ∷ body_rows (earlier ++ l ∷ []) (around_next a l ls) ls

-- the lines of a handler of a kind: all lines of the block's handlers, and those before these
abbrev pub handler_rows : List Line → ℕ → List Line → List Line → List Row
handler_rows all kind earlier [] = []
handler_rows all kind earlier (l ∷ ls) =
    LineRow (record { kind = Some kind; around = in_handlers all earlier; earlier = earlier; later = ls }) l
    ∷ handler_rows all kind (earlier ++ l ∷ []) ls

-- the lines of a block's handlers, and their headers: all lines of the handlers, those before these, and the handlers before these
abbrev pub handlers_rows : List Line → List Line → List Handler → List Handler → List Row
handlers_rows all earlier before [] = []
handlers_rows all earlier before (h ∷ hs) =
    HandlerRow before h
    ∷ (handler_rows all h.kind earlier h.lines ++ handlers_rows all (earlier ++ h.lines) (before ++ h ∷ []) hs)

-- the lines of a block's handlers, one after another
abbrev pub handled_lines : Block → List Line
handled_lines b = flat_map (λ h. h.lines) b.handlers

-- the lines of a block, with its two headers
abbrev pub block_rows : Block → List Row
block_rows b =
    Plain
    ∷ (handlers_rows (handled_lines b) [] [] b.handlers ++ Plain ∷ body_rows (handled_lines b) outside b.body)

-- the lines of a master list from an index on
abbrev pub command_rows : ℕ → List Command → List Row
command_rows j [] = []
command_rows j (c ∷ cs) = CommandRow j c ∷ command_rows (suc j) cs

-- the lines of an image's text: the version, the name, and each part with its header
abbrev pub rows : Program → List Row
rows p =
    Plain
    ∷ NameRow
    ∷ Plain
    ∷ (rows_after InputRow [] p.inputs
    ++ Plain ∷ (rows_after OutputRow [] p.outputs
    ++ ResultRow
    ∷ Plain ∷ (plain_rows p.globals
    ++ Plain ∷ (plain_rows p.fields
    ++ Plain ∷ (plain_rows p.registers
    ++ ColumnsRow ∷ (plain_rows p.columns
    ++ Plain ∷ (map KindRow p.kinds
    ++ Plain ∷ (plain_rows p.places
    ++ Plain ∷ (flat_map block_rows p.blocks
    ++ MasterRow ∷ command_rows 0 p.master)))))))))

-- how many lines an image's text has
abbrev pub line_count : Program → ℕ
line_count p = length (rows p)
