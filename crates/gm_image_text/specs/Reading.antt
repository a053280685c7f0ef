-- Reading a line: what its words are read as, from left to right, if it is one of the lines that is wanted.
use Rattle.std.specs.Prelude.{ℕ, zero, suc, nat_lt, nat_eq, ◌&&◌, if◌then◌else◌, List, [], ◌∷◌, length, Option, Some, None, option_map, codes, bytes_eq}
use Rattle.std.specs.Borrow.{Bor}
use Rattle.gm_base.specs.declared.places.Place.{Place}
use Rattle.gm_value.specs.declared.values.VType.{VType}
use Rattle.gm_value.specs.declared.values.Value.{Value}
use Rattle.gm_value.specs.declared.reductions.Reduce.{Reduce}
use Rattle.gm_value.specs.declared.operations.Op1.TheVariants as op1
use Rattle.gm_value.specs.declared.operations.Op2.TheVariants as op2
use Rattle.gm_image.specs.declared.images.Kind.{Kind}
use Rattle.gm_image.specs.Term as T
use Rattle.gm_image.specs.Term.{Term}
use Rattle.gm_image.specs.Program as P
use Rattle.gm_image.specs.Program.{Holder, Item, Command, Target}
use Rattle.gm_image.specs.Fits.{is_extreme}
use Rattle.gm_image_text.specs.declared.heads.Leaf.{Leaf}
use Rattle.gm_image_text.specs.declared.heads.Leaf.TheVariants as leaf
use Rattle.gm_image_text.specs.declared.heads.Indexed.{Indexed}
use Rattle.gm_image_text.specs.declared.heads.Indexed.TheVariants as indexed
use Rattle.gm_image_text.specs.declared.heads.One.{One}
use Rattle.gm_image_text.specs.declared.heads.One.TheVariants as one
use Rattle.gm_image_text.specs.declared.heads.PlacedOne.{PlacedOne}
use Rattle.gm_image_text.specs.declared.heads.PlacedOne.TheVariants as placed_one
use Rattle.gm_image_text.specs.declared.heads.Two.{Two}
use Rattle.gm_image_text.specs.declared.heads.Two.TheVariants as two
use Rattle.gm_image_text.specs.declared.heads.PlacedTwo.{PlacedTwo}
use Rattle.gm_image_text.specs.declared.heads.PlacedTwo.TheVariants as placed_two
use Rattle.gm_image_text.specs.declared.heads.Head.{Head}
use Rattle.gm_image_text.specs.declared.heads.Head.TheVariants as head
use Rattle.gm_image_text.specs.declared.heads.Version.{Version}
use Rattle.gm_image_text.specs.declared.heads.Version.TheVariants as version
use Rattle.gm_image_text.specs.declared.heads.VertexHead.{VertexHead}
use Rattle.gm_image_text.specs.declared.heads.VertexHead.TheVariants as vertex
use Rattle.gm_image_text.specs.declared.heads.MasterHead.{MasterHead}
use Rattle.gm_image_text.specs.declared.heads.MasterHead.TheVariants as master
use Rattle.gm_image_text.specs.declared.heads.InputHead.{InputHead}
use Rattle.gm_image_text.specs.declared.heads.InputHead.TheVariants as input
use Rattle.gm_image_text.specs.declared.heads.OutputHead.{OutputHead}
use Rattle.gm_image_text.specs.declared.heads.OutputHead.TheVariants as output
use Rattle.gm_image.specs.Items.{direction_of}
use Rattle.gm_image_text.specs.Lines.{Word, Line, words_of, line_words}
use Rattle.gm_image_text.specs.Tables.{row_in, versions, heads, types, reductions, combiners, vertex_heads, master_heads, input_heads, output_heads, ways}
use Rattle.gm_image_text.specs.Numbers.{index_in, value_in}

infixl 10 ◌>>=◌
abbrev pub ◌>>=◌ : {A B : Type 0} → Option A → (A → Option B) → Option B
None >>= f = None
(Some x) >>= f = f x

-- something read from the first words, and the words behind it
abbrev pub Reads : Type 0 → Type 0
Reads X = List Word → Option (X × List Word)

-- the words of the first line, if it has its end, and the lines behind it
abbrev pub cut_at : List Line → Option (List Word × List Line)
cut_at [] = None
cut_at (l ∷ ls) = option_map (λ ws. (ws, ls)) (line_words l)

-- the words in what is left of a line
abbrev pub words_left : Option (Bor (List ℕ)) → List Word
words_left None = []
words_left (Some text) = words_of text.now

abbrev pub next_at : Reads Word
next_at [] = None
next_at (w ∷ ws) = Some (w, ws)

abbrev pub ended_at : List Word → Option (Unit {0})
ended_at [] = Some tt
ended_at (w ∷ ws) = None

-- the words behind this word
abbrev pub fixed_at : Word → List Word → Option (List Word)
fixed_at word [] = None
fixed_at word (w ∷ ws) = if bytes_eq w word then Some ws else None

-- what the first word means
abbrev pub word_at : {X : Type 0} → (Word → Option X) → Reads X
word_at meaning ws = next_at ws >>= λ w. meaning w.0 >>= λ x. Some (x, w.1)

-- one thing, and behind it another
abbrev pub then_at : {X Y : Type 0} → Reads X → Reads Y → Reads (X × Y)
then_at first second ws = first ws >>= λ x. second x.1 >>= λ y. Some ((x.0, y.0), y.1)

-- one thing, and behind it another to the end of the line
abbrev pub last_at : {X Y : Type 0} → Reads X → (List Word → Option Y) → List Word → Option (X × Y)
last_at first last ws = first ws >>= λ x. last x.1 >>= λ y. Some (x.0, y)

-- all words of a line
abbrev pub whole_at : {X : Type 0} → Reads X → List Word → Option X
whole_at read ws = read ws >>= λ x. ended_at x.1 >>= λ u. Some x.0

-- all words of a line that begins with this one
abbrev pub behind_at : {X : Type 0} → Word → Reads X → List Word → Option X
behind_at word read ws = fixed_at word ws >>= λ vs. whole_at read vs

abbrev pub index_at : Reads ℕ
index_at ws = word_at index_in ws

abbrev pub type_at : Reads VType
type_at ws = word_at (row_in types) ws

abbrev pub reduce_at : Reads Reduce
reduce_at ws = word_at (row_in reductions) ws

-- a name has a byte
abbrev pub name_in : Word → Option (List ℕ)
name_in [] = None
name_in (b ∷ bs) = Some (b ∷ bs)

abbrev pub name_at : Reads (List ℕ)
name_at ws = word_at name_in ws

-- a type and a constant of it
abbrev pub constant_at : Reads Value
constant_at ws = type_at ws >>= λ t. word_at (value_in t.0) t.1

abbrev pub leaf_term : Leaf → Term
leaf_term leaf.NodeCount = T.NodeCount
leaf_term leaf.EdgeCount = T.EdgeCount
leaf_term leaf.Id = T.Self
leaf_term leaf.OutDegree = T.OutDegree
leaf_term leaf.InDegree = T.InDegree
leaf_term leaf.Neighbour = T.Neighbour

abbrev pub indexed_term : Indexed → ℕ → Term
indexed_term indexed.Global i = T.Global i
indexed_term indexed.Field i = T.Field i
indexed_term indexed.Register i = T.Register i
indexed_term indexed.Message i = T.Message i
indexed_term indexed.Column i = T.Column i

abbrev pub one_term : One → Term → Term
one_term one.NodeAt a = T.NodeAt a
one_term one.ToLong a = T.Unary op1.ToI64 None a
one_term one.Not a = T.Unary op1.Not None a

abbrev pub placed_one_term : PlacedOne → ℕ → Term → Term
placed_one_term placed_one.Live p a = T.Live p a
placed_one_term placed_one.Neg p a = T.Unary op1.Neg (Some p) a
placed_one_term placed_one.ToInt p a = T.Unary op1.ToI32 (Some p) a

abbrev pub two_term : Two → Term → Term → Term
two_term two.Eq a b = T.Binary op2.Eq None a b
two_term two.Ne a b = T.Binary op2.Ne None a b
two_term two.Lt a b = T.Binary op2.Lt None a b
two_term two.Gt a b = T.Binary op2.Gt None a b
two_term two.Le a b = T.Binary op2.Le None a b
two_term two.Ge a b = T.Binary op2.Ge None a b
two_term two.And a b = T.And a b
two_term two.Or a b = T.Or a b

abbrev pub placed_two_term : PlacedTwo → ℕ → Term → Term → Term
placed_two_term placed_two.Add p a b = T.Binary op2.Add (Some p) a b
placed_two_term placed_two.Sub p a b = T.Binary op2.Sub (Some p) a b
placed_two_term placed_two.Mul p a b = T.Binary op2.Mul (Some p) a b
placed_two_term placed_two.Div p a b = T.Binary op2.Div (Some p) a b
placed_two_term placed_two.Rem p a b = T.Binary op2.Rem (Some p) a b

abbrev pub choice_term : Term → Term → Term → Term
choice_term c a b = T.Choose c a b

-- the rest of an expression behind its first word; `read` reads its parts
abbrev pub behind_head : Reads Term → Head → Reads Term
behind_head read head.Constant ws = constant_at ws >>= λ v. Some (T.Const v.0, v.1)
behind_head read (head.Leaf l) ws = Some (leaf_term l, ws)
behind_head read (head.Indexed k) ws = index_at ws >>= λ i. Some (indexed_term k i.0, i.1)
behind_head read (head.One op) ws = read ws >>= λ a. Some (one_term op a.0, a.1)
behind_head read (head.PlacedOne op) ws = index_at ws >>= λ p. read p.1 >>= λ a. Some (placed_one_term op p.0 a.0, a.1)
behind_head read (head.Two op) ws = read ws >>= λ a. read a.1 >>= λ b. Some (two_term op a.0 b.0, b.1)
behind_head read (head.PlacedTwo op) ws = index_at ws >>= λ p. read p.1 >>= λ a. read a.1 >>= λ b. Some (placed_two_term op p.0 a.0 b.0, b.1)
behind_head read head.Choice ws = read ws >>= λ c. read c.1 >>= λ a. read a.1 >>= λ b. Some (choice_term c.0 a.0 b.0, b.1)

-- an expression of at most so many levels
abbrev pub term_at : ℕ → Reads Term
term_at zero ws = None
term_at (suc n) ws = word_at (row_in heads) ws >>= λ h. behind_head (λ vs. term_at n vs) h.0 h.1

-- an expression of a line
unfoldable pub expression_at : Reads Term
expression_at ws = term_at 1024 ws

-- things to the end of the line, at most so many
abbrev pub all_upto : {X : Type 0} → Reads X → ℕ → List Word → Option (List X)
all_upto read k [] = Some []
all_upto read zero (w ∷ ws) = None
all_upto read (suc k) (w ∷ ws) = read (w ∷ ws) >>= λ x. all_upto read k x.1 >>= λ more. Some (x.0 ∷ more)

-- things to the end of the line
abbrev pub all_in : {X : Type 0} → Reads X → List Word → Option (List X)
all_in read ws = all_upto read (length ws) ws

-- expressions to the end of the line
abbrev pub terms_in : List Word → Option (List Term)
terms_in ws = all_in expression_at ws

-- types to the end of the line
abbrev pub types_in : List Word → Option (List VType)
types_in [] = Some []
types_in (w ∷ ws) = row_in types w >>= λ t. types_in ws >>= λ more. Some (t ∷ more)

abbrev pub input_holder : InputHead → Holder
input_holder input.Scalar = P.Scalar
input_holder input.Node = P.Node
input_holder input.Edge = P.Edge

abbrev pub output_holder : OutputHead → Holder
output_holder output.Scalar = P.Scalar
output_holder output.Node = P.Node

-- the first line, which says the version
abbrev pub first_row : List Word → Option Version
first_row ws = behind_at (codes "gm-image") (word_at (row_in versions)) ws

abbrev pub name_row : List Word → Option (List ℕ)
name_row ws = behind_at (codes "name") name_at ws

-- a header with a count
abbrev pub count_row : Word → List Word → Option ℕ
count_row word ws = behind_at word index_at ws

-- the rest of an input or an output behind its first word
abbrev pub item_at : Reads (VType × (List ℕ × ℕ))
item_at ws = then_at type_at (then_at name_at index_at) ws

abbrev pub item_of : Holder → VType × (List ℕ × ℕ) → Item
item_of h x = record { holder = h; vtype = x.0; name = x.1.0; slot = x.1.1 }

abbrev pub input_row : List Word → Option Item
input_row ws = option_map (λ x. item_of (input_holder x.0) x.1) (whole_at (then_at (word_at (row_in input_heads)) item_at) ws)

abbrev pub output_row : List Word → Option Item
output_row ws = option_map (λ x. item_of (output_holder x.0) x.1) (whole_at (then_at (word_at (row_in output_heads)) item_at) ws)

-- the result, where the first word is no `-`
abbrev pub result_in : List Word → Option (Option (VType × ℕ))
result_in [] = None
result_in (w ∷ ws) = if bytes_eq w (codes "-") then option_map (λ u. None) (ended_at ws) else option_map (λ r. Some r) (whole_at (then_at type_at index_at) (w ∷ ws))

abbrev pub result_row : List Word → Option (Option (VType × ℕ))
result_row ws = fixed_at (codes "result") ws >>= λ vs. result_in vs

abbrev pub type_row : List Word → Option VType
type_row ws = whole_at type_at ws

abbrev pub kind_of : Option Reduce × List VType → Kind
kind_of k = record { combiner = k.0; values = k.1 }

abbrev pub kind_row : List Word → Option Kind
kind_row ws = option_map kind_of (last_at (word_at (row_in combiners)) types_in ws)

abbrev pub place_of : ℕ × ℕ → Place
place_of p = record { line = p.0; col = p.1 }

abbrev pub place_row : List Word → Option Place
place_row ws = option_map place_of (whole_at (then_at index_at index_at) ws)

-- the first line of a handler: its kind and how many lines it has
abbrev pub on_row : List Word → Option (ℕ × ℕ)
on_row ws = behind_at (codes "on") (then_at index_at index_at) ws

-- an index and an expression, which are all words
abbrev pub slot_in : List Word → Option (ℕ × Term)
slot_in ws = whole_at (then_at index_at expression_at) ws

-- an index, which is all words
abbrev pub only_index : List Word → Option ℕ
only_index ws = whole_at index_at ws

-- a reduction, a place, and one slot with its value, which are all words
abbrev pub reduced_in : List Word → Option (Reduce × (ℕ × (ℕ × Term)))
reduced_in ws = last_at reduce_at (λ vs. last_at index_at slot_in vs) ws

abbrev pub fold_of : Reduce × (ℕ × (ℕ × Term)) → P.Line
fold_of x = P.Fold x.0 x.1.0 (record { slot = x.1.1.0; term = x.1.1.1 } ∷ [])

abbrev pub put_of : Reduce × (ℕ × (ℕ × Term)) → P.Line
put_of x = P.Put x.0 x.1.0 (record { slot = x.1.1.0; term = x.1.1.1 } ∷ [])

-- a reduction that takes the least or the greatest
abbrev pub extreme_from : Option Reduce → Option Reduce
extreme_from None = None
extreme_from (Some r) = if is_extreme r then Some r else None

abbrev pub extreme_in : Word → Option Reduce
extreme_in word = extreme_from (row_in reductions word)

abbrev pub target_of : ℕ × Term → Target
target_of x = record { slot = x.0; term = x.1 }

-- a slot and its value
abbrev pub target_at : Reads Target
target_at ws = option_map (λ x. (target_of x.0, x.1)) (then_at index_at expression_at ws)

-- two things and more, where a count says how many they are
abbrev pub counted : {X : Type 0} → ℕ → List X → Option (List X)
counted n xs = if nat_lt 1 n && nat_eq n (length xs) then Some xs else None

-- a count, and behind it so many slots with their values, which are all words
abbrev pub several_in : List Word → Option (List Target)
several_in ws = index_at ws >>= λ n. all_in target_at n.1 >>= λ ts. counted n.0 ts

-- a least or a greatest, a place, and several slots with their values, which are all words, in a version that has them
abbrev pub picked_in : Version → List Word → Option (Reduce × (ℕ × List Target))
picked_in version.One ws = None
picked_in version.Two ws = last_at (word_at extreme_in) (λ vs. last_at index_at several_in vs) ws

abbrev pub pick_of : Reduce × (ℕ × List Target) → P.Line
pick_of x = P.Fold x.0 x.1.0 x.1.1

abbrev pub pickput_of : Reduce × (ℕ × List Target) → P.Line
pickput_of x = P.Put x.0 x.1.0 x.1.1

-- the rest of a vertex line behind its first word
abbrev pub vertex_behind : Version → VertexHead → List Word → Option P.Line
vertex_behind v vertex.SetField ws = option_map (λ x. P.SetField x.0 x.1) (slot_in ws)
vertex_behind v vertex.Fold ws = option_map fold_of (reduced_in ws)
vertex_behind v vertex.Pick ws = option_map pick_of (picked_in v ws)
vertex_behind v vertex.SetRegister ws = option_map (λ x. P.SetRegister x.0 x.1) (slot_in ws)
vertex_behind v vertex.Put ws = option_map put_of (reduced_in ws)
vertex_behind v vertex.PickPut ws = option_map pickput_of (picked_in v ws)
vertex_behind v vertex.Send ws = option_map (λ x. P.Send x.0 x.1.0 x.1.1) (last_at index_at (λ vs. last_at expression_at terms_in vs) ws)
vertex_behind v vertex.Skip ws = option_map (λ x. P.Skip x.0 x.1) (slot_in ws)
vertex_behind v vertex.Each ws = option_map (λ x. P.Each (direction_of x.0) x.1) (last_at (word_at (row_in ways)) only_index ws)

abbrev pub vertex_row : Version → List Word → Option P.Line
vertex_row v ws = word_at (row_in vertex_heads) ws >>= λ h. vertex_behind v h.0 h.1

-- the rest of a master line behind its first word
abbrev pub master_behind : MasterHead → List Word → Option Command
master_behind master.SetGlobal ws = option_map (λ x. P.SetGlobal x.0 x.1) (slot_in ws)
master_behind master.Step ws = option_map (λ q. P.Step q) (only_index ws)
master_behind master.Jump ws = option_map (λ j. P.Jump j) (only_index ws)
master_behind master.Test ws = option_map (λ x. P.Test x.0 x.1) (slot_in ws)
master_behind master.Turn ws = option_map (λ x. P.Turn x.0 x.1) (slot_in ws)
master_behind master.Back ws = option_map (λ h. P.Back h) (only_index ws)
master_behind master.Finish ws = option_map (λ u. P.Finish) (ended_at ws)

abbrev pub master_row : List Word → Option Command
master_row ws = word_at (row_in master_heads) ws >>= λ h. master_behind h.0 h.1
