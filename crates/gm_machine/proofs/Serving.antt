-- What serves a whole serves its parts.
use Rattle.std.proofs.Common.{◌≡◌, ◌<◌, ◌+◌, ℕ, zero, suc, Bool, true, false, ◌&&◌, nat_eq, Option, Some, List, [], ◌∷◌, map, find, if◌then◌else◌, take, drop, length, get_or, refl, sym, subst, arith}
use Rattle.std.specs.Prelude.{slice_index_or}
use Rattle.std.specs.List.{list_all}
use Rattle.std.proofs.lemmas.Bool.{and_parts}
use Rattle.gm_model.specs.Graphs.{NumberedGraph}
use Rattle.gm_image.specs.declared.lines.Expr as E
use Rattle.gm_image.specs.declared.lines.MasterLine.{MasterLine}
use Rattle.gm_image.specs.declared.lines.VertexLine.{VertexLine}
use Rattle.gm_image.specs.Parts.{terms_of}
use Rattle.gm_image.specs.Program.{Program, Block, Handler, Line}
use Rattle.gm_image.specs.Term.{Term, Choose}
use Rattle.gm_image.specs.Views.{command, line, target, term}
use Rattle.gm_graph.specs.Serving.{Serve}
use Rattle.gm_graph.proofs.Serving.{front, implied, item, joined, left, rest, right}
use Rattle.gm_machine.specs.Asking.{IsServed, block_outward, command_outward, handler_outward, line_outward, reads_outward}
use Rattle.gm_machine.specs.Machine.{block_at, no_block}
use Rattle.gm_machine.specs.Vertex.{handler_lines, lines_of}

-- the parts of a choice
pub choose_test : (rows : Option NumberedGraph) (c a b : Term) → Serve rows (reads_outward (Choose c a b)) → Serve rows (reads_outward c)
choose_test rows c a b h = left rows (reads_outward c) (reads_outward a) (left rows (reads_outward c && reads_outward a) (reads_outward b) h)

pub choose_yes : (rows : Option NumberedGraph) (c a b : Term) → Serve rows (reads_outward (Choose c a b)) → Serve rows (reads_outward a)
choose_yes rows c a b h = right rows (reads_outward c) (reads_outward a) (left rows (reads_outward c && reads_outward a) (reads_outward b) h)

pub choose_no : (rows : Option NumberedGraph) (c a b : Term) → Serve rows (reads_outward (Choose c a b)) → Serve rows (reads_outward b)
choose_no rows c a b h = right rows (reads_outward c && reads_outward a) (reads_outward b) h

-- the value for a slot
pub slot : (rows : Option NumberedGraph) (ts : List (ℕ × E.Expr)) (i : ℕ) (d : ℕ × E.Expr) → i < length ts → Serve rows (list_all reads_outward (terms_of (map target ts))) → Serve rows (reads_outward (term (get_or ts i d).1))
slot rows ts i d lt h = implied rows (list_all reads_outward (terms_of (map target ts))) (reads_outward (term (get_or ts i d).1)) (among ts i lt) h where
  among : (xs : List (ℕ × E.Expr)) (k : ℕ) → k < length xs → list_all reads_outward (terms_of (map target xs)) ≡ true → reads_outward (term (get_or xs k d).1) ≡ true
  among [] k lt h = absurd (omega arith)
  among (x ∷ xs) zero lt h = (and_parts (reads_outward (term x.1)) (list_all reads_outward (terms_of (map target xs))) h).0
  among (x ∷ xs) (suc k) lt h = among xs k (omega arith) (and_parts (reads_outward (term x.1)) (list_all reads_outward (terms_of (map target xs))) h).1

-- the lines of a handler for a kind
kind-lines : (hs : List Handler) (kind : ℕ) → list_all handler_outward hs ≡ true → list_all line_outward (handler_lines hs kind) ≡ true
kind-lines [] kind h = refl
kind-lines (g ∷ hs) kind h =
    let both = and_parts (handler_outward g) (list_all handler_outward hs) h in
    one (nat_eq g.kind kind) both.0 (kind-lines hs kind both.1) where
      one : (b : Bool) → list_all line_outward g.lines ≡ true → list_all line_outward (handler_lines hs kind) ≡ true → list_all line_outward (lines_of (if b then Some g else find (λ x. nat_eq x.kind kind) hs)) ≡ true
      one true a rest = a
      one false a rest = rest

pub for_kind : (rows : Option NumberedGraph) (hs : List Handler) (kind : ℕ) → Serve rows (list_all handler_outward hs) → Serve rows (list_all line_outward (handler_lines hs kind))
for_kind rows hs kind h = implied rows (list_all handler_outward hs) (list_all line_outward (handler_lines hs kind)) (kind-lines hs kind) h

-- an item of a list
pub term_item : (rows : Option NumberedGraph) (ts : List E.Expr) (i : ℕ) (x : E.Expr) → i < length ts → x ≡ get_or ts i x → Serve rows (list_all reads_outward (map term ts)) → Serve rows (reads_outward (term x))
term_item rows ts i x lt is h = let P : E.Expr → Type 0 = λ y. Serve rows (reads_outward (term y)) in subst P (sym is) (item rows reads_outward term ts i x lt h)

pub slot_item : (rows : Option NumberedGraph) (ts : List (ℕ × E.Expr)) (i : ℕ) (x : ℕ × E.Expr) → i < length ts → x ≡ get_or ts i x → Serve rows (list_all reads_outward (terms_of (map target ts))) → Serve rows (reads_outward (term x.1))
slot_item rows ts i x lt is h = let P : ℕ × E.Expr → Type 0 = λ y. Serve rows (reads_outward (term y.1)) in subst P (sym is) (slot rows ts i x lt h)

pub line_item : (rows : Option NumberedGraph) (ls : List VertexLine) (i : ℕ) (x : VertexLine) → i < length ls → x ≡ get_or ls i x → Serve rows (list_all line_outward (map line ls)) → Serve rows (line_outward (line x))
line_item rows ls i x lt is h = let P : VertexLine → Type 0 = λ y. Serve rows (line_outward (line y)) in subst P (sym is) (item rows line_outward line ls i x lt h)

pub command_item : (rows : Option NumberedGraph) (ms : List MasterLine) (i : ℕ) (x : MasterLine) → i < length ms → x ≡ get_or ms i x → Serve rows (list_all command_outward (map command ms)) → Serve rows (command_outward (command x))
command_item rows ms i x lt is h = let P : MasterLine → Type 0 = λ y. Serve rows (command_outward (command y)) in subst P (sym is) (item rows command_outward command ms i x lt h)

-- a line of a body, with lines behind it
pub body_item : (rows : Option NumberedGraph) (ls : List VertexLine) (n i : ℕ) (x : VertexLine) → i < length ls → x ≡ get_or ls i x → Serve rows (list_all line_outward (map line ls))
    → Serve rows (line_outward (line x) && list_all line_outward (map line (take n (drop (i + 1) ls))))
body_item rows ls n i x lt is h =
    joined rows (line_outward (line x)) (list_all line_outward (map line (take n (drop (i + 1) ls)))) (line_item rows ls i x lt is h) (front rows line_outward line (drop (i + 1) ls) n (rest rows line_outward line ls (i + 1) h))

-- the lines that an each takes
pub each_front : (rows : Option NumberedGraph) (d : Bool) (ls : List VertexLine) (k : ℕ) → Serve rows (d && list_all line_outward (map line ls)) → Serve rows (d && list_all line_outward (map line (take k ls)))
each_front rows d ls k h =
    joined rows d (list_all line_outward (map line (take k ls))) (left rows d (list_all line_outward (map line ls)) h) (front rows line_outward line ls k (right rows d (list_all line_outward (map line ls)) h))

pub kind_served : (rows : Option NumberedGraph) (hs : List Handler) (kind : ℕ) (ls : List Line) → ls ≡ handler_lines hs kind → Serve rows (list_all handler_outward hs) → Serve rows (list_all line_outward ls)
kind_served rows hs kind ls is h = let P : List Line → Type 0 = λ l. Serve rows (list_all line_outward l) in subst P (sym is) (for_kind rows hs kind h)

-- the block of an image
block-passes : (bs : List Block) (q : ℕ) → list_all block_outward bs ≡ true → block_outward (slice_index_or bs q no_block) ≡ true
block-passes [] q h = refl
block-passes (b ∷ bs) zero h = (and_parts (block_outward b) (list_all block_outward bs) h).0
block-passes (b ∷ bs) (suc q) h = block-passes bs q (and_parts (block_outward b) (list_all block_outward bs) h).1

pub block_served : (rows : Option NumberedGraph) (g : NumberedGraph) (p : Program) (q : ℕ) → IsServed p g rows → Serve rows (block_outward (block_at p q))
block_served rows g p q h =
    implied rows (list_all block_outward p.blocks) (block_outward (block_at p q)) (block-passes p.blocks q) (left rows (list_all block_outward p.blocks) (list_all command_outward p.master) h.asked)

pub master_served : (rows : Option NumberedGraph) (g : NumberedGraph) (p : Program) → IsServed p g rows → Serve rows (list_all command_outward p.master)
master_served rows g p h = right rows (list_all block_outward p.blocks) (list_all command_outward p.master) h.asked

pub code_served : (rows : Option NumberedGraph) (g : NumberedGraph) (p : Program) (q : ℕ) (code : Block) → code ≡ block_at p q → IsServed p g rows → Serve rows (block_outward code)
code_served rows g p q code is h = let P : Block → Type 0 = λ b. Serve rows (block_outward b) in subst P (sym is) (block_served rows g p q h)
