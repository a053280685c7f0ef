-- When two consecutive steps of the master list may be one, and the image in which they are.
use Rattle.std.specs.Prelude.{ℕ, zero, suc, ◌+◌, ◌≡◌, nat_eq, nat_lt, Bool, true, false, not, ◌&&◌, ◌||◌, Some, List, [], ◌∷◌, ◌++◌, length, map, filter, slice_get}
use Rattle.std.specs.List.{list_all, flat_map, enumerate_from}
use Rattle.gm_value.specs.declared.values.VType.{VType}
use Rattle.gm_value.specs.Numbers.{zero_of}
use Rattle.gm_value.specs.Reductions.{picks}
use Rattle.gm_image.specs.Term.{Term, Const, Global, Register}
use Rattle.gm_image.specs.Program.{Program, Block, Line, Fold, SetRegister, Put, Send, Command, SetGlobal, Step, Jump, Test, Turn, Back, Finish}
use Rattle.gm_image.specs.Parts.{all_leaves, all_places, line_terms, is_among}
use Rattle.gm_image.specs.Rows.{handled_lines}
use Rattle.gm_image.specs.Folds.{puts_of}
use Rattle.gm_machine.specs.Machine.{block_at}

-- all lines of a block
abbrev pub block_lines : Block → List Line
block_lines b = handled_lines b ++ b.body

-- whether a line sends no message
abbrev pub sends_nothing : Line → Bool
sends_nothing (Send kind to ts) = false
sends_nothing l = true

-- the globals that lines put
abbrev pub put_globals : List Line → List ℕ
put_globals ls = flat_map (λ r. r.slots) (flat_map puts_of ls)

-- whether a leaf is none of some globals
abbrev pub is_no_global : List ℕ → Term → Bool
is_no_global gs (Global g) = not (is_among g gs)
is_no_global gs a = true

-- whether a line reads none of some globals
abbrev pub reads_no_global : List ℕ → Line → Bool
reads_no_global gs l = list_all (all_leaves (is_no_global gs)) (line_terms l)

-- whether a line puts none of some globals
abbrev pub puts_none : List ℕ → Line → Bool
puts_none gs l = list_all (λ r. list_all (λ s. not (is_among s gs)) r.slots) (puts_of l)

-- whether a test holds of the place of a line's reduction, if it is one
abbrev pub own_place : (ℕ → Bool) → Line → Bool
own_place test (Fold r place ts) = test place
own_place test (Put r place ts) = test place
own_place test l = true

-- whether a test holds of each place that a line names
abbrev pub line_places : (ℕ → Bool) → Line → Bool
line_places test l = own_place test l && list_all (all_places test) (line_terms l)

-- whether a place is less than every place that lines name
abbrev pub is_below : List Line → ℕ → Bool
is_below ls place = list_all (line_places (nat_lt place)) ls

-- whether a line's reduction never leaves its type, if it is one: it is neither Sum nor Product
abbrev pub own_picks : Line → Bool
own_picks (Fold r place ts) = picks r
own_picks (Put r place ts) = picks r
own_picks l = true

-- whether a line has nothing that can fault: no operation with a place, and no reduction by Sum or Product
abbrev pub cannot_fault : Line → Bool
cannot_fault l = own_picks l && list_all (all_places (λ place. false)) (line_terms l)

-- whether a block and the one that runs after it may be one. The first sends nothing. The second reads no global that the first puts, and none is put by both. Every place that the first names is less than every place that the second names. And either the second sends nothing, or the first has nothing that can fault.
abbrev pub are_joinable : Block → Block → Bool
are_joinable a b =
    list_all sends_nothing (block_lines a)
    && list_all (reads_no_global (put_globals (block_lines a))) (block_lines b)
    && list_all (puts_none (put_globals (block_lines a))) (block_lines b)
    && list_all (line_places (is_below (block_lines b))) (block_lines a)
    && (list_all sends_nothing (block_lines b) || list_all cannot_fault (block_lines a))

-- whether a line of the master list leads to no other line than the next by a jump to a line with a number
abbrev pub leads_elsewhere : ℕ → Command → Bool
leads_elsewhere j (SetGlobal g a) = true
leads_elsewhere j (Step q) = true
leads_elsewhere j (Jump to) = not (nat_eq to j)
leads_elsewhere j (Test to a) = not (nat_eq to j)
leads_elsewhere j (Turn exit a) = not (nat_eq exit j)
leads_elsewhere j (Back head) = not (nat_eq head j)
leads_elsewhere j Finish = true

-- line i of the master list and the one below it are joinable: they are steps of two blocks that may be one, and no line jumps to the second
pub record Joinable (p : Program) (i a b : ℕ) : Type 0 where
  pub first : slice_get p.master i ≡ Some (Step a)
  pub second : slice_get p.master (i + 1) ≡ Some (Step b)
  pub alone : list_all (leads_elsewhere (i + 1)) p.master ≡ true
  pub blocks : are_joinable (block_at p a) (block_at p b) ≡ true

-- whether a line sets a register
abbrev pub sets_register : ℕ → Line → Bool
sets_register r (SetRegister x a) = nat_eq x r
sets_register r l = false

-- whether a leaf is not a register
abbrev pub is_not_register : ℕ → Term → Bool
is_not_register r (Register x) = not (nat_eq x r)
is_not_register r a = true

-- whether a line does not read a register
abbrev pub reads_not : ℕ → Line → Bool
reads_not r l = list_all (all_leaves (is_not_register r)) (line_terms l)

-- whether one body leaves another one a register that it must not see: the first sets it and the second reads it
abbrev pub is_left : List Line → List Line → ℕ → Bool
is_left first second r = not (list_all (λ l. not (sets_register r l)) first) && not (list_all (reads_not r) second)

-- a register is as it was when the step began
abbrev pub restart : (ℕ × VType) → Line
restart at = SetRegister at.0 (Const (zero_of at.1))

-- the lines between two bodies, by which the second begins with the registers of a step that begins
abbrev pub restarts : List VType → List Line → List Line → List Line
restarts registers first second = map restart (filter (λ at. is_left first second at.0) (enumerate_from 0 registers))

-- two blocks as one: the second takes no message, since the first sends none
abbrev pub joined_block : List VType → Block → Block → Block
joined_block registers a b = record { handlers = a.handlers; body = a.body ++ (restarts registers a.body b.body ++ b.body) }

-- a list with two other commands at a line and the one below it
abbrev pub replaced : ℕ → Command → Command → List Command → List Command
replaced k x y [] = []
replaced zero x y (m ∷ []) = m ∷ []
replaced zero x y (m ∷ (n ∷ ms)) = x ∷ (y ∷ ms)
replaced (suc k) x y (m ∷ ms) = m ∷ replaced k x y ms

-- the image in which line i leads to the line below it, which is the step of both blocks. No line has another number
abbrev pub joined_image : Program → ℕ → ℕ → ℕ → Program
joined_image p i a b = record p {
  blocks = p.blocks ++ joined_block p.registers (block_at p a) (block_at p b) ∷ [];
  master = replaced i (Jump (i + 1)) (Step (length p.blocks)) p.master;
}
