-- The numbers of a joined image are in their ranges.
use Rattle.std.proofs.Common.{◌≡◌, ◌<◌, ◌≤◌, ℕ, zero, suc, ◌+◌, Bool, true, nat_lt, List, [], ◌∷◌, ◌++◌, map, filter, length, refl, ap, arith, length-append}
use Rattle.std.specs.Prelude.{IsTrue, slice_index_or}
use Rattle.std.specs.List.{AllByRecursion, list_all, flat_map, enumerate_from}
use Rattle.std.proofs.lemmas.Bool.{and_parts, ltb-true}
use Rattle.gm_value.specs.declared.values.VType.{VType}
use Rattle.gm_value.specs.declared.values.VType.TheVariants as types
use Rattle.gm_value.specs.Numbers.{zero_of}
use Rattle.gm_image.specs.Program.{Program, Block, Command, Step, Jump}
use Rattle.gm_image.specs.Rows.{Row, Plain, InputRow, OutputRow, ResultRow, ColumnsRow, KindRow, MasterRow, rows, rows_after, plain_rows, block_rows, command_rows}
use Rattle.gm_image.specs.Ranges.{Ranged, BlockRanged, LineRanged, CommandRanged, ValueInRange}
use Rattle.gm_image.specs.Soundness.{keeps_all, is_sound, line_limit}
use Rattle.gm_machine.specs.Machine.{block_at, no_block}
use Rattle.gm_merge_laws.specs.Joins.{Joinable, is_left, restart, restarts, joined_block, replaced, joined_image}
use Rattle.gm_merge_laws.proofs.Kept.{every-append}
use Rattle.gm_merge_laws.proofs.Bodies.{IsRegister, registers-are}
use Rattle.gm_merge_laws.proofs.Sounder.{within-get}

long-map : {A B : Type 0} (f : A → B) (xs : List A) → length (map f xs) ≡ length xs
long-map f [] = refl
long-map f (x ∷ xs) = ap suc (long-map f xs)

long-commands : (j : ℕ) (cs : List Command) → length (command_rows j cs) ≡ length cs
long-commands j [] = refl
long-commands j (c ∷ cs) = ap suc (long-commands (suc j) cs)

long-blocks : (blocks : List Block) → length blocks ≤ length (flat_map block_rows blocks)
long-blocks [] = omega arith
long-blocks (b ∷ blocks) =
    let more = long-blocks blocks in
    let e = length-append (block_rows b) (flat_map block_rows blocks) in
    let one : 1 ≤ length (block_rows b) = omega arith in
    omega arith

-- an image has no more registers, blocks and master lines than lines of text
record Few (p : Program) : Type 0 where
  pub registers : length p.registers < 4294967296
  pub blocks : length p.blocks < 4294967296
  pub master : length p.master < 4294967296

few : (p : Program) → IsTrue (is_sound p) → Few p
few p sound =
    let at_master : List Row = MasterRow ∷ command_rows 0 p.master in
    let at_blocks : List Row = flat_map block_rows p.blocks ++ at_master in
    let at_places : List Row = plain_rows p.places ++ Plain ∷ at_blocks in
    let at_kinds : List Row = map KindRow p.kinds ++ Plain ∷ at_places in
    let at_columns : List Row = plain_rows p.columns ++ Plain ∷ at_kinds in
    let at_registers : List Row = plain_rows p.registers ++ ColumnsRow ∷ at_columns in
    let at_fields : List Row = plain_rows p.fields ++ Plain ∷ at_registers in
    let at_globals : List Row = plain_rows p.globals ++ Plain ∷ at_fields in
    let at_result : List Row = ResultRow ∷ Plain ∷ at_globals in
    let at_outputs : List Row = rows_after OutputRow [] p.outputs ++ at_result in
    let h : length (rows p) < line_limit = ltb-true (length (rows p)) line_limit (and_parts (list_all (keeps_all p) (rows p)) (nat_lt (length (rows p)) line_limit) sound).1 in
    let e0 : length at_outputs ≤ length (rows p) = (let x = length-append (rows_after InputRow [] p.inputs) (Plain ∷ at_outputs) in omega arith) in
    let e1 : length at_globals ≤ length at_outputs = (let x = length-append (rows_after OutputRow [] p.outputs) at_result in omega arith) in
    let e2 : length at_fields ≤ length at_globals = (let x = length-append (plain_rows p.globals) (Plain ∷ at_fields) in omega arith) in
    let e3 : length at_registers ≤ length at_fields = (let x = length-append (plain_rows p.fields) (Plain ∷ at_registers) in omega arith) in
    let x4 = length-append (plain_rows p.registers) (ColumnsRow ∷ at_columns) in
    let e4 : length at_columns ≤ length at_registers = omega arith in
    let y4 = long-map (λ (t : VType). Plain) p.registers in
    let r4 : length p.registers ≤ length at_registers = omega arith in
    let e5 : length at_kinds ≤ length at_columns = (let x = length-append (plain_rows p.columns) (Plain ∷ at_kinds) in omega arith) in
    let e6 : length at_places ≤ length at_kinds = (let x = length-append (map KindRow p.kinds) (Plain ∷ at_places) in omega arith) in
    let e7 : length at_blocks ≤ length at_places = (let x = length-append (plain_rows p.places) (Plain ∷ at_blocks) in omega arith) in
    let x8 = length-append (flat_map block_rows p.blocks) at_master in
    let y8 = long-blocks p.blocks in
    let z8 = long-commands 0 p.master in
    let b8 : length p.blocks ≤ length at_blocks = omega arith in
    let m8 : length p.master ≤ length at_blocks = omega arith in
    let top : length at_blocks ≤ length (rows p) = omega arith in
    let up : length at_registers ≤ length (rows p) = omega arith in
    record { registers = omega arith; blocks = omega arith; master = omega arith }

zero-ranged : (t : VType) → ValueInRange (zero_of t)
zero-ranged types.I32 = refl
zero-ranged types.I64 = refl
zero-ranged types.Flag = tt
zero-ranged types.Node = tt

restarts-ranged : (p : Program) → length p.registers < 4294967296 → (ats : List (ℕ × VType)) → AllByRecursion (IsRegister p) ats → AllByRecursion LineRanged (map restart ats)
restarts-ranged p l [] h = tt
restarts-ranged p l (at ∷ ats) h = let below = h.0.1 in (((let x : at.0 < 4294967296 = omega arith in x), zero-ranged at.1), restarts-ranged p l ats h.1)

block-ranged : (blocks : List Block) (q : ℕ) → AllByRecursion BlockRanged blocks → BlockRanged (slice_index_or blocks q no_block)
block-ranged [] q h = (tt, tt)
block-ranged (b ∷ blocks) zero h = h.0
block-ranged (b ∷ blocks) (suc q) h = block-ranged blocks q h.1

replaced-ranged : (k : ℕ) (x y : Command) (ms : List Command) → CommandRanged x → CommandRanged y → AllByRecursion CommandRanged ms → AllByRecursion CommandRanged (replaced k x y ms)
replaced-ranged k x y [] hx hy h = tt
replaced-ranged zero x y (m ∷ []) hx hy h = h
replaced-ranged zero x y (m ∷ (n ∷ ms)) hx hy h = (hx, (hy, h.1.1))
replaced-ranged (suc k) x y (m ∷ ms) hx hy h = (h.0, replaced-ranged k x y ms hx hy h.1)

pub join-ranged : (p : Program) (i a b : ℕ) → IsTrue (is_sound p) → Ranged p → Joinable p i a b → Ranged (joined_image p i a b)
join-ranged p i a b sound ranged joinable =
    let counts : Few p = few p sound in
    let first : BlockRanged (block_at p a) = block-ranged p.blocks a ranged.blocks in
    let second : BlockRanged (block_at p b) = block-ranged p.blocks b ranged.blocks in
    let left : ℕ → Bool = is_left (block_at p a).body (block_at p b).body in
    let between : AllByRecursion LineRanged (restarts p.registers (block_at p a).body (block_at p b).body) = restarts-ranged p counts.registers (filter (λ at. left at.0) (enumerate_from 0 p.registers)) (registers-are p left) in
    let tail : AllByRecursion LineRanged (restarts p.registers (block_at p a).body (block_at p b).body ++ (block_at p b).body) =
    every-append (λ place. true) LineRanged (restarts p.registers (block_at p a).body (block_at p b).body) (block_at p b).body between second.1 in
    let whole : AllByRecursion LineRanged ((block_at p a).body ++ (restarts p.registers (block_at p a).body (block_at p b).body ++ (block_at p b).body)) =
    every-append (λ place. true) LineRanged (block_at p a).body (restarts p.registers (block_at p a).body (block_at p b).body ++ (block_at p b).body) first.1 tail in
    let inside = within-get p.master (i + 1) (Step b) joinable.second in
    let below : i + 1 < 4294967296 = (let m = counts.master in omega arith) in
    record {
      inputs = ranged.inputs;
      outputs = ranged.outputs;
      result = ranged.result;
      places = ranged.places;
      blocks = every-append (λ place. true) BlockRanged p.blocks (joined_block p.registers (block_at p a) (block_at p b) ∷ []) ranged.blocks ((first.0, whole), tt);
      master = replaced-ranged i (Jump (i + 1)) (Step (length p.blocks)) p.master below counts.blocks ranged.master;
    }
