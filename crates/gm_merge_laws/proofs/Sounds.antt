-- What is asked of joined blocks holds of joinable ones in a sound image.
use Rattle.std.proofs.Common.{◌≡◌, ◌<◌, ◌≤◌, ℕ, zero, suc, Bool, true, false, cond, ◌&&◌, ◌||◌, not, nat_eq, nat_lt, Some, None, List, [], ◌∷◌, ◌++◌, map, length, refl, ap, ◌∙◌, arith}
use Rattle.std.specs.Prelude.{IsTrue, ◌==◌, slice_index_or, nat_le, is_none}
use Rattle.std.specs.List.{AllByRecursion, list_all, flat_map}
use Rattle.std.proofs.lemmas.Bool.{and_parts, ltb-true, leb-true}
use Rattle.gm_value.specs.declared.values.Value.{Value}
use Rattle.gm_model.specs.Graphs.{NumberedGraph}
use Rattle.gm_image.specs.declared.rules.ImageRule.TheVariants.{I1, I6}
use Rattle.gm_image.specs.Term.{Term, Const, Global, NodeCount, EdgeCount, Field, Self, OutDegree, InDegree, Register, Message, Neighbour, Column, NodeAt, Live, Unary, Binary, And, Or, Choose}
use Rattle.gm_image.specs.Program.{Program, Block, Handler, Line, Command, SetField, Fold, SetRegister, Put, Send, Skip, Each}
use Rattle.gm_image.specs.Parts.{all_places, terms_of, slots_of, is_among, command_terms}
use Rattle.gm_image.specs.Rows.{Row, Plain, NameRow, InputRow, OutputRow, ResultRow, ColumnsRow, KindRow, LineRow, MasterRow, CommandRow, Around, Site, rows, rows_after, plain_rows, block_rows, handlers_rows, handled_lines, body_rows, command_rows, outside, around_next, around_by, left_after}
use Rattle.gm_image.specs.Folds.{puts_of}
use Rattle.gm_image.specs.Indices.{command_in_range, term_in_range}
use Rattle.gm_image.specs.Spans.{line_stays, skips_whole, left_past}
use Rattle.gm_image.specs.Ranges.{Ranged, BlockRanged, HandlerRanged, LineRanged}
use Rattle.gm_image.specs.Soundness.{keeps, keeps_all, image_rules, is_sound, line_limit}
use Rattle.gm_machine.specs.Machine.{block_at, no_block, machine, start_control, start_nodes}
use Rattle.gm_machine.proofs.SoundHandlers.{all_front, all_back, all_first, all_rest, all_at, blocks_pass}
use Rattle.gm_machine.proofs.SoundFolds.{among-here, among-later}
use Rattle.gm_merge_laws.specs.Joins.{block_lines, sends_nothing, put_globals, reads_no_global, puts_none, line_places, is_below, cannot_fault, are_joinable, Joinable, joined_image}
use Rattle.gm_merge_laws.specs.Outcomes.{NoWorse}
use Rattle.gm_merge_laws.proofs.Invariants.{all-pass}
use Rattle.gm_merge_laws.proofs.Concats.{span, Stays}
use Rattle.gm_merge_laws.proofs.Kept.{FineLine, every-append}
use Rattle.gm_merge_laws.proofs.Supersteps.{Fit}
use Rattle.gm_merge_laws.proofs.Masters.{runs-close}

-- lines stay within their body
pub around-short : (n old : ℕ) (a : Around) (l : Line) (ls : List Line) → (around_by n old a l ls).left ≤ n
around-short zero old a l ls = omega arith
around-short (suc n) zero a (Each d k) ls = omega arith
around-short (suc n) zero a (SetField f t) ls = omega arith
around-short (suc n) zero a (Fold r place ts) ls = omega arith
around-short (suc n) zero a (SetRegister r t) ls = omega arith
around-short (suc n) zero a (Put r place ts) ls = omega arith
around-short (suc n) zero a (Send k to ts) ls = omega arith
around-short (suc n) zero a (Skip k t) ls = omega arith
around-short (suc n) (suc old) a l ls = omega arith

pub left-short : (left : ℕ) (l : Line) (n : ℕ) → left ≤ suc n → span l ≤ n → left_after left l ≤ n
left-short zero (Each d k) n h s = s
left-short zero (SetField f t) n h s = omega arith
left-short zero (Fold r place ts) n h s = omega arith
left-short zero (SetRegister r t) n h s = omega arith
left-short zero (Put r place ts) n h s = omega arith
left-short zero (Send k to ts) n h s = omega arith
left-short zero (Skip k t) n h s = omega arith
left-short (suc left) l n h s = omega arith

pub span-short : (s : Site) (l : Line) → s.around.left ≤ suc (length s.later) → line_stays s l ≡ true → span l ≤ length s.later
span-short s (Skip n t) h k = by (nat_eq s.around.left 0) k where
  by : (b : Bool) → cond b (skips_whole n s.later) (nat_lt n s.around.left) ≡ true → n ≤ length s.later
  by true e = leb-true n (length s.later) (and_parts (nat_le n (length s.later)) (nat_eq (left_past 0 n s.later) 0) e).0
  by false e = let l = ltb-true n s.around.left e in omega arith
span-short s (Each d n) h k = leb-true n (length s.later) (and_parts (nat_eq s.around.left 0 && is_none s.kind) (nat_le n (length s.later)) k).1
span-short s (SetField f t) h k = omega arith
span-short s (Fold r place ts) h k = omega arith
span-short s (SetRegister r t) h k = omega arith
span-short s (Put r place ts) h k = omega arith
span-short s (Send kind to ts) h k = omega arith

module _ (p : Program) where
  body-stays : (earlier : List Line) (a : Around) (ls : List Line) → a.left ≤ length ls → list_all (keeps_all p) (body_rows earlier a ls) ≡ true → Stays ls
  body-stays earlier a [] h k = tt
  body-stays earlier a (l ∷ ls) h k =
      let site : Site = record { kind = None; around = a; earlier = earlier; later = ls } in
      let more : List Row = body_rows (earlier ++ l ∷ []) (around_next a l ls) ls in
      let five : 5 < length image_rules = omega arith in
      let six : keeps p (LineRow site l) I6 ≡ true = all_at (keeps p (LineRow site l)) image_rules 5 I6 five (all_first (keeps_all p) (LineRow site l) more k) in
      let short : span l ≤ length ls = span-short site l h six in
      let next : (around_next a l ls).left ≤ length ls = (let x = around-short (left_after a.left l) a.left a l ls in let y = left-short a.left l (length ls) h short in omega arith) in
      (short, body-stays (earlier ++ l ∷ []) (around_next a l ls) ls next (all_rest (keeps_all p) (LineRow site l) more k))

  block-stays : (b : Block) → list_all (keeps_all p) (block_rows b) ≡ true → Stays b.body
  block-stays b h =
      let of_handlers : List Row = handlers_rows (handled_lines b) [] [] b.handlers in
      let of_body : List Row = Plain ∷ body_rows (handled_lines b) outside b.body in
      let both : list_all (keeps_all p) (of_handlers ++ of_body) ≡ true = all_rest (keeps_all p) Plain (of_handlers ++ of_body) h in
      body-stays (handled_lines b) outside b.body (omega arith) (all_rest (keeps_all p) Plain (body_rows (handled_lines b) outside b.body) (all_back (keeps_all p) of_handlers of_body both))

  blocks-stay : (blocks : List Block) → list_all (keeps_all p) (flat_map block_rows blocks) ≡ true → (q : ℕ) → Stays (slice_index_or blocks q no_block).body
  blocks-stay [] h q = tt
  blocks-stay (b ∷ blocks) h zero = block-stays b (all_front (keeps_all p) (block_rows b) (flat_map block_rows blocks) h)
  blocks-stay (b ∷ blocks) h (suc q) = blocks-stay blocks (all_back (keeps_all p) (block_rows b) (flat_map block_rows blocks) h) q

  -- steps are those of blocks
  commands-range : (j : ℕ) (cs : List Command) → list_all (keeps_all p) (command_rows j cs) ≡ true → list_all (command_in_range p) cs ≡ true
  commands-range j [] h = refl
  commands-range j (c ∷ cs) h =
      let more : List Row = command_rows (suc j) cs in
      let zeroth : 0 < length image_rules = omega arith in
      let one : keeps p (CommandRow j c) I1 ≡ true = all_at (keeps p (CommandRow j c)) image_rules 0 I1 zeroth (all_first (keeps_all p) (CommandRow j c) more h) in
      ap (λ b. b && list_all (command_in_range p) cs) (and_parts (command_in_range p c) (list_all (term_in_range p None) (command_terms c)) one).0
      ∙ commands-range (suc j) cs (all_rest (keeps_all p) (CommandRow j c) more h)

  pub commands-pass : IsTrue (is_sound p) → list_all (keeps_all p) (command_rows 0 p.master) ≡ true
  commands-pass sound =
      let test : Row → Bool = keeps_all p in
      let back : (xs ys : List Row) → list_all test (xs ++ ys) ≡ true → list_all test ys ≡ true = λ xs ys h. all_back test xs ys h in
      let rest : (x : Row) (xs : List Row) → list_all test (x ∷ xs) ≡ true → list_all test xs ≡ true = λ x xs h. all_rest test x xs h in
      let at_master : List Row = MasterRow ∷ command_rows 0 p.master in
      let at_blocks : List Row = flat_map block_rows p.blocks ++ at_master in
      let at_places : List Row = plain_rows p.places ++ Plain ∷ at_blocks in
      let at_kinds : List Row = map KindRow p.kinds ++ Plain ∷ at_places in
      let at_columns : List Row = plain_rows p.columns ++ Plain ∷ at_kinds in
      let at_registers : List Row = plain_rows p.registers ++ ColumnsRow ∷ at_columns in
      let at_fields : List Row = plain_rows p.fields ++ Plain ∷ at_registers in
      let at_globals : List Row = plain_rows p.globals ++ Plain ∷ at_fields in
      let at_result : List Row = ResultRow ∷ Plain ∷ at_globals in
      let at_outputs : List Row = rows_after OutputRow [] p.outputs ++ at_result in
      let at_inputs : List Row = rows_after InputRow [] p.inputs ++ Plain ∷ at_outputs in
      let h0 : list_all test (rows p) ≡ true = (and_parts (list_all test (rows p)) (nat_lt (length (rows p)) line_limit) sound).0 in
      let h1 : list_all test at_inputs ≡ true = rest Plain at_inputs (rest NameRow (Plain ∷ at_inputs) (rest Plain (NameRow ∷ Plain ∷ at_inputs) h0)) in
      let h2 : list_all test at_outputs ≡ true = rest Plain at_outputs (back (rows_after InputRow [] p.inputs) (Plain ∷ at_outputs) h1) in
      let h3 : list_all test at_globals ≡ true = rest Plain at_globals (rest ResultRow (Plain ∷ at_globals) (back (rows_after OutputRow [] p.outputs) at_result h2)) in
      let h4 : list_all test at_fields ≡ true = rest Plain at_fields (back (plain_rows p.globals) (Plain ∷ at_fields) h3) in
      let h5 : list_all test at_registers ≡ true = rest Plain at_registers (back (plain_rows p.fields) (Plain ∷ at_registers) h4) in
      let h6 : list_all test at_columns ≡ true = rest ColumnsRow at_columns (back (plain_rows p.registers) (ColumnsRow ∷ at_columns) h5) in
      let h7 : list_all test at_kinds ≡ true = rest Plain at_kinds (back (plain_rows p.columns) (Plain ∷ at_kinds) h6) in
      let h8 : list_all test at_places ≡ true = rest Plain at_places (back (map KindRow p.kinds) (Plain ∷ at_places) h7) in
      let h9 : list_all test at_blocks ≡ true = rest Plain at_blocks (back (plain_rows p.places) (Plain ∷ at_blocks) h8) in
      rest MasterRow (command_rows 0 p.master) (back (flat_map block_rows p.blocks) at_master h9)

-- the lines of blocks in their ranges
handled-ranged : (handlers : List Handler) → AllByRecursion HandlerRanged handlers → AllByRecursion LineRanged (flat_map (λ h. h.lines) handlers)
handled-ranged [] h = tt
handled-ranged (x ∷ handlers) h = every-append (λ place. true) LineRanged x.lines (flat_map (λ h. h.lines) handlers) h.0.1 (handled-ranged handlers h.1)

block-ranged : (blocks : List Block) (q : ℕ) → AllByRecursion BlockRanged blocks → AllByRecursion LineRanged (block_lines (slice_index_or blocks q no_block))
block-ranged [] q h = tt
block-ranged (b ∷ blocks) zero h = every-append (λ place. true) LineRanged (handled_lines b) b.body (handled-ranged b.handlers h.0.0) h.0.1
block-ranged (b ∷ blocks) (suc q) h = block-ranged blocks q h.1

fine-lines : (t u : ℕ → Bool) (ls : List Line) → list_all (line_places t) ls ≡ true → AllByRecursion LineRanged ls → list_all (λ l. list_all (λ r. list_all u r.slots) (puts_of l)) ls ≡ true → AllByRecursion (FineLine t u) ls
fine-lines t u [] h r k = tt
fine-lines t u (l ∷ ls) h r k =
    let places = and_parts (line_places t l) (list_all (line_places t) ls) h in
    let slots = and_parts (list_all (λ r. list_all u r.slots) (puts_of l)) (list_all (λ l. list_all (λ r. list_all u r.slots) (puts_of l)) ls) k in
    ((places.0, r.0, slots.0), fine-lines t u ls places.1 r.1 slots.1)

-- every place passes a test that all places pass
any-places : (a : Term) → all_places (λ place. true) a ≡ true
any-places (Const v) = refl
any-places (Global g) = refl
any-places NodeCount = refl
any-places EdgeCount = refl
any-places (Field f) = refl
any-places Self = refl
any-places OutDegree = refl
any-places InDegree = refl
any-places (Register r) = refl
any-places (Message i) = refl
any-places Neighbour = refl
any-places (Column c) = refl
any-places (NodeAt a) = any-places a
any-places (Live place a) = any-places a
any-places (Unary op None a) = any-places a
any-places (Unary op (Some place) a) = any-places a
any-places (Binary op None a b) = ap (λ x. x && all_places (λ place. true) b) (any-places a) ∙ any-places b
any-places (Binary op (Some place) a b) = ap (λ x. x && all_places (λ place. true) b) (any-places a) ∙ any-places b
any-places (And a b) = ap (λ x. x && all_places (λ place. true) b) (any-places a) ∙ any-places b
any-places (Or a b) = ap (λ x. x && all_places (λ place. true) b) (any-places a) ∙ any-places b
any-places (Choose c a b) = ap (λ x. x && all_places (λ place. true) a && all_places (λ place. true) b) (any-places c) ∙ ap (λ x. x && all_places (λ place. true) b) (any-places a) ∙ any-places b

any-terms : (ts : List Term) → list_all (all_places (λ place. true)) ts ≡ true
any-terms [] = refl
any-terms (a ∷ ts) = ap (λ x. x && list_all (all_places (λ place. true)) ts) (any-places a) ∙ any-terms ts

any-line : (l : Line) → line_places (λ place. true) l ≡ true
any-line (SetField f a) = any-terms (a ∷ [])
any-line (Fold r place ts) = any-terms (terms_of ts)
any-line (SetRegister r a) = any-terms (a ∷ [])
any-line (Put r place ts) = any-terms (terms_of ts)
any-line (Send k to ts) = any-terms (to ∷ ts)
any-line (Skip n a) = any-terms (a ∷ [])
any-line (Each d n) = refl

any-lines : (ls : List Line) → list_all (line_places (λ place. true)) ls ≡ true
any-lines [] = refl
any-lines (l ∷ ls) = ap (λ x. x && list_all (line_places (λ place. true)) ls) (any-line l) ∙ any-lines ls

-- what lines put is among what they put
pub all-among : (u : ℕ → Bool) (slots : List ℕ) → ((s : ℕ) → is_among s slots ≡ true → u s ≡ true) → list_all u slots ≡ true
all-among u [] h = refl
all-among u (x ∷ slots) h = ap (λ b. b && list_all u slots) (h x (among-here x slots)) ∙ all-among u slots (λ s e. h s (among-later s x slots e))

pub among-front : (s : ℕ) (xs ys : List ℕ) → is_among s xs ≡ true → is_among s (xs ++ ys) ≡ true
among-front s [] ys e = cc
among-front s (x ∷ xs) ys e = one (x == s) (among-front s xs ys) e where
  one : (b : Bool) → (is_among s xs ≡ true → is_among s (xs ++ ys) ≡ true) → b || is_among s xs ≡ true → b || is_among s (xs ++ ys) ≡ true
  one true go e = refl
  one false go e = go e

pub among-back : (s : ℕ) (xs ys : List ℕ) → is_among s ys ≡ true → is_among s (xs ++ ys) ≡ true
among-back s [] ys e = e
among-back s (x ∷ xs) ys e = among-later s x (xs ++ ys) (among-back s xs ys e)

own-slots : (u : ℕ → Bool) (ls : List Line) → ((s : ℕ) → is_among s (put_globals ls) ≡ true → u s ≡ true) → list_all (λ l. list_all (λ r. list_all u r.slots) (puts_of l)) ls ≡ true
own-slots u [] h = refl
own-slots u (Put r place ts ∷ ls) h =
    ap (λ b. b && true && list_all (λ l. list_all (λ r. list_all u r.slots) (puts_of l)) ls) (all-among u (slots_of ts) (λ s e. h s (among-front s (slots_of ts) (put_globals ls) e)))
    ∙ own-slots u ls (λ s e. h s (among-back s (slots_of ts) (put_globals ls) e))
own-slots u (SetField f a ∷ ls) h = own-slots u ls h
own-slots u (Fold r place ts ∷ ls) h = own-slots u ls h
own-slots u (SetRegister r a ∷ ls) h = own-slots u ls h
own-slots u (Send k to ts ∷ ls) h = own-slots u ls h
own-slots u (Skip n a ∷ ls) h = own-slots u ls h
own-slots u (Each d n ∷ ls) h = own-slots u ls h

-- the second of joinable blocks puts none of what the first puts
pub joinable-puts : (p : Program) (a b : ℕ) → are_joinable (block_at p a) (block_at p b) ≡ true → list_all (puts_none (put_globals (block_lines (block_at p a)))) (block_lines (block_at p b)) ≡ true
joinable-puts p a b h =
    let first : List Line = block_lines (block_at p a) in
    let second : List Line = block_lines (block_at p b) in
    let gs : List ℕ = put_globals first in
    let x1 : Bool = list_all sends_nothing first in
    let x2 : Bool = list_all (reads_no_global gs) second in
    let x3 : Bool = list_all (puts_none gs) second in
    let x4 : Bool = list_all (line_places (is_below second)) first in
    let h4 = and_parts (x1 && x2 && x3 && x4) (list_all sends_nothing second || list_all cannot_fault first) h in
    (and_parts (x1 && x2) x3 (and_parts (x1 && x2 && x3) x4 h4.0).0).1

-- joinable blocks of a sound image
joinable-fit : (p : Program) (a b : ℕ) → IsTrue (is_sound p) → Ranged p → are_joinable (block_at p a) (block_at p b) ≡ true → Fit (block_at p a) (block_at p b) (put_globals (block_lines (block_at p a)))
joinable-fit p a b sound ranged h =
    let first : List Line = block_lines (block_at p a) in
    let second : List Line = block_lines (block_at p b) in
    let gs : List ℕ = put_globals first in
    let x1 : Bool = list_all sends_nothing first in
    let x2 : Bool = list_all (reads_no_global gs) second in
    let x3 : Bool = list_all (puts_none gs) second in
    let x4 : Bool = list_all (line_places (is_below second)) first in
    let h4 = and_parts (x1 && x2 && x3 && x4) (list_all sends_nothing second || list_all cannot_fault first) h in
    let h3 = and_parts (x1 && x2 && x3) x4 h4.0 in
    let h2 = and_parts (x1 && x2) x3 h3.0 in
    let h1 = and_parts x1 x2 h2.0 in
    record {
      stays = blocks-stay p p.blocks (blocks_pass p sound) a;
      silent = all-pass sends_nothing first h1.0;
      reads = all_back (reads_no_global gs) (handled_lines (block_at p b)) (block_at p b).body h1.1;
      first = fine-lines (is_below second) (λ s. is_among s gs) first h3.1 (block-ranged p.blocks a ranged.blocks) (own-slots (λ s. is_among s gs) first (λ s e. e));
      second = λ place below. fine-lines (nat_lt place) (λ s. not (is_among s gs)) second below (block-ranged p.blocks b ranged.blocks) h2.1;
      slots = fine-lines (λ place. true) (λ s. not (is_among s gs)) second (any-lines second) (block-ranged p.blocks b ranged.blocks) h2.1;
    }

-- a joined image runs no worse
pub join-keeps : (p : Program) (i a b : ℕ) (g : NumberedGraph) (args : List Value) (turns : ℕ) → IsTrue (is_sound p) → Ranged p → Joinable p i a b →
    NoWorse (list_all sends_nothing (block_lines (block_at p b))) (machine p g args turns) (machine (joined_image p i a b) g args turns)
join-keeps p i a b g args turns sound ranged joinable =
    runs-close p i a b g (put_globals (block_lines (block_at p a))) (joinable-fit p a b sound ranged joinable.blocks)
    joinable.first joinable.second joinable.alone (commands-range p 0 p.master (commands-pass p sound))
    turns 0 (start_control p args) (λ e. omega arith)
    (start_nodes p g) (start_nodes (joined_image p i a b) g)
    (record { fields = refl; sent = refl; supersteps = omega arith; messages = omega arith })
