-- A sound image stays sound when the blocks that no step runs are dropped, and its numbers stay in their ranges.
use Rattle.std.proofs.Common.{◌≡◌, ◌<◌, ◌≤◌, ℕ, zero, suc, ◌+◌, Bool, true, false, cond, ◌&&◌, not, nat_eq, nat_lt, Option, Some, None, List, [], ◌∷◌, ◌++◌, map, length, refl, sym, ap, ◌∙◌, arith}
use Rattle.std.specs.Prelude.{IsTrue, slice_get}
use Rattle.std.specs.List.{AllByRecursion, list_all, flat_map}
use Rattle.std.proofs.lemmas.Bool.{and_parts, and_from, ltb-true, lt-ltb}
use Rattle.std.proofs.lemmas.List.Folds.{list_all-append}
use Rattle.gm_value.specs.declared.values.VType.{VType}
use Rattle.gm_value.specs.Operations.{same_type}
use Rattle.gm_image.specs.declared.rules.ImageRule.TheVariants.{I1, I2, I3, I4, I5, I7}
use Rattle.gm_image.specs.declared.images.Kind.{Kind}
use Rattle.gm_image.specs.Program.{Program, Block, Line, Handler, Item, Holder, Scalar, Node, Edge, Command, SetGlobal, Step, Jump, Test, Turn, Back, Finish}
use Rattle.gm_image.specs.Parts.{all_leaves, command_terms}
use Rattle.gm_image.specs.Rows.{Row, Plain, NameRow, InputRow, OutputRow, ResultRow, ColumnsRow, KindRow, HandlerRow, LineRow, MasterRow, CommandRow, rows, rows_after, plain_rows, block_rows, handler_rows, handlers_rows, handled_lines, body_rows, Around, around_next, outside, command_rows, line_count}
use Rattle.gm_image.specs.Indices.{in_range, held_by, result_in_range, command_in_range, term_in_range}
use Rattle.gm_image.specs.Fits.{type_holds, result_fits, command_fits}
use Rattle.gm_image.specs.Jumps.{jumps_forward, exits_behind, goes_back, is_end, ends_last}
use Rattle.gm_image.specs.Leaves.{stands_in_master}
use Rattle.gm_image.specs.Names.{input_keeps, output_keeps}
use Rattle.gm_image.specs.Ranges.{Ranged, BlockRanged, CommandRanged}
use Rattle.gm_image.specs.Soundness.{keeps, keeps_all, image_rules, is_sound, line_limit}
use Rattle.gm_verify.proofs.Counting.{length-text}
use Rattle.gm_machine.proofs.SoundHandlers.{all_front, all_back, all_first, all_rest, all_at}
use Rattle.gm_merge_laws.proofs.Judged.{six, passes-line, line-passes, passes-same, terms-same, command-fits-same}
use Rattle.gm_merge.specs.Trimmed.{is_run, kept_before, kept_blocks, kept_count, renumbered, trimmed}
use Rattle.gm_merge.proofs.Trims.{kept-below, kept-lines, kept-fewer, count-less, step_kept, steps-kept}

length-map-same : (f : Command → Command) (ms : List Command) → length (map f ms) ≡ length ms
length-map-same f [] = refl
length-map-same f (m ∷ ms) = ap suc (length-map-same f ms)

-- a part of a list of lines is exchanged, and the test too
cons-swap : (t u : Row → Bool) (x : Row) (old new : List Row) → (t x ≡ true → u x ≡ true) → (list_all t old ≡ true → list_all u new ≡ true) → list_all t (x ∷ old) ≡ true → list_all u (x ∷ new) ≡ true
cons-swap t u x old new e f h = and_from (u x) (list_all u new) (e (all_first t x old h)) (f (all_rest t x old h))

app-swap : (t u : Row → Bool) (xs old new : List Row) → (list_all t xs ≡ true → list_all u xs ≡ true) → (list_all t old ≡ true → list_all u new ≡ true) → list_all t (xs ++ old) ≡ true → list_all u (xs ++ new) ≡ true
app-swap t u xs old new e f h = list_all-append u xs new ∙ and_from (list_all u xs) (list_all u new) (e (all_front t xs old h)) (f (all_back t xs old h))

-- whether a line is none of the master list
abbrev no_command : Row → Bool
no_command (CommandRow j c) = false
no_command Plain = true
no_command NameRow = true
no_command (InputRow before x) = true
no_command (OutputRow before x) = true
no_command ResultRow = true
no_command ColumnsRow = true
no_command (KindRow k) = true
no_command (HandlerRow before x) = true
no_command (LineRow s l) = true
no_command MasterRow = true

inputs-apart : (before xs : List Item) → list_all no_command (rows_after InputRow before xs) ≡ true
inputs-apart before [] = refl
inputs-apart before (x ∷ xs) = inputs-apart (before ++ x ∷ []) xs

outputs-apart : (before xs : List Item) → list_all no_command (rows_after OutputRow before xs) ≡ true
outputs-apart before [] = refl
outputs-apart before (x ∷ xs) = outputs-apart (before ++ x ∷ []) xs

plains-apart : {A : Type 0} (xs : List A) → list_all no_command (plain_rows xs) ≡ true
plains-apart [] = refl
plains-apart (x ∷ xs) = plains-apart xs

kinds-apart : (ks : List Kind) → list_all no_command (map KindRow ks) ≡ true
kinds-apart [] = refl
kinds-apart (k ∷ ks) = kinds-apart ks

body-apart : (earlier : List Line) (a : Around) (ls : List Line) → list_all no_command (body_rows earlier a ls) ≡ true
body-apart earlier a [] = refl
body-apart earlier a (l ∷ ls) = body-apart (earlier ++ l ∷ []) (around_next a l ls) ls

handler-apart : (all : List Line) (kind : ℕ) (earlier ls : List Line) → list_all no_command (handler_rows all kind earlier ls) ≡ true
handler-apart all kind earlier [] = refl
handler-apart all kind earlier (l ∷ ls) = handler-apart all kind (earlier ++ l ∷ []) ls

apart-append : (xs ys : List Row) → list_all no_command xs ≡ true → list_all no_command ys ≡ true → list_all no_command (xs ++ ys) ≡ true
apart-append xs ys h k = list_all-append no_command xs ys ∙ and_from (list_all no_command xs) (list_all no_command ys) h k

handlers-apart : (all earlier : List Line) (before hs : List Handler) → list_all no_command (handlers_rows all earlier before hs) ≡ true
handlers-apart all earlier before [] = refl
handlers-apart all earlier before (h ∷ hs) =
    apart-append (handler_rows all h.kind earlier h.lines) (handlers_rows all (earlier ++ h.lines) (before ++ h ∷ []) hs)
    (handler-apart all h.kind earlier h.lines) (handlers-apart all (earlier ++ h.lines) (before ++ h ∷ []) hs)

block-apart : (b : Block) → list_all no_command (block_rows b) ≡ true
block-apart b =
    apart-append (handlers_rows (handled_lines b) [] [] b.handlers) (Plain ∷ body_rows (handled_lines b) outside b.body)
    (handlers-apart (handled_lines b) [] [] b.handlers) (body-apart (handled_lines b) outside b.body)

blocks-apart : (bs : List Block) → list_all no_command (flat_map block_rows bs) ≡ true
blocks-apart [] = refl
blocks-apart (b ∷ bs) = apart-append (block_rows b) (flat_map block_rows bs) (block-apart b) (blocks-apart bs)

-- what the rules ask of a line of the master list
record Commands (r : Program) (j : ℕ) (c : Command) : Type 0 where
  range : command_in_range r c && list_all (term_in_range r None) (command_terms c) ≡ true
  fits : command_fits r c ≡ true
  forward : jumps_forward r j c ≡ true
  back : goes_back r j c ≡ true
  last : ends_last r (CommandRow j c) ≡ true
  leaves : list_all (all_leaves stands_in_master) (command_terms c) ≡ true

commands-row : (r : Program) (j : ℕ) (c : Command) → Commands r j c → keeps_all r (CommandRow j c) ≡ true
commands-row r j c h =
    six (command_in_range r c && list_all (term_in_range r None) (command_terms c)) (command_fits r c) (jumps_forward r j c) (goes_back r j c) (ends_last r (CommandRow j c)) (list_all (all_leaves stands_in_master) (command_terms c))
    h.range h.fits h.forward h.back h.last h.leaves

row-commands : (r : Program) (j : ℕ) (c : Command) → keeps_all r (CommandRow j c) ≡ true → Commands r j c
row-commands r j c h =
    let row : Row = CommandRow j c in
    let at0 : 0 < length image_rules = omega arith in
    let at1 : 1 < length image_rules = omega arith in
    let at2 : 2 < length image_rules = omega arith in
    let at3 : 3 < length image_rules = omega arith in
    let at4 : 4 < length image_rules = omega arith in
    let at6 : 6 < length image_rules = omega arith in
    record {
      range = all_at (keeps r row) image_rules 0 I1 at0 h;
      fits = all_at (keeps r row) image_rules 1 I2 at1 h;
      forward = all_at (keeps r row) image_rules 2 I3 at2 h;
      back = all_at (keeps r row) image_rules 3 I4 at3 h;
      last = all_at (keeps r row) image_rules 4 I5 at4 h;
      leaves = all_at (keeps r row) image_rules 6 I7 at6 h;
    }

module _ (p : Program) where
  abbrev keep : ℕ → Bool
  keep = is_run p.master

  abbrev next : Program
  next = trimmed p

  long : length next.master ≡ length p.master
  long = length-map-same (renumbered keep) p.master

  terms-stay : (c : Command) → command_terms (renumbered keep c) ≡ command_terms c
  terms-stay (SetGlobal t a) = refl
  terms-stay (Step q) = refl
  terms-stay (Jump j) = refl
  terms-stay (Test j a) = refl
  terms-stay (Turn x a) = refl
  terms-stay (Back j) = refl
  terms-stay Finish = refl

  fits-stay : (c : Command) → command_fits next (renumbered keep c) ≡ command_fits next c
  fits-stay (SetGlobal t a) = refl
  fits-stay (Step q) = refl
  fits-stay (Jump j) = refl
  fits-stay (Test j a) = refl
  fits-stay (Turn x a) = refl
  fits-stay (Back j) = refl
  fits-stay Finish = refl

  end-stays : (c : Command) → is_end (renumbered keep c) ≡ is_end c
  end-stays (SetGlobal t a) = refl
  end-stays (Step q) = refl
  end-stays (Jump j) = refl
  end-stays (Test j a) = refl
  end-stays (Turn x a) = refl
  end-stays (Back j) = refl
  end-stays Finish = refl

  exit-stays : (j : ℕ) (c : Command) → exits_behind j (Some (renumbered keep c)) ≡ exits_behind j (Some c)
  exit-stays j (SetGlobal t a) = refl
  exit-stays j (Step q) = refl
  exit-stays j (Jump to) = refl
  exit-stays j (Test to a) = refl
  exit-stays j (Turn x a) = refl
  exit-stays j (Back h) = refl
  exit-stays j Finish = refl

  exits-stay : (j h : ℕ) (ms : List Command) → exits_behind j (slice_get (map (renumbered keep) ms) h) ≡ exits_behind j (slice_get ms h)
  exits-stay j h [] = refl
  exits-stay j zero (m ∷ ms) = exit-stays j m
  exits-stay j (suc h) (m ∷ ms) = exits-stay j h ms

  range-kept : (c : Command) → step_kept keep c ≡ true → command_in_range p c ≡ true → command_in_range next (renumbered keep c) ≡ true
  range-kept (SetGlobal t a) k h = h
  range-kept (Step q) k h =
      let z : 0 + q ≡ q = omega arith in
      lt-ltb (kept_count keep 0 q) (length (kept_blocks keep 0 p.blocks)) (kept-below keep 0 q p.blocks (ltb-true q (length p.blocks) h) (ap keep z ∙ k))
  range-kept (Jump j) k h = refl
  range-kept (Test j a) k h = refl
  range-kept (Turn x a) k h = refl
  range-kept (Back j) k h = refl
  range-kept Finish k h = refl

  forward-kept : (j : ℕ) (c : Command) → jumps_forward p j c ≡ true → jumps_forward next j (renumbered keep c) ≡ true
  forward-kept j (SetGlobal t x) h = refl
  forward-kept j (Step q) h = refl
  forward-kept j (Jump to) h = ap (λ n. nat_lt j to && nat_lt to n) long ∙ h
  forward-kept j (Test to x) h = ap (λ n. nat_lt j to && nat_lt to n) long ∙ h
  forward-kept j (Turn to x) h = ap (λ n. nat_lt j to && nat_lt to n) long ∙ h
  forward-kept j (Back head) h = refl
  forward-kept j Finish h = refl

  back-kept : (j : ℕ) (c : Command) → goes_back p j c ≡ true → goes_back next j (renumbered keep c) ≡ true
  back-kept j (SetGlobal t x) h = refl
  back-kept j (Step q) h = refl
  back-kept j (Jump to) h = refl
  back-kept j (Test to x) h = refl
  back-kept j (Turn to x) h = refl
  back-kept j (Back head) h = ap (λ b. nat_lt head j && b) (exits-stay j head p.master) ∙ h
  back-kept j Finish h = refl

  command-kept : (j : ℕ) (c : Command) → step_kept keep c ≡ true → keeps_all p (CommandRow j c) ≡ true → keeps_all next (CommandRow j (renumbered keep c)) ≡ true
  command-kept j c k all =
      let h = row-commands p j c all in
      let parts = and_parts (command_in_range p c) (list_all (term_in_range p None) (command_terms c)) h.range in
      commands-row next j (renumbered keep c) (record {
        range = and_from (command_in_range next (renumbered keep c)) (list_all (term_in_range next None) (command_terms (renumbered keep c))) (range-kept c k parts.0)
            (ap (list_all (term_in_range next None)) (terms-stay c) ∙ sym (terms-same p next.blocks next.master None (command_terms c)) ∙ parts.1);
        fits = fits-stay c ∙ sym (command-fits-same p next.blocks next.master c) ∙ h.fits;
        forward = forward-kept j c h.forward;
        back = back-kept j c h.back;
        last = ap (λ n. cond (nat_eq (j + 1) n) (is_end (renumbered keep c)) (not (is_end (renumbered keep c)))) long ∙ ap (λ x. cond (nat_eq (j + 1) (length p.master)) x (not x)) (end-stays c) ∙ h.last;
        leaves = ap (list_all (all_leaves stands_in_master)) (terms-stay c) ∙ h.leaves;
      })

  commands-kept : (j : ℕ) (cs : List Command) → list_all (step_kept keep) cs ≡ true → list_all (keeps_all p) (command_rows j cs) ≡ true → list_all (keeps_all next) (command_rows j (map (renumbered keep) cs)) ≡ true
  commands-kept j [] k h = refl
  commands-kept j (c ∷ cs) k h =
      let kept = and_parts (step_kept keep c) (list_all (step_kept keep) cs) k in
      and_from (keeps_all next (CommandRow j (renumbered keep c))) (list_all (keeps_all next) (command_rows (suc j) (map (renumbered keep) cs)))
      (command-kept j c kept.0 (all_first (keeps_all p) (CommandRow j c) (command_rows (suc j) cs) h))
      (commands-kept (suc j) cs kept.1 (all_rest (keeps_all p) (CommandRow j c) (command_rows (suc j) cs) h))

  held-same : (h : Holder) → held_by p h ≡ held_by next h
  held-same Scalar = refl
  held-same Node = refl
  held-same Edge = refl

  result-range : (o : Option (VType × ℕ)) → result_in_range p o ≡ result_in_range next o
  result-range None = refl
  result-range (Some r) = refl

  result-fits : (o : Option (VType × ℕ)) → result_fits p o ≡ result_fits next o
  result-fits None = refl
  result-fits (Some r) = refl

  row-kept : (row : Row) → no_command row ≡ true → keeps_all p row ≡ true → keeps_all next row ≡ true
  row-kept Plain n h = h
  row-kept NameRow n h = h
  row-kept (InputRow before x) n h = sym (ap (λ ts. in_range ts x.slot && (type_holds (same_type x.vtype) (slice_get ts x.slot) && (input_keeps before x && true))) (held-same x.holder)) ∙ h
  row-kept (OutputRow before x) n h = sym (ap (λ ts. in_range ts x.slot && (type_holds (same_type x.vtype) (slice_get ts x.slot) && (output_keeps before x && true))) (held-same x.holder)) ∙ h
  row-kept ResultRow n h = sym (ap (λ b. b && (result_fits p p.result && true)) (result-range p.result) ∙ ap (λ b. result_in_range next p.result && (b && true)) (result-fits p.result)) ∙ h
  row-kept ColumnsRow n h = h
  row-kept (KindRow k) n h = h
  row-kept (HandlerRow before x) n h = h
  row-kept (LineRow s l) n h = passes-line next s l (passes-same p next.blocks next.master s l (line-passes p s l h))
  row-kept MasterRow n h = ap (λ k. nat_lt 0 k && true) long ∙ h
  row-kept (CommandRow j c) n h = cc

  rows-kept : (rs : List Row) → list_all no_command rs ≡ true → list_all (keeps_all p) rs ≡ true → list_all (keeps_all next) rs ≡ true
  rows-kept [] n h = refl
  rows-kept (r ∷ rs) n h =
      let parts = and_parts (no_command r) (list_all no_command rs) n in
      and_from (keeps_all next r) (list_all (keeps_all next) rs) (row-kept r parts.0 (all_first (keeps_all p) r rs h)) (rows-kept rs parts.1 (all_rest (keeps_all p) r rs h))

  -- the text has no more lines
  pub trimmed-fewer : line_count next ≤ line_count p
  trimmed-fewer =
      let old = length-text p in
      let new : line_count next ≡ 13 + length p.inputs + length p.outputs + length p.globals + length p.fields + length p.registers + length p.columns + length p.kinds + length p.places
      + length (flat_map block_rows next.blocks) + length next.master = length-text next in
      let blocks = kept-fewer keep 0 p.blocks in
      omega (arith, old, new, blocks, long)

  pub trimmed-sound : IsTrue (is_sound p) → IsTrue (is_sound next)
  trimmed-sound sound =
      let t : Row → Bool = keeps_all p in
      let u : Row → Bool = keeps_all next in
      let whole = and_parts (list_all t (rows p)) (nat_lt (line_count p) line_limit) sound in
      let one : (x : Row) → no_command x ≡ true → (old new : List Row) → (list_all t old ≡ true → list_all u new ≡ true) → list_all t (x ∷ old) ≡ true → list_all u (x ∷ new) ≡ true = λ x n old new. cons-swap t u x old new (row-kept x n) in
      let some : (xs : List Row) → list_all no_command xs ≡ true → (old new : List Row) → (list_all t old ≡ true → list_all u new ≡ true) → list_all t (xs ++ old) ≡ true → list_all u (xs ++ new) ≡ true = λ xs n old new. app-swap t u xs old new (rows-kept xs n) in
      let at_master : List Row = MasterRow ∷ command_rows 0 p.master in
      let to_master : List Row = MasterRow ∷ command_rows 0 next.master in
      let at_blocks : List Row = flat_map block_rows p.blocks ++ at_master in
      let to_blocks : List Row = flat_map block_rows next.blocks ++ to_master in
      let at_places : List Row = plain_rows p.places ++ Plain ∷ at_blocks in
      let to_places : List Row = plain_rows p.places ++ Plain ∷ to_blocks in
      let at_kinds : List Row = map KindRow p.kinds ++ Plain ∷ at_places in
      let to_kinds : List Row = map KindRow p.kinds ++ Plain ∷ to_places in
      let at_columns : List Row = plain_rows p.columns ++ Plain ∷ at_kinds in
      let to_columns : List Row = plain_rows p.columns ++ Plain ∷ to_kinds in
      let at_registers : List Row = plain_rows p.registers ++ ColumnsRow ∷ at_columns in
      let to_registers : List Row = plain_rows p.registers ++ ColumnsRow ∷ to_columns in
      let at_fields : List Row = plain_rows p.fields ++ Plain ∷ at_registers in
      let to_fields : List Row = plain_rows p.fields ++ Plain ∷ to_registers in
      let at_globals : List Row = plain_rows p.globals ++ Plain ∷ at_fields in
      let to_globals : List Row = plain_rows p.globals ++ Plain ∷ to_fields in
      let at_result : List Row = ResultRow ∷ Plain ∷ at_globals in
      let to_result : List Row = ResultRow ∷ Plain ∷ to_globals in
      let at_outputs : List Row = rows_after OutputRow [] p.outputs ++ at_result in
      let to_outputs : List Row = rows_after OutputRow [] p.outputs ++ to_result in
      let at_inputs : List Row = rows_after InputRow [] p.inputs ++ Plain ∷ at_outputs in
      let to_inputs : List Row = rows_after InputRow [] p.inputs ++ Plain ∷ to_outputs in
      let kept = steps-kept p.master keep (λ q x. x) in
      let master : list_all t at_master ≡ true → list_all u to_master ≡ true = one MasterRow refl (command_rows 0 p.master) (command_rows 0 next.master) (commands-kept 0 p.master kept) in
      let blocks : list_all t at_blocks ≡ true → list_all u to_blocks ≡ true = λ h.
      list_all-append u (flat_map block_rows next.blocks) to_master
      ∙ and_from (list_all u (flat_map block_rows next.blocks)) (list_all u to_master)
      (kept-lines u keep 0 p.blocks (rows-kept (flat_map block_rows p.blocks) (blocks-apart p.blocks) (all_front t (flat_map block_rows p.blocks) at_master h)))
      (master (all_back t (flat_map block_rows p.blocks) at_master h)) in
      let places = some (plain_rows p.places) (plains-apart p.places) (Plain ∷ at_blocks) (Plain ∷ to_blocks) (one Plain refl at_blocks to_blocks blocks) in
      let kinds = some (map KindRow p.kinds) (kinds-apart p.kinds) (Plain ∷ at_places) (Plain ∷ to_places) (one Plain refl at_places to_places places) in
      let columns = some (plain_rows p.columns) (plains-apart p.columns) (Plain ∷ at_kinds) (Plain ∷ to_kinds) (one Plain refl at_kinds to_kinds kinds) in
      let registers = some (plain_rows p.registers) (plains-apart p.registers) (ColumnsRow ∷ at_columns) (ColumnsRow ∷ to_columns) (one ColumnsRow refl at_columns to_columns columns) in
      let fields = some (plain_rows p.fields) (plains-apart p.fields) (Plain ∷ at_registers) (Plain ∷ to_registers) (one Plain refl at_registers to_registers registers) in
      let globals = some (plain_rows p.globals) (plains-apart p.globals) (Plain ∷ at_fields) (Plain ∷ to_fields) (one Plain refl at_fields to_fields fields) in
      let result = one ResultRow refl (Plain ∷ at_globals) (Plain ∷ to_globals) (one Plain refl at_globals to_globals globals) in
      let outputs = some (rows_after OutputRow [] p.outputs) (outputs-apart [] p.outputs) at_result to_result result in
      let inputs = some (rows_after InputRow [] p.inputs) (inputs-apart [] p.inputs) (Plain ∷ at_outputs) (Plain ∷ to_outputs) (one Plain refl at_outputs to_outputs outputs) in
      let all : list_all u (rows next) ≡ true =
      one Plain refl (NameRow ∷ Plain ∷ at_inputs) (NameRow ∷ Plain ∷ to_inputs) (one NameRow refl (Plain ∷ at_inputs) (Plain ∷ to_inputs) (one Plain refl at_inputs to_inputs inputs)) whole.0 in
      let few = ltb-true (line_count p) line_limit whole.1 in
      let fewer : line_count next < line_limit = omega (arith, few, trimmed-fewer) in
      and_from (list_all u (rows next)) (nat_lt (line_count next) line_limit) all (lt-ltb (line_count next) line_limit fewer)

  front-ranged : (x : Bool) (b : Block) (bs : List Block) → BlockRanged b → AllByRecursion BlockRanged bs → AllByRecursion BlockRanged (kept_before x b bs)
  front-ranged true b bs h k = (h, k)
  front-ranged false b bs h k = k

  blocks-ranged : (q : ℕ) (bs : List Block) → AllByRecursion BlockRanged bs → AllByRecursion BlockRanged (kept_blocks keep q bs)
  blocks-ranged q [] h = tt
  blocks-ranged q (b ∷ bs) h = front-ranged (keep q) b (kept_blocks keep (suc q) bs) h.0 (blocks-ranged (suc q) bs h.1)

  command-ranged : (c : Command) → CommandRanged c → CommandRanged (renumbered keep c)
  command-ranged (SetGlobal t a) h = h
  command-ranged (Step q) h = let l = count-less keep 0 q in omega arith
  command-ranged (Jump j) h = h
  command-ranged (Test j a) h = h
  command-ranged (Turn x a) h = h
  command-ranged (Back j) h = h
  command-ranged Finish h = tt

  commands-ranged : (cs : List Command) → AllByRecursion CommandRanged cs → AllByRecursion CommandRanged (map (renumbered keep) cs)
  commands-ranged [] h = tt
  commands-ranged (c ∷ cs) h = (command-ranged c h.0, commands-ranged cs h.1)

  pub trimmed-ranged : Ranged p → Ranged next
  trimmed-ranged ranged = record {
    inputs = ranged.inputs;
    outputs = ranged.outputs;
    result = ranged.result;
    places = ranged.places;
    blocks = blocks-ranged 0 p.blocks ranged.blocks;
    master = commands-ranged p.master ranged.master;
  }
