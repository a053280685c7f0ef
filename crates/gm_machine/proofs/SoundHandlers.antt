-- No handler of a sound image sets a field.
use Rattle.std.proofs.Common.{◌≡◌, ◌<◌, ℕ, zero, suc, Bool, true, false, cond, ◌&&◌, nat_eq, nat_lt, Some, List, [], ◌∷◌, ◌++◌, map, find, length, refl, sym, ap, ◌∙◌, arith}
use Rattle.std.specs.Prelude.{IsTrue, slice_index_or}
use Rattle.std.specs.List.{list_all, flat_map}
use Rattle.std.proofs.lemmas.Bool.{and_parts}
use Rattle.std.proofs.lemmas.List.Folds.{list_all-append}
use Rattle.gm_image.specs.declared.rules.ImageRule.TheVariants.{I8}
use Rattle.gm_image.specs.Program.{Program, Block, Handler, Line}
use Rattle.gm_image.specs.Rows.{Row, Plain, NameRow, InputRow, OutputRow, ResultRow, ColumnsRow, KindRow, HandlerRow, LineRow, MasterRow, rows, rows_after, plain_rows, block_rows, handlers_rows, handler_rows, handled_lines, body_rows, command_rows, outside, in_handlers}
use Rattle.gm_image.specs.Folds.{sets_no_field, folds_one_way, reads_none, sets_none, folded_fields}
use Rattle.gm_image.specs.Soundness.{keeps, keeps_all, image_rules, is_sound, line_limit}
use Rattle.gm_machine.specs.Vertex.{never_sets, handler_lines, lines_of}
use Rattle.gm_machine.specs.Machine.{no_block}
use Rattle.gm_machine.specs.Steps.{KeepsFields}

-- the parts of a list that passes
pub all_front : {A : Type 0} (p : A → Bool) (xs ys : List A) → list_all p (xs ++ ys) ≡ true → list_all p xs ≡ true
all_front p xs ys h = (and_parts (list_all p xs) (list_all p ys) (sym (list_all-append p xs ys) ∙ h)).0

pub all_back : {A : Type 0} (p : A → Bool) (xs ys : List A) → list_all p (xs ++ ys) ≡ true → list_all p ys ≡ true
all_back p xs ys h = (and_parts (list_all p xs) (list_all p ys) (sym (list_all-append p xs ys) ∙ h)).1

pub all_first : {A : Type 0} (p : A → Bool) (x : A) (xs : List A) → list_all p (x ∷ xs) ≡ true → p x ≡ true
all_first p x xs h = (and_parts (p x) (list_all p xs) h).0

pub all_rest : {A : Type 0} (p : A → Bool) (x : A) (xs : List A) → list_all p (x ∷ xs) ≡ true → list_all p xs ≡ true
all_rest p x xs h = (and_parts (p x) (list_all p xs) h).1

pub all_at : {A : Type 0} (p : A → Bool) (xs : List A) (k : ℕ) (d : A) → k < length xs → list_all p xs ≡ true → p (slice_index_or xs k d) ≡ true
all_at p [] k d l h = absurd (omega arith)
all_at p (x ∷ xs) zero d l h = all_first p x xs h
all_at p (x ∷ xs) (suc k) d l h = let l' : k < length xs = omega arith in all_at p xs k d l' (all_rest p x xs h)

first_of_four : (a b c d : Bool) → a && b && c && d ≡ true → a ≡ true
first_of_four a b c d h = (and_parts a b (and_parts (a && b) c (and_parts (a && b && c) d h).0).0).0

module _ (p : Program) where
  line-sets_none : (all earlier ls : List Line) (kind : ℕ) (l : Line) →
      keeps_all p (LineRow (record { kind = Some kind; around = in_handlers all earlier; earlier = earlier; later = ls }) l) ≡ true → sets_no_field l ≡ true
  line-sets_none all earlier ls kind l h =
      let row : Row = LineRow (record { kind = Some kind; around = in_handlers all earlier; earlier = earlier; later = ls }) l in
      let seven : 7 < length image_rules = omega arith in
      first_of_four (sets_no_field l) (folds_one_way earlier l) (reads_none (folded_fields all) l) (sets_none (folded_fields all) l) (all_at (keeps p row) image_rules 7 I8 seven h)

  lines-set_none : (all earlier : List Line) (kind : ℕ) (ls : List Line) → list_all (keeps_all p) (handler_rows all kind earlier ls) ≡ true → never_sets ls ≡ true
  lines-set_none all earlier kind [] h = refl
  lines-set_none all earlier kind (l ∷ ls) h =
      let row : Row = LineRow (record { kind = Some kind; around = in_handlers all earlier; earlier = earlier; later = ls }) l in
      let more : List Row = handler_rows all kind (earlier ++ l ∷ []) ls in
      let first : sets_no_field l ≡ true = line-sets_none all earlier ls kind l (all_first (keeps_all p) row more h) in
      ap (λ b. b && never_sets ls) first ∙ lines-set_none all (earlier ++ l ∷ []) kind ls (all_rest (keeps_all p) row more h)

  handlers-set_none : (all earlier : List Line) (before hs : List Handler) → list_all (keeps_all p) (handlers_rows all earlier before hs) ≡ true →
      (kind : ℕ) → never_sets (handler_lines hs kind) ≡ true
  handlers-set_none all earlier before [] h kind = refl
  handlers-set_none all earlier before (g ∷ hs) h kind =
      let own : List Row = handler_rows all g.kind earlier g.lines in
      let more : List Row = handlers_rows all (earlier ++ g.lines) (before ++ g ∷ []) hs in
      let both : list_all (keeps_all p) (own ++ more) ≡ true = all_rest (keeps_all p) (HandlerRow before g) (own ++ more) h in
      one (nat_eq g.kind kind)
      (lines-set_none all earlier g.kind g.lines (all_front (keeps_all p) own more both))
      (handlers-set_none all (earlier ++ g.lines) (before ++ g ∷ []) hs (all_back (keeps_all p) own more both) kind)
    where
      one : (b : Bool) → never_sets g.lines ≡ true → never_sets (lines_of (find (λ x. nat_eq x.kind kind) hs)) ≡ true → never_sets (lines_of (cond b (Some g) (find (λ x. nat_eq x.kind kind) hs))) ≡ true
      one true a b = a
      one false a b = b

  block-sets_none : (b : Block) → list_all (keeps_all p) (block_rows b) ≡ true → (kind : ℕ) → never_sets (handler_lines b.handlers kind) ≡ true
  block-sets_none b h =
      let of_handlers : List Row = handlers_rows (handled_lines b) [] [] b.handlers in
      let of_body : List Row = Plain ∷ body_rows (handled_lines b) outside b.body in
      handlers-set_none (handled_lines b) [] [] b.handlers (all_front (keeps_all p) of_handlers of_body (all_rest (keeps_all p) Plain (of_handlers ++ of_body) h))

  blocks-set_none : (blocks : List Block) → list_all (keeps_all p) (flat_map block_rows blocks) ≡ true → (q kind : ℕ) → never_sets (handler_lines (slice_index_or blocks q no_block).handlers kind) ≡ true
  blocks-set_none [] h q kind = refl
  blocks-set_none (b ∷ blocks) h zero kind = block-sets_none b (all_front (keeps_all p) (block_rows b) (flat_map block_rows blocks) h) kind
  blocks-set_none (b ∷ blocks) h (suc q) kind = blocks-set_none blocks (all_back (keeps_all p) (block_rows b) (flat_map block_rows blocks) h) q kind

  -- the lines of all blocks of a sound image keep every rule
  pub blocks_pass : IsTrue (is_sound p) → list_all (keeps_all p) (flat_map block_rows p.blocks) ≡ true
  blocks_pass sound =
      let test : Row → Bool = keeps_all p in
      let back : (xs ys : List Row) → list_all test (xs ++ ys) ≡ true → list_all test ys ≡ true = λ xs ys h. all_back test xs ys h in
      let rest : (x : Row) (xs : List Row) → list_all test (x ∷ xs) ≡ true → list_all test xs ≡ true = λ x xs h. all_rest test x xs h in
      let at_master : List Row = MasterRow ∷ command_rows 0 p.master in
      let at_blocks : List Row = flat_map block_rows p.blocks ++ at_master in
      let at_places : List Row = plain_rows p.places ++ Plain ∷ at_blocks in
      let at_kinds : List Row = map KindRow p.kinds ++ Plain ∷ at_places in
      let at_columns : List Row = plain_rows p.columns ++ Plain ∷ at_kinds in
      let at_registers : List Row = plain_rows p.registers ++ ColumnsRow ∷ at_columns in
      let at_fields : List Row = plain_rows p.fields ++ Plain ∷ at_registers in
      let at_globals : List Row = plain_rows p.globals ++ Plain ∷ at_fields in
      let at_result : List Row = ResultRow ∷ Plain ∷ at_globals in
      let at_outputs : List Row = rows_after OutputRow [] p.outputs ++ at_result in
      let at_inputs : List Row = rows_after InputRow [] p.inputs ++ Plain ∷ at_outputs in
      let h0 : list_all test (rows p) ≡ true = (and_parts (list_all test (rows p)) (nat_lt (length (rows p)) line_limit) sound).0 in
      let h1 : list_all test at_inputs ≡ true = rest Plain at_inputs (rest NameRow (Plain ∷ at_inputs) (rest Plain (NameRow ∷ Plain ∷ at_inputs) h0)) in
      let h2 : list_all test at_outputs ≡ true = rest Plain at_outputs (back (rows_after InputRow [] p.inputs) (Plain ∷ at_outputs) h1) in
      let h3 : list_all test at_globals ≡ true = rest Plain at_globals (rest ResultRow (Plain ∷ at_globals) (back (rows_after OutputRow [] p.outputs) at_result h2)) in
      let h4 : list_all test at_fields ≡ true = rest Plain at_fields (back (plain_rows p.globals) (Plain ∷ at_fields) h3) in
      let h5 : list_all test at_registers ≡ true = rest Plain at_registers (back (plain_rows p.fields) (Plain ∷ at_registers) h4) in
      let h6 : list_all test at_columns ≡ true = rest ColumnsRow at_columns (back (plain_rows p.registers) (ColumnsRow ∷ at_columns) h5) in
      let h7 : list_all test at_kinds ≡ true = rest Plain at_kinds (back (plain_rows p.columns) (Plain ∷ at_kinds) h6) in
      let h8 : list_all test at_places ≡ true = rest Plain at_places (back (map KindRow p.kinds) (Plain ∷ at_places) h7) in
      let h9 : list_all test at_blocks ≡ true = rest Plain at_blocks (back (plain_rows p.places) (Plain ∷ at_blocks) h8) in
      all_front test (flat_map block_rows p.blocks) at_master h9

  -- no handler of a sound image sets a field
  pub sound-keeps : IsTrue (is_sound p) → (q : ℕ) → KeepsFields p q
  sound-keeps sound q kind = blocks-set_none p.blocks (blocks_pass sound) q kind
