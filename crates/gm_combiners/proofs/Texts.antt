-- I8 over a whole text, where its kinds may be others.
use Rattle.std.proofs.Common.{◌≡◌, ℕ, suc, Bool, true, false, ◌&&◌, List, [], ◌∷◌, ◌++◌, length, map, refl, sym, ap, ◌∙◌, arith, length-append}
use Rattle.std.specs.Prelude.{slice_get}
use Rattle.std.specs.List.{list_all, flat_map}
use Rattle.std.proofs.lemmas.List.{length-map}
use Rattle.std.proofs.lemmas.List.Folds.{list_all-append, list_all-map}
use mathlib.Core.Path.{fun_ext}
use Rattle.gm_image.specs.declared.images.Kind.{Kind}
use Rattle.gm_image.specs.declared.rules.ImageRule.TheVariants.{I8}
use Rattle.gm_image.specs.Program.{Program, Block, Line, Handler, Item, Command}
use Rattle.gm_image.specs.Rows.{Row, Plain, NameRow, InputRow, OutputRow, ResultRow, ColumnsRow, KindRow, HandlerRow, LineRow, MasterRow, CommandRow, rows, rows_after, plain_rows, block_rows, handler_rows, handlers_rows, handled_lines, body_rows, Around, around_next, outside, command_rows, line_count}
use Rattle.gm_image.specs.Folds.{combiner_fits, handles, of_other_kinds, line_folds, all_fold}
use Rattle.gm_combiners.specs.Combiners.{handlers_of}
use Rattle.gm_combiners.specs.Laws.{keeps_rule}

-- the lines of a text before its kinds, with some lines behind them, and those after its kinds
abbrev pub before_kinds : Program → List Row → List Row
before_kinds p more =
    Plain
    ∷ NameRow
    ∷ Plain
    ∷ (rows_after InputRow [] p.inputs
    ++ Plain ∷ (rows_after OutputRow [] p.outputs
    ++ ResultRow
    ∷ Plain ∷ (plain_rows p.globals
    ++ Plain ∷ (plain_rows p.fields
    ++ Plain ∷ (plain_rows p.registers
    ++ ColumnsRow ∷ (plain_rows p.columns
    ++ Plain ∷ more))))))

abbrev pub after_kinds : Program → List Row
after_kinds p = Plain ∷ (plain_rows p.places ++ Plain ∷ (flat_map block_rows p.blocks ++ MasterRow ∷ command_rows 0 p.master))

-- the text in its three parts
abbrev three : Program → List Kind → List Row
three p kinds = before_kinds p [] ++ (map KindRow kinds ++ after_kinds p)

append-assoc : (xs ys zs : List Row) → xs ++ (ys ++ zs) ≡ (xs ++ ys) ++ zs
append-assoc [] ys zs = refl
append-assoc (x ∷ xs) ys zs = ap (λ l. x ∷ l) (append-assoc xs ys zs)

-- lines behind a part are behind the parts before it
push : (part whole front more : List Row) → whole ≡ front ++ more → part ++ whole ≡ (part ++ front) ++ more
push part whole front more e = ap (λ l. part ++ l) e ∙ append-assoc part front more

module _ (p : Program) (more : List Row) where
  abbrev to_columns : List Row → List Row
  to_columns l = plain_rows p.columns ++ Plain ∷ l

  abbrev to_registers : List Row → List Row
  to_registers l = plain_rows p.registers ++ ColumnsRow ∷ to_columns l

  abbrev to_fields : List Row → List Row
  to_fields l = plain_rows p.fields ++ Plain ∷ to_registers l

  abbrev to_globals : List Row → List Row
  to_globals l = plain_rows p.globals ++ Plain ∷ to_fields l

  abbrev to_outputs : List Row → List Row
  to_outputs l = rows_after OutputRow [] p.outputs ++ ResultRow ∷ Plain ∷ to_globals l

  abbrev to_inputs : List Row → List Row
  to_inputs l = rows_after InputRow [] p.inputs ++ Plain ∷ to_outputs l

  columns-first : to_columns more ≡ to_columns [] ++ more
  columns-first = push (plain_rows p.columns) (Plain ∷ more) (Plain ∷ []) more refl

  registers-first : to_registers more ≡ to_registers [] ++ more
  registers-first = push (plain_rows p.registers) (ColumnsRow ∷ to_columns more) (ColumnsRow ∷ to_columns []) more (ap (λ l. ColumnsRow ∷ l) columns-first)

  fields-first : to_fields more ≡ to_fields [] ++ more
  fields-first = push (plain_rows p.fields) (Plain ∷ to_registers more) (Plain ∷ to_registers []) more (ap (λ l. Plain ∷ l) registers-first)

  globals-first : to_globals more ≡ to_globals [] ++ more
  globals-first = push (plain_rows p.globals) (Plain ∷ to_fields more) (Plain ∷ to_fields []) more (ap (λ l. Plain ∷ l) fields-first)

  outputs-first : to_outputs more ≡ to_outputs [] ++ more
  outputs-first = push (rows_after OutputRow [] p.outputs) (ResultRow ∷ Plain ∷ to_globals more) (ResultRow ∷ Plain ∷ to_globals []) more (ap (λ l. ResultRow ∷ Plain ∷ l) globals-first)

  inputs-first : to_inputs more ≡ to_inputs [] ++ more
  inputs-first = push (rows_after InputRow [] p.inputs) (Plain ∷ to_outputs more) (Plain ∷ to_outputs []) more (ap (λ l. Plain ∷ l) outputs-first)

  front-first : before_kinds p more ≡ before_kinds p [] ++ more
  front-first = ap (λ l. Plain ∷ NameRow ∷ Plain ∷ l) inputs-first

-- the text of an image with some kinds
pub text-of : (p : Program) (kinds : List Kind) → rows (record p { kinds = kinds }) ≡ three p kinds
text-of p kinds = front-first p (map KindRow kinds ++ after_kinds p)

-- a test of the text, part by part
pub test-of : (t : Row → Bool) (p : Program) (kinds : List Kind) → list_all t (rows (record p { kinds = kinds })) ≡ list_all t (before_kinds p []) && (list_all (λ k. t (KindRow k)) kinds && list_all t (after_kinds p))
test-of t p kinds =
    ap (list_all t) (text-of p kinds)
    ∙ list_all-append t (before_kinds p []) (map KindRow kinds ++ after_kinds p)
    ∙ ap (λ b. list_all t (before_kinds p []) && b) (list_all-append t (map KindRow kinds) (after_kinds p) ∙ ap (λ b. b && list_all t (after_kinds p)) (list_all-map t KindRow kinds))

-- a text has as many lines with as many kinds
pub as-many : (p : Program) (kinds : List Kind) → length kinds ≡ length p.kinds → line_count (record p { kinds = kinds }) ≡ line_count p
as-many p kinds long =
    let one = ap (λ (l : List Row). length l) (text-of p kinds) in
    let two = ap (λ (l : List Row). length l) (text-of p p.kinds) in
    let front = length-append (before_kinds p []) (map KindRow kinds ++ after_kinds p) in
    let front' = length-append (before_kinds p []) (map KindRow p.kinds ++ after_kinds p) in
    let back = length-append (map KindRow kinds) (after_kinds p) in
    let back' = length-append (map KindRow p.kinds) (after_kinds p) in
    omega (arith, one, two, front, front', back, back', length-map kinds KindRow, length-map p.kinds KindRow, long)

-- what I8 asks of a header of a handler for its kind, and what it asks besides
abbrev pub handled_by : List Kind → Row → Bool
handled_by kinds (HandlerRow before h) = handles (slice_get kinds h.kind) h.lines
handled_by kinds Plain = true
handled_by kinds NameRow = true
handled_by kinds (InputRow before i) = true
handled_by kinds (OutputRow before i) = true
handled_by kinds ResultRow = true
handled_by kinds ColumnsRow = true
handled_by kinds (KindRow k) = true
handled_by kinds (LineRow s l) = true
handled_by kinds MasterRow = true
handled_by kinds (CommandRow j c) = true

abbrev pub folds_besides : Row → Bool
folds_besides (HandlerRow before h) = of_other_kinds h.kind before
folds_besides Plain = true
folds_besides NameRow = true
folds_besides (InputRow before i) = true
folds_besides (OutputRow before i) = true
folds_besides ResultRow = true
folds_besides ColumnsRow = true
folds_besides (KindRow k) = combiner_fits k.combiner k.values
folds_besides (LineRow s l) = line_folds s l
folds_besides MasterRow = true
folds_besides (CommandRow j c) = true

and-swap : (a b : Bool) → a && b ≡ b && a
and-swap true true = refl
and-swap true false = refl
and-swap false true = refl
and-swap false false = refl

folds-both : (p : Program) (row : Row) → all_fold p row ≡ handled_by p.kinds row && folds_besides row
folds-both p (HandlerRow before h) = and-swap (of_other_kinds h.kind before) (handles (slice_get p.kinds h.kind) h.lines)
folds-both p Plain = refl
folds-both p NameRow = refl
folds-both p (InputRow before i) = refl
folds-both p (OutputRow before i) = refl
folds-both p ResultRow = refl
folds-both p ColumnsRow = refl
folds-both p (KindRow k) = refl
folds-both p (LineRow s l) = refl
folds-both p MasterRow = refl
folds-both p (CommandRow j c) = refl

and-cross : (a b c d : Bool) → (a && b) && (c && d) ≡ (a && c) && (b && d)
and-cross true true c d = refl
and-cross true false true d = refl
and-cross true false false d = refl
and-cross false b c d = refl

-- two tests of a list
pub both-of : (t u : Row → Bool) (xs : List Row) → list_all (λ x. t x && u x) xs ≡ list_all t xs && list_all u xs
both-of t u [] = refl
both-of t u (x ∷ xs) = ap (λ b. (t x && u x) && b) (both-of t u xs) ∙ and-cross (t x) (u x) (list_all t xs) (list_all u xs)

-- whether some handlers are what their kinds ask
abbrev pub are_handled : List Kind → List Handler → Bool
are_handled kinds hs = list_all (λ h. handles (slice_get kinds h.kind) h.lines) hs

module _ (kinds : List Kind) where
  abbrev t : Row → Bool
  t = handled_by kinds

  after-true : (xs ys : List Row) (b : Bool) → list_all t xs ≡ true → list_all t ys ≡ b → list_all t (xs ++ ys) ≡ b
  after-true xs ys b h k = list_all-append t xs ys ∙ ap (λ x. x && list_all t ys) h ∙ k

  inputs-free : (before xs : List Item) → list_all t (rows_after InputRow before xs) ≡ true
  inputs-free before [] = refl
  inputs-free before (x ∷ xs) = inputs-free (before ++ x ∷ []) xs

  outputs-free : (before xs : List Item) → list_all t (rows_after OutputRow before xs) ≡ true
  outputs-free before [] = refl
  outputs-free before (x ∷ xs) = outputs-free (before ++ x ∷ []) xs

  plains-free : {A : Type 0} (xs : List A) → list_all t (plain_rows xs) ≡ true
  plains-free [] = refl
  plains-free (x ∷ xs) = plains-free xs

  kinds-free : (ks : List Kind) → list_all (λ k. t (KindRow k)) ks ≡ true
  kinds-free [] = refl
  kinds-free (k ∷ ks) = kinds-free ks

  body-free : (earlier : List Line) (a : Around) (ls : List Line) → list_all t (body_rows earlier a ls) ≡ true
  body-free earlier a [] = refl
  body-free earlier a (l ∷ ls) = body-free (earlier ++ l ∷ []) (around_next a l ls) ls

  lines-free : (all : List Line) (kind : ℕ) (earlier ls : List Line) → list_all t (handler_rows all kind earlier ls) ≡ true
  lines-free all kind earlier [] = refl
  lines-free all kind earlier (l ∷ ls) = lines-free all kind (earlier ++ l ∷ []) ls

  commands-free : (j : ℕ) (cs : List Command) → list_all t (command_rows j cs) ≡ true
  commands-free j [] = refl
  commands-free j (c ∷ cs) = commands-free (suc j) cs

  -- the lines of some handlers pass where these are what their kinds ask
  handlers-asked : (all earlier : List Line) (before hs : List Handler) → list_all t (handlers_rows all earlier before hs) ≡ are_handled kinds hs
  handlers-asked all earlier before [] = refl
  handlers-asked all earlier before (h ∷ hs) =
      ap (λ b. handles (slice_get kinds h.kind) h.lines && b)
      (after-true (handler_rows all h.kind earlier h.lines) (handlers_rows all (earlier ++ h.lines) (before ++ h ∷ []) hs) (are_handled kinds hs)
      (lines-free all h.kind earlier h.lines) (handlers-asked all (earlier ++ h.lines) (before ++ h ∷ []) hs))

  and-end : (b : Bool) → b && true ≡ b
  and-end true = refl
  and-end false = refl

  block-asked : (b : Block) → list_all t (block_rows b) ≡ are_handled kinds b.handlers
  block-asked b =
      list_all-append t (handlers_rows (handled_lines b) [] [] b.handlers) (Plain ∷ body_rows (handled_lines b) outside b.body)
      ∙ ap (λ x. list_all t (handlers_rows (handled_lines b) [] [] b.handlers) && x) (body-free (handled_lines b) outside b.body)
      ∙ and-end (list_all t (handlers_rows (handled_lines b) [] [] b.handlers))
      ∙ handlers-asked (handled_lines b) [] [] b.handlers

  blocks-asked : (bs : List Block) → list_all t (flat_map block_rows bs) ≡ are_handled kinds (handlers_of bs)
  blocks-asked [] = refl
  blocks-asked (b ∷ bs) =
      list_all-append t (block_rows b) (flat_map block_rows bs)
      ∙ ap (λ x. x && list_all t (flat_map block_rows bs)) (block-asked b)
      ∙ ap (λ x. are_handled kinds b.handlers && x) (blocks-asked bs)
      ∙ sym (list_all-append (λ h. handles (slice_get kinds h.kind) h.lines) b.handlers (handlers_of bs))

  front-free : (p : Program) → list_all t (before_kinds p []) ≡ true
  front-free p =
      after-true (rows_after InputRow [] p.inputs) _ true (inputs-free [] p.inputs)
      (after-true (rows_after OutputRow [] p.outputs) _ true (outputs-free [] p.outputs)
      (after-true (plain_rows p.globals) _ true (plains-free p.globals)
      (after-true (plain_rows p.fields) _ true (plains-free p.fields)
      (after-true (plain_rows p.registers) _ true (plains-free p.registers)
      (after-true (plain_rows p.columns) (Plain ∷ []) true (plains-free p.columns) refl)))))

  back-asked : (p : Program) → list_all t (after_kinds p) ≡ are_handled kinds (handlers_of p.blocks)
  back-asked p =
      after-true (plain_rows p.places) _ (are_handled kinds (handlers_of p.blocks)) (plains-free p.places)
      (list_all-append t (flat_map block_rows p.blocks) (MasterRow ∷ command_rows 0 p.master)
      ∙ ap (λ x. list_all t (flat_map block_rows p.blocks) && x) (commands-free 0 p.master)
      ∙ and-end (list_all t (flat_map block_rows p.blocks))
      ∙ blocks-asked p.blocks)

  handled-text : (p : Program) → list_all t (rows (record p { kinds = kinds })) ≡ are_handled kinds (handlers_of p.blocks)
  handled-text p =
      test-of t p kinds
      ∙ ap (λ b. b && (list_all (λ k. t (KindRow k)) kinds && list_all t (after_kinds p))) (front-free p)
      ∙ ap (λ b. b && list_all t (after_kinds p)) (kinds-free kinds)
      ∙ back-asked p

-- whether a kind's combiner fits its values
abbrev pub fits_its_values : Kind → Bool
fits_its_values k = combiner_fits k.combiner k.values

-- I8 over the text of an image with some kinds: the handlers are what their kinds ask, the combiners fit, and the rest
pub folds-text : (p : Program) (kinds : List Kind) → keeps_rule (record p { kinds = kinds }) I8 ≡
    are_handled kinds (handlers_of p.blocks)
    && (list_all folds_besides (before_kinds p []) && (list_all fits_its_values kinds && list_all folds_besides (after_kinds p)))
folds-text p kinds =
    ap (λ test. list_all test (rows (record p { kinds = kinds }))) (fun_ext (folds-both (record p { kinds = kinds })))
    ∙ both-of (handled_by kinds) folds_besides (rows (record p { kinds = kinds }))
    ∙ ap (λ b. b && list_all folds_besides (rows (record p { kinds = kinds }))) (handled-text kinds p)
    ∙ ap (λ b. are_handled kinds (handlers_of p.blocks) && b) (test-of folds_besides p kinds)
