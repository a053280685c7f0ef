-- An image has no more lines than its text has bytes: each line ends with a byte of its own.
use Rattle.std.proofs.Common.{◌≡◌, ◌≤◌, ◌+◌, ◌∙◌, ℕ, suc, List, [], ◌∷◌, ◌++◌, length, refl, ap, arith, length-append}
use Rattle.std.specs.Prelude.{codes}
use Rattle.std.specs.Fmt.{decimal}
use Rattle.std.specs.List.{flat_map}
use Rattle.std.proofs.lemmas.List.{length-map}
use Rattle.std.proofs.lemmas.List.Concat.{flat_map-append}
use Rattle.gm_image.specs.Program as programs
use Rattle.gm_image.specs.Program.{Program, Command, Item, Handler, Block}
use Rattle.gm_image.specs.Rows.{Row, Around, line_count, rows_after, body_rows, handler_rows, handlers_rows, handled_lines, block_rows, command_rows, around_next, outside}
use Rattle.gm_image_text.specs.Lines.{Word, Line, joined, spaced, text_of}
use Rattle.gm_image_text.specs.Spelling.{one_line, listed, handler_lines, block_lines, vertex_words, item_words, result_words, type_word, type_lines, kind_words, place_pair, command_words, opening_lines, middle_lines, closing_lines, image_text}

-- ---- how many rows there are

length-rows_after : {A : Type 0} (row : List A → A → Row) (before xs : List A) → length (rows_after row before xs) ≡ length xs
length-rows_after row before [] = refl
length-rows_after row before (x ∷ xs) = ap suc (length-rows_after row (before ++ x ∷ []) xs)

length-body_rows : (earlier : List programs.Line) (a : Around) (ls : List programs.Line) → length (body_rows earlier a ls) ≡ length ls
length-body_rows earlier a [] = refl
length-body_rows earlier a (l ∷ ls) = ap suc (length-body_rows (earlier ++ l ∷ []) (around_next a l ls) ls)

length-handler_rows : (all : List programs.Line) (kind : ℕ) (earlier ls : List programs.Line) → length (handler_rows all kind earlier ls) ≡ length ls
length-handler_rows all kind earlier [] = refl
length-handler_rows all kind earlier (l ∷ ls) = ap suc (length-handler_rows all kind (earlier ++ l ∷ []) ls)

length-command_rows : (j : ℕ) (cs : List Command) → length (command_rows j cs) ≡ length cs
length-command_rows j [] = refl
length-command_rows j (c ∷ cs) = ap suc (length-command_rows (suc j) cs)

-- ---- how long texts are

-- a text of a line more is longer
line-longer : (ws : List Word) (lines : List Line) → suc (length (text_of lines)) ≤ length (text_of (spaced ws ∷ lines))
line-longer ws lines =
    let whole : length (text_of (spaced ws ∷ lines)) ≡ length (spaced ws) + length (text_of lines) = length-append (spaced ws) (text_of lines) in
    let one : length (spaced ws) ≡ length (joined ws) + 1 = length-append (joined ws) (10 ∷ []) in
    omega (arith, whole, one)

-- texts one behind the other
length-text_of : (xs ys : List Line) → length (text_of (xs ++ ys)) ≡ length (text_of xs) + length (text_of ys)
length-text_of xs ys = ap length (flat_map-append (λ line. line) xs ys) ∙ length-append (text_of xs) (text_of ys)

-- a line for each item
items-long : {A : Type 0} (words : A → List Word) (xs : List A) → length xs ≤ length (text_of (flat_map (one_line words) xs))
items-long words [] = omega arith
items-long words (x ∷ xs) =
    let first : suc (length (text_of (flat_map (one_line words) xs))) ≤ length (text_of (flat_map (one_line words) (x ∷ xs))) = line-longer (words x) (flat_map (one_line words) xs) in
    let more : length xs ≤ length (text_of (flat_map (one_line words) xs)) = items-long words xs in
    omega (arith, first, more)

-- a header, and behind it the lines of each item
listed-longer : {A : Type 0} (word : Word) (lines : A → List Line) (xs : List A) → suc (length (text_of (flat_map lines xs))) ≤ length (text_of (listed word lines xs))
listed-longer word lines xs = line-longer (word ∷ _ ∷ []) (flat_map lines xs)

listed-long : {A : Type 0} (word : Word) (words : A → List Word) (xs : List A) → suc (length xs) ≤ length (text_of (listed word (one_line words) xs))
listed-long word words xs =
    let header : suc (length (text_of (flat_map (one_line words) xs))) ≤ length (text_of (listed word (one_line words) xs)) = listed-longer word (one_line words) xs in
    let items : length xs ≤ length (text_of (flat_map (one_line words) xs)) = items-long words xs in
    omega (arith, header, items)

-- ---- the lines of blocks

handlers-long : (all earlier : List programs.Line) (before hs : List Handler) → length (handlers_rows all earlier before hs) ≤ length (text_of (flat_map handler_lines hs))
handlers-long all earlier before [] = omega arith
handlers-long all earlier before (h ∷ hs) =
    let own : List Line = flat_map (one_line vertex_words) h.lines in
    let others : List Line = flat_map handler_lines hs in
    let first : suc (length (text_of (own ++ others))) ≤ length (text_of (flat_map handler_lines (h ∷ hs))) = line-longer (codes "on" ∷ decimal h.kind ∷ decimal (length h.lines) ∷ []) (own ++ others) in
    let parts : length (text_of (own ++ others)) ≡ length (text_of own) + length (text_of others) = length-text_of own others in
    let lines : length h.lines ≤ length (text_of own) = items-long vertex_words h.lines in
    let more : length (handlers_rows all (earlier ++ h.lines) (before ++ h ∷ []) hs) ≤ length (text_of others) = handlers-long all (earlier ++ h.lines) (before ++ h ∷ []) hs in
    let count : length (handler_rows all h.kind earlier h.lines ++ handlers_rows all (earlier ++ h.lines) (before ++ h ∷ []) hs)
    ≡ length h.lines + length (handlers_rows all (earlier ++ h.lines) (before ++ h ∷ []) hs) =
    length-append (handler_rows all h.kind earlier h.lines) _ ∙ ap (λ n. n + length (handlers_rows all (earlier ++ h.lines) (before ++ h ∷ []) hs)) (length-handler_rows all h.kind earlier h.lines) in
    omega (arith, first, parts, lines, more, count)

block-long : (b : Block) → length (block_rows b) ≤ length (text_of (block_lines b))
block-long b =
    let handlers : List Row = handlers_rows (handled_lines b) [] [] b.handlers in
    let body : List Row = body_rows (handled_lines b) outside b.body in
    let head : List Line = listed (codes "block") handler_lines b.handlers in
    let tail : List Line = listed (codes "body") (one_line vertex_words) b.body in
    let parts : length (text_of (block_lines b)) ≡ length (text_of head) + length (text_of tail) = length-text_of head tail in
    let first : suc (length (text_of (flat_map handler_lines b.handlers))) ≤ length (text_of head) = listed-longer (codes "block") handler_lines b.handlers in
    let lines : length handlers ≤ length (text_of (flat_map handler_lines b.handlers)) = handlers-long (handled_lines b) [] [] b.handlers in
    let last : suc (length b.body) ≤ length (text_of tail) = listed-long (codes "body") vertex_words b.body in
    let size : length body ≡ length b.body = length-body_rows (handled_lines b) outside b.body in
    let count : length (block_rows b) ≡ suc (length handlers + suc (length body)) = ap suc (length-append handlers _) in
    omega (arith, parts, first, lines, last, size, count)

blocks-long : (bs : List Block) → length (flat_map block_rows bs) ≤ length (text_of (flat_map block_lines bs))
blocks-long [] = omega arith
blocks-long (b ∷ bs) =
    let parts : length (text_of (flat_map block_lines (b ∷ bs))) ≡ length (text_of (block_lines b)) + length (text_of (flat_map block_lines bs)) = length-text_of (block_lines b) (flat_map block_lines bs) in
    let count : length (flat_map block_rows (b ∷ bs)) ≡ length (block_rows b) + length (flat_map block_rows bs) = length-append (block_rows b) (flat_map block_rows bs) in
    let first : length (block_rows b) ≤ length (text_of (block_lines b)) = block-long b in
    let more : length (flat_map block_rows bs) ≤ length (text_of (flat_map block_lines bs)) = blocks-long bs in
    omega (arith, parts, count, first, more)

-- ---- the whole

rows-count : (p : Program) → line_count p ≡ 13 + length p.inputs + length p.outputs + length p.globals + length p.fields + length p.registers + length p.columns + length p.kinds + length p.places + length (flat_map block_rows p.blocks) + length p.master
rows-count p = simp (length-append, length-map, length-rows_after, length-command_rows) (omega arith)

opening-long : (p : Program) → 5 + length p.inputs + length p.outputs ≤ length (text_of (opening_lines p))
opening-long p =
    let inputs : List Line = listed (codes "inputs") (one_line item_words) p.inputs in
    let outputs : List Line = listed (codes "outputs") (one_line item_words) p.outputs in
    let result : List Line = spaced (result_words p.result) ∷ [] in
    let first : suc (length (text_of (spaced (codes "name" ∷ p.name ∷ []) ∷ (inputs ++ (outputs ++ result))))) ≤ length (text_of (opening_lines p)) = line-longer (codes "gm-image" ∷ codes "1" ∷ []) (spaced (codes "name" ∷ p.name ∷ []) ∷ (inputs ++ (outputs ++ result))) in
    let second : suc (length (text_of (inputs ++ (outputs ++ result)))) ≤ length (text_of (spaced (codes "name" ∷ p.name ∷ []) ∷ (inputs ++ (outputs ++ result)))) = line-longer (codes "name" ∷ p.name ∷ []) (inputs ++ (outputs ++ result)) in
    let parts : length (text_of (inputs ++ (outputs ++ result))) ≡ length (text_of inputs) + length (text_of (outputs ++ result)) = length-text_of inputs (outputs ++ result) in
    let rest : length (text_of (outputs ++ result)) ≡ length (text_of outputs) + length (text_of result) = length-text_of outputs result in
    let a : suc (length p.inputs) ≤ length (text_of inputs) = listed-long (codes "inputs") item_words p.inputs in
    let b : suc (length p.outputs) ≤ length (text_of outputs) = listed-long (codes "outputs") item_words p.outputs in
    let c : suc (length (text_of [])) ≤ length (text_of result) = line-longer (result_words p.result) [] in
    omega (arith, first, second, parts, rest, a, b, c)

middle-long : (p : Program) → 6 + length p.globals + length p.fields + length p.registers + length p.columns + length p.kinds + length p.places ≤ length (text_of (middle_lines p))
middle-long p =
    let globals : List Line = listed (codes "globals") type_lines p.globals in
    let fields : List Line = listed (codes "fields") type_lines p.fields in
    let registers : List Line = listed (codes "registers") type_lines p.registers in
    let columns : List Line = listed (codes "columns") type_lines p.columns in
    let kinds : List Line = listed (codes "kinds") (one_line kind_words) p.kinds in
    let places : List Line = listed (codes "places") (one_line place_pair) p.places in
    let one : length (text_of (middle_lines p)) ≡ length (text_of globals) + length (text_of (fields ++ (registers ++ (columns ++ (kinds ++ places))))) = length-text_of globals _ in
    let two : length (text_of (fields ++ (registers ++ (columns ++ (kinds ++ places))))) ≡ length (text_of fields) + length (text_of (registers ++ (columns ++ (kinds ++ places)))) = length-text_of fields _ in
    let three : length (text_of (registers ++ (columns ++ (kinds ++ places)))) ≡ length (text_of registers) + length (text_of (columns ++ (kinds ++ places))) = length-text_of registers _ in
    let four : length (text_of (columns ++ (kinds ++ places))) ≡ length (text_of columns) + length (text_of (kinds ++ places)) = length-text_of columns _ in
    let five : length (text_of (kinds ++ places)) ≡ length (text_of kinds) + length (text_of places) = length-text_of kinds places in
    let a : suc (length p.globals) ≤ length (text_of globals) = listed-long (codes "globals") (λ v. type_word v ∷ []) p.globals in
    let b : suc (length p.fields) ≤ length (text_of fields) = listed-long (codes "fields") (λ v. type_word v ∷ []) p.fields in
    let c : suc (length p.registers) ≤ length (text_of registers) = listed-long (codes "registers") (λ v. type_word v ∷ []) p.registers in
    let d : suc (length p.columns) ≤ length (text_of columns) = listed-long (codes "columns") (λ v. type_word v ∷ []) p.columns in
    let e : suc (length p.kinds) ≤ length (text_of kinds) = listed-long (codes "kinds") kind_words p.kinds in
    let f : suc (length p.places) ≤ length (text_of places) = listed-long (codes "places") place_pair p.places in
    omega (arith, one, two, three, four, five, a, b, c, d, e, f)

closing-long : (p : Program) → 2 + length (flat_map block_rows p.blocks) + length p.master ≤ length (text_of (closing_lines p))
closing-long p =
    let blocks : List Line = listed (codes "blocks") block_lines p.blocks in
    let master : List Line = listed (codes "master") (one_line command_words) p.master in
    let parts : length (text_of (closing_lines p)) ≡ length (text_of blocks) + length (text_of master) = length-text_of blocks master in
    let header : suc (length (text_of (flat_map block_lines p.blocks))) ≤ length (text_of blocks) = listed-longer (codes "blocks") block_lines p.blocks in
    let lines : length (flat_map block_rows p.blocks) ≤ length (text_of (flat_map block_lines p.blocks)) = blocks-long p.blocks in
    let last : suc (length p.master) ≤ length (text_of master) = listed-long (codes "master") command_words p.master in
    omega (arith, parts, header, lines, last)

-- an image has no more lines than its text has bytes
pub lines-few : (p : Program) → line_count p ≤ length (image_text p)
lines-few p =
    let count : line_count p ≡ 13 + length p.inputs + length p.outputs + length p.globals + length p.fields + length p.registers + length p.columns + length p.kinds + length p.places + length (flat_map block_rows p.blocks) + length p.master = rows-count p in
    let parts : length (image_text p) ≡ length (text_of (opening_lines p)) + length (text_of (middle_lines p ++ closing_lines p)) = length-text_of (opening_lines p) (middle_lines p ++ closing_lines p) in
    let rest : length (text_of (middle_lines p ++ closing_lines p)) ≡ length (text_of (middle_lines p)) + length (text_of (closing_lines p)) = length-text_of (middle_lines p) (closing_lines p) in
    let a : 5 + length p.inputs + length p.outputs ≤ length (text_of (opening_lines p)) = opening-long p in
    let b : 6 + length p.globals + length p.fields + length p.registers + length p.columns + length p.kinds + length p.places ≤ length (text_of (middle_lines p)) = middle-long p in
    let c : 2 + length (flat_map block_rows p.blocks) + length p.master ≤ length (text_of (closing_lines p)) = closing-long p in
    omega (arith, count, parts, rest, a, b, c)
