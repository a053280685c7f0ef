-- Walks over a whole text.
use Rattle.std.proofs.Common.{◌≡◌, ◌+◌, ◌<◌, ◌≤◌, ℕ, Option, None, Result, Ok, Err, List, [], ◌∷◌, ◌++◌, length, map, sym, ap, subst, ◌∙◌, arith, length-append}
use Rattle.std.specs.Prelude.{IsErrAnd, IfErr, IfOk, OnOk}
use Rattle.std.proofs.lemmas.Result.{err_from_is_err_and}
use Rattle.gm_image.specs.declared.rules.ImageRule.{ImageRule}
use Rattle.gm_image.specs.Program.{Program, Item}
use Rattle.gm_image.specs.Rows.{Row, Plain, NameRow, InputRow, OutputRow, ResultRow, ColumnsRow, KindRow, rows_after, plain_rows, rows, line_count}
use Rattle.gm_image.specs.Soundness.{broken_rule}
use Rattle.gm_verify.specs.declared.stops.VerifyStop.{VerifyStop}
use Rattle.gm_verify.specs.declared.stops.VerifyStop.TheVariants as stop
use Rattle.gm_verify.specs.Checks.{Steps, Checks, Walks, IsFirstBroken}
use Rattle.gm_verify.specs.Tails.{from_inputs, from_outputs, from_result, from_globals, from_columns, from_kinds, from_blocks, Reaches}
use Rattle.gm_verify.proofs.Declared.{length-rows_after}
use Rattle.gm_verify.proofs.Parts.{walks-tail}
use Rattle.gm_verify.proofs.Walking.{walks-start, walks-next, walks-stop, walks-plain, walks-plains, walks-section, walks-broken, walks-room}

-- the whole text
abbrev pub Behind : Program → ℕ → List Row → Type 0
Behind p m rest = Walks p 1 (rows p) m rest

-- what stops a walk is broken first
pub breaks : (p : Program) (e : VerifyStop) → Checks p 1 (rows p) (Err e) → IsFirstBroken p e
breaks p (stop.Broken r line) c = c
breaks p stop.NoMemory c = tt

-- behind the version
pub behind-version : (p : Program) → Behind p 2 (NameRow ∷ Plain ∷ from_inputs p)
behind-version p = walks-plain p 1 (rows p) 1 (NameRow ∷ Plain ∷ from_inputs p) (walks-start p 1 (rows p))

-- behind a line that breaks no rule
pub behind-line : (p : Program) (m next : ℕ) (row : Row) (rest : List Row) (rule : Option ImageRule) → Behind p m (row ∷ rest) → rule ≡ broken_rule p row → rule ≡ None → next ≡ m + 1 → Behind p next rest
behind-line p m next row rest rule w is none at = walks-next p 1 (rows p) m next row rest rule w is none at

-- and one that does
pub line-breaks : (p : Program) (m : ℕ) (row : Row) (rest : List Row) (rule : Option ImageRule) → Behind p m (row ∷ rest) → rule ≡ broken_rule p row → (e : VerifyStop) → Steps rule m (Err e) → IsFirstBroken p e
line-breaks p m row rest rule w is e stops = breaks p e (walks-stop p 1 (rows p) m row rest rule w is e stops)

-- behind a header
pub behind-plain : (p : Program) (m : ℕ) (rest : List Row) → Behind p m (Plain ∷ rest) → Behind p (m + 1) rest
behind-plain p m rest w = walks-plain p 1 (rows p) m rest w

-- behind lines that no rule looks at
pub behind-plains : {A : Type 0} (p : Program) (xs : List A) (m : ℕ) (rest : List Row) → Behind p m (plain_rows xs ++ rest) → Behind p (m + length xs) rest
behind-plains p xs m rest w = walks-plains p 1 (rows p) xs m rest w

-- behind a section that breaks no rule
pub behind-section : (p : Program) (m next : ℕ) (xs rest : List Row) → Behind p m (xs ++ rest) → Checks p m xs (Ok next) → Behind p next rest
behind-section p m next xs rest w c = walks-section p 1 (rows p) m next xs rest w c

-- and one that does
pub section-breaks : (p : Program) (m : ℕ) (xs rest : List Row) → Behind p m (xs ++ rest) → (e : VerifyStop) → Checks p m xs (Err e) → IsFirstBroken p e
section-breaks p m xs rest w e c = breaks p e (walks-broken p 1 (rows p) m xs rest w e c)

limit : (p : Program) → line_count p < 4294967296 → 1 + length (rows p) ≤ 4294967296
limit p room = omega (arith, room)

-- the number of a line that is reached
pub behind-room : (p : Program) (m : ℕ) (row : Row) (rest : List Row) → Behind p m (row ∷ rest) → line_count p < 4294967296 → m < 4294967296
behind-room p m row rest w room = walks-room p 1 (rows p) m row rest w (limit p room)

-- and of the lines that are left
pub behind-fits : (p : Program) (m : ℕ) (rest : List Row) → Behind p m rest → line_count p < 4294967296 → m + length rest ≤ 4294967296
behind-fits p m rest w room =
    let count : 1 + length (rows p) ≡ m + length rest = w.count in
    omega (arith, count, limit p room)

-- an answer that is an error, with what is known of the error
pub halted : (p : Program) (rest : List Row) (r : Result ℕ VerifyStop) (e : VerifyStop) → IsErrAnd r (λ d. d ≡ e) → IsFirstBroken p e → Reaches p rest r
halted p rest r e is broken =
    let q = err_from_is_err_and r is in
    subst (λ (s : Result ℕ VerifyStop). Reaches p rest s) (sym (q.1 ∙ ap (λ (d : VerifyStop). Err d) q.2)) broken

-- behind the header of the inputs
pub at-inputs : (p : Program) (header : ℕ) (rule : Option ImageRule) → rule ≡ broken_rule p NameRow → rule ≡ None → header ≡ 2 + 1 → Behind p (header + 1) (from_inputs p)
at-inputs p header rule is none at = behind-plain p header (from_inputs p) (behind-line p 2 header NameRow (Plain ∷ from_inputs p) rule (behind-version p) is none at)

-- behind the header of the outputs
pub at-outputs : (p : Program) (m outputs : ℕ) → Behind p m (from_inputs p) → Checks p m (rows_after InputRow [] p.inputs) (Ok outputs) → Behind p (outputs + 1) (from_outputs p)
at-outputs p m outputs w c = behind-plain p outputs (from_outputs p) (behind-section p m outputs (rows_after InputRow [] p.inputs) (Plain ∷ from_outputs p) w c)

-- behind the outputs
pub at-result : (p : Program) (m returned : ℕ) → Behind p m (from_outputs p) → Checks p m (rows_after OutputRow [] p.outputs) (Ok returned) → Behind p returned (from_result p)
at-result p m returned w c = behind-section p m returned (rows_after OutputRow [] p.outputs) (from_result p) w c

-- behind the header of the globals
pub at-globals : (p : Program) (m header : ℕ) (rule : Option ImageRule) → Behind p m (from_result p) → rule ≡ broken_rule p ResultRow → rule ≡ None → header ≡ m + 1 → Behind p (header + 1) (from_globals p)
at-globals p m header rule w is none at = behind-plain p header (from_globals p) (behind-line p m header ResultRow (Plain ∷ from_globals p) rule w is none at)

-- the room for the items that are declared
pub declared-fits : (p : Program) (m : ℕ) (row : List Item → Item → Row) (xs : List Item) (rest : List Row) → Behind p m (rows_after row [] xs ++ rest) → line_count p < 4294967296 → m + length xs ≤ 4294967296
declared-fits p m row xs rest w room =
    let long : length (rows_after row [] xs) ≡ length xs = length-rows_after row xs [] in
    let fits : m + length (rows_after row [] xs ++ rest) ≤ 4294967296 = behind-fits p m (rows_after row [] xs ++ rest) w room in
    omega (arith, fits, long, length-append (rows_after row [] xs) rest)

-- the room for lines that no rule looks at, and the line behind them
pub plains-fit : {A : Type 0} (p : Program) (m : ℕ) (xs : List A) (row : Row) (rest : List Row) → Behind p m (plain_rows xs ++ row ∷ rest) → line_count p < 4294967296 → m + length xs < 4294967296
plains-fit p m xs row rest w room = behind-room p (m + length xs) row rest (behind-plains p xs m (row ∷ rest) w) room

-- behind lines that no rule looks at, and a header
pub behind-part : {A : Type 0} (p : Program) (m next : ℕ) (xs : List A) (rest : List Row) → Behind p m (plain_rows xs ++ Plain ∷ rest) → next ≡ m + length xs + 1 → Behind p next rest
behind-part p m next xs rest w at =
    subst (λ (k : ℕ). Behind p k rest) (sym at) (behind-plain p (m + length xs) rest (behind-plains p xs m (Plain ∷ rest) w))

pub length-plains : {A : Type 0} (xs : List A) (rest : List Row) → length (plain_rows xs ++ rest) ≡ length xs + length rest
length-plains [] rest = omega arith
length-plains (x ∷ xs) rest =
    let more : length (plain_rows xs ++ rest) ≡ length xs + length rest = length-plains xs rest in
    omega (arith, more)

-- how many lines there are from the globals on
pub long-globals : (p : Program) → length (from_globals p) ≡ length p.globals + 1 + length p.fields + 1 + length p.registers + length (from_columns p)
long-globals p =
    let registers : length (plain_rows p.registers ++ from_columns p) ≡ length p.registers + length (from_columns p) = length-plains p.registers (from_columns p) in
    let fields : length (plain_rows p.fields ++ Plain ∷ (plain_rows p.registers ++ from_columns p)) ≡ length p.fields + length (Plain ∷ (plain_rows p.registers ++ from_columns p)) =
    length-plains p.fields (Plain ∷ (plain_rows p.registers ++ from_columns p)) in
    let globals : length (from_globals p) ≡ length p.globals + length (Plain ∷ (plain_rows p.fields ++ Plain ∷ (plain_rows p.registers ++ from_columns p))) =
    length-plains p.globals (Plain ∷ (plain_rows p.fields ++ Plain ∷ (plain_rows p.registers ++ from_columns p))) in
    omega (arith, registers, fields, globals)

-- and from the columns' header on
pub long-columns : (p : Program) → length (from_columns p) ≡ 1 + length p.columns + 1 + length (from_kinds p)
long-columns p =
    let columns : length (plain_rows p.columns ++ Plain ∷ from_kinds p) ≡ length p.columns + length (Plain ∷ from_kinds p) = length-plains p.columns (Plain ∷ from_kinds p) in
    omega (arith, columns)

-- at the columns' header
pub at-columns : (p : Program) (m fields registers header : ℕ) → Behind p m (from_globals p) → fields ≡ m + length p.globals + 1 → registers ≡ fields + length p.fields + 1 → header ≡ registers + length p.registers
    → Behind p header (from_columns p)
at-columns p m fields registers header w a b c =
    let first = behind-part p m fields p.globals (plain_rows p.fields ++ Plain ∷ (plain_rows p.registers ++ from_columns p)) w a in
    let second = behind-part p fields registers p.fields (plain_rows p.registers ++ from_columns p) first b in
    subst (λ (k : ℕ). Behind p k (from_columns p)) (sym c) (behind-plains p p.registers registers (from_columns p) second)

-- behind the header of the kinds
pub at-kinds : (p : Program) (header columns kinds : ℕ) (rule : Option ImageRule) → Behind p header (from_columns p) → rule ≡ broken_rule p ColumnsRow → rule ≡ None → columns ≡ header + 1
    → kinds ≡ columns + length p.columns + 1 → Behind p kinds (from_kinds p)
at-kinds p header columns kinds rule w is none at more =
    behind-part p columns kinds p.columns (from_kinds p) (behind-line p header columns ColumnsRow (plain_rows p.columns ++ Plain ∷ from_kinds p) rule w is none at) more

-- behind the header of the places
pub at-places : (p : Program) (m header : ℕ) → Behind p m (from_kinds p) → Checks p m (map KindRow p.kinds) (Ok header) → Behind p (header + 1) (plain_rows p.places ++ Plain ∷ from_blocks p)
at-places p m header w c =
    behind-plain p header (plain_rows p.places ++ Plain ∷ from_blocks p) (behind-section p m header (map KindRow p.kinds) (Plain ∷ (plain_rows p.places ++ Plain ∷ from_blocks p)) w c)

-- what is answered to the lines that are left is answered to the text
pub behind-tail : (p : Program) (m : ℕ) (rest : List Row) → Behind p m rest → (r : Result ℕ VerifyStop) → Checks p m rest r → Checks p 1 (rows p) r
behind-tail p m rest w r c = walks-tail p 1 (rows p) m rest w r c

-- what is broken first is what a walk finds
pub found : (p : Program) (e : VerifyStop) → IsFirstBroken p e → Checks p 1 (rows p) (Err e)
found p (stop.Broken r line) b = b
found p stop.NoMemory b = tt

-- an answer that is an error says what is broken first
pub refused : {A : Type 0} (p : Program) (r : Result A VerifyStop) (e : VerifyStop) → IsErrAnd r (λ d. d ≡ e) → Checks p 1 (rows p) (Err e) → IfErr r (IsFirstBroken p)
refused {A} p r e is c =
    let q = err_from_is_err_and r is in
    subst (λ (s : Result A VerifyStop). IfErr s (IsFirstBroken p)) (sym (q.1 ∙ ap (λ (d : VerifyStop). Err d) q.2)) (breaks p e c)

-- and nothing of an image
pub no-image : {A : Type 0} (P : A → Type 0) (r : Result A VerifyStop) (e : VerifyStop) → IsErrAnd r (λ d. d ≡ e) → IfOk r P
no-image {A} P r e is =
    let q = err_from_is_err_and r is in
    subst (λ (s : Result A VerifyStop). IfOk s P) (sym (q.1 ∙ ap (λ (d : VerifyStop). Err d) q.2)) tt

pub no-claim : {A : Type 0} (P : Type 0) (r : Result A VerifyStop) (e : VerifyStop) → IsErrAnd r (λ d. d ≡ e) → OnOk r P
no-claim {A} P r e is =
    let q = err_from_is_err_and r is in
    subst (λ (s : Result A VerifyStop). OnOk s P) (sym (q.1 ∙ ap (λ (d : VerifyStop). Err d) q.2)) tt
