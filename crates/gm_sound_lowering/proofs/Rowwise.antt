-- A test of all lines of an image's text, part by part.
use Rattle.std.proofs.Common.{◌≡◌, ℕ, suc, Bool, true, Some, None, List, [], ◌∷◌, ◌++◌, refl}
use Rattle.std.specs.Prelude.{map}
use Rattle.std.specs.List.{list_all, flat_map}
use Rattle.std.proofs.lemmas.Bool.{and_from}
use Rattle.gm_forms.proofs.Named.{both-true}
use Rattle.gm_image.specs.declared.images.Kind.{Kind}
use Rattle.gm_image.specs.Program.{Program, Line, Item, Handler, Block, Command}
use Rattle.gm_image.specs.Rows.{Row, Plain, NameRow, InputRow, OutputRow, ResultRow, ColumnsRow, KindRow, HandlerRow, LineRow, Site, Around, outside, in_handlers, around_next, handled_lines, body_rows, handler_rows, handlers_rows, MasterRow, CommandRow, rows, rows_after, plain_rows, block_rows, command_rows}

pub all-both : {A : Type 0} (f : A → Bool) (xs ys : List A) → list_all f xs ≡ true → list_all f ys ≡ true → list_all f (xs ++ ys) ≡ true
all-both f [] ys e h = h
all-both f (x ∷ xs) ys e h = let b = both-true (f x) (list_all f xs) e in and_from (f x) (list_all f (xs ++ ys)) b.0 (all-both f xs ys b.1 h)

pub all-mapped : {A B : Type 0} (f : B → Bool) (g : A → B) (xs : List A) → list_all (λ x. f (g x)) xs ≡ true → list_all f (map g xs) ≡ true
all-mapped f g [] h = refl
all-mapped f g (x ∷ xs) h = let b = both-true (f (g x)) (list_all (λ x. f (g x)) xs) h in and_from (f (g x)) (list_all f (map g xs)) b.0 (all-mapped f g xs b.1)

pub all-always : {A : Type 0} (f : A → Bool) → ((x : A) → f x ≡ true) → (xs : List A) → list_all f xs ≡ true
all-always f h [] = refl
all-always f h (x ∷ xs) = and_from (f x) (list_all f xs) (h x) (all-always f h xs)

pub all-flat : {A B : Type 0} (f : B → Bool) (g : A → List B) (xs : List A) → list_all (λ x. list_all f (g x)) xs ≡ true → list_all f (flat_map g xs) ≡ true
all-flat f g [] h = refl
all-flat f g (x ∷ xs) h =
    let b = both-true (list_all f (g x)) (list_all (λ x. list_all f (g x)) xs) h in all-both f (g x) (flat_map g xs) b.0 (all-flat f g xs b.1)

-- what holds of each item wherever it stands
pub after-always : {A : Type 0} (f : Row → Bool) (row : List A → A → Row) → ((before : List A) (x : A) → f (row before x) ≡ true) → (before xs : List A) → list_all f (rows_after row before xs) ≡ true
after-always f row h before [] = refl
after-always f row h before (x ∷ xs) =
    and_from (f (row before x)) (list_all f (rows_after row (before ++ x ∷ []) xs)) (h before x) (after-always f row h (before ++ x ∷ []) xs)

-- a test holds of each part of an image's text
pub record RowsPass (f : Row → Bool) (p : Program) : Type 0 where
  pub plain : f Plain ≡ true
  pub name : f NameRow ≡ true
  pub inputs : list_all f (rows_after InputRow [] p.inputs) ≡ true
  pub outputs : list_all f (rows_after OutputRow [] p.outputs) ≡ true
  pub result : f ResultRow ≡ true
  pub columns : f ColumnsRow ≡ true
  pub kinds : list_all (λ k. f (KindRow k)) p.kinds ≡ true
  pub blocks : list_all (λ b. list_all f (block_rows b)) p.blocks ≡ true
  pub list : f MasterRow ≡ true
  pub commands : list_all f (command_rows 0 p.master) ≡ true

pub rows-pass : (f : Row → Bool) (p : Program) → RowsPass f p → list_all f (rows p) ≡ true
rows-pass f p h =
    let r1 : List Row = MasterRow ∷ command_rows 0 p.master in
    let r2 : List Row = Plain ∷ (flat_map block_rows p.blocks ++ r1) in
    let r3 : List Row = Plain ∷ (plain_rows p.places ++ r2) in
    let r4 : List Row = Plain ∷ (map KindRow p.kinds ++ r3) in
    let r5 : List Row = ColumnsRow ∷ (plain_rows p.columns ++ r4) in
    let r6 : List Row = Plain ∷ (plain_rows p.registers ++ r5) in
    let r7 : List Row = Plain ∷ (plain_rows p.fields ++ r6) in
    let r8 : List Row = ResultRow ∷ (Plain ∷ (plain_rows p.globals ++ r7)) in
    let r9 : List Row = Plain ∷ (rows_after OutputRow [] p.outputs ++ r8) in
    let master : list_all f r1 ≡ true = and_from (f MasterRow) _ h.list h.commands in
    let blocks : list_all f r2 ≡ true = and_from (f Plain) _ h.plain (all-both f (flat_map block_rows p.blocks) r1 (all-flat f block_rows p.blocks h.blocks) master) in
    let places : list_all f r3 ≡ true = and_from (f Plain) _ h.plain (plains p.places r2 blocks) in
    let kinds : list_all f r4 ≡ true = and_from (f Plain) _ h.plain (all-both f (map KindRow p.kinds) r3 (all-mapped f KindRow p.kinds h.kinds) places) in
    let columns : list_all f r5 ≡ true = and_from (f ColumnsRow) _ h.columns (plains p.columns r4 kinds) in
    let registers : list_all f r6 ≡ true = and_from (f Plain) _ h.plain (plains p.registers r5 columns) in
    let fields : list_all f r7 ≡ true = and_from (f Plain) _ h.plain (plains p.fields r6 registers) in
    let globals : list_all f r8 ≡ true = and_from (f ResultRow) _ h.result (and_from (f Plain) _ h.plain (plains p.globals r7 fields)) in
    let outputs : list_all f r9 ≡ true = and_from (f Plain) _ h.plain (all-both f (rows_after OutputRow [] p.outputs) r8 h.outputs globals) in
    and_from (f Plain) _ h.plain (and_from (f NameRow) _ h.name (and_from (f Plain) _ h.plain (all-both f (rows_after InputRow [] p.inputs) r9 h.inputs outputs))) where
      plains : {A : Type 0} (xs : List A) (rs : List Row) → list_all f rs ≡ true → list_all f (plain_rows xs ++ rs) ≡ true
      plains xs rs g = all-both f (plain_rows xs) rs (all-mapped f (λ _. Plain) xs (all-always (λ _. f Plain) (λ _. h.plain) xs)) g

-- a test holds of each of some commands by its line, from a line on
abbrev pub AllFrom : (ℕ → Command → Bool) → ℕ → List Command → Type 0
AllFrom g j [] = Unit {0}
AllFrom g j (c ∷ cs) = (g j c ≡ true) × AllFrom g (suc j) cs

pub commands-pass : (f : Row → Bool) (j : ℕ) (cs : List Command) → AllFrom (λ j c. f (CommandRow j c)) j cs → list_all f (command_rows j cs) ≡ true
commands-pass f j [] h = refl
commands-pass f j (c ∷ cs) h = and_from (f (CommandRow j c)) (list_all f (command_rows (suc j) cs)) h.0 (commands-pass f (suc j) cs h.1)

-- what holds of all handlers and lines of vertices holds of the lines of a block
pub block-always : (f : Row → Bool) → f Plain ≡ true → ((before : List Handler) (h : Handler) → f (HandlerRow before h) ≡ true) → ((s : Site) (l : Line) → f (LineRow s l) ≡ true) → (b : Block) → list_all f (block_rows b) ≡ true
block-always f e h k b =
    and_from (f Plain) _ e (all-both f (handlers_rows (handled_lines b) [] [] b.handlers) (Plain ∷ body_rows (handled_lines b) outside b.body) (handlers (handled_lines b) [] [] b.handlers)
    (and_from (f Plain) _ e (bodies (handled_lines b) outside b.body))) where
      bodies : (earlier : List Line) (a : Around) (ls : List Line) → list_all f (body_rows earlier a ls) ≡ true
      bodies earlier a [] = refl
      bodies earlier a (l ∷ ls) = and_from (f (LineRow (record { kind = None; around = a; earlier = earlier; later = ls }) l)) _ (k _ l) (bodies (earlier ++ l ∷ []) (around_next a l ls) ls)

      lines : (all : List Line) (kind : ℕ) (earlier ls : List Line) → list_all f (handler_rows all kind earlier ls) ≡ true
      lines all kind earlier [] = refl
      lines all kind earlier (l ∷ ls) = and_from (f (LineRow (record { kind = Some kind; around = in_handlers all earlier; earlier = earlier; later = ls }) l)) _ (k _ l) (lines all kind (earlier ++ l ∷ []) ls)

      handlers : (all earlier : List Line) (before hs : List Handler) → list_all f (handlers_rows all earlier before hs) ≡ true
      handlers all earlier before [] = refl
      handlers all earlier before (x ∷ hs) =
          and_from (f (HandlerRow before x)) _ (h before x) (all-both f (handler_rows all x.kind earlier x.lines) (handlers_rows all (earlier ++ x.lines) (before ++ x ∷ []) hs) (lines all x.kind earlier x.lines) (handlers all (earlier ++ x.lines) (before ++ x ∷ []) hs))

-- a test that all lines pass but those of the master list
pub plainly : (f : Row → Bool) (p : Program) → f Plain ≡ true → f NameRow ≡ true → ((before : List Item) (i : Item) → f (InputRow before i) ≡ true) → ((before : List Item) (i : Item) → f (OutputRow before i) ≡ true)
    → f ResultRow ≡ true → f ColumnsRow ≡ true → ((k : Kind) → f (KindRow k) ≡ true) → ((before : List Handler) (h : Handler) → f (HandlerRow before h) ≡ true) → ((s : Site) (l : Line) → f (LineRow s l) ≡ true)
    → f MasterRow ≡ true → list_all f (command_rows 0 p.master) ≡ true → RowsPass f p
plainly f p plain name inputs outputs result columns kinds handlers lines list commands = record {
  plain = plain;
  name = name;
  inputs = after-always f InputRow inputs [] p.inputs;
  outputs = after-always f OutputRow outputs [] p.outputs;
  result = result;
  columns = columns;
  kinds = all-always (λ k. f (KindRow k)) kinds p.kinds;
  blocks = all-always (λ b. list_all f (block_rows b)) (block-always f plain handlers lines) p.blocks;
  list = list;
  commands = commands;
}

-- a test that all lines of the master list pass
pub no-commands : (f : Row → Bool) → ((j : ℕ) (c : Command) → f (CommandRow j c) ≡ true) → (j : ℕ) (cs : List Command) → list_all f (command_rows j cs) ≡ true
no-commands f h j [] = refl
no-commands f h j (c ∷ cs) = and_from (f (CommandRow j c)) (list_all f (command_rows (suc j) cs)) (h j c) (no-commands f h (suc j) cs)
