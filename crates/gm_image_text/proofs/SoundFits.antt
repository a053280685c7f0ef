-- A sound image has a text, its numbers being in range.
use Rattle.std.proofs.Common.{◌≡◌, ◌<◌, ◌≤◌, ◌+◌, ℕ, suc, true, ◌&&◌, List, [], ◌∷◌, ◌++◌, length, map, refl, ap, subst, arith, length-append}
use Rattle.std.specs.Prelude.{nat_lt, Some, None, Result, Ok, Err, IfOk, Vec}
use Rattle.std.specs.declared.alloc.Global.{Global}
use Rattle.std.specs.List.{list_all, flat_map, AllByRecursion}
use Rattle.std.proofs.lemmas.Bool.Decides.{nat_tests}
use Rattle.std.proofs.lemmas.List.{length-map}
use Rattle.gm_image.specs.Program.{Program, Item, Line, Command, Handler, Block}
use Rattle.gm_image.specs.Names.{is_name, has_new_name, has_new_slot, may_hold, follows_edges}
use Rattle.gm_image.specs.Rows.{Row, Plain, NameRow, InputRow, OutputRow, ResultRow, ColumnsRow, KindRow, HandlerRow, LineRow, MasterRow, CommandRow, Around, rows_after, plain_rows, body_rows, around_next, in_handlers, handler_rows, handlers_rows, handled_lines, outside, block_rows, command_rows, rows, line_count}
use Rattle.gm_image.specs.Soundness.{keeps_all, line_limit, is_sound}
use Rattle.gm_image_text.specs.Fits.{LineFits, CommandFits, InputFits, OutputFits, ListFits, Any, HandlerFits, BlockFits, Fits}
use Rattle.gm_image.specs.Ranges.{LineRanged, CommandRanged, InputRanged, OutputRanged, HandlerRanged, BlockRanged, Ranged}
use Rattle.gm_image_text.specs.declared.heads.Version.TheVariants as version
use Rattle.gm_image_text.specs.Spelling.{image_text}
use Rattle.gm_image_text.specs.ImageText.{IsTextOf}
use Rattle.gm_image_text.proofs.SoundTerms.{both, name_fits}
use Rattle.gm_image_text.proofs.SoundLines.{split, kept, Few, line_ok, command_ok}

any_all : {A : Type 0} (xs : List A) → AllByRecursion Any xs
any_all [] = tt
any_all (x ∷ xs) = (tt, any_all xs)

-- how many lines parts have
count_after : {A : Type 0} (row : List A → A → Row) (before xs : List A) → length (rows_after row before xs) ≡ length xs
count_after row before [] = refl
count_after row before (x ∷ xs) = ap suc (count_after row (before ++ x ∷ []) xs)

count_body : (earlier : List Line) (a : Around) (ls : List Line) → length (body_rows earlier a ls) ≡ length ls
count_body earlier a [] = refl
count_body earlier a (l ∷ ls) = ap suc (count_body (earlier ++ l ∷ []) (around_next a l ls) ls)

count_handler : (all : List Line) (kind : ℕ) (earlier ls : List Line) → length (handler_rows all kind earlier ls) ≡ length ls
count_handler all kind earlier [] = refl
count_handler all kind earlier (l ∷ ls) = ap suc (count_handler all kind (earlier ++ l ∷ []) ls)

count_commands : (j : ℕ) (cs : List Command) → length (command_rows j cs) ≡ length cs
count_commands j [] = refl
count_commands j (c ∷ cs) = ap suc (count_commands (suc j) cs)

count_handlers : (all earlier : List Line) (before hs : List Handler) → length hs ≤ length (handlers_rows all earlier before hs)
count_handlers all earlier before [] = omega arith
count_handlers all earlier before (h ∷ hs) =
    omega (arith, count_handlers all (earlier ++ h.lines) (before ++ h ∷ []) hs, length-append (handler_rows all h.kind earlier h.lines) (handlers_rows all (earlier ++ h.lines) (before ++ h ∷ []) hs))

count_blocks : (bs : List Block) → length bs ≤ length (flat_map block_rows bs)
count_blocks [] = omega arith
count_blocks (b ∷ bs) = omega (arith, count_blocks bs, length-append (block_rows b) (flat_map block_rows bs))

below : (n m : ℕ) → nat_lt n m ≡ true → n < m
below n m h = grind (arith, nat_tests)

few_lines : (p : Program) → nat_lt (line_count p) line_limit ≡ true → length (rows p) < 4294967296
few_lines p h = below (line_count p) line_limit h

module _ (p : Program) where
  abbrev AllKept : List Row → Type 0
  AllKept rs = list_all (keeps_all p) rs ≡ true

  inputs_ok : (before is : List Item) → AllByRecursion InputRanged is → AllKept (rows_after InputRow before is) → AllByRecursion InputFits is
  inputs_ok before [] r h = tt
  inputs_ok before (i ∷ is) r h =
      let it = both (keeps_all p (InputRow before i)) (list_all (keeps_all p) (rows_after InputRow (before ++ i ∷ []) is)) h in
      let k = kept p (InputRow before i) it.0 in
      let a = both (is_name i.name && has_new_name before i && has_new_slot before i && may_hold i.holder i.vtype) (follows_edges i.holder i.slot before) k.names in
      let b = both (is_name i.name && has_new_name before i && has_new_slot before i) (may_hold i.holder i.vtype) a.0 in
      let c = both (is_name i.name && has_new_name before i) (has_new_slot before i) b.0 in
      let d = both (is_name i.name) (has_new_name before i) c.0 in
      ((name_fits i.name d.0, r.0), inputs_ok (before ++ i ∷ []) is r.1 it.1)

  outputs_ok : (before is : List Item) → AllByRecursion OutputRanged is → AllKept (rows_after OutputRow before is) → AllByRecursion OutputFits is
  outputs_ok before [] r h = tt
  outputs_ok before (i ∷ is) r h =
      let it = both (keeps_all p (OutputRow before i)) (list_all (keeps_all p) (rows_after OutputRow (before ++ i ∷ []) is)) h in
      let k = kept p (OutputRow before i) it.0 in
      let d = both (is_name i.name) (has_new_name before i) k.names in
      ((r.0.0, name_fits i.name d.0, r.0.1), outputs_ok (before ++ i ∷ []) is r.1 it.1)

  body_ok : (earlier : List Line) (a : Around) (ls : List Line) → AllByRecursion LineRanged ls → Few p → AllKept (body_rows earlier a ls) → AllByRecursion (LineFits version.Two) ls
  body_ok earlier a [] r few h = tt
  body_ok earlier a (l ∷ ls) r few h =
      let it = both (keeps_all p (LineRow (record { kind = None; around = a; earlier = earlier; later = ls }) l)) (list_all (keeps_all p) (body_rows (earlier ++ l ∷ []) (around_next a l ls) ls)) h in
      (line_ok p (record { kind = None; around = a; earlier = earlier; later = ls }) l r.0 few (kept p _ it.0), body_ok (earlier ++ l ∷ []) (around_next a l ls) ls r.1 few it.1)

  handler_ok : (all : List Line) (kind : ℕ) (earlier ls : List Line) → AllByRecursion LineRanged ls → Few p → AllKept (handler_rows all kind earlier ls) → AllByRecursion (LineFits version.Two) ls
  handler_ok all kind earlier [] r few h = tt
  handler_ok all kind earlier (l ∷ ls) r few h =
      let it = both (keeps_all p (LineRow (record { kind = Some kind; around = in_handlers all earlier; earlier = earlier; later = ls }) l)) (list_all (keeps_all p) (handler_rows all kind (earlier ++ l ∷ []) ls)) h in
      (line_ok p (record { kind = Some kind; around = in_handlers all earlier; earlier = earlier; later = ls }) l r.0 few (kept p _ it.0), handler_ok all kind (earlier ++ l ∷ []) ls r.1 few it.1)

  handlers_ok : (all earlier : List Line) (before hs : List Handler) → AllByRecursion HandlerRanged hs → Few p → AllKept (handlers_rows all earlier before hs)
      → length (handlers_rows all earlier before hs) < 4294967296 → AllByRecursion (HandlerFits version.Two) hs
  handlers_ok all earlier before [] r few h n = tt
  handlers_ok all earlier before (x ∷ hs) r few h n =
      let mine = handler_rows all x.kind earlier x.lines in
      let more = handlers_rows all (earlier ++ x.lines) (before ++ x ∷ []) hs in
      let it = both (keeps_all p (HandlerRow before x)) (list_all (keeps_all p) (mine ++ more)) h in
      let parts = split (keeps_all p) mine more it.1 in
      let total : length mine + length more < 4294967296 = omega (arith, length-append mine more) in
      let small : length x.lines < 4294967296 = omega (arith, count_handler all x.kind earlier x.lines) in
      let rest : length more < 4294967296 = omega arith in
      ((r.0.0, (small, handler_ok all x.kind earlier x.lines r.0.1 few parts.0)), handlers_ok all (earlier ++ x.lines) (before ++ x ∷ []) hs r.1 few parts.1 rest)

  block_ok : (b : Block) → BlockRanged b → Few p → AllKept (block_rows b) → length (block_rows b) < 4294967296 → BlockFits version.Two b
  block_ok b r few h n =
      let hs = handlers_rows (handled_lines b) [] [] b.handlers in
      let ls = body_rows (handled_lines b) outside b.body in
      let it = both (keeps_all p Plain) (list_all (keeps_all p) (hs ++ Plain ∷ ls)) h in
      let parts = split (keeps_all p) hs (Plain ∷ ls) it.1 in
      let last = both (keeps_all p Plain) (list_all (keeps_all p) ls) parts.1 in
      let total : length hs + length ls < 4294967296 = omega (arith, length-append hs (Plain ∷ ls)) in
      let some : length hs < 4294967296 = omega arith in
      let handlers : length b.handlers < 4294967296 = omega (arith, count_handlers (handled_lines b) [] [] b.handlers) in
      let body : length b.body < 4294967296 = omega (arith, count_body (handled_lines b) outside b.body) in
      ((handlers, handlers_ok (handled_lines b) [] [] b.handlers r.0 few parts.0 some), (body, body_ok (handled_lines b) outside b.body r.1 few last.1))

  blocks_ok : (bs : List Block) → AllByRecursion BlockRanged bs → Few p → AllKept (flat_map block_rows bs) → length (flat_map block_rows bs) < 4294967296 → AllByRecursion (BlockFits version.Two) bs
  blocks_ok [] r few h n = tt
  blocks_ok (b ∷ bs) r few h n =
      let parts = split (keeps_all p) (block_rows b) (flat_map block_rows bs) h in
      let total : length (block_rows b) + length (flat_map block_rows bs) < 4294967296 = omega (arith, length-append (block_rows b) (flat_map block_rows bs)) in
      let here : length (block_rows b) < 4294967296 = omega arith in
      let rest : length (flat_map block_rows bs) < 4294967296 = omega arith in
      (block_ok b r.0 few parts.0 here, blocks_ok bs r.1 few parts.1 rest)

  commands_ok : (j : ℕ) (cs : List Command) → AllByRecursion CommandRanged cs → AllKept (command_rows j cs) → AllByRecursion CommandFits cs
  commands_ok j [] r h = tt
  commands_ok j (c ∷ cs) r h =
      let it = both (keeps_all p (CommandRow j c)) (list_all (keeps_all p) (command_rows (suc j) cs)) h in
      (command_ok p j c r.0 (kept p (CommandRow j c) it.0), commands_ok (suc j) cs r.1 it.1)

  cut : (rs : List Row) (row : Row) (more : List Row) → AllKept (rs ++ row ∷ more) → AllKept rs × AllKept more
  cut rs row more h =
      let parts = split (keeps_all p) rs (row ∷ more) h in
      (parts.0, (both (keeps_all p row) (list_all (keeps_all p) more) parts.1).1)

  few_of : (rs : List Row) (row : Row) (more : List Row) (n : ℕ) → length (rs ++ row ∷ more) < n → (length rs < n) × (length more < n)
  few_of rs row more n h =
      let all : length rs + suc (length more) < n = omega (arith, length-append rs (row ∷ more)) in
      (omega arith, omega arith)

  plain_few : {A : Type 0} (xs : List A) → length (plain_rows xs) < 4294967296 → ListFits Any xs
  plain_few xs h = (omega (arith, length-map xs (λ _. Plain)), any_all xs)

  pub sound_fits : Ranged p → is_sound p ≡ true → Fits version.Two p
  sound_fits r s =
      let m0 = command_rows 0 p.master in
      let b0 = flat_map block_rows p.blocks in
      let s1 = b0 ++ MasterRow ∷ m0 in
      let s2 = plain_rows p.places ++ Plain ∷ s1 in
      let s3 = map KindRow p.kinds ++ Plain ∷ s2 in
      let s4 = plain_rows p.columns ++ Plain ∷ s3 in
      let s5 = plain_rows p.registers ++ ColumnsRow ∷ s4 in
      let s6 = plain_rows p.fields ++ Plain ∷ s5 in
      let s7 = plain_rows p.globals ++ Plain ∷ s6 in
      let s8 = rows_after OutputRow [] p.outputs ++ ResultRow ∷ (Plain ∷ s7) in
      let s9 = rows_after InputRow [] p.inputs ++ Plain ∷ s8 in
      let h = both (list_all (keeps_all p) (rows p)) (nat_lt (line_count p) line_limit) s in
      let h0 = both (keeps_all p Plain) (list_all (keeps_all p) (NameRow ∷ (Plain ∷ s9))) h.0 in
      let h1 = both (keeps_all p NameRow) (list_all (keeps_all p) (Plain ∷ s9)) h0.1 in
      let h2 = both (keeps_all p Plain) (list_all (keeps_all p) s9) h1.1 in
      let c9 = cut (rows_after InputRow [] p.inputs) Plain s8 h2.1 in
      let c8 = cut (rows_after OutputRow [] p.outputs) ResultRow (Plain ∷ s7) c9.1 in
      let h7 = both (keeps_all p Plain) (list_all (keeps_all p) s7) c8.1 in
      let c7 = cut (plain_rows p.globals) Plain s6 h7.1 in
      let c6 = cut (plain_rows p.fields) Plain s5 c7.1 in
      let c5 = cut (plain_rows p.registers) ColumnsRow s4 c6.1 in
      let c4 = cut (plain_rows p.columns) Plain s3 c5.1 in
      let c3 = cut (map KindRow p.kinds) Plain s2 c4.1 in
      let c2 = cut (plain_rows p.places) Plain s1 c3.1 in
      let c1 = cut b0 MasterRow m0 c2.1 in
      let all : length (rows p) < 4294967296 = few_lines p h.1 in
      let n9 : length s9 < 4294967296 = omega arith in
      let l9 = few_of (rows_after InputRow [] p.inputs) Plain s8 4294967296 n9 in
      let l8 = few_of (rows_after OutputRow [] p.outputs) ResultRow (Plain ∷ s7) 4294967296 l9.1 in
      let n7 : length s7 < 4294967296 = omega (arith, l8.1) in
      let l7 = few_of (plain_rows p.globals) Plain s6 4294967296 n7 in
      let l6 = few_of (plain_rows p.fields) Plain s5 4294967296 l7.1 in
      let l5 = few_of (plain_rows p.registers) ColumnsRow s4 4294967296 l6.1 in
      let l4 = few_of (plain_rows p.columns) Plain s3 4294967296 l5.1 in
      let l3 = few_of (map KindRow p.kinds) Plain s2 4294967296 l4.1 in
      let l2 = few_of (plain_rows p.places) Plain s1 4294967296 l3.1 in
      let l1 = few_of b0 MasterRow m0 4294967296 l2.1 in
      let globals : ListFits Any p.globals = plain_few p.globals l7.0 in
      let fields : ListFits Any p.fields = plain_few p.fields l6.0 in
      let few : Few p = record { globals = globals.0; fields = fields.0 } in
      record {
        name = name_fits p.name (kept p NameRow h1.0).names;
        inputs = (omega (arith, l9.0, count_after InputRow [] p.inputs), inputs_ok [] p.inputs r.inputs c9.0);
        outputs = (omega (arith, l8.0, count_after OutputRow [] p.outputs), outputs_ok [] p.outputs r.outputs c8.0);
        result = r.result;
        globals = globals;
        fields = fields;
        registers = plain_few p.registers l5.0;
        columns = plain_few p.columns l4.0;
        kinds = (omega (arith, l3.0, length-map p.kinds KindRow), any_all p.kinds);
        places = (omega (arith, l2.0, length-map p.places (λ _. Plain)), r.places);
        blocks = (omega (arith, l1.0, count_blocks p.blocks), blocks_ok p.blocks r.blocks few c1.0 l1.0);
        master = (omega (arith, l1.1, count_commands 0 p.master), commands_ok 0 p.master r.master c1.1);
      }

-- what is written for a sound image is its text
pub written_text : {E : Type 0} (p q : Program) (r : Result (Vec ℕ Global) E) → p ≡ q → is_sound p ≡ true → Ranged p → IfOk r (λ text. text.items ≡ image_text q) → IfOk r (λ text. IsTextOf q text.items)
written_text p q (Ok text) e s n h =
    let sound : is_sound q ≡ true = subst (λ x. is_sound x ≡ true) e s in
    let ranged : Ranged q = subst (λ x. Ranged x) e n in
    record { version = version.Two; fits = sound_fits q ranged sound; spelled = h }
written_text p q (Err x) e s n h = h
