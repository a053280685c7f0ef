-- A joined image is sound.
use Rattle.std.proofs.Common.{◌≡◌, ◌<◌, ◌≤◌, ℕ, zero, suc, ◌+◌, Bool, true, false, cond, ◌&&◌, not, nat_eq, nat_lt, Option, Some, None, List, [], ◌∷◌, ◌++◌, map, filter, length, refl, sym, ap, ◌∙◌, arith, length-append}
use Rattle.std.specs.Prelude.{IsTrue, slice_get, slice_index_or}
use Rattle.std.specs.List.{list_all, flat_map, enumerate_from}
use Rattle.std.proofs.lemmas.Bool.{and_parts, ltb-true, lt-ltb, ne_eqb}
use Rattle.std.proofs.lemmas.List.{append-nil}
use Rattle.std.proofs.lemmas.List.Folds.{list_all-append}
use Rattle.std.proofs.lemmas.List.Concat.{flat_map-append}
use Rattle.gm_value.specs.declared.values.VType.{VType}
use Rattle.gm_value.specs.Operations.{same_type}
use Rattle.gm_image.specs.declared.rules.ImageRule.TheVariants.{I1, I2, I3, I4, I5, I7}
use Rattle.gm_image.specs.Program.{Program, Block, Holder, Scalar, Node, Edge, Command, SetGlobal, Step, Jump, Test, Turn, Back, Finish}
use Rattle.gm_image.specs.Parts.{all_leaves, command_terms}
use Rattle.gm_image.specs.Rows.{Row, Plain, NameRow, InputRow, OutputRow, ResultRow, ColumnsRow, KindRow, HandlerRow, LineRow, MasterRow, CommandRow, rows, rows_after, plain_rows, block_rows, handlers_rows, handled_lines, body_rows, command_rows, outside, line_count}
use Rattle.gm_image.specs.Indices.{in_range, held_by, result_in_range, command_in_range, term_in_range}
use Rattle.gm_image.specs.Fits.{type_holds, result_fits, command_fits}
use Rattle.gm_image.specs.Jumps.{jumps_forward, exits_behind, goes_back, is_end, ends_last}
use Rattle.gm_image.specs.Leaves.{stands_in_master}
use Rattle.gm_image.specs.Names.{input_keeps, output_keeps}
use Rattle.gm_image.specs.Soundness.{keeps, keeps_all, image_rules, is_sound, line_limit}
use Rattle.gm_machine.specs.Machine.{block_at, no_block}
use Rattle.gm_machine.proofs.SoundHandlers.{all_front, all_back, all_first, all_rest, all_at, blocks_pass}
use Rattle.gm_machine.proofs.SoundPuts.{sound-puts, put_reduction}
use Rattle.gm_merge_laws.specs.Joins.{block_lines, put_globals, puts_none, is_left, restart, joined_block, replaced, joined_image, Joinable}
use Rattle.gm_merge_laws.proofs.Judged.{six, passes-line, line-passes, passes-same, terms-same, command-fits-same}
use Rattle.gm_merge_laws.proofs.Sounds.{commands-pass, joinable-puts}
use Rattle.gm_merge_laws.proofs.Bodies.{front-passes, restarts-pass, registers-are, first-puts, second-passes}

replaced-long : (k : ℕ) (x y : Command) (ms : List Command) → length (replaced k x y ms) ≡ length ms
replaced-long k x y [] = refl
replaced-long zero x y (m ∷ []) = refl
replaced-long zero x y (m ∷ (n ∷ ms)) = refl
replaced-long (suc k) x y (m ∷ ms) = ap suc (replaced-long k x y ms)

pub within-get : (ms : List Command) (k : ℕ) (m : Command) → slice_get ms k ≡ Some m → k < length ms
within-get [] k m e = cc
within-get (n ∷ ms) zero m e = omega arith
within-get (n ∷ ms) (suc k) m e = let l = within-get ms k m e in omega arith

pub row-at : (t : Row → Bool) (j : ℕ) (ms : List Command) (k : ℕ) (m : Command) → list_all t (command_rows j ms) ≡ true → slice_get ms k ≡ Some m → t (CommandRow (j + k) m) ≡ true
row-at t j [] k m h e = cc
row-at t j (n ∷ ms) zero m h e =
    let same : n ≡ m = cc in
    let z : j ≡ j + 0 = omega arith in
    ap (λ x. t (CommandRow x m)) (sym z) ∙ ap (λ x. t (CommandRow j x)) (sym same) ∙ all_first t (CommandRow j n) (command_rows (suc j) ms) h
row-at t j (n ∷ ms) (suc k) m h e =
    let z : suc j + k ≡ j + suc k = omega arith in
    ap (λ x. t (CommandRow x m)) (sym z) ∙ row-at t (suc j) ms k m (all_rest t (CommandRow j n) (command_rows (suc j) ms) h) e

rows-replaced : (t : Row → Bool) (x y : Command) (j k : ℕ) (ms : List Command) → t (CommandRow (j + k) x) ≡ true → t (CommandRow (j + k + 1) y) ≡ true → list_all t (command_rows j ms) ≡ true → list_all t (command_rows j (replaced k x y ms)) ≡ true
rows-replaced t x y j k [] hx hy h = refl
rows-replaced t x y j zero (m ∷ []) hx hy h = h
rows-replaced t x y j zero (m ∷ (n ∷ ms)) hx hy h =
    let z : j + 0 ≡ j = omega arith in
    let w : j + 0 + 1 ≡ suc j = omega arith in
    ap (λ b. b && (t (CommandRow (suc j) y) && list_all t (command_rows (suc (suc j)) ms))) (ap (λ v. t (CommandRow v x)) (sym z) ∙ hx)
    ∙ ap (λ b. b && list_all t (command_rows (suc (suc j)) ms)) (ap (λ v. t (CommandRow v y)) (sym w) ∙ hy)
    ∙ all_rest t (CommandRow (suc j) n) (command_rows (suc (suc j)) ms) (all_rest t (CommandRow j m) (CommandRow (suc j) n ∷ command_rows (suc (suc j)) ms) h)
rows-replaced t x y j (suc k) (m ∷ ms) hx hy h =
    let z : j + suc k ≡ suc j + k = omega arith in
    let w : j + suc k + 1 ≡ suc j + k + 1 = omega arith in
    ap (λ b. b && list_all t (command_rows (suc j) (replaced k x y ms))) (all_first t (CommandRow j m) (command_rows (suc j) ms) h)
    ∙ rows-replaced t x y (suc j) k ms (ap (λ v. t (CommandRow v x)) (sym z) ∙ hx) (ap (λ v. t (CommandRow v y)) (sym w) ∙ hy) (all_rest t (CommandRow j m) (command_rows (suc j) ms) h)

-- a part of a list of lines is exchanged
cons-swap : (t : Row → Bool) (x : Row) (old new : List Row) → (list_all t old ≡ true → list_all t new ≡ true) → list_all t (x ∷ old) ≡ true → list_all t (x ∷ new) ≡ true
cons-swap t x old new f h = ap (λ b. b && list_all t new) (all_first t x old h) ∙ f (all_rest t x old h)

app-swap : (t : Row → Bool) (xs old new : List Row) → (list_all t old ≡ true → list_all t new ≡ true) → list_all t (xs ++ old) ≡ true → list_all t (xs ++ new) ≡ true
app-swap t xs old new f h = list_all-append t xs new ∙ ap (λ b. b && list_all t new) (all_front t xs old h) ∙ f (all_back t xs old h)

module _ (p : Program) (i a b : ℕ) (joinable : Joinable p i a b) where
  abbrev both : Block
  both = joined_block p.registers (block_at p a) (block_at p b)

  abbrev next : Program
  next = joined_image p i a b

  long : length next.master ≡ length p.master
  long = replaced-long i (Jump (i + 1)) (Step (length p.blocks)) p.master

  exits-same : (j to q : ℕ) (ms : List Command) (k h : ℕ) → slice_get ms k ≡ Some (Step a) → slice_get ms (k + 1) ≡ Some (Step b) →
      exits_behind j (slice_get ms h) ≡ exits_behind j (slice_get (replaced k (Jump to) (Step q) ms) h)
  exits-same j to q [] k h e f = refl
  exits-same j to q (m ∷ []) zero h e f = refl
  exits-same j to q (m ∷ (n ∷ ms)) zero zero e f = ap (exits_behind j) e
  exits-same j to q (m ∷ (n ∷ ms)) zero (suc zero) e f = ap (exits_behind j) f
  exits-same j to q (m ∷ (n ∷ ms)) zero (suc (suc h)) e f = refl
  exits-same j to q (m ∷ ms) (suc k) zero e f = refl
  exits-same j to q (m ∷ ms) (suc k) (suc h) e f =
      let s : suc (k + 1) ≡ suc k + 1 = omega arith in
      exits-same j to q ms k h e (ap (slice_get (m ∷ ms)) s ∙ f)

  -- what the rules ask of a line of the master list
  pub record Commands (r : Program) (j : ℕ) (c : Command) : Type 0 where
    pub range : command_in_range r c && list_all (term_in_range r None) (command_terms c) ≡ true
    pub fits : command_fits r c ≡ true
    pub forward : jumps_forward r j c ≡ true
    pub back : goes_back r j c ≡ true
    pub last : ends_last r (CommandRow j c) ≡ true
    pub leaves : list_all (all_leaves stands_in_master) (command_terms c) ≡ true

  commands-row : (r : Program) (j : ℕ) (c : Command) → Commands r j c → keeps_all r (CommandRow j c) ≡ true
  commands-row r j c h =
      six (command_in_range r c && list_all (term_in_range r None) (command_terms c)) (command_fits r c) (jumps_forward r j c) (goes_back r j c) (ends_last r (CommandRow j c)) (list_all (all_leaves stands_in_master) (command_terms c))
      h.range h.fits h.forward h.back h.last h.leaves

  row-commands : (r : Program) (j : ℕ) (c : Command) → keeps_all r (CommandRow j c) ≡ true → Commands r j c
  row-commands r j c h =
      let row : Row = CommandRow j c in
      let at0 : 0 < length image_rules = omega arith in
      let at1 : 1 < length image_rules = omega arith in
      let at2 : 2 < length image_rules = omega arith in
      let at3 : 3 < length image_rules = omega arith in
      let at4 : 4 < length image_rules = omega arith in
      let at6 : 6 < length image_rules = omega arith in
      record {
        range = all_at (keeps r row) image_rules 0 I1 at0 h;
        fits = all_at (keeps r row) image_rules 1 I2 at1 h;
        forward = all_at (keeps r row) image_rules 2 I3 at2 h;
        back = all_at (keeps r row) image_rules 3 I4 at3 h;
        last = all_at (keeps r row) image_rules 4 I5 at4 h;
        leaves = all_at (keeps r row) image_rules 6 I7 at6 h;
      }

  range-kept : (c : Command) → command_in_range p c ≡ true → command_in_range next c ≡ true
  range-kept (SetGlobal t x) h = h
  range-kept (Step q) h = let l = ltb-true q (length p.blocks) h in let m = length-append p.blocks (both ∷ []) in lt-ltb q (length (p.blocks ++ both ∷ [])) (omega arith)
  range-kept (Jump j) h = refl
  range-kept (Test j x) h = refl
  range-kept (Turn x t) h = refl
  range-kept (Back j) h = refl
  range-kept Finish h = refl

  forward-kept : (j : ℕ) (c : Command) → jumps_forward p j c ≡ true → jumps_forward next j c ≡ true
  forward-kept j (SetGlobal t x) h = refl
  forward-kept j (Step q) h = refl
  forward-kept j (Jump to) h = ap (λ n. nat_lt j to && nat_lt to n) long ∙ h
  forward-kept j (Test to x) h = ap (λ n. nat_lt j to && nat_lt to n) long ∙ h
  forward-kept j (Turn to x) h = ap (λ n. nat_lt j to && nat_lt to n) long ∙ h
  forward-kept j (Back head) h = refl
  forward-kept j Finish h = refl

  back-kept : (j : ℕ) (c : Command) → goes_back p j c ≡ true → goes_back next j c ≡ true
  back-kept j (SetGlobal t x) h = refl
  back-kept j (Step q) h = refl
  back-kept j (Jump to) h = refl
  back-kept j (Test to x) h = refl
  back-kept j (Turn to x) h = refl
  back-kept j (Back head) h = sym (ap (λ b. nat_lt head j && b) (exits-same j (i + 1) (length p.blocks) p.master i head joinable.first joinable.second)) ∙ h
  back-kept j Finish h = refl

  command-kept : (j : ℕ) (c : Command) → keeps_all p (CommandRow j c) ≡ true → keeps_all next (CommandRow j c) ≡ true
  command-kept j c k =
      let h = row-commands p j c k in
      let parts = and_parts (command_in_range p c) (list_all (term_in_range p None) (command_terms c)) h.range in
      commands-row next j c (record {
        range = ap (λ b. b && list_all (term_in_range next None) (command_terms c)) (range-kept c parts.0) ∙ sym (terms-same p next.blocks next.master None (command_terms c)) ∙ parts.1;
        fits = sym (command-fits-same p next.blocks next.master c) ∙ h.fits;
        forward = forward-kept j c h.forward;
        back = back-kept j c h.back;
        last = ap (λ n. cond (nat_eq (j + 1) n) (is_end c) (not (is_end c))) long ∙ h.last;
        leaves = h.leaves;
      })

  held-same : (h : Holder) → held_by p h ≡ held_by next h
  held-same Scalar = refl
  held-same Node = refl
  held-same Edge = refl

  result-range : (o : Option (VType × ℕ)) → result_in_range p o ≡ result_in_range next o
  result-range None = refl
  result-range (Some r) = refl

  result-fits : (o : Option (VType × ℕ)) → result_fits p o ≡ result_fits next o
  result-fits None = refl
  result-fits (Some r) = refl

  -- every line that keeps the rules in the image keeps them in the joined one
  row-kept : (row : Row) → keeps_all p row ≡ true → keeps_all next row ≡ true
  row-kept Plain h = h
  row-kept NameRow h = h
  row-kept (InputRow before x) h = sym (ap (λ ts. in_range ts x.slot && (type_holds (same_type x.vtype) (slice_get ts x.slot) && (input_keeps before x && true))) (held-same x.holder)) ∙ h
  row-kept (OutputRow before x) h = sym (ap (λ ts. in_range ts x.slot && (type_holds (same_type x.vtype) (slice_get ts x.slot) && (output_keeps before x && true))) (held-same x.holder)) ∙ h
  row-kept ResultRow h = sym (ap (λ b. b && (result_fits p p.result && true)) (result-range p.result) ∙ ap (λ b. result_in_range next p.result && (b && true)) (result-fits p.result)) ∙ h
  row-kept ColumnsRow h = h
  row-kept (KindRow k) h = h
  row-kept (HandlerRow before x) h = h
  row-kept (LineRow s l) h = passes-line next s l (passes-same p next.blocks next.master s l (line-passes p s l h))
  row-kept MasterRow h = ap (λ n. nat_lt 0 n && true) long ∙ h
  row-kept (CommandRow j c) h = command-kept j c h

  rows-kept : (rs : List Row) → list_all (keeps_all p) rs ≡ true → list_all (keeps_all next) rs ≡ true
  rows-kept [] h = refl
  rows-kept (r ∷ rs) h = ap (λ b. b && list_all (keeps_all next) rs) (row-kept r (all_first (keeps_all p) r rs h)) ∙ rows-kept rs (all_rest (keeps_all p) r rs h)

  -- the lines of a block of the image
  block-kept : (blocks : List Block) (q : ℕ) → list_all (keeps_all p) (flat_map block_rows blocks) ≡ true → list_all (keeps_all p) (block_rows (slice_index_or blocks q no_block)) ≡ true
  block-kept [] q h = refl
  block-kept (x ∷ blocks) zero h = all_front (keeps_all p) (block_rows x) (flat_map block_rows blocks) h
  block-kept (x ∷ blocks) (suc q) h = block-kept blocks q (all_back (keeps_all p) (block_rows x) (flat_map block_rows blocks) h)

  body-kept : (x : Block) → list_all (keeps_all p) (block_rows x) ≡ true → list_all (keeps_all next) (body_rows (handled_lines x) outside x.body) ≡ true
  body-kept x h =
      let of_handlers : List Row = handlers_rows (handled_lines x) [] [] x.handlers in
      let of_body : List Row = body_rows (handled_lines x) outside x.body in
      rows-kept of_body (all_rest (keeps_all p) Plain of_body (all_back (keeps_all p) of_handlers (Plain ∷ of_body) (all_rest (keeps_all p) Plain (of_handlers ++ Plain ∷ of_body) h)))

  abbrev ats : List (ℕ × VType)
  ats = filter (λ at. is_left (block_at p a).body (block_at p b).body at.0) (enumerate_from 0 p.registers)

  -- the lines of the joined block
  both-kept : IsTrue (is_sound p) → list_all (keeps_all next) (block_rows both) ≡ true
  both-kept sound =
      let first : Block = block_at p a in
      let second : Block = block_at p b in
      let t : Row → Bool = keeps_all next in
      let of_first : list_all (keeps_all p) (block_rows first) ≡ true = block-kept p.blocks a (blocks_pass p sound) in
      let of_second : list_all (keeps_all p) (block_rows second) ≡ true = block-kept p.blocks b (blocks_pass p sound) in
      let of_handlers : List Row = handlers_rows (handled_lines first) [] [] first.handlers in
      let old : List Row = body_rows (handled_lines first) outside first.body in
      let new : List Row = body_rows (handled_lines first) outside both.body in
      let none : 0 ≤ length first.body = omega arith in
      let all : list_all (keeps_all next) (body_rows (handled_lines first) outside (first.body ++ (map restart ats ++ second.body))) ≡ true =
      front-passes next (map restart ats ++ second.body) (handled_lines first) outside first.body none (λ e. refl) (body-kept first of_first)
      (restarts-pass next second.body (handled_lines first ++ first.body) ats (registers-are next (is_left first.body second.body)) (behind sound)) in
      cons-swap t Plain (of_handlers ++ Plain ∷ old) (of_handlers ++ Plain ∷ new)
      (app-swap t of_handlers (Plain ∷ old) (Plain ∷ new) (cons-swap t Plain old new (λ h. all)))
      (rows-kept (block_rows first) of_first)
    where
      behind : IsTrue (is_sound p) → list_all (keeps_all next) (body_rows ((handled_lines (block_at p a) ++ (block_at p a).body) ++ map restart ats) outside (block_at p b).body) ≡ true
      behind sound =
          let first : Block = block_at p a in
          let second : Block = block_at p b in
          let gs : List ℕ = put_globals (block_lines first) in
          let away : list_all (puts_none gs) (block_lines second) ≡ true = joinable-puts p a b joinable.blocks in
          ap (λ ls. list_all (keeps_all next) (body_rows ls outside second.body)) (sym (append-nil (block_lines first ++ map restart ats)))
          ∙ second-passes next gs (put_reduction (handled_lines second ++ second.body)) (block_lines first ++ map restart ats) (handled_lines second) (first-puts (block_lines first) ats) [] outside second.body tt
          (sound-puts p sound b).1 (all_back (puts_none gs) (handled_lines second) second.body away)
          (ap (λ ls. list_all (keeps_all next) (body_rows ls outside second.body)) (append-nil (handled_lines second)) ∙ body-kept second (block-kept p.blocks b (blocks_pass p sound)))

  -- the two steps' lines in the joined list
  commands-kept : IsTrue (is_sound p) → list_all (keeps_all next) (command_rows 0 next.master) ≡ true
  commands-kept sound =
      let old : list_all (keeps_all p) (command_rows 0 p.master) ≡ true = commands-pass p sound in
      let inside = within-get p.master (i + 1) (Step b) joinable.second in
      let many = length-append p.blocks (both ∷ []) in
      let second : keeps_all p (CommandRow (0 + (i + 1)) (Step b)) ≡ true = row-at (keeps_all p) 0 p.master (i + 1) (Step b) old joinable.second in
      let is_last : ends_last p (CommandRow (0 + (i + 1)) (Step b)) ≡ true = (row-commands p (0 + (i + 1)) (Step b) second).last in
      let not_last : nat_eq ((0 + (i + 1)) + 1) (length p.master) ≡ false = unlast (nat_eq ((0 + (i + 1)) + 1) (length p.master)) is_last in
      rows-replaced (keeps_all next) (Jump (i + 1)) (Step (length p.blocks)) 0 i p.master
      (commands-row next (0 + i) (Jump (i + 1)) (record {
        range = refl;
        fits = refl;
        forward = ap (λ x. x && nat_lt (i + 1) (length next.master)) (lt-ltb (0 + i) (i + 1) (omega arith)) ∙ ap (nat_lt (i + 1)) long ∙ lt-ltb (i + 1) (length p.master) inside;
        back = refl;
        last = ap (λ n. cond (nat_eq ((0 + i) + 1) n) false true) long ∙ ap (λ x. cond x false true) (ne_eqb ((0 + i) + 1) (length p.master) (λ e. omega arith));
        leaves = refl;
      }))
      (commands-row next (0 + i + 1) (Step (length p.blocks)) (record {
        range = ap (λ x. x && true) (lt-ltb (length p.blocks) (length (p.blocks ++ both ∷ [])) (omega arith));
        fits = refl;
        forward = refl;
        back = refl;
        last =
            ap (λ n. cond (nat_eq ((0 + i + 1) + 1) n) false true) long
            ∙ ap (λ n. cond (nat_eq n (length p.master)) false true) (let z : (0 + i + 1) + 1 ≡ (0 + (i + 1)) + 1 = omega arith in z)
            ∙ ap (λ x. cond x false true) not_last;
        leaves = refl;
      }))
      (rows-kept (command_rows 0 p.master) old)
    where
      unlast : (x : Bool) → cond x false true ≡ true → x ≡ false
      unlast true e = cc
      unlast false e = refl

  -- the whole text
  pub next-sound : IsTrue (is_sound p) → nat_lt (line_count next) line_limit ≡ true → IsTrue (is_sound next)
  next-sound sound few =
      let t : Row → Bool = keeps_all next in
      let at_master : List Row = MasterRow ∷ command_rows 0 p.master in
      let to_master : List Row = MasterRow ∷ command_rows 0 next.master in
      let at_blocks : List Row = flat_map block_rows p.blocks ++ at_master in
      let to_blocks : List Row = flat_map block_rows next.blocks ++ to_master in
      let at_places : List Row = plain_rows p.places ++ Plain ∷ at_blocks in
      let to_places : List Row = plain_rows p.places ++ Plain ∷ to_blocks in
      let at_kinds : List Row = map KindRow p.kinds ++ Plain ∷ at_places in
      let to_kinds : List Row = map KindRow p.kinds ++ Plain ∷ to_places in
      let at_columns : List Row = plain_rows p.columns ++ Plain ∷ at_kinds in
      let to_columns : List Row = plain_rows p.columns ++ Plain ∷ to_kinds in
      let at_registers : List Row = plain_rows p.registers ++ ColumnsRow ∷ at_columns in
      let to_registers : List Row = plain_rows p.registers ++ ColumnsRow ∷ to_columns in
      let at_fields : List Row = plain_rows p.fields ++ Plain ∷ at_registers in
      let to_fields : List Row = plain_rows p.fields ++ Plain ∷ to_registers in
      let at_globals : List Row = plain_rows p.globals ++ Plain ∷ at_fields in
      let to_globals : List Row = plain_rows p.globals ++ Plain ∷ to_fields in
      let at_result : List Row = ResultRow ∷ Plain ∷ at_globals in
      let to_result : List Row = ResultRow ∷ Plain ∷ to_globals in
      let at_outputs : List Row = rows_after OutputRow [] p.outputs ++ at_result in
      let to_outputs : List Row = rows_after OutputRow [] p.outputs ++ to_result in
      let at_inputs : List Row = rows_after InputRow [] p.inputs ++ Plain ∷ at_outputs in
      let to_inputs : List Row = rows_after InputRow [] p.inputs ++ Plain ∷ to_outputs in
      let blocks : list_all t at_blocks ≡ true → list_all t to_blocks ≡ true = λ h.
      list_all-append t (flat_map block_rows next.blocks) to_master
      ∙ ap (λ x. x && list_all t to_master)
      (ap (list_all t) (flat_map-append block_rows p.blocks (both ∷ []))
      ∙ list_all-append t (flat_map block_rows p.blocks) (block_rows both ++ [])
      ∙ ap (λ x. x && list_all t (block_rows both ++ [])) (all_front t (flat_map block_rows p.blocks) at_master h)
      ∙ ap (list_all t) (append-nil (block_rows both)) ∙ both-kept sound)
      ∙ ap (λ x. x && list_all t (command_rows 0 next.master)) (all_first t MasterRow (command_rows 0 p.master) (all_back t (flat_map block_rows p.blocks) at_master h))
      ∙ commands-kept sound in
      let places = app-swap t (plain_rows p.places) (Plain ∷ at_blocks) (Plain ∷ to_blocks) (cons-swap t Plain at_blocks to_blocks blocks) in
      let kinds = app-swap t (map KindRow p.kinds) (Plain ∷ at_places) (Plain ∷ to_places) (cons-swap t Plain at_places to_places places) in
      let columns = app-swap t (plain_rows p.columns) (Plain ∷ at_kinds) (Plain ∷ to_kinds) (cons-swap t Plain at_kinds to_kinds kinds) in
      let registers = app-swap t (plain_rows p.registers) (ColumnsRow ∷ at_columns) (ColumnsRow ∷ to_columns) (cons-swap t ColumnsRow at_columns to_columns columns) in
      let fields = app-swap t (plain_rows p.fields) (Plain ∷ at_registers) (Plain ∷ to_registers) (cons-swap t Plain at_registers to_registers registers) in
      let globals = app-swap t (plain_rows p.globals) (Plain ∷ at_fields) (Plain ∷ to_fields) (cons-swap t Plain at_fields to_fields fields) in
      let result = cons-swap t ResultRow (Plain ∷ at_globals) (Plain ∷ to_globals) (cons-swap t Plain at_globals to_globals globals) in
      let outputs = app-swap t (rows_after OutputRow [] p.outputs) at_result to_result result in
      let inputs = app-swap t (rows_after InputRow [] p.inputs) (Plain ∷ at_outputs) (Plain ∷ to_outputs) (cons-swap t Plain at_outputs to_outputs outputs) in
      let all : list_all t (rows next) ≡ true =
      cons-swap t Plain (NameRow ∷ Plain ∷ at_inputs) (NameRow ∷ Plain ∷ to_inputs) (cons-swap t NameRow (Plain ∷ at_inputs) (Plain ∷ to_inputs) (cons-swap t Plain at_inputs to_inputs inputs))
      (rows-kept (rows p) (and_parts (list_all (keeps_all p) (rows p)) (nat_lt (length (rows p)) line_limit) sound).0) in
      ap (λ x. x && nat_lt (line_count next) line_limit) all ∙ few
