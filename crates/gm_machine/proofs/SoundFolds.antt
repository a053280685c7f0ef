-- In the handlers of a sound image each field is folded by one reduction.
use Rattle.std.proofs.Common.{◌≡◌, ◌<◌, ℕ, zero, suc, nat_eq, Bool, true, false, cond, ◌&&◌, ◌||◌, Option, Some, None, List, [], ◌∷◌, ◌++◌, find, length, refl, sym, ap, subst, ◌∙◌, arith, append_assoc}
use Rattle.std.specs.Prelude.{IsTrue, slice_index_or, ◌==◌}
use Rattle.std.specs.Option.{option_or}
use Rattle.std.specs.List.{list_all, list_any, flat_map}
use Rattle.std.proofs.lemmas.Bool.{and_parts, eq-eqb, eqb-true}
use Rattle.std.proofs.lemmas.List.Folds.{find-append}
use Rattle.std.proofs.lemmas.List.Concat.{flat_map-append}
use Rattle.gm_value.specs.declared.reductions.Reduce.{Reduce}
use Rattle.gm_value.specs.declared.reductions.Reduce.TheVariants as reduce
use Rattle.gm_image.specs.declared.rules.ImageRule.TheVariants.{I8}
use Rattle.gm_image.specs.Program.{Program, Block, Handler, Line, Target, SetField, Fold, SetRegister, Put, Send, Skip, Each}
use Rattle.gm_image.specs.Parts.{slots_of, is_among}
use Rattle.gm_image.specs.Rows.{Row, Plain, HandlerRow, LineRow, block_rows, handlers_rows, handler_rows, handled_lines, body_rows, outside, in_handlers}
use Rattle.gm_image.specs.Folds.{Reduction, folds_of, same_reduce, same_numbers, same_reduction, has_slot, same_as_first, is_the_one, sets_no_field, folds_one_way, reads_none, sets_none, folded_fields}
use Rattle.gm_image.specs.Soundness.{keeps, keeps_all, image_rules, is_sound}
use Rattle.gm_machine.specs.Machine.{block_at, no_block}
use Rattle.gm_machine.specs.Laws.{AreReducedBy, LineFoldsBy, LinesFoldBy, HandlersFoldBy}
use Rattle.gm_machine.proofs.SoundHandlers.{all_front, all_back, all_first, all_rest, all_at, blocks_pass}

-- the first of some reductions that has a slot
abbrev pub reduction_or : Option Reduction → Reduction
reduction_or None = record { reduce = reduce.Sum; slots = [] }
reduction_or (Some r) = r

abbrev pub reduction_in : List Line → ℕ → Reduction
reduction_in all slot = reduction_or (find (has_slot slot) (flat_map folds_of all))

pub same_reduce-is : (a b : Reduce) → same_reduce a b ≡ true → a ≡ b
same_reduce-is reduce.Sum reduce.Sum e = refl
same_reduce-is reduce.Product reduce.Product e = refl
same_reduce-is reduce.Min reduce.Min e = refl
same_reduce-is reduce.Max reduce.Max e = refl
same_reduce-is reduce.And reduce.And e = refl
same_reduce-is reduce.Or reduce.Or e = refl
same_reduce-is a b e = cc

pub same_numbers-is : (xs ys : List ℕ) → same_numbers xs ys ≡ true → xs ≡ ys
same_numbers-is [] [] e = refl
same_numbers-is [] (y ∷ ys) e = cc
same_numbers-is (x ∷ xs) [] e = cc
same_numbers-is (x ∷ xs) (y ∷ ys) e =
    let parts = and_parts (nat_eq x y) (same_numbers xs ys) e in
    ap (λ n. n ∷ xs) (eqb-true x y parts.0) ∙ ap (λ l. y ∷ l) (same_numbers-is xs ys parts.1)

same_reduction-is : (a b : Reduction) → same_reduction a b ≡ true → a ≡ b
same_reduction-is a b e =
    let parts = and_parts (same_reduce a.reduce b.reduce) (same_numbers a.slots b.slots) e in
    let made : Reduce → List ℕ → Reduction = λ r slots. record { reduce = r; slots = slots } in
    ap (λ r. made r a.slots) (same_reduce-is a.reduce b.reduce parts.0) ∙ ap (made b.reduce) (same_numbers-is a.slots b.slots parts.1)

-- a line's reduction of a slot is the first one, whatever stands before and behind the line
pub first-one : (r : Reduction) (slot : ℕ) (before later : List Reduction) → has_slot slot r ≡ true → same_as_first r (find (has_slot slot) before) ≡ true →
    r ≡ reduction_or (find (has_slot slot) (before ++ r ∷ later))
first-one r slot before later has first =
    by (find (has_slot slot) before) first ∙ ap reduction_or (sym (find-append (has_slot slot) before (r ∷ later)))
  where
    here : find (has_slot slot) (r ∷ later) ≡ Some r
    here = ap (λ b. cond b (Some r) (find (has_slot slot) later)) has

    by : (o : Option Reduction) → same_as_first r o ≡ true → r ≡ reduction_or (option_or o (find (has_slot slot) (r ∷ later)))
    by None e = sym (ap reduction_or here)
    by (Some f) e = sym (same_reduction-is f r e)

-- a slot is among its own
pub among-here : (slot : ℕ) (slots : List ℕ) → is_among slot (slot ∷ slots) ≡ true
among-here slot slots = ap (λ b. b || list_any (λ m. m == slot) slots) (eq-eqb slot slot refl)

pub among-later : (slot other : ℕ) (slots : List ℕ) → is_among slot slots ≡ true → is_among slot (other ∷ slots) ≡ true
among-later slot other slots h = later (other == slot) where
  later : (b : Bool) → b || list_any (λ m. m == slot) slots ≡ true
  later true = refl
  later false = h

-- all slots of a line's reduction
pub slots-by : (r : Reduction) (before later : List Reduction) (slots : List ℕ) → ((slot : ℕ) → is_among slot slots ≡ true → has_slot slot r ≡ true) →
    list_all (λ i. same_as_first r (find (has_slot i) before)) slots ≡ true →
    AreReducedBy (λ slot. reduction_or (find (has_slot slot) (before ++ r ∷ later))) r slots
slots-by r before later [] has firsts = tt
slots-by r before later (s ∷ slots) has firsts =
    let test : ℕ → Bool = λ i. same_as_first r (find (has_slot i) before) in (
      first-one r s before later (has s (among-here s slots)) (all_first test s slots firsts),
      slots-by r before later slots (λ slot h. has slot (among-later slot s slots h)) (all_rest test s slots firsts),
    )

second_of_four : (a b c d : Bool) → a && b && c && d ≡ true → b ≡ true
second_of_four a b c d h = (and_parts a b (and_parts (a && b) c (and_parts (a && b && c) d h).0).0).1

-- one line folds by the reductions of all lines
line-by : (earlier rest : List Line) (l : Line) → folds_one_way earlier l ≡ true → LineFoldsBy (reduction_in (earlier ++ l ∷ rest)) l
line-by earlier rest (SetField f a) one = tt
line-by earlier rest (Fold r place ts) one =
    let own : Reduction = record { reduce = r; slots = slots_of ts } in
    let before : List Reduction = flat_map folds_of earlier in
    let later : List Reduction = flat_map folds_of rest in
    let parts : flat_map folds_of (earlier ++ Fold r place ts ∷ rest) ≡ before ++ own ∷ later = flat_map-append folds_of earlier (Fold r place ts ∷ rest) in
    let held : AreReducedBy (λ slot. reduction_or (find (has_slot slot) (before ++ own ∷ later))) own (slots_of ts) =
    slots-by own before later (slots_of ts) (λ slot h. h) (all_first (is_the_one before) own [] one) in
    subst (λ rs. AreReducedBy (λ slot. reduction_or (find (has_slot slot) rs)) own (slots_of ts)) (sym parts) held
line-by earlier rest (SetRegister r a) one = tt
line-by earlier rest (Put r place ts) one = tt
line-by earlier rest (Send kind to ts) one = tt
line-by earlier rest (Skip n a) one = tt
line-by earlier rest (Each d n) one = tt

module _ (p : Program) where
  -- the lines of one handler: all lines are those before, these and those behind
  lines-by : (all earlier : List Line) (kind : ℕ) (ls behind : List Line) → all ≡ earlier ++ (ls ++ behind) → list_all (keeps_all p) (handler_rows all kind earlier ls) ≡ true → LinesFoldBy (reduction_in all) ls
  lines-by all earlier kind [] behind is h = tt
  lines-by all earlier kind (l ∷ ls) behind is h =
      let row : Row = LineRow (record { kind = Some kind; around = in_handlers all earlier; earlier = earlier; later = ls }) l in
      let more : List Row = handler_rows all kind (earlier ++ l ∷ []) ls in
      let eight : 7 < length image_rules = omega arith in
      let kept : keeps p row I8 ≡ true = all_at (keeps p row) image_rules 7 I8 eight (all_first (keeps_all p) row more h) in
      let one : folds_one_way earlier l ≡ true = second_of_four (sets_no_field l) (folds_one_way earlier l) (reads_none (folded_fields all) l) (sets_none (folded_fields all) l) kept in
      let moved : all ≡ (earlier ++ l ∷ []) ++ (ls ++ behind) = is ∙ sym (append_assoc earlier (l ∷ []) (ls ++ behind)) in (
        subst (λ xs. LineFoldsBy (reduction_in xs) l) (sym is) (line-by earlier (ls ++ behind) l one),
        lines-by all (earlier ++ l ∷ []) kind ls behind moved (all_rest (keeps_all p) row more h),
      )

  handlers-by : (all earlier : List Line) (before hs : List Handler) → all ≡ earlier ++ flat_map (λ h. h.lines) hs → list_all (keeps_all p) (handlers_rows all earlier before hs) ≡ true → HandlersFoldBy (reduction_in all) hs
  handlers-by all earlier before [] is h = tt
  handlers-by all earlier before (g ∷ hs) is h =
      let own : List Row = handler_rows all g.kind earlier g.lines in
      let more : List Row = handlers_rows all (earlier ++ g.lines) (before ++ g ∷ []) hs in
      let both : list_all (keeps_all p) (own ++ more) ≡ true = all_rest (keeps_all p) (HandlerRow before g) (own ++ more) h in
      let moved : all ≡ (earlier ++ g.lines) ++ flat_map (λ x. x.lines) hs = is ∙ sym (append_assoc earlier g.lines (flat_map (λ x. x.lines) hs)) in (
        lines-by all earlier g.kind g.lines (flat_map (λ x. x.lines) hs) is (all_front (keeps_all p) own more both),
        handlers-by all (earlier ++ g.lines) (before ++ g ∷ []) hs moved (all_back (keeps_all p) own more both),
      )

  block-by : (b : Block) → list_all (keeps_all p) (block_rows b) ≡ true → HandlersFoldBy (reduction_in (handled_lines b)) b.handlers
  block-by b h =
      let of_handlers : List Row = handlers_rows (handled_lines b) [] [] b.handlers in
      let of_body : List Row = Plain ∷ body_rows (handled_lines b) outside b.body in
      handlers-by (handled_lines b) [] [] b.handlers refl (all_front (keeps_all p) of_handlers of_body (all_rest (keeps_all p) Plain (of_handlers ++ of_body) h))

  blocks-by : (blocks : List Block) → list_all (keeps_all p) (flat_map block_rows blocks) ≡ true → (q : ℕ) →
      HandlersFoldBy (reduction_in (handled_lines (slice_index_or blocks q no_block))) (slice_index_or blocks q no_block).handlers
  blocks-by [] h q = tt
  blocks-by (b ∷ blocks) h zero = block-by b (all_front (keeps_all p) (block_rows b) (flat_map block_rows blocks) h)
  blocks-by (b ∷ blocks) h (suc q) = blocks-by blocks (all_back (keeps_all p) (block_rows b) (flat_map block_rows blocks) h) q

  -- the handlers of a sound image fold each field by one reduction
  pub sound-folds : IsTrue (is_sound p) → (q : ℕ) → HandlersFoldBy (reduction_in (handled_lines (block_at p q))) (block_at p q).handlers
  sound-folds sound q = blocks-by p.blocks (blocks_pass p sound) q
