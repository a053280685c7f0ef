-- The lines of a joined body keep the rules.
use Rattle.std.proofs.Common.{◌≡◌, ◌<◌, ◌≤◌, ℕ, zero, suc, ◌+◌, Bool, true, false, cond, ◌&&◌, ◌||◌, not, nat_eq, nat_lt, Option, Some, None, List, [], ◌∷◌, ◌++◌, map, filter, find, length, refl, sym, ap, ◌∙◌, arith, append_assoc, length-append}
use Rattle.std.specs.Prelude.{◌==◌, slice_get, nat_le, is_none}
use Rattle.std.specs.Option.{option_or}
use Rattle.std.specs.List.{AllByRecursion, list_all, flat_map, enumerate_from}
use Rattle.std.proofs.lemmas.Bool.{and_parts, eq-eqb, eqb-true, leb-true, le-leb, lt-ltb}
use Rattle.std.proofs.lemmas.List.{take-append-le, append-nil}
use Rattle.std.proofs.lemmas.List.Folds.{find-append}
use Rattle.std.proofs.lemmas.List.Concat.{flat_map-append}
use Rattle.gm_value.specs.declared.values.VType.{VType}
use Rattle.gm_value.specs.declared.values.VType.TheVariants as types
use Rattle.gm_value.specs.declared.reductions.Reduce.{Reduce}
use Rattle.gm_value.specs.declared.reductions.Reduce.TheVariants as reduce
use Rattle.gm_value.specs.Numbers.{zero_of}
use Rattle.gm_image.specs.Term.{Const}
use Rattle.gm_image.specs.Program.{Program, Line, SetField, Fold, SetRegister, Put, Send, Skip, Each}
use Rattle.gm_image.specs.Parts.{is_among, slots_of}
use Rattle.gm_image.specs.Sorts.{constant_sort, expects}
use Rattle.gm_image.specs.Indices.{in_range}
use Rattle.gm_image.specs.Fits.{has_slot_type}
use Rattle.gm_image.specs.Rows.{Row, LineRow, Around, Site, body_rows, outside, around_next, around_by, left_after}
use Rattle.gm_image.specs.Spans.{line_stays, skips_whole, left_past}
use Rattle.gm_image.specs.Folds.{Reduction, puts_of, has_slot, same_reduce, same_numbers, same_reduction, same_as_first, puts_one_way}
use Rattle.gm_image.specs.Soundness.{keeps_all}
use Rattle.gm_machine.specs.Laws.{AreReducedBy}
use Rattle.gm_machine.proofs.SoundHandlers.{all_first, all_rest}
use Rattle.gm_machine.proofs.SoundPuts.{LinePutsBy, LinesPutBy}
use Rattle.gm_merge_laws.specs.Joins.{put_globals, puts_none, restart}
use Rattle.gm_merge_laws.proofs.Concats.{span}
use Rattle.gm_merge_laws.proofs.Judged.{Passes, passes-line, line-passes}
use Rattle.gm_merge_laws.proofs.Sounds.{around-short, left-short, span-short, all-among, among-front, among-back}

-- more lines behind a list
past-more : (left n : ℕ) (ls ys : List Line) → n ≤ length ls → left_past left n (ls ++ ys) ≡ left_past left n ls
past-more left zero ls ys h = refl
past-more left (suc n) [] ys h = absurd (omega arith)
past-more left (suc n) (l ∷ ls) ys h = let h' : n ≤ length ls = omega arith in past-more (left_after left l) n ls ys h'

stays-longer : (s : Site) (l : Line) (ys : List Line) → line_stays s l ≡ true → line_stays (record s { later = s.later ++ ys }) l ≡ true
stays-longer s (Skip n t) ys h = by (nat_eq s.around.left 0) h where
  by : (b : Bool) → cond b (skips_whole n s.later) (nat_lt n s.around.left) ≡ true → cond b (skips_whole n (s.later ++ ys)) (nat_lt n s.around.left) ≡ true
  by true e =
      let parts = and_parts (nat_le n (length s.later)) (nat_eq (left_past 0 n s.later) 0) e in
      let short = leb-true n (length s.later) parts.0 in
      let long = length-append s.later ys in
      ap (λ b. b && nat_eq (left_past 0 n (s.later ++ ys)) 0) (le-leb n (length (s.later ++ ys)) (omega arith))
      ∙ ap (λ k. nat_eq k 0) (past-more 0 n s.later ys short) ∙ parts.1
  by false e = e
stays-longer s (Each d n) ys h =
    let parts = and_parts (nat_eq s.around.left 0 && is_none s.kind) (nat_le n (length s.later)) h in
    let short = leb-true n (length s.later) parts.1 in
    let long = length-append s.later ys in
    ap (λ b. b && nat_le n (length (s.later ++ ys))) parts.0 ∙ le-leb n (length (s.later ++ ys)) (omega arith)
stays-longer s (SetField f t) ys h = refl
stays-longer s (Fold r place ts) ys h = refl
stays-longer s (SetRegister r t) ys h = refl
stays-longer s (Put r place ts) ys h = refl
stays-longer s (Send kind to ts) ys h = refl

-- what is around the next line does not depend on lines behind the list
around-alone : (n old : ℕ) (a : Around) (l : Line) (ls ys : List Line) → n ≤ length ls → around_by n old a l (ls ++ ys) ≡ around_by n old a l ls
around-alone zero old a l ls ys h = refl
around-alone (suc n) zero a (Each d k) ls ys h = ap (λ (t : List Line). record { each = Some d; left = suc n; lines = t; before = [] }) (take-append-le (suc n) ls ys h)
around-alone (suc n) zero a (SetField f t) ls ys h = refl
around-alone (suc n) zero a (Fold r place ts) ls ys h = refl
around-alone (suc n) zero a (SetRegister r t) ls ys h = refl
around-alone (suc n) zero a (Put r place ts) ls ys h = refl
around-alone (suc n) zero a (Send k to ts) ls ys h = refl
around-alone (suc n) zero a (Skip k t) ls ys h = refl
around-alone (suc n) (suc old) a l ls ys h = refl

-- where no lines of an each are left, the next line is outside
zero-outside : (n old : ℕ) (a : Around) (l : Line) (ls : List Line) → (around_by n old a l ls).left ≡ 0 → around_by n old a l ls ≡ outside
zero-outside zero old a l ls e = refl
zero-outside (suc n) zero a (Each d k) ls e = absurd (omega arith)
zero-outside (suc n) zero a (SetField f t) ls e = refl
zero-outside (suc n) zero a (Fold r place ts) ls e = refl
zero-outside (suc n) zero a (SetRegister r t) ls e = refl
zero-outside (suc n) zero a (Put r place ts) ls e = refl
zero-outside (suc n) zero a (Send k to ts) ls e = refl
zero-outside (suc n) zero a (Skip k t) ls e = refl
zero-outside (suc n) (suc old) a l ls e = absurd (omega arith)

-- a body before another one
pub front-passes : (p : Program) (ys earlier : List Line) (a : Around) (xs : List Line) → a.left ≤ length xs → (a.left ≡ 0 → a ≡ outside) →
    list_all (keeps_all p) (body_rows earlier a xs) ≡ true → list_all (keeps_all p) (body_rows (earlier ++ xs) outside ys) ≡ true → list_all (keeps_all p) (body_rows earlier a (xs ++ ys)) ≡ true
front-passes p ys earlier a [] h out k rest =
    let e : a ≡ outside = out (omega arith) in
    ap (λ x. list_all (keeps_all p) (body_rows earlier x ys)) e ∙ ap (λ l. list_all (keeps_all p) (body_rows l outside ys)) (sym (append-nil earlier)) ∙ rest
front-passes p ys earlier a (l ∷ xs) h out k rest =
    let site : Site = record { kind = None; around = a; earlier = earlier; later = xs } in
    let longer : Site = record { kind = None; around = a; earlier = earlier; later = xs ++ ys } in
    let more : List Row = body_rows (earlier ++ l ∷ []) (around_next a l xs) xs in
    let own : Passes p site l = line-passes p site l (all_first (keeps_all p) (LineRow site l) more k) in
    let short : span l ≤ length xs = span-short site l h own.stays in
    let left : left_after a.left l ≤ length xs = left-short a.left l (length xs) h short in
    let next : (around_next a l xs).left ≤ length xs = (let x = around-short (left_after a.left l) a.left a l xs in omega arith) in
    let here : keeps_all p (LineRow longer l) ≡ true = passes-line p longer l (record { range = own.range; fits = own.fits; stays = stays-longer site l ys own.stays; leaves = own.leaves; folds = own.folds; puts = own.puts }) in
    ap (λ b. b && list_all (keeps_all p) (body_rows (earlier ++ l ∷ []) (around_next a l (xs ++ ys)) (xs ++ ys))) here
    ∙ ap (λ x. list_all (keeps_all p) (body_rows (earlier ++ l ∷ []) x (xs ++ ys))) (around-alone (left_after a.left l) a.left a l xs ys left)
    ∙ front-passes p ys (earlier ++ l ∷ []) (around_next a l xs) xs next (zero-outside (left_after a.left l) a.left a l xs) (all_rest (keeps_all p) (LineRow site l) more k)
    (ap (λ ls. list_all (keeps_all p) (body_rows ls outside ys)) (append_assoc earlier (l ∷ []) xs) ∙ rest)

-- registers of an image with their types
abbrev pub IsRegister : Program → (ℕ × VType) → Type 0
IsRegister p at = (slice_get p.registers at.0 ≡ Some at.1) × (at.0 < length p.registers)

zero-fits : (t : VType) → expects t (constant_sort (zero_of t)) ≡ true
zero-fits types.I32 = refl
zero-fits types.I64 = refl
zero-fits types.Flag = refl
zero-fits types.Node = refl

-- the lines that set registers to their zeros
pub restarts-pass : (p : Program) (ys earlier : List Line) (ats : List (ℕ × VType)) → AllByRecursion (IsRegister p) ats →
    list_all (keeps_all p) (body_rows (earlier ++ map restart ats) outside ys) ≡ true → list_all (keeps_all p) (body_rows earlier outside (map restart ats ++ ys)) ≡ true
restarts-pass p ys earlier [] are rest = ap (λ l. list_all (keeps_all p) (body_rows l outside ys)) (sym (append-nil earlier)) ∙ rest
restarts-pass p ys earlier (at ∷ ats) are rest =
    let site : Site = record { kind = None; around = outside; earlier = earlier; later = map restart ats ++ ys } in
    let within : in_range p.registers at.0 ≡ true = lt-ltb at.0 (length p.registers) are.0.1 in
    let here : keeps_all p (LineRow site (restart at)) ≡ true =
    passes-line p site (restart at) (record {
      range = ap (λ b. b && true) within;
      fits = ap (λ o. has_slot_type p None o (Const (zero_of at.1))) are.0.0 ∙ zero-fits at.1;
      stays = refl;
      leaves = refl;
      folds = refl;
      puts = refl;
    }) in
    ap (λ b. b && list_all (keeps_all p) (body_rows (earlier ++ restart at ∷ []) outside (map restart ats ++ ys))) here
    ∙ restarts-pass p ys (earlier ++ restart at ∷ []) ats are.1 (ap (λ ls. list_all (keeps_all p) (body_rows ls outside ys)) (append_assoc earlier (restart at ∷ []) (map restart ats)) ∙ rest)

-- the registers of an image are
registers-from : (p : Program) (left : ℕ → Bool) (i : ℕ) (ts : List VType) → ((k : ℕ) → slice_get p.registers (i + k) ≡ slice_get ts k) → i + length ts ≤ length p.registers →
    AllByRecursion (IsRegister p) (filter (λ at. left at.0) (enumerate_from i ts))
registers-from p left i [] at h = tt
registers-from p left i (t ∷ ts) at h =
    let e : i ≡ i + 0 = omega arith in
    let below : i < length p.registers = omega arith in
    one (left i) (ap (slice_get p.registers) e ∙ at 0, below)
    (registers-from p left (i + 1) ts (λ k. ap (slice_get p.registers) (let f : (i + 1) + k ≡ i + suc k = omega arith in f) ∙ at (suc k)) (let l : (i + 1) + length ts ≤ length p.registers = omega arith in l))
  where
    one : (b : Bool) → IsRegister p (i, t) → AllByRecursion (IsRegister p) (filter (λ at. left at.0) (enumerate_from (i + 1) ts)) →
        AllByRecursion (IsRegister p) (cond b ((i, t) ∷ filter (λ at. left at.0) (enumerate_from (i + 1) ts)) (filter (λ at. left at.0) (enumerate_from (i + 1) ts)))
    one true x rest = (x, rest)
    one false x rest = rest

pub registers-are : (p : Program) (left : ℕ → Bool) → AllByRecursion (IsRegister p) (filter (λ at. left at.0) (enumerate_from 0 p.registers))
registers-are p left = registers-from p left 0 p.registers (λ k. ap (slice_get p.registers) (let f : 0 + k ≡ k = omega arith in f)) (omega arith)

-- one reduction is the same as itself
same-reduce : (r : Reduce) → same_reduce r r ≡ true
same-reduce reduce.Sum = refl
same-reduce reduce.Product = refl
same-reduce reduce.Min = refl
same-reduce reduce.Max = refl
same-reduce reduce.And = refl
same-reduce reduce.Or = refl

same-numbers : (xs : List ℕ) → same_numbers xs xs ≡ true
same-numbers [] = refl
same-numbers (x ∷ xs) = ap (λ b. b && same_numbers xs xs) (eq-eqb x x refl) ∙ same-numbers xs

same-reduction : (r : Reduction) → same_reduction r r ≡ true
same-reduction r = ap (λ b. b && same_numbers r.slots r.slots) (same-reduce r.reduce) ∙ same-numbers r.slots

reduced-at : (reduction : ℕ → Reduction) (r : Reduction) (slots : List ℕ) (i : ℕ) → AreReducedBy reduction r slots → is_among i slots ≡ true → r ≡ reduction i
reduced-at reduction r [] i h e = cc
reduced-at reduction r (s ∷ slots) i h e = one (s == i) (λ k. eqb-true s i k) (reduced-at reduction r slots i h.1) e where
  one : (b : Bool) → (b ≡ true → s ≡ i) → (is_among i slots ≡ true → r ≡ reduction i) → b || is_among i slots ≡ true → r ≡ reduction i
  one true same go e = h.0 ∙ ap reduction (same refl)
  one false same go e = go e

-- what is found among lines that put by one reduction
pub found-by : (reduction : ℕ → Reduction) (i : ℕ) (ls : List Line) (d : Reduction) → LinesPutBy reduction ls → find (has_slot i) (flat_map puts_of ls) ≡ Some d → d ≡ reduction i
found-by reduction i [] d h e = cc
found-by reduction i (Put r place ts ∷ ls) d h e =
    one (is_among i (slots_of ts)) refl (found-by reduction i ls d h.1) e
  where
    own : Reduction
    own = record { reduce = r; slots = slots_of ts }

    one : (b : Bool) → is_among i (slots_of ts) ≡ b → (find (has_slot i) (flat_map puts_of ls) ≡ Some d → d ≡ reduction i) → cond b (Some own) (find (has_slot i) (flat_map puts_of ls)) ≡ Some d → d ≡ reduction i
    one true has go e = let same : own ≡ d = cc in sym same ∙ reduced-at reduction own (slots_of ts) i h.0 has
    one false has go e = go e
found-by reduction i (SetField f a ∷ ls) d h e = found-by reduction i ls d h.1 e
found-by reduction i (Fold r place ts ∷ ls) d h e = found-by reduction i ls d h.1 e
found-by reduction i (SetRegister r a ∷ ls) d h e = found-by reduction i ls d h.1 e
found-by reduction i (Send k to ts ∷ ls) d h e = found-by reduction i ls d h.1 e
found-by reduction i (Skip n a ∷ ls) d h e = found-by reduction i ls d h.1 e
found-by reduction i (Each dir n ∷ ls) d h e = found-by reduction i ls d h.1 e

-- nothing is found for a slot that is none of theirs
no-put : (i : ℕ) (rs : List Reduction) → is_among i (flat_map (λ r. r.slots) rs) ≡ false → find (has_slot i) rs ≡ None
no-put i [] e = refl
no-put i (r ∷ rs) e = one (is_among i r.slots) refl (is_among i (flat_map (λ r. r.slots) rs)) refl (no-put i rs) where
  one : (b : Bool) → is_among i r.slots ≡ b → (d : Bool) → is_among i (flat_map (λ r. r.slots) rs) ≡ d → (is_among i (flat_map (λ r. r.slots) rs) ≡ false → find (has_slot i) rs ≡ None) → cond b (Some r) (find (has_slot i) rs) ≡ None
  one true h d k go = let front = among-front i r.slots (flat_map (λ r. r.slots) rs) h in cc
  one false h true k go = let back = among-back i r.slots (flat_map (λ r. r.slots) rs) k in cc
  one false h false k go = go k

pick-all : (u : ℕ → Bool) (slots : List ℕ) (i : ℕ) → list_all u slots ≡ true → is_among i slots ≡ true → u i ≡ true
pick-all u [] i h e = cc
pick-all u (s ∷ slots) i h e =
    let parts = and_parts (u s) (list_all u slots) h in
    one (s == i) (λ k. eqb-true s i k) parts.0 (pick-all u slots i parts.1) e
  where
    one : (b : Bool) → (b ≡ true → s ≡ i) → u s ≡ true → (is_among i slots ≡ true → u i ≡ true) → b || is_among i slots ≡ true → u i ≡ true
    one true same here go e = ap u (sym (same refl)) ∙ here
    one false same here go e = go e

not-among : (b : Bool) → not b ≡ true → b ≡ false
not-among true e = cc
not-among false e = refl

-- lines before which none puts certain slots
abbrev pub PutsNot : List ℕ → List Line → Type 0
PutsNot gs before = (i : ℕ) → is_among i gs ≡ false → find (has_slot i) (flat_map puts_of before) ≡ None

restarts-put : (ats : List (ℕ × VType)) → flat_map puts_of (map restart ats) ≡ []
restarts-put [] = refl
restarts-put (at ∷ ats) = restarts-put ats

pub first-puts : (first : List Line) (ats : List (ℕ × VType)) → PutsNot (put_globals first) (first ++ map restart ats)
first-puts first ats i away =
    ap (find (has_slot i)) (flat_map-append puts_of first (map restart ats) ∙ ap (λ l. flat_map puts_of first ++ l) (restarts-put ats) ∙ append-nil (flat_map puts_of first))
    ∙ no-put i (flat_map puts_of first) away

line-puts : (gs : List ℕ) (reduction : ℕ → Reduction) (before done : List Line) (l : Line) → PutsNot gs before → LinesPutBy reduction done → LinePutsBy reduction l → puts_none gs l ≡ true → puts_one_way (before ++ done) l ≡ true
line-puts gs reduction before done (Put r place ts) none h k away = ap (λ b. b && true) (all-among (λ i. same_as_first own (find (has_slot i) (flat_map puts_of (before ++ done)))) (slots_of ts) one) where
  own : Reduction
  own = record { reduce = r; slots = slots_of ts }

  one : (i : ℕ) → is_among i (slots_of ts) ≡ true → same_as_first own (find (has_slot i) (flat_map puts_of (before ++ done))) ≡ true
  one i has =
      let apart : is_among i gs ≡ false = not-among (is_among i gs) (pick-all (λ s. not (is_among s gs)) (slots_of ts) i (and_parts (list_all (λ s. not (is_among s gs)) (slots_of ts)) true away).0 has) in
      let found : find (has_slot i) (flat_map puts_of (before ++ done)) ≡ find (has_slot i) (flat_map puts_of done) =
      ap (find (has_slot i)) (flat_map-append puts_of before done)
      ∙ find-append (has_slot i) (flat_map puts_of before) (flat_map puts_of done)
      ∙ ap (λ o. option_or o (find (has_slot i) (flat_map puts_of done))) (none i apart) in
      ap (same_as_first own) found ∙ by (find (has_slot i) (flat_map puts_of done)) refl
    where
      by : (o : Option Reduction) → find (has_slot i) (flat_map puts_of done) ≡ o → same_as_first own o ≡ true
      by None e = refl
      by (Some d) e = ap (λ x. same_reduction x own) (found-by reduction i done d h e ∙ sym (reduced-at reduction own (slots_of ts) i k has)) ∙ same-reduction own
line-puts gs reduction before done (SetField f a) none h k away = refl
line-puts gs reduction before done (Fold r place ts) none h k away = refl
line-puts gs reduction before done (SetRegister r a) none h k away = refl
line-puts gs reduction before done (Send kind to ts) none h k away = refl
line-puts gs reduction before done (Skip n a) none h k away = refl
line-puts gs reduction before done (Each d n) none h k away = refl

put-more : (reduction : ℕ → Reduction) (done : List Line) (l : Line) → LinesPutBy reduction done → LinePutsBy reduction l → LinesPutBy reduction (done ++ l ∷ [])
put-more reduction [] l h k = (k, tt)
put-more reduction (d ∷ done) l h k = (h.0, put-more reduction done l h.1 k)

-- a body keeps the rules behind other lines too, which put none of what it puts
pub second-passes : (p : Program) (gs : List ℕ) (reduction : ℕ → Reduction) (before old : List Line) → PutsNot gs before → (done : List Line) (a : Around) (ls : List Line) → LinesPutBy reduction done → LinesPutBy reduction ls → list_all (puts_none gs) ls ≡ true →
    list_all (keeps_all p) (body_rows (old ++ done) a ls) ≡ true → list_all (keeps_all p) (body_rows (before ++ done) a ls) ≡ true
second-passes p gs reduction before old none done a [] h k away rest = refl
second-passes p gs reduction before old none done a (l ∷ ls) h k away rest =
    let site : Site = record { kind = None; around = a; earlier = old ++ done; later = ls } in
    let behind : Site = record { kind = None; around = a; earlier = before ++ done; later = ls } in
    let parts = and_parts (puts_none gs l) (list_all (puts_none gs) ls) away in
    let more : List Row = body_rows ((old ++ done) ++ l ∷ []) (around_next a l ls) ls in
    let own : Passes p site l = line-passes p site l (all_first (keeps_all p) (LineRow site l) more rest) in
    let here : keeps_all p (LineRow behind l) ≡ true = passes-line p behind l (record { range = own.range; fits = own.fits; stays = own.stays; leaves = own.leaves; folds = own.folds; puts = line-puts gs reduction before done l none h k.0 parts.0 }) in
    ap (λ b. b && list_all (keeps_all p) (body_rows ((before ++ done) ++ l ∷ []) (around_next a l ls) ls)) here
    ∙ ap (λ x. list_all (keeps_all p) (body_rows x (around_next a l ls) ls)) (append_assoc before done (l ∷ []))
    ∙ second-passes p gs reduction before old none (done ++ l ∷ []) (around_next a l ls) ls (put-more reduction done l h k.0) k.1 parts.1
    (ap (λ x. list_all (keeps_all p) (body_rows x (around_next a l ls) ls)) (sym (append_assoc old done (l ∷ []))) ∙ all_rest (keeps_all p) (LineRow site l) more rest)
