-- What the lines of an inner body fold, and that they set no field and read none that is folded.
use Rattle.std.proofs.Common.{◌≡◌, ℕ, suc, Bool, true, false, Option, Some, None, List, [], ◌∷◌, ◌++◌, map, length, refl, ap, ◌∙◌, sym, subst}
use Rattle.std.specs.Prelude.{◌+◌, ◌&&◌, nat_eq, if◌then◌else◌}
use Rattle.std.specs.List.{list_all, flat_map}
use Rattle.std.proofs.lemmas.Bool.{both_ways, and_from}
use Rattle.gm_value.specs.declared.reductions.Reduce.{Reduce}
use Rattle.gm_value.specs.declared.values.VType.{VType}
use Rattle.gm_value.specs.declared.values.VType.TheVariants as V
use Rattle.gm_value.specs.declared.operations.Op2.{Op2}
use Rattle.gm_value.specs.declared.operations.Op2.TheVariants as two
use Rattle.gm_ast.specs.declared.tree.Declaration.{Declaration}
use Rattle.gm_ast.specs.declared.tree.Direction.{Direction}
use Rattle.gm_ast.specs.declared.tree.Key.{Key}
use Rattle.gm_ast.specs.declared.tree.Target.{Target}
use Rattle.gm_ast.specs.declared.tree.Target.TheVariants as T
use Rattle.gm_ast.specs.declared.tree.TotalKey.{TotalKey}
use Rattle.gm_ast.specs.Program as S
use Rattle.gm_ast.specs.Program.{Expr, Stmt, Program}
use Rattle.gm_ast.specs.Ways.{is_in}
use Rattle.gm_forms.proofs.Named.{both-true}
use Rattle.gm_forms.specs.Forms.{depth_at, is_flat, is_inner_local, is_inner_given, is_within, are_reduced, is_inner_body}
use Rattle.gm_forms.specs.Sharing.{Read, reads_in, sights_in_all, sights_of, sights_of_target, sights_at_target, sights_by, sights_of_targets, is_at_once, are_at_once, is_scalar, is_through, are_alike, are_distinct, targets_alike, variables_of}
use Rattle.gm_forms.specs.Typing.{has_type, all_have_types, fits_targets, is_typed_in}
use Rattle.gm_forms.specs.Uses.{Use, Written, Owner, NodeValue, use_as, uses_in, uses_in_all, uses_of_target, uses_of_targets, uses_of}
use Rattle.gm_typed_stores.specs.Values.{Each}
use Rattle.gm_image.specs.Folds.{Reduction, folds_of, is_none_of, reads_none, sets_no_field}
use Rattle.gm_image.specs.Parts.{all_leaves, terms_of, slots_of}
use Rattle.gm_image.specs.Program.{Line, SetField, Fold, SetRegister, Put, Send, Skip, Each as EachLine, Handler}
use Rattle.gm_image.specs.Term as M
use Rattle.gm_image.specs.Term.{Term}
use Rattle.gm_lowering.specs.Blocks.{message_values, taking_handlers}
use Rattle.gm_lowering.specs.Bodies as B
use Rattle.gm_lowering.specs.Bodies.{Keeping, under, else_lines, choice_by, set_line, slot_number, image_targets, target_node, kept_lines, save_lines, take_lines, paired, replacing, compared, better, saved_pairs, with_types, reduce_lines, lines_of}
use Rattle.gm_lowering.specs.Layouts.{Layout, layout, rank, has_field}
use Rattle.gm_lowering.specs.Places.{Segment}
use Rattle.gm_lowering.specs.Plans.{Way, Puts, Folds, Sends, Picks, way_of, Away, away_by, aways}
use Rattle.gm_lowering.specs.Terms.{Env, term}
use Rattle.gm_sound_lowering.specs.Types.{is_placed}
use Rattle.gm_sound_lowering.proofs.Folds.{no-leaf, term-clean}
use Rattle.gm_sound_lowering.proofs.FoldWays.{Goes, goes, ended_if, ends_in, is_fold, is_sent, sent_of}
use Rattle.gm_sound_lowering.proofs.Leaves.{each-both, each-join, placed-split, placed-here}
use Rattle.gm_sound_lowering.proofs.OneWay.{Combined, slotted, AreRanked}
use Rattle.gm_sound_lowering.proofs.PutLines.{joined, nothing-behind, map-both, slots-same}
use Rattle.gm_sound_lowering.proofs.Reductions.{IsPropertySlot, property-slots, property-ranked}
use Rattle.gm_sound_lowering.proofs.Rowwise.{all-both, all-always}
use Rattle.gm_sound_lowering.proofs.Ways as W
use Rattle.gm_sound_lowering.proofs.Ways.{through-properties}

-- what some lines fold
abbrev pub folds : List Line → List Reduction
folds ls = flat_map folds_of ls

pub folds-both : (xs ys : List Line) → folds (xs ++ ys) ≡ folds xs ++ folds ys
folds-both [] ys = refl
folds-both (x ∷ xs) ys = ap (λ us. folds_of x ++ us) (folds-both xs ys) ∙ joined (folds_of x) (folds xs) (folds ys)

-- the slots of reductions, by their variables
pub slots-of-all : (test : ℕ → Bool) (n : ℕ) (qs : List Combined) → flat_map (λ r. r.slots) (map (slotted test n) qs) ≡ map (rank test) (flat_map (λ q. q.variables) qs)
slots-of-all test n [] = refl
slots-of-all test n (q ∷ qs) =
    ap (λ xs. map (rank test) q.variables ++ xs) (slots-of-all test n qs) ∙ sym (map-both (rank test) q.variables (flat_map (λ q. q.variables) qs))

module _ (fs : List ℕ) where
  -- a term reads none of some fields
  abbrev pub clean : Term → Bool
  clean = all_leaves (is_none_of fs)

  -- a line reads none of some fields, and sets none at all
  abbrev pub is_clean : Line → Bool
  is_clean l = reads_none fs l && sets_no_field l

  -- a line sets a register to such a term
  abbrev pub sets_register : Line → Bool
  sets_register (SetRegister r a) = all_leaves (is_none_of fs) a
  sets_register l = false

  one-clean : (l : Line) → reads_none fs l ≡ true → sets_no_field l ≡ true → is_clean l ≡ true
  one-clean l h k = and_from (reads_none fs l) (sets_no_field l) h k

  pub registers-clean : (ls : List Line) → list_all sets_register ls ≡ true → list_all is_clean ls ≡ true
  registers-clean [] h = refl
  registers-clean (l ∷ ls) h = let b = both-true (sets_register l) (list_all sets_register ls) h in and_from (is_clean l) (list_all is_clean ls) (by l b.0) (registers-clean ls b.1) where
    by : (l : Line) → sets_register l ≡ true → is_clean l ≡ true
    by (SetRegister r a) e = one-clean (SetRegister r a) (and_from (clean a) true e refl) refl
    by (SetField f a) e = absurd (both_ways false refl e)
    by (Fold r q ts) e = absurd (both_ways false refl e)
    by (Put r q ts) e = absurd (both_ways false refl e)
    by (Send k' to vs) e = absurd (both_ways false refl e)
    by (Skip n a) e = absurd (both_ways false refl e)
    by (EachLine d n) e = absurd (both_ways false refl e)

  pub registers-fold : (ls : List Line) → list_all sets_register ls ≡ true → folds ls ≡ []
  registers-fold [] h = refl
  registers-fold (l ∷ ls) h = let b = both-true (sets_register l) (list_all sets_register ls) h in by l b.0 (registers-fold ls b.1) where
    by : (l : Line) → sets_register l ≡ true → folds ls ≡ [] → folds (l ∷ ls) ≡ []
    by (SetRegister r a) e k = k
    by (SetField f a) e k = absurd (both_ways false refl e)
    by (Fold r q ts) e k = absurd (both_ways false refl e)
    by (Put r q ts) e k = absurd (both_ways false refl e)
    by (Send k' to vs) e k = absurd (both_ways false refl e)
    by (Skip n a) e k = absurd (both_ways false refl e)
    by (EachLine d n) e k = absurd (both_ways false refl e)

  -- lines that keep the better of two tuples of scalars set registers
  module _ (s : B.Site) (scalar : (x : ℕ) → clean (s.env.scalar x) ≡ true) where
    abbrev k : Keeping Line
    k = B.keeping s

    abbrev is_pair : (VType × Target) → Bool
    is_pair t = is_scalar t.1

    sets : (t : Target) (a : Term) → is_scalar t ≡ true → clean a ≡ true → sets_register (set_line s.layout t a) ≡ true
    sets (T.Scalar x at) a h g = g
    sets (T.Property x q at) a h g = absurd (both_ways false refl h)

    held : (t : Target) → is_scalar t ≡ true → clean (k.held t) ≡ true
    held (T.Scalar x at) h = scalar x
    held (T.Property x q at) h = absurd (both_ways false refl h)

    saves : (i : ℕ) (types : List VType) (values : List Term) → list_all clean values ≡ true → list_all sets_register (save_lines k i (paired types values)) ≡ true
    saves i [] values h = refl
    saves i (t ∷ types) [] h = refl
    saves i (t ∷ types) (a ∷ values) h =
        let b = both-true (clean a) (list_all clean values) h in and_from (clean a) (list_all sets_register (save_lines k (suc i) (paired types values))) b.0 (saves (suc i) types values b.1)

    choice : (b a : Term) (t : Target) → clean b ≡ true → clean a ≡ true → is_scalar t ≡ true → clean (M.Choose b a (k.held t)) ≡ true
    choice b a t h g e = and_from (clean b && clean a) (clean (k.held t)) (and_from (clean b) (clean a) h g) (held t e)

    takes : (b : Term) (i : ℕ) (ts : List (VType × Target)) → clean b ≡ true → list_all is_pair ts ≡ true → list_all sets_register (take_lines k b i ts) ≡ true
    takes b i [] h e = refl
    takes b i (t ∷ ts) h e =
        let q = both-true (is_pair t) (list_all is_pair ts) e in
        let v = M.Choose b (k.saved i t.0) (k.held t.1) in
        and_from (sets_register (set_line s.layout t.1 v)) (list_all sets_register (take_lines k b (suc i) ts)) (sets t.1 v q.0 (choice b (k.saved i t.0) t.1 h refl q.0)) (takes b (suc i) ts h q.1)

    compares : (op : Op2) (a b : Term) → clean a ≡ true → clean b ≡ true → clean (compared op a b) ≡ true
    compares op a b h g = and_from (clean a) (clean b) h g

    replaces : (op : Op2) (i : ℕ) (ts : List (VType × Target)) → list_all is_pair ts ≡ true → clean (replacing op (saved_pairs k i ts)) ≡ true
    replaces op i [] h = refl
    replaces op i (t ∷ []) h = compares op (k.saved i t.0) (k.held t.1) refl (held t.1 (both-true (is_pair t) true h).0)
    replaces op i (t ∷ (u ∷ ts)) h =
        let q = both-true (is_pair t) (list_all is_pair (u ∷ ts)) h in
        let a = k.saved i t.0 in
        let b = k.held t.1 in
        let e = held t.1 q.0 in
        let rest = replacing two.Lt (saved_pairs k (suc i) (u ∷ ts)) in
        and_from (clean (compared op a b)) (clean (compared op b a) && clean rest) (compares op a b refl e)
        (and_from (clean (compared op b a)) (clean rest) (compares op b a e refl) (replaces two.Lt (suc i) (u ∷ ts) q.1))

    tuples : (r : Reduce) (ts : List (VType × Target)) (values : List Term) → list_all is_pair ts ≡ true → list_all clean values ≡ true →
        list_all sets_register (save_lines k 0 (paired (map (λ t. t.0) ts) values) ++ (k.save (length ts) V.Flag (replacing (better r) (saved_pairs k 0 ts)) ∷ take_lines k (k.saved (length ts) V.Flag) 0 ts)) ≡ true
    tuples r ts values h g =
        all-both sets_register (save_lines k 0 (paired (map (λ t. t.0) ts) values)) (k.save (length ts) V.Flag (replacing (better r) (saved_pairs k 0 ts)) ∷ take_lines k (k.saved (length ts) V.Flag) 0 ts)
        (saves 0 (map (λ t. t.0) ts) values g) (and_from (clean (replacing (better r) (saved_pairs k 0 ts))) _ (replaces (better r) 0 ts h) (takes (k.saved (length ts) V.Flag) 0 ts refl h))

    pub kept-registers : (r : Reduce) (ts : List (VType × Target)) (values : List Term) → list_all is_pair ts ≡ true → list_all clean values ≡ true → list_all sets_register (kept_lines k r ts values) ≡ true
    kept-registers r [] values h g = tuples r [] values h g
    kept-registers r (t ∷ []) [] h g = tuples r (t ∷ []) [] h g
    kept-registers r (t ∷ []) (a ∷ []) h g =
        let e = (both-true (is_pair t) true h).0 in
        let f = (both-true (clean a) true g).0 in
        let b = compared (better r) a (k.held t.1) in
        let v = M.Choose b a (k.held t.1) in
        and_from (sets_register (set_line s.layout t.1 v)) true (sets t.1 v e (choice b a t.1 (compares (better r) a (k.held t.1) f (held t.1 e)) f e)) refl
    kept-registers r (t ∷ []) (a ∷ (b ∷ values)) h g = tuples r (t ∷ []) (a ∷ (b ∷ values)) h g
    kept-registers r (t ∷ (u ∷ ts)) values h g = tuples r (t ∷ (u ∷ ts)) values h g

pairs : (c : Layout) (ts : List Target) → list_all is_scalar ts ≡ true → list_all (λ t. is_scalar t.1) (with_types c ts) ≡ true
pairs c [] h = refl
pairs c (t ∷ ts) h = let b = both-true (is_scalar t) (list_all is_scalar ts) h in and_from (is_scalar t) _ b.0 (pairs c ts b.1)

-- ---- what a body folds

module _ (p : Program) where
  abbrev ds : List Declaration
  ds = p.declarations

  abbrev c : Layout
  c = layout p

  abbrev Named : List Use → Type 0
  Named us = list_all (is_placed p) us ≡ true

  abbrev pub fold : Combined → Reduction
  fold = slotted (has_field p) (length ds)

  through-slots : (y : ℕ) (ts : List Target) → list_all (is_through y) ts ≡ true → Named (uses_of_targets ts) → Each (IsPropertySlot p) ts
  through-slots y ts h u = W.property-slots p y ts (through-properties p y y ts h) u

  module _ (env : Env) (node : ℕ) (iterators : List ℕ) (at_once : Bool) where
    abbrev s : B.Site
    s = record { layout = c; env = env; node = node; iterators = iterators; at_once = at_once }

    reduction-folds : (m : ℕ) (k : Key) (total : TotalKey) (r : Reduce) (ts : List Target) (es : List Expr) (way : Way) → Goes ds node way ts → all_have_types ds ts es ≡ true → Named (uses_of_targets ts)
        → folds (reduce_lines s m way k total r ts (map (term env k) es)) ≡ map fold (ended_if (is_fold way) r ts)
    reduction-folds m k total r ts es Puts w h u = refl
    reduction-folds m k total r ts es Folds w h u = ap (λ xs. record { reduce = r; slots = xs } ∷ []) (slots-same p (term env k) ts es h ∙ property-slots p ts (through-slots node ts w u))
    reduction-folds m k total r ts es Sends w h u = refl
    reduction-folds m k total r ts es Picks w h u =
        registers-fold [] (kept_lines (B.keeping s) r (with_types c ts) (map (term env k) es))
        (kept-registers [] s (λ x. no-leaf (env.scalar x)) r (with_types c ts) (map (term env k) es) (pairs c ts w) (all-always (all_leaves (is_none_of [])) no-leaf (map (term env k) es)))

    choice-folds : (t : Term) (xs ys : List Line) → folds (choice_by t xs ys) ≡ folds xs ++ folds ys
    choice-folds t xs [] = sym (nothing-behind (folds xs))
    choice-folds t xs (l ∷ ls) = folds-both xs (else_lines (l ∷ ls))

    pub lines-fold : (result : Option VType) (m : ℕ) (st : Stmt) → is_typed_in ds result st ≡ true → Named (uses_of st) → targets_alike st ≡ true → folds (lines_of s m st) ≡ map fold (ends_in is_fold ds node st)
    lines-fold result m (S.Then a b) h u t =
        let next = m + length (aways ds node a) in
        let h2 = both-true (is_typed_in ds result a) (is_typed_in ds result b) h in
        let u2 = placed-split p (uses_of a) (uses_of b) u in
        let t2 = both-true (targets_alike a) (targets_alike b) t in
        folds-both (lines_of s m a) (lines_of s next b) ∙ ap (λ xs. xs ++ folds (lines_of s next b)) (lines-fold result m a h2.0 u2.0 t2.0)
        ∙ ap (λ xs. map fold (ends_in is_fold ds node a) ++ xs) (lines-fold result next b h2.1 u2.1 t2.1)
        ∙ sym (map-both fold (ends_in is_fold ds node a) (ends_in is_fold ds node b))
    lines-fold result m (S.If k e a b) h u t =
        let next = m + length (aways ds node a) in
        let h2 = both-true (is_typed_in ds result a) (is_typed_in ds result b) (both-true (has_type ds V.Flag e) (is_typed_in ds result a && is_typed_in ds result b) h).1 in
        let u2 = placed-split p (uses_of a) (uses_of b) (placed-split p (uses_in e) (uses_of a ++ uses_of b) u).1 in
        let t2 = both-true (targets_alike a) (targets_alike b) t in
        choice-folds (term env k e) (lines_of s m a) (lines_of s next b) ∙ ap (λ xs. xs ++ folds (lines_of s next b)) (lines-fold result m a h2.0 u2.0 t2.0)
        ∙ ap (λ xs. map fold (ends_in is_fold ds node a) ++ xs) (lines-fold result next b h2.1 u2.1 t2.1)
        ∙ sym (map-both fold (ends_in is_fold ds node a) (ends_in is_fold ds node b))
    lines-fold result m (S.Declare k x e) h u t = refl
    lines-fold result m (S.Assign k (T.Scalar x at) e) h u t = refl
    lines-fold result m (S.Assign k (T.Property x q at) e) h u t = refl
    lines-fold result m (S.Combine k total r ts es) h u t =
        reduction-folds m k total r ts es (way_of ds node ts) (goes ds node ts (both-true (are_alike ts) (are_distinct (variables_of ts)) t).0) (both-true (all_have_types ds ts es) (fits_targets ds r ts) h).0
        (placed-split p (uses_of_targets ts) (uses_in_all es) u).0
    lines-fold result m S.Skip h u t = refl
    lines-fold result m (S.DeclareEdge x y at) h u t = refl
    lines-fold result m (S.Defer k t e) h u t' = refl
    lines-fold result m (S.Group k at x y e) h u t = refl
    lines-fold result m (S.Foreach k at head test body) h u t = refl
    lines-fold result m (S.For k at head test body) h u t = refl
    lines-fold result m (S.While k at test body) h u t = refl
    lines-fold result m (S.Do k at body test) h u t = refl
    lines-fold result m (S.InBfs k at how test body) h u t = refl
    lines-fold result m (S.InBfsBoth k at how test body back_key back_test back) h u t = refl
    lines-fold result m (S.Return k at e) h u t = refl

  -- ---- what is taken from messages

  -- the targets of what is sent have fields
  abbrev HaveSlots : Away → Type 0
  HaveSlots a = Each (IsPropertySlot p) a.targets

  pub sent-slots : (node : ℕ) (st : Stmt) → Named (uses_of st) → targets_alike st ≡ true → Each HaveSlots (aways ds node st)
  sent-slots node (S.Then a b) u t =
      let u2 = placed-split p (uses_of a) (uses_of b) u in
      let t2 = both-true (targets_alike a) (targets_alike b) t in each-join HaveSlots (aways ds node a) (aways ds node b) (sent-slots node a u2.0 t2.0) (sent-slots node b u2.1 t2.1)
  sent-slots node (S.If k e a b) u t =
      let u2 = placed-split p (uses_of a) (uses_of b) (placed-split p (uses_in e) (uses_of a ++ uses_of b) u).1 in
      let t2 = both-true (targets_alike a) (targets_alike b) t in each-join HaveSlots (aways ds node a) (aways ds node b) (sent-slots node a u2.0 t2.0) (sent-slots node b u2.1 t2.1)
  sent-slots node (S.Combine k total r ts es) u t =
      by (way_of ds node ts) (goes ds node ts (both-true (are_alike ts) (are_distinct (variables_of ts)) t).0) (placed-split p (uses_of_targets ts) (uses_in_all es) u).0 where
        by : (w : Way) → Goes ds node w ts → Named (uses_of_targets ts) → Each HaveSlots (away_by w total r ts)
        by Sends g u = (through-slots g.0 ts g.1 u, tt)
        by Puts g u = tt
        by Folds g u = tt
        by Picks g u = tt
  sent-slots node _ u t = tt

  abbrev handled : List Handler → List Line
  handled hs = flat_map (λ h. h.lines) hs

  taken-slots : (i : ℕ) (ts : List Target) → slots_of (image_targets c ts (message_values i ts)) ≡ map (slot_number c) ts
  taken-slots i [] = refl
  taken-slots i (t ∷ ts) = ap (λ xs. slot_number c t ∷ xs) (taken-slots (suc i) ts)

  pub takings-fold : (g : Segment) (m : ℕ) (xs : List Away) → Each HaveSlots xs → folds (handled (taking_handlers c g m xs)) ≡ map fold (map sent_of xs)
  takings-fold g m [] h = refl
  takings-fold g m (a ∷ more) h =
      ap (λ xs. record { reduce = a.reduce; slots = xs } ∷ folds (handled (taking_handlers c g (suc m) more))) (taken-slots 0 a.targets ∙ property-slots p a.targets h.0) ∙ ap (λ xs. fold (sent_of a) ∷ xs) (takings-fold g (suc m) more h.1)

  -- the variables of what ends in properties have fields of their own
  module _ (node : ℕ) (some : Way → Bool) (leads : (w : Way) (ts : List Target) → some w ≡ true → Goes ds node w ts → (y : ℕ) × (list_all (is_through y) ts ≡ true)) where
    ended-ranked : (r : Reduce) (ts : List Target) (w : Way) → Goes ds node w ts → Named (uses_of_targets ts) → Each (AreRanked (has_field p) (length ds)) (ended_if (some w) r ts)
    ended-ranked r ts w g u = by (some w) refl where
      by : (b : Bool) → some w ≡ b → Each (AreRanked (has_field p) (length ds)) (ended_if b r ts)
      by true e = let y = leads w ts e g in (property-ranked p ts (through-slots y.0 ts y.1 u), tt)
      by false e = tt

    pub ends-ranked : (st : Stmt) → Named (uses_of st) → targets_alike st ≡ true → Each (AreRanked (has_field p) (length ds)) (ends_in some ds node st)
    ends-ranked (S.Then a b) u t =
        let u2 = placed-split p (uses_of a) (uses_of b) u in
        let t2 = both-true (targets_alike a) (targets_alike b) t in each-join (AreRanked (has_field p) (length ds)) (ends_in some ds node a) (ends_in some ds node b) (ends-ranked a u2.0 t2.0) (ends-ranked b u2.1 t2.1)
    ends-ranked (S.If k e a b) u t =
        let u2 = placed-split p (uses_of a) (uses_of b) (placed-split p (uses_in e) (uses_of a ++ uses_of b) u).1 in
        let t2 = both-true (targets_alike a) (targets_alike b) t in each-join (AreRanked (has_field p) (length ds)) (ends_in some ds node a) (ends_in some ds node b) (ends-ranked a u2.0 t2.0) (ends-ranked b u2.1 t2.1)
    ends-ranked (S.Combine k total r ts es) u t =
        ended-ranked r ts (way_of ds node ts) (goes ds node ts (both-true (are_alike ts) (are_distinct (variables_of ts)) t).0) (placed-split p (uses_of_targets ts) (uses_in_all es) u).0
    ends-ranked _ u t = tt

  pub fold-through : (node : ℕ) (w : Way) (ts : List Target) → is_fold w ≡ true → Goes ds node w ts → (y : ℕ) × (list_all (is_through y) ts ≡ true)
  fold-through node Folds ts e g = (node, g)
  fold-through node Puts ts e g = absurd (both_ways false refl e)
  fold-through node Sends ts e g = absurd (both_ways false refl e)
  fold-through node Picks ts e g = absurd (both_ways false refl e)

  pub sent-through : (node : ℕ) (w : Way) (ts : List Target) → is_sent w ≡ true → Goes ds node w ts → (y : ℕ) × (list_all (is_through y) ts ≡ true)
  sent-through node Sends ts e g = (g.0, g.1)
  sent-through node Puts ts e g = absurd (both_ways false refl e)
  sent-through node Folds ts e g = absurd (both_ways false refl e)
  sent-through node Picks ts e g = absurd (both_ways false refl e)

  -- ---- what an inner body reads

  module _ (its : List ℕ) (edge : Bool) where
    -- a read through an iterator, of a property with a field
    abbrev pub IsRead : Read → Type 0
    IsRead r = (is_in its r.owner ≡ true) × (has_field p r.property ≡ true)

    pub expr-reads : (e : Expr) → is_flat its edge e ≡ true → Named (uses_in e) → Each IsRead (reads_in e)
    expr-reads (S.Property x q at) f u = ((f, (placed-here p NodeValue q (placed-split p (use_as Owner x) (use_as NodeValue q) u).1).2), tt)
    expr-reads (S.Unary op at a) f u = expr-reads a f u
    expr-reads (S.Binary op at a b) f u =
        let g = both-true (is_flat its edge a) (is_flat its edge b) f in
        let w = placed-split p (uses_in a) (uses_in b) u in each-join IsRead (reads_in a) (reads_in b) (expr-reads a g.0 w.0) (expr-reads b g.1 w.1)
    expr-reads (S.Both a b) f u =
        let g = both-true (is_flat its edge a) (is_flat its edge b) f in
        let w = placed-split p (uses_in a) (uses_in b) u in each-join IsRead (reads_in a) (reads_in b) (expr-reads a g.0 w.0) (expr-reads b g.1 w.1)
    expr-reads (S.Either a b) f u =
        let g = both-true (is_flat its edge a) (is_flat its edge b) f in
        let w = placed-split p (uses_in a) (uses_in b) u in each-join IsRead (reads_in a) (reads_in b) (expr-reads a g.0 w.0) (expr-reads b g.1 w.1)
    expr-reads (S.Choose c a b) f u =
        let g = both-true (is_flat its edge c) (is_flat its edge a && is_flat its edge b) f in
        let g2 = both-true (is_flat its edge a) (is_flat its edge b) g.1 in
        let w = placed-split p (uses_in c) (uses_in a ++ uses_in b) u in
        let w2 = placed-split p (uses_in a) (uses_in b) w.1 in
        each-join IsRead (reads_in c) (reads_in a ++ reads_in b) (expr-reads c g.0 w.0) (each-join IsRead (reads_in a) (reads_in b) (expr-reads a g2.0 w2.0) (expr-reads b g2.1 w2.1))
    expr-reads (S.Folded fold h c a) f u = absurd (both_ways false refl f)
    expr-reads _ f u = tt

    all-read : (es : List Expr) → list_all (is_flat its edge) es ≡ true → Named (uses_in_all es) → Each IsRead ((sights_in_all es).properties)
    all-read [] f u = tt
    all-read (e ∷ es) f u =
        let g = both-true (is_flat its edge e) (list_all (is_flat its edge) es) f in
        let w = placed-split p (uses_in e) (uses_in_all es) u in each-join IsRead (reads_in e) ((sights_in_all es).properties) (expr-reads e g.0 w.0) (all-read es g.1 w.1)

    -- no property is kept at once in an inner loop
    module _ (n : ℕ) where
      targets-none : (ts : List Target) → (sights_by sights_of_target ts).properties ≡ []
      targets-none [] = refl
      targets-none (T.Scalar x at ∷ ts) = targets-none ts
      targets-none (T.Property x q at ∷ ts) = targets-none ts

      scalars-none : (ts : List Target) → are_at_once ds n true ts ≡ true → (sights_by sights_at_target ts).properties ≡ []
      scalars-none [] h = refl
      scalars-none (T.Scalar x at ∷ ts) h = scalars-none ts (both-true (is_at_once ds n true (T.Scalar x at)) (are_at_once ds n true ts) h).1
      scalars-none (T.Property x q at ∷ ts) h = absurd (both_ways false refl h)

      target-reads : (ts : List Target) → (sights_of_targets ds n true ts).properties ≡ []
      target-reads ts = by (are_at_once ds n true ts) refl where
        by : (b : Bool) → are_at_once ds n true ts ≡ b → (sights_by (if b then sights_at_target else sights_of_target) ts).properties ≡ []
        by true e = scalars-none ts e
        by false e = targets-none ts

      pub body-reads : (st : Stmt) → is_inner_body ds its edge st ≡ true → Named (uses_of st) → Each IsRead ((sights_of ds n true st).properties)
      body-reads (S.Then a b) f u =
          let g = both-true (is_inner_body ds its edge a) (is_inner_body ds its edge b) f in
          let w = placed-split p (uses_of a) (uses_of b) u in
          each-join IsRead ((sights_of ds n true a).properties) ((sights_of ds n true b).properties) (body-reads a g.0 w.0) (body-reads b g.1 w.1)
      body-reads (S.Declare k x None) f u = tt
      body-reads (S.Declare k x (Some e)) f u = expr-reads e (both-true (nat_eq (depth_at ds x) 2) (is_flat its edge e) f).1 (placed-split p (use_as Written x) (uses_in e) u).1
      body-reads (S.Assign k (T.Scalar x at) e) f u = expr-reads e (both-true (is_inner_local ds (T.Scalar x at)) (is_flat its edge e) f).1 (placed-split p (uses_of_target (T.Scalar x at)) (uses_in e) u).1
      body-reads (S.Assign k (T.Property x q at) e) f u = absurd (both_ways false refl f)
      body-reads (S.Combine k total r ts es) f u =
          each-join IsRead ((sights_of_targets ds n true ts).properties) ((sights_in_all es).properties) (subst (Each IsRead) (sym (target-reads ts)) tt)
          (all-read es (both-true (are_reduced (is_inner_given ds) (is_within ds 2) r ts) (list_all (is_flat its edge) es) f).1 (placed-split p (uses_of_targets ts) (uses_in_all es) u).1)
      body-reads (S.If k e a b) f u =
          let g = both-true (is_flat its edge e) (is_inner_body ds its edge a && is_inner_body ds its edge b) f in
          let g2 = both-true (is_inner_body ds its edge a) (is_inner_body ds its edge b) g.1 in
          let w = placed-split p (uses_in e) (uses_of a ++ uses_of b) u in
          let w2 = placed-split p (uses_of a) (uses_of b) w.1 in
          let ra = (sights_of ds n true a).properties in
          let rb = (sights_of ds n true b).properties in
          each-join IsRead (reads_in e) (ra ++ rb) (expr-reads e g.0 w.0) (each-join IsRead ra rb (body-reads a g2.0 w2.0) (body-reads b g2.1 w2.1))
      body-reads (S.Defer k t e) f u = absurd (both_ways false refl f)
      body-reads (S.Foreach k at h test body) f u = absurd (both_ways false refl f)
      body-reads _ f u = tt

  -- ---- an inner body is clean

  module _ (fs : List ℕ) (env : Env) (node : ℕ) (iterators : List ℕ) (at_once : Bool)
      (scalar : (x : ℕ) → clean fs (env.scalar x) ≡ true) (edges : (q : ℕ) → clean fs (env.edge q) ≡ true) (degree : (d : Direction) (x : ℕ) → clean fs (env.degree d x) ≡ true) where
    abbrev site : B.Site
    site = record { layout = c; env = env; node = node; iterators = iterators; at_once = at_once }

    -- what is read of a property is none of the fields
    abbrev pub IsClean : Read → Type 0
    IsClean r = clean fs (env.property r.owner r.property) ≡ true

    pub expr-clean : (k : Key) (e : Expr) → Each IsClean (reads_in e) → clean fs (term env k e) ≡ true
    expr-clean k e h = term-clean (is_none_of fs) (λ v. refl) refl refl env scalar edges degree k e h

    values-clean : (k : Key) (es : List Expr) → Each IsClean ((sights_in_all es).properties) → list_all (clean fs) (map (term env k) es) ≡ true
    values-clean k [] h = refl
    values-clean k (e ∷ es) h =
        let r = each-both IsClean (reads_in e) ((sights_in_all es).properties) h in and_from (clean fs (term env k e)) (list_all (clean fs) (map (term env k) es)) (expr-clean k e r.0) (values-clean k es r.1)

    targets-clean : (ts : List Target) (values : List Term) → list_all (clean fs) values ≡ true → list_all (clean fs) (terms_of (image_targets c ts values)) ≡ true
    targets-clean [] values h = refl
    targets-clean (t ∷ ts) [] h = refl
    targets-clean (t ∷ ts) (a ∷ values) h =
        let b = both-true (clean fs a) (list_all (clean fs) values) h in and_from (clean fs a) (list_all (clean fs) (terms_of (image_targets c ts values))) b.0 (targets-clean ts values b.1)

    node-clean : (k : Key) (ts : List Target) → clean fs (target_node site k ts) ≡ true
    node-clean k [] = refl
    node-clean k (T.Scalar x at ∷ ts) = node-clean k ts
    node-clean k (T.Property x q at ∷ ts) = by (is_in iterators x) where
      by : (b : Bool) → clean fs (if b then env.scalar x else M.Live (env.place k at) (env.scalar x)) ≡ true
      by true = scalar x
      by false = scalar x

    one : (l : Line) → reads_none fs l ≡ true → sets_no_field l ≡ true → list_all (is_clean fs) (l ∷ []) ≡ true
    one l h g = and_from (is_clean fs l) true (and_from (reads_none fs l) (sets_no_field l) h g) refl

    reduction-clean : (m : ℕ) (k : Key) (total : TotalKey) (r : Reduce) (ts : List Target) (values : List Term) (way : Way) → Goes ds node way ts → list_all (clean fs) values ≡ true
        → list_all (is_clean fs) (reduce_lines site m way k total r ts values) ≡ true
    reduction-clean m k total r ts values Puts g h = one (Put r (env.place total.key total.place) (image_targets c ts values)) (targets-clean ts values h) refl
    reduction-clean m k total r ts values Folds g h = one (Fold r (B.fold_place site k total) (image_targets c ts values)) (targets-clean ts values h) refl
    reduction-clean m k total r ts values Sends g h = one (Send m (target_node site k ts) values) (and_from (clean fs (target_node site k ts)) (list_all (clean fs) values) (node-clean k ts) h) refl
    reduction-clean m k total r ts values Picks g h =
        registers-clean fs (kept_lines (B.keeping site) r (with_types c ts) values) (kept-registers fs site scalar r (with_types c ts) values (pairs c ts g) h)

    else-clean : (ls : List Line) → list_all (is_clean fs) ls ≡ true → list_all (is_clean fs) (else_lines ls) ≡ true
    else-clean [] h = refl
    else-clean (l ∷ ls) h = h

    choice-clean : (t : Term) (xs ys : List Line) → clean fs t ≡ true → list_all (is_clean fs) xs ≡ true → list_all (is_clean fs) ys ≡ true → list_all (is_clean fs) (choice_by t xs ys) ≡ true
    choice-clean t xs [] e h g = all-both (is_clean fs) (Skip (length xs) t ∷ []) xs (one (Skip (length xs) t) (and_from (clean fs t) true e refl) refl) h
    choice-clean t xs (l ∷ ls) e h g =
        all-both (is_clean fs) (Skip (suc (length xs)) t ∷ []) (xs ++ else_lines (l ∷ ls)) (one (Skip (suc (length xs)) t) (and_from (clean fs t) true e refl) refl)
        (all-both (is_clean fs) xs (else_lines (l ∷ ls)) h (else-clean (l ∷ ls) g))

    module _ (its : List ℕ) (edge : Bool) (n : ℕ) where
      abbrev Clean : Stmt → Type 0
      Clean st = Each IsClean ((sights_of ds n true st).properties)

      pub lines-clean : (m : ℕ) (st : Stmt) → is_inner_body ds its edge st ≡ true → targets_alike st ≡ true → Clean st → list_all (is_clean fs) (lines_of site m st) ≡ true
      lines-clean m (S.Then a b) f t h =
          let next = m + length (aways ds node a) in
          let g = both-true (is_inner_body ds its edge a) (is_inner_body ds its edge b) f in
          let t2 = both-true (targets_alike a) (targets_alike b) t in
          let r = each-both IsClean ((sights_of ds n true a).properties) ((sights_of ds n true b).properties) h in
          all-both (is_clean fs) (lines_of site m a) (lines_of site next b) (lines-clean m a g.0 t2.0 r.0) (lines-clean next b g.1 t2.1 r.1)
      lines-clean m (S.Declare k x None) f t h = refl
      lines-clean m (S.Declare k x (Some e)) f t h = one (SetRegister (c.register x) (term env k e)) (and_from (clean fs (term env k e)) true (expr-clean k e h) refl) refl
      lines-clean m (S.Assign k (T.Scalar x at) e) f t h = one (SetRegister (c.register x) (term env k e)) (and_from (clean fs (term env k e)) true (expr-clean k e h) refl) refl
      lines-clean m (S.Assign k (T.Property x q at) e) f t h = absurd (both_ways false refl f)
      lines-clean m (S.Combine k total r ts es) f t h =
          reduction-clean m k total r ts (map (term env k) es) (way_of ds node ts) (goes ds node ts (both-true (are_alike ts) (are_distinct (variables_of ts)) t).0)
          (values-clean k es (each-both IsClean ((sights_of_targets ds n true ts).properties) ((sights_in_all es).properties) h).1)
      lines-clean m (S.If k e a b) f t h =
          let next = m + length (aways ds node a) in
          let g2 = both-true (is_inner_body ds its edge a) (is_inner_body ds its edge b) (both-true (is_flat its edge e) (is_inner_body ds its edge a && is_inner_body ds its edge b) f).1 in
          let t2 = both-true (targets_alike a) (targets_alike b) t in
          let ra = (sights_of ds n true a).properties in
          let rb = (sights_of ds n true b).properties in
          let r = each-both IsClean (reads_in e) (ra ++ rb) h in
          let r2 = each-both IsClean ra rb r.1 in
          choice-clean (term env k e) (lines_of site m a) (lines_of site next b) (expr-clean k e r.0) (lines-clean m a g2.0 t2.0 r2.0) (lines-clean next b g2.1 t2.1 r2.1)
      lines-clean m _ f t h = refl
