-- In an each and in the handlers of a block of a program's image each field is folded by one reduction, and neither set nor read where it is folded.
use Rattle.std.proofs.Common.{◌≡◌, ◌<◌, inl, inr, ℕ, suc, Bool, true, false, Option, Some, None, List, [], ◌∷◌, ◌++◌, map, length, refl, ap, ◌∙◌, sym, subst, arith, ⊎_elim}
use Rattle.std.specs.Prelude.{◌+◌, nat_le, nat_eq, ◌⊎◌, ◌&&◌, ◌||◌, not, if◌then◌else◌}
use Rattle.std.specs.List.{list_all, flat_map}
use Rattle.std.proofs.lemmas.Bool.{both_ways, and_from, eq-eqb, not-true}
use Rattle.gm_value.specs.Bag.{IsIn}
use Rattle.gm_value.specs.declared.values.VType.{VType}
use Rattle.gm_value.specs.declared.values.VType.TheVariants as V
use Rattle.gm_value.specs.Numbers.{zero_of}
use Rattle.gm_ast.specs.declared.tree.Declaration.{Declaration}
use Rattle.gm_ast.specs.declared.tree.Direction.{Direction as Arrow}
use Rattle.gm_ast.specs.declared.tree.Direction.TheVariants as D
use Rattle.gm_ast.specs.declared.tree.Head.{Head}
use Rattle.gm_ast.specs.declared.tree.Key.{Key}
use Rattle.gm_ast.specs.declared.tree.Sort.{Sort}
use Rattle.gm_ast.specs.declared.tree.Sort.TheVariants as Sorts
use Rattle.gm_ast.specs.declared.tree.Target.{Target}
use Rattle.gm_ast.specs.declared.tree.Target.TheVariants as T
use Rattle.gm_ast.specs.Loops.{is_nodes}
use Rattle.gm_ast.specs.Program as S
use Rattle.gm_ast.specs.Program.{Expr, Stmt, Program}
use Rattle.gm_forms.proofs.CutLaws.{apart-out}
use Rattle.gm_forms.proofs.Named.{both-true}
use Rattle.gm_forms.specs.Forms.{is_told, is_flat, is_range, is_inner_body, is_inner_head, is_outer_body, is_flat_loop, no_loop, is_phase, is_along, is_home, avoids}
use Rattle.gm_forms.specs.Sharing.{Read, Reduced, sights_in, sights_of, with_reads, reads_in, read_at, read_anywhere, read_elsewhere, written, deferred, reduced, shared_in, kept_in, disjoint, all_agree, all_last_one_way, inner_shares, inners_share, targets_alike, shares_beside, shares, loops_share}
use Rattle.gm_forms.specs.Typing.{has_type, is_typed_in}
use Rattle.gm_forms.specs.Uses.{suits, Use, uses_in, uses_of_head, uses_of}
use Rattle.gm_semantics.specs.Statements.{variable_at}
use Rattle.gm_typed_stores.specs.Values.{Each}
use Rattle.gm_image.specs.declared.rules.ImageRule.TheVariants.{I8}
use Rattle.gm_image.specs.Soundness.{keeps}
use Rattle.gm_image.specs.Folds.{Reduction, folds_of, is_the_one, folds_one_way, folded_fields, reads_none, sets_none, sets_no_field, may_stand, of_other_kinds, handles, combiner_fits, all_fold}
use Rattle.gm_image.specs.Parts.{slots_of}
use Rattle.gm_image.specs.Program as image
use Rattle.gm_image.specs.Program.{Line, SetField, Fold, SetRegister, Put, Send, Skip, Each as EachLine, Step, Handler, Block, Direction}
use Rattle.gm_image.specs.Rows.{Row, InputRow, OutputRow, LineRow, outside, body_rows, block_rows, handled_lines}
use Rattle.gm_image.specs.Sorts.{kind_at}
use Rattle.gm_image.specs.Term as M
use Rattle.gm_image.specs.Term.{Term}
use Rattle.gm_lowering.specs.Blocks.{body_block, load_term, message_value, message_values, receiver_env, own_site, each_site, receiver_site, taking_handler, taking_handlers, taking_blocks, direction_of, is_read_first, zero_line, zero_lines, own_loop, each_loop, message_loop, loop}
use Rattle.gm_lowering.specs.Bodies.{under, lines_of, image_targets}
use Rattle.gm_lowering.specs.Layouts.{Layout, layout, rank, has_field, those, is_register, is_global}
use Rattle.gm_lowering.specs.Lowered.{lowered, kind_of}
use Rattle.gm_lowering.specs.Lowered as L
use Rattle.gm_lowering.specs.Lowered.{Frame, part, past, lines_on, places_on, deeper, declared_part, test_lines, body_part, start}
use Rattle.gm_lowering.specs.Places.{Segment, segment, spot_at, spots_in, shown_places, total_index}
use Rattle.gm_lowering.specs.Plans.{Away, aways, carried, is_here, is_senders, gives_last, planned, Load, SenderItself, SenderProperty, SenderDegree}
use Rattle.gm_lowering.specs.Terms.{term, master_env, own_env, each_env, own_degree, vertex_scalar}
use Rattle.gm_lowering_master.proofs.Ranks.{field-declared}
use Rattle.gm_sound_lowering.specs.Types.{is_placed}
use Rattle.gm_sound_lowering.specs.Laws.{FoldsGoOneWay}
use Rattle.gm_sound_lowering.proofs.BlockRows.{At, flat_at, each_at, handler_at, LinesPass, flat-rows, each-rows, HandlersPass, body-rows, taking-rows, under-cases}
use Rattle.gm_sound_lowering.proofs.Folds.{no-leaf, flat-folds, plans-handle, lesser-kinds}
use Rattle.gm_sound_lowering.proofs.FoldLines.{folds, folds-both, slots-of-all, clean, is_clean, fold, lines-fold, sent-slots, takings-fold, ends-ranked, fold-through, sent-through, IsRead, expr-reads, body-reads, expr-clean, lines-clean}
use Rattle.gm_sound_lowering.proofs.FoldWays.{ends_in, is_fold, is_sent, aways-end, IsOf, IsSome, AtNode, folds-of, folds-agree, inner-sent-agree, own-sent-agree}
use Rattle.gm_sound_lowering.proofs.Leaves.{each-both, each-join, placed-split, body-placed}
use Rattle.gm_sound_lowering.proofs.OneWay.{Combined, AllAgree, AreRanked, OneWay, agree-one-way}
use Rattle.gm_sound_lowering.proofs.PutBlocks.{one-way-split}
use Rattle.gm_sound_lowering.proofs.PutLines.{nothing-behind}
use Rattle.gm_sound_lowering.proofs.Puts.{AreOf, in-left, in-right}
use Rattle.gm_sound_lowering.proofs.Reductions.{IsRanked, Apart, not-among}
use Rattle.gm_sound_lowering.proofs.Rowwise.{all-both, all-mapped, all-always, after-always, no-commands, rows-pass}
use Rattle.gm_sound_lowering.proofs.Spans.{Stay, lines-stay, under-stays, stay-no_each}

-- ---- the rule, line by line

abbrev handled : List Handler → List Line
handled hs = flat_map (λ h. h.lines) hs

sets-none-of : (fs : List ℕ) (l : Line) → sets_no_field l ≡ true → sets_none fs l ≡ true
sets-none-of fs (SetField g a) h = absurd (both_ways false refl h)
sets-none-of fs (Fold r q ts) h = refl
sets-none-of fs (SetRegister r a) h = refl
sets-none-of fs (Put r q ts) h = refl
sets-none-of fs (Send k to vs) h = refl
sets-none-of fs (Skip n a) h = refl
sets-none-of fs (EachLine d n) h = refl

stands : (k : Option ℕ) (l : Line) → sets_no_field l ≡ true → may_stand k l ≡ true
stands None l h = refl
stands (Some k) l h = h

folds-last : (before : List Line) (l : Line) (rs : List Reduction) → folds_of l ≡ rs → folds (before ++ l ∷ []) ≡ folds before ++ rs
folds-last before l rs e = folds-both before (l ∷ []) ∙ ap (λ us. folds before ++ us) (nothing-behind (folds_of l) ∙ e)

module _ (i : image.Program) where
  abbrev f : Row → Bool
  f = all_fold i

  flat-pass : (before earlier ls : List Line) → LinesPass f flat_at before earlier ls
  flat-pass before earlier [] = tt
  flat-pass before earlier (l ∷ ls) = (flat-folds before earlier ls l, flat-pass (before ++ l ∷ []) (earlier ++ l ∷ []) ls)

  -- lines that are clean of what is folded around them, each of which goes the way of those before it
  module _ (at : At) (all : List Line) (past : List Line → List Line → List Line)
      (lines : (b e r : List Line) → (at b e r).around.lines ≡ all) (same : (b e r : List Line) → (at b e r).around.before ≡ past b e) (next : (b e : List Line) (l : Line) → past (b ++ l ∷ []) (e ++ l ∷ []) ≡ past b e ++ l ∷ []) where
    line : (b e r : List Line) (l : Line) → folds_one_way (past b e) l ≡ true → is_clean (folded_fields all) l ≡ true → f (LineRow (at b e r) l) ≡ true
    line b e r l o h =
        let s = at b e r in
        let c = both-true (reads_none (folded_fields all) l) (sets_no_field l) h in
        and_from ((may_stand s.kind l && folds_one_way s.around.before l) && reads_none (folded_fields s.around.lines) l) (sets_none (folded_fields s.around.lines) l)
        (and_from (may_stand s.kind l && folds_one_way s.around.before l) (reads_none (folded_fields s.around.lines) l)
        (and_from (may_stand s.kind l) (folds_one_way s.around.before l) (stands s.kind l c.1) (ap (λ xs. folds_one_way xs l) (same b e r) ∙ o))
        (ap (λ xs. reads_none (folded_fields xs) l) (lines b e r) ∙ c.0))
        (sets-none-of (folded_fields s.around.lines) l c.1)

    lines-pass : (before earlier ls : List Line) → OneWay (folds (past before earlier)) (folds ls) → list_all (is_clean (folded_fields all)) ls ≡ true → LinesPass f at before earlier ls
    lines-pass before earlier [] h c = tt
    lines-pass before earlier (l ∷ ls) h c =
        let c2 = both-true (is_clean (folded_fields all) l) (list_all (is_clean (folded_fields all)) ls) c in
        by l h c2.0 (λ o. lines-pass (before ++ l ∷ []) (earlier ++ l ∷ []) ls o c2.1) where
          quiet : (l : Line) → folds_of l ≡ [] → OneWay (folds (past before earlier)) (folds ls) → is_clean (folded_fields all) l ≡ true → (OneWay (folds (past (before ++ l ∷ []) (earlier ++ l ∷ []))) (folds ls) → LinesPass f at (before ++ l ∷ []) (earlier ++ l ∷ []) ls)
              → LinesPass f at before earlier (l ∷ ls)
          quiet l e h c k =
              let before2 : folds (past (before ++ l ∷ []) (earlier ++ l ∷ [])) ≡ folds (past before earlier) = ap folds (next before earlier l) ∙ folds-last (past before earlier) l [] e ∙ nothing-behind (folds (past before earlier)) in
              (line before earlier ls l (ap (list_all (is_the_one (folds (past before earlier)))) e) c, k (subst (λ xs. OneWay xs (folds ls)) (sym before2) h))

          by : (l : Line) → OneWay (folds (past before earlier)) (folds (l ∷ ls)) → is_clean (folded_fields all) l ≡ true → (OneWay (folds (past (before ++ l ∷ []) (earlier ++ l ∷ []))) (folds ls) → LinesPass f at (before ++ l ∷ []) (earlier ++ l ∷ []) ls)
              → LinesPass f at before earlier (l ∷ ls)
          by (Fold r q ts) h c k =
              let x : Reduction = record { reduce = r; slots = slots_of ts } in
              let before2 : folds (past (before ++ Fold r q ts ∷ []) (earlier ++ Fold r q ts ∷ [])) ≡ folds (past before earlier) ++ x ∷ [] = ap folds (next before earlier (Fold r q ts)) ∙ folds-last (past before earlier) (Fold r q ts) (x ∷ []) refl in
              (line before earlier ls (Fold r q ts) (and_from (is_the_one (folds (past before earlier)) x) true h.0 refl) c, k (subst (λ xs. OneWay xs (folds ls)) (sym before2) h.1))
          by (SetField g a) h c k = quiet (SetField g a) refl h c k
          by (SetRegister r a) h c k = quiet (SetRegister r a) refl h c k
          by (Put r q ts) h c k = quiet (Put r q ts) refl h c k
          by (Send m to vs) h c k = quiet (Send m to vs) refl h c k
          by (Skip n a) h c k = quiet (Skip n a) refl h c k
          by (EachLine d n) h c k = quiet (EachLine d n) refl h c k

  abbrev BlockFolds : Block → Type 0
  BlockFolds b = list_all f (block_rows b) ≡ true

  flat-block : (ls : List Line) → Stay ls → BlockFolds (body_block ls)
  flat-block ls st = body-rows f ls refl (flat-rows f [] [] ls (stay-no_each ls st) (flat-pass [] [] ls))

  each-pass : (d : Direction) (earlier ls : List Line) → OneWay [] (folds ls) → list_all (is_clean (folded_fields ls)) ls ≡ true → LinesPass f (each_at d ls) [] earlier ls
  each-pass d earlier ls o c = lines-pass (each_at d ls) ls (λ b e. b) (λ b e r. refl) (λ b e r. refl) (λ b e l. refl) [] earlier ls o c

  handler-pass : (kind : ℕ) (all earlier ls : List Line) → OneWay (folds earlier) (folds ls) → list_all (is_clean (folded_fields all)) ls ≡ true → LinesPass f (handler_at kind all) [] earlier ls
  handler-pass kind all earlier ls o c = lines-pass (handler_at kind all) all (λ b e. e) (λ b e r. refl) (λ b e r. refl) (λ b e l. refl) [] earlier ls o c

  each-block : (t : Term) (d : Direction) (ls : List Line) → OneWay [] (folds ls) → list_all (is_clean (folded_fields ls)) ls ≡ true → BlockFolds (body_block (under t (EachLine d (length ls) ∷ ls)))
  each-block t d ls o c = body-rows f (under t (EachLine d (length ls) ∷ ls)) refl (by (under-cases t (EachLine d (length ls) ∷ ls))) where
    line : Line
    line = EachLine d (length ls)

    alone : (earlier : List Line) → list_all f (body_rows earlier outside (EachLine d (length ls) ∷ ls)) ≡ true
    alone earlier = each-rows f d earlier ls (flat-folds [] earlier ls (EachLine d (length ls))) (each-pass d (earlier ++ EachLine d (length ls) ∷ []) ls o c)

    skip : Line
    skip = Skip (suc (length ls)) t

    by : (under t (EachLine d (length ls) ∷ ls) ≡ EachLine d (length ls) ∷ ls) ⊎ (under t (EachLine d (length ls) ∷ ls) ≡ Skip (suc (length ls)) t ∷ (EachLine d (length ls) ∷ ls))
        → list_all f (body_rows [] outside (under t (EachLine d (length ls) ∷ ls))) ≡ true
    by q = ⊎_elim (λ (e : under t (EachLine d (length ls) ∷ ls) ≡ EachLine d (length ls) ∷ ls). subst (λ ms. list_all f (body_rows [] outside ms) ≡ true) (sym e) (alone []))
        (λ (e : under t (EachLine d (length ls) ∷ ls) ≡ Skip (suc (length ls)) t ∷ (EachLine d (length ls) ∷ ls)).
        subst (λ ms. list_all f (body_rows [] outside ms) ≡ true) (sym e)
        (and_from (f (LineRow (flat_at [] [] (EachLine d (length ls) ∷ ls)) (Skip (suc (length ls)) t))) _ (flat-folds [] [] (EachLine d (length ls) ∷ ls) (Skip (suc (length ls)) t)) (alone (Skip (suc (length ls)) t ∷ [])))) q

under-folds : (t : Term) (ls : List Line) → folds (under t ls) ≡ folds ls
under-folds t ls = ⊎_elim (λ (e : under t ls ≡ ls). ap folds e) (λ (e : under t ls ≡ Skip (length ls) t ∷ ls). ap folds e) (under-cases t ls)

under-clean : (fs : List ℕ) (t : Term) (ls : List Line) → clean fs t ≡ true → list_all (is_clean fs) ls ≡ true → list_all (is_clean fs) (under t ls) ≡ true
under-clean fs t ls h c =
    ⊎_elim (λ (e : under t ls ≡ ls). subst (λ xs. list_all (is_clean fs) xs ≡ true) (sym e) c)
    (λ (e : under t ls ≡ Skip (length ls) t ∷ ls). subst (λ xs. list_all (is_clean fs) xs ≡ true) (sym e)
    (and_from (is_clean fs (Skip (length ls) t)) (list_all (is_clean fs) ls) (and_from (reads_none fs (Skip (length ls) t)) true (and_from (clean fs t) true h refl) refl) c)) (under-cases t ls)

-- ---- what loops share

each-from : {A : Type 0} (P Q : A → Type 0) (xs : List A) → Each P xs → ((x : A) → IsIn x xs → P x → Q x) → Each Q xs
each-from P Q [] h k = tt
each-from P Q (x ∷ xs) h k = (k x (inl refl) h.0, each-from P Q xs h.1 (λ y i. k y (inr i)))

in-either : {A : Type 0} (xs ys : List A) (x : A) → IsIn x (xs ++ ys) → IsIn x xs ⊎ IsIn x ys
in-either [] ys x i = inr i
in-either (z ∷ xs) ys x i =
    ⊎_elim (λ (e : x ≡ z). inl (inl e)) (λ (j : IsIn x (xs ++ ys)). ⊎_elim (λ (k : IsIn x xs). inl (inr k)) (λ (k : IsIn x ys). inr k) (in-either xs ys x j)) i

read-any : (rs : List Read) (r : Read) → IsIn r rs → IsIn r.property (read_anywhere rs)
read-any [] r i = absurd i
read-any (s ∷ rs) r i = ⊎_elim (λ (e : r ≡ s). inl (ap (λ z. z.property) e)) (λ (j : IsIn r rs). inr (read-any rs r j)) i

read-here : (n : ℕ) (rs : List Read) (r : Read) → IsIn r rs → nat_eq r.owner n ≡ true → IsIn r.property (read_at n rs)
read-here n [] r i h = absurd i
read-here n (s ∷ rs) r i h = by (λ j. read-here n rs r j h) (nat_eq s.owner n) refl i where
  by : (IsIn r rs → IsIn r.property (read_at n rs)) → (b : Bool) → nat_eq s.owner n ≡ b → IsIn r (s ∷ rs) → IsIn r.property (if b then s.property ∷ read_at n rs else read_at n rs)
  by rest true e i = ⊎_elim (λ (g : r ≡ s). inl (ap (λ z. z.property) g)) (λ (j : IsIn r rs). inr (rest j)) i
  by rest false e i = ⊎_elim (λ (g : r ≡ s). absurd (both_ways (nat_eq s.owner n) e (ap (λ z. nat_eq z.owner n) (sym g) ∙ h))) (λ (j : IsIn r rs). rest j) i

in-shared : (rs : List Reduced) (r : Reduced) (x : ℕ) → IsIn r rs → IsIn x r.shared → IsIn x (shared_in rs)
in-shared [] r x i j = absurd i
in-shared (s ∷ rs) r x i j =
    ⊎_elim (λ (e : r ≡ s). in-left s.shared (shared_in rs) x (subst (λ z. IsIn x z.shared) e j)) (λ (k : IsIn r rs). in-right s.shared (shared_in rs) x (in-shared rs r x k j)) i

in-kept : (rs : List Reduced) (r : Reduced) (x : ℕ) → IsIn r rs → IsIn x r.kept → IsIn x (kept_in rs)
in-kept [] r x i j = absurd i
in-kept (s ∷ rs) r x i j =
    ⊎_elim (λ (e : r ≡ s). in-left s.kept (kept_in rs) x (subst (λ z. IsIn x z.kept) e j)) (λ (k : IsIn r rs). in-right s.kept (kept_in rs) x (in-kept rs r x k j)) i

-- the variables of some reductions
abbrev variables_in : List Combined → List ℕ
variables_in qs = flat_map (λ q. q.variables) qs

module _ (ds : List Declaration) (n m : ℕ) where
  all-kept : nat_eq m n ≡ true → (rs : List Reduced) (qs : List Combined) → AreOf (IsSome (AtNode ds n m)) rs qs → (x : ℕ) → IsIn x (variables_in qs) → IsIn x (kept_in rs)
  all-kept h rs [] k x i = absurd i
  all-kept h rs (q ∷ qs) k x i =
      ⊎_elim (λ (j : IsIn x q.variables). in-kept rs k.0.0 x k.0.1 (subst (IsIn x) (sym (by k.0.2.0 (k.0.2.1 ∙ h) k.0.2.2)) j)) (λ (j : IsIn x (variables_in qs)). all-kept h rs qs k.1 x j) (in-either q.variables (variables_in qs) x i) where
        by : (own : Bool) → own ≡ true → IsOf own q k.0.0 → k.0.0.kept ≡ q.variables
        by true e o = o.kept
        by false e o = absurd (both_ways false refl e)

  all-shared : nat_eq m n ≡ false → (rs : List Reduced) (qs : List Combined) → AreOf (IsSome (AtNode ds n m)) rs qs → (x : ℕ) → IsIn x (variables_in qs) → IsIn x (shared_in rs)
  all-shared h rs [] k x i = absurd i
  all-shared h rs (q ∷ qs) k x i =
      ⊎_elim (λ (j : IsIn x q.variables). in-shared rs k.0.0 x k.0.1 (subst (IsIn x) (sym (by k.0.2.0 (k.0.2.1 ∙ h) k.0.2.2)) j)) (λ (j : IsIn x (variables_in qs)). all-shared h rs qs k.1 x j) (in-either q.variables (variables_in qs) x i) where
        by : (own : Bool) → own ≡ false → IsOf own q k.0.0 → k.0.0.shared ≡ q.variables
        by false e o = o.shared
        by true e o = absurd (both_ways true e refl)

-- what is asked of a loop: its reductions agree, its inner loops share, its targets are alike, and what its iterations share is not read
abbrev pub Shared : List Declaration → ℕ → Expr → Stmt → Type 0
Shared ds n test body =
    (all_agree (reduced ds n false body) ≡ true) × (inners_share ds n body ≡ true) × (targets_alike body ≡ true)
    × (disjoint (shared_in (reduced ds n false body)) (read_anywhere (reads_in test ++ (sights_of ds n false body).properties) ++ ((with_reads (sights_in test) (sights_of ds n false body)).scalars ++ written ds n false body)) ≡ true)

pub shared-parts : (ds : List Declaration) (elsewhere : List ℕ) (n : ℕ) (test : Expr) (body : Stmt) → shares_beside elsewhere ds n test body ≡ true → Shared ds n test body
shared-parts ds elsewhere n test body h =
    let seen = with_reads (sights_in test) (sights_of ds n false body) in
    let all = reduced ds n false body in
    let own = written ds n false body in
    let a = both-true (disjoint (shared_in all) (read_anywhere seen.properties ++ (seen.scalars ++ own))) _ h in
    let b = both-true (disjoint (own ++ kept_in all) elsewhere) _ a.1 in
    let c = both-true (disjoint (deferred body) (own ++ (shared_in all ++ kept_in all))) _ b.1 in
    let d = both-true (all_agree all) _ c.1 in
    let e = both-true (inners_share ds n body) (targets_alike body) d.1 in (d.0, e.0, e.1, a.0)

-- an inner loop that is evaluated at the outer node reads through it alone
here-reads : (ds : List Declaration) (n : ℕ) (h : Head) (test : Expr) (body : Stmt) → is_here ds n h test body ≡ true → (is_flat (n ∷ []) (is_along h.domain) test ≡ true) × (is_inner_body ds (n ∷ []) (is_along h.domain) body ≡ true)
here-reads ds n h test body e = by (is_home ds n h test body) refl e where
  by : (b : Bool) → is_home ds n h test body ≡ b → b || is_senders ds n h test body ≡ true → (is_flat (n ∷ []) (is_along h.domain) test ≡ true) × (is_inner_body ds (n ∷ []) (is_along h.domain) body ≡ true)
  by true f e =
      let q = both-true (is_flat (n ∷ []) (is_along h.domain) test) (is_inner_body ds (n ∷ []) (is_along h.domain) body && avoids h.iterator body) f in (q.0, (both-true (is_inner_body ds (n ∷ []) (is_along h.domain) body) (avoids h.iterator body) q.1).0)
  by false f e =
      let q = both-true (is_flat (n ∷ []) (is_along h.domain) test) (is_inner_body ds (n ∷ []) (is_along h.domain) body && gives_last ds h.iterator body) e in
      (q.0, (both-true (is_inner_body ds (n ∷ []) (is_along h.domain) body) (gives_last ds h.iterator body) q.1).0)

-- ---- the blocks of loops

module _ (p : Program) where
  abbrev ds : List Declaration
  ds = p.declarations

  abbrev c : Layout
  c = layout p

  abbrev i : image.Program
  i = lowered p

  abbrev Named : List Use → Type 0
  Named us = list_all (is_placed p) us ≡ true

  abbrev all_blocks : List Block → Bool
  all_blocks bs = list_all (λ b. list_all (all_fold i) (block_rows b)) bs

  -- ---- what is taken

  taken-clean : (fs : List ℕ) (j : ℕ) (ts : List Target) → list_all (clean fs) (message_values j ts) ≡ true
  taken-clean fs j [] = refl
  taken-clean fs j (t ∷ ts) = taken-clean fs (suc j) ts

  handlers-pass : (g : Segment) (m : ℕ) (xs : List Away) (all earlier : List Line) (before : List Handler) → Each (λ h. h.kind < m) before → OneWay (folds earlier) (folds (handled (taking_handlers c g m xs)))
      → HandlersPass (all_fold i) all earlier before (taking_handlers c g m xs)
  handlers-pass g m [] all earlier before k h = tt
  handlers-pass g m (a ∷ more) all earlier before k h =
      let x = taking_handler c g m a in
      let rest = handled (taking_handlers c g (suc m) more) in
      let split = one-way-split (folds earlier) (folds x.lines) (folds rest) (subst (OneWay (folds earlier)) (folds-both x.lines rest) h) in (
        and_from (of_other_kinds m before) (handles (kind_at i (Some m)) x.lines) (lesser-kinds m before k) (plans-handle (planned p).kinds m x.lines),
        handler-pass i m all earlier x.lines split.0 (lines (folded_fields all)),
        handlers-pass g (suc m) more all (earlier ++ x.lines) (before ++ x ∷ [])
            (each-join (λ h. h.kind < suc m) before (x ∷ []) (each-from (λ h. h.kind < m) (λ h. h.kind < suc m) before k (λ h i lt. omega (arith, lt))) (omega arith, tt))
            (subst (λ xs. OneWay xs (folds rest)) (sym (folds-both earlier x.lines)) split.1),
      ) where
        terms : (fs : List ℕ) (j : ℕ) (ts : List Target) → list_all (clean fs) (map (λ t. t.term) (image_targets c ts (message_values j ts))) ≡ true
        terms fs j [] = refl
        terms fs j (t ∷ ts) = terms fs (suc j) ts

        lines : (fs : List ℕ) → list_all (is_clean fs) (taking_handler c g m a).lines ≡ true
        lines fs = and_from (is_clean fs (Fold a.reduce (total_index g a.total) (image_targets c a.targets (message_values 0 a.targets)))) true (and_from (reads_none fs (Fold a.reduce (total_index g a.total) (image_targets c a.targets (message_values 0 a.targets)))) true (terms fs 0 a.targets) refl) refl

  takings-fold-so : (g : Segment) (m node : ℕ) (st : Stmt) → Named (uses_of st) → targets_alike st ≡ true → AllAgree (ends_in is_sent ds node st) → all_blocks (taking_blocks c g m (aways ds node st)) ≡ true
  takings-fold-so g m node st u t a = by (aways ds node st) one-way where
    one-way : OneWay [] (folds (handled (taking_handlers c g m (aways ds node st))))
    one-way =
        subst (OneWay []) (sym (takings-fold p g m (aways ds node st) (sent-slots p node st u t) ∙ ap (map (fold p)) (aways-end ds node st)))
        (agree-one-way (has_field p) (length ds) [] (ends_in is_sent ds node st) tt (ends-ranked p node is_sent (sent-through p node) st u t) tt a)

    by : (xs : List Away) → OneWay [] (folds (handled (taking_handlers c g m xs))) → all_blocks (taking_blocks c g m xs) ≡ true
    by [] h = refl
    by (x ∷ xs) h =
        let b : Block = record { handlers = taking_handlers c g m (x ∷ xs); body = [] } in
        and_from _ true (taking-rows (all_fold i) b.handlers refl (handlers-pass g m (x ∷ xs) (handled_lines b) [] [] tt h)) refl

  -- ---- what is read where an inner body is evaluated

  module _ (fs : List ℕ) where
    vertex-clean : (x : ℕ) → clean fs (vertex_scalar c x) ≡ true
    vertex-clean x = by (is_register (variable_at ds x)) (is_global (variable_at ds x)) where
      by : (a b : Bool) → clean fs (if a then M.Register (c.register x) else (if b then M.Global (c.global x) else M.Const (zero_of (variable_at ds x).vtype))) ≡ true
      by true b = refl
      by false true = refl
      by false false = refl

    own-clean : (g : Segment) (n x : ℕ) → clean fs ((own_env c g n).scalar x) ≡ true
    own-clean g n x = by (nat_eq x n) where
      by : (b : Bool) → clean fs (if b then M.Self else vertex_scalar c x) ≡ true
      by true = refl
      by false = vertex-clean x

    each-clean : (g : Segment) (n it x : ℕ) → clean fs ((each_env c g n it).scalar x) ≡ true
    each-clean g n it x = by (nat_eq x it) where
      by : (b : Bool) → clean fs (if b then M.Neighbour else (own_env c g n).scalar x) ≡ true
      by true = refl
      by false = own-clean g n x

    degree-clean : (d : Arrow) → clean fs (own_degree d) ≡ true
    degree-clean D.Out = refl
    degree-clean D.In = refl

    message-clean : (b : Bool) (loads : List Load) (l : Load) (a : Term) → clean fs a ≡ true → clean fs (if b then message_value loads l else a) ≡ true
    message-clean true loads l a h = refl
    message-clean false loads l a h = h

  none-read : (vars : List ℕ) → Each (IsRanked (has_field p) (length ds)) vars → (q : ℕ) → has_field p q ≡ true → (IsIn q vars → ⊥) → clean (map (rank (has_field p)) vars) (M.Field (c.field q)) ≡ true
  none-read vars h q k out = ap not (not-among (has_field p) (length ds) q vars (field-declared p q k, k) h (apart vars out)) where
    apart : (xs : List ℕ) → (IsIn q xs → ⊥) → Apart xs q
    apart [] out = tt
    apart (y ∷ ys) out = ((λ (e : y ≡ q). out (inl (sym e))), apart ys (λ j. out (inr j)))

  vars-ranked : (qs : List Combined) → Each (AreRanked (has_field p) (length ds)) qs → Each (IsRanked (has_field p) (length ds)) (variables_in qs)
  vars-ranked [] h = tt
  vars-ranked (q ∷ qs) h = each-join (IsRanked (has_field p) (length ds)) q.variables (variables_in qs) h.0 (vars-ranked qs h.1)

  -- the fields that an inner body folds
  abbrev fields_of : ℕ → Stmt → List ℕ
  fields_of node body = map (rank (has_field p)) (variables_in (ends_in is_fold ds node body))

  fields-are : (ls : List Line) (node : ℕ) (body : Stmt) → folds ls ≡ map (fold p) (ends_in is_fold ds node body) → folded_fields ls ≡ fields_of node body
  fields-are ls node body e = ap (flat_map (λ r. r.slots)) e ∙ slots-of-all (has_field p) (length ds) (ends_in is_fold ds node body)

  folds-ranked : (node : ℕ) (body : Stmt) → Named (uses_of body) → targets_alike body ≡ true → Each (AreRanked (has_field p) (length ds)) (ends_in is_fold ds node body)
  folds-ranked node body u t = ends-ranked p node is_fold (fold-through p node) body u t

  body-one-way : (result : Option VType) (n node : ℕ) (body : Stmt) (ls : List Line) → folds ls ≡ map (fold p) (ends_in is_fold ds node body) → is_typed_in ds result body ≡ true → Named (uses_of body) → targets_alike body ≡ true
      → all_last_one_way (reduced ds n true body) ≡ true → OneWay [] (folds ls)
  body-one-way result n node body ls e y u t a =
      subst (OneWay []) (sym e) (agree-one-way (has_field p) (length ds) [] (ends_in is_fold ds node body) tt (folds-ranked node body u t) tt (folds-agree ds n node result body y t a))

  own-folds : (result : Option VType) (base m n : ℕ) (k : Key) (test : Expr) (body : Stmt) → is_typed_in ds result body ≡ true → Named (uses_of body) → Shared ds n test body → all_blocks (own_loop c base m n k test body).blocks ≡ true
  own-folds result base m n k test body y u s =
      let g = (own_loop c base m n k test body).segment in
      let t = term (own_env c g n) k test in
      let ls = lines_of (own_site c g n) m body in
      and_from _ (all_blocks (taking_blocks c g m (aways ds n body))) (flat-block i (under t ls) (under-stays t ls (lines-stay (own_site c g n) m body))) (takings-fold-so g m n body u s.2 (own-sent-agree ds n result body y s.2 s.0))

  zeros-fold : (xs : List ℕ) → folds (map (zero_line c) xs) ≡ []
  zeros-fold [] = refl
  zeros-fold (x ∷ xs) = zeros-fold xs

  zeros-clean : (fs xs : List ℕ) → list_all (is_clean fs) (map (zero_line c) xs) ≡ true
  zeros-clean fs [] = refl
  zeros-clean fs (x ∷ xs) = zeros-clean fs xs

  or-false : (b : Bool) → b || false ≡ true → b ≡ true
  or-false true h = refl
  or-false false h = h

  each-folds : (result : Option VType) (base m n : ℕ) (k : Key) (mask : Expr) (j : Key) (h : Head) (test : Expr) (body : Stmt) → is_here ds n h test body ≡ true → is_typed_in ds result body ≡ true → Named (uses_in test) → Named (uses_of body)
      → inner_shares ds n test body ≡ true → targets_alike body ≡ true → all_blocks (each_loop c base m n k mask j h test body).blocks ≡ true
  each-folds result base m n k mask j h test body here y ut u s al =
      let g = (each_loop c base m n k mask j h test body).segment in
      let it = h.iterator in
      let env = each_env c g n it in
      let t = term env j test in
      let zs = zero_lines c body in
      let ls = lines_of (each_site c g n it) m body in
      let all = under t (zs ++ ls) in
      let fold-all : folds all ≡ map (fold p) (ends_in is_fold ds n body) =
      under-folds t (zs ++ ls) ∙ folds-both zs ls ∙ ap (λ us. us ++ folds ls) (zeros-fold (those (is_read_first c body) (length ds))) ∙ lines-fold p env n (n ∷ (it ∷ [])) false result m body y u al in
      let fs = fields_of n body in
      let flat = here-reads ds n h test body here in
      let reads = reads_in test ++ (sights_of ds n true body).properties in
      let parts = both-true (disjoint (kept_in (reduced ds n true body)) (read_at n reads ++ (with_reads (sights_in test) (sights_of ds n true body)).scalars)) (all_last_one_way (reduced ds n true body)) s in
      let qs = ends_in is_fold ds n body in
      let kept = all-kept ds n n (eq-eqb n n refl) (reduced ds n true body) qs (folds-of ds n n result body y al) in
      let Clean : Read → Type 0 = λ r. clean fs (env.property r.owner r.property) ≡ true in
      let split : Each Clean (reads_in test ++ (sights_of ds n true body).properties) =
      each-from (IsRead p (n ∷ []) (is_along h.domain)) Clean reads
      (each-join (IsRead p (n ∷ []) (is_along h.domain)) (reads_in test) ((sights_of ds n true body).properties) (expr-reads p (n ∷ []) (is_along h.domain) test flat.0 ut) (body-reads p (n ∷ []) (is_along h.domain) n body flat.1 u))
      (λ r i rd. none-read (variables_in qs) (vars-ranked qs (folds-ranked n body u al)) r.property rd.1
      (λ j. apart-out (kept_in (reduced ds n true body)) (read_at n reads ++ (with_reads (sights_in test) (sights_of ds n true body)).scalars) r.property parts.0 (kept r.property j) (in-left (read_at n reads) (with_reads (sights_in test) (sights_of ds n true body)).scalars r.property (read-here n reads r i (or-false (nat_eq r.owner n) rd.0))))) in
      let cleans = each-both Clean (reads_in test) ((sights_of ds n true body).properties) split in
      let lines : list_all (is_clean fs) all ≡ true =
      under-clean fs t (zs ++ ls) (expr-clean p fs env n (n ∷ (it ∷ [])) false (each-clean fs g n it) (λ q. refl) (λ d x. degree-clean fs d) j test cleans.0)
      (all-both (is_clean fs) zs ls (zeros-clean fs (those (is_read_first c body) (length ds)))
      (lines-clean p fs env n (n ∷ (it ∷ [])) false (each-clean fs g n it) (λ q. refl) (λ d x. degree-clean fs d) (n ∷ []) (is_along h.domain) n m body flat.1 al cleans.1)) in
      and_from _ (all_blocks (taking_blocks c g m (aways ds n body)))
      (each-block i (term (own_env c g n) k mask) (direction_of h.domain) all (body-one-way result n n body all fold-all y u al parts.1) (subst (λ xs. list_all (is_clean xs) all ≡ true) (sym (fields-are all n body fold-all)) lines))
      (takings-fold-so g m n body u al (inner-sent-agree ds n n result body y al parts.1))

  message-folds : (result : Option VType) (base m n : ℕ) (k : Key) (mask : Expr) (j : Key) (h : Head) (test : Expr) (body : Stmt) → nat_eq h.iterator n ≡ false → is_flat (n ∷ (h.iterator ∷ [])) true test ≡ true
      → is_inner_body ds (n ∷ (h.iterator ∷ [])) true body ≡ true → is_typed_in ds result body ≡ true → Named (uses_in test) → Named (uses_of body)
      → (others : List ℕ) → disjoint (shared_in (reduced ds n true body)) (read_anywhere (reads_in mask ++ (reads_in test ++ (sights_of ds n true body).properties)) ++ others) ≡ true
      → inner_shares ds n test body ≡ true → targets_alike body ≡ true → all_blocks (message_loop c base m n k mask j h test body).blocks ≡ true
  message-folds result base m n k mask j h test body apart ft fb y ut u others d s al =
      let g = (message_loop c base m n k mask j h test body).segment in
      let it = h.iterator in
      let its = n ∷ (it ∷ []) in
      let loads = carried n test body in
      let env = receiver_env c g n it loads in
      let t = term env j test in
      let ls = lines_of (receiver_site c g n it loads) (suc m) body in
      let sends = Send m M.Neighbour (map (load_term c) loads) ∷ [] in
      let lines = under t ls in
      let handler : Handler = record { kind = m; lines = lines } in
      let all = lines ++ [] in
      let fold-lines : folds lines ≡ map (fold p) (ends_in is_fold ds it body) = under-folds t ls ∙ lines-fold p env it its false result (suc m) body y u al in
      let fold-all : folds all ≡ map (fold p) (ends_in is_fold ds it body) = ap folds (nothing-behind lines) ∙ fold-lines in
      let fs = fields_of it body in
      let bodies = (sights_of ds n true body).properties in
      let reads = reads_in test ++ bodies in
      let parts = both-true (disjoint (kept_in (reduced ds n true body)) (read_at n reads ++ (with_reads (sights_in test) (sights_of ds n true body)).scalars)) (all_last_one_way (reduced ds n true body)) s in
      let qs = ends_in is_fold ds it body in
      let shared = all-shared ds n it apart (reduced ds n true body) qs (folds-of ds n it result body y al) in
      let Clean : Read → Type 0 = λ r. clean fs (env.property r.owner r.property) ≡ true in
      let split : Each Clean reads =
      each-from (IsRead p its true) Clean reads (each-join (IsRead p its true) (reads_in test) bodies (expr-reads p its true test ft ut) (body-reads p its true n body fb u))
      (λ r i rd. message-clean fs (nat_eq r.owner n) loads (SenderProperty r.property) (M.Field (c.field r.property)) (none-read (variables_in qs) (vars-ranked qs (folds-ranked it body u al)) r.property rd.1
      (λ j. apart-out (shared_in (reduced ds n true body)) (read_anywhere (reads_in mask ++ reads) ++ others) r.property d (shared r.property j)
      (in-left (read_anywhere (reads_in mask ++ reads)) others r.property (read-any (reads_in mask ++ reads) r (in-right (reads_in mask) reads r i)))))) in
      let cleans = each-both Clean (reads_in test) bodies split in
      let scalar : (x : ℕ) → clean fs (env.scalar x) ≡ true = λ x. message-clean fs (nat_eq x n) loads SenderItself ((own_env c g it).scalar x) (own-clean fs g it x) in
      let degree : (d : Arrow) (x : ℕ) → clean fs (env.degree d x) ≡ true = λ d x. message-clean fs (nat_eq x n) loads (SenderDegree d) (own_degree d) (degree-clean fs d) in
      let lines-so : list_all (is_clean fs) lines ≡ true =
      under-clean fs t ls (expr-clean p fs env it its false scalar (λ q. refl) degree j test cleans.0) (lines-clean p fs env it its false scalar (λ q. refl) degree its true n (suc m) body fb al cleans.1) in
      and_from _ _ (each-block i (term (own_env c g n) k mask) (direction_of h.domain) sends tt
      (and_from (is_clean [] (Send m M.Neighbour (map (load_term c) loads))) true (and_from (reads_none [] (Send m M.Neighbour (map (load_term c) loads))) true (all-always (clean []) no-leaf (M.Neighbour ∷ map (load_term c) loads)) refl) refl))
      (and_from _ (all_blocks (taking_blocks c g (suc m) (aways ds it body)))
      (taking-rows (all_fold i) (handler ∷ []) refl (
        and_from (of_other_kinds m []) (handles (kind_at i (Some m)) lines) refl (plans-handle (planned p).kinds m lines),
        handler-pass i m all [] lines (body-one-way result n it body lines fold-lines y u al parts.1) (subst (λ xs. list_all (is_clean xs) lines ≡ true) (sym (fields-are all it body fold-all)) lines-so),
        tt,
      ))
      (takings-fold-so g (suc m) it body u al (inner-sent-agree ds n it result body y al parts.1)))

  loop-folds : (result : Option VType) (base m n : ℕ) (k : Key) (test : Expr) (body : Stmt) → is_flat_loop ds false n test body ≡ true → is_typed_in ds result body ≡ true → Named (uses_of body) → shares ds n test body ≡ true
      → all_blocks (loop c base m n k test body).blocks ≡ true
  loop-folds result base m n k mask (S.Foreach j at h test body) f y u s =
      let it = h.iterator in
      let f1 = both-true (is_flat (n ∷ []) false mask) (is_outer_body ds false n (S.Foreach j at h test body)) f in
      let f2 = both-true (is_inner_head false n h) (is_flat (n ∷ (it ∷ [])) true test && is_inner_body ds (n ∷ (it ∷ [])) true body) f1.1 in
      let f3 = both-true (is_flat (n ∷ (it ∷ [])) true test) (is_inner_body ds (n ∷ (it ∷ [])) true body) f2.1 in
      let f4 = both-true (nat_eq h.owner n) (not (nat_eq it n)) (both-true (is_range false h.domain) (nat_eq h.owner n && not (nat_eq it n)) f2.0).1 in
      let y2 = both-true (has_type ds V.Flag test) (is_typed_in ds result body) y in
      let u2 = placed-split p (uses_in test) (uses_of body) (placed-split p (uses_of_head h) (uses_in test ++ uses_of body) u).1 in
      let a = shared-parts ds (read_elsewhere n (reads_in mask ++ (sights_of ds n false (S.Foreach j at h test body)).properties)) n mask (S.Foreach j at h test body) s in
      by (is_here ds n h test body) refl
      (λ e. each-folds result base m n k mask j h test body e y2.1 u2.0 u2.1 a.1 a.2)
      (message-folds result base m n k mask j h test body (not-true (nat_eq it n) f4.1) f3.0 f3.1 y2.1 u2.0 u2.1 ((with_reads (sights_in mask) (sights_of ds n false (S.Foreach j at h test body))).scalars ++ written ds n true body) a.3 a.1 a.2) where
        by : (b : Bool) → is_here ds n h test body ≡ b → (is_here ds n h test body ≡ true → all_blocks (each_loop c base m n k mask j h test body).blocks ≡ true) → all_blocks (message_loop c base m n k mask j h test body).blocks ≡ true
            → all_blocks (if b then each_loop c base m n k mask j h test body else message_loop c base m n k mask j h test body).blocks ≡ true
        by true e x z = x e
        by false e x z = z
  loop-folds result base m n k test body f y u s =
      own-folds result base m n k test body y u (shared-parts ds (read_elsewhere n (reads_in test ++ (sights_of ds n false body).properties)) n test body s)

  -- ---- the blocks of statements

  module _ (finish : ℕ) where
    abbrev w : Frame
    w = record { layout = c; finish = finish }

    declared-folds : (at : L.At) (s : Sort) (t : VType) (x : ℕ) → all_blocks (declared_part w at s t x).blocks ≡ true
    declared-folds at Sorts.NodeProperty t x = by (w.layout.is_kept x) where
      by : (b : Bool) → all_blocks (if b then record { commands = Step at.block ∷ []; blocks = body_block (SetField (w.layout.field x) (M.Const (zero_of t)) ∷ []) ∷ []; places = [] } else L.no_part).blocks ≡ true
      by true = refl
      by false = refl
    declared-folds at Sorts.Scalar t x = refl
    declared-folds at Sorts.Graph t x = refl
    declared-folds at Sorts.Iterator t x = refl
    declared-folds at Sorts.Edge t x = refl
    declared-folds at Sorts.EdgeProperty t x = refl

    abbrev is_form : Stmt → Bool
    is_form s = is_phase (is_flat_loop ds false) no_loop ds s

    part-folds : (result : Option VType) (s : Stmt) (at : L.At) → is_form s ≡ true → is_typed_in ds result s ≡ true → Named (uses_of s) → loops_share ds s ≡ true → all_blocks (part w s at).blocks ≡ true
    part-folds result (S.Then a b) at f h u s =
        let x = part w a at in
        let next = past w at a x in
        let f2 = both-true (is_form a) (is_form b) f in
        let h2 = both-true (is_typed_in ds result a) (is_typed_in ds result b) h in
        let u2 = placed-split p (uses_of a) (uses_of b) u in
        let s2 = both-true (loops_share ds a) (loops_share ds b) s in
        all-both (λ b. list_all (all_fold i) (block_rows b)) x.blocks (part w b next).blocks (part-folds result a at f2.0 h2.0 u2.0 s2.0) (part-folds result b next f2.1 h2.1 u2.1 s2.1)
    part-folds result (S.Declare k x None) at f h u s = let v = variable_at ds x in declared-folds at v.sort v.vtype x
    part-folds result (S.Declare k x (Some e)) at f h u s = refl
    part-folds result (S.Assign k (T.Scalar x place) e) at f h u s = refl
    part-folds result (S.Assign k (T.Property x q place) e) at f h u s = refl
    part-folds result (S.Combine k total r ts es) at f h u s = refl
    part-folds result (S.Foreach k place head test body) at f h u s =
        let f2 = both-true (is_nodes head.domain) (is_flat_loop ds false head.iterator test body) f in
        let h2 = both-true (has_type ds V.Flag test) (is_typed_in ds result body) h in
        let u2 = placed-split p (uses_in test) (uses_of body) (placed-split p (uses_of_head head) (uses_in test ++ uses_of body) u).1 in
        loop-folds result at.place at.kind head.iterator k test body f2.1 h2.1 u2.1 s
    part-folds result (S.Return k place None) at f h u s = refl
    part-folds result (S.Return k place (Some e)) at f h u s = refl
    part-folds result (S.If k e a b) at f h u s =
        let g = segment at.place (spots_in e k) in
        let start = lines_on 1 (places_on (shown_places g) at) in
        let x = part w a start in
        let other = lines_on 1 (past w start a x) in
        let f2 = both-true (is_form a) (is_form b) (both-true (is_told e) (is_form a && is_form b) f).1 in
        let h2 = both-true (is_typed_in ds result a) (is_typed_in ds result b) (both-true (has_type ds V.Flag e) (is_typed_in ds result a && is_typed_in ds result b) h).1 in
        let u2 = placed-split p (uses_of a) (uses_of b) (placed-split p (uses_in e) (uses_of a ++ uses_of b) u).1 in
        let s2 = both-true (loops_share ds a) (loops_share ds b) s in
        all-both (λ b. list_all (all_fold i) (block_rows b)) x.blocks (part w b other).blocks (part-folds result a start f2.0 h2.0 u2.0 s2.0) (part-folds result b other f2.1 h2.1 u2.1 s2.1)
    part-folds result (S.While k place e body) at f h u s =
        let g = segment at.place (spots_in e k) in
        part-folds result body (lines_on 1 (places_on (shown_places g) at)) (both-true (is_told e) (is_form body) f).1 (both-true (has_type ds V.Flag e) (is_typed_in ds result body) h).1 (placed-split p (uses_in e) (uses_of body) u).1 s
    part-folds result (S.Do k place body e) at f h u s =
        let g = segment at.place (spots_in e k) in
        part-folds result body (lines_on 3 (deeper (places_on (shown_places g) at))) (both-true (is_form body) (is_told e) f).0 (both-true (is_typed_in ds result body) (has_type ds V.Flag e) h).0 (placed-split p (uses_of body) (uses_in e) u).0 s
    part-folds result (S.For k place head e body) at f h u s =
        let g = segment at.place (spot_at k place ∷ spots_in e k) in
        let tests = length (test_lines 0 (term (master_env c g) k e)) in
        part-folds result body (lines_on (4 + tests) (deeper (places_on (shown_places g) at))) (both-true (is_told e) (is_form body) f).1 (both-true (has_type ds V.Flag e) (is_typed_in ds result body) h).1
        (placed-split p (uses_in e) (uses_of body) (placed-split p (uses_of_head head) (uses_in e ++ uses_of body) u).1).1 s
    part-folds result S.Skip at f h u s = refl
    part-folds result (S.DeclareEdge x y place) at f h u s = refl
    part-folds result (S.Defer k t e) at f h u s = refl
    part-folds result (S.Group k place x y e) at f h u s = refl
    part-folds result (S.InBfs k place how test body) at f h u s = refl
    part-folds result (S.InBfsBoth k place how test body back_key back_test back) at f h u s = refl

pub folds-go-one-way : FoldsGoOneWay
folds-go-one-way p form typed named free =
    let i = lowered p in
    let f : Row → Bool = λ row. keeps i row I8 in
    let u = both-true (nat_le (p.inputs + p.outputs) (length p.declarations)) (list_all (suits p.declarations) (uses_of p.body)) named in
    rows-pass f i (record {
      plain = refl;
      name = refl;
      inputs = after-always f InputRow (λ b i. refl) [] i.inputs;
      outputs = after-always f OutputRow (λ b i. refl) [] i.outputs;
      result = refl;
      columns = refl;
      kinds = all-mapped (λ k. combiner_fits k.combiner k.values) kind_of (planned p).kinds (all-always (λ k. true) (λ k. refl) (planned p).kinds);
      blocks = part-folds p (length (body_part p 0).commands) p.result p.body start form typed (body-placed p u.1) free;
      list = refl;
      commands = no-commands f (λ j c. refl) 0 i.master;
    })
