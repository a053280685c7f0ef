-- The spots of bodies whose faults stand in order.
use Rattle.std.proofs.Common.{◌≡◌, ◌⊎◌, inl, inr, ℕ, Bool, true, false, List, [], ◌∷◌, ◌++◌, refl, ap, ◌∙◌, sym, ⊎_elim}
use Rattle.std.specs.Prelude.{◌&&◌}
use Rattle.std.specs.List.{list_all}
use Rattle.std.proofs.lemmas.Bool.{and_from}
use Rattle.gm_value.specs.Bag.{IsIn}
use Rattle.gm_value.specs.declared.reductions.Reduce.{Reduce}
use Rattle.gm_ast.specs.declared.tree.Declaration.{Declaration}
use Rattle.gm_ast.specs.declared.tree.Key.{Key}
use Rattle.gm_ast.specs.declared.tree.Target.{Target}
use Rattle.gm_ast.specs.declared.tree.TotalKey.{TotalKey}
use Rattle.gm_ast.specs.Keys.{all_before, Fault, total_fault}
use Rattle.gm_ast.specs.Program as S
use Rattle.gm_ast.specs.Program.{Expr, Stmt}
use Rattle.gm_forms.proofs.CutLaws.{lies-in}
use Rattle.gm_forms.proofs.CutTests.{Covers}
use Rattle.gm_forms.proofs.Named.{both-true}
use Rattle.gm_forms.specs.Order.{lie_before, faults_in, faults_in_all, in_order, target_faults, targets_faults, faults_of, body_in_order}
use Rattle.gm_lowering.specs.Layouts.{Layout}
use Rattle.gm_lowering.specs.Places.{Spot, spot_at, spot_of_total, spots_in, spots_in_all, spots_in_option, spot_lt}
use Rattle.gm_lowering.specs.Plans.{Way, Puts, Folds, Sends, Picks, way_of}
use Rattle.gm_lowering.specs.Bodies.{target_spots, reduce_spots, spots_of}
use Rattle.gm_lowering_master.specs.Plain.{shows_with, all_show_one}
use Rattle.gm_plain_loops.specs.Tests.{comes_behind, is_behind_target, goes_well, asks_inside, end_together, total_follows, suits_body}
use Rattle.gm_plain_loops.proofs.Spots.{in-left, in-right, in-split, all-of, before-one, ArePlain, shows-plain, shows-before, shows-behind, show-join, show-plain, expr-spots, option-spots, all-spots, rest_in_all, rest-all, values-before, all-targets-before, target-found, targets-covered}

module _ (c : Layout) (m : ℕ) (its js : List ℕ) (at_once : Bool) (covers : Covers js its) (inner : Bool) where
  abbrev ds : List Declaration
  ds = c.declarations

  abbrev pub spots : Stmt → List Spot
  spots st = spots_of c m its at_once st

  abbrev pub suits : Stmt → Bool
  suits st = suits_body ds inner its st

  -- ---- a reduction

  module _ (k : Key) (total : TotalKey) (ts : List Target) (es : List Expr) where
    abbrev own_faults : List Fault
    own_faults = record { key = k; place = total.place } ∷ total_fault total ∷ []

    abbrev all_faults : List Fault
    all_faults = targets_faults js ts k ++ (faults_in_all es k ++ own_faults)

    abbrev values : List Spot
    values = spots_in_all es k

    total-in : (s : Spot) → s ≡ spot_of_total total → IsIn s.fault all_faults
    total-in s e = in-right (targets_faults js ts k) (faults_in_all es k ++ own_faults) s.fault (in-right (faults_in_all es k) own_faults s.fault (inr (inl (ap (λ z. z.fault) e))))

    targets-in : (s : Spot) → IsIn s (target_spots its k ts) → IsIn s.fault all_faults
    targets-in s i = in-left (targets_faults js ts k) (faults_in_all es k ++ own_faults) s.fault (targets-covered its js covers ts k s.fault (target-found its k ts s i).1)

    reduce-in : (o : Bool) (w : Way) (s : Spot) → IsIn s (reduce_spots o its w k total ts) → IsIn s.fault all_faults
    reduce-in true Puts s i = ⊎_elim (λ (e : s ≡ spot_of_total total). total-in s e) (λ (j : IsIn s []). absurd j) i
    reduce-in false Puts s i = ⊎_elim (λ (e : s ≡ spot_of_total total). total-in s e) (λ (j : IsIn s []). absurd j) i
    reduce-in true Folds s i =
        ⊎_elim
        (λ (e : s ≡ spot_at k total.place). in-right (targets_faults js ts k) (faults_in_all es k ++ own_faults) s.fault (in-right (faults_in_all es k) own_faults s.fault (inl (ap (λ z. z.fault) e))))
        (λ (j : IsIn s []). absurd j) i
    reduce-in false Folds s i = ⊎_elim (λ (e : s ≡ spot_of_total total). total-in s e) (λ (j : IsIn s []). absurd j) i
    reduce-in true Sends s i = ⊎_elim (λ (e : s ≡ spot_of_total total). total-in s e) (λ (j : IsIn s (target_spots its k ts)). targets-in s j) i
    reduce-in false Sends s i = ⊎_elim (λ (e : s ≡ spot_of_total total). total-in s e) (λ (j : IsIn s (target_spots its k ts)). targets-in s j) i
    reduce-in true Picks s i = absurd i
    reduce-in false Picks s i = absurd i

    combine-in : (w : Way) (s : Spot) → IsIn s (values ++ reduce_spots at_once its w k total ts) → IsIn s.fault all_faults
    combine-in w s i =
        ⊎_elim
        (λ (j : IsIn s values). in-right (targets_faults js ts k) (faults_in_all es k ++ own_faults) s.fault (in-left (faults_in_all es k) own_faults s.fault (all-spots es k s j).1))
        (λ (j : IsIn s (reduce_spots at_once its w k total ts)). reduce-in at_once w s j)
        (in-split values (reduce_spots at_once its w k total ts) s i)

    -- values and targets come before the total
    module _ (follows : total_follows its k total ts es ≡ true) where
      pub value-before : (s : Spot) → IsIn s values → spot_lt s (spot_of_total total) ≡ true
      value-before s i = before-one (rest_in_all es k) s.fault (total_fault total) (values-before (total_fault total) k es (both-true (list_all (comes_behind (total_fault total) k) es) (list_all (is_behind_target its (total_fault total) k) ts) follows).0) (rest-all es k s i)

      pub target-before : (s : Spot) → IsIn s (target_spots its k ts) → spot_lt s (spot_of_total total) ≡ true
      target-before s i = before-one (targets_faults its ts k) s.fault (total_fault total) (all-targets-before its (total_fault total) k ts (both-true (list_all (comes_behind (total_fault total) k) es) (list_all (is_behind_target its (total_fault total) k) ts) follows).1) (target-found its k ts s i).1

      values-plain : ArePlain values
      values-plain s i = (all-spots es k s i).0

      targets-plain : ArePlain (target_spots its k ts)
      targets-plain s i = (target-found its k ts s i).0

      with-total : all_show_one (values ++ spot_of_total total ∷ []) ≡ true
      with-total =
          show-join values (spot_of_total total ∷ []) (show-plain values values-plain) refl
          (λ a b i j. ⊎_elim (λ (e : b ≡ spot_of_total total). shows-before a b (ap (λ z. spot_lt a z) e ∙ value-before a i)) (λ (l : IsIn b []). absurd l) j)

      with-place : all_show_one (values ++ spot_at k total.place ∷ []) ≡ true
      with-place =
          show-join values (spot_at k total.place ∷ []) (show-plain values values-plain) refl
          (λ a b i j. ⊎_elim (λ (e : b ≡ spot_at k total.place). shows-plain a b (values-plain a i) (ap (λ z. z.shown) e ∙ sym (ap (λ z. z.fault.place) e))) (λ (l : IsIn b []). absurd l) j)

      with-sent : all_show_one (values ++ (spot_of_total total ∷ target_spots its k ts)) ≡ true
      with-sent =
          show-join values (spot_of_total total ∷ target_spots its k ts) (show-plain values values-plain)
          (and_from (list_all (shows_with (spot_of_total total)) (target_spots its k ts)) (all_show_one (target_spots its k ts))
          (all-of (shows_with (spot_of_total total)) (target_spots its k ts) (λ b i. shows-behind (spot_of_total total) b (target-before b i))) (show-plain (target_spots its k ts) targets-plain))
          (λ a b i j.
          ⊎_elim (λ (e : b ≡ spot_of_total total). shows-before a b (ap (λ z. spot_lt a z) e ∙ value-before a i)) (λ (l : IsIn b (target_spots its k ts)). shows-plain a b (values-plain a i) (targets-plain b l)) j)

      with-none : all_show_one (values ++ []) ≡ true
      with-none = show-join values [] (show-plain values values-plain) refl (λ a b i j. absurd j)

      reduction-shows : (o : Bool) (w : Way) → all_show_one (values ++ reduce_spots o its w k total ts) ≡ true
      reduction-shows true Puts = with-total
      reduction-shows false Puts = with-total
      reduction-shows true Folds = with-place
      reduction-shows false Folds = with-total
      reduction-shows true Sends = with-sent
      reduction-shows false Sends = with-sent
      reduction-shows true Picks = with-none
      reduction-shows false Picks = with-none

  pub follows-of : (k : Key) (total : TotalKey) (r : Reduce) (ts : List Target) (es : List Expr) → suits (S.Combine k total r ts es) ≡ true → total_follows its k total ts es ≡ true
  follows-of k total r ts es h =
      let h1 = both-true (list_all (asks_inside ds its) es) (list_all (goes_well ds inner its) ts && (end_together ds ts && total_follows its k total ts es)) h in
      let h2 = both-true (list_all (goes_well ds inner its) ts) (end_together ds ts && total_follows its k total ts es) h1.1 in
      (both-true (end_together ds ts) (total_follows its k total ts es) h2.1).1

  -- ---- bodies

  -- each spot is one of the faults that the order names
  pub spots-within : (st : Stmt) (s : Spot) → IsIn s (spots st) → IsIn s.fault (faults_of js st)
  spots-within (S.Then a b) s i =
      ⊎_elim (λ (j : IsIn s (spots a)). in-left (faults_of js a) (faults_of js b) s.fault (spots-within a s j)) (λ (j : IsIn s (spots b)). in-right (faults_of js a) (faults_of js b) s.fault (spots-within b s j)) (in-split (spots a) (spots b) s i)
  spots-within (S.Declare k x e) s i = (option-spots e k s i).1
  spots-within (S.Assign k t e) s i = in-right (target_faults js t k) (faults_in e k) s.fault (expr-spots e k s i).1
  spots-within (S.Combine k total r ts es) s i = combine-in k total ts es (way_of ds m ts) s i
  spots-within (S.If k e a b) s i =
      ⊎_elim
      (λ (j : IsIn s (spots_in e k)). in-left (faults_in e k) (faults_of js a ++ faults_of js b) s.fault (expr-spots e k s j).1)
      (λ (j : IsIn s (spots a ++ spots b)). in-right (faults_in e k) (faults_of js a ++ faults_of js b) s.fault
      (⊎_elim (λ (l : IsIn s (spots a)). in-left (faults_of js a) (faults_of js b) s.fault (spots-within a s l)) (λ (l : IsIn s (spots b)). in-right (faults_of js a) (faults_of js b) s.fault (spots-within b s l)) (in-split (spots a) (spots b) s j)))
      (in-split (spots_in e k) (spots a ++ spots b) s i)
  spots-within S.Skip s i = absurd i
  spots-within (S.DeclareEdge x z at) s i = absurd i
  spots-within (S.Defer k t e) s i = absurd i
  spots-within (S.Group k at g q e) s i = absurd i
  spots-within (S.Foreach k at hd test body) s i = absurd i
  spots-within (S.For k at hd test body) s i = absurd i
  spots-within (S.While k at e body) s i = absurd i
  spots-within (S.Do k at body e) s i = absurd i
  spots-within (S.InBfs k at h test body) s i = absurd i
  spots-within (S.InBfsBoth k at h test body bk bt back) s i = absurd i
  spots-within (S.Return k at e) s i = absurd i

  -- spots of parts, one before the other
  pub part-before : (fs gs : List Fault) (s t : Spot) → lie_before fs gs ≡ true → IsIn s.fault fs → IsIn t.fault gs → spot_lt s t ≡ true
  part-before fs gs s t h i j = lies-in fs gs s.fault t.fault h i j

  both-within : (a b : Stmt) (s : Spot) → IsIn s (spots a ++ spots b) → IsIn s.fault (faults_of js a ++ faults_of js b)
  both-within a b s j =
      ⊎_elim (λ (l : IsIn s (spots a)). in-left (faults_of js a) (faults_of js b) s.fault (spots-within a s l)) (λ (l : IsIn s (spots b)). in-right (faults_of js a) (faults_of js b) s.fault (spots-within b s l)) (in-split (spots a) (spots b) s j)

  -- and those of one fault show one place
  pub body-shows : (st : Stmt) → body_in_order js st ≡ true → suits st ≡ true → all_show_one (spots st) ≡ true
  body-shows (S.Then a b) o h =
      let o1 = both-true (body_in_order js a) (body_in_order js b && lie_before (faults_of js a) (faults_of js b)) o in
      let o2 = both-true (body_in_order js b) (lie_before (faults_of js a) (faults_of js b)) o1.1 in
      let h2 = both-true (suits a) (suits b) h in
      show-join (spots a) (spots b) (body-shows a o1.0 h2.0) (body-shows b o2.0 h2.1)
      (λ s t i j. shows-before s t (part-before (faults_of js a) (faults_of js b) s t o2.1 (spots-within a s i) (spots-within b t j)))
  body-shows (S.Declare k x e) o h = show-plain (spots_in_option e k) (λ s i. (option-spots e k s i).0)
  body-shows (S.Assign k t e) o h = show-plain (spots_in e k) (λ s i. (expr-spots e k s i).0)
  body-shows (S.Combine k total r ts es) o h = reduction-shows k total ts es (follows-of k total r ts es h) at_once (way_of ds m ts)
  body-shows (S.If k e a b) o h =
      let o1 = both-true (in_order e k) (body_in_order js a && (body_in_order js b && (lie_before (faults_in e k) (faults_of js a ++ faults_of js b) && lie_before (faults_of js a) (faults_of js b)))) o in
      let o2 = both-true (body_in_order js a) (body_in_order js b && (lie_before (faults_in e k) (faults_of js a ++ faults_of js b) && lie_before (faults_of js a) (faults_of js b))) o1.1 in
      let o3 = both-true (body_in_order js b) (lie_before (faults_in e k) (faults_of js a ++ faults_of js b) && lie_before (faults_of js a) (faults_of js b)) o2.1 in
      let o4 = both-true (lie_before (faults_in e k) (faults_of js a ++ faults_of js b)) (lie_before (faults_of js a) (faults_of js b)) o3.1 in
      let h1 = both-true (asks_inside ds its e) (suits a && suits b) h in
      let h2 = both-true (suits a) (suits b) h1.1 in
      show-join (spots_in e k) (spots a ++ spots b) (show-plain (spots_in e k) (λ s i. (expr-spots e k s i).0))
      (show-join (spots a) (spots b) (body-shows a o2.0 h2.0) (body-shows b o3.0 h2.1)
      (λ s t i j. shows-before s t (part-before (faults_of js a) (faults_of js b) s t o4.1 (spots-within a s i) (spots-within b t j))))
      (λ s t i j. shows-before s t (part-before (faults_in e k) (faults_of js a ++ faults_of js b) s t o4.0 (expr-spots e k s i).1 (both-within a b t j)))
  body-shows S.Skip o h = refl
  body-shows (S.DeclareEdge x z at) o h = refl
  body-shows (S.Defer k t e) o h = refl
  body-shows (S.Group k at g q e) o h = refl
  body-shows (S.Foreach k at hd test body) o h = refl
  body-shows (S.For k at hd test body) o h = refl
  body-shows (S.While k at e body) o h = refl
  body-shows (S.Do k at body e) o h = refl
  body-shows (S.InBfs k at s test body) o h = refl
  body-shows (S.InBfsBoth k at s test body bk bt back) o h = refl
  body-shows (S.Return k at e) o h = refl

  -- with a filter before the body
  pub filtered-show : (e : Expr) (k : Key) (st : Stmt) → lie_before (faults_in e k) (faults_of js st) ≡ true → body_in_order js st ≡ true → suits st ≡ true → all_show_one (spots_in e k ++ spots st) ≡ true
  filtered-show e k st l o h =
      show-join (spots_in e k) (spots st) (show-plain (spots_in e k) (λ s i. (expr-spots e k s i).0)) (body-shows st o h)
      (λ s t i j. shows-before s t (part-before (faults_in e k) (faults_of js st) s t l (expr-spots e k s i).1 (spots-within st t j)))
