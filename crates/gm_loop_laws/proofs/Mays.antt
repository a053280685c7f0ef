-- How a body faults that leaves the iterator: as its text says.
use Rattle.std.proofs.Common.{◌≡◌, ◌≢◌, ℕ, Bool, true, false, List, [], ◌∷◌, ◌++◌, refl, sym, ap, subst, ◌∙◌, Some, None, ⊎_elim, inl, inr}
use Rattle.std.specs.Prelude.{◌||◌, not, nat_eq}
use Rattle.std.specs.List.{list_all}
use Rattle.std.proofs.lemmas.Bool.{eq-eqb, both_ways}
use Rattle.gm_value.specs.declared.reductions.Reduce.{Reduce}
use Rattle.gm_value.specs.Bag.{IsIn}
use Rattle.gm_ast.specs.declared.tree.Declaration.{Declaration}
use Rattle.gm_ast.specs.declared.tree.Key.{Key}
use Rattle.gm_ast.specs.declared.tree.TotalKey.{TotalKey}
use Rattle.gm_ast.specs.declared.tree.Target.{Target}
use Rattle.gm_ast.specs.declared.tree.Target.TheVariants as T
use Rattle.gm_ast.specs.Keys as K
use Rattle.gm_ast.specs.Program.{Expr, Stmt, Skip, Then, Declare, DeclareEdge, Assign, Defer, Combine, Group, Foreach, For, If, While, Do, InBfs, InBfsBoth, Return}
use Rattle.gm_semantics.specs.declared.faults.Fault.{Fault}
use Rattle.gm_semantics.specs.declared.slots.Slot.TheVariants.{Scalar}
use Rattle.gm_semantics.specs.Stores.{has_slot}
use Rattle.gm_semantics.specs.Faults.{total_fault}
use Rattle.gm_semantics.specs.Contributions.{Contribution}
use Rattle.gm_semantics.specs.Iterations.{Ends, AtOnce, WithInner, WithOutermost, Loop, Mode, Outermost, AtEdge, ends_of_all}
use Rattle.gm_forms.specs.Forms.{is_flat, is_inner_body, is_outer_body}
use Rattle.gm_forms.specs.Order.{rest_in, hoisted_in, faults_in, faults_in_all, target_faults, targets_faults, faults_of}
use Rattle.gm_forms.specs.Sharing.{deferred}
use Rattle.gm_forms.specs.Fission.{is_nil}
use Rattle.gm_forms.specs.Doing.{named, Allowed, faults_beside, all_beside, EachSlot, slots_at, MayFail, OffAnd, MayReduce, Anywhere, MayDo}
use Rattle.gm_forms.proofs.Named.{both-true}
use Rattle.gm_forms.proofs.Doings.{in-left, in-right, in-either}
use Rattle.gm_forms.proofs.CutTests.{not-true, Covers, same-list, turned, flat-beside, FlatAll, flat-all}
use Rattle.gm_forms.proofs.ReadingFrames.{nat_eq-apart}
use Rattle.gm_loop_laws.specs.Saved.{is_other, never_writes}
use Rattle.gm_loop_laws.proofs.Givens.{flat}

pub nil-parts : (xs ys : List ℕ) → is_nil (xs ++ ys) ≡ true → (is_nil xs ≡ true) × (is_nil ys ≡ true)
nil-parts [] ys h = (refl, h)
nil-parts (x ∷ xs) ys h = absurd (both_ways false refl h)

module _ (ds : List Declaration) (loop : Loop) (x : ℕ) (FS : List K.Fault) where
  abbrev n : ℕ
  n = loop.outer

  abbrev pub TotalIn : Contribution → Type 0
  TotalIn c = IsIn (named (total_fault c.total)) FS

  abbrev pub OffTotal : Contribution → Type 0
  OffTotal c = (has_slot (Scalar n) c.slots ≡ false) × TotalIn c

  abbrev pub FaultIn : Fault → Type 0
  FaultIn f = IsIn (named f) FS

  abbrev pub MayFault : List ℕ → Stmt → Mode → Type 0
  MayFault js s m = MayDo OffTotal TotalIn FaultIn n x js s (Anywhere OffTotal TotalIn FaultIn n x) m loop

  abbrev Within : List K.Fault → Type 0
  Within fs = (f : K.Fault) → IsIn f fs → IsIn f FS

  fails-of : (its js : List ℕ) (edge : Bool) (e : Expr) (k : Key) → Covers its js → is_flat its edge e ≡ true → Within (faults_in e k) → MayFail OffTotal TotalIn FaultIn n x js e k
  fails-of its js edge e k sub h w = (flat its edge e h, λ f i. w (named f) (in-right (named f) (hoisted_in e) (rest_in e k) (subst (IsIn (named f)) (flat-beside its js edge e k sub h) i)))

  rest-within : (its js : List ℕ) (edge : Bool) (e : Expr) (k : Key) (fs : List K.Fault) → Covers its js → is_flat its edge e ≡ true → Within (fs ++ faults_in e k) → Allowed FaultIn (fs ++ faults_beside js e k)
  rest-within its js edge e k fs sub h w f i =
      ⊎_elim (λ l. w (named f) (in-left (named f) fs (faults_in e k) l))
      (λ r. w (named f) (in-right (named f) fs (faults_in e k) (in-right (named f) (hoisted_in e) (rest_in e k) (subst (IsIn (named f)) (flat-beside its js edge e k sub h) r)))) (in-either (named f) fs (faults_beside js e k) i)

  abbrev of_all : List ℕ → Key → TotalKey → List Target → List Expr → List K.Fault
  of_all js k total ts es = targets_faults js ts k ++ (faults_in_all es k ++ (record { key = k; place = total.place } ∷ K.total_fault total ∷ []))

  all-allowed : (js : List ℕ) (k : Key) (total : TotalKey) (ts : List Target) (es : List Expr) → FlatAll js es k → Within (of_all js k total ts es) → Allowed FaultIn (targets_faults js ts k ++ all_beside js es k)
  all-allowed js k total ts es fl w f i =
      let more : List K.Fault = record { key = k; place = total.place } ∷ K.total_fault total ∷ [] in
      ⊎_elim
      (λ l. w (named f) (in-left (named f) (targets_faults js ts k) _ l))
      (λ r. w (named f) (in-right (named f) (targets_faults js ts k) _ (in-left (named f) (faults_in_all es k) more (fl.1 (named f) r))))
      (in-either (named f) (targets_faults js ts k) (all_beside js es k) i)

  once-allowed : (js : List ℕ) (k : Key) (total : TotalKey) (ts : List Target) (es : List Expr) → FlatAll js es k → Within (of_all js k total ts es) → Allowed FaultIn (targets_faults js ts k ++ (all_beside js es k ++ record { key = k; place = total.place } ∷ []))
  once-allowed js k total ts es fl w f i =
      let more : List K.Fault = record { key = k; place = total.place } ∷ K.total_fault total ∷ [] in
      let last : List K.Fault = record { key = k; place = total.place } ∷ [] in
      ⊎_elim
      (λ l. w (named f) (in-left (named f) (targets_faults js ts k) _ l))
      (λ r.
      w (named f) (in-right (named f) (targets_faults js ts k) _
      (⊎_elim (λ l. in-left (named f) (faults_in_all es k) more (fl.1 (named f) l)) (λ (m : IsIn (named f) last). in-right (named f) (faults_in_all es k) more (at-place m)) (in-either (named f) (all_beside js es k) last r))))
      (in-either (named f) (targets_faults js ts k) (all_beside js es k ++ last) i)
    where
      at-place : IsIn (named f) (record { key = k; place = total.place } ∷ []) → IsIn (named f) (record { key = k; place = total.place } ∷ K.total_fault total ∷ [])
      at-place m = ⊎_elim (λ e. inl e) (λ n. absurd n) m

  has-total : (js : List ℕ) (k : Key) (total : TotalKey) (ts : List Target) (es : List Expr) → Within (of_all js k total ts es) → IsIn (K.total_fault total) FS
  has-total js k total ts es w =
      let more : List K.Fault = record { key = k; place = total.place } ∷ K.total_fault total ∷ [] in
      w (K.total_fault total) (in-right (K.total_fault total) (targets_faults js ts k) _ (in-right (K.total_fault total) (faults_in_all es k) more (inr (inl refl))))

  slots-off : (node : ℕ → ℕ) (ts : List Target) → list_all (is_other n) ts ≡ true → EachSlot (OffAnd OffTotal TotalIn FaultIn n x (Anywhere OffTotal TotalIn FaultIn n x)) (slots_at node ts)
  slots-off node [] h = tt
  slots-off node (T.Scalar y at ∷ ts) h = let r = both-true _ _ h in ((tt, not-true (nat_eq y n) r.0), slots-off node ts r.1)
  slots-off node (T.Property y p at ∷ ts) h = ((tt, refl), slots-off node ts h)

  apart : (y : ℕ) → not (nat_eq y n) ≡ true → y ≢ n
  apart y h e = both_ways (nat_eq y n) (not-true (nat_eq y n) h) (eq-eqb y n e)

  has-off : (node : ℕ → ℕ) (ts : List Target) → list_all (is_other n) ts ≡ true → has_slot (Scalar n) (slots_at node ts) ≡ false
  has-off node [] h = refl
  has-off node (T.Scalar y at ∷ ts) h = let r = both-true _ _ h in ap (λ b. b || has_slot (Scalar n) (slots_at node ts)) (nat_eq-apart n y (λ e. apart y r.0 (sym e))) ∙ has-off node ts r.1
  has-off node (T.Property y p at ∷ ts) h = has-off node ts h

  may-reduce : (js : List ℕ) (ends : Ends) (k : Key) (total : TotalKey) (r : Reduce) (ts : List Target) (es : List Expr) → list_all (is_other n) ts ≡ true → FlatAll js es k → Within (of_all js k total ts es) → MayReduce OffTotal TotalIn FaultIn n x js (Anywhere OffTotal TotalIn FaultIn n x) ends k total r ts es
  may-reduce js AtOnce k total r ts es o fl w = ((λ node e. slots-off node ts o), fl.0, once-allowed js k total ts es fl w)
  may-reduce js WithInner k total r ts es o fl w = ((λ node e vs. (has-off node ts o, has-total js k total ts es w)), fl.0, all-allowed js k total ts es fl w)
  may-reduce js WithOutermost k total r ts es o fl w = ((λ node e vs. has-total js k total ts es w), fl.0, all-allowed js k total ts es fl w)

  within-left : (fs gs : List K.Fault) → Within (fs ++ gs) → Within fs
  within-left fs gs w f i = w f (in-left f fs gs i)

  within-right : (fs gs : List K.Fault) → Within (fs ++ gs) → Within gs
  within-right fs gs w f i = w f (in-right f fs gs i)

  -- an inner body
  pub inner-faults : (s : Stmt) (e : ℕ) (its js : List ℕ) → Covers its js → is_inner_body ds its true s ≡ true → Within (faults_of js s) → never_writes n s ≡ true → MayFault js s (AtEdge e)
  inner-faults Skip e its js sub g w o = tt
  inner-faults (Then a b) e its js sub g w o =
      let r = both-true _ _ g in
      let q = both-true (never_writes n a) (never_writes n b) o in
      (inner-faults a e its js sub r.0 (within-left (faults_of js a) (faults_of js b) w) q.0, inner-faults b e its js sub r.1 (within-right (faults_of js a) (faults_of js b) w) q.1)
  inner-faults (Declare k y None) e its js sub g w o = (tt, apart y o, tt)
  inner-faults (Declare k y (Some v)) e its js sub g w o = let r = both-true _ _ g in (tt, apart y o, fails-of its js true v k sub r.1 w)
  inner-faults (DeclareEdge y z at) e its js sub g w o = tt
  inner-faults (Assign k (T.Scalar y at) v) e its js sub g w o = let r = both-true _ _ g in (tt, apart y o, flat its true v r.1, rest-within its js true v k [] sub r.1 w)
  inner-faults (Assign k (T.Property y q at) v) e its js sub g w o = absurd (both_ways false refl g)
  inner-faults (Defer k t v) e its js sub g w o = absurd (both_ways false refl g)
  inner-faults (Combine k total r ts es) e its js sub g w o = let q = both-true _ _ g in may-reduce js (ends_of_all (AtEdge e) loop ts) k total r ts es o (flat-all its js true es k sub q.1) w
  inner-faults (Group k at y q v) e its js sub g w o = absurd (both_ways false refl g)
  inner-faults (Foreach k at h test body) e its js sub g w o = absurd (both_ways false refl g)
  inner-faults (For k at h test body) e its js sub g w o = absurd (both_ways false refl g)
  inner-faults (If k c a b) e its js sub g w o =
      let r = both-true _ _ g in
      let s = both-true _ _ r.1 in
      let q = both-true (never_writes n a) (never_writes n b) o in
      let both = within-right (faults_in c k) (faults_of js a ++ faults_of js b) w in (
        fails-of its js true c k sub r.0 (within-left (faults_in c k) (faults_of js a ++ faults_of js b) w),
        inner-faults a e its js sub s.0 (within-left (faults_of js a) (faults_of js b) both) q.0,
        inner-faults b e its js sub s.1 (within-right (faults_of js a) (faults_of js b) both) q.1,
      )
  inner-faults (While k at c body) e its js sub g w o = absurd (both_ways false refl g)
  inner-faults (Do k at body c) e its js sub g w o = absurd (both_ways false refl g)
  inner-faults (InBfs k at h test body) e its js sub g w o = absurd (both_ways false refl g)
  inner-faults (InBfsBoth k at h test body back_key back_test back) e its js sub g w o = absurd (both_ways false refl g)
  inner-faults (Return k at v) e its js sub g w o = absurd (both_ways false refl g)

  -- and an outer one that defers nothing
  pub outer-faults : (s : Stmt) → is_outer_body ds false n s ≡ true → is_nil (deferred s) ≡ true → Within (faults_of (n ∷ []) s) → never_writes n s ≡ true → MayFault (n ∷ []) s Outermost
  outer-faults Skip g d w o = tt
  outer-faults (Then a b) g d w o =
      let r = both-true _ _ g in
      let q = both-true (never_writes n a) (never_writes n b) o in
      let p = nil-parts (deferred a) (deferred b) d in
      (outer-faults a r.0 p.0 (within-left (faults_of (n ∷ []) a) (faults_of (n ∷ []) b) w) q.0, outer-faults b r.1 p.1 (within-right (faults_of (n ∷ []) a) (faults_of (n ∷ []) b) w) q.1)
  outer-faults (Declare k y None) g d w o = (tt, apart y o, tt)
  outer-faults (Declare k y (Some v)) g d w o = let r = both-true _ _ g in (tt, apart y o, fails-of (n ∷ []) (n ∷ []) false v k (same-list (n ∷ [])) r.1 w)
  outer-faults (DeclareEdge y z at) g d w o = tt
  outer-faults (Assign k (T.Scalar y at) v) g d w o = let r = both-true _ _ g in (tt, apart y o, flat (n ∷ []) false v r.1, rest-within (n ∷ []) (n ∷ []) false v k [] (same-list (n ∷ [])) r.1 w)
  outer-faults (Assign k (T.Property y q at) v) g d w o = let r = both-true _ _ g in ((λ j a. tt), tt, flat (n ∷ []) false v r.1, rest-within (n ∷ []) (n ∷ []) false v k (target_faults (n ∷ []) (T.Property y q at) k) (same-list (n ∷ [])) r.1 w)
  outer-faults (Defer k (T.Scalar y at) v) g d w o = absurd (both_ways false refl g)
  outer-faults (Defer k (T.Property y q at) v) g d w o = absurd (both_ways false refl d)
  outer-faults (Combine k total r ts es) g d w o = let q = both-true _ _ g in may-reduce (n ∷ []) (ends_of_all Outermost loop ts) k total r ts es o (flat-all (n ∷ []) (n ∷ []) false es k (same-list (n ∷ [])) q.1) w
  outer-faults (Group k at y q v) g d w o = absurd (both_ways false refl g)
  outer-faults (Foreach k at h test body) g d w o =
      let r = both-true _ _ g in
      let s = both-true _ _ r.1 in
      let q = both-true (not (nat_eq h.iterator n)) (never_writes n body) o in (
        fails-of (n ∷ h.iterator ∷ []) (h.iterator ∷ n ∷ []) true test k (turned n h.iterator) s.0 (within-left (faults_in test k) (faults_of (h.iterator ∷ n ∷ []) body) (λ f i. w f (inr i))),
        apart h.iterator q.0,
        λ e. inner-faults body e (n ∷ h.iterator ∷ []) (h.iterator ∷ n ∷ []) (turned n h.iterator) s.1 (within-right (faults_in test k) (faults_of (h.iterator ∷ n ∷ []) body) (λ f i. w f (inr i))) q.1,
      )
  outer-faults (For k at h test body) g d w o = absurd (both_ways false refl g)
  outer-faults (If k c a b) g d w o =
      let r = both-true _ _ g in
      let s = both-true _ _ r.1 in
      let q = both-true (never_writes n a) (never_writes n b) o in
      let p = nil-parts (deferred a) (deferred b) d in
      let both = within-right (faults_in c k) (faults_of (n ∷ []) a ++ faults_of (n ∷ []) b) w in (
        fails-of (n ∷ []) (n ∷ []) false c k (same-list (n ∷ [])) r.0 (within-left (faults_in c k) (faults_of (n ∷ []) a ++ faults_of (n ∷ []) b) w),
        outer-faults a s.0 p.0 (within-left (faults_of (n ∷ []) a) (faults_of (n ∷ []) b) both) q.0,
        outer-faults b s.1 p.1 (within-right (faults_of (n ∷ []) a) (faults_of (n ∷ []) b) both) q.1,
      )
  outer-faults (While k at c body) g d w o = absurd (both_ways false refl g)
  outer-faults (Do k at body c) g d w o = absurd (both_ways false refl g)
  outer-faults (InBfs k at h test body) g d w o = absurd (both_ways false refl g)
  outer-faults (InBfsBoth k at h test body back_key back_test back) g d w o = absurd (both_ways false refl g)
  outer-faults (Return k at v) g d w o = absurd (both_ways false refl g)
