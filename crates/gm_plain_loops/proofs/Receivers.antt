-- Message loops whose receivers send through node variables.
use Rattle.std.proofs.Common.{◌≡◌, ◌⊎◌, inl, inr, ℕ, Bool, true, false, Option, List, [], ◌∷◌, ◌++◌, length, refl, ap, ◌∙◌, sym, subst, ⊎_elim, ◌<◌, ◌≤◌, append_assoc, arith}
use Rattle.std.specs.Prelude.{◌&&◌, ◌||◌, not, nat_eq, nat_lt, if◌then◌else◌, nat_le}
use Rattle.std.specs.List.{list_all, list_any}
use Rattle.std.proofs.lemmas.Bool.{both_ways, and_from, or_left, or_right, eqb-true, eq-eqb, not-true, lt-ltb, le-leb, cases_lt}
use Rattle.gm_base.specs.declared.places.Place.{Place}
use Rattle.gm_value.specs.Bag.{IsIn}
use Rattle.gm_value.specs.declared.reductions.Reduce.{Reduce}
use Rattle.gm_value.specs.declared.values.VType.{VType}
use Rattle.gm_value.specs.declared.values.VType.TheVariants as V
use Rattle.gm_ast.specs.declared.tree.Declaration.{Declaration}
use Rattle.gm_ast.specs.declared.tree.Sort.TheVariants as Sorts
use Rattle.gm_ast.specs.declared.tree.Target.{Target}
use Rattle.gm_ast.specs.declared.tree.Target.TheVariants as T
use Rattle.gm_ast.specs.declared.tree.TotalKey.{TotalKey}
use Rattle.gm_ast.specs.Names.{is}
use Rattle.gm_ast.specs.Program as S
use Rattle.gm_ast.specs.Program.{Expr, Stmt, Program}
use Rattle.gm_ast.specs.Ways.{is_in}
use Rattle.gm_forms.proofs.CutTests.{Covers, turned}
use Rattle.gm_forms.proofs.Named.{both-true}
use Rattle.gm_forms.specs.Cut as cut
use Rattle.gm_forms.specs.Cut.{spares_locals, is_outer_local}
use Rattle.gm_forms.specs.Forms.{depth_at, may, is_flat, is_within, are_reduced, is_inner_given, is_inner_body, is_off, avoids}
use Rattle.gm_forms.specs.Sharing.{are_alike, are_distinct, variables_of, targets_alike, is_through, are_at_once}
use Rattle.gm_forms.specs.Sharing as sharing
use Rattle.gm_forms.specs.Typing.{all_have_types, fits_targets, has_type, is_typed_in}
use Rattle.gm_forms.specs.Uses.{Written, Owner, NodeValue, use_as, uses_in, uses_in_all, uses_of_targets, uses_of}
use Rattle.gm_semantics.specs.Statements.{variable_at}
use Rattle.gm_lowering.specs.Layouts.{Layout, layout, is_global, is_scalar_of}
use Rattle.gm_lowering.specs.Plans.{Way, Puts, Folds, Sends, Picks, way_of, is_property_of, is_property_off, Away, away_by, aways}
use Rattle.gm_lowering.specs.MessageLoops.{sets_nothing, inner_gives}
use Rattle.gm_lowering.specs.OwnLoops.{are_any, is_kept_property}
use Rattle.gm_lowering.specs.Sent.{may_hold_node, sends_through, sender_gives}
use Rattle.gm_lowering.specs.ReceiverSends.{is_sent_target, is_taken_here, is_part, goes_away, are_told, tells_sent}
use Rattle.gm_lowering.specs.SentBehind.{stands, made_stands}
use Rattle.gm_lowering.specs.Made.{Made, made}
use Rattle.gm_ast.specs.declared.tree.Sort.{Sort}
use Rattle.gm_ast.specs.Names.{sort_eq}
use Rattle.gm_lowering.specs.Sites.{is_local, is_body, same_length}
use Rattle.gm_lowering_master.specs.Plain.{parts_of, sent_parts}
use Rattle.gm_plain_loops.specs.Tests.{asks_inside, goes_well, end_together, total_follows, suits_body, is_sent, is_folded, sends_any, is_to, is_unsent, sends_upto, folds_first}
use Rattle.gm_plain_loops.proofs.Names.{Fine, split, below, role-of, or-split, a-local}
use Rattle.gm_plain_loops.proofs.Bodies.{as-long, all-kept, depth-is, declared-fits}
use Rattle.gm_plain_loops.proofs.Inners.{exprs_pass, inner-gives'}
use Rattle.gm_plain_loops.proofs.Spots.{in-left, in-right, in-split}

-- ---- parts among others

part-left : (xs ys : List (ℕ × ℕ)) (k q : ℕ) → is_part xs k q ≡ true → is_part (xs ++ ys) k q ≡ true
part-left [] ys k q h = absurd (both_ways false refl h)
part-left (x ∷ xs) ys k q h =
    or-split (nat_eq x.0 q && nat_eq x.1 k) (is_part xs k q) h (λ e. or_left (nat_eq x.0 q && nat_eq x.1 k) (is_part (xs ++ ys) k q) e) (λ e. or_right (nat_eq x.0 q && nat_eq x.1 k) (is_part (xs ++ ys) k q) (part-left xs ys k q e))

part-right : (xs ys : List (ℕ × ℕ)) (k q : ℕ) → is_part ys k q ≡ true → is_part (xs ++ ys) k q ≡ true
part-right [] ys k q h = h
part-right (x ∷ xs) ys k q h = or_right (nat_eq x.0 q && nat_eq x.1 k) (is_part (xs ++ ys) k q) (part-right xs ys k q h)

part-both : (xs ys : List (ℕ × ℕ)) (k q : ℕ) → is_part (xs ++ ys) k q ≡ true → (is_part xs k q ≡ true) ⊎ (is_part ys k q ≡ true)
part-both [] ys k q h = inr h
part-both (x ∷ xs) ys k q h =
    or-split (nat_eq x.0 q && nat_eq x.1 k) (is_part (xs ++ ys) k q) h (λ e. inl (or_left (nat_eq x.0 q && nat_eq x.1 k) (is_part xs k q) e))
    (λ e. ⊎_elim (λ (g : is_part xs k q ≡ true). inl (or_right (nat_eq x.0 q && nat_eq x.1 k) (is_part xs k q) g)) (λ (g : is_part ys k q ≡ true). inr g) (part-both xs ys k q e))

-- a member is a part
member-part : (xs : List (ℕ × ℕ)) (e : ℕ × ℕ) → IsIn e xs → is_part xs e.1 e.0 ≡ true
member-part [] e i = absurd i
member-part (x ∷ xs) e i =
    ⊎_elim
    (λ (z : e ≡ x).
    or_left (nat_eq x.0 e.0 && nat_eq x.1 e.1) (is_part xs e.1 e.0)
    (and_from (nat_eq x.0 e.0) (nat_eq x.1 e.1) (eq-eqb x.0 e.0 (ap (λ (p : ℕ × ℕ). p.0) (sym z))) (eq-eqb x.1 e.1 (ap (λ (p : ℕ × ℕ). p.1) (sym z)))))
    (λ (j : IsIn e xs). or_right (nat_eq x.0 e.0 && nat_eq x.1 e.1) (is_part xs e.1 e.0) (member-part xs e j)) i

all-members : {A : Type 0} (t : A → Bool) (xs : List A) → ((x : A) → IsIn x xs → t x ≡ true) → list_all t xs ≡ true
all-members t [] h = refl
all-members t (x ∷ xs) h = and_from (t x) (list_all t xs) (h x (inl refl)) (all-members t xs (λ y i. h y (inr i)))

-- parts of a reduction that is sent are among those of all that are
abbrev pub Within : List (ℕ × ℕ) → Away → Type 0
Within out a = (q : ℕ) → is_part (parts_of a.total.key.statement a.targets) a.total.key.statement q ≡ true → is_part out a.total.key.statement q ≡ true

pub all-within : (sends : List Away) (a : Away) → IsIn a sends → Within (sent_parts sends) a
all-within [] a j q h = absurd j
all-within (s ∷ rest) a j q h =
    let k = a.total.key.statement in
    ⊎_elim (λ (e : a ≡ s). part-left (parts_of s.total.key.statement s.targets) (sent_parts rest) k q (subst (λ z. is_part (parts_of z.total.key.statement z.targets) k q ≡ true) e h))
    (λ (l : IsIn a rest). part-right (parts_of s.total.key.statement s.targets) (sent_parts rest) k q (all-within rest a l q h)) j

all-out : (out : List (ℕ × ℕ)) (k x : ℕ) (ts : List Target) → list_all (is_through x) ts ≡ true → ((q : ℕ) → is_part (parts_of k ts) k q ≡ true → is_part out k q ≡ true) → list_all (is_sent_target out k) ts ≡ true
all-out out k x [] h w = refl
all-out out k x (T.Scalar y at ∷ ts) h w = absurd (both_ways false refl h)
all-out out k x (T.Property y q at ∷ ts) h w =
    and_from (is_part out k q) (list_all (is_sent_target out k) ts)
    (w q (or_left (nat_eq q q && nat_eq k k) (is_part (parts_of k ts) k q) (and_from (nat_eq q q) (nat_eq k k) (eq-eqb q q refl) (eq-eqb k k refl))))
    (all-out out k x ts (both-true (nat_eq y x) (list_all (is_through x) ts) h).1 (λ z m. w z (or_right (nat_eq q z && nat_eq k k) (is_part (parts_of k ts) k z) m)))

scalars-taken : (out : List (ℕ × ℕ)) (k : ℕ) (ts : List Target) → list_all sharing.is_scalar ts ≡ true → list_all (is_taken_here out k) ts ≡ true
scalars-taken out k [] h = refl
scalars-taken out k (T.Scalar x at ∷ ts) h = scalars-taken out k ts h
scalars-taken out k (T.Property x q at ∷ ts) h = absurd (both_ways false refl h)

scalars-here : (i : ℕ) (ts : List Target) → list_all sharing.is_scalar ts ≡ true → list_all (cut.is_here i) ts ≡ true
scalars-here i [] h = refl
scalars-here i (T.Scalar x at ∷ ts) h = scalars-here i ts h
scalars-here i (T.Property x q at ∷ ts) h = absurd (both_ways false refl h)

properties-here : (i x : ℕ) (ts : List Target) → x ≡ i → list_all (is_through x) ts ≡ true → list_all (cut.is_here i) ts ≡ true
properties-here i x [] e h = refl
properties-here i x (T.Scalar y at ∷ ts) e h = absurd (both_ways false refl h)
properties-here i x (T.Property y q at ∷ ts) e h =
    let k = both-true (nat_eq y x) (list_all (is_through x) ts) h in
    and_from (nat_eq y i) (list_all (cut.is_here i) ts) (ap (nat_eq y) (sym e) ∙ k.0) (properties-here i x ts e k.1)

-- parts of several reductions that are sent
parts-both : (xs ys : List Away) (k q : ℕ) → is_part (sent_parts (xs ++ ys)) k q ≡ true → (is_part (sent_parts xs) k q ≡ true) ⊎ (is_part (sent_parts ys) k q ≡ true)
parts-both [] ys k q h = inr h
parts-both (x ∷ xs) ys k q h =
    let here = parts_of x.total.key.statement x.targets in
    ⊎_elim
    (λ (e : is_part here k q ≡ true). inl (part-left here (sent_parts xs) k q e))
    (λ (e : is_part (sent_parts (xs ++ ys)) k q ≡ true).
    ⊎_elim
    (λ (g : is_part (sent_parts xs) k q ≡ true). inl (part-right here (sent_parts xs) k q g))
    (λ (g : is_part (sent_parts ys) k q ≡ true). inr g)
    (parts-both xs ys k q e))
    (part-both here (sent_parts (xs ++ ys)) k q h)

-- a property to which something is sent is one of a target, by the target's statement
part-there : (n : ℕ) (ts : List Target) (k q : ℕ) → is_part (parts_of n ts) k q ≡ true → (list_any (is_to q) ts ≡ true) × (n ≡ k)
part-there n [] k q h = absurd (both_ways false refl h)
part-there n (T.Scalar x at ∷ ts) k q h = part-there n ts k q h
part-there n (T.Property x p at ∷ ts) k q h =
    or-split (nat_eq p q && nat_eq n k) (is_part (parts_of n ts) k q) h
    (λ e. let r = both-true (nat_eq p q) (nat_eq n k) e in (or_left (nat_eq p q) (list_any (is_to q) ts) r.0, eqb-true n k r.1))
    (λ e. let r = part-there n ts k q e in (or_right (nat_eq p q) (list_any (is_to q) ts) r.0, r.1))

one-part : (w : Way) (total : TotalKey) (r : Reduce) (ts : List Target) (k q m : ℕ) → is_part (sent_parts (away_by w total r ts)) k q ≡ true → nat_le k m ≡ true
    → is_sent w && (list_any (is_to q) ts && nat_le total.key.statement m) ≡ true
one-part Sends total r ts k q m h l =
    let n = total.key.statement in
    let e = part-there n ts k q (only (parts_of n ts) h) in
    and_from (list_any (is_to q) ts) (nat_le n m) e.0 (ap (λ z. nat_le z m) e.1 ∙ l) where
      only : (us : List (ℕ × ℕ)) → is_part (us ++ []) k q ≡ true → is_part us k q ≡ true
      only us h = ⊎_elim (λ (e : is_part us k q ≡ true). e) (λ (e : is_part [] k q ≡ true). absurd (both_ways false refl e)) (part-both us [] k q h)
one-part Puts total r ts k q m h l = absurd (both_ways false refl h)
one-part Folds total r ts k q m h l = absurd (both_ways false refl h)
one-part Picks total r ts k q m h l = absurd (both_ways false refl h)

-- what is sent to by a statement is told
sent-upto : (ds : List Declaration) (i k q m : ℕ) (st : Stmt) → is_part (sent_parts (aways ds i st)) k q ≡ true → nat_le k m ≡ true → sends_upto ds i q m st ≡ true
sent-upto ds i k q m (S.Then s t) h l =
    ⊎_elim
    (λ (e : is_part (sent_parts (aways ds i s)) k q ≡ true). or_left (sends_upto ds i q m s) (sends_upto ds i q m t) (sent-upto ds i k q m s e l))
    (λ (e : is_part (sent_parts (aways ds i t)) k q ≡ true). or_right (sends_upto ds i q m s) (sends_upto ds i q m t) (sent-upto ds i k q m t e l))
    (parts-both (aways ds i s) (aways ds i t) k q h)
sent-upto ds i k q m (S.If j w s t) h l =
    ⊎_elim
    (λ (e : is_part (sent_parts (aways ds i s)) k q ≡ true). or_left (sends_upto ds i q m s) (sends_upto ds i q m t) (sent-upto ds i k q m s e l))
    (λ (e : is_part (sent_parts (aways ds i t)) k q ≡ true). or_right (sends_upto ds i q m s) (sends_upto ds i q m t) (sent-upto ds i k q m t e l))
    (parts-both (aways ds i s) (aways ds i t) k q h)
sent-upto ds i k q m (S.Combine j total r ts es) h l = one-part (way_of ds i ts) total r ts k q m h l
sent-upto ds i k q m S.Skip h l = absurd (both_ways false refl h)
sent-upto ds i k q m (S.Declare j x e) h l = absurd (both_ways false refl h)
sent-upto ds i k q m (S.DeclareEdge x z at) h l = absurd (both_ways false refl h)
sent-upto ds i k q m (S.Assign j t e) h l = absurd (both_ways false refl h)
sent-upto ds i k q m (S.Defer j t e) h l = absurd (both_ways false refl h)
sent-upto ds i k q m (S.Group j at g z e) h l = absurd (both_ways false refl h)
sent-upto ds i k q m (S.Foreach j at hd test body) h l = absurd (both_ways false refl h)
sent-upto ds i k q m (S.For j at hd test body) h l = absurd (both_ways false refl h)
sent-upto ds i k q m (S.While j at e body) h l = absurd (both_ways false refl h)
sent-upto ds i k q m (S.Do j at body e) h l = absurd (both_ways false refl h)
sent-upto ds i k q m (S.InBfs j at s test body) h l = absurd (both_ways false refl h)
sent-upto ds i k q m (S.InBfsBoth j at s test body bk bt back) h l = absurd (both_ways false refl h)
sent-upto ds i k q m (S.Return j at e) h l = absurd (both_ways false refl h)

-- what is unsent up to a number is sent behind it, or not at all
less-or-not : (a b : ℕ) → nat_lt a b ≡ false → nat_le b a ≡ true
less-or-not a b h = ⊎_elim (λ (lt : a < b). absurd (both_ways (nat_lt a b) h (lt-ltb a b lt))) (λ (le : b ≤ a). le-leb b a le) (cases_lt a b)

unsent-behind : (ds : List Declaration) (i : ℕ) (body : Stmt) (m q : ℕ) → sends_upto ds i q m body ≡ false → list_all (λ e. not (nat_eq e.0 q) || nat_lt m e.1) (sent_parts (aways ds i body)) ≡ true
unsent-behind ds i body m q h = all-members (λ (e : ℕ × ℕ). not (nat_eq e.0 q) || nat_lt m e.1) (sent_parts (aways ds i body)) (λ e j. by e j (nat_eq e.0 q) (nat_lt m e.1) refl refl) where
  by : (e : ℕ × ℕ) → IsIn e (sent_parts (aways ds i body)) → (a b : Bool) → nat_eq e.0 q ≡ a → nat_lt m e.1 ≡ b → not a || b ≡ true
  by e j false b f g = refl
  by e j true true f g = refl
  by e j true false f g =
      let part : is_part (sent_parts (aways ds i body)) e.1 q ≡ true = subst (λ z. is_part (sent_parts (aways ds i body)) e.1 z ≡ true) (eqb-true e.0 q f) (member-part (sent_parts (aways ds i body)) e j) in
      absurd (both_ways (sends_upto ds i q m body) h (sent-upto ds i e.1 q m body part (less-or-not m e.1 g)))

unsent-here : (ds : List Declaration) (i : ℕ) (body : Stmt) (m q : ℕ) → sends_upto ds i q m body ≡ false → is_part (sent_parts (aways ds i body)) m q ≡ false
unsent-here ds i body m q h = by (is_part (sent_parts (aways ds i body)) m q) refl where
  by : (b : Bool) → is_part (sent_parts (aways ds i body)) m q ≡ b → b ≡ false
  by false e = refl
  by true e = absurd (both_ways (sends_upto ds i q m body) h (sent-upto ds i m q m body e (le-leb m m (omega arith))))

unsent-taken : (ds : List Declaration) (i : ℕ) (body : Stmt) (k : ℕ) (ts : List Target) → list_all (is_unsent ds i body k) ts ≡ true → list_all (is_taken_here (sent_parts (aways ds i body)) k) ts ≡ true
unsent-taken ds i body k [] h = refl
unsent-taken ds i body k (T.Scalar x at ∷ ts) h = unsent-taken ds i body k ts h
unsent-taken ds i body k (T.Property x q at ∷ ts) h =
    let e = both-true (not (sends_upto ds i q k body)) (list_all (is_unsent ds i body k) ts) h in
    and_from (not (is_part (sent_parts (aways ds i body)) k q)) (list_all (is_taken_here (sent_parts (aways ds i body)) k) ts)
    (ap not (unsent-here ds i body k q (not-true (sends_upto ds i q k body) e.0))) (unsent-taken ds i body k ts e.1)

to-properties : (x : ℕ) (ts : List Target) → list_all (is_through x) ts ≡ true → list_all (is_property_of x) ts ≡ true
to-properties x [] h = refl
to-properties x (T.Scalar y at ∷ ts) h = absurd (both_ways false refl h)
to-properties x (T.Property y q at ∷ ts) h = let k = both-true (nat_eq y x) (list_all (is_through x) ts) h in and_from (nat_eq y x) (list_all (is_property_of x) ts) k.0 (to-properties x ts k.1)

some-left : {A : Type 0} (xs ys : List A) → are_any xs ≡ true → are_any (xs ++ ys) ≡ true
some-left [] ys h = absurd (both_ways false refl h)
some-left (x ∷ xs) ys h = refl

some-right : {A : Type 0} (xs ys : List A) → are_any ys ≡ true → are_any (xs ++ ys) ≡ true
some-right [] ys h = h
some-right (x ∷ xs) ys h = refl

one-sent : (w : Way) (total : TotalKey) (r : Reduce) (ts : List Target) → is_sent w ≡ true → are_any (away_by w total r ts) ≡ true
one-sent Sends total r ts h = refl
one-sent Puts total r ts h = absurd (both_ways false refl h)
one-sent Folds total r ts h = absurd (both_ways false refl h)
one-sent Picks total r ts h = absurd (both_ways false refl h)

-- what sends gives something away
pub some-sent : (ds : List Declaration) (i : ℕ) (st : Stmt) → sends_any ds i st ≡ true → are_any (aways ds i st) ≡ true
some-sent ds i (S.Then s t) h = or-split (sends_any ds i s) (sends_any ds i t) h (λ e. some-left (aways ds i s) (aways ds i t) (some-sent ds i s e)) (λ e. some-right (aways ds i s) (aways ds i t) (some-sent ds i t e))
some-sent ds i (S.If k e s t) h = or-split (sends_any ds i s) (sends_any ds i t) h (λ z. some-left (aways ds i s) (aways ds i t) (some-sent ds i s z)) (λ z. some-right (aways ds i s) (aways ds i t) (some-sent ds i t z))
some-sent ds i (S.Combine k total r ts es) h = one-sent (way_of ds i ts) total r ts h
some-sent ds i S.Skip h = absurd (both_ways false refl h)
some-sent ds i (S.Declare k x e) h = absurd (both_ways false refl h)
some-sent ds i (S.DeclareEdge x z at) h = absurd (both_ways false refl h)
some-sent ds i (S.Assign k t e) h = absurd (both_ways false refl h)
some-sent ds i (S.Defer k t e) h = absurd (both_ways false refl h)
some-sent ds i (S.Group k at g q e) h = absurd (both_ways false refl h)
some-sent ds i (S.Foreach k at hd test body) h = absurd (both_ways false refl h)
some-sent ds i (S.For k at hd test body) h = absurd (both_ways false refl h)
some-sent ds i (S.While k at e body) h = absurd (both_ways false refl h)
some-sent ds i (S.Do k at body e) h = absurd (both_ways false refl h)
some-sent ds i (S.InBfs k at s test body) h = absurd (both_ways false refl h)
some-sent ds i (S.InBfsBoth k at s test body bk bt back) h = absurd (both_ways false refl h)
some-sent ds i (S.Return k at e) h = absurd (both_ways false refl h)

module _ (p : Program) (n i : ℕ) where
  abbrev ds : List Declaration
  ds = p.declarations

  abbrev c : Layout
  c = layout p

  abbrev its : List ℕ
  its = n ∷ (i ∷ [])

  abbrev js : List ℕ
  js = i ∷ (n ∷ [])

  abbrev covers : Covers js its
  covers = turned i n

  abbrev suit : Stmt → Bool
  suit st = suits_body ds false its st

  -- ---- what receivers do is what such receivers may do

  -- a reduction to properties of the node is folded, and one through another variable is sent
  folded : (x q : ℕ) (at : Place) (ts : List Target) → nat_eq x i ≡ true → list_all (is_property_of i) ts ≡ true → is_folded (way_of ds i (T.Property x q at ∷ ts)) ≡ true
  folded x q at ts e h = ap (λ b. is_folded (if b && list_all (is_property_of i) ts then Folds else (if not b || list_any (is_property_off i) ts then Sends else Picks))) e ∙ ap (λ b. is_folded (if b then Folds else (if list_any (is_property_off i) ts then Sends else Picks))) h

  away-sends : (x q : ℕ) (at : Place) (ts : List Target) → nat_eq x i ≡ false → way_of ds i (T.Property x q at ∷ ts) ≡ Sends
  away-sends x q at ts e = ap (λ b. if b && list_all (is_property_of i) ts then Folds else (if not b || list_any (is_property_off i) ts then Sends else Picks)) e

  abbrev spared : Target → Bool
  spared t = not (is_outer_local ds t)

  -- one through another variable than the two iterators
  through-gives : (found' : Expr → Bool) (r : Reduce) (x q : ℕ) (at : Place) (ts : List Target) (es : List Expr) → are_alike (T.Property x q at ∷ ts) ≡ true → Fine p (uses_of_targets (T.Property x q at ∷ ts))
      → same_length (T.Property x q at ∷ ts) es ≡ true → list_all found' es ≡ true → list_all (goes_well ds false its) (T.Property x q at ∷ ts) ≡ true → list_all (is_off n) (T.Property x q at ∷ ts) ≡ true → nat_eq x i ≡ false
      → sends_through c its found' r (T.Property x q at ∷ ts) es ≡ true
  through-gives found' r x q at ts es a u l w g m e =
      let all = T.Property x q at ∷ ts in
      let thr : list_all (is_through x) all ≡ true = and_from (nat_eq x x) (list_all (is_through x) ts) (eq-eqb x x refl) a in
      let u2 = split p (use_as Owner x ++ use_as NodeValue q) (uses_of_targets ts) u in
      let uo = (split p (use_as Owner x) (use_as NodeValue q) u2.0).0 in
      let g2 = both-true (is_in its x || (is Sorts.Scalar (variable_at ds x) || is_global (variable_at ds x))) (list_all (goes_well ds false its) ts) g in
      let off : nat_eq x n ≡ false = not-true (nat_eq x n) (both-true (not (nat_eq x n)) (list_all (is_off n) ts) m).0 in
      let holds : is Sorts.Scalar (variable_at ds x) || is_global (variable_at ds x) ≡ true =
      or-split (is_in its x) (is Sorts.Scalar (variable_at ds x) || is_global (variable_at ds x)) g2.0
      (λ z. absurd (or-split (nat_eq x n) (nat_eq x i || false) z (λ s. both_ways (nat_eq x n) off s) (λ s. or-split (nat_eq x i) false s (λ s. both_ways (nat_eq x i) e s) (λ s. both_ways false refl s)))) (λ z. z) in
      and_from (not (is_in its x)) _ (ap (λ b. not (b || (nat_eq x i || false))) off ∙ ap (λ b. not (b || false)) e)
      (and_from (may_hold_node c x) (list_all (is_kept_property c x) all && (same_length all es && list_all found' es))
      (and_from (nat_lt x (length ds)) (is Sorts.Scalar (variable_at ds x) || is_global (variable_at ds x)) (below p Owner x uo) holds)
      (and_from (list_all (is_kept_property c x) all) (same_length all es && list_all found' es) (all-kept p x all u thr) (and_from (same_length all es) (list_all found' es) l w)))

  -- ---- what inner bodies do that send is what they may do

  sender-gives : (found' : Expr → Bool) (r : Reduce) (ts : List Target) (es : List Expr) → are_reduced (is_inner_given ds) (is_within ds 2) r ts ≡ true → are_alike ts ≡ true → are_distinct (variables_of ts) ≡ true → Fine p (uses_of_targets ts)
      → fits_targets ds r ts ≡ true → same_length ts es ≡ true → list_all found' es ≡ true → list_all (goes_well ds false its) ts ≡ true → end_together ds ts ≡ true → list_all spared ts ≡ true → list_all (is_off n) ts ≡ true
      → sender_gives c n i found' r ts es ≡ true
  sender-gives found' r [] es f a d u y l w g o v m = absurd (both_ways false refl y)
  sender-gives found' r (T.Scalar x at ∷ ts) es f a d u y l w g o v m =
      let all = T.Scalar x at ∷ ts in
      or_left (inner_gives c i found' r all es) (sends_through c its found' r all es) (inner-gives' p found' i r all es f a d u y l w (scalars-here i ts a) o v)
  sender-gives found' r (T.Property x q at ∷ ts) es f a d u y l w g o v m = by (nat_eq x i) refl where
    all : List Target
    all = T.Property x q at ∷ ts

    by : (b : Bool) → nat_eq x i ≡ b → sender_gives c n i found' r all es ≡ true
    by true e =
        or_left (inner_gives c i found' r all es) (sends_through c its found' r all es)
        (inner-gives' p found' i r all es f a d u y l w (and_from (nat_eq x i) (list_all (cut.is_here i) ts) e (properties-here i x ts (eqb-true x i e) a)) o v)
    by false e = or_right (inner_gives c i found' r all es) (sends_through c its found' r all es) (through-gives found' r x q at ts es a u l w g m e)

  -- an inner body that reduces to no property of the outer node does what such a body may
  module _ (found' : Expr → Bool) (edge : Bool) where
    abbrev is_inner : Stmt → Bool
    is_inner st = is_inner_body ds its edge st

    abbrev is_fit : Stmt → Bool
    is_fit st = is_body c found' sets_nothing (sender_gives c n i found') st

    pub sender-body : (result : Option VType) (st : Stmt) → is_inner st ≡ true → exprs_pass p found' st ≡ true → Fine p (uses_of st) → is_typed_in ds result st ≡ true → targets_alike st ≡ true → suit st ≡ true
        → spares_locals ds st ≡ true → avoids n st ≡ true → is_fit st ≡ true
    sender-body result S.Skip f e u y t h v m = refl
    sender-body result (S.Then a b) f e u y t h v m =
        let f2 = both-true (is_inner a) (is_inner b) f in
        let e2 = both-true (exprs_pass p found' a) (exprs_pass p found' b) e in
        let u2 = split p (uses_of a) (uses_of b) u in
        let y2 = both-true (is_typed_in ds result a) (is_typed_in ds result b) y in
        let t2 = both-true (targets_alike a) (targets_alike b) t in
        let h2 = both-true (suit a) (suit b) h in
        let v2 = both-true (spares_locals ds a) (spares_locals ds b) v in
        let m2 = both-true (avoids n a) (avoids n b) m in
        and_from (is_fit a) (is_fit b) (sender-body result a f2.0 e2.0 u2.0 y2.0 t2.0 h2.0 v2.0 m2.0)
        (sender-body result b f2.1 e2.1 u2.1 y2.1 t2.1 h2.1 v2.1 m2.1)
    sender-body result (S.Declare key x w) f e u y t h v m =
        let f2 = both-true (nat_eq (depth_at ds x) 2) (may (is_flat its edge) w) f in declared-fits p i key x 2 its edge w found' f2.0 refl u e
    sender-body result (S.DeclareEdge x z at) f e u y t h v m = refl
    sender-body result (S.Assign key (T.Scalar x at) w) f e u y t h v m =
        let f2 = both-true (nat_eq (depth_at ds x) 2) (is_flat its edge w) f in
        let u2 = split p (use_as Written x) (uses_in w) u in
        and_from (is_local c x) (found' w) (a-local p Written x u2.0 (role-of p Written x u2.0) (depth-is p x 2 f2.0 refl)) e
    sender-body result (S.Assign key (T.Property x z at) w) f e u y t h v m = absurd (both_ways false refl f)
    sender-body result (S.Combine key total r ts es) f e u y t h v m =
        let f2 = both-true (are_reduced (is_inner_given ds) (is_within ds 2) r ts) (list_all (is_flat its edge) es) f in
        let u2 = split p (uses_of_targets ts) (uses_in_all es) u in
        let y2 = both-true (all_have_types ds ts es) (fits_targets ds r ts) y in
        let t2 = both-true (are_alike ts) (are_distinct (variables_of ts)) t in
        let h1 = both-true (list_all (asks_inside ds its) es) (list_all (goes_well ds false its) ts && (end_together ds ts && total_follows its key total ts es)) h in
        let h2 = both-true (list_all (goes_well ds false its) ts) (end_together ds ts && total_follows its key total ts es) h1.1 in
        let h3 = both-true (end_together ds ts) (total_follows its key total ts es) h2.1 in
        sender-gives found' r ts es f2.0 t2.0 t2.1 u2.0 y2.1 (as-long p ts es y2.0) e h2.0 h3.0 v m
    sender-body result (S.If key w a b) f e u y t h v m =
        let f1 = both-true (is_flat its edge w) (is_inner a && is_inner b) f in
        let f2 = both-true (is_inner a) (is_inner b) f1.1 in
        let e1 = both-true (found' w) (exprs_pass p found' a && exprs_pass p found' b) e in
        let e2 = both-true (exprs_pass p found' a) (exprs_pass p found' b) e1.1 in
        let u1 = split p (uses_in w) (uses_of a ++ uses_of b) u in
        let u2 = split p (uses_of a) (uses_of b) u1.1 in
        let y1 = both-true (has_type ds V.Flag w) (is_typed_in ds result a && is_typed_in ds result b) y in
        let y2 = both-true (is_typed_in ds result a) (is_typed_in ds result b) y1.1 in
        let t2 = both-true (targets_alike a) (targets_alike b) t in
        let h1 = both-true (asks_inside ds its w) (suit a && suit b) h in
        let h2 = both-true (suit a) (suit b) h1.1 in
        let v2 = both-true (spares_locals ds a) (spares_locals ds b) v in
        let m2 = both-true (avoids n a) (avoids n b) m in
        and_from (found' w) (is_fit a && is_fit b) e1.0
        (and_from (is_fit a) (is_fit b) (sender-body result a f2.0 e2.0 u2.0 y2.0 t2.0 h2.0 v2.0 m2.0)
        (sender-body result b f2.1 e2.1 u2.1 y2.1 t2.1 h2.1 v2.1 m2.1))
    sender-body result (S.Defer key ta w) f e u y t h v m = absurd (both_ways false refl f)
    sender-body result (S.Group key at g z w) f e u y t h v m = absurd (both_ways false refl f)
    sender-body result (S.Foreach key at hd test body) f e u y t h v m = absurd (both_ways false refl f)
    sender-body result (S.For key at hd test body) f e u y t h v m = absurd (both_ways false refl f)
    sender-body result (S.While key at w body) f e u y t h v m = absurd (both_ways false refl f)
    sender-body result (S.Do key at body w) f e u y t h v m = absurd (both_ways false refl f)
    sender-body result (S.InBfs key at s test body) f e u y t h v m = absurd (both_ways false refl f)
    sender-body result (S.InBfsBoth key at s test body bk bt back) f e u y t h v m = absurd (both_ways false refl f)
    sender-body result (S.Return key at w) f e u y t h v m = absurd (both_ways false refl f)

  module _ (whole : Stmt) where
    -- the properties to which the body sends, and the statements
    abbrev out : List (ℕ × ℕ)
    out = sent_parts (aways ds i whole)

    stays-here : (w : Way) → is_sent w ≡ false → goes_away w ≡ false
    stays-here Puts h = refl
    stays-here Folds h = refl
    stays-here Picks h = refl
    stays-here Sends h = absurd (both_ways true h refl)

    -- a reduction's way, and what is told of it
    scalars-stay : (ts : List Target) → list_all sharing.is_scalar ts ≡ true → is_sent (way_of ds i ts) ≡ false
    scalars-stay ts h = by (list_all (is_scalar_of is_global ds) ts) (list_all (is_property_of i) ts) (list_any (is_property_off i) ts) (none ts h) where
      none : (us : List Target) → list_all sharing.is_scalar us ≡ true → list_any (is_property_off i) us ≡ false
      none [] h = refl
      none (T.Scalar x at ∷ us) h = none us h
      none (T.Property x q at ∷ us) h = absurd (both_ways false refl h)

      by : (a b d : Bool) → d ≡ false → is_sent (if a then Puts else (if b then Folds else (if d then Sends else Picks))) ≡ false
      by true b d h = refl
      by false true d h = refl
      by false false true h = absurd (both_ways true h refl)
      by false false false h = refl

    told-by : (total : TotalKey) (r : Reduce) (ts : List Target) → are_alike ts ≡ true → not (is_folded (way_of ds i ts)) || list_all (is_unsent ds i whole total.key.statement) ts ≡ true
        → ((a : Away) → IsIn a (away_by (way_of ds i ts) total r ts) → Within out a) → are_told out total.key.statement (way_of ds i ts) ts ≡ true
    told-by total r [] a nf k = by (goes_away (way_of ds i [])) where
      by : (b : Bool) → (if b then true else true) ≡ true
      by true = refl
      by false = refl
    told-by total r (T.Scalar x at ∷ ts) a nf k =
        let all = T.Scalar x at ∷ ts in
        let n = total.key.statement in
        ap (λ b. if b then list_all (is_sent_target out n) all else list_all (is_taken_here out n) all) (stays-here (way_of ds i all) (scalars-stay all a)) ∙ scalars-taken out n ts a
    told-by total r (T.Property x q at ∷ ts) a nf k = by (nat_eq x i) refl where
      all : List Target
      all = T.Property x q at ∷ ts

      number : ℕ
      number = total.key.statement

      by : (b : Bool) → nat_eq x i ≡ b → are_told out number (way_of ds i all) all ≡ true
      by true e =
          let way : is_folded (way_of ds i all) ≡ true = folded x q at ts e (ap (λ z. list_all (is_property_of z) ts) (sym (eqb-true x i e)) ∙ to-properties x ts a) in
          let unsent : list_all (is_unsent ds i whole number) all ≡ true = ap (λ b. not b || list_all (is_unsent ds i whole number) all) (sym way) ∙ nf in
          ap (λ b. if b then list_all (is_sent_target out number) all else list_all (is_taken_here out number) all) (stays-here (way_of ds i all) (apart-ways (way_of ds i all) way)) ∙ unsent-taken ds i whole number all unsent where
            apart-ways : (w : Way) → is_folded w ≡ true → is_sent w ≡ false
            apart-ways Folds h = refl
            apart-ways Puts h = refl
            apart-ways Picks h = refl
            apart-ways Sends h = absurd (both_ways false refl h)
      by false e =
          let thr : list_all (is_through x) all ≡ true = and_from (nat_eq x x) (list_all (is_through x) ts) (eq-eqb x x refl) a in
          let it : Away = record { total = total; reduce = r; targets = all } in
          let within : Within out it = k it (subst (λ w. IsIn it (away_by w total r all)) (sym (away-sends x q at ts e)) (inl refl)) in
          ap (λ w. are_told out number w all) (away-sends x q at ts e) ∙ all-out out number x all thr within

    -- each variable of its targets stands
    stand-scalars : (k : ℕ) (ts : List Target) → ((e : ℕ × ℕ) → IsIn e out → is Sorts.NodeProperty (variable_at ds e.0) ≡ true) → Fine p (uses_of_targets ts) → list_all sharing.is_scalar ts ≡ true → list_all (stands out k) (variables_of ts) ≡ true
    stand-scalars k [] props u h = refl
    stand-scalars k (T.Property x q at ∷ ts) props u h = absurd (both_ways false refl h)
    stand-scalars k (T.Scalar x at ∷ ts) props u h =
        let u2 = split p (use_as Written x) (uses_of_targets ts) u in
        and_from (stands out k x) (list_all (stands out k) (variables_of ts))
        (or_right (is_part out k x) (list_all (λ e. not (nat_eq e.0 x) || nat_lt k e.1) out)
        (all-members (λ (e : ℕ × ℕ). not (nat_eq e.0 x) || nat_lt k e.1) out (λ e j. or_left (not (nat_eq e.0 x)) (nat_lt k e.1) (ap not (unlike e.0 (nat_eq e.0 x) refl (props e j) (role-of p Written x u2.0))))))
        (stand-scalars k ts props u2.1 h) where
          unlike : (y : ℕ) (b : Bool) → nat_eq y x ≡ b → is Sorts.NodeProperty (variable_at ds y) ≡ true → is Sorts.Scalar (variable_at ds x) ≡ true → b ≡ false
          unlike y false e f g = refl
          unlike y true e f g = absurd (both-sorts (variable_at ds x).sort (ap (λ z. is Sorts.NodeProperty (variable_at ds z)) (sym (eqb-true y x e)) ∙ f) g) where
            both-sorts : (s : Sort) → sort_eq Sorts.NodeProperty s ≡ true → sort_eq Sorts.Scalar s ≡ true → ⊥
            both-sorts Sorts.NodeProperty f g = both_ways false refl g
            both-sorts Sorts.Scalar f g = both_ways false refl f
            both-sorts Sorts.Iterator f g = both_ways false refl f
            both-sorts Sorts.Graph f g = both_ways false refl f
            both-sorts Sorts.EdgeProperty f g = both_ways false refl f
            both-sorts Sorts.Edge f g = both_ways false refl f

    stand-sent : (k x : ℕ) (ts : List Target) → list_all (is_through x) ts ≡ true → list_all (is_sent_target out k) ts ≡ true → list_all (stands out k) (variables_of ts) ≡ true
    stand-sent k x [] h g = refl
    stand-sent k x (T.Scalar y at ∷ ts) h g = absurd (both_ways false refl h)
    stand-sent k x (T.Property y q at ∷ ts) h g =
        let g2 = both-true (is_part out k q) (list_all (is_sent_target out k) ts) g in
        and_from (stands out k q) (list_all (stands out k) (variables_of ts)) (or_left (is_part out k q) (list_all (λ e. not (nat_eq e.0 q) || nat_lt k e.1) out) g2.0)
        (stand-sent k x ts (both-true (nat_eq y x) (list_all (is_through x) ts) h).1 g2.1)

    stand-unsent : (k x : ℕ) (ts : List Target) → list_all (is_through x) ts ≡ true → list_all (is_unsent ds i whole k) ts ≡ true → list_all (stands out k) (variables_of ts) ≡ true
    stand-unsent k x [] h g = refl
    stand-unsent k x (T.Scalar y at ∷ ts) h g = absurd (both_ways false refl h)
    stand-unsent k x (T.Property y q at ∷ ts) h g =
        let g2 = both-true (not (sends_upto ds i q k whole)) (list_all (is_unsent ds i whole k) ts) g in
        and_from (stands out k q) (list_all (stands out k) (variables_of ts))
        (or_right (is_part out k q) (list_all (λ e. not (nat_eq e.0 q) || nat_lt k e.1) out) (unsent-behind ds i whole k q (not-true (sends_upto ds i q k whole) g2.0)))
        (stand-unsent k x ts (both-true (nat_eq y x) (list_all (is_through x) ts) h).1 g2.1)

    stand-by : (total : TotalKey) (r : Reduce) (ts : List Target) → ((e : ℕ × ℕ) → IsIn e out → is Sorts.NodeProperty (variable_at ds e.0) ≡ true) → Fine p (uses_of_targets ts) → are_alike ts ≡ true
        → not (is_folded (way_of ds i ts)) || list_all (is_unsent ds i whole total.key.statement) ts ≡ true → ((a : Away) → IsIn a (away_by (way_of ds i ts) total r ts) → Within out a)
        → list_all (stands out total.key.statement) (variables_of ts) ≡ true
    stand-by total r [] props u a nf k = refl
    stand-by total r (T.Scalar x at ∷ ts) props u a nf k = stand-scalars total.key.statement (T.Scalar x at ∷ ts) props u a
    stand-by total r (T.Property x q at ∷ ts) props u a nf k = by (nat_eq x i) refl where
      all : List Target
      all = T.Property x q at ∷ ts

      number : ℕ
      number = total.key.statement

      thr : list_all (is_through x) all ≡ true
      thr = and_from (nat_eq x x) (list_all (is_through x) ts) (eq-eqb x x refl) a

      by : (b : Bool) → nat_eq x i ≡ b → list_all (stands out number) (variables_of all) ≡ true
      by true e =
          let way : is_folded (way_of ds i all) ≡ true = folded x q at ts e (ap (λ z. list_all (is_property_of z) ts) (sym (eqb-true x i e)) ∙ to-properties x ts a) in
          stand-unsent number x all thr (ap (λ b. not b || list_all (is_unsent ds i whole number) all) (sym way) ∙ nf)
      by false e =
          let it : Away = record { total = total; reduce = r; targets = all } in
          stand-sent number x all thr (all-out out number x all thr (k it (subst (λ w. IsIn it (away_by w total r all)) (sym (away-sends x q at ts e)) (inl refl))))

    -- what is told of a body
    pub told-body : (st : Stmt) → targets_alike st ≡ true → folds_first ds i whole st ≡ true → ((a : Away) → IsIn a (aways ds i st) → Within out a) → tells_sent ds i out st ≡ true
    told-body (S.Then a b) t q k =
        let t2 = both-true (targets_alike a) (targets_alike b) t in
        let q2 = both-true (folds_first ds i whole a) (folds_first ds i whole b) q in
        and_from (tells_sent ds i out a) (tells_sent ds i out b) (told-body a t2.0 q2.0 (λ x j. k x (in-left (aways ds i a) (aways ds i b) x j))) (told-body b t2.1 q2.1 (λ x j. k x (in-right (aways ds i a) (aways ds i b) x j)))
    told-body (S.If key e a b) t q k =
        let t2 = both-true (targets_alike a) (targets_alike b) t in
        let q2 = both-true (folds_first ds i whole a) (folds_first ds i whole b) q in
        and_from (tells_sent ds i out a) (tells_sent ds i out b) (told-body a t2.0 q2.0 (λ x j. k x (in-left (aways ds i a) (aways ds i b) x j))) (told-body b t2.1 q2.1 (λ x j. k x (in-right (aways ds i a) (aways ds i b) x j)))
    told-body (S.Combine key total r ts es) t q k = told-by total r ts (both-true (are_alike ts) (are_distinct (variables_of ts)) t).0 q k
    told-body _ t q k = refl

    join : (xs ys : List Made) → list_all (made_stands out) xs ≡ true → list_all (made_stands out) ys ≡ true → list_all (made_stands out) (xs ++ ys) ≡ true
    join [] ys h k = k
    join (x ∷ xs) ys h k = let q = both-true (made_stands out x) (list_all (made_stands out) xs) h in and_from (made_stands out x) (list_all (made_stands out) (xs ++ ys)) q.0 (join xs ys q.1 k)

    pub made-body : ((e : ℕ × ℕ) → IsIn e out → is Sorts.NodeProperty (variable_at ds e.0) ≡ true) → (st : Stmt) → is_inner_body ds its true st ≡ true → Fine p (uses_of st) → targets_alike st ≡ true → folds_first ds i whole st ≡ true
        → ((a : Away) → IsIn a (aways ds i st) → Within out a) → list_all (made_stands out) (made ds n true st) ≡ true
    made-body props (S.Then a b) f u t q k =
        let f2 = both-true (is_inner_body ds its true a) (is_inner_body ds its true b) f in
        let u2 = split p (uses_of a) (uses_of b) u in
        let t2 = both-true (targets_alike a) (targets_alike b) t in
        let q2 = both-true (folds_first ds i whole a) (folds_first ds i whole b) q in
        join (made ds n true a) (made ds n true b) (made-body props a f2.0 u2.0 t2.0 q2.0 (λ x j. k x (in-left (aways ds i a) (aways ds i b) x j))) (made-body props b f2.1 u2.1 t2.1 q2.1 (λ x j. k x (in-right (aways ds i a) (aways ds i b) x j)))
    made-body props (S.If key e a b) f u t q k =
        let f1 = both-true (is_flat its true e) (is_inner_body ds its true a && is_inner_body ds its true b) f in
        let f2 = both-true (is_inner_body ds its true a) (is_inner_body ds its true b) f1.1 in
        let u2 = split p (uses_of a) (uses_of b) (split p (uses_in e) (uses_of a ++ uses_of b) u).1 in
        let t2 = both-true (targets_alike a) (targets_alike b) t in
        let q2 = both-true (folds_first ds i whole a) (folds_first ds i whole b) q in
        join (made ds n true a) (made ds n true b) (made-body props a f2.0 u2.0 t2.0 q2.0 (λ x j. k x (in-left (aways ds i a) (aways ds i b) x j))) (made-body props b f2.1 u2.1 t2.1 q2.1 (λ x j. k x (in-right (aways ds i a) (aways ds i b) x j)))
    made-body props (S.Combine key total r ts es) f u t q k = by (are_at_once ds n true ts) where
      t2 : (are_alike ts ≡ true) × (are_distinct (variables_of ts) ≡ true)
      t2 = both-true (are_alike ts) (are_distinct (variables_of ts)) t

      one : Made
      one = record { total = total; reduce = r; variables = variables_of ts }

      by : (b : Bool) → list_all (made_stands out) (if b then [] else one ∷ []) ≡ true
      by true = refl
      by false =
          and_from (made_stands out one) true
          (and_from (are_distinct (variables_of ts)) (list_all (stands out total.key.statement) (variables_of ts)) t2.1 (stand-by total r ts props (split p (uses_of_targets ts) (uses_in_all es) u).0 t2.0 q k)) refl
    made-body props (S.Foreach key at hd test body) f u t q k = absurd (both_ways false refl f)
    made-body props _ f u t q k = refl

  -- properties to which something is sent
  parts-append : (xs ys : List Away) → sent_parts (xs ++ ys) ≡ sent_parts xs ++ sent_parts ys
  parts-append [] ys = refl
  parts-append (x ∷ xs) ys = ap (λ l. parts_of x.total.key.statement x.targets ++ l) (parts-append xs ys) ∙ sym (append_assoc (parts_of x.total.key.statement x.targets) (sent_parts xs) (sent_parts ys))

  abbrev Property : ℕ × ℕ → Type 0
  Property e = is Sorts.NodeProperty (variable_at ds e.0) ≡ true

  targets-property : (k : ℕ) (ts : List Target) → Fine p (uses_of_targets ts) → (e : ℕ × ℕ) → IsIn e (parts_of k ts) → Property e
  targets-property k [] u e j = absurd j
  targets-property k (T.Scalar x at ∷ ts) u e j = targets-property k ts (split p (use_as Written x) (uses_of_targets ts) u).1 e j
  targets-property k (T.Property x q at ∷ ts) u e j =
      let u2 = split p (use_as Owner x ++ use_as NodeValue q) (uses_of_targets ts) u in
      ⊎_elim (λ (z : e ≡ (q, k)). subst Property (sym z) (role-of p NodeValue q (split p (use_as Owner x) (use_as NodeValue q) u2.0).1)) (λ (l : IsIn e (parts_of k ts)). targets-property k ts u2.1 e l) j

  pub parts-property : (st : Stmt) → Fine p (uses_of st) → (e : ℕ × ℕ) → IsIn e (sent_parts (aways ds i st)) → Property e
  parts-property (S.Then a b) u e j =
      let u2 = split p (uses_of a) (uses_of b) u in
      ⊎_elim (λ (l : IsIn e (sent_parts (aways ds i a))). parts-property a u2.0 e l) (λ (l : IsIn e (sent_parts (aways ds i b))). parts-property b u2.1 e l)
      (in-split (sent_parts (aways ds i a)) (sent_parts (aways ds i b)) e (subst (IsIn e) (parts-append (aways ds i a) (aways ds i b)) j))
  parts-property (S.If key w a b) u e j =
      let u2 = split p (uses_of a) (uses_of b) (split p (uses_in w) (uses_of a ++ uses_of b) u).1 in
      ⊎_elim (λ (l : IsIn e (sent_parts (aways ds i a))). parts-property a u2.0 e l) (λ (l : IsIn e (sent_parts (aways ds i b))). parts-property b u2.1 e l)
      (in-split (sent_parts (aways ds i a)) (sent_parts (aways ds i b)) e (subst (IsIn e) (parts-append (aways ds i a) (aways ds i b)) j))
  parts-property (S.Combine key total r ts es) u e j = by (way_of ds i ts) j where
    by : (w : Way) → IsIn e (sent_parts (away_by w total r ts)) → Property e
    by Sends j =
        ⊎_elim (λ (l : IsIn e (parts_of total.key.statement ts)). targets-property total.key.statement ts (split p (uses_of_targets ts) (uses_in_all es) u).0 e l) (λ (l : IsIn e []). absurd l)
        (in-split (parts_of total.key.statement ts) [] e j)
    by Puts j = absurd j
    by Folds j = absurd j
    by Picks j = absurd j
  parts-property S.Skip u e j = absurd j
  parts-property (S.Declare k x v) u e j = absurd j
  parts-property (S.DeclareEdge x z at) u e j = absurd j
  parts-property (S.Assign k t v) u e j = absurd j
  parts-property (S.Defer k t v) u e j = absurd j
  parts-property (S.Group k at g q v) u e j = absurd j
  parts-property (S.Foreach k at hd test body) u e j = absurd j
  parts-property (S.For k at hd test body) u e j = absurd j
  parts-property (S.While k at v body) u e j = absurd j
  parts-property (S.Do k at body v) u e j = absurd j
  parts-property (S.InBfs k at s test body) u e j = absurd j
  parts-property (S.InBfsBoth k at s test body bk bt back) u e j = absurd j
  parts-property (S.Return k at v) u e j = absurd j
