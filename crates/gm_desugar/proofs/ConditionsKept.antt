-- A program with its conditions hoisted keeps what every pass keeps.
use Rattle.std.proofs.Common.{◌≡◌, ◌++◌, ℕ, Bool, true, false, List, [], ◌∷◌, refl, sym, ap, ◌∙◌, Option, Some}
use Rattle.std.specs.Prelude.{◌&&◌, nat_le}
use Rattle.std.specs.List.{list_all}
use Rattle.gm_base.specs.declared.places.Place.{Place}
use Rattle.gm_value.specs.declared.values.VType.{VType}
use Rattle.gm_value.specs.declared.values.VType.TheVariants.{Flag}
use Rattle.gm_ast.specs.declared.tree.Declaration.{Declaration}
use Rattle.gm_ast.specs.declared.tree.Head.{Head}
use Rattle.gm_ast.specs.declared.tree.Key.{Key}
use Rattle.gm_ast.specs.Loops.{is_nodes}
use Rattle.gm_ast.specs.Program.{Expr, always, Stmt, Skip, Then, For, If, While, Do, sequence}
use Rattle.gm_forms.specs.Forms.{depth_at, is_told}
use Rattle.gm_forms.specs.Order.{folds_in_order, loops_in_order}
use Rattle.gm_forms.specs.Ready.{is_phase_expr, is_phase_code}
use Rattle.gm_forms.specs.Sharing.{loops_share}
use Rattle.gm_forms.specs.Typing.{type_at, is_type, has_type, is_typed_in}
use Rattle.gm_forms.specs.Uses.{Written, Told, suits, use_as, uses_in, uses_of_head, uses_of}
use Rattle.gm_forms.proofs.Named.{both-true, all-append}
use Rattle.gm_forms.proofs.Weaker.{and-true}
use Rattle.gm_desugar.specs.Compounds.{has_no_compounds}
use Rattle.gm_desugar.specs.Conditions.{set_to, asked, if_hoisted, for_hoisted, while_hoisted, do_hoisted, hoisted, has_told_conditions}
use Rattle.gm_desugar.specs.Groups.{has_no_groups}
use Rattle.gm_desugar.specs.Literals.{all_exprs, has_literals}
use Rattle.gm_desugar.proofs.Replacing.{append-true}

module _ (ds : List Declaration) (c : ℕ) where
  -- variables
  module _ (written : list_all (suits ds) (use_as Written c) ≡ true) (told : list_all (suits ds) (use_as Told c) ≡ true) where
    set-named : (k : Key) (e : Expr) → list_all (suits ds) (uses_in e) ≡ true → list_all (suits ds) (uses_of (set_to c k e)) ≡ true
    set-named k e h = append-true (suits ds) (use_as Written c) (uses_in e) written h

    -- nothing behind a part
    then-nothing : (s : Stmt) → list_all (suits ds) (uses_of s) ≡ true → list_all (suits ds) (uses_of (Then s Skip)) ≡ true
    then-nothing s h = append-true (suits ds) (uses_of s) [] h refl

    if-named : (b : Bool) (k : Key) (e : Expr) (s t : Stmt) → list_all (suits ds) (uses_in e) ≡ true → list_all (suits ds) (uses_of s) ≡ true → list_all (suits ds) (uses_of t) ≡ true → list_all (suits ds) (uses_of (if_hoisted b c k e s t)) ≡ true
    if-named true k e s t h p q = append-true (suits ds) (uses_in e) (uses_of s ++ uses_of t) h (append-true (suits ds) (uses_of s) (uses_of t) p q)
    if-named false k e s t h p q =
        append-true (suits ds) (uses_of (set_to c k e)) (uses_of (Then (If k (asked c) s t) Skip)) (set-named k e h)
        (then-nothing (If k (asked c) s t) (append-true (suits ds) (use_as Told c) (uses_of s ++ uses_of t) told (append-true (suits ds) (uses_of s) (uses_of t) p q)))

    for-named : (b : Bool) (k : Key) (at : Place) (hd : Head) (e : Expr) (s : Stmt) → list_all (suits ds) (uses_of_head hd) ≡ true → list_all (suits ds) (uses_in e) ≡ true → list_all (suits ds) (uses_of s) ≡ true → list_all (suits ds) (uses_of (for_hoisted b c k at hd e s)) ≡ true
    for-named true k at hd e s o h p = append-true (suits ds) (uses_of_head hd) (uses_in e ++ uses_of s) o (append-true (suits ds) (uses_in e) (uses_of s) h p)
    for-named false k at hd e s o h p = append-true (suits ds) (uses_of_head hd) (uses_of (if_hoisted false c k e s Skip)) o (if-named false k e s Skip h p refl)

    turn-named : (k : Key) (e : Expr) (s : Stmt) → list_all (suits ds) (uses_in e) ≡ true → list_all (suits ds) (uses_of s) ≡ true → list_all (suits ds) (uses_of (sequence (s ∷ set_to c k e ∷ []))) ≡ true
    turn-named k e s h p = append-true (suits ds) (uses_of s) (uses_of (Then (set_to c k e) Skip)) p (then-nothing (set_to c k e) (set-named k e h))

    while-named : (b : Bool) (k : Key) (at : Place) (e : Expr) (s : Stmt) → list_all (suits ds) (uses_in e) ≡ true → list_all (suits ds) (uses_of s) ≡ true → list_all (suits ds) (uses_of (while_hoisted b c k at e s)) ≡ true
    while-named true k at e s h p = append-true (suits ds) (uses_in e) (uses_of s) h p
    while-named false k at e s h p =
        let turn = sequence (s ∷ set_to c k e ∷ []) in
        append-true (suits ds) (uses_of (set_to c k e)) (uses_of (Then (While k at (asked c) turn) Skip)) (set-named k e h)
        (then-nothing (While k at (asked c) turn) (append-true (suits ds) (use_as Told c) (uses_of turn) told (turn-named k e s h p)))

    do-named : (b : Bool) (k : Key) (at : Place) (e : Expr) (s : Stmt) → list_all (suits ds) (uses_in e) ≡ true → list_all (suits ds) (uses_of s) ≡ true → list_all (suits ds) (uses_of (do_hoisted b c k at s e)) ≡ true
    do-named true k at e s h p = append-true (suits ds) (uses_of s) (uses_in e) p h
    do-named false k at e s h p = append-true (suits ds) (uses_of (sequence (s ∷ set_to c k e ∷ []))) (use_as Told c) (turn-named k e s h p) told

    pub hoisted-named : (s : Stmt) → list_all (suits ds) (uses_of s) ≡ true → list_all (suits ds) (uses_of (hoisted c s)) ≡ true
    hoisted-named (Then s t) h = let u = all-append (suits ds) (uses_of s) (uses_of t) h in append-true (suits ds) (uses_of (hoisted c s)) (uses_of (hoisted c t)) (hoisted-named s u.0) (hoisted-named t u.1)
    hoisted-named (For k at hd e s) h =
        let u = all-append (suits ds) (uses_of_head hd) (uses_in e ++ uses_of s) h in
        let v = all-append (suits ds) (uses_in e) (uses_of s) u.1 in
        for-named (is_told e) k at hd e (hoisted c s) u.0 v.0 (hoisted-named s v.1)
    hoisted-named (If k e s t) h =
        let u = all-append (suits ds) (uses_in e) (uses_of s ++ uses_of t) h in
        let v = all-append (suits ds) (uses_of s) (uses_of t) u.1 in
        if-named (is_told e) k e (hoisted c s) (hoisted c t) u.0 (hoisted-named s v.0) (hoisted-named t v.1)
    hoisted-named (While k at e s) h = let u = all-append (suits ds) (uses_in e) (uses_of s) h in while-named (is_told e) k at e (hoisted c s) u.0 (hoisted-named s u.1)
    hoisted-named (Do k at s e) h = let u = all-append (suits ds) (uses_of s) (uses_in e) h in do-named (is_told e) k at e (hoisted c s) u.1 (hoisted-named s u.0)
    hoisted-named s h = h

  -- the form
  module _ (plain : depth_at ds c ≡ 0) where
    set-form : (k : Key) (e : Expr) → is_phase_expr e ≡ true → is_phase_code ds (set_to c k e) ≡ true
    set-form k e h = and-true (nat_le (depth_at ds c) 0) (is_phase_expr e) (ap (λ d. nat_le d 0) plain) h

    then-form : (s t : Stmt) → is_phase_code ds s ≡ true → is_phase_code ds t ≡ true → is_phase_code ds (Then s t) ≡ true
    then-form s t p q = and-true (is_phase_code ds s) (is_phase_code ds t) p q

    tested-form : (e : Expr) (s : Stmt) → is_phase_expr e ≡ true → is_phase_code ds s ≡ true → is_phase_expr e && is_phase_code ds s ≡ true
    tested-form e s h p = and-true (is_phase_expr e) (is_phase_code ds s) h p

    turn-form : (k : Key) (e : Expr) (s : Stmt) → is_phase_expr e ≡ true → is_phase_code ds s ≡ true → is_phase_code ds (sequence (s ∷ set_to c k e ∷ [])) ≡ true
    turn-form k e s h p = then-form s (Then (set_to c k e) Skip) p (then-form (set_to c k e) Skip (set-form k e h) refl)

    if-form : (b : Bool) (k : Key) (e : Expr) (s t : Stmt) → is_phase_expr e ≡ true → is_phase_code ds s ≡ true → is_phase_code ds t ≡ true → is_phase_code ds (if_hoisted b c k e s t) ≡ true
    if-form true k e s t h p q = and-true (is_phase_expr e) (is_phase_code ds s && is_phase_code ds t) h (then-form s t p q)
    if-form false k e s t h p q = then-form (set_to c k e) (Then (If k (asked c) s t) Skip) (set-form k e h) (then-form (If k (asked c) s t) Skip (then-form s t p q) refl)

    for-form : (b : Bool) (k : Key) (at : Place) (hd : Head) (e : Expr) (s : Stmt) → is_nodes hd.domain ≡ true → is_phase_expr e ≡ true → is_phase_code ds s ≡ true → is_phase_code ds (for_hoisted b c k at hd e s) ≡ true
    for-form true k at hd e s o h p = and-true (is_nodes hd.domain) (is_phase_expr e && is_phase_code ds s) o (tested-form e s h p)
    for-form false k at hd e s o h p = and-true (is_nodes hd.domain) (is_phase_code ds (if_hoisted false c k e s Skip)) o (if-form false k e s Skip h p refl)

    while-form : (b : Bool) (k : Key) (at : Place) (e : Expr) (s : Stmt) → is_phase_expr e ≡ true → is_phase_code ds s ≡ true → is_phase_code ds (while_hoisted b c k at e s) ≡ true
    while-form true k at e s h p = tested-form e s h p
    while-form false k at e s h p =
        let turn = sequence (s ∷ set_to c k e ∷ []) in
        then-form (set_to c k e) (Then (While k at (asked c) turn) Skip) (set-form k e h) (then-form (While k at (asked c) turn) Skip (turn-form k e s h p) refl)

    do-form : (b : Bool) (k : Key) (at : Place) (e : Expr) (s : Stmt) → is_phase_expr e ≡ true → is_phase_code ds s ≡ true → is_phase_code ds (do_hoisted b c k at s e) ≡ true
    do-form true k at e s h p = and-true (is_phase_code ds s) (is_phase_expr e) p h
    do-form false k at e s h p = and-true (is_phase_code ds (sequence (s ∷ set_to c k e ∷ []))) true (turn-form k e s h p) refl

    pub hoisted-form : (s : Stmt) → is_phase_code ds s ≡ true → is_phase_code ds (hoisted c s) ≡ true
    hoisted-form (Then s t) h = let u = both-true (is_phase_code ds s) (is_phase_code ds t) h in then-form (hoisted c s) (hoisted c t) (hoisted-form s u.0) (hoisted-form t u.1)
    hoisted-form (For k at hd e s) h =
        let u = both-true (is_nodes hd.domain) (is_phase_expr e && is_phase_code ds s) h in
        let v = both-true (is_phase_expr e) (is_phase_code ds s) u.1 in
        for-form (is_told e) k at hd e (hoisted c s) u.0 v.0 (hoisted-form s v.1)
    hoisted-form (If k e s t) h =
        let u = both-true (is_phase_expr e) (is_phase_code ds s && is_phase_code ds t) h in
        let v = both-true (is_phase_code ds s) (is_phase_code ds t) u.1 in
        if-form (is_told e) k e (hoisted c s) (hoisted c t) u.0 (hoisted-form s v.0) (hoisted-form t v.1)
    hoisted-form (While k at e s) h = let u = both-true (is_phase_expr e) (is_phase_code ds s) h in while-form (is_told e) k at e (hoisted c s) u.0 (hoisted-form s u.1)
    hoisted-form (Do k at s e) h = let u = both-true (is_phase_code ds s) (is_phase_expr e) h in do-form (is_told e) k at e (hoisted c s) u.1 (hoisted-form s u.0)
    hoisted-form s h = h

-- a test of statements that asks one test of each condition, and nothing of assignments to scalars but the same of what is assigned
module _ (test : Expr → Bool) (all : Stmt → Bool) (c : ℕ)
    (of_skip : all Skip ≡ true) (of_asked : test (asked c) ≡ true) (of_always : test always ≡ true)
    (of_then : (s t : Stmt) → all (Then s t) ≡ all s && all t)
    (of_set : (k : Key) (e : Expr) → all (set_to c k e) ≡ test e)
    (of_if : (k : Key) (e : Expr) (s t : Stmt) → all (If k e s t) ≡ test e && (all s && all t))
    (of_for : (k : Key) (at : Place) (hd : Head) (e : Expr) (s : Stmt) → all (For k at hd e s) ≡ test e && all s)
    (of_while : (k : Key) (at : Place) (e : Expr) (s : Stmt) → all (While k at e s) ≡ test e && all s)
    (of_do : (k : Key) (at : Place) (s : Stmt) (e : Expr) → all (Do k at s e) ≡ all s && test e) where
  then-all : (s t : Stmt) → all s ≡ true → all t ≡ true → all (Then s t) ≡ true
  then-all s t p q = of_then s t ∙ and-true (all s) (all t) p q

  if-one : (k : Key) (e : Expr) (s t : Stmt) → test e ≡ true → all s ≡ true → all t ≡ true → all (If k e s t) ≡ true
  if-one k e s t h p q = of_if k e s t ∙ and-true (test e) (all s && all t) h (and-true (all s) (all t) p q)

  -- a part, then the variable set
  set-all : (k : Key) (e : Expr) (s : Stmt) → test e ≡ true → all s ≡ true → all (sequence (set_to c k e ∷ s ∷ [])) ≡ true
  set-all k e s h p = then-all (set_to c k e) (Then s Skip) (of_set k e ∙ h) (then-all s Skip p of_skip)

  turn-all : (k : Key) (e : Expr) (s : Stmt) → test e ≡ true → all s ≡ true → all (sequence (s ∷ set_to c k e ∷ [])) ≡ true
  turn-all k e s h p = then-all s (Then (set_to c k e) Skip) p (then-all (set_to c k e) Skip (of_set k e ∙ h) of_skip)

  if-all : (b : Bool) (k : Key) (e : Expr) (s t : Stmt) → test e ≡ true → all s ≡ true → all t ≡ true → all (if_hoisted b c k e s t) ≡ true
  if-all true k e s t h p q = if-one k e s t h p q
  if-all false k e s t h p q = set-all k e (If k (asked c) s t) h (if-one k (asked c) s t of_asked p q)

  for-one : (k : Key) (at : Place) (hd : Head) (e : Expr) (s : Stmt) → test e ≡ true → all s ≡ true → all (For k at hd e s) ≡ true
  for-one k at hd e s h p = of_for k at hd e s ∙ and-true (test e) (all s) h p

  for-all : (b : Bool) (k : Key) (at : Place) (hd : Head) (e : Expr) (s : Stmt) → test e ≡ true → all s ≡ true → all (for_hoisted b c k at hd e s) ≡ true
  for-all true k at hd e s h p = for-one k at hd e s h p
  for-all false k at hd e s h p = for-one k at hd always (if_hoisted false c k e s Skip) of_always (if-all false k e s Skip h p of_skip)

  while-one : (k : Key) (at : Place) (e : Expr) (s : Stmt) → test e ≡ true → all s ≡ true → all (While k at e s) ≡ true
  while-one k at e s h p = of_while k at e s ∙ and-true (test e) (all s) h p

  while-all : (b : Bool) (k : Key) (at : Place) (e : Expr) (s : Stmt) → test e ≡ true → all s ≡ true → all (while_hoisted b c k at e s) ≡ true
  while-all true k at e s h p = while-one k at e s h p
  while-all false k at e s h p =
      let turn = sequence (s ∷ set_to c k e ∷ []) in
      set-all k e (While k at (asked c) turn) h (while-one k at (asked c) turn of_asked (turn-all k e s h p))

  do-one : (k : Key) (at : Place) (s : Stmt) (e : Expr) → test e ≡ true → all s ≡ true → all (Do k at s e) ≡ true
  do-one k at s e h p = of_do k at s e ∙ and-true (all s) (test e) p h

  do-all : (b : Bool) (k : Key) (at : Place) (e : Expr) (s : Stmt) → test e ≡ true → all s ≡ true → all (do_hoisted b c k at s e) ≡ true
  do-all true k at e s h p = do-one k at s e h p
  do-all false k at e s h p = do-one k at (sequence (s ∷ set_to c k e ∷ [])) (asked c) of_asked (turn-all k e s h p)

  pub hoisted-all : (s : Stmt) → all s ≡ true → all (hoisted c s) ≡ true
  hoisted-all (Then s t) h = let u = both-true (all s) (all t) (sym (of_then s t) ∙ h) in then-all (hoisted c s) (hoisted c t) (hoisted-all s u.0) (hoisted-all t u.1)
  hoisted-all (For k at hd e s) h = let u = both-true (test e) (all s) (sym (of_for k at hd e s) ∙ h) in for-all (is_told e) k at hd e (hoisted c s) u.0 (hoisted-all s u.1)
  hoisted-all (If k e s t) h =
      let u = both-true (test e) (all s && all t) (sym (of_if k e s t) ∙ h) in
      let v = both-true (all s) (all t) u.1 in
      if-all (is_told e) k e (hoisted c s) (hoisted c t) u.0 (hoisted-all s v.0) (hoisted-all t v.1)
  hoisted-all (While k at e s) h = let u = both-true (test e) (all s) (sym (of_while k at e s) ∙ h) in while-all (is_told e) k at e (hoisted c s) u.0 (hoisted-all s u.1)
  hoisted-all (Do k at s e) h = let u = both-true (all s) (test e) (sym (of_do k at s e) ∙ h) in do-all (is_told e) k at e (hoisted c s) u.1 (hoisted-all s u.0)
  hoisted-all s h = h

-- scalars and counts tell each condition
if-told : (b : Bool) (c : ℕ) (k : Key) (e : Expr) (s t : Stmt) → is_told e ≡ b → has_told_conditions s ≡ true → has_told_conditions t ≡ true → has_told_conditions (if_hoisted b c k e s t) ≡ true
if-told true c k e s t h p q = and-true (is_told e) (has_told_conditions s && has_told_conditions t) h (and-true (has_told_conditions s) (has_told_conditions t) p q)
if-told false c k e s t h p q = and-true (has_told_conditions s && has_told_conditions t) true (and-true (has_told_conditions s) (has_told_conditions t) p q) refl

for-told : (b : Bool) (c : ℕ) (k : Key) (at : Place) (hd : Head) (e : Expr) (s : Stmt) → is_told e ≡ b → has_told_conditions s ≡ true → has_told_conditions (for_hoisted b c k at hd e s) ≡ true
for-told true c k at hd e s h p = and-true (is_told e) (has_told_conditions s) h p
for-told false c k at hd e s h p = if-told false c k e s Skip h p refl

while-told : (b : Bool) (c : ℕ) (k : Key) (at : Place) (e : Expr) (s : Stmt) → is_told e ≡ b → has_told_conditions s ≡ true → has_told_conditions (while_hoisted b c k at e s) ≡ true
while-told true c k at e s h p = and-true (is_told e) (has_told_conditions s) h p
while-told false c k at e s h p = and-true (has_told_conditions s && true) true (and-true (has_told_conditions s) true p refl) refl

do-told : (b : Bool) (c : ℕ) (k : Key) (at : Place) (e : Expr) (s : Stmt) → is_told e ≡ b → has_told_conditions s ≡ true → has_told_conditions (do_hoisted b c k at s e) ≡ true
do-told true c k at e s h p = and-true (has_told_conditions s) (is_told e) p h
do-told false c k at e s h p = and-true (has_told_conditions s && true) true (and-true (has_told_conditions s) true p refl) refl

pub hoisted-told : (c : ℕ) (s : Stmt) → has_told_conditions (hoisted c s) ≡ true
hoisted-told c (Then s t) = and-true (has_told_conditions (hoisted c s)) (has_told_conditions (hoisted c t)) (hoisted-told c s) (hoisted-told c t)
hoisted-told c (For k at hd e s) = for-told (is_told e) c k at hd e (hoisted c s) refl (hoisted-told c s)
hoisted-told c (If k e s t) = if-told (is_told e) c k e (hoisted c s) (hoisted c t) refl (hoisted-told c s) (hoisted-told c t)
hoisted-told c (While k at e s) = while-told (is_told e) c k at e (hoisted c s) refl (hoisted-told c s)
hoisted-told c (Do k at s e) = do-told (is_told e) c k at e (hoisted c s) refl (hoisted-told c s)
hoisted-told c s = refl

and-nothing : (b : Bool) → b ≡ b && true
and-nothing true = refl
and-nothing false = refl

pub hoisted-typed : (ds : List Declaration) (res : Option VType) (c : ℕ) → type_at ds c ≡ Flag → (s : Stmt) → is_typed_in ds res s ≡ true → is_typed_in ds res (hoisted c s) ≡ true
hoisted-typed ds res c flag =
    hoisted-all (has_type ds Flag) (is_typed_in ds res) c refl (ap (λ t. is_type Flag (Some t)) flag) refl
    (λ s t. refl) (λ k e. ap (λ t. has_type ds t e) flag) (λ k e s t. refl) (λ k at hd e s. refl) (λ k at e s. refl) (λ k at s e. refl)

pub hoisted-ordered : (c : ℕ) (s : Stmt) → loops_in_order s ≡ true → loops_in_order (hoisted c s) ≡ true
hoisted-ordered c = hoisted-all folds_in_order loops_in_order c refl refl refl (λ s t. refl) (λ k e. refl) (λ k e s t. refl) (λ k at hd e s. refl) (λ k at e s. refl) (λ k at s e. refl)

pub hoisted-shares : (ds : List Declaration) (c : ℕ) (s : Stmt) → loops_share ds s ≡ true → loops_share ds (hoisted c s) ≡ true
hoisted-shares ds c =
    hoisted-all (λ e. true) (loops_share ds) c refl refl refl (λ s t. refl) (λ k e. refl) (λ k e s t. refl) (λ k at hd e s. refl) (λ k at e s. refl) (λ k at s e. and-nothing (loops_share ds s))

pub hoisted-groups : (c : ℕ) (s : Stmt) → has_no_groups s ≡ true → has_no_groups (hoisted c s) ≡ true
hoisted-groups c =
    hoisted-all (λ e. true) has_no_groups c refl refl refl (λ s t. refl) (λ k e. refl) (λ k e s t. refl) (λ k at hd e s. refl) (λ k at e s. refl) (λ k at s e. and-nothing (has_no_groups s))

pub hoisted-compounds : (ds : List Declaration) (c : ℕ) (s : Stmt) → has_no_compounds ds s ≡ true → has_no_compounds ds (hoisted c s) ≡ true
hoisted-compounds ds c =
    hoisted-all (λ e. true) (has_no_compounds ds) c refl refl refl (λ s t. refl) (λ k e. refl) (λ k e s t. refl) (λ k at hd e s. refl) (λ k at e s. refl) (λ k at s e. and-nothing (has_no_compounds ds s))

pub hoisted-literals : (c : ℕ) (s : Stmt) → all_exprs has_literals s ≡ true → all_exprs has_literals (hoisted c s) ≡ true
hoisted-literals c =
    hoisted-all has_literals (all_exprs has_literals) c refl refl refl (λ s t. refl) (λ k e. refl) (λ k e s t. refl) (λ k at hd e s. refl) (λ k at e s. refl) (λ k at s e. refl)
