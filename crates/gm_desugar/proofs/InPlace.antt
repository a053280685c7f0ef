-- Statements that are changed in place, with what comes before or after them.
use Rattle.std.proofs.Common.{◌≡◌, ℕ, Bool, true, false, List, [], ◌∷◌, map, refl, ap, ◌∙◌, Option, Some}
use Rattle.gm_base.specs.declared.places.Place.{Place}
use Rattle.gm_ast.specs.declared.tree.Declaration.{Declaration}
use Rattle.gm_ast.specs.declared.tree.Head.{Head}
use Rattle.gm_ast.specs.declared.tree.Key.{Key}
use Rattle.gm_ast.specs.Program.{Expr, always, Stmt, Skip, Then, For, If, While, Do, sequence}
use Rattle.gm_forms.specs.Forms.{is_told}
use Rattle.gm_desugar.specs.Compounds.{expanded_in, expanded}
use Rattle.gm_desugar.specs.Conditions.{set_to, asked, set_unless, asked_unless, if_hoisted, for_hoisted, while_hoisted, do_hoisted, hoisted}
use Rattle.gm_desugar.specs.Groups.{ungrouped}
use Rattle.gm_desugar.specs.Literals.{each_expr_in, each_expr}
use Rattle.gm_trees.specs.Places.{after, after_all, before}
use Rattle.gm_desugar.specs.Reads.{set_unless as reads_unless, told_unless, after_reads}

-- statements one after another
pub ungrouped-sequence : (xs : List Stmt) → ungrouped (sequence xs) ≡ sequence (map ungrouped xs)
ungrouped-sequence [] = refl
ungrouped-sequence (x ∷ xs) = ap (Then (ungrouped x)) (ungrouped-sequence xs)

pub expanded_in-sequence : (ds : List Declaration) (n : ℕ) (inner : Bool) (xs : List Stmt) → expanded_in ds n inner (sequence xs) ≡ sequence (map (expanded_in ds n inner) xs)
expanded_in-sequence ds n inner [] = refl
expanded_in-sequence ds n inner (x ∷ xs) = ap (Then (expanded_in ds n inner x)) (expanded_in-sequence ds n inner xs)

pub expanded-sequence : (ds : List Declaration) (xs : List Stmt) → expanded ds (sequence xs) ≡ sequence (map (expanded ds) xs)
expanded-sequence ds [] = refl
expanded-sequence ds (x ∷ xs) = ap (Then (expanded ds x)) (expanded-sequence ds xs)

pub each_expr_in-sequence : (h : Expr → Expr) (xs : List Stmt) → each_expr_in h (sequence xs) ≡ sequence (map (each_expr_in h) xs)
each_expr_in-sequence h [] = refl
each_expr_in-sequence h (x ∷ xs) = ap (Then (each_expr_in h x)) (each_expr_in-sequence h xs)

pub each_expr-sequence : (h : Expr → Expr) (xs : List Stmt) → each_expr h (sequence xs) ≡ sequence (map (each_expr h) xs)
each_expr-sequence h [] = refl
each_expr-sequence h (x ∷ xs) = ap (Then (each_expr h x)) (each_expr-sequence h xs)

pub hoisted-sequence : (c : ℕ) (xs : List Stmt) → hoisted c (sequence xs) ≡ sequence (map (hoisted c) xs)
hoisted-sequence c [] = refl
hoisted-sequence c (x ∷ xs) = ap (Then (hoisted c x)) (hoisted-sequence c xs)

-- what is set and asked where a condition is not told by scalars
pub if-hoisted : (told : Bool) (c : ℕ) (k : Key) (e : Expr) (a b : Stmt) → after (set_unless told c k e) (If k (asked_unless told c e) a b) ≡ if_hoisted told c k e a b
if-hoisted true c k e a b = refl
if-hoisted false c k e a b = refl

pub for-hoisted : (c : ℕ) (k : Key) (at : Place) (h : Head) (e : Expr) (s : Stmt) → (told : Bool) → told ≡ false → For k at h always (if_hoisted false c k e s Skip) ≡ for_hoisted told c k at h e s
for-hoisted c k at h e s false n = refl
for-hoisted c k at h e s true n = cc

pub while-hoisted : (c : ℕ) (k : Key) (at : Place) (e : Expr) (s : Stmt) → (told : Bool) → told ≡ false → after (Some (set_to c k e)) (While k at (asked c) (before s (Some (set_to c k e)))) ≡ while_hoisted told c k at e s
while-hoisted c k at e s false n = refl
while-hoisted c k at e s true n = cc

pub do-hoisted : (told : Bool) (c : ℕ) (k : Key) (at : Place) (s : Stmt) (e : Expr) → Do k at (before s (set_unless told c k e)) (asked_unless told c e) ≡ do_hoisted told c k at s e
do-hoisted true c k at s e = refl
do-hoisted false c k at s e = refl

-- a statement whose parts were hoisted in place
pub for-changed : (v : ℕ) (k : Key) (at : Place) (h : Head) (e d : Expr) (s a b : Stmt) → For k at h d b ≡ for_hoisted (is_told e) v k at h e a → a ≡ hoisted v s → For k at h d b ≡ hoisted v (For k at h e s)
for-changed v k at h e d s a b turns inner = turns ∙ ap (λ x. for_hoisted (is_told e) v k at h e x) inner

pub if-changed : (v : ℕ) (k : Key) (e d : Expr) (a b x y : Stmt) (first : Option Stmt) → first ≡ set_unless (is_told e) v k e → d ≡ asked_unless (is_told e) v e → x ≡ hoisted v a → y ≡ hoisted v b → after first (If k d x y) ≡ hoisted v (If k e a b)
if-changed v k e d a b x y first set asks one other = rw (set, asks, one, other) (if-hoisted (is_told e) v k e (hoisted v a) (hoisted v b))

pub while-changed : (v : ℕ) (k : Key) (at : Place) (e d : Expr) (s a b : Stmt) (first : Option Stmt) → after first (While k at d b) ≡ while_hoisted (is_told e) v k at e a → a ≡ hoisted v s → after first (While k at d b) ≡ hoisted v (While k at e s)
while-changed v k at e d s a b first turns inner = turns ∙ ap (λ x. while_hoisted (is_told e) v k at e x) inner

pub do-changed : (v : ℕ) (k : Key) (at : Place) (e d : Expr) (s a b : Stmt) (last : Option Stmt) → b ≡ before a last → last ≡ set_unless (is_told e) v k e → d ≡ asked_unless (is_told e) v e → a ≡ hoisted v s → Do k at b d ≡ hoisted v (Do k at s e)
do-changed v k at e d s a b last turn set asks inner = rw (turn, set, asks, inner) (do-hoisted (is_told e) v k at (hoisted v s) e)

-- a statement with what an expression tells, after what is set
pub apart-after : (alone : Bool) (n : ℕ) (k : Key) (e : Expr) (s : Expr → Stmt) → after_all (reads_unless alone n k e) (s (told_unless alone n e)) ≡ after_reads alone n k e s
apart-after true n k e s = refl
apart-after false n k e s = refl
