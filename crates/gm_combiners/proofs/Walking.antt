-- The walk over the handlers, and over the kinds.
use Rattle.std.proofs.Common.{inl, inr, ◌⊎◌, ◌≡◌, ◌<◌, ◌≤◌, ℕ, zero, suc, ◌+◌, Bool, true, false, ◌&&◌, ◌||◌, not, nat_eq, Option, List, [], ◌∷◌, ◌++◌, length, map, take, get_or, set, replicate, refl, sym, ap, ◌∙◌, arith}
use Rattle.std.proofs.lemmas.Bool.{eq-eqb, ne_eqb, cases_eq}
use Rattle.std.proofs.lemmas.List.{take_more, take_all, map-append, append-nil}
use Rattle.std.proofs.lemmas.Grind.{flat_map-append}
use Rattle.std.proofs.lemmas.List.Folds.{list_all-append}
use mathlib.Core.Path.{fun_ext}
use Rattle.gm_value.specs.declared.values.VType.{VType}
use Rattle.gm_value.specs.declared.reductions.Reduce.{Reduce}
use Rattle.gm_image.specs.declared.images.Kind.{Kind}
use Rattle.gm_image.specs.declared.images.Block as B
use Rattle.gm_image.specs.declared.images.Handler as H
use Rattle.gm_image.specs.declared.shapes.One.{One}
use Rattle.gm_image.specs.declared.shapes.One.TheVariants as one
use Rattle.gm_image.specs.declared.shapes.Two.{Two}
use Rattle.gm_image.specs.declared.shapes.Two.TheVariants as two
use Rattle.gm_image.specs.Term.{Term}
use Rattle.gm_image.specs.Program.{Handler, Block}
use Rattle.gm_image.specs.Views.{handler, block}
use Rattle.gm_image.specs.Folds.{is_its_value}
use Rattle.gm_image.specs.Shapes.{one_term, two_term}
use Rattle.gm_combiners.specs.declared.candidates.Candidates.{Candidates}
use Rattle.gm_combiners.specs.declared.candidates.Candidates.TheVariants.{Every}
use Rattle.gm_combiners.specs.Combiners.{lets, all_let, handlers_of, first_fitting, combiner_for, kinds_with}
use Rattle.gm_combiners.specs.Candidates.{leaves, left_for, ShowsLeft}

-- an operation is no value of a message
pub value_one : (op : One) (a : Term) → is_its_value (one_term op a) ≡ false
value_one one.NodeAt a = refl
value_one (one.Live place) a = refl
value_one (one.Op op place) a = refl

pub value_two : (op : Two) (a b : Term) → is_its_value (two_term op a b) ≡ false
value_two (two.Op op place) a b = refl
value_two two.And a b = refl
value_two two.Or a b = refl

-- where none was taken away, every one is left
pub every-left : (n k : ℕ) → left_for (replicate n Every) k ≡ Every
every-left zero k = refl
every-left (suc n) zero = refl
every-left (suc n) (suc k) = every-left n k

pub every-long : (n : ℕ) → length (replicate n Every) ≡ n
every-long zero = refl
every-long (suc n) = ap suc (every-long n)

pub every-leaves : (n k : ℕ) (r : Reduce) → leaves (left_for (replicate n Every) k) r ≡ true
every-leaves n k r = ap (λ c. leaves c r) (every-left n k)

-- what is read at a place of a list is what is left there
pub read-left : (cs : List Candidates) (i : ℕ) (x : Candidates) → i < length cs → x ≡ get_or cs i x → x ≡ left_for cs i
read-left [] i x l e = absurd (omega arith)
read-left (c ∷ cs) zero x l e = e
read-left (c ∷ cs) (suc i) x l e = read-left cs i x (omega arith) e

set-same : (cs : List Candidates) (i : ℕ) (x : Candidates) → i < length cs → left_for (set cs i x) i ≡ x
set-same [] i x l = absurd (omega arith)
set-same (c ∷ cs) zero x l = refl
set-same (c ∷ cs) (suc i) x l = set-same cs i x (omega arith)

set-other : (cs : List Candidates) (i k : ℕ) (x : Candidates) → (i ≡ k → ⊥) → left_for (set cs i x) k ≡ left_for cs k
set-other [] i k x n = refl
set-other (c ∷ cs) zero zero x n = absurd (n refl)
set-other (c ∷ cs) zero (suc k) x n = refl
set-other (c ∷ cs) (suc i) zero x n = refl
set-other (c ∷ cs) (suc i) (suc k) x n = set-other cs i k x (λ q. n (ap suc q))

and-end : (b : Bool) → b && true ≡ b
and-end true = refl
and-end false = refl

-- a kind that no other is asks nothing of another
pub no-other : (i k : ℕ) (a b : Bool) → (i ≡ k → ⊥) → a ≡ a && (not (nat_eq i k) || b)
no-other i k a b n = sym (and-end a) ∙ ap (λ c. a && (not c || b)) (sym (ne_eqb i k n))

-- the candidates of one kind are narrowed
narrowed-by : (cs : List Candidates) (i k : ℕ) (x : Candidates) (r : Reduce) (b : Bool) → i < length cs → leaves x r ≡ leaves (left_for cs i) r && b → (i ≡ k) ⊎ (i ≡ k → ⊥) →
    leaves (left_for (set cs i x) k) r ≡ leaves (left_for cs k) r && (not (nat_eq i k) || b)
narrowed-by cs i k x r b l h (inl q) =
    ap (λ n. leaves (left_for (set cs i x) n) r) (sym q)
    ∙ ap (λ c. leaves c r) (set-same cs i x l)
    ∙ h
    ∙ ap (λ n. leaves (left_for cs n) r && b) q
    ∙ ap (λ c. leaves (left_for cs k) r && (not c || b)) (sym (eq-eqb i k q))
narrowed-by cs i k x r b l h (inr n) = ap (λ c. leaves c r) (set-other cs i k x n) ∙ no-other i k (leaves (left_for cs k) r) b n

pub narrowed : (cs : List Candidates) (i k : ℕ) (x : Candidates) (r : Reduce) (b : Bool) → i < length cs → leaves x r ≡ leaves (left_for cs i) r && b →
    leaves (left_for (set cs i x) k) r ≡ leaves (left_for cs k) r && (not (nat_eq i k) || b)
narrowed cs i k x r b l h = narrowed-by cs i k x r b l h (cases_eq i k)

-- with no handler nothing more is asked
pub none-let : (b : Bool) → b ≡ b && true
none-let b = sym (and-end b)

and-assoc : (a b c : Bool) → (a && b) && c ≡ a && (b && c)
and-assoc true b c = refl
and-assoc false b c = refl

-- what two lists of handlers let a kind have
pub both-let : (k : ℕ) (r : Reduce) (hs gs : List Handler) → all_let (hs ++ gs) k r ≡ all_let hs k r && all_let gs k r
both-let k r hs gs = list_all-append (λ h. lets k h r) hs gs

-- one handler more
pub one-lets : (k : ℕ) (r : Reduce) (hs : List H.Handler) (i : ℕ) (x : H.Handler) (b : Bool) → i < length hs → x ≡ get_or hs i x →
    (b && all_let (map handler (take i hs)) k r) && lets k (handler x) r ≡ b && all_let (map handler (take (i + 1) hs)) k r
one-lets k r hs i x b l is =
    and-assoc b (all_let (map handler (take i hs)) k r) (lets k (handler x) r)
    ∙ ap (λ c. b && (all_let (map handler (take i hs)) k r && c)) (sym (and-end (lets k (handler x) r)))
    ∙ ap (λ c. b && c) (sym (both-let k r (map handler (take i hs)) (handler x ∷ [])))
    ∙ ap (λ (gs : List Handler). b && all_let gs k r) (sym (map-append handler (take i hs) (x ∷ [])))
    ∙ ap (λ (gs : List H.Handler). b && all_let (map handler gs) k r) (sym (take_more hs i x l ∙ ap (λ (y : H.Handler). take i hs ++ y ∷ []) (sym is)))

pub lets-all : (k : ℕ) (r : Reduce) (hs : List H.Handler) (i : ℕ) (b : Bool) → length hs ≤ i → b && all_let (map handler (take i hs)) k r ≡ b && all_let (map handler hs) k r
lets-all k r hs i b l = ap (λ (gs : List H.Handler). b && all_let (map handler gs) k r) (take_all i hs l)

-- the handlers of one block more
pub block-lets : (k : ℕ) (r : Reduce) (bs : List B.Block) (i : ℕ) (x : B.Block) → i < length bs → x ≡ get_or bs i x →
    all_let (handlers_of (map block (take i bs))) k r && all_let (map handler x.handlers) k r ≡ all_let (handlers_of (map block (take (i + 1) bs))) k r
block-lets k r bs i x l is =
    sym (both-let k r (handlers_of (map block (take i bs))) (map handler x.handlers))
    ∙ ap (λ (gs : List Handler). all_let (handlers_of (map block (take i bs)) ++ gs) k r) (sym (append-nil (map handler x.handlers)))
    ∙ ap (λ (gs : List Handler). all_let gs k r) (sym (flat_map-append (λ (b : Block). b.handlers) (map block (take i bs)) (block x ∷ [])))
    ∙ ap (λ (ys : List Block). all_let (handlers_of ys) k r) (sym (map-append block (take i bs) (x ∷ [])))
    ∙ ap (λ (ys : List B.Block). all_let (handlers_of (map block ys)) k r) (sym (take_more bs i x l ∙ ap (λ (y : B.Block). take i bs ++ y ∷ []) (sym is)))

pub blocks-all : (k : ℕ) (r : Reduce) (bs : List B.Block) (i : ℕ) → length bs ≤ i → all_let (handlers_of (map block (take i bs))) k r ≡ all_let (handlers_of (map block bs)) k r
blocks-all k r bs i l = ap (λ (ys : List B.Block). all_let (handlers_of (map block ys)) k r) (take_all i bs l)

-- one kind more
pub one-with : (f : ℕ → List VType → Option Reduce) (n : ℕ) (kinds : List Kind) (x : Kind) → kinds_with f n (kinds ++ x ∷ []) ≡ kinds_with f n kinds ++ record x { combiner = f (n + length kinds) x.values } ∷ []
one-with f n [] x = let z : n ≡ n + 0 = omega arith in ap (λ m. record x { combiner = f m x.values } ∷ []) z
one-with f n (y ∷ ys) x =
    let z : suc n + length ys ≡ n + suc (length ys) = omega arith in
    ap (λ zs. record y { combiner = f n y.values } ∷ zs) (one-with f (suc n) ys x ∙ ap (λ m. kinds_with f (suc n) ys ++ record x { combiner = f m x.values } ∷ []) z)

-- kinds with the same combiners
same-with : (f g : ℕ → List VType → Option Reduce) (n : ℕ) (kinds : List Kind) → ((k : ℕ) → k < n + length kinds → f k ≡ g k) → kinds_with f n kinds ≡ kinds_with g n kinds
same-with f g n [] h = refl
same-with f g n (x ∷ xs) h =
    let l : n < n + length (x ∷ xs) = omega arith in
    ap (λ c. record x { combiner = c } ∷ kinds_with f (suc n) xs) (ap (λ (c : List VType → Option Reduce). c x.values) (h n l))
    ∙ ap (λ zs. record x { combiner = g n x.values } ∷ zs) (same-with f g (suc n) xs (λ k l'. h k (omega (arith, l'))))

-- the kinds that come of the candidates are those of the definition
pub shown-with : (cs : List Candidates) (hs : List Handler) (kinds : List Kind) → length cs ≡ length kinds → ShowsLeft cs hs →
    kinds_with (λ k types. first_fitting (leaves (left_for cs k)) types) 0 kinds ≡ kinds_with (combiner_for hs) 0 kinds
shown-with cs hs kinds long shows =
    same-with (λ k types. first_fitting (leaves (left_for cs k)) types) (combiner_for hs) 0 kinds
    (λ k l. let l' : k < length cs = omega (arith, l, long) in ap (λ (test : Reduce → Bool). λ types. first_fitting test types) (fun_ext (λ r. shows k r l')))
