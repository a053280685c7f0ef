-- The lines between two bodies, and what is kept of two blocks that are joined.
use Rattle.std.proofs.Common.{◌≡◌, ◌<◌, ◌≤◌, ℕ, zero, suc, ◌+◌, Bool, true, false, not, ◌&&◌, ◌||◌, nat_eq, Option, Some, None, List, [], ◌∷◌, ◌++◌, map, length, take, get_or, refl, sym, ap, subst, ◌∙◌, arith, append_assoc, length-append}
use Rattle.std.specs.Prelude.{min, cond}
use Rattle.std.specs.List.{filter, list_all, flat_map, enumerate_from}
use Rattle.std.proofs.lemmas.Bool.{eqb-true, both_ways, false_from_ne_true}
use Rattle.std.proofs.lemmas.List.{append-nil, map-append}
use Rattle.std.proofs.lemmas.List.Folds.{list_all-append}
use Rattle.gm_value.specs.declared.values.Value.{Value}
use Rattle.gm_value.specs.declared.values.VType.{VType}
use Rattle.gm_value.specs.Numbers.{zero_of}
use Rattle.gm_image.specs.declared.lines.Expr.{Expr}
use Rattle.gm_image.specs.declared.lines.VertexLine.{VertexLine}
use Rattle.gm_image.specs.Term.{Term, Const, Choose}
use Rattle.gm_image.specs.declared.shapes.Leaf.{Leaf}
use Rattle.gm_image.specs.declared.shapes.Leaf.TheVariants as leaf
use Rattle.gm_image.specs.declared.shapes.One.{One}
use Rattle.gm_image.specs.declared.shapes.Two.{Two}
use Rattle.gm_image.specs.Shapes.{leaf_term, one_term, two_term}
use Rattle.gm_image.proofs.ByShape.{leaves_one, leaves_two}
use Rattle.gm_image.specs.Program.{Line, SetRegister, Block, Target}
use Rattle.gm_image.specs.Parts.{all_leaves, terms_of, is_among}
use Rattle.gm_image.specs.Views.{term, target, line}
use Rattle.gm_image.specs.Rows.{block_rows, handled_lines}
use Rattle.gm_verify.specs.Checks.{all_handlers_rows}
use Rattle.gm_verify.proofs.Counting.{counts, length-block}
use Rattle.gm_merge_laws.specs.Joins.{block_lines, sends_nothing, cannot_fault, put_globals, is_not_register, sets_register, reads_not, is_left, restart, restarts, joined_block}
use Rattle.gm_merge.specs.declared.joinable.Earlier.{Earlier}
use Rattle.gm_merge.specs.Earlier.{Shows}
use Rattle.gm_merge.specs.Bounds.{lines_bound}
use Rattle.gm_merge.specs.Registers.{sets_some, reads_some, line_reads, term_reads, terms_read, leaf_register, restart_if}
use Rattle.gm_merge.specs.Numbers.{is_named}
use Rattle.gm_merge.proofs.Copying.{taken-more}
use Rattle.gm_merge.proofs.Bounding.{bound_append}
use Rattle.gm_merge.proofs.Putting.{puts-both}

-- lines by which registers start again put nothing, name no place, send nothing and cannot fault
puts-restarts : (zs : List (ℕ × VType)) (ls : List Line) (n : ℕ) → is_among n (put_globals (map restart zs ++ ls)) ≡ is_among n (put_globals ls)
puts-restarts [] ls n = refl
puts-restarts (z ∷ zs) ls n = puts-restarts zs ls n

bound-restarts : (m : ℕ) (zs : List (ℕ × VType)) (ls : List Line) → lines_bound m (map restart zs ++ ls) ≡ lines_bound m ls
bound-restarts m [] ls = refl
bound-restarts m (z ∷ zs) ls = bound-restarts m zs ls

silent-restarts : (zs : List (ℕ × VType)) (ls : List Line) → list_all sends_nothing (map restart zs ++ ls) ≡ list_all sends_nothing ls
silent-restarts [] ls = refl
silent-restarts (z ∷ zs) ls = silent-restarts zs ls

calm-restarts : (zs : List (ℕ × VType)) (ls : List Line) → list_all cannot_fault (map restart zs ++ ls) ≡ list_all cannot_fault ls
calm-restarts [] ls = refl
calm-restarts (z ∷ zs) ls = calm-restarts zs ls

-- what shows two bodies shows them with such lines between them
shows-restarts : (e : Earlier) (xs : List Line) (zs : List (ℕ × VType)) (ls : List Line) → Shows e (xs ++ ls) → Shows e (xs ++ (map restart zs ++ ls))
shows-restarts e xs zs ls s = record {
  puts = λ n. s.puts n ∙ puts-both xs ls n ∙ ap (λ b. is_among n (put_globals xs) || b) (sym (puts-restarts zs ls n)) ∙ sym (puts-both xs (map restart zs ++ ls) n);
  bound = s.bound ∙ bound_append 0 xs ls ∙ sym (bound-restarts (lines_bound 0 xs) zs ls) ∙ sym (bound_append 0 xs (map restart zs ++ ls));
  silent = s.silent ∙ list_all-append sends_nothing xs ls ∙ ap (λ b. list_all sends_nothing xs && b) (sym (silent-restarts zs ls)) ∙ sym (list_all-append sends_nothing xs (map restart zs ++ ls));
  calm = s.calm ∙ list_all-append cannot_fault xs ls ∙ ap (λ b. list_all cannot_fault xs && b) (sym (calm-restarts zs ls)) ∙ sym (list_all-append cannot_fault xs (map restart zs ++ ls));
}

abbrev left_over : List VType → List Line → List Line → List (ℕ × VType)
left_over registers first second = filter (λ at. is_left first second at.0) (enumerate_from 0 registers)

pub shows-joined : (e : Earlier) (registers : List VType) (a b : Block) → Shows e (block_lines a ++ b.body) → Shows e (block_lines (joined_block registers a b))
shows-joined e registers a b s =
    subst (Shows e) (append_assoc (handled_lines a) a.body (restarts registers a.body b.body ++ b.body))
    (shows-restarts e (block_lines a) (left_over registers a.body b.body) b.body s)

-- the registers that lines set, one after another
or-false : (x : Bool) → (x || false) ≡ x
or-false true = refl
or-false false = refl

or-assoc : (x y z : Bool) → ((x || y) || z) ≡ (x || (y || z))
or-assoc true y z = refl
or-assoc false y z = refl

not-and : (x y : Bool) → not (x && y) ≡ (not x || not y)
not-and true y = refl
not-and false y = refl

pub sets-both : (ls ms : List Line) (r : ℕ) → sets_some (ls ++ ms) r ≡ (sets_some ls r || sets_some ms r)
sets-both ls ms r = ap not (list_all-append (λ l. not (sets_register r l)) ls ms) ∙ not-and (list_all (λ l. not (sets_register r l)) ls) (list_all (λ l. not (sets_register r l)) ms)

pub reads-both : (ls ms : List Line) (r : ℕ) → reads_some (ls ++ ms) r ≡ (reads_some ls r || reads_some ms r)
reads-both ls ms r = ap not (list_all-append (reads_not r) ls ms) ∙ not-and (list_all (reads_not r) ls) (list_all (reads_not r) ms)

-- a register that starts again was set
eq-keeps : (p : ℕ → Bool) (x r : ℕ) → p r ≡ false → p x ≡ true → nat_eq x r ≡ false
eq-keeps p x r h k = false_from_ne_true (nat_eq x r) (λ e. both_ways (p r) h (ap p (sym (eqb-true x r e)) ∙ k))

sets-none : (p : ℕ → Bool) (zs : List (ℕ × VType)) (r : ℕ) → p r ≡ false → sets_some (map restart (filter (λ at. p at.0) zs)) r ≡ false
sets-none p [] r h = refl
sets-none p (z ∷ zs) r h = one (p z.0) refl (sets-none p zs r h)
  where
    one : (x : Bool) → p z.0 ≡ x → sets_some (map restart (filter (λ at. p at.0) zs)) r ≡ false → sets_some (map restart (filter (λ at. p at.0) (z ∷ zs))) r ≡ false
    one true e none =
        ap (λ (y : Bool). sets_some (map restart (cond y (z ∷ filter (λ at. p at.0) zs) (filter (λ at. p at.0) zs))) r) e
        ∙ ap (λ (y : Bool). not (not y && list_all (λ l. not (sets_register r l)) (map restart (filter (λ at. p at.0) zs)))) (eq-keeps p z.0 r h e)
        ∙ none
    one false e none = ap (λ (y : Bool). sets_some (map restart (cond y (z ∷ filter (λ at. p at.0) zs) (filter (λ at. p at.0) zs))) r) e ∙ none

or-less : (x y z : Bool) → (x ≡ false → y ≡ false) → (x || (y || z)) ≡ (x || z)
or-less true y z h = refl
or-less false y z h = ap (λ w. w || z) (h refl)

and-false : (x y : Bool) → x ≡ false → (x && y) ≡ false
and-false true y h = cc
and-false false y h = refl

pub sets-joined : (registers : List VType) (a b : Block) (r : ℕ) → sets_some (joined_block registers a b).body r ≡ (sets_some a.body r || sets_some b.body r)
sets-joined registers a b r =
    let rs : List Line = restarts registers a.body b.body in
    sets-both a.body (rs ++ b.body) r ∙ ap (λ y. sets_some a.body r || y) (sets-both rs b.body r)
    ∙ or-less (sets_some a.body r) (sets_some rs r) (sets_some b.body r)
    (λ h. sets-none (is_left a.body b.body) (enumerate_from 0 registers) r (and-false (sets_some a.body r) (reads_some b.body r) h))

-- how many lines both have
pub rows-joined : (registers : List VType) (a b : Block) (n m k : ℕ) (between : List Line) → between ≡ restarts registers a.body b.body → n ≡ min (length (block_rows a)) 4294967296
    → m ≡ min (n + length between) 4294967296 → k ≡ min (m + length b.body) 4294967296 → k ≡ min (length (block_rows (joined_block registers a b))) 4294967296
rows-joined registers a b n m k between is h e f =
    let rs : List Line = restarts registers a.body b.body in
    let one = counts (length (block_rows a)) n (length between) m h e in
    let two = counts (length (block_rows a) + length between) m (length b.body) k one f in
    let first = length-block a in
    let both = length-block (joined_block registers a b) in
    let body = length-append a.body (rs ++ b.body) in
    let rest = length-append rs b.body in
    let same : length between ≡ length rs = ap (λ (ls : List Line). length ls) is in
    let total : length (block_rows a) + length between + length b.body ≡ length (block_rows (joined_block registers a b)) = omega (arith, first, both, body, rest, same) in
    two ∙ ap (λ x. min x 4294967296) total

-- of the lines and the expressions so far
not-twice : (x : Bool) → not (not x) ≡ x
not-twice true = refl
not-twice false = refl

and-true : (x : Bool) → (x && true) ≡ x
and-true true = refl
and-true false = refl

more-fail : {A : Type 0} (t : A → Bool) (xs : List A) (y : A) → not (list_all t (xs ++ y ∷ [])) ≡ (not (list_all t xs) || not (t y))
more-fail t xs y = ap not (list_all-append t xs (y ∷ [])) ∙ not-and (list_all t xs) (t y && true) ∙ ap (λ b. not (list_all t xs) || not b) (and-true (t y))

-- of an expression by its shape
pub reads-leaf : (l : Leaf) (r : ℕ) → is_named (leaf_register (leaf_term l)) r ≡ term_reads (leaf_term l) r
reads-leaf (leaf.Const v) r = refl
reads-leaf (leaf.Global g) r = refl
reads-leaf leaf.NodeCount r = refl
reads-leaf leaf.EdgeCount r = refl
reads-leaf (leaf.Field f) r = refl
reads-leaf leaf.Id r = refl
reads-leaf leaf.OutDegree r = refl
reads-leaf leaf.InDegree r = refl
reads-leaf (leaf.Register x) r = sym (not-twice (nat_eq x r))
reads-leaf (leaf.Message i) r = refl
reads-leaf leaf.Neighbour r = refl
reads-leaf (leaf.Column w) r = refl

pub reads-one : (op : One) (a : Term) (r : ℕ) → term_reads (one_term op a) r ≡ term_reads a r
reads-one op a r = ap not (leaves_one (is_not_register r) op a)

pub reads-two : (op : Two) (a b : Term) (r : ℕ) → term_reads (two_term op a b) r ≡ (term_reads a r || term_reads b r)
reads-two op a b r = ap not (leaves_two (is_not_register r) op a b) ∙ not-and (all_leaves (is_not_register r) a) (all_leaves (is_not_register r) b)

pub reads-choose : (c a b : Term) (r : ℕ) → term_reads (Choose c a b) r ≡ ((term_reads c r || term_reads a r) || term_reads b r)
reads-choose c a b r =
    not-and (all_leaves (is_not_register r) c && all_leaves (is_not_register r) a) (all_leaves (is_not_register r) b)
    ∙ ap (λ (x : Bool). x || term_reads b r) (not-and (all_leaves (is_not_register r) c) (all_leaves (is_not_register r) a))

-- of a line's expressions
pub reads_single : (a : Term) (r : ℕ) → terms_read (a ∷ []) r ≡ term_reads a r
reads_single a r = ap not (and-true (all_leaves (is_not_register r) a))

pub reads_first : (a : Term) (bs : List Term) (r : ℕ) → terms_read (a ∷ bs) r ≡ (term_reads a r || terms_read bs r)
reads_first a bs r = not-and (all_leaves (is_not_register r) a) (list_all (all_leaves (is_not_register r)) bs)

pub sets-more : (ls : List VertexLine) (i : ℕ) (x : VertexLine) (r : ℕ) → i < length ls → x ≡ get_or ls i x → sets_some (map line (take (i + 1) ls)) r ≡ (sets_some (map line (take i ls)) r || sets_register r (line x))
sets-more ls i x r l is =
    ap (λ (ms : List Line). sets_some ms r) (taken-more line ls i x l is) ∙ more-fail (λ l. not (sets_register r l)) (map line (take i ls)) (line x)
    ∙ ap (λ b. sets_some (map line (take i ls)) r || b) (not-twice (sets_register r (line x)))

pub reads-more : (ls : List VertexLine) (i : ℕ) (x : VertexLine) (r : ℕ) → i < length ls → x ≡ get_or ls i x → reads_some (map line (take (i + 1) ls)) r ≡ (reads_some (map line (take i ls)) r || line_reads (line x) r)
reads-more ls i x r l is = ap (λ (ms : List Line). reads_some ms r) (taken-more line ls i x l is) ∙ more-fail (reads_not r) (map line (take i ls)) (line x)

pub terms-more : (es : List Expr) (i : ℕ) (x : Expr) (r : ℕ) → i < length es → x ≡ get_or es i x → terms_read (map term (take (i + 1) es)) r ≡ (terms_read (map term (take i es)) r || term_reads (term x) r)
terms-more es i x r l is = ap (λ (ts : List Term). terms_read ts r) (taken-more term es i x l is) ∙ more-fail (all_leaves (is_not_register r)) (map term (take i es)) (term x)

pub targets-more : (es : List (ℕ × Expr)) (i : ℕ) (x : ℕ × Expr) (r : ℕ) → i < length es → x ≡ get_or es i x
    → terms_read (terms_of (map target (take (i + 1) es))) r ≡ (terms_read (terms_of (map target (take i es))) r || term_reads (term x.1) r)
targets-more es i x r l is =
    ap (λ (ts : List Target). terms_read (terms_of ts) r) (taken-more target es i x l is)
    ∙ ap (λ (ts : List Term). terms_read ts r) (map-append (λ (t : Target). t.term) (map target (take i es)) (target x ∷ []))
    ∙ more-fail (all_leaves (is_not_register r)) (terms_of (map target (take i es))) (term x.1)

-- a register that is set, and of which there is one, starts again by one line
pub restart-pushed : (ls news : List VertexLine) (l : VertexLine) (set : Bool) (r : ℕ) (found : Option VType) (t : VType) (z : Value)
    → news ≡ ls ++ l ∷ [] → line l ≡ SetRegister r (Const z) → z ≡ zero_of t → set ≡ true → found ≡ Some t → map line news ≡ map line ls ++ restart_if set r found
restart-pushed ls news l set r found t z pushed is zero-is is-set is-found =
    ap (map line) pushed
    ∙ map-append line ls (l ∷ [])
    ∙ ap (λ (x : Line). map line ls ++ x ∷ []) (is ∙ ap (λ (v : Value). SetRegister r (Const v)) zero-is)
    ∙ sym (ap (λ (b : Bool). map line ls ++ restart_if b r found) is-set ∙ ap (λ (o : Option VType). map line ls ++ restart_if true r o) is-found)

-- where there is none, no line is added
pub restart-none : (ls : List VertexLine) (set : Bool) (r : ℕ) (found : Option VType) → found ≡ None → map line ls ≡ map line ls ++ restart_if set r found
restart-none ls set r found none = sym (ap (λ (o : Option VType). map line ls ++ restart_if set r o) none ∙ ap (λ (xs : List Line). map line ls ++ xs) (no-line set) ∙ append-nil (map line ls))
  where
    no-line : (b : Bool) → restart_if b r None ≡ []
    no-line true = refl
    no-line false = refl
