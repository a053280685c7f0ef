-- Parts one behind the other.
use Rattle.std.proofs.Common.{◌≡◌, ◌<◌, ◌≤◌, ℕ, List, ◌++◌, ap, ◌∙◌, sym, subst, drop, get_or, length, map, append_assoc, append-nil, length-append, arith}
use Rattle.std.proofs.lemmas.List.{drop_all}
use Rattle.std.specs.Prelude.{◌+◌}
use Rattle.gm_base.specs.declared.places.Place.{Place}
use Rattle.gm_ast.specs.declared.tree.Declaration.{Declaration}
use Rattle.gm_ast.specs.declared.tree.Stmt as S
use Rattle.gm_ast.specs.Program.{Stmt, Then, sequence}
use Rattle.gm_ast.specs.Tree.{stmt_of}
use Rattle.gm_blocks.proofs.Items.{drop-item}
use Rattle.gm_image.specs.Program.{Block, Command}
use Rattle.gm_lowering.specs.Plans.{kinds_in}
use Rattle.gm_lowering.specs.Lowered.{At, Frame, Part, both, no_part, part}
use Rattle.gm_masters.specs.Parts.{past_by}

abbrev part_of : List Command → List Block → List Place → Part
part_of a b c = record { commands = a; blocks = b; places = c }

same-part : (a b : List Command) (c d : List Block) (e f : List Place) → a ≡ b → c ≡ d → e ≡ f → part_of a c e ≡ part_of b d f
same-part a b c d e f p q r = ap (λ z. part_of z c e) p ∙ ap (λ z. part_of b z e) q ∙ ap (λ z. part_of b d z) r

both-assoc : (x y z : Part) → both (both x y) z ≡ both x (both y z)
both-assoc x y z =
    same-part _ _ _ _ _ _ (append_assoc x.commands y.commands z.commands) (append_assoc x.blocks y.blocks z.blocks) (append_assoc x.places y.places z.places)

counted : {A : Type 0} (n : ℕ) (xs ys : List A) → n + length (xs ++ ys) ≡ n + length xs + length ys
counted n xs ys = let e = length-append xs ys in omega arith

abbrev at_of : At → ℕ → ℕ → ℕ → ℕ → At
at_of at l b k p = record at { line = l; block = b; kind = k; place = p }

past-both : (at : At) (x y : Part) (n m : ℕ) → past_by at (both x y) (n + m) ≡ past_by (past_by at x n) y m
past-both at x y n m =
    let line = at.line + length x.commands + length y.commands in
    let block = at.block + length x.blocks + length y.blocks in
    let place = at.place + length (x.places ++ y.places) in
    let kinds : at.kind + (n + m) ≡ at.kind + n + m = omega arith in
    ap (λ l. at_of at l (at.block + length (x.blocks ++ y.blocks)) (at.kind + (n + m)) place) (counted at.line x.commands y.commands)
    ∙ ap (λ b. at_of at line b (at.kind + (n + m)) place) (counted at.block x.blocks y.blocks)
    ∙ ap (λ k. at_of at line block k place) kinds
    ∙ ap (λ p. at_of at line block (at.kind + n + m) p) (counted at.place x.places y.places)

-- a statement more: what is there and what is left stay the whole
pub more_is : (w : Frame) (at now : At) (a b : Stmt) (p x new whole : Part) (n m k : ℕ)
    → now ≡ past_by at p n
    → x ≡ part w a now
    → m ≡ length (kinds_in w.layout.declarations a)
    → new ≡ both p x
    → k ≡ n + m
    → both p (part w (Then a b) (past_by at p n)) ≡ whole
    → both new (part w b (past_by at new k)) ≡ whole
more_is w at now a b p x new whole n m k begins first kinds grown counts before =
    let c = length (kinds_in w.layout.declarations a) in
    let start = past_by at p n in
    let y = part w a start in
    let rest : Part → ℕ → Part = λ z j. both z (part w b (past_by at z j)) in
    let here : x ≡ y = first ∙ ap (λ j. part w a j) begins in
    ap (λ z. rest z k) grown
    ∙ ap (λ j. rest (both p x) j) (counts ∙ ap (λ j. n + j) kinds)
    ∙ ap (λ z. rest (both p z) (n + c)) here
    ∙ ap (λ j. both (both p y) (part w b j)) (past-both at p y n c)
    ∙ both-assoc p y (part w b (past_by start y c))
    ∙ before

none-behind : (x : Part) → both x no_part ≡ x
none-behind x = same-part _ _ _ _ _ _ (append-nil x.commands) (append-nil x.blocks) (append-nil x.places)

none-past : (at : At) → past_by at no_part 0 ≡ at
none-past at =
    let line : at.line + 0 ≡ at.line = omega arith in
    let block : at.block + 0 ≡ at.block = omega arith in
    let kind : at.kind + 0 ≡ at.kind = omega arith in
    let place : at.place + 0 ≡ at.place = omega arith in
    ap (λ l. at_of at l (at.block + 0) (at.kind + 0) (at.place + 0)) line
    ∙ ap (λ b. at_of at at.line b (at.kind + 0) (at.place + 0)) block
    ∙ ap (λ k. at_of at at.line at.block k (at.place + 0)) kind
    ∙ ap (λ p. at_of at at.line at.block at.kind p) place

-- before the first statement
pub start_is : (w : Frame) (at : At) (s : Stmt) (p : Part) (n : ℕ) → p ≡ no_part → n ≡ 0 → both p (part w s (past_by at p n)) ≡ part w s at
start_is w at s p n nothing none =
    ap (λ z. both z (part w s (past_by at z n))) nothing
    ∙ ap (λ j. both no_part (part w s (past_by at no_part j))) none
    ∙ ap (λ j. both no_part (part w s j)) (none-past at)

-- the same of the statements of a block from one on
abbrev rest_of : Frame → List S.Stmt → At → Part
rest_of w stmts at = part w (sequence (map stmt_of stmts)) at

abbrev kinds_of_rest : List Declaration → List S.Stmt → ℕ
kinds_of_rest ds stmts = length (kinds_in ds (sequence (map stmt_of stmts)))

pub left_is : (w : Frame) (at now : At) (stmts : List S.Stmt) (i : ℕ) (s : S.Stmt) (p x new whole : Part) (n m k : ℕ)
    → i < length stmts
    → s ≡ get_or stmts i s
    → now ≡ past_by at p n
    → x ≡ part w (stmt_of s) now
    → m ≡ length (kinds_in w.layout.declarations (stmt_of s))
    → new ≡ both p x
    → k ≡ n + m
    → both p (rest_of w (drop i stmts) (past_by at p n)) ≡ whole
    → both new (rest_of w (drop (i + 1) stmts) (past_by at new k)) ≡ whole
left_is w at now stmts i s p x new whole n m k lt item begins first kinds grown counts before =
    more_is w at now (stmt_of s) (sequence (map stmt_of (drop (i + 1) stmts))) p x new whole n m k begins first kinds grown counts
    (subst (λ l. both p (rest_of w l (past_by at p n)) ≡ whole) (drop-item stmts i s lt item) before)

pub left_counted : (ds : List Declaration) (stmts : List S.Stmt) (i : ℕ) (s : S.Stmt) (n m k whole : ℕ)
    → i < length stmts
    → s ≡ get_or stmts i s
    → m ≡ length (kinds_in ds (stmt_of s))
    → k ≡ n + m
    → n + kinds_of_rest ds (drop i stmts) ≡ whole
    → k + kinds_of_rest ds (drop (i + 1) stmts) ≡ whole
left_counted ds stmts i s n m k whole lt item kinds counts before =
    let all : n + length (kinds_in ds (stmt_of s) ++ kinds_in ds (sequence (map stmt_of (drop (i + 1) stmts)))) ≡ whole =
    subst (λ l. n + kinds_of_rest ds l ≡ whole) (drop-item stmts i s lt item) before in
    let e = length-append (kinds_in ds (stmt_of s)) (kinds_in ds (sequence (map stmt_of (drop (i + 1) stmts)))) in
    omega arith

-- behind the last statement
pub end_is : (w : Frame) (at : At) (stmts : List S.Stmt) (i : ℕ) (p whole : Part) (n : ℕ)
    → length stmts ≤ i
    → both p (rest_of w (drop i stmts) (past_by at p n)) ≡ whole
    → p ≡ whole
end_is w at stmts i p whole n past before =
    sym (none-behind p) ∙ sym (ap (λ l. both p (rest_of w l (past_by at p n))) (drop_all i stmts past)) ∙ before

pub end_counted : (ds : List Declaration) (stmts : List S.Stmt) (i n whole : ℕ)
    → length stmts ≤ i
    → n + kinds_of_rest ds (drop i stmts) ≡ whole
    → n ≡ whole
end_counted ds stmts i n whole past before =
    let e : n ≡ n + 0 = omega arith in
    e ∙ sym (ap (λ l. n + kinds_of_rest ds l) (drop_all i stmts past)) ∙ before
