-- What the code's tests say of lines, in the words of the law.
use Rattle.std.proofs.Common.{◌≡◌, ℕ, Bool, true, false, not, ◌&&◌, ◌||◌, List, [], ◌∷◌, refl, ap, ◌∙◌, Bor}
use Rattle.std.specs.Prelude.{nat_eq, nat_le}
use Rattle.std.specs.List.{list_all}
use Rattle.std.specs.HashSet.{HashSet, contains}
use mathlib.Core.Path.{fun_ext}
use Rattle.gm_image.specs.Term.{Term, Const, Global, NodeCount, EdgeCount, Field, Self, OutDegree, InDegree, Register, Message, Neighbour, Column, NodeAt, Live, Unary, Binary, And, Or, Choose}
use Rattle.gm_image.specs.Program.{Line, SetField, Fold, SetRegister, Put, Send, Skip, Each, Block}
use Rattle.gm_image.specs.Parts.{all_leaves, slots_of, line_terms, is_among}
use Rattle.gm_merge_laws.specs.Joins.{block_lines, sends_nothing, put_globals, is_no_global, reads_no_global, puts_none, line_places, is_below, cannot_fault, are_joinable}
use Rattle.gm_merge.specs.declared.tests.Test.TheVariants.{TouchesNone, PlacesFrom, CannotFault, SendsNothing}
use Rattle.gm_merge.specs.Tests.{leaf_holds, term_holds, line_holds}
use Rattle.gm_merge.specs.Bounds.{lines_bound}
use Rattle.gm_merge.proofs.Exchange.{bound-is-below}

always : (ts : List Term) → list_all (term_holds SendsNothing) ts ≡ true
always [] = refl
always (t ∷ ts) = always ts

silent-line : (l : Line) → line_holds SendsNothing l ≡ sends_nothing l
silent-line (SetField f a) = refl
silent-line (Fold r p ts) = always (line_terms (Fold r p ts))
silent-line (SetRegister r a) = refl
silent-line (Put r p ts) = always (line_terms (Put r p ts))
silent-line (Send k to vs) = refl
silent-line (Skip n a) = refl
silent-line (Each d n) = refl

pub silent-lines : (ls : List Line) → list_all (line_holds SendsNothing) ls ≡ list_all sends_nothing ls
silent-lines ls = ap (λ t. list_all t ls) (fun_ext silent-line)

calm-line : (l : Line) → line_holds CannotFault l ≡ cannot_fault l
calm-line (SetField f a) = refl
calm-line (Fold r p ts) = refl
calm-line (SetRegister r a) = refl
calm-line (Put r p ts) = refl
calm-line (Send k to vs) = refl
calm-line (Skip n a) = refl
calm-line (Each d n) = refl

pub calm-lines : (ls : List Line) → list_all (line_holds CannotFault) ls ≡ list_all cannot_fault ls
calm-lines ls = ap (λ t. list_all t ls) (fun_ext calm-line)

behind-line : (n : ℕ) (l : Line) → line_holds (PlacesFrom n) l ≡ line_places (nat_le n) l
behind-line n (SetField f a) = refl
behind-line n (Fold r p ts) = refl
behind-line n (SetRegister r a) = refl
behind-line n (Put r p ts) = refl
behind-line n (Send k to vs) = refl
behind-line n (Skip k a) = refl
behind-line n (Each d k) = refl

behind-lines : (n : ℕ) (ls : List Line) → list_all (line_holds (PlacesFrom n)) ls ≡ list_all (line_places (nat_le n)) ls
behind-lines n ls = ap (λ t. list_all t ls) (fun_ext (behind-line n))

cross : (a b c d : Bool) → ((a && b) && (c && d)) ≡ ((a && c) && (b && d))
cross true true true d = refl
cross true true false d = refl
cross true false true d = refl
cross true false false d = refl
cross false b c d = refl

both-tests : (P Q : Line → Bool) (ls : List Line) → list_all (λ l. P l && Q l) ls ≡ (list_all P ls && list_all Q ls)
both-tests P Q [] = refl
both-tests P Q (l ∷ ls) = ap (λ x. (P l && Q l) && x) (both-tests P Q ls) ∙ cross (P l) (Q l) (list_all P ls) (list_all Q ls)

flip : (a b : Bool) → (a && b) ≡ (b && a)
flip true true = refl
flip true false = refl
flip false true = refl
flip false false = refl

slots-same : (gs : List ℕ) (t : ℕ → Bool) → ((n : ℕ) → t n ≡ is_among n gs) → (slots : List ℕ) → list_all (λ s. not (t s)) slots ≡ (list_all (λ s. not (is_among s gs)) slots && true)
slots-same gs t same slots = ap (λ u. list_all (λ s. not (u s)) slots) (fun_ext same) ∙ flip true (list_all (λ s. not (is_among s gs)) slots)

module _ (gs : List ℕ) (globals : Bor (HashSet ℕ _)) (same : (n : ℕ) → contains nat_eq globals.now n ≡ is_among n gs) where
  leaf-same : (t : Term) → leaf_holds (TouchesNone globals) t ≡ is_no_global gs t
  leaf-same (Const v) = refl
  leaf-same (Global g) = ap not (same g)
  leaf-same NodeCount = refl
  leaf-same EdgeCount = refl
  leaf-same (Field f) = refl
  leaf-same Self = refl
  leaf-same OutDegree = refl
  leaf-same InDegree = refl
  leaf-same (Register r) = refl
  leaf-same (Message i) = refl
  leaf-same Neighbour = refl
  leaf-same (Column w) = refl
  leaf-same (NodeAt a) = refl
  leaf-same (Live p a) = refl
  leaf-same (Unary op p a) = refl
  leaf-same (Binary op p a b) = refl
  leaf-same (And a b) = refl
  leaf-same (Or a b) = refl
  leaf-same (Choose c a b) = refl

  reads-same : (l : Line) → list_all (term_holds (TouchesNone globals)) (line_terms l) ≡ reads_no_global gs l
  reads-same l = ap (λ leaf. list_all (λ t. all_leaves leaf t) (line_terms l)) (fun_ext leaf-same)

  touch-line : (l : Line) → line_holds (TouchesNone globals) l ≡ (reads_no_global gs l && puts_none gs l)
  touch-line (SetField f a) = reads-same (SetField f a) ∙ flip true (reads_no_global gs (SetField f a))
  touch-line (Fold r p ts) = reads-same (Fold r p ts) ∙ flip true (reads_no_global gs (Fold r p ts))
  touch-line (SetRegister r a) = reads-same (SetRegister r a) ∙ flip true (reads_no_global gs (SetRegister r a))
  touch-line (Put r p ts) =
      ap (λ x. x && list_all (term_holds (TouchesNone globals)) (line_terms (Put r p ts))) (slots-same gs (λ s. contains nat_eq globals.now s) same (slots_of ts))
      ∙ ap (λ x. puts_none gs (Put r p ts) && x) (reads-same (Put r p ts)) ∙ flip (puts_none gs (Put r p ts)) (reads_no_global gs (Put r p ts))
  touch-line (Send k to vs) = reads-same (Send k to vs) ∙ flip true (reads_no_global gs (Send k to vs))
  touch-line (Skip n a) = reads-same (Skip n a) ∙ flip true (reads_no_global gs (Skip n a))
  touch-line (Each d n) = refl

  touch-lines : (ls : List Line) → list_all (line_holds (TouchesNone globals)) ls ≡ (list_all (reads_no_global gs) ls && list_all (puts_none gs) ls)
  touch-lines ls = ap (λ t. list_all t ls) (fun_ext touch-line) ∙ both-tests (reads_no_global gs) (puts_none gs) ls

five : (s r p b q c : Bool) → (s && (r && p) && b && (q || c)) ≡ (s && r && p && b && (q || c))
five true true p b q c = refl
five true false p b q c = refl
five false r p b q c = refl

-- the parts of the test are those of the law
pub joinable-is : (a b : Block) (globals : Bor (HashSet ℕ _)) → ((n : ℕ) → contains nat_eq globals.now n ≡ is_among n (put_globals (block_lines a))) → (bound : ℕ) (silent calm apart behind quiet : Bool) →
    bound ≡ lines_bound 0 (block_lines a) → silent ≡ list_all sends_nothing (block_lines a) → calm ≡ list_all cannot_fault (block_lines a) →
    apart ≡ list_all (line_holds (TouchesNone globals)) (block_lines b) → behind ≡ list_all (line_holds (PlacesFrom bound)) (block_lines b) → quiet ≡ list_all (line_holds SendsNothing) (block_lines b) →
    (silent && apart && behind && (quiet || calm)) ≡ are_joinable a b
joinable-is a b globals same bound silent calm apart behind quiet eb es ec ea eh eq =
    let xs = block_lines a in
    let ys = block_lines b in
    let gs = put_globals xs in
    ap (λ x. x && apart && behind && (quiet || calm)) es
    ∙ ap (λ x. list_all sends_nothing xs && x && behind && (quiet || calm)) (ea ∙ touch-lines gs globals same ys)
    ∙ ap (λ x. list_all sends_nothing xs && (list_all (reads_no_global gs) ys && list_all (puts_none gs) ys) && x && (quiet || calm))
    (eh ∙ behind-lines bound ys ∙ ap (λ n. list_all (line_places (nat_le n)) ys) eb ∙ bound-is-below xs ys)
    ∙ ap (λ x. list_all sends_nothing xs && (list_all (reads_no_global gs) ys && list_all (puts_none gs) ys) && list_all (line_places (is_below ys)) xs && (x || calm)) (eq ∙ silent-lines ys)
    ∙ ap (λ x. list_all sends_nothing xs && (list_all (reads_no_global gs) ys && list_all (puts_none gs) ys) && list_all (line_places (is_below ys)) xs && (list_all sends_nothing ys || x)) ec
    ∙ five (list_all sends_nothing xs) (list_all (reads_no_global gs) ys) (list_all (puts_none gs) ys) (list_all (line_places (is_below ys)) xs) (list_all sends_nothing ys) (list_all cannot_fault xs)
