use Rattle.std.proofs.Common.{◌≡◌, ◌∙◌, ◌++◌, ◌∷◌, [], ℕ, List, sym, ap, length, arith, length-append}
use Rattle.gm_merge.specs.Trimmed.{kept_count}
use Rattle.gm_merge.specs.Numbers.{flag_at, count_at}
use Rattle.gm_merge.proofs.Numbering.{number-next, counted-small, numbers-push}
use Rattle.gm_merge.proofs.trimming.find_numbers.Goals as goal

pub loop-flag-preserved : goal.loop-flag-preserved
loop-flag-preserved c =
    let fs = c.args.flags.now in
    let i = c.loop-flag.flag-index in
    let xs = c.loop-flag.numbers.items in
    let n = c.loop-flag.next in
    let inv = c.loop-flag.invariant in
    let pushed : c.push.new.self.items ≡ xs ++ n ∷ [] = c.in_ok-push.ensures.items in
    record {
      long = let one = ap (λ (ys : List ℕ). length ys) pushed in let two = length-append xs (n ∷ []) in omega (arith, one, two, inv.long);
      small = counted-small (flag_at fs i) n i c.count_flag-next.result c.count_flag-next.ensures inv.small;
      next = number-next (flag_at fs) i n c.count_flag-next.result c.count_flag-next.ensures inv.next;
      numbers = λ q l. ap (λ (ys : List ℕ). count_at ys q) pushed ∙ numbers-push xs n i (kept_count (flag_at fs) 0) inv.long inv.numbers inv.next q l;
    }
