use Rattle.std.proofs.Common.{◌≡◌, ◌≢◌, refl, rules, true, false}
use Rattle.gm_input.specs.Outside.{outside}
use Rattle.gm_input.specs.Texts.{standard_input}
use Rattle.gm_input.proofs.Naming.{input_read, input_unread, file_read, file_unread}
use Rattle.gm_input.proofs.names.read_named.Goals as goal

pub returns-then-is_input-clause-read : goal.returns-then-is_input-clause-read
returns-then-is_input-clause-read g c =
    let yes : c.is_input.result ≡ true = c.if-is_input.true in
    let named : c.args.name.now ≡ standard_input = c.is_input.ensures.0 (search rules) in
    let b = outside g.S.Source g.F.Files c.args.input.now c.args.files.now in
    let a = outside g.S.Source g.F.Files c.read_source_front.new.source c.args.files.now in
    input_read c.read_source_front.result (λ v. v.items) c.args.most c.args.name.now b a named (record { map = refl; quiet = refl; found = refl })
    c.read_source_front.ensures.ok c.read_source_front.ensures.quiet

pub returns-then-is_input-clause-unread : goal.returns-then-is_input-clause-unread
returns-then-is_input-clause-unread g c =
    let yes : c.is_input.result ≡ true = c.if-is_input.true in
    let named : c.args.name.now ≡ standard_input = c.is_input.ensures.0 (search rules) in
    let b = outside g.S.Source g.F.Files c.args.input.now c.args.files.now in
    let a = outside g.S.Source g.F.Files c.read_source_front.new.source c.args.files.now in
    input_unread c.read_source_front.result c.args.name.now b a named (record { map = refl; quiet = refl; found = refl })
    c.read_source_front.ensures.failed c.read_source_front.ensures.no_file

pub returns-else-is_input-clause-read : goal.returns-else-is_input-clause-read
returns-else-is_input-clause-read g c =
    let other : c.is_input.result ≡ false = c.if-is_input.false in
    let named : c.args.name.now ≢ standard_input = λ is. absurd (let h = c.is_input.ensures.1 is in search rules) in
    let b = outside g.S.Source g.F.Files c.args.input.now c.args.files.now in
    let a = outside g.S.Source g.F.Files c.args.input.now c.read_file_front.new.files in
    file_read c.read_file_front.result (λ v. v.items) c.args.most c.args.name.now b a named (record { left = refl; quiet = refl }) c.read_file_front.ensures.kept
    c.read_file_front.ensures.ok c.read_file_front.ensures.no_absence c.read_file_front.ensures.no_fault

pub returns-else-is_input-clause-unread : goal.returns-else-is_input-clause-unread
returns-else-is_input-clause-unread g c =
    let other : c.is_input.result ≡ false = c.if-is_input.false in
    let named : c.args.name.now ≢ standard_input = λ is. absurd (let h = c.is_input.ensures.1 is in search rules) in
    let b = outside g.S.Source g.F.Files c.args.input.now c.args.files.now in
    let a = outside g.S.Source g.F.Files c.args.input.now c.read_file_front.new.files in
    file_unread c.read_file_front.result c.args.name.now b a named (record { left = refl; quiet = refl })
    c.read_file_front.ensures.lacks c.read_file_front.ensures.absent c.read_file_front.ensures.failed c.read_file_front.ensures.no_absence c.read_file_front.ensures.no_fault
