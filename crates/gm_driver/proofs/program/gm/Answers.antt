use Rattle.std.proofs.Common.{map}
use Rattle.std.specs.Prelude.{string_bytes}
use Rattle.gm_words.specs.Jobs.{job_of}
use Rattle.gm_input.specs.Outside.{outside}
use Rattle.gm_driver.proofs.Answering.{reply_written, reply_quiet, reply_rises}
use Rattle.gm_driver.proofs.program.gm.Goals as goal

pub returns-in-Ok-write_all-clause-none_missed : goal.returns-in-Ok-write_all-clause-none_missed
returns-in-Ok-write_all-clause-none_missed g c = λ is.
    reply_quiet (job_of (map string_bytes c.args.words.now)) _ _
    (outside g.S.Source g.F.Files c.args.input.now c.args.files.now) (outside g.S.Source g.F.Files c.reply-replied.new.input c.reply-replied.new.files)
    c.in-Ok.answer.text.items c.in-Ok.answer.status c.in-Ok.ensures is

pub returns-in-Ok-write_all-clause-read_fault : goal.returns-in-Ok-write_all-clause-read_fault
returns-in-Ok-write_all-clause-read_fault g c = λ is.
    reply_rises (job_of (map string_bytes c.args.words.now)) _ _
    (outside g.S.Source g.F.Files c.args.input.now c.args.files.now)
    (outside g.S.Source g.F.Files c.reply-replied.new.input c.reply-replied.new.files)
    c.in-Ok.answer.text.items c.in-Ok.answer.status c.in-Ok.ensures is

pub returns-in-Ok-write_all-clause-write_fault : goal.returns-in-Ok-write_all-clause-write_fault
returns-in-Ok-write_all-clause-write_fault g c = λ is.
    absurd (rw is at (reply_written (job_of (map string_bytes c.args.words.now)) _ _
    (outside g.S.Source g.F.Files c.args.input.now c.args.files.now)
    (outside g.S.Source g.F.Files c.reply-replied.new.input c.reply-replied.new.files)
    c.in-Ok.answer.text.items c.in-Ok.answer.status c.in-Ok.ensures))

pub returns-in-Ok-write_all-clause-prefix : goal.returns-in-Ok-write_all-clause-prefix
returns-in-Ok-write_all-clause-prefix g c = λ is.
    absurd (rw is at (reply_written (job_of (map string_bytes c.args.words.now)) _ _
    (outside g.S.Source g.F.Files c.args.input.now c.args.files.now)
    (outside g.S.Source g.F.Files c.reply-replied.new.input c.reply-replied.new.files)
    c.in-Ok.answer.text.items c.in-Ok.answer.status c.in-Ok.ensures))

pub returns-in-Ok-write_all-clause-nothing : goal.returns-in-Ok-write_all-clause-nothing
returns-in-Ok-write_all-clause-nothing g c = λ is.
    absurd (rw is at (reply_written (job_of (map string_bytes c.args.words.now)) _ _
    (outside g.S.Source g.F.Files c.args.input.now c.args.files.now)
    (outside g.S.Source g.F.Files c.reply-replied.new.input c.reply-replied.new.files)
    c.in-Ok.answer.text.items c.in-Ok.answer.status c.in-Ok.ensures))

pub returns-in-Ok-write_all-clause-written : goal.returns-in-Ok-write_all-clause-written
returns-in-Ok-write_all-clause-written g c = λ is. (c.in-Ok.answer.text.items, rw c.deref_mut.ensures.value at c.in-Ok.ensures, rw c.deref.ensures.value at c.in-Ok-write_all.ensures.ok)

pub returns-clause-prefix : goal.returns-clause-prefix
returns-clause-prefix g c = λ is. (c.in-Ok.answer.text.items, (c.in-Ok.answer.status, rw c.deref_mut.ensures.value at c.in-Ok.ensures, rw c.deref.ensures.value at c.in-Err.ensures.prefix))
