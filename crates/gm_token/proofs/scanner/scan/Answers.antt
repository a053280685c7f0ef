use Rattle.gm_token.proofs.Once.{accepted_by, refused_by, long_refused}
use Rattle.gm_token.proofs.scanner.scan.Goals as goal

pub returns-clause-accepted : goal.returns-clause-accepted
returns-clause-accepted c = accepted_by c.args.text.now c.scan_within.result c.scan_within.ensures.tokens c.scan_within.ensures.stop

pub returns-clause-refused : goal.returns-clause-refused
returns-clause-refused c = refused_by c.args.text.now c.scan_within.result c.scan_within.ensures.tokens c.scan_within.ensures.stop

pub returns-then-text-gt-MAX_TEXT-clause-refused : goal.returns-then-text-gt-MAX_TEXT-clause-refused
returns-then-text-gt-MAX_TEXT-clause-refused c = long_refused c.args.text.now c.place_at.result c.if-text-gt-MAX_TEXT.true c.place_at.ensures
