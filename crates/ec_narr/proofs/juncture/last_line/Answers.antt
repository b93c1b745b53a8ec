use Rattle.ec_narr.proofs.JunctureLemmas.{no_cut, no_words, wrong_number, not_so}
use Rattle.ec_narr.proofs.juncture.last_line.Goals as goal

pub returns-in_default : goal.returns-in_default
returns-in_default c = no_cut c.args.count c.args.bytes.now c.in_default.ensures.exact

pub returns-in_default-read_ending : goal.returns-in_default-read_ending
returns-in_default-read_ending c = no_words c.args.count c.args.bytes.now c.in-Some.text.now c.in-Some.behind.now c.in-Some.ensures.exact c.in_default-read_ending.ensures

pub returns-else-has_number : goal.returns-else-has_number
returns-else-has_number c =
    let read = c.in-Some-read_ending in
    wrong_number c.args.count c.args.bytes.now c.in-Some.text.now c.in-Some.behind.now c.in-Some.ensures.exact read.ending read.ensures.0 read.ensures.1 (not_so c.has_number.result c.has_number.ensures c.if-has_number.false)
