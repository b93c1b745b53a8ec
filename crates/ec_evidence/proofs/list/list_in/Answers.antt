use Rattle.std.proofs.Common.{Err, take, ap, subst, ◌∙◌}
use Rattle.ec_narr.specs.Reading.{IsRead}
use Rattle.ec_narr.specs.declared.listed.ListFault.{ListFault}
use Rattle.ec_narr.specs.declared.listed.Listed.{Listed}
use Rattle.ec_listing.specs.Endings.{list_ending}
use Rattle.ec_listing.specs.Lists.{IsListText}
use Rattle.ec_listing.specs.Reading.{listed, faulty}
use Rattle.ec_evidence.specs.Found.{largest_list}
use Rattle.ec_evidence.specs.Steps.{IsCut}
use Rattle.ec_evidence.proofs.TooLong.{read_whole, read_past, within_whole, cut_found, cut_text}
use Rattle.ec_evidence.proofs.list.list_in.Goals as goal

pub returns-then-whole-clause-reads : goal.returns-then-whole-clause-reads
returns-then-whole-clause-reads c = λ bytes is.
    let front = c.split_at.ensures.front ∙ ap (take largest_list) c.deref.ensures.value in
    let past = read_past largest_list bytes c.args.whole.now.bytes.items c.split_at.result.0.now c.args.whole.now.past is c.if-whole.true front in
    let cut = subst (λ text. IsCut text c.whole_lines.result.text.now c.whole_lines.result.count) past.0 c.whole_lines.ensures in
    cut_found c.args.theory.now.signature bytes c.whole_lines.result.text.now c.whole_lines.result.count c.too_long.result past.1 cut c.too_long.ensures

pub returns-then-whole-clause-text : goal.returns-then-whole-clause-text
returns-then-whole-clause-text c = cut_text Listed c.args.theory.now.signature c.whole_lines.result.text.now c.whole_lines.result.count c.too_long.result c.too_long.ensures

pub returns-in-Ok-clause-reads : goal.returns-in-Ok-clause-reads
returns-in-Ok-clause-reads c = λ bytes is.
    let whole = read_whole largest_list bytes c.args.whole.now.bytes.items c.deref-2.result.now c.args.whole.now.past is c.if-whole.false c.deref-2.ensures.value in
    let list = c.in-Ok.listed in (
      within_whole c.args.theory.now.signature largest_list bytes c.deref-2.result.now (listed list.models.items (list_ending list.ending)) whole.0 whole.1 c.in-Ok.ensures.read,
      subst (λ bs. IsListText c.args.theory.now.signature bs list.models.items (list_ending list.ending)) whole.0 c.in-Ok.ensures.text,
    )

pub returns-in-Err-Line-clause-reads : goal.returns-in-Err-Line-clause-reads
returns-in-Err-Line-clause-reads c = λ bytes is.
    let whole = read_whole largest_list bytes c.args.whole.now.bytes.items c.deref-2.result.now c.args.whole.now.past is c.if-whole.false c.deref-2.ensures.value in
    within_whole c.args.theory.now.signature largest_list bytes c.deref-2.result.now (faulty c.in-Err-Line.line) whole.0 whole.1 (subst (λ (f : ListFault). IsRead c.args.theory.now.signature c.deref-2.result.now (Err f)) c.in-Err-Line.field-0-is c.in-Err-Line.ensures.read)
