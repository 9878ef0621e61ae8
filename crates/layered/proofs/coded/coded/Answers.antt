use Rattle.std.proofs.Common.{pos, sym, ap, ◌∙◌}
use Rattle.systems.specs.CodeList.{listed}
use Rattle.layered.proofs.Codes.{one_more}
use Rattle.layered.specs.declared.coded.Code.{Code}
use Rattle.layered.proofs.coded.coded.Goals as goal

abbrev any : Code
any = record { from = pos 0; to = pos 0 }

pub loop-code-preserved : goal.loop-code-preserved
loop-code-preserved c =
    let before = listed c.loop-code.list.codes in
    let more = one_more c.args.codes.now c.loop-code.code-index any before c.loop-code-test.true c.loop-code.invariant.0 (sym c.in_ok-add_code.ensures.answer) in (
      c.add_code.ensures.entries ∙ more.0,
      more.1,
      ap (λ s. s.words.now) c.add_code.ensures.system ∙ c.loop-code.invariant.2,
      c.add_code.ensures.channel ∙ c.loop-code.invariant.3,
      c.add_code.ensures.cut ∙ c.loop-code.invariant.4,
    )
