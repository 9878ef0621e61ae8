use Rattle.std.proofs.Common.{rules, None, Ok, refl, ap, sym, ◌∙◌}
use Rattle.std.specs.Prelude.{option_map}
use Rattle.report.specs.Fault.{of_list}
use Rattle.report.specs.Input.{Listed, listed}
use Rattle.report.proofs.Listed.{all_left, left_behind, left_end}
use Rattle.report.proofs.list.test_list.Goals as goal

pub loop-item-init : goal.loop-item-init
loop-item-init c = record {
  left = listed c.args.input.now c.args.place;
  holds = all_left c.args.input.now c.args.place;
  fault = refl;
}

pub loop-item-preserved : goal.loop-item-preserved
loop-item-preserved c =
    let before = c.loop-item.invariant in
    let turn = left_behind _ _ _ c.in-Some._item c.in-Some.behind before.holds (search rules) (search rules) (search rules) in
    record {
      left = turn.rest;
      holds = turn.holds;
      fault = ap (λ (left : Listed). left.fault) (sym turn.splits) ∙ before.fault;
    }

pub returns : goal.returns
returns c =
    let before = c.loop-item.invariant in
    let none = left_end _ _ _ (Ok None) before.holds (search rules) refl in
    sym (ap (option_map of_list) (sym before.fault ∙ ap (λ (left : Listed). left.fault) none))
