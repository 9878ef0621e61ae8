use Rattle.std.proofs.Common.{None, ap, arith, sym, refl, ◌∙◌}
use Rattle.std.proofs.lemmas.List.{append-nil}
use Rattle.std.specs.List.{filter_map}
use Rattle.std.specs.Prelude.{◌++◌}
use Rattle.std.specs.Result.{result_unwrap_or}
use Rattle.files.specs.StrikeList.{record_at}
use Rattle.report.specs.Input.{Listed, listed, strike_of}
use Rattle.report.proofs.Listed.{all_left, kept_in_front, left_behind, left_end, record_found}
use Rattle.report.proofs.list.read_strikes.Goals as goal

pub loop-item-init : goal.loop-item-init
loop-item-init c = record {
  left = listed c.args.input.now c.args.place;
  holds = all_left c.args.input.now c.args.place;
  strikes = rw c.requires.none;
  few = omega (arith, c.requires.empty);
  inside = omega (arith, c.requires.empty);
  room = refl;
}

pub loop-item-preserved : goal.loop-item-preserved
loop-item-preserved c =
    let before = c.loop-item.invariant in
    let item = c.in-Some.item in
    let strike = strike_of item in
    let strikes = c.loop-item.strikes.items in
    let read = record_found c.read_record.result (item, c.in-Some.behind) (sym c.unwrap_or.ensures ∙ c.in-Some.is) in
    let forward = rw read at c.read_record.ensures.forward in
    let turn = left_behind _ _ _ item c.in-Some.behind before.holds (sym c.read_record.ensures.answer ∙ read) forward.0 forward.1 in
    record {
      left = turn.rest;
      holds = turn.holds;
      strikes =
          rw (c.keep.ensures.items, c.strike_of.ensures)
          (kept_in_front strikes strike (filter_map strike_of turn.rest.records)
          ∙ ap (λ (left : Listed). strikes ++ filter_map strike_of left.records) (sym turn.splits)
          ∙ before.strikes);
      few = omega (arith, c.keep.ensures.len, forward.0);
      inside = omega (arith, c.keep.ensures.len, forward.0, forward.1);
      room = c.keep.ensures.capacity ∙ before.room;
    }

pub keep-requires : goal.keep-requires
keep-requires c =
    let before = c.loop-item.invariant in
    let read = record_found c.read_record.result (c.in-Some.item, c.in-Some.behind) (sym c.unwrap_or.ensures ∙ c.in-Some.is) in
    let forward = rw read at c.read_record.ensures.forward in
    omega (arith, before.few, before.room, c.requires.room, forward.0, forward.1)

pub returns : goal.returns
returns c =
    let before = c.loop-item.invariant in
    let input = c.args.input.now in
    let none = ap (λ r. result_unwrap_or r None) (sym c.read_record.ensures.answer) ∙ sym c.unwrap_or.ensures ∙ c.in_default.is in
    let ended = left_end input c.loop-item.next before.left (record_at input c.loop-item.next) before.holds refl none in
    record {
      strikes =
          sym (append-nil c.loop-item.strikes.items)
          ∙ ap (λ (left : Listed). c.loop-item.strikes.items ++ filter_map strike_of left.records) (sym ended)
          ∙ before.strikes;
      few = before.inside;
      capacity = before.room;
    }
