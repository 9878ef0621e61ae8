use Rattle.std.specs.Prelude.{◌≡◌, ◌+◌, ◌*◌, ◌≤◌, ◌++◌, length, vec_capacity, vec_len}
use Rattle.std.specs.Iterator.Adapters.{zip_first, zip_second}
use Rattle.std.specs.Slice.Iter.{iter_rest}
use Rattle.report.specs.Lines.{proposal_lines}
use Rattle.report.specs.Room.{longest_line}
use Rattle.report.proofs.deciding.put_proposals.Given as goal

-- the lines so far and those of the proposals that are left are all lines, and there is room for what is left
abbrev pub invariant-loop-strike : goal.invariant-loop-strike
invariant-loop-strike l =
    let strikes = iter_rest (zip_first l.strike-iterator) in
    let answers = iter_rest (zip_second l.strike-iterator) in
    record {
      lines : l.lines.items ++ proposal_lines strikes answers ≡ l.initial.lines.items ++ proposal_lines l.fn.strikes l.fn.answers;
      len : vec_len l.lines + length strikes * longest_line ≤ vec_len l.initial.lines + length l.fn.strikes * longest_line;
      room : vec_capacity l.initial.lines ≤ vec_capacity l.lines;
    }
