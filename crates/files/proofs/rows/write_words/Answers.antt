use Rattle.std.proofs.Common.{refl, add-one}
use Rattle.systems.proofs.Written.{rows_all, rows_more, rows_none}
use Rattle.files.specs.SystemFile.{file_rows}
use Rattle.files.proofs.rows.write_words.Goals as goal

pub loop-state-init : goal.loop-state-init
loop-state-init c =
    let reader = c.args.reader.now in
    let rows = file_rows reader.bytes c.args.sizes.channels reader.place in record {
      reads = refl;
      written = rows_none c.args.sizes.states c.args.sizes.channels rows c.args.words.now c.write_header.new.words c.requires.long c.write_header.ensures;
    }

pub loop-state-preserved : goal.loop-state-preserved
loop-state-preserved c =
    let reader = c.args.reader.now in
    let rows = file_rows reader.bytes c.args.sizes.channels reader.place in record {
      reads = rw (add-one, c.write_row.ensures.place, c.loop-state.invariant.reads) refl;
      written =
          rows_more c.args.sizes.states c.args.sizes.channels rows c.loop-state.state c.loop-state.words c.write_row.new.words c.row_range.result
          c.loop-state-test.true c.loop-state.invariant.written c.row_range.ensures (rw c.loop-state.invariant.reads at c.write_row.ensures.words);
    }

pub returns : goal.returns
returns c =
    let reader = c.args.reader.now in
    rows_all c.args.sizes.states c.args.sizes.channels (file_rows reader.bytes c.args.sizes.channels reader.place) c.loop-state.state c.loop-state.words
    c.loop-state.invariant.written c.loop-state-test.false
