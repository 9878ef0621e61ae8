use Rattle.std.proofs.Common.{◌≡◌, ◌∙◌, ap, rules}
use Rattle.systems.specs.Words.{row_cells}
use Rattle.systems.specs.declared.row_mut.RowMut.{RowMut}
use Rattle.systems.proofs.Written.{row_written}
use Rattle.codec.specs.Sequence.{Cursor, value_at}
use Rattle.files.specs.SystemFile.{controller_place, environment_place, file_row, next_place}
use Rattle.files.proofs.rows.write_row.Goals as goal

pub returns-clause-words : goal.returns-clause-words
returns-clause-words c =
    let bytes = c.args.reader.now.bytes in
    let channels = c.args.channels in
    let start = c.args.reader.now.place in
    let p : c.number_or_zero-controller.result ≡ value_at bytes (controller_place bytes channels start) = search rules in
    let q : c.number_or_zero-environment.result ≡ value_at bytes (environment_place bytes channels start) = search rules in
    let next : Cursor = record { bytes = bytes; place = next_place bytes channels start } in
    let read : c.number_or_zero-environment.new.self ≡ next = search rules in
    let fed = rw (c.set_moves.ensures, c.write_readings.ensures.row, c.new-row.ensures.words, c.new-row.ensures.channels, read, p, q) at c.write_next_states.ensures.row in
    let name : c.write_next_states.new.row.words.ghost_name ≡ c.new-row.result.words.ghost_name = search rules in
    let written : c.write_next_states.new.row.words.now ≡ row_cells channels (file_row bytes channels start) =
    ap (λ (r : RowMut). r.words.now) fed
    ∙ row_written channels (file_row bytes channels start) c.args.words.now c.requires.long c.requires.few_moves.0 c.requires.few_moves.1 in
    search (rules, name, written)
