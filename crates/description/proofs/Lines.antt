-- The lines of a list, as they are written one by one.
use Rattle.std.proofs.Common.{◌≡◌, ℕ, ◌<◌, ◌≤◌, List, [], ◌++◌, length, Some, None, Ok, refl, ap, sym, ◌∙◌, append_assoc}
use Rattle.std.proofs.Output.{has_written_append, has_written_of_eq, writes_in_calls_nil}
use Rattle.std.proofs.lemmas.List.{append-nil}
use Rattle.std.specs.Fmt.{HasWritten, IsPlainFormatter}
use Rattle.std.specs.List.{flat_map}
use Rattle.std.specs.Result.{result_unwrap_or}
use Rattle.std.specs.declared.fmt.Formatter.{Formatter}
use Rattle.files.specs.StrikeList.{record_at}
use Rattle.files.specs.declared.record.Record.{Record}
use Rattle.report.specs.Input.{Listed, listed}
use Rattle.report.proofs.Listed.{HoldsFrom, all_left, left_behind, left_end}
use Rattle.description.specs.Input.{record_line, records_text}

-- What is written between two places of a list: with the lines of what the list holds from the second place on, it is all lines.
pub record LinesBetween {W : Type 0} (took : W → List ℕ → W → Type 0) (f g : Formatter W) (input : List ℕ) (place next : ℕ) : Type 0 where
  pub left : Listed
  pub holds : HoldsFrom input next left
  pub written : List ℕ
  pub writes : HasWritten took f written g
  pub whole : written ++ flat_map record_line left.records ≡ records_text input place

module _ {W : Type 0} (took : W → List ℕ → W → Type 0) (f : Formatter W) (input : List ℕ) (place : ℕ) where
  -- at first nothing is written
  pub no_line : IsPlainFormatter f → LinesBetween took f f input place place
  no_line plain = record {
    left = listed input place;
    holds = all_left input place;
    written = [];
    writes = record { wrote = writes_in_calls_nil _ _; plain = plain };
    whole = refl;
  }

  -- a record has been read, and its line is written
  pub line_more : (g h : Formatter W) (next behind : ℕ) (item : Record) → LinesBetween took f g input place next → record_at input next ≡ Ok (Some (item, behind)) → next < behind → behind ≤ length input → HasWritten took g (record_line item) h → LinesBetween took f h input place behind
  line_more g h next behind item lines found forward inside line =
      let turn = left_behind input next lines.left item behind lines.holds found forward inside in
      record {
        left = turn.rest;
        holds = turn.holds;
        written = lines.written ++ record_line item;
        writes = has_written_append _ _ _ _ _ _ lines.writes line;
        whole =
            append_assoc lines.written (record_line item) (flat_map record_line turn.rest.records)
            ∙ ap (λ (left : Listed). lines.written ++ flat_map record_line left.records) (sym turn.splits)
            ∙ lines.whole;
      }

  -- no record is left
  pub all_lines : (g : Formatter W) (next : ℕ) → LinesBetween took f g input place next → result_unwrap_or (record_at input next) None ≡ None → HasWritten took f (records_text input place) g
  all_lines g next lines none =
      let ended = left_end input next lines.left (record_at input next) lines.holds refl none in
      has_written_of_eq _ _ _ _ _ (sym (append-nil lines.written) ∙ ap (λ (left : Listed). lines.written ++ flat_map record_line left.records) (sym ended) ∙ lines.whole) lines.writes
