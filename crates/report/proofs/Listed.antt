-- A strike list that is read record by record.
use Rattle.std.proofs.Common.{rules, ◌≡◌, ℕ, zero, suc, ◌+◌, ◌<◌, ◌≤◌, List, [], ◌∷◌, ◌++◌, length, Some, None, Ok, Err, Option, refl, sym, ap, ◌∙◌, arith, append_assoc}
use Rattle.std.specs.List.{cons_option}
use Rattle.std.specs.Result.{result_err, result_unwrap_or}
use Rattle.docket.specs.declared.strike.Strike.{Strike}
use Rattle.files.specs.StrikeList.{Answer, record_at}
use Rattle.files.specs.declared.record.Record.{Record}
use Rattle.report.specs.Input.{Listed, and_behind, ends_with, in_front, listed, listed_from}

-- What a list holds from a place on, read with room for all records that there can be.
pub record HoldsFrom (input : List ℕ) (place : ℕ) (left : Listed) : Type 0 where
  pub most : ℕ
  pub enough : length input ≤ place + most
  pub is : listed_from most input place ≡ left

-- a list holds what is listed
pub all_left : (input : List ℕ) (place : ℕ) → HoldsFrom input place (listed input place)
unfolding listed
all_left input place = record { most = length input; enough = omega arith; is = refl }

-- What a list holds where a record stands in front: the record, and what the list behind it holds.
pub record LeftBehind (input : List ℕ) (item : Record) (behind : ℕ) (left : Listed) : Type 0 where
  pub rest : Listed
  pub holds : HoldsFrom input behind rest
  pub splits : left ≡ in_front item rest

module _ (input : List ℕ) (place : ℕ) (left : Listed) where
  behind_most : (item : Record) (behind most : ℕ) → length input ≤ place + most → listed_from most input place ≡ left → record_at input place ≡ Ok (Some (item, behind)) → place < behind → behind ≤ length input → LeftBehind input item behind left
  behind_most item behind zero enough is found forward inside = absurd (omega arith)
  behind_most item behind (suc most) enough is found forward inside = record {
    rest = listed_from most input behind;
    holds = record { most = most; enough = omega arith; is = refl };
    splits = sym is ∙ ap (and_behind (listed_from most input)) found;
  }

  -- a record has been read
  pub left_behind : (item : Record) (behind : ℕ) → HoldsFrom input place left → record_at input place ≡ Ok (Some (item, behind)) → place < behind → behind ≤ length input → LeftBehind input item behind left
  left_behind item behind holds = behind_most item behind holds.most holds.enough holds.is

  -- past the end there is no record
  no_record : length input ≤ place → record_at input place ≡ Ok None
  no_record past = search rules

  end_most : (answer : Answer) (most : ℕ) → length input ≤ place + most → listed_from most input place ≡ left → record_at input place ≡ answer → result_unwrap_or answer None ≡ None → left ≡ ends_with (result_err answer)
  end_most (Ok None) zero enough is found none = sym is
  end_most (Ok None) (suc most) enough is found none = sym is ∙ ap (and_behind (listed_from most input)) found
  end_most (Ok (Some read)) most enough is found none = absurd cc
  end_most (Err fault) zero enough is found none = let ended = no_record (omega arith) in absurd cc
  end_most (Err fault) (suc most) enough is found none = sym is ∙ ap (and_behind (listed_from most input)) found

  -- no record has been read
  pub left_end : (answer : Answer) → HoldsFrom input place left → record_at input place ≡ answer → result_unwrap_or answer None ≡ None → left ≡ ends_with (result_err answer)
  left_end answer holds = end_most answer holds.most holds.enough holds.is

-- a record that is told of was read
pub record_found : (answer : Answer) (read : Record × ℕ) → result_unwrap_or answer None ≡ Some read → answer ≡ Ok (Some read)
record_found (Ok found) read is = ap (λ x. Ok x) is
record_found (Err fault) read is = absurd cc

-- a strike goes behind those that were found before it
pub kept_in_front : (found : List Strike) (strike : Option Strike) (rest : List Strike) → (found ++ cons_option strike []) ++ rest ≡ found ++ cons_option strike rest
kept_in_front found None rest = append_assoc found [] rest
kept_in_front found (Some strike) rest = append_assoc found (strike ∷ []) rest
