-- What a file without a fault is known to hold.
use Rattle.std.proofs.Common.{◌≡◌, ℕ, ◌+◌, ◌-◌, ◌<◌, ◌≤◌, cond, ltb, List, Some, None, sym, refl, ap, subst, arith}
use Rattle.std.proofs.lemmas.Bool.Decides.{nat_tests}
use Rattle.std.proofs.lemmas.Bool.{le-ltb, lt-ltb}
use Rattle.systems.specs.Bounded.{between, or_else}
use Rattle.systems.specs.Layout.{words_taken}
use Rattle.systems.proofs.Bounded.{or_else_none, first_below_none_all, first_below_none_from}
use Rattle.codec.specs.Sequence.{value_at, skip}
use Rattle.files.specs.SystemFile.{unread, refused, fault, states_allowed, channels_allowed, moves_allowed, next_allowed, controller_place, environment_place, next_place, next_numbers, readings_fault, next_fault, row_fault, row_start, rows_fault, states_at, channels_place, channels_at, rows_place, row_at, file_words, file_fault, file_parts, too_short}
use Rattle.files.specs.declared.check.Allowed.{Allowed}
use Rattle.files.specs.declared.check.TestedFile.{TestedFile}

-- a number that is read and allowed
pub record Fits (bytes : List ℕ) (place w least most : ℕ) : Type 0 where
  pub read : unread bytes place w ≡ None
  pub low : least ≤ value_at bytes place
  pub high : value_at bytes place ≤ most

pub refused_none : (bytes : List ℕ) (place w : ℕ) (allowed : Allowed) → refused bytes place w allowed ≡ None → Fits bytes place w allowed.least allowed.most
refused_none bytes place w allowed h =
    let both = or_else_none (unread bytes place w) (cond (between allowed.least allowed.most (value_at bytes place)) None (Some (fault allowed.otherwise place w))) h in
    record { read = both.0; low = grind (arith, nat_tests, both.1); high = grind (arith, nat_tests, both.1) }

-- the row of state w
pub record RowTested (bytes : List ℕ) (n c w start : ℕ) : Type 0 where
  pub readings : (j : ℕ) → j < c → unread bytes (skip bytes j start) w ≡ None
  pub controller : Fits bytes (controller_place bytes c start) w 1 16
  pub environment : Fits bytes (environment_place bytes c start) w 1 16
  pub next : (j : ℕ) → j < next_numbers bytes c start → Fits bytes (skip bytes j (next_place bytes c start)) w 0 (n - 1)

pub row_tested : (bytes : List ℕ) (n c w start : ℕ) → row_fault bytes n c w start ≡ None → RowTested bytes n c w start
row_tested bytes n c w start h =
    let controller = refused bytes (controller_place bytes c start) w moves_allowed in
    let environment = refused bytes (environment_place bytes c start) w moves_allowed in
    let next = next_fault bytes n w (next_place bytes c start) (next_numbers bytes c start) in
    let first = or_else_none (readings_fault bytes w start c) (or_else controller (or_else environment next)) h in
    let second = or_else_none controller (or_else environment next) first.1 in
    let third = or_else_none environment next second.1 in
    record {
      readings = first_below_none_all c (λ j. unread bytes (skip bytes j start) w) first.0;
      controller = refused_none bytes (controller_place bytes c start) w moves_allowed second.0;
      environment = refused_none bytes (environment_place bytes c start) w moves_allowed third.0;
      next = λ j l. refused_none bytes (skip bytes j (next_place bytes c start)) w (next_allowed n)
          (first_below_none_all (next_numbers bytes c start) (λ i. refused bytes (skip bytes i (next_place bytes c start)) w (next_allowed n)) third.1 j l);
    }

-- the whole file
pub record FileTested (bytes : List ℕ) (place room : ℕ) : Type 0 where
  pub states : Fits bytes place 0 1 256
  pub channels : Fits bytes (channels_place bytes place) 0 1 8
  pub room_enough : file_words bytes place ≤ room
  pub rows : (w : ℕ) → w < states_at bytes place → RowTested bytes (states_at bytes place) (channels_at bytes place) w (row_at bytes place w)

pub rows_tested : (bytes : List ℕ) (n c start : ℕ) → rows_fault bytes n c start ≡ None → (w : ℕ) → w < n → RowTested bytes n c w (row_start bytes c start w)
rows_tested bytes n c start h w l =
    row_tested bytes n c w (row_start bytes c start w) (first_below_none_all n (λ v. row_fault bytes n c v (row_start bytes c start v)) h w l)

pub file_tested : (bytes : List ℕ) (place room : ℕ) → file_fault bytes place room ≡ None → FileTested bytes place room
file_tested bytes place room h =
    let channels = refused bytes (channels_place bytes place) 0 channels_allowed in
    let memory = cond (ltb room (file_words bytes place)) (Some (too_short (channels_place bytes place))) None in
    let rows = rows_fault bytes (states_at bytes place) (channels_at bytes place) (rows_place bytes place) in
    let first = or_else_none (refused bytes place 0 states_allowed) (or_else channels (or_else memory rows)) h in
    let second = or_else_none channels (or_else memory rows) first.1 in
    let third = or_else_none memory rows second.1 in
    record {
      states = refused_none bytes place 0 states_allowed first.0;
      channels = refused_none bytes (channels_place bytes place) 0 channels_allowed second.0;
      room_enough = grind (arith, nat_tests, third.0);
      rows = rows_tested bytes (states_at bytes place) (channels_at bytes place) (rows_place bytes place) third.1;
    }

-- and the other way round
refused_from : (bytes : List ℕ) (place w : ℕ) (allowed : Allowed) → Fits bytes place w allowed.least allowed.most → refused bytes place w allowed ≡ None
refused_from bytes place w allowed ok =
    let low = ok.low in
    let high = ok.high in
    rw ok.read (grind (arith, nat_tests))

row_fault_from : (bytes : List ℕ) (n c w start : ℕ) → RowTested bytes n c w start → row_fault bytes n c w start ≡ None
row_fault_from bytes n c w start ok =
    rw (
      first_below_none_from c (λ j. unread bytes (skip bytes j start) w) ok.readings,
      refused_from bytes (controller_place bytes c start) w moves_allowed ok.controller,
      refused_from bytes (environment_place bytes c start) w moves_allowed ok.environment,
    )
    (first_below_none_from (next_numbers bytes c start) (λ j. refused bytes (skip bytes j (next_place bytes c start)) w (next_allowed n))
    (λ j l. refused_from bytes (skip bytes j (next_place bytes c start)) w (next_allowed n) (ok.next j l)))

pub file_fault_from : (bytes : List ℕ) (place room : ℕ) → FileTested bytes place room → file_fault bytes place room ≡ None
file_fault_from bytes place room ok =
    rw (
      refused_from bytes place 0 states_allowed ok.states,
      refused_from bytes (channels_place bytes place) 0 channels_allowed ok.channels,
      le-ltb room (file_words bytes place) ok.room_enough,
    )
    (first_below_none_from (states_at bytes place) (λ w. row_fault bytes (states_at bytes place) (channels_at bytes place) w (row_at bytes place w))
    (λ w l. row_fault_from bytes (states_at bytes place) (channels_at bytes place) w (row_at bytes place w) (ok.rows w l)))

-- a file without a fault has none either where there is other room that suffices
pub fault_elsewhere : (bytes : List ℕ) (place room other : ℕ) → file_fault bytes place room ≡ None → file_words bytes place ≤ other → file_fault bytes place other ≡ None
fault_elsewhere bytes place room other none enough =
    let ok = file_tested bytes place room none in
    file_fault_from bytes place other (record { states = ok.states; channels = ok.channels; room_enough = enough; rows = ok.rows })

-- and just that it is short of words where there is less
pub fault_of_few_words : (bytes : List ℕ) (place room other : ℕ) → file_fault bytes place room ≡ None → other < file_words bytes place → file_fault bytes place other ≡ Some (too_short (channels_place bytes place))
fault_of_few_words bytes place room other none few =
    let ok = file_tested bytes place room none in
    rw (
      refused_from bytes place 0 states_allowed ok.states,
      refused_from bytes (channels_place bytes place) 0 channels_allowed ok.channels,
      lt-ltb other (file_words bytes place) few,
    )
    refl

-- the words that its system takes fit the room
pub fits_the_room : (bytes : List ℕ) (place room : ℕ) → file_fault bytes place room ≡ None → file_words bytes place ≤ room
fits_the_room bytes place room none = (file_tested bytes place room none).room_enough

-- as where there are just the words that its system takes
pub fits_its_words : (bytes : List ℕ) (place room : ℕ) → file_fault bytes place room ≡ None → file_fault bytes place (file_words bytes place) ≡ None
fits_its_words bytes place room none = fault_elsewhere bytes place room (file_words bytes place) none (omega arith)

-- a file that is granted the words from a place on, in a memory of so many
pub record Granted (bytes : List ℕ) (place long at : ℕ) (file : TestedFile) : Type 0 where
  pub tested : FileTested bytes place (long - at)
  pub is : file ≡ file_parts bytes place
  pub inside : at + file.words ≤ long
  pub words_are : file.words ≡ words_taken file.sizes.states file.sizes.channels

pub granted : (bytes : List ℕ) (place long at : ℕ) (file : TestedFile)
    → file_fault bytes place (long - at) ≡ None → file ≡ file_parts bytes place → Granted bytes place long at file
granted bytes place long at file none is =
    let tested = file_tested bytes place (long - at) none in
    let words : file.words ≡ file_words bytes place = ap (λ f. f.words) is in
    record {
      tested = tested;
      is = is;
      inside = omega (arith, tested.room_enough);
      words_are = subst (λ f. f.words ≡ words_taken f.sizes.states f.sizes.channels) (sym is) refl;
    }

pub inside_memory : (bytes : List ℕ) (place long at : ℕ) (file : TestedFile)
    → file_fault bytes place (long - at) ≡ None → file ≡ file_parts bytes place → at + file.words ≤ long
inside_memory bytes place long at file none is = (granted bytes place long at file none is).inside
