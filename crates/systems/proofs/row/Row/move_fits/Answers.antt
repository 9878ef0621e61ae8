use Rattle.std.proofs.Common.{◌<◌, subst, sym, arith}
use Rattle.std.proofs.lemmas.Bool.{lt-ltb, ltb-true}
use Rattle.std.proofs.lemmas.List.Elements.{All-get_or, All-from_get_or}
use Rattle.systems.proofs.Bounded.{all_below_is}
use Rattle.systems.proofs.row.Row.move_fits.Goals as goal
use Rattle.systems.specs.Layout.{environment_word, next_fits, next_word, state_count}

pub returns : goal.returns
returns c =
    let row = c.args.self.now in
    let words = row.words.now in
    let a = c.args.controller in
    let next = c.next_states.result.now in
    all_below_is (environment_word words row.state) (next_fits words row.state a) _ (
      λ passed k l.
          let below = All-get_or (λ number. number < state_count words) next k 0 (omega (arith, l, c.next_states.ensures.long)) (c.are_below.ensures.0 passed) in
          lt-ltb (next_word words row.state a k) (state_count words) (subst (λ n. n < state_count words) (c.next_states.ensures.states k l) below),
      λ fit. c.are_below.ensures.1
          (All-from_get_or (λ number. number < state_count words) next 0 (λ k l.
          let inside : k < environment_word words row.state = omega (arith, l, c.next_states.ensures.long) in
          subst (λ n. n < state_count words) (sym (c.next_states.ensures.states k inside)) (ltb-true (next_word words row.state a k) (state_count words) (fit k inside)))),
    )
