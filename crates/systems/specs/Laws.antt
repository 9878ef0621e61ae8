-- That a stored system is lawful.
use Rattle.std.specs.Prelude.{◌≡◌, ℕ, ◌<◌, ◌≤◌, Bool, true, cond, ◌&&◌, List, nat_lt}
use Rattle.std.proofs.Common.{arith}
use Rattle.std.proofs.lemmas.Bool.{and_parts, and_left, and_right, cond_both, cond-false, cond-true, le-ltb, lt-ltb, ltb-true}
use Rattle.systems.specs.Meaning.{Lawful, count_limit}
use Rattle.systems.specs.Layout.{LaidOut, stored, state_count, channel_count, controller_word, environment_word, next_word}

-- an answer that is asked for is bounded, and 0 stands for any other
capped : (asked : Bool) (x most : ℕ) → (asked ≡ true → x ≤ most) → cond asked x 0 ≤ most
capped asked x most h = cond_both asked x 0 (λ v. v ≤ most) h (λ _. omega arith)

-- at a state an answer is what it is asked for
at_state : (w n x : ℕ) → w < n → cond (nat_lt w n) x 0 ≡ x
at_state w n x h = cond-true (nat_lt w n) x 0 (lt-ltb w n h)

-- the laws of systems hold of what words with the layout hold
pub stored_lawful : (words : List ℕ) → LaidOut words → Lawful (stored words)
stored_lawful words ok =
    let n : ℕ = state_count words in
    let p : ℕ → ℕ = λ w. cond (nat_lt w n) (controller_word words w) 0 in
    let q : ℕ → ℕ = λ w. cond (nat_lt w n) (environment_word words w) 0 in
    record {
      some_state = ok.0;
      states_bound = omega arith;
      some_channel = ok.2;
      channels_bound = omega arith;
      some_controller_move = λ w h. omega (arith, at_state w n (controller_word words w) h, (ok.5 w h).0);
      controller_moves_bound = λ w. capped (nat_lt w n) _ count_limit (λ t. omega (arith, (ok.5 w (ltb-true w n t)).1));
      some_environment_move = λ w h. omega (arith, at_state w n (environment_word words w) h, (ok.5 w h).2);
      environment_moves_bound = λ w. capped (nat_lt w n) _ count_limit (λ t. omega (arith, (ok.5 w (ltb-true w n t)).3));
      next_bound = λ w a b.
          cond_both (nat_lt w n && (nat_lt a (p w) && nat_lt b (q w))) (next_word words w a b) 0 (λ v. v < n)
          (λ t.
          let s = and_parts (nat_lt w n) (nat_lt a (p w) && nat_lt b (q w)) t in
          let m = and_parts (nat_lt a (p w)) (nat_lt b (q w)) s.1 in
          let h : w < n = ltb-true w n s.0 in
          (ok.5 w h).4 a b (omega (arith, at_state w n (controller_word words w) h, ltb-true a (p w) m.0))
          (omega (arith, at_state w n (environment_word words w) h, ltb-true b (q w) m.1)))
          (λ _. ok.0);
      no_state_reading = λ w k h. cond-false _ _ _ (and_left _ _ (le-ltb w n h));
      no_channel_reading = λ w k h. cond-false _ _ _ (and_right _ _ (le-ltb k (channel_count words) h));
      no_state_controller = λ w h. cond-false _ _ _ (le-ltb w n h);
      no_state_environment = λ w h. cond-false _ _ _ (le-ltb w n h);
      no_controller_next = λ w a b h. cond-false _ _ _ (and_right _ _ (and_left _ _ (le-ltb a (p w) h)));
      no_environment_next = λ w a b h.
          cond-false _ (next_word words w a b) 0 (and_right (nat_lt w n) _ (and_right (nat_lt a (p w)) (nat_lt b (q w)) (le-ltb b (q w) h)));
    }
