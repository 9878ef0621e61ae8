-- What a call that may be refused answers, and what it leaves.
use Rattle.std.specs.Prelude.{Some, None, Ok, Err, Option, Result}

-- the refusal if there is one, else the answer
abbrev pub unless : {X F : Type 0} → Option F → X → Result X F
unless (Some refusal) answer = Err refusal
unless None answer = Ok answer

-- what is as before if the call is refused, and changed otherwise
abbrev pub if_granted : {X F : Type 0} → Option F → X → X → X
if_granted (Some refusal) after before = before
if_granted None after before = after
