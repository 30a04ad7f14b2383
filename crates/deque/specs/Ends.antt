-- The ends of a deque: what it holds, and what they become. Assumes nothing.
use Rattle.std.specs.Prelude.{ℕ, ◌+◌, ◌-◌, cond, List, min, nat_lt}
use Rattle.deque.specs.declared.Ends.{Ends}
use Rattle.deque.specs.Circle.{wrapped, window}

-- nothing held, from the first place on
abbrev pub fresh : Ends
fresh = record { first = 0; held = 0 }

-- the ends as a deque over n places has them: a first place that is none of them counts as place 0, and no more are held than there are places
abbrev pub fitted : ℕ → Ends → Ends
fitted n e = record { first = cond (nat_lt e.first n) e.first 0; held = min e.held n }

-- the elements that it holds in its places, from the bottom to the top
abbrev pub held_in : {X : Type 0} → Ends → List X → List X
held_in e places = window e.first e.held places

-- where the next push writes, among n places
abbrev pub above : ℕ → Ends → ℕ
above n e = wrapped n (e.first + e.held)

-- after a push
abbrev pub one_more : Ends → Ends
one_more e = record { first = e.first; held = e.held + 1 }

-- after a pop at the top
abbrev pub without_top : Ends → Ends
without_top e = record { first = e.first; held = e.held - 1 }

-- after a pop at the bottom: the place after the first is first now
abbrev pub without_bottom : ℕ → Ends → Ends
without_bottom n e = record { first = wrapped n (e.first + 1); held = e.held - 1 }
