-- What each call promises of a deque, before it (d) and after it (d'). Assumes nothing.
use Rattle.std.specs.Prelude.{◌≡◌, Option, Result}
use Rattle.refusal.specs.declared.Refusal.{Refusal}
use Rattle.deque.specs.declared.Deque.{Deque}
use Rattle.deque.specs.Promises.{Pushes, PopsTop, PopsBottom}
use Rattle.deque.specs.Laws.{ComesBack, GivesOldest}

module _ {X : Type 0} (d d' : Deque X) where
  -- it lies over the places that it was lent
  abbrev pub SameLender : Type 0
  SameLender = d'.places.ghost_name ≡ d.places.ghost_name

  -- a push by its answer; a pop at the top then gives the element back
  pub record DequePushes (x : X) (r : Result (Unit {0}) Refusal) : Type 0 where
    pub pushed : Pushes d.ends d'.ends d.places.now d'.places.now x r
    pub lender : SameLender
    pub back : ComesBack d.ends d'.ends d.places.now d'.places.now x r

  -- a pop at the top by its answer: the newest element
  pub record DequePopsTop (r : Option X) : Type 0 where
    pub popped : PopsTop d.ends d'.ends d.places.now d'.places.now r
    pub lender : SameLender

  -- a pop at the bottom by its answer: the oldest element, whatever was pushed before
  pub record DequePopsBottom (r : Option X) : Type 0 where
    pub popped : PopsBottom d.ends d'.ends d.places.now d'.places.now r
    pub lender : SameLender
    pub oldest : GivesOldest d.ends d'.ends d.places.now d'.places.now r
