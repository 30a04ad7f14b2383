-- A put and a take of a ring, over all pairs: the ring of one pair is another, those of the others stay. Assumes nothing.
use Rattle.std.proofs.Common.{◌≡◌, ℕ, ◌+◌, ◌*◌, ◌<◌, ◌≤◌, List, [], ◌∷◌, ◌++◌, length, get_or, set, Some, None, Ok, Option, sym, refl, ap, ◌∙◌, subst, ⊎_elim, arith, mod-lt, length-set}
use Rattle.std.proofs.Props.{props}
use mathlib.Core.HLevel.{is_prop→PathP}
use borrow.Rule.Slice.Mut.{set_vals}
use Rattle.std.proofs.lemmas.List.{get_or-set_same, get_or-set_other, set-get_or}
use Rattle.std.proofs.lemmas.Bool.{cases_eq}
use Rattle.exchange.specs.declared.answer.Put.{Put}
use Rattle.exchange.specs.declared.answer.Put.TheVariants.{Joined, NoVacancy}
use Rattle.exchange.specs.declared.cursors.Cursors.{Cursors}
use Rattle.exchange.specs.declared.ring.Ring.{Ring}
use Rattle.exchange.specs.Pairs.{Pair, pairs_of, pair_at, Numbered}
use Rattle.exchange.specs.Calls.{Queues, Joins, Leaves, PutSays, TakeSays}
use Rattle.exchange.specs.Entries.{entries_of, tasks, at_start, cursors_of, IsRing, FillsTail, VacatesHead, Unchanged, PairPut, PairTake}
use Rattle.exchange.specs.RingMeaning.{RingState, ring_of, pair_cursors, ring_tasks, head_entry, tail_entry, filled_at_tail, vacated_at_head, RingPut, RingTake, ring_serves, ring_waiting, ring_vacant}
use Rattle.exchange.proofs.Pairings.{number_same}
use Rattle.exchange.proofs.EntryParts.{row_within, with_part, part_length, part_at, part_same, part_written, words_length, part_here, entries_other}

-- every pair has its ring
pub record Rings (s : RingState) : Type 0 where
  pub room : pairs_of s.served * s.length ≤ length s.words
  pub each : (q : ℕ) → q < pairs_of s.served → IsRing (pair_cursors s q) (entries_of s.length q s.words)

pub rings : (r : Ring) → Rings (ring_of r)
rings r = record { room = r.room; each = r.rings }

-- the tasks that wait on each pair
abbrev queues : RingState → Queues
queues s i j = ring_tasks s (pair_at s.served i j)

module _ (s : RingState) (keeps : Rings s) (q : ℕ) (ql : q < pairs_of s.served) where
  abbrev entries : List ℕ
  entries = entries_of s.length q s.words

  within : q * s.length + s.length ≤ length s.words
  within = row_within q (pairs_of s.served) s.length s.words ql keeps.room

  pub long : length entries ≡ s.length
  long = part_length s.words [] s.length (q * s.length) within

  -- the pair with number q has another ring
  module _ (c : Cursors) (es : List ℕ) (same : length es ≡ length entries) (few : q < length s.cursors) where
    abbrev pub with_ring : RingState
    with_ring = record s { words = with_part s.length (q * s.length) s.words es; cursors = set s.cursors q c }

    cursors_here : pair_cursors with_ring q ≡ c
    cursors_here = get_or-set_same s.cursors q c at_start few

    entries_here : entries_of s.length q with_ring.words ≡ es
    entries_here = part_here s.words es s.length (q * s.length) within (same ∙ long)

    entries_there : (o : ℕ) → (o ≡ q → ⊥) → entries_of s.length o with_ring.words ≡ entries_of s.length o s.words
    entries_there o ne = entries_other s.words es s.length q o within (same ∙ long) ne

    cursors_there : (o : ℕ) → (o ≡ q → ⊥) → pair_cursors with_ring o ≡ pair_cursors s o
    cursors_there o ne = get_or-set_other s.cursors q o c at_start ne

    pub rings_with : IsRing c es → Rings with_ring
    rings_with ring = record {
      room = rw (words_length s.words es s.length (q * s.length) within (same ∙ long)) keeps.room;
      each = λ o ol. ⊎_elim
          (λ (e : o ≡ q). rw (e, entries_here, cursors_here) ring)
          (λ (ne : o ≡ q → ⊥). rw (entries_there o ne, cursors_there o ne) (keeps.each o ol))
          (cases_eq o q);
    }

    pub tasks_here : ring_tasks with_ring q ≡ tasks es c.head
    tasks_here = rw (entries_here, cursors_here) refl

    pub tasks_there : (o : ℕ) → (o ≡ q → ⊥) → ring_tasks with_ring o ≡ ring_tasks s o
    tasks_there o ne = rw (entries_there o ne, cursors_there o ne) refl

    module _ (i j : ℕ) (p : Pair s.served i j) (e : q ≡ pair_at s.served i j) where
      others : (a b : ℕ) → Pair s.served a b → (a ≡ i → b ≡ j → ⊥) → queues with_ring a b ≡ queues s a b
      others a b r ne = tasks_there (pair_at s.served a b) (λ same. let k = number_same s.served i j a b p r (same ∙ e) in ne k.0 k.1)

      pub joins : (t : ℕ) → FillsTail (pair_cursors s q) c entries es t → Joins s.served i j t (queues s) (queues with_ring)
      joins t f = record {
        here = subst (λ k. ring_tasks with_ring k ≡ ring_tasks s k ++ (t ∷ [])) e (tasks_here ∙ f.joins);
        others = others;
      }

      pub leaves : (t : ℕ) → VacatesHead (pair_cursors s q) c entries es t → Leaves s.served i j t (queues s) (queues with_ring)
      leaves t v = record {
        front = [];
        back = queues with_ring i j;
        was = subst (λ k. ring_tasks s k ≡ t ∷ ring_tasks with_ring k) e (v.leaves ∙ ap (λ ts. t ∷ ts) (sym tasks_here));
        left = refl;
        others = others;
      }

    pub is_filled : (t : ℕ) → (pair_cursors s q).tail < length entries → FillsTail (pair_cursors s q) c entries es t → with_ring ≡ filled_at_tail q t s
    is_filled t l f =
        let w : with_part s.length (q * s.length) s.words es ≡ set s.words (tail_entry s q) t =
        ap (with_part s.length (q * s.length) s.words) f.entries ∙ part_written s.words [] s.length (q * s.length) within (pair_cursors s q).tail t (rw long at l) in
        cc (w, f.cursors, long)

    pub is_vacated : (t : ℕ) → (pair_cursors s q).head < length entries → VacatesHead (pair_cursors s q) c entries es t → with_ring ≡ vacated_at_head q s
    is_vacated t l v =
        let w : with_part s.length (q * s.length) s.words es ≡ set s.words (head_entry s q) 0 =
        ap (with_part s.length (q * s.length) s.words) v.entries ∙ part_written s.words [] s.length (q * s.length) within (pair_cursors s q).head 0 (rw long at l) in
        cc (w, v.cursors, long)

-- rings with the same words, numbers and cursors are the same
pub same_ring : (r r' : Ring) → r'.words ≡ r.words → r'.served ≡ r.served → r'.length ≡ r.length → r'.cursors ≡ r.cursors → r' ≡ r
same_ring r r' w m n c = λ i. record {
  words = w i;
  served = m i;
  length = n i;
  cursors = c i;
  someone = is_prop→PathP (λ j. 1 ≤ m j) (λ j. hlevel props) r'.someone r.someone i;
  sixteen = is_prop→PathP (λ j. m j ≤ 16) (λ j. hlevel props) r'.sixteen r.sixteen i;
  holds = is_prop→PathP (λ j. 1 ≤ n j) (λ j. hlevel props) r'.holds r.holds i;
  bounded = is_prop→PathP (λ j. n j ≤ 64) (λ j. hlevel props) r'.bounded r.bounded i;
  room = is_prop→PathP (λ j. pairs_of (m j) * n j ≤ length (w j).now) (λ j. hlevel props) r'.room r.room i;
  rings = is_prop→PathP (λ j. (q : ℕ) → q < pairs_of (m j) → IsRing (cursors_of q (c j)) (entries_of (n j) q (w j).now)) (λ j. hlevel props) r'.rings r.rings i;
}

-- in place of r stands r', where the pair with number q has the cursors c and the entries es
pub record Renews (q : ℕ) (c : Cursors) (es : List ℕ) (r r' : Ring) : Type 0 where
  pub words : r'.words ≡ set_vals (with_part r.length (q * r.length) r.words.now es) r.words
  pub served : r'.served ≡ r.served
  pub length : r'.length ≡ r.length
  pub cursors : r'.cursors ≡ set r.cursors q c

module _ (c c' : Cursors) (es es' : List ℕ) where
  pub put_length : (t : ℕ) (a : Put) → PairPut c c' es es' t a → length es' ≡ length es
  put_length t Joined f = rw (f.entries, length-set) refl
  put_length t NoVacancy f = ap length f.2.1

  pub take_length : (a : Option ℕ) → PairTake c c' es es' a → length es' ≡ length es
  take_length (Some t) v = rw (v.entries, length-set) refl
  take_length None v = ap length v.2.1

module _ (r : Ring) (q : ℕ) (l : q < pairs_of r.served) (few : q < length r.cursors) (c : Cursors) (es : List ℕ) where
  abbrev pub renewed : RingState
  renewed = record (ring_of r) { words = with_part r.length (q * r.length) r.words.now es; cursors = set r.cursors q c }

  -- the part that is lent ends within the words
  pub lent_within : q * r.length + r.length ≤ length r.words.now
  lent_within = row_within q (pairs_of r.served) r.length r.words.now l r.room

  pub put_rings : (t : ℕ) (a : Put) → PairPut (pair_cursors (ring_of r) q) c (entries_of r.length q r.words.now) es t a → IsRing c es → Rings renewed
  put_rings t a f ring = rings_with (ring_of r) (rings r) q l c es (put_length _ c _ es t a f) few ring

  pub take_rings : (a : Option ℕ) → PairTake (pair_cursors (ring_of r) q) c (entries_of r.length q r.words.now) es a → IsRing c es → Rings renewed
  take_rings a v ring = rings_with (ring_of r) (rings r) q l c es (take_length _ c _ es a v) few ring

module _ (r : Ring) (i j q : ℕ) (n : Numbered r.served i j (Ok q)) (few : q < length r.cursors) (c : Cursors) (es : List ℕ) where
  abbrev own : Cursors
  own = pair_cursors (ring_of r) q

  abbrev held : List ℕ
  held = entries_of r.length q r.words.now

  abbrev after : RingState
  after = renewed r q n.2 few c es

  room : q * r.length + r.length ≤ length r.words.now
  room = lent_within r q n.2 few c es

  whole : length held ≡ r.length
  whole = long (ring_of r) (rings r) q n.2

  head_within : own.head < r.length
  head_within = let ring = r.rings q n.2 in omega (arith, ring.within, whole)

  tail_within : own.tail < r.length
  tail_within = let ring = r.rings q n.2 in rw (← whole, ring.after) (mod-lt _ (omega (arith, ring.within)))

  at_tail : get_or held own.tail 0 ≡ get_or r.words.now (tail_entry (ring_of r) q) 0
  at_tail = part_at r.words.now r.length (q * r.length) own.tail tail_within

  at_head : get_or held own.head 0 ≡ get_or r.words.now (head_entry (ring_of r) q) 0
  at_head = part_at r.words.now r.length (q * r.length) own.head head_within

  -- a ring whose pair is as it was is as it was
  words_stay : es ≡ held → after.words ≡ r.words.now
  words_stay u = ap (with_part r.length (q * r.length) r.words.now) u ∙ part_same r.words.now [] r.length (q * r.length) room

  cursors_stay : c ≡ own → after.cursors ≡ r.cursors
  cursors_stay u = ap (set r.cursors q) u ∙ set-get_or r.cursors q at_start

  stays : Unchanged own c held es → after ≡ ring_of r
  stays u = λ k. record { served = r.served; length = r.length; words = words_stay u.1 k; cursors = cursors_stay u.0 k; lender = r.words.ghost_name }

  pub put_memory : (t : ℕ) (a : Put) → PairPut own c held es t a → RingPut (pair_at r.served i j) t (ring_of r) after (Ok a)
  put_memory t Joined f = rw (← n.1) (sym at_tail ∙ f.vacant, is_filled (ring_of r) (rings r) q n.2 c es (put_length _ c _ es t Joined f) few t (rw whole tail_within) f)
  put_memory t NoVacancy f = rw (← n.1) (λ z. f.0 (at_tail ∙ z), stays f.2)

  pub take_memory : (a : Option ℕ) → PairTake own c held es a → RingTake (pair_at r.served i j) (ring_of r) after (Ok a)
  take_memory (Some t) v =
      let same = take_length _ c _ es (Some t) v in
      rw (← n.1) (
        v.task ∙ at_head,
        is_vacated (ring_of r) (rings r) q n.2 c es same few t (rw whole head_within) v,
        v.leaves ∙ ap (λ ts. t ∷ ts) (sym (tasks_here (ring_of r) (rings r) q n.2 c es same few)),
      )
  take_memory None v = rw (← n.1) (sym at_head ∙ v.0, stays v.2)

  module _ (r' : Ring) (new : Renews q c es r r') where
    unchanged : Unchanged own c held es → r' ≡ r
    unchanged u =
        same_ring r r'
        (new.words ∙ ap (λ xs. set_vals xs r.words) (words_stay u.1)) new.served new.length (new.cursors ∙ cursors_stay u.0)

    state : ring_of r' ≡ after
    state = λ k. record { served = new.served k; length = new.length k; words = (new.words k).now; cursors = new.cursors k; lender = (new.words k).ghost_name }

    pub put_meaning : (t : ℕ) (a : Put) → 0 < t → PairPut own c held es t a → PutSays ring_serves ring_waiting ring_vacant i j t r r' (Ok a)
    put_meaning t Joined some f = (
      n.0,
      some,
      rw (← n.1) (omega (arith, f.room, whole)),
      new.served,
      subst (λ z. Joins r.served i j t (queues (ring_of r)) (queues z)) (sym state) (joins (ring_of r) (rings r) q n.2 c es (put_length _ c _ es t Joined f) few i j n.0 n.1 t f),
    )
    put_meaning t NoVacancy some f = (n.0, some, rw (← n.1) (omega (arith, f.1, whole)), unchanged f.2)

    pub take_meaning : (a : Option ℕ) → PairTake own c held es a → TakeSays ring_serves ring_waiting ring_vacant i j r r' (Ok a)
    take_meaning (Some t) v = (
      n.0,
      new.served,
      subst (λ z. Leaves r.served i j t (queues (ring_of r)) (queues z)) (sym state) (leaves (ring_of r) (rings r) q n.2 c es (take_length _ c _ es (Some t) v) few i j n.0 n.1 t v),
    )
    take_meaning None v = (n.0, rw (← n.1) v.1, unchanged v.2)
