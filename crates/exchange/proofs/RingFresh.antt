-- A ring whose entries are all vacant: nothing waits, and it keeps what a ring keeps. Assumes nothing.
use Rattle.std.proofs.Common.{◌≡◌, ℕ, ◌+◌, ◌-◌, ◌*◌, ◌<◌, ◌≤◌, List, [], ◌++◌, drop, replicate, sym, ap, ◌∙◌, mod-eq_of_lt, arith, length-append}
use Rattle.std.specs.Borrow.{MutBor}
use lib.ListN.{length-replicate}
use Rattle.std.proofs.lemmas.List.{get_or-replicate, append-nil, places, same_lists}
use Rattle.std.proofs.lemmas.Nat.{row_fits}
use Rattle.exchange.specs.Pairs.{pairs_of}
use Rattle.exchange.specs.Entries.{entries_of, filled, tasks, at_start, IsRing}
use Rattle.exchange.specs.RingMeaning.{new_ring, pair_cursors, ring_tasks}
use Rattle.exchange.proofs.Turns.{filled_zeros}
use Rattle.exchange.proofs.RingSteps.{Rings}

no_tasks : (n : ℕ) → tasks (replicate n 0) 0 ≡ []
unfolding tasks
no_tasks n = ap filled (append-nil (replicate n 0)) ∙ filled_zeros n

vacant_ring : (n : ℕ) → 1 ≤ n → IsRing at_start (replicate n 0)
vacant_ring n some = let whole : n ≡ n - 0 = omega arith in record {
  within = rw length-replicate some;
  after = rw (length-replicate, no_tasks n) (sym (mod-eq_of_lt some));
  stand = rw (length-replicate, no_tasks n) (append-nil {A = ℕ} (replicate n 0) ∙ ap (λ k. replicate {A = ℕ} k 0) whole);
}

vacant_entries : (n q len : ℕ) (rest : List ℕ) → q * len + len ≤ n → entries_of len q (replicate n 0 ++ rest) ≡ replicate len 0
vacant_entries n q len rest le = same_lists _ _ (grind (arith, places)) (λ k d h. grind (arith, places, get_or-replicate))

module _ (m len : ℕ) (words : MutBor (List ℕ)) (holds : 1 ≤ len) (few : pairs_of m ≤ 240) where
  vacant : (q : ℕ) → q < pairs_of m → entries_of len q (new_ring m len words).words ≡ replicate len 0
  vacant q l = vacant_entries (pairs_of m * len) q len (drop (pairs_of m * len) words.now) (row_fits q len (pairs_of m) len l (omega arith))

  cursors_fresh : (q : ℕ) → q < pairs_of m → pair_cursors (new_ring m len words) q ≡ at_start
  cursors_fresh q l = get_or-replicate 240 q at_start at_start (omega arith)

  pub none_wait : (q : ℕ) → q < pairs_of m → ring_tasks (new_ring m len words) q ≡ []
  none_wait q l = rw (vacant q l, cursors_fresh q l) (no_tasks len)

  pub fresh_rings : Rings (new_ring m len words)
  fresh_rings = record {
    room = rw (length-append, length-replicate) (omega arith);
    each = λ q l. rw (vacant q l, cursors_fresh q l) (vacant_ring len holds);
  }
