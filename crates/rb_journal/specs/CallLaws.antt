-- The laws of a host, for a log of calls.
use Rattle.std.specs.Prelude.{◌≡◌, ℕ, ◌≤◌, true, List, [], ◌∷◌, length, refl}
use Rattle.std.proofs.Common.{inl, inr, arith}
use Rattle.rb_journal.specs.Calls.{NotedCall, knows_disk, leaves, left_since, output_of}

pub now_counts : (events : List NotedCall) (t : ℕ) (c : List ℕ) → knows_disk events ≡ true → t ≤ length events → leaves events c →
    left_since events t c (output_of events)
now_counts [] t c known le left = (left, refl)
now_counts (event ∷ past) t c known le left = inl (known, left, refl)

pub now_alone : (events : List NotedCall) (c d : List ℕ) → left_since events (length events) c d →
    (knows_disk events ≡ true) × leaves events c × (d ≡ output_of events)
now_alone [] c d left = (refl, left.0, left.1)
now_alone (event ∷ past) c d (inl now) = now
now_alone (event ∷ past) c d (inr was) = absurd (omega (arith, was.0))
