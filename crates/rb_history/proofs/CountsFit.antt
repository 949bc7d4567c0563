-- The counts of all sites that are read, in either version of the format, fit.
use Rattle.rb_history.proofs.Words.{counts_at, counts_in, numbered_at, numbered_in, widened, blue_at, Each, number_below, pair_of}
use Rattle.rb_history.proofs.Words.{MOST_SITES, MOST_SITES_OF_VERSION_1, Data, Items, item, no_items, as_array, Bool, IfSome, List, None}
use Rattle.rb_history.proofs.Words.{Option, Some, arith, drop, false, length, length-append, refl, true, ℕ, ◌&&◌, ◌++◌, ◌+◌, ◌-◌, ◌<◌, ◌==◌}
use Rattle.rb_history.proofs.Words.{◌^◌, ◌∙◌, ◌∷◌, ◌≡◌, ◌≤◌, and_parts, eqb-false, eqb-true, leb-true, ltb-true, length-replicate}
use Rattle.rb_history.proofs.Words.{if◌then◌else◌, nat_le, nat_lt, option_and_then, option_map, replicate}
use Rattle.rb_history.proofs.SiteCounts.{each_replicate, widened_fits, widened_further, widened_length}
use Rattle.rb_history.proofs.Public.Each.{each_both}
use Rattle.rb_history.proofs.FitsLaws.{IsWord, fits_cons, fits_if, fits_map, fits_next, fits_then, number}

-- ---- version 1

counts : (ds : Items) → IfSome (counts_in ds) (Each IsWord)
counts no_items = tt
counts (item d ds) = fits_cons IsWord (number_below (2 ^ 32) d) (counts_in ds) (number (2 ^ 32) d) (counts ds)

abbrev AreFirst : List ℕ → Type 0
AreFirst ns = (length ns ≡ MOST_SITES_OF_VERSION_1) × Each IsWord ns

first_counts : (d : Data) → IfSome (counts_at d) AreFirst
first_counts d =
    fits_then (Each IsWord) AreFirst _ (option_and_then counts_in (as_array d)) (fits_next (Each IsWord) counts_in (as_array d) counts)
    (λ ns h.
    fits_if AreFirst (length ns == MOST_SITES_OF_VERSION_1) (Some ns) (λ e. (eqb-true (length ns) MOST_SITES_OF_VERSION_1 e, h)))

-- ---- version 2

abbrev IsNumbered : ℕ → ℕ × ℕ → Type 0
IsNumbered least p = (least ≤ p.0) × (p.0 < MOST_SITES) × IsWord p.1

one : (least : ℕ) (d : Data) → IfSome (numbered_at least d) (IsNumbered least)
one least d =
    fits_next (IsNumbered least) _ (pair_of d) (λ p.
    fits_next (IsNumbered least) _ (number_below (2 ^ 8) p.0) (λ site.
    fits_then IsWord (IsNumbered least) _ (number_below (2 ^ 32) p.1) (number (2 ^ 32) p.1) (λ n small.
    fits_if (IsNumbered least) (nat_le least site && nat_lt site MOST_SITES && nat_le 1 n) (Some (site, n)) (λ e. within site n e small))))
  where
    within : (site n : ℕ) → (nat_le least site && nat_lt site MOST_SITES && nat_le 1 n) ≡ true → IsWord n → IsNumbered least (site, n)
    within site n e small =
        let near = (and_parts (nat_le least site && nat_lt site MOST_SITES) (nat_le 1 n) e).0 in
        let p = and_parts (nat_le least site) (nat_lt site MOST_SITES) near in
        (leb-true least site p.0, ltb-true site MOST_SITES p.1, small)

zeros_fit : (many : ℕ) → Each IsWord (replicate many 0)
zeros_fit many = each_replicate IsWord many 0 (omega arith)

abbrev AreCounts : ℕ → List ℕ → Type 0
AreCounts i ns = (length ns ≡ MOST_SITES - i) × Each IsWord ns

more : (i : ℕ) (p : ℕ × ℕ) → IsNumbered i p → (later : List ℕ) → AreCounts (p.0 + 1) later
    → AreCounts i (replicate (p.0 - i) 0 ++ p.1 ∷ later)
more i p h later k =
    let zeros = replicate (p.0 - i) 0 in
    let before : length zeros ≡ p.0 - i = length-replicate {A = ℕ} (p.0 - i) 0 in
    let rest : length later ≡ MOST_SITES - (p.0 + 1) = k.0 in (
      length-append zeros (p.1 ∷ later)
          ∙ (omega (arith, before, rest, h)),
      each_both IsWord zeros (p.1 ∷ later) (zeros_fit (p.0 - i)) (h.2, k.1),
    )

numbered : (i : ℕ) (ds : Items) → IfSome (numbered_in i ds) (AreCounts i)
numbered i no_items = (length-replicate (MOST_SITES - i) 0, zeros_fit (MOST_SITES - i))
numbered i (item d ds) =
    fits_then (IsNumbered i) (AreCounts i) _ (numbered_at i d) (one i d) (λ p h.
    fits_map (AreCounts (p.0 + 1)) (AreCounts i) _ (numbered_in (p.0 + 1) ds) (numbered (p.0 + 1) ds) (λ later k. more i p h later k))

-- ---- either

-- counts of all sites: each is below 2^32, and in version 1 those past its most sites are 0
pub record AreBlue (version : ℕ) (ns : List ℕ) : Type 0 where
  pub sites : length ns ≡ MOST_SITES
  pub fit : Each IsWord ns
  pub further : version ≡ 1 → Each (λ n. n ≡ 0) (drop MOST_SITES_OF_VERSION_1 ns)

are_first : (version : ℕ) (ns : List ℕ) → AreFirst ns → AreBlue version (widened ns)
are_first version ns h = record { sites = widened_length ns h.0; fit = widened_fits ns h.1; further = λ e. widened_further ns h.0 }

-- the counts of all sites
pub blue : (version : ℕ) (d : Data) → IfSome (blue_at version d) (AreBlue version)
unfolding blue_at
blue version d = by (version == 1) refl
  where
    by : (b : Bool) → (version == 1) ≡ b
        → IfSome (if b then option_map widened (counts_at d) else option_and_then (numbered_in 0) (as_array d)) (AreBlue version)
    by true q = fits_map AreFirst (AreBlue version) widened (counts_at d) (first_counts d) (are_first version)
    by false q = fits_next (AreBlue version) (numbered_in 0) (as_array d) (λ ds. at (numbered_in 0 ds) (numbered 0 ds))
      where
        at : (o : Option (List ℕ)) → IfSome o (AreCounts 0) → IfSome o (AreBlue version)
        at None h = tt
        at (Some ns) h = record { sites = h.0; fit = h.1; further = λ e. absurd (eqb-false version 1 q e) }
