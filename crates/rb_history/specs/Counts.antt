-- How many of each site's blue operations a home had applied, as lines of either version of the format have it.
use Rattle.std.specs.Prelude.{ℕ, ◌+◌, ◌-◌, ◌^◌, ◌==◌, ◌&&◌, List, [], ◌∷◌, ◌++◌, length, take, replicate, nat_le, nat_lt, Option, Some}
use Rattle.std.specs.Prelude.{None, if◌then◌else◌, option_and_then, option_map}
use Rattle.serde_json.specs.Data.{Data, Items, no_items, item}
use Rattle.serde_json.specs.Find.{as_array}
use Rattle.rb_money.specs.declared.limits.TheConstants.{MOST_SITES, MOST_SITES_OF_VERSION_1}
use Rattle.rb_history.specs.Values.{list_json, number_below, number_json, pair_json, pair_of}

-- ---- what is written

-- the counts above 0 of those from site i on, each after its site's number
abbrev pub numbered_from : ℕ → List ℕ → List (ℕ × ℕ)
numbered_from i [] = []
numbered_from i (n ∷ ns) = if n == 0 then numbered_from (i + 1) ns else (i, n) ∷ numbered_from (i + 1) ns

-- a site's number and its count
abbrev pub numbered_json : ℕ × ℕ → Data
numbered_json p = pair_json (number_json p.0) (number_json p.1)

-- version 1: a count for each of as many sites as it may have; version 2: the counts above 0 with their sites' numbers
unfoldable pub blue_json : ℕ → List ℕ → Data
blue_json version ns = if version == 1 then list_json number_json (take MOST_SITES_OF_VERSION_1 ns)
    else list_json numbered_json (numbered_from 0 ns)

-- ---- what is read

-- the counts of a list, each below 2^32
abbrev pub counts_in : Items → Option (List ℕ)
counts_in no_items = Some []
counts_in (item d ds) = option_and_then (λ n. option_map (λ later. n ∷ later) (counts_in ds)) (number_below (2 ^ 32) d)

-- version 1: a count for each of as many sites as it may have
abbrev pub counts_at : Data → Option (List ℕ)
counts_at d = option_and_then (λ ns. if length ns == MOST_SITES_OF_VERSION_1 then Some ns else None)
    (option_and_then counts_in (as_array d))

-- the counts, and 0 for each further site that there may be
abbrev pub widened : List ℕ → List ℕ
widened ns = ns ++ replicate (MOST_SITES - MOST_SITES_OF_VERSION_1) 0

-- version 2: the number of a site, at least this, and its count, above 0
abbrev pub numbered_at : ℕ → Data → Option (ℕ × ℕ)
numbered_at least d = option_and_then (λ p. option_and_then (λ site. option_and_then (λ n.
    if nat_le least site && nat_lt site MOST_SITES && nat_le 1 n then Some (site, n) else None)
    (number_below (2 ^ 32) p.1))
    (number_below (2 ^ 8) p.0))
    (pair_of d)

-- the counts from site i on, from a list of those whose sites rise: 0 for each site that isn't there
abbrev pub numbered_in : ℕ → Items → Option (List ℕ)
numbered_in i no_items = Some (replicate (MOST_SITES - i) 0)
numbered_in i (item d ds) = option_and_then (λ p. option_map (λ later. replicate (p.0 - i) 0 ++ p.1 ∷ later) (numbered_in (p.0 + 1) ds))
    (numbered_at i d)

-- a count for each site that there may be
unfoldable pub blue_at : ℕ → Data → Option (List ℕ)
blue_at version d = if version == 1 then option_map widened (counts_at d) else option_and_then (numbered_in 0) (as_array d)
