-- The clock of a list counts its operations.
use Rattle.std.proofs.Common.{◌≡◌, ℕ, ◌<◌, List, ap, ◌∙◌, arith}
use Rattle.std.specs.Prelude.{slice_index}
use Rattle.std.proofs.lemmas.List.FromFn.{get_or-map-range_with_len}
use Rattle.rb_money.specs.declared.limits.TheConstants.{MOST_SITES}
use Rattle.rb_shadow.specs.declared.deps.Deps.{Deps}
use Rattle.rb_shadow.specs.declared.shadow.Shadow.{Shadow}
use Rattle.rb_shadow.specs.Operations.{blue_count, red_count, clock_of}

-- a clock's entry for a site is how many blue operations of it there are
pub counts_blue : (us : List Shadow) (c : Deps) (me : ℕ) → c ≡ clock_of us → me < MOST_SITES → slice_index c.blue me ≡ blue_count us me
unfolding clock_of
counts_blue us c me is few = ap (λ (d : Deps). slice_index d.blue me) is
    ∙ get_or-map-range_with_len (blue_count us) 0 MOST_SITES me me 0 few (omega arith)

-- and its red entry how many red ones
pub counts_red : (us : List Shadow) (c : Deps) → c ≡ clock_of us → c.red ≡ red_count us
unfolding clock_of
counts_red us c is = ap (λ (d : Deps). d.red) is
