-- The numbers of a parser of 32 bits, narrowed to bounds of 32 bits.
use Rattle.std.proofs.Common.{◌≡◌, ℕ, ℤ, ◌<◌, ◌^◌, ◌∙◌, pos, Some, subst, w64, to_z, arith}
use Rattle.std.proofs.lemmas.Int.{ints, clamps}
use Rattle.std.specs.Int.{int_max, int_min}
use Rattle.clap.specs.Words.{NarrowsTo}
use Rattle.clap.specs.declared.builder.value_parser.ValueParser.{ValueParser}
use Rattle.clap.specs.declared.builder.value_parser.ValueParser.TheVariants.{Signed}
use Rattle.rb_cli.proofs.arguments.numbers.Goals as goal

-- narrowed to such bounds, they are the numbers between these
narrowed : (all some : ValueParser) (low high : ℤ) (least most : ℕ) → all ≡ Signed (pos 0) (pos 4294967295)
    → NarrowsTo all (Some low) (Some high) some → low ≡ to_z w64 least → high ≡ to_z w64 most → least < 2 ^ 32 → most < 2 ^ 32
    → some ≡ Signed (pos least) (pos most)
narrowed all some low high least most is_all is_some is_low is_high l m =
    let a : int_max (pos 0) low ≡ pos least = omega (arith, ints, clamps) in
    let b : int_min (pos 4294967295) high ≡ pos most = omega (arith, ints, clamps) in
    let some_is = subst (λ p. NarrowsTo p (Some low) (Some high) some) is_all is_some in
    some_is ∙ rw (a, b) (grind (arith, ints))

pub returns : goal.returns
returns c =
    narrowed _ _ _ _ c.args.least c.args.most c.value_parser.ensures c.range.ensures c.new.ensures.start c.new.ensures.end
    c.ranges.least.fits c.ranges.most.fits
