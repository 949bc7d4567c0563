-- A line that is too long, and is dropped as it comes.
use Rattle.std.proofs.Common.{◌≡◌, ◌<◌, ◌≤◌, ◌+◌, ◌==◌, ⊎_elim, ℕ, Bool, true, false, List, [], ◌∷◌, ◌++◌, length, take, drop}
use Rattle.std.proofs.Common.{Option, inl, inr, refl, sym, ap, ◌∙◌, arith, append_assoc, append-nil, length-append, rules}
use Rattle.std.proofs.KnownBytes.{Consumes-kept, Consumes-nil, Consumes-trans}
use Rattle.std.proofs.Math.Seq.{drop-append-add}
use Rattle.std.proofs.lemmas.List.{length-take}
use Rattle.std.specs.Io.KnownBytes.{Consumes, Keeps}
use Rattle.rb_lines.specs.Buffers.{HasRead, Reads}
use Rattle.rb_lines.specs.declared.no_line.NoLine.{NoLine}
use Rattle.rb_lines.specs.declared.no_line.NoLine.TheVariants.{Read, OutOfMemory}
use Rattle.rb_lines.specs.Lines.{is_long, line_len}
use Rattle.rb_lines.specs.declared.limits.TheConstants.{LINE_LIMIT}
use Rattle.rb_lines.specs.declared.buffers.Buffers.{Buffers}
use Rattle.rb_lines.proofs.Public.LongLines.{len, len_is}
use Rattle.rb_journal.specs.Steps.{DropsLine}
use Rattle.rb_journal.proofs.Advance.{IsFirst}

-- ---- the length of a line whose front has no line feed

front_step : (t : Bool) (b : ℕ) (xs ys : List ℕ) → (b == 10) ≡ t → len (b ∷ xs) ≡ length (b ∷ xs)
    → (len xs ≡ length xs → len (xs ++ ys) ≡ length xs + len ys) → len ((b ∷ xs) ++ ys) ≡ length (b ∷ xs) + len ys
front_step true b xs ys is none more = let zero_is : 0 ≡ length (b ∷ xs) = rw is at none in absurd (omega (arith, zero_is))
front_step false b xs ys is none more =
    let one : 1 + len xs ≡ length (b ∷ xs) = rw is at none in
    let rest = more (omega (arith, one)) in
    rw is (omega (arith, rest))

front_len : (xs ys : List ℕ) → len xs ≡ length xs → len (xs ++ ys) ≡ length xs + len ys
front_len [] ys none = omega arith
front_len (b ∷ xs) ys none = front_step (b == 10) b xs ys refl none (front_len xs ys)

-- of bytes without a line feed, and then others, the first line is the former and the first line of the latter
pub line_behind : (xs ys : List ℕ) → line_len xs ≡ length xs → line_len (xs ++ ys) ≡ length xs + line_len ys
line_behind xs ys none =
    sym (len_is (xs ++ ys)) ∙ front_len xs ys (len_is xs ∙ none) ∙ ap (λ n. length xs + n) (len_is ys)

longer_step : (t : Bool) (b : ℕ) (xs ys : List ℕ) → (b == 10) ≡ t → len xs ≤ len (xs ++ ys) → len (b ∷ xs) ≤ len ((b ∷ xs) ++ ys)
longer_step true b xs ys is more = rw is (omega arith)
longer_step false b xs ys is more = rw is (omega (arith, more))

longer : (xs ys : List ℕ) → len xs ≤ len (xs ++ ys)
longer [] ys = omega arith
longer (b ∷ xs) ys = longer_step (b == 10) b xs ys refl (longer xs ys)

-- with more after it the first line is no shorter
pub no_shorter : (xs ys : List ℕ) → line_len xs ≤ line_len (xs ++ ys)
no_shorter xs ys = omega (arith, longer xs ys, len_is xs, len_is (xs ++ ys))

-- ---- what was dropped so far

-- of what waited and what was read after it, the bytes that are gone have no line feed, and these wait now
pub record Dropped (old now : List ℕ) (had has : Option (List ℕ)) : Type 0 where
  pub more : List ℕ
  pub gone : List ℕ
  pub read : Consumes had has more
  pub all : old ++ more ≡ gone ++ now
  pub one : line_len gone ≡ length gone

pub none_dropped : (p : List ℕ) (had : Option (List ℕ)) → (d : Dropped p p had had) × (length d.gone ≡ 0) × (d.more ≡ [])
none_dropped p had = (record { more = []; gone = []; read = Consumes-nil had; all = append-nil p; one = refl }, refl, refl)

module _ {old p : List ℕ} {had mid : Option (List ℕ)} (d : Dropped old p had mid) where
  -- the length of the first line of all that was dropped and that waits
  pub all_length : (line_len (old ++ d.more) ≡ length d.gone + line_len p) × (length (old ++ d.more) ≡ length d.gone + length p)
  all_length = (ap line_len d.all ∙ line_behind d.gone p d.one, ap length d.all ∙ length-append d.gone p)

  -- what comes after that line
  pub behind_all : drop (line_len p + 1) p ≡ drop (line_len (old ++ d.more) + 1) (old ++ d.more)
  behind_all =
      let at : line_len (old ++ d.more) + 1 ≡ length d.gone + (line_len p + 1) = omega (arith, all_length.0) in
      sym (rw (at, d.all) (drop-append-add d.gone p (line_len p + 1)))

  module _ (none : line_len p ≡ length p) where
    -- what waits has no line feed: it is dropped, and more is read
    pub dropped_more : (p' : List ℕ) (has : Option (List ℕ)) → Reads [] p' mid has
        → (e : Dropped old p' had has) × (length e.gone ≡ length d.gone + length p)
    dropped_more p' has (m, is, read) = (
      record {
        more = d.more ++ m;
        gone = d.gone ++ p;
        read = Consumes-trans had mid has d.more m d.read read;
        all = sym (append_assoc old d.more m) ∙ ap (λ l. l ++ m) d.all ∙ ap (λ l. (d.gone ++ p) ++ l) (sym is);
        one = line_behind d.gone p d.one ∙ ap (λ n. length d.gone + n) none ∙ sym (length-append d.gone p);
      },
      length-append d.gone p,
    )

    -- the read failed: all that came is the front of one line
    pub stopped_in_line : (has : Option (List ℕ)) → Keeps mid has
        → Consumes had has d.more × (line_len (old ++ d.more) ≡ length (old ++ d.more))
    stopped_in_line has kept = (Consumes-kept had mid has d.more d.read kept, omega (arith, all_length.0, all_length.1, none))

-- a read that failed, and not for want of memory, has changed nothing
pub read_failed : (old new : Buffers) (had has : Option (List ℕ)) (failed : Bool) (calls : ℕ) (why : NoLine) → (why ≡ OutOfMemory → ⊥)
    → HasRead old new had has failed calls why → HasRead old new had has failed calls Read
read_failed old new had has failed calls Read some is = is
read_failed old new had has failed calls OutOfMemory some is = absurd (some refl)
read_failed old new had has failed calls why some is = absurd is

-- ---- the line that was dropped

module _ {old new : Buffers} {had has : Option (List ℕ)} (d : DropsLine old new had has) where
  -- the line and what comes after it
  abbrev all : List ℕ
  all = old.pending ++ d.more

  pub dropped_fits : line_len all ≤ length all
  dropped_fits = ⊎_elim (λ more. omega (arith, more)) (λ last. omega (arith, last.0)) d.whole

  module _ (long : LINE_LIMIT < line_len old.pending) where
    -- it is at the front of what waited and was read, with its line feed, or at the end
    pub dropped_first : IsFirst all new.ended (line_len all)
    dropped_first = ⊎_elim inl (λ last. inr (last.0, omega (arith, long, no_shorter old.pending d.more), last.1)) d.whole

    -- it is too long
    pub dropped_long : is_long (take (line_len all) all) ≡ true
    dropped_long =
        let longer : LINE_LIMIT < length (take (line_len all) all) =
        omega (arith, long, no_shorter old.pending d.more, dropped_fits, length-take (line_len all) all) in
        search rules
