-- Lists of clocks after a change.
use Rattle.rb_ledger.proofs.Words.{◌≡◌, ℕ, zero, suc, ◌+◌, ◌-◌, ◌*◌, ◌<◌, ◌≤◌, List, [], ◌∷◌, ◌++◌, length, take, drop}
use Rattle.rb_ledger.proofs.Words.{get_or, append_assoc, mul-le-mul_right, refl, ap, sym, ◌∙◌, subst, arith, inl, inr}
use Rattle.rb_ledger.proofs.Words.{Some, ◌⊎◌, length-take-le, replicate, slice_get, slice_set, cases_lt, drop-append-le}
use Rattle.rb_ledger.proofs.Words.{take-append-le, take-take, take-append-drop, length-drop, drop-drop, drop-take}
use Rattle.rb_ledger.proofs.Words.{length-append, length-map, length_push, take_all, take_more, drop-append_seam, LESS}
use Rattle.rb_ledger.proofs.Words.{AreNear, base_of, clocks_of, kept_step, step_added, steps_of, sums}
use Rattle.std.proofs.Math.Seq.{set-append_seam}
use Rattle.std.proofs.lemmas.List.{length-take}
use Rattle.rb_ledger.specs.ClockLists.{AreBased}

-- ---- the counts of a clock

-- there are as many counts as the base and the steps have
pub sums_count : (bs ss : List ℕ) → length bs ≡ length ss → length (sums bs ss) ≡ length ss
sums_count [] [] same = refl
sums_count [] (s ∷ ss) same = absurd (omega (arith, same))
sums_count (b ∷ bs) [] same = absurd (omega (arith, same))
sums_count (b ∷ bs) (s ∷ ss) same = ap suc (sums_count bs ss (omega (arith, same)))

-- a count is the base's with its step added
pub sum_at : (bs ss : List ℕ) (i : ℕ) → length bs ≡ length ss → i < length ss → get_or (sums bs ss) i 0
    ≡ step_added (get_or bs i 0) (get_or ss i 0)
sum_at [] [] i same near = absurd (omega (arith, near))
sum_at [] (s ∷ ss) i same near = absurd (omega (arith, same))
sum_at (b ∷ bs) [] i same near = absurd (omega (arith, same))
sum_at (b ∷ bs) (s ∷ ss) zero same near = refl
sum_at (b ∷ bs) (s ∷ ss) (suc i) same near = sum_at bs ss i (omega (arith, same)) (omega (arith, near))

-- there are as many steps as the base has counts
pub steps_count : (bs ns : List ℕ) → length bs ≤ length ns → length (steps_of bs ns) ≡ length bs
steps_count [] ns many = refl
steps_count (b ∷ bs) [] many = absurd (omega (arith, many))
steps_count (b ∷ bs) (n ∷ ns) many = ap suc (steps_count bs ns (omega (arith, many)))

-- steps that were found one by one
pub steps_are : (bs ns ts : List ℕ) → length bs ≤ length ns → length bs ≤ length ts →
    ((k : ℕ) → k < length bs → get_or ts k 0 ≡ kept_step (get_or bs k 0) (get_or ns k 0)) → take (length bs) ts ≡ steps_of bs ns
steps_are [] ns ts many long each = refl
steps_are (b ∷ bs) [] ts many long each = absurd (omega (arith, many))
steps_are (b ∷ bs) (n ∷ ns) [] many long each = absurd (omega (arith, long))
steps_are (b ∷ bs) (n ∷ ns) (t ∷ ts) many long each =
    let rest = steps_are bs ns ts (omega (arith, many)) (omega (arith, long)) (λ k low. each (suc k) (omega (arith, low))) in
    ap (λ x. x ∷ take (length bs) ts) (each zero (omega arith)) ∙ ap (λ xs. kept_step b n ∷ xs) rest

-- if the counts are near a base, the base with the steps added gives them
pub near_sums : (bs ns : List ℕ) → AreNear bs ns → length bs ≤ length ns → sums bs (steps_of bs ns) ≡ take (length bs) ns
near_sums [] ns near many = refl
near_sums (b ∷ bs) [] near many = absurd (omega (arith, many))
near_sums (b ∷ bs) (n ∷ ns) near many =
    let rest = near_sums bs ns (λ k low. near (suc k) (omega (arith, low))) (omega (arith, many)) in
    ap (λ x. x ∷ sums bs (steps_of bs ns)) (near zero (omega arith)) ∙ ap (λ xs. n ∷ xs) rest

-- ---- the list of clocks

-- there are as many clocks as bases' beginnings
pub clocks_count : (w : ℕ) (bs os ss : List ℕ) → length (clocks_of w bs os ss) ≡ length os
clocks_count w bs [] ss = refl
clocks_count w bs (o ∷ os) ss = ap suc (clocks_count w bs os (drop w ss))

-- there are as many bases' beginnings as a table shows clocks
pub seen_count : (w : ℕ) (bs os ss : List ℕ) (cs : List (List ℕ)) → clocks_of w bs os ss ≡ cs → length os ≡ length cs
seen_count w bs os ss cs is = sym (clocks_count w bs os ss) ∙ ap length is

-- the clock at an index
pub clock_at : (w : ℕ) (bs os ss : List ℕ) (i o : ℕ) → slice_get os i ≡ Some o →
    slice_get (clocks_of w bs os ss) i ≡ Some (sums (take w (drop o bs)) (take w (drop (i * w) ss)))
clock_at w bs [] ss i o there = cc
clock_at w bs (p ∷ os) ss zero o there =
    let same : p ≡ o = cc in
    let none : 0 ≡ 0 * w = omega arith in
    ap (λ q. Some (sums (take w (drop q bs)) (take w ss))) same
    ∙ ap (λ k. Some (sums (take w (drop o bs)) (take w (drop k ss)))) none
clock_at w bs (p ∷ os) ss (suc i) o there =
    let next : w + i * w ≡ suc i * w = omega arith in
    clock_at w bs os (drop w ss) i o there
    ∙ ap (λ xs. Some (sums (take w (drop o bs)) (take w xs))) (drop-drop (i * w) w ss ∙ ap (λ k. drop k ss) next)

-- more bases change no clock
pub more_bases : (w before : ℕ) (bs cs os ss : List ℕ) → AreBased w before (length bs) os →
    clocks_of w (bs ++ cs) os ss ≡ clocks_of w bs os ss
unfolding AreBased
more_bases w before bs cs [] ss are = refl
more_bases w before bs cs (o ∷ os) ss (low, within, are) =
    let here : take w (drop o (bs ++ cs)) ≡ take w (drop o bs) =
    ap (take w) (drop-append-le o bs cs (omega (arith, within)))
    ∙ take-append-le w (drop o bs) cs (omega (arith, within, length-drop o bs)) in
    ap (λ xs. sums xs (take w ss) ∷ clocks_of w (bs ++ cs) os (drop w ss)) here
    ∙ ap (λ xs. sums (take w (drop o bs)) (take w ss) ∷ xs) (more_bases w (before + w) bs cs os (drop w ss) are)

-- one more clock
pub clock_pushed : (w : ℕ) (bs os ss ts : List ℕ) (o : ℕ) → length ss ≡ length os * w →
    clocks_of w bs (os ++ o ∷ []) (ss ++ ts) ≡ clocks_of w bs os ss ++ sums (take w (drop o bs)) (take w ts) ∷ []
clock_pushed w bs [] [] ts o count = refl
clock_pushed w bs [] (s ∷ ss) ts o count = absurd (omega (arith, count))
clock_pushed w bs (p ∷ os) ss ts o count =
    let next : suc (length os) * w ≡ w + length os * w = omega arith in
    let whole : length ss ≡ w + length os * w = count ∙ next in
    let rest = clock_pushed w bs os (drop w ss) ts o (omega (arith, whole, length-drop w ss)) in
    ap (λ xs. sums (take w (drop p bs)) xs ∷ clocks_of w bs (os ++ o ∷ []) (drop w (ss ++ ts)))
    (take-append-le w ss ts (omega (arith, whole)))
    ∙ ap (λ xs. sums (take w (drop p bs)) (take w ss) ∷ clocks_of w bs (os ++ o ∷ []) xs) (drop-append-le w ss ts (omega (arith, whole)))
    ∙ ap (λ xs. sums (take w (drop p bs)) (take w ss) ∷ xs) rest

-- the first clocks, by the steps that they need
fewer_steps : (w n : ℕ) (bs os ss : List ℕ) → clocks_of w bs (take n os) (take (length (take n os) * w) ss) ≡ take n (clocks_of w bs os ss)
fewer_steps w zero bs os ss = refl
fewer_steps w (suc n) bs [] ss = refl
fewer_steps w (suc n) bs (o ∷ os) ss =
    let m = length (take n os) * w in
    let next : suc (length (take n os)) * w ≡ w + m = omega arith in
    let first : take w (take (w + m) ss) ≡ take w ss = take-take w (w + m) ss (omega arith) in
    let cs : List ℕ → List (List ℕ) = λ xs. clocks_of w bs (take n os) xs in
    ap (λ k. sums (take w (drop o bs)) (take w (take k ss)) ∷ cs (drop w (take k ss))) next
    ∙ ap (λ xs. sums (take w (drop o bs)) xs ∷ cs (drop w (take (w + m) ss))) first
    ∙ ap (λ xs. sums (take w (drop o bs)) (take w ss) ∷ cs xs) (drop-take w m ss)
    ∙ ap (λ xs. sums (take w (drop o bs)) (take w ss) ∷ xs) (fewer_steps w n bs os (drop w ss))

-- ---- where the bases begin

-- with more bases
pub based_wider : (w before m n : ℕ) (os : List ℕ) → m ≤ n → AreBased w before m os → AreBased w before n os
unfolding AreBased
based_wider w before m n [] more are = tt
based_wider w before m n (o ∷ os) more (low, within, are) = (low, omega (arith, within, more), based_wider w (before + w) m n os more are)

-- with one more clock
pub based_pushed : (w before n : ℕ) (os : List ℕ) (o : ℕ) → AreBased w before n os → o ≤ before + length os * w → o + w ≤ n →
    AreBased w before n (os ++ o ∷ [])
unfolding AreBased
based_pushed w before n [] o are low within = (omega (arith, low), within, tt)
based_pushed w before n (p ∷ os) o (here, there, are) low within =
    let next : before + suc (length os) * w ≡ (before + w) + length os * w = omega arith in
    (here, there, based_pushed w (before + w) n os o are (omega (arith, low, next)) within)

-- of the first clocks, by no more bases than there are clocks
pub based_cut : (w before n m k : ℕ) (os : List ℕ) → AreBased w before n os → (n ≤ m) ⊎ (before + length (take k os) * w ≤ m) →
    AreBased w before m (take k os)
unfolding AreBased
based_cut w before n m zero os are many = tt
based_cut w before n m (suc k) [] are many = tt
based_cut w before n m (suc k) (o ∷ os) (low, within, are) many =
    let next : before + suc (length (take k os)) * w ≡ (before + w) + length (take k os) * w = omega arith in
    (low, here many, based_cut w (before + w) n m k os are (rest next many))
  where
    here : (n ≤ m) ⊎ (before + suc (length (take k os)) * w ≤ m) → o + w ≤ m
    here (inl wide) = omega (arith, within, wide)
    here (inr wide) = let next : before + suc (length (take k os)) * w ≡ (before + w) + length (take k os) * w = omega arith in
        omega (arith, low, wide, next)

    rest : before + suc (length (take k os)) * w ≡ (before + w) + length (take k os) * w →
        (n ≤ m) ⊎ (before + suc (length (take k os)) * w ≤ m) → (n ≤ m) ⊎ ((before + w) + length (take k os) * w ≤ m)
    rest next (inl wide) = inl wide
    rest next (inr wide) = inr (omega (arith, wide, next))

-- a clock's base is whole
pub based_at : (w before n : ℕ) (os : List ℕ) (i o : ℕ) → AreBased w before n os → slice_get os i ≡ Some o → o + w ≤ n
unfolding AreBased
based_at w before n [] i o are there = cc
based_at w before n (p ∷ os) zero o (low, within, are) there = let same : p ≡ o = cc in omega (arith, same, within)
based_at w before n (p ∷ os) (suc i) o (low, within, are) there = based_at w (before + w) n os i o are there

-- and there are no more bases before it than clocks
pub based_low : (w before n : ℕ) (os : List ℕ) (i o : ℕ) → AreBased w before n os → slice_get os i ≡ Some o → o ≤ before + i * w
unfolding AreBased
based_low w before n [] i o are there = cc
based_low w before n (p ∷ os) zero o (low, within, are) there = let same : p ≡ o = cc in omega (arith, same, low)
based_low w before n (p ∷ os) (suc i) o (low, within, are) there =
    let next : (before + w) + i * w ≡ before + suc i * w = omega arith in
    omega (arith, next, based_low w (before + w) n os i o are there)

-- ---- without the last clocks

-- no more items are taken than there shall be
pub at_most : (n : ℕ) (os : List ℕ) → length (take n os) ≤ n
at_most n os = omega (arith, length-take n os)

-- the bases of the first clocks
bases_cut : (w n m : ℕ) (bs os : List ℕ) → AreBased w 0 (length bs) os → m ≡ length (take n os) * w →
    AreBased w 0 (length (take m bs)) (take n os)
bases_cut w n m bs os are is = based_cut w 0 (length bs) (length (take m bs)) n os are (at (cases_lt (length bs) m))
  where
    at : (length bs < m) ⊎ (m ≤ length bs) → (length bs ≤ length (take m bs)) ⊎ (0 + length (take n os) * w ≤ length (take m bs))
    at (inr low) = inr (omega (arith, is, length-take-le m bs low))
    at (inl far) = inl (omega (arith, ap length (take_all m bs (omega (arith, far)))))

-- the first clocks, by the bases and the steps that they need
clocks_cut : (w n m : ℕ) (bs os ss : List ℕ) → AreBased w 0 (length bs) os → m ≡ length (take n os) * w →
    clocks_of w (take m bs) (take n os) (take m ss) ≡ take n (clocks_of w bs os ss)
clocks_cut w n m bs os ss are is =
    sym (more_bases w 0 (take m bs) (drop m bs) (take n os) (take m ss) (bases_cut w n m bs os are is))
    ∙ ap (λ xs. clocks_of w xs (take n os) (take m ss)) (take-append-drop m bs)
    ∙ ap (λ k. clocks_of w bs (take n os) (take k ss)) is
    ∙ fewer_steps w n bs os ss

-- what is kept of the first clocks
pub record IsCut (w n : ℕ) (bs os ss cs ps ts : List ℕ) : Type 0 where
  pub steps : length ts ≡ length ps * w
  pub few : length cs ≤ length ps * w
  pub based : AreBased w 0 (length cs) ps
  pub clocks : clocks_of w cs ps ts ≡ take n (clocks_of w bs os ss)

-- the first clocks of a list, with the entries that they are kept by, are kept by prefixes of these
pub cut : (w n m : ℕ) (bs os ss cs ps ts : List ℕ) → AreBased w 0 (length bs) os → length ss ≡ length os * w →
    ps ≡ take n os → m ≡ length ps * w → cs ≡ take m bs → ts ≡ take m ss → IsCut w n bs os ss cs ps ts
cut w n m bs os ss cs ps ts are count first is bases steps =
    let much : m ≡ length (take n os) * w = is ∙ ap (λ xs. length xs * w) first in
    let room : length (take n os) * w ≤ length os * w = mul-le-mul_right w (omega (arith, length-take n os)) in
    record {
      steps = ap length steps ∙ length-take-le m ss (omega (arith, much, room, count)) ∙ is;
      few = omega (arith, ap length bases, at_most m bs, is);
      based = subst (λ xs. AreBased w 0 (length xs) ps) (sym bases) (subst (AreBased w 0 (length (take m bs))) (sym first)
          (bases_cut w n m bs os are much));
      clocks = ap (λ xs. clocks_of w xs ps ts) bases ∙ ap (λ xs. clocks_of w (take m bs) xs ts) first
          ∙ ap (clocks_of w (take m bs) (take n os)) steps ∙ clocks_cut w n m bs os ss are much;
    }

-- ---- with one more clock

-- no clocks need no bases
pub none_based : (w n : ℕ) (os : List ℕ) → os ≡ [] → AreBased w 0 n os
unfolding AreBased
none_based w n [] none = tt
none_based w n (o ∷ os) none = cc

-- what is kept with one more clock
pub record IsLonger (w : ℕ) (bs os ss cs ps ts ns : List ℕ) : Type 0 where
  pub steps : length ts ≡ length ps * w
  pub few : length cs ≤ length ps * w
  pub based : AreBased w 0 (length cs) ps
  pub clocks : clocks_of w cs ps ts ≡ clocks_of w bs os ss ++ take w ns ∷ []

-- a clock that is near a base is kept by its steps above that base, after the clocks before it
pub longer : (w o : ℕ) (bs os ss ps ts ns base : List ℕ) → AreBased w 0 (length bs) os → length ss ≡ length os * w →
    length bs ≤ length os * w + w → o ≤ length os * w → o + w ≤ length bs → w ≤ length ns → base ≡ take w (drop o bs) → AreNear base ns →
    ps ≡ os ++ o ∷ [] → ts ≡ ss ++ steps_of base ns → IsLonger w bs os ss bs ps ts ns
longer w o bs os ss ps ts ns base are count few low within many is near starts steps =
    let wide : length base ≡ w = ap length is ∙ length-take-le w (drop o bs) (omega (arith, within, length-drop o bs)) in
    let long : length (steps_of base ns) ≡ w = steps_count base ns (omega (arith, wide, many)) ∙ wide in
    let next : (length os + 1) * w ≡ length os * w + w = omega arith in
    let all : length ps * w ≡ length os * w + w = ap (λ xs. length xs * w) starts ∙ ap (λ k. k * w) (length_push os o) ∙ next in
    let whole : sums (take w (drop o bs)) (take w (steps_of base ns)) ≡ take w ns =
    ap (sums (take w (drop o bs))) (take_all w (steps_of base ns) (omega (arith, long)))
    ∙ ap (λ xs. sums xs (steps_of base ns)) (sym is)
    ∙ near_sums base ns near (omega (arith, wide, many)) ∙ ap (λ k. take k ns) wide in
    record {
      steps = ap length steps ∙ length-append ss (steps_of base ns) ∙ omega (arith, all, count, long);
      few = omega (arith, all, few);
      based = subst (AreBased w 0 (length bs)) (sym starts) (based_pushed w 0 (length bs) os o are (omega (arith, low)) within);
      clocks = ap (λ xs. clocks_of w bs xs ts) starts ∙ ap (clocks_of w bs (os ++ o ∷ [])) steps
          ∙ clock_pushed w bs os ss (steps_of base ns) o count
          ∙ ap (λ xs. clocks_of w bs os ss ++ xs ∷ []) whole;
    }

-- and with a base of its own
pub longer_anew : (w o : ℕ) (bs cs os ss ps ts ns base : List ℕ) → AreBased w 0 (length bs) os → length ss ≡ length os * w →
    length bs ≤ length os * w → o ≡ length bs → w ≡ length ns → cs ≡ bs ++ base_of ns → base ≡ take w (drop o cs) →
    AreNear (base_of ns) ns → ps ≡ os ++ o ∷ [] → ts ≡ ss ++ steps_of base ns → IsLonger w bs os ss cs ps ts ns
longer_anew w o bs cs os ss ps ts ns base are count few at many is based near starts steps =
    let wide : length (base_of ns) ≡ w = length-map ns (λ n. n - LESS) ∙ sym many in
    let all : length cs ≡ length bs + w = ap length is ∙ length-append bs (base_of ns) ∙ ap (λ k. length bs + k) wide in
    let own : base ≡ base_of ns = based ∙ ap (λ k. take w (drop k cs)) at ∙ ap (λ xs. take w (drop (length bs) xs)) is
    ∙ ap (take w) (drop-append_seam bs (base_of ns)) ∙ take_all w (base_of ns) (omega (arith, wide)) in
    let wider : AreBased w 0 (length cs) os = based_wider w 0 (length bs) (length cs) os (omega (arith, all)) are in
    let l = longer w o cs os ss ps ts ns base wider count (omega (arith, few, all)) (omega (arith, few, at))
    (omega (arith, at, all)) (omega (arith, many)) based
    (subst (λ xs. AreNear xs ns) (sym own) near) starts steps in
    record {
      steps = l.steps;
      few = l.few;
      based = l.based;
      clocks = l.clocks ∙ ap (λ xs. xs ++ take w ns ∷ []) (ap (λ xs. clocks_of w xs os ss) is ∙ more_bases w 0 bs (base_of ns) os ss are);
    }

-- the last of a list, as it is seen
pub last_seen : (xs os : List ℕ) (o : ℕ) → xs ≡ os → slice_get xs (length xs - 1) ≡ Some o → slice_get os (length os - 1) ≡ Some o
last_seen xs os o is there = subst (λ ys. slice_get ys (length ys - 1) ≡ Some o) is there

-- the items of a range of a list, as it is seen
pub range_seen : (o w e : ℕ) (xs bs : List ℕ) → e ≡ o + w → xs ≡ bs → take (e - o) (drop o xs) ≡ take w (drop o bs)
range_seen o w e xs bs to is =
    let long : e - o ≡ w = omega (arith, to) in
    ap (λ ys. take (e - o) (drop o ys)) is ∙ ap (λ k. take k (drop o bs)) long

-- the same counts
same_all : (ks ns : List ℕ) → length ks ≤ length ns → ((k : ℕ) → k < length ks → get_or ks k 0 ≡ get_or ns k 0) → ks ≡ take (length ks) ns
same_all [] ns many each = refl
same_all (k ∷ ks) [] many each = absurd (omega (arith, many))
same_all (k ∷ ks) (n ∷ ns) many each =
    let rest = same_all ks ns (omega (arith, many)) (λ i low. each (suc i) (omega (arith, low))) in
    ap (λ x. x ∷ ks) (each zero (omega arith)) ∙ ap (λ xs. n ∷ xs) rest

-- the same counts, but for one
pub same_but : (ks ns : List ℕ) (own n : ℕ) → length ks ≤ length ns →
    ((k : ℕ) → k < length ks → (k ≡ own → ⊥) → get_or ks k 0 ≡ get_or ns k 0) → slice_set ks own n ≡ slice_set (take (length ks) ns) own n
same_but [] ns own n many each = refl
same_but (k ∷ ks) [] own n many each = absurd (omega (arith, many))
same_but (k ∷ ks) (m ∷ ns) zero n many each =
    ap (λ xs. n ∷ xs) (same_all ks ns (omega (arith, many)) (λ i low. each (suc i) (omega (arith, low)) (λ e. omega (arith, e))))
same_but (k ∷ ks) (m ∷ ns) (suc own) n many each =
    let rest = same_but ks ns own n (omega (arith, many))
    (λ i low apart. each (suc i) (omega (arith, low)) (λ e. apart (omega (arith, e)))) in
    ap (λ x. x ∷ slice_set ks own n) (each zero (omega arith) (λ e. omega (arith, e))) ∙ ap (λ xs. m ∷ xs) rest

-- one more entry is read, if there are zeros after those so far
pub read_on : (ns bs : List ℕ) (j x : ℕ) → bs ≡ take j (drop 1 ns) ++ replicate (16 - j) 0 → j + 1 < length ns → j < 16 →
    x ≡ get_or ns (j + 1) 0 → slice_set bs j x ≡ take (j + 1) (drop 1 ns) ++ replicate (16 - (j + 1)) 0
read_on [] bs j x is near small read = absurd (omega (arith, near))
read_on (n ∷ ms) bs j x is near small read =
    let rest : List ℕ = replicate (16 - (j + 1)) 0 in
    let long : length (take j ms) ≡ j = length-take-le j ms (omega (arith, near)) in
    let next : 16 - j ≡ suc (16 - (j + 1)) = omega (arith, small) in
    let one : j + 1 ≡ suc j = omega arith in
    ap (λ xs. slice_set xs j x) (is ∙ ap (λ k. take j ms ++ replicate k 0) next)
    ∙ ap (λ k. slice_set (take j ms ++ 0 ∷ rest) k x) (sym long)
    ∙ set-append_seam (take j ms) 0 rest x
    ∙ ap (λ y. take j ms ++ y ∷ rest) (read ∙ ap (λ k. get_or (n ∷ ms) k 0) one)
    ∙ sym (ap (λ xs. xs ++ rest) (take_more ms j 0 (omega (arith, near))) ∙ append_assoc (take j ms) (get_or ms j 0 ∷ []) rest)

-- if there is memory for one more clock, there is memory for all its counts
pub room_more : (w n limit : ℕ) → n < limit → n * w + w ≤ limit * w
room_more w n limit less =
    let more = mul-le-mul_right w (let e : n + 1 ≤ limit = omega (arith, less) in e) in
    omega (arith, more)
