-- A plan of a request is fit: what it makes at a valid list is sound, and its name is new there.
use Rattle.rb_money.specs.Refusals.{unless}
use Rattle.std.proofs.Common.{◌≡◌, ℕ, ◌+◌, ◌<◌, ◌≤◌, Bool, true, false, cond, not, ◌&&◌, ◌||◌, List, [], ◌∷◌, ◌++◌, length, refl, ap, sym}
use Rattle.std.proofs.Common.{◌∙◌, arith, subst, Option, Some, None}
use Rattle.std.specs.Prelude.{pos, neg_ℤ, ◌≤ℤ◌, nat_le, nat_lt, ◌==◌, option_and_then, is_some}
use Rattle.std.proofs.Math.Bool.{and-false}
use Rattle.std.proofs.lemmas.Int.{ints}
use Rattle.std.proofs.lemmas.Bool.Decides.{nat_tests}
use Rattle.std.proofs.lemmas.List.FromFn.{get_or-map-range_with_len}
use Rattle.rb_money.specs.Amounts.{is_amount}
use Rattle.rb_money.specs.Settings.{Settings, is_account}
use Rattle.rb_money.specs.declared.limits.TheConstants.{MOST_SITES}
use Rattle.rb_money.specs.declared.place.Place.{Place}
use Rattle.rb_shadow.specs.declared.shadow.Shadow.{Shadow}
use Rattle.rb_shadow.specs.declared.op_name.OpName.{OpName}
use Rattle.rb_shadow.specs.declared.op_name.OpName.TheVariants.{Blue, Red}
use Rattle.rb_shadow.specs.declared.kind.Kind.{Kind}
use Rattle.rb_shadow.specs.declared.kind.Kind.TheVariants.{Withdraw, Interest, Cancel, Transfer}
use Rattle.rb_shadow.specs.declared.colour.Colour.{Colour}
use Rattle.rb_shadow.specs.declared.colour.Colour.TheVariants.{Blue as BlueColour, Red as RedColour}
use Rattle.rb_shadow.specs.Operations.{names, past, IsWithin, colour_in, number_of, entry_of, red_count, blue_count, clock_of}
use Rattle.rb_shadow.specs.Operations.{colour_of, kind_in, target_of, is_cancelled, bal, moved}
use Rattle.rb_shadow.specs.Operations.{receiver_of, is_on, names_of_clock, same_colour, shown_colour}
use Rattle.rb_shadow.specs.Sound.{fault_of, IsSound, is_absent, is_foreign, limit_of, may_be_nothing}
use Rattle.rb_shadow.proofs.Public.Members
use Rattle.rb_shadow.proofs.Public.Clocks
use Rattle.rb_shadow.proofs.Public.SoundFacts
use Rattle.rb_shadow.proofs.Public.SoundFacts.{is_misdirected}
use Rattle.rb_ledger.specs.Valid.{IsValid, HasTarget}
use Rattle.rb_ledger.specs.Checks.{overdraws}
use Rattle.rb_money.specs.declared.cents.TheConstants.{MOST_CENTS}
use Rattle.rb_money.proofs.Public.Tests.{equal, number_same, unequal}
use Rattle.rb_ledger.proofs.Public.Legal
use Rattle.rb_ledger.proofs.Public.ValidClocks
use Rattle.rb_token.specs.Token.{Token}
use Rattle.rb_scratch.specs.Requests.{Plan, next_name, operation_of}
use Rattle.rb_scratch.proofs.Public.Made.{IsAllowed}
use Rattle.rb_scratch.proofs.Planned.{Cancels, IsPlanned}
use Rattle.rb_scratch.proofs.Tokens.{shows, enough}

-- what a plan makes at a site that applied us
abbrev pub shadow_of : ℕ → List Shadow → Plan → Shadow
shadow_of me us p = record {
  name = next_name me us (colour_in us p.kind);
  home = me;
  deps = clock_of us;
  account = p.account;
  amount = p.amount;
  kind = p.kind;
}

-- the operation that a plan is for is what it makes
pub operation_is : (me : ℕ) (us : List Shadow) (p : Plan) → operation_of me us p ≡ shadow_of me us p
unfolding operation_of
operation_is me us p = refl

-- what a plan has to meet, but for the money
pub record IsFit (s : Settings) (me : ℕ) (us : List Shadow) (p : Plan) : Type 0 where
  pub account : nat_le (length s.starts) p.account.0 ≡ false
  pub receiver : is_misdirected (length s.starts) p.account (receiver_of p.kind) ≡ false
  pub amount : nat_lt MOST_CENTS p.amount ≡ false
  pub something : (p.amount == 0 && not (may_be_nothing p.kind)) ≡ false
  pub target : HasTarget us (shadow_of me us p) (target_of p.kind)
  pub within : number_of (next_name me us (colour_in us p.kind)) ≤ limit_of s.limits (next_name me us (colour_in us p.kind))

on : (b : Bool) (why : ℕ) (rest : Option ℕ) → b ≡ false → rest ≡ None → cond b (Some why) rest ≡ None
on true why rest h k = cc
on false why rest h k = k

own_name : (me : ℕ) (us : List Shadow) (c : Colour) → is_foreign (next_name me us c) me ≡ false
own_name me us BlueColour = same me
  where
    same : (n : ℕ) → not (n == n) ≡ false
    same n = grind (arith, nat_tests)
own_name me us RedColour = refl

numbered : (s : Settings) (me : ℕ) (us : List Shadow) (c : Colour) → number_of (next_name me us c) ≤ limit_of s.limits (next_name me us c) →
    (number_of (next_name me us c) == 0 || nat_lt (limit_of s.limits (next_name me us c)) (number_of (next_name me us c))) ≡ false
numbered s me us BlueColour h = fits s.limits.blue (blue_count us me) h
  where
    fits : (m n : ℕ) → n + 1 ≤ m → (n + 1 == 0 || nat_lt m (n + 1)) ≡ false
    fits m n h = Members.false-or (n + 1 == 0) (nat_lt m (n + 1)) (grind (arith, nat_tests)) (grind (arith, nat_tests))
numbered s me us RedColour h = fits s.limits.red (red_count us) h
  where
    fits : (m n : ℕ) → n + 1 ≤ m → (n + 1 == 0 || nat_lt m (n + 1)) ≡ false
    fits m n h = Members.false-or (n + 1 == 0) (nat_lt m (n + 1)) (grind (arith, nat_tests)) (grind (arith, nat_tests))

well_coloured : (me : ℕ) (us : List Shadow) (k : Kind) (o : Option Kind) →
    (not (is_some (target_of k)) && not (same_colour (shown_colour (next_name me us (colour_of k o))) (colour_of k None))) ≡ false
well_coloured me us (Cancel x) o = refl
well_coloured me us _ o = refl

next_entry : (me : ℕ) (us : List Shadow) (c : Colour) → me < MOST_SITES →
    (entry_of (clock_of us) (next_name me us c) + 1 == number_of (next_name me us c)) ≡ true
unfolding clock_of
next_entry me us BlueColour few = ap (λ n. n + 1 == blue_count us me +
    1) (get_or-map-range_with_len (blue_count us) 0 MOST_SITES me me 0 few (omega arith)) ∙ number_same (blue_count us me + 1)
next_entry me us RedColour few = number_same (red_count us + 1)

all_seen : (s : Settings) (us : List Shadow) (h : Shadow) (o : Option OpName) → s.sites ≤ MOST_SITES → IsValid s us → HasTarget us h o →
    unless (λ x. is_absent s.sites x || not (names_of_clock (clock_of us) x)) o false ≡ false
all_seen s us h (Some x) few valid (t, there, named, right) =
    Members.false-or _ _ (ap (is_absent s.sites) (sym named) ∙ SoundFacts.is_present s t (ValidClocks.member_sound s us t valid there))
    (ap not (sym (ValidClocks.valid_clock s us few valid x) ∙ ap (names us) (sym named) ∙ Members.named us t there))
all_seen s us h None few valid t = refl

-- what a fit plan makes at a valid list is sound
pub plan_sound : (s : Settings) (me : ℕ) (us : List Shadow) (p : Plan) → s.sites ≤ MOST_SITES → me < s.sites → IsValid s us
    → IsFit s me us p →
    IsSound s (shadow_of me us p)
unfolding fault_of
plan_sound s me us p few here valid fit =
    on _ 1 _ (Members.false-or _ _ (within s.sites me here) (own_name me us (colour_in us p.kind)))
    (on _ 2 _ (numbered s me us (colour_in us p.kind) fit.within)
    (on _ 3 _ (Members.false-or _ _ fit.account fit.receiver)
    (on _ 4 _ (Members.false-or _ _ fit.amount fit.something)
    (on _ 5 _ (well_coloured me us p.kind (option_and_then (kind_in us) (target_of p.kind)))
    (on _ 6 _ (all_seen s us (shadow_of me us p) (target_of p.kind) few valid fit.target)
    (on _ 7 _ (Members.false-or _ _ (ap not (ValidClocks.clock_is_clock s us valid))
    (ap not (next_entry me us (colour_in us p.kind) (omega arith)))) refl))))))
  where
    within : (m n : ℕ) → n < m → nat_le m n ≡ false
    within m n h = grind (arith, nat_tests)

-- the next name is a new one
pub fresh_name : (s : Settings) (me : ℕ) (us : List Shadow) (c : Colour) → IsValid s us → names us (next_name me us c) ≡ false
fresh_name s me us BlueColour valid = ValidClocks.valid_counted s us valid (Blue me (blue_count us me + 1)) ∙ past_end (blue_count us me)
  where
    past_end : (n : ℕ) → (nat_le 1 (n + 1) && nat_le (n + 1) n) ≡ false
    past_end n = grind (arith, nat_tests)
fresh_name s me us RedColour valid = ValidClocks.valid_counted s us valid (Red (red_count us + 1)) ∙ past_end (red_count us)
  where
    past_end : (n : ℕ) → (nat_le 1 (n + 1) && nat_le (n + 1) n) ≡ false
    past_end n = grind (arith, nat_tests)

-- a site has applied the past of what it makes
pub seen_past : (s : Settings) (me : ℕ) (us : List Shadow) (p : Plan) → s.sites ≤ MOST_SITES → IsValid s us →
    IsWithin (past (shadow_of me us p)) (names us)
seen_past s me us p few valid x h = sym (ValidClocks.clock_past s us (shadow_of me us p) few valid refl x) ∙ h

-- what a plan makes may come next if its accounts are covered
pub plan_follows : (s : Settings) (me : ℕ) (us : List Shadow) (p : Plan) → s.sites ≤ MOST_SITES → me < s.sites → IsValid s us →
    IsFit s me us p → ((a : Place) → is_on us (shadow_of me us p) a ≡ true → pos 0 ≤ℤ bal s (us ++ shadow_of me us p ∷ []) a) →
    Legal.MayFollow s us (shadow_of me us p)
plan_follows s me us p few here valid fit covered = record {
  sound = plan_sound s me us p few here valid fit;
  fresh = fresh_name s me us (colour_in us p.kind) valid;
  eligible = seen_past s me us p few valid;
  target = fit.target;
  colour = shows me us (colour_in us p.kind);
  covered = Legal.covered_all s us (shadow_of me us p) valid (fresh_name s me us (colour_in us p.kind) valid) fit.target covered;
}

-- what a plan makes isn't cancelled
pub uncancelled : (s : Settings) (me : ℕ) (us : List Shadow) (p : Plan) → IsValid s us →
    is_cancelled us (next_name me us (colour_in us p.kind)) ≡ false
uncancelled s me us p valid = Legal.fresh_uncancelled us _ valid.targets (fresh_name s me us (colour_in us p.kind) valid)

-- a cancellation that is blue takes nothing
pub blue_gives : (x : OpName) (k : Kind) (n : ℕ) → colour_of (Cancel x) (Some k) ≡ BlueColour → pos 0 ≤ℤ neg_ℤ (moved k n)
blue_gives x Withdraw n h = omega (arith, ints)
blue_gives x _ n h = cc

measure : (n : ℕ) (b : Bool) → is_amount n ≡ true → (nat_lt MOST_CENTS n ≡ false) × ((n == 0 && b) ≡ false)
measure n b h = let q : (1 ≤ n) × (n ≤ MOST_CENTS) = Clocks.in_range-true n MOST_CENTS h in let low = q.0 in let high = q.1 in
    (grind (arith, nat_tests), ap (λ c. c && b) (let z : (n == 0) ≡ false = grind (arith, nat_tests) in z))

housed : (a n : ℕ) → nat_lt a n ≡ true → nat_le n a ≡ false
housed a n h = grind (arith, nat_tests)

-- a red one that overdraws isn't allowed
pub not_overdrawn : (s : Settings) (me : ℕ) (us : List Shadow) (token : Token) (v : Shadow) (c : Colour) → c ≡ RedColour →
    IsAllowed s us token v (next_name me us c) → (is_some (target_of v.kind) && overdraws s us v) ≡ false
not_overdrawn s me us token v BlueColour e fair = cc
not_overdrawn s me us token v RedColour e fair = fair.2

-- a plan of the kind, for an account and an amount of the configuration
fit_plain : (s : Settings) (me : ℕ) (us : List Shadow) (p : Plan) (k : Kind) → p.kind ≡ k
    → is_account s p.account ≡ true → is_misdirected (length s.starts) p.account (receiver_of k) ≡ false →
    nat_lt MOST_CENTS p.amount ≡ false → (p.amount == 0 && not (may_be_nothing k)) ≡ false →
    HasTarget us (shadow_of me us p) (target_of k)
    → number_of (next_name me us (colour_in us p.kind)) ≤ limit_of s.limits (next_name me us (colour_in us p.kind))
    → IsFit s me us p
fit_plain s me us p k e known right low some target within = record {
  account = housed p.account.0 (length s.starts) known;
  receiver = ap (λ j. is_misdirected (length s.starts) p.account (receiver_of j)) e ∙ right;
  amount = low;
  something = ap (λ j. p.amount == 0 && not (may_be_nothing j)) e ∙ some;
  target = subst (λ j. HasTarget us (shadow_of me us p) (target_of j)) (sym e) target;
  within = within;
}

-- two numbers that differ do so the other way round
pub turned : (m n : ℕ) → (m == n) ≡ false → (n == m) ≡ false
turned m n e = unequal n m (λ k. Members.true≢false (sym (equal m n (sym k)) ∙ e))

-- an account of the configuration, other than the own one
pub directed : (s : Settings) (p : Plan) (to : Place) → is_account s to ≡ true → (p.account.0 == to.0) ≡ false →
    is_misdirected (length s.starts) p.account (Some to) ≡ false
directed s p to known apart = Members.false-or _ _ (housed to.0 (length s.starts) known) (turned p.account.0 to.0 apart)

fit_cancel : (s : Settings) (me : ℕ) (us : List Shadow) (p : Plan) (x : OpName) → IsValid s us → p.kind ≡ Cancel x → (c : Cancels us x p)
    → number_of (next_name me us (colour_in us p.kind)) ≤ limit_of s.limits (next_name me us (colour_in us p.kind))
    → IsFit s me us p
fit_cancel s me us p x valid e c within = record {
  account = ap (λ (a : Place). nat_le (length s.starts) a.0) (sym c.account) ∙ facts.account;
  receiver = ap (λ j. is_misdirected (length s.starts) p.account (receiver_of j)) e;
  amount = ap (nat_lt MOST_CENTS) (sym c.amount) ∙ facts.amount;
  something = ap (λ j. p.amount == 0 && not (may_be_nothing j)) e ∙ and-false (p.amount == 0);
  target = subst (λ j. HasTarget us (shadow_of me us p) (target_of j)) (sym e) (
    c.target,
    c.there,
    c.named,
    record { kind = c.kind; account = c.account; amount = c.amount },
  );
  within = within;
}
  where
    facts : SoundFacts.SoundFacts s c.target
    facts = ValidClocks.member_sound s us c.target valid c.there

-- a plan of a request is fit
pub fit : (s : Settings) (me : ℕ) (us : List Shadow) (p : Plan) (k : Kind) → IsValid s us → p.kind ≡ k → IsPlanned s us p k
    → number_of (next_name me us (colour_in us p.kind)) ≤ limit_of s.limits (next_name me us (colour_in us p.kind))
    → IsFit s me us p
fit s me us p Withdraw valid e h within = let m = measure p.amount true h.0.amount in
    fit_plain s me us p Withdraw e h.0.account refl m.0 m.1 tt within
fit s me us p Interest valid e h within = fit_plain s me us p Interest e h.0 refl h.1 (and-false (p.amount == 0)) tt within
fit s me us p (Cancel x) valid e h within = fit_cancel s me us p x valid e h within
fit s me us p (Transfer to) valid e (ask, enough, known, apart) within = let m = measure p.amount true ask.amount in
    fit_plain s me us p (Transfer to) e ask.account (directed s p to known apart) m.0 m.1 tt within
fit s me us p k valid e h within = let m = measure p.amount true h.amount in fit_plain s me us p k e h.account refl m.0 m.1 tt within
