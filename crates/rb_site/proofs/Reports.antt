-- There is memory for a report.
use Rattle.std.proofs.Common.{◌≡◌, ◌∙◌, ℕ, ◌+◌, ◌<◌, ◌≤◌, Bool, true, false, cond, not, List, [], ◌∷◌, ◌++◌, length, ap, arith, refl, sym}
use Rattle.std.proofs.Common.{subst, take, get_or, length-append}
use Rattle.std.specs.Prelude.{zero, suc, Some, map, option_map, slice_get}
use Rattle.std.proofs.lemmas.List.{length-map, take_all, take_more}
use Rattle.std.proofs.lemmas.List.Sums.{length-filter, count_by-le-length}
use Rattle.rb_scratch.specs.declared.request.TheConstants.{MOST_REQUESTS}
use Rattle.rb_money.specs.Settings.{Settings}
use Rattle.rb_shadow.specs.Operations.{same_name}
use Rattle.rb_shadow.specs.declared.shadow.Shadow.{Shadow}
use Rattle.rb_inbox.specs.Held.{comes_before, with_held}
use Rattle.rb_site.specs.declared.noted_reply.NotedReply.{NotedReply}
use Rattle.rb_site.specs.declared.entry.Entry.{Entry}
use Rattle.rb_site.specs.declared.event.Event.{Event}
use Rattle.rb_site.specs.declared.message.Message.{Message}
use Rattle.rb_site.specs.declared.message.Message.TheVariants.{Shadow as ShadowMessage}
use Rattle.rb_site.specs.Events.{Answers, Applies, Drops, Holds, Makes, MakesAll, ModelSite, Outcome, Passes, Refuses, Shows, Takes}
use Rattle.rb_site.specs.Events.{after_event, after_events, changed, first_site, is_full, outcome_of, sent_by}
use Rattle.rb_site.specs.Histories.{events_of}
use Rattle.rb_site.specs.Reports.{IsEnough, RoomFor}
use Rattle.rb_site.specs.Seen.{SeenSite, next_site, next_sites, state_of}
use Rattle.rb_site.specs.States.{Follows, IsStanding, SiteState}
use Rattle.rb_site.proofs.Public.Runs

-- ---- what is applied grows by what is sent at most

-- what sends few messages makes few operations
ops_grow : (t : ModelSite) (o : Outcome) → length (sent_by o) ≤ MOST_REQUESTS → length (changed t o).ops ≤ length t.ops + MOST_REQUESTS
ops_grow t (Refuses why) h = omega arith
ops_grow t (Answers r) h = omega arith
ops_grow t (Drops x why) h = omega arith
ops_grow t (Shows a) h = omega arith
ops_grow t (Makes v) h = omega (arith, length-append t.ops (v ∷ []))
ops_grow t (MakesAll vs) h = omega (arith, length-append t.ops vs, length-map vs ShadowMessage, h)
ops_grow t (Holds v) h = omega arith
ops_grow t (Applies v) h = omega (arith, length-append t.ops (v ∷ []))
ops_grow t (Takes m) h = omega arith
ops_grow t (Passes m) h = omega arith

-- after an event there is still enough memory
pub still_enough : (room : RoomFor) (keeps : Bool) (old now : SiteState) (before after : List Message) (o : Outcome) (a : NotedReply) →
    Follows keeps old now before after o a → length (sent_by o) ≤ MOST_REQUESTS → length old.settings.starts ≤ room.accounts →
    length old.site.ops + MOST_REQUESTS ≤ room.entries → IsEnough room now
still_enough room keeps old now before after o a follows few accounts entries =
    subst (IsEnough room) (sym follows.0) (record {
      accounts = accounts;
      entries = let more : length (changed old.site o).ops ≤ length old.site.ops + MOST_REQUESTS = ops_grow old.site o few in omega arith;
    })

-- ---- what is held

with_held-few : (v : Shadow) (us : List Shadow) → length (with_held v us) ≤ length us + 1
with_held-few v [] = omega arith
with_held-few v (u ∷ us) = by (comes_before v.name u.name) (with_held-few v us)
  where
    by : (b : Bool) → length (with_held v us) ≤ length us + 1 → length (cond b (v ∷ u ∷ us) (u ∷ with_held v us)) ≤ length (u ∷ us) + 1
    by true rest = omega arith
    by false rest = omega (arith, rest)

held_grow : (t : ModelSite) (o : Outcome) → length (changed t o).held ≤ length t.held + 1
held_grow t (Refuses why) = omega arith
held_grow t (Answers r) = omega arith
held_grow t (Drops x why) = omega (
  arith,
  length-filter (λ (u : Shadow). not (same_name u.name x)) t.held,
  count_by-le-length (λ (u : Shadow). not (same_name u.name x)) t.held,
)
held_grow t (Shows a) = omega arith
held_grow t (Makes v) = omega arith
held_grow t (MakesAll vs) = omega arith
held_grow t (Holds v) = with_held-few v t.held
held_grow t (Applies v) = omega (
  arith,
  length-filter (λ (u : Shadow). not (same_name u.name v.name)) t.held,
  count_by-le-length (λ (u : Shadow). not (same_name u.name v.name)) t.held,
)
held_grow t (Takes m) = omega arith
held_grow t (Passes m) = omega arith

held_after : (s : Settings) (t : ModelSite) (e : Event) → length (after_event s t e).held ≤ length t.held + 1
held_after s t e = by (is_full s t) (held_grow t (outcome_of s t e))
  where
    by : (b : Bool) → length (changed t (outcome_of s t e)).held ≤ length t.held + 1 →
        length (cond b t (Runs.noted s t e)).held ≤ length t.held + 1
    by true one = omega arith
    by false one = one

held_of_run : (s : Settings) (t : ModelSite) (es : List Event) → length (after_events s t es).held ≤ length t.held + length es
held_of_run s t [] = omega arith
held_of_run s t (e ∷ es) = omega (arith, held_of_run s (after_event s t e) es, held_after s t e)

-- a site holds at most one operation for each entry of its history, which is within its limit
pub held_few : (x : SeenSite) (now : SiteState) → IsStanding x now → length now.site.held ≤ x.settings.limits.history
held_few x now standing =
    let held : length now.site.held ≡ length (state_of x).held = ap (λ (t : ModelSite). length t.held) standing.site in
    let events : length (events_of x.entries) ≡ length x.entries = length-map x.entries (λ (y : Entry). y.event) in
    let room : length x.entries ≤ x.settings.limits.history = standing.kept.room in
    omega (arith, held_of_run x.settings (first_site x.me) (events_of x.entries))

-- ---- one event more of a run

sites-push : (x : SeenSite) (es : List Event) (e : Event) → next_sites x (es ++ e ∷ []) ≡ next_site (next_sites x es) e
sites-push x [] e = refl
sites-push x (d ∷ es) e = sites-push (next_site x d) es e

-- a step on from the first events of a list is the run with one event more of it
pub sites_more : (x : SeenSite) (es : List Event) (k : ℕ) (d : Event) (now later : SeenSite) → k < length es →
    now ≡ next_sites x (take k es) → later ≡ next_site now (get_or es k d) → later ≡ next_sites x (take (k + 1) es)
sites_more x es k d now later there far one = one ∙ ap (λ y. next_site y (get_or es k d)) far
    ∙ sym (sites-push x (take k es) (get_or es k d)) ∙ ap (next_sites x) (sym (take_more es k d there))

-- one count more
pub more_counts : (f : Shadow → ℕ) (us : List Shadow) (k n : ℕ) → option_map f (slice_get us k) ≡ Some n →
    map f (take k us) ++ n ∷ [] ≡ map f (take (suc k) us)
more_counts f [] k n h = cc
more_counts f (u ∷ us) zero n h = let same : f u ≡ n = cc in ap (λ m. m ∷ []) (sym same)
more_counts f (u ∷ us) (suc k) n h = ap (λ ns. f u ∷ ns) (more_counts f us k n h)

-- ---- a list that is filled place by place

-- there is spare capacity for one more
pub room_left : (len room k n total : ℕ) → len ≡ k → k < n → n ≡ total → total ≤ room → len < room
room_left len room k n total at there same enough = omega arith

-- no place that is reached is beyond the list
pub not_beyond : (k n total : ℕ) → k < n → n ≡ total → total ≤ k → ⊥
not_beyond k n total there same beyond = omega arith

-- where it ends
pub at_end : (k n total : ℕ) → k ≤ n → n ≤ k → n ≡ total → k ≡ total
at_end k n total within end same = omega arith

-- at its end it is whole
pub whole : {A : Type 0} (xs : List A) (k n : ℕ) → n ≡ length xs → n ≤ k → take k xs ≡ xs
whole xs k n same end = take_all k xs (omega arith)

-- enough memory still is after more was taken
pub enough_more : (old new : RoomFor) (now : SiteState) → old.entries ≤ new.entries → new.accounts ≡ old.accounts → IsEnough old now
    → IsEnough new now
enough_more old new now more same enough = record {
  accounts = subst (λ n. length now.settings.starts ≤ n) (sym same) enough.accounts;
  entries = let few : length now.site.ops ≤ old.entries = enough.entries in omega arith;
}
