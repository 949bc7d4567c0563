-- Histories that replay, and their prefixes.
use Rattle.std.proofs.Common.{◌≡◌, ℕ, suc, Bool, IsTrue, MatchBool, ◌↔◌, ◌+◌, ◌<◌, true, false, List, [], ◌∷◌, ◌++◌, add-zero}
use Rattle.std.proofs.lemmas.Bool.{false≢true}
use Rattle.std.proofs.Common.{length, take, drop, refl, ap, sym, subst, ◌∙◌, arith, Some, length-append}
use Rattle.std.specs.Prelude.{map, slice_get}
use Rattle.std.proofs.lemmas.Bool.Decides.{nat_tests}
use Rattle.std.proofs.lemmas.List.{length-map, take-append-drop, map-append}
use Rattle.rb_money.specs.Settings.{Settings}
use Rattle.rb_site.specs.declared.entry.Entry.{Entry}
use Rattle.rb_site.specs.Events.{ModelSite, after_event, after_events, first_site, is_full, reply_to, sent_at}
use Rattle.rb_site.specs.Histories.{events_of, history_of}
use Rattle.rb_site.specs.declared.message.Message.{Message}
use Rattle.rb_site.specs.declared.reply.Reply.{Reply}
use Rattle.rb_site.specs.Seen.{IsReplayed, Replays, SeenSite, entry, next_site, state_of, stepped}
use Rattle.rb_auditor.specs.Replays.{RecordsEntry, seen_at}
use Rattle.rb_site.proofs.Public.Runs
use Rattle.rb_site.proofs.Public.Seen
use Rattle.rb_site.proofs.Public.Outcomes
use Rattle.rb_auditor.specs.Findings.{IsReplay}
use Rattle.rb_auditor.specs.Progress.{fronts_of, site_after, sites_after}
use Rattle.rb_auditor.proofs.Lists.{split_at}

replays-front : (s : Settings) (t : ModelSite) (xs ys : List Entry) → Replays s t (xs ++ ys) → Replays s t xs
replays-front s t [] ys h = tt
replays-front s t (x ∷ xs) ys h = (h.0, replays-front s (after_event s t x.event) xs ys h.1)

-- each reply of entries that replay is the one that the run gives there
pub replays-at : (s : Settings) (t : ModelSite) (xs ys : List Entry) (x : Entry) → Replays s t (xs ++ x ∷ ys) →
    x.reply ≡ reply_to s (after_events s t (events_of xs)) x.event
replays-at s t [] ys x h = h.0
replays-at s t (y ∷ xs) ys x h = replays-at s (after_event s t y.event) xs ys x h.1

-- entries replay that replay with more after them
pub replay-front : (s : Settings) (i : ℕ) (xs ys : List Entry) → IsReplay s i (xs ++ ys) → IsReplay s i xs
replay-front s i xs ys h = record {
  within = h.within;
  replays = replays-front s (first_site i) xs ys h.replays;
  room = omega (arith, length-append xs ys, h.room);
}

-- a prefix of a history that replays replays
pub replay-take : (s : Settings) (i k : ℕ) (h : List Entry) → IsReplay s i h → IsReplay s i (take k h)
replay-take s i k h r = replay-front s i (take k h) (drop k h) (subst (IsReplay s i) (sym (take-append-drop k h)) r)

-- the history of the site after a replay is what was replayed
pub history_after : (s : Settings) (i : ℕ) (h : List Entry) → IsReplay s i h → history_of s (site_after s i h) ≡ h
history_after s i h r = Seen.entries-state (seen_at s i h) r

-- the site's state is what the run of its own history leads to
pub run_after : (s : Settings) (i : ℕ) (h : List Entry) → IsReplay s i h → Runs.IsRunOfItsHistory s (site_after s i h)
run_after s i h r = let x = seen_at s i h in cc (Seen.me-state x, Seen.history-state x r)

-- its history has as many events
pub length_after : (s : Settings) (i : ℕ) (h : List Entry) → IsReplay s i h → length (site_after s i h).history ≡ length h
length_after s i h r = ap length (Seen.history-state (seen_at s i h) r) ∙ length-map h (λ (x : Entry). x.event)

-- an entry of a history that replays
pub record IsReplayedAt (s : Settings) (i : ℕ) (h : List Entry) (k : ℕ) (x : Entry) : Type 0 where
  pub room : is_full s (site_after s i (take k h)) ≡ false
  pub more : site_after s i (take (k + 1) h) ≡ after_event s (site_after s i (take k h)) x.event

-- a site after one entry more is the site before it, gone on by its event
pub after_more : (s : Settings) (t : ModelSite) (xs : List Entry) (x : Entry) →
    after_events s t (events_of (xs ++ x ∷ [])) ≡ after_event s (after_events s t (events_of xs)) x.event
after_more s t xs x = cc (map-append (λ (y : Entry). y.event) xs (x ∷ []), Runs.after_events-append s (events_of xs) (x.event ∷ []) t)

-- a history with fewer entries than the limit isn't full
pub not_full : (s : Settings) (t : ModelSite) (k : ℕ) → length t.history ≡ k → k < s.limits.history → is_full s t ≡ false
not_full s t k e lt = grind (arith, nat_tests)

-- at an entry of a history that replays the site isn't full, and goes on by its event
pub replayed_at : (s : Settings) (i : ℕ) (h : List Entry) (k : ℕ) (x : Entry) → IsReplay s i h → slice_get h k ≡ Some x →
    IsReplayedAt s i h k x
replayed_at s i h k x r at =
    let sp = split_at h k x at in
    let fewer : length (site_after s i (take k h)).history ≡ k = cc (length_after s i (take k h) (replay-take s i k h r), sp.front) in
    record {
      room = not_full s (site_after s i (take k h)) k fewer (omega (arith, r.room, sp.within));
      more = cc (sp.more, after_more s (first_site i) (take k h) x);
    }

-- the histories of sites after prefixes are the prefixes
pub histories_after : (s : Settings) (a : ℕ) (hs : List (List Entry)) (ks : List ℕ) →
    ((i : ℕ) (h : List Entry) → slice_get hs i ≡ Some h → IsReplay s (a + i) h) →
    map (history_of s) (sites_after s a hs ks) ≡ fronts_of hs ks
histories_after s a [] ks all = refl
histories_after s a (h ∷ hs) [] all = refl
histories_after s a (h ∷ hs) (k ∷ ks) all =
    let rest = histories_after s (a + 1) hs ks (λ i g at. let q : a + 1 + i ≡ a + suc i = omega arith in rw q (all (suc i) g at)) in
    cc (history_after s a (take k h) (replay-take s a k h (rw (← add-zero a) (all 0 h refl))))

-- ---- one entry more

-- if the history is full, one more is wrong
pub full_is_wrong : (x : SeenSite) (y : Entry) → IsReplayed x → is_full x.settings (state_of x) ≡ true →
    ¬ IsReplayed (seen_at x.settings x.me (x.entries ++ y ∷ []))
full_is_wrong x y old full new = grind (
  arith,
  nat_tests,
  Outcomes.is_full-state x old,
  length-append x.entries (y ∷ []),
  new.room,
)

-- another reply than the site's is wrong
other_is_wrong : (x : SeenSite) (y : Entry) → ¬ (reply_to x.settings (state_of x) y.event ≡ y.reply)
    → ¬ IsReplayed (seen_at x.settings x.me (x.entries ++ y ∷ []))
other_is_wrong x y other r = other (sym (replays-at x.settings (first_site x.me) x.entries [] y r.replays))

-- the site's own is noted
noted : {x new : SeenSite} {y : Entry} {r : Reply} {before after : List Message} → IsReplayed x
    → is_full x.settings (state_of x) ≡ false → new ≡ next_site x y.event → r ≡ reply_to x.settings (state_of x) y.event
    → r ≡ y.reply → after ≡ before ++ sent_at x.settings (state_of x) y.event → RecordsEntry x new y before after
noted {x} {new} {y} old free is reply same sends =
    let step : new ≡ stepped x y.event = cc in
    record {
      free = free;
      is = step ∙ ap (λ z. record x { entries = x.entries ++ entry y.event z ∷ [] }) (sym reply ∙ same);
      replays = rw step (Seen.replayed-stepped x y.event (Outcomes.room_left x old free) old);
      sends = sends;
    }

-- one of the two
pub noted_or_not : (b : Bool) {x new : SeenSite} (y : Entry) {r : Reply} (before : List Message) {after : List Message}
    → IsReplayed x → is_full x.settings (state_of x) ≡ false → new ≡ next_site x y.event
    → r ≡ reply_to x.settings (state_of x) y.event → (IsTrue b ↔ (r ≡ y.reply))
    → after ≡ before ++ sent_at x.settings (state_of x) y.event
    → MatchBool b (RecordsEntry x new y before after) (¬ IsReplayed (seen_at x.settings x.me (x.entries ++ y ∷ [])))
noted_or_not true y before old free is reply test sends = noted old free is reply (test.0 refl) sends
noted_or_not false {x} y before old free is reply test sends = other_is_wrong x y (λ same. false≢true (test.1 (reply ∙ same)))
