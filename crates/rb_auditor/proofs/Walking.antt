-- An order, followed by the sites that record the histories.
use Rattle.std.proofs.Common.{◌≡◌, ℕ, zero, suc, ◌+◌, ◌<◌, List, [], ◌∷◌, ◌++◌, length, take, refl, ap, sym, subst, ◌∙◌}
use Rattle.std.proofs.Common.{arith, Option, Some, None, false, drop}
use Rattle.std.specs.Prelude.{IfSome, MatchOption, map, replicate, slice_get, slice_set}
use Rattle.std.specs.List.{range_with_len}
use Rattle.std.proofs.lemmas.List.{length-set, length-take-le, map-set}
use Rattle.std.proofs.lemmas.List.FromFn.{length-map-range_with_len}
use Rattle.std.proofs.lemmas.Option.{slice_get_within}
use Rattle.rb_money.specs.Settings.{Settings}
use Rattle.rb_site.specs.declared.entry.Entry.{Entry}
use Rattle.rb_site.specs.declared.message.Message.{Message}
use Rattle.rb_site.specs.Events.{is_full, sent_at}
use Rattle.rb_site.specs.Seen.{SeenSite, first_seen, next_site, state_of}
use Rattle.rb_site.proofs.Public.Lists.{map_at, map_back}
use Rattle.rb_auditor.specs.Findings.{IsReplay}
use Rattle.rb_auditor.specs.Progress.{IsDone, IsHeldUp, IsLeft, IsTaking, Rests, Took, first_progress}
use Rattle.rb_auditor.specs.Replays.{seen_at}
use Rattle.rb_auditor.specs.Walks.{AreAlong, AreAtEnd, AreReplays, IsAlong, IsBeforeEnd, TakesNext, progress_of}
use Rattle.rb_auditor.proofs.Lists
use Rattle.rb_auditor.proofs.Lists.{IsSplit}
use Rattle.rb_auditor.proofs.Recorded
use Rattle.rb_auditor.proofs.Replaying

-- how many entries a site recorded
abbrev recorded : SeenSite → ℕ
recorded x = length x.entries

-- ---- the start

none_recorded : (s : Settings) (a n : ℕ) → map recorded (map (first_seen s) (range_with_len a n)) ≡ replicate n 0
none_recorded s a zero = refl
none_recorded s a (suc n) = ap (λ ks. 0 ∷ ks) (none_recorded s (a + 1) n)

-- before any event each site is along
pub along_first : (s : Settings) (hs : List (List Entry)) (xs : List SeenSite) → xs ≡ map (first_seen s) (range_with_len 0 s.sites)
    → length hs ≡ s.sites → AreAlong s hs xs
along_first s hs xs is n = record {
  sites = ap length is ∙ length-map-range_with_len (first_seen s) 0 s.sites ∙ sym n;
  each = λ i h x there at. cc ((Lists.at_number (first_seen s) s.sites i x (rw is at at)).1);
}

-- and nothing is taken
pub nothing_taken : (s : Settings) (hs : List (List Entry)) (xs : List SeenSite) (ms : List Message)
    → xs ≡ map (first_seen s) (range_with_len 0 s.sites) → length hs ≡ s.sites → ms ≡ [] → progress_of s hs [] xs ms ≡ first_progress s hs
nothing_taken s hs xs ms is n none = cc (none_recorded s 0 s.sites)

-- ---- a site's next entry

-- what holds if there is something
pub if_some : {A : Type 0} (L P : Type 0) (M : A → Type 0) (o : Option A) → MatchOption o L M → ((a : A) → M a → P) → IfSome o (λ a. P)
if_some L P M None m g = tt
if_some L P M (Some a) m g = g a m

-- if an entry is left, the site's history isn't full
pub room_left : (x : SeenSite) (h : List Entry) → IsAlong x h → IsReplay x.settings x.me h → length x.entries < length h
    → is_full x.settings (state_of x) ≡ false
room_left x h along r less =
    let front : IsReplay x.settings x.me x.entries = subst (IsReplay x.settings x.me) (sym along)
    (Replaying.replay-take x.settings x.me (length x.entries) h r) in
    Replaying.not_full x.settings (state_of x) (length x.entries) (Replaying.length_after x.settings x.me x.entries front)
    (omega (arith, r.room))

-- with its next entry the site is still along
pub next_along : (x : SeenSite) (h : List Entry) (y : Entry) → IsAlong x h → IsReplay x.settings x.me h
    → slice_get h (length x.entries) ≡ Some y → next_site x y.event ≡ seen_at x.settings x.me (take (length x.entries + 1) h)
next_along x h y along r at =
    let sp = Lists.split_at h (length x.entries) y at in
    ap (λ xs. next_site (seen_at x.settings x.me xs) y.event) along
    ∙ Recorded.step_on x.settings x.me (take (length x.entries) h) sp.rest y (rw sp.whole at r)
    ∙ ap (seen_at x.settings x.me) (sym sp.more)

-- ---- one entry more

-- a site that is along can take the next entry of its history
pub at_site : {s : Settings} {hs : List (List Entry)} {xs : List SeenSite} (i : ℕ) {h f : List Entry} {x : SeenSite}
    → AreAlong s hs xs → AreReplays s hs → slice_get hs i ≡ Some h → slice_get xs i ≡ Some x → f ≡ h
    → IsAlong x f × IsReplay x.settings x.me f
at_site {s} {hs} {xs} i {h} {f} {x} along replays there at same =
    let is : x ≡ seen_at s i (take (length x.entries) h) = along.each i h x there at in
    rw same (ap (λ z. z.entries) is, subst (λ (z : SeenSite). IsReplay z.settings z.me h) (sym is) (replays i h there))

longer : (x y : SeenSite) (h : List Entry) (before after : List Message) → TakesNext x y h before after
    → length y.entries ≡ length x.entries + 1
longer x y h before after t =
    ap recorded t.is ∙ length-take-le (length x.entries + 1) h (omega (arith, slice_get_within h (length x.entries) t.entry t.next))

-- what the site takes is taken
pub took : {s : Settings} {hs : List (List Entry)} {order : List ℕ} {xs : List SeenSite} {ms after : List Message}
    {i : ℕ} {h : List Entry} {x y : SeenSite} → AreAlong s hs xs → slice_get hs i ≡ Some h → slice_get xs i ≡ Some x
    → TakesNext x y h ms after
    → Took (progress_of s hs order xs ms) (progress_of s hs (order ++ i ∷ []) (slice_set xs i y) after) i
took {s} {hs} {order} {xs} {ms} {after} {i} {h} {x} {y} along there at t =
    let sent : after ≡ ms ++ sent_at s (state_of (seen_at s i (take (length x.entries) h))) t.entry.event =
    t.sends ∙ ap (λ (z : SeenSite). ms ++ sent_at z.settings (state_of z) t.entry.event) (along.each i h x there at) in
    record {
      taken = length x.entries;
      history = h;
      entry = t.entry;
      next = record { there = there; at = map_at recorded xs i x at; next = t.next };
      source = t.source;
      is = cc (sent, map-set recorded xs i y, longer x y h ms after t);
    }

-- and each site is along then
pub along_next : {s : Settings} {hs : List (List Entry)} {xs : List SeenSite} {ms after : List Message} (i : ℕ)
    {h : List Entry} {x y : SeenSite} → AreAlong s hs xs → slice_get hs i ≡ Some h → slice_get xs i ≡ Some x
    → TakesNext x y h ms after → AreAlong s hs (slice_set xs i y)
along_next {s} {hs} {xs} {ms} {after} i {h} {x} {y} along there at t = record {
  sites = length-set xs i y ∙ along.sites;
  each = λ j g z here found. Lists.each_set xs i x y (λ j z. (g : List Entry) → slice_get hs j ≡ Some g
      → z ≡ seen_at s j (take (length z.entries) g)) at
      (λ g here. cc (t.is, along.each i h x there at, longer x y h ms after t, there, here))
      (λ j z ne found g here. along.each j g z here found) j z found g here;
}

-- a site that takes nothing rests
pub rests : {s : Settings} {hs : List (List Entry)} {order : List ℕ} (xs : List SeenSite) {ms : List Message} {i : ℕ}
    {h : List Entry} {x : SeenSite} → slice_get hs i ≡ Some h → slice_get xs i ≡ Some x
    → IsHeldUp ms (drop (length x.entries) h) → Rests (progress_of s hs order xs ms) i
rests xs {i = i} {h = h} {x = x} there at held =
    record { taken = length x.entries; history = h; there = there; at = map_at recorded xs i x at; held = held }

-- ---- the end

-- if each site is at its end, all is taken
pub done : (s : Settings) (hs : List (List Entry)) (order : List ℕ) (xs : List SeenSite) (ms : List Message)
    → IsTaking (progress_of s hs order xs ms) → AreAtEnd hs xs → IsDone (progress_of s hs order xs ms)
done s hs order xs ms taking end i k h there at =
    let (x, found, is) = map_back recorded xs i k at in
    omega (arith, taking.within i k h there at, end i h x there found)

-- and else an entry is left
pub left : (s : Settings) (hs : List (List Entry)) (order : List ℕ) (xs : List SeenSite) (ms : List Message) → IsBeforeEnd hs xs
    → IsLeft (progress_of s hs order xs ms)
left s hs order xs ms b = record {
  site = b.site;
  taken = length b.seen.entries;
  history = b.history;
  there = b.there;
  at = map_at recorded xs b.site b.seen b.at;
  less = b.less;
}
