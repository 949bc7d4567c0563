-- Entries taken one after another, as a world could have recorded them.
use Rattle.std.proofs.Common.{◌≡◌, ℕ, ◌+◌, ◌≤◌, List, [], ◌∷◌, ◌++◌, length, take, drop, refl, ap, sym, subst, ◌∙◌, inl, inr, arith}
use Rattle.std.proofs.Common.{Some, Bool, true, false, MatchBool, zero-add}
use Rattle.std.specs.Prelude.{map, slice_get}
use Rattle.std.proofs.lemmas.List.{length-replicate, length-set, take-append-drop, take_all}
use Rattle.std.proofs.lemmas.Option.{slice_get_within}
use Rattle.rb_money.specs.Settings.{Settings}
use Rattle.rb_site.specs.declared.entry.Entry.{Entry}
use Rattle.rb_site.specs.declared.message.Message.{Message}
use Rattle.rb_site.specs.Events.{first_site, sent_at}
use Rattle.rb_site.specs.Histories.{IsAmong, IsBlocked, IsCut, IsUnsent, events_of, histories_of, sends_of, IsFrom}
use Rattle.rb_site.specs.Worlds.{first_world, world_at}
use Rattle.rb_site.proofs.Public.Stuck
use Rattle.rb_auditor.specs.Certificates.{Certifies}
use Rattle.rb_auditor.specs.Findings.{IsReplay, IsStuckAt}
use Rattle.rb_auditor.specs.Progress.{AllRest, IsDone, IsFurther, IsLeft, IsHeldUp, IsNextEntry, IsTaking}
use Rattle.rb_auditor.specs.Progress.{Rests, Progress, Took, first_progress, fronts_of, site_after, taken_next, world_of}
use Rattle.rb_auditor.proofs.Lists
use Rattle.rb_auditor.proofs.Lists.{IsMadeOf, IsSplit}
use Rattle.rb_auditor.proofs.Messages
use Rattle.rb_auditor.proofs.Replaying
use Rattle.rb_auditor.proofs.Replaying.{IsReplayedAt}
use Rattle.rb_auditor.proofs.Runs
use Rattle.rb_auditor.proofs.Runs.{Brings}

-- ---- the start

-- before any entry is taken the world is the first one, if there is a history for each site
pub first_is : (s : Settings) (hs : List (List Entry)) → length hs ≡ s.sites → world_of (first_progress s hs) ≡ first_world s
first_is s hs n = cc (Lists.first_sites s 0 hs)

-- before any entry is taken all is as a world could have it, if each site has a history and each replays
pub first_taken : (s : Settings) (hs : List (List Entry)) → length hs ≡ s.sites →
    ((i : ℕ) (h : List Entry) → slice_get hs i ≡ Some h → IsReplay s i h) → IsTaking (first_progress s hs)
first_taken s hs n replays = record {
  sites = n;
  counts = length-replicate (length hs) 0;
  replays = replays;
  within = λ i k h there place. omega (arith, Lists.get_zero (length hs) i k place);
  sent = λ i k h there place m among. absurd (rw (Lists.get_zero (length hs) i k place) at among);
  reached = record { events = []; own = tt; sites = refl; recorded = tt; gives = sym (first_is s hs n) };
}

-- the same of a progress that is said by its parts
pub first_as : {s : Settings} {hs : List (List Entry)} {order taken : List ℕ} {ms : List Message} → order ≡ [] → ms ≡ []
    → record { settings = s; histories = hs; order = []; taken = taken; messages = [] } ≡ first_progress s hs
    → IsTaking (first_progress s hs) → IsTaking (record { settings = s; histories = hs; order = order; taken = taken; messages = ms })
first_as e f g v = rw (e, f, g) v

-- ---- one entry more

-- the state of the site that takes its next entry
pub site_next : (p : Progress) (i k : ℕ) (h : List Entry) (x : Entry) → IsNextEntry p i k h x →
    slice_get (world_of p).sites i ≡ Some (site_after p.settings i (take k h))
site_next p i k h x n = cc (Lists.get_site p.settings 0 p.histories p.taken i k h n.there n.at, zero-add i)

-- the world goes on by the entry
pub world_next : (p : Progress) (i k : ℕ) (h : List Entry) (x : Entry) → IsTaking p → IsNextEntry p i k h x →
    world_of (taken_next p i k h x) ≡ world_at p.settings (world_of p) i (Some x.event) (Some (site_after p.settings i (take k h)))
world_next p i k h x g n = cc (
  Lists.set_site p.settings 0 p.histories p.taken i (k + 1) h n.there,
  zero-add i,
  (Replaying.replayed_at p.settings i h k x (g.replays i h n.there) n.next).more,
)

taken_after : (p : Progress) (i k : ℕ) (h : List Entry) (x : Entry) → IsTaking p → IsNextEntry p i k h x → IsFrom p.messages x.event →
    IsTaking (taken_next p i k h x)
taken_after p i k h x g n come = record {
  sites = g.sites;
  counts = length-set p.taken i (k + 1) ∙ g.counts;
  replays = g.replays;
  within = λ j l f there place. Lists.each_set p.taken i k (k + 1)
      (λ j l. (f : List Entry) → slice_get p.histories j ≡ Some f → l ≤ length f) n.at
      (λ f there. (let same : f ≡ h = cc (there, n.there) in omega (arith, ap length same, sp.within)))
      (λ j l ne place f there. g.within j l f there place) j l place f there;
  sent = λ j l f there place m among. Lists.each_set p.taken i k (k + 1) (λ j l. (f : List Entry) → slice_get p.histories j ≡ Some f
      → IsAmong m (sends_of s (first_site j) (events_of (take l f))) → IsAmong m (p.messages ++ sends)) n.at
      (λ f there. (let same : f ≡ h = cc (there, n.there) in rw same (here m)))
      (λ j l ne place f there among. Stuck.among-left m p.messages sends (g.sent j l f there place m among)) j l place f there among;
  reached = rw (world_next p i k h x g n)
      (Runs.reached_more s p.order (world_of p) i (site_after s i (take k h)) x.event g.reached brought);
}
  where
    s : Settings
    s = p.settings

    at : IsReplayedAt s i h k x
    at = Replaying.replayed_at s i h k x (g.replays i h n.there) n.next

    sp : IsSplit h k x
    sp = Lists.split_at h k x n.next

    brought : Brings s (world_of p) i (site_after s i (take k h)) x.event
    brought = Runs.brings s (world_of p) i (site_after s i (take k h)) x.event come (site_next p i k h x n) at.room

    sends : List Message
    sends = sent_at s (site_after s i (take k h)) x.event

    before : List Message
    before = sends_of s (first_site i) (events_of (take k h))

    here : (m : Message) → IsAmong m (sends_of s (first_site i) (events_of (take (k + 1) h))) → IsAmong m (p.messages ++ sends)
    here m among = elim (Stuck.among-cases m before sends
        (rw (Messages.sends_more s (first_site i) (take k h) x) at (rw sp.more at among))) [
          | inl c ↦ Stuck.among-left m p.messages sends (g.sent i k h n.there n.at m c)
          | inr c ↦ Stuck.among-right m p.messages sends c
        ]

-- after one entry more they still are
pub took_one : (p q : Progress) (i : ℕ) → IsTaking p → Took p q i → IsTaking q
took_one p q i g t = subst IsTaking (sym t.is) (taken_after p i t.taken t.history t.entry g t.next t.source)

-- ---- the end

-- the entries that were taken are certified
pub certified : (p : Progress) → IsTaking p → Certifies p.settings (fronts_of p.histories p.taken) p.order
certified p g = record {
  events = g.reached.events;
  own = g.reached.own;
  sites = g.reached.sites;
  recorded = g.reached.recorded;
  gives = ap (histories_of p.settings) g.reached.gives ∙ Replaying.histories_after p.settings 0 p.histories p.taken
      (λ i h at. rw (zero-add i) (g.replays i h at));
}

-- if all entries were taken, their order certifies the histories
pub all_certified : (p : Progress) → IsTaking p → IsDone p → Certifies p.settings p.histories p.order
all_certified p g done = rw (Lists.whole_fronts p.histories p.taken g.counts (λ i k h there place.
    take_all k h (omega (arith, done i k h there place)))) at (certified p g)

-- if an entry is left and every history rests, the audit is stuck at the entries after those taken
pub stuck : (p : Progress) → IsTaking p → ((i : ℕ) (h : List Entry) → slice_get p.histories i ≡ Some h → Rests p i) → IsLeft p →
    IsStuckAt p.settings p.histories (map (λ (k : ℕ). k + 1) p.taken)
stuck p g rests left = record {
  fronts = fronts_of p.histories p.taken;
  numbers = Lists.next_numbers p.histories p.taken g.counts g.within;
  order = p.order;
  certified = certified p g;
  replayed = g.replays;
  stuck = record {
    cut = cut;
    site = left.site;
    history = left.history;
    at = left.there;
    left = λ e. Lists.not_whole left.taken left.history left.less
        (cc (e, Lists.get_front p.histories p.taken left.site left.taken left.history left.there left.at));
  };
}
  where
    s : Settings
    s = p.settings

    unsent : (m : Message) → ¬ IsAmong m p.messages → IsUnsent s (fronts_of p.histories p.taken) m
    unsent m not j f at among =
        let o = Lists.from_front p.histories p.taken j f at in not (g.sent j o.taken o.history o.there o.at m (rw o.is at among))

    blocked : (xs : List Entry) → IsHeldUp p.messages xs → IsBlocked s (fronts_of p.histories p.taken) xs
    blocked [] h = tt
    blocked (x ∷ xs) (m, is, not) = (m, is, unsent m not)

    cut : (i : ℕ) (h : List Entry) → slice_get p.histories i ≡ Some h → IsCut s (fronts_of p.histories p.taken) i h
    cut i h at =
        let r = rests i h at in
        let same : r.history ≡ h = cc (r.there, at) in
        record {
          front = take r.taken h;
          there = Lists.get_front p.histories p.taken i r.taken h at r.at;
          rest = drop r.taken h;
          goes_on = sym (take-append-drop r.taken h);
          blocked = blocked (drop r.taken h) (rw same at r.held);
        }

-- ---- how far it is

-- with the next entry of a history taken, the progress is further
pub took_further : (p q : Progress) (i : ℕ) → Took p q i → IsFurther p q
took_further p q i t =
    let within = slice_get_within t.history t.taken t.entry t.next.next in
    let less = Lists.left_less p.histories p.taken i t.taken t.history t.next.there t.next.at within in
    record { settings = cc; histories = cc; less = rw t.is less }

-- what is further than q is further than p, if q is further than p or the same
pub further_more : (b : Bool) (p q r : Progress) → MatchBool b (IsFurther p q) (q ≡ p) → IsFurther q r → IsFurther p r
further_more true p q r f g = record { settings = cc; histories = cc; less = omega arith }
further_more false p q r e g = rw (← e) g

-- ---- what is said of the histories

-- histories and an order that are those of a progress are certified if its own are
pub certified_as : (p : Progress) {s : Settings} {hs : List (List Entry)} {order : List ℕ} → p.settings ≡ s
    → p.histories ≡ hs → order ≡ p.order → Certifies p.settings p.histories p.order → Certifies s hs order
certified_as p e f g c = rw (← e, ← f, g) c

-- histories that are those of a progress are stuck if an entry of it is left and none can be taken now
pub stuck_as : {p : Progress} {s : Settings} {hs : List (List Entry)} {next : List ℕ} → p.settings ≡ s
    → p.histories ≡ hs → next ≡ map (λ (k : ℕ). k + 1) p.taken → IsTaking p → AllRest p → IsLeft p → IsStuckAt s hs next
stuck_as {p} e f g v rests left =
    rw (← e, ← f, g) (stuck p v (λ i h at. rests i (slice_get_within p.histories i h at)) left)
