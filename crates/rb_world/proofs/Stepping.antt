-- The code's step is the model's.
use Rattle.std.proofs.Common.{◌≡◌, ℕ, ◌+◌, ◌<◌, All, length, take, get_or, Bool, true, false, cond, not, ◌&&◌, List, [], ◌∷◌, ◌++◌, refl}
use Rattle.std.proofs.Common.{OnErr, ap, arith, sym, ◌∙◌}
use Rattle.std.proofs.Common.{Option, Some, None, Result, Ok, Err}
use Rattle.std.specs.declared.alloc.AllocError.{AllocError}
use Rattle.std.specs.Prelude.{map, option_map, slice_get, slice_set}
use Rattle.std.proofs.lemmas.List.Elements.{All-cons, All-nil, All-set}
use Rattle.std.proofs.lemmas.List.{length-map, map-set, take_more}
use Rattle.std.proofs.lemmas.Option.{slice_get-map, slice_get_read}
use Rattle.rb_money.specs.Settings.{Settings}
use Rattle.rb_money.specs.declared.refusal.Refusal.TheVariants.{HistoryFull}
use Rattle.rb_site.specs.declared.event.Event.{Event}
use Rattle.rb_site.specs.declared.event.Event.TheVariants.{Receive}
use Rattle.rb_site.specs.declared.message.Message.{Message}
use Rattle.rb_site.specs.declared.reply.Reply.{Reply}
use Rattle.rb_site.specs.declared.reply.Reply.TheVariants.{Refused}
use Rattle.rb_site.specs.declared.world_event.WorldEvent.{WorldEvent}
use Rattle.rb_site.specs.declared.world_event.WorldEvent.TheVariants.{At, Deliver}
use Rattle.rb_site.specs.Events.{ModelSite, after_event, is_full, outcome_of, reply_of, reply_to, sent_at}
use Rattle.rb_site.specs.Histories.{site_of}
use Rattle.rb_site.specs.Seen.{SeenSite, next_site, state_of}
use Rattle.rb_site.specs.Worlds.{AreOwn, IsCommand, World, arrival, first_world, is_recorded, message_at}
use Rattle.rb_site.specs.Worlds.{reply_in, world_after, world_at}
use Rattle.rb_site.proofs.Public.Runs
use Rattle.rb_site.proofs.Public.Seen
use Rattle.rb_world.specs.Laws.{IsRunOf, SeenWorld, next_replies, next_reply, next_world, next_worlds}

-- ---- an event and the site that it is for

-- the world's step is that of the site at which something arrives
pub record Arrives (s : Settings) (w : World) (ev : WorldEvent) (e : Event) (t : ModelSite) : Type 0 where
  pub world : world_after s w ev ≡ world_at s w (site_of ev) (Some e) (Some t)
  pub reply : reply_in s w ev ≡ reply_to s t e
  pub recorded : is_recorded s w ev ≡ not (is_full s t)

and_true : (b : Bool) → (not b && true) ≡ not b
and_true true = refl
and_true false = refl

-- if an event arrives at a site that is there, the world's step is that of the site
pub arrives : (s : Settings) (w : World) (ev : WorldEvent) (e : Event) (t : ModelSite) → arrival w.messages ev ≡ Some e →
    slice_get w.sites (site_of ev) ≡ Some t → Arrives s w ev e t
arrives s w (At i d) e t arrived at =
    let same : d ≡ e = cc in record { world = cc (same, at); reply = cc (same, at); recorded = cc }
arrives s w (Deliver i k) e t arrived at = by (message_at w.messages k) refl arrived
  where
    by : (o : Option Message) → message_at w.messages k ≡ o → option_map Receive o ≡ Some e → Arrives s w (Deliver i k) e t
    by None q h = cc
    by (Some m) q h =
        let same : Receive m ≡ e = cc in
        record { world = cc (q, at, same); reply = cc (q, at, same); recorded = cc (q, at, and_true (is_full s t)) }

-- ---- a step that no site records

-- a world by its parts
abbrev pub world_as : Settings → World → List WorldEvent → SeenWorld
world_as s w es = record { settings = s; world = w; events = es }

-- an event that no site records leaves the world as it is
pub still : (w : SeenWorld) (ev : WorldEvent) → is_recorded w.settings w.world ev ≡ false → w ≡ next_world w ev
still w ev h =
    sym (ap (λ b. world_as w.settings (world_after w.settings w.world ev) (cond b (w.events ++ ev ∷ []) w.events)) h
    ∙ ap (λ v. world_as w.settings v w.events) (Runs.unrecorded w.settings w.world ev h))

-- at a site whose history is full nothing happens
pub full_step : (w : SeenWorld) (ev : WorldEvent) (e : Event) (t : ModelSite) → arrival w.world.messages ev ≡ Some e →
    slice_get w.world.sites (site_of ev) ≡ Some t → is_full w.settings t ≡ true →
    (Refused HistoryFull ≡ next_reply w ev) × (w ≡ next_world w ev)
full_step w ev e t arrived at full =
    let here = arrives w.settings w.world ev e t arrived at in (
      sym (here.reply ∙ ap (λ b. cond b (Refused HistoryFull) (reply_of w.settings t.ops (outcome_of w.settings t e))) full),
      still w ev (here.recorded ∙ ap not full),
    )

-- what holds, holds at an error
pub on_error : {A : Type 0} (r : Result A AllocError) (P : Type 0) → P → OnErr r P
on_error (Ok a) P p = tt
on_error (Err why) P p = p

-- ---- a step that a site records

-- what is known if a site takes an event: its place, the event that arrives there, and that its history isn't full
pub record IsTaken (config : Settings) (xs : List SeenSite) (messages : List Message) (ev : WorldEvent) (e : Event) (x : SeenSite) : Type 0
  where
    pub arrived : arrival messages ev ≡ Some e
    pub at : slice_get xs (site_of ev) ≡ Some x
    pub settings : x.settings ≡ config
    pub room : is_full config (state_of x) ≡ false

-- a world of these sites and messages
abbrev pub sites_and : List ModelSite → List Message → World
sites_and ts ms = record { sites = ts; messages = ms }

-- a world by what its sites show
abbrev pub shown_world : Settings → List SeenSite → List Message → List WorldEvent → SeenWorld
shown_world s xs ms es = world_as s (sites_and (map state_of xs) ms) es

-- if a site takes an event, its reply is the world's, and its step, with the messages that it sends and the event in
-- the list, is the world's step
pub taken_step : (s : Settings) (xs : List SeenSite) (ms : List Message) (es : List WorldEvent) (ev : WorldEvent) (e : Event) (x : SeenSite)
    → IsTaken s xs ms ev e x
    → (reply_to x.settings (state_of x) e ≡ next_reply (shown_world s xs ms es) ev)
    × (shown_world s (slice_set xs (site_of ev) (next_site x e)) (ms ++ sent_at x.settings (state_of x) e) (es ++ ev ∷ [])
    ≡ next_world (shown_world s xs ms es) ev)
taken_step s xs ms es ev e x taken = (
  ap (λ z. reply_to z (state_of x) e) taken.settings ∙ sym here.reply,
  ap (λ ts. world_as s (sites_and ts (ms ++ sent_at x.settings (state_of x) e)) (es ++ ev
      ∷ [])) (map-set state_of xs (site_of ev) (next_site x e))
      ∙ ap (λ u. world_as s (sites_and (slice_set (map state_of xs) (site_of ev) u) (ms ++ sent_at x.settings (state_of x) e)) (es ++ ev
      ∷ [])) (Seen.state-next x e)
      ∙ ap (λ z. world_as s (sites_and (slice_set (map state_of xs) (site_of ev) (after_event z (state_of x) e)) (ms
      ++ sent_at z (state_of x) e)) (es ++ ev ∷ [])) taken.settings
      ∙ ap (λ v. world_as s v (es ++ ev ∷ [])) (sym here.world)
      ∙ ap (λ b. world_as s (world_after s w ev) (cond b (es ++ ev ∷ []) es)) (sym (here.recorded ∙ ap not taken.room)),
)
  where
    w : World
    w = sites_and (map state_of xs) ms

    here : Arrives s w ev e (state_of x)
    here = arrives s w ev e (state_of x) taken.arrived (slice_get-map state_of xs (site_of ev) ∙ ap (option_map state_of) taken.at)

-- ---- the world stays the run of its events

-- in a list with one command more messages come by deliveries alone still
pub own-push : (es : List WorldEvent) (ev : WorldEvent) → AreOwn es → IsCommand ev → AreOwn (es ++ ev ∷ [])
own-push [] (At i e) own h = (h, tt)
own-push [] (Deliver i k) own h = tt
own-push (At j d ∷ es) ev own h = (own.0, own-push es ev own.1 h)
own-push (Deliver j d ∷ es) ev own h = own-push es ev own h

-- after one command more the world is the run of its events still
pub next_run : (w : SeenWorld) (ev : WorldEvent) → IsRunOf w → IsCommand ev → IsRunOf (next_world w ev)
next_run w ev run command = by (is_recorded w.settings w.world ev) refl
  where
    by : (b : Bool) → is_recorded w.settings w.world ev ≡ b → IsRunOf (world_as w.settings (world_after w.settings w.world ev)
        (cond b (w.events ++ ev ∷ []) w.events))
    by true q = record {
      some_sites = run.some_sites;
      few_sites = run.few_sites;
      own = own-push w.events ev run.own command;
      is = ap (λ v. world_after w.settings v ev) run.is ∙ sym (Runs.world-append w.settings w.events (ev ∷ []) (first_world w.settings));
    }
    by false q = record {
      some_sites = run.some_sites;
      few_sites = run.few_sites;
      own = run.own;
      is = Runs.unrecorded w.settings w.world ev q ∙ run.is;
    }

-- every site keeps the configuration
abbrev pub AreOf : Settings → List SeenSite → Type 0
AreOf s xs = All (λ (y : SeenSite). y.settings ≡ s) xs

-- a single site that has the configuration
pub one_of : (s : Settings) (x : SeenSite) → x.settings ≡ s → AreOf s (x ∷ [])
one_of s x h = All-cons (λ (y : SeenSite). y.settings ≡ s) x [] h (All-nil _)

-- if a site of the configuration takes one event more and is set among such sites, all have the configuration
pub settings_kept : (s : Settings) (xs : List SeenSite) (i : ℕ) (x : SeenSite) (e : Event) → x.settings ≡ s → AreOf s xs →
    AreOf s (slice_set xs i (next_site x e))
settings_kept s xs i x e here all = All-set (λ (y : SeenSite). y.settings ≡ s) xs i (next_site x e) (Seen.settings-next x e ∙ here) all

-- there are as many sites as their states
pub site_there : (xs : List SeenSite) (ts : List ModelSite) (i : ℕ) → map state_of xs ≡ ts → i < length ts → i < length xs
site_there xs ts i same below = omega (arith, ap length same, length-map xs state_of)

-- the site at a place
pub site_at : (s : Settings) (xs : List SeenSite) (i : ℕ) (x : SeenSite) → i < length xs → AreOf s xs → x ≡ get_or xs i x
    → (slice_get xs i ≡ Some x) × (x.settings ≡ s)
site_at s xs i x below all same = (
  slice_get_read xs (length xs) i x refl below same,
  ap (λ (y : SeenSite). y.settings) same ∙ all i x below,
)

-- ---- a run so far

-- the world and the replies after the first k events
pub record IsRunSoFar (start : SeenWorld) (events : List WorldEvent) (k : ℕ) (now : SeenWorld) (answers : List Reply) : Type 0 where
  pub world : now ≡ next_worlds start (take k events)
  pub replies : answers ≡ next_replies start (take k events)

worlds-push : (w : SeenWorld) (es : List WorldEvent) (e : WorldEvent) → next_worlds w (es ++ e ∷ []) ≡ next_world (next_worlds w es) e
worlds-push w [] e = refl
worlds-push w (d ∷ es) e = worlds-push (next_world w d) es e

replies-push : (w : SeenWorld) (es : List WorldEvent) (e : WorldEvent) →
    next_replies w (es ++ e ∷ []) ≡ next_replies w es ++ next_reply (next_worlds w es) e ∷ []
replies-push w [] e = refl
replies-push w (d ∷ es) e = ap (λ rs. next_reply w d ∷ rs) (replies-push (next_world w d) es e)

-- the run so far, with the next event, the world after it and its reply
pub run_more : (start : SeenWorld) (events : List WorldEvent) (k : ℕ) (d : WorldEvent) (now later : SeenWorld) (replies : List Reply)
    (reply : Reply) → k < length events → IsRunSoFar start events k now replies
    → later ≡ next_world now (get_or events k d) → reply ≡ next_reply now (get_or events k d) →
    IsRunSoFar start events (k + 1) later (replies ++ reply ∷ [])
run_more start events k d now later replies reply there far stepped answered =
    let more : take (k + 1) events ≡ take k events ++ get_or events k d ∷ [] = take_more events k d there in
    record {
      world = stepped ∙ ap (λ w. next_world w (get_or events k d)) far.world ∙ sym (worlds-push start (take k events) (get_or events k d))
          ∙ ap (next_worlds start) (sym more);
      replies =
          ap (λ rs. rs ++ reply ∷ []) far.replies
          ∙ ap (λ r. next_replies start (take k events) ++ r ∷ []) (answered ∙ ap (λ w. next_reply w (get_or events k d)) far.world)
          ∙ sym (replies-push start (take k events) (get_or events k d))
          ∙ ap (next_replies start) (sym more);
    }
