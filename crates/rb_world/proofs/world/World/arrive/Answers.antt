-- A site's step is the world's.
use Rattle.std.proofs.Common.{◌≡◌, ◌∙◌, ◌+◌, ◌<◌, ◌≤◌, All, [], ◌∷◌, ◌++◌, ap, arith, get_or, length, not, subst, sym, vec_capacity}
use Rattle.std.specs.Prelude.{Some, map, true, option_map, slice_get, slice_set}
use Rattle.std.proofs.lemmas.List.{length-set, map-append}
use Rattle.std.proofs.lemmas.Option.{get_or_from_slice_get, slice_get-map}
use Rattle.rb_scratch.specs.declared.request.TheConstants.{MOST_REQUESTS}
use Rattle.rb_site.specs.Events.{is_full, sent_at}
use Rattle.rb_site.proofs.Public.Outcomes.{sent_few}
use Rattle.rb_site.specs.Histories.{site_of}
use Rattle.rb_site.specs.Seen.{SeenSite, next_site, state_of}
use Rattle.rb_site.specs.Worlds.{arrival, is_recorded}
use Rattle.rb_world.specs.Laws.{IsRunOf, SeenWorld, next_reply, next_world}
use Rattle.rb_world.proofs.Stepping.{AreOf, IsTaken, arrives, full_step, next_run, on_error, settings_kept, shown_world, site_at}
use Rattle.rb_world.proofs.Stepping.{site_there, taken_step}
use Rattle.rb_world.proofs.SentPlaces.{all_there}
use Rattle.rb_world.proofs.world.World.arrive.Given.{Over}
use Rattle.rb_world.proofs.world.World.arrive.Goals.{After-as_slice, After-index, After-is_full, After-note_all, After-self}
use Rattle.rb_world.proofs.world.World.arrive.Goals.{Else-is_full}
use Rattle.rb_world.proofs.world.World.arrive.Goals as goal

-- ---- the site

-- there is a site of that number
there : (g : Over) (c : goal.After-self g) → site_of c.args.event.now < length c.self.inside.sites.items
there g c = site_there _ _ _ (ap (λ (w : SeenWorld). w.world.sites) c.self.view_is) c.requires.site

-- it is of the world's configuration
sited : (g : Over) (c : goal.After-index g) → (slice_get c.self.inside.sites.items (site_of c.args.event.now) ≡ Some c.index.result.now)
    × (c.index.result.now.settings ≡ c.self.inside.config)
sited g c =
    site_at c.self.inside.config c.self.inside.sites.items (site_of c.args.event.now) c.index.result.now
    (there g (goal.at.After-index g c).After-self) c.self.invariant.1
    (c.index.ensures ∙ ap (λ i. get_or c.self.inside.sites.items i c.index.result.now) c.site-number.ensures)

-- its state is the one that the world has at that number
state_there : (g : Over) (c : goal.After-index g) → slice_get c.args.self.now.world.sites (site_of c.args.event.now)
    ≡ Some (state_of c.index.result.now)
state_there g c =
    ap (λ (w : SeenWorld). slice_get w.world.sites (site_of c.args.event.now)) (sym c.self.view_is)
    ∙ slice_get-map state_of c.self.inside.sites.items (site_of c.args.event.now) ∙ ap (option_map state_of) (sited g c).0

-- whether its history is full
the_full : (g : Over) (c : goal.After-is_full g) → is_full c.args.self.now.settings (state_of c.index.result.now) ≡ c.is_full.result
the_full g c =
    ap (λ s. is_full s (state_of c.index.result.now))
    (ap (λ (w : SeenWorld). w.settings) (sym c.self.view_is) ∙ sym (sited g (goal.at.After-is_full g c).After-index).1)
    ∙ sym c.is_full.ensures

-- ---- at a full history nothing happens

pub returns-then-is_full-clause-ok : goal.returns-then-is_full-clause-ok
returns-then-is_full-clause-ok g c =
    let before = goal.at.returns-then-is_full-clause-ok g c in
    full_step c.args.self.now c.args.event.now c.args.arrived.now (state_of c.index.result.now) c.requires.arrived
    (state_there g before.After-index) (the_full g before.After-is_full ∙ c.if-is_full.true)

-- ---- at another the event is recorded, if there is memory

recorded : (g : Over) (c : goal.Else-is_full g) → is_recorded c.args.self.now.settings c.args.self.now.world c.args.event.now ≡ true
recorded g c =
    let before = goal.at.Else-is_full g c in
    (arrives c.args.self.now.settings c.args.self.now.world c.args.event.now c.args.arrived.now (state_of c.index.result.now)
    c.requires.arrived (state_there g before.After-index)).recorded
    ∙ ap not (the_full g before.After-is_full ∙ c.if-is_full.false)

pub returns-in_err-reserve_one-clause-recordable : goal.returns-in_err-reserve_one-clause-recordable
returns-in_err-reserve_one-clause-recordable g c =
    on_error c.from_residual.result _ (recorded g (goal.at.returns-in_err-reserve_one-clause-recordable g c).Else-is_full)

pub returns-in_err-reserve-clause-recordable : goal.returns-in_err-reserve-clause-recordable
returns-in_err-reserve-clause-recordable g c =
    on_error c.from_residual-in_err-reserve.result _ (recorded g (goal.at.returns-in_err-reserve-clause-recordable g c).Else-is_full)

pub returns-in_err-noted-clause-recordable : goal.returns-in_err-noted-clause-recordable
returns-in_err-noted-clause-recordable g c =
    on_error c.from_residual-in_err-noted.result _ (recorded g (goal.at.returns-in_err-noted-clause-recordable g c).Else-is_full)

pub returns-in_err-answer-clause-recordable : goal.returns-in_err-answer-clause-recordable
returns-in_err-answer-clause-recordable g c =
    on_error c.from_residual-in_err-answer.result _ (recorded g (goal.at.returns-in_err-answer-clause-recordable g c).Else-is_full)

-- ---- the step

abbrev the_world : (g : Over) → goal.After-note_all g → SeenWorld
the_world g c = shown_world c.self.inside.config c.self.inside.sites.items (map g.M.KeepsMessage.noted c.self.inside.messages.items)
    (map g.R.KeepsEvent.noted c.self.inside.events.items)

-- the site takes what arrives
taken : (g : Over) (c : goal.After-note_all g) → IsTaken c.self.inside.config c.self.inside.sites.items
    (map g.M.KeepsMessage.noted c.self.inside.messages.items)
    c.args.event.now c.args.arrived.now c.index_mut.result.now
taken g c =
    let before = goal.at.After-note_all g c in
    let here = sited g before.After-index in
    let x : SeenSite = c.index_mut.result.now in
    let read : x ≡ get_or c.self.inside.sites.items (site_of c.args.event.now) x =
    c.index_mut.ensures.value ∙ ap (λ i. get_or c.self.inside.sites.items i x) c.site-number.ensures in
    let same : x ≡ c.index.result.now = read ∙ get_or_from_slice_get c.self.inside.sites.items (site_of c.args.event.now)
    c.index.result.now x here.0 in
    record {
      arrived = let P : SeenWorld → Type 0 = λ w. arrival w.world.messages c.args.event.now ≡ Some c.args.arrived.now in
          subst P (sym c.self.view_is) c.requires.arrived;
      at = here.0 ∙ ap Some (sym same);
      settings = ap (λ (y : SeenSite). y.settings) same ∙ here.1;
      room = ap (λ (y : SeenSite). is_full c.self.inside.config (state_of y)) same
          ∙ ap (λ s. is_full s (state_of c.index.result.now)) (sym here.1) ∙ sym c.is_full.ensures ∙ c.if-is_full.false;
    }

-- what it sends
the_sent : (g : Over) (c : goal.After-as_slice g) → c.as_slice.result.now
    ≡ sent_at c.index_mut.result.now.settings (state_of c.index_mut.result.now) c.args.arrived.now
the_sent g c = c.as_slice.ensures.value ∙ (c.in_ok-answer.ensures.ok).2
    ∙ ap (λ ms. ms ++ sent_at c.index_mut.result.now.settings (state_of c.index_mut.result.now) c.args.arrived.now) c.clear.ensures.items

few_sent : (g : Over) (c : goal.After-as_slice g) → length c.as_slice.result.now ≤ MOST_REQUESTS
few_sent g c = subst (λ ms. length ms ≤ MOST_REQUESTS) (sym (the_sent g c))
    (sent_few c.index_mut.result.now.settings (state_of c.index_mut.result.now) c.args.arrived.now)

pub note_all-requires-clause-room : goal.note_all-requires-clause-room
note_all-requires-clause-room g c = omega (
  arith,
  few_sent g (goal.at.note_all-requires-clause-room g c).After-as_slice,
  c.in_ok-reserve.ensures.ok,
)

pub note_all-requires-clause-few : goal.note_all-requires-clause-few
note_all-requires-clause-few g c = omega (
  arith,
  few_sent g (goal.at.note_all-requires-clause-few g c).After-as_slice,
  c.len-first.ensures.few,
)

-- its messages are noted after those of before
sent_too : (g : Over) (c : goal.After-note_all g) → map g.M.KeepsMessage.noted c.note_all.new.messages.items
    ≡ map g.M.KeepsMessage.noted c.self.inside.messages.items
    ++ sent_at c.index_mut.result.now.settings (state_of c.index_mut.result.now) c.args.arrived.now
sent_too g c = c.note_all.ensures.noted ∙ ap (λ ms. map g.M.KeepsMessage.noted ms ++ c.as_slice.result.now) c.in_ok-reserve.ensures.items
    ∙ ap (λ ms. map g.M.KeepsMessage.noted c.self.inside.messages.items ++ ms) (the_sent g (goal.at.After-note_all g c).After-as_slice)

the_step : (g : Over) (c : goal.After-note_all g) → shown_world c.self.inside.config
    (slice_set c.self.inside.sites.items c.site-number.result c.answer.new.self)
    (map g.M.KeepsMessage.noted c.note_all.new.messages.items) (map g.R.KeepsEvent.noted c.push_reserved.new.self.items)
    ≡ next_world (the_world g c) c.args.event.now
the_step g c =
    let xs = c.self.inside.sites.items in
    let es = map g.R.KeepsEvent.noted c.push_reserved.new.self.items in
    let x : SeenSite = c.index_mut.result.now in
    let ms = map g.M.KeepsMessage.noted c.note_all.new.messages.items in
    ap (λ i. shown_world c.self.inside.config (slice_set xs i c.answer.new.self) ms es) c.site-number.ensures
    ∙ ap (λ y. shown_world c.self.inside.config (slice_set xs (site_of c.args.event.now) y) ms es)
    (c.in_ok-answer.ensures.ok).0
    ∙ ap (λ ms. shown_world c.self.inside.config (slice_set xs (site_of c.args.event.now) (next_site x c.args.arrived.now)) ms es)
    (sent_too g c)
    ∙ ap (shown_world c.self.inside.config (slice_set xs (site_of c.args.event.now) (next_site x c.args.arrived.now)) _)
    (ap (map g.R.KeepsEvent.noted) c.push_reserved.ensures.items
    ∙ map-append g.R.KeepsEvent.noted c.reserve_one.new.list.items _
    ∙ ap (λ fs. map g.R.KeepsEvent.noted fs ++ g.R.KeepsEvent.noted c.in_ok-noted.noted ∷ []) c.in_ok-reserve_one.ensures.items
    ∙ ap (λ e. map g.R.KeepsEvent.noted c.self.inside.events.items ++ e ∷ []) c.in_ok-noted.ensures)
    ∙ (taken_step _ _ _ (map g.R.KeepsEvent.noted c.self.inside.events.items) c.args.event.now c.args.arrived.now x (taken g c)).1

-- and each can be had at the sites as they are now
there_still : (g : Over) (c : goal.After-note_all g) → All (g.M.KeepsMessage.IsThere
    (map state_of (slice_set c.self.inside.sites.items c.site-number.result c.answer.new.self))) c.note_all.new.messages.items
there_still g c =
    let before = goal.at.After-note_all g c in
    let xs = c.self.inside.sites.items in
    let x : SeenSite = c.index_mut.result.now in
    let y : SeenSite = c.index-2.result.now in
    let at : slice_get xs c.site-number.result ≡ Some x = ap (slice_get xs) c.site-number.ensures ∙ (taken g c).at in
    let read : y ≡ x = c.index-2.ensures ∙ get_or_from_slice_get xs c.site-number.result x y at in
    all_there g.M.KeepsMessage.IsThere g.met.M.KeepsMessage.stays xs c.site-number.result x c.args.arrived.now c.answer.new.self at
    (c.in_ok-answer.ensures.ok).0 (c.len-first.result + 1)
    (ap (λ n. n + 1) (c.len-first.ensures.same ∙ ap length (c.ledger.ensures.entries ∙ ap (λ z. (state_of z).ops) read)))
    c.as_slice.result.now (the_sent g before.After-as_slice) c.reserve.new.self.items c.note_all.new.messages.items
    (subst (All (g.M.KeepsMessage.IsThere (map state_of xs))) (sym c.in_ok-reserve.ensures.items) c.self.invariant.2)
    c.note_all.ensures.there

pub invariant_of-self-2 : goal.invariant_of-self-2
invariant_of-self-2 g c = (
  subst IsRunOf (sym (the_step g c)) (next_run (the_world g c) c.args.event.now c.self.invariant.0 c.requires.command),
  (let P : SeenSite → Type 0 = λ x. AreOf c.self.inside.config (slice_set c.self.inside.sites.items c.site-number.result x) in
      subst P (sym (c.in_ok-answer.ensures.ok).0) (settings_kept c.self.inside.config c.self.inside.sites.items c.site-number.result
      c.index_mut.result.now c.args.arrived.now (taken g c).settings c.self.invariant.1)),
  there_still g c,
  c.self.invariant.3,
  (let room : length c.self.inside.sites.items ≤ vec_capacity c.self.inside.reports = c.self.invariant.4 in
      let same : length (slice_set c.self.inside.sites.items c.site-number.result c.answer.new.self) ≡ length c.self.inside.sites.items =
      length-set c.self.inside.sites.items c.site-number.result c.answer.new.self in
      omega arith),
)

pub returns-clause-ok : goal.returns-clause-ok
returns-clause-ok g c = (
  (c.in_ok-answer.ensures.ok).1 ∙ (taken_step _ _ _ (map g.R.KeepsEvent.noted c.self.inside.events.items)
      c.args.event.now c.args.arrived.now c.index_mut.result.now (taken g c)).0
      ∙ ap (λ w. next_reply w c.args.event.now) c.self.view_is,
  the_step g c ∙ ap (λ w. next_world w c.args.event.now) c.self.view_is,
)
